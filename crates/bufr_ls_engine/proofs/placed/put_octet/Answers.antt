use Rattle.bufr_ls_engine.proofs.placed.put_octet.Goals as goal
use Rattle.bufr_ls_engine.proofs.FieldTexts.{field_at, length_at, put_text, texts_at}
use Rattle.bufr_ls_engine.specs.declared.texts.TheConstants.{FIELDS}
use Rattle.std.proofs.Common.{◌≡◌, ◌*◌, ◌+◌, ◌-◌, arith, append_assoc, decimal, drop, take, [], ◌∷◌, ◌++◌, ◌∙◌, ap}

pub overflow_sub-result : goal.overflow_sub-result
overflow_sub-result c =
    let at = texts_at c.args.number c.ranges.number.fits in
    omega (arith, at.2, c.requires.room, c.from-2.ensures ∙ ap length_at c.from.ensures)

pub returns-clause-near : goal.returns-clause-near
returns-clause-near c =
    let at = texts_at c.args.number c.ranges.number.fits in
    omega (arith, at.2, c.requires.room, c.from-2.ensures ∙ ap length_at c.from.ensures)

pub returns-clause-put : goal.returns-clause-put
returns-clause-put c =
    let at = texts_at c.args.number c.ranges.number.fits in
    let is : c.from-2.result ≡ length_at c.args.number = c.from-2.ensures ∙ ap length_at c.from.ensures in
    let four : 4 * c.from-at.result + 4 - 4 * c.from-at.result ≡ 4 = omega arith in
    let part : c.copy_from_slice.new.self ≡ field_at c.args.number =
    c.copy_from_slice.ensures.after
    ∙ ap (λ n. take n (drop (4 * c.from-at.result) FIELDS)) four ∙ ap field_at c.from-at.ensures in
    put_text c.args.row.now c.copy_from_slice.new.self (decimal c.args.number ++ 44 ∷ []) c.args.end
    c.from-2.result c.requires.room c.requires.within
    (omega (arith, c.copy_from_slice.ensures.len)) (omega (arith, is, at.2))
    (ap (λ n. drop (4 - n) c.copy_from_slice.new.self) is
    ∙ ap (λ t. drop (4 - length_at c.args.number) t) part ∙ at.0)
    ∙ append_assoc (decimal c.args.number) (44 ∷ []) (drop c.args.end c.args.row.now)
