-- The clause `ok` of `push_octet_line`: the four octets of the table, without those that fill them up.
use Rattle.std.proofs.Common.{◌≡◌, ◌∙◌, ◌*◌, ◌+◌, ◌-◌, [], ◌∷◌, ◌++◌, decimal, drop, take, sym, ap, append_assoc}
use Rattle.std.proofs.Common.{arith}
use Rattle.bufr_ls_engine.specs.declared.texts.TheConstants.{LINES}
use Rattle.bufr_ls_engine.proofs.FieldTexts.{length_at, line_added, line_at, texts_at}
use Rattle.bufr_ls_engine.proofs.numbers.push_octet_line.Goals as goal

pub returns-clause-ok : goal.returns-clause-ok
returns-clause-ok c =
    let at = texts_at c.args.number c.ranges.number.fits in
    let four : 4 * c.from-at.result + 4 - 4 * c.from-at.result ≡ 4 = omega arith in
    let part = ap (λ n. take n (drop (4 * c.from-at.result) LINES)) four ∙ ap line_at c.from-at.ensures in
    let long = c.from-2.ensures ∙ ap length_at c.from.ensures in
    line_added c.args.text.now.items c.extend_from_slice.new.self.items c.truncate.new.self.items
    (line_at c.args.number) (decimal c.args.number ++ 10 ∷ []) c.len-held.result c.from-2.result
    (omega (arith, c.len-held.ensures))
    (c.in_ok-extend_from_slice.ensures.items ∙ ap (λ t. c.args.text.now.items ++ t) part)
    c.truncate.ensures.items
    (ap (λ n. take n (line_at c.args.number)) long ∙ at.1)
    ∙ sym (append_assoc c.args.text.now.items (decimal c.args.number) (10 ∷ []))
