-- The clause `put` of `put_numbers`: the numbers of some columns before those of others.
use Rattle.std.proofs.Common.{◌≡◌, ◌∙◌, ℕ, Bool, List, [], ◌∷◌, ◌++◌, ap, decimal, drop}
use Rattle.std.proofs.Common.{◌≤◌, length, arith}
use Rattle.std.specs.Int.{from_bool}
use Rattle.std.proofs.Math.ListN.{drop_of_length-le}
use Rattle.bufr_sections.specs.declared.message.Head.{Head}
use Rattle.bufr_ls_engine.specs.RowSteps.{texts_before}
use Rattle.bufr_ls_engine.proofs.whole_row.put_numbers.Goals as goal

abbrev origin : Head → List (List ℕ)
origin h =
    decimal h.centre ∷ decimal h.sub_centre ∷ decimal h.update ∷ decimal h.category
    ∷ decimal h.international ∷ decimal h.local_category ∷ []

abbrev tables : Head → List (List ℕ)
tables h = decimal 0 ∷ decimal h.master_version ∷ decimal h.local_version ∷ []

abbrev time : Head → List (List ℕ)
time h =
    decimal h.year ∷ decimal h.month ∷ decimal h.day ∷ decimal h.hour ∷ decimal h.minute
    ∷ decimal h.second ∷ []

abbrev contents : ℕ → Bool → Bool → List (List ℕ)
contents count observed compressed =
    decimal count ∷ decimal (from_bool observed) ∷ decimal (from_bool compressed) ∷ []

pub returns-clause-put : goal.returns-clause-put
returns-clause-put c =
    let e = c.args.said.now in
    let within : length c.args.row.now ≤ 104 = omega (arith, c.requires.room) in
    let none : drop 104 c.args.row.now ≡ [] = drop_of_length-le c.args.row.now within in
    c.put_octet.ensures.put
    ∙ ap (λ n. decimal n ++ 44 ∷ drop c.put_origin-end.result c.put_origin-end.new.row)
    c.edition_of.ensures
    ∙ ap (texts_before (decimal _ ∷ []))
    (c.put_origin-end.ensures.put
    ∙ ap (texts_before (origin e.head))
    (c.put_tables-end.ensures.put
    ∙ ap (texts_before (tables e.head))
    (c.put_time-end.ensures.put
    ∙ ap (texts_before (time e.head))
    (c.put_contents-end.ensures.put
    ∙ ap (texts_before (contents e.count e.observed e.compressed)) none))))
