-- The clause of `push_fields`: the numbers, the descriptors and no refusal.
use Rattle.std.proofs.Common.{◌≡◌, ◌∙◌, ℕ, List, [], ◌∷◌, ◌++◌, ap, append_assoc}
use Rattle.std.specs.List.{join_by}
use Rattle.bufr_tables.specs.Descriptors.{six_digits}
use Rattle.bufr_ls_engine.specs.RowSteps.{numbers_from, texts_before}
use Rattle.bufr_ls_engine.specs.Rows.{edition_of}
use Rattle.bufr_ls_engine.proofs.LineFacts.{rest_of_row, texts_and_more}
use Rattle.bufr_ls_engine.proofs.whole_row.push_fields.Goals as goal

-- a text that grew by the numbers, by the descriptors and by the end of the line
grown_whole : (old mid listed_in text numbers listed end : List ℕ) → mid ≡ old ++ numbers
    → listed_in ≡ mid ++ listed → text ≡ listed_in ++ end
    → text ≡ old ++ (numbers ++ (listed ++ end))
grown_whole old mid listed_in text numbers listed end first second third =
    third ∙ ap (λ (t : List ℕ). t ++ end) second ∙ append_assoc mid listed end
    ∙ ap (λ (t : List ℕ). t ++ (listed ++ end)) first ∙ append_assoc old numbers (listed ++ end)

pub returns : goal.returns
returns c =
    let e = c.args.said.now in
    let numbers = numbers_from (edition_of c.args.octets.now) e.head e.count e.observed e.compressed in
    let listed = join_by six_digits (32 ∷ []) e.descriptors in
    let put = c.put_numbers-first.ensures in
    grown_whole c.args.text.now.items c.extend_from_slice.new.self.items
    c.push_listed.new.text.items c.extend_from_slice-2.new.self.items (texts_before numbers []) listed
    (44 ∷ 10 ∷ [])
    (c.in_ok-extend_from_slice.ensures.items
    ∙ ap (λ (t : List ℕ). c.args.text.now.items ++ t)
    (rest_of_row 104 c.put_numbers-first.new.row (texts_before numbers []) c.put_numbers-first.result
    put.long put.put))
    c.in_ok-push_listed.ensures.ok c.in_ok-extend_from_slice-2.ensures.items
    ∙ ap (λ (t : List ℕ). c.args.text.now.items ++ t)
    (texts_and_more numbers [] (listed ++ 44 ∷ 10 ∷ []))
