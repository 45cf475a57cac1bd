use Rattle.std.proofs.Common.{◌≡◌, ◌∙◌, ℕ, List, [], ◌∷◌, ◌++◌, ◌<◌, ◌≤◌, length, map, refl, ap, sym}
use Rattle.std.proofs.Common.{subst}
use Rattle.std.proofs.lemmas.List.{length-map, map-append, take_all, take_more}
use Rattle.csv.specs.Records.{fields_of}
use Rattle.csv.specs.Reading.{strip_bom}
use Rattle.bufr_tables.specs.Fields.{without_spaces, used_fields}
use Rattle.bufr_tables.proofs.fields.used_fields.Goals as goal

used_of_each : (fs : List (List ℕ)) → length (used_fields fs) ≡ length fs
used_of_each [] = refl
used_of_each (f ∷ fs) = length-map (strip_bom f ∷ fs) without_spaces

pub loop-i-preserved : goal.loop-i-preserved
loop-i-preserved c =
    let fs = fields_of c.args.row.now in
    let short = subst (λ n. c.loop-i.i < n) (c.len-i-end.ensures ∙ sym (used_of_each fs))
    c.loop-i-test.true in
    ap (map (λ s. s.now)) c.in_ok-push.ensures.items
    ∙ map-append (λ s. s.now) c.loop-i.fields.items (c.used_field.result ∷ [])
    ∙ (λ i. c.loop-i.invariant i ++ c.used_field.ensures i ∷ [])
    ∙ sym (take_more (used_fields fs) c.loop-i.i [] short)

pub returns : goal.returns
returns c =
    let fs = fields_of c.args.row.now in
    c.loop-i.invariant ∙ take_all c.loop-i.i (used_fields fs)
    (subst (λ n. n ≤ c.loop-i.i) (c.len-i-end.ensures ∙ sym (used_of_each fs)) c.loop-i-test.false)
