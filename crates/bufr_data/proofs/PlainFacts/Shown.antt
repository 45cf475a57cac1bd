-- The subsets of an index of plain data, by number.
use Rattle.std.proofs.Common.{◌≡◌, ℕ, List, map, Some, sym, ap, subst, ◌∙◌}
use Rattle.std.specs.Prelude.{slice_get, option_map}
use Rattle.std.proofs.lemmas.Option.{get_or_from_slice_get, slice_get_within, slice_get-map}
use Rattle.bufr_expand.specs.Trees.{Tree}
use Rattle.bufr_fields.specs.declared.field.Field.{Field}
use Rattle.bufr_fields.specs.declared.field.Subset.{Subset}
use Rattle.bufr_data.specs.declared.plain.index.SubsetStart.{SubsetStart}
use Rattle.bufr_data.specs.Plain.Starts.{fields_of, subset_at, subset_from, BeginsAtStart, AllBegin}
use Rattle.bufr_data.proofs.ListFacts.{all_at}

pub begins_there : (octets : List ℕ) (tree : Tree) (starts : List SubsetStart) (i : ℕ)
    (s : SubsetStart) → AllBegin octets tree starts → slice_get starts i ≡ Some s
    → BeginsAtStart octets tree s
begins_there octets tree starts i s all is =
    subst (BeginsAtStart octets tree) (get_or_from_slice_get starts i s s is)
    (all_at (BeginsAtStart octets tree) starts i s all (slice_get_within starts i s is))

pub start_shown : (octets : List ℕ) (tree : Tree) (starts : List SubsetStart)
    (subsets : List Subset) (i : ℕ) (s : SubsetStart)
    → map (subset_from octets tree) starts ≡ subsets → slice_get starts i ≡ Some s
    → slice_get subsets i ≡ Some (subset_from octets tree s)
start_shown octets tree starts subsets i s view is =
    ap (λ xs. slice_get xs i) (sym view) ∙ slice_get-map (subset_from octets tree) starts i
    ∙ ap (option_map (subset_from octets tree)) is

pub fields_shown : (octets : List ℕ) (tree : Tree) (starts : List SubsetStart)
    (subsets : List Subset) (i : ℕ) (s : SubsetStart) (fields : List Field)
    → map (subset_from octets tree) starts ≡ subsets → slice_get starts i ≡ Some s
    → fields ≡ fields_of (subset_at octets tree s)
    → slice_get subsets i ≡ Some (record { fields = fields })
fields_shown octets tree starts subsets i s fields view is same =
    let whole : ◌≡◌ {A = Subset} (record { fields = fields }) (subset_from octets tree s) =
    λ t. record { fields = same t } in
    start_shown octets tree starts subsets i s view is ∙ ap (λ x. Some x) (sym whole)
