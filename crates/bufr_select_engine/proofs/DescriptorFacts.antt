-- The fields of a message that octets spell have descriptors: F of an element is 0, and F of a text 2.
use Rattle.std.proofs.Common.{◌≡◌, ℕ, zero, suc, ◌<◌, ◌≤◌, Bool, true, false, List, [], ◌∷◌, map}
use Rattle.std.proofs.Common.{sym, ap, ◌∙◌, subst, arith, Option, Some, None, Result, Ok, Err}
use Rattle.std.specs.List.{AllByRecursion}
use Rattle.bufr_base.specs.AnswerLaws.{ok_is}
use Rattle.bufr_tables.specs.Descriptors.{IsDescriptor, descriptor, f_of}
use Rattle.bufr_tables.specs.Entries.{Entries}
use Rattle.bufr_expand.specs.declared.operators.Operators.{Operators}
use Rattle.bufr_expand.specs.declared.operators.Spec.{Spec}
use Rattle.bufr_expand.specs.Effects.{AsInTable, Effective}
use Rattle.bufr_expand.specs.Flat.{Flat, delayed_first, element_first, followed_by, nothing}
use Rattle.bufr_expand.specs.Flat.{operator_first, repeated_first, sequence_first, text_first}
use Rattle.bufr_expand.specs.Flat.{width_first}
use Rattle.bufr_expand.specs.Limits.{most_replication_levels, most_sequence_levels}
use Rattle.bufr_expand.specs.OperatorsInForce.{factor_spec, in_force_after, none_in_force}
use Rattle.bufr_expand.specs.Trees as trees
use Rattle.bufr_expand.specs.Unrolling as unrolling
use Rattle.bufr_expand.specs.Unrolling.{FieldThen, FirstThen, ItemThen, NumberedField, Turns, TurnsThen, Unroll}
use Rattle.bufr_expand.specs.Unrolling.{Unrolled, UnrollsTo}
use Rattle.bufr_fields.specs.declared.field.Field.{Field}
use Rattle.bufr_fields.specs.declared.field.Subset.{Subset}
use Rattle.bufr_fields.specs.Fits.{AllFit, Fits, FitsAlone, told_of}
use Rattle.bufr_data.specs.Data.{IsDataOf}
use Rattle.bufr_sections.specs.Sections.{envelope_of}
use Rattle.bufr_message.specs.Laws.{MessagesReadAreSpelt}
use Rattle.bufr_message.specs.Messages.{Spells, message_of}
use Rattle.bufr_message.specs.declared.Decoded.{Decoded}
use Rattle.bufr_message.specs.declared.Message.{Message}
use Rattle.bufr_message.specs.declared.Refused.{Refused}
use Rattle.bufr_select_rows.specs.ListedCells.{LinesDetermineRows}
use Rattle.bufr_select_rows.specs.Pairs.{first_reading, message_by, message_said, message_under}
use Rattle.bufr_select_rows.specs.Pairs.{or_refused, version_said}
use Rattle.bufr_select_rows.specs.declared.pairs.VersionTables.{VersionTables}
use Rattle.bufr_select_rows.specs.declared.pairs.Unread.{Unread}
use Rattle.bufr_select_engine.specs.Listed.{HasDescriptors, ListingsOfFramesDetermineRows}
use Rattle.bufr_select_engine.specs.Selected.{message_rows, rows_as}
use Rattle.bufr_select_engine.proofs.ListedFacts.{listings_determine}
use Rattle.bufr_select_engine.proofs.PlainLines.{both}

-- ---- the tree of a list

-- each field that a tree asks for has a descriptor
unfoldable FieldsAre : trees.Tree → Type 0
FieldsAre trees.done = Unit {0}
FieldsAre (trees.element d e rest) = IsDescriptor d × FieldsAre rest
FieldsAre (trees.untouched d e rest) = IsDescriptor d × FieldsAre rest
FieldsAre (trees.operator d rest) = FieldsAre rest
FieldsAre (trees.repeated times body rest) = FieldsAre body × FieldsAre rest
FieldsAre (trees.delayed d e body rest) = IsDescriptor d × FieldsAre body × FieldsAre rest

fields_behind : (a b : trees.Tree) → FieldsAre a → FieldsAre b → FieldsAre (followed_by a b)
unfolding FieldsAre followed_by
fields_behind trees.done b h g = g
fields_behind (trees.element d e rest) b h g = (h.0, fields_behind rest b h.1 g)
fields_behind (trees.untouched d e rest) b h g = (h.0, fields_behind rest b h.1 g)
fields_behind (trees.operator d rest) b h g = fields_behind rest b h g
fields_behind (trees.repeated times body rest) b h g = (h.0, fields_behind rest b h.1 g)
fields_behind (trees.delayed d e body rest) b h g = (h.0, h.1, fields_behind rest b h.2 g)

by_first_bits : (d f : ℕ) → f_of d ≡ f → f < 4 → IsDescriptor d
by_first_bits d f is few = omega arith

in_tree : (tables : Entries) (s r : ℕ) (list : List ℕ) (t : trees.Tree) → Flat tables s r list t
    → FieldsAre t
unfolding FieldsAre
in_tree tables s r list t nothing = tt
in_tree tables s r list t (element_first {fxy = d} {rest} f k behind) =
    (by_first_bits d 0 f (omega arith), in_tree tables s r _ rest behind)
in_tree tables s r list t (operator_first {rest} f k behind) = in_tree tables s r _ rest behind
in_tree tables s r list t (text_first {fxy = d} {rest} f x y behind) =
    (by_first_bits d 2 f (omega arith), in_tree tables s r _ rest behind)
in_tree tables s r list t (width_first {local} {rest} f x y l h behind) =
    (by_first_bits local 0 l (omega arith), in_tree tables s r _ rest behind)
in_tree tables s r list t (sequence_first {sequences = below} {inner} {rest} f k first behind) =
    fields_behind inner rest (in_tree tables below r _ inner first)
    (in_tree tables s r _ rest behind)
in_tree tables s r list t (repeated_first {replications = below} {inner} {rest} f x y size first
    behind) = (in_tree tables s below _ inner first, in_tree tables s r _ rest behind)
in_tree tables s r list t (delayed_first {replications = below} {factor} {inner} {rest} f x y i k
    count size first behind) = (
      factor_small factor i.1,
      in_tree tables s below _ inner first,
      in_tree tables s r _ rest behind,
    )
  where
    factor_small : (d : ℕ) → d ≤ descriptor 0 31 2 → IsDescriptor d
    factor_small d most = omega arith

-- ---- unrollings

abbrev AllAre : List NumberedField → Type 0
AllAre fields = AllByRecursion (λ f. IsDescriptor f.fxy) fields

-- a part has such fields alone
abbrev HasAll : UnrollsTo → Type 0
HasAll Part = (before : Operators) (all : Unrolled) → Part before all → AllAre all.fields

of_nothing : (before : Operators) (all : Unrolled) → all ≡ unrolling.nothing before
    → AllAre all.fields
of_nothing before all is = subst (λ (u : Unrolled). AllAre u.fields) (sym is) tt

of_item : (Rest : UnrollsTo) → HasAll Rest → HasAll (ItemThen Rest)
of_item Rest rest before all h =
    subst (λ (u : Unrolled). AllAre u.fields) (sym h.in_order) (rest before h.others h.rest)

of_field : (d : ℕ) (Has : Spec → Type 0) (Rest : ℕ → UnrollsTo) (before : Operators)
    (all : Unrolled) → IsDescriptor d → ((number : ℕ) → HasAll (Rest number))
    → FieldThen d Has Rest before all → AllAre all.fields
of_field d Has Rest before all is rest h =
    subst (λ (u : Unrolled). AllAre u.fields) (sym h.in_order)
    (subst IsDescriptor (sym h.descriptor_is) is, rest h.field.number before h.others h.rest)

of_first : (First Rest : UnrollsTo) → HasAll First → HasAll Rest → HasAll (FirstThen First Rest)
of_first First Rest first rest before all h =
    subst (λ (u : Unrolled). AllAre u.fields) (sym h.in_order)
    (both (λ (f : NumberedField). IsDescriptor f.fxy) h.first.fields h.others.fields
    (first before h.first h.is_first) (rest h.first.operators h.others h.rest))

of_turns : (times : ℕ) (Body : UnrollsTo) → HasAll Body → HasAll (Turns times Body)
unfolding Turns
of_turns zero Body body before all h = of_nothing before all h
of_turns (suc times) Body body before all h =
    of_item (FirstThen Body (Turns times Body))
    (of_first Body (Turns times Body) body (of_turns times Body body)) before all h

of_tree : (t : trees.Tree) → FieldsAre t → HasAll (Unroll t)
unfolding FieldsAre Unroll
of_tree trees.done are before all h = of_nothing before all h
of_tree (trees.operator d rest) are before all h =
    of_item (Unroll rest) (of_tree rest are) (in_force_after before d) all h
of_tree (trees.element d e rest) are before all h =
    of_field d (Effective d e before) (λ number. Unroll rest) before all are.0
    (λ number. of_tree rest are.1) h
of_tree (trees.untouched d e rest) are before all h =
    of_field d (AsInTable e) (λ number. Unroll rest) before all are.0
    (λ number. of_tree rest are.1) h
of_tree (trees.repeated times body rest) are before all h =
    of_item (TurnsThen times (Unroll body) (Unroll rest))
    (of_first (Turns times (Unroll body)) (Unroll rest)
    (of_turns times (Unroll body) (of_tree body are.0)) (of_tree rest are.1)) before all h
of_tree (trees.delayed d e body rest) are before all h =
    of_field d (λ spec. spec ≡ factor_spec e) (λ times. TurnsThen times (Unroll body) (Unroll rest))
    before all are.0
    (λ times. of_first (Turns times (Unroll body)) (Unroll rest)
    (of_turns times (Unroll body) (of_tree body are.1)) (of_tree rest are.2)) h

-- ---- subsets

abbrev SubsetsHave : List Subset → Type 0
SubsetsHave subsets =
    AllByRecursion (λ s. AllByRecursion (λ f. IsDescriptor f.fxy) s.fields) subsets

of_fields : (fields : List Field) → AllAre (map told_of fields)
    → AllByRecursion (λ f. IsDescriptor f.fxy) fields
of_fields [] all = tt
of_fields (f ∷ fields) all = (all.0, of_fields fields all.1)

of_subset : (t : trees.Tree) → FieldsAre t → (s : Subset) (items : ℕ) → Fits t s.fields items
    → AllByRecursion (λ f. IsDescriptor f.fxy) s.fields
of_subset t are s items fits =
    of_fields s.fields
    (of_tree t are none_in_force
    (record { fields = map told_of s.fields; operators = fits.operators; items = items })
    fits.unrolled)

of_plain : (t : trees.Tree) → FieldsAre t → (subsets : List Subset) (items : ℕ)
    → AllFit t subsets items → SubsetsHave subsets
of_plain t are [] items fit = tt
of_plain t are (s ∷ subsets) items (own, others, fits, more, sum) =
    (of_subset t are s own fits, of_plain t are subsets others more)

of_compressed : (t : trees.Tree) → FieldsAre t → (subsets : List Subset)
    → AllByRecursion (FitsAlone t) subsets → SubsetsHave subsets
of_compressed t are [] fit = tt
of_compressed t are (s ∷ subsets) ((total, (items, fits, sum, few)), others) =
    (of_subset t are s items fits, of_compressed t are subsets others)

of_data : (t : trees.Tree) → FieldsAre t → (compressed : Bool) (subsets : List Subset)
    (data_bits : List Bool) → IsDataOf t compressed subsets data_bits → SubsetsHave subsets
of_data t are false subsets data_bits (items, (own, fit, sum, few), is) =
    of_plain t are subsets own fit
of_data t are true subsets data_bits (fit, packed) = of_compressed t are subsets fit

of_spelt : (tables : Entries) (m : Message) (octets : List ℕ) (slack : ℕ)
    → Spells tables m octets slack → HasDescriptors m
of_spelt tables m octets slack spells =
    of_data spells.tree
    (in_tree tables most_sequence_levels most_replication_levels m.descriptors spells.tree
    spells.template.0) m.compressed m.subsets spells.data_bits spells.holds

-- ---- frames

-- tables under which octets spell a message
abbrev ReadUnder : List ℕ → Decoded → Type 0
ReadUnder octets d = (tables : Entries) × (message_of tables octets ≡ Ok d)

not_refused : (read : Result Decoded Refused) (d : Decoded) → or_refused read ≡ Ok d → read ≡ Ok d
not_refused (Ok found) d h = ap Ok (ok_is found d h)
not_refused (Err why) d h = absurd cc

by_pair : (pair : Option VersionTables) (version : ℕ) (octets : List ℕ) (d : Decoded)
    → message_by pair version octets ≡ Ok d → ReadUnder octets d
by_pair (Some pair) version octets d h =
    (pair.reader, not_refused (message_of pair.reader octets) d h)
by_pair None version octets d h = absurd cc

by_version : (pairs : List VersionTables) (octets : List ℕ) (version : Result ℕ Unread) (d : Decoded)
    → message_said pairs octets version ≡ Ok d → ReadUnder octets d
by_version pairs octets (Ok version) d h =
    by_pair (first_reading version pairs) version octets d h
by_version pairs octets (Err why) d h = absurd cc

by_pairs : (pairs : List VersionTables) (octets : List ℕ) (d : Decoded) → message_under pairs octets ≡ Ok d
    → ReadUnder octets d
unfolding message_under
by_pairs pairs octets d h = by_version pairs octets (version_said (envelope_of octets)) d h

pub frames_determine : LinesDetermineRows → MessagesReadAreSpelt → ListingsOfFramesDetermineRows
frames_determine law spelt s input number a b d e octets_a octets_b read_a read_b place same =
    let under_a = by_pairs s.pairs a.bytes d read_a in
    let under_b = by_pairs s.pairs b.bytes e read_b in
    let can_a =
    of_spelt under_a.0 d.message a.bytes d.slack_octets (spelt under_a.0 a.bytes d octets_a under_a.1) in
    let can_b =
    of_spelt under_b.0 e.message b.bytes e.slack_octets (spelt under_b.0 b.bytes e octets_b under_b.1) in
    ap (rows_as s input number a) read_a
    ∙ listings_determine law s input number a.place d.message e.message can_a can_b same
    ∙ ap (λ at_place. message_rows s input number at_place e.message) place
    ∙ sym (ap (rows_as s input number b) read_b)
