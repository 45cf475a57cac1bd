-- Subsets of a view that fit messages of their own, and its reports under the tables: for `view`,
-- `View::report` and `reports`.
use Rattle.std.proofs.Common.{◌≡◌, ℕ, ◌+◌, ◌*◌, ◌<◌, ◌≤◌, Bool, true, false, List, [], ◌∷◌, ◌++◌}
use Rattle.std.proofs.Common.{◌/◌, length, take}
use Rattle.std.proofs.Common.{Some, Result, Ok, Err, refl, sym, ap, subst, ◌∙◌, arith}
use Rattle.std.specs.Prelude.{nat_le, slice_get, IfOk, option_map}
use Rattle.std.specs.Bool.{OnTrue}
use Rattle.std.proofs.lemmas.List.{take_more}
use Rattle.std.proofs.lemmas.List.Elements.{All-from_recursion, All-get_or}
use Rattle.std.proofs.lemmas.List.Folds.{list_all_at, list_all_more}
use Rattle.std.specs.List.{AllByRecursion}
use Rattle.std.proofs.lemmas.Option.{get_or_from_slice_get, slice_get-map, slice_get_within}
use Rattle.bufr_bits.specs.Bits.{bits}
use Rattle.bufr_expand.specs.Trees.{Tree}
use Rattle.bufr_fields.specs.declared.field.Subset.{Subset}
use Rattle.bufr_base.specs.Answers.{result_map}
use Rattle.bufr_data.specs.Data.{ReadsExactly, subsets_in}
use Rattle.bufr_sections.specs.declared.message.Message.{Message}
use Rattle.bufr_sections.specs.Sections.{Envelope}
use Rattle.bufr_sections.specs.Spelt.{longest}
use Rattle.bufr_message.specs.Summary.{summary}
use Rattle.bufr_message.specs.Kept.{message_under}
use Rattle.bufr_message.specs.declared.report.Report.{Report}
use Rattle.bufr_tables.specs.Entries.{Entries}
use Rattle.bufr_message.specs.Messages.{octets_alone, can_be_alone, Spells}
use Rattle.bufr_message.specs.Reports.{report_of, reports_of, with_parts, IsUnder}
use Rattle.bufr_message.specs.Reports.{ReportsSpeltAreUnder}
use Rattle.bufr_message.specs.Views.{AreReadFrom}
use Rattle.bufr_message.proofs.AloneFacts.{each_alone}
use Rattle.bufr_message.proofs.CanBeAlone.{all_short, alone_is_tested}
use Rattle.bufr_message.proofs.LengthFacts.{contents_hold}

-- ---- subsets that fit

pub few_octets : ((tree : Tree) (compressed : Bool) (count : ℕ) (front : List Bool)
    (found : List Subset × List Bool) → ReadsExactly tree compressed count front found)
    → (contents : List ℕ) (compressed : Bool) (descriptors : List ℕ) (subsets : List Subset)
    → AreReadFrom contents compressed subsets → 45 + 2 * length descriptors + length contents ≤ longest
    → can_be_alone descriptors subsets ≡ true
few_octets reads contents compressed descriptors subsets (tree, count, rest, is) few =
    let begins = (reads tree compressed count (bits contents) (subsets, rest)).0 is in
    let each = each_alone tree compressed subsets begins.0 begins.1 in
    let whole = contents_hold begins.0 rest contents begins.3 in
    (alone_is_tested descriptors subsets).1
    (all_short descriptors tree (length begins.0) subsets (omega arith) each)

pub when_true : {P : Type 0} (b : Bool) → b ≡ true → OnTrue b P → P
when_true {P} b is p = subst (λ x. OnTrue x P) is p

judged_passed : ((tree : Tree) (compressed : Bool) (count : ℕ) (front : List Bool)
    (found : List Subset × List Bool) → ReadsExactly tree compressed count front found)
    → (tree : Tree) (e : Envelope) (subsets : List Subset) (rest : List Bool)
    → subsets_in tree e.compressed e.count (bits e.contents) ≡ Ok (subsets, rest)
    → can_be_alone e.descriptors subsets ≡ true
    → result_map summary (message_under tree e)
    ≡ Ok (record { subsets = e.count; slack_octets = length rest / 8 })
judged_passed reads tree e subsets rest is few =
    let many =
    ((reads tree e.compressed e.count (bits e.contents) (subsets, rest)).0 is).2 in
    rw (is, few) (λ t. Ok (record { subsets = many t; slack_octets = length rest / 8 }))

-- the sections are seen as `s`
pub judged_seen : ((tree : Tree) (compressed : Bool) (count : ℕ) (front : List Bool)
    (found : List Subset × List Bool) → ReadsExactly tree compressed count front found)
    → (tree : Tree) (e s : Envelope) (subsets : List Subset) (rest : List Bool) → e ≡ s
    → subsets_in tree e.compressed e.count (bits e.contents) ≡ Ok (subsets, rest)
    → can_be_alone s.descriptors subsets ≡ true
    → result_map summary (message_under tree s)
    ≡ Ok (record { subsets = e.count; slack_octets = length rest / 8 })
judged_seen reads tree e s subsets rest same is few =
    subst (λ (x : Envelope). result_map summary (message_under tree x)
    ≡ Ok (record { subsets = e.count; slack_octets = length rest / 8 })) same
    (judged_passed reads tree e subsets rest is
    (subst (λ (x : Envelope). can_be_alone x.descriptors subsets ≡ true) (sym same) few))

pub one_more_short : (descriptors : List ℕ) (subsets : List Subset) (i : ℕ) (s : Subset)
    → i < length subsets → slice_get subsets i ≡ Some s
    → can_be_alone descriptors (take i subsets) ≡ true
    → nat_le (octets_alone descriptors s) longest ≡ true
    → can_be_alone descriptors (take (i + 1) subsets) ≡ true
one_more_short descriptors subsets i s below is so_far test =
    list_all_more (λ s. nat_le (octets_alone descriptors s) longest) subsets i s below
    ∙ rw (so_far, get_or_from_slice_get subsets i s s is, test) refl

pub one_too_long : (descriptors : List ℕ) (subsets : List Subset) (i : ℕ) (s : Subset)
    → slice_get subsets i ≡ Some s → nat_le (octets_alone descriptors s) longest ≡ false
    → can_be_alone descriptors subsets ≡ false
one_too_long descriptors subsets i s is test =
    let fits = λ (x : Subset). nat_le (octets_alone descriptors x) longest in
    list_all_at fits subsets i s (slice_get_within subsets i s is)
    (ap fits (get_or_from_slice_get subsets i s s is) ∙ test)

-- ---- subsets built

pub one_more_built : (subsets built : List Subset) (i : ℕ) (s : Subset)
    → slice_get subsets i ≡ Some s → built ≡ take i subsets
    → built ++ s ∷ [] ≡ take (i + 1) subsets
one_more_built subsets built i s is so_far =
    ap (λ (l : List Subset). l ++ s ∷ []) so_far
    ∙ ap (λ (x : Subset). take i subsets ++ x ∷ []) (sym (get_or_from_slice_get subsets i s s is))
    ∙ sym (take_more subsets i s (slice_get_within subsets i s is))

-- ---- reports

pub one_report : {E : Type 0} (m : Message) (i : ℕ) (s : Subset) (answer : Result Report E)
    → slice_get m.subsets i ≡ Some s
    → IfOk answer (λ r. r ≡ with_parts m.head m.observed m.descriptors s)
    → IfOk answer (λ r. slice_get (reports_of m) i ≡ Some r)
one_report m i s (Ok r) is made =
    slice_get-map (report_of m) m.subsets i ∙ ap (option_map (report_of m)) is
    ∙ ap (λ x. Some x) (sym made)
one_report m i s (Err e) is made = made

under_at : (tables : Entries) (rs : List Report) (i : ℕ) (r : Report)
    → AllByRecursion (IsUnder tables) rs → slice_get rs i ≡ Some r → IsUnder tables r
under_at tables rs i r all is =
    subst (IsUnder tables) (get_or_from_slice_get rs i r r is)
    (All-get_or (IsUnder tables) rs i r (slice_get_within rs i r is)
    (All-from_recursion (IsUnder tables) rs all))

pub under_answer : {E : Type 0} (law : ReportsSpeltAreUnder) (m : Message) (i : ℕ)
    (answer : Result Report E) → IfOk answer (λ r. slice_get (reports_of m) i ≡ Some r)
    → (tables : Entries) (octets : List ℕ) (slack : ℕ) → Spells tables m octets slack
    → IfOk answer (IsUnder tables)
under_answer law m i (Ok r) is tables octets slack spells =
    under_at tables (reports_of m) i r (law tables m octets slack spells) is
under_answer law m i (Err e) is tables octets slack spells = is

pub all_under_answer : {X E : Type 0} (law : ReportsSpeltAreUnder) (m : Message)
    (items : X → List Report) (answer : Result X E) → IfOk answer (λ x. items x ≡ reports_of m)
    → (tables : Entries) (octets : List ℕ) (slack : ℕ) → Spells tables m octets slack
    → IfOk answer (λ x. AllByRecursion (IsUnder tables) (items x))
all_under_answer law m items (Ok x) is tables octets slack spells =
    subst (AllByRecursion (IsUnder tables)) (sym is) (law tables m octets slack spells)
all_under_answer law m items (Err e) is tables octets slack spells = is
