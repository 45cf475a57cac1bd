-- A canonical message is what the report's own fields spell: for the law on canonical messages,
-- `canonical_of_read` and views.
use Rattle.std.proofs.Common.{◌≡◌, ℕ, zero, suc, ◌^◌, ◌<◌, Bool, true, false, List, [], ◌∷◌, ◌++◌, length}
use Rattle.std.proofs.Common.{Option, Some, None, Result, Ok, Err, refl, sym, ap, subst, ◌∙◌, arith}
use Rattle.std.proofs.Common.{inl, inr}
use Rattle.std.specs.Prelude.{if◌then◌else◌}
use Rattle.std.specs.Prelude.{nat_lt, nat_le, slice_get, IfOk, IfSome, option_map, get_or}
use Rattle.std.specs.Bool.{OnTrue}
use Rattle.std.specs.List.{AllByRecursion}
use Rattle.std.proofs.lemmas.Bool.{and_from, cases_lt, le-leb, lt-ltb}
use Rattle.std.proofs.lemmas.List.{append-nil, get_or_past}
use Rattle.std.proofs.lemmas.Option.{same_Some, slice_get-map}
use Rattle.bufr_bits.specs.Bits.{bits}
use Rattle.bufr_tables.specs.Entries.{Entries}
use Rattle.bufr_expand.specs.declared.operators.Spec.{Spec}
use Rattle.bufr_fields.specs.declared.field.Raw.{Raw}
use Rattle.bufr_fields.specs.declared.field.Field.{Field}
use Rattle.bufr_fields.specs.declared.field.Subset.{Subset}
use Rattle.bufr_fields.specs.declared.fault.MisfitFault.{MisfitFault}
use Rattle.bufr_data.specs.Data.{ReadsExactly}
use Rattle.bufr_expand.specs.Trees.{Tree}
use Rattle.bufr_sections.specs.declared.message.Head.{Head}
use Rattle.bufr_sections.specs.declared.message.Message.{Message}
use Rattle.bufr_sections.specs.declared.lent_sections.LentSections.{LentSections}
use Rattle.bufr_sections.specs.Sections.{AreOctets, Envelope, envelope_of}
use Rattle.bufr_sections.specs.SectionsRead.{envelope_lent, message_lent}
use Rattle.bufr_sections.specs.Spelt.{spelt_or}
use Rattle.bufr_fields.specs.Fits.{HasForm, of_text, of_number}
use Rattle.bufr_data.specs.Plain.{plain}
use Rattle.bufr_base.specs.Answers.{result_map}
use Rattle.bufr_base.specs.AnswerLaws.{bind_ok, ok_is}
use Rattle.bufr_message.specs.declared.report.Report.{Report}
use Rattle.bufr_message.specs.Below.{Below}
use Rattle.bufr_message.specs.Encodings.{whole_octets, data_or, data_bits_or, enclosed_or}
use Rattle.bufr_data.specs.Subsets.{filled}
use Rattle.bufr_message.specs.Encodings.{code}
use Rattle.bufr_message.specs.Reports.{report_of, reports_of, with_no_local, alone, if_written}
use Rattle.bufr_message.specs.Reports.{without_local}
use Rattle.bufr_message.specs.Messages.{envelope_with}
use Rattle.bufr_message.specs.Reports.{IsCanonical}
use Rattle.bufr_message.specs.OwnBits.{has_room, have_room, HaveRoom, own_bits, spelt_with}
use Rattle.bufr_message.specs.OwnBits.{spelt_alone, IsPutBehind, AddsOwn}
use Rattle.bufr_message.specs.Views.{AreReadFrom}
use Rattle.bufr_message.proofs.AloneFacts.{StandsAlone, each_alone}
use Rattle.bufr_message.proofs.EncodingFacts.{enclosed_is, whole_octets_are}
use Rattle.bufr_message.proofs.WrittenFacts.{bits_found}
use Rattle.bufr_message.proofs.UnwrittenFacts.{bare_is_written}

abbrev pub envelope_alone : Head → Report → List ℕ → Envelope
envelope_alone h r contents =
    record {
      head = h;
      section2 = None;
      observed = r.observed;
      compressed = false;
      descriptors = r.descriptors;
      count = 1;
      contents = contents;
    }

room_of : (spec : Spec) (raw : Raw) → HasForm spec raw → has_room spec.width raw ≡ true
room_of spec raw (of_text octets kind long small) = refl
room_of spec raw (of_number n other few below) =
    and_from (nat_le spec.width 64) (nat_lt n (2 ^ spec.width)) (le-leb _ _ few) (lt-ltb _ _ below)

rooms_of : (fields : List Field) → AllByRecursion (λ f. HasForm f.spec f.raw) fields
    → have_room fields ≡ true
rooms_of [] forms = refl
rooms_of (f ∷ fs) (form, forms) =
    and_from _ (have_room fs) (room_of f.spec f.raw form) (rooms_of fs forms)

-- a canonical message is what the report's own fields spell
pub canonical_is_own : Below → (tables : Entries) (r : Report) (octets : List ℕ)
    → IsCanonical tables r octets → spelt_alone r ≡ Some octets
unfolding code
canonical_is_own below tables r octets c =
    let written = bare_is_written below tables (alone r) octets c.spelt in
    let found = bind_ok (data_bits_or tables (alone r)) (enclosed_or (alone r)) octets written in
    let held = bits_found below tables (alone r) found.0 found.1 in
    let rooms = rooms_of r.subset.fields held.3.1.1.2.formed in
    let same : found.0 ≡ plain r.subset.fields = held.3.2 ∙ append-nil (plain r.subset.fields) in
    rw rooms (ap if_written (sym (ap (enclosed_or (alone r)) same) ∙ found.2))

-- ---- subsets as read

all_rooms : (tree : Tree) (most : ℕ) (subsets : List Subset)
    → AllByRecursion (StandsAlone tree most) subsets → HaveRoom subsets
all_rooms tree most [] all = tt
all_rooms tree most (s ∷ ss) (first, others) =
    (rooms_of s.fields first.fits.formed, all_rooms tree most ss others)

pub rooms_read : ((tree : Tree) (compressed : Bool) (count : ℕ) (front : List Bool)
    (found : List Subset × List Bool) → ReadsExactly tree compressed count front found)
    → (contents : List ℕ) (compressed : Bool) (subsets : List Subset)
    → AreReadFrom contents compressed subsets → HaveRoom subsets
rooms_read reads contents compressed subsets (tree, count, rest, is) =
    let begins = (reads tree compressed count (bits contents) (subsets, rest)).0 is in
    all_rooms tree (length begins.0) subsets (each_alone tree compressed subsets begins.0 begins.1)

-- ---- the canonical message of a view's report

room_at : (subsets : List Subset) (i : ℕ) → i < length subsets → HaveRoom subsets
    → (s : Subset) × (slice_get subsets i ≡ Some s) × (have_room s.fields ≡ true)
room_at [] i below rooms = absurd (omega arith)
room_at (s ∷ ss) zero below rooms = (s, refl, rooms.0)
room_at (s ∷ ss) (suc i) below rooms = room_at ss i (omega (arith, below)) rooms.1

pub put_there : {E : Type 0} (m : Message) (i : ℕ) (contents old new : List ℕ)
    (answer : Result Bool E) → i < length m.subsets → HaveRoom m.subsets
    → IfSome (slice_get m.subsets i) (λ s. bits contents ≡ filled (plain s.fields))
    → ((s : Subset) (data_bits : List Bool) → bits contents ≡ filled data_bits
    → IfOk answer (λ there. IsPutBehind old (spelt_with (report_of m s) (Some data_bits)) there new))
    → IfOk answer (λ there. AddsOwn (slice_get (reports_of m) i) old there new)
put_there m i contents old new (Err e) below rooms holds put = tt
put_there m i contents old new (Ok there) below rooms holds put =
    let t = room_at m.subsets i below rooms in
    let s = t.0 in
    let held : bits contents ≡ filled (plain s.fields) =
    subst (λ (o : Option Subset). IfSome o (λ s. bits contents ≡ filled (plain s.fields))) t.1 holds
    in
    let own : own_bits s.fields ≡ Some (plain s.fields) = rw t.2 refl in
    let alone =
    subst (λ (o : Option (List Bool)). IsPutBehind old (spelt_with (report_of m s) o) there new)
    (sym own) (put s (plain s.fields) held) in
    subst (λ (o : Option Report). AddsOwn o old there new)
    (sym (slice_get-map (report_of m) m.subsets i ∙ ap (option_map (report_of m)) t.1)) alone

pub told_own : (own : Option (List ℕ)) (there some : Bool) (new : List ℕ)
    → IsPutBehind [] own there new → there ≡ some → own ≡ (if some then Some new else None)
told_own None there some new put is = rw (← is, put.0) refl
told_own (Some octets) there some new put is = rw (← is, put.0, put.1) refl

pub told_there : (found : Option Report) (there some : Bool) (new : List ℕ)
    → AddsOwn found [] there new → there ≡ some
    → option_map spelt_alone found ≡ Some (if some then Some new else None)
told_there None there some new put is = absurd put
told_there (Some r) there some new put is = ap Some (told_own (spelt_alone r) there some new put is)

pub put_and_filled : (found : Option Subset) (begun put full : List Bool) (contents : List ℕ)
    → begun ≡ [] → IfSome found (λ s. put ≡ begun ++ plain s.fields) → full ≡ filled put
    → bits contents ≡ full → IfSome found (λ s. bits contents ≡ filled (plain s.fields))
put_and_filled None begun put full contents none is whole same = tt
put_and_filled (Some s) begun put full contents none is whole same =
    same ∙ whole ∙ ap filled (is ∙ ap (λ (b : List Bool). b ++ plain s.fields) none)

pub alone_is : (r : Report) (h : Head) (contents : List ℕ) (data_bits : List Bool)
    (x : Result (List ℕ) MisfitFault) → whole_octets data_bits ≡ contents → h ≡ with_no_local r.head
    → spelt_or (envelope_alone h r contents) ≡ x
    → spelt_with r (Some data_bits) ≡ if_written (data_or x)
alone_is r h contents data_bits x whole same told =
    ap if_written
    (enclosed_is (alone r) contents data_bits x whole
    (subst (λ (k : Head). spelt_or (envelope_alone k r contents) ≡ x) same told))

pub put_behind : (r : Report) (h : Head) (contents : List ℕ) (data_bits : List Bool)
    (old new : List ℕ) → whole_octets data_bits ≡ contents → h ≡ with_no_local r.head
    → result_map (λ o. old ++ o) (spelt_or (envelope_alone h r contents)) ≡ Ok new
    → IsPutBehind old (spelt_with r (Some data_bits)) true new
put_behind r h contents data_bits old new whole same told =
    by_answer (spelt_or (envelope_alone h r contents)) refl
  where
    by_answer : (x : Result (List ℕ) MisfitFault) → spelt_or (envelope_alone h r contents) ≡ x
        → IsPutBehind old (spelt_with r (Some data_bits)) true new
    by_answer (Ok octets) is =
        rw (alone_is r h contents data_bits (Ok octets) whole same is)
        (refl, sym (ok_is _ _ (rw is at told)))
    by_answer (Err fault) is = let none = rw is at told in absurd cc

pub none_behind : (r : Report) (h : Head) (contents : List ℕ) (data_bits : List Bool)
    (old new : List ℕ) (fault : MisfitFault) → whole_octets data_bits ≡ contents
    → h ≡ with_no_local r.head
    → result_map (λ o. old ++ o) (spelt_or (envelope_alone h r contents)) ≡ Err fault → new ≡ old
    → IsPutBehind old (spelt_with r (Some data_bits)) false new
none_behind r h contents data_bits old new fault whole same told kept =
    by_answer (spelt_or (envelope_alone h r contents)) refl
  where
    by_answer : (x : Result (List ℕ) MisfitFault) → spelt_or (envelope_alone h r contents) ≡ x
        → IsPutBehind old (spelt_with r (Some data_bits)) false new
    by_answer (Ok octets) is = let some = rw is at told in absurd cc
    by_answer (Err other) is =
        rw (alone_is r h contents data_bits (Err other) whole same is) (refl, kept)

pub own_put : (r : Report) (contents old new : List ℕ) (there : Bool)
    → Some (bits contents) ≡ option_map filled (own_bits r.subset.fields)
    → ((data_bits : List Bool) → bits contents ≡ filled data_bits
    → IsPutBehind old (spelt_with r (Some data_bits)) there new)
    → IsPutBehind old (spelt_alone r) there new
own_put r contents old new there held put = by_own (own_bits r.subset.fields) refl
  where
    by_own : (o : Option (List Bool)) → own_bits r.subset.fields ≡ o
        → IsPutBehind old (spelt_alone r) there new
    by_own None is = let none = rw is at held in absurd cc
    by_own (Some d) is =
        let same : bits contents ≡ filled d = same_Some _ _ (rw is at held) in
        subst (λ (o : Option (List Bool)). IsPutBehind old (spelt_with r o) there new) (sym is)
        (put d same)

-- ---- octets that are their own canonical message

each_small : (octets : List ℕ) → AreOctets octets → (i : ℕ) → get_or octets i 0 < 256
each_small octets all i = elim (cases_lt i (length octets)) [
  | inl here ↦ all i 0 here
  | inr past ↦ rw (get_or_past octets i 0 past) (omega arith)
]

head_alone : (h : Head) → h.local ≡ [] → h ≡ with_no_local (without_local h)
head_alone h none = ap (λ (local : List ℕ). record h { local = local }) none

-- `spell` of one plain subset writes the canonical message of its report
own_octets : (m : Message) (contents octets : List ℕ) → AreOctets contents
    → HaveRoom m.subsets → length m.subsets ≡ 1 → m.head.local ≡ [] → m.section2 ≡ None
    → m.compressed ≡ false
    → IfSome (slice_get m.subsets 0) (λ s. bits contents ≡ filled (plain s.fields))
    → spelt_or (envelope_with m contents) ≡ Ok octets
    → option_map spelt_alone (slice_get (reports_of m) 0) ≡ Some (Some octets)
own_octets m contents octets small rooms one local two flat holds told =
    let t = room_at m.subsets 0 (omega arith) rooms in
    let s = t.0 in
    let r = report_of m s in
    let held : bits contents ≡ filled (plain s.fields) =
    subst (λ (o : Option Subset). IfSome o (λ s. bits contents ≡ filled (plain s.fields))) t.1 holds
    in
    let own : own_bits s.fields ≡ Some (plain s.fields) = rw t.2 refl in
    let said : spelt_or (envelope_alone m.head r contents) ≡ Ok octets =
    rw (two, flat, one) at told in
    let spelt =
    alone_is r m.head contents (plain s.fields) (Ok octets)
    (whole_octets_are contents (plain s.fields) (each_small contents small) held) (head_alone m.head local) said in
    ap (option_map spelt_alone)
    (slice_get-map (report_of m) m.subsets 0 ∙ ap (option_map (report_of m)) t.1)
    ∙ ap Some (ap (spelt_with r) own ∙ spelt)

pub own_told : (m : Message) (lent : LentSections) (contents octets : List ℕ) (bare : Bool)
    → AreOctets contents → HaveRoom m.subsets → length m.subsets ≡ 1 → m.compressed ≡ false
    → IfSome (slice_get m.subsets 0) (λ s. bits contents ≡ filled (plain s.fields))
    → message_lent lent m.subsets ≡ m → envelope_of octets ≡ Ok (envelope_with m contents)
    → ((count : ℕ) → envelope_of octets ≡ Ok (envelope_lent lent count contents)
    → OnTrue bare (spelt_or (envelope_lent lent count contents) ≡ Ok octets))
    → OnTrue bare (lent.section2.now ≡ None) → OnTrue bare (lent.head.now.local ≡ [])
    → bare ≡ true → option_map spelt_alone (slice_get (reports_of m) 0) ≡ Some (Some octets)
own_told m lent contents octets false small rooms one flat holds same read spelt two local told =
    absurd cc
own_told m lent contents octets true small rooms one flat holds same read spelt two local told =
    let whole = ap (λ (x : Message). envelope_with x contents) same in
    own_octets m contents octets small rooms one
    (sym (ap (λ (x : Message). x.head.local) same) ∙ local)
    (sym (ap (λ (x : Message). x.section2) same) ∙ two) flat holds
    (ap spelt_or (sym whole) ∙ spelt (length m.subsets) (read ∙ ap Ok (sym whole)))

pub own_behind : (found : Option Report) (own old new : List ℕ)
    → option_map spelt_alone found ≡ Some (Some own) → new ≡ old ++ own → AddsOwn found old true new
own_behind None own old new told is = absurd cc
own_behind (Some r) own old new told is =
    subst (λ (o : Option (List ℕ)). IsPutBehind old o true new) (sym (same_Some _ _ told)) (refl, is)
