-- The octets that writing returns spell the message: for `encode` and the laws on writing.
use Rattle.std.proofs.Common.{◌≡◌, ◌≢◌, ◌⊎◌, ℕ, ◌+◌, ◌-◌, ◌*◌, ◌/◌, ◌<◌, ◌≤◌, ◌^◌, Bool, true}
use Rattle.std.proofs.Common.{false, List, [], ◌∷◌, ◌++◌, length, drop, replicate, Ok, Err, refl}
use Rattle.std.proofs.Common.{sym, ap, subst, ◌∙◌, arith, inl, inr, length-append}
use Rattle.std.specs.Prelude.{nat_lt}
use Rattle.std.proofs.lemmas.Bool.{ltb-true, ltb-false}
use Rattle.std.proofs.lemmas.List.{append-nil, length-replicate, drop_all}
use Rattle.std.proofs.lemmas.List.Elements.{All-nil}
use Rattle.bufr_bits.specs.Bits.{bits, numbers}
use Rattle.bufr_bits.specs.NumberLaws.{length-numbers}
use Rattle.bufr_bits.specs.OctetLaws.{bits-numbers}
use Rattle.bufr_tables.specs.Entries.{Entries}
use Rattle.bufr_expand.specs.Templates.{template}
use Rattle.bufr_expand.specs.Flat.{IsTreeOf}
use Rattle.bufr_expand.specs.Trees.{Tree}
use Rattle.bufr_fields.specs.declared.fault.MisfitFault.TheVariants.{TooLarge}
use Rattle.bufr_data.specs.Data.{IsBareDataOf, written_bits}
use Rattle.bufr_sections.specs.declared.message.Message.{Message}
use Rattle.bufr_sections.specs.declared.layout.Layout.TheVariants.{Edition4}
use Rattle.bufr_sections.specs.Sections.{Envelope, IsOctet, AreOctets, nothing_ignored}
use Rattle.bufr_sections.specs.Spelt.{bare, most_subsets, longest, spelt_or}
use Rattle.bufr_message.specs.Messages.{envelope_with, message_of}
use Rattle.bufr_message.specs.Encodings.{whole_octets, some_descriptors, template_or, data_or}
use Rattle.bufr_message.specs.Encodings.{data_bits_or, enclosed_or, SpellsBare, code}
use Rattle.bufr_sections.specs.declared.fault.EncodeFault.TheVariants.{Template, Data}
use Rattle.bufr_message.specs.Laws.{NumbersFit}
use Rattle.bufr_base.specs.AnswerLaws.{bind_ok, ok_is}
use Rattle.bufr_message.specs.Below.{Below}
use Rattle.bufr_message.proofs.CanBeAlone.{alone_in_edition_4}
use Rattle.bufr_message.proofs.MessageFacts.{message_of_spelt}
use Rattle.bufr_message.proofs.StepFacts.{PassesOn, step_takes}

-- ---- data bits in whole octets

abbrev pub fill : List Bool → ℕ
fill data_bits = 8 * ((length data_bits + 7) / 8) - length data_bits

pub whole_octets_spelt : (data_bits : List Bool)
    → (bits (whole_octets data_bits) ≡ data_bits ++ replicate (fill data_bits) false)
    × AreOctets (whole_octets data_bits)
whole_octets_spelt data_bits =
    let n = (length data_bits + 7) / 8 in
    let text = data_bits ++ replicate (fill data_bits) false in
    let long : length text ≡ n * 8 =
    omega (
      arith,
      length-append data_bits (replicate (fill data_bits) false),
      length-replicate (fill data_bits) false,
    ) in
    let found = bits-numbers n text (omega arith) in
    let none : drop (n * 8) text ≡ [] = drop_all (n * 8) text (omega arith) in (
      sym (found.0 ∙ ap (λ xs. bits (numbers n 8 text) ++ xs) none
          ∙ append-nil (bits (numbers n 8 text))),
      found.1,
    )

pub whole_octets_long : (data_bits : List Bool)
    → length (whole_octets data_bits) ≡ (length data_bits + 7) / 8
whole_octets_long data_bits = length-numbers ((length data_bits + 7) / 8) 8 _

fill_short : (data_bits : List Bool) → 0 ≡ length (replicate (fill data_bits) false) / 8
fill_short data_bits = omega (arith, length-replicate (fill data_bits) false)

-- ---- the steps of writing

pub descriptors_take : (ds list : List ℕ) → some_descriptors ds ≡ Ok list
    → (ds ≢ []) × (ds ≡ list)
descriptors_take [] list e = absurd cc
descriptors_take (d ∷ ds) list e = (λ none. absurd cc, ok_is _ _ e)

pub template_passes : PassesOn template_or Template
template_passes = record { value = λ tree. refl; fault = λ why. refl }

pub data_passes : {A : Type 0} → PassesOn {A = A} data_or Data
data_passes = record { value = λ found. refl; fault = λ why. refl }

-- sections within the limits have octets, others have none
abbrev pub TellsLimits : Envelope → Type 0
TellsLimits e =
    ((e.count ≤ most_subsets) × (length (bare e) ≤ longest) × (spelt_or e ≡ Ok (bare e)))
    ⊎ (((most_subsets < e.count) ⊎ (longest < length (bare e))) × (spelt_or e ≡ Err TooLarge))

pub tells_limits : (e : Envelope) → TellsLimits e
unfolding spelt_or
tells_limits e =
    by_tests (nat_lt most_subsets e.count) refl (nat_lt longest (length (bare e))) refl
  where
    by_tests : (many : Bool) → nat_lt most_subsets e.count ≡ many
        → (long : Bool) → nat_lt longest (length (bare e)) ≡ long → TellsLimits e
    by_tests true many long any = inr (inl (ltb-true _ _ many), rw many refl)
    by_tests false few true long = inr (inr (ltb-true _ _ long), rw (few, long) refl)
    by_tests false few false short =
        inl (ltb-false _ _ few, ltb-false _ _ short, rw (few, short) refl)

limits_take : (e : Envelope) (found : List ℕ) → spelt_or e ≡ Ok found
    → (e.count < 2 ^ 16) × (length (bare e) < 2 ^ 24) × (found ≡ bare e)
limits_take e found passed = elim (tells_limits e) [
  | inl within ↦
      (omega (arith, within.0), omega (arith, within.1), ok_is _ _ (sym passed ∙ within.2))
  | inr past ↦ absurd (let no = sym passed ∙ past.1 in cc)
]

-- the message has these data bits
abbrev pub HasBits : Entries → Message → List Bool → Type 0
HasBits tables m data_bits =
    (tree : Tree) × (m.descriptors ≢ []) × IsTreeOf tables m.descriptors tree
    × IsBareDataOf tree m.compressed m.subsets data_bits

pub bits_found : Below → (tables : Entries) (m : Message) (data_bits : List Bool)
    → data_bits_or tables m ≡ Ok data_bits → HasBits tables m data_bits
unfolding data_bits_or
bits_found below tables m data_bits found =
    let list = bind_ok (some_descriptors m.descriptors) _ data_bits found in
    let some = descriptors_take m.descriptors list.0 list.1 in
    let tree = bind_ok (template_or (template tables list.0)) _ data_bits list.2 in
    let built = step_takes template_passes (template tables list.0) tree.0 tree.1 in
    let held = written_bits tree.0 m.compressed m.subsets in
    let written = step_takes data_passes held data_bits tree.2 in (
      tree.0,
      some.0,
      subst (λ (ds : List ℕ). IsTreeOf tables ds tree.0) (sym some.1)
          ((below.builds tables list.0 tree.0).0 built),
      (below.writes tree.0 m.compressed m.subsets data_bits).0 written,
    )

at_least_one : (ds : List ℕ) → ds ≢ [] → 0 < length ds
at_least_one [] some = absurd (some refl)
at_least_one (d ∷ ds) some = omega arith

-- ---- together

spells_written : Below
    → (tables : Entries) (m : Message) (octets : List ℕ) (data_bits : List Bool) → NumbersFit m
    → HasBits tables m data_bits → enclosed_or m data_bits ≡ Ok octets
    → SpellsBare tables m octets
spells_written below tables m octets data_bits fit (tree, some, has, holds) e =
    let whole = whole_octets_spelt data_bits in
    let told : Envelope = envelope_with m (whole_octets data_bits) in
    let held = below.bare tree m.compressed m.subsets data_bits holds in
    let limits = limits_take told octets (step_takes data_passes (spelt_or told) octets e) in
    record {
      spells = record {
        layout = Edition4;
        contents = whole_octets data_bits;
        ignored = nothing_ignored;
        fits = record {
          head = fit.head;
          section2 = fit.section2;
          some_descriptor = at_least_one m.descriptors some;
          descriptors = fit.descriptors;
          count = limits.0;
          contents = whole.1;
          total = limits.1;
          ignored = (
            omega arith,
            omega arith,
            omega arith,
            omega arith,
            omega arith,
            All-nil IsOctet,
            omega arith,
          );
        };
        spelled = limits.2;
        tree = tree;
        template = has;
        data_bits = data_bits;
        rest = replicate (fill data_bits) false;
        begins = whole.0;
        holds = held;
        after = fill_short data_bits;
        alone = alone_in_edition_4 below.shortest tree m (whole_octets data_bits) nothing_ignored
            data_bits (replicate (fill data_bits) false) whole.0 held limits.1;
      };
      edition = refl;
      nothing = refl;
      bare = holds;
      zeros = ap (λ n. replicate n false) (sym (length-replicate (fill data_bits) false));
    }

pub bare_when_written : Below → (tables : Entries) (m : Message) (octets : List ℕ) → NumbersFit m
    → code tables m ≡ Ok octets → SpellsBare tables m octets
unfolding code
bare_when_written below tables m octets fit ok =
    let found = bind_ok (data_bits_or tables m) (enclosed_or m) octets ok in
    let has = bits_found below tables m found.0 found.1 in
    spells_written below tables m octets found.0 fit has found.2

pub read_when_written : Below → (tables : Entries) (m : Message) (octets : List ℕ) → NumbersFit m
    → code tables m ≡ Ok octets
    → message_of tables octets ≡ Ok (record { message = m; slack_octets = 0 })
read_when_written below tables m octets fit ok =
    message_of_spelt below tables octets m 0 (bare_when_written below tables m octets fit ok).spells
