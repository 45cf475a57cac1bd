-- Writing refuses a message for the first cause of the descriptors, the template, the subsets and
-- the limits, and takes messages that octets spell: for the laws on writing.
use Rattle.std.proofs.Common.{◌≡◌, ◌≢◌, ◌⊎◌, ℕ, ◌-◌, ◌/◌, ◌%◌, ◌^◌, ◌<◌, ◌≤◌, Bool, true, false}
use Rattle.std.proofs.Common.{get_or, List, [], ◌∷◌, ◌++◌, length, replicate, Result, Ok, Err, refl}
use Rattle.std.proofs.Common.{sym, ap, subst, ◌∙◌, arith, inl, inr}
use Rattle.std.proofs.lemmas.Bool.{cases_lt}
use Rattle.std.proofs.lemmas.List.{get_or_past}
use Rattle.bufr_bits.specs.Bits.{bits}
use Rattle.bufr_base.specs.Answers.{◌>>=◌}
use Rattle.bufr_tables.specs.Entries.{Entries}
use Rattle.bufr_expand.specs.Templates.{template}
use Rattle.bufr_expand.specs.Trees.{Tree}
use Rattle.bufr_fields.specs.declared.fault.MisfitFault.TheVariants.{TooLarge}
use Rattle.bufr_data.specs.Data.{IsDataOf, IsBareDataOf, written_bits}
use Rattle.bufr_data.specs.Compressed.{Column}
use Rattle.bufr_data.specs.Compressed.Best.{CanBePacked}
use Rattle.bufr_sections.specs.declared.message.Message.{Message}
use Rattle.bufr_sections.specs.declared.layout.Layout.{Layout}
use Rattle.bufr_sections.specs.declared.layout.Layout.TheVariants.{Edition4}
use Rattle.bufr_sections.specs.declared.fault.EncodeFault.{EncodeFault}
use Rattle.bufr_sections.specs.declared.fault.EncodeFault.TheVariants.{NoDescriptors, Template, Data}
use Rattle.bufr_sections.specs.Sections.{AreOctets, Envelope, Ignored, nothing_ignored, spelling}
use Rattle.bufr_sections.specs.Spelt.{bare, most_subsets, longest, spelt_or}
use Rattle.bufr_message.specs.Messages.{envelope_with, Spells}
use Rattle.bufr_message.specs.Encodings.{whole_octets, some_descriptors, template_or, data_or}
use Rattle.bufr_message.specs.Encodings.{data_bits_or, enclosed_or, SpellsBare, code}
use Rattle.bufr_data.specs.Subsets.{filled}
use Rattle.bufr_message.specs.Refusals.{IsTooLong, IsFirstEncodeFault}
use Rattle.bufr_base.specs.AnswerLaws.{bind_err, err_is}
use Rattle.bufr_message.specs.Below.{Below}
use Rattle.bufr_message.proofs.EncodingFacts.{whole_octets_are}
use Rattle.bufr_message.proofs.LengthFacts.{contents_hold}
use Rattle.bufr_message.proofs.StepFacts.{step_takes, step_refuses}
use Rattle.bufr_message.proofs.WrittenFacts.{whole_octets_long, descriptors_take, template_passes}
use Rattle.bufr_message.proofs.WrittenFacts.{data_passes, tells_limits, HasBits, bits_found}

-- ---- causes of each step

descriptors_refuse : (ds : List ℕ) (fault : EncodeFault) → some_descriptors ds ≡ Err fault
    → (ds ≡ []) × (NoDescriptors ≡ fault)
descriptors_refuse [] fault e = (refl, cc)
descriptors_refuse (d ∷ ds) fault e = absurd cc

descriptors_are : (ds : List ℕ) → ds ≢ [] → some_descriptors ds ≡ Ok ds
descriptors_are [] some = absurd (some refl)
descriptors_are (d ∷ ds) some = refl

abbrev pub told : Message → List Bool → Envelope
told m data_bits = envelope_with m (whole_octets data_bits)

limits_refuse : (m : Message) (data_bits : List Bool) (fault : EncodeFault)
    → enclosed_or m data_bits ≡ Err fault → IsTooLong m data_bits × (Data TooLarge ≡ fault)
limits_refuse m data_bits fault refused =
    let d = step_refuses data_passes (spelt_or (told m data_bits)) fault refused in
    elim (tells_limits (told m data_bits)) [
      | inl within ↦ absurd (let no = sym d.1 ∙ within.2 in cc)
      | inr past ↦ (past.0, ap (λ why. Data why) (err_is _ _ (sym past.1 ∙ d.1)) ∙ d.2)
    ]

-- ---- a refusal is the first fault

abbrev held : Message → Tree → Result (List Bool) EncodeFault
held m tree = data_or (written_bits tree m.compressed m.subsets)

abbrev templated : Entries → Message → List ℕ → Result (List Bool) EncodeFault
templated tables m list = template_or (template tables list) >>= held m

tree_fault : Below → (tables : Entries) (m : Message) (fault : EncodeFault) → m.descriptors ≢ []
    → templated tables m m.descriptors ≡ Err fault → IsFirstEncodeFault tables m fault
tree_fault below tables m fault some refused =
    elim (bind_err (template_or (template tables m.descriptors)) (held m) fault refused) [
      | inl not_so ↦
          let t = step_refuses template_passes (template tables m.descriptors) fault not_so in
          subst (IsFirstEncodeFault tables m) t.2
          (some, (below.refuses tables m.descriptors t.0).0 t.1)
      | inr tree ↦
          let d =
          step_refuses data_passes (written_bits tree.0 m.compressed m.subsets) fault tree.2 in
          let expanded = template tables m.descriptors in
          let has = (below.builds tables m.descriptors tree.0).0
          (step_takes template_passes expanded tree.0 tree.1) in
          let first = (below.unwritten tree.0 m.compressed m.subsets d.0).0 d.1 in
          subst (IsFirstEncodeFault tables m) d.2 (tree.0, some, has, inl first)
    ]

bits_fault : Below → (tables : Entries) (m : Message) (fault : EncodeFault)
    → data_bits_or tables m ≡ Err fault → IsFirstEncodeFault tables m fault
unfolding data_bits_or
bits_fault below tables m fault refused =
    elim (bind_err (some_descriptors m.descriptors) (templated tables m) fault refused) [
      | inl not_so ↦ let d = descriptors_refuse m.descriptors fault not_so in
          subst (IsFirstEncodeFault tables m) d.1 d.0
      | inr list ↦
          let d = descriptors_take m.descriptors list.0 list.1 in
          tree_fault below tables m fault d.0
          (subst (λ (ds : List ℕ). templated tables m ds ≡ Err fault) (sym d.1) list.2)
    ]

pub fault_when_unwritten : Below → (tables : Entries) (m : Message) (fault : EncodeFault)
    → code tables m ≡ Err fault → IsFirstEncodeFault tables m fault
unfolding code
fault_when_unwritten below tables m fault refused =
    elim (bind_err (data_bits_or tables m) (enclosed_or m) fault refused) [
      | inl not_so ↦ bits_fault below tables m fault not_so
      | inr found ↦
          let f = bits_found below tables m found.0 found.1 in
          let l = limits_refuse m found.0 fault found.2 in
          subst (IsFirstEncodeFault tables m) l.1 (f.0, f.1, f.2, inr (refl, found.0, f.3, l.0))
    ]

-- ---- the first fault is the refusal

pub bits_are : Below → (tables : Entries) (m : Message) (data_bits : List Bool)
    → HasBits tables m data_bits → data_bits_or tables m ≡ Ok data_bits
unfolding data_bits_or
bits_are below tables m data_bits (tree, some, has, held_bare) =
    let found = (below.builds tables m.descriptors tree).1 has in
    let written = (below.writes tree m.compressed m.subsets data_bits).1 held_bare in
    rw (descriptors_are m.descriptors some, found, written) refl

too_long_refuses : (m : Message) (data_bits : List Bool) → IsTooLong m data_bits
    → enclosed_or m data_bits ≡ Err (Data TooLarge)
too_long_refuses m data_bits long = elim (tells_limits (told m data_bits)) [
  | inl within ↦ absurd (omega (arith, long, within.0, within.1))
  | inr past ↦ ap data_or past.1
]

pub unwritten_when_fault : Below → (tables : Entries) (m : Message) (fault : EncodeFault)
    → IsFirstEncodeFault tables m fault → code tables m ≡ Err fault
unfolding code data_bits_or
unwritten_when_fault below tables m NoDescriptors none = rw none refl
unwritten_when_fault below tables m (Template why) (some, refused) =
    rw (descriptors_are m.descriptors some, (below.refuses tables m.descriptors why).1 refused) refl
unwritten_when_fault below tables m (Data why) (tree, some, has, inl misfit) =
    let found = (below.builds tables m.descriptors tree).1 has in
    rw (
      descriptors_are m.descriptors some,
      found,
      (below.unwritten tree m.compressed m.subsets why).1 misfit,
    ) refl
unwritten_when_fault below tables m (Data why)
    (tree, some, has, inr (same, data_bits, held_bare, long)) =
    rw (
      bits_are below tables m data_bits (tree, some, has, held_bare),
      too_long_refuses m data_bits long,
      same,
    ) refl

-- ---- messages that octets spell

bits_are_short : (data_bits rest : List Bool) (contents : List ℕ)
    → bits contents ≡ data_bits ++ rest → length (whole_octets data_bits) ≤ length contents
bits_are_short data_bits rest contents begins =
    let whole = whole_octets_long data_bits in
    let all = contents_hold data_bits rest contents begins in
    omega arith

pub some_are : (ds : List ℕ) → 0 < length ds → ds ≢ []
some_are ds one = λ none. let size = ap length none in absurd (omega arith)

pub code_within : Below → (tables : Entries) (m : Message) (data_bits : List Bool)
    → HasBits tables m data_bits → length m.subsets ≤ most_subsets
    → length (bare (told m data_bits)) ≤ longest → code tables m ≡ Ok (bare (told m data_bits))
unfolding code
code_within below tables m data_bits has few short = elim (tells_limits (told m data_bits)) [
  | inl within ↦ rw (bits_are below tables m data_bits has, within.2) refl
  | inr past ↦ absurd (omega (arith, few, short, past.0))
]

-- data that leave no choice are no longer than those in the octets, so writing takes the message
spelt_has_code : Below
    → (tables : Entries) (m : Message) (octets : List ℕ) (slack : ℕ)
    (s : Spells tables m octets slack) → s.layout ≡ Edition4
    → IsBareDataOf s.tree m.compressed m.subsets s.data_bits
    → code tables m ≡ Ok (bare (told m s.data_bits))
spelt_has_code below tables m octets slack s four nothing_free =
    let some = some_are m.descriptors s.fits.some_descriptor in
    let e = envelope_with m s.contents in
    let contents = bits_are_short s.data_bits s.rest s.contents s.begins in
    let no_longer = below.shortest e (told m s.data_bits) s.ignored (omega arith) (omega arith)
    (omega arith) contents in
    let total : length (spelling Edition4 e s.ignored) < 2 ^ 24 =
    subst (λ (l : Layout). length (spelling l e s.ignored) < 2 ^ 24) four s.fits.total in
    let many = s.fits.count in
    code_within below tables m s.data_bits (s.tree, some, s.template, nothing_free) (omega arith)
    (omega arith)

pub plain_is_written : Below
    → (tables : Entries) (m : Message) (octets : List ℕ) (slack : ℕ)
    (s : Spells tables m octets slack) → s.layout ≡ Edition4 → m.compressed ≡ false
    → (written : List ℕ) × (code tables m ≡ Ok written)
plain_is_written below tables m octets slack s four plain =
    let here = subst (λ (c : Bool). IsDataOf s.tree c m.subsets s.data_bits) plain s.holds in
    let held_bare = below.plain s.tree m.subsets s.data_bits here in
    let no_choice =
    subst (λ (c : Bool). IsBareDataOf s.tree c m.subsets s.data_bits) (sym plain) held_bare in
    (bare (told m s.data_bits), spelt_has_code below tables m octets slack s four no_choice)

pub packable_is_written : Below → (tables : Entries) (m : Message) (octets : List ℕ) (slack : ℕ)
    → Spells tables m octets slack → m.compressed ≡ true → (columns : List Column)
    → CanBePacked m.subsets columns
    → ((written : List ℕ) × (code tables m ≡ Ok written)) ⊎ (code tables m ≡ Err (Data TooLarge))
unfolding code
packable_is_written below tables m octets slack s packed columns can =
    let here = subst (λ (c : Bool). IsDataOf s.tree c m.subsets s.data_bits) packed s.holds in
    let found = below.packable s.tree m.subsets columns s.data_bits here can in
    let held_bare =
    subst (λ (c : Bool). IsBareDataOf s.tree c m.subsets found.0) (sym packed) found.1 in
    let some = some_are m.descriptors s.fits.some_descriptor in
    let data_bits = bits_are below tables m found.0 (s.tree, some, s.template, held_bare) in
    elim (tells_limits (told m found.0)) [
      | inl within ↦ inl (bare (told m found.0), rw (data_bits, within.2) refl)
      | inr past ↦ inr (rw (data_bits, past.1) refl)
    ]

octet_at_any : (octets : List ℕ) (i : ℕ) → AreOctets octets → get_or octets i 0 < 256
octet_at_any octets i all = elim (cases_lt i (length octets)) [
  | inl lt ↦ all i 0 lt
  | inr le ↦ let none = get_or_past octets i 0 le in omega arith
]

contents_are : (data_bits rest : List Bool) (contents : List ℕ) → AreOctets contents
    → bits contents ≡ data_bits ++ rest → 0 ≡ length rest / 8 → rest ≡ replicate (length rest) false
    → whole_octets data_bits ≡ contents
contents_are data_bits rest contents all begins few zeros =
    let long = contents_hold data_bits rest contents begins in
    let added : length rest ≡ (8 - length data_bits % 8) % 8 = omega arith in
    let same : bits contents ≡ filled data_bits =
    begins ∙ ap (λ xs. data_bits ++ xs) (zeros ∙ ap (λ n. replicate n false) added) in
    whole_octets_are contents data_bits (λ i. octet_at_any contents i all) same

pub bare_is_written : Below → (tables : Entries) (m : Message) (octets : List ℕ)
    → SpellsBare tables m octets → code tables m ≡ Ok octets
bare_is_written below tables m octets b =
    let s = b.spells in
    let contents =
    contents_are s.data_bits s.rest s.contents s.fits.contents s.begins s.after b.zeros in
    spelt_has_code below tables m octets 0 s b.edition b.bare
    ∙ ap (λ (xs : List ℕ). Ok (spelling Edition4 (envelope_with m xs) nothing_ignored)) contents
    ∙ ap (λ (i : Ignored). Ok (spelling Edition4 (envelope_with m s.contents) i)) (sym b.nothing)
    ∙ ap (λ (l : Layout). Ok (spelling l (envelope_with m s.contents) s.ignored)) (sym b.edition)
    ∙ ap (λ (xs : List ℕ). Ok xs) (sym s.spelled)
