-- The index keeps a start for each subset, and the bits from its start to its end are its own.
use Rattle.std.proofs.Common.{◌≡◌, ℕ, ◌+◌, ◌-◌, ◌*◌, ◌<◌, ◌≤◌, Bool, List, [], ◌∷◌, ◌++◌, length}
use Rattle.std.proofs.Common.{take, arith, length-append, map, drop, Result, Ok, refl, sym, ap, subst, ◌∙◌}
use Rattle.std.specs.Prelude.{IsOk}
use Rattle.bufr_data.proofs.ListFacts.{all_grown, map_grown}
use Rattle.bufr_bits.specs.Bits.{bits}
use Rattle.bufr_expand.specs.Courses.{course}
use Rattle.bufr_expand.specs.Trees.{Tree}
use Rattle.bufr_fields.specs.declared.field.Subset.{Subset}
use Rattle.bufr_fields.specs.declared.fault.DataFault.{DataFault}
use Rattle.bufr_data.specs.declared.plain.index.SubsetStart.{SubsetStart}
use Rattle.bufr_data.specs.Plain.{SubsetRead, SubsetsRead, plain, fields_at, subsets_at}
use Rattle.bufr_data.specs.Plain.Numbered.{numbered, after}
use Rattle.bufr_data.specs.Plain.Starts.{rest_of, PassesSubset, fields_of, subset_at, subset_from, BeginsAtStart}
use Rattle.bufr_data.specs.Plain.Starts.{AllBegin}
use Rattle.std.proofs.Math.Seq.{take-append_seam}
use Rattle.bufr_base.specs.AnswerLaws.{ok_value}
use Rattle.std.proofs.lemmas.List.{length-drop}
use Rattle.bufr_bits.specs.OctetLaws.{length-bits}
use Rattle.bufr_data.proofs.PlainFacts.{fields_at-found}
use Rattle.bufr_data.proofs.PlainFacts.Subsets.{fields_at_numbered, one_more}

pub read_there : (octets : List ℕ) (tree : Tree) (s : SubsetStart) (front rest : List Bool) (items : ℕ)
    → front ≡ drop s.bit (bits octets)
    → (p : PassesSubset (fields_at 1 1 (course tree s.used) front) items rest)
    → subset_at octets tree s ≡ Ok (record { fields = p.0; items = items; rest = rest })
read_there octets tree s front rest items is p =
    ap (fields_at 1 1 (course tree s.used)) (sym is) ∙ p.1

pub here_is : (octets : List ℕ) (tree : Tree) (s : SubsetStart) (front rest : List Bool) (items : ℕ)
    → front ≡ drop s.bit (bits octets)
    → (p : PassesSubset (fields_at 1 1 (course tree s.used) front) items rest)
    → ◌≡◌ {A = Subset} (record { fields = p.0 }) (subset_from octets tree s)
here_is octets tree s front rest items is p =
    λ t. record { fields = fields_of (sym (read_there octets tree s front rest items is p) t) }

pub one_stands : (octets : List ℕ) (tree : Tree) (s : SubsetStart) (front rest : List Bool)
    (items : ℕ)
    (starts grown : List SubsetStart) → grown ≡ starts ++ s ∷ [] → front ≡ drop s.bit (bits octets)
    → s.bit ≤ 8 * length octets → rest ≡ drop s.end (bits octets) → s.end ≤ 8 * length octets
    → AllBegin octets tree starts
    → PassesSubset (fields_at 1 1 (course tree s.used) front) items rest
    → AllBegin octets tree grown
one_stands octets tree s front rest items starts grown is there inside behind ends all p =
    let read = read_there octets tree s front rest items there p in
    all_grown (BeginsAtStart octets tree) starts grown s is all
    (inside, subst IsOk (sym read) refl, ends, ap rest_of read ∙ behind)

pub bits_between : (octets : List ℕ) (tree : Tree) (s : SubsetStart) → BeginsAtStart octets tree s
    → (s.bit ≤ s.end)
    × (take (s.end - s.bit) (drop s.bit (bits octets))
    ≡ plain (fields_of (subset_at octets tree s)))
bits_between octets tree s begins =
    let read = ok_value (subset_at octets tree s) begins.1 in
    let f = read.0 in
    let front_is =
    (fields_at-found 1 1 (course tree s.used) (drop s.bit (bits octets)) f read.1).1 in
    let rest_is : f.rest ≡ drop s.end (bits octets) = ap rest_of (sym read.1) ∙ begins.3 in
    let whole : s.bit + length (plain f.fields) ≡ s.end =
    omega (
      arith,
      length-drop s.bit (bits octets),
      length-drop s.end (bits octets),
      length-bits octets,
      ap length front_is,
      length-append (plain f.fields) f.rest,
      ap length rest_is,
      begins.0,
      begins.2,
    ) in
    let size : s.end - s.bit ≡ length (plain f.fields) = omega (arith, whole) in (
      omega (arith, whole),
      (λ i. take (size i) (front_is i)) ∙ take-append_seam (plain f.fields) f.rest
          ∙ ap (λ r. plain (fields_of r)) (sym read.1),
    )

pub one_start : (octets : List ℕ) (tree : Tree) (s : SubsetStart) (n index : ℕ)
    (front rest : List Bool) (items : ℕ) (starts grown : List SubsetStart)
    (all : Result SubsetsRead DataFault) → grown ≡ starts ++ s ∷ []
    → front ≡ drop s.bit (bits octets) → index < n
    → all ≡ after (map (subset_from octets tree) starts)
    (subsets_at (course tree) (index + 1) (n - index) s.used front)
    → PassesSubset (fields_at 1 1 (course tree s.used) front) items rest
    → all ≡ after (map (subset_from octets tree) grown)
    (subsets_at (course tree) (index + 1 + 1) (n - (index + 1)) items rest)
one_start octets tree s n index front rest items starts grown all is there below so_far p =
    let first : SubsetRead = record { fields = p.0; items = items; rest = rest } in
    let found : fields_at (index + 1) 1 (course tree s.used) front ≡ Ok first =
    fields_at_numbered (index + 1) 1 (course tree s.used) front
    ∙ ap (numbered (index + 1)) p.1 in
    let here = here_is octets tree s front rest items there p in
    let same : map (subset_from octets tree) starts ++ record { fields = p.0 } ∷ []
    ≡ map (subset_from octets tree) grown =
    ap (λ (x : Subset). map (subset_from octets tree) starts ++ x ∷ []) here
    ∙ sym (map_grown (subset_from octets tree) starts grown s is) in
    one_more (course tree) n index s.used front
    (map (subset_from octets tree) starts) all first below so_far found
    ∙ ap (λ subsets. after subsets
    (subsets_at (course tree) (index + 1 + 1) (n - (index + 1)) items rest)) same
