-- The contents of Tables B and D, by descriptor in ascending order (FM 94 BUFR, Tables B and D).
use Rattle.std.specs.Prelude.{ℕ, ◌≡◌, ◌==◌, ◌<◌, false, List, [], ◌∷◌, Option, Some, None}
use Rattle.std.specs.Prelude.{if◌then◌else◌}
use Rattle.bufr_tables.specs.declared.element.Element.{Element}
use Rattle.bufr_tables.specs.declared.element.Kind.TheVariants as kinds
use Rattle.bufr_tables.specs.Elements.{same_kind}

-- the tables: pairs of a descriptor and its element, and of a sequence and its descriptors
pub record Entries : Type 0 where
  pub elements : List (ℕ × Element)
  pub sequences : List (ℕ × List ℕ)

-- looks up a descriptor in a list of pairs
unfoldable pub at : {X : Type 0} → ℕ → List (ℕ × X) → Option X
at d [] = None
at d (e ∷ es) = if e.0 == d then Some e.1 else at d es

-- the element of a descriptor in Table B
abbrev pub element : Entries → ℕ → Option Element
element tables d = at d tables.elements

-- the descriptors of a sequence in Table D
abbrev pub sequence : Entries → ℕ → Option (List ℕ)
sequence tables d = at d tables.sequences

-- the descriptors ascend, so each has one entry
abbrev pub Rising : {X : Type 0} → List (ℕ × X) → Type 0
Rising [] = Unit {0}
Rising (a ∷ []) = Unit {0}
Rising (a ∷ b ∷ es) = (a.0 < b.0) × Rising (b ∷ es)

-- no element has the kind Count, which is for the factors of replications
abbrev pub NoCounts : List (ℕ × Element) → Type 0
NoCounts [] = Unit {0}
NoCounts (e ∷ es) = (same_kind e.1.kind kinds.Count ≡ false) × NoCounts es

-- what every Table B holds: ascending descriptors and no element of the kind Count
abbrev pub AreElements : List (ℕ × Element) → Type 0
AreElements es = Rising es × NoCounts es
