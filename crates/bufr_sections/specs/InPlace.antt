-- Section 1 by the places of its octets (FM 94 BUFR, specification of section 1).
use Rattle.std.specs.Prelude.{◌≡◌, ℕ, List, drop, Result, Ok, Err}
use Rattle.bufr_sections.specs.declared.fault.Refused.{Refused}
use Rattle.bufr_sections.specs.declared.message.Head.{Head}
use Rattle.bufr_sections.specs.declared.layout.Layout.{Layout}
use Rattle.bufr_sections.specs.declared.layout.Layout.TheVariants.{Edition3, Edition4}
use Rattle.bufr_sections.specs.SectionsRead.{head3_with, head4_with}

-- the head that section 1 has after its length
abbrev pub head_in : Layout → List ℕ → Head
head_in Edition4 one = head4_with one (drop 19 one)
head_in Edition3 one = head3_with one (drop 14 one)

-- the result, seen by `view`, is the one meant
abbrev pub Finds : {X Y : Type 0} → (X → Y) → Result X Refused → Result Y Refused → Type 0
Finds view (Ok x) meant = meant ≡ Ok (view x)
Finds view (Err e) meant = meant ≡ Err e
