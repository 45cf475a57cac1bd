-- The octets that `spell` writes: edition 4, with zeros in all that readers ignore (FM 94 BUFR,
-- WMO-No. 306 Volume I.2: sections 0 to 5).
use Rattle.std.specs.Prelude.{ℕ, ◌+◌, ◌||◌, Bool, List, ◌∷◌, ◌++◌, length, Result, Ok, Err, nat_lt}
use Rattle.std.specs.Prelude.{if◌then◌else◌}
use Rattle.std.specs.List.{flat_map}
use Rattle.std.specs.Int.{bytes_high_first}
use Rattle.bufr_fields.specs.declared.fault.MisfitFault.{MisfitFault}
use Rattle.bufr_fields.specs.declared.fault.MisfitFault.TheVariants.{TooLarge}
use Rattle.bufr_sections.specs.declared.layout.Layout.TheVariants.{Edition4}
use Rattle.bufr_sections.specs.declared.spelling.TheConstants.{LONGEST, MOST_SUBSETS}
use Rattle.bufr_sections.specs.Sections.{Envelope, nothing_ignored, section, flag, spelling}

-- section 3 with zeros in all that readers ignore, and no odd octet
abbrev pub bare_section3 : ℕ → Bool → Bool → List ℕ → List ℕ
bare_section3 count observed compressed descriptors = section
    (0 ∷ bytes_high_first 2 count ++ (flag observed 128 + flag compressed 64 + 0)
    ∷ flat_map (bytes_high_first 2) descriptors)

-- the greatest number of subsets, in two octets of section 3
abbrev pub most_subsets : ℕ
most_subsets = MOST_SUBSETS

-- the greatest number of octets, in three octets of section 0
abbrev pub longest : ℕ
longest = LONGEST

-- the octets of sections in edition 4, with zeros in all that readers ignore
abbrev pub bare : Envelope → List ℕ
bare e = spelling Edition4 e nothing_ignored

-- the octets that `spell` writes, unless there are too many subsets or octets
unfoldable pub spelt_or : Envelope → Result (List ℕ) MisfitFault
spelt_or e =
    if nat_lt most_subsets e.count || nat_lt longest (length (bare e)) then Err TooLarge
    else Ok (bare e)
