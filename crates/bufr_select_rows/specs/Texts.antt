-- The texts of cells: nothing, octets, or a number whose digits a row shows.
use Rattle.std.specs.Prelude.{ℕ, List, [], decimal, ◌+ℤ◌, pos}
use Rattle.bufr_fields.specs.Values.{decimal_within}
use Rattle.bufr_listing.specs.Listings.{number_word}
use Rattle.bufr_select_rows.specs.declared.text.TextForm.{TextForm}
use Rattle.bufr_select_rows.specs.declared.text.TextForm.TheVariants as standing
use Rattle.bufr_select_rows.specs.declared.text.Sum as declared

-- the digits of a raw number plus its reference value, by their scale
abbrev pub sum_word : declared.Sum → List ℕ
sum_word s = number_word (decimal_within (pos s.number +ℤ s.reference) s.scale)

-- the octets that a text shows, given those that it holds
abbrev pub text_of : TextForm → List ℕ → List ℕ
text_of standing.Empty octets = []
text_of standing.Octets octets = octets
text_of (standing.Sum s) octets = sum_word s
text_of (standing.Count n) octets = decimal n
