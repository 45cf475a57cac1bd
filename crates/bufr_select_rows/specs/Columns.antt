-- The columns of a row: their words and their order (this project's own).
use Rattle.std.specs.Prelude.{◌≡◌, ◌≢◌, ℕ, ◌<◌, ◌^◌, true, List, [], ◌∷◌, ◌++◌, ◌==◌, codes, map, decimal}
use Rattle.std.specs.List.{IsDistinct, list_any, slice_split}
use Rattle.std.specs.Str.{bytes_eq}
use Rattle.bufr_tables.specs.Descriptors.{IsDescriptor, six_digits}
use Rattle.bufr_select_rows.specs.declared.column_words.ColumnsFault.{ColumnsFault}
use Rattle.bufr_select_rows.specs.declared.column_words.ColumnsFault.TheVariants as faults
use Rattle.bufr_select_rows.specs.declared.column.Column.{Column}
use Rattle.bufr_select_rows.specs.declared.column.Column.TheVariants as columns
use Rattle.bufr_select_rows.specs.declared.fact.Fact.{Fact}
use Rattle.bufr_select_rows.specs.declared.fact.Fact.TheVariants.{Input, Message, Place, Subset}
use Rattle.bufr_select_rows.specs.declared.fact.Fact.TheVariants.{Centre, SubCentre, Update}
use Rattle.bufr_select_rows.specs.declared.fact.Fact.TheVariants.{Category, International}
use Rattle.bufr_select_rows.specs.declared.fact.Fact.TheVariants.{LocalCategory, MasterVersion}
use Rattle.bufr_select_rows.specs.declared.fact.Fact.TheVariants.{LocalVersion, Year, Month, Day}
use Rattle.bufr_select_rows.specs.declared.fact.Fact.TheVariants.{Hour, Minute, Second, Observed}
use Rattle.bufr_select_rows.specs.declared.fact.Fact.TheVariants.{Compressed}

-- ---- words

-- the word of a fact about a subset as a whole
unfoldable pub told_word : Fact → List ℕ
told_word Input = codes "input"
told_word Message = codes "message"
told_word Place = codes "place"
told_word Subset = codes "subset"
told_word Centre = codes "centre"
told_word SubCentre = codes "sub_centre"
told_word Update = codes "update"
told_word Category = codes "category"
told_word International = codes "international"
told_word LocalCategory = codes "local_category"
told_word MasterVersion = codes "master_version"
told_word LocalVersion = codes "local_version"
told_word Year = codes "year"
told_word Month = codes "month"
told_word Day = codes "day"
told_word Hour = codes "hour"
told_word Minute = codes "minute"
told_word Second = codes "second"
told_word Observed = codes "observed"
told_word Compressed = codes "compressed"

-- all facts about a subset as a whole, in their order
unfoldable pub all_told : List Fact
all_told =
    Input ∷ Message ∷ Place ∷ Subset ∷ Centre ∷ SubCentre ∷ Update ∷ Category ∷ International
    ∷ LocalCategory ∷ MasterVersion ∷ LocalVersion ∷ Year ∷ Month ∷ Day ∷ Hour ∷ Minute ∷ Second
    ∷ Observed ∷ Compressed ∷ []

-- no fact about a subset as a whole has this word
abbrev pub IsNoToldWord : List ℕ → Type 0
IsNoToldWord text = (fact : Fact) → told_word fact ≢ text

-- the word of a column: that of its fact; or the six digits of its descriptor; or these, `#` and a number
abbrev pub word : Column → List ℕ
word (columns.Fact fact) = told_word fact
word (columns.First d) = six_digits d
word (columns.Nth d n) = six_digits d ++ 35 ∷ decimal n

-- a column can be: its descriptor has 16 bits, and its number counts from 1 and has 64 bits
abbrev pub IsColumn : Column → Type 0
IsColumn (columns.Fact fact) = Unit {0}
IsColumn (columns.First d) = IsDescriptor d
IsColumn (columns.Nth d n) = IsDescriptor d × (0 < n) × (n < 2 ^ 64)

-- no column has this word
abbrev pub IsNoColumn : List ℕ → Type 0
IsNoColumn text = (column : Column) → IsColumn column → word column ≢ text

-- ---- the columns of a text

-- the words of a text, with commas between them
abbrev pub words_of : List ℕ → List (List ℕ)
words_of text = slice_split (λ c. c == 44) text

-- columns have the words of a text before this one, and no word is there twice
pub record NamesUpTo (text here : List ℕ) : Type 0 where
  pub columns : List Column
  pub after : List (List ℕ)
  pub parted : words_of text ≡ map word columns ++ here ∷ after
  pub distinct : IsDistinct bytes_eq (map word columns)

-- why a text names no columns: the first word that no column has, or that is there before
abbrev pub RefusesColumns : List ℕ → ColumnsFault → Type 0
RefusesColumns text (faults.NoColumn here) = NamesUpTo text here.now × IsNoColumn here.now
RefusesColumns text (faults.Twice here) = (names : NamesUpTo text here.now)
    × (list_any (λ before. bytes_eq before here.now) (map word names.columns) ≡ true)
RefusesColumns text faults.OutOfMemory = Unit {0}
