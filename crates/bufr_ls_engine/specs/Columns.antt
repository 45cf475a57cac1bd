-- The columns of a row: their words and their order (this project's own).
use Rattle.std.specs.Prelude.{◌≡◌, ◌≢◌, ℕ, true, List, [], ◌∷◌, ◌++◌, ◌==◌, codes, map}
use Rattle.std.specs.List.{IsDistinct, list_any, slice_split}
use Rattle.std.specs.Str.{bytes_eq}
use Rattle.bufr_ls_engine.specs.declared.columns.ColumnsFault.{ColumnsFault}
use Rattle.bufr_ls_engine.specs.declared.columns.ColumnsFault.TheVariants as faults
use Rattle.bufr_ls_engine.specs.declared.column.Column.{Column}
use Rattle.bufr_ls_engine.specs.declared.column.Column.TheVariants.{Input, Message, Place, Length}
use Rattle.bufr_ls_engine.specs.declared.column.Column.TheVariants.{Edition, Centre, SubCentre}
use Rattle.bufr_ls_engine.specs.declared.column.Column.TheVariants.{Update, Category, International}
use Rattle.bufr_ls_engine.specs.declared.column.Column.TheVariants.{LocalCategory, MasterTable}
use Rattle.bufr_ls_engine.specs.declared.column.Column.TheVariants.{MasterVersion, LocalVersion}
use Rattle.bufr_ls_engine.specs.declared.column.Column.TheVariants.{Year, Month, Day, Hour, Minute}
use Rattle.bufr_ls_engine.specs.declared.column.Column.TheVariants.{Second, Subsets, Observed}
use Rattle.bufr_ls_engine.specs.declared.column.Column.TheVariants.{Compressed, Descriptors, Reason}

-- the word of a column in the header line
unfoldable pub word : Column → List ℕ
word Input = codes "input"
word Message = codes "message"
word Place = codes "place"
word Length = codes "length"
word Edition = codes "edition"
word Centre = codes "centre"
word SubCentre = codes "sub_centre"
word Update = codes "update"
word Category = codes "category"
word International = codes "international"
word LocalCategory = codes "local_category"
word MasterTable = codes "master_table"
word MasterVersion = codes "master_version"
word LocalVersion = codes "local_version"
word Year = codes "year"
word Month = codes "month"
word Day = codes "day"
word Hour = codes "hour"
word Minute = codes "minute"
word Second = codes "second"
word Subsets = codes "subsets"
word Observed = codes "observed"
word Compressed = codes "compressed"
word Descriptors = codes "descriptors"
word Reason = codes "reason"

-- all columns, in their order
unfoldable pub all_columns : List Column
all_columns =
    Input ∷ Message ∷ Place ∷ Length ∷ Edition ∷ Centre ∷ SubCentre ∷ Update ∷ Category
    ∷ International ∷ LocalCategory ∷ MasterTable ∷ MasterVersion ∷ LocalVersion
    ∷ Year ∷ Month ∷ Day ∷ Hour ∷ Minute ∷ Second ∷ Subsets ∷ Observed ∷ Compressed ∷ Descriptors
    ∷ Reason ∷ []

-- no column has this word
abbrev pub IsNoColumn : List ℕ → Type 0
IsNoColumn text = (column : Column) → word column ≢ text

-- ---- the columns of a text

-- the words of a text, with commas between them
abbrev pub words_of : List ℕ → List (List ℕ)
words_of text = slice_split (λ c. c == 44) text

-- columns have the words of a text before this one, and no word is there twice
pub record NamesUpTo (text here : List ℕ) : Type 0 where
  pub columns : List Column
  pub after : List (List ℕ)
  pub parted : words_of text ≡ map word columns ++ here ∷ after
  pub distinct : IsDistinct bytes_eq (map word columns)

-- why a text names no columns: the first word that no column has, or that is there before
abbrev pub RefusesColumns : List ℕ → ColumnsFault → Type 0
RefusesColumns text (faults.NoColumn here) = NamesUpTo text here.now × IsNoColumn here.now
RefusesColumns text (faults.Twice here) = (names : NamesUpTo text here.now)
    × (list_any (λ before. bytes_eq before here.now) (map word names.columns) ≡ true)
RefusesColumns text faults.OutOfMemory = Unit {0}
