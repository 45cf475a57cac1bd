-- The fields of the row of a message (private contracts).
use Rattle.std.specs.Prelude.{◌≡◌, ℕ, ◌-◌, Bool, codes, decimal, drop, get_or, length, List, Ok, take, [], ◌∷◌, ◌++◌}
use Rattle.std.specs.Int.{from_bool}
use Rattle.std.specs.List.{join_by}
use Rattle.bufr_tables.specs.Descriptors.{six_digits}
use Rattle.bufr_sections.specs.declared.message.Head.{Head}
use Rattle.bufr_sections.specs.Sections.{AreOctets, Envelope, descriptors_of, envelope_of}
use Rattle.bufr_sections.specs.SectionsRead.{head4_with}
use Rattle.bufr_ls_engine.specs.Columns.{all_columns}
use Rattle.bufr_ls_engine.specs.Rows.{edition_of}
use Rattle.bufr_ls_engine.specs.declared.column.Column.{Column}
use Rattle.bufr_ls_engine.specs.declared.column.Column.TheVariants.{MasterVersion}
use Rattle.bufr_ls_engine.specs.declared.column_list.Shape.{Shape}
use Rattle.bufr_ls_engine.specs.declared.column_list.Shape.TheVariants as shapes
use Rattle.bufr_ls_engine.specs.declared.last_head.LastHead.{LastHead}
use Rattle.bufr_ls_engine.specs.declared.numbers.Number.{Number}
use Rattle.bufr_ls_engine.specs.declared.numbers.Number.TheVariants as numbers

-- the text of a number
abbrev pub number_text : Number → List ℕ
number_text numbers.Empty = []
number_text (numbers.Octet n) = decimal n
number_text (numbers.Count n) = decimal n
number_text (numbers.Long n) = decimal n
number_text (numbers.Wide n) = decimal n

-- these texts, each with a comma after it, and then the rest
abbrev pub texts_before : List (List ℕ) → List ℕ → List ℕ
texts_before [] rest = rest
texts_before (text ∷ texts) rest = text ++ 44 ∷ texts_before texts rest

-- the numbers of a row from the edition on
abbrev pub numbers_from : ℕ → Head → ℕ → Bool → Bool → List (List ℕ)
numbers_from edition head count observed compressed =
    decimal edition ∷ decimal head.centre ∷ decimal head.sub_centre ∷ decimal head.update
    ∷ decimal head.category ∷ decimal head.international ∷ decimal head.local_category ∷ decimal 0
    ∷ decimal head.master_version ∷ decimal head.local_version ∷ decimal head.year
    ∷ decimal head.month ∷ decimal head.day ∷ decimal head.hour ∷ decimal head.minute
    ∷ decimal head.second ∷ decimal count ∷ decimal (from_bool observed)
    ∷ decimal (from_bool compressed) ∷ []

-- these and the descriptors, with the end of the line
abbrev pub fields_from : ℕ → Head → ℕ → Bool → Bool → List ℕ → List ℕ
fields_from edition head count observed compressed descriptors =
    texts_before (numbers_from edition head count observed compressed)
    (join_by six_digits (32 ∷ []) descriptors ++ 44 ∷ 10 ∷ [])

-- the fields of a message after the length, with the end of the line
abbrev pub fields_after_length : List ℕ → Envelope → List ℕ
fields_after_length octets e =
    fields_from (edition_of octets) e.head e.count e.observed e.compressed e.descriptors

-- the text is these fields of a message of edition 4, whose octets from the edition to the second
-- are `head`
abbrev pub AreFieldsOf : List ℕ → ℕ → Bool → Bool → List ℕ → List ℕ → Type 0
AreFieldsOf head count observed compressed listed text = (get_or head 0 0 ≡ 4)
    × (text ≡ fields_from 4 (head4_with (drop 4 head) []) count observed compressed
    (descriptors_of listed))

-- octets have this head and the end of a message
abbrev pub HasHead : LastHead → List ℕ → Type 0
HasHead h octets = (length octets ≡ h.total) × (take 32 octets ≡ h.first)
    × (take 32 (drop h.at octets) ≡ h.last) × (drop (length octets - 4) octets ≡ codes "7777")

-- messages with this head have this version of the master tables, and these fields
abbrev pub SaysAgain : LastHead → ℕ → List ℕ → Type 0
SaysAgain h version fields = (octets : List ℕ) → AreOctets octets → HasHead h octets
    → (e : Envelope) × (envelope_of octets ≡ Ok e) × (e.head.master_version ≡ version)
    × (fields ≡ fields_after_length octets e)

-- columns of a shape
abbrev pub HasShape : Shape → List Column → Type 0
HasShape shapes.MasterVersion columns = columns ≡ MasterVersion ∷ []
HasShape shapes.All columns = columns ≡ all_columns
HasShape shapes.Any columns = Unit {0}
