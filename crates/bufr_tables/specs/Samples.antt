-- Sample table files as records, with one column more than needed.
use Rattle.std.specs.Prelude.{ℕ, List, [], ◌∷◌, codes, Result, Ok, pos}
use Rattle.bufr_tables.specs.declared.element.Element.{Element}
use Rattle.bufr_tables.specs.declared.element.Kind.TheVariants as kinds
use Rattle.bufr_tables.specs.declared.table_faults.TableFault.{TableFault}
use Rattle.bufr_base.specs.Answers.{◌>>=◌}
use Rattle.bufr_tables.specs.Fields.{Record}
use Rattle.bufr_tables.specs.ElementJoins.{with_element}
use Rattle.bufr_tables.specs.Rows.{element_row, member_row, with_member, no_sequences}
use Rattle.bufr_tables.specs.Rows.{all_sequences}
use Rattle.bufr_tables.specs.TableFiles.{after_file, columns_b, columns_d}

-- the header of a Table B
abbrev pub header_b : Record
header_b =
    codes "FXY" ∷ codes "Name" ∷ codes "BUFR_Unit" ∷ codes "BUFR_Scale"
    ∷ codes "BUFR_ReferenceValue" ∷ codes "BUFR_DataWidth_Bits" ∷ []

-- the titles that Table B needs
abbrev pub titles_b : Record
titles_b =
    codes "FXY" ∷ codes "BUFR_Unit" ∷ codes "BUFR_Scale" ∷ codes "BUFR_ReferenceValue"
    ∷ codes "BUFR_DataWidth_Bits" ∷ []

-- a row of Table B
abbrev pub row_b : List ℕ → List ℕ → List ℕ → List ℕ → List ℕ → Record
row_b fxy unit scale reference width =
    fxy ∷ codes "x" ∷ unit ∷ scale ∷ reference ∷ width ∷ []

-- a row of a temperature, with the given data width
abbrev pub temperature : List ℕ → Record
temperature width = row_b (codes "012101") (codes "K") (codes "2") (codes "0") width

-- the element of a temperature of 16 bits
abbrev pub kelvins : Element
kelvins = record { kind = kinds.Quantity; scale = pos 2; reference = pos 0; width = 16 }

-- a record with only its name filled
abbrev pub named : Record
named = row_b [] [] [] [] []

-- the Table B of these records
abbrev pub file_b : List Record → Result (List (ℕ × Element)) TableFault
file_b rows = after_file columns_b element_row with_element [] (header_b ∷ rows)

-- the header of a Table D
abbrev pub header_d : Record
header_d = codes "FXY1" ∷ codes "Name" ∷ codes "FXY2" ∷ []

-- the titles that Table D needs
abbrev pub titles_d : Record
titles_d = codes "FXY1" ∷ codes "FXY2" ∷ []

-- a row of Table D: a sequence and one of its members
abbrev pub member : List ℕ → List ℕ → Record
member d m = d ∷ codes "x" ∷ m ∷ []

-- the Table D of these records
abbrev pub file_d : List Record → Result (List (ℕ × List ℕ)) TableFault
file_d rows =
    after_file columns_d member_row with_member no_sequences (header_d ∷ rows)
    >>= λ all. Ok (all_sequences all)
