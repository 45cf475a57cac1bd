-- What the worked values speak of: frames whose numbers all differ.
use Rattle.std.specs.Prelude.{ℕ, List, [], ◌∷◌, ◌++◌, codes}
use Rattle.bufr_sections.specs.Samples.{framed, hex, plain1, announcing1, short_section3, usual1}
use Rattle.bufr_ls_engine.specs.Columns.{all_columns}
use Rattle.bufr_ls_engine.specs.Rows.{row}
use Rattle.bufr_ls_engine.specs.declared.column.Column.{Column}
use Rattle.bufr_ls_engine.specs.declared.column.Column.TheVariants.{Edition, Input, Length, MasterTable}
use Rattle.bufr_ls_engine.specs.declared.column.Column.TheVariants.{Message, Place, Reason}

-- the row of these octets, the seventh frame of the third input, at the place 1840
abbrev pub full_row : List ℕ → List ℕ
full_row octets = row all_columns 3 7 (record { place = 1840; bytes = octets })

-- a line of these words
abbrev pub line_of : List ℕ → List ℕ
line_of text = text ++ 10 ∷ []

-- a frame of twelve octets of this edition
abbrev pub shortest_of : List ℕ → List ℕ
shortest_of edition = hex (codes "42554652 00000C" ++ edition ++ codes "37373737")

-- a frame of edition 4 whose section 1 is longer than the room
abbrev pub long_section1 : List ℕ
long_section1 = framed (codes "000022 04") (usual1 (codes "000017 00") (codes "00"))

-- a master table that is not 0
abbrev pub other_table : List ℕ
other_table = framed (codes "000022 04") (usual1 (codes "000016 0A") (codes "00"))

-- a section 2 that is too short
abbrev pub short_section2 : List ℕ
short_section2 = framed (codes "000025 04") (announcing1 ++ hex (codes "000003"))

-- a section 3 that is too short
abbrev pub short_description : List ℕ
short_description = framed (codes "00002A 04") (plain1 ++ hex (codes "000008 00 0001 80 00"))

-- a section 4 that is too short
abbrev pub short_section4 : List ℕ
short_section4 = framed (codes "00002E 04") (plain1 ++ short_section3 ++ hex (codes "000003"))

-- columns in another order; a refused frame has some of them
abbrev pub some_columns : List Column
some_columns = Reason ∷ MasterTable ∷ Edition ∷ Length ∷ Place ∷ Message ∷ Input ∷ []
