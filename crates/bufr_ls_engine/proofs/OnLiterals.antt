-- What opens the definitions on literals: for the worked values, which the gate computes.
use Rattle.std.specs.Fmt.{digits}
use Rattle.bufr_sections.specs.Reasons.{reason}
use Rattle.bufr_sections.specs.Sections.{description_of, descriptors_of, envelope_of, head3_of}
use Rattle.bufr_sections.specs.Sections.{head4_of, room_in, room_of, section_at, sections_of}
use Rattle.bufr_ls_engine.specs.Columns.{all_columns, word}
use Rattle.bufr_ls_engine.specs.Rows.{field_as, refused_in, said_in}

-- opens the definitions on octets and numbers
unfoldable pub rows_on_literals : Unit {0}
unfolding digits reason description_of descriptors_of envelope_of head3_of head4_of room_in room_of
    section_at sections_of all_columns word field_as refused_in said_in
rows_on_literals = tt
