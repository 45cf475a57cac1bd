-- Opens the definitions on literals: for the worked frames, which the gate computes.
use Rattle.std.specs.Fmt.{digits}
use Rattle.csv.specs.Writing.{escaped, fields_text, is_blank}
use Rattle.bufr_bits.specs.Bits.{bin, number, number_at, numbers, numbers_at}
use Rattle.bufr_tables.specs.Entries.{at}
use Rattle.bufr_expand.specs.Courses.{course_then, turns}
use Rattle.bufr_expand.specs.Expansion.{expand_list, expand_within}
use Rattle.bufr_expand.specs.Trees.{tree_within}
use Rattle.bufr_fields.specs.Forms.{items_of, items_of_all}
use Rattle.bufr_data.specs.Plain.{fields_at, subsets_at}
use Rattle.bufr_sections.specs.Reasons.{reason}
use Rattle.bufr_sections.specs.Sections.{description_of, descriptors_of, envelope_of, head4_of}
use Rattle.bufr_sections.specs.Sections.{room_in, room_of, section_at, sections_of}
use Rattle.bufr_message.specs.Messages.{message_in, message_of}
use Rattle.bufr_select_rows.specs.Columns.{told_word}
use Rattle.bufr_select_rows.specs.Rows.{before_each, spans, told_number}
use Rattle.bufr_select_rows.specs.Pairs.{message_under}

-- opens the definitions on octets and numbers
unfoldable pub frames_on_literals : Unit {0}
unfolding digits escaped fields_text is_blank reason envelope_of room_of told_word before_each spans
    told_number message_under bin number number_at numbers numbers_at at course_then turns
    expand_list expand_within tree_within items_of items_of_all fields_at subsets_at description_of
    descriptors_of head4_of room_in section_at sections_of message_in message_of
frames_on_literals = tt
