-- Unfolds the definitions on literals: for the worked values.
use Rattle.bufr_bits.specs.Bits.{bin, number, numbers, number_at, numbers_at}
use Rattle.bufr_tables.specs.Entries.{at}
use Rattle.bufr_expand.specs.Expansion.{expand_list, expand_within}
use Rattle.bufr_expand.specs.Trees.{tree_within}
use Rattle.bufr_expand.specs.Courses.{turns, course_then}
use Rattle.bufr_data.specs.Plain.{fields_at, subsets_at}
use Rattle.bufr_fields.specs.Forms.{items_of, items_of_all}
use Rattle.bufr_data.specs.Compressed.Reading.{columns_at}
use Rattle.bufr_fields.specs.Increments.{fewest_bits}
use Rattle.bufr_data.specs.Compressed.Best.{columns_of}
use Rattle.bufr_sections.specs.Sections.{sections, spelling, room_in, room_of, section_at, head4_of}
use Rattle.bufr_sections.specs.Sections.{head3_of, descriptors_of, description_of, sections_of}
use Rattle.bufr_sections.specs.Sections.{envelope_of}
use Rattle.bufr_sections.specs.Spelt.{spelt_or}
use Rattle.bufr_message.specs.Messages.{message_in, message_of}
use Rattle.bufr_message.specs.Encodings.{data_bits_or, code}
use Rattle.bufr_gather.specs.Texts.{summary}

-- unfolds them
unfoldable pub archives_on_literals : Unit {0}
unfolding bin number numbers number_at numbers_at at expand_list expand_within tree_within turns
    course_then fields_at subsets_at items_of items_of_all columns_at columns_of fewest_bits
    sections spelling room_in room_of section_at head4_of head3_of descriptors_of description_of
    sections_of envelope_of spelt_or message_in message_of data_bits_or code summary
archives_on_literals = tt
