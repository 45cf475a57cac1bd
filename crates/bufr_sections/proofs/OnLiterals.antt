-- The definitions that the worked examples open.
use Rattle.bufr_sections.specs.Sections.{sections, spelling, room_in, room_of, section_at, head4_of}
use Rattle.bufr_sections.specs.Sections.{head3_of, descriptors_of, description_of, sections_of}
use Rattle.bufr_sections.specs.Sections.{envelope_of}
use Rattle.bufr_sections.specs.Spelt.{spelt_or}

unfoldable pub sections_on_literals : Unit {0}
unfolding sections spelling room_in room_of section_at head4_of head3_of descriptors_of
    description_of sections_of envelope_of spelt_or
sections_on_literals = tt
