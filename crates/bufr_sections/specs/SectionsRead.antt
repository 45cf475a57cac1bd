-- Sections of the program as the definitions see them, and heads by the places of their octets.
use Rattle.std.specs.Prelude.{ℕ, List, get_or}
use Rattle.bufr_fields.specs.declared.field.Subset.{Subset}
use Rattle.bufr_sections.specs.declared.message.Head.{Head}
use Rattle.bufr_sections.specs.declared.message.Message.{Message}
use Rattle.bufr_sections.specs.declared.envelope.Envelope.{Envelope}
use Rattle.bufr_sections.specs.declared.lent_sections.LentSections.{LentSections}
use Rattle.bufr_sections.specs.Sections as said

-- the sections as read
abbrev pub envelope : Envelope → said.Envelope
envelope e =
    record {
      head = e.head;
      section2 = e.section2;
      observed = e.observed;
      compressed = e.compressed;
      descriptors = said.descriptors_of e.listed.now;
      count = e.count;
      contents = e.contents.now;
    }

-- lent sections, of a message of `count` subsets with `contents` in section 4 from its fifth octet
-- on
abbrev pub envelope_lent : LentSections → ℕ → List ℕ → said.Envelope
envelope_lent s count contents =
    record {
      head = s.head.now;
      section2 = s.section2.now;
      observed = s.observed;
      compressed = s.compressed;
      descriptors = s.descriptors.now;
      count = count;
      contents = contents;
    }

-- the message of lent sections and subsets
abbrev pub message_lent : LentSections → List Subset → Message
message_lent s subsets =
    record {
      head = s.head.now;
      section2 = s.section2.now;
      observed = s.observed;
      compressed = s.compressed;
      descriptors = s.descriptors.now;
      subsets = subsets;
    }

-- the head of edition 3 from section 1 after its length: octets 5 to 17, with these octets for
-- local use
abbrev pub head3_with : List ℕ → List ℕ → Head
head3_with octets local =
    record {
      centre = get_or octets 2 0;
      sub_centre = get_or octets 1 0;
      update = get_or octets 3 0;
      category = get_or octets 5 0;
      international = 255;
      local_category = get_or octets 6 0;
      master_version = get_or octets 7 0;
      local_version = get_or octets 8 0;
      year = said.year_of_century (get_or octets 9 0);
      month = get_or octets 10 0;
      day = get_or octets 11 0;
      hour = get_or octets 12 0;
      minute = get_or octets 13 0;
      second = 0;
      local = local;
    }

-- the head of edition 4 from section 1 after its length: octets 5 to 22, with these octets for
-- local use
abbrev pub head4_with : List ℕ → List ℕ → Head
head4_with octets local =
    record {
      centre = said.two (get_or octets 1 0) (get_or octets 2 0);
      sub_centre = said.two (get_or octets 3 0) (get_or octets 4 0);
      update = get_or octets 5 0;
      category = get_or octets 7 0;
      international = get_or octets 8 0;
      local_category = get_or octets 9 0;
      master_version = get_or octets 10 0;
      local_version = get_or octets 11 0;
      year = said.two (get_or octets 12 0) (get_or octets 13 0);
      month = get_or octets 14 0;
      day = get_or octets 15 0;
      hour = get_or octets 16 0;
      minute = get_or octets 17 0;
      second = get_or octets 18 0;
      local = local;
    }
