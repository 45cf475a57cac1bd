-- A message by its parts in the order of their lines: for `read_message` and the laws of listings.
use Rattle.std.proofs.Common.{◌≡◌, ℕ, List, length, codes, Result, Ok}
use Rattle.std.specs.Prelude.{Option}
use Rattle.bufr_base.specs.Answers.{◌>>=◌}
use Rattle.bufr_base.specs.AnswerLaws.{bind_ok, ok_is}
use Rattle.bufr_tables.specs.Entries.{Entries}
use Rattle.bufr_expand.specs.Courses.{course}
use Rattle.bufr_fields.specs.declared.field.Subset.{Subset}
use Rattle.bufr_sections.specs.declared.message.Head.{Head}
use Rattle.bufr_sections.specs.declared.message.Message.{Message}
use Rattle.bufr_listing.specs.declared.fault.ListingFault.{ListingFault}
use Rattle.bufr_listing_reader.specs.Lines.{Line}
use Rattle.bufr_listing_reader.specs.Reading.{with_rest, read_line, read_if, read_word, read_numbers}
use Rattle.bufr_listing_reader.specs.Reading.{read_local, read_section2, Flags, read_flags, Described}
use Rattle.bufr_listing_reader.specs.Reading.{read_descriptors, SubsetsListed, subsets_read}
use Rattle.bufr_listing_reader.specs.Reading.{section1_limits, time_limits, head_with, MessageRead}
use Rattle.bufr_listing_reader.specs.Reading.{message_read}

-- ---- what follows each part

-- the message of these parts
abbrev pub message_with : Head → Option (List ℕ) → Flags → Described → List Subset → Message
message_with head two flags list subsets =
    record {
      head = head;
      section2 = two;
      observed = flags.observed;
      compressed = flags.compressed;
      descriptors = list.descriptors;
      subsets = subsets;
    }

abbrev pub from_subsets : ℕ → Head → Option (List ℕ) → Flags → Described → List Line
    → Result MessageRead ListingFault
from_subsets past head two flags list ls =
    subsets_read (length ls) past (course list.tree) 0 ls
    >>= λ found. with_rest found.rest (message_with head two flags list found.subsets)

abbrev pub from_descriptors : Entries → ℕ → Head → Option (List ℕ) → Flags → List Line
    → Result MessageRead ListingFault
from_descriptors tables past head two flags ls =
    read_line (read_descriptors tables) past ls
    >>= λ list. from_subsets past head two flags list.0 list.1

abbrev pub from_flags : Entries → ℕ → Head → Option (List ℕ) → List Line
    → Result MessageRead ListingFault
from_flags tables past head two ls =
    read_line read_flags past ls >>= λ flags. from_descriptors tables past head two flags.0 flags.1

abbrev pub from_section2 : Entries → ℕ → Head → List Line → Result MessageRead ListingFault
from_section2 tables past head ls =
    read_if (codes "section2") read_section2 ls >>= λ two. from_flags tables past head two.0 two.1

-- ---- the parts as read

-- the parts of a message, each with the lines after it
pub record MessageParts (tables : Entries) (past : ℕ) (ls : List Line) (x : MessageRead) : Type 0
  where
    pub begin : Unit {0} × List Line
    pub numbers : List ℕ × List Line
    pub time : List ℕ × List Line
    pub local : Option (List ℕ) × List Line
    pub two : Option (List ℕ) × List Line
    pub flags : Flags × List Line
    pub list : Described × List Line
    pub found : SubsetsListed
    pub begins : read_line (read_word (codes "message")) past ls ≡ Ok begin
    pub has_numbers : read_line (read_numbers (codes "section1") section1_limits) past begin.1
        ≡ Ok numbers
    pub has_time : read_line (read_numbers (codes "time") time_limits) past numbers.1 ≡ Ok time
    pub has_local : read_if (codes "local1") read_local time.1 ≡ Ok local
    pub has_two : read_if (codes "section2") read_section2 local.1 ≡ Ok two
    pub has_flags : read_line read_flags past two.1 ≡ Ok flags
    pub has_list : read_line (read_descriptors tables) past flags.1 ≡ Ok list
    pub has_found : subsets_read (length list.1) past (course list.0.tree) 0 list.1 ≡ Ok found
    pub is : (
      message_with (head_with numbers.0 time.0 local.0) two.0 flags.0 list.0 found.subsets,
      found.rest,
    ) ≡ x

pub message_parts : (tables : Entries) (past : ℕ) (ls : List Line) (x : MessageRead)
    → message_read tables past ls ≡ Ok x → MessageParts tables past ls x
unfolding message_read
message_parts tables past ls x h =
    let begin = bind_ok (read_line (read_word (codes "message")) past ls) _ x h in
    let numbers =
    bind_ok (read_line (read_numbers (codes "section1") section1_limits) past begin.0.1) _ x
    begin.2 in
    let time =
    bind_ok (read_line (read_numbers (codes "time") time_limits) past numbers.0.1) _ x numbers.2 in
    let local = bind_ok (read_if (codes "local1") read_local time.0.1) _ x time.2 in
    let two = bind_ok (read_if (codes "section2") read_section2 local.0.1) _ x local.2 in
    let flags = bind_ok (read_line read_flags past two.0.1) _ x two.2 in
    let list = bind_ok (read_line (read_descriptors tables) past flags.0.1) _ x flags.2 in
    let found =
    bind_ok (subsets_read (length list.0.1) past (course list.0.0.tree) 0 list.0.1) _ x list.2 in
    record {
      begin = begin.0;
      numbers = numbers.0;
      time = time.0;
      local = local.0;
      two = two.0;
      flags = flags.0;
      list = list.0;
      found = found.0;
      begins = begin.1;
      has_numbers = numbers.1;
      has_time = time.1;
      has_local = local.1;
      has_two = two.1;
      has_flags = flags.1;
      has_list = list.1;
      has_found = found.1;
      is = ok_is _ _ found.2;
    }
