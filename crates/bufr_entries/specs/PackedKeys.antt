-- Packed keys: two numbers of 64 bits and a sub-centre.
use Rattle.std.specs.Prelude.{ℕ, ◌+◌, ◌*◌, ◌/◌, ◌%◌, ◌^◌, pos}
use Rattle.bufr_entries.specs.declared.key.Key.{Key}
use Rattle.bufr_entries.specs.declared.key.Moment.{Moment}
use Rattle.bufr_entries.specs.declared.key.Station.TheVariants.{Wmo}
use Rattle.bufr_entries.specs.declared.key_start.KeyHead.{KeyHead}
use Rattle.bufr_entries.specs.declared.packed_key.WmoWords.{WmoWords}

-- `count` bits of a number from bit `from` on; bit 0 is the lowest
abbrev pub bits : ℕ → ℕ → ℕ → ℕ
bits number from count = number / 2 ^ from % 2 ^ count

-- the head in the high word: centre in bits 48 to 63, data category in 40 to 47, international
-- sub-category in 32 to 39, local one in 24 to 31
abbrev pub wmo_head : ℕ → KeyHead
wmo_head high = record {
  centre = bits high 48 16;
  category = bits high 40 8;
  international = bits high 32 8;
  local_category = bits high 24 8;
}

-- the moment in the low word: year in bits 40 to 55, month in 32 to 39, day in 24 to 31, hour in 16
-- to 23, minute in 8 to 15, second in 0 to 7
abbrev pub wmo_moment : ℕ → Moment
wmo_moment low = record {
  year = bits low 40 16;
  month = bits low 32 8;
  day = bits low 24 8;
  hour = bits low 16 8;
  minute = bits low 8 8;
  second = bits low 0 8;
}

-- the key: the block in bits 8 to 23 of the high word; the high octet of the number in bits 0 to 7
-- of the high word, the low octet in bits 56 to 63 of the low word
abbrev pub wmo_key : WmoWords → ℕ → Key
wmo_key words sub_centre = record {
  centre = (wmo_head words.high).centre;
  category = (wmo_head words.high).category;
  international = (wmo_head words.high).international;
  local_category = (wmo_head words.high).local_category;
  station = Wmo (pos (bits words.high 8 16))
      (pos (bits words.high 0 8 * 2 ^ 8 + bits words.low 56 8));
  moment = wmo_moment words.low;
  sub_centre = sub_centre;
}

-- the key of a WMO station of these parts
abbrev pub wmo_key_of : KeyHead → ℕ → ℕ → Moment → ℕ → Key
wmo_key_of head block number moment sub_centre = record {
  centre = head.centre;
  category = head.category;
  international = head.international;
  local_category = head.local_category;
  station = Wmo (pos block) (pos number);
  moment = moment;
  sub_centre = sub_centre;
}
