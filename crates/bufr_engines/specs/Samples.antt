-- The frame, message and counts of the examples: all their numbers differ.
use Rattle.std.specs.Prelude.{true, false, [], ◌∷◌, None, codes}
use Rattle.bufr_frame.specs.declared.frames.Found.{Found}
use Rattle.bufr_message.specs.declared.Decoded.{Decoded}
use Rattle.bufr_io.specs.declared.fault.Tally.{Tally}

-- a frame of twelve octets at the place 1840
abbrev pub frame_of_12 : Found
frame_of_12 = record { place = 1840; bytes = codes "BUFR....7777" }

-- a message of three subsets without a field, with five octets of section 4 after its data
abbrev pub three_subsets : Decoded
three_subsets = record {
  message = record {
    head = record {
      centre = 98;
      sub_centre = 0;
      update = 0;
      category = 0;
      international = 2;
      local_category = 0;
      master_version = 37;
      local_version = 0;
      year = 2024;
      month = 1;
      day = 15;
      hour = 12;
      minute = 0;
      second = 0;
      local = [];
    };
    section2 = None;
    observed = true;
    compressed = false;
    descriptors = [];
    subsets = record { fields = [] } ∷ record { fields = [] } ∷ record { fields = [] } ∷ [];
  };
  slack_octets = 5;
}

-- counts that all differ
abbrev pub counted : Tally
counted = record { frames = 47; refused = 12; skipped = 305; reports = 28 }
