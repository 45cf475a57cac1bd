-- Texts and messages for the worked examples.
use Rattle.std.specs.Prelude.{ℕ, ◌++◌, codes, List, [], ◌∷◌, map, true, Some, ℤ, pos}
use Rattle.std.specs.Prelude.{Result, Ok, Err}
use Rattle.std.specs.List.{flat_map}
use Rattle.bufr_tables.specs.declared.element.Kind.{Kind}
use Rattle.bufr_tables.specs.declared.element.Kind.TheVariants as kinds
use Rattle.bufr_base.specs.Answers.{result_map}
use Rattle.bufr_tables.specs.Descriptors.{descriptor}
use Rattle.bufr_expand.specs.declared.operators.Spec.{Spec}
use Rattle.bufr_expand.specs.Samples.{sample}
use Rattle.bufr_fields.specs.declared.field.Field.{Field}
use Rattle.bufr_fields.specs.declared.field.Raw.{Raw}
use Rattle.bufr_fields.specs.declared.field.Raw.TheVariants.{Number}
use Rattle.bufr_sections.specs.declared.message.Message.{Message}
use Rattle.bufr_sections.specs.Samples.{head4}
use Rattle.bufr_listing.specs.declared.fault.ListingFault.{ListingFault}
use Rattle.bufr_listing_reader.specs.FieldLines.{read_field}
use Rattle.bufr_listing.specs.Listings.{listing, value_word}
use Rattle.bufr_listing_reader.specs.Reading.{messages_listed}

-- ---- texts

-- the lines of a message before its subset
abbrev pub listing_head : List ℕ
listing_head =
    codes "message\nsection1 98 0 0 0 2 0 37 0\ntime 2024 1 15 12 0 0\nflags observed\n"
    ++ codes "descriptors 001001 001002 004001 004002 004003 004004 004005 012101\n"

-- the lines of the subset before its last field
abbrev pub listing_fields : List ℕ
listing_fields =
    codes "subset\n001001 10\n001002 384\n004001 2024\n004002 1\n004003 15\n004004 12\n004005 0\n"

-- the joined listings of the messages that a text lists
abbrev pub listed_again : List ℕ → List ℕ
listed_again text = listings_or_none (messages_listed sample text)
  where
    listings_or_none : Result (List Message) ListingFault → List ℕ
    listings_or_none (Ok messages) = flat_map listing messages
    listings_or_none (Err fault) = []

-- what reading returns for each text that begins with `front`
abbrev pub read_each : List ℕ → List (List ℕ) → List (Result (List Message) ListingFault)
read_each front others = map (λ other. messages_listed sample (front ++ other)) others

-- the first three lines of a message
abbrev pub numbers_of_head : List ℕ
numbers_of_head = codes "message\nsection1 1 2 3 4 5 6 7 8\ntime 2024 9 10 11 12 13\n"

-- ---- a message

-- the spec of a number
abbrev pub number_spec : ℤ → ℤ → ℕ → Spec
number_spec scale reference width =
    record { kind = kinds.Quantity; scale = scale; reference = reference; width = width }

-- a block number
abbrev pub block_field : ℕ → Field
block_field n =
    record {
      fxy = descriptor 0 1 1;
      spec = number_spec (pos 0) (pos 0) 7;
      raw = Number n;
    }

-- a temperature in hundredths of a kelvin
abbrev pub temperature_field : ℕ → Field
temperature_field n =
    record {
      fxy = descriptor 0 12 101;
      spec = number_spec (pos 2) (pos 0) 16;
      raw = Number n;
    }

-- a message with a different number at each place of section 1, octets for local use in both
-- sections, both flags and two subsets
abbrev pub each_part : Message
each_part =
    record {
      head = record head4 { local = 15 ∷ 160 ∷ [] };
      section2 = Some (171 ∷ 205 ∷ []);
      observed = true;
      compressed = true;
      descriptors = descriptor 0 1 1 ∷ descriptor 0 12 101 ∷ [];
      subsets =
          record { fields = block_field 10 ∷ temperature_field 27315 ∷ [] }
          ∷ record { fields = block_field 127 ∷ temperature_field 65535 ∷ [] } ∷ [];
    }

-- its lines before those of the octets for local use
abbrev pub each_part_before : List ℕ
each_part_before = codes "message\nsection1 258 772 5 6 7 8 9 10\ntime 2828 13 14 15 16 17\n"

-- its lines after them
abbrev pub each_part_behind : List ℕ
each_part_behind =
    codes "flags observed compressed\ndescriptors 001001 012101\n"
    ++ codes "subset\n001001 10\n012101 273.15\nsubset\n001001 missing\n012101 missing\nend\n"

-- ---- values

-- what reading returns for a word as the value of a field of this spec, at line 7
abbrev pub word_read : Spec → List ℕ → Result Raw ListingFault
word_read spec word =
    result_map (λ f. f.raw) (read_field (descriptor 0 1 1) spec 7 (codes "001001 " ++ word))

-- the word of a raw value of this spec, and what reading returns for it
abbrev pub listed_and_read : Kind → ℤ → ℤ → ℕ → Raw → List ℕ × Result Raw ListingFault
listed_and_read kind scale reference width raw = (word, word_read spec word)
  where
    spec : Spec
    spec = record { kind = kind; scale = scale; reference = reference; width = width }

    word : List ℕ
    word = value_word (record { fxy = descriptor 0 1 1; spec = spec; raw = raw })

-- what reading returns for words as the value of a field of this spec
abbrev pub words_read : Kind → ℤ → ℤ → ℕ → List (List ℕ) → List (Result Raw ListingFault)
words_read kind scale reference width words =
    map (word_read (record { kind = kind; scale = scale; reference = reference; width = width }))
    words
