-- What the worked frames speak of: pairs of tables, a message and refused frames.
use Rattle.std.specs.Prelude.{ℕ, true, false, List, [], ◌∷◌, ◌++◌, Option, None, codes}
use Rattle.bufr_expand.specs.Samples.{sample}
use Rattle.bufr_fields.specs.declared.field.Field.{Field}
use Rattle.bufr_message.specs.declared.Message.{Message}
use Rattle.bufr_message.specs.ReportSamples.{temperature4}
use Rattle.bufr_sections.specs.Samples.{head4, hex}
use Rattle.bufr_select_rows.specs.declared.column.Column.{Column}
use Rattle.bufr_select_engine.specs.Selected.{Selection}
use Rattle.bufr_select_rows.specs.declared.pairs.VersionTables.{VersionTables}

-- a pair of tables without rows, for versions up to this one
abbrev pub pair_to : Option ℕ → VersionTables
pair_to greatest =
    record { greatest = greatest; reader = record { elements = []; sequences = [] } }

-- columns of messages under a pair for all versions
abbrev pub chosen : List Column → Option ℕ → Selection
chosen columns each = record { pairs = pair_to None ∷ []; columns = columns; each = each }

-- a message of two subsets with these fields, of the head whose centre is 258
abbrev pub message_with : List Field → List Field → Message
message_with first second = record {
  head = head4;
  section2 = None;
  observed = true;
  compressed = false;
  descriptors = [];
  subsets = record { fields = first } ∷ record { fields = second } ∷ [];
}

-- a frame of twelve octets, of the edition 5
abbrev pub refused_frame : List ℕ
refused_frame = hex (codes "42554652 00000C 05 37373737")

-- two streams with three of them, and a stream without a frame between these
abbrev pub refused_streams : List (List ℕ)
refused_streams = (refused_frame ++ 0 ∷ refused_frame) ∷ [] ∷ refused_frame ∷ []

-- columns of messages under the tables of the examples
abbrev pub read : List Column → Selection
read columns = record {
  pairs = record { greatest = None; reader = sample } ∷ [];
  columns = columns;
  each = None;
}

-- two streams without a frame, and one with a refused frame before a temperature of 273.15 K
abbrev pub read_streams : List (List ℕ)
read_streams = [] ∷ [] ∷ (refused_frame ++ temperature4 (codes "80")) ∷ []
