-- Opens the definitions on literals: for the worked values, which the gate computes.
use Rattle.std.specs.Fmt.{digits}
use Rattle.hex.specs.Hex.{encode_with}
use Rattle.csv.specs.Writing.{escaped, fields_text, is_blank}
use Rattle.bufr_select_rows.specs.Columns.{all_told, told_word}
use Rattle.bufr_select_rows.specs.Rows.{before_each, spans, told_number}
use Rattle.bufr_select_rows.specs.Values.{trimmed}

-- opens the definitions on octets and numbers
unfoldable pub rows_on_literals : Unit {0}
unfolding digits encode_with escaped fields_text is_blank all_told told_word before_each spans
    told_number trimmed
rows_on_literals = tt
