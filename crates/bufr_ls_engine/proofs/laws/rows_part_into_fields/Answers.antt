-- The clauses of `rows_part_into_fields`.
use Rattle.bufr_ls_engine.specs.Columns.{word}
use Rattle.bufr_ls_engine.specs.Rows.{field}
use Rattle.bufr_ls_engine.proofs.FieldFacts.{field_plain, parts_are, word_plain}
use Rattle.bufr_ls_engine.proofs.laws.rows_part_into_fields.Goals as goal

-- each field is plain, and so a line parts into its fields
pub returns : goal.returns
returns c =
    let plain = field_plain c.refusals_of_sections_are_the_first.ensures.theirs in
    record {
      plain = plain;
      fields = λ first others input message frame.
          parts_are (λ column. field column input message frame) first others
          (λ column. plain column input message frame);
      words = λ first others. parts_are word first others word_plain;
    }
