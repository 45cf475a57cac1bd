-- The value of an argument in the rows of the command that the line names.
use Rattle.std.proofs.Common.{◌≡◌, [], ap, refl, ◌∙◌, Option, Some, None, option_map, unwrap_or}
use Rattle.std.proofs.Common.{Bor}
use Rattle.clap.specs.Words.{Text, first_of, subcommand_rows_of, rows_of, found_of}
use Rattle.clap.proofs.WalkLemmas.{first_value-rows}
use Rattle.bufr_tool.proofs.CommandFacts.{in_rows}
use Rattle.bufr_tool.proofs.command_line.value.Goals as goal

text_or : (o : Option (Bor Text)) (fallback : Bor Text)
    → (unwrap_or o fallback).now ≡ unwrap_or (option_map (λ s. s.now) o) fallback.now
text_or None fallback = refl
text_or (Some s) fallback = refl

pub returns-in-Some : goal.returns-in-Some
returns-in-Some c =
    ap (λ (b : Bor Text). b.now) c.unwrap_or.ensures
    ∙ text_or c.get_str.result _
    ∙ ap (λ (o : Option Text). unwrap_or o [])
    (c.get_str.ensures ∙ first_value-rows (found_of c.in-Some.found.now) c.args.id.now)
    ∙ in_rows (λ rows. unwrap_or (first_of c.args.id.now rows) [])
    (subcommand_rows_of c.args.matches.now) (rows_of (found_of c.in-Some.found.now))
    c.in-Some.ensures.rows
