-- The values of an argument in the rows of the command that the line names.
use Rattle.std.proofs.Common.{[], ap, ◌∙◌, List, Option, unwrap_or, map, Bor}
use Rattle.std.proofs.lemmas.Result.{IfOk-weaker}
use Rattle.clap.specs.Words.{Text, all_of, subcommand_rows_of, rows_of, found_of}
use Rattle.clap.proofs.WalkLemmas.{raw_values-rows}
use Rattle.bufr_tool.proofs.CommandFacts.{in_rows}
use Rattle.bufr_tool.proofs.command_line.values.Goals as goal

pub returns-in-Some-get_strs : goal.returns-in-Some-get_strs
returns-in-Some-get_strs c =
    let given =
    c.in-Some-get_strs.ensures ∙ raw_values-rows (found_of c.in-Some.found.now) c.args.id.now in
    let all = ap (λ (o : Option (List Text)). unwrap_or o []) given
    ∙ in_rows (λ rows. unwrap_or (all_of c.args.id.now rows) [])
    (subcommand_rows_of c.args.matches.now) (rows_of (found_of c.in-Some.found.now))
    c.in-Some.ensures.rows in
    IfOk-weaker c.from_slice.result _ _
    (λ found a. ap (map (λ (v : Bor Text). v.now)) a ∙ all) c.from_slice.ensures.items

pub returns-in-None-get_strs : goal.returns-in-None-get_strs
returns-in-None-get_strs c =
    let given =
    c.in-None-get_strs.ensures ∙ raw_values-rows (found_of c.in-Some.found.now) c.args.id.now in
    let all = ap (λ (o : Option (List Text)). unwrap_or o []) given
    ∙ in_rows (λ rows. unwrap_or (all_of c.args.id.now rows) [])
    (subcommand_rows_of c.args.matches.now) (rows_of (found_of c.in-Some.found.now))
    c.in-Some.ensures.rows in
    ap (map (λ (v : Bor Text). v.now)) c.new.ensures.items ∙ all
