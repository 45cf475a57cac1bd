-- The clause of `values`: the values that an argument has in the matches.
use Rattle.std.proofs.Common.{[], ap, ◌∙◌, List, Option, unwrap_or, map, Bor}
use Rattle.std.proofs.lemmas.Result.{IfOk-weaker}
use Rattle.clap.specs.Words.{Text, found_of}
use Rattle.clap.proofs.WalkLemmas.{raw_values-rows}
use Rattle.bufr_program.proofs.arguments.values.Goals as goal

-- it has values, and these are the answer, in order
pub returns-in-Some : goal.returns-in-Some
returns-in-Some c =
    let given = ap (λ (o : Option (List Text)). unwrap_or o [])
    (c.in-Some.ensures ∙ raw_values-rows (found_of c.args.matches.now) c.args.id.now) in
    IfOk-weaker c.from_slice.result _ _
    (λ found a. ap (map (λ (v : Bor Text). v.now)) a ∙ given) c.from_slice.ensures.items

-- it has none
pub returns-in-None : goal.returns-in-None
returns-in-None c =
    let given = ap (λ (o : Option (List Text)). unwrap_or o [])
    (c.in-None.ensures ∙ raw_values-rows (found_of c.args.matches.now) c.args.id.now) in
    ap (map (λ (v : Bor Text). v.now)) c.new.ensures.items ∙ given
