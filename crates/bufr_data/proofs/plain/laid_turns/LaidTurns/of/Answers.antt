use Rattle.std.proofs.Common.{◌≡◌, length, ap, ◌∙◌, arith}
use Rattle.bufr_data.proofs.PlainFacts.LaidTurns.{all_left, rest_of}
use Rattle.bufr_data.proofs.plain.laid_turns.LaidTurns.of.Goals as goal

pub returns : goal.returns
returns c =
    let fields = c.args.laid.fields in
    let all : c.len.result ≡ length fields.items = omega (arith, fields.ok.0) in
    ap (λ n. rest_of fields.items n c.args.laid.turns) all
    ∙ all_left fields.items c.args.laid.turns
