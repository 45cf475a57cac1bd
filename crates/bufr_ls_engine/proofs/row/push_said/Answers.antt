-- The clause `ok` of `push_said`: the last column.
use Rattle.std.proofs.Common.{Ok}
use Rattle.std.proofs.lemmas.Result.{on_ok_weaker}
use Rattle.bufr_io.specs.Taking.{frame_at}
use Rattle.bufr_ls_engine.specs.Rows.{field_as}
use Rattle.bufr_ls_engine.proofs.LineFacts.{ended}
use Rattle.bufr_ls_engine.proofs.row.push_said.Goals as goal

pub returns-clause-ok : goal.returns-clause-ok
returns-clause-ok c =
    on_ok_weaker c.push_field-2.result
    (λ is. ended
    (λ column. field_as column c.args.frame.now.input c.args.frame.now.message
    (frame_at c.args.frame.now.place c.args.frame.now.octets.now) (Ok c.args.said.now))
    c.loop-rest.column c.args.first c.args.others.now c.loop-rest.rest.now
    c.args.text.now.items c.loop-rest.text.items c.push_field-2.new.text.items
    c.in_default.len_below c.loop-rest.invariant.0 is)
    c.push_field-2.ensures.ok
