-- The clauses of `stop`: the rows that wait were written after the want of memory, or the writer failed.
use Rattle.std.proofs.Common.{Ok, Err, refl, subst}
use Rattle.bufr_io.specs.HeldTexts.{StopsPutting}
use Rattle.bufr_io.specs.HeldLaws.{stops_writing}
use Rattle.bufr_select_engine.proofs.SelectedFacts.{is_stop}
use Rattle.bufr_select_engine.proofs.frame_selector.FrameSelector.stop.Goals as goal

-- they were written
pub returns-in-Ok-clause-stops : goal.returns-in-Ok-clause-stops
returns-in-Ok-clause-stops g c start text h =
    let p = c.args.self.now in
    let w = g.W.Sink.writing c.args.writer.now in
    let fault = c.in-OutOfMemory.is in
    stops_writing start text p.rows c.write.new.self w (g.W.Sink.writing c.write.new.writer)
    (Ok c.in-Ok.field-0) c.args.fault (subst (StopsPutting start text p.rows w) fault h)
    c.in-Ok.ensures.writes fault

pub returns-in-Ok-clause-is_stop : goal.returns-in-Ok-clause-is_stop
returns-in-Ok-clause-is_stop g c =
    is_stop c.args.self.now.rows c.write.new.self (g.W.Sink.writing c.args.writer.now)
    (g.W.Sink.writing c.write.new.writer) (Ok c.in-Ok.field-0) c.args.fault
    c.in-Ok.ensures.writes c.in-OutOfMemory.is

-- the writer failed
pub returns-in-Err-clause-stops : goal.returns-in-Err-clause-stops
returns-in-Err-clause-stops g c start text h =
    let p = c.args.self.now in
    let w = g.W.Sink.writing c.args.writer.now in
    stops_writing start text p.rows c.write.new.self w (g.W.Sink.writing c.write.new.writer)
    (Err c.in-Err.failed) c.in-Err.failed
    (subst (StopsPutting start text p.rows w) c.in-OutOfMemory.is h) c.in-Err.ensures.writes refl

pub returns-in-Err-clause-is_stop : goal.returns-in-Err-clause-is_stop
returns-in-Err-clause-is_stop g c =
    is_stop c.args.self.now.rows c.write.new.self (g.W.Sink.writing c.args.writer.now)
    (g.W.Sink.writing c.write.new.writer) (Err c.in-Err.failed) c.in-Err.failed
    c.in-Err.ensures.writes refl
