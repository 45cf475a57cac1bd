-- Path by path, nobody has read the file.
use Rattle.bufr_io.proofs.OpenFacts.{Unread, unread_more, fresh_all}
use Rattle.bufr_io.proofs.files.files_of.Goals as goal

pub loop-path-init : goal.loop-path-init
loop-path-init g c = rw c.new-files.ensures.items tt

pub loop-path-preserved : goal.loop-path-preserved
loop-path-preserved g c =
    let here : Unread c.in-Some.file = record {
      failed = c.in-Some.ensures.failed;
      reads = c.in-Some.ensures.reads;
      met_end = c.in-Some.ensures.met_end;
    } in
    rw c.in-Ok.ensures.items
    (unread_more c.loop-path.files.items c.in-Some.file c.loop-path.invariant here)

pub returns : goal.returns
returns g c =
    fresh_all _ c.loop-path.files.items
    (λ r unread. record { reads = unread.reads; failed = unread.failed; met_end = unread.met_end })
    c.loop-path.invariant
