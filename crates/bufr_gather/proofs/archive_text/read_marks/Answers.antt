-- By what `push_marks` returns.
use Rattle.std.proofs.Common.{Ok, sym, ap, ◌∙◌}
use Rattle.bufr_gather.proofs.HeldFacts.{handed_on}
use Rattle.bufr_gather.proofs.archive_text.read_marks.Goals as goal

pub returns-clause-marks : goal.returns-clause-marks
returns-clause-marks c =
    c.in_ok-push_marks.ensures.marks ∙ ap Ok (sym c.shrink_to_fit.ensures.items)

pub returns-in_err-push_marks-clause-marks : goal.returns-in_err-push_marks-clause-marks
returns-in_err-push_marks-clause-marks c =
    handed_on _ c.from_residual.result c.in_err-push_marks.field-0.0 _
    c.from_residual.ensures.1 c.in_err-push_marks.ensures.marks
