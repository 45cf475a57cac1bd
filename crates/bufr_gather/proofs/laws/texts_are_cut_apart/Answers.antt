-- By the laws of joined frames and of reports as entries.
use Rattle.bufr_gather.proofs.ReportFrameFacts.{frames_of_reports, frames_of_report_fronts}
use Rattle.bufr_gather.proofs.ReportFrameFacts.{report_texts_tell}
use Rattle.bufr_gather.proofs.laws.texts_are_cut_apart.Goals as goal

pub returns : goal.returns
returns c =
    let written = c.written_messages_are_spelt.ensures.only in
    let entries = c.reports_are_entries.ensures in
    let joined = c.joined_frames_are_cut_apart.ensures.joined in
    record {
      frames = frames_of_reports written entries joined;
      fronts = frames_of_report_fronts written entries c.joined_frames_are_cut_apart.ensures.front;
      told = report_texts_tell written entries c.canonical_messages_are_reports.ensures.read joined;
    }
