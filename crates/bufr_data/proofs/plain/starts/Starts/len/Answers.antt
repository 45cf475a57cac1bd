use Rattle.std.proofs.Common.{sym}
use Rattle.bufr_data.proofs.PlainFacts.Even.{many_kept}
use Rattle.bufr_data.proofs.plain.starts.Starts.len.Goals as goal

pub returns-in-Even : goal.returns-in-Even
returns-in-Even c = sym (many_kept _ _ _ _ _ c.self.view_is c.in-Even.is)
