-- The program with `show`, `check` and `encode`.
use Rattle.std.proofs.Common.{refl}
use Rattle.bufr_tool.proofs.command_line.without_archive.Goals as goal

pub returns : goal.returns
returns c = c.with_command.ensures _ _ c.that_read.ensures c.encoding.ensures refl
