-- The program with `show` and `check`.
use Rattle.std.proofs.Common.{refl}
use Rattle.bufr_tool.proofs.command_line.that_read.Goals as goal

pub returns : goal.returns
returns c =
    let one = c.with_command-with_show.ensures _ _ c.program.ensures c.reading.ensures refl in
    c.with_command.ensures _ _ one c.reading-2.ensures refl
