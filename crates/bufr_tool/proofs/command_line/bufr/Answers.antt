-- With `add` and `merge` these are all commands of the program.
use Rattle.std.proofs.Common.{refl}
use Rattle.bufr_tool.proofs.command_line.bufr.Goals as goal

pub returns : goal.returns
returns c =
    let one = c.with_command.ensures _ _ c.without_archive.ensures c.collecting-adding.ensures refl in
    c.with_command-2.ensures _ _ one c.collecting-merging.ensures refl
