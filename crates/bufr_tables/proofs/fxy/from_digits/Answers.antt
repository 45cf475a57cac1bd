-- Six digits are a descriptor if F, X and Y are in range.
use Rattle.std.proofs.Common.{◌∙◌, ◌+◌, ◌*◌, ◌<◌, sym, arith}
use Rattle.bufr_tables.specs.Descriptors.{digit_value}
use Rattle.bufr_tables.specs.DescriptorLaws.{of_text-digits, wide_y}
use Rattle.bufr_tables.proofs.fxy.from_digits.Goals as goal

pub returns-then-y-gt-GREATEST_Y : goal.returns-then-y-gt-GREATEST_Y
returns-then-y-gt-GREATEST_Y c =
    let e =
    of_text-digits c.args.f c.args.x10 c.args.x1 c.args.y100 c.args.y10 c.args.y1 c.requires in
    let w : 255 < 100 * digit_value c.args.y100 + 10 * digit_value c.args.y10 + digit_value
    c.args.y1 = omega arith in
    sym (e
    ∙ wide_y (digit_value c.args.f) (10 * digit_value c.args.x10 + digit_value c.args.x1)
    (100 * digit_value c.args.y100 + 10 * digit_value c.args.y10 + digit_value c.args.y1) w)

pub returns : goal.returns
returns c =
    let e =
    of_text-digits c.args.f c.args.x10 c.args.x1 c.args.y100 c.args.y10 c.args.y1 c.requires in
    c.new.ensures ∙ rw (c.from.ensures, c.from-2.ensures, c.from-3.ensures) (sym e)
