-- A start is listed, or computed from the first.
use Rattle.std.proofs.Common.{◌≡◌, ◌∙◌, length, refl, sym, ap, arith}
use Rattle.std.specs.Prelude.{slice_get}
use Rattle.std.proofs.lemmas.Option.{slice_get_read}
use Rattle.bufr_data.specs.Plain.Even.{starts_in}
use Rattle.bufr_data.proofs.PlainFacts.Even.{many_kept, one_kept, one_fits}
use Rattle.bufr_data.proofs.plain.starts.Starts.at.Goals as goal

pub overflow_mul-begins : goal.overflow_mul-begins
overflow_mul-begins c =
    let many = many_kept _ _ _ _ _ c.self.view_is c.in-Even.is in
    let fits =
    one_fits _ _ _ _ c.args.index c.self.invariant c.in-Even.is
    (omega (arith, c.requires, many)) in
    omega (arith, fits.0)

pub overflow_add-begins : goal.overflow_add-begins
overflow_add-begins c =
    let many = many_kept _ _ _ _ _ c.self.view_is c.in-Even.is in
    let fits =
    one_fits _ _ _ _ c.args.index c.self.invariant c.in-Even.is
    (omega (arith, c.requires, many)) in
    omega (arith, fits.0)

pub overflow_add-end : goal.overflow_add-end
overflow_add-end c =
    let many = many_kept _ _ _ _ _ c.self.view_is c.in-Even.is in
    let fits =
    one_fits _ _ _ _ c.args.index c.self.invariant c.in-Even.is
    (omega (arith, c.requires, many)) in
    omega (arith, fits.0)

pub overflow_mul-result : goal.overflow_mul-result
overflow_mul-result c =
    let many = many_kept _ _ _ _ _ c.self.view_is c.in-Even.is in
    let fits =
    one_fits _ _ _ _ c.args.index c.self.invariant c.in-Even.is
    (omega (arith, c.requires, many)) in
    omega (arith, fits.1)

pub returns-in-Listed : goal.returns-in-Listed
returns-in-Listed c =
    let items : starts_in c.self.inside.spacing ≡ c.in-Listed.starts.items =
    ap starts_in c.in-Listed.is in
    let same : c.in-Listed.starts.items ≡ c.args.self.now = sym items ∙ c.self.view_is in
    let many : length c.in-Listed.starts.items ≡ length c.args.self.now = ap length same in
    ap (λ xs. slice_get xs c.args.index) (sym same)
    ∙ slice_get_read c.in-Listed.starts.items _ c.args.index _ refl
    (omega (arith, c.requires, many)) c.index.ensures

pub returns-in-Even : goal.returns-in-Even
returns-in-Even c =
    let many = many_kept _ _ _ _ _ c.self.view_is c.in-Even.is in
    one_kept _ _ _ _ _ c.args.index _ c.self.view_is c.in-Even.is
    (omega (arith, c.requires, many)) refl
