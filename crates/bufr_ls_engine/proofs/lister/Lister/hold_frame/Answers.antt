-- The clause `ok` of `hold_frame`: the row of a frame with one column, which has no refusal.
use Rattle.std.proofs.Common.{◌+◌, ◌∙◌, List, ℕ, [], ◌∷◌, ◌++◌, decimal, refl, sym, ap, append_assoc, arith}
use Rattle.bufr_io.specs.Taking.{frame_at}
use Rattle.bufr_ls_engine.specs.Rows.{row}
use Rattle.bufr_ls_engine.specs.declared.column.Column.{Column}
use Rattle.bufr_ls_engine.proofs.lister.Lister.hold_frame.Goals as goal

pub returns-in-Some-clause-ok : goal.returns-in-Some-clause-ok
returns-in-Some-clause-ok c =
    let old = c.args.self.now in
    let version = c.in-Some.version in
    let here = frame_at c.args.place c.args.octets.now in
    let is =
    ap (λ (columns : List Column). row columns old.input (old.frames + 1) here)
    (c.is_master_version.ensures c.if-is_master_version.true)
    ∙ c.in-Some.ensures.row old.input (old.frames + 1) c.args.place in
    record {
      held = c.in_ok-push_octet_line.ensures.ok
          ∙ append_assoc old.rows.held.items (decimal version) (10 ∷ [])
          ∙ ap (λ (t : List ℕ). old.rows.held.items ++ t) (sym is);
      frames = refl;
      refused = omega (arith, c.in-Some.ensures.read c.args.place);
      columns = refl;
      input = refl;
      written = refl;
    }
