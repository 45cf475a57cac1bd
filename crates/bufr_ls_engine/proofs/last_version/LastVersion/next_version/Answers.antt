-- The head is kept with the version.
use Rattle.std.proofs.Common.{subst, sym}
use Rattle.bufr_ls_engine.specs.RowSteps.{SaysAgain, fields_after_length}
use Rattle.bufr_ls_engine.proofs.last_version.LastVersion.next_version.Goals as goal

pub invariant_of-self : goal.invariant_of-self
invariant_of-self c =
    let fields = fields_after_length c.args.octets.now c.in-Ok.said in (
      fields,
      subst (λ v. SaysAgain c.keep.new.self v fields) (sym c.master_version-self-inside.ensures)
          c.keep.ensures,
    )
