-- What was written when the writer failed, as a front of all that is listed: the clause `front` of
-- `run_ls`.
use Rattle.std.proofs.Common.{◌≡◌, ℕ, List, ◌++◌, sym, ap, ◌∙◌, subst, append_assoc, Err}
use Rattle.bufr_bits.specs.Devices.{Reading, Writing}
use Rattle.bufr_io.specs.declared.fault.ToolFault.{ToolFault}
use Rattle.bufr_io.specs.declared.fault.ToolFault.TheVariants as faults
use Rattle.bufr_io.specs.Engines.{FailsAfter}
use Rattle.bufr_io.specs.WritingLaws.{fails_longer}
use Rattle.bufr_io.specs.Numbered.{inputs_to}
use Rattle.bufr_io.specs.ReachedLaws.{HasFront, front_of_all}
use Rattle.bufr_ls_engine.specs.Lists.{Lists, WritesFront}
use Rattle.bufr_ls_engine.specs.Rows.{header, listed_heads, listed_to, row}
use Rattle.bufr_ls_engine.specs.declared.column.Column.{Column}

-- with the header line it is a front of all that is listed
front_listed : (columns : List Column) (all : List (List ℕ)) (front : List ℕ)
    → (h : HasFront (row columns) all front)
    → listed_heads columns all ≡ (header columns ++ front) ++ h.rest
front_listed columns all front h =
    ap (λ (t : List ℕ). header columns ++ t) h.parted
    ∙ sym (append_assoc (header columns) front h.rest)

-- the writer failed after a front of what was listed, which is one of all that is listed
pub writes_front : (columns : List Column) (reads : ℕ) (olds news : List Reading)
    (begin now : Writing) (e : ToolFault) → Lists columns reads olds news begin now (Err e)
    → WritesFront columns olds begin now e
writes_front columns reads olds news begin now (faults.WriteFailed written) lists = λ all told.
    let h = front_of_all (row columns) olds news lists.0 all lists.1 lists.2 told in
    subst (FailsAfter written begin now)
    (sym (front_listed columns all (inputs_to (row columns) lists.0 lists.1) h))
    (fails_longer begin now (listed_to columns lists.0 lists.1) h.rest written lists.3)
writes_front columns reads olds news begin now e lists = tt
