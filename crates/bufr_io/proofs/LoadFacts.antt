-- What loading both tables returns, by what loading each returns.
use Rattle.std.proofs.Common.{◌≡◌, ℕ, List, Option, Some, None, Result, Ok, Err, IfSome, IsOk, refl}
use Rattle.std.proofs.Common.{sym, subst}
use Rattle.bufr_bits.specs.Devices.{Reading}
use Rattle.bufr_tables.specs.TableFiles.{table_b, table_d}
use Rattle.bufr_tables.specs.declared.element.Element.{Element}
use Rattle.bufr_tables.specs.declared.table_faults.TableFault.{TableFault}
use Rattle.bufr_io.specs.declared.fault.Input.TheVariants.{TableB, TableD}
use Rattle.bufr_io.specs.declared.fault.ToolFault.{ToolFault}
use Rattle.bufr_io.specs.declared.fault.ToolFault.TheVariants as faults
use Rattle.bufr_io.specs.Engines.{HasFailed, IsEndless}
use Rattle.bufr_io.specs.Loads.{FailsAt, IsFaultOf, Loads, LoadsTable}

pub stops_at_b : (reads : ℕ) (b b' d : Reading) (e : ToolFault)
    → LoadsTable table_b TableB reads b b' (Err e) → Loads reads b b' d d (Err e)
stops_at_b reads b b' d (faults.ReadFailed which) h =
    subst (λ w. FailsAt w HasFailed b b' d d) (sym h.0) (h.1, refl)
stops_at_b reads b b' d (faults.EndlessInput which) h =
    subst (λ w. FailsAt w (IsEndless reads) b b' d d) (sym h.0) (h.1, refl)
stops_at_b reads b b' d (faults.Table which fault) h =
    subst (λ w. IsFaultOf w fault b b' d d) (sym h.0) (h.1, h.2, refl)
stops_at_b reads b b' d faults.OutOfMemory h = tt
stops_at_b reads b b' d (faults.WriteFailed written) h = absurd h
stops_at_b reads b b' d (faults.Listing why) h = absurd h
stops_at_b reads b b' d (faults.Encode number why) h = absurd h
stops_at_b reads b b' d (faults.NotAnArchive input place) h = absurd h

parsed : {T : Type 0} (left : Option (List ℕ)) (parse : List ℕ → Result T TableFault) (table : T)
    → IfSome left (λ text. parse text ≡ Ok table) → IfSome left (λ text. IsOk (parse text))
parsed None parse table is = tt
parsed (Some text) parse table is = rw is refl

pub stops_at_d : (reads : ℕ) (b b' d d' : Reading) (elements : List (ℕ × Element)) (e : ToolFault)
    → LoadsTable table_b TableB reads b b' (Ok elements)
    → LoadsTable table_d TableD reads d d' (Err e) → Loads reads b b' d d' (Err e)
stops_at_d reads b b' d d' elements (faults.ReadFailed which) before h =
    subst (λ w. FailsAt w HasFailed b b' d d') (sym h.0)
    ((before.0, parsed b.left table_b elements before.1), h.1)
stops_at_d reads b b' d d' elements (faults.EndlessInput which) before h =
    subst (λ w. FailsAt w (IsEndless reads) b b' d d') (sym h.0)
    ((before.0, parsed b.left table_b elements before.1), h.1)
stops_at_d reads b b' d d' elements (faults.Table which fault) before h =
    subst (λ w. IsFaultOf w fault b b' d d') (sym h.0)
    ((before.0, parsed b.left table_b elements before.1), h.1, h.2)
stops_at_d reads b b' d d' elements faults.OutOfMemory before h = tt
stops_at_d reads b b' d d' elements (faults.WriteFailed written) before h = absurd h
stops_at_d reads b b' d d' elements (faults.Listing why) before h = absurd h
stops_at_d reads b b' d d' elements (faults.Encode number why) before h = absurd h
stops_at_d reads b b' d d' elements (faults.NotAnArchive input place) before h = absurd h
