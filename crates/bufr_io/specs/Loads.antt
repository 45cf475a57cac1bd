-- What loading the two table files returns (this project's own).
use Rattle.std.specs.Prelude.{◌≡◌, ℕ, List, IfSome, Result, Ok, Err, IsOk}
use Rattle.bufr_bits.specs.Devices.{Reading}
use Rattle.bufr_tables.specs.declared.table_faults.TableFault.{TableFault}
use Rattle.bufr_tables.specs.Entries.{Entries}
use Rattle.bufr_tables.specs.TableFiles.{table_b, table_d}
use Rattle.bufr_io.specs.declared.fault.Input.{Input}
use Rattle.bufr_io.specs.declared.fault.Input.TheVariants.{TableB, TableD, Number}
use Rattle.bufr_io.specs.declared.fault.ToolFault.{ToolFault}
use Rattle.bufr_io.specs.declared.fault.ToolFault.TheVariants as faults
use Rattle.bufr_io.specs.Engines.{WasReadOut, HasFailed, IsEndless}

-- reads the file of Table B to its end and finds no fault
abbrev pub LoadsB : Reading → Reading → Type 0
LoadsB b b' = WasReadOut b' × IfSome b.left (λ text. IsOk (table_b text))

-- fails at the file of this name: at that of Table B before it reads Table D, or at that of Table D
-- after Table B
abbrev pub FailsAt : Input → (Reading → Type 0) → Reading → Reading → Reading → Reading → Type 0
FailsAt TableB Failing b b' d d' = Failing b' × (d' ≡ d)
FailsAt TableD Failing b b' d d' = LoadsB b b' × Failing d'
FailsAt (Number n) Failing b b' d d' = ⊥

-- reads the file of this name to its end and finds this fault
abbrev pub IsFaultOf : Input → TableFault → Reading → Reading → Reading → Reading → Type 0
IsFaultOf TableB fault b b' d d' = WasReadOut b' × IfSome b.left (λ text. table_b text ≡ Err fault)
    × (d' ≡ d)
IsFaultOf TableD fault b b' d d' = LoadsB b b' × WasReadOut d'
    × IfSome d.left (λ text. table_d text ≡ Err fault)
IsFaultOf (Number n) fault b b' d d' = ⊥

-- the tables of two files that are read to their ends, Table B before Table D, or the first fault
abbrev pub Loads : ℕ → Reading → Reading → Reading → Reading → Result Entries ToolFault → Type 0
Loads reads b b' d d' (Ok tables) = WasReadOut b' × WasReadOut d'
    × IfSome b.left (λ text. table_b text ≡ Ok tables.elements)
    × IfSome d.left (λ text. table_d text ≡ Ok tables.sequences)
Loads reads b b' d d' (Err (faults.ReadFailed name)) = FailsAt name HasFailed b b' d d'
Loads reads b b' d d' (Err (faults.EndlessInput name)) = FailsAt name
    (IsEndless reads) b b' d d'
Loads reads b b' d d' (Err (faults.Table name fault)) = IsFaultOf name fault b b' d d'
Loads reads b b' d d' (Err faults.OutOfMemory) = Unit {0}
Loads reads b b' d d' (Err fault) = ⊥

-- ---- one file

-- the table of a file read to its end, or the fault
abbrev pub LoadsTable : {T : Type 0} → (List ℕ → Result T TableFault) → Input → ℕ → Reading
    → Reading → Result T ToolFault → Type 0
LoadsTable parse name reads r r' (Ok table) = WasReadOut r'
    × IfSome r.left (λ text. parse text ≡ Ok table)
LoadsTable parse name reads r r' (Err (faults.ReadFailed which)) = (which ≡ name) × HasFailed r'
LoadsTable parse name reads r r' (Err (faults.EndlessInput which)) = (which ≡ name)
    × IsEndless reads r'
LoadsTable parse name reads r r' (Err (faults.Table which fault)) = (which ≡ name)
    × WasReadOut r' × IfSome r.left (λ text. parse text ≡ Err fault)
LoadsTable parse name reads r r' (Err faults.OutOfMemory) = Unit {0}
LoadsTable parse name reads r r' (Err fault) = ⊥
