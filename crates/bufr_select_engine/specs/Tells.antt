-- Texts of a writer whose failure is passed over (private contracts).
use Rattle.std.specs.Prelude.{ℕ, Bool, true, false, List, ◌++◌}
use Rattle.bufr_bits.specs.Devices.{Writing}
use Rattle.bufr_io.specs.Engines.{WritesAll, FailsAfter}

-- since the writer was at `start`, it took this text; or, if it is unheard, it failed after a front of
-- the text
abbrev pub HasTold : Writing → List ℕ → Bool → Writing → Type 0
HasTold start text false now = WritesAll start now text
HasTold start text true now = (written : ℕ) × FailsAfter written start now text

-- after any text this text was told
abbrev pub Tells : List ℕ → Bool → Writing → Bool → Writing → Type 0
Tells text unheard w unheard' w' = (start : Writing) (before : List ℕ)
    → HasTold start before unheard w → HasTold start (before ++ text) unheard' w'
