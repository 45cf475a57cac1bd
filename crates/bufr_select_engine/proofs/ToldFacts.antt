-- Refusals that are told one after another, whether the writer hears them or not: the contracts of
-- `tell` and of all that refuses frames need it, and so that of `run_select`.
use Rattle.std.proofs.Common.{◌≡◌, ℕ, ◌+◌, Bool, true, false, List, [], ◌++◌, length, sym, subst}
use Rattle.std.proofs.Common.{append_assoc, ◌∙◌}
use Rattle.std.proofs.lemmas.List.{append-nil}
use Rattle.bufr_bits.specs.Devices.{Writing}
use Rattle.bufr_io.specs.Engines.{FailsAfter, WritesAll}
use Rattle.bufr_io.specs.WritingLaws.{fails_longer, fails_more, writes_more}
use Rattle.bufr_select_engine.specs.Tells.{HasTold, Tells}

-- no text
pub tells_none : (unheard : Bool) (w : Writing) → Tells [] unheard w unheard w
tells_none unheard w start before h =
    subst (λ t. HasTold start t unheard w) (sym (append-nil before)) h

-- a text, and another
pub tells_more : (a b : List ℕ) (u u1 u2 : Bool) (w w1 w2 : Writing) → Tells a u w u1 w1
    → Tells b u1 w1 u2 w2 → Tells (a ++ b) u w u2 w2
tells_more a b u u1 u2 w w1 w2 one two start before h =
    subst (λ t. HasTold start t u2 w2) (append_assoc before a b)
    (two start (before ++ a) (one start before h))

-- the writer took a line
pub line_taken : (line : List ℕ) (w w' : Writing) → WritesAll w w' line → Tells line false w false w'
line_taken line w w' all start before h = writes_more start w w' before line h all

-- or it failed after a front of the line
pub line_failed : (line : List ℕ) (w w' : Writing) (written : ℕ) → FailsAfter written w w' line
    → Tells line false w true w'
line_failed line w w' written fails start before h =
    (length before + written, fails_more start w w' before line written h fails)

-- or it had failed before
pub line_unheard : (line : List ℕ) (w : Writing) → Tells line true w true w
line_unheard line w start before h = (h.0, fails_longer start w before line h.0 h.1)

-- the pieces of a line, in their order
pub pieces_joined : (a b c d e f g : List ℕ)
    → a ++ (b ++ (c ++ (d ++ (e ++ (f ++ g))))) ≡ (((((a ++ b) ++ c) ++ d) ++ e) ++ f) ++ g
pieces_joined a b c d e f g =
    sym
    (append_assoc ((((a ++ b) ++ c) ++ d) ++ e) f g
    ∙ append_assoc (((a ++ b) ++ c) ++ d) e (f ++ g)
    ∙ append_assoc ((a ++ b) ++ c) d (e ++ (f ++ g))
    ∙ append_assoc (a ++ b) c (d ++ (e ++ (f ++ g)))
    ∙ append_assoc a b (c ++ (d ++ (e ++ (f ++ g)))))
