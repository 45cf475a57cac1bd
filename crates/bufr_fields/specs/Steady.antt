-- Walks whose course is steady (FM 94 BUFR, regulation 94.5.4).
use Rattle.std.specs.Prelude.{◌≡◌, ◌<◌, ◌≤◌, false}
use Rattle.bufr_expand.specs.declared.walk.Walk.{Walk}
use Rattle.bufr_expand.specs.Steady.{IsSteady}
use Rattle.bufr_expand.specs.Walks.{left, waits, items_met}
use Rattle.bufr_expand.specs.Limits.{most_items}

-- a walk that can go on: no count is open, and its course is steady
pub record IsReady (w : Walk) : Type 0 where
  pub answered : waits w ≡ false
  pub steady : IsSteady (items_met w) (left w)

-- a walk that can go on and has met at least one more item
pub record WalkAdvances (old new : Walk) : Type 0 where
  pub ready : IsReady new
  pub further : items_met old < items_met new
  pub within : items_met new ≤ most_items
