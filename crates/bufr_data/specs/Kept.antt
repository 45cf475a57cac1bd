-- Cached templates.
use Rattle.std.specs.Prelude.{◌≡◌, ◌≤◌, ℕ, List, [], ◌∷◌, Ok, length}
use Rattle.std.specs.List.{AllByRecursion}
use Rattle.bufr_tables.specs.Entries.{Entries}
use Rattle.bufr_expand.specs.Templates.{template}
use Rattle.bufr_data.specs.declared.template_cache.CachedTemplate.{CachedTemplate}
use Rattle.bufr_data.specs.declared.template_cache.TheConstants.{MOST_KEPT}

-- the template of a cached list, under the tables
abbrev pub IsOf : Entries → CachedTemplate → Type 0
IsOf tables k = template tables k.descriptors.value ≡ Ok k.template

-- each is the template of its list, and there are four at most
pub record AreKept (tables : Entries) (ks : List CachedTemplate) : Type 0 where
  pub each : AllByRecursion (IsOf tables) ks
  pub few : length ks ≤ MOST_KEPT

-- the first is this list
abbrev pub IsInFront : List ℕ → List CachedTemplate → Type 0
IsInFront list [] = ⊥
IsInFront list (k ∷ ks) = k.descriptors.value ≡ list
