-- The derived orders are those of the definitions.
use Rattle.std.proofs.Common.{refl}
use Rattle.bufr_entries.specs.DerivedOrders.{keys_are, stations_are}
use Rattle.bufr_entries.proofs.laws.keys_in_order.Goals as goal

pub returns : goal.returns
returns c = record { keys = keys_are; stations = stations_are; moments = λ a b. refl }
