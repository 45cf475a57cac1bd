-- Marks: the key and update number of an entry.
use Rattle.std.specs.Prelude.{◌≡◌, ℕ, Option, Some, None}
use Rattle.bufr_entries.specs.declared.key.Key.{Key}
use Rattle.bufr_entries.specs.PackedKeys.{wmo_key}
use Rattle.bufr_entries.specs.Fronts.{front_of_key}
use Rattle.bufr_entries.specs.declared.key_start.StationStart.TheVariants as places
use Rattle.bufr_entries.specs.declared.packed_slot.PackedForm.{PackedForm}
use Rattle.bufr_entries.specs.declared.packed_slot.PackedForm.TheVariants as forms

-- what contracts see of a mark
pub record SlotView : Type 0 where
  pub key : Option Key
  pub update : ℕ

-- the key and update number of each form of mark
abbrev pub mark_in : PackedForm → SlotView
mark_in (forms.Keyless update) = record { key = None; update = update }
mark_in (forms.Wmo update sub_centre words) =
    record { key = Some (wmo_key words sub_centre); update = update }
mark_in (forms.Mobile update head key name) = record { key = Some key.value; update = update }
mark_in (forms.Other update key) = record { key = Some key.value; update = update }

-- the head and name beside a boxed key are its front
abbrev pub IsFronted : PackedForm → Type 0
IsFronted (forms.Keyless update) = Unit
IsFronted (forms.Wmo update sub_centre words) = Unit
IsFronted (forms.Mobile update head key name) =
    record { head = head; place = places.Mobile name } ≡ front_of_key key.value
IsFronted (forms.Other update key) = Unit
