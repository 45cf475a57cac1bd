-- By computing; slot 0 is closed when slot 1 takes it in.
use Rattle.std.proofs.Common.{◌≡◌, Some, List, [], ◌∷◌, refl, sym, ap}
use Rattle.std.proofs.lemmas.Option.{same_Some}
use Rattle.bufr_archive.specs.Slots.{Slot}
use Rattle.bufr_archive.proofs.worked_values.premises_of_the_headline.Goals as goal

-- slot 0 after its stream ended
abbrev closed : Slot
closed = record { reports = []; ended = (65 ∷ []) ∷ []; open_stream = [] }

pub returns : goal.returns
returns c = λ tables left archive held. record {
  repeated = (
    (λ u. refl),
    (
      (λ b. absurd b),
      (
        (λ b. absurd b),
        (
          (λ b. absurd b),
          (
            (λ b. absurd b),
            ((λ b. absurd b), tt),
          ),
        ),
      ),
    ),
  );
  joins_closed = (
    tt,
    (
      tt,
      (
        tt,
        (
          tt,
          (
            (λ s h. ap (λ (t : Slot). t.open_stream) (sym (same_Some closed s h))),
            (tt, tt),
          ),
        ),
      ),
    ),
  );
  slot = record { reports = []; ended = (65 ∷ []) ∷ (67 ∷ []) ∷ []; open_stream = [] };
  there = refl;
  ended = refl;
  closed = refl;
  held = held;
}
