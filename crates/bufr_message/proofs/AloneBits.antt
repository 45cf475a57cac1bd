-- A subset with more bits than the longest message fits no message of its own: for `can_be_alone`.
use Rattle.std.proofs.Common.{◌≡◌, ℕ, ◌+◌, ◌<◌, false, List, length, take, get_or, sym, ap, arith}
use Rattle.std.specs.Prelude.{nat_le}
use Rattle.std.proofs.lemmas.Bool.{lt-leb}
use Rattle.std.proofs.lemmas.List.Folds.{length-flat_map-take}
use Rattle.bufr_fields.specs.declared.field.Field.{Field}
use Rattle.bufr_fields.specs.declared.field.Subset.{Subset}
use Rattle.bufr_data.specs.Plain.{field_bits, plain}
use Rattle.bufr_sections.specs.Spelt.{longest}
use Rattle.bufr_message.specs.Messages.{octets_alone}

pub too_many : (descriptors : List ℕ) (s : Subset) (items : List Field) (i bits own : ℕ) (f : Field)
    → items ≡ s.fields → i < length items → f ≡ get_or items i f
    → bits ≡ length (plain (take i s.fields)) → own ≡ length (field_bits f)
    → 134217720 < bits + own → false ≡ nat_le (octets_alone descriptors s) longest
too_many descriptors s items i bits own f same below is front last many =
    let size = ap length same in
    let here = ap (λ (l : List Field). length (field_bits (get_or l i f))) same in
    let one = ap (λ (g : Field). length (field_bits g)) is in
    let all = length-flat_map-take field_bits s.fields i f (omega arith) in
    let past : longest < octets_alone descriptors s = omega arith in
    sym (lt-leb _ _ past)
