-- Data bits in whole octets: for `encode`.
use Rattle.std.proofs.Common.{◌≡◌, ℕ, ◌+◌, ◌-◌, ◌*◌, ◌<◌, ◌%◌, ◌/◌, Bool, false, get_or, replicate}
use Rattle.std.proofs.Common.{List, [], length, Result, refl, ap, arith}
use Rattle.std.proofs.lemmas.List.{length-append, length-replicate, append-nil}
use Rattle.bufr_bits.specs.Bits.{bits}
use Rattle.bufr_bits.specs.OctetLaws.{length-bits, numbers-bits}
use Rattle.bufr_fields.specs.declared.fault.MisfitFault.{MisfitFault}
use Rattle.bufr_sections.specs.declared.message.Message.{Message}
use Rattle.bufr_sections.specs.Spelt.{spelt_or}
use Rattle.bufr_message.specs.Messages.{envelope_with}
use Rattle.bufr_message.specs.Encodings.{whole_octets, data_or, enclosed_or}
use Rattle.bufr_data.specs.Subsets.{filled}

pub whole_octets_are : (octets : List ℕ) (data_bits : List Bool)
    → ((i : ℕ) → get_or octets i 0 < 256) → bits octets ≡ filled data_bits
    → whole_octets data_bits ≡ octets
whole_octets_are octets data_bits small same =
    let long = length-append data_bits (replicate ((8 - length data_bits % 8) % 8) false) in
    let fill = length-replicate ((8 - length data_bits % 8) % 8) false in
    let all = length-bits octets in
    let both = ap length same in
    let count : (length data_bits + 7) / 8 ≡ length octets = omega arith in
    let pad : 8 * length octets - length data_bits ≡ (8 - length data_bits % 8) % 8 = omega arith in
    let back = numbers-bits octets [] small in
    rw (count, pad, ← same) (rw (append-nil (bits octets)) at back)

pub enclosed_is : (m : Message) (contents : List ℕ) (data_bits : List Bool)
    (x : Result (List ℕ) MisfitFault) → whole_octets data_bits ≡ contents
    → spelt_or (envelope_with m contents) ≡ x → enclosed_or m data_bits ≡ data_or x
enclosed_is m contents data_bits x whole told = rw (whole, told) refl
