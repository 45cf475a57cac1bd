-- The lines before the first subset without octets for local use, by their numbers.
use Rattle.std.proofs.Common.{◌≡◌, ◌∙◌, ◌++◌, ℕ, Bool, List, [], true, false, codes, ap, sym}
use Rattle.std.proofs.Common.{refl, true≢false, append_assoc}
use Rattle.std.proofs.lemmas.Bool.{eqb-true}
use Rattle.std.proofs.lemmas.List.{append-nil, nil_from_length}
use Rattle.std.specs.Prelude.{Option, Some, None, length, is_some, ◌==◌}
use Rattle.bufr_sections.specs.declared.message.Message.{Message}
use Rattle.bufr_listing.specs.KeptHeadings.{bare_heading_lines}
use Rattle.bufr_listing.specs.KeptHeadings.{lines_after_time, lines_before_time}
use Rattle.bufr_listing.specs.Listings.{descriptors_line, flags_line, heading_lines, joined, line}
use Rattle.bufr_listing.specs.Listings.{numbers_line, section1_numbers, time_numbers}

no_octets : (local : List ℕ) → length local == 0 ≡ true → local ≡ []
no_octets local t = nil_from_length local (eqb-true (length local) 0 t)

no_section : (section2 : Option (List ℕ)) → is_some section2 ≡ false → section2 ≡ None
no_section None t = refl
no_section (Some octets) t = absurd (true≢false t)

pub bare_lines : (m : Message) → length m.head.local == 0 ≡ true → is_some m.section2 ≡ false
    → heading_lines m ≡ bare_heading_lines (section1_numbers m.head) (time_numbers m.head)
    m.observed m.compressed m.descriptors
unfolding heading_lines
bare_lines m local two =
    rw (no_octets m.head.local local, no_section m.section2 two) refl

pub bare_joined : (section1 time descriptors : List ℕ) (observed compressed : Bool)
    → lines_before_time section1 ++ line (numbers_line (codes "time") time)
    ++ lines_after_time observed compressed descriptors
    ≡ joined (bare_heading_lines section1 time observed compressed descriptors)
bare_joined section1 time descriptors observed compressed =
    let first = line (codes "message") in
    let numbers = line (numbers_line (codes "section1") section1) in
    let times = line (numbers_line (codes "time") time) in
    let flags = line (flags_line observed compressed) in
    let last = line (descriptors_line descriptors) in
    append_assoc (first ++ numbers) times (flags ++ last)
    ∙ append_assoc first numbers (times ++ (flags ++ last))
    ∙ ap (λ zs. first ++ (numbers ++ (times ++ (flags ++ zs)))) (sym (append-nil last))
