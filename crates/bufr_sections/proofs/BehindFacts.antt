-- Octets put after others, piece by piece: for `append_spelling` and its parts.
use Rattle.std.proofs.Common.{◌≡◌, ℕ, ◌≤◌, true, false, Option, Some, None, List, [], ◌∷◌, ◌++◌, ◌+◌, codes}
use Rattle.std.proofs.Common.{length, take, drop, Result, Ok, Err, refl, sym, ap, ◌∙◌, arith, length-append}
use Rattle.std.specs.Prelude.{◌==◌, OnOk, OnErr, is_ok, is_some, if◌then◌else◌}
use Rattle.std.proofs.lemmas.Bool.{eqb-true}
use Rattle.std.proofs.Math.Seq.{take-append_seam}
use Rattle.std.proofs.lemmas.List.{take-take, take-append-drop, append_assoc, append-nil}
use Rattle.std.specs.List.{flat_map}
use Rattle.std.specs.Int.{bytes_high_first}
use Rattle.bufr_sections.specs.declared.layout.Layout.TheVariants.{Edition4}
use Rattle.bufr_sections.specs.Sections.{Envelope, section, section1, section2, section3, section4}
use Rattle.bufr_sections.specs.Sections.{sections, spelling, is_present, nothing_ignored}
use Rattle.bufr_sections.specs.Spelt.{bare, bare_section3}
use Rattle.bufr_sections.proofs.LengthFacts.{length_of_enclosed}

pub on_err : {T E P : Type 0} (r : Result T E) → P → OnErr r P
on_err (Ok x) p = tt
on_err (Err e) p = p

-- what a failed call left after a first piece still begins with the old octets
pub still_in_front : (old piece put new : List ℕ) → put ≡ old ++ piece
    → take (length put) new ≡ put → take (length old) new ≡ old
still_in_front old piece put new is kept =
    let short : length old ≤ length put = omega (arith, ap length is, length-append old piece) in
    sym (take-take (length old) (length put) new short) ∙ ap (take (length old)) (kept ∙ is)
    ∙ take-append_seam old piece

pub when_ok : {T E : Type 0} (r : Result T E) (put old new : List ℕ)
    → new ≡ (if is_ok r then put else old) → OnOk r (new ≡ put)
when_ok (Ok x) put old new is = is
when_ok (Err e) put old new is = tt

-- without octets for local use and section 2, the two parts of the fixed octets meet
pub nothing_between : (old fixed local : List ℕ) (two : Option (List ℕ)) → is_some two ≡ false
    → (length local == 0) ≡ true
    → old ++ fixed ≡ old ++ take 30 fixed ++ local ++ section2 two 0 ++ drop 30 fixed
nothing_between old fixed [] None none empty =
    ap (λ l. old ++ l) (sym (take-append-drop 30 fixed))
    ∙ sym (append_assoc old (take 30 fixed) (drop 30 fixed)) ∙ sym (simp append-nil)
nothing_between old fixed local (Some two) none empty = absurd cc
nothing_between old fixed (x ∷ xs) None none empty = absurd (omega (arith, eqb-true _ _ empty))

-- ---- the pieces of a message

bare3 : (e : Envelope)
    → section3 e nothing_ignored ≡ bare_section3 e.count e.observed e.compressed e.descriptors
bare3 e = rw (append-nil (flat_map (bytes_high_first 2) e.descriptors)) refl

in_turn : (old start local two end listed four last : List ℕ)
    → old ++ start ++ local ++ two ++ end ++ listed ++ four ++ last
    ≡ old ++ ((start ++ local) ++ (two ++ ((end ++ listed) ++ (four ++ last))))
in_turn old start local two end listed four last = simp append_assoc

between : (old front one two three four last : List ℕ)
    → old ++ ((front ++ one) ++ (two ++ (three ++ (four ++ last))))
    ≡ old ++ (front ++ (one ++ two ++ three ++ four) ++ last)
between old front one two three four last = simp append_assoc

-- the pieces in turn are the message
pub message_put : (e : Envelope) (old fixed front listed all new : List ℕ) (total : ℕ)
    → take 30 fixed ++ e.head.local ≡ codes "BUFR" ++ bytes_high_first 3 total
    ++ 4 ∷ section1 Edition4 e.head (is_present e.section2) nothing_ignored
    → drop 30 fixed ++ flat_map (bytes_high_first 2) e.descriptors
    ≡ bare_section3 e.count e.observed e.compressed e.descriptors
    → total ≡ length (bare e)
    → front ≡ old ++ take 30 fixed ++ e.head.local ++ section2 e.section2 0 ++ drop 30 fixed
    → listed ≡ front ++ flat_map (bytes_high_first 2) e.descriptors
    → all ≡ listed ++ section (0 ∷ e.contents) → new ≡ all ++ codes "7777" → new ≡ old ++ bare e
unfolding spelling sections
message_put e old fixed front listed all new total start end long first second third last =
    let one = section1 Edition4 e.head (is_present e.section2) nothing_ignored in
    let two = section2 e.section2 0 in
    let three = section3 e nothing_ignored in
    let four = section4 e.contents 0 in
    let pairs = flat_map (bytes_high_first 2) e.descriptors in
    let size : total ≡ 12 + length (one ++ two ++ three ++ four) =
    long ∙ length_of_enclosed Edition4 (one ++ two ++ three ++ four) in
    let described : drop 30 fixed ++ pairs ≡ three = end ∙ sym (bare3 e) in
    let begun : List ℕ =
    codes "BUFR" ++ bytes_high_first 3 (12 + length (one ++ two ++ three ++ four)) ++ 4 ∷ [] in
    let put = last ∙ ap (λ x. x ++ codes "7777") (third ∙ ap (λ x. x ++ four)
    (second ∙ ap (λ x. x ++ pairs) first)) in
    put ∙ in_turn old (take 30 fixed) e.head.local two (drop 30 fixed) pairs four (codes "7777")
    ∙ rw (start, described, size) (between old begun one two three four (codes "7777"))
