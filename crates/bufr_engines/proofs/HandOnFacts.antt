-- Octets that go to the writer part by part: for `hand_on`, `run_add` and `write_merged`.
use Rattle.std.proofs.Common.{◌≡◌, ℕ, ◌+◌, ◌*◌, ◌<◌, ◌≤◌, List, [], ◌∷◌, ◌++◌, length, map, false}
use Rattle.std.proofs.Common.{Result, Ok, Err, refl, sym, ap, ◌∙◌, subst, arith, length-append}
use Rattle.std.proofs.Common.{append_assoc}
use Rattle.std.proofs.lemmas.List.{append-nil}
use Rattle.std.proofs.lemmas.Grind.{flat_map-append}
use Rattle.bufr_bits.specs.Devices.{Writing}
use Rattle.bufr_io.specs.declared.fault.ToolFault.{ToolFault}
use Rattle.bufr_io.specs.declared.fault.ToolFault.TheVariants as faults
use Rattle.bufr_io.specs.Engines.{WritesAll, WritesAfter, FailsAfter}
use Rattle.bufr_io.specs.WritingLaws.{writes_none, writes_more, fails_more, fails_longer}
use Rattle.bufr_entries.specs.declared.entry.Entry.{Entry}
use Rattle.bufr_gather.specs.Archives.{ArchiveView}
use Rattle.bufr_gather.specs.Texts.{text}
use Rattle.bufr_engines.specs.declared.parts.PendingOctets.{PendingOctets}
use Rattle.bufr_engines.specs.Parts.{Gathers, WritesArchive, joined}

-- ---- one step

pub after_out : (first mid now : Writing) (before written : ℕ) (out held rest all : List ℕ)
    (e : ToolFault) → WritesAll first mid out → written ≡ before + length out
    → all ≡ (out ++ held) ++ rest → WritesAfter written held mid now (Err e)
    → WritesAfter before all first now (Err e)
after_out first mid now before written out held rest all (faults.WriteFailed n) wrote counted is w =
    let more = w.0 in
    let told = w.1 in
    let here : n ≡ before + (length out + more) = omega (arith, counted, told) in (
      length out + more,
      here,
      subst (FailsAfter (length out + more) first now) (sym is)
          (fails_longer first now (out ++ held) rest (length out + more)
          (fails_more first mid now out held more wrote w.2)),
    )
after_out first mid now before written out held rest all (faults.ReadFailed name) wrote counted
    is w = absurd w
after_out first mid now before written out held rest all (faults.EndlessInput name) wrote counted
    is w = absurd w
after_out first mid now before written out held rest all faults.OutOfMemory wrote counted is w =
    absurd w
after_out first mid now before written out held rest all (faults.Table name fault) wrote counted
    is w = absurd w
after_out first mid now before written out held rest all (faults.Listing why) wrote counted is w =
    absurd w
after_out first mid now before written out held rest all (faults.Encode number why) wrote counted
    is w = absurd w
after_out first mid now before written out held rest all (faults.NotAnArchive input place) wrote
    counted is w = absurd w

pub gathers_only : (w : Writing) (before : ℕ) (held octets : List ℕ) (part : PendingOctets)
    → w.failed ≡ false → part.written ≡ before → part.octets.items ≡ held ++ octets
    → Gathers w w before held part octets
gathers_only w before held octets part works counted is = record {
  out = [];
  wrote = writes_none w works;
  counted = omega (arith, counted);
  all = is;
}

pub gathers_behind : (first now : Writing) (before : ℕ) (held octets : List ℕ) (part : PendingOctets)
    → WritesAll first now held → part.written ≡ before + length held
    → part.octets.items ≡ octets → Gathers first now before held part octets
gathers_behind first now before held octets part wrote counted is = record {
  out = held;
  wrote = wrote;
  counted = counted;
  all = ap (λ (xs : List ℕ). held ++ xs) is;
}

pub gathers_none : (first mid now : Writing) (before : ℕ) (held octets : List ℕ) (part : PendingOctets)
    → WritesAll first mid held → WritesAll mid now octets
    → part.written ≡ before + length held + length octets → part.octets.items ≡ []
    → Gathers first now before held part octets
gathers_none first mid now before held octets part one two counted is =
    let long = length-append held octets in record {
      out = held ++ octets;
      wrote = writes_more first mid now held octets one two;
      counted = omega (arith, counted, long);
      all = ap (λ (xs : List ℕ). (held ++ octets) ++ xs) is ∙ append-nil (held ++ octets);
    }

-- ---- one after the other

joined_more : (done : List (List ℕ)) (octets : List ℕ)
    → joined (done ++ octets ∷ []) ≡ joined done ++ octets
joined_more done octets =
    flat_map-append (λ (xs : List ℕ). xs) done (octets ∷ [])
    ∙ ap (λ (xs : List ℕ). joined done ++ xs) (append-nil octets)

pub joined_text : (es : List Entry) → joined (map (λ (e : Entry). e.bytes) es) ≡ text es
joined_text [] = refl
joined_text (e ∷ es) = ap (λ (xs : List ℕ). e.bytes ++ xs) (joined_text es)

-- all octets so far are written or gathered, and few enough for the count
pub record Handed (first now : Writing) (part : PendingOctets) (all left : List (List ℕ)) : Type 0 where
  pub done : List (List ℕ)
  pub is : all ≡ done ++ left
  pub gathered : Gathers first now 0 [] part (joined done)
  pub bound : part.written + length part.octets.items ≤ length done * 18446744073709551616
  pub few : length all < 18446744073709551616

pub handed_first : (w : Writing) (part : PendingOctets) (all : List (List ℕ)) → w.failed ≡ false
    → part.written ≡ 0 → part.octets.items ≡ [] → length all < 18446744073709551616
    → Handed w w part all all
handed_first w part all works counted is few =
    let none : length part.octets.items ≡ 0 = ap (λ (xs : List ℕ). length xs) is in record {
      done = [];
      is = refl;
      gathered = gathers_only w 0 [] [] part works counted is;
      bound = omega (arith, counted, none);
      few = few;
    }

pub handed_fits : (first now : Writing) (part : PendingOctets) (all left rest : List (List ℕ))
    (octets : List ℕ) → Handed first now part all left → left ≡ octets ∷ rest
    → part.written + length part.octets.items + 18446744073709551616
    ≤ 340282366920938463463374607431768211456
handed_fits first now part all left rest octets h is =
    let long = ap (λ (xs : List (List ℕ)). length xs) (h.is ∙ ap (λ (xs : List (List ℕ)). h.done ++ xs) is)
    ∙ length-append h.done (octets ∷ rest) in
    let bound = h.bound in
    let few = h.few in
    omega (arith, long, bound, few)

pub handed_next : (first mid now : Writing) (part part' : PendingOctets) (all left rest : List (List ℕ))
    (octets : List ℕ) → Handed first mid part all left → left ≡ octets ∷ rest
    → Gathers mid now part.written part.octets.items part' octets
    → length octets < 18446744073709551616 → Handed first now part' all rest
handed_next first mid now part part' all left rest octets h is g short =
    let before = h.gathered in
    let out = before.out ++ g.out in
    let joins : out ++ part'.octets.items ≡ joined (h.done ++ octets ∷ []) =
    append_assoc before.out g.out part'.octets.items
    ∙ ap (λ (xs : List ℕ). before.out ++ xs) g.all
    ∙ sym (append_assoc before.out part.octets.items octets)
    ∙ ap (λ (xs : List ℕ). xs ++ octets) before.all
    ∙ sym (joined_more h.done octets) in
    let one = before.counted in
    let two = g.counted in
    let long = length-append before.out g.out in
    let most = length-append h.done (octets ∷ []) in
    let old = h.bound in
    let kept = ap (λ (xs : List ℕ). length xs) g.all in
    let left_of = length-append g.out part'.octets.items in
    let right_of = length-append part.octets.items octets in
    record {
      done = h.done ++ octets ∷ [];
      is = h.is ∙ ap (λ (xs : List (List ℕ)). h.done ++ xs) is
          ∙ sym (append_assoc h.done (octets ∷ []) rest);
      gathered = record {
        out = out;
        wrote = writes_more first mid now before.out g.out before.wrote g.wrote;
        counted = omega (arith, one, two, long);
        all = joins;
      };
      bound = omega (arith, two, most, old, kept, left_of, right_of, short);
      few = h.few;
    }

-- ---- the end

all_joined : (all done left : List (List ℕ)) → all ≡ done ++ left → left ≡ []
    → joined all ≡ joined done
all_joined all done left is none =
    ap joined (is ∙ ap (λ (xs : List (List ℕ)). done ++ xs) none ∙ append-nil done)

pub handed_all : (first mid now : Writing) (part : PendingOctets) (all left : List (List ℕ))
    (r : Result (Unit {0}) ToolFault) → Handed first mid part all left → left ≡ []
    → WritesAfter part.written part.octets.items mid now r → WritesAfter 0 (joined all) first now r
handed_all first mid now part all left (Ok done) h none w =
    subst (WritesAll first now) (h.gathered.all ∙ sym (all_joined all h.done left h.is none))
    (writes_more first mid now h.gathered.out part.octets.items h.gathered.wrote w)
handed_all first mid now part all left (Err e) h none w =
    after_out first mid now 0 part.written h.gathered.out part.octets.items [] (joined all) e
    h.gathered.wrote h.gathered.counted
    (all_joined all h.done left h.is none ∙ sym h.gathered.all
    ∙ sym (append-nil (h.gathered.out ++ part.octets.items))) w

pub handed_fails : (first mid now : Writing) (part : PendingOctets) (all left rest : List (List ℕ))
    (octets : List ℕ) (e : ToolFault) → Handed first mid part all left → left ≡ octets ∷ rest
    → WritesAfter part.written (part.octets.items ++ octets) mid now (Err e)
    → WritesAfter 0 (joined all) first now (Err e)
handed_fails first mid now part all left rest octets e h is w =
    after_out first mid now 0 part.written h.gathered.out (part.octets.items ++ octets)
    (joined rest) (joined all) e h.gathered.wrote h.gathered.counted
    (ap joined (h.is ∙ ap (λ (xs : List (List ℕ)). h.done ++ xs) is)
    ∙ flat_map-append (λ (xs : List ℕ). xs) h.done (octets ∷ rest)
    ∙ sym (append_assoc (joined h.done) octets (joined rest))
    ∙ ap (λ (xs : List ℕ). (xs ++ octets) ++ joined rest) (sym h.gathered.all)
    ∙ ap (λ (xs : List ℕ). xs ++ joined rest)
    (append_assoc h.gathered.out part.octets.items octets)) w

pub archive_fails : (old new : Writing) (archive : ArchiveView) (octets : List ℕ) (e : ToolFault)
    → octets ≡ text archive.entries → WritesAfter 0 octets old new (Err e)
    → WritesArchive archive old new (Err e)
archive_fails old new archive octets (faults.WriteFailed written) is w =
    let same : written ≡ w.0 = omega (arith, w.1) in
    subst (λ (n : ℕ). FailsAfter n old new (text archive.entries)) (sym same)
    (subst (FailsAfter w.0 old new) is w.2)
archive_fails old new archive octets (faults.ReadFailed name) is w = absurd w
archive_fails old new archive octets (faults.EndlessInput name) is w = absurd w
archive_fails old new archive octets faults.OutOfMemory is w = absurd w
archive_fails old new archive octets (faults.Table name fault) is w = absurd w
archive_fails old new archive octets (faults.Listing why) is w = absurd w
archive_fails old new archive octets (faults.Encode number why) is w = absurd w
archive_fails old new archive octets (faults.NotAnArchive input place) is w = absurd w
