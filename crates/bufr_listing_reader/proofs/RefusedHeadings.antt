-- Reading takes the lines of a heading and returns the fault of the first that could not follow,
-- the converse of FaultHeadings.
use Rattle.std.proofs.Common.{◌≡◌, inl, inr, ℕ, ◌<◌, true, false, List, [], ◌∷◌}
use Rattle.std.proofs.Common.{◌++◌, length, length-append, get_or, drop, codes, unwrap_or}
use Rattle.std.proofs.Common.{Result, Ok, Err, refl, sym, ap, ◌∙◌, subst, arith}
use Rattle.std.specs.Prelude.{IfSome, Option, Some, None}
use Rattle.std.specs.Str.{bytes_eq}
use Rattle.std.proofs.lemmas.List.{append-nil}
use Rattle.bufr_base.specs.Answers.{◌>>=◌}
use Rattle.bufr_tables.specs.Entries.{Entries}
use Rattle.bufr_base.specs.declared.failure.Failure.TheVariants.{Fault}
use Rattle.bufr_sections.specs.declared.message.Head.{Head}
use Rattle.bufr_sections.specs.Sections.{AreOctets, HeadFits}
use Rattle.bufr_listing.specs.declared.fault.ListingFault.{ListingFault}
use Rattle.bufr_listing.specs.Listings.{section1_numbers, time_numbers, octets_line, section1_line}
use Rattle.bufr_listing.specs.Listings.{time_line, local_lines, section2_line, section2_lines}
use Rattle.bufr_listing.specs.Listings.{flags_line}
use Rattle.bufr_listing_reader.specs.Lines.{Line, texts, first_word}
use Rattle.bufr_listing_reader.specs.Reading.{with_rest, read_line, read_if, read_word, read_numbers}
use Rattle.bufr_listing_reader.specs.Reading.{read_local, read_section2, Flags, read_flags}
use Rattle.bufr_listing_reader.specs.Reading.{read_descriptors, section1_limits, time_limits, head_with}
use Rattle.bufr_listing_reader.specs.Reading.{are_below, head_read, message_read}
use Rattle.bufr_listing_reader.specs.FirstFaults.{Unfit, Place, at_message, at_section1, at_time}
use Rattle.bufr_listing_reader.specs.FirstFaults.{behind_time, behind_local, behind_section2}
use Rattle.bufr_listing_reader.specs.FirstFaults.{at_descriptors, AreBefore, CouldBeAt, IsOfKindAt}
use Rattle.bufr_listing_reader.specs.FirstFaults.{IsSection2, IsFlags, up_to_time, up_to_local}
use Rattle.bufr_listing_reader.proofs.LowerLaws.{DescriptorTexts}
use Rattle.bufr_listing_reader.proofs.LineFacts.{numbers_take, octets_take, local_back, section2_take}
use Rattle.bufr_listing_reader.proofs.LineFacts.{section2_back, flags_take, flags_back, descriptors_take}
use Rattle.bufr_listing_reader.proofs.LoopFacts.{goes_on, fails_on}
use Rattle.bufr_listing_reader.proofs.MessageFacts.{section1_back, time_back, word_back, head_fits}
use Rattle.bufr_listing_reader.proofs.MessageFacts.{section2_titled, flags_not_section2, not_local}
use Rattle.bufr_listing_reader.proofs.MessageParts.{from_section2, from_descriptors}
use Rattle.bufr_listing_reader.proofs.MessageSteps.{head_fails, at_section2, at_flags}
use Rattle.bufr_listing_reader.proofs.MessageSteps as steps
use Rattle.bufr_listing_reader.proofs.FieldFacts.{bytes_same}
use Rattle.bufr_listing_reader.proofs.FaultFacts.{other_kind}
use Rattle.bufr_listing_reader.proofs.FaultFields.{not_title}
use Rattle.bufr_listing_reader.proofs.FaultHeadings.{IsNotTitled, next_is, section1_err, time_err}
use Rattle.bufr_listing_reader.proofs.FaultHeadings.{local_at, section2_at, flags_at, place_behind}
use Rattle.bufr_listing_reader.proofs.FaultHeadings.{descriptors_err, no_line, no_template}
use Rattle.bufr_listing_reader.proofs.FaultMessages.{none_fit, first_head, section1_is, time_is}
use Rattle.bufr_listing_reader.proofs.RefusedLines.{Decides, unfit_read, word_decides, titled_or_not}
use Rattle.bufr_listing_reader.proofs.RefusedLines.{absent_read, titled_read, titled_refused}
use Rattle.bufr_listing_reader.proofs.RefusedLines.{none_before, line_passed}

-- ---- faults

-- section 1 has the fault of its line
abbrev RefusedInHead : Place → Type 0
RefusedInHead place = (past : ℕ) (own rest : List Line) (fault : ListingFault)
    → AreBefore place (texts own) → Unfit (CouldBeAt place) (IsOfKindAt place) past rest fault
    → head_read past (own ++ rest) ≡ Err fault

-- the message has the fault of its line
abbrev pub RefusedAt : Entries → Place → Type 0
RefusedAt tables place = (past : ℕ) (own rest : List Line) (fault : ListingFault)
    → AreBefore place (texts own) → Unfit (CouldBeAt place) (IsOfKindAt place) past rest fault
    → message_read tables past (own ++ rest) ≡ Err fault

-- ---- which lines could follow

section1_decides : (l : Line)
    → Decides (CouldBeAt at_section1) (IsOfKindAt at_section1)
    (read_numbers (codes "section1") section1_limits) l
section1_decides l =
    let zeros : List ℕ = 0 ∷ 0 ∷ 0 ∷ 0 ∷ 0 ∷ 0 ∷ [] in
    record {
      stands = λ ns h.
          let t = numbers_take (codes "section1") section1_limits l.number l.text ns h in
          (head_with ns zeros None, first_head ns t.1, t.0 ∙ section1_is ns zeros None t.1);
      refused = λ f h none. (section1_err l.number l.text f h).1;
    }

time_head : (ts : List ℕ) → are_below time_limits ts ≡ true
    → HeadFits (head_with (0 ∷ 0 ∷ 0 ∷ 0 ∷ 0 ∷ 0 ∷ 0 ∷ 0 ∷ []) ts None)
unfolding are_below
time_head ts below =
    head_fits (0 ∷ 0 ∷ 0 ∷ 0 ∷ 0 ∷ 0 ∷ 0 ∷ 0 ∷ []) ts None refl below none_fit

time_decides : (l : Line)
    → Decides (CouldBeAt at_time) (IsOfKindAt at_time) (read_numbers (codes "time") time_limits) l
time_decides l =
    let zeros : List ℕ = 0 ∷ 0 ∷ 0 ∷ 0 ∷ 0 ∷ 0 ∷ 0 ∷ 0 ∷ [] in
    record {
      stands = λ ts h.
          let t = numbers_take (codes "time") time_limits l.number l.text ts h in (
            head_with zeros ts None,
            time_head ts t.1,
            t.0 ∙ time_is zeros ts None t.1,
          );
      refused = λ f h none. (time_err l.number l.text f h).1;
    }

local_decides : (l : Line) → first_word l.text ≡ codes "local1"
    → Decides (CouldBeAt behind_time) (IsOfKindAt behind_time) read_local l
local_decides l titled =
    record {
      stands = λ os h.
          let t = octets_take (codes "local1") _ l.number l.text os h in
          inl (os, t.octets, t.some, t.line);
      refused = λ f h none. (local_at l f titled h).1;
    }

section2_could : (local : Option (List ℕ)) (text : List ℕ) → IsSection2 text
    → CouldBeAt (place_behind local None) text
section2_could None text is = inr (inl is)
section2_could (Some octets) text is = inl is

section2_decides : (local : Option (List ℕ)) (l : Line) → first_word l.text ≡ codes "section2"
    → Decides (CouldBeAt (place_behind local None)) (IsOfKindAt (place_behind local None))
    read_section2 l
section2_decides local l titled =
    record {
      stands = λ os h.
          let t = section2_take l.number l.text os h in
          section2_could local l.text (os, t.1, t.0);
      refused = λ f h none. (section2_at local l f titled h).1;
    }

flags_could : (local two : Option (List ℕ)) (text : List ℕ) → IsFlags text
    → CouldBeAt (place_behind local two) text
flags_could None None text is = inr (inr is)
flags_could (Some octets) None text is = inr is
flags_could None (Some two) text is = is
flags_could (Some octets) (Some two) text is = is

flags_decide : (local two : Option (List ℕ)) (l : Line)
    → (local ≡ None → two ≡ None → first_word l.text ≡ codes "local1" → ⊥)
    → (two ≡ None → first_word l.text ≡ codes "section2" → ⊥)
    → Decides (CouldBeAt (place_behind local two)) (IsOfKindAt (place_behind local two))
    read_flags l
flags_decide local two l no_local no_two =
    record {
      stands = λ f h.
          flags_could local two l.text
          (f.observed, f.compressed, flags_take l.number l.text f h);
      refused = λ fault h none. (flags_at local two l fault no_local no_two h).1;
    }

descriptors_decide : DescriptorTexts → (tables : Entries) (l : Line)
    → Decides (CouldBeAt at_descriptors) (IsOfKindAt at_descriptors) (read_descriptors tables) l
descriptors_decide texts tables l =
    record {
      stands = λ x h.
          let t = descriptors_take texts tables l.number l.text x h in
          (x.descriptors, (t.some, t.small, t.line));
      refused = λ f h none.
          elim (descriptors_err texts tables l.number l.text f h) [
            | no_line other is ↦ other_kind ⊥ l.number f (λ k. k) (sym is)
            | no_template ds why line has is ↦ absurd (none (ds, line))
          ];
    }

-- ---- up to the time

abbrev from_local : Head → List Line → Result (Head × List Line) ListingFault
from_local h ls =
    read_if (codes "local1") read_local ls
    >>= λ local. with_rest local.1 (head_with (section1_numbers h) (time_numbers h) local.0)

-- reading takes the lines up to the time, and leaves these
record UpToTime (past : ℕ) (ls rest : List Line) (h : Head) (more : List (List ℕ))
    : Type 0 where
  others : List Line
  reads : head_read past ls ≡ from_local h (others ++ rest)
  spelled : texts others ≡ more

time_passed : (past : ℕ) (own rest : List Line) (h : Head) (more : List (List ℕ)) → HeadFits h
    → texts own ≡ up_to_time h ++ more → UpToTime past (own ++ rest) rest h more
time_passed past own rest h more fits e =
    let a = line_passed (read_word (codes "message")) past own rest (codes "message")
    (section1_line h ∷ time_line h ∷ more) tt (λ n. word_back (codes "message") n) e in
    let b = line_passed (read_numbers (codes "section1") section1_limits) past a.others rest
    (section1_line h) (time_line h ∷ more) (section1_numbers h) (λ n. section1_back n h fits)
    a.spelled in
    let c = line_passed (read_numbers (codes "time") time_limits) past b.others rest
    (time_line h) more (time_numbers h) (λ n. time_back n h fits) b.spelled in
    record {
      others = c.others;
      reads = goes_on _ _ _ _ a.reads (goes_on _ _ _ _ b.reads (goes_on _ _ _ _ c.reads refl));
      spelled = c.spelled;
    }

message_line_refused : RefusedInHead at_message
message_line_refused past own rest fault e h =
    ap (λ (ls : List Line). head_read past ls) (none_before own rest e)
    ∙ fails_on (read_line (read_word (codes "message")) past rest) _ fault
    (unfit_read (CouldBeAt at_message) (IsOfKindAt at_message) (read_word (codes "message")) past
    rest fault (λ l behind is. word_decides (codes "message") l) h)

section1_line_refused : RefusedInHead at_section1
section1_line_refused past own rest fault e h =
    let read = read_numbers (codes "section1") section1_limits in
    let a = line_passed (read_word (codes "message")) past own rest (codes "message") [] tt
    (λ n. word_back (codes "message") n) e in
    let fails : read_line read past (a.others ++ rest) ≡ Err fault =
    ap (λ (ls : List Line). read_line read past ls) (none_before a.others rest a.spelled)
    ∙ unfit_read (CouldBeAt at_section1) (IsOfKindAt at_section1) read past rest fault
    (λ l behind is. section1_decides l) h in
    goes_on _ _ _ _ a.reads (fails_on (read_line read past (a.others ++ rest)) _ fault fails)

time_line_refused : RefusedInHead at_time
time_line_refused past own rest fault before h =
    let read = read_numbers (codes "time") time_limits in
    let a = line_passed (read_word (codes "message")) past own rest (codes "message")
    (section1_line before.0 ∷ []) tt (λ n. word_back (codes "message") n) before.2 in
    let b = line_passed (read_numbers (codes "section1") section1_limits) past a.others rest
    (section1_line before.0) [] (section1_numbers before.0)
    (λ n. section1_back n before.0 before.1) a.spelled in
    let fails : read_line read past (b.others ++ rest) ≡ Err fault =
    ap (λ (ls : List Line). read_line read past ls) (none_before b.others rest b.spelled)
    ∙ unfit_read (CouldBeAt at_time) (IsOfKindAt at_time) read past rest fault
    (λ l behind is. time_decides l) h in
    goes_on _ _ _ _ a.reads
    (goes_on _ _ _ _ b.reads (fails_on (read_line read past (b.others ++ rest)) _ fault fails))

-- ---- lines that a message may lack

-- reading takes the line or finds none, and leaves these
record IfPassed {A : Type 0} (title : List ℕ) (read : ℕ → List ℕ → Result A ListingFault)
    (ls rest : List Line) (o : Option A) (more : List (List ℕ)) : Type 0 where
  others : List Line
  reads : read_if title read ls ≡ Ok (o, others ++ rest)
  spelled : texts others ≡ more

present_passed : {A : Type 0} (title : List ℕ) (read : ℕ → List ℕ → Result A ListingFault)
    (own rest : List Line) (text : List ℕ) (more : List (List ℕ)) (a : A)
    → bytes_eq (first_word text) title ≡ true → ((n : ℕ) → read n text ≡ Ok a)
    → texts own ≡ text ∷ more → IfPassed title read (own ++ rest) rest (Some a) more
present_passed title read [] rest text more a titled each e = absurd cc
present_passed {A} title read (l ∷ own) rest text more a titled each e =
    let first : l.text ≡ text = ap (λ xs. get_or xs 0 []) e in
    let word : first_word l.text ≡ title =
    ap first_word first ∙ bytes_same (first_word text) title titled in
    let reads : read l.number l.text ≡ Ok a =
    subst (λ (t : List ℕ). read l.number t ≡ Ok a) (sym first) (each l.number) in
    record {
      others = own;
      reads = titled_read title read l (own ++ rest) word
          ∙ ap (λ (r : Result A ListingFault). r >>= λ x. with_rest (own ++ rest) (Some x)) reads;
      spelled = ap (λ xs. drop 1 xs) e;
    }

absent_passed : {A : Type 0} (title : List ℕ) (read : ℕ → List ℕ → Result A ListingFault)
    (own rest : List Line) (more : List (List ℕ)) → IsNotTitled title (own ++ rest)
    → texts own ≡ more → IfPassed title read (own ++ rest) rest None more
absent_passed title read own rest more other e =
    record { others = own; reads = absent_read title read (own ++ rest) other; spelled = e }

not_titled_next : (title : List ℕ) (own rest : List Line) (more : List (List ℕ))
    → 0 < length more → bytes_eq (first_word (get_or more 0 [])) title ≡ false
    → texts own ≡ more → IsNotTitled title (own ++ rest)
not_titled_next title [] rest more some other e =
    let none = ap length e in
    absurd (omega (arith, some, none))
not_titled_next title (l ∷ own) rest more some other e = λ m behind is titled.
    let first : l.text ≡ get_or more 0 [] = ap (λ xs. get_or xs 0 []) e in
    let same = ap (λ (x : Line). first_word x.text) (next_is l m (own ++ rest) behind is) in
    not_title (first_word (get_or more 0 [])) title other
    (ap first_word (sym first) ∙ same ∙ titled)

-- reading takes the octets for local use
record LocalPassed (ls rest : List Line) (local : List ℕ) (more : List (List ℕ)) : Type 0 where
  found : Option (List ℕ)
  is : unwrap_or found [] ≡ local
  passed : IfPassed (codes "local1") read_local ls rest found more

local_passed : (own rest : List Line) (local : List ℕ) (more : List (List ℕ)) → AreOctets local
    → (local ≡ [] → (others : List Line) → texts others ≡ more
    → IsNotTitled (codes "local1") (others ++ rest))
    → texts own ≡ local_lines local ++ more → LocalPassed (own ++ rest) rest local more
local_passed own rest [] more octets other e =
    record {
      found = None;
      is = refl;
      passed = absent_passed (codes "local1") read_local own rest more (other refl own e) e;
    }
local_passed own rest (x ∷ xs) more octets other e =
    record {
      found = Some (x ∷ xs);
      is = refl;
      passed =
          present_passed (codes "local1") read_local own rest
          (octets_line (codes "local1") (x ∷ xs))
          more (x ∷ xs) refl (λ n. local_back n x xs octets) e;
    }

section2_passed : (own rest : List Line) (two : Option (List ℕ)) (more : List (List ℕ))
    → IfSome two AreOctets → 0 < length more
    → bytes_eq (first_word (get_or more 0 [])) (codes "section2") ≡ false
    → texts own ≡ section2_lines two ++ more
    → IfPassed (codes "section2") read_section2 (own ++ rest) rest two more
section2_passed own rest None more octets some other e =
    absent_passed (codes "section2") read_section2 own rest more
    (not_titled_next (codes "section2") own rest more some other e) e
section2_passed own rest (Some os) more octets some other e =
    present_passed (codes "section2") read_section2 own rest (section2_line os) more os
    (section2_titled os) (λ n. section2_back n os octets) e

-- reading takes section 1, and leaves these
record HeadPassed (past : ℕ) (ls rest : List Line) (h : Head) (more : List (List ℕ))
    : Type 0 where
  others : List Line
  reads : head_read past ls ≡ Ok (h, others ++ rest)
  spelled : texts others ≡ more

head_passed : (past : ℕ) (own rest : List Line) (h : Head) (more : List (List ℕ)) → HeadFits h
    → (h.local ≡ [] → (others : List Line) → texts others ≡ more
    → IsNotTitled (codes "local1") (others ++ rest))
    → texts own ≡ up_to_local h ++ more → HeadPassed past (own ++ rest) rest h more
head_passed past own rest h more fits other e =
    let t = time_passed past own rest h (local_lines h.local ++ more) fits e in
    let l = local_passed t.others rest h.local more fits.local other t.spelled in
    let same : head_with (section1_numbers h) (time_numbers h) l.found ≡ h =
    λ k. record h { local = l.is k } in
    record {
      others = l.passed.others;
      reads = t.reads
          ∙ goes_on _ _ _ _ l.passed.reads
          (ap (λ (g : Head). with_rest (l.passed.others ++ rest) g) same);
      spelled = l.passed.spelled;
    }

-- ---- the flags

flags_refused : (local two : Option (List ℕ)) (past : ℕ) (ls : List Line) (fault : ListingFault)
    → (local ≡ None → two ≡ None → IsNotTitled (codes "local1") ls)
    → (two ≡ None → IsNotTitled (codes "section2") ls)
    → Unfit (CouldBeAt (place_behind local two)) (IsOfKindAt (place_behind local two))
    past ls fault
    → read_line read_flags past ls ≡ Err fault
flags_refused local two past ls fault no_local no_two h =
    unfit_read (CouldBeAt (place_behind local two)) (IsOfKindAt (place_behind local two))
    read_flags past ls fault
    (λ l behind e.
    flags_decide local two l (λ a b. no_local a b l behind e) (λ b. no_two b l behind e)) h

section2_refused : (tables : Entries) (past : ℕ) (h : Head) (local : Option (List ℕ))
    (ls : List Line) (fault : ListingFault) → (local ≡ None → IsNotTitled (codes "local1") ls)
    → Unfit (CouldBeAt (place_behind local None)) (IsOfKindAt (place_behind local None))
    past ls fault
    → from_section2 tables past h ls ≡ Err fault
section2_refused tables past h local ls fault no_local u =
    elim (titled_or_not (codes "section2") ls) [
      | inl p ↦
          fails_on (read_if (codes "section2") read_section2 ls) _ fault
          (titled_refused (CouldBeAt (place_behind local None))
          (IsOfKindAt (place_behind local None)) (codes "section2") read_section2 past ls p.0 p.1
          fault p.2 p.3 (section2_decides local p.0 p.3) u)
      | inr other ↦
          goes_on (read_if (codes "section2") read_section2 ls) _ (None, ls) _
          (absent_read (codes "section2") read_section2 ls other)
          (fails_on (read_line read_flags past ls) _ fault
          (flags_refused local None past ls fault (λ a b. no_local a) (λ b. other) u))
    ]

-- ---- after the time

behind_time_refused : (tables : Entries) → RefusedAt tables behind_time
behind_time_refused tables past own rest fault before u =
    let h = before.0 in
    let t = time_passed past own rest h [] before.1
    (before.2 ∙ sym (append-nil (up_to_time h))) in
    let reads : head_read past (own ++ rest) ≡ from_local h rest =
    t.reads ∙ ap (λ (ls : List Line). from_local h ls) (none_before t.others rest t.spelled) in
    elim (titled_or_not (codes "local1") rest) [
      | inl p ↦
          head_fails tables past (own ++ rest) (Fault fault)
          (reads
          ∙ fails_on (read_if (codes "local1") read_local rest) _ fault
          (titled_refused (CouldBeAt behind_time) (IsOfKindAt behind_time) (codes "local1")
          read_local past rest p.0 p.1 fault p.2 p.3 (local_decides p.0 p.3) u))
      | inr other ↦
          let g = head_with (section1_numbers h) (time_numbers h) None in
          let head : head_read past (own ++ rest) ≡ Ok (g, rest) =
          reads
          ∙ goes_on (read_if (codes "local1") read_local rest) _ (None, rest) _
          (absent_read (codes "local1") read_local rest other) refl in
          at_section2 tables past (own ++ rest) rest g head
          ∙ section2_refused tables past g None rest fault (λ a. other) u
    ]

behind_local_refused : (tables : Entries) → RefusedAt tables behind_local
behind_local_refused tables past own rest fault before u =
    let h = before.0 in
    let p = head_passed past own rest h [] before.1
    (λ none others e. let few = ap length none in absurd (omega (arith, few, before.2)))
    (before.3 ∙ sym (append-nil (up_to_local h))) in
    let head : head_read past (own ++ rest) ≡ Ok (h, rest) =
    p.reads
    ∙ ap (λ (ls : List Line). with_rest ls h) (none_before p.others rest p.spelled) in
    at_section2 tables past (own ++ rest) rest h head
    ∙ section2_refused tables past h (Some h.local) rest fault (λ a. absurd cc) u

some_behind : (a : List (List ℕ)) (b : List ℕ) (c : List (List ℕ)) → 0 < length (a ++ b ∷ c)
some_behind a b c = let sum = length-append a (b ∷ c) in omega (arith, sum)

section2_not_local : (two : List ℕ)
    → bytes_eq (first_word (section2_line two)) (codes "local1") ≡ false
section2_not_local [] = refl
section2_not_local (x ∷ xs) = refl

behind_section2_refused : (tables : Entries) → RefusedAt tables behind_section2
behind_section2_refused tables past own rest fault before u =
    let h = before.0 in
    let two = before.2 in
    let p = head_passed past own rest h (section2_line two ∷ []) before.1
    (λ none others e.
    not_titled_next (codes "local1") others rest (section2_line two ∷ []) (omega arith)
    (section2_not_local two) e) before.4 in
    let q = present_passed (codes "section2") read_section2 p.others rest (section2_line two) [] two
    (section2_titled two) (λ n. section2_back n two before.3) p.spelled in
    let flags : read_line read_flags past (q.others ++ rest) ≡ Err fault =
    ap (λ (ls : List Line). read_line read_flags past ls) (none_before q.others rest q.spelled)
    ∙ flags_refused None (Some two) past rest fault (λ a b. absurd cc) (λ b. absurd cc) u in
    at_flags tables past (own ++ rest) (p.others ++ rest) (q.others ++ rest) h (Some two) p.reads
    q.reads
    ∙ fails_on (read_line read_flags past (q.others ++ rest)) _ fault flags

-- ---- the descriptors

pub flags_passed : (tables : Entries) (past : ℕ) (own rest : List Line)
    (before : AreBefore at_descriptors (texts own)) → message_read tables past (own ++ rest)
    ≡ from_descriptors tables past before.0 before.2
    (record { observed = before.4; compressed = before.5 }) rest
flags_passed tables past own rest before =
    let h = before.0 in
    let two = before.2 in
    let observed = before.4 in
    let compressed = before.5 in
    let line = flags_line observed compressed in
    let flags : Flags = record { observed = observed; compressed = compressed } in
    let p = head_passed past own rest h (section2_lines two ++ line ∷ []) before.1
    (λ none others e.
    not_titled_next (codes "local1") others rest (section2_lines two ++ line ∷ [])
    (some_behind (section2_lines two) line []) (not_local two observed compressed []) e)
    before.6 in
    let q = section2_passed p.others rest two (line ∷ []) before.3 (omega arith)
    (flags_not_section2 observed compressed) p.spelled in
    let f = line_passed read_flags past q.others rest line [] flags
    (λ n. flags_back n observed compressed) q.spelled in
    steps.at_descriptors tables past (own ++ rest) (p.others ++ rest) (q.others ++ rest)
    (f.others ++ rest) h two flags p.reads q.reads f.reads
    ∙ ap (λ (ls : List Line). from_descriptors tables past h two flags ls)
    (none_before f.others rest f.spelled)

descriptors_refused : DescriptorTexts → (tables : Entries) → RefusedAt tables at_descriptors
descriptors_refused texts tables past own rest fault before u =
    flags_passed tables past own rest before
    ∙ fails_on (read_line (read_descriptors tables) past rest) _ fault
    (unfit_read (CouldBeAt at_descriptors) (IsOfKindAt at_descriptors) (read_descriptors tables)
    past rest fault (λ l behind e. descriptors_decide texts tables l) u)

-- ---- each place

in_head : (tables : Entries) (place : Place) → RefusedInHead place → RefusedAt tables place
in_head tables place refused past own rest fault before u =
    head_fails tables past (own ++ rest) (Fault fault) (refused past own rest fault before u)

pub place_refused : DescriptorTexts → (tables : Entries) (place : Place) → RefusedAt tables place
place_refused texts tables at_message = in_head tables at_message message_line_refused
place_refused texts tables at_section1 = in_head tables at_section1 section1_line_refused
place_refused texts tables at_time = in_head tables at_time time_line_refused
place_refused texts tables behind_time = behind_time_refused tables
place_refused texts tables behind_local = behind_local_refused tables
place_refused texts tables behind_section2 = behind_section2_refused tables
place_refused texts tables at_descriptors = descriptors_refused texts tables
