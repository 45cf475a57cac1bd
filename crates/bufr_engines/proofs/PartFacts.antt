-- Texts that the printer holds and writes in parts: for the methods of `Printer`.
use Rattle.std.proofs.Common.{◌≡◌, ℕ, ◌+◌, false, inl, List, [], ◌++◌, length, Result, Ok, Err}
use Rattle.std.proofs.Common.{refl, sym, ap, ◌∙◌, subst, arith, length-append, append_assoc}
use Rattle.std.proofs.lemmas.List.{append-nil}
use Rattle.bufr_bits.specs.Devices.{Writing}
use Rattle.bufr_io.specs.declared.fault.ToolFault.{ToolFault}
use Rattle.bufr_io.specs.declared.fault.ToolFault.TheVariants as faults
use Rattle.bufr_io.specs.Engines.{WritesAll, WritesAfter, FailsAfter}
use Rattle.bufr_io.specs.WritingLaws.{writes_none, writes_more, fails_more, fails_longer}
use Rattle.bufr_engines.specs.declared.printer.Printer.{Printer}
use Rattle.bufr_io.specs.Lines.{AreWholeLines, WritesLines}
use Rattle.bufr_engines.specs.StreamEngines.{Adds, Fits, Keeps, Stops, StopsWithin}
use Rattle.bufr_engines.specs.StreamEngines.{WritesAllBut, WritesPart, WritesSome}
use Rattle.bufr_engines.proofs.LineFacts.{both_whole, some_lines}

pub keeps_both : (p q p' : Printer) → Keeps p q → Keeps q p' → Keeps p p'
keeps_both p q p' a b = record {
  printing = b.printing ∙ a.printing;
  tables = b.tables ∙ a.tables;
  frames = b.frames ∙ a.frames;
  refused = b.refused ∙ a.refused;
  octets = b.octets ∙ a.octets;
}

-- ---- all lines of a text are written or held

pub but_all : (held text : List ℕ) (before : ℕ) (w : Writing) → text ≡ held → AreWholeLines held
    → w.failed ≡ false → WritesAllBut held text before before w w
but_all held text before w is whole works = record {
  front = [];
  parted = is;
  front_whole = inl refl;
  held_whole = whole;
  written = writes_none w works;
  counted = omega arith;
}

pub held_more : (held text lines held' text' : List ℕ) (before now : ℕ) (first last : Writing)
    → held' ≡ held ++ lines → text' ≡ text ++ lines → AreWholeLines lines
    → WritesAllBut held text before now first last
    → WritesAllBut held' text' before now first last
held_more held text lines held' text' before now first last held_is text_is whole w = record {
  front = w.front;
  parted = text_is ∙ ap (λ (t : List ℕ). t ++ lines) w.parted ∙ append_assoc w.front held lines
      ∙ ap (λ (t : List ℕ). w.front ++ t) (sym held_is);
  front_whole = w.front_whole;
  held_whole = subst AreWholeLines (sym held_is) (both_whole held lines w.held_whole whole);
  written = w.written;
  counted = w.counted;
}

pub held_less : (held held' text : List ℕ) (before then now : ℕ) (first mid last : Writing)
    → WritesAllBut held text before then first mid → WritesAllBut held' held then now mid last
    → WritesAllBut held' text before now first last
held_less held held' text before then now first mid last w v = record {
  front = w.front ++ v.front;
  parted = w.parted ∙ ap (λ (t : List ℕ). w.front ++ t) v.parted
      ∙ sym (append_assoc w.front v.front held');
  front_whole = both_whole w.front v.front w.front_whole v.front_whole;
  held_whole = v.held_whole;
  written = writes_more first mid last w.front v.front w.written v.written;
  counted = omega (arith, w.counted, v.counted, length-append w.front v.front);
}

pub held_none : (held held' text : List ℕ) (before then now : ℕ) (first mid last : Writing)
    → WritesAllBut held text before then first mid → WritesAll mid last held → held' ≡ []
    → now ≡ then + length held → WritesAllBut held' text before now first last
held_none held held' text before then now first mid last w all none long =
    held_less held held' text before then now first mid last w
    (record {
      front = held;
      parted = sym (ap (λ (t : List ℕ). held ++ t) none ∙ append-nil held);
      front_whole = w.held_whole;
      held_whole = inl none;
      written = all;
      counted = long;
    })

pub adds_held : (text held : List ℕ) (p : Printer) (w : Writing) → held ≡ p.held.items ++ text
    → AreWholeLines p.held.items → AreWholeLines text → w.failed ≡ false
    → WritesAllBut held (p.held.items ++ text) p.written p.written w w
adds_held text held p w is one two works =
    but_all held (p.held.items ++ text) p.written w (sym is)
    (subst AreWholeLines (sym is) (both_whole p.held.items text one two)) works

both_held : (one two : List ℕ) (p q : Printer) (first mid : Writing) → AreWholeLines two
    → WritesAllBut q.held.items (p.held.items ++ one) p.written q.written first mid
    → WritesAllBut (q.held.items ++ two) (p.held.items ++ (one ++ two)) p.written
    q.written first mid
both_held one two p q first mid whole w =
    held_more q.held.items (p.held.items ++ one) two (q.held.items ++ two)
    (p.held.items ++ (one ++ two)) p.written q.written first mid refl
    (sym (append_assoc p.held.items one two)) whole w

pub all_written : (held text : List ℕ) (before now : ℕ) (first last : Writing)
    → held ≡ [] → WritesAllBut held text before now first last → WritesAll first last text
all_written held text before now first last none w =
    subst (WritesAll first last)
    (sym (w.parted ∙ ap (λ (t : List ℕ). w.front ++ t) none ∙ append-nil w.front)) w.written

pub counted_all : (held text : List ℕ) (before now : ℕ) (first last : Writing)
    → WritesAllBut held text before now first last → now + length held ≡ before + length text
counted_all held text before now first last w =
    let a = w.counted in
    let b = ap length w.parted ∙ length-append w.front held in
    omega arith

-- ---- the first lines of a text are written or held

pub some_all : (held text rest all : List ℕ) (before now : ℕ) (first last : Writing)
    → all ≡ text ++ rest → WritesAllBut held text before now first last
    → WritesSome held all before now first last
some_all held text rest all before now first last is w =
    record { front = text; rest = rest; parted = is; done = w }

pub some_longer : (held text rest all : List ℕ) (before now : ℕ) (first last : Writing)
    → all ≡ text ++ rest → WritesSome held text before now first last
    → WritesSome held all before now first last
some_longer held text rest all before now first last is w = record {
  front = w.front;
  rest = w.rest ++ rest;
  parted = is ∙ ap (λ (t : List ℕ). t ++ rest) w.parted ∙ append_assoc w.front w.rest rest;
  done = w.done;
}

pub some_less : (held held' text : List ℕ) (before then now : ℕ) (first mid last : Writing)
    → WritesAllBut held text before then first mid → WritesSome held' held then now mid last
    → WritesSome held' text before now first last
some_less held held' text before then now first mid last w v = record {
  front = w.front ++ v.front;
  rest = v.rest;
  parted = w.parted ∙ ap (λ (t : List ℕ). w.front ++ t) v.parted
      ∙ sym (append_assoc w.front v.front v.rest);
  done = record {
    front = w.front ++ v.done.front;
    parted = ap (λ (t : List ℕ). w.front ++ t) v.done.parted
        ∙ sym (append_assoc w.front v.done.front held');
    front_whole = both_whole w.front v.done.front w.front_whole v.done.front_whole;
    held_whole = v.done.held_whole;
    written = writes_more first mid last w.front v.done.front w.written v.done.written;
    counted = omega (arith, w.counted, v.done.counted, length-append w.front v.done.front);
  };
}

pub some_written : (held text : List ℕ) (before then : ℕ) (first mid last : Writing)
    → WritesSome held text before then first mid → WritesAll mid last held
    → WritesLines first last text
some_written held text before then first mid last w all =
    some_lines first last w.front w.rest text w.parted
    (subst AreWholeLines (sym w.done.parted)
    (both_whole w.done.front held w.done.front_whole w.done.held_whole))
    (subst (WritesAll first last) (sym w.done.parted)
    (writes_more first mid last w.done.front held w.done.written all))

-- ---- the writer failed

pub held_fails : (held text rest all : List ℕ) (before then : ℕ) (first mid last : Writing)
    (e : ToolFault) → all ≡ text ++ rest → WritesAllBut held text before then first mid
    → WritesAfter then held mid last (Err e) → WritesAfter before all first last (Err e)
held_fails held text rest all before then first mid last (faults.WriteFailed written) is w p = (
  length w.front + p.0,
  omega (arith, w.counted, p.1),
  subst (FailsAfter (length w.front + p.0) first last)
      (sym (is ∙ ap (λ (t : List ℕ). t ++ rest) w.parted))
      (fails_longer first last (w.front ++ held) rest (length w.front + p.0)
      (fails_more first mid last w.front held p.0 w.written p.2)),
)
held_fails held text rest all before then first mid last e is w p = absurd p

adds_failed : (text : List ℕ) (p p' : Printer) (first last : Writing) (e : ToolFault)
    → WritesAfter p.written (p.held.items ++ text) first last (Err e)
    → Adds text p p' first last (Err e)
adds_failed text p p' first last (faults.WriteFailed written) f = f
adds_failed text p p' first last e f = absurd f

pub adds_halts : (text done rest held : List ℕ) (p p' : Printer) (first last : Writing)
    → text ≡ done ++ rest
    → WritesAllBut held (p.held.items ++ done) p.written p'.written first last
    → p'.held.items ≡ held → Adds text p p' first last (Err faults.OutOfMemory)
adds_halts text done rest held p p' first last is w same =
    some_all p'.held.items (p.held.items ++ done) rest (p.held.items ++ text) p.written
    p'.written first last
    (ap (λ (t : List ℕ). p.held.items ++ t) is ∙ sym (append_assoc p.held.items done rest))
    (subst (λ (t : List ℕ). WritesAllBut t (p.held.items ++ done) p.written
    p'.written first last) (sym same) w)

pub adds_none : (text : List ℕ) (p p' : Printer) (w : Writing) → AreWholeLines p.held.items
    → w.failed ≡ false → p'.held.items ≡ p.held.items → p'.written ≡ p.written
    → Adds text p p' w w (Err faults.OutOfMemory)
adds_none text p p' w whole works same written =
    adds_halts text [] text p.held.items p p' w w refl
    (subst (λ n. WritesAllBut p.held.items (p.held.items ++ []) p.written n w w)
    (sym written)
    (but_all p.held.items (p.held.items ++ []) p.written w (append-nil p.held.items) whole
    works))
    same

behind_all : (before front rest text : List ℕ) → text ≡ front ++ rest
    → before ++ text ≡ (before ++ front) ++ rest
behind_all before front rest text is =
    ap (λ (t : List ℕ). before ++ t) is ∙ sym (append_assoc before front rest)

pub adds_then : (one two : List ℕ) (p q p' : Printer) (first mid last : Writing)
    (r : Result (Unit {0}) ToolFault) → AreWholeLines two
    → WritesAllBut q.held.items (p.held.items ++ one) p.written q.written first mid
    → Adds two q p' mid last r → Adds (one ++ two) p p' first last r
adds_then one two p q p' first mid last (Ok done) whole w a =
    held_less (q.held.items ++ two) p'.held.items (p.held.items ++ (one ++ two)) p.written
    q.written p'.written first mid last (both_held one two p q first mid whole w) a
adds_then one two p q p' first mid last (Err (faults.WriteFailed written)) whole w a =
    let all = p.held.items ++ (one ++ two) in
    held_fails (q.held.items ++ two) all [] all p.written q.written first mid last
    (faults.WriteFailed written) (sym (append-nil all)) (both_held one two p q first mid whole w) a
adds_then one two p q p' first mid last (Err faults.OutOfMemory) whole w a =
    some_less (q.held.items ++ two) p'.held.items (p.held.items ++ (one ++ two)) p.written
    q.written p'.written first mid last (both_held one two p q first mid whole w) a
adds_then one two p q p' first mid last (Err e) whole w a = absurd a

pub adds_longer : (front rest text : List ℕ) (p p' : Printer) (first last : Writing)
    (e : ToolFault) → text ≡ front ++ rest → Adds front p p' first last (Err e)
    → Adds text p p' first last (Err e)
adds_longer front rest text p p' first last (faults.WriteFailed written) is a = (
  a.0,
  a.1,
  subst (FailsAfter a.0 first last) (sym (behind_all p.held.items front rest text is))
      (fails_longer first last (p.held.items ++ front) rest a.0 a.2),
)
adds_longer front rest text p p' first last faults.OutOfMemory is a =
    some_longer p'.held.items (p.held.items ++ front) rest (p.held.items ++ text) p.written
    p'.written first last (behind_all p.held.items front rest text is) a
adds_longer front rest text p p' first last e is a = absurd a

pub adds_written : (text : List ℕ) (p q p' : Printer) (first mid last : Writing)
    (r : Result (Unit {0}) ToolFault)
    → WritesAllBut q.held.items (p.held.items ++ text) p.written q.written first mid
    → WritesPart q p' mid last r → Adds text p p' first last r
adds_written text p q p' first mid last (Ok done) w part =
    held_less q.held.items p'.held.items (p.held.items ++ text) p.written q.written
    p'.written first mid last w part
adds_written text p q p' first mid last (Err e) w part =
    let all = p.held.items ++ text in
    adds_failed text p p' first last e
    (held_fails q.held.items all [] all p.written q.written first mid last e
    (sym (append-nil all)) w part)

pub stops_failed : (text : List ℕ) (first last : Writing) (e : ToolFault)
    → WritesAfter 0 text first last (Err e) → Stops text first last e
stops_failed text first last (faults.WriteFailed written) f =
    let at : f.0 ≡ written = omega (arith, f.1) in
    subst (λ n. FailsAfter n first last text) at f.2
stops_failed text first last e f = absurd f

-- ---- printing stopped

pub within_more : (text more : List ℕ) (first mid last : Writing) (p p' : Printer) (e : ToolFault)
    → AreWholeLines more → WritesAllBut p.held.items text 0 p.written first mid
    → Adds more p p' mid last (Err e) → Fits p' → StopsWithin (text ++ more) first p' last e
within_more text more first mid last p p' (faults.WriteFailed written) whole w a fits =
    let f = held_fails (p.held.items ++ more) (text ++ more) [] (text ++ more) 0 p.written
    first mid last (faults.WriteFailed written) (sym (append-nil (text ++ more)))
    (held_more p.held.items text more _ _ 0 p.written first mid refl refl whole w) a in
    stops_failed (text ++ more) first last (faults.WriteFailed written) f
within_more text more first mid last p p' faults.OutOfMemory whole w a fits = (
  some_less (p.held.items ++ more) p'.held.items (text ++ more) 0 p.written
      p'.written first mid last
      (held_more p.held.items text more _ _ 0 p.written first mid refl refl whole w) a,
  fits,
)
within_more text more first mid last p p' e whole w a fits = absurd a

pub stops_written : (text : List ℕ) (first mid last : Writing) (p : Printer)
    → StopsWithin text first p mid faults.OutOfMemory → WritesAll mid last p.held.items
    → Stops text first last faults.OutOfMemory
stops_written text first mid last p s all = some_written _ text _ _ first mid last s.0 all

pub stops_then : (text : List ℕ) (first mid last : Writing) (p : Printer) (e : ToolFault)
    → StopsWithin text first p mid faults.OutOfMemory
    → WritesAfter p.written p.held.items mid last (Err e) → Stops text first last e
stops_then text first mid last p e s f =
    stops_failed text first last e
    (held_fails _ s.0.front s.0.rest text 0 _ first mid last e s.0.parted s.0.done f)
