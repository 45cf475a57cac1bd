-- Laws of rows that are put one after another, and of where that stops.
use Rattle.std.proofs.Common.{◌≡◌, ℕ, ◌+◌, false, inl, List, [], ◌++◌, length, Ok, Err}
use Rattle.std.proofs.Common.{Result, refl, sym, ap, ◌∙◌, subst, arith, append_assoc, length-append}
use Rattle.std.proofs.lemmas.List.{append-nil}
use Rattle.bufr_bits.specs.Devices.{Writing}
use Rattle.bufr_io.specs.declared.fault.ToolFault.{ToolFault}
use Rattle.bufr_io.specs.declared.fault.ToolFault.TheVariants as faults
use Rattle.bufr_io.specs.Engines.{FailsAfter, WritesAll, WritesAfter}
use Rattle.bufr_io.specs.Lines.{AreWholeLines, WritesLines}
use Rattle.bufr_io.specs.LineLaws.{both_whole}
use Rattle.bufr_io.specs.WritingLaws.{fails_longer, fails_more, writes_more}
use Rattle.bufr_io.specs.HeldTexts.{HasPut, HasPutSome, Puts, PutsOrStops}
use Rattle.bufr_io.specs.HeldTexts.{StopsPutting, StopsWriting, WritesHeld}
use Rattle.bufr_io.specs.declared.held_rows.HeldRows.{HeldRows}

-- ---- texts one after another

-- no text
pub puts_none : (r : HeldRows) (w : Writing) → Puts [] r w r w
puts_none r w start before h = subst (λ t. HasPut start t r w) (sym (append-nil before)) h

-- a text, and another
pub puts_more : (a b : List ℕ) (r r1 r2 : HeldRows) (w w1 w2 : Writing) → Puts a r w r1 w1
    → Puts b r1 w1 r2 w2 → Puts (a ++ b) r w r2 w2
puts_more a b r r1 r2 w w1 w2 one two start before h =
    subst (λ t. HasPut start t r2 w2) (append_assoc before a b)
    (two start (before ++ a) (one start before h))

-- a front of a text is one of a longer text
some_longer : (start : Writing) (a b : List ℕ) (r : HeldRows) (w : Writing)
    → HasPutSome start a r w → HasPutSome start (a ++ b) r w
some_longer start a b r w h = record {
  front = h.front;
  rest = h.rest ++ b;
  parted = ap (λ (t : List ℕ). t ++ b) h.parted ∙ append_assoc h.front h.rest b;
  done = h.done;
}

stops_at_longer : (start : Writing) (a b : List ℕ) (r : HeldRows) (w : Writing) (e : ToolFault)
    → StopsPutting start a r w e → StopsPutting start (a ++ b) r w e
stops_at_longer start a b r w (faults.WriteFailed written) s = fails_longer start w a b written s
stops_at_longer start a b r w faults.OutOfMemory s = some_longer start a b r w s
stops_at_longer start a b r w e s = absurd s

-- putting a text stopped, and so putting a longer text
pub stops_longer : (a b : List ℕ) (r r1 : HeldRows) (w w1 : Writing) (e : ToolFault)
    → PutsOrStops a r w r1 w1 (Err e) → PutsOrStops (a ++ b) r w r1 w1 (Err e)
stops_longer a b r r1 w w1 e stops = (
  stops.0,
  λ start before h. subst (λ t. StopsPutting start t r1 w1 e) (append_assoc before a b)
      (stops_at_longer start (before ++ a) b r1 w1 e (stops.1 start before h)),
)

-- a text was put, and putting another stopped
pub stops_more : (a b : List ℕ) (r r1 r2 : HeldRows) (w w1 w2 : Writing) (e : ToolFault)
    → Puts a r w r1 w1 → PutsOrStops b r1 w1 r2 w2 (Err e) → PutsOrStops (a ++ b) r w r2 w2 (Err e)
stops_more a b r r1 r2 w w1 w2 e one two = (
  two.0,
  λ start before h. subst (λ t. StopsPutting start t r2 w2 e) (append_assoc before a b)
      (two.1 start (before ++ a) (one start before h)),
)

-- memory ran out before a text
pub stops_none : (b : List ℕ) (r : HeldRows) (w : Writing) → w.failed ≡ false
    → PutsOrStops b r w r w (Err faults.OutOfMemory)
stops_none b r w works = (
  works,
  λ start before h. record { front = before; rest = b; parted = refl; done = h },
)

-- memory ran out after a text
pub stops_after : (a b : List ℕ) (r r1 : HeldRows) (w w1 : Writing) → Puts a r w r1 w1
    → w1.failed ≡ false → PutsOrStops (a ++ b) r w r1 w1 (Err faults.OutOfMemory)
stops_after a b r r1 w w1 one works = (
  works,
  λ start before h. record {
    front = before ++ a;
    rest = b;
    parted = sym (append_assoc before a b);
    done = one start before h;
  },
)

-- memory ran out when a text was put
pub stops_whole : (a : List ℕ) (r r1 : HeldRows) (w w1 : Writing) → Puts a r w r1 w1
    → w1.failed ≡ false → PutsOrStops a r w r1 w1 (Err faults.OutOfMemory)
stops_whole a r r1 w w1 one works =
    subst (λ t. PutsOrStops t r w r1 w1 (Err faults.OutOfMemory)) (append-nil a)
    (stops_after a [] r r1 w w1 one works)

-- ---- a row

-- a row waits after the others
pub row_held : (row : List ℕ) (r r' : HeldRows) (w : Writing) → AreWholeLines row
    → r'.held.items ≡ r.held.items ++ row → r'.written ≡ r.written → Puts row r w r' w
row_held row r r' w whole held written start before h = record {
  front = h.front;
  parted = ap (λ (t : List ℕ). t ++ row) h.parted ∙ append_assoc h.front r.held.items row
      ∙ ap (λ (t : List ℕ). h.front ++ t) (sym held);
  front_whole = h.front_whole;
  held_whole = subst AreWholeLines (sym held) (both_whole r.held.items row h.held_whole whole);
  taken = h.taken;
  counted = written ∙ h.counted;
}

-- the rows that wait were written
pub rows_written : (start : Writing) (text : List ℕ) (r r' : HeldRows) (w w' : Writing)
    → HasPut start text r w → WritesAll w w' r.held.items → r'.held.items ≡ []
    → r'.written ≡ r.written + length r.held.items → HasPut start text r' w'
rows_written start text r r' w w' h all none counted = record {
  front = h.front ++ r.held.items;
  parted = h.parted ∙ sym (append-nil (h.front ++ r.held.items))
      ∙ ap (λ (t : List ℕ). (h.front ++ r.held.items) ++ t) (sym none);
  front_whole = both_whole h.front r.held.items h.front_whole h.held_whole;
  held_whole = inl none;
  taken = writes_more start w w' h.front r.held.items h.taken all;
  counted = omega (arith, counted, h.counted, length-append h.front r.held.items);
}

-- or the writer failed after a front of them
pub rows_failed : (start : Writing) (text : List ℕ) (r : HeldRows) (w w' : Writing) (written : ℕ)
    → HasPut start text r w → WritesAfter r.written r.held.items w w' (Err (faults.WriteFailed written))
    → FailsAfter written start w' text
rows_failed start text r w w' written h after =
    let at : length h.front + after.0 ≡ written = omega (arith, after.1, h.counted) in
    subst (FailsAfter written start w') (sym h.parted)
    (subst (λ n. FailsAfter n start w' (h.front ++ r.held.items)) at
    (fails_more start w w' h.front r.held.items after.0 h.taken after.2))

-- nothing changed
rows_kept : (start : Writing) (text : List ℕ) (r r' : HeldRows) (w : Writing)
    → HasPut start text r w → r'.held.items ≡ r.held.items → r'.written ≡ r.written
    → HasPut start text r' w
rows_kept start text r r' w h held written = record {
  front = h.front;
  parted = h.parted ∙ ap (λ (t : List ℕ). h.front ++ t) (sym held);
  front_whole = h.front_whole;
  held_whole = subst AreWholeLines (sym held) h.held_whole;
  taken = h.taken;
  counted = written ∙ h.counted;
}

-- memory ran out before a text, and nothing changed
pub stops_kept : (b : List ℕ) (r r' : HeldRows) (w : Writing) → w.failed ≡ false
    → r'.held.items ≡ r.held.items → r'.written ≡ r.written
    → PutsOrStops b r w r' w (Err faults.OutOfMemory)
stops_kept b r r' w works held written = (
  works,
  λ start before h. record {
    front = before;
    rest = b;
    parted = refl;
    done = rows_kept start before r r' w h held written;
  },
)

-- a text was put and the rows that wait were written, or that stopped
pub row_written : (row : List ℕ) (r r1 r' : HeldRows) (w w1 w' : Writing)
    (result : Result (Unit {0}) ToolFault) → w1.failed ≡ false → Puts row r w r1 w1
    → WritesHeld r1 r' w1 w' result → PutsOrStops row r w r' w' result
row_written row r r1 r' w w1 w' (Ok done) works puts writes = λ start before h.
    rows_written start (before ++ row) r1 r' w1 w' (puts start before h) writes.0 writes.1 writes.2
row_written row r r1 r' w w1 w' (Err faults.OutOfMemory) works puts writes = (
  subst (λ (x : Writing). x.failed ≡ false) (sym writes.0) works,
  λ start before h. record {
    front = before ++ row;
    rest = [];
    parted = sym (append-nil (before ++ row));
    done = subst (HasPut start (before ++ row) r') (sym writes.0)
        (rows_kept start (before ++ row) r1 r' w1 (puts start before h) writes.1 writes.2);
  },
)
row_written row r r1 r' w w1 w' (Err (faults.WriteFailed written)) works puts writes = (
  tt,
  λ start before h. rows_failed start (before ++ row) r1 w1 w' written (puts start before h)
      writes,
)
row_written row r r1 r' w w1 w' (Err e) works puts writes = absurd writes

-- ---- the end

-- the rows that wait are written after the want of memory
pub stop_written : (start : Writing) (text : List ℕ) (r r' : HeldRows) (w w' : Writing)
    → HasPutSome start text r w → (all : WritesAll w w' r.held.items) → r'.held.items ≡ []
    → r'.written ≡ r.written + length r.held.items → WritesLines start w' text
stop_written start text r r' w w' h all none counted =
    let done = rows_written start h.front r r' w w' h.done all none counted in
    record {
      front = h.front;
      rest = h.rest;
      parted = h.parted;
      whole = subst AreWholeLines
          (sym (done.parted ∙ ap (λ (t : List ℕ). done.front ++ t) none ∙ append-nil done.front))
          done.front_whole;
      written = subst (WritesAll start w')
          (sym (done.parted ∙ ap (λ (t : List ℕ). done.front ++ t) none ∙ append-nil done.front))
          done.taken;
    }

-- or they cannot be counted, and stay
pub stop_unwritten : (start : Writing) (text : List ℕ) (r : HeldRows) (w : Writing)
    → HasPutSome start text r w → WritesLines start w text
stop_unwritten start text r w h = record {
  front = h.done.front;
  rest = r.held.items ++ h.rest;
  parted = h.parted ∙ ap (λ (t : List ℕ). t ++ h.rest) h.done.parted
      ∙ append_assoc h.done.front r.held.items h.rest;
  whole = h.done.front_whole;
  written = h.done.taken;
}

-- the fault after the want of memory: that of the writer, if it fails then
abbrev pub stop_fault : Result (Unit {0}) ToolFault → ToolFault
stop_fault (Ok done) = faults.OutOfMemory
stop_fault (Err e) = e

-- the fault of the stop
pub stops_writing : (start : Writing) (text : List ℕ) (r r' : HeldRows) (w w' : Writing)
    (result : Result (Unit {0}) ToolFault) (e : ToolFault)
    → HasPutSome start text r w → WritesHeld r r' w w' result
    → e ≡ stop_fault result → StopsWriting start text w' e
stops_writing start text r r' w w' (Ok done) e h writes is =
    subst (StopsWriting start text w') (sym is)
    (stop_written start text r r' w w' h writes.0 writes.1 writes.2)
stops_writing start text r r' w w' (Err faults.OutOfMemory) e h writes is =
    subst (StopsWriting start text w') (sym is)
    (subst (λ (x : Writing). WritesLines start x text) (sym writes.0)
    (stop_unwritten start text r w h))
stops_writing start text r r' w w' (Err (faults.WriteFailed written)) e h writes is =
    subst (StopsWriting start text w') (sym is)
    (subst (FailsAfter written start w') (sym h.parted)
    (fails_longer start w' h.front h.rest written
    (rows_failed start h.front r w w' written h.done writes)))
stops_writing start text r r' w w' (Err fault) e h writes is = absurd writes

-- ---- a text, part by part

-- a front of a text was put, and this is left of it; the writer works
pub record PutsSome (whole left : List ℕ) (r : HeldRows) (w : Writing) (r' : HeldRows) (w' : Writing)
    : Type 0 where
  pub done : List ℕ
  pub parted : done ++ left ≡ whole
  pub puts : Puts done r w r' w'
  pub works : w'.failed ≡ false

-- at first nothing was put
pub some_first : (whole : List ℕ) (r : HeldRows) (w : Writing) → w.failed ≡ false
    → PutsSome whole whole r w r w
some_first whole r w works =
    record { done = []; parted = refl; puts = puts_none r w; works = works }

-- a part more was put
pub some_next : (whole left a left' : List ℕ) (r r1 r2 : HeldRows) (w w1 w2 : Writing)
    → PutsSome whole left r w r1 w1 → left ≡ a ++ left' → Puts a r1 w1 r2 w2 → w2.failed ≡ false
    → PutsSome whole left' r w r2 w2
some_next whole left a left' r r1 r2 w w1 w2 s is puts works = record {
  done = s.done ++ a;
  parted = append_assoc s.done a left' ∙ ap (λ (t : List ℕ). s.done ++ t) (sym is) ∙ s.parted;
  puts = puts_more s.done a r r1 r2 w w1 w2 s.puts puts;
  works = works;
}

-- putting a part more stopped
pub some_stops : (whole left a left' : List ℕ) (r r1 r2 : HeldRows) (w w1 w2 : Writing)
    (e : ToolFault) → PutsSome whole left r w r1 w1 → left ≡ a ++ left'
    → PutsOrStops a r1 w1 r2 w2 (Err e) → PutsOrStops whole r w r2 w2 (Err e)
some_stops whole left a left' r r1 r2 w w1 w2 e s is stops =
    let all : (s.done ++ a) ++ left' ≡ whole =
    append_assoc s.done a left' ∙ ap (λ (t : List ℕ). s.done ++ t) (sym is) ∙ s.parted in
    subst (λ t. PutsOrStops t r w r2 w2 (Err e)) all
    (stops_longer (s.done ++ a) left' r r2 w w2 e
    (stops_more s.done a r r1 r2 w w1 w2 e s.puts stops))

-- the last part was put, or that stopped
pub some_last : (whole left a : List ℕ) (r r1 r2 : HeldRows) (w w1 w2 : Writing)
    (result : Result (Unit {0}) ToolFault) → PutsSome whole left r w r1 w1 → left ≡ a
    → PutsOrStops a r1 w1 r2 w2 result → PutsOrStops whole r w r2 w2 result
some_last whole left a r r1 r2 w w1 w2 (Ok done) s is puts =
    subst (λ t. Puts t r w r2 w2) (ap (λ (t : List ℕ). s.done ++ t) (sym is) ∙ s.parted)
    (puts_more s.done a r r1 r2 w w1 w2 s.puts puts)
some_last whole left a r r1 r2 w w1 w2 (Err e) s is stops =
    some_stops whole left a [] r r1 r2 w w1 w2 e s (is ∙ sym (append-nil a)) stops

-- memory ran out between two parts
pub some_ran_out : (whole left : List ℕ) (r r1 : HeldRows) (w w1 : Writing)
    → PutsSome whole left r w r1 w1 → PutsOrStops whole r w r1 w1 (Err faults.OutOfMemory)
some_ran_out whole left r r1 w w1 s =
    subst (λ t. PutsOrStops t r w r1 w1 (Err faults.OutOfMemory)) s.parted
    (stops_after s.done left r r1 w w1 s.puts s.works)
