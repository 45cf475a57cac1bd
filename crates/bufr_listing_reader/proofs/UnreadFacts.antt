-- Messages read one at a time are those read at once: for `Messages`.
use Rattle.std.proofs.Common.{◌≡◌, ℕ, zero, suc, ◌+◌, ◌<◌, ◌≤◌, List, [], ◌∷◌, length, Result, Ok, Err}
use Rattle.std.proofs.Common.{true, false, refl, sym, ap, ap₂, ◌∙◌, arith}
use Rattle.std.specs.Prelude.{Bool, not, Option, Some, None, if◌then◌else◌}
use Rattle.std.specs.Str.Lines.{lines}
use Rattle.std.specs.Option.{is_some}
use Rattle.bufr_base.specs.Answers.{◌>>=◌, Fails}
use Rattle.bufr_base.specs.declared.failure.Failure.{Failure}
use Rattle.bufr_base.specs.declared.failure.Failure.TheVariants.{Fault, OutOfMemory}
use Rattle.bufr_tables.specs.Entries.{Entries}
use Rattle.bufr_sections.specs.declared.message.Message.{Message}
use Rattle.bufr_listing.specs.declared.fault.ListingFault.{ListingFault}
use Rattle.bufr_listing_reader.specs.declared.lines.TextLine.{TextLine}
use Rattle.bufr_listing_reader.specs.Cursors.{IsNextLine, first_line_of, printed}
use Rattle.bufr_listing_reader.specs.Lines.{Line, is_skipped, as_printed, counting_from, counting_lines}
use Rattle.bufr_listing_reader.specs.Reading.{MessageRead, message_read, messages_read, messages_listed}
use Rattle.bufr_listing_reader.specs.Unread.{Unread, behind, nothing, stopped, unread_from, unread_by}
use Rattle.bufr_listing_reader.specs.Unread.{unread, unread_in, or_fault, all_of, HandsOutMessage}
use Rattle.bufr_listing_reader.proofs.CursorFacts.{Behind, after_first, no_first}
use Rattle.bufr_listing_reader.proofs.MessageSteps.{message_shorter}

-- ---- at once

fault_behind : (m : Message) (messages : List Message) (fault : Option ListingFault)
    → or_fault (m ∷ messages) fault ≡ (or_fault messages fault >>= λ others. Ok (m ∷ others))
fault_behind m messages None = refl
fault_behind m messages (Some f) = refl

all_from : (n : ℕ) (tables : Entries) (past : ℕ) (r : Result MessageRead ListingFault)
    → ((rest : List Line)
    → all_of (unread_by n tables past rest) ≡ messages_read n tables past rest)
    → all_of (unread_from r (λ rest. unread_by n tables past rest))
    ≡ (r >>= λ first. messages_read n tables past first.1 >>= λ others. Ok (first.0 ∷ others))
all_from n tables past (Ok first) same =
    let u = unread_by n tables past first.1 in
    fault_behind first.0 u.messages u.fault
    ∙ ap (λ (o : Result (List Message) ListingFault). o >>= λ others. Ok (first.0 ∷ others))
    (same first.1)
all_from n tables past (Err f) same = refl

-- the messages left in lines are those of reading the lines
all_by : (n : ℕ) (tables : Entries) (past : ℕ) (ls : List Line)
    → all_of (unread_by n tables past ls) ≡ messages_read n tables past ls
unfolding unread_by messages_read
all_by zero tables past [] = refl
all_by (suc n) tables past [] = refl
all_by zero tables past (l ∷ ls) = refl
all_by (suc n) tables past (l ∷ ls) =
    all_from n tables past (message_read tables past (l ∷ ls)) (λ rest. all_by n tables past rest)

pub all_listed : (tables : Entries) (text : List ℕ)
    → all_of (unread_in tables text) ≡ messages_listed tables text
all_listed tables text =
    all_by (length (counting_lines text)) tables (length (lines text) + 1) (counting_lines text)

-- ---- one at a time

same_from : (n k : ℕ) (tables : Entries) (past : ℕ) (l : Line) (ls : List Line)
    (r : Result MessageRead ListingFault) → message_read tables past (l ∷ ls) ≡ r
    → length (l ∷ ls) ≤ suc n → length (l ∷ ls) ≤ suc k
    → ((rest : List Line) → length rest ≤ n → length rest ≤ k
    → unread_by n tables past rest ≡ unread_by k tables past rest)
    → unread_from r (λ rest. unread_by n tables past rest)
    ≡ unread_from r (λ rest. unread_by k tables past rest)
same_from n k tables past l ls (Ok first) e few fewer same =
    let shorter = message_shorter tables past (l ∷ ls) first e in
    ap (behind (first.0 ∷ []))
    (same first.1 (omega (arith, few, shorter)) (omega (arith, fewer, shorter)))
same_from n k tables past l ls (Err f) e few fewer same = refl

-- a larger bound on the lines left changes nothing
same_by : (n k : ℕ) (tables : Entries) (past : ℕ) (ls : List Line) → length ls ≤ n → length ls ≤ k
    → unread_by n tables past ls ≡ unread_by k tables past ls
unfolding unread_by
same_by zero zero tables past [] few fewer = refl
same_by zero (suc k) tables past [] few fewer = refl
same_by (suc n) zero tables past [] few fewer = refl
same_by (suc n) (suc k) tables past [] few fewer = refl
same_by zero k tables past (l ∷ ls) few fewer = absurd (omega (arith, few))
same_by (suc n) zero tables past (l ∷ ls) few fewer = absurd (omega (arith, fewer))
same_by (suc n) (suc k) tables past (l ∷ ls) few fewer =
    same_from n k tables past l ls (message_read tables past (l ∷ ls)) refl few fewer
    (λ rest h j. same_by n k tables past rest h j)

pub one_read : (tables : Entries) (past : ℕ) (ls : List Line) (m : Message) (rest : List Line)
    → (ls ≡ [] → ⊥) → message_read tables past ls ≡ Ok (m, rest)
    → unread tables past ls ≡ behind (m ∷ []) (unread tables past rest)
unfolding unread_by
one_read tables past [] m rest some e = absurd (some refl)
one_read tables past (l ∷ ls) m rest some e =
    let shorter = message_shorter tables past (l ∷ ls) (m, rest) e in
    ap (λ (r : Result MessageRead ListingFault). unread_from r (λ (more : List Line).
    unread_by (length ls) tables past more)) e
    ∙ ap (behind (m ∷ []))
    (same_by (length ls) (length rest) tables past rest (omega (arith, shorter)) (omega arith))

pub none_read : (tables : Entries) (past : ℕ) (ls : List Line) (f : ListingFault)
    → (ls ≡ [] → ⊥) → message_read tables past ls ≡ Err f → unread tables past ls ≡ stopped f
unfolding unread_by
none_read tables past [] f some e = absurd (some refl)
none_read tables past (l ∷ ls) f some e =
    ap (λ (r : Result MessageRead ListingFault). unread_from r (λ (more : List Line).
    unread_by (length ls) tables past more)) e

pub none_left : (tables : Entries) (past : ℕ) (ls : List Line) → ls ≡ []
    → unread tables past ls ≡ nothing
unfolding unread_by
none_left tables past [] e = refl
none_left tables past (l ∷ ls) e = absurd cc

-- ---- their number

few_from : (n : ℕ) (tables : Entries) (past : ℕ) (l : Line) (ls : List Line)
    (r : Result MessageRead ListingFault) → message_read tables past (l ∷ ls) ≡ r
    → ((rest : List Line) → length (unread_by n tables past rest).messages ≤ length rest)
    → length (unread_from r (λ rest. unread_by n tables past rest)).messages ≤ length (l ∷ ls)
few_from n tables past l ls (Ok first) e few =
    let shorter = message_shorter tables past (l ∷ ls) first e in
    omega (arith, shorter, few first.1)
few_from n tables past l ls (Err f) e few = omega arith

few_by : (n : ℕ) (tables : Entries) (past : ℕ) (ls : List Line)
    → length (unread_by n tables past ls).messages ≤ length ls
unfolding unread_by
few_by zero tables past [] = omega arith
few_by (suc n) tables past [] = omega arith
few_by zero tables past (l ∷ ls) = omega arith
few_by (suc n) tables past (l ∷ ls) =
    few_from n tables past l ls (message_read tables past (l ∷ ls)) refl
    (λ rest. few_by n tables past rest)

few_more : (skipped : Bool) (l : Line) (more : List Line) (n : ℕ) → length more ≤ n
    → length (if skipped then more else l ∷ more) ≤ n + 1
few_more true l more n few = omega (arith, few)
few_more false l more n few = omega (arith, few)

few_counted : (n : ℕ) (ls : List (List ℕ)) → length (counting_from n ls) ≤ length ls
unfolding counting_from
few_counted n [] = omega arith
few_counted n (l ∷ ls) =
    let more = few_more (is_skipped l) (record { number = n; text = as_printed l })
    (counting_from (n + 1) ls) (length ls) (few_counted (n + 1) ls) in
    omega (arith, more)

few_first : (n : ℕ) (text : List ℕ) (o : Option (List ℕ × List ℕ)) → first_line_of text ≡ o
    → length text ≤ n
    → ((rest : List ℕ) → length rest < length text → length (lines rest) ≤ length rest)
    → length (lines text) ≤ length text
few_first n text None e short few = omega (arith, ap length (no_first text e))
few_first n text (Some (line, rest)) e short few =
    let b : Behind text line rest = after_first text line rest e in
    omega (arith, ap length b.lines, b.shorter, few rest b.shorter)

few_lines_by : (n : ℕ) (text : List ℕ) → length text ≤ n → length (lines text) ≤ length text
few_lines_by zero text short =
    few_first zero text (first_line_of text) refl short
    (λ rest less. absurd (omega (arith, less, short)))
few_lines_by (suc n) text short =
    few_first (suc n) text (first_line_of text) refl short
    (λ rest less. few_lines_by n rest (omega (arith, less, short)))

-- a text has no more messages than octets
pub few_messages : (tables : Entries) (text : List ℕ)
    → length (unread_in tables text).messages ≤ length text
few_messages tables text =
    omega (
      arith,
      few_by (length (counting_lines text)) tables (length (lines text) + 1) (counting_lines text),
      few_counted 1 (lines text),
      few_lines_by (length text) text (omega arith),
    )

-- ---- the reader

pub unread_at : (tables tables' : Entries) (text : List ℕ) (past : ℕ) (ls : List Line)
    → tables' ≡ tables → past ≡ length (lines text) + 1 → ls ≡ counting_lines text
    → unread tables' past ls ≡ unread_in tables text
unread_at tables tables' text past ls same e is =
    ap (λ (t : Entries). unread t past ls) same ∙ ap₂ (unread tables) e is

pub no_line : (ls : List Line) (o : Option TextLine) (b : Bool) → IsNextLine ls o
    → is_some o ≡ not b → b ≡ true → ls ≡ []
no_line ls None b next e h = next
no_line ls (Some l) b next e h = absurd (let no : true ≡ not true = e ∙ ap not h in cc no)

pub a_line : (ls : List Line) (o : Option TextLine) (b : Bool) → IsNextLine ls o
    → is_some o ≡ not b → b ≡ false → ls ≡ [] → ⊥
a_line ls None b next e h none = let no : false ≡ not false = e ∙ ap not h in cc no
a_line ls (Some l) b next e h none =
    let no : printed l ∷ next.0 ≡ [] = sym next.1 ∙ none in cc no

pub none_handed : (tables tables' : Entries) (past : ℕ) (ls : List Line) (u : Unread)
    (e : Failure ListingFault) → unread tables past ls ≡ u → tables' ≡ tables → (ls ≡ [] → ⊥)
    → Fails e (message_read tables past ls) → HandsOutMessage u (Err e) (unread tables' past ls)
none_handed tables tables' past ls u OutOfMemory is same some fails =
    ap (λ (t : Entries). unread t past ls) same ∙ is
none_handed tables tables' past ls u (Fault f) is same some fails =
    let stopped_at = none_read tables past ls f some fails in
    (sym is ∙ stopped_at, ap (λ (t : Entries). unread t past ls) same ∙ stopped_at)

pub one_handed : (tables tables' : Entries) (past past' : ℕ) (ls rest : List Line) (u : Unread)
    (m : Message) → unread tables past ls ≡ u → tables' ≡ tables → past' ≡ past → (ls ≡ [] → ⊥)
    → message_read tables past ls ≡ Ok (m, rest)
    → u ≡ behind (m ∷ []) (unread tables' past' rest)
one_handed tables tables' past past' ls rest u m is same e some read =
    sym is ∙ one_read tables past ls m rest some read
    ∙ ap₂ (λ (t : Entries) (n : ℕ). behind (m ∷ []) (unread t n rest)) (sym same) (sym e)
