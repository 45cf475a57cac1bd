-- Reading returns the first fault of a text, the converse of FaultMessages.
use Rattle.std.proofs.Common.{◌≡◌, ℕ, zero, suc, ◌+◌, ◌<◌, ◌≤◌, List, [], ◌∷◌, ◌++◌, length}
use Rattle.std.proofs.Common.{length-append, Result, Ok, Err, refl, sym, ap, ◌∙◌}
use Rattle.std.proofs.Common.{arith, append_assoc}
use Rattle.std.specs.List.{flat_map, AllByRecursion}
use Rattle.std.specs.Str.Lines.{lines}
use Rattle.std.proofs.lemmas.List.{map-append}
use Rattle.bufr_base.specs.Answers.{◌>>=◌}
use Rattle.bufr_tables.specs.Entries.{Entries}
use Rattle.bufr_expand.specs.Courses.{course}
use Rattle.bufr_expand.specs.Templates.{template}
use Rattle.bufr_sections.specs.declared.message.Message.{Message}
use Rattle.bufr_listing.specs.declared.fault.ListingFault.{ListingFault}
use Rattle.bufr_listing.specs.Listings.{lines_of}
use Rattle.bufr_listing_reader.specs.Lines.{Line, texts, CanBeListed}
use Rattle.bufr_listing_reader.specs.Reading.{with_rest, read_line, Described, described}
use Rattle.bufr_listing_reader.specs.Reading.{read_descriptors, subsets_read, message_read}
use Rattle.bufr_listing_reader.specs.Reading.{messages_read, messages_listed}
use Rattle.bufr_listing_reader.specs.FirstFaults.{AreOfLine, MessageFault, in_heading, no_tree}
use Rattle.bufr_listing_reader.specs.FirstFaults.{in_subsets, FirstFault}
use Rattle.bufr_listing_reader.proofs.LowerLaws.{LowerLaws, DescriptorTexts}
use Rattle.bufr_listing_reader.proofs.LineFacts.{descriptors_read}
use Rattle.bufr_listing_reader.proofs.LoopFacts.{goes_on, fails_on}
use Rattle.bufr_listing_reader.proofs.TextFacts.{message_back}
use Rattle.bufr_listing_reader.proofs.FaultFields.{FaultLaws, IsBehind}
use Rattle.bufr_listing_reader.proofs.FaultMessages.{fewer_lines}
use Rattle.bufr_listing_reader.proofs.MessageSteps.{message_behind}
use Rattle.bufr_listing_reader.proofs.RefusedLines.{cut_lines, same_behind}
use Rattle.bufr_listing_reader.proofs.RefusedFields.{subsets_refused}
use Rattle.bufr_listing_reader.proofs.RefusedHeadings.{flags_passed, place_refused}

-- ---- a message

line_described : DescriptorTexts → (tables : Entries) (l : Line) (ds : List ℕ)
    → AreOfLine l.text ds
    → read_descriptors tables l.number l.text ≡ described l.number ds (template tables ds)
line_described texts tables l ds line =
    ap (λ (t : List ℕ). read_descriptors tables l.number t) line.2
    ∙ descriptors_read texts tables l.number ds line.0 line.1

message_refused : FaultLaws → (tables : Entries) (past : ℕ) (ls : List Line)
    (fault : ListingFault) → MessageFault tables past ls fault
    → message_read tables past ls ≡ Err fault
message_refused laws tables past ls fault (in_heading place own rest e before u) =
    ap (λ (xs : List Line). message_read tables past xs) e
    ∙ place_refused laws.lower.descriptors tables place past own rest fault before u
message_refused laws tables past ls fault (no_tree own l rest ds why e before line first is) =
    let has : template tables ds ≡ Err why = (laws.lower.refuses tables ds why).1 first in
    let own_line : read_descriptors tables l.number l.text ≡ Err fault =
    line_described laws.lower.descriptors tables l ds line ∙ ap (described l.number ds) has
    ∙ ap Err (sym is) in
    ap (λ (xs : List Line). message_read tables past xs) e
    ∙ flags_passed tables past own (l ∷ rest) before
    ∙ fails_on (read_line (read_descriptors tables) past (l ∷ rest)) _ fault
    (ap (λ (r : Result Described ListingFault). r >>= with_rest rest) own_line)
message_refused laws tables past ls fault (in_subsets own l rest ds tree e before line is h) =
    let has : template tables ds ≡ Ok tree = (laws.lower.builds tables ds tree).1 is in
    let found : Described = record { descriptors = ds; tree = tree } in
    let own_line : read_descriptors tables l.number l.text ≡ Ok found =
    line_described laws.lower.descriptors tables l ds line ∙ ap (described l.number ds) has in
    ap (λ (xs : List Line). message_read tables past xs) e
    ∙ flags_passed tables past own (l ∷ rest) before
    ∙ goes_on (read_line (read_descriptors tables) past (l ∷ rest)) _ (found, rest) _
    (ap (λ (r : Result Described ListingFault). r >>= with_rest rest) own_line)
    (fails_on (subsets_read (length rest) past (course tree) 0 rest) _ fault
    (subsets_refused laws tree past rest fault h))

-- ---- messages

message_passed : LowerLaws → (tables : Entries) (past : ℕ) (own rest : List Line) (m : Message)
    → CanBeListed tables m → texts own ≡ lines_of m
    → message_read tables past (own ++ rest) ≡ Ok (m, rest)
message_passed laws tables past own rest m can e =
    let all : texts (own ++ rest) ≡ lines_of m ++ texts rest =
    map-append (λ (l : Line). l.text) own rest ∙ ap (λ xs. xs ++ texts rest) e in
    let b = message_back laws tables past (own ++ rest) m (texts rest) can all in
    let left : IsBehind (own ++ rest) b.rest =
    message_behind tables past (own ++ rest) (m, b.rest) b.reads in
    let same = same_behind (own ++ rest) b.rest rest left (record { own = own; in_order = refl })
    b.same in
    b.reads ∙ ap (λ (xs : List Line). with_rest xs m) same

message_next : (left : ℕ) (tables : Entries) (past : ℕ) (ls : List Line) → 0 < length ls
    → messages_read (suc left) tables past ls
    ≡ (message_read tables past ls >>= λ first. messages_read left tables past first.1
    >>= λ others. Ok (first.0 ∷ others))
unfolding messages_read
message_next left tables past [] some = absurd (omega (arith, some))
message_next left tables past (l ∷ ls) some = refl

behind_messages_fails : LowerLaws → (left : ℕ) (tables : Entries) (past : ℕ)
    (before : List Message) (own rest : List Line) (fault : ListingFault)
    → length (own ++ rest) ≤ left → AllByRecursion (λ m. CanBeListed tables m) before
    → texts own ≡ flat_map lines_of before → 0 < length rest
    → message_read tables past rest ≡ Err fault
    → messages_read left tables past (own ++ rest) ≡ Err fault
behind_messages_fails laws zero tables past before own rest fault few each e some h =
    let sum = length-append own rest in
    absurd (omega (arith, few, some, sum))
behind_messages_fails laws (suc left) tables past [] [] rest fault few each e some h =
    message_next left tables past rest some ∙ fails_on (message_read tables past rest) _ fault h
behind_messages_fails laws (suc left) tables past [] (l ∷ own) rest fault few each e some h =
    absurd cc
behind_messages_fails laws (suc left) tables past (m ∷ before) own rest fault few each e some h =
    let c = cut_lines own (lines_of m) (flat_map lines_of before) e in
    let joined : own ++ rest ≡ c.front ++ (c.behind ++ rest) =
    ap (λ (xs : List Line). xs ++ rest) c.in_order ∙ append_assoc c.front c.behind rest in
    let first : message_read tables past (own ++ rest) ≡ Ok (m, c.behind ++ rest) =
    ap (λ (xs : List Line). message_read tables past xs) joined
    ∙ message_passed laws tables past c.front (c.behind ++ rest) m each.0 c.first in
    let fewer = fewer_lines (own ++ rest) c.front (c.behind ++ rest) m left joined c.first few in
    let sum = length-append own rest in
    message_next left tables past (own ++ rest) (omega (arith, some, sum))
    ∙ goes_on (message_read tables past (own ++ rest)) _ (m, c.behind ++ rest) _ first
    (fails_on (messages_read left tables past (c.behind ++ rest)) _ fault
    (behind_messages_fails laws left tables past before c.behind rest fault fewer each.1 c.second
    some h))

pub first_fault_read : FaultLaws → (tables : Entries) (text : List ℕ) (fault : ListingFault)
    → FirstFault tables text fault → messages_listed tables text ≡ Err fault
first_fault_read laws tables text fault h =
    let past = length (lines text) + 1 in
    ap (λ (ls : List Line). messages_read (length ls) tables past ls) h.in_order
    ∙ behind_messages_fails laws.lower (length (h.own ++ h.rest)) tables past h.before h.own h.rest
    fault (omega arith) h.each h.spelled h.begun
    (message_refused laws tables past h.rest fault h.refused)
