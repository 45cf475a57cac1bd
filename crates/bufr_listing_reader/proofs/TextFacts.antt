-- Reading returns the messages of lines, and texts list the messages that reading returns: for
-- `listings_list_messages`.
use Rattle.std.proofs.Common.{◌≡◌, ℕ, zero, suc, ◌+◌, ◌<◌, ◌≤◌, List, [], ◌∷◌, ◌++◌, length, map}
use Rattle.std.proofs.Common.{codes, refl, sym, ap, ◌∙◌, arith, append_assoc, length-append}
use Rattle.std.specs.Prelude.{Ok}
use Rattle.std.specs.List.{flat_map, AllByRecursion}
use Rattle.std.specs.Str.Lines.{lines}
use Rattle.bufr_tables.specs.Entries.{Entries}
use Rattle.bufr_expand.specs.Courses.{course}
use Rattle.bufr_fields.specs.declared.field.Subset.{Subset}
use Rattle.bufr_listing_reader.proofs.LowerLaws.{LowerLaws}
use Rattle.bufr_sections.specs.declared.message.Message.{Message}
use Rattle.bufr_listing.specs.Listings.{section1_line, time_line, local_lines, section2_lines}
use Rattle.bufr_listing.specs.Listings.{flags_line, descriptors_line, field_line, subset_lines}
use Rattle.bufr_listing.specs.Listings.{lines_of}
use Rattle.bufr_listing_reader.specs.Lines.{Line, texts, counting_lines, CanBeListed, Listed}
use Rattle.bufr_listing_reader.specs.Reading.{with_rest, read_descriptors, message_read, messages_read}
use Rattle.bufr_listing_reader.specs.Reading.{messages_listed}
use Rattle.bufr_listing_reader.specs.FirstFaults.{at_descriptors, AreBefore, up_to_local}
use Rattle.bufr_listing_reader.proofs.CourseFacts.{course_printable}
use Rattle.bufr_listing_reader.proofs.LineFacts.{descriptors_back}
use Rattle.bufr_listing_reader.proofs.SubsetFacts.{line_back, subsets_back}
use Rattle.bufr_listing_reader.proofs.MessageFacts.{regrouped, messages_take, some_line, length-messages}
use Rattle.bufr_listing_reader.proofs.LoopFacts.{goes_on, texts_length}
use Rattle.bufr_listing_reader.proofs.RefusedLines.{cut_lines}
use Rattle.bufr_listing_reader.proofs.RefusedHeadings.{flags_passed}

-- ---- one message

pub record MessageBack (tables : Entries) (past : ℕ) (ls : List Line) (m : Message)
    (others : List (List ℕ)) : Type 0 where
  pub rest : List Line
  pub reads : message_read tables past ls ≡ with_rest rest m
  pub same : texts rest ≡ others

more_lines : (subsets : List Subset) (others : List (List ℕ)) → length subsets < length
    (flat_map subset_lines subsets ++ codes "end" ∷ others)
more_lines [] others = omega arith
more_lines (s ∷ subsets) others =
    let ih = more_lines subsets others in
    let joined = append_assoc (map field_line s.fields) (flat_map subset_lines subsets)
    (codes "end" ∷ others) in
    let len = ap length joined in
    let sum =
    length-append (map field_line s.fields)
    (flat_map subset_lines subsets ++ codes "end" ∷ others) in
    omega (arith, ih, len, sum)

fewer_subsets : (ls : List Line) (subsets : List Subset) (others : List (List ℕ))
    → texts ls ≡ flat_map subset_lines subsets ++ codes "end" ∷ others → length subsets < length ls
fewer_subsets ls subsets others e =
    let more = more_lines subsets others in
    let same = ap length e in
    let own = texts_length ls in
    omega (arith, more, same, own)

pub message_back : LowerLaws → (tables : Entries) (past : ℕ) (ls : List Line) (m : Message)
    (others : List (List ℕ)) → CanBeListed tables m → texts ls ≡ lines_of m ++ others
    → MessageBack tables past ls m others
message_back laws tables past ls m others can e =
    let local = local_lines m.head.local in
    let two = section2_lines m.section2 in
    let flags = flags_line m.observed m.compressed ∷ [] in
    let subsets = flat_map subset_lines m.subsets ++ codes "end" ∷ others in
    let behind = descriptors_line m.descriptors ∷ subsets in
    let parted : lines_of m ++ others ≡ (up_to_local m.head ++ (two ++ flags)) ++ behind =
    regrouped m others
    ∙ ap (λ zs. codes "message" ∷ section1_line m.head ∷ time_line m.head ∷ zs)
    (sym (append_assoc local (two ++ flags) behind
    ∙ ap (λ zs. local ++ zs) (append_assoc two flags behind))) in
    let c = cut_lines ls (up_to_local m.head ++ (two ++ flags)) behind (e ∙ parted) in
    let before : AreBefore at_descriptors (texts c.front) =
    (m.head, can.head, m.section2, can.section2, m.observed, m.compressed, c.first) in
    let list = line_back (read_descriptors tables) past c.behind (descriptors_line m.descriptors)
    subsets (record { descriptors = m.descriptors; tree = can.tree })
    (λ n. descriptors_back laws.descriptors tables n m.descriptors can.tree can.some_descriptor
    can.descriptors ((laws.builds tables m.descriptors can.tree).1 can.has_tree)) c.second in
    let few = fewer_subsets list.rest m.subsets others list.same in
    let found = subsets_back (length list.rest) past 1 (course can.tree) 0 list.rest m.subsets
    can.items others (λ n. course_printable laws.specs can.tree n) few
    (laws.counted can.tree 1 0 can.items m.subsets can.fit) list.same in
    record {
      rest = found.rest;
      reads = ap (λ (xs : List Line). message_read tables past xs) c.in_order
          ∙ flags_passed tables past c.front c.behind before
          ∙ goes_on _ _ _ _ list.reads (goes_on _ _ _ _ found.reads refl);
      same = found.same;
    }

-- ---- messages

pub messages_back : LowerLaws → (left : ℕ) (tables : Entries) (past : ℕ) (ls : List Line)
    (messages : List Message) → length messages ≤ left
    → AllByRecursion (λ m. CanBeListed tables m) messages
    → texts ls ≡ flat_map lines_of messages → messages_read left tables past ls ≡ Ok messages
unfolding messages_read
messages_back laws zero tables past [] [] few each e = refl
messages_back laws (suc left) tables past [] [] few each e = refl
messages_back laws left tables past (l ∷ ls) [] few each e = absurd cc
messages_back laws zero tables past [] (m ∷ messages) few each e = absurd (omega (arith, few))
messages_back laws zero tables past (l ∷ ls) (m ∷ messages) few each e = absurd (omega (arith, few))
messages_back laws (suc left) tables past [] (m ∷ messages) few each e =
    let some = some_line m (flat_map lines_of messages) in let none = ap length e in
    absurd (omega (arith, some, none))
messages_back laws (suc left) tables past (l ∷ ls) (m ∷ messages) few each e =
    let own = message_back laws tables past (l ∷ ls) m (flat_map lines_of messages) each.0 e in
    let others = messages_back laws left tables past own.rest messages (omega (arith, few)) each.1
    own.same in
    rw (own.reads, others) refl

-- ---- texts

pub read_listed : LowerLaws → (tables : Entries) (text : List ℕ) (messages : List Message)
    → messages_listed tables text ≡ Ok messages → Listed tables text messages
read_listed laws tables text messages h =
    let p = messages_take laws (length (counting_lines text)) tables (length (lines text) + 1)
    (counting_lines text) messages h in
    record { spelled = p.front; each = p.each }

few_messages : (ls : List Line) (messages : List Message) → texts ls ≡ flat_map lines_of messages
    → length messages ≤ length ls
few_messages ls messages e =
    let own = texts_length ls in
    let same = ap length e in
    let few = length-messages messages in
    omega (arith, own, same, few)

pub listed_read : LowerLaws → (tables : Entries) (text : List ℕ) (messages : List Message)
    → Listed tables text messages → messages_listed tables text ≡ Ok messages
listed_read laws tables text messages h =
    messages_back laws (length (counting_lines text)) tables (length (lines text) + 1)
    (counting_lines text) messages (few_messages (counting_lines text) messages h.spelled) h.each
    h.spelled
