-- Reading the lines of messages returns what they spell: for the laws of listings.
use Rattle.std.proofs.Common.{◌≡◌, ℕ, zero, suc, ◌<◌, ◌≤◌, Bool, true, false, List, [], ◌∷◌, ◌++◌}
use Rattle.std.proofs.Common.{length, get_or, codes, unwrap_or, refl, sym, ap, ◌∙◌}
use Rattle.std.proofs.Common.{subst, arith, append_assoc, length-append}
use Rattle.std.specs.Prelude.{IfSome, Option, Some, None, Result, Ok, if◌then◌else◌}
use Rattle.std.specs.List.{flat_map, AllByRecursion}
use Rattle.std.specs.Str.{bytes_eq}
use Rattle.std.proofs.lemmas.Bool.{and_from, lt-ltb}
use Rattle.std.proofs.lemmas.List.Elements.{All-from_recursion}
use Rattle.bufr_base.specs.Answers.{◌>>=◌}
use Rattle.bufr_tables.specs.Entries.{Entries}
use Rattle.bufr_expand.specs.Courses.{course}
use Rattle.bufr_expand.specs.Limits.{most_items}
use Rattle.bufr_fields.specs.Fits.{AllFitWithin}
use Rattle.bufr_tables.specs.DescriptorLaws.{six_by_place}
use Rattle.bufr_listing_reader.proofs.LowerLaws.{LowerLaws}
use Rattle.bufr_sections.specs.declared.message.Head.{Head}
use Rattle.bufr_sections.specs.declared.message.Message.{Message}
use Rattle.bufr_listing.specs.Listings.{heading_lines, subset_lines, lines_of}
use Rattle.bufr_listing.specs.Listings.{section2_lines, flags_line, descriptors_line}
use Rattle.bufr_listing.specs.Listings.{section1_line, time_line, local_lines, section2_line}
use Rattle.bufr_listing.specs.Listings.{section1_numbers, time_numbers, numbers_line}
use Rattle.bufr_listing_reader.specs.Limits.{two_octets}
use Rattle.bufr_listing.specs.declared.fault.ListingFault.{ListingFault}
use Rattle.bufr_sections.specs.Sections.{AreOctets, HeadFits, IsOctet}
use Rattle.bufr_base.specs.AnswerLaws.{bind_ok, ok_is, passed_ok}
use Rattle.bufr_listing_reader.specs.Lines.{Line, texts, first_word}
use Rattle.bufr_listing_reader.specs.Lines.{CanBeListed}
use Rattle.bufr_listing_reader.specs.Reading.{with_rest, read_if, read_word, are_below}
use Rattle.bufr_listing_reader.specs.Reading.{read_numbers, read_local, read_section2, read_flags}
use Rattle.bufr_listing_reader.specs.Reading.{read_descriptors, section1_limits, time_limits}
use Rattle.bufr_listing_reader.specs.Reading.{head_with, MessageRead, message_read, messages_read}
use Rattle.bufr_listing_reader.proofs.FieldFacts.{bytes_same, same_bytes}
use Rattle.bufr_listing_reader.proofs.MessageParts.{message_with, message_parts}
use Rattle.bufr_listing_reader.proofs.SubsetFacts.{LineTaken, line_takes, subsets_take}
use Rattle.bufr_listing_reader.proofs.LineFacts.{literal_word, numbers_take, numbers_back}
use Rattle.bufr_listing_reader.proofs.LineFacts.{octets_take, section2_take}
use Rattle.bufr_listing_reader.proofs.LineFacts.{flags_take, descriptors_take}
use Rattle.bufr_listing_reader.proofs.LineFacts.{eight_by_place, below_length, below_at}

-- ---- lines that a message may lack

-- reading found the line, or the message lacks it
abbrev pub IfTaken : {A : Type 0} → (ℕ → List ℕ → Result A ListingFault) → List Line → Option A
    → List Line → Type 0
IfTaken read ls None rest = ls ≡ rest
IfTaken read ls (Some a) rest = LineTaken read ls a rest

if_takes_by : {A : Type 0} (b : Bool) (read : ℕ → List ℕ → Result A ListingFault) (l : Line)
    (ls : List Line) (x : Option A × List Line)
    → (if b then (read l.number l.text >>= λ a. with_rest ls (Some a)) else with_rest
    (l ∷ ls) None) ≡ Ok x → IfTaken read (l ∷ ls) x.0 x.1
if_takes_by {A} true read l ls x h =
    let p = bind_ok (read l.number l.text) (λ a. with_rest ls (Some a)) x h in
    subst (λ (y : Option A × List Line). IfTaken read (l ∷ ls) y.0 y.1) (ok_is _ _ p.2)
    (record { line = l; front = refl; reads = p.1 })
if_takes_by {A} false read l ls x h =
    subst (λ (y : Option A × List Line). IfTaken read (l ∷ ls) y.0 y.1) (ok_is _ _ h) refl

pub if_takes : {A : Type 0} (title : List ℕ) (read : ℕ → List ℕ → Result A ListingFault)
    (ls : List Line) (x : Option A × List Line) → read_if title read ls ≡ Ok x
    → IfTaken read ls x.0 x.1
if_takes {A} title read [] x h = subst (λ (y : Option A × List Line). IfTaken read [] y.0 y.1)
    (ok_is _ _ h) refl
if_takes title read (l ∷ ls) x h = if_takes_by (bytes_eq (first_word l.text) title) read l ls x h

-- ---- octets for local use and section 2

pub local_takes : (ls : List Line) (o : Option (List ℕ)) (rest : List Line)
    → IfTaken read_local ls o rest → (texts ls ≡ local_lines (unwrap_or o []) ++ texts rest)
    × AreOctets (unwrap_or o [])
local_takes ls None rest h = (ap texts h, All-from_recursion IsOctet [] tt)
local_takes ls (Some []) rest h = let p =
    octets_take (codes "local1") _ h.line.number h.line.text [] h.reads in let some = p.some in
    absurd (omega (arith, some))
local_takes ls (Some (x ∷ xs)) rest h =
    let p = octets_take (codes "local1") _ h.line.number h.line.text (x ∷ xs) h.reads in
    (ap texts h.front ∙ ap (λ t. t ∷ texts rest) p.line, p.octets)

pub section2_takes : (ls : List Line) (o : Option (List ℕ)) (rest : List Line)
    → IfTaken read_section2 ls o rest → (texts ls ≡ section2_lines o ++ texts rest)
    × IfSome o AreOctets
section2_takes ls None rest h = (ap texts h, tt)
section2_takes ls (Some os) rest h =
    let p = section2_take h.line.number h.line.text os h.reads in
    (ap texts h.front ∙ ap (λ t. t ∷ texts rest) p.0, p.1)

pub section2_titled : (os : List ℕ) → bytes_eq (first_word (section2_line os)) (codes "section2")
    ≡ true
section2_titled [] = refl
section2_titled (x ∷ xs) = refl

pub flags_not_section2 : (observed compressed : Bool)
    → bytes_eq (first_word (flags_line observed compressed)) (codes "section2") ≡ false
flags_not_section2 false false = refl
flags_not_section2 true false = refl
flags_not_section2 false true = refl
flags_not_section2 true true = refl

pub flags_not_local : (observed compressed : Bool)
    → bytes_eq (first_word (flags_line observed compressed)) (codes "local1") ≡ false
flags_not_local false false = refl
flags_not_local true false = refl
flags_not_local false true = refl
flags_not_local true true = refl

pub not_local : (two : Option (List ℕ)) (observed compressed : Bool) (others : List (List ℕ))
    → bytes_eq
    (first_word (get_or (section2_lines two ++ flags_line observed compressed ∷ others) 0 []))
    (codes "local1") ≡ false
not_local None observed compressed others = flags_not_local observed compressed
not_local (Some []) observed compressed others = refl
not_local (Some (x ∷ xs)) observed compressed others = refl

-- ---- the lines of a message in turn

abbrev from_flags : Message → List (List ℕ) → List (List ℕ)
from_flags m others =
    flags_line m.observed m.compressed ∷ descriptors_line m.descriptors ∷ flat_map subset_lines
    m.subsets ++ codes "end" ∷ others

abbrev in_turn : Message → List (List ℕ) → List (List ℕ)
in_turn m others =
    codes "message" ∷ section1_line m.head ∷ time_line m.head
    ∷ local_lines m.head.local ++ (section2_lines m.section2 ++ from_flags m others)

pub regrouped : (m : Message) (others : List (List ℕ)) → lines_of m ++ others ≡ in_turn m others
unfolding heading_lines lines_of
regrouped m others =
    let heading = heading_lines m in
    let subsets = flat_map subset_lines m.subsets in
    let local = local_lines m.head.local in
    let two = section2_lines m.section2 in
    let flags = flags_line m.observed m.compressed ∷ descriptors_line m.descriptors ∷ [] in
    let behind = subsets ++ codes "end" ∷ others in
    append_assoc (heading ++ subsets) (codes "end" ∷ []) others
    ∙ append_assoc heading subsets (codes "end" ∷ others)
    ∙ ap (λ ls. codes "message" ∷ section1_line m.head ∷ time_line m.head ∷ ls)
    (append_assoc (local ++ two) flags behind ∙ append_assoc local two (flags ++ behind))

-- ---- the numbers of section 1

pub head_below : (h : Head) → HeadFits h → (are_below section1_limits (section1_numbers h) ≡ true)
    × (are_below time_limits (time_numbers h) ≡ true)
unfolding are_below
head_below h fits = (
  and_from _ _ (lt-ltb h.centre two_octets fits.centre)
      (and_from _ _ (lt-ltb h.sub_centre two_octets fits.sub_centre)
      (and_from _ _ (lt-ltb h.update 256 fits.update)
      (and_from _ _ (lt-ltb h.category 256 fits.category)
      (and_from _ _ (lt-ltb h.international 256 fits.international)
      (and_from _ _ (lt-ltb h.local_category 256 fits.local_category)
      (and_from _ _ (lt-ltb h.master_version 256 fits.master_version)
      (and_from _ _ (lt-ltb h.local_version 256 fits.local_version) refl))))))),
  and_from _ _ (lt-ltb h.year two_octets fits.year)
      (and_from _ _ (lt-ltb h.month 256 fits.month)
      (and_from _ _ (lt-ltb h.day 256 fits.day)
      (and_from _ _ (lt-ltb h.hour 256 fits.hour)
      (and_from _ _ (lt-ltb h.minute 256 fits.minute)
      (and_from _ _ (lt-ltb h.second 256 fits.second) refl))))),
)

pub head_fits : (ns ts : List ℕ) (local : Option (List ℕ)) → are_below section1_limits ns ≡ true
    → are_below time_limits ts ≡ true → AreOctets (unwrap_or local [])
    → HeadFits (head_with ns ts local)
head_fits ns ts local n t octets = record {
  centre = below_at section1_limits ns 0 n (omega arith);
  sub_centre = below_at section1_limits ns 1 n (omega arith);
  update = below_at section1_limits ns 2 n (omega arith);
  category = below_at section1_limits ns 3 n (omega arith);
  international = below_at section1_limits ns 4 n (omega arith);
  local_category = below_at section1_limits ns 5 n (omega arith);
  master_version = below_at section1_limits ns 6 n (omega arith);
  local_version = below_at section1_limits ns 7 n (omega arith);
  year = below_at time_limits ts 0 t (omega arith);
  month = below_at time_limits ts 1 t (omega arith);
  day = below_at time_limits ts 2 t (omega arith);
  hour = below_at time_limits ts 3 t (omega arith);
  minute = below_at time_limits ts 4 t (omega arith);
  second = below_at time_limits ts 5 t (omega arith);
  local = octets;
}

-- ---- a message as read

-- the lines of a message as read, which a text can list
pub record MessageTaken (tables : Entries) (ls : List Line) (x : MessageRead) : Type 0 where
  pub front : texts ls ≡ lines_of x.0 ++ texts x.1
  pub can : CanBeListed tables x.0

pub none_used : 0 ≤ most_items
none_used = omega arith

pub message_takes : LowerLaws → (tables : Entries) (past : ℕ) (ls : List Line) (x : MessageRead)
    → message_read tables past ls ≡ Ok x → MessageTaken tables ls x
message_takes laws tables past ls x h =
    let p = message_parts tables past ls x h in
    let l0 = line_takes (read_word (codes "message")) past ls p.begin p.begins in
    let l1 = line_takes (read_numbers (codes "section1") section1_limits) past p.begin.1 p.numbers
    p.has_numbers in
    let l2 =
    line_takes (read_numbers (codes "time") time_limits) past p.numbers.1 p.time p.has_time in
    let l3 =
    local_takes p.time.1 p.local.0 p.local.1
    (if_takes (codes "local1") read_local p.time.1 p.local p.has_local) in
    let l4 =
    section2_takes p.local.1 p.two.0 p.two.1
    (if_takes (codes "section2") read_section2 p.local.1 p.two p.has_two) in
    let l5 = line_takes read_flags past p.two.1 p.flags p.has_flags in
    let l6 = line_takes (read_descriptors tables) past p.flags.1 p.list p.has_list in
    let w0 =
    bytes_same l0.line.text (codes "message")
    (passed_ok (bytes_eq l0.line.text (codes "message")) tt _ p.begin.0 l0.reads).0 in
    let w1 = numbers_take (codes "section1") section1_limits l1.line.number l1.line.text p.numbers.0
    l1.reads in
    let w2 =
    numbers_take (codes "time") time_limits l2.line.number l2.line.text p.time.0 l2.reads in
    let w5 = flags_take l5.line.number l5.line.text p.flags.0 l5.reads in
    let w6 =
    descriptors_take laws.descriptors tables l6.line.number l6.line.text p.list.0 l6.reads in
    let w7 = subsets_take (length p.list.1) past 1 (course p.list.0.tree) 0 p.list.1 p.found
    p.has_found in
    let eight = eight_by_place p.numbers.0 (below_length section1_limits p.numbers.0 w1.1) in
    let six = six_by_place p.time.0 (below_length time_limits p.time.0 w2.1) in
    let m =
    message_with (head_with p.numbers.0 p.time.0 p.local.0) p.two.0 p.flags.0 p.list.0
    p.found.subsets in
    let e6 = ap texts l6.front ∙ (λ k. w6.line k ∷ w7.front k) in
    let e5 = ap texts l5.front ∙ (λ k. w5 k ∷ e6 k) in
    let e4 = l4.0 ∙ ap (λ zs. section2_lines p.two.0 ++ zs) e5 in
    let e3 = l3.0 ∙ ap (λ zs. local_lines (unwrap_or p.local.0 []) ++ zs) e4 in
    let e2 = ap texts l2.front ∙ (λ k. (w2.0 ∙ ap (numbers_line (codes "time")) six) k ∷ e3 k) in
    let e1 =
    ap texts l1.front ∙ (λ k. (w1.0 ∙ ap (numbers_line (codes "section1")) (sym eight)) k ∷ e2 k) in
    let e0 = ap texts l0.front ∙ (λ k. w0 k ∷ e1 k) in
    let fit : AllFitWithin p.list.0.tree 0 p.found.subsets p.found.items =
    laws.fit p.list.0.tree 1 0 p.found.items p.found.subsets none_used w7.fit in
    subst (λ (y : MessageRead). MessageTaken tables ls y) p.is (record {
      front = e0 ∙ sym (regrouped m (texts p.found.rest));
      can = record {
        head = head_fits p.numbers.0 p.time.0 p.local.0 w1.1 w2.1 l3.1;
        section2 = l4.1;
        descriptors = w6.small;
        some_descriptor = w6.some;
        tree = p.list.0.tree;
        has_tree = (laws.builds tables p.list.0.descriptors p.list.0.tree).0 w6.has_template;
        items = p.found.items;
        fit = fit;
      };
    })

-- ---- lines that writers print

pub word_back : (word : List ℕ) (n : ℕ) → read_word word n word ≡ Ok tt
word_back word n = rw (same_bytes word word refl) refl

pub limits_most : AllByRecursion (λ l. l ≤ two_octets) section1_limits
limits_most = (
  omega arith,
  (
    omega arith,
    (omega arith, (omega arith, (omega arith, (omega arith, (omega arith, (omega arith, tt)))))),
  ),
)

pub time_limits_most : AllByRecursion (λ l. l ≤ two_octets) time_limits
time_limits_most =
    (omega arith, (omega arith, (omega arith, (omega arith, (omega arith, (omega arith, tt))))))

pub section1_back : (n : ℕ) (h : Head) → HeadFits h
    → read_numbers (codes "section1") section1_limits n
    (numbers_line (codes "section1") (section1_numbers h))
    ≡ Ok (section1_numbers h)
section1_back n h fits =
    numbers_back (codes "section1") section1_limits n (section1_numbers h)
    (literal_word (codes "section1") refl) limits_most (head_below h fits).0

pub time_back : (n : ℕ) (h : Head) → HeadFits h
    → read_numbers (codes "time") time_limits n (numbers_line (codes "time") (time_numbers h))
    ≡ Ok (time_numbers h)
time_back n h fits =
    numbers_back (codes "time") time_limits n (time_numbers h)
    (literal_word (codes "time") refl) time_limits_most (head_below h fits).1

-- ---- messages

-- the lines of messages as read, which a text can list
pub record MessagesTaken (tables : Entries) (ls : List Line) (messages : List Message) : Type 0
  where
    pub front : texts ls ≡ flat_map lines_of messages
    pub each : AllByRecursion (λ m. CanBeListed tables m) messages

pub messages_take : LowerLaws → (left : ℕ) (tables : Entries) (past : ℕ) (ls : List Line)
    (messages : List Message) → messages_read left tables past ls ≡ Ok messages
    → MessagesTaken tables ls messages
unfolding messages_read
messages_take laws zero tables past [] messages h =
    subst (λ ms. MessagesTaken tables [] ms) (ok_is _ _ h) (record { front = refl; each = tt })
messages_take laws (suc left) tables past [] messages h =
    subst (λ ms. MessagesTaken tables [] ms) (ok_is _ _ h) (record { front = refl; each = tt })
messages_take laws zero tables past (l ∷ ls) messages h = absurd cc
messages_take laws (suc left) tables past (l ∷ ls) messages h =
    let p = bind_ok (message_read tables past (l ∷ ls)) _ messages h in
    let q = bind_ok (messages_read left tables past p.0.1) _ messages p.2 in
    let own = message_takes laws tables past (l ∷ ls) p.0 p.1 in
    let others = messages_take laws left tables past p.0.1 q.0 q.1 in
    subst (λ ms. MessagesTaken tables (l ∷ ls) ms) (ok_is _ _ q.2) (record {
      front = own.front ∙ ap (λ zs. lines_of p.0.0 ++ zs) others.front;
      each = (own.can, others.each);
    })

pub some_line : (m : Message) (others : List (List ℕ)) → 0 < length (lines_of m ++ others)
unfolding heading_lines lines_of
some_line m others = omega arith

-- there are no more messages than lines
pub length-messages : (messages : List Message) → length messages ≤ length
    (flat_map lines_of messages)
length-messages [] = omega arith
length-messages (m ∷ messages) =
    let ih = length-messages messages in
    let some = some_line m [] in
    let none = length-append (lines_of m) [] in
    let sum = length-append (lines_of m) (flat_map lines_of messages) in
    omega (arith, ih, some, none, sum)
