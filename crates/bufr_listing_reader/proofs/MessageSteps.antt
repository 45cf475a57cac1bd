-- Reading a message part by part: for `read_message`.
use Rattle.std.proofs.Common.{◌≡◌, ℕ, ◌<◌, List, [], ◌∷◌}
use Rattle.std.proofs.Common.{◌++◌, append_assoc, length, length-append, codes, Result, Ok, Err}
use Rattle.std.proofs.Common.{refl, sym, ap, ◌∙◌, subst, arith}
use Rattle.std.specs.Prelude.{Option, Some, None}
use Rattle.bufr_base.specs.Answers.{◌>>=◌, Fails, result_map}
use Rattle.bufr_tables.specs.Entries.{Entries}
use Rattle.bufr_base.specs.declared.failure.Failure.{Failure}
use Rattle.bufr_base.specs.declared.failure.Failure.TheVariants.{Fault, OutOfMemory}
use Rattle.bufr_expand.specs.Courses.{course}
use Rattle.bufr_fields.specs.declared.field.Subset.{Subset}
use Rattle.bufr_sections.specs.declared.message.Head.{Head}
use Rattle.bufr_base.specs.AnswerLaws.{ok_is}
use Rattle.bufr_listing.specs.declared.fault.ListingFault.{ListingFault}
use Rattle.bufr_listing_reader.specs.Lines.{Line}
use Rattle.bufr_listing_reader.specs.Reading.{with_rest, read_line, read_if, read_word, read_numbers}
use Rattle.bufr_listing_reader.specs.Reading.{read_local, read_section2, Flags, read_flags, Described}
use Rattle.bufr_listing_reader.specs.Reading.{read_descriptors, SubsetsListed, subsets_read, subsets_of}
use Rattle.bufr_listing_reader.specs.Reading.{section1_limits, time_limits, head_with, head_read}
use Rattle.bufr_listing_reader.specs.Reading.{MessageRead, message_read}
use Rattle.bufr_listing_reader.proofs.SubsetFacts.{line_takes}
use Rattle.bufr_listing_reader.proofs.LoopFacts.{goes_on, line_shorter}
use Rattle.bufr_listing_reader.proofs.MessageParts.{message_with, from_subsets, from_descriptors}
use Rattle.bufr_listing_reader.proofs.MessageParts.{from_flags, from_section2, MessageParts, message_parts}
use Rattle.bufr_listing_reader.proofs.MessageFacts.{IfTaken, if_takes}
use Rattle.bufr_listing_reader.proofs.FaultFields.{IsBehind, subsets_behind}

-- ---- section 1 first

bind_one : {D E G F : Type 0} (d : Result D F) (e : D → Result E F) (k : E → Result G F)
    → ((d >>= λ w. e w) >>= k) ≡ (d >>= λ w. (e w >>= k))
bind_one (Ok w) e k = refl
bind_one (Err f) e k = refl

bind_four : {A B C D E G F : Type 0} (a : Result A F) (b : A → Result B F)
    (c : A → B → Result C F) (d : A → B → C → Result D F) (e : A → B → C → D → Result E F)
    (k : E → Result G F)
    → ((a >>= λ x. b x >>= λ y. c x y >>= λ z. d x y z >>= λ w. e x y z w) >>= k)
    ≡ (a >>= λ x. b x >>= λ y. c x y >>= λ z. d x y z >>= λ w. (e x y z w >>= k))
bind_four a b c d e k =
    bind_one a (λ x. b x >>= λ y. c x y >>= λ z. d x y z >>= λ w. e x y z w) k
    ∙ (λ i. a >>= λ x. bind_one (b x) (λ y. c x y >>= λ z. d x y z >>= λ w. e x y z w) k i)
    ∙ (λ i. a >>= λ x. b x >>= λ y. bind_one (c x y) (λ z. d x y z >>= λ w. e x y z w) k i)
    ∙ (λ i. a >>= λ x. b x >>= λ y. c x y >>= λ z. bind_one (d x y z) (e x y z) k i)

by_head : (tables : Entries) (past : ℕ) (ls : List Line) → message_read tables past ls
    ≡ (head_read past ls >>= λ h. from_section2 tables past h.0 h.1)
unfolding message_read
by_head tables past ls =
    sym (bind_four
    (read_line (read_word (codes "message")) past ls)
    (λ begin. read_line (read_numbers (codes "section1") section1_limits) past begin.1)
    (λ begin numbers. read_line (read_numbers (codes "time") time_limits) past numbers.1)
    (λ begin numbers time. read_if (codes "local1") read_local time.1)
    (λ begin numbers time local. with_rest local.1 (head_with numbers.0 time.0 local.0))
    (λ (h : Head × List Line). from_section2 tables past h.0 h.1))

-- ---- step by step

pub at_section2 : (tables : Entries) (past : ℕ) (ls l1 : List Line) (h : Head) → head_read past ls
    ≡ Ok (h, l1) → message_read tables past ls ≡ from_section2 tables past h l1
at_section2 tables past ls l1 h e =
    by_head tables past ls ∙ ap (λ (r : Result (Head × List Line) ListingFault). r >>= λ x.
    from_section2 tables past x.0 x.1) e

pub at_flags : (tables : Entries) (past : ℕ) (ls l1 l2 : List Line) (h : Head)
    (two : Option (List ℕ)) → head_read past ls ≡ Ok (h, l1)
    → read_if (codes "section2") read_section2 l1 ≡ Ok (two, l2)
    → message_read tables past ls ≡ from_flags tables past h two l2
at_flags tables past ls l1 l2 h two e f =
    at_section2 tables past ls l1 h e
    ∙ ap (λ (r : Result (Option (List ℕ) × List Line) ListingFault). r >>= λ x.
    from_flags tables past h x.0 x.1) f

pub at_descriptors : (tables : Entries) (past : ℕ) (ls l1 l2 l3 : List Line) (h : Head)
    (two : Option (List ℕ)) (flags : Flags) → head_read past ls ≡ Ok (h, l1)
    → read_if (codes "section2") read_section2 l1 ≡ Ok (two, l2)
    → read_line read_flags past l2 ≡ Ok (flags, l3) → message_read tables past ls
    ≡ from_descriptors tables past h two flags l3
at_descriptors tables past ls l1 l2 l3 h two flags e f g = at_flags tables past ls l1 l2 h two e f
    ∙ ap (λ (r : Result (Flags × List Line) ListingFault). r >>= λ x. from_descriptors tables past
    h two x.0 x.1) g

pub at_subsets : (tables : Entries) (past : ℕ) (ls l1 l2 l3 l4 : List Line) (h : Head)
    (two : Option (List ℕ)) (flags : Flags) (list : Described) → head_read past ls ≡ Ok (h, l1)
    → read_if (codes "section2") read_section2 l1 ≡ Ok (two, l2)
    → read_line read_flags past l2 ≡ Ok (flags, l3) → read_line (read_descriptors tables) past l3
    ≡ Ok (list, l4) → message_read tables past ls ≡ from_subsets past h two flags list l4
at_subsets tables past ls l1 l2 l3 l4 h two flags list e f g d =
    at_descriptors tables past ls l1 l2 l3 h two flags e f g
    ∙ ap (λ (r : Result (Described × List Line) ListingFault). r >>= λ x.
    from_subsets past h two flags x.0 x.1) d

-- ---- faults

pub step_fails : {A B : Type 0} (m : Result B ListingFault) (o : Result A ListingFault)
    (k : A → Result B ListingFault) (e : Failure ListingFault) → m ≡ (o >>= k) → Fails e o
    → Fails e m
step_fails m o k OutOfMemory so h = tt
step_fails m o k (Fault f) so h = so ∙ ap (λ r. r >>= k) h

pub head_fails : (tables : Entries) (past : ℕ) (ls : List Line) (e : Failure ListingFault)
    → Fails e (head_read past ls) → Fails e (message_read tables past ls)
head_fails tables past ls e h =
    step_fails _ (head_read past ls) (λ x. from_section2 tables past x.0 x.1) e
    (by_head tables past ls) h

map_fails : (o : Result SubsetsListed ListingFault) (e : Failure ListingFault)
    → Fails {Y = List Subset × List Line} e (result_map (λ r. (r.subsets, r.rest)) o) → Fails e o
map_fails o OutOfMemory h = tt
map_fails (Ok r) (Fault f) h = absurd cc
map_fails (Err g) (Fault f) h = let same : g ≡ f = cc in ap Err same

pub subsets_fail : (tables : Entries) (past : ℕ) (ls mid : List Line) (h : Head)
    (two : Option (List ℕ)) (flags : Flags) (list : Described) (e : Failure ListingFault)
    → message_read tables past ls ≡ from_subsets past h two flags list mid
    → Fails e (subsets_of past (course list.tree) mid) → Fails e (message_read tables past ls)
subsets_fail tables past ls mid h two flags list e so fails =
    step_fails _ (subsets_read (length mid) past (course list.tree) 0 mid) _ e so
    (map_fails (subsets_read (length mid) past (course list.tree) 0 mid) e fails)

map_ok : (o : Result SubsetsListed ListingFault) (x : List Subset × List Line)
    → result_map (λ r. (r.subsets, r.rest)) o ≡ Ok x → (r : SubsetsListed) × (o ≡ Ok r)
    × ((r.subsets, r.rest) ≡ x)
map_ok (Ok r) x h = (r, refl, ok_is (r.subsets, r.rest) x h)
map_ok (Err f) x h = absurd cc

pub message_is : (tables : Entries) (past : ℕ) (ls mid rest : List Line) (h : Head)
    (two : Option (List ℕ)) (flags : Flags) (list : Described) (subsets : List Subset)
    → message_read tables past ls ≡ from_subsets past h two flags list mid
    → subsets_of past (course list.tree) mid ≡ Ok (subsets, rest)
    → message_read tables past ls ≡ Ok (message_with h two flags list subsets, rest)
message_is tables past ls mid rest h two flags list subsets so s =
    let p = map_ok (subsets_read (length mid) past (course list.tree) 0 mid) (subsets, rest) s in
    so
    ∙ goes_on _ _ p.0 _ p.1
    (ap (λ (x : List Subset × List Line). with_rest x.1 (message_with h two flags list x.0)) p.2)

-- ---- messages

then_behind : (ls mid rest : List Line) → IsBehind ls mid → IsBehind mid rest → IsBehind ls rest
then_behind ls mid rest a b =
    record {
      own = a.own ++ b.own;
      in_order = a.in_order ∙ ap (λ xs. a.own ++ xs) b.in_order
          ∙ sym (append_assoc a.own b.own rest);
    }

line_behind : {A : Type 0} (read : ℕ → List ℕ → Result A ListingFault) (past : ℕ) (ls : List Line)
    (x : A × List Line) → read_line read past ls ≡ Ok x → IsBehind ls x.1
line_behind read past ls x h = let l = line_takes read past ls x h in
    record { own = l.line ∷ []; in_order = l.front }

taken_behind : {A : Type 0} (read : ℕ → List ℕ → Result A ListingFault) (ls : List Line)
    (o : Option A) (rest : List Line) → IfTaken read ls o rest → IsBehind ls rest
taken_behind read ls None rest e = record { own = []; in_order = e }
taken_behind read ls (Some a) rest t = record { own = t.line ∷ []; in_order = t.front }

behind_begin : (tables : Entries) (past : ℕ) (ls : List Line) (x : MessageRead)
    (p : MessageParts tables past ls x) → IsBehind p.begin.1 x.1
behind_begin tables past ls x p =
    subst (λ (y : MessageRead). IsBehind p.begin.1 y.1) p.is
    (then_behind _ _ _ (line_behind (read_numbers (codes "section1") section1_limits) past p.begin.1
    p.numbers p.has_numbers)
    (then_behind _ _ _ (line_behind (read_numbers (codes "time") time_limits) past p.numbers.1
    p.time p.has_time)
    (then_behind _ _ _ (taken_behind read_local p.time.1 p.local.0 p.local.1
    (if_takes (codes "local1") read_local p.time.1 p.local p.has_local))
    (then_behind _ _ _ (taken_behind read_section2 p.local.1 p.two.0 p.two.1
    (if_takes (codes "section2") read_section2 p.local.1 p.two p.has_two))
    (then_behind _ _ _ (line_behind read_flags past p.two.1 p.flags p.has_flags)
    (then_behind _ _ _ (line_behind (read_descriptors tables) past p.flags.1 p.list p.has_list)
    (subsets_behind (length p.list.1) past (course p.list.0.tree) 0 p.list.1 p.found
    p.has_found)))))))

-- the lines left after a message
pub message_behind : (tables : Entries) (past : ℕ) (ls : List Line) (x : MessageRead)
    → message_read tables past ls ≡ Ok x → IsBehind ls x.1
message_behind tables past ls x h =
    let p = message_parts tables past ls x h in
    then_behind ls p.begin.1 x.1
    (line_behind (read_word (codes "message")) past ls p.begin p.begins)
    (behind_begin tables past ls x p)

pub message_shorter : (tables : Entries) (past : ℕ) (ls : List Line) (x : MessageRead)
    → message_read tables past ls ≡ Ok x → length x.1 < length ls
message_shorter tables past ls x h =
    let p = message_parts tables past ls x h in
    let first = line_shorter (read_word (codes "message")) past ls p.begin p.begins in
    let b = behind_begin tables past ls x p in
    let whole = ap length b.in_order in
    let sum = length-append b.own x.1 in
    omega (arith, first, whole, sum)
