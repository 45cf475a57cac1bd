-- A fault in a message is the first fault of the relation: for the law on first faults.
use Rattle.std.proofs.Common.{◌≡◌, inl, inr, ℕ, zero, suc, ◌+◌, ◌<◌, ◌≤◌, true, List, [], ◌∷◌, ◌++◌}
use Rattle.std.proofs.Common.{length, codes, unwrap_or, Result, Ok, Err, refl, sym, ap, ◌∙◌, subst}
use Rattle.std.proofs.Common.{arith, append_assoc, length-append}
use Rattle.std.specs.Prelude.{IfSome, Option, Some, None}
use Rattle.std.specs.List.{flat_map, AllByRecursion}
use Rattle.std.specs.Str.{bytes_eq}
use Rattle.std.specs.Str.Lines.{lines}
use Rattle.std.proofs.lemmas.List.Elements.{All-from_recursion}
use Rattle.std.proofs.lemmas.List.{map-append, append-nil}
use Rattle.bufr_tables.specs.Entries.{Entries}
use Rattle.bufr_expand.specs.Courses.{course}
use Rattle.bufr_sections.specs.declared.message.Message.{Message}
use Rattle.bufr_sections.specs.Sections.{AreOctets, HeadFits, IsOctet}
use Rattle.bufr_listing.specs.declared.fault.ListingFault.{ListingFault}
use Rattle.bufr_listing.specs.Listings.{numbers_line, section1_line, time_line, local_lines}
use Rattle.bufr_listing.specs.Listings.{section2_lines, flags_line, lines_of}
use Rattle.bufr_listing_reader.specs.Lines.{Line, texts, counting_lines, CanBeListed}
use Rattle.bufr_listing_reader.specs.Reading.{read_line, read_if, read_word, are_below}
use Rattle.bufr_listing_reader.specs.Reading.{read_numbers, read_local, read_section2, read_flags}
use Rattle.bufr_listing_reader.specs.Reading.{read_descriptors, subsets_read, section1_limits, time_limits}
use Rattle.bufr_listing_reader.specs.Reading.{head_with, message_read, messages_read}
use Rattle.bufr_listing_reader.specs.Reading.{messages_listed}
use Rattle.bufr_listing_reader.specs.FirstFaults as faults
use Rattle.bufr_listing_reader.specs.FirstFaults.{Unfit, text_ends, bad_line, Place, at_message}
use Rattle.bufr_listing_reader.specs.FirstFaults.{at_section1, at_time, behind_time, behind_local}
use Rattle.bufr_listing_reader.specs.FirstFaults.{behind_section2, at_descriptors, AreBefore, CouldBeAt}
use Rattle.bufr_listing_reader.specs.FirstFaults.{IsOfKindAt, AreOfLine}
use Rattle.bufr_listing_reader.specs.FirstFaults.{up_to_time, up_to_local, MessageFault, in_heading}
use Rattle.bufr_listing_reader.specs.FirstFaults.{in_subsets, FirstFault}
use Rattle.bufr_tables.specs.DescriptorLaws.{six_by_place}
use Rattle.bufr_base.specs.AnswerLaws.{passed_ok, bind_err}
use Rattle.bufr_listing_reader.proofs.FieldFacts.{bytes_same}
use Rattle.bufr_listing_reader.proofs.SubsetFacts.{line_takes}
use Rattle.bufr_listing_reader.proofs.LineFacts.{numbers_take, octets_take, flags_take, descriptors_take}
use Rattle.bufr_listing_reader.proofs.LineFacts.{eight_by_place, below_length}
use Rattle.bufr_listing_reader.proofs.MessageFacts.{IfTaken, if_takes, local_takes, section2_takes}
use Rattle.bufr_listing_reader.proofs.MessageFacts.{head_fits, message_takes, some_line}
use Rattle.bufr_listing_reader.proofs.MessageParts.{from_flags, from_section2}
use Rattle.bufr_listing_reader.proofs.MessageSteps.{message_behind}
use Rattle.bufr_listing_reader.proofs.LoopFacts.{texts_length}
use Rattle.bufr_listing_reader.proofs.FaultFacts.{line_err, unfit_line, other_kind}
use Rattle.bufr_listing_reader.proofs.FaultFields.{FaultLaws, same_front, subsets_fault}
use Rattle.bufr_listing_reader.proofs.FaultHeadings.{UpTo, go_on, at_place, if_err_at, IsNotTitled}
use Rattle.bufr_listing_reader.proofs.FaultHeadings.{if_absent, section1_err, time_err, message_err}
use Rattle.bufr_listing_reader.proofs.FaultHeadings.{local_at, section2_at, flags_at, place_behind}
use Rattle.bufr_listing_reader.proofs.FaultHeadings.{descriptors_err, no_line, no_template}

-- ---- the places of a heading

pub none_fit : AreOctets []
none_fit = All-from_recursion IsOctet [] tt

pub first_head : (ns : List ℕ) → are_below section1_limits ns ≡ true
    → HeadFits (head_with ns (0 ∷ 0 ∷ 0 ∷ 0 ∷ 0 ∷ 0 ∷ []) None)
unfolding are_below
first_head ns n = head_fits ns (0 ∷ 0 ∷ 0 ∷ 0 ∷ 0 ∷ 0 ∷ []) None n refl none_fit

pub section1_is : (ns ts : List ℕ) (local : Option (List ℕ)) → are_below section1_limits ns ≡ true
    → numbers_line (codes "section1") ns ≡ section1_line (head_with ns ts local)
section1_is ns ts local n =
    ap (numbers_line (codes "section1"))
    (sym (eight_by_place ns (below_length section1_limits ns n)))

pub time_is : (ns ts : List ℕ) (local : Option (List ℕ)) → are_below time_limits ts ≡ true
    → numbers_line (codes "time") ts ≡ time_line (head_with ns ts local)
time_is ns ts local t =
    ap (numbers_line (codes "time")) (six_by_place ts (below_length time_limits ts t))

behind_options : (ns ts : List ℕ) (local two : Option (List ℕ)) → HeadFits (head_with ns ts local)
    → IfSome local (λ octets. 0 < length octets) → IfSome two AreOctets
    → AreBefore (place_behind local two) (up_to_local (head_with ns ts local) ++ section2_lines two)
behind_options ns ts None None fits some octets = (head_with ns ts None, fits, refl)
behind_options ns ts (Some local) None fits some octets = (
  head_with ns ts (Some local),
  fits,
  some,
  append-nil (up_to_local (head_with ns ts (Some local))),
)
behind_options ns ts None (Some two) fits some octets =
    (head_with ns ts None, fits, two, octets, refl)
behind_options ns ts (Some local) (Some two) fits some octets =
    (head_with ns ts (Some local), fits, two, octets, refl)

record Front (ls rest : List Line) (more : List (List ℕ)) : Type 0 where
  front : List Line
  in_order : ls ≡ front ++ rest
  spelled : texts front ≡ more

front_of : {A : Type 0} (read : ℕ → List ℕ → Result A ListingFault) (ls : List Line)
    (o : Option A) (rest : List Line) (more : List (List ℕ))
    → IfTaken read ls o rest → texts ls ≡ more ++ texts rest → Front ls rest more
front_of read ls None rest more e is =
    record { front = []; in_order = e; spelled = same_front [] rest more (sym (ap texts e) ∙ is) }
front_of read ls (Some a) rest more t is =
    record {
      front = t.line ∷ [];
      in_order = t.front;
      spelled = same_front (t.line ∷ []) rest more
          (sym (ap texts t.front) ∙ is);
    }

some_local : (ls : List Line) (o : Option (List ℕ)) (rest : List Line)
    → IfTaken read_local ls o rest → IfSome o (λ octets. 0 < length octets)
some_local ls None rest t = tt
some_local ls (Some octets) rest t =
    (octets_take (codes "local1") _ t.line.number t.line.text octets t.reads).some

-- ---- the first fault of a message

flags_fault : FaultLaws → (tables : Entries) (past : ℕ) (ls : List Line) (fault : ListingFault)
    (ns ts : List ℕ) (local two : Option (List ℕ)) (mid : List Line)
    → HeadFits (head_with ns ts local) → IfSome local (λ octets. 0 < length octets)
    → IfSome two AreOctets
    → UpTo ls (up_to_local (head_with ns ts local) ++ section2_lines two) mid
    → (local ≡ None → two ≡ None → IsNotTitled (codes "local1") mid)
    → (two ≡ None → IsNotTitled (codes "section2") mid)
    → from_flags tables past (head_with ns ts local) two mid ≡ Err fault
    → MessageFault tables past ls fault
flags_fault laws tables past ls fault ns ts local two mid fits some octets u no_local no_two h =
    let before = behind_options ns ts local two fits some octets in
    elim (bind_err (read_line read_flags past mid) _ fault h) [
      | inl e ↦
          at_place tables past ls fault (place_behind local two) read_flags
          (up_to_local (head_with ns ts local) ++ section2_lines two) mid u before
          (λ l behind is k. flags_at local two l fault (λ a b. no_local a b l behind is)
          (λ b. no_two b l behind is) k) e
      | inr p5 ↦
          let l5 = line_takes read_flags past mid p5.0 p5.1 in
          let w5 = flags_take l5.line.number l5.line.text p5.0.0 l5.reads in
          let u5 =
          go_on ls mid (l5.line ∷ []) p5.0.1
          (up_to_local (head_with ns ts local) ++ section2_lines two)
          (flags_line p5.0.0.observed p5.0.0.compressed ∷ []) u l5.front (λ i. w5 i ∷ []) in
          let regroup = append_assoc (up_to_local (head_with ns ts local)) (section2_lines two)
          (flags_line p5.0.0.observed p5.0.0.compressed ∷ []) in
          let stands : AreBefore at_descriptors (texts u5.own) = (
            head_with ns ts local,
            fits,
            two,
            octets,
            p5.0.0.observed,
            p5.0.0.compressed,
            u5.spelled ∙ regroup,
          ) in
          elim (bind_err (read_line (read_descriptors tables) past p5.0.1) _ fault p5.2) [
            | inl e ↦
                elim (line_err (read_descriptors tables) past p5.0.1 fault e) [
                  | inl none ↦ in_heading at_descriptors u5.own p5.0.1 u5.in_order stands
                      (text_ends none.0 none.1)
                  | inr l ↦
                      elim (descriptors_err laws.lower.descriptors tables l.0.number l.0.text
                      fault l.3) [
                        | no_line other is ↦
                            in_heading at_descriptors u5.own p5.0.1 u5.in_order stands
                            (unfit_line (CouldBeAt at_descriptors) (IsOfKindAt at_descriptors)
                            past p5.0.1 fault l.0 l.1 l.2 other
                            (other_kind ⊥ l.0.number fault (λ k. k) (sym is)))
                        | no_template ds why line has is ↦
                            faults.no_tree u5.own l.0 l.1 ds why
                            (u5.in_order ∙ ap (λ xs. u5.own ++ xs) l.2) stands line
                            ((laws.lower.refuses tables ds why).0 has) is
                      ]
                ]
            | inr p6 ↦
                let l6 = line_takes (read_descriptors tables) past p5.0.1 p6.0 p6.1 in
                let w6 =
                descriptors_take laws.lower.descriptors tables l6.line.number l6.line.text p6.0.0
                l6.reads in
                elim (bind_err (subsets_read (length p6.0.1) past (course p6.0.0.tree) 0 p6.0.1) _
                fault p6.2) [
                  | inl e ↦
                      in_subsets u5.own l6.line p6.0.1 p6.0.0.descriptors p6.0.0.tree
                      (u5.in_order ∙ ap (λ xs. u5.own ++ xs) l6.front) stands
                      (w6.some, w6.small, w6.line)
                      ((laws.lower.builds tables p6.0.0.descriptors p6.0.0.tree).0 w6.has_template)
                      (subsets_fault laws p6.0.0.tree past p6.0.1 fault e)
                  | inr all ↦ absurd cc
                ]
          ]
    ]

-- ---- lines that a message may lack

same_rest : {A : Type 0} (title : List ℕ) (read : ℕ → List ℕ → Result A ListingFault)
    (ls : List Line) (x : Option A × List Line) → read_if title read ls ≡ Ok x → x.0 ≡ None
    → ls ≡ x.1
same_rest title read ls (None, rest) h e = if_takes title read ls (None, rest) h
same_rest title read ls (Some a, rest) h e = absurd cc

absent_rest : {A : Type 0} (title : List ℕ) (read : ℕ → List ℕ → Result A ListingFault)
    (ls : List Line) (x : Option A × List Line) → read_if title read ls ≡ Ok x → x.0 ≡ None
    → IsNotTitled title x.1
absent_rest title read ls (None, rest) h e =
    subst (λ (m : List Line). IsNotTitled title m) (if_takes title read ls (None, rest) h)
    (if_absent title read ls rest h)
absent_rest title read ls (Some a, rest) h e = absurd cc

two_fault : FaultLaws → (tables : Entries) (past : ℕ) (ls : List Line) (fault : ListingFault)
    (ns ts : List ℕ) (local : Option (List ℕ)) (mid : List Line)
    → HeadFits (head_with ns ts local) → IfSome local (λ octets. 0 < length octets)
    → UpTo ls (up_to_local (head_with ns ts local)) mid
    → (local ≡ None → IsNotTitled (codes "local1") mid)
    → from_section2 tables past (head_with ns ts local) mid ≡ Err fault
    → MessageFault tables past ls fault
two_fault laws tables past ls fault ns ts local mid fits some u no_local h =
    elim (bind_err (read_if (codes "section2") read_section2 mid) _ fault h) [
      | inl e ↦
          let i = if_err_at (codes "section2") read_section2 mid fault e in
          let p = section2_at local i.line fault i.titled i.fails in
          let all = up_to_local (head_with ns ts local) in
          let stand : AreBefore (place_behind local None) (texts u.own) =
          subst (λ (ls : List (List ℕ)). AreBefore (place_behind local None) ls)
          (append-nil all ∙ sym u.spelled) (behind_options ns ts local None fits some tt) in
          in_heading (place_behind local None) u.own mid u.in_order stand
          (unfit_line (CouldBeAt (place_behind local None))
          (IsOfKindAt (place_behind local None)) past mid fault i.line i.behind i.front p.0 p.1)
      | inr p4 ↦
          let t = if_takes (codes "section2") read_section2 mid p4.0 p4.1 in
          let w = section2_takes mid p4.0.0 p4.0.1 t in
          let f = front_of read_section2 mid p4.0.0 p4.0.1 (section2_lines p4.0.0) t w.0 in
          flags_fault laws tables past ls fault ns ts local p4.0.0 p4.0.1 fits some w.1
          (go_on ls mid f.front p4.0.1 (up_to_local (head_with ns ts local))
          (section2_lines p4.0.0) u f.in_order f.spelled)
          (λ a b. subst (λ (m : List Line). IsNotTitled (codes "local1") m)
          (same_rest (codes "section2") read_section2 mid p4.0 p4.1 b) (no_local a))
          (λ b. absent_rest (codes "section2") read_section2 mid p4.0 p4.1 b) p4.2
    ]

message_fault : FaultLaws → (tables : Entries) (past : ℕ) (ls : List Line) (fault : ListingFault)
    → message_read tables past ls ≡ Err fault → MessageFault tables past ls fault
unfolding message_read
message_fault laws tables past ls fault h =
    elim (bind_err (read_line (read_word (codes "message")) past ls) _ fault h) [
      | inl e ↦
          at_place tables past ls fault at_message (read_word (codes "message")) [] ls
          (record { own = []; in_order = refl; spelled = refl }) refl
          (λ l behind is k. message_err l.number l.text fault k) e
      | inr p0 ↦
          let l0 = line_takes (read_word (codes "message")) past ls p0.0 p0.1 in
          let w0 =
          bytes_same l0.line.text (codes "message")
          (passed_ok (bytes_eq l0.line.text (codes "message")) tt _ p0.0.0 l0.reads).0 in
          let u0 : UpTo ls (codes "message" ∷ []) p0.0.1 =
          record { own = l0.line ∷ []; in_order = l0.front; spelled = λ i. w0 i ∷ [] } in
          elim (bind_err (read_line (read_numbers (codes "section1") section1_limits) past p0.0.1)
          _ fault p0.2) [
            | inl e ↦
                at_place tables past ls fault at_section1
                (read_numbers (codes "section1") section1_limits) (codes "message" ∷ []) p0.0.1 u0
                refl
                (λ l behind is k. section1_err l.number l.text fault k) e
            | inr p1 ↦
                let l1 =
                line_takes (read_numbers (codes "section1") section1_limits) past p0.0.1 p1.0
                p1.1 in
                let w1 =
                numbers_take (codes "section1") section1_limits l1.line.number l1.line.text p1.0.0
                l1.reads in
                let zeros : List ℕ = 0 ∷ 0 ∷ 0 ∷ 0 ∷ 0 ∷ 0 ∷ [] in
                let h1 = head_with p1.0.0 zeros None in
                let u1 : UpTo ls (codes "message" ∷ section1_line h1 ∷ []) p1.0.1 =
                go_on ls p0.0.1 (l1.line ∷ []) p1.0.1 (codes "message" ∷ [])
                (section1_line h1 ∷ []) u0 l1.front
                (λ i. (w1.0 ∙ section1_is p1.0.0 zeros None w1.1) i ∷ []) in
                elim (bind_err (read_line (read_numbers (codes "time") time_limits) past p1.0.1) _
                fault p1.2) [
                  | inl e ↦
                      at_place tables past ls fault at_time
                      (read_numbers (codes "time") time_limits)
                      (codes "message" ∷ section1_line h1 ∷ []) p1.0.1 u1
                      (h1, first_head p1.0.0 w1.1, refl)
                      (λ l behind is k. time_err l.number l.text fault k) e
                  | inr p2 ↦
                      let l2 =
                      line_takes (read_numbers (codes "time") time_limits) past p1.0.1 p2.0 p2.1 in
                      let w2 =
                      numbers_take (codes "time") time_limits l2.line.number l2.line.text p2.0.0
                      l2.reads in
                      let h2 = head_with p1.0.0 p2.0.0 None in
                      let u2 : UpTo ls (up_to_time h2) p2.0.1 =
                      go_on ls p1.0.1 (l2.line ∷ []) p2.0.1
                      (codes "message" ∷ section1_line h1 ∷ []) (time_line h2 ∷ []) u1 l2.front
                      (λ i. (w2.0 ∙ time_is p1.0.0 p2.0.0 None w2.1) i ∷ []) in
                      elim (bind_err (read_if (codes "local1") read_local p2.0.1) _ fault p2.2) [
                        | inl e ↦
                            let i = if_err_at (codes "local1") read_local p2.0.1 fault e in
                            let p = local_at i.line fault i.titled i.fails in
                            in_heading behind_time u2.own p2.0.1 u2.in_order
                            (h2, head_fits p1.0.0 p2.0.0 None w1.1 w2.1 none_fit, u2.spelled)
                            (unfit_line (CouldBeAt behind_time) (IsOfKindAt behind_time) past
                            p2.0.1 fault i.line i.behind i.front p.0 p.1)
                        | inr p3 ↦
                            let t = if_takes (codes "local1") read_local p2.0.1 p3.0 p3.1 in
                            let w = local_takes p2.0.1 p3.0.0 p3.0.1 t in
                            let f = front_of read_local p2.0.1 p3.0.0 p3.0.1
                            (local_lines (unwrap_or p3.0.0 [])) t w.0 in
                            two_fault laws tables past ls fault p1.0.0 p2.0.0 p3.0.0 p3.0.1
                            (head_fits p1.0.0 p2.0.0 p3.0.0 w1.1 w2.1 w.1)
                            (some_local p2.0.1 p3.0.0 p3.0.1 t)
                            (go_on ls p2.0.1 f.front p3.0.1 (up_to_time h2)
                            (local_lines (unwrap_or p3.0.0 [])) u2 f.in_order f.spelled)
                            (λ none. absent_rest (codes "local1") read_local p2.0.1 p3.0 p3.1
                            none) p3.2
                      ]
                ]
          ]
    ]

-- ---- the first fault of a text

-- messages, and then the first fault
record FirstIn (tables : Entries) (past : ℕ) (ls : List Line) (fault : ListingFault) : Type 0 where
  before : List Message
  own : List Line
  rest : List Line
  in_order : ls ≡ own ++ rest
  spelled : texts own ≡ flat_map lines_of before
  each : AllByRecursion (λ m. CanBeListed tables m) before
  begun : 0 < length rest
  refused : MessageFault tables past rest fault

pub fewer_lines : (ls own rest : List Line) (m : Message) (left : ℕ) → ls ≡ own ++ rest
    → texts own ≡ lines_of m → length ls ≤ suc left → length rest ≤ left
fewer_lines ls own rest m left e is few =
    let some = some_line m [] in
    let none = length-append (lines_of m) [] in
    let same = ap length is in
    let count = texts_length own in
    let whole = ap length e in
    let sum = length-append own rest in
    omega (arith, some, none, same, count, whole, sum, few)

first_in : FaultLaws → (left : ℕ) (tables : Entries) (past : ℕ) (ls : List Line)
    (fault : ListingFault) → length ls ≤ left → messages_read left tables past ls ≡ Err fault
    → FirstIn tables past ls fault
unfolding messages_read
first_in laws zero tables past [] fault few h = absurd cc
first_in laws (suc left) tables past [] fault few h = absurd cc
first_in laws zero tables past (l ∷ ls) fault few h = absurd (omega (arith, few))
first_in laws (suc left) tables past (l ∷ ls) fault few h =
    elim (bind_err (message_read tables past (l ∷ ls)) _ fault h) [
      | inl e ↦
          record {
            before = [];
            own = [];
            rest = l ∷ ls;
            in_order = refl;
            spelled = refl;
            each = tt;
            begun = omega arith;
            refused = message_fault laws tables past (l ∷ ls) fault e;
          }
      | inr p ↦
          elim (bind_err (messages_read left tables past p.0.1) _ fault p.2) [
            | inl e ↦
                let taken = message_takes laws.lower tables past (l ∷ ls) p.0 p.1 in
                let b = message_behind tables past (l ∷ ls) p.0 p.1 in
                let own : texts b.own ≡ lines_of p.0.0 =
                same_front b.own p.0.1 (lines_of p.0.0) (sym (ap texts b.in_order) ∙ taken.front) in
                let r = first_in laws left tables past p.0.1 fault
                (fewer_lines (l ∷ ls) b.own p.0.1 p.0.0 left b.in_order own few) e in
                record {
                  before = p.0.0 ∷ r.before;
                  own = b.own ++ r.own;
                  rest = r.rest;
                  in_order = b.in_order ∙ ap (λ xs. b.own ++ xs) r.in_order
                      ∙ sym (append_assoc b.own r.own r.rest);
                  spelled = map-append (λ (l : Line). l.text) b.own r.own
                      ∙ (λ i. own i ++ r.spelled i);
                  each = (taken.can, r.each);
                  begun = r.begun;
                  refused = r.refused;
                }
            | inr all ↦ absurd cc
          ]
    ]

pub first_fault : FaultLaws → (tables : Entries) (text : List ℕ) (fault : ListingFault)
    → messages_listed tables text ≡ Err fault → FirstFault tables text fault
first_fault laws tables text fault h =
    let r = first_in laws (length (counting_lines text)) tables (length (lines text) + 1)
    (counting_lines text) fault (omega arith) h in
    record {
      before = r.before;
      own = r.own;
      rest = r.rest;
      in_order = r.in_order;
      spelled = r.spelled;
      each = r.each;
      begun = r.begun;
      refused = r.refused;
    }
