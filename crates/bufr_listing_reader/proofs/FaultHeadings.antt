-- A fault in a heading is the first fault of the relation: for the law on first faults.
use Rattle.std.proofs.Common.{◌≡◌, ◌⊎◌, inl, inr, ℕ, ◌+◌, ◌<◌, ◌≤◌, Bool, true, false, List, []}
use Rattle.std.proofs.Common.{◌∷◌, ◌++◌, length, drop, codes, Result, Ok, Err, refl, sym, ap, ◌∙◌}
use Rattle.std.proofs.Common.{subst, arith, append_assoc, ◌^◌}
use Rattle.std.specs.Prelude.{◌==◌, ◌&&◌, not, Option, Some, None, nat_le, if◌then◌else◌}
use Rattle.std.specs.Str.{bytes_eq}
use Rattle.std.proofs.lemmas.Bool.{and_parts, cases_Bool, leb-true, le-leb, eq-eqb, eqb-true}
use Rattle.std.proofs.lemmas.List.{map-append}
use Rattle.std.proofs.lemmas.Option.{none-some}
use Rattle.std.proofs.lemmas.List.Elements.{All-from_recursion}
use Rattle.bufr_tables.specs.Entries.{Entries}
use Rattle.bufr_expand.specs.declared.node.TemplateFault.{TemplateFault}
use Rattle.bufr_expand.specs.Templates.{template}
use Rattle.bufr_expand.specs.Trees.{Tree}
use Rattle.bufr_sections.specs.Sections.{AreOctets}
use Rattle.bufr_base.specs.AnswerLaws.{bind_ok, ok_is, bind_err, err_is}
use Rattle.bufr_listing.specs.declared.fault.ListingFault.{ListingFault}
use Rattle.bufr_listing.specs.declared.fault.ListingFault.TheVariants.{BadLine, Refused}
use Rattle.bufr_listing.specs.declared.fault.Cause.TheVariants as causes
use Rattle.bufr_listing.specs.Listings.{section1_numbers, time_numbers, numbers_line, octets_line}
use Rattle.bufr_listing.specs.Listings.{section1_line, time_line, section2_line, flags_line}
use Rattle.bufr_listing.specs.Listings.{descriptors_line}
use Rattle.bufr_listing_reader.specs.Lines.{Line, texts, words_of, first_word}
use Rattle.bufr_listing_reader.specs.Reading.{with_rest, read_line, read_if, read_word, are_below}
use Rattle.bufr_listing_reader.specs.Reading.{numbers_in, read_numbers, read_octets, read_local}
use Rattle.bufr_listing_reader.specs.Reading.{read_section2, read_flags, descriptors_in, Described}
use Rattle.bufr_listing_reader.specs.Reading.{described, read_descriptors, fault_behind, section1_limits}
use Rattle.bufr_listing_reader.specs.Reading.{time_limits}
use Rattle.bufr_listing_reader.specs.FirstFaults.{text_ends, Place, at_message, at_section1, at_time}
use Rattle.bufr_listing_reader.specs.FirstFaults.{behind_time, behind_local, behind_section2}
use Rattle.bufr_listing_reader.specs.FirstFaults.{at_descriptors, AreBefore, CouldBeAt, IsOfKindAt}
use Rattle.bufr_listing_reader.specs.FirstFaults.{IsLocal, IsSection2, IsFlags, AreOfLine, HasWords}
use Rattle.bufr_listing_reader.specs.FirstFaults.{HasWordsOfFlags, MessageFault}
use Rattle.bufr_listing_reader.specs.FirstFaults.{in_heading}
use Rattle.bufr_listing_reader.proofs.LowerLaws.{DescriptorTexts}
use Rattle.bufr_listing_reader.proofs.FieldFacts.{bytes_same}
use Rattle.bufr_listing_reader.proofs.LineFacts.{local_back, section2_back, flags_back, descriptors_small}
use Rattle.bufr_listing_reader.proofs.LineFacts.{descriptors_pass, not_empty}
use Rattle.bufr_listing_reader.proofs.MessageFacts.{section1_back, time_back}
use Rattle.bufr_listing_reader.proofs.FaultFacts.{not_both, line_err, IsFaultOf}
use Rattle.bufr_listing_reader.proofs.FaultFacts.{other_kind, same_kind_of, unfit_line, if_err}
use Rattle.bufr_listing_reader.proofs.FaultFacts.{behind_fault}
use Rattle.bufr_listing_reader.proofs.FaultFields.{not_title, word_err}

-- ---- lines of numbers

numbers_err : (title limits : List ℕ) (n : ℕ) (text : List ℕ) (fault : ListingFault)
    → read_numbers title limits n text ≡ Err fault
    → IsFaultOf (HasWords title (length limits + 1) text) n fault
numbers_err title limits n text fault h =
    behind_fault (length (words_of text) ≡ length limits + 1) title
    (length (words_of text) == length limits + 1) n text fault
    (eqb-true (length (words_of text)) (length limits + 1))
    (eq-eqb (length (words_of text)) (length limits + 1))
    (if_err (are_below limits (numbers_in text) && bytes_eq (numbers_line title (numbers_in text))
    text) (numbers_in text) (fault_behind title (length (words_of text) == length limits + 1) n
    text) fault h)

not_read : {A : Type 0} (read : ℕ → List ℕ → Result A ListingFault) (n : ℕ) (text own : List ℕ)
    (a : A) (fault : ListingFault) → text ≡ own → read n own ≡ Ok a → read n text ≡ Err fault → ⊥
not_read {A} read n text own a fault is back h =
    not_both (read n text) a fault (subst (λ (t : List ℕ). read n t ≡ Ok a) (sym is) back) h

pub section1_err : (n : ℕ) (text : List ℕ) (fault : ListingFault)
    → read_numbers (codes "section1") section1_limits n text ≡ Err fault
    → (CouldBeAt at_section1 text → ⊥) × IsFaultOf (IsOfKindAt at_section1 text) n fault
section1_err n text fault h = (
  λ could.
      not_read (read_numbers (codes "section1") section1_limits) n text (section1_line could.0)
      (section1_numbers could.0) fault could.2
      (section1_back n could.0 could.1) h,
  numbers_err (codes "section1") section1_limits n text fault h,
)

pub time_err : (n : ℕ) (text : List ℕ) (fault : ListingFault)
    → read_numbers (codes "time") time_limits n text ≡ Err fault
    → (CouldBeAt at_time text → ⊥) × IsFaultOf (IsOfKindAt at_time text) n fault
time_err n text fault h = (
  λ could.
      not_read (read_numbers (codes "time") time_limits) n text (time_line could.0)
      (time_numbers could.0) fault could.2
      (time_back n could.0 could.1) h,
  numbers_err (codes "time") time_limits n text fault h,
)

pub message_err : (n : ℕ) (text : List ℕ) (fault : ListingFault)
    → read_word (codes "message") n text ≡ Err fault
    → (CouldBeAt at_message text → ⊥) × IsFaultOf (IsOfKindAt at_message text) n fault
message_err n text fault h = let p = word_err (codes "message") n text fault h in
    (not_title text (codes "message") p.0, other_kind ⊥ n fault (λ k. k) p.1)

-- ---- lines of octets

octets_err : (title : List ℕ) (n : ℕ) (text : List ℕ) (fault : ListingFault)
    → read_octets title (length (words_of text) == 2) n text ≡ Err fault
    → IsFaultOf (HasWords title 2 text) n fault
octets_err title n text fault h =
    behind_fault (length (words_of text) ≡ 2) title (length (words_of text) == 2) n text fault
    (eqb-true (length (words_of text)) 2) (eq-eqb (length (words_of text)) 2)
    (if_err _ _ (fault_behind title (length (words_of text) == 2) n text) fault h)

local_read : (n : ℕ) (text octets : List ℕ) (fault : ListingFault) → AreOctets octets
    → 0 < length octets → text ≡ octets_line (codes "local1") octets → read_local n text
    ≡ Err fault → ⊥
local_read n text [] fault fit some is h = absurd (omega (arith, some))
local_read n text (x ∷ xs) fault fit some is h =
    not_read read_local n text (octets_line (codes "local1") (x ∷ xs)) (x ∷ xs) fault is
    (local_back n x xs fit) h

pub local_err : (n : ℕ) (text : List ℕ) (fault : ListingFault) → read_local n text ≡ Err fault
    → (IsLocal text → ⊥) × IsFaultOf (HasWords (codes "local1") 2 text) n fault
local_err n text fault h = (
  λ could. local_read n text could.0 fault could.1 could.2 could.3 h,
  octets_err (codes "local1") n text fault h,
)

if_read : {A : Type 0} (b : Bool) (x : A) (r : Result A ListingFault) (fault : ListingFault)
    → (if b then Ok x else r) ≡ Err fault → r ≡ Err fault
if_read true x r fault h = absurd cc
if_read false x r fault h = h

pub section2_err : (n : ℕ) (text : List ℕ) (fault : ListingFault) → read_section2 n text
    ≡ Err fault → (IsSection2 text → ⊥) × IsFaultOf (HasWords (codes "section2") 2 text) n fault
section2_err n text fault h = (
  λ could. not_read read_section2 n text (section2_line could.0) could.0 fault could.2
      (section2_back n could.0 could.1) h,
  octets_err (codes "section2") n text fault (if_read (bytes_eq text (codes "section2")) []
      (read_octets (codes "section2") (length (words_of text) == 2) n text) fault h),
)

-- ---- flags

if_none_of_four : {A F : Type 0} (a b c d : Bool) (w x y z : A) (e fault : F)
    → (if a then Ok w else if b then Ok x else if c then Ok y else if d then Ok z else Err e)
    ≡ Err fault → e ≡ fault
if_none_of_four true b c d w x y z e fault h = absurd cc
if_none_of_four false true c d w x y z e fault h = absurd cc
if_none_of_four false false true d w x y z e fault h = absurd cc
if_none_of_four false false false true w x y z e fault h = absurd cc
if_none_of_four {A} false false false false w x y z e fault h = err_is {A = A} e fault h

pub flags_err : (n : ℕ) (text : List ℕ) (fault : ListingFault) → read_flags n text ≡ Err fault
    → (IsFlags text → ⊥) × IsFaultOf (HasWordsOfFlags text) n fault
flags_err n text fault h = (
  λ could. not_read read_flags n text (flags_line could.0 could.1)
      (record { observed = could.0; compressed = could.1 }) fault could.2
      (flags_back n could.0 could.1) h,
  behind_fault (length (words_of text) ≤ 3) (codes "flags") (nat_le (length (words_of text)) 3) n
      text fault
      (leb-true (length (words_of text)) 3) (le-leb (length (words_of text)) 3)
      (if_none_of_four (bytes_eq text (flags_line false false))
      (bytes_eq text (flags_line true false)) (bytes_eq text (flags_line false true))
      (bytes_eq text (flags_line true true)) _ _ _ _
      (fault_behind (codes "flags") (nat_le (length (words_of text)) 3) n text) fault h),
)

-- ---- descriptors

pub data DescriptorsErr (tables : Entries) (n : ℕ) (text : List ℕ) (fault : ListingFault) : Type 0
  where
    no_line : (CouldBeAt at_descriptors text → ⊥) → fault ≡ BadLine n
        → DescriptorsErr tables n text fault
    no_template : (ds : List ℕ) (why : TemplateFault) → AreOfLine text ds → template tables ds
        ≡ Err why → fault ≡ Refused n (causes.Template why) → DescriptorsErr tables n text fault

no_template_of : (tables : Entries) (n : ℕ) (text ds : List ℕ) (fault : ListingFault)
    (r : Result Tree TemplateFault) → AreOfLine text ds → template tables ds ≡ r
    → described n ds r ≡ Err fault → DescriptorsErr tables n text fault
no_template_of tables n text ds fault (Ok tree) line is h = absurd cc
no_template_of tables n text ds fault (Err why) line is h =
    no_template ds why line is
    (sym (err_is {A = Described} (Refused n (causes.Template why)) fault h))

descriptors_by : (b : Bool) → DescriptorTexts → (tables : Entries) (n : ℕ) (text : List ℕ)
    (fault : ListingFault)
    → (not (length (descriptors_in text) == 0) && bytes_eq
    (descriptors_line (descriptors_in text)) text) ≡ b
    → (if b then described n (descriptors_in text) (template tables (descriptors_in text)) else
    Err (BadLine n)) ≡ Err fault → DescriptorsErr tables n text fault
descriptors_by true laws tables n text fault is h =
    let q = and_parts (not (length (descriptors_in text) == 0))
    (bytes_eq (descriptors_line (descriptors_in text)) text) is in
    let line : AreOfLine text (descriptors_in text) = (
      not_empty (descriptors_in text) q.0,
      All-from_recursion (λ d. d < 2 ^ 16) (descriptors_in text)
          (descriptors_small laws (drop 1 (words_of text))),
      sym (bytes_same (descriptors_line (descriptors_in text)) text q.1),
    ) in
    no_template_of tables n text (descriptors_in text) fault
    (template tables (descriptors_in text)) line refl h
descriptors_by false laws tables n text fault is h =
    no_line
    (λ could.
    let own =
    subst (λ (t : List ℕ). (not (length (descriptors_in t) == 0) && bytes_eq
    (descriptors_line (descriptors_in t)) t) ≡ true) (sym could.1.2)
    (descriptors_pass laws could.0 could.1.0 could.1.1) in
    let both : true ≡ false = sym own ∙ is in
    cc)
    (sym (err_is {A = Described} (BadLine n) fault h))

pub descriptors_err : DescriptorTexts → (tables : Entries) (n : ℕ) (text : List ℕ)
    (fault : ListingFault) → read_descriptors tables n text ≡ Err fault
    → DescriptorsErr tables n text fault
descriptors_err laws tables n text fault h =
    descriptors_by (not (length (descriptors_in text) == 0) && bytes_eq
    (descriptors_line (descriptors_in text)) text) laws tables n text fault refl h

-- ---- lines that a message may lack

-- the lines read up to a place, and those left
pub record UpTo (ls : List Line) (lines : List (List ℕ)) (mid : List Line) : Type 0 where
  pub own : List Line
  pub in_order : ls ≡ own ++ mid
  pub spelled : texts own ≡ lines

pub go_on : (ls mid front rest : List Line) (lines more : List (List ℕ)) → UpTo ls lines mid
    → mid ≡ front ++ rest → texts front ≡ more → UpTo ls (lines ++ more) rest
go_on ls mid front rest lines more u e is =
    record {
      own = u.own ++ front;
      in_order = u.in_order ∙ ap (λ xs. u.own ++ xs) e ∙ sym (append_assoc u.own front rest);
      spelled = map-append (λ (l : Line). l.text) u.own front ∙ (λ i. u.spelled i ++ is i);
    }

-- the fault of the next line at a place
pub at_place : {A : Type 0} (tables : Entries) (past : ℕ) (ls : List Line) (fault : ListingFault)
    (place : Place) (read : ℕ → List ℕ → Result A ListingFault) (lines : List (List ℕ))
    (mid : List Line)
    → UpTo ls lines mid → AreBefore place lines
    → ((l : Line) (behind : List Line) → mid ≡ l ∷ behind → read l.number l.text ≡ Err fault
    → (CouldBeAt place l.text → ⊥) × IsFaultOf (IsOfKindAt place l.text) l.number fault)
    → read_line read past mid ≡ Err fault → MessageFault tables past ls fault
at_place tables past ls fault place read lines mid u before each h =
    let stand : AreBefore place (texts u.own) =
    subst (λ (ts : List (List ℕ)). AreBefore place ts) (sym u.spelled) before in
    elim (line_err read past mid fault h) [
      | inl none ↦ in_heading place u.own mid u.in_order stand (text_ends none.0 none.1)
      | inr some ↦
          let p = each some.0 some.1 some.2 some.3 in
          in_heading place u.own mid u.in_order stand
          (unfit_line (CouldBeAt place) (IsOfKindAt place) past mid fault some.0 some.1 some.2
          p.0 p.1)
    ]

pub record IfErr {A : Type 0} (title : List ℕ) (read : ℕ → List ℕ → Result A ListingFault)
    (ls : List Line) (fault : ListingFault) : Type 0 where
  pub line : Line
  pub behind : List Line
  pub front : ls ≡ line ∷ behind
  pub titled : first_word line.text ≡ title
  pub fails : read line.number line.text ≡ Err fault

pub if_err_at : {A : Type 0} (title : List ℕ) (read : ℕ → List ℕ → Result A ListingFault)
    (ls : List Line) (fault : ListingFault) → read_if title read ls ≡ Err fault
    → IfErr title read ls fault
if_err_at title read [] fault h = absurd cc
if_err_at {A} title read (l ∷ ls) fault h =
    elim (cases_Bool (bytes_eq (first_word l.text) title)) [
      | inl is ↦
          let g = rw (is) at h in
          elim (bind_err (read l.number l.text) (λ a. with_rest ls (Some a)) fault g) [
            | inl e ↦
                record {
                  line = l;
                  behind = ls;
                  front = refl;
                  titled =
                      bytes_same (first_word l.text) title is;
                  fails = e;
                }
            | inr some ↦ absurd cc
          ]
      | inr other ↦ let g = rw (other) at h in absurd cc
    ]

abbrev pub IsNotTitled : List ℕ → List Line → Type 0
IsNotTitled title ls = (l : Line) (behind : List Line) → ls ≡ l ∷ behind → first_word l.text
    ≡ title → ⊥

pub next_is : (l m : Line) (ls behind : List Line) → l ∷ ls ≡ m ∷ behind → l ≡ m
next_is l m ls behind e = cc

pub if_absent : {A : Type 0} (title : List ℕ) (read : ℕ → List ℕ → Result A ListingFault)
    (ls rest : List Line) → read_if title read ls ≡ Ok (None, rest) → IsNotTitled title ls
if_absent title read [] rest h = λ l behind e. absurd cc
if_absent {A} title read (l ∷ ls) rest h =
    elim (cases_Bool (bytes_eq (first_word l.text) title)) [
      | inl is ↦
          let g = rw (is) at h in
          let k = bind_ok (read l.number l.text) (λ a. with_rest ls (Some a)) (None, rest) g in
          let none = sym (ap (λ (x : Option A × List Line). x.0) (ok_is _ _ k.2)) in
          absurd (none-some k.0 none)
      | inr other ↦ λ m behind e titled.
          let same : first_word l.text ≡ title =
          ap (λ (x : Line). first_word x.text) (next_is l m ls behind e) ∙ titled in
          not_title (first_word l.text) title other same
    ]

-- ---- first words

local_titled : (text : List ℕ) → IsLocal text → first_word text ≡ codes "local1"
local_titled text could = by could.0 could.2 could.3
  where
    by : (octets : List ℕ) → 0 < length octets → text ≡ octets_line (codes "local1") octets
        → first_word text ≡ codes "local1"
    by [] some is = absurd (omega (arith, some))
    by (x ∷ xs) some is =
        ap first_word is ∙ bytes_same (first_word (octets_line (codes "local1") (x ∷ xs)))
        (codes "local1") refl

section2_titled_by : (octets : List ℕ) → first_word (section2_line octets) ≡ codes "section2"
section2_titled_by [] = refl
section2_titled_by (x ∷ xs) =
    bytes_same (first_word (section2_line (x ∷ xs))) (codes "section2") refl

section2_is_titled : (text : List ℕ) → IsSection2 text → first_word text ≡ codes "section2"
section2_is_titled text could = ap first_word could.2 ∙ section2_titled_by could.0

flags_titled_by : (observed compressed : Bool) → first_word (flags_line observed compressed)
    ≡ codes "flags"
flags_titled_by false false = refl
flags_titled_by true false = refl
flags_titled_by false true = refl
flags_titled_by true true = refl

flags_titled : (text : List ℕ) → IsFlags text → first_word text ≡ codes "flags"
flags_titled text could = ap first_word could.2 ∙ flags_titled_by could.0 could.1

two_words : (text a b : List ℕ) → bytes_eq a b ≡ false → first_word text ≡ a → first_word text ≡ b
    → ⊥
two_words text a b other is also = not_title a b other (sym is ∙ also)

first_of : {A B : Type 0} → A ⊎ B → (B → ⊥) → A
first_of (inl a) none = a
first_of (inr b) none = absurd (none b)

second_of : {A B : Type 0} → A ⊎ B → (A → ⊥) → B
second_of (inl a) none = absurd (none a)
second_of (inr b) none = b

pub local_at : (l : Line) (fault : ListingFault) → first_word l.text ≡ codes "local1"
    → read_local l.number l.text ≡ Err fault
    → (CouldBeAt behind_time l.text → ⊥) × IsFaultOf (IsOfKindAt behind_time l.text) l.number fault
local_at l fault titled h =
    let p = local_err l.number l.text fault h in
    let no_two = two_words l.text (codes "local1") (codes "section2") refl titled in
    let no_flags = two_words l.text (codes "local1") (codes "flags") refl titled in (
      λ could. p.0 (first_of could (λ others. no_flags (flags_titled l.text
          (second_of others (λ two. no_two (section2_is_titled l.text two)))))),
      same_kind_of (HasWords (codes "local1") 2 l.text) (IsOfKindAt behind_time l.text) l.number
          fault (λ k. inl k)
          (λ kind. first_of kind (λ others. no_flags (second_of others (λ two. no_two two.0)).0))
          p.1,
    )

-- the place after the lines read
abbrev pub place_behind : Option (List ℕ) → Option (List ℕ) → Place
place_behind None None = behind_time
place_behind (Some octets) None = behind_local
place_behind local (Some octets) = behind_section2

pub section2_at : (local : Option (List ℕ)) (l : Line) (fault : ListingFault) → first_word l.text
    ≡ codes "section2" → read_section2 l.number l.text ≡ Err fault
    → (CouldBeAt (place_behind local None) l.text → ⊥) × IsFaultOf
    (IsOfKindAt (place_behind local None) l.text) l.number fault
section2_at None l fault titled h =
    let p = section2_err l.number l.text fault h in
    let no_local = two_words l.text (codes "section2") (codes "local1") refl titled in
    let no_flags = two_words l.text (codes "section2") (codes "flags") refl titled in (
      λ could. p.0 (first_of (second_of could (λ local. no_local (local_titled l.text local)))
          (λ flags. no_flags (flags_titled l.text flags))),
      same_kind_of (HasWords (codes "section2") 2 l.text) (IsOfKindAt behind_time l.text) l.number
          fault (λ k. inr (inl k))
          (λ kind. first_of (second_of kind (λ local. no_local local.0))
          (λ flags. no_flags flags.0)) p.1,
    )
section2_at (Some octets) l fault titled h =
    let p = section2_err l.number l.text fault h in
    let no_flags = two_words l.text (codes "section2") (codes "flags") refl titled in (
      λ could. p.0 (first_of could (λ flags. no_flags (flags_titled l.text flags))),
      same_kind_of (HasWords (codes "section2") 2 l.text) (IsOfKindAt behind_local l.text)
          l.number fault (λ k. inl k) (λ kind. first_of kind (λ flags. no_flags flags.0)) p.1,
    )

pub flags_at : (local two : Option (List ℕ)) (l : Line) (fault : ListingFault)
    → (local ≡ None → two ≡ None → first_word l.text ≡ codes "local1" → ⊥)
    → (two ≡ None → first_word l.text ≡ codes "section2" → ⊥)
    → read_flags l.number l.text ≡ Err fault
    → (CouldBeAt (place_behind local two) l.text → ⊥) × IsFaultOf
    (IsOfKindAt (place_behind local two) l.text) l.number fault
flags_at None None l fault no_local no_two h =
    let p = flags_err l.number l.text fault h in (
      λ could. p.0 (second_of
          (second_of could (λ local. no_local refl refl (local_titled l.text local)))
          (λ two. no_two refl (section2_is_titled l.text two))),
      same_kind_of (HasWordsOfFlags l.text) (IsOfKindAt behind_time l.text) l.number fault
          (λ k. inr (inr k))
          (λ kind. second_of (second_of kind (λ local. no_local refl refl local.0))
          (λ two. no_two refl two.0)) p.1,
    )
flags_at (Some octets) None l fault no_local no_two h =
    let p = flags_err l.number l.text fault h in (
      λ could. p.0 (second_of could (λ two. no_two refl (section2_is_titled l.text two))),
      same_kind_of (HasWordsOfFlags l.text) (IsOfKindAt behind_local l.text) l.number fault
          (λ k. inr k) (λ kind. second_of kind (λ two. no_two refl two.0)) p.1,
    )
flags_at None (Some two) l fault no_local no_two h = flags_err l.number l.text fault h
flags_at (Some octets) (Some two) l fault no_local no_two h = flags_err l.number l.text fault h
