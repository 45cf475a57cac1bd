-- The listing of a message, subset by subset and field by field: for `print_fields` and
-- `print_listing`, and so for `run_show`.
use Rattle.std.proofs.Common.{◌≡◌, ℕ, ◌+◌, ◌<◌, ◌≤◌, false, List, [], ◌∷◌, ◌++◌}
use Rattle.std.proofs.Common.{length, take, drop, Some, Result, Ok, Err, refl, sym, ap, ◌∙◌, subst}
use Rattle.std.proofs.Common.{append_assoc, length-append, take-append-drop, arith, ◌^◌}
use Rattle.std.specs.Prelude.{slice_get}
use Rattle.std.specs.List.{flat_map}
use Rattle.std.proofs.Math.Seq.{take-length}
use Rattle.std.proofs.lemmas.List.{append-nil, flat_map_more, take_more}
use Rattle.std.proofs.lemmas.Grind.{flat_map-append}
use Rattle.std.proofs.lemmas.List.Elements.{All-from_recursion, All-get_or}
use Rattle.std.proofs.lemmas.Option.{get_or_from_slice_get, slice_get_within}
use Rattle.bufr_bits.specs.Devices.{Writing}
use Rattle.bufr_listing.specs.Listings.{line, joined, heading_lines, subset_line}
use Rattle.bufr_listing.specs.Listings.{subset_lines, field_line, end_line, listing}
use Rattle.bufr_message.specs.declared.Field.{Field}
use Rattle.bufr_message.specs.declared.Message.{Message}
use Rattle.bufr_message.specs.declared.Subset.{Subset}
use Rattle.bufr_io.specs.declared.fault.ToolFault.{ToolFault}
use Rattle.bufr_engines.specs.declared.printer.Printer.{Printer}
use Rattle.bufr_io.specs.Lines.{AreWholeLines}
use Rattle.bufr_engines.specs.Output.{fields_text}
use Rattle.bufr_engines.specs.ShortListings.{HasShortListing}
use Rattle.bufr_engines.specs.StreamEngines.{Adds, WritesAllBut}
use Rattle.bufr_engines.proofs.LineFacts.{both_whole, fields_whole, joined_whole, line_whole}
use Rattle.bufr_engines.proofs.PartFacts.{adds_longer, adds_then, but_all, counted_all}

-- the lines before the first subset
abbrev heading_text : Message → List ℕ
heading_text m = joined (heading_lines m)

-- the lines before the first subset and those of the first `count` subsets
abbrev pub listed : Message → ℕ → List ℕ
listed m count = heading_text m ++ flat_map (λ s. joined (subset_lines s)) (take count m.subsets)

-- the rest of the listing
abbrev pub unlisted : Message → ℕ → List ℕ
unlisted m count = flat_map (λ s. joined (subset_lines s)) (drop count m.subsets) ++ line end_line

-- the law of the parts of a listing, for one message
abbrev pub IsJoined : Message → Type 0
IsJoined m =
    listing m ≡ heading_text m ++ flat_map (λ s. joined (subset_lines s)) m.subsets ++ line end_line

pub listing_parted : (m : Message) (count : ℕ) → IsJoined m
    → listing m ≡ listed m count ++ unlisted m count
listing_parted m count is_joined =
    let heading = heading_text m in
    let here = flat_map (λ s. joined (subset_lines s)) (take count m.subsets) in
    let there = flat_map (λ s. joined (subset_lines s)) (drop count m.subsets) in
    let parts : flat_map (λ s. joined (subset_lines s)) m.subsets ≡ here ++ there =
    sym (ap (flat_map (λ s. joined (subset_lines s))) (take-append-drop count m.subsets))
    ∙ flat_map-append (λ s. joined (subset_lines s)) (take count m.subsets)
    (drop count m.subsets) in
    is_joined ∙ ap (λ (t : List ℕ). (heading ++ t) ++ line end_line) parts
    ∙ ap (λ (t : List ℕ). t ++ line end_line) (sym (append_assoc heading here there))
    ∙ append_assoc (heading ++ here) there (line end_line)

pub listing_ended : (m : Message) (count : ℕ) → count ≡ length m.subsets → IsJoined m
    → listing m ≡ listed m count ++ line end_line
listing_ended m count all is_joined =
    is_joined
    ∙ ap (λ ss. heading_text m ++ flat_map (λ s. joined (subset_lines s)) ss ++ line end_line)
    (sym (ap (λ n. take n m.subsets) all ∙ take-length m.subsets))

one_more : {A : Type 0} (f : A → List ℕ) (xs : List A) (i : ℕ) (x : A) (before : List ℕ)
    → i < length xs → slice_get xs i ≡ Some x
    → before ++ flat_map f (take (i + 1) xs) ≡ (before ++ flat_map f (take i xs)) ++ f x
one_more f xs i x before below at =
    ap (λ ys. before ++ flat_map f ys)
    (take_more xs i x below ∙ ap (λ y. take i xs ++ y ∷ [])
    (get_or_from_slice_get xs i x x at))
    ∙ sym (flat_map_more f before (take i xs) x)

listed_more : (m : Message) (i : ℕ) (s : Subset) → slice_get m.subsets i ≡ Some s
    → listed m (i + 1) ≡ listed m i ++ joined (subset_lines s)
listed_more m i s at =
    one_more (λ s. joined (subset_lines s)) m.subsets i s (heading_text m)
    (slice_get_within m.subsets i s at) at

pub heading_added : (m : Message) (p : Printer) (held : List ℕ) (w : Writing)
    → held ≡ p.held.items ++ heading_text m → AreWholeLines p.held.items → w.failed ≡ false
    → WritesAllBut held (p.held.items ++ listed m 0) p.written p.written w w
heading_added m p held w grown whole works =
    but_all held (p.held.items ++ listed m 0) p.written w
    (ap (λ (t : List ℕ). p.held.items ++ t) (append-nil _) ∙ sym grown)
    (subst AreWholeLines (sym grown)
    (both_whole p.held.items (heading_text m) whole (joined_whole (heading_lines m))))
    works

-- ---- subset by subset

pub lines_at : (m : Message) → HasShortListing m → (i : ℕ) (s : Subset)
    → slice_get m.subsets i ≡ Some s → length (joined (subset_lines s)) < 2 ^ 40
lines_at m listed i s at =
    subst (λ s. length (joined (subset_lines s)) < 2 ^ 40) (get_or_from_slice_get m.subsets i s s at)
    (All-get_or (λ s. length (joined (subset_lines s)) < 2 ^ 40) m.subsets i s
    (slice_get_within m.subsets i s at)
    (All-from_recursion (λ s. length (joined (subset_lines s)) < 2 ^ 40) m.subsets listed.short))

pub subset_few : (m : Message) → HasShortListing m → (i : ℕ) (s : Subset) (q p' : Printer)
    (mid last : Writing) (done : Unit {0}) → slice_get m.subsets i ≡ Some s
    → Adds (joined (subset_lines s)) q p' mid last (Ok done)
    → p'.written + length p'.held.items
    < q.written + length q.held.items + 2 ^ 40
subset_few m listed i s q p' mid last done at added =
    let counted = counted_all _ _ _ _ _ _ added in
    omega (
      arith,
      counted,
      lines_at m listed i s at,
      length-append q.held.items (joined (subset_lines s)),
    )

pub subset_more : (m : Message) (i : ℕ) (s : Subset) (p q p' : Printer) (first mid last : Writing)
    (done : Unit {0}) → slice_get m.subsets i ≡ Some s
    → WritesAllBut q.held.items (p.held.items ++ listed m i) p.written q.written
    first mid
    → Adds (joined (subset_lines s)) q p' mid last (Ok done)
    → WritesAllBut p'.held.items (p.held.items ++ listed m (i + 1)) p.written
    p'.written first last
subset_more m i s p q p' first mid last done at w a =
    subst
    (λ (t : List ℕ). WritesAllBut p'.held.items (p.held.items ++ t) p.written
    p'.written first last)
    (sym (listed_more m i s at))
    (adds_then (listed m i) (joined (subset_lines s)) p q p' first mid last (Ok done)
    (joined_whole (subset_lines s)) w a)

pub subset_stopped : (m : Message) (i : ℕ) (s : Subset) (p q p' : Printer)
    (first mid last : Writing) (e : ToolFault) → slice_get m.subsets i ≡ Some s
    → IsJoined m
    → WritesAllBut q.held.items (p.held.items ++ listed m i) p.written q.written
    first mid
    → Adds (joined (subset_lines s)) q p' mid last (Err e)
    → Adds (listing m) p p' first last (Err e)
subset_stopped m i s p q p' first mid last e at is_joined w a =
    adds_longer (listed m i ++ joined (subset_lines s)) (unlisted m (i + 1)) (listing m) p p' first
    last e
    (listing_parted m (i + 1) is_joined
    ∙ ap (λ (t : List ℕ). t ++ unlisted m (i + 1)) (listed_more m i s at))
    (adds_then (listed m i) (joined (subset_lines s)) p q p' first mid last (Err e)
    (joined_whole (subset_lines s)) w a)

-- ---- field by field

-- the law of the lines of a subset, for these fields
abbrev pub IsLined : List Field → Type 0
IsLined fields =
    joined (subset_lines (record { fields = fields }))
    ≡ line subset_line ++ [] ++ fields_text fields

subset_text : (fields : List Field) → IsLined fields
    → joined (subset_lines (record { fields = fields })) ≡ line subset_line ++ fields_text fields
subset_text fields lined =
    lined ∙ ap (λ (t : List ℕ). t ++ fields_text fields) (append-nil (line subset_line))

pub fields_few : (m : Message) → HasShortListing m → (i : ℕ) (fields : List Field)
    → slice_get m.subsets i ≡ Some (record { fields = fields }) → IsLined fields
    → length (line subset_line) + length (fields_text fields) < 2 ^ 40
fields_few m listed i fields at lined =
    let short = lines_at m listed i (record { fields = fields }) at in
    let whole = ap length (subset_text fields lined) in
    omega (arith, short, whole, length-append (line subset_line) (fields_text fields))

pub subset_added : (fields : List Field) (p q p' : Printer) (first mid last : Writing)
    (r : Result (Unit {0}) ToolFault) → IsLined fields
    → WritesAllBut q.held.items (p.held.items ++ line subset_line) p.written q.written first mid
    → Adds (fields_text fields) q p' mid last r
    → Adds (joined (subset_lines (record { fields = fields }))) p p' first last r
subset_added fields p q p' first mid last r lined one more =
    subst (λ (t : List ℕ). Adds t p p' first last r) (sym (subset_text fields lined))
    (adds_then (line subset_line) (fields_text fields) p q p' first mid last r (fields_whole fields)
    one more)

-- has added the lines of the fields handed out; with the lines of the fields left they are the
-- lines of all
pub record AmidFields (all left : List Field) (p p' : Printer) (first now : Writing) : Type 0 where
  pub text : List ℕ
  pub parted : fields_text all ≡ text ++ fields_text left
  pub added : WritesAllBut p'.held.items (p.held.items ++ text) p.written p'.written
      first now

pub amid_fields : (all : List Field) (p : Printer) (w : Writing) → AreWholeLines p.held.items
    → w.failed ≡ false → AmidFields all all p p w w
amid_fields all p w whole works = record {
  text = [];
  parted = refl;
  added = but_all p.held.items (p.held.items ++ []) p.written w (append-nil p.held.items)
      whole works;
}

field_parted : (all left left' : List Field) (field : Field) (text : List ℕ)
    → left ≡ field ∷ left' → fields_text all ≡ text ++ fields_text left
    → fields_text all ≡ (text ++ line (field_line field)) ++ fields_text left'
field_parted all left left' field text is parted =
    parted ∙ ap (λ fs. text ++ fields_text fs) is
    ∙ sym (append_assoc text (line (field_line field)) (fields_text left'))

pub field_more : (all left left' : List Field) (field : Field) (p q p' : Printer)
    (first mid last : Writing) (done : Unit {0}) → left ≡ field ∷ left'
    → AmidFields all left p q first mid → Adds (line (field_line field)) q p' mid last (Ok done)
    → AmidFields all left' p p' first last
field_more all left left' field p q p' first mid last done is a added =
    let here = line (field_line field) in
    record {
      text = a.text ++ here;
      parted = field_parted all left left' field a.text is a.parted;
      added = adds_then a.text here p q p' first mid last (Ok done)
          (line_whole (field_line field)) a.added added;
    }

pub field_stopped : (all left left' : List Field) (field : Field) (p q p' : Printer)
    (first mid last : Writing) (e : ToolFault) → left ≡ field ∷ left'
    → AmidFields all left p q first mid → Adds (line (field_line field)) q p' mid last (Err e)
    → Adds (fields_text all) p p' first last (Err e)
field_stopped all left left' field p q p' first mid last e is a added =
    let here = line (field_line field) in
    adds_longer (a.text ++ here) (fields_text left') (fields_text all) p p' first last e
    (field_parted all left left' field a.text is a.parted)
    (adds_then a.text here p q p' first mid last (Err e) (line_whole (field_line field)) a.added
    added)

pub amid_few : (all left : List Field) (p q : Printer) (first mid : Writing)
    → AmidFields all left p q first mid
    → q.written + length q.held.items
    ≤ p.written + length p.held.items + length (fields_text all)
amid_few all left p q first mid a =
    let counted = counted_all _ _ _ _ _ _ a.added in
    let whole = ap length a.parted in
    omega (
      arith,
      counted,
      whole,
      length-append p.held.items a.text,
      length-append a.text (fields_text left),
    )

pub fields_done : (all left : List Field) (p q : Printer) (first mid : Writing) → left ≡ []
    → AmidFields all left p q first mid
    → WritesAllBut q.held.items (p.held.items ++ fields_text all) p.written
    q.written first mid
fields_done all left p q first mid none a =
    subst
    (λ (t : List ℕ). WritesAllBut q.held.items (p.held.items ++ t) p.written
    q.written first mid)
    (sym (a.parted ∙ ap (λ fs. a.text ++ fields_text fs) none ∙ append-nil a.text)) a.added
