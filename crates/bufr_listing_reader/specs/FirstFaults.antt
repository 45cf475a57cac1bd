-- Why a text is no listing: its first fault by lines. The lines before it and what could follow
-- them decide it.
use Rattle.std.specs.Prelude.{◌≡◌, ◌⊎◌, ℕ, ◌+◌, ◌<◌, ◌≤◌, ◌^◌, Bool, List, [], ◌∷◌, ◌++◌, length}
use Rattle.std.specs.Prelude.{map, take, codes, Option, All, IfSome}
use Rattle.std.specs.List.{flat_map, AllByRecursion}
use Rattle.std.specs.Str.Lines.{lines}
use Rattle.bufr_tables.specs.Descriptors.{six_digits}
use Rattle.bufr_tables.specs.Entries.{Entries}
use Rattle.bufr_expand.specs.declared.node.TemplateFault.{TemplateFault}
use Rattle.bufr_expand.specs.declared.operators.Spec.{Spec}
use Rattle.bufr_expand.specs.declared.walk.WalkFault.{WalkFault}
use Rattle.bufr_expand.specs.declared.walk.WalkFault.TheVariants.{TooLarge, EffectiveRange}
use Rattle.bufr_expand.specs.FirstFaults.{IsFirstFault}
use Rattle.bufr_expand.specs.Flat.{IsTreeOf}
use Rattle.bufr_expand.specs.Trees.{Tree}
use Rattle.bufr_expand.specs.NextFields.{wants, lacks, BeginsWithin, PassesLimit}
use Rattle.bufr_fields.specs.declared.field.Field.{Field}
use Rattle.bufr_fields.specs.declared.field.Subset.{Subset}
use Rattle.bufr_fields.specs.Fits.{told_of, AllFitWithin}
use Rattle.bufr_fields.specs.Asked.{IsAsked, Begin}
use Rattle.bufr_sections.specs.declared.message.Head.{Head}
use Rattle.bufr_sections.specs.declared.message.Message.{Message}
use Rattle.bufr_sections.specs.Sections.{AreOctets, HeadFits}
use Rattle.bufr_listing.specs.declared.fault.Cause.TheVariants as causes
use Rattle.bufr_listing.specs.declared.fault.ListingFault.{ListingFault}
use Rattle.bufr_listing.specs.declared.fault.ListingFault.TheVariants.{BadLine, BadValue, Refused}
use Rattle.bufr_listing.specs.Listings.{octets_line, section1_line, time_line, local_lines}
use Rattle.bufr_listing.specs.Listings.{section2_line, section2_lines, flags_line}
use Rattle.bufr_listing.specs.Listings.{descriptors_line, field_line, subset_lines, lines_of}
use Rattle.bufr_listing_reader.specs.Lines.{Line, texts, words_of, first_word, counting_lines, CanBeListed}

-- ---- the next line

-- the next line could not follow, or there is none: L1 with `past` if the text ends, L2 if the line
-- has a kind that could follow, else L1. `past` is the number after the last line's
pub data Unfit (Could IsOfKind : List ℕ → Type 0) (past : ℕ) (rest : List Line)
    (fault : ListingFault) : Type 0 where
  text_ends : rest ≡ [] → fault ≡ BadLine past → Unfit Could IsOfKind past rest fault
  bad_line : (l : Line) (behind : List Line) → rest ≡ l ∷ behind → (Could l.text → ⊥)
      → (IsOfKind l.text → ⊥) → fault ≡ BadLine l.number → Unfit Could IsOfKind past rest fault
  bad_value : (l : Line) (behind : List Line) → rest ≡ l ∷ behind → (Could l.text → ⊥)
      → IsOfKind l.text → fault ≡ BadValue l.number → Unfit Could IsOfKind past rest fault

-- nothing can follow, whatever the next line: L3 at this line, or L1 if the text ends
pub data Halted (why : WalkFault) (past : ℕ) (rest : List Line) (fault : ListingFault)
    : Type 0 where
  text_ends : rest ≡ [] → fault ≡ BadLine past → Halted why past rest fault
  halted : (l : Line) (behind : List Line) → rest ≡ l ∷ behind
      → fault ≡ Refused l.number (causes.Walk why) → Halted why past rest fault

-- ---- the lines before the first subset

-- a place in a heading
pub data Place : Type 0 where
  at_message : Place
  at_section1 : Place
  at_time : Place
  behind_time : Place
  behind_local : Place
  behind_section2 : Place
  at_descriptors : Place

-- the lines up to the time
abbrev pub up_to_time : Head → List (List ℕ)
up_to_time h = codes "message" ∷ section1_line h ∷ time_line h ∷ []

-- the lines up to the octets for local use of section 1
abbrev pub up_to_local : Head → List (List ℕ)
up_to_local h = up_to_time h ++ local_lines h.local

-- the lines before a place are those of some head with its numbers in range
abbrev pub AreBefore : Place → List (List ℕ) → Type 0
AreBefore at_message ls = ls ≡ []
AreBefore at_section1 ls = ls ≡ codes "message" ∷ []
AreBefore at_time ls = (h : Head) × HeadFits h × (ls ≡ codes "message" ∷ section1_line h ∷ [])
AreBefore behind_time ls = (h : Head) × HeadFits h × (ls ≡ up_to_time h)
AreBefore behind_local ls =
    (h : Head) × HeadFits h × (0 < length h.local) × (ls ≡ up_to_local h)
AreBefore behind_section2 ls =
    (h : Head) × HeadFits h × (two : List ℕ) × AreOctets two
    × (ls ≡ up_to_local h ++ section2_line two ∷ [])
AreBefore at_descriptors ls =
    (h : Head) × HeadFits h × (two : Option (List ℕ)) × IfSome two AreOctets
    × (observed : Bool) × (compressed : Bool)
    × (ls ≡ up_to_local h ++ (section2_lines two ++ flags_line observed compressed ∷ []))

-- a line of octets for local use of section 1
abbrev pub IsLocal : List ℕ → Type 0
IsLocal text = (octets : List ℕ) × AreOctets octets × (0 < length octets)
    × (text ≡ octets_line (codes "local1") octets)

-- a line of section 2, with octets or without
abbrev pub IsSection2 : List ℕ → Type 0
IsSection2 text = (octets : List ℕ) × AreOctets octets × (text ≡ section2_line octets)

-- a line of flags
abbrev pub IsFlags : List ℕ → Type 0
IsFlags text = (observed : Bool) × (compressed : Bool) × (text ≡ flags_line observed compressed)

-- a line lists these descriptors
abbrev pub AreOfLine : List ℕ → List ℕ → Type 0
AreOfLine text ds = (0 < length ds) × All (λ d. d < 2 ^ 16) ds × (text ≡ descriptors_line ds)

-- a line could be at a place
abbrev pub CouldBeAt : Place → List ℕ → Type 0
CouldBeAt at_message text = text ≡ codes "message"
CouldBeAt at_section1 text = (h : Head) × HeadFits h × (text ≡ section1_line h)
CouldBeAt at_time text = (h : Head) × HeadFits h × (text ≡ time_line h)
CouldBeAt behind_time text = IsLocal text ⊎ (IsSection2 text ⊎ IsFlags text)
CouldBeAt behind_local text = IsSection2 text ⊎ IsFlags text
CouldBeAt behind_section2 text = IsFlags text
CouldBeAt at_descriptors text = (ds : List ℕ) × AreOfLine text ds

-- a line has this first word and `count` words
abbrev pub HasWords : List ℕ → ℕ → List ℕ → Type 0
HasWords title count text = (first_word text ≡ title) × (length (words_of text) ≡ count)

-- a line has the first word `flags` and at most two words after it
abbrev pub HasWordsOfFlags : List ℕ → Type 0
HasWordsOfFlags text = (first_word text ≡ codes "flags") × (length (words_of text) ≤ 3)

-- a line has the first word and the number of words of one that could be at a place; at the first
-- line and at the descriptors none counts, so a word that is no descriptor is L1
abbrev pub IsOfKindAt : Place → List ℕ → Type 0
IsOfKindAt at_message text = ⊥
IsOfKindAt at_section1 text = HasWords (codes "section1") 9 text
IsOfKindAt at_time text = HasWords (codes "time") 7 text
IsOfKindAt behind_time text =
    HasWords (codes "local1") 2 text ⊎ (HasWords (codes "section2") 2 text ⊎ HasWordsOfFlags text)
IsOfKindAt behind_local text = HasWords (codes "section2") 2 text ⊎ HasWordsOfFlags text
IsOfKindAt behind_section2 text = HasWordsOfFlags text
IsOfKindAt at_descriptors text = ⊥

-- ---- the lines of subsets

-- a line of a field with this descriptor and spec
abbrev pub IsLineOf : ℕ → Spec → List ℕ → Type 0
IsLineOf d spec text = (f : Field) × IsAsked d spec f × (text ≡ field_line f)

-- a line that begins with this descriptor and a space
abbrev pub BeginsWith : ℕ → List ℕ → Type 0
BeginsWith d text = take 7 text ≡ six_digits d ++ 32 ∷ []

-- why neither a field nor the end follows these fields of a subset: another line comes; or the
-- items, with the next field or at the end, pass the message's limit; or the next field has no spec
pub data NoFieldFollows (tree : Tree) (used : ℕ) (before : List Field) (past : ℕ)
    (rest : List Line) (fault : ListingFault) : Type 0 where
  unfit : (d met : ℕ) (spec : Spec)
      → BeginsWithin tree used (map told_of before) (wants d spec) met
      → Unfit (IsLineOf d spec) (BeginsWith d) past rest fault
      → NoFieldFollows tree used before past rest fault
  no_room : PassesLimit tree used (map told_of before) → Halted TooLarge past rest fault
      → NoFieldFollows tree used before past rest fault
  no_spec : (d met : ℕ) → BeginsWithin tree used (map told_of before) (lacks d) met
      → Halted (EffectiveRange d) past rest fault
      → NoFieldFollows tree used before past rest fault

-- the first fault of a subset's fields, after lines of fields with which a subset can begin
pub record FieldsFault (tree : Tree) (used past : ℕ) (ls : List Line) (fault : ListingFault)
    : Type 0 where
  pub before : List Field
  pub own : List Line
  pub rest : List Line
  pub in_order : ls ≡ own ++ rest
  pub spelled : texts own ≡ map field_line before
  pub begin : Begin tree used before
  pub refused : NoFieldFollows tree used before past rest fault

-- a subset begins, or the message ends
abbrev pub BeginsOrEnds : List ℕ → Type 0
BeginsOrEnds text = (text ≡ codes "subset") ⊎ (text ≡ codes "end")

-- a line does neither, or the subset that begins has a fault
pub data SubsetFault (tree : Tree) (used past : ℕ) (rest : List Line) (fault : ListingFault)
    : Type 0 where
  unfit : Unfit BeginsOrEnds (λ text. ⊥) past rest fault → SubsetFault tree used past rest fault
  inside : (l : Line) (behind : List Line) → rest ≡ l ∷ behind → l.text ≡ codes "subset"
      → FieldsFault tree used past behind fault → SubsetFault tree used past rest fault

-- the first fault of subsets, after lines of subsets that fit
pub record SubsetsFault (tree : Tree) (past : ℕ) (ls : List Line) (fault : ListingFault)
    : Type 0 where
  pub before : List Subset
  pub items : ℕ
  pub own : List Line
  pub rest : List Line
  pub in_order : ls ≡ own ++ rest
  pub spelled : texts own ≡ flat_map subset_lines before
  pub fit : AllFitWithin tree 0 before items
  pub refused : SubsetFault tree items past rest fault

-- ---- messages

-- the first fault of a message: at a place of its heading, in its descriptors without a tree, or in
-- its subsets
pub data MessageFault (tables : Entries) (past : ℕ) (ls : List Line) (fault : ListingFault)
    : Type 0 where
  in_heading : (place : Place) (own rest : List Line) → ls ≡ own ++ rest
      → AreBefore place (texts own)
      → Unfit (CouldBeAt place) (IsOfKindAt place) past rest fault
      → MessageFault tables past ls fault
  no_tree : (own : List Line) (l : Line) (rest : List Line) (ds : List ℕ) (why : TemplateFault)
      → ls ≡ own ++ l ∷ rest → AreBefore at_descriptors (texts own) → AreOfLine l.text ds
      → IsFirstFault tables ds why → fault ≡ Refused l.number (causes.Template why)
      → MessageFault tables past ls fault
  in_subsets : (own : List Line) (l : Line) (rest : List Line) (ds : List ℕ) (tree : Tree)
      → ls ≡ own ++ l ∷ rest → AreBefore at_descriptors (texts own) → AreOfLine l.text ds
      → IsTreeOf tables ds tree → SubsetsFault tree past rest fault
      → MessageFault tables past ls fault

-- the first fault of a text: in the message after those that it lists
pub record FirstFault (tables : Entries) (text : List ℕ) (fault : ListingFault) : Type 0 where
  pub before : List Message
  pub own : List Line
  pub rest : List Line
  pub in_order : counting_lines text ≡ own ++ rest
  pub spelled : texts own ≡ flat_map lines_of before
  pub each : AllByRecursion (λ m. CanBeListed tables m) before
  pub begun : 0 < length rest
  pub refused : MessageFault tables (length (lines text) + 1) rest fault
