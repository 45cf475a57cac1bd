-- Any way of adding and merging writes what one `add` of all streams writes: for the law
-- `any_way_writes_the_same`.
use Rattle.std.proofs.Common.{◌≡◌, ℕ, List, [], ◌∷◌, ◌++◌, map, refl, sym, ap, subst, ◌∙◌}
use Rattle.std.specs.List.{AllByRecursion}
use Rattle.bufr_tables.specs.Entries.{Entries}
use Rattle.bufr_sections.specs.Sections.{AreOctets}
use Rattle.bufr_message.specs.Reports.{IsUnder}
use Rattle.bufr_gather.specs.Texts.{text}
use Rattle.bufr_gather.specs.ReportEntries.{AreUnder}
use Rattle.bufr_gather.specs.ReportTexts.{told}
use Rattle.bufr_gather.specs.ReportLaws.{ReportTextsTell}
use Rattle.bufr_gather.specs.StreamsTold.{ReportsToldAreUnder, SameMessagesSameKept}
use Rattle.bufr_gather.specs.StreamsTold.{all_told}
use Rattle.bufr_engines.specs.Collected.{collected_text, AreTextsOf, merged_text}
use Rattle.bufr_engines.specs.Laws.{AreMadeOf, none, by_add, by_merge, all_streams}
use Rattle.bufr_engines.specs.Laws.{AnyWayWritesTheSame}
use Rattle.bufr_engines.proofs.LawFacts.{shared}

all_both : {A : Type 0} (P : A → Type 0) (xs ys : List A)
    → AllByRecursion P xs → AllByRecursion P ys → AllByRecursion P (xs ++ ys)
all_both P [] ys each more = more
all_both P (x ∷ xs) ys each more = (each.0, all_both P xs ys each.1 more)

all_first : {A : Type 0} (P : A → Type 0) (xs ys : List A)
    → AllByRecursion P (xs ++ ys) → AllByRecursion P xs
all_first P [] ys each = tt
all_first P (x ∷ xs) ys each = (each.0, all_first P xs ys each.1)

all_second : {A : Type 0} (P : A → Type 0) (xs ys : List A)
    → AllByRecursion P (xs ++ ys) → AllByRecursion P ys
all_second P [] ys each = each
all_second P (x ∷ xs) ys each = all_second P xs ys each.1

streams_under : ReportsToldAreUnder → (tables : Entries) (streams : List (List ℕ))
    → AllByRecursion AreOctets streams → AreUnder tables (all_told tables streams)
streams_under under tables [] octets = tt
streams_under under tables (s ∷ streams) octets =
    all_both (IsUnder tables) (told tables s) (all_told tables streams)
    (under tables s octets.0) (streams_under under tables streams octets.1)

groups_under : ReportsToldAreUnder → (tables : Entries) (groups : List (List (List ℕ)))
    → AllByRecursion AreOctets (all_streams groups)
    → AllByRecursion (λ (streams : List (List ℕ)). AreUnder tables (all_told tables streams)) groups
groups_under under tables [] octets = tt
groups_under under tables (g ∷ groups) octets = (
  streams_under under tables g (all_first AreOctets g (all_streams groups) octets),
  groups_under under tables groups (all_second AreOctets g (all_streams groups) octets),
)

-- each file has the text of the reports of its group's streams
made : ReportTextsTell → ReportsToldAreUnder → (tables : Entries) (groups : List (List (List ℕ)))
    (files : List (List ℕ)) → AllByRecursion AreOctets (all_streams groups)
    → AreMadeOf tables groups files → files ≡ map (collected_text tables) groups
made tell under tables groups files octets none = refl
made tell under tables groups files octets (by_add streams {groups = others} {files = more} rest) =
    ap (λ (fs : List (List ℕ)). collected_text tables streams ∷ fs)
    (made tell under tables others more
    (all_second AreOctets streams (all_streams others) octets) rest)
made tell under tables groups files octets
    (by_merge {parts} {groups = others} {archives} {files = more} lists was texts rest) =
    let own = all_first AreOctets (all_streams parts) (all_streams others) octets in
    let are = made tell under tables parts archives own was in
    let whole : merged_text tables lists ≡ collected_text tables (all_streams parts) =
    shared tell tables parts lists (groups_under under tables parts own)
    (subst (λ (fs : List (List ℕ)). AreTextsOf tables fs lists) are texts) in
    ap (λ (t : List ℕ). t ∷ more) whole
    ∙ ap (λ (fs : List (List ℕ)). collected_text tables (all_streams parts) ∷ fs)
    (made tell under tables others more
    (all_second AreOctets (all_streams parts) (all_streams others) octets) rest)

-- the first of a list
abbrev first_of : List (List ℕ) → List ℕ
first_of [] = []
first_of (t ∷ ts) = t

made_one : ReportTextsTell → ReportsToldAreUnder → (tables : Entries) (streams : List (List ℕ))
    (file : List ℕ) → AllByRecursion AreOctets streams
    → AreMadeOf tables (streams ∷ []) (file ∷ []) → file ≡ collected_text tables streams
made_one tell under tables streams file octets was =
    ap first_of (made tell under tables (streams ∷ []) (file ∷ [])
    (all_both AreOctets streams [] octets tt) was)

pub any_way : ReportTextsTell → ReportsToldAreUnder → SameMessagesSameKept → AnyWayWritesTheSame
any_way tell under kept tables a b x y octets others one two same =
    let first = made_one tell under tables a x octets one in
    let second = made_one tell under tables b y others two in
    (first ∙ ap text (kept tables a b same) ∙ sym second, first)
