-- Streams with the same messages have the same reports: for `laws::same_messages_same_kept` and the
-- depot.
use Rattle.std.proofs.Common.{sym, Ok, Err, is_ok, ◌≡◌, inl, inr, ℕ, true, List, [], ◌∷◌, map, refl}
use Rattle.std.proofs.Common.{ap, subst}
use Rattle.std.specs.List.{flat_map}
use Rattle.std.specs.Option.{option_to_list}
use Rattle.bufr_frame.specs.declared.frames.Found.{Found}
use Rattle.bufr_frame.specs.Streams.{cut}
use Rattle.bufr_entries.specs.Keeping.{Has, Within, SameMembers}
use Rattle.bufr_entries.specs.KeepingLaws.{Has-left, Has-right, Has-append}
use Rattle.bufr_entries.specs.Orders.{kept-same}
use Rattle.bufr_tables.specs.Entries.{Entries}
use Rattle.bufr_message.specs.declared.report.Report.{Report}
use Rattle.bufr_message.specs.Messages.{message_of}
use Rattle.bufr_message.specs.Reports.{reports_in, reports_read}
use Rattle.bufr_gather.specs.Archives.{entries_of}
use Rattle.bufr_gather.specs.ReportEntries.{entry_of, report_entries, kept_of}
use Rattle.bufr_gather.specs.ReportTexts.{told}
use Rattle.bufr_gather.specs.StreamsTold.{spells, all_told, frames_of, HoldSameMessages}
use Rattle.bufr_gather.specs.StreamsTold.{SameMessagesSameKept}

-- an element that maps to a list with b, among xs
record IsIn {A B : Type 0} (f : A → List B) (xs : List A) (b : B) : Type 0 where
  pub of : A
  pub member : Has xs of
  pub inside : Has (f of) b

in_flat_map : {A B : Type 0} (f : A → List B) (xs : List A) (b : B) → Has (flat_map f xs) b
    → IsIn f xs b
in_flat_map f [] b h = absurd h
in_flat_map f (x ∷ xs) b h = elim (Has-append (f x) (flat_map f xs) b h) [
  | inl k ↦ record { of = x; member = inl refl; inside = k }
  | inr k ↦ let i = in_flat_map f xs b k in
      record { of = i.of; member = inr i.member; inside = i.inside }
]

Has-flat_map : {A B : Type 0} (f : A → List B) (xs : List A) (x : A) (b : B) → Has xs x
    → Has (f x) b → Has (flat_map f xs) b
Has-flat_map f [] x b h k = absurd h
Has-flat_map f (y ∷ xs) x b (inl e) k =
    Has-left (f y) (flat_map f xs) b (subst (λ z. Has (f z) b) e k)
Has-flat_map f (y ∷ xs) x b (inr h) k =
    Has-right (f y) (flat_map f xs) b (Has-flat_map f xs x b h k)

Within-flat_map : {A B : Type 0} (f : A → List B) (xs ys : List A) → Within xs ys
    → Within (flat_map f xs) (flat_map f ys)
Within-flat_map f xs ys w b h =
    let i = in_flat_map f xs b h in Has-flat_map f ys i.of b (w i.of i.member) i.inside

Has-map : {A B : Type 0} (f : A → B) (xs : List A) (x : A) → Has xs x → Has (map f xs) (f x)
Has-map f [] x h = absurd h
Has-map f (y ∷ xs) x (inl e) = inl (ap f e)
Has-map f (y ∷ xs) x (inr h) = inr (Has-map f xs x h)

-- an element that maps to b, among xs
record IsOf {A B : Type 0} (f : A → B) (xs : List A) (b : B) : Type 0 where
  pub of : A
  pub member : Has xs of
  pub same : b ≡ f of

in_map : {A B : Type 0} (f : A → B) (xs : List A) (b : B) → Has (map f xs) b → IsOf f xs b
in_map f [] b h = absurd h
in_map f (x ∷ xs) b (inl e) = record { of = x; member = inl refl; same = e }
in_map f (x ∷ xs) b (inr h) =
    let i = in_map f xs b h in record { of = i.of; member = inr i.member; same = i.same }

pub kept_of-same : (tables : Entries) (rs qs : List Report) → SameMembers rs qs
    → kept_of tables rs ≡ kept_of tables qs
kept_of-same tables rs qs s =
    let within : (xs ys : List Report) → Within xs ys
    → Within (report_entries tables xs) (report_entries tables ys) = λ xs ys w e h.
    let i =
    in_map (entry_of tables) xs e h in
    subst (Has (report_entries tables ys)) (sym i.same)
    (Has-map (entry_of tables) ys i.of (w i.of i.member)) in
    kept-same (entries_of (report_entries tables rs)) (entries_of (report_entries tables qs)) (
      Within-flat_map option_to_list (report_entries tables rs) (report_entries tables qs)
          (within rs qs s.0),
      Within-flat_map option_to_list (report_entries tables qs) (report_entries tables rs)
          (within qs rs s.1),
    )

spells_message : (tables : Entries) (octets : List ℕ) (x : Report)
    → Has (reports_in tables octets) x → spells tables octets ≡ true
spells_message tables octets x h =
    elim (message_of tables octets) as (λ m. Has (reports_read m) x → is_ok m ≡ true) [
      | Ok d ↦ λ _. refl
      | Err why ↦ λ k. absurd k
    ] h

-- a frame of the streams with this report
record IsTold (tables : Entries) (streams : List (List ℕ)) (x : Report) : Type 0 where
  pub octets : List ℕ
  pub frame : Has (frames_of streams) octets
  pub report : Has (reports_in tables octets) x

told_from : (tables : Entries) (streams : List (List ℕ)) (x : Report)
    → Has (all_told tables streams) x → IsTold tables streams x
told_from tables streams x h =
    let a = in_flat_map (told tables) streams x h in
    let b = in_flat_map (λ (f : Found). reports_in tables f.bytes) (cut a.of) x a.inside in
    record {
      octets = b.of.bytes;
      frame =
          Has-flat_map (λ s. map (λ (f : Found). f.bytes) (cut s)) streams a.of b.of.bytes a.member
          (Has-map (λ (f : Found). f.bytes) (cut a.of) b.of b.member);
      report = b.inside;
    }

told_to : (tables : Entries) (streams : List (List ℕ)) (octets : List ℕ) (x : Report)
    → Has (frames_of streams) octets → Has (reports_in tables octets) x
    → Has (all_told tables streams) x
told_to tables streams octets x h k =
    let a = in_flat_map (λ s. map (λ (f : Found). f.bytes) (cut s)) streams octets h in
    let b = in_map (λ (f : Found). f.bytes) (cut a.of) octets a.inside in
    Has-flat_map (told tables) streams a.of x a.member
    (Has-flat_map (λ (f : Found). reports_in tables f.bytes) (cut a.of) b.of x b.member
    (subst (λ o. Has (reports_in tables o) x) b.same k))

told_within : (tables : Entries) (a b : List (List ℕ))
    → ((octets : List ℕ) → spells tables octets ≡ true → Has (frames_of a) octets
    → Has (frames_of b) octets)
    → Within (all_told tables a) (all_told tables b)
told_within tables a b same x h =
    let t = told_from tables a x h in
    told_to tables b t.octets x
    (same t.octets (spells_message tables t.octets x t.report) t.frame) t.report

pub same_told : (tables : Entries) (a b : List (List ℕ)) → HoldSameMessages tables a b
    → SameMembers (all_told tables a) (all_told tables b)
same_told tables a b same = (told_within tables a b same.first, told_within tables b a same.second)

pub same_kept : SameMessagesSameKept
same_kept tables a b same =
    kept_of-same tables (all_told tables a) (all_told tables b) (same_told tables a b same)
