-- Usable texts by their rule: for `laws::usable_values`.
use Rattle.std.proofs.Common.{◌≡◌, ◌⊎◌, inl, inr, ℕ, Bool, true, false, Some, List, [], ◌∷◌, ◌++◌}
use Rattle.std.proofs.Common.{refl, sym, ap, ◌∙◌}
use Rattle.bufr_tables.specs.declared.element.Kind.{Kind}
use Rattle.bufr_tables.specs.declared.element.Kind.TheVariants as kinds
use Rattle.bufr_fields.specs.declared.field.Raw.{Raw}
use Rattle.bufr_fields.specs.declared.field.Raw.TheVariants as raws
use Rattle.bufr_fields.specs.declared.field.Field.{Field}
use Rattle.bufr_fields.specs.Values.{is_missing}
use Rattle.bufr_report_keys.specs.Usable.{without_last_blanks, some_octets, text_by, usable_text}
use Rattle.bufr_report_keys.specs.Laws.{IsUsableText}
use Rattle.bufr_report_keys.proofs.BlankFacts.{Ends, left_and_blanks, left_ends, blanks_are_cut}
use Rattle.bufr_report_keys.proofs.BlankFacts.{other_is_kept, ends_are_some}

-- a text comes from a raw text of kind Text that is not missing
record Comes (kind : Kind) (raw : Raw) (missing : Bool) (text : List ℕ) : Type 0 where
  octets : List ℕ
  is_text : kind ≡ kinds.Text
  of : raw ≡ raws.Text octets
  there : missing ≡ false
  left : some_octets (without_last_blanks octets) ≡ Some text

comes : (kind : Kind) (raw : Raw) (missing : Bool) (text : List ℕ)
    → text_by kind raw missing ≡ Some text → Comes kind raw missing text
comes kinds.Text (raws.Text octets) true text e = absurd cc
comes kinds.Text (raws.Text octets) false text e =
    record { octets = octets; is_text = refl; of = refl; there = refl; left = e }
comes kind raw missing text e = absurd cc

some_is : (w text : List ℕ) → some_octets w ≡ Some text → w ≡ text
some_is [] text e = absurd cc
some_is (x ∷ xs) text e = cc

none_is : (w text : List ℕ) → some_octets w ≡ Some text → w ≡ [] → ⊥
none_is [] text e h = cc
none_is (x ∷ xs) text e h = cc

must_end : (w text : List ℕ) → some_octets w ≡ Some text → (w ≡ []) ⊎ Ends w → Ends w
must_end w text e (inl h) = absurd (none_is w text e h)
must_end w text e (inr t) = t

pub text_is_usable : (f : Field) (text : List ℕ) → usable_text f ≡ Some text → IsUsableText f text
text_is_usable f text e =
    let c = comes f.spec.kind f.raw (is_missing f) text e in
    let w = without_last_blanks c.octets in
    let same : w ≡ text = some_is w text c.left in
    let parts = left_and_blanks c.octets in
    let ends = must_end w text c.left (left_ends c.octets) in
    record {
      kind = c.is_text;
      there = c.there;
      blanks = parts.0;
      octets = c.of ∙ ap raws.Text (parts.2 ∙ ap (λ t. t ++ parts.0) same);
      blank = parts.1;
      front = ends.0;
      last = ends.1;
      ends = sym same ∙ ends.2;
      no_blank = ends.3;
    }

pub usable_is_text : (f : Field) (text : List ℕ) → IsUsableText f text → usable_text f ≡ Some text
usable_is_text f text u =
    let left : without_last_blanks (text ++ u.blanks) ≡ u.front ++ u.last ∷ [] =
    blanks_are_cut text u.blanks u.blank
    ∙ ap (λ (t : List ℕ). without_last_blanks t) u.ends
    ∙ other_is_kept u.front u.last u.no_blank
    in
    ap (λ k. text_by k f.raw (is_missing f)) u.kind
    ∙ ap (λ r. text_by kinds.Text r (is_missing f)) u.octets
    ∙ ap (text_by kinds.Text (raws.Text (text ++ u.blanks))) u.there
    ∙ ap (λ (t : List ℕ). some_octets t) left ∙ ends_are_some u.front u.last ∙ ap Some (sym u.ends)
