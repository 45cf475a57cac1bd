-- Tests that decide equality, and adding an element.
use Rattle.std.proofs.Common.{◌≡◌, ◌∙◌, ℕ, true, false, List, [], ◌∷◌, Some, None, Ok, Err, refl}
use Rattle.std.proofs.Common.{sym, inl, inr}
use Rattle.std.proofs.lemmas.Bool.{cases_order}
use Rattle.std.proofs.lemmas.Bool.Decides.{Decides-eqb, Decides-int_eq, same_from_decides}
use Rattle.std.specs.Bool.{Decides}
use Rattle.std.specs.Ordering.{nat_cmp}
use Rattle.std.specs.BTreeMap.{insert_entry}
use Rattle.bufr_tables.specs.declared.element.Element.{Element}
use Rattle.bufr_tables.specs.declared.element.Kind.{Kind}
use Rattle.bufr_tables.specs.declared.element.Kind.TheVariants as kinds
use Rattle.bufr_tables.specs.declared.table_faults.TableFault.TheVariants.{Conflict}
use Rattle.bufr_tables.specs.contracts.element.KindPartialEq.TheImpl as kind_eq
use Rattle.bufr_tables.specs.contracts.element.ElementPartialEq.TheImpl as element_eq
use Rattle.bufr_tables.specs.ElementJoins.{with_element}
use Rattle.bufr_tables.specs.ElementLaws.{parts-Decides, same_element-Decides}
use Rattle.bufr_tables.specs.Elements.{same_kind, same_element}
use Rattle.bufr_tables.specs.Entries.{at, NoCounts}
use Rattle.bufr_tables.specs.EntryLaws.{less, equal, greater}

pub kind_eq-Decides : (a b : Kind) → Decides (kind_eq.ghosts.eq a b) (a ≡ b)
kind_eq-Decides kinds.Text kinds.Text = (λ _. refl, λ _. refl)
kind_eq-Decides kinds.Code kinds.Code = (λ _. refl, λ _. refl)
kind_eq-Decides kinds.Flag kinds.Flag = (λ _. refl, λ _. refl)
kind_eq-Decides kinds.Quantity kinds.Quantity = (λ _. refl, λ _. refl)
kind_eq-Decides kinds.Count kinds.Count = (λ _. refl, λ _. refl)
kind_eq-Decides _ _ = (λ h. cc, λ h. cc)

pub element_eq-Decides : (a b : Element) → Decides (element_eq.ghosts.eq a b) (a ≡ b)
element_eq-Decides a b =
    parts-Decides a b _ _ _ _ (kind_eq-Decides a.kind b.kind) (Decides-int_eq a.scale b.scale)
    (Decides-int_eq a.reference b.reference) (Decides-eqb a.width b.width)

pub NoCounts-insert : (d : ℕ) (v : Element) (es : List (ℕ × Element))
    → same_kind v.kind kinds.Count ≡ false → NoCounts es → NoCounts (insert_entry nat_cmp es d v)
NoCounts-insert d v [] k n = (k, tt)
NoCounts-insert d v (e ∷ es) k n =
    let more = NoCounts-insert d v es k n.1 in
    elim (cases_order d e.0) [
      | inl s ↦ rw (equal d e.0 s) (k, n.1)
      | inr s ↦
          elim s [ inl l ↦ rw (less d e.0 l) (k, n) | inr g ↦ rw (greater d e.0 g) (n.0, more) ]
    ]

same_test : (a b : Element) → element_eq.ghosts.eq a b ≡ same_element a b
same_test a b =
    same_from_decides (element_eq.ghosts.eq a b) (same_element a b) (element_eq-Decides a b)
    (same_element-Decides a b)

pub with_element-same : (rows : List (ℕ × Element)) (d : ℕ) (e old : Element) → at d rows ≡ Some old
    → element_eq.ghosts.eq old e ≡ true → with_element rows (d, e) ≡ Ok rows
with_element-same rows d e old f s =
    let t : same_element old e ≡ true = sym (same_test old e) ∙ s in rw (f, t)

pub with_element-other : (rows : List (ℕ × Element)) (d : ℕ) (e old : Element)
    → at d rows ≡ Some old → element_eq.ghosts.eq old e ≡ false
    → with_element rows (d, e) ≡ Err (Conflict d)
with_element-other rows d e old f s =
    let t : same_element old e ≡ false = sym (same_test old e) ∙ s in rw (f, t)

pub with_element-new : (rows : List (ℕ × Element)) (d : ℕ) (e : Element) → at d rows ≡ None
    → with_element rows (d, e) ≡ Ok (insert_entry nat_cmp rows d e)
with_element-new rows d e f = rw f
