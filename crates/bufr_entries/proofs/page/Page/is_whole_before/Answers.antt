-- The last entry has the last octets of its page.
use Rattle.std.proofs.Common.{◌≡◌, ℕ, ◌+◌, ◌-◌, ◌∙◌, List, ◌∷◌, Some, ap, arith, drop, length, length-drop, reverse, rules, sym, take}
use Rattle.std.proofs.lemmas.List.{take_all}
use Rattle.bufr_entries.specs.Keeping.{first_of}
use Rattle.bufr_entries.specs.Pages.{marked, octets_of, paged}
use Rattle.bufr_entries.specs.declared.entry.Entry.{Entry}
use Rattle.bufr_entries.specs.declared.page.PageEntry.{PageEntry}
use Rattle.bufr_entries.proofs.PageLemmas.{last-fits, last-paged}
use Rattle.bufr_entries.proofs.page.Page.is_whole_before.Goals as goal

-- the last entry, by a slice of the octets `a`
last-of : (es rs : List PageEntry) (e : PageEntry) (os a : List ℕ) (from n : ℕ) (s : List Entry)
    → es ≡ e ∷ rs → from + octets_of (reverse es) ≡ length os → a ≡ os → n ≡ length os
    → paged (reverse es) (drop from os) ≡ s
    → first_of (reverse s) ≡ Some (marked e.mark (take (length a - (n - e.len)) (drop (n - e.len) a)))
last-of es rs e os a from n s is h same len v =
    let k = n - e.len in
    let fits = last-fits es rs e from (length os) is h in
    let tail : take (length a - k) (drop k a) ≡ drop k os =
    take_all (length a - k) (drop k a) (omega (arith, length-drop k a)) ∙ ap (drop k) same in
    sym (ap (λ xs. Some (marked e.mark xs)) tail
    ∙ last-paged es rs e os from k s is h (omega (arith, len, fits)) v)

pub overflow_sub-from : goal.overflow_sub-from
overflow_sub-from c =
    let inside = c.self.inside in
    let len : length inside.octets.items ≡ c.len.result = search rules in
    last-fits inside.entries.items c.in-Some.field-0-1.now c.in-Some.field-0-0.now inside.from
    c.len.result (sym c.deref.ensures.value ∙ c.in-Some.ensures.cases.0)
    (c.self.invariant ∙ len)

pub returns-in-None : goal.returns-in-None
returns-in-None c =
    let inside = c.self.inside in
    let len : c.len.result ≡ length inside.octets.items = search rules in
    λ _. (
      _,
      last-of inside.entries.items c.in-Some.field-0-1.now c.in-Some.field-0-0.now
          inside.octets.items c.deref-2.result.now inside.from c.len.result c.args.self.now
          (sym c.deref.ensures.value ∙ c.in-Some.ensures.cases.0) c.self.invariant
          c.deref-2.ensures.value len c.self.view_is,
      rw c.in-None.is tt,
    )

pub returns-in-Some-next : goal.returns-in-Some-next
returns-in-Some-next c =
    let inside = c.self.inside in
    let len : c.len.result ≡ length inside.octets.items = search rules in
    λ less. (
      _,
      last-of inside.entries.items c.in-Some.field-0-1.now c.in-Some.field-0-0.now
          inside.octets.items c.deref-2.result.now inside.from c.len.result c.args.self.now
          (sym c.deref.ensures.value ∙ c.in-Some.ensures.cases.0) c.self.invariant
          c.deref-2.ensures.value len c.self.view_is,
      rw c.in-Some-next.is (search rules),
    )
