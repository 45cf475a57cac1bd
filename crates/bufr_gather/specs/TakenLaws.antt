-- Reports taken in one after the other.
use Rattle.std.proofs.Common.{◌≡◌, ℕ, ◌+◌, ◌<◌, Option, None, List, [], ◌∷◌, ◌++◌, length, take, get_or}
use Rattle.std.proofs.Common.{sym, ap, ◌∙◌, append_assoc}
use Rattle.std.proofs.lemmas.List.{take_more}
use Rattle.std.proofs.lemmas.Grind.{flat_map-append}
use Rattle.std.specs.Prelude.{option_to_list}
use Rattle.bufr_entries.specs.declared.entry.Entry.{Entry}
use Rattle.bufr_entries.specs.Entries.{kept}
use Rattle.bufr_entries.specs.Orders.{kept-early}
use Rattle.bufr_gather.specs.Archives.{ArchiveView, taken_in, entries_of}

pub entries_more : (rs : List (Option Entry)) (i : ℕ) → i < length rs
    → entries_of (take (i + 1) rs) ≡ entries_of (take i rs) ++ entries_of (get_or rs i None ∷ [])
entries_more rs i h =
    ap entries_of (take_more rs i None h)
    ∙ flat_map-append option_to_list (take i rs) (get_or rs i None ∷ [])

pub taken_more : (old new next : ArchiveView) (rs : List (Option Entry)) (i : ℕ) → i < length rs
    → new ≡ taken_in old (take i rs) → next ≡ taken_in new (get_or rs i None ∷ [])
    → next ≡ taken_in old (take (i + 1) rs)
taken_more old new next rs i h s is =
    let one = entries_of (get_or rs i None ∷ []) in
    let before = entries_of (take i rs) in
    is
    ∙ ap (λ (a : ArchiveView). record a { entries = kept (a.entries ++ one) }) s
    ∙ ap (λ es. record old { entries = es })
    (kept-early (old.entries ++ before) one
    ∙ ap kept (append_assoc old.entries before one
    ∙ ap (λ (es : List Entry). old.entries ++ es) (sym (entries_more rs i h))))
