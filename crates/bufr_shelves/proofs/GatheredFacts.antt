-- What is kept of a shelf and of the entries that are put on it: for `put_all`.
use Rattle.std.proofs.Common.{◌≡◌, Option, Some, None, List, [], ◌∷◌, ◌++◌, drop, sym, ap, ◌∙◌, append_assoc}
use Rattle.std.proofs.lemmas.List.{append-nil}
use Rattle.bufr_entries.specs.Entries.{kept}
use Rattle.bufr_entries.specs.Keeping.{first_of}
use Rattle.bufr_entries.specs.Orders.{kept-kept, kept-early}
use Rattle.bufr_entries.specs.declared.entry.Entry.{Entry}

-- with one entry more on the shelf, what is kept of it and of those left is the same
pub shelf-more : (ks js ls ms : List Entry) (e f : Entry) (s : List Entry)
    → js ≡ kept (ks ++ e ∷ []) → e ≡ f → first_of ls ≡ Some f → ms ≡ drop 1 ls
    → kept (ks ++ ls) ≡ s → kept (js ++ ms) ≡ s
shelf-more ks js [] ms e f s j same first m h = cc
shelf-more ks js (l ∷ ls) ms e f s j same first m h =
    let is_f : l ≡ f = cc in
    ap (λ es. kept (es ++ ms)) j ∙ ap (λ es. kept (kept (ks ++ e ∷ []) ++ es)) m
    ∙ kept-early (ks ++ e ∷ []) ls ∙ ap kept (append_assoc ks (e ∷ []) ls)
    ∙ ap (λ z. kept (ks ++ z ∷ ls)) (same ∙ sym is_f) ∙ h

pub shelf-done : (ks ls s : List Entry) → first_of ls ≡ None → kept (kept ks ++ ls) ≡ s
    → kept ks ≡ s
shelf-done ks [] s none h =
    sym (kept-kept ks) ∙ ap kept (sym (append-nil (kept ks))) ∙ h
shelf-done ks (l ∷ ls) s none h = cc
