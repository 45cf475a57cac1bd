-- A stack merges its texts from the uppermost on: for `settle`, `merge_upper` and `merge_readers`.
use Rattle.std.proofs.Common.{◌≡◌, List, [], ◌∷◌, ◌++◌, Option, Some, None, refl, sym}
use Rattle.std.proofs.Common.{ap, subst, ◌∙◌, append_assoc}
use Rattle.std.proofs.lemmas.List.{append-nil}
use Rattle.std.proofs.lemmas.List.Elements.{All-nil, All-pop, All-push}
use Rattle.std.proofs.lemmas.Grind.{flat_map-append}
use Rattle.std.specs.Option.{option_to_list}
use Rattle.bufr_tables.specs.Entries.{Entries}
use Rattle.bufr_entries.specs.declared.entry.Entry.{Entry}
use Rattle.bufr_entries.specs.Entries.{kept}
use Rattle.bufr_entries.specs.Orders.{kept-early, kept-late}
use Rattle.bufr_gather.specs.Archives.{ArchiveView, merged}
use Rattle.bufr_engines.specs.Stacks.{entries_together, together, AreUnderTables}

together_more : (archives : List ArchiveView) (a : ArchiveView)
    → entries_together (archives ++ a ∷ []) ≡ entries_together archives ++ a.entries
together_more archives a =
    flat_map-append (λ (x : ArchiveView). x.entries) archives (a ∷ [])
    ∙ ap (λ (es : List Entry). entries_together archives ++ es) (append-nil a.entries)

-- the archives left and the one above them hold what the archives and `text` hold
pub record HoldTogether (tables : Entries) (old : List ArchiveView) (text : ArchiveView)
    (archives : List ArchiveView) (top : ArchiveView) : Type 0 where
  pub under : AreUnderTables tables archives
  pub top_under : top.tables ≡ tables
  pub same : kept (entries_together archives ++ top.entries)
      ≡ kept (entries_together old ++ text.entries)

pub taken_under : (tables : Entries) (old : List ArchiveView) (text : ArchiveView)
    (archives rest : List ArchiveView) (top below : ArchiveView) (found : Option ArchiveView)
    → HoldTogether tables old text archives top → archives ≡ rest ++ option_to_list found
    → found ≡ Some below → below.tables ≡ top.tables
taken_under tables old text archives rest top below found h taken is =
    let joined : archives ≡ rest ++ below ∷ [] =
    taken ∙ ap (λ (o : Option ArchiveView). rest ++ option_to_list o) is in
    (All-pop (λ (a : ArchiveView). a.tables ≡ tables) archives rest (Some below) joined h.under).1
    ∙ sym h.top_under

pub taken_left : (tables : Entries) (old : List ArchiveView) (text : ArchiveView)
    (archives rest : List ArchiveView) (top : ArchiveView) (found : Option ArchiveView)
    → HoldTogether tables old text archives top → archives ≡ rest ++ option_to_list found
    → AreUnderTables tables rest
taken_left tables old text archives rest top found h taken =
    (All-pop (λ (a : ArchiveView). a.tables ≡ tables) archives rest found taken h.under).0

pub taken_together : (tables : Entries) (old : List ArchiveView) (text : ArchiveView)
    (archives rest : List ArchiveView) (top below both : ArchiveView) (found : Option ArchiveView)
    → HoldTogether tables old text archives top → archives ≡ rest ++ option_to_list found
    → found ≡ Some below → both ≡ merged below top → HoldTogether tables old text rest both
taken_together tables old text archives rest top below both found h taken is merges =
    let joined : archives ≡ rest ++ below ∷ [] =
    taken ∙ ap (λ (o : Option ArchiveView). rest ++ option_to_list o) is in
    let popped = All-pop (λ (a : ArchiveView). a.tables ≡ tables) archives rest (Some below)
    joined h.under in
    record {
      under = popped.0;
      top_under = ap (λ (a : ArchiveView). a.tables) merges ∙ popped.1;
      same = ap (λ (a : ArchiveView). kept (entries_together rest ++ a.entries)) merges
          ∙ kept-late (entries_together rest) (below.entries ++ top.entries)
          ∙ ap kept (sym (append_assoc (entries_together rest) below.entries top.entries))
          ∙ ap (λ (es : List Entry). kept (es ++ top.entries))
          (sym (ap entries_together joined ∙ together_more rest below))
          ∙ h.same;
    }

pub put_together : (tables : Entries) (old : List ArchiveView) (text : ArchiveView)
    (archives rest archives' : List ArchiveView) (top : ArchiveView) (found : Option ArchiveView)
    → HoldTogether tables old text archives top → archives ≡ rest ++ option_to_list found
    → found ≡ None → archives' ≡ rest ++ top ∷ []
    → together tables archives' ≡ merged (together tables old) text
put_together tables old text archives rest archives' top found h taken none put =
    let left : archives ≡ rest =
    taken ∙ ap (λ (o : Option ArchiveView). rest ++ option_to_list o) none ∙ append-nil rest in
    let is : archives' ≡ archives ++ top ∷ [] =
    put ∙ ap (λ (xs : List ArchiveView). xs ++ top ∷ []) (sym left) in
    ap (λ (es : List Entry). record { tables = tables; entries = es })
    (ap (λ (xs : List ArchiveView). kept (entries_together xs)) is
    ∙ ap kept (together_more archives top)
    ∙ h.same
    ∙ sym (kept-early (entries_together old) text.entries))

pub none_under : (tables : Entries) (archives : List ArchiveView) → archives ≡ []
    → AreUnderTables tables archives
none_under tables archives none =
    subst (AreUnderTables tables) (sym none) (All-nil (λ (a : ArchiveView). a.tables ≡ tables))

pub one_under : (tables : Entries) (old archives : List ArchiveView) (text : ArchiveView)
    → AreUnderTables tables old → text.tables ≡ tables → archives ≡ old ++ text ∷ []
    → AreUnderTables tables archives
one_under tables old archives text under same put =
    subst (AreUnderTables tables) (sym put)
    (All-push (λ (a : ArchiveView). a.tables ≡ tables) old text under same)

pub popped_under : (tables : Entries) (archives rest : List ArchiveView)
    (found : Option ArchiveView) → AreUnderTables tables archives
    → archives ≡ rest ++ option_to_list found → AreUnderTables tables rest
popped_under tables archives rest found under taken =
    (All-pop (λ (a : ArchiveView). a.tables ≡ tables) archives rest found taken under).0

pub top_under : (tables : Entries) (archives rest : List ArchiveView) (top : ArchiveView)
    (found : Option ArchiveView) → AreUnderTables tables archives
    → archives ≡ rest ++ option_to_list found → found ≡ Some top → tables ≡ top.tables
top_under tables archives rest top found under taken is =
    let joined : archives ≡ rest ++ top ∷ [] =
    taken ∙ ap (λ (o : Option ArchiveView). rest ++ option_to_list o) is in
    sym ((All-pop (λ (a : ArchiveView). a.tables ≡ tables) archives rest (Some top) joined
    under).1)

pub none_popped : (tables : Entries) (archives rest : List ArchiveView)
    (found : Option ArchiveView) → archives ≡ rest ++ option_to_list found → found ≡ None
    → together tables rest ≡ together tables archives
none_popped tables archives rest found taken none =
    ap (together tables) (sym (taken
    ∙ ap (λ (o : Option ArchiveView). rest ++ option_to_list o) none ∙ append-nil rest))

pub put_back : (tables : Entries) (archives rest : List ArchiveView) (top : ArchiveView)
    (found : Option ArchiveView) → archives ≡ rest ++ option_to_list found → found ≡ Some top
    → merged (together tables rest) top ≡ together tables archives
put_back tables archives rest top found taken is =
    let joined : archives ≡ rest ++ top ∷ [] =
    taken ∙ ap (λ (o : Option ArchiveView). rest ++ option_to_list o) is in
    ap (λ (es : List Entry). record { tables = tables; entries = es })
    (kept-early (entries_together rest) top.entries
    ∙ ap kept (sym (together_more rest top))
    ∙ ap (λ (xs : List ArchiveView). kept (entries_together xs)) (sym joined))

pub put_above_is : (tables : Entries) (old archives : List ArchiveView) (text : ArchiveView)
    → archives ≡ old ++ text ∷ []
    → together tables archives ≡ merged (together tables old) text
put_above_is tables old archives text put =
    sym (put_back tables archives old text (Some text) put refl)

-- ---- all texts merged

-- the archives left, the lowest taken and those above it hold what all hold
pub record LeftTogether (tables : Entries) (all archives : List ArchiveView)
    (lowest upper : ArchiveView) : Type 0 where
  pub under : AreUnderTables tables archives
  pub lowest_under : lowest.tables ≡ tables
  pub upper_under : upper.tables ≡ tables
  pub same : kept ((entries_together archives ++ lowest.entries) ++ upper.entries)
      ≡ kept (entries_together all)

pub left_first : (tables : Entries) (all : List ArchiveView) (lowest upper : ArchiveView)
    → AreUnderTables tables all → lowest ≡ record { tables = tables; entries = [] }
    → upper ≡ record { tables = tables; entries = [] } → LeftTogether tables all all lowest upper
left_first tables all lowest upper under new also = record {
  under = under;
  lowest_under = ap (λ (a : ArchiveView). a.tables) new;
  upper_under = ap (λ (a : ArchiveView). a.tables) also;
  same = ap (λ (a : ArchiveView). kept ((entries_together all ++ lowest.entries) ++ a.entries)) also
      ∙ ap kept (append-nil (entries_together all ++ lowest.entries))
      ∙ ap (λ (a : ArchiveView). kept (entries_together all ++ a.entries)) new
      ∙ ap kept (append-nil (entries_together all));
}

pub left_more : (tables : Entries) (all archives rest : List ArchiveView)
    (lowest upper below both : ArchiveView) (found : Option ArchiveView)
    → LeftTogether tables all archives lowest upper → archives ≡ rest ++ option_to_list found
    → found ≡ Some below → both ≡ merged lowest upper → LeftTogether tables all rest below both
left_more tables all archives rest lowest upper below both found h taken is merges =
    let joined : archives ≡ rest ++ below ∷ [] =
    taken ∙ ap (λ (o : Option ArchiveView). rest ++ option_to_list o) is in
    let popped = All-pop (λ (a : ArchiveView). a.tables ≡ tables) archives rest (Some below)
    joined h.under in
    record {
      under = popped.0;
      lowest_under = popped.1;
      upper_under = ap (λ (a : ArchiveView). a.tables) merges ∙ h.lowest_under;
      same = ap (λ (a : ArchiveView). kept ((entries_together rest ++ below.entries) ++ a.entries))
          merges
          ∙ kept-late (entries_together rest ++ below.entries) (lowest.entries ++ upper.entries)
          ∙ ap kept (sym (append_assoc (entries_together rest ++ below.entries) lowest.entries
          upper.entries))
          ∙ ap (λ (es : List Entry). kept ((es ++ lowest.entries) ++ upper.entries))
          (sym (ap entries_together joined ∙ together_more rest below))
          ∙ h.same;
    }

pub left_none : (tables : Entries) (all archives rest : List ArchiveView)
    (lowest upper : ArchiveView) (found : Option ArchiveView)
    → LeftTogether tables all archives lowest upper → archives ≡ rest ++ option_to_list found
    → found ≡ None → rest ≡ [] → merged lowest upper ≡ together tables all
left_none tables all archives rest lowest upper found h taken none empty =
    let nil : archives ≡ [] =
    taken ∙ ap (λ (o : Option ArchiveView). rest ++ option_to_list o) none ∙ append-nil rest
    ∙ empty in
    ap (λ (t : Entries). record { tables = t; entries = kept (lowest.entries ++ upper.entries) })
    h.lowest_under
    ∙ ap (λ (es : List Entry). record { tables = tables; entries = es })
    (ap (λ (xs : List ArchiveView). kept ((entries_together xs ++ lowest.entries) ++ upper.entries))
    (sym nil)
    ∙ h.same)
