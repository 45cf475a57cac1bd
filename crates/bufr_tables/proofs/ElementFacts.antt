-- A file's Table B is its rows, each once, and its fault is the first.
use Rattle.std.proofs.Common.{◌≡◌, ◌≢◌, ◌∙◌, ◌⊎◌, inl, inr, ℕ, ◌+◌, Bool, true, false, List, []}
use Rattle.std.proofs.Common.{◌∷◌, ◌++◌, length, Option, Some, None, Result, Ok, Err, refl, sym, ap}
use Rattle.std.proofs.Common.{append_assoc}
use Rattle.std.specs.Ordering.{nat_cmp}
use Rattle.std.specs.BTreeMap.{insert_entry}
use Rattle.std.proofs.lemmas.List.{append-nil}
use Rattle.std.proofs.lemmas.List.Elements.{Contains-append_left, Contains-append_right}
use Rattle.bufr_tables.specs.declared.element.Element.{Element}
use Rattle.bufr_tables.specs.declared.table_faults.TableFault.{TableFault}
use Rattle.bufr_tables.specs.declared.table_faults.TableFault.TheVariants.{NoColumn, NotCsv, BadRow}
use Rattle.bufr_tables.specs.declared.table_faults.TableFault.TheVariants.{Conflict, SplitSequence}
use Rattle.bufr_tables.specs.Elements.{same_element}
use Rattle.bufr_tables.specs.Entries.{at, Rising}
use Rattle.bufr_tables.specs.ElementJoins.{with_element}
use Rattle.bufr_tables.specs.Rows.{element_row}
use Rattle.bufr_tables.specs.Sheets.{SameMembers, IsRow, HasRows, IsReached, AreElementRows}
use Rattle.bufr_tables.specs.Sheets.{IsFirstElementFault}
use Rattle.bufr_tables.specs.TableFiles.{columns_b, after_file, header_of}
use Rattle.bufr_tables.proofs.ColumnFacts.{needs_b}
use Rattle.bufr_tables.proofs.MemberFacts.{contains-first, same-self, same-back, same-through}
use Rattle.bufr_tables.proofs.MemberFacts.{same-append, same-again, at-contained, at-only}
use Rattle.bufr_tables.proofs.MemberFacts.{same-rising, same-insert}
use Rattle.bufr_tables.proofs.ParseFacts.{then-gives}
use Rattle.bufr_tables.specs.EntryLaws.{Rising-insert}
use Rattle.bufr_tables.proofs.SheetFacts.{then-stops, added, Stops, IsWhole, IsLacking, IsCutShort}
use Rattle.bufr_tables.proofs.SheetFacts.{file-has, file-lacks, file-stops, file-run}
use Rattle.bufr_tables.specs.ElementLaws.{same_element-Decides}

-- the ways in which an element adds to those before
data Adding (so_far : List (ℕ × Element)) (d : ℕ) (e : Element) : Type 0 where
  new : at d so_far ≡ None → with_element so_far (d, e) ≡ Ok (insert_entry nat_cmp so_far d e)
      → Adding so_far d e
  again : at d so_far ≡ Some e → with_element so_far (d, e) ≡ Ok so_far → Adding so_far d e
  differs : (old : Element) → at d so_far ≡ Some old → old ≢ e
      → with_element so_far (d, e) ≡ Err (Conflict d) → Adding so_far d e

adding : (so_far : List (ℕ × Element)) (d : ℕ) (e : Element) → Adding so_far d e
adding so_far d e = by_old (at d so_far) refl
  where
    by_test : (old : Element) (b : Bool) → at d so_far ≡ Some old → same_element old e ≡ b
        → Adding so_far d e
    by_test old true f t =
        let q : old ≡ e = (same_element-Decides old e).0 t in again (f ∙ ap Some q) (rw (f, t))
    by_test old false f t =
        differs old f
        (λ q. let s : same_element old e ≡ true = (same_element-Decides old e).1 q in let w : true
        ≡ false = sym s ∙ t in cc) (rw (f, t))

    by_old : (o : Option Element) → at d so_far ≡ o → Adding so_far d e
    by_old None f = new f (rw f)
    by_old (Some old) f = by_test old (same_element old e) f refl

moved : (so_far : List (ℕ × Element)) (row : ℕ × Element) (rows more : List (ℕ × Element))
    → SameMembers more (so_far ++ row ∷ []) → SameMembers (more ++ rows) (so_far ++ row ∷ rows)
moved so_far row rows more h =
    rw (← append_assoc so_far (row ∷ []) rows)
    (same-append more (so_far ++ row ∷ []) rows rows h (same-self rows))

added-elements : (rows so_far total : List (ℕ × Element))
    → added with_element so_far rows ≡ Ok total → Rising so_far
    → Rising total × SameMembers total (so_far ++ rows)
added-elements [] so_far total h r =
    let e : so_far ≡ total = cc in (rw (← e) r, rw (← e, append-nil so_far) (same-self so_far))
added-elements (row ∷ rows) so_far total h r =
    by_case (λ more. added-elements rows more total) (adding so_far row.0 row.1)
  where
    more_rows :
        ((more : List (ℕ × Element)) → added with_element more rows ≡ Ok total → Rising more
        → Rising total × SameMembers total (more ++ rows)) → (more : List (ℕ × Element))
        → with_element so_far row ≡ Ok more → Rising more
        → SameMembers more (so_far ++ row ∷ []) → Rising total
        × SameMembers total (so_far ++ row ∷ rows)
    more_rows rest more e q s =
        let k =
        rest more
        (sym (then-gives (with_element so_far row) (λ t. added with_element t rows) more
        (added with_element more rows) e refl) ∙ h) q in (
          k.0,
          same-through total (more ++ rows) (so_far ++ row ∷ rows) k.1
              (moved so_far row rows more s),
        )

    by_case :
        ((more : List (ℕ × Element)) → added with_element more rows ≡ Ok total → Rising more
        → Rising total × SameMembers total (more ++ rows)) → Adding so_far row.0 row.1
        → Rising total × SameMembers total (so_far ++ row ∷ rows)
    by_case rest (new f e) =
        more_rows rest (insert_entry nat_cmp so_far row.0 row.1) e
        (Rising-insert row.0 row.1 so_far r) (same-insert row.0 row.1 so_far f)
    by_case rest (again f e) =
        more_rows rest so_far e r (same-again so_far row (at-contained row.0 row.1 so_far f))
    by_case rest (differs old f n e) =
        absurd
        (let w : Err (Conflict row.0)
        ≡ Ok total =
        sym (then-stops (with_element so_far row) (λ t. added with_element t rows) (Conflict row.0)
        e)
        ∙ h in cc)

elements-added : (rows so_far total : List (ℕ × Element)) → Rising so_far → Rising total
    → SameMembers total (so_far ++ rows) → added with_element so_far rows ≡ Ok total
elements-added [] so_far total r s h =
    ap {B = Result (List (ℕ × Element)) TableFault} (λ (t : List (ℕ × Element)). Ok t)
    (same-rising so_far total r s (same-back total so_far (rw append-nil at h)))
elements-added (row ∷ rows) so_far total r s h =
    by_case (λ more q k. elements-added rows more total q s k) (adding so_far row.0 row.1)
  where
    more_rows :
        ((more : List (ℕ × Element)) → Rising more → SameMembers total (more ++ rows)
        → added with_element more rows ≡ Ok total) → (more : List (ℕ × Element))
        → with_element so_far row ≡ Ok more → Rising more
        → SameMembers more (so_far ++ row ∷ []) → added with_element so_far (row ∷ rows) ≡ Ok total
    more_rows rest more e q k =
        then-gives (with_element so_far row) (λ t. added with_element t rows) more (Ok total) e
        (rest more q
        (same-through total (so_far ++ row ∷ rows) (more ++ rows) h
        (same-back (more ++ rows) (so_far ++ row ∷ rows) (moved so_far row rows more k))))

    by_case :
        ((more : List (ℕ × Element)) → Rising more → SameMembers total (more ++ rows)
        → added with_element more rows ≡ Ok total) → Adding so_far row.0 row.1
        → added with_element so_far (row ∷ rows) ≡ Ok total
    by_case rest (new f e) =
        more_rows rest (insert_entry nat_cmp so_far row.0 row.1) e
        (Rising-insert row.0 row.1 so_far r) (same-insert row.0 row.1 so_far f)
    by_case rest (again f e) =
        more_rows rest so_far e r (same-again so_far row (at-contained row.0 row.1 so_far f))
    by_case rest (differs old f n e) =
        absurd (
        let one : at row.0 total ≡ Some old =
        at-only row.0 old total s
        ((h (row.0, old)).1
        (Contains-append_left so_far (row ∷ rows) (row.0, old)
        (at-contained row.0 old so_far f))) in
        let two : at row.0 total ≡ Some row.1 =
        at-only row.0 row.1 total s
        ((h row).1 (Contains-append_right so_far (row ∷ rows) row (contains-first row rows))) in
        let w : Some old ≡ Some row.1 = sym one ∙ two in n (cc)
        )

-- the elements read from the records of a file
abbrev elements_of : List (List (List ℕ)) → Result (List (ℕ × Element)) TableFault
elements_of file = after_file columns_b element_row with_element [] file

-- a table from its rows and their sum
abbrev table-of : (file : List (List (List ℕ))) (rows total : List (ℕ × Element))
    → HasRows columns_b element_row file rows → added with_element [] rows ≡ Ok total
    → AreElementRows file total
table-of file rows total h a =
    let k =
    added-elements rows [] total a tt in
    record { in_order = rows; rows = h; rising = k.0; same = k.1 }

adds-up : (file : List (List (List ℕ))) (elements : List (ℕ × Element))
    (h : AreElementRows file elements) → added with_element [] h.in_order ≡ Ok elements
adds-up file elements h = elements-added h.in_order [] elements tt h.rising h.same

pub elements-are : (file : List (List (List ℕ))) (elements : List (ℕ × Element))
    → elements_of file ≡ Ok elements → AreElementRows file elements
elements-are file elements a = by_run (file-run columns_b element_row with_element [] needs_b file)
  where
    by_run : IsWhole columns_b element_row with_element [] file
        ⊎
        (IsLacking columns_b element_row with_element [] file
        ⊎ IsCutShort columns_b element_row with_element [] file) → AreElementRows file elements
    by_run (inl h) =
        let w : ◌≡◌ {A = Result (List (ℕ × Element)) TableFault} (Ok h.total) (Ok elements) =
        sym h.answer ∙ a in let e : h.total ≡ elements =
        cc in rw (← e) (table-of file h.rows h.total h.has h.adds)
    by_run (inr (inl h)) =
        absurd (let w : Err (NoColumn h.column) ≡ Ok elements = sym h.answer ∙ a in cc)
    by_run (inr (inr h)) = absurd (let w : Err h.fault ≡ Ok elements = sym h.answer ∙ a in cc)

pub are-elements : (file : List (List (List ℕ))) (elements : List (ℕ × Element))
    → AreElementRows file elements → elements_of file ≡ Ok elements
are-elements file elements h =
    file-has columns_b element_row with_element [] file h.in_order h.rows ∙ adds-up file elements h

pub element-fault : (file : List (List (List ℕ))) (fault : TableFault)
    → elements_of file ≡ Err fault → IsFirstElementFault file fault
element-fault file fault a = by_run (file-run columns_b element_row with_element [] needs_b file)
  where
    here : (h : IsCutShort columns_b element_row with_element [] file)
        → IsReached AreElementRows file (length h.before + 1)
    here h =
        record {
          before = h.before;
          raw = h.raw;
          behind = h.behind;
          splits = h.splits;
          number = refl;
          table = h.total;
          is_table = table-of h.before h.rows h.total h.has h.adds;
        }

    by_case : (h : IsCutShort columns_b element_row with_element [] file) (row : ℕ × Element)
        → IsRow element_row (header_of h.before) h.has.places h.raw row → with_element h.total row
        ≡ Err h.fault → Adding h.total row.0 row.1
        → IsFirstElementFault file h.fault
    by_case h row s e (new f g) =
        absurd
        (let w : Ok (insert_entry nat_cmp h.total row.0 row.1) ≡ Err h.fault = sym g ∙ e in cc)
    by_case h row s e (again f g) = absurd (let w : Ok h.total ≡ Err h.fault = sym g ∙ e in cc)
    by_case h row s e (differs old f n g) =
        let w : ◌≡◌ {A = Result (List (ℕ × Element)) TableFault} (Err (Conflict row.0))
        (Err h.fault) = sym g ∙ e in
        let q : Conflict row.0 ≡ h.fault = cc in
        rw (← q) (length h.before + 1, here h, row.1, old, s, at-contained row.0 old h.total f, n)

    by_stop : (h : IsCutShort columns_b element_row with_element [] file)
        → Stops element_row with_element (header_of h.before) h.has.places
        (length h.before + 1) h.raw h.total h.fault → IsFirstElementFault file h.fault
    by_stop h (inl k) = rw k.0 (here h, k.1)
    by_stop h (inr (inl k)) = rw k.0 (here h, k.1)
    by_stop h (inr (inr k)) = by_case h k.0 k.1 k.2 (adding h.total k.0.0 k.0.1)

    by_run : IsWhole columns_b element_row with_element [] file
        ⊎
        (IsLacking columns_b element_row with_element [] file
        ⊎ IsCutShort columns_b element_row with_element [] file) → IsFirstElementFault file fault
    by_run (inl h) = absurd (let w : Ok h.total ≡ Err fault = sym h.answer ∙ a in cc)
    by_run (inr (inl h)) =
        let w : ◌≡◌ {A = Result (List (ℕ × Element)) TableFault} (Err (NoColumn h.column))
        (Err fault) = sym h.answer ∙ a in let q : NoColumn h.column ≡ fault = cc in
        rw (← q) h.absent
    by_run (inr (inr h)) =
        let w : ◌≡◌ {A = Result (List (ℕ × Element)) TableFault} (Err h.fault) (Err fault) =
        sym h.answer ∙ a in let q : h.fault ≡ fault = cc in rw (← q) (by_stop h h.stops)

stops-here : (file : List (List (List ℕ))) (n : ℕ) (h : IsReached AreElementRows file n)
    (fault : TableFault)
    → Stops element_row with_element (header_of h.before) h.is_table.rows.places
    (length h.before + 1) h.raw h.table fault → elements_of file ≡ Err fault
stops-here file n h fault s =
    rw h.splits
    (file-stops columns_b element_row with_element
    [] needs_b h.before h.raw h.behind h.is_table.in_order h.is_table.rows h.table fault
    (adds-up h.before h.table h.is_table) s)

pub fault-element : (file : List (List (List ℕ))) (fault : TableFault)
    → IsFirstElementFault file fault → elements_of file ≡ Err fault
fault-element file (NoColumn c) h = file-lacks columns_b element_row with_element [] file c h
fault-element file (NotCsv n) h = stops-here file n h.0 (NotCsv n) (inl (ap NotCsv h.0.number, h.1))
fault-element file (BadRow n) h =
    stops-here file n h.0 (BadRow n) (inr (inl (ap BadRow h.0.number, h.1)))
fault-element file (Conflict d) h =
    stops-here file h.0 h.1 (Conflict d)
    (inr (inr ((d, h.2), h.4, by_case (adding h.1.table d h.2))))
  where
    by_case : Adding h.1.table d h.2 → with_element h.1.table (d, h.2) ≡ Err (Conflict d)
    by_case (new f g) =
        absurd
        (let w : None ≡ Some h.3 = sym f ∙ at-only d h.3 h.1.table h.1.is_table.rising h.5 in cc)
    by_case (again f g) =
        absurd
        (let w : Some h.2 ≡ Some h.3 = sym f ∙ at-only d h.3 h.1.table h.1.is_table.rising h.5 in
        let q : h.3 ≡ h.2 = cc in h.6 q)
    by_case (differs old f n g) = g
fault-element file (SplitSequence d) h = absurd h
