use Rattle.std.proofs.Common.{◌≡◌, ◌∙◌, sym, ap, map, length, ◌==◌, Ok, Some, List, ℕ, Bor, true}
use Rattle.std.proofs.Common.{false, Bool, Option, Result}
use Rattle.std.specs.Prelude.{bytes_eq}
use Rattle.std.specs.Cmp.Lexicographic.{pointwise}
use Rattle.std.specs.List.{list_all}
use Rattle.std.proofs.lemmas.List.{length-map}
use Rattle.std.proofs.lemmas.List.Folds.{list_all-map}
use Rattle.csv.specs.Records.{fields_of}
use Rattle.bufr_tables.specs.Fields.{used_fields}
use Rattle.bufr_tables.specs.TableFiles.{cells_at}
use Rattle.bufr_tables.specs.declared.table_faults.TableFault.{TableFault}
use Rattle.bufr_tables.proofs.ColumnFacts.{row_cells-unequal, row_cells-skipped, row_cells-used}
use Rattle.bufr_tables.proofs.ColumnFacts.{is_skipped-same, is_skipped-by}
use Rattle.bufr_tables.proofs.columns.row_cells.Goals as goal
use Rattle.bufr_tables.proofs.columns.row_cells.Goals.{then-same_fields-via-then-same_fields}
use Rattle.bufr_tables.proofs.columns.row_cells.Goals.{then-same_fields-via-else-same_fields+then-are_empty}

header_test : (names fields deref : List (Bor (List ℕ))) (used : List (List ℕ)) (b t : Bool)
    → b ≡ pointwise bytes_eq (map (λ s. s.now) deref) (map (λ s. s.now) names) → deref ≡ fields
    → map (λ s. s.now) fields ≡ used → b ≡ t → pointwise bytes_eq used (map (λ s. s.now) names) ≡ t
header_test names fields deref used b t p q r s = rw (← r, ← q) (sym p ∙ s)

cells_are : (fields deref : List (Bor (List ℕ))) (used cells : List (List ℕ)) (places : List ℕ)
    → cells ≡ cells_at (map (λ s. s.now) deref) places → deref ≡ fields
    → map (λ s. s.now) fields ≡ used → cells ≡ cells_at used places
cells_are fields deref used cells places p q r = rw (← r, ← q) p

empty_test : (cells deref : List (Bor (List ℕ))) (all : List (List ℕ)) (b t : Bool)
    → b ≡ list_all (λ text. length text.now == 0) deref → deref ≡ cells
    → map (λ s. s.now) cells ≡ all → b ≡ t → list_all (λ text. length text == 0) all ≡ t
empty_test cells deref all b t p q r s =
    rw (← r, ← q)
    (list_all-map (λ (text : List ℕ). length text == 0) (λ (s : Bor (List ℕ)). s.now) deref ∙ sym p
    ∙ s)

pub returns-then-len-names : goal.returns-then-len-names
returns-then-len-names c =
    row_cells-unequal _ c.args.places.now c.args.number (fields_of c.args.row.now)
    (λ e. c.if-len-names.true (c.len.ensures ∙ e ∙ length-map c.args.names.now _))

pub returns-then-same_fields : goal.returns-then-same_fields
returns-then-same_fields c =
    let same =
    sym c.len.ensures ∙ c.if-len-names.false
    ∙ sym (length-map c.args.names.now (λ (s : Bor (List ℕ)). s.now)) in
    let cells =
    cells_are _ _ _ _ c.args.places.now c.in_ok-cells.ensures c.deref.ensures.value
    c.in_ok-fields.ensures in
    row_cells-skipped _ c.args.places.now c.args.number (fields_of c.args.row.now) same
    (elim c.then-same_fields.branch [
      | then-same_fields-via-then-same_fields w ↦
          is_skipped-same (map (λ (s : Bor (List ℕ)). s.now) c.args.names.now)
          (used_fields (fields_of c.args.row.now)) c.args.places.now
          (header_test c.args.names.now _ _ _ _ true c.same_fields.ensures c.deref-2.ensures.value
          c.in_ok-fields.ensures w.if-same_fields.true)
      | then-same_fields-via-else-same_fields+then-are_empty w ↦
          is_skipped-by (map (λ (s : Bor (List ℕ)). s.now) c.args.names.now)
          (used_fields (fields_of c.args.row.now)) c.args.places.now true
          (header_test c.args.names.now _ _ _ _ false c.same_fields.ensures
          c.deref-2.ensures.value c.in_ok-fields.ensures w.if-same_fields.false)
          (empty_test _ _ _ _ true w.are_empty.ensures w.deref-else-same_fields.ensures.value cells
          w.if-are_empty.true)
    ])

pub returns : goal.returns
returns c =
    let same =
    sym c.len.ensures ∙ c.if-len-names.false
    ∙ sym (length-map c.args.names.now (λ (s : Bor (List ℕ)). s.now)) in
    let cells =
    cells_are _ _ _ _ c.args.places.now c.in_ok-cells.ensures c.deref.ensures.value
    c.in_ok-fields.ensures in
    row_cells-used _ c.args.places.now c.args.number (fields_of c.args.row.now) same
    (is_skipped-by (map (λ (s : Bor (List ℕ)). s.now) c.args.names.now)
    (used_fields (fields_of c.args.row.now)) c.args.places.now false
    (header_test c.args.names.now _ _ _ _ false c.same_fields.ensures c.deref-2.ensures.value
    c.in_ok-fields.ensures c.if-same_fields.false)
    (empty_test _ _ _ _ false c.are_empty.ensures c.deref-else-same_fields.ensures.value cells
    c.if-are_empty.false))
    ∙ ap {B = Result (Option (List (List ℕ))) TableFault} (λ (t : List (List ℕ)). Ok (Some t))
    (sym cells)
