-- What a selector does with one frame: the contracts of `put_view`, `put_frame` and `take`, and so that of
-- `run_select`.
use Rattle.std.proofs.Common.{◌≡◌, ℕ, ◌+◌, Bool, true, false, [], map, Option, Result, Ok, Err}
use Rattle.std.proofs.Common.{OnOk, refl, sym, ap, ◌∙◌, subst}
use Rattle.std.specs.Int.{from_bool}
use Rattle.bufr_bits.specs.Devices.{Writing}
use Rattle.bufr_frame.specs.declared.frames.Found.{Found}
use Rattle.bufr_io.specs.declared.fault.ToolFault.{ToolFault}
use Rattle.bufr_io.specs.declared.fault.ToolFault.TheVariants as faults
use Rattle.bufr_message.specs.declared.Decoded.{Decoded}
use Rattle.bufr_message.specs.declared.Message.{Message}
use Rattle.bufr_sections.specs.SectionsRead.{message_lent}
use Rattle.bufr_sections.specs.declared.lent_sections.LentSections.{LentSections}
use Rattle.bufr_select_rows.specs.Asks.{IsSetOf}
use Rattle.bufr_select_rows.specs.Rows.{Origin}
use Rattle.bufr_io.specs.HeldTexts.{Puts, PutsOrStops, WritesHeld}
use Rattle.bufr_select_engine.specs.Tells.{Tells}
use Rattle.bufr_select_rows.specs.Pairs.{message_under}
use Rattle.bufr_select_engine.specs.Selected.{Selection, from_message, message_rows, refusal_as}
use Rattle.bufr_select_engine.specs.Selected.{refusal_line, refused_as, rows_as}
use Rattle.bufr_select_rows.specs.MessageRows.{subsets_rows}
use Rattle.bufr_select_engine.specs.Selectors.{AreHeard, CountsFrame, IsReady, Keeps, TakesFrame}
use Rattle.bufr_select_engine.specs.Selectors.{selection_of}
use Rattle.bufr_select_engine.specs.Selects.{Writings}
use Rattle.bufr_io.specs.declared.held_rows.HeldRows.{HeldRows}
use Rattle.bufr_select_rows.specs.declared.pairs.Unread.{Unread}
use Rattle.bufr_select_rows.specs.declared.picker.Picker.{Picker}
use Rattle.bufr_select_engine.specs.declared.frame_selector.FrameSelector.{FrameSelector}
use Rattle.bufr_io.specs.HeldLaws.{puts_none, stops_none}
use Rattle.bufr_select_engine.proofs.ToldFacts.{tells_none}

-- ---- rows that wait

-- no row waits after they were written
pub written_none : (r r' : HeldRows) (w w' : Writing) (result : Result (Unit {0}) ToolFault)
    → WritesHeld r r' w w' result → OnOk result (r'.held.items ≡ [])
written_none r r' w w' (Ok done) h = h.1
written_none r r' w w' (Err e) h = tt

-- ---- the rows of a message

-- where they come from, by the sections that a view lends
pub from_lent : (input number place : ℕ) (s : LentSections) (m : Message)
    → message_lent s m.subsets ≡ m
    → from_message input number place (message_lent s m.subsets) ≡ from_message input number place m
from_lent input number place s m is = ap (from_message input number place) is

-- the rows that are picked are those of the selection
pub rows_picked : (p : FrameSelector) (number place : ℕ) (o : Origin) (m : Message) → IsReady p
    → o ≡ from_message p.input number place m
    → subsets_rows p.picker.each (map (λ c. c.column) p.picker.cells.items) o 1 m.subsets
    ≡ message_rows (selection_of p) p.input number place m
rows_picked p number place o m ready is =
    ap (λ cs. subsets_rows p.picker.each cs o 1 m.subsets) ready.cells
    ∙ ap (λ x. subsets_rows p.picker.each p.columns.now x 1 m.subsets) is

-- the descriptors of the cells are asked for
pub cells_covered : (p : FrameSelector) → IsReady p
    → IsSetOf p.picker.asked p.picker.each (map (λ c. c.column) p.picker.cells.items)
cells_covered p ready = subst (IsSetOf p.picker.asked p.picker.each) (sym ready.cells) ready.covers

-- a selector is ready still if its cells have their columns
pub ready_kept : (p : FrameSelector) (q : Picker) (r : HeldRows) (result : Result (Unit {0}) ToolFault)
    → IsReady p → q.each ≡ p.picker.each → q.asked ≡ p.picker.asked
    → OnOk result (map (λ c. c.column) q.cells.items ≡ map (λ c. c.column) p.picker.cells.items)
    → OnOk result (IsReady (record p { picker = q; rows = r }))
ready_kept p q r (Ok done) ready each asked cells = record {
  cells = cells ∙ ready.cells;
  covers = subst (λ a. IsSetOf a q.each p.columns.now) (sym asked)
      (subst (λ e. IsSetOf p.picker.asked e p.columns.now) (sym each) ready.covers);
}
ready_kept p q r (Err e) ready each asked cells = tt

-- and the selection stays
pub picker_kept : (p : FrameSelector) (q : Picker) (r : HeldRows) → q.each ≡ p.picker.each
    → Keeps p (record p { picker = q; rows = r })
picker_kept p q r each =
    let chosen : Option ℕ → Selection = λ e. record {
      pairs = p.pairs.items;
      columns = p.columns.now;
      each = e;
    } in
    record { selection = ap chosen each; input = refl }

-- ---- a frame

-- the rows of a frame that spells a message
pub takes_shown : (p p' : FrameSelector) (frame : Found) (w w' : Writings) (found : Decoded)
    (done : Unit {0}) → message_under p.pairs.items frame.bytes ≡ Ok found
    → PutsOrStops
    (message_rows (selection_of p) p.input (p.frames + 1) frame.place found.message) p.rows w.rows
    p'.rows w'.rows (Ok done)
    → w'.refusals ≡ w.refusals → p'.unheard ≡ p.unheard → AreHeard p w → w'.rows.failed ≡ false
    → IsReady p' → TakesFrame p frame w p' w' (Ok false)
takes_shown p p' frame w w' found done is puts same unheard heard works ready = (
  subst (λ t. Puts t p.rows w.rows p'.rows w'.rows)
      (sym (ap (rows_as (selection_of p) p.input (p.frames + 1) frame) is)) puts,
  subst (λ t. Tells t p.unheard w.refusals p'.unheard w'.refusals)
      (sym (ap (refusal_as p.input frame) is))
      (subst (λ (x : Writing). Tells [] p.unheard w.refusals p'.unheard x) (sym same)
      (subst (λ u. Tells [] p.unheard w.refusals u w.refusals) (sym unheard)
      (tells_none p.unheard w.refusals))),
  sym (ap refused_as is),
  ready,
  record {
    works = works;
    heard = ap (λ (x : Writing). x.failed) same ∙ heard.heard ∙ sym unheard;
  },
)

-- putting them stopped
pub shown_stops : (p p' : FrameSelector) (frame : Found) (w w' : Writings) (found : Decoded)
    (e : ToolFault) → message_under p.pairs.items frame.bytes ≡ Ok found
    → PutsOrStops
    (message_rows (selection_of p) p.input (p.frames + 1) frame.place found.message) p.rows w.rows
    p'.rows w'.rows (Err e)
    → w'.refusals ≡ w.refusals → p'.unheard ≡ p.unheard → TakesFrame p frame w p' w' (Err e)
shown_stops p p' frame w w' found e is stops same unheard = (
  subst (λ t. PutsOrStops t p.rows w.rows p'.rows w'.rows (Err e))
      (sym (ap (rows_as (selection_of p) p.input (p.frames + 1) frame) is)) stops,
  same,
  unheard,
)

-- the line of a refused frame
pub takes_refused : (p p' : FrameSelector) (frame : Found) (w w' : Writings) (why : Unread)
    → message_under p.pairs.items frame.bytes ≡ Err why
    → Tells (refusal_line p.input frame.place why) p.unheard w.refusals p'.unheard w'.refusals
    → p'.rows ≡ p.rows → w'.rows ≡ w.rows → AreHeard p w → w'.refusals.failed ≡ p'.unheard
    → IsReady p' → TakesFrame p frame w p' w' (Ok true)
takes_refused p p' frame w w' why is tells rows same heard heard' ready = (
  subst (λ t. Puts t p.rows w.rows p'.rows w'.rows)
      (sym (ap (rows_as (selection_of p) p.input (p.frames + 1) frame) is))
      (subst (λ (x : Writing). Puts [] p.rows w.rows p'.rows x) (sym same)
      (subst (λ (r : HeldRows). Puts [] p.rows w.rows r w.rows) (sym rows)
      (puts_none p.rows w.rows))),
  subst (λ t. Tells t p.unheard w.refusals p'.unheard w'.refusals)
      (sym (ap (refusal_as p.input frame) is)) tells,
  sym (ap refused_as is),
  ready,
  record { works = ap (λ (x : Writing). x.failed) same ∙ heard.works; heard = heard' },
)

-- memory ran out before either
pub takes_none : (p p' : FrameSelector) (frame : Found) (w w' : Writings) → AreHeard p w
    → p'.rows ≡ p.rows → w'.rows ≡ w.rows → w'.refusals ≡ w.refusals → p'.unheard ≡ p.unheard
    → TakesFrame p frame w p' w' (Err faults.OutOfMemory)
takes_none p p' frame w w' heard rows same refusals unheard =
    let text = rows_as (selection_of p) p.input (p.frames + 1) frame
    (message_under p.pairs.items frame.bytes) in (
      subst (λ (x : Writing). PutsOrStops text p.rows w.rows p'.rows x (Err faults.OutOfMemory))
          (sym same)
          (subst (λ (r : HeldRows). PutsOrStops text p.rows w.rows r w.rows
          (Err faults.OutOfMemory)) (sym rows) (stops_none text p.rows w.rows heard.works)),
      refusals,
      unheard,
    )

-- a frame that was taken counts
pub counts_frame : (p q : FrameSelector) (frame : Found) (w w' : Writings) (refused : Bool) (more : ℕ)
    (done : Unit {0}) → more ≡ from_bool refused → TakesFrame p frame w q w' (Ok refused)
    → q.frames ≡ p.frames → q.refused ≡ p.refused
    → CountsFrame p frame w
    (record q { frames = q.frames + 1; refused = q.refused + more }) w' (Ok done)
counts_frame p q frame w w' refused more done is takes frames count = (
  takes.0,
  takes.1,
  ap (λ n. n + more) count ∙ ap (λ n. p.refused + n) (is ∙ takes.2),
  record { cells = takes.3.cells; covers = takes.3.covers },
  record { works = takes.4.works; heard = takes.4.heard },
  ap (λ n. n + 1) frames,
)
