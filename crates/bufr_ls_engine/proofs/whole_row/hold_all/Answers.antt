-- The clause `ok` of `hold_all`: the fields before the edition and those after the length are the row.
use Rattle.std.proofs.Common.{◌≡◌, ◌∙◌, ℕ, List, [], ◌∷◌, ◌++◌, Ok, Result, ap, sym}
use Rattle.std.proofs.lemmas.Result.{on_ok_weaker}
use Rattle.bufr_sections.specs.declared.fault.Refused.{Refused}
use Rattle.bufr_sections.specs.Sections.{Envelope}
use Rattle.bufr_io.specs.Taking.{frame_at}
use Rattle.bufr_ls_engine.specs.Columns.{all_columns}
use Rattle.bufr_ls_engine.specs.Places.{place_of}
use Rattle.bufr_ls_engine.specs.RowSteps.{fields_after_length, texts_before}
use Rattle.bufr_ls_engine.specs.Rows.{field_as, row_as, said_in}
use Rattle.bufr_ls_engine.specs.declared.column.Column.{Column}
use Rattle.bufr_ls_engine.specs.declared.column.Column.TheVariants as columns
use Rattle.bufr_ls_engine.specs.declared.whole_row.Counts.{Counts}
use Rattle.bufr_ls_engine.proofs.LineFacts.{line_is}
use Rattle.bufr_ls_engine.proofs.whole_row.hold_all.Goals as goal

-- the columns after the first
abbrev others : List Column
others =
    columns.Message ∷ columns.Place ∷ columns.Length ∷ columns.Edition ∷ columns.Centre
    ∷ columns.SubCentre ∷ columns.Update ∷ columns.Category ∷ columns.International
    ∷ columns.LocalCategory ∷ columns.MasterTable ∷ columns.MasterVersion ∷ columns.LocalVersion
    ∷ columns.Year ∷ columns.Month ∷ columns.Day ∷ columns.Hour ∷ columns.Minute ∷ columns.Second
    ∷ columns.Subsets ∷ columns.Observed ∷ columns.Compressed ∷ columns.Descriptors
    ∷ columns.Reason ∷ []

-- the row of a message with all columns
whole : (frame : Counts) (e : Envelope)
    → texts_before (place_of frame) (fields_after_length frame.octets.now e)
    ≡ row_as all_columns frame.input frame.message (frame_at frame.place frame.octets.now) (Ok e)
unfolding all_columns field_as said_in
whole frame e =
    let f : Column → List ℕ = λ column.
    field_as column frame.input frame.message (frame_at frame.place frame.octets.now) (Ok e) in
    line_is f columns.Input others

pub returns-clause-ok : goal.returns-clause-ok
returns-clause-ok c =
    let frame = c.args.frame.now in
    let old = c.args.text.now.items in
    on_ok_weaker c.hold_with.result
    (λ held e is fields. held
    ∙ ap (λ (t : List ℕ). old ++ t)
    (ap (texts_before (place_of frame)) fields ∙ whole frame e
    ∙ ap (λ (r : Result Envelope Refused). row_as all_columns frame.input frame.message
    (frame_at frame.place frame.octets.now) r) (sym is)))
    c.hold_with.ensures.ok
