-- The fault of Table B comes first, then the fault of Table D.
use Rattle.bufr_io.specs.Loads.{Loads}
use Rattle.bufr_base.specs.Answers.{result_map}
use Rattle.bufr_io.proofs.LoadFacts.{stops_at_b, stops_at_d}
use Rattle.bufr_io.specs.PassingLaws.{passed}
use Rattle.bufr_io.proofs.tables.load_tables.Goals as goal

pub returns-in_err-elements-clause-loads : goal.returns-in_err-elements-clause-loads
returns-in_err-elements-clause-loads g c =
    let b = g.B.Source.reading c.args.b.now in
    let b' = g.B.Source.reading c.elements_of.new.b in
    let d = g.D.Source.reading c.args.d.now in
    passed (λ r. Loads c.args.reads b b' d d (result_map (λ tables. tables) r))
    c.from_residual.result c.in_err-elements.field-0.0 c.from_residual.ensures.1
    (stops_at_b c.args.reads b b' d c.in_err-elements.field-0.0 c.in_err-elements.ensures.loads)

pub returns-in_err-sequences-clause-loads : goal.returns-in_err-sequences-clause-loads
returns-in_err-sequences-clause-loads g c =
    let b = g.B.Source.reading c.args.b.now in
    let b' = g.B.Source.reading c.elements_of.new.b in
    let d = g.D.Source.reading c.args.d.now in
    let d' = g.D.Source.reading c.sequences_of.new.d in
    passed (λ r. Loads c.args.reads b b' d d' (result_map (λ tables. tables) r))
    c.from_residual-in_err-sequences.result c.in_err-sequences.field-0.0
    c.from_residual-in_err-sequences.ensures.1
    (stops_at_d c.args.reads b b' d d' c.in_ok-elements.elements c.in_err-sequences.field-0.0
    c.in_ok-elements.ensures.loads c.in_err-sequences.ensures.loads)
