-- A column has a text for each of its subsets.
use Rattle.bufr_data.proofs.CompressedFacts.Lent.{text_is, text_formed}
use Rattle.bufr_data.proofs.compressed.index.text_there.Goals as goal

pub returns-in-Text-clause-is : goal.returns-in-Text-clause-is
returns-in-Text-clause-is c =
    let at = c.at.ensures in
    text_is c.args.octets.now c.args.subsets c.args.index c.args.place (λ t. t.now) c.lent_text.result
    c.requires.stands c.requires.inside (rw at at c.lent_text.ensures)

pub returns-in-Text-clause-formed : goal.returns-in-Text-clause-formed
returns-in-Text-clause-formed c =
    let at = c.at.ensures in
    text_formed c.args.octets.now c.args.subsets c.args.index c.args.place (λ t. t.now) c.lent_text.result
    c.requires.stands c.requires.inside (rw at at c.lent_text.ensures)
