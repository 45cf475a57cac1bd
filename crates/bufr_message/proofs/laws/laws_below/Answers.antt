use Rattle.bufr_message.proofs.laws.laws_below.Goals as goal

pub returns : goal.returns
returns c =
    let spelt = c.sections_are_spelt.ensures in
    let refused = c.refusals_of_sections_are_the_first.ensures in
    let templates = c.templates_are_trees.ensures in
    let held = c.data_hold_subsets.ensures in
    record {
      takes = spelt.read;
      says = spelt.spelt;
      first = refused.given;
      answered = refused.answered;
      theirs = refused.theirs;
      shortest = c.bare_spellings_are_shortest.ensures;
      builds = templates.built;
      refuses = templates.refused;
      reads = held.read;
      unread = held.refused;
      writes = held.written;
      unwritten = held.misfit;
      bare = held.bare;
      plain = held.plain;
      packable = held.packable;
    }
