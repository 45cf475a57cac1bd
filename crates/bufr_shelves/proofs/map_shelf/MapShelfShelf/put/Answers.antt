-- An entry goes into the map of its kind.
use Rattle.bufr_shelves.proofs.PutLemmas.{keyed-stays, unkeyed-stays, keyed-changes}
use Rattle.bufr_shelves.proofs.PutLemmas.{unkeyed-changes, keyed-put, unkeyed-put}
use Rattle.bufr_shelves.proofs.map_shelf.MapShelfShelf.put.Goals as goal

pub invariant_of-self : goal.invariant_of-self
invariant_of-self c =
    keyed-stays c.raise.result c.self.inside.keyed.entries c.self.inside.unkeyed.entries
    c.raise.new.map.entries (c.in-Some.key, record { update = c.args.update; bytes = c.args.bytes })
    c.self.invariant c.raise.ensures.ok c.raise.ensures.err

pub invariant_of-self-in-None : goal.invariant_of-self-in-None
invariant_of-self-in-None c =
    unkeyed-stays c.raise-in-None.result c.self.inside.keyed.entries c.self.inside.unkeyed.entries
    c.raise-in-None.new.map.entries (c.args.bytes, c.args.update)
    c.self.invariant c.raise-in-None.ensures.ok c.raise-in-None.ensures.err

pub returns-in-Some-clause-changed : goal.returns-in-Some-clause-changed
returns-in-Some-clause-changed c =
    keyed-changes c.raise.result c.self.inside.keyed.entries c.self.inside.unkeyed.entries
    c.args.self.now c.self.view_is c.args.key
    (c.in-Some.key, record { update = c.args.update; bytes = c.args.bytes })
    c.in-Some.is c.raise.ensures.changed

pub returns-in-Some-clause-ok : goal.returns-in-Some-clause-ok
returns-in-Some-clause-ok c =
    keyed-put c.raise.result c.self.inside.keyed.entries c.self.inside.unkeyed.entries
    c.args.self.now c.self.view_is c.args.key c.raise.new.map.entries
    (c.in-Some.key, record { update = c.args.update; bytes = c.args.bytes })
    c.self.invariant c.in-Some.is c.raise.ensures.ok

pub returns-in-None-clause-changed : goal.returns-in-None-clause-changed
returns-in-None-clause-changed c =
    unkeyed-changes c.raise-in-None.result c.self.inside.keyed.entries c.self.inside.unkeyed.entries
    c.args.self.now c.self.view_is c.args.key (c.args.bytes, c.args.update)
    c.in-None.is c.raise-in-None.ensures.changed

pub returns-in-None-clause-ok : goal.returns-in-None-clause-ok
returns-in-None-clause-ok c =
    unkeyed-put c.raise-in-None.result c.self.inside.keyed.entries c.self.inside.unkeyed.entries
    c.args.self.now c.self.view_is c.args.key c.raise-in-None.new.map.entries
    (c.args.bytes, c.args.update)
    c.self.invariant c.in-None.is c.raise-in-None.ensures.ok
