use Rattle.std.proofs.Common.{◌∙◌, ap}
use Rattle.bufr_expand.specs.Templates.{template}
use Rattle.bufr_data.proofs.KeptFacts.{kept_behind}
use Rattle.bufr_data.proofs.template_cache.make_first.Goals as goal

pub returns-in_err-insert-clause-are : goal.returns-in_err-insert-clause-are
returns-in_err-insert-clause-are g c =
    kept_behind c.args.tables.now c.in_ok-own.own c.taken.new.kept.items
    c.truncate.new.self.items c.insert.new.self.items _ c.truncate.ensures.items
    c.insert.ensures.items c.in_ok-own.ensures.are
    (ap (template c.args.tables.now) c.in_ok-own.ensures.list ∙ c.in_ok-own.ensures.exact)

pub returns-clause-are : goal.returns-clause-are
returns-clause-are g c =
    kept_behind c.args.tables.now c.in_ok-own.own c.taken.new.kept.items
    c.truncate.new.self.items c.insert.new.self.items _ c.truncate.ensures.items
    c.insert.ensures.items c.in_ok-own.ensures.are
    (ap (template c.args.tables.now) c.in_ok-own.ensures.list ∙ c.in_ok-own.ensures.exact)
