use Rattle.std.proofs.Common.{◌∙◌, ◌++◌, ap, vec_len, rules}
use Rattle.std.specs.Option.{option_to_list}
use Rattle.bufr_entries.proofs.PageLemmas.{other-gone}
use Rattle.bufr_entries.proofs.waiting.drop_other.Goals as goal

pub returns : goal.returns
returns c =
    let mid = c.pop.new.self.items in
    other-gone c.args.entries.now.items mid c.pop-other.new.self.items
    c.push_reserved.new.self.items c.in-Some.last (vec_len c.pop.new.self)
    (vec_len c.pop-other.new.self) _
    (c.pop.ensures.items ∙ ap (λ r. mid ++ option_to_list r) c.in-Some.is) (search rules)
    (search rules) c.pop-other.ensures.items c.pop-other.ensures.cases
    c.push_reserved.ensures.items
