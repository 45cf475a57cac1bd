-- The nodes made and those of the descriptors left stay the same in all.
use Rattle.std.proofs.Common.{◌≡◌, ◌-◌, length, drop, set, Ok, ℕ, length-drop, ap, sym, subst}
use Rattle.std.proofs.Common.{◌∙◌, ◌+◌, refl, arith}
use Rattle.std.proofs.lemmas.List.{take_all}
use Rattle.std.proofs.lemmas.Result.{err_from_is_err_and}
use Rattle.bufr_base.specs.Answers.{Fails}
use Rattle.bufr_expand.specs.Expansion.{expand_within, onto, part_nodes, replication_node}
use Rattle.bufr_expand.specs.Parts.{seen}
use Rattle.bufr_expand.specs.declared.node.Node.{Node}
use Rattle.bufr_expand.proofs.ExpansionFacts.{expanded, expanded_nothing, replicated}
use Rattle.bufr_expand.proofs.ExpansionFacts.{first_added, first_fails, first_more}
use Rattle.bufr_expand.proofs.expand.+expand.Goals as goal

pub add_first-returns-in_ok-expand-in-Replication-clause-exact :
    goal.add_first-returns-in_ok-expand-in-Replication-clause-exact
add_first-returns-in_ok-expand-in-Replication-clause-exact t c =
    let after = c.expand-in-Replication.new.nodes.items in
    let head = c.in-Replication.repetitions in
    let e = replicated c.args.tables.now c.args.sequences (c.args.replications - 1)
    c.args.replications c.args.nodes.now.items c.add_node-in-Replication.new.nodes.items after head
    c.in-Replication.body.now
    (omega arith) (rw c.replication_node.ensures at c.in_ok-add_node-in-Replication.ensures)
    c.in_ok-expand-in-Replication.ensures in
    let place : c.len-place.result ≡ length c.args.nodes.now.items =
    omega (arith, c.args.nodes.now.ok.0, c.len-place.ensures) in
    let size : length after - c.len-place.result - 1 ≡ length after - length c.args.nodes.now.items - 1 =
    ap (λ (n : ℕ). length after - n - 1) place in
    let all : c.len.result ≡ length after =
    omega (arith, c.expand-in-Replication.new.nodes.ok.0, c.len.ensures) in
    let node = c.replication_node-in-Replication.ensures
    ∙ ap (λ (n : ℕ). replication_node head n) (ap (λ (n : ℕ). n - c.len-place.result - 1) all ∙ size) in
    let closed = ap (λ (n : ℕ). set after n c.replication_node-in-Replication.result) place
    ∙ ap (λ (x : Node). set after (length c.args.nodes.now.items) x) node in
    let deeper = expand_within (c.args.sequences + c.args.replications) c.args.tables.now in
    let added : onto c.args.nodes.now.items (part_nodes deeper c.args.sequences c.args.replications
    (length c.args.nodes.now.items) (seen c.in-Ok.found).part)
    ≡ Ok (set after c.len-place.result c.replication_node-in-Replication.result) =
    rw c.in-Replication.is (e ∙ ap Ok (sym closed)) in
    first_added deeper c.args.sequences c.args.replications c.args.nodes.now.items _ _
    (seen c.in-Ok.found) c.in-Ok.ensures.value added

pub expand-returns-in_err-taken : goal.expand-returns-in_err-taken
unfolding expand_within
expand-returns-in_err-taken t c =
    let p = err_from_is_err_and c.from_residual.result c.from_residual.ensures.1 in
    let more = ap (expanded c.args.tables.now c.args.sequences c.args.replications
    c.loop-first.nodes.items) c.in-Some.ensures.cases.0 in
    rw (p.1, p.2)
    (subst (Fails _) (sym (c.loop-first.invariant ∙ more))
    (first_fails c.args.tables.now c.args.sequences c.args.replications c.in-Some.first.now
    c.loop-first.nodes.items c.in-Some.behind.now _ _ refl c.in_err-taken.ensures.exact))

pub expand-loop-first-preserved : goal.expand-loop-first-preserved
expand-loop-first-preserved t c =
    let more = ap (expanded c.args.tables.now c.args.sequences c.args.replications
    c.loop-first.nodes.items) c.in-Some.ensures.cases.0 in
    let taken = c.in_ok-taken.taken in
    let step = first_more c.args.tables.now c.args.sequences c.args.replications
    c.in-Some.first.now taken c.loop-first.nodes.items c.add_first.new.nodes.items
    c.in-Some.behind.now _ refl c.in_ok-taken.ensures.exact in
    c.loop-first.invariant ∙ more ∙ step
    ∙ ap (expanded c.args.tables.now c.args.sequences c.args.replications
    c.add_first.new.nodes.items) (sym (take_all _ (drop taken c.in-Some.behind.now)
    (omega (arith, length-drop taken c.in-Some.behind.now))))

pub expand-returns : goal.expand-returns
unfolding expand_within
expand-returns t c = c.loop-first.invariant ∙ expanded_nothing _ _ _ _ _ c.in_default.ensures.cases
