-- An expansion is refused exactly with the first fault of its list.
use Rattle.std.proofs.Common.{◌≡◌, inl, inr, ℕ, zero, suc, ◌+◌, ◌<◌, ◌≤◌}
use Rattle.std.proofs.Common.{ltb, List, [], ◌∷◌, ◌++◌, length, take, drop, Ok, Err}
use Rattle.std.proofs.Common.{refl, sym, ap, subst, ◌∙◌, arith, add-one}
use Rattle.std.proofs.lemmas.Bool.{ltb-true, ltb-false, le-ltb, cond-false}
use Rattle.std.proofs.lemmas.List.{take-append-drop, length-take-le}
use Rattle.bufr_base.specs.Answers.{◌>>=◌}
use Rattle.bufr_tables.specs.Descriptors.{x_of, y_of}
use Rattle.bufr_tables.specs.Entries.{Entries}
use Rattle.bufr_base.specs.AnswerLaws.{bind_err}
use Rattle.bufr_expand.specs.Limits.{most_nodes, most_lists}
use Rattle.bufr_expand.specs.Limits.{most_sequence_levels, most_replication_levels}
use Rattle.bufr_expand.specs.declared.node.Node.{Node}
use Rattle.bufr_expand.specs.declared.node.Node.TheVariants as nodes
use Rattle.bufr_expand.specs.declared.node.Repetitions.{Repetitions}
use Rattle.bufr_expand.specs.declared.node.Repetitions.TheVariants as repetitions
use Rattle.bufr_expand.specs.declared.node.TemplateFault.{TemplateFault}
use Rattle.bufr_expand.specs.declared.node.TemplateFault.TheVariants.{TooDeep, TooManyNodes}
use Rattle.bufr_expand.specs.Expansion.{Expansion, Deeper, FirstPart, Part, single, inner}
use Rattle.bufr_expand.specs.Expansion.{replication, text_of_characters, found, found_at}
use Rattle.bufr_expand.specs.Expansion.{part_nodes, single_nodes, replication_nodes}
use Rattle.bufr_expand.specs.Expansion.{replication_node, expand_list, expand_within, expansion}
use Rattle.bufr_expand.specs.Trees.{Tree, nodes_of}
use Rattle.bufr_expand.specs.Flat.{Flat, nothing, element_first, operator_first, text_first}
use Rattle.bufr_expand.specs.Flat.{width_first, sequence_first, repeated_first, delayed_first}
use Rattle.bufr_expand.specs.FirstFaults.{NodeFirst, element_node, operator_node, text_node}
use Rattle.bufr_expand.specs.FirstFaults.{width_node, SequenceFirst, sequence_list}
use Rattle.bufr_expand.specs.FirstFaults.{ReplicationFirst, repeated_body, delayed_body, FirstFault}
use Rattle.bufr_expand.specs.FirstFaults.{no_case, sequence_too_deep, replication_too_deep}
use Rattle.bufr_expand.specs.FirstFaults.{node_too_many, replication_too_many, in_sequence}
use Rattle.bufr_expand.specs.FirstFaults.{in_replication, behind_node, behind_sequence}
use Rattle.bufr_expand.specs.FirstFaults.{behind_replication, RefusesExactly, HasTreeOrFault}
use Rattle.bufr_expand.specs.FirstFaults.{HasNotBoth, HasOneFault, HasNoTreeAt}
use Rattle.bufr_expand.proofs.ExpansionFacts.{expand_list-found, room_ok, room_err}
use Rattle.bufr_expand.proofs.ReadingFacts.{IsRead, an_element, an_operator, a_text, a_width}
use Rattle.bufr_expand.proofs.ReadingFacts.{a_sequence, a_repeated, a_delayed, reads, has_no_case}
use Rattle.bufr_expand.proofs.FindingFacts.{found_is, fault_found}
use Rattle.bufr_expand.proofs.FlatFacts.{has_tree_within, replication_ok, Opens, opens, rest_behind}
use Rattle.bufr_expand.proofs.FlatFacts.{node_behind, replication_fits, body_behind, body_opens}
use Rattle.bufr_expand.proofs.FlatFacts.{factor_opens, flat_expands, expands_exactly}

HasFirst : Entries → List ℕ → Part → List ℕ → Type 0
HasFirst tables list (single node) behind = NodeFirst tables list behind
HasFirst tables list (inner inside) behind = SequenceFirst tables list inside behind
HasFirst tables list (replication head body) behind = ReplicationFirst tables list body behind

has_first : (tables : Entries) (d : ℕ) (behind : List ℕ) (part : Part) (taken : ℕ)
    → IsRead tables d behind part taken → HasFirst tables (d ∷ behind) part (drop taken behind)
unfolding HasFirst
has_first tables d behind part taken (an_element f k) = element_node f k
has_first tables d behind part taken (an_operator f x) = operator_node f x
has_first tables d behind part taken (a_text f x y) = text_node f x y
has_first tables d behind part taken (a_width f x y l k) = width_node f x y l k
has_first tables d behind part taken (a_sequence f k) = sequence_list f k
has_first tables d behind part taken (a_repeated f x y long) =
    let P : List ℕ → Type 0 = λ l. ReplicationFirst tables (d ∷ l) (take (x_of d) behind)
    (drop (x_of d) behind) in
    subst P (take-append-drop (x_of d) behind)
    (repeated_body f x y (length-take-le (x_of d) behind long))
has_first tables d (factor ∷ behind) part taken (a_delayed f x y i k c long) =
    let P : List ℕ → Type 0 = λ l. ReplicationFirst tables (d ∷ factor ∷ l) (take (x_of d) behind)
    (drop (x_of d) behind) in
    rw add-one (subst P (take-append-drop (x_of d) behind)
    (delayed_body f x y i k c (length-take-le (x_of d) behind long)))

AreFirst : Entries → ℕ → Type 0
AreFirst tables levels =
    (s r used : ℕ) (list : List ℕ) (f : TemplateFault) → s + r < levels → used ≤ most_nodes
    → expand_within levels tables s r used list ≡ Err f → FirstFault tables s r used list f

single_fault : (tables : Entries) (s r used : ℕ) (node : Node) (list behind : List ℕ)
    (f : TemplateFault) → NodeFirst tables list behind → single_nodes used node ≡ Err f
    → FirstFault tables s r used list f
single_fault tables s r used node list behind f front e =
    elim (room_err (ltb used most_nodes) (Ok (node ∷ [])) f e) [
      | inl h ↦ let no = h.1 in absurd (cc)
      | inr h ↦ subst (FirstFault tables s r used list) h.1
          (node_too_many front (ltb-false used most_nodes h.0))
    ]

body_fault : (tables : Entries) (levels s r used : ℕ) (head : Repetitions)
    (list body behind : List ℕ) (f : TemplateFault) → AreFirst tables levels → s + suc r ≤ levels
    → ReplicationFirst tables list body behind
    → replication_nodes (expand_within levels tables) s r used head body ≡ Err f
    → FirstFault tables s (suc r) used list f
unfolding AreFirst
body_fault tables levels s r used head list body behind f all deep front e =
    let made : List Node → Expansion = λ l. Ok (replication_node head (length l) ∷ l) in
    let inside : Expansion = expand_within levels tables s r (used + 1) body in
    elim (room_err (ltb used most_nodes) (inside >>= made) f e) [
      | inl h ↦
          let low : used < most_nodes = ltb-true used most_nodes h.0 in
          elim (bind_err inside made f h.1) [
            | inl q ↦
                in_replication front low (all s r (used + 1) body f (omega arith) (omega arith) q)
            | inr q ↦ let no = q.2 in absurd (cc)
          ]
      | inr h ↦ subst (FirstFault tables s (suc r) used list) h.1
          (replication_too_many front (ltb-false used most_nodes h.0))
    ]

part_fault : (tables : Entries) (levels s r used : ℕ) (part : Part) (list behind : List ℕ)
    (f : TemplateFault) → AreFirst tables levels → s + r ≤ levels → used ≤ most_nodes
    → HasFirst tables list part behind → part_nodes (expand_within levels tables) s r used part
    ≡ Err f → FirstFault tables s r used list f
unfolding HasFirst AreFirst
part_fault tables levels s r used (single node) list behind f all deep fits front e =
    single_fault tables s r used node list behind f front e
part_fault tables levels zero r used (inner inside) list behind f all deep fits front e =
    let same : TooDeep ≡ f = cc in
    subst (FirstFault tables zero r used list) same (sequence_too_deep front)
part_fault tables levels (suc s) r used (inner inside) list behind f all deep fits front e =
    in_sequence front (all s r used inside f (omega arith) fits e)
part_fault tables levels s zero used (replication head body) list behind f all deep fits front e =
    let same : TooDeep ≡ f = cc in
    subst (FirstFault tables s zero used list) same (replication_too_deep front)
part_fault tables levels s (suc r) used
    (replication head body) list behind f all deep fits front e =
    body_fault tables levels s r used head list body behind f all deep front e

Passes : Entries → ℕ → ℕ → ℕ → List ℕ → List ℕ → List Node → Type 0
Passes tables s r used list behind first =
    (used + length first ≤ most_nodes)
    × ((f : TemplateFault) → FirstFault tables s r (used + length first) behind f
    → FirstFault tables s r used list f)

single_passes : (tables : Entries) (s r used : ℕ) (node : Node) (list behind : List ℕ)
    (first : List Node) → NodeFirst tables list behind → single_nodes used node ≡ Ok first
    → Passes tables s r used list behind first
unfolding Passes
single_passes tables s r used node list behind first front e =
    let p = room_ok (ltb used most_nodes) (Ok (node ∷ [])) first e in
    let same : node ∷ [] ≡ first = let own = p.1 in cc in
    let long : length first ≡ 1 = ap length (sym same) in
    let low : used < most_nodes = ltb-true used most_nodes p.0 in (
      omega arith,
      λ f g. behind_node front low
          (subst (λ (n : ℕ). FirstFault tables s r (used + n) behind f) long g),
    )

body_passes : (tables : Entries) (levels s r used : ℕ) (head : Repetitions)
    (list body behind : List ℕ) (first : List Node) → ReplicationFirst tables list body behind
    → replication_nodes (expand_within levels tables) s r used head body ≡ Ok first
    → Passes tables s (suc r) used list behind first
unfolding Passes
body_passes tables levels s r used head list body behind first front e =
    let p = replication_ok (expand_within levels tables) s r used head body first e in
    let low : used < most_nodes = p.0 in
    let w = has_tree_within tables levels s r (used + 1) body p.1 (omega arith) p.2 in
    let long : length first ≡ suc (length p.1) = ap length (sym p.3) in
    let size : length (nodes_of w.0) ≡ length p.1 = ap length w.2 in
    let most : used + 1 + length p.1 ≤ most_nodes = w.3 in
    let count : used + length first ≡ used + 1 + length (nodes_of w.0) = omega arith in (
      omega arith,
      λ f g. behind_replication front w.1 (omega arith)
          (subst (λ (n : ℕ). FirstFault tables s (suc r) n behind f) count g),
    )

part_passes : (tables : Entries) (levels s r used : ℕ) (part : Part) (list behind : List ℕ)
    (first : List Node) → used ≤ most_nodes → HasFirst tables list part behind
    → part_nodes (expand_within levels tables) s r used part ≡ Ok first
    → Passes tables s r used list behind first
unfolding HasFirst Passes
part_passes tables levels s r used (single node) list behind first fits front e =
    single_passes tables s r used node list behind first front e
part_passes tables levels zero r used (inner inside) list behind first fits front e = absurd (cc)
part_passes tables levels (suc s) r used (inner inside) list behind first fits front e =
    let w = has_tree_within tables levels s r used inside first fits e in
    let size : length (nodes_of w.0) ≡ length first = ap length w.2 in
    let most : used + length first ≤ most_nodes = w.3 in (
      most,
      λ f g. behind_sequence front w.1 (omega arith)
          (subst (λ (n : ℕ). FirstFault tables (suc s) r (used + n) behind f) (sym size) g),
    )
part_passes tables levels s zero used (replication head body) list behind first fits front e =
    absurd (cc)
part_passes tables levels s (suc r) used (replication head body) list behind first fits front e =
    body_passes tables levels s r used head list body behind first front e

list_fault : (tables : Entries) (levels s r skip used : ℕ) (list : List ℕ) (f : TemplateFault)
    → AreFirst tables levels → s + r ≤ levels → used ≤ most_nodes
    → expand_list tables (expand_within levels tables) s r skip used list ≡ Err f
    → FirstFault tables s r used (drop skip list) f
unfolding expand_list Passes
list_fault tables levels s r skip used [] f all deep fits e = absurd (cc)
list_fault tables levels s r (suc skip) used (d ∷ behind) f all deep fits e =
    list_fault tables levels s r skip used behind f all deep fits e
list_fault tables levels s r zero used (d ∷ behind) f all deep fits e =
    let deeper : Deeper = expand_within levels tables in
    elim (bind_err (found_at tables d behind)
    (λ (next : FirstPart). part_nodes (expand_within levels tables) s r used next.part
    >>= λ first. expand_list tables (expand_within levels tables) s r next.taken
    (used + length first) behind >>= λ rest. Ok (first ++ rest)) f e) [
      | inl q ↦ no_case (has_no_case tables d behind f q)
      | inr next ↦
          let front = has_first tables d behind next.0.part next.0.taken
          (reads tables d behind next.0 next.1) in
          elim (bind_err (part_nodes (expand_within levels tables) s r used next.0.part)
          (λ (first : List Node). expand_list tables
          (expand_within levels tables) s r next.0.taken (used + length first) behind
          >>= λ rest. Ok (first ++ rest)) f next.2) [
            | inl q ↦ part_fault tables levels s r used next.0.part (d ∷ behind)
                (drop next.0.taken behind) f all deep fits front q
            | inr first ↦
                let pass = part_passes tables levels s r used next.0.part (d ∷ behind)
                (drop next.0.taken behind) first.0 fits front first.1 in
                elim (bind_err (expand_list tables (expand_within levels tables) s r next.0.taken
                (used + length first.0) behind) (λ (rest : List Node). Ok (first.0 ++ rest)) f
                first.2) [
                  | inl q ↦ pass.1 f (list_fault tables levels s r next.0.taken
                      (used + length first.0) behind f all deep pass.0 q)
                  | inr rest ↦ let no = rest.2 in absurd (cc)
                ]
          ]
    ]

faults_are_first : (tables : Entries) (levels : ℕ) → AreFirst tables levels
unfolding AreFirst expand_within
faults_are_first tables zero = λ s r used list f deep fits e. absurd (omega arith)
faults_are_first tables (suc levels) =
    λ s r used list f deep fits e. list_fault tables levels s r 0 used list f
    (faults_are_first tables levels) (omega arith) fits e

node_opens : (tables : Entries) (list after : List ℕ) → NodeFirst tables list after → (node : Node)
    × Opens tables list (single node) after
node_opens tables list after (element_node {fxy = d} {row = e} f k) =
    (nodes.Element d e, opens (an_element f k) refl)
node_opens tables list after (operator_node {fxy = d} f x) =
    (nodes.Operator d, opens (an_operator f x) refl)
node_opens tables list after (text_node {fxy = d} f x y) =
    (nodes.Untouched d (text_of_characters (y_of d)), opens (a_text f x y) refl)
node_opens tables list after (width_node {local} {row = e} f x y l k) =
    (nodes.Untouched local e, opens (a_width f x y l k) refl)

sequence_opens : (tables : Entries) (list inside after : List ℕ)
    → SequenceFirst tables list inside after → Opens tables list (inner inside) after
sequence_opens tables list inside after (sequence_list f k) = opens (a_sequence f k) refl

replication_opens : (tables : Entries) (list body after : List ℕ)
    → ReplicationFirst tables list body after → (head : Repetitions)
    × Opens tables list (replication head body) after
replication_opens tables list body after (repeated_body {fxy = d} f x y n) =
    (repetitions.Times (y_of d), body_opens tables d body after f x y n)
replication_opens tables list body after (delayed_body {fxy = d} {factor} {row = e} f x y i k c n) =
    (repetitions.Factor factor e, factor_opens tables d factor e body after f x y i k c n)

fault_in_front : (tables : Entries) (deeper : Deeper) (s r used : ℕ) (list after : List ℕ)
    (part : Part) (f : TemplateFault) → Opens tables list part after
    → part_nodes deeper s r used part ≡ Err f → expand_list tables deeper s r 0 used list ≡ Err f
fault_in_front tables deeper s r used list after part f (opens {d} {behind} {taken} read same) p =
    expand_list-found tables deeper s r used d behind (found part taken)
    (sym (found_is tables d behind part taken read))
    ∙ ap (λ (x : Expansion). x >>= λ first. expand_list tables deeper s r taken
    (used + length first) behind >>= λ rest. Ok (first ++ rest)) p

first_fault_expands : (tables : Entries) (s r used : ℕ) (list : List ℕ) (f : TemplateFault)
    → FirstFault tables s r used list f → (levels : ℕ) → s + r ≤ levels
    → expand_list tables (expand_within levels tables) s r 0 used list ≡ Err f
unfolding expand_within
first_fault_expands tables s r used list f (no_case {fxy = d} {behind} h) levels deep =
    expand_list-found tables (expand_within levels tables) s r used d behind (Err f)
    (sym (fault_found tables d behind f h))
first_fault_expands tables s r used list f (sequence_too_deep {inside} {behind} front) levels deep =
    fault_in_front tables (expand_within levels tables) zero r used list behind
    (inner inside) TooDeep (sequence_opens tables list inside behind front) refl
first_fault_expands tables s r used list f
    (replication_too_deep {body} {behind} front) levels deep =
    let o = replication_opens tables list body behind front in
    fault_in_front tables (expand_within levels tables) s zero used list behind
    (replication o.0 body) TooDeep o.1 refl
first_fault_expands tables s r used list f (node_too_many {behind} front full) levels deep =
    let o = node_opens tables list behind front in
    fault_in_front tables (expand_within levels tables) s r used list behind
    (single o.0) TooManyNodes o.1 (cond-false (ltb used most_nodes) _ _
    (le-ltb used most_nodes full))
first_fault_expands tables s r used list f
    (replication_too_many {replications = below} {body} {behind} front full) levels deep =
    let o = replication_opens tables list body behind front in
    fault_in_front tables (expand_within levels tables) s (suc below) used list behind
    (replication o.0 body) TooManyNodes o.1
    (cond-false (ltb used most_nodes) _ _ (le-ltb used most_nodes full))
first_fault_expands tables s r used list f (in_sequence front h) zero deep = absurd (omega arith)
first_fault_expands tables s r used list f
    (in_sequence {sequences = below} {inside} {behind} front h) (suc levels) deep =
    fault_in_front tables (expand_within (suc levels) tables) (suc below) r used list behind
    (inner inside) f (sequence_opens tables list inside behind front)
    (first_fault_expands tables below r used inside f h levels (omega arith))
first_fault_expands tables s r used list f (in_replication front low h) zero deep =
    absurd (omega arith)
first_fault_expands tables s r used list f
    (in_replication {replications = below} {body} {behind} front low h) (suc levels) deep =
    let o = replication_opens tables list body behind front in
    fault_in_front tables (expand_within (suc levels) tables) s (suc below) used list behind
    (replication o.0 body) f o.1
    (replication_fits (expand_within (suc levels) tables) s below used o.0 body (Err f) low
    (first_fault_expands tables s below (used + 1) body f h levels (omega arith)))
first_fault_expands tables s r used list f (behind_node {behind} front low h) levels deep =
    let o = node_opens tables list behind front in
    node_behind tables (expand_within levels tables) s r used list behind o.0 (Err f) o.1 low
    (first_fault_expands tables s r (used + 1) behind f h levels deep)
first_fault_expands tables s r used list f (behind_sequence front g fits h) zero deep =
    absurd (omega arith)
first_fault_expands tables s r used list f
    (behind_sequence {sequences = below} {inside} {behind} {inner = within} front g fits h)
    (suc levels) deep =
    rest_behind tables (expand_within (suc levels) tables) (suc below) r used list behind
    (inner inside) (nodes_of within) (Err f) (sequence_opens tables list inside behind front)
    (flat_expands tables below r inside within g levels used (omega arith) fits)
    (first_fault_expands tables (suc below) r (used + length (nodes_of within)) behind f h
    (suc levels) deep)
first_fault_expands tables s r used list f (behind_replication front g fits h) zero deep =
    absurd (omega arith)
first_fault_expands tables s r used list f
    (behind_replication {replications = below} {body} {behind} {inner = within} front g fits h)
    (suc levels) deep =
    let o = replication_opens tables list body behind front in
    body_behind tables (expand_within (suc levels) tables) s below used list body behind o.0
    (nodes_of within) (Err f) o.1 (omega arith)
    (flat_expands tables s below body within g levels (used + 1) (omega arith) fits)
    (first_fault_expands tables s (suc below) (used + 1 + length (nodes_of within)) behind f h
    (suc levels) deep)

FrontFound : Entries → List ℕ → Type 0
FrontFound tables [] = Unit {0}
FrontFound tables (d ∷ behind) = (next : FirstPart) × (found_at tables d behind ≡ Ok next)

front_found : (tables : Entries) (list after : List ℕ) (part : Part)
    → Opens tables list part after → FrontFound tables list
unfolding FrontFound
front_found tables list after part (opens {d} {behind} {taken} read same) =
    (record { part = part; taken = taken }, found_is tables d behind part taken read)

flat_found : (tables : Entries) (s r : ℕ) (list : List ℕ) (t : Tree) → Flat tables s r list t
    → FrontFound tables list
unfolding FrontFound
flat_found tables s r list t nothing = tt
flat_found tables s r list t (element_first f k g) =
    front_found tables list _ _ (opens (an_element f k) refl)
flat_found tables s r list t (operator_first f x g) =
    front_found tables list _ _ (opens (an_operator f x) refl)
flat_found tables s r list t (text_first f x y g) =
    front_found tables list _ _ (opens (a_text f x y) refl)
flat_found tables s r list t (width_first f x y l k g) =
    front_found tables list _ _ (opens (a_width f x y l k) refl)
flat_found tables s r list t (sequence_first f k i g) =
    front_found tables list _ _ (opens (a_sequence f k) refl)
flat_found tables s r list t (repeated_first {fxy = d} {body} {behind} f x y n i g) =
    front_found tables list _ _ (body_opens tables d body behind f x y n)
flat_found tables s r list t
    (delayed_first {fxy = d} {factor} {row = e} {body} {behind} f x y j k c n i g) =
    front_found tables list _ _ (factor_opens tables d factor e body behind f x y j k c n)

pub refuses_exactly : (tables : Entries) (list : List ℕ) (fault : TemplateFault)
    → RefusesExactly tables list fault
unfolding AreFirst expand_within
refuses_exactly tables list fault = (
  λ e. faults_are_first tables most_lists most_sequence_levels most_replication_levels 0 list fault
      (omega arith) (omega arith) e,
  λ h. first_fault_expands tables most_sequence_levels most_replication_levels 0 list fault h
      (most_sequence_levels + most_replication_levels) (omega arith),
)

tree_or_fault : (tables : Entries) (list : List ℕ) (answer : Expansion)
    → expansion tables list ≡ answer → HasTreeOrFault tables list
tree_or_fault tables list (Ok ns) e =
    let w = has_tree_within tables most_lists most_sequence_levels most_replication_levels 0 list ns
    (omega arith) e in
    let size : length (nodes_of w.0) ≡ length ns = ap length w.2 in
    let most : 0 + length ns ≤ most_nodes = w.3 in
    inl (w.0, (w.1, omega arith))
tree_or_fault tables list (Err f) e = inr (f, (refuses_exactly tables list f).0 e)

pub has_tree_or_fault : (tables : Entries) (list : List ℕ) → HasTreeOrFault tables list
has_tree_or_fault tables list = tree_or_fault tables list (expansion tables list) refl

pub has_not_both : (tables : Entries) (list : List ℕ) (tree : Tree) (fault : TemplateFault)
    → HasNotBoth tables list tree fault
has_not_both tables list tree fault h g =
    let made = (expands_exactly tables list tree).1 h in
    let refused = (refuses_exactly tables list fault).1 g in
    absurd (cc)

pub has_one_fault : (tables : Entries) (list : List ℕ) (f g : TemplateFault)
    → HasOneFault tables list f g
has_one_fault tables list f g h k =
    let one = (refuses_exactly tables list f).1 h in
    let other = (refuses_exactly tables list g).1 k in
    cc

pub has_no_tree_at : (tables : Entries) (d : ℕ) (behind : List ℕ) (fault : TemplateFault)
    → HasNoTreeAt tables d behind fault
unfolding FrontFound
has_no_tree_at tables d behind fault h s r tree g =
    let refused = fault_found tables d behind fault h in
    let front = flat_found tables s r (d ∷ behind) tree g in
    let made = front.1 in
    absurd (cc)
