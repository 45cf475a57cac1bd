-- An expansion is the nodes of a tree exactly if its list has this tree.
use Rattle.std.proofs.Common.{◌≡◌, ℕ, zero, suc, ◌+◌, ◌<◌, ◌≤◌, cond, ltb, List}
use Rattle.std.proofs.Common.{[], ◌∷◌, ◌++◌, length, take, drop, Result, Ok, Err, Some, refl, sym}
use Rattle.std.proofs.Common.{ap, subst, ◌∙◌, arith, add-one, append_assoc, length-append}
use Rattle.std.proofs.lemmas.Bool.{ltb-true, lt-ltb, cond-true}
use Rattle.std.proofs.lemmas.List.{take-append-drop, length-take-le, drop_at, take_at}
use Rattle.std.proofs.lemmas.List.{drop_all}
use Rattle.bufr_base.specs.Answers.{◌>>=◌}
use Rattle.bufr_tables.specs.Descriptors.{f_of, x_of, y_of}
use Rattle.bufr_tables.specs.declared.element.Element.{Element}
use Rattle.bufr_tables.specs.Entries.{Entries, element, sequence}
use Rattle.bufr_base.specs.AnswerLaws.{bind_ok}
use Rattle.bufr_expand.specs.Limits.{most_nodes, most_lists}
use Rattle.bufr_expand.specs.Limits.{most_sequence_levels, most_replication_levels}
use Rattle.bufr_expand.specs.declared.node.Node.{Node}
use Rattle.bufr_expand.specs.declared.node.Node.TheVariants as nodes
use Rattle.bufr_expand.specs.declared.node.Repetitions.{Repetitions}
use Rattle.bufr_expand.specs.declared.node.Repetitions.TheVariants as repetitions
use Rattle.bufr_expand.specs.declared.node.TemplateFault.TheVariants.{TooManyNodes}
use Rattle.bufr_expand.specs.Expansion.{Expansion, Deeper, FirstPart, Part, single, inner}
use Rattle.bufr_expand.specs.Expansion.{replication, found, found_at}
use Rattle.bufr_expand.specs.Expansion.{part_nodes, single_nodes, replication_nodes}
use Rattle.bufr_expand.specs.Expansion.{replication_node, expand_list, expand_within, onto}
use Rattle.bufr_expand.specs.Trees as trees
use Rattle.bufr_expand.specs.Trees.{Tree, nodes_of, tree_of}
use Rattle.bufr_expand.specs.TreeCodes.{tree_of-nodes_of}
use Rattle.bufr_expand.specs.Flat.{Flat, nothing, element_first, operator_first, text_first}
use Rattle.bufr_expand.specs.Flat.{width_first, sequence_first, repeated_first, delayed_first}
use Rattle.bufr_expand.specs.Flat.{followed_by, IsFactor, IsCountRow, ExpandsExactly}
use Rattle.bufr_expand.specs.Flat.{ExpandsToTrees, HasOneTree, HasEnoughLevels}
use Rattle.bufr_expand.proofs.ExpansionFacts.{expand_list-skip, expand_list-found, onto_ok}
use Rattle.bufr_expand.proofs.ExpansionFacts.{room_ok}
use Rattle.bufr_expand.proofs.ReadingFacts.{IsRead, an_element, an_operator, a_text, a_width}
use Rattle.bufr_expand.proofs.ReadingFacts.{a_sequence, a_repeated, a_delayed, reads}
use Rattle.bufr_expand.proofs.FindingFacts.{found_is}

nodes_of-followed_by : (a b : Tree) → nodes_of (followed_by a b) ≡ nodes_of a ++ nodes_of b
unfolding followed_by nodes_of
nodes_of-followed_by trees.done b = refl
nodes_of-followed_by (trees.element d e rest) b =
    ap (λ (ns : List Node). nodes.Element d e ∷ ns) (nodes_of-followed_by rest b)
nodes_of-followed_by (trees.untouched d e rest) b =
    ap (λ (ns : List Node). nodes.Untouched d e ∷ ns) (nodes_of-followed_by rest b)
nodes_of-followed_by (trees.operator d rest) b =
    ap (λ (ns : List Node). nodes.Operator d ∷ ns) (nodes_of-followed_by rest b)
nodes_of-followed_by (trees.repeated times body rest) b =
    ap (λ (ns : List Node). nodes.Repeated times (length (nodes_of body)) ∷ nodes_of body ++ ns)
    (nodes_of-followed_by rest b)
    ∙ ap (λ (ns : List Node). nodes.Repeated times (length (nodes_of body)) ∷ ns)
    (sym (append_assoc (nodes_of body) (nodes_of rest) (nodes_of b)))
nodes_of-followed_by (trees.delayed d e body rest) b =
    ap (λ (ns : List Node). nodes.Delayed d e (length (nodes_of body)) ∷ nodes_of body ++ ns)
    (nodes_of-followed_by rest b)
    ∙ ap (λ (ns : List Node). nodes.Delayed d e (length (nodes_of body)) ∷ ns)
    (sym (append_assoc (nodes_of body) (nodes_of rest) (nodes_of b)))

with_rest : Part → Tree → Tree → Tree
with_rest (single (nodes.Element d e)) t rest = trees.element d e rest
with_rest (single (nodes.Untouched d e)) t rest = trees.untouched d e rest
with_rest (single (nodes.Operator d)) t rest = trees.operator d rest
with_rest (single (nodes.Repeated times size)) t rest = rest
with_rest (single (nodes.Delayed d e size)) t rest = rest
with_rest (inner list) t rest = followed_by t rest
with_rest (replication (repetitions.Times times) body) t rest = trees.repeated times t rest
with_rest (replication (repetitions.Factor d e) body) t rest = trees.delayed d e t rest

InnerFlat : Entries → ℕ → ℕ → Part → Tree → Type 0
InnerFlat tables s r (single node) t = Unit {0}
InnerFlat tables zero r (inner list) t = ⊥
InnerFlat tables (suc s) r (inner list) t = Flat tables s r list t
InnerFlat tables s zero (replication head body) t = ⊥
InnerFlat tables s (suc r) (replication head body) t = Flat tables s r body t

sequence_next : (tables : Entries) (s r d : ℕ) (behind list : List ℕ) (t rest : Tree) → 3 ≤ f_of d
    → sequence tables d ≡ Some list → InnerFlat tables s r (inner list) t
    → Flat tables s r behind rest → Flat tables s r (d ∷ behind) (followed_by t rest)
unfolding InnerFlat
sequence_next tables zero r d behind list t rest f k h g = absurd h
sequence_next tables (suc s) r d behind list t rest f k h g = sequence_first f k h g

body_next : (tables : Entries) (s r x : ℕ) (head : Repetitions) (front behind : List ℕ)
    (t rest : Tree) → x ≤ length behind
    → ((p : ℕ) (body after : List ℕ) → length body ≡ x → Flat tables s p body t
    → Flat tables s (suc p) after rest
    → Flat tables s (suc p) (front ++ (body ++ after))
    (with_rest (replication head (take x behind)) t rest))
    → InnerFlat tables s r (replication head (take x behind)) t
    → Flat tables s r (drop x behind) rest
    → Flat tables s r (front ++ behind) (with_rest (replication head (take x behind)) t rest)
unfolding InnerFlat
body_next tables s zero x head front behind t rest long make h g = absurd h
body_next tables s (suc r) x head front behind t rest long make h g =
    let P : List ℕ → Type 0 = λ l. Flat tables s (suc r) (front ++ l)
    (with_rest (replication head (take x behind)) t rest) in
    subst P (take-append-drop x behind)
    (make r (take x behind) (drop x behind) (length-take-le x behind long) h g)

flat_next : (tables : Entries) (s r d : ℕ) (behind : List ℕ) (part : Part) (taken : ℕ)
    (t rest : Tree) → IsRead tables d behind part taken → InnerFlat tables s r part t
    → Flat tables s r (drop taken behind) rest
    → Flat tables s r (d ∷ behind) (with_rest part t rest)
unfolding with_rest
flat_next tables s r d behind part taken t rest (an_element f k) h g = element_first f k g
flat_next tables s r d behind part taken t rest (an_operator f x) h g = operator_first f x g
flat_next tables s r d behind part taken t rest (a_text f x y) h g = text_first f x y g
flat_next tables s r d behind part taken t rest (a_width f x y l k) h g = width_first f x y l k g
flat_next tables s r d behind part taken t rest (a_sequence f k) h g =
    sequence_next tables s r d behind _ t rest f k h g
flat_next tables s r d behind part taken t rest (a_repeated f x y long) h g =
    body_next tables s r (x_of d) (repetitions.Times (y_of d)) (d ∷ []) behind t rest long
    (λ p body after n b a. repeated_first f x y n b a) h g
flat_next tables s r d (factor ∷ behind) part taken t rest (a_delayed {e} f x y i k c long) h g =
    let after = rw add-one at g in
    body_next tables s r (x_of d) (repetitions.Factor factor e) (d ∷ factor ∷ []) behind t rest long
    (λ p body after n b a. delayed_first f x y i k c n b a) h after

FlatOf : Entries → ℕ → ℕ → ℕ → List ℕ → List Node → Type 0
FlatOf tables s r used list ns = (t : Tree) × Flat tables s r list t × (nodes_of t ≡ ns)
    × (used ≤ most_nodes → used + length ns ≤ most_nodes)

AreFlat : Entries → Deeper → Type 0
AreFlat tables deeper = (s r used : ℕ) (list : List ℕ) (ns : List Node)
    → deeper s r used list ≡ Ok ns → FlatOf tables s r used list ns

PartFlat : Entries → ℕ → ℕ → ℕ → Part → List Node → Type 0
PartFlat tables s r used part ns =
    (t : Tree) × InnerFlat tables s r part t
    × ((rest : Tree) → nodes_of (with_rest part t rest) ≡ ns ++ nodes_of rest)
    × (used ≤ most_nodes → used + length ns ≤ most_nodes)

leaf_nodes : (tables : Entries) (d taken : ℕ) (behind : List ℕ) (node : Node) (rest : Tree)
    → IsRead tables d behind (single node) taken
    → nodes_of (with_rest (single node) trees.done rest) ≡ (node ∷ []) ++ nodes_of rest
unfolding with_rest nodes_of
leaf_nodes tables d taken behind node rest (an_element f k) = refl
leaf_nodes tables d taken behind node rest (an_operator f x) = refl
leaf_nodes tables d taken behind node rest (a_text f x y) = refl
leaf_nodes tables d taken behind node rest (a_width f x y l k) = refl

single_flat : (tables : Entries) (s r used d taken : ℕ) (behind : List ℕ) (node : Node)
    (ns : List Node) → IsRead tables d behind (single node) taken
    → single_nodes used node ≡ Ok ns → PartFlat tables s r used (single node) ns
unfolding PartFlat InnerFlat
single_flat tables s r used d taken behind node ns read e =
    let p = room_ok (ltb used most_nodes) (Ok (node ∷ [])) ns e in
    let same : node ∷ [] ≡ ns = let own = p.1 in cc in
    let long : length ns ≡ 1 = ap length (sym same) in
    let low : used < most_nodes = ltb-true used most_nodes p.0 in (
      trees.done,
      tt,
      λ rest. leaf_nodes tables d taken behind node rest read
          ∙ ap (λ (l : List Node). l ++ nodes_of rest) same,
      λ fits. omega arith,
    )

head_nodes : (head : Repetitions) (body : List ℕ) (t rest : Tree) (ns : List Node) → nodes_of t ≡ ns
    → nodes_of (with_rest (replication head body) t rest) ≡ (replication_node head (length ns) ∷ ns)
    ++ nodes_of rest
unfolding with_rest nodes_of
head_nodes (repetitions.Times times) body t rest ns e =
    ap (λ (l : List Node). nodes.Repeated times (length l) ∷ l ++ nodes_of rest) e
head_nodes (repetitions.Factor d el) body t rest ns e =
    ap (λ (l : List Node). nodes.Delayed d el (length l) ∷ l ++ nodes_of rest) e

pub replication_ok : (deeper : Deeper) (s r used : ℕ) (head : Repetitions) (body : List ℕ)
    (ns : List Node) → replication_nodes deeper s r used head body ≡ Ok ns → (used < most_nodes)
    × (within : List Node) × (deeper s r (used + 1) body ≡ Ok within)
    × (replication_node head (length within) ∷ within ≡ ns)
replication_ok deeper s r used head body ns e =
    let made : List Node → Expansion = λ l. Ok (replication_node head (length l) ∷ l) in
    let p = room_ok (ltb used most_nodes) (deeper s r (used + 1) body >>= made) ns e in
    let q = bind_ok (deeper s r (used + 1) body) made ns p.1 in
    (ltb-true used most_nodes p.0, q.0, q.1, let own = q.2 in cc)

replication_flat : (tables : Entries) (deeper : Deeper) (s r used : ℕ) (head : Repetitions)
    (body : List ℕ) (ns : List Node) → AreFlat tables deeper
    → replication_nodes deeper s r used head body ≡ Ok ns
    → PartFlat tables s (suc r) used (replication head body) ns
unfolding PartFlat InnerFlat AreFlat FlatOf
replication_flat tables deeper s r used head body ns all e =
    let p = replication_ok deeper s r used head body ns e in
    let w = all s r (used + 1) body p.1 p.2 in
    let long : length ns ≡ suc (length p.1) = ap length (sym p.3) in
    let low : used < most_nodes = p.0 in
    let fits : used + 1 + length p.1 ≤ most_nodes = w.3 (omega arith) in (
      w.0,
      w.1,
      λ rest. head_nodes head body w.0 rest p.1 w.2
          ∙ ap (λ (l : List Node). l ++ nodes_of rest) p.3,
      λ h. omega arith,
    )

part_flat : (tables : Entries) (deeper : Deeper) (s r used d taken : ℕ) (behind : List ℕ)
    (part : Part) (ns : List Node) → AreFlat tables deeper → IsRead tables d behind part taken
    → part_nodes deeper s r used part ≡ Ok ns → PartFlat tables s r used part ns
unfolding PartFlat InnerFlat AreFlat FlatOf with_rest
part_flat tables deeper s r used d taken behind (single node) ns all read e =
    single_flat tables s r used d taken behind node ns read e
part_flat tables deeper zero r used d taken behind (inner list) ns all read e = absurd (cc)
part_flat tables deeper (suc s) r used d taken behind (inner list) ns all read e =
    let w = all s r used list ns e in (
      w.0,
      w.1,
      λ rest. nodes_of-followed_by w.0 rest
          ∙ ap (λ (l : List Node). l ++ nodes_of rest) w.2,
      w.3,
    )
part_flat tables deeper s zero used d taken behind (replication head body) ns all read e =
    absurd (cc)
part_flat tables deeper s (suc r) used d taken behind (replication head body) ns all read e =
    replication_flat tables deeper s r used head body ns all e

join_flat : (tables : Entries) (s r used d : ℕ) (behind : List ℕ) (next : FirstPart)
    (first rest ns : List Node) → IsRead tables d behind next.part next.taken → first ++ rest ≡ ns
    → PartFlat tables s r used next.part first
    → FlatOf tables s r (used + length first) (drop next.taken behind) rest
    → FlatOf tables s r used (d ∷ behind) ns
unfolding FlatOf PartFlat
join_flat tables s r used d behind next first rest ns read same front back =
    let long : length ns ≡ length first + length rest = sym (ap length same)
    ∙ length-append first rest in (
      with_rest next.part front.0 back.0,
      flat_next tables s r d behind next.part next.taken front.0 back.0 read front.1 back.1,
      front.2 back.0 ∙ ap (λ (l : List Node). first ++ l) back.2 ∙ same,
      λ h. let low : used + length first ≤ most_nodes = front.3 h in
          let all_of_it : used + length first + length rest ≤ most_nodes = back.3 low in
          omega arith,
    )

list_flat : (tables : Entries) (deeper : Deeper) (s r skip used : ℕ) (list : List ℕ)
    (ns : List Node) → AreFlat tables deeper → expand_list tables deeper s r skip used list ≡ Ok ns
    → FlatOf tables s r used (drop skip list) ns
unfolding expand_list nodes_of FlatOf PartFlat
list_flat tables deeper s r skip used [] ns all e =
    let none : [] ≡ ns = cc in
    let long : length ns ≡ 0 = ap length (sym none) in
    let P : List ℕ → Type 0 = λ l. FlatOf tables s r used l ns in
    subst P (sym (drop_all skip [] (omega arith))) (trees.done, nothing, none, λ h. omega arith)
list_flat tables deeper s r (suc skip) used (d ∷ behind) ns all e =
    list_flat tables deeper s r skip used behind ns all e
list_flat tables deeper s r zero used (d ∷ behind) ns all e =
    let next = bind_ok (found_at tables d behind)
    (λ (next : FirstPart). part_nodes deeper s r used next.part
    >>= λ first. expand_list tables deeper s r next.taken (used + length first) behind
    >>= λ rest. Ok (first ++ rest)) ns e in
    let first = bind_ok (part_nodes deeper s r used next.0.part)
    (λ (first : List Node). expand_list tables deeper s r next.0.taken
    (used + length first) behind >>= λ rest. Ok (first ++ rest)) ns next.2 in
    let rest = bind_ok (expand_list tables deeper s r next.0.taken (used + length first.0) behind)
    (λ (rest : List Node). Ok (first.0 ++ rest)) ns first.2 in
    let same : first.0 ++ rest.0 ≡ ns = cc in
    let read = reads tables d behind next.0 next.1 in
    let front = part_flat tables deeper s r used d next.0.taken behind next.0.part first.0 all read
    first.1 in
    let back = list_flat tables deeper s r next.0.taken
    (used + length first.0) behind rest.0 all rest.1 in
    join_flat tables s r used d behind next.0 first.0 rest.0 ns read same front back

within_flat : (tables : Entries) (levels : ℕ) → AreFlat tables (expand_within levels tables)
unfolding AreFlat FlatOf expand_within
within_flat tables zero = λ s r used list ns e. absurd (cc)
within_flat tables (suc levels) = λ s r used list ns e. list_flat tables
    (expand_within levels tables) s r 0 used list ns (within_flat tables levels) e

pub has_tree_within : (tables : Entries) (levels s r used : ℕ) (list : List ℕ) (ns : List Node)
    → used ≤ most_nodes → expand_within levels tables s r used list ≡ Ok ns → (t : Tree)
    × Flat tables s r list t × (nodes_of t ≡ ns) × (used + length ns ≤ most_nodes)
unfolding AreFlat FlatOf
has_tree_within tables levels s r used list ns fits e =
    let w = within_flat tables levels s r used list ns e in
    (w.0, w.1, w.2, w.3 fits)

-- the part that the first descriptors of a list are, and the list after them
pub data Opens : Entries → List ℕ → Part → List ℕ → Type 0 where
  opens : {tables : Entries} {d : ℕ} {behind after : List ℕ} {part : Part} {taken : ℕ}
      → IsRead tables d behind part taken → drop taken behind ≡ after
      → Opens tables (d ∷ behind) part after

pub rest_behind : (tables : Entries) (deeper : Deeper) (s r used : ℕ) (list after : List ℕ)
    (part : Part) (first : List Node) (m : Expansion) → Opens tables list part after
    → part_nodes deeper s r used part ≡ Ok first
    → expand_list tables deeper s r 0 (used + length first) after ≡ m
    → expand_list tables deeper s r 0 used list ≡ (m >>= λ rest. Ok (first ++ rest))
rest_behind tables deeper s r used list after part first m
    (opens {d} {behind} {taken} read same) p q =
    expand_list-found tables deeper s r used d behind (found part taken)
    (sym (found_is tables d behind part taken read))
    ∙ ap (λ (x : Expansion). x >>= λ first. expand_list tables deeper s r taken
    (used + length first) behind >>= λ rest. Ok (first ++ rest)) p
    ∙ ap (λ (x : Expansion). x >>= λ rest. Ok (first ++ rest))
    (expand_list-skip tables deeper s r taken (used + length first) behind
    ∙ ap (λ (l : List ℕ). expand_list tables deeper s r 0 (used + length first) l) same ∙ q)

pub node_behind : (tables : Entries) (deeper : Deeper) (s r used : ℕ) (list after : List ℕ)
    (node : Node) (m : Expansion) → Opens tables list (single node) after → used < most_nodes
    → expand_list tables deeper s r 0 (used + 1) after ≡ m
    → expand_list tables deeper s r 0 used list ≡ (m >>= λ rest. Ok (node ∷ rest))
node_behind tables deeper s r used list after node m o low q =
    rest_behind tables deeper s r used list after (single node) (node ∷ []) m o
    (cond-true (ltb used most_nodes) _ _ (lt-ltb used most_nodes low)) q

pub replication_fits : (deeper : Deeper) (s r used : ℕ) (head : Repetitions) (body : List ℕ)
    (m : Expansion) → used < most_nodes → deeper s r (used + 1) body ≡ m
    → replication_nodes deeper s r used head body
    ≡ (m >>= λ l. Ok (replication_node head (length l) ∷ l))
replication_fits deeper s r used head body m low e =
    cond-true (ltb used most_nodes) _ _ (lt-ltb used most_nodes low)
    ∙ ap (λ (x : Expansion). x >>= λ l. Ok (replication_node head (length l) ∷ l)) e

pub body_behind : (tables : Entries) (deeper : Deeper) (s r used : ℕ) (list body after : List ℕ)
    (head : Repetitions) (within : List Node) (m : Expansion)
    → Opens tables list (replication head body) after → used < most_nodes
    → deeper s r (used + 1) body ≡ Ok within
    → expand_list tables deeper s (suc r) 0 (used + 1 + length within) after ≡ m
    → expand_list tables deeper s (suc r) 0 used list
    ≡ (m >>= λ rest. Ok ((replication_node head (length within) ∷ within) ++ rest))
body_behind tables deeper s r used list body after head within m o low e q =
    let count : used + 1 + length within ≡ used + suc (length within) = omega arith in
    rest_behind tables deeper s (suc r) used list after (replication head body)
    (replication_node head (length within) ∷ within) m o
    (replication_fits deeper s r used head body (Ok within) low e)
    (subst (λ (n : ℕ). expand_list tables deeper s (suc r) 0 n after ≡ m) count q)

pub body_opens : (tables : Entries) (d : ℕ) (body behind : List ℕ) → f_of d ≡ 1 → 0 < x_of d
    → 0 < y_of d → length body ≡ x_of d
    → Opens tables (d ∷ body ++ behind) (replication (repetitions.Times (y_of d)) body) behind
body_opens tables d body behind f x y long =
    let more = length-append body behind in
    let P : List ℕ → Type 0 = λ l. Opens tables (d ∷ body ++ behind)
    (replication (repetitions.Times (y_of d)) l) behind in
    subst P (take_at body behind (x_of d) long)
    (opens (a_repeated f x y (omega arith)) (drop_at body behind (x_of d) long))

pub factor_opens : (tables : Entries) (d factor : ℕ) (e : Element) (body behind : List ℕ)
    → f_of d ≡ 1 → 0 < x_of d → y_of d ≡ 0 → IsFactor factor → element tables factor ≡ Some e
    → IsCountRow e → length body ≡ x_of d
    → Opens tables (d ∷ factor ∷ body ++ behind) (replication (repetitions.Factor factor e) body)
    behind
factor_opens tables d factor e body behind f x y i k c long =
    let more = length-append body behind in
    let P : List ℕ → Type 0 = λ l. Opens tables (d ∷ factor ∷ body ++ behind)
    (replication (repetitions.Factor factor e) l) behind in
    subst P (take_at body behind (x_of d) long)
    (opens (a_delayed f x y i k c (omega arith)) (rw add-one (drop_at body behind (x_of d) long)))

pub flat_expands : (tables : Entries) (s r : ℕ) (list : List ℕ) (t : Tree) → Flat tables s r list t
    → (levels used : ℕ) → s + r ≤ levels → used + length (nodes_of t) ≤ most_nodes
    → expand_list tables (expand_within levels tables) s r 0 used list ≡ Ok (nodes_of t)
unfolding expand_list nodes_of expand_within
flat_expands tables s r list t nothing levels used deep fits = refl
flat_expands tables s r list t (element_first {behind} {rest} f k g) levels used deep fits =
    node_behind tables (expand_within levels tables) s r used list behind _ (Ok (nodes_of rest))
    (opens (an_element f k) refl) (omega arith)
    (flat_expands tables s r behind rest g levels (used + 1) deep (omega arith))
flat_expands tables s r list t (operator_first {behind} {rest} f x g) levels used deep fits =
    node_behind tables (expand_within levels tables) s r used list behind _ (Ok (nodes_of rest))
    (opens (an_operator f x) refl) (omega arith)
    (flat_expands tables s r behind rest g levels (used + 1) deep (omega arith))
flat_expands tables s r list t (text_first {behind} {rest} f x y g) levels used deep fits =
    node_behind tables (expand_within levels tables) s r used list behind _ (Ok (nodes_of rest))
    (opens (a_text f x y) refl) (omega arith)
    (flat_expands tables s r behind rest g levels (used + 1) deep (omega arith))
flat_expands tables s r list t (width_first {behind} {rest} f x y l k g) levels used deep fits =
    node_behind tables (expand_within levels tables) s r used list behind _ (Ok (nodes_of rest))
    (opens (a_width f x y l k) refl) (omega arith)
    (flat_expands tables s r behind rest g levels (used + 1) deep (omega arith))
flat_expands tables s r list t (sequence_first f k i g) zero used deep fits = absurd (omega arith)
flat_expands tables s r list t
    (sequence_first {sequences = below} {list = inside} {behind} {inner = within} {rest} f k i g)
    (suc levels) used deep fits =
    let joined = nodes_of-followed_by within rest in
    let long : length (nodes_of (followed_by within rest))
    ≡ length (nodes_of within) + length (nodes_of rest) = ap length joined
    ∙ length-append (nodes_of within) (nodes_of rest) in
    rest_behind tables (expand_within (suc levels) tables) (suc below) r used list behind
    (inner inside) (nodes_of within) (Ok (nodes_of rest)) (opens (a_sequence f k) refl)
    (flat_expands tables below r inside within i levels used (omega arith) (omega arith))
    (flat_expands tables (suc below) r behind rest g (suc levels)
    (used + length (nodes_of within)) deep (omega arith))
    ∙ ap Ok (sym joined)
flat_expands tables s r list t (repeated_first f x y n i g) zero used deep fits =
    absurd (omega arith)
flat_expands tables s r list t (repeated_first {replications = below} {fxy = d} {body} {behind}
    {inner = within} {rest} f x y n i g) (suc levels) used deep fits =
    let long = length-append (nodes_of within) (nodes_of rest) in
    body_behind tables (expand_within (suc levels) tables) s below used list body behind
    (repetitions.Times (y_of d)) (nodes_of within) (Ok (nodes_of rest))
    (body_opens tables d body behind f x y n) (omega arith)
    (flat_expands tables s below body within i levels (used + 1) (omega arith) (omega arith))
    (flat_expands tables s (suc below) behind rest g (suc levels)
    (used + 1 + length (nodes_of within)) deep (omega arith))
flat_expands tables s r list t (delayed_first f x y j k c n i g) zero used deep fits =
    absurd (omega arith)
flat_expands tables s r list t (delayed_first {replications = below} {fxy = d} {factor} {row = e}
    {body} {behind} {inner = within} {rest} f x y j k c n i g) (suc levels) used deep fits =
    let long = length-append (nodes_of within) (nodes_of rest) in
    body_behind tables (expand_within (suc levels) tables) s below used list body behind
    (repetitions.Factor factor e) (nodes_of within) (Ok (nodes_of rest))
    (factor_opens tables d factor e body behind f x y j k c n) (omega arith)
    (flat_expands tables s below body within i levels (used + 1) (omega arith) (omega arith))
    (flat_expands tables s (suc below) behind rest g (suc levels)
    (used + 1 + length (nodes_of within)) deep (omega arith))

bind_same : {A B F : Type 0} (m : Result A F) (f g : A → Result B F) → ((x : A) → f x ≡ g x)
    → (m >>= f) ≡ (m >>= g)
bind_same (Ok x) f g h = h x
bind_same (Err e) f g h = refl

SameBelow : Deeper → Deeper → ℕ → ℕ → Type 0
SameBelow a b s r =
    ((p used : ℕ) (list : List ℕ) → s ≡ suc p → a p r used list ≡ b p r used list)
    × ((p used : ℕ) (list : List ℕ) → r ≡ suc p → a s p used list ≡ b s p used list)

part_same : (a b : Deeper) (s r used : ℕ) (part : Part) → SameBelow a b s r
    → part_nodes a s r used part ≡ part_nodes b s r used part
unfolding SameBelow
part_same a b s r used (single node) h = refl
part_same a b zero r used (inner list) h = refl
part_same a b (suc s) r used (inner list) h = h.0 s used list refl
part_same a b s zero used (replication head body) h = refl
part_same a b s (suc r) used (replication head body) h =
    ap (λ (x : Expansion). cond (ltb used most_nodes)
    (x >>= λ l. Ok (replication_node head (length l) ∷ l)) (Err TooManyNodes))
    (h.1 r (used + 1) body refl)

list_same : (tables : Entries) (a b : Deeper) (s r skip used : ℕ) (list : List ℕ)
    → SameBelow a b s r → expand_list tables a s r skip used list
    ≡ expand_list tables b s r skip used list
unfolding expand_list
list_same tables a b s r skip used [] h = refl
list_same tables a b s r (suc skip) used (d ∷ behind) h =
    list_same tables a b s r skip used behind h
list_same tables a b s r zero used (d ∷ behind) h =
    bind_same (found_at tables d behind)
    (λ (next : FirstPart). part_nodes a s r used next.part
    >>= λ first. expand_list tables a s r next.taken (used + length first) behind
    >>= λ rest. Ok (first ++ rest)) (λ (next : FirstPart). part_nodes b s r used next.part
    >>= λ first. expand_list tables b s r next.taken (used + length first) behind
    >>= λ rest. Ok (first ++ rest))
    (λ next. ap (λ (x : Expansion). x >>= λ first. expand_list tables a s r next.taken
    (used + length first) behind >>= λ rest. Ok (first ++ rest))
    (part_same a b s r used next.part h)
    ∙ bind_same (part_nodes b s r used next.part)
    (λ (first : List Node). expand_list tables a s r next.taken (used + length first) behind
    >>= λ rest. Ok (first ++ rest)) (λ (first : List Node). expand_list tables b s r next.taken
    (used + length first) behind >>= λ rest. Ok (first ++ rest))
    (λ first. ap (λ (x : Expansion). x >>= λ rest. Ok (first ++ rest))
    (list_same tables a b s r next.taken (used + length first) behind h)))

more_levels : (tables : Entries) (levels more s r used : ℕ) (list : List ℕ) → s + r < levels
    → expand_within (levels + more) tables s r used list ≡ expand_within levels tables s r used list
unfolding expand_within SameBelow
more_levels tables zero more s r used list h = absurd (omega arith)
more_levels tables (suc levels) more s r used list h =
    let one : suc levels + more ≡ suc (levels + more) = omega arith in
    ap (λ (n : ℕ). expand_within n tables s r used list) one
    ∙ list_same tables (expand_within (levels + more) tables)
    (expand_within levels tables) s r 0 used list (
      λ p used list e. more_levels tables levels more p r used list (omega arith),
      λ p used list e. more_levels tables levels more s p used list (omega arith),
    )

pub expands_exactly : (tables : Entries) (list : List ℕ) (tree : Tree)
    → ExpandsExactly tables list tree
unfolding AreFlat FlatOf expand_within
expands_exactly tables list tree = (
  λ e. let w = within_flat tables most_lists most_sequence_levels most_replication_levels 0 list
      (nodes_of tree) e in
      let same : w.0 ≡ tree = sym (tree_of-nodes_of w.0) ∙ ap tree_of w.2 ∙ tree_of-nodes_of tree in
      let fits : 0 + length (nodes_of tree) ≤ most_nodes = w.3 (omega arith) in
      (subst (Flat tables most_sequence_levels most_replication_levels list) same w.1, omega arith),
  λ h. let fits : length (nodes_of tree) ≤ most_nodes = h.1 in
      flat_expands tables most_sequence_levels most_replication_levels list tree h.0
      (most_sequence_levels + most_replication_levels) 0 (omega arith) (omega arith),
)

pub expands_to_trees : (tables : Entries) (list : List ℕ) (ns : List Node)
    → ExpandsToTrees tables list ns
unfolding AreFlat FlatOf
expands_to_trees tables list ns e =
    let w = within_flat tables most_lists most_sequence_levels most_replication_levels 0 list ns e in
    let P : List Node → Type 0 = λ l. nodes_of (tree_of l) ≡ l in
    subst P w.2 (ap nodes_of (tree_of-nodes_of w.0))

pub has_one_tree : (tables : Entries) (list : List ℕ) (a b : Tree) → HasOneTree tables list a b
has_one_tree tables list a b h g =
    let e : Ok (nodes_of a) ≡ Ok (nodes_of b) = sym ((expands_exactly tables list a).1 h)
    ∙ (expands_exactly tables list b).1 g in
    let same : nodes_of a ≡ nodes_of b = cc in
    sym (tree_of-nodes_of a) ∙ ap tree_of same ∙ tree_of-nodes_of b

pub has_enough_levels : (tables : Entries) (list : List ℕ) (more : ℕ)
    → HasEnoughLevels tables list more
has_enough_levels tables list more =
    more_levels tables most_lists more most_sequence_levels most_replication_levels 0 list
    (omega arith)

-- the expansion of a template's list behind so many nodes
abbrev pub from_levels : Entries → ℕ → List ℕ → Expansion
from_levels tables used list =
    expand_within most_lists tables most_sequence_levels most_replication_levels used list

pub built-well_formed : (tables : Entries) (list : List ℕ) (before after : List Node) → before ≡ []
    → onto before (from_levels tables (length before) list) ≡ Ok after
    → nodes_of (tree_of after) ≡ after
built-well_formed tables list before after none e =
    let q = onto_ok before (from_levels tables (length before) list) after (sym e) in
    let same : after ≡ q.0 = q.2 ∙ ap (λ (l : List Node). l ++ q.0) none in
    let start : length before ≡ 0 = ap length none in
    let made = ap (λ (n : ℕ). from_levels tables n list) (sym start) ∙ q.1 in
    let P : List Node → Type 0 = λ l. nodes_of (tree_of l) ≡ l in
    subst P (sym same) (expands_to_trees tables list q.0 made)
