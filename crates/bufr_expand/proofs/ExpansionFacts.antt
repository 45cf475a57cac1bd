-- The nodes made and those of the descriptors left add up to the expansion.
use Rattle.std.proofs.Common.{◌≡◌, ℕ, zero, suc, ◌+◌, ◌-◌, List, [], ◌∷◌, ◌++◌, length, drop}
use Rattle.std.proofs.Common.{set, Ok, Err, refl, sym, ap, ◌∙◌, arith, append_assoc}
use Rattle.std.proofs.Common.{length-append, Bool, true, false, cond, ltb, ◌⊎◌, inl, inr}
use Rattle.std.proofs.lemmas.List.{append-nil}
use Rattle.std.proofs.Math.Seq.{set-append_seam}
use Rattle.bufr_base.specs.Answers.{Fails, ◌>>=◌}
use Rattle.bufr_base.specs.AnswerLaws.{bind_ok, bind_err, ok_is, err_is}
use Rattle.bufr_base.specs.declared.failure.Failure.{Failure}
use Rattle.bufr_base.specs.declared.failure.Failure.TheVariants.{Fault, OutOfMemory}
use Rattle.bufr_tables.specs.Entries.{Entries}
use Rattle.bufr_expand.specs.Limits.{most_nodes}
use Rattle.bufr_expand.specs.declared.node.Node.{Node}
use Rattle.bufr_expand.specs.declared.node.Repetitions.{Repetitions}
use Rattle.bufr_expand.specs.declared.node.TemplateFault.{TemplateFault}
use Rattle.bufr_expand.specs.declared.node.TemplateFault.TheVariants.{TooManyNodes}
use Rattle.bufr_expand.specs.Expansion.{Expansion, Deeper, FirstPart, Finding, replication}
use Rattle.bufr_expand.specs.Expansion.{found_at, part_nodes, single_nodes, replication_node}
use Rattle.bufr_expand.specs.Expansion.{expand_list, expand_within, onto, first_onto}

pub onto_ok : (before : List Node) (m : Expansion) (after : List Node) → Ok after ≡ onto before m
    → (ns : List Node) × (m ≡ Ok ns) × (after ≡ before ++ ns)
onto_ok before (Ok ns) after e = (ns, refl, cc)
onto_ok before (Err f) after e = absurd (cc)

pub onto_err : (before : List Node) (m : Expansion) (f : TemplateFault) → onto before m ≡ Err f
    → m ≡ Err f
onto_err before (Ok ns) f e = absurd (cc)
onto_err before (Err g) f e = cc

pub room_ok : (b : Bool) (x : Expansion) (ns : List Node) → cond b x (Err TooManyNodes) ≡ Ok ns
    → (b ≡ true) × (x ≡ Ok ns)
room_ok true x ns e = (refl, e)
room_ok false x ns e = absurd (cc)

pub room_err : (b : Bool) (x : Expansion) (f : TemplateFault) → cond b x (Err TooManyNodes) ≡ Err f
    → ((b ≡ true) × (x ≡ Err f)) ⊎ ((b ≡ false) × (TooManyNodes ≡ f))
room_err true x f e = inl (refl, e)
room_err false x f e = inr (refl, cc)

pub onto_append : (before ns : List Node) (m : Expansion)
    → onto before (m >>= λ rest. Ok (ns ++ rest)) ≡ onto (before ++ ns) m
onto_append before ns (Ok rest) = ap Ok (sym (append_assoc before ns rest))
onto_append before ns (Err f) = refl

pub expand_list-skip : (tables : Entries) (deeper : Deeper) (s r skip used : ℕ) (list : List ℕ)
    → expand_list tables deeper s r skip used list
    ≡ expand_list tables deeper s r 0 used (drop skip list)
unfolding expand_list
expand_list-skip tables deeper s r zero used [] = refl
expand_list-skip tables deeper s r zero used (d ∷ behind) = refl
expand_list-skip tables deeper s r (suc skip) used [] = refl
expand_list-skip tables deeper s r (suc skip) used (d ∷ behind) =
    expand_list-skip tables deeper s r skip used behind

-- the expansion after the nodes of the first part
abbrev after_first : Entries → Deeper → ℕ → ℕ → ℕ → List ℕ → ℕ → List Node → Expansion
after_first tables deeper s r used behind taken first =
    expand_list tables deeper s r taken (used + length first) behind >>= λ rest. Ok (first ++ rest)

-- the expansion after a part
abbrev after_found : Entries → Deeper → ℕ → ℕ → ℕ → List ℕ → FirstPart → Expansion
after_found tables deeper s r used behind next =
    part_nodes deeper s r used next.part >>= after_first tables deeper s r used behind next.taken

pub expand_list-found : (tables : Entries) (deeper : Deeper) (s r used d : ℕ) (behind : List ℕ)
    (m : Finding) → m ≡ found_at tables d behind
    → expand_list tables deeper s r 0 used (d ∷ behind)
    ≡ (m >>= after_found tables deeper s r used behind)
unfolding expand_list
expand_list-found tables deeper s r used d behind m e =
    ap (λ (x : Finding). x >>= after_found tables deeper s r used behind) (sym e)

-- the nodes made, and then those of a list
abbrev pub expanded : Entries → ℕ → ℕ → List Node → List ℕ → Expansion
expanded tables s r nodes list = onto nodes
    (expand_list tables (expand_within (s + r) tables) s r 0 (length nodes) list)

pub expanded_fault : (tables : Entries) (s r d : ℕ) (nodes : List Node) (behind : List ℕ)
    (f : TemplateFault) → Err f ≡ found_at tables d behind
    → expanded tables s r nodes (d ∷ behind) ≡ Err f
expanded_fault tables s r d nodes behind f e =
    ap (onto nodes) (expand_list-found tables (expand_within (s + r) tables) s r
    (length nodes) d behind (Err f) e)

pub expanded_part_fault : (tables : Entries) (s r d : ℕ) (nodes : List Node) (behind : List ℕ)
    (next : FirstPart) (e : Failure TemplateFault) → Ok next ≡ found_at tables d behind
    → Fails e (onto nodes (part_nodes (expand_within (s + r) tables) s r (length nodes) next.part))
    → Fails e (expanded tables s r nodes (d ∷ behind))
expanded_part_fault tables s r d nodes behind next OutOfMemory h k = tt
expanded_part_fault tables s r d nodes behind next (Fault f) h k =
    let p = onto_err nodes (part_nodes (expand_within (s + r) tables) s r (length nodes) next.part)
    f k in
    ap (onto nodes) (expand_list-found tables (expand_within (s + r) tables) s r
    (length nodes) d behind (Ok next) h)
    ∙ ap (λ (x : Expansion). onto nodes
    (x >>= after_first tables (expand_within (s + r) tables) s r
    (length nodes) behind next.taken)) p

pub expanded_more : (tables : Entries) (s r d : ℕ) (nodes after : List Node) (behind : List ℕ)
    (next : FirstPart) → Ok next ≡ found_at tables d behind
    → onto nodes (part_nodes (expand_within (s + r) tables) s r (length nodes) next.part) ≡ Ok after
    → expanded tables s r nodes (d ∷ behind) ≡ expanded tables s r after (drop next.taken behind)
expanded_more tables s r d nodes after behind next h k =
    let p = onto_ok nodes (part_nodes (expand_within (s + r) tables) s r (length nodes) next.part)
    after (sym k) in
    let deeper : Deeper = expand_within (s + r) tables in
    ap (onto nodes) (expand_list-found tables (expand_within (s + r) tables) s r
    (length nodes) d behind (Ok next) h)
    ∙ ap (λ (x : Expansion). onto nodes
    (x >>= after_first tables (expand_within (s + r) tables) s r (length nodes) behind next.taken))
    p.1
    ∙ onto_append nodes p.0 (expand_list tables (expand_within (s + r) tables) s r next.taken
    (length nodes + length p.0) behind)
    ∙ ap (onto (nodes ++ p.0)) (expand_list-skip tables
    (expand_within (s + r) tables) s r next.taken (length nodes + length p.0) behind)
    ∙ ap (λ (n : ℕ). onto (nodes ++ p.0)
    (expand_list tables (expand_within (s + r) tables) s r 0 n (drop next.taken behind)))
    (sym (length-append nodes p.0))
    ∙ ap (λ (ns : List Node). expanded tables s r ns (drop next.taken behind)) (sym p.2)

pub expanded_nothing : (tables : Entries) (s r : ℕ) (nodes : List Node) (list : List ℕ)
    → length list ≡ 0 → expanded tables s r nodes list ≡ Ok nodes
unfolding expand_list
expanded_nothing tables s r nodes [] e = ap Ok (append-nil nodes)
expanded_nothing tables s r nodes (d ∷ behind) e = absurd (omega arith)

sized : (nodes ns : List Node) (head : Repetitions)
    → set ((nodes ++ replication_node head 0 ∷ []) ++ ns) (length nodes)
    (replication_node head (length ((nodes ++ replication_node head 0 ∷ []) ++ ns) - length
    nodes - 1)) ≡ nodes ++ (replication_node head (length ns) ∷ ns)
sized nodes ns head =
    let all : List Node = (nodes ++ replication_node head 0 ∷ []) ++ ns in
    let same : all ≡ nodes ++ (replication_node head 0 ∷ ns) =
    append_assoc nodes (replication_node head 0 ∷ []) ns in
    let long : length all ≡ length nodes + suc (length ns) = ap length same
    ∙ length-append nodes (replication_node head 0 ∷ ns) in
    let size : length all - length nodes - 1 ≡ length ns = omega arith in
    ap (λ (n : ℕ). set all (length nodes) (replication_node head n)) size
    ∙ ap (λ (l : List Node). set l (length nodes) (replication_node head (length ns))) same
    ∙ set-append_seam nodes (replication_node head 0) ns (replication_node head (length ns))

replicated_by : (b : Bool) (deeper : Deeper) (s p : ℕ) (nodes mid after : List Node)
    (head : Repetitions) (body : List ℕ)
    → onto nodes (cond b (Ok (replication_node head 0 ∷ [])) (Err TooManyNodes)) ≡ Ok mid
    → onto mid (deeper s p (length mid) body) ≡ Ok after
    → onto nodes (cond b (deeper s p (length nodes + 1) body
    >>= λ ns. Ok (replication_node head (length ns) ∷ ns)) (Err TooManyNodes))
    ≡ Ok (set after (length nodes) (replication_node head (length after - length nodes - 1)))
replicated_by false deeper s p nodes mid after head body h k = absurd (cc)
replicated_by true deeper s p nodes mid after head body h k =
    let q = onto_ok mid (deeper s p (length mid) body) after (sym k) in
    let same : mid ≡ nodes ++ replication_node head 0 ∷ [] = cc in
    let long : length nodes + 1 ≡ length mid =
    sym (ap length same ∙ length-append nodes (replication_node head 0 ∷ [])) in
    let all : after ≡ (nodes ++ replication_node head 0 ∷ []) ++ q.0 = q.2
    ∙ ap (λ (l : List Node). l ++ q.0) same in
    ap (λ (x : Expansion). onto nodes (x >>= λ ns. Ok (replication_node head (length ns) ∷ ns)))
    (ap (λ (n : ℕ). deeper s p n body) long ∙ q.1)
    ∙ ap Ok (sym (sized nodes q.0 head))
    ∙ ap (λ (l : List Node). Ok (set l (length nodes)
    (replication_node head (length l - length nodes - 1)))) (sym all)

pub replicated : (tables : Entries) (s p r : ℕ) (nodes mid after : List Node) (head : Repetitions)
    (body : List ℕ) → suc p ≡ r → onto nodes (single_nodes (length nodes) (replication_node head 0))
    ≡ Ok mid → onto mid (expand_within (suc (s + p)) tables s p (length mid) body) ≡ Ok after
    → onto nodes (part_nodes (expand_within (s + r) tables) s r (length nodes)
    (replication head body)) ≡ Ok (set after (length nodes)
    (replication_node head (length after - length nodes - 1)))
replicated tables s p r nodes mid after head body e h k =
    let levels : s + r ≡ suc (s + p) = omega arith in
    ap (λ (n : ℕ). onto nodes (part_nodes (expand_within n tables) s r (length nodes)
    (replication head body))) levels
    ∙ ap (λ (n : ℕ). onto nodes (part_nodes (expand_within (suc (s + p)) tables) s n (length nodes)
    (replication head body))) (sym e)
    ∙ replicated_by (ltb (length nodes) most_nodes)
    (expand_within (suc (s + p)) tables) s p nodes mid after head body h k

pub first_added : (deeper : Deeper) (s r : ℕ) (before after : List Node) (m : Finding)
    (next : FirstPart) → Ok next ≡ m
    → onto before (part_nodes deeper s r (length before) next.part) ≡ Ok after
    → first_onto deeper s r before m ≡ Ok (after, next.taken)
first_added deeper s r before after m next h k =
    ap (first_onto deeper s r before) (sym h)
    ∙ ap (λ (x : Expansion). x >>= λ ns. Ok (ns, next.taken)) k

pub first_fails : (tables : Entries) (s r d : ℕ) (nodes : List Node) (behind : List ℕ)
    (m : Finding) (e : Failure TemplateFault) → m ≡ found_at tables d behind
    → Fails e (first_onto (expand_within (s + r) tables) s r nodes m)
    → Fails e (expanded tables s r nodes (d ∷ behind))
first_fails tables s r d nodes behind m OutOfMemory h k = tt
first_fails tables s r d nodes behind (Err f) (Fault g) h k =
    expanded_fault tables s r d nodes behind f h ∙ ap (λ f. Err f) (err_is f g k)
first_fails tables s r d nodes behind (Ok next) (Fault g) h k =
    elim (bind_err (onto nodes (part_nodes (expand_within (s + r) tables) s r (length nodes)
    next.part)) (λ ns. Ok (ns, next.taken)) g k) [
      | inl fails ↦ expanded_part_fault tables s r d nodes behind next (Fault g) h fails
      | inr found ↦ let never = found.2 in absurd cc
    ]

pub first_more : (tables : Entries) (s r d taken : ℕ) (nodes after : List Node) (behind : List ℕ)
    (m : Finding) → m ≡ found_at tables d behind
    → first_onto (expand_within (s + r) tables) s r nodes m ≡ Ok (after, taken)
    → expanded tables s r nodes (d ∷ behind) ≡ expanded tables s r after (drop taken behind)
first_more tables s r d taken nodes after behind (Err f) h k = absurd cc
first_more tables s r d taken nodes after behind (Ok next) h k =
    let p = bind_ok (onto nodes (part_nodes (expand_within (s + r) tables) s r (length nodes)
    next.part)) (λ ns. Ok (ns, next.taken)) (after, taken) k in
    let same = ok_is (p.0, next.taken) (after, taken) p.2 in
    expanded_more tables s r d nodes p.0 behind next h p.1
    ∙ ap (λ (x : List Node × ℕ). expanded tables s r x.0 (drop x.1 behind)) same
