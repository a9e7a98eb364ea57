-- Fusing leaves points, targets, outs and distances as they are, and adds no operation.
use Rattle.std.proofs.Common.{◌≡◌, ◌∙◌, ◌+◌, ◌≤◌, ℕ, zero, suc, refl, sym, ap, ap₂, subst, Bool, true, false, List, [], ◌∷◌, ◌++◌, length, map, take, drop, Option, Some, None, arith, length-append}
use Rattle.std.specs.Prelude.{slice_get, option_to_list, if◌then◌else◌}
use Rattle.std.specs.List.{list_all}
use Rattle.std.specs.Option.{option_map}
use Rattle.std.proofs.lemmas.List.Folds.{list_all-append}
use Rattle.hls_base.specs.declared.number.VarId.{VarId}
use Rattle.hls_base.specs.declared.point.Point.{Point}
use Rattle.ir_core.specs.declared.body.Operand.{Operand}
use Rattle.ir_core.specs.declared.body.Out.{Out}
use Rattle.ir_core.specs.Bodies.{OpTree}
use Rattle.ir_core.specs.Trees.{BodyTree}
use Rattle.ir_layout.specs.Nodes.{EndTree, jumps, branches, chooses, returns, NodeTree, plain, looped}
use Rattle.op_chain.specs.declared.choices.Taking.{Taking}
use Rattle.op_chain.specs.Reads.{op_operands, ops_operands}
use Rattle.op_chain.specs.Subscripts.{reaching, body_in}
use Rattle.op_chain.specs.Pairs.{scope_of}
use Rattle.op_chain.specs.Fusing.{moved, moved_out, moved_case, moved_end, args_of, joined, moved_op, new_op, is_taken, emitted, Made, made, made_in, body_with, node_with, fused_node, chosen}
use Rattle.op_chain.specs.Skeletons.{targets, Skeleton, skeleton_with, skeleton, AllPass, FusingKeepsSkeletons, FusingAddsNone, FusingKeepsOperands}
use Rattle.op_chain.proofs.ValidFusing.Bridge.{both_same}
use Rattle.op_chain.proofs.ValidFusing.Fused.{first_of, second_of}

-- ---- skeletons

cases_lead : (now : List ℕ) (cases : List (Operand × ℕ)) → map (λ (c : Operand × ℕ). c.1) (map (moved_case now) cases) ≡ map (λ (c : Operand × ℕ). c.1) cases
cases_lead now [] = refl
cases_lead now (c ∷ cs) = ap (λ (l : List ℕ). c.1 ∷ l) (cases_lead now cs)

end_leads : (now : List ℕ) (e : EndTree) → targets (moved_end now e) ≡ targets e
end_leads now (jumps node) = refl
end_leads now (branches test yes_ no_) = refl
end_leads now (chooses cases other) = ap (λ (l : List ℕ). other ∷ l) (cases_lead now cases)
end_leads now (returns value) = refl

variables_stay : (now : List ℕ) (xs : List Out) → map (λ (x : Out). x.variable) (map (moved_out now) xs) ≡ map (λ (x : Out). x.variable) xs
variables_stay now [] = refl
variables_stay now (x ∷ xs) = ap (λ (l : List VarId). x.variable ∷ l) (variables_stay now xs)

distances_stay : (now : List ℕ) (xs : List Out) → map (λ (x : Out). x.value.distance) (map (moved_out now) xs) ≡ map (λ (x : Out). x.value.distance) xs
distances_stay now [] = refl
distances_stay now (x ∷ xs) = ap (λ (l : List ℕ). x.value.distance ∷ l) (distances_stay now xs)

test_stays : (now : List ℕ) (x : Option Operand) → option_map (λ (y : Operand). y.distance) (option_map (moved now) x) ≡ option_map (λ (y : Operand). y.distance) x
test_stays now None = refl
test_stays now (Some x) = refl

abbrev built : Point → Bool → List ℕ → List VarId → List ℕ → Option ℕ → Skeleton
built point loop leads variables distances test = record { point = point; loop = loop; targets = leads; variables = variables; distances = distances; test = test }

body_stays : (point : Point) (loop : Bool) (leads : List ℕ) (m : Made) (b : BodyTree) → skeleton_with point loop leads (body_with b m) ≡ skeleton_with point loop leads b
body_stays point loop leads m b =
    let distances = map (λ (x : Out). x.value.distance) (map (moved_out m.now) b.outs) in
    let test = option_map (λ (x : Operand). x.distance) (option_map (moved m.now) b.test) in
    ap (λ (l : List VarId). built point loop leads l distances test) (variables_stay m.now b.outs)
    ∙ (ap (λ (l : List ℕ). built point loop leads (map (λ (x : Out). x.variable) b.outs) l test) (distances_stay m.now b.outs)
    ∙ ap (λ (x : Option ℕ). built point loop leads (map (λ (x : Out). x.variable) b.outs) (map (λ (x : Out). x.value.distance) b.outs) x) (test_stays m.now b.test))

node_stays : (m : Made) (node : NodeTree) → skeleton (node_with node m) ≡ skeleton node
node_stays m (plain point body end_) = ap (λ (l : List ℕ). skeleton_with point false l (body_with body m)) (end_leads m.now end_) ∙ body_stays point false (targets end_) m body
node_stays m (looped point body next) = body_stays point true (next ∷ []) m body

nodes_stay : (period : ℕ) (variables : List Bool) (nodes : List NodeTree) → map skeleton (map (fused_node period variables) nodes) ≡ map skeleton nodes
nodes_stay period variables [] = refl
nodes_stay period variables (node ∷ nodes) = ap₂ (λ (x : Skeleton) (l : List Skeleton). x ∷ l) (node_stays (made_in (scope_of period variables node) (body_in node)) node) (nodes_stay period variables nodes)

pub skeletons_stay : FusingKeepsSkeletons
skeletons_stay zero variables nodes = refl
skeletons_stay (suc period) variables nodes = nodes_stay (suc period) (reaching variables nodes) nodes

-- ---- no more operations

emitted_few : (ops : List OpTree) (choices : List (Option Taking)) (now : List ℕ) (op : OpTree) → length (emitted ops choices now op) ≤ 1
emitted_few ops choices now op = by (is_taken choices (length now)) where
  by : (c : Bool) → length (if c then [] else new_op ops now op (slice_get choices (length now)) ∷ []) ≤ 1
  by true = omega arith
  by false = omega arith

made_few : (ops : List OpTree) (choices : List (Option Taking)) (count : ℕ) (now : List ℕ) (rest : List OpTree) → length (made ops choices count now rest).ops ≤ length rest
made_few ops choices count now [] = omega arith
made_few ops choices count now (op ∷ rest) =
    let first = emitted_few ops choices now op in
    let further = made_few ops choices (count + length (emitted ops choices now op)) (now ++ count ∷ []) rest in
    let sum = length-append (emitted ops choices now op) (made ops choices (count + length (emitted ops choices now op)) (now ++ count ∷ []) rest).ops in
    omega (arith, first, further, sum)

node_few : (period : ℕ) (variables : List Bool) (node : NodeTree) → length (body_in (fused_node period variables node)).ops ≤ length (body_in node).ops
node_few period variables (plain point b e) = made_few b.ops (chosen (scope_of period variables (plain point b e)) b.ops [] b.ops) zero [] b.ops
node_few period variables (looped point b n) = made_few b.ops (chosen (scope_of period variables (looped point b n)) b.ops [] b.ops) zero [] b.ops

nodes_few : (period : ℕ) (variables : List Bool) (nodes : List NodeTree) (i : ℕ) (old new : NodeTree) → slice_get nodes i ≡ Some old → slice_get (map (fused_node period variables) nodes) i ≡ Some new → length (body_in new).ops ≤ length (body_in old).ops
nodes_few period variables [] i old new at there = absurd cc
nodes_few period variables (node ∷ nodes) zero old new at there =
    let first : node ≡ old = cc in
    let second : fused_node period variables node ≡ new = cc in
    subst (λ (x : NodeTree). length (body_in x).ops ≤ length (body_in old).ops) second (subst (λ (x : NodeTree). length (body_in (fused_node period variables node)).ops ≤ length (body_in x).ops) first (node_few period variables node))
nodes_few period variables (node ∷ nodes) (suc i) old new at there = nodes_few period variables nodes i old new at there

pub adds_none : FusingAddsNone
adds_none zero variables nodes i old new at there =
    let same : old ≡ new = (let both : Some old ≡ Some new = sym at ∙ there in cc) in
    let count : length (body_in old).ops ≡ length (body_in new).ops = ap (λ (x : NodeTree). length (body_in x).ops) same in
    omega (arith, count)
adds_none (suc period) variables nodes i old new at there = nodes_few (suc period) (reaching variables nodes) nodes i old new at there

-- ---- operands

module _ (passes : Operand → Bool) (stays : (now : List ℕ) (x : Operand) → passes x ≡ true → passes (moved now x) ≡ true) where
  abbrev Pass : List Operand → Type 0
  Pass xs = list_all passes xs ≡ true

  both_pass : (xs ys : List Operand) → Pass xs → Pass ys → Pass (xs ++ ys)
  both_pass xs ys h k = list_all-append passes xs ys ∙ both_same h k

  front_pass : (xs ys : List Operand) → Pass (xs ++ ys) → Pass xs
  front_pass xs ys h = first_of (list_all passes xs) (list_all passes ys) (sym (list_all-append passes xs ys) ∙ h)

  back_pass : (xs ys : List Operand) → Pass (xs ++ ys) → Pass ys
  back_pass xs ys h = second_of (list_all passes xs) (list_all passes ys) (sym (list_all-append passes xs ys) ∙ h)

  moved_pass : (now : List ℕ) (xs : List Operand) → Pass xs → Pass (map (moved now) xs)
  moved_pass now [] h = refl
  moved_pass now (x ∷ xs) h = both_same (stays now x (first_of (passes x) _ h)) (moved_pass now xs (second_of (passes x) _ h))

  guard_pass : (now : List ℕ) (x : Option Operand) → Pass (option_to_list x) → Pass (option_to_list (option_map (moved now) x))
  guard_pass now None h = refl
  guard_pass now (Some x) h = both_same (stays now x (first_of (passes x) true h)) refl

  args_pass : (ops : List OpTree) (k : ℕ) → Pass (ops_operands ops) → Pass (args_of (slice_get ops k))
  args_pass [] k h = refl
  args_pass (op ∷ ops) zero h = front_pass op.args (option_to_list op.guard) (front_pass (op_operands op) (ops_operands ops) h)
  args_pass (op ∷ ops) (suc k) h = args_pass ops k (back_pass (op_operands op) (ops_operands ops) h)

  part_pass : (left : Bool) (xs : List Operand) → Pass xs → Pass (if left then drop 1 xs else take 1 xs)
  part_pass true [] h = refl
  part_pass true (x ∷ xs) h = second_of (passes x) _ h
  part_pass false [] h = refl
  part_pass false (x ∷ xs) h = both_same (first_of (passes x) _ h) refl

  module _ (ops : List OpTree) (choices : List (Option Taking)) (whole : list_all passes (ops_operands ops) ≡ true) where
    moved_op_pass : (now : List ℕ) (op : OpTree) → Pass (op_operands op) → Pass (op_operands (moved_op now op))
    moved_op_pass now op h =
        both_pass (map (moved now) op.args) (option_to_list (option_map (moved now) op.guard)) (moved_pass now op.args (front_pass op.args (option_to_list op.guard) h)) (guard_pass now op.guard (back_pass op.args (option_to_list op.guard) h))

    new_pass : (now : List ℕ) (op : OpTree) (choice : Option (Option Taking)) → Pass (op_operands op) → Pass (op_operands (new_op ops now op choice))
    new_pass now op None h = moved_op_pass now op h
    new_pass now op (Some None) h = moved_op_pass now op h
    new_pass now op (Some (Some t)) h =
        let args = args_of (slice_get ops t.op) in
        let own = front_pass op.args (option_to_list op.guard) h in
        both_pass (map (moved now) (joined t.pairing.left args op.args)) [] (moved_pass now (joined t.pairing.left args op.args) (both_pass args (if t.pairing.left then drop 1 op.args else take 1 op.args) (args_pass ops t.op whole) (part_pass t.pairing.left op.args own))) refl

    emitted_pass : (now : List ℕ) (op : OpTree) → Pass (op_operands op) → Pass (ops_operands (emitted ops choices now op))
    emitted_pass now op h = by (is_taken choices (length now)) where
      by : (c : Bool) → Pass (ops_operands (if c then [] else new_op ops now op (slice_get choices (length now)) ∷ []))
      by true = refl
      by false = both_pass (op_operands (new_op ops now op (slice_get choices (length now)))) [] (new_pass now op (slice_get choices (length now)) h) refl

    joined_pass : (xs ys : List OpTree) → Pass (ops_operands xs) → Pass (ops_operands ys) → Pass (ops_operands (xs ++ ys))
    joined_pass [] ys h k = k
    joined_pass (x ∷ xs) ys h k = both_pass (op_operands x) (ops_operands (xs ++ ys)) (front_pass (op_operands x) (ops_operands xs) h) (joined_pass xs ys (back_pass (op_operands x) (ops_operands xs) h) k)

    made_pass : (count : ℕ) (now : List ℕ) (rest : List OpTree) → Pass (ops_operands rest) → Pass (ops_operands (made ops choices count now rest).ops)
    made_pass count now [] h = refl
    made_pass count now (op ∷ rest) h =
        joined_pass (emitted ops choices now op) (made ops choices (count + length (emitted ops choices now op)) (now ++ count ∷ []) rest).ops (emitted_pass now op (front_pass (op_operands op) (ops_operands rest) h))
        (made_pass (count + length (emitted ops choices now op)) (now ++ count ∷ []) rest (back_pass (op_operands op) (ops_operands rest) h))

  node_pass : (period : ℕ) (variables : List Bool) (node : NodeTree) → Pass (ops_operands (body_in node).ops) → Pass (ops_operands (body_in (fused_node period variables node)).ops)
  node_pass period variables (plain point b e) h = made_pass b.ops (chosen (scope_of period variables (plain point b e)) b.ops [] b.ops) h zero [] b.ops h
  node_pass period variables (looped point b n) h = made_pass b.ops (chosen (scope_of period variables (looped point b n)) b.ops [] b.ops) h zero [] b.ops h

  nodes_pass : (period : ℕ) (variables : List Bool) (nodes : List NodeTree) → AllPass passes nodes → AllPass passes (map (fused_node period variables) nodes)
  nodes_pass period variables [] h = refl
  nodes_pass period variables (node ∷ nodes) h =
      let own = list_all passes (ops_operands (body_in node).ops) in
      both_same (node_pass period variables node (first_of own _ h)) (nodes_pass period variables nodes (second_of own _ h))

pub operands_pass : FusingKeepsOperands
operands_pass passes stays zero variables nodes h = h
operands_pass passes stays (suc period) variables nodes h = nodes_pass passes stays (suc period) (reaching variables nodes) nodes h
