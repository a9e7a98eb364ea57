-- A program whose nodes fit fits once pairs are fused.
use Rattle.std.proofs.Common.{◌≡◌, ◌∙◌, ◌+◌, ◌^◌, ℕ, zero, suc, refl, sym, ap, ap₂, Bool, true, cond, ◌&&◌, ◌||◌, List, [], ◌∷◌, ◌++◌, length, map, Option, Some, None, arith}
use Rattle.std.specs.Prelude.{◌==◌, nat_lt, slice_get, is_none, option_to_list}
use Rattle.std.specs.List.{list_all, list_any, count_by}
use Rattle.std.specs.Option.{option_map}
use Rattle.std.proofs.lemmas.Bool.{ltb-true, lt-ltb}
use Rattle.std.proofs.lemmas.List.{length-map}
use Rattle.std.proofs.lemmas.List.Sums.{sum_by-cons}
use Rattle.hls_base.specs.declared.point.Point.{Point}
use Rattle.ir_core.specs.declared.body.Operand.{Operand}
use Rattle.ir_core.specs.declared.body.Out.{Out}
use Rattle.ir_core.specs.declared.cfg.Frame.{Frame}
use Rattle.ir_core.specs.Trees.{BodyTree}
use Rattle.ir_layout.specs.Nodes.{EndTree, jumps, branches, chooses, returns, NodeTree, plain, looped}
use Rattle.program_validity.specs.Frames.{is_frame}
use Rattle.program_validity.specs.Bodies.{is_result_out, name_different}
use Rattle.op_chain.specs.declared.choices.Taking.{Taking}
use Rattle.op_chain.specs.Reads.{ops_operands, out_operands, body_operands, end_operands, node_operands, reads}
use Rattle.op_chain.specs.Subscripts.{reaching, body_in}
use Rattle.op_chain.specs.Pairs.{Scope, scope_of}
use Rattle.op_chain.specs.Fusing.{moved, moved_out, moved_case, moved_end, Made, made_in, body_with, fused_node, fused_nodes, chosen}
use Rattle.op_chain.proofs.ValidFusing.Trees as trees
use Rattle.op_chain.proofs.ValidFusing.Bridge.{both_same}
use Rattle.op_chain.proofs.ValidFusing.Kept.{AllKept, kept_both, others_kept, reads_both}
use Rattle.op_chain.proofs.ValidFusing.States.{State}
use Rattle.op_chain.proofs.ValidFusing.Fused.{first_of, second_of}
use Rattle.op_chain.proofs.ValidFusing.Making.{Ended, ended}
use Rattle.op_chain.proofs.ValidFusing.Outs.{test_moved, outs_moved, results_moved, outs_different, stores_moved, end_moved}

-- ---- the operands of a node

abbrev pub others : NodeTree → List Operand
others (plain point body end_) = (out_operands body.outs ++ option_to_list body.test) ++ end_operands end_
others (looped point body next) = out_operands body.outs ++ option_to_list body.test

pub counts : (node : NodeTree) (u : ℕ) → reads u (node_operands node) ≡ reads u (ops_operands (body_in node).ops) + reads u (others node)
counts (plain point body end_) u =
    let rest = out_operands body.outs ++ option_to_list body.test in
    let a = reads_both u (body_operands body) (end_operands end_) in
    let b = reads_both u (ops_operands body.ops) rest in
    let c = reads_both u rest (end_operands end_) in
    omega (arith, a, b, c)
counts (looped point body next) u = reads_both u (ops_operands body.ops) (out_operands body.outs ++ option_to_list body.test)

-- ---- bodies

module _ (f : Frame) (carried : List Out) (scope : Scope) (b : BodyTree) (more : List Operand) (count : (u : ℕ) → reads u scope.operands ≡ reads u (ops_operands b.ops) + reads u more) where
  abbrev m : Made
  m = made_in scope b

  abbrev all : List (Option Taking)
  all = chosen scope b.ops [] b.ops

  -- what is known where the old body fits
  module _ (fits : trees.body_fits f carried b ≡ true) where
    operations : trees.operations_fit f carried [] b.ops ≡ true
    operations = first_of (trees.operations_fit f carried [] b.ops) _ (second_of (nat_lt (length b.ops) (2 ^ 32)) _ fits)

    outs_fit : list_all (trees.out_fits f carried b.ops) b.outs ≡ true
    outs_fit = second_of (trees.operations_fit f carried [] b.ops) _ (second_of (nat_lt (length b.ops) (2 ^ 32)) _ fits)

    end_ : Ended f carried m.now scope b.ops more count operations [] m
    end_ = ended f carried m.now scope b.ops more count operations

    state : State all b.ops m.ops m.now
    state = end_.state

    few : nat_lt (length m.ops) (2 ^ 32) ≡ true
    few =
        let small = ltb-true (length b.ops) (2 ^ 32) (first_of (nat_lt (length b.ops) (2 ^ 32)) _ fits) in
        let less = state.few in
        lt-ltb (length m.ops) (2 ^ 32) (omega (arith, small, less))

    body_moved : AllKept all (out_operands b.outs) → trees.body_fits f (map (moved_out m.now) carried) (body_with b m) ≡ true
    body_moved kept = both_same few (both_same end_.fits (sym (outs_moved f carried m.now all b.ops m.ops m.now state b.outs kept) ∙ outs_fit))

-- ---- nodes

no_test : (x : Option Operand) (now : List ℕ) → is_none x ≡ true → is_none (option_map (moved now) x) ≡ true
no_test None now h = refl
no_test (Some x) now h = h

module _ (f : Frame) (period : ℕ) (variables : List Bool) (nodes : ℕ) where
  plain_fits : (point : Point) (b : BodyTree) (e : EndTree) → trees.node_fits f nodes (plain point b e) ≡ true → trees.node_fits f nodes (fused_node period variables (plain point b e)) ≡ true
  plain_fits point b e h =
      let node = plain point b e in
      let scope = scope_of period variables node in
      let made_ = made_in scope b in
      let body = first_of (trees.block_body_fits f b) _ h in
      let fits = second_of (is_none b.test) _ body in
      let known = state f [] scope b (others node) (counts node) fits in
      let kept = kept_both (chosen scope b.ops [] b.ops) (out_operands b.outs ++ option_to_list b.test) (end_operands e) (others_kept scope b.ops (others node) (counts node)) in
      let outs_kept = kept_both (chosen scope b.ops [] b.ops) (out_operands b.outs) (option_to_list b.test) kept.0 in
      both_same (both_same (no_test b.test made_.now (first_of (is_none b.test) _ body)) (body_moved f [] scope b (others node) (counts node) fits outs_kept.0))
      (sym (end_moved f (chosen scope b.ops [] b.ops) b.ops made_.ops made_.now known nodes e kept.1) ∙ second_of (trees.block_body_fits f b) _ h)

  looped_fits : (point : Point) (b : BodyTree) (next : ℕ) → trees.node_fits f nodes (looped point b next) ≡ true → trees.node_fits f nodes (fused_node period variables (looped point b next)) ≡ true
  looped_fits point b next h =
      let node = looped point b next in
      let scope = scope_of period variables node in
      let made_ = made_in scope b in
      let body = first_of (trees.loop_body_fits f b) _ h in
      let front = trees.body_fits f b.outs b && trees.operand_if_fits f.variables.items b.outs b.ops 1 b.test in
      let fits = first_of (trees.body_fits f b.outs b) _ (first_of front _ body) in
      let test = second_of (trees.body_fits f b.outs b) _ (first_of front _ body) in
      let results = list_all is_result_out b.outs && name_different b.outs in
      let apart : (results && trees.stores_wait b) ≡ true = second_of front _ body in
      let chosen_ = chosen scope b.ops [] b.ops in
      let known = state f b.outs scope b (others node) (counts node) fits in
      let kept = kept_both chosen_ (out_operands b.outs) (option_to_list b.test) (others_kept scope b.ops (others node) (counts node)) in
      let outs_ = outs_fit f b.outs scope b (others node) (counts node) fits in
      both_same (both_same (both_same (body_moved f b.outs scope b (others node) (counts node) fits kept.0) (sym (test_moved f b.outs made_.now chosen_ b.ops made_.ops made_.now known b.test kept.1) ∙ test))
      (both_same (both_same (sym (results_moved f b.outs made_.now chosen_ b.ops made_.ops made_.now known b.outs) ∙ first_of (list_all is_result_out b.outs) _ (first_of results _ apart))
      (outs_different f b.outs made_.now chosen_ b.ops made_.ops made_.now known b.outs kept.0 outs_ (second_of (list_all is_result_out b.outs) _ (first_of results _ apart))))
      (stores_moved f b.outs made_.now chosen_ b.ops made_.ops made_.now known b.test kept.1 test (second_of results _ apart))))
      (second_of (trees.loop_body_fits f b) _ h)

  node_fits : (node : NodeTree) → trees.node_fits f nodes node ≡ true → trees.node_fits f nodes (fused_node period variables node) ≡ true
  node_fits (plain point b e) h = plain_fits point b e h
  node_fits (looped point b next) h = looped_fits point b next h

  nodes_fit : (xs : List NodeTree) → list_all (trees.node_fits f nodes) xs ≡ true → list_all (trees.node_fits f nodes) (map (fused_node period variables) xs) ≡ true
  nodes_fit [] h = refl
  nodes_fit (x ∷ xs) h = both_same (node_fits x (first_of (trees.node_fits f nodes x) _ h)) (nodes_fit xs (second_of (trees.node_fits f nodes x) _ h))

-- ---- where control goes behind loops

module _ (period : ℕ) (variables : List Bool) where
  abbrev fuses : NodeTree → NodeTree
  fuses = fused_node period variables

  cases_lead : (n : ℕ) (now : List ℕ) (cases : List (Operand × ℕ)) → list_any (λ (c : Operand × ℕ). c.1 == n) (map (moved_case now) cases) ≡ list_any (λ (c : Operand × ℕ). c.1 == n) cases
  cases_lead n now [] = refl
  cases_lead n now (c ∷ cs) = ap (λ b. (c.1 == n) || b) (cases_lead n now cs)

  end_leads : (n : ℕ) (now : List ℕ) (e : EndTree) → trees.end_leads n (moved_end now e) ≡ trees.end_leads n e
  end_leads n now (jumps next) = refl
  end_leads n now (branches test left right) = refl
  end_leads n now (chooses cases other) = ap (λ b. (other == n) || b) (cases_lead n now cases)
  end_leads n now (returns value) = refl

  node_leads : (n : ℕ) (node : NodeTree) → trees.node_leads n (fuses node) ≡ trees.node_leads n node
  node_leads n (plain point b e) = end_leads n (made_in (scope_of period variables (plain point b e)) b).now e
  node_leads n (looped point b next) = refl

  count_leads : (n : ℕ) (xs : List NodeTree) → count_by (trees.node_leads n) (map fuses xs) ≡ count_by (trees.node_leads n) xs
  count_leads n [] = refl
  count_leads n (x ∷ xs) =
      sum_by-cons (λ (y : NodeTree). cond (trees.node_leads n y) 1 0) (fuses x) (map fuses xs)
      ∙ (ap₂ (λ (b : Bool) (k : ℕ). cond b 1 0 + k) (node_leads n x) (count_leads n xs) ∙ sym (sum_by-cons (λ (y : NodeTree). cond (trees.node_leads n y) 1 0) x xs))

  block_at_end : (p : Point) (xs : List NodeTree) (k : ℕ) → trees.is_block_at_end p (slice_get (map fuses xs) k) ≡ trees.is_block_at_end p (slice_get xs k)
  block_at_end p [] k = refl
  block_at_end p (plain point b e ∷ xs) zero = refl
  block_at_end p (looped point b next ∷ xs) zero = refl
  block_at_end p (x ∷ xs) (suc k) = block_at_end p xs k

  left_if : (first : ℕ) (nodes : List NodeTree) (node : NodeTree) → trees.is_left_if first (map fuses nodes) (fuses node) ≡ trees.is_left_if first nodes node
  left_if first nodes (plain point b e) = refl
  left_if first nodes (looped point b next) = both_same (block_at_end point nodes next) (both_same refl (ap (λ n. n == 1) (count_leads next nodes)))

  all_left : (first : ℕ) (nodes xs : List NodeTree) → list_all (trees.is_left_if first (map fuses nodes)) (map fuses xs) ≡ list_all (trees.is_left_if first nodes) xs
  all_left first nodes [] = refl
  all_left first nodes (x ∷ xs) = both_same (left_if first nodes x) (all_left first nodes xs)

-- ---- programs

fused_fit : (f : Frame) (first period : ℕ) (variables : List Bool) (nodes : List NodeTree) → trees.program_fits f first nodes ≡ true → trees.program_fits f first (map (fused_node period variables) nodes) ≡ true
fused_fit f first period variables nodes h =
    let many : length (map (fused_node period variables) nodes) ≡ length nodes = length-map nodes (fused_node period variables) in
    let consistent = (nat_lt (length nodes) (2 ^ 32) && is_frame f) && (nat_lt first (length nodes) && list_all (trees.node_fits f (length nodes)) nodes) in
    let known : consistent ≡ true = first_of consistent _ h in
    let framed = first_of (nat_lt (length nodes) (2 ^ 32) && is_frame f) _ known in
    let named = second_of (nat_lt (length nodes) (2 ^ 32) && is_frame f) _ known in
    both_same (both_same (ap (λ n. nat_lt n (2 ^ 32) && is_frame f) many ∙ framed)
    (both_same (ap (λ n. nat_lt first n) many ∙ first_of (nat_lt first (length nodes)) _ named)
    (ap (λ n. list_all (trees.node_fits f n) (map (fused_node period variables) nodes)) many ∙ nodes_fit f period variables (length nodes) nodes (second_of (nat_lt first (length nodes)) _ named))))
    (all_left period variables first nodes nodes ∙ second_of consistent _ h)

pub program_fits : (f : Frame) (first period variables : ℕ) (nodes : List NodeTree) → trees.program_fits f first nodes ≡ true → trees.program_fits f first (fused_nodes period variables nodes) ≡ true
program_fits f first zero variables nodes h = h
program_fits f first (suc period) variables nodes h = fused_fit f first (suc period) (reaching variables nodes) nodes h
