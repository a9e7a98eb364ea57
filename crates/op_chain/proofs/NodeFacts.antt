-- What is known of one node and the choices that are made for it.
use Rattle.std.proofs.Common.{◌≡◌, ◌∙◌, ℕ, zero, ◌+◌, Bool, true, false, not, List, [], ◌∷◌, ◌++◌, map, length, Option, refl, sym, ap, append_assoc, get_or}
use Rattle.std.specs.Prelude.{if◌then◌else◌}
use Rattle.std.specs.List.{list_any}
use Rattle.std.specs.Option.{option_to_list}
use Rattle.ir_core.specs.declared.body.Operand.{Operand}
use Rattle.ir_core.specs.declared.body.Out.{Out}
use Rattle.ir_core.specs.Bodies.{OpTree}
use Rattle.ir_layout.specs.Nodes.{NodeTree, plain, looped}
use Rattle.op_chain.specs.declared.choices.Taking.{Taking}
use Rattle.op_chain.specs.Forward.{AllBefore, OpsForward, NodeForward}
use Rattle.op_chain.specs.Reads.{ops_operands, out_operands, end_operands, node_operands, is_result, reads}
use Rattle.op_chain.specs.Subscripts.{handed, outs_hand, body_hands, body_in}
use Rattle.op_chain.specs.Pairs.{Scope, scope_of}
use Rattle.op_chain.specs.Fusing.{moved, chosen, Made, made_by, node_with, fused_node}
use Rattle.op_chain.proofs.Keeping.{AllKept, Suits, all_left}
use Rattle.op_chain.proofs.Counting.{reads_append}
use Rattle.op_chain.proofs.Suiting.{taker_at, taker_of, suits, others_kept}
use Rattle.op_chain.proofs.Handing.{Free, same_hands, outs_moved}

-- the operands that a node reads outside its operations
abbrev pub others : NodeTree → List Operand
others (plain p b e) = (out_operands b.outs ++ option_to_list b.test) ++ end_operands e
others (looped p b next) = out_operands b.outs ++ option_to_list b.test

pub counts : (node : NodeTree) (u : ℕ) → reads u (node_operands node) ≡ reads u (ops_operands (body_in node).ops) + reads u (others node)
counts (plain p b e) u =
    ap (reads u) (append_assoc (ops_operands b.ops) (out_operands b.outs ++ option_to_list b.test) (end_operands e)) ∙ reads_append u (ops_operands b.ops) (others (plain p b e))
counts (looped p b next) u = reads_append u (ops_operands b.ops) (others (looped p b next))

pub ops_forward : (node : NodeTree) → NodeForward node → OpsForward zero (body_in node).ops
ops_forward (plain p b e) h = h.0.ops
ops_forward (looped p b next) h = h.0.ops

all_before : (n : ℕ) (xs ys : List Operand) → AllBefore n xs → AllBefore n ys → AllBefore n (xs ++ ys)
all_before n [] ys h k = k
all_before n (x ∷ xs) ys h k = (h.0, all_before n xs ys h.1 k)

pub others_before : (node : NodeTree) → NodeForward node → AllBefore (length (body_in node).ops) (others node)
others_before (plain p b e) h =
    all_before (length b.ops) (out_operands b.outs ++ option_to_list b.test) (end_operands e) (all_before (length b.ops) (out_operands b.outs) (option_to_list b.test) h.0.outs h.0.test) h.1
others_before (looped p b next) h = all_before (length b.ops) (out_operands b.outs) (option_to_list b.test) h.0.outs h.0.test

module _ (period : ℕ) (marks : List Bool) (node : NodeTree) (forward : NodeForward node) where
  abbrev pub scope : Scope
  scope = scope_of period marks node

  abbrev pub ops : List OpTree
  ops = (body_in node).ops

  abbrev pub cs : List (Option Taking)
  cs = chosen scope ops [] ops

  abbrev pub made_ : Made
  made_ = made_by ops cs

  pub node_suits : Suits ops cs
  node_suits = suits scope ops (others node) (ops_forward node forward) (counts node)

  pub node_others : AllKept ops cs (length ops) (others node)
  node_others = others_kept scope ops (others node) (ops_forward node forward) (counts node) (others_before node forward)

  not_false : (b : Bool) → not b ≡ true → b ≡ false
  not_false true e = sym e
  not_false false e = refl

  -- nothing that is paired reaches a subscript
  pub node_free : Free ops cs node_suits scope.handed
  node_free = record {
    taken = λ n e.
        let k = taker_of scope ops (others node) (ops_forward node forward) (counts node) n e in not_false (list_any (is_result n) scope.handed) k.it.parts.first_none;
    takers = λ n t e.
        let k = taker_at scope ops (others node) (ops_forward node forward) (counts node) n t e in not_false (list_any (is_result n) scope.handed) k.parts.second_none;
  }

  outs_all : AllKept ops cs (length ops) (out_operands (body_in node).outs)
  outs_all = by_node node node_others where
    by_node : (x : NodeTree) → AllKept ops cs (length ops) (others x) → AllKept ops cs (length ops) (out_operands (body_in x).outs)
    by_node (plain p b e) h = all_left ops cs (length ops) (out_operands b.outs) (option_to_list b.test) (all_left ops cs (length ops) (out_operands b.outs ++ option_to_list b.test) (end_operands e) h)
    by_node (looped p b next) h = all_left ops cs (length ops) (out_operands b.outs) (option_to_list b.test) h

  outs_some : (reaching_ : List Bool) (outs : List Out) → AllKept ops cs (length ops) (out_operands outs) → AllKept ops cs (length ops) (outs_hand reaching_ outs)
  outs_some reaching_ [] h = tt
  outs_some reaching_ (x ∷ xs) h = by_test (get_or reaching_ x.variable.0 false) (outs_some reaching_ xs h.1) where
    by_test : (b : Bool) → AllKept ops cs (length ops) (outs_hand reaching_ xs) → AllKept ops cs (length ops) (if b then x.value ∷ outs_hand reaching_ xs else outs_hand reaching_ xs)
    by_test true k = (h.0, k)
    by_test false k = k

  pub record Hands (reaching_ : List Bool) : Type 0 where
    pub kept : AllKept ops cs (length ops) (body_hands reaching_ (body_in node))
    pub same : body_hands reaching_ (body_in (fused_node period marks node)) ≡ map (moved made_.now) (body_hands reaching_ (body_in node))

  -- What reaches a subscript is renumbered and no more, where nothing that is paired does.
  pub hands_same : (reaching_ : List Bool) → Free ops cs node_suits (body_hands reaching_ (body_in node)) → Hands reaching_
  hands_same reaching_ free =
      let behind = outs_hand reaching_ (body_in node).outs in
      let s = same_hands ops cs node_suits behind (outs_some reaching_ (body_in node).outs outs_all) free in
      record { kept = s.kept; same = body_is node made_ ∙ s.same }
    where
      body_is : (x : NodeTree) (m : Made) → body_hands reaching_ (body_in (node_with x m)) ≡ handed 0 m.ops (map (moved m.now) (outs_hand reaching_ (body_in x).outs))
      body_is (plain p b e) m = ap (handed 0 m.ops) (outs_moved m.now reaching_ b.outs)
      body_is (looped p b next) m = ap (handed 0 m.ops) (outs_moved m.now reaching_ b.outs)
