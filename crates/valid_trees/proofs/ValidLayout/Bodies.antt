-- Nodes that are valid without where they lie in memory are valid in a program.
use Rattle.std.proofs.Common.{◌≡◌, ◌<◌, ◌≤◌, ◌^◌, ℕ, zero, suc, true, not, refl, ap, arith, List, [], ◌∷◌, length, map, Some, None}
use Rattle.std.specs.Prelude.{slice_get, take, is_none}
use Rattle.std.specs.List.{list_all}
use Rattle.std.proofs.lemmas.Bool.{and_from, cases_Bool}
use Rattle.std.proofs.Common.{inl, inr}
use Rattle.hls_base.specs.declared.number.NodeId.{NodeId}
use Rattle.ir_core.specs.declared.body.Body.{Body}
use Rattle.ir_core.specs.declared.body.Op.{Op}
use Rattle.ir_core.specs.declared.body.OpKind.{OpKind}
use Rattle.ir_core.specs.declared.body.OpKind.TheVariants as o
use Rattle.ir_core.specs.declared.body.Operand.{Operand}
use Rattle.ir_core.specs.declared.body.Out.{Out}
use Rattle.ir_core.specs.declared.cfg.End.{End}
use Rattle.ir_core.specs.declared.cfg.End.TheVariants as end
use Rattle.ir_core.specs.declared.cfg.Frame.{Frame}
use Rattle.ir_core.specs.declared.cfg.Node.{Node}
use Rattle.ir_core.specs.declared.cfg.Node.TheVariants as node
use Rattle.ir_core.specs.declared.stamp.Untimed.{Untimed}
use Rattle.dep_graph.specs.Meetings.{is_store}
use Rattle.ir_core.specs.Bodies.{OpTree, op_of}
use Rattle.ir_core.specs.TreeRuns.{tested}
use Rattle.ir_layout.specs.Nodes.{EndTree, jumps, branches, chooses, returns, NodeTree, plain, looped, case_of, end_of, node_of}
use Rattle.program_validity.specs.Bodies.{is_no_store, is_body}
use Rattle.program_validity.specs.Programs.{body_in, is_case, is_end, is_valid_node}
use Rattle.valid_trees.specs.Shapes.{FrameShape, frame_shape}
use Rattle.valid_trees.specs.Operands.{IsOperand}
use Rattle.valid_trees.specs.Bodies.{OpsAreValid, OutsAreValid, BodyIsValid}
use Rattle.valid_trees.proofs.ValidLayout.Operands.{equal_test, below_test, operand_holds, operand_if_holds}
use Rattle.valid_trees.proofs.ValidLayout.Operations.{operations_hold, outs_hold}

-- ---- nodes without where they lie in memory, of which there are so many, in a program that gives a result of so many bits

module _ (shape : FrameShape) (count ret : ℕ) where
  abbrev pub CasesAreValid : List OpTree → List (Operand × ℕ) → Type 0
  CasesAreValid ops [] = Unit {0}
  CasesAreValid ops (c ∷ cs) = IsOperand shape [] ops 1 c.0 × (c.1 < count) × CasesAreValid ops cs

  abbrev pub EndIsValid : List OpTree → EndTree → Type 0
  EndIsValid ops (jumps n) = n < count
  EndIsValid ops (branches test yes_ no_) = IsOperand shape [] ops 1 test × (yes_ < count) × (no_ < count)
  EndIsValid ops (chooses cases other) = CasesAreValid ops cases × (other < count)
  EndIsValid ops (returns None) = ret ≡ 0
  EndIsValid ops (returns (Some x)) = (0 < ret) × IsOperand shape [] ops ret x

  abbrev pub NodeIsValid : NodeTree → Type 0
  NodeIsValid (plain point body e) = (body.test ≡ None) × OpsAreValid shape [] [] body.ops × OutsAreValid shape [] body.ops body.outs × EndIsValid body.ops e
  NodeIsValid (looped point body next) = BodyIsValid shape body × (next < count)

  abbrev pub NodesAreValid : List NodeTree → Type 0
  NodesAreValid [] = Unit {0}
  NodesAreValid (n ∷ ns) = NodeIsValid n × NodesAreValid ns

-- ---- stores

pub store_kind : (kind : OpKind) → is_store kind ≡ true → kind ≡ o.Store
store_kind o.Store e = refl
store_kind o.Add e = absurd cc
store_kind o.Sub e = absurd cc
store_kind o.Mul e = absurd cc
store_kind o.Div e = absurd cc
store_kind o.Rem e = absurd cc
store_kind o.And e = absurd cc
store_kind o.Or e = absurd cc
store_kind o.Xor e = absurd cc
store_kind o.Shl e = absurd cc
store_kind o.Shr e = absurd cc
store_kind o.Eq e = absurd cc
store_kind o.Ne e = absurd cc
store_kind o.Lt e = absurd cc
store_kind o.Le e = absurd cc
store_kind o.Not e = absurd cc
store_kind o.Neg e = absurd cc
store_kind o.Select e = absurd cc
store_kind o.Widen e = absurd cc
store_kind o.Narrow e = absurd cc
store_kind o.Truth e = absurd cc
store_kind o.Copy e = absurd cc
store_kind o.Load e = absurd cc
store_kind (o.Fused pairing) e = absurd cc

-- before this operation nothing is stored
stores_wait : {S : Type 0} (n : ℕ) (ops : List (Op S)) → ((k : ℕ) (op : OpTree) → slice_get (map op_of ops) k ≡ Some op → op.kind ≡ o.Store → n ≤ k) → list_all is_no_store (take n ops) ≡ true
stores_wait zero [] h = refl
stores_wait (suc n) [] h = refl
stores_wait zero (op ∷ ops) h = refl
stores_wait (suc n) (op ∷ ops) h =
    and_from _ _ (elim (cases_Bool (is_store op.kind)) [
      | inl yes_ ↦ absurd (let low = h 0 (op_of op) refl (store_kind op.kind yes_) in omega (arith, low))
      | inr no_ ↦ ap not no_
    ])
    (stores_wait n ops (λ k t at is_. (let low = h (suc k) t at is_ in omega (arith, low))))

-- ---- nodes of the program

module _ {S : Type 0} (f : Frame) where
  body_holds : (carried : List Out) (b : Body S) → length b.ops.items < 2 ^ 32 → OpsAreValid (frame_shape f) carried [] (map op_of b.ops.items) → OutsAreValid (frame_shape f) carried (map op_of b.ops.items) b.outs.items → is_body f carried b ≡ true
  body_holds carried b few ops outs = and_from _ _ (below_test _ _ few) (and_from _ _ (operations_hold f carried [] b.ops.items ops) (outs_hold f carried b.ops.items b.outs.items outs))

  abbrev EndOf : ℕ → Body S → End → Type 0
  EndOf count b e = EndIsValid (frame_shape f) count f.ret (map op_of b.ops.items) (end_of e)

  cases_hold : (count : ℕ) (b : Body S) (cases : List (Operand × NodeId)) → CasesAreValid (frame_shape f) count f.ret (map op_of b.ops.items) (map case_of cases) → list_all (is_case f b.ops.items count) cases ≡ true
  cases_hold count b [] h = refl
  cases_hold count b (c ∷ cs) h = and_from _ _ (and_from _ _ (operand_holds f [] b.ops.items 1 c.0 h.0) (below_test _ _ h.1)) (cases_hold count b cs h.2)

  end_holds : (count : ℕ) (b : Body S) (e : End) → EndOf count b e → is_end f b.ops.items count e ≡ true
  end_holds count b (end.Jump next) h = below_test _ _ h
  end_holds count b (end.Branch test left right) h = and_from _ _ (operand_holds f [] b.ops.items 1 test h.0) (and_from _ _ (below_test _ _ h.1) (below_test _ _ h.2))
  end_holds count b (end.Choose cases other) h = and_from _ _ (cases_hold count b cases.items h.0) (below_test _ _ h.1)
  end_holds count b (end.Return None) h = equal_test _ _ h
  end_holds count b (end.Return (Some x)) h = and_from _ _ (below_test _ _ h.0) (operand_holds f [] b.ops.items f.ret x h.1)

pub node_holds : (f : Frame) (count : ℕ) (n : Node Untimed) → length (body_in n).ops.items < 2 ^ 32 → NodeIsValid (frame_shape f) count f.ret (node_of n) → is_valid_node f count n ≡ true
node_holds f count (node.Plain block) few h = and_from _ _ (and_from _ _ (ap is_none h.0) (body_holds f [] block.body few h.1 h.2)) (end_holds f count block.body block.end h.3)
node_holds f count (node.Looped region) few h =
    let b = region.body in
    let v = h.0 in
    and_from _ _ (and_from _ _ (and_from _ _ (body_holds f b.outs.items b few v.ops v.outs) (operand_if_holds f b.outs.items b.ops.items 1 b.test v.test))
    (and_from _ _ (and_from _ _ v.overlaps.results v.overlaps.different) (stores_wait (tested b.test) b.ops.items v.overlaps.stores))) (below_test _ _ h.1)
