-- The nodes of laid out programs, and the same with times, name what is there.
use Rattle.std.specs.Prelude.{◌==◌, slice_get, get_or, if◌then◌else◌}
use Rattle.std.specs.Option.{option_map}
use Rattle.std.specs.List.{zip}
use Rattle.std.proofs.Common.{◌≡◌, ◌<◌, ◌≤◌, ℕ, zero, suc, Bool, true, false, refl, sym, subst, arith, List, [], ◌∷◌, map, length, Option, Some, None}
use Rattle.hls_base.specs.declared.number.NodeId.{NodeId}
use Rattle.hls_base.specs.declared.number.VarId.{VarId}
use Rattle.hls_base.specs.declared.point.Point.{Point}
use Rattle.c_token.specs.declared.ctype.CType.{CType}
use Rattle.c_value.specs.Values.{width}
use Rattle.pieces.specs.Trees.{PieceTrees}
use Rattle.pieces.specs.Program.{ArrayTree}
use Rattle.ir_core.specs.declared.body.Op.{Op}
use Rattle.ir_core.specs.declared.body.OpKind.{OpKind}
use Rattle.ir_core.specs.declared.body.Operand.{Operand}
use Rattle.ir_core.specs.declared.body.Out.{Out}
use Rattle.ir_core.specs.declared.cfg.End.{End}
use Rattle.ir_core.specs.declared.cfg.End.TheVariants as end
use Rattle.ir_core.specs.declared.cfg.Memory.{Memory}
use Rattle.ir_core.specs.declared.cfg.Node.{Node}
use Rattle.ir_core.specs.declared.cfg.Node.TheVariants as node
use Rattle.ir_core.specs.declared.stamp.Untimed.{Untimed}
use Rattle.ir_core.specs.declared.timed.Timed.{Timed}
use Rattle.ir_core.specs.Bodies.{op_of}
use Rattle.ir_core.specs.Trees.{ExitTree, next, branch, choose, break_, continue_, leave, BlockTree}
use Rattle.unit_binding.specs.Copies.{IsTimedCopy, AreTimedCopies, IsEndCopy}
use Rattle.passes.specs.Lowering.Blocks.{Scope, begun}
use Rattle.passes.specs.Lowering.{last, lowered}
use Rattle.pass_runs.specs.ConvertRuns.LoweredConversions.Suiting.{widths_of, PiecesSuit}
use Rattle.passes.specs.Numbering.{numbered_sequence}
use Rattle.ir_layout.specs.Nodes.{case_of, end_of, node_of}
use Rattle.ir_layout.specs.Layout.{Ahead, finish, onto, tested, by_case, Around, held_behind, unset, left_in, straight, end_for, laid_block, laid_out}
use Rattle.clock_ir.specs.WellTimed.{IsWellTimedNode}
use Rattle.clock_runs.specs.Premises.{Each}
use Rattle.clock_runs.proofs.Lists.{some_same, no_some}
use Rattle.sound_trees.specs.Laws.{tree_in}
use Rattle.compiled_plans.specs.Operations as named
use Rattle.compiled_plans.specs.Operations.{PutNoTables, AllNamed, OutsNamed, ExitNamed, BlockNamed, BodyNamed, CasesNamed, EndNamed, NodeNamed}
use Rattle.compiled_plans.proofs.NamedAdding.{width_small, IsNamed, IsNamedIf, OpNamed, OpsNamed}
use Rattle.compiled_plans.proofs.NamedLowered.{lowered_named}
use Rattle.compiled_plans.proofs.NamedNumbered.{sequence_numbered}
use Rattle.compiled_plans.proofs.NamedConverted.{sequence_named}
use Rattle.compiled_plans.proofs.LaidNodes.{laid_has}

widths_small : (kinds : List CType) (v : ℕ) → get_or (map width kinds) v 64 ≤ 64
widths_small [] v = omega arith
widths_small (k ∷ ks) zero = width_small k
widths_small (k ∷ ks) (suc v) = widths_small ks v

module _ (count : ℕ) (arrays : List ArrayTree) where
  -- ---- ends of nodes

  abbrev Outs : List Out → Type 0
  Outs = OutsNamed count arrays

  module _ (returned : Option VarId) (there : (v : VarId) → returned ≡ Some v → v.0 < count) where
    held_named : (xs : List Out) (v : ℕ) (x : Operand) → Outs xs → IsNamed count arrays x → IsNamed count arrays (held_behind xs v x)
    held_named [] v x h n = n
    held_named (y ∷ ys) v x h n = held_named ys v (if y.variable.0 == v then y.value else x) h.1 (by (y.variable.0 == v)) where
      by : (c : Bool) → IsNamed count arrays (if c then y.value else x)
      by true = h.0.1
      by false = n

    cases_named : (xs : List Operand) (ns : List ℕ) → AllNamed count arrays xs → CasesNamed count arrays (zip xs ns)
    cases_named [] ns h = tt
    cases_named (x ∷ xs) [] h = tt
    cases_named (x ∷ xs) (m ∷ ns) h = (h.0, cases_named xs ns h.1)

    returned_named : (outs : List Out) (r : Option VarId) → r ≡ returned → Outs outs → IsNamedIf count arrays (option_map (left_in outs) r)
    returned_named outs None e h = tt
    returned_named outs (Some v) e h = held_named outs v.0 (unset v) h (there v (sym e))

    straight_named : (around : Around) (outs : List Out) (ahead : Ahead) → around.returned ≡ returned → Outs outs → EndNamed count arrays (straight around outs ahead)
    straight_named around outs finish r h = returned_named outs around.returned r h
    straight_named around outs (onto n) r h = tt
    straight_named around outs (tested yes_ no_) r h = tt
    straight_named around outs (by_case cases other) r h = tt

    end_named : (around : Around) (outs : List Out) (ahead : Ahead) (e : ExitTree) → around.returned ≡ returned → Outs outs → ExitNamed count arrays e → EndNamed count arrays (end_for around outs ahead e)
    end_named around outs ahead break_ r h n = tt
    end_named around outs ahead continue_ r h n = tt
    end_named around outs ahead (leave number) r h n = tt
    end_named around outs (tested yes_ no_) (branch test) r h n = n
    end_named around outs (by_case cases other) (choose tests) r h n = cases_named tests cases n
    end_named around outs finish (branch test) r h n = straight_named around outs finish r h
    end_named around outs (onto m) (branch test) r h n = tt
    end_named around outs (by_case cases other) (branch test) r h n = tt
    end_named around outs finish (choose tests) r h n = straight_named around outs finish r h
    end_named around outs (onto m) (choose tests) r h n = tt
    end_named around outs (tested yes_ no_) (choose tests) r h n = tt
    end_named around outs finish next r h n = straight_named around outs finish r h
    end_named around outs (onto m) next r h n = tt
    end_named around outs (tested yes_ no_) next r h n = tt
    end_named around outs (by_case cases other) next r h n = tt

    block_named : (around : Around) (ahead : Ahead) (b : BlockTree) → around.returned ≡ returned → BlockNamed count arrays b → NodeNamed count arrays (laid_block around ahead b)
    block_named around ahead b r h = (record { ops = h.ops; outs = h.outs; test = tt }, end_named around b.outs ahead b.exit r h.outs h.exit)

  -- ---- nodes with times

  ops_at : (ops : List (Op Untimed)) (k : ℕ) (op : Op Untimed) → OpsNamed count arrays (map op_of ops) → slice_get ops k ≡ Some op → OpNamed count arrays (op_of op)
  ops_at [] k op h e = absurd (no_some e)
  ops_at (x ∷ ops) zero op h e = subst (λ (y : Op Untimed). OpNamed count arrays (op_of y)) (some_same e) h.0
  ops_at (x ∷ ops) (suc k) op h e = ops_at ops k op h.1 e

  copy_named : (op : Op Untimed) (time unit : ℕ) (copy : Op Timed) → IsTimedCopy op time unit copy → OpNamed count arrays (op_of op) → OpNamed count arrays (op_of copy)
  copy_named op time unit copy c h = record {
    args = subst (AllNamed count arrays) (sym c.same_args) h.args;
    guard = subst (IsNamedIf count arrays) (sym c.same_guard) h.guard;
    bits = subst (λ n. n ≤ 64) (sym c.same_bits) h.bits;
    access = subst (λ (k : OpKind). named.Accesses count arrays k copy.array) (sym c.same_kind) (subst (named.Accesses count arrays op.kind) (sym c.same_array) h.access);
  }

  copies_named : (times units : List ℕ) (n : ℕ) (ops : List (Op Untimed)) (copies : List (Op Timed)) → AreTimedCopies times units n ops copies → OpsNamed count arrays (map op_of ops) → (k : ℕ) (copy : Op Timed) → slice_get copies k ≡ Some copy → OpNamed count arrays (op_of copy)
  copies_named times units n [] [] c h k copy e = absurd (no_some e)
  copies_named times units n [] (x ∷ copies) c h k copy e = absurd c
  copies_named times units n (op ∷ ops) [] c h k copy e = absurd c
  copies_named times units n (op ∷ ops) (x ∷ copies) c h zero copy e = subst (λ (y : Op Timed). OpNamed count arrays (op_of y)) (some_same e) (copy_named op _ _ x c.0 h.0)
  copies_named times units n (op ∷ ops) (x ∷ copies) c h (suc k) copy e = copies_named times units (suc n) ops copies c.1 h.1 k copy e

  end_copied : (e copy : End) → IsEndCopy e copy → EndNamed count arrays (end_of e) → EndNamed count arrays (end_of copy)
  end_copied (end.Choose cases other) (end.Choose copies target) c h = subst (λ (l : List (Operand × NodeId)). CasesNamed count arrays (map case_of l)) (sym c.0) h
  end_copied (end.Choose cases other) (end.Jump n) c h = absurd c
  end_copied (end.Choose cases other) (end.Branch t l r) c h = absurd c
  end_copied (end.Choose cases other) (end.Return w) c h = absurd c
  end_copied (end.Jump n) copy c h = subst (λ (z : End). EndNamed count arrays (end_of z)) (sym c) h
  end_copied (end.Branch t l r) copy c h = subst (λ (z : End). EndNamed count arrays (end_of z)) (sym c) h
  end_copied (end.Return w) copy c h = subst (λ (z : End). EndNamed count arrays (end_of z)) (sym c) h

  abbrev pub ops_in : Node Timed → List (Op Timed)
  ops_in (node.Plain b) = b.body.ops.items
  ops_in (node.Looped r) = r.body.ops.items

  abbrev pub outs_in : Node Timed → List Out
  outs_in (node.Plain b) = b.body.outs.items
  outs_in (node.Looped r) = r.body.outs.items

  abbrev pub test_in : Node Timed → Option Operand
  test_in (node.Plain b) = b.body.test
  test_in (node.Looped r) = r.body.test

  abbrev pub EndOf : Node Timed → Type 0
  EndOf (node.Plain b) = EndNamed count arrays (end_of b.end)
  EndOf (node.Looped r) = Unit {0}

  pub record TimedNamed (t : Node Timed) : Type 0 where
    pub ops : (k : ℕ) (op : Op Timed) → slice_get (ops_in t) k ≡ Some op → OpNamed count arrays (op_of op)
    pub outs : Outs (outs_in t)
    pub test : IsNamedIf count arrays (test_in t)
    pub ends : EndOf t

  pub timed_named : (memories : List Memory) (u : Node Untimed) (t : Node Timed) → IsWellTimedNode memories u t → NodeNamed count arrays (node_of u) → TimedNamed t
  timed_named memories (node.Plain u) (node.Plain t) w h =
      let b = w.1.1.body in record {
        ops = copies_named w.0 w.1.0 0 u.body.ops.items t.body.ops.items b.ops h.0.ops;
        outs = subst Outs (sym b.outs) h.0.outs;
        test = subst (IsNamedIf count arrays) (sym b.test) h.0.test;
        ends = end_copied u.end t.end w.1.1.ends h.1;
      }
  timed_named memories (node.Looped u) (node.Looped t) w h =
      let b = w.1.1.body in record {
        ops = copies_named w.0 w.1.0 0 u.body.ops.items t.body.ops.items b.ops h.ops;
        outs = subst Outs (sym b.outs) h.outs;
        test = subst (IsNamedIf count arrays) (sym b.test) h.test;
        ends = tt;
      }
  timed_named memories (node.Plain u) (node.Looped t) w h = absurd w
  timed_named memories (node.Looped u) (node.Plain t) w h = absurd w

-- ---- the whole

pub nodes_of : (P : _ → Type 0) (ns : List (Node Untimed)) → Each P (map node_of ns) → (i : ℕ) (n : Node Untimed) → slice_get ns i ≡ Some n → P (node_of n)
nodes_of P [] h i n e = absurd (no_some e)
nodes_of P (x ∷ ns) h zero n e = subst (λ (y : Node Untimed). P (node_of y)) (some_same e) h.0
nodes_of P (x ∷ ns) h (suc i) n e = nodes_of P ns h.1 i n e

pub nodes_named : (scope : Scope) (apart loops : Bool) (pieces : PieceTrees) (point : Point) (returned : Option VarId) (nodes : List (Node Untimed)) → PiecesSuit scope pieces → PutNoTables scope.arrays pieces → ((v : VarId) → returned ≡ Some v → v.0 < length scope.variables)
    → map node_of nodes ≡ laid_out (tree_in scope apart loops pieces point) returned → (i : ℕ) (n : Node Untimed) → slice_get nodes i ≡ Some n → NodeNamed (length scope.variables) scope.arrays (node_of n)
nodes_named scope apart loops pieces point returned nodes suits puts there laid =
    let many = length scope.variables in
    let O = BodyNamed many scope.arrays in
    let low = lowered_named O scope pieces point suits puts in
    let tree = lowered scope pieces last (begun point) in
    let num = sequence_numbered many scope.arrays O (record { widths = widths_of scope; apart = apart }) tree low in
    let con = sequence_named many scope.arrays (widths_of scope) (widths_small scope.variables) loops (numbered_sequence (record { widths = widths_of scope; apart = apart }) tree) num in
    nodes_of (NodeNamed many scope.arrays) nodes (subst (Each (NodeNamed many scope.arrays)) (sym laid)
    (laid_has (BlockNamed many scope.arrays) (λ t b. Unit {0}) O (NodeNamed many scope.arrays) returned (block_named many scope.arrays returned there) (λ point body place h. h)
    (record { leave = None; again = None; lands = []; returned = returned }) finish 0 (tree_in scope apart loops pieces point) refl con))
