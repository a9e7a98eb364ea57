-- What the operations of a plan name is there, and fits its units.
use Rattle.std.specs.Prelude.{◌==◌, ◌≢◌, slice_get, slice_index, nat_lt, if◌then◌else◌}
use Rattle.std.proofs.Common.{◌≡◌, ◌<◌, ◌≤◌, ◌^◌, ℕ, zero, suc, Bool, true, false, refl, sym, ap, ◌∙◌, subst, arith, List, [], ◌∷◌, map, length, Option, Some, None}
use Rattle.std.proofs.Math.Pow.{pow_mono}
use Rattle.std.proofs.lemmas.Bool.{ltb-false}
use Rattle.std.proofs.lemmas.Option.{get_or_from_slice_get}
use Rattle.hls_base.specs.declared.number.NodeId.{NodeId}
use Rattle.hls_base.specs.declared.number.OpId.{OpId}
use Rattle.hls_base.specs.declared.number.VarId.{VarId}
use Rattle.pieces.specs.Program.{ArrayTree, ExpandedTree}
use Rattle.ir_core.specs.declared.body.Op.{Op}
use Rattle.ir_core.specs.declared.body.OpKind.{OpKind}
use Rattle.ir_core.specs.declared.body.Operand.{Operand}
use Rattle.ir_core.specs.declared.body.Out.{Out}
use Rattle.ir_core.specs.declared.body.Source.{Source}
use Rattle.ir_core.specs.declared.body.Source.TheVariants as source
use Rattle.ir_core.specs.declared.cfg.Cfg.{Cfg}
use Rattle.ir_core.specs.declared.cfg.End.{End}
use Rattle.ir_core.specs.declared.cfg.End.TheVariants as end
use Rattle.ir_core.specs.declared.cfg.Memory.{Memory}
use Rattle.ir_core.specs.declared.cfg.Node.{Node}
use Rattle.ir_core.specs.declared.cfg.Node.TheVariants as node
use Rattle.ir_core.specs.declared.stamp.Untimed.{Untimed}
use Rattle.ir_core.specs.Timing.{result_bits}
use Rattle.ir_core.specs.Value.{count_of}
use Rattle.ir_core.specs.declared.timed.Timed.{Timed}
use Rattle.ir_core.specs.Bodies.{OpTree, op_of}
use Rattle.unit_binding.specs.Copies.{IsTimedCopy, AreTimedCopies}
use Rattle.dep_graph.specs.Offsets as graph
use Rattle.dep_graph.specs.Offsets.{maker}
use Rattle.dep_graph.specs.Dependences.{maker_by, maker_of}
use Rattle.passes.specs.Conversion.Outs.{is_set}
use Rattle.pass_runs.specs.ConvertRuns.Typed.{HasBits, OutsAreTyped}
use Rattle.pass_runs.specs.ConvertRuns.Blocks.{Once}
use Rattle.pass_runs.proofs.ConvertRuns.Opening.{same_number, itself_number, left_false, right_false}
use Rattle.ir_layout.specs.Nodes.{case_of, end_of, node_of}
use Rattle.reg_binding.specs.declared.registers.Registers.{Registers}
use Rattle.clock_ir.specs.Flows.{TimedOp, TimedBody, timed_op}
use Rattle.clock_ir.specs.ClockRuns.{TimedNode, timed_node}
use Rattle.clock_ir.specs.WellTimed.{IsWellTimedNode, AreWellTimed, IsWellTimed}
use Rattle.clock_runs.specs.Premises as premises
use Rattle.clock_runs.specs.Premises.{Each}
use Rattle.clock_runs.proofs.Lists.{some_same, no_some}
use Rattle.datapath.specs.Plans.{Plan, Savings, Array, no_array, body_of, body_if, body_at, plan_of}
use Rattle.datapath.specs.Blocks.{EndReads, AreApart}
use Rattle.datapath.specs.Savings as savings
use Rattle.datapath.specs.Savings.{NodeReads}
use Rattle.circuit_agreement.specs.CircuitFlow.Compiled.{NamesArrays, SourceFits, OperandFits, IsDivision, FitsUnits}
use Rattle.compiled_plans.specs.Frames.{plan_array, HasFrame}
use Rattle.compiled_plans.specs.Names.{NamesVariables}
use Rattle.compiled_plans.specs.Operations as named
use Rattle.compiled_plans.specs.Operations.{AllNamed, OutsNamed, CasesNamed, EndNamed, NodeNamed, DivisionsSuit, BodyDivides, NodeDivides}
use Rattle.compiled_plans.proofs.Lists.{mapped, at_map}
use Rattle.compiled_plans.proofs.Safe.{within}
use Rattle.compiled_plans.proofs.NamedAdding.{IsNamed, IsNamedIf, OpNamed}
use Rattle.compiled_plans.proofs.NamedNodes.{TimedNamed, timed_named}

-- ---- nodes and the same with times

record Before (memories : List Memory) (ns : List (Node Untimed)) (i : ℕ) (t : Node Timed) : Type 0 where
  node : Node Untimed
  there : slice_get ns i ≡ Some node
  well : IsWellTimedNode memories node t

before : (memories : List Memory) (ns : List (Node Untimed)) (ts : List (Node Timed)) → AreWellTimed memories ns ts → (i : ℕ) (t : Node Timed) → slice_get ts i ≡ Some t → Before memories ns i t
before memories [] [] h i t e = absurd (no_some e)
before memories [] (c ∷ ts) h i t e = absurd h
before memories (n ∷ ns) [] h i t e = absurd h
before memories (n ∷ ns) (c ∷ ts) h zero t e = record { node = n; there = refl; well = subst (IsWellTimedNode memories n) (some_same e) h.0 }
before memories (n ∷ ns) (c ∷ ts) h (suc i) t e = let b = before memories ns ts h.1 i t e in record { node = b.node; there = b.there; well = b.well }

-- a copy with times is the same operation
same_op : (op : Op Untimed) (time unit : ℕ) (copy : Op Timed) → IsTimedCopy op time unit copy → op_of op ≡ op_of copy
same_op op time unit copy c = sym (λ i. record { kind = c.same_kind i; signed = c.same_sign i; bits = c.same_bits i; args = c.same_args i; array = c.same_array i; guard = c.same_guard i; flag = c.same_flag i })

same_ops : (times units : List ℕ) (n : ℕ) (ops : List (Op Untimed)) (copies : List (Op Timed)) → AreTimedCopies times units n ops copies → map op_of ops ≡ map op_of copies
same_ops times units n [] [] c = refl
same_ops times units n [] (x ∷ copies) c = absurd c
same_ops times units n (op ∷ ops) [] c = absurd c
same_ops times units n (op ∷ ops) (x ∷ copies) c = let a = same_op op _ _ x c.0 in let b = same_ops times units (suc n) ops copies c.1 in λ i. a i ∷ b i

-- ---- outs

true_false : {A : Type 0} → true ≡ false → A
true_false e = cc

once_at : (xs : List Out) (v : VarId) (k : ℕ) (x : Out) → is_set xs v ≡ false → slice_get xs k ≡ Some x → v.0 ≡ x.variable.0 → ⊥
once_at [] v k x s at e = no_some at
once_at (y ∷ xs) v zero x s at e =
    true_false (sym (ap (λ n. n == y.variable.0) (e ∙ ap (λ (w : Out). w.variable.0) (sym (some_same at))) ∙ itself_number y.variable.0) ∙ left_false (v.0 == y.variable.0) (is_set xs v) s)
once_at (y ∷ xs) v (suc k) x s at e = once_at xs v k x (right_false (v.0 == y.variable.0) (is_set xs v) s) at e

once_apart : (xs : List Out) → Once xs → AreApart xs
once_apart [] h n m x y a b e = absurd (no_some a)
once_apart (z ∷ xs) h zero zero x y a b e = refl
once_apart (z ∷ xs) h zero (suc m) x y a b e = absurd (once_at xs z.variable m y h.0 b (ap (λ (w : Out). w.variable.0) (some_same a) ∙ e))
once_apart (z ∷ xs) h (suc n) zero x y a b e = absurd (once_at xs z.variable n x h.0 a (ap (λ (w : Out). w.variable.0) (some_same b) ∙ sym e))
once_apart (z ∷ xs) h (suc n) (suc m) x y a b e = ap suc (once_apart xs h.1 n m x y a b e)

each_at : {A : Type 0} (P : A → Type 0) (xs : List A) → Each P xs → (k : ℕ) (x : A) → slice_get xs k ≡ Some x → P x
each_at P [] h k x e = absurd (no_some e)
each_at P (y ∷ xs) h zero x e = subst P (some_same e) h.0
each_at P (y ∷ xs) h (suc k) x e = each_at P xs h.1 k x e

loop_apart : (xs : List Out) → premises.AreApart xs → AreApart xs
loop_apart [] h n m x y a b e = absurd (no_some a)
loop_apart (z ∷ xs) h zero zero x y a b e = refl
loop_apart (z ∷ xs) h zero (suc m) x y a b e = absurd ((each_at (λ (w : Out). (w.variable.0 ≢ z.variable.0) × (w.value.value ≢ z.value.value)) xs h.0 m y b).0 (sym (ap (λ (w : Out). w.variable.0) (some_same a) ∙ e)))
loop_apart (z ∷ xs) h (suc n) zero x y a b e = absurd ((each_at (λ (w : Out). (w.variable.0 ≢ z.variable.0) × (w.value.value ≢ z.value.value)) xs h.0 n x a).0 (e ∙ sym (ap (λ (w : Out). w.variable.0) (some_same b))))
loop_apart (z ∷ xs) h (suc n) (suc m) x y a b e = ap suc (loop_apart xs h.1 n m x y a b e)

-- ---- divisions of nodes with times

abbrev ops_in : Node Timed → List (Op Timed)
ops_in (node.Plain b) = b.body.ops.items
ops_in (node.Looped r) = r.body.ops.items

abbrev outs_in : Node Timed → List Out
outs_in (node.Plain b) = b.body.outs.items
outs_in (node.Looped r) = r.body.outs.items

record TimedDivides (widths words : List ℕ) (t : Node Timed) : Type 0 where
  divisions : DivisionsSuit widths words (map op_of (ops_in t))
  outs : OutsAreTyped widths words (map op_of (ops_in t)) (outs_in t)
  apart : AreApart (outs_in t)

timed_divides : (widths words : List ℕ) (memories : List Memory) (u : Node Untimed) (t : Node Timed) → IsWellTimedNode memories u t → NodeDivides widths words (node_of u) → TimedDivides widths words t
timed_divides widths words memories (node.Plain u) (node.Plain t) w h =
    let b = w.1.1.body in
    let ops = same_ops w.0 w.1.0 0 u.body.ops.items t.body.ops.items b.ops in record {
      divisions = subst (DivisionsSuit widths words) ops h.0.divisions;
      outs = subst (OutsAreTyped widths words (map op_of t.body.ops.items)) (sym b.outs) (subst (λ l. OutsAreTyped widths words l u.body.outs.items) ops h.0.outs);
      apart = subst AreApart (sym b.outs) (once_apart u.body.outs.items h.1);
    }
timed_divides widths words memories (node.Looped u) (node.Looped t) w h =
    let b = w.1.1.body in
    let ops = same_ops w.0 w.1.0 0 u.body.ops.items t.body.ops.items b.ops in record {
      divisions = subst (DivisionsSuit widths words) ops h.0.divisions;
      outs = subst (OutsAreTyped widths words (map op_of t.body.ops.items)) (sym b.outs) (subst (λ l. OutsAreTyped widths words l u.body.outs.items) ops h.0.outs);
      apart = subst AreApart (sym b.outs) (loop_apart u.body.outs.items h.1);
    }
timed_divides widths words memories (node.Plain u) (node.Looped t) w h = absurd w
timed_divides widths words memories (node.Looped u) (node.Plain t) w h = absurd w

-- ---- operands

count_small : (n : ℕ) → count_of n ≤ 2 ^ n
count_small n = by (nat_lt n 64) refl where
  by : (c : Bool) → nat_lt n 64 ≡ c → (if c then 2 ^ n else 2 ^ 64) ≤ 2 ^ n
  by true e = omega arith
  by false e = pow_mono (ltb-false n 64 e)

index_at : (xs : List ℕ) (i n : ℕ) → slice_get xs i ≡ Some n → slice_index xs i ≡ n
index_at [] i n e = absurd (no_some e)
index_at (x ∷ xs) zero n e = some_same e
index_at (x ∷ xs) (suc i) n e = index_at xs i n e

-- the operation that makes the variable has its width
record Makes (widths words : List ℕ) (ops : List OpTree) (v : ℕ) (op : OpId) : Type 0 where
  bits : ℕ
  width : slice_get widths v ≡ Some bits
  has : HasBits widths words ops bits (source.Result op)

makes : (widths words : List ℕ) (ops : List OpTree) (outs : List Out) (v : ℕ) (op : OpId) → OutsAreTyped widths words ops outs → maker outs v ≡ Some op → Makes widths words ops v op
makes widths words ops [] v op h e = absurd (no_some e)
makes widths words ops (x ∷ xs) v op h e = by (x.variable.0 == v) refl e (λ q. makes widths words ops xs v op h.1 q) where
  named : (s : Source) → graph.result_of s ≡ Some op → s ≡ source.Result op
  named (source.Constant w) q = absurd (no_some q)
  named (source.Variable w) q = absurd (no_some q)
  named (source.Result j) q = ap (λ (z : OpId). source.Result z) (some_same q)

  by : (c : Bool) → (x.variable.0 == v) ≡ c → (if c then graph.result_of x.value.value else maker xs v) ≡ Some op → (maker xs v ≡ Some op → Makes widths words ops v op) → Makes widths words ops v op
  by true q r further = record { bits = h.0.0; width = ap (slice_get widths) (sym (same_number x.variable.0 v q)) ∙ h.0.1; has = subst (HasBits widths words ops h.0.0) (named x.value.value r) h.0.2 }
  by false q r further = further r

-- ---- a plan

module _ (e : ExpandedTree) (cfg : Cfg Untimed) (timed : Cfg Timed) (registers : Registers) (saved : Savings) (well : IsWellTimed cfg timed) (words : List ℕ) (frame : HasFrame e (plan_of timed registers saved))
    (many : length timed.frame.variables.items ≡ length e.variables) (named_ : (i : ℕ) (n : Node Untimed) → slice_get cfg.nodes.items i ≡ Some n → NodeNamed (length e.variables) e.arrays (node_of n))
    (divided : (i : ℕ) (n : Node Untimed) → slice_get cfg.nodes.items i ≡ Some n → NodeDivides timed.frame.variables.items words (node_of n)) where
  abbrev p : Plan
  p = plan_of timed registers saved

  abbrev count : ℕ
  count = length e.variables

  -- a node of the plan
  record NodeAt (i : ℕ) (n : TimedNode) : Type 0 where
    nd : Node Timed
    is : timed_node nd ≡ n
    names : TimedNamed count e.arrays nd
    divides : TimedDivides timed.frame.variables.items words nd

  node_at : (i : ℕ) (n : TimedNode) → slice_get p.program.nodes i ≡ Some n → NodeAt i n
  node_at i n at =
      let m = mapped timed_node timed.nodes.items i n at in
      let b = before cfg.frame.memories.items cfg.nodes.items timed.nodes.items well.nodes i m.0 m.1.0 in record {
        nd = m.0;
        is = m.1.1;
        names = timed_named count e.arrays cfg.frame.memories.items b.node m.0 b.well (named_ i b.node b.there);
        divides = timed_divides timed.frame.variables.items words cfg.frame.memories.items b.node m.0 b.well (divided i b.node b.there);
      }

  -- ---- variables

  arg_at : (xs : List Operand) (k : ℕ) (x : Operand) → AllNamed count e.arrays xs → slice_get xs k ≡ Some x → IsNamed count e.arrays x
  arg_at [] k x h at = absurd (no_some at)
  arg_at (y ∷ xs) zero x h at = subst (IsNamed count e.arrays) (some_same at) h.0
  arg_at (y ∷ xs) (suc k) x h at = arg_at xs k x h.1 at

  some_at : (x : Option Operand) (y : Operand) → IsNamedIf count e.arrays x → x ≡ Some y → IsNamed count e.arrays y
  some_at None y h at = absurd (no_some at)
  some_at (Some x) y h at = subst (IsNamed count e.arrays) (some_same at) h

  case_at : (cs : List (Operand × NodeId)) (k : ℕ) (x : Operand) (next : NodeId) → CasesNamed count e.arrays (map case_of cs) → slice_get cs k ≡ Some (x, next) → IsNamed count e.arrays x
  case_at [] k x next h at = absurd (no_some at)
  case_at (c ∷ cs) zero x next h at = subst (λ (z : Operand × NodeId). IsNamed count e.arrays z.0) (some_same at) h.0
  case_at (c ∷ cs) (suc k) x next h at = case_at cs k x next h.1 at

  end_at : (z : End) (x : Operand) → EndNamed count e.arrays (end_of z) → EndReads z x → IsNamed count e.arrays x
  end_at (end.Jump next) x h r = absurd r
  end_at (end.Branch test left right) x h r = subst (IsNamed count e.arrays) r h
  end_at (end.Choose cases other) x h r = case_at cases.items r.0 x r.1 h r.2
  end_at (end.Return None) x h r = absurd r
  end_at (end.Return (Some y)) x h r = subst (IsNamed count e.arrays) r h

  op_named : (interval : ℕ) (ops : List (Op Timed)) (k : ℕ) (it : TimedOp) → ((m : ℕ) (op : Op Timed) → slice_get ops m ≡ Some op → OpNamed count e.arrays (op_of op)) → slice_get (map timed_op ops) k ≡ Some it → OpNamed count e.arrays it.op
  op_named interval ops k it h at = let m = mapped timed_op ops k it at in subst (λ (z : TimedOp). OpNamed count e.arrays z.op) m.1.1 (h k m.0 m.1.0)

  reads_named : (nd : Node Timed) → TimedNamed count e.arrays nd → (x : Operand) → NodeReads (timed_node nd) x → IsNamed count e.arrays x
  reads_named (node.Plain b) h x (savings.by_argument k m it y at arg) = arg_at it.op.args m x (op_named b.length b.body.ops.items k it h.ops at).args arg
  reads_named (node.Plain b) h x (savings.by_guard k it y at guard) = some_at it.op.guard x (op_named b.length b.body.ops.items k it h.ops at).guard guard
  reads_named (node.Plain b) h x (savings.by_test y at) = some_at b.body.test x h.test at
  reads_named (node.Plain b) h x (savings.by_exit y r) = end_at b.end x h.ends r
  reads_named (node.Looped r) h x (savings.by_argument k m it y at arg) = arg_at it.op.args m x (op_named r.ii r.body.ops.items k it h.ops at).args arg
  reads_named (node.Looped r) h x (savings.by_guard k it y at guard) = some_at it.op.guard x (op_named r.ii r.body.ops.items k it h.ops at).guard guard
  reads_named (node.Looped r) h x (savings.by_test y at) = some_at r.body.test x h.test at
  reads_named (node.Looped r) h x (savings.by_exit y z) = absurd z

  out_at : (xs : List Out) (k : ℕ) (x : Out) → OutsNamed count e.arrays xs → slice_get xs k ≡ Some x → IsNamed count e.arrays x.value
  out_at [] k x h at = absurd (no_some at)
  out_at (y ∷ xs) zero x h at = subst (λ (z : Out). IsNamed count e.arrays z.value) (some_same at) h.0.1
  out_at (y ∷ xs) (suc k) x h at = out_at xs k x h.1 at

  outs_named : (nd : Node Timed) → TimedNamed count e.arrays nd → (k : ℕ) (x : Out) → slice_get (body_of (timed_node nd)).outs k ≡ Some x → IsNamed count e.arrays x.value
  outs_named (node.Plain b) h k x at = out_at b.body.outs.items k x h.outs at
  outs_named (node.Looped r) h k x at = out_at r.body.outs.items k x h.outs at

  variable_there : (x : Operand) (v : VarId) → IsNamed count e.arrays x → x.value ≡ source.Variable v → v.0 < length p.program.shapes.widths
  variable_there x v h is = subst (λ n. v.0 < n) (sym many) (subst (named.IsNamedAs count e.arrays) is h)

  pub names_variables : NamesVariables p
  names_variables = record {
    read = λ i n x v at reads is. (let a = node_at i n at in variable_there x v (reads_named a.nd a.names x (subst (λ m. NodeReads m x) (sym a.is) reads)) is);
    moved = λ i v w n at m. (let a = node_at i n at in
        subst (λ k. k < length p.program.shapes.widths) m.source_.1.1
        (variable_there m.out.value m.source_.0 (outs_named a.nd a.names m.number m.out (ap (λ z. slice_get (body_of z).outs m.number) a.is ∙ m.stands)) m.source_.1.0));
  }

  -- ---- operations

  ops_named : (nd : Node Timed) → TimedNamed count e.arrays nd → (k : ℕ) (it : TimedOp) → slice_get (body_of (timed_node nd)).ops k ≡ Some it → OpNamed count e.arrays it.op
  ops_named (node.Plain b) h k it at = op_named b.length b.body.ops.items k it h.ops at
  ops_named (node.Looped r) h k it at = op_named r.ii r.body.ops.items k it h.ops at

  it_named : (i k : ℕ) (it : TimedOp) → slice_get (body_at p i).ops k ≡ Some it → OpNamed count e.arrays it.op
  it_named i k it = by (slice_get p.program.nodes i) refl where
    by : (n : Option TimedNode) → slice_get p.program.nodes i ≡ n → slice_get (body_if n).ops k ≡ Some it → OpNamed count e.arrays it.op
    by None at q = absurd (no_some q)
    by (Some n) at q = (let a = node_at i n at in ops_named a.nd a.names k it (ap (λ z. slice_get (body_of z).ops k) a.is ∙ q))

  array_there : (a : ℕ) (x : ArrayTree) → slice_get e.arrays a ≡ Some x → slice_get p.arrays a ≡ Some (plan_array x)
  array_there a x at = ap (λ (l : List Array). slice_get l a) frame.arrays ∙ at_map plan_array e.arrays a x at

  pub names_arrays : NamesArrays p
  names_arrays = record {
    loads = λ i k it at is. (let a = subst (λ (z : OpKind). named.Accesses count e.arrays z it.op.array) is (it_named i k it at).access in (a.0, (a.1.0, within p.arrays a.0.0 (plan_array a.1.1.0) (array_there a.0.0 a.1.1.0 a.1.1.1))));
    stores = λ i k it at is. (let a = subst (λ (z : OpKind). named.Accesses count e.arrays z it.op.array) is (it_named i k it at).access in
        let there = array_there a.0.0 a.1.1.0 a.1.1.1.0 in
        (a.0, (a.1.0, (within p.arrays a.0.0 (plan_array a.1.1.0) there, ap (λ (z : Array). z.table) (get_or_from_slice_get p.arrays a.0.0 (plan_array a.1.1.0) no_array there) ∙ a.1.1.1.1))));
  }

  -- ---- divisions

  abbrev trees : Node Timed → List OpTree
  trees nd = map op_of (ops_in nd)

  source_fits : (nd : Node Timed) (n : ℕ) (s : Source) → HasBits timed.frame.variables.items words (trees nd) n s → SourceFits p n s
  source_fits nd n (source.Constant w) h = (let c = count_small n in omega (arith, c, h))
  source_fits nd n (source.Variable v) h = (let q = index_at timed.frame.variables.items v.0 n h in omega (arith, q))
  source_fits nd n (source.Result j) h = tt

  -- the body of a node with times
  body_trees : (nd : Node Timed) (k : ℕ) (it : TimedOp) → slice_get (body_of (timed_node nd)).ops k ≡ Some it → slice_get (trees nd) k ≡ Some it.op
  body_trees (node.Plain b) k it at = (let m = mapped timed_op b.body.ops.items k it at in at_map op_of b.body.ops.items k m.0 m.1.0 ∙ ap (λ (z : TimedOp). Some z.op) m.1.1)
  body_trees (node.Looped r) k it at = (let m = mapped timed_op r.body.ops.items k it at in at_map op_of r.body.ops.items k m.0 m.1.0 ∙ ap (λ (z : TimedOp). Some z.op) m.1.1)

  result_fits : (nd : Node Timed) (n : ℕ) (op : OpId) (it : TimedOp) → HasBits timed.frame.variables.items words (trees nd) n (source.Result op) → slice_get (body_of (timed_node nd)).ops op.0 ≡ Some it → result_bits it.op.kind it.op.bits ≤ n
  result_fits nd n op it h at =
      let same : h.0 ≡ it.op = some_same (sym h.1 ∙ body_trees nd op.0 it at) in
      let q : result_bits it.op.kind it.op.bits ≡ n = ap (λ (z : OpTree). result_bits z.kind z.bits) (sym same) ∙ h.2 in
      omega (arith, q)

  made_fits : (nd : Node Timed) (outs : List Out) (n distance : ℕ) (s : Source) (op : OpId) → OutsAreTyped timed.frame.variables.items words (trees nd) outs → HasBits timed.frame.variables.items words (trees nd) n s → maker_by outs distance s ≡ Some op
      → HasBits timed.frame.variables.items words (trees nd) n (source.Result op)
  made_fits nd outs n distance (source.Constant w) op t h e = absurd (no_some e)
  made_fits nd outs n distance (source.Result j) op t h e = subst (λ (z : OpId). HasBits timed.frame.variables.items words (trees nd) n (source.Result z)) (some_same e) h
  made_fits nd outs n distance (source.Variable v) op t h e = by (nat_lt 0 distance) e where
    by : (c : Bool) → (if c then maker outs v.0 else None) ≡ Some op → HasBits timed.frame.variables.items words (trees nd) n (source.Result op)
    by false q = absurd (no_some q)
    by true q =
        let m = makes timed.frame.variables.items words (trees nd) outs v.0 op t q in
        let same : m.bits ≡ n = some_same (sym m.width ∙ h) in
        subst (λ k. HasBits timed.frame.variables.items words (trees nd) k (source.Result op)) same m.has

  outs_typed : (nd : Node Timed) → TimedDivides timed.frame.variables.items words nd → OutsAreTyped timed.frame.variables.items words (trees nd) (body_of (timed_node nd)).outs
  outs_typed (node.Plain b) d = d.outs
  outs_typed (node.Looped r) d = d.outs

  -- an operand of so many bits in a node
  operand_fits : (i : ℕ) (n : TimedNode) (nd : Node Timed) → timed_node nd ≡ n → slice_get p.program.nodes i ≡ Some n → TimedDivides timed.frame.variables.items words nd → (bits : ℕ) (x : Operand) → HasBits timed.frame.variables.items words (trees nd) bits x.value
      → OperandFits p i bits x (maker_of (body_at p i).outs x)
  operand_fits i n nd is at d bits x h = by (maker_of (body_at p i).outs x) refl where
    body : body_at p i ≡ body_of (timed_node nd)
    body = ap body_if at ∙ ap body_of (sym is)

    by : (m : Option OpId) → maker_of (body_at p i).outs x ≡ m → OperandFits p i bits x m
    by None q = source_fits nd bits x.value h
    by (Some op) q = λ it stands. result_fits nd bits op it (made_fits nd (body_of (timed_node nd)).outs bits x.distance x.value op (outs_typed nd d) h (ap (λ (z : TimedBody). maker_of z.outs x) (sym body) ∙ q)) (ap (λ (z : TimedBody). slice_get z.ops op.0) (sym body) ∙ stands)

  pub fits_units : FitsUnits p
  fits_units = record {
    bits = λ i k it at. (it_named i k it at).bits;
    operands = λ i k n it x at d arg. divided_at i k n it x d arg (slice_get p.program.nodes i) refl at;
  } where
    divided_at : (i k n : ℕ) (it : TimedOp) (x : Operand) → IsDivision it.op.kind → slice_get it.op.args n ≡ Some x → (found : Option TimedNode) → slice_get p.program.nodes i ≡ found → slice_get (body_if found).ops k ≡ Some it → OperandFits p i it.op.bits x (maker_of (body_at p i).outs x)
    divided_at i k n it x d arg None at q = absurd (no_some q)
    divided_at i k n it x d arg (Some m) at q =
        let a = node_at i m at in
        let stands = body_trees a.nd k it (ap (λ z. slice_get (body_of z).ops k) a.is ∙ q) in
        operand_fits i m a.nd a.is at a.divides it.op.bits x (a.divides.divisions k n it.op x stands d arg)

  -- ---- outs

  pub outs_apart : (i : ℕ) → AreApart (body_at p i).outs
  outs_apart i = by (slice_get p.program.nodes i) refl where
    own : (nd : Node Timed) → AreApart (outs_in nd) → AreApart (body_of (timed_node nd)).outs
    own (node.Plain b) h = h
    own (node.Looped r) h = h

    by : (n : Option TimedNode) → slice_get p.program.nodes i ≡ n → AreApart (body_if n).outs
    by None at = λ n m x y a b q. absurd (no_some a)
    by (Some n) at = (let a = node_at i n at in subst (λ z. AreApart (body_of z).outs) a.is (own a.nd a.divides.apart))
