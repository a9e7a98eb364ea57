-- A valid operation comes behind those that it waits for.
use Rattle.std.proofs.Common.{◌≡◌, ◌∙◌, ℕ, zero, suc, ◌+◌, ◌≤◌, ap, subst, refl, Bool, true, false, ◌&&◌, List, [], ◌∷◌, length, take, arith}
use Rattle.std.specs.Prelude.{◌==◌, slice_get, Option, Some, None, is_none, if◌then◌else◌}
use Rattle.std.specs.List.{All, list_all}
use Rattle.std.proofs.lemmas.Bool.{eqb-true, false≢true, both_ways, not-true}
use Rattle.ir_core.specs.declared.body.Op.{Op}
use Rattle.ir_core.specs.declared.body.OpKind.{OpKind}
use Rattle.ir_core.specs.declared.body.OpKind.TheVariants as o
use Rattle.ir_core.specs.declared.body.Operand.{Operand}
use Rattle.ir_core.specs.declared.body.Out.{Out}
use Rattle.ir_core.specs.declared.cfg.Frame.{Frame}
use Rattle.ir_core.specs.declared.cfg.Memory.{Memory}
use Rattle.ir_core.specs.declared.stamp.Untimed.{Untimed}
use Rattle.dep_graph.specs.Meetings.{is_store}
use Rattle.dep_graph.specs.Dependences.{test_maker}
use Rattle.dep_graph.specs.ForwardBodies.{IsEarlier, IsForwardOperand, IsForwardOp, AreForwardOps}
use Rattle.program_validity.specs.Operands.{is_subscript, is_operand_if}
use Rattle.program_validity.specs.Operations.{is_flagged, is_width_of, computes, memory_of, loads, stores, accesses_in, accesses, acts, is_operation}
use Rattle.program_validity.specs.Bodies.{is_no_store}
use Rattle.program_validity.proofs.Parts.{first_of_both, second_of_both}
use Rattle.program_validity.proofs.EachOperation.{operation_between}
use Rattle.source_validity.specs.SourceMachines.ForwardPrograms.NearConstants.{HasNearConstant, HaveNearConstants}
use Rattle.source_validity.proofs.SourceMachines.ForwardPrograms.Operands.{operand_if_forward, one_forward, two_forward, three_forward, converted_forward, subscripts_forward, stored_forward}

-- in a body that carries these outs to its next iteration, behind these operations
module _ (f : Frame) (carried : List Out) (before : List (Op Untimed)) where
  abbrev widths : List ℕ
  widths = f.variables.items

  abbrev AreForward : List Operand → Type 0
  AreForward = All (IsForwardOperand (length before))

  computed_forward : (kind : OpKind) (bits : ℕ) (xs : List Operand) → computes widths carried before kind bits xs ≡ true → All HasNearConstant xs → AreForward xs
  computed_forward o.Not bits xs h near = one_forward widths carried before bits xs h near
  computed_forward o.Neg bits xs h near = one_forward widths carried before bits xs h near
  computed_forward o.Copy bits xs h near = one_forward widths carried before bits xs h near
  computed_forward o.Widen bits xs h near = converted_forward widths carried before o.Widen bits xs h near
  computed_forward o.Narrow bits xs h near = converted_forward widths carried before o.Narrow bits xs h near
  computed_forward o.Truth bits xs h near = converted_forward widths carried before o.Truth bits xs h near
  computed_forward o.Select bits xs h near = three_forward widths carried before 1 bits xs h near
  computed_forward (o.Fused pairing) bits xs h near = three_forward widths carried before bits bits xs h near
  computed_forward kind bits xs h near = two_forward widths carried before bits xs h near

  -- ---- accesses

  load_forward : (op : Op Untimed) (m : Memory) → loads widths carried before op m ≡ true → All HasNearConstant op.args.items → AreForward op.args.items
  load_forward op m h near =
      subscripts_forward widths carried before op.args.items (second_of_both (length op.args.items == length m.dims.items) _ (second_of_both (m.bits == op.bits) _ h)) near

  store_forward : (op : Op Untimed) (m : Memory) → stores widths carried before op m ≡ true → All HasNearConstant op.args.items → AreForward op.args.items
  store_forward op m h near =
      let shape = (m.bits == op.bits) && (is_none m.table && (length op.args.items == length m.dims.items + 1)) in
      let count : length op.args.items ≡ length m.dims.items + 1 = eqb-true _ _ (second_of_both (is_none m.table) _ (second_of_both (m.bits == op.bits) _ (first_of_both shape _ h))) in
      let args = second_of_both shape _ h in
      let subscripts = list_all (is_subscript widths carried before) (take (length m.dims.items) op.args.items) in
      stored_forward widths carried before op.bits (length m.dims.items) op.args.items count (first_of_both subscripts _ args) (second_of_both subscripts _ args) near

  access_forward : (op : Op Untimed) → accesses f carried before op ≡ true → All HasNearConstant op.args.items → AreForward op.args.items
  access_forward op h near = at (memory_of f.memories.items op.array) h where
    by : (m : Memory) (t : Bool) → (if t then stores widths carried before op m else loads widths carried before op m) ≡ true → AreForward op.args.items
    by m true h = store_forward op m h near
    by m false h = load_forward op m h near

    at : (m : Option Memory) → accesses_in widths carried before op m ≡ true → AreForward op.args.items
    at None h = absurd (false≢true h)
    at (Some m) h = by m (is_store op.kind) h

  -- ---- operations

  acts_forward : (op : Op Untimed) (kind : OpKind) → acts f carried before op kind ≡ true → All HasNearConstant op.args.items → AreForward op.args.items
  acts_forward op o.Load h near = access_forward op h near
  acts_forward op o.Store h near = access_forward op h near
  acts_forward op kind h near = computed_forward kind op.bits op.args.items (second_of_both (is_none op.array) _ h) near

  -- a store comes behind what makes the test
  pub operation_forward : (test : Option Operand) (op : Op Untimed) → is_operation f carried before op ≡ true → HaveNearConstants op.args.items op.guard → (is_store op.kind ≡ true → IsEarlier (length before) (test_maker test)) → IsForwardOp test (length before) op
  operation_forward test op h near waits =
      let does = second_of_both (is_width_of op.kind op.bits && is_flagged op) _ h in
      record {
        args = acts_forward op op.kind (second_of_both (is_operand_if widths carried before 1 op.guard) _ does) near.each;
        guard = operand_if_forward widths carried before 1 op.guard (first_of_both (is_operand_if widths carried before 1 op.guard) _ does) near.guarded;
        store = waits;
        narrow = (operation_between f carried before op h).1;
      }

-- ---- stores

-- what stores nothing at its beginning stores at no place of it
pub store_behind : (n : ℕ) (ops : List (Op Untimed)) (k : ℕ) (op : Op Untimed) → list_all is_no_store (take n ops) ≡ true → slice_get ops k ≡ Some op → is_store op.kind ≡ true → n ≤ k
store_behind n [] k op h at s = absurd cc
store_behind zero (x ∷ ops) k op h at s = omega arith
store_behind (suc n) (x ∷ ops) zero op h at s =
    let same : x ≡ op = cc in
    absurd (both_ways (is_store x.kind) (not-true (is_store x.kind) (first_of_both (is_no_store x) _ h)) (ap (λ (y : Op Untimed). is_store y.kind) same ∙ s))
store_behind (suc n) (x ∷ ops) (suc k) op h at s = let more = store_behind n ops k op (second_of_both (is_no_store x) _ h) at s in omega (arith, more)

-- ---- all of them

pub each_forward : (test : Option Operand) (k : ℕ) (ops : List (Op Untimed)) → ((i : ℕ) (op : Op Untimed) → slice_get ops i ≡ Some op → IsForwardOp test (k + i) op) → AreForwardOps test k ops
each_forward test k [] h = tt
each_forward test k (op ∷ ops) h =
    let here : k + 0 ≡ k = omega arith in
    (subst (λ n. IsForwardOp test n op) here (h zero op refl), each_forward test (suc k) ops (λ i x at. let next : k + suc i ≡ suc k + i = omega arith in subst (λ n. IsForwardOp test n x) next (h (suc i) x at)))
