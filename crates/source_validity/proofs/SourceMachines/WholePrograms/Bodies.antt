-- What the bodies of a program with times name.
use Rattle.std.proofs.Common.{◌≡◌, ◌∙◌, ℕ, zero, suc, ap, sym, subst, refl, List, [], ◌∷◌, length, map, Option, Some, None}
use Rattle.std.specs.Prelude.{slice_get}
use Rattle.hls_base.specs.declared.number.ArrayId.{ArrayId}
use Rattle.ir_core.specs.declared.body.Body.{Body}
use Rattle.ir_core.specs.declared.body.Op.{Op}
use Rattle.ir_core.specs.declared.body.Out.{Out}
use Rattle.ir_core.specs.declared.body.Source.{Source}
use Rattle.ir_core.specs.declared.body.Source.TheVariants as source
use Rattle.ir_core.specs.declared.cfg.Memory.{Memory}
use Rattle.ir_core.specs.declared.cfg.Node.{Node}
use Rattle.ir_core.specs.declared.cfg.Node.TheVariants as node
use Rattle.ir_core.specs.declared.stamp.Untimed.{Untimed}
use Rattle.ir_core.specs.declared.timed.Timed.{Timed}
use Rattle.unit_binding.specs.Copies.{AreTimedCopies, IsTimedBody}
use Rattle.ir_core.specs.Bodies.{Shapes, op_of}
use Rattle.flat_programs.specs.Machine.Held as held
use Rattle.flat_programs.specs.Machine.Sizes.{body_in}
use Rattle.flat_programs.specs.Machine.States.{VariablesThere, ArraysThere}
use Rattle.clock_ir.specs.Flows.{TimedOp, timed_op, timed_body}
use Rattle.clock_ir.specs.ClockRuns.{timed_node}
use Rattle.clock_ir.specs.WellTimed.{IsWellTimedNode}
use Rattle.clock_machine.specs.Lines.{IsUntestedNode}
use Rattle.clock_machine.specs.Lines.Reads as reads
use Rattle.clock_machine.specs.Acts.{IsThere}
use Rattle.clock_machine.specs.Standing.{NamesOne, IsOutOf, IsWholeBody, body_at}
use Rattle.clock_runs.specs.Premises.{Each, IsOperandAs, IsOperand, NamesResult, IsSoundNode}

-- ---- what is set

named : (outs : List Out) (k : ℕ) (s : Source) (distance : ℕ) → IsOperandAs outs k s distance → NamesOne k s
named outs k (source.Constant word) distance h = tt
named outs k (source.Variable variable) distance h = tt
named outs k (source.Result op) distance h = h.1

module _ (shapes : Shapes) (k : ℕ) where
  block_outs : (xs : List Out) → VariablesThere xs (length shapes.widths) → Each (λ (x : Out). IsOperand [] k x.value) xs → reads.Each (IsOutOf shapes k) xs
  block_outs [] there h = tt
  block_outs (x ∷ xs) there h = ((there.0, named [] k x.value.value x.value.distance h.0), block_outs xs there.1 h.1)

  loop_outs : (xs : List Out) → VariablesThere xs (length shapes.widths) → Each (NamesResult k) xs → reads.Each (IsOutOf shapes k) xs
  loop_outs [] there h = tt
  loop_outs (x ∷ xs) there h = ((there.0, subst (NamesOne k) (sym h.0.1.0) h.0.1.2), loop_outs xs there.1 h.1)

-- ---- what operations take

as_there : (array : Option ArrayId) (dims : List (List ℕ)) → held.IsThere array dims → IsThere array dims
as_there None dims h = tt
as_there (Some array) dims h = h

arrays_there : (dims : List (List ℕ)) (times units : List ℕ) (k : ℕ) (ops : List (Op Untimed)) (copies : List (Op Timed)) → AreTimedCopies times units k ops copies → ArraysThere ops dims
    → (i : ℕ) (o : TimedOp) → slice_get (map timed_op copies) i ≡ Some o → IsThere o.op.array dims
arrays_there dims times units k [] [] copied h i o is = absurd (cc)
arrays_there dims times units k [] (c ∷ cs) copied h i o is = absurd copied
arrays_there dims times units k (op ∷ ops) [] copied h i o is = absurd copied
arrays_there dims times units k (op ∷ ops) (c ∷ cs) copied h zero o is =
    let same : timed_op c ≡ o = (cc) in
    let array : op.array ≡ o.op.array = sym copied.0.same_array ∙ ap (λ (x : TimedOp). x.op.array) same in
    subst (λ a. IsThere a dims) array (as_there op.array dims h.0)
arrays_there dims times units k (op ∷ ops) (c ∷ cs) copied h (suc i) o is = arrays_there dims times units (suc k) ops cs copied.1 h.1 i o is

-- ---- bodies

as_many : (times units : List ℕ) (k : ℕ) (ops : List (Op Untimed)) (copies : List (Op Timed)) → AreTimedCopies times units k ops copies → length (map op_of ops) ≡ length (map timed_op copies)
as_many times units k [] [] copied = refl
as_many times units k [] (c ∷ cs) copied = absurd copied
as_many times units k (op ∷ ops) [] copied = absurd copied
as_many times units k (op ∷ ops) (c ∷ cs) copied = ap suc (as_many times units (suc k) ops cs copied.1)

module _ (shapes : Shapes) (interval : ℕ) (times units : List ℕ) (body : Body Untimed) (copy : Body Timed) (copied : IsTimedBody times units body copy) where
  whole_body : reads.Each (IsOutOf shapes (length (map op_of body.ops.items))) body.outs.items → ArraysThere body.ops.items shapes.dims → IsWholeBody shapes (timed_body interval copy)
  whole_body outs arrays = record {
    outs = subst (λ n. reads.Each (IsOutOf shapes n) copy.outs.items) (as_many times units 0 body.ops.items copy.ops.items copied.ops)
        (subst (reads.Each (IsOutOf shapes (length (map op_of body.ops.items)))) (sym copied.outs) outs);
    arrays = arrays_there shapes.dims times units 0 body.ops.items copy.ops.items copied.ops arrays;
  }

-- ---- nodes

-- the variables that a node sets, and the memories that its operations take, are there
abbrev pub NodeThere : Shapes → Node Untimed → Type 0
NodeThere shapes n = VariablesThere (body_in n).outs.items (length shapes.widths) × ArraysThere (body_in n).ops.items shapes.dims

pub whole_node : (shapes : Shapes) (memories : List Memory) (n : Node Untimed) (t : Node Timed) → IsWellTimedNode memories n t → IsSoundNode shapes n → NodeThere shapes n → IsWholeBody shapes (body_at (timed_node t))
whole_node shapes memories (node.Plain b) (node.Plain t) h sound there =
    whole_body shapes t.length h.0 h.1.0 b.body t.body h.1.1.body (block_outs shapes (length (map op_of b.body.ops.items)) b.body.outs.items there.0 sound.outs) there.1
whole_node shapes memories (node.Looped r) (node.Looped t) h sound there =
    whole_body shapes t.ii h.0 h.1.0 r.body t.body h.1.1.body (loop_outs shapes (length (map op_of r.body.ops.items)) r.body.outs.items there.0 sound.outs) there.1
whole_node shapes memories (node.Plain b) (node.Looped t) h sound there = absurd h
whole_node shapes memories (node.Looped r) (node.Plain t) h sound there = absurd h

-- blocks have no test
pub untested : (shapes : Shapes) (n : Node Untimed) → IsSoundNode shapes n → IsUntestedNode n
untested shapes (node.Plain b) sound = sound.untested
untested shapes (node.Looped r) sound = tt
