-- What the nodes of a program set as they are left.
use Rattle.std.proofs.Common.{◌≡◌, ◌<◌, ℕ, zero, suc, Bool, true, false, List, [], ◌∷◌, length, cond, slice_get, Option, Some, None, refl, sym, ap, ◌∙◌, subst}
use Rattle.std.specs.Prelude.{filter, if◌then◌else◌}
use Rattle.std.specs.Option.{option_map}
use Rattle.std.proofs.lemmas.Bool.{false≢true}
use Rattle.std.proofs.lemmas.Option.{none-some, same_Some, slice_get_within, get_or_from_slice_get}
use Rattle.hls_base.specs.declared.number.OpId.{OpId}
use Rattle.hls_base.specs.declared.number.VarId.{VarId}
use Rattle.ir_core.specs.declared.body.Body.{Body}
use Rattle.ir_core.specs.declared.body.Op.{Op}
use Rattle.ir_core.specs.declared.body.Operand.{Operand}
use Rattle.ir_core.specs.declared.body.Out.{Out}
use Rattle.ir_core.specs.declared.body.Source.TheVariants as source
use Rattle.ir_core.specs.declared.cfg.Node.{Node}
use Rattle.ir_core.specs.declared.cfg.Node.TheVariants as node
use Rattle.ir_core.specs.Timing.{result_bits}
use Rattle.ir_core.specs.declared.timed.Timed.{Timed}
use Rattle.clock_ir.specs.Flows.{TimedBody, timed_body, is_result}
use Rattle.clock_ir.specs.ClockRuns.{timed_node}
use Rattle.reg_binding.specs.declared.var_set.VarSet.{VarSet}
use Rattle.reg_binding.specs.Sets.{has}
use Rattle.program_validity.specs.Operands.{is_at, is_exactly, has_bits, is_operand}
use Rattle.program_validity.specs.Bodies.{is_set}
use Rattle.program_validity.specs.Programs.{body_in, carried_in}
use Rattle.program_validity.proofs.Parts.{first_of_both}
use Rattle.program_validity.proofs.EachOperation.{out_valid}
use Rattle.reg_binding.specs.SmallTimes.{IsNear, IsEarlyBody, IsEarlyNode}
use Rattle.datapath.specs.Plans.{body_of}
use Rattle.circuit_context.specs.Numbers.{operations_of}
use Rattle.circuit_context.specs.declared.context.Context.{Context}
use Rattle.circuit_context.proofs.Early.{early_node}
use Rattle.circuit_context.proofs.Named.{same_ops, operations_counted}
use Rattle.fsm_datapath.specs.Outs.{HasOut}
use Rattle.fsm_datapath.specs.Steps.{made_first}

same_outs : (n : Node Timed) → (body_of (timed_node n)).outs ≡ (body_in n).outs.items
same_outs (node.Plain b) = refl
same_outs (node.Looped r) = refl

pub out_inside : (of : Context) (i : ℕ) (out : Out) → HasOut of i out → i < length of.cfg.now.nodes.items
out_inside of i out h = slice_get_within of.cfg.now.nodes.items i h.node h.stands

-- ---- the value is near

early_body : (n : Node Timed) → IsEarlyNode n → IsEarlyBody (body_in n)
early_body (node.Plain b) early = early
early_body (node.Looped r) early = early.body

pub out_near : (of : Context) (i : ℕ) (out : Out) → HasOut of i out → IsNear out.value
out_near of i out h =
    let outs = (body_in h.node).outs.items in
    subst (λ (x : Out). IsNear x.value) (get_or_from_slice_get outs h.number out out h.there)
    ((early_body h.node (early_node of.cfg.now i h.node of.buildable h.stands)).outs h.number out (slice_get_within outs h.number out h.there))

-- ---- a result is that of an operation

set_valid : (widths : List ℕ) (carried : List Out) (ops : List (Op Timed)) (x : Operand) (op : OpId) (bits : ℕ) → x.value ≡ source.Result op → is_operand widths carried ops bits x ≡ true → op.0 < length ops
set_valid widths carried ops x op bits is h = at (slice_get ops op.0) refl (ap (has_bits widths ops bits) (sym is) ∙ first_of_both (has_bits widths ops bits x.value) (is_at carried x.value x.distance) h) where
  at : (o : Option (Op Timed)) → slice_get ops op.0 ≡ o → is_exactly bits (option_map (λ (it : Op Timed). result_bits it.kind it.bits) o) ≡ true → op.0 < length ops
  at None none h = absurd (false≢true h)
  at (Some it) there h = slice_get_within ops op.0 it there

pub out_made : (of : Context) (i : ℕ) (out : Out) (op : OpId) → HasOut of i out → out.value.value ≡ source.Result op → op.0 < operations_of of.cfg.now.nodes.items i
out_made of i out op h is =
    let cfg = of.cfg.now in
    let ops = (body_in h.node).ops.items in
    let valid = out_valid cfg i h.number h.node out of.buildable.valid h.stands h.there in
    subst (λ k. op.0 < k) (sym (operations_counted cfg.nodes.items i h.node h.stands ∙ ap length (same_ops h.node))) (at (slice_get cfg.frame.variables.items out.variable.0) valid) where
      at : (o : Option ℕ) → is_set of.cfg.now.frame (carried_in h.node) (body_in h.node).ops.items out o ≡ true → op.0 < length (body_in h.node).ops.items
      at None valid = absurd (false≢true valid)
      at (Some bits) valid = set_valid of.cfg.now.frame.variables.items (carried_in h.node) (body_in h.node).ops.items out.value op bits is valid

-- ---- a variable is that of the program

out_variable : (of : Context) (i : ℕ) (out : Out) → HasOut of i out → out.variable.0 < length of.cfg.now.frame.variables.items
out_variable of i out h =
    let cfg = of.cfg.now in
    at (slice_get cfg.frame.variables.items out.variable.0) refl (out_valid cfg i h.number h.node out of.buildable.valid h.stands h.there) where
      at : (o : Option ℕ) → slice_get of.cfg.now.frame.variables.items out.variable.0 ≡ o → is_set of.cfg.now.frame (carried_in h.node) (body_in h.node).ops.items out o ≡ true
          → out.variable.0 < length of.cfg.now.frame.variables.items
      at None none valid = absurd (false≢true valid)
      at (Some bits) there valid = slice_get_within of.cfg.now.frame.variables.items out.variable.0 bits there

made_step : (x : Out) (xs : List Out) (v : VarId) (made : Option VarId) → (made ≡ Some v → (j : ℕ) × (out : Out) × (slice_get xs j ≡ Some out) × (out.variable ≡ v))
    → (b : Bool) → (if b then Some x.variable else made) ≡ Some v → (j : ℕ) × (out : Out) × (slice_get (x ∷ xs) j ≡ Some out) × (out.variable ≡ v)
made_step x xs v made more true h = (0, x, refl, same_Some x.variable v h)
made_step x xs v made more false h = let found = more h in (suc found.0, found.1, found.2, found.3)

made_out : (outs : List Out) (k : ℕ) (v : VarId) → made_first outs k ≡ Some v → (j : ℕ) × (out : Out) × (slice_get outs j ≡ Some out) × (out.variable ≡ v)
made_out [] k v h = absurd (none-some v h)
made_out (x ∷ xs) k v h = made_step x xs v (made_first xs k) (made_out xs k v) (is_result k x.value.value) h

pub made_variable : (of : Context) (i k : ℕ) (n : Node Timed) (body : Body Timed) (outs : List Out) (v : VarId) → slice_get of.cfg.now.nodes.items i ≡ Some n
    → timed_body (body_of (timed_node n)).interval body ≡ body_of (timed_node n) → outs ≡ body.outs.items → Some v ≡ made_first outs k → v.0 < length of.cfg.now.frame.variables.items
made_variable of i k n body outs v stands same are is =
    let found = made_out outs k v (sym is) in
    let all : outs ≡ (body_in n).outs.items = are ∙ (ap (λ (b : TimedBody). b.outs) same ∙ same_outs n) in
    let has : HasOut of i found.1 = record { node = n; number = found.0; stands = stands; there = ap (λ l. slice_get l found.0) (sym all) ∙ found.2 } in
    subst (λ (w : VarId). w.0 < length of.cfg.now.frame.variables.items) found.3 (out_variable of i found.1 has)

-- ---- outs that are live

filter_step : {A : Type 0} (f : A → Bool) (y : A) (ys : List A) (x : A) → ((k : ℕ) → slice_get (filter f ys) k ≡ Some x → (j : ℕ) × (slice_get ys j ≡ Some x))
    → (b : Bool) (k : ℕ) → slice_get (cond b (y ∷ filter f ys) (filter f ys)) k ≡ Some x → (j : ℕ) × (slice_get (y ∷ ys) j ≡ Some x)
filter_step f y ys x more true zero h = (0, h)
filter_step f y ys x more true (suc k) h = let found = more k h in (suc found.0, found.1)
filter_step f y ys x more false k h = let found = more k h in (suc found.0, found.1)

among_all : {A : Type 0} (f : A → Bool) (ys : List A) (k : ℕ) (x : A) → slice_get (filter f ys) k ≡ Some x → (j : ℕ) × (slice_get ys j ≡ Some x)
among_all f [] k x h = absurd (none-some x h)
among_all f (y ∷ ys) k x h = filter_step f y ys x (λ k h. among_all f ys k x h) (f y) k h

pub out_among : (of : Context) (i : ℕ) (n : Node Timed) (body : Body Timed) (outs live : List Out) (out : Out) (k : ℕ) (behind : VarSet) → slice_get of.cfg.now.nodes.items i ≡ Some n
    → timed_body (body_of (timed_node n)).interval body ≡ body_of (timed_node n) → outs ≡ body.outs.items → live ≡ filter (λ (x : Out). has behind x.variable.0) outs → slice_get live k ≡ Some out → HasOut of i out
out_among of i n body outs live out k behind stands same are is there =
    let found = among_all (λ (x : Out). has behind x.variable.0) outs k out (ap (λ l. slice_get l k) (sym is) ∙ there) in
    let all : outs ≡ (body_in n).outs.items = are ∙ (ap (λ (b : TimedBody). b.outs) same ∙ same_outs n) in
    record { node = n; number = found.0; stands = stands; there = ap (λ l. slice_get l found.0) (sym all) ∙ found.1 }
