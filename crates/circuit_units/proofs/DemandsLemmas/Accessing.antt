-- What is known of an operation, since the program is valid.
use Rattle.std.proofs.Common.{◌≡◌, ◌<◌, ◌≤◌, ◌+◌, ◌-◌, ℕ, true, List, length, map, take, slice_get, Some, inl, inr, sym, ap, ◌∙◌, subst, arith}
use Rattle.std.proofs.lemmas.List.{length-map, length-take-le}
use Rattle.std.proofs.lemmas.Option.{slice_get_within, same_Some}
use Rattle.hls_base.specs.declared.number.ArrayId.{ArrayId}
use Rattle.ir_core.specs.declared.body.Op.{Op}
use Rattle.ir_core.specs.declared.body.OpKind.{OpKind}
use Rattle.ir_core.specs.declared.body.OpKind.TheVariants as o
use Rattle.ir_core.specs.declared.body.Operand.{Operand}
use Rattle.ir_core.specs.declared.cfg.Cfg.{Cfg}
use Rattle.ir_core.specs.declared.cfg.Frame.{Frame}
use Rattle.ir_core.specs.declared.cfg.Node.{Node}
use Rattle.ir_core.specs.declared.timed.Timed.{Timed}
use Rattle.program_validity.specs.Operations.{is_operation}
use Rattle.program_validity.specs.Programs.{body_in, carried_in}
use Rattle.program_validity.proofs.EachOperation.{AccessesArray, operation_valid, operation_between, load_accesses, store_accesses}
use Rattle.circuit_context.specs.Numbers.{operations_of}
use Rattle.circuit_context.specs.declared.context.Context.{Context}
use Rattle.circuit_context.specs.Contexts.{HasDimensions}
use Rattle.circuit_context.proofs.Named.{same_ops, operations_counted}
use Rattle.circuit_units.specs.declared.demands.started.Started.{Started}
use Rattle.circuit_units.specs.Demands.Placing.{IsOfProgram, IsAccessTo, subscripts_as}

-- ---- an operation of the program

module _ (of : Context) (it : Started) (h : IsOfProgram of it) where
  abbrev cfg : Cfg Timed
  cfg = of.cfg.now

  abbrev n : Node Timed
  n = h.all.node

  abbrev before : List (Op Timed)
  before = take it.number (body_in n).ops.items

  in_body : slice_get (body_in n).ops.items it.number ≡ Some it.op.now
  in_body = ap (λ l. slice_get l it.number) (sym (h.all.are ∙ same_ops n)) ∙ h.stands

  valid : is_operation cfg.frame (carried_in n) before it.op.now ≡ true
  valid = operation_valid cfg it.at.node.0 it.number n it.op.now of.buildable.valid h.all.stands in_body

  pub node_inside : it.at.node.0 < length cfg.nodes.items
  node_inside = slice_get_within cfg.nodes.items it.at.node.0 n h.all.stands

  pub number_inside : it.number < operations_of cfg.nodes.items it.at.node.0
  number_inside = subst (λ k. it.number < k) (sym (operations_counted cfg.nodes.items it.at.node.0 n h.all.stands ∙ ap length (sym h.all.are))) (slice_get_within it.ops.now it.number it.op.now h.stands)

  pub bits_between : (1 ≤ it.op.now.bits) × (it.op.now.bits ≤ 64)
  bits_between = operation_between cfg.frame (carried_in n) before it.op.now valid

  pub load_array : it.op.now.kind ≡ o.Load → AccessesArray cfg.frame it.op.now 0
  load_array kind = load_accesses cfg.frame (carried_in n) before it.op.now kind valid

  pub store_array : it.op.now.kind ≡ o.Store → AccessesArray cfg.frame it.op.now 1
  store_array kind = store_accesses cfg.frame (carried_in n) before it.op.now kind valid

  -- a store has what it stores
  pub some_stored : it.op.now.kind ≡ o.Store → 0 < length it.op.now.args.items
  some_stored kind = omega (arith, (store_array kind).count)

-- ---- subscripts

nothing : Operand → ℕ
nothing x = 0

-- these are the subscripts among the arguments
abbrev AreSubscripts : OpKind → List Operand → List Operand → Type 0
AreSubscripts kind args xs = (f : Operand → ℕ) → map f xs ≡ subscripts_as kind (map f args)

all_subscripts : (kind : OpKind) (args xs : List Operand) → kind ≡ o.Load → AreSubscripts kind args xs → length xs ≡ length args
all_subscripts kind args xs is are =
    sym (length-map xs nothing) ∙ (ap length (are nothing) ∙ (ap (λ k. length (subscripts_as k (map nothing args))) is ∙ length-map args nothing))

few_subscripts : (kind : OpKind) (args xs : List Operand) → kind ≡ o.Store → AreSubscripts kind args xs → length xs ≡ length args - 1
few_subscripts kind args xs is are =
    let words = map nothing args in
    sym (length-map xs nothing)
    ∙ (ap length (are nothing)
    ∙ (ap (λ k. length (subscripts_as k words)) is ∙ (length-take-le (length words - 1) words (omega arith) ∙ ap (λ k. k - 1) (length-map args nothing))))

dimensions_as : (f : Frame) (op : Op Timed) (array : ArrayId) (more count : ℕ) → AccessesArray f op more → op.array ≡ Some array → length op.args.items ≡ count + more → HasDimensions f array.0 count
dimensions_as f op array more count it named count_ =
    let same : it.array ≡ array = same_Some it.array array (sym it.named ∙ named) in
    record {
      memory = it.memory;
      stands = ap (λ (a : ArrayId). slice_get f.memories.items a.0) (sym same) ∙ it.stands;
      length_ = omega (arith, it.count, count_);
    }

-- an access names an array that has a dimension for each subscript
pub dimensions : (of : Context) (it : Started) (array : ArrayId) (xs : List Operand) → IsOfProgram of it → IsAccessTo it array → AreSubscripts it.op.now.kind it.op.now.args.items xs
    → HasDimensions of.cfg.now.frame array.0 (length xs)
dimensions of it array xs h access are = elim access.kind [
  | inl load ↦ dimensions_as of.cfg.now.frame it.op.now array 0 (length xs) (load_array of it h load) access.array_ (omega (arith, all_subscripts it.op.now.kind it.op.now.args.items xs load are))
  | inr store ↦ dimensions_as of.cfg.now.frame it.op.now array 1 (length xs) (store_array of it h store) access.array_
      (omega (arith, few_subscripts it.op.now.kind it.op.now.args.items xs store are, some_stored of it h store))
]

pub array_stands : (of : Context) (it : Started) (array : ArrayId) → IsOfProgram of it → it.op.now.kind ≡ o.Store → it.op.now.array ≡ Some array → array.0 < length of.cfg.now.frame.memories.items
array_stands of it array h kind named =
    let there = store_array of it h kind in
    let same : there.array ≡ array = same_Some there.array array (sym there.named ∙ named) in
    subst (λ (a : ArrayId). a.0 < length of.cfg.now.frame.memories.items) same (slice_get_within of.cfg.now.frame.memories.items there.array.0 there.memory there.stands)
