-- What the operations of a block do, one after another, on bit patterns.
use Rattle.std.specs.Prelude.{ℕ, ◌+◌, ◌*◌, ◌^◌, ◌%◌, ◌-◌, ◌==◌, ◌&&◌, ◌||◌, not, nat_lt, Bool, true, false, List, [], ◌∷◌, ◌++◌, length, map, take, get_or, slice_get, Option, Some, None, if◌then◌else◌}
use Rattle.hls_base.specs.declared.place.Place.{Place}
use Rattle.hls_base.specs.declared.refusal.UbRule.{UbRule}
use Rattle.hls_base.specs.declared.refusal.UbRule.TheVariants as ub
use Rattle.hls_base.specs.declared.number.ArrayId.{ArrayId}
use Rattle.hls_base.specs.ArrayAddress.{subscript_bits, address_bits}
use Rattle.ir_core.specs.declared.body.OpKind.{OpKind}
use Rattle.ir_core.specs.declared.body.OpKind.TheVariants as o
use Rattle.ir_core.specs.declared.body.Source.{Source}
use Rattle.ir_core.specs.declared.body.Source.TheVariants as source
use Rattle.ir_core.specs.declared.body.Operand.{Operand}
use Rattle.ir_core.specs.declared.body.Out.{Out}
use Rattle.ir_core.specs.declared.body.Op.{Op}
use Rattle.ir_core.specs.Value as v
use Rattle.ir_core.specs.Timing.{result_bits}
use Rattle.hls_base.specs.Valued.{Valued, is, faulty, and_then}

-- an operation without where it lies in memory, and without its time
pub record OpTree : Type 0 where
  pub kind : OpKind
  pub signed : Bool
  pub bits : ℕ
  pub args : List Operand
  pub array : Option ArrayId
  pub guard : Option Operand
  pub flag : Option Place

abbrev pub op_of : {S : Type 0} → Op S → OpTree
op_of op = record { kind = op.kind; signed = op.signed; bits = op.bits; args = op.args.items; array = op.array; guard = op.guard; flag = op.flag }

-- the widths of the variables, and the lengths of each memory's dimensions
pub record Shapes : Type 0 where
  pub widths : List ℕ
  pub dims : List (List ℕ)

-- what each variable holds, and each word of a memory, by address
pub record Words : Type 0 where
  pub variables : ℕ → ℕ
  pub memories : ℕ → ℕ → ℕ

abbrev pub with_word : (ℕ → ℕ) → ℕ → ℕ → ℕ → ℕ
with_word f i w j = if i == j then w else f j

abbrev pub with_element : ℕ → ℕ → ℕ → (ℕ → ℕ → ℕ) → ℕ → ℕ → ℕ
with_element m address w memories k = if m == k then with_word (memories k) address w else memories k

abbrev pub with_memory_word : ℕ → ℕ → ℕ → Words → Words
with_memory_word m address w t = record t { memories = with_element m address w t.memories }

-- ---- operands

-- what an operand holds behind operations with these results
abbrev pub word : Words → List ℕ → Source → ℕ
word t results (source.Constant w) = w
word t results (source.Variable variable) = t.variables variable.0
word t results (source.Result op) = get_or results op.0 0

abbrev pub operand : Words → List ℕ → Operand → ℕ
operand t results x = word t results x.value

abbrev pub bits_in : Option OpTree → ℕ → ℕ
bits_in None bits = bits
bits_in (Some op) bits = result_bits op.kind op.bits

-- the width of an operand; a constant has that of its operation
abbrev pub operand_bits : List ℕ → List OpTree → ℕ → Source → ℕ
operand_bits widths ops bits (source.Constant w) = bits
operand_bits widths ops bits (source.Variable variable) = get_or widths variable.0 bits
operand_bits widths ops bits (source.Result op) = bits_in (slice_get ops op.0) bits

abbrev pub first_bits : List ℕ → List OpTree → OpTree → List Operand → ℕ
first_bits widths ops op [] = op.bits
first_bits widths ops op (x ∷ xs) = operand_bits widths ops op.bits x.value

-- ---- elements

-- the address of an element: its subscripts side by side, the first one highest, of which the low bits count
abbrev pub address_of : List ℕ → List ℕ → ℕ
address_of [] is_ = 0
address_of (len ∷ dims) [] = 0
address_of (len ∷ dims) (i ∷ is_) = (i % (2 ^ subscript_bits len)) * 2 ^ address_bits dims + address_of dims is_

-- each subscript is below the length of its dimension
abbrev pub is_within : List ℕ → List ℕ → Bool
is_within [] is_ = true
is_within (len ∷ dims) [] = true
is_within (len ∷ dims) (i ∷ is_) = nat_lt i len && is_within dims is_

abbrev pub dims_of : Shapes → ArrayId → List ℕ
dims_of shapes array = get_or shapes.dims array.0 []

-- the subscripts of a store, and the word that is stored
abbrev pub subscripts : List ℕ → List ℕ
subscripts args = take (length args - 1) args

abbrev pub stored : List ℕ → ℕ
stored args = get_or args (length args - 1) 0

-- ---- undefined behaviour

-- the rule that an operation breaks where C gives it no value
abbrev pub broken_rule : OpKind → ℕ → List ℕ → UbRule
broken_rule o.Div bits args = if get_or args 1 0 == 0 then ub.DivideByZero else ub.QuotientRange
broken_rule o.Rem bits args = if get_or args 1 0 == 0 then ub.DivideByZero else ub.QuotientRange
broken_rule o.Shl bits args = if nat_lt (get_or args 1 0) bits then ub.ShiftLeft else ub.ShiftCount
broken_rule o.Shr bits args = if nat_lt (get_or args 1 0) bits then ub.ShiftLeft else ub.ShiftCount
broken_rule kind bits args = ub.Overflow

abbrev pub access_fault : Shapes → Option ArrayId → List ℕ → Option UbRule
access_fault shapes None is_ = None
access_fault shapes (Some array) is_ = if is_within (dims_of shapes array) is_ then None else Some ub.Index

abbrev pub fault_of : Shapes → OpTree → OpKind → List ℕ → Option UbRule
fault_of shapes op o.Load args = access_fault shapes op.array args
fault_of shapes op o.Store args = access_fault shapes op.array (subscripts args)
fault_of shapes op kind args = if v.is_defined kind op.signed op.bits args then None else Some (broken_rule kind op.bits args)

abbrev pub fault : Shapes → OpTree → List ℕ → Option UbRule
fault shapes op args = fault_of shapes op op.kind args

-- ---- operations

-- what an operation gives, and what variables and memories hold then
pub record Performed : Type 0 where
  pub result : ℕ
  pub words : Words

abbrev pub performed : ℕ → Words → Performed
performed result t = record { result = result; words = t }

abbrev pub loaded : Shapes → Option ArrayId → List ℕ → Words → ℕ
loaded shapes None args t = 0
loaded shapes (Some array) args t = t.memories array.0 (address_of (dims_of shapes array) args)

abbrev pub with_stored : Shapes → Option ArrayId → List ℕ → Words → Words
with_stored shapes None args t = t
with_stored shapes (Some array) args t = with_memory_word array.0 (address_of (dims_of shapes array) (subscripts args)) (stored args) t

-- A load that is not allowed gives 0, and a store that is not changes nothing.
abbrev pub effect : Shapes → OpTree → OpKind → Bool → ℕ → List ℕ → Words → Performed
effect shapes op o.Load true from args t = performed (loaded shapes op.array args t) t
effect shapes op o.Load false from args t = performed 0 t
effect shapes op o.Store true from args t = performed 0 (with_stored shapes op.array args t)
effect shapes op o.Store false from args t = performed 0 t
effect shapes op kind allowed from args t = performed (v.value kind op.signed op.bits from args) t

abbrev pub fault_if : Bool → Option Place → Option UbRule → Performed → Valued Performed
fault_if true (Some at) (Some rule) p = faulty rule at
fault_if allowed flag rule p = is p

abbrev pub is_allowed : Words → List ℕ → Option Operand → Bool
is_allowed t results None = true
is_allowed t results (Some guard) = not (operand t results guard == 0)

-- an operation, among all those of its block, behind those with these results
abbrev pub perform : Shapes → List OpTree → OpTree → List ℕ → Words → Valued Performed
perform shapes ops op results t =
    fault_if (is_allowed t results op.guard) op.flag (fault shapes op (map (operand t results) op.args))
    (effect shapes op op.kind (is_allowed t results op.guard) (first_bits shapes.widths ops op op.args) (map (operand t results) op.args) t)

-- the results of operations, and what variables and memories hold then
pub record Ranged : Type 0 where
  pub results : List ℕ
  pub words : Words

abbrev pub operations : Shapes → List OpTree → List OpTree → List ℕ → Words → Valued Ranged
operations shapes ops [] results t = is (record { results = results; words = t })
operations shapes ops (op ∷ rest) results t =
    and_then (perform shapes ops op results t) (λ p. operations shapes ops rest (results ++ p.result ∷ []) p.words)

-- the variables take their values, all from those before
abbrev pub outs : List Out → Words → List ℕ → (ℕ → ℕ) → ℕ → ℕ
outs [] t results f = f
outs (x ∷ xs) t results f = outs xs t results (with_word f x.variable.0 (operand t results x.value))

abbrev pub with_outs : List Out → Ranged → Words
with_outs xs r = record r.words { variables = outs xs r.words r.results r.words.variables }
