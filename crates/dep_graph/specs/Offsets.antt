-- Counters, which are variables that grow by a constant with each iteration, and what operations make of them by adding constants.
use Rattle.std.specs.Prelude.{ℕ, zero, suc, ◌==◌, ℤ, pos, neg_ℤ, ◌+ℤ◌, Bool, true, false, ◌&&◌, not, if◌then◌else◌, List, [], ◌∷◌, ◌++◌, Option, Some, None, is_some}
use Rattle.std.specs.Ordering.{int_eq}
use Rattle.hls_base.specs.declared.number.OpId.{OpId}
use Rattle.hls_base.specs.declared.number.VarId.{VarId}
use Rattle.ir_core.specs.declared.body.Body.{Body}
use Rattle.ir_core.specs.declared.body.Op.{Op}
use Rattle.ir_core.specs.declared.body.OpKind.{OpKind}
use Rattle.ir_core.specs.declared.body.OpKind.TheVariants as o
use Rattle.ir_core.specs.declared.body.Operand.{Operand}
use Rattle.ir_core.specs.declared.body.Out.{Out}
use Rattle.ir_core.specs.declared.body.Source.{Source}
use Rattle.ir_core.specs.declared.body.Source.TheVariants as s
use Rattle.ir_core.specs.declared.stamp.Untimed.{Untimed}
use Rattle.ir_core.specs.Value.{number_of}
use Rattle.dep_graph.specs.declared.counter.Addition.{Addition}
use Rattle.dep_graph.specs.declared.counter.Offset.{Offset}
use Rattle.dep_graph.specs.declared.counter.Sum.{Sum}

-- the element of this number, if there is one
abbrev pub nth : {A : Type 0} → List A → ℕ → Option A
nth [] k = None
nth (x ∷ xs) zero = Some x
nth (x ∷ xs) (suc k) = nth xs k

-- the operation whose result is named
abbrev pub result_of : Source → Option OpId
result_of (s.Result op) = Some op
result_of (s.Constant word) = None
result_of (s.Variable variable) = None

-- the operation whose result the variable takes as the body is left
abbrev pub maker : List Out → ℕ → Option OpId
maker [] variable = None
maker (out ∷ outs) variable = if out.variable.0 == variable then result_of out.value.value else maker outs variable

-- the number of a constant of a signed type
abbrev pub constant_of : Source → ℕ → Option ℤ
constant_of (s.Constant word) bits = Some (number_of true bits word)
constant_of (s.Variable variable) bits = None
constant_of (s.Result op) bits = None

abbrev pub addition_by : Operand → Option ℤ → Option Addition
addition_by operand None = None
addition_by operand (Some c) = Some (record { operand = operand; constant = c })

abbrev pub negated : Option ℤ → Option ℤ
negated None = None
negated (Some c) = Some (neg_ℤ c)

abbrev pub or_else : {A : Type 0} → Option A → Option A → Option A
or_else None y = y
or_else (Some x) y = Some x

-- the operand to which a sum or difference adds a constant, and the constant
abbrev pub added_by : OpKind → ℕ → Operand → Operand → Option Addition
added_by o.Add bits x y = or_else (addition_by x (constant_of y.value bits)) (addition_by y (constant_of x.value bits))
added_by o.Sub bits x y = addition_by x (negated (constant_of y.value bits))
added_by _ bits x y = None

abbrev pub added : OpKind → ℕ → List Operand → Option Addition
added kind bits [] = None
added kind bits (x ∷ []) = None
added kind bits (x ∷ y ∷ []) = added_by kind bits x y
added kind bits (x ∷ y ∷ z ∷ rest) = None

-- the same of an operation, which has to be flagged
abbrev pub addition : Op Untimed → Option Addition
addition op = if is_some op.flag then added op.kind op.bits op.args.items else None

abbrev pub is_variable : Source → ℕ → Bool
is_variable (s.Constant word) variable = false
is_variable (s.Variable other) variable = other.0 == variable
is_variable (s.Result op) variable = false

abbrev pub counted : Option Addition → ℕ → Option ℤ
counted None variable = None
counted (Some a) variable = if is_variable a.operand.value variable && not (int_eq a.constant (pos 0)) then Some a.constant else None

-- by how much a variable grows whose next value this operation makes, where it is unguarded and adds a constant other than 0 to the variable
abbrev pub step_by : Op Untimed → ℕ → Option ℤ
step_by op variable = if is_some op.guard then None else counted (addition op) variable

abbrev pub step_at : Option (Op Untimed) → ℕ → Option ℤ
step_at None variable = None
step_at (Some op) variable = step_by op variable

abbrev pub step_from : List (Op Untimed) → Option OpId → ℕ → Option ℤ
step_from ops None variable = None
step_from ops (Some op) variable = step_at (nth ops op.0) variable

-- by how much the variable grows with each iteration, where it is a counter
abbrev pub step_of : Body Untimed → ℕ → Option ℤ
step_of body variable = step_from body.ops.items (maker body.outs.items variable) variable

abbrev pub same_source : Source → Source → Bool
same_source (s.Constant x) (s.Constant y) = x == y
same_source (s.Constant x) (s.Variable y) = false
same_source (s.Constant x) (s.Result y) = false
same_source (s.Variable x) (s.Constant y) = false
same_source (s.Variable x) (s.Variable y) = x.0 == y.0
same_source (s.Variable x) (s.Result y) = false
same_source (s.Result x) (s.Constant y) = false
same_source (s.Result x) (s.Variable y) = false
same_source (s.Result x) (s.Result y) = x.0 == y.0

abbrev pub same_operand : Operand → Operand → Bool
same_operand x y = x.distance == y.distance && same_source x.value y.value

-- no two guards differ
abbrev pub guards_agree : Option Operand → Option Operand → Bool
guards_agree None g = true
guards_agree (Some f) None = true
guards_agree (Some f) (Some g) = same_operand f g

-- an operation with the first guard is unguarded, or has the second one
abbrev pub is_covered : Option Operand → Option Operand → Bool
is_covered None g = true
is_covered (Some f) None = false
is_covered (Some f) (Some g) = same_operand f g

abbrev pub counter_sum : VarId → Option ℤ → Option Sum
counter_sum counter None = None
counter_sum counter (Some step) = Some (record { offset = record { counter = counter; step = step; constant = pos 0 }; guard = None })

abbrev pub flat : {A : Type 0} → Option (Option A) → Option A
flat None = None
flat (Some x) = x

-- the sum that an operand is, where those of the first operations are known
abbrev pub source_sum : Body Untimed → List (Option Sum) → Source → Option Sum
source_sum body sums (s.Constant word) = None
source_sum body sums (s.Variable counter) = counter_sum counter (step_of body counter.0)
source_sum body sums (s.Result op) = flat (nth sums op.0)

-- a sum and a constant, by an operation with this guard
abbrev pub plus_constant : Option Sum → ℤ → Option Operand → Option Sum
plus_constant None c guard = None
plus_constant (Some sum) c guard =
    if guards_agree sum.guard guard then Some (record {
      offset = record { counter = sum.offset.counter; step = sum.offset.step; constant = sum.offset.constant +ℤ c };
      guard = or_else sum.guard guard;
    }) else None

abbrev pub added_sum : Body Untimed → List (Option Sum) → Option Addition → Option Operand → Option Sum
added_sum body sums None guard = None
added_sum body sums (Some a) guard = plus_constant (source_sum body sums a.operand.value) a.constant guard

-- the sum that an operation makes
abbrev pub op_sum : Body Untimed → List (Option Sum) → Op Untimed → Option Sum
op_sum body sums op = added_sum body sums (addition op) op.guard

abbrev pub sums_from : Body Untimed → List (Option Sum) → List (Op Untimed) → List (Option Sum)
sums_from body sums [] = sums
sums_from body sums (op ∷ ops) = sums_from body (sums ++ op_sum body sums op ∷ []) ops

-- the sums that the operations of a body make
abbrev pub sums_of : Body Untimed → List (Option Sum)
sums_of body = sums_from body [] body.ops.items

abbrev pub covered : Option Sum → Option Operand → Option Offset
covered None guard = None
covered (Some sum) guard = if is_covered sum.guard guard then Some sum.offset else None

-- the offset that a subscript has for an access with this guard
abbrev pub offset_of : Body Untimed → List (Option Sum) → Operand → Option Operand → Option Offset
offset_of body sums subscript guard = covered (source_sum body sums subscript.value) guard
