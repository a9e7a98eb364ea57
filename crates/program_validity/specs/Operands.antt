-- What an operand may name, and its width.
use Rattle.std.specs.Prelude.{ℕ, ◌==◌, ◌&&◌, nat_lt, Bool, true, false, List, slice_get, Option, Some, None, is_some, if◌then◌else◌}
use Rattle.std.specs.Option.{option_map}
use Rattle.ir_core.specs.declared.body.Op.{Op}
use Rattle.ir_core.specs.declared.body.Operand.{Operand}
use Rattle.ir_core.specs.declared.body.Out.{Out}
use Rattle.ir_core.specs.declared.body.Source.{Source}
use Rattle.ir_core.specs.declared.body.Source.TheVariants as source
use Rattle.ir_core.specs.Timing.{result_bits}
use Rattle.dep_graph.specs.Offsets.{maker}
use Rattle.program_validity.specs.Widths.{is_width, is_word}

-- ---- distances

-- In a body that carries these outs to its next iteration, a variable that they set is that of the iteration before. All else is of the same one.
abbrev pub is_at : List Out → Source → ℕ → Bool
is_at carried (source.Constant c) distance = true
is_at carried (source.Variable v) distance = distance == (if is_some (maker carried v.0) then 1 else 0)
is_at carried (source.Result j) distance = distance == 0

-- ---- widths

-- the width of a variable, or of the result of one of these operations; a constant has any width that it fits
abbrev pub width_of : {S : Type 0} → List ℕ → List (Op S) → Source → Option ℕ
width_of widths before (source.Constant c) = None
width_of widths before (source.Variable v) = slice_get widths v.0
width_of widths before (source.Result j) = option_map (λ op. result_bits op.kind op.bits) (slice_get before j.0)

abbrev pub is_exactly : ℕ → Option ℕ → Bool
is_exactly bits None = false
is_exactly bits (Some n) = n == bits

abbrev pub is_narrower : ℕ → Option ℕ → Bool
is_narrower bits None = false
is_narrower bits (Some n) = is_width n && nat_lt n bits

abbrev pub is_wider : ℕ → Option ℕ → Bool
is_wider bits None = false
is_wider bits (Some n) = nat_lt bits n

abbrev pub is_any_width : Option ℕ → Bool
is_any_width None = false
is_any_width (Some n) = is_width n

abbrev pub has_bits : {S : Type 0} → List ℕ → List (Op S) → ℕ → Source → Bool
has_bits widths before bits (source.Constant c) = is_word bits c
has_bits widths before bits s = is_exactly bits (width_of widths before s)

-- ---- operands, behind these operations

abbrev pub is_operand : {S : Type 0} → List ℕ → List Out → List (Op S) → ℕ → Operand → Bool
is_operand widths carried before bits x = has_bits widths before bits x.value && is_at carried x.value x.distance

abbrev pub is_operand_if : {S : Type 0} → List ℕ → List Out → List (Op S) → ℕ → Option Operand → Bool
is_operand_if widths carried before bits None = true
is_operand_if widths carried before bits (Some x) = is_operand widths carried before bits x

-- a subscript has a width of its own
abbrev pub is_subscript_as : {S : Type 0} → List ℕ → List Out → List (Op S) → Source → ℕ → Bool
is_subscript_as widths carried before (source.Constant c) distance = true
is_subscript_as widths carried before s distance = is_any_width (width_of widths before s) && is_at carried s distance

abbrev pub is_subscript : {S : Type 0} → List ℕ → List Out → List (Op S) → Operand → Bool
is_subscript widths carried before x = is_subscript_as widths carried before x.value x.distance
