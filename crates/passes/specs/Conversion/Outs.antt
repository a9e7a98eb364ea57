-- What the variables hold that a block sets, each of them once.
use Rattle.std.specs.Prelude.{◌==◌, Bool, false, ◌||◌, List, [], ◌∷◌, if◌then◌else◌}
use Rattle.hls_base.specs.declared.number.VarId.{VarId}
use Rattle.ir_core.specs.declared.body.Operand.{Operand}
use Rattle.ir_core.specs.declared.body.Out.{Out}
use Rattle.ir_core.specs.declared.body.Source.TheVariants as source

abbrev pub out : VarId → Operand → Out
out variable value = record { variable = variable; value = value }

-- what a variable holds where the block is entered
abbrev pub entry_value : VarId → Operand
entry_value variable = record { value = source.Variable variable; distance = 0 }

-- what a variable holds behind these outs, where it holds x before them
abbrev pub held_or : List Out → VarId → Operand → Operand
held_or [] variable x = x
held_or (o ∷ os) variable x = if variable.0 == o.variable.0 then o.value else held_or os variable x

abbrev pub held : List Out → VarId → Operand
held outs variable = held_or outs variable (entry_value variable)

abbrev pub is_set : List Out → VarId → Bool
is_set [] variable = false
is_set (o ∷ os) variable = variable.0 == o.variable.0 || is_set os variable

-- A variable that is set again keeps its place.
abbrev pub with_out : List Out → VarId → Operand → List Out
with_out [] variable value = out variable value ∷ []
with_out (o ∷ os) variable value = if variable.0 == o.variable.0 then out o.variable value ∷ os else o ∷ with_out os variable value

abbrev pub with_outs : List Out → List Out → List Out
with_outs outs [] = outs
with_outs outs (o ∷ os) = with_outs (with_out outs o.variable o.value) os
