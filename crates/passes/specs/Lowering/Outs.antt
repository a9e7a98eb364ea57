-- What the variables hold in a block that is open.
use Rattle.std.specs.Prelude.{◌==◌, Bool, List, [], ◌∷◌, ◌++◌, if◌then◌else◌}
use Rattle.hls_base.specs.declared.number.VarId.{VarId}
use Rattle.ir_core.specs.declared.body.Operand.{Operand}
use Rattle.ir_core.specs.contracts.body.OperandPartialEq.TheImpl as operand_impl
use Rattle.ir_core.specs.declared.body.Out.{Out}
use Rattle.passes.specs.Lowering.Operations.{entry_value}

abbrev pub operand_eq : Operand → Operand → Bool
operand_eq = operand_impl.eq-value.it

-- what the variable was set to, and else what it holds as the block is entered
abbrev pub held : List Out → VarId → Operand
held [] variable = entry_value variable
held (x ∷ xs) variable = if x.variable.0 == variable.0 then x.value else held xs variable

abbrev pub without : List Out → VarId → List Out
without [] variable = []
without (x ∷ xs) variable = if x.variable.0 == variable.0 then without xs variable else x ∷ without xs variable

-- A variable that holds what it held as the block was entered is not set.
abbrev pub own_out : VarId → Operand → List Out
own_out variable x = if operand_eq x (entry_value variable) then [] else record { variable = variable; value = x } ∷ []

-- The variable holds the operand, behind all that were set before; one that holds it already stays where it is.
abbrev pub with_out : List Out → VarId → Operand → List Out
with_out outs variable x = if operand_eq (held outs variable) x then outs else without outs variable ++ own_out variable x
