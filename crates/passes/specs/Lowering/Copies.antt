-- Copies: in the body of a loop that may be overlapped each variable that an iteration sets has an operation of its own for its value.
use Rattle.std.specs.Prelude.{◌==◌, Bool, true, false, not, ◌&&◌, ◌||◌, List, [], ◌∷◌, ◌++◌, get_or, if◌then◌else◌}
use Rattle.hls_base.specs.declared.number.VarId.{VarId}
use Rattle.c_value.specs.Values.{width}
use Rattle.ir_core.specs.declared.body.OpKind.{OpKind}
use Rattle.ir_core.specs.declared.body.OpKind.TheVariants as o
use Rattle.ir_core.specs.declared.body.Operand.{Operand}
use Rattle.ir_core.specs.declared.body.Out.{Out}
use Rattle.ir_core.specs.declared.body.Source.{Source}
use Rattle.ir_core.specs.declared.body.Source.TheVariants as source
use Rattle.ir_core.specs.Bodies.{OpTree}
use Rattle.ir_core.specs.Trees.{BlockTree, SequenceTree, sequence, PartTrees, no_part, more_parts, ShapeTree, fork, SideTree, no_side, side}
use Rattle.passes.specs.Lowering.Operations.{Emitted, added, plain}
use Rattle.passes.specs.Lowering.Outs.{operand_eq, held}
use Rattle.passes.specs.Lowering.Blocks.{Scope, variable_type}

-- ---- where variables are set

abbrev pub outs_set : List Out → VarId → Bool
outs_set [] variable = false
outs_set (x ∷ xs) variable = x.variable.0 == variable.0 || outs_set xs variable

abbrev mutual
  pub sequence_sets : SequenceTree → VarId → Bool
  sequence_sets (sequence first rest) variable = outs_set first.outs variable || parts_set rest variable

  pub parts_set : PartTrees → VarId → Bool
  parts_set no_part variable = false
  parts_set (more_parts shape after rest) variable = shape_sets shape variable || (outs_set after.outs variable || parts_set rest variable)

  pub shape_sets : ShapeTree → VarId → Bool
  shape_sets (fork yes_ no_ convertible) variable = side_sets yes_ variable || side_sets no_ variable
  shape_sets shape variable = false

  pub side_sets : SideTree → VarId → Bool
  side_sets no_side variable = false
  side_sets (side blocks) variable = sequence_sets blocks variable

-- ---- what operations on constants alone give

-- variables as the block is entered, and operations of the block
pub record Fixed : Type 0 where
  pub variables : VarId → Bool
  pub ops : List Bool

abbrev pub is_fixed_source : Fixed → Source → Bool
is_fixed_source fixed (source.Constant word) = true
is_fixed_source fixed (source.Variable variable) = fixed.variables variable
is_fixed_source fixed (source.Result op) = get_or fixed.ops op.0 false

abbrev pub is_fixed : Fixed → Operand → Bool
is_fixed fixed x = is_fixed_source fixed x.value

abbrev pub all_fixed : Fixed → List Operand → Bool
all_fixed fixed [] = true
all_fixed fixed (x ∷ xs) = is_fixed fixed x && all_fixed fixed xs

abbrev pub is_computed : OpKind → Bool
is_computed o.Load = false
is_computed o.Store = false
is_computed o.Copy = false
is_computed kind = true

abbrev pub with_op : Fixed → OpTree → Fixed
with_op fixed op = record fixed { ops = fixed.ops ++ (is_computed op.kind && all_fixed fixed op.args) ∷ [] }

abbrev pub with_ops : Fixed → List OpTree → Fixed
with_ops fixed [] = fixed
with_ops fixed (op ∷ ops) = with_ops (with_op fixed op) ops

abbrev pub fixed_in : (VarId → Bool) → BlockTree → Fixed
fixed_in variables b = with_ops (record { variables = variables; ops = [] }) b.ops

-- Behind a block: of what it sets, that which is set again later may be fixed.
abbrev pub fixed_behind : PartTrees → (VarId → Bool) → BlockTree → VarId → Bool
fixed_behind later variables b variable =
    if outs_set b.outs variable then parts_set later variable && is_fixed (fixed_in variables b) (held b.outs variable) else variables variable

-- Behind a fork nothing is known of what it sets.
abbrev pub fixed_behind_shape : ShapeTree → (VarId → Bool) → VarId → Bool
fixed_behind_shape shape variables variable = variables variable && not (shape_sets shape variable)

-- ---- copies

abbrev pub is_among : Operand → List Operand → Bool
is_among x [] = false
is_among x (y ∷ ys) = operand_eq y x || is_among x ys

-- The operand is no result of an operation, or of one on constants alone, or of one that another variable has taken.
abbrev pub needs_copy : Fixed → List Operand → Operand → Source → Bool
needs_copy fixed taken x (source.Result op) = is_fixed fixed x || is_among x taken
needs_copy fixed taken x s = true

-- operations, the outs so far, and the operands that are variables' own
pub record Copied : Type 0 where
  pub ops : List OpTree
  pub outs : List Out
  pub taken : List Operand

abbrev pub with_own : VarId → Copied → Emitted → Copied
with_own variable s x = record { ops = x.ops; outs = s.outs ++ record { variable = variable; value = x.operand } ∷ []; taken = s.taken ++ x.operand ∷ [] }

abbrev pub own_operand : Scope → Fixed → Copied → Out → Emitted
own_operand scope fixed s x =
    if needs_copy fixed s.taken x.value x.value.value then added s.ops (plain o.Copy (width (variable_type scope x.variable)) (x.value ∷ []))
    else record { ops = s.ops; operand = x.value }

-- a variable that is set again later needs no operation of its own here
abbrev pub copied_out : Scope → PartTrees → Fixed → Copied → Out → Copied
copied_out scope later fixed s x = if parts_set later x.variable then record s { outs = s.outs ++ x ∷ [] } else with_own x.variable s (own_operand scope fixed s x)

abbrev pub copied_outs : Scope → PartTrees → Fixed → Copied → List Out → Copied
copied_outs scope later fixed s [] = s
copied_outs scope later fixed s (x ∷ xs) = copied_outs scope later fixed (copied_out scope later fixed s x) xs

abbrev pub with_copied : BlockTree → Copied → BlockTree
with_copied b s = record b { ops = s.ops; outs = s.outs }

-- a block of the body, with what stands behind it and the variables that are fixed as it is entered
abbrev pub copied_block : Scope → PartTrees → (VarId → Bool) → BlockTree → BlockTree
copied_block scope later variables b = with_copied b (copied_outs scope later (fixed_in variables b) (record { ops = b.ops; outs = []; taken = [] }) b.outs)

-- A variable that a fork sets last needs no copy.
abbrev pub copied_parts : Scope → (VarId → Bool) → PartTrees → PartTrees
copied_parts scope variables no_part = no_part
copied_parts scope variables (more_parts shape after rest) =
    more_parts shape (copied_block scope rest (fixed_behind_shape shape variables) after) (copied_parts scope (fixed_behind rest (fixed_behind_shape shape variables) after) rest)

-- the body of a loop with its copies
abbrev pub copied : Scope → SequenceTree → SequenceTree
copied scope (sequence first rest) = sequence (copied_block scope rest (λ variable. false) first) (copied_parts scope (fixed_behind rest (λ variable. false) first) rest)
