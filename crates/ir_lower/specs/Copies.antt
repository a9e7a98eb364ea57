-- What copies need to know of the body of a loop, without where it lies in memory.
use Rattle.std.specs.Prelude.{◌==◌, Bool, false, ◌||◌, List, [], ◌∷◌, ◌++◌, map, if◌then◌else◌}
use Rattle.hls_base.specs.declared.number.VarId.{VarId}
use Rattle.ir_core.specs.Bodies.{op_of}
use Rattle.ir_core.specs.Trees.{PartTree}
use Rattle.passes.specs.Lowering.Copies as c
use Rattle.passes.specs.Lowering.Copies.{shape_sets, outs_set}
use Rattle.ir_lower.specs.declared.copies.Fixed.{Fixed}
use Rattle.ir_lower.specs.declared.copies.Copied.{Copied}

abbrev pub is_in : List VarId → VarId → Bool
is_in [] variable = false
is_in (v ∷ vs) variable = v.0 == variable.0 || is_in vs variable

abbrev pub part_sets : PartTree → VarId → Bool
part_sets p variable = shape_sets p.shape variable || outs_set p.after.outs variable

abbrev pub fixed_of : Fixed → c.Fixed
fixed_of fixed = record { variables = is_in fixed.variables.items; ops = fixed.ops.items }

abbrev pub copied_of : Copied → c.Copied
copied_of s = record { ops = map op_of s.ops.items; outs = s.outs.items; taken = s.taken.items }

-- with this variable, if it belongs there
abbrev pub with_if : Bool → VarId → List VarId → List VarId
with_if b variable vs = if b then vs ++ variable ∷ [] else vs
