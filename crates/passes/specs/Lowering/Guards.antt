-- Guards: bits that say whether control comes to an operation, where it may not.
use Rattle.std.specs.Prelude.{Bool, List, [], ◌∷◌, Option, Some, None, if◌then◌else◌}
use Rattle.ir_core.specs.declared.body.OpKind.TheVariants as o
use Rattle.ir_core.specs.declared.body.Operand.{Operand}
use Rattle.ir_core.specs.Bodies.{OpTree}
use Rattle.passes.specs.Lowering.Operations.{Emitted, gives, added, plain}

-- Control comes to an operand where the test is 1, or where it is 0. `made` is the bit that says so, under the guards outside too, once an operation needs it.
pub record Guard : Type 0 where
  pub test : Operand
  pub holds : Bool
  pub made : Option Operand

-- Those of an operand, the innermost first: with another one, which has no bit yet, and without it.
abbrev pub only_where : Operand → Bool → List Guard → List Guard
only_where test holds guards = record { test = test; holds = holds; made = None } ∷ guards

abbrev pub outside : List Guard → List Guard
outside [] = []
outside (g ∷ gs) = gs

-- the bit of a guard by itself
abbrev pub own_bit : List OpTree → Guard → Emitted
own_bit ops g = if g.holds then gives ops g.test else added ops (plain o.Not 1 (g.test ∷ []))

-- under the guard outside, if there is one
abbrev pub under : Option Operand → Emitted → Emitted
under None own = own
under (Some outer) own = added own.ops (plain o.And 1 (outer ∷ own.operand ∷ []))

abbrev pub bit_of : List OpTree → Option Operand → Guard → Option Operand → Emitted
bit_of ops outer g (Some made) = gives ops made
bit_of ops outer g None = under outer (own_bit ops g)

-- operations, the guards with their bits, and the bit of the innermost one
pub record Guarded : Type 0 where
  pub ops : List OpTree
  pub guards : List Guard
  pub bit : Option Operand

abbrev pub with_bit : Guard → List Guard → Emitted → Guarded
with_bit g gs made = record { ops = made.ops; guards = record g { made = Some made.operand } ∷ gs; bit = Some made.operand }

abbrev pub within : Guard → Guarded → Guarded
within g around = with_bit g around.guards (bit_of around.ops around.bit g g.made)

-- All guards have their bits, the outermost one first.
abbrev pub guarded : List OpTree → List Guard → Guarded
guarded ops [] = record { ops = ops; guards = []; bit = None }
guarded ops (g ∷ gs) = within g (guarded ops gs)
