-- What the bodies of a program take, and variables that are there.
use Rattle.std.specs.Prelude.{◌≡◌, ℕ, ◌<◌, ◌≤◌, List, [], ◌∷◌, length, slice_get, Some}
use Rattle.hls_base.specs.declared.number.Kept.{Kept}
use Rattle.hls_base.specs.declared.number.VarId.{VarId}
use Rattle.ir_core.specs.declared.body.Body.{Body}
use Rattle.ir_core.specs.declared.body.Op.{Op}
use Rattle.ir_core.specs.declared.cfg.Node.{Node}
use Rattle.ir_core.specs.declared.cfg.Node.TheVariants as node
use Rattle.ir_core.specs.declared.stamp.Untimed.{Untimed}
use Rattle.flat_programs.specs.declared.machine.room.Sizes.{Sizes}

abbrev pub body_in : Node Untimed → Body Untimed
body_in (node.Plain block) = block.body
body_in (node.Looped region) = region.body

abbrev pub HasArgs : List (Op Untimed) → ℕ → Type 0
HasArgs ops most = (k : ℕ) (op : Op Untimed) → slice_get ops k ≡ Some op → length op.args.items ≤ most

abbrev pub FitsSizes : Sizes → Body Untimed → Type 0
FitsSizes s b = (length b.ops.items ≤ s.results) × (length b.outs.items ≤ s.fresh) × HasArgs b.ops.items s.args

abbrev pub KeptThere : List Kept → ℕ → Type 0
KeptThere [] count = Unit {0}
KeptThere (x ∷ xs) count = (x.variable.0 < count) × KeptThere xs count

abbrev pub ParametersThere : List VarId → ℕ → Type 0
ParametersThere [] count = Unit {0}
ParametersThere (x ∷ xs) count = (x.0 < count) × ParametersThere xs count
