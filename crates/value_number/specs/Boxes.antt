-- Shapes and sides out of their boxes.
use Rattle.std.specs.Prelude.{Option}
use Rattle.std.specs.declared.boxed.Box.{Box}
use Rattle.std.specs.declared.alloc.Global.{Global}
use Rattle.std.specs.Option.{option_map}
use Rattle.ir_core.specs.declared.tree.Sequence.{Sequence}
use Rattle.ir_core.specs.declared.tree.Shape.{Shape}
use Rattle.ir_core.specs.declared.tree.Shape.TheVariants as whole
use Rattle.value_number.specs.declared.boxes.SplitShape.{SplitShape}
use Rattle.value_number.specs.declared.boxes.SplitShape.TheVariants as split

abbrev pub side_from : Option (Box Sequence Global) → Option Sequence
side_from = option_map (λ boxed. boxed.value)

abbrev pub shape_from : SplitShape → Shape
shape_from (split.Fork left right convertible) = whole.Fork (side_from left) (side_from right) convertible
shape_from (split.Loop post test body step eligible) = whole.Loop post test body step eligible
shape_from (split.Choose dead targets other arms) = whole.Choose dead targets other arms
shape_from (split.Land number) = whole.Land number
shape_from (split.Overlapped point body) = whole.Overlapped point.value body.value
