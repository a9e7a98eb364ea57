-- The points at which the blocks of a tree begin, in order.
use Rattle.std.specs.Prelude.{Bool, true, false, ◌&&◌, List, [], ◌∷◌, ◌++◌, take, Option, Some, None, if◌then◌else◌}
use Rattle.std.specs.Option.{option_map}
use Rattle.hls_base.specs.declared.point.Point.{Point}
use Rattle.ir_core.specs.declared.tree.BasicBlock.{BasicBlock}
use Rattle.ir_core.specs.declared.tree.Sequence.{Sequence}
use Rattle.ir_core.specs.declared.tree.Part.{Part}
use Rattle.ir_core.specs.declared.tree.Shape.{Shape}
use Rattle.ir_core.specs.declared.tree.Shape.TheOpen.{Sequence-F, Part-F, Shape-F}
use Rattle.ir_core.specs.declared.tree.Shape.TheFolds.{fold-Sequence, fold-Part, fold-Shape}

abbrev pub Points : Type 0
Points = List Point

abbrev pub joined : List Points → Points
joined [] = []
joined (points ∷ more) = points ++ joined more

abbrev pub where_there : Option Points → Points
where_there None = []
where_there (Some points) = points

-- the point of a block that may be there
abbrev pub block_point : Option BasicBlock → Points
block_point None = []
block_point (Some block) = block.point ∷ []

-- ---- all blocks

abbrev pub sequence_step : Sequence-F Points Points Points → Points
sequence_step s = s.first.point ∷ joined s.rest.items

abbrev pub part_step : Part-F Points Points Points → Points
part_step p = p.shape ++ p.after.point ∷ []

abbrev pub shape_step : Shape-F Points Points Points → Points
shape_step (Shape-F.Fork left right convertible) = where_there left ++ where_there right
shape_step (Shape-F.Loop post test body step eligible) = test.value ++ (body.value ++ where_there (option_map (λ part. part.value) step))
shape_step (Shape-F.Choose dead targets other arms) = joined dead.items ++ joined arms.items
shape_step (Shape-F.Land land) = []
shape_step (Shape-F.Overlapped point body) = point ∷ []

abbrev pub points_of : Sequence → Points
points_of = fold-Sequence Points Points Points shape_step part_step sequence_step

abbrev pub part_points : Part → Points
part_points = fold-Part Points Points Points shape_step part_step sequence_step

abbrev pub shape_points : Shape → Points
shape_points = fold-Shape Points Points Points shape_step part_step sequence_step

-- ---- the blocks that stay where forks are converted

-- what a shape keeps; the block behind a fork that is converted is joined to the one before it
pub record Kept : Type 0 where
  pub is_joined : Bool
  pub points : Points

abbrev pub apart : Points → Kept
apart points = record { is_joined = false; points = points }

abbrev pub kept_fork : Bool → Points → Kept
kept_fork convertible points = if convertible then record { is_joined = true; points = [] } else apart points

abbrev pub kept_part_step : Part-F Kept Points Points → Points
kept_part_step p = if p.shape.is_joined then [] else p.shape.points ++ p.after.point ∷ []

abbrev pub kept_sequence_step : Sequence-F Kept Points Points → Points
kept_sequence_step s = s.first.point ∷ joined s.rest.items

-- nothing of a fork that is converted, and the point of its body of a loop that is overlapped
abbrev pub kept_shape_step : Bool → Shape-F Kept Points Points → Kept
kept_shape_step loops (Shape-F.Fork left right convertible) =
    kept_fork convertible (where_there left ++ where_there right)
kept_shape_step loops (Shape-F.Loop post test body step eligible) =
    if eligible && loops then apart (take 1 body.value)
    else apart (test.value ++ (body.value ++ where_there (option_map (λ part. part.value) step)))
kept_shape_step loops (Shape-F.Choose dead targets other arms) = apart (joined dead.items ++ joined arms.items)
kept_shape_step loops (Shape-F.Land land) = apart []
kept_shape_step loops (Shape-F.Overlapped point body) = apart (point ∷ [])

abbrev pub kept_points : Bool → Sequence → Points
kept_points loops = fold-Sequence Kept Points Points (kept_shape_step loops) kept_part_step kept_sequence_step

abbrev pub kept_part : Bool → Part → Points
kept_part loops = fold-Part Kept Points Points (kept_shape_step loops) kept_part_step kept_sequence_step

abbrev pub kept_shape : Bool → Shape → Kept
kept_shape loops = fold-Shape Kept Points Points (kept_shape_step loops) kept_part_step kept_sequence_step
