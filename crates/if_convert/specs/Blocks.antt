-- The code's blocks, branches and rows without where they lie in memory.
use Rattle.std.specs.Prelude.{◌≡◌, List, [], ◌∷◌, map, Option, Some, None}
use Rattle.std.specs.Option.{option_map}
use Rattle.ir_core.specs.Bodies.{op_of}
use Rattle.ir_core.specs.Trees.{BlockTree, block_of, exit_of, SequenceTree, sequence, PartTrees, more_parts, PartTree, part_of, ShapeTree, shape_of}
use Rattle.passes.specs.Conversion.Merging as m
use Rattle.passes.specs.Conversion as c
use Rattle.passes.specs.Conversion.{part_before, behind, going_on, converted_behind}
use Rattle.if_convert.specs.declared.fork.Found.{Found}
use Rattle.if_convert.specs.declared.fork.Found.TheVariants as found
use Rattle.if_convert.specs.declared.line.Line.{Line}
use Rattle.if_convert.specs.declared.line.Line.TheVariants as line
use Rattle.if_convert.specs.declared.merging.Branched.{Branched}
use Rattle.if_convert.specs.declared.merging.Branches.{Branches}
use Rattle.if_convert.specs.declared.merging.Choice.{Choice}
use Rattle.if_convert.specs.declared.merging.Open.{Open}
use Rattle.if_convert.specs.declared.merging.Scope.{Scope}
use Rattle.if_convert.specs.Entries.{outs_of}

abbrev pub scope_of : Scope → c.Scope
scope_of scope = record { widths = scope.variables.now; loops = scope.loops }

abbrev pub open_of : Open → BlockTree
open_of open_ = record { point = open_.point; ops = map op_of open_.ops.items; outs = outs_of open_.sets; exit = exit_of open_.exit }

abbrev pub branched_of : Branched → m.Branched
branched_of b = record { ops = map op_of b.ops.items; outs = outs_of b.sets }

abbrev pub choice_of : Choice → m.Choice
choice_of choice = record { variable = choice.variable; yes_ = choice.yes; no_ = choice.no }

abbrev pub branches_of : Branches → m.Branches
branches_of f = record { test = f.test; yes_ = option_map block_of f.yes; no_ = option_map block_of f.no }

-- what was found is a fork that is merged, with these branches, or another shape
abbrev pub Finds : Found → Option m.Branches → ShapeTree → Type 0
Finds (found.Branches branches) f shape = f ≡ Some (branches_of branches)
Finds (found.Shape other) f shape = (f ≡ None) × (shape_of other ≡ shape)

-- ---- rows of blocks

abbrev pub parts_before : List PartTree → PartTrees → PartTrees
parts_before [] parts = parts
parts_before (p ∷ ps) parts = more_parts p.shape p.after (parts_before ps parts)

-- the open block
abbrev pub last_of : Line → BlockTree
last_of (line.Single last) = open_of last
last_of (line.Behind first rest shape last) = open_of last

-- a sequence in the place of the open block, behind those that are closed
abbrev pub before_last : Line → SequenceTree → SequenceTree
before_last (line.Single last) blocks = blocks
before_last (line.Behind first rest shape last) blocks = sequence (block_of first) (parts_before (map part_of rest.items) (part_before (shape_of shape) blocks))

-- a block, a converted shape, the block behind it and the parts behind that
abbrev pub behind_shape : c.Scope → BlockTree → ShapeTree → BlockTree → PartTrees → SequenceTree
behind_shape scope b shape after rest = behind b shape (m.branches_of b.exit shape) (converted_behind scope (going_on scope.widths b (m.branches_of b.exit shape) after) rest)
