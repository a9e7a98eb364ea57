-- The code's values without where they lie in memory.
use Rattle.std.specs.Prelude.{ℕ, ◌+◌, ◌∷◌, ◌++◌, [], List, map, get_or, reverse, Option, Some, None}
use Rattle.std.specs.Option.{option_map}
use Rattle.hls_base.specs.declared.number.NodeId.{NodeId}
use Rattle.ir_layout.specs.declared.flat.Landing as code
use Rattle.ir_layout.specs.declared.ways.Around as a
use Rattle.ir_layout.specs.declared.ways.Ways.{Ways}
use Rattle.ir_layout.specs.declared.ways.Ways.TheVariants as ways
use Rattle.ir_core.specs.Trees.{BlockTree, PartTrees, ArmTrees, no_arm, more_arms}
use Rattle.ir_layout.specs.Nodes.{NodeTree}
use Rattle.ir_layout.specs.Sizes.{sequence_size}
use Rattle.ir_layout.specs.Layout.{Ahead, finish, onto, tested, by_case, Landing, Around, before_parts, ahead_of_parts, laid_block, laid_parts}

abbrev pub number : NodeId → ℕ
number node = node.0

abbrev pub landing_of : code.Landing → Landing
landing_of x = record { number = x.number.0; place = number x.place }

-- the nearest one is the last one
abbrev pub stacked : List code.Landing → List Landing
stacked xs = reverse (map landing_of xs)

abbrev pub around_of : a.Around → List Landing → Around
around_of around lands = record { leave = option_map number around.leave; again = option_map number around.again; lands = lands; returned = around.returned }

abbrev pub ahead_view : Ways → Ahead
ahead_view ways.Return = finish
ahead_view (ways.Node node) = onto (number node)
ahead_view (ways.Test left right) = tested (number left) (number right)
ahead_view (ways.Cases cases other) = by_case (map number cases.items) (number other)

-- the places at which arms begin
abbrev pub arm_starts_from : ℕ → ArmTrees → List ℕ
arm_starts_from place no_arm = []
arm_starts_from place (more_arms first rest) = place ∷ arm_starts_from (place + sequence_size first) rest

abbrev pub other_in : List ℕ → ℕ → Option ℕ → ℕ
other_in starts after None = after
other_in starts after (Some i) = get_or starts i after

-- the first place behind a block, which is not there before shapes that nothing leads to
abbrev pub after_first : ℕ → Option BlockTree → ℕ
after_first place None = place
after_first place (Some b) = place + 1

abbrev pub block_node : Around → Ahead → Option BlockTree → List NodeTree
block_node around ahead None = []
block_node around ahead (Some b) = laid_block around ahead b ∷ []

-- the nodes of such a block and of the parts behind it
abbrev pub laid_behind : Around → Ahead → ℕ → Option BlockTree → PartTrees → List NodeTree
laid_behind around ahead place b parts =
    block_node (before_parts (after_first place b) parts around) (ahead_of_parts (after_first place b) parts ahead) b ++ laid_parts around ahead (after_first place b) parts
