-- A loop of one block for its test and one for its body, as one whose iterations may overlap.
use Rattle.std.specs.Prelude.{ℕ, ◌==◌, Bool, true, false, not, ◌&&◌, List, [], ◌∷◌, length, map, drop, Option, Some, None, if◌then◌else◌}
use Rattle.std.specs.Option.{option_map}
use Rattle.ir_core.specs.declared.body.Operand.{Operand}
use Rattle.ir_core.specs.declared.body.Out.{Out}
use Rattle.ir_core.specs.declared.body.Source.{Source}
use Rattle.ir_core.specs.declared.body.Source.TheVariants as source
use Rattle.ir_core.specs.Bodies.{OpTree}
use Rattle.ir_core.specs.Trees.{BlockTree, BodyTree, SequenceTree, sequence, no_part, more_parts, ShapeTree, loop, overlapped, SideTree, no_side, side}
use Rattle.ir_core.specs.TreeRuns.{tested_by}
use Rattle.passes.specs.Conversion.Outs.{is_set, out}
use Rattle.passes.specs.Conversion.Joining.{needs_guard}
use Rattle.passes.specs.Conversion.Merging.{test_of, is_only, first_of, opened, joined}

-- ---- which loops are overlapped

abbrev pub none_needs_guard : List OpTree → Bool
none_needs_guard [] = true
none_needs_guard (op ∷ ops) = not (needs_guard op) && none_needs_guard ops

-- The block sets nothing, and behind the operation that makes the test no other one may be undefined or stores.
abbrev pub is_test : BlockTree → Operand → Bool
is_test b test = length b.outs == 0 && none_needs_guard (drop (tested_by test.value) b.ops)

abbrev pub test_if : BlockTree → Option Operand → Option Operand
test_if b None = None
test_if b (Some test) = if is_test b test then Some test else None

-- the test of a sequence of one such block alone
abbrev pub test_alone : SequenceTree → Option Operand
test_alone (sequence b no_part) = test_if b (test_of b.exit)
test_alone (sequence b (more_parts shape after rest)) = None

abbrev pub is_there : SideTree → Bool
is_there no_side = false
is_there (side blocks) = true

-- the test of a loop whose test comes first, whose body is one block alone, and which has no step
abbrev pub overlapped_test : Bool → SequenceTree → SequenceTree → SideTree → Option Operand
overlapped_test post test body step = if not post && (not (is_there step) && is_only body) then test_alone test else None

-- ---- iterations

-- What a variable that the iteration sets holds at first, the iteration before left.
abbrev pub carried_from : List Out → Operand → Source → Operand
carried_from outs x (source.Variable variable) = if is_set outs variable then record x { distance = 1 } else x
carried_from outs x s = x

abbrev pub carried : List Out → Operand → Operand
carried outs x = carried_from outs x x.value

abbrev pub carried_op : List Out → OpTree → OpTree
carried_op outs op = record op { args = map (carried outs) op.args; guard = option_map (carried outs) op.guard }

abbrev pub carried_out : List Out → Out → Out
carried_out outs x = out x.variable (carried outs x.value)

abbrev pub iteration : Operand → BlockTree → BodyTree
iteration test b = record { ops = map (carried_op b.outs) b.ops; outs = map (carried_out b.outs) b.outs; test = Some (carried b.outs test) }

-- The operations of the test come first, and then those of the body.
abbrev pub overlapping : List ℕ → Operand → BlockTree → BlockTree → ShapeTree
overlapping widths test head body = overlapped body.point (iteration test (joined widths (opened head) body))

abbrev pub loop_by : List ℕ → Option Operand → Bool → SequenceTree → SequenceTree → SideTree → ShapeTree
loop_by widths None post test body step = loop post test body step false
loop_by widths (Some known) post test body step = overlapping widths known (first_of test) (first_of body)

abbrev pub chosen_test : Bool → Bool → SequenceTree → SequenceTree → SideTree → Option Operand
chosen_test eligible post test body step = if eligible then overlapped_test post test body step else None

-- a loop, which is overlapped if it is to be and can be
abbrev pub converted_loop : List ℕ → Bool → Bool → SequenceTree → SequenceTree → SideTree → ShapeTree
converted_loop widths eligible post test body step = loop_by widths (chosen_test eligible post test body step) post test body step
