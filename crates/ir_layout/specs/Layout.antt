-- Which nodes a tree of blocks becomes: in the order of the tree, each with the places to which it leads.
use Rattle.std.specs.Prelude.{ℕ, zero, suc, ◌+◌, ◌==◌, List, [], ◌∷◌, ◌++◌, map, Option, Some, None, if◌then◌else◌}
use Rattle.std.specs.Option.{option_map}
use Rattle.std.specs.List.{zip}
use Rattle.hls_base.specs.declared.number.VarId.{VarId}
use Rattle.ir_core.specs.declared.body.Operand.{Operand}
use Rattle.ir_core.specs.declared.body.Out.{Out}
use Rattle.ir_core.specs.declared.body.Source.TheVariants as source
use Rattle.ir_core.specs.Trees.{ExitTree, branch, choose, break_, continue_, leave, BlockTree, SequenceTree, sequence, PartTrees, no_part, more_parts, ShapeTree, fork, loop, switch, land, overlapped, SideTree, no_side, side, ArmTrees, no_arm, more_arms}
use Rattle.ir_layout.specs.Nodes.{EndTree, jumps, branches, chooses, returns, NodeTree, plain, looped}
use Rattle.ir_layout.specs.Sizes.{sequence_size, parts_size, shape_size, side_size, arms_size}

-- where control goes from the end of a block that has no jump: out of the program, to a node, by a test, or by the cases of a switch
pub data Ahead : Type 0 where
  finish : Ahead
  onto : (node : ℕ) → Ahead
  tested : (yes_ no_ : ℕ) → Ahead
  by_case : (cases : List ℕ) (other : ℕ) → Ahead

-- a place that is left to from within, with its number
pub record Landing : Type 0 where
  pub number : ℕ
  pub place : ℕ

-- where jumps lead: out of the loop or switch round a block, to the next iteration, and to the places that stand behind, the nearest first; and the variable of the program's result
pub record Around : Type 0 where
  pub leave : Option ℕ
  pub again : Option ℕ
  pub lands : List Landing
  pub returned : Option VarId

-- ---- how blocks end

abbrev pub land_place : List Landing → ℕ → Option ℕ
land_place [] number = None
land_place (x ∷ xs) number = if number == x.number then Some x.place else land_place xs number

-- what a variable holds behind these, of which the last one counts, where it held this before
abbrev pub held_behind : List Out → ℕ → Operand → Operand
held_behind [] variable x = x
held_behind (o ∷ os) variable x = held_behind os variable (if o.variable.0 == variable then o.value else x)

abbrev pub unset : VarId → Operand
unset variable = record { value = source.Variable variable; distance = 0 }

abbrev pub left_in : List Out → VarId → Operand
left_in outs variable = held_behind outs variable.0 (unset variable)

abbrev pub straight : Around → List Out → Ahead → EndTree
straight around outs finish = returns (option_map (left_in outs) around.returned)
straight around outs (onto node) = jumps node
straight around outs (tested yes_ no_) = jumps no_
straight around outs (by_case cases other) = jumps other

-- the place of a jump, and the first one where it has none
abbrev pub place_or_first : Option ℕ → ℕ
place_or_first None = 0
place_or_first (Some place) = place

-- An exit that does not fit what stands ahead goes straight on.
abbrev pub end_for : Around → List Out → Ahead → ExitTree → EndTree
end_for around outs ahead break_ = jumps (place_or_first around.leave)
end_for around outs ahead continue_ = jumps (place_or_first around.again)
end_for around outs ahead (leave number) = jumps (place_or_first (land_place around.lands number.0))
end_for around outs (tested yes_ no_) (branch test) = branches test yes_ no_
end_for around outs (by_case cases other) (choose tests) = chooses (zip tests cases) other
end_for around outs ahead exit = straight around outs ahead

abbrev pub laid_block : Around → Ahead → BlockTree → NodeTree
laid_block around ahead b = plain b.point (record { ops = b.ops; outs = b.outs; test = None }) (end_for around b.outs ahead b.exit)

-- ---- where shapes begin, whose first node is at this place

-- the first node of a side, or what stands behind where it has no blocks
abbrev pub side_start : ℕ → ℕ → SideTree → ℕ
side_start place after no_side = after
side_start place after (side blocks) = place

-- the first node of an arm, or what stands behind the last one
abbrev pub arm_start : ℕ → ArmTrees → ℕ → ℕ
arm_start place no_arm i = place
arm_start place (more_arms first rest) zero = place
arm_start place (more_arms first rest) (suc i) = arm_start (place + sequence_size first) rest i

abbrev pub other_start : ℕ → ℕ → ArmTrees → Option ℕ → ℕ
other_start place after arms None = after
other_start place after arms (Some i) = arm_start place arms i

-- the parts of a loop
abbrev pub body_start : ℕ → SequenceTree → ℕ
body_start place test = place + sequence_size test

abbrev pub step_start : ℕ → SequenceTree → SequenceTree → SideTree → ℕ
step_start place test body step = side_start (body_start place test + sequence_size body) place step

abbrev pub ahead_of : ℕ → ShapeTree → Ahead
ahead_of place (fork yes_ no_ convertible) =
    tested (side_start place (place + (side_size yes_ + side_size no_)) yes_) (side_start (place + side_size yes_) (place + (side_size yes_ + side_size no_)) no_)
ahead_of place (loop post test body step eligible) = onto (if post then body_start place test else place)
ahead_of place (switch dead targets other arms) =
    by_case (map (arm_start (place + parts_size dead) arms) targets) (other_start (place + parts_size dead) (place + (parts_size dead + arms_size arms)) arms other)
ahead_of place (land number) = onto place
ahead_of place (overlapped point body) = onto place

-- what stands ahead of a block with these parts behind it
abbrev pub ahead_of_parts : ℕ → PartTrees → Ahead → Ahead
ahead_of_parts place no_part ahead = ahead
ahead_of_parts place (more_parts shape after rest) ahead = ahead_of place shape

-- ---- where jumps lead

abbrev pub behind_shape : ℕ → ShapeTree → ℕ
behind_shape place shape = place + shape_size shape

abbrev pub with_land : ℕ → ShapeTree → List Landing → List Landing
with_land place (land number) lands = record { number = number.0; place = place } ∷ lands
with_land place shape lands = lands

-- the places in these parts, before those that stand further behind
abbrev pub lands_in : ℕ → PartTrees → List Landing → List Landing
lands_in place no_part lands = lands
lands_in place (more_parts shape after rest) lands = with_land (behind_shape place shape) shape (lands_in (behind_shape place shape + 1) rest lands)

abbrev pub before_parts : ℕ → PartTrees → Around → Around
before_parts place parts around = record around { lands = lands_in place parts around.lands }

abbrev pub in_loop : ℕ → ℕ → Around → Around
in_loop after again_ around = record around { leave = Some after; again = Some again_ }

abbrev pub in_switch : ℕ → Around → Around
in_switch after around = record around { leave = Some after }

-- ---- the nodes of a tree, whose first node is at this place

abbrev mutual
  pub laid : Around → Ahead → ℕ → SequenceTree → List NodeTree
  laid around ahead place (sequence first rest) =
      laid_block (before_parts (place + 1) rest around) (ahead_of_parts (place + 1) rest ahead) first ∷ laid_parts around ahead (place + 1) rest

  pub laid_parts : Around → Ahead → ℕ → PartTrees → List NodeTree
  laid_parts around ahead place no_part = []
  laid_parts around ahead place (more_parts shape after rest) =
      laid_shape (before_parts (behind_shape place shape + 1) rest around) place shape
      ++ laid_block (before_parts (behind_shape place shape + 1) rest around) (ahead_of_parts (behind_shape place shape + 1) rest ahead) after
      ∷ laid_parts around ahead (behind_shape place shape + 1) rest

  pub laid_shape : Around → ℕ → ShapeTree → List NodeTree
  laid_shape around place (fork yes_ no_ convertible) =
      laid_side around (place + (side_size yes_ + side_size no_)) place yes_ ++ laid_side around (place + (side_size yes_ + side_size no_)) (place + side_size yes_) no_
  laid_shape around place (loop post test body step eligible) =
      laid (in_loop (place + (sequence_size test + (sequence_size body + side_size step))) (step_start place test body step) around)
      (tested (body_start place test) (place + (sequence_size test + (sequence_size body + side_size step)))) place test
      ++ (laid (in_loop (place + (sequence_size test + (sequence_size body + side_size step))) (step_start place test body step) around) (onto (step_start place test body step)) (body_start place test) body
      ++ laid_side (in_loop (place + (sequence_size test + (sequence_size body + side_size step))) (step_start place test body step) around) place (body_start place test + sequence_size body) step)
  laid_shape around place (switch dead targets other arms) =
      laid_parts (in_switch (place + (parts_size dead + arms_size arms)) around) (onto (place + parts_size dead)) place dead
      ++ laid_arms (in_switch (place + (parts_size dead + arms_size arms)) around) (place + parts_size dead) arms
  laid_shape around place (land number) = []
  laid_shape around place (overlapped point body) = looped point body (place + 1) ∷ []

  -- a side, which leads to what stands behind
  pub laid_side : Around → ℕ → ℕ → SideTree → List NodeTree
  laid_side around after place no_side = []
  laid_side around after place (side blocks) = laid around (onto after) place blocks

  -- arms, each of which leads to the next one
  pub laid_arms : Around → ℕ → ArmTrees → List NodeTree
  laid_arms around place no_arm = []
  laid_arms around place (more_arms first rest) =
      laid around (onto (place + sequence_size first)) place first ++ laid_arms around (place + sequence_size first) rest

-- the nodes of a program
abbrev pub laid_out : SequenceTree → Option VarId → List NodeTree
laid_out blocks returned = laid (record { leave = None; again = None; lands = []; returned = returned }) finish 0 blocks
