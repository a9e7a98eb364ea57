-- What holds of the blocks and bodies of a tree holds of the nodes that it is laid out to.
use Rattle.std.proofs.Common.{◌≡◌, ℕ, ◌+◌, List, [], ◌∷◌, ◌++◌}
use Rattle.hls_base.specs.declared.point.Point.{Point}
use Rattle.ir_core.specs.Trees.{BlockTree, BodyTree, SequenceTree, sequence, PartTrees, no_part, more_parts, ShapeTree, fork, loop, switch, land, overlapped, SideTree, no_side, side, ArmTrees, no_arm, more_arms}
use Rattle.ir_layout.specs.Nodes.{NodeTree, looped}
use Rattle.ir_layout.specs.Sizes.{sequence_size, side_size, parts_size, arms_size}
use Rattle.ir_layout.specs.Layout.{Ahead, onto, tested, Around, laid_block, ahead_of_parts, behind_shape, before_parts, in_loop, in_switch, body_start, step_start, laid, laid_parts, laid_shape, laid_side, laid_arms}
use Rattle.hls_base.specs.declared.number.VarId.{VarId}
use Rattle.std.proofs.Common.{Option}
use Rattle.clock_runs.specs.Premises.{Each}
use Rattle.sound_trees.specs.Trees.{SequenceHas, PartsHave, ShapeHas, SideHas, ArmsHave}

pub both : {A : Type 0} (P : A → Type 0) (xs ys : List A) → Each P xs → Each P ys → Each P (xs ++ ys)
both P [] ys h k = k
both P (x ∷ xs) ys h k = (h.0, both P xs ys h.1 k)

-- the variable of the result stays the same all along
module _ (B : BlockTree → Type 0) (L : SequenceTree → SequenceTree → Type 0) (O : BodyTree → Type 0) (P : NodeTree → Type 0) (returned : Option VarId)
    (block_has : (around : Around) (ahead : Ahead) (b : BlockTree) → around.returned ≡ returned → B b → P (laid_block around ahead b)) (body_has : (point : Point) (body : BodyTree) (place : ℕ) → O body → P (looped point body place)) where
  mutual
    pub laid_has : (around : Around) (ahead : Ahead) (place : ℕ) (s : SequenceTree) → around.returned ≡ returned → SequenceHas B L O s → Each P (laid around ahead place s)
    laid_has around ahead place (sequence first rest) r h =
        (block_has (before_parts (place + 1) rest around) (ahead_of_parts (place + 1) rest ahead) first r h.0, parts_have around ahead (place + 1) rest r h.1)

    parts_have : (around : Around) (ahead : Ahead) (place : ℕ) (p : PartTrees) → around.returned ≡ returned → PartsHave B L O p → Each P (laid_parts around ahead place p)
    parts_have around ahead place no_part r h = tt
    parts_have around ahead place (more_parts shape after rest) r h =
        let there = behind_shape place shape + 1 in
        both P (laid_shape (before_parts there rest around) place shape) (laid_block (before_parts there rest around) (ahead_of_parts there rest ahead) after ∷ laid_parts around ahead there rest)
        (shape_has (before_parts there rest around) place shape r h.0) (block_has (before_parts there rest around) (ahead_of_parts there rest ahead) after r h.1, parts_have around ahead there rest r h.2)

    shape_has : (around : Around) (place : ℕ) (shape : ShapeTree) → around.returned ≡ returned → ShapeHas B L O shape → Each P (laid_shape around place shape)
    shape_has around place (fork yes_ no_ c) r h =
        let after = place + (side_size yes_ + side_size no_) in
        both P (laid_side around after place yes_) (laid_side around after (place + side_size yes_) no_) (side_has around after place yes_ r h.0) (side_has around after (place + side_size yes_) no_ r h.1)
    shape_has around place (loop post test body step e) r h =
        let after = place + (sequence_size test + (sequence_size body + side_size step)) in
        let inside = in_loop after (step_start place test body step) around in
        both P (laid inside (tested (body_start place test) after) place test) (laid inside (onto (step_start place test body step)) (body_start place test) body ++ laid_side inside place (body_start place test + sequence_size body) step)
        (laid_has inside (tested (body_start place test) after) place test r h.0)
        (both P (laid inside (onto (step_start place test body step)) (body_start place test) body) (laid_side inside place (body_start place test + sequence_size body) step)
        (laid_has inside (onto (step_start place test body step)) (body_start place test) body r h.1) (side_has inside place (body_start place test + sequence_size body) step r h.2))
    shape_has around place (switch dead targets other arms) r h =
        let inside = in_switch (place + (parts_size dead + arms_size arms)) around in
        both P (laid_parts inside (onto (place + parts_size dead)) place dead) (laid_arms inside (place + parts_size dead) arms) (parts_have inside (onto (place + parts_size dead)) place dead r h.0) (arms_have inside (place + parts_size dead) arms r h.1)
    shape_has around place (land number) r h = tt
    shape_has around place (overlapped point body) r h = (body_has point body _ h, tt)

    side_has : (around : Around) (after place : ℕ) (s : SideTree) → around.returned ≡ returned → SideHas B L O s → Each P (laid_side around after place s)
    side_has around after place no_side r h = tt
    side_has around after place (side blocks) r h = laid_has around (onto after) place blocks r h

    arms_have : (around : Around) (place : ℕ) (p : ArmTrees) → around.returned ≡ returned → ArmsHave B L O p → Each P (laid_arms around place p)
    arms_have around place no_arm r h = tt
    arms_have around place (more_arms first rest) r h =
        both P (laid around (onto (place + sequence_size first)) place first) (laid_arms around (place + sequence_size first) rest) (laid_has around (onto (place + sequence_size first)) place first r h.0)
        (arms_have around (place + sequence_size first) rest r h.1)
