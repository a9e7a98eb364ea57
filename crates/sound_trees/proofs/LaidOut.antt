-- A program that is laid out from a tree that is ready is sound.
use Rattle.std.specs.Prelude.{◌==◌, if◌then◌else◌}
use Rattle.std.specs.Option.{option_map}
use Rattle.std.specs.List.{zip}
use Rattle.std.proofs.Common.{◌≡◌, ℕ, ◌+◌, Bool, true, false, refl, sym, subst, List, [], ◌∷◌, ◌++◌, map, length, Option, Some, None}
use Rattle.hls_base.specs.declared.number.NodeId.{NodeId}
use Rattle.hls_base.specs.declared.number.VarId.{VarId}
use Rattle.ir_core.specs.declared.body.Operand.{Operand}
use Rattle.ir_core.specs.declared.body.Out.{Out}
use Rattle.ir_core.specs.declared.cfg.End.{End}
use Rattle.ir_core.specs.declared.cfg.End.TheVariants as end
use Rattle.ir_core.specs.declared.cfg.Node.{Node}
use Rattle.ir_core.specs.declared.cfg.Node.TheVariants as node
use Rattle.ir_core.specs.declared.stamp.Untimed.{Untimed}
use Rattle.ir_core.specs.Bodies.{OpTree, Shapes}
use Rattle.ir_core.specs.Trees.{ExitTree, next, branch, choose, break_, continue_, leave, BlockTree, BodyTree, SequenceTree, sequence, PartTrees, no_part, more_parts, ShapeTree, fork, loop, switch, land, overlapped, SideTree, no_side, side, ArmTrees, no_arm, more_arms}
use Rattle.ir_layout.specs.Nodes.{EndTree, jumps, branches, chooses, returns, NodeTree, plain, looped, case_of, end_of, node_of}
use Rattle.ir_layout.specs.Sizes.{sequence_size, side_size, parts_size, arms_size}
use Rattle.ir_layout.specs.Layout.{Ahead, finish, onto, tested, by_case, Around, held_behind, unset, left_in, straight, end_for, laid_block, ahead_of_parts, behind_shape, before_parts, in_loop, in_switch, body_start, step_start, laid, laid_parts, laid_shape, laid_side, laid_arms}
use Rattle.pass_runs.specs.ConvertRuns.Typed.{AreEarly, OutsAreTyped, ExitIsTyped}
use Rattle.pass_runs.proofs.ConvertRuns.Joining.{has_early}
use Rattle.clock_runs.specs.Premises.{Each, IsOperand, IsOperandIf, AreSoundOps, IsSoundEnd, IsSoundNode}
use Rattle.sound_trees.specs.Trees.{SequenceHas, PartsHave, ShapeHas, SideHas, ArmsHave}
use Rattle.sound_trees.specs.Ready.{AreNear, OutsAreNear, ExitIsNear, BlockIsReady}
use Rattle.sound_trees.specs.Loops.{BodyIsSound}
use Rattle.sound_trees.proofs.Sound.{block_operand, block_ops}

-- ---- nodes without where they lie in memory

abbrev pub EndIsSound : ℕ → EndTree → Type 0
EndIsSound k (jumps n) = Unit {0}
EndIsSound k (branches test yes_ no_) = IsOperand [] k test
EndIsSound k (chooses cases other) = Each (λ (c : Operand × ℕ). IsOperand [] k c.0) cases
EndIsSound k (returns word) = IsOperandIf [] k word

module _ (shapes : Shapes) where
  pub record PlainIsSound (body : BodyTree) (end_ : EndTree) : Type 0 where
    pub ops : AreSoundOps shapes [] body.ops
    pub outs : Each (λ (x : Out). IsOperand [] (length body.ops) x.value) body.outs
    pub ends : EndIsSound (length body.ops) end_
    pub untested : body.test ≡ None

  abbrev pub NodeIsSound : NodeTree → Type 0
  NodeIsSound (plain point body end_) = PlainIsSound body end_
  NodeIsSound (looped point body n) = BodyIsSound shapes body

  both : (xs ys : List NodeTree) → Each NodeIsSound xs → Each NodeIsSound ys → Each NodeIsSound (xs ++ ys)
  both [] ys h k = k
  both (x ∷ xs) ys h k = (h.0, both xs ys h.1 k)

  -- ---- blocks

  module _ (words : List ℕ) where
    outs_sound : (ops : List OpTree) (xs : List Out) → OutsAreNear xs → OutsAreTyped shapes.widths words ops xs → Each (λ (x : Out). IsOperand [] (length ops) x.value) xs
    outs_sound ops [] n t = tt
    outs_sound ops (x ∷ xs) n t = (block_operand (length ops) x.value n.0 (has_early shapes.widths words ops t.0.0 x.value.value t.0.2), outs_sound ops xs n.1 t.1)

    held_sound : (k : ℕ) (xs : List Out) (v : ℕ) (x : Operand) → Each (λ (y : Out). IsOperand [] k y.value) xs → IsOperand [] k x → IsOperand [] k (held_behind xs v x)
    held_sound k [] v x h n = n
    held_sound k (y ∷ ys) v x h n = held_sound k ys v (if y.variable.0 == v then y.value else x) h.1 (by (y.variable.0 == v)) where
      by : (c : Bool) → IsOperand [] k (if c then y.value else x)
      by true = h.0
      by false = n

    cases_sound : (k : ℕ) (xs : List Operand) (ns : List ℕ) → AreNear xs → AreEarly k xs → Each (λ (c : Operand × ℕ). IsOperand [] k c.0) (zip xs ns)
    cases_sound k [] ns n l = tt
    cases_sound k (x ∷ xs) [] n l = tt
    cases_sound k (x ∷ xs) (m ∷ ns) n l = (block_operand k x n.0 l.0, cases_sound k xs ns n.1 l.1)

    returned_sound : (k : ℕ) (outs : List Out) (returned : Option VarId) → Each (λ (y : Out). IsOperand [] k y.value) outs → IsOperandIf [] k (option_map (left_in outs) returned)
    returned_sound k outs None h = tt
    returned_sound k outs (Some v) h = held_sound k outs v.0 (unset v) h (block_operand k (unset v) refl tt)

    straight_sound : (k : ℕ) (around : Around) (outs : List Out) (ahead : Ahead) → Each (λ (y : Out). IsOperand [] k y.value) outs → EndIsSound k (straight around outs ahead)
    straight_sound k around outs finish h = returned_sound k outs around.returned h
    straight_sound k around outs (onto n) h = tt
    straight_sound k around outs (tested yes_ no_) h = tt
    straight_sound k around outs (by_case cases other) h = tt

    end_sound : (ops : List OpTree) (around : Around) (outs : List Out) (ahead : Ahead) (e : ExitTree) → Each (λ (y : Out). IsOperand [] (length ops) y.value) outs → ExitIsNear e → ExitIsTyped shapes.widths words ops e → EndIsSound (length ops) (end_for around outs ahead e)
    end_sound ops around outs ahead break_ h n t = tt
    end_sound ops around outs ahead continue_ h n t = tt
    end_sound ops around outs ahead (leave number) h n t = tt
    end_sound ops around outs (tested yes_ no_) (branch test) h n t = block_operand (length ops) test n (has_early shapes.widths words ops 1 test.value t)
    end_sound ops around outs (by_case cases other) (choose tests) h n t = cases_sound (length ops) tests cases n t
    end_sound ops around outs finish (branch test) h n t = straight_sound (length ops) around outs finish h
    end_sound ops around outs (onto m) (branch test) h n t = tt
    end_sound ops around outs (by_case cases other) (branch test) h n t = tt
    end_sound ops around outs finish (choose tests) h n t = straight_sound (length ops) around outs finish h
    end_sound ops around outs (onto m) (choose tests) h n t = tt
    end_sound ops around outs (tested yes_ no_) (choose tests) h n t = tt
    end_sound ops around outs finish next h n t = straight_sound (length ops) around outs finish h
    end_sound ops around outs (onto m) next h n t = tt
    end_sound ops around outs (tested yes_ no_) next h n t = tt
    end_sound ops around outs (by_case cases other) next h n t = tt

    block_sound : (around : Around) (ahead : Ahead) (b : BlockTree) → BlockIsReady shapes words true b → NodeIsSound (laid_block around ahead b)
    block_sound around ahead b h =
        let o = outs_sound b.ops b.outs h.outs h.typed.outs in
        record { ops = block_ops shapes words b.ops h.typed.ops h.ops; outs = o; ends = end_sound b.ops around b.outs ahead b.exit o h.exit h.typed.exit; untested = refl }

    -- ---- trees

    module _ (C : SequenceTree → SequenceTree → Type 0) where
      abbrev B : BlockTree → Type 0
      B = BlockIsReady shapes words true

      abbrev O : BodyTree → Type 0
      O = BodyIsSound shapes

      mutual
        pub laid_sound : (around : Around) (ahead : Ahead) (place : ℕ) (s : SequenceTree) → SequenceHas B C O s → Each NodeIsSound (laid around ahead place s)
        laid_sound around ahead place (sequence first rest) h =
            (block_sound (before_parts (place + 1) rest around) (ahead_of_parts (place + 1) rest ahead) first h.0, parts_sound around ahead (place + 1) rest h.1)

        parts_sound : (around : Around) (ahead : Ahead) (place : ℕ) (p : PartTrees) → PartsHave B C O p → Each NodeIsSound (laid_parts around ahead place p)
        parts_sound around ahead place no_part h = tt
        parts_sound around ahead place (more_parts shape after rest) h =
            let there = behind_shape place shape + 1 in
            both (laid_shape (before_parts there rest around) place shape) (laid_block (before_parts there rest around) (ahead_of_parts there rest ahead) after ∷ laid_parts around ahead there rest)
            (shape_sound (before_parts there rest around) place shape h.0) (block_sound (before_parts there rest around) (ahead_of_parts there rest ahead) after h.1, parts_sound around ahead there rest h.2)

        shape_sound : (around : Around) (place : ℕ) (shape : ShapeTree) → ShapeHas B C O shape → Each NodeIsSound (laid_shape around place shape)
        shape_sound around place (fork yes_ no_ c) h =
            let after = place + (side_size yes_ + side_size no_) in
            both (laid_side around after place yes_) (laid_side around after (place + side_size yes_) no_) (side_sound around after place yes_ h.0) (side_sound around after (place + side_size yes_) no_ h.1)
        shape_sound around place (loop post test body step e) h =
            let after = place + (sequence_size test + (sequence_size body + side_size step)) in
            let inside = in_loop after (step_start place test body step) around in
            both (laid inside (tested (body_start place test) after) place test) (laid inside (onto (step_start place test body step)) (body_start place test) body ++ laid_side inside place (body_start place test + sequence_size body) step)
            (laid_sound inside (tested (body_start place test) after) place test h.0)
            (both (laid inside (onto (step_start place test body step)) (body_start place test) body) (laid_side inside place (body_start place test + sequence_size body) step)
            (laid_sound inside (onto (step_start place test body step)) (body_start place test) body h.1) (side_sound inside place (body_start place test + sequence_size body) step h.2))
        shape_sound around place (switch dead targets other arms) h =
            let inside = in_switch (place + (parts_size dead + arms_size arms)) around in
            both (laid_parts inside (onto (place + parts_size dead)) place dead) (laid_arms inside (place + parts_size dead) arms) (parts_sound inside (onto (place + parts_size dead)) place dead h.0) (arms_sound inside (place + parts_size dead) arms h.1)
        shape_sound around place (land number) h = tt
        shape_sound around place (overlapped point body) h = (h, tt)

        side_sound : (around : Around) (after place : ℕ) (s : SideTree) → SideHas B C O s → Each NodeIsSound (laid_side around after place s)
        side_sound around after place no_side h = tt
        side_sound around after place (side blocks) h = laid_sound around (onto after) place blocks h

        arms_sound : (around : Around) (place : ℕ) (p : ArmTrees) → ArmsHave B C O p → Each NodeIsSound (laid_arms around place p)
        arms_sound around place no_arm h = tt
        arms_sound around place (more_arms first rest) h =
            both (laid around (onto (place + sequence_size first)) place first) (laid_arms around (place + sequence_size first) rest) (laid_sound around (onto (place + sequence_size first)) place first h.0) (arms_sound around (place + sequence_size first) rest h.1)

  -- ---- the code's nodes

  code_cases : (k : ℕ) (cs : List (Operand × NodeId)) → Each (λ (c : Operand × ℕ). IsOperand [] k c.0) (map case_of cs) → Each (λ (c : Operand × NodeId). IsOperand [] k c.0) cs
  code_cases k [] h = tt
  code_cases k (c ∷ cs) h = (h.0, code_cases k cs h.1)

  code_end : (k : ℕ) (e : End) → EndIsSound k (end_of e) → IsSoundEnd k e
  code_end k (end.Jump n) h = tt
  code_end k (end.Branch test left right) h = h
  code_end k (end.Choose cases other) h = code_cases k cases.items h
  code_end k (end.Return word) h = h

  code_node : (n : Node Untimed) → NodeIsSound (node_of n) → IsSoundNode shapes n
  code_node (node.Plain block) h = record { ops = h.ops; outs = h.outs; ends = code_end _ block.end h.ends; untested = h.untested }
  code_node (node.Looped region) h = record { ops = h.ops; outs = h.outs; apart = h.apart; test = h.test; stores = h.stores }

  code_each : (ns : List (Node Untimed)) → Each NodeIsSound (map node_of ns) → Each (IsSoundNode shapes) ns
  code_each [] h = tt
  code_each (n ∷ ns) h = (code_node n h.0, code_each ns h.1)

  pub code_sound : (ns : List (Node Untimed)) (trees : List NodeTree) → map node_of ns ≡ trees → Each NodeIsSound trees → Each (IsSoundNode shapes) ns
  code_sound ns trees e h = code_each ns (subst (Each NodeIsSound) (sym e) h)
