-- The nodes that a valid tree is laid out to are valid.
use Rattle.std.proofs.Common.{◌≡◌, ◌∙◌, ◌+◌, ◌<◌, ◌≤◌, ℕ, Bool, true, false, refl, ap, sym, subst, arith, List, [], ◌∷◌, ◌++◌, Option, Some, None}
use Rattle.std.specs.Prelude.{◌==◌, slice_get, if◌then◌else◌}
use Rattle.std.specs.List.{zip}
use Rattle.std.proofs.lemmas.Bool.{eqb-true}
use Rattle.std.proofs.lemmas.Option.{same_Some}
use Rattle.hls_base.specs.declared.number.VarId.{VarId}
use Rattle.ir_core.specs.declared.body.Operand.{Operand}
use Rattle.ir_core.specs.declared.body.Out.{Out}
use Rattle.ir_core.specs.Bodies.{OpTree}
use Rattle.ir_core.specs.Trees.{ExitTree, next, branch, choose, break_, continue_, leave, BlockTree, SequenceTree, sequence, PartTrees, no_part, more_parts, ShapeTree, fork, loop, switch, land, overlapped, SideTree, no_side, side, ArmTrees, no_arm, more_arms}
use Rattle.ir_layout.specs.Nodes.{NodeTree}
use Rattle.ir_layout.specs.Sizes.{sequence_size, parts_size, side_size, arms_size}
use Rattle.ir_layout.specs.Layout.{Ahead, finish, onto, tested, by_case, Around, land_place, held_behind, unset, straight, end_for, laid_block, ahead_of_parts, behind_shape, before_parts, in_loop, in_switch, body_start, step_start, laid, laid_parts, laid_shape, laid_side, laid_arms}
use Rattle.valid_trees.specs.Shapes.{FrameShape}
use Rattle.valid_trees.specs.Operands.{IsOperand, AllAreOperands}
use Rattle.valid_trees.specs.Bodies.{OutsAreValid, ExitIsValid, BlockIsValid, BodyIsValid}
use Rattle.valid_trees.specs.Trees.{TreeIsValid, PartsHave, ShapeHas, SideHas, ArmsHave}
use Rattle.valid_trees.proofs.ValidLayout.Bodies.{CasesAreValid, EndIsValid, NodeIsValid, NodesAreValid}
use Rattle.valid_trees.proofs.ValidLayout.Places.{AreBelow, IsAhead, IsAround, land_below, jump_below, parts_ahead, lands_below, step_below}

-- The variable of the result has its width.
abbrev pub HoldsResult : List ℕ → ℕ → Option VarId → Type 0
HoldsResult widths ret None = ret ≡ 0
HoldsResult widths ret (Some v) = (0 < ret) × (slice_get widths v.0 ≡ Some ret)

module _ (shape : FrameShape) (count ret : ℕ) where
  pub both : (xs ys : List NodeTree) → NodesAreValid shape count ret xs → NodesAreValid shape count ret ys → NodesAreValid shape count ret (xs ++ ys)
  both [] ys h k = k
  both (x ∷ xs) ys h k = (h.0, both xs ys h.1 k)

  -- ---- how blocks end

  held_valid : (ops : List OpTree) (outs : List Out) (v : ℕ) (x : Operand) → OutsAreValid shape [] ops outs → slice_get shape.widths v ≡ Some ret → IsOperand shape [] ops ret x → IsOperand shape [] ops ret (held_behind outs v x)
  held_valid ops [] v x h w k = k
  held_valid ops (out ∷ outs) v x h w k = held_valid ops outs v (if out.variable.0 == v then out.value else x) h.1 w (by (out.variable.0 == v) refl) where
    by : (c : Bool) → (out.variable.0 == v) ≡ c → IsOperand shape [] ops ret (if c then out.value else x)
    by false e = k
    by true e =
        let there : Some h.0.bits ≡ Some ret = sym h.0.there ∙ ap (slice_get shape.widths) (eqb-true out.variable.0 v e) ∙ w in
        subst (λ n. IsOperand shape [] ops n out.value) (same_Some h.0.bits ret there) h.0.value

  returned_valid : (ops : List OpTree) (outs : List Out) (returned : Option VarId) → OutsAreValid shape [] ops outs → HoldsResult shape.widths ret returned → EndIsValid shape count ret ops (straight (record { leave = None; again = None; lands = []; returned = returned }) outs finish)
  returned_valid ops outs None h r = r
  returned_valid ops outs (Some v) h r = (r.0, held_valid ops outs v.0 (unset v) h r.1 (record { has = r.1; distance = refl }))

  zipped_valid : (ops : List OpTree) (tests : List Operand) (cases : List ℕ) → AllAreOperands shape [] ops 1 tests → AreBelow count cases → CasesAreValid shape count ret ops (zip tests cases)
  zipped_valid ops [] cases h k = tt
  zipped_valid ops (t ∷ tests) [] h k = tt
  zipped_valid ops (t ∷ tests) (c ∷ cases) h k = (h.0, k.0, zipped_valid ops tests cases h.1 k.1)

  module _ (returned : Option VarId) (fits : HoldsResult shape.widths ret returned) (some : 0 < count) where
    -- the variable of the result stays the same all along
    pub record Stands (around : Around) : Type 0 where
      pub places : IsAround count around
      pub result : around.returned ≡ returned

    straight_valid : (around : Around) (ops : List OpTree) (outs : List Out) (ahead : Ahead) → Stands around → OutsAreValid shape [] ops outs → IsAhead count ahead → EndIsValid shape count ret ops (straight around outs ahead)
    straight_valid around ops outs finish s h k =
        subst (λ r. EndIsValid shape count ret ops (straight (record { leave = None; again = None; lands = []; returned = r }) outs finish)) (sym s.result) (returned_valid ops outs returned h fits)
    straight_valid around ops outs (onto n) s h k = k
    straight_valid around ops outs (tested yes_ no_) s h k = k.1
    straight_valid around ops outs (by_case cases other) s h k = k.1

    end_valid : (around : Around) (ops : List OpTree) (outs : List Out) (ahead : Ahead) (exit : ExitTree) → Stands around → OutsAreValid shape [] ops outs → ExitIsValid shape ops exit → IsAhead count ahead → EndIsValid shape count ret ops (end_for around outs ahead exit)
    end_valid around ops outs ahead break_ s h x k = jump_below count around.leave some s.places.leave
    end_valid around ops outs ahead continue_ s h x k = jump_below count around.again some s.places.again
    end_valid around ops outs ahead (leave number) s h x k = jump_below count (land_place around.lands number.0) some (land_below count around.lands number.0 s.places.lands)
    end_valid around ops outs finish next s h x k = straight_valid around ops outs finish s h k
    end_valid around ops outs (onto n) next s h x k = k
    end_valid around ops outs (tested yes_ no_) next s h x k = k.1
    end_valid around ops outs (by_case cases other) next s h x k = k.1
    end_valid around ops outs finish (branch test) s h x k = straight_valid around ops outs finish s h k
    end_valid around ops outs (onto n) (branch test) s h x k = k
    end_valid around ops outs (tested yes_ no_) (branch test) s h x k = (x, k.0, k.1)
    end_valid around ops outs (by_case cases other) (branch test) s h x k = k.1
    end_valid around ops outs finish (choose tests) s h x k = straight_valid around ops outs finish s h k
    end_valid around ops outs (onto n) (choose tests) s h x k = k
    end_valid around ops outs (tested yes_ no_) (choose tests) s h x k = k.1
    end_valid around ops outs (by_case cases other) (choose tests) s h x k = (zipped_valid ops tests cases x k.0, k.1)

    block_valid : (around : Around) (ahead : Ahead) (b : BlockTree) → Stands around → IsAhead count ahead → BlockIsValid shape b → NodeIsValid shape count ret (laid_block around ahead b)
    block_valid around ahead b s k h = (refl, h.ops, h.outs, end_valid around b.ops b.outs ahead b.exit s h.outs h.exit k)

    -- ---- trees

    before : (place : ℕ) (parts : PartTrees) (around : Around) → place + parts_size parts ≤ count → Stands around → Stands (before_parts place parts around)
    before place parts around h s = record { places = record { leave = s.places.leave; again = s.places.again; lands = lands_below count place parts around.lands h s.places.lands }; result = s.result }

    within_loop : (after again : ℕ) (around : Around) → after < count → again < count → Stands around → Stands (in_loop after again around)
    within_loop after again around h k s = record { places = record { leave = h; again = k; lands = s.places.lands }; result = s.result }

    within_switch : (after : ℕ) (around : Around) → after < count → Stands around → Stands (in_switch after around)
    within_switch after around h s = record { places = record { leave = h; again = s.places.again; lands = s.places.lands }; result = s.result }

    mutual
      pub laid_valid : (around : Around) (ahead : Ahead) (place : ℕ) (s : SequenceTree) → Stands around → IsAhead count ahead → place + sequence_size s ≤ count → TreeIsValid shape s → NodesAreValid shape count ret (laid around ahead place s)
      laid_valid around ahead place (sequence first rest) s k h v =
          let room : (place + 1) + parts_size rest ≤ count = omega (arith, h) in
          (block_valid (before_parts (place + 1) rest around) (ahead_of_parts (place + 1) rest ahead) first (before (place + 1) rest around room s) (parts_ahead count (place + 1) rest ahead room k) v.0, parts_valid around ahead (place + 1) rest s k room v.1)

      parts_valid : (around : Around) (ahead : Ahead) (place : ℕ) (p : PartTrees) → Stands around → IsAhead count ahead → place + parts_size p ≤ count → PartsHave (BlockIsValid shape) (BodyIsValid shape) p → NodesAreValid shape count ret (laid_parts around ahead place p)
      parts_valid around ahead place no_part s k h v = tt
      parts_valid around ahead place (more_parts part after rest) s k h v =
          let behind = behind_shape place part in
          let room : (behind + 1) + parts_size rest ≤ count = omega (arith, h) in
          let inner = before_parts (behind + 1) rest around in
          let stands = before (behind + 1) rest around room s in
          both (laid_shape inner place part) (laid_block inner (ahead_of_parts (behind + 1) rest ahead) after ∷ laid_parts around ahead (behind + 1) rest) (shape_valid inner place part stands (omega (arith, h)) v.0)
          (block_valid inner (ahead_of_parts (behind + 1) rest ahead) after stands (parts_ahead count (behind + 1) rest ahead room k) v.1, parts_valid around ahead (behind + 1) rest s k room v.2)

      shape_valid : (around : Around) (place : ℕ) (part : ShapeTree) → Stands around → behind_shape place part < count → ShapeHas (BlockIsValid shape) (BodyIsValid shape) part → NodesAreValid shape count ret (laid_shape around place part)
      shape_valid around place (fork yes_ no_ convertible) s h v =
          let after = place + (side_size yes_ + side_size no_) in
          both (laid_side around after place yes_) (laid_side around after (place + side_size yes_) no_) (side_valid around after place yes_ s h (omega (arith, h)) v.0) (side_valid around after (place + side_size yes_) no_ s h (omega (arith, h)) v.1)
      shape_valid around place (loop post test body step eligible) s h v =
          let after = place + (sequence_size test + (sequence_size body + side_size step)) in
          let start = step_start place test body step in
          let start_below : start < count = step_below count place test body step h in
          let inner = in_loop after start around in
          let stands = within_loop after start around h start_below s in
          let second = laid inner (onto start) (body_start place test) body in
          let third = laid_side inner place (body_start place test + sequence_size body) step in
          both (laid inner (tested (body_start place test) after) place test) (second ++ third) (laid_valid inner (tested (body_start place test) after) place test stands (omega (arith, h), h) (omega (arith, h)) v.0)
          (both second third (laid_valid inner (onto start) (body_start place test) body stands start_below (omega (arith, h)) v.1) (side_valid inner place (body_start place test + sequence_size body) step stands (omega (arith, h)) (omega (arith, h)) v.2))
      shape_valid around place (switch dead targets other arms) s h v =
          let inner = in_switch (place + (parts_size dead + arms_size arms)) around in
          let stands = within_switch (place + (parts_size dead + arms_size arms)) around h s in
          both (laid_parts inner (onto (place + parts_size dead)) place dead) (laid_arms inner (place + parts_size dead) arms) (parts_valid inner (onto (place + parts_size dead)) place dead stands (omega (arith, h)) (omega (arith, h)) v.0)
          (arms_valid inner (place + parts_size dead) arms stands (omega (arith, h)) v.1)
      shape_valid around place (land number) s h v = tt
      shape_valid around place (overlapped point body) s h v = ((v, omega (arith, h)), tt)

      side_valid : (around : Around) (after place : ℕ) (p : SideTree) → Stands around → after < count → place + side_size p ≤ count → SideHas (BlockIsValid shape) (BodyIsValid shape) p → NodesAreValid shape count ret (laid_side around after place p)
      side_valid around after place no_side s k h v = tt
      side_valid around after place (side blocks) s k h v = laid_valid around (onto after) place blocks s k h v

      arms_valid : (around : Around) (place : ℕ) (p : ArmTrees) → Stands around → place + arms_size p < count → ArmsHave (BlockIsValid shape) (BodyIsValid shape) p → NodesAreValid shape count ret (laid_arms around place p)
      arms_valid around place no_arm s h v = tt
      arms_valid around place (more_arms first rest) s h v =
          both (laid around (onto (place + sequence_size first)) place first) (laid_arms around (place + sequence_size first) rest) (laid_valid around (onto (place + sequence_size first)) place first s (omega (arith, h)) (omega (arith, h)) v.0)
          (arms_valid around (place + sequence_size first) rest s (omega (arith, h)) v.1)
