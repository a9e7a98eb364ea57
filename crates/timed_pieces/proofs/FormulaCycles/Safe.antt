-- Which places of a laid out tree stand behind loop nodes: those of the blocks at the Ends of their points, and no others.
use Rattle.std.proofs.Common.{◌≡◌, ◌≢◌, ◌∙◌, ◌+◌, ℕ, suc, ap, sym, subst, arith, List, ◌∷◌, ◌++◌, Some}
use Rattle.std.specs.Prelude.{slice_get}
use Rattle.hls_base.specs.declared.point.Point.{Point}
use Rattle.ir_core.specs.Trees.{BodyTree, SequenceTree, sequence, PartTrees, no_part, more_parts, ShapeTree, fork, loop, switch, land, overlapped, SideTree, no_side, side, ArmTrees, no_arm, more_arms}
use Rattle.ir_layout.specs.Nodes.{EndTree, NodeTree, plain, looped}
use Rattle.ir_layout.specs.Sizes.{sequence_size, parts_size, shape_size, side_size, arms_size}
use Rattle.ir_layout.specs.Layout.{Ahead, onto, tested, Around, laid, laid_parts, laid_shape, laid_side, laid_arms, laid_block, before_parts, ahead_of_parts, behind_shape, in_loop, in_switch, step_start, body_start}
use Rattle.ir_layout.proofs.Lengths.{length-laid, length-parts, length-shape, length-side}
use Rattle.timed_pieces.proofs.FormulaCycles.Places.{Has, has_parts}
use Rattle.report_rows.specs.Costs.{end_of}
use Rattle.timed_pieces.specs.FormulaCycles.Loops.{EndsAt, LoopsEnd, PartsEnd, ShapeEnds, SideEnds, ArmsEnd}

module _ (nodes : List NodeTree) where
  -- no loop node stands just before this place
  abbrev pub Safe : ℕ → Type 0
  Safe j = (l : ℕ) (pt : Point) (b : BodyTree) (next : ℕ) → slice_get nodes l ≡ Some (looped pt b next) → j ≢ l + 1

  -- a block at the End of this point
  abbrev pub EndHere : ℕ → Point → Type 0
  EndHere j pt = (b : BodyTree) × ((e : EndTree) × (slice_get nodes j ≡ Some (plain (end_of pt) b e)))

  pub safe_first : Safe 0
  safe_first l pt b next at e = omega (arith, e)

  kinds_differ : {p q : Point} {b c : BodyTree} {e : EndTree} {next : ℕ} → Some (plain p b e) ≡ Some (looped q c next) → ⊥
  kinds_differ e = (cc)

  behind_block : (j : ℕ) (pt : Point) (b : BodyTree) (e : EndTree) → slice_get nodes j ≡ Some (plain pt b e) → Safe (j + 1)
  behind_block j pt b e here l p c next at same = (let z : j ≡ l = omega (arith, same) in kinds_differ (sym here ∙ ap (slice_get nodes) z ∙ at))

  -- ---- the places of a tree

  abbrev pub AfterSafe : ℕ → ShapeTree → Type 0
  AfterSafe j (overlapped point body) = EndHere j point
  AfterSafe j shape = Safe j

  abbrev mutual
    pub SequenceSafe : ℕ → SequenceTree → Type 0
    SequenceSafe place (sequence first rest) = Safe place × PartsSafe (place + 1) rest

    pub PartsSafe : ℕ → PartTrees → Type 0
    PartsSafe place no_part = Unit {0}
    PartsSafe place (more_parts shape after rest) = Safe place × ShapeSafe place shape × AfterSafe (behind_shape place shape) shape × PartsSafe (behind_shape place shape + 1) rest

    pub ShapeSafe : ℕ → ShapeTree → Type 0
    ShapeSafe place (fork yes_ no_ convertible) = SideSafe place yes_ × SideSafe (place + side_size yes_) no_
    ShapeSafe place (loop post test body step eligible) = SequenceSafe place test × SequenceSafe (body_start place test) body × SideSafe (body_start place test + sequence_size body) step
    ShapeSafe place (switch dead targets other arms) = PartsSafe place dead × ArmsSafe (place + parts_size dead) arms
    ShapeSafe place (land number) = Unit {0}
    ShapeSafe place (overlapped point body) = Unit {0}

    pub SideSafe : ℕ → SideTree → Type 0
    SideSafe place no_side = Unit {0}
    SideSafe place (side blocks) = SequenceSafe place blocks

    pub ArmsSafe : ℕ → ArmTrees → Type 0
    ArmsSafe place no_arm = Safe place
    ArmsSafe place (more_arms first rest) = SequenceSafe place first × ArmsSafe (place + sequence_size first) rest

  -- ---- they are so

  abbrev ShapeBehind : ℕ → ShapeTree → Type 0
  ShapeBehind j (overlapped point body) = Unit {0}
  ShapeBehind j shape = Safe j

  moved : (i j : ℕ) → i ≡ j → Safe i → Safe j
  moved i j e h = subst Safe e h

  after_safe : (j : ℕ) (shape : ShapeTree) (pt : Point) (b : BodyTree) (e : EndTree) → EndsAt shape pt → slice_get nodes j ≡ Some (plain pt b e) → ShapeBehind j shape → AfterSafe j shape
  after_safe j (fork yes_ no_ convertible) pt b e ends here h = h
  after_safe j (loop post test body step eligible) pt b e ends here h = h
  after_safe j (switch dead targets other arms) pt b e ends here h = h
  after_safe j (land number) pt b e ends here h = h
  after_safe j (overlapped point body) pt b e ends here h = (b, (e, here ∙ ap (λ p. Some (plain p b e)) ends))

  mutual
    pub sequence_safe : (around : Around) (ahead : Ahead) (place : ℕ) (s : SequenceTree) → LoopsEnd s → Has nodes place (laid around ahead place s) → Safe place → SequenceSafe place s × Safe (place + sequence_size s)
    sequence_safe around ahead place (sequence first rest) ends h safe =
        let r = parts_safe around ahead (place + 1) rest ends h.1 (behind_block place first.point _ _ h.0) in
        ((safe, r.0), moved (place + 1 + parts_size rest) (place + suc (parts_size rest)) (omega arith) r.1)

    parts_safe : (around : Around) (ahead : Ahead) (place : ℕ) (parts : PartTrees) → PartsEnd parts → Has nodes place (laid_parts around ahead place parts) → Safe place → PartsSafe place parts × Safe (place + parts_size parts)
    parts_safe around ahead place no_part ends h safe = (tt, moved place (place + 0) (omega arith) safe)
    parts_safe around ahead place (more_parts shape after rest) ends h safe =
        let q = behind_shape place shape + 1 in
        let own = laid_shape (before_parts q rest around) place shape in
        let split = has_parts nodes own place (behind_shape place shape) (laid_block (before_parts q rest around) (ahead_of_parts q rest ahead) after ∷ laid_parts around ahead q rest) (omega (arith, length-shape (before_parts q rest around) place shape)) h in
        let s = shape_safe (before_parts q rest around) place shape ends.0 split.0 safe in
        let r = parts_safe around ahead q rest ends.2 split.1.1 (behind_block (behind_shape place shape) after.point _ _ split.1.0) in
        ((safe, s.0, after_safe (behind_shape place shape) shape after.point _ _ ends.1 split.1.0 s.1, r.0), moved (q + parts_size rest) (place + (shape_size shape + suc (parts_size rest))) (omega arith) r.1)

    shape_safe : (around : Around) (place : ℕ) (shape : ShapeTree) → ShapeEnds shape → Has nodes place (laid_shape around place shape) → Safe place → ShapeSafe place shape × ShapeBehind (behind_shape place shape) shape
    shape_safe around place (fork yes_ no_ convertible) ends h safe =
        let after = place + (side_size yes_ + side_size no_) in
        let split = has_parts nodes (laid_side around after place yes_) place (place + side_size yes_) (laid_side around after (place + side_size yes_) no_) (omega (arith, length-side around after place yes_)) h in
        let a = side_safe around after place yes_ ends.0 split.0 safe in
        let b = side_safe around after (place + side_size yes_) no_ ends.1 split.1 a.1 in
        ((a.0, b.0), moved (place + side_size yes_ + side_size no_) after (omega arith) b.1)
    shape_safe around place (loop post test body step eligible) ends h safe =
        let after = place + (sequence_size test + (sequence_size body + side_size step)) in
        let again = step_start place test body step in
        let inner = in_loop after again around in
        let second = laid inner (onto again) (body_start place test) body in
        let third = laid_side inner place (body_start place test + sequence_size body) step in
        let split = has_parts nodes (laid inner (tested (body_start place test) after) place test) place (body_start place test) (second ++ third) (omega (arith, length-laid inner (tested (body_start place test) after) place test)) h in
        let more = has_parts nodes second (body_start place test) (body_start place test + sequence_size body) third (omega (arith, length-laid inner (onto again) (body_start place test) body)) split.1 in
        let a = sequence_safe inner (tested (body_start place test) after) place test ends.0 split.0 safe in
        let b = sequence_safe inner (onto again) (body_start place test) body ends.1 more.0 a.1 in
        let c = side_safe inner place (body_start place test + sequence_size body) step ends.2 more.1 b.1 in
        ((a.0, b.0, c.0), moved (body_start place test + sequence_size body + side_size step) after (omega arith) c.1)
    shape_safe around place (switch dead targets other arms) ends h safe =
        let inner = in_switch (place + (parts_size dead + arms_size arms)) around in
        let split = has_parts nodes (laid_parts inner (onto (place + parts_size dead)) place dead) place (place + parts_size dead) (laid_arms inner (place + parts_size dead) arms) (omega (arith, length-parts inner (onto (place + parts_size dead)) place dead)) h in
        let a = parts_safe inner (onto (place + parts_size dead)) place dead ends.0 split.0 safe in
        let b = arms_safe inner (place + parts_size dead) arms ends.1 split.1 a.1 in
        ((a.0, b.0), moved (place + parts_size dead + arms_size arms) (place + (parts_size dead + arms_size arms)) (omega arith) b.1)
    shape_safe around place (land number) ends h safe = (tt, moved place (place + 0) (omega arith) safe)
    shape_safe around place (overlapped point body) ends h safe = (tt, tt)

    side_safe : (around : Around) (after place : ℕ) (s : SideTree) → SideEnds s → Has nodes place (laid_side around after place s) → Safe place → SideSafe place s × Safe (place + side_size s)
    side_safe around after place no_side ends h safe = (tt, moved place (place + 0) (omega arith) safe)
    side_safe around after place (side blocks) ends h safe = sequence_safe around (onto after) place blocks ends h safe

    arms_safe : (around : Around) (place : ℕ) (arms : ArmTrees) → ArmsEnd arms → Has nodes place (laid_arms around place arms) → Safe place → ArmsSafe place arms × Safe (place + arms_size arms)
    arms_safe around place no_arm ends h safe = (safe, moved place (place + 0) (omega arith) safe)
    arms_safe around place (more_arms first rest) ends h safe =
        let next = place + sequence_size first in
        let split = has_parts nodes (laid around (onto next) place first) place next (laid_arms around next rest) (omega (arith, length-laid around (onto next) place first)) h in
        let a = sequence_safe around (onto next) place first ends.0 split.0 safe in
        let b = arms_safe around next rest ends.1 split.1 a.1 in
        ((a.0, b.0), moved (next + arms_size rest) (place + (sequence_size first + arms_size rest)) (omega arith) b.1)
