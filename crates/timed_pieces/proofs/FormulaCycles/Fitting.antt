-- Where the nodes of a laid out tree lead: a loop node to the place behind it, and blocks to places that do not stand behind loop nodes.
use Rattle.std.proofs.Common.{◌≡◌, ◌+◌, ℕ, zero, suc, refl, subst, arith, Bool, true, false, List, [], ◌∷◌, ◌++◌, length, map, Option, Some, None}
use Rattle.std.specs.Prelude.{◌==◌, if◌then◌else◌}
use Rattle.std.specs.List.{zip}
use Rattle.ir_core.specs.declared.body.Operand.{Operand}
use Rattle.ir_core.specs.declared.body.Out.{Out}
use Rattle.ir_core.specs.Trees.{ExitTree, next, branch, choose, break_, continue_, leave, SequenceTree, sequence, PartTrees, no_part, more_parts, ShapeTree, fork, loop, switch, land, overlapped, SideTree, no_side, side, ArmTrees, no_arm, more_arms}
use Rattle.ir_layout.specs.Nodes.{EndTree, jumps, branches, chooses, returns, NodeTree, plain, looped}
use Rattle.ir_layout.specs.Sizes.{sequence_size, parts_size, side_size, arms_size}
use Rattle.ir_layout.specs.Layout.{Ahead, finish, onto, tested, by_case, Landing, Around, land_place, place_or_first, end_for, laid, laid_parts, laid_shape, laid_side, laid_arms, laid_block, before_parts, lands_in, with_land, ahead_of, ahead_of_parts, behind_shape, in_loop, in_switch, side_start, arm_start, other_start, step_start, body_start}
use Rattle.ir_layout.proofs.Lengths.{length-laid, length-parts, length-shape, length-side}
use Rattle.timed_pieces.proofs.FormulaCycles.Safe.{Safe, EndHere, AfterSafe, SequenceSafe, PartsSafe, ShapeSafe, SideSafe, ArmsSafe, safe_first}

module _ (nodes : List NodeTree) where
  abbrev Fine : ℕ → Type 0
  Fine j = Safe nodes j

  -- ---- where a node leads

  abbrev pub CasesSafe : List (Operand × ℕ) → Type 0
  CasesSafe [] = Unit {0}
  CasesSafe (c ∷ cs) = Fine c.1 × CasesSafe cs

  abbrev pub EndSafe : EndTree → Type 0
  EndSafe (jumps n) = Fine n
  EndSafe (branches test y n) = Fine y × Fine n
  EndSafe (chooses cases other) = Fine other × CasesSafe cases
  EndSafe (returns value) = Unit {0}

  abbrev pub NodeFits : ℕ → NodeTree → Type 0
  NodeFits i (plain pt b e) = EndSafe e
  NodeFits i (looped pt b next_) = (next_ ≡ i + 1) × EndHere nodes (i + 1) pt

  abbrev pub NodesFit : ℕ → List NodeTree → Type 0
  NodesFit place [] = Unit {0}
  NodesFit place (x ∷ xs) = NodeFits place x × NodesFit (place + 1) xs

  both : (place at : ℕ) (xs ys : List NodeTree) → at ≡ place + length xs → NodesFit place xs → NodesFit at ys → NodesFit place (xs ++ ys)
  both place at [] ys e h k = subst (λ i. NodesFit i ys) (let z : at ≡ place = omega (arith, e) in z) k
  both place at (x ∷ xs) ys e h k = (h.0, both (place + 1) at xs ys (omega (arith, e)) h.1 k)

  -- ---- what stands ahead and around

  abbrev AllSafe : List ℕ → Type 0
  AllSafe [] = Unit {0}
  AllSafe (j ∷ js) = Fine j × AllSafe js

  abbrev AheadSafe : Ahead → Type 0
  AheadSafe finish = Unit {0}
  AheadSafe (onto j) = Fine j
  AheadSafe (tested y n) = Fine y × Fine n
  AheadSafe (by_case cases other) = Fine other × AllSafe cases

  abbrev SafeIf : Option ℕ → Type 0
  SafeIf None = Unit {0}
  SafeIf (Some j) = Fine j

  abbrev LandsSafe : List Landing → Type 0
  LandsSafe [] = Unit {0}
  LandsSafe (x ∷ xs) = Fine x.place × LandsSafe xs

  abbrev pub AroundSafe : Around → Type 0
  AroundSafe around = SafeIf around.leave × SafeIf around.again × LandsSafe around.lands

  place_safe : (o : Option ℕ) → SafeIf o → Fine (place_or_first o)
  place_safe None h = safe_first nodes
  place_safe (Some j) h = h

  land_safe : (lands : List Landing) (number : ℕ) → LandsSafe lands → SafeIf (land_place lands number)
  land_safe [] number h = tt
  land_safe (x ∷ xs) number h = by (number == x.number) (land_safe xs number h.1) where
    by : (b : Bool) → SafeIf (land_place xs number) → SafeIf (if b then Some x.place else land_place xs number)
    by true k = h.0
    by false k = k

  cases_safe : (tests : List Operand) (cases : List ℕ) → AllSafe cases → CasesSafe (zip tests cases)
  cases_safe [] cases h = tt
  cases_safe (t ∷ ts) [] h = tt
  cases_safe (t ∷ ts) (c ∷ cs) h = (h.0, cases_safe ts cs h.1)

  end_safe : (around : Around) (outs : List Out) (ahead : Ahead) (exit : ExitTree) → AroundSafe around → AheadSafe ahead → EndSafe (end_for around outs ahead exit)
  end_safe around outs ahead break_ a h = place_safe around.leave a.0
  end_safe around outs ahead continue_ a h = place_safe around.again a.1
  end_safe around outs ahead (leave number) a h = place_safe (land_place around.lands number.0) (land_safe around.lands number.0 a.2)
  end_safe around outs finish next a h = tt
  end_safe around outs (onto j) next a h = h
  end_safe around outs (tested y n) next a h = h.1
  end_safe around outs (by_case cases other) next a h = h.0
  end_safe around outs finish (branch test) a h = tt
  end_safe around outs (onto j) (branch test) a h = h
  end_safe around outs (tested y n) (branch test) a h = h
  end_safe around outs (by_case cases other) (branch test) a h = h.0
  end_safe around outs finish (choose tests) a h = tt
  end_safe around outs (onto j) (choose tests) a h = h
  end_safe around outs (tested y n) (choose tests) a h = h.1
  end_safe around outs (by_case cases other) (choose tests) a h = (h.0, cases_safe tests cases h.1)

  -- ---- where parts begin

  sequence_first : (place : ℕ) (s : SequenceTree) → SequenceSafe nodes place s → Fine place
  sequence_first place (sequence first rest) h = h.0

  arms_first : (place : ℕ) (arms : ArmTrees) → ArmsSafe nodes place arms → Fine place
  arms_first place no_arm h = h
  arms_first place (more_arms first rest) h = sequence_first place first h.0

  side_first : (place after : ℕ) (s : SideTree) → SideSafe nodes place s → Fine after → Fine (side_start place after s)
  side_first place after no_side h k = k
  side_first place after (side blocks) h k = sequence_first place blocks h

  arm_first : (place : ℕ) (arms : ArmTrees) (i : ℕ) → ArmsSafe nodes place arms → Fine (arm_start place arms i)
  arm_first place no_arm i h = h
  arm_first place (more_arms first rest) zero h = sequence_first place first h.0
  arm_first place (more_arms first rest) (suc i) h = arm_first (place + sequence_size first) rest i h.1

  all_arms : (place : ℕ) (arms : ArmTrees) (targets : List ℕ) → ArmsSafe nodes place arms → AllSafe (map (arm_start place arms) targets)
  all_arms place arms [] h = tt
  all_arms place arms (i ∷ is_) h = (arm_first place arms i h, all_arms place arms is_ h)

  other_first : (place after : ℕ) (arms : ArmTrees) (other : Option ℕ) → ArmsSafe nodes place arms → Fine after → Fine (other_start place after arms other)
  other_first place after arms None h k = k
  other_first place after arms (Some i) h k = arm_first place arms i h

  ahead_shape : (place : ℕ) (shape : ShapeTree) → Fine place → ShapeSafe nodes place shape → AfterSafe nodes (behind_shape place shape) shape → AheadSafe (ahead_of place shape)
  ahead_shape place (fork yes_ no_ convertible) p s a =
      let after = place + (side_size yes_ + side_size no_) in
      (side_first place after yes_ s.0 a, side_first (place + side_size yes_) after no_ s.1 a)
  ahead_shape place (loop true test body step eligible) p s a = sequence_first (body_start place test) body s.1
  ahead_shape place (loop false test body step eligible) p s a = p
  ahead_shape place (switch dead targets other arms) p s a =
      (other_first (place + parts_size dead) (place + (parts_size dead + arms_size arms)) arms other s.1 a, all_arms (place + parts_size dead) arms targets s.1)
  ahead_shape place (land number) p s a = p
  ahead_shape place (overlapped point body) p s a = p

  ahead_parts : (place : ℕ) (parts : PartTrees) (ahead : Ahead) → PartsSafe nodes place parts → AheadSafe ahead → AheadSafe (ahead_of_parts place parts ahead)
  ahead_parts place no_part ahead h k = k
  ahead_parts place (more_parts shape after rest) ahead h k = ahead_shape place shape h.0 h.1 h.2

  with_land_safe : (place : ℕ) (shape : ShapeTree) (lands : List Landing) → AfterSafe nodes place shape → LandsSafe lands → LandsSafe (with_land place shape lands)
  with_land_safe place (fork yes_ no_ convertible) lands a h = h
  with_land_safe place (loop post test body step eligible) lands a h = h
  with_land_safe place (switch dead targets other arms) lands a h = h
  with_land_safe place (land number) lands a h = (a, h)
  with_land_safe place (overlapped point body) lands a h = h

  lands_safe : (place : ℕ) (parts : PartTrees) (lands : List Landing) → PartsSafe nodes place parts → LandsSafe lands → LandsSafe (lands_in place parts lands)
  lands_safe place no_part lands h k = k
  lands_safe place (more_parts shape after rest) lands h k = with_land_safe (behind_shape place shape) shape (lands_in (behind_shape place shape + 1) rest lands) h.2 (lands_safe (behind_shape place shape + 1) rest lands h.3 k)

  before_safe : (place : ℕ) (parts : PartTrees) (around : Around) → PartsSafe nodes place parts → AroundSafe around → AroundSafe (before_parts place parts around)
  before_safe place parts around h a = (a.0, a.1, lands_safe place parts around.lands h a.2)

  -- ---- the nodes of a tree

  mutual
    pub sequence_fits : (around : Around) (ahead : Ahead) (place : ℕ) (s : SequenceTree) → SequenceSafe nodes place s → AroundSafe around → AheadSafe ahead → NodesFit place (laid around ahead place s)
    sequence_fits around ahead place (sequence first rest) h a k = (
      end_safe (before_parts (place + 1) rest around) first.outs (ahead_of_parts (place + 1) rest ahead) first.exit (before_safe (place + 1) rest around h.1 a) (ahead_parts (place + 1) rest ahead h.1 k),
      parts_fit around ahead (place + 1) rest h.1 a k,
    )

    parts_fit : (around : Around) (ahead : Ahead) (place : ℕ) (parts : PartTrees) → PartsSafe nodes place parts → AroundSafe around → AheadSafe ahead → NodesFit place (laid_parts around ahead place parts)
    parts_fit around ahead place no_part h a k = tt
    parts_fit around ahead place (more_parts shape after rest) h a k =
        let q = behind_shape place shape + 1 in
        let inner = before_parts q rest around in
        let b = before_safe q rest around h.3 a in
        both place (behind_shape place shape) (laid_shape inner place shape) (laid_block inner (ahead_of_parts q rest ahead) after ∷ laid_parts around ahead q rest)
        (omega (arith, length-shape inner place shape)) (shape_fits inner place shape h.0 h.1 h.2 b)
        (end_safe inner after.outs (ahead_of_parts q rest ahead) after.exit b (ahead_parts q rest ahead h.3 k), parts_fit around ahead q rest h.3 a k)

    shape_fits : (around : Around) (place : ℕ) (shape : ShapeTree) → Fine place → ShapeSafe nodes place shape → AfterSafe nodes (behind_shape place shape) shape → AroundSafe around → NodesFit place (laid_shape around place shape)
    shape_fits around place (fork yes_ no_ convertible) p s f a =
        let after = place + (side_size yes_ + side_size no_) in
        both place (place + side_size yes_) (laid_side around after place yes_) (laid_side around after (place + side_size yes_) no_) (omega (arith, length-side around after place yes_))
        (side_fits around after place yes_ s.0 f a) (side_fits around after (place + side_size yes_) no_ s.1 f a)
    shape_fits around place (loop post test body step eligible) p s f a =
        let after = place + (sequence_size test + (sequence_size body + side_size step)) in
        let again = step_start place test body step in
        let inner = in_loop after again around in
        let first = laid inner (tested (body_start place test) after) place test in
        let second = laid inner (onto again) (body_start place test) body in
        let third = laid_side inner place (body_start place test + sequence_size body) step in
        let on = side_first (body_start place test + sequence_size body) place step s.2 p in
        let b : AroundSafe inner = (f, on, a.2) in
        both place (body_start place test) first (second ++ third) (omega (arith, length-laid inner (tested (body_start place test) after) place test))
        (sequence_fits inner (tested (body_start place test) after) place test s.0 b (sequence_first (body_start place test) body s.1, f))
        (both (body_start place test) (body_start place test + sequence_size body) second third (omega (arith, length-laid inner (onto again) (body_start place test) body))
        (sequence_fits inner (onto again) (body_start place test) body s.1 b on) (side_fits inner place (body_start place test + sequence_size body) step s.2 p b))
    shape_fits around place (switch dead targets other arms) p s f a =
        let inner = in_switch (place + (parts_size dead + arms_size arms)) around in
        let b : AroundSafe inner = (f, a.1, a.2) in
        both place (place + parts_size dead) (laid_parts inner (onto (place + parts_size dead)) place dead) (laid_arms inner (place + parts_size dead) arms) (omega (arith, length-parts inner (onto (place + parts_size dead)) place dead))
        (parts_fit inner (onto (place + parts_size dead)) place dead s.0 b (arms_first (place + parts_size dead) arms s.1)) (arms_fit inner (place + parts_size dead) arms s.1 b)
    shape_fits around place (land number) p s f a = tt
    shape_fits around place (overlapped point body) p s f a = ((refl, f), tt)

    side_fits : (around : Around) (after place : ℕ) (s : SideTree) → SideSafe nodes place s → Fine after → AroundSafe around → NodesFit place (laid_side around after place s)
    side_fits around after place no_side h k a = tt
    side_fits around after place (side blocks) h k a = sequence_fits around (onto after) place blocks h a k

    arms_fit : (around : Around) (place : ℕ) (arms : ArmTrees) → ArmsSafe nodes place arms → AroundSafe around → NodesFit place (laid_arms around place arms)
    arms_fit around place no_arm h a = tt
    arms_fit around place (more_arms first rest) h a =
        let next_ = place + sequence_size first in
        both place next_ (laid around (onto next_) place first) (laid_arms around next_ rest) (omega (arith, length-laid around (onto next_) place first))
        (sequence_fits around (onto next_) place first h.0 a (arms_first next_ rest h.1)) (arms_fit around next_ rest h.1 a)
