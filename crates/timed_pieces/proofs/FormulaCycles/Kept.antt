-- Numbering and conversion leave the Ends of loops behind them.
use Rattle.std.proofs.Common.{◌≡◌, ◌∙◌, ℕ, refl, ap, sym, Bool, List, [], ◌∷◌, Option, Some, None}
use Rattle.std.specs.Prelude.{◌&&◌}
use Rattle.hls_base.specs.declared.point.Point.{Point}
use Rattle.ir_core.specs.declared.body.Operand.{Operand}
use Rattle.ir_core.specs.Trees.{BlockTree, SequenceTree, sequence, PartTrees, no_part, more_parts, ShapeTree, fork, loop, switch, land, overlapped, SideTree, no_side, side, ArmTrees, no_arm, more_arms}
use Rattle.passes.specs.Numbering as n
use Rattle.passes.specs.Numbering.{in_loop, numbered_block, numbered_sequence, numbered_parts, numbered_shape, numbered_side, numbered_arms}
use Rattle.passes.specs.Conversion.Merging.{Choice, Branches, branched, is_taken, choices, first_of, branches_of, opened, merged, joined, with_selection, with_selections}
use Rattle.passes.specs.Conversion.Overlapping.{chosen_test, loop_by}
use Rattle.passes.specs.Conversion as c
use Rattle.passes.specs.Conversion.{going_on, part_before, behind, converted_sequence, converted_behind, converted_parts, converted_shape, converted_side, converted_arms}
use Rattle.report_rows.specs.Costs.{end_of}
use Rattle.timed_pieces.specs.FormulaCycles.Loops.{EndsAt, LoopsEnd, PartsEnd, ShapeEnds, SideEnds, ArmsEnd}

-- ---- numbering

numbered_first : (scope : n.Scope) (s : SequenceTree) → (first_of (numbered_sequence scope s)).point ≡ (first_of s).point
numbered_first scope (sequence first rest) = refl

numbered_at : (scope : n.Scope) (shape : ShapeTree) (pt : Point) → EndsAt shape pt → EndsAt (numbered_shape scope shape) pt
numbered_at scope (fork yes_ no_ convertible) pt h = tt
numbered_at scope (loop post test body step eligible) pt h = h ∙ ap end_of (sym (numbered_first (in_loop scope eligible) body))
numbered_at scope (switch dead targets other arms) pt h = tt
numbered_at scope (land number) pt h = tt
numbered_at scope (overlapped point body) pt h = h

mutual
  pub numbered_ends : (scope : n.Scope) (s : SequenceTree) → LoopsEnd s → LoopsEnd (numbered_sequence scope s)
  numbered_ends scope (sequence first rest) h = parts_numbered scope rest h

  parts_numbered : (scope : n.Scope) (parts : PartTrees) → PartsEnd parts → PartsEnd (numbered_parts scope parts)
  parts_numbered scope no_part h = tt
  parts_numbered scope (more_parts shape after rest) h = (shape_numbered scope shape h.0, numbered_at scope shape after.point h.1, parts_numbered scope rest h.2)

  shape_numbered : (scope : n.Scope) (shape : ShapeTree) → ShapeEnds shape → ShapeEnds (numbered_shape scope shape)
  shape_numbered scope (fork yes_ no_ convertible) h = (side_numbered scope yes_ h.0, side_numbered scope no_ h.1)
  shape_numbered scope (loop post test body step eligible) h =
      (numbered_ends (in_loop scope eligible) test h.0, numbered_ends (in_loop scope eligible) body h.1, side_numbered (in_loop scope eligible) step h.2)
  shape_numbered scope (switch dead targets other arms) h = (parts_numbered scope dead h.0, arms_numbered scope arms h.1)
  shape_numbered scope (land number) h = tt
  shape_numbered scope (overlapped point body) h = tt

  side_numbered : (scope : n.Scope) (s : SideTree) → SideEnds s → SideEnds (numbered_side scope s)
  side_numbered scope no_side h = tt
  side_numbered scope (side blocks) h = numbered_ends scope blocks h

  arms_numbered : (scope : n.Scope) (arms : ArmTrees) → ArmsEnd arms → ArmsEnd (numbered_arms scope arms)
  arms_numbered scope no_arm h = tt
  arms_numbered scope (more_arms first rest) h = (numbered_ends scope first h.0, arms_numbered scope rest h.1)

-- ---- conversion

selections_point : (widths : List ℕ) (test : Operand) (b : BlockTree) (cs : List Choice) → (with_selections widths test b cs).point ≡ b.point
selections_point widths test b [] = refl
selections_point widths test b (c ∷ cs) = selections_point widths test (with_selection widths test b c) cs

pub joined_point : (widths : List ℕ) (b after : BlockTree) (f : Branches) → (joined widths (merged widths b f) after).point ≡ b.point
joined_point widths b after f =
    let y = branched widths b.ops b.outs (Some f.test) (is_taken f.test) f.yes_ in
    let n = branched widths y.ops b.outs (Some f.test) [] f.no_ in
    selections_point widths f.test (record b { ops = n.ops }) (choices b.outs y.outs n.outs)

module _ (scope : c.Scope) where
  first_by : (b : BlockTree) (s : ShapeTree) (o : Option Branches) (after : BlockTree) (rest : PartTrees) → ((c : BlockTree) → (first_of (converted_behind scope c rest)).point ≡ c.point)
      → (first_of (behind b s o (converted_behind scope (going_on scope.widths b o after) rest))).point ≡ b.point
  first_by b s None after rest h = refl
  first_by b s (Some f) after rest h = h (joined scope.widths (merged scope.widths b f) after) ∙ joined_point scope.widths b after f

  first_behind : (rest : PartTrees) (b : BlockTree) → (first_of (converted_behind scope b rest)).point ≡ b.point
  first_behind no_part b = refl
  first_behind (more_parts shape after rest) b = first_by b (converted_shape scope shape) (branches_of b.exit (converted_shape scope shape)) after rest (first_behind rest)

  converted_first : (s : SequenceTree) → (first_of (converted_sequence scope s)).point ≡ (first_of s).point
  converted_first (sequence first rest) = first_behind rest (opened first)

  loop_at : (o : Option Operand) (post : Bool) (test body : SequenceTree) (step : SideTree) (pt : Point) → pt ≡ end_of (first_of body).point → EndsAt (loop_by scope.widths o post test body step) pt
  loop_at None post test body step pt h = h
  loop_at (Some known) post test body step pt h = h

  loop_ends : (o : Option Operand) (post : Bool) (test body : SequenceTree) (step : SideTree) → LoopsEnd test × LoopsEnd body × SideEnds step → ShapeEnds (loop_by scope.widths o post test body step)
  loop_ends None post test body step h = h
  loop_ends (Some known) post test body step h = tt

  converted_at : (shape : ShapeTree) (pt : Point) → EndsAt shape pt → EndsAt (converted_shape scope shape) pt
  converted_at (fork yes_ no_ convertible) pt h = tt
  converted_at (loop post test body step eligible) pt h =
      loop_at (chosen_test (eligible && scope.loops) post (converted_sequence scope test) (converted_sequence scope body) (converted_side scope step)) post (converted_sequence scope test) (converted_sequence scope body) (converted_side scope step) pt
      (h ∙ ap end_of (sym (converted_first body)))
  converted_at (switch dead targets other arms) pt h = tt
  converted_at (land number) pt h = tt
  converted_at (overlapped point body) pt h = h

  part_ends : (shape : ShapeTree) (s : SequenceTree) → ShapeEnds shape → EndsAt shape (first_of s).point → LoopsEnd s → PartsEnd (part_before shape s)
  part_ends shape (sequence first rest) h e k = (h, e, k)

  at_point : (shape : ShapeTree) {p q : Point} → q ≡ p → EndsAt shape p → EndsAt shape q
  at_point (fork yes_ no_ convertible) e h = tt
  at_point (loop post test body step eligible) e h = e ∙ h
  at_point (switch dead targets other arms) e h = tt
  at_point (land number) e h = tt
  at_point (overlapped point body) e h = e ∙ h

  behind_by : (b : BlockTree) (s : ShapeTree) (o : Option Branches) (after : BlockTree) (rest : PartTrees) → ShapeEnds s → EndsAt s after.point → ((c : BlockTree) → LoopsEnd (converted_behind scope c rest))
      → LoopsEnd (behind b s o (converted_behind scope (going_on scope.widths b o after) rest))
  behind_by b s None after rest h e k = part_ends s (converted_behind scope (opened after) rest) h (at_point s (first_behind rest (opened after)) e) (k (opened after))
  behind_by b s (Some f) after rest h e k = k (joined scope.widths (merged scope.widths b f) after)

  mutual
    pub converted_ends : (s : SequenceTree) → LoopsEnd s → LoopsEnd (converted_sequence scope s)
    converted_ends (sequence first rest) h = behind_ends (opened first) rest h

    behind_ends : (b : BlockTree) (parts : PartTrees) → PartsEnd parts → LoopsEnd (converted_behind scope b parts)
    behind_ends b no_part h = tt
    behind_ends b (more_parts shape after rest) h =
        behind_by b (converted_shape scope shape) (branches_of b.exit (converted_shape scope shape)) after rest (shape_ends shape h.0) (converted_at shape after.point h.1) (λ c. behind_ends c rest h.2)

    parts_ends : (parts : PartTrees) → PartsEnd parts → PartsEnd (converted_parts scope parts)
    parts_ends no_part h = tt
    parts_ends (more_parts shape after rest) h =
        part_ends (converted_shape scope shape) (converted_behind scope (opened after) rest) (shape_ends shape h.0) (at_point (converted_shape scope shape) (first_behind rest (opened after)) (converted_at shape after.point h.1)) (behind_ends (opened after) rest h.2)

    shape_ends : (shape : ShapeTree) → ShapeEnds shape → ShapeEnds (converted_shape scope shape)
    shape_ends (fork yes_ no_ convertible) h = (side_ends yes_ h.0, side_ends no_ h.1)
    shape_ends (loop post test body step eligible) h =
        loop_ends (chosen_test (eligible && scope.loops) post (converted_sequence scope test) (converted_sequence scope body) (converted_side scope step)) post (converted_sequence scope test) (converted_sequence scope body) (converted_side scope step)
        (converted_ends test h.0, converted_ends body h.1, side_ends step h.2)
    shape_ends (switch dead targets other arms) h = (parts_ends dead h.0, arms_ends arms h.1)
    shape_ends (land number) h = tt
    shape_ends (overlapped point body) h = tt

    side_ends : (s : SideTree) → SideEnds s → SideEnds (converted_side scope s)
    side_ends no_side h = tt
    side_ends (side blocks) h = converted_ends blocks h

    arms_ends : (arms : ArmTrees) → ArmsEnd arms → ArmsEnd (converted_arms scope arms)
    arms_ends no_arm h = tt
    arms_ends (more_arms first rest) h = (converted_ends first h.0, arms_ends rest h.1)
