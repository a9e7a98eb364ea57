-- Lowering leaves the Ends of loops behind them.
use Rattle.std.proofs.Common.{◌≡◌, ◌∙◌, ◌+◌, ℕ, refl, ap, sym, Bool, true, false, List, [], Option, Some, None}
use Rattle.std.specs.Prelude.{if◌then◌else◌}
use Rattle.hls_base.specs.declared.number.VarId.{VarId}
use Rattle.hls_base.specs.declared.point.Point.{Point}
use Rattle.pieces.specs.declared.piece.Label.{Label}
use Rattle.pieces.specs.Trees as tree
use Rattle.pieces.specs.Trees.{PieceTree, PieceTrees}
use Rattle.pieces.specs.Weight.{weight}
use Rattle.ir_core.specs.Bodies.{Shapes}
use Rattle.ir_core.specs.Trees.{break_, continue_, leave, BlockTree, SequenceTree, sequence, PartTrees, no_part, more_parts, ShapeTree, fork, loop, switch, land, overlapped, ArmTrees, more_arms}
use Rattle.passes.specs.Lowering.Shapes.{is_eligible, first_point, point_of, or_at}
use Rattle.passes.specs.Lowering.Blocks.{Scope, begun, with_exit, ends_by_test, ends_by_fork, ends_by_cases}
use Rattle.passes.specs.Lowering.Copies.{fixed_behind, fixed_behind_shape, copied, copied_parts}
use Rattle.passes.specs.Lowering.{Rest, last, followed, parts_of, land_of, side_from, with_copies, own_step, stepped, is_named, piece_count, targets, other, lowered, lowered_piece, before_arm, arms}
use Rattle.passes.specs.Conversion.Merging.{first_of}
use Rattle.pass_runs.proofs.LowerRuns.LowerControl.Rests.{set_step, put_step, exit_step, test_step, fork_step, cases_step}
use Rattle.report_rows.specs.Costs.{end_of}
use Rattle.timed_pieces.specs.FormulaCycles.Loops.{EndsAt, LoopsEnd, PartsEnd, ShapeEnds, SideEnds, ArmsEnd, PiecesLoopsEnd, PieceLoopsEnd}

abbrev none_shaped : Shapes
none_shaped = record { widths = []; dims = [] }

-- what follows a block begins with it, and has the Ends of its loops behind them
pub record RestEnds (rest : Rest) : Type 0 where
  pub ends : (b : BlockTree) → LoopsEnd (rest b)
  pub point : (b : BlockTree) → (first_of (rest b)).point ≡ b.point

pub last_ends : RestEnds last
last_ends = record { ends = λ b. tt; point = λ b. refl }

step_ends : (step : BlockTree → BlockTree) (rest : Rest) → ((b : BlockTree) → (step b).point ≡ b.point) → RestEnds rest → RestEnds (λ b. rest (step b))
step_ends step rest p h = record { ends = λ b. h.ends (step b); point = λ b. (h.point (step b) ∙ p b) }

followed_first : (b : BlockTree) (shape : ShapeTree) (q : SequenceTree) → first_of (followed b shape q) ≡ b
followed_first b shape (sequence first rest) = refl

followed_ends : (b : BlockTree) (shape : ShapeTree) (q : SequenceTree) → ShapeEnds shape → EndsAt shape (first_of q).point → LoopsEnd q → LoopsEnd (followed b shape q)
followed_ends b shape (sequence first rest) h e k = (h, e, k)

shaped_ends : (step : BlockTree → BlockTree) (shape : BlockTree → ShapeTree) (q : SequenceTree) → ((b : BlockTree) → (step b).point ≡ b.point) → ((b : BlockTree) → ShapeEnds (shape b)) → ((b : BlockTree) → EndsAt (shape b) (first_of q).point) → LoopsEnd q
    → RestEnds (λ b. followed (step b) (shape b) q)
shaped_ends step shape q p h e k = record {
  ends = λ b. followed_ends (step b) (shape b) q (h b) (e b) k;
  point = λ b. (ap (λ (x : BlockTree). x.point) (followed_first (step b) (shape b) q) ∙ p b);
}

side_ends : (blocks : Rest) (o : Option Point) → RestEnds blocks → SideEnds (side_from blocks o)
side_ends blocks None h = tt
side_ends blocks (Some point) h = h.ends (begun point)

parts_end : (q : SequenceTree) → LoopsEnd q → PartsEnd (parts_of q)
parts_end (sequence first rest) h = h

stepped_ends : (step : Rest) (o : Option Point) → RestEnds step → RestEnds (λ b. stepped step o b)
stepped_ends step None h = record { ends = λ b. h.ends b; point = λ b. h.point b }
stepped_ends step (Some point) h = record { ends = λ b. tt; point = λ b. refl }

last_if : (c : Bool) (r : Rest) → RestEnds r → RestEnds (λ b. if c then last b else r b)
last_if true r h = record { ends = λ b. tt; point = λ b. refl }
last_if false r h = record { ends = λ b. h.ends b; point = λ b. h.point b }

-- ---- copies

same_at : (shape : ShapeTree) (p q : Point) → p ≡ q → EndsAt shape p → EndsAt shape q
same_at (fork yes_ no_ convertible) p q e h = tt
same_at (loop post test body step eligible) p q e h = sym e ∙ h
same_at (switch dead targets_ other_ arms_) p q e h = tt
same_at (land number) p q e h = tt
same_at (overlapped point body) p q e h = sym e ∙ h

copied_parts_end : (scope : Scope) (variables : VarId → Bool) (parts : PartTrees) → PartsEnd parts → PartsEnd (copied_parts scope variables parts)
copied_parts_end scope variables no_part h = tt
copied_parts_end scope variables (more_parts shape after rest) h =
    (h.0, same_at shape after.point after.point refl h.1, copied_parts_end scope (fixed_behind rest (fixed_behind_shape shape variables) after) rest h.2)

copied_ends : (scope : Scope) (q : SequenceTree) → LoopsEnd q → LoopsEnd (copied scope q)
copied_ends scope (sequence first rest) h = copied_parts_end scope (fixed_behind rest (λ variable. false) first) rest h

copied_first : (scope : Scope) (q : SequenceTree) → (first_of (copied scope q)).point ≡ (first_of q).point
copied_first scope (sequence first rest) = refl

with_copies_ends : (c : Bool) (scope : Scope) (q : SequenceTree) → LoopsEnd q → LoopsEnd (with_copies c scope q)
with_copies_ends true scope q h = copied_ends scope q h
with_copies_ends false scope q h = h

with_copies_first : (c : Bool) (scope : Scope) (q : SequenceTree) → (first_of (with_copies c scope q)).point ≡ (first_of q).point
with_copies_first true scope q = copied_first scope q
with_copies_first false scope q = refl

-- ---- pieces

arm_if : (c : Bool) (first : SequenceTree) (rest : ArmTrees) → LoopsEnd first → ArmsEnd rest → ArmsEnd (if c then more_arms first rest else rest)
arm_if true first rest h k = (h, k)
arm_if false first rest h k = k

mutual
  pub lowered_ends : (scope : Scope) (pieces : PieceTrees) (rest : Rest) → PiecesLoopsEnd pieces → RestEnds rest → RestEnds (λ b. lowered scope pieces rest b)
  lowered_ends scope tree.no_pieces rest h r = record { ends = λ b. r.ends b; point = λ b. r.point b }
  lowered_ends scope (tree.then_ piece pieces) rest h r = piece_ends scope piece (λ b1. lowered scope pieces rest b1) h.0 (lowered_ends scope pieces rest h.1 r)

  piece_ends : (scope : Scope) (piece : PieceTree) (rest : Rest) → PieceLoopsEnd piece → RestEnds rest → RestEnds (λ b. lowered_piece scope piece rest b)
  piece_ends scope (tree.set variable value) rest h r = step_ends _ rest (λ b. (set_step none_shaped scope variable value).point b) r
  piece_ends scope (tree.put array subscripts value at) rest h r = step_ends _ rest (put_step none_shaped scope array subscripts value at).point r
  piece_ends scope (tree.fork test yes_ no_ end) rest h r =
      shaped_ends (λ b. ends_by_fork scope test yes_ no_ b)
      (λ b. fork (side_from (λ b1. lowered scope yes_ last b1) (first_point yes_)) (side_from (λ b1. lowered scope no_ last b1) (first_point no_)) _)
      (rest (begun end)) (fork_step none_shaped scope test yes_ no_).point
      (λ b. (side_ends (λ b1. lowered scope yes_ last b1) (first_point yes_) (lowered_ends scope yes_ last h.0 last_ends), side_ends (λ b1. lowered scope no_ last b1) (first_point no_) (lowered_ends scope no_ last h.1 last_ends)))
      (λ b. tt) (r.ends (begun end))
  piece_ends scope (tree.repeat_ id post before test body step end) rest h r =
      let own = own_step body (first_point step) in
      let eligible = is_eligible post before (weight test) body step in
      let stepping : Rest = λ b2. lowered scope step last b2 in
      let first = lowered scope before (λ b1. last (ends_by_test test b1)) (begun (or_at end (first_point before))) in
      let second = lowered scope body (λ b1. stepped stepping own b1) (begun (or_at end (first_point body))) in
      let a = lowered_ends scope before (λ b1. last (ends_by_test test b1)) h.1 (step_ends (λ b1. ends_by_test test b1) last (test_step none_shaped test).point last_ends) in
      let c = lowered_ends scope step last h.3 last_ends in
      let b = lowered_ends scope body (λ b1. stepped stepping own b1) h.2 (stepped_ends stepping own c) in
      shaped_ends (λ x. x) (λ x. loop post first (with_copies eligible scope second) (side_from stepping own) eligible) (rest (begun end)) (λ x. refl)
      (λ x. (a.ends (begun (or_at end (first_point before))), with_copies_ends eligible scope second (b.ends (begun (or_at end (first_point body)))), side_ends stepping own c))
      (λ x. (r.point (begun end) ∙ h.0 ∙ ap end_of (sym (with_copies_first eligible scope second ∙ b.point (begun (or_at end (first_point body)))))))
      (r.ends (begun end))
  piece_ends scope (tree.pick test labels body end) rest h r =
      shaped_ends (λ b. ends_by_cases test labels b)
      (λ b. switch (parts_of (before_arm scope labels 0 body (record (begun end) { exit = break_ }))) (targets labels (piece_count body) labels) (other labels (piece_count body) labels) (arms scope labels 0 body end))
      (rest (begun end)) (cases_step none_shaped test labels).point
      (λ b. (parts_end (before_arm scope labels 0 body (record (begun end) { exit = break_ })) ((before_ends scope labels 0 body h).ends (record (begun end) { exit = break_ })), arms_end scope labels 0 body end h))
      (λ b. tt) (r.ends (begun end))
  piece_ends scope tree.break_ rest h r = step_ends (λ b. with_exit break_ b) rest (exit_step none_shaped break_).point r
  piece_ends scope tree.next_ rest h r = step_ends (λ b. with_exit continue_ b) rest (exit_step none_shaped continue_).point r
  piece_ends scope (tree.leave call) rest h r = step_ends (λ b. with_exit (leave (land_of call)) b) rest (exit_step none_shaped (leave (land_of call))).point r
  piece_ends scope (tree.land call end) rest h r = shaped_ends (λ b. b) (λ b. land (land_of call)) (rest (begun end)) (λ b. refl) (λ b. tt) (λ b. tt) (r.ends (begun end))
  piece_ends scope (tree.mark point) rest h r = record { ends = λ b. r.ends b; point = λ b. r.point b }

  before_ends : (scope : Scope) (labels : List Label) (i : ℕ) (pieces : PieceTrees) → PiecesLoopsEnd pieces → RestEnds (λ b. before_arm scope labels i pieces b)
  before_ends scope labels i tree.no_pieces h = record { ends = λ b. tt; point = λ b. refl }
  before_ends scope labels i (tree.then_ piece pieces) h =
      last_if (is_named labels i) (λ b. lowered_piece scope piece (λ b1. before_arm scope labels (i + 1) pieces b1) b)
      (piece_ends scope piece (λ b1. before_arm scope labels (i + 1) pieces b1) h.0 (before_ends scope labels (i + 1) pieces h.1))

  arms_end : (scope : Scope) (labels : List Label) (i : ℕ) (pieces : PieceTrees) (end : Point) → PiecesLoopsEnd pieces → ArmsEnd (arms scope labels i pieces end)
  arms_end scope labels i tree.no_pieces end h = tt
  arms_end scope labels i (tree.then_ piece pieces) end h =
      arm_if (is_named labels i) (lowered_piece scope piece (λ b1. before_arm scope labels (i + 1) pieces b1) (begun (or_at end (point_of piece)))) (arms scope labels (i + 1) pieces end)
      ((piece_ends scope piece (λ b1. before_arm scope labels (i + 1) pieces b1) h.0 (before_ends scope labels (i + 1) pieces h.1)).ends (begun (or_at end (point_of piece)))) (arms_end scope labels (i + 1) pieces end h.1)
