-- What a step of a state does, as the definition of a run of blocks has it.
use Rattle.std.specs.Prelude.{◌≡◌, ℕ, ◌+◌, ◌<◌, Bool, true, false, List, [], ◌∷◌, ◌++◌, length, map, drop, Option, Some, None, Ok, Err}
use Rattle.hls_base.specs.declared.point.Point.{Point}
use Rattle.ir_core.specs.declared.body.Body.{Body}
use Rattle.ir_core.specs.declared.cfg.End.{End}
use Rattle.ir_core.specs.declared.stamp.Untimed.{Untimed}
use Rattle.ir_core.specs.declared.machine.Halt.TheVariants as halt
use Rattle.hls_base.specs.Steps.{Ran, ran, goes, fails}
use Rattle.hls_base.specs.Valued.{Valued, is, faulty}
use Rattle.ir_core.specs.Bodies.{Words, Shapes, Ranged, op_of, operations, with_outs}
use Rattle.ir_core.specs.FlatRuns.{Going, to, ends, going, body_of}
use Rattle.ir_core.specs.TreeRuns.{Turn, again, over, iteration}
use Rattle.flat_programs.specs.declared.machine.effects.Broken.{Broken}
use Rattle.flat_programs.specs.declared.machine.state.Round.{Round}
use Rattle.flat_programs.specs.declared.machine.state.Round.TheVariants as round
use Rattle.flat_programs.specs.declared.machine.state.State.{State}
use Rattle.flat_programs.specs.Machine.States.{results_of, words_of, ranged_of}

-- part of a run behind these points
abbrev pub behind : {S A : Type 0} → List Point → Ran S A → Ran S A
behind points r = ran (points ++ r.trace) r.outcome

-- a state at the beginning of a node, or at the end of the run, with these contents
abbrev pub HasGone : Going → Words → State → Type 0
HasGone (to node) t s = (s.halt ≡ halt.Running) × (s.node.0 ≡ node) × (s.position ≡ 0) × (words_of s ≡ t)
HasGone (ends word) t s = (s.halt ≡ halt.Ended) × (s.returned ≡ word) × (words_of s ≡ t)

-- what the operations that are left come to
abbrev pub left_in : Shapes → Body Untimed → State → Valued Ranged
left_in shapes b s = operations shapes (map op_of b.ops.items) (map op_of (drop s.position b.ops.items)) (results_of s) (words_of s)

-- A step in a block: one operation less is left; or an operation has no meaning; or none was left, and the block is left.
pub data HasStepped (shapes : Shapes) (b : Body Untimed) (end : End) (old new : State) : Type 0 where
  one_less : (more : old.position < length b.ops.items) (running : new.halt ≡ halt.Running) (node : new.node ≡ old.node) (position : new.position ≡ old.position + 1) (same : left_in shapes b old ≡ left_in shapes b new) → HasStepped shapes b end old new
  undefined_ : (broken : Broken) (stopped : new.halt ≡ halt.Undefined broken.rule broken.place) (same : left_in shapes b old ≡ faulty broken.rule broken.place) → HasStepped shapes b end old new
  left_behind : (none : left_in shapes b old ≡ is (ranged_of old)) (gone : HasGone (going end (words_of old) (results_of old)) (with_outs b.outs.items (ranged_of old)) new) → HasStepped shapes b end old new

-- this point, if it was passed
abbrev pub point_if : Bool → Point → List Point
point_if true point = point ∷ []
point_if false point = []

abbrev pub listed : Option Point → List Point
listed (Some point) = point ∷ []
listed None = []

abbrev pub is_passed : Round → Bool
is_passed (round.Undefined broken) = false
is_passed round.Over = false
is_passed (round.Passed done) = true

-- what an iteration comes to
abbrev pub turn_of : Round → Words → ℕ → Ran Words Turn
turn_of (round.Undefined broken) t n = fails broken.rule broken.place
turn_of round.Over t n = goes over t n
turn_of (round.Passed (Ok _)) t n = goes again t n
turn_of (round.Passed (Err broken)) t n = fails broken.rule broken.place

-- An iteration as the definition has it, behind its point, if that was passed.
abbrev pub HasIterated : Shapes → Point → Body Untimed → Round → State → State → Type 0
HasIterated shapes point b r old new =
    (n : ℕ) → iteration shapes point (body_of b) (words_of old) (length (point_if (is_passed r) point) + n) ≡ behind (point_if (is_passed r) point) (turn_of r (words_of new) n)
