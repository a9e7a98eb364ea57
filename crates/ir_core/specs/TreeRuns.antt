-- What a run of a tree of basic blocks is. Each block passes its point, and each iteration of an overlapped loop that runs passes the loop's.
use Rattle.std.specs.Prelude.{ℕ, zero, suc, ◌+◌, ◌==◌, Bool, true, false, not, List, [], ◌∷◌, drop, take, slice_get, Option, Some, None, if◌then◌else◌}
use Rattle.hls_base.specs.declared.point.Point.{Point}
use Rattle.ir_core.specs.declared.body.Operand.{Operand}
use Rattle.ir_core.specs.declared.body.Source.{Source}
use Rattle.ir_core.specs.declared.body.Source.TheVariants as source
use Rattle.ir_core.specs.declared.tree.LandId.{LandId}
use Rattle.hls_base.specs.Steps.{Ran, goes, waits, then_, pass, reached}
use Rattle.hls_base.specs.Valued.{Valued, valued}
use Rattle.ir_core.specs.Bodies.{OpTree, Shapes, Words, Ranged, operand, operations, with_outs}
use Rattle.ir_core.specs.Trees.{ExitTree, next, branch, choose, break_, continue_, leave, BlockTree, BodyTree, SequenceTree, sequence, PartTrees, no_part, more_parts, ShapeTree, fork, loop, switch, land, overlapped, SideTree, no_side, side, ArmTrees, no_arm, more_arms}

-- How control leaves a block or blocks: to what stands behind; to one side of a fork or loop; to the case of this number, or to none; out of the loop or switch round it; to the next iteration; or to the place of this number.
pub data Way : Type 0 where
  on : Way
  taken : (test : Bool) → Way
  cased : (case_ : Option ℕ) → Way
  broke : Way
  continued : Way
  left : (number : LandId) → Way

-- what comes after an iteration
pub data Turn : Type 0 where
  again : Turn
  over : Turn
  out : (way : Way) → Turn

-- ---- blocks

abbrev pub holds : Words → List ℕ → Operand → Bool
holds t results test = not (operand t results test == 0)

-- the number of the first case that holds
abbrev pub first_case : Words → List ℕ → List Operand → ℕ → Option ℕ
first_case t results [] i = None
first_case t results (x ∷ xs) i = if holds t results x then Some i else first_case t results xs (i + 1)

abbrev pub way_of : ExitTree → Words → List ℕ → Way
way_of next t results = on
way_of (branch test) t results = taken (holds t results test)
way_of (choose cases) t results = cased (first_case t results cases 0)
way_of break_ t results = broke
way_of continue_ t results = continued
way_of (leave number) t results = left number

abbrev pub block_left : BlockTree → Ranged → Words → ℕ → Ran Words Way
block_left b r t n = goes (way_of b.exit r.words r.results) (with_outs b.outs r) n

abbrev pub block_run : Shapes → BlockTree → Words → ℕ → Ran Words Way
block_run shapes b t n =
    reached b.point (λ t1 n1. valued (operations shapes b.ops b.ops [] t1) (block_left b) t1 n1) t n

-- ---- iterations

abbrev pub turn_of : Way → Turn
turn_of on = again
turn_of continued = again
turn_of broke = over
turn_of w = out w

abbrev pub if_again : Turn → (Words → ℕ → Ran Words Turn) → Words → ℕ → Ran Words Turn
if_again again rest t n = rest t n
if_again w rest t n = goes w t n

-- Each iteration passes a point, so that their number is at most that of the points that may be passed.
abbrev pub repeat : ℕ → (Words → ℕ → Ran Words Turn) → Words → ℕ → Ran Words Turn
repeat zero round t n = waits
repeat (suc k) round t n = then_ (round t n) (λ w t1 n1. if_again w (repeat k round) t1 n1)

abbrev pub way_behind : Turn → Way
way_behind (out w) = w
way_behind _ = on

abbrev pub turned : (Words → ℕ → Ran Words Way) → Words → ℕ → Ran Words Turn
turned part t n = then_ (part t n) (λ w t1 n1. goes (turn_of w) t1 n1)

-- the test's last block tells whether the body follows
abbrev pub is_taken : Way → Bool
is_taken (taken test) = test
is_taken _ = false

abbrev pub test_first : (Words → ℕ → Ran Words Way) → (Words → ℕ → Ran Words Way) → (Words → ℕ → Ran Words Way) → Words → ℕ → Ran Words Turn
test_first test body step t n =
    then_ (test t n) (λ w t1 n1.
    if is_taken w then then_ (turned body t1 n1) (λ u t2 n2. if_again u (turned step) t2 n2) else goes over t1 n1)

abbrev pub test_last : (Words → ℕ → Ran Words Way) → (Words → ℕ → Ran Words Way) → Words → ℕ → Ran Words Turn
test_last test body t n =
    then_ (turned body t n) (λ u t1 n1. if_again u (λ t2 n2. then_ (test t2 n2) (λ w t3 n3. goes (if is_taken w then again else over) t3 n3)) t1 n1)

-- ---- overlapped loops, iteration by iteration

-- how many operations come before the test is known
abbrev pub tested_by : Source → ℕ
tested_by (source.Result op) = op.0 + 1
tested_by _ = 0

abbrev pub tested : Option Operand → ℕ
tested None = 0
tested (Some test) = tested_by test.value

abbrev pub goes_round : Option Operand → Words → List ℕ → Bool
goes_round None t results = true
goes_round (Some test) t results = holds t results test

-- the operations behind the test, and what the iteration sets
abbrev pub iterated : Shapes → BodyTree → Ranged → Words → ℕ → Ran Words Turn
iterated shapes b r t n =
    valued (operations shapes b.ops (drop (tested b.test) b.ops) r.results r.words) (λ r1 t1 n1. goes again (with_outs b.outs r1) n1) t n

abbrev pub iteration : Shapes → Point → BodyTree → Words → ℕ → Ran Words Turn
iteration shapes point b t n =
    valued (operations shapes b.ops (take (tested b.test) b.ops) [] t) (λ r t1 n1.
    if goes_round b.test r.words r.results then reached point (iterated shapes b r) r.words n1 else goes over r.words n1) t n

abbrev pub overlapped_run : Shapes → Point → BodyTree → Words → ℕ → Ran Words Way
overlapped_run shapes point b t n = then_ (repeat (suc n) (iteration shapes point b) t n) (λ w t1 n1. goes (way_behind w) t1 n1)

-- ---- trees

-- an arm of a switch, by its number
abbrev pub arm_target : List ℕ → Option ℕ → Option ℕ → Option ℕ
arm_target targets other (Some i) = slice_get targets i
arm_target targets other None = other

abbrev pub behind_switch : Way → Way
behind_switch broke = on
behind_switch w = w

abbrev pub cases_of : Way → Option ℕ
cases_of (cased i) = i
cases_of _ = None

-- a block, and what follows it
abbrev pub block_then : Shapes → BlockTree → (Way → Words → ℕ → Ran Words Way) → Words → ℕ → Ran Words Way
block_then shapes b rest t n = then_ (block_run shapes b t n) (λ w t1 n1. rest w t1 n1)

-- the block behind a shape, where control comes to it
abbrev pub behind_shape : Shapes → BlockTree → (Way → Words → ℕ → Ran Words Way) → Way → Words → ℕ → Ran Words Way
behind_shape shapes after rest on t n = block_then shapes after rest t n
behind_shape shapes after rest w t n = rest w t n

abbrev pub next_arm : (Words → ℕ → Ran Words Way) → Way → Words → ℕ → Ran Words Way
next_arm rest on t n = rest t n
next_arm rest w t n = goes w t n

abbrev pub from_target : Option ℕ → (ℕ → Words → ℕ → Ran Words Way) → Words → ℕ → Ran Words Way
from_target None part t n = goes on t n
from_target (Some i) part t n = part i t n

abbrev mutual
  pub sequence_run : Shapes → SequenceTree → Words → ℕ → Ran Words Way
  sequence_run shapes (sequence first rest) t n = block_then shapes first (λ w t1 n1. parts_run shapes rest w t1 n1) t n

  -- What follows a block that is left so. A block that is left for another place does not lead to what stands behind it.
  pub parts_run : Shapes → PartTrees → Way → Words → ℕ → Ran Words Way
  parts_run shapes no_part w t n = goes w t n
  parts_run shapes (more_parts shape after rest) broke t n = goes broke t n
  parts_run shapes (more_parts shape after rest) continued t n = goes continued t n
  parts_run shapes (more_parts (land other) after rest) (left number) t n =
      if number.0 == other.0 then block_then shapes after (λ w t1 n1. parts_run shapes rest w t1 n1) t n else parts_run shapes rest (left number) t n
  parts_run shapes (more_parts shape after rest) (left number) t n = parts_run shapes rest (left number) t n
  parts_run shapes (more_parts shape after rest) w t n =
      then_ (shape_run shapes shape w t n) (λ w1 t1 n1. behind_shape shapes after (λ w2 t2 n2. parts_run shapes rest w2 t2 n2) w1 t1 n1)

  -- between two blocks, of which the first is left so
  pub shape_run : Shapes → ShapeTree → Way → Words → ℕ → Ran Words Way
  shape_run shapes (fork yes_ no_ convertible) w t n = if is_taken w then side_run shapes yes_ t n else side_run shapes no_ t n
  shape_run shapes (loop post test body step eligible) w t n =
      then_ (repeat n (if post then test_last (sequence_run shapes test) (sequence_run shapes body) else test_first (sequence_run shapes test) (sequence_run shapes body) (side_run shapes step)) t n)
      (λ u t1 n1. goes (way_behind u) t1 n1)
  shape_run shapes (switch dead targets other arms) w t n =
      then_ (from_target (arm_target targets other (cases_of w)) (λ i t1 n1. from_arm shapes arms i t1 n1) t n) (λ w1 t1 n1. goes (behind_switch w1) t1 n1)
  shape_run shapes (land number) w t n = goes on t n
  shape_run shapes (overlapped point body) w t n = overlapped_run shapes point body t n

  pub side_run : Shapes → SideTree → Words → ℕ → Ran Words Way
  side_run shapes no_side t n = goes on t n
  side_run shapes (side blocks) t n = sequence_run shapes blocks t n

  -- the arms from this one on, each of which leads to the next
  pub from_arm : Shapes → ArmTrees → ℕ → Words → ℕ → Ran Words Way
  from_arm shapes no_arm i t n = goes on t n
  from_arm shapes (more_arms first rest) zero t n =
      then_ (sequence_run shapes first t n) (λ w t1 n1. next_arm (λ t2 n2. from_arm shapes rest zero t2 n2) w t1 n1)
  from_arm shapes (more_arms first rest) (suc i) t n = from_arm shapes rest i t n
