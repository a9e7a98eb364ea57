-- A numbered tree keeps its exits.
use Rattle.std.proofs.Common.{◌≡◌, ℕ, Bool, true, false, refl, ap, sym, subst, List, []}
use Rattle.ir_core.specs.Trees.{BlockTree, SequenceTree, sequence, PartTrees, no_part, more_parts, ShapeTree, fork, loop, switch, land, overlapped, SideTree, no_side, side, ArmTrees, no_arm, more_arms}
use Rattle.passes.specs.Numbering.{Scope, Value, nothing, in_loop, renamed, renamed_exit, numbered_ops, numbered_block, numbered_sequence, numbered_parts, numbered_shape, numbered_side, numbered_arms}
use Rattle.pass_runs.specs.ConvertRuns.Forks.{HoldsForks, ForksBehind, IsConvertible, SideHoldsForks}
use Rattle.ir_layout.specs.WellFormed.{Ahead, one_way, a_test, Inside, ExitFits, ahead_of, ahead_of_parts, with_land, lands_in, before_parts, in_test, in_body, in_step, in_arm, StepFits, SequenceFits, PartsFit, ShapeFits, SideFits, ArmsFit}
use Rattle.pass_runs.specs.ConvertRuns.ConvertedTrees.{NumberedIsWellFormed, NumberedHoldsForks}
use Rattle.pass_runs.proofs.ConvertRuns.ConvertedTrees.Exits.{numbered_exit}

abbrev values_of : Scope → BlockTree → List Value
values_of scope b = (numbered_ops scope b.outs nothing b.ops).values

-- ---- what stands behind a block

land_same : (scope : Scope) (shape : ShapeTree) (lands : List ℕ) → with_land (numbered_shape scope shape) lands ≡ with_land shape lands
land_same scope (fork yes_ no_ c) lands = refl
land_same scope (loop post t b s e) lands = refl
land_same scope (switch dead targets other arms) lands = refl
land_same scope (land number) lands = refl
land_same scope (overlapped point body) lands = refl

ahead_same : (scope : Scope) (shape : ShapeTree) → ahead_of (numbered_shape scope shape) ≡ ahead_of shape
ahead_same scope (fork yes_ no_ c) = refl
ahead_same scope (loop post t b s e) = refl
ahead_same scope (switch dead targets other arms) = refl
ahead_same scope (land number) = refl
ahead_same scope (overlapped point body) = refl

lands_same : (scope : Scope) (parts : PartTrees) (lands : List ℕ) → lands_in (numbered_parts scope parts) lands ≡ lands_in parts lands
lands_same scope no_part lands = refl
lands_same scope (more_parts shape after rest) lands = λ i. land_same scope shape (lands_same scope rest lands i) i

ahead_parts : (scope : Scope) (parts : PartTrees) (ahead : Ahead) → ahead_of_parts (numbered_parts scope parts) ahead ≡ ahead_of_parts parts ahead
ahead_parts scope no_part ahead = refl
ahead_parts scope (more_parts shape after rest) ahead = ahead_same scope shape

block_fits : (scope : Scope) (inside : Inside) (ahead : Ahead) (b : BlockTree) (parts : PartTrees) → ExitFits (before_parts parts inside) (ahead_of_parts parts ahead) b.exit
    → ExitFits (before_parts (numbered_parts scope parts) inside) (ahead_of_parts (numbered_parts scope parts) ahead) (numbered_block scope b).exit
block_fits scope inside ahead b parts h =
    subst (λ a. ExitFits (before_parts (numbered_parts scope parts) inside) a (numbered_block scope b).exit) (sym (ahead_parts scope parts ahead))
    (subst (λ l. ExitFits (record inside { lands = l }) (ahead_of_parts parts ahead) (numbered_block scope b).exit) (sym (lands_same scope parts inside.lands)) (numbered_exit (values_of scope b) (before_parts parts inside) (ahead_of_parts parts ahead) b.exit h))

-- ---- trees

mutual
  sequence_fits : (scope : Scope) (inside : Inside) (ahead : Ahead) (s : SequenceTree) → SequenceFits inside ahead s → SequenceFits inside ahead (numbered_sequence scope s)
  sequence_fits scope inside ahead (sequence first rest) h = (block_fits scope inside ahead first rest h.0, parts_fit scope inside ahead rest h.1)

  parts_fit : (scope : Scope) (inside : Inside) (ahead : Ahead) (p : PartTrees) → PartsFit inside ahead p → PartsFit inside ahead (numbered_parts scope p)
  parts_fit scope inside ahead no_part h = tt
  parts_fit scope inside ahead (more_parts shape after rest) h = (
    subst (λ l. ShapeFits (record inside { lands = l }) (numbered_shape scope shape)) (sym (lands_same scope rest inside.lands)) (shape_fits scope (before_parts rest inside) shape h.0),
    block_fits scope inside ahead after rest h.1,
    parts_fit scope inside ahead rest h.2,
  )

  shape_fits : (scope : Scope) (inside : Inside) (shape : ShapeTree) → ShapeFits inside shape → ShapeFits inside (numbered_shape scope shape)
  shape_fits scope inside (fork yes_ no_ c) h = (side_fits scope inside yes_ h.0, side_fits scope inside no_ h.1)
  shape_fits scope inside (loop post t b s e) h = (
    sequence_fits (in_loop scope e) in_test a_test t h.0,
    sequence_fits (in_loop scope e) (in_body inside) one_way b h.1,
    side_fits (in_loop scope e) (in_step inside) s h.2,
    step_fits (in_loop scope e) post s h.3,
  )
  shape_fits scope inside (switch dead targets other arms) h = arms_fit scope (in_arm inside) arms h
  shape_fits scope inside (land number) h = tt
  shape_fits scope inside (overlapped point body) h = tt

  side_fits : (scope : Scope) (inside : Inside) (s : SideTree) → SideFits inside s → SideFits inside (numbered_side scope s)
  side_fits scope inside no_side h = tt
  side_fits scope inside (side blocks) h = sequence_fits scope inside one_way blocks h

  step_fits : (scope : Scope) (post : Bool) (s : SideTree) → StepFits post s → StepFits post (numbered_side scope s)
  step_fits scope true no_side h = tt
  step_fits scope false no_side h = tt
  step_fits scope true (side blocks) h = absurd h
  step_fits scope false (side blocks) h = tt

  arms_fit : (scope : Scope) (inside : Inside) (p : ArmTrees) → ArmsFit inside p → ArmsFit inside (numbered_arms scope p)
  arms_fit scope inside no_arm h = tt
  arms_fit scope inside (more_arms first rest) h = (sequence_fits scope inside one_way first h.0, arms_fit scope inside rest h.1)

pub well_formed : NumberedIsWellFormed
well_formed scope blocks h = sequence_fits scope (record { leave = false; again = false; lands = [] }) one_way blocks h

-- ---- forks that are to be merged

mutual
  sequence_forks : (scope : Scope) (s : SequenceTree) → HoldsForks s → HoldsForks (numbered_sequence scope s)
  sequence_forks scope (sequence first rest) h = forks_behind scope first rest h

  forks_behind : (scope : Scope) (b : BlockTree) (p : PartTrees) → ForksBehind b.exit p → ForksBehind (numbered_block scope b).exit (numbered_parts scope p)
  forks_behind scope b no_part h = ap (renamed_exit (values_of scope b)) h
  forks_behind scope b (more_parts shape after rest) h = ((renamed (values_of scope b) h.0.0, ap (renamed_exit (values_of scope b)) h.0.1), shape_forks scope shape h.1, forks_behind scope after rest h.2)

  shape_forks : (scope : Scope) (shape : ShapeTree) → IsConvertible shape → IsConvertible (numbered_shape scope shape)
  shape_forks scope (fork yes_ no_ c) h = (h.0, side_forks scope yes_ h.1, side_forks scope no_ h.2)
  shape_forks scope (loop post t b s e) h = absurd h
  shape_forks scope (switch dead targets other arms) h = absurd h
  shape_forks scope (land number) h = absurd h
  shape_forks scope (overlapped point body) h = absurd h

  side_forks : (scope : Scope) (s : SideTree) → SideHoldsForks s → SideHoldsForks (numbered_side scope s)
  side_forks scope no_side h = tt
  side_forks scope (side blocks) h = sequence_forks scope blocks h

pub forks : NumberedHoldsForks
forks scope blocks h = sequence_forks scope blocks h
