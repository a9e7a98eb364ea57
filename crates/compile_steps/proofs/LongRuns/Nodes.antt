-- The first node of the program that pieces are compiled to begins where the pieces do.
use Rattle.std.proofs.lemmas.Bool.{false≢true}
use Rattle.std.proofs.Common.{◌≡◌, ◌∙◌, ℕ, Bool, sym, ap, subst, refl, List, [], ◌∷◌, map, Option, Some, None}
use Rattle.std.specs.List.{Contains}
use Rattle.std.proofs.lemmas.List.Elements.{All-head, All-contains_itself}
use Rattle.hls_base.specs.declared.number.VarId.{VarId}
use Rattle.hls_base.specs.declared.point.Point.{Point}
use Rattle.hls_base.specs.declared.settings.Units.{Units}
use Rattle.pieces.specs.Program.{ExpandedTree}
use Rattle.ir_core.specs.declared.body.Operand.{Operand}
use Rattle.ir_core.specs.declared.cfg.Cfg.{Cfg}
use Rattle.ir_core.specs.declared.cfg.Memory.{Memory}
use Rattle.ir_core.specs.declared.cfg.Node.{Node}
use Rattle.ir_core.specs.declared.cfg.Node.TheVariants as n
use Rattle.ir_core.specs.declared.stamp.Untimed.{Untimed}
use Rattle.ir_core.specs.Bodies.{Shapes}
use Rattle.ir_core.specs.Trees.{BlockTree, SequenceTree, sequence, PartTrees, no_part, more_parts, ShapeTree}
use Rattle.passes.specs.Lowering.Blocks.{begun}
use Rattle.passes.specs.Lowering.{scope_of, last}
use Rattle.pass_runs.proofs.LowerRuns.LowerControl.Rests.{first_of, last_rest, lowered_rest}
use Rattle.passes.specs.Numbering as numbering
use Rattle.passes.specs.Numbering.{numbered_sequence}
use Rattle.passes.specs.Conversion.Merging.{Branches, branches_of, branched, is_taken, Choice, choices, with_selection, with_selections, merged, joined, opened}
use Rattle.passes.specs.Conversion as conversion
use Rattle.passes.specs.Conversion.{going_on, behind, converted_sequence, converted_behind, converted_shape}
use Rattle.ir_layout.specs.Nodes.{NodeTree, plain, looped, node_of}
use Rattle.ir_layout.specs.Layout.{laid_out}
use Rattle.ir_core.specs.declared.timed.Timed.{Timed}
use Rattle.cycle_report.specs.PlainReport.{PlainLoop}
use Rattle.report_rows.specs.Costs.{node_point}
use Rattle.report_rows.specs.Timing.{AreTimed}
use Rattle.op_chain.specs.Skeletons.{Skeleton, skeleton}
use Rattle.op_chain.proofs.ValidFusing.Skeletons.{skeletons_stay}
use Rattle.compile_steps.specs.Flat.{tree_of, numbered_of, converted_of, Passes, IsFlatOf}
use Rattle.compile_steps.specs.Reports.{IsTimed}

-- ---- trees

lowered_point : (e : ExpandedTree) (start : Point) → (first_of (tree_of e start)).point ≡ start
lowered_point e start =
    let none : Shapes = record { widths = []; dims = [] } in
    (lowered_rest none (scope_of e) e.pieces last (last_rest none)).point (begun start)

numbered_point : (scope : numbering.Scope) (s : SequenceTree) → (first_of (numbered_sequence scope s)).point ≡ (first_of s).point
numbered_point scope (sequence first rest) = refl

selections_point : (widths : List ℕ) (test : Operand) (b : BlockTree) (cs : List Choice) → (with_selections widths test b cs).point ≡ b.point
selections_point widths test b [] = refl
selections_point widths test b (c ∷ cs) = selections_point widths test (with_selection widths test b c) cs

merged_point : (widths : List ℕ) (b after : BlockTree) (f : Branches) → (joined widths (merged widths b f) after).point ≡ b.point
merged_point widths b after f =
    let left = branched widths b.ops b.outs (Some f.test) (is_taken f.test) f.yes_ in
    let right = branched widths left.ops b.outs (Some f.test) [] f.no_ in
    selections_point widths f.test (record b { ops = right.ops }) (choices b.outs left.outs right.outs)

module _ (scope : conversion.Scope) where
  point_by : (b after : BlockTree) (shape : ShapeTree) (o : Option Branches) (rest : PartTrees) → ((c : BlockTree) → (first_of (converted_behind scope c rest)).point ≡ c.point)
      → (first_of (behind b shape o (converted_behind scope (going_on scope.widths b o after) rest))).point ≡ b.point
  point_by b after shape None rest h = refl
  point_by b after shape (Some f) rest h = h (joined scope.widths (merged scope.widths b f) after) ∙ merged_point scope.widths b after f

  point_behind : (rest : PartTrees) (b : BlockTree) → (first_of (converted_behind scope b rest)).point ≡ b.point
  point_behind no_part b = refl
  point_behind (more_parts shape after rest) b = point_by b after (converted_shape scope shape) (branches_of b.exit (converted_shape scope shape)) rest (point_behind rest)

  converted_point : (s : SequenceTree) → (first_of (converted_sequence scope s)).point ≡ (first_of s).point
  converted_point (sequence first rest) = point_behind rest (opened first)

start_kept : (e : ExpandedTree) (is_plain : Bool) (start : Point) → (first_of (converted_of e is_plain start)).point ≡ start
start_kept e is_plain start = converted_point _ (numbered_of e start) ∙ (numbered_point _ (tree_of e start) ∙ lowered_point e start)

-- ---- nodes

-- a block at this point comes first
abbrev BeginAt : Point → List NodeTree → Type 0
BeginAt q [] = ⊥
BeginAt q (plain point body end_ ∷ nodes) = point ≡ q
BeginAt q (looped point body next ∷ nodes) = ⊥

laid_begin : (blocks : SequenceTree) (returned : Option VarId) → BeginAt (first_of blocks).point (laid_out blocks returned)
laid_begin (sequence first rest) returned = refl

-- a node at this point
abbrev HasNodeAt : Point → List (Node Timed) → Type 0
HasNodeAt q nodes = (node : Node Timed) × (Contains nodes node × (node_point node ≡ q))

timed_begin : (memories : List Memory) (units : Units) (q : Point) (nodes : List (Node Untimed)) (timed : List (Node Timed)) (rows : List PlainLoop) → AreTimed memories units nodes timed rows → BeginAt q (map node_of nodes) → HasNodeAt q timed
timed_begin memories units q [] timed rows h b = absurd b
timed_begin memories units q (n.Looped region ∷ nodes) timed rows h b = absurd b
timed_begin memories units q (n.Plain block ∷ nodes) [] rows h b = absurd h
timed_begin memories units q (n.Plain block ∷ nodes) (n.Looped region ∷ timed) rows h b = absurd h.1.1.1
timed_begin memories units q (n.Plain block ∷ nodes) (n.Plain own ∷ timed) rows h b =
    let first : Node Timed = n.Plain own in
    (first, (All-head (Contains (first ∷ timed)) first timed (All-contains_itself (first ∷ timed)), h.1.1.1.0.1.1.1.point ∙ b))

-- nodes begin where others do that have the same skeletons
begin_kept : (q : Point) (xs ys : List NodeTree) → map skeleton xs ≡ map skeleton ys → BeginAt q ys → BeginAt q xs
begin_kept q xs [] same b = absurd b
begin_kept q xs (looped point body next ∷ ys) same b = absurd b
begin_kept q [] (plain point body end_ ∷ ys) same b = absurd (cc)
begin_kept q (plain p c e ∷ xs) (plain point body end_ ∷ ys) same b =
    let heads : skeleton (plain p c e) ≡ skeleton (plain point body end_) = cc in ap (λ (s : Skeleton). s.point) heads ∙ b
begin_kept q (looped p c next ∷ xs) (plain point body end_ ∷ ys) same b =
    let heads : skeleton (looped p c next) ≡ skeleton (plain point body end_) = cc in absurd (false≢true (sym (ap (λ (s : Skeleton). s.loop) heads)))

pub node_there : (e : ExpandedTree) (passes : Passes) (untimed : Cfg Untimed) (units : Units) (timed : Cfg Timed) (loops : List PlainLoop) (is : IsFlatOf e passes untimed) → IsTimed units untimed timed loops
    → HasNodeAt is.start timed.nodes.items
node_there e passes untimed units timed loops is times =
    let blocks = converted_of e passes.plain is.start in
    let begins = subst (λ q. BeginAt q (laid_out blocks e.result)) (start_kept e passes.plain is.start) (laid_begin blocks e.result) in
    let same : map skeleton (map node_of untimed.nodes.items) ≡ map skeleton (laid_out blocks e.result) =
    ap (map skeleton) is.fused.nodes ∙ skeletons_stay passes.period _ (map node_of is.unfused.nodes.items) ∙ ap (map skeleton) is.nodes in
    timed_begin untimed.frame.memories.items units is.start untimed.nodes.items timed.nodes.items times.nodes.found times.nodes.each (begin_kept is.start (map node_of untimed.nodes.items) (laid_out blocks e.result) same begins)
