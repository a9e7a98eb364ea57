-- What all passes on blocks together keep.
pub mod Runs
use Rattle.std.specs.Prelude.{◌≡◌, ◌&&◌, ℕ, Bool, true, [], map, Option, Some}
use Rattle.std.specs.Option.{option_map}
use Rattle.hls_base.specs.declared.number.VarId.{VarId}
use Rattle.hls_base.specs.declared.point.Point.{Point}
use Rattle.ir_core.specs.declared.cfg.Cfg.{Cfg}
use Rattle.ir_core.specs.declared.stamp.Untimed.{Untimed}
use Rattle.pieces.specs.Trees.{PieceTrees}
use Rattle.c_meaning.specs.PieceRuns.Values.{Store}
use Rattle.c_meaning.specs.PieceRuns.Pieces as p
use Rattle.c_meaning.specs.PieceRuns.Pieces.{Frame, pieces_run}
use Rattle.ir_core.specs.Bodies.{Words}
use Rattle.ir_core.specs.Trees.{SequenceTree}
use Rattle.ir_core.specs.FlatRuns as flat
use Rattle.ir_core.specs.FlatRuns.{flat_run}
use Rattle.passes.specs.Lowering.Shapes.{first_point}
use Rattle.passes.specs.Lowering.Blocks.{begun}
use Rattle.passes.specs.Lowering.{last, lowered}
use Rattle.passes.specs.Numbering as n
use Rattle.passes.specs.Numbering.{numbered_sequence}
use Rattle.passes.specs.Conversion as c
use Rattle.passes.specs.Conversion.{converted_sequence}
use Rattle.pass_runs.specs.ConvertRuns.Typed.{Fits}
use Rattle.pass_runs.specs.ConvertRuns.ConvertedTrees.Points.{live_points, AreApart, stays_in}
use Rattle.pass_runs.specs.ConvertRuns.LoweredConversions.Suiting as typing
use Rattle.pass_runs.specs.LowerRuns.LoweredTrees.Fitting.{PiecesFit}
use Rattle.pass_runs.specs.LowerRuns.Suits.{shapes_of, scope_of}
use Rattle.pass_runs.specs.LowerRuns.Holding.{Holds, none_hidden, ArraysAreShort}
use Rattle.pass_runs.specs.LowerRuns.Suiting.{shut, BeginSuits}
use Rattle.ir_layout.specs.Nodes.{node_of}
use Rattle.ir_layout.specs.Layout.{laid_out}
use Rattle.program_validity.specs.Programs.{is_valid}
use Rattle.op_chain.specs.Laws.{IsFusedFrom}
use Rattle.timed_pieces.specs.FlatRuns.Runs.{IsRunOf}

-- What passes are asked to do beside what they must: numbering keeps its blocks apart where they are to stay, loops may become loop nodes, and operators are fused at a period, if it is not 0.
pub record Choice : Type 0 where
  pub apart : Bool
  pub loops : Bool
  pub period : ℕ

abbrev pub numbering_of : Frame → Choice → n.Scope
numbering_of f choice = record { widths = typing.widths_of (scope_of f); apart = choice.apart }

abbrev pub conversion_of : Frame → Choice → c.Scope
conversion_of f choice = record { widths = typing.widths_of (scope_of f); loops = choice.loops }

-- the tree that pieces are lowered to, and the same numbered
abbrev pub tree_of : Frame → PieceTrees → Point → SequenceTree
tree_of f pieces point = lowered (scope_of f) pieces last (begun point)

abbrev pub numbered_of : Frame → Choice → PieceTrees → Point → SequenceTree
numbered_of f choice pieces point = numbered_sequence (numbering_of f choice) (tree_of f pieces point)

-- Pieces whose blocks begin at points that are kept, which differ, whose expressions have the types of what they name, and whose jumps lead somewhere.
pub record IsFine (f : Frame) (kept : Point → Bool) (pieces : PieceTrees) (point : Point) : Type 0 where
  pub short : ArraysAreShort f
  pub first : first_point pieces ≡ Some point
  pub fit : PiecesFit shut pieces
  pub begins : BeginSuits f kept [] none_hidden pieces
  pub typed : typing.PiecesSuit (scope_of f) pieces
  pub points : AreApart (live_points (tree_of f pieces point))

-- the flat program is laid out from the converted, numbered and lowered tree
pub record IsUnfused (f : Frame) (choice : Choice) (pieces : PieceTrees) (point : Point) (returned : Option VarId) (cfg : Cfg Untimed) : Type 0 where
  pub shapes : flat.shapes_of cfg.frame ≡ shapes_of f
  pub nodes : map node_of cfg.nodes.items ≡ laid_out (converted_sequence (conversion_of f choice) (numbered_of f choice pieces point)) returned
  pub first : cfg.first.0 ≡ 0

-- In such a program, if it is valid, operators are fused.
pub record IsLaidOut (f : Frame) (choice : Choice) (pieces : PieceTrees) (point : Point) (returned : Option VarId) (cfg : Cfg Untimed) : Type 0 where
  pub unfused : Cfg Untimed
  pub laid : IsUnfused f choice pieces point returned unfused
  pub valid : is_valid unfused ≡ true
  pub fused : IsFusedFrom choice.period unfused cfg

-- the points that have nodes
abbrev pub has_node : Frame → Choice → (Point → Bool) → PieceTrees → Point → Point → Bool
has_node f choice kept pieces point q = kept q && stays_in (conversion_of f choice) (numbered_of f choice pieces point) q

-- both are at the end of the program, the value is the word of the result's variable, and the words show the store
abbrev pub AreDone : Frame → Option VarId → p.Way → Store → Option ℕ → Words → Type 0
AreDone f returned way s value t = (way ≡ p.on) × (value ≡ option_map (λ variable. t.variables variable.0) returned) × Holds f none_hidden s t × Fits (typing.widths_of (scope_of f)) (typing.words_of (scope_of f)) t

abbrev pub FlatProgramsKeepRuns : Type 0
FlatProgramsKeepRuns = (f : Frame) (choice : Choice) (kept : Point → Bool) (pieces : PieceTrees) (point : Point) (returned : Option VarId) (cfg : Cfg Untimed)
    → IsFine f kept pieces point → IsLaidOut f choice pieces point returned cfg
    → (s : Store) (t : Words) → Holds f none_hidden s t → Fits (typing.widths_of (scope_of f)) (typing.words_of (scope_of f)) t
    → IsRunOf (has_node f choice kept pieces point) (AreDone f returned) (λ n. pieces_run f pieces s n) (λ n. flat_run cfg t n)
