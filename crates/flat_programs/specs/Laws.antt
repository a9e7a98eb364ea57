-- What the layout keeps.
use Rattle.std.specs.Prelude.{◌≡◌, ℕ, length, map, Option}
use Rattle.std.specs.Option.{option_map}
use Rattle.hls_base.specs.declared.number.VarId.{VarId}
use Rattle.ir_core.specs.declared.cfg.Cfg.{Cfg}
use Rattle.ir_core.specs.declared.stamp.Untimed.{Untimed}
use Rattle.hls_base.specs.Steps.{Ran, goes, then_}
use Rattle.ir_core.specs.Bodies.{Shapes, Words}
use Rattle.ir_core.specs.Trees.{SequenceTree}
use Rattle.ir_core.specs.TreeRuns.{sequence_run}
use Rattle.ir_core.specs.FlatRuns.{shapes_of, flat_run}
use Rattle.ir_layout.specs.Nodes.{node_of}
use Rattle.ir_layout.specs.Layout.{laid_out}
use Rattle.ir_layout.specs.WellFormed.{IsWellFormed}
use Rattle.flat_programs.specs.Machine.Sizes.{KeptThere, ParametersThere}
use Rattle.flat_programs.specs.Machine.Rest.{IsWhole, memory_dims}
use Rattle.flat_programs.specs.There.{SequenceThere}

-- the run of a tree of blocks as a program: behind its last block the word of the result's variable, where it has one
abbrev pub tree_run : Shapes → SequenceTree → Option VarId → Words → ℕ → Ran Words (Option ℕ)
tree_run shapes blocks returned t n = then_ (sequence_run shapes blocks t n) (λ w t1 n1. goes (option_map (λ variable. t1.variables variable.0) returned) t1 n1)

-- A flat program whose nodes are those of a well formed tree has the run of the tree, from all contents, and for every number of points that may be passed.
abbrev pub LayoutKeepsRuns : Type 0
LayoutKeepsRuns = (cfg : Cfg Untimed) (blocks : SequenceTree) (returned : Option VarId) → map node_of cfg.nodes.items ≡ laid_out blocks returned → cfg.first.0 ≡ 0 → IsWellFormed blocks
    → (t : Words) (n : ℕ) → flat_run cfg t n ≡ tree_run (shapes_of cfg.frame) blocks returned t n

-- A flat program whose nodes are those of a tree names only what is there, where the tree does and the frame does.
abbrev pub LayoutIsWhole : Type 0
LayoutIsWhole = (cfg : Cfg Untimed) (blocks : SequenceTree) (returned : Option VarId) → map node_of cfg.nodes.items ≡ laid_out blocks returned → SequenceThere (length cfg.frame.variables.items) (memory_dims cfg) blocks
    → KeptThere cfg.frame.kept.items (length cfg.frame.variables.items) → ParametersThere cfg.frame.params.items (length cfg.frame.variables.items) → IsWhole cfg
