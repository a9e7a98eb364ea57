-- Which expanded programs are compiled: those whose flat programs are valid and can be given small times.
use Rattle.std.specs.Prelude.{◌≡◌, true}
use Rattle.std.specs.List.{All}
use Rattle.pieces.specs.Program.{ExpandedTree}
use Rattle.ir_core.specs.declared.cfg.Cfg.{Cfg}
use Rattle.ir_core.specs.declared.stamp.Untimed.{Untimed}
use Rattle.ir_lower.specs.Frames.{frame_view}
use Rattle.program_validity.specs.Programs.{is_valid}
use Rattle.report_rows.specs.ForwardNodes.{HasForwardBody}
use Rattle.program_sizes.specs.CompiledSizes.{IsSmallProgram}
use Rattle.compile_steps.specs.Flat.{Passes, IsFlatOf}
use Rattle.compile_steps.specs.Resets.{expanded_frame, AreAddressable}
use Rattle.source_validity.specs.SourceMachines.SmallTimes.NearOuts.{OutsAreNear}

-- a valid program of few nodes and operations, each of which comes behind those that it waits for, with outs and tests of few iterations before
pub record IsCompilable (cfg : Cfg Untimed) : Type 0 where
  pub valid : is_valid cfg ≡ true
  pub small : IsSmallProgram cfg
  pub forward : All HasForwardBody cfg.nodes.items
  pub near : OutsAreNear cfg

-- Each flat program that the expanded program becomes, with or without overlapped loops and fused operators, is so, and its memories can be addressed.
pub record BecomesCompilable (e : ExpandedTree) : Type 0 where
  pub programs : (passes : Passes) (cfg : Cfg Untimed) → IsFlatOf e passes cfg → frame_view cfg.frame ≡ expanded_frame e → IsCompilable cfg
  pub addressable : AreAddressable (expanded_frame e)
