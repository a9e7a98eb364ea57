-- Valid programs are sound, where each loop sets a variable by one out, and return no word without a result.
use Rattle.std.specs.Prelude.{◌≡◌, ℕ, ◌<◌, slice_get, true, Some}
use Rattle.ir_core.specs.declared.body.Operand.{Operand}
use Rattle.ir_core.specs.declared.cfg.Block.{Block}
use Rattle.ir_core.specs.declared.cfg.Cfg.{Cfg}
use Rattle.ir_core.specs.declared.cfg.End.TheVariants as end
use Rattle.ir_core.specs.declared.cfg.Node.{Node}
use Rattle.ir_core.specs.declared.cfg.Node.TheVariants as node
use Rattle.ir_core.specs.declared.stamp.Untimed.{Untimed}
use Rattle.pass_runs.specs.ConvertRuns.Blocks.{Once}
use Rattle.clock_runs.specs.Premises.{Each, IsSoundProgram}
use Rattle.program_validity.specs.Programs.{is_valid}

-- no two outs of a loop set one variable; of a block nothing is asked
abbrev pub SetsOnce : Node Untimed → Type 0
SetsOnce (node.Plain block) = Unit {0}
SetsOnce (node.Looped region) = Once region.body.outs.items

abbrev pub LoopsSetOnce : Cfg Untimed → Type 0
LoopsSetOnce cfg = Each SetsOnce cfg.nodes.items

abbrev pub ValidProgramsAreSound : Type 0
ValidProgramsAreSound = (cfg : Cfg Untimed) → is_valid cfg ≡ true → LoopsSetOnce cfg → IsSoundProgram cfg

-- This is all that validity lacks.
abbrev pub SoundProgramsSetOnce : Type 0
SoundProgramsSetOnce = (cfg : Cfg Untimed) → IsSoundProgram cfg → LoopsSetOnce cfg

-- A program without a result returns no word.
abbrev pub ValidProgramsReturnResults : Type 0
ValidProgramsReturnResults = (cfg : Cfg Untimed) → is_valid cfg ≡ true → (i : ℕ) (block : Block Untimed) (word : Operand) → slice_get cfg.nodes.items i ≡ Some (node.Plain block) → block.end ≡ end.Return (Some word) → 0 < cfg.frame.ret
