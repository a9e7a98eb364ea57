-- The flat programs of sources without faults are compiled, and a circuit can be made of each with its times.
use Rattle.std.proofs.Common.{refl, ◌≡◌, ◌≤◌, ◌∙◌, ℕ, Bool, true, List, sym, subst}
use Rattle.std.proofs.lemmas.Option.{same_Some}
use Rattle.hls_base.specs.declared.settings.Units.{Units}
use Rattle.c_tree.specs.Tree.{ProgramTree}
use Rattle.c_tree.specs.Terminals.{terminals}
use Rattle.c_elaborate.specs.Programs.{program_elaborated}
use Rattle.c_expand.specs.Expansion.{expansion, expanded_weight}
use Rattle.pieces.specs.Program.{ExpandedTree}
use Rattle.ir_core.specs.declared.cfg.Cfg.{Cfg}
use Rattle.ir_core.specs.declared.stamp.Untimed.{Untimed}
use Rattle.ir_core.specs.declared.timed.Timed.{Timed}
use Rattle.cycle_report.specs.PlainReport.{PlainLoop}
use Rattle.program_validity.specs.Programs.{is_valid}
use Rattle.program_validity.proofs.Parts.{first_of_both}
use Rattle.timed_pieces.proofs.TimedValidity.Whole.{times_keep}
use Rattle.circuit_context.specs.Programs.{IsBuildable}
use Rattle.ir_lower.specs.Frames.{frame_view}
use Rattle.compile_steps.specs.Flat.{Passes, IsFlatOf}
use Rattle.compile_steps.specs.Reports.{IsTimed}
use Rattle.compile_steps.specs.Resets.{expanded_frame}
use Rattle.source_answers.proofs.CompiledAnswers.Whole.{choice_of, laid_from}
use Rattle.source_answers.specs.SourceRuns.{IsFaultless, expanded}
use Rattle.source_validity.proofs.AddressedFrames.Frames.{expanded_addressable}
use Rattle.source_validity.proofs.AcceptedPrograms.Flat.{flat_valid, fused_parts}
use Rattle.source_validity.proofs.SourceMachines.SmallTimes.Whole.{times_small}
use Rattle.source_validity.proofs.NearOuts.Whole.{sources_near}
use Rattle.promises.specs.Compilable.{IsCompilable, BecomesCompilable}

-- a source without faults, whose weight is within the limit, becomes programs that are compiled
source_programs : (source : List ℕ) (p : ProgramTree) (top : ℕ) (name : List ℕ) → IsFaultless source p top name → expanded_weight (program_elaborated p top) ≤ 8192
    → (passes : Passes) (cfg : Cfg Untimed) → IsFlatOf (expanded p top) passes cfg → frame_view cfg.frame ≡ expanded_frame (expanded p top) → IsCompilable cfg
source_programs source p top name s light passes cfg flat frame =
    let laid = laid_from (expanded p top) passes cfg flat.start flat refl frame (flat_valid source p top name s light passes cfg flat frame) in
    let is = fused_parts source p top name s light passes cfg flat frame in
    record { valid = is.0; small = is.1; forward = is.2; near = sources_near source p top name s flat.start (choice_of passes) cfg laid }

source_compilable : (source : List ℕ) (p : ProgramTree) (top : ℕ) (name : List ℕ) → IsFaultless source p top name → expanded_weight (program_elaborated p top) ≤ 8192 → BecomesCompilable (expanded p top)
source_compilable source p top name s light = record {
  programs = source_programs source p top name s light;
  addressable = expanded_addressable (terminals s.replaced) s.end p top name s.derives s.faultless;
}

pub accepted_compilable : (source : List ℕ) (p : ProgramTree) (top : ℕ) (name : List ℕ) → IsFaultless source p top name → expanded_weight (program_elaborated p top) ≤ 8192
    → (e : ExpandedTree) → e ≡ expansion (program_elaborated p top) → BecomesCompilable e
accepted_compilable source p top name s light e same = subst BecomesCompilable (sym same) (source_compilable source p top name s light)

-- a circuit can be made of such a program with its times
pub timed_buildable : (units : Units) (untimed : Cfg Untimed) (timed : Cfg Timed) (rows : List PlainLoop) → IsTimed units untimed timed rows → IsCompilable untimed → IsBuildable timed
timed_buildable units untimed timed rows times is =
    let valid : is_valid timed ≡ true = times_keep untimed.frame.memories.items units untimed timed rows times.frame times.first times.nodes ∙ is.valid in
    record { valid = first_of_both _ _ valid; times = times_small units untimed timed rows is.small is.forward is.near times }
