-- Addresses of the memories of programs without faults.
use Rattle.std.specs.Prelude.{◌≡◌, ℕ, List, []}
use Rattle.hls_base.specs.declared.place.Place.{Place}
use Rattle.c_tree.specs.Tree.{ProgramTree}
use Rattle.c_tree.specs.Terminals.{Terminal}
use Rattle.c_tree.specs.Grammar.{DerivesProgram}
use Rattle.c_meaning.specs.Checks.Programs.{program_faults}
use Rattle.c_elaborate.specs.Programs.{program_elaborated}
use Rattle.c_expand.specs.Expansion.{expansion}
use Rattle.ir_core.specs.declared.cfg.Frame.{Frame}
use Rattle.ir_lower.specs.Frames.{frame_view}
use Rattle.report_rows.specs.Initial.{AreAddressed}
use Rattle.compile_steps.specs.Resets.{expanded_frame, AreAddressable}

-- Addresses of the memories of a program without faults have fewer than 32 bits.
abbrev pub ExpandedFramesAreAddressable : Type 0
ExpandedFramesAreAddressable = (tokens : List Terminal) (end : Place) (p : ProgramTree) (top : ℕ) (name : List ℕ) → DerivesProgram tokens end p → program_faults p name ≡ []
    → AreAddressable (expanded_frame (expansion (program_elaborated p top)))

-- So have those of a frame that has what stands beside the blocks of the expanded program.
abbrev pub CheckedFramesAreAddressed : Type 0
CheckedFramesAreAddressed = (tokens : List Terminal) (end : Place) (p : ProgramTree) (top : ℕ) (name : List ℕ) → DerivesProgram tokens end p → program_faults p name ≡ []
    → (frame : Frame) → frame_view frame ≡ expanded_frame (expansion (program_elaborated p top)) → AreAddressed frame.memories.items
