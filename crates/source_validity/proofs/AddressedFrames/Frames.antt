-- Memories of programs without faults have addresses of fewer than 32 bits.
use Rattle.std.proofs.Common.{◌<◌, sym, subst}
use Rattle.std.proofs.lemmas.List.Elements.{All-map}
use Rattle.hls_base.specs.ArrayAddress.{address_bits}
use Rattle.c_elaborate.specs.Programs.{program_elaborated}
use Rattle.c_expand.specs.Expansion.{expansion}
use Rattle.ir_lower.specs.Frames.{MemoryView, memory_view}
use Rattle.rtl_core.proofs.Checks.{All-map_back}
use Rattle.compile_steps.specs.Resets.{array_memory, AreAddressable}
use Rattle.expanded_pieces.proofs.AddressedArrays.Programs.{checked_addressed}
use Rattle.source_validity.specs.AddressedFrames.{ExpandedFramesAreAddressable, CheckedFramesAreAddressed}

abbrev IsAddressed : MemoryView → Type 0
IsAddressed m = address_bits m.dims < 32

pub expanded_addressable : ExpandedFramesAreAddressable
expanded_addressable tokens end p top name derives none = All-map IsAddressed array_memory (expansion (program_elaborated p top)).arrays (checked_addressed tokens end p top name derives none)

pub frames_addressed : CheckedFramesAreAddressed
frames_addressed tokens end p top name derives none frame same =
    All-map_back IsAddressed memory_view frame.memories.items (subst AreAddressable (sym same) (expanded_addressable tokens end p top name derives none))
