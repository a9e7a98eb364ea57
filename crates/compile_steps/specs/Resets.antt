-- What the blocks of an expanded program have beside these, and how long the initial sequence after a reset takes.
use Rattle.std.specs.Prelude.{ℕ, ◌<◌, ◌^◌, max, min, length, is_some, if◌then◌else◌, map}
use Rattle.std.specs.List.{All}
use Rattle.hls_base.specs.ArrayAddress.{address_bits}
use Rattle.c_value.specs.Values.{width}
use Rattle.pieces.specs.Program.{ArrayTree, ExpandedTree}
use Rattle.ir_lower.specs.Frames.{MemoryView, FrameView, result_width}
use Rattle.report_rows.specs.Initial.{greatest}

-- the memory of an array
abbrev pub array_memory : ArrayTree → MemoryView
array_memory a = record { name = a.name; bits = width a.kind; dims = a.lengths; table = a.table; initial = a.initial; host = a.host }

-- what stands beside the blocks of an expanded program
abbrev pub expanded_frame : ExpandedTree → FrameView
expanded_frame e = record { name = e.name; params = e.params; variables = map width e.variables; memories = map array_memory e.arrays; kept = e.kept; ret = result_width e.ret }

-- a cycle for each word of a memory that has first contents
abbrev pub filling : MemoryView → ℕ
filling m = if is_some m.initial then 2 ^ address_bits m.dims else 0

-- All memories are filled at once, and each scalar that is kept is set in the first of these cycles.
abbrev pub reset_cycles : FrameView → ℕ
reset_cycles f = max (min 1 (length f.kept)) (greatest (map filling f.memories))

-- each address has fewer than 32 bits
abbrev pub AreAddressable : FrameView → Type 0
AreAddressable f = All (λ m. address_bits m.dims < 32) f.memories
