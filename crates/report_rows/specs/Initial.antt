-- How long the initial sequence after a reset takes.
use Rattle.std.specs.Prelude.{ℕ, ◌<◌, ◌^◌, max, min, length, is_some, if◌then◌else◌, List, [], ◌∷◌, map}
use Rattle.std.specs.List.{All}
use Rattle.hls_base.specs.ArrayAddress.{address_bits}
use Rattle.ir_core.specs.declared.cfg.Frame.{Frame}
use Rattle.ir_core.specs.declared.cfg.Memory.{Memory}

abbrev pub greatest : List ℕ → ℕ
greatest [] = 0
greatest (n ∷ ns) = max n (greatest ns)

-- a cycle for each word of a memory that has first contents
abbrev pub filling : Memory → ℕ
filling m = if is_some m.initial then 2 ^ address_bits m.dims.items else 0

-- All memories are filled at once, and each scalar that is kept is set in the first of these cycles.
abbrev pub initial_cycles : Frame → ℕ
initial_cycles frame = max (min 1 (length frame.kept.items)) (greatest (map filling frame.memories.items))

-- each address has fewer than 32 bits
abbrev pub AreAddressed : List Memory → Type 0
AreAddressed memories = All (λ m. address_bits m.dims.items < 32) memories
