-- What is to be known of the variables and memories that blocks name.
use Rattle.std.specs.Prelude.{ℕ, Bool, List, map, is_some}
use Rattle.ir_core.specs.declared.cfg.Frame.{Frame}
use Rattle.ir_core.specs.declared.cfg.Memory.{Memory}

-- the width of a memory's words, the lengths of its dimensions, and whether it is a table
pub record MemoryShape : Type 0 where
  pub bits : ℕ
  pub dims : List ℕ
  pub table : Bool

-- the widths of the variables, and the memories
pub record FrameShape : Type 0 where
  pub widths : List ℕ
  pub memories : List MemoryShape

-- the widths of the memories' words
abbrev pub words_in : FrameShape → List ℕ
words_in frame = map (λ m. m.bits) frame.memories

-- ---- the code's frames

abbrev pub memory_shape : Memory → MemoryShape
memory_shape m = record { bits = m.bits; dims = m.dims.items; table = is_some m.table }

abbrev pub frame_shape : Frame → FrameShape
frame_shape f = record { widths = f.variables.items; memories = map memory_shape f.memories.items }
