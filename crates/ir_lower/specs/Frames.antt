-- What a program has beside its blocks: what is expanded gives it, and lowering changes nothing of it.
use Rattle.std.specs.Prelude.{ℕ, Bool, List, map, Option, Some, None}
use Rattle.hls_base.specs.declared.number.VarId.{VarId}
use Rattle.hls_base.specs.declared.number.Kept.{Kept}
use Rattle.c_token.specs.declared.ctype.CType.{CType}
use Rattle.c_value.specs.Values.{width}
use Rattle.ir_core.specs.declared.cfg.Frame.{Frame}
use Rattle.ir_core.specs.declared.cfg.Memory.{Memory}
use Rattle.pieces.specs.declared.expanded.ArrayInfo.{ArrayInfo}
use Rattle.pieces.specs.declared.expanded.Expanded.{Expanded}

-- a memory: its name, the width of its words, its lengths, its words where it is a table, its first contents where it has some, and whether the host reaches it
pub record MemoryView : Type 0 where
  pub name : List ℕ
  pub bits : ℕ
  pub dims : List ℕ
  pub table : Option (List ℕ)
  pub initial : Option (List ℕ)
  pub host : Bool

abbrev pub memory_view : Memory → MemoryView
memory_view m = record { name = m.name; bits = m.bits; dims = m.dims.items; table = m.table; initial = m.initial; host = m.host }

-- the memory of an array
abbrev pub memory_of : ArrayInfo → MemoryView
memory_of a = record { name = a.name; bits = width a.kind; dims = a.dims.items; table = a.table; initial = a.initial; host = a.host }

-- the width of a result, 0 where there is none
abbrev pub result_width : Option CType → ℕ
result_width None = 0
result_width (Some kind) = width kind

pub record FrameView : Type 0 where
  pub name : List ℕ
  pub params : List VarId
  pub variables : List ℕ
  pub memories : List MemoryView
  pub kept : List Kept
  pub ret : ℕ

abbrev pub frame_view : Frame → FrameView
frame_view f = record { name = f.name; params = f.params.items; variables = f.variables.items; memories = map memory_view f.memories.items; kept = f.kept.items; ret = f.ret }

-- the frame of an expanded program
abbrev pub frame_of : Expanded → FrameView
frame_of e = record { name = e.name; params = e.params.items; variables = map width e.variables.items; memories = map memory_of e.arrays.items; kept = e.kept.items; ret = result_width e.ret }
