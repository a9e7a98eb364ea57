-- The interface of a program with a frame: its scalar parameters, the memories that the host reaches, and its result.
use Rattle.std.specs.Prelude.{ℕ, zero, suc, List, map, filter, codes, ◌++◌, slice_index, Option, Some, None, ◌==◌, if◌then◌else◌}
use Rattle.hls_base.specs.declared.number.VarId.{VarId}
use Rattle.ir_core.specs.declared.cfg.Frame.{Frame}
use Rattle.ir_core.specs.declared.cfg.Memory.{Memory}
use Rattle.rtl_core.specs.Interface.{ArrayShape, Interface}

abbrev pub scalar_bits : List ℕ → List VarId → List ℕ
scalar_bits variables params = map (λ (v : VarId). slice_index variables v.0) params

abbrev pub shape_of : Memory → ArrayShape
shape_of m = record { bits = m.bits; dims = m.dims.items }

abbrev pub host_memories : List Memory → List Memory
host_memories memories = filter (λ (m : Memory). m.host) memories

abbrev pub result_bits : ℕ → Option ℕ
result_bits zero = None
result_bits (suc bits) = Some (suc bits)

abbrev pub interface_of : Frame → Interface
interface_of f = record { scalars = scalar_bits f.variables.items f.params.items; arrays = map shape_of (host_memories f.memories.items); result = result_bits f.ret }

abbrev pub module_name : List ℕ → List ℕ
module_name name = codes "hls_" ++ name
