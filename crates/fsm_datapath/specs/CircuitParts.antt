-- A circuit whose parts are all there is the circuit of its plan.
use Rattle.std.specs.Prelude.{◌≡◌, ℕ, ◌<◌, nat_lt, true, List, map, filter, length, slice_get, Some, None, is_none}
use Rattle.hls_base.specs.declared.number.ArrayId.{ArrayId}
use Rattle.ir_core.specs.declared.body.OpKind.TheVariants as o
use Rattle.rtl_core.specs.Netlist.{Netlist, Memory}
use Rattle.clock_ir.specs.Flows.{TimedOp}
use Rattle.datapath.specs.Plans.{Plan, Array, body_at, host_arrays}
use Rattle.datapath.specs.Cycles.{Register}
use Rattle.datapath.specs.Netlists.{IsCircuitOf}
use Rattle.circuit_context.specs.Wanted.Driving.{Seen, IsAssembled}

-- The arrays that the host reaches come first and are no tables, and stores name arrays that there are.
pub record HasSoundArrays (p : Plan) : Type 0 where
  pub hosts_first : (a : ℕ) (array : Array) → slice_get p.arrays a ≡ Some array → array.host ≡ nat_lt a (length (host_arrays p))
  pub hosts : (a : ℕ) (array : Array) → slice_get p.arrays a ≡ Some array → array.host ≡ true → array.table ≡ None
  pub stores : (i k : ℕ) (it : TimedOp) → slice_get (body_at p i).ops k ≡ Some it → it.op.kind ≡ o.Store → (array : ArrayId) × ((it.op.array ≡ Some array) × (array.0 < length p.arrays))

abbrev pub AssembledIsCircuit : Type 0
AssembledIsCircuit = (p : Plan) (names : List Register) (sigs : List Seen) (d : Netlist) → HasSoundArrays p → IsAssembled p names sigs d → IsCircuitOf p d

abbrev pub AssembledHasMemories : Type 0
AssembledHasMemories = (p : Plan) (names : List Register) (sigs : List Seen) (d : Netlist) → IsAssembled p names sigs d
    → map (λ (m : Memory). m.bits) d.mems ≡ map (λ (a : Array). a.bits) (filter (λ (a : Array). is_none a.table) p.arrays)
