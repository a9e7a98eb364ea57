-- The pins of a plan are those of its program's frame.
use Rattle.std.proofs.Common.{◌≡◌, ℕ, Bool, true, false, List, [], ◌∷◌, map, refl, sym, ap}
use Rattle.std.specs.Prelude.{filter, if◌then◌else◌}
use Rattle.ir_core.specs.declared.cfg.Cfg.{Cfg}
use Rattle.ir_core.specs.declared.cfg.Memory.{Memory}
use Rattle.ir_core.specs.declared.timed.Timed.{Timed}
use Rattle.reg_binding.specs.declared.live.Live.{Live}
use Rattle.reg_binding.specs.declared.registers.Registers.{Registers}
use Rattle.rtl_core.specs.Interface.{ArrayShape, input_pins}
use Rattle.rtl_core.specs.FramePins.{shape_of, host_memories, scalar_bits, result_bits, interface_of}
use Rattle.datapath.specs.Plans.{Array, array_of, interface}
use Rattle.datapath.specs.CircuitWires.Carrying.{IsBegun}
use Rattle.fsm_datapath.specs.Making.{begun_with, plan_in}

shapes_are : (memories : List Memory) → map (λ (a : Array). record { bits = a.bits; dims = a.dims }) (filter (λ (a : Array). a.host) (map array_of memories)) ≡ map shape_of (host_memories memories)
shapes_are [] = refl
shapes_are (m ∷ memories) = by m.host (shapes_are memories) where
  by : (b : Bool) → map (λ (a : Array). record { bits = a.bits; dims = a.dims }) (filter (λ (a : Array). a.host) (map array_of memories)) ≡ map shape_of (host_memories memories)
      → map (λ (a : Array). record { bits = a.bits; dims = a.dims }) (if b then array_of m ∷ filter (λ (a : Array). a.host) (map array_of memories) else filter (λ (a : Array). a.host) (map array_of memories))
      ≡ map shape_of (if b then m ∷ host_memories memories else host_memories memories)
  by true rest = ap (λ l. shape_of m ∷ l) rest
  by false rest = rest

pub interface_is : (cfg : Cfg Timed) (registers : Registers) (live : Live) → interface (plan_in cfg registers live) ≡ interface_of cfg.frame
interface_is cfg registers live =
    ap (λ (arrays : List ArrayShape). record { scalars = scalar_bits cfg.frame.variables.items cfg.frame.params.items; arrays = arrays; result = result_bits cfg.frame.ret }) (shapes_are cfg.frame.memories.items)

-- a circuit with nothing but the inputs is one of the plan
pub begun_is : (cfg : Cfg Timed) (registers : Registers) (live : Live) (name : List ℕ) → IsBegun (plan_in cfg registers live) [] (begun_with name (interface_of cfg.frame))
begun_is cfg registers live name = record { named = refl; pins = ap input_pins (sym (interface_is cfg registers live)); sound = tt }
