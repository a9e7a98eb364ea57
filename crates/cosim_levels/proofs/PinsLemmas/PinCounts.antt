-- The inputs of a module with the pins of a function.
use Rattle.std.proofs.Common.{◌≡◌, ℕ, zero, suc, ◌+◌, List, [], ◌∷◌, map, length, refl, ap, ◌∙◌, arith}
use Rattle.rtl_core.specs.declared.design.Pin.{Pin}
use Rattle.rtl_core.specs.Netlist.{Netlist}
use Rattle.rtl_core.specs.Interface.{HasPins, Interface, argument_pins, input_pins}
use Rattle.cosim_levels.specs.Pins.Host.{Driven, waited, HasHostInputs}

arguments_count : (k : ℕ) (scalars : List ℕ) → length (argument_pins k scalars) ≡ length scalars
arguments_count k [] = refl
arguments_count k (bits ∷ scalars) = ap suc (arguments_count (suc k) scalars)

pub inputs_count : (d : Netlist) (i : Interface) → HasPins d i → length d.inputs ≡ 7 + length i.scalars
inputs_count d i h = ap length h.inputs ∙ (let e : length (input_pins i) ≡ 7 + length i.scalars = omega (arith, arguments_count 0 i.scalars) in e)

pub host_inputs : (d : Netlist) (i : Interface) → HasPins d i → HasHostInputs d
host_inputs d i h = record { arguments = map (λ (p : Pin). p.bits) (argument_pins 0 i.scalars); widths = ap (map (λ (p : Pin). p.bits)) h.inputs }

pub netlist-waited : (s : Driven) (k : ℕ) → (waited s k).netlist ≡ s.netlist
netlist-waited s zero = refl
netlist-waited s (suc k) = netlist-waited s k
