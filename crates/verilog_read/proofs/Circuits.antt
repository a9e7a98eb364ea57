-- The elements of the circuit of a module, by place.
use Rattle.std.proofs.Common.{◌≡◌, ℕ, zero, suc, ◌+◌, ◌<◌, List, [], ◌∷◌, length, map, Option, Some, None, refl, ap, ◌∙◌, arith}
use Rattle.std.specs.Prelude.{slice_get, unwrap_or}
use Rattle.std.specs.Option.{option_map_or}
use Rattle.std.proofs.lemmas.Option.{none-some, same_Some}
use Rattle.rtl_core.specs.declared.design.Pin.{Pin}
use Rattle.rtl_core.specs.declared.design.OutPin.{OutPin}
use Rattle.rtl_core.specs.declared.design.Reg.{Reg}
use Rattle.rtl_core.specs.declared.design.Wire.{Wire}
use Rattle.rtl_core.specs.Netlist.{Memory}
use Rattle.rtl_core.specs.ClockStep.{widths_after}
use Rattle.verilog_read.specs.Numbers.{declared_bits, depth_of}
use Rattle.verilog_syntax.specs.PlacedSyntax.{PlacedDeclared, PlacedMemory, PlacedWire, PlacedAssign, Drive, register, first, further, PlacedModule}
use Rattle.verilog_read.specs.Scope.{Scope, scope_of}
use Rattle.verilog_read.specs.Faults.{Slots, slot}
use Rattle.verilog_read.specs.Circuit.{nothing, input_of, wire_of, source, outputs_from, register_from, register_by, regs_from, ports_by, mems_from, circuit_of}
use Rattle.verilog_syntax.proofs.Places.{get_map}
use Rattle.verilog_read.proofs.Operands.{Wide}

abbrev pub output_from : Scope → List PlacedAssign → Option ℕ → PlacedDeclared → OutPin
output_from scope assigns by x = record { name = x.name.text; bits = declared_bits x.high; from = source scope assigns by }

abbrev pub memory_from : Scope → List Drive → Option ℕ → PlacedMemory → Memory
memory_from scope drives by x = record { bits = declared_bits x.high; depth_log = unwrap_or (depth_of x.last) 0; ports = ports_by scope drives by }

pub outputs_at : (scope : Scope) (assigns : List PlacedAssign) (slots : Slots) (j : ℕ) (xs : List PlacedDeclared) (k : ℕ) (x : PlacedDeclared) → slice_get xs k ≡ Some x
    → slice_get (outputs_from scope assigns slots j xs) k ≡ Some (output_from scope assigns (slot slots (j + k)) x)
outputs_at scope assigns slots j [] k x e = absurd (none-some x e)
outputs_at scope assigns slots j (y ∷ ys) zero x e =
    let sum : j ≡ j + 0 = omega arith in
    ap (λ z. Some (output_from scope assigns (slot slots j) z)) (same_Some y x e) ∙ ap (λ n. Some (output_from scope assigns (slot slots n) x)) sum
outputs_at scope assigns slots j (y ∷ ys) (suc k) x e =
    let sum : j + 1 + k ≡ j + suc k = omega arith in
    outputs_at scope assigns slots (j + 1) ys k x e ∙ ap (λ n. Some (output_from scope assigns (slot slots n) x)) sum

pub regs_at : (scope : Scope) (drives : List Drive) (slots : Slots) (j : ℕ) (xs : List PlacedDeclared) (k : ℕ) (x : PlacedDeclared) → slice_get xs k ≡ Some x
    → slice_get (regs_from scope drives slots j xs) k ≡ Some (register_by scope drives (declared_bits x.high) (slot slots (j + k)))
regs_at scope drives slots j [] k x e = absurd (none-some x e)
regs_at scope drives slots j (y ∷ ys) zero x e =
    let sum : j ≡ j + 0 = omega arith in
    ap (λ (z : PlacedDeclared). Some (register_by scope drives (declared_bits z.high) (slot slots j))) (same_Some y x e) ∙ ap (λ n. Some (register_by scope drives (declared_bits x.high) (slot slots n))) sum
regs_at scope drives slots j (y ∷ ys) (suc k) x e =
    let sum : j + 1 + k ≡ j + suc k = omega arith in
    regs_at scope drives slots (j + 1) ys k x e ∙ ap (λ n. Some (register_by scope drives (declared_bits x.high) (slot slots n))) sum

pub mems_at : (scope : Scope) (drives : List Drive) (slots : Slots) (j : ℕ) (xs : List PlacedMemory) (k : ℕ) (x : PlacedMemory) → slice_get xs k ≡ Some x
    → slice_get (mems_from scope drives slots j xs) k ≡ Some (memory_from scope drives (slot slots (j + k)) x)
mems_at scope drives slots j [] k x e = absurd (none-some x e)
mems_at scope drives slots j (y ∷ ys) zero x e =
    let sum : j ≡ j + 0 = omega arith in
    ap (λ z. Some (memory_from scope drives (slot slots j) z)) (same_Some y x e) ∙ ap (λ n. Some (memory_from scope drives (slot slots n) x)) sum
mems_at scope drives slots j (y ∷ ys) (suc k) x e =
    let sum : j + 1 + k ≡ j + suc k = omega arith in
    mems_at scope drives slots (j + 1) ys k x e ∙ ap (λ n. Some (memory_from scope drives (slot slots n) x)) sum

pub outputs_long : (scope : Scope) (assigns : List PlacedAssign) (slots : Slots) (j : ℕ) (xs : List PlacedDeclared) → length (outputs_from scope assigns slots j xs) ≡ length xs
outputs_long scope assigns slots j [] = refl
outputs_long scope assigns slots j (x ∷ xs) = ap suc (outputs_long scope assigns slots (j + 1) xs)

pub regs_long : (scope : Scope) (drives : List Drive) (slots : Slots) (j : ℕ) (xs : List PlacedDeclared) → length (regs_from scope drives slots j xs) ≡ length xs
regs_long scope drives slots j [] = refl
regs_long scope drives slots j (x ∷ xs) = ap suc (regs_long scope drives slots (j + 1) xs)

pub mems_long : (scope : Scope) (drives : List Drive) (slots : Slots) (j : ℕ) (xs : List PlacedMemory) → length (mems_from scope drives slots j xs) ≡ length xs
mems_long scope drives slots j [] = refl
mems_long scope drives slots j (x ∷ xs) = ap suc (mems_long scope drives slots (j + 1) xs)

-- a register has its declared width, however it is set
from_bits : (scope : Scope) (bits : ℕ) (d : Drive) → (register_from scope bits d).bits ≡ bits
from_bits scope bits (register enable name next) = refl
from_bits scope bits (first x) = refl
from_bits scope bits (further x) = refl

found_bits : (scope : Scope) (bits : ℕ) (o : Option Drive) → (option_map_or (register_from scope bits) o (record { bits = bits; enable = nothing; next = nothing })).bits ≡ bits
found_bits scope bits None = refl
found_bits scope bits (Some d) = from_bits scope bits d

pub by_bits : (scope : Scope) (drives : List Drive) (bits : ℕ) (o : Option ℕ) → (register_by scope drives bits o).bits ≡ bits
by_bits scope drives bits None = refl
by_bits scope drives bits (Some i) = found_bits scope bits (slice_get drives i)

-- ---- the widths of the circuit

pub wide_here : (m : PlacedModule) (j : ℕ) (before : List Wire) → ((k : ℕ) (x : PlacedWire) → k < j → slice_get m.wires k ≡ Some x → slice_get before k ≡ Some (wire_of (scope_of m) x))
    → Wide m j (widths_after (circuit_of m) before)
wide_here m j before h = record {
  inputs = λ k x e. get_map (λ (p : Pin). p.bits) (map input_of m.inputs) k (input_of x) (get_map input_of m.inputs k x e);
  regs = λ k x e.
      let d = circuit_of m in
      get_map (λ (r : Reg). r.bits) d.regs k _ (regs_at (scope_of m) m.drives _ 0 m.regs k x e) ∙ ap Some (by_bits (scope_of m) m.drives (declared_bits x.high) _);
  wires = λ k x low e. get_map (λ (w : Wire). w.bits) before k (wire_of (scope_of m) x) (h k x low e);
}
