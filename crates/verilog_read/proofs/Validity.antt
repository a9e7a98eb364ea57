-- The circuit of a module without a fault is valid.
use Rattle.std.proofs.Common.{◌≡◌, ℕ, suc, ◌+◌, ◌<◌, false, true, List, [], ◌∷◌, ◌++◌, length, map, take, drop, Some, None, append_assoc, append-nil, refl, sym, ap, ◌∙◌, subst, arith}
use Rattle.std.specs.Prelude.{slice_get}
use Rattle.std.specs.List.{All}
use Rattle.std.proofs.lemmas.Option.{none-some, same_Some, slice_get_within}
use Rattle.std.proofs.lemmas.List.{map-append}
use Rattle.std.proofs.lemmas.List.Elements.{All-cons, All-map, All-append}
use Rattle.rtl_core.specs.declared.design.Pin.{Pin}
use Rattle.rtl_core.specs.declared.design.OutPin.{OutPin}
use Rattle.rtl_core.specs.declared.design.Reg.{Reg}
use Rattle.rtl_core.specs.declared.design.Port.{Port}
use Rattle.rtl_core.specs.declared.design.Wire.{Wire}
use Rattle.rtl_core.specs.Netlist.{Netlist, Memory}
use Rattle.rtl_core.specs.ClockStep.{widths, widths_after}
use Rattle.rtl_core.specs.Valid.{IsName, AreDistinct, pin_names, IsBetween, HasBits, NetFits, WiresFit, RegisterFits, PortFits, MemoryFits, OutputFits, IsValid}
use Rattle.rtl_core.specs.ModuleText.{declared_name}
use Rattle.verilog_read.specs.declared.names.Sort.TheVariants as sort
use Rattle.verilog_read.specs.declared.names.Entry.{Entry}
use Rattle.verilog_read.specs.Numbers.{declared_bits}
use Rattle.verilog_syntax.specs.PlacedSyntax.{PlacedDeclared, PlacedAssign, Drive, register, first, further, PlacedModule}
use Rattle.verilog_read.specs.Scope.{Scope, Declaration, atom_in, pins, declared_from, memories_from, wires_from, scope_of}
use Rattle.verilog_syntax.specs.Marks.{in_blocks}
use Rattle.verilog_syntax.specs.Parsing.{IsNamed}
use Rattle.verilog_read.specs.Faults.{Slots, output_slots, driven}
use Rattle.verilog_read.specs.Circuit.{wire_of, input_of, outputs_from, port_of, further_ports, circuit_of}
use Rattle.verilog_syntax.proofs.Places.{by_places, get_map, get_back, one_at, some_place}
use Rattle.verilog_syntax.proofs.Unplaced.{declared_plain}
use Rattle.verilog_read.proofs.Declared.{names_of, declared_apart, input_allowed, output_allowed, register_allowed, wire_allowed}
use Rattle.verilog_read.proofs.Distinct.{distinct_left}
use Rattle.verilog_read.proofs.Operands.{Wide, fits_bits}
use Rattle.verilog_read.proofs.SizedConstants.{IsSizedModule}
use Rattle.verilog_read.proofs.Slots.{register_target}
use Rattle.verilog_read.proofs.Clean.{Clean, pin_between, input_between, output_between, register_between, pin_names_are}
use Rattle.verilog_read.proofs.Circuits.{outputs_long, regs_long, mems_long, wide_here}
use Rattle.verilog_read.proofs.Blocks.{register_right, block_right, has_block, has_edge, port_fits, furthers_fit}
use Rattle.verilog_read.proofs.Meaning.{map_twice, memory_here, wire_right, output_shown}

-- wires that fit one after another
wires_fit : (d : Netlist) (before ws : List Wire)
    → ((k : ℕ) (w : Wire) → slice_get ws k ≡ Some w → IsBetween 1 128 w.bits × NetFits (widths_after d (before ++ take k ws)) d.mems w.bits w.net) → WiresFit d before ws
wires_fit d before [] h = tt
wires_fit d before (w ∷ ws) h =
    let one = h 0 w refl in (
      one.0,
      subst (λ b. NetFits (widths_after d b) d.mems w.bits w.net) (append-nil before) one.1,
      wires_fit d (before ++ w ∷ []) ws (λ k v e. let r = h (suc k) v e in (r.0, subst (λ b. NetFits (widths_after d b) d.mems v.bits v.net) (sym (append_assoc before (w ∷ []) (take k ws))) r.1)),
    )

output_pins_are : (scope : Scope) (assigns : List PlacedAssign) (slots : Slots) (j : ℕ) (xs : List PlacedDeclared) → map (λ (o : OutPin). o.name) (outputs_from scope assigns slots j xs) ≡ map (λ (x : PlacedDeclared). x.name.text) xs
output_pins_are scope assigns slots j [] = refl
output_pins_are scope assigns slots j (x ∷ xs) = ap (λ ns. x.name.text ∷ ns) (output_pins_are scope assigns slots (j + 1) xs)

plain_names : (xs : List PlacedDeclared) → map declared_name (map declared_plain xs) ≡ map (λ (x : PlacedDeclared). x.name.text) xs
plain_names xs = map_twice declared_name declared_plain xs

module _ (m : PlacedModule) (named : IsNamed m) (blocks : in_blocks false m.drives ≡ true) (sized : IsSizedModule m) (c : Clean m) where
  pins_are : pin_names (circuit_of m) ≡ names_of (pins m)
  pins_are =
      let scope = scope_of m in
      ap (λ ns. ns ++ map (λ (o : OutPin). o.name) (circuit_of m).outputs) (map_twice (λ (p : Pin). p.name) input_of m.inputs)
      ∙ (ap (λ ns. map (λ (x : PlacedDeclared). x.name.text) m.inputs ++ ns) (output_pins_are scope m.assigns (output_slots scope m) 0 m.outputs)
      ∙ (ap (λ ns. ns ++ map (λ (x : PlacedDeclared). x.name.text) m.outputs) (sym (plain_names m.inputs))
      ∙ (ap (λ ns. map declared_name (map declared_plain m.inputs) ++ ns) (sym (plain_names m.outputs)) ∙ sym (pin_names_are m))))

  pins_apart : AreDistinct (pin_names (circuit_of m))
  pins_apart =
      let rest = declared_from sort.Register 0 m.regs ++ (memories_from 0 m.mems ++ wires_from 0 m.wires) in
      subst AreDistinct (sym pins_are)
      (distinct_left (names_of (pins m)) (names_of rest) (subst AreDistinct (map-append (λ (d : Declaration). d.name.text) (pins m) rest) (declared_apart m c.declared)))

  pins_named : All IsName (pin_names (circuit_of m))
  pins_named =
      All-append IsName (map (λ (p : Pin). p.name) (circuit_of m).inputs) _ (All-map IsName (λ (p : Pin). p.name) (map input_of m.inputs) (All-map (λ (p : Pin). IsName p.name) input_of m.inputs named.inputs))
      (subst (All IsName) (sym (output_pins_are (scope_of m) m.assigns (output_slots (scope_of m) m) 0 m.outputs)) (All-map IsName (λ (x : PlacedDeclared). x.name.text) m.outputs named.outputs))

  wide_all : Wide m (length m.wires) (widths (circuit_of m))
  wide_all = wide_here m (length m.wires) (circuit_of m).wires (λ k x low e. get_map (wire_of (scope_of m)) m.wires k x e)

  wires_valid : WiresFit (circuit_of m) [] (circuit_of m).wires
  wires_valid =
      wires_fit (circuit_of m) [] (circuit_of m).wires
      (λ k w e.
      let b = get_back (wire_of (scope_of m)) m.wires k w e in
      let wide = pin_between sort.Wire (declared_bits b.0.high) None (wire_allowed m c.declared k b.0 b.1) in
      subst (λ v. IsBetween 1 128 v.bits × NetFits (widths_after (circuit_of m) (take k (circuit_of m).wires)) (circuit_of m).mems v.bits v.net) b.2 (wide, (wire_right m named blocks sized c k b.0 b.1).1))

  register_valid : (k : ℕ) (r : Reg) → slice_get (circuit_of m).regs k ≡ Some r → RegisterFits (widths (circuit_of m)) r
  register_valid k r e =
      let x = register_place k (slice_get_within (circuit_of m).regs k r e) in
      let y = has_edge m c sized (memory_here m named blocks sized c) k x.0 x.1 in
      by_edge y.0 y.1 y.2 y.3 y.4 y.5
    where
      register_place : (k : ℕ) → k < length (circuit_of m).regs → (x : PlacedDeclared) × (slice_get m.regs k ≡ Some x)
      register_place k low = some_place m.regs k (omega (arith, low, regs_long (scope_of m) m.drives (driven (scope_of m) m).regs 0 m.regs))

      by_edge : (j : ℕ) (d : Drive) (f : Entry) → slice_get m.drives j ≡ Some d → register_target (scope_of m) d ≡ Some f → f.number ≡ k → RegisterFits (widths (circuit_of m)) r
      by_edge j (register enable name next) f at target number =
          let g = register_right m c sized (memory_here m named blocks sized c) j enable name next at in
          let same : g.entry ≡ f = same_Some g.entry f (sym g.at ∙ target) in
          let place : g.entry.number ≡ k = ap (λ (h : Entry). h.number) same ∙ number in
          let is = one_at (circuit_of m).regs k _ r (ap (slice_get (circuit_of m).regs) (sym place) ∙ g.found) e in
          let wide = register_between (declared_bits g.is.x.high) None (register_allowed m c.declared g.entry.number g.is.x g.is.found) in
          subst (RegisterFits (widths (circuit_of m))) is (record {
            bits = wide;
            enable = fits_bits m enable.operand (length m.wires) 1 (widths (circuit_of m)) g.enable_fits wide_all;
            next = subst (λ n. HasBits (widths (circuit_of m)) n (atom_in (scope_of m) next.operand)) g.is.bits
                (fits_bits m next.operand (length m.wires) g.entry.bits (widths (circuit_of m)) g.next_fits wide_all);
          })
      by_edge j (first y) f at target number = absurd (none-some f target)
      by_edge j (further y) f at target number = absurd (none-some f target)

  memory_valid : (k : ℕ) (h : Memory) → slice_get (circuit_of m).mems k ≡ Some h → MemoryFits (widths (circuit_of m)) h
  memory_valid k h e =
      let here = memory_here m named blocks sized c in
      let x = some_place m.mems k
      (omega (arith, slice_get_within (circuit_of m).mems k h e, mems_long (scope_of m) m.drives (driven (scope_of m) m).blocks 0 m.mems)) in
      let y = has_block m c sized here blocks k x.0 x.1 in
      let b = block_right m c sized here y.0 y.1 y.2 in
      let same : b.entry ≡ y.3.0 = same_Some b.entry y.3.0 (sym b.at ∙ y.3.1) in
      let place : b.entry.number ≡ k = ap (λ (f : Entry). f.number) same ∙ y.3.2 in
      let ports : List Port = port_of (scope_of m) y.1 ∷ further_ports (scope_of m) (drop (suc y.0) m.drives) in
      let made : Memory = record { bits = declared_bits b.is.x.high; depth_log = b.log; ports = ports } in
      let is : made ≡ h = one_at (circuit_of m).mems k made h (ap (slice_get (circuit_of m).mems) (sym place) ∙ b.found) e in
      let a = here b.entry.number b.is.x b.is.found in
      let log : a.log ≡ b.log = same_Some a.log b.log (sym a.is ∙ (sym b.is.depth ∙ b.depth)) in
      let w = widths (circuit_of m) in
      subst (MemoryFits w) is (record {
        bits = a.bits;
        depth = subst (IsBetween 1 16) log a.between;
        some = omega arith;
        ports = All-cons (PortFits w made) (port_of (scope_of m) y.1) (further_ports (scope_of m) (drop (suc y.0) m.drives)) (port_fits m b.entry y.1 w made wide_all b.depth (sym b.is.bits) b.first_port)
            (furthers_fit m y.1.memory.text b.entry (drop (suc y.0) m.drives) w made wide_all b.depth (sym b.is.bits) b.others);
      })

  output_valid : (k : ℕ) (o : OutPin) → slice_get (circuit_of m).outputs k ≡ Some o → OutputFits (widths (circuit_of m)) o
  output_valid k o e =
      let x = some_place m.outputs k
      (omega (arith, slice_get_within (circuit_of m).outputs k o e, outputs_long (scope_of m) m.assigns (output_slots (scope_of m) m) 0 m.outputs)) in
      let r = output_shown m named blocks sized c k x.0 x.1 in
      let is = one_at (circuit_of m).outputs k _ o r.2 e in
      subst (OutputFits (widths (circuit_of m))) is
      (record { bits = output_between (declared_bits x.0.high) None (output_allowed m c.declared k x.0 x.1); from = fits_bits m r.0.from.operand (length m.wires) (declared_bits x.0.high) (widths (circuit_of m)) r.1 wide_all })

  pub valid : IsValid (circuit_of m)
  valid = record {
    name = named.name;
    names = pins_named;
    distinct = pins_apart;
    inputs = All-map (λ (p : Pin). IsBetween 1 64 p.bits) input_of m.inputs (by_places (λ x. IsBetween 1 64 (declared_bits x.high)) m.inputs (λ k x e. input_between (declared_bits x.high) None (input_allowed m c.declared k x e)));
    wires = wires_valid;
    regs = by_places (RegisterFits (widths (circuit_of m))) (circuit_of m).regs register_valid;
    mems = by_places (MemoryFits (widths (circuit_of m))) (circuit_of m).mems memory_valid;
    outputs = by_places (OutputFits (widths (circuit_of m))) (circuit_of m).outputs output_valid;
  }
