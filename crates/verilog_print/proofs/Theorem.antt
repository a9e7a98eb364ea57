-- The printed text of a valid circuit is a text of that circuit.
use Rattle.std.proofs.Common.{◌≡◌, ℕ, suc, ◌-◌, ◌^◌, ◌<◌, ◌≤◌, ◌∙◌, sym, refl, ap, subst, List, [], ◌∷◌, ◌++◌, map, arith}
use Rattle.std.specs.Prelude.{IsPermutation}
use Rattle.std.proofs.Math.Nat.{pow-le-pow_right}
use Rattle.std.specs.List.{All}
use Rattle.std.proofs.lemmas.Option.{slice_get_within}
use Rattle.std.proofs.lemmas.Nat.{pow_pos}
use Rattle.std.proofs.lemmas.List.Sorted.{IsPermutation-refl}
use Rattle.std.proofs.lemmas.List.Elements.{All-nil, All-cons, All-head, All-tail, All-weaker}
use Rattle.rtl_core.specs.declared.design.Pin.{Pin}
use Rattle.rtl_core.specs.declared.design.OutPin.{OutPin}
use Rattle.rtl_core.specs.declared.design.Reg.{Reg}
use Rattle.rtl_core.specs.Netlist.{Netlist, Memory}
use Rattle.rtl_core.specs.ClockStep.{widths}
use Rattle.rtl_core.specs.Interface.{outer}
use Rattle.rtl_core.specs.Valid.{IsName, IsIdentifier, IsBetween, pin_names, RegisterFits, OutputFits, IsValid}
use Rattle.rtl_core.specs.ModuleTokens.{number_value}
use Rattle.rtl_core.specs.ModuleSyntax.{Declared, Assign, syntax_tokens}
use Rattle.rtl_core.specs.ModuleText.{output_names, declared_pin, target, MemoryMeans, WireMeans, Means, IsModuleText}
use Rattle.verilog_print.specs.PrintedSyntax.{high_bit, numbered, input_of, output_of, register_of, memory_at, wire_of, assign_of, syntax_of}
use Rattle.verilog_print.specs.PrintedText.{module_text}
use Rattle.verilog_print.specs.PrintableNames.{HasPrintableNames}
use Rattle.verilog_print.proofs.Digits.{IsNumber-decimal, number_value-decimal}
use Rattle.verilog_print.proofs.Items.{CanDeclare, CanDeclareMemory, CanDeclareWire, CanPrint, spelled}
use Rattle.verilog_print.proofs.Lists.{All-left, All-right, All-place, numbered_all, in_order, map_map}
use Rattle.verilog_print.proofs.Fitting.{all_wires_there, MemoryIsThere, all_memories_there, WireIsThere}
use Rattle.verilog_print.proofs.Meaning.{AreCounted, printed_names, input_names, high_bit_means, wire_means, register_identifier, memory_identifier, can_declare_wire}
use Rattle.verilog_print.proofs.Scope.{output_names_are, all_are_names, all_distinct}
use Rattle.verilog_print.proofs.Assignments.{targets, assigns_mean, blocks_mean, can_write_assigns, can_write_blocks}

up_to_128 : (n : ℕ) → IsBetween 1 64 n → IsBetween 1 128 n
up_to_128 n h = (h.0, omega (arith, h.1))

-- ---- declarations

inputs_mean : (ps : List Pin) → All (λ (p : Pin). IsBetween 1 64 p.bits) ps → ps ≡ map declared_pin (map input_of ps)
inputs_mean [] h = refl
inputs_mean (p ∷ ps) h =
    let bits = high_bit_means p.bits (up_to_128 p.bits (All-head (λ (p : Pin). IsBetween 1 64 p.bits) p ps h)) in
    ap (λ (n : ℕ). record { name = p.name; bits = n } ∷ ps) bits
    ∙ ap (λ qs. declared_pin (input_of p) ∷ qs) (inputs_mean ps (All-tail (λ (p : Pin). IsBetween 1 64 p.bits) p ps h))

outputs_mean : (os : List OutPin) → All (λ (o : OutPin). IsBetween 1 64 o.bits) os → map outer os ≡ map declared_pin (map output_of os)
outputs_mean [] h = refl
outputs_mean (o ∷ os) h =
    let bits = high_bit_means o.bits (up_to_128 o.bits (All-head (λ (o : OutPin). IsBetween 1 64 o.bits) o os h)) in
    ap (λ (n : ℕ). record { name = o.name; bits = n } ∷ map outer os) bits
    ∙ ap (λ qs. declared_pin (output_of o) ∷ qs) (outputs_mean os (All-tail (λ (o : OutPin). IsBetween 1 64 o.bits) o os h))

registers_mean : (j : ℕ) (rs : List Reg) → All (λ (r : Reg). IsBetween 1 64 r.bits) rs → map (λ (r : Reg). r.bits) rs ≡ map (λ (x : Declared). suc (number_value x.high)) (numbered register_of j rs)
registers_mean j [] h = refl
registers_mean j (r ∷ rs) h =
    let bits = high_bit_means r.bits (up_to_128 r.bits (All-head (λ (r : Reg). IsBetween 1 64 r.bits) r rs h)) in
    ap (λ n. n ∷ map (λ (r : Reg). r.bits) rs) bits
    ∙ ap (λ ns. suc (number_value (high_bit r.bits)) ∷ ns) (registers_mean (suc j) rs (All-tail (λ (r : Reg). IsBetween 1 64 r.bits) r rs h))

deep : (n : ℕ) → n ≤ 16 → 2 ^ n ≤ 65536
deep n h = let two : 0 < 2 = omega arith in pow-le-pow_right two h

memory_means : (d : Netlist) (k : ℕ) (m : Memory) → MemoryIsThere d m → MemoryMeans (memory_at k m) m
memory_means d k m h = record {
  bits = high_bit_means m.bits (up_to_128 m.bits h.bits);
  depth = omega (arith, number_value-decimal (2 ^ m.depth_log - 1) (omega (arith, deep m.depth_log h.depth.1)), pow_pos m.depth_log);
}

module _ (d : Netlist) (v : IsValid d) (free : HasPrintableNames d) (counted : AreCounted d) where
  input_bits : All (λ (p : Pin). IsBetween 1 64 p.bits) d.inputs
  input_bits = v.inputs

  output_bits : All (λ (o : OutPin). IsBetween 1 64 o.bits) d.outputs
  output_bits = All-weaker (OutputFits (widths d)) (λ (o : OutPin). IsBetween 1 64 o.bits) (λ o h. h.bits) d.outputs v.outputs

  register_bits : All (λ (r : Reg). IsBetween 1 64 r.bits) d.regs
  register_bits = All-weaker (RegisterFits (widths d)) (λ (r : Reg). IsBetween 1 64 r.bits) (λ r h. h.bits) d.regs v.regs

  assigned_names : map (λ (x : Assign). x.name) (map (assign_of d.inputs) d.outputs) ≡ output_names (syntax_of d)
  assigned_names = map_map (λ (x : Assign). x.name) (assign_of d.inputs) (λ (o : OutPin). o.name) (λ o. refl) d.outputs ∙ sym (output_names_are d)

  printed_means : Means (syntax_of d) d
  printed_means = record {
    name = refl;
    header = ap (λ xs. xs ++ map (λ (o : OutPin). o.name) d.outputs) (sym (input_names d)) ∙ ap (λ xs. (printed_names d).inputs ++ xs) (sym (output_names_are d));
    names = all_are_names d v free counted;
    distinct = all_distinct d v free counted;
    inputs = inputs_mean d.inputs input_bits;
    outputs = outputs_mean d.outputs output_bits;
    regs = registers_mean 0 d.regs register_bits;
    mems = in_order MemoryMeans (MemoryIsThere d) memory_at (memory_means d) 0 d.mems (all_memories_there d v);
    wires = in_order (WireMeans (printed_names d)) (WireIsThere d) (wire_of d.inputs) (wire_means d) 0 d.wires (all_wires_there d v);
    assigned_once = subst (IsPermutation (map (λ (x : Assign). x.name) (syntax_of d).assigns)) assigned_names (IsPermutation-refl (map (λ (x : Assign). x.name) (syntax_of d).assigns));
    assigns = assigns_mean d v;
    driven_once = subst (IsPermutation (map target (syntax_of d).blocks)) (targets d v) (IsPermutation-refl (map target (syntax_of d).blocks));
    blocks = blocks_mean d v;
  }

  names_identified : (names : List (List ℕ)) → All IsName names → All IsIdentifier names
  names_identified names h = All-weaker IsName IsIdentifier (λ name h. h.identifier) names h

  input_declared : (ps : List Pin) → All (λ (p : Pin). IsBetween 1 64 p.bits) ps → All IsName (map (λ (p : Pin). p.name) ps) → All CanDeclare (map input_of ps)
  input_declared [] h n = All-nil CanDeclare
  input_declared (p ∷ ps) h n =
      let bits = All-head (λ (p : Pin). IsBetween 1 64 p.bits) p ps h in
      let name = All-head IsName p.name (map (λ (p : Pin). p.name) ps) n in
      All-cons CanDeclare (input_of p) (map input_of ps) (IsNumber-decimal (p.bits - 1) (omega (arith, bits.1)), name.identifier)
      (input_declared ps (All-tail (λ (p : Pin). IsBetween 1 64 p.bits) p ps h) (All-tail IsName p.name (map (λ (p : Pin). p.name) ps) n))

  output_declared : (os : List OutPin) → All (λ (o : OutPin). IsBetween 1 64 o.bits) os → All IsName (map (λ (o : OutPin). o.name) os) → All CanDeclare (map output_of os)
  output_declared [] h n = All-nil CanDeclare
  output_declared (o ∷ os) h n =
      let bits = All-head (λ (o : OutPin). IsBetween 1 64 o.bits) o os h in
      let name = All-head IsName o.name (map (λ (o : OutPin). o.name) os) n in
      All-cons CanDeclare (output_of o) (map output_of os) (IsNumber-decimal (o.bits - 1) (omega (arith, bits.1)), name.identifier)
      (output_declared os (All-tail (λ (o : OutPin). IsBetween 1 64 o.bits) o os h) (All-tail IsName o.name (map (λ (o : OutPin). o.name) os) n))

  can_print : CanPrint (syntax_of d)
  can_print = record {
    name = v.name.identifier;
    header = names_identified (pin_names d) v.names;
    inputs = input_declared d.inputs input_bits (All-left IsName (map (λ (p : Pin). p.name) d.inputs) (map (λ (o : OutPin). o.name) d.outputs) v.names);
    outputs = output_declared d.outputs output_bits (All-right IsName (map (λ (p : Pin). p.name) d.inputs) (map (λ (o : OutPin). o.name) d.outputs) v.names);
    regs =
        numbered_all CanDeclare register_of d.regs
        (λ k r found.
        let bits = All-place (λ (r : Reg). IsBetween 1 64 r.bits) d.regs k r register_bits found in
        (IsNumber-decimal (r.bits - 1) (omega (arith, bits.1)), register_identifier k (omega (arith, slice_get_within d.regs k r found, counted.regs))));
    mems =
        numbered_all CanDeclareMemory memory_at d.mems
        (λ k m found.
        let there = All-place (MemoryIsThere d) d.mems k m (all_memories_there d v) found in (
          IsNumber-decimal (m.bits - 1) (omega (arith, there.bits.1)),
          memory_identifier k (omega (arith, slice_get_within d.mems k m found, counted.mems)),
          IsNumber-decimal (2 ^ m.depth_log - 1) (omega (arith, deep m.depth_log there.depth.1)),
        ));
    wires =
        numbered_all CanDeclareWire (wire_of d.inputs) d.wires
        (λ k w found. can_declare_wire d v counted k w (slice_get_within d.wires k w found) (All-place (WireIsThere d) d.wires k w (all_wires_there d v) found));
    assigns = can_write_assigns d v counted;
    blocks = can_write_blocks d v counted;
  }

  pub printed_is_module_text : IsModuleText (module_text d) d
  printed_is_module_text = record {
    tokens = syntax_tokens (syntax_of d);
    syntax = syntax_of d;
    spelled = spelled (syntax_of d) can_print;
    derived = refl;
    means = printed_means;
    valid = v;
  }
