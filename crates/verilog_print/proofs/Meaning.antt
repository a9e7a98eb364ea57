-- What the printed operands and expressions mean, and that they can be written.
use Rattle.std.proofs.Common.{◌≡◌, inl, inr, ℕ, suc, ◌+◌, ◌-◌, ◌^◌, ◌<◌, ◌∙◌, sym, refl, ap, [], map, length, Some, arith}
use Rattle.std.specs.Prelude.{slice_get}
use Rattle.std.specs.Fmt.{decimal}
use Rattle.std.proofs.lemmas.Option.{slice_get-get_or}
use Rattle.std.proofs.lemmas.List.{length-map}
use Rattle.std.proofs.lemmas.List.Elements.{All-get_or}
use Rattle.rtl_core.specs.declared.design.Pin.{Pin}
use Rattle.rtl_core.specs.declared.design.OutPin.{OutPin}
use Rattle.rtl_core.specs.declared.design.Atom.{Atom}
use Rattle.rtl_core.specs.declared.design.Atom.TheVariants as atom
use Rattle.rtl_core.specs.declared.design.Net.{Net}
use Rattle.rtl_core.specs.declared.design.Net.TheVariants as net
use Rattle.rtl_core.specs.declared.design.Wire.{Wire}
use Rattle.rtl_core.specs.Netlist.{Netlist}
use Rattle.rtl_core.specs.Valid.{IsName, IsIdentifier, IsBetween, IsConstant, IsValid}
use Rattle.rtl_core.specs.ModuleTokens.{number_value}
use Rattle.rtl_core.specs.ModuleSyntax.{Named, DeclaredMemory, DeclaredWire}
use Rattle.rtl_core.specs.ModuleText.{Names, names_in, declared_name, OperandMeans, ExpressionMeans, WireMeans}
use Rattle.verilog_print.specs.PrintedSyntax.{register_name, memory_name, wire_name, high_bit, name_at, operand_of, name_of, expression_of, input_of, register_of, memory_at, wire_of, syntax_of}
use Rattle.verilog_print.proofs.Digits.{IsNumber-decimal, number_value-decimal}
use Rattle.verilog_print.proofs.Items.{CanWrite, CanWriteNet, CanDeclareWire}
use Rattle.verilog_print.proofs.Lists.{All-left, map_map, numbered_get}
use Rattle.verilog_print.proofs.Names.{name_is_identifier}
use Rattle.verilog_print.proofs.Fitting.{IsThere, NetIsThere, WireIsThere}

-- There are no more registers, memories and wires than 64 bits can number.
pub record AreCounted (d : Netlist) : Type 0 where
  pub regs : length d.regs < 2 ^ 64
  pub mems : length d.mems < 2 ^ 64
  pub wires : length d.wires < 2 ^ 64

-- the names of the printed text
abbrev pub printed_names : Netlist → Names
printed_names d = names_in (syntax_of d)

pub input_names : (d : Netlist) → map declared_name (map input_of d.inputs) ≡ map (λ (p : Pin). p.name) d.inputs
input_names d = map_map declared_name input_of (λ (p : Pin). p.name) (λ p. refl) d.inputs

none_before : (k : ℕ) → 0 + k ≡ k
none_before k = omega arith

pub input_named : (d : Netlist) (k : ℕ) → k < length d.inputs → slice_get (printed_names d).inputs k ≡ Some (name_at d.inputs k)
input_named d k h =
    ap (λ xs. slice_get xs k) (input_names d)
    ∙ slice_get-get_or (map (λ (p : Pin). p.name) d.inputs) k [] (omega (arith, h, length-map d.inputs (λ (p : Pin). p.name)))

pub register_named : (d : Netlist) (k : ℕ) → k < length d.regs → slice_get (printed_names d).regs k ≡ Some (register_name k)
register_named d k h = numbered_get declared_name register_of register_name (λ k r. refl) 0 k d.regs h ∙ ap (λ n. Some (register_name n)) (none_before k)

pub memory_named : (d : Netlist) (k : ℕ) → k < length d.mems → slice_get (printed_names d).mems k ≡ Some (memory_name k)
memory_named d k h = numbered_get (λ (x : DeclaredMemory). x.name) memory_at memory_name (λ k m. refl) 0 k d.mems h ∙ ap (λ n. Some (memory_name n)) (none_before k)

pub wire_named : (d : Netlist) (k : ℕ) → k < length d.wires → slice_get (printed_names d).wires k ≡ Some (wire_name k)
wire_named d k h = numbered_get (λ (x : DeclaredWire). x.name) (wire_of d.inputs) wire_name (λ k w. refl) 0 k d.wires h ∙ ap (λ n. Some (wire_name n)) (none_before k)

pub operand_means : (d : Netlist) (a : Atom) → IsThere d a → OperandMeans (printed_names d) (operand_of d.inputs a) a
operand_means d (atom.Constant bits value) h = refl
operand_means d (atom.Input k) h = input_named d k h
operand_means d (atom.Reg k) h = register_named d k h
operand_means d (atom.Wire k) h = wire_named d k h

name_means : (d : Netlist) (a : Atom) → ¬ IsConstant a → IsThere d a → OperandMeans (printed_names d) (Named (name_of (operand_of d.inputs a))) a
name_means d (atom.Constant bits value) varies h = absurd (varies tt)
name_means d (atom.Input k) varies h = input_named d k h
name_means d (atom.Reg k) varies h = register_named d k h
name_means d (atom.Wire k) varies h = wire_named d k h

part_same : (a : Atom) (high low h l : ℕ) → h ≡ high → l ≡ low → net.Part a high low ≡ net.Part a h l
part_same a high low h l e f = ap (λ x. net.Part a x low) (sym e) ∙ ap (λ x. net.Part a h x) (sym f)

pub expression_means : (d : Netlist) (x : Net) → NetIsThere d x → ExpressionMeans (printed_names d) (expression_of d.inputs x) x
expression_means d (net.Copy a) h = (a, refl, operand_means d a h)
expression_means d (net.Not a) h = (a, refl, operand_means d a h)
expression_means d (net.Two op a b) h = (a, b, refl, operand_means d a h.0, operand_means d b h.1)
expression_means d (net.Pick test a b) h = (test, a, b, refl, operand_means d test h.0, operand_means d a h.1, operand_means d b h.2)
expression_means d (net.Join high low) h = (high, low, refl, operand_means d high h.0, operand_means d low h.1)
expression_means d (net.Part a high low) h =
    (a, part_same a high low (number_value (decimal high)) (number_value (decimal low)) (number_value-decimal high (omega (arith, h.2))) (number_value-decimal low (omega (arith, h.2, h.3))), name_means d a h.0 h.1)
expression_means d (net.Word mem address) h = (mem, address, refl, memory_named d mem h.0, operand_means d address h.1)

-- the digits of the highest bit's number
pub high_bit_means : (bits : ℕ) → IsBetween 1 128 bits → bits ≡ suc (number_value (high_bit bits))
high_bit_means bits h = omega (arith, h.0, number_value-decimal (bits - 1) (omega (arith, h.1)))

pub wire_means : (d : Netlist) (k : ℕ) (w : Wire) → WireIsThere d w → WireMeans (printed_names d) (wire_of d.inputs k w) w
wire_means d k w h = record { bits = high_bit_means w.bits h.bits; net = expression_means d w.net h.net }

-- ---- what can be written

pub register_identifier : (k : ℕ) → k < 2 ^ 64 → IsIdentifier (register_name k)
register_identifier k h = name_is_identifier 114 k (inr (inl (omega arith, omega arith))) (omega (arith, h))

pub memory_identifier : (k : ℕ) → k < 2 ^ 64 → IsIdentifier (memory_name k)
memory_identifier k h = name_is_identifier 109 k (inr (inl (omega arith, omega arith))) (omega (arith, h))

pub wire_identifier : (k : ℕ) → k < 2 ^ 64 → IsIdentifier (wire_name k)
wire_identifier k h = name_is_identifier 119 k (inr (inl (omega arith, omega arith))) (omega (arith, h))

module _ (d : Netlist) (v : IsValid d) (counted : AreCounted d) where
  input_identifier : (k : ℕ) → k < length d.inputs → IsIdentifier (name_at d.inputs k)
  input_identifier k h =
      let names = map (λ (p : Pin). p.name) d.inputs in
      let name = All-get_or IsName names k [] (omega (arith, h, length-map d.inputs (λ (p : Pin). p.name))) (All-left IsName names (map (λ (o : OutPin). o.name) d.outputs) v.names) in
      name.identifier

  pub can_write : (a : Atom) → IsThere d a → CanWrite (operand_of d.inputs a)
  can_write (atom.Constant bits value) h = h
  can_write (atom.Input k) h = input_identifier k h
  can_write (atom.Reg k) h = register_identifier k (omega (arith, h, counted.regs))
  can_write (atom.Wire k) h = wire_identifier k (omega (arith, h, counted.wires))

  can_name : (a : Atom) → ¬ IsConstant a → IsThere d a → IsIdentifier (name_of (operand_of d.inputs a))
  can_name (atom.Constant bits value) varies h = absurd (varies tt)
  can_name (atom.Input k) varies h = input_identifier k h
  can_name (atom.Reg k) varies h = register_identifier k (omega (arith, h, counted.regs))
  can_name (atom.Wire k) varies h = wire_identifier k (omega (arith, h, counted.wires))

  pub can_write_net : (x : Net) → NetIsThere d x → CanWriteNet (expression_of d.inputs x)
  can_write_net (net.Copy a) h = can_write a h
  can_write_net (net.Not a) h = can_write a h
  can_write_net (net.Two op a b) h = (can_write a h.0, can_write b h.1)
  can_write_net (net.Pick test a b) h = (can_write test h.0, can_write a h.1, can_write b h.2)
  can_write_net (net.Join high low) h = (can_write high h.0, can_write low h.1)
  can_write_net (net.Part a high low) h =
      (can_name a h.0 h.1, IsNumber-decimal high (omega (arith, h.2)), IsNumber-decimal low (omega (arith, h.2, h.3)))
  can_write_net (net.Word mem address) h = (memory_identifier mem (omega (arith, h.0, counted.mems)), can_write address h.1)

  pub can_declare_wire : (k : ℕ) (w : Wire) → k < length d.wires → WireIsThere d w → CanDeclareWire (wire_of d.inputs k w)
  can_declare_wire k w few h = (IsNumber-decimal (w.bits - 1) (omega (arith, h.bits.1)), wire_identifier k (omega (arith, few, counted.wires)), can_write_net w.net h.net)
