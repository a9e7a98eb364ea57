-- Two circuits and their printed texts.
use Rattle.std.specs.Prelude.{◌≡◌, ◌+◌, ◌^◌, ℕ, List, [], ◌∷◌, codes, refl}
use Rattle.std.specs.Fmt.{digits}
use Rattle.rtl_core.specs.declared.design.Atom.TheVariants as atom
use Rattle.rtl_core.specs.declared.design.Pair.TheVariants as pair
use Rattle.rtl_core.specs.declared.design.Net.TheVariants as net
use Rattle.rtl_core.specs.declared.design.OutPin.{OutPin}
use Rattle.rtl_core.specs.declared.design.Port.{Port}
use Rattle.rtl_core.specs.declared.design.Wire.{Wire}
use Rattle.rtl_core.specs.declared.design.Atom.{Atom}
use Rattle.rtl_core.specs.declared.design.Net.{Net}
use Rattle.rtl_core.specs.Netlist.{Netlist, Memory}
use Rattle.rtl_core.specs.Interface.{pin}
use Rattle.verilog_print.specs.PrintedText.{module_text}

abbrev output : List ℕ → ℕ → Atom → OutPin
output name bits from = record { name = name; bits = bits; from = from }

abbrev wire : ℕ → Net → Wire
wire bits net = record { bits = bits; net = net }

-- a register of 4 bits that adds its input
abbrev pub counter : Netlist
counter = record {
  name = codes "t";
  inputs = pin (codes "a") 4 ∷ [];
  outputs = output (codes "y") 4 (atom.Reg 0) ∷ [];
  regs = record { bits = 4; enable = atom.Constant 1 1; next = atom.Wire 0 } ∷ [];
  mems = [];
  wires = wire 4 (net.Two pair.Add (atom.Reg 0) (atom.Input 0)) ∷ [];
}

counter_text : module_text counter ≡ codes "module t (clk, a, y);\ninput clk;\ninput [3:0] a;\noutput [3:0] y;\nreg [3:0] r0;\nwire [3:0] w0 = r0 + a;\nassign y = r0;\nalways @(posedge clk) if (1'h1) r0 <= w0;\nendmodule\n"
unfolding digits
counter_text = refl

abbrev pub first_port : Port
first_port = record { addr = atom.Wire 0; enable = atom.Input 1; value = atom.Input 0 }

abbrev pub second_port : Port
second_port = record { addr = atom.Constant 2 1; enable = atom.Constant 1 1; value = atom.Reg 0 }

abbrev pub store : Memory
store = record { bits = 8; depth_log = 2; ports = first_port ∷ second_port ∷ [] }

-- a memory with two ports, and most kinds of expressions
abbrev pub machine : Netlist
machine = record {
  name = codes "u";
  inputs = pin (codes "a") 8 ∷ pin (codes "t") 1 ∷ [];
  outputs = output (codes "y") 8 (atom.Wire 7) ∷ output (codes "z") 1 (atom.Wire 6) ∷ [];
  regs = record { bits = 8; enable = atom.Input 1; next = atom.Wire 2 } ∷ [];
  mems = store ∷ [];
  wires =
      wire 2 (net.Part (atom.Input 0) 3 2) ∷ wire 8 (net.Word 0 (atom.Wire 0)) ∷ wire 8 (net.Pick (atom.Input 1) (atom.Wire 1) (atom.Reg 0))
      ∷ wire 8 (net.Two pair.Right (atom.Wire 2) (atom.Wire 0)) ∷ wire 16 (net.Join (atom.Wire 3) (atom.Reg 0))
      ∷ wire 128 (net.Copy (atom.Constant 128 (2 ^ 127 + 0xabc))) ∷ wire 1 (net.Two pair.Below (atom.Wire 5) (atom.Constant 128 0)) ∷ wire 8 (net.Not (atom.Wire 3)) ∷ [];
}

machine_text : module_text machine ≡ codes "module u (clk, a, t, y, z);\ninput clk;\ninput [7:0] a;\ninput [0:0] t;\noutput [7:0] y;\noutput [0:0] z;\nreg [7:0] r0;\nreg [7:0] m0 [0:3];\nwire [1:0] w0 = a[3:2];\nwire [7:0] w1 = m0[w0];\nwire [7:0] w2 = t ? w1 : r0;\nwire [7:0] w3 = w2 >> w0;\nwire [15:0] w4 = {w3, r0};\nwire [127:0] w5 = 128'h80000000000000000000000000000abc;\nwire [0:0] w6 = w5 < 128'h0;\nwire [7:0] w7 = ~w3;\nassign y = w7;\nassign z = w6;\nalways @(posedge clk) if (t) r0 <= w2;\nalways @(posedge clk) begin if (t) m0[w0] <= a; if (1'h1) m0[2'h1] <= r0; end\nendmodule\n"
unfolding digits
machine_text = refl
