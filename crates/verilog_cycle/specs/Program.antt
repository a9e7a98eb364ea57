-- The expressions of wires as a simulator keeps them, where every value has at most 64 bits.
use Rattle.std.specs.Prelude.{ℕ, ◌≡◌, ◌+◌, ◌<◌, ◌≤◌, ◌≢◌, List, length, slice_index_or}
use Rattle.rtl_core.specs.declared.design.Atom.{Atom}
use Rattle.rtl_core.specs.declared.design.Atom.TheVariants as atom
use Rattle.rtl_core.specs.declared.design.Net.{Net}
use Rattle.rtl_core.specs.declared.design.Net.TheVariants as net
use Rattle.rtl_core.specs.declared.design.Wire.{Wire}
use Rattle.rtl_core.specs.Netlist.{Netlist}
use Rattle.rtl_core.specs.ClockStep.{widths, bits_of}
use Rattle.verilog_cycle.specs.declared.program.Source.{Source}
use Rattle.verilog_cycle.specs.declared.program.Source.TheVariants as source
use Rattle.verilog_cycle.specs.declared.program.Step.{Step}
use Rattle.verilog_cycle.specs.declared.program.Step.TheVariants as step
use Rattle.verilog_cycle.specs.declared.program.Instruction.{Instruction}

-- where an atom's value stands behind those of the inputs, the registers and the wires
abbrev pub IsCell : Netlist → Atom → ℕ → Type 0
IsCell d (atom.Constant bits value) i = ⊥
IsCell d (atom.Input k) i = i ≡ k
IsCell d (atom.Reg k) i = i ≡ length d.inputs + k
IsCell d (atom.Wire k) i = i ≡ length d.inputs + (length d.regs + k)

abbrev pub IsSource : Netlist → Atom → Source → Type 0
IsSource d a (source.Constant bits value) = a ≡ atom.Constant bits value
IsSource d a (source.Cell i) = IsCell d a i

-- the source reads this atom, which has at most 64 bits
pub record Reads (d : Netlist) (a : Atom) (s : Source) : Type 0 where
  pub same : IsSource d a s
  pub narrow : bits_of (widths d) a ≤ 64

-- the step is this expression, all of whose operands have at most 64 bits
abbrev pub IsStep : Netlist → Net → Step → Type 0
IsStep d e (step.Copy x) = (a : Atom) × (e ≡ net.Copy a) × Reads d a x
IsStep d e (step.Not x) = (a : Atom) × (e ≡ net.Not a) × Reads d a x
IsStep d e (step.Two op x y) = (a : Atom) × (b : Atom) × (e ≡ net.Two op a b) × Reads d a x × Reads d b y
IsStep d e (step.Pick x y z) = (a : Atom) × (b : Atom) × (c : Atom) × (e ≡ net.Pick a b c) × Reads d a x × Reads d b y × Reads d c z
IsStep d e (step.Join x y low) = (a : Atom) × (b : Atom) × (e ≡ net.Join a b) × Reads d a x × Reads d b y × (low ≡ bits_of (widths d) b)
IsStep d e (step.Part x low) = (a : Atom) × (high : ℕ) × (e ≡ net.Part a high low) × Reads d a x
IsStep d e (step.Word mem x) = (a : Atom) × (e ≡ net.Word mem a) × Reads d a x
IsStep d e step.Wide = Unit {0}

-- the instruction gives the wire its value
pub record IsInstruction (d : Netlist) (x : Wire) (i : Instruction) : Type 0 where
  pub bits : i.bits ≡ x.bits
  pub narrow : i.step ≢ step.Wide → x.bits ≤ 64
  pub step : IsStep d x.net i.step

-- one instruction for each wire
pub record IsProgram (d : Netlist) (p : List Instruction) : Type 0 where
  pub count : length p ≡ length d.wires
  pub each : (k : ℕ) (x : Wire) (i : Instruction) → k < length d.wires → IsInstruction d (slice_index_or d.wires k x) (slice_index_or p k i)
