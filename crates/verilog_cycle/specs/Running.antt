-- What an instruction gives.
use Rattle.std.specs.Prelude.{ℕ, ◌≡◌, ◌+◌, ◌-◌, ◌*◌, ◌/◌, ◌%◌, ◌^◌, ◌<◌, ◌==◌, if◌then◌else◌, List, [], ◌++◌, map, drop, length, slice_index, slice_index_or}
use Rattle.rtl_core.specs.declared.design.Pair.TheVariants.{Sub}
use Rattle.rtl_core.specs.ClockStep.{pair_value, word_at}
use Rattle.verilog_cycle.specs.declared.program.Source.{Source}
use Rattle.verilog_cycle.specs.declared.program.Source.TheVariants as source
use Rattle.verilog_cycle.specs.declared.program.Step.{Step}
use Rattle.verilog_cycle.specs.declared.program.Step.TheVariants as step
use Rattle.verilog_cycle.specs.declared.values.Values.{Values}

-- the low 64 bits of each
abbrev pub low_words : List ℕ → List ℕ
low_words xs = map (λ x. x % 2 ^ 64) xs

-- the values of the inputs, the registers and the wires behind one another, of each its low 64 bits
abbrev pub cells_of : Values → List ℕ
cells_of v = v.pins.items ++ (v.regs.items ++ low_words v.wires.items)

-- Between two cycles the cells of the wires hold what they should, and those of inputs and registers hold anything.
pub record AreCells (v : Values) (cells : List ℕ) : Type 0 where
  pub count : length cells ≡ length v.pins.items + (length v.regs.items + length v.wires.items)
  pub wires : drop (length v.pins.items + length v.regs.items) cells ≡ low_words v.wires.items

abbrev pub source_value : List ℕ → Source → ℕ
source_value cells (source.Constant bits value) = value
source_value cells (source.Cell i) = slice_index cells i

abbrev pub IsRead : List ℕ → Source → Type 0
IsRead cells (source.Constant bits value) = Unit {0}
IsRead cells (source.Cell i) = i < length cells

-- the sources are there, and the value has at most 64 bits
abbrev pub CanRun : List ℕ → List (List ℕ) → ℕ → Step → Type 0
CanRun v mems bits (step.Copy x) = IsRead v x
CanRun v mems bits (step.Not x) = IsRead v x × (source_value v x < 2 ^ bits)
CanRun v mems bits (step.Two op x y) = IsRead v x × IsRead v y × (op ≡ Sub → source_value v y < 2 ^ bits)
CanRun v mems bits (step.Pick x y z) = IsRead v x × IsRead v y × IsRead v z
CanRun v mems bits (step.Join x y low) = IsRead v x × IsRead v y × (source_value v x * 2 ^ low + source_value v y < 2 ^ 64)
CanRun v mems bits (step.Part x low) = IsRead v x
CanRun v mems bits (step.Word mem x) = IsRead v x × (mem < length mems) × (source_value v x < length (slice_index_or mems mem []))
CanRun v mems bits step.Wide = ⊥

abbrev pub step_value : List ℕ → List (List ℕ) → ℕ → Step → ℕ
step_value v mems bits (step.Copy x) = source_value v x
step_value v mems bits (step.Not x) = 2 ^ bits - 1 - source_value v x
step_value v mems bits (step.Two op x y) = pair_value op bits (source_value v x) (source_value v y)
step_value v mems bits (step.Pick x y z) = if source_value v x == 1 then source_value v y else source_value v z
step_value v mems bits (step.Join x y low) = source_value v x * 2 ^ low + source_value v y
step_value v mems bits (step.Part x low) = source_value v x / 2 ^ low % 2 ^ bits
step_value v mems bits (step.Word mem x) = word_at mems mem (source_value v x)
step_value v mems bits step.Wide = 0
