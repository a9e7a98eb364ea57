-- The circuit of linked stages, as a list of parts. The wires of each stage appear twice: first with start low, for ready, done and ret, and then with the real start, which depends on them. So every wire uses earlier wires only, even if ready, done or ret names start.
use Rattle.std.specs.Prelude.{ℕ, ◌+◌, List, [], ◌∷◌, ◌++◌, map, length, codes, slice_index}
use Rattle.rtl_core.specs.declared.design.Atom.{Atom}
use Rattle.rtl_core.specs.declared.design.Atom.TheVariants as atom
use Rattle.rtl_core.specs.declared.design.OutPin.{OutPin}
use Rattle.rtl_core.specs.Netlist.{Netlist}
use Rattle.rtl_core.specs.ClockStep.{input_widths}
use Rattle.chain_box.specs.Agreement.{chain_inputs}
use Rattle.chain_box.specs.StageEmbedding.Placing.{Part, with_exits, wires_of, registers_of, memories_of}
use Rattle.chain_link.specs.Units.{low_pins, both_bits, queue_front, queue_back, control}
use Rattle.chain_link.specs.declared.numbers.Sizes.{Sizes}
use Rattle.chain_link.specs.declared.numbers.Queue.{Queue}

abbrev pub argument_bits : Netlist → ℕ
argument_bits d = slice_index (input_widths d) 7

abbrev pub result_bits : Netlist → ℕ
result_bits d = slice_index (map (λ (o : OutPin). o.bits) d.outputs) 3

-- the width of the items put in
abbrev pub data_in : List Netlist → ℕ
data_in [] = 0
data_in (d ∷ ds) = argument_bits d

abbrev pub placed : Netlist → List Atom → ℕ → ℕ → ℕ → Part
placed d inputs regs mems wires = record { circuit = d; place = record { inputs = inputs; regs = regs; mems = mems; wires = wires } }

-- ---- the parts before the first stage

abbrev pub entry_parts : ℕ → ℕ → ℕ → List Part
entry_parts depth log bits =
    placed low_pins [] 0 0 0 ∷ placed (queue_front depth log bits) [] 0 0 4 ∷ placed both_bits (atom.Input 1 ∷ atom.Wire (4 + 1) ∷ []) 0 0 7 ∷ []

abbrev pub entry_sizes : Sizes
entry_sizes = record { regs = 0; mems = 0; wires = 8 }

abbrev pub entry_queue : ℕ → Queue
entry_queue bits = record { front = 4; give = 7; item = atom.Input 2; bits = bits }

-- ---- a stage

abbrev pub some_of : Queue → Atom
some_of q = atom.Wire (q.front + 0)

abbrev pub first_of : Queue → Atom
first_of q = atom.Wire (q.front + 2)

-- the inputs of a stage; the host's pins are low
abbrev pub stage_inputs : Atom → Atom → List Atom
stage_inputs start argument = atom.Input 0 ∷ start ∷ atom.Wire 0 ∷ atom.Wire 0 ∷ atom.Wire 1 ∷ atom.Wire 2 ∷ atom.Wire 3 ∷ argument ∷ []

-- output k of the stage with start low
abbrev pub exit_of : Sizes → Netlist → ℕ → Atom
exit_of s d k = atom.Wire (s.wires + (length d.wires + k))

-- the number of the first wire after the stage with start low
abbrev pub behind_asked : Sizes → Netlist → ℕ
behind_asked s d = s.wires + (length d.wires + length d.outputs)

abbrev pub start_of : Sizes → Netlist → Atom
start_of s d = atom.Wire (behind_asked s d + 3 + 5)

abbrev pub asked_part : Sizes → Queue → Netlist → Part
asked_part s q d = placed (with_exits d) (stage_inputs (atom.Wire 0) (first_of q)) (s.regs + 3) (s.mems + 1) s.wires

abbrev pub front_part : ℕ → ℕ → Sizes → Netlist → Part
front_part depth log s d = placed (queue_front depth log (result_bits d)) [] (s.regs + 3 + length d.regs) (s.mems + 1) (behind_asked s d)

abbrev pub control_part : Sizes → Queue → Netlist → Part
control_part s q d =
    placed control (atom.Input 0 ∷ exit_of s d 0 ∷ exit_of s d 1 ∷ atom.Wire (behind_asked s d + 1) ∷ some_of q ∷ []) (s.regs + 2) (s.mems + 1) (behind_asked s d + 3)

-- the queue before the stage, whose first item a start removes
abbrev pub back_part : ℕ → Sizes → Queue → Netlist → Part
back_part log s q d = placed (queue_back log q.bits) (atom.Input 0 ∷ start_of s d ∷ atom.Wire q.give ∷ q.item ∷ []) s.regs s.mems (behind_asked s d + 12)

abbrev pub started_part : Sizes → Queue → Netlist → Part
started_part s q d = placed d (stage_inputs (start_of s d) (first_of q)) (s.regs + 3) (s.mems + 1) (behind_asked s d + 23)

abbrev pub sizes_behind : Sizes → Netlist → Sizes
sizes_behind s d = record { regs = s.regs + 3 + length d.regs; mems = s.mems + 1; wires = behind_asked s d + 23 + length d.wires }

abbrev pub queue_behind : Sizes → Netlist → Queue
queue_behind s d = record { front = behind_asked s d; give = behind_asked s d + 3 + 1; item = exit_of s d 3; bits = result_bits d }

-- ---- the last queue, whose first item the user removes

abbrev pub take_part : Sizes → Queue → Part
take_part s q = placed both_bits (atom.Input 3 ∷ some_of q ∷ []) 0 0 s.wires

abbrev pub last_part : ℕ → Sizes → Queue → Part
last_part log s q = placed (queue_back log q.bits) (atom.Input 0 ∷ atom.Wire (s.wires + 0) ∷ atom.Wire q.give ∷ q.item ∷ []) s.regs s.mems (s.wires + 1)

-- ---- all parts

-- the parts of a stage, in the order of their wires
abbrev pub stage_parts : ℕ → ℕ → Sizes → Queue → Netlist → List Part
stage_parts depth log s q d = asked_part s q d ∷ front_part depth log s d ∷ control_part s q d ∷ back_part log s q d ∷ started_part s q d ∷ []

-- the parts of a stage with registers or memories, in their order
abbrev pub owned_stage : ℕ → Sizes → Queue → Netlist → List Part
owned_stage log s q d = back_part log s q d ∷ control_part s q d ∷ started_part s q d ∷ []

abbrev pub last_parts : ℕ → Sizes → Queue → List Part
last_parts log s q = take_part s q ∷ last_part log s q ∷ []

-- all parts after the entry, in the order of their wires
abbrev pub chain_parts : ℕ → ℕ → Sizes → Queue → List Netlist → List Part
chain_parts depth log s q [] = last_parts log s q
chain_parts depth log s q (d ∷ ds) = stage_parts depth log s q d ++ chain_parts depth log (sizes_behind s d) (queue_behind s d) ds

-- all parts with registers or memories, in their order
abbrev pub owned_parts : ℕ → Sizes → Queue → List Netlist → List Part
owned_parts log s q [] = last_part log s q ∷ []
owned_parts log s q (d ∷ ds) = owned_stage log s q d ++ owned_parts log (sizes_behind s d) (queue_behind s d) ds

abbrev pub last_queue : Sizes → Queue → List Netlist → Queue
last_queue s q [] = q
last_queue s q (d ∷ ds) = last_queue (sizes_behind s d) (queue_behind s d) ds

abbrev pub output_of : List ℕ → ℕ → Atom → OutPin
output_of name bits from = record { name = name; bits = bits; from = from }

abbrev pub output_pins : Queue → List OutPin
output_pins q = output_of (codes "in_room") 1 (atom.Wire (4 + 1)) ∷ output_of (codes "out_valid") 1 (some_of q) ∷ output_of (codes "out_data") q.bits (first_of q) ∷ []

abbrev pub linked : ℕ → ℕ → List Netlist → Netlist
linked depth log ds =
    let bits = data_in ds in
    record {
      name = codes "hls_chain";
      inputs = chain_inputs bits;
      outputs = output_pins (last_queue entry_sizes (entry_queue bits) ds);
      regs = registers_of (owned_parts log entry_sizes (entry_queue bits) ds);
      mems = memories_of (owned_parts log entry_sizes (entry_queue bits) ds);
      wires = wires_of (entry_parts depth log bits ++ chain_parts depth log entry_sizes (entry_queue bits) ds);
    }
