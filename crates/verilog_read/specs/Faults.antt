-- The faults of a module's text that is in the grammar: rule 52 on names, 53 on widths, 54 on assignments, 55 on the order of wires.
use Rattle.std.specs.Prelude.{ℕ, zero, suc, ◌+◌, ◌^◌, ◌==◌, nat_lt, nat_le, min, Bool, true, false, not, ◌&&◌, List, [], ◌∷◌, ◌++◌, length, Option, Some, None, if◌then◌else◌, bytes_eq, slice_set, slice_index_or, is_some, map}
use Rattle.std.specs.Option.{option_map_or}
use Rattle.std.specs.List.{list_any}
use Rattle.hls_base.specs.declared.place.Place.{Place}
use Rattle.hls_base.specs.declared.refusal.Refusal.{Refusal}
use Rattle.rtl_core.specs.declared.design.Pair.{Pair}
use Rattle.rtl_core.specs.declared.design.Pair.TheVariants as pair
use Rattle.rtl_core.specs.declared.design.Atom.{Atom}
use Rattle.rtl_core.specs.declared.design.Atom.TheVariants as atom
use Rattle.rtl_core.specs.ModuleTokens.{number_value}
use Rattle.rtl_core.specs.ModuleSyntax.{Operand, Named, Fixed}
use Rattle.verilog_read.specs.declared.names.Sort.TheVariants as sort
use Rattle.verilog_read.specs.declared.names.Sort.{Sort}
use Rattle.verilog_read.specs.declared.names.Entry.{Entry}
use Rattle.verilog_read.specs.declared.names.Meaning.{Meaning}
use Rattle.verilog_read.specs.Numbers.{declared_bits}
use Rattle.verilog_syntax.specs.PlacedSyntax.{PlacedName, PlacedOperand, PlacedNet, alone, inverted, between, chosen, joined, slice, word_of, PlacedDeclared, PlacedMemory, PlacedWire, PlacedAssign, PlacedWrite, Drive, register, first, further, PlacedModule}
use Rattle.verilog_read.specs.Scope.{Scope, Declaration, pins, declarations, scope_of, find_sort, meaning, named, with_entry}

-- a fault where the condition does not hold
abbrev pub unless : Bool → ℕ → Place → List Refusal
unless condition rule place = if condition then [] else record { rule = rule; place = place } ∷ []

-- ---- declarations

-- a width that the sort allows, and a depth that a memory may have
abbrev pub allowed : Sort → ℕ → Option ℕ → Bool
allowed sort.Wire bits depth = nat_le 1 bits && nat_le bits 128
allowed sort.Memory bits depth = (nat_le 1 bits && nat_le bits 64) && is_some depth
allowed _ bits depth = nat_le 1 bits && nat_le bits 64

-- a name that is declared behind these declarations, where it may stand for something already
abbrev pub declaration_faults : Scope → Declaration → List Refusal
declaration_faults scope d =
    unless (not (is_some (scope d.name.text))) 52 d.name.place ++ unless (allowed d.entry.sort d.entry.bits d.entry.depth) 53 d.name.place

abbrev pub no_scope : Scope
no_scope name = None

abbrev pub declared_faults : Scope → List Declaration → List Refusal
declared_faults scope [] = []
declared_faults scope (d ∷ ds) = declaration_faults scope d ++ declared_faults (with_entry scope d.name.text d.entry) ds

-- The header names the pins in their order.
abbrev pub is_turn : List Declaration → List ℕ → Bool
is_turn [] name = false
is_turn (d ∷ ds) name = bytes_eq d.name.text name

abbrev pub behind_first : {A : Type 0} → List A → List A
behind_first [] = []
behind_first (x ∷ xs) = xs

-- a name that is not that of the pin in its turn
abbrev pub turn_faults : List PlacedName → List Declaration → List Refusal
turn_faults [] ds = []
turn_faults (x ∷ xs) ds = unless (is_turn ds x.text) 52 x.place ++ turn_faults xs (behind_first ds)

-- a pin that has no name in its turn
abbrev pub lacking_faults : List PlacedName → List Declaration → List Refusal
lacking_faults xs [] = []
lacking_faults xs (d ∷ ds) = unless (nat_lt 0 (length xs)) 52 d.name.place ++ lacking_faults (behind_first xs) ds

abbrev pub header_faults : List PlacedName → List Declaration → List Refusal
header_faults xs ds = turn_faults xs ds ++ lacking_faults xs ds

-- ---- widths

-- a constant is below 2 to the power of its bits
abbrev pub is_in_range : Operand → Bool
is_in_range (Named name) = true
is_in_range (Fixed bits value) = nat_lt value (2 ^ min bits 128)

-- the operand has so many bits, as far as its width is known
abbrev pub may_have : Scope → Operand → ℕ → Bool
may_have scope x bits = option_map_or (λ (m : Meaning). (m.bits == bits) && is_in_range x) (meaning scope x) true

abbrev pub may_agree : Scope → Operand → Operand → Bool
may_agree scope x y =
    (option_map_or (λ (a : Meaning). option_map_or (λ (b : Meaning). a.bits == b.bits) (meaning scope y) true) (meaning scope x) true && is_in_range x) && is_in_range y

abbrev pub pair_fits : Scope → ℕ → Pair → Operand → Operand → Bool
pair_fits scope bits pair.Equal x y = (bits == 1) && may_agree scope x y
pair_fits scope bits pair.Below x y = (bits == 1) && may_agree scope x y
pair_fits scope bits pair.Left x y = may_have scope x bits && is_in_range y
pair_fits scope bits pair.Right x y = may_have scope x bits && is_in_range y
pair_fits scope bits _ x y = may_have scope x bits && may_have scope y bits

-- widths of at least 1 that add up to so many, as far as they are known
abbrev pub may_add_up : ℕ → Option Meaning → Option Meaning → Bool
may_add_up bits (Some a) (Some b) = bits == (a.bits + b.bits)
may_add_up bits (Some a) None = nat_lt a.bits bits
may_add_up bits None (Some b) = nat_lt b.bits bits
may_add_up bits None None = nat_lt 1 bits

abbrev pub join_fits : Scope → ℕ → Operand → Operand → Bool
join_fits scope bits x y = (may_add_up bits (meaning scope x) (meaning scope y) && is_in_range x) && is_in_range y

-- the bits from `high` down to `low` are there, and so many
abbrev pub is_part : ℕ → ℕ → List ℕ → List ℕ → Bool
is_part wide bits high low =
    (nat_lt (number_value high) wide && nat_le (number_value low) (number_value high)) && ((bits + number_value low) == (number_value high + 1))

abbrev pub part_fits : Scope → ℕ → List ℕ → List ℕ → List ℕ → Bool
part_fits scope bits name high low = option_map_or (λ (m : Meaning). is_part m.bits bits high low) (named scope name) true

abbrev pub same_atom : Atom → Atom → Bool
same_atom (atom.Constant b v) (atom.Constant c w) = (b == c) && (v == w)
same_atom (atom.Input j) (atom.Input k) = j == k
same_atom (atom.Reg j) (atom.Reg k) = j == k
same_atom (atom.Wire j) (atom.Wire k) = j == k
same_atom _ _ = false

-- which addresses the ports of each memory have
abbrev pub Addresses : Type 0
Addresses = ℕ → Atom → Bool

abbrev pub is_same_depth : Option ℕ → ℕ → Bool
is_same_depth depth bits = option_map_or (λ k. k == bits) depth false

abbrev pub address_fits : Scope → Addresses → Entry → Operand → Bool
address_fits scope addresses e x =
    option_map_or (λ (m : Meaning). (is_same_depth e.depth m.bits && is_in_range x) && addresses e.number m.atom) (meaning scope x) true

abbrev pub word_fits : Scope → Addresses → ℕ → List ℕ → Operand → Bool
word_fits scope addresses bits memory x =
    option_map_or (λ (e : Entry). (e.bits == bits) && address_fits scope addresses e x) (find_sort scope memory sort.Memory) true

-- the net has so many bits, as far as the widths of its names are known
abbrev pub net_fits : Scope → Addresses → ℕ → PlacedNet → Bool
net_fits scope addresses bits (alone a) = may_have scope a.operand bits
net_fits scope addresses bits (inverted a) = may_have scope a.operand bits
net_fits scope addresses bits (between op a b) = pair_fits scope bits op a.operand b.operand
net_fits scope addresses bits (chosen a b c) = (may_have scope a.operand 1 && may_have scope b.operand bits) && may_have scope c.operand bits
net_fits scope addresses bits (joined a b) = join_fits scope bits a.operand b.operand
net_fits scope addresses bits (slice name high low) = part_fits scope bits name.text high low
net_fits scope addresses bits (word_of memory a) = word_fits scope addresses bits memory.text a.operand

-- ---- names in nets, and their order

abbrev pub known_faults : Scope → PlacedOperand → List Refusal
known_faults scope x = unless (is_some (meaning scope x.operand)) 52 x.place

-- a wire is one before the wire of this number
abbrev pub atom_before : ℕ → Atom → Bool
atom_before wire (atom.Wire k) = nat_lt k wire
atom_before wire _ = true

abbrev pub is_before : Scope → Operand → ℕ → Bool
is_before scope x wire = option_map_or (λ (m : Meaning). atom_before wire m.atom) (meaning scope x) true

abbrev pub source_faults : Scope → ℕ → PlacedOperand → List Refusal
source_faults scope wire x = known_faults scope x ++ unless (is_before scope x.operand wire) 55 x.place

abbrev pub memory_faults : Scope → PlacedName → List Refusal
memory_faults scope x = unless (is_some (find_sort scope x.text sort.Memory)) 52 x.place

abbrev pub net_faults : Scope → ℕ → PlacedNet → List Refusal
net_faults scope wire (alone a) = source_faults scope wire a
net_faults scope wire (inverted a) = source_faults scope wire a
net_faults scope wire (between op a b) = source_faults scope wire a ++ source_faults scope wire b
net_faults scope wire (chosen a b c) = source_faults scope wire a ++ (source_faults scope wire b ++ source_faults scope wire c)
net_faults scope wire (joined a b) = source_faults scope wire a ++ source_faults scope wire b
net_faults scope wire (slice name high low) = source_faults scope wire (record { operand = Named name.text; place = name.place })
net_faults scope wire (word_of memory a) = memory_faults scope memory ++ source_faults scope wire a

abbrev pub wire_faults_one : Scope → Addresses → ℕ → PlacedWire → List Refusal
wire_faults_one scope addresses k x = net_faults scope k x.net ++ unless (net_fits scope addresses (declared_bits x.high) x.net) 53 x.place

abbrev pub wire_faults : Scope → Addresses → ℕ → List PlacedWire → List Refusal
wire_faults scope addresses k [] = []
wire_faults scope addresses k (x ∷ xs) =
    wire_faults_one scope addresses k x ++ wire_faults scope addresses (k + 1) xs

-- ---- assignments

-- by which assignment each is assigned first so far, if by any
abbrev pub Slots : Type 0
Slots = List (Option ℕ)

abbrev pub slot : Slots → ℕ → Option ℕ
slot slots k = slice_index_or slots k None

abbrev pub is_free : Slots → ℕ → Bool
is_free slots k = not (is_some (slot slots k))

abbrev pub filled : Slots → ℕ → ℕ → Slots
filled slots k x = if is_free slots k then slice_set slots k (Some x) else slots

abbrev pub filled_by : Slots → Option Entry → ℕ → Slots
filled_by slots None x = slots
filled_by slots (Some e) x = filled slots e.number x

abbrev pub bits_faults : Scope → PlacedOperand → ℕ → List Refusal
bits_faults scope x bits = known_faults scope x ++ unless (may_have scope x.operand bits) 53 x.place

-- a target that is assigned this operand: it is of its sort, has the operand's width, and is assigned for the first time
abbrev pub target_faults : Scope → Slots → PlacedName → PlacedOperand → Option Entry → List Refusal
target_faults scope slots name x None = unless false 52 name.place
target_faults scope slots name x (Some e) = unless (may_have scope x.operand e.bits) 53 x.place ++ unless (is_free slots e.number) 54 name.place

abbrev pub output_of : Scope → PlacedAssign → Option Entry
output_of scope x = find_sort scope x.name.text sort.Output

abbrev pub assign_faults : Scope → Slots → ℕ → List PlacedAssign → List Refusal
assign_faults scope slots i [] = []
assign_faults scope slots i (x ∷ xs) =
    (known_faults scope x.from ++ target_faults scope slots x.name x.from (output_of scope x)) ++ assign_faults scope (filled_by slots (output_of scope x) i) (i + 1) xs

abbrev pub after_assigns : Scope → Slots → ℕ → List PlacedAssign → Slots
after_assigns scope slots i [] = slots
after_assigns scope slots i (x ∷ xs) = after_assigns scope (filled_by slots (output_of scope x) i) (i + 1) xs

-- ---- what happens at an edge

-- the registers and memories that are assigned so far, the memories whose block is begun, and the memory of the last block
pub record Driven : Type 0 where
  pub regs : Slots
  pub ports : Slots
  pub blocks : Slots
  pub block : List ℕ

abbrev pub depth_faults : Scope → PlacedOperand → Option ℕ → List Refusal
depth_faults scope x None = []
depth_faults scope x (Some k) = unless (may_have scope x.operand k) 53 x.place

abbrev pub memory_of : Scope → PlacedName → Option Entry
memory_of scope name = find_sort scope name.text sort.Memory

abbrev pub port_faults : Scope → PlacedWrite → Option Entry → List Refusal
port_faults scope x None = unless false 52 x.memory.place
port_faults scope x (Some e) = depth_faults scope x.address e.depth ++ unless (may_have scope x.value.operand e.bits) 53 x.value.place

abbrev pub write_faults : Scope → PlacedWrite → List Refusal
write_faults scope x =
    (bits_faults scope x.enable 1 ++ (known_faults scope x.address ++ known_faults scope x.value)) ++ port_faults scope x (memory_of scope x.memory)

-- a memory has one block
abbrev pub begin_faults : Slots → PlacedName → Option Entry → List Refusal
begin_faults blocks name None = []
begin_faults blocks name (Some e) = unless (is_free blocks e.number) 54 name.place

abbrev pub register_of : Scope → PlacedName → Option Entry
register_of scope name = find_sort scope name.text sort.Register

abbrev pub drive_faults_one : Scope → Driven → Drive → List Refusal
drive_faults_one scope s (register enable name next) =
    bits_faults scope enable 1 ++ (known_faults scope next ++ target_faults scope s.regs name next (register_of scope name))
drive_faults_one scope s (first x) = write_faults scope x ++ begin_faults s.blocks x.memory (memory_of scope x.memory)
drive_faults_one scope s (further x) = write_faults scope x ++ unless (bytes_eq x.memory.text s.block) 54 x.memory.place

abbrev pub after_drive : Scope → Driven → ℕ → Drive → Driven
after_drive scope s i (register enable name next) = record s { regs = filled_by s.regs (register_of scope name) i }
after_drive scope s i (first x) = record {
  regs = s.regs;
  ports = filled_by s.ports (memory_of scope x.memory) i;
  blocks = filled_by s.blocks (memory_of scope x.memory) i;
  block = x.memory.text;
}
after_drive scope s i (further x) = record s { ports = filled_by s.ports (memory_of scope x.memory) i }

abbrev pub drive_faults : Scope → Driven → ℕ → List Drive → List Refusal
drive_faults scope s i [] = []
drive_faults scope s i (d ∷ ds) = drive_faults_one scope s d ++ drive_faults scope (after_drive scope s i d) (i + 1) ds

abbrev pub after_drives : Scope → Driven → ℕ → List Drive → Driven
after_drives scope s i [] = s
after_drives scope s i (d ∷ ds) = after_drives scope (after_drive scope s i d) (i + 1) ds

-- ---- what is never assigned

abbrev pub never_faults : Slots → ℕ → List PlacedName → List Refusal
never_faults slots i [] = []
never_faults slots i (x ∷ xs) = unless (is_some (slot slots i)) 54 x.place ++ never_faults slots (i + 1) xs

abbrev pub declared_names : List PlacedDeclared → List PlacedName
declared_names xs = map (λ (x : PlacedDeclared). x.name) xs

abbrev pub memory_names : List PlacedMemory → List PlacedName
memory_names xs = map (λ (x : PlacedMemory). x.name) xs

abbrev pub free_slots : ℕ → Slots
free_slots zero = []
free_slots (suc n) = None ∷ free_slots n

abbrev pub no_slots : {A : Type 0} → List A → Slots
no_slots xs = free_slots (length xs)

abbrev pub output_slots : Scope → PlacedModule → Slots
output_slots scope m = after_assigns scope (no_slots m.outputs) 0 m.assigns

abbrev pub undriven : PlacedModule → Driven
undriven m = record { regs = no_slots m.regs; ports = no_slots m.mems; blocks = no_slots m.mems; block = [] }

abbrev pub driven : Scope → PlacedModule → Driven
driven scope m = after_drives scope (undriven m) 0 m.drives

-- the faults of assignments, where this is assigned before
abbrev pub slot_faults : Scope → PlacedModule → Slots → Driven → List Refusal
slot_faults scope m outputs s =
    let after = after_drives scope s 0 m.drives in
    assign_faults scope outputs 0 m.assigns ++ (drive_faults scope s 0 m.drives
    ++ (never_faults (after_assigns scope outputs 0 m.assigns) 0 (declared_names m.outputs) ++ (never_faults after.regs 0 (declared_names m.regs) ++ never_faults after.ports 0 (memory_names m.mems))))

abbrev pub assignment_faults : Scope → PlacedModule → List Refusal
assignment_faults scope m = slot_faults scope m (no_slots m.outputs) (undriven m)

-- ---- all faults

-- the addresses of the ports of memories
abbrev pub write_of : Drive → Option PlacedWrite
write_of (register enable name next) = None
write_of (first x) = Some x
write_of (further x) = Some x

abbrev pub is_port_of : Scope → ℕ → Atom → PlacedWrite → Bool
is_port_of scope memory a x =
    option_map_or (λ (e : Entry). option_map_or (λ (m : Meaning). (memory == e.number) && same_atom a m.atom) (meaning scope x.address.operand) false) (memory_of scope x.memory) false

abbrev pub is_port_drive : Scope → ℕ → Atom → Drive → Bool
is_port_drive scope memory a d = option_map_or (is_port_of scope memory a) (write_of d) false

abbrev pub port_addresses : Scope → List Drive → Addresses
port_addresses scope ds memory a = list_any (is_port_drive scope memory a) ds

-- the faults of wires and assignments
abbrev pub content_faults : Scope → PlacedModule → List Refusal
content_faults scope m = wire_faults scope (port_addresses scope m.drives) 0 m.wires ++ assignment_faults scope m

-- the faults of a module, in no order
abbrev pub module_faults : PlacedModule → List Refusal
module_faults m = (header_faults m.header (pins m) ++ declared_faults no_scope (declarations m)) ++ content_faults (scope_of m) m
