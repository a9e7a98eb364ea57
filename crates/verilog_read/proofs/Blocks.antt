-- What the edges of a module without a fault set: its registers, and the ports of its memories.
use Rattle.std.proofs.Common.{◌≡◌, inl, inr, ℕ, suc, ◌+◌, ◌<◌, Bool, true, false, ◌&&◌, ◌||◌, eqb, List, [], ◌∷◌, ◌++◌, length, map, drop, Option, Some, None, refl, sym, ap, ◌∙◌, subst, arith}
use Rattle.std.specs.Prelude.{slice_get, is_some, unwrap_or}
use Rattle.std.specs.List.{All, list_any}
use Rattle.std.specs.Option.{option_map_or}
use Rattle.std.proofs.lemmas.Bool.{cases_Bool, false≢true, and_parts, eqb-true}
use Rattle.std.proofs.lemmas.Option.{none-some, same_Some, slice_get_within}
use Rattle.std.proofs.lemmas.List.Elements.{All-nil, All-cons}
use Rattle.rtl_core.specs.declared.design.Atom.{Atom}
use Rattle.rtl_core.specs.declared.design.Atom.TheVariants as atom
use Rattle.rtl_core.specs.Netlist.{Memory}
use Rattle.rtl_core.specs.ClockStep.{Widths}
use Rattle.rtl_core.specs.Valid.{HasBits, PortFits}
use Rattle.rtl_core.specs.ModuleText.{InOrder, none, another, WriteMeans}
use Rattle.verilog_read.specs.declared.names.Sort.TheVariants as sort
use Rattle.verilog_read.specs.declared.names.Entry.{Entry}
use Rattle.verilog_read.specs.declared.names.Meaning.{Meaning}
use Rattle.verilog_read.specs.Numbers.{declared_bits, depth_of}
use Rattle.verilog_syntax.specs.PlacedSyntax.{PlacedName, PlacedOperand, PlacedDeclared, PlacedMemory, PlacedWrite, Drive, register, first, further, PlacedModule}
use Rattle.verilog_read.specs.Scope.{scope_of, find_sort, meaning, atom_in}
use Rattle.verilog_syntax.specs.Marks.{in_blocks}
use Rattle.verilog_read.specs.Faults.{slot, unless, may_have, same_atom, known_faults, bits_faults, depth_faults, memory_of, port_faults, write_faults, register_of, Driven, drive_faults_one, after_drive, drive_faults, undriven, driven, is_port_of, declared_names, memory_names}
use Rattle.verilog_read.specs.Circuit.{nothing, register_from, register_by, port_of, further_ports, block_ports, ports_by, circuit_of}
use Rattle.verilog_syntax.proofs.Places.{get_map, get_back, get_drop, drop_get}
use Rattle.verilog_read.proofs.NoFaults.{none_left, none_right, unless_true}
use Rattle.verilog_syntax.proofs.Unplaced.{write_plain, others_plain}
use Rattle.verilog_read.proofs.Operands.{some_of, IsMemory, IsDeclared, found_memory, found_register, names_here, Wide, Fits, fits_means, fits_bits, known_fits, bits_fits, atom_is}
use Rattle.verilog_read.proofs.SizedConstants.{SizedWrite, SizedDrive, IsSizedModule}
use Rattle.verilog_read.proofs.Slots.{put_in, in_slot, regs_fill, blocks_fill, ports_fill, register_target, block_target, port_target}
use Rattle.verilog_read.proofs.Assigned.{target_fits, drives_fit, registers_free, blocks_free, leads, further_same, never_none}
use Rattle.verilog_read.proofs.Clean.{Clean, MemoryAllowed}
use Rattle.verilog_read.proofs.Circuits.{mems_at, regs_at}

-- ---- one port

-- a port of the memory e
pub record PortRight (m : PlacedModule) (e : Entry) (x : PlacedWrite) : Type 0 where
  pub enable : Fits m x.enable.operand (length m.wires) 1
  pub log : ℕ
  pub depth : e.depth ≡ Some log
  pub address : Fits m x.address.operand (length m.wires) log
  pub value : Fits m x.value.operand (length m.wires) e.bits

-- the edge of a port has no fault
write_right : (m : PlacedModule) (x : PlacedWrite) (e : Entry) (log : ℕ) → memory_of (scope_of m) x.memory ≡ Some e → e.depth ≡ Some log → SizedWrite x → write_faults (scope_of m) x ≡ [] → PortRight m e x
write_right m x e log at deep sized h =
    let scope = scope_of m in
    let knowns = bits_faults scope x.enable 1 ++ (known_faults scope x.address ++ known_faults scope x.value) in
    let front = none_left knowns _ h in
    let rest : depth_faults scope x.address e.depth ++ unless (may_have scope x.value.operand e.bits) 53 x.value.place ≡ [] = ap (port_faults scope x) (sym at) ∙ none_right knowns _ h in
    let known = none_right (bits_faults scope x.enable 1) _ front in
    let wide : unless (may_have scope x.address.operand log) 53 x.address.place ≡ [] = ap (depth_faults scope x.address) (sym deep) ∙ none_left (depth_faults scope x.address e.depth) _ rest in
    record {
      enable = bits_fits m x.enable 1 (none_left (bits_faults scope x.enable 1) _ front) sized.enable;
      log = log;
      depth = deep;
      address = known_fits m x.address log (none_left (known_faults scope x.address) _ known) (unless_true (may_have scope x.address.operand log) 53 x.address.place wide) sized.address;
      value = known_fits m x.value e.bits (none_right (known_faults scope x.address) _ known) (unless_true (may_have scope x.value.operand e.bits) 53 x.value.place (none_right (depth_faults scope x.address e.depth) _ rest)) sized.value;
    }

-- the memory of a port is there
write_memory : (m : PlacedModule) (x : PlacedWrite) → write_faults (scope_of m) x ≡ [] → (e : Entry) × (memory_of (scope_of m) x.memory ≡ Some e)
write_memory m x h = some_memory (memory_of (scope_of m) x.memory) (none_right (bits_faults (scope_of m) x.enable 1 ++ (known_faults (scope_of m) x.address ++ known_faults (scope_of m) x.value)) _ h)
  where
    some_memory : (o : Option Entry) → port_faults (scope_of m) x o ≡ [] → (e : Entry) × (o ≡ Some e)
    some_memory None h = absurd (false≢true (unless_true false 52 x.memory.place h))
    some_memory (Some e) h = (e, refl)

pub port_means : (m : PlacedModule) (memory : List ℕ) (e : Entry) (x : PlacedWrite) → x.memory.text ≡ memory → PortRight m e x → WriteMeans (names_here m) memory (write_plain x) (port_of (scope_of m) x)
port_means m memory e x same r = record {
  target = same;
  enable = fits_means m x.enable.operand (length m.wires) 1 r.enable;
  address = fits_means m x.address.operand (length m.wires) r.log r.address;
  value = fits_means m x.value.operand (length m.wires) e.bits r.value;
}

pub port_fits : (m : PlacedModule) (e : Entry) (x : PlacedWrite) (w : Widths) (k : Memory) → Wide m (length m.wires) w → e.depth ≡ Some k.depth_log → k.bits ≡ e.bits → PortRight m e x → PortFits w k (port_of (scope_of m) x)
port_fits m e x w k wide deep bits r =
    let log : r.log ≡ k.depth_log = same_Some r.log k.depth_log (sym r.depth ∙ deep) in
    record {
      addr = subst (λ n. HasBits w n (atom_in (scope_of m) x.address.operand)) log (fits_bits m x.address.operand (length m.wires) r.log w r.address wide);
      enable = fits_bits m x.enable.operand (length m.wires) 1 w r.enable wide;
      value = subst (λ n. HasBits w n (atom_in (scope_of m) x.value.operand)) (sym bits) (fits_bits m x.value.operand (length m.wires) e.bits w r.value wide);
    }

-- ---- the further ports of a block

-- the further ports of the memory's block that are behind
pub data Furthers (m : PlacedModule) (memory : List ℕ) (e : Entry) : List Drive → Type 0 where
  ends : (ds : List Drive) → others_plain ds ≡ [] → further_ports (scope_of m) ds ≡ [] → Furthers m memory e ds
  goes : (x : PlacedWrite) (ds : List Drive) → x.memory.text ≡ memory → PortRight m e x → Furthers m memory e ds → Furthers m memory e (further x ∷ ds)

pub furthers : (m : PlacedModule) (memory : List ℕ) (e : Entry) (log : ℕ) (s : Driven) (i : ℕ) (ds : List Drive) → find_sort (scope_of m) memory sort.Memory ≡ Some e → e.depth ≡ Some log → s.block ≡ memory
    → ((j : ℕ) (d : Drive) → slice_get ds j ≡ Some d → SizedDrive d) → drive_faults (scope_of m) s i ds ≡ [] → Furthers m memory e ds
furthers m memory e log s i [] at deep block sized h = ends [] refl refl
furthers m memory e log s i (register enable name next ∷ ds) at deep block sized h = ends (register enable name next ∷ ds) refl refl
furthers m memory e log s i (first x ∷ ds) at deep block sized h = ends (first x ∷ ds) refl refl
furthers m memory e log s i (further x ∷ ds) at deep block sized h =
    let one = none_left (drive_faults_one (scope_of m) s (further x)) _ h in
    let same : x.memory.text ≡ memory = further_same (scope_of m) s x one ∙ block in
    let here : memory_of (scope_of m) x.memory ≡ Some e = ap (λ n. find_sort (scope_of m) n sort.Memory) same ∙ at in
    goes x ds same (write_right m x e log here deep (sized 0 (further x) refl) (none_left (write_faults (scope_of m) x) _ one))
    (furthers m memory e log (after_drive (scope_of m) s i (further x)) (i + 1) ds at deep block (λ j d k. sized (suc j) d k) (none_right (drive_faults_one (scope_of m) s (further x)) _ h))

pub furthers_mean : (m : PlacedModule) (memory : List ℕ) (e : Entry) (ds : List Drive) → Furthers m memory e ds → InOrder (WriteMeans (names_here m) memory) (others_plain ds) (further_ports (scope_of m) ds)
furthers_mean m memory e ds (ends ds2 o p) =
    subst (λ us. InOrder (WriteMeans (names_here m) memory) us (further_ports (scope_of m) ds)) (sym o) (subst (InOrder (WriteMeans (names_here m) memory) []) (sym p) none)
furthers_mean m memory e _ (goes x ds same r f) =
    another (write_plain x) (port_of (scope_of m) x) (others_plain ds) (further_ports (scope_of m) ds) (port_means m memory e x same r) (furthers_mean m memory e ds f)

pub furthers_fit : (m : PlacedModule) (memory : List ℕ) (e : Entry) (ds : List Drive) (w : Widths) (k : Memory) → Wide m (length m.wires) w → e.depth ≡ Some k.depth_log → k.bits ≡ e.bits → Furthers m memory e ds
    → All (PortFits w k) (further_ports (scope_of m) ds)
furthers_fit m memory e ds w k wide deep bits (ends ds2 o p) = subst (All (PortFits w k)) (sym p) (All-nil (PortFits w k))
furthers_fit m memory e _ w k wide deep bits (goes x ds same r f) =
    All-cons (PortFits w k) (port_of (scope_of m) x) (further_ports (scope_of m) ds) (port_fits m e x w k wide deep bits r) (furthers_fit m memory e ds w k wide deep bits f)

-- ---- the block of a memory

-- the memory at a place has the ports of a block
pub record BlockRight (m : PlacedModule) (place : ℕ) (x : PlacedWrite) : Type 0 where
  pub entry : Entry
  pub at : memory_of (scope_of m) x.memory ≡ Some entry
  pub is : IsMemory m.mems x.memory.text entry
  pub log : ℕ
  pub depth : entry.depth ≡ Some log
  pub first_port : PortRight m entry x
  pub others : Furthers m x.memory.text entry (drop (suc place) m.drives)
  pub found : slice_get (circuit_of m).mems entry.number ≡ Some (record { bits = declared_bits is.x.high; depth_log = log; ports = port_of (scope_of m) x ∷ further_ports (scope_of m) (drop (suc place) m.drives) })

-- a register's edge
pub record RegisterRight (m : PlacedModule) (enable : PlacedOperand) (name : PlacedName) (next : PlacedOperand) : Type 0 where
  pub entry : Entry
  pub at : register_of (scope_of m) name ≡ Some entry
  pub is : IsDeclared m.regs name.text entry
  pub enable_fits : Fits m enable.operand (length m.wires) 1
  pub next_fits : Fits m next.operand (length m.wires) entry.bits
  pub found : slice_get (circuit_of m).regs entry.number
      ≡ Some (record { bits = declared_bits is.x.high; enable = atom_in (scope_of m) enable.operand; next = atom_in (scope_of m) next.operand })

module _ (m : PlacedModule) (c : Clean m) (sized : IsSizedModule m) (allowed : (k : ℕ) (x : PlacedMemory) → slice_get m.mems k ≡ Some x → MemoryAllowed x) where
  register_slot : (j : ℕ) (d : Drive) (e : Entry) → slice_get m.drives j ≡ Some d → register_target (scope_of m) d ≡ Some e → e.number < length m.regs → slot (driven (scope_of m) m).regs e.number ≡ Some j
  register_slot j d e at target low =
      let os = map (register_target (scope_of m)) m.drives in
      ap (λ s. slot s e.number) (regs_fill (scope_of m) (undriven m) 0 m.drives)
      ∙ in_slot (length m.regs) os j e (registers_free (scope_of m) (undriven m) 0 m.drives c.drives) (get_map (register_target (scope_of m)) m.drives j d at ∙ ap Some target) low

  block_slot : (j : ℕ) (d : Drive) (e : Entry) → slice_get m.drives j ≡ Some d → block_target (scope_of m) d ≡ Some e → e.number < length m.mems → slot (driven (scope_of m) m).blocks e.number ≡ Some j
  block_slot j d e at target low =
      let os = map (block_target (scope_of m)) m.drives in
      ap (λ s. slot s e.number) (blocks_fill (scope_of m) (undriven m) 0 m.drives)
      ∙ in_slot (length m.mems) os j e (blocks_free (scope_of m) (undriven m) 0 m.drives c.drives) (get_map (block_target (scope_of m)) m.drives j d at ∙ ap Some target) low

  pub register_right : (j : ℕ) (enable : PlacedOperand) (name : PlacedName) (next : PlacedOperand) → slice_get m.drives j ≡ Some (register enable name next) → RegisterRight m enable name next
  register_right j enable name next at =
      let scope = scope_of m in
      let f = drives_fit scope (undriven m) 0 m.drives c.drives j (register enable name next) at in
      let rest = none_right (bits_faults scope enable 1) _ f.2 in
      let t = target_fits scope f.0.regs name next (register_of scope name) (none_right (known_faults scope next) _ rest) in
      let is = found_register m name.text t.entry t.is in
      let s = sized.drives j (register enable name next) at in
      let here = register_slot j (register enable name next) t.entry at t.is (slice_get_within m.regs t.entry.number is.x is.found) in
      let none_before : 0 + t.entry.number ≡ t.entry.number = omega arith in
      let by : slot (driven scope m).regs (0 + t.entry.number) ≡ Some j = ap (slot (driven scope m).regs) none_before ∙ here in
      record {
        entry = t.entry;
        at = t.is;
        is = is;
        enable_fits = bits_fits m enable 1 (none_left (bits_faults scope enable 1) _ f.2) s.0;
        next_fits = known_fits m next t.entry.bits (none_left (known_faults scope next) _ rest) t.may s.1;
        found = regs_at scope m.drives (driven scope m).regs 0 m.regs t.entry.number is.x is.found
            ∙ (ap (λ o. Some (register_by scope m.drives (declared_bits is.x.high) o)) by
            ∙ ap (λ o. Some (option_map_or (register_from scope (declared_bits is.x.high)) o (record { bits = declared_bits is.x.high; enable = nothing; next = nothing }))) at);
      }

  pub block_right : (j : ℕ) (x : PlacedWrite) → slice_get m.drives j ≡ Some (first x) → BlockRight m j x
  block_right j x at =
      let scope = scope_of m in
      let f = drives_fit scope (undriven m) 0 m.drives c.drives j (first x) at in
      let writes = none_left (write_faults scope x) _ f.2 in
      let e = write_memory m x writes in
      let is = found_memory m x.memory.text e.0 e.1 in
      let a = allowed e.0.number is.x is.found in
      let deep : e.0.depth ≡ Some a.log = is.depth ∙ a.is in
      let here = block_slot j (first x) e.0 at e.1 (slice_get_within m.mems e.0.number is.x is.found) in
      let none_before : 0 + e.0.number ≡ e.0.number = omega arith in
      let by : slot (driven scope m).blocks (0 + e.0.number) ≡ Some j = ap (slot (driven scope m).blocks) none_before ∙ here in
      let ports : ports_by scope m.drives (slot (driven scope m).blocks (0 + e.0.number)) ≡ port_of scope x ∷ further_ports scope (drop (suc j) m.drives) =
      ap (ports_by scope m.drives) by ∙ ap (block_ports scope) (drop_get m.drives j (first x) at) in
      let log : unwrap_or (depth_of is.x.last) 0 ≡ a.log = ap (λ o. unwrap_or o 0) a.is in
      record {
        entry = e.0;
        at = e.1;
        is = is;
        log = a.log;
        depth = deep;
        first_port = write_right m x e.0 a.log e.1 deep (sized.drives j (first x) at) writes;
        others = furthers m x.memory.text e.0 a.log (after_drive scope f.0 f.1 (first x)) (f.1 + 1) (drop (suc j) m.drives) e.1 deep refl (λ k d g. sized.drives (suc j + k) d (get_drop m.drives (suc j) k d g)) f.3;
        found = mems_at scope m.drives (driven scope m).blocks 0 m.mems e.0.number is.x is.found
            ∙ (ap (λ ps. Some (record { bits = declared_bits is.x.high; depth_log = unwrap_or (depth_of is.x.last) 0; ports = ps })) ports
            ∙ ap (λ n. Some (record { bits = declared_bits is.x.high; depth_log = n; ports = port_of scope x ∷ further_ports scope (drop (suc j) m.drives) })) log);
      }

  -- each memory has a block
  pub has_block : in_blocks false m.drives ≡ true → (k : ℕ) (x : PlacedMemory) → slice_get m.mems k ≡ Some x → (j : ℕ) × (y : PlacedWrite) × (slice_get m.drives j ≡ Some (first y)) × ((e : Entry) × (memory_of (scope_of m) y.memory ≡ Some e) × (e.number ≡ k))
  has_block blocks k x at =
      let scope = scope_of m in
      let low : k < length (memory_names m.mems) = long k (slice_get_within m.mems k x at) in
      let none_before : 0 + k ≡ k = omega arith in
      let full = subst (λ n. is_some (slot (driven scope m).ports n) ≡ true) none_before (never_none (driven scope m).ports 0 (memory_names m.mems) c.mems k low) in
      let y = some_of (slot (driven scope m).ports k) full in
      let os = map (port_target scope) m.drives in
      let p = put_in (length m.mems) os k y.0 (sym (ap (λ s. slot s k) (ports_fill scope (undriven m) 0 m.drives)) ∙ y.1) in
      let d = get_back (port_target scope) m.drives p.place (Some p.entry) p.at in
      by_port p.place d.0 p.entry d.1 d.2 p.number
    where
      long : (k : ℕ) → k < length m.mems → k < length (memory_names m.mems)
      long k h = subst (λ n. k < n) (sym (map_long m.mems)) h
        where
          map_long : (xs : List PlacedMemory) → length (memory_names xs) ≡ length xs
          map_long [] = refl
          map_long (x ∷ xs) = ap suc (map_long xs)

      by_port : (j : ℕ) (d : Drive) (e : Entry) → slice_get m.drives j ≡ Some d → port_target (scope_of m) d ≡ Some e → e.number ≡ k → (i : ℕ) × (y : PlacedWrite) × (slice_get m.drives i ≡ Some (first y)) × ((f : Entry) × (memory_of (scope_of m) y.memory ≡ Some f) × (f.number ≡ k))
      by_port j (register enable name next) e at target number = absurd (none-some e target)
      by_port j (first y) e at target number = (j, y, at, (e, target, number))
      by_port j (further y) e at target number =
          let l = leads (scope_of m) (undriven m) m.drives blocks c.drives j y at in
          (l.place, l.write, l.at, (e, ap (λ n. find_sort (scope_of m) n sort.Memory) (sym l.same) ∙ target, number))

  -- each register is set
  pub has_edge : (k : ℕ) (x : PlacedDeclared) → slice_get m.regs k ≡ Some x → (j : ℕ) × (d : Drive) × (e : Entry) × (slice_get m.drives j ≡ Some d) × (register_target (scope_of m) d ≡ Some e) × (e.number ≡ k)
  has_edge k x at =
      let scope = scope_of m in
      let low : k < length (declared_names m.regs) = subst (λ n. k < n) (sym (map_long m.regs)) (slice_get_within m.regs k x at) in
      let none_before : 0 + k ≡ k = omega arith in
      let full = subst (λ n. is_some (slot (driven scope m).regs n) ≡ true) none_before (never_none (driven scope m).regs 0 (declared_names m.regs) c.regs k low) in
      let y = some_of (slot (driven scope m).regs k) full in
      let os = map (register_target scope) m.drives in
      let p = put_in (length m.regs) os k y.0 (sym (ap (λ s. slot s k) (regs_fill scope (undriven m) 0 m.drives)) ∙ y.1) in
      let d = get_back (register_target scope) m.drives p.place (Some p.entry) p.at in
      (p.place, d.0, p.entry, d.1, d.2, p.number)
    where
      map_long : (xs : List PlacedDeclared) → length (declared_names xs) ≡ length xs
      map_long [] = refl
      map_long (x ∷ xs) = ap suc (map_long xs)

-- ---- addresses of ports

same_atoms : (a b : Atom) → same_atom a b ≡ true → a ≡ b
same_atoms (atom.Constant b v) (atom.Constant d w) h =
    let p = and_parts (eqb b d) (eqb v w) h in ap (λ x. atom.Constant x v) (eqb-true b d p.0) ∙ ap (atom.Constant d) (eqb-true v w p.1)
same_atoms (atom.Input j) (atom.Input k) h = ap atom.Input (eqb-true j k h)
same_atoms (atom.Reg j) (atom.Reg k) h = ap atom.Reg (eqb-true j k h)
same_atoms (atom.Wire j) (atom.Wire k) h = ap atom.Wire (eqb-true j k h)
same_atoms (atom.Constant b v) (atom.Input k) h = absurd (false≢true h)
same_atoms (atom.Constant b v) (atom.Reg k) h = absurd (false≢true h)
same_atoms (atom.Constant b v) (atom.Wire k) h = absurd (false≢true h)
same_atoms (atom.Input j) (atom.Constant b v) h = absurd (false≢true h)
same_atoms (atom.Input j) (atom.Reg k) h = absurd (false≢true h)
same_atoms (atom.Input j) (atom.Wire k) h = absurd (false≢true h)
same_atoms (atom.Reg j) (atom.Constant b v) h = absurd (false≢true h)
same_atoms (atom.Reg j) (atom.Input k) h = absurd (false≢true h)
same_atoms (atom.Reg j) (atom.Wire k) h = absurd (false≢true h)
same_atoms (atom.Wire j) (atom.Constant b v) h = absurd (false≢true h)
same_atoms (atom.Wire j) (atom.Input k) h = absurd (false≢true h)
same_atoms (atom.Wire j) (atom.Reg k) h = absurd (false≢true h)

pub any_place : {A : Type 0} (p : A → Bool) (xs : List A) → list_any p xs ≡ true → (k : ℕ) × (x : A) × (slice_get xs k ≡ Some x) × (p x ≡ true)
any_place p [] h = absurd (false≢true h)
any_place p (x ∷ xs) h =
    elim (cases_Bool (p x)) [
      | inl t ↦ (0, x, refl, t)
      | inr f ↦ let r = any_place p xs (sym (ap (λ b. b || list_any p xs) f) ∙ h) in (suc r.0, r.1, r.2, r.3)
    ]

-- the answer of a test, where the answer for nothing is no
no_default : {A : Type 0} (test : A → Bool) (o : Option A) → option_map_or test o false ≡ true → (x : A) × (o ≡ Some x) × (test x ≡ true)
no_default test None h = absurd (false≢true h)
no_default test (Some x) h = (x, refl, h)

pub record AddressOf (m : PlacedModule) (k : ℕ) (a : Atom) (x : PlacedWrite) : Type 0 where
  pub entry : Entry
  pub at : memory_of (scope_of m) x.memory ≡ Some entry
  pub number : k ≡ entry.number
  pub address : (port_of (scope_of m) x).addr ≡ a

pub port_address : (m : PlacedModule) (k : ℕ) (a : Atom) (x : PlacedWrite) → is_port_of (scope_of m) k a x ≡ true → AddressOf m k a x
port_address m k a x h =
    let r = no_default (λ (e : Entry). option_map_or (λ (v : Meaning). eqb k e.number && same_atom a v.atom) (meaning (scope_of m) x.address.operand) false) (memory_of (scope_of m) x.memory) h in
    let s = no_default (λ (v : Meaning). eqb k r.0.number && same_atom a v.atom) (meaning (scope_of m) x.address.operand) r.2 in
    let p = and_parts (eqb k r.0.number) (same_atom a s.0.atom) s.2 in
    record { entry = r.0; at = r.1; number = eqb-true k r.0.number p.0; address = atom_is m x.address.operand s.0 s.1 ∙ sym (same_atoms a s.0.atom p.1) }
