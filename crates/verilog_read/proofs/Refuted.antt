-- A module that means a valid circuit has no fault.
use Rattle.std.proofs.Common.{◌≡◌, ◌≢◌, ◌⊎◌, inl, inr, ℕ, zero, suc, ◌+◌, ◌<◌, Bool, true, false, ◌&&◌, ◌||◌, eqb, List, [], ◌∷◌, ◌++◌, length, map, take, drop, Option, Some, None, append_assoc, refl, sym, ap, ◌∙◌, subst, arith}
use Rattle.std.specs.Prelude.{slice_get, is_some, bytes_eq}
use Rattle.std.specs.List.{Contains}
use Rattle.std.specs.Option.{option_map_or, option_and_then}
use Rattle.std.proofs.lemmas.Bool.{false≢true, and_parts, and_from, eq-eqb}
use Rattle.std.proofs.lemmas.Option.{none-some, same_Some, slice_get_within}
use Rattle.std.proofs.lemmas.List.Elements.{All-append, Contains-append_left, Contains-append_right}
use Rattle.std.proofs.lemmas.List.Sorted.{Contains-permutation, IsPermutation-sym}
use Rattle.rtl_core.specs.declared.design.Atom.{Atom}
use Rattle.rtl_core.specs.declared.design.Atom.TheVariants as atom
use Rattle.rtl_core.specs.declared.design.Pin.{Pin}
use Rattle.rtl_core.specs.declared.design.OutPin.{OutPin}
use Rattle.rtl_core.specs.declared.design.Reg.{Reg}
use Rattle.rtl_core.specs.declared.design.Port.{Port}
use Rattle.rtl_core.specs.declared.design.Wire.{Wire}
use Rattle.rtl_core.specs.Netlist.{Netlist, Memory}
use Rattle.rtl_core.specs.Interface.{outer}
use Rattle.rtl_core.specs.ClockStep.{Widths, widths, widths_after}
use Rattle.rtl_core.specs.Valid.{IsBetween, AreDistinct, HasBits, RegisterFits, PortFits, MemoryFits, OutputFits, IsValid}
use Rattle.rtl_core.specs.ModuleTokens.{number_value}
use Rattle.rtl_core.specs.ModuleSyntax.{Operand, Declared, DeclaredMemory, Assign, Write, Register, Writes}
use Rattle.rtl_core.specs.ModuleText.{Names, output_names, declared_name, declared_pin, OperandMeans, WireMeans, MemoryMeans, InOrder, another, AssignMeans, WriteMeans, target, RegisterMeans, BlockMeans, Means}
use Rattle.verilog_read.specs.declared.names.Sort.TheVariants as sort
use Rattle.verilog_read.specs.declared.names.Entry.{Entry}
use Rattle.verilog_read.specs.declared.names.Meaning.{Meaning}
use Rattle.verilog_read.specs.Numbers.{declared_bits, depth_of}
use Rattle.verilog_syntax.specs.PlacedSyntax.{PlacedName, PlacedOperand, PlacedDeclared, PlacedMemory, PlacedWire, PlacedAssign, PlacedWrite, Drive, register, first, further, PlacedModule}
use Rattle.verilog_read.specs.Scope.{declared_from, memories_from, pins, declarations, scope_of, of_sort, find_sort, meaning}
use Rattle.verilog_syntax.specs.Marks.{in_blocks}
use Rattle.verilog_read.specs.Faults.{unless, no_scope, declared_faults, header_faults, turn_faults, is_free, filled_by, slot, no_slots, may_have, same_atom, known_faults, bits_faults, depth_faults, net_faults, net_fits, wire_faults_one, wire_faults, target_faults, output_of, assign_faults, output_slots, memory_of, port_faults, write_faults, begin_faults, register_of, Driven, drive_faults_one, after_drive, drive_faults, never_faults, declared_names, memory_names, undriven, driven, is_port_of, is_port_drive, port_addresses, module_faults}
use Rattle.verilog_syntax.proofs.Places.{All-place, contains_place, place_contains, get_map, get_back, get_drop, one_at, some_place}
use Rattle.verilog_read.proofs.NoFaults.{none_both, unless_none}
use Rattle.verilog_syntax.proofs.Unplaced.{declared_plain, memory_plain, wire_plain, assign_plain, write_plain, others_plain, blocks_plain, syntax_of}
use Rattle.verilog_read.proofs.Declared.{names_of, bytes_same, IsAllowed, output_entry, register_entry, memory_entry}
use Rattle.verilog_read.proofs.Distinct.{Among, place_among, all_among, distinct_left, distinct_right, places_distinct}
use Rattle.verilog_read.proofs.Operands.{found_register, found_memory, names_here, register_name, memory_name}
use Rattle.verilog_read.proofs.Slots.{AreFree, IsFree, free_slot, free_long, in_slot, assigns_fill, regs_fill, ports_fill, register_target, block_target, port_target}
use Rattle.verilog_read.proofs.Clean.{pin_names_are, all_names_are}
use Rattle.verilog_read.proofs.Meaning.{map_long, Targets, target_in, in_target}
use Rattle.verilog_read.proofs.OneCircuit.{Apart, apart, in_order_at}
use Rattle.verilog_read.proofs.FaultlessNets.{Declares, Known, MemoryKnown, operand_known, known_none, may_true, bits_none, net_none}
use Rattle.verilog_read.proofs.Faultless.{take_back, in_order_of, any_true, wires_at, permuted_apart, declared_none, section_allowed, memories_allowed, wires_allowed, bits_exact, between_true, log_found, header_none, all_free, fills_some, never_absent}

-- ---- drives and blocks

pub first_block : (ds : List Drive) (i : ℕ) (x : PlacedWrite) → slice_get ds i ≡ Some (first x) → (j : ℕ) × (slice_get (blocks_plain ds) j ≡ Some (Writes (write_plain x) (others_plain (drop (suc i) ds))))
first_block [] i x e = absurd (none-some (first x) e)
first_block (register a n y ∷ ds) zero x e = absurd cc
first_block (first y ∷ ds) zero x e = let same : y ≡ x = cc in (0, ap (λ z. Some (Writes (write_plain z) (others_plain ds))) same)
first_block (further y ∷ ds) zero x e = absurd cc
first_block (register a n y ∷ ds) (suc i) x e = let r = first_block ds i x e in (suc r.0, r.1)
first_block (first y ∷ ds) (suc i) x e = let r = first_block ds i x e in (suc r.0, r.1)
first_block (further y ∷ ds) (suc i) x e = first_block ds i x e

pub register_block : (ds : List Drive) (i : ℕ) (enable : PlacedOperand) (name : PlacedName) (next : PlacedOperand) → slice_get ds i ≡ Some (register enable name next)
    → (j : ℕ) × (slice_get (blocks_plain ds) j ≡ Some (Register enable.operand name.text next.operand))
register_block [] i a n y e = absurd (none-some (register a n y) e)
register_block (register b p z ∷ ds) zero a n y e =
    let sa : b ≡ a = cc in
    let sn : p ≡ n = cc in
    let sy : z ≡ y = cc in
    (0, ap (λ (t : PlacedOperand). Some (Register t.operand p.text z.operand)) sa ∙ (ap (λ (t : PlacedName). Some (Register a.operand t.text z.operand)) sn ∙ ap (λ (t : PlacedOperand). Some (Register a.operand n.text t.operand)) sy))
register_block (first x ∷ ds) zero a n y e = absurd cc
register_block (further x ∷ ds) zero a n y e = absurd cc
register_block (register b p z ∷ ds) (suc i) a n y e = let r = register_block ds i a n y e in (suc r.0, r.1)
register_block (first x ∷ ds) (suc i) a n y e = let r = register_block ds i a n y e in (suc r.0, r.1)
register_block (further x ∷ ds) (suc i) a n y e = register_block ds i a n y e

head_apart : (d : Drive) (ds : List Drive) (z : List ℕ) (k : ℕ) (e : Drive) → AreDistinct (map target (blocks_plain (d ∷ ds))) → Targets d z → slice_get ds k ≡ Some e → Targets e z → ⊥
head_apart (register a n y) ds z k e apart t at u = all_among (λ w. n.text ≢ w) (map target (blocks_plain ds)) z apart.0 (in_target ds k e z at u) t
head_apart (first x) ds z k e apart t at u = all_among (λ w. x.memory.text ≢ w) (map target (blocks_plain ds)) z apart.0 (in_target ds k e z at u) t
head_apart (further x) ds z k e apart t at u = t

tail_apart : (d : Drive) (ds : List Drive) → AreDistinct (map target (blocks_plain (d ∷ ds))) → AreDistinct (map target (blocks_plain ds))
tail_apart (register a n y) ds apart = apart.1
tail_apart (first x) ds apart = apart.1
tail_apart (further x) ds apart = apart

one_target : (ds : List Drive) → AreDistinct (map target (blocks_plain ds)) → (j k : ℕ) (d e : Drive) (z : List ℕ) → slice_get ds j ≡ Some d → slice_get ds k ≡ Some e → Targets d z → Targets e z → j ≡ k
one_target [] apart j k d e z a b t u = absurd (none-some d a)
one_target (x ∷ xs) apart zero zero d e z a b t u = refl
one_target (x ∷ xs) apart zero (suc k) d e z a b t u = absurd (head_apart x xs z k e apart (subst (λ y. Targets y z) (sym (same_Some x d a)) t) b u)
one_target (x ∷ xs) apart (suc j) zero d e z a b t u = absurd (head_apart x xs z j d apart (subst (λ y. Targets y z) (sym (same_Some x e b)) u) a t)
one_target (x ∷ xs) apart (suc j) (suc k) d e z a b t u = ap suc (one_target xs (tail_apart x xs apart) j k d e z a b t u)

same_atom_true : (a : Atom) → same_atom a a ≡ true
same_atom_true (atom.Constant b v) = and_from (eqb b b) (eqb v v) (eq-eqb b b refl) (eq-eqb v v refl)
same_atom_true (atom.Input k) = eq-eqb k k refl
same_atom_true (atom.Reg k) = eq-eqb k k refl
same_atom_true (atom.Wire k) = eq-eqb k k refl

module _ (m : PlacedModule) (e : Netlist) (p : Means (syntax_of m) e) (v : IsValid e) (blocks : in_blocks false m.drives ≡ true) where
  abbrev n : Names
  n = names_here m

  distinct : AreDistinct (names_of (declarations m))
  distinct = subst AreDistinct (sym (all_names_are m)) p.distinct

  far : Apart (names_here m)
  far = apart (syntax_of m) p.distinct

  -- ---- what the circuit has at each place

  input_at : (k : ℕ) (x : PlacedDeclared) → slice_get m.inputs k ≡ Some x → slice_get e.inputs k ≡ Some (declared_pin (declared_plain x))
  input_at k x at = ap (λ xs. slice_get xs k) p.inputs ∙ get_map declared_pin (map declared_plain m.inputs) k (declared_plain x) (get_map declared_plain m.inputs k x at)

  input_wide : (k : ℕ) (x : PlacedDeclared) → slice_get m.inputs k ≡ Some x → IsBetween 1 64 (suc (number_value x.high))
  input_wide k x at = All-place (λ (q : Pin). IsBetween 1 64 q.bits) e.inputs k (declared_pin (declared_plain x)) v.inputs (input_at k x at)

  output_at : (k : ℕ) (x : PlacedDeclared) → slice_get m.outputs k ≡ Some x → (o : OutPin) × (slice_get e.outputs k ≡ Some o) × (outer o ≡ declared_pin (declared_plain x))
  output_at k x at =
      get_back outer e.outputs k (declared_pin (declared_plain x)) (ap (λ xs. slice_get xs k) p.outputs ∙ get_map declared_pin (map declared_plain m.outputs) k (declared_plain x) (get_map declared_plain m.outputs k x at))

  output_wide : (k : ℕ) (x : PlacedDeclared) → slice_get m.outputs k ≡ Some x → IsBetween 1 64 (suc (number_value x.high))
  output_wide k x at =
      let o = output_at k x at in subst (IsBetween 1 64) (ap (λ (q : Pin). q.bits) o.2) (All-place (OutputFits (widths e)) e.outputs k o.0 v.outputs o.1).bits

  register_at : (k : ℕ) (x : PlacedDeclared) → slice_get m.regs k ≡ Some x → (r : Reg) × (slice_get e.regs k ≡ Some r) × (r.bits ≡ suc (number_value x.high))
  register_at k x at =
      get_back (λ (r : Reg). r.bits) e.regs k (suc (number_value x.high))
      (ap (λ xs. slice_get xs k) p.regs ∙ get_map (λ (y : Declared). suc (number_value y.high)) (map declared_plain m.regs) k (declared_plain x) (get_map declared_plain m.regs k x at))

  register_wide : (k : ℕ) (x : PlacedDeclared) → slice_get m.regs k ≡ Some x → IsBetween 1 64 (suc (number_value x.high))
  register_wide k x at = let r = register_at k x at in subst (IsBetween 1 64) r.2 (All-place (RegisterFits (widths e)) e.regs k r.0 v.regs r.1).bits

  memory_at : (k : ℕ) (x : PlacedMemory) → slice_get m.mems k ≡ Some x → (h : Memory) × (slice_get e.mems k ≡ Some h) × MemoryMeans (memory_plain x) h
  memory_at k x at = in_order_of MemoryMeans (map memory_plain m.mems) e.mems p.mems k (memory_plain x) (get_map memory_plain m.mems k x at)

  memory_fits : (k : ℕ) (h : Memory) → slice_get e.mems k ≡ Some h → MemoryFits (widths e) h
  memory_fits k h at = All-place (MemoryFits (widths e)) e.mems k h v.mems at

  wire_at : (k : ℕ) (x : PlacedWire) → slice_get m.wires k ≡ Some x → (w : Wire) × (slice_get e.wires k ≡ Some w) × WireMeans (names_here m) (wire_plain x) w
  wire_at k x at = in_order_of (WireMeans (names_here m)) (map wire_plain m.wires) e.wires p.wires k (wire_plain x) (get_map wire_plain m.wires k x at)

  exact : (high : List ℕ) → IsBetween 1 64 (suc (number_value high)) → declared_bits high ≡ suc (number_value high)
  exact high b = bits_exact high (omega (arith, b.1))

  memory_exact : (k : ℕ) (x : PlacedMemory) → slice_get m.mems k ≡ Some x → declared_bits x.high ≡ suc (number_value x.high)
  memory_exact k x at = let h = memory_at k x at in bits_exact x.high (omega (arith, h.2.bits, (memory_fits k h.0 h.1).bits.1))

  memory_log : (k : ℕ) (x : PlacedMemory) (h : Memory) → slice_get m.mems k ≡ Some x → slice_get e.mems k ≡ Some h → depth_of x.last ≡ Some h.depth_log
  memory_log k x h at found =
      let y = memory_at k x at in
      let same : y.0 ≡ h = one_at e.mems k y.0 h y.1 found in
      let means = subst (MemoryMeans (memory_plain x)) same y.2 in
      let f = memory_fits k h found in
      log_found 16 1 (suc (number_value x.last)) h.depth_log means.depth f.depth.0 (omega (arith, f.depth.1))

  wire_wide : (k : ℕ) (x : PlacedWire) → slice_get m.wires k ≡ Some x → IsBetween 1 128 (suc (number_value x.high))
  wire_wide k x at = let w = wire_at k x at in subst (IsBetween 1 128) w.2.bits (wires_at e [] e.wires v.wires k w.0 w.1).0

  -- ---- declarations

  declarations_none : declared_faults no_scope (declarations m) ≡ []
  declarations_none =
      declared_none no_scope (declarations m) (λ k q lt. refl) distinct
      (All-append IsAllowed (pins m) _
      (All-append IsAllowed (declared_from sort.Input 0 m.inputs) _
      (section_allowed sort.Input 0 m.inputs (λ k x at. let b = input_wide k x at in between_true 1 64 (declared_bits x.high) (subst (IsBetween 1 64) (sym (exact x.high b)) b)))
      (section_allowed sort.Output 0 m.outputs (λ k x at. let b = output_wide k x at in between_true 1 64 (declared_bits x.high) (subst (IsBetween 1 64) (sym (exact x.high b)) b))))
      (All-append IsAllowed (declared_from sort.Register 0 m.regs) _
      (section_allowed sort.Register 0 m.regs (λ k x at. let b = register_wide k x at in between_true 1 64 (declared_bits x.high) (subst (IsBetween 1 64) (sym (exact x.high b)) b)))
      (All-append IsAllowed (memories_from 0 m.mems) _
      (memories_allowed 0 m.mems
      (λ k x at.
      let h = memory_at k x at in
      let b = (memory_fits k h.0 h.1).bits in
      let wide : IsBetween 1 64 (declared_bits x.high) = subst (IsBetween 1 64) (h.2.bits ∙ sym (memory_exact k x at)) b in
      and_from _ (is_some (depth_of x.last)) (between_true 1 64 (declared_bits x.high) wide) (ap is_some (memory_log k x h.0 at h.1))))
      (wires_allowed 0 m.wires
      (λ k x at. let b = wire_wide k x at in between_true 1 128 (declared_bits x.high) (subst (IsBetween 1 128) (sym (bits_exact x.high b.1)) b))))))

  header_is_none : header_faults m.header (pins m) ≡ []
  header_is_none = let r = header_none m.header (pins m) (p.header ∙ sym (pin_names_are m)) in none_both (turn_faults m.header (pins m)) _ r.0 r.1

  -- ---- widths

  declares : (j : ℕ) (before : List Wire) → ((k : ℕ) (w : Wire) → slice_get before k ≡ Some w → (slice_get e.wires k ≡ Some w) × (k < length m.wires → k < j)) → Declares m j (widths_after e before)
  declares j before h = record {
    inputs = λ k b x at g.
        same_Some b (suc (number_value x.high)) (sym g ∙ get_map (λ (q : Pin). q.bits) e.inputs k (declared_pin (declared_plain x)) (input_at k x at)) ∙ sym (exact x.high (input_wide k x at));
    regs = λ k b x at g.
        let r = register_at k x at in same_Some b r.0.bits (sym g ∙ get_map (λ (q : Reg). q.bits) e.regs k r.0 r.1) ∙ (r.2 ∙ sym (exact x.high (register_wide k x at)));
    wires = λ k b x at g.
        let w = get_back (λ (q : Wire). q.bits) before k b g in
        let i = h k w.0 w.1 in
        let y = wire_at k x at in
        let same : w.0 ≡ y.0 = one_at e.wires k w.0 y.0 i.0 y.1 in
        (sym w.2 ∙ (ap (λ (q : Wire). q.bits) same ∙ (y.2.bits ∙ sym (bits_exact x.high (wire_wide k x at).1))), i.1 (slice_get_within m.wires k x at));
  }

  all_widths : Declares m (length m.wires) (widths e)
  all_widths = declares (length m.wires) e.wires (λ k w at. (at, λ low. low))

  wire_widths : (j : ℕ) → Declares m j (widths_after e (take j e.wires))
  wire_widths j = declares j (take j e.wires) (λ k w at. let r = take_back e.wires j k w at in (r.1, λ low. r.0))

  known : (x : Operand) (a : Atom) (b : ℕ) → OperandMeans (names_here m) x a → HasBits (widths e) b a → Known m x a (length m.wires) b
  known x a b h k = operand_known m distinct (length m.wires) (widths e) all_widths x a b h k

  -- ---- ports

  -- a port of the memory with this name
  record WriteOk (memory : List ℕ) (x : PlacedWrite) : Type 0 where
    place : ℕ
    holder : Memory
    number : ℕ
    port : Port
    named : slice_get (names_here m).mems place ≡ Some memory
    found : slice_get e.mems place ≡ Some holder
    at : slice_get holder.ports number ≡ Some port
    means : WriteMeans (names_here m) memory (write_plain x) port

  -- the declaration of a memory with this name
  memory_here : (k : ℕ) (memory : List ℕ) → slice_get (names_here m).mems k ≡ Some memory → (x : PlacedMemory) × (slice_get m.mems k ≡ Some x) × (x.name.text ≡ memory)
  memory_here k memory h =
      let a = get_back (λ (x : DeclaredMemory). x.name) (map memory_plain m.mems) k memory h in
      let b = get_back memory_plain m.mems k a.0 a.1 in
      (b.0, b.1, ap (λ (x : DeclaredMemory). x.name) b.2 ∙ a.2)

  abbrev memory_entry_of : ℕ → PlacedMemory → Entry
  memory_entry_of k x = record { sort = sort.Memory; number = k; bits = declared_bits x.high; depth = depth_of x.last }

  found_here : (k : ℕ) (x : PlacedMemory) (memory : List ℕ) → slice_get m.mems k ≡ Some x → x.name.text ≡ memory → find_sort (scope_of m) memory sort.Memory ≡ Some (memory_entry_of k x)
  found_here k x memory at name = ap (λ z. find_sort (scope_of m) z sort.Memory) (sym name) ∙ ap (option_and_then (of_sort sort.Memory)) (memory_entry m distinct k x at)

  write_none : (memory : List ℕ) (x : PlacedWrite) → WriteOk memory x → write_faults (scope_of m) x ≡ []
  write_none memory x ok =
      let scope = scope_of m in
      let y = memory_here ok.place memory ok.named in
      let f = All-place (PortFits (widths e) ok.holder) ok.holder.ports ok.number ok.port (memory_fits ok.place ok.holder ok.found).ports ok.at in
      let enable = known x.enable.operand ok.port.enable 1 ok.means.enable f.enable in
      let address = known x.address.operand ok.port.addr ok.holder.depth_log ok.means.address f.addr in
      let stored = known x.value.operand ok.port.value ok.holder.bits ok.means.value f.value in
      let entry = memory_entry_of ok.place y.0 in
      let here : memory_of scope x.memory ≡ Some entry = found_here ok.place y.0 x.memory.text y.1 (y.2 ∙ sym ok.means.target) in
      let deep = memory_log ok.place y.0 ok.holder y.1 ok.found in
      let h = memory_at ok.place y.0 y.1 in
      let holder : h.0 ≡ ok.holder = one_at e.mems ok.place h.0 ok.holder h.1 ok.found in
      let wide : ok.holder.bits ≡ declared_bits y.0.high = ap (λ (q : Memory). q.bits) (sym holder) ∙ (h.2.bits ∙ sym (memory_exact ok.place y.0 y.1)) in
      let may = may_true m distinct (length m.wires) (widths e) all_widths in
      let depths : depth_faults scope x.address (depth_of y.0.last) ≡ [] = ap (depth_faults scope x.address) deep ∙ unless_none (may_have scope x.address.operand ok.holder.depth_log) 53 x.address.place (may x.address.operand ok.port.addr ok.holder.depth_log address) in
      let values : unless (may_have scope x.value.operand (declared_bits y.0.high)) 53 x.value.place ≡ [] =
      unless_none (may_have scope x.value.operand (declared_bits y.0.high)) 53 x.value.place (subst (λ b. may_have scope x.value.operand b ≡ true) wide (may x.value.operand ok.port.value ok.holder.bits stored)) in
      let knows = known_none m distinct (length m.wires) (widths e) all_widths in
      none_both (bits_faults scope x.enable 1 ++ (known_faults scope x.address ++ known_faults scope x.value)) _
      (none_both (bits_faults scope x.enable 1) _ (bits_none m distinct (length m.wires) (widths e) all_widths x.enable ok.port.enable 1 enable)
      (none_both (known_faults scope x.address) _ (knows x.address ok.port.addr ok.holder.depth_log address) (knows x.value ok.port.value ok.holder.bits stored)))
      (ap (port_faults scope x) here ∙ none_both (depth_faults scope x.address (depth_of y.0.last)) _ depths values)

  -- ---- edges

  abbrev FurthersOk : List ℕ → List Drive → Type 0
  FurthersOk memory [] = Unit {0}
  FurthersOk memory (register a b c ∷ ds) = Unit {0}
  FurthersOk memory (first x ∷ ds) = Unit {0}
  FurthersOk memory (further x ∷ ds) = WriteOk memory x × FurthersOk memory ds

  furthers_ok : (memory : List ℕ) (k : ℕ) (h : Memory) (j : ℕ) (ds : List Drive) (qs : List Port) → slice_get (names_here m).mems k ≡ Some memory → slice_get e.mems k ≡ Some h
      → ((i : ℕ) (q : Port) → slice_get qs i ≡ Some q → slice_get h.ports (j + i) ≡ Some q) → InOrder (WriteMeans (names_here m) memory) (others_plain ds) qs → FurthersOk memory ds
  furthers_ok memory k h j [] qs named found at o = tt
  furthers_ok memory k h j (register a b c ∷ ds) qs named found at o = tt
  furthers_ok memory k h j (first x ∷ ds) qs named found at o = tt
  furthers_ok memory k h j (further x ∷ ds) qs named found at (another w q ws qs2 means rest) =
      let here : slice_get h.ports (j + 0) ≡ Some q = at 0 q refl in (
        record { place = k; holder = h; number = j + 0; port = q; named = named; found = found; at = here; means = means },
        furthers_ok memory k h (suc j) ds qs2 named found (λ i r g. let sum : j + suc i ≡ suc j + i = omega arith in ap (slice_get h.ports) (sym sum) ∙ at (suc i) r g) rest,
      )

  first_ok : (i : ℕ) (x : PlacedWrite) → slice_get m.drives i ≡ Some (first x) → WriteOk x.memory.text x × FurthersOk x.memory.text (drop (suc i) m.drives)
  first_ok i x at =
      let b = first_block m.drives i x at in
      let w = All-place (BlockMeans (names_here m) e) (syntax_of m).blocks b.0 (Writes (write_plain x) (others_plain (drop (suc i) m.drives))) p.blocks b.1 in
      split w.place w.memory w.named w.found w.memory.ports refl w.ports
    where
      split : (k : ℕ) (h : Memory) → slice_get (names_here m).mems k ≡ Some x.memory.text → slice_get e.mems k ≡ Some h → (qs : List Port) → h.ports ≡ qs
          → InOrder (WriteMeans (names_here m) x.memory.text) (write_plain x ∷ others_plain (drop (suc i) m.drives)) qs → WriteOk x.memory.text x × FurthersOk x.memory.text (drop (suc i) m.drives)
      split k h named found _ is (another w q ws qs means rest) = (
        record { place = k; holder = h; number = 0; port = q; named = named; found = found; at = ap (λ ps. slice_get ps 0) is; means = means },
        furthers_ok x.memory.text k h 1 (drop (suc i) m.drives) qs named found (λ j r g. let sum : 1 + j ≡ suc j = omega arith in ap (slice_get h.ports) sum ∙ (ap (λ ps. slice_get ps (suc j)) is ∙ g)) rest,
      )

  data Walk : List ℕ → List Drive → Type 0 where
    done : (b : List ℕ) → Walk b []
    sets : (b : List ℕ) (enable : PlacedOperand) (name : PlacedName) (next : PlacedOperand) (ds : List Drive) → RegisterMeans (names_here m) e.regs enable.operand name.text next.operand → Walk b ds → Walk b (register enable name next ∷ ds)
    begins : (b : List ℕ) (x : PlacedWrite) (ds : List Drive) → WriteOk x.memory.text x → Walk x.memory.text ds → Walk b (first x ∷ ds)
    follows : (b : List ℕ) (x : PlacedWrite) (ds : List Drive) → WriteOk b x → Walk b ds → Walk b (further x ∷ ds)

  abbrev FirstsOk : List Drive → Type 0
  FirstsOk ds = (i : ℕ) (x : PlacedWrite) → slice_get ds i ≡ Some (first x) → WriteOk x.memory.text x × FurthersOk x.memory.text (drop (suc i) ds)

  abbrev RegistersOk : List Drive → Type 0
  RegistersOk ds = (i : ℕ) (enable : PlacedOperand) (name : PlacedName) (next : PlacedOperand) → slice_get ds i ≡ Some (register enable name next) → RegisterMeans (names_here m) e.regs enable.operand name.text next.operand

  walk : (is_open : Bool) (b : List ℕ) (ds : List Drive) → in_blocks is_open ds ≡ true → (is_open ≡ true → FurthersOk b ds) → FirstsOk ds → RegistersOk ds → Walk b ds
  walk is_open b [] i fo fs rs = done b
  walk is_open b (register enable name next ∷ ds) i fo fs rs =
      sets b enable name next ds (rs 0 enable name next refl) (walk false b ds (and_parts (is_open || true) (in_blocks false ds) i).1 (λ t. absurd (false≢true t)) (λ j x at. fs (suc j) x at) (λ j a c d at. rs (suc j) a c d at))
  walk is_open b (first x ∷ ds) i fo fs rs =
      let f = fs 0 x refl in
      begins b x ds f.0 (walk true x.memory.text ds (and_parts (is_open || true) (in_blocks true ds) i).1 (λ t. f.1) (λ j y at. fs (suc j) y at) (λ j a c d at. rs (suc j) a c d at))
  walk is_open b (further x ∷ ds) i fo fs rs =
      let q = and_parts (is_open || false) (in_blocks true ds) i in
      let f = fo (opened is_open q.0) in
      follows b x ds f.0 (walk true b ds q.1 (λ t. f.1) (λ j y at. fs (suc j) y at) (λ j a c d at. rs (suc j) a c d at))
    where
      opened : (t : Bool) → (t || false) ≡ true → t ≡ true
      opened true h = refl
      opened false h = absurd (false≢true h)

  abbrev register_entry_of : ℕ → PlacedDeclared → Entry
  register_entry_of k x = record { sort = sort.Register; number = k; bits = declared_bits x.high; depth = None }

  drives_none : (s : Driven) (i : ℕ) (b : List ℕ) (ds : List Drive) → Walk b ds → s.block ≡ b → AreFree s.regs i (map (register_target (scope_of m)) ds) → AreFree s.blocks i (map (block_target (scope_of m)) ds) → drive_faults (scope_of m) s i ds ≡ []
  drives_none s i _ _ (done b) same rf bf = refl
  drives_none s i _ _ (sets b enable name next ds r w) same rf bf =
      let scope = scope_of m in
      let a = get_back declared_name (map declared_plain m.regs) r.place name.text r.named in
      let y = get_back declared_plain m.regs r.place a.0 a.1 in
      let named : y.0.name.text ≡ name.text = ap declared_name y.2 ∙ a.2 in
      let here : register_of scope name ≡ Some (register_entry_of r.place y.0) =
      ap (λ z. find_sort scope z sort.Register) (sym named) ∙ ap (option_and_then (of_sort sort.Register)) (register_entry m distinct r.place y.0 y.1) in
      let f = All-place (RegisterFits (widths e)) e.regs r.place r.register v.regs r.found in
      let x = register_at r.place y.0 y.1 in
      let one : x.0 ≡ r.register = one_at e.regs r.place x.0 r.register x.1 r.found in
      let wide : r.register.bits ≡ declared_bits y.0.high = ap (λ (q : Reg). q.bits) (sym one) ∙ (x.2 ∙ sym (exact y.0.high (register_wide r.place y.0 y.1))) in
      let k = known next.operand r.register.next r.register.bits r.next_is f.next in
      let may = subst (λ c. may_have scope next.operand c ≡ true) wide (may_true m distinct (length m.wires) (widths e) all_widths next.operand r.register.next r.register.bits k) in
      let free : is_free s.regs r.place ≡ true = subst (IsFree s.regs) here rf.0 in
      let targets : target_faults scope s.regs name next (register_of scope name) ≡ [] =
      ap (target_faults scope s.regs name next) here
      ∙ none_both (unless (may_have scope next.operand (declared_bits y.0.high)) 53 next.place) _ (unless_none (may_have scope next.operand (declared_bits y.0.high)) 53 next.place may) (unless_none (is_free s.regs r.place) 54 name.place free) in
      none_both (drive_faults_one scope s (register enable name next)) _
      (none_both (bits_faults scope enable 1) _ (bits_none m distinct (length m.wires) (widths e) all_widths enable r.register.enable 1 (known enable.operand r.register.enable 1 r.enable_is f.enable))
      (none_both (known_faults scope next) _ (known_none m distinct (length m.wires) (widths e) all_widths next r.register.next r.register.bits k) targets))
      (drives_none (after_drive scope s i (register enable name next)) (i + 1) b ds w same rf.1 bf.1)
  drives_none s i _ _ (begins b x ds ok w) same rf bf =
      let scope = scope_of m in
      none_both (drive_faults_one scope s (first x)) _ (none_both (write_faults scope x) _ (write_none x.memory.text x ok) (begin_none s.blocks x.memory (memory_of scope x.memory) bf.0))
      (drives_none (after_drive scope s i (first x)) (i + 1) x.memory.text ds w refl rf.1 bf.1)
    where
      begin_none : (slots : List (Option ℕ)) (name : PlacedName) (o : Option Entry) → IsFree slots o → begin_faults slots name o ≡ []
      begin_none slots name None h = refl
      begin_none slots name (Some f) h = unless_none (is_free slots f.number) 54 name.place h
  drives_none s i _ _ (follows b x ds ok w) same rf bf =
      let scope = scope_of m in
      none_both (drive_faults_one scope s (further x)) _
      (none_both (write_faults scope x) _ (write_none b x ok) (unless_none (bytes_eq x.memory.text s.block) 54 x.memory.place (bytes_same x.memory.text s.block (ok.means.target ∙ sym same))))
      (drives_none (after_drive scope s i (further x)) (i + 1) b ds w same rf.1 bf.1)

  register_ok : RegistersOk m.drives
  register_ok i enable name next at =
      let b = register_block m.drives i enable name next at in
      All-place (BlockMeans (names_here m) e) (syntax_of m).blocks b.0 (Register enable.operand name.text next.operand) p.blocks b.1

  walked : Walk [] m.drives
  walked = walk false [] m.drives blocks (λ t. absurd (false≢true t)) first_ok register_ok

  -- ---- one assignment for each

  state : AreDistinct ((names_here m).regs ++ ((names_here m).mems ++ (names_here m).wires))
  state = distinct_right (output_names (syntax_of m)) (n.regs ++ (n.mems ++ n.wires)) (distinct_right n.inputs (output_names (syntax_of m) ++ (n.regs ++ (n.mems ++ n.wires))) p.distinct)

  outs : AreDistinct (output_names (syntax_of m))
  outs = distinct_left (output_names (syntax_of m)) (n.regs ++ (n.mems ++ n.wires)) (distinct_right n.inputs (output_names (syntax_of m) ++ (n.regs ++ (n.mems ++ n.wires))) p.distinct)

  targets_apart : AreDistinct (map target (syntax_of m).blocks)
  targets_apart =
      permuted_apart (map target (syntax_of m).blocks) (n.regs ++ n.mems) p.driven_once
      (distinct_left (n.regs ++ n.mems) n.wires (subst AreDistinct (sym (append_assoc n.regs n.mems n.wires)) state))

  -- the name that a target of this entry has
  register_target_is : (d : Drive) (f : Entry) → register_target (scope_of m) d ≡ Some f → (x : PlacedDeclared) × (slice_get m.regs f.number ≡ Some x) × Targets d x.name.text
  register_target_is (register a z y) f h = let is = found_register m z.text f h in (is.x, is.found, sym is.named)
  register_target_is (first x) f h = absurd (none-some f h)
  register_target_is (further x) f h = absurd (none-some f h)

  block_target_is : (d : Drive) (f : Entry) → block_target (scope_of m) d ≡ Some f → (x : PlacedMemory) × (slice_get m.mems f.number ≡ Some x) × Targets d x.name.text
  block_target_is (register a z y) f h = absurd (none-some f h)
  block_target_is (first x) f h = let is = found_memory m x.memory.text f h in (is.x, is.found, sym is.named)
  block_target_is (further x) f h = absurd (none-some f h)

  registers_are_free : AreFree (no_slots m.regs) 0 (map (register_target (scope_of m)) m.drives)
  registers_are_free =
      all_free (no_slots m.regs) 0 (map (register_target (scope_of m)) m.drives) (λ j f at. free_slot (length m.regs) f.number)
      (λ j k f g a b same.
      let x = get_back (register_target (scope_of m)) m.drives j (Some f) a in
      let y = get_back (register_target (scope_of m)) m.drives k (Some g) b in
      let t = register_target_is x.0 f x.2 in
      let u = register_target_is y.0 g y.2 in
      let one : u.0 ≡ t.0 = one_at m.regs g.number u.0 t.0 u.1 (ap (slice_get m.regs) (sym same) ∙ t.1) in
      one_target m.drives targets_apart j k x.0 y.0 t.0.name.text x.1 y.1 t.2 (subst (λ (z : PlacedDeclared). Targets y.0 z.name.text) one u.2))

  blocks_are_free : AreFree (no_slots m.mems) 0 (map (block_target (scope_of m)) m.drives)
  blocks_are_free =
      all_free (no_slots m.mems) 0 (map (block_target (scope_of m)) m.drives) (λ j f at. free_slot (length m.mems) f.number)
      (λ j k f g a b same.
      let x = get_back (block_target (scope_of m)) m.drives j (Some f) a in
      let y = get_back (block_target (scope_of m)) m.drives k (Some g) b in
      let t = block_target_is x.0 f x.2 in
      let u = block_target_is y.0 g y.2 in
      let one : u.0 ≡ t.0 = one_at m.mems g.number u.0 t.0 u.1 (ap (slice_get m.mems) (sym same) ∙ t.1) in
      one_target m.drives targets_apart j k x.0 y.0 t.0.name.text x.1 y.1 t.2 (subst (λ (z : PlacedMemory). Targets y.0 z.name.text) one u.2))

  drives_are_none : drive_faults (scope_of m) (undriven m) 0 m.drives ≡ []
  drives_are_none = drives_none (undriven m) 0 [] m.drives walked refl registers_are_free blocks_are_free

  -- ---- every register and memory has its edge

  edge_of : (z : List ℕ) → Contains ((names_here m).regs ++ (names_here m).mems) z → (j : ℕ) × (d : Drive) × (slice_get m.drives j ≡ Some d) × Targets d z
  edge_of z h =
      let targets = map target (syntax_of m).blocks in
      let there = Contains-permutation (n.regs ++ n.mems) targets z (IsPermutation-sym targets (n.regs ++ n.mems) p.driven_once) h in
      let at = contains_place targets z there in
      target_in m.drives z (place_among targets at.0 z at.1)

  first_memory : (i : ℕ) (x : PlacedWrite) → slice_get m.drives i ≡ Some (first x) → Among x.memory.text (names_here m).mems
  first_memory i x at = let ok = (first_ok i x at).0 in place_among n.mems ok.place x.memory.text ok.named

  register_name_of : (i : ℕ) (enable : PlacedOperand) (name : PlacedName) (next : PlacedOperand) → slice_get m.drives i ≡ Some (register enable name next) → Among name.text (names_here m).regs
  register_name_of i enable name next at = let r = register_ok i enable name next at in place_among n.regs r.place name.text r.named

  register_edge : (k : ℕ) (x : PlacedDeclared) → slice_get m.regs k ≡ Some x → (j : ℕ) × (slice_get (map (register_target (scope_of m)) m.drives) j ≡ Some (Some (register_entry_of k x)))
  register_edge k x at =
      let named = register_name m k x at in
      let d = edge_of x.name.text (Contains-append_left n.regs n.mems x.name.text (place_contains n.regs k x.name.text named)) in
      by d.0 d.1 d.2 d.3
    where
      by : (j : ℕ) (d : Drive) → slice_get m.drives j ≡ Some d → Targets d x.name.text → (i : ℕ) × (slice_get (map (register_target (scope_of m)) m.drives) i ≡ Some (Some (register_entry_of k x)))
      by j (register a z y) h t = (
        j,
        get_map (register_target (scope_of m)) m.drives j (register a z y) h
            ∙ ap Some (ap (λ q. find_sort (scope_of m) q sort.Register) t ∙ ap (option_and_then (of_sort sort.Register)) (register_entry m distinct k x at)),
      )
      by j (first y) h t =
          absurd (far.reg_mem x.name.text (place_among n.regs k x.name.text (register_name m k x at)) (subst (λ q. Among q n.mems) t (first_memory j y h)))
      by j (further y) h t = absurd t

  memory_edge : (k : ℕ) (x : PlacedMemory) → slice_get m.mems k ≡ Some x → (j : ℕ) × (y : PlacedWrite) × (slice_get m.drives j ≡ Some (first y)) × (y.memory.text ≡ x.name.text)
  memory_edge k x at =
      let named = memory_name m k x at in
      let d = edge_of x.name.text (Contains-append_right n.regs n.mems x.name.text (place_contains n.mems k x.name.text named)) in
      by d.0 d.1 d.2 d.3
    where
      by : (j : ℕ) (d : Drive) → slice_get m.drives j ≡ Some d → Targets d x.name.text → (i : ℕ) × (y : PlacedWrite) × (slice_get m.drives i ≡ Some (first y)) × (y.memory.text ≡ x.name.text)
      by j (register a z y) h t =
          absurd (far.reg_mem x.name.text (subst (λ q. Among q n.regs) t (register_name_of j a z y h)) (place_among n.mems k x.name.text (memory_name m k x at)))
      by j (first y) h t = (j, y, h, t)
      by j (further y) h t = absurd t

  regs_never : never_faults (driven (scope_of m) m).regs 0 (declared_names m.regs) ≡ []
  regs_never =
      never_absent (driven (scope_of m) m).regs 0 (declared_names m.regs)
      (λ k low.
      let x = some_place m.regs k (omega (arith, low, map_long (λ (y : PlacedDeclared). y.name) m.regs)) in
      let r = register_edge k x.0 x.1 in
      let none_before : k ≡ 0 + k = omega arith in
      subst (λ i. is_some (slot (driven (scope_of m) m).regs i) ≡ true) none_before
      (ap is_some (ap (λ s. slot s k) (regs_fill (scope_of m) (undriven m) 0 m.drives)
      ∙ in_slot (length m.regs) (map (register_target (scope_of m)) m.drives) r.0 (register_entry_of k x.0) registers_are_free r.1 (slice_get_within m.regs k x.0 x.1))))

  mems_never : never_faults (driven (scope_of m) m).ports 0 (memory_names m.mems) ≡ []
  mems_never =
      never_absent (driven (scope_of m) m).ports 0 (memory_names m.mems)
      (λ k low.
      let x = some_place m.mems k (omega (arith, low, map_long (λ (y : PlacedMemory). y.name) m.mems)) in
      let r = memory_edge k x.0 x.1 in
      let port : slice_get (map (port_target (scope_of m)) m.drives) r.0 ≡ Some (Some (memory_entry_of k x.0)) =
      get_map (port_target (scope_of m)) m.drives r.0 (first r.1) r.2 ∙ ap Some (found_here k x.0 r.1.memory.text x.1 (sym r.3)) in
      let none_before : k ≡ 0 + k = omega arith in
      subst (λ i. is_some (slot (driven (scope_of m) m).ports i) ≡ true) none_before
      (ap is_some (ap (λ s. slot s k) (ports_fill (scope_of m) (undriven m) 0 m.drives))
      ∙ fills_some (no_slots m.mems) 0 (map (port_target (scope_of m)) m.drives) r.0 (memory_entry_of k x.0) port (omega (arith, slice_get_within m.mems k x.0 x.1, free_long (length m.mems)))))

  -- ---- wires

  -- the write of a memory's port is an edge of its block
  port_edge : (i : ℕ) (x : PlacedWrite) → slice_get m.drives i ≡ Some (first x) → (k : ℕ) (wr : Write) → slice_get (write_plain x ∷ others_plain (drop (suc i) m.drives)) k ≡ Some wr
      → (j : ℕ) × (y : PlacedWrite) × (write_plain y ≡ wr) × ((slice_get m.drives j ≡ Some (first y)) ⊎ (slice_get m.drives j ≡ Some (further y)))
  port_edge i x at zero wr h = (i, x, same_Some (write_plain x) wr h, inl at)
  port_edge i x at (suc k) wr h =
      let r = further_at (drop (suc i) m.drives) k wr h in (suc i + k, r.0, r.2, inr (get_drop m.drives (suc i) k (further r.0) r.1))
    where
      further_at : (ds : List Drive) (k : ℕ) (wr : Write) → slice_get (others_plain ds) k ≡ Some wr → (y : PlacedWrite) × (slice_get ds k ≡ Some (further y)) × (write_plain y ≡ wr)
      further_at [] k wr h = absurd (none-some wr h)
      further_at (register a b c ∷ ds) k wr h = absurd (none-some wr h)
      further_at (first y ∷ ds) k wr h = absurd (none-some wr h)
      further_at (further y ∷ ds) zero wr h = (y, refl, same_Some (write_plain y) wr h)
      further_at (further y ∷ ds) (suc k) wr h = further_at ds k wr h

  port_address : (k : ℕ) (x : PlacedMemory) (h : Memory) (i : ℕ) (q : Port) → slice_get m.mems k ≡ Some x → slice_get e.mems k ≡ Some h → slice_get h.ports i ≡ Some q → port_addresses (scope_of m) m.drives k q.addr ≡ true
  port_address k x h i q at found port =
      let scope = scope_of m in
      let r = memory_edge k x at in
      let b = first_block m.drives r.0 r.1 r.2 in
      let w = All-place (BlockMeans (names_here m) e) (syntax_of m).blocks b.0 (Writes (write_plain r.1) (others_plain (drop (suc r.0) m.drives))) p.blocks b.1 in
      let place : w.place ≡ k = places_distinct n.mems far.mems w.place k x.name.text (w.named ∙ ap Some r.3) (memory_name m k x at) in
      let holder : w.memory ≡ h = one_at e.mems k w.memory h (ap (slice_get e.mems) (sym place) ∙ w.found) found in
      let order : InOrder (WriteMeans (names_here m) r.1.memory.text) (write_plain r.1 ∷ others_plain (drop (suc r.0) m.drives)) h.ports = subst (λ (z : Memory). InOrder (WriteMeans (names_here m) r.1.memory.text) (write_plain r.1 ∷ others_plain (drop (suc r.0) m.drives)) z.ports) holder w.ports in
      let o = in_order_at (WriteMeans (names_here m) r.1.memory.text) (write_plain r.1 ∷ others_plain (drop (suc r.0) m.drives)) h.ports order i q port in
      let d = port_edge r.0 r.1 r.2 i o.0 o.1 in
      let y = d.1 in
      let means : WriteMeans (names_here m) r.1.memory.text (write_plain y) q = subst (λ z. WriteMeans (names_here m) r.1.memory.text z q) (sym d.2) o.2 in
      let fits = All-place (PortFits (widths e) h) h.ports i q (memory_fits k h found).ports port in
      let address = known y.address.operand q.addr h.depth_log means.address fits.addr in
      let here : memory_of scope y.memory ≡ Some (memory_entry_of k x) = found_here k x y.memory.text at (sym r.3 ∙ sym means.target) in
      let is : is_port_of scope k q.addr y ≡ true =
      ap (λ z. option_map_or (λ (f : Entry). option_map_or (λ (u : Meaning). eqb k f.number && same_atom q.addr u.atom) (meaning scope y.address.operand) false) z false) here
      ∙ (ap (λ z. option_map_or (λ (u : Meaning). eqb k k && same_atom q.addr u.atom) z false) address.is ∙ and_from (eqb k k) (same_atom q.addr q.addr) (eq-eqb k k refl) (same_atom_true q.addr)) in
      elim d.3 [ inl f ↦ any_true (is_port_drive scope k q.addr) m.drives d.0 (first y) f is | inr f ↦ any_true (is_port_drive scope k q.addr) m.drives d.0 (further y) f is ]

  memory_known : (j : ℕ) (w : Widths) (d : Declares m j w) (k : ℕ) (memory : List ℕ) → slice_get (names_here m).mems k ≡ Some memory → MemoryKnown m distinct j w d (port_addresses (scope_of m) m.drives) e.mems k memory
  memory_known j w d k memory named =
      let x = memory_here k memory named in
      record {
        entry = memory_entry_of k x.0;
        at = found_here k x.0 memory x.1 x.2;
        bits = λ h found. let y = memory_at k x.0 x.1 in memory_exact k x.0 x.1 ∙ (sym y.2.bits ∙ ap (λ (q : Memory). q.bits) (one_at e.mems k y.0 h y.1 found));
        depth = λ h found. memory_log k x.0 h x.1 found;
        ports = λ h i q found port. port_address k x.0 h i q x.1 found port;
      }

  wire_none : (k : ℕ) (x : PlacedWire) → slice_get m.wires k ≡ Some x → wire_faults_one (scope_of m) (port_addresses (scope_of m) m.drives) k x ≡ []
  wire_none k x at =
      let w = wire_at k x at in
      let f = wires_at e [] e.wires v.wires k w.0 w.1 in
      let before = widths_after e (take k e.wires) in
      let bits : w.0.bits ≡ declared_bits x.high = w.2.bits ∙ sym (bits_exact x.high (wire_wide k x at).1) in
      let r = net_none m distinct k before (wire_widths k) x.net w.0.net (port_addresses (scope_of m) m.drives) e.mems w.0.bits (memory_known k before (wire_widths k)) w.2.net f.1 in
      none_both (net_faults (scope_of m) k x.net) _ r.0
      (unless_none (net_fits (scope_of m) (port_addresses (scope_of m) m.drives) (declared_bits x.high) x.net) 53 x.place (subst (λ b. net_fits (scope_of m) (port_addresses (scope_of m) m.drives) b x.net ≡ true) bits r.1))

  wires_none : (j : ℕ) (xs : List PlacedWire) → ((k : ℕ) (x : PlacedWire) → slice_get xs k ≡ Some x → wire_faults_one (scope_of m) (port_addresses (scope_of m) m.drives) (j + k) x ≡ [])
      → wire_faults (scope_of m) (port_addresses (scope_of m) m.drives) j xs ≡ []
  wires_none j [] h = refl
  wires_none j (x ∷ xs) h =
      let here : j + 0 ≡ j = omega arith in
      none_both (wire_faults_one (scope_of m) (port_addresses (scope_of m) m.drives) j x) _ (subst (λ i. wire_faults_one (scope_of m) (port_addresses (scope_of m) m.drives) i x ≡ []) here (h 0 x refl))
      (wires_none (j + 1) xs (λ k y at. let sum : j + suc k ≡ j + 1 + k = omega arith in subst (λ i. wire_faults_one (scope_of m) (port_addresses (scope_of m) m.drives) i y ≡ []) sum (h (suc k) y at)))

  -- ---- outputs

  abbrev output_entry_of : ℕ → PlacedDeclared → Entry
  output_entry_of k x = record { sort = sort.Output; number = k; bits = declared_bits x.high; depth = None }

  abbrev assigned : List (List ℕ)
  assigned = map (λ (x : Assign). x.name) (map assign_plain m.assigns)

  record AssignOk (x : PlacedAssign) : Type 0 where
    place : ℕ
    output : PlacedDeclared
    found : slice_get m.outputs place ≡ Some output
    named : output.name.text ≡ x.name.text
    entry : output_of (scope_of m) x ≡ Some (output_entry_of place output)
    know : known_faults (scope_of m) x.from ≡ []
    may : may_have (scope_of m) x.from.operand (declared_bits output.high) ≡ true

  assign_ok : (j : ℕ) (x : PlacedAssign) → slice_get m.assigns j ≡ Some x → AssignOk x
  assign_ok j x at =
      let a = All-place (AssignMeans (names_here m) e.outputs) (syntax_of m).assigns j (assign_plain x) p.assigns (get_map assign_plain m.assigns j x at) in
      let pin = get_back declared_pin (map declared_plain m.outputs) a.place (outer a.output) (ap (λ xs. slice_get xs a.place) (sym p.outputs) ∙ get_map outer e.outputs a.place a.output a.found) in
      let y = get_back declared_plain m.outputs a.place pin.0 pin.1 in
      let pins : declared_pin (declared_plain y.0) ≡ outer a.output = ap declared_pin y.2 ∙ pin.2 in
      let named : y.0.name.text ≡ x.name.text = ap (λ (q : Pin). q.name) pins ∙ a.named in
      let f = All-place (OutputFits (widths e)) e.outputs a.place a.output v.outputs a.found in
      let k = known x.from.operand a.output.from a.output.bits a.from f.from in
      let wide : a.output.bits ≡ declared_bits y.0.high = sym (ap (λ (q : Pin). q.bits) pins) ∙ sym (exact y.0.high (output_wide a.place y.0 y.1)) in
      record {
        place = a.place;
        output = y.0;
        found = y.1;
        named = named;
        entry = ap (λ z. find_sort (scope_of m) z sort.Output) (sym named) ∙ ap (option_and_then (of_sort sort.Output)) (output_entry m distinct a.place y.0 y.1);
        know = known_none m distinct (length m.wires) (widths e) all_widths x.from a.output.from a.output.bits k;
        may = subst (λ b. may_have (scope_of m) x.from.operand b ≡ true) wide (may_true m distinct (length m.wires) (widths e) all_widths x.from.operand a.output.from a.output.bits k);
      }

  outputs_are_free : AreFree (no_slots m.outputs) 0 (map (output_of (scope_of m)) m.assigns)
  outputs_are_free =
      all_free (no_slots m.outputs) 0 (map (output_of (scope_of m)) m.assigns) (λ j f at. free_slot (length m.outputs) f.number)
      (λ j k f g a b same.
      let x = get_back (output_of (scope_of m)) m.assigns j (Some f) a in
      let y = get_back (output_of (scope_of m)) m.assigns k (Some g) b in
      let s = assign_ok j x.0 x.1 in
      let t = assign_ok k y.0 y.1 in
      let fs : output_entry_of s.place s.output ≡ f = same_Some (output_entry_of s.place s.output) f (sym s.entry ∙ x.2) in
      let gt : output_entry_of t.place t.output ≡ g = same_Some (output_entry_of t.place t.output) g (sym t.entry ∙ y.2) in
      let place : s.place ≡ t.place = ap (λ (z : Entry). z.number) fs ∙ (same ∙ sym (ap (λ (z : Entry). z.number) gt)) in
      let one : s.output ≡ t.output = one_at m.outputs t.place s.output t.output (ap (slice_get m.outputs) (sym place) ∙ s.found) t.found in
      let names : x.0.name.text ≡ y.0.name.text = sym s.named ∙ (ap (λ (z : PlacedDeclared). z.name.text) one ∙ t.named) in
      let in_names : (i : ℕ) (z : PlacedAssign) → slice_get m.assigns i ≡ Some z → slice_get assigned i ≡ Some z.name.text =
      (λ i z at. get_map (λ (q : Assign). q.name) (map assign_plain m.assigns) i (assign_plain z) (get_map assign_plain m.assigns i z at)) in
      places_distinct assigned (permuted_apart assigned (output_names (syntax_of m)) p.assigned_once outs) j k y.0.name.text (in_names j x.0 x.1 ∙ ap Some names) (in_names k y.0 y.1))

  assigns_none : (slots : List (Option ℕ)) (i : ℕ) (xs : List PlacedAssign) → ((j : ℕ) (x : PlacedAssign) → slice_get xs j ≡ Some x → AssignOk x) → AreFree slots i (map (output_of (scope_of m)) xs) → assign_faults (scope_of m) slots i xs ≡ []
  assigns_none slots i [] h f = refl
  assigns_none slots i (x ∷ xs) h f =
      let scope = scope_of m in
      let ok = h 0 x refl in
      let free : is_free slots ok.place ≡ true = subst (IsFree slots) ok.entry f.0 in
      let targets : target_faults scope slots x.name x.from (output_of scope x) ≡ [] =
      ap (target_faults scope slots x.name x.from) ok.entry
      ∙ none_both (unless (may_have scope x.from.operand (declared_bits ok.output.high)) 53 x.from.place) _ (unless_none (may_have scope x.from.operand (declared_bits ok.output.high)) 53 x.from.place ok.may) (unless_none (is_free slots ok.place) 54 x.name.place free) in
      none_both (known_faults scope x.from ++ target_faults scope slots x.name x.from (output_of scope x)) _ (none_both (known_faults scope x.from) _ ok.know targets)
      (assigns_none (filled_by slots (output_of scope x) i) (i + 1) xs (λ j y at. h (suc j) y at) f.1)

  outputs_never : never_faults (output_slots (scope_of m) m) 0 (declared_names m.outputs) ≡ []
  outputs_never =
      never_absent (output_slots (scope_of m) m) 0 (declared_names m.outputs)
      (λ k low.
      let scope = scope_of m in
      let x = some_place m.outputs k (omega (arith, low, map_long (λ (y : PlacedDeclared). y.name) m.outputs)) in
      let name : slice_get (output_names (syntax_of m)) k ≡ Some x.0.name.text = get_map declared_name (map declared_plain m.outputs) k (declared_plain x.0) (get_map declared_plain m.outputs k x.0 x.1) in
      let there = Contains-permutation (output_names (syntax_of m)) assigned x.0.name.text (IsPermutation-sym assigned (output_names (syntax_of m)) p.assigned_once) (place_contains (output_names (syntax_of m)) k x.0.name.text name) in
      let at = contains_place assigned x.0.name.text there in
      let a = get_back (λ (q : Assign). q.name) (map assign_plain m.assigns) at.0 x.0.name.text at.1 in
      let b = get_back assign_plain m.assigns at.0 a.0 a.1 in
      let named : b.0.name.text ≡ x.0.name.text = ap (λ (q : Assign). q.name) b.2 ∙ a.2 in
      let entry : output_of scope b.0 ≡ Some (output_entry_of k x.0) =
      ap (λ z. find_sort scope z sort.Output) named ∙ ap (option_and_then (of_sort sort.Output)) (output_entry m distinct k x.0 x.1) in
      let none_before : k ≡ 0 + k = omega arith in
      subst (λ i. is_some (slot (output_slots scope m) i) ≡ true) none_before
      (ap is_some (ap (λ s. slot s k) (assigns_fill scope (no_slots m.outputs) 0 m.assigns)
      ∙ in_slot (length m.outputs) (map (output_of scope) m.assigns) at.0 (output_entry_of k x.0) outputs_are_free (get_map (output_of scope) m.assigns at.0 b.0 b.1 ∙ ap Some entry) (slice_get_within m.outputs k x.0 x.1))))

  -- ---- all

  pub faultless : module_faults m ≡ []
  faultless =
      let scope = scope_of m in
      let wires = wire_faults scope (port_addresses scope m.drives) 0 m.wires in
      let assigns = assign_faults scope (no_slots m.outputs) 0 m.assigns in
      let drives = drive_faults scope (undriven m) 0 m.drives in
      let outputs = never_faults (output_slots scope m) 0 (declared_names m.outputs) in
      let regs = never_faults (driven scope m).regs 0 (declared_names m.regs) in
      none_both (header_faults m.header (pins m) ++ declared_faults no_scope (declarations m)) _ (none_both (header_faults m.header (pins m)) _ header_is_none declarations_none)
      (none_both wires _ (wires_none 0 m.wires (λ k x at. let none_before : k ≡ 0 + k = omega arith in subst (λ i. wire_faults_one scope (port_addresses scope m.drives) i x ≡ []) none_before (wire_none k x at)))
      (none_both assigns _ (assigns_none (no_slots m.outputs) 0 m.assigns assign_ok outputs_are_free)
      (none_both drives _ drives_are_none (none_both outputs _ outputs_never (none_both regs _ regs_never mems_never)))))
