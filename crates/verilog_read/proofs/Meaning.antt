-- A module without a fault means its circuit.
use Rattle.std.proofs.Common.{◌≡◌, ◌≢◌, inl, inr, ℕ, zero, suc, ◌+◌, ◌^◌, ◌<◌, true, false, List, [], ◌∷◌, ◌++◌, length, map, take, drop, Some, None, append_assoc, refl, sym, ap, ◌∙◌, subst, arith}
use Rattle.std.specs.Prelude.{slice_get, is_some, unwrap_or, IsPermutation}
use Rattle.std.specs.List.{All}
use Rattle.std.specs.Option.{option_map_or}
use Rattle.std.proofs.lemmas.Bool.{false≢true}
use Rattle.std.proofs.lemmas.Option.{none-some, same_Some, slice_get_within}
use Rattle.std.proofs.lemmas.List.Elements.{All-nil, All-cons, All-map, All-append}
use Rattle.rtl_core.specs.declared.design.Atom.{Atom}
use Rattle.rtl_core.specs.declared.design.Reg.{Reg}
use Rattle.rtl_core.specs.declared.design.Port.{Port}
use Rattle.rtl_core.specs.Netlist.{Memory}
use Rattle.rtl_core.specs.Interface.{outer}
use Rattle.rtl_core.specs.ClockStep.{widths_after}
use Rattle.rtl_core.specs.Valid.{IsName, AreDistinct, NetFits}
use Rattle.rtl_core.specs.ModuleTokens.{number_value}
use Rattle.rtl_core.specs.ModuleSyntax.{Declared, DeclaredMemory, DeclaredWire, Assign, Always, Register, Writes}
use Rattle.rtl_core.specs.ModuleText.{output_names, all_names, declared_name, declared_pin, OperandMeans, ExpressionMeans, WireMeans, MemoryMeans, InOrder, none, another, AssignMeans, target, BlockMeans, Means}
use Rattle.verilog_read.specs.declared.names.Sort.TheVariants as sort
use Rattle.verilog_read.specs.declared.names.Entry.{Entry}
use Rattle.verilog_read.specs.Numbers.{declared_bits, depth_of}
use Rattle.verilog_syntax.specs.PlacedSyntax.{PlacedName, PlacedOperand, PlacedDeclared, PlacedMemory, PlacedWire, PlacedAssign, PlacedWrite, Drive, register, first, further, PlacedModule}
use Rattle.verilog_read.specs.Scope.{Scope, scope_of, find_sort, atom_in}
use Rattle.verilog_syntax.specs.Marks.{in_blocks}
use Rattle.verilog_syntax.specs.Parsing.{IsNamed}
use Rattle.verilog_read.specs.Faults.{Addresses, Slots, slot, no_slots, declared_names, output_of, memory_of, net_faults, net_fits, wire_faults_one, wire_faults, is_port_drive, port_addresses, output_slots, undriven, driven}
use Rattle.verilog_read.specs.Circuit.{nothing, net_of, wire_of, input_of, source, outputs_from, regs_from, port_of, further_ports, circuit_of}
use Rattle.verilog_syntax.proofs.Places.{by_places, get_map, get_back, get_take, one_at}
use Rattle.verilog_read.proofs.NoFaults.{none_left, none_right, unless_true}
use Rattle.verilog_syntax.proofs.Unplaced.{declared_plain, memory_plain, net_plain, wire_plain, assign_plain, write_plain, others_plain, blocks_plain, syntax_of}
use Rattle.verilog_read.proofs.Declared.{input_allowed, output_allowed, register_allowed, memory_allowed, wire_allowed}
use Rattle.verilog_read.proofs.Distinct.{Among, among_place, place_among, among_all, same_elements, distinct_places, distinct_left, distinct_right, among_append, append_among, parts_apart}
use Rattle.verilog_read.proofs.Operands.{some_of, IsMemory, IsDeclared, found_memory, found_register, found_output, names_here, register_name, memory_name, known_fits, fits_means, Fits}
use Rattle.verilog_read.proofs.SizedConstants.{IsSizedModule}
use Rattle.verilog_read.proofs.Slots.{put_in, in_slot, one_place, assigns_fill, register_target, block_target}
use Rattle.verilog_read.proofs.Assigned.{AssignFits, assigns_fit, leads, registers_free, blocks_free, never_none}
use Rattle.verilog_read.proofs.Nets.{HoldsMemory, net_right}
use Rattle.verilog_read.proofs.Clean.{Clean, all_apart, header_is, width_exact, pin_between, MemoryAllowed, memory_is_allowed}
use Rattle.verilog_read.proofs.Circuits.{output_from, outputs_at, mems_at, mems_long, by_bits, wide_here}
use Rattle.verilog_read.proofs.Blocks.{register_right, block_right, has_block, has_edge, port_means, furthers_mean, any_place, port_address}

-- ---- lists

pub same_maps : {A B : Type 0} (f g : A → B) (xs : List A) → ((k : ℕ) (x : A) → slice_get xs k ≡ Some x → f x ≡ g x) → map f xs ≡ map g xs
same_maps f g [] h = refl
same_maps f g (x ∷ xs) h = ap (λ y. y ∷ map f xs) (h 0 x refl) ∙ ap (λ ys. g x ∷ ys) (same_maps f g xs (λ k y e. h (suc k) y e))

pub map_twice : {A B C : Type 0} (g : B → C) (f : A → B) (xs : List A) → map g (map f xs) ≡ map (λ x. g (f x)) xs
map_twice g f [] = refl
map_twice g f (x ∷ xs) = ap (λ ys. g (f x) ∷ ys) (map_twice g f xs)

pub in_order : {A B : Type 0} (R : A → B → Type 0) (xs : List A) (ys : List B) → length xs ≡ length ys → ((k : ℕ) (x : A) (y : B) → slice_get xs k ≡ Some x → slice_get ys k ≡ Some y → R x y) → InOrder R xs ys
in_order R [] [] e h = none
in_order R [] (y ∷ ys) e h = absurd (omega (arith, e))
in_order R (x ∷ xs) [] e h = absurd (omega (arith, e))
in_order R (x ∷ xs) (y ∷ ys) e h = another x y xs ys (h 0 x y refl refl) (in_order R xs ys (omega (arith, e)) (λ k a b p q. h (suc k) a b p q))

pub map_long : {A B : Type 0} (f : A → B) (xs : List A) → length (map f xs) ≡ length xs
map_long f [] = refl
map_long f (x ∷ xs) = ap suc (map_long f xs)

outputs_outer : (scope : Scope) (assigns : List PlacedAssign) (slots : Slots) (j : ℕ) (xs : List PlacedDeclared) → map outer (outputs_from scope assigns slots j xs) ≡ map input_of xs
outputs_outer scope assigns slots j [] = refl
outputs_outer scope assigns slots j (x ∷ xs) = ap (λ ps. input_of x ∷ ps) (outputs_outer scope assigns slots (j + 1) xs)

regs_bits : (scope : Scope) (drives : List Drive) (slots : Slots) (j : ℕ) (xs : List PlacedDeclared) → map (λ (r : Reg). r.bits) (regs_from scope drives slots j xs) ≡ map (λ (x : PlacedDeclared). declared_bits x.high) xs
regs_bits scope drives slots j [] = refl
regs_bits scope drives slots j (x ∷ xs) =
    ap (λ b. b ∷ map (λ (r : Reg). r.bits) (regs_from scope drives slots (j + 1) xs)) (by_bits scope drives (declared_bits x.high) (slot slots j))
    ∙ ap (λ bs. declared_bits x.high ∷ bs) (regs_bits scope drives slots (j + 1) xs)

pub wire_at : (scope : Scope) (addresses : Addresses) (j : ℕ) (xs : List PlacedWire) → wire_faults scope addresses j xs ≡ [] → (k : ℕ) (x : PlacedWire) → slice_get xs k ≡ Some x → wire_faults_one scope addresses (j + k) x ≡ []
wire_at scope addresses j [] h k x e = absurd (none-some x e)
wire_at scope addresses j (y ∷ ys) h zero x e =
    let sum : j ≡ j + 0 = omega arith in
    subst (λ n. wire_faults_one scope addresses n x ≡ []) sum (subst (λ z. wire_faults_one scope addresses j z ≡ []) (same_Some y x e) (none_left (wire_faults_one scope addresses j y) _ h))
wire_at scope addresses j (y ∷ ys) h (suc k) x e =
    let sum : j + 1 + k ≡ j + suc k = omega arith in
    subst (λ n. wire_faults_one scope addresses n x ≡ []) sum (wire_at scope addresses (j + 1) ys (none_right (wire_faults_one scope addresses j y) _ h) k x e)

-- ---- what an edge assigns

abbrev pub Targets : Drive → List ℕ → Type 0
Targets (register enable name next) z = name.text ≡ z
Targets (first x) z = x.memory.text ≡ z
Targets (further x) z = ⊥

pub target_in : (ds : List Drive) (z : List ℕ) → Among z (map target (blocks_plain ds)) → (j : ℕ) × (d : Drive) × (slice_get ds j ≡ Some d) × Targets d z
target_in [] z h = elim h [ ]
target_in (register enable name next ∷ ds) z (inl e) = (0, register enable name next, refl, e)
target_in (register enable name next ∷ ds) z (inr h) = let r = target_in ds z h in (suc r.0, r.1, r.2, r.3)
target_in (first x ∷ ds) z (inl e) = (0, first x, refl, e)
target_in (first x ∷ ds) z (inr h) = let r = target_in ds z h in (suc r.0, r.1, r.2, r.3)
target_in (further x ∷ ds) z h = let r = target_in ds z h in (suc r.0, r.1, r.2, r.3)

in_target_first : (d : Drive) (ds : List Drive) (z : List ℕ) → Targets d z → Among z (map target (blocks_plain (d ∷ ds)))
in_target_first (register enable name next) ds z t = inl t
in_target_first (first x) ds z t = inl t
in_target_first (further x) ds z t = absurd t

in_target_more : (d : Drive) (ds : List Drive) (z : List ℕ) → Among z (map target (blocks_plain ds)) → Among z (map target (blocks_plain (d ∷ ds)))
in_target_more (register enable name next) ds z h = inr h
in_target_more (first x) ds z h = inr h
in_target_more (further x) ds z h = h

pub in_target : (ds : List Drive) (j : ℕ) (d : Drive) (z : List ℕ) → slice_get ds j ≡ Some d → Targets d z → Among z (map target (blocks_plain ds))
in_target [] j d z e t = absurd (none-some d e)
in_target (x ∷ xs) zero d z e t = in_target_first x xs z (subst (λ y. Targets y z) (sym (same_Some x d e)) t)
in_target (x ∷ xs) (suc j) d z e t = in_target_more x xs z (in_target xs j d z e t)

abbrev OneEach : List Drive → Type 0
OneEach ds = (j k : ℕ) (d e : Drive) (z : List ℕ) → slice_get ds j ≡ Some d → slice_get ds k ≡ Some e → Targets d z → Targets e z → j ≡ k

one_each_more : (d : Drive) (ds : List Drive) → OneEach (d ∷ ds) → OneEach ds
one_each_more d ds h j k a b z p q s t = let same : suc j ≡ suc k = h (suc j) (suc k) a b z p q s t in omega (arith, same)

no_other : (d : Drive) (ds : List Drive) (name : List ℕ) → OneEach (d ∷ ds) → Targets d name → All (λ y. name ≢ y) (map target (blocks_plain ds))
no_other d ds name h t =
    among_all (λ y. name ≢ y) (map target (blocks_plain ds))
    (λ y k e. let r = target_in ds y k in let same : 0 ≡ suc r.0 = h 0 (suc r.0) d r.1 y refl r.2 (subst (Targets d) e t) r.3 in absurd (omega (arith, same)))

targets_apart : (ds : List Drive) → OneEach ds → AreDistinct (map target (blocks_plain ds))
targets_apart [] h = tt
targets_apart (register enable name next ∷ ds) h = (no_other (register enable name next) ds name.text h refl, targets_apart ds (one_each_more (register enable name next) ds h))
targets_apart (first x ∷ ds) h = (no_other (first x) ds x.memory.text h refl, targets_apart ds (one_each_more (first x) ds h))
targets_apart (further x ∷ ds) h = targets_apart ds (one_each_more (further x) ds h)

-- what holds of each block, by the edge with which it begins
blocks_all : (Q : Always → Type 0) (ds : List Drive)
    → ((j : ℕ) (enable : PlacedOperand) (name : PlacedName) (next : PlacedOperand) → slice_get ds j ≡ Some (register enable name next) → Q (Register enable.operand name.text next.operand))
    → ((j : ℕ) (x : PlacedWrite) → slice_get ds j ≡ Some (first x) → Q (Writes (write_plain x) (others_plain (drop (suc j) ds)))) → All Q (blocks_plain ds)
blocks_all Q [] r f = All-nil Q
blocks_all Q (register enable name next ∷ ds) r f =
    All-cons Q (Register enable.operand name.text next.operand) (blocks_plain ds) (r 0 enable name next refl) (blocks_all Q ds (λ j a b d e. r (suc j) a b d e) (λ j x e. f (suc j) x e))
blocks_all Q (first x ∷ ds) r f =
    All-cons Q (Writes (write_plain x) (others_plain ds)) (blocks_plain ds) (f 0 x refl) (blocks_all Q ds (λ j a b d e. r (suc j) a b d e) (λ j x e. f (suc j) x e))
blocks_all Q (further x ∷ ds) r f = blocks_all Q ds (λ j a b d e. r (suc j) a b d e) (λ j x e. f (suc j) x e)

-- ---- the whole

module _ (m : PlacedModule) (named : IsNamed m) (blocks : in_blocks false m.drives ≡ true) (sized : IsSizedModule m) (c : Clean m) where
  pub memory_here : (k : ℕ) (x : PlacedMemory) → slice_get m.mems k ≡ Some x → MemoryAllowed x
  memory_here k x e = memory_is_allowed x (memory_allowed m c.declared k x e)

  -- the ports with an address of a memory
  abbrev PortThere : ℕ → Atom → Type 0
  PortThere k a = (h : Memory) × (slice_get (circuit_of m).mems k ≡ Some h) × ((n : ℕ) × (p : Port) × (slice_get h.ports n ≡ Some p) × (p.addr ≡ a))

  drive_address : (k : ℕ) (a : Atom) (i : ℕ) (d : Drive) → slice_get m.drives i ≡ Some d → is_port_drive (scope_of m) k a d ≡ true → PortThere k a
  drive_address k a i (register enable name next) at h = absurd (false≢true h)
  drive_address k a i (first x) at h =
      let r = port_address m k a x h in
      let b = block_right m c sized memory_here i x at in
      let same : b.entry ≡ r.entry = same_Some b.entry r.entry (sym b.at ∙ r.at) in
      (_, ap (slice_get (circuit_of m).mems) (r.number ∙ ap (λ (e : Entry). e.number) (sym same)) ∙ b.found, (0, port_of (scope_of m) x, refl, r.address))
  drive_address k a i (further x) at h =
      let r = port_address m k a x h in
      let l = leads (scope_of m) (undriven m) m.drives blocks c.drives i x at in
      let b = block_right m c sized memory_here l.place l.write l.at in
      let same : b.entry ≡ r.entry = same_Some b.entry r.entry (sym b.at ∙ (ap (λ n. find_sort (scope_of m) n sort.Memory) (sym l.same) ∙ r.at)) in
      (_, ap (slice_get (circuit_of m).mems) (r.number ∙ ap (λ (e : Entry). e.number) (sym same)) ∙ b.found, (suc l.port, port_of (scope_of m) x, l.found, r.address))

  port_there : (k : ℕ) (a : Atom) → port_addresses (scope_of m) m.drives k a ≡ true → PortThere k a
  port_there k a h = let r = any_place (is_port_drive (scope_of m) k a) m.drives h in drive_address k a r.0 r.1 r.2 r.3

  holds : (memory : PlacedName) (e : Entry) → memory_of (scope_of m) memory ≡ Some e → HoldsMemory (circuit_of m).mems (port_addresses (scope_of m) m.drives) e
  holds memory e at =
      let is = found_memory m memory.text e at in
      let low = slice_get_within m.mems e.number is.x is.found in
      let r = has_block m c sized memory_here blocks e.number is.x is.found in
      let b = block_right m c sized memory_here r.0 r.1 r.2 in
      let same : b.entry ≡ r.3.0 = same_Some b.entry r.3.0 (sym b.at ∙ r.3.1) in
      let number : b.entry.number ≡ e.number = ap (λ (f : Entry). f.number) same ∙ r.3.2 in
      let found : slice_get (circuit_of m).mems e.number ≡ Some _ = ap (slice_get (circuit_of m).mems) (sym number) ∙ b.found in
      let one : b.is.x ≡ is.x = one_at m.mems e.number b.is.x is.x (ap (slice_get m.mems) (sym number) ∙ b.is.found) is.found in
      record {
        memory = _;
        found = found;
        bits = ap (λ (x : PlacedMemory). declared_bits x.high) one ∙ sym is.bits;
        depth = is.depth ∙ (ap (λ (x : PlacedMemory). depth_of x.last) (sym one) ∙ (sym b.is.depth ∙ b.depth));
        number = omega (arith, low, sized.mems);
        ports = λ a h.
            let p = port_there e.number a h in
            let q = one_at (circuit_of m).mems e.number p.0 _ p.1 found in
            (p.2.0, p.2.1, subst (λ (y : Memory). slice_get y.ports p.2.0 ≡ Some p.2.1) q p.2.2, p.2.3);
      }

  pub wire_right : (k : ℕ) (x : PlacedWire) → slice_get m.wires k ≡ Some x
      → ExpressionMeans (names_here m) (net_plain x.net) (net_of (scope_of m) x.net) × NetFits (widths_after (circuit_of m) (take k (circuit_of m).wires)) (circuit_of m).mems (declared_bits x.high) (net_of (scope_of m) x.net)
  wire_right k x e =
      let scope = scope_of m in
      let addresses = port_addresses scope m.drives in
      let before = take k (circuit_of m).wires in
      let wide = wide_here m k before (λ i y low f. get_take (map (wire_of scope) m.wires) k i (wire_of scope y) low (get_map (wire_of scope) m.wires i y f)) in
      let none_before : 0 + k ≡ k = omega arith in
      let faults = subst (λ n. wire_faults_one scope addresses n x ≡ []) none_before (wire_at scope addresses 0 m.wires c.wires k x e) in
      net_right m (widths_after (circuit_of m) before) (circuit_of m).mems addresses k (declared_bits x.high) wide x.net holds (sized.wires k x e) (none_left (net_faults scope k x.net) _ faults)
      (unless_true (net_fits scope addresses (declared_bits x.high) x.net) 53 x.place (none_right (net_faults scope k x.net) _ faults))

  -- ---- widths

  input_exact : (k : ℕ) (x : PlacedDeclared) → slice_get m.inputs k ≡ Some x → input_of x ≡ declared_pin (declared_plain x)
  input_exact k x e =
      let b = pin_between sort.Input (declared_bits x.high) None (input_allowed m c.declared k x e) in ap (λ n. record { name = x.name.text; bits = n }) (width_exact x.high b.1)

  output_exact : (k : ℕ) (x : PlacedDeclared) → slice_get m.outputs k ≡ Some x → input_of x ≡ declared_pin (declared_plain x)
  output_exact k x e =
      let b = pin_between sort.Output (declared_bits x.high) None (output_allowed m c.declared k x e) in ap (λ n. record { name = x.name.text; bits = n }) (width_exact x.high b.1)

  register_exact : (k : ℕ) (x : PlacedDeclared) → slice_get m.regs k ≡ Some x → declared_bits x.high ≡ suc (number_value x.high)
  register_exact k x e = width_exact x.high (pin_between sort.Register (declared_bits x.high) None (register_allowed m c.declared k x e)).1

  wire_exact : (k : ℕ) (x : PlacedWire) → slice_get m.wires k ≡ Some x → declared_bits x.high ≡ suc (number_value x.high)
  wire_exact k x e = width_exact x.high (pin_between sort.Wire (declared_bits x.high) None (wire_allowed m c.declared k x e)).1

  -- ---- lists in order

  mems_mean : InOrder MemoryMeans (syntax_of m).mems (circuit_of m).mems
  mems_mean =
      let scope = scope_of m in
      let slots = (driven scope m).blocks in
      in_order MemoryMeans (syntax_of m).mems (circuit_of m).mems (map_long memory_plain m.mems ∙ sym (mems_long scope m.drives slots 0 m.mems))
      (λ k x y e f.
      let b = get_back memory_plain m.mems k x e in
      let a = memory_here k b.0 b.1 in
      let same = one_at (circuit_of m).mems k y _ f (mems_at scope m.drives slots 0 m.mems k b.0 b.1) in
      subst (λ z. MemoryMeans z y) b.2
      (subst (MemoryMeans (memory_plain b.0)) (sym same)
      (record { bits = width_exact b.0.high (omega (arith, a.bits.1)); depth = a.words ∙ ap (λ o. 2 ^ unwrap_or o 0) (sym a.is) })))

  wires_mean : InOrder (WireMeans (names_here m)) (syntax_of m).wires (circuit_of m).wires
  wires_mean =
      let scope = scope_of m in
      in_order (WireMeans (names_here m)) (syntax_of m).wires (circuit_of m).wires (map_long wire_plain m.wires ∙ sym (map_long (wire_of scope) m.wires))
      (λ k x y e f.
      let b = get_back wire_plain m.wires k x e in
      let same = one_at (circuit_of m).wires k y (wire_of scope b.0) f (get_map (wire_of scope) m.wires k b.0 b.1) in
      subst (λ z. WireMeans (names_here m) z y) b.2
      (subst (WireMeans (names_here m) (wire_plain b.0)) (sym same) (record { bits = wire_exact k b.0 b.1; net = (wire_right k b.0 b.1).0 })))

  -- ---- outputs

  outs : AreDistinct (output_names (syntax_of m))
  outs =
      let n = names_here m in
      distinct_left (output_names (syntax_of m)) (n.regs ++ (n.mems ++ n.wires)) (distinct_right n.inputs (output_names (syntax_of m) ++ (n.regs ++ (n.mems ++ n.wires))) (all_apart m c))

  fit : (j : ℕ) (x : PlacedAssign) → slice_get m.assigns j ≡ Some x → AssignFits (scope_of m) x
  fit = (assigns_fit (scope_of m) (no_slots m.outputs) 0 m.assigns c.assigns).0

  output_there : (j : ℕ) (x : PlacedAssign) (e : slice_get m.assigns j ≡ Some x) → IsDeclared m.outputs x.name.text (fit j x e).entry
  output_there j x e = found_output m x.name.text (fit j x e).entry (fit j x e).is

  slot_is : (j : ℕ) (x : PlacedAssign) (e : slice_get m.assigns j ≡ Some x) → slot (output_slots (scope_of m) m) (fit j x e).entry.number ≡ Some j
  slot_is j x e =
      let scope = scope_of m in
      let f = fit j x e in
      let is = output_there j x e in
      ap (λ s. slot s f.entry.number) (assigns_fill scope (no_slots m.outputs) 0 m.assigns)
      ∙ in_slot (length m.outputs) (map (output_of scope) m.assigns) j f.entry (assigns_fit scope (no_slots m.outputs) 0 m.assigns c.assigns).1 (get_map (output_of scope) m.assigns j x e ∙ ap Some f.is)
      (slice_get_within m.outputs f.entry.number is.x is.found)

  abbrev assigned : List (List ℕ)
  assigned = map (λ (x : Assign). x.name) (map assign_plain m.assigns)

  assign_back : (j : ℕ) (z : List ℕ) → slice_get assigned j ≡ Some z → (x : PlacedAssign) × (slice_get m.assigns j ≡ Some x) × (x.name.text ≡ z)
  assign_back j z e =
      let a = get_back (λ (x : Assign). x.name) (map assign_plain m.assigns) j z e in
      let b = get_back assign_plain m.assigns j a.0 a.1 in
      (b.0, b.1, ap (λ (x : Assign). x.name) b.2 ∙ a.2)

  assigned_apart : AreDistinct assigned
  assigned_apart =
      distinct_places assigned
      (λ j k z p q.
      let scope = scope_of m in
      let x = assign_back j z p in
      let y = assign_back k z q in
      let f = fit j x.0 x.1 in
      let g = fit k y.0 y.1 in
      let names : x.0.name.text ≡ y.0.name.text = x.2 ∙ sym y.2 in
      let same : f.entry ≡ g.entry = same_Some f.entry g.entry (sym f.is ∙ (ap (λ n. find_sort scope n sort.Output) names ∙ g.is)) in
      same_Some j k (sym (slot_is j x.0 x.1) ∙ (ap (λ (e : Entry). slot (output_slots scope m) e.number) same ∙ slot_is k y.0 y.1)))

  output_back : (k : ℕ) (z : List ℕ) → slice_get (output_names (syntax_of m)) k ≡ Some z → (x : PlacedDeclared) × (slice_get m.outputs k ≡ Some x) × (x.name.text ≡ z)
  output_back k z e =
      let a = get_back declared_name (map declared_plain m.outputs) k z e in
      let b = get_back declared_plain m.outputs k a.0 a.1 in
      (b.0, b.1, ap declared_name b.2 ∙ a.2)

  is_output : (z : List ℕ) → Among z assigned → Among z (output_names (syntax_of m))
  is_output z h =
      let p = among_place z assigned h in
      let x = assign_back p.0 z p.1 in
      let is = output_there p.0 x.0 x.1 in
      place_among (output_names (syntax_of m)) (fit p.0 x.0 x.1).entry.number z
      (get_map declared_name (map declared_plain m.outputs) _ (declared_plain is.x) (get_map declared_plain m.outputs _ is.x is.found) ∙ ap Some (is.named ∙ x.2))

  is_assigned : (z : List ℕ) → Among z (output_names (syntax_of m)) → Among z assigned
  is_assigned z h =
      let scope = scope_of m in
      let p = among_place z (output_names (syntax_of m)) h in
      let k = p.0 in
      let o = output_back k z p.1 in
      let low : k < length (declared_names m.outputs) = omega (arith, slice_get_within m.outputs k o.0 o.1, map_long (λ (x : PlacedDeclared). x.name) m.outputs) in
      let none_before : 0 + k ≡ k = omega arith in
      let full = subst (λ n. is_some (slot (output_slots scope m) n) ≡ true) none_before (never_none (output_slots scope m) 0 (declared_names m.outputs) c.outputs k low) in
      let y = some_of (slot (output_slots scope m) k) full in
      let put = put_in (length m.outputs) (map (output_of scope) m.assigns) k y.0 (sym (ap (λ s. slot s k) (assigns_fill scope (no_slots m.outputs) 0 m.assigns)) ∙ y.1) in
      let x = get_back (output_of scope) m.assigns put.place (Some put.entry) put.at in
      let is = found_output m x.0.name.text put.entry x.2 in
      let same : is.x ≡ o.0 = one_at m.outputs k is.x o.0 (ap (slice_get m.outputs) (sym put.number) ∙ is.found) o.1 in
      let name : x.0.name.text ≡ z = sym is.named ∙ (ap (λ (v : PlacedDeclared). v.name.text) same ∙ o.2) in
      place_among assigned put.place z (get_map (λ (v : Assign). v.name) (map assign_plain m.assigns) put.place (assign_plain x.0) (get_map assign_plain m.assigns put.place x.0 x.1) ∙ ap Some name)

  -- what an output shows
  pub output_shown : (k : ℕ) (x : PlacedDeclared) → slice_get m.outputs k ≡ Some x → (a : PlacedAssign) × Fits m a.from.operand (length m.wires) (declared_bits x.high)
      × (slice_get (circuit_of m).outputs k ≡ Some (record { name = x.name.text; bits = declared_bits x.high; from = atom_in (scope_of m) a.from.operand }))
  output_shown k x e =
      let scope = scope_of m in
      let low : k < length (declared_names m.outputs) = omega (arith, slice_get_within m.outputs k x e, map_long (λ (y : PlacedDeclared). y.name) m.outputs) in
      let none_before : 0 + k ≡ k = omega arith in
      let full = subst (λ n. is_some (slot (output_slots scope m) n) ≡ true) none_before (never_none (output_slots scope m) 0 (declared_names m.outputs) c.outputs k low) in
      let y = some_of (slot (output_slots scope m) k) full in
      let put = put_in (length m.outputs) (map (output_of scope) m.assigns) k y.0 (sym (ap (λ s. slot s k) (assigns_fill scope (no_slots m.outputs) 0 m.assigns)) ∙ y.1) in
      let a = get_back (output_of scope) m.assigns put.place (Some put.entry) put.at in
      let f = fit put.place a.0 a.1 in
      let same : f.entry ≡ put.entry = same_Some f.entry put.entry (sym f.is ∙ a.2) in
      let is = found_output m a.0.name.text put.entry a.2 in
      let one : is.x ≡ x = one_at m.outputs k is.x x (ap (slice_get m.outputs) (sym put.number) ∙ is.found) e in
      let wide : f.entry.bits ≡ declared_bits x.high = ap (λ (g : Entry). g.bits) same ∙ (is.bits ∙ ap (λ (v : PlacedDeclared). declared_bits v.high) one) in
      let place : y.0 ≡ put.place = omega (arith, put.is) in
      let by : slot (output_slots scope m) (0 + k) ≡ Some put.place = ap (slot (output_slots scope m)) none_before ∙ (y.1 ∙ ap Some place) in
      let shown : source scope m.assigns (Some put.place) ≡ atom_in scope a.0.from.operand = ap (λ o. option_map_or (λ (z : PlacedAssign). atom_in scope z.from.operand) o nothing) a.1 in (
        a.0,
        subst (Fits m a.0.from.operand (length m.wires)) wide (known_fits m a.0.from f.entry.bits f.known f.may (sized.assigns put.place a.0 a.1)),
        outputs_at scope m.assigns (output_slots scope m) 0 m.outputs k x e
            ∙ (ap (λ o. Some (output_from scope m.assigns o x)) by ∙ ap (λ v. Some (record { name = x.name.text; bits = declared_bits x.high; from = v })) shown),
      )

  assign_means : (k : ℕ) (x : Assign) → slice_get (syntax_of m).assigns k ≡ Some x → AssignMeans (names_here m) (circuit_of m).outputs x
  assign_means k x e =
      let scope = scope_of m in
      let b = get_back assign_plain m.assigns k x e in
      let f = fit k b.0 b.1 in
      let is = output_there k b.0 b.1 in
      let number = f.entry.number in
      let none_before : 0 + number ≡ number = omega arith in
      let by : slot (output_slots scope m) (0 + number) ≡ Some k = ap (slot (output_slots scope m)) none_before ∙ slot_is k b.0 b.1 in
      let shown : source scope m.assigns (Some k) ≡ atom_in scope b.0.from.operand = ap (λ o. option_map_or (λ (y : PlacedAssign). atom_in scope y.from.operand) o nothing) b.1 in
      let fits = known_fits m b.0.from f.entry.bits f.known f.may (sized.assigns k b.0 b.1) in
      subst (AssignMeans (names_here m) (circuit_of m).outputs) b.2
      (record {
        place = number;
        output = output_from scope m.assigns (Some k) is.x;
        found = outputs_at scope m.assigns (output_slots scope m) 0 m.outputs number is.x is.found ∙ ap (λ o. Some (output_from scope m.assigns o is.x)) by;
        named = is.named;
        from = subst (OperandMeans (names_here m) b.0.from.operand) (sym shown) (fits_means m b.0.from.operand (length m.wires) f.entry.bits fits);
      })

  -- ---- registers and memories

  state_apart : AreDistinct ((names_here m).regs ++ ((names_here m).mems ++ (names_here m).wires))
  state_apart =
      let n = names_here m in
      distinct_right (output_names (syntax_of m)) (n.regs ++ (n.mems ++ n.wires)) (distinct_right n.inputs (output_names (syntax_of m) ++ (n.regs ++ (n.mems ++ n.wires))) (all_apart m c))

  reg_among : (z : List ℕ) (e : Entry) → IsDeclared m.regs z e → Among z (names_here m).regs
  reg_among z e is = place_among (names_here m).regs e.number z (register_name m e.number is.x is.found ∙ ap Some is.named)

  mem_among : (z : List ℕ) (e : Entry) → IsMemory m.mems z e → Among z (names_here m).mems
  mem_among z e is = place_among (names_here m).mems e.number z (memory_name m e.number is.x is.found ∙ ap Some is.named)

  no_both : (z : List ℕ) → Among z (names_here m).regs → Among z (names_here m).mems → ⊥
  no_both z r h = parts_apart (names_here m).regs ((names_here m).mems ++ (names_here m).wires) z state_apart r (among_append z (names_here m).mems (names_here m).wires (inl h))

  one_register : (j k : ℕ) (d e : Drive) (x y : Entry) → slice_get m.drives j ≡ Some d → slice_get m.drives k ≡ Some e → register_target (scope_of m) d ≡ Some x → register_target (scope_of m) e ≡ Some y
      → x ≡ y → x.number < length m.regs → j ≡ k
  one_register j k d e x y p q a b same low =
      one_place (length m.regs) (map (register_target (scope_of m)) m.drives) j k x y (registers_free (scope_of m) (undriven m) 0 m.drives c.drives) (get_map (register_target (scope_of m)) m.drives j d p ∙ ap Some a)
      (get_map (register_target (scope_of m)) m.drives k e q ∙ ap Some b) low (ap (λ (f : Entry). f.number) same)

  one_block : (j k : ℕ) (d e : Drive) (x y : Entry) → slice_get m.drives j ≡ Some d → slice_get m.drives k ≡ Some e → block_target (scope_of m) d ≡ Some x → block_target (scope_of m) e ≡ Some y
      → x ≡ y → x.number < length m.mems → j ≡ k
  one_block j k d e x y p q a b same low =
      one_place (length m.mems) (map (block_target (scope_of m)) m.drives) j k x y (blocks_free (scope_of m) (undriven m) 0 m.drives c.drives) (get_map (block_target (scope_of m)) m.drives j d p ∙ ap Some a)
      (get_map (block_target (scope_of m)) m.drives k e q ∙ ap Some b) low (ap (λ (f : Entry). f.number) same)

  one_each : OneEach m.drives
  one_each j k (register a1 n1 x1) (register a2 n2 x2) z p q s t =
      let r = register_right m c sized memory_here j a1 n1 x1 p in
      let u = register_right m c sized memory_here k a2 n2 x2 q in
      let same : r.entry ≡ u.entry = same_Some r.entry u.entry (sym r.at ∙ (ap (λ n. find_sort (scope_of m) n sort.Register) (s ∙ sym t) ∙ u.at)) in
      one_register j k (register a1 n1 x1) (register a2 n2 x2) r.entry u.entry p q r.at u.at same (slice_get_within m.regs r.entry.number r.is.x r.is.found)
  one_each j k (register a1 n1 x1) (first y) z p q s t =
      let r = register_right m c sized memory_here j a1 n1 x1 p in
      let u = block_right m c sized memory_here k y q in
      absurd (no_both z (subst (λ n. Among n (names_here m).regs) s (reg_among n1.text r.entry r.is)) (subst (λ n. Among n (names_here m).mems) t (mem_among y.memory.text u.entry u.is)))
  one_each j k (first y) (register a1 n1 x1) z p q s t =
      let r = register_right m c sized memory_here k a1 n1 x1 q in
      let u = block_right m c sized memory_here j y p in
      absurd (no_both z (subst (λ n. Among n (names_here m).regs) t (reg_among n1.text r.entry r.is)) (subst (λ n. Among n (names_here m).mems) s (mem_among y.memory.text u.entry u.is)))
  one_each j k (first x) (first y) z p q s t =
      let r = block_right m c sized memory_here j x p in
      let u = block_right m c sized memory_here k y q in
      let same : r.entry ≡ u.entry = same_Some r.entry u.entry (sym r.at ∙ (ap (λ n. find_sort (scope_of m) n sort.Memory) (s ∙ sym t) ∙ u.at)) in
      one_block j k (first x) (first y) r.entry u.entry p q r.at u.at same (slice_get_within m.mems r.entry.number r.is.x r.is.found)
  one_each j k (further x) e z p q s t = absurd s
  one_each j k (register a1 n1 x1) (further y) z p q s t = absurd t
  one_each j k (first x) (further y) z p q s t = absurd t

  target_place : (j : ℕ) (d : Drive) (z : List ℕ) → slice_get m.drives j ≡ Some d → Targets d z → Among z ((names_here m).regs ++ (names_here m).mems)
  target_place j (register a n x) z p t =
      let r = register_right m c sized memory_here j a n x p in
      among_append z (names_here m).regs (names_here m).mems (inl (subst (λ n. Among n (names_here m).regs) t (reg_among n.text r.entry r.is)))
  target_place j (first y) z p t =
      let u = block_right m c sized memory_here j y p in
      among_append z (names_here m).regs (names_here m).mems (inr (subst (λ n. Among n (names_here m).mems) t (mem_among y.memory.text u.entry u.is)))
  target_place j (further y) z p t = absurd t

  register_targets : (d : Drive) (e : Entry) (k : ℕ) (x : PlacedDeclared) (z : List ℕ) → register_target (scope_of m) d ≡ Some e → e.number ≡ k → slice_get m.regs k ≡ Some x → x.name.text ≡ z → Targets d z
  register_targets (register a n y) e k x z target number found name =
      let is = found_register m n.text e target in
      let same : is.x ≡ x = one_at m.regs k is.x x (ap (slice_get m.regs) (sym number) ∙ is.found) found in
      sym is.named ∙ (ap (λ (v : PlacedDeclared). v.name.text) same ∙ name)
  register_targets (first y) e k x z target number found name = absurd (none-some e target)
  register_targets (further y) e k x z target number found name = absurd (none-some e target)

  reg_targeted : (z : List ℕ) → Among z (names_here m).regs → Among z (map target (syntax_of m).blocks)
  reg_targeted z h =
      let p = among_place z (names_here m).regs h in
      let a = get_back declared_name (map declared_plain m.regs) p.0 z p.1 in
      let b = get_back declared_plain m.regs p.0 a.0 a.1 in
      let r = has_edge m c sized memory_here p.0 b.0 b.1 in
      in_target m.drives r.0 r.1 z r.3 (register_targets r.1 r.2 p.0 b.0 z r.4 r.5 b.1 (ap declared_name b.2 ∙ a.2))

  mem_targeted : (z : List ℕ) → Among z (names_here m).mems → Among z (map target (syntax_of m).blocks)
  mem_targeted z h =
      let p = among_place z (names_here m).mems h in
      let a = get_back (λ (x : DeclaredMemory). x.name) (map memory_plain m.mems) p.0 z p.1 in
      let b = get_back memory_plain m.mems p.0 a.0 a.1 in
      let r = has_block m c sized memory_here blocks p.0 b.0 b.1 in
      let is = found_memory m r.1.memory.text r.3.0 r.3.1 in
      let same : is.x ≡ b.0 = one_at m.mems p.0 is.x b.0 (ap (slice_get m.mems) (sym r.3.2) ∙ is.found) b.1 in
      in_target m.drives r.0 (first r.1) z r.2 (sym is.named ∙ (ap (λ (v : PlacedMemory). v.name.text) same ∙ (ap (λ (x : DeclaredMemory). x.name) b.2 ∙ a.2)))

  driven_once : IsPermutation (map target (syntax_of m).blocks) ((names_here m).regs ++ (names_here m).mems)
  driven_once =
      let n = names_here m in
      same_elements (map target (syntax_of m).blocks) (n.regs ++ n.mems) (targets_apart m.drives one_each)
      (distinct_left (n.regs ++ n.mems) n.wires (subst AreDistinct (sym (append_assoc n.regs n.mems n.wires)) state_apart))
      (λ z h. let r = target_in m.drives z h in target_place r.0 r.1 z r.2 r.3)
      (λ z h. elim (append_among z n.regs n.mems h) [ inl k ↦ reg_targeted z k | inr k ↦ mem_targeted z k ])

  blocks_mean : All (BlockMeans (names_here m) (circuit_of m)) (syntax_of m).blocks
  blocks_mean =
      blocks_all (BlockMeans (names_here m) (circuit_of m)) m.drives
      (λ j enable name next e.
      let r = register_right m c sized memory_here j enable name next e in
      record {
        place = r.entry.number;
        register = _;
        found = r.found;
        named = register_name m r.entry.number r.is.x r.is.found ∙ ap Some r.is.named;
        enable_is = fits_means m enable.operand (length m.wires) 1 r.enable_fits;
        next_is = fits_means m next.operand (length m.wires) r.entry.bits r.next_fits;
      })
      (λ j x e.
      let r = block_right m c sized memory_here j x e in
      record {
        place = r.entry.number;
        memory = _;
        found = r.found;
        named = memory_name m r.entry.number r.is.x r.is.found ∙ ap Some r.is.named;
        ports = another (write_plain x) (port_of (scope_of m) x) (others_plain (drop (suc j) m.drives)) (further_ports (scope_of m) (drop (suc j) m.drives)) (port_means m x.memory.text r.entry x refl r.first_port)
            (furthers_mean m x.memory.text r.entry (drop (suc j) m.drives) r.others);
      })

  -- ---- all

  names_are : All IsName (all_names (syntax_of m))
  names_are =
      let n = names_here m in
      All-append IsName n.inputs _ (All-map IsName declared_name (map declared_plain m.inputs) (All-map (λ (x : Declared). IsName x.name) declared_plain m.inputs named.inputs))
      (All-append IsName (output_names (syntax_of m)) _ (All-map IsName declared_name (map declared_plain m.outputs) (All-map (λ (x : Declared). IsName x.name) declared_plain m.outputs named.outputs))
      (All-append IsName n.regs _ (All-map IsName declared_name (map declared_plain m.regs) (All-map (λ (x : Declared). IsName x.name) declared_plain m.regs named.regs))
      (All-append IsName n.mems n.wires (All-map IsName (λ (x : DeclaredMemory). x.name) (map memory_plain m.mems) (All-map (λ (x : DeclaredMemory). IsName x.name) memory_plain m.mems named.mems))
      (All-map IsName (λ (x : DeclaredWire). x.name) (map wire_plain m.wires) (All-map (λ (x : DeclaredWire). IsName x.name) wire_plain m.wires named.wires)))))

  pub means : Means (syntax_of m) (circuit_of m)
  means = record {
    name = refl;
    header = header_is m c;
    names = names_are;
    distinct = all_apart m c;
    inputs = same_maps input_of (λ x. declared_pin (declared_plain x)) m.inputs input_exact ∙ sym (map_twice declared_pin declared_plain m.inputs);
    outputs = outputs_outer (scope_of m) m.assigns (output_slots (scope_of m) m) 0 m.outputs
        ∙ (same_maps input_of (λ x. declared_pin (declared_plain x)) m.outputs output_exact ∙ sym (map_twice declared_pin declared_plain m.outputs));
    regs = regs_bits (scope_of m) m.drives (driven (scope_of m) m).regs 0 m.regs
        ∙ (same_maps (λ (x : PlacedDeclared). declared_bits x.high) (λ (x : PlacedDeclared). suc (number_value x.high)) m.regs register_exact ∙ sym (map_twice (λ (x : Declared). suc (number_value x.high)) declared_plain m.regs));
    mems = mems_mean;
    wires = wires_mean;
    assigned_once = same_elements assigned (output_names (syntax_of m)) assigned_apart outs is_output is_assigned;
    assigns = by_places (AssignMeans (names_here m) (circuit_of m).outputs) (syntax_of m).assigns assign_means;
    driven_once = driven_once;
    blocks = blocks_mean;
  }
