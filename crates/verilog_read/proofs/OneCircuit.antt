-- A syntax means one circuit.
use Rattle.std.proofs.Common.{◌≡◌, inl, inr, ℕ, zero, suc, ◌^◌, ◌<◌, ◌≤◌, List, ◌∷◌, ◌++◌, map, length, Some, refl, sym, ap, ◌∙◌, subst, arith}
use Rattle.std.specs.Prelude.{slice_get}
use Rattle.std.specs.List.{Contains}
use Rattle.std.proofs.lemmas.Option.{none-some, same_Some}
use Rattle.std.proofs.Math.Pow.{pow_mono}
use Rattle.std.proofs.lemmas.Bool.{cases_order}
use Rattle.std.proofs.lemmas.List.Elements.{Contains-append_left, Contains-append_right}
use Rattle.std.proofs.lemmas.List.Sorted.{IsPermutation-sym, Contains-permutation}
use Rattle.rtl_core.specs.declared.design.Pin.{Pin}
use Rattle.rtl_core.specs.declared.design.OutPin.{OutPin}
use Rattle.rtl_core.specs.declared.design.Atom.{Atom}
use Rattle.rtl_core.specs.declared.design.Atom.TheVariants as atom
use Rattle.rtl_core.specs.declared.design.Net.{Net}
use Rattle.rtl_core.specs.declared.design.Net.TheVariants as net
use Rattle.rtl_core.specs.declared.design.Wire.{Wire}
use Rattle.rtl_core.specs.declared.design.Reg.{Reg}
use Rattle.rtl_core.specs.declared.design.Port.{Port}
use Rattle.rtl_core.specs.Netlist.{Netlist, Memory}
use Rattle.rtl_core.specs.Interface.{outer}
use Rattle.rtl_core.specs.Valid.{AreDistinct}
use Rattle.rtl_core.specs.ModuleTokens.{number_value}
use Rattle.rtl_core.specs.ModuleSyntax.{Operand, Named, Fixed, Expression, Alone, Inverted, Between, Chosen, Joined, Slice, WordOf, Declared, DeclaredMemory, DeclaredWire, Assign, Write, Always, Register, Writes, Syntax}
use Rattle.rtl_core.specs.ModuleText.{Names, names_in, output_names, all_names, declared_name, declared_pin, OperandMeans, ExpressionMeans, WireMeans, MemoryMeans, InOrder, none, another, AssignMeans, WriteMeans, target, BlockMeans, Means}
use Rattle.verilog_syntax.proofs.Places.{All-place, contains_place, place_contains, get_map, get_back, one_at, same_places}
use Rattle.verilog_read.proofs.Distinct.{Among, place_among, among_append, distinct_left, distinct_right, parts_apart, places_distinct}
use Rattle.verilog_read.proofs.Meaning.{map_long}

-- ---- operands

-- the names of one scope differ
pub record Apart (n : Names) : Type 0 where
  pub inputs : AreDistinct n.inputs
  pub regs : AreDistinct n.regs
  pub mems : AreDistinct n.mems
  pub wires : AreDistinct n.wires
  pub input_reg : (z : List ℕ) → Among z n.inputs → Among z n.regs → ⊥
  pub input_wire : (z : List ℕ) → Among z n.inputs → Among z n.wires → ⊥
  pub reg_wire : (z : List ℕ) → Among z n.regs → Among z n.wires → ⊥
  pub reg_mem : (z : List ℕ) → Among z n.regs → Among z n.mems → ⊥

pub apart : (s : Syntax) → AreDistinct (all_names s) → Apart (names_in s)
apart s d =
    let n = names_in s in
    let behind = n.regs ++ (n.mems ++ n.wires) in
    let state = distinct_right (output_names s) behind (distinct_right n.inputs (output_names s ++ behind) d) in
    let rest = distinct_right n.regs (n.mems ++ n.wires) state in
    record {
      inputs = distinct_left n.inputs (output_names s ++ behind) d;
      regs = distinct_left n.regs (n.mems ++ n.wires) state;
      mems = distinct_left n.mems n.wires rest;
      wires = distinct_right n.mems n.wires rest;
      input_reg = λ z h k. parts_apart n.inputs (output_names s ++ behind) z d h (among_append z (output_names s) behind (inr (among_append z n.regs (n.mems ++ n.wires) (inl k))));
      input_wire = λ z h k.
          parts_apart n.inputs (output_names s ++ behind) z d h
          (among_append z (output_names s) behind (inr (among_append z n.regs (n.mems ++ n.wires) (inr (among_append z n.mems n.wires (inr k))))));
      reg_wire = λ z h k. parts_apart n.regs (n.mems ++ n.wires) z state h (among_append z n.mems n.wires (inr k));
      reg_mem = λ z h k. parts_apart n.regs (n.mems ++ n.wires) z state h (among_append z n.mems n.wires (inl k));
    }

module _ (n : Names) (apart : Apart n) where
  name_same : (z : List ℕ) (a b : Atom) → OperandMeans n (Named z) a → OperandMeans n (Named z) b → a ≡ b
  name_same z (atom.Constant c v) b h k = absurd h
  name_same z (atom.Input i) (atom.Constant c v) h k = absurd k
  name_same z (atom.Input i) (atom.Input j) h k = ap atom.Input (places_distinct n.inputs apart.inputs i j z h k)
  name_same z (atom.Input i) (atom.Reg j) h k = absurd (apart.input_reg z (place_among n.inputs i z h) (place_among n.regs j z k))
  name_same z (atom.Input i) (atom.Wire j) h k = absurd (apart.input_wire z (place_among n.inputs i z h) (place_among n.wires j z k))
  name_same z (atom.Reg i) (atom.Constant c v) h k = absurd k
  name_same z (atom.Reg i) (atom.Input j) h k = absurd (apart.input_reg z (place_among n.inputs j z k) (place_among n.regs i z h))
  name_same z (atom.Reg i) (atom.Reg j) h k = ap atom.Reg (places_distinct n.regs apart.regs i j z h k)
  name_same z (atom.Reg i) (atom.Wire j) h k = absurd (apart.reg_wire z (place_among n.regs i z h) (place_among n.wires j z k))
  name_same z (atom.Wire i) (atom.Constant c v) h k = absurd k
  name_same z (atom.Wire i) (atom.Input j) h k = absurd (apart.input_wire z (place_among n.inputs j z k) (place_among n.wires i z h))
  name_same z (atom.Wire i) (atom.Reg j) h k = absurd (apart.reg_wire z (place_among n.regs j z k) (place_among n.wires i z h))
  name_same z (atom.Wire i) (atom.Wire j) h k = ap atom.Wire (places_distinct n.wires apart.wires i j z h k)

  pub operand_same : (x : Operand) (a b : Atom) → OperandMeans n x a → OperandMeans n x b → a ≡ b
  operand_same (Named z) a b h k = name_same z a b h k
  operand_same (Fixed bits value) a b h k = h ∙ sym k

  net_same : (x : Expression) (a b : Net) → ExpressionMeans n x a → ExpressionMeans n x b → a ≡ b
  net_same (Alone x) p q h k = h.1 ∙ (ap net.Copy (operand_same x h.0 k.0 h.2 k.2) ∙ sym k.1)
  net_same (Inverted x) p q h k = h.1 ∙ (ap net.Not (operand_same x h.0 k.0 h.2 k.2) ∙ sym k.1)
  net_same (Between op x y) p q h k = h.2 ∙ (ap (λ a. net.Two op a h.1) (operand_same x h.0 k.0 h.3 k.3) ∙ (ap (net.Two op k.0) (operand_same y h.1 k.1 h.4 k.4) ∙ sym k.2))
  net_same (Chosen x y z) p q h k =
      h.3 ∙ (ap (λ a. net.Pick a h.1 h.2) (operand_same x h.0 k.0 h.4 k.4) ∙ (ap (λ b. net.Pick k.0 b h.2) (operand_same y h.1 k.1 h.5 k.5) ∙ (ap (net.Pick k.0 k.1) (operand_same z h.2 k.2 h.6 k.6) ∙ sym k.3)))
  net_same (Joined x y) p q h k = h.2 ∙ (ap (λ a. net.Join a h.1) (operand_same x h.0 k.0 h.3 k.3) ∙ (ap (net.Join k.0) (operand_same y h.1 k.1 h.4 k.4) ∙ sym k.2))
  net_same (Slice name high low) p q h k = h.1 ∙ (ap (λ a. net.Part a (number_value high) (number_value low)) (name_same name h.0 k.0 h.2 k.2) ∙ sym k.1)
  net_same (WordOf memory x) p q h k =
      h.2 ∙ (ap (λ i. net.Word i h.1) (places_distinct n.mems apart.mems h.0 k.0 memory h.3 k.3) ∙ (ap (net.Word k.0) (operand_same x h.1 k.1 h.4 k.4) ∙ sym k.2))

  wires_same : (xs : List DeclaredWire) (us vs : List Wire) → InOrder (WireMeans n) xs us → InOrder (WireMeans n) xs vs → us ≡ vs
  wires_same _ _ _ none none = refl
  wires_same _ _ _ (another x u xs us h hs) (another y v ys vs k ks) =
      let bits : u.bits ≡ v.bits = h.bits ∙ sym k.bits in
      let nets : u.net ≡ v.net = net_same x.net u.net v.net h.net k.net in
      ap (λ b. record { bits = b; net = u.net } ∷ us) bits ∙ (ap (λ t. record { bits = v.bits; net = t } ∷ us) nets ∙ ap (λ ws. v ∷ ws) (wires_same xs us vs hs ks))

  ports_same : (memory : List ℕ) (xs : List Write) (us vs : List Port) → InOrder (WriteMeans n memory) xs us → InOrder (WriteMeans n memory) xs vs → us ≡ vs
  ports_same memory _ _ _ none none = refl
  ports_same memory _ _ _ (another x u xs us h hs) (another y v ys vs k ks) =
      let addr : u.addr ≡ v.addr = operand_same x.address u.addr v.addr h.address k.address in
      let enable : u.enable ≡ v.enable = operand_same x.enable u.enable v.enable h.enable k.enable in
      let value : u.value ≡ v.value = operand_same x.value u.value v.value h.value k.value in
      ap (λ a. record { addr = a; enable = u.enable; value = u.value } ∷ us) addr
      ∙ (ap (λ a. record { addr = v.addr; enable = a; value = u.value } ∷ us) enable
      ∙ (ap (λ a. record { addr = v.addr; enable = v.enable; value = a } ∷ us) value ∙ ap (λ ws. v ∷ ws) (ports_same memory xs us vs hs ks)))

-- ---- widths

pow_apart : (j k : ℕ) → j < k → 2 ^ j ≡ 2 ^ k → ⊥
pow_apart j k low e = omega (arith, e, pow_mono {i = suc j} {j = k} low, pow_some j)
  where
    pow_some : (i : ℕ) → 1 ≤ 2 ^ i
    pow_some zero = omega arith
    pow_some (suc i) = omega (arith, pow_some i)

pub same_log : (j k : ℕ) → 2 ^ j ≡ 2 ^ k → j ≡ k
same_log j k e =
    elim (cases_order j k) [ inl same ↦ same | inr (inl low) ↦ absurd (pow_apart j k low e) | inr (inr low) ↦ absurd (pow_apart k j low (sym e)) ]

-- two lists that are in order with one list have the same elements, where what is related to one element at one place is the same
pub in_order_at : {A B : Type 0} (R : A → B → Type 0) (xs : List A) (ys : List B) → InOrder R xs ys → (k : ℕ) (y : B) → slice_get ys k ≡ Some y → (x : A) × (slice_get xs k ≡ Some x) × R x y
in_order_at R _ _ none k y e = absurd (none-some y e)
in_order_at R _ _ (another x u xs us h hs) zero y e = (x, refl, subst (R x) (same_Some u y e) h)
in_order_at R _ _ (another x u xs us h hs) (suc k) y e = in_order_at R xs us hs k y e

in_order_long : {A B : Type 0} (R : A → B → Type 0) (xs : List A) (ys : List B) → InOrder R xs ys → length xs ≡ length ys
in_order_long R _ _ none = refl
in_order_long R _ _ (another x u xs us h hs) = ap suc (in_order_long R xs us hs)

-- ---- two circuits of one syntax

module _ (s : Syntax) (d e : Netlist) (p : Means s d) (q : Means s e) where
  abbrev n : Names
  n = names_in s

  far : Apart (names_in s)
  far = apart s p.distinct

  outs : AreDistinct (output_names s)
  outs = distinct_left (output_names s) (n.regs ++ (n.mems ++ n.wires)) (distinct_right n.inputs (output_names s ++ (n.regs ++ (n.mems ++ n.wires))) p.distinct)

  -- the name of an output
  out_name : (c : Netlist) → Means s c → (k : ℕ) (o : OutPin) → slice_get c.outputs k ≡ Some o → (x : Declared) × (slice_get s.outputs k ≡ Some x) × (declared_pin x ≡ outer o)
  out_name c h k o at = get_back declared_pin s.outputs k (outer o) (ap (λ xs. slice_get xs k) (sym h.outputs) ∙ get_map outer c.outputs k o at)

  -- what an output shows
  out_from : (c : Netlist) (h : Means s c) (k : ℕ) (o : OutPin) → slice_get c.outputs k ≡ Some o → (j : ℕ) (x : Assign) → slice_get s.assigns j ≡ Some x → x.name ≡ o.name → OperandMeans (names_in s) x.from o.from
  out_from c h k o at j x here named =
      let a = All-place (AssignMeans (names_in s) c.outputs) s.assigns j x h.assigns here in
      let mine = out_name c h k o at in
      let its = out_name c h a.place a.output a.found in
      let one : slice_get (output_names s) k ≡ Some x.name = get_map declared_name s.outputs k mine.0 mine.1 ∙ ap Some (ap (λ (r : Pin). r.name) mine.2 ∙ sym named) in
      let two : slice_get (output_names s) a.place ≡ Some x.name = get_map declared_name s.outputs a.place its.0 its.1 ∙ ap Some (ap (λ (r : Pin). r.name) its.2 ∙ a.named) in
      let place : a.place ≡ k = places_distinct (output_names s) outs a.place k x.name two one in
      subst (λ (r : OutPin). OperandMeans (names_in s) x.from r.from) (one_at c.outputs k a.output o (ap (slice_get c.outputs) (sym place) ∙ a.found) at) a.from

  outputs_same : d.outputs ≡ e.outputs
  outputs_same =
      same_places d.outputs e.outputs
      (sym (map_long outer d.outputs) ∙ (ap length (p.outputs ∙ sym q.outputs) ∙ map_long outer e.outputs))
      (λ k u v a b.
      let x = out_name d p k u a in
      let y = out_name e q k v b in
      let pins : outer u ≡ outer v = sym x.2 ∙ (ap declared_pin (one_at s.outputs k x.0 y.0 x.1 y.1) ∙ y.2) in
      let name : slice_get (output_names s) k ≡ Some u.name = get_map declared_name s.outputs k x.0 x.1 ∙ ap (λ (r : Pin). Some r.name) x.2 in
      let there = Contains-permutation (output_names s) (map (λ (z : Assign). z.name) s.assigns) u.name (IsPermutation-sym (map (λ (z : Assign). z.name) s.assigns) (output_names s) p.assigned_once) (place_contains (output_names s) k u.name name) in
      let at = contains_place (map (λ (z : Assign). z.name) s.assigns) u.name there in
      let z = get_back (λ (w : Assign). w.name) s.assigns at.0 u.name at.1 in
      let from : u.from ≡ v.from = operand_same (names_in s) far z.0.from u.from v.from (out_from d p k u a at.0 z.0 z.1 z.2) (out_from e q k v b at.0 z.0 z.1 (z.2 ∙ ap (λ (r : Pin). r.name) pins)) in
      ap (λ (r : Pin). record { name = r.name; bits = r.bits; from = u.from }) pins ∙ ap (λ f. record { name = v.name; bits = v.bits; from = f }) from)

  abbrev targets : List (List ℕ)
  targets = map target s.blocks

  -- the block of a register or a memory
  block_at : (z : List ℕ) → Contains (n.regs ++ n.mems) z → (j : ℕ) × (x : Always) × (slice_get s.blocks j ≡ Some x) × (target x ≡ z)
  block_at z h =
      let there = Contains-permutation (n.regs ++ n.mems) targets z (IsPermutation-sym targets (n.regs ++ n.mems) p.driven_once) h in
      let at = contains_place targets z there in
      let x = get_back target s.blocks at.0 z at.1 in
      (at.0, x.0, x.1, x.2)

  reg_name : (c : Netlist) → Means s c → (k : ℕ) (r : Reg) → slice_get c.regs k ≡ Some r → (x : Declared) × (slice_get s.regs k ≡ Some x) × (suc (number_value x.high) ≡ r.bits)
  reg_name c h k r at = get_back (λ (x : Declared). suc (number_value x.high)) s.regs k r.bits (ap (λ xs. slice_get xs k) (sym h.regs) ∙ get_map (λ (r : Reg). r.bits) c.regs k r at)

  reg_set : (c : Netlist) → Means s c → (k : ℕ) (r : Reg) → slice_get c.regs k ≡ Some r → (j : ℕ) (enable : Operand) (name : List ℕ) (next : Operand) → slice_get s.blocks j ≡ Some (Register enable name next)
      → slice_get n.regs k ≡ Some name → OperandMeans (names_in s) enable r.enable × OperandMeans (names_in s) next r.next
  reg_set c h k r at j enable name next here named =
      let a = All-place (BlockMeans (names_in s) c) s.blocks j (Register enable name next) h.blocks here in
      let place : a.place ≡ k = places_distinct n.regs far.regs a.place k name a.named named in
      let same = one_at c.regs k a.register r (ap (slice_get c.regs) (sym place) ∙ a.found) at in
      (subst (λ (x : Reg). OperandMeans (names_in s) enable x.enable) same a.enable_is, subst (λ (x : Reg). OperandMeans (names_in s) next x.next) same a.next_is)

  mem_set : (c : Netlist) → Means s c → (k : ℕ) (r : Memory) → slice_get c.mems k ≡ Some r → (j : ℕ) (first : Write) (others : List Write) → slice_get s.blocks j ≡ Some (Writes first others)
      → slice_get n.mems k ≡ Some first.memory → InOrder (WriteMeans (names_in s) first.memory) (first ∷ others) r.ports
  mem_set c h k r at j first others here named =
      let a = All-place (BlockMeans (names_in s) c) s.blocks j (Writes first others) h.blocks here in
      let place : a.place ≡ k = places_distinct n.mems far.mems a.place k first.memory a.named named in
      let same = one_at c.mems k a.memory r (ap (slice_get c.mems) (sym place) ∙ a.found) at in
      subst (λ (x : Memory). InOrder (WriteMeans (names_in s) first.memory) (first ∷ others) x.ports) same a.ports

  reg_by : (k : ℕ) (u v : Reg) (x : Declared) → slice_get s.regs k ≡ Some x → slice_get d.regs k ≡ Some u → slice_get e.regs k ≡ Some v → (j : ℕ) (b : Always) → slice_get s.blocks j ≡ Some b → target b ≡ x.name
      → (u.enable ≡ v.enable) × (u.next ≡ v.next)
  reg_by k u v x decl a b j (Register enable name next) here named =
      let at : slice_get n.regs k ≡ Some name = get_map declared_name s.regs k x decl ∙ ap Some (sym named) in
      let f = reg_set d p k u a j enable name next here at in
      let g = reg_set e q k v b j enable name next here at in
      (operand_same (names_in s) far enable u.enable v.enable f.0 g.0, operand_same (names_in s) far next u.next v.next f.1 g.1)
  reg_by k u v x decl a b j (Writes first others) here named =
      let w = All-place (BlockMeans (names_in s) d) s.blocks j (Writes first others) p.blocks here in
      absurd (far.reg_mem x.name (place_among n.regs k x.name (get_map declared_name s.regs k x decl)) (place_among n.mems w.place x.name (w.named ∙ ap Some named)))

  regs_same : d.regs ≡ e.regs
  regs_same =
      same_places d.regs e.regs
      (sym (map_long (λ (r : Reg). r.bits) d.regs) ∙ (ap length (p.regs ∙ sym q.regs) ∙ map_long (λ (r : Reg). r.bits) e.regs))
      (λ k u v a b.
      let x = reg_name d p k u a in
      let y = reg_name e q k v b in
      let bits : u.bits ≡ v.bits = sym x.2 ∙ (ap (λ (z : Declared). suc (number_value z.high)) (one_at s.regs k x.0 y.0 x.1 y.1) ∙ y.2) in
      let name : slice_get n.regs k ≡ Some x.0.name = get_map declared_name s.regs k x.0 x.1 in
      let block = block_at x.0.name (Contains-append_left n.regs n.mems x.0.name (place_contains n.regs k x.0.name name)) in
      let set = reg_by k u v x.0 x.1 a b block.0 block.1 block.2 block.3 in
      ap (λ z. record { bits = z; enable = u.enable; next = u.next }) bits ∙ (ap (λ z. record { bits = v.bits; enable = z; next = u.next }) set.0 ∙ ap (λ z. record { bits = v.bits; enable = v.enable; next = z }) set.1))

  mem_by : (k : ℕ) (u v : Memory) (x : DeclaredMemory) → slice_get s.mems k ≡ Some x → slice_get d.mems k ≡ Some u → slice_get e.mems k ≡ Some v → (j : ℕ) (b : Always) → slice_get s.blocks j ≡ Some b → target b ≡ x.name → u.ports ≡ v.ports
  mem_by k u v x decl a b j (Writes first others) here named =
      let at : slice_get n.mems k ≡ Some first.memory = get_map (λ (z : DeclaredMemory). z.name) s.mems k x decl ∙ ap Some (sym named) in
      ports_same (names_in s) far first.memory (first ∷ others) u.ports v.ports (mem_set d p k u a j first others here at) (mem_set e q k v b j first others here at)
  mem_by k u v x decl a b j (Register enable name next) here named =
      let w = All-place (BlockMeans (names_in s) d) s.blocks j (Register enable name next) p.blocks here in
      absurd (far.reg_mem x.name (place_among n.regs w.place x.name (w.named ∙ ap Some named)) (place_among n.mems k x.name (get_map (λ (z : DeclaredMemory). z.name) s.mems k x decl)))

  mems_same : d.mems ≡ e.mems
  mems_same =
      same_places d.mems e.mems
      (sym (in_order_long MemoryMeans s.mems d.mems p.mems) ∙ in_order_long MemoryMeans s.mems e.mems q.mems)
      (λ k u v a b.
      let x = in_order_at MemoryMeans s.mems d.mems p.mems k u a in
      let y = in_order_at MemoryMeans s.mems e.mems q.mems k v b in
      let one : x.0 ≡ y.0 = one_at s.mems k x.0 y.0 x.1 y.1 in
      let bits : u.bits ≡ v.bits = x.2.bits ∙ (ap (λ (z : DeclaredMemory). suc (number_value z.high)) one ∙ sym y.2.bits) in
      let log : u.depth_log ≡ v.depth_log = same_log u.depth_log v.depth_log (sym x.2.depth ∙ (ap (λ (z : DeclaredMemory). suc (number_value z.last)) one ∙ y.2.depth)) in
      let name : slice_get n.mems k ≡ Some x.0.name = get_map (λ (z : DeclaredMemory). z.name) s.mems k x.0 x.1 in
      let block = block_at x.0.name (Contains-append_right n.regs n.mems x.0.name (place_contains n.mems k x.0.name name)) in
      let ports = mem_by k u v x.0 x.1 a b block.0 block.1 block.2 block.3 in
      ap (λ z. record { bits = z; depth_log = u.depth_log; ports = u.ports }) bits
      ∙ (ap (λ z. record { bits = v.bits; depth_log = z; ports = u.ports }) log ∙ ap (λ z. record { bits = v.bits; depth_log = v.depth_log; ports = z }) ports))

  pub one_circuit : d ≡ e
  one_circuit =
      ap (λ z. record { name = z; inputs = d.inputs; outputs = d.outputs; regs = d.regs; mems = d.mems; wires = d.wires }) (p.name ∙ sym q.name)
      ∙ (ap (λ z. record { name = e.name; inputs = z; outputs = d.outputs; regs = d.regs; mems = d.mems; wires = d.wires }) (p.inputs ∙ sym q.inputs)
      ∙ (ap (λ z. record { name = e.name; inputs = e.inputs; outputs = z; regs = d.regs; mems = d.mems; wires = d.wires }) outputs_same
      ∙ (ap (λ z. record { name = e.name; inputs = e.inputs; outputs = e.outputs; regs = z; mems = d.mems; wires = d.wires }) regs_same
      ∙ (ap (λ z. record { name = e.name; inputs = e.inputs; outputs = e.outputs; regs = e.regs; mems = z; wires = d.wires }) mems_same
      ∙ ap (λ z. record { name = e.name; inputs = e.inputs; outputs = e.outputs; regs = e.regs; mems = e.mems; wires = z }) (wires_same (names_in s) far s.wires d.wires e.wires p.wires q.wires)))))
