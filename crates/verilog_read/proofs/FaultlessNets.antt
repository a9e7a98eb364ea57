-- A net that means an expression that fits has no fault.
use Rattle.std.proofs.Common.{◌≡◌, ℕ, ◌+◌, ◌-◌, ◌^◌, ◌<◌, ◌≤◌, true, ◌&&◌, eqb, ltb, leb, min, List, [], ◌++◌, map, Some, refl, sym, ap, ◌∙◌, subst, arith}
use Rattle.std.specs.Prelude.{slice_get, is_some}
use Rattle.std.specs.Option.{option_map_or, option_and_then}
use Rattle.std.proofs.Math.Pow.{pow_mono}
use Rattle.std.proofs.lemmas.Bool.{lt-ltb, le-leb, eq-eqb, and_from}
use Rattle.rtl_core.specs.declared.design.Atom.{Atom}
use Rattle.rtl_core.specs.declared.design.Atom.TheVariants as atom
use Rattle.rtl_core.specs.declared.design.Pair.{Pair}
use Rattle.rtl_core.specs.declared.design.Pair.TheVariants as pair
use Rattle.rtl_core.specs.declared.design.Net.{Net}
use Rattle.rtl_core.specs.declared.design.Net.TheVariants as net
use Rattle.rtl_core.specs.declared.design.Port.{Port}
use Rattle.rtl_core.specs.Netlist.{Memory}
use Rattle.rtl_core.specs.ClockStep.{Widths}
use Rattle.rtl_core.specs.Valid.{IsBetween, AreDistinct, HasBits, OperandsFit, IsWordOf, NetFits}
use Rattle.rtl_core.specs.ModuleTokens.{number_value}
use Rattle.rtl_core.specs.ModuleSyntax.{Operand, Named, Fixed, DeclaredWire}
use Rattle.rtl_core.specs.ModuleText.{declared_name, OperandMeans, ExpressionMeans}
use Rattle.verilog_read.specs.declared.names.Sort.TheVariants as sort
use Rattle.verilog_read.specs.declared.names.Entry.{Entry}
use Rattle.verilog_read.specs.declared.names.Meaning.{Meaning}
use Rattle.verilog_read.specs.Numbers.{declared_bits}
use Rattle.verilog_syntax.specs.PlacedSyntax.{PlacedOperand, PlacedDeclared, PlacedWire, PlacedNet, alone, inverted, between, chosen, joined, slice, word_of, PlacedModule}
use Rattle.verilog_read.specs.Scope.{declarations, scope_of, find_sort, entry_meaning, meaning}
use Rattle.verilog_read.specs.Faults.{Addresses, is_in_range, may_have, may_agree, pair_fits, may_add_up, join_fits, is_part, part_fits, is_same_depth, address_fits, word_fits, net_fits, known_faults, bits_faults, atom_before, is_before, source_faults, memory_faults, net_faults, memory_of}
use Rattle.verilog_syntax.proofs.Places.{get_back}
use Rattle.verilog_read.proofs.NoFaults.{none_both, unless_none}
use Rattle.verilog_syntax.proofs.Unplaced.{declared_plain, wire_plain, net_plain}
use Rattle.verilog_read.proofs.Declared.{names_of, input_entry, register_entry, wire_entry}
use Rattle.verilog_read.proofs.Operands.{names_here}

-- the widths are those that are declared, of the first j wires
pub record Declares (m : PlacedModule) (j : ℕ) (w : Widths) : Type 0 where
  pub inputs : (k n : ℕ) (x : PlacedDeclared) → slice_get m.inputs k ≡ Some x → slice_get w.inputs k ≡ Some n → n ≡ declared_bits x.high
  pub regs : (k n : ℕ) (x : PlacedDeclared) → slice_get m.regs k ≡ Some x → slice_get w.regs k ≡ Some n → n ≡ declared_bits x.high
  pub wires : (k n : ℕ) (x : PlacedWire) → slice_get m.wires k ≡ Some x → slice_get w.wires k ≡ Some n → (n ≡ declared_bits x.high) × (k < j)

abbrev value : Atom → ℕ → Meaning
value a n = record { atom = a; bits = n }

-- an operand of so many bits that is this atom
pub record Known (m : PlacedModule) (x : Operand) (a : Atom) (j n : ℕ) : Type 0 where
  pub is : meaning (scope_of m) x ≡ Some (record { atom = a; bits = n })
  pub range : is_in_range x ≡ true
  pub before : atom_before j a ≡ true

small : (v t : ℕ) → v < t → min v (t - 1) ≡ v
small v t h = omega arith

fixed_known : (m : PlacedModule) (bits v j : ℕ) → IsBetween 1 128 bits → v < 2 ^ bits → Known m (Fixed bits v) (atom.Constant bits v) j bits
fixed_known m bits v j b low =
    let grows : 2 ^ bits ≤ 2 ^ 128 = pow_mono {i = bits} {j = 128} b.1 in
    let same : min bits 128 ≡ bits = omega (arith, b.1) in
    record {
      is = ap (λ n. Some (value (atom.Constant bits n) bits)) (small v (2 ^ 128) (omega (arith, low, grows)));
      range = ap (λ n. ltb v (2 ^ n)) same ∙ lt-ltb v (2 ^ bits) low;
      before = refl;
    }

module _ (m : PlacedModule) (distinct : AreDistinct (names_of (declarations m))) (j : ℕ) (w : Widths) (d : Declares m j w) where
  in_scope : (name : List ℕ) (e : Entry) (a : Atom) (n : ℕ) → scope_of m name ≡ Some e → entry_meaning e ≡ Some (value a n) → meaning (scope_of m) (Named name) ≡ Some (record { atom = a; bits = n })
  in_scope name e a n h k = ap (option_and_then entry_meaning) h ∙ k

  pub operand_known : (x : Operand) (a : Atom) (n : ℕ) → OperandMeans (names_here m) x a → HasBits w n a → Known m x a j n
  operand_known (Fixed bits v) (atom.Constant b u) n h k =
      let same : atom.Constant b u ≡ atom.Constant bits v = h in
      let bs : b ≡ bits = ap constant_bits same in
      let us : u ≡ v = ap constant_value same in
      let all : Known m (Fixed bits v) (atom.Constant bits v) j bits = fixed_known m bits v j (subst (IsBetween 1 128) (sym k.0 ∙ bs) k.1) (subst (λ t. t < 2 ^ bits) us (subst (λ t. u < 2 ^ t) (sym k.0 ∙ bs) k.2)) in
      subst (λ a. Known m (Fixed bits v) a j n) (sym same) (subst (Known m (Fixed bits v) (atom.Constant bits v) j) (sym bs ∙ k.0) all)
    where
      constant_bits : Atom → ℕ
      constant_bits (atom.Constant b u) = b
      constant_bits (atom.Input k) = 0
      constant_bits (atom.Reg k) = 0
      constant_bits (atom.Wire k) = 0

      constant_value : Atom → ℕ
      constant_value (atom.Constant b u) = u
      constant_value (atom.Input k) = 0
      constant_value (atom.Reg k) = 0
      constant_value (atom.Wire k) = 0
  operand_known (Fixed bits v) (atom.Input i) n h k = absurd cc
  operand_known (Fixed bits v) (atom.Reg i) n h k = absurd cc
  operand_known (Fixed bits v) (atom.Wire i) n h k = absurd cc
  operand_known (Named z) (atom.Constant b u) n h k = absurd h
  operand_known (Named z) (atom.Input i) n h k =
      let x = get_back declared_name (map declared_plain m.inputs) i z h in
      let y = get_back declared_plain m.inputs i x.0 x.1 in
      let name : y.0.name.text ≡ z = ap declared_name y.2 ∙ x.2 in
      let bits = d.inputs i n y.0 y.1 k in
      record {
        is = in_scope z _ (atom.Input i) n (ap (scope_of m) (sym name) ∙ input_entry m distinct i y.0 y.1) (ap (λ b. Some (value (atom.Input i) b)) (sym bits));
        range = refl;
        before = refl;
      }
  operand_known (Named z) (atom.Reg i) n h k =
      let x = get_back declared_name (map declared_plain m.regs) i z h in
      let y = get_back declared_plain m.regs i x.0 x.1 in
      let name : y.0.name.text ≡ z = ap declared_name y.2 ∙ x.2 in
      let bits = d.regs i n y.0 y.1 k in
      record {
        is = in_scope z _ (atom.Reg i) n (ap (scope_of m) (sym name) ∙ register_entry m distinct i y.0 y.1) (ap (λ b. Some (value (atom.Reg i) b)) (sym bits));
        range = refl;
        before = refl;
      }
  operand_known (Named z) (atom.Wire i) n h k =
      let x = get_back (λ (y : DeclaredWire). y.name) (map wire_plain m.wires) i z h in
      let y = get_back wire_plain m.wires i x.0 x.1 in
      let name : y.0.name.text ≡ z = ap (λ (v : DeclaredWire). v.name) y.2 ∙ x.2 in
      let bits = d.wires i n y.0 y.1 k in
      record {
        is = in_scope z _ (atom.Wire i) n (ap (scope_of m) (sym name) ∙ wire_entry m distinct i y.0 y.1) (ap (λ b. Some (value (atom.Wire i) b)) (sym bits.0));
        range = refl;
        before = lt-ltb i j bits.1;
      }

  -- ---- tests that a known operand passes

  pub known_none : (x : PlacedOperand) (a : Atom) (n : ℕ) → Known m x.operand a j n → known_faults (scope_of m) x ≡ []
  known_none x a n k = unless_none (is_some (meaning (scope_of m) x.operand)) 52 x.place (ap is_some k.is)

  source_none : (x : PlacedOperand) (a : Atom) (n : ℕ) → Known m x.operand a j n → source_faults (scope_of m) j x ≡ []
  source_none x a n k =
      none_both (known_faults (scope_of m) x) _ (known_none x a n k)
      (unless_none (is_before (scope_of m) x.operand j) 55 x.place (ap (λ o. option_map_or (λ (u : Meaning). atom_before j u.atom) o true) k.is ∙ k.before))

  pub may_true : (x : Operand) (a : Atom) (n : ℕ) → Known m x a j n → may_have (scope_of m) x n ≡ true
  may_true x a n k =
      ap (λ o. option_map_or (λ (u : Meaning). eqb u.bits n && is_in_range x) o true) k.is ∙ and_from (eqb n n) (is_in_range x) (eq-eqb n n refl) k.range

  pub bits_none : (x : PlacedOperand) (a : Atom) (n : ℕ) → Known m x.operand a j n → bits_faults (scope_of m) x n ≡ []
  bits_none x a n k = none_both (known_faults (scope_of m) x) _ (known_none x a n k) (unless_none (may_have (scope_of m) x.operand n) 53 x.place (may_true x.operand a n k))

  agree_true : (x y : Operand) (a b : Atom) (n : ℕ) → Known m x a j n → Known m y b j n → may_agree (scope_of m) x y ≡ true
  agree_true x y a b n k l =
      let same : option_map_or (λ (u : Meaning). option_map_or (λ (v : Meaning). eqb u.bits v.bits) (meaning (scope_of m) y) true) (meaning (scope_of m) x) true ≡ true =
      ap (λ o. option_map_or (λ (u : Meaning). option_map_or (λ (v : Meaning). eqb u.bits v.bits) (meaning (scope_of m) y) true) o true) k.is
      ∙ (ap (λ o. option_map_or (λ (v : Meaning). eqb n v.bits) o true) l.is ∙ eq-eqb n n refl) in
      and_from (option_map_or (λ (u : Meaning). option_map_or (λ (v : Meaning). eqb u.bits v.bits) (meaning (scope_of m) y) true) (meaning (scope_of m) x) true && is_in_range x) (is_in_range y)
      (and_from (option_map_or (λ (u : Meaning). option_map_or (λ (v : Meaning). eqb u.bits v.bits) (meaning (scope_of m) y) true) (meaning (scope_of m) x) true) (is_in_range x) same k.range) l.range

  abbrev Right : PlacedNet → Addresses → ℕ → Type 0
  Right n addresses bits = (net_faults (scope_of m) j n ≡ []) × (net_fits (scope_of m) addresses bits n ≡ true)

  two_none : (x y : PlacedOperand) (a b : Atom) (n k : ℕ) → Known m x.operand a j n → Known m y.operand b j k → source_faults (scope_of m) j x ++ source_faults (scope_of m) j y ≡ []
  two_none x y a b n k f g = none_both (source_faults (scope_of m) j x) _ (source_none x a n f) (source_none y b k g)

  equal_true : (bits : ℕ) (x y : Operand) (a b : Atom) → Known m x a j bits → Known m y b j bits → (may_have (scope_of m) x bits && may_have (scope_of m) y bits) ≡ true
  equal_true bits x y a b k l = and_from (may_have (scope_of m) x bits) (may_have (scope_of m) y bits) (may_true x a bits k) (may_true y b bits l)

  compare_true : (bits n : ℕ) (x y : Operand) (a b : Atom) → bits ≡ 1 → Known m x a j n → Known m y b j n → (eqb bits 1 && may_agree (scope_of m) x y) ≡ true
  compare_true bits n x y a b e k l = and_from (eqb bits 1) (may_agree (scope_of m) x y) (eq-eqb bits 1 e) (agree_true x y a b n k l)

  shift_true : (bits n : ℕ) (x y : Operand) (a b : Atom) → Known m x a j bits → Known m y b j n → (may_have (scope_of m) x bits && is_in_range y) ≡ true
  shift_true bits n x y a b k l = and_from (may_have (scope_of m) x bits) (is_in_range y) (may_true x a bits k) l.range

  pair_none : (op : Pair) (bits : ℕ) (addresses : Addresses) (x y : PlacedOperand) (a b : Atom) → OperandMeans (names_here m) x.operand a → OperandMeans (names_here m) y.operand b
      → OperandsFit op bits (λ n. HasBits w n a) (λ n. HasBits w n b) → (source_faults (scope_of m) j x ++ source_faults (scope_of m) j y ≡ []) × (pair_fits (scope_of m) bits op x.operand y.operand ≡ true)
  pair_none pair.Add bits addresses x y a b h k f = let p = operand_known x.operand a bits h f.0 in let q = operand_known y.operand b bits k f.1 in (two_none x y a b bits bits p q, equal_true bits x.operand y.operand a b p q)
  pair_none pair.Sub bits addresses x y a b h k f = let p = operand_known x.operand a bits h f.0 in let q = operand_known y.operand b bits k f.1 in (two_none x y a b bits bits p q, equal_true bits x.operand y.operand a b p q)
  pair_none pair.Mul bits addresses x y a b h k f = let p = operand_known x.operand a bits h f.0 in let q = operand_known y.operand b bits k f.1 in (two_none x y a b bits bits p q, equal_true bits x.operand y.operand a b p q)
  pair_none pair.And bits addresses x y a b h k f = let p = operand_known x.operand a bits h f.0 in let q = operand_known y.operand b bits k f.1 in (two_none x y a b bits bits p q, equal_true bits x.operand y.operand a b p q)
  pair_none pair.Or bits addresses x y a b h k f = let p = operand_known x.operand a bits h f.0 in let q = operand_known y.operand b bits k f.1 in (two_none x y a b bits bits p q, equal_true bits x.operand y.operand a b p q)
  pair_none pair.Xor bits addresses x y a b h k f = let p = operand_known x.operand a bits h f.0 in let q = operand_known y.operand b bits k f.1 in (two_none x y a b bits bits p q, equal_true bits x.operand y.operand a b p q)
  pair_none pair.Equal bits addresses x y a b h k f =
      let n = f.1.0 in let p = operand_known x.operand a n h f.1.1 in let q = operand_known y.operand b n k f.1.2 in (two_none x y a b n n p q, compare_true bits n x.operand y.operand a b f.0 p q)
  pair_none pair.Below bits addresses x y a b h k f =
      let n = f.1.0 in let p = operand_known x.operand a n h f.1.1 in let q = operand_known y.operand b n k f.1.2 in (two_none x y a b n n p q, compare_true bits n x.operand y.operand a b f.0 p q)
  pair_none pair.Left bits addresses x y a b h k f =
      let n = f.1.0 in let p = operand_known x.operand a bits h f.0 in let q = operand_known y.operand b n k f.1.1 in (two_none x y a b bits n p q, shift_true bits n x.operand y.operand a b p q)
  pair_none pair.Right bits addresses x y a b h k f =
      let n = f.1.0 in let p = operand_known x.operand a bits h f.0 in let q = operand_known y.operand b n k f.1.1 in (two_none x y a b bits n p q, shift_true bits n x.operand y.operand a b p q)

  join_true : (bits n k : ℕ) (x y : Operand) (a b : Atom) → bits ≡ n + k → Known m x a j n → Known m y b j k → join_fits (scope_of m) bits x y ≡ true
  join_true bits n k x y a b e p q =
      let sum : may_add_up bits (meaning (scope_of m) x) (meaning (scope_of m) y) ≡ true =
      ap (λ o. may_add_up bits o (meaning (scope_of m) y)) p.is ∙ (ap (λ o. may_add_up bits (Some (value a n)) o) q.is ∙ eq-eqb bits (n + k) e) in
      and_from (may_add_up bits (meaning (scope_of m) x) (meaning (scope_of m) y) && is_in_range x) (is_in_range y)
      (and_from (may_add_up bits (meaning (scope_of m) x) (meaning (scope_of m) y)) (is_in_range x) sum p.range) q.range

  part_true : (bits n : ℕ) (name high low : List ℕ) (a : Atom) → Known m (Named name) a j n → number_value high < n → number_value low ≤ number_value high → bits + number_value low ≡ number_value high + 1
      → part_fits (scope_of m) bits name high low ≡ true
  part_true bits n name high low a k below order total =
      ap (λ o. option_map_or (λ (u : Meaning). is_part u.bits bits high low) o true) k.is
      ∙ and_from (ltb (number_value high) n && leb (number_value low) (number_value high)) (eqb (bits + number_value low) (number_value high + 1))
      (and_from (ltb (number_value high) n) (leb (number_value low) (number_value high)) (lt-ltb (number_value high) n below) (le-leb (number_value low) (number_value high) order))
      (eq-eqb (bits + number_value low) (number_value high + 1) total)

  -- the memory of a word
  pub record MemoryKnown (addresses : Addresses) (mems : List Memory) (k : ℕ) (memory : List ℕ) : Type 0 where
    pub entry : Entry
    pub at : find_sort (scope_of m) memory sort.Memory ≡ Some entry
    pub bits : (h : Memory) → slice_get mems k ≡ Some h → entry.bits ≡ h.bits
    pub depth : (h : Memory) → slice_get mems k ≡ Some h → entry.depth ≡ Some h.depth_log
    pub ports : (h : Memory) (n : ℕ) (p : Port) → slice_get mems k ≡ Some h → slice_get h.ports n ≡ Some p → addresses entry.number p.addr ≡ true

  word_true : (bits : ℕ) (addresses : Addresses) (mems : List Memory) (k : ℕ) (memory : List ℕ) (x : Operand) (a : Atom) (h : Memory) → MemoryKnown addresses mems k memory → slice_get mems k ≡ Some h → IsWordOf w bits a h
      → Known m x a j h.depth_log → word_fits (scope_of m) addresses bits memory x ≡ true
  word_true bits addresses mems k memory x a h known at is f =
      let e = known.entry in
      let deep : is_same_depth e.depth h.depth_log ≡ true = ap (λ o. is_same_depth o h.depth_log) (known.depth h at) ∙ eq-eqb h.depth_log h.depth_log refl in
      let here : addresses e.number a ≡ true = ap (addresses e.number) (sym is.port.3) ∙ known.ports h is.port.0 is.port.1 at is.port.2 in
      let fits : address_fits (scope_of m) addresses e x ≡ true =
      ap (λ o. option_map_or (λ (u : Meaning). (is_same_depth e.depth u.bits && is_in_range x) && addresses e.number u.atom) o true) f.is
      ∙ and_from (is_same_depth e.depth h.depth_log && is_in_range x) (addresses e.number a) (and_from (is_same_depth e.depth h.depth_log) (is_in_range x) deep f.range) here in
      ap (λ o. option_map_or (λ (u : Entry). eqb u.bits bits && address_fits (scope_of m) addresses u x) o true) known.at
      ∙ and_from (eqb e.bits bits) (address_fits (scope_of m) addresses e x) (eq-eqb e.bits bits (known.bits h at ∙ is.bits)) fits

  pub net_none : (n : PlacedNet) (t : Net) (addresses : Addresses) (mems : List Memory) (bits : ℕ) → ((k : ℕ) (memory : List ℕ) → slice_get (names_here m).mems k ≡ Some memory → MemoryKnown addresses mems k memory)
      → ExpressionMeans (names_here m) (net_plain n) t → NetFits w mems bits t → (net_faults (scope_of m) j n ≡ []) × (net_fits (scope_of m) addresses bits n ≡ true)
  net_none (alone x) t addresses mems bits known h f =
      let k = operand_known x.operand h.0 bits h.2 (subst (NetFits w mems bits) h.1 f) in (source_none x h.0 bits k, may_true x.operand h.0 bits k)
  net_none (inverted x) t addresses mems bits known h f =
      let k = operand_known x.operand h.0 bits h.2 (subst (NetFits w mems bits) h.1 f) in (source_none x h.0 bits k, may_true x.operand h.0 bits k)
  net_none (between op x y) t addresses mems bits known h f = pair_none op bits addresses x y h.0 h.1 h.3 h.4 (subst (NetFits w mems bits) h.2 f)
  net_none (chosen x y z) t addresses mems bits known h f =
      let g : NetFits w mems bits (net.Pick h.0 h.1 h.2) = subst (NetFits w mems bits) h.3 f in
      let p = operand_known x.operand h.0 1 h.4 g.0 in
      let q = operand_known y.operand h.1 bits h.5 g.1 in
      let r = operand_known z.operand h.2 bits h.6 g.2 in (
        none_both (source_faults (scope_of m) j x) _ (source_none x h.0 1 p) (two_none y z h.1 h.2 bits bits q r),
        and_from (may_have (scope_of m) x.operand 1 && may_have (scope_of m) y.operand bits) (may_have (scope_of m) z.operand bits)
            (and_from (may_have (scope_of m) x.operand 1) (may_have (scope_of m) y.operand bits) (may_true x.operand h.0 1 p) (may_true y.operand h.1 bits q)) (may_true z.operand h.2 bits r),
      )
  net_none (joined x y) t addresses mems bits known h f =
      let g : NetFits w mems bits (net.Join h.0 h.1) = subst (NetFits w mems bits) h.2 f in
      let p = operand_known x.operand h.0 g.0 h.3 g.2 in
      let q = operand_known y.operand h.1 g.1 h.4 g.3 in (two_none x y h.0 h.1 g.0 g.1 p q, join_true bits g.0 g.1 x.operand y.operand h.0 h.1 g.4 p q)
  net_none (slice name high low) t addresses mems bits known h f =
      let g : NetFits w mems bits (net.Part h.0 (number_value high) (number_value low)) = subst (NetFits w mems bits) h.1 f in
      let p = operand_known (Named name.text) h.0 g.1.0 h.2 g.1.1 in
      (source_none (record { operand = Named name.text; place = name.place }) h.0 g.1.0 p, part_true bits g.1.0 name.text high low h.0 p g.1.2 g.1.3 g.1.4)
  net_none (word_of memory x) t addresses mems bits known h f =
      let g : NetFits w mems bits (net.Word h.0 h.1) = subst (NetFits w mems bits) h.2 f in
      let k = known h.0 memory.text h.3 in
      let p = operand_known x.operand h.1 g.0.depth_log h.4 g.2.wide in (
        none_both (memory_faults (scope_of m) memory) _ (unless_none (is_some (memory_of (scope_of m) memory)) 52 memory.place (ap is_some k.at)) (source_none x h.1 g.0.depth_log p),
        word_true bits addresses mems h.0 memory.text x.operand h.1 g.0 k g.1 g.2 p,
      )
