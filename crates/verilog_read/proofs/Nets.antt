-- What the net of a wire without a fault means, and its width.
use Rattle.std.proofs.Common.{◌≡◌, ℕ, ◌+◌, ◌-◌, ◌^◌, ◌<◌, ◌≤◌, true, ◌&&◌, eqb, ltb, leb, min, List, [], Option, Some, refl, sym, ap, ◌∙◌, subst, arith}
use Rattle.std.specs.Prelude.{slice_get, is_some}
use Rattle.std.specs.Option.{option_map_or}
use Rattle.std.proofs.lemmas.Bool.{and_parts, ltb-true, leb-true, eqb-true}
use Rattle.std.proofs.lemmas.Option.{same_Some}
use Rattle.rtl_core.specs.declared.design.Atom.{Atom}
use Rattle.rtl_core.specs.declared.design.Pair.{Pair}
use Rattle.rtl_core.specs.declared.design.Pair.TheVariants as pair
use Rattle.rtl_core.specs.declared.design.Net.TheVariants as net
use Rattle.rtl_core.specs.declared.design.Port.{Port}
use Rattle.rtl_core.specs.Netlist.{Memory}
use Rattle.rtl_core.specs.ClockStep.{Widths}
use Rattle.rtl_core.specs.Valid.{HasBits, IsConstant, OperandsFit, NetFits}
use Rattle.rtl_core.specs.ModuleTokens.{number_value}
use Rattle.rtl_core.specs.ModuleSyntax.{Operand, Named}
use Rattle.rtl_core.specs.ModuleText.{OperandMeans, ExpressionMeans}
use Rattle.verilog_read.specs.declared.names.Entry.{Entry}
use Rattle.verilog_read.specs.declared.names.Meaning.{Meaning}
use Rattle.verilog_read.specs.Numbers.{declared_bits}
use Rattle.verilog_syntax.specs.PlacedSyntax.{PlacedName, PlacedOperand, PlacedNet, alone, inverted, between, chosen, joined, slice, word_of, PlacedModule}
use Rattle.verilog_read.specs.Scope.{scope_of, named, meaning, atom_in}
use Rattle.verilog_read.specs.Faults.{Addresses, is_in_range, may_have, may_agree, pair_fits, may_add_up, join_fits, is_part, part_fits, is_same_depth, address_fits, word_fits, net_fits, source_faults, memory_faults, net_faults, memory_of}
use Rattle.verilog_read.specs.Circuit.{small, memory_number, net_of}
use Rattle.verilog_read.proofs.NoFaults.{none_left, none_right, unless_true}
use Rattle.verilog_syntax.proofs.Unplaced.{net_plain}
use Rattle.verilog_read.proofs.Operands.{some_of, at_value, Value, of_input, of_register, of_wire, named_value, found_memory, names_here, memory_name, Wide, Sized, Fits, fits_means, fits_bits, atom_is, known_value, source_own, source_fits}

-- the constants of a net have 1 to 128 bits
abbrev pub SizedNet : PlacedNet → Type 0
SizedNet (alone a) = Sized a.operand
SizedNet (inverted a) = Sized a.operand
SizedNet (between op a b) = Sized a.operand × Sized b.operand
SizedNet (chosen a b c) = Sized a.operand × Sized b.operand × Sized c.operand
SizedNet (joined a b) = Sized a.operand × Sized b.operand
SizedNet (slice name high low) = Unit {0}
SizedNet (word_of memory a) = Sized a.operand

-- a memory of the circuit, whose ports have these addresses
pub record HoldsMemory (mems : List Memory) (addresses : Addresses) (e : Entry) : Type 0 where
  pub memory : Memory
  pub found : slice_get mems e.number ≡ Some memory
  pub bits : memory.bits ≡ e.bits
  pub depth : e.depth ≡ Some memory.depth_log
  pub number : min e.number (2 ^ 32 - 1) ≡ e.number
  pub ports : (a : Atom) → addresses e.number a ≡ true → (k : ℕ) × (p : Port) × (slice_get memory.ports k ≡ Some p) × (p.addr ≡ a)

-- what a net means, and that it fits
abbrev Right : PlacedModule → Widths → List Memory → ℕ → PlacedNet → Type 0
Right m w mems bits n = ExpressionMeans (names_here m) (net_plain n) (net_of (scope_of m) n) × NetFits w mems bits (net_of (scope_of m) n)

module _ (m : PlacedModule) (w : Widths) (mems : List Memory) (addresses : Addresses) (j bits : ℕ) (wide : Wide m j w) where
  abbrev at : Operand → Atom
  at x = atom_in (scope_of m) x

  two_equal : (x y : PlacedOperand) → source_faults (scope_of m) j x ≡ [] → source_faults (scope_of m) j y ≡ [] → Sized x.operand → Sized y.operand
      → (may_have (scope_of m) x.operand bits && may_have (scope_of m) y.operand bits) ≡ true → Fits m x.operand j bits × Fits m y.operand j bits
  two_equal x y fx fy sx sy h =
      let p = and_parts (may_have (scope_of m) x.operand bits) (may_have (scope_of m) y.operand bits) h in (source_fits m x j bits fx p.0 sx, source_fits m y j bits fy p.1 sy)

  agreeing : (x y : PlacedOperand) → source_faults (scope_of m) j x ≡ [] → source_faults (scope_of m) j y ≡ [] → Sized x.operand → Sized y.operand
      → may_agree (scope_of m) x.operand y.operand ≡ true → (n : ℕ) × Fits m x.operand j n × Fits m y.operand j n
  agreeing x y fx fy sx sy h =
      let same = option_map_or (λ (a : Meaning). option_map_or (λ (b : Meaning). eqb a.bits b.bits) (meaning (scope_of m) y.operand) true) (meaning (scope_of m) x.operand) true in
      let p = and_parts (same && is_in_range x.operand) (is_in_range y.operand) h in
      let q = and_parts same (is_in_range x.operand) p.0 in
      let a = source_own m x j fx q.1 sx in
      let b = source_own m y j fy p.1 sy in
      let inner = at_value (λ (a : Meaning). option_map_or (λ (b : Meaning). eqb a.bits b.bits) (meaning (scope_of m) y.operand) true) (meaning (scope_of m) x.operand) a.1.value a.1.is q.0 in
      let equal = eqb-true a.1.value.bits b.1.value.bits (at_value (λ (b : Meaning). eqb a.1.value.bits b.bits) (meaning (scope_of m) y.operand) b.1.value b.1.is inner) in
      (a.0, a.1, subst (Fits m y.operand j) (sym b.1.bits ∙ (sym equal ∙ a.1.bits)) b.1)

  compared : (x y : PlacedOperand) → source_faults (scope_of m) j x ≡ [] → source_faults (scope_of m) j y ≡ [] → Sized x.operand → Sized y.operand
      → (eqb bits 1 && may_agree (scope_of m) x.operand y.operand) ≡ true → (bits ≡ 1) × ((n : ℕ) × Fits m x.operand j n × Fits m y.operand j n)
  compared x y fx fy sx sy h =
      let p = and_parts (eqb bits 1) (may_agree (scope_of m) x.operand y.operand) h in (eqb-true bits 1 p.0, agreeing x y fx fy sx sy p.1)

  shifted : (x y : PlacedOperand) → source_faults (scope_of m) j x ≡ [] → source_faults (scope_of m) j y ≡ [] → Sized x.operand → Sized y.operand
      → (may_have (scope_of m) x.operand bits && is_in_range y.operand) ≡ true → Fits m x.operand j bits × ((n : ℕ) × Fits m y.operand j n)
  shifted x y fx fy sx sy h =
      let p = and_parts (may_have (scope_of m) x.operand bits) (is_in_range y.operand) h in (source_fits m x j bits fx p.0 sx, source_own m y j fy p.1 sy)

  abbrev PairRight : Pair → PlacedOperand → PlacedOperand → Type 0
  PairRight op x y =
      (OperandMeans (names_here m) x.operand (at x.operand) × OperandMeans (names_here m) y.operand (at y.operand)) × OperandsFit op bits (λ n. HasBits w n (at x.operand)) (λ n. HasBits w n (at y.operand))

  equal_pair : (x y : PlacedOperand) → Fits m x.operand j bits × Fits m y.operand j bits
      → (OperandMeans (names_here m) x.operand (at x.operand) × OperandMeans (names_here m) y.operand (at y.operand)) × (HasBits w bits (at x.operand) × HasBits w bits (at y.operand))
  equal_pair x y f =
      ((fits_means m x.operand j bits f.0, fits_means m y.operand j bits f.1), (fits_bits m x.operand j bits w f.0 wide, fits_bits m y.operand j bits w f.1 wide))

  compared_pair : (x y : PlacedOperand) → (bits ≡ 1) × ((n : ℕ) × Fits m x.operand j n × Fits m y.operand j n)
      → (OperandMeans (names_here m) x.operand (at x.operand) × OperandMeans (names_here m) y.operand (at y.operand)) × ((bits ≡ 1) × ((n : ℕ) × HasBits w n (at x.operand) × HasBits w n (at y.operand)))
  compared_pair x y f =
      let n = f.1.0 in
      ((fits_means m x.operand j n f.1.1, fits_means m y.operand j n f.1.2), (f.0, (n, fits_bits m x.operand j n w f.1.1 wide, fits_bits m y.operand j n w f.1.2 wide)))

  shifted_pair : (x y : PlacedOperand) → Fits m x.operand j bits × ((n : ℕ) × Fits m y.operand j n)
      → (OperandMeans (names_here m) x.operand (at x.operand) × OperandMeans (names_here m) y.operand (at y.operand)) × (HasBits w bits (at x.operand) × ((n : ℕ) × HasBits w n (at y.operand)))
  shifted_pair x y f =
      let n = f.1.0 in ((fits_means m x.operand j bits f.0, fits_means m y.operand j n f.1.1), (fits_bits m x.operand j bits w f.0 wide, (n, fits_bits m y.operand j n w f.1.1 wide)))

  pair_right : (op : Pair) (x y : PlacedOperand) → source_faults (scope_of m) j x ≡ [] → source_faults (scope_of m) j y ≡ [] → Sized x.operand → Sized y.operand
      → pair_fits (scope_of m) bits op x.operand y.operand ≡ true → PairRight op x y
  pair_right pair.Add x y fx fy sx sy h = equal_pair x y (two_equal x y fx fy sx sy h)
  pair_right pair.Sub x y fx fy sx sy h = equal_pair x y (two_equal x y fx fy sx sy h)
  pair_right pair.Mul x y fx fy sx sy h = equal_pair x y (two_equal x y fx fy sx sy h)
  pair_right pair.And x y fx fy sx sy h = equal_pair x y (two_equal x y fx fy sx sy h)
  pair_right pair.Or x y fx fy sx sy h = equal_pair x y (two_equal x y fx fy sx sy h)
  pair_right pair.Xor x y fx fy sx sy h = equal_pair x y (two_equal x y fx fy sx sy h)
  pair_right pair.Equal x y fx fy sx sy h = compared_pair x y (compared x y fx fy sx sy h)
  pair_right pair.Below x y fx fy sx sy h = compared_pair x y (compared x y fx fy sx sy h)
  pair_right pair.Left x y fx fy sx sy h = shifted_pair x y (shifted x y fx fy sx sy h)
  pair_right pair.Right x y fx fy sx sy h = shifted_pair x y (shifted x y fx fy sx sy h)

  added_up : (o p : Option Meaning) (a b : Meaning) → o ≡ Some a → p ≡ Some b → may_add_up bits o p ≡ true → bits ≡ a.bits + b.bits
  added_up o p a b e f h =
      eqb-true bits (a.bits + b.bits) (sym (ap (λ q. may_add_up bits q p) e ∙ ap (λ q. may_add_up bits (Some a) q) f) ∙ h)

  join_right : (x y : PlacedOperand) → source_faults (scope_of m) j x ≡ [] → source_faults (scope_of m) j y ≡ [] → Sized x.operand → Sized y.operand
      → join_fits (scope_of m) bits x.operand y.operand ≡ true → Right m w mems bits (joined x y)
  join_right x y fx fy sx sy h =
      let sum = may_add_up bits (meaning (scope_of m) x.operand) (meaning (scope_of m) y.operand) in
      let p = and_parts (sum && is_in_range x.operand) (is_in_range y.operand) h in
      let q = and_parts sum (is_in_range x.operand) p.0 in
      let a = source_own m x j fx q.1 sx in
      let b = source_own m y j fy p.1 sy in
      let total = added_up (meaning (scope_of m) x.operand) (meaning (scope_of m) y.operand) a.1.value b.1.value a.1.is b.1.is q.0 in (
        (at x.operand, at y.operand, refl, fits_means m x.operand j a.0 a.1, fits_means m y.operand j b.0 b.1),
        (a.0, b.0, fits_bits m x.operand j a.0 w a.1 wide, fits_bits m y.operand j b.0 w b.1 wide, total ∙ (ap (λ n. n + b.1.value.bits) a.1.bits ∙ ap (λ n. a.0 + n) b.1.bits)),
      )

  no_constant : (name : List ℕ) (v : Meaning) → Value m name v → ¬ IsConstant v.atom
  no_constant name v (of_input k x found named e) c = subst (λ (u : Meaning). IsConstant u.atom) e c
  no_constant name v (of_register k x found named e) c = subst (λ (u : Meaning). IsConstant u.atom) e c
  no_constant name v (of_wire k x found named e) c = subst (λ (u : Meaning). IsConstant u.atom) e c

  capped : (high : List ℕ) → declared_bits high ≤ 129
  capped high = omega arith

  value_small : (name : List ℕ) (v : Meaning) → Value m name v → v.bits ≤ 129
  value_small name v (of_input k x found named e) = subst (λ (u : Meaning). u.bits ≤ 129) (sym e) (capped x.high)
  value_small name v (of_register k x found named e) = subst (λ (u : Meaning). u.bits ≤ 129) (sym e) (capped x.high)
  value_small name v (of_wire k x found named e) = subst (λ (u : Meaning). u.bits ≤ 129) (sym e) (capped x.high)

  slice_right : (name : PlacedName) (high low : List ℕ) → source_faults (scope_of m) j (record { operand = Named name.text; place = name.place }) ≡ []
      → part_fits (scope_of m) bits name.text high low ≡ true → Right m w mems bits (slice name high low)
  slice_right name high low f h =
      let a = source_own m (record { operand = Named name.text; place = name.place }) j f refl tt in
      let v = a.1.value in
      let has = named_value m name.text v a.1.is in
      let part = at_value (λ (u : Meaning). is_part u.bits bits high low) (named (scope_of m) name.text) v a.1.is h in
      let p = and_parts (ltb (number_value high) v.bits && leb (number_value low) (number_value high)) (eqb (bits + number_value low) (number_value high + 1)) part in
      let q = and_parts (ltb (number_value high) v.bits) (leb (number_value low) (number_value high)) p.0 in
      let below : number_value high < v.bits = ltb-true (number_value high) v.bits q.0 in
      let order : number_value low ≤ number_value high = leb-true (number_value low) (number_value high) q.1 in
      let total : bits + number_value low ≡ number_value high + 1 = eqb-true (bits + number_value low) (number_value high + 1) p.1 in
      let most = value_small name.text v has in
      let h_is : small high ≡ number_value high = omega (arith, below, most) in
      let l_is : small low ≡ number_value low = omega (arith, below, order, most) in
      let x : Operand = Named name.text in
      let varies : ¬ IsConstant (at x) = (λ c. no_constant name.text v has (subst IsConstant (atom_is m x v a.1.is) c)) in
      let wide_is : HasBits w v.bits (at x) = fits_bits m x j v.bits w (record { value = v; is = a.1.is; bits = refl; range = refl; before = a.1.before; sized = tt }) wide in (
        (at x, ap (λ k. net.Part (at x) k (small low)) h_is ∙ ap (net.Part (at x) (number_value high)) l_is, fits_means m x j a.0 a.1),
        (varies, (v.bits, wide_is, omega (arith, h_is, below), omega (arith, h_is, l_is, order), omega (arith, h_is, l_is, total))),
      )

  word_right : (memory : PlacedName) (x : PlacedOperand) → ((e : Entry) → memory_of (scope_of m) memory ≡ Some e → HoldsMemory mems addresses e)
      → memory_faults (scope_of m) memory ≡ [] → source_faults (scope_of m) j x ≡ [] → Sized x.operand → word_fits (scope_of m) addresses bits memory.text x.operand ≡ true → Right m w mems bits (word_of memory x)
  word_right memory x holds fm fx sx h =
      let e = some_of (memory_of (scope_of m) memory) (unless_true (is_some (memory_of (scope_of m) memory)) 52 memory.place fm) in
      let k = holds e.0 e.1 in
      let is = found_memory m memory.text e.0 e.1 in
      let p = and_parts (eqb e.0.bits bits) (address_fits (scope_of m) addresses e.0 x.operand)
      (at_value (λ (u : Entry). eqb u.bits bits && address_fits (scope_of m) addresses u x.operand) (memory_of (scope_of m) memory) e.0 e.1 h) in
      let v = known_value m x (none_left _ _ fx) in
      let q = at_value (λ (u : Meaning). (is_same_depth e.0.depth u.bits && is_in_range x.operand) && addresses e.0.number u.atom) (meaning (scope_of m) x.operand) v.0 v.1 p.1 in
      let r = and_parts (is_same_depth e.0.depth v.0.bits && is_in_range x.operand) (addresses e.0.number v.0.atom) q in
      let s = and_parts (is_same_depth e.0.depth v.0.bits) (is_in_range x.operand) r.0 in
      let deep : k.memory.depth_log ≡ v.0.bits = eqb-true k.memory.depth_log v.0.bits (sym (ap (λ o. is_same_depth o v.0.bits) k.depth) ∙ s.0) in
      let a = source_own m x j fx s.1 sx in
      let same : a.1.value ≡ v.0 = same_Some a.1.value v.0 (sym a.1.is ∙ v.1) in
      let fits : Fits m x.operand j k.memory.depth_log = subst (Fits m x.operand j) (sym a.1.bits ∙ (ap (λ (u : Meaning). u.bits) same ∙ sym deep)) a.1 in
      let port = k.ports v.0.atom r.1 in
      let number : memory_number (scope_of m) memory ≡ e.0.number = ap (λ o. option_map_or (λ (u : Entry). min u.number (2 ^ 32 - 1)) o 0) e.1 ∙ k.number in
      let name : slice_get (names_here m).mems (memory_number (scope_of m) memory) ≡ Some memory.text =
      ap (slice_get (names_here m).mems) number ∙ (memory_name m e.0.number is.x is.found ∙ ap Some is.named) in (
        (memory_number (scope_of m) memory, at x.operand, refl, name, fits_means m x.operand j k.memory.depth_log fits),
        (
          k.memory,
          ap (slice_get mems) number ∙ k.found,
          record {
            bits = k.bits ∙ eqb-true e.0.bits bits p.0;
            wide = fits_bits m x.operand j k.memory.depth_log w fits wide;
            port = (port.0, port.1, port.2, port.3 ∙ sym (atom_is m x.operand v.0 v.1));
          },
        ),
      )

  pub net_right : (n : PlacedNet) → ((memory : PlacedName) (e : Entry) → memory_of (scope_of m) memory ≡ Some e → HoldsMemory mems addresses e) → SizedNet n → net_faults (scope_of m) j n ≡ []
      → net_fits (scope_of m) addresses bits n ≡ true → ExpressionMeans (names_here m) (net_plain n) (net_of (scope_of m) n) × NetFits w mems bits (net_of (scope_of m) n)
  net_right (alone x) holds sized f h =
      let k = source_fits m x j bits f h sized in ((at x.operand, refl, fits_means m x.operand j bits k), fits_bits m x.operand j bits w k wide)
  net_right (inverted x) holds sized f h =
      let k = source_fits m x j bits f h sized in ((at x.operand, refl, fits_means m x.operand j bits k), fits_bits m x.operand j bits w k wide)
  net_right (between op x y) holds sized f h =
      let p = pair_right op x y (none_left (source_faults (scope_of m) j x) _ f) (none_right (source_faults (scope_of m) j x) _ f) sized.0 sized.1 h in
      ((at x.operand, at y.operand, refl, p.0.0, p.0.1), p.1)
  net_right (chosen x y z) holds sized f h =
      let fx = none_left (source_faults (scope_of m) j x) _ f in
      let fyz = none_right (source_faults (scope_of m) j x) _ f in
      let fy = none_left (source_faults (scope_of m) j y) _ fyz in
      let fz = none_right (source_faults (scope_of m) j y) _ fyz in
      let p = and_parts (may_have (scope_of m) x.operand 1 && may_have (scope_of m) y.operand bits) (may_have (scope_of m) z.operand bits) h in
      let q = and_parts (may_have (scope_of m) x.operand 1) (may_have (scope_of m) y.operand bits) p.0 in
      let a = source_fits m x j 1 fx q.0 sized.0 in
      let b = source_fits m y j bits fy q.1 sized.1 in
      let c = source_fits m z j bits fz p.1 sized.2 in (
        (at x.operand, at y.operand, at z.operand, refl, fits_means m x.operand j 1 a, fits_means m y.operand j bits b, fits_means m z.operand j bits c),
        (fits_bits m x.operand j 1 w a wide, fits_bits m y.operand j bits w b wide, fits_bits m z.operand j bits w c wide),
      )
  net_right (joined x y) holds sized f h =
      join_right x y (none_left (source_faults (scope_of m) j x) _ f) (none_right (source_faults (scope_of m) j x) _ f) sized.0 sized.1 h
  net_right (slice name high low) holds sized f h = slice_right name high low f h
  net_right (word_of memory x) holds sized f h =
      word_right memory x (holds memory) (none_left (memory_faults (scope_of m) memory) _ f) (none_right (memory_faults (scope_of m) memory) _ f) sized h
