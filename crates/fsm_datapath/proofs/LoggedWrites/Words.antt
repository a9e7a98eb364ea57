-- Words that are read at ports that a circuit does not have.
use Rattle.std.proofs.Common.{◌≡◌, ℕ, zero, suc, ◌+◌, ◌^◌, ◌<◌, ◌≤◌, List, [], ◌∷◌, map, flat_map, length, count_by, get_or, Option, Some, None, is_none, inl, inr, refl, sym, ap, ◌∙◌, subst, pow_pos, take_all, le_of_eq, le_refl, arith}
use Rattle.std.specs.Prelude.{slice_get, slice_index, is_some}
use Rattle.std.specs.List.{list_any, enumerate_from, range_with_len}
use Rattle.std.proofs.lemmas.Bool.{cases_lt, cond-true, cond-false, ne_eqb}
use Rattle.std.proofs.lemmas.List.Elements.{All-get_or}
use Rattle.std.proofs.Math.ListN.{get_or-eq_default}
use Rattle.std.proofs.lemmas.Option.{slice_get_within, slice_get-get_or}
use Rattle.hls_base.specs.ArrayAddress.{addresses}
use Rattle.ir_core.specs.AddressWords.{AreRising}
use Rattle.ir_core.proofs.Rising.{addresses-rise}
use Rattle.rtl_core.specs.Netlist.{Netlist, Memory}
use Rattle.rtl_core.specs.ClockStep.{State, AreMemories, no_memory, one_memory, word_at}
use Rattle.rtl_core.proofs.Fits.{words_of}
use Rattle.ir_core.specs.FirstContents.{given_at, elements_or_none}
use Rattle.datapath.specs.Plans.{Plan, Array, no_array, array_at, depth}
use Rattle.datapath.specs.Cycles.{Contents, Signal, AddressOf, in_cycle}
use Rattle.datapath.specs.Netlists.{memory_of}
use Rattle.datapath.specs.Ports.{port_count, loads, is_refused, word_of, read_word}
use Rattle.datapath.specs.CircuitWires.Carrying.{IsMoment}
use Rattle.circuit_context.specs.Wanted.Driving.{Seen, IsUnseen, HaveElse, unseen_address}
use Rattle.circuit_units.specs.declared.units.units.UnitTable.{UnitTable}
use Rattle.circuit_units.specs.Units.{registers_of, unit_signals}
use Rattle.circuit_units.specs.declared.memories.memories.PortWires.{PortWires}
use Rattle.circuit_units.specs.declared.memories.memories.PortTable.{PortTable}
use Rattle.circuit_units.specs.Memories.{port_signals, array_signals}
use Rattle.fsm_datapath.specs.LoggedWrites.Roles.{names_with}
use Rattle.fsm_datapath.specs.LoggedWrites.Parts.{HasAllParts, all_signals}
use Rattle.fsm_datapath.proofs.LoggedWrites.Members.{same_some, Each, each_none, each_more, each_both, each_flat, each_numbered}
use Rattle.fsm_datapath.proofs.LoggedWrites.Taking.{below_if}
use Rattle.fsm_datapath.proofs.LoggedWrites.Units.{Lacks, unseen}

-- ---- lists

at_map : {A B : Type 0} (f : A → B) (xs : List A) (k : ℕ) (x : A) → slice_get xs k ≡ Some x → slice_get (map f xs) k ≡ Some (f x)
at_map f [] k x e = absurd (cc)
at_map f (y ∷ xs) zero x e = ap (λ z. Some (f z)) (same_some e)
at_map f (y ∷ xs) (suc k) x e = at_map f xs k x e

map_twice : {A B C : Type 0} (f : B → C) (g : A → B) (xs : List A) → map f (map g xs) ≡ map (λ x. f (g x)) xs
map_twice f g [] = refl
map_twice f g (x ∷ xs) = ap (λ l. f (g x) ∷ l) (map_twice f g xs)

in_row : {B : Type 0} (f : ℕ → B) (a n k : ℕ) (y : B) → slice_get (map f (range_with_len a n)) k ≡ Some y → (k < n) × (y ≡ f (a + k))
in_row f a zero k y e = absurd (cc)
in_row f a (suc n) zero y e = (omega arith, (let here : a ≡ a + 0 = omega arith in sym (same_some e) ∙ ap f here))
in_row f a (suc n) (suc k) y e = (let rest = in_row f (a + 1) n k y e in (omega (arith, rest.0), (let next : a + 1 + k ≡ a + suc k = omega arith in rest.1 ∙ ap f next)))

-- ---- addresses

-- behind the last address nothing is given
given_behind : (places words : List ℕ) (low high address : ℕ) → AreRising low places high → high ≤ address → given_at places words address 0 ≡ 0
given_behind [] [] low high address h le = refl
given_behind [] (w ∷ words) low high address h le = refl
given_behind (x ∷ places) [] low high address h le = refl
given_behind (x ∷ places) (w ∷ words) low high address h le =
    let below : x < high = rising_below (suc x) places high h.1 in
    cond-false _ _ _ (ne_eqb x address (λ s. absurd (omega (arith, s, below, le)))) ∙ given_behind places words (suc x) high address h.1 le
  where
    rising_below : (low : ℕ) (xs : List ℕ) (high : ℕ) → AreRising low xs high → low ≤ high
    rising_below low [] high h = h
    rising_below low (x ∷ xs) high h = (let rest = rising_below (suc x) xs high h.1 in omega (arith, rest, h.0))

-- ---- signals

units_lack : (units : UnitTable) (a n : ℕ) → Each (λ (x : Seen). x.0 ≡ AddressOf a n → ⊥) (flat_map unit_signals units.wires.items)
units_lack units a n = each_flat unit_signals units.wires.items (record { all = λ w has. each_more (λ e. cc) (each_more (λ e. cc) (each_more (λ e. cc) each_none)) })

-- the port is not there
pub address_unseen : (p : Plan) (units : UnitTable) (ports : PortTable) (a n : ℕ) → map (λ ports. length ports.items) ports.ports.items ≡ map (port_count p) (range_with_len 0 (length p.arrays))
    → (a < length p.arrays → n < port_count p a → ⊥) → IsUnseen (all_signals units ports) (AddressOf a n)
address_unseen p units ports a n counts not_there =
    unseen (all_signals units ports) (AddressOf a n)
    (each_both (units_lack units a n)
    (each_flat array_signals (enumerate_from 0 lists) (record { all = λ b has. at_array b ((each_numbered 0 lists).all b has) })))
  where
    lists : List (List PortWires)
    lists = map (λ ports. ports.items) ports.ports.items

    at_array : (b : ℕ × List PortWires) → (j : ℕ) × ((b.0 ≡ 0 + j) × (slice_get lists j ≡ Some b.1)) → Lacks (array_signals b) (AddressOf a n)
    at_array b place =
        let counted : slice_get (map (port_count p) (range_with_len 0 (length p.arrays))) place.0 ≡ Some (length b.1) =
        ap (λ l. slice_get l place.0) (sym (map_twice length (λ ports. ports.items) ports.ports.items ∙ counts)) ∙ at_map length lists place.0 b.1 place.1.1 in
        let row = in_row (port_count p) 0 (length p.arrays) place.0 (length b.1) counted in
        let same : 0 + place.0 ≡ b.0 = omega (arith, place.1.0) in
        let known : length b.1 ≡ port_count p b.0 = row.1 ∙ ap (port_count p) same in
        each_flat (port_signals b.0) (enumerate_from 0 b.1) (record {
          all = λ m has.
              let port = (each_numbered 0 b.1).all m has in
              let inside : m.0 < length b.1 = omega (arith, port.1.0, slice_get_within b.1 port.0 m.1 port.1.1) in
              each_more (at_port b.0 m.0 (omega (arith, row.0, place.1.0)) (subst (λ (k : ℕ). m.0 < k) known inside)) (each_more (λ e. cc) each_none);
        })
      where
        at_port : (b m : ℕ) → b < length p.arrays → m < port_count p b → AddressOf b m ≡ AddressOf a n → ⊥
        at_port b m within inside e =
            let first : b ≡ a = cc in
            let second : m ≡ n = cc in
            not_there (subst (λ (k : ℕ). k < length p.arrays) first within) (subst (λ (k : ℕ). k < port_count p a) second (subst (λ (k : ℕ). m < port_count p k) first inside))

-- ---- what is read

memories_length : (ms : List Memory) (mems : List (List ℕ)) → AreMemories ms mems → length ms ≡ length mems
memories_length _ _ no_memory = refl
memories_length _ _ (one_memory m words ms mems here are) = ap suc (memories_length ms mems are)

module _ (p : Plan) (gates stages : ℕ) (units : UnitTable) (ports : PortTable) (d : Netlist) (s : State) (pins : List ℕ) (x : Contents) (signals : Signal → ℕ)
    (parts : HasAllParts p gates stages units ports d) (moment : IsMoment p (names_with p gates stages (registers_of p units)) d d s pins x) (else_ : HaveElse p (all_signals units ports) signals) where
  -- all memories stand before those of an array that there is not
  behind_memories : (a : ℕ) → length p.arrays ≤ a → memory_of p a ≡ length s.mems
  behind_memories a le =
      ap (count_by (λ (b : Array). is_none b.table)) (take_all a p.arrays le ∙ sym (take_all (length p.arrays) p.arrays (le_refl (length p.arrays))))
      ∙ (sym parts.only ∙ memories_length d.mems s.mems moment.state.mems)

  first_fits : (a : ℕ) → (array_at p a).table ≡ None → word_at s.mems (memory_of p a) 0 < 2 ^ (array_at p a).bits
  first_fits a plain =
      elim (cases_lt a (length p.arrays)) [
        | inl lt ↦
            let m = parts.memories a (array_at p a) (slice_get-get_or p.arrays a no_array lt) plain in
            let words = words_of d.mems s.mems moment.state.mems (memory_of p a) m.0 m.1.0 in
            let some : 0 < 2 ^ m.0.depth_log = pow_pos m.0.depth_log in
            subst (λ (b : ℕ). word_at s.mems (memory_of p a) 0 < 2 ^ b) m.1.1
            (All-get_or (λ w. w < 2 ^ m.0.bits) (get_or s.mems (memory_of p a) []) 0 0 (omega (arith, words.count, some)) words.fit)
        | inr le ↦
            let out : get_or s.mems (memory_of p a) [] ≡ [] = get_or-eq_default s.mems [] (le_of_eq (sym (behind_memories a le))) in
            subst (λ (words : List ℕ). slice_index words 0 < 2 ^ (array_at p a).bits) (sym out) (pow_pos (array_at p a).bits)
      ]

  -- the array of a table stands among the arrays
  table_there : (a : ℕ) (table : List ℕ) → (array_at p a).table ≡ Some table → a < length p.arrays
  table_there a table is =
      elim (cases_lt a (length p.arrays)) [
        | inl lt ↦ lt
        | inr le ↦ (let none : (array_at p a).table ≡ None = ap (λ (b : Array). b.table) (get_or-eq_default p.arrays no_array le) in let clash : None ≡ Some table = sym none ∙ is in absurd (cc))
      ]

  word_fits : (a n : ℕ) → IsUnseen (all_signals units ports) (AddressOf a n) → (table : Option (List ℕ)) → (array_at p a).table ≡ table
      → word_of (in_cycle x signals pins) a (array_at p a) (signals (AddressOf a n)) < 2 ^ (array_at p a).bits
  word_fits a n hidden None is =
      let zero_ : signals (AddressOf a n) ≡ 0 = else_ (AddressOf a n) hidden ∙ ap (unseen_address p a) is in
      let reads : word_of (in_cycle x signals pins) a (array_at p a) (signals (AddressOf a n)) ≡ word_at s.mems (memory_of p a) 0 =
      cond-false _ _ _ (ap is_some is) ∙ (ap (x.memories a) zero_ ∙ sym (moment.holds.memories a 0 is (pow_pos (depth p a)))) in
      subst (λ (w : ℕ). w < 2 ^ (array_at p a).bits) (sym reads) (first_fits a is)
  word_fits a n hidden (Some table) is =
      let behind : signals (AddressOf a n) ≡ 2 ^ depth p a = else_ (AddressOf a n) hidden ∙ ap (unseen_address p a) is in
      let short = parts.short a (array_at p a) table (slice_get-get_or p.arrays a no_array (table_there a table is)) is in
      let reads : word_of (in_cycle x signals pins) a (array_at p a) (signals (AddressOf a n)) ≡ 0 =
      cond-true _ _ _ (ap is_some is)
      ∙ (ap (λ (address : ℕ). given_at (addresses (array_at p a).dims) (elements_or_none (array_at p a).table) address 0) behind
      ∙ given_behind (addresses (array_at p a).dims) (elements_or_none (array_at p a).table) 0 (2 ^ depth p a) (2 ^ depth p a) (addresses-rise (array_at p a).dims short) (le_refl (2 ^ depth p a))) in
      subst (λ (w : ℕ). w < 2 ^ (array_at p a).bits) (sym reads) (pow_pos (array_at p a).bits)

  -- a port that there is not reads what fits
  pub read_fits : (a n : ℕ) → (a < length p.arrays → n < port_count p a → ⊥) → read_word p (in_cycle x signals pins) a n < 2 ^ (array_at p a).bits
  read_fits a n not_there =
      below_if (list_any (is_refused p (in_cycle x signals pins)) (loads p a n)) 0 _ (2 ^ (array_at p a).bits) (pow_pos (array_at p a).bits)
      (word_fits a n (address_unseen p units ports a n parts.counts not_there) (array_at p a).table refl)
