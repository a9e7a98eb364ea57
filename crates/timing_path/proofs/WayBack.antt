-- The way back from the wire whose value arrives last is the longest path, read from the back.
use Rattle.std.proofs.Common.{◌≡◌, ◌⊎◌, inl, inr, ◌<◌, ◌≤◌, ℕ, zero, suc, ◌+◌, ◌-◌, max, List, [], ◌∷◌, ◌++◌, length, get_or, None, Some, reverse, refl, sym, ap, ◌∙◌, subst, append_assoc, arith}
use Rattle.std.specs.Prelude.{slice_index}
use Rattle.std.specs.List.{sum_by}
use Rattle.std.proofs.lemmas.Bool.{cases_lt}
use Rattle.std.proofs.lemmas.List.{reverse-append, reverse-reverse}
use Rattle.std.proofs.lemmas.List.Sums.{sum_by-cons, sum_by-append}
use Rattle.rtl_core.specs.declared.design.Atom.{Atom}
use Rattle.rtl_core.specs.declared.design.Net.{Net}
use Rattle.rtl_core.specs.Netlist.{Netlist}
use Rattle.rtl_core.specs.Valid.{WiresFit}
use Rattle.timing_path.specs.Paths.{IsWire, Names, net_of, delay_of, IsPath, path_delay, BeginsWithDelay, IsAtMost, IsAtMostFromBack, IsLongest}
use Rattle.timing_path.specs.Arrivals.{atom_time, net_time, operands, AreTimes, Within, IsLatest, IsLeastAt, LeadsBack, IsWayBack}
use Rattle.timing_path.proofs.NamedWires.{names_inside}
use Rattle.timing_path.proofs.Arriving.{names_operands}

-- ---- when expressions arrive

atom_named : (times : List ℕ) (a : Atom) (j : ℕ) → IsWire a j → slice_index times j ≡ atom_time times a
atom_named times a j e = ap (atom_time times) (sym e)

-- no named wire arrives after the expression
named_arrive : (times : List ℕ) (e : Net) (j : ℕ) → Names e j → slice_index times j ≤ net_time times e
named_arrive times e j h =
    let o = operands e in
    elim (names_operands e j h) [
      | inl h ↦ let t = atom_named times o.0 j h in omega arith
      | inr h ↦ elim h [
        | inl h ↦ let t = atom_named times o.1 j h in omega arith
        | inr h ↦ let t = atom_named times o.2 j h in omega arith
      ]
    ]

-- ---- paths from the back

-- a path that is read from its last wire, which is among C
abbrev pub IsBack : Netlist → (ℕ → Type 0) → List ℕ → Type 0
IsBack d C [] = Unit {0}
IsBack d C (k ∷ ks) = C k × IsBack d (Names (net_of d k)) ks

-- the times of all wires of a circuit that fits
pub record AreAll (d : Netlist) (times : List ℕ) : Type 0 where
  pub fit : WiresFit d [] d.wires
  pub count : length times ≡ length d.wires
  pub arrive : AreTimes d times

-- the wires of C are there, and arrive no later than this
pub record AreBy (C : ℕ → Type 0) (times : List ℕ) (time : ℕ) : Type 0 where
  pub inside : (j : ℕ) → C j → j < length times
  pub by : (j : ℕ) → C j → slice_index times j ≤ time

named_by : (d : Netlist) (times : List ℕ) → AreAll d times → (k : ℕ) → AreBy (Names (net_of d k)) times (net_time times (net_of d k))
named_by d times all k = record {
  inside = λ j h. let n = names_inside d all.fit k j h in omega (arith, n.0, n.1, all.count);
  by = λ j h. named_arrive times (net_of d k) j h;
}

-- no path exceeds the arrival at its end
back_within : (d : Netlist) (times : List ℕ) → AreAll d times → (C : ℕ → Type 0) (time : ℕ) → AreBy C times time → (ks : List ℕ) → IsBack d C ks → path_delay d ks ≤ time
back_within d times all C time by [] back = omega arith
back_within d times all C time by (k ∷ ks) back =
    let here = by.by k back.0 in
    let arrives = all.arrive k (by.inside k back.0) in
    let rest = back_within d times all (Names (net_of d k)) (net_time times (net_of d k)) (named_by d times all k) ks back.1 in
    let sum = sum_by-cons (delay_of d) k ks in
    omega arith

-- what is left behind a wire of the way back is the arrival of what it names
left_behind : (d : Netlist) (times : List ℕ) → AreAll d times → (k left : ℕ) → k < length times → slice_index times k ≡ left → net_time times (net_of d k) ≡ left - delay_of d k
left_behind d times all k left l e = let arrives = all.arrive k l in omega arith

rest_by : (d : Netlist) (times : List ℕ) → AreAll d times → (k left : ℕ) → k < length times → slice_index times k ≡ left → AreBy (Names (net_of d k)) times (left - delay_of d k)
rest_by d times all k left l e = let P : ℕ → Type 0 = AreBy (Names (net_of d k)) times in subst P (left_behind d times all k left l e) (named_by d times all k)

-- the way back is a path
way_is_back : (d : Netlist) (times : List ℕ) (C : ℕ → Type 0) (left : ℕ) (ks : List ℕ) → IsWayBack d times C left ks → IsBack d C ks
way_is_back d times C left [] way = tt
way_is_back d times C left (k ∷ ks) way = (way.0.1.0, way_is_back d times (Names (net_of d k)) (left - delay_of d k) ks way.1)

-- it has all the delay that is left
way_delay : (d : Netlist) (times : List ℕ) → AreAll d times → (C : ℕ → Type 0) (left : ℕ) → AreBy C times left → (ks : List ℕ) → IsWayBack d times C left ks → path_delay d ks ≡ left
way_delay d times all C left by [] way = sym way
way_delay d times all C left by (k ∷ ks) way =
    let inside = by.inside k way.0.1.0 in
    let arrives = all.arrive k inside in
    let here : slice_index times k ≡ left = way.0.1.1 in
    let rest = way_delay d times all (Names (net_of d k)) (left - delay_of d k) (rest_by d times all k left inside here) ks way.1 in
    let sum = sum_by-cons (delay_of d) k ks in
    omega arith

-- its last wire, which is the first of the path, has a delay
abbrev pub EndsWithDelay : Netlist → List ℕ → Type 0
EndsWithDelay d [] = Unit {0}
EndsWithDelay d (k ∷ []) = 0 < delay_of d k
EndsWithDelay d (k ∷ (j ∷ ks)) = EndsWithDelay d (j ∷ ks)

way_ends : (d : Netlist) (times : List ℕ) (C : ℕ → Type 0) (left : ℕ) (ks : List ℕ) → IsWayBack d times C left ks → EndsWithDelay d ks
way_ends d times C left [] way = tt
way_ends d times C left (k ∷ []) way = let some = way.0.0 in let none : left - delay_of d k ≡ 0 = way.1 in omega arith
way_ends d times C left (k ∷ (j ∷ ks)) way = way_ends d times (Names (net_of d k)) (left - delay_of d k) (j ∷ ks) way.1

-- it is the least of all paths with that delay
way_least : (d : Netlist) (times : List ℕ) → AreAll d times → (C : ℕ → Type 0) (left : ℕ) → AreBy C times left → (ks js : List ℕ) → IsWayBack d times C left ks → IsBack d C js
    → path_delay d js ≡ left → IsAtMost ks js
way_least d times all C left by [] js way back e = tt
way_least d times all C left by (k ∷ ks) [] way back e = let some = way.0.0 in absurd (omega arith)
way_least d times all C left by (k ∷ ks) (j ∷ js) way back e =
    let inside = by.inside j back.0 in
    let sum = sum_by-cons (delay_of d) j js in
    let arrives = all.arrive j inside in
    let behind = back_within d times all (Names (net_of d j)) (net_time times (net_of d j)) (named_by d times all j) js back.1 in
    let latest = by.by j back.0 in
    let there : slice_index times j ≡ left = omega arith in
    let low : k ≤ j = way.0.1.2 j back.0 there in
    elim (cases_lt k j) [
      | inl l ↦ inl l
      | inr l ↦
          let same : k ≡ j = omega arith in
          let P : ℕ → Type 0 = λ i. IsBack d (Names (net_of d i)) js in
          let Q : ℕ → Type 0 = λ i. path_delay d js ≡ left - delay_of d i in
          let rest : path_delay d js ≡ left - delay_of d j = omega arith in
          inr (
            same,
            way_least d times all (Names (net_of d k)) (left - delay_of d k) (rest_by d times all k left (by.inside k way.0.1.0) way.0.1.1) ks js way.1
                (subst P (sym same) back.1) (subst Q (sym same) rest),
          )
    ]

-- ---- the other way round

snoc_back : (d : Netlist) (C : ℕ → Type 0) (ks : List ℕ) (k j : ℕ) → IsBack d C (ks ++ (k ∷ [])) → Names (net_of d k) j → IsBack d C (ks ++ (k ∷ (j ∷ [])))
snoc_back d C [] k j back h = (back.0, (h, tt))
snoc_back d C (i ∷ ks) k j back h = (back.0, snoc_back d (Names (net_of d i)) ks k j back.1 h)

back_snoc : (d : Netlist) (C : ℕ → Type 0) (ks : List ℕ) (k j : ℕ) → IsBack d C (ks ++ (k ∷ (j ∷ []))) → IsBack d C (ks ++ (k ∷ [])) × Names (net_of d k) j
back_snoc d C [] k j back = ((back.0, tt), back.1.0)
back_snoc d C (i ∷ ks) k j back = let r = back_snoc d (Names (net_of d i)) ks k j back.1 in ((back.0, r.0), r.1)

-- the list from the back, one element more
reverse_cons : (x : ℕ) (xs : List ℕ) → reverse (x ∷ xs) ≡ reverse xs ++ (x ∷ [])
reverse_cons x xs = reverse-append (x ∷ []) xs

reverse_two : (x y : ℕ) (xs : List ℕ) → reverse (x ∷ (y ∷ xs)) ≡ reverse xs ++ (y ∷ (x ∷ []))
reverse_two x y xs = reverse_cons x (y ∷ xs) ∙ (ap (λ l. l ++ (x ∷ [])) (reverse_cons y xs) ∙ append_assoc (reverse xs) (y ∷ []) (x ∷ []))

pub path_back : (d : Netlist) (times : List ℕ) → length times ≡ length d.wires → (ks : List ℕ) → IsPath d ks → IsBack d (Within times) (reverse ks)
path_back d times count [] path = tt
path_back d times count (k ∷ []) path = (omega arith, tt)
path_back d times count (j ∷ (k ∷ ks)) path =
    let P : List ℕ → Type 0 = IsBack d (Within times) in
    let rest = subst P (reverse_cons k ks) (path_back d times count (k ∷ ks) path.1) in
    subst P (sym (reverse_two j k ks)) (snoc_back d (Within times) (reverse ks) k j rest path.0)

pub back_path : (d : Netlist) (times : List ℕ) → length times ≡ length d.wires → (ks : List ℕ) → IsBack d (Within times) (reverse ks) → IsPath d ks
back_path d times count [] back = tt
back_path d times count (k ∷ []) back = let h : k < length times = back.0 in omega arith
back_path d times count (j ∷ (k ∷ ks)) back =
    let P : List ℕ → Type 0 = IsBack d (Within times) in
    let r = back_snoc d (Within times) (reverse ks) k j (subst P (reverse_two j k ks) back) in
    (r.1, back_path d times count (k ∷ ks) (subst P (sym (reverse_cons k ks)) r.0))

delay_reversed : (d : Netlist) (ks : List ℕ) → path_delay d (reverse ks) ≡ path_delay d ks
delay_reversed d [] = refl
delay_reversed d (k ∷ ks) =
    let e = ap (path_delay d) (reverse_cons k ks) ∙ sum_by-append (delay_of d) (reverse ks) (k ∷ []) in
    let one = sum_by-cons (delay_of d) k [] in
    let cons = sum_by-cons (delay_of d) k ks in
    let rest = delay_reversed d ks in
    omega arith

ends_snoc : (d : Netlist) (ks : List ℕ) (k : ℕ) → EndsWithDelay d (ks ++ (k ∷ [])) → 0 < delay_of d k
ends_snoc d [] k h = h
ends_snoc d (i ∷ []) k h = h
ends_snoc d (i ∷ (j ∷ ks)) k h = ends_snoc d (j ∷ ks) k h

begins_reversed : (d : Netlist) (ks : List ℕ) → EndsWithDelay d (reverse ks) → BeginsWithDelay d ks
begins_reversed d [] h = tt
begins_reversed d (k ∷ ks) h = let P : List ℕ → Type 0 = EndsWithDelay d in ends_snoc d (reverse ks) k (subst P (reverse_cons k ks) h)

-- ---- the longest path

pub way_is_longest : (d : Netlist) (times : List ℕ) (total : ℕ) (ks : List ℕ) → AreAll d times → IsLatest times total → IsWayBack d times (Within times) total (reverse ks)
    → IsLongest d total ks
way_is_longest d times total ks all latest way =
    let by : AreBy (Within times) times total = record { inside = λ j h. h; by = λ j h. latest.above j } in
    record {
      path = back_path d times all.count ks (way_is_back d times (Within times) total (reverse ks) way);
      delay = sym (delay_reversed d ks) ∙ way_delay d times all (Within times) total by (reverse ks) way;
      greatest = λ js path.
          let le = back_within d times all (Within times) total by (reverse js) (path_back d times all.count js path) in
          let e = delay_reversed d js in
          omega arith;
      begins = begins_reversed d ks (way_ends d times (Within times) total (reverse ks) way);
      least = λ js path e begins.
          way_least d times all (Within times) total by (reverse ks) (reverse js) way (path_back d times all.count js path) (delay_reversed d js ∙ e);
    }
