-- The times at which wires arrive, one after another, and the least wire that arrives at a time.
use Rattle.std.proofs.Common.{◌≡◌, ◌⊎◌, inl, inr, ◌<◌, ◌≤◌, ℕ, zero, suc, ◌+◌, ◌-◌, ◌*◌, max, min, List, [], ◌∷◌, ◌++◌, length, take, get_or, Option, None, Some, refl, sym, ap, ◌∙◌, subst, arith}
use Rattle.std.specs.Prelude.{slice_index}
use Rattle.std.proofs.lemmas.Bool.{cases_lt}
use Rattle.std.proofs.lemmas.List.{get_or_append_left, get_or_push, get_or_past, length_push, take_more, length-take-le}
use Rattle.rtl_core.specs.declared.design.Atom.{Atom}
use Rattle.rtl_core.specs.declared.design.Atom.TheVariants as atom
use Rattle.rtl_core.specs.declared.design.Net.{Net}
use Rattle.rtl_core.specs.declared.design.Net.TheVariants as net
use Rattle.rtl_core.specs.Netlist.{Netlist}
use Rattle.rtl_core.specs.Valid.{WiresFit}
use Rattle.timing_path.specs.Paths.{IsWire, Names, net_of, delay_of}
use Rattle.timing_path.specs.Arrivals.{atom_time, operands, net_time, AreTimes, Within, IsLatest, lesser, IsLeastAt}
use Rattle.timing_path.proofs.NamedWires.{names_inside}

-- ---- operands

abbrev pub AreWires : Atom × Atom × Atom → ℕ → Type 0
AreWires o j = IsWire o.0 j ⊎ (IsWire o.1 j ⊎ IsWire o.2 j)

pub names_operands : (e : Net) (j : ℕ) → Names e j → AreWires (operands e) j
names_operands (net.Copy a) j h = inl h
names_operands (net.Not a) j h = inl h
names_operands (net.Two op a b) j (inl h) = inl h
names_operands (net.Two op a b) j (inr h) = inr (inl h)
names_operands (net.Pick test a b) j h = h
names_operands (net.Join high low) j (inl h) = inl h
names_operands (net.Join high low) j (inr h) = inr (inl h)
names_operands (net.Part a high low) j h = inl h
names_operands (net.Word mem address) j h = inl h

any_of_one : {A : Type 0} → A ⊎ (A ⊎ A) → A
any_of_one (inl a) = a
any_of_one (inr (inl a)) = a
any_of_one (inr (inr a)) = a

any_of_two : {A B : Type 0} → A ⊎ (B ⊎ B) → A ⊎ B
any_of_two (inl a) = inl a
any_of_two (inr (inl b)) = inr b
any_of_two (inr (inr b)) = inr b

operands_named : (e : Net) (j : ℕ) → AreWires (operands e) j → Names e j
operands_named (net.Copy a) j h = any_of_one h
operands_named (net.Not a) j h = any_of_one h
operands_named (net.Two op a b) j h = any_of_two h
operands_named (net.Pick test a b) j h = h
operands_named (net.Join high low) j h = any_of_two h
operands_named (net.Part a high low) j h = any_of_one h
operands_named (net.Word mem address) j h = any_of_one h

-- the operands that were found are named
pub found_named : (e : Net) (o : Atom × Atom × Atom) → o ≡ operands e → (j : ℕ) → AreWires o j → Names e j
found_named e o is j h = let P : Atom × Atom × Atom → Type 0 = λ o. AreWires o j in operands_named e j (subst P is h)

-- ---- times that go on

atom_kept : (times more : List ℕ) (a : Atom) → ((j : ℕ) → IsWire a j → j < length times) → atom_time (times ++ more) a ≡ atom_time times a
atom_kept times more (atom.Constant bits value) h = refl
atom_kept times more (atom.Input k) h = refl
atom_kept times more (atom.Reg k) h = refl
atom_kept times more (atom.Wire k) h = get_or_append_left times more 0 k (h k refl)

net_kept : (times more : List ℕ) (e : Net) → ((j : ℕ) → Names e j → j < length times) → net_time (times ++ more) e ≡ net_time times e
net_kept times more e h =
    let o = operands e in
    let a = atom_kept times more o.0 (λ j w. h j (operands_named e j (inl w))) in
    let b = atom_kept times more o.1 (λ j w. h j (operands_named e j (inr (inl w)))) in
    let c = atom_kept times more o.2 (λ j w. h j (operands_named e j (inr (inr w)))) in
    cc

atom_low : (times : List ℕ) (m : ℕ) (a : Atom) → ((k : ℕ) → slice_index times k ≤ m) → atom_time times a ≤ m
atom_low times m (atom.Constant bits value) h = omega arith
atom_low times m (atom.Input k) h = omega arith
atom_low times m (atom.Reg k) h = omega arith
atom_low times m (atom.Wire k) h = h k

pub net_low : (times : List ℕ) (m : ℕ) (e : Net) → ((k : ℕ) → slice_index times k ≤ m) → net_time times e ≤ m
net_low times m e h =
    let o = operands e in
    let a = atom_low times m o.0 h in
    let b = atom_low times m o.1 h in
    let c = atom_low times m o.2 h in
    omega arith

-- so many first wires have their times
pub record AreFirst (d : Netlist) (times : List ℕ) (n : ℕ) : Type 0 where
  pub count : length times ≡ n
  pub arrive : AreTimes d times
  pub low : (k : ℕ) → slice_index times k ≤ 510 * n

pub none_first : (d : Netlist) → AreFirst d [] 0
none_first d = record { count = refl; arrive = λ k h. absurd (omega arith); low = λ k. omega arith }

-- the names of a wire before the end are inside
pub names_before : (d : Netlist) → WiresFit d [] d.wires → (k n : ℕ) → k ≤ n → (j : ℕ) → Names (net_of d k) j → j < n
names_before d fit k n l j h = let inside = names_inside d fit k j h in omega (arith, inside.1)

one_more : (d : Netlist) (times : List ℕ) (n time : ℕ) → WiresFit d [] d.wires → AreFirst d times n → time ≡ net_time times (net_of d n) + delay_of d n → AreTimes d (times ++ (time ∷ []))
one_more d times n time fit f e k h =
    let count = f.count in
    let long = length_push times time in
    elim (cases_lt k n) [
      | inl l ↦
          let inside : k < length times = omega arith in
          let named : (j : ℕ) → Names (net_of d k) j → j < length times = λ j w. names_before d fit k (length times) (omega arith) j w in
          get_or_append_left times (time ∷ []) 0 k inside ∙ (f.arrive k inside ∙ ap (λ t. delay_of d k + t) (sym (net_kept times (time ∷ []) (net_of d k) named)))
      | inr l ↦
          let last : k ≡ n = omega arith in
          let named : (j : ℕ) → Names (net_of d k) j → j < length times = λ j w. names_before d fit k (length times) (omega arith) j w in
          let there = get_or_push times time 0 k (f.count ∙ sym last) in
          let kept = net_kept times (time ∷ []) (net_of d k) named in
          let P : ℕ → Type 0 = λ n. time ≡ net_time times (net_of d n) + delay_of d n in
          let here = subst P (sym last) e in
          omega (arith, there, kept, here)
    ]

pub first_more : (d : Netlist) (times : List ℕ) (n time : ℕ) → WiresFit d [] d.wires → AreFirst d times n → time ≡ net_time times (net_of d n) + delay_of d n → delay_of d n ≤ 510
    → AreFirst d (times ++ (time ∷ [])) (n + 1)
first_more d times n time fit f e few = record {
  count = let count = f.count in let long = length_push times time in omega arith;
  arrive = one_more d times n time fit f e;
  low = λ k.
      let count = f.count in
      let long = length_push times time in
      elim (cases_lt k n) [
        | inl l ↦ let same = get_or_append_left times (time ∷ []) 0 k (omega arith) in let low = f.low k in omega arith
        | inr l ↦ elim (cases_lt n k) [
          | inl m ↦ let past = get_or_past (times ++ (time ∷ [])) k 0 (omega arith) in omega arith
          | inr m ↦
              let there = get_or_push times time 0 k (omega arith) in
              let low = net_low times (510 * n) (net_of d n) f.low in
              omega arith
        ]
      ];
}

-- ---- the last of the times

pub none_latest : (times : List ℕ) → IsLatest (take 0 times) 0
none_latest times = record { above = λ j. omega arith; some = inl refl }

pub latest_kept : (times : List ℕ) (i last time : ℕ) → i < length times → time ≡ get_or times i 0 → time ≤ last → IsLatest (take i times) last → IsLatest (take (i + 1) times) last
latest_kept times i last time l e le h =
    let P : List ℕ → Type 0 = λ ts. IsLatest ts last in
    let front = take i times in
    let long = length-take-le i times (omega arith) in
    subst P (sym (take_more times i 0 l))
    (record {
      above = λ j. elim (cases_lt j i) [
        | inl m ↦ let same = get_or_append_left front (get_or times i 0 ∷ []) 0 j (omega arith) in let a = h.above j in omega arith
        | inr m ↦ elim (cases_lt i j) [
          | inl n ↦
              let past = get_or_past (front ++ (get_or times i 0 ∷ [])) j 0 (let p = length_push front (get_or times i 0) in omega arith) in
              omega arith
          | inr n ↦ let there = get_or_push front (get_or times i 0) 0 j (omega arith) in omega arith
        ]
      ];
      some = elim h.some [
        | inl z ↦ inl z
        | inr s ↦ inr (s.0, let p = length_push front (get_or times i 0) in let q = s.1 in omega arith, get_or_append_left front (get_or times i 0 ∷ []) 0 s.0 s.1 ∙ s.2)
      ];
    })

pub latest_risen : (times : List ℕ) (i last time : ℕ) → i < length times → time ≡ get_or times i 0 → last < time → IsLatest (take i times) last → IsLatest (take (i + 1) times) time
latest_risen times i last time l e lt h =
    let P : List ℕ → Type 0 = λ ts. IsLatest ts time in
    let front = take i times in
    let long = length-take-le i times (omega arith) in
    subst P (sym (take_more times i 0 l))
    (record {
      above = λ j. elim (cases_lt j i) [
        | inl m ↦ let same = get_or_append_left front (get_or times i 0 ∷ []) 0 j (omega arith) in let a = h.above j in omega arith
        | inr m ↦ elim (cases_lt i j) [
          | inl n ↦
              let past = get_or_past (front ++ (get_or times i 0 ∷ [])) j 0 (let p = length_push front (get_or times i 0) in omega arith) in
              omega arith
          | inr n ↦ let there = get_or_push front (get_or times i 0) 0 j (omega arith) in omega arith
        ]
      ];
      some = inr (i, let p = length_push front (get_or times i 0) in omega arith, get_or_push front (get_or times i 0) 0 i long ∙ sym e);
    })

-- ---- the least wire at a time

pub least_lesser : (C D : ℕ → Type 0) (times : List ℕ) (time : ℕ) (r s t : Option ℕ) → IsLeastAt C times time r → IsLeastAt D times time s → t ≡ lesser r s
    → IsLeastAt (λ j. C j ⊎ D j) times time t
least_lesser C D times time r s t h k e =
    let P : Option ℕ → Type 0 = IsLeastAt (λ j. C j ⊎ D j) times time in
    subst P (sym e) (both_least C D times time r s h k)
  where
    both_least : (C D : ℕ → Type 0) (times : List ℕ) (time : ℕ) (r s : Option ℕ) → IsLeastAt C times time r → IsLeastAt D times time s → IsLeastAt (λ j. C j ⊎ D j) times time (lesser r s)
    both_least C D times time None None h k = λ j c e. elim c [ inl c ↦ h j c e | inr d ↦ k j d e ]
    both_least C D times time None (Some y) h k = (inr k.0, k.1, λ j c e. elim c [ inl c ↦ absurd (h j c e) | inr d ↦ k.2 j d e ])
    both_least C D times time (Some x) None h k = (inl h.0, h.1, λ j c e. elim c [ inl c ↦ h.2 j c e | inr d ↦ absurd (k j d e) ])
    both_least C D times time (Some x) (Some y) h k =
        let least : (j : ℕ) → C j ⊎ D j → slice_index times j ≡ time → min x y ≤ j = λ j c e. elim c [ inl c ↦ let l = h.2 j c e in omega arith | inr d ↦ let l = k.2 j d e in omega arith ] in
        elim (cases_lt x y) [
          | inl l ↦ let m : min x y ≡ x = omega arith in let P : ℕ → Type 0 = λ z. (C z ⊎ D z) × (slice_index times z ≡ time) × ((j : ℕ) → C j ⊎ D j → slice_index times j ≡ time → z ≤ j) in
              subst P (sym m) (inl h.0, h.1, λ j c e. let b = least j c e in omega arith)
          | inr l ↦ let m : min x y ≡ y = omega arith in let P : ℕ → Type 0 = λ z. (C z ⊎ D z) × (slice_index times z ≡ time) × ((j : ℕ) → C j ⊎ D j → slice_index times j ≡ time → z ≤ j) in
              subst P (sym m) (inr k.0, k.1, λ j c e. let b = least j c e in omega arith)
        ]

-- among the wires that an expression names
pub least_named : (e : Net) (o : Atom × Atom × Atom) (times : List ℕ) (time : ℕ) (r : Option ℕ) → o ≡ operands e → IsLeastAt (AreWires o) times time r → IsLeastAt (Names e) times time r
least_named e o times time None is h = λ j w t. h j (let P : Atom × Atom × Atom → Type 0 = λ o. AreWires o j in subst P (sym is) (names_operands e j w)) t
least_named e o times time (Some k) is h =
    (found_named e o is k h.0, h.1, λ j w t. h.2 j (let P : Atom × Atom × Atom → Type 0 = λ o. AreWires o j in subst P (sym is) (names_operands e j w)) t)
