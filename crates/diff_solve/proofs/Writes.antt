-- What the rise of one time keeps.
use Rattle.std.proofs.Common.{◌≡◌, ℕ, ◌+◌, ◌<◌, ◌≤◌, List, [], ◌∷◌, length, slice_index, ◌≢◌, set, ◌⊎◌, inl, inr, pos, ◌+ℤ◌, ◌<ℤ◌, ◌≤ℤ◌, sym, ap, ◌∙◌, arith}
use Rattle.std.proofs.lemmas.Int.{ints}
use Rattle.std.proofs.lemmas.Bool.{cases_eq}
use Rattle.std.proofs.lemmas.List.{get_or-set_same, get_or-set_other, length-set}
use Rattle.std.proofs.lemmas.List.Elements.{All-from_get_or}
use Rattle.std.specs.List.{All}
use Rattle.diff_solve.specs.declared.solve.Constraint.{Constraint}
use Rattle.diff_solve.specs.Times.{Meets}
use Rattle.diff_solve.specs.Cycles.{nothing, from_of, to_of, weight_of, weight_of_all}
use Rattle.diff_solve.specs.Passes.{Back, AllEntered, HasPositiveLoops, IsTree, IsRunning, HoldsAcross}

-- a write that raises lowers nothing
pub set-rises : (xs : List ℕ) (v y : ℕ) → v < length xs → slice_index xs v ≤ y → (x : ℕ) → slice_index xs x ≤ slice_index (set xs v y) x
set-rises xs v y l h x = elim (cases_eq x v) [
  | inl e ↦ let same : slice_index (set xs v y) x ≡ y = ap (slice_index (set xs v y)) e ∙ get_or-set_same xs v y 0 l in
      let was : slice_index xs x ≡ slice_index xs v = ap (slice_index xs) e in omega arith
  | inr ne ↦ let same : slice_index (set xs v y) x ≡ slice_index xs x = get_or-set_other xs v x y 0 ne in omega arith
]

-- what is at a place after a write
pub set-cases : (xs : List ℕ) (v y : ℕ) → v < length xs → (x : ℕ) → ((x ≡ v) × (slice_index (set xs v y) x ≡ y)) ⊎ ((x ≡ v → ⊥) × (slice_index (set xs v y) x ≡ slice_index xs x))
set-cases xs v y l x = elim (cases_eq x v) [
  | inl e ↦ inl (e, ap (slice_index (set xs v y)) e ∙ get_or-set_same xs v y 0 l)
  | inr ne ↦ inr (ne, get_or-set_other xs v x y 0 ne)
]

module _ (cs : List Constraint) (times entered : List ℕ) (v p reach : ℕ)
    (t : IsTree cs times entered) (in_times : v < length times)
    (p_in : p < length cs) (ends_there : to_of cs p ≡ v) (higher : slice_index times v < reach)
    (reached : pos reach ≡ pos (slice_index times (from_of cs p)) +ℤ weight_of cs p) where
  in_entered : v < length entered
  in_entered = let e = t.same_length in omega arith

  -- where a way back uses the constraint that raises, it is worth more than was paid; else it was there before
  ways : (b : ℕ) (ps : List ℕ) (a : ℕ) → Back cs b ps a → AllEntered cs (set entered v (p + 1)) ps →
      (AllEntered cs entered ps × (pos (slice_index times b) ≤ℤ (pos (slice_index times a) +ℤ weight_of_all cs ps))) ⊎ (pos (slice_index times b) <ℤ (pos (slice_index times a) +ℤ weight_of_all cs ps))
  ways b [] a h e = let same : slice_index times b ≡ slice_index times a = ap (slice_index times) h in inl (tt, omega (arith, ints))
  ways b (q ∷ ps) a (lt, ends, rest) (here, more) =
      let same : slice_index times (to_of cs q) ≡ slice_index times b = ap (slice_index times) ends in
      elim (set-cases entered v (p + 1) in_entered (to_of cs q)) [
        | inl new ↦
            let is_p : q ≡ p = (let k = new.1 in omega arith) in
            let to_v : slice_index times (to_of cs q) ≡ slice_index times v = ap (slice_index times) new.0 in
            let paid : pos reach ≡ pos (slice_index times (from_of cs q)) +ℤ weight_of cs q = rw is_p reached in
            elim (ways (from_of cs q) ps a rest more) [
              | inl old ↦ inr (omega (arith, ints, old.1))
              | inr gain ↦ inr (omega (arith, ints, gain))
            ]
        | inr old ↦
            let was : slice_index entered (to_of cs q) ≡ q + 1 = sym old.1 ∙ here in
            let paid = t.paid (to_of cs q) q was in
            elim (ways (from_of cs q) ps a rest more) [
              | inl others ↦ inl ((was, others.0), omega (arith, ints, paid, others.1))
              | inr gain ↦ inr (omega (arith, ints, paid, gain))
            ]
      ]

  loops_kept : HasPositiveLoops cs (set entered v (p + 1))
  loops_kept x ps back all some = elim (ways x ps x back all) [
    | inl old ↦ t.loops x ps back old.0 some
    | inr gain ↦ omega (arith, ints, gain)
  ]

  pub IsTree-set : IsTree cs (set times v reach) (set entered v (p + 1))
  IsTree-set = record {
    same_length = simp length-set t.same_length;
    ends = λ x q e. elim (set-cases entered v (p + 1) in_entered x) [
      | inl new ↦ let is_p : p ≡ q = (let k = new.1 in omega arith) in
          (let lt : q < length cs = rw (← is_p) p_in in lt, ap (to_of cs) (sym is_p) ∙ ends_there ∙ sym new.0)
      | inr old ↦ t.ends x q (sym old.1 ∙ e)
    ];
    paid = λ x q e.
        let up = set-rises times v reach in_times (omega arith) (from_of cs q) in
        elim (set-cases entered v (p + 1) in_entered x) [
          | inl new ↦
              let is_p : q ≡ p = (let k = new.1 in omega arith) in
              let paid : pos reach ≡ pos (slice_index times (from_of cs q)) +ℤ weight_of cs q = rw is_p reached in
              let now : slice_index (set times v reach) x ≡ reach = ap (slice_index (set times v reach)) new.0 ∙ get_or-set_same times v reach 0 in_times in
              omega (arith, ints, up)
          | inr old ↦
              let paid = t.paid x q (sym old.1 ∙ e) in
              let now : slice_index (set times v reach) x ≡ slice_index times x = get_or-set_other times v x reach 0 old.0 in
              omega (arith, ints, up, paid)
        ];
    unraised = λ x e. elim (set-cases entered v (p + 1) in_entered x) [
      | inl new ↦ (let k = new.1 in absurd (omega arith))
      | inr old ↦ get_or-set_other times v x reach 0 old.0 ∙ t.unraised x (sym old.1 ∙ e)
    ];
    loops = loops_kept;
  }

  pub IsRunning-set : (n limit : ℕ) → IsRunning n cs limit times entered → from_of cs p < n → v ≢ 0 → reach ≤ limit → IsRunning n cs limit (set times v reach) (set entered v (p + 1))
  IsRunning-set n limit r from_in not_zero low = record {
    count = simp length-set r.count;
    tree = IsTree-set;
    start = get_or-set_other times v 0 reach 0 (λ e. not_zero (sym e)) ∙ r.start;
    within = λ x. elim (set-cases times v reach in_times x) [
      | inl new ↦ (let k = new.1 in omega arith)
      | inr old ↦ (let k = old.1 in omega (arith, r.within x))
    ];
    below = λ other s x x_in. elim (set-cases times v reach in_times x) [
      | inl new ↦
          let k = new.1 in
          let met = s.meets p nothing p_in in
          let first = r.below other s (from_of cs p) from_in in
          let there : slice_index other (to_of cs p) ≡ slice_index other x = ap (slice_index other) (ends_there ∙ sym new.0) in
          omega (arith, ints, met, first)
      | inr old ↦ (let k = old.1 in omega (arith, r.below other s x x_in))
    ];
  }

  -- the constraints before this one, and this one, hold across
  pub HoldsAcross-set : (old : List ℕ) → ((x : ℕ) → slice_index old x ≤ slice_index times x) → HoldsAcross cs p old times → HoldsAcross cs (p + 1) old (set times v reach)
  HoldsAcross-set old rises across q q_in = elim (cases_eq q p) [
    | inl e ↦
        let is_p : q ≡ p = e in
        let now : slice_index (set times v reach) (to_of cs q) ≡ reach = ap (λ k. slice_index (set times v reach) (to_of cs k)) e ∙ ap (slice_index (set times v reach)) ends_there ∙ get_or-set_same times v reach 0 in_times in
        let paid : pos reach ≡ pos (slice_index times (from_of cs q)) +ℤ weight_of cs q = rw is_p reached in
        omega (arith, ints, rises (from_of cs q))
    | inr ne ↦ omega (arith, ints, across q (omega arith), set-rises times v reach in_times (omega arith) (to_of cs q))
  ]

-- the same where this one holds already
pub HoldsAcross-more : (cs : List Constraint) (p : ℕ) (old times : List ℕ) → ((x : ℕ) → slice_index old x ≤ slice_index times x) → HoldsAcross cs p old times →
    (pos (slice_index times (from_of cs p)) +ℤ weight_of cs p) ≤ℤ pos (slice_index times (to_of cs p)) → HoldsAcross cs (p + 1) old times
HoldsAcross-more cs p old times rises across met q q_in = elim (cases_eq q p) [
  | inl e ↦
      let here : (pos (slice_index times (from_of cs q)) +ℤ weight_of cs q) ≤ℤ pos (slice_index times (to_of cs q)) = rw e met in
      omega (arith, ints, rises (from_of cs q), here)
  | inr ne ↦ across q (omega arith)
]

-- what holds across from times to themselves holds of them
pub All-from_across : (cs : List Constraint) (old times : List ℕ) → times ≡ old → HoldsAcross cs (length cs) old times → All (Meets times) cs
All-from_across cs old times same across = All-from_get_or (Meets times) cs nothing (λ q q_in.
    let here = across q q_in in
    let from_same : slice_index times (from_of cs q) ≡ slice_index old (from_of cs q) = ap (λ xs. slice_index xs (from_of cs q)) same in
    omega (arith, ints, here))
