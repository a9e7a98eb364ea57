-- What is shown of the tokens seen, where some turn out to be held by one construct more.
use Rattle.std.proofs.Common.{◌≡◌, ℕ, suc, ◌+◌, ◌<◌, ◌≤◌, Bool, true, false, List, [], ◌∷◌, ◌++◌, inl, inr, length, get_or, take, set, refl, ap, sym, ◌∙◌, subst, arith, eq-eqb, length-append, length-set, get_or-set_same, get_or-set_other}
use Rattle.std.specs.Prelude.{nat_lt, nat_eq, ◌||◌, if◌then◌else◌}
use Rattle.std.proofs.lemmas.Bool.{lt-ltb, le-ltb, ltb-true, ltb-false, eqb-true, cases_order}
use Rattle.std.proofs.lemmas.List.{get_or-take, get_or_append_left, get_or-append-add, length-take-le}
use Rattle.c_syntax.specs.Steps.{deeper}
use Rattle.c_syntax.specs.Notes.{Noted, within, hold_behind, hold_from, entry, is_beyond, Shows}

-- ---- entries

pub from_length : (n : ℕ) (ms : List Noted) → length (hold_from n ms) ≡ length ms
from_length n [] = refl
from_length n (m ∷ ms) = step (nat_lt n (length ms)) (nat_eq n (length ms)) (from_length n ms)
  where
    step : (b c : Bool) → length (hold_from n ms) ≡ length ms → length (if b then within m ∷ hold_from n ms else (if c then within m ∷ ms else (m ∷ ms))) ≡ suc (length ms)
    step true c rest = ap suc rest
    step false true rest = refl
    step false false rest = refl

pub from_at : (n : ℕ) (ms : List Noted) (i : ℕ) → n ≤ i → i < length ms → entry (hold_from n ms) i ≡ within (entry ms i)
from_at n [] i le below = absurd (omega (arith, below))
from_at n (m ∷ ms) i le below = step (nat_lt n (length ms)) (nat_eq n (length ms)) (nat_eq i (length ms)) (from_at n ms i le) refl refl refl
  where
    step : (b c d : Bool) → (i < length ms → entry (hold_from n ms) i ≡ within (entry ms i)) → nat_lt n (length ms) ≡ b → nat_eq n (length ms) ≡ c → nat_eq i (length ms) ≡ d
        → entry (if b then within m ∷ hold_from n ms else (if c then within m ∷ ms else (m ∷ ms))) i ≡ within (if d then m else entry ms i)
    step true c true rest e f h = ap (λ k. if nat_eq i k then within m else entry (hold_from n ms) i) (from_length n ms) ∙ ap (λ x. if x then within m else entry (hold_from n ms) i) h
    step true c false rest e f h =
        let less : i < length ms = elim (cases_order i (length ms)) [
          | inl same ↦ absurd (let x : true ≡ false = sym (eq-eqb i (length ms) same) ∙ h in cc)
          | inr other ↦ elim other [ inl l ↦ l | inr m ↦ absurd (omega (arith, m, below)) ]
        ] in
        ap (λ k. if nat_eq i k then within m else entry (hold_from n ms) i) (from_length n ms) ∙ ap (λ x. if x then within m else entry (hold_from n ms) i) h ∙ rest less
    step false true true rest e f h = ap (λ x. if x then within m else entry ms i) h
    step false true false rest e f h =
        let same = eqb-true n (length ms) f in let bound : i ≡ length ms = omega (arith, same, le, below) in absurd (let x : true ≡ false = sym (eq-eqb i (length ms) bound) ∙ h in cc)
    step false false d rest e f h =
        let more = ltb-false n (length ms) e in let same : n ≡ length ms = omega (arith, more, le, below) in absurd (let x : true ≡ false = sym (eq-eqb n (length ms) same) ∙ f in cc)

pub from_before : (n : ℕ) (ms : List Noted) (i : ℕ) → i < n → entry (hold_from n ms) i ≡ entry ms i
from_before n [] i less = refl
from_before n (m ∷ ms) i less = step (nat_lt n (length ms)) (nat_eq n (length ms)) (from_before n ms i less) refl refl
  where
    not_same : (k : ℕ) → i < k → nat_eq i k ≡ false
    not_same k h = other (nat_eq i k) refl
      where
        other : (b : Bool) → nat_eq i k ≡ b → b ≡ false
        other true e = absurd (let same = eqb-true i k e in omega (arith, same, h))
        other false e = refl

    step : (b c : Bool) → entry (hold_from n ms) i ≡ entry ms i → nat_lt n (length ms) ≡ b → nat_eq n (length ms) ≡ c
        → entry (if b then within m ∷ hold_from n ms else (if c then within m ∷ ms else (m ∷ ms))) i ≡ (if nat_eq i (length ms) then m else entry ms i)
    step true c rest e f =
        let h = ltb-true n (length ms) e in
        ap (λ k. if nat_eq i k then within m else entry (hold_from n ms) i) (from_length n ms)
        ∙ ap (λ x. if x then within m else entry (hold_from n ms) i) (not_same (length ms) (omega (arith, less, h)))
        ∙ rest ∙ sym (ap (λ x. if x then m else entry ms i) (not_same (length ms) (omega (arith, less, h))))
    step false true rest e f =
        let same = eqb-true n (length ms) f in let x = not_same (length ms) (omega (arith, less, same)) in
        ap (λ y. if y then within m else entry ms i) x ∙ sym (ap (λ y. if y then m else entry ms i) x)
    step false false rest e f = refl

-- behind an index is from the next one on
behind_short : (n : ℕ) (ms : List Noted) → length ms ≤ suc n → hold_behind n ms ≡ ms
behind_short n [] le = refl
behind_short n (m ∷ ms) le = ap (λ b. if b then within m ∷ hold_behind n ms else (m ∷ ms)) (le-ltb n (length ms) (omega (arith, le)))

pub behind_from : (n : ℕ) (ms : List Noted) → hold_behind n ms ≡ hold_from (suc n) ms
behind_from n [] = refl
behind_from n (m ∷ ms) = elim (cases_order (suc n) (length ms)) [
  | inl same ↦
      ap (λ b. if b then within m ∷ hold_behind n ms else (m ∷ ms)) (lt-ltb n (length ms) (omega (arith, same)))
      ∙ ap (λ x. within m ∷ x) (behind_short n ms (omega (arith, same)))
      ∙ sym (ap (λ b. if b then within m ∷ hold_from (suc n) ms else (if nat_eq (suc n) (length ms) then within m ∷ ms else (m ∷ ms))) (le-ltb (suc n) (length ms) (omega (arith, same)))
      ∙ ap (λ b. if b then within m ∷ ms else (m ∷ ms)) (eq-eqb (suc n) (length ms) same))
  | inr other ↦ elim other [
    | inl less ↦
        ap (λ b. if b then within m ∷ hold_behind n ms else (m ∷ ms)) (lt-ltb n (length ms) (omega (arith, less)))
        ∙ ap (λ x. within m ∷ x) (behind_from n ms)
        ∙ sym (ap (λ b. if b then within m ∷ hold_from (suc n) ms else (if nat_eq (suc n) (length ms) then within m ∷ ms else (m ∷ ms))) (lt-ltb (suc n) (length ms) less))
    | inr more ↦
        ap (λ b. if b then within m ∷ hold_behind n ms else (m ∷ ms)) (le-ltb n (length ms) (omega (arith, more)))
        ∙ sym (ap (λ b. if b then within m ∷ hold_from (suc n) ms else (if nat_eq (suc n) (length ms) then within m ∷ ms else (m ∷ ms))) (le-ltb (suc n) (length ms) (omega (arith, more)))
        ∙ ap (λ b. if b then within m ∷ ms else (m ∷ ms)) (differ (suc n) (length ms) more))
  ]
]
  where
    differ : (a b : ℕ) → b < a → nat_eq a b ≡ false
    differ a b h = other (nat_eq a b) refl
      where
        other : (x : Bool) → nat_eq a b ≡ x → x ≡ false
        other true e = absurd (let same = eqb-true a b e in omega (arith, same, h))
        other false e = refl

-- ---- beyond stays beyond

deeper_below : (n : ℕ) → n < 255 → deeper n ≡ n + 1
unfolding deeper
deeper_below n below = ap (λ b. if b then n + 1 else n) (lt-ltb n 255 below)

deeper_large : (n : ℕ) → n ≤ deeper n
unfolding deeper
deeper_large n = step (nat_lt n 255)
  where
    step : (b : Bool) → n ≤ (if b then n + 1 else n)
    step true = omega arith
    step false = omega arith

or_more : (a b c : Bool) → (a ≡ true → c ≡ true) → (a || b) ≡ true → (c || b) ≡ true
or_more true b c f e = ap (λ x. x || b) (f refl)
or_more false true true f e = refl
or_more false true false f e = refl
or_more false false c f e = absurd cc

within_beyond : (m : Noted) → is_beyond m ≡ true → is_beyond (within m) ≡ true
within_beyond m e = or_more (nat_lt 64 m.nesting) m.surplus (nat_lt 64 (deeper m.nesting)) (λ h. let x = ltb-true 64 m.nesting h in let y = deeper_large m.nesting in lt-ltb 64 (deeper m.nesting) (omega (arith, x, y))) e

pub from_beyond : (n : ℕ) (ms : List Noted) (i : ℕ) → i < length ms → is_beyond (entry ms i) ≡ true → is_beyond (entry (hold_from n ms) i) ≡ true
from_beyond n ms i below e = elim (cases_order i n) [
  | inl same ↦ ap is_beyond (from_at n ms i (omega (arith, same)) below) ∙ within_beyond (entry ms i) e
  | inr other ↦ elim other [
    | inl less ↦ ap is_beyond (from_before n ms i less) ∙ e
    | inr more ↦ ap is_beyond (from_at n ms i (omega (arith, more)) below) ∙ within_beyond (entry ms i) e
  ]
]

-- ---- while one nesting after another is raised

pub record Raising (from i : ℕ) (nestings : List ℕ) (beyond : Bool) (noted : List Noted) : Type 0 where
  pub start : from ≤ i
  pub done : (j : ℕ) → j < length nestings → from ≤ j → j < i → within (entry noted j) ≡ record { nesting = get_or nestings j 0; surplus = false }
  pub before : (j : ℕ) → j < length nestings → j < from → entry noted j ≡ record { nesting = get_or nestings j 0; surplus = false }
  pub ahead : (j : ℕ) → j < length nestings → i ≤ j → entry noted j ≡ record { nesting = get_or nestings j 0; surplus = false }
  pub within_limit : (j : ℕ) → j < length nestings → get_or nestings j 0 ≤ 64
  pub all : beyond ≡ false → length nestings ≡ length noted
  pub first : beyond ≡ true → is_beyond (entry (hold_from from noted) (length nestings)) ≡ true
  pub inside : beyond ≡ true → length nestings < length noted

pub raising_first : (from : ℕ) (nestings : List ℕ) (beyond : Bool) (noted : List Noted) → Shows nestings beyond noted → Raising from from nestings beyond noted
raising_first from nestings beyond noted s = record {
  start = omega arith;
  done = λ j below le less. absurd (omega (arith, le, less));
  before = λ j below less. s.here j below;
  ahead = λ j below le. s.here j below;
  within_limit = s.within_limit;
  all = s.all;
  first = λ e. from_beyond from noted (length nestings) (s.inside e) (s.first e);
  inside = s.inside;
}

pub raising_last : (from i : ℕ) (nestings : List ℕ) (beyond : Bool) (noted : List Noted) → length nestings ≤ i → Raising from i nestings beyond noted → Shows nestings beyond (hold_from from noted)
raising_last from i nestings beyond noted le r = record {
  here = λ j below. elim (cases_order j from) [
    | inl same ↦ from_at from noted j (omega (arith, same)) (long j below) ∙ r.done j below (omega (arith, same)) (omega (arith, below, le))
    | inr other ↦ elim other [
      | inl less ↦ from_before from noted j less ∙ r.before j below less
      | inr more ↦ from_at from noted j (omega (arith, more)) (long j below) ∙ r.done j below (omega (arith, more)) (omega (arith, below, le))
    ]
  ];
  within_limit = r.within_limit;
  all = λ e. r.all e ∙ sym (from_length from noted);
  first = r.first;
  inside = λ e. let h = r.inside e in let k = from_length from noted in omega (arith, h, k);
}
  where
    long : (j : ℕ) → j < length nestings → j < length noted
    long j below = by beyond refl
      where
        by : (b : Bool) → beyond ≡ b → j < length noted
        by true e = let h = r.inside e in omega (arith, h, below)
        by false e = let h = r.all e in omega (arith, h, below)

pub raising_more : (from i : ℕ) (nestings : List ℕ) (beyond : Bool) (noted : List Noted) → i < length nestings → get_or nestings i 0 < 64 → Raising from i nestings beyond noted
    → Raising from (i + 1) (set nestings i (get_or nestings i 0 + 1)) beyond noted
raising_more from i nestings beyond noted below small r =
    let x = get_or nestings i 0 in let new = set nestings i (x + 1) in let same = length-set nestings i (x + 1) in
    let old : (j : ℕ) → (j ≡ i → ⊥) → get_or new j 0 ≡ get_or nestings j 0 = λ j ne. get_or-set_other nestings i j (x + 1) 0 ne in
    record {
      start = let h = r.start in omega (arith, h);
      done = λ j b le less. elim (cases_order j i) [
        | inl eq ↦ subst (λ k. within (entry noted k) ≡ record { nesting = get_or new k 0; surplus = false }) (sym eq)
            (ap within (r.ahead i below (omega arith)) ∙ ap (λ k. record { nesting = k; surplus = false }) (deeper_below x (omega (arith, small)) ∙ sym (get_or-set_same nestings i (x + 1) 0 below)))
        | inr o ↦ elim o [
          | inl l ↦ r.done j (omega (arith, b, same)) le l ∙ ap (λ k. record { nesting = k; surplus = false }) (sym (old j (λ e. omega (arith, e, l))))
          | inr m ↦ absurd (omega (arith, m, less))
        ]
      ];
      before = λ j b less. let h = r.start in r.before j (omega (arith, b, same)) less ∙ ap (λ k. record { nesting = k; surplus = false }) (sym (old j (λ e. omega (arith, e, less, h))));
      ahead = λ j b le. r.ahead j (omega (arith, b, same)) (omega (arith, le)) ∙ ap (λ k. record { nesting = k; surplus = false }) (sym (old j (λ e. omega (arith, e, le))));
      within_limit = λ j b. elim (cases_order j i) [
        | inl eq ↦ let h : get_or new j 0 ≡ x + 1 = ap (λ k. get_or new k 0) eq ∙ get_or-set_same nestings i (x + 1) 0 below in omega (arith, h, small)
        | inr o ↦ let h = old j (elim o [ inl l ↦ λ e. omega (arith, e, l) | inr m ↦ λ e. omega (arith, e, m) ]) in let k = r.within_limit j (omega (arith, b, same)) in omega (arith, h, k)
      ];
      all = λ e. same ∙ r.all e;
      first = λ e. ap (λ k. is_beyond (entry (hold_from from noted) k)) same ∙ r.first e;
      inside = λ e. let h = r.inside e in omega (arith, h, same);
    }

pub raising_stops : (from i : ℕ) (nestings : List ℕ) (beyond : Bool) (noted : List Noted) → i < length nestings → 64 ≤ get_or nestings i 0 → Raising from i nestings beyond noted
    → Raising from i (take i nestings) true noted
raising_stops from i nestings beyond noted below large r =
    let short : length (take i nestings) ≡ i = length-take-le i nestings (omega (arith, below)) in
    let keep : (j : ℕ) → j < i → get_or (take i nestings) j 0 ≡ get_or nestings j 0 = λ j l. get_or-take i nestings j 0 l in
    let full : get_or nestings i 0 ≡ 64 = let h = r.within_limit i below in omega (arith, h, large) in
    let there : i < length noted = by beyond refl in
    record {
      start = r.start;
      done = λ j b le less. r.done j (omega (arith, less, below)) le less ∙ ap (λ k. record { nesting = k; surplus = false }) (sym (keep j less));
      before = λ j b less. let h = r.start in r.before j (omega (arith, less, h, below)) less ∙ ap (λ k. record { nesting = k; surplus = false }) (sym (keep j (omega (arith, less, h))));
      ahead = λ j b le. absurd (omega (arith, b, le, short));
      within_limit = λ j b. let h = keep j (omega (arith, b, short)) in let k = r.within_limit j (omega (arith, b, short, below)) in omega (arith, h, k);
      all = λ e. absurd cc;
      first = λ e. ap (λ k. is_beyond (entry (hold_from from noted) k)) short ∙ ap is_beyond (from_at from noted i r.start there ∙ ap within (r.ahead i below (omega arith) ∙ ap (λ k. record { nesting = k; surplus = false }) full))
          ∙ ap (λ k. is_beyond (record { nesting = k; surplus = false })) (deeper_below 64 (omega arith));
      inside = λ e. omega (arith, there, short);
    }
  where
    by : (b : Bool) → beyond ≡ b → i < length noted
    by true e = let h = r.inside e in omega (arith, h, below)
    by false e = let h = r.all e in omega (arith, h, below)

-- ---- one token more

pub shows_first : Shows [] false []
shows_first = record {
  here = λ i below. absurd (omega (arith, below));
  within_limit = λ i below. absurd (omega (arith, below));
  all = λ e. refl;
  first = λ e. absurd cc;
  inside = λ e. absurd cc;
}

last_entry : (m : Noted) (ms : List Noted) (i : ℕ) → i ≡ length ms → entry (m ∷ ms) i ≡ m
last_entry m ms i e = ap (λ b. if b then m else entry ms i) (eq-eqb i (length ms) e)

earlier_entry : (m : Noted) (ms : List Noted) (i : ℕ) → i < length ms → entry (m ∷ ms) i ≡ entry ms i
earlier_entry m ms i below = ap (λ b. if b then m else entry ms i) (other (nat_eq i (length ms)) refl)
  where
    other : (x : Bool) → nat_eq i (length ms) ≡ x → x ≡ false
    other true e = absurd (let same = eqb-true i (length ms) e in omega (arith, same, below))
    other false e = refl

-- a token within the limits
pub shows_push : (nestings : List ℕ) (noted : List Noted) (n : ℕ) → n ≤ 64 → Shows nestings false noted → Shows (nestings ++ n ∷ []) false (record { nesting = n; surplus = false } ∷ noted)
shows_push nestings noted n le s =
    let same = s.all refl in let long = length-append nestings (n ∷ []) in
    record {
      here = λ i below. elim (cases_order i (length nestings)) [
        | inl eq ↦ last_entry (record { nesting = n; surplus = false }) noted i (eq ∙ same) ∙ ap (λ k. record { nesting = k; surplus = false }) (sym (at_end i eq))
        | inr o ↦ elim o [
          | inl l ↦ earlier_entry (record { nesting = n; surplus = false }) noted i (omega (arith, l, same)) ∙ s.here i l ∙ ap (λ k. record { nesting = k; surplus = false }) (sym (get_or_append_left nestings (n ∷ []) 0 i l))
          | inr m ↦ absurd (omega (arith, m, below, long))
        ]
      ];
      within_limit = λ i below. elim (cases_order i (length nestings)) [
        | inl eq ↦ let h = at_end i eq in omega (arith, h, le)
        | inr o ↦ elim o [
          | inl l ↦ let h = get_or_append_left nestings (n ∷ []) 0 i l in let k = s.within_limit i l in omega (arith, h, k)
          | inr m ↦ absurd (omega (arith, m, below, long))
        ]
      ];
      all = λ e. omega (arith, long, same);
      first = λ e. absurd cc;
      inside = λ e. absurd cc;
    }
  where
    at_end : (i : ℕ) → i ≡ length nestings → get_or (nestings ++ n ∷ []) i 0 ≡ n
    at_end i e = ap (λ k. get_or (nestings ++ n ∷ []) k 0) (let h : i ≡ length nestings + 0 = omega (arith, e) in h) ∙ get_or-append-add nestings (n ∷ []) 0 0

-- a token that is the first one beyond a limit
pub shows_beyond : (nestings : List ℕ) (noted : List Noted) (m : Noted) → is_beyond m ≡ true → Shows nestings false noted → Shows nestings true (m ∷ noted)
shows_beyond nestings noted m bad s =
    let same = s.all refl in
    record {
      here = λ i below. earlier_entry m noted i (omega (arith, below, same)) ∙ s.here i below;
      within_limit = s.within_limit;
      all = λ e. absurd cc;
      first = λ e. ap is_beyond (last_entry m noted (length nestings) same) ∙ bad;
      inside = λ e. omega (arith, same);
    }

-- a token behind that one
pub shows_later : (nestings : List ℕ) (noted : List Noted) (m : Noted) → Shows nestings true noted → Shows nestings true (m ∷ noted)
shows_later nestings noted m s =
    let inside = s.inside refl in
    record {
      here = λ i below. earlier_entry m noted i (omega (arith, below, inside)) ∙ s.here i below;
      within_limit = s.within_limit;
      all = λ e. absurd cc;
      first = λ e. ap is_beyond (earlier_entry m noted (length nestings) inside) ∙ s.first refl;
      inside = λ e. omega (arith, inside);
    }

-- ---- the tokens behind an index

pub shows_behind : (first : ℕ) (nestings : List ℕ) (beyond : Bool) (noted : List Noted) → Shows nestings beyond (hold_from (suc first) noted) → Shows nestings beyond (hold_behind first noted)
shows_behind first nestings beyond noted s = subst (Shows nestings beyond) (sym (behind_from first noted)) s

-- none of the tokens shown is raised
pub shows_none_behind : (first : ℕ) (nestings : List ℕ) (beyond : Bool) (noted : List Noted) → length nestings ≤ first → Shows nestings beyond noted → Shows nestings beyond (hold_behind first noted)
shows_none_behind first nestings beyond noted le s =
    shows_behind first nestings beyond noted (raising_last (suc first) (suc first) nestings beyond noted (omega (arith, le)) (raising_first (suc first) nestings beyond noted s))
