-- What becomes of the orders of units when another operation is served.
use Rattle.std.proofs.Common.{◌≡◌, ℕ, zero, suc, ◌<◌, ◌≤◌, ◌⊎◌, inl, inr, Bool, true, false, List, [], ◌∷◌, ◌++◌, length, refl, ap, subst, sym, ◌∙◌, arith, ltb-true, ltb-false}
use Rattle.std.specs.Prelude.{nat_lt, if◌then◌else◌}
use Rattle.unit_binding.specs.declared.bind.Request.{Request}
use Rattle.unit_binding.specs.Binding.{Order, longer, served}
use Rattle.timed_pieces.proofs.ScheduleRuns.Serving.{Has, has_left}

-- the operations of the order of this number, and how long each holds the unit
abbrev pub ops_at : List Order → ℕ → List ℕ
ops_at [] i = []
ops_at (o ∷ os) zero = o.ops
ops_at (o ∷ os) (suc i) = ops_at os i

abbrev pub held_at : List Order → ℕ → ℕ
held_at [] i = 0
held_at (o ∷ os) zero = o.occupancy
held_at (o ∷ os) (suc i) = held_at os i

pub within : (os : List Order) (i x : ℕ) → Has x (ops_at os i) → i < length os
within [] i x h = absurd h
within (o ∷ os) zero x h = omega arith
within (o ∷ os) (suc i) x h = (let z = within os i x h in omega arith)

has_last : (x : ℕ) (xs : List ℕ) → Has x (xs ++ x ∷ [])
has_last x [] = inl refl
has_last x (z ∷ xs) = inr (has_last x xs)

-- these orders with another operation: none loses an operation, and one has the new one
pub record IsServed (old new : List Order) (index : ℕ) (q : Request) : Type 0 where
  pub keeps : (i x : ℕ) → Has x (ops_at old i) → Has x (ops_at new i)
  pub has : Has q.op (ops_at new index)
  pub held : (i : ℕ) → i < length old → held_at new i ≡ held_at old i
  pub grows : (i : ℕ) → i < length new → (i < length old) ⊎ ((i ≡ index) × (held_at new i ≡ q.occupancy))

longer_length : (os : List Order) (k op : ℕ) → length (longer os k op) ≡ length os
longer_length [] k op = refl
longer_length (o ∷ os) zero op = refl
longer_length (o ∷ os) (suc k) op = ap suc (longer_length os k op)

longer_keeps : (os : List Order) (k op i x : ℕ) → Has x (ops_at os i) → Has x (ops_at (longer os k op) i)
longer_keeps [] k op i x h = absurd h
longer_keeps (o ∷ os) zero op zero x h = has_left x o.ops (op ∷ []) h
longer_keeps (o ∷ os) zero op (suc i) x h = h
longer_keeps (o ∷ os) (suc k) op zero x h = h
longer_keeps (o ∷ os) (suc k) op (suc i) x h = longer_keeps os k op i x h

longer_has : (os : List Order) (k op : ℕ) → k < length os → Has op (ops_at (longer os k op) k)
longer_has [] k op lt = absurd (omega arith)
longer_has (o ∷ os) zero op lt = has_last op o.ops
longer_has (o ∷ os) (suc k) op lt = longer_has os k op (omega arith)

longer_held : (os : List Order) (k op i : ℕ) → held_at (longer os k op) i ≡ held_at os i
longer_held [] k op i = refl
longer_held (o ∷ os) zero op zero = refl
longer_held (o ∷ os) zero op (suc i) = refl
longer_held (o ∷ os) (suc k) op zero = refl
longer_held (o ∷ os) (suc k) op (suc i) = longer_held os k op i

more_keeps : (os : List Order) (o : Order) (i x : ℕ) → Has x (ops_at os i) → Has x (ops_at (os ++ o ∷ []) i)
more_keeps [] o i x h = absurd h
more_keeps (p ∷ os) o zero x h = h
more_keeps (p ∷ os) o (suc i) x h = more_keeps os o i x h

more_ops : (os : List Order) (o : Order) (k : ℕ) → k ≡ length os → ops_at (os ++ o ∷ []) k ≡ o.ops
more_ops [] o zero e = refl
more_ops [] o (suc k) e = absurd (omega arith)
more_ops (p ∷ os) o zero e = absurd (omega arith)
more_ops (p ∷ os) o (suc k) e = more_ops os o k (omega arith)

more_new : (os : List Order) (o : Order) (k : ℕ) → k ≡ length os → held_at (os ++ o ∷ []) k ≡ o.occupancy
more_new [] o zero e = refl
more_new [] o (suc k) e = absurd (omega arith)
more_new (p ∷ os) o zero e = absurd (omega arith)
more_new (p ∷ os) o (suc k) e = more_new os o k (omega arith)

more_held : (os : List Order) (o : Order) (i : ℕ) → i < length os → held_at (os ++ o ∷ []) i ≡ held_at os i
more_held [] o i lt = absurd (omega arith)
more_held (p ∷ os) o zero lt = refl
more_held (p ∷ os) o (suc i) lt = more_held os o i (omega arith)

more_cases : (os : List Order) (o : Order) (i : ℕ) → i < length (os ++ o ∷ []) → (i < length os) ⊎ (i ≡ length os)
more_cases [] o zero lt = inr refl
more_cases [] o (suc i) lt = absurd (omega arith)
more_cases (p ∷ os) o zero lt = inl (omega arith)
more_cases (p ∷ os) o (suc i) lt = elim (more_cases os o i (omega arith)) [ inl x ↦ inl (omega arith) | inr e ↦ inr (omega arith) ]

served_by : (os : List Order) (index unit : ℕ) (q : Request) → index ≤ length os → (b : Bool) → nat_lt index (length os) ≡ b
    → IsServed os (if b then longer os index q.op else os ++ record { unit = unit; occupancy = q.occupancy; ops = q.op ∷ [] } ∷ []) index q
served_by os index unit q le true e =
    let lt = ltb-true index (length os) e in
    record {
      keeps = longer_keeps os index q.op;
      has = longer_has os index q.op lt;
      held = λ i l. longer_held os index q.op i;
      grows = λ i l. inl (let z = longer_length os index q.op in omega arith);
    }
served_by os index unit q le false e =
    let at : index ≡ length os = (let z = ltb-false index (length os) e in omega arith) in
    let o : Order = record { unit = unit; occupancy = q.occupancy; ops = q.op ∷ [] } in
    record {
      keeps = more_keeps os o;
      has = subst (Has q.op) (sym (more_ops os o index at)) (inl refl);
      held = more_held os o;
      grows = λ i l. elim (more_cases os o i l) [ inl x ↦ inl x | inr f ↦ inr (f ∙ sym at, more_new os o i f) ];
    }

pub served_is : (os : List Order) (index unit : ℕ) (q : Request) → index ≤ length os → IsServed os (served os index unit q) index q
served_is os index unit q le = served_by os index unit q le (nat_lt index (length os)) refl
