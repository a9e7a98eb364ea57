-- Variables that expansion makes are paid for by weight: a part begins and ends with a number of variables that are not paid for yet.
use Rattle.std.proofs.Common.{◌≤◌, ℕ, suc, ◌+◌, Bool, true, false, arith, length, if◌then◌else◌}
use Rattle.piece_making.specs.Making.{State, Part, gives, then_}

-- So many variables are owed before a part, and so many behind it: a unit of weight pays for one.
pub record IsPaid {A : Type 0} (old new : ℕ) (s : State) (part : Part A) : Type 0 where
  pub paid : length part.state.variables + old ≤ length s.variables + new + part.weight

pub gives_paid : {A : Type 0} {o : ℕ} {x : A} {s : State} → IsPaid o o s (gives x s)
gives_paid = record { paid = omega arith }

pub then_paid : {A B : Type 0} {o m n : ℕ} {s : State} {first : Part A} {next : A → State → Part B} → IsPaid o m s first → ((x : A) (s1 : State) → IsPaid m n s1 (next x s1)) → IsPaid o n s (then_ first next)
unfolding then_
then_paid {first = first} {next = next} h behind = record { paid = (let a = h.paid in let b = (behind first.value first.state).paid in omega (arith, a, b)) }

-- where something is known of the value of the first part
pub known_paid : {A B : Type 0} {o m n : ℕ} {s : State} {first : Part A} {next : A → State → Part B} (P : A → Type 0) → P first.value → IsPaid o m s first → ((x : A) (s1 : State) → P x → IsPaid m n s1 (next x s1)) → IsPaid o n s (then_ first next)
unfolding then_
known_paid {first = first} {next = next} P k h behind = record { paid = (let a = h.paid in let b = (behind first.value first.state k).paid in omega (arith, a, b)) }

pub if_paid : {A : Type 0} {o n : ℕ} {s : State} (b : Bool) (x y : Part A) → IsPaid o n s x → IsPaid o n s y → IsPaid o n s (if b then x else y)
if_paid true x y h g = h
if_paid false x y h g = g

-- a variable that is owed at both ends may be left out
pub one_less : {A : Type 0} {o n : ℕ} {s : State} {part : Part A} → IsPaid (suc o) (suc n) s part → IsPaid o n s part
one_less h = record { paid = (let a = h.paid in omega (arith, a)) }

-- less is owed before it, or more behind it
pub eased : {A : Type 0} {s : State} {part : Part A} (o n : ℕ) {o1 n1 : ℕ} → o1 ≤ o → n ≤ n1 → IsPaid o n s part → IsPaid o1 n1 s part
eased o n a b h = record { paid = (let x = h.paid in omega (arith, x, a, b)) }
