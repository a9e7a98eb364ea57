-- What expansion makes is paid for by weight: a part of an expansion begins and ends with an account of what is not paid for yet.
use Rattle.std.proofs.Common.{◌≡◌, ◌≤◌, ℕ, ◌+◌, ◌*◌, Bool, true, false, arith, List, [], ◌∷◌, ◌++◌, length, length-append, if◌then◌else◌}
use Rattle.pieces.specs.Trees.{PieceTree, piece_row}
use Rattle.pieces.specs.Weight.{piece_weights}
use Rattle.piece_making.specs.Making.{State, Part, gives, then_}
use Rattle.passes.specs.Lands.{land_count}

-- Variables and arrays that are made and for which nothing weighs yet; the weight of pieces and labels that stand in lists of their own, and belong to no piece yet; and the lands of these pieces, with those of calls that are begun and did not end yet.
pub record Account : Type 0 where
  pub variables : ℕ
  pub arrays : ℕ
  pub weight : ℕ
  pub lands : ℕ

abbrev pub nothing_owed : Account
nothing_owed = record { variables = 0; arrays = 0; weight = 0; lands = 0 }

-- so many more variables and arrays
abbrev pub owing : ℕ → ℕ → Account → Account
owing variables arrays o = record o { variables = o.variables + variables; arrays = o.arrays + arrays }

-- a call is begun
abbrev pub begun : Account → Account
begun o = record o { lands = o.lands + 1 }

-- these pieces stand in a list of their own
abbrev pub holding : List PieceTree → Account → Account
holding pieces o = record o { weight = o.weight + piece_weights (piece_row pieces); lands = o.lands + land_count (piece_row pieces) }

-- so do so many labels
abbrev pub holding_labels : ℕ → Account → Account
holding_labels labels o = record o { weight = o.weight + labels }

-- A part begins with one account, and ends with another that its value tells: a unit of weight pays for the variables of a call, for one array and for one land.
pub record IsPaid {A : Type 0} (old : Account) (new : A → Account) (s : State) (part : Part A) : Type 0 where
  pub variables : length part.state.variables + old.variables ≤ length s.variables + (new part.value).variables + 16386 * part.weight
  pub arrays : length part.state.arrays + old.arrays ≤ length s.arrays + (new part.value).arrays + part.weight
  pub weight : (new part.value).weight + piece_weights (piece_row part.pieces) + length part.labels ≤ old.weight + part.weight
  pub lands : (new part.value).lands + land_count (piece_row part.pieces) ≤ old.lands + part.weight

-- ---- pieces one after another

pub weights_append : (xs ys : List PieceTree) → piece_weights (piece_row (xs ++ ys)) ≡ piece_weights (piece_row xs) + piece_weights (piece_row ys)
weights_append [] ys = omega arith
weights_append (x ∷ xs) ys = let h = weights_append xs ys in omega (arith, h)

pub lands_append : (xs ys : List PieceTree) → land_count (piece_row (xs ++ ys)) ≡ land_count (piece_row xs) + land_count (piece_row ys)
lands_append [] ys = omega arith
lands_append (x ∷ xs) ys = let h = lands_append xs ys in omega (arith, h)

-- ---- parts

pub gives_paid : {A : Type 0} {o : Account} {x : A} {s : State} → IsPaid o (λ y. o) s (gives x s)
gives_paid {A} {o} {x} {s} = record { variables = omega arith; arrays = omega arith; weight = omega arith; lands = omega arith }

pub then_paid : {A B : Type 0} {o : Account} {m : A → Account} {n : B → Account} {s : State} {first : Part A} {next : A → State → Part B}
    → IsPaid o m s first → ((x : A) (s1 : State) → IsPaid (m x) n s1 (next x s1)) → IsPaid o n s (then_ first next)
unfolding then_
then_paid {o = o} {m = m} {n = n} {s = s} {first = first} {next = next} h behind =
    let second = next first.value first.state in
    let q = behind first.value first.state in
    record {
      variables = (let a = h.variables in let b = q.variables in omega (arith, a, b));
      arrays = (let a = h.arrays in let b = q.arrays in omega (arith, a, b));
      weight = (let a = h.weight in let b = q.weight in let l = length-append first.labels second.labels in let w = weights_append first.pieces second.pieces in omega (arith, a, b, l, w));
      lands = (let a = h.lands in let b = q.lands in let w = lands_append first.pieces second.pieces in omega (arith, a, b, w));
    }

pub if_paid : {A : Type 0} {o : Account} {n : A → Account} {s : State} (b : Bool) (x y : Part A) → IsPaid o n s x → IsPaid o n s y → IsPaid o n s (if b then x else y)
if_paid true x y h g = h
if_paid false x y h g = g

-- what is owed at both ends may be left out
pub without_owing : {A : Type 0} {o : Account} {n : A → Account} {s : State} {part : Part A} (v a : ℕ) → IsPaid (owing v a o) (λ x. owing v a (n x)) s part → IsPaid o n s part
without_owing {o = o} {n = n} {s = s} {part = part} v a h = record {
  variables = (let x = h.variables in omega (arith, x));
  arrays = (let x = h.arrays in omega (arith, x));
  weight = h.weight;
  lands = h.lands;
}

-- more is owed than has to be, and no more is held
pub eased : {A : Type 0} {o : Account} {s : State} {part : Part A} (n m : Account) → n.variables ≤ m.variables → n.arrays ≤ m.arrays → m.weight ≤ n.weight → m.lands ≤ n.lands → IsPaid o (λ x. n) s part → IsPaid o (λ x. m) s part
eased {A} {o} {s} {part} n m v a w l h = record {
  variables = (let x = h.variables in omega (arith, x, v));
  arrays = (let x = h.arrays in omega (arith, x, a));
  weight = (let x = h.weight in omega (arith, x, w));
  lands = (let x = h.lands in omega (arith, x, l));
}
