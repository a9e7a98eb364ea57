-- How many pieces of a switch labels name.
use Rattle.std.proofs.Common.{◌≡◌, ◌≤◌, ℕ, ◌+◌, ◌-◌, ◌||◌, min, Bool, true, false, arith, List, [], ◌∷◌, length, refl, eqb-true}
use Rattle.std.specs.Prelude.{◌==◌, if◌then◌else◌}
use Rattle.pieces.specs.declared.piece.Label.{Label}
use Rattle.passes.specs.Lowering.{is_named}

abbrev pub one_if : Bool → ℕ
one_if t = if t then 1 else 0

-- labels that name a piece from this number on
abbrev pub labels_ahead : List Label → ℕ → ℕ
labels_ahead [] i = 0
labels_ahead (l ∷ ls) i = min 1 (l.target + 1 - i) + labels_ahead ls i

one_if_either : (s t : Bool) → one_if (s || t) ≤ one_if s + one_if t
one_if_either true t = omega arith
one_if_either false t = omega arith

names_once : (target i : ℕ) → one_if (target == i) + min 1 (target + 1 - (i + 1)) ≤ min 1 (target + 1 - i)
names_once target i = by (target == i) refl where
  by : (t : Bool) → (target == i) ≡ t → one_if t + min 1 (target + 1 - (i + 1)) ≤ min 1 (target + 1 - i)
  by true e = let same = eqb-true target i e in omega (arith, same)
  by false e = omega arith

pub one_ahead : (labels : List Label) (i : ℕ) → one_if (is_named labels i) + labels_ahead labels (i + 1) ≤ labels_ahead labels i
one_ahead [] i = omega arith
one_ahead (l ∷ ls) i =
    let either = one_if_either (l.target == i) (is_named ls i) in
    let one = names_once l.target i in
    let more = one_ahead ls i in
    omega (arith, either, one, more)

pub ahead_at_most : (labels : List Label) (i : ℕ) → labels_ahead labels i ≤ length labels
ahead_at_most [] i = omega arith
ahead_at_most (l ∷ ls) i = let more = ahead_at_most ls i in omega (arith, more)
