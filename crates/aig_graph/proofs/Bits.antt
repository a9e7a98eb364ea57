-- Bits that are made of two others.
use Rattle.std.proofs.Common.{◌≡◌, Bool, true, false, not, ◌&&◌, ◌||◌, refl}
use Rattle.std.proofs.lemmas.Bool.{false≢true}
use Rattle.aig_graph.specs.Making.{is_xor, is_picked}

pub neither : (x y : Bool) → not (not x && not y) ≡ (x || y)
neither true y = refl
neither false true = refl
neither false false = refl

pub one_of : (x y : Bool) → ((x || y) && not (x && y)) ≡ is_xor x y
one_of true true = refl
one_of true false = refl
one_of false true = refl
one_of false false = refl

pub picked : (t x y : Bool) → ((t && x) || (not t && y)) ≡ is_picked t x y
picked true true y = refl
picked true false y = refl
picked false x true = refl
picked false x false = refl

pub and_same : (x : Bool) → x ≡ (x && x)
and_same true = refl
and_same false = refl

pub and_true : (x : Bool) → x ≡ (x && true)
and_true true = refl
and_true false = refl

pub and_false : (x : Bool) → false ≡ (x && false)
and_false true = refl
and_false false = refl

pub first_true : (a b : Bool) → (a && b) ≡ true → a ≡ true
first_true true b e = refl
first_true false b e = e

pub second_true : (a b : Bool) → (a && b) ≡ true → b ≡ true
second_true true b e = e
second_true false b e = absurd (false≢true e)
