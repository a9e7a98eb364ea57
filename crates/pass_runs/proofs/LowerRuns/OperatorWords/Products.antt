-- Products of numbers that are congruent are congruent.
use Rattle.std.proofs.Common.{◌≡◌, ◌∙◌, ℕ, suc, ◌+◌, ◌*◌, refl, ap, sym, ℤ, pos, negsuc, ◌+ℤ◌, ◌*ℤ◌, arith}
use Rattle.std.proofs.lemmas.Int.{ints}
use Rattle.pass_runs.proofs.LowerRuns.OperatorWords.Remainders.{Congruent}

-- ---- x is p - a, and y is q - c

both_up : (x y a c p q : ℕ) → p ≡ x + a → q ≡ y + c → x * y + (p * c + q * a) ≡ p * q + a * c
both_up x y a c p q e f = rw (e, f) (omega arith)

one_down : (x y a c p q : ℕ) → p ≡ x + a → c ≡ q + suc y → p * c + q * a ≡ x * suc y + (p * q + a * c)
one_down x y a c p q e f = rw (e, f) (omega arith)

both_down : (x y a c p q : ℕ) → a ≡ p + suc x → c ≡ q + suc y → suc x * suc y + (p * c + q * a) ≡ p * q + a * c
both_down x y a c p q e f = rw (e, f) (omega arith)

up : (x : ℤ) (n a p : ℕ) → x ≡ pos n → x +ℤ pos a ≡ pos p → p ≡ n + a
up x n a p e h = omega (arith, ints, e, h)

down : (x : ℤ) (n a p : ℕ) → x ≡ negsuc n → x +ℤ pos a ≡ pos p → a ≡ p + suc n
down x n a p e h = omega (arith, ints, e, h)

product_parts : (x y : ℤ) (a p c q : ℕ) → x +ℤ pos a ≡ pos p → y +ℤ pos c ≡ pos q → x *ℤ y +ℤ pos (p * c + q * a) ≡ pos (p * q + a * c)
product_parts (pos x) (pos y) a p c q h g = ap pos (both_up x y a c p q (up (pos x) x a p refl h) (up (pos y) y c q refl g))
product_parts (pos x) (negsuc y) a p c q h g = let e = one_down x y a c p q (up (pos x) x a p refl h) (down (negsuc y) y c q refl g) in omega (arith, ints, e)
product_parts (negsuc x) (pos y) a p c q h g =
    let e = one_down y x c a q p (up (pos y) y c q refl g) (down (negsuc x) x a p refl h) in
    let f : p * c + q * a ≡ suc x * y + (p * q + a * c) = omega (arith, e) in
    omega (arith, ints, f)
product_parts (negsuc x) (negsuc y) a p c q h g = ap pos (both_down x y a c p q (down (negsuc x) x a p refl h) (down (negsuc y) y c q refl g))

before_is : (m a b hf hb gf gb : ℕ) → (a + hb * m) * (gf * m) + (b + gb * m) * (hf * m) ≡ (a * gf + hb * m * gf + b * hf + gb * m * hf) * m
before_is m a b hf hb gf gb = omega arith

behind_is : (m a b hf hb gf gb : ℕ) → (a + hb * m) * (b + gb * m) + hf * m * (gf * m) ≡ a * b + (a * gb + hb * b + hb * gb * m + hf * m * gf) * m
behind_is m a b hf hb gf gb = omega arith

pub products_congruent : (m : ℕ) (x y : ℤ) (a b : ℕ) → Congruent m x (pos a) → Congruent m y (pos b) → Congruent m (x *ℤ y) (pos (a * b))
products_congruent m x y a b h g = record {
  before = a * g.before + h.behind * m * g.before + b * h.before + g.behind * m * h.before;
  behind = a * g.behind + h.behind * b + h.behind * g.behind * m + h.before * m * g.before;
  same = ap (λ n. x *ℤ y +ℤ pos n) (sym (before_is m a b h.before h.behind g.before g.behind))
      ∙ product_parts x y (h.before * m) (a + h.behind * m) (g.before * m) (b + g.behind * m) h.same g.same ∙ ap pos (behind_is m a b h.before h.behind g.before g.behind);
}
