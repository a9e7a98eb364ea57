-- Numbers of words that are made bit by bit of two others.
use Rattle.std.proofs.Common.{◌≡◌, ℕ, ◌+◌, ◌*◌, ◌^◌, ◌<◌, Bool, true, false, ◌&&◌, ◌||◌, bit_and, bit_or, bit_xor, refl, sym, ap, ◌∙◌, arith}
use Rattle.std.proofs.lemmas.Nat.{and_block, or_block, xor_block}
use Rattle.aig_graph.specs.Making.{is_xor}
use Rattle.aig_graph.specs.declared.bitwise.BitOperator.{BitOperator}
use Rattle.aig_graph.specs.declared.bitwise.BitOperator.TheVariants as operator
use Rattle.aig_graph.specs.Words.{worth, bitwise_bit, bitwise_number}

placed : (N P : ℕ) (b : Bool) → N + worth b P ≡ worth b 1 * P + N
placed N P true = omega arith
placed N P false = omega arith

bit_more : (f : ℕ → ℕ → ℕ) (g : Bool → Bool → Bool) → ((k a b r s : ℕ) → r < 2 ^ k → s < 2 ^ k → f (a * 2 ^ k + r) (b * 2 ^ k + s) ≡ f a b * 2 ^ k + f r s)
    → ((x y : Bool) → worth (g x y) 1 ≡ f (worth x 1) (worth y 1)) → (i N M : ℕ) (x y : Bool) → N < 2 ^ i → M < 2 ^ i → f N M + worth (g x y) (2 ^ i) ≡ f (N + worth x (2 ^ i)) (M + worth y (2 ^ i))
bit_more f g block one i N M x y n m =
    placed (f N M) (2 ^ i) (g x y) ∙ (ap (λ z. z * 2 ^ i + f N M) (one x y) ∙ (sym (block i (worth x 1) (worth y 1) N M n m)
    ∙ (ap (λ z. f z (worth y 1 * 2 ^ i + M)) (sym (placed N (2 ^ i) x)) ∙ ap (λ z. f (N + worth x (2 ^ i)) z) (sym (placed M (2 ^ i) y)))))

and_one : (x y : Bool) → worth (x && y) 1 ≡ bit_and (worth x 1) (worth y 1)
and_one true true = refl
and_one true false = refl
and_one false true = refl
and_one false false = refl

or_one : (x y : Bool) → worth (x || y) 1 ≡ bit_or (worth x 1) (worth y 1)
or_one true true = refl
or_one true false = refl
or_one false true = refl
or_one false false = refl

xor_one : (x y : Bool) → worth (is_xor x y) 1 ≡ bit_xor (worth x 1) (worth y 1)
xor_one true true = refl
xor_one true false = refl
xor_one false true = refl
xor_one false false = refl

pub bitwise_more : (op : BitOperator) (i N M : ℕ) (x y : Bool) → N < 2 ^ i → M < 2 ^ i → bitwise_number op N M + worth (bitwise_bit op x y) (2 ^ i) ≡ bitwise_number op (N + worth x (2 ^ i)) (M + worth y (2 ^ i))
bitwise_more operator.And = bit_more bit_and (λ x y. x && y) and_block and_one
bitwise_more operator.Or = bit_more bit_or (λ x y. x || y) or_block or_one
bitwise_more operator.Xor = bit_more bit_xor is_xor xor_block xor_one

pub bitwise_none : (op : BitOperator) → 0 ≡ bitwise_number op 0 0
bitwise_none operator.And = refl
bitwise_none operator.Or = refl
bitwise_none operator.Xor = refl
