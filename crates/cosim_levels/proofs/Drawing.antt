-- Draws and lines one after another, counted from the front.
use Rattle.std.proofs.Common.{◌≡◌, ℕ, suc, ◌+◌, ◌-◌, ◌*◌, ◌%◌, ◌==◌, ◌<◌, List, [], ◌∷◌, ◌++◌, if◌then◌else◌, sym, ap, ◌∙◌, arith, append_assoc}
use Rattle.std.proofs.lemmas.List.{append-nil}
use Rattle.cosim_levels.specs.SoakProgram.{next, draw, behind, drawn, loop_line, loop_lines, count_products}

one_less : (count k : ℕ) → k < count → count - k ≡ suc (count - (k + 1))
one_less count k h = omega arith

pub drawn_more : (x count k : ℕ) (words more whole : List ℕ) → k < count → more ≡ words ++ draw x % 65536 ∷ [] → words ++ drawn x (count - k) ≡ whole → more ++ drawn (next x) (count - (k + 1)) ≡ whole
unfolding drawn
drawn_more x count k words more whole h e is =
    ap (λ w. w ++ drawn (next x) (count - (k + 1))) e
    ∙ (append_assoc words (draw x % 65536 ∷ []) (drawn (next x) (count - (k + 1)))
    ∙ (sym (ap (λ n. words ++ drawn x n) (one_less count k h)) ∙ is))

pub behind_more : (x count k last : ℕ) → k < count → behind x (count - k) ≡ last → behind (next x) (count - (k + 1)) ≡ last
unfolding behind
behind_more x count k last h is = sym (ap (behind x) (one_less count k h)) ∙ is

pub lines_more : (x count k : ℕ) (text more whole : List ℕ) → k < count → more ≡ text ++ loop_line (draw x % 6) (draw (next x) % 1000)
    → text ++ loop_lines x (count - k) ≡ whole → more ++ loop_lines (next (next x)) (count - (k + 1)) ≡ whole
unfolding loop_lines
lines_more x count k text more whole h e is =
    ap (λ w. w ++ loop_lines (next (next x)) (count - (k + 1))) e
    ∙ (append_assoc text (loop_line (draw x % 6) (draw (next x) % 1000)) (loop_lines (next (next x)) (count - (k + 1)))
    ∙ (sym (ap (λ n. text ++ loop_lines x n) (one_less count k h)) ∙ is))

two_less : (count k : ℕ) → k < count → (count - k) * 2 ≡ suc (suc ((count - (k + 1)) * 2))
two_less count k h = omega arith

pub behind_pair : (x count k last : ℕ) → k < count → behind x ((count - k) * 2) ≡ last → behind (next (next x)) ((count - (k + 1)) * 2) ≡ last
unfolding behind
behind_pair x count k last h is = sym (ap (behind x) (two_less count k h)) ∙ is

pub products_more : (x count k n more whole : ℕ) → k < count → more ≡ n + (if draw x % 6 == 2 then 1 else 0)
    → n + count_products x (count - k) ≡ whole → more + count_products (next (next x)) (count - (k + 1)) ≡ whole
unfolding count_products
products_more x count k n more whole h e is =
    let same : count_products x (count - k) ≡ (if draw x % 6 == 2 then 1 else 0) + count_products (next (next x)) (count - (k + 1)) = ap (count_products x) (one_less count k h) in
    omega (arith, same, e, is)

-- ---- where all are gone through

pub drawn_over : (x n : ℕ) (words whole : List ℕ) → n ≡ 0 → words ++ drawn x n ≡ whole → words ≡ whole
unfolding drawn
drawn_over x n words whole e is = sym (append-nil words) ∙ (sym (ap (λ k. words ++ drawn x k) e) ∙ is)

pub behind_over : (x n last : ℕ) → n ≡ 0 → behind x n ≡ last → x ≡ last
unfolding behind
behind_over x n last e is = sym (ap (behind x) e) ∙ is

pub lines_over : (x n : ℕ) (text whole : List ℕ) → n ≡ 0 → text ++ loop_lines x n ≡ whole → text ≡ whole
unfolding loop_lines
lines_over x n text whole e is = sym (append-nil text) ∙ (sym (ap (λ k. text ++ loop_lines x k) e) ∙ is)

pub products_over : (x n count whole : ℕ) → n ≡ 0 → count + count_products x n ≡ whole → count ≡ whole
unfolding count_products
products_over x n count whole e is =
    let none : count_products x n ≡ 0 = ap (count_products x) e in
    omega (arith, none, is)
