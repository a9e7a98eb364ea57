-- Numbers of words that are moved down.
use Rattle.std.proofs.Common.{◌≡◌, ℕ, zero, suc, ◌+◌, ◌-◌, ◌*◌, ◌%◌, ◌/◌, ◌^◌, ◌<◌, ◌≤◌, inl, inr, Bool, true, false, cond, List, [], ◌∷◌, ◌++◌, length, take, drop, replicate, get_or, refl, sym, ap, ◌∙◌, subst, arith, length-append, length-drop}
use Rattle.std.specs.List.{All}
use Rattle.std.proofs.lemmas.List.{map-append, take-take, take_all, take_more, get_or-drop, get_or_append_left, get_or-append_right, get_or-replicate, length-replicate, drop-map}
use Rattle.std.proofs.lemmas.Nat.{shr-shr, shr_le}
use Rattle.std.proofs.Math.Nat.{mod-eq_of_lt, zero-div, div-eq_of_lt, pow-le-pow_right}
use Rattle.aig_graph.specs.Graphs.{literal, values}
use Rattle.aig_graph.specs.Making.{Gates, IsSound, IsLiteral}
use Rattle.aig_graph.proofs.Growing.{goes_on, stays, literal_false}
use Rattle.aig_graph.specs.Words.{number, bits, worth, lowered, IsStep, Picks, ShiftsRight}
use Rattle.aig_graph.proofs.Numbers.{bits_length, number_below, take_number}
use Rattle.aig_graph.proofs.Shifts.{number_take, map_take, map_zeros, choose_number}

pub number_drop : (c : ℕ) (bs : List Bool) → number (drop c bs) ≡ number bs / 2 ^ c
number_drop zero bs = (let e : number bs ≡ number bs / 1 = omega arith in e)
number_drop (suc c) [] = sym (zero-div (2 ^ suc c))
number_drop (suc c) (b ∷ bs) =
    let sum : 1 + c ≡ suc c = omega arith in
    number_drop c bs ∙ (ap (λ z. z / 2 ^ c) (half b (number bs)) ∙ (shr-shr (worth b 1 + 2 * number bs) 1 c ∙ ap (λ z. (worth b 1 + 2 * number bs) / 2 ^ z) sum)) where
      half : (b : Bool) (n : ℕ) → n ≡ (worth b 1 + 2 * n) / 2
      half true n = omega arith
      half false n = omega arith

number_tail : (bs : List Bool) (k : ℕ) → number (bs ++ replicate k false) ≡ number bs
number_tail [] zero = refl
number_tail [] (suc k) = (let h : number (replicate k false) ≡ 0 = number_tail [] k in omega arith)
number_tail (b ∷ bs) k = ap (λ z. worth b 1 + 2 * z) (number_tail bs k)

number_lowered : (w : List Bool) (s : ℕ) (ls : List ℕ) → literal w 0 ≡ false → number (bits w (take (length ls) (lowered s ls))) ≡ number (bits w ls) / 2 ^ s
number_lowered w s ls e =
    let n = length ls in
    let N = number (bits w ls) in
    let below : N < 2 ^ n = subst (λ z. N < 2 ^ z) (bits_length w ls) (number_below (bits w ls)) in
    let less : N / 2 ^ s ≤ N = shr_le N s in
    ap (λ z. number (bits w z)) (take-take n n (drop s ls ++ replicate n 0) (omega arith))
    ∙ (ap number (map_take (literal w) n (drop s ls ++ replicate n 0))
    ∙ (number_take n (bits w (drop s ls ++ replicate n 0))
    ∙ (ap (λ z. number z % 2 ^ n) (map-append (literal w) (drop s ls) (replicate n 0) ∙ ap (λ z. bits w (drop s ls) ++ z) (map_zeros w n e))
    ∙ (ap (λ z. z % 2 ^ n) (number_tail (bits w (drop s ls)) n ∙ (ap number (sym (drop-map (literal w) s ls)) ∙ number_drop s (bits w ls)))
    ∙ mod-eq_of_lt (let k : N / 2 ^ s < 2 ^ n = omega arith in k)))))

divided_out : (x s n : ℕ) → x < 2 ^ n → n ≤ s → x / 2 ^ s ≡ 0
divided_out x s n h k = div-eq_of_lt (let p : 2 ^ n ≤ 2 ^ s = pow-le-pow_right {n = 2} (omega arith) k in let q : x < 2 ^ s = omega arith in q)

-- a bit more of the count
lower_more : (t : Bool) (N K W n i step : ℕ) → IsStep i step → n ≤ 128 → N < 2 ^ n → W ≡ N / 2 ^ K → cond t (W / 2 ^ step) W ≡ N / 2 ^ (K + worth t (2 ^ i))
lower_more true N K W n i step (inl e) narrow below h = ap (λ z. z / 2 ^ step) h ∙ (shr-shr N K step ∙ ap (λ z. N / 2 ^ (K + z)) e)
lower_more true N K W n i step (inr far) narrow below h =
    let large : 128 ≤ 2 ^ i = far.1 in
    let long : step ≡ 128 = far.0 in
    ap (λ z. z / 2 ^ step) h ∙ (shr-shr N K step ∙ (divided_out N (K + step) n below (omega arith) ∙ sym (divided_out N (K + 2 ^ i) n below (omega arith))))
lower_more false N K W n i step s narrow below h = h ∙ ap (λ z. N / 2 ^ z) (let e : K ≡ K + 0 = omega arith in e)

pub lower_begins : (d : Gates) (xs counts ls : List ℕ) → ls ≡ xs → IsSound d → All (IsLiteral d) xs → ShiftsRight d d xs counts 0 ls
lower_begins d xs counts ls e sound fits = subst (ShiftsRight d d xs counts 0) (sym e) (record {
  extends = stays d;
  sound = sound;
  count = refl;
  fits = fits;
  value = λ f bs o len. (let N = number (bits (values (false ∷ bs) f.ands) xs) in let q : N ≡ N / 1 = omega arith in q);
})

pub lower_goes_on : (d e f : Gates) (xs counts word now ls : List ℕ) (i step : ℕ) → ShiftsRight d e xs counts i word → IsStep i step → length xs ≤ 128 → i < length counts → now ≡ word
    → Picks e f (get_or counts i 0) (lowered step now) now (length now) ls → ShiftsRight d f xs counts (i + 1) ls
lower_goes_on d e f xs counts word now ls i step inv s narrow h e_now picks =
    let p : Picks e f (get_or counts i 0) (lowered step word) word (length word) ls = subst (λ z. Picks e f (get_or counts i 0) (lowered step z) z (length z) ls) e_now picks in
    record {
      extends = goes_on d e f inv.extends p.extends;
      sound = p.sound;
      count = p.count ∙ inv.count;
      fits = p.fits;
      value = λ g bs o len.
          let w = values (false ∷ bs) g.ands in
          let t = literal w (get_or counts i 0) in
          let W = number (bits w word) in
          let N = number (bits w xs) in
          let below : N < 2 ^ length xs = subst (λ z. N < 2 ^ z) (bits_length w xs) (number_below (bits w xs)) in
          let before : W ≡ N / 2 ^ number (bits w (take i counts)) = inv.value g bs (goes_on e f g p.extends o) (len ∙ p.extends.given) in
          let moved : number (bits w (take (length word) (lowered step word))) ≡ W / 2 ^ step = number_lowered w step word (literal_false bs g.ands) in
          let stayed : number (bits w (take (length word) word)) ≡ W = ap (λ z. number (bits w z)) (take_all (length word) word (omega arith)) in
          choose_number t (bits w ls) (bits w (take (length word) (lowered step word))) (bits w (take (length word) word)) (W / 2 ^ step) W (p.value g bs o len) moved stayed
          ∙ (lower_more t N (number (bits w (take i counts))) W (length xs) i step s narrow below before ∙ ap (λ z. N / 2 ^ z) (sym (take_number w counts i h)));
    }

-- a literal more of a word that is moved down
pub lowered_more : (xs before after : List ℕ) (count i v : ℕ) → i < length xs → before ≡ take i (drop count xs ++ replicate (length xs) 0) → after ≡ before ++ v ∷ []
    → v ≡ get_or (drop count xs ++ replicate (length xs) 0) i 0 → after ≡ take (i + 1) (drop count xs ++ replicate (length xs) 0)
lowered_more xs before after count i v h inv e is =
    let whole = drop count xs ++ replicate (length xs) 0 in
    let long : i < length whole = omega (arith, length-append (drop count xs) (replicate (length xs) 0), length-replicate {A = ℕ} (length xs) 0) in
    e ∙ (ap (λ z. z ++ v ∷ []) inv ∙ (ap (λ z. take i whole ++ z ∷ []) is ∙ sym (take_more whole i 0 long)))

pub lowered_inside : (xs : List ℕ) (count i v : ℕ) → count < length xs - i → v ≡ get_or xs (i + count) 0 → v ≡ get_or (drop count xs ++ replicate (length xs) 0) i 0
lowered_inside xs count i v h e =
    let there : i < length (drop count xs) = omega (arith, length-drop count xs) in
    let same : i + count ≡ count + i = omega arith in
    e ∙ (ap (λ z. get_or xs z 0) same ∙ (sym (get_or-drop count xs i 0) ∙ sym (get_or_append_left (drop count xs) (replicate (length xs) 0) 0 i there)))

pub lowered_outside : (xs : List ℕ) (count i : ℕ) → i < length xs → length xs - i ≤ count → 0 ≡ get_or (drop count xs ++ replicate (length xs) 0) i 0
lowered_outside xs count i h k =
    let m = length (drop count xs) in
    let past : m ≤ i = omega (arith, length-drop count xs) in
    let left : i - m < length xs = omega arith in
    sym (get_or-append_right (drop count xs) (replicate (length xs) 0) m i 0 refl past ∙ get_or-replicate (length xs) (i - m) 0 0 left)
