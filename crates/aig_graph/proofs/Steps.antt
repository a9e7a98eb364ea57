-- A bit more of a count or of an address.
use Rattle.std.proofs.Common.{◌≡◌, inl, inr, cond, ◌++◌, ◌+◌, ◌-◌, ◌*◌, ◌%◌, ◌^◌, ◌<◌, ◌≤◌, ℕ, Bool, true, false, List, [], ◌∷◌, length, get_or, take, refl, sym, ap, ◌∙◌, subst, arith}
use Rattle.std.specs.List.{All}
use Rattle.std.proofs.lemmas.List.{take_all, get_or_default, get_or_append_left, get_or_at}
use Rattle.std.proofs.lemmas.Bool.{cases_lt}
use Rattle.std.proofs.Math.Nat.{mul_assoc, add-mul}
use Rattle.aig_graph.specs.Graphs.{literal, values}
use Rattle.aig_graph.specs.Making.{Gates, IsSound, IsLiteral}
use Rattle.aig_graph.proofs.Growing.{goes_on, stays, literal_false}
use Rattle.aig_graph.specs.Words.{Picks, Halves, Narrows, Selects, ShiftsLeft, IsStep, AreWords, HasLength, word_at, bits, number, worth, shifted}
use Rattle.aig_graph.proofs.Numbers.{take_number, two_more}
use Rattle.aig_graph.proofs.Making.{words_more}
use Rattle.aig_graph.proofs.Totals.{picks_whole}
use Rattle.aig_graph.proofs.Shifts.{number_shifted, shift_more, choose_number, number_start}

pub shift_begins : (d : Gates) (xs counts ls : List ℕ) → ls ≡ xs → IsSound d → All (IsLiteral d) xs → ShiftsLeft d d xs counts 0 ls
shift_begins d xs counts ls e sound fits = subst (ShiftsLeft d d xs counts 0) (sym e) (record {
  extends = stays d;
  sound = sound;
  count = refl;
  fits = fits;
  value = λ f bs o len. number_start (values (false ∷ bs) f.ands) xs;
})

pub shift_goes_on : (d e f : Gates) (xs counts word now ls : List ℕ) (i step : ℕ) → ShiftsLeft d e xs counts i word → IsStep i step → length xs ≤ 128 → i < length counts → now ≡ word
    → Picks e f (get_or counts i 0) (shifted step now) now (length now) ls → ShiftsLeft d f xs counts (i + 1) ls
shift_goes_on d e f xs counts word now ls i step inv s narrow h e_now picks =
    let p : Picks e f (get_or counts i 0) (shifted step word) word (length word) ls = subst (λ z. Picks e f (get_or counts i 0) (shifted step z) z (length z) ls) e_now picks in
    record {
      extends = goes_on d e f inv.extends p.extends;
      sound = p.sound;
      count = p.count ∙ inv.count;
      fits = p.fits;
      value = λ g bs o len.
          let w = values (false ∷ bs) g.ands in
          let t = literal w (get_or counts i 0) in
          let W = number (bits w word) in
          let N = number (bits w xs) in
          let before : W ≡ N * 2 ^ number (bits w (take i counts)) % 2 ^ length xs = inv.value g bs (goes_on e f g p.extends o) (len ∙ p.extends.given) in
          let moved : number (bits w (take (length word) (shifted step word))) ≡ W * 2 ^ step % 2 ^ length xs =
          number_shifted w step word (literal_false bs g.ands) ∙ ap (λ z. W * 2 ^ step % 2 ^ z) inv.count in
          let stayed : number (bits w (take (length word) word)) ≡ W = ap (λ z. number (bits w z)) (take_all (length word) word (omega arith)) in
          choose_number t (bits w ls) (bits w (take (length word) (shifted step word))) (bits w (take (length word) word)) (W * 2 ^ step % 2 ^ length xs) W (p.value g bs o len) moved stayed
          ∙ (shift_more t N (number (bits w (take i counts))) W (length xs) i step s narrow before ∙ ap (λ z. N * 2 ^ z % 2 ^ length xs) (sym (take_number w counts i h)));
    }

-- ---- one of many

pub narrow_begins : (d : Gates) (column : List (List ℕ)) (address : List ℕ) (n : ℕ) → IsSound d → AreWords d n column → length column ≡ 2 ^ length address → Narrows d d column address n 0 column
narrow_begins d column address n sound words count =
    let whole : length address ≡ length address - 0 = omega arith in
    record {
      extends = stays d;
      sound = sound;
      count = count ∙ ap (λ z. 2 ^ z) whole;
      words = words;
      value = λ f bs o len k h. (let here : k ≡ k * 1 + 0 = omega arith in ap (λ z. bits (values (false ∷ bs) f.ands) (word_at column z)) here);
    }

place : (k i N : ℕ) (t : Bool) → (2 * k + worth t 1) * 2 ^ i + N ≡ k * 2 ^ (i + 1) + (N + worth t (2 ^ i))
place k i N true =
    let a : (2 * k + 1) * 2 ^ i ≡ 2 * k * 2 ^ i + 1 * 2 ^ i = add-mul (2 * k) 1 (2 ^ i) in
    let b : k * 2 ^ (i + 1) ≡ k * (2 * 2 ^ i) = ap (λ z. k * z) (two_more i) in
    let e : k * (2 * 2 ^ i) ≡ k * 2 * 2 ^ i = sym (mul_assoc k 2 (2 ^ i)) in
    let g : k * 2 ≡ 2 * k = omega arith in
    let m : k * 2 * 2 ^ i ≡ 2 * k * 2 ^ i = ap (λ z. z * 2 ^ i) g in
    let one : 1 * 2 ^ i ≡ 2 ^ i = omega arith in
    omega arith
place k i N false =
    let z : (2 * k + 0) * 2 ^ i ≡ 2 * k * 2 ^ i = ap (λ z. z * 2 ^ i) (let e : 2 * k + 0 ≡ 2 * k = omega arith in e) in
    let b : k * 2 ^ (i + 1) ≡ k * (2 * 2 ^ i) = ap (λ z. k * z) (two_more i) in
    let e : k * (2 * 2 ^ i) ≡ k * 2 * 2 ^ i = sym (mul_assoc k 2 (2 ^ i)) in
    let g : k * 2 ≡ 2 * k = omega arith in
    let m : k * 2 * 2 ^ i ≡ 2 * k * 2 ^ i = ap (λ z. z * 2 ^ i) g in
    omega arith

half_place : (t : Bool) (k n m : ℕ) → m ≡ 2 * n → k < n → 2 * k + worth t 1 < m
half_place true k n m e h = omega arith
half_place false k n m e h = omega arith

-- half as many are left
pub halves_to : (address : List ℕ) (i : ℕ) → i < length address → 2 ^ (length address - i) ≡ 2 * 2 ^ (length address - (i + 1))
halves_to address i h =
    let next : length address - i ≡ length address - (i + 1) + 1 = omega arith in
    ap (λ z. 2 ^ z) next ∙ two_more (length address - (i + 1))

pub narrow_goes_on : (d e f : Gates) (column : List (List ℕ)) (address : List ℕ) (n : ℕ) (left now lss : List (List ℕ)) (i : ℕ) → Narrows d e column address n i left → i < length address → now ≡ left
    → Halves e f (get_or address i 0) now n (2 ^ (length address - (i + 1))) lss → Narrows d f column address n (i + 1) lss
narrow_goes_on d e f column address n left now lss i inv h e_now halves =
    let m = length address - (i + 1) in
    let twice = halves_to address i h in
    let p : Halves e f (get_or address i 0) left n (2 ^ m) lss = subst (λ z. Halves e f (get_or address i 0) z n (2 ^ m) lss) e_now halves in
    record {
      extends = goes_on d e f inv.extends p.extends;
      sound = p.sound;
      count = p.count;
      words = p.words;
      value = λ g bs o len k lt.
          let w = values (false ∷ bs) g.ands in
          let t = literal w (get_or address i 0) in
          let j = 2 * k + worth t 1 in
          let there : j < 2 ^ (length address - i) = half_place t k (2 ^ m) (2 ^ (length address - i)) twice lt in
          let before = inv.value g bs (goes_on e f g p.extends o) (len ∙ p.extends.given) j there in
          p.value g bs o len k lt ∙ (before
          ∙ ap (λ z. bits w (word_at column z)) (place k i (number (bits w (take i address))) t ∙ ap (λ z. k * 2 ^ (i + 1) + z) (sym (take_number w address i h))));
    }

pub narrow_ends : (d e : Gates) (column : List (List ℕ)) (address : List ℕ) (n : ℕ) (left : List (List ℕ)) (i : ℕ) (ls x : List ℕ) → Narrows d e column address n i left → length address ≤ i → i ≤ length address → ls ≡ get_or left 0 x
    → Selects d e column address n ls
narrow_ends d e column address n left i ls x inv end within read =
    let none : length address - i ≡ 0 = omega arith in
    let one : 2 ^ (length address - i) ≡ 1 = ap (λ z. 2 ^ z) none in
    let some : 0 < length left = (let c = inv.count in omega arith) in
    subst (Selects d e column address n) (sym (read ∙ get_or_default left 0 x [] some)) (record {
      extends = inv.extends;
      sound = inv.sound;
      count = inv.words.wide 0 [] some;
      fits = inv.words.fits 0 [] some;
      value = λ f bs o len.
          let w = values (false ∷ bs) f.ands in
          let first : 0 < 2 ^ (length address - i) = omega arith in
          inv.value f bs o len 0 first
          ∙ ap (λ z. bits w (word_at column z))
          ((let zero : 0 * 2 ^ i + number (bits w (take i address)) ≡ number (bits w (take i address)) = omega arith in zero)
          ∙ ap (λ z. number (bits w z)) (take_all i address end));
    })

at_one : (f : ℕ → List Bool) (t : Bool) (k : ℕ) → cond t (f (2 * k + 1)) (f (2 * k)) ≡ f (2 * k + worth t 1)
at_one f true k = refl
at_one f false k = ap f (let e : 2 * k ≡ 2 * k + 0 = omega arith in e)

-- a word more of those at even places, or at odd ones
pub halve_more : (d e f : Gates) (column lss mss : List (List ℕ)) (test i n : ℕ) (odd even ls o v : List ℕ) → Halves d e test column n i lss → All (HasLength n) column → 2 * i + 1 < length column
    → odd ≡ o → o ≡ get_or column (2 * i + 1) o → even ≡ v → v ≡ get_or column (2 * i) v → mss ≡ lss ++ ls ∷ [] → Picks e f test odd even (length odd) ls → Halves d f test column n (i + 1) mss
halve_more d e f column lss mss test i n odd even ls o v inv all h odd_is o_is even_is v_is is p =
    let less : 2 * i < length column = omega arith in
    let O = word_at column (2 * i + 1) in
    let E = word_at column (2 * i) in
    let odd_at : odd ≡ O = odd_is ∙ (o_is ∙ get_or_default column (2 * i + 1) o [] h) in
    let even_at : even ≡ E = even_is ∙ (v_is ∙ get_or_default column (2 * i) v [] less) in
    let wide : length O ≡ n = all (2 * i + 1) [] h in
    let long : length odd ≡ n = ap length odd_at ∙ wide in
    let q : Picks e f test O E n ls = subst (λ z. Picks e f test O z n ls) even_at (subst (λ z. Picks e f test z even n ls) odd_at (subst (λ z. Picks e f test odd even z ls) long p)) in
    words_more d e f lss mss ls i n _ _ _ inv is (picks_whole e f test O E ls n wide (all (2 * i) [] less) q)
    (λ w c a b k lt. elim (cases_lt k i) [
      | inl before ↦ (ap (bits w) (get_or_append_left lss (ls ∷ []) [] k (subst (λ z. k < z) (sym inv.count) before)) ∙ a k before)
      | inr after ↦
          let here : k ≡ i = omega arith in
          ap (bits w) (get_or_at lss ls [] [] k (inv.count ∙ sym here)) ∙ (b ∙ (at_one (λ j. bits w (word_at column j)) (literal w test) i ∙ ap (λ z. bits w (word_at column (2 * z + worth (literal w test) 1))) (sym here)))
    ])
