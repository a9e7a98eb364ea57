-- The word of the array that the host named.
use Rattle.std.proofs.Common.{◌≡◌, ◌<◌, ◌≤◌, ℕ, zero, suc, ◌+◌, ◌-◌, ◌*◌, ◌/◌, ◌%◌, ◌^◌, List, [], ◌∷◌, ◌++◌, length, slice_get, Some, inl, inr, refl, sym, ap, ◌∙◌, subst, arith, length-append}
use Rattle.std.proofs.Math.Nat.{mod-eq_of_lt, mod-one, mod-lt, pow-le-pow_right, zero-mul, add-mul, mul_assoc, mul_comm, pow-suc}
use Rattle.std.proofs.lemmas.Bool.{cases_lt}
use Rattle.std.proofs.lemmas.Nat.{mod-pow-add}
use Rattle.rtl_core.specs.declared.design.Atom.{Atom}
use Rattle.rtl_core.specs.Netlist.{Netlist}
use Rattle.rtl_core.specs.ClockStep.{widths, seen}
use Rattle.rtl_core.specs.Valid.{HasBits}
use Rattle.rtl_logic.specs.Making.{Makes}
use Rattle.rtl_logic.proofs.Making.{appended, appends_none, appends_both, fits_later, seen_bound}
use Rattle.datapath.specs.Plans.{Plan, host_arrays, bits_of}
use Rattle.datapath.specs.Cycles.{Register, Named, Word, Cycle, Contents}
use Rattle.datapath.specs.Circuits.{width}
use Rattle.datapath.specs.CircuitWires.Carrying.{IsBegun, Carries, MakesCarrying}
use Rattle.datapath.proofs.Combining.{made_carries, moment_same, begun_after}
use Rattle.circuit_context.specs.Elements.{MakesElement}
use Rattle.circuit_context.specs.Levels.{AreWords, neighbour, IsAt, HalvesTo, IsWordAt, MakesWords, with_low, MakesLevel}
use Rattle.circuit_context.proofs.Halving.{front, back, words_behind}

-- ---- the words

-- with more bits
pub widened : (p : Plan) (names : List Register) (d e : Netlist) (n : ℕ) (of a : Atom) (value : Cycle → ℕ) → IsBegun p names d → n ≤ 64 → Carries p names d n of value
    → Makes d e 64 a (λ v x. x ≡ v of % 2 ^ 64) → MakesCarrying p names d e 64 a value
widened p names d e n of a value begun short carries made =
    made_carries p names d e 64 a (λ v x. x ≡ v of % 2 ^ 64) value begun made (λ f s pins x signals m is.
    let low : seen f s pins of < 2 ^ n = seen_bound f s pins m.sound m.state m.pins_ n of (fits_later d f m.extends n of carries.fits) in
    let wide : 2 ^ n ≤ 2 ^ 64 = pow-le-pow_right (omega arith) short in
    let below : seen f s pins of < 2 ^ 64 = omega (arith, low, wide) in
    is ∙ (mod-eq_of_lt below ∙ carries.value_ f s pins x signals m))

pub no_words : (p : Plan) (names : List Register) (d : Netlist) → IsBegun p names d → MakesWords p names d d 0 []
no_words p names d begun = record {
  appends = appends_none d;
  begun = begun;
  count = refl;
  fits = λ j a is. absurd cc;
  shows = λ f s pins x m j low. absurd (omega (arith, low));
}

pub more_words : (p : Plan) (names : List Register) (d e f : Netlist) (k : ℕ) (xs : List Atom) (a : Atom) → MakesWords p names d e k xs
    → (IsBegun p names e → MakesCarrying p names e f 64 a (λ c. c.regs (Word k 0))) → MakesWords p names d f (k + 1) (xs ++ a ∷ [])
more_words p names d e f k xs a h make =
    let made = make h.begun in
    let on = appended e f made.appends in
    record {
      appends = appends_both d e f h.appends made.appends;
      begun = made.begun;
      count = length-append xs (a ∷ []) ∙ ap (λ n. n + 1) h.count;
      fits = words_behind f xs a (λ j b is. fits_later e f on 64 b (h.fits j b is)) made.carries.fits;
      shows = λ g s pins x m j low.
          elim (cases_lt j k) [
            | inl lt ↦
                let old : IsWordAt xs j (seen g s pins) x j = h.shows g s pins x (moment_same p names e f g s pins x on m) j lt in
                let within : j < length xs = omega (arith, lt, h.count) in
                (old.0, (front xs (a ∷ []) j within ∙ old.1.0, old.1.1))
            | inr le ↦
                let same : j ≡ k = omega (arith, low, le) in
                (a, (back xs a j (same ∙ sym h.count), made.carries.value_ g s pins x (λ signal. 0) m ∙ ap (λ i. x.regs (Word i 0)) (sym same)))
          ];
    }

none_known : (x : Contents) (j : ℕ) → with_low x 0 j ≡ j
none_known x j =
    let none : x.regs Named % 1 ≡ 0 = mod-one (x.regs Named) in
    omega (arith, none)

pub all_words : (p : Plan) (names : List Register) (d e : Netlist) (k : ℕ) (xs : List Atom) → k ≡ length (host_arrays p) → MakesWords p names d e k xs → MakesLevel p names d e 0 xs
all_words p names d e k xs all h = record {
  appends = h.appends;
  begun = h.begun;
  fits = h.fits;
  shows = λ f s pins x m j low.
      let same = none_known x j in
      let old : IsWordAt xs j (seen f s pins) x j = h.shows f s pins x m j (subst (λ n. j < n) (sym all) (subst (λ i. i < length (host_arrays p)) same low)) in
      (old.0, (old.1.0, old.1.1 ∙ ap (λ i. x.regs (Word i 0)) (sym same)));
}

-- ---- one more bit

neighbour_is : (xs : List Atom) (j bit : ℕ) → bit < 2 → neighbour xs j bit ≡ slice_get xs (2 * j + bit)
neighbour_is xs j zero h = ap (slice_get xs) (omega arith)
neighbour_is xs j (suc zero) h = refl
neighbour_is xs j (suc (suc bit)) h = absurd (omega (arith, h))

-- a number with its lowest digit put into the digits below
spread : (j bit low P : ℕ) → (2 * j + bit) * P + low ≡ j * (P * 2) + (bit * P + low)
spread j bit low P =
    let whole : (2 * j + bit) * P ≡ 2 * j * P + bit * P = add-mul (2 * j) bit P in
    let twice : 2 * j * P ≡ j * (P * 2) = mul_comm (2 * j) P ∙ (sym (mul_assoc P 2 j) ∙ mul_comm (P * 2) j) in
    omega (arith, whole, twice)

pub one_more : (n j b : ℕ) → (2 * j + n / 2 ^ b % 2 ^ 1) * 2 ^ b + n % 2 ^ b ≡ j * 2 ^ (b + 1) + n % 2 ^ (b + 1)
one_more n j b =
    let turned : 1 + b ≡ b + 1 = omega arith in
    let low : n % 2 ^ (b + 1) ≡ n / 2 ^ b % 2 ^ 1 * 2 ^ b + n % 2 ^ b = subst (λ k. n % 2 ^ k ≡ n / 2 ^ b % 2 ^ 1 * 2 ^ b + n % 2 ^ b) turned (mod-pow-add n 1 b) in
    let up : suc b ≡ b + 1 = omega arith in
    let high : 2 ^ (b + 1) ≡ 2 ^ b * 2 = subst (λ k. 2 ^ k ≡ 2 ^ b * 2) up (pow-suc 2 b) in
    spread j (n / 2 ^ b % 2 ^ 1) (n % 2 ^ b) (2 ^ b) ∙ (ap (λ w. j * w + (n / 2 ^ b % 2 ^ 1 * 2 ^ b + n % 2 ^ b)) (sym high) ∙ ap (λ r. j * 2 ^ (b + 1) + r) (sym low))

pub more_known : (p : Plan) (names : List Register) (d e f g : Netlist) (n b : ℕ) (named test : Atom) (xs ys : List Atom) → Carries p names e n named (λ c. c.regs Named) → MakesLevel p names d e b xs
    → Makes e f (b + 1 - b) test (λ v x. x ≡ v named / 2 ^ b % 2 ^ (b + 1 - b)) → HalvesTo f g test xs ys → MakesLevel p names d g (b + 1) ys
more_known p names d e f g n b named test xs ys carries h made halves =
    let first = appended e f made.appends in
    let next = appended f g halves.appends in
    let one : b + 1 - b ≡ 1 = omega arith in
    record {
      appends = appends_both d f g (appends_both d e f h.appends made.appends) halves.appends;
      begun = begun_after p names f g (begun_after p names e f h.begun made.appends made.sound) halves.appends halves.sound;
      fits = halves.fits;
      shows = λ k s pins x m j low.
          let before = moment_same p names f g k s pins x next m in
          let earlier = moment_same p names e f k s pins x first before in
          let number = x.regs Named in
          let bit = number / 2 ^ b % 2 ^ 1 in
          let bit_is : seen k s pins test ≡ bit =
          made.shows.value k s pins before.extends before.sound before.state before.pins_
          ∙ (ap (λ w. w / 2 ^ b % 2 ^ (b + 1 - b)) (carries.value_ k s pins x (λ signal. 0) earlier) ∙ ap (λ w. number / 2 ^ b % 2 ^ w) one) in
          let small : bit < 2 = mod-lt (number / 2 ^ b) (omega arith) in
          let same : with_low x b (2 * j + bit) ≡ with_low x (b + 1) j = one_more number j b in
          let old : IsWordAt xs (2 * j + bit) (seen k s pins) x (with_low x b (2 * j + bit)) =
          h.shows k s pins x earlier (2 * j + bit) (subst (λ i. i < length (host_arrays p)) (sym same) low) in
          let here : neighbour xs j (seen k s pins test) ≡ Some old.0 = ap (neighbour xs j) bit_is ∙ (neighbour_is xs j bit small ∙ old.1.0) in
          let left : IsAt ys j (seen k s pins) old.0 = halves.shows k s pins m.extends m.sound m.state m.pins_ j old.0 here in
          (left.0, (left.1.0, left.1.1 ∙ (old.1.1 ∙ ap (λ i. x.regs (Word i 0)) same)));
    }

-- ---- all bits

pub element_made : (p : Plan) (names : List Register) (d e : Netlist) (b : ℕ) (xs : List Atom) (a : Atom) → width p Named ≡ b → MakesLevel p names d e b xs
    → ((c : Atom) → slice_get xs 0 ≡ Some c → a ≡ c) → ((g : Netlist) → AreWords g xs → HasBits (widths g) 64 a) → MakesElement p names d e a
element_made p names d e b xs a wide h first fits = record {
  appends = h.appends;
  begun = h.begun;
  fits = fits e h.fits;
  shows = λ f s pins x m low.
      let number = x.regs Named in
      let below : number < 2 ^ b = subst (λ n. number < 2 ^ n) wide (m.holds.fit Named) in
      let none : 0 * 2 ^ b ≡ 0 = zero-mul (2 ^ b) in
      let small : number % 2 ^ b ≡ number = mod-eq_of_lt below in
      let same : with_low x b 0 ≡ number = omega (arith, none, small) in
      let found : IsWordAt xs 0 (seen f s pins) x (with_low x b 0) = h.shows f s pins x m 0 (subst (λ i. i < length (host_arrays p)) (sym same) low) in
      ap (seen f s pins) (first found.0 found.1.0) ∙ (found.1.1 ∙ ap (λ i. x.regs (Word i 0)) same);
}

-- nothing is named where the host reaches one array, or none
pub no_name : (p : Plan) (k : ℕ) → k ≡ length (host_arrays p) → k < 2 → width p Named ≡ 0
no_name p k all few =
    let none : length (host_arrays p) - 1 ≡ 0 = omega (arith, all, few) in
    ap bits_of none
