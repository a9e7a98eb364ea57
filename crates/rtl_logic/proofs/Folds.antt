-- What numbers, operators on numbers, parts and joins show.
use Rattle.std.proofs.Common.{◌≡◌, ◌<◌, ◌≤◌, ℕ, ◌+◌, ◌-◌, ◌*◌, ◌/◌, ◌%◌, ◌^◌, true, List, slice_get, Option, Some, None, refl, sym, ap, ◌∙◌, subst, arith}
use Rattle.std.specs.Option.{option_map}
use Rattle.std.proofs.lemmas.Bool.{false≢true}
use Rattle.std.proofs.lemmas.Option.{none-some, same_Some, slice_get-map}
use Rattle.std.proofs.Math.Nat.{mod-lt, div-one, mul-one, zero-mul, zero-mod, add-mul-mod_self_right, mod-eq_of_lt}
use Rattle.std.specs.Int.Bits.{or_zero_l, or_zero_r, xor_zero_l, xor_zero_r}
use Rattle.std.proofs.Math.Pow.{not_mod, pow_mono}
use Rattle.std.proofs.lemmas.Nat.{pow_pos, mul-add-lt, pow-add}
use Rattle.rtl_core.specs.declared.design.Atom.{Atom}
use Rattle.rtl_core.specs.declared.design.Atom.TheVariants as atom
use Rattle.rtl_core.specs.declared.design.Net.TheVariants as net
use Rattle.rtl_core.specs.declared.design.Pair.{Pair}
use Rattle.rtl_core.specs.declared.design.Pair.TheVariants as pair
use Rattle.rtl_core.specs.declared.design.Wire.{Wire}
use Rattle.rtl_core.specs.Netlist.{Netlist}
use Rattle.rtl_core.specs.ClockStep.{State, Widths, bits_of, pair_value, widths, seen}
use Rattle.rtl_core.specs.Valid.{HasBits, OperandsFit, NetFits, IsBetween, IsConstant}
use Rattle.rtl_core.proofs.Fits.{width_is, pair_fits}
use Rattle.rtl_units.specs.Fragments.{wire_of}
use Rattle.rtl_logic.specs.Making.{IsSound, AddsWire, Makes, number_in, is_same, net_in, keeps_left, keeps_right}
use Rattle.rtl_logic.proofs.Making.{wire_fits, adds_makes, fits_later}
use Rattle.rtl_logic.proofs.Showing.{there, bound, opposite, number_seen, follows_here}
use Rattle.rtl_logic.proofs.Folding.{uncut}

-- ---- numbers

pub value_seen : (e : Netlist) (s : State) (pins : List ℕ) (k : ℕ) (a : Atom) → number_in a ≡ Some k → seen e s pins a ≡ k
value_seen e s pins k (atom.Constant bits value) h = same_Some value k h
value_seen e s pins k (atom.Input n) h = absurd (none-some k h)
value_seen e s pins k (atom.Reg n) h = absurd (none-some k h)
value_seen e s pins k (atom.Wire n) h = absurd (none-some k h)

number_fits : (w : Widths) (n k : ℕ) (a : Atom) → number_in a ≡ Some k → HasBits w n a → k < 2 ^ n
number_fits w n k (atom.Constant bits value) e h = subst (λ v. v < 2 ^ n) (same_Some value k e) h.2
number_fits w n k (atom.Input m) e h = absurd (none-some k e)
number_fits w n k (atom.Reg m) e h = absurd (none-some k e)
number_fits w n k (atom.Wire m) e h = absurd (none-some k e)

pub no_constant : (a : Atom) → ((k : ℕ) → number_in a ≡ Some k → ⊥) → ¬ IsConstant a
no_constant (atom.Constant bits value) h c = h value refl
no_constant (atom.Input n) h c = c
no_constant (atom.Reg n) h c = c
no_constant (atom.Wire n) h c = c

-- a constant of so many bits
pub constant_made : (d : Netlist) (n value : ℕ) (a : Atom) (P : (Atom → ℕ) → ℕ → Type 0) → IsSound d → IsBetween 1 128 n → a ≡ atom.Constant n value → value < 2 ^ n
    → ((e : Netlist) (s : State) (pins : List ℕ) → P (seen e s pins) value) → Makes d d n a P
constant_made d n value a P sound bits is fits says =
    subst (λ b. Makes d d n b P) (sym is) (there d n (atom.Constant n value) P sound (refl, bits, fits) (λ e s pins x se st are. says e s pins))

-- ---- all bits turned round

pub not_number : (d : Netlist) (n bits k : ℕ) (of a : Atom) → IsSound d → IsBetween 1 128 n → HasBits (widths d) n of → number_in of ≡ Some k → bits ≡ bits_of (widths d) of
    → a ≡ atom.Constant bits ((2 ^ 128 - 1 - k) % 2 ^ bits) → Makes d d n a (λ v x. x ≡ 2 ^ n - 1 - v of)
not_number d n bits k of a sound between h e width is =
    let same : bits ≡ n = width ∙ width_is (widths d) n of h in
    let whole : 128 - n + n ≡ 128 = omega (arith, between.1) in
    let fits = number_fits (widths d) n k of e h in
    let value : (2 ^ 128 - 1 - k) % 2 ^ n ≡ 2 ^ n - 1 - k = subst (λ m. (2 ^ m - 1 - k) % 2 ^ n ≡ 2 ^ n - 1 - k) whole (not_mod (128 - n) n fits) in
    let some = pow_pos n in
    constant_made d n (2 ^ n - 1 - k) a (λ v x. x ≡ 2 ^ n - 1 - v of) sound between
    (is ∙ ap (λ m. atom.Constant m ((2 ^ 128 - 1 - k) % 2 ^ m)) same ∙ ap (λ v. atom.Constant n v) value) (omega (arith, some))
    (λ f s pins. ap (λ v. 2 ^ n - 1 - v) (sym (value_seen f s pins k of e)))

not_inner_fits : (d : Netlist) (n k : ℕ) (inner : Atom) → IsSound d → slice_get (widths d).wires k ≡ Some n → (x : Option Wire) → slice_get d.wires k ≡ x
    → option_map (λ (w : Wire). w.net) x ≡ Some (net.Not inner) → HasBits (widths d) n inner
not_inner_fits d n k inner sound width None at f = absurd (none-some _ f)
not_inner_fits d n k inner sound width (Some w) at f =
    let bits : w.bits ≡ n = same_Some w.bits n (sym (slice_get-map (λ (u : Wire). u.bits) d.wires k ∙ ap (option_map (λ (u : Wire). u.bits)) at) ∙ width) in
    let named : w.net ≡ net.Not inner = same_Some w.net (net.Not inner) f in
    subst (λ m. HasBits (widths d) m inner) bits (subst (λ e. NetFits (widths d) d.mems w.bits e) named (wire_fits d sound k w at))

inner_fits : (d : Netlist) (n : ℕ) (of inner : Atom) → IsSound d → HasBits (widths d) n of → net_in d of ≡ Some (net.Not inner) → HasBits (widths d) n inner
inner_fits d n (atom.Constant bits value) inner sound h f = absurd (none-some _ f)
inner_fits d n (atom.Input k) inner sound h f = absurd (none-some _ f)
inner_fits d n (atom.Reg k) inner sound h f = absurd (none-some _ f)
inner_fits d n (atom.Wire k) inner sound h f = not_inner_fits d n k inner sound h (slice_get d.wires k) refl f

pub not_twice : (d : Netlist) (n : ℕ) (of inner : Atom) → IsSound d → HasBits (widths d) n of → net_in d of ≡ Some (net.Not inner) → Makes d d n inner (λ v x. x ≡ 2 ^ n - 1 - v of)
not_twice d n of inner sound h f =
    let fits = inner_fits d n of inner sound h f in
    there d n inner (λ v x. x ≡ 2 ^ n - 1 - v of) sound fits (λ e s pins x se is are.
    let turned = opposite d n of inner h f e s pins x se is are in let lt = bound d n inner fits e s pins x se is are in omega (arith, turned, lt))

pub not_wire : (d e : Netlist) (n bits : ℕ) (of a : Atom) → IsSound d → IsBetween 1 128 n → HasBits (widths d) n of → bits ≡ bits_of (widths d) of → AddsWire d e (wire_of bits (net.Not of)) a
    → Makes d e n a (λ v x. x ≡ 2 ^ n - 1 - v of)
not_wire d e n bits of a sound between h width adds =
    let same : bits ≡ n = width ∙ width_is (widths d) n of h in
    adds_makes d e n (net.Not of) a (λ v x. x ≡ 2 ^ n - 1 - v of) sound between h (subst (λ m. AddsWire d e (wire_of m (net.Not of)) a) same adds) (λ f s pins x se is are. refl)

-- ---- operators

pub operands_as : (op : Pair) (n : ℕ) (A B A2 B2 : ℕ → Type 0) → ((m : ℕ) → A m → A2 m) → ((m : ℕ) → B m → B2 m) → OperandsFit op n A B → OperandsFit op n A2 B2
operands_as pair.Add n A B A2 B2 f g h = (f n h.0, g n h.1)
operands_as pair.Sub n A B A2 B2 f g h = (f n h.0, g n h.1)
operands_as pair.Mul n A B A2 B2 f g h = (f n h.0, g n h.1)
operands_as pair.And n A B A2 B2 f g h = (f n h.0, g n h.1)
operands_as pair.Or n A B A2 B2 f g h = (f n h.0, g n h.1)
operands_as pair.Xor n A B A2 B2 f g h = (f n h.0, g n h.1)
operands_as pair.Equal n A B A2 B2 f g h = (h.0, (h.1.0, f h.1.0 h.1.1, g h.1.0 h.1.2))
operands_as pair.Below n A B A2 B2 f g h = (h.0, (h.1.0, f h.1.0 h.1.1, g h.1.0 h.1.2))
operands_as pair.Left n A B A2 B2 f g h = (f n h.0, (h.1.0, g h.1.0 h.1.1))
operands_as pair.Right n A B A2 B2 f g h = (f n h.0, (h.1.0, g h.1.0 h.1.1))

subtract_none : (n x : ℕ) → x < 2 ^ n → (x + (2 ^ n - 0)) % 2 ^ n ≡ x
subtract_none n x h =
    let once : x + (2 ^ n - 0) ≡ x + 1 * 2 ^ n = omega arith in ap (λ m. m % 2 ^ n) once ∙ add-mul-mod_self_right x 1 (2 ^ n) ∙ uncut n x h

-- x, and 0 on its right
right_zero : (op : Pair) (n x : ℕ) → keeps_left op ≡ true → x < 2 ^ n → x ≡ pair_value op n x 0
right_zero pair.Add n x k h = let none : x + 0 ≡ x = omega arith in sym (ap (λ m. m % 2 ^ n) none ∙ uncut n x h)
right_zero pair.Sub n x k h = sym (subtract_none n x h)
right_zero pair.Or n x k h = sym (or_zero_r x)
right_zero pair.Xor n x k h = sym (xor_zero_r x)
right_zero pair.Left n x k h = sym (ap (λ m. m % 2 ^ n) (mul-one x) ∙ uncut n x h)
right_zero pair.Right n x k h = sym (div-one x)
right_zero pair.Mul n x k h = absurd (false≢true k)
right_zero pair.And n x k h = absurd (false≢true k)
right_zero pair.Equal n x k h = absurd (false≢true k)
right_zero pair.Below n x k h = absurd (false≢true k)

-- 0, and y on its right
left_zero : (op : Pair) (n y : ℕ) → keeps_right op ≡ true → y < 2 ^ n → y ≡ pair_value op n 0 y
left_zero pair.Add n y k h = let none : 0 + y ≡ y = omega arith in sym (ap (λ m. m % 2 ^ n) none ∙ uncut n y h)
left_zero pair.Or n y k h = sym (or_zero_l y)
left_zero pair.Xor n y k h = sym (xor_zero_l y)
left_zero pair.Sub n y k h = absurd (false≢true k)
left_zero pair.Mul n y k h = absurd (false≢true k)
left_zero pair.And n y k h = absurd (false≢true k)
left_zero pair.Equal n y k h = absurd (false≢true k)
left_zero pair.Below n y k h = absurd (false≢true k)
left_zero pair.Left n y k h = absurd (false≢true k)
left_zero pair.Right n y k h = absurd (false≢true k)

-- the left operand has the width of the result
left_fits : (op : Pair) (n : ℕ) (A B : ℕ → Type 0) → keeps_left op ≡ true → OperandsFit op n A B → A n
left_fits pair.Add n A B k h = h.0
left_fits pair.Sub n A B k h = h.0
left_fits pair.Or n A B k h = h.0
left_fits pair.Xor n A B k h = h.0
left_fits pair.Left n A B k h = h.0
left_fits pair.Right n A B k h = h.0
left_fits pair.Mul n A B k h = absurd (false≢true k)
left_fits pair.And n A B k h = absurd (false≢true k)
left_fits pair.Equal n A B k h = absurd (false≢true k)
left_fits pair.Below n A B k h = absurd (false≢true k)

right_fits : (op : Pair) (n : ℕ) (A B : ℕ → Type 0) → keeps_right op ≡ true → OperandsFit op n A B → B n
right_fits pair.Add n A B k h = h.1
right_fits pair.Or n A B k h = h.1
right_fits pair.Xor n A B k h = h.1
right_fits pair.Sub n A B k h = absurd (false≢true k)
right_fits pair.Mul n A B k h = absurd (false≢true k)
right_fits pair.And n A B k h = absurd (false≢true k)
right_fits pair.Equal n A B k h = absurd (false≢true k)
right_fits pair.Below n A B k h = absurd (false≢true k)
right_fits pair.Left n A B k h = absurd (false≢true k)
right_fits pair.Right n A B k h = absurd (false≢true k)

abbrev Operated : Pair → ℕ → Atom → Atom → (Atom → ℕ) → ℕ → Type 0
Operated op n left right v x = x ≡ pair_value op n (v left) (v right)

module _ (d : Netlist) (op : Pair) (n : ℕ) (left right : Atom) (sound : IsSound d) (between : IsBetween 1 128 n)
    (fit : OperandsFit op n (λ m. HasBits (widths d) m left) (λ m. HasBits (widths d) m right)) where
  -- operands that are numbers fit too
  pub numbers_fit : (x y : ℕ) → number_in left ≡ Some x → number_in right ≡ Some y → OperandsFit op n (λ m. x < 2 ^ m) (λ m. y < 2 ^ m)
  numbers_fit x y e f =
      operands_as op n (λ m. HasBits (widths d) m left) (λ m. HasBits (widths d) m right) (λ m. x < 2 ^ m) (λ m. y < 2 ^ m) (λ m h. number_fits (widths d) m x left e h) (λ m h. number_fits (widths d) m y right f h) fit

  pub two_numbers : (x y : ℕ) (a : Atom) → number_in left ≡ Some x → number_in right ≡ Some y → a ≡ atom.Constant n (pair_value op n x y) → Makes d d n a (Operated op n left right)
  two_numbers x y a e f is =
      constant_made d n (pair_value op n x y) a (Operated op n left right) sound between is
      (pair_fits op n x y (λ m. x < 2 ^ m) (λ m. y < 2 ^ m) (numbers_fit x y e f) (λ m h. h) (λ m h. h))
      (λ c s pins. ap (λ u. pair_value op n u y) (sym (value_seen c s pins x left e)) ∙ ap (λ w. pair_value op n (seen c s pins left) w) (sym (value_seen c s pins y right f)))

  pub two_right_zero : is_same 0 (number_in right) ≡ true → keeps_left op ≡ true → Makes d d n left (Operated op n left right)
  two_right_zero h k =
      let f = left_fits op n (λ m. HasBits (widths d) m left) (λ m. HasBits (widths d) m right) k fit in
      there d n left (Operated op n left right) sound f (λ c s pins x se is are.
      right_zero op n (seen c s pins left) k (bound d n left f c s pins x se is are) ∙ ap (λ u. pair_value op n (seen c s pins left) u) (sym (number_seen c s pins 0 right h)))

  pub two_left_zero : is_same 0 (number_in left) ≡ true → keeps_right op ≡ true → Makes d d n right (Operated op n left right)
  two_left_zero h k =
      let f = right_fits op n (λ m. HasBits (widths d) m left) (λ m. HasBits (widths d) m right) k fit in
      there d n right (Operated op n left right) sound f (λ c s pins x se is are.
      left_zero op n (seen c s pins right) k (bound d n right f c s pins x se is are) ∙ ap (λ u. pair_value op n u (seen c s pins right)) (sym (number_seen c s pins 0 left h)))

  pub two_wire : (e : Netlist) (a : Atom) → AddsWire d e (wire_of n (net.Two op left right)) a → Makes d e n a (Operated op n left right)
  two_wire e a adds = adds_makes d e n (net.Two op left right) a (Operated op n left right) sound between fit adds (λ c s pins x se is are. refl)

-- ---- parts

abbrev Cut : Atom → ℕ → ℕ → (Atom → ℕ) → ℕ → Type 0
Cut of high low v x = x ≡ v of / 2 ^ low % 2 ^ (high + 1 - low)

module _ (d : Netlist) (n high low bits : ℕ) (of : Atom) (sound : IsSound d) (h : HasBits (widths d) n of) (inside : high < n) (ordered : low ≤ high) (most : n ≤ 128) (size : bits ≡ high + 1 - low) where
  between : IsBetween 1 128 (high + 1 - low)
  between = (omega (arith, ordered), omega (arith, inside, most))

  pub part_number : (k rest : ℕ) (a : Atom) → number_in of ≡ Some k → rest ≡ k / 2 ^ low → a ≡ atom.Constant bits (rest % 2 ^ bits) → Makes d d (high + 1 - low) a (Cut of high low)
  part_number k rest a e r is =
      constant_made d (high + 1 - low) (k / 2 ^ low % 2 ^ (high + 1 - low)) a (Cut of high low) sound between
      (is ∙ ap (λ m. atom.Constant m (rest % 2 ^ m)) size ∙ ap (λ v. atom.Constant (high + 1 - low) (v % 2 ^ (high + 1 - low))) r) (mod-lt (k / 2 ^ low) (pow_pos (high + 1 - low)))
      (λ c s pins. ap (λ v. v / 2 ^ low % 2 ^ (high + 1 - low)) (sym (value_seen c s pins k of e)))

  pub part_whole : low ≡ 0 → bits_of (widths d) of ≡ bits → Makes d d (high + 1 - low) of (Cut of high low)
  part_whole none width =
      let same : n ≡ high + 1 - low = sym (width_is (widths d) n of h) ∙ width ∙ size in
      there d (high + 1 - low) of (Cut of high low) sound (subst (λ m. HasBits (widths d) m of) same h) (λ c s pins x se is are.
      let v = seen c s pins in
      sym (ap (λ l. v of / 2 ^ l % 2 ^ (high + 1 - low)) none ∙ ap (λ u. u % 2 ^ (high + 1 - low)) (div-one (v of)) ∙ uncut (high + 1 - low) (v of) (subst (λ m. v of < 2 ^ m) same (bound d n of h c s pins x se is are))))

  pub part_wire : (e : Netlist) (a : Atom) → ((k : ℕ) → number_in of ≡ Some k → ⊥) → AddsWire d e (wire_of bits (net.Part of high low)) a → Makes d e (high + 1 - low) a (Cut of high low)
  part_wire e a none adds =
      adds_makes d e (high + 1 - low) (net.Part of high low) a (Cut of high low) sound between (no_constant of none, (n, h, inside, ordered, omega (arith, ordered)))
      (subst (λ m. AddsWire d e (wire_of m (net.Part of high low)) a) size adds) (λ c s pins x se is are. refl)

-- ---- joins

both_fit : (m k x y : ℕ) → x < 2 ^ m → y < 2 ^ k → x * 2 ^ k + y < 2 ^ (m + k)
both_fit m k x y h l = let lt = mul-add-lt x (2 ^ k) y (2 ^ m) h l in let e = pow-add 2 m k in rw e (omega (arith, lt, e))

abbrev Joined : ℕ → Atom → Atom → (Atom → ℕ) → ℕ → Type 0
Joined k high low v x = x ≡ v high * 2 ^ k + v low

module _ (d : Netlist) (m k : ℕ) (high low : Atom) (sound : IsSound d) (h : HasBits (widths d) m high) (l : HasBits (widths d) k low) (between_both : IsBetween 1 128 (m + k)) where
  pub join_numbers : (x y bits : ℕ) (a : Atom) → number_in high ≡ Some x → number_in low ≡ Some y → bits ≡ m + k → a ≡ atom.Constant bits ((x * 2 ^ k % 2 ^ 128 + y) % 2 ^ 128 % 2 ^ bits) → Makes d d (m + k) a (Joined k high low)
  join_numbers x y bits a e f size is =
      let x_fits = number_fits (widths d) m x high e h in
      let y_fits = number_fits (widths d) k y low f l in
      let whole = both_fit m k x y x_fits y_fits in
      let room = pow_mono between_both.1 in
      let shifted : x * 2 ^ k % 2 ^ 128 ≡ x * 2 ^ k = mod-eq_of_lt (omega (arith, whole, room)) in
      let together : (x * 2 ^ k + y) % 2 ^ 128 ≡ x * 2 ^ k + y = mod-eq_of_lt (omega (arith, whole, room)) in
      constant_made d (m + k) (x * 2 ^ k + y) a (Joined k high low) sound between_both
      (is ∙ ap (λ n. atom.Constant n ((x * 2 ^ k % 2 ^ 128 + y) % 2 ^ 128 % 2 ^ n)) size
      ∙ ap (λ v. atom.Constant (m + k) v) (ap (λ u. (u + y) % 2 ^ 128 % 2 ^ (m + k)) shifted ∙ ap (λ u. u % 2 ^ (m + k)) together ∙ uncut (m + k) (x * 2 ^ k + y) whole)) whole
      (λ c s pins. ap (λ u. u * 2 ^ k + y) (sym (value_seen c s pins x high e)) ∙ ap (λ u. seen c s pins high * 2 ^ k + u) (sym (value_seen c s pins y low f)))

  pub join_wire : (e : Netlist) (bits : ℕ) (a : Atom) → bits ≡ m + k → AddsWire d e (wire_of bits (net.Join high low)) a → Makes d e (m + k) a (Joined k high low)
  join_wire e bits a size adds =
      adds_makes d e (m + k) (net.Join high low) a (Joined k high low) sound between_both (m, k, h, l, refl) (subst (λ n. AddsWire d e (wire_of n (net.Join high low)) a) size adds)
      (λ c s pins x se is are. ap (λ w. seen c s pins high * 2 ^ w + seen c s pins low) (width_is (widths c) k low (fits_later d c x k low l)))

-- ---- other widths

abbrev Low : Atom → ℕ → (Atom → ℕ) → ℕ → Type 0
Low of bits v x = x ≡ v of % 2 ^ bits

-- an atom behind zeros
pub widened : (d e : Netlist) (n bits m : ℕ) (high of a : Atom) → n < bits → HasBits (widths d) n of → m ≡ bits - n → high ≡ atom.Constant m (0 % 2 ^ m) → Makes d e (m + n) a (Joined n high of)
    → Makes d e bits a (Low of bits)
widened d e n bits m high of a less h size is made =
    let whole : m + n ≡ bits = omega (arith, size, less) in
    subst (λ k. Makes d e k a (Low of bits)) whole (follows_here d e (m + n) a (Joined n high of) (Low of bits) (λ y c s pins x se st are k.
    let v = seen c s pins in
    let none : v high ≡ 0 = ap v is ∙ zero-mod (2 ^ m) in
    let room = pow_mono {i = n} {j = bits} (omega (arith, less)) in
    let lt = bound d n of h c s pins x se st are in
    let alone : 0 + v of ≡ v of = omega arith in
    k ∙ ap (λ u. u * 2 ^ n + v of) none ∙ ap (λ u. u + v of) (zero-mul (2 ^ n)) ∙ alone ∙ sym (uncut bits (v of) (omega (arith, room, lt)))) made)

-- the low bits of an atom
pub narrowed : (d e : Netlist) (bits high : ℕ) (of a : Atom) → high + 1 - 0 ≡ bits → Makes d e (high + 1 - 0) a (Cut of high 0) → Makes d e bits a (Low of bits)
narrowed d e bits high of a size made =
    subst (λ k. Makes d e k a (Low of k)) size (follows_here d e (high + 1 - 0) a (Cut of high 0) (Low of (high + 1 - 0)) (λ y c s pins x se is are k.
    k ∙ ap (λ u. u % 2 ^ (high + 1 - 0)) (div-one (seen c s pins of))) made)

-- the zeros before it
pub zeros_fit : (d : Netlist) (bits width n : ℕ) (a : Atom) → a ≡ atom.Constant (bits - width) (0 % 2 ^ (bits - width)) → width ≡ n → n < bits → bits ≤ 128 → HasBits (widths d) (bits - n) a
zeros_fit d bits width n a is same less most =
    let some = pow_pos (bits - n) in
    subst (HasBits (widths d) (bits - n)) (sym is)
    (ap (λ w. bits - w) same, (omega (arith, less), omega (arith, most)), subst (λ k. k < 2 ^ (bits - n)) (sym (zero-mod (2 ^ (bits - width)))) (omega (arith, some)))
