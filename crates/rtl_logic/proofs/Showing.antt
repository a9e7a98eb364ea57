-- What the atoms show that expressions are folded to.
use Rattle.std.proofs.Common.{◌≡◌, ◌<◌, ◌⊎◌, inl, inr, ℕ, ◌-◌, ◌^◌, Bool, true, false, List, slice_get, Option, Some, None, refl, sym, ap, ◌∙◌, subst, arith}
use Rattle.std.specs.Prelude.{◌==◌, bit_and, bit_or, if◌then◌else◌}
use Rattle.std.specs.Option.{option_map}
use Rattle.std.proofs.lemmas.Bool.{false≢true}
use Rattle.std.proofs.lemmas.Bool.Decides.{Decides-eqb}
use Rattle.std.proofs.lemmas.Option.{none-some, same_Some, slice_get-map}
use Rattle.rtl_core.specs.declared.design.Atom.{Atom}
use Rattle.rtl_core.specs.declared.design.Atom.TheVariants as atom
use Rattle.rtl_core.specs.declared.design.Net.TheVariants as net
use Rattle.rtl_core.specs.declared.design.Pair.TheVariants as pair
use Rattle.rtl_core.specs.declared.design.Wire.{Wire}
use Rattle.rtl_core.specs.Netlist.{Netlist}
use Rattle.rtl_core.specs.ClockStep.{State, bits_of, bit_of, widths, seen, net_value, IsState}
use Rattle.rtl_core.specs.Valid.{HasBits, IsBetween}
use Rattle.rtl_core.proofs.Stability.{Extends}
use Rattle.rtl_units.specs.Fragments.{wire_of}
use Rattle.rtl_logic.specs.Making.{IsSound, AddsWire, Always, Makes, number_in, is_same, net_in}
use Rattle.rtl_logic.proofs.Making.{made_before, fits_later, seen_bound, wire_value, adds_makes, goes_on, appended, appends_both}
use Rattle.rtl_logic.proofs.Bits.{and_zero, zero_and, and_one, one_and, and_itself, and_opposite, one_or, or_one, or_zero, zero_or, or_itself, or_opposite, equals_one, equals_zero, pick_or, pick_and, pick_and_not, pick_or_not}

-- ---- constants

pub number_seen : (e : Netlist) (s : State) (pins : List ℕ) (k : ℕ) (a : Atom) → is_same k (number_in a) ≡ true → seen e s pins a ≡ k
number_seen e s pins k (atom.Constant bits value) h = (Decides-eqb value k).0 h
number_seen e s pins k (atom.Input n) h = absurd (false≢true h)
number_seen e s pins k (atom.Reg n) h = absurd (false≢true h)
number_seen e s pins k (atom.Wire n) h = absurd (false≢true h)

-- ---- an atom that is there

pub there : (d : Netlist) (n : ℕ) (a : Atom) (P : (Atom → ℕ) → ℕ → Type 0) → IsSound d → HasBits (widths d) n a → Always d (λ v. P v (v a)) → Makes d d n a P
there d n a P sound h always = made_before d n a P sound (record { fits = h; value = always })

-- all atoms of a width have values of it
pub bound : (d : Netlist) (n : ℕ) (a : Atom) → HasBits (widths d) n a → Always d (λ v. v a < 2 ^ n)
bound d n a h e s pins x sound is are = seen_bound e s pins sound is are n a (fits_later d e x n a h)

-- ---- opposites

named_not : (d e : Netlist) (s : State) (pins : List ℕ) → Extends d e → IsSound e → IsState e s → (k n : ℕ) (right : Atom) → slice_get (widths d).wires k ≡ Some n
    → (x : Option Wire) → slice_get d.wires k ≡ x → option_map (λ (w : Wire). w.net) x ≡ Some (net.Not right) → seen e s pins (atom.Wire k) ≡ 2 ^ n - 1 - seen e s pins right
named_not d e s pins x sound is k n right width None at f = absurd (none-some _ f)
named_not d e s pins x sound is k n right width (Some w) at f =
    let bits : w.bits ≡ n = same_Some w.bits n (sym (slice_get-map (λ (u : Wire). u.bits) d.wires k ∙ ap (option_map (λ (u : Wire). u.bits)) at) ∙ width) in
    let value = wire_value d e s pins x sound is k w at in
    let named : w.net ≡ net.Not right = same_Some w.net (net.Not right) f in
    value ∙ ap (λ m. net_value (bits_of (widths e)) (seen e s pins) s.mems w.bits m) named ∙ ap (λ b. 2 ^ b - 1 - seen e s pins right) bits

pub opposite : (d : Netlist) (n : ℕ) (left right : Atom) → HasBits (widths d) n left → net_in d left ≡ Some (net.Not right) → Always d (λ v. v left ≡ 2 ^ n - 1 - v right)
opposite d n (atom.Constant bits value) right h f e s pins x sound is are = absurd (none-some _ f)
opposite d n (atom.Input k) right h f e s pins x sound is are = absurd (none-some _ f)
opposite d n (atom.Reg k) right h f e s pins x sound is are = absurd (none-some _ f)
opposite d n (atom.Wire k) right h f e s pins x sound is are = named_not d e s pins x sound is k n right h (slice_get d.wires k) refl f

-- ---- bits

abbrev And : Atom → Atom → (Atom → ℕ) → ℕ → Type 0
And left right v x = x ≡ bit_and (v left) (v right)

abbrev Or : Atom → Atom → (Atom → ℕ) → ℕ → Type 0
Or left right v x = x ≡ bit_or (v left) (v right)

module _ (d : Netlist) (left right : Atom) (sound : IsSound d) (l : HasBits (widths d) 1 left) (r : HasBits (widths d) 1 right) where
  is_bit : (a : Atom) → HasBits (widths d) 1 a → Always d (λ v. v a < 2)
  is_bit a h = bound d 1 a h

  pub and_left_zero : is_same 0 (number_in left) ≡ true → Makes d d 1 left (And left right)
  and_left_zero h = there d 1 left (And left right) sound l (λ e s pins x se is are.
      let v = seen e s pins in
      let zero : v left ≡ 0 = number_seen e s pins 0 left h in zero ∙ and_zero (v right) (is_bit right r e s pins x se is are) ∙ ap (λ m. bit_and m (v right)) (sym zero))

  pub and_right_one : is_same 1 (number_in right) ≡ true → Makes d d 1 left (And left right)
  and_right_one h = there d 1 left (And left right) sound l (λ e s pins x se is are.
      let v = seen e s pins in
      and_one (v left) (is_bit left l e s pins x se is are) ∙ ap (λ m. bit_and (v left) m) (sym (number_seen e s pins 1 right h)))

  pub and_same : left ≡ right → Makes d d 1 left (And left right)
  and_same h = there d 1 left (And left right) sound l (λ e s pins x se is are.
      let v = seen e s pins in and_itself (v left) (is_bit left l e s pins x se is are) ∙ ap (λ a. bit_and (v left) (v a)) h)

  pub and_right_zero : is_same 0 (number_in right) ≡ true → Makes d d 1 right (And left right)
  and_right_zero h = there d 1 right (And left right) sound r (λ e s pins x se is are.
      let v = seen e s pins in
      let zero : v right ≡ 0 = number_seen e s pins 0 right h in zero ∙ zero_and (v left) (is_bit left l e s pins x se is are) ∙ ap (λ m. bit_and (v left) m) (sym zero))

  pub and_left_one : is_same 1 (number_in left) ≡ true → Makes d d 1 right (And left right)
  and_left_one h = there d 1 right (And left right) sound r (λ e s pins x se is are.
      let v = seen e s pins in
      one_and (v right) (is_bit right r e s pins x se is are) ∙ ap (λ m. bit_and m (v right)) (sym (number_seen e s pins 1 left h)))

  -- one is the other one turned round
  turned : (net_in d left ≡ Some (net.Not right)) ⊎ (net_in d right ≡ Some (net.Not left)) → Always d (λ v. v left ≡ 1 - v right)
  turned (inl h) e s pins x se is are = opposite d 1 left right l h e s pins x se is are
  turned (inr h) e s pins x se is are =
      let other = opposite d 1 right left r h e s pins x se is are in let b = is_bit left l e s pins x se is are in omega (arith, other, b)

  pub and_turned : (a : Atom) → a ≡ atom.Constant 1 0 → (net_in d left ≡ Some (net.Not right)) ⊎ (net_in d right ≡ Some (net.Not left)) → Makes d d 1 a (And left right)
  and_turned a is h = subst (λ b. Makes d d 1 b (And left right)) (sym is) (there d 1 (atom.Constant 1 0) (And left right) sound (refl, (omega arith, omega arith), omega arith) (λ e s pins x se is are.
      let v = seen e s pins in and_opposite (v left) (v right) (is_bit left l e s pins x se is are) (is_bit right r e s pins x se is are) (turned h e s pins x se is are)))

  pub and_wire : (e : Netlist) (a : Atom) → AddsWire d e (wire_of 1 (net.Two pair.And left right)) a → Makes d e 1 a (And left right)
  and_wire e a adds = adds_makes d e 1 (net.Two pair.And left right) a (And left right) sound (omega arith, omega arith) (l, r) adds (λ f s pins x se is are. refl)

  pub or_left_one : is_same 1 (number_in left) ≡ true → Makes d d 1 left (Or left right)
  or_left_one h = there d 1 left (Or left right) sound l (λ e s pins x se is are.
      let v = seen e s pins in
      let one : v left ≡ 1 = number_seen e s pins 1 left h in one ∙ one_or (v right) (is_bit right r e s pins x se is are) ∙ ap (λ m. bit_or m (v right)) (sym one))

  pub or_right_zero : is_same 0 (number_in right) ≡ true → Makes d d 1 left (Or left right)
  or_right_zero h = there d 1 left (Or left right) sound l (λ e s pins x se is are.
      let v = seen e s pins in
      or_zero (v left) (is_bit left l e s pins x se is are) ∙ ap (λ m. bit_or (v left) m) (sym (number_seen e s pins 0 right h)))

  pub or_same : left ≡ right → Makes d d 1 left (Or left right)
  or_same h = there d 1 left (Or left right) sound l (λ e s pins x se is are.
      let v = seen e s pins in or_itself (v left) (is_bit left l e s pins x se is are) ∙ ap (λ a. bit_or (v left) (v a)) h)

  pub or_right_one : is_same 1 (number_in right) ≡ true → Makes d d 1 right (Or left right)
  or_right_one h = there d 1 right (Or left right) sound r (λ e s pins x se is are.
      let v = seen e s pins in
      let one : v right ≡ 1 = number_seen e s pins 1 right h in one ∙ or_one (v left) (is_bit left l e s pins x se is are) ∙ ap (λ m. bit_or (v left) m) (sym one))

  pub or_left_zero : is_same 0 (number_in left) ≡ true → Makes d d 1 right (Or left right)
  or_left_zero h = there d 1 right (Or left right) sound r (λ e s pins x se is are.
      let v = seen e s pins in
      zero_or (v right) (is_bit right r e s pins x se is are) ∙ ap (λ m. bit_or m (v right)) (sym (number_seen e s pins 0 left h)))

  pub or_turned : (a : Atom) → a ≡ atom.Constant 1 1 → (net_in d left ≡ Some (net.Not right)) ⊎ (net_in d right ≡ Some (net.Not left)) → Makes d d 1 a (Or left right)
  or_turned a is h = subst (λ b. Makes d d 1 b (Or left right)) (sym is) (there d 1 (atom.Constant 1 1) (Or left right) sound (refl, (omega arith, omega arith), omega arith) (λ e s pins x se is are.
      let v = seen e s pins in or_opposite (v left) (v right) (is_bit left l e s pins x se is are) (is_bit right r e s pins x se is are) (turned h e s pins x se is are)))

  pub or_wire : (e : Netlist) (a : Atom) → AddsWire d e (wire_of 1 (net.Two pair.Or left right)) a → Makes d e 1 a (Or left right)
  or_wire e a adds = adds_makes d e 1 (net.Two pair.Or left right) a (Or left right) sound (omega arith, omega arith) (l, r) adds (λ f s pins x se is are. refl)

-- ---- equal bits, and choices

abbrev Equal : Atom → Atom → (Atom → ℕ) → ℕ → Type 0
Equal left right v x = x ≡ bit_of (v left == v right)

abbrev Picked : Atom → Atom → Atom → (Atom → ℕ) → ℕ → Type 0
Picked test one other v x = x ≡ (if v test == 1 then v one else v other)

-- what is shown as one statement is shown as another that follows from it
pub follows : (d e : Netlist) (n : ℕ) (a : Atom) (P Q : (Atom → ℕ) → ℕ → Type 0) → Extends d e → ((x : ℕ) → Always d (λ v. P v x → Q v x)) → Makes d e n a P → Makes d e n a Q
follows d e n a P Q x turn made = record {
  appends = made.appends;
  sound = made.sound;
  shows = record { fits = made.shows.fits; value = λ f s pins y se is are. turn (seen f s pins a) f s pins (goes_on d e f x y) se is are (made.shows.value f s pins y se is are) };
}

pub follows_here : (d e : Netlist) (n : ℕ) (a : Atom) (P Q : (Atom → ℕ) → ℕ → Type 0) → ((x : ℕ) → Always d (λ v. P v x → Q v x)) → Makes d e n a P → Makes d e n a Q
follows_here d e n a P Q turn made = follows d e n a P Q (appended d e made.appends) turn made

same_number : (n : ℕ) → (n == n) ≡ true
same_number n = (Decides-eqb n n).1 refl

module _ (d : Netlist) (left right : Atom) (sound : IsSound d) where
  pub equal_same : left ≡ right → Makes d d 1 (atom.Constant 1 1) (Equal left right)
  equal_same h = there d 1 (atom.Constant 1 1) (Equal left right) sound (refl, (omega arith, omega arith), omega arith) (λ e s pins x se is are.
      let v = seen e s pins in sym (ap bit_of (ap (λ a. v left == v a) (sym h) ∙ same_number (v left))))

  pub equal_one : HasBits (widths d) 1 left → is_same 1 (number_in right) ≡ true → Makes d d 1 left (Equal left right)
  equal_one l h = there d 1 left (Equal left right) sound l (λ e s pins x se is are.
      let v = seen e s pins in
      equals_one (v left) (bound d 1 left l e s pins x se is are) ∙ ap (λ m. bit_of (v left == m)) (sym (number_seen e s pins 1 right h)))

  pub equal_zero : (e : Netlist) (a : Atom) → HasBits (widths d) 1 left → is_same 0 (number_in right) ≡ true → Makes d e 1 a (λ v x. x ≡ 2 ^ 1 - 1 - v left) → Makes d e 1 a (Equal left right)
  equal_zero e a l h made = follows_here d e 1 a (λ v x. x ≡ 2 ^ 1 - 1 - v left) (Equal left right) (λ y f s pins x se is are k.
      let v = seen f s pins in
      k ∙ equals_zero (v left) (bound d 1 left l f s pins x se is are) ∙ ap (λ m. bit_of (v left == m)) (sym (number_seen f s pins 0 right h))) made

picked_one : (t x y : ℕ) → t ≡ 1 → x ≡ (if t == 1 then x else y)
picked_one t x y e = sym (ap (λ m. if m == 1 then x else y) e)

picked_other : (t x y : ℕ) → t ≡ 0 → y ≡ (if t == 1 then x else y)
picked_other t x y e = sym (ap (λ m. if m == 1 then x else y) e)

picked_same : (b : Bool) (x : ℕ) → x ≡ (if b then x else x)
picked_same true x = refl
picked_same false x = refl

module _ (d : Netlist) (n : ℕ) (test one other : Atom) (sound : IsSound d) (t : HasBits (widths d) 1 test) (f : HasBits (widths d) n one) (g : HasBits (widths d) n other) where
  pub pick_test_one : is_same 1 (number_in test) ≡ true → Makes d d n one (Picked test one other)
  pick_test_one h = there d n one (Picked test one other) sound f (λ e s pins x se is are. let v = seen e s pins in picked_one (v test) (v one) (v other) (number_seen e s pins 1 test h))

  pub pick_same : one ≡ other → Makes d d n one (Picked test one other)
  pick_same h = there d n one (Picked test one other) sound f (λ e s pins x se is are.
      let v = seen e s pins in picked_same (v test == 1) (v one) ∙ ap (λ a. if v test == 1 then v one else v a) h)

  pub pick_test_zero : is_same 0 (number_in test) ≡ true → Makes d d n other (Picked test one other)
  pick_test_zero h = there d n other (Picked test one other) sound g (λ e s pins x se is are. let v = seen e s pins in picked_other (v test) (v one) (v other) (number_seen e s pins 0 test h))

  pub pick_wire : (e : Netlist) (a : Atom) → IsBetween 1 128 n → AddsWire d e (wire_of n (net.Pick test one other)) a → Makes d e n a (Picked test one other)
  pick_wire e a bits adds = adds_makes d e n (net.Pick test one other) a (Picked test one other) sound bits (t, f, g) adds (λ c s pins x se is are. refl)

module _ (d e : Netlist) (test one other a : Atom) (t : HasBits (widths d) 1 test) (f : HasBits (widths d) 1 one) (g : HasBits (widths d) 1 other) where
  pub pick_one_one : is_same 1 (number_in one) ≡ true → Makes d e 1 a (Or test other) → Makes d e 1 a (Picked test one other)
  pick_one_one h made = follows_here d e 1 a (Or test other) (Picked test one other) (λ y c s pins x se is are k.
      let v = seen c s pins in
      k ∙ pick_or (v test) (v other) (bound d 1 test t c s pins x se is are) (bound d 1 other g c s pins x se is are) ∙ ap (λ m. if v test == 1 then m else v other) (sym (number_seen c s pins 1 one h))) made

  pub pick_other_zero : is_same 0 (number_in other) ≡ true → Makes d e 1 a (And test one) → Makes d e 1 a (Picked test one other)
  pick_other_zero h made = follows_here d e 1 a (And test one) (Picked test one other) (λ y c s pins x se is are k.
      let v = seen c s pins in
      k ∙ pick_and (v test) (v one) (bound d 1 test t c s pins x se is are) (bound d 1 one f c s pins x se is are) ∙ ap (λ m. if v test == 1 then v one else m) (sym (number_seen c s pins 0 other h))) made

-- two steps, one behind the other
pub then_makes : (d e f : Netlist) (n m : ℕ) (a b : Atom) (P Q R : (Atom → ℕ) → ℕ → Type 0) → Makes d e n a P → Makes e f m b Q
    → ((x y : ℕ) → Always d (λ v. P v x → Q v y → (v a ≡ x) → R v y)) → Makes d f m b R
then_makes d e f n m a b P Q R first second turn = record {
  appends = appends_both d e f first.appends second.appends;
  sound = second.sound;
  shows = record {
    fits = second.shows.fits;
    value = λ c s pins x se is are.
        let e_c = goes_on e f c (appended e f second.appends) x in
        turn (seen c s pins a) (seen c s pins b) c s pins (goes_on d e c (appended d e first.appends) e_c) se is are (first.shows.value c s pins e_c se is are) (second.shows.value c s pins x se is are) refl;
  };
}

abbrev Turned : Atom → (Atom → ℕ) → ℕ → Type 0
Turned atom v x = x ≡ 2 ^ 1 - 1 - v atom

module _ (d e c : Netlist) (test one other against a : Atom) (t : HasBits (widths d) 1 test) (f : HasBits (widths d) 1 one) (g : HasBits (widths d) 1 other) where
  pub pick_one_zero : is_same 0 (number_in one) ≡ true → Makes d e 1 against (Turned test) → Makes e c 1 a (And against other) → Makes d c 1 a (Picked test one other)
  pick_one_zero h first second = then_makes d e c 1 1 against a (Turned test) (And against other) (Picked test one other) first second (λ x y n s pins z se is are p q r.
      let v = seen n s pins in
      q ∙ ap (λ m. bit_and m (v other)) (r ∙ p) ∙ pick_and_not (v test) (v other) (bound d 1 test t n s pins z se is are) (bound d 1 other g n s pins z se is are)
      ∙ ap (λ m. if v test == 1 then m else v other) (sym (number_seen n s pins 0 one h)))

  pub pick_other_one : is_same 1 (number_in other) ≡ true → Makes d e 1 against (Turned test) → Makes e c 1 a (Or against one) → Makes d c 1 a (Picked test one other)
  pick_other_one h first second = then_makes d e c 1 1 against a (Turned test) (Or against one) (Picked test one other) first second (λ x y n s pins z se is are p q r.
      let v = seen n s pins in
      q ∙ ap (λ m. bit_or m (v one)) (r ∙ p) ∙ pick_or_not (v test) (v one) (bound d 1 test t n s pins z se is are) (bound d 1 one f n s pins z se is are)
      ∙ ap (λ m. if v test == 1 then v one else m) (sym (number_seen n s pins 1 other h)))
