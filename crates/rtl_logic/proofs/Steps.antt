-- What the wires of an operation show, step by step.
use Rattle.std.proofs.Common.{◌≡◌, ◌≤◌, ◌<◌, ◌⊎◌, inl, inr, ◌+◌, ◌-◌, ◌*◌, ◌/◌, ◌%◌, ◌^◌, ℕ, zero, suc, Bool, true, false, List, refl, sym, ap, ◌∙◌, subst, arith}
use Rattle.std.specs.Prelude.{◌==◌, not, nat_eq, nat_le, nat_lt, int_lt, int_le, if◌then◌else◌, bit_xor}
use Rattle.std.proofs.Math.Nat.{mod-lt, zero-mod}
use Rattle.std.proofs.lemmas.Nat.{pow_pos, pow_below}
use Rattle.ir_core.specs.declared.body.Pairing.{Pairing}
use Rattle.ir_core.specs.declared.body.Simple.{Simple}
use Rattle.ir_core.specs.declared.body.Simple.TheVariants as s
use Rattle.ir_core.specs.Value.{number_of, pattern, simple, fused, shifted_right, truth}
use Rattle.rtl_core.specs.declared.design.Atom.{Atom}
use Rattle.rtl_core.specs.declared.design.Atom.TheVariants as atom
use Rattle.rtl_core.specs.declared.design.Pair.{Pair}
use Rattle.rtl_core.specs.declared.design.Pair.TheVariants as pair
use Rattle.rtl_core.specs.Netlist.{Netlist}
use Rattle.rtl_core.specs.ClockStep.{State, bit_of, pair_value, widths, seen}
use Rattle.rtl_core.specs.Valid.{HasBits, OperandsFit, IsBetween}
use Rattle.rtl_logic.specs.Making.{IsSound, Makes, Shows}
use Rattle.rtl_logic.proofs.Showing.{there, bound, follows_here, then_makes}
use Rattle.rtl_logic.specs.Arguments.{pair_of, IsTakenFrom}
use Rattle.rtl_logic.proofs.Patterns.{simple_is, low_bits, unsigned_bits}
use Rattle.rtl_logic.proofs.Signs.{top_is, all_ones, widened_is}
use Rattle.rtl_logic.proofs.Shifting.{kept_right, turned_right, filled_right, joined_right, right_positive}
use Rattle.rtl_logic.proofs.Comparing.{bit_not, below_signed, below_unsigned, not_above}

-- values of 64 bits are values of 128
pub wide : (n : ℕ) → IsBetween 1 64 n → IsBetween 1 128 n
wide n h = (h.0, omega (arith, h.1))

-- a constant has its bits
pub constant_fits : (d : Netlist) (n value : ℕ) (a : Atom) → IsBetween 1 128 n → a ≡ atom.Constant n (value % 2 ^ n) → HasBits (widths d) n a
constant_fits d n value a between is = subst (HasBits (widths d) n) (sym is) (refl, between, mod-lt value (pow_pos n))

-- ---- simple operators

pub simple_fit : (kind : Simple) (n : ℕ) (A B : ℕ → Type 0) → A n → B n → OperandsFit (pair_of kind) n A B
simple_fit s.Add n A B f g = (f, g)
simple_fit s.Sub n A B f g = (f, g)
simple_fit s.And n A B f g = (f, g)
simple_fit s.Or n A B f g = (f, g)
simple_fit s.Xor n A B f g = (f, g)

abbrev Operated : Pair → ℕ → Atom → Atom → (Atom → ℕ) → ℕ → Type 0
Operated op n left right v x = x ≡ pair_value op n (v left) (v right)

abbrev Simply : Simple → ℕ → Atom → Atom → (Atom → ℕ) → ℕ → Type 0
Simply kind n left right v x = x ≡ simple kind n (v left) (v right)

pub simple_made : (d e : Netlist) (kind : Simple) (n : ℕ) (op : Pair) (left right a : Atom) → op ≡ pair_of kind → IsBetween 1 64 n → HasBits (widths d) n left → HasBits (widths d) n right
    → Makes d e n a (Operated op n left right) → Makes d e n a (Simply kind n left right)
simple_made d e kind n op left right a same between l r made = follows_here d e n a (Operated op n left right) (Simply kind n left right) (λ y c s pins x se is are k.
    let v = seen c s pins in
    k ∙ ap (λ o. pair_value o n (v left) (v right)) same ∙ simple_is kind n (v left) (v right) between.1 (bound d n left l c s pins x se is are) (bound d n right r c s pins x se is are)) made

abbrev Fused : Pairing → ℕ → Atom → Atom → Atom → (Atom → ℕ) → ℕ → Type 0
Fused pairing n first second third v x = x ≡ fused pairing n (v first) (v second) (v third)

module _ (d e c : Netlist) (pairing : Pairing) (n : ℕ) (first second third inner a : Atom) (made : Makes d e n inner (Simply pairing.first n first second)) where
  pub fused_left : pairing.left ≡ true → Makes e c n a (Simply pairing.second n inner third) → Makes d c n a (Fused pairing n first second third)
  fused_left side outer = then_makes d e c n n inner a (Simply pairing.first n first second) (Simply pairing.second n inner third) (Fused pairing n first second third) made outer (λ x y m s pins z se is are p q r.
      let v = seen m s pins in
      q ∙ ap (λ u. simple pairing.second n u (v third)) (r ∙ p)
      ∙ ap (λ b. if b then simple pairing.second n (simple pairing.first n (v first) (v second)) (v third) else simple pairing.second n (v third) (simple pairing.first n (v first) (v second))) (sym side))

  pub fused_right : pairing.left ≡ false → Makes e c n a (Simply pairing.second n third inner) → Makes d c n a (Fused pairing n first second third)
  fused_right side outer = then_makes d e c n n inner a (Simply pairing.first n first second) (Simply pairing.second n third inner) (Fused pairing n first second third) made outer (λ x y m s pins z se is are p q r.
      let v = seen m s pins in
      q ∙ ap (λ u. simple pairing.second n (v third) u) (r ∙ p)
      ∙ ap (λ b. if b then simple pairing.second n (simple pairing.first n (v first) (v second)) (v third) else simple pairing.second n (v third) (simple pairing.first n (v first) (v second))) (sym side))

-- ---- the sign

abbrev pub Sign : ℕ → Atom → (Atom → ℕ) → ℕ → Type 0
Sign n value v x = x ≡ bit_of (nat_le (2 ^ (n - 1)) (v value))

abbrev Cut : Atom → ℕ → ℕ → (Atom → ℕ) → ℕ → Type 0
Cut of high low v x = x ≡ v of / 2 ^ low % 2 ^ (high + 1 - low)

pub sign_made : (d e : Netlist) (n top : ℕ) (value a : Atom) → 1 ≤ n → top ≡ n - 1 → HasBits (widths d) n value → Makes d e (top + 1 - top) a (Cut value top top) → Makes d e 1 a (Sign n value)
sign_made d e n top value a some is fits made =
    let one : top + 1 - top ≡ 1 = omega arith in
    subst (λ k. Makes d e k a (Sign n value)) one (follows_here d e (top + 1 - top) a (Cut value top top) (Sign n value) (λ y c s pins x se st are k.
    let v = seen c s pins in
    k ∙ ap (λ m. v value / 2 ^ top % 2 ^ m) one ∙ ap (λ m. v value / 2 ^ m % 2 ^ 1) is ∙ top_is n (v value) some (bound d n value fits c s pins x se st are)) made)

-- ---- what is filled

abbrev pub Filled : ℕ → Atom → (Atom → ℕ) → ℕ → Type 0
Filled bits test v x = x ≡ (if v test == 1 then 2 ^ bits - 1 else 0)

abbrev Picked : Atom → Atom → Atom → (Atom → ℕ) → ℕ → Type 0
Picked test one other v x = x ≡ (if v test == 1 then v one else v other)

one_filled : (t : ℕ) → t < 2 → t ≡ (if t == 1 then 2 ^ 1 - 1 else 0)
one_filled zero h = refl
one_filled (suc zero) h = refl
one_filled (suc (suc t)) h = absurd (omega (arith, h))

pub filled_bit : (d : Netlist) (n : ℕ) (test : Atom) → n ≡ 1 → IsSound d → HasBits (widths d) 1 test → Makes d d n test (Filled n test)
filled_bit d n test is sound fits = subst (λ k. Makes d d k test (Filled k test)) (sym is) (there d 1 test (Filled 1 test) sound fits (λ c s pins x se st are.
    one_filled (seen c s pins test) (bound d 1 test fits c s pins x se st are)))

pub filled_made : (d e : Netlist) (n : ℕ) (test one other a : Atom) → n ≤ 128 → one ≡ atom.Constant n ((2 ^ 128 - 1) % 2 ^ n) → other ≡ atom.Constant n (0 % 2 ^ n)
    → Makes d e n a (Picked test one other) → Makes d e n a (Filled n test)
filled_made d e n test one other a most is none made = follows_here d e n a (Picked test one other) (Filled n test) (λ y c s pins x se st are k.
    let v = seen c s pins in
    k ∙ ap (λ m. if v test == 1 then m else v other) (ap v is ∙ all_ones n most) ∙ ap (λ m. if v test == 1 then 2 ^ n - 1 else m) (ap v none ∙ zero-mod (2 ^ n))) made

-- ---- other widths

abbrev Low : Atom → ℕ → (Atom → ℕ) → ℕ → Type 0
Low of bits v x = x ≡ v of % 2 ^ bits

abbrev pub Taken : Bool → ℕ → ℕ → Atom → (Atom → ℕ) → ℕ → Type 0
Taken signed bits from value v x = x ≡ pattern bits (number_of signed from (v value))

abbrev Joined : ℕ → Atom → Atom → (Atom → ℕ) → ℕ → Type 0
Joined k high low v x = x ≡ v high * 2 ^ k + v low

-- not below the width of the result
pub not_below : (bits n from : ℕ) → IsTakenFrom bits n from → bits ≤ n → bits ≤ from
not_below bits n from (inl same) h = omega (arith, same, h)
not_below bits n from (inr both) h = both.1

pub width_taken : (bits n from : ℕ) → IsTakenFrom bits n from → n < bits → n ≡ from
width_taken bits n from (inl same) h = same
width_taken bits n from (inr both) h = absurd (omega (arith, both.0, h))

pub low_made : (d e : Netlist) (signed : Bool) (bits from : ℕ) (value a : Atom) → bits ≤ 64 → (signed ≡ false) ⊎ (bits ≤ from) → Makes d e bits a (Low value bits) → Makes d e bits a (Taken signed bits from value)
low_made d e signed bits from value a h which made = follows_here d e bits a (Low value bits) (Taken signed bits from value) (λ y c s pins x se st are k. k ∙ sym (is (seen c s pins value) which)) made where
  is : (x : ℕ) → (signed ≡ false) ⊎ (bits ≤ from) → pattern bits (number_of signed from x) ≡ x % 2 ^ bits
  is x (inl none) = ap (λ b. pattern bits (number_of b from x)) none ∙ unsigned_bits bits from x h
  is x (inr less) = low_bits signed bits from x h less

pub widened_made : (d e f g : Netlist) (bits n : ℕ) (value sign high a : Atom) → IsBetween 1 64 n → n < bits → bits ≤ 64 → HasBits (widths d) n value
    → Makes d e 1 sign (Sign n value) → Makes e f (bits - n) high (Filled (bits - n) sign) → Makes f g (bits - n + n) a (Joined n high value) → Makes d g bits a (Taken true bits n value)
widened_made d e f g bits n value sign high a between less most fits first second third =
    let whole : bits - n + n ≡ bits = omega (arith, less) in
    let fill : Makes d f (bits - n) high (λ v x. x ≡ (if bit_of (nat_le (2 ^ (n - 1)) (v value)) == 1 then 2 ^ (bits - n) - 1 else 0)) =
    then_makes d e f 1 (bits - n) sign high (Sign n value) (Filled (bits - n) sign) (λ v x. x ≡ (if bit_of (nat_le (2 ^ (n - 1)) (v value)) == 1 then 2 ^ (bits - n) - 1 else 0)) first second
    (λ x y m s pins z se is are p q r. q ∙ ap (λ t. if t == 1 then 2 ^ (bits - n) - 1 else 0) (r ∙ p)) in
    subst (λ k. Makes d g k a (Taken true bits n value)) whole
    (then_makes d f g (bits - n) (bits - n + n) high a (λ v x. x ≡ (if bit_of (nat_le (2 ^ (n - 1)) (v value)) == 1 then 2 ^ (bits - n) - 1 else 0)) (Joined n high value) (Taken true bits n value) fill third
    (λ x y m s pins z se is are p q r.
    let v = seen m s pins in
    q ∙ ap (λ u. u * 2 ^ n + v value) (r ∙ p) ∙ widened_is bits n (v value) (bit_of (nat_le (2 ^ (n - 1)) (v value))) between.0 less most (bound d n value fits m s pins z se is are) refl))

-- ---- shifts

abbrev pub Shifted : ℕ → Atom → ℕ → (Atom → ℕ) → ℕ → Type 0
Shifted n value count v x = x ≡ shifted_right n (number_of true n (v value)) count

pub not_shifted : (d : Netlist) (n count : ℕ) (value : Atom) → n ≤ 64 → IsSound d → HasBits (widths d) n value → count ≡ 0 → Makes d d n value (Shifted n value count)
not_shifted d n count value h sound fits none = there d n value (Shifted n value count) sound fits (λ c s pins x se st are. kept_right n (seen c s pins value) count h (bound d n value fits c s pins x se st are) none)

module _ (d : Netlist) (n count : ℕ) (value sign : Atom) (h : n ≤ 64) (fits : HasBits (widths d) n value) (shows : Shows d 1 sign (Sign n value)) where
  pub all_shifted : (e : Netlist) (a : Atom) → n ≤ count → Makes d e n a (Filled n sign) → Makes d e n a (Shifted n value count)
  all_shifted e a past made = follows_here d e n a (Filled n sign) (Shifted n value count) (λ y c s pins x se st are k.
      let v = seen c s pins in
      k ∙ filled_right n (v value) (v sign) count h (bound d n value fits c s pins x se st are) past (shows.value c s pins x se st are)) made

  abbrev Halves : Atom → ℕ → (Atom → ℕ) → ℕ → Type 0
  Halves high rest v x = (x ≡ v value / 2 ^ count % 2 ^ rest) × (v high ≡ (if v sign == 1 then 2 ^ count - 1 else 0))

  pub some_shifted : (e f g : Netlist) (rest : ℕ) (high low a : Atom) → count ≤ n → rest ≡ n - count → Makes d e count high (Filled count sign) → Makes e f rest low (λ v x. x ≡ v value / 2 ^ count % 2 ^ rest)
      → Makes f g (count + rest) a (Joined rest high low) → Makes d g n a (Shifted n value count)
  some_shifted e f g rest high low a within is first second third =
      let whole : count + rest ≡ n = omega (arith, within, is) in
      let halves : Makes d f rest low (Halves high rest) =
      then_makes d e f count rest high low (Filled count sign) (λ v x. x ≡ v value / 2 ^ count % 2 ^ rest) (Halves high rest) first second (λ x y m s pins z se st are p q r. (q, r ∙ p)) in
      subst (λ k. Makes d g k a (Shifted n value count)) whole
      (then_makes d f g rest (count + rest) low a (Halves high rest) (Joined rest high low) (Shifted n value count) halves third (λ x y m s pins z se st are p q r.
      let v = seen m s pins in
      q ∙ ap (λ u. u * 2 ^ rest + v low) p.1 ∙ ap (λ u. (if v sign == 1 then 2 ^ count - 1 else 0) * 2 ^ rest + u) (r ∙ p.0)
      ∙ ap (λ k. (if v sign == 1 then 2 ^ count - 1 else 0) * 2 ^ k + v value / 2 ^ count % 2 ^ k) is
      ∙ joined_right n (v value) (v sign) count h (bound d n value fits m s pins z se st are) within (shows.value m s pins z se st are)))

abbrev pub ShiftedBy : Bool → ℕ → Atom → Atom → (Atom → ℕ) → ℕ → Type 0
ShiftedBy signed n value count v x = x ≡ shifted_right n (number_of signed n (v value)) (v count)

-- by a count that is known
pub known_shifted : (d e f : Netlist) (n k : ℕ) (value count sign a : Atom) → Makes d e 1 sign (Sign n value) → Makes e f n a (Shifted n value k) → ((c : Netlist) (s : State) (pins : List ℕ) → seen c s pins count ≡ k)
    → Makes d f n a (ShiftedBy true n value count)
known_shifted d e f n k value count sign a first second is = then_makes d e f 1 n sign a (Sign n value) (Shifted n value k) (ShiftedBy true n value count) first second (λ x y m s pins z se st are p q r.
    q ∙ ap (λ u. shifted_right n (number_of true n (seen m s pins value)) u) (sym (is m s pins)))

-- what the sign fills
abbrev full : ℕ → Atom → (Atom → ℕ) → ℕ
full n value v = if bit_of (nat_le (2 ^ (n - 1)) (v value)) == 1 then 2 ^ n - 1 else 0

abbrev Masked : ℕ → Atom → Atom → ((Atom → ℕ) → ℕ → ℕ) → (Atom → ℕ) → ℕ → Type 0
Masked n value mask f v x = (x ≡ f v (full n value v)) × (v mask ≡ full n value v)

module _ (d : Netlist) (n : ℕ) (value count : Atom) (h : n ≤ 64) (fits : HasBits (widths d) n value) where
  pub turned_shifted : (e f g i j : Netlist) (sign mask turned moved a : Atom) → Makes d e 1 sign (Sign n value) → Makes e f n mask (Filled n sign) → Makes f g n turned (Operated pair.Xor n value mask)
      → Makes g i n moved (Operated pair.Right n turned count) → Makes i j n a (Operated pair.Xor n moved mask) → Makes d j n a (ShiftedBy true n value count)
  turned_shifted e f g i j sign mask turned moved a first second third fourth fifth =
      let to_mask : Makes d f n mask (λ v x. x ≡ full n value v) =
      then_makes d e f 1 n sign mask (Sign n value) (Filled n sign) (λ v x. x ≡ full n value v) first second (λ x y m s pins z se st are p q r. q ∙ ap (λ t. if t == 1 then 2 ^ n - 1 else 0) (r ∙ p)) in
      let to_turned : Makes d g n turned (Masked n value mask (λ v m. bit_xor (v value) m)) =
      then_makes d f g n n mask turned (λ v x. x ≡ full n value v) (Operated pair.Xor n value mask) (Masked n value mask (λ v m. bit_xor (v value) m)) to_mask third
      (λ x y m s pins z se st are p q r. (q ∙ ap (λ u. bit_xor (seen m s pins value) u) (r ∙ p), r ∙ p)) in
      let to_moved : Makes d i n moved (Masked n value mask (λ v m. bit_xor (v value) m / 2 ^ v count)) =
      then_makes d g i n n turned moved (Masked n value mask (λ v m. bit_xor (v value) m)) (Operated pair.Right n turned count) (Masked n value mask (λ v m. bit_xor (v value) m / 2 ^ v count)) to_turned fourth
      (λ x y m s pins z se st are p q r. (q ∙ ap (λ u. u / 2 ^ seen m s pins count) (r ∙ p.0), p.1)) in
      then_makes d i j n n moved a (Masked n value mask (λ v m. bit_xor (v value) m / 2 ^ v count)) (Operated pair.Xor n moved mask) (ShiftedBy true n value count) to_moved fifth
      (λ x y m s pins z se st are p q r.
      let v = seen m s pins in
      q ∙ ap (λ u. bit_xor (v moved) u) p.1 ∙ ap (λ u. bit_xor u (full n value v)) (r ∙ p.0)
      ∙ turned_right n (v value) (bit_of (nat_le (2 ^ (n - 1)) (v value))) (v count) h (bound d n value fits m s pins z se st are) refl)

  pub moved_right : (e : Netlist) (a : Atom) → Makes d e n a (Operated pair.Right n value count) → Makes d e n a (ShiftedBy false n value count)
  moved_right e a made = follows_here d e n a (Operated pair.Right n value count) (ShiftedBy false n value count) (λ y c s pins x se st are k.
      let v = seen c s pins in k ∙ sym (right_positive n (v value) (v count) h (bound d n value fits c s pins x se st are))) made

-- ---- comparisons

abbrev pub Below : Bool → ℕ → Atom → Atom → (Atom → ℕ) → ℕ → Type 0
Below signed n left right v x = x ≡ truth (int_lt (number_of signed n (v left)) (number_of signed n (v right)))

pub below_made : (d e : Netlist) (signed : Bool) (n : ℕ) (left right a : Atom) → signed ≡ false → Makes d e 1 a (Operated pair.Below 1 left right) → Makes d e 1 a (Below signed n left right)
below_made d e signed n left right a none made = follows_here d e 1 a (Operated pair.Below 1 left right) (Below signed n left right) (λ y c s pins x se st are k.
    let v = seen c s pins in
    k ∙ below_unsigned (v left) (v right) ∙ ap (λ b. truth (int_lt (number_of b n (v left)) (number_of b n (v right)))) (sym none)) made

module _ (d : Netlist) (n : ℕ) (left right top : Atom) (between : IsBetween 1 64 n) (l : HasBits (widths d) n left) (r : HasBits (widths d) n right) (is : top ≡ atom.Constant n (2 ^ (n - 1))) where
  abbrev Sides : Atom → (Atom → ℕ) → ℕ → Type 0
  Sides one v x = (x ≡ bit_xor (v right) (2 ^ (n - 1))) × (v one ≡ bit_xor (v left) (2 ^ (n - 1)))

  pub signed_below : (e f g : Netlist) (one other a : Atom) → Makes d e n one (Operated pair.Xor n left top) → Makes e f n other (Operated pair.Xor n right top) → Makes f g 1 a (Operated pair.Below 1 one other)
      → Makes d g 1 a (Below true n left right)
  signed_below e f g one other a first second third =
      let sides : Makes d f n other (Sides one) =
      then_makes d e f n n one other (Operated pair.Xor n left top) (Operated pair.Xor n right top) (Sides one) first second (λ x y m s pins z se st are p q k.
      let v = seen m s pins in (q ∙ ap (λ u. bit_xor (v right) u) (ap v is), k ∙ p ∙ ap (λ u. bit_xor (v left) u) (ap v is))) in
      then_makes d f g n 1 other a (Sides one) (Operated pair.Below 1 one other) (Below true n left right) sides third (λ x y m s pins z se st are p q k.
      let v = seen m s pins in
      q ∙ ap (λ u. bit_of (nat_lt u (v other))) p.1 ∙ ap (λ u. bit_of (nat_lt (bit_xor (v left) (2 ^ (n - 1))) u)) (k ∙ p.0)
      ∙ below_signed n (v left) (v right) between.0 between.1 (bound d n left l m s pins z se st are) (bound d n right r m s pins z se st are))

abbrev Turned : Atom → (Atom → ℕ) → ℕ → Type 0
Turned of v x = x ≡ 2 ^ 1 - 1 - v of

pub at_most_made : (d e f : Netlist) (signed : Bool) (n : ℕ) (left right above a : Atom) → Makes d e 1 above (Below signed n right left) → Makes e f 1 a (Turned above)
    → Makes d f 1 a (λ v x. x ≡ truth (int_le (number_of signed n (v left)) (number_of signed n (v right))))
at_most_made d e f signed n left right above a first second =
    then_makes d e f 1 1 above a (Below signed n right left) (Turned above) (λ v x. x ≡ truth (int_le (number_of signed n (v left)) (number_of signed n (v right)))) first second (λ x y m s pins z se st are p q r.
    let v = seen m s pins in q ∙ ap (λ u. 2 ^ 1 - 1 - u) (r ∙ p) ∙ not_above (number_of signed n (v left)) (number_of signed n (v right)))

pub differs_made : (d e f : Netlist) (left right same a : Atom) → Makes d e 1 same (λ v x. x ≡ bit_of (v left == v right)) → Makes e f 1 a (Turned same) → Makes d f 1 a (λ v x. x ≡ truth (not (nat_eq (v left) (v right))))
differs_made d e f left right same a first second =
    then_makes d e f 1 1 same a (λ v x. x ≡ bit_of (v left == v right)) (Turned same) (λ v x. x ≡ truth (not (nat_eq (v left) (v right)))) first second (λ x y m s pins z se st are p q r.
    let v = seen m s pins in q ∙ ap (λ u. 2 ^ 1 - 1 - u) (r ∙ p) ∙ bit_not (nat_eq (v left) (v right)))

pub highest_fits : (d : Netlist) (n : ℕ) (top : Atom) → IsBetween 1 64 n → top ≡ atom.Constant n (2 ^ (n - 1)) → HasBits (widths d) n top
highest_fits d n top between is = subst (HasBits (widths d) n) (sym is) (refl, wide n between, pow_below (n - 1) n (omega (arith, between.0)))

-- a constant of another name for its width
pub constant_as : (d : Netlist) (bits n value : ℕ) (a : Atom) → bits ≡ n → IsBetween 1 128 n → a ≡ atom.Constant bits (value % 2 ^ bits) → (a ≡ atom.Constant n (value % 2 ^ n)) × HasBits (widths d) n a
constant_as d bits n value a same between is =
    let named = is ∙ ap (λ m. atom.Constant m (value % 2 ^ m)) same in (named, constant_fits d n value a between named)

pub true_made : (d e : Netlist) (n : ℕ) (value zero_ a : Atom) → zero_ ≡ atom.Constant n (0 % 2 ^ n) → Makes d e 1 a (λ v x. x ≡ truth (not (nat_eq (v value) (v zero_)))) → Makes d e 1 a (λ v x. x ≡ truth (not (nat_eq (v value) 0)))
true_made d e n value zero_ a is made = follows_here d e 1 a (λ v x. x ≡ truth (not (nat_eq (v value) (v zero_)))) (λ v x. x ≡ truth (not (nat_eq (v value) 0))) (λ y c s pins x se st are k.
    let v = seen c s pins in k ∙ ap (λ m. truth (not (nat_eq (v value) m))) (ap v is ∙ zero-mod (2 ^ n))) made
