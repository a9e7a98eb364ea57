-- Levels of a balanced tree of bits.
use Rattle.std.proofs.Common.{◌≡◌, ◌<◌, ◌≤◌, ◌+◌, ◌-◌, ◌*◌, ◌/◌, ◌^◌, ℕ, Bool, true, false, List, [], ◌∷◌, ◌++◌, length, take, get_or, refl, sym, ap, ap₂, ◌∙◌, subst, append_assoc, arith}
use Rattle.std.specs.Prelude.{◌==◌, ◌||◌, bit_or, slice_get}
use Rattle.std.specs.Option.{unwrap_or}
use Rattle.std.specs.List.{All}
use Rattle.std.proofs.Math.Bool.{or-false}
use Rattle.std.proofs.lemmas.List.{take_more, take_all}
use Rattle.std.proofs.lemmas.List.Elements.{All-nil, All-push, All-head, All-weaker, All-get_or}
use Rattle.std.proofs.lemmas.List.Folds.{list_any-append}
use Rattle.std.proofs.lemmas.Nat.{pow_pos, pow-add}
use Rattle.rtl_core.specs.declared.design.Atom.{Atom}
use Rattle.rtl_core.specs.declared.design.Atom.TheVariants as atom
use Rattle.rtl_core.specs.Netlist.{Netlist}
use Rattle.rtl_core.specs.ClockStep.{bit_of, widths, seen}
use Rattle.rtl_core.specs.Valid.{HasBits}
use Rattle.rtl_logic.specs.Making.{IsSound, Makes}
use Rattle.rtl_logic.specs.Choosing.{is_any, StandForBits}
use Rattle.rtl_logic.proofs.Making.{appended, appends_none, appends_both, goes_on, fits_later}
use Rattle.rtl_logic.proofs.Bits.{bit_cases}
use Rattle.rtl_logic.proofs.Showing.{bound}

-- ---- lists

-- two more elements
pub two_more : {X : Type 0} (xs : List X) (k : ℕ) (d : X) → 2 * k + 1 < length xs → take (2 * (k + 1)) xs ≡ take (2 * k) xs ++ get_or xs (2 * k) d ∷ get_or xs (2 * k + 1) d ∷ []
two_more xs k d h =
    let next : 2 * (k + 1) ≡ 2 * k + 1 + 1 = omega arith in
    let low : 2 * k < length xs = omega (arith, h) in
    ap (λ n. take n xs) next ∙ take_more xs (2 * k + 1) d h ∙ ap (λ l. l ++ get_or xs (2 * k + 1) d ∷ []) (take_more xs (2 * k) d low)
    ∙ append_assoc (take (2 * k) xs) (get_or xs (2 * k) d ∷ []) (get_or xs (2 * k + 1) d ∷ [])

-- ---- bits

pub bit_back : (b : Bool) → (bit_of b == 1) ≡ b
bit_back true = refl
bit_back false = refl

pub or_is : (x y : ℕ) → x < 2 → y < 2 → bit_or x y ≡ bit_of ((x == 1) || (y == 1))
or_is x y h k = bit_cases (λ m. bit_or m y ≡ bit_of ((m == 1) || (y == 1))) (bit_cases (λ m. bit_or 0 m ≡ bit_of (m == 1)) refl refl y k) (bit_cases (λ m. bit_or 1 m ≡ 1) refl refl y k) x h

-- ---- levels

pub bits_same : (d : Netlist) (bits : List Atom) → IsSound d → All (HasBits (widths d) 1) bits → StandForBits d d bits bits
bits_same d bits sound fits = record { appends = appends_none d; sound = sound; fits = fits; any = λ e s pins x se is are. refl }

pub bits_none : (d : Netlist) → IsSound d → StandForBits d d [] []
bits_none d sound = bits_same d [] sound (All-nil (HasBits (widths d) 1))

pub bits_over : (d e f : Netlist) (bits level above : List Atom) → StandForBits d e bits level → StandForBits e f level above → StandForBits d f bits above
bits_over d e f bits level above s t = record {
  appends = appends_both d e f s.appends t.appends;
  sound = t.sound;
  fits = t.fits;
  any = λ g p pins x se is are. t.any g p pins x se is are ∙ s.any g p pins (goes_on e f g (appended e f t.appends) x) se is are;
}

-- one bit behind them
pub bits_last : (d e : Netlist) (bits level : List Atom) (a : Atom) → StandForBits d e bits level → HasBits (widths e) 1 a → StandForBits d e (bits ++ a ∷ []) (level ++ a ∷ [])
bits_last d e bits level a s h = record {
  appends = s.appends;
  sound = s.sound;
  fits = All-push (HasBits (widths e) 1) level a s.fits h;
  any = λ g p pins x se is are.
      let v = seen g p pins in
      list_any-append (λ b. v b == 1) level (a ∷ []) ∙ ap (λ t. t || is_any v (a ∷ [])) (s.any g p pins x se is are) ∙ sym (list_any-append (λ b. v b == 1) bits (a ∷ []));
}

-- one bit for two more
pub bits_pair : (d e f : Netlist) (bits level : List Atom) (a b c : Atom) → StandForBits d e bits level → HasBits (widths e) 1 a → HasBits (widths e) 1 b
    → Makes e f 1 c (λ v x. x ≡ bit_or (v a) (v b)) → StandForBits d f (bits ++ a ∷ b ∷ []) (level ++ c ∷ [])
bits_pair d e f bits level a b c s h k m =
    let more = appended e f m.appends in
    record {
      appends = appends_both d e f s.appends m.appends;
      sound = m.sound;
      fits = All-push (HasBits (widths f) 1) level c (All-weaker (HasBits (widths e) 1) (HasBits (widths f) 1) (fits_later e f more 1) level s.fits) m.shows.fits;
      any = λ g p pins x se is are.
          let v = seen g p pins in
          let y = goes_on e f g more x in
          let one : v c ≡ bit_of ((v a == 1) || (v b == 1)) =
          m.shows.value g p pins x se is are ∙ or_is (v a) (v b) (bound e 1 a h g p pins y se is are) (bound e 1 b k g p pins y se is are) in
          let here : is_any v (c ∷ []) ≡ is_any v (a ∷ b ∷ []) =
          or-false (v c == 1) ∙ ap (λ n. n == 1) one ∙ bit_back ((v a == 1) || (v b == 1)) ∙ ap (λ t. (v a == 1) || t) (sym (or-false (v b == 1))) in
          list_any-append (λ z. v z == 1) level (c ∷ []) ∙ ap₂ (λ t u. t || u) (s.any g p pins y se is are) here ∙ sym (list_any-append (λ z. v z == 1) bits (a ∷ b ∷ []));
    }

-- at the end one bit is left, or none
pub bits_left : (d e : Netlist) (bits : List Atom) (a : Atom) → StandForBits d e bits (a ∷ []) → Makes d e 1 a (λ v x. x ≡ bit_of (is_any v bits))
bits_left d e bits a s =
    let fits : HasBits (widths e) 1 a = All-head (HasBits (widths e) 1) a [] s.fits in
    record {
      appends = s.appends;
      sound = s.sound;
      shows = record {
        fits = fits;
        value = λ g p pins x se is are.
            let v = seen g p pins in
            bit_cases (λ n. n ≡ bit_of (n == 1)) refl refl (v a) (bound e 1 a fits g p pins x se is are)
            ∙ ap bit_of (sym (or-false (v a == 1)) ∙ s.any g p pins x se is are);
      };
    }

pub bits_absent : (d e : Netlist) (bits : List Atom) → StandForBits d e bits [] → Makes d e 1 (atom.Constant 1 0) (λ v x. x ≡ bit_of (is_any v bits))
bits_absent d e bits s = record {
  appends = s.appends;
  sound = s.sound;
  shows = record { fits = (refl, (omega arith, omega arith), omega arith); value = λ g p pins x se is are. ap bit_of (s.any g p pins x se is are) };
}

-- ---- pairs of a level

-- what stands behind the end of a list
abbrev pub nothing : Atom
nothing = atom.Constant 0 0

pub bits_step : (d e f : Netlist) (level above after : List Atom) (k : ℕ) (c : Atom) → 2 * k + 1 < length level → after ≡ above ++ c ∷ [] → All (HasBits (widths d) 1) level
    → StandForBits d e (take (2 * k) level) above
    → (IsSound e → HasBits (widths e) 1 (get_or level (2 * k) nothing) → HasBits (widths e) 1 (get_or level (2 * k + 1) nothing)
    → Makes e f 1 c (λ v x. x ≡ bit_or (v (get_or level (2 * k) nothing)) (v (get_or level (2 * k + 1) nothing))))
    → StandForBits d f (take (2 * (k + 1)) level) after
bits_step d e f level above after k c h is fits s make =
    let later = fits_later d e (appended d e s.appends) 1 in
    let low : 2 * k < length level = omega (arith, h) in
    let a : Atom = get_or level (2 * k) nothing in
    let b : Atom = get_or level (2 * k + 1) nothing in
    let fit_a : HasBits (widths e) 1 a = later a (All-get_or (HasBits (widths d) 1) level (2 * k) nothing low fits) in
    let fit_b : HasBits (widths e) 1 b = later b (All-get_or (HasBits (widths d) 1) level (2 * k + 1) nothing h fits) in
    subst (StandForBits d f (take (2 * (k + 1)) level)) (sym is)
    (subst (λ l. StandForBits d f l (above ++ c ∷ [])) (sym (two_more level k nothing h)) (bits_pair d e f (take (2 * k) level) above a b c s fit_a fit_b (make s.sound fit_a fit_b)))

pub bits_odd : (d e : Netlist) (level above after : List Atom) (k j : ℕ) → 2 * k + 1 ≡ length level → j ≡ 2 * k → after ≡ above ++ get_or level j nothing ∷ [] → All (HasBits (widths d) 1) level
    → StandForBits d e (take (2 * k) level) above → StandForBits d e level after
bits_odd d e level above after k j odd at_ is fits s =
    let last : Atom = get_or level (2 * k) nothing in
    let low : 2 * k < length level = omega (arith, odd) in
    let all : take (2 * k + 1) level ≡ level = take_all (2 * k + 1) level (omega (arith, odd)) in
    let fit : HasBits (widths e) 1 last = fits_later d e (appended d e s.appends) 1 last (All-get_or (HasBits (widths d) 1) level (2 * k) nothing low fits) in
    subst (StandForBits d e level) (sym (is ∙ ap (λ m. above ++ get_or level m nothing ∷ []) at_))
    (subst (λ l. StandForBits d e l (above ++ last ∷ [])) (sym (take_more level (2 * k) nothing low) ∙ all) (bits_last d e (take (2 * k) level) above last s fit))

pub bits_even : (d e : Netlist) (level above after : List Atom) (k : ℕ) → 2 * k ≡ length level → after ≡ above → StandForBits d e (take (2 * k) level) above → StandForBits d e level after
bits_even d e level above after k even is s =
    subst (StandForBits d e level) (sym is) (subst (λ l. StandForBits d e l above) (take_all (2 * k) level (omega (arith, even))) s)

-- ---- halvings

-- half as many are at most half of what was at most there
pub halved : (i m n : ℕ) → i < 64 → n ≤ 2 ^ (64 - i) → m ≡ (n + 1) / 2 → m ≤ 2 ^ (64 - (i + 1))
halved i m n h most half =
    let left : 64 - i ≡ 64 - (i + 1) + 1 = omega (arith, h) in
    let twice : 2 ^ (64 - i) ≡ 2 ^ (64 - (i + 1)) * 2 = ap (λ k. 2 ^ k) left ∙ pow-add 2 (64 - (i + 1)) 1 in
    omega (arith, most, half, twice)

pub one_at_most : (i n : ℕ) → n ≤ 1 → n ≤ 2 ^ (64 - (i + 1))
one_at_most i n h = let some = pow_pos (64 - (i + 1)) in omega (arith, h, some)

pub bits_round : (d e f g : Netlist) (bits level here above after : List Atom) → f ≡ g → after ≡ above → here ≡ level → StandForBits d e bits level
    → (IsSound e → All (HasBits (widths e) 1) here → StandForBits e g here above) → StandForBits d f bits after
bits_round d e f g bits level here above after is same there s make =
    let made : StandForBits e g level above = subst (λ l. StandForBits e g l above) there (make s.sound (subst (All (HasBits (widths e) 1)) (sym there) s.fits)) in
    subst (λ l. StandForBits d f bits l) (sym same) (subst (λ z. StandForBits d z bits above) (sym is) (bits_over d e g bits level above s made))

pub one_left : (i n : ℕ) → 64 ≤ i → n ≤ 2 ^ (64 - i) → n ≤ 1
one_left i n h most = let none : 64 - i ≡ 0 = omega (arith, h) in subst (λ k. n ≤ 2 ^ k) none most

pub bits_stay : (d e f : Netlist) (bits level after : List Atom) → f ≡ e → after ≡ level → StandForBits d e bits level → StandForBits d f bits after
bits_stay d e f bits level after is same s = subst (StandForBits d f bits) (sym same) (subst (λ z. StandForBits d z bits level) (sym is) s)

pub bits_result : (d e : Netlist) (bits level : List Atom) (zero_ result : Atom) → length level ≤ 1 → zero_ ≡ atom.Constant 1 0 → result ≡ unwrap_or (slice_get level 0) zero_ → StandForBits d e bits level
    → Makes d e 1 result (λ v x. x ≡ bit_of (is_any v bits))
bits_result d e bits [] zero_ result h none is s = subst (λ a. Makes d e 1 a (λ v x. x ≡ bit_of (is_any v bits))) (sym (is ∙ none)) (bits_absent d e bits s)
bits_result d e bits (a ∷ []) zero_ result h none is s = subst (λ a. Makes d e 1 a (λ v x. x ≡ bit_of (is_any v bits))) (sym is) (bits_left d e bits a s)
bits_result d e bits (a ∷ b ∷ level) zero_ result h none is s = absurd (omega (arith, h))
