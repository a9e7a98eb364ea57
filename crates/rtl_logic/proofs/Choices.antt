-- Choices that stand for others, and one that stands for all.
use Rattle.std.proofs.Common.{◌≡◌, ◌<◌, ◌≤◌, ◌+◌, ◌*◌, ℕ, zero, suc, Bool, true, false, List, [], ◌∷◌, ◌++◌, map, length, take, get_or, Option, Some, None, refl, sym, ap, ap₂, ◌∙◌, subst, inl, inr, true≢false, arith}
use Rattle.std.specs.Prelude.{◌==◌, ◌||◌, bit_or, if◌then◌else◌, slice_get}
use Rattle.std.specs.List.{All, list_any, flat_map}
use Rattle.std.specs.List.Sorted.{IsPermutation}
use Rattle.std.proofs.Math.Bool.{or-false}
use Rattle.std.proofs.lemmas.Bool.{cases_Bool}
use Rattle.std.proofs.lemmas.List.{take_more, take_all, map-append, append-nil}
use Rattle.std.proofs.lemmas.List.Concat.{flat_map-cons}
use Rattle.std.proofs.lemmas.List.Elements.{All-nil, All-cons, All-push, All-head, All-tail, All-weaker, All-get_or}
use Rattle.std.proofs.lemmas.List.Folds.{list_any-append}
use Rattle.std.proofs.lemmas.List.Sorted.{All-permutation, list_any-IsPermutation, length_permutation}
use Rattle.std.proofs.lemmas.Grind.{flat_map-append}
use Rattle.std.proofs.lemmas.Nat.{pow_pos}
use Rattle.rtl_core.specs.declared.design.Atom.{Atom}
use Rattle.rtl_core.specs.declared.design.Atom.TheVariants as atom
use Rattle.rtl_core.specs.Netlist.{Netlist}
use Rattle.rtl_core.specs.ClockStep.{Widths, bit_of, widths, seen}
use Rattle.rtl_core.specs.Valid.{HasBits, IsBetween}
use Rattle.rtl_core.proofs.Stability.{Extends}
use Rattle.rtl_logic.specs.declared.select.Choice.{Choice}
use Rattle.rtl_logic.specs.declared.select.Wanted.{Wanted}
use Rattle.rtl_logic.specs.Making.{IsSound, Makes}
use Rattle.rtl_logic.specs.Choosing.{Write, is_any_wanted, AllWant, Takes, is_any, ChoiceFits, write_in, writes_in, StandForChoices, Chooses, IsChoice, choices_in, zero_for_none, IsSome}
use Rattle.rtl_logic.proofs.Making.{appended, appends_none, appends_both, goes_on, fits_later}
use Rattle.rtl_logic.proofs.Bits.{bit_cases}
use Rattle.rtl_logic.proofs.Showing.{bound}
use Rattle.rtl_logic.proofs.Trees.{two_more, bit_back, or_is}

-- ---- what lists of choices want

pub any_both : (v : Atom → ℕ) (xs ys : List Choice) → is_any_wanted (writes_in v (xs ++ ys)) ≡ (is_any_wanted (writes_in v xs) || is_any_wanted (writes_in v ys))
any_both v xs ys = ap is_any_wanted (map-append (write_in v) xs ys) ∙ list_any-append (λ w. w.wanted) (writes_in v xs) (writes_in v ys)

pub all_join : (v : Atom → ℕ) (xs ys : List Choice) (y : ℕ) → AllWant (writes_in v xs) y → AllWant (writes_in v ys) y → AllWant (writes_in v (xs ++ ys)) y
all_join v [] ys y h k = k
all_join v (c ∷ xs) ys y h k = (h.0, all_join v xs ys y h.1 k)

pub all_before : (v : Atom → ℕ) (xs ys : List Choice) (y : ℕ) → AllWant (writes_in v (xs ++ ys)) y → AllWant (writes_in v xs) y
all_before v [] ys y h = _
all_before v (c ∷ xs) ys y h = (h.0, all_before v xs ys y h.1)

pub all_behind : (v : Atom → ℕ) (xs ys : List Choice) (y : ℕ) → AllWant (writes_in v (xs ++ ys)) y → AllWant (writes_in v ys) y
all_behind v [] ys y h = h
all_behind v (c ∷ xs) ys y h = all_behind v xs ys y h.1

-- the choice wants this value, if it wants one
abbrev Wants : (Atom → ℕ) → ℕ → Choice → Type 0
Wants v y c = (v c.when == 1) ≡ true → v c.value ≡ y

each_wants : (v : Atom → ℕ) (xs : List Choice) (y : ℕ) → AllWant (writes_in v xs) y → All (Wants v y) xs
each_wants v [] y h = All-nil (Wants v y)
each_wants v (c ∷ xs) y h = All-cons (Wants v y) c xs h.0 (each_wants v xs y h.1)

all_want : (v : Atom → ℕ) (xs : List Choice) (y : ℕ) → All (Wants v y) xs → AllWant (writes_in v xs) y
all_want v [] y h = _
all_want v (c ∷ xs) y h = (All-head (Wants v y) c xs h, all_want v xs y (All-tail (Wants v y) c xs h))

any_in : (v : Atom → ℕ) (xs : List Choice) → is_any_wanted (writes_in v xs) ≡ list_any (λ (c : Choice). v c.when == 1) xs
any_in v [] = refl
any_in v (c ∷ xs) = ap (λ t. (v c.when == 1) || t) (any_in v xs)

pub any_permuted : (v : Atom → ℕ) (xs ys : List Choice) → IsPermutation xs ys → is_any_wanted (writes_in v xs) ≡ is_any_wanted (writes_in v ys)
any_permuted v xs ys p = any_in v xs ∙ list_any-IsPermutation (λ (c : Choice). v c.when == 1) xs ys p ∙ sym (any_in v ys)

pub all_permuted : (v : Atom → ℕ) (xs ys : List Choice) (y : ℕ) → IsPermutation xs ys → AllWant (writes_in v xs) y → AllWant (writes_in v ys) y
all_permuted v xs ys y p h = all_want v ys y (All-permutation (Wants v y) xs ys p (each_wants v xs y h))

-- ---- choices in place of others

pub fit_later : (d e : Netlist) → Extends d e → (n : ℕ) (cs : List Choice) → All (ChoiceFits (widths d) n) cs → All (ChoiceFits (widths e) n) cs
fit_later d e x n cs h =
    All-weaker (ChoiceFits (widths d) n) (ChoiceFits (widths e) n) (λ c f. record { when = fits_later d e x 1 c.when f.when; value = fits_later d e x n c.value f.value }) cs h

pub choices_same : (d : Netlist) (n : ℕ) (cs : List Choice) → IsSound d → All (ChoiceFits (widths d) n) cs → StandForChoices d d n cs cs
choices_same d n cs sound fits = record { appends = appends_none d; sound = sound; fits = fits; any = λ e s pins x se is are. refl; all = λ y e s pins x se is are h. h }

pub choices_none : (d : Netlist) (n : ℕ) → IsSound d → StandForChoices d d n [] []
choices_none d n sound = choices_same d n [] sound (All-nil (ChoiceFits (widths d) n))

pub choices_over : (d e f : Netlist) (n : ℕ) (cs level above : List Choice) → StandForChoices d e n cs level → StandForChoices e f n level above → StandForChoices d f n cs above
choices_over d e f n cs level above s t =
    let more = appended e f t.appends in
    record {
      appends = appends_both d e f s.appends t.appends;
      sound = t.sound;
      fits = t.fits;
      any = λ g p pins x se is are. t.any g p pins x se is are ∙ s.any g p pins (goes_on e f g more x) se is are;
      all = λ y g p pins x se is are h. t.all y g p pins x se is are (s.all y g p pins (goes_on e f g more x) se is are h);
    }

pub choices_permuted : (d e : Netlist) (n : ℕ) (cs us level : List Choice) → IsPermutation cs us → StandForChoices d e n us level → StandForChoices d e n cs level
choices_permuted d e n cs us level p s = record {
  appends = s.appends;
  sound = s.sound;
  fits = s.fits;
  any = λ g t pins x se is are. s.any g t pins x se is are ∙ sym (any_permuted (seen g t pins) cs us p);
  all = λ y g t pins x se is are h. s.all y g t pins x se is are (all_permuted (seen g t pins) cs us y p h);
}

-- one choice behind them for more
pub choices_push : (d e f : Netlist) (n : ℕ) (cs level more : List Choice) (c : Choice) → StandForChoices d e n cs level → Chooses e f n more c → StandForChoices d f n (cs ++ more) (level ++ c ∷ [])
choices_push d e f n cs level more c s k =
    let grows = appended e f k.appends in
    record {
      appends = appends_both d e f s.appends k.appends;
      sound = k.sound;
      fits = All-push (ChoiceFits (widths f) n) level c (fit_later e f grows n level s.fits) (record { when = k.when.fits; value = k.value.fits });
      any = λ g t pins x se is are.
          let v = seen g t pins in
          let here : is_any_wanted (writes_in v (c ∷ [])) ≡ is_any_wanted (writes_in v more) =
          or-false (v c.when == 1) ∙ ap (λ m. m == 1) (k.when.value g t pins x se is are) ∙ bit_back (is_any_wanted (writes_in v more)) in
          any_both v level (c ∷ []) ∙ ap₂ (λ a b. a || b) (s.any g t pins (goes_on e f g grows x) se is are) here ∙ sym (any_both v cs more);
      all = λ y g t pins x se is are h.
          let v = seen g t pins in
          let last : (v c.when == 1) ≡ true → v c.value ≡ y =
          λ w. (k.value.value g t pins x se is are).wanted y (sym (bit_back (is_any_wanted (writes_in v more))) ∙ (ap (λ m. m == 1) (sym (k.when.value g t pins x se is are)) ∙ w)) (all_behind v cs more y h) in
          all_join v level (c ∷ []) y (s.all y g t pins (goes_on e f g grows x) se is are (all_before v cs more y h)) (last, tt);
    }

-- ---- one choice in place of all

-- the one that is left
pub choice_left : (d e : Netlist) (n : ℕ) (cs : List Choice) (c : Choice) → StandForChoices d e n cs (c ∷ []) → Chooses d e n cs c
choice_left d e n cs c s =
    let fits : ChoiceFits (widths e) n c = All-head (ChoiceFits (widths e) n) c [] s.fits in
    record {
      appends = s.appends;
      sound = s.sound;
      when = record {
        fits = fits.when;
        value = λ g t pins x se is are.
            let v = seen g t pins in
            bit_cases (λ m. m ≡ bit_of (m == 1)) refl refl (v c.when) (bound e 1 c.when fits.when g t pins x se is are)
            ∙ ap bit_of (sym (or-false (v c.when == 1)) ∙ s.any g t pins x se is are);
      };
      value = record {
        fits = fits.value;
        value = λ g t pins x se is are.
            let v = seen g t pins in
            record {
              wanted = λ y some all. (s.all y g t pins x se is are all).0 (sym (or-false (v c.when == 1)) ∙ (s.any g t pins x se is are ∙ some));
              else_ = λ none. tt;
            };
      };
    }

pub chooses_itself : (d : Netlist) (n : ℕ) (c : Choice) → IsSound d → ChoiceFits (widths d) n c → Chooses d d n (c ∷ []) c
chooses_itself d n c sound fits = choice_left d d n (c ∷ []) c (choices_same d n (c ∷ []) sound (All-cons (ChoiceFits (widths d) n) c [] fits (All-nil (ChoiceFits (widths d) n))))

-- the first value where it is wanted, else the second
abbrev pub PickedIn : Choice → Choice → (Atom → ℕ) → ℕ → Type 0
PickedIn one other v x = x ≡ (if v one.when == 1 then v one.value else v other.value)

picked_is : (a b : Bool) (m k y : ℕ) → (a || (b || false)) ≡ true → (a ≡ true → m ≡ y) → (b ≡ true → k ≡ y) → (if a then m else k) ≡ y
picked_is true b m k y some one other = one refl
picked_is false b m k y some one other = other (sym (or-false b) ∙ some)

pub chooses_picked : (d e f : Netlist) (n : ℕ) (one other : Choice) (when value : Atom) → ChoiceFits (widths d) n one → ChoiceFits (widths d) n other
    → Makes d e 1 when (λ v x. x ≡ bit_or (v one.when) (v other.when)) → Makes e f n value (PickedIn one other)
    → Chooses d f n (one ∷ other ∷ []) (record { when = when; value = value })
chooses_picked d e f n one other when value h k first second =
    let grows = appended e f second.appends in
    let from = appended d e first.appends in
    record {
      appends = appends_both d e f first.appends second.appends;
      sound = second.sound;
      when = record {
        fits = fits_later e f grows 1 when first.shows.fits;
        value = λ g t pins x se is are.
            let v = seen g t pins in
            let y = goes_on e f g grows x in
            let z = goes_on d e g from y in
            first.shows.value g t pins y se is are
            ∙ (or_is (v one.when) (v other.when) (bound d 1 one.when h.when g t pins z se is are) (bound d 1 other.when k.when g t pins z se is are)
            ∙ ap (λ b. bit_of ((v one.when == 1) || b)) (sym (or-false (v other.when == 1))));
      };
      value = record {
        fits = second.shows.fits;
        value = λ g t pins x se is are.
            let v = seen g t pins in
            record {
              wanted = λ y some all. second.shows.value g t pins x se is are ∙ picked_is (v one.when == 1) (v other.when == 1) (v one.value) (v other.value) y some all.0 all.1.0;
              else_ = λ none. tt;
            };
      };
    }

-- ---- choices of one value

abbrev of_value : Atom → List Atom → List Choice
of_value value bits = map (λ (b : Atom). record { when = b; value = value }) bits

any_of_value : (v : Atom → ℕ) (value : Atom) (bits : List Atom) → is_any v bits ≡ is_any_wanted (writes_in v (of_value value bits))
any_of_value v value [] = refl
any_of_value v value (b ∷ bits) = ap (λ t. (v b == 1) || t) (any_of_value v value bits)

all_of_value : (v : Atom → ℕ) (value : Atom) (bits : List Atom) (y : ℕ) → is_any_wanted (writes_in v (of_value value bits)) ≡ true → AllWant (writes_in v (of_value value bits)) y → v value ≡ y
all_of_value v value [] y some all = absurd (true≢false (sym some))
all_of_value v value (b ∷ bits) y some all =
    elim (cases_Bool (v b == 1)) [
      | inl yes_ ↦ all.0 yes_
      | inr no_ ↦ all_of_value v value bits y (sym (ap (λ t. t || is_any_wanted (writes_in v (of_value value bits))) no_) ∙ some) all.1
    ]

pub bits_fit : (w : Widths) (n : ℕ) (value : Atom) (bits : List Atom) → All (ChoiceFits w n) (of_value value bits) → All (HasBits w 1) bits
bits_fit w n value [] h = All-nil (HasBits w 1)
bits_fit w n value (b ∷ bits) h =
    All-cons (HasBits w 1) b bits (All-head (ChoiceFits w n) (record { when = b; value = value }) (of_value value bits) h).when
    (bits_fit w n value bits (All-tail (ChoiceFits w n) (record { when = b; value = value }) (of_value value bits) h))

pub value_fits : (w : Widths) (n : ℕ) (value : Atom) (bits : List Atom) → 0 < length bits → All (ChoiceFits w n) (of_value value bits) → HasBits w n value
value_fits w n value [] some h = absurd (omega (arith, some))
value_fits w n value (b ∷ bits) some h = (All-head (ChoiceFits w n) (record { when = b; value = value }) (of_value value bits) h).value

pub chooses_group : (d e : Netlist) (n : ℕ) (group : Wanted) (when : Atom) → HasBits (widths d) n group.value → Makes d e 1 when (λ v x. x ≡ bit_of (is_any v group.when.items))
    → Chooses d e n (choices_in group) (record { when = when; value = group.value })
chooses_group d e n group when fits made =
    let grows = appended d e made.appends in
    record {
      appends = made.appends;
      sound = made.sound;
      when = record {
        fits = made.shows.fits;
        value = λ g t pins x se is are. made.shows.value g t pins x se is are ∙ ap bit_of (any_of_value (seen g t pins) group.value group.when.items);
      };
      value = record {
        fits = fits_later d e grows n group.value fits;
        value = λ g t pins x se is are. record { wanted = λ y some all. all_of_value (seen g t pins) group.value group.when.items y some all; else_ = λ none. tt };
      };
    }

-- one group more
pub groups_more : (groups : List Wanted) (i : ℕ) (g : Wanted) → i < length groups → flat_map choices_in (take (i + 1) groups) ≡ flat_map choices_in (take i groups) ++ choices_in (get_or groups i g)
groups_more groups i g h =
    ap (flat_map choices_in) (take_more groups i g h) ∙ (flat_map-append choices_in (take i groups) (get_or groups i g ∷ [])
    ∙ ap (λ l. flat_map choices_in (take i groups) ++ l) (flat_map-cons choices_in (get_or groups i g) [] ∙ append-nil (choices_in (get_or groups i g))))

-- all choices of one group fit where those of all groups do
pub group_fits : (w : Widths) (n : ℕ) (groups : List Wanted) (i : ℕ) (g : Wanted) → i < length groups → All (ChoiceFits w n) (flat_map choices_in groups) → All (ChoiceFits w n) (choices_in (get_or groups i g))
group_fits w n [] i g h all = absurd (omega (arith, h))
group_fits w n (x ∷ groups) zero g h all = first (choices_in x) (flat_map choices_in groups) (subst (All (ChoiceFits w n)) (flat_map-cons choices_in x groups) all)
  where
    first : (xs ys : List Choice) → All (ChoiceFits w n) (xs ++ ys) → All (ChoiceFits w n) xs
    first [] ys h = All-nil (ChoiceFits w n)
    first (c ∷ xs) ys h = All-cons (ChoiceFits w n) c xs (All-head (ChoiceFits w n) c (xs ++ ys) h) (first xs ys (All-tail (ChoiceFits w n) c (xs ++ ys) h))
group_fits w n (x ∷ groups) (suc i) g h all = group_fits w n groups i g (omega (arith, h)) (second (choices_in x) (flat_map choices_in groups) (subst (All (ChoiceFits w n)) (flat_map-cons choices_in x groups) all))
  where
    second : (xs ys : List Choice) → All (ChoiceFits w n) (xs ++ ys) → All (ChoiceFits w n) ys
    second [] ys h = h
    second (c ∷ xs) ys h = second xs ys (All-tail (ChoiceFits w n) c (xs ++ ys) h)

-- ---- pairs of a level

-- what stands behind the end of a list
abbrev pub no_choice : Choice
no_choice = record { when = atom.Constant 0 0; value = atom.Constant 0 0 }

pub choices_step : (d e f : Netlist) (n : ℕ) (level above after : List Choice) (k : ℕ) (c : Choice) → 2 * k + 1 < length level → after ≡ above ++ c ∷ [] → All (ChoiceFits (widths d) n) level
    → StandForChoices d e n (take (2 * k) level) above
    → (IsSound e → All (ChoiceFits (widths e) n) (get_or level (2 * k) no_choice ∷ get_or level (2 * k + 1) no_choice ∷ [])
    → Chooses e f n (get_or level (2 * k) no_choice ∷ get_or level (2 * k + 1) no_choice ∷ []) c)
    → StandForChoices d f n (take (2 * (k + 1)) level) after
choices_step d e f n level above after k c h is fits s make =
    let low : 2 * k < length level = omega (arith, h) in
    let a : Choice = get_or level (2 * k) no_choice in
    let b : Choice = get_or level (2 * k + 1) no_choice in
    let pair : List Choice = a ∷ b ∷ [] in
    let P : Choice → Type 0 = ChoiceFits (widths d) n in
    let both : All P pair =
    All-cons P a (b ∷ []) (All-get_or P level (2 * k) no_choice low fits) (All-cons P b [] (All-get_or P level (2 * k + 1) no_choice h fits) (All-nil P)) in
    subst (StandForChoices d f n (take (2 * (k + 1)) level)) (sym is)
    (subst (λ l. StandForChoices d f n l (above ++ c ∷ [])) (sym (two_more level k no_choice h))
    (choices_push d e f n (take (2 * k) level) above pair c s (make s.sound (fit_later d e (appended d e s.appends) n pair both))))

pub choices_odd : (d e : Netlist) (n : ℕ) (level above after : List Choice) (k j : ℕ) → 2 * k + 1 ≡ length level → j ≡ 2 * k → after ≡ above ++ get_or level j no_choice ∷ []
    → All (ChoiceFits (widths d) n) level → StandForChoices d e n (take (2 * k) level) above → StandForChoices d e n level after
choices_odd d e n level above after k j odd at_ is fits s =
    let last : Choice = get_or level (2 * k) no_choice in
    let low : 2 * k < length level = omega (arith, odd) in
    let all : take (2 * k + 1) level ≡ level = take_all (2 * k + 1) level (omega (arith, odd)) in
    let P : Choice → Type 0 = ChoiceFits (widths d) n in
    let fit : ChoiceFits (widths e) n last =
    All-head (ChoiceFits (widths e) n) last [] (fit_later d e (appended d e s.appends) n (last ∷ []) (All-cons P last [] (All-get_or P level (2 * k) no_choice low fits) (All-nil P))) in
    subst (StandForChoices d e n level) (sym (is ∙ ap (λ m. above ++ get_or level m no_choice ∷ []) at_))
    (subst (λ l. StandForChoices d e n l (above ++ last ∷ [])) (sym (take_more level (2 * k) no_choice low) ∙ all)
    (choices_push d e e n (take (2 * k) level) above (last ∷ []) last s (chooses_itself e n last s.sound fit)))

pub choices_even : (d e : Netlist) (n : ℕ) (level above after : List Choice) (k : ℕ) → 2 * k ≡ length level → after ≡ above → StandForChoices d e n (take (2 * k) level) above
    → StandForChoices d e n level after
choices_even d e n level above after k even is s =
    subst (StandForChoices d e n level) (sym is) (subst (λ l. StandForChoices d e n l above) (take_all (2 * k) level (omega (arith, even))) s)

-- ---- groups

pub group_step : (d e f : Netlist) (n : ℕ) (groups : List Wanted) (i : ℕ) (g : Wanted) (bits : List Atom) (when : Atom) (level after : List Choice) → i < length groups → g ≡ get_or groups i g
    → bits ≡ g.when.items → after ≡ level ++ record { when = when; value = g.value } ∷ [] → All IsSome groups → All (ChoiceFits (widths d) n) (flat_map choices_in groups)
    → StandForChoices d e n (flat_map choices_in (take i groups)) level
    → (IsSound e → All (HasBits (widths e) 1) bits → Makes e f 1 when (λ v x. x ≡ bit_of (is_any v bits)))
    → StandForChoices d f n (flat_map choices_in (take (i + 1) groups)) after
group_step d e f n groups i g bits when level after h is same more some fits s make =
    let here : All (ChoiceFits (widths d) n) (choices_in g) = subst (λ (z : Wanted). All (ChoiceFits (widths d) n) (choices_in z)) (sym is) (group_fits (widths d) n groups i g h fits) in
    let grown : All (ChoiceFits (widths e) n) (choices_in g) = fit_later d e (appended d e s.appends) n (choices_in g) here in
    let any_ : 0 < length g.when.items = subst (λ (z : Wanted). 0 < length z.when.items) (sym is) (All-get_or IsSome groups i g h some) in
    let bits_here : All (HasBits (widths e) 1) bits = subst (All (HasBits (widths e) 1)) (sym same) (bits_fit (widths e) n g.value g.when.items grown) in
    let made : Makes e f 1 when (λ v x. x ≡ bit_of (is_any v g.when.items)) = subst (λ bs. Makes e f 1 when (λ v x. x ≡ bit_of (is_any v bs))) same (make s.sound bits_here) in
    let one : Chooses e f n (choices_in g) (record { when = when; value = g.value }) = chooses_group e f n g when (value_fits (widths e) n g.value g.when.items any_ grown) made in
    subst (StandForChoices d f n (flat_map choices_in (take (i + 1) groups))) (sym more)
    (subst (λ l. StandForChoices d f n l (level ++ record { when = when; value = g.value } ∷ []))
    (sym (groups_more groups i g h ∙ ap (λ (z : Wanted). flat_map choices_in (take i groups) ++ choices_in z) (sym is)))
    (choices_push d e f n (flat_map choices_in (take i groups)) level (choices_in g) (record { when = when; value = g.value }) s one))

pub groups_end : (d e : Netlist) (n : ℕ) (cs level : List Choice) (groups : List Wanted) (i : ℕ) → length groups ≤ i → IsPermutation cs (flat_map choices_in groups) → All (ChoiceFits (widths d) n) cs
    → (All (ChoiceFits (widths d) n) (flat_map choices_in groups) → StandForChoices d e n (flat_map choices_in (take i groups)) level) → StandForChoices d e n cs level
groups_end d e n cs level groups i h p fits s =
    choices_permuted d e n cs (flat_map choices_in groups) level p
    (subst (λ l. StandForChoices d e n (flat_map choices_in l) level) (take_all i groups h) (s (All-permutation (ChoiceFits (widths d) n) cs (flat_map choices_in groups) p fits)))

pub none_grouped : (cs : List Choice) (groups : List Wanted) → IsPermutation cs (flat_map choices_in groups) → length groups ≡ 0 → length cs ≡ 0
none_grouped cs [] p none = sym (length_permutation cs [] p)
none_grouped cs (g ∷ groups) p none = absurd (omega (arith, none))

-- ---- what is selected

-- where nothing is asked for
pub takes_any : (writes : List Write) (other : Option ℕ) (x : ℕ) → Takes writes other x → Takes writes None x
takes_any writes other x t = record { wanted = t.wanted; else_ = λ none. tt }

taken_value : (b : Bool) (x m k : ℕ) → x ≡ (if bit_of b == 1 then m else k) → b ≡ true → x ≡ m
taken_value true x m k is e = is
taken_value false x m k is e = absurd (true≢false (sym e))

other_value : (b : Bool) (x m k : ℕ) → x ≡ (if bit_of b == 1 then m else k) → b ≡ false → x ≡ k
other_value true x m k is e = absurd (true≢false e)
other_value false x m k is e = is

pub selected_else : (d e f : Netlist) (n : ℕ) (cs : List Choice) (c : Choice) (other a : Atom) → Chooses d e n cs c → Makes e f n a (λ v x. x ≡ (if v c.when == 1 then v c.value else v other))
    → Makes d f n a (λ v x. Takes (writes_in v cs) (Some (v other)) x)
selected_else d e f n cs c other a k m =
    let grows = appended e f m.appends in
    record {
      appends = appends_both d e f k.appends m.appends;
      sound = m.sound;
      shows = record {
        fits = m.shows.fits;
        value = λ g t pins x se is are.
            let v = seen g t pins in
            let any_ : Bool = is_any_wanted (writes_in v cs) in
            let y = goes_on e f g grows x in
            let shown : v a ≡ (if bit_of any_ == 1 then v c.value else v other) =
            m.shows.value g t pins x se is are ∙ ap (λ z. if z == 1 then v c.value else v other) (k.when.value g t pins y se is are) in
            record {
              wanted = λ z some all. taken_value any_ (v a) (v c.value) (v other) shown some ∙ (k.value.value g t pins y se is are).wanted z some all;
              else_ = λ none. other_value any_ (v a) (v c.value) (v other) shown none;
            };
      };
    }

pub selected_none : (d e : Netlist) (n : ℕ) (cs : List Choice) (other : Atom) → IsChoice d e n cs None → HasBits (widths d) n other → Makes d e n other (λ v x. Takes (writes_in v cs) (Some (v other)) x)
selected_none d e n cs other none fits = record {
  appends = none.1;
  sound = none.2;
  shows = record {
    fits = fits_later d e (appended d e none.1) n other fits;
    value = λ g t pins x se is are.
        let v = seen g t pins in
        record { wanted = λ z some all. absurd (true≢false (sym some ∙ ap (λ l. is_any_wanted (writes_in v l)) none.0)); else_ = λ e. refl };
  };
}

pub selected_value : (d e : Netlist) (n : ℕ) (cs : List Choice) (c : Choice) → IsChoice d e n cs (Some c) → Makes d e n c.value (λ v x. Takes (writes_in v cs) (zero_for_none cs) x)
selected_value d e n [] c k = absurd (omega (arith, k.0))
selected_value d e n (a ∷ cs) c k = record { appends = k.1.appends; sound = k.1.sound; shows = k.1.value }

pub selected_zero : (d e : Netlist) (n : ℕ) (cs : List Choice) (a : Atom) → IsChoice d e n cs None → IsBetween 1 128 n → a ≡ atom.Constant n 0 → Makes d e n a (λ v x. Takes (writes_in v cs) (zero_for_none cs) x)
selected_zero d e n [] a none between is = subst (λ z. Makes d e n z (λ v x. Takes [] (Some 0) x)) (sym is) (record {
  appends = none.1;
  sound = none.2;
  shows = record {
    fits = (refl, between, pow_pos n);
    value = λ g t pins x se is are. record { wanted = λ z some all. absurd (true≢false (sym some)); else_ = λ e. refl };
  };
})
selected_zero d e n (c ∷ cs) a none between is = absurd (cc (none.0))

-- ---- rounds

pub choices_round : (d e f g : Netlist) (n : ℕ) (cs level here above after : List Choice) → f ≡ g → after ≡ above → here ≡ level → StandForChoices d e n cs level
    → (IsSound e → All (ChoiceFits (widths e) n) here → StandForChoices e g n here above) → StandForChoices d f n cs after
choices_round d e f g n cs level here above after is same there s make =
    let made : StandForChoices e g n level above = subst (λ l. StandForChoices e g n l above) there (make s.sound (subst (All (ChoiceFits (widths e) n)) (sym there) s.fits)) in
    subst (λ l. StandForChoices d f n cs l) (sym same) (subst (λ z. StandForChoices d z n cs above) (sym is) (choices_over d e g n cs level above s made))

pub choices_stay : (d e f : Netlist) (n : ℕ) (cs level after : List Choice) → f ≡ e → after ≡ level → StandForChoices d e n cs level → StandForChoices d f n cs after
choices_stay d e f n cs level after is same s = subst (StandForChoices d f n cs) (sym same) (subst (λ z. StandForChoices d z n cs level) (sym is) s)

length_none : (cs : List Choice) → length cs ≡ 0 → cs ≡ []
length_none [] h = refl
length_none (c ∷ cs) h = absurd (omega (arith, h))

pub choice_result : (d e : Netlist) (n : ℕ) (cs level : List Choice) (result : Option Choice) → length level ≤ 1 → length level ≤ length cs → (length level ≡ 0 → length cs ≡ 0) → result ≡ slice_get level 0
    → StandForChoices d e n cs level → IsChoice d e n cs result
choice_result d e n cs [] result h most some is s = subst (IsChoice d e n cs) (sym is) (length_none cs (some refl), s.appends, s.sound)
choice_result d e n cs (c ∷ []) result h most some is s = subst (IsChoice d e n cs) (sym is) (omega (arith, most), choice_left d e n cs c s)
choice_result d e n cs (a ∷ b ∷ level) result h most some is s = absurd (omega (arith, h))
