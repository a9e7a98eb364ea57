-- What the readers of words and numbers answer.
use Rattle.std.proofs.Common.{◌≡◌, ◌≢◌, ℕ, zero, suc, ◌+◌, ◌*◌, ◌/◌, ◌%◌, ◌^◌, ◌≤◌, ◌<◌, Bool, true, false, ◌&&◌, ◌||◌, nat_le, IsTrue, List, [], ◌∷◌, ◌++◌, length, take, drop, get_or, sym, ap, ◌∙◌, subst, refl, append_assoc, arith, ◌⊎◌, inl, inr, drop-cons, Result, Ok, Err}
use Rattle.std.specs.Fmt.{decimal}
use Rattle.std.specs.Result.{IsErrAnd}
use Rattle.cycle_report.specs.declared.cursor.Stop.{Stop}
use Rattle.cycle_report.specs.declared.cursor.Stop.TheVariants.{Refused, Memory}
use Rattle.std.specs.List.{list_all}
use Rattle.std.specs.Char.{digit_value}
use Rattle.std.specs.Str.Parse.{digits_value}
use Rattle.std.proofs.lemmas.Bool.Decides.{eqb_tells, nat_tests}
use Rattle.std.proofs.lemmas.Str.{digit_value_digit}
use Rattle.std.proofs.lemmas.Fmt.{decimal_digit, decimal_step, decimal_nonempty, first_decimal, decimal_injective, decimal_is_IsNumeral}
use Rattle.std.proofs.lemmas.Str.Parse.{digits_value-take-le}
use Rattle.std.proofs.lemmas.Int.Digits.{digits_value_push}
use Rattle.std.proofs.lemmas.List.{take-append-drop, length-take-le, drop_all}
use Rattle.std.proofs.Math.Seq.{take-append_seam, drop-append_seam}
use Rattle.cycle_report.specs.ReportForm.{is_digit, is_word_byte, is_letter, IsName}
use Rattle.cycle_report.specs.Reading.{Found, Stuck, Reads, ReadsDigit, SameNext, Follows, Part, IsShared, begins_with, word, number, count, name, both}
use Rattle.cycle_report.proofs.Cuts.{not_true, and_left, and_right, and_both, Stops, cut, decimal_digits, digit_of}
use Rattle.cycle_report.proofs.Reading.{follows_same, View, Has}

-- ---- the front that two lists share

part_at : (a b : List ℕ) (n : ℕ) → n < length a → n < length b → get_or a n 0 ≢ get_or b n 0 → Part (drop n a) (drop n b)
part_at a b n h k d = rw (drop-cons a n 0 h, drop-cons b n 0 k) d

pub shared_apart : (a b : List ℕ) (n : ℕ) → take n a ≡ take n b → n < length a → n < length b → get_or a n 0 ≢ get_or b n 0 → IsShared a b n
shared_apart a b n e h k d = record {
  front = take n a;
  left = drop n a;
  right = drop n b;
  here = sym (take-append-drop n a);
  there = sym (take-append-drop n b) ∙ ap (λ z. z ++ drop n b) (sym e);
  long = length-take-le n a (omega arith);
  part = part_at a b n h k d;
}

part_none : (x : List ℕ) → Part x []
part_none [] = tt
part_none (c ∷ cs) = tt

pub shared_end : (a b : List ℕ) (n : ℕ) → take n a ≡ take n b → n ≤ length a → (length a ≤ n) ⊎ (length b ≤ n) → IsShared a b n
shared_end a b n e h (inl k) = record {
  front = take n a;
  left = [];
  right = drop n b;
  here = sym (take-append-drop n a) ∙ ap (λ z. take n a ++ z) (drop_all n a k);
  there = sym (take-append-drop n b) ∙ ap (λ z. z ++ drop n b) (sym e);
  long = length-take-le n a h;
  part = tt;
}
shared_end a b n e h (inr k) = record {
  front = take n a;
  left = drop n a;
  right = [];
  here = sym (take-append-drop n a);
  there = sym (take-append-drop n b) ∙ (ap (λ z. take n b ++ z) (drop_all n b k) ∙ ap (λ z. z ++ []) (sym e));
  long = length-take-le n a h;
  part = part_none (drop n a);
}

-- ---- words

append_none : (xs : List ℕ) → xs ++ [] ≡ xs
append_none [] = refl
append_none (x ∷ xs) = ap (λ ys. x ∷ ys) (append_none xs)

pub same_front : (front x y : List ℕ) → front ++ x ≡ front ++ y → x ≡ y
same_front [] x y e = e
same_front (c ∷ cs) x y e = let f : cs ++ x ≡ cs ++ y = cc in same_front cs x y f

pub part_next : (a b v u : List ℕ) → Part a b → 0 < length a → a ++ v ≡ u → SameNext u b → ⊥
part_next [] b v u p l e n = omega arith
part_next (x ∷ xs) b v [] p l e n = cc
part_next (x ∷ xs) [] v (z ∷ u) p l e n = n
part_next (x ∷ xs) (y ∷ b) v (z ∷ u) p l e n = let h : x ≡ z = cc in p (h ∙ n)

pub shared_right : (front right : List ℕ) (n : ℕ) → length front ≡ n → drop n (front ++ right) ≡ right
shared_right front right n e = ap (λ k. drop k (front ++ right)) (sym e) ∙ drop-append_seam front right

pub length_append : (x y : List ℕ) → length x < length (x ++ y) → 0 < length y
length_append [] y h = h
length_append (c ∷ cs) y h = length_append cs y (omega arith)

append_nothing : (x y : List ℕ) → length (x ++ y) ≤ length x → y ≡ []
append_nothing [] [] h = refl
append_nothing [] (c ∷ cs) h = absurd (omega arith)
append_nothing (c ∷ cs) y h = append_nothing cs y (omega arith)

pub word_found : (w old : List ℕ) (n : ℕ) (new : List ℕ) → IsShared w old n → new ≡ drop n old → length w ≤ n → Found (word w) tt old new
word_found w old n new s e h =
    let right : drop n old ≡ s.right = ap (drop n) s.there ∙ shared_right s.front s.right n s.long in
    let none : s.left ≡ [] = append_nothing s.front s.left (subst (λ z. length z ≤ length s.front) s.here (subst (λ z. length w ≤ z) (sym s.long) h)) in
    record {
      is = tt;
      text = s.there ∙ (ap (λ z. z ++ s.right) (sym (s.here ∙ ap (λ z. s.front ++ z) none ∙ append_none s.front)) ∙ ap (λ z. w ++ z) (sym (e ∙ right)));
      only = λ y v u i f k n. (refl, same_front w v u k);
    }

pub nothing_found : (old : List ℕ) → Found (word []) tt old old
nothing_found old = record { is = tt; text = refl; only = λ y v w i f h n. (refl, h) }

pub word_stuck : (w old : List ℕ) (n : ℕ) (new : List ℕ) → IsShared w old n → new ≡ drop n old → n < length w → Stuck (word w) old new
word_stuck w old n new s e h =
    let right : drop n old ≡ s.right = ap (drop n) s.there ∙ shared_right s.front s.right n s.long in
    let some : 0 < length s.left = length_append s.front s.left (subst (λ z. length s.front < length z) s.here (subst (λ z. z < length w) (sym s.long) h)) in
    record {
      front = s.front;
      cut = s.there ∙ ap (λ z. s.front ++ z) (sym (e ∙ right));
      value = tt;
      is = tt;
      rest = s.left;
      goes = s.here;
      stops = λ y v u i f k m.
          part_next s.left s.right v u s.part some
          (same_front s.front (s.left ++ v) u (sym (append_assoc s.front s.left v) ∙ (ap (λ z. z ++ v) (sym s.here) ∙ k)))
          (subst (SameNext u) (e ∙ right) m);
    }

-- ---- numbers

pub follows_stops : (f : ℕ → Bool) (v : List ℕ) → Follows f v → Stops f v
follows_stops f [] h c r e k = cc
follows_stops f (d ∷ ds) h c r e k =
    let p : d ≡ c = cc in
    let q : false ≡ true = sym h ∙ (ap f p ∙ k) in
    cc

pub number_found : (low high n : ℕ) (old new : List ℕ) → high < 2 ^ 64 → low ≤ n → n ≤ high → old ≡ decimal n ++ new → Follows is_digit new → Found (number low high) n old new
number_found low high n old new small l h e f = record {
  is = (l, h);
  text = e;
  only = λ y v w i g k m.
      let y' : y < 2 ^ 64 = omega (arith, i.1) in
      let n' : n < 2 ^ 64 = omega arith in
      let r = cut is_digit (decimal y) (decimal n) v w (decimal_digits y y') (decimal_digits n n') (follows_stops is_digit v g) (follows_stops is_digit w (follows_same is_digit w new m f)) k in
      (decimal_injective y n y' n' r.0, r.1);
}

-- what begins with a number's digits is no less
prefix_least : (x : List ℕ) (y : ℕ) (z : List ℕ) → y < 2 ^ 64 → decimal y ≡ x ++ z → digits_value 10 x ≤ y
prefix_least x y z h e =
    let t : take (length x) (decimal y) ≡ x = ap (take (length x)) e ∙ take-append_seam x z in
    let a : digits_value 10 (take (length x) (decimal y)) ≤ digits_value 10 (decimal y) = digits_value-take-le 10 (decimal y) (length x) (omega arith) in
    let b : digits_value 10 (decimal y) ≡ y = (decimal_is_IsNumeral y h).1 in
    subst (λ m. digits_value 10 x ≤ m) b (subst (λ u. digits_value 10 u ≤ digits_value 10 (decimal y)) t a)

-- where the digits of one text go further than the other's
cut_long : (ok : ℕ → Bool) (u x v t : List ℕ) → IsTrue (list_all ok u) → IsTrue (list_all ok x) → Stops ok v → u ++ v ≡ x ++ t → (z : List ℕ) × (u ≡ x ++ z) × (z ++ v ≡ t)
cut_long ok u [] v t a b s e = (u, refl, e)
cut_long ok [] (c ∷ x) v t a b s e = absurd (s c (x ++ t) e (and_left (ok c) (list_all ok x) b))
cut_long ok (d ∷ u) (c ∷ x) v t a b s e =
    let h : d ≡ c = cc in
    let f : u ++ v ≡ x ++ t = cc in
    let r = cut_long ok u x v t (and_right (ok d) (list_all ok u) a) (and_right (ok c) (list_all ok x) b) s f in
    (r.0, ap (λ y. y ∷ u) h ∙ ap (λ y. c ∷ y) r.1, r.2)

-- the next digit is among those of a longer number
longer : (n y d : ℕ) (v w : List ℕ) → n < 2 ^ 64 → y < 2 ^ 64 → d < 10 → Follows is_digit v → decimal y ++ v ≡ decimal n ++ ((48 + d) ∷ w) → (z : List ℕ) × (decimal y ≡ decimal n ++ ((48 + d) ∷ z))
longer n y d v w h k l f e =
    let r = cut_long is_digit (decimal y) (decimal n) v ((48 + d) ∷ w) (decimal_digits y k) (decimal_digits n h) (follows_stops is_digit v f) e in
    elim r.0 as (λ z. decimal y ≡ decimal n ++ z → z ++ v ≡ (48 + d) ∷ w → (z : List ℕ) × (decimal y ≡ decimal n ++ ((48 + d) ∷ z))) [
      | [] ↦ λ p q. absurd (follows_stops is_digit v f (48 + d) w q (digit_of d l))
      | c ∷ cs ↦ λ p q. let g : c ≡ 48 + d = cc in (cs, p ∙ ap (λ x. decimal n ++ (x ∷ cs)) g)
    ] r.1 r.2

digit_value_of : (d : ℕ) → d < 10 → digit_value (48 + d) ≡ d
digit_value_of d h = let e = digit_value_digit (48 + d) (omega arith, omega arith) in omega (arith, e)

-- a number that begins with the digit 0 is 0
no_zero : (y : ℕ) (c : ℕ) (z : List ℕ) → y < 2 ^ 64 → decimal y ≡ 48 ∷ (c ∷ z) → ⊥
no_zero y c z h e =
    elim (eqb_tells y 0) [
      | inl s ↦ let t : 48 ∷ [] ≡ 48 ∷ (c ∷ z) = sym (decimal_digit 0 (omega arith)) ∙ (ap decimal (sym s.1) ∙ e) in cc
      | inr n ↦ let f = first_decimal y (omega (arith, n.1)) h in let t : 48 < 48 = subst (λ x. 48 < get_or x 0 0) e f in omega arith
    ]

value_push : (n d : ℕ) → n < 2 ^ 64 → d < 10 → digits_value 10 (decimal n ++ ((48 + d) ∷ [])) ≡ n * 10 + d
value_push n d h k = digits_value_push 10 (decimal n) (48 + d) ∙ (ap (λ m. m * 10 + digit_value (48 + d)) (decimal_is_IsNumeral n h).1 ∙ ap (λ m. n * 10 + m) (digit_value_of d k))

-- no number of the range goes on with this digit
no_longer : (n y d high : ℕ) (v w : List ℕ) → n < 2 ^ 64 → high < 2 ^ 64 → y ≤ high → d < 10 → (n ≡ 0) ⊎ (high < n * 10 + d) → Follows is_digit v → decimal y ++ v ≡ decimal n ++ ((48 + d) ∷ w) → ⊥
no_longer n y d high v w h g i k (inr over) f e =
    let r = longer n y d v w h (omega arith) k f e in
    let p = prefix_least (decimal n ++ ((48 + d) ∷ [])) y r.0 (omega arith) (r.1 ∙ sym (append_assoc (decimal n) ((48 + d) ∷ []) r.0)) in
    let q : n * 10 + d ≤ y = subst (λ m. m ≤ y) (value_push n d h k) p in
    omega arith
no_longer n y d high v w h g i k (inl none) f e =
    let r = longer n y d v w h (omega arith) k f e in
    no_zero y (48 + d) r.0 (omega arith) (subst (λ m. decimal y ≡ decimal m ++ ((48 + d) ∷ r.0)) none r.1 ∙ ap (λ x. x ++ ((48 + d) ∷ r.0)) (decimal_digit 0 (omega arith)))

next_is : (w : List ℕ) (c : ℕ) (r : List ℕ) → SameNext w (c ∷ r) → (rest : List ℕ) × (w ≡ c ∷ rest)
next_is [] c r h = absurd h
next_is (d ∷ w) c r h = (w, ap (λ x. x ∷ w) h)

-- the next digit makes it too high, or stands behind a 0
pub number_over : (low high n d : ℕ) (old new rest : List ℕ) → high < 2 ^ 64 → low ≤ n → n ≤ high → old ≡ decimal n ++ new → new ≡ (48 + d) ∷ rest → d < 10 → (n ≡ 0) ⊎ (high < n * 10 + d) → Stuck (number low high) old new
number_over low high n d old new rest small l h e next k over = record {
  front = decimal n;
  cut = e;
  value = n;
  is = (l, h);
  rest = [];
  goes = sym (append_none (decimal n));
  stops = λ y v w i f g m.
      let r = next_is w (48 + d) rest (subst (SameNext w) next m) in
      no_longer n y d high v r.0 (omega arith) small i.1 k over f (g ∙ ap (λ z. decimal n ++ z) r.1);
}

-- the digits so far and the next one
pub number_more : (n d m : ℕ) (old mid new rest : List ℕ) → old ≡ decimal n ++ mid → mid ≡ (48 + d) ∷ rest → d < 10 → 0 < n → m ≡ n * 10 + d → m < 2 ^ 64 → new ≡ drop 1 mid → old ≡ decimal m ++ new
number_more n d m old mid new rest e f k some is small after =
    let q : m / 10 ≡ n = omega arith in
    let r : m % 10 ≡ d = omega arith in
    let t : decimal m ≡ decimal n ++ ((48 + d) ∷ []) = decimal_step m (omega arith) small ∙ (ap (λ x. decimal x ++ ((48 + m % 10) ∷ [])) q ∙ ap (λ x. decimal n ++ ((48 + x) ∷ [])) r) in
    let n' : new ≡ rest = after ∙ ap (drop 1) f in
    e ∙ (ap (λ z. decimal n ++ z) (f ∙ ap (λ z. (48 + d) ∷ z) (sym n')) ∙ (sym (append_assoc (decimal n) ((48 + d) ∷ []) new) ∙ ap (λ z. z ++ new) (sym t)))

pub first_taken : (d : ℕ) (old new rest : List ℕ) → old ≡ (48 + d) ∷ rest → d < 10 → new ≡ drop 1 old → old ≡ decimal d ++ new
first_taken d old new rest e k after =
    e ∙ (ap (λ z. (48 + d) ∷ z) (sym (after ∙ ap (drop 1) e)) ∙ ap (λ z. z ++ new) (sym (decimal_digit d k)))

pub decimal_some : (y : ℕ) → y < 2 ^ 64 → (c : ℕ) × (ds : List ℕ) × (decimal y ≡ c ∷ ds)
decimal_some y h =
    elim (decimal y) as (λ z. 0 < length z → (c : ℕ) × (ds : List ℕ) × (z ≡ c ∷ ds)) [
      | [] ↦ λ k. absurd (omega arith)
      | c ∷ ds ↦ λ k. (c, ds, refl)
    ] (decimal_nonempty y h)

first_same : (c : ℕ) (x y old : List ℕ) → c ∷ x ≡ y → SameNext y old → (rest : List ℕ) × (old ≡ c ∷ rest)
first_same c x [] old e h = cc
first_same c x (d ∷ y) [] e h = absurd h
first_same c x (d ∷ y) (b ∷ old) e h = let f : c ≡ d = cc in (old, ap (λ z. z ∷ old) (sym (f ∙ h)))

-- a number's first byte, where it begins what goes on with the next byte
begins_so : (y : ℕ) (v w old : List ℕ) → y < 2 ^ 64 → decimal y ++ v ≡ w → SameNext w old → (c : ℕ) × (ds : List ℕ) × (rest : List ℕ) × (decimal y ≡ c ∷ ds) × (old ≡ c ∷ rest)
begins_so y v w old h e n =
    let s = decimal_some y h in
    let r = first_same s.0 (s.1 ++ v) w old (ap (λ z. z ++ v) (sym s.2) ∙ e) n in
    (s.0, s.1, r.0, s.2, r.1)

stuck_at_once : (low high : ℕ) (old : List ℕ) → low ≤ high → ((y : ℕ) (c : ℕ) (ds rest : List ℕ) → low ≤ y → y ≤ high → decimal y ≡ c ∷ ds → old ≡ c ∷ rest → ⊥) → high < 2 ^ 64 → Stuck (number low high) old old
stuck_at_once low high old o none small = record {
  front = [];
  cut = refl;
  value = low;
  is = (omega arith, o);
  rest = decimal low;
  goes = refl;
  stops = λ y v w i f g m.
      let s = begins_so y v w old (omega (arith, i.1)) g m in
      none y s.0 s.1 s.2 i.0 i.1 s.3 s.4;
}

pub number_none : (low high : ℕ) (old : List ℕ) → low ≤ high → high < 2 ^ 64 → Follows is_digit old → Stuck (number low high) old old
number_none low high old o small f =
    stuck_at_once low high old o
    (λ y c ds rest l h e g.
    let d = subst (λ z. IsTrue (list_all is_digit z)) e (decimal_digits y (omega arith)) in
    follows_stops is_digit old f c rest g (and_left (is_digit c) (list_all is_digit ds) d))
    small

pub number_outside : (low high d : ℕ) (old rest : List ℕ) → low ≤ 1 → low ≤ high → high < 2 ^ 64 → old ≡ (48 + d) ∷ rest → d < 10 → (d < low) ⊎ (high < d) → Stuck (number low high) old old
number_outside low high d old rest one o small e k (inr over) =
    stuck_at_once low high old o
    (λ y c ds r l h f g.
    let t : (48 + d) ∷ rest ≡ c ∷ r = sym e ∙ g in
    let b : c ≡ 48 + d = cc in
    let p = prefix_least (decimal d) y ds (omega arith) (f ∙ (ap (λ z. z ∷ ds) b ∙ ap (λ z. z ++ ds) (sym (decimal_digit d k)))) in
    let q : d ≤ y = subst (λ z. z ≤ y) ((decimal_is_IsNumeral d (omega arith)).1) p in
    omega arith)
    small
number_outside low high d old rest one o small e k (inl under) =
    stuck_at_once low high old o
    (λ y c ds r l h f g.
    let t : (48 + d) ∷ rest ≡ c ∷ r = sym e ∙ g in
    let b : c ≡ 48 + d = cc in
    let z : c ≡ 48 = omega arith in
    let p = first_decimal y (omega arith) (omega arith) in
    let q : 48 < c = subst (λ x. 48 < get_or x 0 0) f p in
    omega arith)
    small

pub some_number : (low high : ℕ) → low ≤ high → Has (number low high)
some_number low high h = record { value = low; is = (omega arith, h) }

pub some_count : (words : List ℕ) (low high : ℕ) → low ≤ high → Has (count words low high)
some_count words low high h = record { value = low; is = (omega arith, h) }

pub some_word : (w : List ℕ) → Has (word w)
some_word w = record { value = tt; is = tt }

pub count_view : (words : List ℕ) (low high : ℕ) (old : List ℕ) → View (both (word words) (number low high)) (count words low high) (λ p. p.1) old
count_view words low high old = record {
  is = λ b i. i.1;
  text = λ b i. refl;
  onto = λ a i. inl ((tt, a), (tt, i), refl);
  ends = λ v f. f;
}

digit_stuck : (low high : ℕ) (e : Stop) (old new : List ℕ) → ReadsDigit low high (Err e) old new → Reads (number low high) (Err e) old new
digit_stuck low high Refused old new h = h
digit_stuck low high Memory old new h = tt

pub digit_passed : {Q : Stop → Type 0} {e : Stop} (low high : ℕ) (old new : List ℕ) (r : Result ℕ Stop) → IsErrAnd r Q → ((y : Stop) → Q y → y ≡ e) → ReadsDigit low high (Err e) old new → Reads (number low high) r old new
digit_passed {Q} {e} low high old new r is same h =
    elim r as (λ z. IsErrAnd z Q → Reads (number low high) z old new) [
      | Ok x ↦ λ i. absurd i
      | Err y ↦ λ i. subst (λ z. Reads (number low high) (Err z) old new) (sym (same y i)) (digit_stuck low high e old new h)
    ] is

-- ---- names

or_true : (a b : Bool) → IsTrue a → IsTrue (a || b)
or_true true b h = refl
or_true false b h = not_true h

name_all : (y : List ℕ) → IsName y → IsTrue (list_all is_word_byte y)
name_all [] h = not_true h
name_all (c ∷ cs) h =
    and_both (is_word_byte c) (list_all is_word_byte cs) (or_true (is_letter c) (is_digit c) (and_left (is_letter c) (list_all is_word_byte cs && nat_le (length cs) 63) h))
    (and_left (list_all is_word_byte cs) (nat_le (length cs) 63) (and_right (is_letter c) (list_all is_word_byte cs && nat_le (length cs) 63) h))

le_from : (m n : ℕ) → IsTrue (nat_le m n) → m ≤ n
le_from m n h = grind (arith, nat_tests)

le_to : (m n : ℕ) → m ≤ n → IsTrue (nat_le m n)
le_to m n h = grind (arith, nat_tests)

name_short : (y : List ℕ) → IsName y → length y ≤ 64
name_short [] h = not_true h
name_short (c ∷ cs) h =
    let k : length cs ≤ 63 = le_from (length cs) 63 (and_right (list_all is_word_byte cs) (nat_le (length cs) 63) (and_right (is_letter c) (list_all is_word_byte cs && nat_le (length cs) 63) h)) in
    omega arith

pub begins_follows : (f : ℕ → Bool) (bs : List ℕ) → begins_with f bs ≡ false → Follows f bs
begins_follows f [] h = tt
begins_follows f (c ∷ bs) h = h

letter_first : (y : List ℕ) → IsName y → (c : ℕ) × (cs : List ℕ) × (y ≡ c ∷ cs) × IsTrue (is_letter c)
letter_first [] h = not_true h
letter_first (c ∷ cs) h = (c, cs, refl, and_left (is_letter c) (list_all is_word_byte cs && nat_le (length cs) 63) h)

pub name_none : (old : List ℕ) → begins_with is_letter old ≡ false → Stuck name old old
name_none old h = record {
  front = [];
  cut = refl;
  value = 97 ∷ [];
  is = refl;
  rest = 97 ∷ [];
  goes = refl;
  stops = λ y v w i f g m.
      let s = letter_first y i in
      let r = first_same s.0 (s.1 ++ v) w old (ap (λ z. z ++ v) (sym s.2) ∙ g) m in
      follows_stops is_letter old (begins_follows is_letter old h) s.0 r.0 r.1 s.3;
}

-- the run of word bytes at the front
pub record IsRun (old : List ℕ) (n : ℕ) : Type 0 where
  pub within : n ≤ length old
  pub most : n ≤ 64
  pub all : IsTrue (list_all is_word_byte (take n old))
  pub ends : (n ≡ 64) ⊎ Follows is_word_byte (drop n old)

run_name : (old : List ℕ) (n : ℕ) → begins_with is_letter old ≡ true → IsRun old n → IsName (take n old)
run_name [] n h r = absurd (cc)
run_name (c ∷ old) zero h r =
    elim r.ends [
      | inl e ↦ let t : zero ≡ 64 = e in absurd (omega arith)
      | inr f ↦ let t : is_word_byte c ≡ true = or_true (is_letter c) (is_digit c) h in let u : true ≡ false = sym t ∙ f in absurd (cc)
    ]
run_name (c ∷ old) (suc n) h r =
    let k = length-take-le n old (omega (arith, r.within)) in
    and_both (is_letter c) (list_all is_word_byte (take n old) && nat_le (length (take n old)) 63) h
    (and_both (list_all is_word_byte (take n old)) (nat_le (length (take n old)) 63) (and_right (is_word_byte c) (list_all is_word_byte (take n old)) r.all) (le_to (length (take n old)) 63 (omega (arith, r.most, k))))

pub name_found : (old : List ℕ) (n : ℕ) (new : List ℕ) → begins_with is_letter old ≡ true → IsRun old n → new ≡ drop n old → begins_with is_word_byte new ≡ false → Found name (take n old) old new
name_found old n new h r e k = record {
  is = run_name old n h r;
  text = sym (take-append-drop n old) ∙ ap (λ z. take n old ++ z) (sym e);
  only = λ y v w i f g m.
      cut is_word_byte y (take n old) v w (name_all y i) r.all (follows_stops is_word_byte v f) (follows_stops is_word_byte w (follows_same is_word_byte w new m (begins_follows is_word_byte new k))) g;
}

begins_some : (f : ℕ → Bool) (new : List ℕ) → begins_with f new ≡ true → Follows f new → ⊥
begins_some f [] h k = cc
begins_some f (c ∷ new) h k = let t : true ≡ false = sym h ∙ k in cc

same_begins : (f : ℕ → Bool) (w new : List ℕ) → SameNext w new → begins_with f w ≡ begins_with f new
same_begins f [] [] h = refl
same_begins f [] (d ∷ ds) h = absurd h
same_begins f (c ∷ cs) [] h = absurd h
same_begins f (c ∷ cs) (d ∷ ds) h = ap f h

length_more : (x : List ℕ) (c : ℕ) (z : List ℕ) → length x < length (x ++ (c ∷ z))
length_more [] c z = omega arith
length_more (b ∷ x) c z = let h = length_more x c z in omega arith

pub name_over : (old : List ℕ) (n : ℕ) (new : List ℕ) → begins_with is_letter old ≡ true → IsRun old n → new ≡ drop n old → begins_with is_word_byte new ≡ true → Stuck name old new
name_over old n new h r e k =
    let x = take n old in
    let long : n ≡ 64 = elim r.ends [ inl s ↦ s | inr f ↦ absurd (begins_some is_word_byte new k (subst (Follows is_word_byte) (sym e) f)) ] in
    let len : length x ≡ n = length-take-le n old r.within in
    record {
      front = x;
      cut = sym (take-append-drop n old) ∙ ap (λ z. x ++ z) (sym e);
      value = x;
      is = run_name old n h r;
      rest = [];
      goes = sym (append_none x);
      stops = λ y v w i f g m.
          let c = cut_long is_word_byte y x v w (name_all y i) r.all (follows_stops is_word_byte v f) g in
          elim c.0 as (λ z. y ≡ x ++ z → z ++ v ≡ w → ⊥) [
            | [] ↦ λ p q. begins_some is_word_byte v (ap (begins_with is_word_byte) q ∙ (same_begins is_word_byte w new m ∙ k)) f
            | b ∷ z ↦ λ p q.
                let s = name_short y i in
                let t : length x < length y = subst (λ u. length x < length u) (sym p) (length_more x b z) in
                omega (arith, s, t, len, long)
          ] c.1 c.2;
    }

pub some_name : Has name
some_name = record { value = 97 ∷ []; is = refl }
