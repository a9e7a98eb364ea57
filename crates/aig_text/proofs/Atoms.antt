-- What the readers of words and numbers answer.
use Rattle.std.proofs.Common.{◌≡◌, ◌≢◌, ℕ, ◌+◌, ◌*◌, ◌≤◌, ◌<◌, Bool, false, List, [], ◌∷◌, ◌++◌, length, take, drop, get_or, sym, ap, ◌∙◌, subst, refl, append_assoc, arith, ◌⊎◌, inl, inr, drop-cons}
use Rattle.std.specs.List.{list_all}
use Rattle.std.proofs.lemmas.List.{take-append-drop, length-take-le, drop_all}
use Rattle.std.proofs.Math.Seq.{drop-append_seam}
use Rattle.std.specs.Prelude.{IsTrue}
use Rattle.aig_text.specs.GraphText.{numeral, number_text}
use Rattle.aig_text.specs.Reading.{Found, Stuck, SameNext, Follows, Part, IsShared, AtMost, Saturates, is_digit, word, number_so}
use Rattle.aig_text.proofs.Numerals.{numeral_digit, numeral_digits, numeral_some, numeral_push, numeral_value, prefix_least, numeral_cut, goes_longer, follows_stops, and_left}
use Rattle.aig_text.proofs.Reading.{Unique, Has, append_none, same_front}

-- ---- the front that two lists share

part_at : (a b : List ℕ) (n : ℕ) → n < length a → n < length b → get_or a n 0 ≢ get_or b n 0 → Part (drop n a) (drop n b)
part_at a b n h k d = rw (drop-cons a n 0 h, drop-cons b n 0 k) d

pub shared_apart : (a b : List ℕ) (n : ℕ) → take n a ≡ take n b → n < length a → n < length b → get_or a n 0 ≢ get_or b n 0 → IsShared a b n
shared_apart a b n e h k d = record {
  front = take n a;
  left = drop n a;
  right = drop n b;
  here = sym (take-append-drop n a);
  there = sym (take-append-drop n b) ∙ ap (λ z. z ++ drop n b) (sym e);
  long = length-take-le n a (omega arith);
  part = part_at a b n h k d;
}

part_none : (x : List ℕ) → Part x []
part_none [] = tt
part_none (c ∷ cs) = tt

pub shared_end : (a b : List ℕ) (n : ℕ) → take n a ≡ take n b → n ≤ length a → (length a ≤ n) ⊎ (length b ≤ n) → IsShared a b n
shared_end a b n e h (inl k) = record {
  front = take n a;
  left = [];
  right = drop n b;
  here = sym (take-append-drop n a) ∙ ap (λ z. take n a ++ z) (drop_all n a k);
  there = sym (take-append-drop n b) ∙ ap (λ z. z ++ drop n b) (sym e);
  long = length-take-le n a h;
  part = tt;
}
shared_end a b n e h (inr k) = record {
  front = take n a;
  left = drop n a;
  right = [];
  here = sym (take-append-drop n a);
  there = sym (take-append-drop n b) ∙ (ap (λ z. take n b ++ z) (drop_all n b k) ∙ ap (λ z. z ++ []) (sym e));
  long = length-take-le n a h;
  part = part_none (drop n a);
}

-- ---- words

part_next : (a b v u : List ℕ) → Part a b → 0 < length a → a ++ v ≡ u → SameNext u b → ⊥
part_next [] b v u p l e n = omega arith
part_next (x ∷ xs) b v [] p l e n = cc
part_next (x ∷ xs) [] v (z ∷ u) p l e n = n
part_next (x ∷ xs) (y ∷ b) v (z ∷ u) p l e n = let h : x ≡ z = cc in p (h ∙ n)

shared_right : (front right : List ℕ) (n : ℕ) → length front ≡ n → drop n (front ++ right) ≡ right
shared_right front right n e = ap (λ k. drop k (front ++ right)) (sym e) ∙ drop-append_seam front right

length_append : (x y : List ℕ) → length x < length (x ++ y) → 0 < length y
length_append [] y h = h
length_append (c ∷ cs) y h = length_append cs y (omega arith)

append_nothing : (x y : List ℕ) → length (x ++ y) ≤ length x → y ≡ []
append_nothing [] [] h = refl
append_nothing [] (c ∷ cs) h = absurd (omega arith)
append_nothing (c ∷ cs) y h = append_nothing cs y (omega arith)

pub word_found : (w old : List ℕ) (n : ℕ) (new : List ℕ) → IsShared w old n → new ≡ drop n old → length w ≤ n → Found (word w) tt old new
word_found w old n new s e h =
    let right : drop n old ≡ s.right = ap (drop n) s.there ∙ shared_right s.front s.right n s.long in
    let none : s.left ≡ [] = append_nothing s.front s.left (subst (λ z. length z ≤ length s.front) s.here (subst (λ z. length w ≤ z) (sym s.long) h)) in
    record {
      is = tt;
      text = s.there ∙ (ap (λ z. z ++ s.right) (sym (s.here ∙ ap (λ z. s.front ++ z) none ∙ append_none s.front)) ∙ ap (λ z. w ++ z) (sym (e ∙ right)));
    }

pub word_stuck : (w old : List ℕ) (n : ℕ) (new : List ℕ) → IsShared w old n → new ≡ drop n old → n < length w → Stuck (word w) old new
word_stuck w old n new s e h =
    let right : drop n old ≡ s.right = ap (drop n) s.there ∙ shared_right s.front s.right n s.long in
    let some : 0 < length s.left = length_append s.front s.left (subst (λ z. length s.front < length z) s.here (subst (λ z. z < length w) (sym s.long) h)) in
    record {
      front = s.front;
      cut = s.there ∙ ap (λ z. s.front ++ z) (sym (e ∙ right));
      value = tt;
      is = tt;
      rest = s.left;
      goes = s.here;
      stops = λ y v u i k m.
          part_next s.left s.right v u s.part some
          (same_front s.front (s.left ++ v) u (sym (append_assoc s.front s.left v) ∙ (ap (λ z. z ++ v) (sym s.here) ∙ k)))
          (subst (SameNext u) (e ∙ right) m);
    }

pub unique_word : (w : List ℕ) → Unique (word w)
unique_word w x y v u i j e = (refl, same_front w v u e)

pub has_word : (w : List ℕ) → Has (word w)
has_word w = record { value = tt; is = tt }

-- a word, and the rest of it
pub word_later : (a b old mid new : List ℕ) → Found (word a) tt old mid → Found (word b) tt mid new → Found (word (a ++ b)) tt old new
word_later a b old mid new f g = record { is = tt; text = f.text ∙ (ap (λ z. a ++ z) g.text ∙ sym (append_assoc a b new)) }

pub word_first_stuck : (a b old new : List ℕ) → Stuck (word a) old new → Stuck (word (a ++ b)) old new
word_first_stuck a b old new f = record {
  front = f.front;
  cut = f.cut;
  value = tt;
  is = tt;
  rest = f.rest ++ b;
  goes = ap (λ z. z ++ b) f.goes ∙ append_assoc f.front f.rest b;
  stops = λ y v w i e n. f.stops tt (b ++ v) w tt (sym (append_assoc a b v) ∙ e) n;
}

pub word_later_stuck : (a b old mid new : List ℕ) → Found (word a) tt old mid → Stuck (word b) mid new → Stuck (word (a ++ b)) old new
word_later_stuck a b old mid new f g = record {
  front = a ++ g.front;
  cut = f.text ∙ (ap (λ z. a ++ z) g.cut ∙ sym (append_assoc a g.front new));
  value = tt;
  is = tt;
  rest = g.rest;
  goes = ap (λ z. a ++ z) g.goes ∙ sym (append_assoc a g.front g.rest);
  stops = λ y v w i e n. g.stops tt v w tt (same_front a (b ++ v) (g.front ++ w) (sym (append_assoc a b v) ∙ (e ∙ append_assoc a g.front w))) n;
}

-- ---- numbers

-- a byte that is no digit, and what stands behind it
end_follows : (end : ℕ) (v : List ℕ) → is_digit end ≡ false → Follows is_digit (end ∷ v)
end_follows end v h = h

pub unique_number : (P : ℕ → Type 0) (end : ℕ) → is_digit end ≡ false → Unique (number_so P end)
unique_number P end h x y v w i j e =
    let f : numeral x ++ (end ∷ v) ≡ numeral y ++ (end ∷ w) = sym (append_assoc (numeral x) (end ∷ []) v) ∙ (e ∙ append_assoc (numeral y) (end ∷ []) w) in
    let r = numeral_cut x y (end ∷ v) (end ∷ w) h h f in
    let s : end ∷ v ≡ end ∷ w = r.1 in
    let t : v ≡ w = cc in
    (r.0, t)

pub has_number : (P : ℕ → Type 0) (end : ℕ) → P 0 → Has (number_so P end)
has_number P end h = record { value = 0; is = h }

-- the digits are taken, and then the byte behind them
pub number_found : (P : ℕ → Type 0) (end n : ℕ) (old mid new : List ℕ) → P n → old ≡ numeral n ++ mid → Found (word (end ∷ [])) tt mid new → Found (number_so P end) n old new
number_found P end n old mid new h e f = record { is = h; text = e ∙ (ap (λ z. numeral n ++ z) f.text ∙ sym (append_assoc (numeral n) (end ∷ []) new)) }

follows_same : (f : ℕ → Bool) (w new : List ℕ) → SameNext w new → Follows f new → Follows f w
follows_same f [] [] h k = tt
follows_same f [] (d ∷ ds) h k = absurd h
follows_same f (c ∷ cs) [] h k = absurd h
follows_same f (c ∷ cs) (d ∷ ds) h k = ap f h ∙ k

next_cut : (front w mid new : List ℕ) → mid ≡ front ++ new → SameNext w new → SameNext (front ++ w) mid
next_cut [] w mid new e h = subst (SameNext w) (sym e) h
next_cut (c ∷ front) w mid new e h = subst (SameNext (c ∷ (front ++ w))) (sym e) refl

-- the digits are taken, and another byte stands behind them
pub number_end : (P : ℕ → Type 0) (end n : ℕ) (old mid new : List ℕ) → is_digit end ≡ false → P n → old ≡ numeral n ++ mid → Follows is_digit mid → Stuck (word (end ∷ [])) mid new → Stuck (number_so P end) old new
number_end P end n old mid new h p e f g = record {
  front = numeral n ++ g.front;
  cut = e ∙ (ap (λ z. numeral n ++ z) g.cut ∙ sym (append_assoc (numeral n) g.front new));
  value = n;
  is = p;
  rest = g.rest;
  goes = ap (λ z. numeral n ++ z) g.goes ∙ sym (append_assoc (numeral n) g.front g.rest);
  stops = λ y v w i k m.
      let l : numeral y ++ (end ∷ v) ≡ numeral n ++ (g.front ++ w) = sym (append_assoc (numeral y) (end ∷ []) v) ∙ (k ∙ append_assoc (numeral n) g.front w) in
      let r = numeral_cut y n (end ∷ v) (g.front ++ w) h (follows_same is_digit (g.front ++ w) mid (next_cut g.front w mid new g.cut m) f) l in
      g.stops tt v w tt r.1 m;
}

next_is : (w : List ℕ) (c : ℕ) (r : List ℕ) → SameNext w (c ∷ r) → (rest : List ℕ) × (w ≡ c ∷ rest)
next_is [] c r h = absurd h
next_is (d ∷ w) c r h = (w, ap (λ x. x ∷ w) h)

-- the next digit stands behind a 0, or leads to no such number
pub number_over : (P : ℕ → Type 0) (end n d : ℕ) (old new rest : List ℕ) → is_digit end ≡ false → P n → old ≡ numeral n ++ new → new ≡ (48 + d) ∷ rest → d < 10 →
    ((y : ℕ) → P y → 0 < n → n * 10 + d ≤ y → ⊥) → Stuck (number_so P end) old new
number_over P end n d old new rest h p e next k over = record {
  front = numeral n;
  cut = e;
  value = n;
  is = p;
  rest = end ∷ [];
  goes = refl;
  stops = λ y v w i g m.
      let r = next_is w (48 + d) rest (subst (SameNext w) next m) in
      let l : numeral y ++ (end ∷ v) ≡ numeral n ++ ((48 + d) ∷ r.0) = sym (append_assoc (numeral y) (end ∷ []) v) ∙ (g ∙ ap (λ z. numeral n ++ z) r.1) in
      let o = goes_longer n y d (end ∷ v) r.0 k h l in
      over y i o.0 o.1;
}

-- a digit more makes it too high, or stands behind a 0
pub over_high : (high n d y : ℕ) → (n ≡ 0) ⊎ (high < n * 10 + d) → y ≤ high → 0 < n → n * 10 + d ≤ y → ⊥
over_high high n d y (inl z) h some l = omega (arith, z)
over_high high n d y (inr o) h some l = omega arith

pub saturates_more : (v n w d : ℕ) → Saturates v n → Saturates w (v * 10 + d) → Saturates w (n * 10 + d)
saturates_more v n w d s t = (omega (arith, s.0, t.0), λ l. let e = t.1 l in let f = s.1 (omega (arith, e)) in omega (arith, e, f))

pub saturates_zero : (v n : ℕ) → Saturates v n → v ≡ 0 → n ≡ 0
saturates_zero v n s z = sym (s.1 (omega (arith, z))) ∙ z

-- the digits so far and the next one
pub number_more : (n d m : ℕ) (old mid new rest : List ℕ) → old ≡ numeral n ++ mid → mid ≡ (48 + d) ∷ rest → d < 10 → 0 < n → m ≡ n * 10 + d → new ≡ drop 1 mid → old ≡ numeral m ++ new
number_more n d m old mid new rest e f k some is after =
    let t : numeral m ≡ numeral n ++ ((48 + d) ∷ []) = ap numeral is ∙ numeral_push n d some k in
    let n' : new ≡ rest = after ∙ ap (drop 1) f in
    e ∙ (ap (λ z. numeral n ++ z) (f ∙ ap (λ z. (48 + d) ∷ z) (sym n')) ∙ (sym (append_assoc (numeral n) ((48 + d) ∷ []) new) ∙ ap (λ z. z ++ new) (sym t)))

pub first_taken : (d : ℕ) (old new rest : List ℕ) → old ≡ (48 + d) ∷ rest → d < 10 → new ≡ drop 1 old → old ≡ numeral d ++ new
first_taken d old new rest e k after =
    e ∙ (ap (λ z. (48 + d) ∷ z) (sym (after ∙ ap (drop 1) e)) ∙ ap (λ z. z ++ new) (sym (numeral_digit d k)))

first_same : (c : ℕ) (x y old : List ℕ) → c ∷ x ≡ y → SameNext y old → (rest : List ℕ) × (old ≡ c ∷ rest)
first_same c x [] old e h = cc
first_same c x (d ∷ y) [] e h = absurd h
first_same c x (d ∷ y) (b ∷ old) e h = let f : c ≡ d = cc in (old, ap (λ z. z ∷ old) (sym (f ∙ h)))

-- no such number begins here
stuck_at_once : (P : ℕ → Type 0) (end : ℕ) (old : List ℕ) → P 0 → ((y c : ℕ) (ds rest : List ℕ) → P y → numeral y ≡ c ∷ ds → old ≡ c ∷ rest → ⊥) → Stuck (number_so P end) old old
stuck_at_once P end old p none = record {
  front = [];
  cut = refl;
  value = 0;
  is = p;
  rest = number_text end 0;
  goes = refl;
  stops = λ y v w i g m.
      let s = numeral_some y in
      let t : s.0 ∷ ((s.1 ++ (end ∷ [])) ++ v) ≡ w = ap (λ z. (z ++ (end ∷ [])) ++ v) (sym s.2) ∙ g in
      let r = first_same s.0 ((s.1 ++ (end ∷ [])) ++ v) w old t m in
      none y s.0 s.1 r.0 i s.2 r.1;
}

pub number_none : (P : ℕ → Type 0) (end : ℕ) (old : List ℕ) → P 0 → Follows is_digit old → Stuck (number_so P end) old old
number_none P end old p f =
    stuck_at_once P end old p
    (λ y c ds rest i e g.
    let d = subst (λ z. IsTrue (list_all is_digit z)) e (numeral_digits y) in
    follows_stops is_digit old f c rest g (and_left (is_digit c) (list_all is_digit ds) d))

pub number_outside : (high end d : ℕ) (old rest : List ℕ) → old ≡ (48 + d) ∷ rest → d < 10 → high < d → Stuck (number_so (AtMost high) end) old old
number_outside high end d old rest e k over =
    stuck_at_once (AtMost high) end old (omega arith)
    (λ y c ds r h f g.
    let t : (48 + d) ∷ rest ≡ c ∷ r = sym e ∙ g in
    let b : c ≡ 48 + d = cc in
    let p = prefix_least (numeral d) y ds (f ∙ (ap (λ z. z ∷ ds) b ∙ ap (λ z. z ++ ds) (sym (numeral_digit d k)))) in
    let q : d ≤ y = subst (λ z. z ≤ y) (numeral_value d) p in
    omega arith)
