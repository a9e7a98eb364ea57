-- Rows of texts, which are numbered from some number on.
use Rattle.std.proofs.Common.{◌≡◌, ℕ, zero, suc, ◌+◌, ◌*◌, ◌-◌, ◌≤◌, ◌<◌, List, [], ◌∷◌, ◌++◌, length, sym, ap, ◌∙◌, subst, refl, append_assoc, arith, length-append}
use Rattle.aig_text.specs.GraphText.{lines_from, input_lines, line}
use Rattle.aig_text.specs.Reading.{Texts, Found, Stuck, word}
use Rattle.aig_text.specs.Forms.{AreRows, rows, input}
use Rattle.aig_text.proofs.Reading.{Unique, Has, View, append_none}

abbrev pub rows_text : {A : Type 0} → (ℕ → Texts A) → ℕ → List A → List ℕ
rows_text row k xs = lines_from (λ i. (row i).text) k xs

next_number : (k n : ℕ) → suc k + n ≡ k + suc n
next_number k n = omega arith

rows_append : {A : Type 0} (row : ℕ → Texts A) (k : ℕ) (xs ys : List A) → rows_text row k (xs ++ ys) ≡ rows_text row k xs ++ rows_text row (k + length xs) ys
rows_append row k [] ys = let e : k ≡ k + 0 = omega arith in ap (λ i. rows_text row i ys) e
rows_append row k (x ∷ xs) ys =
    ap (λ z. (row k).text x ++ z) (rows_append row (suc k) xs ys ∙ ap (λ i. rows_text row (suc k) xs ++ rows_text row i ys) (next_number k (length xs)))
    ∙ sym (append_assoc ((row k).text x) (rows_text row (suc k) xs) (rows_text row (k + suc (length xs)) ys))

are_append : {A : Type 0} (row : ℕ → Texts A) (k : ℕ) (xs ys : List A) → AreRows row k xs → AreRows row (k + length xs) ys → AreRows row k (xs ++ ys)
are_append row k [] ys i j = let e : k + 0 ≡ k = omega arith in subst (λ n. AreRows row n ys) e j
are_append row k (x ∷ xs) ys i j = (i.0, are_append row (suc k) xs ys i.1 (subst (λ n. AreRows row n ys) (sym (next_number k (length xs))) j))

-- one more row
pub rows_more : {A : Type 0} (row : ℕ → Texts A) (k j : ℕ) (xs : List A) (x : A) (old mid new : List ℕ) →
    Found (rows row k j) xs old mid → Found (row (k + j)) x mid new → Found (rows row k (j + 1)) (xs ++ (x ∷ [])) old new
rows_more row k j xs x old mid new f g =
    let n = f.is.0 in
    let at : k + j ≡ k + length xs = ap (λ i. k + i) (sym n) in
    let l = length-append xs (x ∷ []) in
    record {
      is = (omega (arith, l, n), are_append row k xs (x ∷ []) f.is.1 (subst (λ i. (row i).Is x) at g.is, tt));
      text = f.text ∙ (ap (λ z. rows_text row k xs ++ z) (g.text ∙ ap (λ i. (row i).text x ++ new) at)
          ∙ (sym (append_assoc (rows_text row k xs) ((row (k + length xs)).text x) new)
          ∙ ap (λ z. z ++ new) (ap (λ z. rows_text row k xs ++ z) (sym (append_none ((row (k + length xs)).text x))) ∙ sym (rows_append row k xs (x ∷ [])))));
    }

pub rows_none : {A : Type 0} (row : ℕ → Texts A) (k : ℕ) (old : List ℕ) → Found (rows row k 0) [] old old
rows_none row k old = record { is = (refl, tt); text = refl }

-- the other list of rows begins with these
rows_begin : {A : Type 0} (row : ℕ → Texts A) → ((i : ℕ) → Unique (row i)) → (k : ℕ) (xs ys : List A) (v u : List ℕ) → AreRows row k xs → AreRows row k ys → length xs ≤ length ys →
    rows_text row k ys ++ v ≡ rows_text row k xs ++ u → (zs : List A) × (ys ≡ xs ++ zs) × AreRows row (k + length xs) zs × (rows_text row (k + length xs) zs ++ v ≡ u)
rows_begin {A} row one k [] ys v u i j l e =
    let n : k ≡ k + 0 = omega arith in
    (ys, refl, subst (λ m. AreRows row m ys) n j, ap (λ m. rows_text row m ys ++ v) (sym n) ∙ e)
rows_begin {A} row one k (x ∷ xs) [] v u i j l e = absurd (omega arith)
rows_begin {A} row one k (x ∷ xs) (y ∷ ys) v u i j l e =
    let f : (row k).text y ++ (rows_text row (suc k) ys ++ v) ≡ (row k).text x ++ (rows_text row (suc k) xs ++ u) =
    sym (append_assoc ((row k).text y) (rows_text row (suc k) ys) v) ∙ (e ∙ append_assoc ((row k).text x) (rows_text row (suc k) xs) u) in
    let a = one k y x (rows_text row (suc k) ys ++ v) (rows_text row (suc k) xs ++ u) j.0 i.0 f in
    let b = rows_begin row one (suc k) xs ys v u i.1 j.1 (omega arith) a.1 in
    let n = next_number k (length xs) in
    (b.0, ap (λ z. z ∷ ys) a.0 ∙ ap (λ z. x ∷ z) b.1, subst (λ m. AreRows row m b.0) n b.2, ap (λ m. rows_text row m b.0 ++ v) (sym n) ∙ b.3)

-- rows of any kind
fill : {A : Type 0} (row : ℕ → Texts A) (k n : ℕ) → ((i : ℕ) → k ≤ i → Has (row i)) → (xs : List A) × (length xs ≡ n) × AreRows row k xs
fill row k zero has = ([], refl, tt)
fill row k (suc n) has =
    let h = has k (omega arith) in
    let r = fill row (suc k) n (λ i l. has i (omega arith)) in
    (h.value ∷ r.0, ap suc r.1, (h.is, r.2))

pub has_rows : {A : Type 0} (row : ℕ → Texts A) (k n : ℕ) → ((i : ℕ) → k ≤ i → Has (row i)) → Has (rows row k n)
has_rows row k n has = let r = fill row k n has in record { value = r.0; is = (r.1, r.2) }

pub unique_rows : {A : Type 0} (row : ℕ → Texts A) → ((i : ℕ) → Unique (row i)) → (k n : ℕ) → Unique (rows row k n)
unique_rows {A} row one k n xs ys v w i j e =
    let r = rows_begin row one k ys xs v w j.1 i.1 (omega (arith, i.0, j.0)) e in
    elim r.0 as (λ zs. xs ≡ ys ++ zs → rows_text row (k + length ys) zs ++ v ≡ w → (xs ≡ ys) × (v ≡ w)) [
      | [] ↦ λ p q. (p ∙ append_none ys, q)
      | z ∷ zs ↦ λ p q. let l = ap length p ∙ length-append ys (z ∷ zs) in absurd (omega (arith, l, i.0, j.0))
    ] r.1 r.3

-- no such row goes on, and there is to be one
pub rows_stuck : {A : Type 0} (row : ℕ → Texts A) → ((i : ℕ) → Unique (row i)) → (k j n : ℕ) → ((i : ℕ) → k ≤ i → Has (row i)) → (xs : List A) (old mid new : List ℕ) →
    j < n → Found (rows row k j) xs old mid → Stuck (row (k + j)) mid new → Stuck (rows row k n) old new
rows_stuck {A} row one k j n has xs old mid new less f g =
    let size = f.is.0 in
    let at : k + j ≡ k + length xs = ap (λ i. k + i) (sym size) in
    let more = fill row (suc (k + length xs)) (n - j - 1) (λ i l. has i (omega arith)) in
    let last = rows_text row (suc (k + length xs)) more.0 in
    let xs' = rows_text row k xs in
    let long = length-append xs (g.value ∷ more.0) in
    record {
      front = xs' ++ g.front;
      cut = f.text ∙ (ap (λ z. xs' ++ z) g.cut ∙ sym (append_assoc xs' g.front new));
      value = xs ++ (g.value ∷ more.0);
      is = (omega (arith, long, size, more.1), are_append row k xs (g.value ∷ more.0) f.is.1 (subst (λ i. (row i).Is g.value) at g.is, more.2));
      rest = g.rest ++ last;
      goes = rows_append row k xs (g.value ∷ more.0)
          ∙ (ap (λ z. xs' ++ (z ++ last)) (sym (ap (λ i. (row i).text g.value) at) ∙ g.goes)
          ∙ (ap (λ z. xs' ++ z) (append_assoc g.front g.rest last) ∙ sym (append_assoc xs' g.front (g.rest ++ last))));
      stops = λ ys v w i e m.
          let r = rows_begin row one k xs ys v (g.front ++ w) f.is.1 i.1 (omega (arith, i.0, size)) (e ∙ append_assoc xs' g.front w) in
          elim r.0 as (λ zs. ys ≡ xs ++ zs → AreRows row (k + length xs) zs → rows_text row (k + length xs) zs ++ v ≡ g.front ++ w → ⊥) [
            | [] ↦ λ p q s. let l = ap length p ∙ length-append xs [] in omega (arith, l, i.0, size)
            | z ∷ zs ↦ λ p q s.
                g.stops z (rows_text row (suc (k + length xs)) zs ++ v) w (subst (λ i. (row i).Is z) (sym at) q.0)
                (ap (λ i. (row i).text z ++ (rows_text row (suc (k + length xs)) zs ++ v)) at ∙ (sym (append_assoc ((row (k + length xs)).text z) (rows_text row (suc (k + length xs)) zs) v) ∙ s)) m
          ] r.1 r.2 r.3;
    }

-- each row takes two bytes or more
pub rows_long : {A : Type 0} (row : ℕ → Texts A) → ((i : ℕ) (x : A) → 2 ≤ length ((row i).text x)) → (k : ℕ) (xs : List A) → 2 * length xs ≤ length (rows_text row k xs)
rows_long row some k [] = omega arith
rows_long row some k (x ∷ xs) =
    let l = rows_long row some (suc k) xs in
    let m = length-append ((row k).text x) (rows_text row (suc k) xs) in
    omega (arith, l, m, some k x)

-- ---- the lines of inputs say nothing but their number

units_text : (k : ℕ) (us : List (Unit {0})) → rows_text input k us ≡ input_lines k (length us)
units_text k [] = refl
units_text k (u ∷ us) = ap (λ z. line (2 * k ∷ []) ++ z) (units_text (suc k) us)

units : (n : ℕ) → (us : List (Unit {0})) × (length us ≡ n)
units zero = ([], refl)
units (suc n) = let r = units n in (tt ∷ r.0, ap suc r.1)

are_units : (k : ℕ) (us : List (Unit {0})) → AreRows input k us
are_units k [] = tt
are_units k (u ∷ us) = (tt, are_units (suc k) us)

pub inputs_view : (k n : ℕ) → View (rows input k n) (word (input_lines k n)) (λ us. tt)
inputs_view k n = record {
  is = λ us i. tt;
  text = λ us i. units_text k us ∙ ap (input_lines k) i.0;
  onto = λ a i. let r = units n in (r.0, (r.1, are_units k r.0), refl);
}
