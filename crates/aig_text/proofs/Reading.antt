-- How readers join: one text behind another, another form of the same values, and answers that are passed on.
use Rattle.std.proofs.Common.{◌≡◌, ℕ, List, [], ◌∷◌, ◌++◌, Result, Ok, Err, sym, ap, ◌∙◌, subst, refl, append_assoc}
use Rattle.std.specs.Result.{IsErrAnd}
use Rattle.aig_text.specs.declared.cursor.Stop.{Stop}
use Rattle.aig_text.specs.declared.cursor.Stop.TheVariants.{Refused, Memory}
use Rattle.aig_text.specs.Reading.{Texts, Found, Stuck, Reads, SameNext, AtStop, also}

-- ---- the next byte

pub same_next : (w : List ℕ) → SameNext w w
same_next [] = tt
same_next (c ∷ cs) = refl

pub next_behind : (t w new : List ℕ) → SameNext w new → SameNext (t ++ w) (t ++ new)
next_behind [] w new h = h
next_behind (c ∷ t) w new h = refl

pub next_ends : (w : List ℕ) → SameNext w [] → w ≡ []
next_ends [] h = refl
next_ends (c ∷ cs) h = absurd h

pub append_none : {A : Type 0} (xs : List A) → xs ++ [] ≡ xs
append_none [] = refl
append_none (x ∷ xs) = ap (λ ys. x ∷ ys) (append_none xs)

pub same_front : (front x y : List ℕ) → front ++ x ≡ front ++ y → x ≡ y
same_front [] x y e = e
same_front (c ∷ cs) x y e = let f : cs ++ x ≡ cs ++ y = cc in same_front cs x y f

-- ---- one text behind another

-- bytes begin with the text of at most one value
abbrev pub Unique : {A : Type 0} → Texts A → Type 0
Unique {A} T = (x y : A) (v w : List ℕ) → T.Is x → T.Is y → T.text x ++ v ≡ T.text y ++ w → (x ≡ y) × (v ≡ w)

pub record Has {A : Type 0} (T : Texts A) : Type 0 where
  pub value : A
  pub is : T.Is value

pub has_also : {A B : Type 0} {S : Texts A} {T : A → Texts B} → Has S → ((x : A) → S.Is x → Has (T x)) → Has (also S T)
unfolding also
has_also h k = record { value = (h.value, (k h.value h.is).value); is = (h.is, (k h.value h.is).is) }

pub later_found : {A B : Type 0} {S : Texts A} (T : A → Texts B) {x : A} {y : B} {old mid new : List ℕ} →
    Found S x old mid → Found (T x) y mid new → Found (also S T) (x, y) old new
unfolding also
later_found {A} {B} {S} T {x} {y} {old} {mid} {new} f g = record {
  is = (f.is, g.is);
  text = f.text ∙ (ap (λ z. S.text x ++ z) g.text ∙ sym (append_assoc (S.text x) ((T x).text y) new));
}

pub later_stuck : {A B : Type 0} {S : Texts A} (T : A → Texts B) {x : A} {old mid new : List ℕ} →
    Unique S → Found S x old mid → Stuck (T x) mid new → Stuck (also S T) old new
unfolding also
later_stuck {A} {B} {S} T {x} {old} {mid} {new} u f g = record {
  front = S.text x ++ g.front;
  cut = f.text ∙ (ap (λ z. S.text x ++ z) g.cut ∙ sym (append_assoc (S.text x) g.front new));
  value = (x, g.value);
  is = (f.is, g.is);
  rest = g.rest;
  goes = ap (λ z. S.text x ++ z) g.goes ∙ sym (append_assoc (S.text x) g.front g.rest);
  stops = λ z v w i h n.
      let e : S.text z.0 ++ ((T z.0).text z.1 ++ v) ≡ S.text x ++ (g.front ++ w) =
      sym (append_assoc (S.text z.0) ((T z.0).text z.1) v) ∙ (h ∙ append_assoc (S.text x) g.front w) in
      let a = u z.0 x ((T z.0).text z.1 ++ v) (g.front ++ w) i.0 f.is e in
      g.stops z.1 v w (subst (λ q. (T q).Is z.1) a.0 i.1) (subst (λ q. (T q).text z.1 ++ v ≡ g.front ++ w) a.0 a.1) n;
}

pub first_stuck : {A B : Type 0} {S : Texts A} {T : A → Texts B} {old new : List ℕ} → Stuck S old new → ((x : A) → S.Is x → Has (T x)) → Stuck (also S T) old new
unfolding also
first_stuck {A} {B} {S} {T} {old} {new} f has =
    let h = has f.value f.is in
    record {
      front = f.front;
      cut = f.cut;
      value = (f.value, h.value);
      is = (f.is, h.is);
      rest = f.rest ++ (T f.value).text h.value;
      goes = ap (λ z. z ++ (T f.value).text h.value) f.goes ∙ append_assoc f.front f.rest ((T f.value).text h.value);
      stops = λ z v w i e n. f.stops z.0 ((T z.0).text z.1 ++ v) w i.0 (sym (append_assoc (S.text z.0) ((T z.0).text z.1) v) ∙ e) n;
    }

pub unique_also : {A B : Type 0} (S : Texts A) (T : A → Texts B) → Unique S → ((x : A) → S.Is x → Unique (T x)) → Unique (also S T)
unfolding also
unique_also {A} {B} S T u t x y v w i j h =
    let e : S.text x.0 ++ ((T x.0).text x.1 ++ v) ≡ S.text y.0 ++ ((T y.0).text y.1 ++ w) =
    sym (append_assoc (S.text x.0) ((T x.0).text x.1) v) ∙ (h ∙ append_assoc (S.text y.0) ((T y.0).text y.1) w) in
    let a = u x.0 y.0 ((T x.0).text x.1 ++ v) ((T y.0).text y.1 ++ w) i.0 j.0 e in
    let b = t y.0 j.0 x.1 y.1 v w (subst (λ q. (T q).Is x.1) a.0 i.1) j.1 (subst (λ q. (T q).text x.1 ++ v ≡ (T y.0).text y.1 ++ w) a.0 a.1) in
    (ap (λ p. let q : A × B = (p, x.1) in q) a.0 ∙ ap (λ p. let q : A × B = (y.0, p) in q) b.0, b.1)

-- ---- another form of the same values

-- the values of the one are values of the other with the same texts, and all of them
pub record View {A B : Type 0} (T : Texts B) (S : Texts A) (f : B → A) : Type 0 where
  pub is : (b : B) → T.Is b → S.Is (f b)
  pub text : (b : B) → T.Is b → T.text b ≡ S.text (f b)
  pub onto : (a : A) → S.Is a → (b : B) × T.Is b × (f b ≡ a)

pub view_found : {A B : Type 0} {S : Texts A} {T : Texts B} {f : B → A} {b : B} {old new : List ℕ} → View T S f → Found T b old new → Found S (f b) old new
view_found {A} {B} {S} {T} {f} {b} {old} {new} u g = record { is = u.is b g.is; text = g.text ∙ ap (λ z. z ++ new) (u.text b g.is) }

pub view_stuck : {A B : Type 0} {S : Texts A} {T : Texts B} {f : B → A} {old new : List ℕ} → View T S f → Stuck T old new → Stuck S old new
view_stuck {A} {B} {S} {T} {f} {old} {new} u g = record {
  front = g.front;
  cut = g.cut;
  value = f g.value;
  is = u.is g.value g.is;
  rest = g.rest;
  goes = sym (u.text g.value g.is) ∙ g.goes;
  stops = λ y v w i h n.
      let o = u.onto y i in
      let t : T.text o.0 ≡ S.text y = u.text o.0 o.1 ∙ ap S.text o.2 in
      g.stops o.0 v w o.1 (ap (λ z. z ++ v) t ∙ h) n;
}

pub view_unique : {A B : Type 0} {S : Texts A} {T : Texts B} {f : B → A} → View T S f → Unique T → Unique S
view_unique {A} {B} {S} {T} {f} u t x y v w i j h =
    let a = u.onto x i in
    let b = u.onto y j in
    let p : T.text a.0 ≡ S.text x = u.text a.0 a.1 ∙ ap S.text a.2 in
    let q : T.text b.0 ≡ S.text y = u.text b.0 b.1 ∙ ap S.text b.2 in
    let r = t a.0 b.0 v w a.1 b.1 (ap (λ z. z ++ v) p ∙ (h ∙ ap (λ z. z ++ w) (sym q))) in
    (sym a.2 ∙ (ap f r.0 ∙ b.2), r.1)

-- ---- answers that are passed on

pub at_stop : (e : Stop) {X Y : Type 0} → AtStop e X → (X → Y) → AtStop e Y
at_stop Refused h f = f h
at_stop Memory h f = tt

-- the error of one reader is that of the reader that called it
pub passed : {A : Type 0} {Q : Stop → Type 0} {e : Stop} {X Y : Type 0} (R : Result A Stop → Type 0) (r : Result A Stop) →
    IsErrAnd r Q → ((y : Stop) → Q y → y ≡ e) → ((y : Stop) → AtStop y Y → R (Err y)) → AtStop e X → (X → Y) → R r
passed {A} {Q} {e} {X} {Y} R r is same into h k =
    elim r as (λ z. IsErrAnd z Q → R z) [
      | Ok x ↦ λ i. absurd i
      | Err y ↦ λ i. into y (subst (λ z. AtStop z Y) (sym (same y i)) (at_stop e h k))
    ] is

-- the last reader's answer is the whole one's
pub joined : {B Y : Type 0} (T : Texts B) (r : Result B Stop) (R : Result B Stop → Type 0) {mid new : List ℕ} → Reads T r mid new →
    ((x : B) → Found T x mid new → R (Ok x)) → ((y : Stop) → AtStop y Y → R (Err y)) → (Stuck T mid new → Y) → R r
joined T (Ok x) R h found into stuck = found x h
joined T (Err e) R h found into stuck = into e (at_stop e h stuck)
