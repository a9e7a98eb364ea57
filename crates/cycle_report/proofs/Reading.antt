-- How readers join: one text behind another, rows of texts, and another form of the same values.
use Rattle.std.proofs.Common.{◌≡◌, ℕ, ◌≤◌, ◌<◌, Bool, true, false, ◌||◌, ◌==◌, List, [], ◌∷◌, ◌++◌, length, Result, Ok, Err, sym, ap, ◌∙◌, subst, refl, append_assoc, eq-eqb, inl, inr, ◌⊎◌, arith}
use Rattle.std.specs.Result.{IsErrAnd}
use Rattle.std.specs.List.{All}
use Rattle.std.proofs.lemmas.List.Elements.{All-head, All-tail, All-push, All-nil}
use Rattle.std.proofs.lemmas.Bool.Decides.{eqb_tells}
use Rattle.cycle_report.specs.ReportText.{lines_of}
use Rattle.cycle_report.proofs.Appends.{append_none, lines_of-push}
use Rattle.cycle_report.specs.declared.cursor.Stop.{Stop}
use Rattle.cycle_report.specs.declared.cursor.Stop.TheVariants.{Refused, Memory}
use Rattle.cycle_report.specs.Reading.{Texts, Found, Stuck, Reads, ReadsAs, SameNext, Follows, begins, any_byte, both, many}

-- ---- the next byte

pub same_next : (w : List ℕ) → SameNext w w
same_next [] = tt
same_next (c ∷ cs) = refl

pub next_behind : (t w new : List ℕ) → SameNext w new → SameNext (t ++ w) (t ++ new)
next_behind [] w new h = h
next_behind (c ∷ t) w new h = refl

pub next_ends : (new : List ℕ) → SameNext [] new → new ≡ []
next_ends [] h = refl
next_ends (c ∷ cs) h = absurd h

pub follows_same : (f : ℕ → Bool) (w new : List ℕ) → SameNext w new → Follows f new → Follows f w
follows_same f [] [] h k = tt
follows_same f [] (d ∷ ds) h k = absurd h
follows_same f (c ∷ cs) [] h k = absurd h
follows_same f (c ∷ cs) (d ∷ ds) h k = ap f h ∙ k

-- ---- one text behind another

-- what this text never stands before does not begin the other
abbrev pub Fits : {A B : Type 0} → Texts A → Texts B → Type 0
Fits {A} {B} S T = (y : B) (v : List ℕ) → T.Is y → Follows T.never v → Follows S.never (T.text y ++ v)

pub record Has {A : Type 0} (T : Texts A) : Type 0 where
  pub value : A
  pub is : T.Is value

pub has_both : {A B : Type 0} {S : Texts A} {T : Texts B} → Has S → Has T → Has (both S T)
has_both h k = record { value = (h.value, k.value); is = (h.is, k.is) }

pub later_found : {A B : Type 0} {S : Texts A} {T : Texts B} {x : A} {y : B} {old mid new : List ℕ} →
    Found S x old mid → Found T y mid new → Fits S T → Found (both S T) (x, y) old new
later_found {A} {B} {S} {T} {x} {y} {old} {mid} {new} f g fits = record {
  is = (f.is, g.is);
  text = f.text ∙ (ap (λ z. S.text x ++ z) g.text ∙ sym (append_assoc (S.text x) (T.text y) new));
  only = λ z v w i e h n.
      let e' : S.text z.0 ++ (T.text z.1 ++ v) ≡ S.text x ++ (T.text y ++ w) =
      sym (append_assoc (S.text z.0) (T.text z.1) v) ∙ (h ∙ append_assoc (S.text x) (T.text y) w) in
      let a = f.only z.0 (T.text z.1 ++ v) (T.text y ++ w) i.0 (fits z.1 v i.1 e) e' (subst (SameNext (T.text y ++ w)) (sym g.text) (next_behind (T.text y) w new n)) in
      let b = g.only z.1 v w i.1 e a.1 n in
      (ap (λ p. let q : A × B = (p, z.1) in q) a.0 ∙ ap (λ p. let q : A × B = (x, p) in q) b.0, b.1);
}

pub later_stuck : {A B : Type 0} {S : Texts A} {T : Texts B} {x : A} {old mid new : List ℕ} →
    Found S x old mid → Stuck T mid new → Fits S T → Stuck (both S T) old new
later_stuck {A} {B} {S} {T} {x} {old} {mid} {new} f g fits = record {
  front = S.text x ++ g.front;
  cut = f.text ∙ (ap (λ z. S.text x ++ z) g.cut ∙ sym (append_assoc (S.text x) g.front new));
  value = (x, g.value);
  is = (f.is, g.is);
  rest = g.rest;
  goes = ap (λ z. S.text x ++ z) g.goes ∙ sym (append_assoc (S.text x) g.front g.rest);
  stops = λ z v w i e h n.
      let e' : S.text z.0 ++ (T.text z.1 ++ v) ≡ S.text x ++ (g.front ++ w) =
      sym (append_assoc (S.text z.0) (T.text z.1) v) ∙ (h ∙ append_assoc (S.text x) g.front w) in
      let a = f.only z.0 (T.text z.1 ++ v) (g.front ++ w) i.0 (fits z.1 v i.1 e) e' (subst (SameNext (g.front ++ w)) (sym g.cut) (next_behind g.front w new n)) in
      g.stops z.1 v w i.1 e a.1 n;
}

pub first_stuck : {A B : Type 0} {S : Texts A} {T : Texts B} {old new : List ℕ} → Stuck S old new → Has T → Fits S T → Stuck (both S T) old new
first_stuck {A} {B} {S} {T} {old} {new} f has fits = record {
  front = f.front;
  cut = f.cut;
  value = (f.value, has.value);
  is = (f.is, has.is);
  rest = f.rest ++ T.text has.value;
  goes = ap (λ z. z ++ T.text has.value) f.goes ∙ append_assoc f.front f.rest (T.text has.value);
  stops = λ z v w i e h n.
      f.stops z.0 (T.text z.1 ++ v) w i.0 (fits z.1 v i.1 e) (sym (append_assoc (S.text z.0) (T.text z.1) v) ∙ h) n;
}

-- ---- another form of the same values

-- no text of this value goes on with the next byte of these
abbrev pub Apart : {A : Type 0} → Texts A → A → List ℕ → Type 0
Apart S a old = (v : List ℕ) → Follows S.never v → SameNext (S.text a ++ v) old → ⊥

-- the values of the one are values of the other with the same texts, and all whose texts can go on with the next byte
pub record View {A B : Type 0} (T : Texts B) (S : Texts A) (f : B → A) (old : List ℕ) : Type 0 where
  pub is : (b : B) → T.Is b → S.Is (f b)
  pub text : (b : B) → T.Is b → T.text b ≡ S.text (f b)
  pub onto : (a : A) → S.Is a → ((b : B) × T.Is b × (f b ≡ a)) ⊎ Apart S a old
  pub ends : (v : List ℕ) → Follows S.never v → Follows T.never v

pub view_found : {A B : Type 0} {S : Texts A} {T : Texts B} {f : B → A} {b : B} {old new : List ℕ} → View T S f old → Found T b old new → Found S (f b) old new
view_found {A} {B} {S} {T} {f} {b} {old} {new} u g = record {
  is = u.is b g.is;
  text = g.text ∙ ap (λ z. z ++ new) (u.text b g.is);
  only = λ y v w i e h n.
      elim (u.onto y i) [
        | inl o ↦
            let t : T.text o.0 ≡ S.text y = u.text o.0 o.1 ∙ ap S.text o.2 in
            let r = g.only o.0 v w o.1 (u.ends v e) (ap (λ z. z ++ v) t ∙ (h ∙ ap (λ z. z ++ w) (sym (u.text b g.is)))) n in
            (sym o.2 ∙ ap f r.0, r.1)
        | inr apart ↦
            absurd (apart v e (subst (λ z. SameNext z old) (ap (λ z. z ++ w) (u.text b g.is) ∙ sym h) (subst (SameNext (T.text b ++ w)) (sym g.text) (next_behind (T.text b) w new n))))
      ];
}

pub view_stuck : {A B : Type 0} {S : Texts A} {T : Texts B} {f : B → A} {old new : List ℕ} → View T S f old → Stuck T old new → Stuck S old new
view_stuck {A} {B} {S} {T} {f} {old} {new} u g = record {
  front = g.front;
  cut = g.cut;
  value = f g.value;
  is = u.is g.value g.is;
  rest = g.rest;
  goes = sym (u.text g.value g.is) ∙ g.goes;
  stops = λ y v w i e h n.
      elim (u.onto y i) [
        | inl o ↦
            let t : T.text o.0 ≡ S.text y = u.text o.0 o.1 ∙ ap S.text o.2 in
            g.stops o.0 v w o.1 (u.ends v e) (ap (λ z. z ++ v) t ∙ h) n
        | inr apart ↦
            apart v e (subst (λ z. SameNext z old) (sym h) (subst (SameNext (g.front ++ w)) (sym g.cut) (next_behind g.front w new n)))
      ];
}

-- ---- the next byte's tests

pub begins_next : (c : ℕ) (w old : List ℕ) → SameNext w old → begins c w ≡ begins c old
begins_next c [] [] h = refl
begins_next c [] (d ∷ ds) h = absurd h
begins_next c (b ∷ w) [] h = absurd h
begins_next c (b ∷ w) (d ∷ ds) h = ap (λ x. x == c) h

pub begins_itself : (c : ℕ) (w : List ℕ) → begins c (c ∷ w) ≡ true
begins_itself c w = eq-eqb c c refl

pub follows_begins : (f : ℕ → Bool) (c : ℕ) (v : List ℕ) → f c ≡ true → Follows f v → begins c v ≡ false
follows_begins f c [] h k = refl
follows_begins f c (d ∷ v) h k =
    elim (eqb_tells d c) [
      | inl s ↦ let t : false ≡ true = sym k ∙ (ap f s.1 ∙ h) in absurd (cc)
      | inr n ↦ n.0
    ]

pub true_false : {A : Type 0} (b : Bool) → b ≡ true → b ≡ false → A
true_false b h k = let t : true ≡ false = sym h ∙ k in absurd (cc)

-- ---- rows

abbrev pub Heads : {A : Type 0} → ℕ → Texts A → Type 0
Heads {A} head T = (y : A) → T.Is y → (rest : List ℕ) × (T.text y ≡ head ∷ rest)

-- some rows are taken, and whatever goes on with the next byte begins with them
pub record Begun {A : Type 0} (head : ℕ) (T : Texts A) (xs : List A) (old left : List ℕ) : Type 0 where
  pub is : All T.Is xs
  pub text : old ≡ lines_of T.text xs ++ left
  pub only : (ys : List A) (v w : List ℕ) → All T.Is ys → Follows (many head T).never v → lines_of T.text ys ++ v ≡ lines_of T.text xs ++ w → SameNext w left →
      (zs : List A) × (ys ≡ xs ++ zs) × All T.Is zs × (lines_of T.text zs ++ v ≡ w)

pub begun : {A : Type 0} (head : ℕ) (T : Texts A) (old : List ℕ) → Begun head T [] old old
begun {A} head T old = record { is = All-nil T.Is; text = refl; only = λ ys v w i f h n. (ys, refl, i, h) }

or_left : (a b : Bool) → a ≡ true → (a || b) ≡ true
or_left true b h = refl
or_left false b h = absurd (cc)

pub or_false : (a b : Bool) → (a || b) ≡ false → (a ≡ false) × (b ≡ false)
or_false true b h = absurd (cc)
or_false false b h = (refl, h)

not_head : {A : Type 0} (head : ℕ) (T : Texts A) (v : List ℕ) → Follows (many head T).never v → begins head v ≡ false
not_head head T v f = follows_begins (many head T).never head v (or_left (head == head) (T.never head) (eq-eqb head head refl)) f

after_row : {A : Type 0} (head : ℕ) (T : Texts A) (v : List ℕ) → Follows (many head T).never v → Follows T.never v
after_row head T [] f = tt
after_row head T (c ∷ v) f = (or_false (c == head) (T.never c) f).1

-- what follows the rows follows each of them
rows_follow : {A : Type 0} (head : ℕ) (T : Texts A) (zs : List A) (v : List ℕ) → Heads head T → T.never head ≡ false → All T.Is zs → Follows (many head T).never v → Follows T.never (lines_of T.text zs ++ v)
rows_follow head T [] v heads k i f = after_row head T v f
rows_follow head T (z ∷ zs) v heads k i f =
    let s = heads z (All-head T.Is z zs i) in
    subst (λ t. Follows T.never ((t ++ lines_of T.text zs) ++ v)) (sym s.1) k

begins_row : {A : Type 0} (head : ℕ) (T : Texts A) (x : A) (w : List ℕ) → Heads head T → T.Is x → begins head (T.text x ++ w) ≡ true
begins_row head T x w heads i = let s = heads x i in ap (λ t. begins head (t ++ w)) s.1 ∙ begins_itself head (s.0 ++ w)

append_row : {A : Type 0} (xs : List A) (x : A) (zs : List A) → xs ++ (x ∷ zs) ≡ (xs ++ (x ∷ [])) ++ zs
append_row xs x zs = sym (append_assoc xs (x ∷ []) zs)

pub begun_more : {A : Type 0} {head : ℕ} {T : Texts A} {xs : List A} {x : A} {old left new : List ℕ} → Heads head T → T.never head ≡ false → Begun head T xs old left → Found T x left new → Begun head T (xs ++ (x ∷ [])) old new
begun_more {A} {head} {T} {xs} {x} {old} {left} {new} heads k b f =
    let row = lines_of-push T.text xs x in
    record {
      is = All-push T.Is xs x b.is f.is;
      text = b.text ∙ (ap (λ z. lines_of T.text xs ++ z) f.text ∙ (sym (append_assoc (lines_of T.text xs) (T.text x) new) ∙ ap (λ z. z ++ new) (sym row)));
      only = λ ys v w i g h n.
          let e = h ∙ (ap (λ z. z ++ w) row ∙ append_assoc (lines_of T.text xs) (T.text x) w) in
          let r = b.only ys v (T.text x ++ w) i g e (subst (SameNext (T.text x ++ w)) (sym f.text) (next_behind (T.text x) w new n)) in
          elim r.0 as (λ zs. ys ≡ xs ++ zs → All T.Is zs → lines_of T.text zs ++ v ≡ T.text x ++ w → (zs : List A) × (ys ≡ (xs ++ (x ∷ [])) ++ zs) × All T.Is zs × (lines_of T.text zs ++ v ≡ w)) [
            | [] ↦ λ p q s. true_false (begins head v) (ap (begins head) s ∙ begins_row head T x w heads f.is) (not_head head T v g)
            | z ∷ zs ↦ λ p q s.
                let o = f.only z (lines_of T.text zs ++ v) w (All-head T.Is z zs q) (rows_follow head T zs v heads k (All-tail T.Is z zs q) g) (sym (append_assoc (T.text z) (lines_of T.text zs) v) ∙ s) n in
                (zs, p ∙ (ap (λ y. xs ++ (y ∷ zs)) o.0 ∙ append_row xs x zs), All-tail T.Is z zs q, o.1)
          ] r.1 r.2 r.3;
    }

pub begun_end : {A : Type 0} {head : ℕ} {T : Texts A} {xs : List A} {old left : List ℕ} → Heads head T → Begun head T xs old left → begins head left ≡ false → Found (many head T) xs old left
begun_end {A} {head} {T} {xs} {old} {left} heads b d = record {
  is = b.is;
  text = b.text;
  only = λ ys v w i g h n.
      let r = b.only ys v w i g h n in
      elim r.0 as (λ zs. ys ≡ xs ++ zs → All T.Is zs → lines_of T.text zs ++ v ≡ w → (ys ≡ xs) × (v ≡ w)) [
        | [] ↦ λ p q s. (p ∙ append_none xs, s)
        | z ∷ zs ↦ λ p q s.
            let t = begins_row head T z (lines_of T.text zs ++ v) heads (All-head T.Is z zs q) in
            true_false (begins head left) (sym (begins_next head w left n) ∙ (ap (begins head) (sym s ∙ append_assoc (T.text z) (lines_of T.text zs) v) ∙ t)) d
      ] r.1 r.2 r.3;
}

pub begun_stuck : {A : Type 0} {head : ℕ} {T : Texts A} {xs : List A} {old left new : List ℕ} → Heads head T → T.never head ≡ false → Begun head T xs old left → begins head left ≡ true → Stuck T left new → Stuck (many head T) old new
begun_stuck {A} {head} {T} {xs} {old} {left} {new} heads k b d f =
    let xs' = lines_of T.text xs in
    record {
      front = xs' ++ f.front;
      cut = b.text ∙ (ap (λ z. xs' ++ z) f.cut ∙ sym (append_assoc xs' f.front new));
      value = xs ++ (f.value ∷ []);
      is = All-push T.Is xs f.value b.is f.is;
      rest = f.rest;
      goes = lines_of-push T.text xs f.value ∙ (ap (λ z. xs' ++ z) f.goes ∙ sym (append_assoc xs' f.front f.rest));
      stops = λ ys v w i g h n.
          let m : SameNext (f.front ++ w) left = subst (SameNext (f.front ++ w)) (sym f.cut) (next_behind f.front w new n) in
          let r = b.only ys v (f.front ++ w) i g (h ∙ append_assoc xs' f.front w) m in
          elim r.0 as (λ zs. ys ≡ xs ++ zs → All T.Is zs → lines_of T.text zs ++ v ≡ f.front ++ w → ⊥) [
            | [] ↦ λ p q s. true_false (begins head v) (ap (begins head) s ∙ (begins_next head (f.front ++ w) left m ∙ d)) (not_head head T v g)
            | z ∷ zs ↦ λ p q s.
                f.stops z (lines_of T.text zs ++ v) w (All-head T.Is z zs q) (rows_follow head T zs v heads k (All-tail T.Is z zs q) g) (sym (append_assoc (T.text z) (lines_of T.text zs) v) ∙ s) n
          ] r.1 r.2 r.3;
    }

-- rows follow where what follows them does, and their first byte does
pub before_rows : {A : Type 0} (f : ℕ → Bool) (head : ℕ) (T : Texts A) (zs : List A) (v : List ℕ) → Heads head T → f head ≡ false → All T.Is zs → Follows f v → Follows f (lines_of T.text zs ++ v)
before_rows f head T [] v heads k i g = g
before_rows f head T (z ∷ zs) v heads k i g =
    let s = heads z (All-head T.Is z zs i) in
    subst (λ t. Follows f ((t ++ lines_of T.text zs) ++ v)) (sym s.1) k

-- ---- answers that are passed on

stuck_or_none : {A B : Type 0} (S : Texts A) (T : Texts B) (e : Stop) (old mid new : List ℕ) → Reads T (Err e) mid new → (Stuck T mid new → Stuck S old new) → Reads S (Err e) old new
stuck_or_none S T Refused old mid new h k = k h
stuck_or_none S T Memory old mid new h k = tt

err_as : {A B : Type 0} (S : Texts A) (f : B → A) (e : Stop) (old new : List ℕ) → Reads S (Err e) old new → ReadsAs S f (Err e) old new
err_as S f Refused old new h = h
err_as S f Memory old new h = h

pub passed : {A B : Type 0} {S : Texts A} {Q : Stop → Type 0} {e : Stop} {old mid new : List ℕ} (T : Texts B) (r : Result A Stop) →
    IsErrAnd r Q → ((y : Stop) → Q y → y ≡ e) → Reads T (Err e) mid new → (Stuck T mid new → Stuck S old new) → Reads S r old new
passed {A} {B} {S} {Q} {e} {old} {mid} {new} T r is same h k =
    let g = stuck_or_none S T e old mid new h k in
    elim r as (λ z. IsErrAnd z Q → Reads S z old new) [
      | Ok x ↦ λ i. absurd i
      | Err y ↦ λ i. subst (λ z. Reads S (Err z) old new) (sym (same y i)) g
    ] is

pub passed_as : {A B C : Type 0} {S : Texts A} {Q : Stop → Type 0} {e : Stop} {old mid new : List ℕ} (f : C → A) (T : Texts B) (r : Result C Stop) →
    IsErrAnd r Q → ((y : Stop) → Q y → y ≡ e) → Reads T (Err e) mid new → (Stuck T mid new → Stuck S old new) → ReadsAs S f r old new
passed_as {A} {B} {C} {S} {Q} {e} {old} {mid} {new} f T r is same h k =
    let g = err_as S f e old new (stuck_or_none S T e old mid new h k) in
    elim r as (λ z. IsErrAnd z Q → ReadsAs S f z old new) [
      | Ok x ↦ λ i. absurd i
      | Err y ↦ λ i. subst (λ z. ReadsAs S f (Err z) old new) (sym (same y i)) g
    ] is

pub no_memory : {A : Type 0} {Q : Stop → Type 0} (S : Texts A) (r : Result A Stop) (old new : List ℕ) → IsErrAnd r Q → ((y : Stop) → Q y → y ≡ Memory) → Reads S r old new
no_memory {A} {Q} S r old new is same =
    elim r as (λ z. IsErrAnd z Q → Reads S z old new) [
      | Ok x ↦ λ i. absurd i
      | Err y ↦ λ i. subst (λ z. Reads S (Err z) old new) (sym (same y i)) tt
    ] is

pub no_memory_as : {A B : Type 0} {Q : Stop → Type 0} (S : Texts A) (f : B → A) (r : Result B Stop) (old new : List ℕ) → IsErrAnd r Q → ((y : Stop) → Q y → y ≡ Memory) → ReadsAs S f r old new
no_memory_as {A} {B} {Q} S f r old new is same =
    elim r as (λ z. IsErrAnd z Q → ReadsAs S f z old new) [
      | Ok x ↦ λ i. absurd i
      | Err y ↦ λ i. subst (λ z. ReadsAs S f (Err z) old new) (sym (same y i)) tt
    ] is

-- the last reader's answer is the whole one's
pub joined : {A : Type 0} (S T : Texts A) (r : Result A Stop) {old mid new : List ℕ} → Reads T r mid new → ((x : A) → Found T x mid new → Found S x old new) → (Stuck T mid new → Stuck S old new) → Reads S r old new
joined S T (Ok x) h f g = f x h
joined S T (Err Refused) h f g = g h
joined S T (Err Memory) h f g = tt

pub any_follows : (x : List ℕ) → Follows any_byte x
any_follows [] = tt
any_follows (c ∷ cs) = refl

longer : (x y : List ℕ) → length y ≤ length (x ++ y)
longer [] y = omega arith
longer (c ∷ x) y = let h = longer x y in omega (arith, h)

pub found_shorter : {A : Type 0} {head : ℕ} {T : Texts A} {x : A} {old new : List ℕ} → Heads head T → Found T x old new → length new < length old
found_shorter {A} {head} {T} {x} {old} {new} heads f =
    let s = heads x f.is in
    let e : length old ≡ length ((head ∷ s.0) ++ new) = ap length (f.text ∙ ap (λ z. z ++ new) s.1) in
    omega (arith, e, longer s.0 new)
