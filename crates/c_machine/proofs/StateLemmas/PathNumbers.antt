-- Numbers of paths: each path has one.
use Rattle.std.proofs.Common.{◌≡◌, ◌≢◌, ℕ, zero, suc, ◌<◌, ◌≤◌, ◌∙◌, sym, refl, ap, subst, ◌⊎◌, inl, inr, List, [], ◌∷◌, ◌++◌, length, append_assoc, Option, Some, None, arith, length-append}
use Rattle.std.specs.Prelude.{slice_get}
use Rattle.std.proofs.lemmas.Bool.{cases_lt}
use Rattle.std.proofs.lemmas.List.{append-nil}
use Rattle.std.proofs.lemmas.Option.{slice_get_within}
use Rattle.hls_base.specs.declared.place.Place.{Place}
use Rattle.c_machine.specs.declared.state.meter.Call.{Call}
use Rattle.c_machine.specs.State.PassedPaths.{PathTable, path_in, path_of, IsNumber, IsBefore, IsPathTable, Extends}

abbrev pub Entry : Type 0
Entry = Call × List Place

-- ---- lists

pub front : {X : Type 0} (xs ys : List X) (i : ℕ) → i < length xs → slice_get (xs ++ ys) i ≡ slice_get xs i
front [] ys i h = absurd (omega arith)
front (x ∷ xs) ys zero h = refl
front (x ∷ xs) ys (suc i) h = front xs ys i (omega arith)

pub back : {X : Type 0} (xs : List X) (y : X) (i : ℕ) → i ≡ length xs → slice_get (xs ++ y ∷ []) i ≡ Some y
back [] y zero e = refl
back [] y (suc i) e = absurd (omega arith)
back (x ∷ xs) y zero e = absurd (omega arith)
back (x ∷ xs) y (suc i) e = back xs y i (omega arith)

some_same : {X : Type 0} (x y : X) → Some x ≡ Some y → x ≡ y
some_same x y e = cc

-- an entry is an old one or the last
pub inside : {X : Type 0} (xs : List X) (y : X) (i : ℕ) (x : X) → slice_get (xs ++ y ∷ []) i ≡ Some x → ((i < length xs) × (slice_get xs i ≡ Some x)) ⊎ ((i ≡ length xs) × (x ≡ y))
inside xs y i x e =
    let within = slice_get_within (xs ++ y ∷ []) i x e in
    elim (cases_lt i (length xs)) [
      | inl lt ↦ inl (lt, sym (front xs (y ∷ []) i lt) ∙ e)
      | inr le ↦ let at_end : i ≡ length xs = omega (arith, length-append xs (y ∷ [])) in inr (at_end, some_same x y (sym e ∙ back xs y i at_end))
    ]

last_same : {X : Type 0} (xs ys : List X) (x y : X) → xs ++ x ∷ [] ≡ ys ++ y ∷ [] → (xs ≡ ys) × (x ≡ y)
last_same [] [] x y e = (refl, cc)
last_same [] (b ∷ []) x y e = absurd cc
last_same [] (b ∷ c ∷ ys) x y e = absurd cc
last_same (a ∷ []) [] x y e = absurd cc
last_same (a ∷ c ∷ xs) [] x y e = absurd cc
last_same (a ∷ xs) (b ∷ ys) x y e =
    let tails : xs ++ x ∷ [] ≡ ys ++ y ∷ [] = cc in
    let heads : a ≡ b = cc in
    let r = last_same xs ys x y tails in
    (λ i. heads i ∷ r.0 i, r.1)

not_empty : {X : Type 0} (xs : List X) (x : X) → [] ≡ xs ++ x ∷ [] → ⊥
not_empty [] x e = cc
not_empty (a ∷ xs) x e = cc

-- ---- more calls

pub number-more : (calls added : PathTable) (n : Option ℕ) → IsNumber calls n → IsNumber (calls ++ added) n
number-more calls added None h = tt
number-more calls added (Some i) h = omega (arith, h, length-append calls added)

pub path_of-more : (calls added : PathTable) (n : Option ℕ) → IsNumber calls n → path_of (calls ++ added) n ≡ path_of calls n
path_of-more calls added None h = refl
path_of-more calls added (Some i) h = ap path_in (front calls added i h)

pub number-extends : (old new : PathTable) (n : Option ℕ) → Extends old new → IsNumber old n → IsNumber new n
number-extends old new n e h = subst (λ t. IsNumber t n) (sym e.is) (number-more old e.added n h)

pub path_of-extends : (old new : PathTable) (n : Option ℕ) → Extends old new → IsNumber old n → path_of new n ≡ path_of old n
path_of-extends old new n e h = ap (λ t. path_of t n) e.is ∙ path_of-more old e.added n h

pub extends-none : (calls : PathTable) → Extends calls calls
extends-none calls = record { added = []; is = sym (append-nil calls) }

pub extends-same : (old new : PathTable) → new ≡ old → Extends old new
extends-same old new e = record { added = []; is = e ∙ sym (append-nil old) }

pub extends-both : (a b c : PathTable) → Extends a b → Extends b c → Extends a c
extends-both a b c e f = record { added = e.added ++ f.added; is = f.is ∙ (ap (λ t. t ++ f.added) e.is ∙ append_assoc a e.added f.added) }

-- ---- one path for each number

before_number : (calls : PathTable) (i : ℕ) (n : Option ℕ) → i < length calls → IsBefore i n → IsNumber calls n
before_number calls i None lt h = tt
before_number calls i (Some j) lt h = omega (arith, lt, h)

pub entry_at : (calls : PathTable) (i : ℕ) → i < length calls → (e : Entry) × (slice_get calls i ≡ Some e)
entry_at [] i h = absurd (omega arith)
entry_at (e ∷ calls) zero h = (e, refl)
entry_at (e ∷ calls) (suc i) h = entry_at calls i (omega arith)

call_parts : (c d : Call) → c.caller ≡ d.caller → c.at ≡ d.at → c ≡ d
call_parts c d e f = λ i. record { caller = e i; at = f i }

-- two numbers, of which the first is below a bound
same_below : (calls : PathTable) → IsPathTable calls → (bound : ℕ) (m n : Option ℕ) → IsNumber calls m → IsNumber calls n → IsBefore bound m → path_of calls m ≡ path_of calls n → m ≡ n
same_below calls table bound None None hm hn b e = refl
same_below calls table bound None (Some j) hm hn b e =
    let f = entry_at calls j hn in
    absurd (not_empty (path_of calls f.0.0.caller) f.0.0.at (e ∙ (ap path_in f.1 ∙ table.chained j f.0 f.1)))
same_below calls table bound (Some i) None hm hn b e =
    let f = entry_at calls i hm in
    absurd (not_empty (path_of calls f.0.0.caller) f.0.0.at (sym e ∙ (ap path_in f.1 ∙ table.chained i f.0 f.1)))
same_below calls table zero (Some i) (Some j) hm hn b e = absurd (omega (arith, b))
same_below calls table (suc bound) (Some i) (Some j) hm hn b e =
    let f = entry_at calls i hm in
    let g = entry_at calls j hn in
    let ends : path_of calls f.0.0.caller ++ f.0.0.at ∷ [] ≡ path_of calls g.0.0.caller ++ g.0.0.at ∷ [] =
    sym (ap path_in f.1 ∙ table.chained i f.0 f.1) ∙ (e ∙ (ap path_in g.1 ∙ table.chained j g.0 g.1)) in
    let parts = last_same (path_of calls f.0.0.caller) (path_of calls g.0.0.caller) f.0.0.at g.0.0.at ends in
    let callers = same_below calls table bound f.0.0.caller g.0.0.caller
    (before_number calls i f.0.0.caller hm (table.earlier i f.0 f.1)) (before_number calls j g.0.0.caller hn (table.earlier j g.0 g.1))
    (lower bound i f.0.0.caller (omega (arith, b)) (table.earlier i f.0 f.1)) parts.0 in
    ap (λ k. Some k) (table.distinct i j f.0 g.0 f.1 g.1 (call_parts f.0.0 g.0.0 callers parts.1))
  where
    lower : (bound i : ℕ) (n : Option ℕ) → i ≤ bound → IsBefore i n → IsBefore bound n
    lower bound i None le h = tt
    lower bound i (Some j) le h = omega (arith, le, h)

number_before : (calls : PathTable) (n : Option ℕ) → IsNumber calls n → IsBefore (length calls) n
number_before calls None h = tt
number_before calls (Some i) h = h

-- two numbers of one path are the same
pub same_number : (calls : PathTable) → IsPathTable calls → (m n : Option ℕ) → IsNumber calls m → IsNumber calls n → path_of calls m ≡ path_of calls n → m ≡ n
same_number calls table m n hm hn e = same_below calls table (length calls) m n hm hn (number_before calls m hm) e

-- ---- a call that is new

pub table-new : (calls : PathTable) (call : Call) (path : List Place) → IsPathTable calls → IsNumber calls call.caller → path ≡ path_of calls call.caller ++ call.at ∷ []
    → ((i : ℕ) (e : Entry) → slice_get calls i ≡ Some e → e.0 ≢ call) → IsPathTable (calls ++ (call, path) ∷ [])
table-new calls call path table number is absent = record {
  earlier = λ i e h. elim (inside calls (call, path) i e h) [
    | inl a ↦ table.earlier i e a.1
    | inr b ↦ subst (λ (f : Entry). IsBefore i f.0.caller) (sym b.1) (subst (λ k. IsBefore k call.caller) (sym b.0) (number_before calls call.caller number))
  ];
  chained = λ i e h. elim (inside calls (call, path) i e h) [
    | inl a ↦ table.chained i e a.1 ∙ ap (λ p. p ++ e.0.at ∷ []) (sym (path_of-more calls ((call, path) ∷ []) e.0.caller (before_number calls i e.0.caller a.0 (table.earlier i e a.1))))
    | inr b ↦ subst (λ (f : Entry). f.1 ≡ path_of (calls ++ (call, path) ∷ []) f.0.caller ++ f.0.at ∷ []) (sym b.1)
        (is ∙ ap (λ p. p ++ call.at ∷ []) (sym (path_of-more calls ((call, path) ∷ []) call.caller number)))
  ];
  distinct = λ i j e f he hf same. elim (inside calls (call, path) i e he) [
    | inl a ↦ elim (inside calls (call, path) j f hf) [
      | inl b ↦ table.distinct i j e f a.1 b.1 same
      | inr b ↦ absurd (absent i e a.1 (same ∙ ap (λ (g : Entry). g.0) b.1))
    ]
    | inr a ↦ elim (inside calls (call, path) j f hf) [
      | inl b ↦ absurd (absent j f b.1 (sym same ∙ ap (λ (g : Entry). g.0) a.1))
      | inr b ↦ a.0 ∙ sym b.0
    ]
  ];
}

pub table-none : IsPathTable []
table-none = record {
  earlier = λ i e h. absurd cc;
  chained = λ i e h. absurd cc;
  distinct = λ i j e f he hf same. absurd cc;
}
