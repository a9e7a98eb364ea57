-- What is noted of a token only grows while later tokens are read.
use Rattle.std.proofs.Common.{◌≡◌, ℕ, zero, suc, ◌+◌, ◌<◌, ◌≤◌, Bool, true, false, List, [], ◌∷◌, ◌++◌, length, Option, Some, None, refl, ap, sym, ◌∙◌, subst, arith, append_assoc, eq-eqb, length-append}
use Rattle.std.specs.Prelude.{nat_lt, nat_eq, ◌||◌, if◌then◌else◌}
use Rattle.std.proofs.lemmas.Bool.{lt-ltb, ltb-true, eqb-true}
use Rattle.c_tree.specs.Terminals.{Terminal}
use Rattle.c_tree.specs.Limits.{Mark, mark_at, exceeds}
use Rattle.c_syntax.specs.declared.steps.goal.Goal.{Goal}
use Rattle.c_syntax.specs.declared.steps.goal.Raise.{Raise}
use Rattle.c_syntax.specs.declared.steps.goal.Raise.TheVariants as r
use Rattle.c_syntax.specs.Sorts.{sort_of}
use Rattle.c_syntax.specs.Steps.{Step, deeper, next, all_optional}
use Rattle.c_syntax.proofs.Noting.{Noted, within, heading, hold_behind, hold_from, raised, is_beyond, entry}
use Rattle.c_syntax.proofs.Marking.{note, going, run, sink, sink-deeper, put, put_at, StandsFor, stands_zero, stands_deeper, same_test}
use Rattle.c_syntax.proofs.Completing.{spot_at}

pub deeper_more : (n : ℕ) → n ≤ deeper n
unfolding deeper
deeper_more n = step (nat_lt n 255)
  where
    step : (b : Bool) → n ≤ (if b then n + 1 else n)
    step true = omega arith
    step false = omega arith

-- as many tokens, each held by as many constructs or more, and with as many open before it or more
pub data Grown : List Noted → List Noted → Type 0 where
  none : Grown [] []
  one : (m n : Noted) (ms ns : List Noted) → m.nesting ≤ n.nesting → m.surplus ≡ n.surplus → m.open_before ≤ n.open_before → Grown ms ns → Grown (m ∷ ms) (n ∷ ns)

grown_same : (ms : List Noted) → Grown ms ms
grown_same [] = none
grown_same (m ∷ ms) = one m m ms ms (omega arith) refl (omega arith) (grown_same ms)

pub grown_length : {ms ns : List Noted} → Grown ms ns → length ms ≡ length ns
grown_length none = refl
grown_length (one m n ms ns le e lo g) = ap suc (grown_length g)

pub grown_then : {ms ns : List Noted} → Grown ms ns → {us : List Noted} → Grown ns us → Grown ms us
grown_then none none = none
grown_then (one m n ms ns le e lo g) (one _ u _ us le' e' lo' h) = one m u ms us (omega (arith, le, le')) (e ∙ e') (omega (arith, lo, lo')) (grown_then g h)

behind_grown : (n : ℕ) (ms : List Noted) → Grown ms (hold_behind n ms)
behind_grown n [] = none
behind_grown n (m ∷ ms) = step (nat_lt n (length ms)) (behind_grown n ms)
  where
    step : (b : Bool) → Grown ms (hold_behind n ms) → Grown (m ∷ ms) (if b then within m ∷ hold_behind n ms else (m ∷ ms))
    step true rest = one m (within m) ms (hold_behind n ms) (deeper_more m.nesting) refl (deeper_more m.open_before) rest
    step false rest = grown_same (m ∷ ms)

from_grown : (n : ℕ) (ms : List Noted) → Grown ms (hold_from n ms)
from_grown n [] = none
from_grown n (m ∷ ms) = step (nat_lt n (length ms)) (nat_eq n (length ms)) (from_grown n ms)
  where
    step : (b c : Bool) → Grown ms (hold_from n ms) → Grown (m ∷ ms) (if b then within m ∷ hold_from n ms else (if c then heading m ∷ ms else (m ∷ ms)))
    step true c rest = one m (within m) ms (hold_from n ms) (deeper_more m.nesting) refl (deeper_more m.open_before) rest
    step false true rest = one m (heading m) ms ms (deeper_more m.nesting) refl (omega arith) (grown_same ms)
    step false false rest = grown_same (m ∷ ms)

pub raised_grown : (raise : Raise) (ms : List Noted) → Grown ms (raised raise ms)
raised_grown r.Nothing ms = grown_same ms
raised_grown (r.From n) ms = from_grown n ms
raised_grown (r.Behind n) ms = behind_grown n ms
raised_grown (r.Both n) ms = grown_then (behind_grown n ms) (from_grown n (hold_behind n ms))

-- ---- to the end of the tokens

pub record Extends (ms end : List Noted) : Type 0 where
  pub front : List Noted
  pub old : List Noted
  pub shape : end ≡ front ++ old
  pub grown : Grown ms old

grown_tail : (m : Noted) (ms old : List Noted) → Grown (m ∷ ms) old → (n : Noted) × (ns : List Noted) × (old ≡ n ∷ ns) × Grown ms ns
grown_tail m ms _ (one _ n _ ns le e lo g) = (n, ns, refl, g)

extends_less : (m : Noted) (ms end : List Noted) → Extends (m ∷ ms) end → Extends ms end
extends_less m ms end x =
    let t = grown_tail m ms x.old x.grown in
    record { front = x.front ++ t.0 ∷ []; old = t.1; shape = x.shape ∙ ap (λ y. x.front ++ y) t.2 ∙ sym (append_assoc x.front (t.0 ∷ []) t.1); grown = t.3 }

extends_from : (ms ns end : List Noted) → Grown ms ns → Extends ns end → Extends ms end
extends_from ms ns end g x = record { front = x.front; old = x.old; shape = x.shape; grown = grown_then g x.grown }

pub run_extends : (ts : List Terminal) (goals : List Goal) (count : ℕ) (noted end : List Noted) → run ts goals count noted ≡ Some end → Extends noted end
run_extends [] goals count noted end e = last (all_optional goals) e
  where
    last : (b : Bool) → (if b then Some noted else None) ≡ Some end → Extends noted end
    last true e = let same : noted ≡ end = cc in subst (Extends noted) same (record { front = []; old = noted; shape = refl; grown = grown_same noted })
    last false e = absurd cc
run_extends (t ∷ ts) goals count noted end e = step (next goals (spot_at noted count) (sort_of t.kind)) (run_extends ts) e
  where
    step : (found : Option Step) → ((goals : List Goal) (count : ℕ) (noted end : List Noted) → run ts goals count noted ≡ Some end → Extends noted end) → going found noted (run ts) ≡ Some end → Extends noted end
    step None rest e = absurd cc
    step (Some s) rest e =
        let x = rest s.goals s.how.count (note s ∷ raised s.how.raise noted) end e in
        extends_from noted (raised s.how.raise noted) end (raised_grown s.how.raise noted) (extends_less (note s) (raised s.how.raise noted) end x)

-- ---- entries

false_eq : (m n : ℕ) → m < n → nat_eq m n ≡ false
false_eq m n below = false_if (nat_eq m n) (λ e. let same = eqb-true m n e in omega (arith, same, below))
  where
    false_if : (b : Bool) → (b ≡ true → ⊥) → b ≡ false
    false_if true f = absurd (f refl)
    false_if false f = refl

pub entry-append : (front ms : List Noted) (i : ℕ) → i < length ms → entry (front ++ ms) i ≡ entry ms i
entry-append [] ms i below = refl
entry-append (m ∷ front) ms i below =
    let long : i < length (front ++ ms) = let e = length-append front ms in omega (arith, e, below) in
    ap (λ b. if b then m else entry (front ++ ms) i) (false_eq i (length (front ++ ms)) long) ∙ entry-append front ms i below

pub grown_entry : {ms ns : List Noted} → Grown ms ns → (i : ℕ) → ((entry ms i).nesting ≤ (entry ns i).nesting) × ((entry ms i).surplus ≡ (entry ns i).surplus)
grown_entry none i = (omega arith, refl)
grown_entry (one m n ms ns le e lo g) i =
    subst (λ k. ((if nat_eq i (length ms) then m else entry ms i).nesting ≤ (if nat_eq i k then n else entry ns i).nesting) × ((if nat_eq i (length ms) then m else entry ms i).surplus ≡ (if nat_eq i k then n else entry ns i).surplus))
    (grown_length g) (step (nat_eq i (length ms)) (grown_entry g i))
  where
    step : (b : Bool) → ((entry ms i).nesting ≤ (entry ns i).nesting) × ((entry ms i).surplus ≡ (entry ns i).surplus) → ((if b then m else entry ms i).nesting ≤ (if b then n else entry ns i).nesting) × ((if b then m else entry ms i).surplus ≡ (if b then n else entry ns i).surplus)
    step true rest = (le, e)
    step false rest = rest

or_cases : (a b c : Bool) → (a ≡ true → c ≡ true) → (a || b) ≡ true → (c || b) ≡ true
or_cases true b c f e = ap (λ x. x || b) (f refl)
or_cases false true true f e = refl
or_cases false true false f e = refl
or_cases false false c f e = absurd cc

pub grown_beyond : {ms ns : List Noted} → Grown ms ns → (i : ℕ) → is_beyond (entry ms i) ≡ true → is_beyond (entry ns i) ≡ true
grown_beyond {ms} {ns} g i e =
    let h = grown_entry g i in
    subst (λ b. (nat_lt 64 (entry ns i).nesting || b) ≡ true) h.1
    (or_cases (nat_lt 64 (entry ms i).nesting) (entry ms i).surplus (nat_lt 64 (entry ns i).nesting) (λ x. lt-ltb 64 (entry ns i).nesting (let y = ltb-true 64 (entry ms i).nesting x in let le = h.0 in omega (arith, y, le))) e)

-- ---- the constructs that are open before a token

pub grown_open : {ms ns : List Noted} → Grown ms ns → (i : ℕ) → (entry ms i).open_before ≤ (entry ns i).open_before
grown_open none i = omega arith
grown_open (one m n ms ns le e lo g) i =
    subst (λ k. (if nat_eq i (length ms) then m else entry ms i).open_before ≤ (if nat_eq i k then n else entry ns i).open_before) (grown_length g) (step (nat_eq i (length ms)) (grown_open g i))
  where
    step : (b : Bool) → (entry ms i).open_before ≤ (entry ns i).open_before → (if b then m else entry ms i).open_before ≤ (if b then n else entry ns i).open_before
    step true rest = lo
    step false rest = rest

pub last_entry : (m : Noted) (ms : List Noted) (i : ℕ) → i ≡ length ms → entry (m ∷ ms) i ≡ m
last_entry m ms i e = ap (λ b. if b then m else entry ms i) (eq-eqb i (length ms) e)

-- ---- the marks of a derivation

pub put_shape : (depth : ℕ) (ms : List Mark) (noted : List Noted) → (front : List Noted) × (put depth ms noted ≡ front ++ noted)
put_shape depth [] noted = ([], refl)
put_shape depth (m ∷ ms) noted =
    let x = put_shape depth ms (put_at depth m ∷ noted) in (x.0 ++ put_at depth m ∷ [], x.1 ∙ sym (append_assoc x.0 (put_at depth m ∷ []) noted))

pub put_length : (depth : ℕ) (ms : List Mark) (noted : List Noted) → length (put depth ms noted) ≡ length ms + length noted
put_length depth [] noted = omega arith
put_length depth (m ∷ ms) noted = let e = put_length depth ms (put_at depth m ∷ noted) in omega (arith, e)

put_entry_at : (depth : ℕ) (ms : List Mark) (noted : List Noted) (i j : ℕ) → i < length ms → j ≡ length noted + i → entry (put depth ms noted) j ≡ put_at depth (mark_at ms i)
put_entry_at depth [] noted i j below e = absurd (omega (arith, below))
put_entry_at depth (m ∷ ms) noted zero j below e =
    let x = put_shape depth ms (put_at depth m ∷ noted) in
    let same : j ≡ length noted = omega (arith, e) in
    ap (λ y. entry y j) x.1 ∙ entry-append x.0 (put_at depth m ∷ noted) j (omega (arith, same)) ∙ ap (λ b. if b then put_at depth m else entry noted j) (eq-eqb j (length noted) same)
put_entry_at depth (m ∷ ms) noted (suc i) j below e = put_entry_at depth ms (put_at depth m ∷ noted) i j (omega (arith, below)) (omega (arith, e))

pub put_entry : (ms : List Mark) (i : ℕ) → i < length ms → entry (put 0 ms []) i ≡ put_at 0 (mark_at ms i)
put_entry ms i below = put_entry_at 0 ms [] i i below (omega arith)

sink_stands : (n : ℕ) → StandsFor 255 n (sink n 0)
sink_stands zero = stands_zero 255
sink_stands (suc n) = subst (StandsFor 255 (suc n)) (sym (sink-deeper n 0)) (stands_deeper n (sink n 0) (sink_stands n))

pub beyond_exceeds : (m : Mark) → is_beyond (put_at 0 m) ≡ exceeds m
beyond_exceeds m = ap (λ b. b || m.surplus) (same_test 255 m.nesting (sink m.nesting 0) 65 (sink_stands m.nesting) (omega arith))

-- as far as the numbers go, those of the mark
pub open_below : (m : Mark) → (put_at 0 m).open_before ≤ m.open_before
open_below m = (sink_stands m.open_before).below

pub open_exact : (m : Mark) → (put_at 0 m).open_before ≤ 64 → m.open_before ≤ 64
open_exact m le = let s = sink_stands m.open_before in let e = s.exact (omega (arith, le)) in omega (arith, e, le)
