-- What is noted of each token while a token list is read, and the marks of a derivation so placed.
use Rattle.std.proofs.Common.{◌≡◌, ℕ, zero, suc, ◌+◌, ◌<◌, ◌≤◌, Bool, true, false, List, [], ◌∷◌, ◌++◌, length, Option, Some, None, inl, inr, refl, ap, sym, ◌∙◌, subst, arith, eq-eqb}
use Rattle.std.specs.Prelude.{nat_le, nat_lt, nat_eq, if◌then◌else◌}
use Rattle.std.proofs.lemmas.Bool.{le-leb, leb-true, lt-ltb, le-ltb, ltb-true, ltb-false, cases_order}
use Rattle.c_tree.specs.Terminals.{Terminal}
use Rattle.c_tree.specs.Limits.{Mark, plain, closing, deeper, inside, held, pair, counted, whole, flat, operator_limit}
use Rattle.c_syntax.specs.declared.steps.goal.Goal.{Goal}
use Rattle.c_syntax.specs.Sorts.{sort_of}
use Rattle.c_syntax.specs.Steps.{Step, more, is_surplus, next, all_optional}
use Rattle.c_syntax.specs.Steps as spec
use Rattle.c_syntax.proofs.Noting.{Noted, within, heading, hold_behind, hold_from, raised}

abbrev pub note : Step → Noted
note step = record { nesting = step.how.nesting; surplus = step.how.surplus; open_before = step.open_before }

-- ---- reading

abbrev pub going : Option Step → List Noted → (List Goal → ℕ → List Noted → Option (List Noted)) → Option (List Noted)
going None noted f = None
going (Some step) noted f = f step.goals step.how.count (note step ∷ raised step.how.raise noted)

-- what is noted when the tokens are read to their end, if they are
abbrev pub run : List Terminal → List Goal → ℕ → List Noted → Option (List Noted)
run [] goals count noted = if all_optional goals then Some noted else None
run (t ∷ ts) goals count noted = going (next goals (record { index = length noted; count = count }) (sort_of t.kind)) noted (run ts)

-- ---- the marks of a derivation, where so many constructs hold its tokens and so many operators were counted before

abbrev pub sink : ℕ → ℕ → ℕ
sink zero depth = depth
sink (suc n) depth = sink n (spec.deeper depth)

abbrev pub count_at : ℕ → Bool → ℕ
count_at count true = more count
count_at count false = count

abbrev pub surplus_at : ℕ → Bool → Bool → Bool
surplus_at count true surplus = is_surplus count
surplus_at count false surplus = surplus

abbrev pub noted_at : ℕ → ℕ → Mark → Noted
noted_at depth count m = record { nesting = sink m.nesting depth; surplus = surplus_at count m.counts m.surplus; open_before = sink m.open_before depth }

abbrev pub place : ℕ → ℕ → List Mark → List Noted → List Noted
place depth count [] noted = noted
place depth count (m ∷ ms) noted = place depth (count_at count m.counts) ms (noted_at depth count m ∷ noted)

abbrev pub count_after : ℕ → List Mark → ℕ
count_after count [] = count
count_after count (m ∷ ms) = count_after (count_at count m.counts) ms

pub place-append : (depth count : ℕ) (ms ns : List Mark) (noted : List Noted) → place depth count (ms ++ ns) noted ≡ place depth (count_after count ms) ns (place depth count ms noted)
place-append depth count [] ns noted = refl
place-append depth count (m ∷ ms) ns noted = place-append depth (count_at count m.counts) ms ns (noted_at depth count m ∷ noted)

pub count-append : (count : ℕ) (ms ns : List Mark) → count_after count (ms ++ ns) ≡ count_after (count_after count ms) ns
count-append count [] ns = refl
count-append count (m ∷ ms) ns = count-append (count_at count m.counts) ms ns

pub place-inside : (depth count : ℕ) (ms : List Mark) (noted : List Noted) → place depth count (inside ms) noted ≡ place (spec.deeper depth) count ms noted
place-inside depth count [] noted = refl
place-inside depth count (m ∷ ms) noted = place-inside depth (count_at count m.counts) ms (noted_at (spec.deeper depth) count m ∷ noted)

pub count-inside : (count : ℕ) (ms : List Mark) → count_after count (inside ms) ≡ count_after count ms
count-inside count [] = refl
count-inside count (m ∷ ms) = count-inside (count_at count m.counts) ms

-- ---- numbers that stand still at a limit

pub record StandsFor (cap n c : ℕ) : Type 0 where
  pub below : c ≤ n
  pub under : c ≤ cap
  pub exact : c < cap → c ≡ n

pub stands_zero : (cap : ℕ) → StandsFor cap 0 0
stands_zero cap = record { below = omega arith; under = omega arith; exact = λ h. refl }

stands_next : (cap n c : ℕ) (b : Bool) → nat_lt c cap ≡ b → StandsFor cap n c → StandsFor cap (suc n) (if b then c + 1 else c)
stands_next cap n c true e s =
    let h = ltb-true c cap e in let f = s.exact h in
    record { below = omega (arith, s.below); under = omega (arith, h); exact = λ g. omega (arith, f) }
stands_next cap n c false e s =
    let h = ltb-false c cap e in
    record { below = let b = s.below in omega (arith, b); under = s.under; exact = λ g. absurd (omega (arith, g, h)) }

pub stands_deeper : (n c : ℕ) → StandsFor 255 n c → StandsFor 255 (suc n) (spec.deeper c)
unfolding spec.deeper
stands_deeper n c s = stands_next 255 n c (nat_lt c 255) refl s

pub stands_more : (n c : ℕ) → StandsFor 65535 n c → StandsFor 65535 (suc n) (more c)
unfolding spec.more
stands_more n c s = stands_next 65535 n c (nat_lt c 65535) refl s

bool_eq : (a b : Bool) → (a ≡ true → b ≡ true) → (b ≡ true → a ≡ true) → a ≡ b
bool_eq true true f g = refl
bool_eq false false f g = refl
bool_eq true false f g = sym (f refl)
bool_eq false true f g = g refl

reaches : (cap n c k : ℕ) → StandsFor cap n c → k ≤ cap → k ≤ n → k ≤ c
reaches cap n c k s le h = elim (cases_order c cap) [
  | inl same ↦ omega (arith, same, le)
  | inr other ↦ elim other [ inl less ↦ let f = s.exact less in omega (arith, f, h) | inr more ↦ absurd (let u = s.under in omega (arith, u, more)) ]
]

pub same_test : (cap n c k : ℕ) → StandsFor cap n c → k ≤ cap → nat_le k c ≡ nat_le k n
same_test cap n c k s le = bool_eq (nat_le k c) (nat_le k n)
    (λ e. le-leb k n (let h = leb-true k c e in let b = s.below in omega (arith, h, b)))
    (λ e. le-leb k c (reaches cap n c k s le (leb-true k n e)))

-- ---- no operator of a whole expression is counted outside it

counted_part : (depth n count other : ℕ) (b : Bool) (m : Mark) (ms : List Mark) (noted : List Noted) → StandsFor 65535 n count → m.counts ≡ b
    → ((n count : ℕ) (noted : List Noted) → StandsFor 65535 n count → place depth other (counted n ms) noted ≡ place depth count ms noted)
    → place depth other (if b then record m { counts = false; surplus = nat_le operator_limit n } ∷ counted (suc n) ms else (m ∷ counted n ms)) noted
    ≡ place depth (count_at count b) ms (record { nesting = sink m.nesting depth; surplus = surplus_at count b m.surplus; open_before = sink m.open_before depth } ∷ noted)
counted_part depth n count other true m ms noted s e rest =
    rest (suc n) (more count) _ (stands_more n count s)
    ∙ ap (λ x. place depth (more count) ms (record { nesting = sink m.nesting depth; surplus = x; open_before = sink m.open_before depth } ∷ noted)) (sym (same_test 65535 n count 256 s (omega arith)))
counted_part depth n count other false m ms noted s e rest =
    ap (λ b. place depth (count_at other b) (counted n ms) (record { nesting = sink m.nesting depth; surplus = surplus_at other b m.surplus; open_before = sink m.open_before depth } ∷ noted)) e
    ∙ rest n count (record { nesting = sink m.nesting depth; surplus = m.surplus; open_before = sink m.open_before depth } ∷ noted) s

place-counted : (depth other : ℕ) (ms : List Mark) (n count : ℕ) (noted : List Noted) → StandsFor 65535 n count → place depth other (counted n ms) noted ≡ place depth count ms noted
place-counted depth other [] n count noted s = refl
place-counted depth other (m ∷ ms) n count noted s = counted_part depth n count other m.counts m ms noted s refl (place-counted depth other ms)

pub place-whole : (depth other : ℕ) (ms : List Mark) (noted : List Noted) → place depth other (whole ms) noted ≡ place depth 0 ms noted
place-whole depth other ms noted = place-counted depth other ms 0 0 noted (stands_zero 65535)

count_counted_part : (n other : ℕ) (b : Bool) (m : Mark) (ms : List Mark) → m.counts ≡ b → ((n : ℕ) → count_after other (counted n ms) ≡ other)
    → count_after other (if b then record m { counts = false; surplus = nat_le operator_limit n } ∷ counted (suc n) ms else (m ∷ counted n ms)) ≡ other
count_counted_part n other true m ms e rest = rest (suc n)
count_counted_part n other false m ms e rest = ap (λ b. count_after (count_at other b) (counted n ms)) e ∙ rest n

count-counted : (other : ℕ) (ms : List Mark) (n : ℕ) → count_after other (counted n ms) ≡ other
count-counted other [] n = refl
count-counted other (m ∷ ms) n = count_counted_part n other m.counts m ms refl (count-counted other ms)

pub count-whole : (other : ℕ) (ms : List Mark) → count_after other (whole ms) ≡ other
count-whole other ms = count-counted other ms 0

-- ---- the marks of a pair

pub place-closing : (depth count : ℕ) (ms rest : List Mark) (front : List Noted) → count_after count ms ≡ count
    → place depth count (inside ms ++ closing ∷ rest) front ≡ place depth count rest (noted_at depth count closing ∷ place (spec.deeper depth) count ms front)
place-closing depth count ms rest front e =
    place-append depth count (inside ms) (closing ∷ rest) front
    ∙ ap (λ c. place depth c (closing ∷ rest) (place depth count (inside ms) front)) (count-inside count ms ∙ e)
    ∙ ap (λ x. place depth count (closing ∷ rest) x) (place-inside depth count ms front)

pub place-pair : (depth count : ℕ) (ms rest : List Mark) (noted : List Noted) → count_after count ms ≡ count
    → place depth count (pair ms rest) noted
    ≡ place depth count rest (noted_at depth count closing ∷ place (spec.deeper depth) count ms (noted_at depth count plain ∷ noted))
place-pair depth count ms rest noted e = place-closing depth count ms rest (noted_at depth count plain ∷ noted) e

pub count-pair : (count : ℕ) (ms rest : List Mark) → count_after count ms ≡ count → count_after count (pair ms rest) ≡ count_after count rest
count-pair count ms rest e = count-append count (inside ms) (closing ∷ rest) ∙ ap (λ c. count_after c rest) (count-inside count ms ∙ e)

-- ---- tokens that are held by nothing of their own

pub count-flat : (count : ℕ) (ts : List Terminal) → count_after count (flat ts) ≡ count
count-flat count [] = refl
count-flat count (t ∷ ts) = count-flat count ts

-- ---- tokens that turn out to be held by one construct more

pub sink-deeper : (n depth : ℕ) → sink n (spec.deeper depth) ≡ spec.deeper (sink n depth)
sink-deeper zero depth = refl
sink-deeper (suc n) depth = sink-deeper n (spec.deeper depth)

within_is : (depth count : ℕ) (m : Mark) → within (noted_at depth count m) ≡ noted_at depth count (deeper m)
within_is depth count m =
    ap (λ x. record { nesting = x; surplus = surplus_at count m.counts m.surplus; open_before = spec.deeper (sink m.open_before depth) }) (sym (sink-deeper m.nesting depth))
    ∙ ap (λ x. record { nesting = sink m.nesting (spec.deeper depth); surplus = surplus_at count m.counts m.surplus; open_before = x }) (sym (sink-deeper m.open_before depth))

-- a construct that begins with the token
abbrev headed : Mark → Mark
headed m = record m { nesting = suc m.nesting }

heading_is : (depth count : ℕ) (m : Mark) → heading (noted_at depth count m) ≡ noted_at depth count (headed m)
heading_is depth count m = ap (λ x. record { nesting = x; surplus = surplus_at count m.counts m.surplus; open_before = sink m.open_before depth }) (sym (sink-deeper m.nesting depth))

below_self : (n : ℕ) → nat_lt n n ≡ false
below_self n = le-ltb n n (omega arith)

hold_behind-place : (n depth count : ℕ) (ms : List Mark) (noted : List Noted) → n < length noted → hold_behind n (place depth count ms noted) ≡ place depth count (inside ms) (hold_behind n noted)
hold_behind-place n depth count [] noted below = refl
hold_behind-place n depth count (m ∷ ms) noted below =
    hold_behind-place n depth (count_at count m.counts) ms (noted_at depth count m ∷ noted) (omega (arith, below))
    ∙ ap (λ b. place depth (count_at count m.counts) (inside ms) (if b then within (noted_at depth count m) ∷ hold_behind n noted else (noted_at depth count m ∷ noted))) (lt-ltb n (length noted) below)
    ∙ ap (λ x. place depth (count_at count m.counts) (inside ms) (x ∷ hold_behind n noted)) (within_is depth count m)

hold_from-place : (n depth count : ℕ) (ms : List Mark) (noted : List Noted) → n < length noted → hold_from n (place depth count ms noted) ≡ place depth count (inside ms) (hold_from n noted)
hold_from-place n depth count [] noted below = refl
hold_from-place n depth count (m ∷ ms) noted below =
    hold_from-place n depth (count_at count m.counts) ms (noted_at depth count m ∷ noted) (omega (arith, below))
    ∙ ap (λ b. place depth (count_at count m.counts) (inside ms)
    (if b then within (noted_at depth count m) ∷ hold_from n noted else (if nat_eq n (length noted) then heading (noted_at depth count m) ∷ noted else (noted_at depth count m ∷ noted)))) (lt-ltb n (length noted) below)
    ∙ ap (λ x. place depth (count_at count m.counts) (inside ms) (x ∷ hold_from n noted)) (within_is depth count m)

-- the tokens behind the first one
pub held_behind : (depth count : ℕ) (ms : List Mark) (x : Noted) (noted : List Noted) → hold_behind (length noted) (place depth count ms (x ∷ noted)) ≡ place depth count (inside ms) (x ∷ noted)
held_behind depth count ms x noted =
    hold_behind-place (length noted) depth count ms (x ∷ noted) (omega arith)
    ∙ ap (λ b. place depth count (inside ms) (if b then within x ∷ hold_behind (length noted) noted else (x ∷ noted))) (below_self (length noted))

-- and the first one, which begins the construct
pub held_first : (depth count : ℕ) (ms : List Mark) (x : Noted) (noted : List Noted) → hold_from (length noted) (place depth count ms (x ∷ noted)) ≡ place depth count (inside ms) (heading x ∷ noted)
held_first depth count ms x noted =
    hold_from-place (length noted) depth count ms (x ∷ noted) (omega arith)
    ∙ ap (λ b. place depth count (inside ms)
    (if b then within x ∷ hold_from (length noted) noted else (if nat_eq (length noted) (length noted) then heading x ∷ noted else (x ∷ noted)))) (below_self (length noted))
    ∙ ap (λ b. place depth count (inside ms) (if b then heading x ∷ noted else (x ∷ noted))) (same_self (length noted))
  where
    same_self : (n : ℕ) → nat_eq n n ≡ true
    same_self n = eq-eqb n n refl

pub held_from : (depth count : ℕ) (m : Mark) (ms : List Mark) (noted : List Noted) → hold_from (length noted) (place depth count (m ∷ ms) noted) ≡ place depth count (held (m ∷ ms)) noted
held_from depth count m ms noted =
    held_first depth (count_at count m.counts) ms (noted_at depth count m) noted
    ∙ ap (λ x. place depth (count_at count m.counts) (inside ms) (x ∷ noted)) (heading_is depth count m)

pub count-held : (count : ℕ) (m : Mark) (ms : List Mark) → count_after count (held (m ∷ ms)) ≡ count_after count (m ∷ ms)
count-held count m ms = count-inside (count_at count m.counts) ms

-- ---- marks of which none counts

abbrev pub put_at : ℕ → Mark → Noted
put_at depth m = record { nesting = sink m.nesting depth; surplus = m.surplus; open_before = sink m.open_before depth }

abbrev pub put : ℕ → List Mark → List Noted → List Noted
put depth [] noted = noted
put depth (m ∷ ms) noted = put depth ms (put_at depth m ∷ noted)

pub put-append : (depth : ℕ) (ms ns : List Mark) (noted : List Noted) → put depth (ms ++ ns) noted ≡ put depth ns (put depth ms noted)
put-append depth [] ns noted = refl
put-append depth (m ∷ ms) ns noted = put-append depth ms ns (put_at depth m ∷ noted)

pub put-inside : (depth : ℕ) (ms : List Mark) (noted : List Noted) → put depth (inside ms) noted ≡ put (spec.deeper depth) ms noted
put-inside depth [] noted = refl
put-inside depth (m ∷ ms) noted = put-inside depth ms (put_at (spec.deeper depth) m ∷ noted)

pub put-pair : (depth : ℕ) (ms rest : List Mark) (noted : List Noted)
    → put depth (pair ms rest) noted ≡ put depth rest (put_at depth closing ∷ put (spec.deeper depth) ms (put_at depth plain ∷ noted))
put-pair depth ms rest noted =
    put-append depth (inside ms) (closing ∷ rest) (put_at depth plain ∷ noted) ∙ ap (λ x. put depth rest (put_at depth closing ∷ x)) (put-inside depth ms (put_at depth plain ∷ noted))

-- ---- marks of which there are some, with nothing of their own open before the first

pub record SomeMarks (ms : List Mark) : Type 0 where
  pub first : Mark
  pub rest : List Mark
  pub shape : ms ≡ first ∷ rest
  pub open_before : first.open_before ≡ 0

pub marks_more : (ms ns : List Mark) → SomeMarks ms → SomeMarks (ms ++ ns)
marks_more ms ns s = record { first = s.first; rest = s.rest ++ ns; shape = ap (λ x. x ++ ns) s.shape; open_before = s.open_before }

pub from_plain : (ms : List Mark) → SomeMarks (plain ∷ ms)
from_plain ms = record { first = plain; rest = ms; shape = refl; open_before = refl }

pub held_some : (ms : List Mark) → SomeMarks ms → SomeMarks (held ms)
held_some ms s = record { first = headed s.first; rest = inside s.rest; shape = ap held s.shape; open_before = s.open_before }

pub whole_some : (ms : List Mark) → SomeMarks ms → SomeMarks (whole ms)
whole_some ms s = subst (λ x. SomeMarks (whole x)) (sym s.shape) (first s.first.counts)
  where
    first : (b : Bool) → SomeMarks (if b then record s.first { counts = false; surplus = nat_le operator_limit 0 } ∷ counted 1 s.rest else (s.first ∷ counted 0 s.rest))
    first true = record { first = record s.first { counts = false; surplus = nat_le operator_limit 0 }; rest = counted 1 s.rest; shape = refl; open_before = s.open_before }
    first false = record { first = s.first; rest = counted 0 s.rest; shape = refl; open_before = s.open_before }

-- ---- marks of which the first has so many constructs open before it

abbrev pub opened_at : ℕ → ℕ → ℕ → Mark → Noted
opened_at before depth count m = record (noted_at depth count m) { open_before = before }

abbrev pub place_opened : ℕ → ℕ → ℕ → List Mark → List Noted → List Noted
place_opened before depth count [] noted = noted
place_opened before depth count (m ∷ ms) noted = place depth (count_at count m.counts) ms (opened_at before depth count m ∷ noted)

abbrev pub put_opened : ℕ → ℕ → List Mark → List Noted → List Noted
put_opened before depth [] noted = noted
put_opened before depth (m ∷ ms) noted = put depth ms (record (put_at depth m) { open_before = before } ∷ noted)

pub opened_held : (before depth count : ℕ) (m : Mark) (ms : List Mark) (noted : List Noted)
    → hold_from (length noted) (place_opened before depth count (m ∷ ms) noted) ≡ place_opened before depth count (held (m ∷ ms)) noted
opened_held before depth count m ms noted =
    held_first depth (count_at count m.counts) ms (opened_at before depth count m) noted
    ∙ ap (λ x. place depth (count_at count m.counts) (inside ms) (record { nesting = x; surplus = surplus_at count m.counts m.surplus; open_before = before } ∷ noted)) (sym (sink-deeper m.nesting depth))

-- a construct that holds all its tokens
pub place_opened-append : (before depth count : ℕ) (ms ns : List Mark) (noted : List Noted) → SomeMarks ms
    → place_opened before depth count (ms ++ ns) noted ≡ place depth (count_after count ms) ns (place_opened before depth count ms noted)
place_opened-append before depth count ms ns noted s =
    ap (λ x. place_opened before depth count (x ++ ns) noted) s.shape
    ∙ place-append depth (count_at count s.first.counts) s.rest ns (opened_at before depth count s.first ∷ noted)
    ∙ ap (λ x. place depth (count_after count x) ns (place_opened before depth count x noted)) (sym s.shape)

pub put_opened-append : (before depth : ℕ) (ms ns : List Mark) (noted : List Noted) → SomeMarks ms
    → put_opened before depth (ms ++ ns) noted ≡ put depth ns (put_opened before depth ms noted)
put_opened-append before depth ms ns noted s =
    ap (λ x. put_opened before depth (x ++ ns) noted) s.shape
    ∙ put-append depth s.rest ns (record (put_at depth s.first) { open_before = before } ∷ noted)
    ∙ ap (λ x. put depth ns (put_opened before depth x noted)) (sym s.shape)

-- as many as there are
pub put_opened-same : (depth : ℕ) (ms : List Mark) (noted : List Noted) → SomeMarks ms → put_opened depth depth ms noted ≡ put depth ms noted
put_opened-same depth ms noted s =
    ap (λ x. put_opened depth depth x noted) s.shape
    ∙ ap (λ k. put depth s.rest (record { nesting = sink s.first.nesting depth; surplus = s.first.surplus; open_before = sink k depth } ∷ noted)) (sym s.open_before)
    ∙ ap (λ x. put depth x noted) (sym s.shape)

-- the first token of a construct that holds it
abbrev pub opening : ℕ → Noted
opening depth = record { nesting = spec.deeper depth; surplus = false; open_before = depth }

pub put-held : (depth : ℕ) (ms : List Mark) (noted : List Noted) → SomeMarks ms → put depth (held ms) noted ≡ put_opened depth (spec.deeper depth) ms noted
put-held depth ms noted s =
    ap (λ x. put depth (held x) noted) s.shape
    ∙ put-inside depth s.rest (put_at depth (headed s.first) ∷ noted)
    ∙ ap (λ k. put (spec.deeper depth) s.rest (record { nesting = sink s.first.nesting (spec.deeper depth); surplus = s.first.surplus; open_before = sink k depth } ∷ noted)) s.open_before
    ∙ ap (λ x. put_opened depth (spec.deeper depth) x noted) (sym s.shape)

pub put-held-plain : (depth : ℕ) (ms : List Mark) (noted : List Noted) → put depth (held (plain ∷ ms)) noted ≡ put (spec.deeper depth) ms (opening depth ∷ noted)
put-held-plain depth ms noted = put-inside depth ms (opening depth ∷ noted)

put_part : (depth n count : ℕ) (b : Bool) (m : Mark) (ms : List Mark) (noted : List Noted) → StandsFor 65535 n count
    → ((n count : ℕ) (noted : List Noted) → StandsFor 65535 n count → put depth (counted n ms) noted ≡ place depth count ms noted)
    → put depth (if b then record m { counts = false; surplus = nat_le operator_limit n } ∷ counted (suc n) ms else (m ∷ counted n ms)) noted
    ≡ place depth (count_at count b) ms (record { nesting = sink m.nesting depth; surplus = surplus_at count b m.surplus; open_before = sink m.open_before depth } ∷ noted)
put_part depth n count true m ms noted s rest =
    rest (suc n) (more count) (record { nesting = sink m.nesting depth; surplus = nat_le operator_limit n; open_before = sink m.open_before depth } ∷ noted) (stands_more n count s)
    ∙ ap (λ x. place depth (more count) ms (record { nesting = sink m.nesting depth; surplus = x; open_before = sink m.open_before depth } ∷ noted)) (sym (same_test 65535 n count 256 s (omega arith)))
put_part depth n count false m ms noted s rest = rest n count (record { nesting = sink m.nesting depth; surplus = m.surplus; open_before = sink m.open_before depth } ∷ noted) s

put-counted : (depth : ℕ) (ms : List Mark) (n count : ℕ) (noted : List Noted) → StandsFor 65535 n count → put depth (counted n ms) noted ≡ place depth count ms noted
put-counted depth [] n count noted s = refl
put-counted depth (m ∷ ms) n count noted s = put_part depth n count m.counts m ms noted s (put-counted depth ms)

pub put-whole : (depth : ℕ) (ms : List Mark) (noted : List Noted) → put depth (whole ms) noted ≡ place depth 0 ms noted
put-whole depth ms noted = put-counted depth ms 0 0 noted (stands_zero 65535)

pub put_opened-whole : (before depth : ℕ) (ms : List Mark) (noted : List Noted) → put_opened before depth (whole ms) noted ≡ place_opened before depth 0 ms noted
put_opened-whole before depth [] noted = refl
put_opened-whole before depth (m ∷ ms) noted = first m.counts
  where
    first : (b : Bool) → put_opened before depth (if b then record m { counts = false; surplus = nat_le operator_limit 0 } ∷ counted 1 ms else (m ∷ counted 0 ms)) noted
        ≡ place depth (count_at 0 b) ms (record { nesting = sink m.nesting depth; surplus = surplus_at 0 b m.surplus; open_before = before } ∷ noted)
    first true = put-counted depth ms 1 (more 0) (record { nesting = sink m.nesting depth; surplus = nat_le operator_limit 0; open_before = before } ∷ noted) (stands_more 0 0 (stands_zero 65535))
    first false = put-counted depth ms 0 0 (record { nesting = sink m.nesting depth; surplus = m.surplus; open_before = before } ∷ noted) (stands_zero 65535)

-- ---- tokens of a type

pub put-flat : (depth count : ℕ) (ts : List Terminal) (noted : List Noted) → place depth count (flat ts) noted ≡ put depth (flat ts) noted
put-flat depth count [] noted = refl
put-flat depth count (t ∷ ts) noted = put-flat depth count ts (put_at depth plain ∷ noted)
