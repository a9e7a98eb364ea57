-- Where the end of a block leads, by the way in which the block is left.
use Rattle.std.proofs.Common.{◌≡◌, ◌∙◌, ◌+◌, ◌==◌, ◌<◌, ◌≤◌, ℕ, suc, Bool, true, false, refl, ap, arith, List, [], ◌∷◌, length, get_or, Option, Some, None}
use Rattle.std.specs.Prelude.{if◌then◌else◌}
use Rattle.std.specs.Option.{option_map}
use Rattle.std.specs.List.{zip}
use Rattle.hls_base.specs.declared.number.VarId.{VarId}
use Rattle.ir_core.specs.declared.body.Operand.{Operand}
use Rattle.ir_core.specs.declared.body.Out.{Out}
use Rattle.ir_core.specs.Bodies.{Words, Ranged, operand, with_word, outs, with_outs}
use Rattle.ir_core.specs.Trees.{ExitTree, next, branch, choose, break_, continue_, leave}
use Rattle.ir_core.specs.TreeRuns.{Way, on, taken, cased, broke, continued, left, holds, first_case, way_of}
use Rattle.ir_core.specs.FlatRuns.{Going, to, ends, word_if}
use Rattle.ir_layout.specs.Nodes.{EndTree, jumps, branches, chooses, returns}
use Rattle.ir_layout.specs.Layout as plan
use Rattle.ir_layout.specs.Layout.{Ahead, finish, onto, tested, by_case, Around, land_place, place_or_first, held_behind, left_in, straight, end_for}
use Rattle.ir_layout.specs.WellFormed as fit
use Rattle.ir_layout.specs.WellFormed.{Inside, one_way, a_test, a_switch, has_number, ExitFits}

-- ---- ends of nodes

abbrev pub chosen : Words → List ℕ → List (Operand × ℕ) → ℕ → ℕ
chosen t results [] other = other
chosen t results (c ∷ cs) other = if holds t results c.0 then c.1 else chosen t results cs other

abbrev pub going_of : EndTree → Words → List ℕ → Going
going_of (jumps node) t results = to node
going_of (branches test yes_ no_) t results = to (if holds t results test then yes_ else no_)
going_of (chooses cases other) t results = to (chosen t results cases other)
going_of (returns x) t results = ends (word_if x t results)

-- ---- ways

abbrev pub word_of : Option VarId → Words → Option ℕ
word_of returned t = option_map (λ (variable : VarId). t.variables variable.0) returned

abbrev pub led_on : Around → Ahead → Words → Going
led_on around finish t = ends (word_of around.returned t)
led_on around (onto node) t = to node
led_on around (tested yes_ no_) t = to no_
led_on around (by_case cases other) t = to other

abbrev pub led_to_case : List ℕ → ℕ → Option ℕ → Going
led_to_case cases other None = to other
led_to_case cases other (Some i) = to (get_or cases i other)

-- where control goes on behind blocks that are left so
abbrev pub led : Around → Ahead → Way → Words → Going
led around ahead broke t = to (place_or_first around.leave)
led around ahead continued t = to (place_or_first around.again)
led around ahead (left number) t = to (place_or_first (land_place around.lands number.0))
led around (tested yes_ no_) (taken test) t = to (if test then yes_ else no_)
led around (by_case cases other) (cased i) t = led_to_case cases other i
led around ahead w t = led_on around ahead t

-- the ways in which blocks may be left
abbrev pub CaseFits : ℕ → Option ℕ → Type 0
CaseFits n None = Unit {0}
CaseFits n (Some i) = i < n

abbrev pub WayFits : Inside → fit.Ahead → Way → Type 0
WayFits inside ahead broke = inside.leave ≡ true
WayFits inside ahead continued = inside.again ≡ true
WayFits inside ahead (left number) = has_number inside.lands number.0 ≡ true
WayFits inside ahead on = Unit {0}
WayFits inside a_test (taken test) = Unit {0}
WayFits inside (a_switch n) (cased i) = CaseFits n i
WayFits inside ahead w = ⊥

-- what stands ahead, without where it stands
abbrev pub kind_of : Ahead → fit.Ahead
kind_of finish = one_way
kind_of (onto node) = one_way
kind_of (tested yes_ no_) = a_test
kind_of (by_case cases other) = a_switch (length cases)

-- ---- exits leave a block in ways that fit

first_below : (t : Words) (results : List ℕ) (tests : List Operand) (i n : ℕ) → i + length tests ≤ n → CaseFits n (first_case t results tests i)
first_below t results [] i n h = tt
first_below t results (x ∷ xs) i n h = by_test (holds t results x) (first_below t results xs (i + 1) n (omega (arith, h)))
  where
    by_test : (y : Bool) → CaseFits n (first_case t results xs (i + 1)) → CaseFits n (if y then Some i else first_case t results xs (i + 1))
    by_test true k = omega (arith, h)
    by_test false k = k

pub exit_fits : (inside : Inside) (ahead : fit.Ahead) (exit : ExitTree) (t : Words) (results : List ℕ) → ExitFits inside ahead exit → WayFits inside ahead (way_of exit t results)
exit_fits inside ahead next t results h = tt
exit_fits inside a_test (branch test) t results h = tt
exit_fits inside (a_switch n) (choose tests) t results h = first_below t results tests 0 n (omega (arith, h))
exit_fits inside one_way (branch test) t results h = elim h [ ]
exit_fits inside (a_switch n) (branch test) t results h = elim h [ ]
exit_fits inside one_way (choose tests) t results h = elim h [ ]
exit_fits inside a_test (choose tests) t results h = elim h [ ]
exit_fits inside ahead break_ t results h = h
exit_fits inside ahead continue_ t results h = h
exit_fits inside ahead (leave number) t results h = h

-- ---- the end of a block leads where its way does

-- what is set to a variable last
held_is : (os : List Out) (t : Words) (results : List ℕ) (f : ℕ → ℕ) (v : ℕ) (x : Operand) → operand t results x ≡ f v → operand t results (held_behind os v x) ≡ outs os t results f v
held_is [] t results f v x h = h
held_is (o ∷ os) t results f v x h =
    held_is os t results (with_word f o.variable.0 (operand t results o.value)) v (if o.variable.0 == v then o.value else x) (by_test (o.variable.0 == v))
  where
    by_test : (y : Bool) → operand t results (if y then o.value else x) ≡ (if y then operand t results o.value else f v)
    by_test true = refl
    by_test false = h

returned_is : (os : List Out) (r : Ranged) (returned : Option VarId) → word_if (option_map (left_in os) returned) r.words r.results ≡ word_of returned (with_outs os r)
returned_is os r None = refl
returned_is os r (Some variable) = ap Some (held_is os r.words r.results r.words.variables variable.0 (plan.unset variable) refl)

straight_is : (around : Around) (os : List Out) (ahead : Ahead) (r : Ranged) → going_of (straight around os ahead) r.words r.results ≡ led_on around ahead (with_outs os r)
straight_is around os finish r = ap ends (returned_is os r around.returned)
straight_is around os (onto node) r = refl
straight_is around os (tested yes_ no_) r = refl
straight_is around os (by_case cases other) r = refl

case_is : (t : Words) (results : List ℕ) (tests : List Operand) (cases all : List ℕ) (other i : ℕ) → length tests ≡ length cases → ((k : ℕ) → get_or cases k other ≡ get_or all (i + k) other)
    → to (chosen t results (zip tests cases) other) ≡ led_to_case all other (first_case t results tests i)
case_is t results [] cases all other i e h = refl
case_is t results (x ∷ xs) [] all other i e h = absurd (omega (arith, e))
case_is t results (x ∷ xs) (c ∷ cs) all other i e h =
    by_test (holds t results x)
    (case_is t results xs cs all other (i + 1) (omega (arith, e)) (λ k. h (suc k) ∙ ap (λ j. get_or all j other) (let q : i + suc k ≡ i + 1 + k = omega arith in q)))
  where
    by_test : (y : Bool) → to (chosen t results (zip xs cs) other) ≡ led_to_case all other (first_case t results xs (i + 1))
        → to (if y then c else chosen t results (zip xs cs) other) ≡ led_to_case all other (if y then Some i else first_case t results xs (i + 1))
    by_test true k = ap to (h 0 ∙ ap (λ j. get_or all j other) (let q : i + 0 ≡ i = omega arith in q))
    by_test false k = k

pub end_leads : (inside : Inside) (around : Around) (os : List Out) (ahead : Ahead) (exit : ExitTree) (r : Ranged) → ExitFits inside (kind_of ahead) exit
    → going_of (end_for around os ahead exit) r.words r.results ≡ led around ahead (way_of exit r.words r.results) (with_outs os r)
end_leads inside around os finish next r h = straight_is around os finish r
end_leads inside around os (onto node) next r h = refl
end_leads inside around os (tested yes_ no_) next r h = refl
end_leads inside around os (by_case cases other) next r h = refl
end_leads inside around os (tested yes_ no_) (branch test) r h = refl
end_leads inside around os (by_case cases other) (choose tests) r h = case_is r.words r.results tests cases cases other 0 h (λ k. ap (λ j. get_or cases j other) (let q : k ≡ 0 + k = omega arith in q))
end_leads inside around os finish (branch test) r h = elim h [ ]
end_leads inside around os (onto node) (branch test) r h = elim h [ ]
end_leads inside around os (by_case cases other) (branch test) r h = elim h [ ]
end_leads inside around os finish (choose tests) r h = elim h [ ]
end_leads inside around os (onto node) (choose tests) r h = elim h [ ]
end_leads inside around os (tested yes_ no_) (choose tests) r h = elim h [ ]
end_leads inside around os ahead break_ r h = refl
end_leads inside around os ahead continue_ r h = refl
end_leads inside around os ahead (leave number) r h = refl
