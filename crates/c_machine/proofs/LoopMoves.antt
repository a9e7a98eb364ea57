-- Moves of loops leave of a run what was left before.
use Rattle.std.proofs.Common.{◌≡◌, ℕ, zero, suc, ◌+◌, ◌-◌, ◌≤◌, ◌∙◌, sym, refl, ap, [], ◌∷◌, ℤ, Option, Some, None, Bool, true, false, arith}
use Rattle.hls_base.specs.declared.place.Place.{Place}
use Rattle.hls_base.specs.declared.point.PointKind.TheVariants as point
use Rattle.c_tree.specs.Tree.{StmtTree}
use Rattle.c_value.specs.Operators.{is_true}
use Rattle.c_meaning.specs.declared.value.Completion.{Completion}
use Rattle.c_meaning.specs.declared.value.Completion.TheVariants as end
use Rattle.c_meaning.specs.declared.value.Round.{Round}
use Rattle.c_meaning.specs.declared.value.Round.TheVariants as round
use Rattle.c_meaning.specs.Store.{State, Environment}
use Rattle.c_meaning.specs.Steps.{Ran, then_, goes, waits, pass}
use Rattle.c_meaning.specs.Expression.{Calls, expression_meaning}
use Rattle.c_meaning.specs.Statement.{act_all, statement_meaning, repeat, if_again, behind_loop, run_body, round_of}
use Rattle.c_machine.specs.Frames as f
use Rattle.c_machine.specs.Frames.{Configuration, Loop}
use Rattle.c_machine.specs.Rest.{rest_of, setting, state_with, calls_at, with_end, rounds, round_meaning, behind_round, behind_test, behind_body, loop_place}
use Rattle.c_machine.specs.Moves.{here, round_begun, loop_over, tested, stepping, body_left}
use Rattle.c_machine.proofs.ThenLaws.{then_assoc}
use Rattle.c_machine.proofs.Nesting.{nest4, inner3, inner4}

-- ---- so many iterations at most

-- An iteration that may pass no point waits.
waits_first : (c : Calls) (l : Loop) (env : Environment) (s : State) → s.left ≡ 0 → round_meaning c l env s ≡ waits
waits_first c (f.tests_first test body step at) env s e = rw e refl
waits_first c (f.tests_last test body at) env s e = rw e refl

one_round : (c : Calls) (l : Loop) (fuel : ℕ) (env : Environment) (s : State) → s.left ≤ fuel
    → repeat fuel (round_meaning c l env) s ≡ then_ (round_meaning c l env s) (λ r s1. if_again r (repeat (fuel - 1) (round_meaning c l env)) s1)
one_round c l zero env s h = sym (ap (λ (r : Ran Round). then_ r (λ r s1. if_again r (repeat (zero - 1) (round_meaning c l env)) s1)) (waits_first c l env s (omega arith)))
one_round c l (suc fuel) env s h =
    let e : suc fuel - 1 ≡ fuel = omega arith in
    ap (λ n. then_ (round_meaning c l env s) (λ r s1. if_again r (repeat n (round_meaning c l env)) s1)) (sym e)

-- the first of them, and then the others
pub rounds-first : (c : Calls) (l : Loop) (fuel others : ℕ) (env : Environment) (s : State) (k : Completion → State → Ran (Option ℤ)) → s.left ≤ fuel → fuel - 1 ≡ others
    → then_ (rounds c l fuel env s) k ≡ then_ (then_ (round_meaning c l env s) (behind_round c l others env)) k
rounds-first c l fuel others env s k h e =
    ap (λ (r : Ran Completion). then_ r k)
    (ap (λ (r : Ran Round). then_ r (λ r1 s1. behind_loop r1 (loop_place l) env s1)) (one_round c l fuel env s h)
    ∙ then_assoc (round_meaning c l env s) (λ r s1. if_again r (repeat (fuel - 1) (round_meaning c l env)) s1) (λ r1 s1. behind_loop r1 (loop_place l) env s1)
    ∙ ap (λ n. then_ (round_meaning c l env s) (behind_round c l n env)) e)

-- ---- moves

-- the body of an iteration, which is reached by its point
body_begun : (left : ℕ) (l : Loop) (spent : ℕ) (body : StmtTree) (at : Place) (m : Configuration)
    → then_ (pass point.Body at (here m) (state_with left m))
    (λ p s1. then_ (statement_meaning (calls_at (setting left m) m.stack) false body (here m) s1)
    (λ r s2. then_ (then_ (behind_body (calls_at (setting left m) m.stack) l (round_of r) (here m) s2)
    (behind_round (calls_at (setting left m) m.stack) l ((m.meter.passed + left) - (spent + 1)) (here m))) (with_end (setting left m) m.stack m.held)))
    ≡ then_ (then_ (then_ (run_body (statement_meaning (calls_at (setting left m) m.stack) false body) at (here m) (state_with left m))
    (λ r s2. behind_body (calls_at (setting left m) m.stack) l r (here m) s2))
    (behind_round (calls_at (setting left m) m.stack) l ((m.meter.passed + left) - (spent + 1)) (here m))) (with_end (setting left m) m.stack m.held)
body_begun left l spent body at m =
    let c = calls_at (setting left m) m.stack in
    sym (inner4 (pass point.Body at (here m) (state_with left m)) (λ p s1. statement_meaning c false body (here m) s1) (λ r s2. goes (round_of r) s2)
    (λ r s2. behind_body c l r (here m) s2) (behind_round c l ((m.meter.passed + left) - (spent + 1)) (here m)) (with_end (setting left m) m.stack m.held))

begun_at : (left : ℕ) (l : Loop) (spent : ℕ) (m : Configuration)
    → rest_of left (round_begun l spent m)
    ≡ then_ (then_ (round_meaning (calls_at (setting left m) m.stack) l (here m) (state_with left m))
    (behind_round (calls_at (setting left m) m.stack) l ((m.meter.passed + left) - (spent + 1)) (here m))) (with_end (setting left m) m.stack m.held)
begun_at left (f.tests_first None body step at) spent m =
    let c = calls_at (setting left m) m.stack in
    let l = f.tests_first None body step at in
    sym (nest4 (pass point.Test at (here m) (state_with left m)) (λ p s1. goes true s1) (λ holds s1. behind_test c l holds (here m) s1)
    (behind_round c l ((m.meter.passed + left) - (spent + 1)) (here m)) (with_end (setting left m) m.stack m.held))
begun_at left (f.tests_first (Some test) body step at) spent m =
    let c = calls_at (setting left m) m.stack in
    let l = f.tests_first (Some test) body step at in
    sym (inner4 (pass point.Test at (here m) (state_with left m)) (λ p s1. expression_meaning c true test (here m) s1) (λ x s1. goes (is_true x.number) s1)
    (λ holds s1. behind_test c l holds (here m) s1)
    (behind_round c l ((m.meter.passed + left) - (spent + 1)) (here m)) (with_end (setting left m) m.stack m.held))
begun_at left (f.tests_last test body at) spent m = body_begun left (f.tests_last test body at) spent body at m

pub round_begun-rest : (left : ℕ) (l : Loop) (spent : ℕ) (m : Configuration) → spent ≤ m.meter.passed
    → rest_of left (round_begun l spent m)
    ≡ then_ (rounds (calls_at (setting left m) m.stack) l ((m.meter.passed + left) - spent) (here m) (state_with left m)) (with_end (setting left m) m.stack m.held)
round_begun-rest left l spent m h =
    begun_at left l spent m
    ∙ sym (rounds-first (calls_at (setting left m) m.stack) l ((m.meter.passed + left) - spent) ((m.meter.passed + left) - (spent + 1)) (here m) (state_with left m) (with_end (setting left m) m.stack m.held)
    (omega arith) (omega arith))

-- a loop begins
pub loop_begun-rest : (left : ℕ) (l : Loop) (m : Configuration)
    → rest_of left (round_begun l m.meter.passed m) ≡ then_ (rounds (calls_at (setting left m) m.stack) l left (here m) (state_with left m)) (with_end (setting left m) m.stack m.held)
loop_begun-rest left l m =
    let e : (m.meter.passed + left) - m.meter.passed ≡ left = omega arith in
    round_begun-rest left l m.meter.passed m (omega arith)
    ∙ ap (λ n. then_ (rounds (calls_at (setting left m) m.stack) l n (here m) (state_with left m)) (with_end (setting left m) m.stack m.held)) e

loop_over-rest : (left : ℕ) (l : Loop) (m : Configuration)
    → rest_of left (loop_over l m) ≡ then_ (behind_loop round.Over (loop_place l) (here m) (state_with left m)) (with_end (setting left m) m.stack m.held)
loop_over-rest left l m =
    sym (then_assoc (pass point.End (loop_place l) (here m) (state_with left m)) (λ p s1. goes end.Normal s1) (with_end (setting left m) m.stack m.held))

pub tested-rest : (left : ℕ) (l : Loop) (spent : ℕ) (holds : Bool) (m : Configuration) → spent + 1 ≤ m.meter.passed
    → rest_of left (tested l spent holds m)
    ≡ then_ (then_ (behind_test (calls_at (setting left m) m.stack) l holds (here m) (state_with left m))
    (behind_round (calls_at (setting left m) m.stack) l ((m.meter.passed + left) - (spent + 1)) (here m))) (with_end (setting left m) m.stack m.held)
tested-rest left (f.tests_first test body step at) spent true m h = body_begun left (f.tests_first test body step at) spent body at m
tested-rest left (f.tests_first test body step at) spent false m h = loop_over-rest left (f.tests_first test body step at) m
tested-rest left (f.tests_last test body at) spent true m h = round_begun-rest left (f.tests_last test body at) (spent + 1) m h
tested-rest left (f.tests_last test body at) spent false m h = loop_over-rest left (f.tests_last test body at) m

stepping-rest : (left : ℕ) (l : Loop) (spent : ℕ) (m : Configuration) → spent + 1 ≤ m.meter.passed
    → rest_of left (stepping l spent m)
    ≡ then_ (then_ (behind_body (calls_at (setting left m) m.stack) l round.Again (here m) (state_with left m))
    (behind_round (calls_at (setting left m) m.stack) l ((m.meter.passed + left) - (spent + 1)) (here m))) (with_end (setting left m) m.stack m.held)
stepping-rest left (f.tests_first test body [] at) spent m h = round_begun-rest left (f.tests_first test body [] at) (spent + 1) m h
stepping-rest left (f.tests_first test body (a ∷ more) at) spent m h =
    let c = calls_at (setting left m) m.stack in
    let l = f.tests_first test body (a ∷ more) at in
    sym (inner3 (pass point.Step at (here m) (state_with left m)) (λ p s1. act_all c (a ∷ more) (here m) s1) (λ u s1. goes round.Again s1)
    (behind_round c l ((m.meter.passed + left) - (spent + 1)) (here m)) (with_end (setting left m) m.stack m.held))
stepping-rest left (f.tests_last test body at) spent m h =
    let c = calls_at (setting left m) m.stack in
    let l = f.tests_last test body at in
    sym (inner4 (pass point.Test at (here m) (state_with left m)) (λ p s1. expression_meaning c true test (here m) s1) (λ x s1. goes (is_true x.number) s1)
    (λ holds s1. behind_test c l holds (here m) s1)
    (behind_round c l ((m.meter.passed + left) - (spent + 1)) (here m)) (with_end (setting left m) m.stack m.held))

pub body_left-rest : (left : ℕ) (l : Loop) (spent : ℕ) (r : Round) (m : Configuration) → spent + 1 ≤ m.meter.passed
    → rest_of left (body_left l spent r m)
    ≡ then_ (then_ (behind_body (calls_at (setting left m) m.stack) l r (here m) (state_with left m))
    (behind_round (calls_at (setting left m) m.stack) l ((m.meter.passed + left) - (spent + 1)) (here m))) (with_end (setting left m) m.stack m.held)
body_left-rest left l spent round.Again m h = stepping-rest left l spent m h
body_left-rest left (f.tests_first test body step at) spent round.Over m h = loop_over-rest left (f.tests_first test body step at) m
body_left-rest left (f.tests_last test body at) spent round.Over m h = loop_over-rest left (f.tests_last test body at) m
body_left-rest left (f.tests_first test body step at) spent (round.Out n) m h = refl
body_left-rest left (f.tests_last test body at) spent (round.Out n) m h = refl
