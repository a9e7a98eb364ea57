-- A start has one answer.
use Rattle.std.proofs.Common.{◌≡◌, ◌≤◌, ◌<◌, ◌⊎◌, ◌+◌, ◌-◌, ◌∙◌, ℕ, List, Option, ap, arith, inl, inr, refl, subst, suc, sym, zero}
use Rattle.hls_base.specs.FileScope.{FileScope}
use Rattle.hls_base.specs.declared.point.Point.{Point}
use Rattle.c_tree.specs.Tree.{ProgramTree}
use Rattle.c_meaning.specs.Points.{tally_of}
use Rattle.c_meaning.specs.Laws.{IsKept}
use Rattle.c_meaning.specs.Run as c
use Rattle.c_meaning.specs.Run.{c_run}
use Rattle.c_meaning.proofs.MoreInRuns.{more_points_keep_answers}
use Rattle.rtl_core.specs.Box as box
use Rattle.cycle_report.specs.PlainReport.{PlainReport}
use Rattle.cycle_report.specs.FormulaValue.{cycles}
use Rattle.cosim_levels.specs.CAnswers as is
use Rattle.cosim_levels.specs.CAnswers.{IsCAnswer}
use Rattle.cosim_levels.specs.Laws.{StartsHaveOneAnswer, StartsAreAnswered}

-- ---- runs by the number of points

-- a run that has come to something
abbrev IsOver : c.Answer → Type 0
IsOver (c.ended result arrays kept trace) = Unit {0}
IsOver (c.undefined rule at) = Unit {0}
IsOver c.running = ⊥

-- what more points leave of it
kept_over : (n : ℕ) (x y : c.Answer) → IsKept n x y → IsOver x → y ≡ x
kept_over n (c.ended result arrays kept trace) y k over = k.0
kept_over n (c.undefined rule at) y k over = k
kept_over n c.running y k over = absurd over

longer : (run : ℕ → c.Answer) → ((n k : ℕ) → IsKept n (run n) (run (n + k))) → (n m : ℕ) → n ≤ m → IsOver (run n) → run m ≡ run n
longer run keeps n m le over =
    let e : n + (m - n) ≡ m = omega (arith, le) in
    kept_over n (run n) (run m) (subst (λ x. IsKept n (run n) (run x)) e (keeps n (m - n))) over

in_order : (n m : ℕ) → (n ≤ m) ⊎ (m ≤ n)
in_order zero m = inl (omega arith)
in_order (suc n) zero = inr (omega arith)
in_order (suc n) (suc m) = elim (in_order n m) [
  | inl h ↦ inl (omega (arith, h))
  | inr h ↦ inr (omega (arith, h))
]

agree : (run : ℕ → c.Answer) → ((n k : ℕ) → IsKept n (run n) (run (n + k))) → (n m : ℕ) → IsOver (run n) → IsOver (run m) → run n ≡ run m
agree run keeps n m a b =
    elim (in_order n m) [
      | inl le ↦ sym (longer run keeps n m le a)
      | inr le ↦ longer run keeps m n le b
    ]

-- ---- answers

-- what the box answers where the run has come to this
abbrev shown : PlainReport → c.Answer → box.Answer
shown report (c.ended result arrays kept trace) = box.Ended (cycles report.base report.rows (tally_of trace)) result arrays kept
shown report (c.undefined rule at) = box.Undefined
shown report c.running = box.Endless

-- the run has come to this answer after so many points, or waits at every number
data Comes (report : PlainReport) (run : ℕ → c.Answer) (a : box.Answer) : Type 0 where
  comes : (n : ℕ) → IsOver (run n) → a ≡ shown report (run n) → Comes report run a
  never : ((n : ℕ) → run n ≡ c.running) → a ≡ box.Endless → Comes report run a

comes_to : (program : ProgramTree) (top : ℕ) (report : PlainReport) (kept : FileScope) (arguments : List ℕ) (arrays : List (List ℕ)) (a : box.Answer)
    → IsCAnswer program top report kept arguments arrays a → Comes report (c_run program top kept arguments arrays) a
comes_to program top report kept arguments arrays a (is.ends n result elements left trace e f) =
    comes n (subst IsOver (sym e) tt) (f ∙ ap (shown report) (sym e))
comes_to program top report kept arguments arrays a (is.is_undefined n rule at e f) =
    comes n (subst IsOver (sym e) tt) (f ∙ ap (shown report) (sym e))
comes_to program top report kept arguments arrays a (is.is_endless e f) = never e f

not_over : (x : c.Answer) → x ≡ c.running → IsOver x → ⊥
not_over x e over = subst IsOver e over

one : (report : PlainReport) (run : ℕ → c.Answer) → ((n k : ℕ) → IsKept n (run n) (run (n + k))) → (a b : box.Answer) → Comes report run a → Comes report run b → a ≡ b
one report run keeps a b (comes n over e) (comes m ends f) = e ∙ (ap (shown report) (agree run keeps n m over ends) ∙ sym f)
one report run keeps a b (comes n over e) (never waits f) = absurd (not_over (run n) (waits n) over)
one report run keeps a b (never waits e) (comes m over f) = absurd (not_over (run m) (waits m) over)
one report run keeps a b (never waits e) (never rests f) = e ∙ sym f

pub one_answer : StartsHaveOneAnswer
one_answer program top report kept arguments arrays a b x y =
    one report (c_run program top kept arguments arrays) (more_points_keep_answers program top kept arguments arrays) a b
    (comes_to program top report kept arguments arrays a x) (comes_to program top report kept arguments arrays b y)

-- ---- each start is answered

answered_by : (program : ProgramTree) (top : ℕ) (report : PlainReport) (kept : FileScope) (arguments : List ℕ) (arrays : List (List ℕ)) (points : ℕ) (x : c.Answer)
    → c_run program top kept arguments arrays points ≡ x → ((a : box.Answer) × IsCAnswer program top report kept arguments arrays a) ⊎ (c_run program top kept arguments arrays points ≡ c.running)
answered_by program top report kept arguments arrays points (c.ended result elements left trace) e =
    inl (box.Ended (cycles report.base report.rows (tally_of trace)) result elements left, is.ends points result elements left trace e refl)
answered_by program top report kept arguments arrays points (c.undefined rule at) e = inl (box.Undefined, is.is_undefined points rule at e refl)
answered_by program top report kept arguments arrays points c.running e = inr e

pub answered : StartsAreAnswered
answered program top report kept arguments arrays points = answered_by program top report kept arguments arrays points (c_run program top kept arguments arrays points) refl
