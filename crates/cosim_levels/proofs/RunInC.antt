-- What an outcome of the run in C says of the run.
use Rattle.std.proofs.Common.{◌≡◌, ℕ, ◌+◌, Result, IfOk, refl, ap, subst, arith}
use Rattle.c_meaning.specs.declared.outcome.Final.{Final}
use Rattle.c_meaning.specs.declared.outcome.Outcome.{Outcome}
use Rattle.c_meaning.specs.declared.outcome.Outcome.TheVariants as o
use Rattle.c_meaning.specs.Points.{tally_of}
use Rattle.c_meaning.specs.Run as run
use Rattle.c_meaning.specs.Run.{Answer}
use Rattle.c_interpreter.specs.Execution.Progress.{Begun, answer_within, outcome_of}
use Rattle.hls_base.specs.declared.place.Place.{Place}
use Rattle.hls_base.specs.declared.refusal.UbRule.{UbRule}
use Rattle.cosim_levels.specs.declared.verdict.Level.TheVariants.{C}
use Rattle.cosim_levels.specs.Verdicts.{undefined, waiting}
use Rattle.cosim_levels.specs.Levels.{EndsWith, IsUnended}

-- what a run that has passed no point comes to
pub from_start : {E : Type 0} (r : Result Outcome E) (begun first : Begun) (passed points : ℕ) → begun ≡ first → passed ≡ 0 → IfOk r (λ x. x ≡ outcome_of (answer_within begun (passed + points)))
    → IfOk r (λ x. x ≡ outcome_of (answer_within first points))
from_start r begun first passed points same none answer =
    let all : passed + points ≡ points = omega (arith, none) in
    subst (λ b. IfOk r (λ x. x ≡ outcome_of (answer_within b points))) same
    (subst (λ n. IfOk r (λ x. x ≡ outcome_of (answer_within begun n))) all answer)

pub ends_with : (a : Answer) (f : Final) → o.Ended f ≡ outcome_of a → EndsWith a f
ends_with (run.ended r arrays kept trace) f e =
    let same : f ≡ record { ret = r; arrays = arrays; tally = tally_of trace } = cc in
    record { kept = kept; trace = trace; is = rw same refl; tally = ap (λ (x : Final). x.tally) same }
ends_with (run.undefined rule at) f e = absurd cc
ends_with run.running f e = absurd cc

pub goes_on : (a : Answer) (points : ℕ) → o.Running ≡ outcome_of a → IsUnended a points (waiting C points)
goes_on (run.ended r arrays kept trace) points e = absurd cc
goes_on (run.undefined rule at) points e = absurd cc
goes_on run.running points e = refl

pub has_no_meaning : (a : Answer) (points : ℕ) (rule : UbRule) (at : Place) → o.Undefined rule at ≡ outcome_of a → IsUnended a points (undefined rule at)
has_no_meaning (run.ended r arrays kept trace) points rule at e = absurd cc
has_no_meaning (run.undefined rule1 at1) points rule at e = cc
has_no_meaning run.running points rule at e = absurd cc
