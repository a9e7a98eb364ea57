-- What follows a run goes on following it.
use Rattle.std.proofs.Common.{◌≡◌, ◌∙◌, ℕ, ◌+◌, ◌≤◌, sym, ap, subst, [], ◌∷◌, ◌++◌, Result, Ok, Err, OnOk, OnErr, arith}
use Rattle.hls_base.specs.declared.place.Place.{Place}
use Rattle.hls_base.specs.declared.point.Point.{Point}
use Rattle.hls_base.specs.declared.point.PointKind.{PointKind}
use Rattle.c_machine.specs.State.Reading.{Reading}
use Rattle.c_meaning.specs.Points.{count_point}
use Rattle.c_machine.specs.Frames as f
use Rattle.c_machine.specs.Frames.{Configuration, Step}
use Rattle.c_machine.specs.Rest.{rest_of}
use Rattle.c_machine.specs.Sound.{Sound}
use Rattle.c_machine.specs.Shape.{Shaped}
use Rattle.c_machine.specs.Moves.{point_passed}
use Rattle.c_machine.specs.Following.{keeps_following}
use Rattle.c_meaning.proofs.Tallies.{tally_of-more}
use Rattle.c_machine.proofs.Following.{follows-same, follows-point}

pub keeps-none : (m : Configuration) → keeps_following m m
keeps-none m run trace h e = (trace, h, e)

pub keeps-same : (m m1 : Configuration) → m1.meter ≡ m.meter → ((left : ℕ) → rest_of left m1 ≡ rest_of left m) → keeps_following m m1
keeps-same m m1 meter same run trace h e =
    (trace, follows-same run trace m m1 (ap (λ (r : Reading). r.passed) meter) same h, ap (λ (r : Reading). r.counts) meter ∙ e)

pub keeps-point : (kind : PointKind) (at : Place) (step : Step) (m m1 : Configuration) → m.control ≡ f.before kind at step → m1 ≡ record (point_passed step m) { meter = m1.meter }
    → m1.meter.passed ≡ m.meter.passed + 1 → m1.meter.counts ≡ count_point (record { path = m.held.environment.path; at = at; kind = kind }) m.meter.counts → keeps_following m m1
keeps-point kind at step m m1 now is passed counts run trace h e =
    let p : Point = record { path = m.held.environment.path; at = at; kind = kind } in
    (trace ++ p ∷ [], follows-point run trace kind at step m m1 now is passed h, counts ∙ ap (λ cs. count_point p cs) e ∙ sym (tally_of-more trace p))

pub keeps-both : (m m1 m2 : Configuration) → keeps_following m m1 → keeps_following m1 m2 → keeps_following m m2
keeps-both m m1 m2 first second run trace h e = let t = first run trace h e in second run t.0 t.1 t.2

-- a point that is passed, or not for want of memory
pub keeps-counted : {E : Type 0} (result : Result (Unit {0}) E) (kind : PointKind) (at : Place) (step : Step) (m m1 : Configuration) → m.control ≡ f.before kind at step
    → OnOk result (m1 ≡ record (point_passed step m) { meter = m1.meter }) → OnOk result (m1.meter.passed ≡ m.meter.passed + 1)
    → OnOk result (m1.meter.counts ≡ count_point (record { path = m.held.environment.path; at = at; kind = kind }) m.meter.counts) → OnErr result (m1 ≡ m) → keeps_following m m1
keeps-counted (Ok x) kind at step m m1 now is passed counts same = keeps-point kind at step m m1 now is passed counts
keeps-counted (Err e) kind at step m m1 now is passed counts same = subst (λ (x : Configuration). keeps_following m x) (sym same) (keeps-none m)

pub sound-counted : {E : Type 0} (result : Result (Unit {0}) E) (kind : PointKind) (at : Place) (step : Step) (m m1 : Configuration) → m.control ≡ f.before kind at step
    → OnOk result (m1 ≡ record (point_passed step m) { meter = m1.meter }) → OnOk result (m1.meter.passed ≡ m.meter.passed + 1) → OnErr result (m1 ≡ m) → Sound m → Sound m1
sound-counted (Ok x) kind at step m m1 now is passed same h = let h1 = rw now at h in rw (is, passed) h1
sound-counted (Err e) kind at step m m1 now is passed same h = rw same h

pub shaped-counted : {E : Type 0} (result : Result (Unit {0}) E) (kind : PointKind) (at : Place) (step : Step) (m m1 : Configuration) → m.control ≡ f.before kind at step
    → OnOk result (m1 ≡ record (point_passed step m) { meter = m1.meter }) → OnErr result (m1 ≡ m) → Shaped m → Shaped m1
shaped-counted (Ok x) kind at step m m1 now is same h = let h1 = rw now at h in rw is h1
shaped-counted (Err e) kind at step m m1 now is same h = rw same h

-- and no fewer points are passed behind it
pub more-counted : {E : Type 0} (result : Result (Unit {0}) E) (m m1 : Configuration) → OnOk result (m1.meter.passed ≡ m.meter.passed + 1) → OnErr result (m1 ≡ m) → m.meter.passed ≤ m1.meter.passed
more-counted (Ok x) m m1 passed same = omega (arith, passed)
more-counted (Err e) m m1 passed same = let e1 = ap (λ (x : Configuration). x.meter.passed) same in omega (arith, e1)

pub ruleset keeping = (keeps-none, keeps-same, keeps-both, keeps-counted, sound-counted, shaped-counted, more-counted)
