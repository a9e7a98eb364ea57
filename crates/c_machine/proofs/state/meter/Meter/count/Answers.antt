use Rattle.std.proofs.Common.{◌∙◌, ap, arith, refl, ◌+◌, ◌-◌}
use Rattle.c_machine.specs.State.Reading.{Reading}
use Rattle.c_meaning.specs.Points.{count_point}
use Rattle.c_machine.specs.State.Metering.{counts_of}
use Rattle.c_machine.proofs.StateLemmas.Counting.{Counted, more_calls, one_more, same_rows, before-le, count_before, same_view, on_err, less_one}
use Rattle.c_machine.proofs.state.meter.Meter.count.Goals as goal

pub invariant_of-self : goal.invariant_of-self
invariant_of-self c =
    (more_calls c.self.inside.left c.self.inside.passed c.self.inside.calls.entries c.path_number.new.calls.entries c.self.inside.counts.entries c.self.invariant c.path_number.ensures.table c.path_number.ensures.kept).sound

pub returns-in_err-path-clause-unchanged : goal.returns-in_err-path-clause-unchanged
returns-in_err-path-clause-unchanged c =
    let same = (more_calls c.self.inside.left c.self.inside.passed c.self.inside.calls.entries c.path_number.new.calls.entries c.self.inside.counts.entries c.self.invariant c.path_number.ensures.table c.path_number.ensures.kept).same in
    on_err c.from_residual.result _ (same_view c.self.inside.left c.self.inside.passed _ _ c.args.self.now same c.self.view_is)

pub overflow_add-before : goal.overflow_add-before
overflow_add-before c =
    let known = count_before c.self.inside.counts.entries (record { path = c.in_ok-path.path; at = c.args.at; kind = c.args.kind }) c.unwrap_or-before.result _ c.unwrap_or-before.ensures (c.copied.ensures ∙ c.get.ensures.value) in
    let le = before-le c.self.inside.counts.entries (record { path = c.in_ok-path.path; at = c.args.at; kind = c.args.kind }) in
    let sum = c.self.invariant.sum in
    let fits = c.self.invariant.fits in
    let left = ap (λ (r : Reading). r.left) c.self.view_is in
    omega (arith, known, le, sum, fits, left, c.requires)

pub invariant_of-self-in_err-insert : goal.invariant_of-self-in_err-insert
invariant_of-self-in_err-insert c =
    let sound = (more_calls c.self.inside.left c.self.inside.passed c.self.inside.calls.entries c.path_number.new.calls.entries c.self.inside.counts.entries c.self.invariant c.path_number.ensures.table c.path_number.ensures.kept).sound in
    same_rows c.self.inside.left c.self.inside.passed c.path_number.new.calls.entries c.self.inside.counts.entries c.insert.new.self.entries sound c.in_err-insert.ensures.err

pub returns-in_err-insert-clause-unchanged : goal.returns-in_err-insert-clause-unchanged
returns-in_err-insert-clause-unchanged c =
    let same = (more_calls c.self.inside.left c.self.inside.passed c.self.inside.calls.entries c.path_number.new.calls.entries c.self.inside.counts.entries c.self.invariant c.path_number.ensures.table c.path_number.ensures.kept).same in
    on_err c.from_residual-in_err-insert.result _
    (same_view c.self.inside.left c.self.inside.passed _ _ c.args.self.now (ap (counts_of c.path_number.new.calls.entries) c.in_err-insert.ensures.err ∙ same) c.self.view_is)

counted : (c : goal.After-self-2-1) → Counted (c.self.inside.left - 1) (c.self.inside.passed + 1) c.path_number.new.calls.entries c.self.inside.counts.entries c.insert.new.self.entries (record { path = c.args.path.now; at = c.args.at; kind = c.args.kind })
counted c =
    let sound = (more_calls c.self.inside.left c.self.inside.passed c.self.inside.calls.entries c.path_number.new.calls.entries c.self.inside.counts.entries c.self.invariant c.path_number.ensures.table c.path_number.ensures.kept).sound in
    let left = ap (λ (r : Reading). r.left) c.self.view_is in
    one_more c.self.inside.left (c.self.inside.left - 1) c.self.inside.passed (c.self.inside.passed + 1) c.path_number.new.calls.entries c.self.inside.counts.entries c.insert.new.self.entries
    (record { path = c.in_ok-path.path; at = c.args.at; kind = c.args.kind }) c.unwrap_or-before.result (record { path = c.args.path.now; at = c.args.at; kind = c.args.kind }) sound
    c.in_ok-path.ensures.number (ap (λ path. record { path = path; at = c.args.at; kind = c.args.kind }) c.in_ok-path.ensures.path)
    (count_before c.self.inside.counts.entries (record { path = c.in_ok-path.path; at = c.args.at; kind = c.args.kind }) c.unwrap_or-before.result _ c.unwrap_or-before.ensures (c.copied.ensures ∙ c.get.ensures.value))
    c.in_ok-insert.ensures.entries (less_one c.self.inside.left c.args.self.now.left left c.requires) refl

pub invariant_of-self-2 : goal.invariant_of-self-2
invariant_of-self-2 c = (counted c).sound

pub returns-clause-counts : goal.returns-clause-counts
returns-clause-counts c =
    let same = (more_calls c.self.inside.left c.self.inside.passed c.self.inside.calls.entries c.path_number.new.calls.entries c.self.inside.counts.entries c.self.invariant c.path_number.ensures.table c.path_number.ensures.kept).same in
    (counted c).counts ∙ ap (count_point (record { path = c.args.path.now; at = c.args.at; kind = c.args.kind })) (same ∙ ap (λ (r : Reading). r.counts) c.self.view_is)
