use Rattle.std.proofs.Common.{◌≡◌, ◌∙◌, ap, subst, ◌+◌}
use Rattle.c_meaning.specs.Declarations.{objects_of}
use Rattle.c_meaning.specs.Points.{tally_of}
use Rattle.c_moves.specs.Machines.{configuration_of}
use Rattle.c_interpreter.specs.Execution.Progress.{Progress, answer_within, points_within, outcome_of, left_behind}
use Rattle.c_interpreter.specs.Execution.RunViews.{standing_of}
use Rattle.c_interpreter.specs.Execution.Runs.{top_function, outcome_by, left_contents}
use Rattle.c_interpreter.proofs.ExecutionLemmas.Runs.{gone-run, gone-answer, gone-kept, gone-counted, allowed-keeps, allowed-sum, told-ok, kept-ok}
use Rattle.c_interpreter.proofs.ExecutionLemmas.UnderWay.{gone-under-way}
use Rattle.c_interpreter.proofs.execution.run.Run.go.Goals as goal

-- src/run.rt:144:9
pub invariant_of-self : goal.invariant_of-self
invariant_of-self c =
    gone-under-way c.self.inside c.run.new.machine
    (allowed-keeps (configuration_of c.self.inside.machine) c.allow.new.self (configuration_of c.run.new.machine) c.args.points c.allow.ensures c.run.ensures.follows) c.run.ensures.sound c.run.ensures.shaped c.self.invariant

-- src/run.rt:132:5
pub invariant_of-self-2 : goal.invariant_of-self-2
invariant_of-self-2 c =
    gone-under-way c.self.inside c.run.new.machine
    (allowed-keeps (configuration_of c.self.inside.machine) c.allow.new.self (configuration_of c.run.new.machine) c.args.points c.allow.ensures c.run.ensures.follows) c.run.ensures.sound c.run.ensures.shaped c.self.invariant

-- src/run.rt:132:5
pub returns-clause-answer : goal.returns-clause-answer
returns-clause-answer c =
    let r = standing_of (record c.self.inside { machine = c.run.new.machine }) in
    told-ok c.outcome.result _ _
    (ap (λ ds. outcome_by (objects_of ds) (top_function r.program r.top) r.machine r.machine.control) c.as_slice.ensures.value
    ∙ gone-answer r (c.self.inside.machine.meter.passed + c.args.points) c.run.new.machine.meter.left c.self.invariant.file c.in_ok-run.ensures.done
    (allowed-sum c.self.inside.machine.meter c.allow.new.self c.run.new.machine.meter c.args.points c.allow.ensures c.run.ensures.total) c.self.inside.kept c.self.inside.inputs.scalars c.self.inside.inputs.arrays
    (gone-run (standing_of c.self.inside) (configuration_of c.run.new.machine)
    (allowed-keeps (configuration_of c.self.inside.machine) c.allow.new.self (configuration_of c.run.new.machine) c.args.points c.allow.ensures c.run.ensures.follows) c.self.inside.kept c.self.inside.inputs.scalars c.self.inside.inputs.arrays
    c.self.invariant.run)
    ∙ ap (λ (p : Progress). outcome_of (answer_within p.begun (p.passed + c.args.points))) c.self.view_is) c.outcome.ensures

-- src/run.rt:132:5
pub returns-clause-left : goal.returns-clause-left
returns-clause-left c =
    let r = standing_of (record c.self.inside { machine = c.run.new.machine }) in
    kept-ok c.outcome.result _
    (subst (λ (p : Progress). left_contents r c.self.inside.kept ≡ left_behind (answer_within p.begun (p.passed + c.args.points)) p.begun.kept) c.self.view_is
    (gone-kept r (c.self.inside.machine.meter.passed + c.args.points) c.run.new.machine.meter.left c.self.invariant.file c.in_ok-run.ensures.done
    (allowed-sum c.self.inside.machine.meter c.allow.new.self c.run.new.machine.meter c.args.points c.allow.ensures c.run.ensures.total) c.self.inside.kept c.self.inside.inputs.scalars c.self.inside.inputs.arrays
    (gone-run (standing_of c.self.inside) (configuration_of c.run.new.machine)
    (allowed-keeps (configuration_of c.self.inside.machine) c.allow.new.self (configuration_of c.run.new.machine) c.args.points c.allow.ensures c.run.ensures.follows) c.self.inside.kept c.self.inside.inputs.scalars c.self.inside.inputs.arrays
    c.self.invariant.run)))

-- src/run.rt:132:5
pub returns-clause-counts : goal.returns-clause-counts
returns-clause-counts c =
    let r = standing_of (record c.self.inside { machine = c.run.new.machine }) in
    kept-ok c.outcome.result _
    (gone-counted r (c.self.inside.machine.meter.passed + c.args.points) c.run.new.machine.meter.left c.in_ok-run.ensures.done
    (allowed-sum c.self.inside.machine.meter c.allow.new.self c.run.new.machine.meter c.args.points c.allow.ensures c.run.ensures.total) c.self.inside.kept c.self.inside.inputs.scalars c.self.inside.inputs.arrays
    (gone-run (standing_of c.self.inside) (configuration_of c.run.new.machine)
    (allowed-keeps (configuration_of c.self.inside.machine) c.allow.new.self (configuration_of c.run.new.machine) c.args.points c.allow.ensures c.run.ensures.follows) c.self.inside.kept c.self.inside.inputs.scalars c.self.inside.inputs.arrays
    c.self.invariant.run)
    ∙ ap (λ (p : Progress). tally_of (points_within p.begun (p.passed + c.args.points))) c.self.view_is)
