use Rattle.std.proofs.Common.{◌∙◌, ap, map}
use Rattle.c_tree.specs.View.{item_of}
use Rattle.c_meaning.specs.Checks.Limits.{file_objects}
use Rattle.c_interpreter.proofs.ExecutionLemmas.UnderWay.{begun-under-way}
use Rattle.c_interpreter.proofs.execution.run.beginning.start.Goals as goal

-- src/run/beginning.rt:26:5
pub invariant_of-result : goal.invariant_of-result
invariant_of-result c =
    begun-under-way (record { checked = c.args.checked; declared = c.in_ok-declared.declared; kept = c.in_ok-kept.kept; inputs = c.in_ok-inputs.inputs; machine = c.in_ok-machine.machine }) c.as_slice-3.result.now
    c.as_slice-3.ensures.value (c.in_ok-declared.ensures ∙ ap (λ is. file_objects (map item_of is)) c.as_slice.ensures.value) c.in_ok-machine.ensures
