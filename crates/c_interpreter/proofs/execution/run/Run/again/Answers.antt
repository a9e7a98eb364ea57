use Rattle.std.proofs.Common.{◌≡◌, ◌∙◌, sym, subst}
use Rattle.hls_base.specs.FileScope.{FileScope}
use Rattle.c_tree.specs.View.{program_of}
use Rattle.c_meaning.specs.Declarations.{objects_of}
use Rattle.c_moves.specs.Machines.{configuration_of}
use Rattle.c_interpreter.specs.Execution.Runs.{top_function, is_begun}
use Rattle.c_interpreter.proofs.ExecutionLemmas.UnderWay.{begun-under-way}
use Rattle.c_interpreter.proofs.execution.run.Run.again.Goals as goal

-- The run begins with what is kept from then on.
pub invariant_of-self : goal.invariant_of-self
invariant_of-self c =
    let p = program_of c.self.inside.checked.now.program in
    let same : c.left_or-kept.result.now ≡ c.keep.new.kept = c.left_or-kept.ensures ∙ sym c.keep.ensures in
    begun-under-way (record { checked = c.self.inside.checked; declared = c.self.inside.declared; kept = c.keep.new.kept; inputs = c.in_ok-inputs.inputs; machine = c.in_ok-machine.machine })
    c.as_slice-declared.result.now c.as_slice-declared.ensures.value c.self.invariant.file
    (subst
    (λ (k : FileScope).
    is_begun p.items (top_function p c.self.inside.checked.now.top) (objects_of c.as_slice-declared.result.now) k c.in_ok-inputs.inputs.scalars c.in_ok-inputs.inputs.arrays (configuration_of c.in_ok-machine.machine))
    same c.in_ok-machine.ensures)
