use Rattle.std.proofs.Common.{◌≡◌, ℕ, length, replicate, sym, ap, ◌∙◌, subst, arith}
use Rattle.std.proofs.lemmas.List.{length-replicate}
use Rattle.ir_core.specs.FirstContents.{with_kept, with_arguments}
use Rattle.flat_programs.proofs.MemoryLemmas.Banks.{written_back}
use Rattle.clock_machine.specs.Lines.Registers.{held}
use Rattle.clock_machine.specs.Starts.{KeptThere, ParametersThere}
use Rattle.clock_machine.proofs.FirstWords.{held_zeros}
use Rattle.clock_machine.proofs.first.first_variables.Goals as goal

pub returns-clause-held : goal.returns-clause-held
returns-clause-held c = λ kept params.
    let frame = c.args.frame.now in
    let v = c.in_ok-variables.variables in
    let scalars = c.args.inputs.now.scalars in
    let zeros : v.items ≡ replicate c.len.result 0 = c.in_ok-variables.ensures.items_if_clones_equal (λ y e. e) in
    let count : length v.items ≡ length frame.variables.items = omega (arith, ap length zeros, length-replicate {A = ℕ} c.len.result 0, c.len.ensures, frame.variables.ok.0) in
    let seen : length frame.variables.items ≡ length c.deref_mut.result.now = sym (ap length c.deref_mut.ensures.value ∙ count) in
    let own : length c.set_first.new.variables ≡ v.len = omega (arith, c.set_first.auto.variables, ap length c.deref_mut.ensures.value, v.ok.0) in
    ap held (written_back v.len c.set_first.new.variables v.items own)
    ∙ c.set_first.ensures (subst (KeptThere frame.kept.items) seen kept) (subst (ParametersThere frame.params.items) seen params)
    ∙ ap (λ xs. with_arguments frame.params.items xs (with_kept frame.kept.items (held c.deref_mut.result.now))) c.items.ensures
    ∙ ap (λ f. with_arguments frame.params.items scalars (with_kept frame.kept.items f)) (ap held (c.deref_mut.ensures.value ∙ zeros) ∙ held_zeros c.len.result)
