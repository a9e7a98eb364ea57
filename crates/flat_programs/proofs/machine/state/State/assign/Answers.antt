use Rattle.std.proofs.Common.{◌≡◌, ℕ, map, take, length, ap, ◌∙◌, arith}
use Rattle.ir_core.specs.declared.body.Out.{Out}
use Rattle.ir_core.specs.Bodies.{Words, operand}
use Rattle.flat_programs.specs.Memory.Contents.{words_in}
use Rattle.flat_programs.specs.Memory.Filling.{filled}
use Rattle.flat_programs.proofs.MemoryLemmas.Banks.{written_back}
use Rattle.flat_programs.specs.Machine.Held.{holding}
use Rattle.flat_programs.specs.Machine.States.{results_of}
use Rattle.flat_programs.proofs.MachineLemmas.Reading.{assigned, front_back}
use Rattle.flat_programs.proofs.machine.state.State.assign.Goals as goal

abbrev words : (ℕ → ℕ) → (ℕ → ℕ → ℕ) → Words
words f m = record { variables = f; memories = m }

pub returns-clause-does : goal.returns-clause-does
returns-clause-does c = λ h.
    let s = c.args.self.now in
    let xs = c.args.outs.now in
    let vs = s.variables.items in
    let m = words_in s.memories in
    let k = length xs in
    let t = holding vs m in
    let value : Out → ℕ = λ x. operand t (results_of s) x.value in
    let fresh_count : length s.fresh.items ≡ s.fresh.len = omega (arith, s.fresh.ok.0) in
    let variable_count : length vs ≡ s.variables.len = omega (arith, s.variables.ok.0) in
    let read_count : length c.read_outs.new.into ≡ s.fresh.len = omega (arith, c.read_outs.auto.into, ap length c.deref_mut.ensures.value, fresh_count) in
    let set_count : length c.set_outs.new.variables ≡ s.variables.len = omega (arith, c.set_outs.auto.variables, ap length c.deref_mut-2.ensures.value, variable_count) in
    let reads : take k c.read_outs.new.into ≡ map value xs =
    c.read_outs.ensures m ∙ ap (λ l. map (λ (x : Out). operand (holding l m) (take s.position c.deref-2.result.now) x.value) xs) c.deref.ensures.value ∙ ap (λ l. map (λ (x : Out). operand t (take s.position l) x.value) xs) c.deref-2.ensures.value in
    let values : take k c.deref-3.result.now ≡ map value xs = ap (take k) c.deref-3.ensures.value ∙ front_back s.fresh.len k c.read_outs.new.into s.fresh.items read_count ∙ reads in
    let places = map (λ (x : Out). x.variable.0) xs in
    let set_is : c.set_outs.new.variables ≡ filled places (map value xs) vs =
    c.set_outs.ensures ∙ ap (λ l. filled places l c.deref_mut-2.result.now) values ∙ ap (filled places (map value xs)) c.deref_mut-2.ensures.value in
    ap (λ l. holding l m) (written_back s.variables.len c.set_outs.new.variables vs set_count ∙ set_is)
    ∙ ap (λ f. words f m) (assigned xs t (results_of s) vs h)
