use Rattle.std.proofs.Common.{◌∙◌, ◌+◌, ap, [], ◌∷◌, ◌++◌, reverse, arith}
use Rattle.c_meaning.specs.declared.names.Binding.{Binding}
use Rattle.c_machine.specs.State.Scopes.{Environments}
use Rattle.c_meaning.specs.Names.{bind}
use Rattle.c_machine.proofs.StateLemmas.Scoping.{shown, name-put, names-cut, nested-name, anyway}
use Rattle.c_machine.proofs.state.scopes.Scopes.bind.Goals as goal

pub returns-in_err-put_name-clause-err : goal.returns-in_err-put_name-clause-err
returns-in_err-put_name-clause-err c =
    let i = c.self.inside in
    anyway _ _ (ap (λ xs. shown i.file.items xs i.calls.items i.here (reverse i.outer.items)) c.in_err-put_name.ensures.err
    ∙ names-cut i.file.items i.names.items i.calls.items i.here (reverse i.outer.items) c.self.invariant ∙ c.self.view_is)

pub invariant_of-self-2 : goal.invariant_of-self-2
invariant_of-self-2 c =
    let i = c.self.inside in
    let b : Binding = record { name = c.in_ok-name.name; object = c.args.object } in
    let n = nested-name i.names.items i.calls.items i.here (reverse i.outer.items) b i.here.next (omega (arith, c.self.invariant.0.next)) c.self.invariant in
    rw c.in_ok-put_name.ensures.ok n

pub returns-clause-ok : goal.returns-clause-ok
returns-clause-ok c =
    let i = c.self.inside in
    let b : Binding = record { name = c.in_ok-name.name; object = c.args.object } in
    ap (λ xs. shown i.file.items xs i.calls.items (record i.here { to = i.here.to + 1 }) (reverse i.outer.items)) c.in_ok-put_name.ensures.ok
    ∙ name-put i.file.items i.names.items i.calls.items i.here (reverse i.outer.items) b i.here.next c.self.invariant
    ∙ ap (λ (v : Environments). record v { environment = record (v.environment) { names = v.environment.names ++ b ∷ []; next = v.environment.next } }) c.self.view_is
    ∙ ap (λ n. record c.args.self.now { environment = bind c.args.self.now.environment n c.args.object }) c.in_ok-name.ensures
