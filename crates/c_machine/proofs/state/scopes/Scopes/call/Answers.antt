use Rattle.std.proofs.Common.{◌∙◌, ◌+◌, ap, [], ◌∷◌, ◌++◌, reverse}
use Rattle.std.proofs.lemmas.List.{reverse-append}
use Rattle.c_machine.specs.declared.state.scopes.Scope.{Scope}
use Rattle.c_machine.specs.State.Scopes.{Environments}
use Rattle.c_meaning.specs.Names.{begun}
use Rattle.c_machine.proofs.StateLemmas.Scoping.{shown, call-put, calls-cut, calls-put, anyway}
use Rattle.c_machine.proofs.state.scopes.Scopes.call.Goals as goal

pub returns-in_err-put_place-clause-err : goal.returns-in_err-put_place-clause-err
returns-in_err-put_place-clause-err c =
    let i = c.self.inside in
    anyway _ _ (ap (λ xs. shown i.file.items i.names.items xs i.here (reverse i.outer.items)) c.in_err-put_place.ensures.err
    ∙ calls-cut i.file.items i.names.items i.calls.items i.here (reverse i.outer.items) c.self.invariant ∙ c.self.view_is)

pub returns-in_err-push-clause-err : goal.returns-in_err-push-clause-err
returns-in_err-push-clause-err c =
    let i = c.self.inside in
    anyway _ _ (ap (λ os. shown i.file.items i.names.items c.put_place.new.places.items i.here (reverse os)) c.in_err-push.ensures.items
    ∙ ap (λ xs. shown i.file.items i.names.items xs i.here (reverse i.outer.items)) c.in_ok-put_place.ensures.ok
    ∙ calls-put i.file.items i.names.items i.calls.items i.here (reverse i.outer.items) c.args.at c.self.invariant ∙ c.self.view_is)

pub returns-clause-ok : goal.returns-clause-ok
returns-clause-ok c =
    let i = c.self.inside in
    let here1 : Scope = record { from = i.here.to; to = i.here.to; depth = i.here.depth + 1; kind = c.args.kind; next = 0 } in
    ap (λ os. shown i.file.items i.names.items c.put_place.new.places.items here1 (reverse os)) c.in_ok-push.ensures.items
    ∙ ap (λ os. shown i.file.items i.names.items c.put_place.new.places.items here1 os) (reverse-append i.outer.items (i.here ∷ []))
    ∙ ap (λ xs. shown i.file.items i.names.items xs here1 (i.here ∷ reverse i.outer.items)) c.in_ok-put_place.ensures.ok
    ∙ call-put i.file.items i.names.items i.calls.items i.here (reverse i.outer.items) c.args.at c.args.kind c.self.invariant
    ∙ ap (λ (v : Environments). record { file = v.file; environment = begun v.file (v.environment.path ++ c.args.at ∷ []) c.args.kind; outer = v.environment ∷ v.outer }) c.self.view_is
