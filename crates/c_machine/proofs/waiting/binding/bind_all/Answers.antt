use Rattle.std.proofs.Common.{◌∙◌, ap, sym, ◌++◌, map}
use Rattle.std.proofs.lemmas.List.{append-nil}
use Rattle.c_tree.specs.View.{param_of}
use Rattle.c_meaning.specs.Run.{parameters}
use Rattle.c_machine.specs.State.Objects.{state}
use Rattle.c_machine.proofs.waiting.binding.bind_all.Goals as goal

pub returns-clause-ok : goal.returns-clause-ok
returns-clause-ok c =
    let objects = c.args.objects.now in
    ap (λ os. parameters (map param_of c.args.params.now) c.args.given.now c.args.scopes.now.environment (state os 0)) (sym (append-nil objects) ∙ ap (λ os. objects ++ os) (sym c.new-made.ensures.items))
    ∙ c.in_ok-bind_parameters.ensures.ok objects (cc)
