use Rattle.std.proofs.Common.{ap, ◌∙◌, List, map, drop}
use Rattle.pieces.specs.declared.resolved.program.CoreObject.{CoreObject}
use Rattle.pieces.specs.Resolved.CoreView.{core_object_of}
use Rattle.c_expand.proofs.Homes.{rest_of_objects}
use Rattle.c_expand.proofs.calls.locals_of.Goals as goal

pub returns-then-params-objects : goal.returns-then-params-objects
returns-then-params-objects c =
    rest_of_objects c.args.function.now.params c.as_slice-objects.result.now
    ∙ ap (λ (os : List CoreObject). drop c.args.function.now.params (map core_object_of os)) c.as_slice-objects.ensures.value
