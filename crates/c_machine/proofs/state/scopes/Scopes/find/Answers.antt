use Rattle.std.proofs.Common.{ap}
use Rattle.c_meaning.specs.Store.{object_named}
use Rattle.c_machine.specs.State.Scopes.{Environments}
use Rattle.c_machine.proofs.StateLemmas.Scoping.{slice-names}
use Rattle.c_machine.proofs.state.scopes.Scopes.find.Goals as goal

pub returns : goal.returns
returns c =
    let i = c.self.inside in
    let e = slice-names i.names.items i.here.from i.here.to c.self.invariant.0.from in
    let v = ap (λ (v : Environments). object_named v.environment c.args.name.now) c.self.view_is in
    cc
