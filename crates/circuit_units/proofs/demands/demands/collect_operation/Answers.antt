use Rattle.std.proofs.lemmas.Result.{IfOk-weaker}
use Rattle.rtl_logic.specs.Making.{circuit}
use Rattle.circuit_context.specs.Wanted.Entries.{demands_of}
use Rattle.circuit_units.specs.Demands.Placing.{placed_as}
use Rattle.circuit_units.proofs.DemandsLemmas.Pushing.{logs_before}
use Rattle.circuit_units.proofs.demands.demands.collect_operation.Goals as goal

pub returns : goal.returns
returns c = λ p names context begun there.
    let given = c.in_ok-give.ensures p names context begun there in
    IfOk-weaker c.wire_of.result _ _
    (λ wire made. record {
      logs = logs_before p names (circuit c.args.logic.now) (circuit c.give.new.logic) (circuit c.wire_of.new.logic) c.args.log.now.pushes.items c.give.new.log.pushes.items
          (demands_of p (placed_as c.args.it.now)) given made.0 made.1;
      wire_ = made.2;
    })
    (c.wire_of.ensures p names context given.begun there)
