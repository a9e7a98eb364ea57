use Rattle.std.proofs.Common.{get_or, arith}
use Rattle.std.proofs.lemmas.Option.{slice_get-get_or}
use Rattle.std.proofs.lemmas.Result.{IfOk-weaker}
use Rattle.rtl_logic.proofs.Spreading.{no_wire}
use Rattle.rtl_logic.proofs.prune.Marks.follow_wire.Goals as goal

pub returns-clause-least : goal.returns-clause-least
returns-clause-least c =
    IfOk-weaker c.follow_net.result _ _ (λ u s n all. s n (all (get_or c.args.wires.now c.args.number no_wire) (slice_get-get_or c.args.wires.now c.args.number no_wire (omega arith)))) c.follow_net.ensures.least
