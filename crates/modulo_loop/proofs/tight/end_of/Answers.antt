use Rattle.std.proofs.Common.{subst, sym, arith}
use Rattle.modulo_loop.specs.Trips.{RulesLead}
use Rattle.modulo_loop.proofs.Trips.{trip_end, trip_in}
use Rattle.modulo_loop.proofs.tight.end_of.Goals as goal

pub returns-then-last-rules : goal.returns-then-last-rules
returns-then-last-rules c = λ trip.
    let rules = c.args.rules.now in
    let ps = c.args.positions.now in
    subst (λ n. RulesLead rules n ps n) (sym (trip_end rules trip.0 ps (omega arith) trip.1)) trip.1

pub returns-else-last-rules : goal.returns-else-last-rules
returns-else-last-rules c = λ trip.
    let inside = trip_in c.args.rules.now trip.0 c.args.positions.now (omega arith) trip.1 in
    absurd (omega (arith, inside, c.if-last-rules.false))
