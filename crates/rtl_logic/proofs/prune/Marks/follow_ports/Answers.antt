use Rattle.std.proofs.Common.{arith}
use Rattle.std.proofs.lemmas.List.Elements.{All-get_or}
use Rattle.rtl_core.proofs.Checks.{passes_all}
use Rattle.rtl_logic.specs.Pruning.{PortIsMarked}
use Rattle.rtl_logic.specs.Marking.{marked_of, search_of}
use Rattle.rtl_logic.proofs.Spreading.{spreads_both, all_more, port_stays, no_port}
use Rattle.rtl_logic.proofs.prune.Marks.follow_ports.Goals as goal

pub loop-port-preserved : goal.loop-port-preserved
loop-port-preserved c =
    let s = c.in_ok-follow_three.ensures.spreads in
    record {
      spreads = spreads_both (search_of c.args.self.now) (search_of c.loop-port.self) (search_of c.follow_three.new.self) c.loop-port.invariant.spreads s;
      marked = all_more (PortIsMarked (marked_of c.loop-port.self)) (PortIsMarked (marked_of c.follow_three.new.self)) c.args.ports.now c.loop-port.port-index no_port
          (port_stays (marked_of c.loop-port.self) (marked_of c.follow_three.new.self) s.more) (omega arith) c.loop-port.invariant.marked c.in_ok-follow_three.ensures.marked;
      least = λ n all i.
          let here = All-get_or (PortIsMarked n) c.args.ports.now c.loop-port.port-index no_port (omega arith) all in
          c.in_ok-follow_three.ensures.least n here.0 here.1 here.2 (c.loop-port.invariant.least n all i);
    }

pub returns-clause-marked : goal.returns-clause-marked
returns-clause-marked c = passes_all (PortIsMarked (marked_of c.loop-port.self)) c.args.ports.now c.loop-port.port-index (omega arith) c.loop-port.invariant.marked
