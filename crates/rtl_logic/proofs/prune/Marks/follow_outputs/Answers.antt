use Rattle.std.proofs.Common.{subst, sym, arith}
use Rattle.std.proofs.lemmas.List.Elements.{All-get_or}
use Rattle.rtl_core.specs.declared.design.OutPin.{OutPin}
use Rattle.rtl_core.proofs.Checks.{passes_all}
use Rattle.rtl_logic.specs.Pruning.{IsMarked}
use Rattle.rtl_logic.specs.Marking.{marked_of, search_of}
use Rattle.rtl_logic.proofs.Spreading.{spreads_both, all_more}
use Rattle.rtl_logic.proofs.prune.Marks.follow_outputs.Goals as goal

pub loop-pin-preserved : goal.loop-pin-preserved
loop-pin-preserved c =
    let s = c.in_ok-follow.ensures.spreads in
    record {
      spreads = spreads_both (search_of c.args.self.now) (search_of c.loop-pin.self) (search_of c.follow.new.self) c.loop-pin.invariant.spreads s;
      marked = all_more (λ (o : OutPin). IsMarked (marked_of c.loop-pin.self) o.from) (λ (o : OutPin). IsMarked (marked_of c.follow.new.self) o.from) c.args.outputs.now c.loop-pin.pin-index c.pin-item.result
          (λ (o : OutPin) h. s.more.stays o.from h) (omega arith) c.loop-pin.invariant.marked
          (subst (λ (o : OutPin). IsMarked (marked_of c.follow.new.self) o.from) c.pin-item.is c.in_ok-follow.ensures.marked);
      least = λ n all i.
          let here = All-get_or (λ (o : OutPin). IsMarked n o.from) c.args.outputs.now c.loop-pin.pin-index c.pin-item.result (omega arith) all in
          c.in_ok-follow.ensures.least n (subst (λ (o : OutPin). IsMarked n o.from) (sym c.pin-item.is) here) (c.loop-pin.invariant.least n all i);
    }

pub returns-clause-marked : goal.returns-clause-marked
returns-clause-marked c = passes_all (λ (o : OutPin). IsMarked (marked_of c.loop-pin.self) o.from) c.args.outputs.now c.loop-pin.pin-index (omega arith) c.loop-pin.invariant.marked
