use Rattle.std.proofs.Common.{get_or, arith}
use Rattle.std.proofs.lemmas.Option.{slice_get_within, slice_get-get_or}
use Rattle.rtl_logic.specs.Marking.{marked_of, search_of}
use Rattle.rtl_logic.proofs.Spreading.{spreads_both, units_more, no_wire}
use Rattle.rtl_logic.proofs.prune.Marks.follow_units.Goals as goal

pub loop-k-preserved : goal.loop-k-preserved
loop-k-preserved c =
    let s = c.in_ok-follow_unit.ensures.spreads in
    record {
      spreads = spreads_both (search_of c.args.self.now) (search_of c.loop-k.self) (search_of c.follow_unit.new.self) c.loop-k.invariant.spreads s;
      marked = units_more (marked_of c.loop-k.self) (marked_of c.follow_unit.new.self) s.more c.args.wires.now c.loop-k.k _ (omega arith) c.loop-k.invariant.marked c.in_ok-follow_unit.ensures.marked;
      least = λ n all i.
          c.in_ok-follow_unit.ensures.least n (λ unit. all c.loop-k.k (get_or c.args.wires.now c.loop-k.k no_wire) (slice_get-get_or c.args.wires.now c.loop-k.k no_wire (omega arith)) unit) (c.loop-k.invariant.least n all i);
    }

pub returns-clause-marked : goal.returns-clause-marked
returns-clause-marked c = λ k w e u. let lt = slice_get_within c.args.wires.now k w e in c.loop-k.invariant.marked k w (omega (arith, lt)) e u
