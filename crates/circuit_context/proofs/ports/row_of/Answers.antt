use Rattle.std.proofs.Common.{◌<◌, length, take, sym, subst, arith}
use Rattle.std.proofs.lemmas.List.{length-take-le}
use Rattle.std.proofs.lemmas.List.Sums.{count_by-le-length}
use Rattle.circuit_context.specs.Counting.{loads_at, tables_in, Counts}
use Rattle.circuit_context.proofs.Loading.{ops_more, row_more}
use Rattle.circuit_context.proofs.ports.row_of.Goals as goal

pub loop-op-preserved : goal.loop-op-preserved
loop-op-preserved c =
    let k = c.loop-op.op-index in
    let ops = c.args.ops.now in
    record {
      row = row_more (tables_in c.args.memories.now) c.args.span ops c.loop-op.row.items c.push.new.self.items k c.in_ok-port_of.field-0 c.op-item.result (omega arith) c.op-item.is c.loop-op.invariant.row
          (c.in_ok-port_of.ensures.port ops (take k ops) c.in_ok-stores.ensures c.loop-op.invariant.counts) c.in_ok-push.ensures.items;
      counts = subst (λ l. Counts c.args.span l c.port_of.new.loads) (sym (ops_more ops k c.op-item.result (omega arith) c.op-item.is)) (c.in_ok-port_of.ensures.counts (take k ops) c.loop-op.invariant.counts);
    }

-- fewer loads than operations
pub port_of-requires-clause-few : goal.port_of-requires-clause-few
port_of-requires-clause-few c = λ m.
    let k = c.loop-op.op-index in
    let ops = c.args.ops.now in
    let within : k < length ops = omega arith in
    omega (arith, c.loop-op.invariant.counts m, count_by-le-length (loads_at c.args.span m.array.0 m.time) (take k ops), length-take-le k ops (omega (arith, within)), within, c.requires.few)
