use Rattle.std.proofs.Common.{◌≤◌, ◌+◌, take_all, subst, arith}
use Rattle.std.proofs.lemmas.List.Elements.{All-more}
use Rattle.dep_graph.specs.Offsets.{result_of}
use Rattle.modulo_loop.specs.Lowest.{IsReadyBy, OutsAreReady}
use Rattle.modulo_loop.proofs.Exits.{ready_later}
use Rattle.modulo_loop.proofs.exit.outs_ready.Goals as goal

pub loop-out-preserved : goal.loop-out-preserved
loop-out-preserved c =
    let ops = c.args.ops.now in
    let times = c.args.times.now in
    let outs = c.args.outs.now in
    let ii = c.args.ii in
    let i = c.loop-out.out-index in
    let was = c.loop-out.exit in
    let here = c.out_ready.result in
    let later = c.max-exit.result in
    let inv = c.loop-out.invariant in
    let above : was + ii ≤ later + ii = omega (arith, c.max-exit.ensures) in
    let enough : here + ii ≤ later + ii = omega (arith, c.max-exit.ensures) in
    record {
      small = omega (arith, c.max-exit.ensures, c.out_ready.ensures.small, inv.small);
      enough = All-more (λ o. IsReadyBy (later + ii) ops times (result_of o.value.value)) outs i _ (omega arith) (λ k d k_in. ready_later ops times _ (was + ii) (later + ii) above (inv.enough k d k_in)) (ready_later ops times _ (here + ii) (later + ii) enough (rw c.result_of.ensures at c.out_ready.ensures.enough));
      least = λ exit all. omega (arith, c.max-exit.ensures, inv.least exit all, c.out_ready.ensures.least exit (rw c.result_of.ensures (all i _ (omega arith))));
    }

pub returns-clause-ready : goal.returns-clause-ready
returns-clause-ready c =
    let ops = c.args.ops.now in
    let times = c.args.times.now in
    let full = take_all c.loop-out.out-index c.args.outs.now (omega arith) in
    subst (λ xs. OutsAreReady ops xs times c.args.ii c.loop-out.exit) full c.loop-out.invariant.enough
