use Rattle.std.proofs.Common.{sym, ap, arith}
use Rattle.datapath.specs.Plans.{Plan}
use Rattle.circuit_control.proofs.time.initial_length.Goals as goal

pub returns : goal.returns
returns c = λ p names context.
    let arrays = sym (ap (λ (q : Plan). q.arrays) context.plan) in
    let kept = sym (ap (λ (q : Plan). q.kept) context.plan) in
    omega (arith, c.initial_cycles.ensures p arrays kept, c.args.of.now.start p arrays kept)
