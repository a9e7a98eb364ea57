use Rattle.std.proofs.Common.{sym, ap, ◌∙◌, arith}
use Rattle.datapath.specs.Plans.{Plan, bits_of}
use Rattle.circuit_control.proofs.time.time_bits.Goals as goal

pub returns : goal.returns
returns c = λ p names context.
    let arrays = sym (ap (λ (q : Plan). q.arrays) context.plan) in
    let kept = sym (ap (λ (q : Plan). q.kept) context.plan) in
    let greatest = c.greatest_time.ensures p (ap (λ (q : Plan). q.program) context.plan) arrays kept (omega (arith, c.args.of.now.start p arrays kept)) in
    (c.bits_of.ensures.value ∙ ap bits_of greatest, c.bits_of.ensures.bound)
