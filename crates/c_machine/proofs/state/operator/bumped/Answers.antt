use Rattle.c_machine.specs.State.Objects.{state}
use Rattle.c_machine.proofs.StateLemmas.Bumping.{bumped-value}
use Rattle.c_machine.proofs.state.operator.bumped.Goals as goal

pub returns-clause-value : goal.returns-clause-value
returns-clause-value c = λ left.
    bumped-value c.args.up c.args.post c.args.object c.args.subscripts.now c.args.place c.args.at (state c.args.objects.now.items left) (state c.store_value.new.objects.items left)
    c.in_ok-x.x c.in_ok-r.r c.in_ok-v.v c.either.result
    (rw c.as_slice.ensures.value at (c.in_ok-x.ensures left)) (c.in_ok-r.ensures (state c.args.objects.now.items left)) (c.in_ok-v.ensures.value left) c.either.ensures
