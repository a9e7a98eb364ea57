use Rattle.std.proofs.Common.{◌≤◌, take_all, subst, arith}
use Rattle.std.specs.List.{All}
use Rattle.std.proofs.lemmas.List.Elements.{All-more}
use Rattle.block_schedule.specs.Schedules.{IsThereBefore}
use Rattle.block_schedule.proofs.Lengths.{source_longer}
use Rattle.block_schedule.proofs.schedule.length_for_cases.Goals as goal

pub loop-operand-preserved : goal.loop-operand-preserved
loop-operand-preserved c =
    let ops = c.args.body.now.ops.items in
    let times = c.args.times.now in
    let cases = c.args.cases.now in
    let i = c.loop-operand.operand-index in
    let was = c.loop-operand.length in
    let here = c.length_for.result in
    let longer = c.max-length.result in
    let inv = c.loop-operand.invariant in
    let above : was ≤ longer = omega (arith, c.max-length.ensures) in
    let enough : here ≤ longer = omega (arith, c.max-length.ensures) in
    record {
      some = omega (arith, inv.some, above);
      small = omega (arith, inv.small, c.max-length.ensures, c.length_for.ensures.small);
      enough = All-more (λ a. IsThereBefore ops times a.0 longer) cases i _ (omega arith) (λ k d k_in. source_longer ops times _ was longer above (inv.enough k d k_in)) (source_longer ops times _ here longer enough c.length_for.ensures.enough);
      least = λ len some all. omega (arith, c.max-length.ensures, inv.least len some all, c.length_for.ensures.least len some (all i _ (omega arith)));
    }

pub returns-clause-enough : goal.returns-clause-enough
returns-clause-enough c =
    let ops = c.args.body.now.ops.items in
    let times = c.args.times.now in
    let cases = c.args.cases.now in
    let full = take_all c.loop-operand.operand-index cases (omega arith) in
    subst (λ xs. All (λ a. IsThereBefore ops times a.0 c.loop-operand.length) xs) full c.loop-operand.invariant.enough
