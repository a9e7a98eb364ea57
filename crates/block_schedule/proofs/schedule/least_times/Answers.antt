use Rattle.std.proofs.Common.{◌+◌, ◌*◌, ◌<◌, ◌≤◌, ◌^◌, pos, negsuc, sym, subst, arith}
use Rattle.std.specs.Prelude.{◌<ℤ◌, ◌≤ℤ◌}
use Rattle.std.proofs.lemmas.List.Elements.{All-weaker}
use Rattle.std.proofs.lemmas.List.Sorted.{IsPermutation-sym, All-permutation}
use Rattle.diff_solve.specs.declared.solve.Constraint.{Constraint}
use Rattle.diff_solve.specs.Times.{InRange, Solves, IsBelowAll, HasNoSolution}
use Rattle.diff_solve.specs.Answers.{HasModestWeights}
use Rattle.diff_solve.specs.Cycles.{IsPositiveCycle}
use Rattle.unit_binding.proofs.EarlyTimes.{early_solves, least_early}
use Rattle.unit_binding.proofs.Permuted.{solves_permuted, below_permuted}
use Rattle.block_schedule.specs.Constraints.{block_constraints}
use Rattle.block_schedule.proofs.Leading.{block_in_range, block_modest, block_leads_on}
use Rattle.block_schedule.proofs.schedule.least_times.Goals as goal

pub solve-requires-clause-in_range : goal.solve-requires-clause-in_range
solve-requires-clause-in_range c =
    let ds = block_constraints c.args.edges.now c.args.binding.now.orders.items in
    let inside = block_in_range c.args.ops c.args.edges.now c.args.binding.now.orders.items c.requires.edges c.requires.orders in
    subst (InRange (c.args.ops + 1)) (sym c.deref.ensures.value) (All-permutation (λ (x : Constraint). (x.from < c.args.ops + 1) × (x.to < c.args.ops + 1)) ds c.in_ok-constraints.constraints.items c.in_ok-constraints.ensures inside)

pub solve-requires-clause-modest : goal.solve-requires-clause-modest
solve-requires-clause-modest c =
    let ds = block_constraints c.args.edges.now c.args.binding.now.orders.items in
    let modest = block_modest c.args.ops c.args.edges.now c.args.binding.now.orders.items c.requires.edges c.requires.orders in
    subst HasModestWeights (sym c.deref.ensures.value) (All-permutation (λ (x : Constraint). (negsuc (2 ^ 50) <ℤ x.weight) × (x.weight ≤ℤ pos (2 ^ 20))) ds c.in_ok-constraints.constraints.items c.in_ok-constraints.ensures modest)

pub unreachable-requires : goal.unreachable-requires
unreachable-requires c =
    let cs = c.in_ok-constraints.constraints.items in
    let edges = c.args.edges.now in
    let orders = c.args.binding.now.orders.items in
    let ds = block_constraints edges orders in
    let n = c.args.ops + 1 in
    let found : IsPositiveCycle cs c.in-Cycle.field-0 × HasNoSolution n cs = rw (c.deref.ensures.value, c.in-Cycle.is) at c.in_ok-times.ensures in
    let ranks = c.requires.orders.leading in
    let inside = block_in_range c.args.ops edges orders c.requires.edges c.requires.orders in
    let leads = block_leads_on c.args.ops edges orders c.requires.edges c.requires.orders in
    let solved = early_solves ranks.0 127 n (omega arith) ranks.1.first ds inside leads in
    found.1 _ (solves_permuted n ds cs _ c.in_ok-constraints.ensures solved)

pub returns-clause-solves : goal.returns-clause-solves
returns-clause-solves c =
    let cs = c.in_ok-constraints.constraints.items in
    let ds = block_constraints c.args.edges.now c.args.binding.now.orders.items in
    let n = c.args.ops + 1 in
    let found : Solves n cs c.in-Least.times × IsBelowAll n cs c.in-Least.times = rw (c.deref.ensures.value, c.in-Least.is) at c.in_ok-times.ensures in
    solves_permuted n cs ds c.in-Least.times (IsPermutation-sym ds cs c.in_ok-constraints.ensures) found.0

pub returns-clause-least : goal.returns-clause-least
returns-clause-least c =
    let cs = c.in_ok-constraints.constraints.items in
    let ds = block_constraints c.args.edges.now c.args.binding.now.orders.items in
    let n = c.args.ops + 1 in
    let found : Solves n cs c.in-Least.times × IsBelowAll n cs c.in-Least.times = rw (c.deref.ensures.value, c.in-Least.is) at c.in_ok-times.ensures in
    below_permuted n cs ds c.in-Least.times (IsPermutation-sym ds cs c.in_ok-constraints.ensures) found.1

pub returns-clause-early : goal.returns-clause-early
returns-clause-early c =
    let edges = c.args.edges.now in
    let orders = c.args.binding.now.orders.items in
    let ds = block_constraints edges orders in
    let n = c.args.ops + 1 in
    let ranks = c.requires.orders.leading in
    let inside = block_in_range c.args.ops edges orders c.requires.edges c.requires.orders in
    let leads = block_leads_on c.args.ops edges orders c.requires.edges c.requires.orders in
    let solved : Solves n ds c.in-Least.times = returns-clause-solves c in
    let early = least_early ranks.0 127 n (omega arith) ranks.1.first ds inside leads c.in-Least.times solved.count (returns-clause-least c) in
    All-weaker (λ t. t + 127 ≤ 127 * n) (λ t. t ≤ 4261412864) (λ t h. (let few = c.requires.few in omega arith)) c.in-Least.times early
