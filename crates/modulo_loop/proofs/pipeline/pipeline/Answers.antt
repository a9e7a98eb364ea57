use Rattle.std.proofs.Common.{◌≡◌, ℕ, ◌+◌, ◌≤◌, length, refl, subst, sym, ◌∙◌, arith}
use Rattle.modulo_loop.specs.Rules.{loop_rules}
use Rattle.modulo_loop.specs.Lowest.{CanLeave}
use Rattle.modulo_loop.specs.ForwardRules.{AreForwardRules}
use Rattle.modulo_loop.proofs.LoopRules.{rules_forward}
use Rattle.modulo_loop.proofs.pipeline.pipeline.Goals as goal

pub search-requires-clause-forward : goal.search-requires-clause-forward
search-requires-clause-forward c =
    let body = c.args.region.now.body in
    let forward = rules_forward body c.args.edges.now c.args.binding.now.orders.items c.requires.forward c.requires.edges c.requires.leading c.requires.orders in
    let rules_are : c.deref.result.now ≡ loop_rules body c.args.edges.now c.args.binding.now.orders.items = c.deref.ensures.value ∙ c.in_ok-rules.ensures in
    let count : c.len-ops.result ≡ length body.ops.items = omega arith in
    subst (λ n. AreForwardRules (n + 1) c.deref.result.now) (sym count) (subst (AreForwardRules (length body.ops.items + 1)) (sym rules_are) forward)

pub returns : goal.returns
returns c =
    let region = c.args.region.now in
    let made = c.in_ok-found.found in
    let times = made.times in
    let rules_are : c.deref.result.now ≡ loop_rules region.body c.args.edges.now c.args.binding.now.orders.items = c.deref.ensures.value ∙ c.in_ok-rules.ensures in
    let found = c.in_ok-found.ensures.found in
    let leave : CanLeave region.body times made.ii c.least_exit-exit.result = rw c.items-times.ensures at c.least_exit-exit.ensures.enough in
    let first : (exit : ℕ) → CanLeave region.body times made.ii exit → c.least_exit-exit.result ≤ exit = rw c.items-times.ensures at c.least_exit-exit.ensures.least in
    let count : c.len-ops.result ≡ length region.body.ops.items = omega arith in (
      times,
      record {
        positive = found.positive;
        solved = rw (count, rules_are) at found.times;
        lowest = rw rules_are at found.lowest;
        body = rw (c.items-times.ensures, c.deref-2.ensures.value) at c.in_ok-timed_body.ensures;
        can_leave = leave;
        no_sooner = first;
        point = c.in_ok-copy.ensures;
        next = refl;
      },
    )
