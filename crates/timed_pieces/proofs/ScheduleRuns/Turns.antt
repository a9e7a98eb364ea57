-- Operations of one class that have one unit stand in one order of the binding, and take turns where the times keep the orders.
use Rattle.std.proofs.Common.{◌≡◌, ℕ, zero, suc, ◌+◌, ◌≤◌, inl, inr, List, [], ◌∷◌, map, length, refl, sym, ap, subst, ◌∙◌, arith}
use Rattle.std.specs.Prelude.{◌==◌, slice_get, slice_index, Option, Some, None}
use Rattle.std.specs.List.{All}
use Rattle.std.proofs.lemmas.Bool.Decides.{nat_tests}
use Rattle.std.proofs.lemmas.List.{length-replicate}
use Rattle.std.proofs.lemmas.List.Sorted.{All-permutation, Contains-permutation}
use Rattle.std.proofs.lemmas.Map.Keys.{IsDistinct-IsPermutation}
use Rattle.hls_base.specs.declared.settings.Units.{Units}
use Rattle.ir_core.specs.declared.body.Body.{Body}
use Rattle.ir_core.specs.declared.body.Op.{Op}
use Rattle.ir_core.specs.declared.cfg.Memory.{Memory}
use Rattle.ir_core.specs.declared.stamp.Untimed.{Untimed}
use Rattle.ir_core.specs.declared.timing.UnitClass.{UnitClass}
use Rattle.dep_graph.specs.declared.edge.Edge.{Edge}
use Rattle.unit_binding.specs.declared.bind.Request.{Request}
use Rattle.unit_binding.specs.declared.binding.Binding.{Binding}
use Rattle.unit_binding.specs.declared.binding.UnitOrder.{UnitOrder}
use Rattle.unit_binding.specs.Binding.{IsBoundBy, order_view, binding_view, requests_from}
use Rattle.report_rows.specs.Timing.{request_order}
use Rattle.clock_ir.specs.WellTimed.{class_in, TakeTurns, TakeTurnsAgain}
use Rattle.clock_runs.proofs.Lists.{no_some}
use Rattle.timed_pieces.proofs.ScheduleRuns.Serving.{Has, has_contains, contains_has, InTurn, one_done, first_before, last_behind}
use Rattle.timed_pieces.proofs.ScheduleRuns.Classes.{held_by, held_some, held_in}
use Rattle.timed_pieces.proofs.ScheduleRuns.Orders.{ops_at, held_at}
use Rattle.timed_pieces.proofs.ScheduleRuns.Dealing.{AreTogether, StandTogether, dealt_together}
use Rattle.timed_pieces.proofs.ScheduleRuns.Requests.{IsAsked, IsOf, same_op, all_asked, all_of, all_once, all_follow}

-- two operations of one order of a class
pub record ShareOrder (orders : List UnitOrder) (class : UnitClass) (k n : ℕ) : Type 0 where
  pub order : UnitOrder
  pub there : Has order orders
  pub first : Has k order.ops.items
  pub second : Has n order.ops.items
  pub held : order.occupancy ≡ held_by class

same_either : (a b : ℕ) → (a == b) ≡ (b == a)
same_either a b = grind (arith, nat_tests)

order_there : (orders : List UnitOrder) (at k n : ℕ) (class : UnitClass) → Has k (ops_at (map order_view orders) at) → Has n (ops_at (map order_view orders) at) → held_at (map order_view orders) at ≡ held_by class
    → ShareOrder orders class k n
order_there [] at k n class h g e = absurd h
order_there (o ∷ os) zero k n class h g e = record { order = o; there = inl refl; first = h; second = g; held = e }
order_there (o ∷ os) (suc at) k n class h g e = (let s = order_there os at k n class h g e in record { order = s.order; there = inr s.there; first = s.first; second = s.second; held = s.held })

module _ (body : Body Untimed) (memories : List Memory) (edges : List Edge) (units : Units) (binding : Binding) (bound : IsBoundBy request_order body memories edges units binding) where
  abbrev ops : List (Op Untimed)
  ops = body.ops.items

  abbrev all : List Request
  all = requests_from bound.times memories 0 ops

  -- the requests as they are dealt out
  together : AreTogether bound.requests (binding_view binding)
  together =
      let count = length ops in
      let own : (k : ℕ) → 0 + k ≡ k = λ k. omega arith in
      let follow = all_follow count bound.requests
      (All-permutation (IsOf 0 count) all bound.requests bound.requests_moved (subst (λ n. All (IsOf 0 n) all) (own count) (all_of bound.times memories 0 ops)))
      (IsDistinct-IsPermutation same_op (λ r s. same_either r.op s.op) all bound.requests bound.requests_moved (all_once bound.times memories 0 ops))
      bound.requests_sorted in
      subst (AreTogether bound.requests) (sym bound.is_dealt) (dealt_together units count bound.requests (length-replicate count 0) follow)

  asked : (k : ℕ) (class : UnitClass) (p : Option (Op Untimed)) → slice_get ops k ≡ p → class_in memories p ≡ Some class → IsAsked bound.requests k class
  asked k class None e f = absurd (no_some f)
  asked k class (Some op) e f =
      let a = all_asked bound.times memories 0 ops k op class e f in
      record {
        request = a.request;
        there = contains_has a.request bound.requests (Contains-permutation all bound.requests a.request bound.requests_moved (has_contains a.request all a.there));
        of_class = a.of_class;
        of_op = (let z = a.of_op in omega arith);
      }

  -- operations of one class and unit stand in one order
  one_order : (class : UnitClass) (k n : ℕ) → class_in memories (slice_get ops k) ≡ Some class → class_in memories (slice_get ops n) ≡ Some class → slice_index binding.unit_of.items k ≡ slice_index binding.unit_of.items n
      → ShareOrder binding.orders.items class k n
  one_order class k n e f same =
      let a = asked k class (slice_get ops k) refl e in
      let b = asked n class (slice_get ops n) refl f in
      let unit : slice_index binding.unit_of.items a.request.op ≡ slice_index binding.unit_of.items b.request.op =
      ap (slice_index binding.unit_of.items) a.of_op ∙ same ∙ ap (slice_index binding.unit_of.items) (sym b.of_op) in
      let t : StandTogether (map order_view binding.orders.items) a.request b.request = together a.request b.request a.there b.there (a.of_class ∙ sym b.of_class) unit in
      order_there binding.orders.items t.at k n class
      (subst (λ j. Has j (ops_at (map order_view binding.orders.items) t.at)) a.of_op t.first)
      (subst (λ j. Has j (ops_at (map order_view binding.orders.items) t.at)) b.of_op t.second)
      (t.held ∙ ap held_by a.of_class)

  module _ (times : List ℕ) (turns : (order : UnitOrder) → Has order binding.orders.items → InTurn (λ k. slice_index times (k + 1)) order.occupancy order.ops.items) where
    abbrev time : ℕ → ℕ
    time k = slice_index times (k + 1)

    pub take_turns : TakeTurns memories ops times binding.unit_of.items
    take_turns k n share le =
        let o = one_order share.class k n share.first share.second share.unit in
        let held = held_in memories (slice_get ops k) share.class share.first in
        let some = held_some share.class in
        let same = o.held in
        elim (one_done time o.order.occupancy k n o.order.ops.items (turns o.order o.there) o.first o.second share.differ) [
          | inl h ↦ omega arith
          | inr h ↦ absurd (omega arith)
        ]

    -- each order is served again in the next iteration
    module _ (interval : ℕ) (again : (order : UnitOrder) (op : ℕ) (rest : List ℕ) → Has order binding.orders.items → order.ops.items ≡ op ∷ rest → time (slice_index (op ∷ rest) (length rest)) + order.occupancy ≤ time op + interval) where
      closes : (order : UnitOrder) (xs : List ℕ) (k n : ℕ) → Has order binding.orders.items → order.ops.items ≡ xs → Has k xs → Has n xs → time n + order.occupancy ≤ time k + interval
      closes order [] k n there e h g = absurd h
      closes order (op ∷ rest) k n there e h g =
          let turn : InTurn time order.occupancy (op ∷ rest) = subst (InTurn time order.occupancy) e (turns order there) in
          let first = first_before time order.occupancy op k rest turn h in
          let last = last_behind time order.occupancy op n rest turn g in
          let round = again order op rest there e in
          omega arith

      pub take_turns_again : TakeTurnsAgain memories ops times binding.unit_of.items interval
      take_turns_again = record {
        others = λ k n share le.
            (let o = one_order share.class k n share.first share.second share.unit in
            let held = held_in memories (slice_get ops n) share.class share.second in
            let same = o.held in
            let round = closes o.order o.order.ops.items k n o.there refl o.first o.second in
            omega arith);
        own = λ k class e.
            (let o = one_order class k k e e refl in
            let held = held_in memories (slice_get ops k) class e in
            let same = o.held in
            let round = closes o.order o.order.ops.items k k o.there refl o.first o.second in
            omega arith);
      }
