use Rattle.std.proofs.Common.{◌++◌}
use Rattle.std.specs.List.Sorted.{IsPermutation}
use Rattle.std.proofs.lemmas.List.Sorted.{IsPermutation-append_left, IsPermutation-trans}
use Rattle.unit_binding.specs.Times.{edge_constraints}
use Rattle.block_schedule.specs.Constraints.{unit_constraints}
use Rattle.block_schedule.proofs.order.constraints.Goals as goal

pub returns : goal.returns
returns c =
    let near = edge_constraints c.args.edges.now in
    let units = unit_constraints c.args.binding.now.orders.items in
    let sorted = c.sort_by_key.new.self.items in
    let first : IsPermutation near sorted = rw c.in_ok-constraints.ensures at c.in_ok-sort_by_key.ensures.permutation in
    let last : IsPermutation (sorted ++ units) c.sort_by_key-2.new.self.items = rw (c.in_ok-add_orders.ensures, c.deref-2.ensures.value) at c.in_ok-sort_by_key-2.ensures.permutation in
    IsPermutation-trans (near ++ units) (sorted ++ units) c.sort_by_key-2.new.self.items (IsPermutation-append_left units near sorted first) last
