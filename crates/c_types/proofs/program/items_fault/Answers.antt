use Rattle.std.proofs.Common.{ℕ, List, refl, map}
use Rattle.c_tree.specs.View.{item_of}
use Rattle.c_meaning.specs.Checks.Names.{Declared}
use Rattle.c_meaning.specs.Checks.Programs.{item_faults, items_faults, with_body, with_item}
use Rattle.c_names.proofs.DeclarationsLemmas.Least.{least_thread}
use Rattle.c_types.proofs.program.items_fault.Goals as goal

-- the bodies that stand before, and the names that are visible
abbrev State : Type 0
State = List (List ℕ) × List Declared

pub loop-item-preserved : goal.loop-item-preserved
loop-item-preserved c =
    let old : State = (c.loop-item.before.items, c.loop-item.names) in
    let new : State = (c.item_fault.new.before.items, c.item_fault.new.names) in
    least_thread {S = State} (λ s xs. items_faults c.args.bodies.now s.0 s.1 (map item_of xs)) (λ s x. item_faults c.args.bodies.now s.0 s.1 (item_of x)) (λ s x. (with_body (item_of x) s.0, with_item (item_of x) s.1)) (λ s x xs. refl)
    c.args.items.now c.loop-item.item-index c.item-item.result old new _ _ _ _ c.loop-item-test.true c.item-item.is c.in_ok-here.ensures.fault
    (λ i. (c.in_ok-here.ensures.before i, c.in_ok-here.ensures.names i)) c.lesser-worst.ensures c.loop-item.invariant
