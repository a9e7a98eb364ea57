-- Nodes that were scheduled are well timed.
use Rattle.std.proofs.Common.{◌≡◌, ℕ, ◌⊎◌, inl, inr, cond, true≢false, List, [], ◌∷◌, ◌++◌, sym, ap, subst, ◌∙◌, filter, eq-eqb}
use Rattle.std.specs.Prelude.{◌==◌, Bool, true, false}
use Rattle.std.specs.List.{All}
use Rattle.std.proofs.lemmas.List.Elements.{All-nil, All-cons}
use Rattle.hls_base.specs.declared.settings.Units.{Units}
use Rattle.ir_core.specs.declared.cfg.Block.{Block}
use Rattle.ir_core.specs.declared.cfg.Loop.{Loop}
use Rattle.ir_core.specs.declared.cfg.Memory.{Memory}
use Rattle.ir_core.specs.declared.cfg.Node.{Node}
use Rattle.ir_core.specs.declared.cfg.Node.TheVariants as node
use Rattle.ir_core.specs.declared.stamp.Untimed.{Untimed}
use Rattle.ir_core.specs.declared.timed.Timed.{Timed}
use Rattle.dep_graph.specs.declared.edge.Edge.{Edge}
use Rattle.dep_graph.specs.Dependences.{edges_of}
use Rattle.diff_solve.specs.Times.{Meets}
use Rattle.unit_binding.specs.declared.binding.Binding.{Binding}
use Rattle.unit_binding.specs.declared.binding.UnitOrder.{UnitOrder}
use Rattle.unit_binding.specs.Times.{edge_constraints}
use Rattle.unit_binding.specs.Binding.{IsBoundBy}
use Rattle.block_schedule.specs.Constraints.{unit_constraints}
use Rattle.block_schedule.specs.Schedules.{IsSchedule}
use Rattle.modulo_loop.specs.declared.pipeline.Pipelined.{Pipelined}
use Rattle.modulo_loop.specs.Rules.{loop_rules, unit_rules, known_rules, known_first, store_rules, constraints_at}
use Rattle.dep_graph.specs.Dependences.{test_maker}
use Rattle.modulo_loop.specs.Lowest.{IsPipelined}
use Rattle.cycle_report.specs.PlainReport.{PlainLoop}
use Rattle.report_rows.specs.Timing.{edges_within, request_order, IsTimedNode, AreTimed}
use Rattle.clock_ir.specs.WellTimed.{Keeps, IsWellTimedBlock, IsWellTimedLoop, IsWellTimedNode, AreWellTimed}
use Rattle.clock_runs.specs.Premises.{Each}
use Rattle.clock_runs.proofs.Lists.{each_all}
use Rattle.timed_pieces.proofs.ScheduleRuns.Serving.{Has, contains_has, InTurn}
use Rattle.timed_pieces.proofs.ScheduleRuns.Turns.{take_turns, take_turns_again}
use Rattle.timed_pieces.proofs.ScheduleRuns.Rules.{each_front, each_back, each_has, start, edges_kept, block_turns, Again, rules_kept, loop_turns}

all_each : {A : Type 0} (P : A → Type 0) (xs : List A) → Each P xs → All P xs
all_each P [] h = All-nil P
all_each P (x ∷ xs) h = All-cons P x xs h.0 (all_each P xs h.1)

abbrev is_near : Edge → Bool
is_near e = e.distance == 0

in_cond : (b : Bool) (x e : Edge) (ys : List Edge) → ((e ≡ x) × (b ≡ true)) ⊎ Has e ys → Has e (cond b (x ∷ ys) ys)
in_cond true x e ys h = elim h [ inl own ↦ inl own.0 | inr old ↦ inr old ]
in_cond false x e ys h = elim h [ inl own ↦ absurd (true≢false (sym own.1)) | inr old ↦ old ]

in_filter : (edges : List Edge) (e : Edge) → Has e edges → is_near e ≡ true → Has e (filter is_near edges)
in_filter [] e h near = absurd h
in_filter (x ∷ xs) e h near = in_cond (is_near x) x e (filter is_near xs) (elim h [
  | inl same ↦ inl (same, ap is_near (sym same) ∙ near)
  | inr old ↦ inr (in_filter xs e old near)
])

module _ (memories : List Memory) (units : Units) where
  module _ (block : Block Untimed) (timed : Block Timed) (binding : Binding) (times : List ℕ) (bound : IsBoundBy request_order block.body memories (edges_within block.body) units binding) (is : IsSchedule block (edges_within block.body) binding timed times) where
    abbrev near : List Edge
    near = edges_within block.body

    met : Each (Meets times) (edge_constraints near ++ unit_constraints binding.orders.items)
    met = each_all (Meets times) (edge_constraints near ++ unit_constraints binding.orders.items) is.solves.meets

    kept : Each (λ (e : Edge). (e.distance == 0) ≡ true → Keeps times 0 e) near
    kept = edges_kept times near (each_front (Meets times) (edge_constraints near) (unit_constraints binding.orders.items) met)

    turns : Each (λ (o : UnitOrder). InTurn (start times) o.occupancy o.ops.items) binding.orders.items
    turns = block_turns times binding.orders.items (each_back (Meets times) (edge_constraints near) (unit_constraints binding.orders.items) met)

    block_well : IsWellTimedBlock memories block timed times binding.unit_of.items
    block_well = record {
      body = is.body;
      ends = is.ends;
      point = is.point;
      begins = is.solves.start;
      early = is.early;
      waits = λ e there none.
          (let here : (e.distance == 0) ≡ true = eq-eqb e.distance 0 none in
          each_has (λ (x : Edge). (x.distance == 0) ≡ true → Keeps times 0 x) near e kept (in_filter (edges_of block.body) e (contains_has e (edges_of block.body) there) here) here);
      turns = take_turns block.body memories near units binding bound times (λ o there. each_has (λ (x : UnitOrder). InTurn (start times) x.occupancy x.ops.items) binding.orders.items o turns there);
      long_enough = is.long_enough;
    }

  module _ (region : Loop Untimed) (binding : Binding) (made : Pipelined) (times : List ℕ) (bound : IsBoundBy request_order region.body memories (edges_of region.body) units binding) (is : IsPipelined region (edges_of region.body) binding made times) where
    abbrev ii : ℕ
    ii = made.region.ii

    abbrev edges : List Edge
    edges = edges_of region.body

    abbrev serving : List Edge
    serving = unit_rules binding.orders.items

    abbrev knowing : List Edge
    knowing = known_rules region.body.ops.items (known_first region.body.outs.items region.body.test)

    abbrev storing : List Edge
    storing = store_rules region.body.ops.items (test_maker region.body.test)

    rules_met : Each (Keeps times ii) (loop_rules region.body edges binding.orders.items)
    rules_met = rules_kept times ii (loop_rules region.body edges binding.orders.items) (each_all (Meets times) (constraints_at ii (loop_rules region.body edges binding.orders.items)) is.solved.solves.meets)

    others_met : Each (Keeps times ii) (serving ++ (knowing ++ storing))
    others_met = each_back (Keeps times ii) edges (serving ++ (knowing ++ storing)) rules_met

    orders_met : Each (λ (o : UnitOrder). InTurn (start times) o.occupancy o.ops.items × Again times ii o) binding.orders.items
    orders_met = loop_turns times ii binding.orders.items (each_front (Keeps times ii) serving (knowing ++ storing) others_met)

    order_met : (o : UnitOrder) → Has o binding.orders.items → InTurn (start times) o.occupancy o.ops.items × Again times ii o
    order_met o there = each_has (λ (x : UnitOrder). InTurn (start times) x.occupancy x.ops.items × Again times ii x) binding.orders.items o orders_met there

    loop_well : IsWellTimedLoop memories region made.region times binding.unit_of.items
    loop_well = record {
      body = is.body;
      point = is.point;
      next = is.next;
      begins = is.solved.solves.start;
      positive = is.positive;
      early = is.solved.early;
      waits = all_each (Keeps times ii) edges (each_front (Keeps times ii) edges (serving ++ (knowing ++ storing)) rules_met);
      known = all_each (Keeps times ii) knowing (each_front (Keeps times ii) knowing storing (each_back (Keeps times ii) serving (knowing ++ storing) others_met));
      turns = take_turns region.body memories edges units binding bound times (λ o there. (order_met o there).0);
      turns_again = take_turns_again region.body memories edges units binding bound times (λ o there. (order_met o there).0) ii (λ o op rest there. (order_met o there).1 op rest);
      can_leave = is.can_leave;
    }

  node_well : (it : Node Untimed) (timed : Node Timed) (rows : List PlainLoop) → IsTimedNode memories units it timed rows → IsWellTimedNode memories it timed
  node_well (node.Plain block) (node.Plain timed) rows ((binding, (bound, (times, is))), e) = (times, (binding.unit_of.items, block_well block timed binding times bound is))
  node_well (node.Plain block) (node.Looped timed) rows h = absurd h
  node_well (node.Looped region) (node.Plain timed) rows h = absurd h
  node_well (node.Looped region) (node.Looped timed) rows (row, (e, (binding, (made, (bound, (times, is), same, r))))) =
      (times, (binding.unit_of.items, subst (λ x. IsWellTimedLoop memories region x times binding.unit_of.items) (sym same) (loop_well region binding made times bound is)))

  pub nodes_well : (nodes : List (Node Untimed)) (timed : List (Node Timed)) (rows : List PlainLoop) → AreTimed memories units nodes timed rows → AreWellTimed memories nodes timed
  nodes_well [] [] rows h = tt
  nodes_well [] (t ∷ ts) rows h = absurd h
  nodes_well (n ∷ ns) [] rows h = absurd h
  nodes_well (n ∷ ns) (t ∷ ts) rows (own, (rest, (e, one, others))) = (node_well n t own one, nodes_well ns ts rest others)
