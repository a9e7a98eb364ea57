use Rattle.std.proofs.Common.{◌≡◌, ◌∙◌, ℕ, List, ◌+◌, ◌++◌, ◌∷◌, [], append_assoc, ap, sym, subst, map, get_or, length, arith, rules, Option, Box, Vec, Global}
use Rattle.std.specs.Option.{option_map}
use Rattle.std.specs.Vec.Iter.{into_iter_items, into_iter_steps}
use Rattle.std.proofs.lemmas.List.{length-map, map-append}
use Rattle.std.proofs.lemmas.Result.{on_ok_weaker}
use Rattle.ir_core.specs.declared.tree.Part.{Part}
use Rattle.ir_core.specs.declared.tree.Sequence.{Sequence}
use Rattle.ir_core.specs.Points.{block_point, points_of, part_points, shape_points, joined, where_there}
use Rattle.ir_core.proofs.Joining.{joined_map_more}
use Rattle.ir_core.specs.Trees.{sequence_of, part_of, shape_of, block_of, part_row, arm_row, side_of, fork, loop, switch}
use Rattle.ir_layout.specs.Nodes.{node_point, node_of}
use Rattle.ir_layout.specs.Sizes.{parts_size, sequence_size, shape_size, side_size}
use Rattle.ir_layout.specs.Listing.{IsSized, ArePartsSized, IsShapeSized, IsSideSized, AreArmsSized}
use Rattle.ir_layout.proofs.Listing.{size_here, first_part, grown}
use Rattle.ir_layout.proofs.Lengths.{length-laid, length-parts, length-shape, length-side}
use Rattle.ir_layout.specs.Layout.{Landing, ahead_of, with_land, onto, behind_shape, body_start, step_start, in_loop, in_switch, laid_parts, laid_shape, laid_side, laid_arms}
use Rattle.ir_layout.specs.Views.{number, stacked, around_of, ahead_view, after_first, block_node}
use Rattle.ir_layout.proofs.Rows.{one_more}
use Rattle.ir_layout.specs.Boxes.{block_from, shape_from}
use Rattle.ir_layout.proofs.Parts.{fewer_parts, fewer_arms, fork_out, loop_out, switch_out, fork_points, loop_points, switch_points}
use Rattle.ir_layout.proofs.Shapes.{two, three, fork_nodes, loop_nodes, switch_nodes}
use Rattle.ir_layout.proofs.Turns.{lands_behind, part_turn, parts_end, arm_turn}
use Rattle.ir_layout.proofs.layout.+sequence.Goals as goal

pub lay_arms-loop-arm-preserved : goal.lay_arms-loop-arm-preserved
lay_arms-loop-arm-preserved t c =
    let step = subst (λ r. into_iter_steps c.loop-arm.arm-iterator r c.next.new.self) c.in-Some.is c.next.ensures.steps in
    let old = c.loop-arm.flat.nodes.items in
    let new = c.lay_sequence.new.flat.nodes.items in
    let arm = c.in-Some.arm.value in
    let gone = map (λ b. b.value) c.loop-arm.yielded in
    let sized = subst (λ xs. AreArmsSized c.args.sizes.now (length old) (arm_row (map sequence_of xs))) (ap (map (λ b. b.value)) step.0) c.loop-arm.invariant.sized in
    let longer : length new ≡ length old + sequence_size (sequence_of arm) =
    grown (length old) (length new) (sequence_size (sequence_of arm)) (map node_of old) (map node_of new) _ (sym (length-map old node_of)) (sym (length-map new node_of)) c.in_ok-lay_sequence.ensures.nodes (length-laid _ _ _ (sequence_of arm)) in
    let behind : c.in_ok-behind.behind ≡ length old + sequence_size (sequence_of arm) =
    c.in_ok-behind.ensures ∙ ap (λ i. i + get_or c.args.sizes.now i 0) c.in_ok-place.ensures ∙ ap (λ n. length old + n) (size_here c.args.sizes.now (length old) (sequence_of arm) sized.0) in
    record {
      sized = subst (λ i. AreArmsSized c.args.sizes.now i (arm_row (map sequence_of (map (λ b. b.value) (into_iter_items c.next.new.self))))) (sym longer) sized.1;
      fewer = omega (arith, fewer_arms arm (map (λ b. b.value) (into_iter_items c.next.new.self)) (map (λ b. b.value) (into_iter_items c.loop-arm.arm-iterator)) _ (ap (map (λ b. b.value)) step.0) c.loop-arm.invariant.fewer);
      points =
          c.in_ok-lay_sequence.ensures.points ∙ ap (λ l. l ++ points_of arm) c.loop-arm.invariant.points ∙ append_assoc (map node_point c.args.flat.now.nodes.items) (joined (map points_of gone)) (points_of arm)
          ∙ ap (λ l. map node_point c.args.flat.now.nodes.items ++ l) (sym (ap (λ l. joined (map points_of l)) (map-append (λ b. b.value) c.loop-arm.yielded (c.in-Some.arm ∷ [])) ∙ joined_map_more points_of gone arm));
      left = let e = c.loop-arm.invariant.left in let f = ap length step.0 in omega (arith, step.1);
      lands = c.in_ok-lay_sequence.ensures.lands ∙ c.loop-arm.invariant.lands;
      nodes =
          arm_turn c.args.around (stacked c.args.flat.now.lands.items) (stacked c.loop-arm.flat.lands.items) (length old) (length new) c.in_ok-behind.behind arm (map (λ b. b.value) (into_iter_items c.next.new.self)) (map (λ b. b.value) (into_iter_items c.loop-arm.arm-iterator))
          (map node_of old) (map node_of new) _ (ap (map (λ b. b.value)) step.0) (sym (length-map old node_of)) (sym (length-map new node_of)) behind c.loop-arm.invariant.lands c.in_ok-lay_sequence.ensures.nodes c.loop-arm.invariant.nodes;
    }

pub lay_parts-loop-part-preserved : goal.lay_parts-loop-part-preserved
lay_parts-loop-part-preserved t c =
    let step = subst (λ r. into_iter_steps c.loop-part.part-iterator r c.next.new.self) c.in-Some.is c.next.ensures.steps in
    let l0 = c.loop-part.flat.nodes.items in
    let l1 = c.lay_before.new.flat.nodes.items in
    let l2 = c.lay_shape.new.flat.nodes.items in
    let last = block_from c.loop-part.last in
    let x = option_map block_of last in
    let ps = map (λ b. b.value) (into_iter_items c.next.new.self) in
    let items = map (λ b. b.value) (into_iter_items c.loop-part.part-iterator) in
    let shape = c.in_ok-shape.ensures.shape in
    let after = c.in_ok-shape.ensures.after in
    let part : Part = record { shape = c.in_ok-shape.field-0.shape.value; after = c.in_ok-shape.field-0.after.value } in
    let same : part ≡ c.in-Some.part.value = λ i. record { shape = shape i; after = after i } in
    let seen : c.as_ref-in-loop-part.result.now ≡ part.shape = c.as_ref-in-loop-part.ensures in
    let before = c.in_ok-lay_before.ensures.nodes ∙ ap (λ s. map node_of l0 ++ block_node (around_of c.args.around (stacked c.loop-part.flat.lands.items)) (ahead_of (after_first (length l0) x) (shape_of s)) x) seen in
    let passed : (place : ℕ) (lands : List Landing) → stacked c.loop-part.flat.lands.items ≡ with_land place (shape_of part.shape) lands → stacked c.lay_before.new.flat.lands.items ≡ lands =
    λ place lands h. c.in_ok-lay_before.ensures.lands place lands (h ∙ ap (λ s. with_land place (shape_of s) lands) (sym seen)) in
    let first : items ≡ part ∷ ps = ap (map (λ b. b.value)) step.0 ∙ ap (λ p. p ∷ ps) (sym same) in
    record {
      sized =
          subst (λ i. ArePartsSized c.args.sizes.now (i + 1) (part_row (map part_of ps)))
          (sym
          (grown (length l1) (length l2) (shape_size (shape_of part.shape)) (map node_of l1) (map node_of l2) _ (sym (length-map l1 node_of)) (sym (length-map l2 node_of)) c.in_ok-lay_shape.ensures.nodes (length-shape _ _ (shape_of part.shape))
          ∙ ap (λ i. i + shape_size (shape_of part.shape)) c.in_ok-lay_before.ensures.place))
          (first_part c.args.sizes.now (after_first (length l0) x) part ps items first c.loop-part.invariant.sized).1;
      fewer = omega (arith, fewer_parts part ps items _ first c.loop-part.invariant.fewer);
      points =
          one_more (map node_point l0) (map node_point l1) (map node_point l2) (block_point last) (map node_point c.args.flat.now.nodes.items) (block_point (block_from c.args.row.first)) (map (λ b. b.value) c.loop-part.yielded) part
          c.loop-part.invariant.points c.in_ok-lay_before.ensures.points c.in_ok-lay_shape.ensures.points
          ∙ ap (λ p. map node_point c.args.flat.now.nodes.items ++ (block_point (block_from c.args.row.first) ++ joined (map part_points (map (λ b. b.value) c.loop-part.yielded ++ p ∷ [])))) same
          ∙ sym (ap (λ l. map node_point c.args.flat.now.nodes.items ++ (block_point (block_from c.args.row.first) ++ joined (map part_points l))) (map-append (λ b. b.value) c.loop-part.yielded (c.in-Some.part ∷ [])));
      left = let e = c.loop-part.invariant.left in let f = ap length step.0 in omega (arith, step.1);
      lands = λ lands h.
          lands_behind c.args.around (stacked c.loop-part.flat.lands.items) (stacked c.lay_before.new.flat.lands.items) (stacked c.lay_shape.new.flat.lands.items) (length l0) (length l1) (length l2) x part ps items (map node_of l0) (map node_of l1) (map node_of l2)
          first c.in_ok-lay_before.ensures.place (sym (length-map l1 node_of)) (sym (length-map l2 node_of)) before c.in_ok-lay_shape.ensures.nodes passed c.in_ok-lay_shape.ensures.lands
          lands (c.loop-part.invariant.lands lands h);
      nodes = λ lands h.
          part_turn c.args.around (stacked c.loop-part.flat.lands.items) (stacked c.lay_before.new.flat.lands.items) (stacked c.lay_shape.new.flat.lands.items) (length l0) (length l1) (length l2) x part ps items (map node_of l0) (map node_of l1) (map node_of l2)
          first c.in_ok-lay_before.ensures.place (sym (length-map l1 node_of)) (sym (length-map l2 node_of)) before c.in_ok-lay_shape.ensures.nodes passed c.in_ok-lay_shape.ensures.lands
          lands (c.loop-part.invariant.lands lands h) (ahead_view c.args.ways.now) _ (c.loop-part.invariant.nodes lands h);
    }

pub lay_parts-returns-clause-nodes : goal.lay_parts-returns-clause-nodes
lay_parts-returns-clause-nodes t c =
    let step = subst (λ r. into_iter_steps c.loop-part.part-iterator r c.next.new.self) c.in-None.is c.next.ensures.steps in
    λ lands h.
    on_ok_weaker c.lay_last.result
    (λ e. parts_end c.args.around lands (stacked c.loop-part.flat.lands.items) (ahead_view c.args.ways.now) (length c.loop-part.flat.nodes.items) (option_map block_of (block_from c.loop-part.last)) (map (λ b. b.value) (into_iter_items c.loop-part.part-iterator))
    (map node_of c.loop-part.flat.nodes.items) (map node_of c.lay_last.new.flat.nodes.items) _ (length-map (into_iter_items c.loop-part.part-iterator) (λ b. b.value) ∙ (let none : length (into_iter_items c.loop-part.part-iterator) ≡ 0 = omega (arith, step.0, c.loop-part.invariant.left) in none)) (c.loop-part.invariant.lands lands h) e (c.loop-part.invariant.nodes lands h))
    c.lay_last.ensures.nodes

pub lay_shape-returns-in-Fork-clause-nodes : goal.lay_shape-returns-in-Fork-clause-nodes
lay_shape-returns-in-Fork-clause-nodes t c =
    let left_ = side_of (option_map (λ part. sequence_of part.value) c.in-Fork.yes) in
    let right_ = side_of (option_map (λ part. sequence_of part.value) c.in-Fork.no) in
    let same : shape_of c.args.shape.value ≡ fork left_ right_ c.in-Fork.convertible = ap shape_of (sym c.in_ok-yes.ensures ∙ ap shape_from c.in-Fork.is) ∙ fork_out c.in-Fork.yes c.in-Fork.no c.in-Fork.convertible in
    let l0 = c.args.flat.now.nodes.items in
    let l1 = c.lay_side.new.flat.nodes.items in
    let l2 = c.lay_side-in-Fork.new.flat.nodes.items in
    let s0 = stacked c.args.flat.now.lands.items in
    let s1 = stacked c.lay_side.new.flat.lands.items in
    on_ok_weaker c.lay_side-in-Fork.result
    (λ h.
    fork_nodes c.args.around s0 s1 (length l0) (length l1) (number c.args.after) left_ right_ c.in-Fork.convertible (map node_of l0) (map node_of l1) (map node_of l2)
    (sym (length-map l0 node_of)) (sym (length-map l1 node_of)) (c.requires.after ∙ ap (behind_shape (length l0)) same) c.in_ok-lay_side-in-Fork.ensures.lands (c.in_ok-lay_side-in-Fork.ensures.nodes ∙ ap (λ x. map node_of l0 ++ laid_side (around_of c.args.around s0) (number c.args.after) (length l0) (side_of (option_map (λ part. sequence_of part.value) x))) c.in-Fork.yes-is)
    (h ∙ ap (λ x. map node_of l1 ++ laid_side (around_of c.args.around s1) (number c.args.after) (length l1) (side_of (option_map (λ part. sequence_of part.value) x))) c.in-Fork.no-is)
    ∙ ap (λ s. map node_of l0 ++ laid_shape (around_of c.args.around s0) (length l0) s) (sym same))
    c.lay_side-in-Fork.ensures.nodes

pub lay_shape-returns-in-Loop-clause-points : goal.lay_shape-returns-in-Loop-clause-points
lay_shape-returns-in-Loop-clause-points t c =
    let p0 = map node_point c.args.flat.now.nodes.items in
    let p1 = map node_point c.lay_sequence.new.flat.nodes.items in
    let p2 = map node_point c.lay_sequence-in-Loop.new.flat.nodes.items in
    let p3 = map node_point c.lay_side-in-Loop.new.flat.nodes.items in
    on_ok_weaker c.lay_side-in-Loop.result
    (λ h.
    three p0 p1 p2 p3 (points_of c.in-Loop.test.value) (points_of c.in-Loop.body.value) (where_there (option_map (λ part. points_of part.value) c.in-Loop.step))
    (c.in_ok-lay_sequence-in-Loop.ensures.points) (c.in_ok-lay_sequence-in-Loop-2.ensures.points)
    (h ∙ ap (λ (x : Option (Box Sequence Global)). p2 ++ where_there (option_map (λ part. points_of part.value) x)) c.in-Loop.step-is)
    ∙ ap (λ l. p0 ++ l) (sym (ap shape_points (sym c.in_ok-yes.ensures ∙ ap shape_from c.in-Loop.is) ∙ loop_points c.in-Loop.post c.in-Loop.test c.in-Loop.body c.in-Loop.step c.in-Loop.eligible)))
    c.lay_side-in-Loop.ensures.points

pub lay_shape-returns-in-Loop-clause-nodes : goal.lay_shape-returns-in-Loop-clause-nodes
lay_shape-returns-in-Loop-clause-nodes t c =
    let test_tree = sequence_of c.in-Loop.test.value in
    let body_tree = sequence_of c.in-Loop.body.value in
    let step_tree = side_of (option_map (λ part. sequence_of part.value) c.in-Loop.step) in
    let same : shape_of c.args.shape.value ≡ loop c.in-Loop.post test_tree body_tree step_tree c.in-Loop.eligible = ap shape_of (sym c.in_ok-yes.ensures ∙ ap shape_from c.in-Loop.is) ∙ loop_out c.in-Loop.post c.in-Loop.test c.in-Loop.body c.in-Loop.step c.in-Loop.eligible in
    let sized = subst (λ s. IsShapeSized c.args.sizes.now (length c.args.flat.now.nodes.items) s) same c.requires.sized in
    let l0 = c.args.flat.now.nodes.items in
    let l1 = c.lay_sequence.new.flat.nodes.items in
    let l2 = c.lay_sequence-in-Loop.new.flat.nodes.items in
    let l3 = c.lay_side-in-Loop.new.flat.nodes.items in
    let s0 = stacked c.args.flat.now.lands.items in
    let s1 = stacked c.lay_sequence.new.flat.lands.items in
    let s2 = stacked c.lay_sequence-in-Loop.new.flat.lands.items in
    let starts = c.in_ok-starts-in-Loop.starts in
    let a = number c.args.after in
    let b = number starts.body in
    let g = number starts.again in
    let place : c.in_ok-place-in-Loop.field-0 ≡ length l0 = c.in_ok-place-in-Loop.ensures in
    let test_sized = subst (λ i. IsSized c.args.sizes.now i test_tree) (sym place) sized.0 in
    let body_sized = subst (λ i. IsSized c.args.sizes.now (body_start i test_tree) body_tree) (sym place) sized.1.0 in
    let at_body : b ≡ body_start (length l0) test_tree = c.in_ok-starts-in-Loop.ensures.body test_tree test_sized ∙ ap (λ i. body_start i test_tree) place in
    let at_again : g ≡ step_start (length l0) test_tree body_tree step_tree =
    c.in_ok-starts-in-Loop.ensures.again test_tree body_tree test_sized body_sized
    ∙ ap (λ (x : Option (Box Sequence Global)). step_start c.in_ok-place-in-Loop.field-0 test_tree body_tree (side_of (option_map (λ part. sequence_of part.value) x))) c.in-Loop.step-is
    ∙ ap (λ i. step_start i test_tree body_tree step_tree) place in
    on_ok_weaker c.lay_side-in-Loop.result
    (λ h.
    loop_nodes c.args.around s0 s1 s2 (length l0) (length l1) (length l2) a b g (number starts.test) c.in-Loop.post test_tree body_tree step_tree c.in-Loop.eligible (map node_of l0) (map node_of l1) (map node_of l2) (map node_of l3)
    (sym (length-map l0 node_of)) (sym (length-map l1 node_of)) (sym (length-map l2 node_of)) (c.requires.after ∙ ap (behind_shape (length l0)) same) at_body at_again (c.in_ok-starts-in-Loop.ensures.test ∙ place)
    c.in_ok-lay_sequence-in-Loop.ensures.lands (c.in_ok-lay_sequence-in-Loop-2.ensures.lands ∙ c.in_ok-lay_sequence-in-Loop.ensures.lands)
    c.in_ok-lay_sequence-in-Loop.ensures.nodes c.in_ok-lay_sequence-in-Loop-2.ensures.nodes
    (h ∙ ap (λ (x : Option (Box Sequence Global)). map node_of l2 ++ laid_side (in_loop a g (around_of c.args.around s2)) (number starts.test) (length l2) (side_of (option_map (λ part. sequence_of part.value) x))) c.in-Loop.step-is)
    ∙ ap (λ s. map node_of l0 ++ laid_shape (around_of c.args.around s0) (length l0) s) (sym same))
    c.lay_side-in-Loop.ensures.nodes

pub lay_shape-returns-in-Choose-clause-points : goal.lay_shape-returns-in-Choose-clause-points
lay_shape-returns-in-Choose-clause-points t c =
    let p0 = map node_point c.args.flat.now.nodes.items in
    let p1 = map node_point c.lay_dead.new.flat.nodes.items in
    on_ok_weaker c.lay_arms.result
    (λ h.
    two p0 p1 (map node_point c.lay_arms.new.flat.nodes.items) (joined (map part_points c.in-Choose.dead.items)) (joined (map points_of c.in-Choose.arms.items))
    (c.in_ok-lay_dead-in-Choose.ensures.points ∙ ap (λ (x : Vec Part Global). p0 ++ joined (map part_points x.items)) c.in-Choose.dead-is)
    (h ∙ ap (λ (x : Vec Sequence Global). p1 ++ joined (map points_of x.items)) c.in-Choose.arms-is)
    ∙ ap (λ l. p0 ++ l) (sym (ap shape_points (sym c.in_ok-yes.ensures ∙ ap shape_from c.in-Choose.is) ∙ switch_points c.in-Choose.dead c.in-Choose.targets c.in-Choose.other c.in-Choose.arms)))
    c.lay_arms.ensures.points

pub lay_shape-returns-in-Choose-clause-nodes : goal.lay_shape-returns-in-Choose-clause-nodes
lay_shape-returns-in-Choose-clause-nodes t c =
    let dead = part_row (map part_of c.in-Choose.dead.items) in
    let arms = arm_row (map sequence_of c.in-Choose.arms.items) in
    let same : shape_of c.args.shape.value ≡ switch dead c.in-Choose.targets.items c.in-Choose.other arms = ap shape_of (sym c.in_ok-yes.ensures ∙ ap shape_from c.in-Choose.is) ∙ switch_out c.in-Choose.dead c.in-Choose.targets c.in-Choose.other c.in-Choose.arms in
    let l0 = c.args.flat.now.nodes.items in
    let l1 = c.lay_dead.new.flat.nodes.items in
    let s0 = stacked c.args.flat.now.lands.items in
    let s1 = stacked c.lay_dead.new.flat.lands.items in
    let a = number c.args.after in
    on_ok_weaker c.lay_arms.result
    (λ h.
    switch_nodes c.args.around s0 s1 (length l0) (length l1) a dead c.in-Choose.targets.items c.in-Choose.other arms (map node_of l0) (map node_of l1) (map node_of c.lay_arms.new.flat.nodes.items)
    (sym (length-map l0 node_of)) (sym (length-map l1 node_of)) (c.requires.after ∙ ap (behind_shape (length l0)) same) c.in_ok-lay_dead-in-Choose.ensures.lands
    (c.in_ok-lay_dead-in-Choose.ensures.nodes
    ∙ ap (λ (x : Vec Part Global). map node_of l0 ++ laid_parts (in_switch a (around_of c.args.around s0)) (onto (length l0 + parts_size (part_row (map part_of x.items)))) (length l0) (part_row (map part_of x.items))) c.in-Choose.dead-is)
    (h ∙ ap (λ (x : Vec Sequence Global). map node_of l1 ++ laid_arms (in_switch a (around_of c.args.around s1)) (length l1) (arm_row (map sequence_of x.items))) c.in-Choose.arms-is)
    ∙ ap (λ s. map node_of l0 ++ laid_shape (around_of c.args.around s0) (length l0) s) (sym same))
    c.lay_arms.ensures.nodes

pub lay_shape-returns-in-Fork-clause-points : goal.lay_shape-returns-in-Fork-clause-points
lay_shape-returns-in-Fork-clause-points t c =
    let p0 = map node_point c.args.flat.now.nodes.items in
    let p1 = map node_point c.lay_side.new.flat.nodes.items in
    on_ok_weaker c.lay_side-in-Fork.result
    (λ h.
    two p0 p1 (map node_point c.lay_side-in-Fork.new.flat.nodes.items) (where_there (option_map (λ part. points_of part.value) c.in-Fork.yes)) (where_there (option_map (λ part. points_of part.value) c.in-Fork.no))
    (c.in_ok-lay_side-in-Fork.ensures.points ∙ ap (λ (x : Option (Box Sequence Global)). p0 ++ where_there (option_map (λ part. points_of part.value) x)) c.in-Fork.yes-is)
    (h ∙ ap (λ (x : Option (Box Sequence Global)). p1 ++ where_there (option_map (λ part. points_of part.value) x)) c.in-Fork.no-is)
    ∙ ap (λ l. p0 ++ l) (sym (ap shape_points (sym c.in_ok-yes.ensures ∙ ap shape_from c.in-Fork.is) ∙ fork_points c.in-Fork.yes c.in-Fork.no c.in-Fork.convertible)))
    c.lay_side-in-Fork.ensures.points

-- ---- the sizes of what is laid

pub lay_arms-lay_sequence-requires : goal.lay_arms-lay_sequence-requires
lay_arms-lay_sequence-requires t c =
    let step = subst (λ r. into_iter_steps c.loop-arm.arm-iterator r c.next.new.self) c.in-Some.is c.next.ensures.steps in
    let sized = subst (λ xs. AreArmsSized c.args.sizes.now (length c.loop-arm.flat.nodes.items) (arm_row (map sequence_of xs))) (ap (map (λ b. b.value)) step.0) c.loop-arm.invariant.sized in
    (search rules, sized.0)

pub lay_parts-behind_shape-requires : goal.lay_parts-behind_shape-requires
lay_parts-behind_shape-requires t c =
    let step = subst (λ r. into_iter_steps c.loop-part.part-iterator r c.next.new.self) c.in-Some.is c.next.ensures.steps in
    let place = after_first (length c.loop-part.flat.nodes.items) (option_map block_of (block_from c.loop-part.last)) in
    let sized = first_part c.args.sizes.now place c.in-Some.part.value (map (λ b. b.value) (into_iter_items c.next.new.self)) _ (ap (map (λ b. b.value)) step.0) c.loop-part.invariant.sized in
    subst (λ i. IsShapeSized c.args.sizes.now i (shape_of c.as_ref.result.now)) (sym c.in_ok-place_behind.ensures)
    (subst (λ s. IsShapeSized c.args.sizes.now place (shape_of s)) (sym (c.as_ref.ensures ∙ c.in_ok-shape.ensures.shape)) sized.0)

pub lay_parts-lay_before-requires : goal.lay_parts-lay_before-requires
lay_parts-lay_before-requires t c =
    let step = subst (λ r. into_iter_steps c.loop-part.part-iterator r c.next.new.self) c.in-Some.is c.next.ensures.steps in
    let place = after_first (length c.loop-part.flat.nodes.items) (option_map block_of (block_from c.loop-part.last)) in
    let sized = first_part c.args.sizes.now place c.in-Some.part.value (map (λ b. b.value) (into_iter_items c.next.new.self)) _ (ap (map (λ b. b.value)) step.0) c.loop-part.invariant.sized in
    record { sized = subst (λ s. IsShapeSized c.args.sizes.now place (shape_of s)) (sym (c.as_ref-in-loop-part.ensures ∙ c.in_ok-shape.ensures.shape)) sized.0 }

pub lay_parts-lay_shape-requires : goal.lay_parts-lay_shape-requires
lay_parts-lay_shape-requires t c =
    let step = subst (λ r. into_iter_steps c.loop-part.part-iterator r c.next.new.self) c.in-Some.is c.next.ensures.steps in
    let place = after_first (length c.loop-part.flat.nodes.items) (option_map block_of (block_from c.loop-part.last)) in
    let here = length c.lay_before.new.flat.nodes.items in
    let sized = first_part c.args.sizes.now place c.in-Some.part.value (map (λ b. b.value) (into_iter_items c.next.new.self)) _ (ap (map (λ b. b.value)) step.0) c.loop-part.invariant.sized in
    let fewer = fewer_parts c.in-Some.part.value (map (λ b. b.value) (into_iter_items c.next.new.self)) _ _ (ap (map (λ b. b.value)) step.0) c.loop-part.invariant.fewer in
    let same = ap (λ s. shape_size (shape_of s)) c.in_ok-shape.ensures.shape in (
      omega (arith, c.decreases, fewer, same),
      (
        subst (λ i. IsShapeSized c.args.sizes.now i (shape_of c.in_ok-shape.field-0.shape.value)) (sym c.in_ok-lay_before.ensures.place)
            (subst (λ s. IsShapeSized c.args.sizes.now place (shape_of s)) (sym c.in_ok-shape.ensures.shape) sized.0),
        c.in_ok-behind.ensures ∙ ap (λ i. behind_shape i (shape_of c.as_ref.result.now)) (c.in_ok-place_behind.ensures ∙ sym c.in_ok-lay_before.ensures.place) ∙ ap (λ s. behind_shape here (shape_of s)) c.as_ref.ensures,
      ),
    )

pub lay_shape-lay_side-requires-in-Fork : goal.lay_shape-lay_side-requires-in-Fork
lay_shape-lay_side-requires-in-Fork t c =
    let left_ = side_of (option_map (λ part. sequence_of part.value) c.in-Fork.yes) in
    let right_ = side_of (option_map (λ part. sequence_of part.value) c.in-Fork.no) in
    let same : shape_of c.args.shape.value ≡ fork left_ right_ c.in-Fork.convertible = ap shape_of (sym c.in_ok-yes.ensures ∙ ap shape_from c.in-Fork.is) ∙ fork_out c.in-Fork.yes c.in-Fork.no c.in-Fork.convertible in
    let l0 = c.args.flat.now.nodes.items in
    let l1 = c.lay_side.new.flat.nodes.items in
    let sized = subst (λ s. IsShapeSized c.args.sizes.now (length l0) s) same c.requires.sized in
    let longer : length l1 ≡ length l0 + side_size left_ =
    grown (length l0) (length l1) (side_size left_) (map node_of l0) (map node_of l1) _ (sym (length-map l0 node_of)) (sym (length-map l1 node_of))
    (c.in_ok-lay_side-in-Fork.ensures.nodes
    ∙ ap (λ x. map node_of l0 ++ laid_side (around_of c.args.around (stacked c.args.flat.now.lands.items)) (number c.args.after) (length l0) (side_of (option_map (λ part. sequence_of part.value) x))) c.in-Fork.yes-is)
    (length-side _ _ _ left_) in
    (search rules, subst (λ i. IsSideSized c.args.sizes.now i right_) (sym longer) sized.1)

pub lay_shape-lay_sequence-requires-in-Loop : goal.lay_shape-lay_sequence-requires-in-Loop
lay_shape-lay_sequence-requires-in-Loop t c =
    let test_tree = sequence_of c.in-Loop.test.value in
    let body_tree = sequence_of c.in-Loop.body.value in
    let step_tree = side_of (option_map (λ part. sequence_of part.value) c.in-Loop.step) in
    let same : shape_of c.args.shape.value ≡ loop c.in-Loop.post test_tree body_tree step_tree c.in-Loop.eligible = ap shape_of (sym c.in_ok-yes.ensures ∙ ap shape_from c.in-Loop.is) ∙ loop_out c.in-Loop.post c.in-Loop.test c.in-Loop.body c.in-Loop.step c.in-Loop.eligible in
    let l0 = c.args.flat.now.nodes.items in
    let l1 = c.lay_sequence.new.flat.nodes.items in
    let sized = subst (λ s. IsShapeSized c.args.sizes.now (length l0) s) same c.requires.sized in
    let longer : length l1 ≡ length l0 + sequence_size test_tree =
    grown (length l0) (length l1) (sequence_size test_tree) (map node_of l0) (map node_of l1) _ (sym (length-map l0 node_of)) (sym (length-map l1 node_of)) c.in_ok-lay_sequence-in-Loop.ensures.nodes (length-laid _ _ _ test_tree) in
    (search rules, subst (λ i. IsSized c.args.sizes.now i body_tree) (sym longer) sized.1.0)

pub lay_shape-lay_side-requires-in-Loop : goal.lay_shape-lay_side-requires-in-Loop
lay_shape-lay_side-requires-in-Loop t c =
    let test_tree = sequence_of c.in-Loop.test.value in
    let body_tree = sequence_of c.in-Loop.body.value in
    let step_tree = side_of (option_map (λ part. sequence_of part.value) c.in-Loop.step) in
    let same : shape_of c.args.shape.value ≡ loop c.in-Loop.post test_tree body_tree step_tree c.in-Loop.eligible = ap shape_of (sym c.in_ok-yes.ensures ∙ ap shape_from c.in-Loop.is) ∙ loop_out c.in-Loop.post c.in-Loop.test c.in-Loop.body c.in-Loop.step c.in-Loop.eligible in
    let l0 = c.args.flat.now.nodes.items in
    let l1 = c.lay_sequence.new.flat.nodes.items in
    let l2 = c.lay_sequence-in-Loop.new.flat.nodes.items in
    let sized = subst (λ s. IsShapeSized c.args.sizes.now (length l0) s) same c.requires.sized in
    let longer : length l1 ≡ length l0 + sequence_size test_tree =
    grown (length l0) (length l1) (sequence_size test_tree) (map node_of l0) (map node_of l1) _ (sym (length-map l0 node_of)) (sym (length-map l1 node_of)) c.in_ok-lay_sequence-in-Loop.ensures.nodes (length-laid _ _ _ test_tree) in
    let longest : length l2 ≡ length l1 + sequence_size body_tree =
    grown (length l1) (length l2) (sequence_size body_tree) (map node_of l1) (map node_of l2) _ (sym (length-map l1 node_of)) (sym (length-map l2 node_of)) c.in_ok-lay_sequence-in-Loop-2.ensures.nodes (length-laid _ _ _ body_tree) in
    (search rules, subst (λ i. IsSideSized c.args.sizes.now i step_tree) (sym (longest ∙ ap (λ i. i + sequence_size body_tree) longer)) sized.1.1)

pub lay_shape-lay_arms-requires : goal.lay_shape-lay_arms-requires
lay_shape-lay_arms-requires t c =
    let dead = part_row (map part_of c.in-Choose.dead.items) in
    let arms = arm_row (map sequence_of c.in-Choose.arms.items) in
    let same : shape_of c.args.shape.value ≡ switch dead c.in-Choose.targets.items c.in-Choose.other arms = ap shape_of (sym c.in_ok-yes.ensures ∙ ap shape_from c.in-Choose.is) ∙ switch_out c.in-Choose.dead c.in-Choose.targets c.in-Choose.other c.in-Choose.arms in
    let l0 = c.args.flat.now.nodes.items in
    let l1 = c.lay_dead.new.flat.nodes.items in
    let sized = subst (λ s. IsShapeSized c.args.sizes.now (length l0) s) same c.requires.sized in
    let longer : length l1 ≡ length l0 + parts_size dead =
    grown (length l0) (length l1) (parts_size dead) (map node_of l0) (map node_of l1) _ (sym (length-map l0 node_of)) (sym (length-map l1 node_of))
    (c.in_ok-lay_dead-in-Choose.ensures.nodes
    ∙ ap (λ (x : Vec Part Global). map node_of l0 ++ laid_parts (in_switch (number c.args.after) (around_of c.args.around (stacked c.args.flat.now.lands.items))) (onto (length l0 + parts_size (part_row (map part_of x.items)))) (length l0) (part_row (map part_of x.items))) c.in-Choose.dead-is)
    (length-parts _ _ _ dead) in
    (search rules, subst (λ i. AreArmsSized c.args.sizes.now i arms) (sym longer) sized.1)
