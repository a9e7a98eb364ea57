-- A program without a result returns no word.
use Rattle.std.specs.Prelude.{slice_get}
use Rattle.std.specs.Option.{option_map}
use Rattle.std.proofs.Common.{◌≡◌, ◌∙◌, ℕ, zero, suc, ◌+◌, refl, sym, ap, subst, Bool, List, [], ◌∷◌, ◌++◌, map, Option, Some, None}
use Rattle.std.proofs.lemmas.Option.{none-some, same_Some}
use Rattle.ir_core.specs.declared.body.Operand.{Operand}
use Rattle.ir_core.specs.declared.body.Out.{Out}
use Rattle.ir_core.specs.declared.cfg.End.{End}
use Rattle.ir_core.specs.declared.cfg.End.TheVariants as end
use Rattle.ir_core.specs.declared.cfg.Memory.{Memory}
use Rattle.ir_core.specs.declared.cfg.Node.{Node}
use Rattle.ir_core.specs.declared.cfg.Node.TheVariants as node
use Rattle.ir_core.specs.declared.stamp.Untimed.{Untimed}
use Rattle.ir_core.specs.declared.timed.Timed.{Timed}
use Rattle.unit_binding.specs.Copies.{IsEndCopy}
use Rattle.ir_core.specs.Trees.{ExitTree, next, branch, choose, break_, continue_, leave, BlockTree, SequenceTree, sequence, PartTrees, no_part, more_parts, ShapeTree, fork, loop, switch, land, overlapped, SideTree, no_side, side, ArmTrees, no_arm, more_arms}
use Rattle.ir_layout.specs.Nodes.{EndTree, jumps, branches, chooses, returns, NodeTree, plain, looped, end_of, node_of}
use Rattle.ir_layout.specs.Sizes.{sequence_size, side_size, parts_size, arms_size}
use Rattle.ir_layout.specs.Layout.{Ahead, finish, onto, tested, by_case, Around, left_in, straight, end_for, laid_block, ahead_of_parts, behind_shape, before_parts, in_loop, in_switch, body_start, step_start, laid, laid_parts, laid_shape, laid_side, laid_arms}
use Rattle.clock_ir.specs.Flows.{TimedBody}
use Rattle.clock_ir.specs.ClockRuns as clock
use Rattle.clock_ir.specs.ClockRuns.{TimedNode, timed_node}
use Rattle.clock_ir.specs.WellTimed.{IsWellTimedNode, AreWellTimed}
use Rattle.clock_runs.specs.Premises.{Each}
use Rattle.std.specs.Option.{option_map}
use Rattle.op_chain.specs.Subscripts.{reaching}
use Rattle.op_chain.specs.Pairs.{scope_of}
use Rattle.op_chain.specs.Fusing.{moved, moved_end, made_in, fused_node, fused_nodes}

-- ---- trees

abbrev EndHasNone : EndTree → Type 0
EndHasNone (jumps n) = Unit {0}
EndHasNone (branches test yes_ no_) = Unit {0}
EndHasNone (chooses cases other) = Unit {0}
EndHasNone (returns word) = word ≡ None

abbrev pub HasNone : NodeTree → Type 0
HasNone (plain point body end_) = EndHasNone end_
HasNone (looped point body n) = Unit {0}

straight_none : (around : Around) (outs : List Out) (ahead : Ahead) → around.returned ≡ None → EndHasNone (straight around outs ahead)
straight_none around outs finish r = ap (option_map (left_in outs)) r
straight_none around outs (onto n) r = tt
straight_none around outs (tested yes_ no_) r = tt
straight_none around outs (by_case cases other) r = tt

end_none : (around : Around) (outs : List Out) (ahead : Ahead) (e : ExitTree) → around.returned ≡ None → EndHasNone (end_for around outs ahead e)
end_none around outs ahead break_ r = tt
end_none around outs ahead continue_ r = tt
end_none around outs ahead (leave number) r = tt
end_none around outs (tested yes_ no_) (branch test) r = tt
end_none around outs (by_case cases other) (choose tests) r = tt
end_none around outs finish (branch test) r = straight_none around outs finish r
end_none around outs (onto m) (branch test) r = tt
end_none around outs (by_case cases other) (branch test) r = tt
end_none around outs finish (choose tests) r = straight_none around outs finish r
end_none around outs (onto m) (choose tests) r = tt
end_none around outs (tested yes_ no_) (choose tests) r = tt
end_none around outs finish next r = straight_none around outs finish r
end_none around outs (onto m) next r = tt
end_none around outs (tested yes_ no_) next r = tt
end_none around outs (by_case cases other) next r = tt

block_none : (around : Around) (ahead : Ahead) (b : BlockTree) → around.returned ≡ None → HasNone (laid_block around ahead b)
block_none around ahead b r = end_none around b.outs ahead b.exit r

both : (xs ys : List NodeTree) → Each HasNone xs → Each HasNone ys → Each HasNone (xs ++ ys)
both [] ys h k = k
both (x ∷ xs) ys h k = (h.0, both xs ys h.1 k)

mutual
  pub laid_none : (around : Around) (ahead : Ahead) (place : ℕ) (s : SequenceTree) → around.returned ≡ None → Each HasNone (laid around ahead place s)
  laid_none around ahead place (sequence first rest) r =
      (block_none (before_parts (place + 1) rest around) (ahead_of_parts (place + 1) rest ahead) first r, parts_none around ahead (place + 1) rest r)

  parts_none : (around : Around) (ahead : Ahead) (place : ℕ) (p : PartTrees) → around.returned ≡ None → Each HasNone (laid_parts around ahead place p)
  parts_none around ahead place no_part r = tt
  parts_none around ahead place (more_parts shape after rest) r =
      let there = behind_shape place shape + 1 in
      both (laid_shape (before_parts there rest around) place shape) (laid_block (before_parts there rest around) (ahead_of_parts there rest ahead) after ∷ laid_parts around ahead there rest)
      (shape_none (before_parts there rest around) place shape r) (block_none (before_parts there rest around) (ahead_of_parts there rest ahead) after r, parts_none around ahead there rest r)

  shape_none : (around : Around) (place : ℕ) (shape : ShapeTree) → around.returned ≡ None → Each HasNone (laid_shape around place shape)
  shape_none around place (fork yes_ no_ c) r =
      let after = place + (side_size yes_ + side_size no_) in
      both (laid_side around after place yes_) (laid_side around after (place + side_size yes_) no_) (side_none around after place yes_ r) (side_none around after (place + side_size yes_) no_ r)
  shape_none around place (loop post test body step e) r =
      let after = place + (sequence_size test + (sequence_size body + side_size step)) in
      let inside = in_loop after (step_start place test body step) around in
      both (laid inside (tested (body_start place test) after) place test) (laid inside (onto (step_start place test body step)) (body_start place test) body ++ laid_side inside place (body_start place test + sequence_size body) step)
      (laid_none inside (tested (body_start place test) after) place test r)
      (both (laid inside (onto (step_start place test body step)) (body_start place test) body) (laid_side inside place (body_start place test + sequence_size body) step)
      (laid_none inside (onto (step_start place test body step)) (body_start place test) body r) (side_none inside place (body_start place test + sequence_size body) step r))
  shape_none around place (switch dead targets other arms) r =
      let inside = in_switch (place + (parts_size dead + arms_size arms)) around in
      both (laid_parts inside (onto (place + parts_size dead)) place dead) (laid_arms inside (place + parts_size dead) arms) (parts_none inside (onto (place + parts_size dead)) place dead r) (arms_none inside (place + parts_size dead) arms r)
  shape_none around place (land number) r = tt
  shape_none around place (overlapped point body) r = (tt, tt)

  side_none : (around : Around) (after place : ℕ) (s : SideTree) → around.returned ≡ None → Each HasNone (laid_side around after place s)
  side_none around after place no_side r = tt
  side_none around after place (side blocks) r = laid_none around (onto after) place blocks r

  arms_none : (around : Around) (place : ℕ) (p : ArmTrees) → around.returned ≡ None → Each HasNone (laid_arms around place p)
  arms_none around place no_arm r = tt
  arms_none around place (more_arms first rest) r =
      both (laid around (onto (place + sequence_size first)) place first) (laid_arms around (place + sequence_size first) rest) (laid_none around (onto (place + sequence_size first)) place first r)
      (arms_none around (place + sequence_size first) rest r)

-- ---- fused programs

moved_none : (now : List ℕ) (e : EndTree) → EndHasNone e → EndHasNone (moved_end now e)
moved_none now (jumps node) h = tt
moved_none now (branches test yes_ no_) h = tt
moved_none now (chooses cases other) h = tt
moved_none now (returns value) h = ap (option_map (moved now)) h

nodes_none : (period : ℕ) (marks : List Bool) (nodes : List NodeTree) → Each HasNone nodes → Each HasNone (map (fused_node period marks) nodes)
nodes_none period marks [] h = tt
nodes_none period marks (plain point body end_ ∷ nodes) h = (moved_none (made_in (scope_of period marks (plain point body end_)) body).now end_ h.0, nodes_none period marks nodes h.1)
nodes_none period marks (looped point body node ∷ nodes) h = (tt, nodes_none period marks nodes h.1)

-- a program that returns no word returns none once operators are fused
pub fused_none : (period variables : ℕ) (nodes : List NodeTree) → Each HasNone nodes → Each HasNone (fused_nodes period variables nodes)
fused_none zero variables nodes h = h
fused_none (suc period) variables nodes h = nodes_none (suc period) (reaching variables nodes) nodes h

-- ---- nodes with times

end_copied : (u t : End) (x : Operand) → IsEndCopy u t → EndHasNone (end_of u) → t ≡ end.Return (Some x) → ⊥
end_copied (end.Jump n) t x c h is = (let both_ : end.Jump n ≡ end.Return (Some x) = sym c ∙ is in cc)
end_copied (end.Branch test left right) t x c h is = (let both_ : end.Branch test left right ≡ end.Return (Some x) = sym c ∙ is in cc)
end_copied (end.Choose cases other) (end.Choose copies target) x c h is = (cc)
end_copied (end.Choose cases other) (end.Jump n) x c h is = absurd c
end_copied (end.Choose cases other) (end.Branch test left right) x c h is = absurd c
end_copied (end.Choose cases other) (end.Return word) x c h is = absurd c
end_copied (end.Return word) t x c h is =
    let both_ : end.Return word ≡ end.Return (Some x) = sym c ∙ is in
    let word_is : word ≡ Some x = cc in
    none-some x (sym h ∙ word_is)

node_copied : (memories : List Memory) (u : Node Untimed) (t : Node Timed) (body : TimedBody) (x : Operand) → IsWellTimedNode memories u t → HasNone (node_of u) → timed_node t ≡ clock.block body (end.Return (Some x)) → ⊥
node_copied memories (node.Plain u) (node.Plain t) body x w h is = (let ends : t.end ≡ end.Return (Some x) = cc in end_copied u.end t.end x w.1.1.ends h ends)
node_copied memories (node.Looped u) (node.Looped t) body x w h is = (cc)
node_copied memories (node.Plain u) (node.Looped t) body x w h is = absurd w
node_copied memories (node.Looped u) (node.Plain t) body x w h is = absurd w

-- no node of the program with times returns a word
pub none_returned : (memories : List Memory) (us : List (Node Untimed)) (ts : List (Node Timed)) → AreWellTimed memories us ts → Each HasNone (map node_of us) → (i : ℕ) (body : TimedBody) (x : Operand) → slice_get (map timed_node ts) i ≡ Some (clock.block body (end.Return (Some x))) → ⊥
none_returned memories [] [] w h i body x at = none-some (clock.block body (end.Return (Some x))) at
none_returned memories [] (t ∷ ts) w h i body x at = absurd w
none_returned memories (u ∷ us) [] w h i body x at = absurd w
none_returned memories (u ∷ us) (t ∷ ts) w h zero body x at = node_copied memories u t body x w.0 h.0 (same_Some (timed_node t) (clock.block body (end.Return (Some x))) at)
none_returned memories (u ∷ us) (t ∷ ts) w h (suc i) body x at = none_returned memories us ts w.1 h.1 i body x at
