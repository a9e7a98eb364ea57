use Rattle.std.proofs.Common.{rules, arith, ◌≤◌, ◌<◌, length, ◌∙◌}
use Rattle.chain_link.proofs.Near.{has_room, is_early, within_next}
use Rattle.chain_link.proofs.Pushing.{wires_moved, registers_moved, memories_moved, queue_moved}
use Rattle.chain_link.proofs.linking.push_stages.Goals as goal

pub push_stage-requires-clause-room : goal.push_stage-requires-clause-room
push_stage-requires-clause-room c =
    let le : c.loop-stage.stage-index ≤ 16 = let few = c.requires.few in let inside = c.loop-stage-test.true in omega (arith, few, inside) in
    has_room c.loop-stage.stage-index _ _ le c.loop-stage.invariant.within

pub push_stage-requires-clause-early : goal.push_stage-requires-clause-early
push_stage-requires-clause-early c =
    let le : c.loop-stage.stage-index ≤ 16 = let few = c.requires.few in let inside = c.loop-stage-test.true in omega (arith, few, inside) in
    is_early c.loop-stage.stage-index _ _ le c.loop-stage.invariant.within

pub behind-joint-requires-clause-room : goal.behind-joint-requires-clause-room
behind-joint-requires-clause-room c =
    let le : c.loop-stage.stage-index ≤ 16 = let few = c.requires.few in let inside = c.loop-stage-test.true in omega (arith, few, inside) in
    has_room c.loop-stage.stage-index _ _ le c.loop-stage.invariant.within

pub returns-clause-room : goal.returns-clause-room
returns-clause-room c =
    let le : c.loop-stage.stage-index ≤ 16 = let few = c.requires.few in omega (arith, few) in
    has_room c.loop-stage.stage-index _ _ le c.loop-stage.invariant.within

pub returns-clause-early : goal.returns-clause-early
returns-clause-early c =
    let le : c.loop-stage.stage-index ≤ 16 = let few = c.requires.few in omega (arith, few) in
    is_early c.loop-stage.stage-index _ _ le c.loop-stage.invariant.within

pub loop-stage-preserved : goal.loop-stage-preserved
loop-stage-preserved c =
    let i = c.loop-stage.invariant in
    record {
      within = within_next c.loop-stage.stage-index _ _ _ _ _ c.has_small_numbers.ensures i.within c.behind-joint.ensures.sizes c.behind-joint.ensures.queue;
      depth = c.behind-joint.ensures.depth ∙ i.depth;
      log = c.behind-joint.ensures.log ∙ i.log;
      queue = queue_moved c.args.stages.now c.loop-stage.stage-index c.stage-item.result c.loop-stage-test.true c.stage-item.is _ _ _ _ c.behind-joint.ensures.sizes c.behind-joint.ensures.queue _ i.queue;
      wires = wires_moved c.args.stages.now c.loop-stage.stage-index c.stage-item.result c.loop-stage-test.true c.stage-item.is _ _ _ _ c.behind-joint.ensures.sizes c.behind-joint.ensures.queue _ _ _ _ _ _ _
          i.depth i.log i.wires c.in_ok-push_stage.ensures.wires;
      regs = registers_moved c.args.stages.now c.loop-stage.stage-index c.stage-item.result c.loop-stage-test.true c.stage-item.is _ _ _ _ c.behind-joint.ensures.sizes c.behind-joint.ensures.queue _ _ _ _ _ i.log
          i.regs c.in_ok-push_stage.ensures.regs;
      mems = memories_moved c.args.stages.now c.loop-stage.stage-index c.stage-item.result c.loop-stage-test.true c.stage-item.is _ _ _ _ c.behind-joint.ensures.sizes c.behind-joint.ensures.queue _ _ _ _ _ i.log
          i.mems c.in_ok-push_stage.ensures.mems;
    }
