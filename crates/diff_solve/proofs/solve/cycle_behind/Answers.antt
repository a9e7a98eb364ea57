use Rattle.std.proofs.Common.{◌≡◌, ◌+◌, ◌-◌, ◌<◌, [], ◌∷◌, ◌++◌, take, reverse, length, slice_index, refl, ap, ◌∙◌, arith}
use Rattle.std.proofs.lemmas.List.{length-set, length-append}
use Rattle.diff_solve.specs.Cycles.{nothing, from_of}
use Rattle.diff_solve.proofs.Trails.{IsMarked-push, count-marked, cycle_from_mark, cycle_from_home}
use Rattle.diff_solve.proofs.Walks.{Back-append, AllEntered-append}
use Rattle.diff_solve.proofs.solve.cycle_behind.Goals.{then-loop-node-test+else-seen-node-eq0, else-loop-node-test, then-seen-node-eq0-2, else-seen-node-eq0-2}
use Rattle.diff_solve.proofs.solve.cycle_behind.Goals as goal

pub bounds-constraints-position : goal.bounds-constraints-position
bounds-constraints-position c = (c.requires.tangled.ends c.loop-node.node (slice_index c.args.entered.now c.loop-node.node - 1) (omega arith)).0

-- src/lib.rt:131:16
pub offset_bounds-constraints-position : goal.offset_bounds-constraints-position
offset_bounds-constraints-position c =
    let lt = (c.requires.tangled.ends c.loop-node.node (slice_index c.args.entered.now c.loop-node.node - 1) (omega arith)).0 in
    omega (arith, lt)

pub loop-node-preserved : goal.loop-node-preserved
loop-node-preserved c =
    let cs = c.args.constraints.now in
    let entered = c.args.entered.now in
    let node = c.loop-node.node in
    let trail = c.loop-node.trail.items in
    let seen = c.loop-node.seen in
    let inv = c.loop-node.invariant in
    let p = slice_index entered node - 1 in
    let pushed : c.push.new.self.items ≡ trail ++ p ∷ [] = c.in_ok-push.ensures.items in
    let long : c.len.result ≡ length trail + 1 = omega (arith, length-append trail (p ∷ []), ap length pushed) in
    let here : slice_index entered node ≡ p + 1 = omega arith in
    let unseen : slice_index seen node ≡ 0 = omega arith in
    let ends = c.requires.tangled.ends node p here in
    let in_seen : node < length seen = omega arith in
    let count = count-marked seen node (length trail) in_seen unseen in
    rw (pushed, long) (record {
      in_range = (c.requires.in_range p nothing ends.0).0;
      back = Back-append cs c.args.start trail node (p ∷ []) (from_of cs p) inv.back (ends.0, ends.1, refl);
      entered = AllEntered-append cs entered trail (p ∷ []) inv.entered (ap (slice_index entered) ends.1 ∙ here, tt);
      marked = IsMarked-push cs seen trail node p inv.marked in_seen ends.0 ends.1;
      counted = omega (arith, count, length-append trail (p ∷ []));
      kept = simp length-set inv.kept;
    })

pub returns : goal.returns
returns c =
    let cs = c.args.constraints.now in
    let entered = c.args.entered.now in
    let node = c.loop-node.node in
    let trail = c.loop-node.trail.items in
    let seen = c.loop-node.seen in
    let inv = c.loop-node.invariant in
    let begin = c.if-seen-node-eq0-2.begin in
    let left : c.truncate.new.self.items ≡ take (length trail - begin) (reverse trail) = (let n : c.len-2.result ≡ length trail = omega arith in cc) in
    rw left (elim c.if-seen-node-eq0-2.branch [
      | then-seen-node-eq0-2 w ↦ elim c.loop-node-test.branch [
        | then-loop-node-test+else-seen-node-eq0 u ↦ absurd (omega arith)
        | else-loop-node-test u ↦ rw w.begin-is (cycle_from_home cs entered trail (length entered) c.args.start node c.requires.tangled.home inv.back inv.entered (omega arith) (omega arith))
      ]
      | else-seen-node-eq0-2 w ↦ rw w.begin-is (cycle_from_mark cs entered seen trail node c.requires.tangled.loops inv.marked inv.entered (omega arith))
    ])
