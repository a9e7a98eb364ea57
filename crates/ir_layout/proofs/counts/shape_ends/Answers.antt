use Rattle.std.proofs.Common.{◌∙◌, ◌+◌, ◌++◌, ◌∷◌, [], ap}
use Rattle.ir_layout.proofs.Listing.{here_sized, next_part, next_end}
use Rattle.ir_layout.proofs.counts.shape_ends.Goals as goal

pub behind_shape-requires : goal.behind_shape-requires
behind_shape-requires c = here_sized c.args.sizes.now c.loop-part.part-index c.loop-part.place c.args.parts.now _ c.loop-part-test.true c.part-item.is c.loop-part.invariant.sized

pub loop-part-preserved : goal.loop-part-preserved
loop-part-preserved c =
    let next = c.in_ok-place.ensures ∙ ap (λ i. i + 1) c.in_ok-end.ensures in
    record {
      ends =
          next_end c.loop-part.part-index c.loop-part.place c.in_ok-place.place c.args.parts.now _ c.loop-part.ends.items c.push.new.self.items _ c.loop-part-test.true c.part-item.is next
          (c.in_ok-push.ensures.items ∙ ap (λ i. c.loop-part.ends.items ++ i ∷ []) c.in_ok-end.ensures) c.loop-part.invariant.ends;
      sized = (next_part c.args.sizes.now c.loop-part.part-index c.loop-part.place c.in_ok-place.place c.args.parts.now _ c.loop-part-test.true c.part-item.is next c.loop-part.invariant.sized).1;
    }
