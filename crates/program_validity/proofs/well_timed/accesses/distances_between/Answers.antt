use Rattle.std.proofs.Common.{◌≡◌, ◌+◌, List, take, drop, map, length, get_or, min, sym, ap, ap₂, ◌∙◌, arith}
use Rattle.ir_core.specs.declared.body.Operand.{Operand}
use Rattle.ir_core.specs.declared.body.Source.TheVariants as source
use Rattle.dep_graph.specs.Offsets.{sums_of}
use Rattle.dep_graph.specs.Meetings.{subscript_of, subscript_count, subscripts_meet, both, distances_from}
use Rattle.program_validity.specs.Untimed.{untimed_body}
use Rattle.program_validity.proofs.WellTimed.Distances.{one_more, no_more}
use Rattle.program_validity.proofs.well_timed.accesses.distances_between.Goals as goal

pub loop-index-preserved : goal.loop-index-preserved
loop-index-preserved c =
    let b = untimed_body c.args.body.now in
    let f = subscript_of b (sums_of b) c.args.from.now.guard in
    let g = subscript_of b (sums_of b) c.args.to.now.guard in
    let xs = take (subscript_count c.args.from.now.kind (length c.args.from.now.args.items)) c.args.from.now.args.items in
    let ys = take (subscript_count c.args.to.now.kind (length c.args.to.now.args.items)) c.args.to.now.args.items in
    let left : take c.subscript_count.result c.as_slice.result.now ≡ xs = ap₂ take c.subscript_count.ensures.value c.as_slice.ensures in
    let right : take c.subscript_count-2.result c.as_slice-2.result.now ≡ ys = ap₂ take c.subscript_count-2.ensures.value c.as_slice-2.ensures in
    let count = c.min-index-end.ensures ∙ ap₂ (λ (as_ bs : List Operand). min (length as_) (length bs)) left right in
    let i = c.loop-index.index in
    let d = c.loop-index.distances in
    let z : Operand = record { value = source.Constant 0; distance = 0 } in
    let one = c.subscript_of-one.ensures.value ∙ ap (λ zs. f (get_or zs i z)) left in
    let other = c.subscript_of-other.ensures.value ∙ ap (λ zs. g (get_or zs i z)) right in
    let next = c.both-distances.ensures ∙ ap (both d) (c.subscripts_meet.ensures ∙ ap₂ subscripts_meet one other) in
    ap (λ m. distances_from m (drop (i + 1) (map f xs)) (drop (i + 1) (map g ys))) next
    ∙ sym (one_more f g d xs ys i z z (omega (arith, count, c.loop-index-test.true)) (omega (arith, count, c.loop-index-test.true))) ∙ c.loop-index.invariant

pub returns : goal.returns
returns c =
    let b = untimed_body c.args.body.now in
    let f = subscript_of b (sums_of b) c.args.from.now.guard in
    let g = subscript_of b (sums_of b) c.args.to.now.guard in
    let xs = take (subscript_count c.args.from.now.kind (length c.args.from.now.args.items)) c.args.from.now.args.items in
    let ys = take (subscript_count c.args.to.now.kind (length c.args.to.now.args.items)) c.args.to.now.args.items in
    let left : take c.subscript_count.result c.as_slice.result.now ≡ xs = ap₂ take c.subscript_count.ensures.value c.as_slice.ensures in
    let right : take c.subscript_count-2.result c.as_slice-2.result.now ≡ ys = ap₂ take c.subscript_count-2.ensures.value c.as_slice-2.ensures in
    let count = c.min-index-end.ensures ∙ ap₂ (λ (as_ bs : List Operand). min (length as_) (length bs)) left right in
    sym (no_more f g c.loop-index.distances xs ys c.loop-index.index (omega (arith, count, c.loop-index-test.false))) ∙ c.loop-index.invariant
