use Rattle.std.proofs.Common.{◌∙◌, ◌≡◌, min, true, ◌&&◌, length, drop, map, ap, ap₂, sym, arith}
use Rattle.std.proofs.lemmas.List.{drop-map, take_rest}
use Rattle.ir_core.specs.Bodies.{op_of}
use Rattle.ir_core.specs.TreeRuns.{tested_by}
use Rattle.passes.specs.Conversion.Overlapping.{none_needs_guard}
use Rattle.if_convert.proofs.Rows.{counted, behind_first}
use Rattle.if_convert.proofs.overlap.is_test.Goals as goal

pub returns-then-is_empty : goal.returns-then-is_empty
returns-then-is_empty c =
    let ops = c.args.block.now.ops in
    let ok = ops.ok in
    let few = c.len.ensures in
    let least = c.min-behind.ensures in
    let found = c.tested_by.ensures in
    let there = c.deref.ensures.value in
    let first : c.min-behind.result ≡ min (tested_by c.args.test.value) (length ops.items) = omega (arith, ok, few, least, found) in
    c.none_needs_guard.ensures
    ∙ ap (λ l. none_needs_guard (map op_of l)) (take_rest c.deref.result.now c.min-behind.result)
    ∙ ap₂ (λ n l. none_needs_guard (map op_of (drop n l))) first there
    ∙ ap (λ l. none_needs_guard (map op_of l)) (behind_first (tested_by c.args.test.value) ops.items)
    ∙ ap none_needs_guard (sym (drop-map op_of (tested_by c.args.test.value) ops.items))
    ∙ sym (ap (λ b. b && none_needs_guard (drop (tested_by c.args.test.value) (map op_of ops.items))) (counted c.args.block.now.outs true (sym c.is_empty.ensures ∙ c.if-is_empty.true)))
