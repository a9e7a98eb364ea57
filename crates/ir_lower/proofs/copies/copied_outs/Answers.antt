use Rattle.std.proofs.Common.{◌∙◌, ◌≤◌, ap, sym, subst, map, List, length}
use Rattle.std.proofs.lemmas.List.{drop_all}
use Rattle.ir_core.specs.declared.body.Out.{Out}
use Rattle.ir_core.specs.Trees.{part_of, part_row}
use Rattle.passes.specs.Lowering.Copies.{copied_outs}
use Rattle.block_draft.specs.Drafts.{scope_of}
use Rattle.ir_lower.specs.Copies.{fixed_of, copied_of}
use Rattle.ir_lower.proofs.copies.copied_outs.Goals as goal

pub returns : goal.returns
returns c =
    let outs = c.args.outs.now.items in
    let past : length outs ≤ c.loop-out.out-index = subst (λ (l : List Out). length l ≤ c.loop-out.out-index) c.deref-out-items.ensures.value c.loop-out-test.false in
    ap (copied_outs (scope_of c.args.expanded.now) (part_row (map part_of c.args.later.now.items)) (fixed_of c.args.fixed.now) (copied_of c.loop-out.copied)) (sym (drop_all c.loop-out.out-index outs past)) ∙ c.loop-out.invariant
