use Rattle.std.proofs.Common.{◌∙◌, ap, sym, map, List, []}
use Rattle.ir_core.specs.declared.tree.Sequence.{out-Sequence}
use Rattle.ir_core.specs.Trees.{block_of, part_of, part_row}
use Rattle.std.specs.Prelude.{if◌then◌else◌, ◌&&◌}
use Rattle.ir_core.specs.declared.body.Op.{Op}
use Rattle.ir_core.specs.declared.body.Out.{Out}
use Rattle.ir_core.specs.declared.stamp.Untimed.{Untimed}
use Rattle.ir_core.specs.Bodies.{op_of}
use Rattle.passes.specs.Lowering.Outs.{held}
use Rattle.passes.specs.Lowering.Copies.{copied, with_ops, outs_set, parts_set, is_fixed}
use Rattle.block_draft.specs.Drafts.{scope_of}
use Rattle.ir_lower.specs.Copies.{is_in, fixed_of}
use Rattle.ir_lower.proofs.Rows.{sequence_out, sequence_rolled}
use Rattle.ir_lower.proofs.Copying.{body_copied}
use Rattle.ir_lower.proofs.copies.with_copies.Goals as goal

pub returns : goal.returns
returns c =
    let s = out-Sequence c.args.body in
    let scope = scope_of c.args.expanded.now in
    sequence_rolled c.in_ok-first.first c.in_ok-rest.rest
    ∙ body_copied scope (block_of s.first) (part_row (map part_of s.rest.items)) (block_of c.in_ok-first.first) (part_row (map part_of c.in_ok-rest.rest.items)) c.new-none.result.items c.in_ok-known.known.items (fixed_of c.in_ok-fixed.fixed)
    c.new-none.ensures.items (c.in_ok-fixed.ensures ∙ ap (λ (l : List (Op Untimed)). with_ops (record { variables = is_in c.new-none.result.items; ops = [] }) (map op_of l)) c.deref.ensures.value)
    (λ v. c.in_ok-known.ensures v ∙ ap (λ (l : List Out). if outs_set l v then parts_set (part_row (map part_of s.rest.items)) v && is_fixed (fixed_of c.in_ok-fixed.fixed) (held l v) else is_in c.in_ok-fixed.fixed.variables.items v) c.deref-2.ensures.value) c.in_ok-first.ensures c.in_ok-rest.ensures
    ∙ sym (ap (copied scope) (sequence_out c.args.body))
