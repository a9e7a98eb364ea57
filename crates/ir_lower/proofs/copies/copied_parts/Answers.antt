use Rattle.std.proofs.Common.{◌≡◌, ◌∙◌, ap, sym, refl, map, List, [], length, arith}
use Rattle.std.specs.Prelude.{reverse, if◌then◌else◌, ◌&&◌}
use Rattle.std.proofs.lemmas.List.{reverse-reverse}
use Rattle.ir_core.specs.declared.tree.Part.{Part}
use Rattle.ir_core.specs.Bodies.{op_of}
use Rattle.ir_core.specs.Trees.{shape_of, block_of, part_of, part_row}
use Rattle.ir_core.specs.declared.body.Op.{Op}
use Rattle.ir_core.specs.declared.body.Out.{Out}
use Rattle.ir_core.specs.declared.stamp.Untimed.{Untimed}
use Rattle.passes.specs.Lowering.Outs.{held}
use Rattle.passes.specs.Lowering.Copies.{copied_parts, fixed_behind_shape, with_ops, outs_set, parts_set, is_fixed}
use Rattle.block_draft.specs.Drafts.{scope_of}
use Rattle.ir_lower.specs.Copies.{is_in, fixed_of}
use Rattle.ir_lower.specs.Lines.{with_parts}
use Rattle.ir_lower.proofs.Rows.{row_none, no_items}
use Rattle.ir_lower.proofs.Copying.{Turned, turn}
use Rattle.ir_lower.proofs.copies.copied_parts.Goals as goal

pub behind-init : goal.behind-init
behind-init c =
    ap (λ (l : List Part). with_parts (map part_of l) (copied_parts (scope_of c.args.expanded.now) (is_in c.args.known.items) (part_row (map part_of (reverse c.reverse.new.self.items))))) c.new-parts.ensures.items
    ∙ ap (λ l. copied_parts (scope_of c.args.expanded.now) (is_in c.args.known.items) (part_row (map part_of l))) (ap reverse c.reverse.ensures.items ∙ reverse-reverse c.args.rest.items)

pub behind-preserved : goal.behind-preserved
behind-preserved c =
    let p = c.in-Some.part in
    let q : Part = record { shape = p.shape; after = c.in_ok-after.after } in
    let scope = scope_of c.args.expanded.now in
    let known = c.behind.known.items in
    let new = c.in_ok-known.known.items in
    let left = c.pop.new.self.items in
    let turned : Turned scope known new (shape_of p.shape) (block_of p.after) (block_of q.after) left = record {
      entered = c.in_ok-entered.entered.items;
      fixed = fixed_of c.in_ok-fixed.fixed;
      at_entry = λ v. c.in_ok-entered.ensures v ∙ ap (λ l. fixed_behind_shape (shape_of p.shape) (is_in l) v) c.deref.ensures.value;
      within = c.in_ok-fixed.ensures ∙ ap (λ (l : List (Op Untimed)). with_ops (record { variables = is_in c.in_ok-entered.entered.items; ops = [] }) (map op_of l)) c.deref-in-Some.ensures.value;
      behind = λ v.
          c.in_ok-known.ensures v
          ∙ ap (λ (l : List Out). if outs_set l v then parts_set (part_row (map part_of left)) v && is_fixed (fixed_of c.in_ok-fixed.fixed) (held l v) else is_in c.in_ok-fixed.fixed.variables.items v) c.deref-in-Some-2.ensures.value;
      copies = c.in_ok-after.ensures;
    } in
    turn scope _ known new p q c.behind.parts.items c.push.new.self.items c.behind.left.items left c.in-Some.ensures.items c.in_ok-push.ensures.items refl turned c.behind.invariant

pub returns : goal.returns
returns c =
    let ok = c.behind.left.ok in
    let nothing : length c.behind.left.items ≡ 0 = grind (arith, ok, c.pop.ensures.variant, c.pop.ensures.cases) in
    let none = no_items c.behind.left.items nothing in
    row_none (map part_of c.behind.parts.items) ∙ ap (λ (l : List Part). with_parts (map part_of c.behind.parts.items) (copied_parts (scope_of c.args.expanded.now) (is_in c.behind.known.items) (part_row (map part_of (reverse l))))) (sym none) ∙ c.behind.invariant
