use Rattle.std.proofs.Common.{◌≡◌, ◌<◌, ◌∙◌, ◌++◌, ap, sym, subst, arith, map, [], ◌∷◌, append_assoc, length, length-append, false, slice_index_or}
use Rattle.std.proofs.lemmas.List.{length-map, map-append}
use Rattle.ir_core.specs.Bodies.{op_of}
use Rattle.passes.specs.Numbering.{numbered_with, numbered_ops, nothing, makes_out}
use Rattle.passes.proofs.Growing.{numbered_more, counts}
use Rattle.value_number.specs.Views.{Shows, scope_of, value_of}
use Rattle.value_number.proofs.block.number_ops.Goals as goal

pub loop-op-preserved : goal.loop-op-preserved
loop-op-preserved c =
    let scope = scope_of c.args.scope in
    let outs = c.args.outs.now in
    let s = numbered_ops scope outs nothing (map op_of c.loop-op.yielded) in
    let one = length-map c.loop-op.numbering.values.items value_of in
    let other = ap length c.loop-op.invariant.shows.values in
    let count : c.len-in-loop-op.result ≡ length s.values = omega (arith, c.len-in-loop-op.ensures, one, other) in
    let rest =
    append_assoc c.loop-op.yielded (c.in-Some.op ∷ []) c.next.new.self.rest.items
    ∙ (ap (λ l. c.loop-op.yielded ++ l) (sym c.in-Some.ensures.steps.0) ∙ c.loop-op.invariant.rest) in
    let every = counts scope outs nothing (map op_of c.loop-op.yielded) in
    let passed = length-map c.loop-op.yielded op_of in
    let all = ap length (sym c.loop-op.invariant.rest) ∙ (ap (λ l. length (c.loop-op.yielded ++ l)) c.in-Some.ensures.steps.0 ∙ length-append c.loop-op.yielded (c.in-Some.op ∷ c.next.new.self.rest.items)) in
    let low : c.len-in-loop-op.result < c.len.result = omega (arith, count, every, passed, all, c.len.ensures) in
    let flag = c.is_marked-is_out.ensures ∙ (ap (λ marks. slice_index_or marks c.len-in-loop-op.result false) c.deref.ensures.value ∙ (c.in_ok-marks.ensures c.len-in-loop-op.result low ∙ ap (makes_out outs) count)) in
    record {
      settled = c.in_ok-number_op.ensures.settled c.loop-op.invariant.settled;
      rest = rest;
      shows =
          subst (Shows c.number_op.new.self)
          (ap (numbered_with scope s (op_of c.in-Some.op)) flag ∙ sym (numbered_more scope outs nothing (map op_of c.loop-op.yielded) (op_of c.in-Some.op))
          ∙ ap (numbered_ops scope outs nothing) (sym (map-append op_of c.loop-op.yielded (c.in-Some.op ∷ []))))
          (c.in_ok-number_op.ensures.shows s c.loop-op.invariant.shows);
    }
