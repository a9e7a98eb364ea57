use Rattle.std.proofs.Common.{◌≡◌, ◌≤◌, vec_len, drop}
use Rattle.pieces.specs.View.{pure_of, pures_of}
use Rattle.pieces.specs.declared.pure_expr.Pure.{size-Pure}
use Rattle.passes.specs.Lowering.Expressions.{emitted, emitted_all}
use Rattle.block_draft.specs.Views.{ops_of, guards_of, evaluated_of}
use Rattle.block_draft.specs.Operators.{unwound, with_front}
use Rattle.block_draft.proofs.Sizes.{AllWithin}
use Rattle.block_draft.proofs.expression.+expression.Given as goal

abbrev pub invariant-emit-inner : goal.invariant-emit-inner
invariant-emit-inner l = record {
  no_deeper : size-Pure l.part ≤ size-Pure l.fn.pure;
  within : AllWithin (size-Pure l.fn.pure) l.behind.items;
  whole : unwound l.outs l.behind.items (emitted l.outs (pure_of l.part) (ops_of l.ops) (guards_of l.guards.items)) ≡ emitted l.outs (pure_of l.fn.pure) (ops_of l.ops) (guards_of l.guards.items);
}

abbrev pub invariant-emit-outer : goal.invariant-emit-outer
invariant-emit-outer l = record {
  within : AllWithin (size-Pure l.fn.pure) l.behind.items;
  whole : unwound l.outs l.behind.items (evaluated_of l.ops l.guards.items l.given) ≡ emitted l.outs (pure_of l.fn.pure) (ops_of l.fn.ops) (guards_of l.fn.guards.items);
}

abbrev pub decreases-emit-outer : goal.decreases-emit-outer
decreases-emit-outer l = vec_len l.behind

abbrev pub invariant-emit_all-loop-pure : goal.invariant-emit_all-loop-pure
invariant-emit_all-loop-pure l =
    with_front l.args.items (emitted_all l.outs (pures_of (drop l.pure-index l.pures.items)) (ops_of l.ops) (guards_of l.guards.items))
    ≡ emitted_all l.outs (pures_of l.pures.items) (ops_of l.initial.ops) (guards_of l.initial.guards.items)
