use Rattle.std.proofs.Common.{◌≡◌, ◌∙◌, length, arith}
use Rattle.pieces.specs.Resolved.CoreView.{core_function_of}
use Rattle.piece_making.proofs.Exits.{through}
use Rattle.piece_making.proofs.Parts.{made_behind, nothing_made, heavy_at_once, heavy_behind}
use Rattle.c_expand.proofs.Leading.{made_as, heavy_as}
use Rattle.c_expand.proofs.Calling.{as_outermost}
use Rattle.c_expand.proofs.expand.top_call.Goals as goal

pub returns-in_err-run_through-clause-refused : goal.returns-in_err-run_through-clause-refused
returns-in_err-run_through-clause-refused c =
    let count : c.len-calls.result ≡ length c.args.context.now.core.now.functions.items = let is = c.len-calls.ensures in let same = c.args.context.now.core.now.functions.ok in omega arith in
    through _ c.in_err-run_through.field-0.0 _ _ c.from_residual-in_err-run_through.ensures.1 (λ y e. e) c.in_err-run_through.ensures.refused
    (λ r h. heavy_behind _ _ _ _ _ _ c.in_ok-call.ensures (heavy_behind _ _ _ _ _ _ c.in_ok-result.ensures
    (heavy_at_once _ _ _ _ (heavy_as _ _ _ _ (as_outermost c.args.context.now _ (core_function_of c.args.top.now) c.args.homes.items _ _ _ _ count (c.new-2.ensures ∙ c.new.ensures.items)) h))))

pub returns-clause-made : goal.returns-clause-made
returns-clause-made c =
    let count : c.len-calls.result ≡ length c.args.context.now.core.now.functions.items = let is = c.len-calls.ensures in let same = c.args.context.now.core.now.functions.ok in omega arith in
    made_behind _ _ _ _ _ _ _ c.in_ok-call.ensures (made_behind _ _ _ _ _ _ _ c.in_ok-result.ensures
    (made_behind _ _ _ _ _ _ _ (made_as _ _ _ _ _ (as_outermost c.args.context.now _ (core_function_of c.args.top.now) c.args.homes.items _ _ _ _ count (c.new-2.ensures ∙ c.new.ensures.items)) c.in_ok-run_through.ensures.made) (nothing_made _ _)))
