use Rattle.std.proofs.Common.{◌∙◌, ap, arith, length, []}
use Rattle.std.proofs.lemmas.Bool.{lt-ltb, le-ltb}
use Rattle.pieces.specs.View.{pure_of}
use Rattle.passes.specs.Lowering.Outs.{with_out}
use Rattle.passes.specs.Lowering.Expressions.{emitted}
use Rattle.passes.specs.Lowering.Blocks.{given_as, set_to}
use Rattle.block_draft.specs.Views.{ops_of, made}
use Rattle.block_draft.specs.Drafts.{scope_of, open_at}
use Rattle.block_draft.proofs.Drafting.{set_there, set_missing}
use Rattle.block_draft.proofs.draft.Draft.set.Goals as goal

pub returns-in_ok-self : goal.returns-in_ok-self
returns-in_ok-self c = λ point exit.
    let d = c.args.self.now in
    let b = open_at point exit d in
    let v = c.args.variable in
    let scope = scope_of c.args.expanded.now in
    let x = made c.emit_as.new.ops c.in_ok-operand.operand in
    let ok = c.args.expanded.now.variables.ok in
    set_there scope v b x c.in_ok-self.field-0 (lt-ltb v.0 (length c.args.expanded.now.variables.items) (omega (arith, ok, c.len.ensures, c.if-variable-len.true)))
    (c.in_ok-self.ensures ∙ ap (λ o. with_out o v c.in_ok-operand.operand) c.replace-outs.ensures.value)
    ∙ ap (set_to scope v b) (c.in_ok-operand.ensures ∙ ap (λ k. given_as k (emitted d.outs (pure_of c.args.value.now) (ops_of d.ops) [])) c.variable_kind-kind.ensures)

pub returns-else-variable-len : goal.returns-else-variable-len
returns-else-variable-len c = λ point exit.
    let d = c.args.self.now in
    let b = open_at point exit d in
    let v = c.args.variable in
    let scope = scope_of c.args.expanded.now in
    let x = made c.emit_as.new.ops c.in_ok-operand.operand in
    let ok = c.args.expanded.now.variables.ok in
    set_missing scope v b x (le-ltb v.0 (length c.args.expanded.now.variables.items) (omega (arith, ok, c.len.ensures, c.if-variable-len.false)))
    ∙ ap (set_to scope v b) (c.in_ok-operand.ensures ∙ ap (λ k. given_as k (emitted d.outs (pure_of c.args.value.now) (ops_of d.ops) [])) c.variable_kind-kind.ensures)
