use Rattle.std.proofs.Common.{◌≡◌, ◌∙◌, ◌++◌, [], ◌∷◌, sym, ap, arith}
use Rattle.c_tree.specs.View.{tree_of}
use Rattle.c_tree.specs.declared.expression.Expr.{size-Expr}
use Rattle.c_tree.specs.declared.expression.Expr.TheViews.{sized-Binary}
use Rattle.c_machine.specs.Waiting.Chains.{around}
use Rattle.c_moves.specs.Machines.{configuration_of}
use Rattle.c_machine.specs.Moves.{kind_here}
use Rattle.c_machine.specs.declared.waiting.chain.Operator.{Operator}
use Rattle.c_machine.proofs.WaitingLemmas.OperatorChains.{binary_around}
use Rattle.c_moves.proofs.machine.Machine.+kind_here.Goals as goal

-- src/machine/operand.rt:124:9
pub chain-preserved-in-Binary : goal.chain-preserved-in-Binary
chain-preserved-in-Binary t c =
    let m = configuration_of c.args.self.now in
    let before = c.chain.operators.items in
    let after = c.push.new.self.items in
    let right = c.in_ok-right-in-Binary.right in
    let last : Operator = record { op = c.in-Binary.op; right = right } in
    let grown : after ≡ before ++ last ∷ [] = grind arith in
    record {
      no_deeper = omega (arith, c.chain.invariant.no_deeper, ap size-Expr c.deref-part.ensures, ap size-Expr c.in-Binary.is, sized-Binary c.in-Binary.op c.in-Binary.left c.in-Binary.right c.in-Binary.at);
      whole = ap (λ x. around after (kind_here m (tree_of x))) c.deref-part.ensures
          ∙ binary_around m before after _ right c.in-Binary.op c.in-Binary.left c.in-Binary.right c.in-Binary.at
          (c.in_ok-right-in-Binary.ensures ∙ ap (λ x. kind_here m (tree_of x)) c.deref.ensures) grown
          (ap (λ x. around before (kind_here m (tree_of x))) (sym c.in-Binary.is) ∙ c.chain.invariant.whole);
    }
