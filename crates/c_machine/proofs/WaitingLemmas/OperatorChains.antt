-- Chains of operators: one operator more.
use Rattle.std.proofs.Common.{◌≡◌, ◌∙◌, refl, sym, ap, List, [], ◌∷◌, ◌++◌, Box, Global}
use Rattle.hls_base.specs.declared.place.Place.{Place}
use Rattle.c_token.specs.declared.ctype.CType.{CType}
use Rattle.c_tree.specs.declared.operator.Binary.{Binary}
use Rattle.c_tree.specs.declared.expression.Expr.{Expr}
use Rattle.c_tree.specs.declared.expression.Expr.TheVariants as e
use Rattle.c_tree.specs.declared.expression.Expr.TheOpen.{Expr-F}
use Rattle.c_tree.specs.declared.expression.Expr.TheFolds.{fold-roll-Expr}
use Rattle.c_tree.specs.Tree as tree
use Rattle.c_tree.specs.Tree.{Tree, TargetTree}
use Rattle.c_tree.specs.View.{tree_of, tree_step, target_step}
use Rattle.c_value.specs.Operators.{binary_kind}
use Rattle.c_machine.specs.Frames.{Configuration}
use Rattle.c_machine.specs.Moves.{kind_here}
use Rattle.c_machine.specs.declared.waiting.chain.Operator.{Operator}
use Rattle.c_machine.specs.Waiting.Chains.{around}

pub around_more : (os : List Operator) (o : Operator) (kind : CType) → around (os ++ o ∷ []) kind ≡ around os (binary_kind o.op kind o.right)
around_more [] o kind = refl
around_more (first ∷ os) o kind = ap (λ k. binary_kind first.op k first.right) (around_more os o kind)

binary_tree : (op : Binary) (l r : Box Expr Global) (at : Place) → tree_of (e.Binary op l r at) ≡ tree.binary op (tree_of l.value) (tree_of r.value) at
binary_tree op l r at = ap tree_of (sym (e.rolls-Binary op l r at)) ∙ fold-roll-Expr Tree TargetTree tree_step target_step (Expr-F.Binary op l r at)

pub binary_around : (m : Configuration) (before after : List Operator) (total right : CType) (op : Binary) (l r : Box Expr Global) (at : Place) → right ≡ kind_here m (tree_of r.value)
    → after ≡ before ++ record { op = op; right = right } ∷ [] → around before (kind_here m (tree_of (e.Binary op l r at))) ≡ total → around after (kind_here m (tree_of l.value)) ≡ total
binary_around m before after total right op l r at is grown whole =
    let left = kind_here m (tree_of l.value) in
    ap (λ os. around os left) grown ∙ around_more before (record { op = op; right = right }) left
    ∙ ap (λ k. around before (binary_kind op left k)) is
    ∙ sym (ap (λ t. around before (kind_here m t)) (binary_tree op l r at))
    ∙ whole
