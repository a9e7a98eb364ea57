-- Operators in a row: what the next one comes to, from what its left operand comes to.
use Rattle.std.proofs.Common.{◌≡◌, ◌<◌, ◌-◌, ℕ, zero, suc, refl, ◌∙◌, sym, ap, Box, Global, arith}
use Rattle.hls_base.specs.declared.place.Place.{Place}
use Rattle.c_token.specs.declared.ctype.CType.{CType}
use Rattle.c_tree.specs.declared.operator.Binary.{Binary}
use Rattle.c_tree.specs.declared.expression.Expr.{Expr}
use Rattle.c_tree.specs.declared.expression.Expr.TheVariants as e
use Rattle.c_tree.specs.declared.expression.Expr.TheOpen.{Expr-F}
use Rattle.c_tree.specs.declared.expression.Expr.TheFolds.{fold-roll-Expr}
use Rattle.c_tree.specs.declared.expression.Expr.TheViews.{out-Expr, roll-Expr, roll-out-Expr}
use Rattle.c_tree.specs.declared.expression.Target.{Target}
use Rattle.c_tree.specs.Tree as tree
use Rattle.c_tree.specs.Tree.{Tree, TargetTree}
use Rattle.c_tree.specs.View.{tree_of, tree_step, target_step}
use Rattle.c_value.specs.Operators.{Computed, binary_kind}
use Rattle.c_value.specs.Constant.{then_compute, operated, constant_kind, constant_number}
use Rattle.c_value.specs.Chains.{left_of, left_at}

binary_tree : (op : Binary) (l r : Box Expr Global) (at : Place) → tree_of (e.Binary op l r at) ≡ tree.binary op (tree_of l.value) (tree_of r.value) at
binary_tree op l r at = ap tree_of (sym (e.rolls-Binary op l r at)) ∙ fold-roll-Expr Tree TargetTree tree_step target_step (Expr-F.Binary op l r at)

pub one_less : (t : Tree) (d : ℕ) → 0 < d → left_at d t ≡ left_of (left_at (d - 1) t)
one_less t zero lt = absurd (omega (arith, lt))
one_less t (suc d) lt = let same : d ≡ suc d - 1 = omega arith in ap (λ n. left_of (left_at n t)) same

-- ---- where no operator stands, what is left of it is the expression itself

abbrev IsOther : Expr-F Expr Target → Type 0
IsOther x = (op : Binary) → (l : Box Expr Global) → (r : Box Expr Global) → (at : Place) → x ≡ Expr-F.Binary op l r at → ⊥

unchanged : (x : Expr-F Expr Target) (u : Tree) → tree_of (roll-Expr x) ≡ u → left_of u ≡ u → left_of (tree_of (roll-Expr x)) ≡ tree_of (roll-Expr x)
unchanged x u is same = ap left_of is ∙ same ∙ sym is

by_layer : (x : Expr-F Expr Target) → IsOther x → left_of (tree_of (roll-Expr x)) ≡ tree_of (roll-Expr x)
by_layer (Expr-F.Binary op l r at) other = absurd (other op l r at refl)
by_layer (Expr-F.Number value kind at) other = unchanged (Expr-F.Number value kind at) _ (fold-roll-Expr Tree TargetTree tree_step target_step (Expr-F.Number value kind at)) refl
by_layer (Expr-F.Name text at) other = unchanged (Expr-F.Name text at) _ (fold-roll-Expr Tree TargetTree tree_step target_step (Expr-F.Name text at)) refl
by_layer (Expr-F.Index array subscripts at) other = unchanged (Expr-F.Index array subscripts at) _ (fold-roll-Expr Tree TargetTree tree_step target_step (Expr-F.Index array subscripts at)) refl
by_layer (Expr-F.Call callee args at) other = unchanged (Expr-F.Call callee args at) _ (fold-roll-Expr Tree TargetTree tree_step target_step (Expr-F.Call callee args at)) refl
by_layer (Expr-F.Unary op arg at) other = unchanged (Expr-F.Unary op arg at) _ (fold-roll-Expr Tree TargetTree tree_step target_step (Expr-F.Unary op arg at)) refl
by_layer (Expr-F.Choice test l r at colon) other = unchanged (Expr-F.Choice test l r at colon) _ (fold-roll-Expr Tree TargetTree tree_step target_step (Expr-F.Choice test l r at colon)) refl
by_layer (Expr-F.Cast to arg at) other = unchanged (Expr-F.Cast to arg at) _ (fold-roll-Expr Tree TargetTree tree_step target_step (Expr-F.Cast to arg at)) refl
by_layer (Expr-F.Assign t op value at) other = unchanged (Expr-F.Assign t op value at) _ (fold-roll-Expr Tree TargetTree tree_step target_step (Expr-F.Assign t op value at)) refl
by_layer (Expr-F.Bump t up post at) other = unchanged (Expr-F.Bump t up post at) _ (fold-roll-Expr Tree TargetTree tree_step target_step (Expr-F.Bump t up post at)) refl
by_layer (Expr-F.Comma l r at) other = unchanged (Expr-F.Comma l r at) _ (fold-roll-Expr Tree TargetTree tree_step target_step (Expr-F.Comma l r at)) refl

pub no_operator : (node : Expr) → ((op : Binary) → (l : Box Expr Global) → (r : Box Expr Global) → (at : Place) → node ≡ e.Binary op l r at → ⊥) → left_of (tree_of node) ≡ tree_of node
no_operator node other =
    let rolled = roll-out-Expr node in
    ap (λ z. left_of (tree_of z)) (sym rolled)
    ∙ by_layer (out-Expr node) (λ op l r at is. other op l r at (sym rolled ∙ ap roll-Expr is ∙ e.rolls-Binary op l r at))
    ∙ ap tree_of rolled

-- ---- one operator more

abbrev pub combined : Binary → CType → Computed → CType → Computed → Computed
combined op left x right y = then_compute x (λ n. operated op left n right y)

combined_same : (op : Binary) (k k' : CType) (x x' : Computed) (q q' : CType) (y y' : Computed) → k ≡ k' → x ≡ x' → q ≡ q' → y ≡ y' → combined op k x q y ≡ combined op k' x' q' y'
combined_same op k k' x x' q q' y y' a b c d = ap (λ z. combined op z x q y) a ∙ ap (λ z. combined op k' z q y) b ∙ ap (λ z. combined op k' x' z y) c ∙ ap (λ z. combined op k' x' q' z) d

module _ (t : Tree) (d : ℕ) (node : Expr) (op : Binary) (l r : Box Expr Global) (at : Place) (lt : 0 < d) (here : tree_of node ≡ left_at (d - 1) t) (is : node ≡ e.Binary op l r at) where
  pub as_binary : left_at (d - 1) t ≡ tree.binary op (tree_of l.value) (tree_of r.value) at
  as_binary = sym here ∙ ap tree_of is ∙ binary_tree op l r at

  pub as_left : left_at d t ≡ tree_of l.value
  as_left = one_less t d lt ∙ ap left_of as_binary

  pub next_kind : (k k' : CType) → k ≡ constant_kind (left_at d t) → k' ≡ constant_kind (tree_of r.value) → binary_kind op k k' ≡ constant_kind (left_at (d - 1) t)
  next_kind k k' p q =
      ap (λ z. binary_kind op z k') (p ∙ ap constant_kind as_left) ∙ ap (binary_kind op (constant_kind (tree_of l.value))) q ∙ sym (ap constant_kind as_binary)

  pub next_number : (k k' : CType) (x y : Computed) → k ≡ constant_kind (left_at d t) → k' ≡ constant_kind (tree_of r.value) → x ≡ constant_number (left_at d t) → y ≡ constant_number (tree_of r.value)
      → combined op k x k' y ≡ constant_number (left_at (d - 1) t)
  next_number k k' x y p q a b =
      combined_same op k _ x _ k' _ y _ (p ∙ ap constant_kind as_left) (a ∙ ap constant_number as_left) q b ∙ sym (ap constant_number as_binary)
