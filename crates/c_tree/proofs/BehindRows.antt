-- What is left of an expression behind an operand: one part more, and one operand further in.
use Rattle.std.proofs.Common.{◌≡◌, ◌≤◌, ◌∙◌, ℕ, ◌+◌, max, nat_le, Box, Vec, Global, sym, refl, ap, Bool, true, false, List, [], ◌∷◌, ◌++◌, Option, append_assoc, append-nil, arith}
use Rattle.std.proofs.lemmas.Bool.{le-leb}
use Rattle.std.specs.Borrow.{Bor}
use Rattle.hls_base.specs.declared.place.Place.{Place}
use Rattle.c_token.specs.declared.ctype.CType.{CType}
use Rattle.c_token.specs.declared.punct.Punct.TheVariants as p
use Rattle.c_token.specs.declared.token.TokenKind.TheVariants as k
use Rattle.c_tree.specs.declared.operator.Unary.{Unary}
use Rattle.c_tree.specs.declared.operator.Binary.{Binary}
use Rattle.c_tree.specs.declared.expression.Expr.{Expr, size-Expr}
use Rattle.c_tree.specs.declared.expression.Expr.TheVariants as e
use Rattle.c_tree.specs.declared.expression.Expr.TheOpen.{Expr-F}
use Rattle.c_tree.specs.declared.expression.Expr.TheFolds.{fold-roll-Expr}
use Rattle.c_tree.specs.declared.expression.Target.{Target}
use Rattle.c_tree.specs.View.{tree_of, target_of, trees_of, tree_step, target_step}
use Rattle.c_tree.specs.declared.print.row.Written.TheVariants as w
use Rattle.c_tree.specs.declared.print.behind.Behind.{Behind}
use Rattle.c_tree.specs.declared.print.behind.Behind.TheVariants as b
use Rattle.c_tree.specs.Behind.{opening, closing, part_row, behind_row, branch_row, cast_row, bump_row, call_row}
use Rattle.c_tree.specs.Grammar.{level_of, unary_level, binary_level, choice_level, assign_level, comma_level}
use Rattle.c_tree.specs.Rows.{Row, grouped, own_level, kind_row, subscripts_row, sign, word, prefix_sign, assignment_sign, infix_row, target_row, own_row, expression_row}
use Rattle.c_tree.specs.Tree as tree
use Rattle.c_tree.specs.Tree.{Tree, TargetTree}
use Rattle.c_tree.proofs.Productions.{operator_level}

-- ---- one part more

pub behind_more : (parts : List Behind) (part : Behind) → behind_row (parts ++ part ∷ []) ≡ part_row part ++ behind_row parts
behind_more [] part = sym (append-nil (part_row part))
behind_more (first ∷ parts) part = ap (λ row. row ++ part_row first) (behind_more parts part) ∙ append_assoc (part_row part) (behind_row parts) (part_row first)

-- how deep the operands are that are left
abbrev pub weight : Behind → ℕ
weight b.Closing = 0
weight (b.Operator op right) = size-Expr right.now + 1
weight (b.Comma right) = size-Expr right.now + 1

abbrev pub deepest : List Behind → ℕ
deepest [] = 0
deepest (part ∷ parts) = max (weight part) (deepest parts)

pub deepest_more : (parts : List Behind) (part : Behind) → deepest (parts ++ part ∷ []) ≡ max (deepest parts) (weight part)
deepest_more [] part = omega arith
deepest_more (first ∷ parts) part = omega (arith, deepest_more parts part)

pub closing_weight : (parts : List Behind) (tight : Bool) → deepest (parts ++ closing tight) ≡ deepest parts
closing_weight parts true = ap deepest (append-nil parts)
closing_weight parts false = omega (arith, deepest_more parts b.Closing)

-- the part that comes first is taken away
pub taken : (before after all : Row) (part : Behind) (parts left : List Behind) → parts ≡ left ++ part ∷ [] → after ≡ before ++ part_row part → before ++ behind_row parts ≡ all → after ++ behind_row left ≡ all
taken before after all part parts left e f whole =
    ap (λ row. row ++ behind_row left) f ∙ append_assoc before (part_row part) (behind_row left)
    ∙ ap (λ row. before ++ row) (sym (behind_more left part) ∙ ap behind_row (sym e)) ∙ whole

-- ---- one operand further in

-- the parentheses around an operand
pub opened : (tight : Bool) (own before after : Row) (parts more : List Behind) → after ≡ before ++ opening tight → more ≡ parts ++ closing tight
    → after ++ (own ++ behind_row more) ≡ before ++ (grouped tight own ++ behind_row parts)
opened true own before after parts more e f =
    ap (λ row. row ++ (own ++ behind_row more)) (e ∙ append-nil before) ∙ ap (λ ps. before ++ (own ++ behind_row ps)) (f ∙ append-nil parts)
opened false own before after parts more e f =
    ap (λ row. row ++ (own ++ behind_row more)) e
    ∙ append_assoc before (sign p.LeftParen ∷ []) (own ++ behind_row more)
    ∙ ap (λ row. before ++ sign p.LeftParen ∷ (own ++ row)) (ap behind_row f ∙ behind_more parts b.Closing)
    ∙ ap (λ row. before ++ sign p.LeftParen ∷ row) (sym (append_assoc own (sign p.RightParen ∷ []) (behind_row parts)))

pub chain_opened : (part : Tree) (level own : ℕ) (before after all : Row) (parts more : List Behind) → own ≡ own_level part → after ≡ before ++ opening (nat_le own level) → more ≡ parts ++ closing (nat_le own level)
    → before ++ (expression_row level part ++ behind_row parts) ≡ all → after ++ (own_row part ++ behind_row more) ≡ all
chain_opened part level own before after all parts more is e f whole =
    let tight : nat_le own level ≡ nat_le (own_level part) level = ap (λ n. nat_le n level) is in
    opened (nat_le (own_level part) level) (own_row part) before after parts more (e ∙ ap (λ t. before ++ opening t) tight) (f ∙ ap (λ t. parts ++ closing t) tight) ∙ whole

-- an operand at the front, with more behind it
fronted : (before inner own all : Row) (part : Behind) (parts more : List Behind) → more ≡ parts ++ part ∷ [] → own ≡ inner ++ part_row part → before ++ (own ++ behind_row parts) ≡ all → before ++ (inner ++ behind_row more) ≡ all
fronted before inner own all part parts more f is whole =
    ap (λ row. before ++ (inner ++ row)) (ap behind_row f ∙ behind_more parts part)
    ∙ ap (λ row. before ++ row) (sym (append_assoc inner (part_row part) (behind_row parts)) ∙ ap (λ row. row ++ behind_row parts) (sym is))
    ∙ whole

-- an operand at the end, with more before it
ended : (before after head inner own all : Row) (parts : List Behind) → after ≡ before ++ head → own ≡ head ++ inner → before ++ (own ++ behind_row parts) ≡ all → after ++ (inner ++ behind_row parts) ≡ all
ended before after head inner own all parts f is whole =
    ap (λ row. row ++ (inner ++ behind_row parts)) f
    ∙ append_assoc before head (inner ++ behind_row parts)
    ∙ ap (λ row. before ++ row) (sym (append_assoc head inner (behind_row parts)) ∙ ap (λ row. row ++ behind_row parts) (sym is))
    ∙ whole

module _ (before all : Row) (parts : List Behind) (part : Expr) (whole : before ++ (own_row (tree_of part) ++ behind_row parts) ≡ all) where
  in_place : (t : Tree) → tree_of part ≡ t → before ++ (own_row t ++ behind_row parts) ≡ all
  in_place t is = ap (λ x. before ++ (own_row x ++ behind_row parts)) (sym is) ∙ whole

  pub binary_in : (op : Binary) (l r : Box Expr Global) (at : Place) (level : ℕ) (left : Expr) (right : Bor Expr) (more : List Behind) → part ≡ e.Binary op l r at → level ≡ level_of op → left ≡ l.value → right.now ≡ r.value
      → more ≡ parts ++ b.Operator op right ∷ [] → before ++ (expression_row level (tree_of left) ++ behind_row more) ≡ all
  binary_in op l r at level left right more is m g h f =
      let t : tree_of part ≡ tree.binary op (tree_of left) (tree_of right.now) at = ap tree_of (is ∙ sym (e.rolls-Binary op l r at)) ∙ fold-roll-Expr Tree TargetTree tree_step target_step (Expr-F.Binary op l r at)
      ∙ ap (λ x. tree.binary op (tree_of x) (tree_of r.value) at) (sym g) ∙ ap (λ x. tree.binary op (tree_of left) (tree_of x) at) (sym h) in
      ap (λ n. before ++ (expression_row n (tree_of left) ++ behind_row more)) m
      ∙ fronted before (expression_row (level_of op) (tree_of left)) _ all (b.Operator op right) parts more f refl (in_place _ t)

  pub comma_in : (l r : Box Expr Global) (at : Place) (left : Expr) (right : Bor Expr) (more : List Behind) → part ≡ e.Comma l r at → left ≡ l.value → right.now ≡ r.value
      → more ≡ parts ++ b.Comma right ∷ [] → before ++ (expression_row comma_level (tree_of left) ++ behind_row more) ≡ all
  comma_in l r at left right more is g h f =
      let t : tree_of part ≡ tree.comma (tree_of left) (tree_of right.now) at = ap tree_of (is ∙ sym (e.rolls-Comma l r at)) ∙ fold-roll-Expr Tree TargetTree tree_step target_step (Expr-F.Comma l r at)
      ∙ ap (λ x. tree.comma (tree_of x) (tree_of r.value) at) (sym g) ∙ ap (λ x. tree.comma (tree_of left) (tree_of x) at) (sym h) in
      fronted before (expression_row comma_level (tree_of left)) _ all (b.Comma right) parts more f refl (in_place _ t)

  pub assign_in : (u : Target) (op : Option Binary) (v : Box Expr Global) (at : Place) (value : Expr) (middle after : Row) → part ≡ e.Assign u op v at → value ≡ v.value → middle ≡ before ++ target_row (target_of u)
      → after ≡ middle ++ infix_row (assignment_sign op) → after ++ (expression_row assign_level (tree_of value) ++ behind_row parts) ≡ all
  assign_in u op v at value middle after is g f h =
      let t : tree_of part ≡ tree.assign (target_of u) op (tree_of value) at = ap tree_of (is ∙ sym (e.rolls-Assign u op v at)) ∙ fold-roll-Expr Tree TargetTree tree_step target_step (Expr-F.Assign u op v at)
      ∙ ap (λ x. tree.assign (target_of u) op (tree_of x) at) (sym g) in
      let head = target_row (target_of u) ++ infix_row (assignment_sign op) in
      ended before after head _ _ all parts
      (h ∙ ap (λ row. row ++ infix_row (assignment_sign op)) f ∙ append_assoc before (target_row (target_of u)) (infix_row (assignment_sign op)))
      (sym (append_assoc (target_row (target_of u)) (infix_row (assignment_sign op)) (expression_row assign_level (tree_of value)))) (in_place _ t)

  pub choice_in : (test left' right' : Box Expr Global) (at colon : Place) (first left right : Expr) (after : Row) → part ≡ e.Choice test left' right' at colon → first ≡ test.value → left ≡ left'.value → right ≡ right'.value
      → after ≡ before ++ branch_row (tree_of first) (tree_of left) → after ++ (expression_row choice_level (tree_of right) ++ behind_row parts) ≡ all
  choice_in test left' right' at colon first left right after is f g h grown =
      let t : tree_of part ≡ tree.choice (tree_of first) (tree_of left) (tree_of right) at colon = ap tree_of (is ∙ sym (e.rolls-Choice test left' right' at colon)) ∙ fold-roll-Expr Tree TargetTree tree_step target_step (Expr-F.Choice test left' right' at colon)
      ∙ ap (λ x. tree.choice (tree_of x) (tree_of left'.value) (tree_of right'.value) at colon) (sym f)
      ∙ ap (λ x. tree.choice (tree_of first) (tree_of x) (tree_of right'.value) at colon) (sym g)
      ∙ ap (λ x. tree.choice (tree_of first) (tree_of left) (tree_of x) at colon) (sym h) in
      let a = expression_row binary_level (tree_of first) in
      let c = expression_row comma_level (tree_of left) in
      let d = expression_row choice_level (tree_of right) in
      ended before after (branch_row (tree_of first) (tree_of left)) d _ all parts grown
      (sym (append_assoc a (infix_row p.Question ++ (c ++ infix_row p.Colon)) d
      ∙ ap (λ row. a ++ (infix_row p.Question ++ row)) (append_assoc c (infix_row p.Colon) d))) (in_place _ t)

  pub cast_in : (to : CType) (arg : Box Expr Global) (at : Place) (inner : Expr) (after : Row) → part ≡ e.Cast to arg at → inner ≡ arg.value → after ≡ before ++ cast_row to → after ++ (expression_row unary_level (tree_of inner) ++ behind_row parts) ≡ all
  cast_in to arg at inner after is g f =
      let t : tree_of part ≡ tree.cast to (tree_of inner) at = ap tree_of (is ∙ sym (e.rolls-Cast to arg at)) ∙ fold-roll-Expr Tree TargetTree tree_step target_step (Expr-F.Cast to arg at) ∙ ap (λ x. tree.cast to (tree_of x) at) (sym g) in
      ended before after (cast_row to) _ _ all parts f
      (ap (λ row. sign p.LeftParen ∷ row) (sym (append_assoc (kind_row false to) (sign p.RightParen ∷ []) (expression_row unary_level (tree_of inner))))) (in_place _ t)

  pub unary_in : (op : Unary) (arg : Box Expr Global) (at : Place) (inner : Expr) (after : Row) → part ≡ e.Unary op arg at → inner ≡ arg.value → after ≡ before ++ sign (prefix_sign op) ∷ [] → after ++ (expression_row unary_level (tree_of inner) ++ behind_row parts) ≡ all
  unary_in op arg at inner after is g f =
      let t : tree_of part ≡ tree.unary op (tree_of inner) at = ap tree_of (is ∙ sym (e.rolls-Unary op arg at)) ∙ fold-roll-Expr Tree TargetTree tree_step target_step (Expr-F.Unary op arg at) ∙ ap (λ x. tree.unary op (tree_of x) at) (sym g) in
      ended before after (sign (prefix_sign op) ∷ []) _ _ all parts f refl (in_place _ t)

  -- nothing further in
  pub closed : (after own : Row) → after ≡ before ++ own → own_row (tree_of part) ≡ own → after ++ behind_row parts ≡ all
  closed after own f is = ap (λ row. row ++ behind_row parts) (f ∙ ap (λ row. before ++ row) (sym is)) ∙ append_assoc before (own_row (tree_of part)) (behind_row parts) ∙ whole

-- ---- the operands without operators

bump_parts : (u : TargetTree) (up post : Bool) (at : Place) → own_row (tree.bump u up post at) ≡ bump_row u up post
bump_parts u up true at = refl
bump_parts u up false at = refl

module _ (part : Expr) where
  pub own_bump : (u : Target) (up post : Bool) (at : Place) → part ≡ e.Bump u up post at → own_row (tree_of part) ≡ bump_row (target_of u) up post
  own_bump u up post at is = ap own_row (ap tree_of (is ∙ sym (e.rolls-Bump u up post at)) ∙ fold-roll-Expr Tree TargetTree tree_step target_step (Expr-F.Bump u up post at)) ∙ bump_parts (target_of u) up post at

  pub own_call : (callee : List ℕ) (args : Vec Expr Global) (at : Place) → part ≡ e.Call callee args at → own_row (tree_of part) ≡ call_row callee (trees_of args.items)
  own_call callee args at is = ap own_row (ap tree_of (is ∙ sym (e.rolls-Call callee args at)) ∙ fold-roll-Expr Tree TargetTree tree_step target_step (Expr-F.Call callee args at))

  pub own_index : (array : List ℕ) (subscripts : Vec Expr Global) (at : Place) → part ≡ e.Index array subscripts at → own_row (tree_of part) ≡ word array ∷ subscripts_row (trees_of subscripts.items)
  own_index array subscripts at is = ap own_row (ap tree_of (is ∙ sym (e.rolls-Index array subscripts at)) ∙ fold-roll-Expr Tree TargetTree tree_step target_step (Expr-F.Index array subscripts at))

  pub own_name : (text : List ℕ) (at : Place) → part ≡ e.Name text at → own_row (tree_of part) ≡ word text ∷ []
  own_name text at is = ap own_row (ap tree_of (is ∙ sym (e.rolls-Name text at)) ∙ fold-roll-Expr Tree TargetTree tree_step target_step (Expr-F.Name text at))

  pub own_number : (value : ℕ) (kind : CType) (at : Place) → part ≡ e.Number value kind at → own_row (tree_of part) ≡ w.Token (k.Number value kind) ∷ []
  own_number value kind at is = ap own_row (ap tree_of (is ∙ sym (e.rolls-Number value kind at)) ∙ fold-roll-Expr Tree TargetTree tree_step target_step (Expr-F.Number value kind at))

-- ---- where any expression may stand

level-loose : (t : Tree) → own_level t ≤ comma_level
level-loose (tree.number _ _ _) = omega arith
level-loose (tree.name _ _) = omega arith
level-loose (tree.index _ _ _) = omega arith
level-loose (tree.call _ _ _) = omega arith
level-loose (tree.unary _ _ _) = omega arith
level-loose (tree.binary op _ _ _) = let r = operator_level op in omega (arith, r.1)
level-loose (tree.choice _ _ _ _ _) = omega arith
level-loose (tree.cast _ _ _) = omega arith
level-loose (tree.assign _ _ _ _) = omega arith
level-loose (tree.bump _ _ true _) = omega arith
level-loose (tree.bump _ _ false _) = omega arith
level-loose (tree.comma _ _ _) = omega arith

pub loosest : (t : Tree) → expression_row comma_level t ≡ own_row t
loosest t = ap (λ tight. grouped tight (own_row t)) (le-leb (own_level t) comma_level (level-loose t))
