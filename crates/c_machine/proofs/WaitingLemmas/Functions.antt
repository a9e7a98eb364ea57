-- Searches among items and trees.
use Rattle.std.proofs.Common.{◌≡◌, ℕ, ◌+◌, ◌<◌, ◌≤◌, refl, List, map, length, drop, get_or, Some, None, true, false, add-one}
use Rattle.std.proofs.Math.Seq.{drop-cons}
use Rattle.std.proofs.Math.ListN.{drop_of_length-le}
use Rattle.c_tree.specs.declared.program.Item.{Item}
use Rattle.c_tree.specs.declared.expression.Expr.{Expr}
use Rattle.c_tree.specs.View.{item_of, tree_of, trees_of}
use Rattle.c_tree.specs.Tree.{FunctionTree}
use Rattle.c_meaning.specs.Run.{definition_in, function_named}
use Rattle.c_meaning.specs.Expression.{acts, any_acts}

pub function_named-here : (items : List Item) (i : ℕ) (item : Item) (name : List ℕ) (f : FunctionTree) → i < length items → item ≡ get_or items i item
    → definition_in name (item_of item) ≡ Some f → function_named (map item_of (drop i items)) name ≡ Some f
function_named-here items i item name f lt is e = rw (drop-cons items i item lt, ← is, e) refl

pub function_named-passed : (items : List Item) (i : ℕ) (item : Item) (name : List ℕ) → i < length items → item ≡ get_or items i item
    → definition_in name (item_of item) ≡ None → function_named (map item_of (drop (i + 1) items)) name ≡ function_named (map item_of (drop i items)) name
function_named-passed items i item name lt is e = rw (add-one, drop-cons items i item lt, ← is, e) refl

pub function_named-end : (items : List Item) (i : ℕ) (name : List ℕ) → length items ≤ i → function_named (map item_of (drop i items)) name ≡ None
function_named-end items i name le = rw (drop_of_length-le items le) refl

pub ruleset functions = (function_named-here, function_named-passed, function_named-end)

pub any_acts-here : (es : List Expr) (i : ℕ) (e : Expr) → i < length es → e ≡ get_or es i e → acts (tree_of e) ≡ true → any_acts (trees_of (drop i es)) ≡ true
any_acts-here es i e lt is yes' = rw (drop-cons es i e lt, ← is, yes') refl

pub any_acts-passed : (es : List Expr) (i : ℕ) (e : Expr) → i < length es → e ≡ get_or es i e → acts (tree_of e) ≡ false
    → any_acts (trees_of (drop (i + 1) es)) ≡ any_acts (trees_of (drop i es))
any_acts-passed es i e lt is no' = rw (add-one, drop-cons es i e lt, ← is, no') refl

pub any_acts-end : (es : List Expr) (i : ℕ) → length es ≤ i → any_acts (trees_of (drop i es)) ≡ false
any_acts-end es i le = rw (drop_of_length-le es le) refl

pub ruleset acting = (any_acts-here, any_acts-passed, any_acts-end)
