-- A source that is a program has fewer items than the most tokens that it may become.
use Rattle.std.proofs.Common.{◌≤◌, List, [], ◌∷◌, ◌++◌, length, arith, length-append}
use Rattle.c_tree.specs.Terminals.{Terminal}
use Rattle.c_tree.specs.Tree.{ItemTree, ObjectTree}
use Rattle.c_tree.specs.Grammar as g
use Rattle.c_tree.specs.Grammar.{DerivesItem, DerivesItems, DerivesDeclaration}

-- ---- an item has a token

some_behind : {A : Type 0} (xs ys : List A) → 1 ≤ length ys → 1 ≤ length (xs ++ ys)
some_behind [] ys h = h
some_behind (x ∷ xs) ys h = omega arith

declaration_some : (ts : List Terminal) (all : List ObjectTree) → DerivesDeclaration ts all → 1 ≤ length ts
declaration_some ts all (g.a_declaration kind constant ks us objects ends k o) = some_behind ks _ (some_behind us _ (omega arith))

item_some : (ts : List Terminal) (item : ItemTree) → DerivesItem ts item → 1 ≤ length ts
item_some ts item (g.a_static at us i d) = omega arith
item_some ts item (g.an_inline at us i d) = omega arith
item_some ts item (g.some_objects us all d) = declaration_some us all d
item_some ts item (g.a_function result constant ks ps bs text at opens closes all body k free given definition) = some_behind ks _ (omega arith)

pub items_within : (ts : List Terminal) (items : List ItemTree) → DerivesItems ts items → length items ≤ length ts
items_within ts items g.no_item = omega arith
items_within ts items (g.more_items us vs item rest d ds) = omega (arith, length-append us vs, item_some us item d, items_within vs rest ds)
