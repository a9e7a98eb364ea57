-- Small programs, and the pieces that they are by hand.
use Rattle.std.proofs.Common.{◌≡◌, ℕ, true, false, List, [], ◌∷◌, refl, Some, None}
use Rattle.hls_base.specs.declared.place.Place.{Place}
use Rattle.hls_base.specs.declared.point.PointKind.{PointKind}
use Rattle.hls_base.specs.declared.point.PointKind.TheVariants as point
use Rattle.c_tree.specs.declared.operator.Binary.TheVariants as b
use Rattle.c_value.specs.Values.{int_type}
use Rattle.pieces.specs.declared.resolved.expression.Cell.{Cell}
use Rattle.pieces.specs.declared.resolved.expression.Scope.TheVariants as scope
use Rattle.pieces.specs.Resolved.Core as core
use Rattle.pieces.specs.Resolved.Core.{CoreTree, CoreStmtTree, CoreStmtTrees, stmt_row, argument_row, CoreObjectTree, CoreFunctionTree, CoreProgramTree}
use Rattle.pieces.specs.Trees as tree
use Rattle.pieces.specs.Trees.{PureTree, PieceTree, PieceTrees, piece_row}
use Rattle.piece_making.specs.Making.{then_, emit, declared, inside, fresh, fresh_result, add_array, next_call, next_loop, set_own, variable_number, array_number}
use Rattle.c_expand.specs.Expressions.{chosen}
use Rattle.c_expand.specs.Statements.{actions, changed, valued, stepped}
use Rattle.c_expand.specs.Expansion.{expansion, expanded_weight}

abbrev p : Place
p = record { line = 1; column = 1; part = 0 }

abbrev cell : ℕ → Cell
cell n = record { scope = scope.Call; number = n }

abbrev object : CoreObjectTree
object = record { name = []; kind = int_type; lengths = []; constant = false }

abbrev function : ℕ → List CoreObjectTree → List CoreStmtTree → CoreFunctionTree
function params objects body = record { name = []; at = p; result = Some int_type; params = params; objects = objects; outermost = []; body = stmt_row body }

abbrev program : List CoreFunctionTree → ℕ → CoreProgramTree
program functions top = record { file = []; functions = functions; top = top }

abbrev at : List Place → PointKind → PieceTree
at path kind = tree.mark (record { path = path; at = p; kind = kind })

abbrev read : ℕ → CoreTree
read n = core.scalar (cell n) int_type p

abbrev v : ℕ → PureTree
v n = tree.variable (variable_number n) int_type

abbrev set : ℕ → PureTree → PieceTree
set n value = tree.set (variable_number n) value

abbrev number : ℕ → PureTree
number n = tree.number n int_type

-- int g(int x) { return x*x; } int f(int a, int b) { return g(a) + g(b); }
abbrev squares : CoreProgramTree
squares = program (
    function 1 (object ∷ []) (core.return_ (Some (core.binary b.Mul (read 0) (read 0) int_type p)) ∷ []) ∷
    function 2 (object ∷ object ∷ []) (core.return_ (Some (core.binary b.Add
    (core.call 0 (argument_row (core.given (read 0) ∷ [])) (Some int_type) p)
    (core.call 0 (argument_row (core.given (read 1) ∷ [])) (Some int_type) p) int_type p)) ∷ []) ∷ []) 1

squares_pieces : (expansion squares).pieces ≡ piece_row (
    at [] point.Begin ∷
    set 3 (v 0) ∷ at (p ∷ []) point.Begin ∷ set 4 (tree.binary b.Mul (v 3) (v 3) int_type p) ∷ at (p ∷ []) point.End ∷
    set 5 (v 1) ∷ at (p ∷ []) point.Begin ∷ set 6 (tree.binary b.Mul (v 5) (v 5) int_type p) ∷ at (p ∷ []) point.End ∷
    set 2 (tree.binary b.Add (v 4) (v 6) int_type p) ∷ at [] point.End ∷ [])
unfolding then_ emit fresh fresh_result next_call actions changed valued stepped
squares_pieces = refl

squares_weight : expanded_weight squares ≡ 18
unfolding then_ emit fresh fresh_result next_call actions changed valued stepped
squares_weight = refl

-- int f(int n) { int s = 0; while (1) { if (n == s) break; s = s + 1; } return s; }
abbrev search_ : CoreProgramTree
search_ = program (function 1 (object ∷ object ∷ []) (
    core.declare 1 (core.single (core.number 0 int_type)) ∷
    core.while_ (core.number 1 int_type) (core.block [] (stmt_row (
    core.if_ (core.binary b.Eq (read 0) (read 1) int_type p) core.break_ core.no_else p ∷
    core.act (core.change (core.assign (core.target (cell 1) core.none int_type p) None (core.binary b.Add (read 1) (core.number 1 int_type) int_type p) p) ∷ []) ∷ []))) p ∷
    core.return_ (Some (read 1)) ∷ []) ∷ []) 0

search_pieces : (expansion search_).pieces ≡ piece_row (
    at [] point.Begin ∷ set 1 (number 0) ∷
    tree.repeat_ (record { 0 = 0 }) false (piece_row (at [] point.Test ∷ [])) (number 1)
    (piece_row (at [] point.Body ∷
    tree.fork (tree.binary b.Eq (v 0) (v 1) int_type p) (piece_row (at [] point.Arm ∷ tree.break_ ∷ [])) (piece_row []) (record { path = []; at = p; kind = point.End }) ∷
    set 1 (tree.binary b.Add (v 1) (number 1) int_type p) ∷ []))
    (piece_row []) (record { path = []; at = p; kind = point.End }) ∷
    set 2 (v 1) ∷ at [] point.End ∷ [])
unfolding then_ emit inside fresh fresh_result next_call next_loop actions changed valued stepped
search_pieces = refl

search_weight : expanded_weight search_ ≡ 15
unfolding then_ emit inside fresh fresh_result next_call next_loop actions changed valued stepped
search_weight = refl

-- int f(int i) { return i++ && i; }
abbrev counted : CoreProgramTree
counted = program (function 1 (object ∷ []) (
    core.return_ (Some (core.binary b.LogAnd (core.bump (core.target (cell 0) core.none int_type p) true true p) (read 0) int_type p)) ∷ []) ∷ []) 0

counted_pieces : (expansion counted).pieces ≡ piece_row (
    at [] point.Begin ∷ set 2 (v 0) ∷ set 0 (tree.binary b.Add (v 2) (number 1) int_type p) ∷
    set 1 (tree.binary b.LogAnd (v 2) (v 0) int_type p) ∷ at [] point.End ∷ [])
unfolding then_ emit fresh fresh_result next_call actions changed valued stepped
counted_pieces = refl

counted_weight : expanded_weight counted ≡ 10
unfolding then_ emit fresh fresh_result next_call actions changed valued stepped
counted_weight = refl

-- int g(void) { return 1; }, and f, whose first parameter is an array
abbrev with_array : List CoreObjectTree → List CoreStmtTree → CoreProgramTree
with_array scalars body = program (
    function 0 [] (core.return_ (Some (core.number 1 int_type)) ∷ []) ∷
    record { name = []; at = p; result = Some int_type; params = 2; objects = record { name = []; kind = int_type; lengths = 2 ∷ []; constant = false } ∷ scalars; outermost = []; body = stmt_row body } ∷ []) 1

abbrev element : ℕ → CoreTree
element n = core.element (cell 0) (core.more (core.number n int_type) core.none) int_type p

abbrev e : ℕ → PureTree
e n = tree.element (array_number 0) (tree.more (number n) tree.none) int_type p

abbrev call : CoreTree
call = core.call 0 (argument_row []) (Some int_type) p

-- int f(int a[2], int c) { return (a[0] && a[1]) + g(); }
abbrev operand_saved : CoreProgramTree
operand_saved = with_array (object ∷ []) (
    core.return_ (Some (core.binary b.Add (core.binary b.LogAnd (element 0) (element 1) int_type p) call int_type p)) ∷ [])

operand_saved_pieces : (expansion operand_saved).pieces ≡ piece_row (
    at [] point.Begin ∷ set 2 (e 0) ∷ set 3 (tree.binary b.LogAnd (v 2) (e 1) int_type p) ∷
    at (p ∷ []) point.Begin ∷ set 4 (number 1) ∷ at (p ∷ []) point.End ∷
    set 1 (tree.binary b.Add (v 3) (v 4) int_type p) ∷ at [] point.End ∷ [])
unfolding then_ emit fresh fresh_result next_call add_array set_own actions changed valued stepped
operand_saved_pieces = refl

operand_saved_weight : expanded_weight operand_saved ≡ 15
unfolding then_ emit fresh fresh_result next_call add_array set_own actions changed valued stepped
operand_saved_weight = refl

-- int f(int a[2], int d) { return (a[0] ? a[1] : d) + g(); }
abbrev test_saved : CoreProgramTree
test_saved = with_array (object ∷ []) (
    core.return_ (Some (core.binary b.Add (core.choice (element 0) (element 1) (read 1) int_type p p) call int_type p)) ∷ [])

test_saved_pieces : (expansion test_saved).pieces ≡ piece_row (
    at [] point.Begin ∷ set 2 (e 0) ∷ set 3 (tree.choice (v 2) (e 1) (v 0) int_type) ∷
    at (p ∷ []) point.Begin ∷ set 4 (number 1) ∷ at (p ∷ []) point.End ∷
    set 1 (tree.binary b.Add (v 3) (v 4) int_type p) ∷ at [] point.End ∷ [])
unfolding then_ emit fresh fresh_result next_call add_array set_own chosen actions changed valued stepped
test_saved_pieces = refl

test_saved_weight : expanded_weight test_saved ≡ 16
unfolding then_ emit fresh fresh_result next_call add_array set_own chosen actions changed valued stepped
test_saved_weight = refl

-- int f(int a[2], int c) { int x; return (a[0], x = g()); }
abbrev left_saved : CoreProgramTree
left_saved = with_array (object ∷ object ∷ []) (
    core.declare 2 core.unwritten ∷
    core.return_ (Some (core.comma (element 0) (core.assign (core.target (cell 2) core.none int_type p) None call p))) ∷ [])

left_saved_pieces : (expansion left_saved).pieces ≡ piece_row (
    at [] point.Begin ∷ set 3 (e 0) ∷ set 4 (v 3) ∷
    at (p ∷ []) point.Begin ∷ set 5 (number 1) ∷ at (p ∷ []) point.End ∷
    set 6 (v 5) ∷ set 1 (v 6) ∷ set 2 (v 6) ∷ at [] point.End ∷ [])
unfolding then_ emit declared fresh fresh_result next_call add_array set_own actions changed valued stepped
left_saved_pieces = refl

left_saved_weight : expanded_weight left_saved ≡ 15
unfolding then_ emit declared fresh fresh_result next_call add_array set_own actions changed valued stepped
left_saved_weight = refl
