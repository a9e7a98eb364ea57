-- Small programs whose pieces have the answers of their runs.
use Rattle.std.proofs.Common.{◌≡◌, ℕ, true, false, List, [], ◌∷◌, refl, Some, None, pos}
use Rattle.hls_base.specs.declared.place.Place.{Place}
use Rattle.hls_base.specs.FileScope.{FileScope}
use Rattle.c_token.specs.declared.ctype.CType.{CType}
use Rattle.c_tree.specs.declared.operator.Binary.TheVariants as b
use Rattle.c_value.specs.Values.{int_type, integer}
use Rattle.pieces.specs.declared.resolved.expression.Cell.{Cell}
use Rattle.pieces.specs.declared.resolved.expression.Scope.TheVariants as scope
use Rattle.pieces.specs.Resolved.Core as core
use Rattle.pieces.specs.Resolved.Core.{CoreTree, CoreStmtTree, stmt_row, argument_row, CoreObjectTree, FileObjectTree, CoreFunctionTree, CoreProgramTree}
use Rattle.c_meaning.specs.CoreRuns.Runs.{core_run}
use Rattle.c_meaning.specs.PieceRuns.Values.{Store}
use Rattle.c_meaning.specs.PieceRuns.Runs.{pieces_answer}
use Rattle.piece_making.specs.Making.{then_, emit, label, declared, inside, inside_switch, fresh, fresh_result, add_array, new_slot, note_array, next_call, next_loop, set_own}
use Rattle.c_expand.specs.Expressions.{chosen}
use Rattle.c_expand.specs.Statements.{valued, changed, actions, stepped}
use Rattle.c_expand.specs.Expansion.{expansion}

abbrev p : ℕ → Place
p n = record { line = 1; column = n; part = 0 }

abbrev cell : ℕ → Cell
cell n = record { scope = scope.Call; number = n }

abbrev global : ℕ → Cell
global n = record { scope = scope.File; number = n }

abbrev object_of : CType → List ℕ → CoreObjectTree
object_of kind lengths = record { name = []; kind = kind; lengths = lengths; constant = false }

abbrev object : CoreObjectTree
object = object_of int_type []

abbrev function : ℕ → ℕ → List CoreObjectTree → List ℕ → List CoreStmtTree → CoreFunctionTree
function n params objects outermost body =
    record { name = []; at = p n; result = Some int_type; params = params; objects = objects; outermost = outermost; body = stmt_row body }

abbrev program : List FileObjectTree → List CoreFunctionTree → ℕ → CoreProgramTree
program file functions top = record { file = file; functions = functions; top = top }

abbrev nothing : FileScope
nothing = record { scalars = []; arrays = [] }

abbrev read : ℕ → CoreTree
read n = core.scalar (cell n) int_type (p 0)

abbrev number : ℕ → CoreTree
number n = core.number n int_type

-- what happens to be there at first
abbrev sevens : Store
sevens = record { variables = λ i. pos 7; elements = λ a i. pos 7 }

-- const signed char k = -1; int f(void) { return k + 1; }
abbrev minus_one : CoreProgramTree
minus_one = program (record { object = record { name = []; kind = integer true 8; lengths = []; constant = true }; first = 255 ∷ [] } ∷ [])
    (function 1 0 [] [] (core.return_ (Some (core.binary b.Add (core.scalar (global 0) (integer true 8) (p 2)) (number 1) int_type (p 3))) ∷ []) ∷ []) 0

minus_one_runs : pieces_answer (expansion minus_one) sevens nothing [] [] 10 ≡ core_run minus_one nothing [] [] 10
unfolding then_ emit fresh fresh_result next_call chosen valued changed actions stepped
minus_one_runs = refl

-- int g(int x) { return x*x; } int f(int a, int b) { return g(a) + g(b); }
abbrev squares : CoreProgramTree
squares = program [] (
    function 1 1 (object ∷ []) [] (core.return_ (Some (core.binary b.Mul (read 0) (read 0) int_type (p 2))) ∷ []) ∷
    function 3 2 (object ∷ object ∷ []) [] (core.return_ (Some (core.binary b.Add
    (core.call 0 (argument_row (core.given (read 0) ∷ [])) (Some int_type) (p 4))
    (core.call 0 (argument_row (core.given (read 1) ∷ [])) (Some int_type) (p 5)) int_type (p 6))) ∷ []) ∷ []) 1

squares_run : pieces_answer (expansion squares) sevens nothing (3 ∷ 4 ∷ []) [] 10 ≡ core_run squares nothing (3 ∷ 4 ∷ []) [] 10
unfolding then_ emit fresh fresh_result next_call chosen valued changed actions stepped
squares_run = refl

squares_wait : pieces_answer (expansion squares) sevens nothing (3 ∷ 4 ∷ []) [] 5 ≡ core_run squares nothing (3 ∷ 4 ∷ []) [] 5
unfolding then_ emit fresh fresh_result next_call chosen valued changed actions stepped
squares_wait = refl

-- int s; int g(int x) { s = x; if (x) return 1; s = 5; return s; } int f(int a) { return s + g(a) + s; }
abbrev saved_first : CoreProgramTree
saved_first = program (record { object = object; first = 0 ∷ [] } ∷ []) (
    function 1 1 (object ∷ []) [] (
    core.act (core.change (core.assign (core.target (global 0) core.none int_type (p 2)) None (read 0) (p 3)) ∷ []) ∷
    core.if_ (read 0) (core.return_ (Some (number 1))) core.no_else (p 4) ∷
    core.act (core.change (core.assign (core.target (global 0) core.none int_type (p 5)) None (number 5) (p 6)) ∷ []) ∷
    core.return_ (Some (core.scalar (global 0) int_type (p 7))) ∷ []) ∷
    function 8 1 (object ∷ []) [] (core.return_ (Some (core.binary b.Add (core.binary b.Add (core.scalar (global 0) int_type (p 9))
    (core.call 0 (argument_row (core.given (read 0) ∷ [])) (Some int_type) (p 10)) int_type (p 11)) (core.scalar (global 0) int_type (p 12)) int_type (p 13))) ∷ []) ∷ []) 1

saved_first_left : pieces_answer (expansion saved_first) sevens (record { scalars = 20 ∷ []; arrays = [] }) (3 ∷ []) [] 10 ≡ core_run saved_first (record { scalars = 20 ∷ []; arrays = [] }) (3 ∷ []) [] 10
unfolding then_ emit declared inside fresh fresh_result next_call set_own chosen valued changed actions stepped
saved_first_left = refl

saved_first_through : pieces_answer (expansion saved_first) sevens (record { scalars = 20 ∷ []; arrays = [] }) (0 ∷ []) [] 10 ≡ core_run saved_first (record { scalars = 20 ∷ []; arrays = [] }) (0 ∷ []) [] 10
unfolding then_ emit declared inside fresh fresh_result next_call set_own chosen valued changed actions stepped
saved_first_through = refl

-- int f(int n) { int i; for (i = 0; i < n; i++) { int a[2] = {i}; switch (i) { case 1: continue; default: a[1] = 4; } if (a[1] == 4 && (i = i + 1)) ; } return i; }
abbrev local_array : CoreProgramTree
local_array = program [] (function 1 1 (object ∷ object ∷ object_of int_type (2 ∷ []) ∷ []) (1 ∷ []) (
    core.declare 1 core.unwritten ∷
    core.for_ [] (stmt_row (core.act (core.change (core.assign (core.target (cell 1) core.none int_type (p 2)) None (number 0) (p 3)) ∷ []) ∷ []))
    (Some (core.binary b.Lt (read 1) (read 0) int_type (p 4))) (core.change (core.bump (core.target (cell 1) core.none int_type (p 5)) true true (p 6)) ∷ [])
    (core.block (2 ∷ []) (stmt_row (
    core.declare 2 (core.elements (Some (read 1) ∷ None ∷ [])) ∷
    core.switch_ (read 1) [] (stmt_row (core.case_ (Some 1) core.continue_ (p 7) ∷
    core.case_ None (core.act (core.change (core.assign (core.target (cell 2) (core.more (number 1) core.none) int_type (p 8)) None (number 4) (p 9)) ∷ [])) (p 10) ∷ [])) (p 11) ∷
    core.if_ (core.binary b.LogAnd (core.binary b.Eq (core.element (cell 2) (core.more (number 1) core.none) int_type (p 12)) (number 4) int_type (p 13))
    (core.assign (core.target (cell 1) core.none int_type (p 14)) None (core.binary b.Add (read 1) (number 1) int_type (p 15)) (p 16)) int_type (p 17)) (core.block [] core.no_stmt) core.no_else (p 18) ∷ []))) (p 19) ∷
    core.return_ (Some (read 1)) ∷ []) ∷ []) 0

local_array_run : pieces_answer (expansion local_array) sevens nothing (4 ∷ []) [] 40 ≡ core_run local_array nothing (4 ∷ []) [] 40
unfolding then_ emit label declared inside inside_switch fresh fresh_result add_array new_slot note_array next_call next_loop set_own chosen valued changed actions stepped
local_array_run = refl
