-- Small programs, and what their runs come to by hand.
use Rattle.std.proofs.Common.{◌≡◌, ℕ, false, List, [], ◌∷◌, refl, Some, None}
use Rattle.hls_base.specs.declared.place.Place.{Place}
use Rattle.hls_base.specs.declared.point.Point.{Point}
use Rattle.hls_base.specs.declared.point.PointKind.{PointKind}
use Rattle.hls_base.specs.declared.point.PointKind.TheVariants as point
use Rattle.hls_base.specs.declared.refusal.UbRule.TheVariants as ub
use Rattle.hls_base.specs.FileScope.{FileScope}
use Rattle.c_tree.specs.declared.operator.Binary.TheVariants as b
use Rattle.c_value.specs.Values.{int_type}
use Rattle.c_meaning.specs.Run.{ended, undefined, running}
use Rattle.pieces.specs.declared.resolved.expression.Cell.{Cell}
use Rattle.pieces.specs.declared.resolved.expression.Scope.TheVariants as scope
use Rattle.pieces.specs.Resolved.Core as core
use Rattle.pieces.specs.Resolved.Core.{CoreTree, CoreStmtTree, CoreStmtTrees, stmt_row, argument_row, CoreObjectTree, CoreFunctionTree, CoreProgramTree}
use Rattle.c_meaning.specs.CoreRuns.Runs.{core_run}

abbrev p : ℕ → Place
p n = record { line = 1; column = n; part = 0 }

abbrev cell : ℕ → Cell
cell n = record { scope = scope.Call; number = n }

abbrev object : CoreObjectTree
object = record { name = []; kind = int_type; lengths = []; constant = false }

abbrev function : ℕ → ℕ → List CoreObjectTree → List ℕ → List CoreStmtTree → CoreFunctionTree
function n params objects outermost body =
    record { name = []; at = p n; result = Some int_type; params = params; objects = objects; outermost = outermost; body = stmt_row body }

abbrev program : List CoreFunctionTree → ℕ → CoreProgramTree
program functions top = record { file = []; functions = functions; top = top }

abbrev nothing : FileScope
nothing = record { scalars = []; arrays = [] }

abbrev at : List Place → ℕ → PointKind → Point
at path n kind = record { path = path; at = p n; kind = kind }

abbrev read : ℕ → CoreTree
read n = core.scalar (cell n) int_type (p 0)

-- int g(int x) { return x*x; } int f(int a, int b) { return g(a) + g(b); }
abbrev squares : CoreProgramTree
squares = program (
    function 1 1 (object ∷ []) [] (core.return_ (Some (core.binary b.Mul (read 0) (read 0) int_type (p 2))) ∷ []) ∷
    function 3 2 (object ∷ object ∷ []) [] (core.return_ (Some (core.binary b.Add
    (core.call 0 (argument_row (core.given (read 0) ∷ [])) (Some int_type) (p 4))
    (core.call 0 (argument_row (core.given (read 1) ∷ [])) (Some int_type) (p 5)) int_type (p 6))) ∷ []) ∷ []) 1

squares_run : core_run squares nothing (3 ∷ 4 ∷ []) [] 10 ≡ ended (Some 25) [] nothing (
    at [] 3 point.Begin ∷ at (p 4 ∷ []) 1 point.Begin ∷ at (p 4 ∷ []) 1 point.End ∷
    at (p 5 ∷ []) 1 point.Begin ∷ at (p 5 ∷ []) 1 point.End ∷ at [] 3 point.End ∷ [])
squares_run = refl

-- five points are too few
squares_waits : core_run squares nothing (3 ∷ 4 ∷ []) [] 5 ≡ running
squares_waits = refl

-- int f(int n) { int s; while (n) { s = 1; n = 0; } return s; }
abbrev unset : CoreProgramTree
unset = program (function 1 1 (object ∷ object ∷ []) (1 ∷ []) (
    core.declare 1 core.unwritten ∷
    core.while_ (read 0) (core.block [] (stmt_row (
    core.act (core.change (core.assign (core.target (cell 1) core.none int_type (p 2)) None (core.number 1 int_type) (p 3)) ∷
    core.change (core.assign (core.target (cell 0) core.none int_type (p 4)) None (core.number 0 int_type) (p 5)) ∷ []) ∷ []))) (p 6) ∷
    core.return_ (Some (core.scalar (cell 1) int_type (p 7))) ∷ []) ∷ []) 0

unset_run : core_run unset nothing (0 ∷ []) [] 10 ≡ undefined ub.Unset (p 7)
unset_run = refl

set_run : core_run unset nothing (1 ∷ []) [] 10 ≡ ended (Some 1) [] nothing (
    at [] 1 point.Begin ∷ at [] 6 point.Test ∷ at [] 6 point.Body ∷ at [] 6 point.Test ∷ at [] 6 point.End ∷ at [] 1 point.End ∷ [])
set_run = refl
