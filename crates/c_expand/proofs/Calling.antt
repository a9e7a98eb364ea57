-- Calls that are opened within calls, and what is done in them.
use Rattle.std.proofs.Common.{◌≡◌, ℕ, suc, ◌+◌, Bool, true, List, [], map, length, Option, Some, sym, ap, ◌∙◌, arith}
use Rattle.std.proofs.lemmas.List.{length-map}
use Rattle.std.specs.Prelude.{slice_get}
use Rattle.hls_base.specs.declared.place.Place.{Place}
use Rattle.hls_base.specs.declared.point.Point.{Point}
use Rattle.hls_base.specs.declared.number.VarId.{VarId}
use Rattle.pieces.specs.declared.resolved.statement.CoreStmt.{CoreStmt}
use Rattle.pieces.specs.Resolved.Core.{CoreFunctionTree, stmt_row}
use Rattle.pieces.specs.Resolved.CoreView.{core_stmt_of, core_function_of}
use Rattle.pieces.specs.declared.piece.CallId.{CallId}
use Rattle.pieces.specs.Trees.{PieceTree}
use Rattle.piece_making.specs.declared.frame.Context.{Context}
use Rattle.piece_making.specs.declared.frame.Home.{Home}
use Rattle.piece_making.specs.Making.{State}
use Rattle.piece_making.specs.Calls.{Call}
use Rattle.piece_making.specs.Leaving.{any_leaves}
use Rattle.c_expand.specs.Callees.{functions_of, callee_in}
use Rattle.c_expand.specs.Expressions.{Given, Callee}
use Rattle.c_expand.specs.Expansion.{calls, opened, opened_as, run_through, within, outermost, end_of}

-- one more call may be opened here than in the call that is opened
pub calls_more : (context : Context) (m n callee : ℕ) (given : List Given) (c : Call) (at : Place) (s : State) (fn : CoreFunctionTree)
    → n + 1 ≡ m → slice_get (functions_of context) callee ≡ Some fn → callee_in context m callee given c at s ≡ opened (callee_in context n) fn given c at s
unfolding callee_in
calls_more context m n callee given c at s fn more is =
    let e : m ≡ suc n = omega (arith, more) in
    ap (λ (k : ℕ). calls (functions_of context) k callee given c at s) e
    ∙ ap (λ (o : Option CoreFunctionTree). opened_as o (calls (functions_of context) n) given c at s) is

-- the call of the top function, in which as many calls may be opened as there are functions
pub as_outermost : (context : Context) (n : ℕ) (fn : CoreFunctionTree) (homes : List Home) (path : List Place) (call : CallId) (own : Option VarId) (s : State)
    → n ≡ length context.core.now.functions.items → path ≡ []
    → run_through (callee_in context n) (record { file = context.file.items; file_variables = context.file_variables; homes = homes; objects = fn.objects; body_at = fn.at; path = path; call = call; result = own }) fn s
    ≡ run_through (calls (functions_of context) (length (functions_of context))) (outermost fn context.file.items context.file_variables homes call own) fn s
unfolding callee_in
as_outermost context n fn homes path call own s count none =
    ap (λ (k : ℕ). run_through (calls (functions_of context) k) (record { file = context.file.items; file_variables = context.file_variables; homes = homes; objects = fn.objects; body_at = fn.at; path = path; call = call; result = own }) fn s)
    (count ∙ sym (length-map context.core.now.functions.items core_function_of))
    ∙ ap (λ (ps : List Place). run_through (calls (functions_of context) (length (functions_of context))) (record { file = context.file.items; file_variables = context.file_variables; homes = homes; objects = fn.objects; body_at = fn.at; path = ps; call = call; result = own }) fn s) none

-- a call at this path
pub at_path : (f : Callee) (c : Call) (fn : CoreFunctionTree) (homes : List Home) (path path1 : List Place) (call : CallId) (own : Option VarId) (s : State)
    → path ≡ path1 → run_through f (within c fn homes path call own) fn s ≡ run_through f (within c fn homes path1 call own) fn s
at_path f c fn homes path path1 call own s e = ap (λ (ps : List Place). run_through f (within c fn homes ps call own) fn s) e

-- the End of a call with this body
pub end_is : (piece : PieceTree) (leaves : Bool) (call : CallId) (end at : Point) (body body1 : List CoreStmt)
    → piece ≡ end_of leaves call end → leaves ≡ any_leaves (stmt_row (map core_stmt_of body)) true → body ≡ body1 → end ≡ at
    → piece ≡ end_of (any_leaves (stmt_row (map core_stmt_of body1)) true) call at
end_is piece leaves call end at body body1 is leave same point =
    is ∙ (ap (λ (b : Bool). end_of b call end) (leave ∙ ap (λ (xs : List CoreStmt). any_leaves (stmt_row (map core_stmt_of xs)) true) same)
    ∙ ap (end_of (any_leaves (stmt_row (map core_stmt_of body1)) true) call) point)
