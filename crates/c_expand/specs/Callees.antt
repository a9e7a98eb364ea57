-- The calls that may be opened in the call that is expanded, and what is known of it.
use Rattle.std.specs.Prelude.{ℕ, List, map}
use Rattle.pieces.specs.Resolved.Core.{CoreFunctionTree}
use Rattle.pieces.specs.Resolved.CoreView.{core_function_of}
use Rattle.pieces.specs.View.{pure_of}
use Rattle.piece_making.specs.declared.frame.Context.{Context}
use Rattle.piece_making.specs.Calls.{Call, call_of}
use Rattle.c_expand.specs.declared.here.Here.{Here}
use Rattle.c_expand.specs.declared.calls.Given as declared
use Rattle.c_expand.specs.declared.calls.Given.TheVariants as g
use Rattle.c_expand.specs.Expressions as e
use Rattle.c_expand.specs.Expressions.{Given, Callee}
use Rattle.c_expand.specs.Expansion.{calls}

abbrev pub functions_of : Context → List CoreFunctionTree
functions_of context = map core_function_of context.core.now.functions.items

-- calls of the program's functions, of which at most n are open at once
unfoldable pub callee_in : Context → ℕ → Callee
callee_in context n = calls (functions_of context) n

abbrev pub callee_of : Here → Callee
callee_of here = callee_in here.frame.now.context.now here.calls

abbrev pub call_at : Here → Call
call_at here = call_of here.frame.now

abbrev pub given_of : declared.Given → Given
given_of (g.Value x) = e.value_given (pure_of x)
given_of (g.Array name) = e.array_given name
