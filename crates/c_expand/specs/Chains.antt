-- An expression as its innermost operand and the operators behind it.
use Rattle.std.specs.Prelude.{List, [], ◌∷◌}
use Rattle.pieces.specs.Resolved.CoreView.{core_of}
use Rattle.pieces.specs.Trees as tree
use Rattle.pieces.specs.Trees.{PureTree}
use Rattle.piece_making.specs.Making.{State, Part, gives, then_}
use Rattle.piece_making.specs.Calls.{Call}
use Rattle.piece_making.specs.Acting.{effects}
use Rattle.piece_making.specs.Assigning.{assigned, change_of}
use Rattle.c_expand.specs.declared.operators.Step.{Step}
use Rattle.c_expand.specs.declared.operators.Step.TheVariants as s
use Rattle.c_expand.specs.Expressions.{Callee, expression, operated, comma_left}

-- an operator behind the operand that it goes on with
abbrev pub link : Callee → Call → Step → PureTree → State → Part PureTree
link f c (s.Unary op kind at) x st = gives (tree.unary op x kind at) st
link f c (s.Cast to) x st = gives (tree.cast to x) st
link f c (s.Binary o right) x st = operated c o.op o.kind o.at x (effects (core_of right.now)) (expression f c (core_of right.now)) st
link f c (s.Assign t) x st = assigned c (change_of t) x st
link f c (s.Comma left right) x st =
    then_ (comma_left c.file_variables (core_of left.now) x (effects (core_of right.now)) st) (λ u s1. expression f c (core_of right.now) s1)

-- outermost first
abbrev pub links : Callee → Call → List Step → PureTree → State → Part PureTree
links f c [] x st = gives x st
links f c (first ∷ rest) x st = then_ (links f c rest x st) (λ y s1. link f c first y s1)
