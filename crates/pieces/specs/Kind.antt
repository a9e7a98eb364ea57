-- The type of an expression's value.
use Rattle.c_token.specs.declared.ctype.CType.{CType}
use Rattle.pieces.specs.Trees as tree
use Rattle.pieces.specs.Trees.{PureTree}

abbrev pub kind : PureTree → CType
kind (tree.number value k) = k
kind (tree.variable name k) = k
kind (tree.element array subscripts k at) = k
kind (tree.unary op arg k at) = k
kind (tree.binary op left right k at) = k
kind (tree.choice test left right k) = k
kind (tree.cast to arg) = to
