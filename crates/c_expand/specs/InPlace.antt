-- Operators behind their first operand, whose other operands are evaluated in place, or in a branch that is there already.
use Rattle.std.specs.Prelude.{List, if◌then◌else◌}
use Rattle.hls_base.specs.declared.place.Place.{Place}
use Rattle.hls_base.specs.declared.number.VarId.{VarId}
use Rattle.c_token.specs.declared.ctype.CType.{CType}
use Rattle.c_tree.specs.declared.operator.Binary.{Binary}
use Rattle.pieces.specs.Trees as tree
use Rattle.pieces.specs.Trees.{PureTree, PieceTree}
use Rattle.piece_making.specs.Making.{State, Part, gives, then_}
use Rattle.piece_making.specs.Calls.{Call}
use Rattle.c_expand.specs.Expressions.{decided, fork_of, is_or}

-- a binary operator behind its first operand x
abbrev pub operated_in_place : Binary → CType → Place → PureTree → (State → Part PureTree) → State → Part PureTree
operated_in_place op k at x right s = then_ (right s) (λ y s1. gives (tree.binary op x y k at) s1)

-- a `?:` behind its test
abbrev pub chosen_in_place : CType → PureTree → (State → Part PureTree) → (State → Part PureTree) → State → Part PureTree
chosen_in_place k test left right s = then_ (left s) (λ x s1. then_ (right s1) (λ y s2. gives (tree.choice test x y k) s2))

-- a `&&` or `||` behind the branch that sets this variable to its right operand
abbrev pub forked_behind : Call → Binary → CType → Place → PureTree → List PieceTree → VarId → State → Part PureTree
forked_behind c op k at test reached own s =
    then_ (decided (is_or op) own s) (λ other s1. if is_or op then fork_of c at test other.pieces reached own k s1 else fork_of c at test reached other.pieces own k s1)
