-- Values that are read before something changes them.
use Rattle.std.specs.Prelude.{ℕ, List, [], ◌∷◌, ◌++◌, Bool, true, false, ◌&&◌, ◌||◌, nat_lt, if◌then◌else◌}
use Rattle.hls_base.specs.declared.place.Place.{Place}
use Rattle.c_token.specs.declared.ctype.CType.{CType}
use Rattle.c_tree.specs.declared.operator.Binary.{Binary}
use Rattle.c_tree.specs.declared.operator.Binary.TheVariants as b
use Rattle.pieces.specs.Trees as tree
use Rattle.pieces.specs.Trees.{PureTree, PureTrees, row}
use Rattle.piece_making.specs.declared.effects.Effects.{Effects}
use Rattle.piece_making.specs.Acting.{spoils}
use Rattle.pieces.specs.Kind.{kind}
use Rattle.piece_making.specs.Making.{State, Part, gives, then_, set_own}

abbrev mutual
  -- an element is read
  pub has_element : PureTree → Bool
  has_element (tree.number value kind) = false
  has_element (tree.variable name kind) = false
  has_element (tree.element array subscripts kind at) = true
  has_element (tree.unary op arg kind at) = has_element arg
  has_element (tree.binary op left right kind at) = has_element left || has_element right
  has_element (tree.choice test left right kind) = has_element test || has_element left || has_element right
  has_element (tree.cast to arg) = has_element arg

abbrev pub is_logical : Binary → Bool
is_logical b.LogAnd = true
is_logical b.LogOr = true
is_logical _ = false

-- a `&&`, `||` or `?:` that reads an element in an operand that may not be reached
abbrev pub may_skip_element : PureTree → Bool
may_skip_element (tree.number value kind) = false
may_skip_element (tree.variable name kind) = false
may_skip_element (tree.element array subscripts kind at) = false
may_skip_element (tree.unary op arg kind at) = false
may_skip_element (tree.binary op left right kind at) = is_logical op && has_element right
may_skip_element (tree.choice test left right kind) = has_element left || has_element right
may_skip_element (tree.cast to arg) = false

-- the whole in a variable of its own where the test holds, and else with its parts saved
abbrev pub saved_if : Bool → PureTree → (State → Part PureTree) → State → Part PureTree
saved_if whole t parts s = if whole then set_own (kind t) t s else parts s

-- A binary operator behind its left operand x, which is saved. It is set as a whole where its right operand reads an element and may not be reached. Else its right operand is saved too.
abbrev pub saved_binary : Binary → CType → Place → PureTree → PureTree → (State → Part PureTree) → State → Part PureTree
saved_binary op k at x right rest s =
    saved_if (may_skip_element (tree.binary op x right k at)) (tree.binary op x right k at) (λ s1. then_ (rest s1) (λ y s2. gives (tree.binary op x y k at) s2)) s

-- A `?:` behind its test t, which is saved. It is set as a whole where another operand reads an element, and else the other operands are saved too.
abbrev pub saved_choice : CType → PureTree → PureTree → PureTree → (State → Part PureTree) → (State → Part PureTree) → State → Part PureTree
saved_choice k t left right second third s =
    saved_if (may_skip_element (tree.choice t left right k)) (tree.choice t left right k)
    (λ s1. then_ (second s1) (λ x s2. then_ (third s2) (λ y s3. gives (tree.choice t x y k) s3))) s

abbrev mutual
  -- Each element that is evaluated in any case is set into a variable of its own, from left to right. A `&&`, `||` or `?:` that reads an element in an operand that may not be reached is set as a whole, behind its first operand, and its other operands stay as they are. Before calls each scalar of file scope is set too, whose variables are those below n.
  pub saved : ℕ → Bool → PureTree → State → Part PureTree
  saved n calls (tree.number value k) s = gives (tree.number value k) s
  saved n calls (tree.variable name k) s = saved_if (calls && nat_lt name.0 n) (tree.variable name k) (λ s1. gives (tree.variable name k) s1) s
  saved n calls (tree.element array subscripts k at) s =
      then_ (all_saved n calls subscripts [] s) (λ given s1. set_own k (tree.element array (row given) k at) s1)
  saved n calls (tree.unary op arg k at) s = then_ (saved n calls arg s) (λ x s1. gives (tree.unary op x k at) s1)
  saved n calls (tree.binary op left right k at) s =
      then_ (saved n calls left s) (λ x s1. saved_binary op k at x right (saved n calls right) s1)
  saved n calls (tree.choice test left right k) s =
      then_ (saved n calls test s) (λ t s1. saved_choice k t left right (saved n calls left) (saved n calls right) s1)
  saved n calls (tree.cast to arg) s = then_ (saved n calls arg s) (λ x s1. gives (tree.cast to x) s1)

  -- the same of expressions behind those that are saved
  pub all_saved : ℕ → Bool → PureTrees → List PureTree → State → Part (List PureTree)
  all_saved n calls tree.none before s = gives before s
  all_saved n calls (tree.more first rest) before s = then_ (saved n calls first s) (λ x s1. all_saved n calls rest (before ++ x ∷ []) s1)

-- an operand behind which the evaluation has these effects
abbrev pub save : ℕ → PureTree → Effects → State → Part PureTree
save n operand later s = if spoils later then saved n later.calls operand s else gives operand s
