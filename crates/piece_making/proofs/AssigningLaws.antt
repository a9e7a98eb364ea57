-- Assignments, step by step.
use Rattle.std.proofs.Common.{◌≡◌, ◌<◌, List, [], ◌∷◌, length, refl, sym, subst, arith}
use Rattle.hls_base.specs.declared.place.Place.{Place}
use Rattle.hls_base.specs.declared.number.VarId.{VarId}
use Rattle.hls_base.specs.declared.refusal.Refusal.{Refusal}
use Rattle.c_token.specs.declared.ctype.CType.{CType}
use Rattle.pieces.specs.declared.resolved.expression.Cell.{Cell}
use Rattle.pieces.specs.declared.pure_expr.Pure.{Pure}
use Rattle.pieces.specs.Trees as tree
use Rattle.pieces.specs.Trees.{PureTree, PureTrees}
use Rattle.pieces.specs.View.{pures_of}
use Rattle.piece_making.specs.Making.{State, Part, gives, then_, emit, fresh}
use Rattle.piece_making.specs.Stocks.{Stock, state_of, IsMade, IsTooHeavy}
use Rattle.piece_making.specs.Calls.{Call, array, scalar, variable}
use Rattle.piece_making.specs.Assigning.{Change, store, store_at, read_at}
use Rattle.piece_making.proofs.Parts.{nothing_made, made_behind, heavy_at_once, heavy_behind}

pub read_element : (c : Call) (cell : Cell) (k : CType) (at : Place) (subscripts : List Pure) (s : State) → 0 < length subscripts
    → read_at c cell k at (pures_of subscripts) s ≡ tree.element (array c cell s) (pures_of subscripts) k at
read_element c cell k at [] s h = absurd (omega arith)
read_element c cell k at (x ∷ xs) s h = refl

pub store_element : (c : Call) (cell : Cell) (at : Place) (subscripts : List Pure) (value : PureTree) (s : State) → 0 < length subscripts
    → store_at c cell at (pures_of subscripts) value s ≡ emit (tree.put (array c cell s) (pures_of subscripts) value at) s
store_element c cell at [] value s h = absurd (omega arith)
store_element c cell at (x ∷ xs) value s h = refl

pub read_scalar : (c : Call) (cell : Cell) (k : CType) (at : Place) (subscripts : List Pure) (s : State) → length subscripts ≡ 0
    → read_at c cell k at (pures_of subscripts) s ≡ scalar c cell k
read_scalar c cell k at [] s h = refl
read_scalar c cell k at (x ∷ xs) s h = absurd (omega arith)

pub store_scalar : (c : Call) (cell : Cell) (at : Place) (subscripts : List Pure) (value : PureTree) (s : State) → length subscripts ≡ 0
    → store_at c cell at (pures_of subscripts) value s ≡ emit (tree.set (variable c cell) value) s
store_scalar c cell at [] value s h = refl
store_scalar c cell at (x ∷ xs) value s h = absurd (omega arith)

-- the value that is set first
abbrev set_first : VarId → PureTree → Stock → Part (Unit {0})
set_first own value s = emit (tree.set own value) (state_of s)

-- what an assignment and a `++` or `--` behind its target have in common
abbrev pub two_steps : Call → Change → PureTree → (VarId → PureTree) → State → Part PureTree
two_steps c t before stored s =
    then_ (fresh t.kind s) (λ own s1.
    then_ (emit (tree.set own before) s1) (λ set s2.
    then_ (store c t (stored own) s2) (λ stored s3. gives (tree.variable own t.kind) s3)))

pub steps_made : (c : Call) (t : Change) (before : PureTree) (stored : VarId → PureTree) (value value1 result : PureTree) (old mid1 mid2 new : Stock) (own : VarId) (u1 u2 : Unit {0})
    → value ≡ before → value1 ≡ stored own → result ≡ tree.variable own t.kind
    → IsMade old mid1 own (fresh t.kind (state_of old)) → IsMade mid1 mid2 u1 (emit (tree.set own value) (state_of mid1)) → IsMade mid2 new u2 (store c t value1 (state_of mid2))
    → IsMade old new result (two_steps c t before stored (state_of old))
steps_made c t before stored value value1 result old mid1 mid2 new own u1 u2 e f g h1 h2 h3 =
    let k2 : IsMade mid1 mid2 u1 (set_first own before mid1) = subst (λ (x : PureTree). IsMade mid1 mid2 u1 (set_first own x mid1)) e h2 in
    let k3 : IsMade mid2 new u2 (store c t (stored own) (state_of mid2)) = subst (λ (x : PureTree). IsMade mid2 new u2 (store c t x (state_of mid2))) f h3 in
    subst (λ (x : PureTree). IsMade old new x (two_steps c t before stored (state_of old))) (sym g)
    (made_behind _ _ _ _ _ _ _ h1 (made_behind _ _ _ _ _ _ _ k2 (made_behind _ _ _ _ _ _ _ k3 (nothing_made _ _))))

pub heavy_at_set : (c : Call) (t : Change) (before : PureTree) (stored : VarId → PureTree) (value : PureTree) (old mid1 : Stock) (own : VarId) (r : Refusal)
    → value ≡ before
    → IsMade old mid1 own (fresh t.kind (state_of old)) → IsTooHeavy mid1 r (emit (tree.set own value) (state_of mid1))
    → IsTooHeavy old r (two_steps c t before stored (state_of old))
heavy_at_set c t before stored value old mid1 own r e h1 h2 =
    let k2 : IsTooHeavy mid1 r (set_first own before mid1) = subst (λ (x : PureTree). IsTooHeavy mid1 r (set_first own x mid1)) e h2 in
    heavy_behind _ _ _ _ _ _ h1 (heavy_at_once _ _ _ _ k2)

pub heavy_at_store : (c : Call) (t : Change) (before : PureTree) (stored : VarId → PureTree) (value value1 : PureTree) (old mid1 mid2 : Stock) (own : VarId) (u1 : Unit {0}) (r : Refusal)
    → value ≡ before → value1 ≡ stored own
    → IsMade old mid1 own (fresh t.kind (state_of old)) → IsMade mid1 mid2 u1 (emit (tree.set own value) (state_of mid1)) → IsTooHeavy mid2 r (store c t value1 (state_of mid2))
    → IsTooHeavy old r (two_steps c t before stored (state_of old))
heavy_at_store c t before stored value value1 old mid1 mid2 own u1 r e f h1 h2 h3 =
    let k2 : IsMade mid1 mid2 u1 (set_first own before mid1) = subst (λ (x : PureTree). IsMade mid1 mid2 u1 (set_first own x mid1)) e h2 in
    let k3 : IsTooHeavy mid2 r (store c t (stored own) (state_of mid2)) = subst (λ (x : PureTree). IsTooHeavy mid2 r (store c t x (state_of mid2))) f h3 in
    heavy_behind _ _ _ _ _ _ h1 (heavy_behind _ _ _ _ _ _ k2 (heavy_at_once _ _ _ _ k3))
