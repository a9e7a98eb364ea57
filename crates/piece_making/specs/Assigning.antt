-- Assignments, `++` and `--`.
use Rattle.std.specs.Prelude.{Bool, Option, Some, None, if◌then◌else◌}
use Rattle.hls_base.specs.declared.place.Place.{Place}
use Rattle.c_token.specs.declared.ctype.CType.{CType}
use Rattle.c_tree.specs.declared.operator.Binary.{Binary}
use Rattle.c_tree.specs.declared.operator.Binary.TheVariants as b
use Rattle.c_value.specs.Values.{int_type}
use Rattle.c_value.specs.Operators.{binary_kind}
use Rattle.pieces.specs.declared.resolved.expression.Cell.{Cell}
use Rattle.pieces.specs.Trees as tree
use Rattle.pieces.specs.Trees.{PureTree, PureTrees}
use Rattle.pieces.specs.Kind.{kind}
use Rattle.pieces.specs.View.{pures_of}
use Rattle.piece_making.specs.declared.assignments.Change as declared
use Rattle.piece_making.specs.Making.{State, Part, gives, then_, emit, fresh}
use Rattle.piece_making.specs.Calls.{Call, scalar, variable, array}

-- a target whose subscripts are evaluated, the operator if there is one, and its place
pub record Change : Type 0 where
  pub cell : Cell
  pub kind : CType
  pub target_at : Place
  pub subscripts : PureTrees
  pub op : Option Binary
  pub at : Place

abbrev pub change : Cell → CType → Place → PureTrees → Option Binary → Place → Change
change cell kind target_at subscripts op at = record { cell = cell; kind = kind; target_at = target_at; subscripts = subscripts; op = op; at = at }

abbrev pub change_of : declared.Change → Change
change_of t = change t.target.now.cell t.target.now.kind t.target.now.at (pures_of t.subscripts.items) t.op t.at

-- what `++` and `--` do
abbrev pub step : Bool → Option Binary
step up = if up then Some b.Add else Some b.Sub

abbrev pub one : PureTree
one = tree.number 1 int_type

-- the target: a scalar, or an element where there are subscripts
abbrev pub read_at : Call → Cell → CType → Place → PureTrees → State → PureTree
read_at c cell k at tree.none s = scalar c cell k
read_at c cell k at (tree.more first rest) s = tree.element (array c cell s) (tree.more first rest) k at

abbrev pub target_read : Call → Change → State → PureTree
target_read c t s = read_at c t.cell t.kind t.target_at t.subscripts s

abbrev pub store_at : Call → Cell → Place → PureTrees → PureTree → State → Part (Unit {0})
store_at c cell at tree.none value s = emit (tree.set (variable c cell) value) s
store_at c cell at (tree.more first rest) value s = emit (tree.put (array c cell s) (tree.more first rest) value at) s

abbrev pub store : Call → Change → PureTree → State → Part (Unit {0})
store c t value s = store_at c t.cell t.target_at t.subscripts value s

-- the new value of the target, whose old one is `left`
abbrev pub computed : Option Binary → CType → Place → PureTree → PureTree → PureTree
computed None k at left value = value
computed (Some op) k at left value = tree.binary op left value (binary_kind op k (kind value)) at

abbrev pub new_value : Change → PureTree → PureTree → PureTree
new_value t left value = computed t.op t.kind t.at left value

-- a change whose value is not used
abbrev pub apply : Call → Change → PureTree → State → Part (Unit {0})
apply c t by s = store c t (new_value t (target_read c t s) by) s

-- an assignment inside an expression: its value stands in a variable of its own, which is then assigned
abbrev pub assigned : Call → Change → PureTree → State → Part PureTree
assigned c t by s =
    then_ (fresh t.kind s) (λ own s1.
    then_ (emit (tree.set own (new_value t (target_read c t s) by)) s1) (λ set s2.
    then_ (store c t (tree.variable own t.kind) s2) (λ stored s3. gives (tree.variable own t.kind) s3)))

-- behind its target `++` or `--` has the value from before
abbrev pub bumped_behind : Call → Change → State → Part PureTree
bumped_behind c t s =
    then_ (fresh t.kind s) (λ own s1.
    then_ (emit (tree.set own (target_read c t s)) s1) (λ set s2.
    then_ (store c t (new_value t (tree.variable own t.kind) one) s2) (λ stored s3. gives (tree.variable own t.kind) s3)))

abbrev pub bumped : Call → Change → Bool → State → Part PureTree
bumped c t post s = if post then bumped_behind c t s else assigned c t one s
