-- Parts of an expansion, one after another: each makes pieces, behind those that are made already.
use Rattle.std.specs.Prelude.{ℕ, ◌+◌, List, [], ◌∷◌, ◌++◌, length, slice_set, Option, Some, None}
use Rattle.hls_base.specs.declared.number.VarId.{VarId}
use Rattle.hls_base.specs.declared.number.ArrayId.{ArrayId}
use Rattle.hls_base.specs.declared.number.LoopId.{LoopId}
use Rattle.c_token.specs.declared.ctype.CType.{CType}
use Rattle.pieces.specs.declared.piece.CallId.{CallId}
use Rattle.pieces.specs.declared.piece.Label.{Label}
use Rattle.piece_making.specs.declared.work.Slot.{Slot}
use Rattle.pieces.specs.Trees as tree
use Rattle.pieces.specs.Trees.{PureTree, PieceTree}
use Rattle.pieces.specs.Program.{ArrayTree}
use Rattle.pieces.specs.Weight.{weight, weights, mark_weight}

-- What is made so far: the types of the variables, the arrays, the array of each declaration of a local array that was reached, how many calls and loops there are, and how many pieces stand in the list that is being made.
pub record State : Type 0 where
  pub variables : List CType
  pub arrays : List ArrayTree
  pub slots : List (Option ArrayId)
  pub calls : ℕ
  pub loops : ℕ
  pub made : ℕ

-- What a part of the program becomes: the pieces, and the labels of the switch round it. It may have a value. Its weight is that of all that is made in it.
pub record Part (A : Type 0) : Type 0 where
  pub value : A
  pub pieces : List PieceTree
  pub labels : List Label
  pub weight : ℕ
  pub state : State

-- nothing is made
abbrev pub gives : {A : Type 0} → A → State → Part A
gives value s = record { value = value; pieces = []; labels = []; weight = 0; state = s }

abbrev pub behind : {A B : Type 0} → Part A → Part B → Part B
behind first second = record {
  value = second.value;
  pieces = first.pieces ++ second.pieces;
  labels = first.labels ++ second.labels;
  weight = first.weight + second.weight;
  state = second.state;
}

-- the part `next` behind this one
unfoldable pub then_ : {A B : Type 0} → Part A → (A → State → Part B) → Part B
then_ first next = behind first (next first.value first.state)

-- ---- single pieces

-- What a piece weighs without the pieces and labels in it: 1, and 1 for each node of its expressions. A mark weighs 1 where it is the Begin of a call, and else nothing.
abbrev pub own_weight : PieceTree → ℕ
own_weight (tree.set name value) = 1 + weight value
own_weight (tree.put array subscripts value at) = 1 + weights subscripts + weight value
own_weight (tree.fork test left right end) = 1 + weight test
own_weight (tree.repeat_ id post before test body step end) = 1 + weight test
own_weight (tree.pick test labels body end) = 1 + weight test
own_weight tree.break_ = 1
own_weight tree.next_ = 1
own_weight (tree.leave call) = 1
own_weight (tree.land call end) = mark_weight end
own_weight (tree.mark point) = mark_weight point

unfoldable pub emit : PieceTree → State → Part (Unit {0})
emit piece s = record { value = tt; pieces = piece ∷ []; labels = []; weight = own_weight piece; state = record s { made = s.made + 1 } }

-- a label of the switch round it, at the piece that comes next
unfoldable pub label : Option ℕ → State → Part (Unit {0})
label value s = record { value = tt; pieces = []; labels = record { value = value; target = s.made } ∷ []; weight = 1; state = s }

-- a declaration
unfoldable pub declared : ℕ → State → Part (Unit {0})
declared weight s = record { value = tt; pieces = []; labels = []; weight = weight; state = s }

-- ---- lists of pieces within a piece

pub record Inner (A : Type 0) : Type 0 where
  pub value : A
  pub pieces : List PieceTree

abbrev pub enclosed : {A : Type 0} → ℕ → Part A → Part (Inner A)
enclosed made part = record {
  value = record { value = part.value; pieces = part.pieces };
  pieces = [];
  labels = part.labels;
  weight = part.weight;
  state = record part.state { made = made };
}

-- the pieces of a part in a list of their own
unfoldable pub inside : {A : Type 0} → (State → Part A) → State → Part (Inner A)
inside part s = enclosed s.made (part (record s { made = 0 }))

-- the same of a switch's body, whose labels become its own
abbrev pub with_labels : {A : Type 0} → Part (Inner A) → Part (List PieceTree × List Label)
with_labels part = record { value = (part.value.pieces, part.labels); pieces = []; labels = []; weight = part.weight; state = part.state }

unfoldable pub inside_switch : {A : Type 0} → (State → Part A) → State → Part (List PieceTree × List Label)
inside_switch part s = with_labels (inside part s)

-- ---- variables, arrays, calls and loops of their own

abbrev pub variable_number : ℕ → VarId
variable_number n = record { 0 = n }

abbrev pub array_number : ℕ → ArrayId
array_number n = record { 0 = n }

unfoldable pub fresh : CType → State → Part VarId
fresh kind s = gives (variable_number (length s.variables)) (record s { variables = s.variables ++ kind ∷ [] })

-- the variable of a call's result, if it has one
unfoldable pub fresh_result : Option CType → State → Part (Option VarId)
fresh_result None s = gives None s
fresh_result (Some kind) s = then_ (fresh kind s) (λ own s1. gives (Some own) s1)

unfoldable pub add_array : ArrayTree → State → Part ArrayId
add_array a s = gives (array_number (length s.arrays)) (record s { arrays = s.arrays ++ a ∷ [] })

-- a place for an array whose declaration is not reached yet
unfoldable pub new_slot : State → Part Slot
new_slot s = gives (record { 0 = length s.slots }) (record s { slots = s.slots ++ None ∷ [] })

-- the array of a declaration that is reached is noted
unfoldable pub note_array : Slot → ArrayId → State → Part (Unit {0})
note_array slot array s = gives tt (record s { slots = slice_set s.slots slot.0 (Some array) })

-- the array that is noted there
abbrev pub noted : Option (Option ArrayId) → ArrayId
noted (Some (Some array)) = array
noted _ = array_number 0

unfoldable pub next_call : State → Part CallId
next_call s = gives (record { 0 = s.calls }) (record s { calls = s.calls + 1 })

unfoldable pub next_loop : State → Part LoopId
next_loop s = gives (record { 0 = s.loops }) (record s { loops = s.loops + 1 })

-- a variable of its own with this value, read as an expression
unfoldable pub set_own : CType → PureTree → State → Part PureTree
set_own kind value s = then_ (fresh kind s) (λ own s1. then_ (emit (tree.set own value) s1) (λ done s2. gives (tree.variable own kind) s2))
