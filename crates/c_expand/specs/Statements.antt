-- What statements become.
use Rattle.std.specs.Prelude.{ℕ, ◌+◌, ◌/◌, ◌%◌, max, Bool, true, false, ◌&&◌, List, [], ◌∷◌, map, Option, Some, None, slice_get, if◌then◌else◌}
use Rattle.hls_base.specs.declared.place.Place.{Place}
use Rattle.hls_base.specs.declared.point.PointKind.{PointKind}
use Rattle.hls_base.specs.declared.point.PointKind.TheVariants as point
use Rattle.hls_base.specs.declared.number.VarId.{VarId}
use Rattle.hls_base.specs.declared.number.ArrayId.{ArrayId}
use Rattle.hls_base.specs.ArrayAddress.{element_count}
use Rattle.c_value.specs.Values.{int_type}
use Rattle.pieces.specs.Resolved.Core as core
use Rattle.pieces.specs.Resolved.Core.{CoreTree, CoreObjectTree, CoreInitTree, CoreActionTree, CoreStmtTree, CoreStmtTrees, CoreElseTree}
use Rattle.pieces.specs.Trees as tree
use Rattle.pieces.specs.Trees.{PureTree, PureTrees, piece_row}
use Rattle.pieces.specs.Kind.{kind}
use Rattle.piece_making.specs.declared.frame.Home.{Home}
use Rattle.piece_making.specs.declared.frame.Home.TheVariants as home
use Rattle.piece_making.specs.Making.{State, Part, Inner, gives, then_, emit, inside, inside_switch, label, declared, next_loop, note_array, variable_number}
use Rattle.piece_making.specs.Calls.{Call, point_in}
use Rattle.piece_making.specs.Acting.{no_effects, effects}
use Rattle.piece_making.specs.Leaving.{is_empty}
use Rattle.piece_making.specs.Assigning.{step, one, apply}
use Rattle.piece_making.specs.Objects.{local_array}
use Rattle.c_expand.specs.Expressions.{Callee, expression, targeted, is_call, discarded}

abbrev pub marked : Call → PointKind → Place → State → Part (Unit {0})
marked c kind at s = emit (tree.mark (point_in c kind at)) s

-- ---- actions

-- an expression whose value is not used: where it is no call, it is set into a variable of its own
unfoldable pub valued : Callee → Call → CoreTree → State → Part (Unit {0})
valued f c e s = then_ (expression f c e s) (λ x s1. discarded (is_call e) x s1)

-- an assignment, `++` or `--` that stands by itself
unfoldable pub changed : Callee → Call → CoreTree → State → Part (Unit {0})
changed f c (core.assign left op value at) s =
    then_ (targeted f c left (effects value) op at s) (λ t s1. then_ (expression f c value s1) (λ by s2. apply c t by s2))
changed f c (core.bump left up post at) s = then_ (targeted f c left no_effects (step up) at s) (λ t s1. apply c t one s1)
changed f c e s = valued f c e s

abbrev pub action : Callee → Call → CoreActionTree → State → Part (Unit {0})
action f c (core.change e) s = changed f c e s
action f c (core.value e) s = valued f c e s

unfoldable pub actions : Callee → Call → List CoreActionTree → State → Part (Unit {0})
actions f c [] s = gives tt s
actions f c (first ∷ rest) s = then_ (action f c first s) (λ u s1. actions f c rest s1)

-- ---- declarations

-- the subscripts of the element with this number, row by row
abbrev pub at_least_one : ℕ → ℕ
at_least_one n = max n 1

abbrev pub subscripts_at : List ℕ → ℕ → PureTrees
subscripts_at [] n = tree.none
subscripts_at (len ∷ lengths) n =
    tree.more (tree.number ((n / element_count (map at_least_one lengths)) % at_least_one len) int_type) (subscripts_at lengths n)

-- a missing item is 0
abbrev pub item_value : Callee → Call → Option CoreTree → State → Part PureTree
item_value f c None s = gives (tree.number 0 int_type) s
item_value f c (Some e) s = expression f c e s

-- the elements of an array from that with number n on
abbrev pub filled : Callee → Call → ArrayId → List ℕ → ℕ → List (Option CoreTree) → State → Part (Unit {0})
filled f c array lengths n [] s = gives tt s
filled f c array lengths n (item ∷ items) s =
    then_ (item_value f c item s) (λ x s1.
    then_ (emit (tree.put array (subscripts_at lengths n) x c.body_at) s1) (λ u s2. filled f c array lengths (n + 1) items s2))

abbrev pub initialised : Callee → Call → ArrayId → List ℕ → CoreInitTree → State → Part (Unit {0})
initialised f c array lengths core.unwritten s = gives tt s
initialised f c array lengths (core.single value) s = gives tt s
initialised f c array lengths (core.elements items) s = filled f c array lengths 0 items s

-- a scalar without initialiser makes no piece, and weighs 1
abbrev pub scalar_declared : Callee → Call → VarId → CoreInitTree → State → Part (Unit {0})
scalar_declared f c own core.unwritten s = declared 1 s
scalar_declared f c own (core.single value) s = then_ (expression f c value s) (λ x s1. emit (tree.set own x) s1)
scalar_declared f c own (core.elements items) s = gives tt s

abbrev pub declared_as : Callee → Call → Option Home → Option CoreObjectTree → CoreInitTree → State → Part (Unit {0})
declared_as f c (Some (home.Variable own)) object init s = scalar_declared f c own init s
declared_as f c (Some (home.Local slot)) (Some o) init s =
    then_ (local_array o s) (λ array s1. then_ (note_array slot array s1) (λ u s2. initialised f c array o.lengths init s2))
declared_as f c _ object init s = gives tt s

abbrev pub declare : Callee → Call → ℕ → CoreInitTree → State → Part (Unit {0})
declare f c object init s = declared_as f c (slice_get c.homes object) (slice_get c.objects object) init s

-- ---- loops

-- a loop without a test has the number 1
abbrev pub tested : Callee → Call → Option CoreTree → State → Part PureTree
tested f c None s = gives one s
tested f c (Some e) s = expression f c e s

unfoldable pub stepped : Callee → Call → List CoreActionTree → Place → State → Part (Unit {0})
stepped f c [] at s = gives tt s
stepped f c (first ∷ rest) at s = then_ (marked c point.Step at s) (λ u s1. actions f c (first ∷ rest) s1)

abbrev pub loop_body : Call → Place → (State → Part (Unit {0})) → State → Part (Inner (Unit {0}))
loop_body c at body s = inside (λ s0. then_ (marked c point.Body at s0) (λ u s1. body s1)) s

abbrev pub repeat : Callee → Call → Bool → Option CoreTree → (State → Part (Unit {0})) → List CoreActionTree → Place → State → Part (Unit {0})
repeat f c post test body steps at s =
    then_ (next_loop s) (λ id s1.
    then_ (inside (λ s0. then_ (marked c point.Test at s0) (λ u s5. tested f c test s5)) s1) (λ before s2.
    then_ (loop_body c at body s2) (λ main s3.
    then_ (inside (stepped f c steps at) s3) (λ last s4.
    emit (tree.repeat_ id post (piece_row before.pieces) before.value (piece_row main.pieces) (piece_row last.pieces) (point_in c point.End at)) s4))))

-- ---- returns

abbrev pub result_variable : Option VarId → VarId
result_variable (Some own) = own
result_variable None = variable_number 0

abbrev pub result_set : Callee → Call → Option CoreTree → State → Part (Unit {0})
result_set f c None s = gives tt s
result_set f c (Some e) s = then_ (expression f c e s) (λ x s1. emit (tree.set (result_variable c.result) x) s1)

-- in a tail position control goes on to the end of the call by itself
abbrev pub returned : Callee → Call → Option CoreTree → Bool → State → Part (Unit {0})
returned f c value tail s = then_ (result_set f c value s) (λ u s1. if tail then gives tt s1 else emit (tree.leave c.call) s1)

-- ---- statements

abbrev pub branch : Call → Place → (State → Part (Unit {0})) → State → Part (Inner (Unit {0}))
branch c at body s = inside (λ s0. then_ (marked c point.Arm at s0) (λ u s1. body s1)) s

-- a label of the switch round it, and its mark
abbrev pub labelled : Call → Option ℕ → Place → State → Part (Unit {0})
labelled c value at s = then_ (label value s) (λ u s1. marked c point.Arm at s1)

abbrev pub switched : Callee → Call → CoreTree → (State → Part (Unit {0})) → Place → State → Part (Unit {0})
switched f c test body at s =
    then_ (expression f c test s) (λ t s1.
    then_ (inside_switch body s1) (λ main s2. emit (tree.pick t main.1 (piece_row main.0) (point_in c point.End at)) s2))

abbrev mutual
  -- `tail` says that the statement is in a tail position
  pub statement : Callee → Call → CoreStmtTree → Bool → State → Part (Unit {0})
  statement f c (core.block objects body) tail s = statements f c body tail s
  statement f c (core.declare object init) tail s = declare f c object init s
  statement f c (core.act list) tail s = actions f c list s
  statement f c (core.if_ test body other at) tail s =
      then_ (expression f c test s) (λ t s1.
      then_ (branch c at (statement f c body tail) s1) (λ first s2.
      then_ (other_branch f c other tail s2) (λ second s3.
      emit (tree.fork t (piece_row first.pieces) (piece_row second.pieces) (point_in c point.End at)) s3)))
  statement f c (core.switch_ test objects body at) tail s = switched f c test (statements f c body false) at s
  statement f c (core.case_ value body at) tail s = then_ (labelled c value at s) (λ u s1. statement f c body false s1)
  statement f c (core.while_ test body at) tail s = repeat f c false (Some test) (statement f c body false) [] at s
  statement f c (core.do_ body test at) tail s = repeat f c true (Some test) (statement f c body false) [] at s
  statement f c (core.for_ objects init test steps body at) tail s =
      then_ (statements f c init false s) (λ u s1. repeat f c false test (statement f c body false) steps at s1)
  statement f c core.break_ tail s = emit tree.break_ s
  statement f c core.continue_ tail s = emit tree.next_ s
  statement f c (core.return_ value) tail s = returned f c value tail s

  pub other_branch : Callee → Call → CoreElseTree → Bool → State → Part (Inner (Unit {0}))
  other_branch f c core.no_else tail s = inside (λ s0. gives tt s0) s
  other_branch f c (core.else_ at body) tail s = branch c at (statement f c body tail) s

  -- the last statement is in a tail position where the whole is
  pub statements : Callee → Call → CoreStmtTrees → Bool → State → Part (Unit {0})
  statements f c core.no_stmt tail s = gives tt s
  statements f c (core.more_stmts first rest) tail s =
      then_ (statement f c first (tail && is_empty rest) s) (λ u s1. statements f c rest tail s1)
