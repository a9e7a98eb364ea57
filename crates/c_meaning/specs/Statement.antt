-- What a statement means: C11 6.7.9 and 6.8, with the points that a run passes.
use Rattle.std.specs.Prelude.{ℕ, zero, suc, ◌+◌, ◌*◌, ◌-◌, ◌&&◌, ◌||◌, Bool, true, false, List, [], ◌∷◌, ◌++◌, length, replicate, ℤ, pos, Option, Some, None, if◌then◌else◌}
use Rattle.std.specs.Ordering.{int_eq}
use Rattle.hls_base.specs.declared.place.Place.{Place}
use Rattle.hls_base.specs.declared.point.PointKind.TheVariants as point
use Rattle.hls_base.specs.ArrayAddress.{element_count}
use Rattle.c_token.specs.declared.ctype.CType.{CType}
use Rattle.c_tree.specs.Tree as tree
use Rattle.c_tree.specs.Tree.{Tree, ActionTree, InitTree, InitTrees, ObjectTree, StmtTree, ElseTree, FirstTree, StmtTrees}
use Rattle.c_value.specs.Values.{promoted, convert}
use Rattle.c_value.specs.Operators.{is_true}
use Rattle.c_value.specs.Constant as k
use Rattle.c_value.specs.Constant.{ConstantValue, constant_value}
use Rattle.c_meaning.specs.declared.value.Completion.{Completion}
use Rattle.c_meaning.specs.declared.value.Completion.TheVariants as end
use Rattle.c_meaning.specs.declared.value.Round.{Round}
use Rattle.c_meaning.specs.declared.value.Round.TheVariants as round
use Rattle.c_meaning.specs.Store.{State, Environment, declared, all_declared, declared_by, declared_in, declared_first, entered, inside, left_block, lengths_in, forget, kind_of_object, write_element}
use Rattle.c_meaning.specs.Steps.{Ran, goes, waits, then_, pass}
use Rattle.c_meaning.specs.Expression.{Calls, expression_meaning}

-- ---- declarations, C11 6.7.9

-- the elements of an array of these lengths that an initialiser gives, row by row: an expression for each, or none where it is missing
abbrev mutual
  pub items_of : List ℕ → InitTree → List (Option Tree)
  items_of lengths (tree.single v) = Some v ∷ []
  items_of [] (tree.braced items at) = []
  items_of (len ∷ lengths) (tree.braced items at) = rows_of len lengths items

  pub rows_of : ℕ → List ℕ → InitTrees → List (Option Tree)
  rows_of len lengths tree.no_init = replicate (len * element_count lengths) None
  rows_of len lengths (tree.more_inits first rest) = items_of lengths first ++ rows_of (len - 1) lengths rest

-- elements from one of this number on that become 0
abbrev pub zeros : ℕ → ℕ → ℕ → State → State
zeros zero object element s = s
zeros (suc n) object element s = zeros n object (element + 1) (write_element s object element (pos 0))

-- The items are evaluated, converted and written one after another, each in the place of its row, and elements without an item are 0 in their turn (C11 6.7.9 paragraph 21). No program without faults has more items than rows.
abbrev mutual
  pub initialise : Calls → ℕ → List ℕ → InitTree → ℕ → Environment → State → Ran (Unit {0})
  initialise c object lengths (tree.single v) element env s =
      then_ (expression_meaning c true v env s) (λ x s1. goes tt (write_element s1 object element (convert (kind_of_object s1 object) x.number)))
  initialise c object [] (tree.braced items at) element env s = goes tt s
  initialise c object (len ∷ lengths) (tree.braced items at) element env s = initialise_rows c object len lengths items element env s

  pub initialise_rows : Calls → ℕ → ℕ → List ℕ → InitTrees → ℕ → Environment → State → Ran (Unit {0})
  initialise_rows c object rows lengths tree.no_init element env s = goes tt (zeros (rows * element_count lengths) object element s)
  initialise_rows c object zero lengths (tree.more_inits first rest) element env s = goes tt s
  initialise_rows c object (suc rows) lengths (tree.more_inits first rest) element env s =
      then_ (initialise c object lengths first element env s) (λ u s1. initialise_rows c object rows lengths rest (element + element_count lengths) env s1)

-- A declaration that is reached gives its object what its initialiser says, and an object without one is unwritten from then on (C11 6.2.4 paragraph 6).
abbrev pub declare_object : Calls → ℕ → List ℕ → Option InitTree → Environment → State → Ran (Unit {0})
declare_object c object lengths None env s = goes tt (forget s object)
declare_object c object lengths (Some init) env s = initialise c object lengths init 0 env s

abbrev pub declare_all : Calls → List ObjectTree → Environment → State → Ran (Unit {0})
declare_all c [] env s = goes tt s
declare_all c (o ∷ os) env s =
    then_ (declare_object c env.next (lengths_in o) o.init (declared env o.name) s) (λ u s1. declare_all c os (declared env o.name) s1)

-- ---- expressions as statements, C11 6.8.3

abbrev pub action_tree : ActionTree → Tree
action_tree (tree.assignment place op v at) = tree.assign place op v at
action_tree (tree.bumping place up at) = tree.bump place up false at
action_tree (tree.evaluation v) = v

abbrev pub act_all : Calls → List ActionTree → Environment → State → Ran (Unit {0})
act_all c [] env s = goes tt s
act_all c (a ∷ more) env s = then_ (expression_meaning c false (action_tree a) env s) (λ v s1. act_all c more env s1)

-- ---- one after another

abbrev pub go_on : Completion → (State → Ran Completion) → State → Ran Completion
go_on end.Normal rest s = rest s
go_on r rest s = goes r s

abbrev pub is_last : StmtTrees → Bool
is_last tree.no_stmt = true
is_last (tree.more_stmts first rest) = false

-- the objects live in this part of a run
abbrev pub in_block : List ObjectTree → (Environment → State → Ran Completion) → Environment → State → Ran Completion
in_block os part env s = then_ (part (inside s env) (entered os s)) (λ r s1. goes r (left_block (length s.objects) s1))

-- ---- selection, C11 6.8.4

-- Control is behind an `if`, or a return in a tail position leaves it.
abbrev pub behind_if : Completion → Place → Environment → State → Ran Completion
behind_if end.Normal at env s = then_ (pass point.End at env s) (λ p s1. goes end.Normal s1)
behind_if (end.Returned n true) at env s = then_ (pass point.End at env s) (λ p s1. goes (end.Returned n true) s1)
behind_if r at env s = goes r s

abbrev pub arm : Place → (Environment → State → Ran Completion) → Environment → State → Ran Completion
arm at part env s = then_ (pass point.Arm at env s) (λ p s1. part env s1)

-- control is behind a switch or a loop
abbrev pub behind_breakable : Completion → Place → Environment → State → Ran Completion
behind_breakable end.Normal at env s = then_ (pass point.End at env s) (λ p s1. goes end.Normal s1)
behind_breakable end.Broke at env s = then_ (pass point.End at env s) (λ p s1. goes end.Normal s1)
behind_breakable r at env s = goes r s

-- C11 6.8.4.2 paragraph 5: a case value is converted to the promoted type of the controlling expression
abbrev pub is_case : CType → ℤ → ConstantValue → Bool
is_case kind n (k.constant kind' m) = int_eq (convert kind m) n
is_case kind n _ = false

abbrev pub is_label : CType → ℤ → Option Tree → Bool
is_label kind n None = false
is_label kind n (Some t) = is_case kind n (constant_value t)

abbrev pub is_default : Option Tree → Bool
is_default None = true
is_default (Some t) = false

-- the statement has such a label in front
abbrev pub has_label : (Option Tree → Bool) → StmtTree → Bool
has_label wanted (tree.case_ v body at) = wanted v || has_label wanted body
has_label wanted _ = false

abbrev pub any_label : (Option Tree → Bool) → StmtTrees → Bool
any_label wanted tree.no_stmt = false
any_label wanted (tree.more_stmts first rest) = has_label wanted first || any_label wanted rest

-- the label to which a switch jumps: the case of this number, or else the default
abbrev pub target_label : CType → ℤ → StmtTrees → Option Tree → Bool
target_label kind n body = if any_label (is_label kind n) body then is_label kind n else is_default

-- ---- iteration, C11 6.8.5

abbrev pub round_of : Completion → Round
round_of end.Normal = round.Again
round_of end.Continued = round.Again
round_of end.Broke = round.Over
round_of (end.Returned n tail) = round.Out n

abbrev pub if_again : Round → (State → Ran Round) → State → Ran Round
if_again round.Again rest s = rest s
if_again r rest s = goes r s

-- Iterations, of which each passes a point, so that their number is at most that of the points that may be passed.
abbrev pub repeat : ℕ → (State → Ran Round) → State → Ran Round
repeat zero round s = waits
repeat (suc n) round s = then_ (round s) (λ r s1. if_again r (repeat n round) s1)

abbrev pub completion_of : Round → Completion
completion_of (round.Out n) = end.Returned n false
completion_of _ = end.Normal

abbrev pub behind_loop : Round → Place → Environment → State → Ran Completion
behind_loop r at env s = behind_breakable (completion_of r) at env s

abbrev pub loop : Place → Environment → (State → Ran Round) → State → Ran Completion
loop at env round s = then_ (repeat s.left round s) (λ r s1. behind_loop r at env s1)

-- a `for` without a controlling expression goes on
abbrev pub test_holds : Calls → Option Tree → Environment → State → Ran Bool
test_holds c None env s = goes true s
test_holds c (Some t) env s = then_ (expression_meaning c true t env s) (λ x s1. goes (is_true x.number) s1)

abbrev pub tested : Calls → Option Tree → Place → Environment → State → Ran Bool
tested c test at env s = then_ (pass point.Test at env s) (λ p s1. test_holds c test env s1)

abbrev pub run_body : (Environment → State → Ran Completion) → Place → Environment → State → Ran Round
run_body body at env s = then_ (pass point.Body at env s) (λ p s1. then_ (body env s1) (λ r s2. goes (round_of r) s2))

-- the third part of a `for`, where there is one
abbrev pub run_step : Calls → List ActionTree → Place → Environment → State → Ran Round
run_step c [] at env s = goes round.Again s
run_step c (a ∷ more) at env s = then_ (pass point.Step at env s) (λ p s1. then_ (act_all c (a ∷ more) env s1) (λ u s2. goes round.Again s2))

-- a test, the body where it holds, and the step
abbrev pub test_first : Calls → Option Tree → (Environment → State → Ran Completion) → List ActionTree → Place → Environment → State → Ran Round
test_first c test body step at env s =
    then_ (tested c test at env s) (λ holds s1.
    if holds then then_ (run_body body at env s1) (λ r s2. if_again r (run_step c step at env) s2) else goes round.Over s1)

-- the body, and then a test
abbrev pub test_last : Calls → Tree → (Environment → State → Ran Completion) → Place → Environment → State → Ran Round
test_last c test body at env s =
    then_ (run_body body at env s) (λ r s1. if_again r (λ s2. then_ (tested c (Some test) at env s2) (λ holds s3. goes (if holds then round.Again else round.Over) s3)) s1)

-- ---- statements

abbrev pub converted_result : Option CType → ℤ → ℤ
converted_result None n = n
converted_result (Some kind) n = convert kind n

-- the number that a return gives, in the type of the function's result
abbrev pub returned_number : Calls → Option Tree → Environment → State → Ran (Option ℤ)
returned_number c None env s = goes None s
returned_number c (Some t) env s = then_ (expression_meaning c true t env s) (λ x s1. goes (Some (converted_result env.result x.number)) s1)

abbrev mutual
  -- The flag says whether the statement is in a tail position.
  pub statement_meaning : Calls → Bool → StmtTree → Environment → State → Ran Completion
  statement_meaning c tail (tree.block body) env s = in_block (declared_in body) (items_meaning c tail body) env s
  statement_meaning c tail (tree.declare objects) env s = then_ (declare_all c objects env s) (λ u s1. goes end.Normal s1)
  statement_meaning c tail (tree.act actions) env s = then_ (act_all c actions env s) (λ u s1. goes end.Normal s1)
  statement_meaning c tail (tree.if_ test body other at) env s =
      then_ (expression_meaning c true test env s) (λ x s1.
      then_ (if is_true x.number then arm at (statement_meaning c tail body) env s1 else else_meaning c tail other env s1) (λ r s2. behind_if r at env s2))
  statement_meaning c tail (tree.switch_ test body at) env s =
      then_ (expression_meaning c true test env s) (λ x s1.
      then_ (in_block (declared_in body) (jump_meaning c (target_label (promoted x.kind) (convert (promoted x.kind) x.number) body) body) env s1) (λ r s2. behind_breakable r at env s2))
  statement_meaning c tail (tree.case_ v body at) env s = arm at (statement_meaning c false body) env s
  statement_meaning c tail (tree.while_ test body at) env s = loop at env (test_first c (Some test) (statement_meaning c false body) [] at env) s
  statement_meaning c tail (tree.do_ body test at) env s = loop at env (test_last c test (statement_meaning c false body) at env) s
  statement_meaning c tail (tree.for_ init test step body at) env s =
      in_block (declared_first init) (λ env1 s1. then_ (first_meaning c init env1 s1) (λ u s2.
      loop at (all_declared env1 (declared_first init)) (test_first c test (statement_meaning c false body) step at (all_declared env1 (declared_first init))) s2)) env s
  statement_meaning c tail (tree.break_ at) env s = goes end.Broke s
  statement_meaning c tail (tree.continue_ at) env s = goes end.Continued s
  statement_meaning c tail (tree.return_ v at) env s = then_ (returned_number c v env s) (λ n s1. goes (end.Returned n tail) s1)

  pub else_meaning : Calls → Bool → ElseTree → Environment → State → Ran Completion
  else_meaning c tail tree.no_else env s = goes end.Normal s
  else_meaning c tail (tree.else_ at body) env s = arm at (statement_meaning c tail body) env s

  pub first_meaning : Calls → FirstTree → Environment → State → Ran Completion
  first_meaning c tree.no_first env s = goes end.Normal s
  first_meaning c (tree.first part) env s = statement_meaning c false part env s

  -- the items of a block, each with the names that are declared before it
  pub items_meaning : Calls → Bool → StmtTrees → Environment → State → Ran Completion
  items_meaning c tail tree.no_stmt env s = goes end.Normal s
  items_meaning c tail (tree.more_stmts first rest) env s =
      then_ (statement_meaning c (tail && is_last rest) first env s) (λ r s1. go_on r (items_meaning c tail rest (all_declared env (declared_by first))) s1)

  -- the items of a switch from a label on; the objects that are declared before it are in scope too
  pub jump_meaning : Calls → (Option Tree → Bool) → StmtTrees → Environment → State → Ran Completion
  jump_meaning c wanted tree.no_stmt env s = goes end.Normal s
  jump_meaning c wanted (tree.more_stmts first rest) env s =
      if has_label wanted first
      then then_ (labelled_meaning c wanted first env s) (λ r s1. go_on r (items_meaning c false rest (all_declared env (declared_by first))) s1)
      else jump_meaning c wanted rest (all_declared env (declared_by first)) s

  -- a statement from a label of its own on
  pub labelled_meaning : Calls → (Option Tree → Bool) → StmtTree → Environment → State → Ran Completion
  labelled_meaning c wanted (tree.case_ v body at) env s =
      if wanted v then arm at (statement_meaning c false body) env s else labelled_meaning c wanted body env s
  labelled_meaning c wanted _ env s = goes end.Normal s

-- the branch of an `if` that its test chooses
abbrev pub branch_meaning : Calls → Bool → Bool → Place → StmtTree → ElseTree → Environment → State → Ran Completion
branch_meaning c tail holds at body other env s = if holds then arm at (statement_meaning c tail body) env s else else_meaning c tail other env s
