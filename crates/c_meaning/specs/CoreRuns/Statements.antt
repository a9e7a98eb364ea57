-- What a core statement means: C11 6.7.9 and 6.8, with the points that a run passes.
use Rattle.std.specs.Prelude.{ℕ, zero, suc, ◌+◌, ◌==◌, ◌&&◌, Bool, true, false, List, [], ◌∷◌, ℤ, pos, slice_get, Option, Some, None, if◌then◌else◌}
use Rattle.hls_base.specs.declared.place.Place.{Place}
use Rattle.hls_base.specs.declared.point.PointKind.TheVariants as point
use Rattle.c_token.specs.declared.ctype.CType.{CType}
use Rattle.c_value.specs.Values.{int_type, promoted, pattern, convert}
use Rattle.c_value.specs.Operators.{is_true}
use Rattle.c_meaning.specs.declared.value.Completion.{Completion}
use Rattle.c_meaning.specs.declared.value.Completion.TheVariants as end
use Rattle.c_meaning.specs.declared.value.Round.{Round}
use Rattle.c_meaning.specs.declared.value.Round.TheVariants as round
use Rattle.c_meaning.specs.Store.{forgotten}
use Rattle.c_meaning.specs.Statement.{round_of, completion_of}
use Rattle.pieces.specs.Resolved.Core as core
use Rattle.pieces.specs.Resolved.Core.{CoreTree, CoreInitTree, CoreActionTree, CoreStmtTree, CoreElseTree, CoreStmtTrees, CoreObjectTree}
use Rattle.hls_base.specs.Steps.{Ran, goes, waits, then_, pass, reached}
use Rattle.c_meaning.specs.CoreRuns.Kinds.{kind_of}
use Rattle.c_meaning.specs.CoreRuns.Cells.{Spot, Cells, put, Here, entered}
use Rattle.c_meaning.specs.CoreRuns.Expressions.{CoreCalls, point_at, written, expression}

-- ---- declarations, C11 6.7.9

abbrev pub kind_in : Option CoreObjectTree → CType
kind_in None = int_type
kind_in (Some o) = o.kind

-- The items are evaluated, converted and written one after another, and elements without an item are 0 in their turn (C11 6.7.9 paragraph 21).
abbrev pub initialise : CoreCalls → Spot → CType → List (Option CoreTree) → ℕ → Here → Cells → ℕ → Ran Cells (Unit {0})
initialise c x kind [] element here s n = goes tt s n
initialise c x kind (None ∷ items) element here s n = initialise c x kind items (element + 1) here (written x element (pos 0) s) n
initialise c x kind (Some v ∷ items) element here s n =
    then_ (expression c true v here s n) (λ y s1 n1. initialise c x kind items (element + 1) here (written x element (convert kind y) s1) n1)

-- A declaration that is reached gives its object what its initialiser says, and an object without one is unwritten from then on (C11 6.2.4 paragraph 6).
abbrev pub declare : CoreCalls → Spot → CType → CoreInitTree → Here → Cells → ℕ → Ran Cells (Unit {0})
declare c x kind core.unwritten here s n = goes tt (put s x (forgotten (s x))) n
declare c x kind (core.single v) here s n = initialise c x kind (Some v ∷ []) 0 here s n
declare c x kind (core.elements items) here s n = initialise c x kind items 0 here s n

-- ---- expressions as statements, C11 6.8.3

abbrev pub action_tree : CoreActionTree → CoreTree
action_tree (core.change v) = v
action_tree (core.value v) = v

abbrev pub act_all : CoreCalls → List CoreActionTree → Here → Cells → ℕ → Ran Cells (Unit {0})
act_all c [] here s n = goes tt s n
act_all c (a ∷ more) here s n = then_ (expression c false (action_tree a) here s n) (λ v s1 n1. act_all c more here s1 n1)

-- ---- one after another

abbrev pub go_on : Completion → (Cells → ℕ → Ran Cells Completion) → Cells → ℕ → Ran Cells Completion
go_on end.Normal rest s n = rest s n
go_on r rest s n = goes r s n

abbrev pub is_last : CoreStmtTrees → Bool
is_last core.no_stmt = true
is_last (core.more_stmts first rest) = false

-- ---- selection, C11 6.8.4

-- Control is behind an `if`, or a return in a tail position leaves it.
abbrev pub behind_if : Completion → Place → Here → Cells → ℕ → Ran Cells Completion
behind_if end.Normal at here s n = then_ (pass (point_at point.End at here) s n) (λ p s1 n1. goes end.Normal s1 n1)
behind_if (end.Returned v true) at here s n = then_ (pass (point_at point.End at here) s n) (λ p s1 n1. goes (end.Returned v true) s1 n1)
behind_if r at here s n = goes r s n

abbrev pub arm : Place → Here → (Cells → ℕ → Ran Cells Completion) → Cells → ℕ → Ran Cells Completion
arm at here part s n = reached (point_at point.Arm at here) part s n

-- control is behind a switch or a loop
abbrev pub behind_breakable : Completion → Place → Here → Cells → ℕ → Ran Cells Completion
behind_breakable end.Normal at here s n = then_ (pass (point_at point.End at here) s n) (λ p s1 n1. goes end.Normal s1 n1)
behind_breakable end.Broke at here s n = then_ (pass (point_at point.End at here) s n) (λ p s1 n1. goes end.Normal s1 n1)
behind_breakable r at here s n = goes r s n

-- the label of this bit pattern
abbrev pub is_label : ℕ → Option ℕ → Bool
is_label word None = false
is_label word (Some value) = value == word

abbrev pub is_default : Option ℕ → Bool
is_default None = true
is_default (Some value) = false

-- the statement has such a label in front
abbrev pub has_label : (Option ℕ → Bool) → CoreStmtTree → Bool
has_label wanted (core.case_ v body at) = if wanted v then true else has_label wanted body
has_label wanted _ = false

abbrev pub any_label : (Option ℕ → Bool) → CoreStmtTrees → Bool
any_label wanted core.no_stmt = false
any_label wanted (core.more_stmts first rest) = if has_label wanted first then true else any_label wanted rest

-- the label to which a switch jumps: the case of this pattern, or else the default (C11 6.8.4.2 paragraph 5)
abbrev pub target_label : ℕ → CoreStmtTrees → Option ℕ → Bool
target_label word body = if any_label (is_label word) body then is_label word else is_default

-- the controlling value as a pattern of its promoted type
abbrev pub switch_word : CType → ℤ → ℕ
switch_word kind x = pattern (promoted kind) (convert (promoted kind) x)

-- ---- iteration, C11 6.8.5

abbrev pub if_again : Round → (Cells → ℕ → Ran Cells Round) → Cells → ℕ → Ran Cells Round
if_again round.Again rest s n = rest s n
if_again r rest s n = goes r s n

-- Iterations, of which each passes a point, so that their number is at most that of the points that may be passed.
abbrev pub repeat : ℕ → (Cells → ℕ → Ran Cells Round) → Cells → ℕ → Ran Cells Round
repeat zero round s n = waits
repeat (suc k) round s n = then_ (round s n) (λ r s1 n1. if_again r (repeat k round) s1 n1)

abbrev pub loop : Place → Here → (Cells → ℕ → Ran Cells Round) → Cells → ℕ → Ran Cells Completion
loop at here round s n = then_ (repeat n round s n) (λ r s1 n1. behind_breakable (completion_of r) at here s1 n1)

-- a `for` without a controlling expression goes on
abbrev pub test_holds : CoreCalls → Option CoreTree → Here → Cells → ℕ → Ran Cells Bool
test_holds c None here s n = goes true s n
test_holds c (Some t) here s n = then_ (expression c true t here s n) (λ x s1 n1. goes (is_true x) s1 n1)

abbrev pub tested : CoreCalls → Option CoreTree → Place → Here → Cells → ℕ → Ran Cells Bool
tested c test at here s n = reached (point_at point.Test at here) (test_holds c test here) s n

abbrev pub run_body : (Cells → ℕ → Ran Cells Completion) → Place → Here → Cells → ℕ → Ran Cells Round
run_body body at here s n = then_ (reached (point_at point.Body at here) body s n) (λ r s1 n1. goes (round_of r) s1 n1)

-- the third part of a `for`, where there is one
abbrev pub run_step : CoreCalls → List CoreActionTree → Place → Here → Cells → ℕ → Ran Cells Round
run_step c [] at here s n = goes round.Again s n
run_step c (a ∷ more) at here s n = then_ (reached (point_at point.Step at here) (act_all c (a ∷ more) here) s n) (λ u s1 n1. goes round.Again s1 n1)

-- a test, the body where it holds, and the step
abbrev pub test_first : CoreCalls → Option CoreTree → (Cells → ℕ → Ran Cells Completion) → List CoreActionTree → Place → Here → Cells → ℕ → Ran Cells Round
test_first c test body step at here s n =
    then_ (tested c test at here s n) (λ holds s1 n1.
    if holds then then_ (run_body body at here s1 n1) (λ r s2 n2. if_again r (run_step c step at here) s2 n2) else goes round.Over s1 n1)

-- the body, and then a test
abbrev pub test_last : CoreCalls → CoreTree → (Cells → ℕ → Ran Cells Completion) → Place → Here → Cells → ℕ → Ran Cells Round
test_last c test body at here s n =
    then_ (run_body body at here s n) (λ r s1 n1.
    if_again r (λ s2 n2. then_ (tested c (Some test) at here s2 n2) (λ holds s3 n3. goes (if holds then round.Again else round.Over) s3 n3)) s1 n1)

-- ---- statements

abbrev pub converted_result : Option CType → ℤ → ℤ
converted_result None v = v
converted_result (Some kind) v = convert kind v

-- the number that a return gives, in the type of the function's result
abbrev pub returned_number : CoreCalls → Option CoreTree → Here → Cells → ℕ → Ran Cells (Option ℤ)
returned_number c None here s n = goes None s n
returned_number c (Some t) here s n = then_ (expression c true t here s n) (λ x s1 n1. goes (Some (converted_result here.result x)) s1 n1)

abbrev mutual
  -- The flag says whether the statement is in a tail position.
  pub statement : CoreCalls → Bool → CoreStmtTree → Here → Cells → ℕ → Ran Cells Completion
  statement c tail (core.block objects body) here s n = statements c tail body here (entered here objects s) n
  statement c tail (core.declare object init) here s n =
      then_ (declare c (here.spots object) (kind_in (slice_get here.objects object)) init here s n) (λ u s1 n1. goes end.Normal s1 n1)
  statement c tail (core.act actions) here s n = then_ (act_all c actions here s n) (λ u s1 n1. goes end.Normal s1 n1)
  statement c tail (core.if_ test body other at) here s n =
      then_ (expression c true test here s n) (λ x s1 n1.
      then_ (if is_true x then arm at here (statement c tail body here) s1 n1 else else_ c tail other here s1 n1) (λ r s2 n2. behind_if r at here s2 n2))
  statement c tail (core.switch_ test objects body at) here s n =
      then_ (expression c true test here s n) (λ x s1 n1.
      then_ (jump c (target_label (switch_word (kind_of test) x) body) body here (entered here objects s1) n1) (λ r s2 n2. behind_breakable r at here s2 n2))
  statement c tail (core.case_ v body at) here s n = arm at here (statement c false body here) s n
  statement c tail (core.while_ test body at) here s n = loop at here (test_first c (Some test) (statement c false body here) [] at here) s n
  statement c tail (core.do_ body test at) here s n = loop at here (test_last c test (statement c false body here) at here) s n
  statement c tail (core.for_ objects init test step body at) here s n =
      then_ (statements c false init here (entered here objects s) n) (λ u s1 n1.
      loop at here (test_first c test (statement c false body here) step at here) s1 n1)
  statement c tail core.break_ here s n = goes end.Broke s n
  statement c tail core.continue_ here s n = goes end.Continued s n
  statement c tail (core.return_ v) here s n = then_ (returned_number c v here s n) (λ v1 s1 n1. goes (end.Returned v1 tail) s1 n1)

  pub else_ : CoreCalls → Bool → CoreElseTree → Here → Cells → ℕ → Ran Cells Completion
  else_ c tail core.no_else here s n = goes end.Normal s n
  else_ c tail (core.else_ at body) here s n = arm at here (statement c tail body here) s n

  -- the items of a block
  pub statements : CoreCalls → Bool → CoreStmtTrees → Here → Cells → ℕ → Ran Cells Completion
  statements c tail core.no_stmt here s n = goes end.Normal s n
  statements c tail (core.more_stmts first rest) here s n =
      then_ (statement c (tail && is_last rest) first here s n) (λ r s1 n1. go_on r (statements c tail rest here) s1 n1)

  -- the items of a switch from a label on
  pub jump : CoreCalls → (Option ℕ → Bool) → CoreStmtTrees → Here → Cells → ℕ → Ran Cells Completion
  jump c wanted core.no_stmt here s n = goes end.Normal s n
  jump c wanted (core.more_stmts first rest) here s n =
      if has_label wanted first
      then then_ (labelled c wanted first here s n) (λ r s1 n1. go_on r (statements c false rest here) s1 n1)
      else jump c wanted rest here s n

  -- a statement from a label of its own on
  pub labelled : CoreCalls → (Option ℕ → Bool) → CoreStmtTree → Here → Cells → ℕ → Ran Cells Completion
  labelled c wanted (core.case_ v body at) here s n =
      if wanted v then arm at here (statement c false body here) s n else labelled c wanted body here s n
  labelled c wanted _ here s n = goes end.Normal s n
