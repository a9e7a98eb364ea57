-- Programs without faults have their jumps where they lead somewhere, and short arrays.
use Rattle.std.proofs.Common.{◌≡◌, ◌≤◌, ℕ, zero, suc, Bool, true, false, ◌&&◌, refl, ap, subst, List, [], ◌∷◌, ◌++◌, map, length, pos, negsuc, Option, Some, None, if◌then◌else◌}
use Rattle.std.specs.Prelude.{nat_lt, nat_le, slice_get, is_some}
use Rattle.std.proofs.lemmas.Bool.{false≢true, leb-true}
use Rattle.hls_base.specs.declared.place.Place.{Place}
use Rattle.hls_base.specs.declared.refusal.Refusal.{Refusal}
use Rattle.hls_base.specs.ArrayAddress.{element_count}
use Rattle.c_tree.specs.Tree as tree
use Rattle.c_tree.specs.Tree.{ObjectTree, StmtTree, ElseTree, FirstTree, StmtTrees, FunctionTree, ItemTree, ProgramTree}
use Rattle.c_meaning.specs.Checks.Names.{Declared}
use Rattle.c_meaning.specs.Checks.Faults.{fault_if}
use Rattle.c_meaning.specs.Checks.Calls.{with_function, declaration_faults}
use Rattle.c_meaning.specs.Checks.Expressions.{optional_faults, actions_faults}
use Rattle.c_meaning.specs.Checks.Labels.{Around, has_no_value, in_function, in_part, in_loop, in_switch, outside_faults}
use Rattle.c_meaning.specs.Checks.Lengths as lengths
use Rattle.c_meaning.specs.Checks.Lengths.{Length, usable, all_usable, with_first, lengths_of}
use Rattle.c_meaning.specs.Checks.Limits.{file_objects, limit_faults, param_places, function_arrays}
use Rattle.c_meaning.specs.Checks.Statements.{names_behind, names_in_for, statement_faults, else_faults, first_faults, block_faults, with_params, params_faults, body_faults, function_faults}
use Rattle.c_meaning.specs.Checks.Programs.{with_body, with_item, items_faults, body_names}
use Rattle.c_meaning.specs.Store.{lengths_in, within_limits, declared_by}
use Rattle.pieces.specs.Resolved.Core as core
use Rattle.pieces.specs.Resolved.Core.{CoreStmtTree, CoreStmtTrees, CoreFunctionTree, CoreObjectTree, FileObjectTree, stmt_row}
use Rattle.c_elaborate.specs.declared.blocks.Scene.{Scene}
use Rattle.c_elaborate.specs.declared.functions.Signature.{Signature}
use Rattle.c_elaborate.specs.Objects.{object_elaborated}
use Rattle.c_elaborate.specs.Scenes.{declared}
use Rattle.c_elaborate.specs.Statements.{declarations, item, statement, else_statement, first_statements, statements}
use Rattle.c_elaborate.specs.Programs.{file_object, function_of_item, functions_elaborated, program_elaborated}
use Rattle.pass_runs.specs.LowerRuns.Showing.{AreShort}
use Rattle.expanded_pieces.specs.Jumps.{Begins, JumpsFit, ElseJumpsFit, AllJumpsFit}
use Rattle.expanded_pieces.specs.Lengths.{EachObject, EachFileObject, EachFunction}
use Rattle.expanded_pieces.specs.Beginning.{HasHead, LoopsBegin, ElseLoopsBegin, AllLoopsBegin, BodyLoopsBegin, ItemsLoopsBegin}
use Rattle.expanded_pieces.specs.Laws.{ElaboratedJumpsFit, ElaboratedLengthsFit}

-- ---- no faults

left_nil : (xs ys : List Refusal) → xs ++ ys ≡ [] → xs ≡ []
left_nil [] ys e = refl
left_nil (x ∷ xs) ys e = absurd cc

right_nil : (xs ys : List Refusal) → xs ++ ys ≡ [] → ys ≡ []
right_nil [] ys e = e
right_nil (x ∷ xs) ys e = absurd cc

stands_inside : (inside : Bool) (at : Place) → outside_faults inside at ≡ [] → inside ≡ true
stands_inside true at e = refl
stands_inside false at e = absurd cc

abbrev function_in : CoreFunctionTree → Option CoreFunctionTree → CoreFunctionTree
function_in d None = d
function_in d (Some fn) = fn

abbrev EachBody : List CoreFunctionTree → Type 0
EachBody [] = Unit {0}
EachBody (fn ∷ fns) = AllJumpsFit false false false fn.body × EachBody fns

body_there : (fns : List CoreFunctionTree) → EachBody fns → (i : ℕ) (fn : CoreFunctionTree) → slice_get fns i ≡ Some fn → AllJumpsFit false false false fn.body
body_there [] h i fn e = absurd cc
body_there (x ∷ fns) h zero fn e = subst (λ y. AllJumpsFit false false false y.body) (ap (function_in x) e) h.0
body_there (x ∷ fns) h (suc i) fn e = body_there fns h.1 i fn e

-- ---- declarations

module _ (fs : List Signature) where
  declarations_begin : (scene : Scene) (os : List ObjectTree) → Begins (stmt_row (declarations fs scene os))
  declarations_begin scene [] = tt
  declarations_begin scene (o ∷ os) = (tt, declarations_begin (declared scene o) os)

  item_begins : (scene : Scene) (os : List ObjectTree) → Begins (stmt_row (item fs scene os (core.act [])))
  item_begins scene [] = (tt, tt)
  item_begins scene (o ∷ os) = declarations_begin scene (o ∷ os)

  first_begins : (scene : Scene) (free : ℕ) (init : FirstTree) → HasHead init → Begins (stmt_row (first_statements fs scene free init))
  first_begins scene free tree.no_first h = tt
  first_begins scene free (tree.first (tree.declare os)) h = item_begins scene os
  first_begins scene free (tree.first (tree.act actions)) h = (tt, tt)
  first_begins scene free (tree.first (tree.block body)) h = absurd h
  first_begins scene free (tree.first (tree.if_ test body other at)) h = absurd h
  first_begins scene free (tree.first (tree.switch_ test body at)) h = absurd h
  first_begins scene free (tree.first (tree.case_ value body at)) h = absurd h
  first_begins scene free (tree.first (tree.while_ test body at)) h = absurd h
  first_begins scene free (tree.first (tree.do_ body test at)) h = absurd h
  first_begins scene free (tree.first (tree.for_ init test step body at)) h = absurd h
  first_begins scene free (tree.first (tree.break_ at)) h = absurd h
  first_begins scene free (tree.first (tree.continue_ at)) h = absurd h
  first_begins scene free (tree.first (tree.return_ value at)) h = absurd h

  declarations_fit : (l b d : Bool) (scene : Scene) (os : List ObjectTree) (rest : List CoreStmtTree) → AllJumpsFit l b d (stmt_row rest) → AllJumpsFit l b d (stmt_row (declarations fs scene os ++ rest))
  declarations_fit l b d scene [] rest h = h
  declarations_fit l b d scene (o ∷ os) rest h = (tt, declarations_fit l b d (declared scene o) os rest h)

  item_fits : (l b d : Bool) (scene : Scene) (os : List ObjectTree) (stmt : CoreStmtTree) (rest : List CoreStmtTree) → JumpsFit l b d stmt → AllJumpsFit l b d (stmt_row rest) → AllJumpsFit l b d (stmt_row (item fs scene os stmt ++ rest))
  item_fits l b d scene [] stmt rest h g = (h, g)
  item_fits l b d scene (o ∷ os) stmt rest h g = declarations_fit l b d scene (o ∷ os) rest g

  -- ---- statements

  mutual
    statement_jumps : (bodies : List (List ℕ)) (around : Around) (start : ℕ) (names : List Declared) (stmt : StmtTree) → statement_faults bodies around start names stmt ≡ [] → LoopsBegin stmt → (scene : Scene) (free : ℕ)
        → JumpsFit around.labels around.breaks around.continues (statement fs scene free stmt)
    statement_jumps bodies around start names (tree.block body) e h scene free = block_jumps bodies (in_part around) (length names) names body e h _ _
    statement_jumps bodies around start names (tree.declare objects) e h scene free = tt
    statement_jumps bodies around start names (tree.act actions) e h scene free = tt
    statement_jumps bodies around start names (tree.if_ test body other at) e h scene free =
        let r = right_nil _ _ e in
        (statement_jumps bodies (in_part around) (length names) names body (left_nil _ _ r) h.0 scene free, else_jumps bodies around (length names) names other (right_nil _ _ r) h.1 scene _)
    statement_jumps bodies around start names (tree.switch_ test body at) e h scene free = block_jumps bodies (in_switch around) (length names) names body (right_nil _ _ (right_nil _ _ e)) h _ _
    statement_jumps bodies around start names (tree.case_ value body at) e h scene free =
        (stands_inside around.labels at (left_nil _ _ e), statement_jumps bodies around start names body (right_nil (optional_faults bodies names value) _ (right_nil (fault_if (has_no_value value) 17 at) _ (right_nil (outside_faults around.labels at) _ e))) h scene free)
    statement_jumps bodies around start names (tree.while_ test body at) e h scene free = statement_jumps bodies (in_loop around) (length names) names body (right_nil _ _ e) h scene free
    statement_jumps bodies around start names (tree.do_ body test at) e h scene free = statement_jumps bodies (in_loop around) (length names) names body (left_nil _ _ e) h scene free
    statement_jumps bodies around start names (tree.for_ init test step body at) e h scene free =
        (first_begins _ _ init h.0, statement_jumps bodies (in_loop around) (length (names_in_for names init)) (names_in_for names init) body (right_nil (actions_faults bodies (names_in_for names init) step) _ (right_nil (optional_faults bodies (names_in_for names init) test) _ (right_nil (first_faults bodies (in_part around) (length names) names init) _ e))) h.1 _ _)
    statement_jumps bodies around start names (tree.break_ at) e h scene free = stands_inside around.breaks at e
    statement_jumps bodies around start names (tree.continue_ at) e h scene free = stands_inside around.continues at e
    statement_jumps bodies around start names (tree.return_ value at) e h scene free = tt

    else_jumps : (bodies : List (List ℕ)) (around : Around) (start : ℕ) (names : List Declared) (other : ElseTree) → else_faults bodies (in_part around) start names other ≡ [] → ElseLoopsBegin other → (scene : Scene) (free : ℕ)
        → ElseJumpsFit around.breaks around.continues (else_statement fs scene free other)
    else_jumps bodies around start names tree.no_else e h scene free = tt
    else_jumps bodies around start names (tree.else_ at body) e h scene free = statement_jumps bodies (in_part around) start names body e h scene free

    block_jumps : (bodies : List (List ℕ)) (around : Around) (start : ℕ) (names : List Declared) (body : StmtTrees) → block_faults bodies around start names body ≡ [] → AllLoopsBegin body → (scene : Scene) (free : ℕ)
        → AllJumpsFit around.labels around.breaks around.continues (stmt_row (statements fs scene free body))
    block_jumps bodies around start names tree.no_stmt e h scene free = tt
    block_jumps bodies around start names (tree.more_stmts first rest) e h scene free =
        item_fits around.labels around.breaks around.continues scene (declared_by first) (statement fs scene free first) _ (statement_jumps bodies around start names first (left_nil _ _ e) h.0 scene free)
        (block_jumps bodies around start (names_behind names first) rest (right_nil _ _ e) h.1 _ _)

  -- ---- functions

  body_jumps : (file : Scene) (bodies : List (List ℕ)) (f : FunctionTree) (start : ℕ) (names : List Declared) (body : Option StmtTrees) → body_faults bodies f.result start names body ≡ [] → BodyLoopsBegin body → (rest : List CoreFunctionTree) → EachBody rest
      → EachBody (function_of_item fs file f body ++ rest)
  body_jumps file bodies f start names None e h rest g = g
  body_jumps file bodies f start names (Some body) e h rest g = (block_jumps bodies (in_function f.result) start names body e h _ _, g)

  items_jumps : (file : Scene) (bodies before : List (List ℕ)) (names : List Declared) (items : List ItemTree) → items_faults bodies before names items ≡ [] → ItemsLoopsBegin items → EachBody (functions_elaborated fs file items)
  items_jumps file bodies before names [] e h = tt
  items_jumps file bodies before names (tree.objects os ∷ items) e h = items_jumps file bodies (with_body (tree.objects os) before) (with_item (tree.objects os) names) items (right_nil _ _ e) h
  items_jumps file bodies before names (tree.function f ∷ items) e h =
      let inner = with_function f names in
      let one = right_nil (declaration_faults before names f) (function_faults bodies inner f) (left_nil (declaration_faults before names f ++ function_faults bodies inner f) _ e) in
      let params = right_nil (limit_faults 32 35 (function_arrays f)) _ (right_nil (limit_faults 32 34 (param_places f.params)) _ one) in
      let body = right_nil (params_faults bodies (is_some f.body) (length inner) inner f.params) (body_faults bodies f.result (length inner) (with_params f.params inner) f.body) params in
      body_jumps file bodies f (length inner) (with_params f.params inner) f.body body h.0 (functions_elaborated fs file items)
      (items_jumps file bodies (with_body (tree.function f) before) (with_item (tree.function f) names) items (right_nil _ _ e) h.1)

pub elaborated_jumps : ElaboratedJumpsFit
elaborated_jumps p top name e h i fn there = body_there (program_elaborated p top).functions (items_jumps _ _ (body_names p.items) [] [] p.items (left_nil _ _ e) h) i fn there

-- ---- lengths

abbrev IfShort : Option (List ℕ) → Type 0
IfShort None = Unit {0}
IfShort (Some ns) = AreShort ns

abbrev IfLow : Option ℕ → Type 0
IfLow None = Unit {0}
IfLow (Some n) = n ≤ 65536

both_second : (a b : Bool) → (a && b) ≡ true → b ≡ true
both_second true b e = e
both_second false b e = absurd (false≢true e)

le_of : (n : ℕ) → nat_le n 65536 ≡ true → n ≤ 65536
le_of n e = leb-true n 65536 e

usable_low : (l : Length) → IfLow (usable l)
usable_low (lengths.number (pos n)) = either (nat_lt 0 n && nat_le n 65536) refl where
  either : (b : Bool) → (nat_lt 0 n && nat_le n 65536) ≡ b → IfLow (if b then Some n else None)
  either true e = le_of n (both_second (nat_lt 0 n) (nat_le n 65536) e)
  either false e = tt
usable_low (lengths.number (negsuc n)) = tt
usable_low lengths.left_out = tt
usable_low lengths.no_constant = tt

with_short : (n : ℕ) → n ≤ 65536 → (q : Option (List ℕ)) → IfShort q → IfShort (with_first n q)
with_short n le None h = tt
with_short n le (Some ns) h = (le, h)

more_short : (u : Option ℕ) → IfLow u → (rest : List (Option ℕ)) → IfShort (all_usable rest) → IfShort (all_usable (u ∷ rest))
more_short None low rest h = tt
more_short (Some n) low rest h = with_short n low (all_usable rest) h

all_short : (ls : List Length) → IfShort (all_usable (map usable ls))
all_short [] = tt
all_short (l ∷ ls) = more_short (usable l) (usable_low l) (map usable ls) (all_short ls)

within_short : (q : Option (List ℕ)) → IfShort q → AreShort (within_limits q)
within_short None h = tt
within_short (Some ns) h = either (nat_le (element_count ns) 65536) where
  either : (b : Bool) → AreShort (if b then ns else [])
  either true = h
  either false = tt

object_short : (o : ObjectTree) → AreShort (lengths_in o)
object_short o = within_short (all_usable (map usable (lengths_of o))) (all_short (lengths_of o))

objects_short : (os : List ObjectTree) → EachObject AreShort (map object_elaborated os)
objects_short [] = tt
objects_short (o ∷ os) = (object_short o, objects_short os)

files_short : (os : List ObjectTree) → EachFileObject AreShort (map file_object os)
files_short [] = tt
files_short (o ∷ os) = (object_short o, files_short os)

module _ (fs : List Signature) (file : Scene) where
  function_short : (f : FunctionTree) (body : Option StmtTrees) (rest : List CoreFunctionTree) → EachFunction AreShort rest → EachFunction AreShort (function_of_item fs file f body ++ rest)
  function_short f None rest h = h
  function_short f (Some body) rest h = (objects_short _, h)

  functions_short : (items : List ItemTree) → EachFunction AreShort (functions_elaborated fs file items)
  functions_short [] = tt
  functions_short (tree.objects os ∷ items) = functions_short items
  functions_short (tree.function f ∷ items) = function_short f f.body (functions_elaborated fs file items) (functions_short items)

pub elaborated_lengths : ElaboratedLengthsFit
elaborated_lengths p top = (files_short (file_objects p.items), functions_short _ _ p.items)
