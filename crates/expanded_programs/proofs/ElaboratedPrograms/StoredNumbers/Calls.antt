-- Calls leave each object of the caller with its type, its lengths and numbers of its type.
use Rattle.std.proofs.Common.{◌≡◌, ℕ, zero, suc, ◌∙◌, sym, refl, ap, subst, append_assoc, List, [], ◌∷◌, ◌++◌, length, Bool, true, ◌&&◌, ℤ, Option, Some, None, is_some, if◌then◌else◌}
use Rattle.std.proofs.lemmas.List.{append-nil}
use Rattle.hls_base.specs.declared.place.Place.{Place}
use Rattle.hls_base.specs.declared.point.PointKind.TheVariants as point
use Rattle.hls_base.specs.declared.refusal.UbRule.TheVariants as ub
use Rattle.c_value.specs.Values.{convert}
use Rattle.c_tree.specs.Tree.{ObjectTree, ParamTree, FunctionTree, ItemTree}
use Rattle.c_meaning.specs.declared.value.Completion.{Completion}
use Rattle.c_meaning.specs.declared.value.Completion.TheVariants as end
use Rattle.c_meaning.specs.declared.value.Argument.{Argument}
use Rattle.c_meaning.specs.declared.value.Argument.TheVariants as argument
use Rattle.c_meaning.specs.declared.names.Binding.{Binding}
use Rattle.c_meaning.specs.Store.{Object, scalar, State, Environment, declared_in, left_block}
use Rattle.c_meaning.specs.Names.{begun}
use Rattle.c_meaning.specs.Steps.{fails, pass}
use Rattle.c_meaning.specs.Expression.{Calls}
use Rattle.c_meaning.specs.Statement.{in_block, items_meaning}
use Rattle.c_meaning.specs.Run.{parameter, parameters, function_end, function_left, body_of, function_body, function_meaning, called, calls, function_named}
use Rattle.expanded_programs.proofs.ElaboratedPrograms.StoredNumbers.Keeping.{AllFollow, all_both, first_follow, Follow, Ends, behind, goes_ends, fails_ends, waits_ends, then_follow, then_ends, pass_ends, if_ends}
use Rattle.expanded_programs.proofs.ElaboratedPrograms.StoredNumbers.Expressions.{Steady}
use Rattle.expanded_programs.proofs.ElaboratedPrograms.StoredNumbers.Statements.{in_block_ends, items_ends}

-- ---- parameters

-- objects that stand behind these
record Behind (os ps : List Object) : Type 0 where
  more : List Object
  same : ps ≡ os ++ more

more_behind : (os ps qs : List Object) → Behind os ps → Behind ps qs → Behind os qs
more_behind os ps qs h g = record { more = h.more ++ g.more; same = g.same ∙ (ap (λ l. l ++ g.more) h.same ∙ append_assoc os h.more g.more) }

none_behind : (os : List Object) → Behind os os
none_behind os = record { more = []; same = sym (append-nil os) }

parameter_behind : (a : Argument) (o : ObjectTree) (env : Environment) (s : State) → Behind s.objects (parameter a o env s).1.objects
parameter_behind (argument.Array object) o env s = none_behind s.objects
parameter_behind (argument.Number n) o env s = record { more = scalar o.kind (convert o.kind n) ∷ []; same = refl }

parameters_behind : (ps : List ParamTree) (given : List Argument) (env : Environment) (s : State) → Behind s.objects (parameters ps given env s).1.objects
parameters_behind [] given env s = none_behind s.objects
parameters_behind (p ∷ ps) [] env s = none_behind s.objects
parameters_behind (p ∷ ps) (a ∷ given) env s =
    let one = parameter a p.object env s in
    more_behind s.objects one.1.objects (parameters ps given one.0 one.1).1.objects (parameter_behind a p.object env s) (parameters_behind ps given one.0 one.1)

-- ---- calls

function_end_ends : (used : Bool) (f : FunctionTree) (n : Option ℤ) (env : Environment) (s : State) → Ends s (function_end used f n env s)
function_end_ends used f n env s = then_ends s _ _ (pass_ends point.End f.at env s) (λ p s1. goes_ends n s1)

end_without_value : (used : Bool) (f : FunctionTree) (env : Environment) (s : State)
    → Ends s (if used && is_some f.result then fails ub.NoReturn f.at else function_end used f None env s)
end_without_value used f env s = if_ends (used && is_some f.result) s _ _ (fails_ends ub.NoReturn f.at s) (function_end_ends used f None env s)

function_left_ends : (used : Bool) (f : FunctionTree) (r : Completion) (env : Environment) (s : State) → Ends s (function_left used f r env s)
function_left_ends used f (end.Returned n tail) env s = function_end_ends used f n env s
function_left_ends used f end.Normal env s = end_without_value used f env s
function_left_ends used f end.Broke env s = end_without_value used f env s
function_left_ends used f end.Continued env s = end_without_value used f env s

module _ (c : Calls) (steady : Steady c) where
  -- it leaves those of the caller
  function_body_follows : (used : Bool) (f : FunctionTree) (os : List Object) (env : Environment) (s : State) → Behind os s.objects → Follow os (function_body c used f (length os) env s).outcome
  function_body_follows used f os env s own =
      then_follow os s.objects (pass point.Begin f.at env s) _ (pass_ends point.Begin f.at env s).follow (λ p s1 h1.
      then_follow os s1.objects (in_block (declared_in (body_of f.body)) (items_meaning c true (body_of f.body)) env s1) _ (in_block_ends (declared_in (body_of f.body)) (items_meaning c true (body_of f.body)) (λ env1 s2. items_ends c steady true (body_of f.body) env1 s2) env s1).follow (λ r s2 h2.
      let all = all_both s.objects s1.objects s2.objects h1 h2 in
      let first = first_follow os own.more s2.objects (subst (λ (l : List Object). AllFollow l s2.objects) own.same all) in
      behind os (left_block (length os) s2).objects (function_left used f r env (left_block (length os) s2)).outcome first (function_left_ends used f r env (left_block (length os) s2)).follow))

  pub function_meaning_ends : (used : Bool) (f : FunctionTree) (given : List Argument) (path : List Place) (names : List Binding) (s : State)
      → Ends s (function_meaning c used f given path names s)
  function_meaning_ends used f given path names s =
      let env = begun names path f.result in
      let bound = parameters f.params given env s in
      record { follow = function_body_follows used f s.objects bound.0 bound.1 (parameters_behind f.params given env s) }

  called_ends : (used : Bool) (f : Option FunctionTree) (given : List Argument) (path : List Place) (names : List Binding) (s : State)
      → Ends s (called c used f given path names s)
  called_ends used None given path names s = goes_ends None s
  called_ends used (Some f) given path names s = function_meaning_ends used f given path names s

pub calls_steady : (n : ℕ) (items : List ItemTree) (names : List Binding) → Steady (calls n items names)
calls_steady zero items names used callee given path s = waits_ends s
calls_steady (suc n) items names used callee given path s = called_ends (calls n items names) (calls_steady n items names) used (function_named items callee) given path names s
