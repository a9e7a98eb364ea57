-- Expressions where more points may be passed.
use Rattle.std.proofs.Common.{ℕ, refl, List, [], ◌∷◌, ◌++◌, length, Bool, true, false, ◌==◌, ◌||◌, ℤ, pos, Option, Some, None, if◌then◌else◌}
use Rattle.hls_base.specs.declared.place.Place.{Place}
use Rattle.hls_base.specs.declared.point.PointKind.TheVariants as point
use Rattle.hls_base.specs.declared.refusal.UbRule.TheVariants as ub
use Rattle.c_token.specs.declared.ctype.CType.{CType}
use Rattle.c_tree.specs.declared.operator.Binary.{Binary}
use Rattle.c_tree.specs.declared.operator.Binary.TheVariants as b
use Rattle.c_tree.specs.Tree as tree
use Rattle.c_tree.specs.Tree.{Tree, TargetTree, Trees}
use Rattle.c_value.specs.Values.{int_type, convert, common}
use Rattle.c_value.specs.Operators as o
use Rattle.c_value.specs.Operators.{Computed, truth, is_true, unary_kind, binary_kind, unary_value, binary_value}
use Rattle.c_meaning.specs.declared.value.Value.{Value}
use Rattle.c_meaning.specs.declared.value.Argument.{Argument}
use Rattle.c_meaning.specs.declared.value.Argument.TheVariants as argument
use Rattle.c_meaning.specs.Store.{State, Environment, object_named, kind_of_object, lengths_of_object, read_element, write_element, element_place}
use Rattle.c_meaning.specs.Steps.{Ran}
use Rattle.c_meaning.specs.Expression.{value, Calls, expression_kind, acts, computed, operated, reached, not_reached, joined, chosen, read_found, read_place, read_object, store_place, store_object, assigned, bumped, array_given, argument_of, number_or_zero, call_value, expression_meaning, numbers, arguments}
use Rattle.c_meaning.specs.Laws.{more}
use Rattle.c_meaning.proofs.MorePoints.{IsMore, goes_more, goes_changed, fails_more, then_more, pass_if_more, if_more}

-- a part that does the same from the same objects with more points
abbrev pub Steady : {A : Type 0} → ℕ → ℕ → (State → Ran A) → (State → Ran A) → Type 0
Steady k limit f f' = (s : State) → IsMore k limit s (f s) (f' (more k s))

module _ (k limit : ℕ) where
  pub computed_more : (kind : CType) (r : Computed) (at : Place) (s : State) → IsMore k limit s (computed kind r at s) (computed kind r at (more k s))
  computed_more kind (o.defined n) at s = goes_more k limit (value kind n) s
  computed_more kind (o.undefined rule) at s = fails_more k limit rule at s

  pub operated_more : (op : Binary) (x y : Value) (at : Place) (s : State) → IsMore k limit s (operated op x y at s) (operated op x y at (more k s))
  operated_more op x y at s = computed_more (binary_kind op x.kind y.kind) (binary_value op x.kind x.number y.kind y.number) at s

  pub reached_more : (fork : Bool) (at : Place) (env : Environment) (f f' : State → Ran Value) → Steady k limit f f' → (s : State) → IsMore k limit s (reached fork at env f s) (reached fork at env f' (more k s))
  reached_more fork at env f f' h s =
      then_more k limit s _ _ _ _ (pass_if_more k limit fork point.Arm at env s) (λ p s1. then_more k limit s1 _ _ _ _ (h s1) (λ y s2. then_more k limit s2 _ _ _ _ (pass_if_more k limit fork point.End at env s2) (λ q s3. goes_more k limit (value int_type (truth (is_true y.number))) s3)))

  pub not_reached_more : (fork : Bool) (at : Place) (env : Environment) (decided : Bool) (s : State) → IsMore k limit s (not_reached fork at env decided s) (not_reached fork at env decided (more k s))
  not_reached_more fork at env decided s = then_more k limit s _ _ _ _ (pass_if_more k limit fork point.End at env s) (λ q s1. goes_more k limit (value int_type (truth decided)) s1)

  pub joined_more : (op : Binary) (x : Value) (fork : Bool) (at : Place) (env : Environment) (f f' : State → Ran Value) → Steady k limit f f' → (s : State)
      → IsMore k limit s (joined op x fork at env f s) (joined op x fork at env f' (more k s))
  joined_more b.LogAnd x fork at env f f' h s = if_more k limit (is_true x.number) s _ _ _ _ (reached_more fork at env f f' h s) (not_reached_more fork at env false s)
  joined_more b.LogOr x fork at env f f' h s = if_more k limit (is_true x.number) s _ _ _ _ (not_reached_more fork at env true s) (reached_more fork at env f f' h s)
  joined_more op x fork at env f f' h s = then_more k limit s _ _ _ _ (h s) (λ y s1. operated_more op x y at s1)

  pub chosen_more : (fork : Bool) (arm at : Place) (kind : CType) (env : Environment) (f f' : State → Ran Value) → Steady k limit f f' → (s : State)
      → IsMore k limit s (chosen fork arm at kind env f s) (chosen fork arm at kind env f' (more k s))
  chosen_more fork arm at kind env f f' h s =
      then_more k limit s _ _ _ _ (pass_if_more k limit fork point.Arm arm env s) (λ p s1. then_more k limit s1 _ _ _ _ (h s1) (λ y s2. then_more k limit s2 _ _ _ _ (pass_if_more k limit fork point.End at env s2) (λ q s3. goes_more k limit (value kind (convert kind y.number)) s3)))

  pub read_found_more : (found : Option ℤ) (kind : CType) (is_scalar : Bool) (at : Place) (s : State) → IsMore k limit s (read_found found kind is_scalar at s) (read_found found kind is_scalar at (more k s))
  read_found_more (Some n) kind is_scalar at s = goes_more k limit (value kind n) s
  read_found_more None kind true at s = fails_more k limit ub.Unset at s
  read_found_more None kind false at s = fails_more k limit ub.UnsetElement at s

  pub read_place_more : (place : Option ℕ) (object : ℕ) (is_scalar : Bool) (at : Place) (s : State) → IsMore k limit s (read_place place object is_scalar at s) (read_place place object is_scalar at (more k s))
  read_place_more None object is_scalar at s = fails_more k limit ub.Index at s
  read_place_more (Some element) object is_scalar at s = read_found_more (read_element s object element) (kind_of_object s object) is_scalar at s

  pub read_object_more : (object : ℕ) (subscripts : List ℤ) (at : Place) (s : State) → IsMore k limit s (read_object object subscripts at s) (read_object object subscripts at (more k s))
  read_object_more object subscripts at s = read_place_more (element_place (lengths_of_object s object) subscripts) object (length subscripts == 0) at s

  pub store_place_more : (place : Option ℕ) (object : ℕ) (n : ℤ) (at : Place) (s : State) → IsMore k limit s (store_place place object n at s) (store_place place object n at (more k s))
  store_place_more None object n at s = fails_more k limit ub.Index at s
  store_place_more (Some element) object n at s =
      let stored = convert (kind_of_object s object) n in
      goes_changed k limit (value (kind_of_object s object) stored) s (write_element s object element stored) (write_element (more k s) object element stored) refl refl

  pub store_object_more : (object : ℕ) (subscripts : List ℤ) (n : ℤ) (at : Place) (s : State) → IsMore k limit s (store_object object subscripts n at s) (store_object object subscripts n at (more k s))
  store_object_more object subscripts n at s = store_place_more (element_place (lengths_of_object s object) subscripts) object n at s

  pub assigned_more : (op : Option Binary) (object : ℕ) (subscripts : List ℤ) (place : Place) (v : Value) (at : Place) (s : State)
      → IsMore k limit s (assigned op object subscripts place v at s) (assigned op object subscripts place v at (more k s))
  assigned_more None object subscripts place v at s = store_object_more object subscripts v.number place s
  assigned_more (Some op) object subscripts place v at s =
      then_more k limit s _ _ _ _ (read_object_more object subscripts place s) (λ x s1. then_more k limit s1 _ _ _ _ (operated_more op x v at s1) (λ r s2. store_object_more object subscripts r.number place s2))

  pub bumped_more : (up post : Bool) (object : ℕ) (subscripts : List ℤ) (place at : Place) (s : State) → IsMore k limit s (bumped up post object subscripts place at s) (bumped up post object subscripts place at (more k s))
  bumped_more up post object subscripts place at s =
      then_more k limit s _ _ _ _ (read_object_more object subscripts place s) (λ x s1.
      then_more k limit s1 _ _ _ _ (operated_more (if up then b.Add else b.Sub) x (value int_type (pos 1)) at s1) (λ r s2.
      then_more k limit s2 _ _ _ _ (store_object_more object subscripts r.number place s2) (λ v s3. goes_more k limit (if post then x else v) s3)))

  pub argument_of_more : (given : Option ℕ) (f f' : State → Ran Value) → Steady k limit f f' → (s : State) → IsMore k limit s (argument_of given f s) (argument_of given f' (more k s))
  argument_of_more (Some object) f f' h s = goes_more k limit (argument.Array object) s
  argument_of_more None f f' h s = then_more k limit s _ _ _ _ (h s) (λ v s1. goes_more k limit (argument.Number v.number) s1)

-- calls that do the same with more points
abbrev pub Call : Type 0
Call = Bool → List ℕ → List Argument → List Place → State → Ran (Option ℤ)

module _ (k limit : ℕ) (call call' : Call) (results : List ℕ → CType) (steady : (used : Bool) (callee : List ℕ) (given : List Argument) (path : List Place) → Steady k limit (call used callee given path) (call' used callee given path)) where
  abbrev c : Calls
  c = record { call = call; result_of = results }

  abbrev c' : Calls
  c' = record { call = call'; result_of = results }

  call_value_more : (used : Bool) (callee : List ℕ) (given : List Argument) (at : Place) (env : Environment) (s : State) → IsMore k limit s (call_value c used callee given at env s) (call_value c' used callee given at env (more k s))
  call_value_more used callee given at env s =
      then_more k limit s _ _ _ _ (steady used callee given (env.path ++ at ∷ []) s) (λ r s1. goes_more k limit (value (results callee) (number_or_zero r)) s1)

  mutual
    pub expression_more : (used : Bool) (t : Tree) (env : Environment) (s : State) → IsMore k limit s (expression_meaning c used t env s) (expression_meaning c' used t env (more k s))
    expression_more used (tree.number n kind at) env s = goes_more k limit (value kind (pos n)) s
    expression_more used (tree.name text at) env s = read_object_more k limit (object_named env text) [] at s
    expression_more used (tree.index array subscripts at) env s = then_more k limit s _ _ _ _ (numbers_more subscripts [] env s) (λ is s1. read_object_more k limit (object_named env array) is at s1)
    expression_more used (tree.call callee args at) env s = then_more k limit s _ _ _ _ (arguments_more args [] env s) (λ given s1. call_value_more used callee given at env s1)
    expression_more used (tree.unary op arg at) env s = then_more k limit s _ _ _ _ (expression_more true arg env s) (λ x s1. computed_more k limit (unary_kind op x.kind) (unary_value op x.kind x.number) at s1)
    expression_more used (tree.binary op left right at) env s =
        then_more k limit s _ _ _ _ (expression_more true left env s) (λ x s1. joined_more k limit op x (acts right) at env (expression_meaning c true right env) (expression_meaning c' true right env) (λ s2. expression_more true right env s2) s1)
    expression_more used (tree.choice test left right at colon) env s =
        then_more k limit s _ _ _ _ (expression_more true test env s) (λ x s1. if_more k limit (is_true x.number) s1 _ _ _ _
        (chosen_more k limit (acts left || acts right) at at (common (expression_kind c env s1 left) (expression_kind c env s1 right)) env (expression_meaning c true left env) (expression_meaning c' true left env) (λ s2. expression_more true left env s2) s1)
        (chosen_more k limit (acts left || acts right) colon at (common (expression_kind c env s1 left) (expression_kind c env s1 right)) env (expression_meaning c true right env) (expression_meaning c' true right env) (λ s2. expression_more true right env s2) s1))
    expression_more used (tree.cast to arg at) env s = then_more k limit s _ _ _ _ (expression_more true arg env s) (λ x s1. goes_more k limit (value to (convert to x.number)) s1)
    expression_more used (tree.assign (tree.target text subscripts place) op v at) env s =
        then_more k limit s _ _ _ _ (numbers_more subscripts [] env s) (λ is s1. then_more k limit s1 _ _ _ _ (expression_more true v env s1) (λ x s2. assigned_more k limit op (object_named env text) is place x at s2))
    expression_more used (tree.bump (tree.target text subscripts place) up post at) env s =
        then_more k limit s _ _ _ _ (numbers_more subscripts [] env s) (λ is s1. bumped_more k limit up post (object_named env text) is place at s1)
    expression_more used (tree.comma left right at) env s = then_more k limit s _ _ _ _ (expression_more false left env s) (λ x s1. expression_more true right env s1)

    numbers_more : (ts : Trees) (before : List ℤ) (env : Environment) (s : State) → IsMore k limit s (numbers c ts before env s) (numbers c' ts before env (more k s))
    numbers_more tree.none before env s = goes_more k limit before s
    numbers_more (tree.more first rest) before env s = then_more k limit s _ _ _ _ (expression_more true first env s) (λ v s1. numbers_more rest (before ++ v.number ∷ []) env s1)

    arguments_more : (ts : Trees) (before : List Argument) (env : Environment) (s : State) → IsMore k limit s (arguments c ts before env s) (arguments c' ts before env (more k s))
    arguments_more tree.none before env s = goes_more k limit before s
    arguments_more (tree.more first rest) before env s =
        then_more k limit s _ _ _ _ (argument_of_more k limit (array_given env s first) (expression_meaning c true first env) (expression_meaning c' true first env) (λ s1. expression_more true first env s1) s)
        (λ a s1. arguments_more rest (before ++ a ∷ []) env s1)
