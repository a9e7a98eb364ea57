-- Expressions leave each object with its type, its lengths and numbers of its type.
use Rattle.std.proofs.Common.{ℕ, List, [], ◌∷◌, ◌++◌, length, Bool, true, false, ◌==◌, ◌||◌, ℤ, pos, Option, Some, None, if◌then◌else◌}
use Rattle.hls_base.specs.declared.place.Place.{Place}
use Rattle.hls_base.specs.declared.point.PointKind.TheVariants as point
use Rattle.hls_base.specs.declared.refusal.UbRule.TheVariants as ub
use Rattle.c_token.specs.declared.ctype.CType.{CType}
use Rattle.c_tree.specs.declared.operator.Binary.{Binary}
use Rattle.c_tree.specs.declared.operator.Binary.TheVariants as b
use Rattle.c_tree.specs.Tree as tree
use Rattle.c_tree.specs.Tree.{Tree, TargetTree, Trees}
use Rattle.c_value.specs.Values.{int_type, convert, common}
use Rattle.c_value.specs.Operators as o
use Rattle.c_value.specs.Operators.{Computed, truth, is_true, unary_kind, binary_kind, unary_value, binary_value}
use Rattle.c_meaning.specs.declared.value.Value.{Value}
use Rattle.c_meaning.specs.declared.value.Argument.{Argument}
use Rattle.c_meaning.specs.declared.value.Argument.TheVariants as argument
use Rattle.c_meaning.specs.Store.{State, Environment, object_named, kind_of_object, lengths_of_object, read_element, element_place}
use Rattle.c_meaning.specs.Steps.{Ran}
use Rattle.c_meaning.specs.Expression.{value, Calls, expression_kind, acts, computed, operated, reached, not_reached, joined, chosen, read_found, read_place, read_object, store_place, store_object, assigned, bumped, array_given, argument_of, number_or_zero, call_value, expression_meaning, numbers, arguments}
use Rattle.expanded_programs.proofs.ElaboratedPrograms.StoredNumbers.Keeping.{Ends, goes_ends, fails_ends, then_ends, pass_if_ends, if_ends, stored_ends}

-- a part that leaves the objects so, with whatever state it begins
abbrev pub EndsAll : {A : Type 0} → (State → Ran A) → Type 0
EndsAll f = (s : State) → Ends s (f s)

pub computed_ends : (kind : CType) (r : Computed) (at : Place) (s : State) → Ends s (computed kind r at s)
computed_ends kind (o.defined n) at s = goes_ends (value kind n) s
computed_ends kind (o.undefined rule) at s = fails_ends rule at s

pub operated_ends : (op : Binary) (x y : Value) (at : Place) (s : State) → Ends s (operated op x y at s)
operated_ends op x y at s = computed_ends (binary_kind op x.kind y.kind) (binary_value op x.kind x.number y.kind y.number) at s

pub reached_ends : (fork : Bool) (at : Place) (env : Environment) (f : State → Ran Value) → EndsAll f → (s : State) → Ends s (reached fork at env f s)
reached_ends fork at env f h s =
    then_ends s _ _ (pass_if_ends fork point.Arm at env s) (λ p s1. then_ends s1 _ _ (h s1) (λ y s2. then_ends s2 _ _ (pass_if_ends fork point.End at env s2) (λ q s3. goes_ends (value int_type (truth (is_true y.number))) s3)))

pub not_reached_ends : (fork : Bool) (at : Place) (env : Environment) (decided : Bool) (s : State) → Ends s (not_reached fork at env decided s)
not_reached_ends fork at env decided s = then_ends s _ _ (pass_if_ends fork point.End at env s) (λ q s1. goes_ends (value int_type (truth decided)) s1)

pub joined_ends : (op : Binary) (x : Value) (fork : Bool) (at : Place) (env : Environment) (f : State → Ran Value) → EndsAll f → (s : State)
    → Ends s (joined op x fork at env f s)
joined_ends b.LogAnd x fork at env f h s = if_ends (is_true x.number) s _ _ (reached_ends fork at env f h s) (not_reached_ends fork at env false s)
joined_ends b.LogOr x fork at env f h s = if_ends (is_true x.number) s _ _ (not_reached_ends fork at env true s) (reached_ends fork at env f h s)
joined_ends op x fork at env f h s = then_ends s _ _ (h s) (λ y s1. operated_ends op x y at s1)

pub chosen_ends : (fork : Bool) (arm at : Place) (kind : CType) (env : Environment) (f : State → Ran Value) → EndsAll f → (s : State)
    → Ends s (chosen fork arm at kind env f s)
chosen_ends fork arm at kind env f h s =
    then_ends s _ _ (pass_if_ends fork point.Arm arm env s) (λ p s1. then_ends s1 _ _ (h s1) (λ y s2. then_ends s2 _ _ (pass_if_ends fork point.End at env s2) (λ q s3. goes_ends (value kind (convert kind y.number)) s3)))

pub read_found_ends : (found : Option ℤ) (kind : CType) (is_scalar : Bool) (at : Place) (s : State) → Ends s (read_found found kind is_scalar at s)
read_found_ends (Some n) kind is_scalar at s = goes_ends (value kind n) s
read_found_ends None kind true at s = fails_ends ub.Unset at s
read_found_ends None kind false at s = fails_ends ub.UnsetElement at s

pub read_place_ends : (place : Option ℕ) (object : ℕ) (is_scalar : Bool) (at : Place) (s : State) → Ends s (read_place place object is_scalar at s)
read_place_ends None object is_scalar at s = fails_ends ub.Index at s
read_place_ends (Some element) object is_scalar at s = read_found_ends (read_element s object element) (kind_of_object s object) is_scalar at s

pub read_object_ends : (object : ℕ) (subscripts : List ℤ) (at : Place) (s : State) → Ends s (read_object object subscripts at s)
read_object_ends object subscripts at s = read_place_ends (element_place (lengths_of_object s object) subscripts) object (length subscripts == 0) at s

pub store_place_ends : (place : Option ℕ) (object : ℕ) (n : ℤ) (at : Place) (s : State) → Ends s (store_place place object n at s)
store_place_ends None object n at s = fails_ends ub.Index at s
store_place_ends (Some element) object n at s =
    stored_ends (value (kind_of_object s object) (convert (kind_of_object s object) n)) object element n s

pub store_object_ends : (object : ℕ) (subscripts : List ℤ) (n : ℤ) (at : Place) (s : State) → Ends s (store_object object subscripts n at s)
store_object_ends object subscripts n at s = store_place_ends (element_place (lengths_of_object s object) subscripts) object n at s

pub assigned_ends : (op : Option Binary) (object : ℕ) (subscripts : List ℤ) (place : Place) (v : Value) (at : Place) (s : State)
    → Ends s (assigned op object subscripts place v at s)
assigned_ends None object subscripts place v at s = store_object_ends object subscripts v.number place s
assigned_ends (Some op) object subscripts place v at s =
    then_ends s _ _ (read_object_ends object subscripts place s) (λ x s1. then_ends s1 _ _ (operated_ends op x v at s1) (λ r s2. store_object_ends object subscripts r.number place s2))

pub bumped_ends : (up post : Bool) (object : ℕ) (subscripts : List ℤ) (place at : Place) (s : State) → Ends s (bumped up post object subscripts place at s)
bumped_ends up post object subscripts place at s =
    then_ends s _ _ (read_object_ends object subscripts place s) (λ x s1.
    then_ends s1 _ _ (operated_ends (if up then b.Add else b.Sub) x (value int_type (pos 1)) at s1) (λ r s2.
    then_ends s2 _ _ (store_object_ends object subscripts r.number place s2) (λ v s3. goes_ends (if post then x else v) s3)))

pub argument_of_ends : (given : Option ℕ) (f : State → Ran Value) → EndsAll f → (s : State) → Ends s (argument_of given f s)
argument_of_ends (Some object) f h s = goes_ends (argument.Array object) s
argument_of_ends None f h s = then_ends s _ _ (h s) (λ v s1. goes_ends (argument.Number v.number) s1)

-- calls that leave the objects so
abbrev pub Steady : Calls → Type 0
Steady c = (used : Bool) (callee : List ℕ) (given : List Argument) (path : List Place) → EndsAll (c.call used callee given path)

module _ (c : Calls) (steady : Steady c) where
  call_value_ends : (used : Bool) (callee : List ℕ) (given : List Argument) (at : Place) (env : Environment) (s : State) → Ends s (call_value c used callee given at env s)
  call_value_ends used callee given at env s =
      then_ends s _ _ (steady used callee given (env.path ++ at ∷ []) s) (λ r s1. goes_ends (value (c.result_of callee) (number_or_zero r)) s1)

  mutual
    pub expression_ends : (used : Bool) (t : Tree) (env : Environment) (s : State) → Ends s (expression_meaning c used t env s)
    expression_ends used (tree.number n kind at) env s = goes_ends (value kind (pos n)) s
    expression_ends used (tree.name text at) env s = read_object_ends (object_named env text) [] at s
    expression_ends used (tree.index array subscripts at) env s = then_ends s _ _ (numbers_ends subscripts [] env s) (λ is s1. read_object_ends (object_named env array) is at s1)
    expression_ends used (tree.call callee args at) env s = then_ends s _ _ (arguments_ends args [] env s) (λ given s1. call_value_ends used callee given at env s1)
    expression_ends used (tree.unary op arg at) env s = then_ends s _ _ (expression_ends true arg env s) (λ x s1. computed_ends (unary_kind op x.kind) (unary_value op x.kind x.number) at s1)
    expression_ends used (tree.binary op left right at) env s =
        then_ends s _ _ (expression_ends true left env s) (λ x s1. joined_ends op x (acts right) at env (expression_meaning c true right env) (λ s2. expression_ends true right env s2) s1)
    expression_ends used (tree.choice test left right at colon) env s =
        then_ends s _ _ (expression_ends true test env s) (λ x s1. if_ends (is_true x.number) s1 _ _
        (chosen_ends (acts left || acts right) at at (common (expression_kind c env s1 left) (expression_kind c env s1 right)) env (expression_meaning c true left env) (λ s2. expression_ends true left env s2) s1)
        (chosen_ends (acts left || acts right) colon at (common (expression_kind c env s1 left) (expression_kind c env s1 right)) env (expression_meaning c true right env) (λ s2. expression_ends true right env s2) s1))
    expression_ends used (tree.cast to arg at) env s = then_ends s _ _ (expression_ends true arg env s) (λ x s1. goes_ends (value to (convert to x.number)) s1)
    expression_ends used (tree.assign (tree.target text subscripts place) op v at) env s =
        then_ends s _ _ (numbers_ends subscripts [] env s) (λ is s1. then_ends s1 _ _ (expression_ends true v env s1) (λ x s2. assigned_ends op (object_named env text) is place x at s2))
    expression_ends used (tree.bump (tree.target text subscripts place) up post at) env s =
        then_ends s _ _ (numbers_ends subscripts [] env s) (λ is s1. bumped_ends up post (object_named env text) is place at s1)
    expression_ends used (tree.comma left right at) env s = then_ends s _ _ (expression_ends false left env s) (λ x s1. expression_ends true right env s1)

    numbers_ends : (ts : Trees) (before : List ℤ) (env : Environment) (s : State) → Ends s (numbers c ts before env s)
    numbers_ends tree.none before env s = goes_ends before s
    numbers_ends (tree.more first rest) before env s = then_ends s _ _ (expression_ends true first env s) (λ v s1. numbers_ends rest (before ++ v.number ∷ []) env s1)

    arguments_ends : (ts : Trees) (before : List Argument) (env : Environment) (s : State) → Ends s (arguments c ts before env s)
    arguments_ends tree.none before env s = goes_ends before s
    arguments_ends (tree.more first rest) before env s =
        then_ends s _ _ (argument_of_ends (array_given env s first) (expression_meaning c true first env) (λ s1. expression_ends true first env s1) s)
        (λ a s1. arguments_ends rest (before ++ a ∷ []) env s1)
