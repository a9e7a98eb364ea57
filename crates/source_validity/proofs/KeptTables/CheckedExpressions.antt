-- Expressions without faults set no object that is const.
use Rattle.std.proofs.Common.{◌≡◌, ◌∙◌, ℕ, ◌==◌, ◌||◌, not, sym, refl, ap, Bool, true, false, true≢false, List, [], ◌∷◌, ◌++◌, map, drop, take, length, slice_get, Option, Some, None, option_map, if◌then◌else◌, eqb-true, arith}
use Rattle.hls_base.specs.declared.place.Place.{Place}
use Rattle.c_token.specs.declared.ctype.CType.{CType}
use Rattle.c_token.specs.Replacement.{is_in, same_type}
use Rattle.c_tree.specs.Tree as tree
use Rattle.c_tree.specs.Tree.{Tree, TargetTree, Trees, ActionTree}
use Rattle.c_meaning.specs.Checks.Faults.{fault_if}
use Rattle.c_meaning.specs.Checks.Names.{Shape, is_array, Sense, object, function, Declared, sense_of, count, use_faults, target_faults, is_constant_object}
use Rattle.c_meaning.specs.Checks.Calls.{same_elements, same_lengths, fits, all_fit, called_faults, call_faults, void_faults, params_of}
use Rattle.c_meaning.specs.Checks.Conflicts.{Access, accesses, all_accesses, read_of, change_of, between, operand_conflicts, conflicts_among, conflicts_inside}
use Rattle.c_meaning.specs.Checks.Expressions.{is_given, name_given_faults, expression_faults, changed_faults, operand_faults, actions_faults, optional_faults}
use Rattle.pieces.specs.declared.resolved.expression.Cell.{Cell}
use Rattle.pieces.specs.Resolved.Core as core
use Rattle.pieces.specs.Resolved.Core.{CoreTree, CoreObjectTree, CoreFunctionTree}
use Rattle.c_elaborate.specs.declared.names.Binding.{Binding}
use Rattle.c_elaborate.specs.declared.functions.Signature.{Signature}
use Rattle.c_elaborate.specs.Names.{object_named, function_number}
use Rattle.c_elaborate.specs.Expressions.{array_given, argument_of, elaborated, all_elaborated, arguments_elaborated, action_elaborated}
use Rattle.c_elaborate.proofs.ElaborateRuns.Sizes.{left_nil, right_nil, unbroken, both_true, holds}
use Rattle.c_elaborate.proofs.ElaborateRuns.Faultless.{fourth}
use Rattle.expanded_programs.specs.Statements.Each.{IfThere, EachAction}
use Rattle.expanded_programs.specs.Statements.Scopes.{IsArray}
use Rattle.source_validity.specs.KeptTables.Programs.{ArraysKeep, CallKeeps, KeepsConstants, EachKeeps, ArgumentKeeps, ArgumentsKeep}
use Rattle.source_validity.proofs.KeptTables.Actions.{Nowhere}
use Rattle.source_validity.proofs.KeptTables.Marked.{ObjectsMarked, IsMarkedAs, AreMarked, IsMarked, FunctionsMarked}

-- ---- names

used_as : (σ : Option Sense) (n : ℕ) (at : Place) → use_faults σ n at ≡ [] → (shape : Shape) × (σ ≡ Some (object shape))
used_as None n at h = absurd cc
used_as (Some (function result params)) n at h = absurd cc
used_as (Some (object shape)) n at h = (shape, refl)

not_constant : (y z : Bool) → (not y || z) ≡ true → z ≡ false → y ≡ false
not_constant true z h e = absurd (true≢false (sym h ∙ e))
not_constant false z h e = refl

-- an array that is given for a parameter that is not const is not const
given_as : (x : Shape) (σ : Option Sense) → same_elements x σ ≡ true → (shape : Shape) × (σ ≡ Some (object shape)) × (x.constant ≡ false → shape.constant ≡ false)
given_as x None h = absurd (true≢false (sym h))
given_as x (Some (function result params)) h = absurd (true≢false (sym h))
given_as x (Some (object shape)) h =
    let a = both_true (is_array shape) _ h in
    let b = both_true (same_type x.kind shape.kind) _ a.1 in
    let n = both_true (same_lengths x.lengths shape.lengths) _ b.1 in
    (shape, refl, not_constant shape.constant x.constant n.1)

called_as : (b : Bool) (names : List Declared) (σ : Option Sense) (args : Trees) (at : Place) → called_faults b names σ args at ≡ [] → (b ≡ true) × ((result : Option CType) × (params : List Shape) × (σ ≡ Some (function result params)) × (all_fit names params args ≡ true))
called_as b names None args at h = absurd cc
called_as b names (Some (object shape)) args at h = absurd cc
called_as b names (Some (function result params)) args at h =
    let first = fault_if (not b) 7 at in
    let second = fault_if (not (length params == count args)) 10 at in
    let third = fault_if (not (all_fit names params args)) 11 at in (
      holds b (unbroken (not b) 7 at (left_nil first (second ++ third) h)),
      (result, params, refl, holds (all_fit names params args) (unbroken (not (all_fit names params args)) 11 at (right_nil second third (right_nil first (second ++ third) h)))),
    )

either_way : (y z : Bool) → (not y || z) ≡ true → y ≡ true → z ≡ true
either_way true z h e = h
either_way false z h e = absurd (true≢false (sym e))

no_length : (xs : List ℕ) → length xs ≡ 0 → xs ≡ []
no_length [] h = refl
no_length (x ∷ xs) h = absurd (omega (arith, h))

not_some : (n : ℕ) → not (n == 0) ≡ false → n ≡ 0
not_some n h = eqb-true n 0 (holds (n == 0) h)

module _ (functions : List CoreFunctionTree) (constant : Cell → Bool) (fs : List Signature) (bodies : List (List ℕ)) where
  abbrev pub Keeps : CoreTree → Type 0
  Keeps x = KeepsConstants functions constant x

  -- what is known of the names that are visible
  pub record Seen (names : List Declared) (rs : List Binding) : Type 0 where
    pub objects : ObjectsMarked constant names rs
    pub functions_ : FunctionsMarked functions fs bodies names

  module _ (names : List Declared) (rs : List Binding) (seen : Seen names rs) where
    free_named : (text : List ℕ) (n : ℕ) (at : Place) → target_faults (sense_of text names) n at ≡ [] → constant (object_named rs text).cell ≡ false
    free_named text n at h =
        let σ = sense_of text names in
        let a = use_faults σ n at in
        let b = fault_if (is_constant_object σ) 12 at in
        let u = used_as σ n at (left_nil a b h) in
        seen.objects text u.0 u.1 ∙ (sym (ap is_constant_object u.1) ∙ unbroken (is_constant_object σ) 12 at (right_nil a b h))

    -- ---- arguments

    given_free : (text : List ℕ) (x : Shape) (o : CoreObjectTree) → IsMarkedAs x o → (not (is_array x) || same_elements x (sense_of text names)) ≡ true → IsArray o → o.constant ≡ false → constant (object_named rs text).cell ≡ false
    given_free text x o e h array free = by (is_array x) refl
      where
        by : (y : Bool) → is_array x ≡ y → constant (object_named rs text).cell ≡ false
        by true is =
            let g = given_as x (sense_of text names) (either_way (is_array x) (same_elements x (sense_of text names)) h is) in
            seen.objects text g.0 g.1 ∙ g.2 (sym (e.1 is) ∙ free)
        by false is = absurd (array (no_length o.lengths (e.0 ∙ not_some (length x.lengths) is)))

    -- the first of these parameters is given this argument
    one_array : (o : CoreObjectTree) (os : List CoreObjectTree) (x : Shape) (arg : Tree) (rest : Trees) → IsMarkedAs x o → fits names x arg ≡ true → ArraysKeep constant os (arguments_elaborated fs rs rest)
        → ArraysKeep constant (o ∷ os) (arguments_elaborated fs rs (tree.more arg rest))
    one_array o os x (tree.name text at) rest e h more = by (object_named rs text).is_array
      where
        by : (y : Bool) → ArraysKeep constant (o ∷ os) (core.more_arguments (argument_of (if y then Some (object_named rs text).cell else None) (elaborated fs rs (tree.name text at))) (arguments_elaborated fs rs rest))
        by true = (given_free text x o e h, more)
        by false = more
    one_array o os x (tree.number value kind at) rest e h more = more
    one_array o os x (tree.index array subscripts at) rest e h more = more
    one_array o os x (tree.call callee args at) rest e h more = more
    one_array o os x (tree.unary op arg at) rest e h more = more
    one_array o os x (tree.binary op left right at) rest e h more = more
    one_array o os x (tree.choice test left right at colon) rest e h more = more
    one_array o os x (tree.cast to arg at) rest e h more = more
    one_array o os x (tree.assign place op value at) rest e h more = more
    one_array o os x (tree.bump place up post at) rest e h more = more
    one_array o os x (tree.comma left right at) rest e h more = more

    arrays_keep : (os : List CoreObjectTree) (xs : List Shape) (args : Trees) → AreMarked xs os → all_fit names xs args ≡ true → ArraysKeep constant os (arguments_elaborated fs rs args)
    arrays_keep [] xs args s h = tt
    arrays_keep (o ∷ os) [] args s h = absurd s
    arrays_keep (o ∷ os) (x ∷ xs) tree.none s h = tt
    arrays_keep (o ∷ os) (x ∷ xs) (tree.more arg args) s h = let b = both_true (fits names x arg) (all_fit names xs args) h in one_array o os x arg args s.0 b.0 (arrays_keep os xs args s.1 b.1)

    call_keep : (q : Option CoreFunctionTree) (xs : List Shape) (args : Trees) → IsMarked xs q → all_fit names xs args ≡ true → CallKeeps constant q (arguments_elaborated fs rs args)
    call_keep None xs args s h = tt
    call_keep (Some fn) xs args s h = arrays_keep (take fn.params fn.objects) xs args s h

    argument_keep : (q : Option Cell) (x : CoreTree) → Keeps x → ArgumentKeeps functions constant (argument_of q x)
    argument_keep (Some cell) x h = tt
    argument_keep None x h = h

    -- an argument is the name of an array, or a value
    operand_keep : (params : List Shape) (t : Tree) → (if is_given params t then name_given_faults names t else expression_faults true bodies names t) ≡ [] → (expression_faults true bodies names t ≡ [] → Keeps (elaborated fs rs t)) → Keeps (elaborated fs rs t)
    operand_keep params (tree.name text at) h value = tt
    operand_keep [] t h value = value h
    operand_keep (x ∷ xs) (tree.number n kind at) h value = value h
    operand_keep (x ∷ xs) (tree.index array subscripts at) h value = value h
    operand_keep (x ∷ xs) (tree.call callee args at) h value = value h
    operand_keep (x ∷ xs) (tree.unary op arg at) h value = value h
    operand_keep (x ∷ xs) (tree.binary op left right at) h value = value h
    operand_keep (x ∷ xs) (tree.choice test left right at colon) h value = value h
    operand_keep (x ∷ xs) (tree.cast to arg at) h value = value h
    operand_keep (x ∷ xs) (tree.assign place op v at) h value = value h
    operand_keep (x ∷ xs) (tree.bump place up post at) h value = value h
    operand_keep (x ∷ xs) (tree.comma left right at) h value = value h

    -- ---- expressions

    target_parts : (text : List ℕ) (subscripts : Trees) (place at : Place) (valued : List Access) → changed_faults bodies names (tree.target text subscripts place) at valued ≡ []
        → (target_faults (sense_of text names) (count subscripts) place ≡ []) × (operand_faults bodies names [] subscripts ≡ [])
    target_parts text subscripts place at valued h =
        let σ = sense_of text names in
        let n = count subscripts in
        let inner = all_accesses names subscripts in
        let change = change_of names text n at in
        let a = target_faults σ n place in
        let b = conflicts_among names [] subscripts in
        let c = between inner valued in
        let d = conflicts_inside change inner in
        let e = conflicts_inside change valued in
        let f = operand_faults bodies names [] subscripts in
        (left_nil a (b ++ (c ++ (d ++ (e ++ f)))) h, fourth c d e f (right_nil b (c ++ (d ++ (e ++ f))) (right_nil a (b ++ (c ++ (d ++ (e ++ f)))) h)))

    mutual
      pub expression_keep : (used : Bool) (t : Tree) → expression_faults used bodies names t ≡ [] → Keeps (elaborated fs rs t)
      expression_keep u (tree.number value kind at) h = tt
      expression_keep u (tree.name text at) h = tt
      expression_keep u (tree.index array subscripts at) h =
          let a = use_faults (sense_of array names) (count subscripts) at in
          let b = conflicts_among names [] subscripts in
          let c = conflicts_inside (read_of names array (count subscripts)) (all_accesses names subscripts) in
          let d = operand_faults bodies names [] subscripts in
          each_keep [] subscripts (fourth a b c d h)
      expression_keep u (tree.call callee args at) h =
          let a = if u then void_faults names callee at else [] in
          let b = call_faults bodies names callee args at in
          let c = conflicts_among names [] args in
          let d = operand_faults bodies names (params_of (sense_of callee names)) args in
          let is = called_as (is_in callee bodies) names (sense_of callee names) args at (left_nil b (c ++ d) (right_nil a (b ++ (c ++ d)) h)) in
          let sized = seen.functions_ callee is.1.0 is.1.1 is.1.2 is.0 in
          (call_keep (slice_get functions (function_number fs callee)) is.1.1 args sized is.1.3, arguments_keep (params_of (sense_of callee names)) args (fourth a b c d h))
      expression_keep u (tree.unary op arg at) h = expression_keep true arg h
      expression_keep u (tree.binary op left right at) h =
          let a = operand_conflicts op (accesses names left) (accesses names right) in
          let l = expression_faults true bodies names left in
          let r = expression_faults true bodies names right in
          let rest = right_nil a (l ++ r) h in
          (expression_keep true left (left_nil l r rest), expression_keep true right (right_nil l r rest))
      expression_keep u (tree.choice test left right at colon) h =
          let t = expression_faults true bodies names test in
          let l = expression_faults true bodies names left in
          let r = expression_faults true bodies names right in
          let rest = right_nil t (l ++ r) h in
          (expression_keep true test (left_nil t (l ++ r) h), expression_keep true left (left_nil l r rest), expression_keep true right (right_nil l r rest))
      expression_keep u (tree.cast to arg at) h = expression_keep true arg h
      expression_keep u (tree.assign (tree.target text subscripts place) op value at) h =
          let a = changed_faults bodies names (tree.target text subscripts place) at (accesses names value) in
          let b = expression_faults true bodies names value in
          let parts = target_parts text subscripts place at (accesses names value) (left_nil a b h) in
          ((free_named text (count subscripts) place parts.0, each_keep [] subscripts parts.1), expression_keep true value (right_nil a b h))
      expression_keep u (tree.bump (tree.target text subscripts place) up post at) h = let parts = target_parts text subscripts place at [] h in (free_named text (count subscripts) place parts.0, each_keep [] subscripts parts.1)
      expression_keep u (tree.comma left right at) h =
          let l = expression_faults false bodies names left in
          let r = expression_faults true bodies names right in
          (expression_keep false left (left_nil l r h), expression_keep true right (right_nil l r h))

      each_keep : (params : List Shape) (ts : Trees) → operand_faults bodies names params ts ≡ [] → EachKeeps functions constant (all_elaborated fs rs ts)
      each_keep params tree.none h = tt
      each_keep params (tree.more first rest) h =
          let a = if is_given params first then name_given_faults names first else expression_faults true bodies names first in
          let b = operand_faults bodies names (drop 1 params) rest in
          (operand_keep params first (left_nil a b h) (λ e. expression_keep true first e), each_keep (drop 1 params) rest (right_nil a b h))

      arguments_keep : (params : List Shape) (ts : Trees) → operand_faults bodies names params ts ≡ [] → ArgumentsKeep functions constant (arguments_elaborated fs rs ts)
      arguments_keep params tree.none h = tt
      arguments_keep params (tree.more first rest) h =
          let a = if is_given params first then name_given_faults names first else expression_faults true bodies names first in
          let b = operand_faults bodies names (drop 1 params) rest in
          (argument_keep (array_given rs first) (elaborated fs rs first) (operand_keep params first (left_nil a b h) (λ e. expression_keep true first e)), arguments_keep (drop 1 params) rest (right_nil a b h))

    pub option_keep : (q : Option Tree) → optional_faults bodies names q ≡ [] → IfThere Keeps Nowhere (option_map (elaborated fs rs) q)
    option_keep None h = tt
    option_keep (Some t) h = expression_keep true t h

    pub actions_keep : (actions : List ActionTree) → actions_faults bodies names actions ≡ [] → EachAction Keeps Nowhere (map (action_elaborated fs rs) actions)
    actions_keep [] h = tt
    actions_keep (tree.assignment place op value at ∷ more) h =
        let t = tree.assign place op value at in
        (expression_keep false t (left_nil (expression_faults false bodies names t) (actions_faults bodies names more) h), actions_keep more (right_nil (expression_faults false bodies names t) (actions_faults bodies names more) h))
    actions_keep (tree.bumping place up at ∷ more) h =
        let t = tree.bump place up false at in
        (expression_keep false t (left_nil (expression_faults false bodies names t) (actions_faults bodies names more) h), actions_keep more (right_nil (expression_faults false bodies names t) (actions_faults bodies names more) h))
    actions_keep (tree.evaluation t ∷ more) h =
        (expression_keep false t (left_nil (expression_faults false bodies names t) (actions_faults bodies names more) h), actions_keep more (right_nil (expression_faults false bodies names t) (actions_faults bodies names more) h))
