-- In expressions without faults each element has as many subscripts as its array has dimensions.
use Rattle.std.proofs.Common.{◌≡◌, ℕ, suc, ◌==◌, ◌||◌, not, sym, refl, ap, subst, Bool, true, false, true≢false, List, [], ◌∷◌, ◌++◌, map, drop, take, length, slice_get, Option, Some, None, option_map, if◌then◌else◌, eqb-true, arith}
use Rattle.hls_base.specs.declared.place.Place.{Place}
use Rattle.hls_base.specs.declared.refusal.Refusal.{Refusal}
use Rattle.c_token.specs.declared.ctype.CType.{CType}
use Rattle.c_token.specs.Replacement.{is_in, same_type}
use Rattle.c_tree.specs.Tree as tree
use Rattle.c_tree.specs.Tree.{Tree, TargetTree, Trees, ActionTree}
use Rattle.c_meaning.specs.Checks.Faults.{fault, fault_if}
use Rattle.c_meaning.specs.Checks.Names.{Shape, is_array, Sense, object, function, Declared, sense_of, count, same_flag, use_faults, target_faults, is_constant_object}
use Rattle.c_meaning.specs.Checks.Calls.{same_elements, same_lengths, fits, all_fit, called_faults, call_faults, void_faults, params_of}
use Rattle.c_meaning.specs.Checks.Conflicts.{Access, accesses, all_accesses, read_of, change_of, between, operand_conflicts, conflicts_among, conflicts_inside}
use Rattle.c_meaning.specs.Checks.Expressions.{is_given, name_given_faults, expression_faults, changed_faults, operand_faults, actions_faults, optional_faults}
use Rattle.pieces.specs.declared.resolved.expression.Cell.{Cell}
use Rattle.pieces.specs.Resolved.Core as core
use Rattle.pieces.specs.Resolved.Core.{CoreTree, CoreObjectTree, CoreFunctionTree}
use Rattle.c_elaborate.specs.declared.names.Binding.{Binding}
use Rattle.c_elaborate.specs.declared.functions.Signature.{Signature}
use Rattle.c_elaborate.specs.Names.{object_named, function_number}
use Rattle.c_elaborate.specs.Expressions.{array_given, argument_of, elaborated, all_elaborated, arguments_elaborated, action_elaborated}
use Rattle.c_elaborate.proofs.ElaborateRuns.Sizes.{left_nil, right_nil, unbroken, both_true, holds}
use Rattle.c_elaborate.proofs.ElaborateRuns.Faultless.{fourth}
use Rattle.expanded_programs.specs.Statements.Each.{IfThere, EachAction}
use Rattle.typed_pieces.specs.FittingSubscripts.Programs as fitting
use Rattle.typed_pieces.specs.FittingSubscripts.Programs.{ArraysFit, CallFits, ElementsFit, TargetFits, EachFits, ArgumentFits, ArgumentsFit}
use Rattle.source_answers.proofs.SourceRuns.ElaboratedSubscripts.Dimensions.{ObjectsSized, AreSized, IsSized, FunctionsSized}

abbrev pub Nowhere : ℕ → Type 0
Nowhere i = Unit {0}

-- ---- names

counted : (y : Bool) (n m : ℕ) (at : Place) → (if y then fault_if (not (n == m)) 10 at else (fault 9 at ∷ [])) ≡ [] → n ≡ m
counted true n m at h = eqb-true n m (holds (n == m) (unbroken (not (n == m)) 10 at h))
counted false n m at h = absurd cc

used_as : (σ : Option Sense) (n : ℕ) (at : Place) → use_faults σ n at ≡ [] → (shape : Shape) × (σ ≡ Some (object shape)) × (length shape.lengths ≡ n)
used_as None n at h = absurd cc
used_as (Some (function result params)) n at h = absurd cc
used_as (Some (object shape)) n at h = (shape, refl, counted (same_flag (length shape.lengths == 0) (n == 0)) (length shape.lengths) n at h)

pub same_count : (xs ys : List (Option ℕ)) → same_lengths xs ys ≡ true → length xs ≡ length ys
same_count [] [] h = refl
same_count [] (y ∷ ys) h = absurd (true≢false (sym h))
same_count (x ∷ xs) [] h = absurd (true≢false (sym h))
same_count (x ∷ xs) (y ∷ ys) h = ap suc (same_count xs ys (both_true _ (same_lengths xs ys) h).1)

-- an array that is given has as many dimensions as the parameter
given_as : (x : Shape) (σ : Option Sense) → same_elements x σ ≡ true → (shape : Shape) × (σ ≡ Some (object shape)) × (length x.lengths ≡ length shape.lengths)
given_as x None h = absurd (true≢false (sym h))
given_as x (Some (function result params)) h = absurd (true≢false (sym h))
given_as x (Some (object shape)) h =
    let a = both_true (is_array shape) _ h in
    let b = both_true (same_type x.kind shape.kind) _ a.1 in
    let n = both_true (same_lengths x.lengths shape.lengths) _ b.1 in
    (shape, refl, same_count x.lengths shape.lengths n.0)

called_as : (b : Bool) (names : List Declared) (σ : Option Sense) (args : Trees) (at : Place) → called_faults b names σ args at ≡ [] → (b ≡ true) × ((result : Option CType) × (params : List Shape) × (σ ≡ Some (function result params)) × (all_fit names params args ≡ true))
called_as b names None args at h = absurd cc
called_as b names (Some (object shape)) args at h = absurd cc
called_as b names (Some (function result params)) args at h =
    let first = fault_if (not b) 7 at in
    let second = fault_if (not (length params == count args)) 10 at in
    let third = fault_if (not (all_fit names params args)) 11 at in (
      holds b (unbroken (not b) 7 at (left_nil first (second ++ third) h)),
      (result, params, refl, holds (all_fit names params args) (unbroken (not (all_fit names params args)) 11 at (right_nil second third (right_nil first (second ++ third) h)))),
    )

not_some : (n : ℕ) → not (n == 0) ≡ false → n ≡ 0
not_some n h = eqb-true n 0 (holds (n == 0) h)

module _ (functions : List CoreFunctionTree) (dimensions : Cell → ℕ) (fs : List Signature) (bodies : List (List ℕ)) where
  abbrev pub Fits : CoreTree → Type 0
  Fits x = ElementsFit functions dimensions x

  -- what is known of the names that are visible
  pub record Seen (names : List Declared) (rs : List Binding) : Type 0 where
    pub objects : ObjectsSized dimensions names rs
    pub functions_ : FunctionsSized functions fs bodies names

  module _ (names : List Declared) (rs : List Binding) (seen : Seen names rs) where
    count_elaborated : (ts : Trees) → fitting.count (all_elaborated fs rs ts) ≡ count ts
    count_elaborated tree.none = refl
    count_elaborated (tree.more first rest) = let e = count_elaborated rest in omega (arith, e)

    as_many : (text : List ℕ) (ts : Trees) (at : Place) → use_faults (sense_of text names) (count ts) at ≡ [] → fitting.count (all_elaborated fs rs ts) ≡ dimensions (object_named rs text).cell
    as_many text ts at h =
        let u = used_as (sense_of text names) (count ts) at h in
        let d = seen.objects text u.0 u.1 in
        let e = count_elaborated ts in
        let n = u.2 in
        omega (arith, d, e, n)

    -- ---- arguments

    -- what is found at an argument for the first of these parameters
    abbrev given_faults_of : List Shape → Tree → List Refusal
    given_faults_of params t = if is_given params t then name_given_faults names t else expression_faults true bodies names t

    -- a name that is given for a scalar is one of a scalar
    given_as_many : (text : List ℕ) (x : Shape) (xs : List Shape) (at : Place) (o : CoreObjectTree) → length o.lengths ≡ length x.lengths → fits names x (tree.name text at) ≡ true → given_faults_of (x ∷ xs) (tree.name text at) ≡ [] → length o.lengths ≡ dimensions (object_named rs text).cell
    given_as_many text x xs at o e h clean = by (is_array x) refl h clean
      where
        by : (y : Bool) → is_array x ≡ y → (not y || same_elements x (sense_of text names)) ≡ true → (if y then name_given_faults names (tree.name text at) else use_faults (sense_of text names) 0 at) ≡ [] → length o.lengths ≡ dimensions (object_named rs text).cell
        by true is f none =
            let g = given_as x (sense_of text names) f in
            let d = seen.objects text g.0 g.1 in
            let n = g.2 in
            omega (arith, d, e, n)
        by false is f none =
            let u = used_as (sense_of text names) 0 at none in
            let d = seen.objects text u.0 u.1 in
            let n = u.2 in
            let scalar = not_some (length x.lengths) is in
            omega (arith, d, e, n, scalar)

    -- the first of these parameters is given this argument
    one_array : (o : CoreObjectTree) (os : List CoreObjectTree) (x : Shape) (xs : List Shape) (arg : Tree) (rest : Trees) → length o.lengths ≡ length x.lengths → fits names x arg ≡ true → given_faults_of (x ∷ xs) arg ≡ [] → ArraysFit dimensions os (arguments_elaborated fs rs rest)
        → ArraysFit dimensions (o ∷ os) (arguments_elaborated fs rs (tree.more arg rest))
    one_array o os x xs (tree.name text at) rest e h clean more = by (object_named rs text).is_array
      where
        by : (y : Bool) → ArraysFit dimensions (o ∷ os) (core.more_arguments (argument_of (if y then Some (object_named rs text).cell else None) (elaborated fs rs (tree.name text at))) (arguments_elaborated fs rs rest))
        by true = (given_as_many text x xs at o e h clean, more)
        by false = more
    one_array o os x xs (tree.number value kind at) rest e h clean more = more
    one_array o os x xs (tree.index array subscripts at) rest e h clean more = more
    one_array o os x xs (tree.call callee args at) rest e h clean more = more
    one_array o os x xs (tree.unary op arg at) rest e h clean more = more
    one_array o os x xs (tree.binary op left right at) rest e h clean more = more
    one_array o os x xs (tree.choice test left right at colon) rest e h clean more = more
    one_array o os x xs (tree.cast to arg at) rest e h clean more = more
    one_array o os x xs (tree.assign place op value at) rest e h clean more = more
    one_array o os x xs (tree.bump place up post at) rest e h clean more = more
    one_array o os x xs (tree.comma left right at) rest e h clean more = more

    arrays_fit : (os : List CoreObjectTree) (xs : List Shape) (args : Trees) → AreSized xs os → all_fit names xs args ≡ true → operand_faults bodies names xs args ≡ [] → ArraysFit dimensions os (arguments_elaborated fs rs args)
    arrays_fit [] xs args s h clean = tt
    arrays_fit (o ∷ os) [] args s h clean = absurd s
    arrays_fit (o ∷ os) (x ∷ xs) tree.none s h clean = tt
    arrays_fit (o ∷ os) (x ∷ xs) (tree.more arg args) s h clean =
        let b = both_true (fits names x arg) (all_fit names xs args) h in
        let a = given_faults_of (x ∷ xs) arg in
        let rest = operand_faults bodies names xs args in
        one_array o os x xs arg args s.0 b.0 (left_nil a rest clean) (arrays_fit os xs args s.1 b.1 (right_nil a rest clean))

    call_fits : (q : Option CoreFunctionTree) (xs : List Shape) (args : Trees) → IsSized xs q → all_fit names xs args ≡ true → operand_faults bodies names xs args ≡ [] → CallFits dimensions q (arguments_elaborated fs rs args)
    call_fits None xs args s h clean = tt
    call_fits (Some fn) xs args s h clean = arrays_fit (take fn.params fn.objects) xs args s h clean

    argument_fits : (q : Option Cell) (x : CoreTree) → Fits x → ArgumentFits functions dimensions (argument_of q x)
    argument_fits (Some cell) x h = tt
    argument_fits None x h = h

    -- an argument is the name of an array, or a value
    operand_fits : (params : List Shape) (t : Tree) → given_faults_of params t ≡ [] → (expression_faults true bodies names t ≡ [] → Fits (elaborated fs rs t)) → Fits (elaborated fs rs t)
    operand_fits params (tree.name text at) h value = tt
    operand_fits [] t h value = value h
    operand_fits (x ∷ xs) (tree.number n kind at) h value = value h
    operand_fits (x ∷ xs) (tree.index array subscripts at) h value = value h
    operand_fits (x ∷ xs) (tree.call callee args at) h value = value h
    operand_fits (x ∷ xs) (tree.unary op arg at) h value = value h
    operand_fits (x ∷ xs) (tree.binary op left right at) h value = value h
    operand_fits (x ∷ xs) (tree.choice test left right at colon) h value = value h
    operand_fits (x ∷ xs) (tree.cast to arg at) h value = value h
    operand_fits (x ∷ xs) (tree.assign place op v at) h value = value h
    operand_fits (x ∷ xs) (tree.bump place up post at) h value = value h
    operand_fits (x ∷ xs) (tree.comma left right at) h value = value h

    -- ---- expressions

    target_parts : (text : List ℕ) (subscripts : Trees) (place at : Place) (valued : List Access) → changed_faults bodies names (tree.target text subscripts place) at valued ≡ []
        → (use_faults (sense_of text names) (count subscripts) place ≡ []) × (operand_faults bodies names [] subscripts ≡ [])
    target_parts text subscripts place at valued h =
        let σ = sense_of text names in
        let n = count subscripts in
        let inner = all_accesses names subscripts in
        let change = change_of names text n at in
        let a = target_faults σ n place in
        let b = conflicts_among names [] subscripts in
        let c = between inner valued in
        let d = conflicts_inside change inner in
        let e = conflicts_inside change valued in
        let f = operand_faults bodies names [] subscripts in
        (left_nil (use_faults σ n place) (fault_if (is_constant_object σ) 12 place) (left_nil a (b ++ (c ++ (d ++ (e ++ f)))) h), fourth c d e f (right_nil b (c ++ (d ++ (e ++ f))) (right_nil a (b ++ (c ++ (d ++ (e ++ f)))) h)))

    mutual
      pub expression_fits : (used : Bool) (t : Tree) → expression_faults used bodies names t ≡ [] → Fits (elaborated fs rs t)
      expression_fits u (tree.number value kind at) h = tt
      expression_fits u (tree.name text at) h = tt
      expression_fits u (tree.index array subscripts at) h =
          let a = use_faults (sense_of array names) (count subscripts) at in
          let b = conflicts_among names [] subscripts in
          let c = conflicts_inside (read_of names array (count subscripts)) (all_accesses names subscripts) in
          let d = operand_faults bodies names [] subscripts in
          (as_many array subscripts at (left_nil a (b ++ (c ++ d)) h), each_fits [] subscripts (fourth a b c d h))
      expression_fits u (tree.call callee args at) h =
          let a = if u then void_faults names callee at else [] in
          let b = call_faults bodies names callee args at in
          let c = conflicts_among names [] args in
          let d = operand_faults bodies names (params_of (sense_of callee names)) args in
          let is = called_as (is_in callee bodies) names (sense_of callee names) args at (left_nil b (c ++ d) (right_nil a (b ++ (c ++ d)) h)) in
          let sized = seen.functions_ callee is.1.0 is.1.1 is.1.2 is.0 in
          let clean = fourth a b c d h in (
            call_fits (slice_get functions (function_number fs callee)) is.1.1 args sized is.1.3 (subst (λ σ. operand_faults bodies names (params_of σ) args ≡ []) is.1.2 clean),
            arguments_fit (params_of (sense_of callee names)) args clean,
          )
      expression_fits u (tree.unary op arg at) h = expression_fits true arg h
      expression_fits u (tree.binary op left right at) h =
          let a = operand_conflicts op (accesses names left) (accesses names right) in
          let l = expression_faults true bodies names left in
          let r = expression_faults true bodies names right in
          let rest = right_nil a (l ++ r) h in
          (expression_fits true left (left_nil l r rest), expression_fits true right (right_nil l r rest))
      expression_fits u (tree.choice test left right at colon) h =
          let t = expression_faults true bodies names test in
          let l = expression_faults true bodies names left in
          let r = expression_faults true bodies names right in
          let rest = right_nil t (l ++ r) h in
          (expression_fits true test (left_nil t (l ++ r) h), expression_fits true left (left_nil l r rest), expression_fits true right (right_nil l r rest))
      expression_fits u (tree.cast to arg at) h = expression_fits true arg h
      expression_fits u (tree.assign (tree.target text subscripts place) op value at) h =
          let a = changed_faults bodies names (tree.target text subscripts place) at (accesses names value) in
          let b = expression_faults true bodies names value in
          let parts = target_parts text subscripts place at (accesses names value) (left_nil a b h) in
          ((as_many text subscripts place parts.0, each_fits [] subscripts parts.1), expression_fits true value (right_nil a b h))
      expression_fits u (tree.bump (tree.target text subscripts place) up post at) h = let parts = target_parts text subscripts place at [] h in (as_many text subscripts place parts.0, each_fits [] subscripts parts.1)
      expression_fits u (tree.comma left right at) h =
          let l = expression_faults false bodies names left in
          let r = expression_faults true bodies names right in
          (expression_fits false left (left_nil l r h), expression_fits true right (right_nil l r h))

      each_fits : (params : List Shape) (ts : Trees) → operand_faults bodies names params ts ≡ [] → EachFits functions dimensions (all_elaborated fs rs ts)
      each_fits params tree.none h = tt
      each_fits params (tree.more first rest) h =
          let a = given_faults_of params first in
          let b = operand_faults bodies names (drop 1 params) rest in
          (operand_fits params first (left_nil a b h) (λ e. expression_fits true first e), each_fits (drop 1 params) rest (right_nil a b h))

      arguments_fit : (params : List Shape) (ts : Trees) → operand_faults bodies names params ts ≡ [] → ArgumentsFit functions dimensions (arguments_elaborated fs rs ts)
      arguments_fit params tree.none h = tt
      arguments_fit params (tree.more first rest) h =
          let a = given_faults_of params first in
          let b = operand_faults bodies names (drop 1 params) rest in
          (argument_fits (array_given rs first) (elaborated fs rs first) (operand_fits params first (left_nil a b h) (λ e. expression_fits true first e)), arguments_fit (drop 1 params) rest (right_nil a b h))

    pub option_fits : (q : Option Tree) → optional_faults bodies names q ≡ [] → IfThere Fits Nowhere (option_map (elaborated fs rs) q)
    option_fits None h = tt
    option_fits (Some t) h = expression_fits true t h

    pub actions_fit : (actions : List ActionTree) → actions_faults bodies names actions ≡ [] → EachAction Fits Nowhere (map (action_elaborated fs rs) actions)
    actions_fit [] h = tt
    actions_fit (tree.assignment place op value at ∷ more) h =
        let t = tree.assign place op value at in
        (expression_fits false t (left_nil (expression_faults false bodies names t) (actions_faults bodies names more) h), actions_fit more (right_nil (expression_faults false bodies names t) (actions_faults bodies names more) h))
    actions_fit (tree.bumping place up at ∷ more) h =
        let t = tree.bump place up false at in
        (expression_fits false t (left_nil (expression_faults false bodies names t) (actions_faults bodies names more) h), actions_fit more (right_nil (expression_faults false bodies names t) (actions_faults bodies names more) h))
    actions_fit (tree.evaluation t ∷ more) h =
        (expression_fits false t (left_nil (expression_faults false bodies names t) (actions_faults bodies names more) h), actions_fit more (right_nil (expression_faults false bodies names t) (actions_faults bodies names more) h))
