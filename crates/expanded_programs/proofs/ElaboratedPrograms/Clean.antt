-- Expressions without faults: what is known of each name, call and pair of operands in them.
use Rattle.std.proofs.Common.{◌≡◌, ℕ, ◌==◌, ◌⊎◌, inl, inr, not, ◌∙◌, sym, refl, subst, Bool, true, false, true≢false, if◌then◌else◌, List, [], ◌∷◌, ◌++◌, drop, length, Option, Some, None}
use Rattle.hls_base.specs.declared.place.Place.{Place}
use Rattle.hls_base.specs.declared.refusal.Refusal.{Refusal}
use Rattle.c_token.specs.declared.ctype.CType.{CType}
use Rattle.c_token.specs.Replacement.{is_in}
use Rattle.c_tree.specs.Tree as tree
use Rattle.c_tree.specs.Tree.{Tree, TargetTree, Trees, ParamTree, FunctionTree, ItemTree, ObjectTree}
use Rattle.c_meaning.specs.Checks.Faults.{fault, fault_if}
use Rattle.c_meaning.specs.Checks.Names.{Shape, is_array, Sense, object, function, Declared, sense_of, count, same_flag, use_faults, target_faults, is_constant_object}
use Rattle.c_meaning.specs.Checks.Calls.{called_faults, call_faults, void_faults, params_of}
use Rattle.c_meaning.specs.Checks.Conflicts.{Access, accesses, all_accesses, read_of, change_of, between, operand_conflicts, conflicts_among, conflicts_inside}
use Rattle.c_meaning.specs.Checks.Expressions.{is_given, name_given_faults, expression_faults, changed_faults, operand_faults}
use Rattle.c_meaning.specs.Run.{function_named}
use Rattle.pieces.specs.declared.resolved.expression.Cell.{Cell}
use Rattle.c_elaborate.specs.declared.names.Known.{Known}
use Rattle.c_elaborate.specs.declared.names.Binding.{Binding}
use Rattle.c_elaborate.specs.Names.{object_found, object_named}
use Rattle.c_elaborate.specs.Expressions.{array_given}
use Rattle.c_elaborate.specs.Resolved.{array_named, Fits, AllFit, Takes}
use Rattle.c_elaborate.specs.Known.{AreAlike, KnowsSense, KnowsFunction, Knows}
use Rattle.c_elaborate.proofs.ElaborateRuns.Sizes.{left_nil, right_nil, unbroken, holds}
use Rattle.c_elaborate.proofs.ElaborateRuns.Faultless.{fourth, drop_one, resolved}

module _ (items : List ItemTree) (bodies : List (List ℕ)) (names : List Declared) (rs : List Binding) where
  -- a scalar without subscripts, or an array with some
  abbrev pub IsUsed : List ℕ → ℕ → Type 0
  IsUsed text n = (shape : Shape) × (sense_of text names ≡ Some (object shape)) × (same_flag (length shape.lengths == 0) (n == 0) ≡ true)

  -- one that is not const
  abbrev pub IsChanged : List ℕ → ℕ → Type 0
  IsChanged text n = (u : IsUsed text n) × (u.0.constant ≡ false)

  -- a function with a body that takes these arguments
  abbrev pub IsCalled : List ℕ → Trees → Type 0
  IsCalled callee args =
      (is_in callee bodies ≡ true) × ((result : Option CType) × (params : List Shape) × (sense_of callee names ≡ Some (function result params))) × Takes rs (function_named items callee) args

  abbrev mutual
    pub Clean : Tree → Type 0
    Clean (tree.number value kind at) = Unit {0}
    Clean (tree.name text at) = IsUsed text 0
    Clean (tree.index array subscripts at) = IsUsed array (count subscripts) × (conflicts_among names [] subscripts ≡ []) × AllClean subscripts
    Clean (tree.call callee args at) = IsCalled callee args × (conflicts_among names [] args ≡ []) × ArgumentsClean args
    Clean (tree.unary op arg at) = Clean arg
    Clean (tree.binary op left right at) = (operand_conflicts op (accesses names left) (accesses names right) ≡ []) × Clean left × Clean right
    Clean (tree.choice test left right at colon) = Clean test × Clean left × Clean right
    Clean (tree.cast to arg at) = Clean arg
    Clean (tree.assign (tree.target text subscripts place) op value at) =
        IsChanged text (count subscripts) × (conflicts_among names [] subscripts ≡ []) × (between (all_accesses names subscripts) (accesses names value) ≡ []) × AllClean subscripts × Clean value
    Clean (tree.bump (tree.target text subscripts place) up post at) = IsChanged text (count subscripts) × (conflicts_among names [] subscripts ≡ []) × AllClean subscripts
    Clean (tree.comma left right at) = Clean left × Clean right

    pub AllClean : Trees → Type 0
    AllClean tree.none = Unit {0}
    AllClean (tree.more first rest) = Clean first × AllClean rest

    -- An argument may be the name of an array.
    pub ArgumentsClean : Trees → Type 0
    ArgumentsClean tree.none = Unit {0}
    ArgumentsClean (tree.more first rest) = (((cell : Cell) × (array_given rs first ≡ Some cell)) ⊎ Clean first) × ArgumentsClean rest

  -- ---- names

  flag_on : (y : Bool) (xs : List Refusal) (at : Place) → (if y then xs else (fault 9 at ∷ [])) ≡ [] → y ≡ true
  flag_on true xs at h = refl
  flag_on false xs at h = absurd cc

  used_as : (σ : Option Sense) (n : ℕ) (at : Place) → use_faults σ n at ≡ [] → (shape : Shape) × (σ ≡ Some (object shape)) × (same_flag (length shape.lengths == 0) (n == 0) ≡ true)
  used_as None n at h = absurd cc
  used_as (Some (function result params)) n at h = absurd cc
  used_as (Some (object shape)) n at h = (shape, refl, flag_on (same_flag (length shape.lengths == 0) (n == 0)) (fault_if (not (length shape.lengths == n)) 10 at) at h)

  used : (text : List ℕ) (n : ℕ) (at : Place) → use_faults (sense_of text names) n at ≡ [] → IsUsed text n
  used text n at h = used_as (sense_of text names) n at h

  changed : (text : List ℕ) (n : ℕ) (at : Place) → target_faults (sense_of text names) n at ≡ [] → IsChanged text n
  changed text n at h =
      let σ = sense_of text names in
      let u = used text n at (left_nil (use_faults σ n at) (fault_if (is_constant_object σ) 12 at) h) in
      (u, subst (λ z. is_constant_object z ≡ false) u.1 (unbroken (is_constant_object σ) 12 at (right_nil (use_faults σ n at) (fault_if (is_constant_object σ) 12 at) h)))

  -- ---- calls

  called_as : (b : Bool) (σ : Option Sense) (args : Trees) (at : Place) → called_faults b names σ args at ≡ [] → (b ≡ true) × ((result : Option CType) × (params : List Shape) × (σ ≡ Some (function result params)))
  called_as b None args at h = absurd cc
  called_as b (Some (object shape)) args at h = absurd cc
  called_as b (Some (function result params)) args at h = (holds b (unbroken (not b) 7 at (left_nil (fault_if (not b) 7 at) _ h)), (result, params, refl))

  flag_back : (a b : Bool) → a ≡ not b → a ≡ true → b ≡ false
  flag_back a true e f = absurd (true≢false (sym f ∙ e))
  flag_back a false e f = refl

  cell_there : (known : Known) (param : ObjectTree) (y : Bool) → Fits param (if y then Some known else None) → length param.lengths == 0 ≡ false → (cell : Cell) × ((if y then Some known.cell else None) ≡ Some cell)
  cell_there known param true h e = (known.cell, refl)
  cell_there known param false h e = absurd (true≢false (sym h ∙ e))

  given_array : (x : Shape) (xs : List Shape) (p : ParamTree) (arg : Tree) → is_array x ≡ not (length p.object.lengths == 0) → Fits p.object (array_named rs arg) → is_given (x ∷ xs) arg ≡ true → (cell : Cell) × (array_given rs arg ≡ Some cell)
  given_array x xs p (tree.name text at) a fit e = let known = object_named rs text in cell_there known p.object known.is_array fit (flag_back (is_array x) (length p.object.lengths == 0) a e)
  given_array x xs p (tree.number n kind at) a fit e = absurd (true≢false (sym e))
  given_array x xs p (tree.index array subscripts at) a fit e = absurd (true≢false (sym e))
  given_array x xs p (tree.call callee args at) a fit e = absurd (true≢false (sym e))
  given_array x xs p (tree.unary op arg at) a fit e = absurd (true≢false (sym e))
  given_array x xs p (tree.binary op left right at) a fit e = absurd (true≢false (sym e))
  given_array x xs p (tree.choice test left right at colon) a fit e = absurd (true≢false (sym e))
  given_array x xs p (tree.cast to arg at) a fit e = absurd (true≢false (sym e))
  given_array x xs p (tree.assign place op v at) a fit e = absurd (true≢false (sym e))
  given_array x xs p (tree.bump place up post at) a fit e = absurd (true≢false (sym e))
  given_array x xs p (tree.comma left right at) a fit e = absurd (true≢false (sym e))

  argument_clean : (x : Shape) (xs : List Shape) (p : ParamTree) (arg : Tree) (y : Bool) → is_array x ≡ not (length p.object.lengths == 0) → Fits p.object (array_named rs arg) → is_given (x ∷ xs) arg ≡ y
      → (if y then name_given_faults names arg else expression_faults true bodies names arg) ≡ [] → (expression_faults true bodies names arg ≡ [] → Clean arg) → ((cell : Cell) × (array_given rs arg ≡ Some cell)) ⊎ Clean arg
  argument_clean x xs p arg true a fit e h others = inl (given_array x xs p arg a fit e)
  argument_clean x xs p arg false a fit e h others = inr (others h)

  one_operand : (params : List Shape) (arg : Tree) → params ≡ [] → (if is_given params arg then name_given_faults names arg else expression_faults true bodies names arg) ≡ [] → expression_faults true bodies names arg ≡ []
  one_operand params arg e h = subst (λ (ps : List Shape). (if is_given ps arg then name_given_faults names arg else expression_faults true bodies names arg) ≡ []) e h

  drop_none : (params : List Shape) → params ≡ [] → drop 1 params ≡ []
  drop_none [] e = refl
  drop_none (x ∷ params) e = absurd cc

  target_parts : (text : List ℕ) (subscripts : Trees) (place at : Place) (valued : List Access) → changed_faults bodies names (tree.target text subscripts place) at valued ≡ []
      → IsChanged text (count subscripts) × (conflicts_among names [] subscripts ≡ []) × (between (all_accesses names subscripts) valued ≡ []) × (operand_faults bodies names [] subscripts ≡ [])
  target_parts text subscripts place at valued h =
      let n = count subscripts in
      let inner = all_accesses names subscripts in
      let change = change_of names text n at in
      let a = target_faults (sense_of text names) n place in
      let b = conflicts_among names [] subscripts in
      let c = between inner valued in
      let d = conflicts_inside change inner in
      let e = conflicts_inside change valued in
      let f = operand_faults bodies names [] subscripts in
      let rest = right_nil a (b ++ (c ++ (d ++ (e ++ f)))) h in
      let rest2 = right_nil b (c ++ (d ++ (e ++ f))) rest in
      (changed text n place (left_nil a (b ++ (c ++ (d ++ (e ++ f)))) h), left_nil b (c ++ (d ++ (e ++ f))) rest, left_nil c (d ++ (e ++ f)) rest2, fourth c d e f rest2)

  module _ (knows : Knows items bodies names rs) where
    mutual
      pub clean : (used : Bool) (e : Tree) → expression_faults used bodies names e ≡ [] → Clean e
      clean u (tree.number n kind at) h = tt
      clean u (tree.name text at) h = used text 0 at h
      clean u (tree.index array subscripts at) h =
          let a = use_faults (sense_of array names) (count subscripts) at in
          let b = conflicts_among names [] subscripts in
          let c = conflicts_inside (read_of names array (count subscripts)) (all_accesses names subscripts) in
          let d = operand_faults bodies names [] subscripts in
          (used array (count subscripts) at (left_nil a (b ++ (c ++ d)) h), left_nil b (c ++ d) (right_nil a (b ++ (c ++ d)) h), all_clean [] subscripts refl (fourth a b c d h))
      clean u (tree.call callee args at) h =
          let a = if u then void_faults names callee at else [] in
          let b = call_faults bodies names callee args at in
          let c = conflicts_among names [] args in
          let d = operand_faults bodies names (params_of (sense_of callee names)) args in
          let rest = right_nil a (b ++ (c ++ d)) h in
          let is = called_as (is_in callee bodies) (sense_of callee names) args at (left_nil b (c ++ d) rest) in
          let takes = (resolved items bodies names rs knows u (tree.call callee args at) h).0 in
          let k : KnowsFunction items bodies callee is.1.1 = subst (λ z. KnowsSense items bodies callee (object_found callee rs) z) is.1.2 (knows callee) in
          let f = k is.0 in
          let fit : AllFit rs f.0.params args = subst (λ z. Takes rs z args) f.1 takes in
          let operands = subst (λ z. operand_faults bodies names (params_of z) args ≡ []) is.1.2 (fourth a b c d h) in
          ((is.0, is.1, takes), left_nil c d (right_nil b (c ++ d) rest), arguments_clean is.1.1 f.0.params args f.2 fit operands)
      clean u (tree.unary op arg at) h = clean true arg h
      clean u (tree.binary op left right at) h =
          let a = operand_conflicts op (accesses names left) (accesses names right) in
          let b = expression_faults true bodies names left in
          let c = expression_faults true bodies names right in
          let rest = right_nil a (b ++ c) h in
          (left_nil a (b ++ c) h, clean true left (left_nil b c rest), clean true right (right_nil b c rest))
      clean u (tree.choice test left right at colon) h =
          let a = expression_faults true bodies names test in
          let b = expression_faults true bodies names left in
          let c = expression_faults true bodies names right in
          let rest = right_nil a (b ++ c) h in
          (clean true test (left_nil a (b ++ c) h), clean true left (left_nil b c rest), clean true right (right_nil b c rest))
      clean u (tree.cast to arg at) h = clean true arg h
      clean u (tree.assign (tree.target text subscripts place) op v at) h =
          let valued = accesses names v in
          let t = target_parts text subscripts place at valued (left_nil (changed_faults bodies names (tree.target text subscripts place) at valued) (expression_faults true bodies names v) h) in
          (t.0, t.1, t.2, all_clean [] subscripts refl t.3, clean true v (right_nil (changed_faults bodies names (tree.target text subscripts place) at valued) (expression_faults true bodies names v) h))
      clean u (tree.bump (tree.target text subscripts place) up post at) h =
          let t = target_parts text subscripts place at [] h in
          (t.0, t.1, all_clean [] subscripts refl t.3)
      clean u (tree.comma left right at) h =
          let a = expression_faults false bodies names left in
          let b = expression_faults true bodies names right in
          (clean false left (left_nil a b h), clean true right (right_nil a b h))

      all_clean : (params : List Shape) (es : Trees) → params ≡ [] → operand_faults bodies names params es ≡ [] → AllClean es
      all_clean params tree.none e h = tt
      all_clean params (tree.more first rest) e h =
          let a = if is_given params first then name_given_faults names first else expression_faults true bodies names first in
          let b = operand_faults bodies names (drop 1 params) rest in
          (clean true first (one_operand params first e (left_nil a b h)), all_clean (drop 1 params) rest (drop_none params e) (right_nil a b h))

      arguments_clean : (xs : List Shape) (ps : List ParamTree) (args : Trees) → AreAlike xs ps → AllFit rs ps args → operand_faults bodies names xs args ≡ [] → ArgumentsClean args
      arguments_clean xs ps tree.none a fit h = tt
      arguments_clean [] [] (tree.more first rest) a fit h = absurd fit
      arguments_clean [] (p ∷ ps) (tree.more first rest) a fit h = absurd a
      arguments_clean (x ∷ xs) [] (tree.more first rest) a fit h = absurd a
      arguments_clean (x ∷ xs) (p ∷ ps) (tree.more first rest) a fit h =
          let c = if is_given (x ∷ xs) first then name_given_faults names first else expression_faults true bodies names first in
          let d = operand_faults bodies names (drop 1 (x ∷ xs)) rest in (
            argument_clean x xs p first (is_given (x ∷ xs) first) a.0.0 fit.0 refl (left_nil c d h) (λ g. clean true first g),
            arguments_clean xs ps rest a.1 fit.1 (subst (λ l. operand_faults bodies names l rest ≡ []) (drop_one x xs) (right_nil c d h)),
          )
