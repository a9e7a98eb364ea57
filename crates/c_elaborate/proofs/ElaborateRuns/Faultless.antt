-- Expressions of programs without faults are resolved.
use Rattle.std.proofs.Common.{◌≡◌, ℕ, zero, suc, ◌≤◌, ◌==◌, ◌||◌, not, ◌∙◌, sym, refl, ap, subst, Bool, true, false, true≢false, if◌then◌else◌, bytes_eq, is_some, nat_lt, List, [], ◌∷◌, ◌++◌, map, drop, length, Option, Some, None, ne_eqb, eqb-true, ltb-false, arith}
use Rattle.hls_base.specs.declared.place.Place.{Place}
use Rattle.c_token.specs.declared.ctype.CType.{CType}
use Rattle.c_token.specs.declared.ctype.CType.TheVariants as t
use Rattle.c_token.specs.Replacement.{is_in, same_type}
use Rattle.c_tree.specs.Tree as tree
use Rattle.c_tree.specs.Tree.{Tree, TargetTree, Trees, ActionTree, InitTree, InitTrees, ObjectTree, ParamTree, FunctionTree, ItemTree}
use Rattle.c_meaning.specs.Checks.Names.{Shape, is_array, Sense, object, function, Declared, sense_of, count, same_flag, dimension_faults, use_faults, target_faults, is_constant_object}
use Rattle.c_meaning.specs.Checks.Faults.{fault, fault_if}
use Rattle.c_meaning.specs.Checks.Conflicts.{Access, accesses, all_accesses, read_of, change_of, between, operand_conflicts, conflicts_among, conflicts_inside}
use Rattle.c_meaning.specs.Checks.Calls.{same_elements, fits, all_fit, called_faults, call_faults, void_faults, params_of, given_faults}
use Rattle.c_meaning.specs.Checks.Expressions.{is_given, name_given_faults, expression_faults, changed_faults, operand_faults, actions_faults, optional_faults, init_faults, inits_faults, expression_of}
use Rattle.c_meaning.specs.Checks.Lengths.{item_count, is_misshapen, are_misshapen, shape_of}
use Rattle.c_meaning.specs.Run.{function_named}
use Rattle.c_meaning.specs.Statement.{action_tree}
use Rattle.pieces.specs.declared.resolved.expression.Cell.{Cell}
use Rattle.c_elaborate.specs.declared.names.Known.{Known}
use Rattle.c_elaborate.specs.declared.names.Binding.{Binding}
use Rattle.c_elaborate.specs.Names.{object_found, object_named, known_or_int, binding_of}
use Rattle.c_elaborate.specs.Resolved.{IsDeclared, array_if, array_named, Fits, AllFit, Takes, IsResolved, AreResolved, IsOptionResolved, ActionsResolved, InitResolved, RowsResolved}
use Rattle.c_elaborate.specs.Known.{AreAlike, KnowsSense, Knows}
use Rattle.c_elaborate.proofs.ElaborateRuns.Sizes.{left_nil, right_nil, unbroken, neither, both_true, holds, shape_count}

pub same_types : (a b : CType) → same_type a b ≡ true → a ≡ b
same_types t.Bool t.Bool e = refl
same_types t.Bool (t.Int signed bits) e = absurd (true≢false (sym e))
same_types (t.Int true bits) t.Bool e = absurd (true≢false (sym e))
same_types (t.Int false bits) t.Bool e = absurd (true≢false (sym e))
same_types (t.Int true bits) (t.Int true others) e = ap (t.Int true) (eqb-true bits others e)
same_types (t.Int true bits) (t.Int false others) e = absurd (true≢false (sym e))
same_types (t.Int false bits) (t.Int true others) e = absurd (true≢false (sym e))
same_types (t.Int false bits) (t.Int false others) e = ap (t.Int false) (eqb-true bits others e)

-- ---- names

knows_here : (items : List ItemTree) (bodies : List (List ℕ)) (text : List ℕ) (q : Option Known) (known : Known) (o : ObjectTree) (σ : Option Sense) (y : Bool) → known.kind ≡ o.kind → known.is_array ≡ is_array (shape_of o)
    → KnowsSense items bodies text q σ → KnowsSense items bodies text (if y then Some known else q) (if y then Some (object (shape_of o)) else σ)
knows_here items bodies text q known o σ true k a h = (known, refl, k, a)
knows_here items bodies text q known o σ false k a h = h

-- a declaration is known in both
pub knows_declared : (items : List ItemTree) (bodies : List (List ℕ)) (names : List Declared) (rs : List Binding) (o : ObjectTree) (cell : Cell) → Knows items bodies names rs
    → Knows items bodies (record { name = o.name; sense = object (shape_of o) } ∷ names) (binding_of o cell ∷ rs)
knows_declared items bodies names rs o cell h text =
    knows_here items bodies text (object_found text rs) (binding_of o cell).object o (sense_of text names) (bytes_eq text o.name) refl (ap (λ n. not (n == 0)) (sym (shape_count o))) (h text)

used_at : (items : List ItemTree) (bodies : List (List ℕ)) (text : List ℕ) (q : Option Known) (σ : Option Sense) (n : ℕ) (at : Place) → use_faults σ n at ≡ [] → KnowsSense items bodies text q σ → is_some q ≡ true
used_at items bodies text q None n at h k = absurd cc
used_at items bodies text q (Some (function result params)) n at h k = absurd cc
used_at items bodies text q (Some (object shape)) n at h k = ap is_some k.1

given_at : (items : List ItemTree) (bodies : List (List ℕ)) (text : List ℕ) (q : Option Known) (σ : Option Sense) (at : Place) → given_faults σ at ≡ [] → KnowsSense items bodies text q σ → is_some q ≡ true
given_at items bodies text q None at h k = absurd cc
given_at items bodies text q (Some (function result params)) at h k = absurd cc
given_at items bodies text q (Some (object shape)) at h k = ap is_some k.1

-- ---- arguments

-- where no subscripts are wanted there is no array
no_array : (n : ℕ) (at : Place) → dimension_faults n 0 at ≡ [] → not (n == 0) ≡ false
no_array n at h = by (n == 0) h
  where
    by : (y : Bool) → (if same_flag y (0 == 0) then fault_if (not (n == 0)) 10 at else (fault 9 at ∷ [])) ≡ [] → not y ≡ false
    by true e = refl
    by false e = absurd cc

scalar_named : (items : List ItemTree) (bodies : List (List ℕ)) (text : List ℕ) (q : Option Known) (σ : Option Sense) (param : ObjectTree) (at : Place) → use_faults σ 0 at ≡ [] → KnowsSense items bodies text q σ → length param.lengths == 0 ≡ true
    → Fits param (array_if (known_or_int q))
scalar_named items bodies text q None param at h k e = absurd cc
scalar_named items bodies text q (Some (function result params)) param at h k e = absurd cc
scalar_named items bodies text q (Some (object shape)) param at h k e =
    subst (λ z. Fits param (array_if (known_or_int z))) (sym k.1) (subst (λ z. Fits param (if z then Some k.0 else None)) (sym (k.3 ∙ no_array (length shape.lengths) at h)) e)

array_fits : (items : List ItemTree) (bodies : List (List ℕ)) (text : List ℕ) (q : Option Known) (σ : Option Sense) (x : Shape) (param : ObjectTree) → same_elements x σ ≡ true → KnowsSense items bodies text q σ → x.kind ≡ param.kind → length param.lengths == 0 ≡ false
    → Fits param (array_if (known_or_int q))
array_fits items bodies text q None x param h k e f = absurd (true≢false (sym h))
array_fits items bodies text q (Some (function result params)) x param h k e f = absurd (true≢false (sym h))
array_fits items bodies text q (Some (object shape)) x param h k e f =
    let a = both_true (is_array shape) _ h in
    let b = both_true (same_type x.kind shape.kind) _ a.1 in
    subst (λ z. Fits param (array_if (known_or_int z))) (sym k.1)
    (subst (λ z. Fits param (if z then Some k.0 else None)) (sym (k.3 ∙ a.0)) (f, k.2 ∙ (sym (same_types x.kind shape.kind b.0) ∙ e)))

flag_back : (a b : Bool) → a ≡ not b → a ≡ true → b ≡ false
flag_back a true e f = absurd (true≢false (sym f ∙ e))
flag_back a false e f = refl

flag_off : (a b : Bool) → a ≡ not b → a ≡ false → b ≡ true
flag_off a true e f = refl
flag_off a false e f = absurd (true≢false (sym e ∙ f))

not_array : (y : Bool) → (not y || false) ≡ true → y ≡ false
not_array true h = absurd (true≢false (sym h))
not_array false h = refl

either_way : (y z : Bool) → (not y || z) ≡ true → y ≡ true → z ≡ true
either_way true z h e = h
either_way false z h e = absurd (true≢false (sym e))

pub fourth : {A : Type 0} (ws xs ys zs : List A) → ws ++ (xs ++ (ys ++ zs)) ≡ [] → zs ≡ []
fourth ws xs ys zs h = right_nil ys zs (right_nil xs (ys ++ zs) (right_nil ws (xs ++ (ys ++ zs)) h))

pub drop_one : {A : Type 0} (x : A) (xs : List A) → drop 1 (x ∷ xs) ≡ xs
drop_one x [] = refl
drop_one x (y ∷ xs) = refl

module _ (items : List ItemTree) (bodies : List (List ℕ)) (names : List Declared) (rs : List Binding) (knows : Knows items bodies names rs) where
  declared_name : (text : List ℕ) (n : ℕ) (at : Place) → use_faults (sense_of text names) n at ≡ [] → IsDeclared rs text
  declared_name text n at h = used_at items bodies text (object_found text rs) (sense_of text names) n at h (knows text)

  -- one argument of a call
  argument_fits : (x : Shape) (xs : List Shape) (p : ParamTree) (arg : Tree) → is_array x ≡ not (length p.object.lengths == 0) → x.kind ≡ p.object.kind → fits names x arg ≡ true
      → (if is_given (x ∷ xs) arg then name_given_faults names arg else expression_faults true bodies names arg) ≡ [] → Fits p.object (array_named rs arg)
  argument_fits x xs p (tree.name text at) a k fit h = by (is_array x) refl
    where
      by : (y : Bool) → is_array x ≡ y → Fits p.object (array_if (object_named rs text))
      by true e = array_fits items bodies text (object_found text rs) (sense_of text names) x p.object (either_way (is_array x) (same_elements x (sense_of text names)) fit e) (knows text) k (flag_back (is_array x) (length p.object.lengths == 0) a e)
      by false e = scalar_named items bodies text (object_found text rs) (sense_of text names) p.object at
          (subst (λ (z : Bool). (if z then name_given_faults names (tree.name text at) else expression_faults true bodies names (tree.name text at)) ≡ []) e h) (knows text) (flag_off (is_array x) (length p.object.lengths == 0) a e)
  argument_fits x xs p (tree.number n kind at) a k fit h = flag_off (is_array x) (length p.object.lengths == 0) a (not_array (is_array x) fit)
  argument_fits x xs p (tree.index array subscripts at) a k fit h = flag_off (is_array x) (length p.object.lengths == 0) a (not_array (is_array x) fit)
  argument_fits x xs p (tree.call callee args at) a k fit h = flag_off (is_array x) (length p.object.lengths == 0) a (not_array (is_array x) fit)
  argument_fits x xs p (tree.unary op arg at) a k fit h = flag_off (is_array x) (length p.object.lengths == 0) a (not_array (is_array x) fit)
  argument_fits x xs p (tree.binary op left right at) a k fit h = flag_off (is_array x) (length p.object.lengths == 0) a (not_array (is_array x) fit)
  argument_fits x xs p (tree.choice test left right at colon) a k fit h = flag_off (is_array x) (length p.object.lengths == 0) a (not_array (is_array x) fit)
  argument_fits x xs p (tree.cast to arg at) a k fit h = flag_off (is_array x) (length p.object.lengths == 0) a (not_array (is_array x) fit)
  argument_fits x xs p (tree.assign place op v at) a k fit h = flag_off (is_array x) (length p.object.lengths == 0) a (not_array (is_array x) fit)
  argument_fits x xs p (tree.bump place up post at) a k fit h = flag_off (is_array x) (length p.object.lengths == 0) a (not_array (is_array x) fit)
  argument_fits x xs p (tree.comma left right at) a k fit h = flag_off (is_array x) (length p.object.lengths == 0) a (not_array (is_array x) fit)

  arguments_fit : (xs : List Shape) (ps : List ParamTree) (args : Trees) → AreAlike xs ps → length xs ≡ count args → all_fit names xs args ≡ true → operand_faults bodies names xs args ≡ [] → AllFit rs ps args
  arguments_fit [] [] tree.none a n fit h = tt
  arguments_fit [] [] (tree.more arg args) a n fit h = absurd (omega (arith, n))
  arguments_fit [] (p ∷ ps) args a n fit h = absurd a
  arguments_fit (x ∷ xs) [] args a n fit h = absurd a
  arguments_fit (x ∷ xs) (p ∷ ps) tree.none a n fit h = absurd (omega (arith, n))
  arguments_fit (x ∷ xs) (p ∷ ps) (tree.more arg args) a n fit h =
      let f = both_true (fits names x arg) (all_fit names xs args) fit in (
        argument_fits x xs p arg a.0.0 a.0.1 f.0 (left_nil _ (operand_faults bodies names (drop 1 (x ∷ xs)) args) h),
        arguments_fit xs ps args a.1 (omega (arith, n)) f.1 (subst (λ l. operand_faults bodies names l args ≡ []) (drop_one x xs) (right_nil (if is_given (x ∷ xs) arg then name_given_faults names arg else expression_faults true bodies names arg) (operand_faults bodies names (drop 1 (x ∷ xs)) args) h)),
      )

  taken : (callee : List ℕ) (σ : Option Sense) (q : Option Known) (args : Trees) (at : Place) → called_faults (is_in callee bodies) names σ args at ≡ [] → operand_faults bodies names (params_of σ) args ≡ [] → KnowsSense items bodies callee q σ
      → Takes rs (function_named items callee) args
  taken callee None q args at h g k = absurd cc
  taken callee (Some (object shape)) q args at h g k = absurd cc
  taken callee (Some (function result params)) q args at h g k =
      let first = left_nil (fault_if (not (is_in callee bodies)) 7 at) _ h in
      let rest = right_nil (fault_if (not (is_in callee bodies)) 7 at) _ h in
      let second = left_nil (fault_if (not (length params == count args)) 10 at) _ rest in
      let third = right_nil (fault_if (not (length params == count args)) 10 at) _ rest in
      let f = k (holds (is_in callee bodies) (unbroken (not (is_in callee bodies)) 7 at first)) in
      let many = eqb-true (length params) (count args) (holds (length params == count args) (unbroken (not (length params == count args)) 10 at second)) in
      let fit = holds (all_fit names params args) (unbroken (not (all_fit names params args)) 11 at third) in
      subst (λ z. Takes rs z args) (sym f.1) (arguments_fit params f.0.params args f.2 many fit g)

  -- a name that is given for an array
  given_resolved : (params : List Shape) (arg : Tree) → is_given params arg ≡ true → name_given_faults names arg ≡ [] → IsResolved items rs arg
  given_resolved [] arg e h = absurd (true≢false (sym e))
  given_resolved (x ∷ xs) (tree.name text at) e h = given_at items bodies text (object_found text rs) (sense_of text names) at h (knows text)
  given_resolved (x ∷ xs) (tree.number n kind at) e h = absurd (true≢false (sym e))
  given_resolved (x ∷ xs) (tree.index array subscripts at) e h = absurd (true≢false (sym e))
  given_resolved (x ∷ xs) (tree.call callee args at) e h = absurd (true≢false (sym e))
  given_resolved (x ∷ xs) (tree.unary op arg at) e h = absurd (true≢false (sym e))
  given_resolved (x ∷ xs) (tree.binary op left right at) e h = absurd (true≢false (sym e))
  given_resolved (x ∷ xs) (tree.choice test left right at colon) e h = absurd (true≢false (sym e))
  given_resolved (x ∷ xs) (tree.cast to arg at) e h = absurd (true≢false (sym e))
  given_resolved (x ∷ xs) (tree.assign place op v at) e h = absurd (true≢false (sym e))
  given_resolved (x ∷ xs) (tree.bump place up post at) e h = absurd (true≢false (sym e))
  given_resolved (x ∷ xs) (tree.comma left right at) e h = absurd (true≢false (sym e))

  one_operand : (params : List Shape) (arg : Tree) (y : Bool) → is_given params arg ≡ y → (if y then name_given_faults names arg else expression_faults true bodies names arg) ≡ []
      → (expression_faults true bodies names arg ≡ [] → IsResolved items rs arg) → IsResolved items rs arg
  one_operand params arg true e h others = given_resolved params arg e h
  one_operand params arg false e h others = others h

  changed_ok : (text : List ℕ) (subscripts : Trees) (place at : Place) (valued : List Access) → changed_faults bodies names (tree.target text subscripts place) at valued ≡ [] → IsDeclared rs text × (operand_faults bodies names [] subscripts ≡ [])
  changed_ok text subscripts place at valued h =
      let σ = sense_of text names in
      let n = count subscripts in
      let inner = all_accesses names subscripts in
      let change = change_of names text n at in
      let rest = right_nil (target_faults σ n place) (conflicts_among names [] subscripts ++ (between inner valued ++ (conflicts_inside change inner ++ (conflicts_inside change valued ++ operand_faults bodies names [] subscripts)))) h in
      let rest2 = right_nil (conflicts_among names [] subscripts) (between inner valued ++ (conflicts_inside change inner ++ (conflicts_inside change valued ++ operand_faults bodies names [] subscripts))) rest in
      let uses = left_nil (target_faults σ n place) (conflicts_among names [] subscripts ++ (between inner valued ++ (conflicts_inside change inner ++ (conflicts_inside change valued ++ operand_faults bodies names [] subscripts)))) h in (
        declared_name text n place (left_nil (use_faults σ n place) (fault_if (is_constant_object σ) 12 place) uses),
        fourth (between inner valued) (conflicts_inside change inner) (conflicts_inside change valued) (operand_faults bodies names [] subscripts) rest2,
      )

  mutual
    pub resolved : (used : Bool) (e : Tree) → expression_faults used bodies names e ≡ [] → IsResolved items rs e
    resolved used (tree.number n kind at) h = tt
    resolved used (tree.name text at) h = declared_name text 0 at h
    resolved used (tree.index array subscripts at) h = (
      declared_name array (count subscripts) at (left_nil (use_faults (sense_of array names) (count subscripts) at) _ h),
      operands_resolved [] subscripts (fourth (use_faults (sense_of array names) (count subscripts) at) (conflicts_among names [] subscripts) (conflicts_inside (read_of names array (count subscripts)) (all_accesses names subscripts)) (operand_faults bodies names [] subscripts) h),
    )
    resolved used (tree.call callee args at) h =
        let operand = operand_faults bodies names (params_of (sense_of callee names)) args in
        let rest = right_nil (if used then void_faults names callee at else []) (call_faults bodies names callee args at ++ (conflicts_among names [] args ++ operand)) h in
        let operands = fourth (if used then void_faults names callee at else []) (call_faults bodies names callee args at) (conflicts_among names [] args) operand h in
        (taken callee (sense_of callee names) (object_found callee rs) args at (left_nil (call_faults bodies names callee args at) (conflicts_among names [] args ++ operand) rest) operands (knows callee), operands_resolved (params_of (sense_of callee names)) args operands)
    resolved used (tree.unary op arg at) h = resolved true arg h
    resolved used (tree.binary op left right at) h =
        let rest = right_nil (operand_conflicts op (accesses names left) (accesses names right)) (expression_faults true bodies names left ++ expression_faults true bodies names right) h in
        (resolved true left (left_nil (expression_faults true bodies names left) (expression_faults true bodies names right) rest), resolved true right (right_nil (expression_faults true bodies names left) (expression_faults true bodies names right) rest))
    resolved used (tree.choice test left right at colon) h =
        let rest = right_nil (expression_faults true bodies names test) (expression_faults true bodies names left ++ expression_faults true bodies names right) h in (
          resolved true test (left_nil (expression_faults true bodies names test) (expression_faults true bodies names left ++ expression_faults true bodies names right) h),
          resolved true left (left_nil (expression_faults true bodies names left) (expression_faults true bodies names right) rest),
          resolved true right (right_nil (expression_faults true bodies names left) (expression_faults true bodies names right) rest),
        )
    resolved used (tree.cast to arg at) h = resolved true arg h
    resolved used (tree.assign (tree.target text subscripts place) op v at) h =
        let ok = changed_ok text subscripts place at (accesses names v) (left_nil (changed_faults bodies names (tree.target text subscripts place) at (accesses names v)) (expression_faults true bodies names v) h) in
        (ok.0, operands_resolved [] subscripts ok.1, resolved true v (right_nil (changed_faults bodies names (tree.target text subscripts place) at (accesses names v)) (expression_faults true bodies names v) h))
    resolved used (tree.bump (tree.target text subscripts place) up post at) h =
        let ok = changed_ok text subscripts place at [] h in
        (ok.0, operands_resolved [] subscripts ok.1)
    resolved used (tree.comma left right at) h =
        (resolved false left (left_nil (expression_faults false bodies names left) (expression_faults true bodies names right) h), resolved true right (right_nil (expression_faults false bodies names left) (expression_faults true bodies names right) h))

    operands_resolved : (params : List Shape) (es : Trees) → operand_faults bodies names params es ≡ [] → AreResolved items rs es
    operands_resolved params tree.none h = tt
    operands_resolved params (tree.more first rest) h = (
      one_operand params first (is_given params first) refl (left_nil _ (operand_faults bodies names (drop 1 params) rest) h) (λ g. resolved true first g),
      operands_resolved (drop 1 params) rest (right_nil (if is_given params first then name_given_faults names first else expression_faults true bodies names first) (operand_faults bodies names (drop 1 params) rest) h),
    )

  pub option_resolved : (o : Option Tree) → optional_faults bodies names o ≡ [] → IsOptionResolved items rs o
  option_resolved None h = tt
  option_resolved (Some e) h = resolved true e h

  same_tree : (a : ActionTree) → expression_of a ≡ action_tree a
  same_tree (tree.assignment place op v at) = refl
  same_tree (tree.bumping place up at) = refl
  same_tree (tree.evaluation v) = refl

  pub actions_resolved : (actions : List ActionTree) → actions_faults bodies names actions ≡ [] → ActionsResolved items rs actions
  actions_resolved [] h = tt
  actions_resolved (a ∷ more) h = (
    subst (λ e. IsResolved items rs e) (same_tree a) (resolved false (expression_of a) (left_nil (expression_faults false bodies names (expression_of a)) (actions_faults bodies names more) h)),
    actions_resolved more (right_nil (expression_faults false bodies names (expression_of a)) (actions_faults bodies names more) h),
  )

  -- ---- initialisers

  mutual
    pub init_resolved : (ns : List ℕ) (init : InitTree) → is_misshapen (map (λ (n : ℕ). Some n) ns) init ≡ false → init_faults bodies names init ≡ [] → InitResolved items rs ns init
    init_resolved [] (tree.single v) m h = resolved true v h
    init_resolved [] (tree.braced inits at) m h = absurd (true≢false m)
    init_resolved (n ∷ ns) (tree.single v) m h = absurd (true≢false (sym (ap not (ne_eqb (suc (length (map (λ (n : ℕ). Some n) ns))) 0 (λ e. omega arith))) ∙ m))
    init_resolved (n ∷ ns) (tree.braced inits at) m h =
        let a = neither (nat_lt n (item_count inits)) _ m in
        rows_resolved n ns inits (ltb-false n (item_count inits) a.0) (subst (λ l. are_misshapen l inits ≡ false) (drop_one (Some n) (map (λ (n : ℕ). Some n) ns)) a.1) h

    rows_resolved : (rows : ℕ) (ns : List ℕ) (inits : InitTrees) → item_count inits ≤ rows → are_misshapen (map (λ (n : ℕ). Some n) ns) inits ≡ false → inits_faults bodies names inits ≡ [] → RowsResolved items rs rows ns inits
    rows_resolved rows ns tree.no_init le m h = tt
    rows_resolved zero ns (tree.more_inits first rest) le m h = absurd (omega (arith, le))
    rows_resolved (suc rows) ns (tree.more_inits first rest) le m h =
        let a = neither (is_misshapen (map (λ (n : ℕ). Some n) ns) first) (are_misshapen (map (λ (n : ℕ). Some n) ns) rest) m in (
          init_resolved ns first a.0 (left_nil (init_faults bodies names first) (inits_faults bodies names rest) h),
          rows_resolved rows ns rest (omega (arith, le)) a.1 (right_nil (init_faults bodies names first) (inits_faults bodies names rest) h),
        )
