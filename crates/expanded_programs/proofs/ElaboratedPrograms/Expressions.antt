-- Expressions without faults become sound ones.
use Rattle.std.proofs.Common.{◌≡◌, ℕ, ◌+◌, ◌-◌, ◌^◌, ◌<◌, ◌==◌, ◌⊎◌, inl, inr, not, ◌∙◌, sym, refl, ap, ap₂, subst, Bool, true, false, true≢false, List, [], ◌∷◌, ◌++◌, map, take, length, slice_get, Option, Some, None, pos, ◌-ℤ◌, arith, if◌then◌else◌}
use Rattle.std.proofs.lemmas.Bool.{lt-ltb}
use Rattle.std.proofs.lemmas.Int.{ints}
use Rattle.std.proofs.lemmas.Nat.{pow_pos}
use Rattle.hls_base.specs.declared.place.Place.{Place}
use Rattle.c_token.specs.declared.ctype.CType.{CType}
use Rattle.c_token.specs.declared.ctype.CType.TheVariants as t
use Rattle.c_token.specs.Replacement.{is_in}
use Rattle.c_tree.specs.declared.operator.Binary.{Binary}
use Rattle.c_tree.specs.declared.operator.Binary.TheVariants as b
use Rattle.c_tree.specs.Tree as tree
use Rattle.c_tree.specs.Tree.{Tree, Trees, ActionTree, ObjectTree, ParamTree, FunctionTree, ItemTree}
use Rattle.c_value.specs.Values.{IsOf, bits_of, number_of}
use Rattle.c_value.specs.Operators.{unary_kind, binary_kind}
use Rattle.c_meaning.specs.Checks.Names.{is_array, function, Declared, sense_of, count, same_flag}
use Rattle.c_meaning.specs.Checks.Conflicts as conflicts
use Rattle.c_meaning.specs.Checks.Conflicts.{Access, accesses, all_accesses, between, operand_conflicts, conflicts_among}
use Rattle.c_meaning.specs.Checks.Recursion.{Called, function_called, calls, all_calls}
use Rattle.c_meaning.specs.Run.{function_named}
use Rattle.pieces.specs.declared.resolved.expression.Cell.{Cell}
use Rattle.pieces.specs.declared.resolved.expression.Scope.{Scope}
use Rattle.pieces.specs.declared.resolved.expression.Scope.TheVariants as scope
use Rattle.pieces.specs.Resolved.Core as core
use Rattle.pieces.specs.Resolved.Core.{CoreTree, CoreObjectTree, CoreFunctionTree, ArgumentTrees}
use Rattle.c_elaborate.specs.declared.names.Known.{Known}
use Rattle.c_elaborate.specs.declared.names.Binding.{Binding}
use Rattle.c_elaborate.specs.declared.functions.Signature.{Signature}
use Rattle.c_elaborate.specs.Names.{object_found, object_named, known_or_int, function_number, result_of}
use Rattle.c_elaborate.specs.Objects.{object_elaborated}
use Rattle.c_elaborate.specs.Expressions.{array_given, argument_of, elaborated, all_elaborated, arguments_elaborated}
use Rattle.c_elaborate.specs.Programs.{objects_of_params}
use Rattle.piece_making.specs.Saving as saving
use Rattle.c_elaborate.specs.Homes.{Each}
use Rattle.c_elaborate.specs.Resolved.{HasLengths, array_named, Fits, AllFit, Takes}
use Rattle.c_elaborate.specs.Known.{Knows}
use Rattle.c_elaborate.proofs.ElaborateRuns.Lists.{each-front}
use Rattle.c_elaborate.proofs.ElaborateRuns.Sizes.{right_nil}
use Rattle.c_elaborate.proofs.ElaborateRuns.Expressions.{same_kind}
use Rattle.c_meaning.proofs.Ranges.{number_in}
use Rattle.expand_runs.specs.Reading.{IsNumber}
use Rattle.expand_runs.specs.Laws.{OneOf}
use Rattle.expand_runs.specs.Sound.{IsTarget, IsSound, AreSound, ArgumentSound, ArgumentsSound}
use Rattle.expanded_programs.specs.Statements.Scopes.{Setting, Reach, ScalarIn, VariableIn, ArrayIn, TakesAll, objects_in}
use Rattle.expanded_programs.specs.ElaboratedPrograms.Written.{HasSubscript, IsWritten, AreWritten}
use Rattle.expanded_programs.proofs.ElaboratedPrograms.Lists.{each_back}
use Rattle.expanded_programs.proofs.ElaboratedPrograms.Naming.{Stands, MayChange, Standing, Changeable, Apart, is_scalar, is_array as is_array_object}
use Rattle.expanded_programs.proofs.ElaboratedPrograms.Clean.{IsUsed, IsChanged, IsCalled, Clean, AllClean, ArgumentsClean}
use Rattle.expanded_programs.proofs.ElaboratedPrograms.Accesses.{meets_right, no_conflict, none_among, known_as, found_there, reads, all_read, argument_reads, changes, all_change, arguments_change}

-- ---- numbers

number_kept : (k : CType) (n : ℕ) → IsOf k (pos n) → number_of k n ≡ pos n
number_kept t.Bool n h = refl
number_kept (t.Int false bits) n h = refl
number_kept (t.Int true bits) n h =
    let some = pow_pos (bits_of bits - 1) in
    let less : n < 2 ^ (bits_of bits - 1) = omega (arith, ints, h.1, some) in
    ap (λ (y : Bool). if y then pos n else (pos n -ℤ pos (2 ^ bits_of bits))) (lt-ltb n (2 ^ (bits_of bits - 1)) less)

number_sound : (k : CType) (n : ℕ) → IsOf k (pos n) → (number_of k n ≡ pos n) × IsNumber k (number_of k n)
number_sound k n h = let e = number_kept k n h in (e, subst (IsNumber k) (sym e) (number_in k (pos n) h))

-- ---- operators

same_logical : (op : Binary) → saving.is_logical op ≡ conflicts.is_logical op
same_logical b.Mul = refl
same_logical b.Div = refl
same_logical b.Rem = refl
same_logical b.Add = refl
same_logical b.Sub = refl
same_logical b.Shl = refl
same_logical b.Shr = refl
same_logical b.Lt = refl
same_logical b.Gt = refl
same_logical b.Le = refl
same_logical b.Ge = refl
same_logical b.Eq = refl
same_logical b.Ne = refl
same_logical b.And = refl
same_logical b.Xor = refl
same_logical b.Or = refl
same_logical b.LogAnd = refl
same_logical b.LogOr = refl

unordered : (op : Binary) (left right : List Access) → saving.is_logical op ≡ false → operand_conflicts op left right ≡ [] → between left right ≡ []
unordered op left right e h = subst (λ (y : Bool). (if y then [] else between left right) ≡ []) (sym (same_logical op) ∙ e) h

-- ---- forms

scalar_flag : (a c : Bool) → c ≡ true → same_flag a c ≡ true → not a ≡ false
scalar_flag true c e h = refl
scalar_flag false c e h = absurd (true≢false (sym h ∙ ap not e))

array_flag : (a c : Bool) → c ≡ false → same_flag a c ≡ true → not a ≡ true
array_flag true c e h = absurd (true≢false (sym h ∙ e))
array_flag false c e h = refl

to_variable : (S : Setting) (r : Reach) (s : Scope) (i : ℕ) (k : CType) → ScalarIn S r s i k → MayChange S s i → VariableIn S r s i k
to_variable S r scope.File i k h m = (h.0, h.1, h.2, h.3, m h.0 h.1)
to_variable S r scope.Call i k h m = h

-- ---- what is visible, and which functions there are

-- what is known of the names that are visible
pub record Visible (S : Setting) (items : List ItemTree) (bodies : List (List ℕ)) (r : Reach) (names : List Declared) (rs : List Binding) : Type 0 where
  pub knows : Knows items bodies names rs
  pub apart : Apart rs
  pub standing : Standing S r rs
  pub changeable : Changeable S names rs

-- The functions have numbers, results and parameters.
abbrev pub AreThere : Setting → List ItemTree → List Signature → Type 0
AreThere S items fs = (text : List ℕ) (f : FunctionTree) → function_named items text ≡ Some f
    → (fn : CoreFunctionTree) × (slice_get S.functions (function_number fs text) ≡ Some fn) × (fn.result ≡ result_of fs text) × (take fn.params fn.objects ≡ map object_elaborated (objects_of_params f.params)) × Each HasLengths (objects_of_params f.params)

-- Where a function with a body is called, it may be.
abbrev pub MayCall : Setting → List (List ℕ) → List Signature → Called → Type 0
MayCall S bodies fs d = is_in d.name bodies ≡ true → S.Callable (function_number fs d.name)

-- whether an argument is an array
abbrev ArrayView : List Binding → Tree → Type 0
ArrayView rs e =
    ((array_named rs e ≡ None) × (array_given rs e ≡ None))
    ⊎ ((text : List ℕ) × (array_named rs e ≡ Some (object_named rs text)) × (array_given rs e ≡ Some (object_named rs text).cell) × ((object_named rs text).is_array ≡ true))

array_view : (rs : List Binding) (e : Tree) → ArrayView rs e
array_view rs (tree.name text at) = by (object_named rs text).is_array refl
  where
    by : (y : Bool) → (object_named rs text).is_array ≡ y → ArrayView rs (tree.name text at)
    by true is = let known = object_named rs text in inr (text, ap (λ (z : Bool). if z then Some known else None) is, ap (λ (z : Bool). if z then Some known.cell else None) is, is)
    by false is = let known = object_named rs text in inl (ap (λ (z : Bool). if z then Some known else None) is, ap (λ (z : Bool). if z then Some known.cell else None) is)
array_view rs (tree.number n kind at) = inl (refl, refl)
array_view rs (tree.index array subscripts at) = inl (refl, refl)
array_view rs (tree.call callee args at) = inl (refl, refl)
array_view rs (tree.unary op arg at) = inl (refl, refl)
array_view rs (tree.binary op left right at) = inl (refl, refl)
array_view rs (tree.choice test left right at colon) = inl (refl, refl)
array_view rs (tree.cast to arg at) = inl (refl, refl)
array_view rs (tree.assign place op v at) = inl (refl, refl)
array_view rs (tree.bump place up post at) = inl (refl, refl)
array_view rs (tree.comma left right at) = inl (refl, refl)

array_found : (q : Option Known) → (known_or_int q).is_array ≡ true → q ≡ Some (known_or_int q)
array_found None h = absurd (true≢false (sym h))
array_found (Some known) h = refl

module _ (S : Setting) (items : List ItemTree) (bodies : List (List ℕ)) (fs : List Signature) (there : AreThere S items fs) (r : Reach) (names : List Declared) (rs : List Binding) (v : Visible S items bodies r names rs) where
  -- ---- names

  standing_there : (text : List ℕ) (n : ℕ) → IsUsed items bodies names rs text n → Stands S r (object_named rs text)
  standing_there text n u = v.standing text (object_named rs text) (found_there items bodies names rs v.knows text n u)

  form_there : (text : List ℕ) (n : ℕ) (u : IsUsed items bodies names rs text n) → (object_named rs text).is_array ≡ is_array u.0
  form_there text n u = let k = known_as items bodies names rs v.knows text n u in ap (λ q. (known_or_int q).is_array) k.1 ∙ k.3

  scalar_used : (text : List ℕ) → IsUsed items bodies names rs text 0 → ScalarIn S r (object_named rs text).cell.scope (object_named rs text).cell.number (object_named rs text).kind
  scalar_used text u =
      let known = object_named rs text in
      let form : known.is_array ≡ false = form_there text 0 u ∙ scalar_flag (length u.0.lengths == 0) (0 == 0) refl u.2 in
      subst (λ (y : Bool). OneOf y (ArrayIn S r known.cell.scope known.cell.number known.kind) (ScalarIn S r known.cell.scope known.cell.number known.kind)) form (standing_there text 0 u)

  array_used : (text : List ℕ) (n : ℕ) → IsUsed items bodies names rs text (n + 1) → ArrayIn S r (object_named rs text).cell.scope (object_named rs text).cell.number (object_named rs text).kind
  array_used text n u =
      let known = object_named rs text in
      let some : (n + 1 == 0) ≡ false = grind arith in
      let form : known.is_array ≡ true = form_there text (n + 1) u ∙ array_flag (length u.0.lengths == 0) (n + 1 == 0) some u.2 in
      subst (λ (y : Bool). OneOf y (ArrayIn S r known.cell.scope known.cell.number known.kind) (ScalarIn S r known.cell.scope known.cell.number known.kind)) form (standing_there text (n + 1) u)

  element_used : (text : List ℕ) (subscripts : Trees) → HasSubscript subscripts → IsUsed items bodies names rs text (count subscripts) → ArrayIn S r (object_named rs text).cell.scope (object_named rs text).cell.number (object_named rs text).kind
  element_used text tree.none h u = absurd h
  element_used text (tree.more first rest) h u = array_used text (count rest) u

  variable_changed : (text : List ℕ) → IsChanged items bodies names rs text 0 → VariableIn S r (object_named rs text).cell.scope (object_named rs text).cell.number (object_named rs text).kind
  variable_changed text c =
      let known = object_named rs text in
      let u = c.0 in
      to_variable S r known.cell.scope known.cell.number known.kind (scalar_used text u) (v.changeable text u.0 known u.1 c.1 (found_there items bodies names rs v.knows text 0 u))

  target_there : (text : List ℕ) (subscripts : Trees) → IsChanged items bodies names rs text (count subscripts) → IsTarget (objects_in S r) (object_named rs text).cell (all_elaborated fs rs subscripts) (object_named rs text).kind
  target_there text tree.none c = variable_changed text c
  target_there text (tree.more first rest) c = array_used text (count rest) c.0

  -- ---- arguments

  take_one : (p : ParamTree) (arg : Tree) (e : CoreTree) (os : List CoreObjectTree) (rest : ArgumentTrees) → HasLengths p.object → Fits p.object (array_named rs arg) → TakesAll S r os rest
      → TakesAll S r (object_elaborated p.object ∷ os) (core.more_arguments (argument_of (array_given rs arg) e) rest)
  take_one p arg e os rest has fit more = elim (array_view rs arg) [
    | inl none ↦
        let is : length p.object.lengths == 0 ≡ true = subst (Fits p.object) none.0 fit in
        subst (λ q. TakesAll S r (object_elaborated p.object ∷ os) (core.more_arguments (argument_of q e) rest)) (sym none.1) (is_scalar p.object has is, more)
    | inr some ↦
        let known = object_named rs some.0 in
        let is : Fits p.object (Some known) = subst (Fits p.object) some.1 fit in
        let stands = v.standing some.0 known (array_found (object_found some.0 rs) some.3) in
        let array = subst (λ (y : Bool). OneOf y (ArrayIn S r known.cell.scope known.cell.number known.kind) (ScalarIn S r known.cell.scope known.cell.number known.kind)) some.3 stands in
        subst (λ q. TakesAll S r (object_elaborated p.object ∷ os) (core.more_arguments (argument_of q e) rest)) (sym some.2)
        (is_array_object p.object has is.0, subst (λ k. ArrayIn S r known.cell.scope known.cell.number k) is.1 array, more)
  ]

  takes_all : (ps : List ParamTree) (args : Trees) → Each HasLengths (objects_of_params ps) → AllFit rs ps args → TakesAll S r (map object_elaborated (objects_of_params ps)) (arguments_elaborated fs rs args)
  takes_all [] tree.none has fit = tt
  takes_all [] (tree.more arg args) has fit = absurd fit
  takes_all (p ∷ ps) tree.none has fit = absurd fit
  takes_all (p ∷ ps) (tree.more arg args) has fit =
      take_one p arg (elaborated fs rs arg) (map object_elaborated (objects_of_params ps)) (arguments_elaborated fs rs args) has.0 fit.0 (takes_all ps args has.1 fit.1)

  taken : (callee : List ℕ) (args : Trees) (q : Option FunctionTree) → function_named items callee ≡ q → Takes rs q args → S.Callable (function_number fs callee) → (objects_in S r).Takes (function_number fs callee) (arguments_elaborated fs rs args) (result_of fs callee)
  taken callee args None e takes callable = absurd takes
  taken callee args (Some f) e takes callable =
      let fn = there callee f e in
      (fn.0, fn.1, callable, fn.2, subst (λ os. TakesAll S r os (arguments_elaborated fs rs args)) (sym fn.3) (takes_all f.params args fn.4 takes))

  callable_there : (callee : List ℕ) (args : Trees) (at : Place) → IsCalled items bodies names rs callee args → Each (MayCall S bodies fs) (function_called (sense_of callee names) callee at) → S.Callable (function_number fs callee)
  callable_there callee args at c may =
      let one : Each (MayCall S bodies fs) (function_called (Some (function c.1.0 c.1.1)) callee at) = subst (λ z. Each (MayCall S bodies fs) (function_called z callee at)) c.1.2 may in
      one.0 c.0

  given_sound : (q : Option Cell) (e : CoreTree) → IsSound (objects_in S r) e → ArgumentSound (objects_in S r) (argument_of q e)
  given_sound (Some cell) e h = tt
  given_sound None e h = h

  -- ---- expressions

  mutual
    pub sound : (e : Tree) → Clean items bodies names rs e → IsWritten e → Each (MayCall S bodies fs) (calls names e) → IsSound (objects_in S r) (elaborated fs rs e)
    sound (tree.number n kind at) c w may = number_sound kind n w
    sound (tree.name text at) c w may = scalar_used text c
    sound (tree.index array subscripts at) c w may = (element_used array subscripts w.0 c.0, all_sound subscripts [] c.2 w.1 may c.1)
    sound (tree.call callee args at) c w may =
        let called = function_called (sense_of callee names) callee at in (
          taken callee args (function_named items callee) refl c.0.2 (callable_there callee args at c.0 (each-front (MayCall S bodies fs) called (all_calls names args) may)),
          arguments_sound args [] c.2 w (each_back (MayCall S bodies fs) called (all_calls names args) may) c.1,
        )
    sound (tree.unary op arg at) c w may = (ap (unary_kind op) (same_kind (elaborated fs rs arg)), sound arg c w may)
    sound (tree.binary op left right at) c w may = (
      ap₂ (binary_kind op) (same_kind (elaborated fs rs left)) (same_kind (elaborated fs rs right)),
      sound left c.1 w.0 (each-front (MayCall S bodies fs) (calls names left) (calls names right) may),
      sound right c.2 w.1 (each_back (MayCall S bodies fs) (calls names left) (calls names right) may),
      λ plain x read change.
          no_conflict rs v.apart x (accesses names left) (accesses names right) (unordered op (accesses names left) (accesses names right) plain c.0)
          (reads items bodies names rs v.knows fs x left c.1 read) (changes items bodies names rs v.knows fs x right c.2 change),
    )
    sound (tree.choice test left right at colon) c w may =
        let rest = each_back (MayCall S bodies fs) (calls names test) (calls names left ++ calls names right) may in (
          sound test c.0 w.0 (each-front (MayCall S bodies fs) (calls names test) (calls names left ++ calls names right) may),
          sound left c.1 w.1 (each-front (MayCall S bodies fs) (calls names left) (calls names right) rest),
          sound right c.2 w.2 (each_back (MayCall S bodies fs) (calls names left) (calls names right) rest),
        )
    sound (tree.cast to arg at) c w may = sound arg c w may
    sound (tree.assign (tree.target text subscripts place) op value at) c w may = (
      target_there text subscripts c.0,
      all_sound subscripts [] c.3 w.1 (each-front (MayCall S bodies fs) (all_calls names subscripts) (calls names value) may) c.1,
      sound value c.4 w.2 (each_back (MayCall S bodies fs) (all_calls names subscripts) (calls names value) may),
      λ x read change.
          no_conflict rs v.apart x (all_accesses names subscripts) (accesses names value) c.2
          (all_read items bodies names rs v.knows fs x subscripts c.3 read) (changes items bodies names rs v.knows fs x value c.4 change),
      w.0,
    )
    sound (tree.bump (tree.target text subscripts place) up post at) c w may = (target_there text subscripts c.0, all_sound subscripts [] c.2 w may c.1)
    sound (tree.comma left right at) c w may = (
      sound left c.0 w.0 (each-front (MayCall S bodies fs) (calls names left) (calls names right) may),
      sound right c.1 w.1 (each_back (MayCall S bodies fs) (calls names left) (calls names right) may),
    )

    all_sound : (es : Trees) (before : List Access) → AllClean items bodies names rs es → AreWritten es → Each (MayCall S bodies fs) (all_calls names es) → conflicts_among names before es ≡ [] → AreSound (objects_in S r) (all_elaborated fs rs es)
    all_sound tree.none before c w may h = tt
    all_sound (tree.more first rest) before c w may h =
        let others = right_nil (between before (accesses names first)) (conflicts_among names (before ++ accesses names first) rest) h in (
          sound first c.0 w.0 (each-front (MayCall S bodies fs) (calls names first) (all_calls names rest) may),
          all_sound rest (before ++ accesses names first) c.1 w.1 (each_back (MayCall S bodies fs) (calls names first) (all_calls names rest) may) others,
          λ x read change.
              none_among rs v.apart names x (before ++ accesses names first) rest others (meets_right rs x before (accesses names first) (reads items bodies names rs v.knows fs x first c.0 read))
              (all_change items bodies names rs v.knows fs x rest c.1 change),
        )

    arguments_sound : (es : Trees) (before : List Access) → ArgumentsClean items bodies names rs es → AreWritten es → Each (MayCall S bodies fs) (all_calls names es) → conflicts_among names before es ≡ [] → ArgumentsSound (objects_in S r) (arguments_elaborated fs rs es)
    arguments_sound tree.none before c w may h = tt
    arguments_sound (tree.more first rest) before c w may h =
        let others = right_nil (between before (accesses names first)) (conflicts_among names (before ++ accesses names first) rest) h in (
          elim c.0 [
            | inl array ↦ subst (λ q. ArgumentSound (objects_in S r) (argument_of q (elaborated fs rs first))) (sym array.1) tt
            | inr value ↦ given_sound (array_given rs first) (elaborated fs rs first) (sound first value w.0 (each-front (MayCall S bodies fs) (calls names first) (all_calls names rest) may))
          ],
          arguments_sound rest (before ++ accesses names first) c.1 w.1 (each_back (MayCall S bodies fs) (calls names first) (all_calls names rest) may) others,
          λ x read change.
              none_among rs v.apart names x (before ++ accesses names first) rest others (meets_right rs x before (accesses names first) (argument_reads items bodies names rs v.knows fs x first c.0 read))
              (arguments_change items bodies names rs v.knows fs x rest c.1 change),
        )
