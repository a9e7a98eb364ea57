-- Expressions run as they do in the program.
use Rattle.std.proofs.Common.{◌≡◌, ℕ, suc, ◌==◌, ◌||◌, ◌∙◌, sym, refl, ap, ap₂, subst, not, Bool, true, false, if◌then◌else◌, ℤ, pos, List, [], ◌∷◌, ◌++◌, length, append_assoc, append-nil, Option, Some, None, slice_get, arith, ne_eqb}
use Rattle.std.specs.Prelude.{unwrap_or}
use Rattle.hls_base.specs.declared.place.Place.{Place}
use Rattle.hls_base.specs.declared.point.PointKind.TheVariants as point
use Rattle.hls_base.specs.declared.refusal.UbRule.{UbRule}
use Rattle.hls_base.specs.declared.refusal.UbRule.TheVariants as ub
use Rattle.c_token.specs.declared.ctype.CType.{CType}
use Rattle.c_tree.specs.declared.operator.Binary.{Binary}
use Rattle.c_tree.specs.declared.operator.Binary.TheVariants as b
use Rattle.c_tree.specs.Tree as tree
use Rattle.c_tree.specs.Tree.{Tree, TargetTree, Trees, ParamTree, FunctionTree, ItemTree}
use Rattle.c_value.specs.Values.{int_type, convert, common}
use Rattle.c_value.specs.Operators as o
use Rattle.c_value.specs.Operators.{Computed, truth, is_true, unary_kind, binary_kind, unary_value, binary_value}
use Rattle.c_meaning.specs.declared.value.Value.{Value}
use Rattle.c_meaning.specs.declared.value.Argument.{Argument}
use Rattle.c_meaning.specs.declared.value.Argument.TheVariants as argument
use Rattle.c_meaning.specs.declared.names.Binding.{Binding}
use Rattle.c_meaning.specs.Store.{Object, State, Environment, object_named, kind_in, lengths_at, elements_in, element_in, kind_of_object, lengths_of_object, read_element, write_element, element_place}
use Rattle.c_meaning.specs.Steps as c
use Rattle.c_meaning.specs.Expression as ce
use Rattle.c_meaning.specs.Expression.{value, Calls}
use Rattle.c_meaning.specs.Run.{function_named}
use Rattle.pieces.specs.declared.resolved.expression.Cell.{Cell}
use Rattle.pieces.specs.Resolved.Core as core
use Rattle.pieces.specs.Resolved.Core.{CoreTree, CoreTargetTree, CoreTrees, CoreObjectTree}
use Rattle.hls_base.specs.Steps as r
use Rattle.c_meaning.specs.CoreRuns.Cells.{Spot, Cells, Given, number_given, array_given, Here, spot_of}
use Rattle.c_meaning.specs.CoreRuns.Kinds as k
use Rattle.c_meaning.specs.CoreRuns.Expressions as ke
use Rattle.c_meaning.specs.CoreRuns.Expressions.{CoreCalls}
use Rattle.c_elaborate.specs.declared.names.Known.{Known}
use Rattle.c_elaborate.specs.declared.names.Binding.{Binding as Resolution}
use Rattle.c_elaborate.specs.declared.functions.Signature.{Signature}
use Rattle.c_elaborate.specs.Names as e
use Rattle.c_elaborate.specs.Names.{function_number}
use Rattle.c_elaborate.specs.Expressions as ee
use Rattle.c_elaborate.specs.Expressions.{kind_of, elaborated, all_elaborated, arguments_elaborated}
use Rattle.c_elaborate.specs.Programs.{signatures}
use Rattle.c_elaborate.specs.Same.{Same, Equal, Valued}
use Rattle.c_elaborate.specs.Homes.{Home, home, Alike, IsDistinct, placed, IsAt, Named, Stands, IsGiven, AreGiven, AreTaken}
use Rattle.c_elaborate.specs.Resolved.{IsDeclared, array_named, Fits, AllFit, Takes, IsResolved, AreResolved}
use Rattle.c_elaborate.proofs.ElaborateRuns.Sames.{goes_same, then_same, ends_same, then_equal, then_valued, goes_equal, goes_valued, pass_if_same}
use Rattle.c_elaborate.proofs.ElaborateRuns.Homes.{read_alike, kind_alike, lengths_alike, write_alike}
use Rattle.c_elaborate.proofs.ElaborateRuns.Naming.{resolves}

-- ---- types

target_kinds : (t : CoreTargetTree) → k.target_kind t ≡ ee.target_kind t
target_kinds (core.target cell subscripts kind at) = refl

pub same_kind : (t : CoreTree) → k.kind_of t ≡ kind_of t
same_kind (core.number value kind) = refl
same_kind (core.scalar cell kind at) = refl
same_kind (core.element array subscripts kind at) = refl
same_kind (core.call callee args kind at) = refl
same_kind (core.unary op arg kind at) = refl
same_kind (core.binary op left right kind at) = refl
same_kind (core.choice test left right kind at colon) = refl
same_kind (core.cast to arg) = refl
same_kind (core.assign place op value at) = target_kinds place
same_kind (core.bump place up post at) = target_kinds place
same_kind (core.comma left right) = same_kind right

-- ---- which expressions pass points

module _ (fs : List Signature) (names : List Resolution) where
  mutual
    pub same_acts : (t : Tree) → k.acts (elaborated fs names t) ≡ ce.acts t
    same_acts (tree.number n kind at) = refl
    same_acts (tree.name text at) = refl
    same_acts (tree.index array subscripts at) = all_same_acts subscripts
    same_acts (tree.call callee args at) = refl
    same_acts (tree.unary op arg at) = same_acts arg
    same_acts (tree.binary op left right at) = ap₂ ◌||◌ (same_acts left) (same_acts right)
    same_acts (tree.choice test left right at colon) = ap₂ ◌||◌ (ap₂ ◌||◌ (same_acts test) (same_acts left)) (same_acts right)
    same_acts (tree.cast to arg at) = same_acts arg
    same_acts (tree.assign (tree.target text subscripts place) op v at) = refl
    same_acts (tree.bump (tree.target text subscripts place) up post at) = refl
    same_acts (tree.comma left right at) = refl

    all_same_acts : (ts : Trees) → k.any_acts (all_elaborated fs names ts) ≡ ce.any_acts ts
    all_same_acts tree.none = refl
    all_same_acts (tree.more first rest) = ap₂ ◌||◌ (same_acts first) (all_same_acts rest)

-- ---- operators

pub if_same : {A B : Type 0} (R : A → List Object → B → Cells → Type 0) (y : Bool) (q q' : c.Ran A) (r r' : r.Ran Cells B) → Same R q r → Same R q' r' → Same R (if y then q else q') (if y then r else r')
if_same R true q q' r r' h g = h
if_same R false q q' r r' h g = g

module _ (I : List Object → Cells → Type 0) where
  computed_same : (kind : CType) (v : Computed) (at : Place) (s : State) (t : Cells) → I s.objects t → Same (Valued I kind) (ce.computed kind v at s) (ke.computed v at t s.left)
  computed_same kind (o.defined n) at s t h = goes_valued I kind n s t h
  computed_same kind (o.undefined rule) at s t h = refl

  module _ (frame : ℕ) (spots : ℕ → Spot) (objects : List CoreObjectTree) where
    module _ (left right : CType) (x : ℤ) (fork : Bool) (at : Place) (env : Environment) (second : State → c.Ran Value) (second' : Cells → ℕ → r.Ran Cells ℤ)
        (seconds : (s : State) (t : Cells) → I s.objects t → Same (Valued I right) (second s) (second' t s.left)) where
      both_same : (s : State) (t : Cells) → I s.objects t → Same (Valued I int_type) (ce.reached fork at env second s) (ke.both fork at (placed frame spots objects env) second' t s.left)
      both_same s t h =
          then_equal I (Valued I int_type) _ _ _ _ (pass_if_same I frame spots objects fork point.Arm at env s t h) (λ p s1 t1 h1.
          then_valued I right (Valued I int_type) _ _ _ _ (seconds s1 t1 h1) (λ y s2 t2 h2.
          then_equal I (Valued I int_type) _ _ _ _ (pass_if_same I frame spots objects fork point.End at env s2 t2 h2) (λ q s3 t3 h3.
          goes_valued I int_type (truth (is_true y)) s3 t3 h3)))

      first_same : (decided : Bool) (s : State) (t : Cells) → I s.objects t → Same (Valued I int_type) (ce.not_reached fork at env decided s) (ke.first_alone fork at (placed frame spots objects env) decided t s.left)
      first_same decided s t h =
          then_equal I (Valued I int_type) _ _ _ _ (pass_if_same I frame spots objects fork point.End at env s t h) (λ q s1 t1 h1. goes_valued I int_type (truth decided) s1 t1 h1)

      plain_same : (op : Binary) (s : State) (t : Cells) → I s.objects t
          → Same (Valued I (binary_kind op left right)) (c.then_ (second s) (λ y s1. ce.operated op (value left x) y at s1)) (r.then_ (second' t s.left) (λ y t1 n1. ke.computed (binary_value op left x right y) at t1 n1))
      plain_same op s t h =
          then_valued I right (Valued I (binary_kind op left right)) _ _ _ _ (seconds s t h) (λ y s1 t1 h1. computed_same (binary_kind op left right) (binary_value op left x right y) at s1 t1 h1)

      joined_same : (op : Binary) (s : State) (t : Cells) → I s.objects t
          → Same (Valued I (binary_kind op left right)) (ce.joined op (value left x) fork at env second s) (ke.joined op left x right fork at (placed frame spots objects env) second' t s.left)
      joined_same b.LogAnd s t h = if_same (Valued I int_type) (is_true x) _ _ _ _ (both_same s t h) (first_same false s t h)
      joined_same b.LogOr s t h = if_same (Valued I int_type) (is_true x) _ _ _ _ (first_same true s t h) (both_same s t h)
      joined_same b.Mul s t h = plain_same b.Mul s t h
      joined_same b.Div s t h = plain_same b.Div s t h
      joined_same b.Rem s t h = plain_same b.Rem s t h
      joined_same b.Add s t h = plain_same b.Add s t h
      joined_same b.Sub s t h = plain_same b.Sub s t h
      joined_same b.Shl s t h = plain_same b.Shl s t h
      joined_same b.Shr s t h = plain_same b.Shr s t h
      joined_same b.Lt s t h = plain_same b.Lt s t h
      joined_same b.Gt s t h = plain_same b.Gt s t h
      joined_same b.Le s t h = plain_same b.Le s t h
      joined_same b.Ge s t h = plain_same b.Ge s t h
      joined_same b.Eq s t h = plain_same b.Eq s t h
      joined_same b.Ne s t h = plain_same b.Ne s t h
      joined_same b.And s t h = plain_same b.And s t h
      joined_same b.Xor s t h = plain_same b.Xor s t h
      joined_same b.Or s t h = plain_same b.Or s t h

      chosen_same : (arm : Place) (kind : CType) (s : State) (t : Cells) → I s.objects t
          → Same (Valued I kind) (ce.chosen fork arm at kind env second s) (ke.chosen fork arm at kind (placed frame spots objects env) second' t s.left)
      chosen_same arm kind s t h =
          then_equal I (Valued I kind) _ _ _ _ (pass_if_same I frame spots objects fork point.Arm arm env s t h) (λ p s1 t1 h1.
          then_valued I right (Valued I kind) _ _ _ _ (seconds s1 t1 h1) (λ y s2 t2 h2.
          then_equal I (Valued I kind) _ _ _ _ (pass_if_same I frame spots objects fork point.End at env s2 t2 h2) (λ q s3 t3 h3.
          goes_valued I kind (convert kind y) s3 t3 h3)))

-- ---- objects

abbrev pub rule_if : Bool → UbRule
rule_if true = ub.Unset
rule_if false = ub.UnsetElement

rule_same : (is : List ℤ) → ke.unset_rule is ≡ rule_if (length is == 0)
rule_same [] = refl
rule_same (i ∷ is) = ap rule_if (sym (ne_eqb (suc (length is)) 0 (λ e. omega arith)))

module _ (homes : List Home) (distinct : IsDistinct homes) where
  found_same : (v w : Option ℤ) (kind kind' : CType) (is_scalar : Bool) (rule : UbRule) (at : Place) (s : State) (t : Cells) → v ≡ w → kind' ≡ kind → rule ≡ rule_if is_scalar → Alike homes s.objects t
      → Same (Valued (Alike homes) kind) (ce.read_found v kind' is_scalar at s) (ke.read_found rule w at t s.left)
  found_same (Some n) w kind kind' is_scalar rule at s t e f g h =
      subst (λ z. Same (Valued (Alike homes) kind) (ce.read_found (Some n) kind' is_scalar at s) (ke.read_found rule z at t s.left)) e
      (goes_same (Valued (Alike homes) kind) (value kind' n) s n t (ap (λ z. value z n) f, h))
  found_same None w kind kind' true rule at s t e f g h =
      subst (λ z. Same (Valued (Alike homes) kind) (ce.read_found None kind' true at s) (ke.read_found rule z at t s.left)) e (ap (λ z. r.fails z at) g)
  found_same None w kind kind' false rule at s t e f g h =
      subst (λ z. Same (Valued (Alike homes) kind) (ce.read_found None kind' false at s) (ke.read_found rule z at t s.left)) e (ap (λ z. r.fails z at) g)

  module _ (i : ℕ) (x : Spot) (kind : CType) (lengths : List ℕ) (is_at : slice_get homes i ≡ Some (home x kind lengths)) where
    pub kind_here : (s : State) (t : Cells) → Alike homes s.objects t → kind_of_object s i ≡ kind
    kind_here s t h = ap kind_in (read_alike homes s.objects t i (home x kind lengths) h is_at) ∙ kind_alike homes s.objects t i (home x kind lengths) h is_at

    lengths_here : (s : State) (t : Cells) → Alike homes s.objects t → lengths_of_object s i ≡ (t x).lengths
    lengths_here s t h = ap lengths_at (read_alike homes s.objects t i (home x kind lengths) h is_at)

    place_same : (p : Option ℕ) (is_scalar : Bool) (rule : UbRule) (at : Place) (s : State) (t : Cells) → rule ≡ rule_if is_scalar → Alike homes s.objects t
        → Same (Valued (Alike homes) kind) (ce.read_place p i is_scalar at s) (ke.read_place rule p x at t s.left)
    place_same None is_scalar rule at s t g h = refl
    place_same (Some element) is_scalar rule at s t g h =
        found_same (read_element s i element) (element_in (slice_get (t x).elements element)) kind (kind_of_object s i) is_scalar rule at s t
        (ap (λ z. element_in (slice_get (elements_in z) element)) (read_alike homes s.objects t i (home x kind lengths) h is_at)) (kind_here s t h) g h

    read_same : (is : List ℤ) (rule : UbRule) (at : Place) (s : State) (t : Cells) → rule ≡ rule_if (length is == 0) → Alike homes s.objects t
        → Same (Valued (Alike homes) kind) (ce.read_object i is at s) (ke.read rule x is at t s.left)
    read_same is rule at s t g h =
        subst (λ z. Same (Valued (Alike homes) kind) (ce.read_place (element_place z is) i (length is == 0) at s) (ke.read rule x is at t s.left)) (sym (lengths_here s t h))
        (place_same (element_place (t x).lengths is) (length is == 0) rule at s t g h)

    store_place_same : (p : Option ℕ) (v : ℤ) (at : Place) (s : State) (t : Cells) → Alike homes s.objects t
        → Same (Valued (Alike homes) kind) (ce.store_place p i v at s) (ke.store_place p x kind v at t s.left)
    store_place_same None v at s t h = refl
    store_place_same (Some element) v at s t h =
        subst (λ z. Same (Valued (Alike homes) kind) (ce.store_number i element z (convert z v) s) (ke.store_place (Some element) x kind v at t s.left)) (sym (kind_here s t h))
        (goes_same (Valued (Alike homes) kind) (value kind (convert kind v)) (write_element s i element (convert kind v)) (convert kind v) (ke.written x element (convert kind v) t)
        (refl, write_alike homes s t i (home x kind lengths) element (convert kind v) distinct is_at h))

    store_same : (is : List ℤ) (v : ℤ) (at : Place) (s : State) (t : Cells) → Alike homes s.objects t
        → Same (Valued (Alike homes) kind) (ce.store_object i is v at s) (ke.store x is kind v at t s.left)
    store_same is v at s t h =
        subst (λ z. Same (Valued (Alike homes) kind) (ce.store_place (element_place z is) i v at s) (ke.store x is kind v at t s.left)) (sym (lengths_here s t h))
        (store_place_same (element_place (t x).lengths is) v at s t h)

    assigned_same : (op : Option Binary) (is : List ℤ) (place at : Place) (value_kind : CType) (v : ℤ) (s : State) (t : Cells) → Alike homes s.objects t
        → Same (Valued (Alike homes) kind) (ce.assigned op i is place (value value_kind v) at s) (ke.assigned op x is kind place value_kind v at t s.left)
    assigned_same None is place at value_kind v s t h = store_same is v place s t h
    assigned_same (Some op) is place at value_kind v s t h =
        then_valued (Alike homes) kind (Valued (Alike homes) kind) _ _ _ _ (read_same is (ke.unset_rule is) place s t (rule_same is) h) (λ old s1 t1 h1.
        then_valued (Alike homes) (binary_kind op kind value_kind) (Valued (Alike homes) kind) _ _ _ _
        (computed_same (Alike homes) (binary_kind op kind value_kind) (binary_value op kind old value_kind v) at s1 t1 h1) (λ y s2 t2 h2.
        store_same is y place s2 t2 h2))

    which : (post : Bool) (old v : ℤ) (s : State) (t : Cells) → Alike homes s.objects t
        → Same (Valued (Alike homes) kind) (c.goes (if post then value kind old else value kind v) s) (r.goes (if post then old else v) t s.left)
    which true old v s t h = goes_valued (Alike homes) kind old s t h
    which false old v s t h = goes_valued (Alike homes) kind v s t h

    bumped_same : (up post : Bool) (is : List ℤ) (place at : Place) (s : State) (t : Cells) → Alike homes s.objects t
        → Same (Valued (Alike homes) kind) (ce.bumped up post i is place at s) (ke.bumped up post x is kind place at t s.left)
    bumped_same up post is place at s t h =
        let op : Binary = if up then b.Add else b.Sub in
        then_valued (Alike homes) kind (Valued (Alike homes) kind) _ _ _ _ (read_same is (ke.unset_rule is) place s t (rule_same is) h) (λ old s1 t1 h1.
        then_valued (Alike homes) (binary_kind op kind int_type) (Valued (Alike homes) kind) _ _ _ _
        (computed_same (Alike homes) (binary_kind op kind int_type) (binary_value op kind old int_type (pos 1)) at s1 t1 h1) (λ y s2 t2 h2.
        then_valued (Alike homes) kind (Valued (Alike homes) kind) _ _ _ _ (store_same is y place s2 t2 h2) (λ v s3 t3 h3.
        which post old v s3 t3 h3)))

-- ---- calls

-- Calls do what they do in the program, wherever the objects are.
abbrev pub CallsSame : List ItemTree → List Binding → List Resolution → Calls → CoreCalls → Type 0
CallsSame items file names c1 c2 =
    (used : Bool) (callee : List ℕ) (given : List Argument) (given' : List Given) (path : List Place) (homes : List Home) (frame free : ℕ) (s : State) (t : Cells)
    → Stands file names homes frame free → AreTaken homes (function_named items callee) given given' → Alike homes s.objects t
    → Same (Equal (Alike homes)) (c1.call used callee given path s) (c2 used (function_number (signatures items) callee) given' (suc frame) path t s.left)

abbrev pub ResultsSame : List ItemTree → Calls → Type 0
ResultsSame items c1 = (callee : List ℕ) → c1.result_of callee ≡ unwrap_or (e.result_of (signatures items) callee) int_type

given_one : (homes : List Home) (ps : List ParamTree) (p : ParamTree) (xs : List Argument) (ys : List Given) (x : Argument) (y : Given) → AreGiven homes ps xs ys → IsGiven homes p.object x y
    → AreGiven homes (ps ++ p ∷ []) (xs ++ x ∷ []) (ys ++ y ∷ [])
given_one homes [] p [] [] x y h g = (g, tt)
given_one homes [] p [] (y' ∷ ys) x y h g = absurd h
given_one homes [] p (x' ∷ xs) [] x y h g = absurd h
given_one homes [] p (x' ∷ xs) (y' ∷ ys) x y h g = absurd h
given_one homes (p' ∷ ps) p [] [] x y h g = absurd h
given_one homes (p' ∷ ps) p [] (y' ∷ ys) x y h g = absurd h
given_one homes (p' ∷ ps) p (x' ∷ xs) [] x y h g = absurd h
given_one homes (p' ∷ ps) p (x' ∷ xs) (y' ∷ ys) x y h g = (h.0, given_one homes ps p xs ys x y h.1 g)

-- the array that an argument names, in both runs
abbrev BothArrays : List Home → Here → ParamTree → Option ℕ → Option Cell → Type 0
BothArrays homes here p None None = length p.object.lengths == 0 ≡ true
BothArrays homes here p None (Some cell) = ⊥
BothArrays homes here p (Some i) None = ⊥
BothArrays homes here p (Some i) (Some cell) = IsGiven homes p.object (argument.Array i) (array_given (spot_of here cell))

given_for : (homes : List Home) (here : Here) (p : ParamTree) (i : ℕ) (known : Known) (lengths : List ℕ) (y : Bool) → length lengths == 0 ≡ y → slice_get homes i ≡ Some (home (spot_of here known.cell) known.kind lengths)
    → Fits p.object (if not y then Some known else None) → BothArrays homes here p (if y then None else Some i) (if not y then Some known.cell else None)
given_for homes here p i known lengths true e at fit = fit
given_for homes here p i known lengths false e at fit = (lengths, subst (λ z. slice_get homes i ≡ Some (home (spot_of here known.cell) z lengths)) fit.1 at, e, fit.0)

module _ (items : List ItemTree) (file : List Binding) (file_names : List Resolution) (c1 : Calls) (c2 : CoreCalls) (calls : CallsSame items file file_names c1 c2) (results : ResultsSame items c1)
    (frame free : ℕ) (spots : ℕ → Spot) (objects : List CoreObjectTree) (homes : List Home) (stands : Stands file file_names homes frame free) (env : Environment) (names : List Resolution)
    (named : Named homes (placed frame spots objects env) env.file env.names names) where
  is_at : (text : List ℕ) → IsDeclared names text → IsAt homes (placed frame spots objects env) (object_named env text) (e.object_named names text)
  is_at text known = resolves homes (placed frame spots objects env) env names text named known

  kind_named : (text : List ℕ) (s : State) (u : Cells) → IsDeclared names text → Alike homes s.objects u → kind_of_object s (object_named env text) ≡ (e.object_named names text).kind
  kind_named text s u known h =
      let a = is_at text known in
      let x = spot_of (placed frame spots objects env) (e.object_named names text).cell in
      kind_here homes stands.distinct (object_named env text) x (e.object_named names text).kind a.lengths a.at s u h

  kind_same : (t : Tree) (s : State) (u : Cells) → IsResolved items names t → Alike homes s.objects u
      → ce.kind_of (λ text. kind_of_object s (object_named env text)) c1.result_of t ≡ kind_of (elaborated (signatures items) names t)
  kind_same (tree.number n kind at) s u known h = refl
  kind_same (tree.name text at) s u known h = kind_named text s u known h
  kind_same (tree.index array subscripts at) s u known h = kind_named array s u known.0 h
  kind_same (tree.call callee args at) s u known h = results callee
  kind_same (tree.unary op arg at) s u known h = ap (unary_kind op) (kind_same arg s u known h)
  kind_same (tree.binary op left right at) s u known h = ap₂ (binary_kind op) (kind_same left s u known.0 h) (kind_same right s u known.1 h)
  kind_same (tree.choice test left right at colon) s u known h = ap₂ common (kind_same left s u known.1 h) (kind_same right s u known.2 h)
  kind_same (tree.cast to arg at) s u known h = refl
  kind_same (tree.assign (tree.target text subscripts place) op v at) s u known h = kind_named text s u known.0 h
  kind_same (tree.bump (tree.target text subscripts place) up post at) s u known h = kind_named text s u known.0 h
  kind_same (tree.comma left right at) s u known h = kind_same right s u known.1 h

  both_arrays : (t : Tree) (p : ParamTree) (s : State) (u : Cells) → IsResolved items names t → Fits p.object (array_named names t) → Alike homes s.objects u
      → BothArrays homes (placed frame spots objects env) p (ce.array_given env s t) (ee.array_given names t)
  both_arrays (tree.name text at) p s u known fit h =
      let a = is_at text known in
      let object = e.object_named names text in
      let here = placed frame spots objects env in
      let x = spot_of here object.cell in
      let i = object_named env text in
      let y : Bool = length a.lengths == 0 in
      let same : (length (lengths_of_object s i) == 0) ≡ y = ap (λ l. length l == 0) (lengths_here homes stands.distinct i x object.kind a.lengths a.at s u h ∙ lengths_alike homes s.objects u i (home x object.kind a.lengths) h a.at) in
      subst (λ z. BothArrays homes here p (if z then None else Some i) (if object.is_array then Some object.cell else None)) (sym same)
      (subst (λ z. BothArrays homes here p (if y then None else Some i) (if z then Some object.cell else None)) (sym a.form)
      (given_for homes here p i object a.lengths y refl a.at (subst (λ z. Fits p.object (if z then Some object else None)) a.form fit)))
  both_arrays (tree.number n kind at) p s u known fit h = fit
  both_arrays (tree.index array subscripts at) p s u known fit h = fit
  both_arrays (tree.call callee args at) p s u known fit h = fit
  both_arrays (tree.unary op arg at) p s u known fit h = fit
  both_arrays (tree.binary op left right at) p s u known fit h = fit
  both_arrays (tree.choice test left right at colon) p s u known fit h = fit
  both_arrays (tree.cast to arg at) p s u known fit h = fit
  both_arrays (tree.assign place op v at) p s u known fit h = fit
  both_arrays (tree.bump place up post at) p s u known fit h = fit
  both_arrays (tree.comma left right at) p s u known fit h = fit

  abbrev Taken : List ParamTree → List Argument → List Object → List Given → Cells → Type 0
  Taken ps given s given' u = AreGiven homes ps given given' × Alike homes s u

  abbrev TakenBy : Option FunctionTree → List Argument → List Object → List Given → Cells → Type 0
  TakenBy q given s given' u = AreTaken homes q given given' × Alike homes s u

  taken_of : (q : Option FunctionTree) (args : Trees) (x : c.Ran (List Argument)) (y : r.Ran Cells (List Given)) → Takes names q args → ((ps : List ParamTree) → AllFit names ps args → Same (Taken ps) x y) → Same (TakenBy q) x y
  taken_of None args x y takes given = absurd takes
  taken_of (Some f) args x y takes given = given f.params takes

  -- one argument, and those behind it
  argument_step : (R : List Argument → List Object → List Given → Cells → Type 0) (p : ParamTree) (o : Option ℕ) (q : Option Cell) (kind : CType) (number : State → c.Ran Value) (first : CoreTree) (rest : Trees) (rest' : core.ArgumentTrees)
      (xs : List Argument) (ys : List Given) (s : State) (u : Cells)
      → BothArrays homes (placed frame spots objects env) p o q
      → Same (Valued (Alike homes) kind) (number s) (ke.expression c2 true first (placed frame spots objects env) u s.left)
      → ((x : Argument) (y : Given) (s1 : State) (u1 : Cells) → IsGiven homes p.object x y → Alike homes s1.objects u1
      → Same R (ce.arguments c1 rest (xs ++ x ∷ []) env s1) (ke.arguments c2 rest' (ys ++ y ∷ []) (placed frame spots objects env) u1 s1.left))
      → Alike homes s.objects u
      → Same R (c.then_ (ce.argument_of o number s) (λ a s1. ce.arguments c1 rest (xs ++ a ∷ []) env s1)) (ke.arguments c2 (core.more_arguments (ee.argument_of q first) rest') ys (placed frame spots objects env) u s.left)
  argument_step R p None None kind number first rest rest' xs ys s u both numbers next h =
      let N : Argument → List Object → ℤ → Cells → Type 0 = λ a s1 y u1. (a ≡ argument.Number y) × Alike homes s1 u1 in
      then_same N R _ _ _ _
      (ends_same (Valued (Alike homes) kind) N (number s) (ke.expression c2 true first (placed frame spots objects env) u s.left) (λ v. argument.Number v.number) (λ v s1 w u1 a. (ap (λ (z : Value). argument.Number z.number) a.0, a.1)) numbers)
      (λ a s1 y u1 g. subst (λ z. Same R (ce.arguments c1 rest (xs ++ z ∷ []) env s1) (ke.arguments c2 rest' (ys ++ number_given y ∷ []) (placed frame spots objects env) u1 s1.left)) (sym g.0)
      (next (argument.Number y) (number_given y) s1 u1 (refl, both) g.1))
  argument_step R p None (Some cell) kind number first rest rest' xs ys s u both numbers next h = absurd both
  argument_step R p (Some i) None kind number first rest rest' xs ys s u both numbers next h = absurd both
  argument_step R p (Some i) (Some cell) kind number first rest rest' xs ys s u both numbers next h =
      next (argument.Array i) (array_given (spot_of (placed frame spots objects env) cell)) s u both h

  result_same : (kind kind' : CType) (v : Option ℤ) (s : State) (u : Cells) → kind' ≡ kind → Alike homes s.objects u
      → Same (Valued (Alike homes) kind) (c.goes (value kind' (ce.number_or_zero v)) s) (r.goes (ke.number_or_zero v) u s.left)
  result_same kind kind' (Some n) s u f h = goes_same (Valued (Alike homes) kind) (value kind' n) s n u (ap (λ z. value z n) f, h)
  result_same kind kind' None s u f h = goes_same (Valued (Alike homes) kind) (value kind' (pos 0)) s (pos 0) u (ap (λ z. value z (pos 0)) f, h)

  mutual
    pub expression_same : (used : Bool) (t : Tree) (s : State) (u : Cells) → IsResolved items names t → Alike homes s.objects u
        → Same (Valued (Alike homes) (kind_of (elaborated (signatures items) names t))) (ce.expression_meaning c1 used t env s) (ke.expression c2 used (elaborated (signatures items) names t) (placed frame spots objects env) u s.left)
    expression_same used (tree.number n kind at) s u known h = goes_valued (Alike homes) kind (pos n) s u h
    expression_same used (tree.name text at) s u known h =
        let a = is_at text known in
        let object = e.object_named names text in
        read_same homes stands.distinct (object_named env text) (spot_of (placed frame spots objects env) object.cell) object.kind a.lengths a.at [] ub.Unset at s u refl h
    expression_same used (tree.index array subscripts at) s u known h =
        let a = is_at array known.0 in
        let object = e.object_named names array in
        then_equal (Alike homes) (Valued (Alike homes) object.kind) _ _ _ _ (numbers_same subscripts [] s u known.1 h) (λ is s1 u1 h1.
        read_same homes stands.distinct (object_named env array) (spot_of (placed frame spots objects env) object.cell) object.kind a.lengths a.at is (ke.unset_rule is) at s1 u1 (rule_same is) h1)
    expression_same used (tree.call callee args at) s u known h =
        let kind = unwrap_or (e.result_of (signatures items) callee) int_type in
        then_same (TakenBy (function_named items callee)) (Valued (Alike homes) kind) _ _ _ _
        (taken_of (function_named items callee) args _ _ known.0 (λ ps fit. arguments_same args [] ps [] [] s u fit known.1 tt h)) (λ given s1 given' u1 a.
        then_equal (Alike homes) (Valued (Alike homes) kind) _ _ _ _ (calls used callee given given' (env.path ++ at ∷ []) homes frame free s1 u1 stands a.0 a.1) (λ v s2 u2 h2.
        result_same kind (c1.result_of callee) v s2 u2 (results callee) h2))
    expression_same used (tree.unary op arg at) s u known h =
        let arg' = elaborated (signatures items) names arg in
        let kind = unary_kind op (kind_of arg') in
        subst (λ z. Same (Valued (Alike homes) kind) (ce.expression_meaning c1 used (tree.unary op arg at) env s)
        (r.then_ (ke.expression c2 true arg' (placed frame spots objects env) u s.left) (λ x u1 n1. ke.computed (unary_value op z x) at u1 n1))) (sym (same_kind arg'))
        (then_valued (Alike homes) (kind_of arg') (Valued (Alike homes) kind) _ _ _ _ (expression_same true arg s u known h) (λ x s1 u1 h1.
        computed_same (Alike homes) kind (unary_value op (kind_of arg') x) at s1 u1 h1))
    expression_same used (tree.binary op left right at) s u known h =
        let left' = elaborated (signatures items) names left in
        let right' = elaborated (signatures items) names right in
        let here = placed frame spots objects env in
        let kind = binary_kind op (kind_of left') (kind_of right') in
        let q = ce.expression_meaning c1 used (tree.binary op left right at) env s in
        subst (λ z. Same (Valued (Alike homes) kind) q
        (r.then_ (ke.expression c2 true left' here u s.left) (λ x u1 n1. ke.joined op z x (k.kind_of right') (k.acts right') at here (ke.expression c2 true right' here) u1 n1))) (sym (same_kind left'))
        (subst (λ z. Same (Valued (Alike homes) kind) q
        (r.then_ (ke.expression c2 true left' here u s.left) (λ x u1 n1. ke.joined op (kind_of left') x z (k.acts right') at here (ke.expression c2 true right' here) u1 n1))) (sym (same_kind right'))
        (subst (λ z. Same (Valued (Alike homes) kind) q
        (r.then_ (ke.expression c2 true left' here u s.left) (λ x u1 n1. ke.joined op (kind_of left') x (kind_of right') z at here (ke.expression c2 true right' here) u1 n1))) (sym (same_acts (signatures items) names right))
        (then_valued (Alike homes) (kind_of left') (Valued (Alike homes) kind) _ _ _ _ (expression_same true left s u known.0 h) (λ x s1 u1 h1.
        joined_same (Alike homes) frame spots objects (kind_of left') (kind_of right') x (ce.acts right) at env (ce.expression_meaning c1 true right env) (ke.expression c2 true right' here)
        (λ s2 u2 h2. expression_same true right s2 u2 known.1 h2) op s1 u1 h1))))
    expression_same used (tree.choice test left right at colon) s u known h =
        let left' = elaborated (signatures items) names left in
        let right' = elaborated (signatures items) names right in
        let here = placed frame spots objects env in
        let kind = common (kind_of left') (kind_of right') in
        let fork = ce.acts left || ce.acts right in
        then_valued (Alike homes) (kind_of (elaborated (signatures items) names test)) (Valued (Alike homes) kind) _ _ _ _ (expression_same true test s u known.0 h) (λ x s1 u1 h1.
        subst (λ z. Same (Valued (Alike homes) kind)
        (if is_true x then ce.chosen fork at at z env (ce.expression_meaning c1 true left env) s1 else ce.chosen fork colon at z env (ce.expression_meaning c1 true right env) s1)
        (if is_true x then ke.chosen (k.acts left' || k.acts right') at at kind here (ke.expression c2 true left' here) u1 s1.left else ke.chosen (k.acts left' || k.acts right') colon at kind here (ke.expression c2 true right' here) u1 s1.left))
        (sym (ap₂ common (kind_same left s1 u1 known.1 h1) (kind_same right s1 u1 known.2 h1)))
        (subst (λ z. Same (Valued (Alike homes) kind)
        (if is_true x then ce.chosen fork at at kind env (ce.expression_meaning c1 true left env) s1 else ce.chosen fork colon at kind env (ce.expression_meaning c1 true right env) s1)
        (if is_true x then ke.chosen z at at kind here (ke.expression c2 true left' here) u1 s1.left else ke.chosen z colon at kind here (ke.expression c2 true right' here) u1 s1.left))
        (sym (ap₂ ◌||◌ (same_acts (signatures items) names left) (same_acts (signatures items) names right)))
        (if_same (Valued (Alike homes) kind) (is_true x) _ _ _ _
        (chosen_same (Alike homes) frame spots objects int_type (kind_of left') (pos 0) fork at env (ce.expression_meaning c1 true left env) (ke.expression c2 true left' here) (λ s2 u2 h2. expression_same true left s2 u2 known.1 h2) at kind s1 u1 h1)
        (chosen_same (Alike homes) frame spots objects int_type (kind_of right') (pos 0) fork at env (ce.expression_meaning c1 true right env) (ke.expression c2 true right' here) (λ s2 u2 h2. expression_same true right s2 u2 known.2 h2) colon kind s1 u1 h1))))
    expression_same used (tree.cast to arg at) s u known h =
        then_valued (Alike homes) (kind_of (elaborated (signatures items) names arg)) (Valued (Alike homes) to) _ _ _ _ (expression_same true arg s u known h) (λ x s1 u1 h1. goes_valued (Alike homes) to (convert to x) s1 u1 h1)
    expression_same used (tree.assign (tree.target text subscripts place) op v at) s u known h =
        let a = is_at text known.0 in
        let object = e.object_named names text in
        let here = placed frame spots objects env in
        let x = spot_of here object.cell in
        let v' = elaborated (signatures items) names v in
        subst (λ z. Same (Valued (Alike homes) object.kind) (ce.expression_meaning c1 used (tree.assign (tree.target text subscripts place) op v at) env s)
        (r.then_ (ke.numbers c2 (all_elaborated (signatures items) names subscripts) [] here u s.left) (λ is u1 n1.
        r.then_ (ke.expression c2 true v' here u1 n1) (λ y u2 n2. ke.assigned op x is object.kind place z y at u2 n2)))) (sym (same_kind v'))
        (then_equal (Alike homes) (Valued (Alike homes) object.kind) _ _ _ _ (numbers_same subscripts [] s u known.1 h) (λ is s1 u1 h1.
        then_valued (Alike homes) (kind_of v') (Valued (Alike homes) object.kind) _ _ _ _ (expression_same true v s1 u1 known.2 h1) (λ y s2 u2 h2.
        assigned_same homes stands.distinct (object_named env text) x object.kind a.lengths a.at op is place at (kind_of v') y s2 u2 h2)))
    expression_same used (tree.bump (tree.target text subscripts place) up post at) s u known h =
        let a = is_at text known.0 in
        let object = e.object_named names text in
        then_equal (Alike homes) (Valued (Alike homes) object.kind) _ _ _ _ (numbers_same subscripts [] s u known.1 h) (λ is s1 u1 h1.
        bumped_same homes stands.distinct (object_named env text) (spot_of (placed frame spots objects env) object.cell) object.kind a.lengths a.at up post is place at s1 u1 h1)
    expression_same used (tree.comma left right at) s u known h =
        let right' = elaborated (signatures items) names right in
        then_valued (Alike homes) (kind_of (elaborated (signatures items) names left)) (Valued (Alike homes) (kind_of right')) _ _ _ _ (expression_same false left s u known.0 h) (λ x s1 u1 h1. expression_same true right s1 u1 known.1 h1)

    pub numbers_same : (ts : Trees) (before : List ℤ) (s : State) (u : Cells) → AreResolved items names ts → Alike homes s.objects u
        → Same (Equal (Alike homes)) (ce.numbers c1 ts before env s) (ke.numbers c2 (all_elaborated (signatures items) names ts) before (placed frame spots objects env) u s.left)
    numbers_same tree.none before s u known h = goes_equal (Alike homes) before s u h
    numbers_same (tree.more first rest) before s u known h =
        then_valued (Alike homes) (kind_of (elaborated (signatures items) names first)) (Equal (Alike homes)) _ _ _ _ (expression_same true first s u known.0 h) (λ x s1 u1 h1. numbers_same rest (before ++ x ∷ []) s1 u1 known.1 h1)

    pub arguments_same : (ts : Trees) (done ps : List ParamTree) (xs : List Argument) (ys : List Given) (s : State) (u : Cells) → AllFit names ps ts → AreResolved items names ts → AreGiven homes done xs ys → Alike homes s.objects u
        → Same (Taken (done ++ ps)) (ce.arguments c1 ts xs env s) (ke.arguments c2 (arguments_elaborated (signatures items) names ts) ys (placed frame spots objects env) u s.left)
    arguments_same tree.none done [] xs ys s u fit known given h = goes_same (Taken (done ++ [])) xs s ys u (subst (λ l. AreGiven homes l xs ys) (sym (append-nil done)) given, h)
    arguments_same tree.none done (p ∷ ps) xs ys s u fit known given h = absurd fit
    arguments_same (tree.more first rest) done [] xs ys s u fit known given h = absurd fit
    arguments_same (tree.more first rest) done (p ∷ ps) xs ys s u fit known given h =
        let first' = elaborated (signatures items) names first in
        argument_step (Taken (done ++ p ∷ ps)) p (ce.array_given env s first) (ee.array_given names first) (kind_of first') (ce.expression_meaning c1 true first env) first' rest (arguments_elaborated (signatures items) names rest) xs ys s u
        (both_arrays first p s u known.0 fit.0 h) (expression_same true first s u known.0 h)
        (λ x y s1 u1 g h1.
        subst (λ l. Same (Taken l) (ce.arguments c1 rest (xs ++ x ∷ []) env s1) (ke.arguments c2 (arguments_elaborated (signatures items) names rest) (ys ++ y ∷ []) (placed frame spots objects env) u1 s1.left)) (append_assoc done (p ∷ []) ps)
        (arguments_same rest (done ++ p ∷ []) ps (xs ++ x ∷ []) (ys ++ y ∷ []) s1 u1 fit.1 known.1 (given_one homes done p xs ys x y given g) h1))
        h
