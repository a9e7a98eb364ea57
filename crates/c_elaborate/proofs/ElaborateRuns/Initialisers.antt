-- Initialisers and declarations run as they do in the program.
use Rattle.std.proofs.Common.{◌≡◌, ℕ, zero, suc, ◌+◌, ◌-◌, ◌*◌, ◌∙◌, sym, refl, ap, ap₂, subst, true, pos, List, [], ◌∷◌, ◌++◌, map, length, replicate, Option, Some, None, option_map, slice_get, arith}
use Rattle.std.proofs.lemmas.List.{map-append, length-map}
use Rattle.std.proofs.Math.Nat.{suc-mul}
use Rattle.hls_base.specs.ArrayAddress.{element_count}
use Rattle.c_token.specs.declared.ctype.CType.{CType}
use Rattle.c_tree.specs.Tree as tree
use Rattle.c_tree.specs.Tree.{Tree, InitTree, InitTrees, ItemTree}
use Rattle.c_value.specs.Values.{convert}
use Rattle.c_meaning.specs.declared.names.Binding.{Binding}
use Rattle.c_meaning.specs.Store.{State, Environment, write_element, forget}
use Rattle.c_meaning.specs.Steps as c
use Rattle.c_meaning.specs.Expression.{Calls}
use Rattle.c_meaning.specs.Statement as cs
use Rattle.c_meaning.specs.Statement.{items_of, rows_of, zeros}
use Rattle.pieces.specs.Resolved.Core.{CoreTree, CoreObjectTree}
use Rattle.hls_base.specs.Steps as r
use Rattle.c_meaning.specs.CoreRuns.Cells.{Spot, Cells, Here}
use Rattle.c_meaning.specs.CoreRuns.Expressions as ke
use Rattle.c_meaning.specs.CoreRuns.Expressions.{CoreCalls}
use Rattle.c_meaning.specs.CoreRuns.Statements as ks
use Rattle.c_elaborate.specs.declared.names.Binding.{Binding as Resolution}
use Rattle.c_elaborate.specs.Expressions.{kind_of, elaborated}
use Rattle.c_elaborate.specs.Statements.{init_elaborated}
use Rattle.c_elaborate.specs.Programs.{signatures}
use Rattle.c_elaborate.specs.Same.{Same, Equal}
use Rattle.c_elaborate.specs.Homes.{Home, home, Alike, placed, Named, Stands}
use Rattle.c_elaborate.specs.Resolved.{InitResolved, RowsResolved, IsInitResolved}
use Rattle.c_elaborate.proofs.ElaborateRuns.Sames.{goes_equal, then_equal, then_valued, then_then, then_each}
use Rattle.c_elaborate.proofs.ElaborateRuns.Homes.{write_alike, forget_alike}
use Rattle.c_elaborate.proofs.ElaborateRuns.Expressions.{CallsSame, ResultsSame, kind_here, expression_same}

-- ---- so many elements

replicated : {A : Type 0} (n : ℕ) (x : A) → length (replicate n x) ≡ n
replicated zero x = refl
replicated (suc n) x = ap suc (replicated n x)

pub appended : {A : Type 0} (xs ys : List A) → length (xs ++ ys) ≡ length xs + length ys
appended [] ys = omega arith
appended (x ∷ xs) ys = omega (arith, appended xs ys)

less_one : (n : ℕ) → suc n - 1 ≡ n
less_one n = omega arith

mutual
  pub count_items : (items : List ItemTree) (names : List Resolution) (lengths : List ℕ) (init : InitTree) → InitResolved items names lengths init → length (items_of lengths init) ≡ element_count lengths
  count_items items names [] (tree.single v) h = refl
  count_items items names [] (tree.braced inits at) h = absurd h
  count_items items names (len ∷ lengths) (tree.single v) h = absurd h
  count_items items names (len ∷ lengths) (tree.braced inits at) h = count_rows items names len lengths inits h

  count_rows : (items : List ItemTree) (names : List Resolution) (rows : ℕ) (lengths : List ℕ) (inits : InitTrees) → RowsResolved items names rows lengths inits → length (rows_of rows lengths inits) ≡ rows * element_count lengths
  count_rows items names rows lengths tree.no_init h = replicated (rows * element_count lengths) None
  count_rows items names zero lengths (tree.more_inits first rest) h = absurd h
  count_rows items names (suc rows) lengths (tree.more_inits first rest) h =
      appended (items_of lengths first) (rows_of (suc rows - 1) lengths rest)
      ∙ (ap₂ ◌+◌ (count_items items names lengths first h.0) (ap (λ n. length (rows_of n lengths rest)) (less_one rows) ∙ count_rows items names rows lengths rest h.1)
      ∙ (let e : element_count lengths + rows * element_count lengths ≡ suc rows * element_count lengths = omega (arith, suc-mul rows (element_count lengths)) in e))

-- elements that are written in two parts
initialise_append : (c2 : CoreCalls) (x : Spot) (kind : CType) (here : Here) (xs ys : List (Option CoreTree)) (element : ℕ) (u : Cells) (n : ℕ)
    → ks.initialise c2 x kind (xs ++ ys) element here u n ≡ r.then_ (ks.initialise c2 x kind xs element here u n) (λ v u1 n1. ks.initialise c2 x kind ys (element + length xs) here u1 n1)
initialise_append c2 x kind here [] ys element u n = ap (λ m. ks.initialise c2 x kind ys m here u n) (let e : element ≡ element + 0 = omega arith in e)
initialise_append c2 x kind here (None ∷ xs) ys element u n =
    initialise_append c2 x kind here xs ys (element + 1) (ke.written x element (pos 0) u) n
    ∙ ap (λ m. r.then_ (ks.initialise c2 x kind xs (element + 1) here (ke.written x element (pos 0) u) n) (λ v u1 n1. ks.initialise c2 x kind ys m here u1 n1)) (let e : element + 1 + length xs ≡ element + suc (length xs) = omega arith in e)
initialise_append c2 x kind here (Some v ∷ xs) ys element u n =
    then_each (ke.expression c2 true v here u n) _ _ (λ y u1 n1.
    initialise_append c2 x kind here xs ys (element + 1) (ke.written x element (convert kind y) u1) n1
    ∙ ap (λ m. r.then_ (ks.initialise c2 x kind xs (element + 1) here (ke.written x element (convert kind y) u1) n1) (λ v u2 n2. ks.initialise c2 x kind ys m here u2 n2)) (let e : element + 1 + length xs ≡ element + suc (length xs) = omega arith in e))
    ∙ sym (then_then (ke.expression c2 true v here u n) (λ y u1 n1. ks.initialise c2 x kind xs (element + 1) here (ke.written x element (convert kind y) u1) n1) (λ w u1 n1. ks.initialise c2 x kind ys (element + suc (length xs)) here u1 n1))

module _ (items : List ItemTree) (file : List Binding) (file_names : List Resolution) (c1 : Calls) (c2 : CoreCalls) (calls : CallsSame items file file_names c1 c2) (results : ResultsSame items c1)
    (frame free : ℕ) (spots : ℕ → Spot) (objects : List CoreObjectTree) (homes : List Home) (stands : Stands file file_names homes frame free) (env : Environment) (names : List Resolution)
    (named : Named homes (placed frame spots objects env) env.file env.names names)
    (i : ℕ) (x : Spot) (kind : CType) (whole : List ℕ) (is_at : slice_get homes i ≡ Some (home x kind whole)) where
  abbrev items_elaborated : List (Option Tree) → List (Option CoreTree)
  items_elaborated = map (option_map (elaborated (signatures items) names))

  zeros_same : (n element : ℕ) (s : State) (u : Cells) → Alike homes s.objects u
      → Same (Equal (Alike homes)) (c.goes tt (zeros n i element s)) (ks.initialise c2 x kind (items_elaborated (replicate n None)) element (placed frame spots objects env) u s.left)
  zeros_same zero element s u h = goes_equal (Alike homes) tt s u h
  zeros_same (suc n) element s u h =
      zeros_same n (element + 1) (write_element s i element (pos 0)) (ke.written x element (pos 0) u) (write_alike homes s u i (home x kind whole) element (pos 0) stands.distinct is_at h)

  one_same : (v : Tree) (element : ℕ) (s : State) (u : Cells) → InitResolved items names [] (tree.single v) → Alike homes s.objects u
      → Same (Equal (Alike homes)) (cs.initialise c1 i [] (tree.single v) element env s) (ks.initialise c2 x kind (items_elaborated (items_of [] (tree.single v))) element (placed frame spots objects env) u s.left)
  one_same v element s u known h =
      then_valued (Alike homes) (kind_of (elaborated (signatures items) names v)) (Equal (Alike homes)) _ _ _ _
      (expression_same items file file_names c1 c2 calls results frame free spots objects homes stands env names named true v s u known h) (λ y s1 u1 h1.
      subst (λ z. Same (Equal (Alike homes)) (c.goes tt (write_element s1 i element (convert z y))) (r.goes tt (ke.written x element (convert kind y) u1) s1.left))
      (sym (kind_here homes stands.distinct i x kind whole is_at s1 u1 h1))
      (goes_equal (Alike homes) tt (write_element s1 i element (convert kind y)) (ke.written x element (convert kind y) u1) (write_alike homes s1 u1 i (home x kind whole) element (convert kind y) stands.distinct is_at h1)))

  -- the first row, and those behind it
  more_rows : (xs ys : List (Option Tree)) (element count : ℕ) (q : c.Ran (Unit {0})) (rest : State → c.Ran (Unit {0})) (u : Cells) (n : ℕ) → length xs ≡ count
      → Same (Equal (Alike homes)) q (ks.initialise c2 x kind (items_elaborated xs) element (placed frame spots objects env) u n)
      → ((s1 : State) (u1 : Cells) → Alike homes s1.objects u1 → Same (Equal (Alike homes)) (rest s1) (ks.initialise c2 x kind (items_elaborated ys) (element + count) (placed frame spots objects env) u1 s1.left))
      → Same (Equal (Alike homes)) (c.then_ q (λ v s1. rest s1)) (ks.initialise c2 x kind (items_elaborated (xs ++ ys)) element (placed frame spots objects env) u n)
  more_rows xs ys element count q rest u n is_count first next =
      let here = placed frame spots objects env in
      subst (λ l. Same (Equal (Alike homes)) (c.then_ q (λ v s1. rest s1)) (ks.initialise c2 x kind l element here u n)) (sym (map-append (option_map (elaborated (signatures items) names)) xs ys))
      (subst (λ z. Same (Equal (Alike homes)) (c.then_ q (λ v s1. rest s1)) z) (sym (initialise_append c2 x kind here (items_elaborated xs) (items_elaborated ys) element u n))
      (subst (λ m. Same (Equal (Alike homes)) (c.then_ q (λ v s1. rest s1)) (r.then_ (ks.initialise c2 x kind (items_elaborated xs) element here u n) (λ v u1 n1. ks.initialise c2 x kind (items_elaborated ys) (element + m) here u1 n1)))
      (sym (length-map xs (option_map (elaborated (signatures items) names)) ∙ is_count))
      (then_equal (Alike homes) (Equal (Alike homes)) _ _ _ _ first (λ v s1 u1 h1. next s1 u1 h1))))

  mutual
    initialise_same : (lengths : List ℕ) (init : InitTree) (element : ℕ) (s : State) (u : Cells) → InitResolved items names lengths init → Alike homes s.objects u
        → Same (Equal (Alike homes)) (cs.initialise c1 i lengths init element env s) (ks.initialise c2 x kind (items_elaborated (items_of lengths init)) element (placed frame spots objects env) u s.left)
    initialise_same [] (tree.single v) element s u known h = one_same v element s u known h
    initialise_same [] (tree.braced inits at) element s u known h = absurd known
    initialise_same (len ∷ lengths) (tree.single v) element s u known h = absurd known
    initialise_same (len ∷ lengths) (tree.braced inits at) element s u known h = rows_same len lengths inits element s u known h

    rows_same : (rows : ℕ) (lengths : List ℕ) (inits : InitTrees) (element : ℕ) (s : State) (u : Cells) → RowsResolved items names rows lengths inits → Alike homes s.objects u
        → Same (Equal (Alike homes)) (cs.initialise_rows c1 i rows lengths inits element env s) (ks.initialise c2 x kind (items_elaborated (rows_of rows lengths inits)) element (placed frame spots objects env) u s.left)
    rows_same rows lengths tree.no_init element s u known h = zeros_same (rows * element_count lengths) element s u h
    rows_same zero lengths (tree.more_inits first rest) element s u known h = absurd known
    rows_same (suc rows) lengths (tree.more_inits first rest) element s u known h =
        subst (λ m. Same (Equal (Alike homes)) (cs.initialise_rows c1 i (suc rows) lengths (tree.more_inits first rest) element env s)
        (ks.initialise c2 x kind (items_elaborated (items_of lengths first ++ rows_of m lengths rest)) element (placed frame spots objects env) u s.left)) (sym (less_one rows))
        (more_rows (items_of lengths first) (rows_of rows lengths rest) element (element_count lengths) _ _ u s.left (count_items items names lengths first known.0)
        (initialise_same lengths first element s u known.0 h)
        (λ s1 u1 h1. rows_same rows lengths rest (element + element_count lengths) s1 u1 known.1 h1))

  pub declare_same : (lengths : List ℕ) (init : Option InitTree) (s : State) (u : Cells) → IsInitResolved items names lengths init → Alike homes s.objects u
      → Same (Equal (Alike homes)) (cs.declare_object c1 i lengths init env s) (ks.declare c2 x kind (init_elaborated (signatures items) names lengths init) (placed frame spots objects env) u s.left)
  declare_same lengths None s u known h =
      goes_equal (Alike homes) tt (forget s i) _ (forget_alike homes s u i (home x kind whole) stands.distinct is_at h)
  declare_same [] (Some (tree.single v)) s u known h = one_same v 0 s u known h
  declare_same [] (Some (tree.braced inits at)) s u known h = absurd known
  declare_same (len ∷ lengths) (Some (tree.single v)) s u known h = absurd known
  declare_same (len ∷ lengths) (Some (tree.braced inits at)) s u known h = initialise_same (len ∷ lengths) (tree.braced inits at) 0 s u known h
