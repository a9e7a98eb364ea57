-- File scope of programs without faults: what its names stand for, and what its objects hold at first.
use Rattle.std.proofs.Common.{◌≡◌, ℕ, zero, suc, ◌+◌, ◌<◌, ◌==◌, not, ◌∙◌, sym, refl, ap, subst, Bool, true, false, is_some, bytes_eq, List, [], ◌∷◌, ◌++◌, map, length, option_map, slice_get, append_assoc, Option, Some, None, arith, if◌then◌else◌}
use Rattle.std.proofs.lemmas.Option.{none-some, same_Some, slice_get-map}
use Rattle.std.proofs.lemmas.List.{length-map, length-replicate}
use Rattle.std.proofs.lemmas.Nat.{pow_pos}
use Rattle.hls_base.specs.ArrayAddress.{element_count}
use Rattle.c_token.specs.declared.ctype.CType.{CType}
use Rattle.c_tree.specs.Tree as tree
use Rattle.c_tree.specs.Tree.{ObjectTree, InitTree, FunctionTree, ItemTree}
use Rattle.c_value.specs.Values.{width}
use Rattle.c_meaning.specs.Checks.Faults.{fault_if}
use Rattle.c_meaning.specs.Checks.Names.{Shape, object, function, Declared, sense_of, is_declared_since}
use Rattle.c_meaning.specs.Checks.Lengths.{lengths_of, usable, has_bad_shape, shape_of, form_faults}
use Rattle.c_meaning.specs.Checks.Calls.{param_shapes, with_function, declaration_faults}
use Rattle.c_meaning.specs.Checks.Limits.{file_objects}
use Rattle.c_meaning.specs.Checks.Expressions.{lengths_faults, optional_init_faults}
use Rattle.c_meaning.specs.Checks.Statements.{with_object, with_objects, object_faults, objects_faults, function_faults}
use Rattle.c_meaning.specs.Checks.Programs.{body_names, with_body, items_faults}
use Rattle.c_meaning.specs.Store.{lengths_in}
use Rattle.c_meaning.specs.Run.{constant_item, file_items, first_object, element_pattern, patterns}
use Rattle.pieces.specs.declared.resolved.expression.Cell.{Cell}
use Rattle.pieces.specs.declared.resolved.expression.Scope.TheVariants as scope
use Rattle.pieces.specs.Resolved.Core.{FileObjectTree}
use Rattle.c_elaborate.specs.declared.names.Known.{Known}
use Rattle.c_elaborate.specs.declared.names.Binding.{Binding}
use Rattle.c_elaborate.specs.Names.{object_found, binding_of, cell_of}
use Rattle.c_elaborate.specs.Objects.{object_elaborated}
use Rattle.c_elaborate.specs.Programs.{file_object, file_names}
use Rattle.c_elaborate.specs.Homes.{Each}
use Rattle.c_elaborate.specs.Resolved.{HasLengths, IsInitResolved}
use Rattle.c_elaborate.proofs.ElaborateRuns.Lists.{each-append, each-get, get-behind, last-length}
use Rattle.c_elaborate.proofs.ElaborateRuns.Sizes.{left_nil, right_nil, sized, shaped}
use Rattle.c_elaborate.proofs.ElaborateRuns.Faultless.{init_resolved}
use Rattle.c_elaborate.proofs.ElaborateRuns.FaultlessStatements.{form_of}
use Rattle.c_elaborate.proofs.ElaborateRuns.FaultlessPrograms.{names_all, Keeps, keeps_both, keeps_objects, keeps_items, final, resolutions, knows_before}
use Rattle.c_elaborate.proofs.ElaborateRuns.Initialisers.{count_items}
use Rattle.c_meaning.proofs.Ranges.{pattern_below}
use Rattle.expand_runs.specs.Laws.{OneOf, AreWords, FillsObject}
use Rattle.expanded_programs.specs.Statements.Scopes.{Setting, Reach, ScalarIn, ArrayIn}
use Rattle.expanded_programs.proofs.ElaboratedPrograms.Naming.{Stands, MayChange, Standing, Changeable, Apart, apart_new, object_shapes, is_scalar, is_array}

-- ---- names

-- the objects from this number on are these
abbrev pub AreFrom : List ObjectTree → ℕ → List ObjectTree → Type 0
AreFrom all n [] = Unit {0}
AreFrom all n (o ∷ os) = (slice_get all n ≡ Some o) × AreFrom all (n + 1) os

are_from : (before os : List ObjectTree) → AreFrom (before ++ os) (length before) os
are_from before [] = tt
are_from before (o ∷ os) = (
  ap (slice_get (before ++ o ∷ os)) (let e : length before ≡ length before + 0 = omega arith in e) ∙ get-behind before (o ∷ os) 0,
  subst (λ n. AreFrom (before ++ o ∷ os) n os) (last-length before o) (subst (λ l. AreFrom l (length (before ++ o ∷ [])) os) (append_assoc before (o ∷ []) os) (are_from (before ++ o ∷ []) os)),
)

from_front : (all : List ObjectTree) (n : ℕ) (xs ys : List ObjectTree) → AreFrom all n (xs ++ ys) → AreFrom all n xs
from_front all n [] ys h = tt
from_front all n (x ∷ xs) ys h = (h.0, from_front all (n + 1) xs ys h.1)

from_back : (all : List ObjectTree) (n : ℕ) (xs ys : List ObjectTree) → AreFrom all n (xs ++ ys) → AreFrom all (n + length xs) ys
from_back all n [] ys h = subst (λ k. AreFrom all k ys) (let e : n ≡ n + 0 = omega arith in e) h
from_back all n (x ∷ xs) ys h = subst (λ k. AreFrom all k ys) (let e : n + 1 + length xs ≡ n + suc (length xs) = omega arith in e) (from_back all (n + 1) xs ys h.1)

abbrev file_known : ObjectTree → ℕ → Known
file_known o i = (binding_of o (cell_of scope.File i)).object

-- an object of these with a number below this one
abbrev IsFile : List ObjectTree → ℕ → Known → Type 0
IsFile all n known = (i : ℕ) × (o : ObjectTree) × (i < n) × (slice_get all i ≡ Some o) × (known ≡ file_known o i)

pub record FileNames (all : List ObjectTree) (n : ℕ) (rs : List Binding) : Type 0 where
  pub objects : (text : List ℕ) (known : Known) → object_found text rs ≡ Some known → IsFile all n known
  pub apart : Apart rs

one_name : (all : List ObjectTree) (n : ℕ) (rs : List Binding) (o : ObjectTree) → slice_get all n ≡ Some o → FileNames all n rs → FileNames all (n + 1) (binding_of o (cell_of scope.File n) ∷ rs)
one_name all n rs o at h = record {
  objects = λ text known. by text known (bytes_eq text o.name);
  apart = apart_new rs (binding_of o (cell_of scope.File n)) (λ text known e c.
      let f = h.objects text known e in
      let same : f.0 ≡ n = ap (λ (k : Known). k.cell.number) (sym f.4) ∙ ap (λ (x : Cell). x.number) c in
      let lt = f.2 in
      absurd (omega (arith, lt, same))) h.apart;
}
  where
    by : (text : List ℕ) (known : Known) (y : Bool) → (if y then Some (file_known o n) else object_found text rs) ≡ Some known → IsFile all (n + 1) known
    by text known true e = (n, o, omega arith, at, sym (same_Some (file_known o n) known e))
    by text known false e = let f = h.objects text known e in (f.0, f.1, (let lt = f.2 in omega (arith, lt)), f.3, f.4)

pub file_named : (all os : List ObjectTree) (n : ℕ) (rs : List Binding) → AreFrom all n os → FileNames all n rs → FileNames all (n + length os) (file_names n rs os)
file_named all [] n rs from h = subst (λ k. FileNames all k rs) (let e : n ≡ n + 0 = omega arith in e) h
file_named all (o ∷ os) n rs from h =
    subst (λ k. FileNames all k (file_names (n + 1) (binding_of o (cell_of scope.File n) ∷ rs) os)) (let e : n + 1 + length os ≡ n + suc (length os) = omega arith in e)
    (file_named all os (n + 1) (binding_of o (cell_of scope.File n) ∷ rs) from.1 (one_name all n rs o from.0 h))

pub all_named : (items : List ItemTree) → FileNames (file_objects items) (length (file_objects items)) (file_names 0 [] (file_objects items))
all_named items =
    let os = file_objects items in
    subst (λ k. FileNames os k (file_names 0 [] os)) (let e : 0 + length os ≡ length os = omega arith in e)
    (file_named os os 0 [] (are_from [] os) (record { objects = λ text known e. absurd (none-some known e); apart = λ text other known second e f c. absurd (none-some known e) }))

-- ---- what they stand for

stands_there : (S : Setting) (r : Reach) (o : ObjectTree) (i : ℕ) → HasLengths o → slice_get S.file i ≡ Some (file_object o) → Stands S r (file_known o i)
stands_there S r o i has at = by (length o.lengths == 0) refl
  where
    by : (y : Bool) → length o.lengths == 0 ≡ y → OneOf (not y) (ArrayIn S r scope.File i o.kind) (ScalarIn S r scope.File i o.kind)
    by true e = (file_object o, at, is_scalar o has e, refl)
    by false e = (file_object o, at, is_array o has e, refl)

module _ (S : Setting) (all : List ObjectTree) (same : S.file ≡ map file_object all) where
  object_there : (i : ℕ) (o : ObjectTree) → slice_get all i ≡ Some o → slice_get S.file i ≡ Some (file_object o)
  object_there i o at = ap (λ l. slice_get l i) same ∙ (slice_get-map file_object all i ∙ ap (option_map file_object) at)

  pub file_standing : (r : Reach) (n : ℕ) (rs : List Binding) → Each HasLengths all → FileNames all n rs → Standing S r rs
  file_standing r n rs has h text known e =
      let f = h.objects text known e in
      subst (Stands S r) (sym f.4) (stands_there S r f.1 f.0 (each-get HasLengths all f.0 f.1 has f.3) (object_there f.0 f.1 f.3))

-- ---- const objects

-- What a name that stands for an object says of it being const is so.
abbrev SameConstants : List ObjectTree → List Declared → List Binding → Type 0
SameConstants all names rs =
    (text : List ℕ) (shape : Shape) (known : Known) (o : ObjectTree) → sense_of text names ≡ Some (object shape) → object_found text rs ≡ Some known → slice_get all known.cell.number ≡ Some o → o.constant ≡ shape.constant

constant_object : (all : List ObjectTree) (names : List Declared) (rs : List Binding) (d : ObjectTree) (n : ℕ) → slice_get all n ≡ Some d → SameConstants all names rs → SameConstants all (with_object d names) (binding_of d (cell_of scope.File n) ∷ rs)
constant_object all names rs d n at h text shape known o = by (bytes_eq text d.name)
  where
    by : (y : Bool) → (if y then Some (object (shape_of d)) else sense_of text names) ≡ Some (object shape) → (if y then Some (file_known d n) else object_found text rs) ≡ Some known → slice_get all known.cell.number ≡ Some o → o.constant ≡ shape.constant
    by true e f g =
        let same : n ≡ known.cell.number = ap (λ (k : Known). k.cell.number) (same_Some (file_known d n) known f) in
        let is : d ≡ o = same_Some d o (sym at ∙ (ap (slice_get all) same ∙ g)) in
        ap (λ (x : ObjectTree). x.constant) (sym is) ∙ ap (λ (s : Shape). s.constant) (object_shapes (shape_of d) shape e)
    by false e f g = h text shape known o e f g

constant_objects : (all os : List ObjectTree) (names : List Declared) (rs : List Binding) (n : ℕ) → AreFrom all n os → SameConstants all names rs → SameConstants all (with_objects os names) (file_names n rs os)
constant_objects all [] names rs n from h = h
constant_objects all (o ∷ os) names rs n from h = constant_objects all os (with_object o names) (binding_of o (cell_of scope.File n) ∷ rs) (n + 1) from.1 (constant_object all names rs o n from.0 h)

constant_function : (all : List ObjectTree) (f : FunctionTree) (names : List Declared) (rs : List Binding) (y : Bool) → SameConstants all names rs
    → SameConstants all (if y then names else record { name = f.name; sense = function f.result (param_shapes f.params) } ∷ names) rs
constant_function all f names rs true h = h
constant_function all f names rs false h = λ text shape known o. by text shape known o (bytes_eq text f.name)
  where
    by : (text : List ℕ) (shape : Shape) (known : Known) (o : ObjectTree) (y : Bool) → (if y then Some (function f.result (param_shapes f.params)) else sense_of text names) ≡ Some (object shape) → object_found text rs ≡ Some known
        → slice_get all known.cell.number ≡ Some o → o.constant ≡ shape.constant
    by text shape known o true e g at = absurd cc
    by text shape known o false e g at = h text shape known o e g at

files_split : (os more : List ObjectTree) (n : ℕ) (rs : List Binding) → file_names n rs (os ++ more) ≡ file_names (n + length os) (file_names n rs os) more
files_split [] more n rs = ap (λ k. file_names k rs more) (let e : n ≡ n + 0 = omega arith in e)
files_split (o ∷ os) more n rs =
    files_split os more (n + 1) (binding_of o (cell_of scope.File n) ∷ rs)
    ∙ ap (λ k. file_names k (file_names (n + 1) (binding_of o (cell_of scope.File n) ∷ rs) os) more) (let e : n + 1 + length os ≡ n + suc (length os) = omega arith in e)

constant_items : (all : List ObjectTree) (items : List ItemTree) (names : List Declared) (rs : List Binding) (n : ℕ) → AreFrom all n (file_objects items) → SameConstants all names rs → SameConstants all (names_all names items) (file_names n rs (file_objects items))
constant_items all [] names rs n from h = h
constant_items all (tree.objects os ∷ items) names rs n from h =
    subst (SameConstants all (names_all (with_objects os names) items)) (sym (files_split os (file_objects items) n rs))
    (constant_items all items (with_objects os names) (file_names n rs os) (n + length os) (from_back all n os (file_objects items) from) (constant_objects all os names rs n (from_front all n os (file_objects items) from) h))
constant_items all (tree.function f ∷ items) names rs n from h =
    constant_items all items (with_function f names) rs n from (constant_function all f names rs (is_some (sense_of f.name names)) h)

module _ (S : Setting) (items : List ItemTree) (h : items_faults (body_names items) [] [] items ≡ []) (same : S.file ≡ map file_object (file_objects items)) where
  may_change : (o : ObjectTree) (i : ℕ) → slice_get (file_objects items) i ≡ Some o → o.constant ≡ false → MayChange S scope.File i
  may_change o i at const_ q e =
      let is : file_object o ≡ q = same_Some (file_object o) q (sym (object_there S (file_objects items) same i o at) ∙ e) in
      subst (λ (z : FileObjectTree). z.object.constant ≡ false) is const_

  -- also of names that are visible before the end
  pub file_changeable : (names : List Declared) → Keeps names (final items h) → Changeable S names (resolutions items h)
  file_changeable names keeps text shape known e const_ g =
      let all = file_objects items in
      let f = (all_named items).objects text known g in
      let number : f.0 ≡ known.cell.number = ap (λ (k : Known). k.cell.number) (sym f.4) in
      let is = constant_items all items [] [] 0 (are_from [] all) (λ text shape known o e g at. absurd (none-some known g)) text shape known f.1 (keeps text (object shape) e) g (subst (λ i. slice_get all i ≡ Some f.1) number f.3) in
      subst (λ (k : Known). MayChange S k.cell.scope k.cell.number) (sym f.4) (may_change f.1 f.0 f.3 (is ∙ const_))

-- ---- what objects hold at first

element_words : (k : CType) (xs : _) → AreWords k (map (element_pattern k) xs)
element_words k [] = tt
element_words k (None ∷ xs) = (pow_pos (width k), element_words k xs)
element_words k (Some n ∷ xs) = (pattern_below k n, element_words k xs)

-- The first contents fill the object.
abbrev pub IsFilled : ObjectTree → Type 0
IsFilled o = FillsObject (object_elaborated o) (patterns (first_object o))

items_filled : (items : List ItemTree) (rs : List Binding) (ns : List ℕ) (q : Option InitTree) → IsInitResolved items rs ns q → length (file_items ns q) ≡ element_count ns
items_filled items rs ns None known = length-replicate (element_count ns) None
items_filled items rs ns (Some init) known = count_items items rs ns init known

filled : (items : List ItemTree) (rs : List Binding) (o : ObjectTree) → IsInitResolved items rs (lengths_in o) o.init → IsFilled o
filled items rs o known =
    let given = file_items (lengths_in o) o.init in
    (length-map (map (constant_item o.kind) given) (element_pattern o.kind) ∙ (length-map given (constant_item o.kind) ∙ items_filled items rs (lengths_in o) o.init known), element_words o.kind (map (constant_item o.kind) given))

module _ (items : List ItemTree) (h : items_faults (body_names items) [] [] items ≡ []) where
  abbrev bodies : List (List ℕ)
  bodies = body_names items

  initialised : (o : ObjectTree) (q : Option InitTree) (names : List Declared) → Keeps names (final items h) → map usable (lengths_of o) ≡ map (λ (n : ℕ). Some n) (lengths_in o) → has_bad_shape (map usable (lengths_of o)) q ≡ false → optional_init_faults bodies names q ≡ []
      → IsInitResolved items (resolutions items h) (lengths_in o) q
  initialised o None names keeps are shape g = tt
  initialised o (Some init) names keeps are shape g = init_resolved items bodies names (resolutions items h) (knows_before items h names keeps) (lengths_in o) init (subst (λ l. has_bad_shape l (Some init) ≡ false) are shape) g

  objects_filled : (os : List ObjectTree) (names : List Declared) → objects_faults bodies true 0 names os ≡ [] → Keeps (with_objects os names) (final items h) → Each IsFilled os
  objects_filled [] names g keeps = tt
  objects_filled (o ∷ os) names g keeps =
      let a = object_faults bodies true 0 names o in
      let b = objects_faults bodies true 0 (with_object o names) os in
      let rest = right_nil a b g in
      let one = left_nil a b g in
      let form = form_of items bodies true 0 names o one in
      let d = fault_if (is_declared_since 0 o.name names) 8 o.at in
      let f = form_faults true o in
      let l = lengths_faults bodies names o.lengths in
      let i = optional_init_faults bodies (with_object o names) o.init in
      let inits = right_nil l i (right_nil f (l ++ i) (right_nil d (f ++ (l ++ i)) one)) in
      let keeps1 : Keeps (with_object o names) (final items h) = keeps_both (with_object o names) (with_objects os (with_object o names)) (final items h) (keeps_objects bodies os (with_object o names) rest) keeps in (
        filled items (resolutions items h) o (initialised o o.init (with_object o names) keeps1 (sized true o form).are (shaped true o form) inits),
        objects_filled os (with_object o names) rest keeps,
      )

  files_filled : (sub : List ItemTree) (before : List (List ℕ)) (names : List Declared) → items_faults bodies before names sub ≡ [] → names_all names sub ≡ final items h → Each IsFilled (file_objects sub)
  files_filled [] before names g is = tt
  files_filled (tree.objects os ∷ sub) before names g is =
      let a = objects_faults bodies true 0 names os in
      let b = items_faults bodies before (with_objects os names) sub in
      let keeps = subst (λ l. Keeps (with_objects os names) l) is (keeps_items bodies before sub (with_objects os names) (right_nil a b g)) in
      each-append IsFilled os (file_objects sub) (objects_filled os names (left_nil a b g) keeps) (files_filled sub before (with_objects os names) (right_nil a b g) is)
  files_filled (tree.function f ∷ sub) before names g is =
      let a = declaration_faults before names f ++ function_faults bodies (with_function f names) f in
      let b = items_faults bodies (with_body (tree.function f) before) (with_function f names) sub in
      files_filled sub (with_body (tree.function f) before) (with_function f names) (right_nil a b g) is

  pub all_filled : Each IsFilled (file_objects items)
  all_filled = files_filled items [] [] h refl

object_filled : (os : List ObjectTree) (i : ℕ) (q : FileObjectTree) → Each IsFilled os → slice_get (map file_object os) i ≡ Some q → FillsObject q.object q.first
object_filled [] i q h e = absurd (none-some q e)
object_filled (o ∷ os) zero q h e = subst (λ (z : FileObjectTree). FillsObject z.object z.first) (same_Some (file_object o) q e) h.0
object_filled (o ∷ os) (suc i) q h e = object_filled os i q h.1 e

pub constants_filled : (items : List ItemTree) → items_faults (body_names items) [] [] items ≡ [] → (i : ℕ) (q : FileObjectTree) → slice_get (map file_object (file_objects items)) i ≡ Some q → FillsObject q.object q.first
constants_filled items h i q e = object_filled (file_objects items) i q (all_filled items h) e
