-- File scope and the inputs of a run.
use Rattle.std.proofs.Common.{◌≡◌, ℕ, suc, ◌+◌, ◌≤◌, ◌==◌, not, ◌∙◌, sym, refl, ap, ap₂, subst, inl, inr, Bool, true, false, true≢false, if◌then◌else◌, pos, List, [], ◌∷◌, ◌++◌, map, take, drop, length, Option, Some, None, slice_get, append_assoc, append-nil, le_refl, ne_eqb, arith}
use Rattle.std.proofs.lemmas.Int.{ints}
use Rattle.std.proofs.lemmas.List.{length-map}
use Rattle.hls_base.specs.FileScope.{FileScope}
use Rattle.c_token.specs.declared.ctype.CType.{CType}
use Rattle.c_token.specs.declared.ctype.CType.TheVariants as t
use Rattle.c_tree.specs.Tree as tree
use Rattle.c_tree.specs.Tree.{Tree, ObjectTree, ParamTree, ItemTree}
use Rattle.c_value.specs.Values.{integer, pattern, number_of}
use Rattle.c_value.specs.Constant.{constant_number}
use Rattle.c_meaning.specs.Checks.Limits.{file_objects}
use Rattle.c_meaning.specs.declared.names.Binding.{Binding}
use Rattle.c_meaning.specs.declared.value.Argument.{Argument}
use Rattle.c_meaning.specs.declared.value.Argument.TheVariants as argument
use Rattle.c_meaning.specs.ValueLaws.{IsCongruent}
use Rattle.c_meaning.specs.Store.{Object, lengths_in, find_name}
use Rattle.c_meaning.specs.Names.{begun}
use Rattle.c_meaning.specs.Run as run
use Rattle.c_meaning.specs.Run.{constant_item, element_pattern, patterns, first_object, filled, kept_rest, head_or_none, is_array_parameter, word_of, or_zero, with_contents}
use Rattle.c_meaning.proofs.Conversions.{conversions_are_congruent}
use Rattle.pieces.specs.Resolved.Core.{CoreObjectTree}
use Rattle.pieces.specs.declared.resolved.expression.Scope.TheVariants as scope
use Rattle.c_meaning.specs.CoreRuns.Cells.{Spot, spot, Cells, put, Given, number_given, array_given, Here}
use Rattle.c_meaning.specs.CoreRuns.Runs as core
use Rattle.c_elaborate.specs.declared.names.Binding.{Binding as Resolution}
use Rattle.c_elaborate.specs.Names.{object_found, binding_of, cell_of}
use Rattle.c_elaborate.specs.Objects.{object_elaborated}
use Rattle.c_elaborate.specs.Programs.{file_object, file_names, objects_of_params}
use Rattle.c_elaborate.specs.Homes.{Each, Home, home, held, Alike, IsElsewhere, IsDistinct, IsBelow, placed, found_in, Finds, Named, Stands, Has, new_homes, Awaits, AreGiven}
use Rattle.c_elaborate.specs.Resolved.{HasLengths, ItemResolved, file_scene_of}
use Rattle.c_elaborate.proofs.ElaborateRuns.Lists.{last-length, each-append, each-more, get-behind}
use Rattle.c_elaborate.proofs.ElaborateRuns.Naming.{named_one}
use Rattle.c_elaborate.proofs.ElaborateRuns.Lifetimes.{apart, distinct-more, one_alike, block_begun, block_awaits}
use Rattle.c_elaborate.proofs.ElaborateRuns.Labels.{converted_back}
use Rattle.c_elaborate.proofs.ElaborateRuns.Parameters.{AreFree}
use Rattle.c_elaborate.proofs.ElaborateRuns.Functions.{has_body}

-- ---- the contents of file scope

zero_back : (kind : CType) → number_of kind (pattern kind (pos 0)) ≡ pos 0
zero_back t.Bool = refl
zero_back (t.Int false bits) =
    let same : IsCongruent (integer false bits) (pos 0) (pos 0) = record { before = 0; behind = 0; same = refl } in
    sym ((conversions_are_congruent false bits (pos 0)).only (pos 0) (omega (arith, ints), omega (arith, ints)) same)
zero_back (t.Int true bits) =
    let same : IsCongruent (integer true bits) (pos 0) (pos 0) = record { before = 0; behind = 0; same = refl } in
    sym ((conversions_are_congruent true bits (pos 0)).only (pos 0) (omega (arith, ints), omega (arith, ints)) same)

item_back : (kind : CType) (x : Option Tree) → Some (number_of kind (element_pattern kind (constant_item kind x))) ≡ constant_item kind x
item_back kind None = ap (λ n. Some n) (zero_back kind)
item_back kind (Some v) = ap (λ n. Some n) (converted_back kind (or_zero (constant_number v)))

items_back : (kind : CType) (xs : List (Option Tree)) → map (λ word. Some (number_of kind word)) (map (element_pattern kind) (map (constant_item kind) xs)) ≡ map (constant_item kind) xs
items_back kind [] = refl
items_back kind (x ∷ xs) = ap₂ ◌∷◌ (item_back kind x) (items_back kind xs)

-- The patterns of a first object say what it holds.
first_back : (d : ObjectTree) → first_object d ≡ filled d.kind (lengths_in d) (patterns (first_object d))
first_back d = ap (λ l. record { kind = d.kind; lengths = lengths_in d; elements = l }) (sym (items_back d.kind (run.file_items (lengths_in d) d.init)))

file_one : (d : ObjectTree) (ds : List ObjectTree) (kept : FileScope) (k y : Bool) → ((k1 : FileScope) → run.file_store ds k1 ≡ core.file_store (map file_object ds) k1)
    → (if k then first_object d ∷ run.file_store ds kept else run.kept_object y d kept ∷ run.file_store ds (kept_rest y kept))
    ≡ (if k then filled d.kind (lengths_in d) (patterns (first_object d)) else if not y then filled d.kind (lengths_in d) (head_or_none kept.arrays) else filled d.kind [] (take 1 kept.scalars))
    ∷ core.file_store (map file_object ds) (if k then kept else kept_rest (not (not y)) kept)
file_one d ds kept true y others = ap₂ ◌∷◌ (first_back d) (others kept)
file_one d ds kept false true others = ap (λ l. run.kept_object true d kept ∷ l) (others (kept_rest true kept))
file_one d ds kept false false others = ap (λ l. run.kept_object false d kept ∷ l) (others (kept_rest false kept))

same_files : (ds : List ObjectTree) (kept : FileScope) → run.file_store ds kept ≡ core.file_store (map file_object ds) kept
same_files [] kept = refl
same_files (d ∷ ds) kept = file_one d ds kept d.constant (length (lengths_in d) == 0) (same_files ds)

-- ---- objects as they are declared

abbrev ShapedAs : List ObjectTree → List Object → Type 0
ShapedAs [] [] = Unit {0}
ShapedAs [] (o ∷ os) = ⊥
ShapedAs (d ∷ ds) [] = ⊥
ShapedAs (d ∷ ds) (o ∷ os) = ((o.kind ≡ d.kind) × (o.lengths ≡ lengths_in d)) × ShapedAs ds os

no_lengths : (lengths : List ℕ) → (length lengths == 0) ≡ true → [] ≡ lengths
no_lengths [] h = refl
no_lengths (n ∷ ns) h = absurd (true≢false (sym h ∙ ne_eqb (suc (length ns)) 0 (λ e. omega arith)))

shaped_one : (d : ObjectTree) (ds : List ObjectTree) (kept : FileScope) (k y : Bool) → (length (lengths_in d) == 0) ≡ y → ((k1 : FileScope) → ShapedAs ds (run.file_store ds k1))
    → ShapedAs (d ∷ ds) (if k then first_object d ∷ run.file_store ds kept else run.kept_object y d kept ∷ run.file_store ds (kept_rest y kept))
shaped_one d ds kept true y e others = ((refl, refl), others kept)
shaped_one d ds kept false true e others = ((refl, no_lengths (lengths_in d) e), others (kept_rest true kept))
shaped_one d ds kept false false e others = ((refl, refl), others (kept_rest false kept))

shaped_files : (ds : List ObjectTree) (kept : FileScope) → ShapedAs ds (run.file_store ds kept)
shaped_files [] kept = tt
shaped_files (d ∷ ds) kept = shaped_one d ds kept d.constant (length (lengths_in d) == 0) refl (shaped_files ds)

stored_alike : (ds : List ObjectTree) (before rest : List Object) → ShapedAs ds rest → Alike (new_homes 0 (length before) ds) rest (core.stored (before ++ rest))
stored_alike [] before [] h = (refl, tt)
stored_alike [] before (o ∷ os) h = absurd h
stored_alike (d ∷ ds) before [] h = absurd h
stored_alike (d ∷ ds) before (o ∷ os) h =
    let at : core.stored (before ++ o ∷ os) (spot 0 (length before)) ≡ o =
    ap core.object_or_none (ap (slice_get (before ++ o ∷ os)) (let e : length before ≡ length before + 0 = omega arith in e) ∙ get-behind before (o ∷ os) 0) in
    let rest : Alike (new_homes 0 (length before + 1) ds) os (core.stored (before ++ o ∷ os)) =
    subst (λ l. Alike (new_homes 0 (length before + 1) ds) os (core.stored l)) (append_assoc before (o ∷ []) os)
    (subst (λ n. Alike (new_homes 0 n ds) os (core.stored ((before ++ o ∷ []) ++ os))) (last-length before o) (stored_alike ds (before ++ o ∷ []) os h.1)) in
    (ap₂ ◌∷◌ (sym at) rest.0, ((ap (λ (p : Object). p.kind) at ∙ h.0.0, ap (λ (p : Object). p.lengths) at ∙ h.0.1), rest.1))

pub files_alike : (ds : List ObjectTree) (kept : FileScope) → Alike (new_homes 0 0 ds) (run.file_store ds kept) (core.stored (core.file_store (map file_object ds) kept))
files_alike ds kept = subst (λ l. Alike (new_homes 0 0 ds) (run.file_store ds kept) (core.stored l)) (same_files ds kept) (stored_alike ds [] (run.file_store ds kept) (shaped_files ds kept))

-- ---- the names of file scope

found_file : (o : Option ℕ) → found_in o None ≡ o
found_file None = refl
found_file (Some i) = refl

named_files : (os : List ObjectTree) (i : ℕ) (homes : List Home) (here there : Here) (done : List Binding) (names : List Resolution) → Each HasLengths os → ((j : ℕ) → there.spots j ≡ spot 0 j) → Awaits homes there i i os → Named homes here [] done names
    → Named homes here [] (done ++ run.bindings_from i os) (file_names i names os)
named_files [] i homes here there done names has own awaits named = subst (λ l. Named homes here [] l names) (sym (append-nil done)) named
named_files (o ∷ os) i homes here there done names has own awaits named =
    let b : Binding = record { name = o.name; object = i } in
    subst (λ l. Named homes here [] l (file_names (i + 1) (binding_of o (cell_of scope.File i) ∷ names) os)) (append_assoc done (b ∷ []) (run.bindings_from (i + 1) os))
    (named_files os (i + 1) homes here there (done ++ b ∷ []) (binding_of o (cell_of scope.File i) ∷ names) has.1 own awaits.2
    (named_one homes here [] done names o.name i (record { cell = cell_of scope.File i; kind = o.kind; is_array = not (length o.lengths == 0) })
    (record { lengths = lengths_in o; at = subst (λ z. slice_get homes i ≡ Some (home z o.kind (lengths_in o))) (own i) awaits.0; form = ap not (sym has.0) }) named))

as_file : (homes : List Home) (here : Here) (file : List Binding) (names : List Resolution) → Named homes here [] file names → Named homes here file [] names
as_file homes here file names h name = subst (λ o. Finds homes here o (object_found name names)) (found_file (find_name file name)) (h name)

-- where file scope stands
pub file_stands : (os : List ObjectTree) → Each HasLengths os → Stands (run.bindings_from 0 os) (file_names 0 [] os) (new_homes 0 0 os) 0 (length os)
file_stands os has =
    let there = placed 0 (spot 0) (map object_elaborated os) (begun [] [] None) in
    let none : Stands [] [] [] 0 0 = record { distinct = tt; below = tt; resolved = λ here name. tt } in
    let all : Has (map object_elaborated os) 0 os = has_body [] os in
    let b = block_begun [] [] there 0 (λ i le. refl) os [] 0 [] (λ x. first_object_at x) (le_refl 0) all none (refl, tt) in
    let awaits = block_awaits [] [] there 0 (λ i le. refl) os [] 0 [] (λ x. first_object_at x) (le_refl 0) all (refl, tt) in
    record {
      distinct = b.0.distinct;
      below = subst (λ n. Each (IsBelow 0 n) (new_homes 0 0 os)) (let e : 0 + length os ≡ length os = omega arith in e) b.0.below;
      resolved = λ here. as_file (new_homes 0 0 os) here (run.bindings_from 0 os) (file_names 0 [] os) (named_files os 0 (new_homes 0 0 os) here there [] [] has (λ j. refl) awaits (λ name. tt));
    }
  where
    first_object_at : Spot → Object
    first_object_at x = core.object_or_none None

file_item : (items : List ItemTree) (scene : _) → Each (ItemResolved items scene) items → Each HasLengths (file_objects items)
file_item items scene h = of_items items h
  where
    of_items : (sub : List ItemTree) → Each (ItemResolved items scene) sub → Each HasLengths (file_objects sub)
    of_items [] k = tt
    of_items (tree.objects os ∷ sub) k = each-append HasLengths os (file_objects sub) k.0 (of_items sub k.1)
    of_items (tree.function f ∷ sub) k = of_items sub k.1

pub file_lengths : (items : List ItemTree) → Each (ItemResolved items (file_scene_of items)) items → Each HasLengths (file_objects items)
file_lengths items h = file_item items (file_scene_of items) h

-- ---- the arrays of the host

abbrev pub host_homes : ℕ → List ParamTree → List Home
host_homes i [] = []
host_homes i (p ∷ ps) = if is_array_parameter p then home (spot 1 i) p.object.kind (lengths_in p.object) ∷ host_homes (i + 1) ps else host_homes (i + 1) ps

abbrev IsFrom : ℕ → Home → Type 0
IsFrom i h = i ≤ h.spot.number

if_each : (P : Home → Type 0) (y : Bool) (h : Home) (hs : List Home) → P h → Each P hs → Each P (if y then h ∷ hs else hs)
if_each P true h hs a b = (a, b)
if_each P false h hs a b = b

hosts_from : (i j : ℕ) (ps : List ParamTree) → j ≤ i → Each (IsFrom j) (host_homes i ps)
hosts_from i j [] le = tt
hosts_from i j (p ∷ ps) le = if_each (IsFrom j) (is_array_parameter p) (home (spot 1 i) p.object.kind (lengths_in p.object)) (host_homes (i + 1) ps) le (hosts_from (i + 1) j ps (omega arith))

abbrev elaborated_params : List ParamTree → List CoreObjectTree
elaborated_params ps = map object_elaborated (objects_of_params ps)

raise : (i j : ℕ) (h : Home) → i ≤ j → IsBelow 1 i h → IsBelow 1 j h
raise i j h le is = elim is [ inl lt ↦ inl lt | inr b ↦ inr (b.0, omega (arith, b.1)) ]

module _ (homes : List Home) (objects : List Object) (cells : Cells) (i : ℕ) where
  -- what holds where the arrays and the arguments are given
  abbrev pub Hosted : ℕ → List ParamTree → List Home → List Object → Cells → List Argument → List Given → Type 0
  Hosted count ps more arrays u given given' =
      Alike (homes ++ more) (objects ++ arrays) u × IsDistinct (homes ++ more) × Each (IsBelow 1 count) (homes ++ more) × AreGiven (homes ++ more) ps given given' × AreFree (homes ++ more) 1 i given'

array_hosted : (p : ParamTree) (ps : List ParamTree) (i : ℕ) (scalars : List ℕ) (arrays : List (List ℕ)) (homes : List Home) (objects : List Object) (u : Cells) → HasLengths p.object → (length p.object.lengths == 0) ≡ false
    → (let new = home (spot 1 i) p.object.kind (lengths_in p.object) in let o = filled p.object.kind (lengths_in p.object) (head_or_none arrays) in
    Hosted (homes ++ new ∷ []) (objects ++ o ∷ []) (put u (spot 1 i) o) (i + 1) (i + 1 + length ps) ps (host_homes (i + 1) ps) (run.host_arrays ps (drop 1 arrays)) (core.host_arrays (i + 1) (elaborated_params ps) (drop 1 arrays) (put u (spot 1 i) o))
    (run.top_arguments ps scalars (length (objects ++ o ∷ []))) (core.top_arguments (i + 1) (elaborated_params ps) scalars))
    → Alike homes objects u
    → Hosted homes objects u i (i + suc (length ps)) (p ∷ ps) (home (spot 1 i) p.object.kind (lengths_in p.object) ∷ host_homes (i + 1) ps)
    (filled p.object.kind (lengths_in p.object) (head_or_none arrays) ∷ run.host_arrays ps (drop 1 arrays)) (core.host_arrays (i + 1) (elaborated_params ps) (drop 1 arrays) (put u (spot 1 i) (filled p.object.kind (lengths_in p.object) (head_or_none arrays))))
    (argument.Array (length objects) ∷ run.top_arguments ps scalars (length objects + 1)) (array_given (spot 1 i) ∷ core.top_arguments (i + 1) (elaborated_params ps) scalars)
array_hosted p ps i scalars arrays homes objects u has is_array h a =
    let new = home (spot 1 i) p.object.kind (lengths_in p.object) in
    let o = filled p.object.kind (lengths_in p.object) (head_or_none arrays) in
    let more = host_homes (i + 1) ps in
    let v = core.host_arrays (i + 1) (elaborated_params ps) (drop 1 arrays) (put u (spot 1 i) o) in
    let joined = append_assoc homes (new ∷ []) more in
    let count : length objects ≡ length homes + 0 = omega (arith, ap length a.0 ∙ length-map homes (held u)) in (
      subst (λ l. Alike l (objects ++ o ∷ run.host_arrays ps (drop 1 arrays)) v) joined (subst (λ l. Alike ((homes ++ new ∷ []) ++ more) l v) (append_assoc objects (o ∷ []) (run.host_arrays ps (drop 1 arrays))) h.0),
      subst IsDistinct joined h.1,
      subst (λ l. Each (IsBelow 1 (i + suc (length ps))) l) joined (subst (λ n. Each (IsBelow 1 n) ((homes ++ new ∷ []) ++ more)) (let e : i + 1 + length ps ≡ i + suc (length ps) = omega arith in e) h.2),
      (
        (lengths_in p.object, ap (slice_get (homes ++ new ∷ more)) count ∙ get-behind homes (new ∷ more) 0, has ∙ is_array, is_array),
        subst (λ l. AreGiven l ps (run.top_arguments ps scalars (length objects + 1)) (core.top_arguments (i + 1) (elaborated_params ps) scalars)) joined
            (subst (λ n. AreGiven ((homes ++ new ∷ []) ++ more) ps (run.top_arguments ps scalars n) (core.top_arguments (i + 1) (elaborated_params ps) scalars)) (last-length objects o) h.3),
      ),
      subst (λ l. AreFree l 1 (i + 1) (core.top_arguments (i + 1) (elaborated_params ps) scalars)) joined h.4,
    )

scalar_hosted : (p : ParamTree) (ps : List ParamTree) (i : ℕ) (scalars : List ℕ) (arrays : List (List ℕ)) (homes : List Home) (objects : List Object) (u : Cells) → (length p.object.lengths == 0) ≡ true → Each (IsBelow 1 i) homes
    → Hosted homes objects u (i + 1) (i + 1 + length ps) ps (host_homes (i + 1) ps) (run.host_arrays ps arrays) (core.host_arrays (i + 1) (elaborated_params ps) arrays u)
    (run.top_arguments ps (drop 1 scalars) (length objects)) (core.top_arguments (i + 1) (elaborated_params ps) (drop 1 scalars))
    → Hosted homes objects u i (i + suc (length ps)) (p ∷ ps) (host_homes (i + 1) ps) (run.host_arrays ps arrays) (core.host_arrays (i + 1) (elaborated_params ps) arrays u)
    (argument.Number (word_of p.object.kind scalars) ∷ run.top_arguments ps (drop 1 scalars) (length objects)) (number_given (word_of p.object.kind scalars) ∷ core.top_arguments (i + 1) (elaborated_params ps) (drop 1 scalars))
scalar_hosted p ps i scalars arrays homes objects u is_scalar below h =
    let more = host_homes (i + 1) ps in (
      h.0,
      h.1,
      subst (λ n. Each (IsBelow 1 n) (homes ++ more)) (let e : i + 1 + length ps ≡ i + suc (length ps) = omega arith in e) h.2,
      ((refl, is_scalar), h.3),
      (
        each-append (IsElsewhere (spot 1 i)) homes more (each-more (IsBelow 1 i) (IsElsewhere (spot 1 i)) homes (apart 1 i) below)
            (each-more (IsFrom (i + 1)) (IsElsewhere (spot 1 i)) more (λ x le e. let n = ap (λ (z : Spot). z.number) e in omega arith) (hosts_from (i + 1) (i + 1) ps (omega arith))),
        h.4,
      ),
    )

not_true : (y : Bool) → not y ≡ true → y ≡ false
not_true true h = sym h
not_true false h = refl

not_false : (y : Bool) → not y ≡ false → y ≡ true
not_false true h = refl
not_false false h = sym h

-- the first parameter as it is in either run
abbrev FirstHosted : ParamTree → List ParamTree → ℕ → List ℕ → List (List ℕ) → List Home → List Object → Cells → Bool → Bool → Type 0
FirstHosted p ps i scalars arrays homes objects u y z =
    Hosted homes objects u i (i + suc (length ps)) (p ∷ ps) (if y then home (spot 1 i) p.object.kind (lengths_in p.object) ∷ host_homes (i + 1) ps else host_homes (i + 1) ps)
    (if y then filled p.object.kind (lengths_in p.object) (head_or_none arrays) ∷ run.host_arrays ps (drop 1 arrays) else run.host_arrays ps arrays)
    (if z then core.host_arrays (i + 1) (elaborated_params ps) (drop 1 arrays) (put u (spot 1 i) (filled p.object.kind (lengths_in p.object) (head_or_none arrays))) else core.host_arrays (i + 1) (elaborated_params ps) arrays u)
    (if y then argument.Array (length objects) ∷ run.top_arguments ps scalars (length objects + 1) else argument.Number (word_of p.object.kind scalars) ∷ run.top_arguments ps (drop 1 scalars) (length objects))
    (if z then array_given (spot 1 i) ∷ core.top_arguments (i + 1) (elaborated_params ps) scalars else number_given (word_of p.object.kind scalars) ∷ core.top_arguments (i + 1) (elaborated_params ps) (drop 1 scalars))

first_hosted : (p : ParamTree) (ps : List ParamTree) (i : ℕ) (scalars : List ℕ) (arrays : List (List ℕ)) (homes : List Home) (objects : List Object) (u : Cells) → HasLengths p.object → IsDistinct homes → Each (IsBelow 1 i) homes → Alike homes objects u
    → (y : Bool) → is_array_parameter p ≡ y
    → ((i1 : ℕ) (scalars1 : List ℕ) (arrays1 : List (List ℕ)) (homes1 : List Home) (objects1 : List Object) (u1 : Cells) → IsDistinct homes1 → Each (IsBelow 1 i1) homes1 → Alike homes1 objects1 u1
    → Hosted homes1 objects1 u1 i1 (i1 + length ps) ps (host_homes i1 ps) (run.host_arrays ps arrays1) (core.host_arrays i1 (elaborated_params ps) arrays1 u1) (run.top_arguments ps scalars1 (length objects1)) (core.top_arguments i1 (elaborated_params ps) scalars1))
    → FirstHosted p ps i scalars arrays homes objects u y y
first_hosted p ps i scalars arrays homes objects u has distinct below h true is others =
    let new = home (spot 1 i) p.object.kind (lengths_in p.object) in
    let o = filled p.object.kind (lengths_in p.object) (head_or_none arrays) in
    let free = each-more (IsBelow 1 i) (IsElsewhere (spot 1 i)) homes (apart 1 i) below in
    array_hosted p ps i scalars arrays homes objects u has (not_true (length p.object.lengths == 0) is)
    (others (i + 1) scalars (drop 1 arrays) (homes ++ new ∷ []) (objects ++ o ∷ []) (put u (spot 1 i) o) (distinct-more homes new distinct free)
    (each-append (IsBelow 1 (i + 1)) homes (new ∷ []) (each-more (IsBelow 1 i) (IsBelow 1 (i + 1)) homes (λ x. raise i (i + 1) x (omega arith)) below) (inr (refl, omega arith), tt))
    (one_alike homes (spot 1 i) o p.object.kind (lengths_in p.object) objects u free refl refl h)) h
first_hosted p ps i scalars arrays homes objects u has distinct below h false is others =
    scalar_hosted p ps i scalars arrays homes objects u (not_false (length p.object.lengths == 0) is) below
    (others (i + 1) (drop 1 scalars) arrays homes objects u distinct (each-more (IsBelow 1 i) (IsBelow 1 (i + 1)) homes (λ x. raise i (i + 1) x (omega arith)) below) h)

pub hosted : (ps : List ParamTree) (i : ℕ) (scalars : List ℕ) (arrays : List (List ℕ)) (homes : List Home) (objects : List Object) (u : Cells) → Each HasLengths (objects_of_params ps) → IsDistinct homes → Each (IsBelow 1 i) homes → Alike homes objects u
    → Hosted homes objects u i (i + length ps) ps (host_homes i ps) (run.host_arrays ps arrays) (core.host_arrays i (elaborated_params ps) arrays u) (run.top_arguments ps scalars (length objects)) (core.top_arguments i (elaborated_params ps) scalars)
hosted [] i scalars arrays homes objects u has distinct below h = (
  subst (λ l. Alike l (objects ++ []) u) (sym (append-nil homes)) (subst (λ l. Alike homes l u) (sym (append-nil objects)) h),
  subst IsDistinct (sym (append-nil homes)) distinct,
  subst (λ l. Each (IsBelow 1 (i + 0)) l) (sym (append-nil homes)) (subst (λ n. Each (IsBelow 1 n) homes) (let e : i ≡ i + 0 = omega arith in e) below),
  tt,
  tt,
)
hosted (p ∷ ps) i scalars arrays homes objects u has distinct below h =
    subst (λ z. FirstHosted p ps i scalars arrays homes objects u (is_array_parameter p) z) (sym (ap not has.0)) (first_hosted p ps i scalars arrays homes objects u has.0 distinct below h (is_array_parameter p) refl
    (λ i1 scalars1 arrays1 homes1 objects1 u1. hosted ps i1 scalars1 arrays1 homes1 objects1 u1 has.1))
