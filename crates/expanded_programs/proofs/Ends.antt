-- What a run leaves in arrays and in file scope.
use Rattle.std.proofs.Common.{◌≡◌, ℕ, suc, ◌+◌, ◌∙◌, sym, refl, ap, ap₂, subst, Bool, true, false, ◌||◌, List, [], ◌∷◌, ◌++◌, length, map, slice_get, Option, Some, None, arith, if◌then◌else◌}
use Rattle.std.specs.Prelude.{not}
use Rattle.hls_base.specs.FileScope.{FileScope}
use Rattle.hls_base.specs.declared.number.VarId.{VarId}
use Rattle.hls_base.specs.declared.number.ArrayId.{ArrayId}
use Rattle.hls_base.specs.declared.number.Kept.{Kept}
use Rattle.c_value.specs.Values.{pattern}
use Rattle.c_meaning.specs.Run.{patterns, with_contents}
use Rattle.pieces.specs.Resolved.Core.{CoreObjectTree, FileObjectTree}
use Rattle.pieces.specs.Program.{ArrayTree, ExpandedTree}
use Rattle.piece_making.specs.declared.frame.Home.{Home}
use Rattle.piece_making.specs.declared.frame.Home.TheVariants as home
use Rattle.piece_making.specs.Making.{variable_number, array_number}
use Rattle.piece_making.specs.Objects.{array_like, file_info, first_value}
use Rattle.c_meaning.specs.CoreRuns.Cells.{spot, Cells}
use Rattle.c_meaning.specs.CoreRuns.Runs as rs
use Rattle.c_meaning.specs.PieceRuns.Values.{Store}
use Rattle.c_meaning.specs.PieceRuns.Runs as pr
use Rattle.c_meaning.specs.PieceRuns.Runs.{type_in, words_of, if_kept}
use Rattle.c_expand.specs.Expansion.{is_array}
use Rattle.expanded_programs.specs.Outlines.{keeps_from, homes_from, files_of, hosts_of, tops_from}
use Rattle.expanded_programs.proofs.Plain.{ArePlain}

module _ (e : ExpandedTree) (s : Cells) (t : Store) where
  -- ---- arrays that are none of the host, or that are not kept

  pub plain_hosts : (xs : List ArrayTree) (i : ℕ) → ArePlain xs → pr.host_arrays xs i t ≡ []
  plain_hosts [] i h = refl
  plain_hosts (a ∷ xs) i h = ap (λ b. if b then words_of a (t.elements i) ∷ pr.host_arrays xs (i + 1) t else pr.host_arrays xs (i + 1) t) h.0.host ∙ plain_hosts xs (i + 1) h.1

  pub plain_kept : (xs : List ArrayTree) (i : ℕ) → ArePlain xs → pr.kept_arrays xs i t ≡ []
  plain_kept [] i h = refl
  plain_kept (a ∷ xs) i h = ap (λ z. if_kept z (words_of a (t.elements i)) (pr.kept_arrays xs (i + 1) t)) h.0.initial ∙ plain_kept xs (i + 1) h.1

  files_hosts_step : (x y : Bool) (o : FileObjectTree) (os : List FileObjectTree) (rest : List ArrayTree) (i : ℕ) → ((i1 : ℕ) → pr.host_arrays (files_of os ++ rest) i1 t ≡ [])
      → pr.host_arrays ((if x then (if y then array_like o.object (Some o.first) None false else array_like o.object None (Some o.first) false) ∷ files_of os else files_of os) ++ rest) i t ≡ []
  files_hosts_step false y o os rest i h = h i
  files_hosts_step true true o os rest i h = h (i + 1)
  files_hosts_step true false o os rest i h = h (i + 1)

  pub files_hosts : (os : List FileObjectTree) (rest : List ArrayTree) (i : ℕ) → ArePlain rest → pr.host_arrays (files_of os ++ rest) i t ≡ []
  files_hosts [] rest i h = plain_hosts rest i h
  files_hosts (o ∷ os) rest i h = files_hosts_step (is_array o.object) o.object.constant o os rest i (λ i1. files_hosts os rest i1 h)

  hosts_kept_step : (b : Bool) (o : CoreObjectTree) (os : List CoreObjectTree) (rest : List ArrayTree) (i : ℕ) → ((i1 : ℕ) → pr.kept_arrays (hosts_of os ++ rest) i1 t ≡ pr.kept_arrays rest (i1 + length (hosts_of os)) t)
      → pr.kept_arrays ((if b then array_like o None None true ∷ hosts_of os else hosts_of os) ++ rest) i t ≡ pr.kept_arrays rest (i + length (if b then array_like o None None true ∷ hosts_of os else hosts_of os)) t
  hosts_kept_step false o os rest i h = h i
  hosts_kept_step true o os rest i h = h (i + 1) ∙ ap (λ z. pr.kept_arrays rest z t) (let z : i + 1 + length (hosts_of os) ≡ i + suc (length (hosts_of os)) = omega arith in z)

  pub hosts_kept : (os : List CoreObjectTree) (rest : List ArrayTree) (i : ℕ) → pr.kept_arrays (hosts_of os ++ rest) i t ≡ pr.kept_arrays rest (i + length (hosts_of os)) t
  hosts_kept [] rest i = ap (λ z. pr.kept_arrays rest z t) (let z : i ≡ i + 0 = omega arith in z)
  hosts_kept (o ∷ os) rest i = hosts_kept_step (is_array o) o os rest i (λ i1. hosts_kept os rest i1)

  -- ---- the arrays of the host

  abbrev HostsLeft : ℕ → ℕ → ℕ → List CoreObjectTree → Type 0
  HostsLeft i v a os = (j m : ℕ) (o : CoreObjectTree) → m ≡ i + j → slice_get os j ≡ Some o → is_array o ≡ true → (b : ArrayId) → slice_get (tops_from v a os) j ≡ Some (home.Array b) → patterns (s (spot 1 m)) ≡ words_of (array_like o None None true) (t.elements b.0)

  hosts_left_step : (b : Bool) (i v a : ℕ) (o : CoreObjectTree) (os : List CoreObjectTree) (rest : List ArrayTree) → is_array o ≡ b → ((v1 a1 : ℕ) → HostsLeft (i + 1) v1 a1 os → rs.arrays_from (i + 1) os s ≡ pr.host_arrays (hosts_of os ++ rest) a1 t)
      → ((j m : ℕ) (o1 : CoreObjectTree) → m ≡ i + j → slice_get (o ∷ os) j ≡ Some o1 → is_array o1 ≡ true → (c : ArrayId) → slice_get (if b then home.Array (array_number a) ∷ tops_from v (a + 1) os else home.Variable (variable_number v) ∷ tops_from (v + 1) a os) j ≡ Some (home.Array c) → patterns (s (spot 1 m)) ≡ words_of (array_like o1 None None true) (t.elements c.0))
      → (if b then patterns (s (spot 1 i)) ∷ rs.arrays_from (i + 1) os s else rs.arrays_from (i + 1) os s) ≡ pr.host_arrays ((if b then array_like o None None true ∷ hosts_of os else hosts_of os) ++ rest) a t
  hosts_left_step true i v a o os rest ex h left = ap₂ ◌∷◌ (left 0 i o (omega arith) refl ex (array_number a) refl) (h v (a + 1) (λ j m o1 e1 e2 e3 c e4. left (suc j) m o1 (omega (arith, e1)) e2 e3 c e4))
  hosts_left_step false i v a o os rest ex h left = h (v + 1) a (λ j m o1 e1 e2 e3 c e4. left (suc j) m o1 (omega (arith, e1)) e2 e3 c e4)

  pub hosts_left : (os : List CoreObjectTree) (rest : List ArrayTree) (i v a : ℕ) → ((i1 : ℕ) → pr.host_arrays rest i1 t ≡ []) → HostsLeft i v a os → rs.arrays_from i os s ≡ pr.host_arrays (hosts_of os ++ rest) a t
  hosts_left [] rest i v a none_ left = sym (none_ a)
  hosts_left (o ∷ os) rest i v a none_ left = hosts_left_step (is_array o) i v a o os rest refl (λ v1 a1 l. hosts_left os rest (i + 1) v1 a1 none_ l) left

  -- ---- file scope

  abbrev kept_words : List Kept → List ℕ
  kept_words ks = map (λ (k : Kept). pattern (type_in e k.variable) (t.variables k.variable.0)) ks

  abbrev FileLeft : ℕ → FileObjectTree → ArrayTree → Option Home → Type 0
  FileLeft m o info h = o.object.constant ≡ false → ((u : VarId) → h ≡ Some (home.Variable u) → patterns (s (spot 0 m)) ≡ pattern (type_in e u) (t.variables u.0) ∷ []) × ((b : ArrayId) → h ≡ Some (home.Array b) → patterns (s (spot 0 m)) ≡ words_of info (t.elements b.0))

  abbrev FilesLeft : ℕ → ℕ → ℕ → List FileObjectTree → Type 0
  FilesLeft i v a os = (j m : ℕ) (o : FileObjectTree) → m ≡ i + j → slice_get os j ≡ Some o → FileLeft m o (file_info o) (slice_get (homes_from v a os) j)

  abbrev scope_of : List ℕ → List (List ℕ) → FileScope
  scope_of scalars arrays = record { scalars = scalars; arrays = arrays }

  files_left_step : (x y : Bool) (i v a : ℕ) (o : FileObjectTree) (os : List FileObjectTree) (rest : List ArrayTree) → o.object.constant ≡ y
      → ((v1 a1 : ℕ) → FilesLeft (i + 1) v1 a1 os → rs.contents_from os (i + 1) s ≡ scope_of (kept_words (keeps_from v1 os)) (pr.kept_arrays (files_of os ++ rest) a1 t))
      → FileLeft i o (if y then array_like o.object (Some o.first) None false else array_like o.object None (Some o.first) false) (Some (if x then home.Array (array_number a) else if y then home.Constant (first_value o.first) else home.Variable (variable_number v)))
      → ((j m : ℕ) (o1 : FileObjectTree) → m ≡ i + 1 + j → slice_get os j ≡ Some o1 → FileLeft m o1 (file_info o1) (slice_get (if x then homes_from v (a + 1) os else if y then homes_from v a os else homes_from (v + 1) a os) j))
      → (if y then rs.contents_from os (i + 1) s else with_contents (not x) (s (spot 0 i)) (rs.contents_from os (i + 1) s))
      ≡ scope_of (kept_words (if not (x || y) then record { variable = variable_number v; value = first_value o.first } ∷ keeps_from (v + 1) os else keeps_from v os))
      (pr.kept_arrays ((if x then (if y then array_like o.object (Some o.first) None false else array_like o.object None (Some o.first) false) ∷ files_of os else files_of os) ++ rest) a t)
  files_left_step true true i v a o os rest ey h first left = h v (a + 1) left
  files_left_step false true i v a o os rest ey h first left = h v a left
  files_left_step true false i v a o os rest ey h first left =
      ap (with_contents false (s (spot 0 i))) (h v (a + 1) left) ∙ ap (λ z. scope_of (kept_words (keeps_from v os)) (z ∷ pr.kept_arrays (files_of os ++ rest) (a + 1) t)) ((first ey).1 (array_number a) refl)
  files_left_step false false i v a o os rest ey h first left =
      ap (with_contents true (s (spot 0 i))) (h (v + 1) a left) ∙ ap (λ z. scope_of (z ++ kept_words (keeps_from (v + 1) os)) (pr.kept_arrays (files_of os ++ rest) a t)) ((first ey).0 (variable_number v) refl)

  home_first : (x y : Bool) (v a : ℕ) (o : FileObjectTree) (os : List FileObjectTree)
      → slice_get (if x then home.Array (array_number a) ∷ homes_from v (a + 1) os else if y then home.Constant (first_value o.first) ∷ homes_from v a os else home.Variable (variable_number v) ∷ homes_from (v + 1) a os) 0
      ≡ Some (if x then home.Array (array_number a) else if y then home.Constant (first_value o.first) else home.Variable (variable_number v))
  home_first true y v a o os = refl
  home_first false true v a o os = refl
  home_first false false v a o os = refl

  home_behind : (x y : Bool) (v a : ℕ) (o : FileObjectTree) (os : List FileObjectTree) (j : ℕ)
      → slice_get (if x then home.Array (array_number a) ∷ homes_from v (a + 1) os else if y then home.Constant (first_value o.first) ∷ homes_from v a os else home.Variable (variable_number v) ∷ homes_from (v + 1) a os) (suc j)
      ≡ slice_get (if x then homes_from v (a + 1) os else if y then homes_from v a os else homes_from (v + 1) a os) j
  home_behind true y v a o os j = refl
  home_behind false true v a o os j = refl
  home_behind false false v a o os j = refl

  pub files_left : (os : List FileObjectTree) (rest : List ArrayTree) (i v a : ℕ) → ((i1 : ℕ) → pr.kept_arrays rest i1 t ≡ []) → FilesLeft i v a os → rs.contents_from os i s ≡ scope_of (kept_words (keeps_from v os)) (pr.kept_arrays (files_of os ++ rest) a t)
  files_left [] rest i v a none_ left = ap (scope_of []) (sym (none_ a))
  files_left (o ∷ os) rest i v a none_ left =
      let x = is_array o.object in
      let y = o.object.constant in
      files_left_step x y i v a o os rest refl (λ v1 a1 l. files_left os rest (i + 1) v1 a1 none_ l)
      (subst (FileLeft i o (file_info o)) (home_first x y v a o os) (left 0 i o (omega arith) refl))
      (λ j m o1 e1 e2. subst (FileLeft m o1 (file_info o1)) (home_behind x y v a o os j) (left (suc j) m o1 (omega (arith, e1)) e2))
