-- What stands for the objects of file scope and for the parameters of the top function, and what both stores hold there at first.
use Rattle.std.proofs.Common.{◌≡◌, ℕ, zero, suc, ◌+◌, ◌^◌, ◌<◌, ◌⊎◌, inl, inr, ◌∙◌, sym, refl, ap, subst, Bool, true, false, true≢false, ◌||◌, List, [], ◌∷◌, length, slice_get, Option, Some, None, arith, if◌then◌else◌}
use Rattle.std.specs.Prelude.{not, drop, take, ◌==◌, slice_index}
use Rattle.std.proofs.lemmas.Bool.{ne_eqb}
use Rattle.std.proofs.lemmas.Option.{none-some, same_Some}
use Rattle.hls_base.specs.FileScope.{FileScope}
use Rattle.hls_base.specs.ArrayAddress.{element_count}
use Rattle.hls_base.specs.declared.number.VarId.{VarId}
use Rattle.hls_base.specs.declared.number.ArrayId.{ArrayId}
use Rattle.c_token.specs.declared.ctype.CType.{CType}
use Rattle.c_value.specs.Values.{width, number_of}
use Rattle.c_meaning.specs.Store.{Object}
use Rattle.c_meaning.specs.Run.{filled, word_of, head_or_none, kept_rest}
use Rattle.pieces.specs.Resolved.Core.{CoreObjectTree, FileObjectTree}
use Rattle.pieces.specs.Program.{ArrayTree}
use Rattle.piece_making.specs.declared.frame.Home.{Home}
use Rattle.piece_making.specs.declared.frame.Home.TheVariants as home
use Rattle.piece_making.specs.Making.{variable_number, array_number}
use Rattle.piece_making.specs.Objects.{array_like, file_info, first_value}
use Rattle.c_meaning.specs.CoreRuns.Cells.{Spot, spot, Cells, Given, number_given, array_given, put}
use Rattle.c_meaning.specs.CoreRuns.Runs as rs
use Rattle.c_meaning.specs.PieceRuns.Values.{Store}
use Rattle.c_expand.specs.Expansion.{is_array}
use Rattle.expand_runs.specs.Laws.{OneOf, AreWords, FillsObject, FillObjects, kept_objects}
use Rattle.expand_runs.proofs.Showing.{put_here, put_other}
use Rattle.expanded_programs.specs.Statements.Scopes.{IsScalar, IsArray}
use Rattle.expanded_programs.specs.Outlines.{kept_kinds, homes_from, files_of, hosts_of, tops_from, scalar_kinds}
use Rattle.expanded_programs.specs.Contents.{KeptHold, FilesHold, ScalarsHold, HostsHold}

-- ---- lists

-- the whole has these, from this place on
abbrev pub HasFrom : {A : Type 0} → List A → ℕ → List A → Type 0
HasFrom {A} whole n xs = (j m : ℕ) (x : A) → m ≡ n + j → slice_get xs j ≡ Some x → slice_get whole m ≡ Some x

pub from_first : {A : Type 0} (whole : List A) (n : ℕ) (x : A) (xs : List A) → HasFrom whole n (x ∷ xs) → slice_get whole n ≡ Some x
from_first whole n x xs h = h 0 n x (omega arith) refl

pub from_rest : {A : Type 0} (whole : List A) (n : ℕ) (x : A) (xs : List A) → HasFrom whole n (x ∷ xs) → HasFrom whole (n + 1) xs
from_rest whole n x xs h j m y e1 e2 = h (suc j) m y (omega (arith, e1)) e2

-- ---- scalars and arrays

pub is_scalar : (o : CoreObjectTree) → is_array o ≡ false → IsScalar o
is_scalar o e1 = scalar_of o.lengths e1
  where
    scalar_of : (ls : List ℕ) → not (length ls == 0) ≡ false → ls ≡ []
    scalar_of [] h = refl
    scalar_of (l ∷ ls) h = absurd (true≢false (sym (ap not (ne_eqb (length (l ∷ ls)) 0 (λ q. omega (arith, q)))) ∙ h))

pub is_array_object : (o : CoreObjectTree) → is_array o ≡ true → IsArray o
is_array_object o e1 q = true≢false (sym e1 ∙ ap (λ ls. not (length ls == 0)) q)

-- a scalar has one word
pub one_word : (o : CoreObjectTree) (word : ℕ) → FillsObject o (word ∷ []) → word < 2 ^ width o.kind
one_word o word h = h.1.0

-- ---- objects of file scope

module _ (types : List CType) (arrays : List ArrayTree) (t : Store) where
  abbrev pub FileEntry : FileObjectTree → Option Home → Option Object → Type 0
  FileEntry o h x =
      (IsScalar o.object × (o.object.constant ≡ false) × (u : VarId) × (h ≡ Some (home.Variable u)) × (slice_get types u.0 ≡ Some o.object.kind) × (w : ℕ) × (w < 2 ^ width o.object.kind) × (x ≡ Some (filled o.object.kind [] (w ∷ []))) × (t.variables u.0 ≡ number_of o.object.kind w))
      ⊎ ((IsScalar o.object × (o.object.constant ≡ true) × (w : ℕ) × (h ≡ Some (home.Constant w)) × (w < 2 ^ width o.object.kind) × (x ≡ Some (filled o.object.kind [] (w ∷ []))))
      ⊎ (IsArray o.object × (b : ArrayId) × (h ≡ Some (home.Array b)) × (slice_get arrays b.0 ≡ Some (file_info o)) × (row : List ℕ) × FillsObject o.object row × (x ≡ Some (filled o.object.kind o.object.lengths row)) × ((j : ℕ) → t.elements b.0 j ≡ number_of o.object.kind (slice_index row j))))

  abbrev homes_cons : Bool → Bool → ℕ → ℕ → FileObjectTree → List FileObjectTree → List Home
  homes_cons x y v a o os =
      if x then home.Array (array_number a) ∷ homes_from v (a + 1) os else if y then home.Constant (first_value o.first) ∷ homes_from v a os else home.Variable (variable_number v) ∷ homes_from (v + 1) a os

  abbrev store_cons : Bool → Bool → FileObjectTree → List FileObjectTree → FileScope → List Object
  store_cons x y o os kept =
      (if y then filled o.object.kind o.object.lengths o.first else if x then filled o.object.kind o.object.lengths (head_or_none kept.arrays) else filled o.object.kind [] (take 1 kept.scalars))
      ∷ rs.file_store os (if y then kept else kept_rest (not x) kept)

  abbrev Filled : List FileObjectTree → FileScope → Type 0
  Filled os kept = FillObjects (kept_objects os) kept.scalars kept.arrays

  abbrev Constants : List FileObjectTree → Type 0
  Constants os = (i : ℕ) (o : FileObjectTree) → slice_get os i ≡ Some o → o.object.constant ≡ true → FillsObject o.object o.first

  -- the entries behind the first one, wherever they are
  abbrev Behind : List FileObjectTree → Type 0
  Behind os = (v a : ℕ) (kept : FileScope) → HasFrom types v (kept_kinds os) → HasFrom arrays a (files_of os) → Filled os kept → KeptHold v os kept.scalars t → FilesHold a os kept.arrays t → (i : ℕ) (o1 : FileObjectTree) → slice_get os i ≡ Some o1 → FileEntry o1 (slice_get (homes_from v a os) i) (slice_get (rs.file_store os kept) i)

  file_entry : (x y : Bool) (v a : ℕ) (o : FileObjectTree) (os : List FileObjectTree) (kept : FileScope) → is_array o.object ≡ x → o.object.constant ≡ y → (o.object.constant ≡ true → FillsObject o.object o.first) → Behind os
      → HasFrom types v (if not (x || y) then o.object.kind ∷ kept_kinds os else kept_kinds os) → HasFrom arrays a (if x then file_info o ∷ files_of os else files_of os) → FillObjects (if y then kept_objects os else o.object ∷ kept_objects os) kept.scalars kept.arrays
      → OneOf (not (x || y)) ((t.variables v ≡ word_of o.object.kind kept.scalars) × KeptHold (v + 1) os (drop 1 kept.scalars) t) (KeptHold v os kept.scalars t)
      → OneOf x (((j : ℕ) → t.elements a j ≡ number_of o.object.kind (slice_index (if y then o.first else head_or_none kept.arrays) j)) × FilesHold (a + 1) os (if y then kept.arrays else drop 1 kept.arrays) t) (FilesHold a os kept.arrays t)
      → (i : ℕ) (o1 : FileObjectTree) → slice_get (o ∷ os) i ≡ Some o1 → FileEntry o1 (slice_get (homes_cons x y v a o os) i) (slice_get (store_cons x y o os kept) i)
  file_entry true true v a o os kept ex ey const behind types_ arrays_ fill vars rows zero o1 e1 =
      subst (λ z. FileEntry z (Some (home.Array (array_number a))) (Some (filled o.object.kind o.object.lengths o.first))) (same_Some o o1 e1)
      (inr (inr (is_array_object o.object ex, array_number a, refl, from_first arrays a (file_info o) (files_of os) arrays_, o.first, const ey, refl, rows.0)))
  file_entry true true v a o os kept ex ey const behind types_ arrays_ fill vars rows (suc i) o1 e1 = behind v (a + 1) kept types_ (from_rest arrays a (file_info o) (files_of os) arrays_) fill vars rows.1 i o1 e1
  file_entry true false v a o os kept ex ey const behind types_ arrays_ fill vars rows zero o1 e1 =
      let q = subst (λ b. OneOf b ((row : List ℕ) × (rs1 : List (List ℕ)) × (kept.arrays ≡ row ∷ rs1) × FillsObject o.object row × FillObjects (kept_objects os) kept.scalars rs1) ((word : ℕ) × (words : List ℕ) × (kept.scalars ≡ word ∷ words) × FillsObject o.object (word ∷ []) × FillObjects (kept_objects os) words kept.arrays)) ex fill in
      let head_ : head_or_none kept.arrays ≡ q.0 = ap head_or_none q.2 in
      subst (λ z. FileEntry z (Some (home.Array (array_number a))) (Some (filled o.object.kind o.object.lengths (head_or_none kept.arrays)))) (same_Some o o1 e1)
      (inr (inr (is_array_object o.object ex, array_number a, refl, from_first arrays a (file_info o) (files_of os) arrays_, q.0, q.3, ap (λ z. Some (filled o.object.kind o.object.lengths z)) head_, λ j. rows.0 j ∙ ap (λ z. number_of o.object.kind (slice_index z j)) head_)))
  file_entry true false v a o os kept ex ey const behind types_ arrays_ fill vars rows (suc i) o1 e1 =
      let q = subst (λ b. OneOf b ((row : List ℕ) × (rs1 : List (List ℕ)) × (kept.arrays ≡ row ∷ rs1) × FillsObject o.object row × FillObjects (kept_objects os) kept.scalars rs1) ((word : ℕ) × (words : List ℕ) × (kept.scalars ≡ word ∷ words) × FillsObject o.object (word ∷ []) × FillObjects (kept_objects os) words kept.arrays)) ex fill in
      behind v (a + 1) (kept_rest false kept) types_ (from_rest arrays a (file_info o) (files_of os) arrays_) (subst (λ z. FillObjects (kept_objects os) kept.scalars z) (sym (ap (drop 1) q.2)) q.4) vars rows.1 i o1 e1
  file_entry false true v a o os kept ex ey const behind types_ arrays_ fill vars rows zero o1 e1 =
      let scalar_ = is_scalar o.object ex in
      let w = constant_word o.first scalar_ (const ey) in
      subst (λ z. FileEntry z (Some (home.Constant (first_value o.first))) (Some (filled o.object.kind o.object.lengths o.first))) (same_Some o o1 e1)
      (inr (inl (scalar_, ey, first_value o.first, refl, w.1, ap (λ z. Some (filled o.object.kind z o.first)) scalar_ ∙ ap (λ z. Some (filled o.object.kind [] z)) w.0)))
    where
      constant_word : (words : List ℕ) → o.object.lengths ≡ [] → FillsObject o.object words → (words ≡ first_value words ∷ []) × (first_value words < 2 ^ width o.object.kind)
      constant_word words s h = one_of words (h.0 ∙ ap element_count s) h.1
        where
          one_of : (words : List ℕ) → length words ≡ 1 → AreWords o.object.kind words → (words ≡ first_value words ∷ []) × (first_value words < 2 ^ width o.object.kind)
          one_of [] l a = absurd (omega (arith, l))
          one_of (x ∷ []) l a = (refl, a.0)
          one_of (x ∷ (y ∷ ys)) l a = absurd (omega (arith, l))
  file_entry false true v a o os kept ex ey const behind types_ arrays_ fill vars rows (suc i) o1 e1 = behind v a kept types_ arrays_ fill vars rows i o1 e1
  file_entry false false v a o os kept ex ey const behind types_ arrays_ fill vars rows zero o1 e1 =
      let q = subst (λ b. OneOf b ((row : List ℕ) × (rs1 : List (List ℕ)) × (kept.arrays ≡ row ∷ rs1) × FillsObject o.object row × FillObjects (kept_objects os) kept.scalars rs1) ((word : ℕ) × (words : List ℕ) × (kept.scalars ≡ word ∷ words) × FillsObject o.object (word ∷ []) × FillObjects (kept_objects os) words kept.arrays)) ex fill in
      subst (λ z. FileEntry z (Some (home.Variable (variable_number v))) (Some (filled o.object.kind [] (take 1 kept.scalars)))) (same_Some o o1 e1)
      (inl (is_scalar o.object ex, ey, variable_number v, refl, from_first types v o.object.kind (kept_kinds os) types_, q.0, one_word o.object q.0 q.3, ap (λ z. Some (filled o.object.kind [] (take 1 z))) q.2, vars.0 ∙ ap (word_of o.object.kind) q.2))
  file_entry false false v a o os kept ex ey const behind types_ arrays_ fill vars rows (suc i) o1 e1 =
      let q = subst (λ b. OneOf b ((row : List ℕ) × (rs1 : List (List ℕ)) × (kept.arrays ≡ row ∷ rs1) × FillsObject o.object row × FillObjects (kept_objects os) kept.scalars rs1) ((word : ℕ) × (words : List ℕ) × (kept.scalars ≡ word ∷ words) × FillsObject o.object (word ∷ []) × FillObjects (kept_objects os) words kept.arrays)) ex fill in
      behind (v + 1) a (kept_rest true kept) (from_rest types v o.object.kind (kept_kinds os) types_) arrays_ (subst (λ z. FillObjects (kept_objects os) z kept.arrays) (sym (ap (drop 1) q.2)) q.4) vars.1 rows i o1 e1

  pub file_entries : (os : List FileObjectTree) → Constants os → Behind os
  file_entries [] const v a kept types_ arrays_ fill vars rows i o1 e1 = absurd (none-some o1 e1)
  file_entries (o ∷ os) const v a kept types_ arrays_ fill vars rows i o1 e1 =
      file_entry (is_array o.object) o.object.constant v a o os kept refl refl (const 0 o refl) (file_entries os (λ j o2 e2. const (suc j) o2 e2)) types_ arrays_ fill vars rows i o1 e1

  -- ---- parameters of the top function

  abbrev pub TopEntry : CoreObjectTree → Option Home → Option Given → Spot → Object → Type 0
  TopEntry o h g place x =
      (IsScalar o × (u : VarId) × (h ≡ Some (home.Variable u)) × (slice_get types u.0 ≡ Some o.kind) × (w : ℕ) × (w < 2 ^ width o.kind) × (g ≡ Some (number_given (number_of o.kind w))) × (t.variables u.0 ≡ number_of o.kind w))
      ⊎ (IsArray o × (b : ArrayId) × (h ≡ Some (home.Array b)) × (slice_get arrays b.0 ≡ Some (array_like o None None true)) × (row : List ℕ) × FillsObject o row × (g ≡ Some (array_given place)) × (x ≡ filled o.kind o.lengths row) × ((j : ℕ) → t.elements b.0 j ≡ number_of o.kind (slice_index row j)))

  -- spots before these are as they were
  pub hosts_earlier : (os : List CoreObjectTree) (i : ℕ) (rows : List (List ℕ)) (s : Cells) (x : Spot) → (x.frame ≡ 1 → x.number < i) → rs.host_arrays i os rows s x ≡ s x
  hosts_earlier [] i rows s x lt = refl
  hosts_earlier (o ∷ os) i rows s x lt = earlier_if (is_array o) (λ rows1 s1. hosts_earlier os (i + 1) rows1 s1 x (λ e1. (let l = lt e1 in omega (arith, l))))
    where
      earlier_if : (b : Bool) → ((rows1 : List (List ℕ)) (s1 : Cells) → rs.host_arrays (i + 1) os rows1 s1 x ≡ s1 x)
          → (if b then rs.host_arrays (i + 1) os (drop 1 rows) (put s (spot 1 i) (filled o.kind o.lengths (head_or_none rows))) else rs.host_arrays (i + 1) os rows s) x ≡ s x
      earlier_if true h =
          h (drop 1 rows) (put s (spot 1 i) (filled o.kind o.lengths (head_or_none rows)))
          ∙ put_other s (spot 1 i) x (filled o.kind o.lengths (head_or_none rows)) (λ e1. (let f1 = ap (λ (z : Spot). z.frame) e1 in let n1 = ap (λ (z : Spot). z.number) e1 in let l = lt (sym f1) in omega (arith, l, n1)))
      earlier_if false h = h rows s

  abbrev TopBehind : List CoreObjectTree → Type 0
  TopBehind os =
      (i v a : ℕ) (scalars : List ℕ) (rows : List (List ℕ)) (s : Cells) → HasFrom types v (scalar_kinds os) → HasFrom arrays a (hosts_of os) → FillObjects os scalars rows → ScalarsHold v os scalars t → HostsHold a os rows t
      → (j m : ℕ) (o1 : CoreObjectTree) → m ≡ i + j → slice_get os j ≡ Some o1 → TopEntry o1 (slice_get (tops_from v a os) j) (slice_get (rs.top_arguments i os scalars) j) (spot 1 m) (rs.host_arrays i os rows s (spot 1 m))

  top_entry : (b : Bool) (i v a : ℕ) (o : CoreObjectTree) (os : List CoreObjectTree) (scalars : List ℕ) (rows : List (List ℕ)) (s : Cells) → is_array o ≡ b → TopBehind os
      → HasFrom types v (if b then scalar_kinds os else o.kind ∷ scalar_kinds os) → HasFrom arrays a (if b then array_like o None None true ∷ hosts_of os else hosts_of os)
      → OneOf b ((row : List ℕ) × (rows1 : List (List ℕ)) × (rows ≡ row ∷ rows1) × FillsObject o row × FillObjects os scalars rows1) ((word : ℕ) × (words : List ℕ) × (scalars ≡ word ∷ words) × FillsObject o (word ∷ []) × FillObjects os words rows)
      → OneOf b (ScalarsHold v os scalars t) ((t.variables v ≡ word_of o.kind scalars) × ScalarsHold (v + 1) os (drop 1 scalars) t)
      → OneOf b (((j : ℕ) → t.elements a j ≡ number_of o.kind (slice_index (head_or_none rows) j)) × HostsHold (a + 1) os (drop 1 rows) t) (HostsHold a os rows t)
      → (j m : ℕ) (o1 : CoreObjectTree) → m ≡ i + j → slice_get (o ∷ os) j ≡ Some o1
      → TopEntry o1 (slice_get (if b then home.Array (array_number a) ∷ tops_from v (a + 1) os else home.Variable (variable_number v) ∷ tops_from (v + 1) a os) j)
      (slice_get (if b then array_given (spot 1 i) ∷ rs.top_arguments (i + 1) os scalars else number_given (word_of o.kind scalars) ∷ rs.top_arguments (i + 1) os (drop 1 scalars)) j) (spot 1 m)
      ((if b then rs.host_arrays (i + 1) os (drop 1 rows) (put s (spot 1 i) (filled o.kind o.lengths (head_or_none rows))) else rs.host_arrays (i + 1) os rows s) (spot 1 m))
  top_entry true i v a o os scalars rows s ex behind types_ arrays_ fill vars held zero m o1 em e1 =
      let is : m ≡ i = omega (arith, em) in
      let head_ : head_or_none rows ≡ fill.0 = ap head_or_none fill.2 in
      let s1 = put s (spot 1 i) (filled o.kind o.lengths (head_or_none rows)) in
      let there : rs.host_arrays (i + 1) os (drop 1 rows) s1 (spot 1 m) ≡ filled o.kind o.lengths fill.0 =
      ap (λ z. rs.host_arrays (i + 1) os (drop 1 rows) s1 (spot 1 z)) is ∙ hosts_earlier os (i + 1) (drop 1 rows) s1 (spot 1 i) (λ q. omega arith) ∙ put_here s (spot 1 i) (filled o.kind o.lengths (head_or_none rows)) ∙ ap (filled o.kind o.lengths) head_ in
      subst (λ z. TopEntry z (Some (home.Array (array_number a))) (Some (array_given (spot 1 i))) (spot 1 m) (rs.host_arrays (i + 1) os (drop 1 rows) s1 (spot 1 m))) (same_Some o o1 e1)
      (inr (is_array_object o ex, array_number a, refl, from_first arrays a (array_like o None None true) (hosts_of os) arrays_, fill.0, fill.3, ap (λ z. Some (array_given (spot 1 z))) (sym is), there, λ j. held.0 j ∙ ap (λ z. number_of o.kind (slice_index z j)) head_))
  top_entry true i v a o os scalars rows s ex behind types_ arrays_ fill vars held (suc j) m o1 em e1 =
      behind (i + 1) v (a + 1) scalars (drop 1 rows) (put s (spot 1 i) (filled o.kind o.lengths (head_or_none rows))) types_ (from_rest arrays a (array_like o None None true) (hosts_of os) arrays_) (subst (λ z. FillObjects os scalars z) (sym (ap (drop 1) fill.2)) fill.4) vars held.1 j m o1 (omega (arith, em)) e1
  top_entry false i v a o os scalars rows s ex behind types_ arrays_ fill vars held zero m o1 em e1 =
      subst (λ z. TopEntry z (Some (home.Variable (variable_number v))) (Some (number_given (word_of o.kind scalars))) (spot 1 m) (rs.host_arrays (i + 1) os rows s (spot 1 m))) (same_Some o o1 e1)
      (inl (is_scalar o ex, variable_number v, refl, from_first types v o.kind (scalar_kinds os) types_, fill.0, one_word o fill.0 fill.3, ap (λ z. Some (number_given (word_of o.kind z))) fill.2, vars.0 ∙ ap (word_of o.kind) fill.2))
  top_entry false i v a o os scalars rows s ex behind types_ arrays_ fill vars held (suc j) m o1 em e1 =
      behind (i + 1) (v + 1) a (drop 1 scalars) rows s (from_rest types v o.kind (scalar_kinds os) types_) arrays_ (subst (λ z. FillObjects os z rows) (sym (ap (drop 1) fill.2)) fill.4) vars.1 held j m o1 (omega (arith, em)) e1

  pub top_entries : (os : List CoreObjectTree) → TopBehind os
  top_entries [] i v a scalars rows s types_ arrays_ fill vars held j m o1 em e1 = absurd (none-some o1 e1)
  top_entries (o ∷ os) i v a scalars rows s types_ arrays_ fill vars held j m o1 em e1 = top_entry (is_array o) i v a o os scalars rows s refl (top_entries os) types_ arrays_ fill vars held j m o1 em e1
