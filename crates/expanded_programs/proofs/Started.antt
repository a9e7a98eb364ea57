-- The store that a run of an expanded program starts with.
use Rattle.std.proofs.Common.{◌≡◌, ℕ, suc, ◌+◌, ◌<◌, ◌≤◌, inl, inr, ◌∙◌, sym, refl, ap, subst, Bool, true, false, ◌||◌, List, [], ◌∷◌, ◌++◌, length, slice_get, Some, None, le_refl, arith, if◌then◌else◌, eq-eqb}
use Rattle.std.specs.Prelude.{not, drop, slice_index}
use Rattle.std.proofs.lemmas.Bool.Decides.{eqb_tells}
use Rattle.c_token.specs.declared.ctype.CType.{CType}
use Rattle.c_value.specs.Values.{number_of}
use Rattle.c_meaning.specs.Run.{word_of, head_or_none}
use Rattle.pieces.specs.Resolved.Core.{CoreObjectTree, FileObjectTree}
use Rattle.pieces.specs.Program.{ArrayTree, ExpandedTree}
use Rattle.piece_making.specs.declared.frame.Home.TheVariants as home
use Rattle.piece_making.specs.Making.{variable_number, array_number}
use Rattle.piece_making.specs.Objects.{array_like, first_value}
use Rattle.c_meaning.specs.PieceRuns.Values.{Store, with_variable}
use Rattle.c_meaning.specs.PieceRuns.Pieces.{Frame, type_of, kind_in, kind_at}
use Rattle.c_meaning.specs.PieceRuns.Runs as pr
use Rattle.c_meaning.specs.PieceRuns.Runs.{frame_of, type_in, with_words, with_array, with_arrays, with_kept, with_table, rest_kept, row_of}
use Rattle.c_expand.specs.Expansion as ex
use Rattle.c_expand.specs.Expansion.{is_array, is_kept}
use Rattle.expand_runs.specs.Laws.{OneOf, FillsObject, FillObjects, kept_objects}
use Rattle.expand_runs.specs.Reading.{IsNumber, IsTyped}
use Rattle.expand_runs.proofs.Typing.{number_here, number_other, typed_set}
use Rattle.expanded_programs.specs.Outlines.{keeps_from, kept_kinds, files_of, hosts_of, tops_from, scalar_kinds}
use Rattle.expanded_programs.specs.Contents.{KeptHold, FilesHold, ScalarsHold, HostsHold}
use Rattle.expanded_programs.proofs.Entries.{HasFrom, from_first, from_rest, one_word}
use Rattle.expanded_programs.proofs.Plain.{ArePlain}
use Rattle.expanded_programs.proofs.Words.{word_number, row_number}

-- a scalar or an array of these takes what fits it
abbrev pub Takes : Bool → CoreObjectTree → List CoreObjectTree → List ℕ → List (List ℕ) → Type 0
Takes b o os scalars rows =
    OneOf b ((row : List ℕ) × (rows1 : List (List ℕ)) × (rows ≡ row ∷ rows1) × FillsObject o row × FillObjects os scalars rows1) ((word : ℕ) × (words : List ℕ) × (scalars ≡ word ∷ words) × FillsObject o (word ∷ []) × FillObjects os words rows)

module _ (e : ExpandedTree) where
  abbrev f : Frame
  f = frame_of e

  -- ---- variables

  pub record KeptSet (v : ℕ) (os : List FileObjectTree) (words : List ℕ) (t t' : Store) : Type 0 where
    pub holds : KeptHold v os words t'
    pub below : (i : ℕ) → i < v → t'.variables i ≡ t.variables i
    pub above : (i : ℕ) → v + length (kept_kinds os) ≤ i → t'.variables i ≡ t.variables i
    pub elements : (a j : ℕ) → t'.elements a j ≡ t.elements a j
    pub typed : IsTyped f t → IsTyped f t'

  typed_word : (v : ℕ) (o : CoreObjectTree) (word : ℕ) (words : List ℕ) (t : Store) → slice_get e.variables v ≡ Some o.kind → words ≡ word ∷ drop 1 words → FillsObject o (word ∷ []) → IsTyped f t → IsTyped f (with_variable v (word_of (type_in e (variable_number v)) words) t)
  typed_word v o word words t type is fits typed =
      let type_ : type_in e (variable_number v) ≡ o.kind = ap type_of type in
      typed_set f t v (word_of (type_in e (variable_number v)) words) typed
      (subst (λ k. IsNumber k (word_of k words)) (sym type_) (subst (λ z. IsNumber o.kind (word_of o.kind z)) (sym is) (word_number o.kind word (one_word o word fits))))

  kept_step : (x y : Bool) (v : ℕ) (o : FileObjectTree) (os : List FileObjectTree) (words : List ℕ) (rows : List (List ℕ)) (t : Store) → is_array o.object ≡ x
      → ((v1 : ℕ) (words1 : List ℕ) (rows1 : List (List ℕ)) (t1 : Store) → HasFrom e.variables v1 (kept_kinds os) → FillObjects (kept_objects os) words1 rows1 → KeptSet v1 os words1 t1 (with_words e (pr.variables_of (keeps_from v1 os)) words1 t1))
      → HasFrom e.variables v (if not (x || y) then o.object.kind ∷ kept_kinds os else kept_kinds os) → FillObjects (if y then kept_objects os else o.object ∷ kept_objects os) words rows
      → let t' = with_words e (pr.variables_of (if not (x || y) then record { variable = variable_number v; value = first_value o.first } ∷ keeps_from (v + 1) os else keeps_from v os)) words t in
      OneOf (not (x || y)) ((t'.variables v ≡ word_of o.object.kind words) × KeptHold (v + 1) os (drop 1 words) t') (KeptHold v os words t')
      × ((i : ℕ) → i < v → t'.variables i ≡ t.variables i)
      × ((i : ℕ) → v + length (if not (x || y) then o.object.kind ∷ kept_kinds os else kept_kinds os) ≤ i → t'.variables i ≡ t.variables i)
      × ((a j : ℕ) → t'.elements a j ≡ t.elements a j)
      × (IsTyped f t → IsTyped f t')
  kept_step true true v o os words rows t ex_ h types_ fill = (let q = h v words rows t types_ fill in (q.holds, q.below, q.above, q.elements, q.typed))
  kept_step true false v o os words rows t ex_ h types_ fill =
      let z = subst (λ b. Takes b o.object (kept_objects os) words rows) ex_ fill in
      let q = h v words z.1 t types_ z.4 in (q.holds, q.below, q.above, q.elements, q.typed)
  kept_step false true v o os words rows t ex_ h types_ fill = (let q = h v words rows t types_ fill in (q.holds, q.below, q.above, q.elements, q.typed))
  kept_step false false v o os words rows t ex_ h types_ fill =
      let z = subst (λ b. Takes b o.object (kept_objects os) words rows) ex_ fill in
      let type_ = from_first e.variables v o.object.kind (kept_kinds os) types_ in
      let w = word_of (type_in e (variable_number v)) words in
      let t1 = with_variable v w t in
      let q = h (v + 1) (drop 1 words) rows t1 (from_rest e.variables v o.object.kind (kept_kinds os) types_) (subst (λ y. FillObjects (kept_objects os) y rows) (sym (ap (drop 1) z.2)) z.4) in (
        (q.below v (omega arith) ∙ number_here t.variables v w ∙ ap (λ k. word_of k words) (ap type_of type_), q.holds),
        λ i lt. q.below i (omega (arith, lt)) ∙ number_other t.variables v i w (λ y. omega (arith, lt, y)),
        λ i le. q.above i (omega (arith, le)) ∙ number_other t.variables v i w (λ y. omega (arith, le, y)),
        q.elements,
        λ typed. q.typed (typed_word v o.object z.0 words t type_ (z.2 ∙ ap (λ y. z.0 ∷ y) (sym (ap (drop 1) z.2))) z.3 typed),
      )

  pub kept_set : (os : List FileObjectTree) (v : ℕ) (words : List ℕ) (rows : List (List ℕ)) (t : Store) → HasFrom e.variables v (kept_kinds os) → FillObjects (kept_objects os) words rows → KeptSet v os words t (with_words e (pr.variables_of (keeps_from v os)) words t)
  kept_set [] v words rows t types_ fill = record { holds = tt; below = λ i lt. refl; above = λ i le. refl; elements = λ a j. refl; typed = λ h. h }
  kept_set (o ∷ os) v words rows t types_ fill =
      let q = kept_step (is_array o.object) o.object.constant v o os words rows t refl (λ v1 words1 rows1 t1 a b. kept_set os v1 words1 rows1 t1 a b) types_ fill in
      record { holds = q.0; below = q.1; above = q.2; elements = q.3; typed = q.4 }

  pub record ScalarsSet (v : ℕ) (os : List CoreObjectTree) (words : List ℕ) (t t' : Store) : Type 0 where
    pub holds : ScalarsHold v os words t'
    pub below : (i : ℕ) → i < v → t'.variables i ≡ t.variables i
    pub elements : (a j : ℕ) → t'.elements a j ≡ t.elements a j
    pub typed : IsTyped f t → IsTyped f t'

  scalars_step : (b : Bool) (v a : ℕ) (o : CoreObjectTree) (os : List CoreObjectTree) (words : List ℕ) (rows : List (List ℕ)) (t : Store)
      → ((v1 a1 : ℕ) (words1 : List ℕ) (rows1 : List (List ℕ)) (t1 : Store) → HasFrom e.variables v1 (scalar_kinds os) → FillObjects os words1 rows1 → ScalarsSet v1 os words1 t1 (with_words e (ex.variables_of (tops_from v1 a1 os)) words1 t1))
      → HasFrom e.variables v (if b then scalar_kinds os else o.kind ∷ scalar_kinds os) → Takes b o os words rows
      → let t' = with_words e (ex.variables_of (if b then home.Array (array_number a) ∷ tops_from v (a + 1) os else home.Variable (variable_number v) ∷ tops_from (v + 1) a os)) words t in
      OneOf b (ScalarsHold v os words t') ((t'.variables v ≡ word_of o.kind words) × ScalarsHold (v + 1) os (drop 1 words) t')
      × ((i : ℕ) → i < v → t'.variables i ≡ t.variables i) × ((a1 j : ℕ) → t'.elements a1 j ≡ t.elements a1 j) × (IsTyped f t → IsTyped f t')
  scalars_step true v a o os words rows t h types_ fill = (let q = h v (a + 1) words fill.1 t types_ fill.4 in (q.holds, q.below, q.elements, q.typed))
  scalars_step false v a o os words rows t h types_ fill =
      let type_ = from_first e.variables v o.kind (scalar_kinds os) types_ in
      let w = word_of (type_in e (variable_number v)) words in
      let t1 = with_variable v w t in
      let q = h (v + 1) a (drop 1 words) rows t1 (from_rest e.variables v o.kind (scalar_kinds os) types_) (subst (λ y. FillObjects os y rows) (sym (ap (drop 1) fill.2)) fill.4) in (
        (q.below v (omega arith) ∙ number_here t.variables v w ∙ ap (λ k. word_of k words) (ap type_of type_), q.holds),
        λ i lt. q.below i (omega (arith, lt)) ∙ number_other t.variables v i w (λ y. omega (arith, lt, y)),
        q.elements,
        λ typed. q.typed (typed_word v o fill.0 words t type_ (fill.2 ∙ ap (λ y. fill.0 ∷ y) (sym (ap (drop 1) fill.2))) fill.3 typed),
      )

  pub scalars_set : (os : List CoreObjectTree) (v a : ℕ) (words : List ℕ) (rows : List (List ℕ)) (t : Store) → HasFrom e.variables v (scalar_kinds os) → FillObjects os words rows → ScalarsSet v os words t (with_words e (ex.variables_of (tops_from v a os)) words t)
  scalars_set [] v a words rows t types_ fill = record { holds = tt; below = λ i lt. refl; elements = λ a1 j. refl; typed = λ h. h }
  scalars_set (o ∷ os) v a words rows t types_ fill =
      let q = scalars_step (is_array o) v a o os words rows t (λ v1 a1 words1 rows1 t1 x y. scalars_set os v1 a1 words1 rows1 t1 x y) types_ fill in
      record { holds = q.0; below = q.1; elements = q.2; typed = q.3 }

  -- ---- arrays

  row_here : (a : ℕ) (k : CType) (words : List ℕ) (t : Store) (j : ℕ) → (with_array a k words t).elements a j ≡ number_of k (slice_index words j)
  row_here a k words t j = ap (λ b. (if b then row_of k words else t.elements a) j) (eq-eqb a a refl)

  row_other : (a : ℕ) (k : CType) (words : List ℕ) (t : Store) (d j : ℕ) → d < a → (with_array a k words t).elements d j ≡ t.elements d j
  row_other a k words t d j lt = elim (eqb_tells a d) [ inl h ↦ absurd (let q = h.1 in omega (arith, lt, q)) | inr h ↦ ap (λ b. (if b then row_of k words else t.elements d) j) h.0 ]

  typed_row : (a : ℕ) (k : CType) (words : List ℕ) (t : Store) → kind_at e.arrays a ≡ k → ((j : ℕ) → IsNumber k (number_of k (slice_index words j))) → IsTyped f t → IsTyped f (with_array a k words t)
  typed_row a k words t kind_ number typed = record {
    variables = typed.variables;
    elements = λ d j. elim (eqb_tells a d) [
      | inl h ↦ subst (λ z. IsNumber (kind_at e.arrays z) ((with_array a k words t).elements z j)) h.1 (subst (IsNumber (kind_at e.arrays a)) (sym (row_here a k words t j)) (subst (λ z. IsNumber z (number_of k (slice_index words j))) (sym kind_) (number j)))
      | inr h ↦ subst (IsNumber (kind_at e.arrays d)) (sym (ap (λ b. (if b then row_of k words else t.elements d) j) h.0)) (typed.elements d j)
    ];
  }

  pub record ArraysSet (Q : Type 0) (Holds : Store → Type 0) (xs rest : List ArrayTree) (i : ℕ) (host file : List (List ℕ)) (t : Store) : Type 0 where
    pub after : Store
    pub host_left : List (List ℕ)
    pub file_left : List (List ℕ)
    pub same : with_arrays (xs ++ rest) i host file t ≡ with_arrays rest (i + length xs) host_left file_left after
    pub file_same : Q → file_left ≡ file
    pub holds : Holds after
    pub variables : (u : ℕ) → after.variables u ≡ t.variables u
    pub below : (a j : ℕ) → a < i → after.elements a j ≡ t.elements a j
    pub typed : IsTyped f t → IsTyped f after

  index_more : (rest : List ArrayTree) (i m : ℕ) (host file : List (List ℕ)) (t : Store) → with_arrays rest (i + 1 + m) host file t ≡ with_arrays rest (i + suc m) host file t
  index_more rest i m host file t = ap (λ z. with_arrays rest z host file t) (let z : i + 1 + m ≡ i + suc m = omega arith in z)

  kind_first : (i : ℕ) (a : ArrayTree) (xs : List ArrayTree) → HasFrom e.arrays i (a ∷ xs) → kind_at e.arrays i ≡ a.kind
  kind_first i a xs h = ap kind_in (from_first e.arrays i a xs h)

  hosts_step : (b : Bool) (i : ℕ) (o : CoreObjectTree) (os : List CoreObjectTree) (rest : List ArrayTree) (words : List ℕ) (host file : List (List ℕ)) (t : Store)
      → ((i1 : ℕ) (words1 : List ℕ) (host1 : List (List ℕ)) (t1 : Store) → HasFrom e.arrays i1 (hosts_of os) → FillObjects os words1 host1 → ArraysSet (Unit {0}) (HostsHold i1 os host1) (hosts_of os) rest i1 host1 file t1)
      → HasFrom e.arrays i (if b then array_like o None None true ∷ hosts_of os else hosts_of os) → Takes b o os words host
      → ArraysSet (Unit {0}) (λ t'. OneOf b (((j : ℕ) → t'.elements i j ≡ number_of o.kind (slice_index (head_or_none host) j)) × HostsHold (i + 1) os (drop 1 host) t') (HostsHold i os host t')) (if b then array_like o None None true ∷ hosts_of os else hosts_of os) rest i host file t
  hosts_step false i o os rest words host file t h arrays_ fill =
      let q = h i fill.1 host t arrays_ fill.4 in
      record { after = q.after; host_left = q.host_left; file_left = q.file_left; same = q.same; file_same = q.file_same; holds = q.holds; variables = q.variables; below = q.below; typed = q.typed }
  hosts_step true i o os rest words host file t h arrays_ fill =
      let a = array_like o None None true in
      let head_ = head_or_none host in
      let t1 = with_array i o.kind head_ t in
      let q = h (i + 1) words (drop 1 host) t1 (from_rest e.arrays i a (hosts_of os) arrays_) (subst (λ y. FillObjects os words y) (sym (ap (drop 1) fill.2)) fill.4) in
      record {
        after = q.after;
        host_left = q.host_left;
        file_left = q.file_left;
        same = q.same ∙ index_more rest i (length (hosts_of os)) q.host_left q.file_left q.after;
        file_same = q.file_same;
        holds = ((λ j. q.below i j (omega arith) ∙ row_here i o.kind head_ t j), q.holds);
        variables = q.variables;
        below = λ d j lt. q.below d j (omega (arith, lt)) ∙ row_other i o.kind head_ t d j lt;
        typed = λ typed. q.typed (typed_row i o.kind head_ t (kind_first i a (hosts_of os) arrays_) (subst (λ z. (j : ℕ) → IsNumber o.kind (number_of o.kind (slice_index z j))) (sym (ap head_or_none fill.2)) (row_number o.kind fill.0 fill.3.1)) typed);
      }

  pub hosts_set : (os : List CoreObjectTree) (rest : List ArrayTree) (i : ℕ) (words : List ℕ) (host file : List (List ℕ)) (t : Store) → HasFrom e.arrays i (hosts_of os) → FillObjects os words host → ArraysSet (Unit {0}) (HostsHold i os host) (hosts_of os) rest i host file t
  hosts_set [] rest i words host file t arrays_ fill =
      record { after = t; host_left = host; file_left = file; same = ap (λ z. with_arrays rest z host file t) (let z : i ≡ i + 0 = omega arith in z); file_same = λ u. refl; holds = tt; variables = λ u. refl; below = λ a j lt. refl; typed = λ h. h }
  hosts_set (o ∷ os) rest i words host file t arrays_ fill =
      let q = hosts_step (is_array o) i o os rest words host file t (λ i1 words1 host1 t1 x y. hosts_set os rest i1 words1 host1 file t1 x y) arrays_ fill in
      record { after = q.after; host_left = q.host_left; file_left = q.file_left; same = q.same; file_same = q.file_same; holds = q.holds; variables = q.variables; below = q.below; typed = q.typed }

  files_step : (x y : Bool) (i : ℕ) (o : FileObjectTree) (os : List FileObjectTree) (rest : List ArrayTree) (words : List ℕ) (host file : List (List ℕ)) (t : Store) → is_array o.object ≡ x → (y ≡ true → FillsObject o.object o.first)
      → ((i1 : ℕ) (words1 : List ℕ) (file1 : List (List ℕ)) (t1 : Store) → HasFrom e.arrays i1 (files_of os) → FillObjects (kept_objects os) words1 file1 → ArraysSet ⊥ (FilesHold i1 os file1) (files_of os) rest i1 host file1 t1)
      → HasFrom e.arrays i (if x then (if y then array_like o.object (Some o.first) None false else array_like o.object None (Some o.first) false) ∷ files_of os else files_of os) → FillObjects (if y then kept_objects os else o.object ∷ kept_objects os) words file
      → ArraysSet ⊥ (λ t'. OneOf x (((j : ℕ) → t'.elements i j ≡ number_of o.object.kind (slice_index (if y then o.first else head_or_none file) j)) × FilesHold (i + 1) os (if y then file else drop 1 file) t') (FilesHold i os file t'))
      (if x then (if y then array_like o.object (Some o.first) None false else array_like o.object None (Some o.first) false) ∷ files_of os else files_of os) rest i host file t
  files_step false true i o os rest words host file t ex_ const h arrays_ fill =
      (let q = h i words file t arrays_ fill in record { after = q.after; host_left = q.host_left; file_left = q.file_left; same = q.same; file_same = λ u. absurd u; holds = q.holds; variables = q.variables; below = q.below; typed = q.typed })
  files_step false false i o os rest words host file t ex_ const h arrays_ fill =
      let z = subst (λ b. Takes b o.object (kept_objects os) words file) ex_ fill in
      let q = h i z.1 file t arrays_ z.4 in
      record { after = q.after; host_left = q.host_left; file_left = q.file_left; same = q.same; file_same = λ u. absurd u; holds = q.holds; variables = q.variables; below = q.below; typed = q.typed }
  files_step true true i o os rest words host file t ex_ const h arrays_ fill =
      let a = array_like o.object (Some o.first) None false in
      let t1 = with_array i o.object.kind o.first t in
      let q = h (i + 1) words file t1 (from_rest e.arrays i a (files_of os) arrays_) fill in
      record {
        after = q.after;
        host_left = q.host_left;
        file_left = q.file_left;
        same = q.same ∙ index_more rest i (length (files_of os)) q.host_left q.file_left q.after;
        file_same = λ u. absurd u;
        holds = ((λ j. q.below i j (omega arith) ∙ row_here i o.object.kind o.first t j), q.holds);
        variables = q.variables;
        below = λ d j lt. q.below d j (omega (arith, lt)) ∙ row_other i o.object.kind o.first t d j lt;
        typed = λ typed. q.typed (typed_row i o.object.kind o.first t (kind_first i a (files_of os) arrays_) (row_number o.object.kind o.first (const refl).1) typed);
      }
  files_step true false i o os rest words host file t ex_ const h arrays_ fill =
      let z = subst (λ b. Takes b o.object (kept_objects os) words file) ex_ fill in
      let a = array_like o.object None (Some o.first) false in
      let head_ = head_or_none file in
      let t1 = with_array i o.object.kind head_ t in
      let q = h (i + 1) words (drop 1 file) t1 (from_rest e.arrays i a (files_of os) arrays_) (subst (λ y. FillObjects (kept_objects os) words y) (sym (ap (drop 1) z.2)) z.4) in
      record {
        after = q.after;
        host_left = q.host_left;
        file_left = q.file_left;
        same = q.same ∙ index_more rest i (length (files_of os)) q.host_left q.file_left q.after;
        file_same = λ u. absurd u;
        holds = ((λ j. q.below i j (omega arith) ∙ row_here i o.object.kind head_ t j), q.holds);
        variables = q.variables;
        below = λ d j lt. q.below d j (omega (arith, lt)) ∙ row_other i o.object.kind head_ t d j lt;
        typed = λ typed. q.typed (typed_row i o.object.kind head_ t (kind_first i a (files_of os) arrays_) (subst (λ y. (j : ℕ) → IsNumber o.object.kind (number_of o.object.kind (slice_index y j))) (sym (ap head_or_none z.2)) (row_number o.object.kind z.0 z.3.1)) typed);
      }

  abbrev pub ConstantsFill : List FileObjectTree → Type 0
  ConstantsFill os = (i : ℕ) (o : FileObjectTree) → slice_get os i ≡ Some o → o.object.constant ≡ true → FillsObject o.object o.first

  pub files_set : (os : List FileObjectTree) (rest : List ArrayTree) (i : ℕ) (words : List ℕ) (host file : List (List ℕ)) (t : Store) → ConstantsFill os → HasFrom e.arrays i (files_of os) → FillObjects (kept_objects os) words file → ArraysSet ⊥ (FilesHold i os file) (files_of os) rest i host file t
  files_set [] rest i words host file t const arrays_ fill =
      record { after = t; host_left = host; file_left = file; same = ap (λ z. with_arrays rest z host file t) (let z : i ≡ i + 0 = omega arith in z); file_same = λ u. absurd u; holds = tt; variables = λ u. refl; below = λ a j lt. refl; typed = λ h. h }
  files_set (o ∷ os) rest i words host file t const arrays_ fill =
      let q = files_step (is_array o.object) o.object.constant i o os rest words host file t refl (const 0 o refl) (λ i1 words1 file1 t1 x y. files_set os rest i1 words1 host file1 t1 (λ j o1 e1. const (suc j) o1 e1) x y) arrays_ fill in
      record { after = q.after; host_left = q.host_left; file_left = q.file_left; same = q.same; file_same = λ u. absurd u; holds = q.holds; variables = q.variables; below = q.below; typed = q.typed }

  -- arrays of declarations hold what they happen to hold
  pub plain_rest : (xs : List ArrayTree) (i : ℕ) (host file : List (List ℕ)) (t : Store) → ArePlain xs → with_arrays xs i host file t ≡ t
  plain_rest [] i host file t h = refl
  plain_rest (a ∷ xs) i host file t h =
      ap (λ b. if b then with_arrays xs (i + 1) (drop 1 host) file (with_array i a.kind (head_or_none host) t) else with_arrays xs (i + 1) host (rest_kept a.initial file) (with_table a.table i a.kind (with_kept a.initial i a.kind file t))) h.0.host
      ∙ ap (λ z. with_arrays xs (i + 1) host (rest_kept z file) (with_table a.table i a.kind (with_kept z i a.kind file t))) h.0.initial
      ∙ ap (λ z. with_arrays xs (i + 1) host file (with_table z i a.kind t)) h.0.table
      ∙ plain_rest xs (i + 1) host file t h.1

  -- ---- what holds still

  one_same : (b : Bool) (A B A' B' : Type 0) → (A → A') → (B → B') → OneOf b A B → OneOf b A' B'
  one_same true A B A' B' f1 g1 h = f1 h
  one_same false A B A' B' f1 g1 h = g1 h

  pub kept_same : (os : List FileObjectTree) (v : ℕ) (words : List ℕ) (t t' : Store) → ((u : ℕ) → t'.variables u ≡ t.variables u) → KeptHold v os words t → KeptHold v os words t'
  kept_same [] v words t t' same h = tt
  kept_same (o ∷ os) v words t t' same h = one_same (is_kept o) _ _ _ _ (λ q. (same v ∙ q.0, kept_same os (v + 1) (drop 1 words) t t' same q.1)) (λ q. kept_same os v words t t' same q) h

  pub scalars_same : (os : List CoreObjectTree) (v : ℕ) (words : List ℕ) (t t' : Store) → ((u : ℕ) → v ≤ u → t'.variables u ≡ t.variables u) → ScalarsHold v os words t → ScalarsHold v os words t'
  scalars_same [] v words t t' same h = tt
  scalars_same (o ∷ os) v words t t' same h =
      one_same (is_array o) _ _ _ _ (λ q. scalars_same os v words t t' same q) (λ q. (same v (le_refl v) ∙ q.0, scalars_same os (v + 1) (drop 1 words) t t' (λ u le. same u (omega (arith, le))) q.1)) h

  hosts_step_same : (b : Bool) (o : CoreObjectTree) (os : List CoreObjectTree) (i n : ℕ) (rows : List (List ℕ)) (t t' : Store) → ((i1 : ℕ) (rows1 : List (List ℕ)) → i1 + length (hosts_of os) ≤ n → HostsHold i1 os rows1 t → HostsHold i1 os rows1 t')
      → ((a j : ℕ) → a < n → t'.elements a j ≡ t.elements a j) → i + length (if b then array_like o None None true ∷ hosts_of os else hosts_of os) ≤ n
      → OneOf b (((j : ℕ) → t.elements i j ≡ number_of o.kind (slice_index (head_or_none rows) j)) × HostsHold (i + 1) os (drop 1 rows) t) (HostsHold i os rows t)
      → OneOf b (((j : ℕ) → t'.elements i j ≡ number_of o.kind (slice_index (head_or_none rows) j)) × HostsHold (i + 1) os (drop 1 rows) t') (HostsHold i os rows t')
  hosts_step_same true o os i n rows t t' ih same le h = ((λ j. same i j (omega (arith, le)) ∙ h.0 j), ih (i + 1) (drop 1 rows) (omega (arith, le)) h.1)
  hosts_step_same false o os i n rows t t' ih same le h = ih i rows le h

  pub hosts_same : (os : List CoreObjectTree) (i n : ℕ) (rows : List (List ℕ)) (t t' : Store) → ((a j : ℕ) → a < n → t'.elements a j ≡ t.elements a j) → i + length (hosts_of os) ≤ n → HostsHold i os rows t → HostsHold i os rows t'
  hosts_same [] i n rows t t' same le h = tt
  hosts_same (o ∷ os) i n rows t t' same le h = hosts_step_same (is_array o) o os i n rows t t' (λ i1 rows1 le1 h1. hosts_same os i1 n rows1 t t' same le1 h1) same le h
