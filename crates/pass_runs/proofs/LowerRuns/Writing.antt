-- An element that is written is in its memory, and all other elements are as they were.
use Rattle.std.proofs.Common.{◌≡◌, ◌∙◌, ℕ, Bool, true, false, refl, ap, sym, subst, arith, inl, inr, ℤ, List, [], ◌∷◌, ◌++◌, map, length, length-append, Some, None, if◌then◌else◌}
use Rattle.std.specs.Prelude.{slice_get, unsigned_abs, ◌==◌}
use Rattle.std.proofs.lemmas.Bool.Decides.{eqb_tells}
use Rattle.hls_base.specs.declared.place.Place.{Place}
use Rattle.hls_base.specs.declared.number.ArrayId.{ArrayId}
use Rattle.hls_base.specs.declared.refusal.UbRule.TheVariants as ub
use Rattle.c_token.specs.declared.ctype.CType.{CType}
use Rattle.c_value.specs.Values.{width, convert}
use Rattle.c_meaning.proofs.ElementLaws.{places_law}
use Rattle.pieces.specs.Trees.{PureTree, PureTrees}
use Rattle.ir_core.specs.declared.body.OpKind.TheVariants as o
use Rattle.ir_core.specs.declared.body.Source.{Source}
use Rattle.ir_core.specs.declared.body.Source.TheVariants as source
use Rattle.hls_base.specs.Valued.{is}
use Rattle.c_meaning.specs.PieceRuns.Values.{Store, with_row, with_element, lengths_in, element_number, value, values}
use Rattle.c_meaning.specs.PieceRuns.Pieces.{Frame, kind_at}
use Rattle.ir_core.specs.Bodies as block
use Rattle.ir_core.specs.Bodies.{OpTree, Shapes, Words, Ranged, performed, word, operand, address_of, dims_of, is_within, with_memory_word, subscripts, stored, effect, first_bits, perform}
use Rattle.ir_core.specs.Trees.{BlockTree}
use Rattle.passes.specs.Lowering.Operations.{flagged, assigned}
use Rattle.passes.specs.Lowering.Outs.{held}
use Rattle.passes.specs.Lowering.Expressions.{emitted, emitted_all}
use Rattle.passes.specs.Lowering.Blocks.{element_type, put}
use Rattle.pass_runs.specs.LowerRuns.Early.{IsEarly}
use Rattle.pass_runs.specs.LowerRuns.OperatorWords.Words.{IsWord, ConversionsAgree, OperatorsAgree, NaturalsAreWords}
use Rattle.pass_runs.specs.LowerRuns.Suits.{Suits, EachSuits, shapes_of, scope_of}
use Rattle.pass_runs.proofs.LowerRuns.Growing.{early_more, word_more, bits_more, grows_on}
use Rattle.pass_runs.proofs.LowerRuns.Adding.{stands_more}
use Rattle.pass_runs.proofs.LowerRuns.Converting.{assigned_makes}
use Rattle.pass_runs.proofs.LowerRuns.Operating.{no_fault, args_grow}
use Rattle.pass_runs.proofs.LowerRuns.Showing.{shows_grows, dims_same, AreWords, within_dims, words_are}
use Rattle.pass_runs.proofs.LowerRuns.Storing.{same_subscripts, all_but_last, last_one}
use Rattle.pass_runs.proofs.LowerRuns.Values.{emitted_evals, all_evals}
use Rattle.pass_runs.proofs.LowerRuns.Straight.{Shown}
use Rattle.pass_runs.specs.LowerRuns.Standing.{Stands}
use Rattle.pass_runs.specs.LowerRuns.Showing.{ArraysShown, Shows, AreShort}

-- ---- memories

same_place : (i j : ℕ) → Some i ≡ Some j → i ≡ j
same_place i j e = cc

module _ (f : Frame) (a : ℕ) (subs : List ℤ) (i : ℕ) (short : AreShort (lengths_in (slice_get f.arrays a))) (there : element_number f.arrays a subs ≡ Some i) where
  dims : List ℕ
  dims = lengths_in (slice_get f.arrays a)

  pub written_shown : (memories : ℕ → ℕ → ℕ) (elements : ℕ → ℕ → ℤ) (v : ℤ) (w : ℕ) → ArraysShown f memories elements → IsWord (kind_at f.arrays a) v w
      → ArraysShown f (block.with_element a (address_of (lengths_in (slice_get f.arrays a)) (map unsigned_abs subs)) w memories) (with_row elements a i v)
  written_shown memories elements v w shown is_ b js j e = elim (eqb_tells a b) [
    | inl h ↦ here h.0 h.1
    | inr h ↦
        subst (λ c. IsWord (kind_at f.arrays b) ((if c then other_number b else elements b) j) ((if c then other_word b else memories b) (at b js))) (sym h.0) (shown b js j e)
  ] where
    other_number : ℕ → ℕ → ℤ
    other_number b = λ z. if i == z then v else elements b z

    address : ℕ
    address = address_of (lengths_in (slice_get f.arrays a)) (map unsigned_abs subs)

    other_word : ℕ → ℕ → ℕ
    other_word b = λ z. if address_of (lengths_in (slice_get f.arrays a)) (map unsigned_abs subs) == z then w else memories b z

    at : ℕ → List ℤ → ℕ
    at b js = address_of (lengths_in (slice_get f.arrays b)) (map unsigned_abs js)

    element : (c : Bool) → (i ≡ j) → (address_of (lengths_in (slice_get f.arrays a)) (map unsigned_abs subs) ≡ at a js) → IsWord (kind_at f.arrays a) (if i == j then v else elements a j) (if address_of (lengths_in (slice_get f.arrays a)) (map unsigned_abs subs) == at a js then w else memories a (at a js))
    element c same same_address = elim (eqb_tells i j) [
      | inl h ↦
          elim (eqb_tells (address_of (lengths_in (slice_get f.arrays a)) (map unsigned_abs subs)) (at a js)) [
            | inl g ↦ subst (λ c. IsWord (kind_at f.arrays a) (if c then v else elements a j) (if address_of (lengths_in (slice_get f.arrays a)) (map unsigned_abs subs) == at a js then w else memories a (at a js))) (sym h.0)
                (subst (λ c. IsWord (kind_at f.arrays a) v (if c then w else memories a (at a js))) (sym g.0) is_)
            | inr g ↦ absurd (g.1 same_address)
          ]
      | inr h ↦ absurd (h.1 same)
    ]

    in_array : (element_number f.arrays a js ≡ Some j) → IsWord (kind_at f.arrays a) (if i == j then v else elements a j) (if address_of (lengths_in (slice_get f.arrays a)) (map unsigned_abs subs) == at a js then w else memories a (at a js))
    in_array found = elim (eqb_tells i j) [
      | inl h ↦
          let same : subs ≡ js = places_law.apart (lengths_in (slice_get f.arrays a)) subs js j (there ∙ ap Some h.1) found in
          element true h.1 (ap (λ l. address_of (lengths_in (slice_get f.arrays a)) (map unsigned_abs l)) same)
      | inr h ↦
          elim (eqb_tells (address_of (lengths_in (slice_get f.arrays a)) (map unsigned_abs subs)) (at a js)) [
            | inl g ↦
                let same : subs ≡ js = same_subscripts (lengths_in (slice_get f.arrays a)) subs js i j short there found g.1 in
                absurd (h.1 (same_place i j (sym there ∙ ap (element_number f.arrays a) same ∙ found)))
            | inr g ↦ subst (λ c. IsWord (kind_at f.arrays a) (if c then v else elements a j) (if address_of (lengths_in (slice_get f.arrays a)) (map unsigned_abs subs) == at a js then w else memories a (at a js))) (sym h.0)
                (subst (λ c. IsWord (kind_at f.arrays a) (elements a j) (if c then w else memories a (at a js))) (sym g.0) (shown a js j found))
          ]
    ]

    here : (a == b) ≡ true → a ≡ b → IsWord (kind_at f.arrays b) (with_row elements a i v b j) (block.with_element a (address_of (lengths_in (slice_get f.arrays a)) (map unsigned_abs subs)) w memories b (at b js))
    here e1 e2 =
        subst (λ c. IsWord (kind_at f.arrays b) ((if c then other_number b else elements b) j) ((if c then other_word b else memories b) (at b js))) (sym e1)
        (subst (λ z. IsWord (kind_at f.arrays z) (if i == j then v else elements z j) (if address_of (lengths_in (slice_get f.arrays a)) (map unsigned_abs subs) == at z js then w else memories z (at z js))) e2
        (in_array (subst (λ z. element_number f.arrays z js ≡ Some j) (sym e2) e)))

-- ---- the store

map_last : {A : Type 0} (g : A → ℕ) (xs : List A) (x : A) → map g (xs ++ x ∷ []) ≡ map g xs ++ g x ∷ []
map_last g [] x = refl
map_last g (y ∷ ys) x = ap (λ l. g y ∷ l) (map_last g ys x)

-- the words that variables and operations have are those from before
word_after : (t1 : Words) (a address w : ℕ) (results more : List ℕ) (s : Source) → IsEarly (length results) s → word (with_memory_word a address w t1) (results ++ more) s ≡ word t1 results s
word_after t1 a address w results more (source.Constant n) h = refl
word_after t1 a address w results more (source.Variable v) h = refl
word_after t1 a address w results more (source.Result op) h = word_more t1 results more (source.Result op) h

module _ (f : Frame) (hidden : ℕ → Bool) (t : Words) (agree : ConversionsAgree) (operators : OperatorsAgree) (natural : NaturalsAreWords) (b : BlockTree) (r : Ranged) (s : Store) (here : Stands (shapes_of f) t b.ops r)
    (before : Shows f hidden b.outs b.ops r s) where
  pub put_shown : (array : ArrayId) (subs : PureTrees) (x : PureTree) (at : Place) (k : CType) (is_ : List ℤ) (i : ℕ) (n : ℤ) → kind_at f.arrays array.0 ≡ k → element_type (scope_of f) array ≡ k → AreShort (lengths_in (slice_get f.arrays array.0))
      → EachSuits f hidden subs → Suits f hidden x → values f.arrays subs s ≡ is is_ → value f.arrays x s ≡ is n → element_number f.arrays array.0 is_ ≡ Some i
      → Shown f hidden t agree operators natural b r s here before (put (scope_of f) array subs x at b) hidden (with_element array.0 i (convert k n) s)
  put_shown array subs x at k is_ i n type type' short suits_subs suits_x subs_are x_is there =
      let sh = shapes_of f in
      let row = emitted_all b.outs subs b.ops [] in
      let rows = all_evals f hidden t agree operators natural b.outs s subs suits_subs b.ops r [] [] here tt before (λ all. (is_, subs_are)) in
      let e = emitted b.outs x row.ops row.guards in
      let evals = emitted_evals f hidden t agree operators natural b.outs s x suits_x row.ops rows.next row.guards [] rows.stands rows.under (shows_grows f hidden b.outs b.ops row.ops r rows.next s rows.grows before) (λ all. (n, x_is)) in
      let y = assigned e.ops e.given k in
      let ym = assigned_makes sh t agree e.ops evals.next e.given k evals.stands evals.fits in
      let ya = ym.1 in
      let r1 = ya.next in
      let row_to_y = grows_on sh row.ops e.ops y.ops rows.next evals.next r1 evals.grows ya.grows in
      let to_y = grows_on sh b.ops row.ops y.ops r rows.next r1 rows.grows row_to_y in
      let old = shows_grows f hidden b.outs b.ops y.ops r r1 s to_y before in
      let args = row.operands ++ y.operand ∷ [] in
      let ws = map (operand r1.words r1.results) row.operands in
      let wy = operand r1.words r1.results y.operand in
      let wargs = map (operand r1.words r1.results) args in
      let split : wargs ≡ ws ++ wy ∷ [] = map_last (operand r1.words r1.results) row.operands y.operand in
      let are : AreWords ws is_ = subst (λ l. AreWords l is_) (sym (args_grow sh row.ops y.ops rows.next r1 row_to_y row.operands rows.early)) (rows.has refl is_ subs_are) in
      let dims_are : dims_of sh array ≡ lengths_in (slice_get f.arrays array.0) = dims_same f.arrays array.0 in
      let subs_of : subscripts wargs ≡ ws = ap subscripts split ∙ all_but_last ws wy in
      let word_of : stored wargs ≡ wy = ap stored split ∙ last_one ws wy in
      let numbers : ws ≡ map unsigned_abs is_ = words_are natural (lengths_in (slice_get f.arrays array.0)) ws is_ i are there in
      let within : is_within (dims_of sh array) (subscripts wargs) ≡ true =
      ap (is_within (dims_of sh array)) subs_of ∙ ap (λ d. is_within d ws) dims_are ∙ within_dims natural (lengths_in (slice_get f.arrays array.0)) ws is_ i are there in
      let op = flagged o.Store false (width k) args (Some array) at None in
      let address = address_of (dims_of sh array) (subscripts wargs) in
      let t2 = with_memory_word array.0 address (stored wargs) r1.words in
      let does : (later : List OpTree) → perform sh (y.ops ++ later) op r1.results r1.words ≡ is (performed 0 t2) =
      λ later. no_fault true at (is_within (dims_of sh array) (subscripts wargs)) ub.Index (performed 0 t2) (λ e. within) in
      let address_is : address ≡ address_of (lengths_in (slice_get f.arrays array.0)) (map unsigned_abs is_) = ap (address_of (dims_of sh array)) (subs_of ∙ numbers) ∙ ap (λ d. address_of d (map unsigned_abs is_)) dims_are in
      let value_is : IsWord (kind_at f.arrays array.0) (convert k n) (stored wargs) =
      subst (λ l. IsWord l (convert k n) (stored wargs)) (sym type) (subst (λ w. IsWord k (convert k n) w) (sym (word_of ∙ ya.holds)) (ym.2 n (evals.has refl n x_is))) in
      let shown : ArraysShown f t2.memories (with_row s.elements array.0 i (convert k n)) =
      subst (λ z. ArraysShown f (block.with_element array.0 z (stored wargs) r1.words.memories) (with_row s.elements array.0 i (convert k n))) (sym address_is)
      (written_shown f array.0 is_ i short there r1.words.memories s.elements (convert k n) (stored wargs) old.arrays value_is) in
      let behind : Shown f hidden t agree operators natural b r s here before (record b { ops = y.ops ++ op ∷ [] }) hidden (with_element array.0 i (convert k n) s) = record {
        next = record { results = r1.results ++ 0 ∷ []; words = t2 };
        stands = stands_more sh t y.ops r1 op (performed 0 t2) ya.stands does;
        shows = record {
          fits = λ j l e1.
              (let g = old.fits j l e1 in
              let longer = length-append r1.results (0 ∷ []) in
              record { early = early_more (length r1.results) (length (r1.results ++ 0 ∷ [])) (omega (arith, longer)) (held b.outs j).value g.early; wide = bits_more sh y.ops (op ∷ []) (width l) (held b.outs j).value g.wide });
          variables = λ j l e1 apart.
              subst (λ w. IsWord l (s.variables j.0) w) (sym (word_after r1.words array.0 address (stored wargs) r1.results (0 ∷ []) (held b.outs j).value (old.fits j l e1).early)) (old.variables j l e1 apart);
          arrays = shown;
        };
      } in
      let all = λ (k : CType).
      let z = assigned e.ops e.given k in
      record b { ops = z.ops ++ flagged o.Store false (width k) (row.operands ++ z.operand ∷ []) (Some array) at None ∷ [] } in
      subst (λ k1. Shown f hidden t agree operators natural b r s here before (all k1) hidden (with_element array.0 i (convert k n) s)) (sym type') behind
