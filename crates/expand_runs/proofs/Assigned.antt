-- Assignments inside expressions: the value stands in a variable of its own, which is then assigned.
use Rattle.std.proofs.Common.{◌≡◌, ℕ, ◌≤◌, ◌<◌, ◌∙◌, inr, sym, refl, ap, subst, ℤ, Bool, true, false, List, [], ◌∷◌, ◌++◌, append-nil, length, Option, Some, None, le_refl, le_trans, arith}
use Rattle.std.proofs.lemmas.List.{length-append}
use Rattle.hls_base.specs.declared.place.Place.{Place}
use Rattle.c_token.specs.declared.ctype.CType.{CType}
use Rattle.c_value.specs.Values.{convert}
use Rattle.pieces.specs.Resolved.Core as core
use Rattle.pieces.specs.Resolved.Core.{CoreTree}
use Rattle.pieces.specs.Trees as tree
use Rattle.pieces.specs.Trees.{PureTree, PureTrees, PieceTree}
use Rattle.piece_making.specs.declared.frame.Home.{Home}
use Rattle.piece_making.specs.Making.{State, fresh, variable_number}
use Rattle.piece_making.specs.Calls.{Call}
use Rattle.hls_base.specs.Steps.{Ran, goes, then_}
use Rattle.hls_base.specs.Valued.{is}
use Rattle.hls_base.specs.Same.{Same}
use Rattle.c_meaning.specs.CoreRuns.Kinds.{kind_of}
use Rattle.c_meaning.specs.CoreRuns.Cells.{Spot, Cells, Here}
use Rattle.c_meaning.specs.CoreRuns.Expressions as ce
use Rattle.c_meaning.specs.PieceRuns.Values.{Store, value, with_variable}
use Rattle.c_meaning.specs.PieceRuns.Pieces.{Frame, on, type_of}
use Rattle.expand_runs.specs.Reading.{IsNumber, IsTyped, variable_type, UnaryFits, BinaryFits}
use Rattle.expand_runs.specs.Growing.{IsWithin}
use Rattle.expand_runs.specs.Showing.{Known, IsShown}
use Rattle.expand_runs.specs.Sound.{Objects, Reads}
use Rattle.expand_runs.specs.Worlds.{IsWorld}
use Rattle.expand_runs.proofs.Sames.{same_more}
use Rattle.expand_runs.proofs.Rows.{run_of}
use Rattle.expand_runs.proofs.Growing.{last_one}
use Rattle.expand_runs.proofs.Going.{Goes, goes_set}
use Rattle.expand_runs.proofs.Typing.{number_here, number_other, typed_set, converted_number}
use Rattle.expand_runs.proofs.Showing.{shown_apart}
use Rattle.expand_runs.proofs.Evaluating.{on_same, goes_first}
use Rattle.expand_runs.proofs.Operands.{value_more}
use Rattle.expand_runs.proofs.ExpressionParts.{Result}
use Rattle.expand_runs.proofs.Stores.{Stored}

-- What is stored depends on the converted number alone.
pub stored_converted : (i : Option ℕ) (x : Spot) (kd : CType) (r : ℤ) (place : Place) (s : Cells) (n : ℕ) → ce.store_place i x kd (convert kd r) place s n ≡ ce.store_place i x kd r place s n
stored_converted None x kd r place s n = refl
stored_converted (Some i) x kd r place s n = ap (λ z. goes z (ce.written x i z s) n) (converted_number kd r)

module _ (unary_fits : UnaryFits) (binary_fits : BinaryFits) (f : Frame) (k : ℕ) (here : Here) (c : Call) (o : Objects) (Homes : Spot → Home → Type 0) (Lives : Spot → Type 0) (kinds : Known) (base : ℕ)
    (world : IsWorld f here c o Homes Lives kinds base) where
  -- The value is set first, and is there still behind the assignment.
  pub own_stored : (used : Bool) (e : CoreTree) (kd : CType) (y : PureTree) (low : ℕ) (st : State) (s : Cells) (t : Store) (r : ℤ) (n : ℕ) (q : Ran Cells ℤ) (ys : List PieceTree) → kind_of e ≡ kd → base ≤ low → low ≤ length st.variables → IsWithin (fresh kd st).state f
      → value f.arrays y t ≡ is r → IsShown f Homes Lives kinds s t → IsTyped f t
      → ((t1 : Store) → t1 ≡ with_variable (length st.variables) (convert kd r) t → IsShown f Homes Lives kinds s t1 → IsTyped f t1 → Same false k (Stored f k here c o Homes Lives kinds base world kd r t1) q (run_of f ys t1 n))
      → Same false k (Result unary_fits binary_fits f k here c o Homes Lives kinds base world used e low (length (fresh kd st).state.variables) (tree.variable (fresh kd st).value kd)) q (run_of f ((tree.set (fresh kd st).value y ∷ []) ++ (ys ++ [])) t n)
  unfolding fresh
  own_stored used e kd y low st s t r n q ys type low_base low_st within there shown typed next =
      let own = length st.variables in
      let u = convert kd r in
      let t1 = with_variable own u t in
      let own_type : variable_type f own ≡ kd = ap type_of (within.variables own kd (last_one st.variables kd)) in
      let Q = Result unary_fits binary_fits f k here c o Homes Lives kinds base world used e low (length (st.variables ++ kd ∷ [])) (tree.variable (variable_number own) kd) in
      let S = Stored f k here c o Homes Lives kinds base world kd r t1 in
      let longer = length-append st.variables (kd ∷ []) in
      goes_first f k Q (tree.set (variable_number own) y ∷ []) (ys ++ []) q t t1 n
      (λ m. goes_set f own y t r there m ∙ ap (λ z. goes on (with_variable own (convert z r) t) m) own_type)
      (subst (λ zs. Same false k Q q (run_of f zs t1 n)) (sym (append-nil ys))
      (same_more k k S Q q (run_of f ys t1 n) (le_refl k) (λ v s1 w t2 h. record {
        done = h.done;
        value = λ m. record {
          same = ap is (h.kept own (le_trans low_base low_st) ∙ number_here t.variables own u ∙ sym h.number);
          type = sym type;
          types = own_type ∙ sym type ∙ type;
          reads = inr (low_st, (let z : own < length (st.variables ++ kd ∷ []) = omega (arith, longer) in z));
        };
      })
      (next t1 refl
      (shown_apart f Homes Lives kinds base s t t1 world.below (λ i lt. number_other t.variables own i u (λ z. omega (arith, lt, low_base, low_st, z))) (λ a i. refl) shown)
      (typed_set f t own u typed (subst (λ z. IsNumber z u) (sym own_type) (converted_number kd r))))))

  -- ---- commas

  -- The first operand, what is set of its value, and the second operand.
  pub comma_same : (used : Bool) (left right : CoreTree) (low low2 high1 high : ℕ) (x y : PureTree) (xs us ys : List PieceTree) (q : Ran Cells ℤ) (r : Cells → ℕ → Ran Cells ℤ) (t : Store) (n : ℕ) → low ≤ low2
      → Same false k (Result unary_fits binary_fits f k here c o Homes Lives kinds base world false left low high1 x) q (run_of f xs t n)
      → ((v : ℤ) (s1 : Cells) (t1 : Store) → Result unary_fits binary_fits f k here c o Homes Lives kinds base world false left low high1 x v s1 on t1 → (t2 : Store) × Goes f us t1 t2 × IsShown f Homes Lives kinds s1 t2 × IsTyped f t2)
      → ((s1 : Cells) (t1 : Store) (n1 : ℕ) → n1 ≤ k → IsShown f Homes Lives kinds s1 t1 → IsTyped f t1 → Same false k (Result unary_fits binary_fits f k here c o Homes Lives kinds base world true right low2 high y) (r s1 n1) (run_of f ys t1 n1))
      → Same false k (Result unary_fits binary_fits f k here c o Homes Lives kinds base world used (core.comma left right) low high y) (then_ q (λ v s1 n1. r s1 n1)) (run_of f (xs ++ (us ++ ys)) t n)
  comma_same used left right low low2 high1 high x y xs us ys q r t n le h drop next =
      let R = Result unary_fits binary_fits f k here c o Homes Lives kinds base world false left low high1 x in
      let S = Result unary_fits binary_fits f k here c o Homes Lives kinds base world true right low2 high y in
      let Q = Result unary_fits binary_fits f k here c o Homes Lives kinds base world used (core.comma left right) low high y in
      on_same f k R Q xs (us ++ ys) q (λ v s1 n1. r s1 n1) t n h (λ v s w t1 a. a.done.on_)
      (λ v s w t1 n1 le1 a.
      let d = drop v s t1 (record { done = record { on_ = refl; shown = a.done.shown; typed = a.done.typed }; value = a.value }) in
      goes_first f k Q us ys (r s n1) t1 d.0 n1 d.1
      (same_more k k S Q (r s n1) (run_of f ys d.0 n1) (le_refl k) (λ v2 s2 w2 t2 b. record {
        done = b.done;
        value = λ m. value_more f here c o Homes Lives kinds base world (λ z. Reads z right) (λ z. Reads z right) low2 low high high y (kind_of right) v2 t2 (λ z g. g) le (le_refl high) (b.value tt);
      }) (next s d.0 n1 le1 d.2 d.3)))
