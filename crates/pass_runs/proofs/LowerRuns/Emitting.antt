-- The operations of an expression give its value.
use Rattle.std.proofs.Common.{◌≡◌, ◌∙◌, ℕ, Bool, true, false, not, refl, ap, sym, subst, ℤ, List, [], ◌∷◌, ◌++◌, map, length, Option, Some, None, if◌then◌else◌}
use Rattle.std.specs.Prelude.{slice_get, unsigned_abs, int_lt, int_le}
use Rattle.std.specs.Ordering.{int_eq}
use Rattle.hls_base.specs.declared.place.Place.{Place}
use Rattle.hls_base.specs.declared.number.ArrayId.{ArrayId}
use Rattle.hls_base.specs.declared.refusal.UbRule.{UbRule}
use Rattle.hls_base.specs.declared.refusal.UbRule.TheVariants as ub
use Rattle.c_token.specs.declared.ctype.CType.{CType}
use Rattle.c_tree.specs.declared.operator.Binary.{Binary}
use Rattle.c_tree.specs.declared.operator.Binary.TheVariants as b
use Rattle.c_value.specs.Values.{IsOf, width, is_signed, convert, promoted, common}
use Rattle.c_value.specs.Operators as c
use Rattle.c_value.specs.Operators.{Computed, truth, is_true, unary_kind, binary_kind, unary_value, binary_value}
use Rattle.ir_core.specs.declared.body.OpKind.TheVariants as o
use Rattle.ir_core.specs.declared.body.Operand.{Operand}
use Rattle.ir_core.specs.Value as op
use Rattle.hls_base.specs.Valued.{Valued, is, faulty, and_then}
use Rattle.c_meaning.specs.PieceRuns.Values.{Store, computed, element_at, element_number, lengths_in}
use Rattle.c_meaning.specs.PieceRuns.Pieces.{Frame, kind_at}
use Rattle.ir_core.specs.Bodies as block
use Rattle.ir_core.specs.Bodies.{first_bits, OpTree, Shapes, Words, Ranged, Performed, performed, operand, address_of, is_within, is_allowed, dims_of, effect, perform}
use Rattle.passes.specs.Lowering.Operations.{added, flagged, kind_of, valued}
use Rattle.passes.specs.Lowering.Guards.{Guard, guarded}
use Rattle.passes.specs.Lowering.Expressions.{Evaluated, Subscripts, loaded, subscript, left_type, right_type}
use Rattle.pass_runs.specs.LowerRuns.Early.{AreEarly}
use Rattle.pass_runs.specs.LowerRuns.OperatorWords.Words.{IsType, IsWord, ConversionsAgree, OperatorsAgree, count_type, NaturalsAreWords}
use Rattle.pass_runs.specs.LowerRuns.Suits.{shapes_of}
use Rattle.pass_runs.proofs.LowerRuns.Growing.{Grows, grows_on, word_grows, early_grows}
use Rattle.pass_runs.proofs.LowerRuns.Adding.{adds}
use Rattle.pass_runs.proofs.LowerRuns.Converting.{bit, valued_makes}
use Rattle.pass_runs.proofs.LowerRuns.Guarding.{all_hold, Under, under_grows, guarded_makes, allows}
use Rattle.pass_runs.proofs.LowerRuns.Operating.{no_fault, args_grow, Holds, OperatorAgrees, Evals}
use Rattle.pass_runs.proofs.LowerRuns.Joining.{IsDefined}
use Rattle.pass_runs.proofs.LowerRuns.Showing.{dims_same, AreWords, within_dims, words_are}
use Rattle.pass_runs.specs.LowerRuns.Standing.{Stands}
use Rattle.pass_runs.specs.LowerRuns.Showing.{ArraysShown}

-- ---- values that are there

abbrev IsThere : {A : Type 0} → Valued A → Type 0
IsThere (is x) = Unit {0}
IsThere (faulty rule at) = ⊥

pub not_faulty : {A : Type 0} (v : A) (rule : UbRule) (at : Place) → faulty rule at ≡ is v → ⊥
not_faulty v rule at e = subst IsThere (sym e) tt

abbrev value_or : {A : Type 0} → A → Valued A → A
value_or d (is x) = x
value_or d (faulty rule at) = d

pub same_value : {A : Type 0} (x y : A) → is x ≡ is y → x ≡ y
same_value x y e = ap (value_or x) e

-- a value behind another one
pub record Chained {A B : Type 0} (q : Valued A) (next : A → Valued B) (v : B) : Type 0 where
  pub first : A
  pub first_is : q ≡ is first
  pub next_is : next first ≡ is v

pub chained : {A B : Type 0} (q : Valued A) (next : A → Valued B) (v : B) → and_then q next ≡ is v → Chained q next v
chained (is x) next v e = record { first = x; first_is = refl; next_is = e }
chained (faulty rule at) next v e = absurd (not_faulty v rule at e)

-- what an operator gives
abbrev DefinedAs : Computed → ℤ → Type 0
DefinedAs (c.defined n) v = n ≡ v
DefinedAs (c.undefined rule) v = ⊥

pub computed_as : (x : Computed) (at : Place) (v : ℤ) → computed x at ≡ is v → x ≡ c.defined v
computed_as (c.defined n) at v e = ap c.defined (same_value n v e)
computed_as (c.undefined rule) at v e = absurd (not_faulty v rule at e)

number_in : ℤ → Computed → ℤ
number_in d (c.defined n) = n
number_in d (c.undefined rule) = d

pub same_number : (x v : ℤ) → c.defined x ≡ c.defined v → x ≡ v
unfolding number_in
same_number x v e = ap (number_in x) e

-- ---- operators by their operands

module _ (agree : ConversionsAgree) (operators : OperatorsAgree) where
  -- what is known of two operands, the second one converted to a type of its own
  abbrev BinaryAgrees : Binary → CType → CType → CType → Type 0
  BinaryAgrees f kl kr k = (x y v : ℤ) (wx wy : ℕ) → IsOf kl x → IsOf kr y → binary_value f kl x kr y ≡ c.defined v
      → IsWord (left_type f kl kr k) (convert (left_type f kl kr k) x) wx → IsWord (right_type f kl kr k) (convert (right_type f kl kr k) y) wy → OperatorAgrees f (left_type f kl kr k) v wx wy

  shift_agrees : (f : Binary) (kl kr : CType) (x y v : ℤ) (wx wy : ℕ) → IsType kr → IsOf kr y → IsWord (count_type (promoted kl) (promoted kr)) (convert (count_type (promoted kl) (promoted kr)) y) wy
      → IsWord (count_type (promoted kl) (promoted kr)) (convert (count_type (promoted kl) (promoted kr)) (convert (promoted kr) y)) wy
  shift_agrees f kl kr x y v wx wy type_is h g = subst (λ n. IsWord (count_type (promoted kl) (promoted kr)) (convert (count_type (promoted kl) (promoted kr)) n) wy) (sym (agree.promotion kr type_is y h)) g

  compared : (c1 : Bool) (v : ℤ) (w : ℕ) → w ≡ bit c1 → c.defined (truth c1) ≡ c.defined v → Holds v w
  compared c1 v w e h = (c1, e, sym (same_number (truth c1) v h))

  pub binary_agrees : (f : Binary) (kl kr k : CType) → (f ≡ b.LogAnd → ⊥) → (f ≡ b.LogOr → ⊥) → IsType kr → binary_kind f kl kr ≡ k → BinaryAgrees f kl kr k
  binary_agrees b.Mul kl kr k n1 n2 tr e x y v wx wy ix iy is_ hx hy =
      subst (λ k. IsWord k (convert k x) wx → IsWord k (convert k y) wy → OperatorAgrees b.Mul k v wx wy) e (λ h g. operators.arithmetic b.Mul tt (common kl kr) (convert (common kl kr) x) (convert (common kl kr) y) v wx wy h g is_) hx hy
  binary_agrees b.Div kl kr k n1 n2 tr e x y v wx wy ix iy is_ hx hy =
      subst (λ k. IsWord k (convert k x) wx → IsWord k (convert k y) wy → OperatorAgrees b.Div k v wx wy) e (λ h g. operators.arithmetic b.Div tt (common kl kr) (convert (common kl kr) x) (convert (common kl kr) y) v wx wy h g is_) hx hy
  binary_agrees b.Rem kl kr k n1 n2 tr e x y v wx wy ix iy is_ hx hy =
      subst (λ k. IsWord k (convert k x) wx → IsWord k (convert k y) wy → OperatorAgrees b.Rem k v wx wy) e (λ h g. operators.arithmetic b.Rem tt (common kl kr) (convert (common kl kr) x) (convert (common kl kr) y) v wx wy h g is_) hx hy
  binary_agrees b.Add kl kr k n1 n2 tr e x y v wx wy ix iy is_ hx hy =
      subst (λ k. IsWord k (convert k x) wx → IsWord k (convert k y) wy → OperatorAgrees b.Add k v wx wy) e (λ h g. operators.arithmetic b.Add tt (common kl kr) (convert (common kl kr) x) (convert (common kl kr) y) v wx wy h g is_) hx hy
  binary_agrees b.Sub kl kr k n1 n2 tr e x y v wx wy ix iy is_ hx hy =
      subst (λ k. IsWord k (convert k x) wx → IsWord k (convert k y) wy → OperatorAgrees b.Sub k v wx wy) e (λ h g. operators.arithmetic b.Sub tt (common kl kr) (convert (common kl kr) x) (convert (common kl kr) y) v wx wy h g is_) hx hy
  binary_agrees b.And kl kr k n1 n2 tr e x y v wx wy ix iy is_ hx hy =
      subst (λ k. IsWord k (convert k x) wx → IsWord k (convert k y) wy → OperatorAgrees b.And k v wx wy) e (λ h g. operators.arithmetic b.And tt (common kl kr) (convert (common kl kr) x) (convert (common kl kr) y) v wx wy h g is_) hx hy
  binary_agrees b.Xor kl kr k n1 n2 tr e x y v wx wy ix iy is_ hx hy =
      subst (λ k. IsWord k (convert k x) wx → IsWord k (convert k y) wy → OperatorAgrees b.Xor k v wx wy) e (λ h g. operators.arithmetic b.Xor tt (common kl kr) (convert (common kl kr) x) (convert (common kl kr) y) v wx wy h g is_) hx hy
  binary_agrees b.Or kl kr k n1 n2 tr e x y v wx wy ix iy is_ hx hy =
      subst (λ k. IsWord k (convert k x) wx → IsWord k (convert k y) wy → OperatorAgrees b.Or k v wx wy) e (λ h g. operators.arithmetic b.Or tt (common kl kr) (convert (common kl kr) x) (convert (common kl kr) y) v wx wy h g is_) hx hy
  binary_agrees b.Shl kl kr k n1 n2 tr e x y v wx wy ix iy is_ hx hy =
      subst (λ k. IsWord k (convert k x) wx → IsWord (count_type k (promoted kr)) (convert (count_type k (promoted kr)) y) wy → OperatorAgrees b.Shl k v wx wy) e
      (λ h g. operators.shift b.Shl tt (promoted kl) (promoted kr) (convert (promoted kl) x) (convert (promoted kr) y) v wx wy (agree.number (promoted kr) y) h (shift_agrees b.Shl kl kr x y v wx wy tr iy g) is_) hx hy
  binary_agrees b.Shr kl kr k n1 n2 tr e x y v wx wy ix iy is_ hx hy =
      subst (λ k. IsWord k (convert k x) wx → IsWord (count_type k (promoted kr)) (convert (count_type k (promoted kr)) y) wy → OperatorAgrees b.Shr k v wx wy) e
      (λ h g. operators.shift b.Shr tt (promoted kl) (promoted kr) (convert (promoted kl) x) (convert (promoted kr) y) v wx wy (agree.number (promoted kr) y) h (shift_agrees b.Shr kl kr x y v wx wy tr iy g) is_) hx hy
  binary_agrees b.Lt kl kr k n1 n2 tr e x y v wx wy ix iy is_ hx hy =
      compared (int_lt (convert (common kl kr) x) (convert (common kl kr) y)) v (op.value o.Lt (is_signed (common kl kr)) (width (common kl kr)) 0 (wx ∷ wy ∷ []))
      (operators.less (common kl kr) (convert (common kl kr) x) (convert (common kl kr) y) wx wy hx hy) is_
  binary_agrees b.Gt kl kr k n1 n2 tr e x y v wx wy ix iy is_ hx hy =
      compared (int_lt (convert (common kl kr) y) (convert (common kl kr) x)) v (op.value o.Lt (is_signed (common kl kr)) (width (common kl kr)) 0 (wy ∷ wx ∷ []))
      (operators.less (common kl kr) (convert (common kl kr) y) (convert (common kl kr) x) wy wx hy hx) is_
  binary_agrees b.Le kl kr k n1 n2 tr e x y v wx wy ix iy is_ hx hy =
      compared (int_le (convert (common kl kr) x) (convert (common kl kr) y)) v (op.value o.Le (is_signed (common kl kr)) (width (common kl kr)) 0 (wx ∷ wy ∷ []))
      (operators.at_most (common kl kr) (convert (common kl kr) x) (convert (common kl kr) y) wx wy hx hy) is_
  binary_agrees b.Ge kl kr k n1 n2 tr e x y v wx wy ix iy is_ hx hy =
      compared (int_le (convert (common kl kr) y) (convert (common kl kr) x)) v (op.value o.Le (is_signed (common kl kr)) (width (common kl kr)) 0 (wy ∷ wx ∷ []))
      (operators.at_most (common kl kr) (convert (common kl kr) y) (convert (common kl kr) x) wy wx hy hx) is_
  binary_agrees b.Eq kl kr k n1 n2 tr e x y v wx wy ix iy is_ hx hy =
      compared (int_eq (convert (common kl kr) x) (convert (common kl kr) y)) v (op.value o.Eq false (width (common kl kr)) 0 (wx ∷ wy ∷ []))
      (ap bit (operators.equal (common kl kr) (convert (common kl kr) x) (convert (common kl kr) y) wx wy hx hy)) is_
  binary_agrees b.Ne kl kr k n1 n2 tr e x y v wx wy ix iy is_ hx hy =
      compared (not (int_eq (convert (common kl kr) x) (convert (common kl kr) y))) v (op.value o.Ne false (width (common kl kr)) 0 (wx ∷ wy ∷ []))
      (ap (λ c. bit (not c)) (operators.equal (common kl kr) (convert (common kl kr) x) (convert (common kl kr) y) wx wy hx hy)) is_
  binary_agrees b.LogAnd kl kr k n1 n2 tr e x y v wx wy ix iy is_ hx hy = absurd (n1 refl)
  binary_agrees b.LogOr kl kr k n1 n2 tr e x y v wx wy ix iy is_ hx hy = absurd (n2 refl)

-- ---- subscripts and loads

module _ (f : Frame) (t : Words) (agree : ConversionsAgree) where
  abbrev shapes : Shapes
  shapes = shapes_of f

  -- the subscripts of an element were evaluated
  pub record RowEvals (ops : List OpTree) (r : Ranged) (hs : List Bool) (x : Subscripts) (V : List ℤ → Type 0) : Type 0 where
    pub next : Ranged
    pub stands : Stands shapes t x.ops next
    pub grows : Grows shapes ops r x.ops next
    pub under : Under shapes t x.ops next x.guards hs
    pub early : AreEarly (length next.results) x.operands
    pub has : all_hold hs ≡ true → (vs : List ℤ) → V vs → AreWords (map (operand next.words next.results) x.operands) vs

  abbrev pub RowFollows : List OpTree → Ranged → (List OpTree → List Guard → Subscripts) → Valued (List ℤ) → Type 0
  RowFollows ops r rest qs = (ops' : List OpTree) (r' : Ranged) (gs : List Guard) (hs : List Bool) → Grows shapes ops r ops' r' → Stands shapes t ops' r' → Under shapes t ops' r' gs hs
      → (all_hold hs ≡ true → (vs : List ℤ) × (qs ≡ is vs)) → RowEvals ops' r' hs (rest ops' gs) (λ vs. qs ≡ is vs)

  pub subscript_evals : (ops : List OpTree) (r : Ranged) (hs : List Bool) (k : CType) (rest : List OpTree → List Guard → Subscripts) (first : Evaluated) (q : Valued ℤ) (qs : Valued (List ℤ)) → Evals shapes t agree ops r hs first k (λ v. q ≡ is v)
      → RowFollows ops r rest qs → (all_hold hs ≡ true → (vs : List ℤ) × (and_then q (λ x. and_then qs (λ xs. is (x ∷ xs))) ≡ is vs))
      → RowEvals ops r hs (subscript rest first) (λ vs. and_then q (λ x. and_then qs (λ xs. is (x ∷ xs))) ≡ is vs)
  unfolding subscript
  subscript_evals ops r hs k rest first q qs one others there =
      let x = valued first.ops first.given in
      let xm = valued_makes shapes t agree first.ops one.next first.given one.stands one.fits in
      let xa = xm.1 in
      let to_x = grows_on shapes ops first.ops x.ops r one.next xa.next one.grows xa.grows in
      let row = others x.ops xa.next first.guards hs to_x xa.stands (under_grows shapes t first.ops x.ops one.next xa.next xa.grows first.guards hs one.under)
      (λ all. (let d = there all in
      let c1 = chained q (λ x. and_then qs (λ xs. is (x ∷ xs))) d.0 d.1 in
      let c2 = chained qs (λ xs. is (c1.first ∷ xs)) d.0 c1.next_is in (c2.first, c2.first_is))) in record {
        next = row.next;
        stands = row.stands;
        grows = grows_on shapes ops x.ops (rest x.ops first.guards).ops r xa.next row.next to_x row.grows;
        under = row.under;
        early = (early_grows shapes x.ops (rest x.ops first.guards).ops xa.next row.next row.grows x.operand.value xa.fits.early, row.early);
        has = λ all vs is_.
            (let c1 = chained q (λ x. and_then qs (λ xs. is (x ∷ xs))) vs is_ in
            let c2 = chained qs (λ xs. is (c1.first ∷ xs)) vs c1.next_is in
            let same = same_list (c1.first ∷ c2.first) vs c2.next_is in
            let w = xa.holds in
            subst (λ l. AreWords (operand row.next.words row.next.results x.operand ∷ map (operand row.next.words row.next.results) (rest x.ops first.guards).operands) l) same (
              (kind_of first.given, subst (λ n. IsWord (kind_of first.given) c1.first n) (sym (word_grows shapes x.ops (rest x.ops first.guards).ops xa.next row.next row.grows x.operand.value xa.fits.early ∙ xa.holds)) (xm.2 c1.first (one.has all c1.first c1.first_is))),
              row.has all c2.first c2.first_is,
            ));
      } where
        same_list : (xs ys : List ℤ) → is xs ≡ is ys → xs ≡ ys
        same_list xs ys e = same_value xs ys e

  load_word : ArrayId → List ℕ → (ℕ → ℕ → ℕ) → Bool → ℕ
  load_word array ws memories b = if b then memories array.0 (address_of (dims_of shapes array) ws) else 0

  load_performs : (all : List OpTree) (bits : ℕ) (args : List Operand) (array : ArrayId) (at : Place) (guard : Option Operand) (results : List ℕ) (t1 : Words)
      → (is_allowed t1 results guard ≡ true → is_within (dims_of shapes array) (map (operand t1 results) args) ≡ true)
      → perform shapes all (flagged o.Load false bits args (Some array) at guard) results t1 ≡ is (performed (load_word array (map (operand t1 results) args) t1.memories (is_allowed t1 results guard)) t1)
  unfolding load_word
  load_performs all bits args array at guard results t1 h =
      let op = flagged o.Load false bits args (Some array) at guard in
      let ws = map (operand t1 results) args in
      let b = is_allowed t1 results guard in
      no_fault b at (is_within (dims_of shapes array) ws) ub.Index (effect shapes op o.Load b (first_bits shapes.widths all op args) ws t1) h ∙ either b (first_bits shapes.widths all op args) ws op refl
    where
      either : (b : Bool) (from : ℕ) (ws : List ℕ) (op : OpTree) → op.array ≡ Some array → is (effect shapes op o.Load b from ws t1) ≡ is (performed (if b then t1.memories array.0 (address_of (dims_of shapes array) ws) else 0) t1)
      either true from ws op e = ap (λ a. is (performed (block.loaded shapes a ws t1) t1)) e
      either false from ws op e = refl

  abbrev Element : ArrayId → Place → Store → Valued (List ℤ) → Valued ℤ
  Element array at s qs = and_then qs (λ is_. element_at array.0 (element_number f.arrays array.0 is_) at s)

  record Found (array : ArrayId) (s : Store) (qs : Valued (List ℤ)) (v : ℤ) : Type 0 where
    subs : List ℤ
    place : ℕ
    subs_are : qs ≡ is subs
    place_is : element_number f.arrays array.0 subs ≡ Some place
    value_is : s.elements array.0 place ≡ v

  found_at : (array : ArrayId) (at : Place) (s : Store) (qs : Valued (List ℤ)) (v : ℤ) → Element array at s qs ≡ is v → Found array s qs v
  found_at array at s qs v e = here (chained qs (λ is_. element_at array.0 (element_number f.arrays array.0 is_) at s) v e) where
    here : Chained qs (λ is_. element_at array.0 (element_number f.arrays array.0 is_) at s) v → Found array s qs v
    here c = there (element_number f.arrays array.0 c.first) refl c.next_is where
      there : (o : Option ℕ) → element_number f.arrays array.0 c.first ≡ o → element_at array.0 o at s ≡ is v → Found array s qs v
      there None e h = absurd (not_faulty v ub.Index at h)
      there (Some i) e h = record { subs = c.first; place = i; subs_are = c.first_is; place_is = e; value_is = same_value (s.elements array.0 i) v h }

  pub loaded_evals : NaturalsAreWords → (ops : List OpTree) (r : Ranged) (hs : List Bool) (array : ArrayId) (k : CType) (at : Place) (x : Subscripts) (s : Store) (qs : Valued (List ℤ)) → kind_at f.arrays array.0 ≡ k
      → RowEvals ops r hs x (λ vs. qs ≡ is vs) → ArraysShown f r.words.memories s.elements → (all_hold hs ≡ true → IsDefined (Element array at s qs))
      → Evals shapes t agree ops r hs (loaded array k at x) k (λ v. Element array at s qs ≡ is v)
  unfolding load_word
  loaded_evals natural ops r hs array k at x s qs type row shown there =
      let g = guarded x.ops x.guards in
      let m = guarded_makes shapes t x.ops row.next x.guards hs row.stands row.under in
      let words_grow = args_grow shapes x.ops g.ops row.next m.next m.grows x.operands row.early in
      let ws = map (operand m.next.words m.next.results) x.operands in
      let op = flagged o.Load false (width k) x.operands (Some array) at g.bit in
      let b = is_allowed m.next.words m.next.results g.bit in
      let w = load_word array ws m.next.words.memories b in
      let dims : dims_of shapes array ≡ lengths_in (slice_get f.arrays array.0) = dims_same f.arrays array.0 in
      let are : all_hold hs ≡ true → (v : ℤ) (h : Found array s qs v) → AreWords ws h.subs = λ all v h. subst (λ l. AreWords l h.subs) (sym words_grow) (row.has all h.subs h.subs_are) in
      let within : b ≡ true → is_within (dims_of shapes array) ws ≡ true =
      λ allowed.
      (let all = sym (allows shapes t g.ops m.next g.bit (all_hold hs) m.bit_is) ∙ allowed in
      let d = there all in
      let h = found_at array at s qs d.0 d.1 in
      ap (λ l. is_within l ws) dims ∙ within_dims natural (lengths_in (slice_get f.arrays array.0)) ws h.subs h.place (are all d.0 h) h.place_is) in
      let a = adds shapes t g.ops m.next op w m.stands (λ later. load_performs (g.ops ++ later) (width k) x.operands array at g.bit m.next.results m.next.words within) in
      let to_g = grows_on shapes ops x.ops g.ops r row.next m.next row.grows m.grows in
      let memories : m.next.words ≡ r.words = ap (λ (y : Ranged). y.words) to_g.same in record {
        next = a.next;
        stands = a.stands;
        grows = grows_on shapes ops g.ops (added g.ops op).ops r m.next a.next to_g a.grows;
        under = under_grows shapes t g.ops (added g.ops op).ops m.next a.next a.grows g.guards hs m.under;
        fits = a.fits;
        kind = refl;
        has = λ all v is_.
            (let h = found_at array at s qs v is_ in
            let b_is : b ≡ true = allows shapes t g.ops m.next g.bit (all_hold hs) m.bit_is ∙ all in
            let here = shown array.0 h.subs h.place h.place_is in
            let same : w ≡ r.words.memories array.0 (address_of (lengths_in (slice_get f.arrays array.0)) (map unsigned_abs h.subs)) =
            ap (λ c. if c then m.next.words.memories array.0 (address_of (dims_of shapes array) ws) else 0) b_is
            ∙ ap (λ (y : Words). y.memories array.0 (address_of (dims_of shapes array) ws)) memories
            ∙ ap (λ l. r.words.memories array.0 (address_of l ws)) dims
            ∙ ap (λ l. r.words.memories array.0 (address_of (lengths_in (slice_get f.arrays array.0)) l)) (words_are natural (lengths_in (slice_get f.arrays array.0)) ws h.subs h.place (are all v h) h.place_is) in
            subst (λ n. IsWord k n (operand a.next.words a.next.results (added g.ops op).operand)) h.value_is
            (subst (λ k. IsWord k (s.elements array.0 h.place) (operand a.next.words a.next.results (added g.ops op).operand)) type
            (subst (λ n. IsWord (kind_at f.arrays array.0) (s.elements array.0 h.place) n) (sym (a.holds ∙ same)) here)));
      }
