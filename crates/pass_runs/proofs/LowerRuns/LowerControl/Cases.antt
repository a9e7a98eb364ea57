-- Which arm a switch goes on with.
use Rattle.std.proofs.Common.{◌≡◌, ◌∙◌, ℕ, zero, suc, ◌+◌, ◌<◌, arith, Bool, true, false, ◌||◌, refl, ap, ap₂, sym, subst, inl, inr, List, [], ◌∷◌, ◌++◌, length, Option, Some, None, if◌then◌else◌}
use Rattle.std.specs.Prelude.{slice_get, nat_lt, nat_eq, ◌==◌}
use Rattle.std.specs.Option.{option_map}
use Rattle.std.proofs.lemmas.Bool.{false≢true, lt-ltb}
use Rattle.std.proofs.lemmas.Bool.Decides.{eqb_tells}
use Rattle.c_token.specs.declared.ctype.CType.{CType}
use Rattle.c_value.specs.Values.{width}
use Rattle.ir_core.specs.declared.body.OpKind.TheVariants as o
use Rattle.ir_core.specs.declared.body.Operand.{Operand}
use Rattle.ir_core.specs.Value as op
use Rattle.pieces.specs.declared.piece.Label.{Label}
use Rattle.c_meaning.specs.PieceRuns.Pieces.{is_word, case_target, default_target, if_none, or_else, target}
use Rattle.ir_core.specs.Bodies.{OpTree, Shapes, Words, Ranged, operand}
use Rattle.ir_core.specs.TreeRuns.{first_case, arm_target}
use Rattle.passes.specs.Lowering.Operations.{added, constant, plain}
use Rattle.passes.specs.Lowering.Blocks.{Cases, case_or, cases}
use Rattle.passes.specs.Lowering.{is_named, arms_before, arm_of, targets, other, other_or, with_target}
use Rattle.pass_runs.specs.LowerRuns.Early.{IsEarly}
use Rattle.pass_runs.specs.LowerRuns.Standing.{Stands}
use Rattle.pass_runs.proofs.LowerRuns.Growing.{Grows, grows_nothing, grows_on, early_grows, word_grows}
use Rattle.pass_runs.proofs.LowerRuns.Adding.{adds}
use Rattle.pass_runs.specs.LowerRuns.Suiting.{TargetsThere}
use Rattle.pass_runs.proofs.LowerRuns.LowerControl.Straight.{holds_truth}

same_both : (a b : ℕ) → (a == b) ≡ (b == a)
same_both a b = elim (eqb_tells a b) [
  | inl h ↦ ap (λ n. n == b) h.1 ∙ ap (λ n. b == n) (sym h.1)
  | inr h ↦
      elim (eqb_tells b a) [
        | inl g ↦ absurd (h.1 (sym g.1))
        | inr g ↦ h.0 ∙ sym g.0
      ]
]

-- ---- the operations that compare the value with each label

-- the number of the first label with this value, among those that have one
abbrev pub next_number : Option ℕ → ℕ → ℕ
next_number None i = i
next_number (Some v) i = i + 1

abbrev pub first_label : ℕ → List Label → ℕ → Option ℕ
first_label word [] i = None
first_label word (l ∷ ls) i = if is_word word l.value then Some i else first_label word ls (next_number l.value i)

module _ (shapes : Shapes) (t : Words) (k : CType) (x : Operand) (word : ℕ) where
  pub record Cased (labels : List Label) (ops : List OpTree) (r : Ranged) (c : Cases) : Type 0 where
    pub next : Ranged
    pub stands : Stands shapes t c.ops next
    pub grows : Grows shapes ops r c.ops next
    pub first : (i : ℕ) → first_case next.words next.results c.operands i ≡ first_label word labels i

  module _ (l : Label) (ls : List Label) (ops : List OpTree) (r : Ranged) (stands : Stands shapes t ops r) (early : IsEarly (length r.results) x.value) (is_ : operand r.words r.results x ≡ word)
      (ih : (ops1 : List OpTree) (r1 : Ranged) → Stands shapes t ops1 r1 → IsEarly (length r1.results) x.value → operand r1.words r1.results x ≡ word → Cased ls ops1 r1 (cases k x ls ops1)) where
    one_case : (v : Option ℕ) → l.value ≡ v → Cased (l ∷ ls) ops r (case_or k x ops v (λ ops1. cases k x ls ops1))
    one_case None e =
        let h = ih ops r stands early is_ in record {
          next = h.next;
          stands = h.stands;
          grows = h.grows;
          first = λ i. (h.first i ∙ sym (ap (λ u. if is_word word u then Some i else first_label word ls (next_number u i)) e));
        }
    one_case (Some v) e =
        let new = plain o.Eq (width k) (x ∷ constant v ∷ []) in
        let w = op.value o.Eq false (width k) 0 (operand r.words r.results x ∷ v ∷ []) in
        let a = adds shapes t ops r new w stands (λ later. refl) in
        let ops1 = ops ++ new ∷ [] in
        let h = ih ops1 a.next a.stands (early_grows shapes ops ops1 r a.next a.grows x.value early) (word_grows shapes ops ops1 r a.next a.grows x.value early ∙ is_) in
        let c = cases k x ls ops1 in
        let own = (added ops new).operand in
        let bit_is : operand h.next.words h.next.results own ≡ op.truth (v == word) =
        word_grows shapes ops1 c.ops a.next h.next h.grows own.value a.fits.early ∙ a.holds ∙ ap (λ n. op.truth (nat_eq n v)) is_ ∙ ap op.truth (same_both word v) in record {
          next = h.next;
          stands = h.stands;
          grows = grows_on shapes ops ops1 c.ops r a.next h.next a.grows h.grows;
          first = λ i.
              (ap₂ (λ (b : Bool) (q : Option ℕ). if b then Some i else q) (holds_truth (v == word) (operand h.next.words h.next.results own) bit_is) (h.first (i + 1))
              ∙ sym (ap (λ u. if is_word word u then Some i else first_label word ls (next_number u i)) e));
        }

  pub all_cases : (labels : List Label) (ops : List OpTree) (r : Ranged) → Stands shapes t ops r → IsEarly (length r.results) x.value → operand r.words r.results x ≡ word → Cased labels ops r (cases k x labels ops)
  all_cases [] ops r stands early is_ = record { next = r; stands = stands; grows = grows_nothing shapes ops r; first = λ i. refl }
  all_cases (l ∷ ls) ops r stands early is_ = one_case l ls ops r stands early is_ (λ ops1 r1 s1 e1 i1. all_cases ls ops1 r1 s1 e1 i1) l.value refl

-- ---- the arms of the labels

abbrev pub place : List Label → ℕ → ℕ → ℕ
place labels pieces k = if nat_lt k pieces then arms_before labels k else 0

-- Either no label has the value, or one has it: then this is its number among those with a value, and its arm stands there.
pub record Found (word : ℕ) (all ls : List Label) (pieces i : ℕ) : Type 0 where
  pub number : ℕ
  pub piece : ℕ
  pub first : first_label word ls i ≡ Some (i + number)
  pub case_ : case_target word ls ≡ Some piece
  pub arm : slice_get (targets all pieces ls) number ≡ Some (place all pieces piece)

pub record NotFound (word : ℕ) (ls : List Label) (i : ℕ) : Type 0 where
  pub first : first_label word ls i ≡ None
  pub case_ : case_target word ls ≡ None

pub data Search (word : ℕ) (all ls : List Label) (pieces i : ℕ) : Type 0 where
  Found_ : Found word all ls pieces i → Search word all ls pieces i
  Missed : NotFound word ls i → Search word all ls pieces i

module _ (word : ℕ) (all : List Label) (pieces : ℕ) where
  finds_here : (l : Label) (ls : List Label) (i v : ℕ) → l.value ≡ Some v → (v == word) ≡ true → Search word all (l ∷ ls) pieces i
  finds_here l ls i v e h =
      let is_ : is_word word l.value ≡ true = ap (is_word word) e ∙ h in
      Found_ (record {
        number = 0;
        piece = l.target;
        first = ap (λ (b : Bool). if b then Some i else first_label word ls (next_number l.value i)) is_ ∙ ap Some (let z : i ≡ i + 0 = omega arith in z);
        case_ = ap (λ (b : Bool). if b then Some l.target else case_target word ls) is_;
        arm = ap (λ u. slice_get (with_target u (arm_of all pieces l) (targets all pieces ls)) 0) e;
      })

  finds_later : (l : Label) (ls : List Label) (i v : ℕ) → l.value ≡ Some v → (v == word) ≡ false → Search word all ls pieces (i + 1) → Search word all (l ∷ ls) pieces i
  finds_later l ls i v e h (Found_ a) =
      let is_ : is_word word l.value ≡ false = ap (is_word word) e ∙ h in
      Found_ (record {
        number = suc a.number;
        piece = a.piece;
        first = ap (λ (b : Bool). if b then Some i else first_label word ls (next_number l.value i)) is_ ∙ ap (λ u. first_label word ls (next_number u i)) e ∙ a.first ∙ ap Some (let z : i + 1 + a.number ≡ i + suc a.number = omega arith in z);
        case_ = ap (λ (b : Bool). if b then Some l.target else case_target word ls) is_ ∙ a.case_;
        arm = ap (λ u. slice_get (with_target u (arm_of all pieces l) (targets all pieces ls)) (suc a.number)) e ∙ a.arm;
      })
  finds_later l ls i v e h (Missed a) =
      let is_ : is_word word l.value ≡ false = ap (is_word word) e ∙ h in
      Missed (record {
        first = ap (λ (b : Bool). if b then Some i else first_label word ls (next_number l.value i)) is_ ∙ ap (λ u. first_label word ls (next_number u i)) e ∙ a.first;
        case_ = ap (λ (b : Bool). if b then Some l.target else case_target word ls) is_ ∙ a.case_;
      })

  finds_other : (l : Label) (ls : List Label) (i : ℕ) → l.value ≡ None → Search word all ls pieces i → Search word all (l ∷ ls) pieces i
  finds_other l ls i e (Found_ a) =
      let is_ : is_word word l.value ≡ false = ap (is_word word) e in
      Found_ (record {
        number = a.number;
        piece = a.piece;
        first = ap (λ (b : Bool). if b then Some i else first_label word ls (next_number l.value i)) is_ ∙ ap (λ u. first_label word ls (next_number u i)) e ∙ a.first;
        case_ = ap (λ (b : Bool). if b then Some l.target else case_target word ls) is_ ∙ a.case_;
        arm = ap (λ u. slice_get (with_target u (arm_of all pieces l) (targets all pieces ls)) a.number) e ∙ a.arm;
      })
  finds_other l ls i e (Missed a) =
      let is_ : is_word word l.value ≡ false = ap (is_word word) e in
      Missed (record {
        first = ap (λ (b : Bool). if b then Some i else first_label word ls (next_number l.value i)) is_ ∙ ap (λ u. first_label word ls (next_number u i)) e ∙ a.first;
        case_ = ap (λ (b : Bool). if b then Some l.target else case_target word ls) is_ ∙ a.case_;
      })

  finds_by : (l : Label) (ls : List Label) (i : ℕ) → ((j : ℕ) → Search word all ls pieces j) → (u : Option ℕ) → l.value ≡ u → Search word all (l ∷ ls) pieces i
  finds_by l ls i ih None e = finds_other l ls i e (ih i)
  finds_by l ls i ih (Some v) e = either (v == word) refl where
    either : (c : Bool) → (v == word) ≡ c → Search word all (l ∷ ls) pieces i
    either true h = finds_here l ls i v e h
    either false h = finds_later l ls i v e h (ih (i + 1))

  finds : (ls : List Label) (i : ℕ) → Search word all ls pieces i
  finds [] i = Missed (record { first = refl; case_ = refl })
  finds (l ∷ ls) i = finds_by l ls i (λ j. finds ls j) l.value refl

  others_same : (ls : List Label) → other all pieces ls ≡ option_map (place all pieces) (default_target ls)
  others_same [] = refl
  others_same (l ∷ ls) = by l.value (others_same ls) where
    by : (u : Option ℕ) → other all pieces ls ≡ option_map (place all pieces) (default_target ls) → other_or u (arm_of all pieces l) (other all pieces ls) ≡ option_map (place all pieces) (if_none u l.target (default_target ls))
    by None ih = refl
    by (Some v) ih = ih

  -- The arm is that of the piece with which the switch goes on.
  pub arm_is : (ls : List Label) → arm_target (targets all pieces ls) (other all pieces ls) (first_label word ls 0) ≡ option_map (place all pieces) (target word ls)
  arm_is ls = by (finds ls 0) where
    by : Search word all ls pieces 0 → arm_target (targets all pieces ls) (other all pieces ls) (first_label word ls 0) ≡ option_map (place all pieces) (target word ls)
    by (Found_ a) =
        ap (arm_target (targets all pieces ls) (other all pieces ls)) (a.first ∙ ap Some (let z : 0 + a.number ≡ a.number = omega arith in z)) ∙ a.arm
        ∙ sym (ap (λ u. option_map (place all pieces) (or_else u (default_target ls))) a.case_)
    by (Missed a) = ap (arm_target (targets all pieces ls) (other all pieces ls)) a.first ∙ others_same ls ∙ sym (ap (λ u. option_map (place all pieces) (or_else u (default_target ls))) a.case_)

-- ---- labels name pieces

pub or_true : (a b : Bool) → b ≡ true → (a || b) ≡ true
or_true true b e = refl
or_true false b e = e

or_first : (a b : Bool) → a ≡ true → (a || b) ≡ true
or_first true b e = refl
or_first false b e = absurd (false≢true e)

-- the piece of a label that is among these
pub record IsTarget (labels : List Label) (pieces k : ℕ) : Type 0 where
  pub named : is_named labels k ≡ true
  pub there : k < pieces

later : (l : Label) (ls : List Label) (pieces k : ℕ) → IsTarget ls pieces k → IsTarget (l ∷ ls) pieces k
later l ls pieces k h = record { named = or_true (l.target == k) (is_named ls k) h.named; there = h.there }

pub self_same : (k : ℕ) → (k == k) ≡ true
self_same k = elim (eqb_tells k k) [
  | inl h ↦ h.0
  | inr h ↦ absurd (h.1 refl)
]

first_is : (l : Label) (ls : List Label) (pieces k : ℕ) → l.target < pieces → Some l.target ≡ Some k → IsTarget (l ∷ ls) pieces k
first_is l ls pieces k lt e =
    let same : l.target ≡ k = some_same l.target k e in
    record { named = or_first (l.target == k) (is_named ls k) (ap (λ n. l.target == n) (sym same) ∙ self_same l.target); there = subst (λ n. n < pieces) same lt }
  where
    some_same : (m n : ℕ) → Some m ≡ Some n → m ≡ n
    some_same m n e = cc

case_there : (word : ℕ) (ls : List Label) (pieces k : ℕ) → TargetsThere pieces ls → case_target word ls ≡ Some k → IsTarget ls pieces k
case_there word [] pieces k h e = absurd cc
case_there word (l ∷ ls) pieces k h e = by (is_word word l.value) e (λ e1. case_there word ls pieces k h.1 e1) where
  by : (c : Bool) → (if c then Some l.target else case_target word ls) ≡ Some k → (case_target word ls ≡ Some k → IsTarget ls pieces k) → IsTarget (l ∷ ls) pieces k
  by true e1 ih = first_is l ls pieces k h.0 e1
  by false e1 ih = later l ls pieces k (ih e1)

default_there : (ls : List Label) (pieces k : ℕ) → TargetsThere pieces ls → default_target ls ≡ Some k → IsTarget ls pieces k
default_there [] pieces k h e = absurd cc
default_there (l ∷ ls) pieces k h e = by l.value e (λ e1. default_there ls pieces k h.1 e1) where
  by : (u : Option ℕ) → if_none u l.target (default_target ls) ≡ Some k → (default_target ls ≡ Some k → IsTarget ls pieces k) → IsTarget (l ∷ ls) pieces k
  by None e1 ih = first_is l ls pieces k h.0 e1
  by (Some v) e1 ih = later l ls pieces k (ih e1)

pub target_there : (word : ℕ) (ls : List Label) (pieces k : ℕ) → TargetsThere pieces ls → target word ls ≡ Some k → IsTarget ls pieces k
target_there word ls pieces k h e = by (case_target word ls) refl e where
  by : (u : Option ℕ) → case_target word ls ≡ u → or_else u (default_target ls) ≡ Some k → IsTarget ls pieces k
  by None e1 e2 = default_there ls pieces k h e2
  by (Some v) e1 e2 = case_there word ls pieces k h (e1 ∙ e2)

pub place_is : (labels : List Label) (pieces k : ℕ) → k < pieces → place labels pieces k ≡ arms_before labels k
place_is labels pieces k lt = ap (λ (b : Bool). if b then arms_before labels k else 0) (lt-ltb k pieces lt)

-- ---- how many arms there are before a piece

abbrev pub arms_from : List Label → ℕ → ℕ → ℕ
arms_from labels i zero = 0
arms_from labels i (suc j) = if is_named labels i then suc (arms_from labels (i + 1) j) else arms_from labels (i + 1) j

suc_inside : (n : ℕ) (d : Bool) → suc (if d then suc n else n) ≡ (if d then suc (suc n) else suc n)
suc_inside n true = refl
suc_inside n false = refl

named_or : (labels : List Label) (i j : ℕ) (c : Bool) → arms_from labels (i + 1) (suc j) ≡ (if is_named labels (i + suc j) then suc (arms_from labels (i + 1) j) else arms_from labels (i + 1) j)
    → (if c then suc (arms_from labels (i + 1) (suc j)) else arms_from labels (i + 1) (suc j))
    ≡ (if is_named labels (i + suc j) then suc (if c then suc (arms_from labels (i + 1) j) else arms_from labels (i + 1) j) else (if c then suc (arms_from labels (i + 1) j) else arms_from labels (i + 1) j))
named_or labels i j true h = ap suc h ∙ suc_inside (arms_from labels (i + 1) j) (is_named labels (i + suc j))
named_or labels i j false h = h

one_more : (labels : List Label) (i j : ℕ) → arms_from labels i (suc j) ≡ (if is_named labels (i + j) then suc (arms_from labels i j) else arms_from labels i j)
one_more labels i zero = ap (λ n. if is_named labels n then suc 0 else 0) (let z : i ≡ i + 0 = omega arith in z)
one_more labels i (suc j) =
    let e : i + 1 + j ≡ i + suc j = omega arith in
    named_or labels i j (is_named labels i) (one_more labels (i + 1) j ∙ ap (λ n. if is_named labels n then suc (arms_from labels (i + 1) j) else arms_from labels (i + 1) j) e)

pub arms_same : (labels : List Label) (k : ℕ) → arms_before labels k ≡ arms_from labels 0 k
arms_same labels zero = refl
arms_same labels (suc k) =
    ap (λ n. if is_named labels k then suc n else n) (arms_same labels k) ∙ ap (λ n. if is_named labels n then suc (arms_from labels 0 k) else arms_from labels 0 k) (let z : k ≡ 0 + k = omega arith in z) ∙ sym (one_more labels 0 k)
