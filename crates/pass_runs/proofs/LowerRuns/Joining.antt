-- Operators behind their operands.
use Rattle.std.proofs.Common.{◌≡◌, ◌∙◌, ◌%◌, ◌<◌, ℕ, zero, suc, arith, Bool, true, false, not, ◌&&◌, ◌||◌, refl, ap, sym, subst, ℤ, List, [], ◌∷◌, length, if◌then◌else◌}
use Rattle.std.proofs.lemmas.Bool.{false≢true}
use Rattle.std.specs.Prelude.{bit_or}
use Rattle.std.proofs.lemmas.Nat.{or_mod}
use Rattle.std.proofs.Math.Nat.{mod-lt}
use Rattle.hls_base.specs.declared.place.Place.{Place}
use Rattle.c_token.specs.declared.ctype.CType.{CType}
use Rattle.c_tree.specs.declared.operator.Binary.{Binary}
use Rattle.c_value.specs.Values.{IsOf, width, convert, int_type}
use Rattle.c_value.specs.Operators.{truth, is_true}
use Rattle.ir_core.specs.declared.body.OpKind.TheVariants as o
use Rattle.ir_core.specs.declared.body.Operand.{Operand}
use Rattle.ir_core.specs.Value as op
use Rattle.hls_base.specs.Valued.{Valued, is, faulty}
use Rattle.ir_core.specs.Bodies.{OpTree, Shapes, Words, Ranged, operand}
use Rattle.passes.specs.Lowering.Operations.{added, plain, balanced, tested}
use Rattle.passes.specs.Lowering.Guards.{Guard, only_where, outside}
use Rattle.passes.specs.Lowering.Expressions.{Evaluated, Next, with_value, with_truth, junction, joined, choice, operated}
use Rattle.pass_runs.specs.LowerRuns.Early.{AreEarly}
use Rattle.pass_runs.specs.LowerRuns.OperatorWords.Words.{IsType, IsWord, ConversionsAgree, OperatorsAgree}
use Rattle.pass_runs.proofs.LowerRuns.Growing.{Grows, grows_on, fits_grow, word_grows, early_grows}
use Rattle.pass_runs.proofs.LowerRuns.Adding.{Adds, adds}
use Rattle.pass_runs.proofs.LowerRuns.Converting.{bit, given_is, balanced_makes, tested_makes}
use Rattle.pass_runs.proofs.LowerRuns.Guarding.{all_hold, and_bit, Under, under_grows}
use Rattle.pass_runs.proofs.LowerRuns.Operating.{OperatorAgrees, operated_type, Evals, adds_value, adds_truth, operated_evals}
use Rattle.pass_runs.specs.LowerRuns.Standing.{Stands}

abbrev pub IsDefined : Valued ℤ → Type 0
IsDefined q = (v : ℤ) × (q ≡ is v)

-- whether the value is other than 0, if there is one
abbrev pub true_in : Valued ℤ → Bool
true_in (is v) = is_true v
true_in (faulty rule at) = false

pub truth_of : (q : Valued ℤ) (v : ℤ) → q ≡ is v → is_true v ≡ true_in q
truth_of q v e = ap true_in (sym e)

low_bit : (w n : ℕ) → w % 2 ≡ n → n < 2 → bit_or 1 n ≡ 1
low_bit w zero e h = refl
low_bit w (suc zero) e h = refl
low_bit w (suc (suc n)) e h = absurd (omega (arith, h))

pub or_bit : (a b : Bool) (w : ℕ) → (a ≡ false → w ≡ bit b) → op.value o.Or false 1 0 (bit a ∷ w ∷ []) ≡ bit (a || b)
or_bit true b w e = or_mod 1 w 1 ∙ low_bit w (w % 2) refl (mod-lt w (omega arith))
or_bit false b w e = ap (λ n. op.value o.Or false 1 0 (0 ∷ n ∷ [])) (e refl) ∙ each b where
  each : (b : Bool) → op.value o.Or false 1 0 (0 ∷ bit b ∷ []) ≡ bit b
  each true = refl
  each false = refl

not_not : (b : Bool) → not (not b) ≡ b
not_not true = refl
not_not false = refl

pub and_left : (a b : Bool) → (a && b) ≡ true → a ≡ true
and_left true b e = refl
and_left false b e = e

pub and_right : (a b : Bool) → (a && b) ≡ true → b ≡ true
and_right true b e = e
and_right false b e = absurd (false≢true e)

not_true : (b : Bool) → not b ≡ true → b ≡ false
not_true true e = absurd (false≢true e)
not_true false e = refl

pub both_true : (a b : Bool) → a ≡ true → b ≡ true → (a && b) ≡ true
both_true true b e f = f
both_true false b e f = absurd (false≢true e)

module _ (shapes : Shapes) (t : Words) (agree : ConversionsAgree) where
  pub outside_under : (ops : List OpTree) (r : Ranged) (gs : List Guard) (h : Bool) (hs : List Bool) → Under shapes t ops r gs (h ∷ hs) → Under shapes t ops r (outside gs) hs
  outside_under ops r [] h hs u = absurd u
  outside_under ops r (g ∷ gs) h hs u = u.0

  -- behind operations that were added before
  pub evals_on : (ops ops' : List OpTree) (r r' : Ranged) (hs : List Bool) (x : Evaluated) (k : CType) (V : ℤ → Type 0) → Grows shapes ops r ops' r' → Evals shapes t agree ops' r' hs x k V → Evals shapes t agree ops r hs x k V
  evals_on ops ops' r r' hs x k V g e =
      record { next = e.next; stands = e.stands; grows = grows_on shapes ops ops' x.ops r r' e.next g e.grows; under = e.under; fits = e.fits; kind = e.kind; has = e.has }

  -- the same of other numbers and types
  pub evals_as : (ops : List OpTree) (r : Ranged) (hs : List Bool) (x : Evaluated) (k k' : CType) (V V' : ℤ → Type 0) → k ≡ k' → (all_hold hs ≡ true → (v : ℤ) → V' v → V v) → Evals shapes t agree ops r hs x k V → Evals shapes t agree ops r hs x k' V'
  evals_as ops r hs x k k' V V' e f h =
      record { next = h.next; stands = h.stands; grows = h.grows; under = h.under; fits = h.fits; kind = h.kind ∙ e; has = λ all v is_. h.has all v (f all v is_) }

  -- What comes next, behind these operations and all that come behind them, gives this value.
  abbrev pub Follows : List OpTree → Ranged → Next → CType → Valued ℤ → Type 0
  Follows ops r next k q = (ops' : List OpTree) (r' : Ranged) (gs : List Guard) (hs : List Bool) → Grows shapes ops r ops' r' → Stands shapes t ops' r' → Under shapes t ops' r' gs hs → (all_hold hs ≡ true → IsDefined q)
      → Evals shapes t agree ops' r' hs (next ops' gs) k (λ v. q ≡ is v)

  junction_adds : (both : Bool) (ops : List OpTree) (r : Ranged) (x y : Operand) → Stands shapes t ops r
      → Adds shapes t ops r (added ops (plain (if both then o.And else o.Or) 1 (x ∷ y ∷ []))) 1 (op.value (if both then o.And else o.Or) false 1 0 (operand r.words r.results x ∷ operand r.words r.results y ∷ []))
  junction_adds true ops r x y h = adds shapes t ops r (plain o.And 1 (x ∷ y ∷ [])) (op.value o.And false 1 0 (operand r.words r.results x ∷ operand r.words r.results y ∷ [])) h (λ later. refl)
  junction_adds false ops r x y h = adds shapes t ops r (plain o.Or 1 (x ∷ y ∷ [])) (op.value o.Or false 1 0 (operand r.words r.results x ∷ operand r.words r.results y ∷ [])) h (λ later. refl)

  selected : OperatorsAgree → (k : CType) (a : Bool) (wb wx wy : ℕ) (v : ℤ) → wb ≡ bit a → (a ≡ true → IsWord k v wx) → (a ≡ false → IsWord k v wy) → IsWord k v (op.value o.Select false (width k) 0 (wb ∷ wx ∷ wy ∷ []))
  selected operators k true wb wx wy v e hx hy = let h = hx refl in subst (λ n. IsWord k v n) (sym (ap (λ n. op.value o.Select false (width k) 0 (n ∷ wx ∷ wy ∷ [])) e ∙ operators.kept k v wx h)) h
  selected operators k false wb wx wy v e hx hy = let h = hy refl in subst (λ n. IsWord k v n) (sym (ap (λ n. op.value o.Select false (width k) 0 (n ∷ wx ∷ wy ∷ [])) e ∙ operators.kept k v wy h)) h

  -- ---- operators on two operands

  -- what is known of them where control comes here
  pub record Both (q1 q2 : Valued ℤ) (V : ℤ → Type 0) : Type 0 where
    pub first : ℤ
    pub second : ℤ
    pub result : ℤ
    pub first_is : q1 ≡ is first
    pub second_is : q2 ≡ is second
    pub holds : V result

  module _ (ops : List OpTree) (r : Ranged) (hs : List Bool) where
    pub joined_evals : (f : Binary) (to to_right kl kr : CType) (at : Place) (second : Next) (first : Evaluated) (q1 q2 : Valued ℤ) (V : ℤ → Type 0)
        → IsType kl → IsType kr → Evals shapes t agree ops r hs first kl (λ v. q1 ≡ is v) → Follows ops r second kr q2 → (all_hold hs ≡ true → Both q1 q2 V)
        → (all_hold hs ≡ true → (x y v : ℤ) (wx wy : ℕ) → q1 ≡ is x → q2 ≡ is y → IsOf kl x → IsOf kr y → V v → IsWord to (convert to x) wx → IsWord to_right (convert to_right y) wy → OperatorAgrees f to v wx wy)
        → Evals shapes t agree ops r hs (joined f to to_right at second first) (operated_type f to) V
    unfolding joined
    joined_evals f to to_right kl kr at second first q1 q2 V tl tr one other both operator =
        let x = balanced first.ops first.given to in
        let xm = balanced_makes shapes t agree first.ops one.next first.given to (subst IsType (sym one.kind) tl) one.stands one.fits in
        let xa = xm.1 in
        let to_x = grows_on shapes ops first.ops x.ops r one.next xa.next one.grows xa.grows in
        let right = second x.ops first.guards in
        let two = other x.ops xa.next first.guards hs to_x xa.stands (under_grows shapes t first.ops x.ops one.next xa.next xa.grows first.guards hs one.under) (λ all. (let h = both all in (h.second, h.second_is))) in
        let y = balanced right.ops right.given to_right in
        let ym = balanced_makes shapes t agree right.ops two.next right.given to_right (subst IsType (sym two.kind) tr) two.stands two.fits in
        let ya = ym.1 in
        let x_to_y = grows_on shapes x.ops right.ops y.ops xa.next two.next ya.next two.grows ya.grows in
        let to_y = grows_on shapes ops x.ops y.ops r xa.next ya.next to_x x_to_y in
        let x_still = word_grows shapes x.ops y.ops xa.next ya.next x_to_y x.operand.value xa.fits.early in
        let early : AreEarly (length ya.next.results) (x.operand ∷ y.operand ∷ []) = (early_grows shapes x.ops y.ops xa.next ya.next x_to_y x.operand.value xa.fits.early, (ya.fits.early, tt)) in
        let below = under_grows shapes t right.ops y.ops two.next ya.next ya.grows right.guards hs two.under in
        let agrees : all_hold hs ≡ true → (v : ℤ) → V v → OperatorAgrees f to v (operand ya.next.words ya.next.results x.operand) (operand ya.next.words ya.next.results y.operand) =
        λ all v is_.
        (let h = both all in
        operator all h.first h.second v (operand ya.next.words ya.next.results x.operand) (operand ya.next.words ya.next.results y.operand) h.first_is h.second_is (given_is shapes t agree one.next first.given kl h.first one.kind (one.has all h.first h.first_is)) (given_is shapes t agree two.next right.given kr h.second two.kind (two.has all h.second h.second_is)) is_
        (subst (λ w. IsWord to (convert to h.first) w) (sym (x_still ∙ xa.holds)) (xm.2 h.first (one.has all h.first h.first_is)))
        (subst (λ w. IsWord to_right (convert to_right h.second) w) (sym ya.holds) (ym.2 h.second (two.has all h.second h.second_is)))) in
        evals_on ops y.ops r ya.next hs (operated f to at y.ops right.guards x.operand y.operand) (operated_type f to) V to_y
        (operated_evals shapes t agree y.ops ya.next right.guards hs ya.stands below V f to at x.operand y.operand early (λ all. (let h = both all in (h.result, h.holds))) agrees)

    -- ---- `&&` and `||`: control comes to the second operand where h

    junction_of : (both : Bool) (h : Bool) (kl kr : CType) (second : Next) (first : Evaluated) (q1 q2 : Valued ℤ) (V : ℤ → Type 0) → (if both then h else not h) ≡ true_in q1
        → Evals shapes t agree ops r hs first kl (λ v. q1 ≡ is v) → Follows ops r second kr q2 → (all_hold hs ≡ true → IsDefined q1) → (all_hold hs ≡ true → h ≡ true → IsDefined q2)
        → ((wx wy : ℕ) → wx ≡ bit (true_in q1) → (h ≡ true → wy ≡ bit (true_in q2)) → all_hold hs ≡ true → (v : ℤ) → V v → (c : Bool) × (op.value (if both then o.And else o.Or) false 1 0 (wx ∷ wy ∷ []) ≡ bit c) × (v ≡ truth c))
        → Evals shapes t agree ops r hs (junction both second first) int_type V
    unfolding junction
    junction_of both h kl kr second first q1 q2 V is_h one other first_there second_there result =
        let x = tested first.ops first.given in
        let xm = tested_makes shapes t agree first.ops one.next first.given one.stands one.fits in
        let xa = xm.1 in
        let to_x = grows_on shapes ops first.ops x.ops r one.next xa.next one.grows xa.grows in
        let x_is : all_hold hs ≡ true → operand xa.next.words xa.next.results x.operand ≡ bit (true_in q1) =
        λ all. (let d = first_there all in xa.holds ∙ xm.2 d.0 (one.has all d.0 d.1) ∙ ap bit (truth_of q1 d.0 d.1)) in
        let below : Under shapes t x.ops xa.next (only_where x.operand both first.guards) (h ∷ hs) =
        (under_grows shapes t first.ops x.ops one.next xa.next xa.grows first.guards hs one.under, xa.fits, λ all. x_is all ∙ ap bit (sym is_h), tt) in
        let right = second x.ops (only_where x.operand both first.guards) in
        let two = other x.ops xa.next (only_where x.operand both first.guards) (h ∷ hs) to_x xa.stands below (λ all. second_there (and_left (all_hold hs) h all) (and_right (all_hold hs) h all)) in
        let y = tested right.ops right.given in
        let ym = tested_makes shapes t agree right.ops two.next right.given two.stands two.fits in
        let ya = ym.1 in
        let x_to_y = grows_on shapes x.ops right.ops y.ops xa.next two.next ya.next two.grows ya.grows in
        let to_y = grows_on shapes ops x.ops y.ops r xa.next ya.next to_x x_to_y in
        let x_still = word_grows shapes x.ops y.ops xa.next ya.next x_to_y x.operand.value xa.fits.early in
        let wx = operand ya.next.words ya.next.results x.operand in
        let wy = operand ya.next.words ya.next.results y.operand in
        let y_is : all_hold hs ≡ true → h ≡ true → wy ≡ bit (true_in q2) =
        λ all holds.
        (let d = second_there all holds in
        let all_ = both_true (all_hold hs) h all holds in ya.holds ∙ ym.2 d.0 (two.has all_ d.0 d.1) ∙ ap bit (truth_of q2 d.0 d.1)) in
        let kind = if both then o.And else o.Or in
        let new = plain kind 1 (x.operand ∷ y.operand ∷ []) in
        let w = op.value kind false 1 0 (wx ∷ wy ∷ []) in
        evals_on ops y.ops r ya.next hs (with_truth (outside right.guards) (added y.ops new)) int_type V to_y
        (adds_truth shapes t agree y.ops ya.next (outside right.guards) hs ya.stands
        (outside_under y.ops ya.next right.guards h hs (under_grows shapes t right.ops y.ops two.next ya.next ya.grows right.guards (h ∷ hs) two.under)) V (added y.ops new) w
        (junction_adds both y.ops ya.next x.operand y.operand ya.stands)
        (λ all v is_. result wx wy (x_still ∙ x_is all) (y_is all) all v is_))

    pub and_evals : (kl kr : CType) (second : Next) (first : Evaluated) (q1 q2 : Valued ℤ) (V : ℤ → Type 0) → Evals shapes t agree ops r hs first kl (λ v. q1 ≡ is v) → Follows ops r second kr q2
        → (all_hold hs ≡ true → IsDefined q1) → (all_hold hs ≡ true → true_in q1 ≡ true → IsDefined q2) → (all_hold hs ≡ true → (v : ℤ) → V v → v ≡ truth (true_in q1 && true_in q2))
        → Evals shapes t agree ops r hs (junction true second first) int_type V
    and_evals kl kr second first q1 q2 V one other d1 d2 result = junction_of true (true_in q1) kl kr second first q1 q2 V refl one other d1 d2
        (λ wx wy ex ey all v is_. (true_in q1 && true_in q2, ap (λ n. op.value o.And false 1 0 (n ∷ wy ∷ [])) ex ∙ and_bit (true_in q1) (true_in q2) wy ey, result all v is_))

    pub or_evals : (kl kr : CType) (second : Next) (first : Evaluated) (q1 q2 : Valued ℤ) (V : ℤ → Type 0) → Evals shapes t agree ops r hs first kl (λ v. q1 ≡ is v) → Follows ops r second kr q2
        → (all_hold hs ≡ true → IsDefined q1) → (all_hold hs ≡ true → true_in q1 ≡ false → IsDefined q2) → (all_hold hs ≡ true → (v : ℤ) → V v → v ≡ truth (true_in q1 || true_in q2))
        → Evals shapes t agree ops r hs (junction false second first) int_type V
    or_evals kl kr second first q1 q2 V one other d1 d2 result = junction_of false (not (true_in q1)) kl kr second first q1 q2 V (not_not (true_in q1)) one other d1 (λ all n. d2 all (not_true (true_in q1) n))
        (λ wx wy ex ey all v is_. (true_in q1 || true_in q2, ap (λ n. op.value o.Or false 1 0 (n ∷ wy ∷ [])) ex ∙ or_bit (true_in q1) (true_in q2) wy (λ n. ey (ap not n)), result all v is_))

    -- ---- choices

    pub choice_evals : (k k0 k1 k2 : CType) (first second : Next) (test : Evaluated) (q0 q1 q2 : Valued ℤ) (V : ℤ → Type 0) → IsType k1 → IsType k2 → OperatorsAgree → Evals shapes t agree ops r hs test k0 (λ v. q0 ≡ is v) → Follows ops r first k1 q1 → Follows ops r second k2 q2
        → (all_hold hs ≡ true → IsDefined q0) → (all_hold hs ≡ true → true_in q0 ≡ true → IsDefined q1) → (all_hold hs ≡ true → true_in q0 ≡ false → IsDefined q2)
        → (all_hold hs ≡ true → (v : ℤ) → V v → (true_in q0 ≡ true → (x : ℤ) → q1 ≡ is x → v ≡ convert k x) × (true_in q0 ≡ false → (y : ℤ) → q2 ≡ is y → v ≡ convert k y))
        → Evals shapes t agree ops r hs (choice k first second test) k V
    unfolding choice
    choice_evals k k0 k1 k2 first second test q0 q1 q2 V tl tr operators zero_ one_ two_ d0 d1 d2 result =
        let a = true_in q0 in
        let b = tested test.ops test.given in
        let bm = tested_makes shapes t agree test.ops zero_.next test.given zero_.stands zero_.fits in
        let ba = bm.1 in
        let to_b = grows_on shapes ops test.ops b.ops r zero_.next ba.next zero_.grows ba.grows in
        let b_is : all_hold hs ≡ true → operand ba.next.words ba.next.results b.operand ≡ bit a =
        λ all. (let d = d0 all in ba.holds ∙ bm.2 d.0 (zero_.has all d.0 d.1) ∙ ap bit (truth_of q0 d.0 d.1)) in
        let below1 : Under shapes t b.ops ba.next (only_where b.operand true test.guards) (a ∷ hs) =
        (under_grows shapes t test.ops b.ops zero_.next ba.next ba.grows test.guards hs zero_.under, ba.fits, b_is, tt) in
        let left = first b.ops (only_where b.operand true test.guards) in
        let one = one_ b.ops ba.next (only_where b.operand true test.guards) (a ∷ hs) to_b ba.stands below1 (λ all. d1 (and_left (all_hold hs) a all) (and_right (all_hold hs) a all)) in
        let x = balanced left.ops left.given k in
        let xm = balanced_makes shapes t agree left.ops one.next left.given k (subst IsType (sym one.kind) tl) one.stands one.fits in
        let xa = xm.1 in
        let b_to_x = grows_on shapes b.ops left.ops x.ops ba.next one.next xa.next one.grows xa.grows in
        let to_x = grows_on shapes ops b.ops x.ops r ba.next xa.next to_b b_to_x in
        let b_still = word_grows shapes b.ops x.ops ba.next xa.next b_to_x b.operand.value ba.fits.early in
        let below2 : Under shapes t x.ops xa.next (only_where b.operand false (outside left.guards)) (not a ∷ hs) = (
          outside_under x.ops xa.next left.guards a hs (under_grows shapes t left.ops x.ops one.next xa.next xa.grows left.guards (a ∷ hs) one.under),
          fits_grow shapes b.ops x.ops ba.next xa.next b_to_x b.operand 1 ba.fits,
          λ all. b_still ∙ b_is all ∙ ap bit (sym (not_not a)),
          tt,
        ) in
        let right = second x.ops (only_where b.operand false (outside left.guards)) in
        let two = two_ x.ops xa.next (only_where b.operand false (outside left.guards)) (not a ∷ hs) to_x xa.stands below2
        (λ all. d2 (and_left (all_hold hs) (not a) all) (not_true a (and_right (all_hold hs) (not a) all))) in
        let y = balanced right.ops right.given k in
        let ym = balanced_makes shapes t agree right.ops two.next right.given k (subst IsType (sym two.kind) tr) two.stands two.fits in
        let ya = ym.1 in
        let x_to_y = grows_on shapes x.ops right.ops y.ops xa.next two.next ya.next two.grows ya.grows in
        let to_y = grows_on shapes ops x.ops y.ops r xa.next ya.next to_x x_to_y in
        let b_to_y = grows_on shapes b.ops x.ops y.ops ba.next xa.next ya.next b_to_x x_to_y in
        let wb = operand ya.next.words ya.next.results b.operand in
        let wx = operand ya.next.words ya.next.results x.operand in
        let wy = operand ya.next.words ya.next.results y.operand in
        let b_at : all_hold hs ≡ true → wb ≡ bit a = λ all. word_grows shapes b.ops y.ops ba.next ya.next b_to_y b.operand.value ba.fits.early ∙ b_is all in
        let new = plain o.Select (width k) (b.operand ∷ x.operand ∷ y.operand ∷ []) in
        let w = op.value o.Select false (width k) 0 (wb ∷ wx ∷ wy ∷ []) in
        let x_is : all_hold hs ≡ true → a ≡ true → (v : ℤ) → V v → IsWord k v wx =
        λ all e v is_.
        (let d = d1 all e in
        let same = (result all v is_).0 e d.0 d.1 in
        let all_ = both_true (all_hold hs) a all e in
        subst (λ n. IsWord k n wx) (sym same) (subst (λ n. IsWord k (convert k d.0) n) (sym (word_grows shapes x.ops y.ops xa.next ya.next x_to_y x.operand.value xa.fits.early ∙ xa.holds)) (xm.2 d.0 (one.has all_ d.0 d.1)))) in
        let y_is : all_hold hs ≡ true → a ≡ false → (v : ℤ) → V v → IsWord k v wy =
        λ all e v is_.
        (let d = d2 all e in
        let same = (result all v is_).1 e d.0 d.1 in
        let all_ = both_true (all_hold hs) (not a) all (ap not e) in
        subst (λ n. IsWord k n wy) (sym same) (subst (λ n. IsWord k (convert k d.0) n) (sym ya.holds) (ym.2 d.0 (two.has all_ d.0 d.1)))) in
        evals_on ops y.ops r ya.next hs (with_value (outside right.guards) k (added y.ops new)) k V to_y
        (adds_value shapes t agree y.ops ya.next (outside right.guards) hs ya.stands
        (outside_under y.ops ya.next right.guards (not a) hs (under_grows shapes t right.ops y.ops two.next ya.next ya.grows right.guards (not a ∷ hs) two.under)) V k (added y.ops new) (width k) w refl
        (adds shapes t y.ops ya.next new w ya.stands (λ later. refl))
        (λ all v is_. selected operators k a wb wx wy v (b_at all) (λ e. x_is all e v is_) (λ e. y_is all e v is_)))
