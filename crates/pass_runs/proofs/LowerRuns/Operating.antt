-- Operations that compute, under guards.
use Rattle.std.proofs.Common.{◌≡◌, ◌∙◌, ℕ, Bool, true, false, refl, ap, sym, subst, ℤ, List, [], ◌∷◌, ◌++◌, map, length, Option, Some, None, if◌then◌else◌}
use Rattle.hls_base.specs.declared.place.Place.{Place}
use Rattle.hls_base.specs.declared.refusal.UbRule.{UbRule}
use Rattle.c_token.specs.declared.ctype.CType.{CType}
use Rattle.c_tree.specs.declared.operator.Binary.{Binary}
use Rattle.c_tree.specs.declared.operator.Binary.TheVariants as b
use Rattle.c_value.specs.Values.{width, is_signed, int_type}
use Rattle.c_value.specs.Operators.{truth}
use Rattle.ir_core.specs.declared.body.OpKind.{OpKind}
use Rattle.ir_core.specs.declared.body.OpKind.TheVariants as o
use Rattle.ir_core.specs.declared.body.Operand.{Operand}
use Rattle.ir_core.specs.Timing.{result_bits}
use Rattle.ir_core.specs.Value as op
use Rattle.hls_base.specs.Valued.{is}
use Rattle.ir_core.specs.Bodies.{OpTree, Shapes, Words, Ranged, Performed, performed, operand, is_allowed, fault_if, broken_rule, perform}
use Rattle.passes.specs.Lowering.Operations.{Emitted, added, plain, defined, flagged, kind_of}
use Rattle.passes.specs.Lowering.Guards.{Guard, guarded}
use Rattle.passes.specs.Lowering.Expressions.{Evaluated, with_value, with_truth, under_guard, is_total, computed, operation, operated}
use Rattle.pass_runs.specs.LowerRuns.Early.{AreEarly}
use Rattle.pass_runs.specs.LowerRuns.OperatorWords.Words.{IsWord, Agrees, ConversionsAgree}
use Rattle.pass_runs.proofs.LowerRuns.Growing.{Grows, grows_on, words_more}
use Rattle.pass_runs.proofs.LowerRuns.Adding.{Adds, adds}
use Rattle.pass_runs.proofs.LowerRuns.Converting.{bit, GivenFits, GivenHas}
use Rattle.pass_runs.proofs.LowerRuns.Guarding.{all_hold, Under, under_grows, guarded_makes, allows}
use Rattle.pass_runs.specs.LowerRuns.Standing.{Stands, Fits}

abbrev pub Computes : OpKind → Type 0
Computes o.Add = Unit {0}
Computes o.Sub = Unit {0}
Computes o.Mul = Unit {0}
Computes o.Div = Unit {0}
Computes o.Rem = Unit {0}
Computes o.And = Unit {0}
Computes o.Or = Unit {0}
Computes o.Xor = Unit {0}
Computes o.Shl = Unit {0}
Computes o.Shr = Unit {0}
Computes o.Neg = Unit {0}
Computes kind = ⊥

-- an operation that is defined where control comes to it
pub no_fault : (allowed : Bool) (at : Place) (is_defined : Bool) (rule : UbRule) (p : Performed) → (allowed ≡ true → is_defined ≡ true) → fault_if allowed (Some at) (if is_defined then None else Some rule) p ≡ is p
no_fault false at d rule p h = refl
no_fault true at d rule p h = ap (λ (b : Bool). fault_if true (Some at) (if b then None else Some rule) p) (h refl)

module _ (shapes : Shapes) where
  plain_performs : (all : List OpTree) (kind : OpKind) (bits : ℕ) (args : List Operand) (results : List ℕ) (t : Words) → Computes kind
      → perform shapes all (plain kind bits args) results t ≡ is (performed (op.value kind false bits 0 (map (operand t results) args)) t)
  plain_performs all o.Add bits args results t h = refl
  plain_performs all o.Sub bits args results t h = refl
  plain_performs all o.Mul bits args results t h = refl
  plain_performs all o.Div bits args results t h = refl
  plain_performs all o.Rem bits args results t h = refl
  plain_performs all o.And bits args results t h = refl
  plain_performs all o.Or bits args results t h = refl
  plain_performs all o.Xor bits args results t h = refl
  plain_performs all o.Shl bits args results t h = refl
  plain_performs all o.Shr bits args results t h = refl
  plain_performs all o.Neg bits args results t h = refl
  plain_performs all o.Eq bits args results t h = absurd h
  plain_performs all o.Ne bits args results t h = absurd h
  plain_performs all o.Lt bits args results t h = absurd h
  plain_performs all o.Le bits args results t h = absurd h
  plain_performs all o.Not bits args results t h = absurd h
  plain_performs all o.Select bits args results t h = absurd h
  plain_performs all o.Widen bits args results t h = absurd h
  plain_performs all o.Narrow bits args results t h = absurd h
  plain_performs all o.Truth bits args results t h = absurd h
  plain_performs all o.Copy bits args results t h = absurd h
  plain_performs all o.Load bits args results t h = absurd h
  plain_performs all o.Store bits args results t h = absurd h
  plain_performs all (o.Fused p) bits args results t h = absurd h

  flagged_performs : (all : List OpTree) (kind : OpKind) (signed : Bool) (bits : ℕ) (args : List Operand) (at : Place) (guard : Option Operand) (results : List ℕ) (t : Words) → Computes kind
      → (is_allowed t results guard ≡ true → op.is_defined kind signed bits (map (operand t results) args) ≡ true)
      → perform shapes all (flagged kind signed bits args None at guard) results t ≡ is (performed (op.value kind signed bits 0 (map (operand t results) args)) t)
  flagged_performs all o.Add signed bits args at guard results t c h =
      let ws = map (operand t results) args in no_fault (is_allowed t results guard) at (op.is_defined o.Add signed bits ws) (broken_rule o.Add bits ws) (performed (op.value o.Add signed bits 0 ws) t) h
  flagged_performs all o.Sub signed bits args at guard results t c h =
      let ws = map (operand t results) args in no_fault (is_allowed t results guard) at (op.is_defined o.Sub signed bits ws) (broken_rule o.Sub bits ws) (performed (op.value o.Sub signed bits 0 ws) t) h
  flagged_performs all o.Mul signed bits args at guard results t c h =
      let ws = map (operand t results) args in no_fault (is_allowed t results guard) at (op.is_defined o.Mul signed bits ws) (broken_rule o.Mul bits ws) (performed (op.value o.Mul signed bits 0 ws) t) h
  flagged_performs all o.Div signed bits args at guard results t c h =
      let ws = map (operand t results) args in no_fault (is_allowed t results guard) at (op.is_defined o.Div signed bits ws) (broken_rule o.Div bits ws) (performed (op.value o.Div signed bits 0 ws) t) h
  flagged_performs all o.Rem signed bits args at guard results t c h =
      let ws = map (operand t results) args in no_fault (is_allowed t results guard) at (op.is_defined o.Rem signed bits ws) (broken_rule o.Rem bits ws) (performed (op.value o.Rem signed bits 0 ws) t) h
  flagged_performs all o.And signed bits args at guard results t c h =
      let ws = map (operand t results) args in no_fault (is_allowed t results guard) at (op.is_defined o.And signed bits ws) (broken_rule o.And bits ws) (performed (op.value o.And signed bits 0 ws) t) h
  flagged_performs all o.Or signed bits args at guard results t c h =
      let ws = map (operand t results) args in no_fault (is_allowed t results guard) at (op.is_defined o.Or signed bits ws) (broken_rule o.Or bits ws) (performed (op.value o.Or signed bits 0 ws) t) h
  flagged_performs all o.Xor signed bits args at guard results t c h =
      let ws = map (operand t results) args in no_fault (is_allowed t results guard) at (op.is_defined o.Xor signed bits ws) (broken_rule o.Xor bits ws) (performed (op.value o.Xor signed bits 0 ws) t) h
  flagged_performs all o.Shl signed bits args at guard results t c h =
      let ws = map (operand t results) args in no_fault (is_allowed t results guard) at (op.is_defined o.Shl signed bits ws) (broken_rule o.Shl bits ws) (performed (op.value o.Shl signed bits 0 ws) t) h
  flagged_performs all o.Shr signed bits args at guard results t c h =
      let ws = map (operand t results) args in no_fault (is_allowed t results guard) at (op.is_defined o.Shr signed bits ws) (broken_rule o.Shr bits ws) (performed (op.value o.Shr signed bits 0 ws) t) h
  flagged_performs all o.Neg signed bits args at guard results t c h =
      let ws = map (operand t results) args in no_fault (is_allowed t results guard) at (op.is_defined o.Neg signed bits ws) (broken_rule o.Neg bits ws) (performed (op.value o.Neg signed bits 0 ws) t) h
  flagged_performs all o.Eq signed bits args at guard results t c h = absurd c
  flagged_performs all o.Ne signed bits args at guard results t c h = absurd c
  flagged_performs all o.Lt signed bits args at guard results t c h = absurd c
  flagged_performs all o.Le signed bits args at guard results t c h = absurd c
  flagged_performs all o.Not signed bits args at guard results t c h = absurd c
  flagged_performs all o.Select signed bits args at guard results t c h = absurd c
  flagged_performs all o.Widen signed bits args at guard results t c h = absurd c
  flagged_performs all o.Narrow signed bits args at guard results t c h = absurd c
  flagged_performs all o.Truth signed bits args at guard results t c h = absurd c
  flagged_performs all o.Copy signed bits args at guard results t c h = absurd c
  flagged_performs all o.Load signed bits args at guard results t c h = absurd c
  flagged_performs all o.Store signed bits args at guard results t c h = absurd c
  flagged_performs all (o.Fused p) signed bits args at guard results t c h = absurd c

  computed_bits : (kind : OpKind) (bits : ℕ) → Computes kind → result_bits kind bits ≡ bits
  computed_bits o.Add bits h = refl
  computed_bits o.Sub bits h = refl
  computed_bits o.Mul bits h = refl
  computed_bits o.Div bits h = refl
  computed_bits o.Rem bits h = refl
  computed_bits o.And bits h = refl
  computed_bits o.Or bits h = refl
  computed_bits o.Xor bits h = refl
  computed_bits o.Shl bits h = refl
  computed_bits o.Shr bits h = refl
  computed_bits o.Neg bits h = refl
  computed_bits o.Eq bits h = absurd h
  computed_bits o.Ne bits h = absurd h
  computed_bits o.Lt bits h = absurd h
  computed_bits o.Le bits h = absurd h
  computed_bits o.Not bits h = absurd h
  computed_bits o.Select bits h = absurd h
  computed_bits o.Widen bits h = absurd h
  computed_bits o.Narrow bits h = absurd h
  computed_bits o.Truth bits h = absurd h
  computed_bits o.Copy bits h = absurd h
  computed_bits o.Load bits h = absurd h
  computed_bits o.Store bits h = absurd h
  computed_bits (o.Fused p) bits h = absurd h

  pub args_grow : (ops ops' : List OpTree) (r r' : Ranged) → Grows shapes ops r ops' r' → (xs : List Operand) → AreEarly (length r.results) xs → map (operand r'.words r'.results) xs ≡ map (operand r.words r.results) xs
  args_grow ops ops' r r' g xs h = ap (λ (x : Ranged). map (operand x.words x.results) xs) g.same ∙ words_more r.words r.results g.others xs h

-- an operator on words, where the value has this number
abbrev pub Holds : ℤ → ℕ → Type 0
Holds v w = (c : Bool) × (w ≡ bit c) × (v ≡ truth c)

abbrev pub OperatorAgrees : Binary → CType → ℤ → ℕ → ℕ → Type 0
OperatorAgrees b.Lt k v wx wy = Holds v (op.value o.Lt (is_signed k) (width k) 0 (wx ∷ wy ∷ []))
OperatorAgrees b.Gt k v wx wy = Holds v (op.value o.Lt (is_signed k) (width k) 0 (wy ∷ wx ∷ []))
OperatorAgrees b.Le k v wx wy = Holds v (op.value o.Le (is_signed k) (width k) 0 (wx ∷ wy ∷ []))
OperatorAgrees b.Ge k v wx wy = Holds v (op.value o.Le (is_signed k) (width k) 0 (wy ∷ wx ∷ []))
OperatorAgrees b.Eq k v wx wy = Holds v (op.value o.Eq false (width k) 0 (wx ∷ wy ∷ []))
OperatorAgrees b.Ne k v wx wy = Holds v (op.value o.Ne false (width k) 0 (wx ∷ wy ∷ []))
OperatorAgrees f k v wx wy = Agrees (operation f) k v (wx ∷ wy ∷ [])

-- the type of what it gives
abbrev pub operated_type : Binary → CType → CType
operated_type b.Lt k = int_type
operated_type b.Gt k = int_type
operated_type b.Le k = int_type
operated_type b.Ge k = int_type
operated_type b.Eq k = int_type
operated_type b.Ne k = int_type
operated_type f k = k

module _ (shapes : Shapes) (t : Words) (agree : ConversionsAgree) where
  -- An expression was evaluated: where all guards hold, what it gives has each number of which this is known.
  pub record Evals (ops : List OpTree) (r : Ranged) (hs : List Bool) (x : Evaluated) (k : CType) (V : ℤ → Type 0) : Type 0 where
    pub next : Ranged
    pub stands : Stands shapes t x.ops next
    pub grows : Grows shapes ops r x.ops next
    pub under : Under shapes t x.ops next x.guards hs
    pub fits : GivenFits shapes t agree x.ops next x.given
    pub kind : kind_of x.given ≡ k
    pub has : all_hold hs ≡ true → (v : ℤ) → V v → GivenHas shapes t agree next x.given v

  module _ (ops : List OpTree) (r : Ranged) (gs : List Guard) (hs : List Bool) (stands : Stands shapes t ops r) (below : Under shapes t ops r gs hs) (V : ℤ → Type 0) where
    -- an operation that gives a value of this type
    pub adds_value : (k : CType) (x : Emitted) (bits w : ℕ) → bits ≡ width k → Adds shapes t ops r x bits w → (all_hold hs ≡ true → (v : ℤ) → V v → IsWord k v w) → Evals ops r hs (with_value gs k x) k V
    adds_value k x bits w e a h = record {
      next = a.next;
      stands = a.stands;
      grows = a.grows;
      under = under_grows shapes t ops x.ops r a.next a.grows gs hs below;
      fits = subst (λ n. Fits shapes x.ops a.next x.operand n) e a.fits;
      kind = refl;
      has = λ all v is_. subst (λ n. IsWord k v n) (sym a.holds) (h all v is_);
    }

    pub adds_truth : (x : Emitted) (w : ℕ) → Adds shapes t ops r x 1 w → (all_hold hs ≡ true → (v : ℤ) → V v → (c : Bool) × (w ≡ bit c) × (v ≡ truth c)) → Evals ops r hs (with_truth gs x) int_type V
    adds_truth x w a h = record {
      next = a.next;
      stands = a.stands;
      grows = a.grows;
      under = under_grows shapes t ops x.ops r a.next a.grows gs hs below;
      fits = a.fits;
      kind = refl;
      has = λ all v is_. (let c = h all v is_ in (c.0, a.holds ∙ c.1, c.2));
    }

    pub computed_evals : (kind : OpKind) (k : CType) (at : Place) (args : List Operand) → Computes kind → AreEarly (length r.results) args → (all_hold hs ≡ true → (v : ℤ) × V v)
        → (all_hold hs ≡ true → (v : ℤ) → V v → Agrees kind k v (map (operand r.words r.results) args)) → Evals ops r hs (computed kind k at ops gs args) k V
    computed_evals kind k at args c early some h = either (is_total kind (is_signed k)) refl where
      ws : List ℕ
      ws = map (operand r.words r.results) args

      either : (b : Bool) → is_total kind (is_signed k) ≡ b → Evals ops r hs (if b then with_value gs k (added ops (plain kind (width k) args)) else under_guard k (flagged kind (is_signed k) (width k) args None at) (guarded ops gs)) k V
      either true e =
          let w = op.value kind false (width k) 0 (map (operand r.words r.results) args) in
          adds_value k (added ops (plain kind (width k) args)) (result_bits kind (width k)) w (computed_bits shapes kind (width k) c)
          (adds shapes t ops r (plain kind (width k) args) w stands (λ later. plain_performs shapes (ops ++ later) kind (width k) args r.results r.words c))
          (λ all v is_. (h all v is_).0 e)
      either false e =
          let g = guarded ops gs in
          let m = guarded_makes shapes t ops r gs hs stands below in
          let ws' = map (operand m.next.words m.next.results) args in
          let same : ws' ≡ map (operand r.words r.results) args = args_grow shapes ops g.ops r m.next m.grows args early in
          let s = is_signed k in
          let w = op.value kind s (width k) 0 ws' in
          let new = flagged kind s (width k) args None at g.bit in
          let defined_ : is_allowed m.next.words m.next.results g.bit ≡ true → op.is_defined kind s (width k) ws' ≡ true =
          λ allowed. (let all = sym (allows shapes t g.ops m.next g.bit (all_hold hs) m.bit_is) ∙ allowed in
          let v = some all in
          ap (op.is_defined kind s (width k)) same ∙ ((h all v.0 v.1).1 e).1) in
          let a = adds shapes t g.ops m.next new w m.stands (λ later. flagged_performs shapes (g.ops ++ later) kind s (width k) args at g.bit m.next.results m.next.words c defined_) in record {
            next = a.next;
            stands = a.stands;
            grows = grows_on shapes ops g.ops (added g.ops new).ops r m.next a.next m.grows a.grows;
            under = under_grows shapes t g.ops (added g.ops new).ops m.next a.next a.grows g.guards hs m.under;
            fits = subst (λ n. Fits shapes (added g.ops new).ops a.next (added g.ops new).operand n) (computed_bits shapes kind (width k) c) a.fits;
            kind = refl;
            has = λ all v is_. subst (λ n. IsWord k v n) (sym (a.holds ∙ ap (op.value kind s (width k) 0) same)) ((h all v is_).1 e).0;
          }

    pub operated_evals : (f : Binary) (k : CType) (at : Place) (x y : Operand) → AreEarly (length r.results) (x ∷ y ∷ []) → (all_hold hs ≡ true → (v : ℤ) × V v)
        → (all_hold hs ≡ true → (v : ℤ) → V v → OperatorAgrees f k v (operand r.words r.results x) (operand r.words r.results y)) → Evals ops r hs (operated f k at ops gs x y) (operated_type f k) V
    operated_evals b.Lt k at x y early some h =
        let w = op.value o.Lt (is_signed k) (width k) 0 (operand r.words r.results x ∷ operand r.words r.results y ∷ []) in
        let new = defined o.Lt (is_signed k) (width k) (x ∷ y ∷ []) in adds_truth (added ops new) w (adds shapes t ops r new w stands (λ later. refl)) h
    operated_evals b.Gt k at x y early some h =
        let w = op.value o.Lt (is_signed k) (width k) 0 (operand r.words r.results y ∷ operand r.words r.results x ∷ []) in
        let new = defined o.Lt (is_signed k) (width k) (y ∷ x ∷ []) in adds_truth (added ops new) w (adds shapes t ops r new w stands (λ later. refl)) h
    operated_evals b.Le k at x y early some h =
        let w = op.value o.Le (is_signed k) (width k) 0 (operand r.words r.results x ∷ operand r.words r.results y ∷ []) in
        let new = defined o.Le (is_signed k) (width k) (x ∷ y ∷ []) in adds_truth (added ops new) w (adds shapes t ops r new w stands (λ later. refl)) h
    operated_evals b.Ge k at x y early some h =
        let w = op.value o.Le (is_signed k) (width k) 0 (operand r.words r.results y ∷ operand r.words r.results x ∷ []) in
        let new = defined o.Le (is_signed k) (width k) (y ∷ x ∷ []) in adds_truth (added ops new) w (adds shapes t ops r new w stands (λ later. refl)) h
    operated_evals b.Eq k at x y early some h =
        let w = op.value o.Eq false (width k) 0 (operand r.words r.results x ∷ operand r.words r.results y ∷ []) in
        let new = defined o.Eq false (width k) (x ∷ y ∷ []) in adds_truth (added ops new) w (adds shapes t ops r new w stands (λ later. refl)) h
    operated_evals b.Ne k at x y early some h =
        let w = op.value o.Ne false (width k) 0 (operand r.words r.results x ∷ operand r.words r.results y ∷ []) in
        let new = defined o.Ne false (width k) (x ∷ y ∷ []) in adds_truth (added ops new) w (adds shapes t ops r new w stands (λ later. refl)) h
    operated_evals b.Mul k at x y early some h = computed_evals o.Mul k at (x ∷ y ∷ []) tt early some h
    operated_evals b.Div k at x y early some h = computed_evals o.Div k at (x ∷ y ∷ []) tt early some h
    operated_evals b.Rem k at x y early some h = computed_evals o.Rem k at (x ∷ y ∷ []) tt early some h
    operated_evals b.Add k at x y early some h = computed_evals o.Add k at (x ∷ y ∷ []) tt early some h
    operated_evals b.Sub k at x y early some h = computed_evals o.Sub k at (x ∷ y ∷ []) tt early some h
    operated_evals b.Shl k at x y early some h = computed_evals o.Shl k at (x ∷ y ∷ []) tt early some h
    operated_evals b.Shr k at x y early some h = computed_evals o.Shr k at (x ∷ y ∷ []) tt early some h
    operated_evals b.And k at x y early some h = computed_evals o.And k at (x ∷ y ∷ []) tt early some h
    operated_evals b.Xor k at x y early some h = computed_evals o.Xor k at (x ∷ y ∷ []) tt early some h
    operated_evals b.Or k at x y early some h = computed_evals o.Or k at (x ∷ y ∷ []) tt early some h
    operated_evals b.LogAnd k at x y early some h = computed_evals o.And k at (x ∷ y ∷ []) tt early some h
    operated_evals b.LogOr k at x y early some h = computed_evals o.Or k at (x ∷ y ∷ []) tt early some h
