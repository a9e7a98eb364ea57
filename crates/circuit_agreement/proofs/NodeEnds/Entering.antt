-- A block is left for the node to which its end leads, also where its cases have no order.
use Rattle.std.proofs.Common.{◌≡◌, ◌≢◌, ℕ, suc, ◌+◌, ◌-◌, ◌<◌, ◌≤◌, Bool, true, false, not, ◌&&◌, List, [], ◌∷◌, map, Some, inl, inr, refl, sym, ap, ◌∙◌, subst, arith}
use Rattle.std.specs.Prelude.{◌==◌, ◌||◌, nat_eq, slice_get}
use Rattle.std.specs.List.{list_any}
use Rattle.std.proofs.lemmas.Bool.{true≢false, false≢true, and_left, cases_Bool, or_from, eqb-true, eq-eqb, cond-true, cond-false, not_from_true, false_from_ne_true}
use Rattle.hls_base.specs.declared.number.NodeId.{NodeId}
use Rattle.ir_core.specs.declared.body.OpKind.{OpKind}
use Rattle.ir_core.specs.declared.body.OpKind.TheVariants as o
use Rattle.ir_core.specs.declared.body.Operand.{Operand}
use Rattle.ir_core.specs.declared.body.Source.TheVariants as source
use Rattle.ir_core.specs.declared.cfg.End.{End}
use Rattle.ir_core.specs.declared.cfg.End.TheVariants as end
use Rattle.ir_core.specs.Value.{value, truth}
use Rattle.ir_core.specs.Bodies.{first_bits}
use Rattle.clock_ir.specs.Flows.{TimedOp, TimedBody, Flow, latency, ready, ready_in, operand_at, given}
use Rattle.clock_ir.specs.ClockRuns.{block, going_by, chosen_by}
use Rattle.datapath.specs.Plans.{Plan, body_at, span}
use Rattle.datapath.specs.Cycles.{Cycle, in_cycle}
use Rattle.datapath.specs.Reading.{operand}
use Rattle.datapath.specs.Control.{is_to, holds_case, end_leads, leads_as}
use Rattle.datapath.specs.Standing.{IsInside}
use Rattle.datapath.specs.Laws.{leads_to}
use Rattle.datapath.specs.Blocks.{EndReads}
use Rattle.datapath.specs.Savings.{Compares, AreDifferent, AreExclusive}
use Rattle.datapath.proofs.Simple.{one_cycle}
use Rattle.datapath.proofs.LeavingBlocks.{leaves_as_led}
use Rattle.circuit_agreement.specs.CircuitFlow.Compiled.{IsCompiled}
use Rattle.circuit_agreement.specs.CircuitFlow.Flows.{Sees}
use Rattle.circuit_agreement.proofs.Nodes.{positive, body_found}
use Rattle.circuit_agreement.specs.CircuitFlow.NodeEnds.Ends.{HoldsComparisons}
use Rattle.circuit_agreement.specs.CircuitFlow.NodeEnds.{BlocksEnter}
use Rattle.circuit_agreement.proofs.NodeEnds.Blocks.{IsThereAs, IsThere, BlockReads, block_reads}
use Rattle.circuit_agreement.proofs.NodeEnds.Reading.{found, reads}
use Rattle.circuit_agreement.proofs.NodeEnds.Handing.{last_time, end_seen, end_there}
use Rattle.circuit_agreement.proofs.NodeEnds.Comparing.{simple_eq, given_is}

-- ---- cases of which no two hold

none_any : {A : Type 0} (f : A → Bool) (xs : List A) → ((n : ℕ) (a : A) → slice_get xs n ≡ Some a → f a ≡ false) → list_any f xs ≡ false
none_any f [] h = refl
none_any f (a ∷ xs) h = or_from (f a) (list_any f xs) (h 0 a refl) (none_any f xs (λ n b e. h (suc n) b e))

abbrev leads_among : (Operand → ℕ) → List (Operand × NodeId) → NodeId → ℕ → Bool
leads_among read cases other j = list_any (λ (case : Operand × NodeId). holds_case read case && (case.1.0 == j)) cases || (not (list_any (holds_case read) cases) && (other.0 == j))

-- the first case holds, or does not
first_leads : (a q r s t : Bool) → a ≡ true → r ≡ false → (((a && q) || r) || (not (a || s) && t)) ≡ q
first_leads true true r s t e none = refl
first_leads true false true s t e none = none
first_leads true false false s t e none = refl
first_leads false q r s t e none = absurd (false≢true e)

other_leads : (a q r s t : Bool) → a ≡ false → (((a && q) || r) || (not (a || s) && t)) ≡ (r || (not s && t))
other_leads true q r s t e = absurd (true≢false e)
other_leads false q r s t e = refl

abbrev NoTwoOf : (Operand → ℕ) → List (Operand × NodeId) → Type 0
NoTwoOf read cases = (n m : ℕ) (one two : Operand × NodeId) → n ≢ m → slice_get cases n ≡ Some one → slice_get cases m ≡ Some two → holds_case read one ≡ true → holds_case read two ≡ true → ⊥

one_leads : (read : Operand → ℕ) (cases : List (Operand × NodeId)) (other : NodeId) (j : ℕ) → NoTwoOf read cases → leads_among read cases other j ≡ (chosen_by read cases other == j)
one_leads read [] other j h = refl
one_leads read (case ∷ cases) other j h = elim (cases_Bool (holds_case read case)) [
  | inl this ↦
      let none : list_any (λ (k : Operand × NodeId). holds_case read k && (k.1.0 == j)) cases ≡ false =
      none_any (λ (k : Operand × NodeId). holds_case read k && (k.1.0 == j)) cases (λ n k e.
      and_left (holds_case read k) (k.1.0 == j) (false_from_ne_true (holds_case read k) (λ too. h 0 (suc n) case k (λ z. omega (arith, z)) refl e this too))) in
      first_leads (holds_case read case) (case.1.0 == j) _ (list_any (holds_case read) cases) (other.0 == j) this none
      ∙ sym (ap (λ (n : ℕ). n == j) (cond-true _ _ _ this))
  | inr not_this ↦
      other_leads (holds_case read case) (case.1.0 == j) _ (list_any (holds_case read) cases) (other.0 == j) not_this
      ∙ (one_leads read cases other j (λ n m one two differ e g. h (suc n) (suc m) one two (λ z. differ (omega (arith, z))) e g)
      ∙ sym (ap (λ (n : ℕ). n == j) (cond-false _ _ _ not_this)))
]

abbrev NoTwoHold : (Operand → ℕ) → End → Type 0
NoTwoHold read (end.Choose cases other) = NoTwoOf read cases.items
NoTwoHold read e = Unit {0}

leads_in_order : (read : Operand → ℕ) (e : End) (k : ℕ) → NoTwoHold read e → end_leads read true e k ≡ is_to k (going_by read e)
leads_in_order read (end.Jump next) k h = refl
leads_in_order read (end.Branch test left right) k h = refl
leads_in_order read (end.Choose cases other) k h = one_leads read cases.items other k h
leads_in_order read (end.Return word) k h = refl

-- ---- comparisons with different constants

truth_holds : (x y : ℕ) → truth (nat_eq x y) ≢ 0 → x ≡ y
truth_holds x y h = elim (cases_Bool (nat_eq x y)) [ inl e ↦ eqb-true x y e | inr e ↦ absurd (h (cond-false _ _ _ e)) ]

module _ (p : Plan) (compiled : IsCompiled p) (i : ℕ) (body : TimedBody) (end_ : End) (at_ : slice_get p.program.nodes i ≡ Some (block body end_)) (f : Flow)
    (last : f.time + 1 ≡ (body_at p i).interval) (h : HoldsComparisons p i f) (c : Cycle) (sees : Sees p i f c) where
  abbrev b : TimedBody
  b = body_at p i

  some : 1 ≤ b.interval
  some = (positive p i (block body end_) compiled at_).0

  facts : BlockReads b end_
  facts = block_reads p compiled i body end_ at_

  abbrev read : Operand → ℕ
  read = operand p c i (span p i - 1)

  block_is : slice_get p.program.nodes i ≡ Some (block (body_at p i) end_)
  block_is = at_ ∙ ap (λ (z : TimedBody). Some (block z end_)) (sym (body_found p i (block body end_) at_))

  -- what two operands hold where their comparison holds
  equal : (k : ℕ) (it : TimedOp) (x other : Operand) (number : ℕ) → slice_get b.ops k ≡ Some it → it.op.kind ≡ o.Eq → it.op.args ≡ x ∷ other ∷ [] → other.value ≡ source.Constant number
      → given p.program.shapes b f it ≢ 0 → found f x.value ≡ number
  equal k it x other number is kind args constant holds_ =
      let early : it.start < b.interval = facts.early k it is in
      let high : it.start ≤ b.interval = omega (arith, early) in
      let there : IsThere b it.start x = facts.args k 0 it x is (ap (λ (xs : List Operand). slice_get xs 0) args) in
      let there_too : IsThere b it.start other = facts.args k 1 it other is (ap (λ (xs : List Operand). slice_get xs 1) args) in
      let from : ℕ = first_bits p.program.shapes.widths (map (λ (q : TimedOp). q.op) b.ops) it.op it.op.args in
      let gives : given p.program.shapes b f it ≡ truth (nat_eq (operand_at b f it.start x) (operand_at b f it.start other)) =
      given_is p.program.shapes b f it (simple_eq it.op.kind kind)
      ∙ (ap (λ (q : OpKind). value q it.op.signed it.op.bits from (map (operand_at b f it.start) it.op.args)) kind
      ∙ ap (λ (xs : List Operand). value o.Eq it.op.signed it.op.bits from (map (operand_at b f it.start) xs)) args) in
      let same : operand_at b f it.start x ≡ operand_at b f it.start other = truth_holds _ _ (λ e. holds_ (gives ∙ e)) in
      sym (reads b some f it.start x high there) ∙ (same ∙ (reads b some f it.start other high there_too ∙ ap (found f) constant))

  -- what a case of the end compares
  case_says : (case : Operand × NodeId) (x : Operand) (number : ℕ) → EndReads end_ case.0 → Compares b case x number → holds_case read case ≡ true → found f x.value ≡ number
  case_says case x number reads_ m holds_ =
      let there : IsThere b f.time case.0 = end_there p compiled i body end_ at_ f last c sees case.0 reads_ in
      let result : IsThereAs b f.time (source.Result m.op) case.0.distance = subst (λ s. IsThereAs b f.time s case.0.distance) m.is there in
      let done : ready b m.op ≤ f.time = result.1.1.1 in
      let r : ready b m.op ≡ m.it.start + latency m.it = ap ready_in m.stands in
      let one : latency m.it ≡ 1 = one_cycle m.it.op.kind m.it.op.bits (simple_eq m.it.op.kind m.equal) in
      let before : m.it.start < f.time = omega (arith, done, r, one) in
      let is : read case.0 ≡ given p.program.shapes b f m.it =
      end_seen p compiled i body end_ at_ f last c sees case.0 reads_
      ∙ (reads b some f f.time case.0 (omega (arith, last)) there ∙ (ap (found f) m.is ∙ h m.op.0 m.it m.stands m.equal before)) in
      equal m.op.0 m.it x m.other number m.stands m.equal m.arguments m.number_ (λ e.
      false≢true (sym (not_from_true _ (eq-eqb (read case.0) 0 (is ∙ e))) ∙ holds_))

  no_two : (e : End) → end_ ≡ e → AreExclusive b e → NoTwoHold read e
  no_two (end.Jump next) is apart = tt
  no_two (end.Branch test left right) is apart = tt
  no_two (end.Choose cases other) is apart = λ n m one two differ at_one at_two holds_ holds_too.
      let d : AreDifferent b one two = apart n m one two differ at_one at_two in
      let reads_one : EndReads end_ one.0 = subst (λ z. EndReads z one.0) (sym is) (n, one.1, at_one) in
      let reads_two : EndReads end_ two.0 = subst (λ z. EndReads z two.0) (sym is) (m, two.1, at_two) in
      d.differ (sym (case_says one d.operand d.first reads_one d.compares holds_) ∙ case_says two d.operand d.second reads_two d.compares_too holds_too)
  no_two (end.Return word) is apart = tt

  pub led : (k : ℕ) → leads_as p c i (block body end_) k ≡ is_to k (leads_to p i end_ c)
  led k = elim (cases_Bool (p.savings.exclusive i)) [
    | inl exclusive ↦ ap (λ z. end_leads read z end_ k) exclusive ∙ leads_in_order read end_ k (no_two end_ refl (compiled.safe.exclusive i b end_ block_is exclusive))
    | inr ordered ↦ ap (λ z. end_leads read z end_ k) ordered
  ]

pub blocks_enter : BlocksEnter
blocks_enter p i body end_ f x y pins compiled at_ last r stands h step sees =
    leaves_as_led p i body end_ x y pins at_ r (subst (λ t. IsInside i t x) (last_time p compiled i body end_ at_ f last) stands) step
    (led p compiled i body end_ at_ f last h (in_cycle x step.signals pins) sees)
