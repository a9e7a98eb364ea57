-- What operations read and what units are given in a cycle of a node.
use Rattle.std.proofs.Common.{◌≡◌, ℕ, suc, ◌+◌, ◌%◌, ◌<◌, ◌≤◌, Bool, true, not, ◌&&◌, List, [], ◌∷◌, map, Option, Some, None, refl, sym, ap, ap₂, ◌∙◌, subst, arith}
use Rattle.std.specs.Prelude.{◌==◌, slice_get}
use Rattle.std.proofs.lemmas.Bool.{and_parts, and_from, eqb-true, eq-eqb, false≢true}
use Rattle.hls_base.specs.declared.number.ArrayId.{ArrayId}
use Rattle.ir_core.specs.declared.body.OpKind.{OpKind}
use Rattle.ir_core.specs.declared.body.OpKind.TheVariants as o
use Rattle.ir_core.specs.declared.body.Operand.{Operand}
use Rattle.ir_core.specs.declared.cfg.Memory.{Memory}
use Rattle.ir_core.specs.declared.timing.UnitClass.{UnitClass}
use Rattle.ir_core.specs.declared.timing.UnitClass.TheVariants as u
use Rattle.ir_core.specs.Timing as timing
use Rattle.ir_core.specs.Timing.{unit_class}
use Rattle.clock_ir.specs.Flows.{TimedOp, Flow, is_at, pushed, operand_at, holds_at, given, under_way_behind, tick}
use Rattle.clock_ir.specs.ClockRuns.{TimedNode}
use Rattle.clock_runs.proofs.Lists.{some_same}
use Rattle.datapath.specs.Plans.{Plan, Placed, body_at, span, all_ops, unit_of}
use Rattle.datapath.specs.Cycles.{Contents, Signal, Cycle, in_cycle}
use Rattle.rtl_logic.specs.Choosing.{Write, where_, Takes}
use Rattle.datapath.specs.Reading.{at as at_node, operand, is_true, is_starting, arguments, is_allowed}
use Rattle.datapath.specs.Units.{is_of_class, users}
use Rattle.datapath.specs.Standing.{IsInside}
use Rattle.circuit_agreement.specs.CircuitFlow.Compiled.{IsCompiled}
use Rattle.circuit_agreement.specs.CircuitFlow.Reads.{by_argument, by_guard}
use Rattle.circuit_agreement.specs.CircuitFlow.Flows.{Sees}
use Rattle.circuit_agreement.proofs.Nodes.{positive}
use Rattle.circuit_agreement.specs.UnitResults.UnderWay.{IsWithin, placed_at}
use Rattle.circuit_agreement.proofs.UnitResults.Lists.{In, in_filter, from_filter, want_some, want_all}
use Rattle.circuit_agreement.proofs.UnitResults.Times.{same_rest}
use Rattle.circuit_agreement.proofs.UnitResults.Operations.{op_in, op_from, at_from, at_says, starts_here}
use Rattle.circuit_agreement.proofs.UnitResults.Turns.{occupied, class_of, turns_of, Share, alone}

-- node i is under way, and reads what the clocked run reads
pub record Going (p : Plan) (i : ℕ) (f : Flow) (x : Contents) (signals : Signal → ℕ) (pins : List ℕ) : Type 0 where
  pub node : TimedNode
  pub there : slice_get p.program.nodes i ≡ Some node
  pub compiled : IsCompiled p
  pub inside : IsInside i (f.time % span p i) x
  pub within : IsWithin p i f.time
  pub sees : Sees p i f (in_cycle x signals pins)

latency_some : (kind : OpKind) (bits : ℕ) → 1 ≤ timing.latency kind bits
latency_some o.Mul bits = omega arith
latency_some o.Load bits = omega arith
latency_some o.Div bits = omega arith
latency_some o.Rem bits = omega arith
latency_some kind bits = omega arith

-- ---- what operations read

pub same_map : {A : Type 0} (f g : A → ℕ) (xs : List A) → ((n : ℕ) (a : A) → slice_get xs n ≡ Some a → f a ≡ g a) → map f xs ≡ map g xs
same_map f g [] h = refl
same_map f g (a ∷ xs) h = ap₂ (λ x l. x ∷ l) (h 0 a refl) (same_map f g xs (λ n b e. h (suc n) b e))

pub reads_arguments : (p : Plan) (i : ℕ) (f : Flow) (c : Cycle) (k : ℕ) (it : TimedOp) → Sees p i f c → slice_get (body_at p i).ops k ≡ Some it → is_at (body_at p i).interval it.start f.time ≡ true
    → arguments p c (placed_at i k it) ≡ map (operand_at (body_at p i) f it.start) it.op.args
reads_arguments p i f c k it sees is now =
    same_map (operand p c i it.start) (operand_at (body_at p i) f it.start) it.op.args (λ n x e. sees x it.start (by_argument k n it x is e) now)

pub reads_guard : (p : Plan) (i : ℕ) (f : Flow) (c : Cycle) (k : ℕ) (it : TimedOp) → Sees p i f c → slice_get (body_at p i).ops k ≡ Some it → is_at (body_at p i).interval it.start f.time ≡ true
    → is_allowed p c (placed_at i k it) ≡ holds_at (body_at p i) f it.start it.op.guard
reads_guard p i f c k it sees is now = on it.op.guard (λ x e. sees x it.start (by_guard k it x is e) now)
  where
    on : (guard : Option Operand) → ((x : Operand) → guard ≡ Some x → operand p c i it.start x ≡ operand_at (body_at p i) f it.start x)
        → is_true p c i it.start guard ≡ holds_at (body_at p i) f it.start guard
    on None h = refl
    on (Some x) h = ap (λ (k : ℕ). not (k == 0)) (h x refl)

-- ---- the clocked run

pub ticked_time : (p : Plan) (i : ℕ) (f : Flow) → (tick p.program.shapes (body_at p i) f).time ≡ suc f.time
unfolding tick
ticked_time p i f = refl

pub ticked_under_way : (p : Plan) (i : ℕ) (f : Flow) (k j : ℕ) (it : TimedOp) → slice_get (body_at p i).ops k ≡ Some it
    → (tick p.program.shapes (body_at p i) f).under_way k j ≡ pushed (given p.program.shapes (body_at p i) f it) (f.under_way k) j
unfolding tick
ticked_under_way p i f k j it is = ap (λ o. under_way_behind p.program.shapes (body_at p i) f k o j) is

-- ---- what units are given

module _ (p : Plan) (i : ℕ) (f : Flow) (x : Contents) (signals : Signal → ℕ) (pins : List ℕ) (g : Going p i f x signals pins) where
  abbrev c : Cycle
  c = in_cycle x signals pins

  pub some : 1 ≤ (body_at p i).interval
  some = (positive p i g.node g.compiled g.there).0

  pub span_is : span p i ≡ (body_at p i).interval
  span_is = (positive p i g.node g.compiled g.there).1

  spans : 1 ≤ span p i
  spans = subst (λ (w : ℕ). 1 ≤ w) (sym span_is) some

  pub starts_now : (k : ℕ) (it : TimedOp) → is_at (body_at p i).interval it.start f.time ≡ true → is_starting p c (placed_at i k it) ≡ true
  starts_now k it now =
      at_from p c x i f.time refl g.inside spans it.start (subst (λ (w : ℕ). it.start % w ≡ f.time % w) (sym span_is) (same_rest (body_at p i).interval it.start f.time now))

  -- an operation that starts here
  pub record Starts (q : Placed) : Type 0 where
    pub is : slice_get (body_at p i).ops q.number ≡ Some q.op
    pub here : q.node ≡ i
    pub now : q.op.start % (body_at p i).interval ≡ f.time % (body_at p i).interval

  pub starts_as : (m : ℕ) (q : Placed) → slice_get (all_ops p) m ≡ Some q → is_starting p c q ≡ true → Starts q
  starts_as m q e start =
      let h = op_from p m q e in
      let node_ : q.node ≡ i = starts_here p c x i f.time refl g.inside spans q start in
      record {
        is = subst (λ (j : ℕ). slice_get (body_at p j).ops q.number ≡ Some q.op) node_ h.is;
        here = node_;
        now = subst (λ (w : ℕ). q.op.start % w ≡ f.time % w) span_is
            (at_says p c x i f.time refl g.inside spans q.op.start (subst (λ (j : ℕ). at_node p c j q.op.start ≡ true) node_ start));
      }

  pub same_place : (k : ℕ) (it : TimedOp) (q : Placed) → Starts q → slice_get (body_at p i).ops k ≡ Some it → k ≡ q.number → q ≡ placed_at i k it
  same_place k it q s is e =
      let op_ : q.op ≡ it = some_same (sym s.is ∙ (ap (slice_get (body_at p i).ops) (sym e) ∙ is)) in
      let number_ : q.number ≡ k = sym e in
      λ j. record { node = s.here j; number = number_ j; op = op_ j }

  -- where an operation has its unit no other one takes it
  pub only : (k d m : ℕ) (it : TimedOp) (q : Placed) (class : UnitClass) → slice_get (body_at p i).ops k ≡ Some it → is_at (body_at p i).interval (it.start + d) f.time ≡ true → d < occupied it
      → class_of g.compiled.untimed.frame.memories.items it ≡ Some class → slice_get (all_ops p) m ≡ Some q → is_starting p c q ≡ true
      → class_of g.compiled.untimed.frame.memories.items q.op ≡ Some class → unit_of p q ≡ unit_of p (placed_at i k it) → (d ≡ 0) × (q ≡ placed_at i k it)
  only k d m it q class is started early first e start second unit_ =
      let s = starts_as m q e start in
      let memories : List Memory = g.compiled.untimed.frame.memories.items in
      let q_is : q ≡ placed_at i q.number q.op = (λ j. record { node = s.here j; number = q.number; op = q.op }) in
      let share : Share p i memories k q.number it q.op = record { is = is; is_other = s.is; class = class; first = first; second = second; unit = sym unit_ ∙ ap (unit_of p) q_is } in
      let a = alone p i memories f.time k q.number d it q.op (turns_of p g.compiled i g.node g.there) g.within share started early s.now (latency_some q.op.op.kind q.op.op.bits) in
      (a.now, same_place k it q s is a.same)

-- ---- units of a class

pub class_from : (class : UnitClass) (kind : OpKind) (bits : ℕ) (array : Option ArrayId) (memories : List Memory) → is_of_class class kind bits ≡ true → unit_class kind bits array memories ≡ Some class
class_from (u.Multiplier w) o.Mul bits array memories e = ap (λ (n : ℕ). Some (u.Multiplier n)) (sym (eqb-true w bits e))
class_from (u.Divider w) o.Div bits array memories e = ap (λ (n : ℕ). Some (u.Divider n)) (sym (eqb-true w bits e))
class_from (u.Divider w) o.Rem bits array memories e = ap (λ (n : ℕ). Some (u.Divider n)) (sym (eqb-true w bits e))
class_from class kind bits array memories e = absurd (false≢true e)

module _ (p : Plan) (i : ℕ) (f : Flow) (x : Contents) (signals : Signal → ℕ) (pins : List ℕ) (g : Going p i f x signals pins) (k : ℕ) (it : TimedOp)
    (is : slice_get (body_at p i).ops k ≡ Some it) (class : UnitClass) (of : is_of_class class it.op.kind it.op.bits ≡ true) where
  abbrev unit_ : ℕ
  unit_ = unit_of p (placed_at i k it)

  abbrev now_ : Cycle
  now_ = in_cycle x signals pins

  abbrev test_ : Placed → Bool
  test_ q = is_of_class class q.op.op.kind q.op.op.bits && (unit_of p q == unit_)

  pub uses : In (users p class unit_) (placed_at i k it)
  uses =
      let h = op_in p i k g.node it g.there is in
      in_filter test_ (all_ops p) h.place (placed_at i k it) h.stands (and_from _ _ of (eq-eqb unit_ unit_ refl))

  -- another user does not start while the operation has the unit
  pub one_user : (d m : ℕ) (q : Placed) → is_at (body_at p i).interval (it.start + d) f.time ≡ true → d < occupied it → slice_get (users p class unit_) m ≡ Some q → is_starting p now_ q ≡ true
      → (d ≡ 0) × (q ≡ placed_at i k it)
  one_user d m q started early e start =
      let memories : List Memory = g.compiled.untimed.frame.memories.items in
      let h = from_filter test_ (all_ops p) m q e in
      let parts = and_parts (is_of_class class q.op.op.kind q.op.op.bits) (unit_of p q == unit_) h.passes in
      only p i f x signals pins g k d h.place it q class is started early (class_from class it.op.kind it.op.bits it.op.array memories of) h.stands start
      (class_from class q.op.op.kind q.op.op.bits q.op.op.array memories parts.0) (eqb-true (unit_of p q) unit_ parts.1)

  -- what it is given as the operation starts is the operation's
  pub is_given : (value : Placed → ℕ) (other : Option ℕ) (given_ : ℕ) → is_at (body_at p i).interval it.start f.time ≡ true → 0 < occupied it
      → Takes (map (λ (q : Placed). where_ (is_starting p now_ q) (value q)) (users p class unit_)) other given_ → given_ ≡ value (placed_at i k it)
  is_given value other given_ now early t =
      let write : Placed → Write = λ (q : Placed). where_ (is_starting p now_ q) (value q) in
      let started : is_at (body_at p i).interval (it.start + 0) f.time ≡ true = subst (λ (s : ℕ). is_at (body_at p i).interval s f.time ≡ true) (let e : it.start ≡ it.start + 0 = omega arith in e) now in
      t.wanted (value (placed_at i k it)) (want_some write (users p class unit_) uses.place (placed_at i k it) uses.stands (starts_now p i f x signals pins g k it now))
      (want_all write (users p class unit_) (value (placed_at i k it)) (λ m q e start. ap value (one_user 0 m q started early e start).1))
