-- A loop hands on the values of the iteration before the one that does not run.
use Rattle.std.proofs.Common.{◌≡◌, ◌≢◌, ℕ, zero, suc, ◌%◌, true, false, List, [], ◌∷◌, Some, inl, inr, refl, sym, ap, ◌∙◌, subst}
use Rattle.std.specs.Prelude.{slice_get}
use Rattle.std.proofs.lemmas.Bool.{and_left}
use Rattle.ir_core.specs.declared.body.Operand.{Operand}
use Rattle.ir_core.specs.declared.body.Out.{Out}
use Rattle.ir_core.specs.declared.cfg.Memory.{Memory}
use Rattle.ir_core.specs.declared.cfg.Node.{Node}
use Rattle.ir_core.specs.declared.cfg.Node.TheVariants as node
use Rattle.ir_core.specs.declared.stamp.Untimed.{Untimed}
use Rattle.ir_core.specs.declared.timed.Timed.{Timed}
use Rattle.ir_core.specs.Bodies.{Shapes}
use Rattle.clock_ir.specs.Flows.{TimedBody, Flow, is_at, operand_at, taken}
use Rattle.clock_ir.specs.ClockRuns.{TimedNode, block, overlapped, later, timed_node}
use Rattle.clock_ir.specs.WellTimed.{IsWellTimedNode}
use Rattle.clock_runs.specs.Premises as premises
use Rattle.clock_runs.specs.Premises.{IsSoundNode}
use Rattle.clock_runs.proofs.Lists.{some_same, no_some, each_get}
use Rattle.datapath.specs.Plans.{Plan, body_at, span}
use Rattle.datapath.specs.Cycles.{Ready, Initial, Active, Variable, Contents, Cycle, in_cycle, holds, starts}
use Rattle.datapath.specs.Control.{leaves_as, is_taken}
use Rattle.datapath.specs.Values.{out_value, out_writes}
use Rattle.datapath.specs.Circuits.{IsAfter}
use Rattle.datapath.specs.Standing.{IsInside}
use Rattle.datapath.specs.Blocks.{AreApart}
use Rattle.datapath.specs.Savings.{IsLive, passes, IsLiveBehind, goes_on}
use Rattle.datapath.proofs.Writes.{NoneWanted}
use Rattle.datapath.proofs.Controller.{off}
use Rattle.datapath.proofs.LeavingBlocks.{by_node}
use Rattle.datapath.proofs.LastCycles.{off_outs, taken_none, taken_at}
use Rattle.circuit_agreement.specs.CircuitFlow.Compiled.{IsCompiled}
use Rattle.circuit_agreement.specs.CircuitFlow.Reads.{by_exit}
use Rattle.circuit_agreement.specs.CircuitFlow.Flows.{Sees, HoldsVariables}
use Rattle.circuit_agreement.proofs.Nodes.{NodeOf, node_of, body_found}
use Rattle.circuit_agreement.specs.CircuitFlow.NodeEnds.{LoopsHandOn}
use Rattle.circuit_agreement.proofs.NodeEnds.Variables.{unset_outs, all_set, some_set, variable_stays, variable_takes}
use Rattle.circuit_agreement.proofs.NodeEnds.Handing.{sets_or, sets_not}

-- ---- no two outs of a loop set one variable

apart_of : (xs : List Out) → premises.AreApart xs → AreApart xs
apart_of [] h n m x y ex ey same = absurd (no_some ex)
apart_of (z ∷ zs) h zero zero x y ex ey same = refl
apart_of (z ∷ zs) h zero (suc m) x y ex ey same =
    absurd ((each_get (λ (o : Out). (o.variable.0 ≢ z.variable.0) × (o.value.value ≢ z.value.value)) zs m y h.0 ey).0 (sym same ∙ sym (ap (λ (o : Out). o.variable.0) (some_same ex))))
apart_of (z ∷ zs) h (suc n) zero x y ex ey same =
    absurd ((each_get (λ (o : Out). (o.variable.0 ≢ z.variable.0) × (o.value.value ≢ z.value.value)) zs n x h.0 ex).0 (same ∙ sym (ap (λ (o : Out). o.variable.0) (some_same ey))))
apart_of (z ∷ zs) h (suc n) (suc m) x y ex ey same = ap suc (apart_of zs h.1 n m x y ex ey same)

abbrev LoopApart : TimedNode → Type 0
LoopApart (block body end_) = Unit {0}
LoopApart (overlapped body exit next) = AreApart body.outs

apart_in : (shapes_ : Shapes) (memories : List Memory) (u : Node Untimed) (t : Node Timed) → IsWellTimedNode memories u t → IsSoundNode shapes_ u → LoopApart (timed_node t)
apart_in shapes_ memories (node.Plain u) (node.Plain t) w h = tt
apart_in shapes_ memories (node.Plain u) (node.Looped t) w h = absurd w
apart_in shapes_ memories (node.Looped u) (node.Plain t) w h = absurd w
apart_in shapes_ memories (node.Looped u) (node.Looped t) w h = subst AreApart (sym w.1.1.body.outs) (apart_of u.body.outs.items h.apart)

loop_apart : (p : Plan) (c : IsCompiled p) (i : ℕ) (body : TimedBody) (exit next : ℕ) → slice_get p.program.nodes i ≡ Some (overlapped body exit next) → AreApart (body_at p i).outs
loop_apart p c i body exit next at_ =
    let n : NodeOf p c i (overlapped body exit next) = node_of p c i (overlapped body exit next) at_ in
    subst (λ (b : TimedBody). AreApart b.outs) (sym (body_found p i (overlapped body exit next) at_))
    (subst LoopApart n.is (apart_in p.program.shapes c.untimed.frame.memories.items n.untimed n.timed n.well_timed n.sound))

-- ---- the last cycle of a loop

module _ (p : Plan) (compiled : IsCompiled p) (i : ℕ) (body : TimedBody) (exit next_ : ℕ) (at_ : slice_get p.program.nodes i ≡ Some (overlapped body exit next_)) (f : Flow)
    (now : is_at (body_at p i).interval exit f.time ≡ true) (x y : Contents) (c : Cycle) (same : c.regs ≡ x.regs) (stands : IsInside i (f.time % span p i) x) (holds_ : HoldsVariables p i f.entry x)
    (after : IsAfter p c y) (sees : Sees p i f c) (left_ : leaves_as p c i (overlapped body exit next_) ≡ true) where
  abbrev b : TimedBody
  b = body_at p i

  abbrev it : TimedNode
  it = overlapped (body_at p i) exit next_

  abbrev read : Operand → ℕ
  read z = operand_at (body_at p i) f exit (later z)

  same_body : body ≡ body_at p i
  same_body = sym (body_found p i (overlapped body exit next_) at_)

  loop_is : slice_get p.program.nodes i ≡ Some it
  loop_is = at_ ∙ ap (λ (z : TimedBody). Some (overlapped z exit next_)) same_body

  leaving : leaves_as p c i it ≡ true
  leaving = subst (λ (z : TimedBody). leaves_as p c i (overlapped z exit next_) ≡ true) same_body left_

  untaken : is_taken c ≡ false
  untaken = and_left _ (starts c) (off c Ready (ap (λ r. r Ready) same ∙ stands.busy.ready))

  uninitial : holds c Initial ≡ false
  uninitial = off c Initial (ap (λ r. r Initial) same ∙ stands.busy.initial)

  others : (j : ℕ) → j ≢ i → c.regs (Active j) ≡ 0
  others j other = ap (λ r. r (Active j)) same ∙ stands.others j other

  apart : AreApart b.outs
  apart = loop_apart p compiled i body exit next_ at_

  pub hands : HoldsVariables p next_ (taken read b.outs f.entry) y
  hands v live =
      let behind : IsLiveBehind p v i = goes_on next_ it loop_is refl live in
      let live_in : IsLive p v i = passes v i next_ it loop_is tt refl live in
      elim (sets_or b.outs v) [
        | inl set ↦
            let n : ℕ = set.0 in
            let out : Out = set.1.0 in
            let is : slice_get b.outs n ≡ Some out = set.1.1.0 in
            let live_out : IsLiveBehind p out.variable.0 i = subst (λ k. IsLiveBehind p k i) (sym set.1.1.1) behind in
            let kept : p.savings.behind i out.variable.0 ≡ true = compiled.safe.behind out.variable.0 i live_out in
            let takes_it : y.regs (Variable out.variable.0) ≡ out_value p c i it out =
            variable_takes p c y after untaken uninitial out.variable.0 i it (out_value p c i it out) loop_is others
            (all_set p c i it n out leaving kept apart is) (some_set p c i it n out leaving kept apart is) in
            let value_ : y.regs (Variable out.variable.0) ≡ taken read b.outs f.entry out.variable.0 =
            takes_it ∙ (sees (later out.value) exit (by_exit (body_at p i) exit next_ n out loop_is is live_out) now ∙ sym (taken_at read b.outs f.entry n out is apart)) in
            subst (λ k. y.regs (Variable k) ≡ taken read b.outs f.entry k) set.1.1.1 value_
        | inr none ↦
            let unset = sets_not b.outs v none in
            variable_stays p c y after untaken uninitial v (by_node p i it (λ j node. NoneWanted (out_writes p c v (j, node))) loop_is (unset_outs p c v i it unset)
            (λ j node other. off_outs p c v j node (others j other)))
            ∙ (ap (λ r. r (Variable v)) same ∙ (holds_ v live_in ∙ sym (taken_none read b.outs f.entry v unset)))
      ]

pub loops_hand_on : LoopsHandOn
loops_hand_on p i body exit next_ f x y pins compiled at_ now stands holds_ step sees left_ =
    hands p compiled i body exit next_ at_ f now x y (in_cycle x step.signals pins) refl stands holds_ step.is_after sees left_
