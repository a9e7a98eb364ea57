-- The operands of operations are there when they start.
use Rattle.std.proofs.Common.{◌≡◌, ℕ, ◌+◌, ◌*◌, ◌<◌, ◌≤◌, ◌∙◌, inl, inr, sym, refl, ap, subst, List, ◌++◌, Option, Some, None, arith}
use Rattle.std.specs.Prelude.{option_to_list}
use Rattle.std.specs.List.{Contains}
use Rattle.std.proofs.lemmas.List.Elements.{Contains-append_left, Contains-append_right}
use Rattle.hls_base.specs.declared.number.OpId.{OpId}
use Rattle.ir_core.specs.declared.body.Body.{Body}
use Rattle.ir_core.specs.declared.body.Op.{Op}
use Rattle.ir_core.specs.declared.body.Operand.{Operand}
use Rattle.ir_core.specs.declared.body.Source.{Source}
use Rattle.ir_core.specs.declared.body.Source.TheVariants as source
use Rattle.ir_core.specs.declared.stamp.Untimed.{Untimed}
use Rattle.dep_graph.specs.Offsets.{nth, maker}
use Rattle.dep_graph.specs.Dependences.{maker_by, maker_of}
use Rattle.ir_core.specs.Bodies.{OpTree}
use Rattle.clock_ir.specs.Flows.{entered}
use Rattle.clock_runs.specs.Premises.{IsOperandAs, IsOperand, IsOperandIf, Each}
use Rattle.clock_runs.proofs.Settings.{Setting, op_at, count_of, available, IsCarried, IsReadyAs, IsReady, IsReadyIf}
use Rattle.clock_runs.proofs.Sums.{IsCopy}
use Rattle.clock_runs.proofs.Ordered.{AreKept}
use Rattle.clock_runs.proofs.Waiting.{data_wait, guard_there}
use Rattle.clock_runs.proofs.Lists.{each_in}

-- what the body carries to its next iteration, operation j makes
pub record IsLinked (s : Setting) (body : Body Untimed) (horizon variable : ℕ) (j : OpId) : Type 0 where
  pub timed : maker s.body.outs variable ≡ Some j
  pub untimed : maker body.outs.items variable ≡ Some j
  pub within : j.0 < count_of s
  pub entry : entered s.body.outs s.start.variables j.0 ≡ s.start.variables variable
  pub near : s.body.interval < horizon

module _ (s : Setting) (body : Body Untimed) (copy : IsCopy s s.carried body) (times : List ℕ) (horizon : ℕ) (kept : AreKept s body times horizon) (links : (variable : ℕ) (j : OpId) → maker s.carried variable ≡ Some j → IsLinked s body horizon variable j) where
  abbrev width : ℕ
  width = s.body.interval

  -- a variable of the iteration before
  pub carried_at : (time v : ℕ) (j : OpId) → maker s.carried v ≡ Some j → available s j.0 ≤ time + width → IsCarried s time v j
  carried_at time v j e h = (let l = links v j e in record { made = l.timed; carries = e; within = l.within; there = h; entry = l.entry })

  module _ (k : ℕ) (lt : k < count_of s) (u : Op Untimed) (here : nth body.ops.items k ≡ Some u) where
    ready_as : (x : Operand) → Contains (u.args.items ++ option_to_list u.guard) x → (value : Source) (distance : ℕ) → x.value ≡ value → x.distance ≡ distance → IsOperandAs s.carried k value distance → IsReadyAs s k (op_at s k).start value distance
    ready_as x c (source.Constant w) distance e d h = tt
    ready_as x c (source.Variable v) distance e d h = elim h [
      | inl fixed ↦ inl fixed
      | inr changed ↦
          let j = changed.1.0 in
          let l = links v.0 j changed.1.1 in
          let at : maker_of body.outs.items x ≡ Some j = ap (maker_by body.outs.items x.distance) e ∙ ap (λ z. maker_by body.outs.items z (source.Variable v)) (d ∙ changed.0) ∙ l.untimed in
          let wait = data_wait s s.carried body copy times horizon kept k u x j lt here c at l.within (inr l.near) in
          let one : x.distance * width ≡ 1 * width = ap (λ z. z * width) (d ∙ changed.0) in
          inr (changed.0, (j, carried_at (op_at s k).start v.0 j changed.1.1 (omega arith)))
    ]
    ready_as x c (source.Result j) distance e d h =
        let within : j.0 < count_of s = (let z = h.1 in omega arith) in
        let at : maker_of body.outs.items x ≡ Some j = ap (maker_by body.outs.items x.distance) e in
        let wait = data_wait s s.carried body copy times horizon kept k u x j lt here c at within (inl (d ∙ h.0)) in
        let none : x.distance * width ≡ 0 * width = ap (λ z. z * width) (d ∙ h.0) in
        (h.0, h.1, within, omega arith)

    ready_args : Each (IsReady s k (op_at s k).start) u.args.items
    ready_args =
        each_in (IsOperand s.carried k) (IsReady s k (op_at s k).start) u.args.items
        (λ x c h. ready_as x (Contains-append_left u.args.items (option_to_list u.guard) x c) x.value x.distance refl refl h)
        (subst (λ (op : OpTree). Each (IsOperand s.carried k) op.args) (sym (copy.ops k u here).1) (copy.sound k lt).args)

    ready_if : (p : Option Operand) → u.guard ≡ p → IsOperandIf s.carried k p → IsReadyIf s k (op_at s k).start p
    ready_if None e h = tt
    ready_if (Some x) e h = ready_as x (Contains-append_right u.args.items (option_to_list u.guard) x (guard_there u.guard x e)) x.value x.distance refl refl h

  pub args_ready : (k : ℕ) → k < count_of s → Each (IsReady s k (op_at s k).start) (op_at s k).op.args
  args_ready k lt =
      let f = copy.found k lt in
      subst (λ (op : OpTree). Each (IsReady s k (op_at s k).start) op.args) (copy.ops k f.0 f.1).1 (ready_args k lt f.0 f.1)

  pub guard_ready : (k : ℕ) → k < count_of s → IsReadyIf s k (op_at s k).start (op_at s k).op.guard
  guard_ready k lt =
      let f = copy.found k lt in
      let same = (copy.ops k f.0 f.1).1 in
      ready_if k lt f.0 f.1 (op_at s k).op.guard (ap (λ (op : OpTree). op.guard) same) (copy.sound k lt).guard
