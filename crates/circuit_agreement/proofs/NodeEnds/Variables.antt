-- What variables and the result take in a cycle in which no run is started.
use Rattle.std.proofs.Common.{◌≡◌, ◌≢◌, ℕ, true, false, [], map, Some, None, refl, sym, ap, ◌∙◌, subst}
use Rattle.std.specs.Prelude.{◌==◌, slice_get, filter}
use Rattle.std.proofs.lemmas.Bool.{or_from, eq-eqb, eqb-true, cond-true}
use Rattle.ir_core.specs.declared.body.Out.{Out}
use Rattle.ir_core.specs.declared.cfg.End.TheVariants as end
use Rattle.clock_ir.specs.ClockRuns.{TimedNode, block, overlapped}
use Rattle.clock_runs.proofs.Lists.{some_same}
use Rattle.datapath.specs.Plans.{Plan, body_at}
use Rattle.datapath.specs.Cycles.{Initial, Active, Variable, Result, Contents, Cycle, holds}
use Rattle.rtl_logic.specs.Choosing.{where_, is_any_wanted, AllWant}
use Rattle.datapath.specs.Control.{leaves_as, is_taken}
use Rattle.datapath.specs.Values.{out_value, out_writes, argument_writes, kept_writes, returned}
use Rattle.datapath.specs.Circuits.{IsAfter}
use Rattle.datapath.specs.Blocks.{AreApart}
use Rattle.datapath.proofs.Writes.{NoneWanted, none_want, none_both, none_if, none_map, none_of, none_mapped, all_both, all_of, some_of, all_mapped, some_mapped, some_right}
use Rattle.datapath.proofs.LeavingBlocks.{by_node}
use Rattle.datapath.proofs.LastCycles.{quiet_kept, off_outs, zero_more}

-- a node that is not left sets no variable
pub unleft_outs : (p : Plan) (c : Cycle) (v j : ℕ) (node : TimedNode) → leaves_as p c j node ≡ false → NoneWanted (out_writes p c v (j, node))
unleft_outs p c v j node unleft = none_if (p.savings.behind j v) _ [] (none_map _ _ (λ o. unleft)) refl

-- and gives no result
pub unleft_returned : (p : Plan) (c : Cycle) (j : ℕ) (node : TimedNode) → leaves_as p c j node ≡ false → NoneWanted (returned p c j node)
unleft_returned p c j (block body (end.Jump n)) unleft = refl
unleft_returned p c j (block body (end.Branch test left right)) unleft = refl
unleft_returned p c j (block body (end.Choose cases other)) unleft = refl
unleft_returned p c j (block body (end.Return None)) unleft = refl
unleft_returned p c j (block body (end.Return (Some z))) unleft = or_from _ false unleft refl
unleft_returned p c j (overlapped body exit next) unleft = refl

-- no out of the node sets the variable
pub unset_outs : (p : Plan) (c : Cycle) (v i : ℕ) (it : TimedNode) → ((n : ℕ) (out : Out) → slice_get (body_at p i).outs n ≡ Some out → out.variable.0 ≢ v) → NoneWanted (out_writes p c v (i, it))
unset_outs p c v i it unset = none_if (p.savings.behind i v) _ [] (none_mapped _ _ (body_at p i).outs (λ n o at_ passes. unset n o at_ (eqb-true o.variable.0 v passes))) refl

-- a node that is left sets each variable that is read again
module _ (p : Plan) (c : Cycle) (i : ℕ) (it : TimedNode) (n : ℕ) (out : Out) (left_ : leaves_as p c i it ≡ true) (kept : p.savings.behind i out.variable.0 ≡ true)
    (apart : AreApart (body_at p i).outs) (is : slice_get (body_at p i).outs n ≡ Some out) where
  written : out_writes p c out.variable.0 (i, it) ≡ map (λ (o : Out). where_ (leaves_as p c i it) (out_value p c i it o)) (filter (λ (o : Out). o.variable.0 == out.variable.0) (body_at p i).outs)
  written = cond-true _ _ _ kept

  pub all_set : AllWant (out_writes p c out.variable.0 (i, it)) (out_value p c i it out)
  all_set =
      subst (λ w. AllWant w (out_value p c i it out)) (sym written) (all_mapped _ _ (body_at p i).outs (out_value p c i it out) (λ m o at_ passes.
      let same : m ≡ n = apart m n o out at_ is (eqb-true o.variable.0 out.variable.0 passes) in
      let one : o ≡ out = some_same (sym at_ ∙ (ap (slice_get (body_at p i).outs) same ∙ is)) in
      ap (out_value p c i it) one))

  pub some_set : is_any_wanted (out_writes p c out.variable.0 (i, it)) ≡ true
  some_set = ap is_any_wanted written ∙ some_mapped _ _ n (body_at p i).outs out is (eq-eqb out.variable.0 out.variable.0 refl) left_

-- ---- registers

module _ (p : Plan) (c : Cycle) (y : Contents) (after : IsAfter p c y) where
  pub result_stays : ((j : ℕ) (node : TimedNode) → slice_get p.program.nodes j ≡ Some node → NoneWanted (returned p c j node)) → y.regs Result ≡ c.regs Result
  result_stays none =
      (after.regs Result).else_ (none_of (λ (n : ℕ × TimedNode). returned p c n.0 n.1) 0 p.program.nodes (λ j node e.
      subst (λ (k : ℕ). NoneWanted (returned p c k node)) (zero_more j) (none j node e)))

  module _ (untaken : is_taken c ≡ false) (uninitial : holds c Initial ≡ false) (v : ℕ) where
    no_arguments : NoneWanted (argument_writes p c v)
    no_arguments = none_map _ _ (λ q. untaken)

    no_kept : NoneWanted (kept_writes p c v)
    no_kept = quiet_kept p c v uninitial

    pub variable_stays : ((j : ℕ) (node : TimedNode) → slice_get p.program.nodes j ≡ Some node → NoneWanted (out_writes p c v (j, node))) → y.regs (Variable v) ≡ c.regs (Variable v)
    variable_stays none =
        (after.regs (Variable v)).else_
        (none_both (argument_writes p c v) _ no_arguments (none_both (kept_writes p c v) _ no_kept
        (none_of (out_writes p c v) 0 p.program.nodes (λ j node e. subst (λ (k : ℕ). NoneWanted (out_writes p c v (k, node))) (zero_more j) (none j node e)))))

    -- what one node wants, and no other one is under way
    pub variable_takes : (i : ℕ) (it : TimedNode) (value_ : ℕ) → slice_get p.program.nodes i ≡ Some it → ((j : ℕ) → j ≢ i → c.regs (Active j) ≡ 0)
        → AllWant (out_writes p c v (i, it)) value_ → is_any_wanted (out_writes p c v (i, it)) ≡ true → y.regs (Variable v) ≡ value_
    variable_takes i it value_ at_ others all some =
        let each : (j : ℕ) (node : TimedNode) → slice_get p.program.nodes j ≡ Some node → AllWant (out_writes p c v (j, node)) value_ =
        by_node p i it (λ j node. AllWant (out_writes p c v (j, node)) value_) at_ all (λ j node other. none_want (out_writes p c v (j, node)) value_ (off_outs p c v j node (others j other))) in
        (after.regs (Variable v)).wanted value_
        (some_right (argument_writes p c v) _ (some_right (kept_writes p c v) _
        (some_of (out_writes p c v) 0 i p.program.nodes it at_ (subst (λ (k : ℕ). is_any_wanted (out_writes p c v (k, it)) ≡ true) (zero_more i) some))))
        (all_both (argument_writes p c v) _ value_ (none_want _ value_ no_arguments) (all_both (kept_writes p c v) _ value_ (none_want _ value_ no_kept)
        (all_of (out_writes p c v) 0 p.program.nodes value_ (λ j node e. subst (λ (k : ℕ). AllWant (out_writes p c v (k, node)) value_) (zero_more j) (each j node e)))))
