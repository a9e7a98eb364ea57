use Rattle.std.proofs.Common.{refl, sym, ap}
use Rattle.std.proofs.lemmas.Result.{on_ok_weaker}
use Rattle.rtl_logic.specs.Making.{circuit}
use Rattle.datapath.specs.Cycles.{Cycle}
use Rattle.datapath.specs.Control.{leaves_as}
use Rattle.circuit_context.specs.Wanted.Entries.{last_operand, result_entries}
use Rattle.fsm_datapath.proofs.Listing.{logs_as}
use Rattle.fsm_datapath.proofs.Standing.{read_at}
use Rattle.std.proofs.Common.{◌≡◌, subst}
use Rattle.std.specs.Prelude.{Option, Some, None}
use Rattle.ir_core.specs.declared.body.Operand.{Operand}
use Rattle.circuit_context.specs.Wanted.Logs.{Logs}
use Rattle.circuit_context.proofs.WantedLemmas.Joining.{logs_none}
use Rattle.fsm_datapath.proofs.ways.write_result.Goals as goal

pub returns : goal.returns
returns c = λ p names n h begun leaving.
    let i = c.args.leaving.node.0 in
    let d = circuit c.args.logic.now in
    let bits = c.args.of.now.cfg.now.frame.ret in
    let v = c.in-Some.value in
    let carries = read_at p names d bits c.in_ok-value.value c.last_cycle-at.result c.args.leaving.node v (λ (x : Cycle). last_operand p i x v) c.last_cycle-at.ensures.node (c.last_cycle-at.ensures.time p names h) (λ x. refl)
    (c.in_ok-value.ensures p names h begun) in
    on_ok_weaker c.take.result (logs_as p names d d _ _ _ _ (ap (result_entries p (i, n)) (sym c.in-Some.is)))
    (c.take.ensures p names (λ (x : Cycle). leaves_as p x i n) (λ (x : Cycle). last_operand p i x v) h begun leaving (record { bits = bits; carries = carries }))

not_some : {A : Type 0} (x : Option A) → ((a : A) → x ≡ Some a → ⊥) → x ≡ None
not_some None h = refl
not_some (Some a) h = absurd (h a refl)

pub returns-in_default : goal.returns-in_default
returns-in_default c = λ p names n h begun leaving.
    let d = circuit c.args.logic.now in
    let l = c.args.log.now.pushes.items in
    let none = not_some c.args.value c.in_default.not-Some in
    subst (λ (o : Option Operand). Logs p names d d l l (result_entries p (c.args.leaving.node.0, n) o)) (sym none) (logs_none p names d l begun)
