use Rattle.std.proofs.Common.{◌≡◌, ℕ, true, false, Option, Some, None, refl, sym, ap, ◌∙◌, subst, arith, length, ◌<◌}
use Rattle.std.specs.Prelude.{◌&&◌, ◌||◌, ◌-◌, MatchOption}
use Rattle.std.proofs.Math.Bool.{or-false}
use Rattle.hls_base.specs.declared.number.NodeId.{NodeId}
use Rattle.rtl_logic.specs.Making.{circuit}
use Rattle.datapath.specs.Plans.{body_at}
use Rattle.datapath.specs.Cycles.{Cycle}
use Rattle.datapath.specs.Reading.{at}
use Rattle.datapath.specs.Control.{is_loop}
use Rattle.circuit_control.proofs.Wanted.{made_as, last_made}
use Rattle.circuit_control.proofs.loops.add_end.Goals as goal

at_none : (o : Option ℕ) (P : Type 0) (Q : ℕ → Type 0) → MatchOption o P Q → ((k : ℕ) → o ≡ Some k → ⊥) → P
at_none None P Q h never = h
at_none (Some k) P Q h never = absurd (never k refl)

pub returns-in_default : goal.returns-in_default
returns-in_default c = λ p names d n before context stands h.
    let i = c.args.number in
    let found = c.interval_at.ensures p names n context stands in
    let is = at_none c.interval_at.result (is_loop (Some n) ≡ false) (λ (k : ℕ). (is_loop (Some n) ≡ true) × (k ≡ (body_at p i).interval)) found c.in_default.not-Some in
    made_as p names d (circuit c.args.logic.now) c.args.all.now.items before _
    (λ (x : Cycle). sym (ap (λ b. before x || (b && at p x i ((body_at p i).interval - 1))) is ∙ or-false (before x))) h

pub returns : goal.returns
returns c = λ p names d n before context stands h.
    let i = c.args.number in
    let e = circuit c.args.logic.now in
    let f = circuit c.at.new.logic in
    let time = c.saturating_sub-time.result in
    let found = subst (λ o. MatchOption o (is_loop (Some n) ≡ false) (λ (k : ℕ). (is_loop (Some n) ≡ true) × (k ≡ (body_at p i).interval))) c.in-Some.is (c.interval_at.ensures p names n context stands) in
    let when_ : time ≡ (body_at p i).interval - 1 = omega (arith, c.saturating_sub-time.ensures, found.1) in
    let made = c.in_ok-end.ensures p names context h.begun in
    made_as p names d f c.push.new.self.items (λ (x : Cycle). before x || at p x c.node_with_number-node.result.0 time) _
    (λ (x : Cycle). ap (λ (m : NodeId). before x || at p x m.0 time) c.node_with_number-node.ensures ∙ (ap (λ k. before x || at p x i k) when_ ∙ ap (λ b. before x || (b && at p x i ((body_at p i).interval - 1))) (sym found.0)))
    (last_made p names d e f c.args.all.now.items c.push.new.self.items c.in_ok-end.end before (λ (x : Cycle). at p x c.node_with_number-node.result.0 time) h made c.in_ok-push.ensures.items)

pub node_with_number-node-requires : goal.node_with_number-node-requires
node_with_number-node-requires c = omega (arith, c.requires, c.args.of.now.few.nodes)

pub at-requires : goal.at-requires
at-requires c = subst (λ (m : NodeId). m.0 < length c.args.of.now.cfg.now.nodes.items) (sym c.node_with_number-node.ensures) c.requires
