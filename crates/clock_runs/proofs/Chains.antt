-- What the chains hold, cycle by cycle.
use Rattle.std.proofs.Common.{◌≡◌, ℕ, zero, suc, ◌+◌, ◌-◌, ◌*◌, ◌<◌, true, false, cond, Some, inl, inr, refl, sym, ap, ◌∙◌, arith}
use Rattle.std.proofs.lemmas.Bool.{cases_Bool, cond-true, cond-false}
use Rattle.std.proofs.lemmas.Option.{slice_get-get_or}
use Rattle.std.specs.Prelude.{slice_get}
use Rattle.ir_core.specs.declared.body.OpKind.{OpKind}
use Rattle.ir_core.specs.declared.body.OpKind.TheVariants as o
use Rattle.ir_core.specs.Timing as timing
use Rattle.clock_ir.specs.Flows.{TimedOp, latency, is_at, pushed, chain_behind, under_way_behind, gates_now, behind_stores, entered, first_flow, tick}
use Rattle.clock_runs.proofs.Numbers.{quotient, count, turn, is_at_sure, is_at_true, count_more, count_same}
use Rattle.clock_runs.proofs.Settings.{Setting, nothing, op_at, count_of, flow, available, time_of, computed, val}

-- each operation takes a cycle or more
pub takes_kind : (kind : OpKind) (bits : ℕ) → 0 < timing.latency kind bits
takes_kind o.Add bits = omega arith
takes_kind o.Sub bits = omega arith
takes_kind o.Mul bits = omega arith
takes_kind o.Div bits = omega arith
takes_kind o.Rem bits = omega arith
takes_kind o.And bits = omega arith
takes_kind o.Or bits = omega arith
takes_kind o.Xor bits = omega arith
takes_kind o.Shl bits = omega arith
takes_kind o.Shr bits = omega arith
takes_kind o.Eq bits = omega arith
takes_kind o.Ne bits = omega arith
takes_kind o.Lt bits = omega arith
takes_kind o.Le bits = omega arith
takes_kind o.Not bits = omega arith
takes_kind o.Neg bits = omega arith
takes_kind o.Select bits = omega arith
takes_kind o.Widen bits = omega arith
takes_kind o.Narrow bits = omega arith
takes_kind o.Truth bits = omega arith
takes_kind o.Copy bits = omega arith
takes_kind o.Load bits = omega arith
takes_kind o.Store bits = omega arith
takes_kind (o.Fused p) bits = omega arith

pub takes : (op : TimedOp) → 0 < latency op
takes op = takes_kind op.op.kind op.op.bits

pub there : (s : Setting) (k : ℕ) → k < count_of s → slice_get s.body.ops k ≡ Some (op_at s k)
there s k lt = slice_get-get_or s.body.ops k nothing lt

-- ---- the parts of a flow

pub flow-time : (s : Setting) (time : ℕ) → (flow s time).time ≡ time
unfolding flow tick first_flow
flow-time s zero = refl
flow-time s (suc time) = ap suc (flow-time s time)

pub flow-entry : (s : Setting) (time : ℕ) → (flow s time).entry ≡ s.start.variables
unfolding flow tick first_flow
flow-entry s zero = refl
flow-entry s (suc time) = flow-entry s time

pub flow-gates : (s : Setting) (time : ℕ) → (flow s (suc time)).gates ≡ gates_now s.body (flow s time)
unfolding flow tick
flow-gates s time = refl

pub flow-memories : (s : Setting) (time : ℕ) → (flow s (suc time)).memories ≡ behind_stores s.shapes s.body (flow s time) s.body.ops (flow s time).memories
unfolding flow tick
flow-memories s time = refl

pub flow-start : (s : Setting) → ((flow s 0).memories ≡ s.start.memories) × ((j : ℕ) → (flow s 0).gates j ≡ true)
unfolding flow first_flow
flow-start s = (refl, λ j. refl)

first_chain : (s : Setting) (k : ℕ) → (flow s 0).chain k 0 ≡ entered s.body.outs s.start.variables k
unfolding flow first_flow
first_chain s k = refl

chain_tick : (s : Setting) (k time : ℕ) → (flow s (suc time)).chain k ≡ chain_behind s.shapes s.body (flow s time) k (slice_get s.body.ops k)
unfolding flow tick
chain_tick s k time = refl

under_tick : (s : Setting) (k time : ℕ) → (flow s (suc time)).under_way k ≡ under_way_behind s.shapes s.body (flow s time) k (slice_get s.body.ops k)
unfolding flow tick
under_tick s k time = refl

module _ (s : Setting) (k : ℕ) (lt : k < count_of s) where
  -- the chain with what comes in the next cycle, if something does
  abbrev next_line : ℕ → ℕ → ℕ
  next_line time =
      cond (is_at s.body.interval (available s k) (suc (flow s time).time))
      (pushed (pushed (computed s k time) ((flow s time).under_way k) (latency (op_at s k) - 1)) ((flow s time).chain k))
      ((flow s time).chain k)

  next_chain : (time : ℕ) → (flow s (suc time)).chain k ≡ next_line time
  next_chain time = chain_tick s k time ∙ ap (chain_behind s.shapes s.body (flow s time) k) (there s k lt)

  next_under : (time : ℕ) → (flow s (suc time)).under_way k ≡ pushed (computed s k time) ((flow s time).under_way k)
  next_under time = under_tick s k time ∙ ap (under_way_behind s.shapes s.body (flow s time) k) (there s k lt)

  -- what is under way was computed so many cycles ago
  under : (time c t : ℕ) → time ≡ t + suc c → (flow s time).under_way k c ≡ computed s k t
  under zero c t e = absurd (omega arith)
  under (suc time) zero t e = ap (λ (f : ℕ → ℕ). f 0) (next_under time) ∙ ap (computed s k) (let e' : time ≡ t = omega arith in e')
  under (suc time) (suc c) t e = ap (λ (f : ℕ → ℕ). f (suc c)) (next_under time) ∙ under time c t (omega arith)

  module _ (some : 0 < s.body.interval) where
    chain_moves : (time q j : ℕ) → suc time ≡ q * s.body.interval + available s k →
        ((flow s (suc time)).chain k 0 ≡ val s q k) × ((flow s (suc time)).chain k (suc j) ≡ (flow s time).chain k j)
    chain_moves time q j e =
        let on : is_at s.body.interval (available s k) (suc (flow s time).time) ≡ true = is_at_sure s.body.interval some q (available s k) (suc (flow s time).time) (ap suc (flow-time s time) ∙ e) in
        let more = takes (op_at s k) in
        let pushes = next_chain time ∙ cond-true _ _ _ on in (
          ap (λ (f : ℕ → ℕ). f 0) pushes
              ∙ sym (ap (λ (f : ℕ → ℕ). f (latency (op_at s k) - 1)) (next_under time))
              ∙ under (suc time) (latency (op_at s k) - 1) (time_of s q k) (omega arith),
          ap (λ (f : ℕ → ℕ). f (suc j)) pushes,
        )

    chain_stays : (time j : ℕ) → is_at s.body.interval (available s k) (suc time) ≡ false → (flow s (suc time)).chain k j ≡ (flow s time).chain k j
    chain_stays time j off =
        let off' : is_at s.body.interval (available s k) (suc (flow s time).time) ≡ false = ap (λ x. is_at s.body.interval (available s k) (suc x)) (flow-time s time) ∙ off in
        ap (λ (f : ℕ → ℕ). f j) (next_chain time ∙ cond-false _ _ _ off')

    none_yet : count s.body.interval (available s k) 0 ≡ 0
    none_yet =
        let more = takes (op_at s k) in
        quotient (0 + s.body.interval - available s k) 0 s.body.interval (0 + s.body.interval - available s k) (omega arith) (omega arith)

    -- the place j holds the value of the iteration that came j values before the last
    pub chain_holds : (time j i : ℕ) → count s.body.interval (available s k) time ≡ i + suc j → (flow s time).chain k j ≡ val s i k
    chain_holds zero j i e = absurd (let z = none_yet in omega arith)
    chain_holds (suc time) zero i e =
        elim (cases_Bool (is_at s.body.interval (available s k) (suc time))) [
          | inl on ↦
              let q = turn s.body.interval (available s k) (suc time) in
              let at = is_at_true s.body.interval (available s k) (suc time) on in
              let more = count_more s.body.interval (available s k) q time some at in
              (chain_moves time q 0 at).0 ∙ ap (λ x. val s x k) (let e' : q ≡ i = omega arith in e')
          | inr off ↦ chain_stays time zero off ∙ chain_holds time zero i (sym (count_same s.body.interval (available s k) time some off) ∙ e)
        ]
    chain_holds (suc time) (suc j) i e =
        elim (cases_Bool (is_at s.body.interval (available s k) (suc time))) [
          | inl on ↦
              let q = turn s.body.interval (available s k) (suc time) in
              let at = is_at_true s.body.interval (available s k) (suc time) on in
              let more = count_more s.body.interval (available s k) q time some at in
              (chain_moves time q j at).1 ∙ chain_holds time j i (omega arith)
          | inr off ↦ chain_stays time (suc j) off ∙ chain_holds time (suc j) i (sym (count_same s.body.interval (available s k) time some off) ∙ e)
        ]

    -- behind all that came stands the value at entry
    pub chain_entry : (time j : ℕ) → count s.body.interval (available s k) time ≡ j → (flow s time).chain k j ≡ entered s.body.outs s.start.variables k
    chain_entry zero j e =
        let e' : j ≡ 0 = sym e ∙ none_yet in
        ap ((flow s 0).chain k) e' ∙ first_chain s k
    chain_entry (suc time) zero e =
        elim (cases_Bool (is_at s.body.interval (available s k) (suc time))) [
          | inl on ↦
              let at = is_at_true s.body.interval (available s k) (suc time) on in
              let more = count_more s.body.interval (available s k) (turn s.body.interval (available s k) (suc time)) time some at in
              absurd (omega arith)
          | inr off ↦ chain_stays time zero off ∙ chain_entry time zero (sym (count_same s.body.interval (available s k) time some off) ∙ e)
        ]
    chain_entry (suc time) (suc j) e =
        elim (cases_Bool (is_at s.body.interval (available s k) (suc time))) [
          | inl on ↦
              let q = turn s.body.interval (available s k) (suc time) in
              let at = is_at_true s.body.interval (available s k) (suc time) on in
              let more = count_more s.body.interval (available s k) q time some at in
              (chain_moves time q j at).1 ∙ chain_entry time j (omega arith)
          | inr off ↦ chain_stays time (suc j) off ∙ chain_entry time (suc j) (sym (count_same s.body.interval (available s k) time some off) ∙ e)
        ]
