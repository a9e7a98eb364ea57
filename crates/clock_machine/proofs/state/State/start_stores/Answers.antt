use Rattle.std.proofs.Common.{◌≡◌, suc, ◌+◌, ◌-◌, ◌<◌, ◌≤◌, length, refl, sym, ap, ◌∙◌, subst, arith}
use Rattle.flat_programs.specs.Memory.Contents.{words_in}
use Rattle.clock_ir.specs.Flows.{gates_now, behind_stores}
use Rattle.clock_machine.specs.Lines.Showing.{ShowsGates}
use Rattle.clock_machine.specs.declared.state.State.{State}
use Rattle.clock_machine.proofs.Doing.{rests}
use Rattle.clock_machine.proofs.Staying.{room_same, at_stays}
use Rattle.clock_machine.proofs.Storing.{from, one_on, rests_on, none_left}
use Rattle.clock_machine.proofs.Turns.{off, turn, first_on, next_on, at_next}
use Rattle.clock_machine.proofs.state.State.start_stores.Goals as goal

pub loop-number-init : goal.loop-number-init
loop-number-init c = record {
  same = refl;
  dims = refl;
  args = refl;
  stores = λ shapes b f at gates memories.
      let w = c.args.work.now in
      let s = c.args.self.now in
      let k = c.first-number.result in
      let next = first_on shapes b w f s at k c.first-number.ensures in
      record {
        at = at_next shapes b w f s at 0 k next;
        rest = ap (λ i. from shapes b f i (words_in s.memories)) (let z : k ≡ 0 + k = omega arith in z)
            ∙ sym (rests_on shapes b f 0 k (words_in s.memories) (λ i op low high is. rests shapes b f op (words_in s.memories) (off shapes b w f s at i op is (next.none_before i (omega arith) (omega (arith, high))))))
            ∙ ap (behind_stores shapes b f b.ops) memories;
      };
}

pub loop-number-preserved : goal.loop-number-preserved
loop-number-preserved c =
    let w = c.args.work.now in
    let s0 = c.args.self.now in
    let s = c.loop-number.self in
    let s2 = c.start_store.new.self in
    let number = c.loop-number.number in
    let n = c.next-number.result in
    let inv = c.loop-number.invariant in
    let e = c.start_store.ensures.same in record {
      same = e ∙ ap (λ (x : State). record x { args = s2.args; memories = s2.memories }) inv.same;
      dims = c.start_store.ensures.dims ∙ inv.dims;
      args = c.start_store.ensures.args ∙ inv.args;
      stores = λ shapes b f at gates memories.
          let so_far = inv.stores shapes b f at gates memories in
          let lt : number < length w.actions.items = omega (arith, c.loop-number-test.true, c.len.ensures, w.actions.ok.0) in
          let within : number < length b.ops = omega (arith, lt, at.body.form.work.count) in
          let same = so_far.at lt in
          let next = next_on shapes b w f s0 at number n lt same c.next-number.ensures.next in
          let room = room_same s0 s (ap (λ (x : State). x.registers) inv.same) inv.args (ap (λ (x : State). length x.fresh.items) inv.same) inv.dims (ap (λ (x : State). x.first) inv.same) in
          let at2 = at_stays shapes b w f s0 s room (ap (λ (x : State). x.registers) inv.same) (ap (λ (x : State). x.moment.phase) inv.same) (ap (λ (x : State). x.moment.time) inv.same) at in
          let gates2 = subst (λ m. ShowsGates (gates_now b f) m) (sym (ap (λ (x : State). x.moment.failed) inv.same)) gates in
          let one = one_on shapes b f number (words_in s.memories) within in
          let op = one.0 in
          let turns = turn shapes b w f s0 at number op one.1.0 same ∙ sym (ap (λ (x : State). x.moment.phase) inv.same) in
          let stores = c.start_store.ensures.stores shapes b f op at2 gates2 one.1.0 turns in
          let skips = rests_on shapes b f (number + 1) (n - (number + 1)) (words_in s2.memories)
          (λ i op2 low high is. rests shapes b f op2 (words_in s2.memories) (off shapes b w f s0 at i op2 is (next.none_before i (omega (arith, low)) (omega (arith, high, next.behind))))) in
          record {
            at = at_next shapes b w f s0 at (suc number) n next;
            rest = ap (λ i. from shapes b f i (words_in s2.memories)) (let z : n ≡ number + 1 + (n - (number + 1)) = omega (arith, next.behind) in z) ∙ sym skips ∙ ap (from shapes b f (number + 1)) stores ∙ sym one.1.1 ∙ so_far.rest;
          };
    }

pub returns-clause-stores : goal.returns-clause-stores
returns-clause-stores c = λ shapes b f at gates memories.
    let w = c.args.work.now in
    let past : length b.ops ≤ c.loop-number.number = omega (arith, at.body.form.work.count, c.loop-number-test.false, c.len.ensures, w.actions.ok.0) in
    sym (none_left shapes b f c.loop-number.number (words_in c.loop-number.self.memories) past) ∙ (c.loop-number.invariant.stores shapes b f at gates memories).rest
