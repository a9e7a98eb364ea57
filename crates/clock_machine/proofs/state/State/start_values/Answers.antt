use Rattle.std.proofs.Common.{◌≡◌, suc, ◌<◌, ◌≤◌, true, false, inl, inr, length, refl, sym, ap, ◌∙◌, subst, arith}
use Rattle.std.proofs.lemmas.Bool.{cases_lt, cases_eq}
use Rattle.std.proofs.lemmas.Option.{slice_get_within}
use Rattle.flat_programs.specs.Memory.Contents.{dims_in, words_in}
use Rattle.clock_machine.specs.declared.state.State.{State}
use Rattle.clock_machine.specs.Keeping.{GivesAt}
use Rattle.clock_machine.proofs.Staying.{room_same, at_stays}
use Rattle.clock_machine.proofs.Turns.{off, first_on, next_on, at_next}
use Rattle.clock_machine.proofs.state.State.start_values.Goals as goal

-- what is and is not
clash : true ≡ false → ⊥
clash e = cc

pub loop-number-init : goal.loop-number-init
loop-number-init c = record {
  same = refl;
  args = refl;
  fresh = refl;
  given = λ shapes b f at memories.
      let w = c.args.work.now in
      let s = c.args.self.now in
      let next = first_on shapes b w f s at c.first-number.result c.first-number.ensures in
      record {
        at = at_next shapes b w f s at 0 c.first-number.result next;
        given = λ k lt o is on. absurd (clash (sym on ∙ off shapes b w f s at k o is (next.none_before k (omega arith) lt)));
      };
}

pub loop-number-preserved : goal.loop-number-preserved
loop-number-preserved c =
    let w = c.args.work.now in
    let s0 = c.args.self.now in
    let s = c.loop-number.self in
    let s2 = c.start_value.new.self in
    let number = c.loop-number.number in
    let inv = c.loop-number.invariant in
    let e = c.start_value.ensures.same in record {
      same = e ∙ ap (λ (x : State). record x { args = s2.args; fresh = s2.fresh }) inv.same;
      args = c.start_value.ensures.args ∙ inv.args;
      fresh = c.start_value.ensures.fresh ∙ inv.fresh;
      given = λ shapes b f at memories.
          let so_far = inv.given shapes b f at memories in
          let lt : number < length w.actions.items = omega (arith, c.loop-number-test.true, c.len.ensures, w.actions.ok.0) in
          let next = next_on shapes b w f s0 at number c.next-number.result lt (so_far.at lt) c.next-number.ensures.next in
          let room = room_same s0 s (ap (λ (x : State). x.registers) inv.same) inv.args inv.fresh (ap (λ (x : State). dims_in x.memories) inv.same) (ap (λ (x : State). x.first) inv.same) in
          let at2 = at_stays shapes b w f s0 s room (ap (λ (x : State). x.registers) inv.same) (ap (λ (x : State). x.moment.phase) inv.same) (ap (λ (x : State). x.moment.time) inv.same) at in
          let now = c.start_value.ensures.given shapes b f at2 (ap (λ (x : State). words_in x.memories) inv.same ∙ memories) in
          record {
            at = at_next shapes b w f s0 at (suc number) c.next-number.result next;
            given = λ k less o is on. elim (cases_eq k number) [
              | inl same ↦ subst (GivesAt shapes b f s2.fresh.items) (sym same) now o is on
              | inr differ ↦ elim (cases_lt k number) [
                | inl before ↦ c.start_value.ensures.others k differ ∙ so_far.given k before o is on
                | inr behind ↦ absurd (clash (sym on ∙ off shapes b w f s0 at k o is (next.none_before k (let z : suc number ≤ k = omega (arith, behind, differ) in z) less)))
              ]
            ];
          };
    }

pub returns-clause-given : goal.returns-clause-given
returns-clause-given c = λ shapes b f at memories k o is on.
    let w = c.args.work.now in
    let within = slice_get_within b.ops k o is in
    (c.loop-number.invariant.given shapes b f at memories).given k (omega (arith, within, at.body.form.work.count, c.loop-number-test.false, c.len.ensures, w.actions.ok.0)) o is on
