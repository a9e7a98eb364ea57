use Rattle.std.proofs.Common.{◌≡◌, ◌++◌, ◌+◌, ◌-◌, ◌%◌, suc, length, get_or, set, take, drop, sym, ap, ◌∙◌, subst, arith}
use Rattle.std.proofs.Math.ListN.{length-set}
use Rattle.std.proofs.lemmas.Nat.{mod_below}
use Rattle.clock_machine.specs.Lines.Agendas.{phase_at}
use Rattle.clock_machine.proofs.LinesLemmas.Rings.{written_back}
use Rattle.clock_machine.proofs.LinesLemmas.Agendas.{IsFrom, one_before}
use Rattle.clock_machine.proofs.lines.agenda.Agenda.new.Goals as goal

pub loop-done-preserved : goal.loop-done-preserved
loop-done-preserved c =
    let w = c.args.interval in
    let times = c.args.times.now in
    let n = length times - 1 - c.loop-done.done in
    let heads = c.loop-done.first.items in
    let links = c.loop-done.next.items in
    let p = c.phase_of-phase.result in
    let inv = c.loop-done.invariant in
    let heads_count : length c.put.new.first ≡ c.loop-done.first.len = omega (arith, c.put.auto.first, ap length c.deref_mut.ensures.value, c.loop-done.first.ok.0) in
    let links_count : length c.put.new.next ≡ c.loop-done.next.len = omega (arith, c.put.auto.next, ap length c.deref_mut-in-loop-done.ensures.value, c.loop-done.next.ok.0) in
    let heads2 = take c.loop-done.first.len (c.put.new.first ++ drop (length c.put.new.first) heads) in
    let links2 = take c.loop-done.next.len (c.put.new.next ++ drop (length c.put.new.next) links) in
    let heads_are : heads2 ≡ set heads p n =
    written_back c.loop-done.first.len c.put.new.first heads heads_count ∙ c.put.ensures.first ∙ ap (λ xs. set xs p n) c.deref_mut.ensures.value in
    let links_are : links2 ≡ set links n (get_or heads p 0) =
    written_back c.loop-done.next.len c.put.new.next links links_count ∙ c.put.ensures.next
    ∙ ap (λ xs. set xs n (get_or c.deref_mut.result.now p 0)) c.deref_mut-in-loop-done.ensures.value ∙ ap (λ xs. set links n (get_or xs p 0)) c.deref_mut.ensures.value in (
      ap length heads_are ∙ length-set heads p n ∙ inv.0,
      ap length links_are ∙ length-set links n (get_or heads p 0) ∙ inv.1,
      λ some.
          let phase : p ≡ phase_at w times n = c.phase_of-phase.ensures some ∙ ap (λ x. x % w) c.word_at.ensures in
          let q = phase_at w times n in
          let so_far = subst (IsFrom w times heads links) (let z : length times - c.loop-done.done ≡ suc n = omega (arith, c.loop-done-test.true) in z) (inv.2 some) in
          let made = one_before w times heads links n (mod_below (get_or times n 0) w some) (omega (arith, c.loop-done-test.true)) so_far in
          let both = subst (λ l. IsFrom w times (set heads p n) l n) (sym links_are)
          (subst (λ x. IsFrom w times (set heads x n) (set links n (get_or heads x 0)) n) (sym phase) made) in
          subst (IsFrom w times heads2 links2) (let z : n ≡ length times - (c.loop-done.done + 1) = omega arith in z) (subst (λ h. IsFrom w times h links2 n) (sym heads_are) both),
    )

pub returns : goal.returns
returns c = λ some.
    let times = c.args.times.now in
    let h = subst (IsFrom c.args.interval times c.loop-done.first.items c.loop-done.next.items) (let z : length times - c.loop-done.done ≡ 0 = omega (arith, c.loop-done-test.false) in z) (c.loop-done.invariant.2 some) in
    record { first = h.first; next = λ k lt. h.next k (omega arith) lt }
