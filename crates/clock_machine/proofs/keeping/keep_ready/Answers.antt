use Rattle.std.proofs.Common.{◌≡◌, ℕ, suc, ◌+◌, ◌<◌, ◌^◌, inl, inr, List, [], ◌∷◌, length, get_or, map, slice_get, Some, refl, sym, ◌∙◌, subst, arith}
use Rattle.std.proofs.lemmas.Bool.{cases_lt}
use Rattle.std.proofs.lemmas.List.{length-map}
use Rattle.std.proofs.lemmas.Nat.{mod_below}
use Rattle.std.proofs.lemmas.Option.{slice_get_within, slice_get-get_or}
use Rattle.clock_ir.specs.Flows.{TimedOp, latency}
use Rattle.clock_machine.specs.declared.lines.program.Action.{Action}
use Rattle.clock_machine.specs.declared.lines.registers.Registers.{Registers}
use Rattle.clock_machine.specs.Lines.Agendas.{phase_at, IsNext}
use Rattle.clock_machine.specs.Lines.Registers.{HasPushed, LineIsWithin, value_in}
use Rattle.clock_machine.specs.Lines.Showing.{HasLines}
use Rattle.clock_machine.proofs.LinesLemmas.Phases.{Walked}
use Rattle.clock_machine.proofs.Made.{DoneAt}
use Rattle.clock_machine.proofs.Ready.{StillAt, ReadyAt, begins, passes, does, waits_within, rooms_behind, made_behind}
use Rattle.clock_machine.proofs.keeping.keep_ready.Goals as goal

pub loop-number-init : goal.loop-number-init
loop-number-init c = record {
  variables = refl;
  sizes = record { variables = refl; words = refl; heads = refl };
  ready = λ shapes b f form moment shows.
      let r = c.args.registers.now in
      let w = c.args.work.now in
      let readies = map (λ (a : Action). a.ready) w.actions.items in
      let small : c.args.phase < b.interval = subst (λ p. p < b.interval) (sym moment.phase_is) (mod_below (suc f.time) b.interval form.positive) in
      let next = subst (IsNext b.interval readies c.args.phase 0) (sym c.first-number.ensures) (form.work.arrivals.first c.args.phase small) in
      record {
        rooms = shows.rooms;
        made = λ k o is. shows.made k o is;
        at = λ lt. next.at (subst (λ n. c.first-number.result < n) (sym (length-map w.actions.items (λ (a : Action). a.ready))) lt);
        walked = begins shapes.widths b w r form shapes f c.args.phase c.args.time moment r c.first-number.result next (λ i o is. shows.chains i (slice_get_within b.ops i o is));
      };
}

pub loop-number-preserved : goal.loop-number-preserved
loop-number-preserved c = record {
  variables = c.ready_one.ensures.variables ∙ c.loop-number.invariant.variables;
  sizes = (let one = c.loop-number.invariant.sizes in let two = c.ready_one.ensures.sizes in record { variables = two.variables ∙ one.variables; words = two.words ∙ one.words; heads = two.heads ∙ one.heads });
  ready = λ shapes b f form moment shows.
      let r0 = c.args.registers.now in
      let r = c.loop-number.registers in
      let r2 = c.ready_one.new.registers in
      let w = c.args.work.now in
      let ls = w.lines.items in
      let p = c.args.phase in
      let t = c.args.time in
      let number = c.loop-number.number in
      let readies = map (λ (a : Action). a.ready) w.actions.items in
      let inv = c.loop-number.invariant.ready shapes b f form moment shows in
      let lt : number < length w.actions.items = omega (arith, c.loop-number-test.true, c.len.ensures, w.actions.ok.0) in
      let lt2 : number < length readies = subst (λ n. number < n) (sym (length-map w.actions.items (λ (a : Action). a.ready))) lt in
      let within : number < length b.ops = omega (arith, lt, form.work.count) in
      let same = inv.at lt in
      let next0 = form.work.arrivals.next number lt2 in
      let k_is = c.next-number.ensures.next (let z : number < get_or w.arrivals.next.items number 0 = next0.behind in z) in
      let next = subst (λ q. IsNext b.interval readies q (suc number) c.next-number.result) same (subst (IsNext b.interval readies (phase_at b.interval readies number) (suc number)) (sym k_is) next0) in
      let a = get_or w.actions.items number (action_in w.actions.items number lt) in
      let at = slice_get-get_or w.actions.items number (action_in w.actions.items number lt) lt in
      let few : length r.words.items < 2 ^ 63 = subst (λ n. n < 2 ^ 63) (sym c.loop-number.invariant.sizes.words) form.few in
      let ready_is : (o : TimedOp) → slice_get b.ops number ≡ Some o → a.ready ≡ o.start + latency o = λ o is. (form.work.actions number o a is at).ready in
      let o0 = get_or b.ops number (op_in b.ops number within) in
      let o0_is = slice_get-get_or b.ops number (op_in b.ops number within) within in
      let following : c.next-number.result < length w.actions.items → phase_at b.interval readies c.next-number.result ≡ p =
      λ less. next.at (subst (λ n. c.next-number.result < n) (sym (length-map w.actions.items (λ (x : Action). x.ready))) less) in
      elim (cases_lt t a.ready) [
        | inl late ↦
            let stays = c.ready_one.ensures.rests a at late in
            record {
              rooms = subst (λ (x : Registers). HasLines x ls) (sym stays) inv.rooms;
              made = λ k. subst (λ (x : Registers). DoneAt shapes b ls x f k) (sym stays) (inv.made k);
              at = following;
              walked = subst (λ (x : Registers). Walked (ReadyAt shapes b ls x f) (StillAt b ls x f) c.next-number.result) (sym stays)
                  (passes shapes.widths b w r0 form shapes f p t moment r number c.next-number.result next (λ o is. (subst (λ s. t < s) (ready_is o is) late, form.soon number o is)) inv.walked);
            }
        | inr come ↦
            let n = length b.ops + number in
            let inside = waits_within shapes.widths b w r0 form shapes f p t moment r number few inv.rooms within o0 o0_is a at in
            let Pushes : ℕ → Type 0 = λ m. LineIsWithin r (slice_get ls (m + number)) (m + number) a.wait → HasPushed r r2 ls number (value_in r (slice_get ls (m + number)) (m + number) a.wait) in
            let pushed = subst Pushes form.work.count (c.ready_one.ensures.pushes a at come) inside in
            let word = value_in r (slice_get ls n) n a.wait in
            record {
              rooms = rooms_behind shapes.widths b w r0 form shapes f p t moment r number few inv.rooms within o0 o0_is r2 word pushed;
              made = λ k. made_behind shapes.widths b w r0 form shapes f p t moment r number few inv.rooms within o0 o0_is r2 word pushed inv.made k;
              at = following;
              walked = does shapes.widths b w r0 form shapes f p t moment r number few inv.rooms within o0 o0_is r2 word pushed a c.next-number.result at refl same come (inv.made number) next inv.walked;
            }
      ];
}
  where
    action_in : (xs : List Action) (k : ℕ) → k < length xs → Action
    action_in [] k lt = absurd (omega (arith, lt))
    action_in (x ∷ xs) k lt = x

    op_in : (xs : List TimedOp) (k : ℕ) → k < length xs → TimedOp
    op_in [] k lt = absurd (omega (arith, lt))
    op_in (x ∷ xs) k lt = x

pub returns-clause-ready : goal.returns-clause-ready
returns-clause-ready c = λ shapes b f form moment shows.
    let inv = c.loop-number.invariant.ready shapes b f form moment shows in
    let w = c.args.work.now in record {
      rooms = inv.rooms;
      chains = λ k o is. (let less = slice_get_within b.ops k o is in (inv.walked k).0 (omega (arith, less, form.work.count, c.loop-number-test.false, c.len.ensures, w.actions.ok.0)) o is);
      made = λ k o is. inv.made k o is;
    }
