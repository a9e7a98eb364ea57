use Rattle.std.proofs.Common.{◌≡◌, ℕ, suc, ◌+◌, ◌<◌, ◌≤◌, ◌^◌, inl, inr, List, [], ◌∷◌, length, get_or, map, slice_get, Some, refl, sym, ◌∙◌, subst, arith}
use Rattle.std.proofs.lemmas.Bool.{cases_lt}
use Rattle.std.proofs.lemmas.List.{length-map}
use Rattle.std.proofs.lemmas.Nat.{mod_below}
use Rattle.std.proofs.lemmas.Option.{slice_get_within, slice_get-get_or}
use Rattle.clock_ir.specs.Flows.{TimedOp}
use Rattle.clock_machine.specs.declared.lines.program.Action.{Action}
use Rattle.clock_machine.specs.declared.lines.registers.Registers.{Registers}
use Rattle.clock_machine.specs.Lines.Agendas.{phase_at, IsNext}
use Rattle.clock_machine.specs.Lines.Registers.{HasPushed}
use Rattle.clock_machine.specs.Lines.Showing.{HasLines, ShowsChain}
use Rattle.clock_machine.proofs.LinesLemmas.Phases.{Walked}
use Rattle.clock_machine.proofs.Made.{OpenAt, DoneAt, begins, passes, does, rooms_behind, chains_behind}
use Rattle.clock_machine.proofs.keeping.keep_made.Goals as goal

pub loop-number-init : goal.loop-number-init
loop-number-init c = record {
  variables = refl;
  sizes = record { variables = refl; words = refl; heads = refl };
  kept = λ shapes b f form moment has shows.
      let r = c.args.registers.now in
      let w = c.args.work.now in
      let starts = map (λ (a : Action). a.start) w.actions.items in
      let small : c.args.phase < b.interval = subst (λ p. p < b.interval) (sym moment.phase_is) (mod_below f.time b.interval form.positive) in
      let next = subst (IsNext b.interval starts c.args.phase 0) (sym c.first-number.ensures) (form.work.starts.first c.args.phase small) in
      record {
        rooms = shows.rooms;
        chains = shows.chains;
        at = λ lt. next.at (subst (λ n. c.first-number.result < n) (sym (length-map w.actions.items (λ (a : Action). a.start))) lt);
        walked = begins shapes.widths b w r form shapes f c.args.phase c.args.time moment r c.first-number.result next (λ i o is. shows.made i o is);
      };
}

pub loop-number-preserved : goal.loop-number-preserved
loop-number-preserved c = record {
  variables = c.keep_one.ensures.variables ∙ c.loop-number.invariant.variables;
  sizes = (let one = c.loop-number.invariant.sizes in let two = c.keep_one.ensures.sizes in record { variables = two.variables ∙ one.variables; words = two.words ∙ one.words; heads = two.heads ∙ one.heads });
  kept = λ shapes b f form moment has shows.
      let r0 = c.args.registers.now in
      let r = c.loop-number.registers in
      let r2 = c.keep_one.new.registers in
      let w = c.args.work.now in
      let ls = w.lines.items in
      let p = c.args.phase in
      let t = c.args.time in
      let number = c.loop-number.number in
      let starts = map (λ (a : Action). a.start) w.actions.items in
      let inv = c.loop-number.invariant.kept shapes b f form moment has shows in
      let lt : number < length w.actions.items = omega (arith, c.loop-number-test.true, c.len.ensures, w.actions.ok.0) in
      let lt2 : number < length starts = subst (λ n. number < n) (sym (length-map w.actions.items (λ (a : Action). a.start))) lt in
      let within : number < length b.ops = omega (arith, lt, form.work.count) in
      let same = inv.at lt in
      let next0 = form.work.starts.next number lt2 in
      let k_is = c.next-number.ensures.next (let z : number < get_or w.starts.next.items number 0 = next0.behind in z) in
      let next = subst (λ q. IsNext b.interval starts q (suc number) c.next-number.result) same (subst (IsNext b.interval starts (phase_at b.interval starts number) (suc number)) (sym k_is) next0) in
      let a = get_or w.actions.items number (action_in w.actions.items number lt) in
      let at = slice_get-get_or w.actions.items number (action_in w.actions.items number lt) lt in
      let few : length r.words.items < 2 ^ 63 = subst (λ n. n < 2 ^ 63) (sym c.loop-number.invariant.sizes.words) form.few in
      let start_is : (o : TimedOp) → slice_get b.ops number ≡ Some o → a.start ≡ o.start = λ o is. (form.work.actions number o a is at).start in
      let following : c.next-number.result < length w.actions.items → phase_at b.interval starts c.next-number.result ≡ p =
      λ less. next.at (subst (λ n. c.next-number.result < n) (sym (length-map w.actions.items (λ (x : Action). x.start))) less) in
      elim (cases_lt t a.start) [
        | inl late ↦
            let stays = c.keep_one.ensures.rests a at late in
            record {
              rooms = subst (λ (x : Registers). HasLines x ls) (sym stays) inv.rooms;
              chains = λ k less. subst (λ (x : Registers). ShowsChain x ls k (f.chain k)) (sym stays) (inv.chains k less);
              at = following;
              walked = subst (λ (x : Registers). Walked (DoneAt shapes b ls x f) (OpenAt b ls x f) c.next-number.result) (sym stays)
                  (passes shapes.widths b w r0 form shapes f p t moment r number c.next-number.result next (λ o is. subst (λ s. t < s) (start_is o is) late) inv.walked);
            }
        | inr come ↦
            let pushed = subst (λ n. HasPushed r r2 ls (n + number) (get_or c.args.fresh.now number 0)) form.work.count (c.keep_one.ensures.pushes a at come) in
            record {
              rooms = rooms_behind shapes.widths b w r0 form shapes f p t moment r r2 number (get_or c.args.fresh.now number 0) few inv.rooms pushed within;
              chains = λ k less. chains_behind shapes.widths b w r0 form shapes f p t moment r r2 number (get_or c.args.fresh.now number 0) few inv.rooms pushed within k less (f.chain k) (inv.chains k less);
              at = following;
              walked = does shapes.widths b w r0 form shapes f p t moment r r2 number (get_or c.args.fresh.now number 0) few inv.rooms pushed within c.args.fresh.now c.next-number.result has refl same
                  (λ o is. subst (λ s. s ≤ t) (start_is o is) come) next inv.walked;
            }
      ];
}
  where
    action_in : (xs : List Action) (k : ℕ) → k < length xs → Action
    action_in [] k lt = absurd (omega (arith, lt))
    action_in (x ∷ xs) k lt = x

pub returns-clause-kept : goal.returns-clause-kept
returns-clause-kept c = λ shapes b f form moment has shows.
    let inv = c.loop-number.invariant.kept shapes b f form moment has shows in
    let w = c.args.work.now in record {
      rooms = inv.rooms;
      chains = inv.chains;
      made = λ k o is. (let less = slice_get_within b.ops k o is in (inv.walked k).0 (omega (arith, less, form.work.count, c.loop-number-test.false, c.len.ensures, w.actions.ok.0)) o is);
    }
