-- Behind a cycle lines show the next one.
use Rattle.std.proofs.Common.{◌≡◌, ℕ, suc, ◌+◌, ◌*◌, ◌/◌, ◌%◌, ◌<◌, ◌≤◌, ◌^◌, List, [], ◌∷◌, length, get_or, refl, sym, ap, ◌∙◌, subst, arith, div-add-mod', suc-mul}
use Rattle.std.proofs.lemmas.Nat.{mod-mul-add, mod_below}
use Rattle.std.proofs.lemmas.Option.{slice_get-get_or, slice_get_past}
use Rattle.ir_core.specs.Bodies.{Shapes}
use Rattle.clock_ir.specs.Flows.{TimedOp, TimedBody, Flow, behind_stores, chain_behind, gates_now, under_way_behind, tick}
use Rattle.clock_machine.specs.declared.lines.program.Line.{Line}
use Rattle.clock_machine.specs.declared.lines.program.Work.{Work}
use Rattle.clock_machine.specs.declared.lines.registers.Registers.{Registers}
use Rattle.clock_machine.specs.Lines.Registers.{held}
use Rattle.clock_machine.specs.Lines.Showing.{Shows, ShowsChain, ShowsGates, ShowsMade}
use Rattle.clock_machine.specs.Keeping.{IsForm, IsMoment, IsNextMoment, ShowsReady}

op_in : (xs : List TimedOp) (k : ℕ) → k < length xs → TimedOp
op_in [] k lt = absurd (omega (arith, lt))
op_in (x ∷ xs) k lt = x

pub ticked : (shapes : Shapes) (b : TimedBody) (lines : List Line) (r0 r : Registers) (f : Flow) → Shows b lines r0 f → ShowsReady shapes b lines r f → r.variables ≡ r0.variables → Shows b lines r (tick shapes b f)
unfolding tick
ticked shapes b lines r0 r f shows ready same = record {
  entry = ap (λ v. held v.items) same ∙ shows.entry;
  rooms = ready.rooms;
  chains = λ k lt.
      (let o = get_or b.ops k (op_in b.ops k lt) in
      let at = slice_get-get_or b.ops k (op_in b.ops k lt) lt in
      subst (λ x. ShowsChain r lines k (chain_behind shapes b f k x)) (sym at) (ready.chains k o at));
  made = λ k o is. subst (λ x. ShowsMade r lines (length b.ops + k) b.interval o.start (suc f.time) (under_way_behind shapes b f k x)) (sym is) (ready.made k o is);
  beyond = λ k j le. ap (λ x. chain_behind shapes b f k x j) (slice_get_past b.ops k le) ∙ shows.beyond k j le;
}

-- the form does not change with the words
pub form_stays : (widths : List ℕ) (b : TimedBody) (w : Work) (r r2 : Registers) → length r2.words.items ≡ length r.words.items → IsForm widths b w r → IsForm widths b w r2
form_stays widths b w r r2 same form = record {
  time = form.time;
  further = form.further;
  depth = form.depth;
  size = form.size;
  work = form.work;
  deep = form.deep;
  positive = form.positive;
  few = subst (λ n. n < 2 ^ 63) (sym same) form.few;
  early = form.early;
  soon = form.soon;
}

-- the phase of the next cycle
pub goes_up : (time w : ℕ) → 0 < w → time % w + 1 < w → suc time % w ≡ time % w + 1
goes_up time w some lt =
    let d = div-add-mod' time w in
    ap (λ x. x % w) (let z : suc time ≡ time / w * w + (time % w + 1) = omega (arith, d) in z) ∙ mod-mul-add (time / w) w (time % w + 1) lt

pub goes_round : (time w : ℕ) → 0 < w → w ≤ time % w + 1 → suc time % w ≡ 0
goes_round time w some le =
    let d = div-add-mod' time w in
    let small = mod_below time w some in
    let next = suc-mul (time / w) w in
    ap (λ x. x % w) (let z : suc time ≡ suc (time / w) * w + 0 = omega (arith, d, small, next, le) in z) ∙ mod-mul-add (suc (time / w)) w 0 some

-- ---- the moment and the gates of the next cycle

pub next_moment : (shapes : Shapes) (b : TimedBody) (f : Flow) (phase time : ℕ) → IsNextMoment b f phase time → IsMoment b (tick shapes b f) phase time
unfolding tick
next_moment shapes b f phase time h = record { phase_is = h.phase_is; time_is = h.time_is }

pub next_gates : (shapes : Shapes) (b : TimedBody) (f : Flow) (failed : ℕ) → ShowsGates (gates_now b f) failed → ShowsGates (tick shapes b f).gates failed
unfolding tick
next_gates shapes b f failed h = h

pub next_memories : (shapes : Shapes) (b : TimedBody) (f : Flow) → (tick shapes b f).memories ≡ behind_stores shapes b f b.ops f.memories
unfolding tick
next_memories shapes b f = refl

pub next_time : (shapes : Shapes) (b : TimedBody) (f : Flow) → (tick shapes b f).time ≡ suc f.time
unfolding tick
next_time shapes b f = refl
