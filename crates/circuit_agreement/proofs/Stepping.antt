-- Each cycle of a run is a step of the clocked run.
use Rattle.std.proofs.Common.{◌≡◌, ℕ, suc, ◌+◌, ◌-◌, ◌%◌, ◌<◌, true, false, List, Option, Some, None, inl, inr, refl, sym, ap, ◌∙◌, subst, arith}
use Rattle.std.specs.Prelude.{slice_get}
use Rattle.std.proofs.lemmas.Bool.{cases_Bool, cases_eq, and_parts, false≢true}
use Rattle.ir_core.specs.declared.body.Operand.{Operand}
use Rattle.ir_core.specs.declared.cfg.End.{End}
use Rattle.ir_core.specs.declared.cfg.End.TheVariants as end
use Rattle.rtl_core.specs.Interface.{reset_of}
use Rattle.ir_core.specs.Bodies.{Words}
use Rattle.ir_core.specs.FlatRuns.{Going, to, ends}
use Rattle.clock_ir.specs.Flows.{TimedBody, Flow, is_at, operand_at, tick, taken}
use Rattle.clock_ir.specs.ClockRuns.{TimedNode, block, overlapped, Phase, starting, loading, inside, ended, later, going_by, goes_to, clock_step}
use Rattle.clock_runs.proofs.Lists.{some_same}
use Rattle.datapath.specs.Plans.{Plan, body_at, span}
use Rattle.datapath.specs.Cycles.{Contents, Cycle, in_cycle}
use Rattle.datapath.specs.Reading.{operand}
use Rattle.datapath.specs.Control.{is_loop}
use Rattle.datapath.specs.Circuits.{Step}
use Rattle.datapath.specs.Standing.{IsInside}
use Rattle.datapath.specs.Laws.{Leaves, leads_to}
use Rattle.datapath.specs.Blocks.{left_words}
use Rattle.datapath.proofs.BlockSteps.{ticked_entry}
use Rattle.circuit_agreement.specs.CircuitFlow.Compiled.{IsCompiled}
use Rattle.circuit_agreement.specs.CircuitFlow.Flows.{Sees, Arrives, CountsIntervals, StoresAsRun, LeavesAsRun, HoldsMemories, StoresAreApart}
use Rattle.circuit_agreement.proofs.Nodes.{body_found}
use Rattle.circuit_agreement.proofs.HeldResults.Seeing.{results_seen}
use Rattle.circuit_agreement.proofs.HeldResults.Steps.{stays_held_law}
use Rattle.circuit_agreement.specs.UnitResults.{HasWidths}
use Rattle.circuit_agreement.specs.UnitResults.UnderWay.{IsWithin}
use Rattle.circuit_agreement.proofs.UnitResults.Giving.{units_give}
use Rattle.circuit_agreement.proofs.UnitResults.Stepping.{units_step}
use Rattle.circuit_agreement.specs.CircuitFlow.LoopGates.Gates.{HoldsGates, is_left, RunsOnce}
use Rattle.circuit_agreement.proofs.LoopGates.Blocks.{blocks_run_on, blocks_store}
use Rattle.circuit_agreement.proofs.LoopGates.Loops.{loops_count, gates_step}
use Rattle.circuit_agreement.proofs.LoopGates.Uses.{loops_leave, loops_store}
use Rattle.circuit_agreement.proofs.LoopGates.Controller.{loops_go_on, loops_lead, blocks_go_on}
use Rattle.circuit_agreement.proofs.CircuitStores.Storing.{nodes_store}
use Rattle.circuit_agreement.specs.CircuitFlow.NodeEnds.Ends.{KeepsVariables, HandsOn, HoldsComparisons}
use Rattle.circuit_agreement.proofs.NodeEnds.Staying.{variables_stay, variables_stay_in_blocks}
use Rattle.circuit_agreement.proofs.NodeEnds.Handing.{blocks_hand_on}
use Rattle.circuit_agreement.proofs.NodeEnds.Loops.{loops_hand_on}
use Rattle.circuit_agreement.proofs.NodeEnds.Comparing.{comparisons_stay}
use Rattle.circuit_agreement.proofs.NodeEnds.Entering.{blocks_enter}
use Rattle.circuit_agreement.specs.Standing.{FitsFrame, FollowsAs, StandsInside, StandsIn}
use Rattle.circuit_agreement.specs.Laws.{RunsStep}
use Rattle.circuit_agreement.proofs.Entering.{own_block, own_loop, nodes_are_entered, loading_steps}

module _ (p : Plan) (c : IsCompiled p) (i : ℕ) (n : TimedNode) (f : Flow) (x y : Contents) (pins : List ℕ) (at_ : slice_get p.program.nodes i ≡ Some n) (stands : StandsInside p c i f x)
    (clear : StoresAreApart p i f) (widths : HasWidths p x) (unset : reset_of pins ≡ 0) (step : Step p x pins y) where
  abbrev cyc : Cycle
  cyc = in_cycle x step.signals pins

  abbrev behind : Flow
  behind = tick p.program.shapes (body_at p i) f

  sees : Sees p i f cyc
  sees = results_seen p c i n f x cyc at_ stands.results stands.variables refl

  arrives : Arrives p i f cyc
  arrives = units_give p i n f cyc x c at_ refl stands.units sees

  memories_behind : StoresAsRun p i f cyc → HoldsMemories p behind.memories y
  memories_behind stores = nodes_store p i (f.time % span p i) n f x y pins c at_ unset stands.inside_ step stands.memories sees stores clear

  -- where the node is not left
  goes_on : IsInside i (behind.time % span p i) y → KeepsVariables x y → StoresAsRun p i f cyc → (is_loop (Some n) ≡ true → CountsIntervals p i f cyc)
      → (is_loop (Some n) ≡ false → f.time + 1 < (body_at p i).interval) → IsWithin p i (suc f.time) → FollowsAs p i behind y (Some n) → StandsInside p c i behind y
  goes_on inside_ kept stores counts short within follows = record {
    inside_ = inside_;
    variables = λ v live. kept.variables v ∙ (stands.variables v live ∙ sym (ticked_entry p i f v));
    memories = memories_behind stores;
    results = stays_held_law p c i n f x y pins at_ stands.inside_ stands.results step arrives counts short;
    units = units_step p i n f x y pins c at_ stands.inside_ widths stands.memories step sees stands.units within;
    follows = subst (FollowsAs p i behind y) (sym at_) follows;
  }

-- ---- blocks

returned_word : (read : Operand → ℕ) (end_ : End) (w : ℕ) → going_by read end_ ≡ ends (Some w) → (x : Operand) × (end_ ≡ end.Return (Some x))
returned_word read (end.Jump n) w e = absurd (let clash : to n.0 ≡ ends (Some w) = e in cc)
returned_word read (end.Branch test left_ right_) w e = absurd (let clash : going_by read (end.Branch test left_ right_) ≡ ends (Some w) = e in cc)
returned_word read (end.Choose cases other) w e = absurd (let clash : going_by read (end.Choose cases other) ≡ ends (Some w) = e in cc)
returned_word read (end.Return None) w e = absurd (let clash : ends None ≡ ends (Some w) = e in cc)
returned_word read (end.Return (Some x)) w e = (x, refl)

module _ (p : Plan) (c : IsCompiled p) (i : ℕ) (end_ : End) (f : Flow) (x y : Contents) (pins : List ℕ) (at_ : slice_get p.program.nodes i ≡ Some (block (body_at p i) end_)) (fits : FitsFrame p)
    (stands : StandsInside p c i f x) (once : RunsOnce (body_at p i) f) (compared : HoldsComparisons p i f) (clear : StoresAreApart p i f) (widths : HasWidths p x) (unset : reset_of pins ≡ 0) (step : Step p x pins y) where
  abbrev b : TimedBody
  b = body_at p i

  abbrev it : TimedNode
  it = block b end_

  abbrev cyc_ : Cycle
  cyc_ = in_cycle x step.signals pins

  abbrev words : Words
  words = left_words b (tick p.program.shapes b f)

  block_stores : StoresAsRun p i f cyc_
  block_stores = blocks_store p i b end_ f x step.signals pins c at_ stands.inside_ once

  block_sees : Sees p i f cyc_
  block_sees = sees p c i it f x y pins at_ stands clear widths unset step

  block_stays : f.time + 1 < b.interval → StandsIn p c (clock_step p.program (inside i f)) y
  block_stays more =
      let go = blocks_go_on p i b end_ f x y pins c at_ more unset stands.inside_ step in
      let within : IsWithin p i (suc f.time) = λ body e there. subst (λ (z : TimedBody). suc f.time < z.interval) (body_found p i (block body e) there) (omega (arith, more)) in
      subst (λ (ph : Phase). StandsIn p c ph y) (sym go.0)
      (goes_on p c i it f x y pins at_ stands clear widths unset step go.1 (variables_stay_in_blocks p i b end_ f x y pins at_ more stands.inside_ step) block_stores
      (λ loop. absurd (false≢true loop)) (λ plain. more) within (blocks_run_on p i b end_ f c at_ more once, comparisons_stay p i b end_ f c at_ more compared))

  module _ (last : f.time + 1 ≡ (body_at p i).interval) where
    hands : HandsOn p i end_ f cyc_ y
    hands = blocks_hand_on p i b end_ f x y pins c at_ last stands.inside_ stands.variables step block_sees (arrives p c i it f x y pins at_ stands clear widths unset step)

    left_ : Leaves p i end_ cyc_ y
    left_ = blocks_enter p i b end_ f x y pins c at_ last unset stands.inside_ compared step block_sees

    memories_ : HoldsMemories p (tick p.program.shapes b f).memories y
    memories_ = memories_behind p c i it f x y pins at_ stands clear widths unset step block_stores

    moves : (g : Going) → leads_to p i end_ cyc_ ≡ g → StandsIn p c (goes_to p.program.nodes g words) y → StandsIn p c (clock_step p.program (inside i f)) y
    moves g e h = subst (λ (ph : Phase). StandsIn p c ph y) (sym (hands.moves ∙ ap (λ (z : Going). goes_to p.program.nodes z words) e)) h

    leads : (g : Going) → leads_to p i end_ cyc_ ≡ g → StandsIn p c (clock_step p.program (inside i f)) y
    leads (to j) e = moves (to j) e (nodes_are_entered p c j words y (left_.enters j e) (hands.variables j e) memories_)
    leads (ends word) e =
        moves (ends word) e
        (record {
          waits = left_.ends_ word e;
          memories = memories_;
          kept = λ v for_next. hands.kept word v e for_next;
          result = λ w is.
              let so : leads_to p i end_ cyc_ ≡ ends (Some w) = e ∙ ap ends is in
              let r = returned_word (operand p cyc_ i (span p i - 1)) end_ w so in
              (hands.result w so, fits.returns i b r.0 (at_ ∙ ap (λ (z : End). Some (block b z)) r.1));
        })

    block_leaves : StandsIn p c (clock_step p.program (inside i f)) y
    block_leaves = leads (leads_to p i end_ cyc_) refl

  block_steps : StandsIn p c (clock_step p.program (inside i f)) y
  block_steps = elim (cases_eq (f.time + 1) (body_at p i).interval) [ inl last ↦ block_leaves last | inr more ↦ (let low = once.time in block_stays (omega (arith, low, more))) ]

-- ---- loops

module _ (p : Plan) (c : IsCompiled p) (i exit onto : ℕ) (f : Flow) (x y : Contents) (pins : List ℕ) (at_ : slice_get p.program.nodes i ≡ Some (overlapped (body_at p i) exit onto))
    (stands : StandsInside p c i f x) (gates : HoldsGates p i exit f x) (clear : StoresAreApart p i f) (widths : HasWidths p x) (unset : reset_of pins ≡ 0) (step : Step p x pins y) where
  abbrev body : TimedBody
  body = body_at p i

  abbrev loop_ : TimedNode
  loop_ = overlapped body exit onto

  abbrev now_ : Cycle
  now_ = in_cycle x step.signals pins

  loop_sees : Sees p i f now_
  loop_sees = sees p c i loop_ f x y pins at_ stands clear widths unset step

  loop_stores : StoresAsRun p i f now_
  loop_stores = loops_store p i body exit onto f x step.signals pins c at_ stands.inside_ gates loop_sees

  as_run : LeavesAsRun p i exit f now_
  as_run = loops_leave p i body exit onto f x step.signals pins c at_ stands.inside_ gates loop_sees

  loop_stays : is_left body exit f ≡ false → StandsIn p c (clock_step p.program (inside i f)) y
  loop_stays unleft =
      let go = loops_go_on p i body exit onto f x y pins c at_ unset stands.inside_ step as_run unleft in
      let within : IsWithin p i (suc f.time) = λ b e there. absurd (let clash : overlapped body exit onto ≡ block b e = some_same (sym at_ ∙ there) in cc) in
      subst (λ (ph : Phase). StandsIn p c ph y) (sym go.0)
      (goes_on p c i loop_ f x y pins at_ stands clear widths unset step go.1 (variables_stay p i (f.time % span p i) loop_ x y pins at_ stands.inside_ step (as_run ∙ unleft)) loop_stores
      (λ loop. loops_count p i exit f x step.signals pins gates) (λ plain. absurd (false≢true (sym plain))) within
      (gates_step p i body exit onto f x y pins c at_ stands.inside_ gates step loop_sees unleft))

  loop_leaves : is_left body exit f ≡ true → StandsIn p c (clock_step p.program (inside i f)) y
  loop_leaves left_ =
      let go = loops_lead p i body exit onto f x y pins at_ unset stands.inside_ step as_run left_ in
      let now : is_at body.interval exit f.time ≡ true = (and_parts _ _ left_).0 in
      subst (λ (ph : Phase). StandsIn p c ph y) (sym go.0)
      (nodes_are_entered p c onto (record { variables = taken (λ z. operand_at body f exit (later z)) body.outs f.entry; memories = (tick p.program.shapes body f).memories }) y go.1
      (loops_hand_on p i body exit onto f x y pins c at_ now stands.inside_ stands.variables step loop_sees (as_run ∙ left_))
      (memories_behind p c i loop_ f x y pins at_ stands clear widths unset step loop_stores))

  loop_steps : StandsIn p c (clock_step p.program (inside i f)) y
  loop_steps = elim (cases_Bool (is_left body exit f)) [ inl left_ ↦ loop_leaves left_ | inr unleft ↦ loop_stays unleft ]

-- ---- each node

inside_steps : (p : Plan) (c : IsCompiled p) (i : ℕ) (f : Flow) (x y : Contents) (pins : List ℕ) (node : Option TimedNode) → slice_get p.program.nodes i ≡ node → FitsFrame p
    → StandsInside p c i f x → FollowsAs p i f x node → StoresAreApart p i f → HasWidths p x → reset_of pins ≡ 0 → Step p x pins y → StandsIn p c (clock_step p.program (inside i f)) y
inside_steps p c i f x y pins None at_ fits stands follows clear widths unset step = absurd follows
inside_steps p c i f x y pins (Some (block body end_)) at_ fits stands follows clear widths unset step =
    block_steps p c i end_ f x y pins (own_block p i body end_ at_) fits stands follows.0 follows.1 clear widths unset step
inside_steps p c i f x y pins (Some (overlapped body exit onto)) at_ fits stands follows clear widths unset step =
    loop_steps p c i exit onto f x y pins (own_loop p i body exit onto at_) stands follows clear widths unset step

pub runs_step : RunsStep
runs_step p c (starting t) x y pins fits stands unended clear widths unset step = absurd stands
runs_step p c (loading i t) x y pins fits stands unended clear widths unset step = loading_steps p c i t x y pins (slice_get p.program.nodes i) refl stands unset step
runs_step p c (inside i f) x y pins fits stands unended clear widths unset step =
    inside_steps p c i f x y pins (slice_get p.program.nodes i) refl fits stands stands.follows clear widths unset step
runs_step p c (ended word t) x y pins fits stands unended clear widths unset step = absurd (unended tt)
