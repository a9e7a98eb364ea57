-- A block hands on what its variables hold in the clocked run.
use Rattle.std.proofs.Common.{◌≡◌, ◌≢◌, ℕ, zero, suc, ◌+◌, ◌-◌, ◌%◌, ◌<◌, ◌≤◌, ◌⊎◌, Bool, true, false, List, [], ◌∷◌, Option, Some, inl, inr, refl, sym, ap, ◌∙◌, subst, mod-eq_of_lt, arith}
use Rattle.std.specs.Prelude.{nat_lt, slice_get}
use Rattle.std.proofs.lemmas.Bool.{and_from, and_left, cases_eq, cases_lt, cond-true, cond-false, eq-eqb, lt-ltb, le-leb, le-ltb, ne_eqb, not_from_true, not_from_false}
use Rattle.hls_base.specs.declared.number.NodeId.{NodeId}
use Rattle.ir_core.specs.declared.body.OpKind.{OpKind}
use Rattle.ir_core.specs.declared.body.OpKind.TheVariants as o
use Rattle.ir_core.specs.declared.body.Operand.{Operand}
use Rattle.ir_core.specs.declared.body.Out.{Out}
use Rattle.ir_core.specs.declared.body.Source.{Source}
use Rattle.ir_core.specs.declared.body.Source.TheVariants as source
use Rattle.ir_core.specs.declared.cfg.End.{End}
use Rattle.ir_core.specs.declared.cfg.End.TheVariants as end
use Rattle.ir_core.specs.Timing as timing
use Rattle.ir_core.specs.Bodies.{OpTree, Shapes, Words, effect}
use Rattle.ir_core.specs.FlatRuns.{to, ends}
use Rattle.clock_ir.specs.Flows.{TimedOp, TimedBody, Flow, latency, ready, ready_in, is_at, pushed, operand_at, given}
use Rattle.clock_ir.specs.ClockRuns.{TimedNode, block, inside, node_step, goes_to, going_by, chosen_by, clock_step}
use Rattle.clock_runs.proofs.Effects.{Sort, computing, loading, storing, sort_of}
use Rattle.clock_runs.proofs.Accesses.{store_kind}
use Rattle.datapath.specs.Plans.{Plan, body_at, span}
use Rattle.datapath.specs.Cycles.{Ready, Initial, Time, Active, Variable, Result, Contents, Cycle, in_cycle, holds, starts}
use Rattle.rtl_logic.specs.Choosing.{is_any_wanted, AllWant}
use Rattle.datapath.specs.Reading.{operand}
use Rattle.datapath.specs.Control.{leaves_as, is_taken}
use Rattle.datapath.specs.Values.{arriving_as, arriving_of, arriving, last_value, out_value, out_writes, returned}
use Rattle.datapath.specs.Circuits.{IsAfter}
use Rattle.datapath.specs.Standing.{IsInside}
use Rattle.datapath.specs.Laws.{leads_to}
use Rattle.datapath.specs.Blocks.{EndReads, left_words, AreApart}
use Rattle.datapath.specs.Savings.{EndLeads, EndReturns, SetsNot, Passes, StaysForNextRun, IsLive, passes, stays, IsLiveBehind, goes_on, next_run}
use Rattle.datapath.proofs.Writes.{NoneWanted, none_want, some_of, all_of}
use Rattle.datapath.proofs.Controller.{off}
use Rattle.datapath.proofs.LeavingBlocks.{by_node, left_now}
use Rattle.datapath.proofs.LastCycles.{off_outs, going_same, taken_none, taken_at, zero_more, off_returned, all_returned, some_returned}
use Rattle.circuit_agreement.specs.CircuitFlow.Compiled.{IsCompiled}
use Rattle.circuit_agreement.specs.CircuitFlow.Reads.{IsThereLast, by_end, by_out}
use Rattle.circuit_agreement.specs.CircuitFlow.Flows.{Sees, Arrives, HoldsVariables}
use Rattle.circuit_agreement.proofs.Nodes.{positive, body_found}
use Rattle.circuit_agreement.specs.CircuitFlow.NodeEnds.Ends.{flow_behind, HandsOn}
use Rattle.circuit_agreement.specs.CircuitFlow.NodeEnds.{BlocksHandOn}
use Rattle.circuit_agreement.proofs.NodeEnds.Variables.{unset_outs, all_set, some_set, variable_stays, variable_takes}
use Rattle.circuit_agreement.proofs.NodeEnds.Blocks.{IsThereAs, IsThere, BlockReads, block_reads}
use Rattle.circuit_agreement.proofs.NodeEnds.Reading.{found, reads, time_behind, entry_behind, is_coming, chain_comes, found_behind}

-- ---- outs

-- an out sets the variable, or none does
pub sets_or : (xs : List Out) (v : ℕ) → ((n : ℕ) × ((out : Out) × ((slice_get xs n ≡ Some out) × (out.variable.0 ≡ v)))) ⊎ SetsNot v xs
sets_or [] v = inr tt
sets_or (x ∷ xs) v = elim (cases_eq x.variable.0 v) [
  | inl e ↦ inl (0, (x, (refl, e)))
  | inr other ↦ elim (sets_or xs v) [
    | inl later ↦ inl (suc later.0, (later.1.0, later.1.1))
    | inr none ↦ inr (other, none)
  ]
]

pub sets_not : (xs : List Out) (v : ℕ) → SetsNot v xs → (n : ℕ) (out : Out) → slice_get xs n ≡ Some out → out.variable.0 ≢ v
sets_not [] v h n out e = absurd (cc)
sets_not (x ∷ xs) v h zero out e = λ same. h.0 (ap (λ (z : Out). z.variable.0) (let is : x ≡ out = cc in is) ∙ same)
sets_not (x ∷ xs) v h (suc n) out e = sets_not xs v h.1 n out e

-- ---- ends

pub chosen_leads : (read : Operand → ℕ) (cases : List (Operand × NodeId)) (other : NodeId) (j : ℕ) → chosen_by read cases other ≡ j
    → (other.0 ≡ j) ⊎ ((n : ℕ) × ((case : Operand × NodeId) × ((slice_get cases n ≡ Some case) × (case.1.0 ≡ j))))
chosen_leads read [] other j e = inl e
chosen_leads read (case ∷ cases) other j e = elim (cases_eq (read case.0) 0) [
  | inr some ↦ inr (0, (case, (refl, sym (cond-true _ _ _ (not_from_false _ (ne_eqb (read case.0) 0 some))) ∙ e)))
  | inl none ↦ elim (chosen_leads read cases other j (sym (cond-false _ _ _ (not_from_true _ (eq-eqb (read case.0) 0 none))) ∙ e)) [
    | inl last ↦ inl last
    | inr later ↦ inr (suc later.0, (later.1.0, later.1.1))
  ]
]

to_same : (a b : ℕ) → to a ≡ to b → a ≡ b
to_same a b e = cc

pub end_leads_to : (read : Operand → ℕ) (e : End) (j : ℕ) → going_by read e ≡ to j → EndLeads e j
end_leads_to read (end.Jump next) j there = to_same next.0 j there
end_leads_to read (end.Branch test left right) j there = elim (cases_eq (read test) 0) [
  | inl none ↦ inr (sym (cond-false _ _ _ (not_from_true _ (eq-eqb (read test) 0 none))) ∙ to_same _ j there)
  | inr some ↦ inl (sym (cond-true _ _ _ (not_from_false _ (ne_eqb (read test) 0 some))) ∙ to_same _ j there)
]
end_leads_to read (end.Choose cases other) j there = chosen_leads read cases.items other j (to_same _ j there)
end_leads_to read (end.Return word) j there = absurd (cc)

pub end_returns : (read : Operand → ℕ) (e : End) (word : Option ℕ) → going_by read e ≡ ends word → EndReturns e
end_returns read (end.Jump next) word there = absurd (cc)
end_returns read (end.Branch test left right) word there = absurd (cc)
end_returns read (end.Choose cases other) word there = absurd (cc)
end_returns read (end.Return x) word there = tt

-- ---- what arrives

storing_or : (sort : Sort) → (sort ≡ storing) ⊎ (sort ≢ storing)
storing_or computing = inr (λ e. cc)
storing_or loading = inr (λ e. cc)
storing_or storing = inl refl

store_or : (kind : OpKind) → (kind ≡ o.Store) ⊎ (kind ≢ o.Store)
store_or kind = elim (storing_or (sort_of kind)) [ inl e ↦ inl (store_kind kind e) | inr other ↦ inr (λ e. other (ap sort_of e)) ]

store_gives : (shapes : Shapes) (op : OpTree) (allowed : Bool) (from : ℕ) (args : List ℕ) (t : Words) → (effect shapes op o.Store allowed from args t).result ≡ 0
store_gives shapes op true from args t = refl
store_gives shapes op false from args t = refl

effect_none : (shapes : Shapes) (op : OpTree) (kind : OpKind) (allowed : Bool) (from : ℕ) (args : List ℕ) (t : Words) → kind ≡ o.Store → (effect shapes op kind allowed from args t).result ≡ 0
effect_none shapes op kind allowed from args t e = ap (λ k. (effect shapes op k allowed from args t).result) e ∙ store_gives shapes op allowed from args t

-- a store gives 0, in the circuit too
pub arrives_also : (p : Plan) (i : ℕ) (f : Flow) (c : Cycle) → Arrives p i f c → (k : ℕ) (it : TimedOp) → slice_get (body_at p i).ops k ≡ Some it
    → is_at (body_at p i).interval (it.start + latency it) (suc f.time) ≡ true → arriving p c i k ≡ pushed (given p.program.shapes (body_at p i) f it) (f.under_way k) (latency it - 1)
arrives_also p i f c comes k it is now = elim (store_or it.op.kind) [
  | inr other ↦ comes k it is other now
  | inl store ↦
      let nothing : arriving p c i k ≡ 0 = ap (arriving_of p c i k) is ∙ ap (λ (kind : OpKind). arriving_as kind p c (record { node = i; number = k; op = it })) store in
      let gives : given p.program.shapes (body_at p i) f it ≡ 0 = effect_none p.program.shapes it.op it.op.kind _ _ _ _ store in
      let one : latency it - 1 ≡ 0 = ap (λ (kind : OpKind). timing.latency kind it.op.bits - 1) store in
      nothing ∙ sym (ap (pushed (given p.program.shapes (body_at p i) f it) (f.under_way k)) one ∙ gives)
]

-- ---- the last cycle of a block

module _ (p : Plan) (compiled : IsCompiled p) (i : ℕ) (body : TimedBody) (end_ : End) (at_ : slice_get p.program.nodes i ≡ Some (block body end_)) (f : Flow)
    (last : f.time + 1 ≡ (body_at p i).interval) where
  abbrev b : TimedBody
  b = body_at p i

  abbrev g : Flow
  g = flow_behind p i f

  same_body : body_at p i ≡ body
  same_body = body_found p i (block body end_) at_

  block_is : slice_get p.program.nodes i ≡ Some (block (body_at p i) end_)
  block_is = at_ ∙ ap (λ (z : TimedBody). Some (block z end_)) (sym same_body)

  some : 1 ≤ b.interval
  some = (positive p i (block body end_) compiled at_).0

  span_is : span p i ≡ b.interval
  span_is = (positive p i (block body end_) compiled at_).1

  facts : BlockReads b end_
  facts = block_reads p compiled i body end_ at_

  within : f.time < b.interval
  within = omega (arith, last)

  last_span : span p i - 1 ≡ f.time
  last_span = omega (arith, last, span_is)

  pub last_time : f.time % span p i ≡ span p i - 1
  last_time = mod-eq_of_lt (omega (arith, within, span_is)) ∙ sym last_span

  last_now : is_at b.interval (span p i - 1) f.time ≡ true
  last_now =
      let none : f.time - (span p i - 1) ≡ 0 = omega (arith, last_span) in
      and_from _ _ (le-leb (span p i - 1) f.time (omega (arith, last_span))) (eq-eqb _ 0 (ap (λ n. n % b.interval) none ∙ mod-eq_of_lt (omega (arith, some))))

  behind_time : g.time ≡ b.interval
  behind_time = time_behind p.program.shapes b f ∙ (let e : suc f.time ≡ b.interval = omega (arith, last) in e)

  -- what is read in the last cycle is read behind it too
  later_same : (x : Operand) → IsThere b f.time x → IsThere b b.interval x → operand_at b f f.time x ≡ operand_at b g g.time x
  later_same x now then_ =
      reads b some f f.time x (omega (arith, within)) now
      ∙ (sym (found_behind p.program.shapes b f within f.time x now (omega arith))
      ∙ sym (ap (λ t. operand_at b g t x) behind_time ∙ reads b some g b.interval x (omega arith) then_))

  later_as : (value : Source) (distance : ℕ) → IsThereAs b f.time value distance → IsThereAs b b.interval value distance
  later_as (source.Constant word) distance h = tt
  later_as (source.Variable v) distance h = h
  later_as (source.Result op) distance h = (h.0, (h.1.0, (h.1.1.0, (let low = h.1.1.1 in omega (arith, low, within)))))

  later : (x : Operand) → IsThere b f.time x → IsThere b b.interval x
  later x h = later_as x.value x.distance h

  module _ (c : Cycle) (sees : Sees p i f c) where
    -- what the end reads
    pub end_seen : (x : Operand) → EndReads end_ x → operand p c i (span p i - 1) x ≡ operand_at b f f.time x
    end_seen x read = sees x (span p i - 1) (by_end (body_at p i) end_ x block_is read) last_now ∙ ap (λ t. operand_at b f t x) last_span

    -- and it is there
    pub end_there : (x : Operand) → EndReads end_ x → IsThere b f.time x
    end_there x read = subst (λ t. IsThere b t x) (let e : b.interval - 1 ≡ f.time = omega (arith, last) in e) (facts.ends x read)

    goes_so : going_by (operand_at b g g.time) end_ ≡ leads_to p i end_ c
    goes_so =
        sym (going_same (operand p c i (span p i - 1)) (operand_at b g g.time) end_ (λ x read.
        end_seen x read ∙ later_same x (end_there x read) (later x (end_there x read))))

    moves_so : clock_step p.program (inside i f) ≡ goes_to p.program.nodes (leads_to p i end_ c) (left_words b g)
    moves_so =
        let over : nat_lt (f.time + 1) b.interval ≡ false = le-ltb (f.time + 1) b.interval (omega (arith, last)) in
        ap (node_step p.program.shapes p.program.nodes i f) block_is
        ∙ (cond-false _ _ _ over ∙ ap (λ go. goes_to p.program.nodes go (left_words b g)) goes_so)

    -- ---- values of outs

    module _ (arrives : Arrives p i f c) (n : ℕ) (out : Out) (is : slice_get b.outs n ≡ Some out) (live : IsLiveBehind p out.variable.0 i) where
      seen : IsThere b f.time out.value → IsThereLast b out.value → operand p c i (span p i - 1) out.value ≡ operand_at b g g.time out.value
      seen there soon =
          sees out.value (span p i - 1) (by_out (body_at p i) end_ n out block_is is live soon) last_now
          ∙ (ap (λ t. operand_at b f t out.value) last_span ∙ later_same out.value there (later out.value there))

      out_as : (value : Source) → out.value.value ≡ value → IsThereAs b b.interval value out.value.distance → last_value p c i out.value value ≡ operand_at b g g.time out.value
      out_as (source.Constant word) e h =
          seen (subst (λ s. IsThereAs b f.time s out.value.distance) (sym e) tt) (λ op r. absurd (let clash : source.Constant word ≡ source.Result op = sym e ∙ r in cc))
      out_as (source.Variable v) e h =
          seen (subst (λ s. IsThereAs b f.time s out.value.distance) (sym e) h) (λ op r. absurd (let clash : source.Variable v ≡ source.Result op = sym e ∙ r in cc))
      out_as (source.Result op) e h =
          let it : TimedOp = h.1.0 in
          let at_op : slice_get b.ops op.0 ≡ Some it = h.1.1.0 in
          let done : ready b op ≤ b.interval = h.1.1.1 in
          let r : ready b op ≡ it.start + latency it = ap ready_in at_op in
          elim (cases_lt (span p i - 1) (ready b op)) [
            | inl late ↦
                let now : it.start + latency it ≡ suc f.time = omega (arith, late, done, r, last, last_span) in
                let then_ : IsThereAs b b.interval (source.Result op) out.value.distance = h in
                cond-true _ _ _ (lt-ltb (span p i - 1) (ready b op) late)
                ∙ (arrives_also p i f c arrives op.0 it at_op (is_coming p.program.shapes b f within op.0 it at_op now)
                ∙ (sym (chain_comes p.program.shapes b f within op.0 it at_op now)
                ∙ sym (ap (λ t. operand_at b g t out.value) behind_time
                ∙ (reads b some g b.interval out.value (omega arith) (subst (λ s. IsThereAs b b.interval s out.value.distance) (sym e) h) ∙ ap (found g) e))))
            | inr early ↦
                let there : IsThere b f.time out.value =
                subst (λ s. IsThereAs b f.time s out.value.distance) (sym e) (h.0, (it, (at_op, (let z : ready b op ≤ f.time = omega (arith, early, last_span) in z)))) in
                cond-false _ _ _ (le-ltb (span p i - 1) (ready b op) early)
                ∙ seen there (λ q same.
                let one : op ≡ q = let s : source.Result op ≡ source.Result q = sym e ∙ same in cc in
                let z : ready b op ≡ ready b q = ap (ready b) one in
                omega (arith, z, early, last_span, within))
          ]

      -- an out has what the clocked run leaves
      pub out_same : out_value p c i (block b end_) out ≡ operand_at b g g.time out.value
      out_same = out_as out.value.value refl (facts.outs n out is)

    -- ---- variables

    module _ (arrives : Arrives p i f c) (x y : Contents) (same : c.regs ≡ x.regs) (stands : IsInside i (f.time % span p i) x) (holds_ : HoldsVariables p i f.entry x) (after : IsAfter p c y) where
      off_ready : holds c Ready ≡ false
      off_ready = off c Ready (ap (λ r. r Ready) same ∙ stands.busy.ready)

      untaken : is_taken c ≡ false
      untaken = and_left _ (starts c) off_ready

      uninitial : holds c Initial ≡ false
      uninitial = off c Initial (ap (λ r. r Initial) same ∙ stands.busy.initial)

      others : (j : ℕ) → j ≢ i → c.regs (Active j) ≡ 0
      others j other = ap (λ r. r (Active j)) same ∙ stands.others j other

      leaving : leaves_as p c i (block b end_) ≡ true
      leaving = left_now p i b end_ c (ap (λ r. r Time) same ∙ (stands.time ∙ last_time)) (ap (λ r. r (Active i)) same ∙ stands.active)

      apart : AreApart b.outs
      apart = compiled.outs_apart i

      -- a variable that is read behind the block, and if no out sets it, in it too
      hands : (v : ℕ) → IsLiveBehind p v i → (Passes (block b end_) v → IsLive p v i) → y.regs (Variable v) ≡ (left_words b g).variables v
      hands v live through = elim (sets_or b.outs v) [
        | inl set ↦
            let n : ℕ = set.0 in
            let out : Out = set.1.0 in
            let is : slice_get b.outs n ≡ Some out = set.1.1.0 in
            let live_out : IsLiveBehind p out.variable.0 i = subst (λ k. IsLiveBehind p k i) (sym set.1.1.1) live in
            let kept : p.savings.behind i out.variable.0 ≡ true = compiled.safe.behind out.variable.0 i live_out in
            let takes_it : y.regs (Variable out.variable.0) ≡ out_value p c i (block b end_) out =
            variable_takes p c y after untaken uninitial out.variable.0 i (block b end_) (out_value p c i (block b end_) out) block_is others
            (all_set p c i (block b end_) n out leaving kept apart is) (some_set p c i (block b end_) n out leaving kept apart is) in
            let left_ : y.regs (Variable out.variable.0) ≡ (left_words b g).variables out.variable.0 =
            takes_it ∙ (out_same arrives n out is live_out ∙ sym (taken_at (operand_at b g g.time) b.outs g.entry n out is apart)) in
            subst (λ k. y.regs (Variable k) ≡ (left_words b g).variables k) set.1.1.1 left_
        | inr none ↦
            let unset = sets_not b.outs v none in
            variable_stays p c y after untaken uninitial v (by_node p i (block b end_) (λ j node. NoneWanted (out_writes p c v (j, node))) block_is (unset_outs p c v i (block b end_) unset)
            (λ j node other. off_outs p c v j node (others j other)))
            ∙ (ap (λ r. r (Variable v)) same
            ∙ (holds_ v (through none) ∙ (sym (entry_behind p.program.shapes b f v) ∙ sym (taken_none (operand_at b g g.time) b.outs g.entry v unset))))
      ]

      hands_to : (j : ℕ) → leads_to p i end_ c ≡ to j → HoldsVariables p j (left_words b g).variables y
      hands_to j there v live =
          let leads = end_leads_to (operand p c i (span p i - 1)) end_ j there in
          hands v (goes_on j (block b end_) block_is leads live) (λ none. passes v i j (block b end_) block_is none leads live)

      keeps : (word : Option ℕ) (v : ℕ) → leads_to p i end_ c ≡ ends word → StaysForNextRun p v → y.regs (Variable v) ≡ (left_words b g).variables v
      keeps word v there kept =
          let returns = end_returns (operand p c i (span p i - 1)) end_ word there in
          hands v (next_run (block b end_) block_is returns kept) (λ none. stays v i (block b end_) block_is none returns kept)

      result_so : (w : ℕ) → leads_to p i end_ c ≡ ends (Some w) → y.regs Result ≡ w
      result_so w there =
          let each : (j : ℕ) (node : TimedNode) → slice_get p.program.nodes j ≡ Some node → AllWant (returned p c j node) w =
          by_node p i (block b end_) (λ j node. AllWant (returned p c j node) w) block_is (all_returned p c i b end_ w there)
          (λ j node other. none_want (returned p c j node) w (off_returned p c j node (others j other))) in
          (after.regs Result).wanted w
          (some_of (λ (n : ℕ × TimedNode). returned p c n.0 n.1) 0 i p.program.nodes (block b end_) block_is
          (subst (λ (k : ℕ). is_any_wanted (returned p c k (block b end_)) ≡ true) (zero_more i) (some_returned p c i b end_ w there leaving)))
          (all_of (λ (n : ℕ × TimedNode). returned p c n.0 n.1) 0 p.program.nodes w (λ j node e. subst (λ (k : ℕ). AllWant (returned p c k node) w) (zero_more j) (each j node e)))

      pub hands_on : HandsOn p i end_ f c y
      hands_on = record { going = goes_so; moves = moves_so; variables = hands_to; kept = keeps; result = result_so }

pub blocks_hand_on : BlocksHandOn
blocks_hand_on p i body end_ f x y pins compiled at_ last stands holds_ step sees arrives =
    hands_on p compiled i body end_ at_ f last (in_cycle x step.signals pins) sees arrives x y refl stands holds_ step.is_after
