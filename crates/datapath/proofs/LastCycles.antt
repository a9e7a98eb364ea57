-- What the registers take in the last cycle of a block.
use Rattle.std.proofs.Common.{◌≡◌, ◌≢◌, ℕ, zero, suc, ◌+◌, ◌-◌, ◌*◌, ◌/◌, ◌<◌, ◌≤◌, true, false, not, List, [], ◌∷◌, map, Some, None, refl, sym, ap, ap₂, ◌∙◌, subst, inl, inr, arith}
use Rattle.std.specs.Prelude.{◌==◌, nat_lt, slice_get, filter, if◌then◌else◌}
use Rattle.std.proofs.lemmas.Nat.{div-mul-add}
use Rattle.std.proofs.lemmas.Bool.{or_from, or_left, and_left, eq-eqb, eqb-true, cases_lt, cond-true, cond-false, lt-ltb, le-ltb, ne_eqb}
use Rattle.hls_base.specs.declared.number.NodeId.{NodeId}
use Rattle.hls_base.specs.declared.number.OpId.{OpId}
use Rattle.ir_core.specs.declared.body.Operand.{Operand}
use Rattle.ir_core.specs.declared.body.Out.{Out}
use Rattle.ir_core.specs.declared.body.Source.{Source}
use Rattle.ir_core.specs.declared.body.Source.TheVariants as source
use Rattle.ir_core.specs.declared.cfg.End.{End}
use Rattle.ir_core.specs.declared.cfg.End.TheVariants as end
use Rattle.ir_core.specs.Bodies.{word, with_word}
use Rattle.ir_core.specs.FlatRuns.{to, ends}
use Rattle.dep_graph.specs.Dependences.{maker_by, maker_of}
use Rattle.clock_ir.specs.Flows.{TimedOp, TimedBody, Flow, ready, place, held, operand_at, tick, taken}
use Rattle.clock_ir.specs.ClockRuns.{TimedNode, block, overlapped, inside, node_step, goes_to, going_by, chosen_by, clock_step}
use Rattle.datapath.specs.Plans.{Plan, body_at, span}
use Rattle.datapath.specs.Cycles.{Ready, Initial, Time, Active, Variable, Result, Contents, Cycle, in_cycle, holds}
use Rattle.rtl_logic.specs.Choosing.{where_, is_any_wanted, AllWant}
use Rattle.datapath.specs.Reading.{operand}
use Rattle.datapath.specs.Control.{leaves_as}
use Rattle.datapath.specs.Values.{last_value, out_value, out_writes, argument_writes, kept_writes, returned}
use Rattle.datapath.specs.Circuits.{IsAfter}
use Rattle.datapath.specs.Laws.{leads_to}
use Rattle.datapath.specs.Blocks.{EndReads, Reads, by_out, by_end, ReadsFrom, HasResult, IsSimpleBlock, HoldsFlow, left_words, AreApart, BlocksLeave}
use Rattle.datapath.proofs.Controller.{off, off_leaves}
use Rattle.datapath.proofs.LeavingBlocks.{by_node, left_now}
use Rattle.datapath.proofs.Writes.{NoneWanted, none_want, none_both, none_if, none_map, none_of, all_both, all_of, some_of, all_mapped, none_mapped, some_mapped, some_right}
use Rattle.datapath.proofs.Simple.{one_cycle}
use Rattle.datapath.proofs.BlockSteps.{max_of, first_place, entered_with, same_source, arriving_given, ready_behind, chain_comes, chain_stays, ticked_chain, ticked_time, ticked_entry}

-- the last cycle of the block, and the clocked run behind it
record Last (p : Plan) (i : ℕ) (end_ : End) (f : Flow) (x : Contents) (c : Cycle) : Type 0 where
  block_ : IsSimpleBlock p i end_
  stands : HoldsFlow p i end_ f x
  same : c.regs ≡ x.regs
  last : f.time + 1 ≡ (body_at p i).interval

abbrev behind : Plan → ℕ → Flow → Flow
behind p i f = tick p.program.shapes (body_at p i) f

-- ---- operands behind the last cycle

first_of : (w a : ℕ) → 1 ≤ a → a ≤ w → (w + 0 * w - a) / w ≡ 0
first_of w a some h =
    let low : w + 0 * w - a < w = omega (arith, some, h) in
    below (w + 0 * w - a) w low
  where
    below : (n w : ℕ) → n < w → n / w ≡ 0
    below n w h = let e : n ≡ 0 * w + n = omega arith in ap (λ k. k / w) e ∙ div-mul-add 0 w n h

-- a result, behind the last cycle
result_behind : (p : Plan) (i : ℕ) (end_ : End) (f : Flow) (x : Contents) (c : Cycle) (z : Operand) (op : OpId) (it : TimedOp) → Last p i end_ f x c → z.distance ≡ 0
    → z.value ≡ source.Result op → slice_get (body_at p i).ops op.0 ≡ Some it → operand_at (body_at p i) (behind p i f) (behind p i f).time z ≡ (behind p i f).chain op.0 0
result_behind p i end_ f x c z op it l near is at_ =
    let made : maker_of (body_at p i).outs z ≡ Some op = ap₂ (maker_by (body_at p i).outs) near is in
    let w : ℕ = (body_at p i).interval in
    let there = ready_behind p i end_ op it l.block_ at_ in
    let short = l.block_.within op.0 it at_ in
    let now : (behind p i f).time ≡ w = ticked_time p i f ∙ l.last in
    let first : place w (ready (body_at p i) op) (behind p i f).time z.distance ≡ 0 =
    ap₂ (λ t d. (t + d * w - ready (body_at p i) op) / w) now near ∙ first_of w (ready (body_at p i) op) (omega (arith, there)) (omega (arith, there, short)) in
    ap (held (body_at p i) (behind p i f) (behind p i f).time z) made ∙ ap ((behind p i f).chain op.0) first

-- what is read in the last cycle is read behind it too
later_same : (p : Plan) (i : ℕ) (end_ : End) (f : Flow) (x : Contents) (c : Cycle) (z : Operand) (from : Source) → Last p i end_ f x c → Reads (body_at p i) end_ z f.time
    → z.value ≡ from → operand_at (body_at p i) f f.time z ≡ operand_at (body_at p i) (behind p i f) (behind p i f).time z
later_same p i end_ f x c z (source.Constant k) l reads is =
    let none : maker_of (body_at p i).outs z ≡ None = ap₂ (maker_by (body_at p i).outs) (l.block_.near z f.time reads) is in
    (ap (held (body_at p i) f f.time z) none ∙ ap (word (entered_with f) []) is)
    ∙ sym (ap (held (body_at p i) (behind p i f) (behind p i f).time z) none ∙ ap (word (entered_with (behind p i f)) []) is)
later_same p i end_ f x c z (source.Variable v) l reads is =
    let none : maker_of (body_at p i).outs z ≡ None = ap₂ (maker_by (body_at p i).outs) (l.block_.near z f.time reads) is in
    (ap (held (body_at p i) f f.time z) none ∙ ap (word (entered_with f) []) is)
    ∙ (sym (ticked_entry p i f v.0)
    ∙ sym (ap (held (body_at p i) (behind p i f) (behind p i f).time z) none ∙ ap (word (entered_with (behind p i f)) []) is))
later_same p i end_ f x c z (source.Result op) l reads is =
    let r : ReadsFrom (body_at p i) end_ (source.Result op) f.time = record { operand = z; reads = reads; is = is } in
    let d : HasResult p i op = l.block_.has op f.time r in
    let near = l.block_.near z f.time reads in
    let there = ready_behind p i end_ op d.it l.block_ d.is in
    let from = l.block_.waits op f.time r in
    let short : f.time < (body_at p i).interval = let e = l.last in omega (arith, e) in
    let made : maker_of (body_at p i).outs z ≡ Some op = ap₂ (maker_by (body_at p i).outs) near is in
    let first : place (body_at p i).interval (ready (body_at p i) op) f.time z.distance ≡ 0 = first_place (body_at p i).interval (ready (body_at p i) op) f.time z.distance near from short in
    (ap (held (body_at p i) f f.time z) made ∙ ap (f.chain op.0) first)
    ∙ (sym (ticked_chain p i f op.0 d.it d.is ∙ chain_stays p i f op.0 d.it short (one_cycle d.it.op.kind d.it.op.bits (l.block_.simple op.0 d.it d.is)) (omega (arith, there, from)))
    ∙ sym (result_behind p i end_ f x c z op d.it l near is d.is))

last_span : (p : Plan) (i : ℕ) (end_ : End) (f : Flow) (x : Contents) (c : Cycle) → Last p i end_ f x c → span p i - 1 ≡ f.time
last_span p i end_ f x c l =
    let e = l.last in
    let wide : span p i ≡ (body_at p i).interval = max_of (body_at p i).interval (omega (arith, e)) in
    omega (arith, wide, e)

-- an operand that is read in the last cycle
last_read : (p : Plan) (i : ℕ) (end_ : End) (f : Flow) (x : Contents) (c : Cycle) (z : Operand) → Last p i end_ f x c → Reads (body_at p i) end_ z f.time
    → operand p c i (span p i - 1) z ≡ operand_at (body_at p i) (behind p i f) (behind p i f).time z
last_read p i end_ f x c z l reads =
    let short : f.time < (body_at p i).interval = let e = l.last in omega (arith, e) in
    ap (λ t. operand p c i t z) (last_span p i end_ f x c l)
    ∙ (same_source p i end_ f x c z z.value l.block_ l.stands l.same short reads refl ∙ later_same p i end_ f x c z z.value l reads refl)

at_last : (p : Plan) (i : ℕ) (end_ : End) (f : Flow) (x : Contents) (c : Cycle) → Last p i end_ f x c → (body_at p i).interval - 1 ≡ f.time
at_last p i end_ f x c l = let e = l.last in omega (arith, e)

-- ---- ends

pub chosen_same : (f g : Operand → ℕ) (cases : List (Operand × NodeId)) (other : NodeId) → ((n : ℕ) (z : Operand) (next : NodeId) → slice_get cases n ≡ Some (z, next) → f z ≡ g z)
    → chosen_by f cases other ≡ chosen_by g cases other
chosen_same f g [] other h = refl
chosen_same f g (case ∷ cases) other h =
    ap₂ (λ b r. if not (b == 0) then case.1.0 else r) (h 0 case.0 case.1 refl) (chosen_same f g cases other (λ n z next e. h (suc n) z next e))

pub going_same : (f g : Operand → ℕ) (e : End) → ((z : Operand) → EndReads e z → f z ≡ g z) → going_by f e ≡ going_by g e
going_same f g (end.Jump n) h = refl
going_same f g (end.Branch test left right) h = ap (λ b. to (if not (b == 0) then left.0 else right.0)) (h test refl)
going_same f g (end.Choose cases other) h = ap to (chosen_same f g cases.items other (λ n z next e. h z (n, next, e)))
going_same f g (end.Return None) h = refl
going_same f g (end.Return (Some z)) h = ap (λ b. ends (Some b)) (h z refl)

same_going : (p : Plan) (i : ℕ) (end_ : End) (f : Flow) (x : Contents) (c : Cycle) → Last p i end_ f x c
    → going_by (operand_at (body_at p i) (behind p i f) (behind p i f).time) end_ ≡ leads_to p i end_ c
same_going p i end_ f x c l =
    sym (going_same (operand p c i (span p i - 1)) (operand_at (body_at p i) (behind p i f) (behind p i f).time) end_ (λ z reads.
    last_read p i end_ f x c z l (subst (λ t. Reads (body_at p i) end_ z t) (at_last p i end_ f x c l) (by_end z reads))))

goes : (p : Plan) (i : ℕ) (end_ : End) (f : Flow) (x : Contents) (c : Cycle) → Last p i end_ f x c
    → clock_step p.program (inside i f) ≡ goes_to p.program.nodes (leads_to p i end_ c) (left_words (body_at p i) (behind p i f))
goes p i end_ f x c l =
    let over : nat_lt (f.time + 1) (body_at p i).interval ≡ false = let e = l.last in le-ltb (f.time + 1) (body_at p i).interval (omega (arith, e)) in
    ap (node_step p.program.shapes p.program.nodes i f) l.block_.node
    ∙ (cond-false _ _ _ over ∙ ap (λ go. goes_to p.program.nodes go (left_words (body_at p i) (behind p i f))) (same_going p i end_ f x c l))

-- ---- variables

out_read : (p : Plan) (i : ℕ) (end_ : End) (f : Flow) (x : Contents) (c : Cycle) (n : ℕ) (out : Out) → Last p i end_ f x c → slice_get (body_at p i).outs n ≡ Some out
    → ((op : OpId) → out.value.value ≡ source.Result op → ready (body_at p i) op < (body_at p i).interval)
    → operand p c i (span p i - 1) out.value ≡ operand_at (body_at p i) (behind p i f) (behind p i f).time out.value
out_read p i end_ f x c n out l is comes =
    last_read p i end_ f x c out.value l (subst (λ t. Reads (body_at p i) end_ out.value t) (at_last p i end_ f x c l) (by_out n out is comes))

-- also a value that has only just come
out_same : (p : Plan) (i : ℕ) (end_ : End) (f : Flow) (x : Contents) (c : Cycle) (n : ℕ) (out : Out) (from : Source) → Last p i end_ f x c → slice_get (body_at p i).outs n ≡ Some out
    → out.value.value ≡ from → last_value p c i out.value from ≡ operand_at (body_at p i) (behind p i f) (behind p i f).time out.value
out_same p i end_ f x c n out (source.Constant k) l is from = out_read p i end_ f x c n out l is (λ op e. absurd (let clash : source.Constant k ≡ source.Result op = sym from ∙ e in cc))
out_same p i end_ f x c n out (source.Variable v) l is from = out_read p i end_ f x c n out l is (λ op e. absurd (let clash : source.Variable v ≡ source.Result op = sym from ∙ e in cc))
out_same p i end_ f x c n out (source.Result op) l is from =
    let made = l.block_.makes n out op is from in
    let it : TimedOp = made.0 in
    let there = ready_behind p i end_ op it l.block_ made.1 in
    let short = l.block_.within op.0 it made.1 in
    let now = last_span p i end_ f x c l in
    let e = l.last in
    let soon : f.time < (body_at p i).interval = omega (arith, e) in
    elim (cases_lt (span p i - 1) (ready (body_at p i) op)) [
      | inl late ↦
          let starts_now : it.start ≡ f.time = omega (arith, late, there, short, now, e) in
          cond-true _ _ _ (lt-ltb (span p i - 1) (ready (body_at p i) op) late)
          ∙ (arriving_given p i end_ f x c op.0 it l.block_ l.stands l.same soon made.1 starts_now
          ∙ (sym (ticked_chain p i f op.0 it made.1 ∙ chain_comes p i f op.0 it soon (one_cycle it.op.kind it.op.bits (l.block_.simple op.0 it made.1)) (sym starts_now))
          ∙ sym (result_behind p i end_ f x c out.value op it l (l.block_.outs n out is) from made.1)))
      | inr early ↦
          cond-false _ _ _ (le-ltb (span p i - 1) (ready (body_at p i) op) early)
          ∙ out_read p i end_ f x c n out l is (λ o same.
          let one : o ≡ op = let s : source.Result o ≡ source.Result op = sym same ∙ from in cc in
          let r : ready (body_at p i) o ≡ ready (body_at p i) op = ap (ready (body_at p i)) one in
          omega (arith, r, early, now, e))
    ]

pub taken_none : (read : Operand → ℕ) (xs : List Out) (vars : ℕ → ℕ) (v : ℕ) → ((n : ℕ) (out : Out) → slice_get xs n ≡ Some out → out.variable.0 ≢ v) → taken read xs vars v ≡ vars v
taken_none read [] vars v h = refl
taken_none read (x ∷ xs) vars v h =
    taken_none read xs (with_word vars x.variable.0 (read x.value)) v (λ n out e. h (suc n) out e) ∙ cond-false _ _ _ (ne_eqb x.variable.0 v (h 0 x refl))

pub taken_at : (read : Operand → ℕ) (xs : List Out) (vars : ℕ → ℕ) (n : ℕ) (out : Out) → slice_get xs n ≡ Some out → AreApart xs → taken read xs vars out.variable.0 ≡ read out.value
taken_at read [] vars n out is apart = absurd (cc)
taken_at read (x ∷ xs) vars zero out is apart =
    let same : x ≡ out = cc in
    taken_none read xs (with_word vars x.variable.0 (read x.value)) out.variable.0 (λ m y e clash. absurd (let z : suc m ≡ 0 = apart (suc m) 0 y out e is clash in omega (arith, z)))
    ∙ (cond-true _ _ _ (eq-eqb x.variable.0 out.variable.0 (ap (λ (o : Out). o.variable.0) same)) ∙ ap (λ (o : Out). read o.value) same)
taken_at read (x ∷ xs) vars (suc n) out is apart =
    taken_at read xs (with_word vars x.variable.0 (read x.value)) n out is (λ a b y z e g same. let up : suc a ≡ suc b = apart (suc a) (suc b) y z e g same in omega (arith, up))

-- neither a start nor the initial sequence writes
pub quiet_arguments : (p : Plan) (c : Cycle) (v : ℕ) → holds c Ready ≡ false → NoneWanted (argument_writes p c v)
quiet_arguments p c v unready = none_map _ _ (λ q. and_left _ _ unready)

pub quiet_kept : (p : Plan) (c : Cycle) (v : ℕ) → holds c Initial ≡ false → NoneWanted (kept_writes p c v)
quiet_kept p c v uninitial = none_map _ _ (λ q. uninitial)

pub off_outs : (p : Plan) (c : Cycle) (v j : ℕ) (node : TimedNode) → c.regs (Active j) ≡ 0 → NoneWanted (out_writes p c v (j, node))
off_outs p c v j node off_ = none_if (p.savings.behind j v) _ [] (none_map _ _ (λ o. off_leaves p c j node off_)) refl

is_ready_off : (p : Plan) (i : ℕ) (end_ : End) (f : Flow) (x : Contents) (c : Cycle) → Last p i end_ f x c → holds c Ready ≡ false
is_ready_off p i end_ f x c l = off c Ready (ap (λ r. r Ready) l.same ∙ l.stands.inside.busy.ready)

is_initial_off : (p : Plan) (i : ℕ) (end_ : End) (f : Flow) (x : Contents) (c : Cycle) → Last p i end_ f x c → holds c Initial ≡ false
is_initial_off p i end_ f x c l = off c Initial (ap (λ r. r Initial) l.same ∙ l.stands.inside.busy.initial)

others_inactive : (p : Plan) (i : ℕ) (end_ : End) (f : Flow) (x : Contents) (c : Cycle) → Last p i end_ f x c → (j : ℕ) → j ≢ i → c.regs (Active j) ≡ 0
others_inactive p i end_ f x c l j other = ap (λ r. r (Active j)) l.same ∙ l.stands.inside.others j other

is_leaving : (p : Plan) (i : ℕ) (end_ : End) (f : Flow) (x : Contents) (c : Cycle) → Last p i end_ f x c → leaves_as p c i (block (body_at p i) end_) ≡ true
is_leaving p i end_ f x c l =
    left_now p i (body_at p i) end_ c (ap (λ r. r Time) l.same ∙ (l.stands.inside.time ∙ sym (last_span p i end_ f x c l))) (ap (λ r. r (Active i)) l.same ∙ l.stands.inside.active)

pub zero_more : (j : ℕ) → j ≡ 0 + j
zero_more j = omega arith

-- a variable that is set takes its value
takes_out : (p : Plan) (i : ℕ) (end_ : End) (f : Flow) (x y : Contents) (c : Cycle) (n : ℕ) (out : Out) → Last p i end_ f x c → IsAfter p c y → AreApart (body_at p i).outs
    → slice_get (body_at p i).outs n ≡ Some out → p.savings.behind i out.variable.0 ≡ true
    → y.regs (Variable out.variable.0) ≡ operand_at (body_at p i) (behind p i f) (behind p i f).time out.value
takes_out p i end_ f x y c n out l after apart is kept =
    let v : ℕ = out.variable.0 in
    let it : TimedNode = block (body_at p i) end_ in
    let value_ : ℕ = operand_at (body_at p i) (behind p i f) (behind p i f).time out.value in
    let right : out_value p c i it out ≡ value_ = out_same p i end_ f x c n out out.value.value l is refl in
    let written : out_writes p c v (i, it) ≡ map (λ (o : Out). where_ (leaves_as p c i it) (out_value p c i it o)) (filter (λ (o : Out). o.variable.0 == v) (body_at p i).outs) = cond-true _ _ _ kept in
    let here : AllWant (out_writes p c v (i, it)) value_ =
    subst (λ w. AllWant w value_) (sym written) (all_mapped _ _ (body_at p i).outs value_ (λ m o at_ passes.
    let same : m ≡ n = apart m n o out at_ is (eqb-true o.variable.0 v passes) in
    let one : o ≡ out = let e : Some o ≡ Some out = sym at_ ∙ (ap (slice_get (body_at p i).outs) same ∙ is) in cc in
    ap (out_value p c i it) one ∙ right)) in
    let some : is_any_wanted (out_writes p c v (i, it)) ≡ true =
    ap is_any_wanted written ∙ some_mapped _ _ n (body_at p i).outs out is (eq-eqb v v refl) (is_leaving p i end_ f x c l) in
    let args = quiet_arguments p c v (is_ready_off p i end_ f x c l) in
    let first = quiet_kept p c v (is_initial_off p i end_ f x c l) in
    let each : (j : ℕ) (node : TimedNode) → slice_get p.program.nodes j ≡ Some node → AllWant (out_writes p c v (j, node)) value_ =
    by_node p i it (λ j node. AllWant (out_writes p c v (j, node)) value_) l.block_.node here
    (λ j node other. none_want (out_writes p c v (j, node)) value_ (off_outs p c v j node (others_inactive p i end_ f x c l j other))) in
    (after.regs (Variable v)).wanted value_
    (some_right (argument_writes p c v) _ (some_right (kept_writes p c v) _
    (some_of (out_writes p c v) 0 i p.program.nodes it l.block_.node (subst (λ (k : ℕ). is_any_wanted (out_writes p c v (k, it)) ≡ true) (zero_more i) some))))
    (all_both (argument_writes p c v) _ value_ (none_want _ value_ args) (all_both (kept_writes p c v) _ value_ (none_want _ value_ first)
    (all_of (out_writes p c v) 0 p.program.nodes value_ (λ j node e. subst (λ (k : ℕ). AllWant (out_writes p c v (k, node)) value_) (zero_more j) (each j node e)))))

-- and one that is not set stays
keeps_variable : (p : Plan) (i : ℕ) (end_ : End) (f : Flow) (x y : Contents) (c : Cycle) (v : ℕ) → Last p i end_ f x c → IsAfter p c y
    → ((n : ℕ) (out : Out) → slice_get (body_at p i).outs n ≡ Some out → out.variable.0 ≢ v) → y.regs (Variable v) ≡ c.regs (Variable v)
keeps_variable p i end_ f x y c v l after unset =
    let it : TimedNode = block (body_at p i) end_ in
    let here : NoneWanted (out_writes p c v (i, it)) =
    none_if (p.savings.behind i v) _ [] (none_mapped _ _ (body_at p i).outs (λ n o at_ passes. unset n o at_ (eqb-true o.variable.0 v passes))) refl in
    let each : (j : ℕ) (node : TimedNode) → slice_get p.program.nodes j ≡ Some node → NoneWanted (out_writes p c v (j, node)) =
    by_node p i it (λ j node. NoneWanted (out_writes p c v (j, node))) l.block_.node here (λ j node other. off_outs p c v j node (others_inactive p i end_ f x c l j other)) in
    (after.regs (Variable v)).else_
    (none_both (argument_writes p c v) _ (quiet_arguments p c v (is_ready_off p i end_ f x c l)) (none_both (kept_writes p c v) _ (quiet_kept p c v (is_initial_off p i end_ f x c l))
    (none_of (out_writes p c v) 0 p.program.nodes (λ j node e. subst (λ (k : ℕ). NoneWanted (out_writes p c v (k, node))) (zero_more j) (each j node e)))))

-- ---- the result

pub off_returned : (p : Plan) (c : Cycle) (j : ℕ) (node : TimedNode) → c.regs (Active j) ≡ 0 → NoneWanted (returned p c j node)
off_returned p c j (block body (end.Jump n)) off_ = refl
off_returned p c j (block body (end.Branch test left right)) off_ = refl
off_returned p c j (block body (end.Choose cases other)) off_ = refl
off_returned p c j (block body (end.Return None)) off_ = refl
off_returned p c j (block body (end.Return (Some z))) off_ = or_from _ false (off_leaves p c j (block body (end.Return (Some z))) off_) refl
off_returned p c j (overlapped body exit next) off_ = refl

-- what the end of the block writes
pub all_returned : (p : Plan) (c : Cycle) (i : ℕ) (body : TimedBody) (e : End) (w : ℕ) → leads_to p i e c ≡ ends (Some w) → AllWant (returned p c i (block body e)) w
all_returned p c i body (end.Jump n) w there = absurd (cc)
all_returned p c i body (end.Branch test left right) w there = absurd (cc)
all_returned p c i body (end.Choose cases other) w there = absurd (cc)
all_returned p c i body (end.Return None) w there = absurd (cc)
all_returned p c i body (end.Return (Some z)) w there = ((λ wanted. let same : operand p c i (span p i - 1) z ≡ w = cc in same), _)

pub some_returned : (p : Plan) (c : Cycle) (i : ℕ) (body : TimedBody) (e : End) (w : ℕ) → leads_to p i e c ≡ ends (Some w) → leaves_as p c i (block body e) ≡ true
    → is_any_wanted (returned p c i (block body e)) ≡ true
some_returned p c i body (end.Jump n) w there left_ = absurd (cc)
some_returned p c i body (end.Branch test left right) w there left_ = absurd (cc)
some_returned p c i body (end.Choose cases other) w there left_ = absurd (cc)
some_returned p c i body (end.Return None) w there left_ = absurd (cc)
some_returned p c i body (end.Return (Some z)) w there left_ = or_left _ false left_

takes_result : (p : Plan) (i : ℕ) (end_ : End) (f : Flow) (x y : Contents) (c : Cycle) (w : ℕ) → Last p i end_ f x c → IsAfter p c y → leads_to p i end_ c ≡ ends (Some w)
    → y.regs Result ≡ w
takes_result p i end_ f x y c w l after there =
    let it : TimedNode = block (body_at p i) end_ in
    let each : (j : ℕ) (node : TimedNode) → slice_get p.program.nodes j ≡ Some node → AllWant (returned p c j node) w =
    by_node p i it (λ j node. AllWant (returned p c j node) w) l.block_.node (all_returned p c i (body_at p i) end_ w there)
    (λ j node other. none_want (returned p c j node) w (off_returned p c j node (others_inactive p i end_ f x c l j other))) in
    (after.regs Result).wanted w
    (some_of (λ (n : ℕ × TimedNode). returned p c n.0 n.1) 0 i p.program.nodes it l.block_.node
    (subst (λ (k : ℕ). is_any_wanted (returned p c k it) ≡ true) (zero_more i) (some_returned p c i (body_at p i) end_ w there (is_leaving p i end_ f x c l))))
    (all_of (λ (n : ℕ × TimedNode). returned p c n.0 n.1) 0 p.program.nodes w (λ j node e. subst (λ (k : ℕ). AllWant (returned p c k node) w) (zero_more j) (each j node e)))

-- ---- the whole

pub blocks_leave : BlocksLeave
blocks_leave p i end_ f x y pins b apart last r s step =
    let c : Cycle = in_cycle x step.signals pins in
    let l : Last p i end_ f x c = record { block_ = b; stands = s; same = refl; last = last } in
    let g : Flow = behind p i f in
    record {
      moves = goes p i end_ f x c l;
      outs = λ n out is kept.
          takes_out p i end_ f x y c n out l step.is_after apart is kept
          ∙ sym (taken_at (operand_at (body_at p i) g g.time) (body_at p i).outs g.entry n out is apart);
      others = λ v unset. keeps_variable p i end_ f x y c v l step.is_after unset;
      result = λ w there. takes_result p i end_ f x y c w l step.is_after there;
    }
