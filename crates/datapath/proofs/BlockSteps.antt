-- A block of simple operations goes on for one cycle.
use Rattle.std.proofs.Common.{◌≡◌, ◌≢◌, ℕ, suc, ◌+◌, ◌-◌, ◌*◌, ◌/◌, ◌%◌, ◌<◌, ◌≤◌, Bool, true, false, not, ◌&&◌, List, [], ◌∷◌, map, Option, Some, None, refl, sym, ap, ap₂, ◌∙◌, subst, inl, inr, mod-eq_of_lt, zero-mul, arith}
use Rattle.std.specs.Prelude.{◌==◌, ◌||◌, slice_get, find, flat_map, max, if◌then◌else◌}
use Rattle.std.proofs.lemmas.Nat.{div-mul-add}
use Rattle.std.proofs.lemmas.Bool.{and_from, and_left, and_right, or_from, or_left, ne_eqb, eq-eqb, eqb-true, cases_eq, cond-true, cond-false, lt-leb, lt-ltb, le-leb, and_parts}
use Rattle.hls_base.specs.declared.number.OpId.{OpId}
use Rattle.ir_core.specs.declared.body.Operand.{Operand}
use Rattle.ir_core.specs.declared.body.Source.{Source}
use Rattle.ir_core.specs.declared.body.Source.TheVariants as source
use Rattle.ir_core.specs.declared.cfg.End.{End}
use Rattle.ir_core.specs.Value.{value}
use Rattle.reg_binding.specs.declared.registers.Held.{Held}
use Rattle.ir_core.specs.Bodies.{Words, word, first_bits}
use Rattle.dep_graph.specs.Dependences.{maker_by, maker_of}
use Rattle.clock_ir.specs.Flows.{TimedOp, TimedBody, Flow, ready, ready_in, latency, is_at, place, pushed, held, operand_at, given, chain_behind, first_flow, tick}
use Rattle.clock_ir.specs.ClockRuns.{inside, node_step, clock_step}
use Rattle.datapath.specs.Plans.{Plan, Placed, body_at, span, numbered}
use Rattle.datapath.specs.Cycles.{Ready, Initial, Time, Active, Load, Variable, Value, Contents, Cycle, in_cycle, holds}
use Rattle.rtl_logic.specs.Choosing.{where_, is_any_wanted, AllWant}
use Rattle.datapath.specs.Reading.{at, at_iteration, has_passed, is_place, held_by, result_at, read_from, read_by, operand, arguments}
use Rattle.datapath.specs.Control.{is_loop}
use Rattle.datapath.specs.Values.{arriving_of, arriving, entry_of, is_alone, arrival, place_arrival, moves, entry_writes, moved, block_writes, loop_writes, held_writes, value_writes, argument_writes, kept_writes, out_writes}
use Rattle.datapath.specs.Circuits.{IsAfter}
use Rattle.datapath.specs.Standing.{IsInside}
use Rattle.datapath.specs.Blocks.{Reads, by_op, ReadsFrom, HasResult, IsSimpleBlock, HoldsFlow, BlocksStep, BlocksBegin}
use Rattle.datapath.proofs.Controller.{off, on, off_at, none_left_inside, stays_inside}
use Rattle.datapath.proofs.Writes.{NoneWanted, none_want, none_both, none_if, none_map, none_of, none_kept, all_kept, some_kept, found}
use Rattle.datapath.proofs.Simple.{one_cycle, arrives, performs}

-- ---- times

pub max_of : (n : ℕ) → 1 ≤ n → max 1 n ≡ n
max_of n h = omega arith

-- the place of a value that is read in its block
pub first_place : (w a t d : ℕ) → d ≡ 0 → a ≤ t → t < w → place w a t d ≡ 0
first_place w a t d none from h =
    let same : t + d * w - a ≡ t - a = let z : d * w ≡ 0 = ap (λ k. k * w) none ∙ zero-mul w in omega (arith, z) in
    ap (λ k. k / w) same ∙ below (t - a) w (omega (arith, h))
  where
    below : (n w : ℕ) → n < w → n / w ≡ 0
    below n w h = let e : n ≡ 0 * w + n = omega arith in ap (λ k. k / w) e ∙ div-mul-add 0 w n h

-- a time of the block has come where the counter shows it
pub at_time : (p : Plan) (c : Cycle) (i t s : ℕ) → c.regs (Active i) ≡ 1 → c.regs Time ≡ t → 1 < span p i → s < span p i → at p c i s ≡ (t == s)
at_time p c i t s active now long h =
    let small : s % span p i ≡ s = mod-eq_of_lt h in
    ap₂ (λ x y. x && (y || (c.regs Time == s % span p i))) (on c (Active i) active) (lt-leb (span p i) 1 long) ∙ ap₂ (λ x y. x == y) now small

-- ---- reading

abbrev pub entered_with : Flow → Words
entered_with f = record { variables = f.entry; memories = f.memories }

pub same_source : (p : Plan) (i : ℕ) (end_ : End) (f : Flow) (x : Contents) (c : Cycle) (y : Operand) (from : Source) → IsSimpleBlock p i end_ → HoldsFlow p i end_ f x
    → c.regs ≡ x.regs → f.time < (body_at p i).interval → Reads (body_at p i) end_ y f.time → y.value ≡ from
    → operand p c i f.time y ≡ operand_at (body_at p i) f f.time y
same_source p i end_ f x c y (source.Constant w) b s same short reads is =
    let none : maker_of (body_at p i).outs y ≡ None = ap₂ (maker_by (body_at p i).outs) (b.near y f.time reads) is in
    (ap (read_by p c i f.time y) none ∙ ap (read_from c) is) ∙ sym (ap (held (body_at p i) f f.time y) none ∙ ap (word (entered_with f) []) is)
same_source p i end_ f x c y (source.Variable v) b s same short reads is =
    let none : maker_of (body_at p i).outs y ≡ None = ap₂ (maker_by (body_at p i).outs) (b.near y f.time reads) is in
    let has : c.regs (Variable v.0) ≡ f.entry v.0 = ap (λ r. r (Variable v.0)) same ∙ s.variables v f.time (record { operand = y; reads = reads; is = is }) in
    (ap (read_by p c i f.time y) none ∙ (ap (read_from c) is ∙ has)) ∙ sym (ap (held (body_at p i) f f.time y) none ∙ ap (word (entered_with f) []) is)
same_source p i end_ f x c y (source.Result op) b s same short reads is =
    let made : maker_of (body_at p i).outs y ≡ Some op = ap₂ (maker_by (body_at p i).outs) (b.near y f.time reads) is in
    let r : ReadsFrom (body_at p i) end_ (source.Result op) f.time = record { operand = y; reads = reads; is = is } in
    let first : place (body_at p i).interval (ready (body_at p i) op) f.time y.distance ≡ 0 =
    first_place (body_at p i).interval (ready (body_at p i) op) f.time y.distance (b.near y f.time reads) (b.waits op f.time r) short in
    let h : HasResult p i op = b.has op f.time r in
    let stands : result_at p c i op.0 0 ≡ c.regs (Value h.held.register) = ap (held_by c) h.found in
    let has : c.regs (Value h.held.register) ≡ f.chain op.0 0 =
    ap (λ g. g (Value h.held.register)) same ∙ s.results op f.time h.held r (b.waits op f.time r) (omega arith) h.found in
    (ap (read_by p c i f.time y) made ∙ (ap (result_at p c i op.0) first ∙ (stands ∙ has))) ∙ sym (ap (held (body_at p i) f f.time y) made ∙ ap (f.chain op.0) first)

pub same_map : {A : Type 0} (f g : A → ℕ) (xs : List A) → ((n : ℕ) (a : A) → slice_get xs n ≡ Some a → f a ≡ g a) → map f xs ≡ map g xs
same_map f g [] h = refl
same_map f g (a ∷ xs) h = ap₂ (λ x l. x ∷ l) (h 0 a refl) (same_map f g xs (λ n b e. h (suc n) b e))

-- an operation that starts in this cycle gives what it gives in the clocked run
pub arriving_given : (p : Plan) (i : ℕ) (end_ : End) (f : Flow) (x : Contents) (c : Cycle) (k : ℕ) (it : TimedOp) → IsSimpleBlock p i end_ → HoldsFlow p i end_ f x → c.regs ≡ x.regs
    → f.time < (body_at p i).interval → slice_get (body_at p i).ops k ≡ Some it → it.start ≡ f.time → arriving p c i k ≡ given p.program.shapes (body_at p i) f it
arriving_given p i end_ f x c k it b s same short is now =
    let x0 : Placed = record { node = i; number = k; op = it } in
    let simple = b.simple k it is in
    let from : ℕ = first_bits p.program.shapes.widths (map (λ (o : TimedOp). o.op) (body_at p i).ops) it.op it.op.args in
    let reads : (n : ℕ) (y : Operand) → slice_get it.op.args n ≡ Some y → operand p c i it.start y ≡ operand_at (body_at p i) f it.start y = λ n y e.
    subst (λ t. operand p c i t y ≡ operand_at (body_at p i) f t y) (sym now)
    (same_source p i end_ f x c y y.value b s same short (subst (λ t. Reads (body_at p i) end_ y t) now (by_op k n it y is e)) refl) in
    let args : arguments p c x0 ≡ map (operand_at (body_at p i) f it.start) it.op.args = same_map _ _ it.op.args reads in
    ap (arriving_of p c i k) is ∙ (arrives it.op.kind p c x0 simple ∙ (ap (value it.op.kind it.op.signed it.op.bits from) args ∙ sym (performs it.op.kind p.program.shapes it.op _ from _ _ simple)))

-- ---- writes of other nodes

entry_off : (c : Cycle) (h : Held) (e : Option ℕ) → c.regs (Load h.node.0) ≡ 0 → NoneWanted (entry_writes c h e)
entry_off c h None off_ = refl
entry_off c h (Some v) off_ = none_if (h.place == 0) (where_ (holds c (Load h.node.0)) (c.regs (Variable v)) ∷ []) [] (or_from _ false (off c (Load h.node.0) off_) refl) refl

pub if_false : (b x y : Bool) → x ≡ false → y ≡ false → (if b then x else y) ≡ false
if_false true x y e f = e
if_false false x y e f = f

off_iteration : (p : Plan) (c : Cycle) (i t : ℕ) → c.regs (Active i) ≡ 0 → at_iteration p c i t ≡ false
off_iteration p c i t e = and_left _ (has_passed c (t / span p i)) (off_at p c i t e)

pub moves_off : (p : Plan) (c : Cycle) (h : Held) (e : Option ℕ) → c.regs (Active h.node.0) ≡ 0 → moves p c h e ≡ false
moves_off p c h None off_ =
    if_false (is_alone p h) (at p c h.node.0 (arrival p h)) (at_iteration p c h.node.0 (place_arrival p h 0)) (off_at p c h.node.0 (arrival p h) off_) (off_iteration p c h.node.0 (place_arrival p h 0) off_)
moves_off p c h (Some v) off_ =
    if_false (is_alone p h && not (h.place == 0)) (at p c h.node.0 (arrival p h)) (at_iteration p c h.node.0 (place_arrival p h 1)) (off_at p c h.node.0 (arrival p h) off_)
    (off_iteration p c h.node.0 (place_arrival p h 1) off_)

-- a node that is not under way writes no result
pub other_node : (p : Plan) (c : Cycle) (h : Held) → c.regs (Active h.node.0) ≡ 0 → c.regs (Load h.node.0) ≡ 0 → NoneWanted (held_writes p c h)
other_node p c h inactive unloaded =
    none_if (is_loop (slice_get p.program.nodes h.node.0)) (loop_writes p c h) (block_writes p c h)
    (none_both (entry_writes c h (entry_of p h)) (where_ (moves p c h (entry_of p h)) (moved p c h h.place) ∷ []) (entry_off c h (entry_of p h) unloaded)
    (or_from (moves p c h (entry_of p h)) false (moves_off p c h (entry_of p h) inactive) refl))
    (or_from (at p c h.node.0 (arrival p h)) false (off_at p c h.node.0 (arrival p h) inactive) refl)

-- ---- the block's own writes

-- what holds in the cycle
record InBlock (p : Plan) (i : ℕ) (end_ : End) (f : Flow) (x : Contents) (c : Cycle) : Type 0 where
  block_ : IsSimpleBlock p i end_
  stands : HoldsFlow p i end_ f x
  same : c.regs ≡ x.regs
  goes_on : f.time + 1 < (body_at p i).interval

reg : (p : Plan) (i : ℕ) (end_ : End) (f : Flow) (x : Contents) (c : Cycle) (b : InBlock p i end_ f x c) (n : ℕ) → c.regs (Active n) ≡ x.regs (Active n)
reg p i end_ f x c b n = ap (λ r. r (Active n)) b.same

is_span : (p : Plan) (i : ℕ) (end_ : End) (f : Flow) (x : Contents) (c : Cycle) → InBlock p i end_ f x c → span p i ≡ (body_at p i).interval
is_span p i end_ f x c b = max_of (body_at p i).interval (let h = b.goes_on in omega (arith, h))

-- the result of a simple operation is there in the cycle behind its start
pub ready_behind : (p : Plan) (i : ℕ) (end_ : End) (op : OpId) (it : TimedOp) → IsSimpleBlock p i end_ → slice_get (body_at p i).ops op.0 ≡ Some it → ready (body_at p i) op ≡ it.start + 1
ready_behind p i end_ op it b is = ap ready_in is ∙ ap (λ n. it.start + n) (one_cycle it.op.kind it.op.bits (b.simple op.0 it is))

-- the write of a result of the block
own_write : (p : Plan) (i : ℕ) (end_ : End) (f : Flow) (x : Contents) (c : Cycle) (h : Held) (it : TimedOp) → InBlock p i end_ f x c → h.node.0 ≡ i
    → slice_get (body_at p i).ops h.op.0 ≡ Some it → held_writes p c h ≡ where_ (f.time == it.start) (arriving p c i h.op.0) ∷ []
own_write p i end_ f x c h it b here is =
    let no_loop : is_loop (slice_get p.program.nodes h.node.0) ≡ false = ap (λ k. is_loop (slice_get p.program.nodes k)) here ∙ ap is_loop b.block_.node in
    let wide : span p i ≡ (body_at p i).interval = is_span p i end_ f x c b in
    let short : it.start < (body_at p i).interval = b.block_.within h.op.0 it is in
    let more = b.goes_on in
    let arrival_is : arrival p h ≡ it.start =
    ap (λ k. ready (body_at p k) h.op - 1) here ∙ (ap (λ n. n - 1) (ready_behind p i end_ h.op it b.block_ is) ∙ (let e : it.start + 1 - 1 ≡ it.start = omega arith in e)) in
    let active : c.regs (Active i) ≡ 1 = ap (λ r. r (Active i)) b.same ∙ b.stands.inside.active in
    let now : c.regs Time ≡ f.time = ap (λ r. r Time) b.same ∙ b.stands.inside.time in
    let when : at p c h.node.0 (arrival p h) ≡ (f.time == it.start) =
    ap₂ (λ k t. at p c k t) here arrival_is ∙ at_time p c i f.time it.start active now (omega (arith, wide, more)) (omega (arith, wide, short)) in
    cond-false _ _ _ no_loop ∙ ap₂ (λ w v. where_ w v ∷ []) when (ap (λ k. arriving p c k h.op.0) here)

-- not in another cycle than that of its start
own_off : (p : Plan) (i : ℕ) (end_ : End) (f : Flow) (x : Contents) (c : Cycle) (h : Held) (it : TimedOp) → InBlock p i end_ f x c → h.node.0 ≡ i
    → slice_get (body_at p i).ops h.op.0 ≡ Some it → f.time ≢ it.start → NoneWanted (held_writes p c h)
own_off p i end_ f x c h it b here is other =
    subst NoneWanted (sym (own_write p i end_ f x c h it b here is)) (or_from (f.time == it.start) false (ne_eqb f.time it.start other) refl)

-- of node i or not, a register that another result of the block has is not taken while this one is read
rival_off : (p : Plan) (i : ℕ) (end_ : End) (f : Flow) (x : Contents) (c : Cycle) (n m : ℕ) (g h : Held) (time : ℕ) → InBlock p i end_ f x c → slice_get p.held n ≡ Some g
    → slice_get p.held m ≡ Some h → g.node.0 ≡ i → h.node.0 ≡ i → g.register ≡ h.register → g.op.0 ≢ h.op.0 → ReadsFrom (body_at p i) end_ (source.Result h.op) time
    → ready (body_at p i) h.op ≤ f.time + 1 → f.time + 1 ≤ time → NoneWanted (held_writes p c g)
rival_off p i end_ f x c n m g h time b at_g at_h here there same differ r from until =
    let real = b.block_.real n g at_g here in
    let it : TimedOp = real.0 in
    let behind : ready (body_at p i) g.op ≡ it.start + 1 = ready_behind p i end_ g.op it b.block_ real.1 in
    own_off p i end_ f x c g it b here real.1 (λ e.
    elim (b.block_.apart n m g h time at_g at_h here there same differ r) [
      | inl sooner ↦ omega (arith, sooner, behind, e, from)
      | inr later ↦ omega (arith, later, behind, e, until)
    ])

-- ---- a result at the edge

record IsRead (p : Plan) (i : ℕ) (end_ : End) (op : OpId) (h : Held) (f : Flow) (time : ℕ) : Type 0 where
  read : ReadsFrom (body_at p i) end_ (source.Result op) time
  from : ready (body_at p i) op ≤ f.time + 1
  until : f.time + 1 ≤ time
  has : find (is_place i op.0 0) p.held ≡ Some h

record Place (p : Plan) (i : ℕ) (op : OpId) (h : Held) : Type 0 where
  number : ℕ
  stands : slice_get p.held number ≡ Some h
  node : h.node.0 ≡ i
  op_ : h.op.0 ≡ op.0

place_of : (p : Plan) (i : ℕ) (op : OpId) (h : Held) → find (is_place i op.0 0) p.held ≡ Some h → Place p i op h
place_of p i op h e =
    let d = found (is_place i op.0 0) p.held h e in
    let parts = and_parts (h.node.0 == i) ((h.op.0 == op.0) && (h.place == 0)) d.passes in
    let others = and_parts (h.op.0 == op.0) (h.place == 0) parts.1 in
    record { number = d.place; stands = d.stands; node = eqb-true h.node.0 i parts.0; op_ = eqb-true h.op.0 op.0 others.0 }

abbrev op_number : ℕ → OpId
op_number n = record { 0 = n }

same_op : (a b : OpId) → a.0 ≡ b.0 → a ≡ b
same_op a b e = ap op_number e

-- the registers of the block that are not this one's
others_off : (p : Plan) (i : ℕ) (end_ : End) (f : Flow) (x : Contents) (c : Cycle) (g : Held) → InBlock p i end_ f x c → g.node.0 ≢ i → NoneWanted (held_writes p c g)
others_off p i end_ f x c g b other =
    other_node p c g (ap (λ r. r (Active g.node.0)) b.same ∙ b.stands.inside.others g.node.0 other) (ap (λ r. r (Load g.node.0)) b.same ∙ b.stands.inside.load g.node.0)

-- the result comes now: its register takes it
comes : (p : Plan) (i : ℕ) (end_ : End) (f : Flow) (x y : Contents) (c : Cycle) (op : OpId) (h : Held) (time : ℕ) (it : TimedOp) → InBlock p i end_ f x c → IsAfter p c y
    → IsRead p i end_ op h f time → slice_get (body_at p i).ops op.0 ≡ Some it → f.time ≡ it.start → y.regs (Value h.register) ≡ arriving p c i op.0
comes p i end_ f x y c op h time it b after r is now =
    let d = place_of p i op h r.has in
    let is_h : slice_get (body_at p i).ops h.op.0 ≡ Some it = ap (slice_get (body_at p i).ops) d.op_ ∙ is in
    let mine : (g : Held) → g.node.0 ≡ i → g.op.0 ≡ op.0 → held_writes p c g ≡ where_ (f.time == it.start) (arriving p c i op.0) ∷ [] = λ g here e.
    own_write p i end_ f x c g it b here (ap (slice_get (body_at p i).ops) e ∙ is) ∙ ap (λ k. where_ (f.time == it.start) (arriving p c i k) ∷ []) e in
    let wanted : is_any_wanted (held_writes p c h) ≡ true = ap is_any_wanted (mine h d.node d.op_) ∙ or_left (f.time == it.start) false (eq-eqb f.time it.start now) in
    let some : is_any_wanted (value_writes p c h.register) ≡ true =
    some_kept (held_writes p c) (λ (g : Held). g.register == h.register) d.number p.held h d.stands (eq-eqb h.register h.register refl) wanted in
    let all : AllWant (value_writes p c h.register) (arriving p c i op.0) =
    all_kept (held_writes p c) (λ (g : Held). g.register == h.register) p.held (arriving p c i op.0) (λ n g at_g passes.
    elim (cases_eq g.node.0 i) [
      | inr other ↦ none_want (held_writes p c g) (arriving p c i op.0) (others_off p i end_ f x c g b other)
      | inl here ↦
          elim (cases_eq g.op.0 op.0) [
            | inl e ↦ subst (λ l. AllWant l (arriving p c i op.0)) (sym (mine g here e)) ((λ w. refl), _)
            | inr differ ↦
                none_want (held_writes p c g) (arriving p c i op.0)
                (rival_off p i end_ f x c n d.number g h time b at_g d.stands here d.node (eqb-true g.register h.register passes) (λ e. differ (e ∙ d.op_))
                (subst (λ o. ReadsFrom (body_at p i) end_ (source.Result o) time) (sym (same_op h.op op d.op_)) r.read)
                (subst (λ o. ready (body_at p i) o ≤ f.time + 1) (sym (same_op h.op op d.op_)) r.from) r.until)
          ]
    ]) in
    (after.regs (Value h.register)).wanted (arriving p c i op.0) some all

-- the result is there: its register keeps it
stays_there : (p : Plan) (i : ℕ) (end_ : End) (f : Flow) (x y : Contents) (c : Cycle) (op : OpId) (h : Held) (time : ℕ) (it : TimedOp) → InBlock p i end_ f x c → IsAfter p c y
    → IsRead p i end_ op h f time → slice_get (body_at p i).ops op.0 ≡ Some it → f.time ≢ it.start → y.regs (Value h.register) ≡ c.regs (Value h.register)
stays_there p i end_ f x y c op h time it b after r is other_time =
    let d = place_of p i op h r.has in
    let none : NoneWanted (value_writes p c h.register) =
    none_kept (held_writes p c) (λ (g : Held). g.register == h.register) p.held (λ n g at_g passes.
    elim (cases_eq g.node.0 i) [
      | inr other ↦ others_off p i end_ f x c g b other
      | inl here ↦
          elim (cases_eq g.op.0 op.0) [
            | inl e ↦ own_off p i end_ f x c g it b here (ap (slice_get (body_at p i).ops) e ∙ is) other_time
            | inr differ ↦
                rival_off p i end_ f x c n d.number g h time b at_g d.stands here d.node (eqb-true g.register h.register passes) (λ e. differ (e ∙ d.op_))
                (subst (λ o. ReadsFrom (body_at p i) end_ (source.Result o) time) (sym (same_op h.op op d.op_)) r.read)
                (subst (λ o. ready (body_at p i) o ≤ f.time + 1) (sym (same_op h.op op d.op_)) r.from) r.until
          ]
    ]) in
    (after.regs (Value h.register)).else_ none

-- ---- the clocked run

pub chain_comes : (p : Plan) (i : ℕ) (f : Flow) (k : ℕ) (it : TimedOp) → f.time < (body_at p i).interval → latency it ≡ 1 → f.time ≡ it.start
    → chain_behind p.program.shapes (body_at p i) f k (Some it) 0 ≡ given p.program.shapes (body_at p i) f it
chain_comes p i f k it short one now =
    let w : ℕ = (body_at p i).interval in
    let g : ℕ = given p.program.shapes (body_at p i) f it in
    let there : suc f.time ≡ it.start + latency it = omega (arith, one, now) in
    let none : suc f.time - (it.start + latency it) ≡ 0 = omega (arith, there) in
    let turn : (suc f.time - (it.start + latency it)) % w ≡ 0 = ap (λ n. n % w) none ∙ mod-eq_of_lt (omega (arith, short)) in
    let now_ : is_at w (it.start + latency it) (suc f.time) ≡ true = and_from _ _ (le-leb _ _ (omega (arith, there))) (eq-eqb _ 0 turn) in
    ap (λ (l : ℕ → ℕ). l 0) (cond-true _ _ _ now_) ∙ ap (λ n. pushed g (f.under_way k) (n - 1)) one

pub chain_stays : (p : Plan) (i : ℕ) (f : Flow) (k : ℕ) (it : TimedOp) → f.time < (body_at p i).interval → latency it ≡ 1 → it.start < f.time
    → chain_behind p.program.shapes (body_at p i) f k (Some it) 0 ≡ f.chain k 0
chain_stays p i f k it short one before =
    let w : ℕ = (body_at p i).interval in
    let small : (suc f.time - (it.start + latency it)) % w ≡ suc f.time - (it.start + latency it) = mod-eq_of_lt (omega (arith, short, one)) in
    let not_now : is_at w (it.start + latency it) (suc f.time) ≡ false = and_right _ _ (ne_eqb ((suc f.time - (it.start + latency it)) % w) 0 (λ e. omega (arith, e, small, one, before))) in
    ap (λ (l : ℕ → ℕ). l 0) (cond-false _ _ _ not_now)

pub ticked_chain : (p : Plan) (i : ℕ) (f : Flow) (k : ℕ) (it : TimedOp) → slice_get (body_at p i).ops k ≡ Some it
    → (tick p.program.shapes (body_at p i) f).chain k 0 ≡ chain_behind p.program.shapes (body_at p i) f k (Some it) 0
unfolding tick
ticked_chain p i f k it is = ap (λ o. chain_behind p.program.shapes (body_at p i) f k o 0) is

pub ticked_time : (p : Plan) (i : ℕ) (f : Flow) → (tick p.program.shapes (body_at p i) f).time ≡ f.time + 1
unfolding tick
ticked_time p i f = omega arith

pub ticked_entry : (p : Plan) (i : ℕ) (f : Flow) (v : ℕ) → (tick p.program.shapes (body_at p i) f).entry v ≡ f.entry v
unfolding tick
ticked_entry p i f v = refl

-- ---- variables

variable_stays : (p : Plan) (i : ℕ) (end_ : End) (f : Flow) (x y : Contents) (c : Cycle) (v : ℕ) → InBlock p i end_ f x c → IsAfter p c y → y.regs (Variable v) ≡ c.regs (Variable v)
variable_stays p i end_ f x y c v b after =
    let s = b.stands.inside in
    let unready : holds c Ready ≡ false = off c Ready (ap (λ r. r Ready) b.same ∙ s.busy.ready) in
    let uninitial : holds c Initial ≡ false = off c Initial (ap (λ r. r Initial) b.same ∙ s.busy.initial) in
    let wide = is_span p i end_ f x c b in
    let more = b.goes_on in
    let none = none_left_inside p c i f.time (body_at p i) end_ b.block_.node (omega (arith, wide, more)) (ap (λ r. r Time) b.same ∙ s.time)
    (λ j other. ap (λ r. r (Active j)) b.same ∙ s.others j other) in
    let outs : NoneWanted (flat_map (out_writes p c v) (numbered p)) =
    none_of (out_writes p c v) 0 p.program.nodes (λ j node at_.
    let zero_more : j ≡ 0 + j = omega arith in
    subst (λ (k : ℕ). NoneWanted (out_writes p c v (k, node))) zero_more (none_if (p.savings.behind j v) _ [] (none_map _ _ (λ o. none j node at_)) refl)) in
    (after.regs (Variable v)).else_
    (none_both (argument_writes p c v) _ (none_map _ _ (λ q. and_left _ _ unready)) (none_both (kept_writes p c v) _ (none_map _ _ (λ q. uninitial)) outs))

-- ---- one cycle

pub blocks_step : BlocksStep
blocks_step p i end_ f x y pins b short r s step =
    let body : TimedBody = body_at p i in
    let c : Cycle = in_cycle x step.signals pins in
    let after = step.is_after in
    let inb : InBlock p i end_ f x c = record { block_ = b; stands = s; same = refl; goes_on = short } in
    let wide : span p i ≡ body.interval = is_span p i end_ f x c inb in
    let long : f.time + 1 < span p i = omega (arith, wide, short) in
    let next : IsInside i (f.time + 1) y = stays_inside p i f.time body end_ x y pins b.counts b.node long r s.inside step in
    let moves_on : clock_step p.program (inside i f) ≡ inside i (tick p.program.shapes body f) =
    ap (node_step p.program.shapes p.program.nodes i f) b.node ∙ cond-true _ _ _ (lt-ltb (f.time + 1) body.interval short) in (
      moves_on,
      record {
        inside = subst (λ t. IsInside i t y) (sym (ticked_time p i f)) next;
        variables = λ v time read. variable_stays p i end_ f x y c v.0 inb after ∙ (s.variables v time read ∙ sym (ticked_entry p i f v.0));
        results = λ op time h read from until has.
            let d : HasResult p i op = b.has op time read in
            let t = ticked_time p i f in
            let e : IsRead p i end_ op h f time = record { read = read; from = omega (arith, from, t); until = omega (arith, until, t); has = has } in
            let one = one_cycle d.it.op.kind d.it.op.bits (b.simple op.0 d.it d.is) in
            let there = ready_behind p i end_ op d.it b d.is in
            elim (cases_eq f.time d.it.start) [
              | inl now ↦
                  comes p i end_ f x y c op h time d.it inb after e d.is now
                  ∙ (arriving_given p i end_ f x c op.0 d.it b s refl (omega (arith, short)) d.is (sym now)
                  ∙ sym (ticked_chain p i f op.0 d.it d.is ∙ chain_comes p i f op.0 d.it (omega (arith, short)) one now))
              | inr other ↦
                  stays_there p i end_ f x y c op h time d.it inb after e d.is other
                  ∙ (s.results op time h read (omega (arith, from, t, there, other)) (omega (arith, until, t)) has
                  ∙ sym (ticked_chain p i f op.0 d.it d.is ∙ chain_stays p i f op.0 d.it (omega (arith, short)) one (omega (arith, from, t, there, other))))
            ];
      },
    )

-- ---- the first cycle

-- no result is there as a block begins
pub blocks_begin : BlocksBegin
unfolding first_flow
blocks_begin p i end_ t x b first same = record {
  inside = first;
  variables = same;
  results = λ op time h read from until has. absurd (let d = b.has op time read in let there = ready_behind p i end_ op d.it b d.is in omega (arith, from, there));
}
