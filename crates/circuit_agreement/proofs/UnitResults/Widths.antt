-- What is divided, and by what, fits the divider.
use Rattle.std.proofs.Common.{◌≡◌, ℕ, zero, suc, ◌+◌, ◌-◌, ◌/◌, ◌^◌, ◌<◌, ◌≤◌, Bool, true, false, max, List, [], ◌∷◌, map, length, Option, Some, None, refl, sym, ap, ◌∙◌, subst, inl, inr, pow_pos, pow_mono, arith}
use Rattle.std.specs.Prelude.{slice_get, slice_index, get_or, ◌==◌, ◌&&◌, nat_le, if◌then◌else◌, find, filter}
use Rattle.std.specs.List.{zip, Contains, range_with_len}
use Rattle.std.specs.List.Sorted.{IsPermutation}
use Rattle.std.proofs.lemmas.Bool.{cases_Bool, and_parts, cond-true, cond-false, eqb-true}
use Rattle.std.proofs.lemmas.List.Sorted.{IsPermutation-sym, Contains-permutation}
use Rattle.std.proofs.lemmas.Option.{slice_get_within, slice_get-get_or, get_or_from_slice_get}
use Rattle.hls_base.specs.declared.number.OpId.{OpId}
use Rattle.ir_core.specs.declared.body.Op.{Op}
use Rattle.ir_core.specs.declared.body.Operand.{Operand}
use Rattle.ir_core.specs.declared.body.Out.{Out}
use Rattle.ir_core.specs.declared.body.Source.{Source}
use Rattle.ir_core.specs.declared.body.Source.TheVariants as source
use Rattle.ir_core.specs.declared.cfg.Node.{Node}
use Rattle.ir_core.specs.declared.cfg.Node.TheVariants as node
use Rattle.ir_core.specs.Timing.{result_bits}
use Rattle.ir_core.specs.declared.timed.Timed.{Timed}
use Rattle.reg_binding.specs.Liveness.{summary_of, is_behind}
use Rattle.dep_graph.specs.Dependences.{maker_of}
use Rattle.reg_binding.specs.declared.life.Life.{Life}
use Rattle.reg_binding.specs.declared.life.Read.{Read}
use Rattle.reg_binding.specs.declared.registers.Held.{Held}
use Rattle.reg_binding.specs.Lives.{ready, block_reads, loop_reads, last_read, block_life, lives_from, place_life, with_entry, is_taken_over, chain_life, chain_lives, node_lives, node_period}
use Rattle.reg_binding.specs.Sharing.{life_at, no_life}
use Rattle.reg_binding.specs.Assigned.{row, is_of, AreRows}
use Rattle.clock_ir.specs.Flows.{TimedOp, TimedBody, timed_op, place, ready as ready_of}
use Rattle.clock_ir.specs.ClockRuns.{TimedNode, timed_node}
use Rattle.clock_runs.proofs.Lists.{no_some, some_same}
use Rattle.datapath.specs.Plans.{Plan, body_of, body_at}
use Rattle.datapath.specs.Cycles.{Variable, Value, Contents, Signal, Cycle, in_cycle}
use Rattle.datapath.specs.Reading.{is_place, held_by, read_from, read_by, operand}
use Rattle.circuit_agreement.specs.CircuitFlow.Compiled.{SourceFits, OperandFits, IsCompiled}
use Rattle.circuit_agreement.proofs.Nodes.{node_of, body_found}
use Rattle.circuit_agreement.specs.UnitResults.{HasWidths}
use Rattle.circuit_agreement.proofs.UnitResults.Lists.{Passes, in_filter, Mapped, from_map, from_both}

-- ---- lists

find_in : {A : Type 0} (test : A → Bool) (xs : List A) (a : A) → find test xs ≡ Some a → Passes test xs a
find_in test [] a e = absurd (no_some e)
find_in test (b ∷ xs) a e =
    elim (cases_Bool (test b)) [
      | inl yes_ ↦
          let same : b ≡ a = some_same (sym (cond-true _ (Some b) (find test xs) yes_) ∙ e) in
          record { place = 0; stands = ap Some same; passes = ap test (sym same) ∙ yes_ }
      | inr no_ ↦ let r = find_in test xs a (sym (cond-false _ (Some b) (find test xs) no_) ∙ e) in record { place = suc r.place; stands = r.stands; passes = r.passes }
    ]

pairs : {A B : Type 0} (xs : List A) (ys : List B) (n : ℕ) (x : A × B) → slice_get (zip xs ys) n ≡ Some x → (slice_get xs n ≡ Some x.0) × (slice_get ys n ≡ Some x.1)
pairs [] ys n x e = absurd (no_some e)
pairs (a ∷ xs) [] n x e = absurd (no_some e)
pairs {A} {B} (a ∷ xs) (b ∷ ys) zero x e = let same : (a, b) ≡ x = some_same e in (ap (λ (z : A × B). Some z.0) same, ap (λ (z : A × B). Some z.1) same)
pairs (a ∷ xs) (b ∷ ys) (suc n) x e = pairs xs ys n x e

-- ---- the widths of lives

record HasWidth (ops : List (Op Timed)) (k : ℕ) (life : Life) : Type 0 where
  op : Op Timed
  there : slice_get ops k ≡ Some op
  is : life.op ≡ k
  width : life.width ≡ result_bits op.kind op.bits

record IsLifeOf (k : ℕ) (op : Op Timed) (life : Life) : Type 0 where
  is : life.op ≡ k
  width : life.width ≡ result_bits op.kind op.bits

abbrev whole_life : ℕ → Op Timed → ℕ → Life
whole_life k op last = record { first = ready op; op = k; place = 0; width = result_bits op.kind op.bits; start = ready op; length = last - ready op + 1; entry = 0 }

block_lives_so : (k : ℕ) (op : Op Timed) (last : Option ℕ) (n : ℕ) (life : Life) → slice_get (block_life k op last) n ≡ Some life → IsLifeOf k op life
block_lives_so k op None n life e = absurd (no_some e)
block_lives_so k op (Some last) n life e = on (nat_le (ready op) last) n e
  where
    on : (b : Bool) (n : ℕ) → slice_get (if b then whole_life k op last ∷ [] else []) n ≡ Some life → IsLifeOf k op life
    on true zero h = let same : whole_life k op last ≡ life = some_same h in record { is = ap (λ (l : Life). l.op) (sym same); width = ap (λ (l : Life). l.width) (sym same) }
    on true (suc n) h = absurd (no_some h)
    on false n h = absurd (no_some h)

with_entry_so : (period k : ℕ) (op : Op Timed) (life : Life) → IsLifeOf k op life → IsLifeOf k op (with_entry period life)
with_entry_so period k op life h = on (life.place == 0)
  where
    on : (b : Bool)
        → IsLifeOf k op
        (if b
        then record life { first = 0; entry = max 1 (life.start + life.length - period) }
        else record life { first = life.start - period; start = life.start - period })
    on true = record { is = h.is; width = h.width }
    on false = record { is = h.is; width = h.width }

chain_life_so : (outs : List Out) (period k : ℕ) (op : Op Timed) (last n : ℕ) → IsLifeOf k op (chain_life outs period k op last n)
chain_life_so outs period k op last n = on (is_taken_over outs k)
  where
    plain : IsLifeOf k op (place_life period k op last n)
    plain = record { is = refl; width = refl }

    on : (b : Bool) → IsLifeOf k op (if b then with_entry period (place_life period k op last n) else place_life period k op last n)
    on true = with_entry_so period k op (place_life period k op last n) plain
    on false = plain

chain_lives_so : (outs : List Out) (period k : ℕ) (op : Op Timed) (last : Option ℕ) (n : ℕ) (life : Life) → slice_get (chain_lives outs period k op last) n ≡ Some life → IsLifeOf k op life
chain_lives_so outs period k op None n life e = absurd (no_some e)
chain_lives_so outs period k op (Some last) n life e = on (nat_le (ready op) last) e
  where
    on : (b : Bool) → slice_get (if b then map (chain_life outs period k op last) (range_with_len 0 ((last - ready op) / period + 1)) else []) n ≡ Some life → IsLifeOf k op life
    on true h =
        let m = from_map (chain_life outs period k op last) (range_with_len 0 ((last - ready op) / period + 1)) n life h in
        subst (IsLifeOf k op) m.is (chain_life_so outs period k op last m.from)
    on false h = absurd (no_some h)

lives_so : (lives_of : ℕ → Op Timed → Option ℕ → List Life) (reads : List Read) → ((k : ℕ) (op : Op Timed) (last : Option ℕ) (n : ℕ) (life : Life) → slice_get (lives_of k op last) n ≡ Some life → IsLifeOf k op life)
    → (k : ℕ) (ops : List (Op Timed)) (n : ℕ) (life : Life) → slice_get (lives_from lives_of reads k ops) n ≡ Some life → (j : ℕ) × ((op : Op Timed) × ((slice_get ops j ≡ Some op) × IsLifeOf (k + j) op life))
lives_so lives_of reads so k [] n life e = absurd (no_some e)
lives_so lives_of reads so k (op ∷ ops) n life e =
    elim (from_both (lives_of k op (last_read reads k)) (lives_from lives_of reads (suc k) ops) n life e) [
      | inl l ↦ (0, (op, (refl, subst (λ (j : ℕ). IsLifeOf j op life) (let z : k ≡ k + 0 = omega arith in z) (so k op (last_read reads k) l.place life l.stands))))
      | inr r ↦
          let h = lives_so lives_of reads so (suc k) ops r.place life r.stands in
          (suc h.0, (h.1.0, (h.1.1.0, subst (λ (j : ℕ). IsLifeOf j h.1.0 life) (let z : suc k + h.0 ≡ k + suc h.0 = omega arith in z) h.1.1.1)))
    ]

abbrev ops_of : Node Timed → List (Op Timed)
ops_of (node.Plain b) = b.body.ops.items
ops_of (node.Looped r) = r.body.ops.items

widths_of : (ops : List (Op Timed)) (life : Life) → (j : ℕ) × ((op : Op Timed) × ((slice_get ops j ≡ Some op) × IsLifeOf (0 + j) op life)) → HasWidth ops life.op life
widths_of ops life h =
    let is_ : life.op ≡ h.0 = h.1.1.1.is ∙ (let z : 0 + h.0 ≡ h.0 = omega arith in z) in
    record { op = h.1.0; there = ap (slice_get ops) is_ ∙ h.1.1.0; is = refl; width = h.1.1.1.width }

node_lives_so : (behind : ℕ → Bool) (t : Node Timed) (n : ℕ) (life : Life) → slice_get (node_lives behind t) n ≡ Some life → HasWidth (ops_of t) life.op life
node_lives_so behind (node.Plain b) n life e = widths_of b.body.ops.items life (lives_so block_life (block_reads behind b) block_lives_so 0 b.body.ops.items n life e)
node_lives_so behind (node.Looped r) n life e =
    widths_of r.body.ops.items life (lives_so (chain_lives r.body.outs.items (max 1 r.ii)) (loop_reads behind r) (chain_lives_so r.body.outs.items (max 1 r.ii)) 0 r.body.ops.items n life e)

ops_are : (t : Node Timed) → map timed_op (ops_of t) ≡ (body_of (timed_node t)).ops
ops_are (node.Plain b) = refl
ops_are (node.Looped r) = refl

-- ---- registers of results

record Register (p : Plan) (i k : ℕ) (h : Held) : Type 0 where
  it : TimedOp
  is : slice_get (body_at p i).ops k ≡ Some it
  width : slice_index p.widths h.register ≡ result_bits it.op.kind it.op.bits

-- the life of the value that a row tells
record LifeOf (lives : List Life) (widths : List ℕ) (h : Held) : Type 0 where
  life : Life
  place : ℕ
  is : slice_get lives place ≡ Some life
  op : life.op ≡ h.op.0
  width : slice_index widths h.register ≡ life.width

life_in : (lives order : List Life) (life : Life) (n : ℕ) → IsPermutation lives order → slice_get order n ≡ Some life → (m : ℕ) × (slice_get lives m ≡ Some life)
life_in lives order life n same e =
    let there : Contains order life = (n, slice_get_within order n life e, get_or_from_slice_get order n life life e) in
    let c : Contains lives life = Contains-permutation order lives life (IsPermutation-sym lives order same) there in
    (c.0, slice_get-get_or lives c.0 life c.1 ∙ ap Some c.2)

life_of : (i : ℕ) (lives : List Life) (period : Option ℕ) (widths : List ℕ) (rows : List Held) (n : ℕ) (h : Held) → AreRows i lives period widths rows → slice_get rows n ≡ Some h
    → LifeOf lives widths h
life_of i lives period widths rows n h r e =
    let m : Mapped (row i) (zip r.order r.choices) n h = from_map (row i) (zip r.order r.choices) n h (ap (λ (l : List Held). slice_get l n) (sym r.rows_) ∙ e) in
    told m.from m.there m.is
  where
    told : (x : Life × ℕ) → slice_get (zip r.order r.choices) n ≡ Some x → row i x ≡ h → LifeOf lives widths h
    told x at_ is_ =
        let both = pairs r.order r.choices n x at_ in
        let within : n < length r.order = slice_get_within r.order n x.0 both.0 in
        let found = life_in lives r.order x.0 n r.same both.0 in
        let chosen : h.register ≡ slice_index r.choices n = sym (ap (λ (z : Held). z.register) is_) ∙ sym (get_or_from_slice_get r.choices n x.1 0 both.1) in
        let life_is : life_at r.order n ≡ x.0 = get_or_from_slice_get r.order n x.0 no_life both.0 in
        record {
          life = x.0;
          place = found.0;
          is = found.1;
          op = ap (λ (z : Held). z.op.0) is_;
          width = ap (slice_index widths) chosen ∙ (r.shared.fits n within ∙ ap (λ (l : Life). l.width) life_is);
        }

mapped : {A B : Type 0} (f : A → B) (xs : List A) (n : ℕ) (a : A) → slice_get xs n ≡ Some a → slice_get (map f xs) n ≡ Some (f a)
mapped f [] n a e = absurd (no_some e)
mapped f (x ∷ xs) zero a e = ap (λ z. Some (f z)) (some_same e)
mapped f (x ∷ xs) (suc n) a e = mapped f xs n a e

-- so its register has the width of the result
register_of : (p : Plan) (i k : ℕ) (n : TimedNode) (t : Node Timed) (behind : ℕ → Bool) (h : Held) → slice_get p.program.nodes i ≡ Some n → timed_node t ≡ n → h.op.0 ≡ k
    → LifeOf (node_lives behind t) p.widths h → Register p i k h
register_of p i k n t behind h at_node is_node op_ l =
    let w : HasWidth (ops_of t) l.life.op l.life = node_lives_so behind t l.place l.life l.is in
    let there : slice_get (ops_of t) k ≡ Some w.op = ap (slice_get (ops_of t)) (sym (l.op ∙ op_)) ∙ w.there in
    let body_ : body_at p i ≡ body_of (timed_node t) = body_found p i n at_node ∙ ap body_of (sym is_node) in
    record {
      it = timed_op w.op;
      is = ap (λ (b : TimedBody). slice_get b.ops k) body_ ∙ (ap (λ (ops : List TimedOp). slice_get ops k) (sym (ops_are t)) ∙ mapped timed_op (ops_of t) k w.op there);
      width = l.width ∙ w.width;
    }

held_width : (p : Plan) (c : IsCompiled p) (i k j : ℕ) (n : TimedNode) (h : Held) → slice_get p.program.nodes i ≡ Some n → find (is_place i k j) p.held ≡ Some h → Register p i k h
held_width p c i k j n h at_node e =
    let o = node_of p c i n at_node in
    let behind : ℕ → Bool = is_behind c.live (summary_of o.timed) in
    let held_ : p.held ≡ c.registers.held.items = ap (λ (q : Plan). q.held) c.plan in
    let widths_ : c.registers.widths.items ≡ p.widths = ap (λ (q : Plan). q.widths) (sym c.plan) in
    let d = find_in (is_place i k j) p.held h e in
    let parts = and_parts (h.node.0 == i) ((h.op.0 == k) && (h.place == j)) d.passes in
    let kept = in_filter (is_of i) c.registers.held.items d.place h (ap (λ (l : List Held). slice_get l d.place) (sym held_) ∙ d.stands) parts.0 in
    let rows = c.assigned.rows i o.timed (slice_get_within c.timed.nodes.items i o.timed o.there_timed) o.there_timed in
    let l : LifeOf (node_lives behind o.timed) c.registers.widths.items h =
    life_of i (node_lives behind o.timed) (node_period o.timed) c.registers.widths.items (filter (is_of i) c.registers.held.items) kept.place h rows kept.stands in
    register_of p i k n o.timed behind h at_node o.is (eqb-true h.op.0 k (and_parts (h.op.0 == k) (h.place == j) parts.1).0)
    (subst (λ (ws : List ℕ). LifeOf (node_lives behind o.timed) ws h) widths_ l)

-- ---- operands

module _ (p : Plan) (compiled : IsCompiled p) (i : ℕ) (n : TimedNode) (at_node : slice_get p.program.nodes i ≡ Some n) (x : Contents) (widths : HasWidths p x) (signals : Signal → ℕ) (pins : List ℕ) where
  abbrev c : Cycle
  c = in_cycle x signals pins

  below : (a b word : ℕ) → word < 2 ^ a → a ≤ b → word < 2 ^ b
  below a b word h le = let m = pow_mono le in omega (arith, h, m)

  source_fits : (bits : ℕ) (s : Source) → SourceFits p bits s → read_from c s < 2 ^ bits
  source_fits bits (source.Constant word) h = h
  source_fits bits (source.Variable v) h = below (slice_index p.program.shapes.widths v.0) bits (x.regs (Variable v.0)) (widths (Variable v.0)) h
  source_fits bits (source.Result op) h = pow_pos bits

  result_fits : (bits k j : ℕ) → ((it : TimedOp) → slice_get (body_at p i).ops k ≡ Some it → result_bits it.op.kind it.op.bits ≤ bits) → (o : Option Held) → find (is_place i k j) p.held ≡ o → held_by c o < 2 ^ bits
  result_fits bits k j h None e = pow_pos bits
  result_fits bits k j h (Some r) e =
      let w = held_width p compiled i k j n r at_node e in
      let few = h w.it w.is in
      let le : slice_index p.widths r.register ≤ bits = let z = w.width in omega (arith, z, few) in
      below (slice_index p.widths r.register) bits (x.regs (Value r.register)) (widths (Value r.register)) le

  pub operand_fits : (bits t : ℕ) (y : Operand) → OperandFits p i bits y (maker_of (body_at p i).outs y) → operand p c i t y < 2 ^ bits
  operand_fits bits t y h = on (maker_of (body_at p i).outs y) h
    where
      on : (m : Option OpId) → OperandFits p i bits y m → read_by p c i t y m < 2 ^ bits
      on None h = source_fits bits y.value h
      on (Some op) h = result_fits bits op.0 (place (body_at p i).interval (ready_of (body_at p i) op) t y.distance) h (find (is_place i op.0 (place (body_at p i).interval (ready_of (body_at p i) op) t y.distance)) p.held) refl

  pub argument_fits : (bits t : ℕ) (ys : List Operand) → ((m : ℕ) (y : Operand) → slice_get ys m ≡ Some y → OperandFits p i bits y (maker_of (body_at p i).outs y)) → (j : ℕ)
      → get_or (map (operand p c i t) ys) j 0 < 2 ^ bits
  argument_fits bits t [] h j = pow_pos bits
  argument_fits bits t (y ∷ ys) h zero = operand_fits bits t y (h 0 y refl)
  argument_fits bits t (y ∷ ys) h (suc j) = argument_fits bits t ys (λ m z e. h (suc m) z e) j
