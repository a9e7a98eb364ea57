-- What the operands of a block hold, from cycle to cycle of the clocked run.
use Rattle.std.proofs.Common.{◌≡◌, ℕ, suc, ◌+◌, ◌-◌, ◌*◌, ◌%◌, ◌<◌, ◌≤◌, true, false, [], Some, refl, ap, ap₂, ◌∙◌, mod-eq_of_lt, arith}
use Rattle.std.specs.Prelude.{slice_get}
use Rattle.std.proofs.lemmas.Bool.{and_from, and_right, le-leb, eq-eqb, ne_eqb, cond-true, cond-false}
use Rattle.hls_base.specs.declared.number.OpId.{OpId}
use Rattle.ir_core.specs.declared.body.Operand.{Operand}
use Rattle.ir_core.specs.declared.body.Source.{Source}
use Rattle.ir_core.specs.declared.body.Source.TheVariants as source
use Rattle.ir_core.specs.Bodies.{Shapes, word}
use Rattle.clock_ir.specs.Flows.{TimedOp, TimedBody, Flow, latency, ready, ready_in, is_at, place, pushed, held, operand_at, given, chain_behind, tick}
use Rattle.dep_graph.specs.Dependences.{maker_by}
use Rattle.clock_runs.proofs.Numbers.{quotient}
use Rattle.clock_runs.proofs.Chains.{takes}
use Rattle.datapath.proofs.BlockSteps.{entered_with}
use Rattle.circuit_agreement.proofs.NodeEnds.Blocks.{IsThereAs, IsThere}

-- ---- operands

-- what a constant, a variable or the last value of a result holds
abbrev pub found : Flow → Source → ℕ
found f (source.Constant number) = number
found f (source.Variable v) = f.entry v.0
found f (source.Result op) = f.chain op.0 0

-- the last value of a result is read
pub first_place : (w a t d : ℕ) → 1 ≤ w → d ≡ 0 → 1 ≤ a → a ≤ t → t ≤ w → place w a t d ≡ 0
first_place w a t d some none first low high =
    let flat : d * w ≡ 0 = ap (λ n. n * w) none ∙ (let z : 0 * w ≡ 0 = omega arith in z) in
    quotient (t + d * w - a) 0 w (t + d * w - a) (omega arith) (omega (arith, flat, some, first, low, high))

pub some_ready : (body : TimedBody) (op : OpId) (it : TimedOp) → slice_get body.ops op.0 ≡ Some it → 1 ≤ ready body op
some_ready body op it e = let r : ready body op ≡ it.start + latency it = ap ready_in e in let l = takes it in omega (arith, r, l)

module _ (body : TimedBody) (some : 1 ≤ body.interval) where
  reads_as : (f : Flow) (time : ℕ) (x : Operand) (value : Source) → time ≤ body.interval → x.value ≡ value → IsThereAs body time value x.distance → operand_at body f time x ≡ found f value
  reads_as f time x (source.Constant number) high e h =
      ap (held body f time x) (ap (maker_by body.outs x.distance) e) ∙ ap (word (entered_with f) []) e
  reads_as f time x (source.Variable v) high e h =
      ap (held body f time x) (ap₂ (maker_by body.outs) h e) ∙ ap (word (entered_with f) []) e
  reads_as f time x (source.Result op) high e h =
      ap (held body f time x) (ap (maker_by body.outs x.distance) e)
      ∙ ap (f.chain op.0) (first_place body.interval (ready body op) time x.distance some h.0 (some_ready body op h.1.0 h.1.1.0) h.1.1.1 high)

  -- an operand that is there holds it
  pub reads : (f : Flow) (time : ℕ) (x : Operand) → time ≤ body.interval → IsThere body time x → operand_at body f time x ≡ found f x.value
  reads f time x high h = reads_as f time x x.value high refl h

-- ---- one cycle on

module _ (shapes : Shapes) (body : TimedBody) (f : Flow) where
  pub time_behind : (tick shapes body f).time ≡ suc f.time
  unfolding tick
  time_behind = refl

  pub entry_behind : (v : ℕ) → (tick shapes body f).entry v ≡ f.entry v
  unfolding tick
  entry_behind v = refl

  chain_at : (k : ℕ) → (tick shapes body f).chain k ≡ chain_behind shapes body f k (slice_get body.ops k)
  unfolding tick
  chain_at k = refl

  module _ (within : f.time < body.interval) (k : ℕ) (it : TimedOp) (is : slice_get body.ops k ≡ Some it) where
    chain_of : (tick shapes body f).chain k 0 ≡ chain_behind shapes body f k (Some it) 0
    chain_of = ap (λ (l : ℕ → ℕ). l 0) (chain_at k ∙ ap (chain_behind shapes body f k) is)

    -- a result that only just comes
    pub is_coming : it.start + latency it ≡ suc f.time → is_at body.interval (it.start + latency it) (suc f.time) ≡ true
    is_coming now =
        let none : suc f.time - (it.start + latency it) ≡ 0 = omega (arith, now) in
        and_from _ _ (le-leb _ _ (omega (arith, now))) (eq-eqb _ 0 (ap (λ n. n % body.interval) none ∙ mod-eq_of_lt (omega (arith, within))))

    pub chain_comes : it.start + latency it ≡ suc f.time → (tick shapes body f).chain k 0 ≡ pushed (given shapes body f it) (f.under_way k) (latency it - 1)
    chain_comes now = chain_of ∙ ap (λ (l : ℕ → ℕ). l 0) (cond-true _ _ _ (is_coming now))

    -- one that is there stays
    pub chain_stays : it.start + latency it ≤ f.time → (tick shapes body f).chain k 0 ≡ f.chain k 0
    chain_stays before =
        let more = takes it in
        let small : (suc f.time - (it.start + latency it)) % body.interval ≡ suc f.time - (it.start + latency it) = mod-eq_of_lt (omega (arith, within, more)) in
        let off : is_at body.interval (it.start + latency it) (suc f.time) ≡ false =
        and_right _ _ (ne_eqb ((suc f.time - (it.start + latency it)) % body.interval) 0 (λ e. omega (arith, e, small, before))) in
        chain_of ∙ ap (λ (l : ℕ → ℕ). l 0) (cond-false _ _ _ off)

  found_as : f.time < body.interval → (time : ℕ) (value : Source) (distance : ℕ) → IsThereAs body time value distance → time ≤ f.time → found (tick shapes body f) value ≡ found f value
  found_as within time (source.Constant number) distance h low = refl
  found_as within time (source.Variable v) distance h low = entry_behind v.0
  found_as within time (source.Result op) distance h low =
      let r : ready body op ≡ h.1.0.start + latency h.1.0 = ap ready_in h.1.1.0 in
      let late = h.1.1.1 in
      chain_stays within op.0 h.1.0 h.1.1.0 (omega (arith, r, late, low))

  -- what was there is the same behind the cycle
  pub found_behind : f.time < body.interval → (time : ℕ) (x : Operand) → IsThere body time x → time ≤ f.time → found (tick shapes body f) x.value ≡ found f x.value
  found_behind within time x h low = found_as within time x.value x.distance h low
