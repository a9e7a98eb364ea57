-- The operations of the iterations that run give cycle by cycle what they give one after another.
use Rattle.std.proofs.Common.{◌≡◌, ℕ, zero, suc, ◌+◌, ◌*◌, ◌<◌, ◌≤◌, true, map, Option, Some, None, inl, inr, refl, sym, ap, ◌∙◌, arith}
use Rattle.hls_base.specs.declared.number.OpId.{OpId}
use Rattle.ir_core.specs.declared.body.Operand.{Operand}
use Rattle.ir_core.specs.declared.body.Source.{Source}
use Rattle.ir_core.specs.declared.body.Source.TheVariants as source
use Rattle.dep_graph.specs.Offsets.{maker}
use Rattle.ir_core.specs.Bodies.{Words, operand, word}
use Rattle.ir_core.specs.TreeRuns.{tested}
use Rattle.clock_ir.specs.Flows.{TimedBody, Flow, known, operand_at, holds_at, runs_at}
use Rattle.clock_runs.proofs.Numbers.{later_turn}
use Rattle.clock_runs.proofs.Settings.{Setting, op_at, count_of, flow, time_of, val, after, moment, passes, Begins, Runs, reading, result, allows, IsCarried, IsReadyAs, IsReady, IsTimely}
use Rattle.clock_runs.proofs.Chains.{takes}
use Rattle.clock_runs.proofs.Reading.{variable_in, source_in, read_in, reads_in}
use Rattle.clock_runs.proofs.Passing.{clock_test, IsOpen, gate_tells}
use Rattle.clock_runs.proofs.Iterations.{moment_start, results_at, variable_next, variable_fixed, taken_over, begins_more, begins_less, map_same, allows_same}

pub holds_allows : (b : TimedBody) (f : Flow) (t : ℕ) (x : Option Operand) → holds_at b f t x ≡ allows (operand_at b f t) x
holds_allows b f t None = refl
holds_allows b f t (Some x) = refl

-- what runs before time b gives the same
abbrev pub Same : Setting → ℕ → Type 0
Same s b = (i k : ℕ) → Runs s i k → time_of s i k < b → val s i k ≡ result s i k

module _ (s : Setting) (w : IsTimely s) where
  runs_tested : (i : ℕ) → Begins s i → (j : ℕ) → j < tested s.body.test → Runs s i j
  runs_tested i b j lt = (b, (let h = w.test_in in omega arith), inl lt)

  pub runs_earlier : (i k j : ℕ) → Runs s i k → j < k → Runs s i j
  runs_earlier i k j r lt = (r.0, (let h = r.1 in omega arith), elim r.2 [ inl h ↦ inl (omega arith) | inr h ↦ inr h ])

  pub runs_before : (i : ℕ) → Begins s (suc i) → (j : ℕ) → j < count_of s → Runs s i j
  runs_before i b j lt = (begins_less s (suc i) i (omega arith) b, lt, inr (b i (omega arith)))

  module _ (b : ℕ) (same : Same s b) where
    pub carried_same : (i t v : ℕ) (j : OpId) → Begins s i → i * s.body.interval + t ≤ b → IsCarried s t v j → variable_in s i v (Some j) ≡ (moment s i).variables v
    carried_same zero t v j begins le c = sym (ap (λ (x : Words). x.variables v) (moment_start s))
    carried_same (suc i) t v j begins le c =
        let early = c.there in
        let more = takes (op_at s j.0) in
        let next : suc i * s.body.interval ≡ i * s.body.interval + s.body.interval = omega arith in
        same i j.0 (runs_before i begins j.0 c.within) (omega arith)
        ∙ sym (results_at s (moment s i) j.0 (count_of s) c.within)
        ∙ sym (variable_next s w.outs i v ∙ ap (λ o. taken_over o ((moment s i).variables v) (after s (moment s i) (count_of s)).results) c.carries)

    fixed_same : (i v : ℕ) → maker s.carried v ≡ None → variable_in s i v (maker s.carried v) ≡ (moment s i).variables v
    fixed_same i v e = ap (variable_in s i v) e ∙ none i ∙ sym (variable_fixed s w.outs v e i)
      where
        none : (i : ℕ) → variable_in s i v None ≡ s.start.variables v
        none zero = refl
        none (suc i) = refl

    sources_same : (i k t : ℕ) → Begins s i → ((j : ℕ) → j < k → Runs s i j) → i * s.body.interval + t ≤ b → (value : Source) (distance : ℕ) → IsReadyAs s k t value distance
        → source_in s i value ≡ word (moment s i) (after s (moment s i) k).results value
    sources_same i k t begins runs le (source.Constant c) distance h = refl
    sources_same i k t begins runs le (source.Variable v) distance h =
        elim h [
          | inl fixed ↦ fixed_same i v.0 fixed.1
          | inr changed ↦ ap (variable_in s i v.0) changed.1.1.carries ∙ carried_same i t v.0 changed.1.0 begins le changed.1.1
        ]
    sources_same i k t begins runs le (source.Result j) distance h =
        let early = h.3 in
        let more = takes (op_at s j.0) in
        same i j.0 (runs j.0 h.1) (omega arith) ∙ sym (results_at s (moment s i) j.0 k h.1)

    pub reads_same : (i k t : ℕ) → Begins s i → ((j : ℕ) → j < k → Runs s i j) → i * s.body.interval + t ≤ b → (x : Operand) → IsReady s k t x
        → read_in s i x ≡ operand (moment s i) (after s (moment s i) k).results x
    reads_same i k t begins runs le x h = sources_same i k t begins runs le x.value x.distance h

    -- an operand as it is read in this cycle
    pub operands_same : (i k t time : ℕ) → Begins s i → ((j : ℕ) → j < k → Runs s i j) → i * s.body.interval + t ≤ b → time ≡ i * s.body.interval + t → (x : Operand) → IsReady s k t x
        → operand_at s.body (flow s time) t x ≡ operand (moment s i) (after s (moment s i) k).results x
    operands_same i k t time begins runs le at x h = reads_in s w.interval i k t x h time at ∙ reads_same i k t begins runs le x h

    pub test_same : (i : ℕ) → Begins s i → i * s.body.interval + known s.body ≤ b → clock_test s i ≡ passes s i
    test_same i begins le =
        holds_allows s.body (flow s (i * s.body.interval + known s.body)) (known s.body) s.body.test
        ∙ allows_same s (tested s.body.test) (known s.body) _ _
        (operands_same i (tested s.body.test) (known s.body) (i * s.body.interval + known s.body) begins (runs_tested i begins) le refl) s.body.test w.test

    -- the gate of an iteration is open exactly where the next one begins
    begins_along : (i t : ℕ) → i * s.body.interval + t ≤ b → known s.body ≤ t → IsOpen s i → (j : ℕ) → j ≤ suc i → Begins s j
    begins_along i t le seen wide zero h = λ n no_. absurd (omega arith)
    begins_along i t le seen wide (suc j) h =
        let begins = begins_along i t le seen wide j (omega arith) in
        let order : j * s.body.interval ≤ i * s.body.interval = later_turn s.body.interval j i (omega arith) in
        let e = test_same j begins (omega arith) in
        begins_more s j begins (sym e ∙ wide j (omega arith))

    pub open_begins : (time i t : ℕ) → time ≤ b → time ≡ i * s.body.interval + t → known s.body ≤ t → runs_at s.body (flow s time) t ≡ true → Begins s (suc i)
    open_begins time i t le at seen on = begins_along i t (omega arith) seen ((gate_tells s w.interval i t time at seen).0 on) (suc i) (omega arith)

    pub begins_open : (time i t : ℕ) → time ≤ b → time ≡ i * s.body.interval + t → known s.body ≤ t → Begins s (suc i) → runs_at s.body (flow s time) t ≡ true
    begins_open time i t le at seen begins =
        (gate_tells s w.interval i t time at seen).1 (λ j less.
        let order : j * s.body.interval ≤ i * s.body.interval = later_turn s.body.interval j i less in
        test_same j (begins_less s (suc i) j (omega arith) begins) (omega arith) ∙ begins j (omega arith))

    -- what an operation that runs reads is what it reads one after another
    args_same : (i k time : ℕ) → Runs s i k → time_of s i k ≤ b → time ≡ time_of s i k → (x : Operand) → IsReady s k (op_at s k).start x → operand_at s.body (flow s time) (op_at s k).start x ≡ reading s i k x
    args_same i k time r le at x h = operands_same i k (op_at s k).start time r.0 (λ j lt. runs_earlier i k j r lt) le at x h

    pub maps_same : (i k time : ℕ) → Runs s i k → time_of s i k ≤ b → time ≡ time_of s i k → map (operand_at s.body (flow s time) (op_at s k).start) (op_at s k).op.args ≡ map (reading s i k) (op_at s k).op.args
    maps_same i k time r le at = map_same (IsReady s k (op_at s k).start) _ _ (args_same i k time r le at) (op_at s k).op.args (w.args k r.1)

    pub guards_same : (i k time : ℕ) → Runs s i k → time_of s i k ≤ b → time ≡ time_of s i k → allows (operand_at s.body (flow s time) (op_at s k).start) (op_at s k).op.guard ≡ allows (reading s i k) (op_at s k).op.guard
    guards_same i k time r le at = allows_same s k (op_at s k).start _ _ (args_same i k time r le at) (op_at s k).op.guard (w.guards k r.1)
