-- What the operations of one cycle give and store.
use Rattle.std.proofs.Common.{◌≡◌, ℕ, suc, ◌+◌, ◌<◌, List, [], ◌∷◌, ◌++◌, if◌then◌else◌, map, take, refl, sym, ap, ◌∙◌, arith}
use Rattle.std.proofs.lemmas.List.{take_more, take_all}
use Rattle.ir_core.specs.declared.body.Operand.{Operand}
use Rattle.ir_core.specs.Bodies.{Words, Performed, first_bits}
use Rattle.clock_ir.specs.Flows.{TimedOp, Flow, operand_at, holds_at, performed, starts, behind_stores}
use Rattle.clock_runs.proofs.Effects.{Memories, sort_of, effect_by, effect_is}
use Rattle.clock_runs.proofs.Settings.{Setting, nothing, op_at, ops_of, count_of, allows, value_at, memories_at, flow, computed}
use Rattle.clock_runs.proofs.Chains.{flow-memories}
use Rattle.clock_runs.proofs.Same.{holds_allows}

-- an operand as it is read in this cycle by operation k
abbrev pub reading_at : Setting → ℕ → ℕ → Operand → ℕ
reading_at s time k = operand_at s.body (flow s time) (op_at s k).start

performed_is : (s : Setting) (k time : ℕ) (memories : Memories) → performed s.shapes s.body (flow s time) (op_at s k) memories
    ≡ effect_by s.shapes (op_at s k).op (sort_of (op_at s k).op.kind) (allows (reading_at s time k) (op_at s k).op.guard) (first_bits s.shapes.widths (ops_of s) (op_at s k).op (op_at s k).op.args)
    (map (reading_at s time k) (op_at s k).op.args) (record { variables = (flow s time).entry; memories = memories })
performed_is s k time memories =
    let op = (op_at s k).op in
    let from = first_bits s.shapes.widths (ops_of s) op op.args in
    let args = map (reading_at s time k) op.args in
    let t : Words = record { variables = (flow s time).entry; memories = memories } in
    effect_is s.shapes op (holds_at s.body (flow s time) (op_at s k).start op.guard) from args t
    ∙ ap (λ y. effect_by s.shapes op (sort_of op.kind) y from args t) (holds_allows s.body (flow s time) (op_at s k).start op.guard)

pub computed_is : (s : Setting) (k time : ℕ) → computed s k time ≡ value_at s k (reading_at s time k) (flow s time).memories
computed_is s k time = ap (λ (p : Performed). p.result) (performed_is s k time (flow s time).memories)

-- the words behind the stores of the first k operations in this cycle
abbrev pub stores : Setting → ℕ → ℕ → Memories
stores s time k = behind_stores s.shapes s.body (flow s time) (take k s.body.ops) (flow s time).memories

abbrev one_store : Setting → Flow → TimedOp → Memories → Memories
one_store s f op memories = if starts s.body f op then (performed s.shapes s.body f op memories).words.memories else memories

stores_append : (s : Setting) (f : Flow) (xs : List TimedOp) (op : TimedOp) (memories : Memories) → behind_stores s.shapes s.body f (xs ++ op ∷ []) memories ≡ one_store s f op (behind_stores s.shapes s.body f xs memories)
stores_append s f [] op memories = refl
stores_append s f (x ∷ xs) op memories = stores_append s f xs op (one_store s f x memories)

pub stores_none : (s : Setting) (time : ℕ) → stores s time 0 ≡ (flow s time).memories
stores_none s time = refl

pub stores_more : (s : Setting) (time k : ℕ) → k < count_of s
    → stores s time (suc k) ≡ (if starts s.body (flow s time) (op_at s k) then memories_at s k (reading_at s time k) (stores s time k) else stores s time k)
stores_more s time k lt =
    ap (λ xs. behind_stores s.shapes s.body (flow s time) xs (flow s time).memories) ((let one : suc k ≡ k + 1 = omega arith in ap (λ n. take n s.body.ops) one) ∙ take_more s.body.ops k nothing lt)
    ∙ stores_append s (flow s time) (take k s.body.ops) (op_at s k) (flow s time).memories
    ∙ ap (λ (p : Performed). if starts s.body (flow s time) (op_at s k) then p.words.memories else stores s time k) (performed_is s k time (stores s time k))

pub stores_all : (s : Setting) (time : ℕ) → (flow s (suc time)).memories ≡ stores s time (count_of s)
stores_all s time =
    flow-memories s time ∙ ap (λ xs. behind_stores s.shapes s.body (flow s time) xs (flow s time).memories) (sym (take_all (count_of s) s.body.ops (omega arith)))
