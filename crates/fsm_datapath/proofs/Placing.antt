-- What places take.
use Rattle.std.proofs.Common.{◌≡◌, ℕ, zero, suc, Bool, true, false, List, [], ◌∷◌, slice_get, Option, Some, None, refl, sym, ap, ◌∙◌, arith}
use Rattle.std.specs.Prelude.{nat_lt, not, ◌&&◌, ◌==◌, if◌then◌else◌}
use Rattle.std.proofs.Math.Dec.{eqb-suc-zero}
use Rattle.std.proofs.lemmas.Bool.{le-ltb, ne_eqb}
use Rattle.hls_base.specs.declared.number.VarId.{VarId}
use Rattle.ir_core.specs.declared.body.Out.{Out}
use Rattle.ir_core.specs.declared.cfg.Block.{Block}
use Rattle.ir_core.specs.declared.cfg.Loop.{Loop}
use Rattle.ir_core.specs.declared.cfg.Node.{Node}
use Rattle.ir_core.specs.declared.cfg.Node.TheVariants as node
use Rattle.ir_core.specs.declared.timed.Timed.{Timed}
use Rattle.reg_binding.specs.declared.registers.Held.{Held}
use Rattle.clock_ir.specs.ClockRuns.{timed_node}
use Rattle.clock_ir.specs.Flows.{is_result}
use Rattle.datapath.specs.Plans.{Plan, body_at}
use Rattle.datapath.specs.Cycles.{Load, Variable, Cycle, holds}
use Rattle.datapath.specs.Control.{is_loop}
use Rattle.datapath.specs.Reading.{at, at_iteration}
use Rattle.datapath.specs.Values.{entry_in, entry_of, is_alone, arrival, place_arrival, moves, arriving}
use Rattle.rtl_logic.specs.Choosing.{where_}
use Rattle.circuit_context.specs.declared.wanted.role.Role.TheVariants as role
use Rattle.circuit_context.specs.Wanted.Entries.{register_entry, load_entries, held_entries}
use Rattle.fsm_datapath.specs.Steps.{made_first, number_of, if_read, entry_count, loop_entries}

-- ---- the variable that an operation makes

made_entry : (p : Plan) (outs : List Out) (k : ℕ) → entry_in p outs k ≡ if_read p (made_first outs k)
made_entry p [] k = refl
made_entry p (x ∷ xs) k = by_first (is_result k x.value.value) (made_entry p xs k) where
  by_first : (b : Bool) → entry_in p xs k ≡ if_read p (made_first xs k)
      → (if b then (if p.savings.read x.variable.0 then Some x.variable.0 else None) else entry_in p xs k) ≡ if_read p (if b then Some x.variable else made_first xs k)
  by_first true rest = refl
  by_first false rest = rest

pub entry_stands : (p : Plan) (h : Held) (outs : List Out) (made : Option VarId) → is_loop (slice_get p.program.nodes h.node.0) ≡ true → (body_at p h.node.0).outs ≡ outs → made ≡ made_first outs h.op.0
    → if_read p made ≡ entry_of p h
entry_stands p h outs made loop are is =
    ap (if_read p) is ∙ (sym (made_entry p outs h.op.0) ∙ (ap (λ (xs : List Out). entry_in p xs h.op.0) (sym are)
    ∙ sym (ap (λ b. if b then entry_in p (body_at p h.node.0).outs h.op.0 else None) loop)))

pub read_is : (p : Plan) (v : VarId) (b : Bool) → b ≡ p.savings.read v.0 → (if b then Some v.0 else None) ≡ if_read p (Some v)
read_is p v b is = ap (λ r. if r then Some v.0 else None) is

-- ---- when places move

free_first : (alone : Bool) (place : ℕ) → (if nat_lt place 0 then false else alone) ≡ alone
free_first alone place = ap (λ b. if b then false else alone) (le-ltb place 0 (omega arith))

free_second : (alone : Bool) (place : ℕ) → (if nat_lt place 1 then false else alone) ≡ (alone && not (place == 0))
free_second true zero = refl
free_second false zero = refl
free_second true (suc j) = ap (λ b. if b then false else true) (le-ltb (suc j) 1 (omega arith)) ∙ sym (ap (λ b. true && not b) (eqb-suc-zero j))
free_second false (suc j) = ap (λ b. if b then false else false) (le-ltb (suc j) 1 (omega arith))

-- a place that is free takes any value, another one real values alone
pub moves_as : (p : Plan) (h : Held) (entry : Option ℕ) (entries : ℕ) (free : Bool) → entry_count entry ≡ entries → free ≡ (if nat_lt h.place entries then false else is_alone p h) → (c : Cycle)
    → (if free then at p c h.node.0 (arrival p h) else at_iteration p c h.node.0 (place_arrival p h entries)) ≡ moves p c h entry
moves_as p h None entries free count is c =
    ap (λ b. if b then at p c h.node.0 (arrival p h) else at_iteration p c h.node.0 (place_arrival p h entries))
    (is ∙ (ap (λ n. if nat_lt h.place n then false else is_alone p h) (sym count) ∙ free_first (is_alone p h) h.place))
    ∙ ap (λ n. if is_alone p h then at p c h.node.0 (arrival p h) else at_iteration p c h.node.0 (place_arrival p h n)) (sym count)
moves_as p h (Some v) entries free count is c =
    ap (λ b. if b then at p c h.node.0 (arrival p h) else at_iteration p c h.node.0 (place_arrival p h entries))
    (is ∙ (ap (λ n. if nat_lt h.place n then false else is_alone p h) (sym count) ∙ free_second (is_alone p h) h.place))
    ∙ ap (λ n. if is_alone p h && not (h.place == 0) then at p c h.node.0 (arrival p h) else at_iteration p c h.node.0 (place_arrival p h n)) (sym count)

pub moves_free : (p : Plan) (h : Held) (entry : Option ℕ) (entries : ℕ) (free : Bool) → entry_count entry ≡ entries → free ≡ (if nat_lt h.place entries then false else is_alone p h) → free ≡ true
    → (time : ℕ) → time ≡ arrival p h → (c : Cycle) → at p c h.node.0 time ≡ moves p c h entry
moves_free p h entry entries free count is yes_ time at_ c =
    ap (at p c h.node.0) at_ ∙ (sym (ap (λ b. if b then at p c h.node.0 (arrival p h) else at_iteration p c h.node.0 (place_arrival p h entries)) yes_) ∙ moves_as p h entry entries free count is c)

pub moves_behind : (p : Plan) (h : Held) (entry : Option ℕ) (entries : ℕ) (free : Bool) → entry_count entry ≡ entries → free ≡ (if nat_lt h.place entries then false else is_alone p h) → free ≡ false
    → (time : ℕ) → time ≡ place_arrival p h entries → (c : Cycle) → at_iteration p c h.node.0 time ≡ moves p c h entry
moves_behind p h entry entries free count is none time at_ c =
    ap (at_iteration p c h.node.0) at_
    ∙ (sym (ap (λ b. if b then at p c h.node.0 (arrival p h) else at_iteration p c h.node.0 (place_arrival p h entries)) none) ∙ moves_as p h entry entries free count is c)

-- ---- entries

pub loaded : (h : Held) (entry : Option VarId) (v : VarId) → entry ≡ Some v → h.place ≡ 0
    → register_entry (role.Value h.register) (λ c. where_ (holds c (Load h.node.0)) (c.regs (Variable v.0))) ∷ [] ≡ load_entries h (number_of entry)
loaded h entry v is first =
    sym (ap (λ (e : Option VarId). load_entries h (number_of e)) is
    ∙ ap (λ n. if n == 0 then register_entry (role.Value h.register) (λ c. where_ (holds c (Load h.node.0)) (c.regs (Variable v.0))) ∷ [] else []) first)

-- only the first place takes it
pub loads_no_more : (h : Held) (entry : Option VarId) (v : VarId) → entry ≡ Some v → (h.place ≡ 0 → ⊥) → load_entries h (number_of entry) ≡ []
loads_no_more h entry v is later =
    ap (λ (e : Option VarId). load_entries h (number_of e)) is
    ∙ ap (λ b. if b then register_entry (role.Value h.register) (λ c. where_ (holds c (Load h.node.0)) (c.regs (Variable v.0))) ∷ [] else []) (ne_eqb h.place 0 later)

pub block_held : (p : Plan) (h : Held) (n : Node Timed) (b : Block Timed) → slice_get p.program.nodes h.node.0 ≡ Some (timed_node n) → n ≡ node.Plain b
    → register_entry (role.Value h.register) (λ c. where_ (at p c h.node.0 (arrival p h)) (arriving p c h.node.0 h.op.0)) ∷ [] ≡ held_entries p h
block_held p h n b stands is =
    let plain : is_loop (slice_get p.program.nodes h.node.0) ≡ false = ap is_loop (stands ∙ ap (λ (m : Node Timed). Some (timed_node m)) is) in
    sym (ap (λ t. if t then loop_entries p h else register_entry (role.Value h.register) (λ c. where_ (at p c h.node.0 (arrival p h)) (arriving p c h.node.0 h.op.0)) ∷ []) plain)

pub loop_stands : (p : Plan) (i : ℕ) (n : Node Timed) (r : Loop Timed) → slice_get p.program.nodes i ≡ Some (timed_node n) → n ≡ node.Looped r → is_loop (slice_get p.program.nodes i) ≡ true
loop_stands p i n r stands is = ap is_loop (stands ∙ ap (λ (m : Node Timed). Some (timed_node m)) is)

pub loop_held : (p : Plan) (h : Held) → is_loop (slice_get p.program.nodes h.node.0) ≡ true → loop_entries p h ≡ held_entries p h
loop_held p h loop = sym (ap (λ t. if t then loop_entries p h else register_entry (role.Value h.register) (λ c. where_ (at p c h.node.0 (arrival p h)) (arriving p c h.node.0 h.op.0)) ∷ []) loop)
