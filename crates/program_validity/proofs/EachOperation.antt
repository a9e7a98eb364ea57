-- What holds of the operations of a valid program.
use Rattle.std.proofs.Common.{◌≡◌, ℕ, zero, suc, ◌<◌, ◌≤◌, ◌+◌, ◌^◌, ◌∙◌, sym, ap, refl, Bool, true, false, ◌&&◌, ◌++◌, List, [], ◌∷◌, length, take, arith}
use Rattle.std.specs.Prelude.{◌==◌, ◌||◌, ◌⊎◌, nat_lt, slice_get, Option, Some, None, is_none, if◌then◌else◌}
use Rattle.std.proofs.Common.{inl, inr, append_assoc, append-nil}
use Rattle.std.proofs.lemmas.Bool.{ltb-true, eqb-true}
use Rattle.hls_base.specs.declared.number.ArrayId.{ArrayId}
use Rattle.ir_core.specs.declared.body.Op.{Op}
use Rattle.ir_core.specs.declared.body.OpKind.{OpKind}
use Rattle.ir_core.specs.declared.body.OpKind.TheVariants as o
use Rattle.ir_core.specs.declared.body.Out.{Out}
use Rattle.ir_core.specs.declared.cfg.Cfg.{Cfg}
use Rattle.ir_core.specs.declared.cfg.Frame.{Frame}
use Rattle.ir_core.specs.declared.cfg.Memory.{Memory}
use Rattle.ir_core.specs.declared.cfg.Node.{Node}
use Rattle.ir_core.specs.declared.cfg.Node.TheVariants as node
use Rattle.dep_graph.specs.Meetings.{is_store}
use Rattle.program_validity.specs.Widths.{is_width}
use Rattle.program_validity.specs.Frames.{are_dims, is_memory}
use Rattle.program_validity.specs.Operands.{is_operand_if}
use Rattle.program_validity.specs.Operations.{is_flagged, is_width_of, memory_of, loads, stores, accesses_in, accesses, acts, is_operation}
use Rattle.program_validity.specs.Bodies.{are_operations, is_out, is_body, is_block_body, is_loop_body}
use Rattle.program_validity.specs.Programs.{body_in, carried_in, is_valid_node, is_consistent}
use Rattle.program_validity.proofs.Parts.{first_of_both, second_of_both, holds_at, node_valid}

some_same : {A : Type 0} {x y : A} → Some x ≡ Some y → x ≡ y
some_same e = (cc)

no_some : {A : Type 0} {x : A} → None ≡ Some x → ⊥
no_some e = (cc)

-- ---- arrays

pub some_dims : (m : Memory) → is_memory m ≡ true → 0 < length m.dims.items
some_dims m h = ltb-true _ _ (first_of_both (nat_lt 0 (length m.dims.items)) _ (first_of_both (are_dims m.dims.items) _ (second_of_both (is_width m.bits) _ h)))

-- ---- operations

operations_at : {S : Type 0} (f : Frame) (carried : List Out) (before ops : List (Op S)) (k : ℕ) (op : Op S) → are_operations f carried before ops ≡ true → slice_get ops k ≡ Some op
    → is_operation f carried (before ++ take k ops) op ≡ true
operations_at f carried before [] k op h e = absurd (no_some e)
operations_at f carried before (x ∷ xs) zero op h e =
    let here : is_operation f carried before x ≡ true = first_of_both _ _ h in
    rw append-nil (ap (is_operation f carried before) (sym (some_same e)) ∙ here)
operations_at f carried before (x ∷ xs) (suc k) op h e =
    let behind = operations_at f carried (before ++ x ∷ []) xs k op (second_of_both (is_operation f carried before x) _ h) e in
    rw append_assoc at behind

body_valid : {S : Type 0} (f : Frame) (count : ℕ) (n : Node S) → is_valid_node f count n ≡ true → is_body f (carried_in n) (body_in n) ≡ true
body_valid f count (node.Plain block) h = second_of_both (is_none block.body.test) _ (first_of_both (is_block_body f block.body) _ h)
body_valid f count (node.Looped region) h = first_of_both _ _ (first_of_both _ _ (first_of_both (is_loop_body f region.body) _ h))

-- each operation is valid behind those before it
pub operation_valid : {S : Type 0} (cfg : Cfg S) (i k : ℕ) (n : Node S) (op : Op S) → is_consistent cfg ≡ true → slice_get cfg.nodes.items i ≡ Some n → slice_get (body_in n).ops.items k ≡ Some op
    → is_operation cfg.frame (carried_in n) (take k (body_in n).ops.items) op ≡ true
operation_valid cfg i k n op h at there =
    let body = body_valid cfg.frame (length cfg.nodes.items) n (node_valid cfg i n h at) in
    operations_at cfg.frame (carried_in n) [] (body_in n).ops.items k op (first_of_both _ _ (second_of_both (nat_lt (length (body_in n).ops.items) (2 ^ 32)) _ body)) there

-- an out sets a variable
pub out_valid : {S : Type 0} (cfg : Cfg S) (i k : ℕ) (n : Node S) (out : Out) → is_consistent cfg ≡ true → slice_get cfg.nodes.items i ≡ Some n → slice_get (body_in n).outs.items k ≡ Some out
    → is_out cfg.frame (carried_in n) (body_in n).ops.items out ≡ true
out_valid cfg i k n out h at there =
    let body = body_valid cfg.frame (length cfg.nodes.items) n (node_valid cfg i n h at) in
    holds_at (is_out cfg.frame (carried_in n) (body_in n).ops.items) (body_in n).outs.items k out
    (second_of_both (are_operations cfg.frame (carried_in n) [] (body_in n).ops.items) _ (second_of_both (nat_lt (length (body_in n).ops.items) (2 ^ 32)) _ body)) there

-- ---- widths

either_of : (x y : Bool) → (x || y) ≡ true → (x ≡ true) ⊎ (y ≡ true)
either_of true y h = inl refl
either_of false y h = inr h

-- a width is one of 1 to 64 bits
pub width_between : (bits : ℕ) → is_width bits ≡ true → (1 ≤ bits) × (bits ≤ 64)
width_between bits h =
    elim (either_of (bits == 1) _ h) [
      | inl e ↦ (let is = eqb-true bits 1 e in (omega arith, omega arith))
      | inr h ↦ elim (either_of (bits == 8) _ h) [
        | inl e ↦ (let is = eqb-true bits 8 e in (omega arith, omega arith))
        | inr h ↦ elim (either_of (bits == 16) _ h) [
          | inl e ↦ (let is = eqb-true bits 16 e in (omega arith, omega arith))
          | inr h ↦ elim (either_of (bits == 32) _ h) [
            | inl e ↦ (let is = eqb-true bits 32 e in (omega arith, omega arith))
            | inr e ↦ (let is = eqb-true bits 64 e in (omega arith, omega arith))
          ]
        ]
      ]
    ]

wide_between : (bits : ℕ) → ((bits == 32) || (bits == 64)) ≡ true → (1 ≤ bits) × (bits ≤ 64)
wide_between bits h =
    elim (either_of (bits == 32) (bits == 64) h) [
      | inl e ↦ (let is = eqb-true bits 32 e in (omega arith, omega arith))
      | inr e ↦ (let is = eqb-true bits 64 e in (omega arith, omega arith))
    ]

kind_between : (kind : OpKind) (bits : ℕ) → is_width_of kind bits ≡ true → (1 ≤ bits) × (bits ≤ 64)
kind_between o.Mul bits h = wide_between bits h
kind_between o.Div bits h = wide_between bits h
kind_between o.Rem bits h = wide_between bits h
kind_between kind bits h = width_between bits h

pub operation_between : {S : Type 0} (f : Frame) (carried : List Out) (before : List (Op S)) (op : Op S) → is_operation f carried before op ≡ true → (1 ≤ op.bits) × (op.bits ≤ 64)
operation_between f carried before op h = kind_between op.kind op.bits (first_of_both (is_width_of op.kind op.bits) (is_flagged op) (first_of_both _ _ h))

-- ---- accesses

-- an access of a valid program, which has so many subscripts and so many more arguments
pub record AccessesArray {S : Type 0} (f : Frame) (op : Op S) (more : ℕ) : Type 0 where
  pub array : ArrayId
  pub memory : Memory
  pub named : op.array ≡ Some array
  pub stands : slice_get f.memories.items array.0 ≡ Some memory
  pub count : length op.args.items ≡ length memory.dims.items + more

acts_load : {S : Type 0} (f : Frame) (carried : List Out) (before : List (Op S)) (op : Op S) (kind : OpKind) → kind ≡ o.Load → acts f carried before op kind ≡ true → accesses f carried before op ≡ true
acts_load f carried before op kind is h = ap (acts f carried before op) (sym is) ∙ h

acts_store : {S : Type 0} (f : Frame) (carried : List Out) (before : List (Op S)) (op : Op S) (kind : OpKind) → kind ≡ o.Store → acts f carried before op kind ≡ true → accesses f carried before op ≡ true
acts_store f carried before op kind is h = ap (acts f carried before op) (sym is) ∙ h

module _ {S : Type 0} (f : Frame) (carried : List Out) (before : List (Op S)) (op : Op S) where
  named_array : (array : Option ArrayId) → accesses_in f.variables.items carried before op (memory_of f.memories.items array) ≡ true
      → (a : ArrayId) × (m : Memory) × (array ≡ Some a) × (slice_get f.memories.items a.0 ≡ Some m) × (accesses_in f.variables.items carried before op (Some m) ≡ true)
  named_array None h = absurd (cc)
  named_array (Some a) h = at (slice_get f.memories.items a.0) refl h where
    at : (m : Option Memory) → slice_get f.memories.items a.0 ≡ m → accesses_in f.variables.items carried before op m ≡ true
        → (b : ArrayId) × (m : Memory) × (Some a ≡ Some b) × (slice_get f.memories.items b.0 ≡ Some m) × (accesses_in f.variables.items carried before op (Some m) ≡ true)
    at None is h = absurd (cc)
    at (Some m) is h = (a, m, refl, is, h)

  pub load_accesses : op.kind ≡ o.Load → is_operation f carried before op ≡ true → AccessesArray f op 0
  load_accesses kind h =
      let acts_ : acts f carried before op op.kind ≡ true = second_of_both (is_operand_if f.variables.items carried before 1 op.guard) _ (second_of_both (is_width_of op.kind op.bits && is_flagged op) _ h) in
      let found = named_array op.array (acts_load f carried before op op.kind kind acts_) in
      let loads_ : loads f.variables.items carried before op found.1 ≡ true = ap (λ kind. if is_store kind then stores f.variables.items carried before op found.1 else loads f.variables.items carried before op found.1) (sym kind) ∙ found.4 in
      let same : length op.args.items ≡ length found.1.dims.items = eqb-true _ _ (first_of_both _ _ (second_of_both (found.1.bits == op.bits) _ loads_)) in
      record {
        array = found.0;
        memory = found.1;
        named = found.2;
        stands = found.3;
        count = omega (arith, same);
      }

  pub store_accesses : op.kind ≡ o.Store → is_operation f carried before op ≡ true → AccessesArray f op 1
  store_accesses kind h =
      let acts_ : acts f carried before op op.kind ≡ true = second_of_both (is_operand_if f.variables.items carried before 1 op.guard) _ (second_of_both (is_width_of op.kind op.bits && is_flagged op) _ h) in
      let found = named_array op.array (acts_store f carried before op op.kind kind acts_) in
      let stores_ : stores f.variables.items carried before op found.1 ≡ true = ap (λ kind. if is_store kind then stores f.variables.items carried before op found.1 else loads f.variables.items carried before op found.1) (sym kind) ∙ found.4 in
      record {
        array = found.0;
        memory = found.1;
        named = found.2;
        stands = found.3;
        count = eqb-true _ _ (second_of_both (is_none found.1.table) _ (second_of_both (found.1.bits == op.bits) _ (first_of_both _ _ stores_)));
      }
