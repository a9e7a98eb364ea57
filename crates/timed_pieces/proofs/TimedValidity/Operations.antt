-- Operations are valid alike that are the same but for their times, behind such operations.
use Rattle.std.proofs.Common.{◌≡◌, ◌∙◌, ◌+◌, ℕ, refl, sym, ap, ap₂, Bool, ◌&&◌, List, [], ◌∷◌, ◌++◌, length, map, take, Option, Some, None}
use Rattle.std.specs.Prelude.{◌==◌, slice_get, is_some, is_none, if◌then◌else◌}
use Rattle.std.specs.List.{list_all}
use Rattle.std.specs.Option.{option_map}
use Rattle.std.proofs.lemmas.List.{map-append}
use Rattle.std.proofs.lemmas.Option.{same_Some}
use Rattle.ir_core.specs.declared.body.Op.{Op}
use Rattle.ir_core.specs.declared.body.OpKind.{OpKind}
use Rattle.ir_core.specs.declared.body.OpKind.TheVariants as o
use Rattle.ir_core.specs.declared.body.Out.{Out}
use Rattle.ir_core.specs.declared.cfg.Frame.{Frame}
use Rattle.ir_core.specs.declared.cfg.Memory.{Memory}
use Rattle.dep_graph.specs.Meetings.{is_store}
use Rattle.ir_core.specs.Bodies.{OpTree, op_of}
use Rattle.ir_lower.specs.Frames.{MemoryView, FrameView, memory_view, frame_view}
use Rattle.program_validity.specs.Operands.{is_operand_if, is_subscript}
use Rattle.program_validity.specs.Operations.{may_be_undefined, is_width_of, computes, memory_of, loads, is_stored, stores, accesses_in, accesses, acts, is_operation}
use Rattle.program_validity.specs.Bodies.{are_operations, is_set, is_out}
use Rattle.timed_pieces.proofs.TimedValidity.Lists.{both_same}
use Rattle.timed_pieces.proofs.TimedValidity.Frames.{array_same}
use Rattle.timed_pieces.proofs.TimedValidity.Operands.{operand_same, operand_if_same, subscripts_same, stored_same, computes_same}

module _ {S T : Type 0} (f g : Frame) (framed : frame_view f ≡ frame_view g) (carried : List Out) (ls : List (Op S)) (rs : List (Op T)) (ops : map op_of ls ≡ map op_of rs) where
  abbrev v : List ℕ
  v = f.variables.items

  abbrev w : List ℕ
  w = g.variables.items

  widths : v ≡ w
  widths = ap (λ (x : FrameView). x.variables) framed

  -- ---- accesses

  loads_same : (a : Op S) (b : Op T) (m n : Memory) → op_of a ≡ op_of b → memory_view m ≡ memory_view n → loads v carried ls a m ≡ loads w carried rs b n
  loads_same a b m n e same =
      both_same (ap₂ (λ (x : MemoryView) (t : OpTree). x.bits == t.bits) same e)
      (both_same (ap₂ (λ (x : MemoryView) (t : OpTree). length t.args == length x.dims) same e)
      (subscripts_same v w widths carried ls rs ops a.args.items ∙ ap (λ (t : OpTree). list_all (is_subscript w carried rs) t.args) e))

  stores_same : (a : Op S) (b : Op T) (m n : Memory) → op_of a ≡ op_of b → memory_view m ≡ memory_view n → stores v carried ls a m ≡ stores w carried rs b n
  stores_same a b m n e same =
      both_same (both_same (ap₂ (λ (x : MemoryView) (t : OpTree). x.bits == t.bits) same e)
      (both_same (ap (λ (x : MemoryView). is_none x.table) same) (ap₂ (λ (x : MemoryView) (t : OpTree). length t.args == length x.dims + 1) same e)))
      (both_same (subscripts_same v w widths carried ls rs ops (take (length m.dims.items) a.args.items)
      ∙ ap₂ (λ (x : MemoryView) (t : OpTree). list_all (is_subscript w carried rs) (take (length x.dims) t.args)) same e)
      (stored_same v w widths carried ls rs ops a.bits (slice_get a.args.items (length m.dims.items))
      ∙ ap₂ (λ (x : MemoryView) (t : OpTree). is_stored w carried rs t.bits (slice_get t.args (length x.dims))) same e))

  accesses_in_same : (a : Op S) (b : Op T) (x y : Option Memory) → op_of a ≡ op_of b → option_map memory_view x ≡ option_map memory_view y → accesses_in v carried ls a x ≡ accesses_in w carried rs b y
  accesses_in_same a b None None e same = refl
  accesses_in_same a b None (Some n) e same = absurd cc
  accesses_in_same a b (Some m) None e same = absurd cc
  accesses_in_same a b (Some m) (Some n) e same =
      let view : memory_view m ≡ memory_view n = same_Some (memory_view m) (memory_view n) same in
      ap₂ (λ (p : Bool) (q : Bool). if is_store a.kind then p else q) (stores_same a b m n e view) (loads_same a b m n e view)
      ∙ ap (λ (t : OpTree). if is_store t.kind then stores w carried rs b n else loads w carried rs b n) e

  accesses_same : (a : Op S) (b : Op T) → op_of a ≡ op_of b → accesses f carried ls a ≡ accesses g carried rs b
  accesses_same a b e =
      let there : option_map memory_view (memory_of f.memories.items a.array) ≡ option_map memory_view (memory_of g.memories.items b.array) =
      array_same f.memories.items g.memories.items (ap (λ (x : FrameView). x.memories) framed) a.array ∙ ap (λ (t : OpTree). option_map memory_view (memory_of g.memories.items t.array)) e in
      accesses_in_same a b (memory_of f.memories.items a.array) (memory_of g.memories.items b.array) e there

  -- ---- operations

  computing_same : (a : Op S) (b : Op T) → op_of a ≡ op_of b → (kind : OpKind) → (is_none a.array && computes v carried ls kind a.bits a.args.items) ≡ (is_none b.array && computes w carried rs kind b.bits b.args.items)
  computing_same a b e kind =
      both_same (ap (λ (t : OpTree). is_none t.array) e)
      (computes_same v w widths carried ls rs ops kind a.bits a.args.items ∙ ap (λ (t : OpTree). computes w carried rs kind t.bits t.args) e)

  acts_same : (a : Op S) (b : Op T) → op_of a ≡ op_of b → (kind : OpKind) → acts f carried ls a kind ≡ acts g carried rs b kind
  acts_same a b e o.Load = accesses_same a b e
  acts_same a b e o.Store = accesses_same a b e
  acts_same a b e o.Not = computing_same a b e o.Not
  acts_same a b e o.Neg = computing_same a b e o.Neg
  acts_same a b e o.Copy = computing_same a b e o.Copy
  acts_same a b e o.Widen = computing_same a b e o.Widen
  acts_same a b e o.Narrow = computing_same a b e o.Narrow
  acts_same a b e o.Truth = computing_same a b e o.Truth
  acts_same a b e o.Select = computing_same a b e o.Select
  acts_same a b e (o.Fused pairing) = computing_same a b e (o.Fused pairing)
  acts_same a b e o.Add = computing_same a b e o.Add
  acts_same a b e o.Sub = computing_same a b e o.Sub
  acts_same a b e o.Mul = computing_same a b e o.Mul
  acts_same a b e o.Div = computing_same a b e o.Div
  acts_same a b e o.Rem = computing_same a b e o.Rem
  acts_same a b e o.And = computing_same a b e o.And
  acts_same a b e o.Or = computing_same a b e o.Or
  acts_same a b e o.Xor = computing_same a b e o.Xor
  acts_same a b e o.Shl = computing_same a b e o.Shl
  acts_same a b e o.Shr = computing_same a b e o.Shr
  acts_same a b e o.Eq = computing_same a b e o.Eq
  acts_same a b e o.Ne = computing_same a b e o.Ne
  acts_same a b e o.Lt = computing_same a b e o.Lt
  acts_same a b e o.Le = computing_same a b e o.Le

  pub operation_same : (a : Op S) (b : Op T) → op_of a ≡ op_of b → is_operation f carried ls a ≡ is_operation g carried rs b
  operation_same a b e =
      both_same (both_same (ap (λ (t : OpTree). is_width_of t.kind t.bits) e) (ap (λ (t : OpTree). if may_be_undefined t.kind t.signed then is_some t.flag else is_none t.flag) e))
      (both_same (operand_if_same v w widths carried ls rs ops 1 a.guard ∙ ap (λ (t : OpTree). is_operand_if w carried rs 1 t.guard) e)
      (acts_same a b e a.kind ∙ ap (λ (t : OpTree). acts g carried rs b t.kind) e))

  -- ---- outs

  set_same : (x : Out) (bits : Option ℕ) → is_set f carried ls x bits ≡ is_set g carried rs x bits
  set_same x None = refl
  set_same x (Some bits) = operand_same v w widths carried ls rs ops bits x.value

  pub out_same : (x : Out) → is_out f carried ls x ≡ is_out g carried rs x
  out_same x = set_same x (slice_get v x.variable.0) ∙ ap (λ (l : List ℕ). is_set g carried rs x (slice_get l x.variable.0)) widths

-- each operation, behind all that stand before it
pub operations_same : {S T : Type 0} (f g : Frame) → frame_view f ≡ frame_view g → (carried : List Out) (before ls : List (Op S)) (behind rs : List (Op T)) → map op_of before ≡ map op_of behind → map op_of ls ≡ map op_of rs
    → are_operations f carried before ls ≡ are_operations g carried behind rs
operations_same f g framed carried before [] behind [] h e = refl
operations_same f g framed carried before [] behind (b ∷ rs) h e = absurd cc
operations_same f g framed carried before (a ∷ ls) behind [] h e = absurd cc
operations_same f g framed carried before (a ∷ ls) behind (b ∷ rs) h e =
    let first : op_of a ≡ op_of b = cc in
    let rest : map op_of ls ≡ map op_of rs = cc in
    let more : map op_of (before ++ a ∷ []) ≡ map op_of (behind ++ b ∷ []) =
    map-append op_of before (a ∷ []) ∙ (ap₂ (λ (l : List OpTree) (t : OpTree). l ++ t ∷ []) h first ∙ sym (map-append op_of behind (b ∷ []))) in
    both_same (operation_same f g framed carried before behind h a b first) (operations_same f g framed carried (before ++ a ∷ []) ls (behind ++ b ∷ []) rs more rest)
