-- Bodies are valid alike that are the same but for their times.
use Rattle.std.proofs.Common.{◌≡◌, ◌∙◌, ◌^◌, ℕ, zero, suc, not, refl, sym, ap, ap₂, Bool, List, [], ◌∷◌, length, map, take, Option}
use Rattle.std.specs.Prelude.{nat_lt, is_none}
use Rattle.std.specs.List.{list_all}
use Rattle.ir_core.specs.declared.body.Body.{Body}
use Rattle.ir_core.specs.declared.body.Op.{Op}
use Rattle.ir_core.specs.declared.body.Operand.{Operand}
use Rattle.ir_core.specs.declared.body.Out.{Out}
use Rattle.ir_core.specs.declared.cfg.Frame.{Frame}
use Rattle.dep_graph.specs.Meetings.{is_store}
use Rattle.ir_core.specs.Bodies.{OpTree, op_of}
use Rattle.ir_core.specs.TreeRuns.{tested}
use Rattle.ir_lower.specs.Frames.{FrameView, frame_view}
use Rattle.program_validity.specs.Operands.{is_operand_if}
use Rattle.program_validity.specs.Bodies.{is_out, is_body, is_block_body, is_result_out, name_different, is_no_store, stores_wait, is_loop_body}
use Rattle.timed_pieces.proofs.TimedValidity.Lists.{both_same, all_same, same_length}
use Rattle.timed_pieces.proofs.TimedValidity.Operands.{operand_if_same}
use Rattle.timed_pieces.proofs.TimedValidity.Operations.{out_same, operations_same}

-- two bodies with the same operations but for their times
pub record IsSameBody {S T : Type 0} (b : Body S) (c : Body T) : Type 0 where
  pub ops : map op_of b.ops.items ≡ map op_of c.ops.items
  pub outs : b.outs.items ≡ c.outs.items
  pub test : b.test ≡ c.test

-- ---- stores

abbrev waits : OpTree → Bool
waits t = not (is_store t.kind)

waiting : {S : Type 0} (n : ℕ) (ops : List (Op S)) → list_all is_no_store (take n ops) ≡ list_all waits (take n (map op_of ops))
waiting zero [] = refl
waiting (suc n) [] = refl
waiting zero (op ∷ ops) = refl
waiting (suc n) (op ∷ ops) = both_same refl (waiting n ops)

-- ---- bodies

module _ {S T : Type 0} (f g : Frame) (framed : frame_view f ≡ frame_view g) (b : Body S) (c : Body T) (same : IsSameBody b c) where
  body_same : (carried : List Out) → is_body f carried b ≡ is_body g carried c
  body_same carried =
      let few : nat_lt (length b.ops.items) (2 ^ 32) ≡ nat_lt (length c.ops.items) (2 ^ 32) = ap (λ n. nat_lt n (2 ^ 32)) (same_length op_of op_of b.ops.items c.ops.items same.ops) in
      both_same few
      (both_same (operations_same f g framed carried [] b.ops.items [] c.ops.items refl same.ops)
      (all_same (is_out f carried b.ops.items) (is_out g carried c.ops.items) (out_same f g framed carried b.ops.items c.ops.items same.ops) b.outs.items
      ∙ ap (λ (xs : List Out). list_all (is_out g carried c.ops.items) xs) same.outs))

  pub block_body_same : is_block_body f b ≡ is_block_body g c
  block_body_same = both_same (ap (λ (x : Option Operand). is_none x) same.test) (body_same [])

  stores_same : stores_wait b ≡ stores_wait c
  stores_same =
      waiting (tested b.test) b.ops.items ∙ (ap₂ (λ (x : Option Operand) (l : List OpTree). list_all waits (take (tested x) l)) same.test same.ops ∙ sym (waiting (tested c.test) c.ops.items))

  pub loop_body_same : is_loop_body f b ≡ is_loop_body g c
  loop_body_same =
      let widths : f.variables.items ≡ g.variables.items = ap (λ (v : FrameView). v.variables) framed in
      both_same (both_same (body_same b.outs.items ∙ ap (λ (xs : List Out). is_body g xs c) same.outs)
      (operand_if_same f.variables.items g.variables.items widths b.outs.items b.ops.items c.ops.items same.ops 1 b.test
      ∙ ap₂ (λ (xs : List Out) (x : Option Operand). is_operand_if g.variables.items xs c.ops.items 1 x) same.outs same.test))
      (both_same (both_same (ap (λ (xs : List Out). list_all is_result_out xs) same.outs) (ap (λ (xs : List Out). name_different xs) same.outs)) stores_same)
