-- How many operations are added where those of one block are joined to another: in a branch one for each that needs a guard, and one for the branch.
use Rattle.std.proofs.Common.{◌≡◌, ◌≤◌, ℕ, ◌+◌, Bool, true, false, refl, arith, List, [], ◌∷◌, ◌++◌, map, length, length-append, Option, Some, None}
use Rattle.std.specs.Prelude.{◌==◌, is_some, if◌then◌else◌}
use Rattle.std.specs.Option.{option_eq}
use Rattle.std.proofs.lemmas.List.Sums.{sum_by-cons, sum_by_push}
use Rattle.hls_base.specs.declared.number.VarId.{VarId}
use Rattle.ir_core.specs.declared.body.OpKind.TheVariants as o
use Rattle.ir_core.specs.declared.body.Operand.{Operand}
use Rattle.ir_core.specs.declared.body.Out.{Out}
use Rattle.ir_core.specs.Bodies.{OpTree}
use Rattle.passes.specs.Numbering.Equal.{operand_eq}
use Rattle.passes.specs.Numbering.{first_bits}
use Rattle.passes.specs.Conversion.Outs.{out, with_out, with_outs}
use Rattle.passes.specs.Conversion.Joining.{Guard, Joined, renamed, renamed_op, plain, next_result, bit_for, bit_in, with_guard, with_taken, with_both, with_bit, needs_guard, with_op, guarded, staying, converted, first_word, by_word, joined_op, joined_ops}
use Rattle.program_sizes.proofs.ConvertedOperations.Demands.{guards_for, guards_for_all}

-- ---- outs

pub with_out_adds : (outs : List Out) (v : VarId) (x : Operand) → length (with_out outs v x) ≤ length outs + 1
with_out_adds [] v x = omega arith
with_out_adds (y ∷ ys) v x = by (v.0 == y.variable.0) (with_out_adds ys v x) where
  by : (same : Bool) → length (with_out ys v x) ≤ length ys + 1 → length (if same then out y.variable x ∷ ys else y ∷ with_out ys v x) ≤ length (y ∷ ys) + 1
  by true h = omega arith
  by false h = omega (arith, h)

pub with_outs_add : (outs xs : List Out) → length (with_outs outs xs) ≤ length outs + length xs
with_outs_add outs [] = omega arith
with_outs_add outs (x ∷ xs) = let one = with_out_adds outs x.variable x.value in let two = with_outs_add (with_out outs x.variable x.value) xs in omega (arith, one, two)

-- ---- operations

-- There are at most n operations more, of which m need a guard.
pub record Adds (before after : List OpTree) (n m : ℕ) : Type 0 where
  pub operations : length after ≤ length before + n
  pub guards : guards_for_all after ≤ guards_for_all before + m

pub none_added : (xs : List OpTree) (n m : ℕ) → Adds xs xs n m
none_added xs n m = record { operations = omega arith; guards = omega arith }

pub one_added : (xs : List OpTree) (op : OpTree) → Adds xs (xs ++ op ∷ []) 1 (guards_for op)
one_added xs op = let one = length-append xs (op ∷ []) in let two = sum_by_push guards_for xs op in record { operations = omega (arith, one); guards = omega (arith, two) }

-- ---- behind a fork

behind_word : (s : Joined) (op : OpTree) (word : Option ℕ) → Adds s.ops (by_word None s op word).ops 1 (guards_for op)
behind_word s op (Some w) = none_added s.ops 1 (guards_for op)
behind_word s op None = one_added s.ops op

pub behind_adds : (widths : List ℕ) (outs : List Out) (s : Joined) (ops : List OpTree) → Adds s.ops (joined_ops widths outs None s ops).ops (length ops) (guards_for_all ops)
behind_adds widths outs s [] = none_added s.ops 0 0
behind_adds widths outs s (op ∷ ops) =
    let u = joined_op widths outs None s op in
    let h : Adds s.ops u.ops 1 (guards_for op) =
    behind_word s (renamed_op outs s.values op) (converted op (first_bits widths s.values op.bits op.args) (first_word (map (renamed outs s.values) op.args))) in
    let g = behind_adds widths outs u ops in
    let more = sum_by-cons guards_for op ops in
    let one = h.operations in
    let two = g.operations in
    let three = h.guards in
    let four = g.guards in
    record { operations = omega (arith, one, two); guards = omega (arith, more, three, four) }

-- ---- the bit of a branch

-- It may yet have to be made.
abbrev pub untaken : List Guard → ℕ
untaken guards = if is_some (bit_for guards None) then 0 else 1

untaken_at_most : (guards : List Guard) → untaken guards ≤ 1
untaken_at_most guards = by (is_some (bit_for guards None)) where
  by : (made : Bool) → (if made then 0 else 1) ≤ 1
  by true = omega arith
  by false = omega arith

taken_found : (guards : List Guard) (bit : Operand) → is_some (bit_for (guards ++ record { own = None; bit = bit } ∷ []) None) ≡ true
taken_found [] bit = refl
taken_found (g ∷ gs) bit = by (option_eq operand_eq None g.own) (taken_found gs bit) where
  by : (same : Bool) → is_some (bit_for (gs ++ record { own = None; bit = bit } ∷ []) None) ≡ true
      → is_some (if same then Some g.bit else bit_for (gs ++ record { own = None; bit = bit } ∷ []) None) ≡ true
  by true h = refl
  by false h = h

-- Another guard leaves the bit that was made.
taken_kept : (guards : List Guard) (g : Guard) → untaken (guards ++ g ∷ []) ≤ untaken guards
taken_kept [] g = untaken_at_most (g ∷ [])
taken_kept (h ∷ hs) g = by (option_eq operand_eq None h.own) (taken_kept hs g) where
  by : (same : Bool) → untaken (hs ++ g ∷ []) ≤ untaken hs
      → (if is_some (if same then Some h.bit else bit_for (hs ++ g ∷ []) None) then 0 else 1) ≤ (if is_some (if same then Some h.bit else bit_for hs None) then 0 else 1)
  by true less = omega arith
  by false less = less

-- ---- in a branch

-- There are at most n operations more, with that of the branch's bit if it may yet be made, and m that need a guard.
record BranchAdds (s t : Joined) (n m : ℕ) : Type 0 where
  operations : length t.ops + untaken t.guards ≤ length s.ops + untaken s.guards + n
  guards : guards_for_all t.ops ≤ guards_for_all s.ops + m

branch_stays : (s : Joined) (n m : ℕ) → BranchAdds s s n m
branch_stays s n m = record { operations = omega arith; guards = omega arith }

taken_adds : (test : Operand) (s : Joined) → BranchAdds s (with_taken test s) 0 0
taken_adds test s = by (is_some (bit_for s.guards None)) refl where
  u : Joined
  u = with_guard s None (plain o.Not 1 (test ∷ []))

  by : (made : Bool) → is_some (bit_for s.guards None) ≡ made → BranchAdds s (if made then s else u) 0 0
  by true e = branch_stays s 0 0
  by false e =
      let h = one_added s.ops (plain o.Not 1 (test ∷ [])) in
      let one = h.operations in
      let two = h.guards in
      let now : untaken u.guards ≡ 0 = rw (taken_found s.guards (next_result s.ops)) refl in
      let before : untaken s.guards ≡ 1 = rw e refl in
      record { operations = omega (arith, one, now, before); guards = omega (arith, two) }

both_adds : (s : Joined) (own : Operand) → BranchAdds s (with_both s own) 1 0
both_adds s own =
    let h = one_added s.ops (plain o.And 1 (bit_in s None ∷ own ∷ [])) in
    let one = h.operations in
    let two = h.guards in
    let three = taken_kept s.guards (record { own = Some own; bit = next_result s.ops }) in
    record { operations = omega (arith, one, three); guards = omega (arith, two) }

bit_adds : (test : Operand) (s : Joined) (own : Option Operand) → BranchAdds s (with_bit test s own) 1 0
bit_adds test s None = let h = taken_adds test s in let one = h.operations in let two = h.guards in record { operations = omega (arith, one); guards = omega (arith, two) }
bit_adds test s (Some own) = by (is_some (bit_for s.guards (Some own))) where
  u : Joined
  u = with_taken test s

  by : (made : Bool) → BranchAdds s (if made then s else with_both u own) 1 0
  by true = branch_stays s 1 0
  by false =
      let h = taken_adds test s in
      let g = both_adds u own in
      let one = h.operations in
      let two = g.operations in
      let three = h.guards in
      let four = g.guards in
      record { operations = omega (arith, one, two); guards = omega (arith, three, four) }

branch_staying : (test : Operand) (s : Joined) (op : OpTree) → BranchAdds s (staying (Some test) s op) (1 + guards_for op) (guards_for op)
branch_staying test s op = by (needs_guard op) where
  u : Joined
  u = with_bit test s op.guard

  by : (needs : Bool) → BranchAdds s (if needs then guarded u op else with_op s op op.guard) (1 + (if needs then 1 else 0)) (guards_for op)
  by true =
      let h = bit_adds test s op.guard in
      let g = one_added u.ops (record op { guard = Some (bit_in u op.guard) }) in
      let one = h.operations in
      let two = g.operations in
      let three = h.guards in
      let four = g.guards in
      record { operations = omega (arith, one, two); guards = omega (arith, three, four) }
  by false = let g = one_added s.ops op in let one = g.operations in let two = g.guards in record { operations = omega (arith, one); guards = omega (arith, two) }

branch_word : (test : Operand) (s : Joined) (op : OpTree) (word : Option ℕ) → BranchAdds s (by_word (Some test) s op word) (1 + guards_for op) (guards_for op)
branch_word test s op (Some w) = record { operations = omega arith; guards = omega arith }
branch_word test s op None = branch_staying test s op

branch_adds : (widths : List ℕ) (outs : List Out) (test : Operand) (s : Joined) (ops : List OpTree) → BranchAdds s (joined_ops widths outs (Some test) s ops) (length ops + guards_for_all ops) (guards_for_all ops)
branch_adds widths outs test s [] = branch_stays s 0 0
branch_adds widths outs test s (op ∷ ops) =
    let u = joined_op widths outs (Some test) s op in
    let h : BranchAdds s u (1 + guards_for op) (guards_for op) =
    branch_word test s (renamed_op outs s.values op) (converted op (first_bits widths s.values op.bits op.args) (first_word (map (renamed outs s.values) op.args))) in
    let g = branch_adds widths outs test u ops in
    let more = sum_by-cons guards_for op ops in
    let one = h.operations in
    let two = g.operations in
    let three = h.guards in
    let four = g.guards in
    record { operations = omega (arith, more, one, two); guards = omega (arith, more, three, four) }

-- with one for the bit of the branch
pub joined_branch_adds : (widths : List ℕ) (outs : List Out) (test : Operand) (s : Joined) (ops : List OpTree)
    → Adds s.ops (joined_ops widths outs (Some test) s ops).ops (length ops + guards_for_all ops + 1) (guards_for_all ops)
joined_branch_adds widths outs test s ops =
    let h = branch_adds widths outs test s ops in
    let one = h.operations in
    let two = h.guards in
    let three = untaken_at_most s.guards in
    record { operations = omega (arith, one, three); guards = omega (arith, two) }
