-- What blocks come to that are opened, merged and joined, and the iterations of loops.
use Rattle.std.proofs.Common.{◌≡◌, ◌≤◌, ℕ, ◌+◌, not, refl, arith, List, [], ◌∷◌, map, length, length-append, Option, Some, None}
use Rattle.std.proofs.lemmas.List.{length-map}
use Rattle.std.proofs.lemmas.List.Sums.{length-filter, count_by-le-length, sum_by-cons}
use Rattle.ir_core.specs.declared.body.OpKind.TheVariants as o
use Rattle.ir_core.specs.declared.body.Operand.{Operand}
use Rattle.ir_core.specs.declared.body.Out.{Out}
use Rattle.ir_core.specs.Bodies.{OpTree}
use Rattle.ir_core.specs.Trees.{BlockTree}
use Rattle.passes.specs.Conversion.Outs.{is_set}
use Rattle.passes.specs.Conversion.Joining.{Guard, Joined, plain, renamed_out, next_result, joined_ops}
use Rattle.passes.specs.Conversion.Merging.{Branches, Branched, Choice, opened, branched, is_taken, choice, others, choices_for, choices, selected_bits, with_selection, with_selections, merged, joined}
use Rattle.passes.specs.Conversion.Overlapping.{carried_op, carried_out, iteration}
use Rattle.passes.specs.Totals.{Measure, operations, settings}
use Rattle.program_sizes.proofs.ConvertedOperations.Demands.{guards_for, guards_for_all, demands}
use Rattle.program_sizes.proofs.ConvertedOperations.Joined.{with_out_adds, with_outs_add, Adds, none_added, one_added, behind_adds, joined_branch_adds}

-- a block that may be there
abbrev pub of_option : Measure → Option BlockTree → ℕ
of_option m None = 0
of_option m (Some b) = m.of_block b

abbrev guards_of : Option BlockTree → ℕ
guards_of None = 0
guards_of (Some b) = guards_for_all b.ops

demands_of : (x : Option BlockTree) → of_option demands x ≡ guards_of x + of_option settings x
demands_of None = omega arith
demands_of (Some b) = refl

-- ---- branches

record IsBranched (before : List OpTree) (x : Option BlockTree) (r : Branched) : Type 0 where
  ops : Adds before r.ops (of_option operations x + guards_of x + 1) (guards_of x)
  outs : length r.outs ≤ of_option settings x

branch_size : (widths : List ℕ) (ops : List OpTree) (outs : List Out) (test : Operand) (guards : List Guard) (x : Option BlockTree) → IsBranched ops x (branched widths ops outs (Some test) guards x)
branch_size widths ops outs test guards None = record { ops = none_added ops _ _; outs = omega arith }
branch_size widths ops outs test guards (Some b) =
    let start : Joined = record { ops = ops; values = []; guards = guards } in
    let s = joined_ops widths outs (Some test) start b.ops in
    let one = length-map b.outs (renamed_out outs s.values) in
    let two = with_outs_add [] (map (renamed_out outs s.values) b.outs) in
    record { ops = joined_branch_adds widths outs test start b.ops; outs = omega (arith, one, two) }

-- ---- selections

choices_at_most : (outs yes_ no_ : List Out) → length (choices outs yes_ no_) ≤ length yes_ + length no_
choices_at_most outs yes_ no_ =
    let rest = others yes_ no_ in
    let e = length-append (choices_for outs yes_ no_ yes_) (choices_for outs yes_ no_ rest) in
    let one = length-map yes_ (λ x. choice outs yes_ no_ x.variable) in
    let two = length-map rest (λ x. choice outs yes_ no_ x.variable) in
    let three = length-filter (λ x. not (is_set yes_ x.variable)) no_ in
    let four = count_by-le-length (λ x. not (is_set yes_ x.variable)) no_ in
    omega (arith, e, one, two, three, four)

-- a block to which at most n selections are added
record IsSelected (b : BlockTree) (n : ℕ) (c : BlockTree) : Type 0 where
  ops : Adds b.ops c.ops n 0
  outs : length c.outs ≤ length b.outs + n

selection_size : (widths : List ℕ) (test : Operand) (b : BlockTree) (c : Choice) → IsSelected b 1 (with_selection widths test b c)
selection_size widths test b c = record { ops = one_added b.ops (plain o.Select (selected_bits widths c.variable) (test ∷ c.yes_ ∷ c.no_ ∷ [])); outs = with_out_adds b.outs c.variable (next_result b.ops) }

selections_size : (widths : List ℕ) (test : Operand) (b : BlockTree) (cs : List Choice) → IsSelected b (length cs) (with_selections widths test b cs)
selections_size widths test b [] = record { ops = none_added b.ops 0 0; outs = omega arith }
selections_size widths test b (c ∷ cs) =
    let d = with_selection widths test b c in
    let h = selection_size widths test b c in
    let g = selections_size widths test d cs in
    let one = h.ops.operations in
    let two = g.ops.operations in
    let three = h.ops.guards in
    let four = g.ops.guards in
    let five = h.outs in
    let six = g.outs in
    record { ops = record { operations = omega (arith, one, two); guards = omega (arith, three, four) }; outs = omega (arith, five, six) }

-- ---- blocks

-- Merging adds an operation for each one that needs a guard and for each variable that is set in a branch, and one for each branch.
pub record IsMerged (b : BlockTree) (f : Branches) (c : BlockTree) : Type 0 where
  pub ops : operations.of_block c ≤ operations.of_block b + of_option operations f.yes_ + of_option operations f.no_ + of_option demands f.yes_ + of_option demands f.no_ + 2
  pub demand : demands.of_block c ≤ demands.of_block b + of_option demands f.yes_ + of_option demands f.no_
  pub outs : settings.of_block c ≤ settings.of_block b + of_option settings f.yes_ + of_option settings f.no_

pub merged_size : (widths : List ℕ) (b : BlockTree) (f : Branches) → IsMerged b f (merged widths b f)
merged_size widths b f =
    let yes_ = branched widths b.ops b.outs (Some f.test) (is_taken f.test) f.yes_ in
    let y = branch_size widths b.ops b.outs f.test (is_taken f.test) f.yes_ in
    let no_ = branched widths yes_.ops b.outs (Some f.test) [] f.no_ in
    let z = branch_size widths yes_.ops b.outs f.test [] f.no_ in
    let cs = choices b.outs yes_.outs no_.outs in
    let few = choices_at_most b.outs yes_.outs no_.outs in
    let s = selections_size widths f.test (record b { ops = no_.ops }) cs in
    let one = y.ops.operations in
    let two = z.ops.operations in
    let three = s.ops.operations in
    let four = y.ops.guards in
    let five = z.ops.guards in
    let six = s.ops.guards in
    let seven = y.outs in
    let eight = z.outs in
    let nine = s.outs in
    let ten = demands_of f.yes_ in
    let eleven = demands_of f.no_ in
    record {
      ops = omega (arith, few, one, two, three, seven, eight, ten, eleven);
      demand = omega (arith, few, four, five, six, seven, eight, nine, ten, eleven);
      outs = omega (arith, few, seven, eight, nine);
    }

-- what is no more of blocks that are opened or joined, and of iterations, than of their parts
pub record IsJoinable (m : Measure) : Type 0 where
  pub opening : (b : BlockTree) → m.of_block (opened b) ≤ m.of_block b
  pub joining : (widths : List ℕ) (b after : BlockTree) → m.of_block (joined widths b after) ≤ m.of_block b + m.of_block after
  pub iterating : (test : Operand) (b : BlockTree) → m.of_body (iteration test b) ≤ m.of_block b

joined_ops_add : (widths : List ℕ) (b after : BlockTree) → Adds b.ops (joined widths b after).ops (length after.ops) (guards_for_all after.ops)
joined_ops_add widths b after = behind_adds widths b.outs (record { ops = b.ops; values = []; guards = [] }) after.ops

joined_outs_add : (widths : List ℕ) (b after : BlockTree) → length (joined widths b after).outs ≤ length b.outs + length after.outs
joined_outs_add widths b after =
    let start : Joined = record { ops = b.ops; values = []; guards = [] } in
    let s = joined_ops widths b.outs None start after.ops in
    let one = length-map after.outs (renamed_out b.outs s.values) in
    let two = with_outs_add b.outs (map (renamed_out b.outs s.values) after.outs) in
    omega (arith, one, two)

carried_guards : (outs : List Out) (ops : List OpTree) → guards_for_all (map (carried_op outs) ops) ≡ guards_for_all ops
carried_guards outs [] = refl
carried_guards outs (op ∷ ops) =
    let one = sum_by-cons guards_for op ops in
    let two = sum_by-cons guards_for (carried_op outs op) (map (carried_op outs) ops) in
    let h = carried_guards outs ops in
    omega (arith, one, two, h)

pub joinable_operations : IsJoinable operations
joinable_operations = record {
  opening = λ b. omega arith;
  joining = λ widths b after. let h = joined_ops_add widths b after in let one = h.operations in omega (arith, one);
  iterating = λ test b. let e = length-map b.ops (carried_op b.outs) in omega (arith, e);
}

pub joinable_settings : IsJoinable settings
joinable_settings = record {
  opening = λ b. let h = with_outs_add [] b.outs in omega (arith, h);
  joining = λ widths b after. joined_outs_add widths b after;
  iterating = λ test b. let e = length-map b.outs (carried_out b.outs) in omega (arith, e);
}

pub joinable_demands : IsJoinable demands
joinable_demands = record {
  opening = λ b. let h = with_outs_add [] b.outs in omega (arith, h);
  joining = λ widths b after. let h = joined_ops_add widths b after in let one = h.guards in let two = joined_outs_add widths b after in omega (arith, one, two);
  iterating = λ test b. let one = carried_guards b.outs b.ops in let two = length-map b.outs (carried_out b.outs) in omega (arith, one, two);
}
