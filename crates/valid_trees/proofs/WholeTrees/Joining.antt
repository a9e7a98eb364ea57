-- Blocks that are joined and merged name what the blocks named.
use Rattle.std.proofs.Common.{◌<◌, ℕ, Bool, true, false, not, filter, List, [], ◌∷◌, ◌++◌, map, Option, Some, None, is_some}
use Rattle.std.specs.Prelude.{◌==◌, if◌then◌else◌}
use Rattle.hls_base.specs.declared.number.VarId.{VarId}
use Rattle.ir_core.specs.declared.body.OpKind.TheVariants as o
use Rattle.ir_core.specs.declared.body.Operand.{Operand}
use Rattle.ir_core.specs.declared.body.Out.{Out}
use Rattle.ir_core.specs.Bodies.{OpTree}
use Rattle.ir_core.specs.Trees.{BlockTree}
use Rattle.passes.specs.Numbering as n
use Rattle.passes.specs.Numbering.{Value}
use Rattle.passes.specs.Conversion.Outs.{out, is_set, with_out, with_outs}
use Rattle.passes.specs.Conversion.Joining.{Guard, Joined, renamed, renamed_op, renamed_out, next_result, plain, bit_for, bit_in, with_guard, with_taken, with_both, with_bit, needs_guard, with_op, guarded, staying, converted, first_word, by_word, joined_op, joined_ops}
use Rattle.passes.specs.Conversion.Merging.{Branches, Choice, opened, branched, is_taken, choices_for, choices, others, selected_bits, with_selection, with_selections, merged, joined}
use Rattle.passes.specs.Conversion.Overlapping.{carried_op, carried_out, iteration}
use Rattle.flat_programs.specs.Machine.Held.{IsThere}
use Rattle.flat_programs.specs.Machine.States.{VariablesThere}
use Rattle.flat_programs.specs.There.{OperationsThere, BodyThere}
use Rattle.valid_trees.proofs.WholeTrees.Adding.{ops_more}

module _ (variables : ℕ) (dims : List (List ℕ)) where
  abbrev There : List OpTree → Type 0
  There = OperationsThere variables dims

  abbrev pub BlockThere : BlockTree → Type 0
  BlockThere b = BodyThere variables dims b.ops b.outs

  abbrev pub MayBeThere : Option BlockTree → Type 0
  MayBeThere None = Unit {0}
  MayBeThere (Some b) = BlockThere b

  -- ---- outs

  out_there : (os : List Out) (v : VarId) (x : Operand) → VariablesThere os variables → v.0 < variables → VariablesThere (with_out os v x) variables
  out_there [] v x h k = (k, tt)
  out_there (o ∷ os) v x h k = by (v.0 == o.variable.0) (out_there os v x h.1 k) where
    by : (c : Bool) → VariablesThere (with_out os v x) variables → VariablesThere (if c then out o.variable x ∷ os else o ∷ with_out os v x) variables
    by true q = (h.0, h.1)
    by false q = (h.0, q)

  outs_there : (os xs : List Out) → VariablesThere os variables → VariablesThere xs variables → VariablesThere (with_outs os xs) variables
  outs_there os [] h k = h
  outs_there os (x ∷ xs) h k = outs_there (with_out os x.variable x.value) xs (out_there os x.variable x.value h k.0) k.1

  renamed_there : (outs : List Out) (values : List Value) (xs : List Out) → VariablesThere xs variables → VariablesThere (map (renamed_out outs values) xs) variables
  renamed_there outs values [] h = tt
  renamed_there outs values (x ∷ xs) h = (h.0, renamed_there outs values xs h.1)

  pub opened_there : (b : BlockTree) → BlockThere b → BlockThere (opened b)
  opened_there b h = (outs_there [] b.outs tt h.0, h.1)

  -- ---- operations

  guard_there : (s : Joined) (own : Option Operand) (kind : _) (xs : List Operand) → There s.ops → There (with_guard s own (plain kind 1 xs)).ops
  guard_there s own kind xs h = ops_more variables dims s.ops (plain kind 1 xs) h tt

  taken_there : (test : Operand) (s : Joined) → There s.ops → There (with_taken test s).ops
  taken_there test s h = by (is_some (bit_for s.guards None)) where
    by : (c : Bool) → There (if c then s else with_guard s None (plain o.Not 1 (test ∷ []))).ops
    by true = h
    by false = guard_there s None o.Not (test ∷ []) h

  bit_there : (test : Operand) (s : Joined) (own : Option Operand) → There s.ops → There (with_bit test s own).ops
  bit_there test s None h = taken_there test s h
  bit_there test s (Some own) h = by (is_some (bit_for s.guards (Some own))) where
    by : (c : Bool) → There (if c then s else with_both (with_taken test s) own).ops
    by true = h
    by false = guard_there (with_taken test s) (Some own) o.And (bit_in (with_taken test s) None ∷ own ∷ []) (taken_there test s h)

  op_there : (s : Joined) (op : OpTree) (guard : Option Operand) → There s.ops → IsThere op.array dims → There (with_op s op guard).ops
  op_there s op guard h k = ops_more variables dims s.ops (record op { guard = guard }) h k

  staying_there : (test : Option Operand) (s : Joined) (op : OpTree) → There s.ops → IsThere op.array dims → There (staying test s op).ops
  staying_there None s op h k = op_there s op op.guard h k
  staying_there (Some test) s op h k = by (needs_guard op) where
    by : (c : Bool) → There (if c then guarded (with_bit test s op.guard) op else with_op s op op.guard).ops
    by true = op_there (with_bit test s op.guard) op (Some (bit_in (with_bit test s op.guard) op.guard)) (bit_there test s op.guard h) k
    by false = op_there s op op.guard h k

  word_there : (test : Option Operand) (s : Joined) (op : OpTree) (x : Option ℕ) → There s.ops → IsThere op.array dims → There (by_word test s op x).ops
  word_there test s op (Some w) h k = h
  word_there test s op None h k = staying_there test s op h k

  joined_there : (widths : List ℕ) (outs : List Out) (test : Option Operand) (s : Joined) (ops : List OpTree) → There s.ops → There ops → There (joined_ops widths outs test s ops).ops
  joined_there widths outs test s [] h k = h
  joined_there widths outs test s (op ∷ ops) h k =
      joined_there widths outs test (joined_op widths outs test s op) ops
      (word_there test s (renamed_op outs s.values op) (converted (renamed_op outs s.values op) (n.first_bits widths s.values op.bits op.args) (first_word (map (renamed outs s.values) op.args))) h k.0) k.1

  -- ---- branches

  branched_ops : (widths : List ℕ) (ops : List OpTree) (outs : List Out) (test : Option Operand) (guards : List Guard) (x : Option BlockTree) → There ops → MayBeThere x → There (branched widths ops outs test guards x).ops
  branched_ops widths ops outs test guards None h k = h
  branched_ops widths ops outs test guards (Some b) h k = joined_there widths outs test (record { ops = ops; values = []; guards = guards }) b.ops h k.1

  branched_outs : (widths : List ℕ) (ops : List OpTree) (outs : List Out) (test : Option Operand) (guards : List Guard) (x : Option BlockTree) → MayBeThere x → VariablesThere (branched widths ops outs test guards x).outs variables
  branched_outs widths ops outs test guards None k = tt
  branched_outs widths ops outs test guards (Some b) k =
      let j = joined_ops widths outs test (record { ops = ops; values = []; guards = guards }) b.ops in
      outs_there [] (map (renamed_out outs j.values) b.outs) tt (renamed_there outs j.values b.outs k.0)

  -- ---- selections

  abbrev ChoicesThere : List Choice → Type 0
  ChoicesThere [] = Unit {0}
  ChoicesThere (c ∷ cs) = (c.variable.0 < variables) × ChoicesThere cs

  for_there : (outs yes_ no_ xs : List Out) → VariablesThere xs variables → ChoicesThere (choices_for outs yes_ no_ xs)
  for_there outs yes_ no_ [] h = tt
  for_there outs yes_ no_ (x ∷ xs) h = (h.0, for_there outs yes_ no_ xs h.1)

  both_there : (cs ds : List Choice) → ChoicesThere cs → ChoicesThere ds → ChoicesThere (cs ++ ds)
  both_there [] ds h k = k
  both_there (c ∷ cs) ds h k = (h.0, both_there cs ds h.1 k)

  filter_there : (p : Out → Bool) (xs : List Out) → VariablesThere xs variables → VariablesThere (filter p xs) variables
  filter_there p [] h = tt
  filter_there p (x ∷ xs) h = by (p x) (filter_there p xs h.1) where
    by : (c : Bool) → VariablesThere (filter p xs) variables → VariablesThere (if c then x ∷ filter p xs else filter p xs) variables
    by true q = (h.0, q)
    by false q = q

  choices_there : (outs yes_ no_ : List Out) → VariablesThere yes_ variables → VariablesThere no_ variables → ChoicesThere (choices outs yes_ no_)
  choices_there outs yes_ no_ h k =
      both_there (choices_for outs yes_ no_ yes_) (choices_for outs yes_ no_ (others yes_ no_)) (for_there outs yes_ no_ yes_ h) (for_there outs yes_ no_ (others yes_ no_) (filter_there (λ x. not (is_set yes_ x.variable)) no_ k))

  selections_there : (widths : List ℕ) (test : Operand) (cs : List Choice) (b : BlockTree) → ChoicesThere cs → BlockThere b → BlockThere (with_selections widths test b cs)
  selections_there widths test [] b k h = h
  selections_there widths test (c ∷ cs) b k h =
      selections_there widths test cs (with_selection widths test b c) k.1
      (out_there b.outs c.variable (next_result b.ops) h.0 k.0, ops_more variables dims b.ops (plain o.Select (selected_bits widths c.variable) (test ∷ c.yes_ ∷ c.no_ ∷ [])) h.1 tt)

  -- ---- blocks

  pub merged_there : (widths : List ℕ) (b : BlockTree) (f : Branches) → BlockThere b → MayBeThere f.yes_ → MayBeThere f.no_ → BlockThere (merged widths b f)
  merged_there widths b f h y z =
      let yes_ = branched widths b.ops b.outs (Some f.test) (is_taken f.test) f.yes_ in
      let no_ = branched widths yes_.ops b.outs (Some f.test) [] f.no_ in
      let yes_ops = branched_ops widths b.ops b.outs (Some f.test) (is_taken f.test) f.yes_ h.1 y in
      selections_there widths f.test (choices b.outs yes_.outs no_.outs) (record b { ops = no_.ops })
      (choices_there b.outs yes_.outs no_.outs (branched_outs widths b.ops b.outs (Some f.test) (is_taken f.test) f.yes_ y) (branched_outs widths yes_.ops b.outs (Some f.test) [] f.no_ z))
      (h.0, branched_ops widths yes_.ops b.outs (Some f.test) [] f.no_ yes_ops z)

  pub behind_there : (widths : List ℕ) (b after : BlockTree) → BlockThere b → BlockThere after → BlockThere (joined widths b after)
  behind_there widths b after h k =
      let j = joined_ops widths b.outs None (record { ops = b.ops; values = []; guards = [] }) after.ops in
      (outs_there b.outs (map (renamed_out b.outs j.values) after.outs) h.0 (renamed_there b.outs j.values after.outs k.0), joined_there widths b.outs None (record { ops = b.ops; values = []; guards = [] }) after.ops h.1 k.1)

  -- ---- iterations

  carried_ops : (outs : List Out) (ops : List OpTree) → There ops → There (map (carried_op outs) ops)
  carried_ops outs [] h = tt
  carried_ops outs (op ∷ ops) h = (h.0, carried_ops outs ops h.1)

  carried_outs : (outs xs : List Out) → VariablesThere xs variables → VariablesThere (map (carried_out outs) xs) variables
  carried_outs outs [] h = tt
  carried_outs outs (x ∷ xs) h = (h.0, carried_outs outs xs h.1)

  pub iteration_there : (test : Operand) (b : BlockTree) → BlockThere b → BodyThere variables dims (iteration test b).ops (iteration test b).outs
  iteration_there test b h = (carried_outs b.outs b.outs h.0, carried_ops b.outs b.ops h.1)
