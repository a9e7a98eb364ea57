-- In blocks that are merged and joined the conversions of constants are computed.
use Rattle.std.specs.Prelude.{if◌then◌else◌}
use Rattle.std.proofs.Common.{◌≡◌, ℕ, Bool, true, false, refl, List, [], ◌∷◌, ◌++◌, map, Option, Some, None, is_some}
use Rattle.ir_core.specs.declared.body.OpKind.TheVariants as o
use Rattle.ir_core.specs.declared.body.Operand.{Operand}
use Rattle.ir_core.specs.declared.body.Out.{Out}
use Rattle.ir_core.specs.Value.{value}
use Rattle.ir_core.specs.Bodies.{OpTree}
use Rattle.ir_core.specs.Trees.{BlockTree}
use Rattle.passes.specs.Numbering as n
use Rattle.passes.specs.Conversion.Joining.{Guard, Joined, renamed, renamed_op, plain, bit_for, bit_in, with_guard, with_taken, with_both, with_bit, needs_guard, with_op, guarded, staying, is_conversion, converted, first_word, by_word, joined_op, joined_ops}
use Rattle.passes.specs.Conversion.Merging.{Branches, Choice, branched, is_taken, choices, selected_bits, with_selection, with_selections, merged, joined}
use Rattle.sound_trees.specs.Loops.{AreComputed}

some_none : {A B : Type 0} {x : A} → Some x ≡ None → B
some_none e = cc

false_true : {A : Type 0} → false ≡ true → A
false_true e = cc

abbrev IsComputed : OpTree → Type 0
IsComputed op = is_conversion op.kind ≡ true → first_word op.args ≡ None

pub computed_more : (xs : List OpTree) (op : OpTree) → AreComputed xs → IsComputed op → AreComputed (xs ++ op ∷ [])
computed_more [] op h k = (k, tt)
computed_more (x ∷ xs) op h k = (h.0, computed_more xs op h.1 k)

taken_computed : (test : Operand) (s : Joined) → AreComputed s.ops → AreComputed (with_taken test s).ops
taken_computed test s h = by (is_some (bit_for s.guards None)) where
  by : (c : Bool) → AreComputed (if c then s else with_guard s None (plain o.Not 1 (test ∷ []))).ops
  by true = h
  by false = computed_more s.ops (plain o.Not 1 (test ∷ [])) h (λ e. false_true e)

bit_computed : (test : Operand) (s : Joined) (own : Option Operand) → AreComputed s.ops → AreComputed (with_bit test s own).ops
bit_computed test s None h = taken_computed test s h
bit_computed test s (Some own) h = by (is_some (bit_for s.guards (Some own))) where
  by : (c : Bool) → AreComputed (if c then s else with_both (with_taken test s) own).ops
  by true = h
  by false = computed_more (with_taken test s).ops (plain o.And 1 (bit_in (with_taken test s) None ∷ own ∷ [])) (taken_computed test s h) (λ e. false_true e)

staying_computed : (test : Option Operand) (s : Joined) (op : OpTree) → AreComputed s.ops → IsComputed op → AreComputed (staying test s op).ops
staying_computed None s op h k = computed_more s.ops (record op { guard = op.guard }) h k
staying_computed (Some test) s op h k = by (needs_guard op) where
  by : (c : Bool) → AreComputed (if c then guarded (with_bit test s op.guard) op else with_op s op op.guard).ops
  by true = computed_more (with_bit test s op.guard).ops (record op { guard = Some (bit_in (with_bit test s op.guard) op.guard) }) (bit_computed test s op.guard h) k
  by false = computed_more s.ops (record op { guard = op.guard }) h k

-- an operation that is not computed
left_open : (op : OpTree) (from : ℕ) (x : Option ℕ) → converted op from x ≡ None → is_conversion op.kind ≡ true → x ≡ None
left_open op from None e c = refl
left_open op from (Some w) e c = by (is_conversion op.kind) c e where
  by : (d : Bool) → d ≡ true → (if d then Some (value op.kind op.signed op.bits from (w ∷ [])) else None) ≡ None → Some w ≡ None
  by true q k = some_none k
  by false q k = false_true q

step_computed : (widths : List ℕ) (outs : List Out) (test : Option Operand) (s : Joined) (op : OpTree) → AreComputed s.ops → AreComputed (joined_op widths outs test s op).ops
step_computed widths outs test s op h = by (converted (renamed_op outs s.values op) (n.first_bits widths s.values op.bits op.args) (first_word (map (renamed outs s.values) op.args))) refl where
  by : (x : Option ℕ) → converted (renamed_op outs s.values op) (n.first_bits widths s.values op.bits op.args) (first_word (map (renamed outs s.values) op.args)) ≡ x → AreComputed (by_word test s (renamed_op outs s.values op) x).ops
  by (Some w) e = h
  by None e =
      staying_computed test s (renamed_op outs s.values op) h (left_open (renamed_op outs s.values op) (n.first_bits widths s.values op.bits op.args) (first_word (map (renamed outs s.values) op.args)) e)

pub ops_computed : (widths : List ℕ) (outs : List Out) (test : Option Operand) (s : Joined) (ops : List OpTree) → AreComputed s.ops → AreComputed (joined_ops widths outs test s ops).ops
ops_computed widths outs test s [] h = h
ops_computed widths outs test s (op ∷ ops) h = ops_computed widths outs test (joined_op widths outs test s op) ops (step_computed widths outs test s op h)

branched_computed : (widths : List ℕ) (ops : List OpTree) (outs : List Out) (test : Option Operand) (guards : List Guard) (x : Option BlockTree) → AreComputed ops → AreComputed (branched widths ops outs test guards x).ops
branched_computed widths ops outs test guards None h = h
branched_computed widths ops outs test guards (Some b) h = ops_computed widths outs test (record { ops = ops; values = []; guards = guards }) b.ops h

selections_computed : (widths : List ℕ) (test : Operand) (cs : List Choice) (b : BlockTree) → AreComputed b.ops → AreComputed (with_selections widths test b cs).ops
selections_computed widths test [] b h = h
selections_computed widths test (c ∷ cs) b h =
    selections_computed widths test cs (with_selection widths test b c) (computed_more b.ops (plain o.Select (selected_bits widths c.variable) (test ∷ c.yes_ ∷ c.no_ ∷ [])) h (λ e. false_true e))

pub merged_computed : (widths : List ℕ) (b : BlockTree) (f : Branches) → AreComputed b.ops → AreComputed (merged widths b f).ops
merged_computed widths b f h =
    let yes_ = branched widths b.ops b.outs (Some f.test) (is_taken f.test) f.yes_ in
    let no_ = branched widths yes_.ops b.outs (Some f.test) [] f.no_ in
    selections_computed widths f.test (choices b.outs yes_.outs no_.outs) (record b { ops = no_.ops })
    (branched_computed widths yes_.ops b.outs (Some f.test) [] f.no_ (branched_computed widths b.ops b.outs (Some f.test) (is_taken f.test) f.yes_ h))

pub joined_computed : (widths : List ℕ) (b after : BlockTree) → AreComputed b.ops → AreComputed (joined widths b after).ops
joined_computed widths b after h = ops_computed widths b.outs None (record { ops = b.ops; values = []; guards = [] }) after.ops h
