-- What is joined to a block is ready.
use Rattle.std.specs.Prelude.{◌==◌, slice_get, if◌then◌else◌}
use Rattle.std.specs.Option.{option_map, option_eq}
use Rattle.std.proofs.Common.{◌≡◌, ℕ, zero, suc, Bool, true, false, refl, sym, subst, arith, List, [], ◌∷◌, ◌++◌, map, Option, Some, None, is_some}
use Rattle.hls_base.specs.declared.number.VarId.{VarId}
use Rattle.ir_core.specs.declared.body.OpKind.TheVariants as o
use Rattle.ir_core.specs.declared.body.Operand.{Operand}
use Rattle.ir_core.specs.declared.body.Out.{Out}
use Rattle.ir_core.specs.declared.body.Source.{Source}
use Rattle.ir_core.specs.declared.body.Source.TheVariants as source
use Rattle.ir_core.specs.Bodies.{OpTree, Shapes}
use Rattle.ir_core.specs.Trees.{ExitTree, next, branch, choose, break_, continue_, leave}
use Rattle.passes.specs.Numbering.Equal.{operand_eq}
use Rattle.passes.specs.Numbering as n
use Rattle.passes.specs.Numbering.{Value, constant, operand_or}
use Rattle.passes.specs.Conversion.Outs.{out, entry_value, held_or, with_out, with_outs}
use Rattle.passes.specs.Conversion.Joining.{Guard, Joined, standing_for, renamed, renamed_op, renamed_out, renamed_exit, next_result, plain, bit_for, or_constant, bit_in, with_guard, with_taken, with_both, with_bit, needs_guard, with_op, guarded, staying, converted, first_word, by_word, joined_op, joined_ops}
use Rattle.pass_runs.specs.ConvertRuns.Typed.{HasBits, OpIsTyped, OpsAreTyped}
use Rattle.pass_runs.proofs.ConvertRuns.Joining.{TestHas, IsSound, renamed_has, guard_renamed, bit_sound, bit_grows, joined_sound}
use Rattle.sound_trees.specs.Ready.{IsNear, AreNear, IsNearIf, OutsAreNear, ExitIsNear, OpIsReady, OpsAreReady}
use Rattle.sound_trees.proofs.Adding.{ready_more}
use Rattle.sound_trees.proofs.Renamed.{ready_as}

-- ---- outs

pub held_near : (outs : List Out) (v : VarId) (x : Operand) → OutsAreNear outs → IsNear x → IsNear (held_or outs v x)
held_near [] v x h n = n
held_near (y ∷ ys) v x h n = by (v.0 == y.variable.0) (held_near ys v x h.1 n) where
  by : (c : Bool) → IsNear (held_or ys v x) → IsNear (if c then y.value else held_or ys v x)
  by true k = h.0
  by false k = k

pub out_near : (outs : List Out) (v : VarId) (x : Operand) → OutsAreNear outs → IsNear x → OutsAreNear (with_out outs v x)
out_near [] v x h n = (n, tt)
out_near (y ∷ ys) v x h n = by (v.0 == y.variable.0) (out_near ys v x h.1 n) where
  by : (c : Bool) → OutsAreNear (with_out ys v x) → OutsAreNear (if c then out y.variable x ∷ ys else y ∷ with_out ys v x)
  by true k = (n, h.1)
  by false k = (h.0, k)

pub outs_near : (outs xs : List Out) → OutsAreNear outs → OutsAreNear xs → OutsAreNear (with_outs outs xs)
outs_near outs [] h k = h
outs_near outs (x ∷ xs) h k = outs_near (with_out outs x.variable x.value) xs (out_near outs x.variable x.value h k.0) k.1

-- ---- values and guards

abbrev pub ValuesAreNear : List Value → Type 0
ValuesAreNear [] = Unit {0}
ValuesAreNear (v ∷ vs) = IsNear v.operand × ValuesAreNear vs

value_near : (vs : List Value) (i : ℕ) (x : Operand) → ValuesAreNear vs → IsNear x → IsNear (operand_or (slice_get vs i) x)
value_near [] i x h n = n
value_near (v ∷ vs) zero x h n = h.0
value_near (v ∷ vs) (suc i) x h n = value_near vs i x h.1 n

values_more : (vs : List Value) (v : Value) → ValuesAreNear vs → IsNear v.operand → ValuesAreNear (vs ++ v ∷ [])
values_more [] v h n = (n, tt)
values_more (w ∷ vs) v h n = (h.0, values_more vs v h.1 n)

abbrev pub BitsAreNear : List Guard → Type 0
BitsAreNear [] = Unit {0}
BitsAreNear (g ∷ gs) = IsNear g.bit × BitsAreNear gs

bits_more : (gs : List Guard) (g : Guard) → BitsAreNear gs → IsNear g.bit → BitsAreNear (gs ++ g ∷ [])
bits_more [] g h n = (n, tt)
bits_more (x ∷ gs) g h n = (h.0, bits_more gs g h.1 n)

bit_near : (gs : List Guard) (own : Option Operand) → BitsAreNear gs → IsNear (or_constant (bit_for gs own))
bit_near [] own h = refl
bit_near (g ∷ gs) own h = by (option_eq operand_eq own g.own) (bit_near gs own h.1) where
  by : (c : Bool) → IsNear (or_constant (bit_for gs own)) → IsNear (or_constant (if c then Some g.bit else bit_for gs own))
  by true k = h.0
  by false k = k

-- ---- operands

module _ (outs_ : List Out) (outs_here : OutsAreNear outs_) where
  pub renamed_near : (values : List Value) → ValuesAreNear values → (x : Operand) → IsNear x → IsNear (renamed outs_ values x)
  renamed_near values h x n = by x.value where
    by : (s : Source) → IsNear (standing_for outs_ values x s)
    by (source.Constant w) = n
    by (source.Variable v) = held_near outs_ v (entry_value v) outs_here refl
    by (source.Result i) = value_near values i.0 x h n

  pub outs_renamed : (values : List Value) → ValuesAreNear values → (xs : List Out) → OutsAreNear xs → OutsAreNear (map (renamed_out outs_ values) xs)
  outs_renamed values h [] n = tt
  outs_renamed values h (x ∷ xs) n = (renamed_near values h x.value n.0, outs_renamed values h xs n.1)

  cases_renamed : (values : List Value) → ValuesAreNear values → (xs : List Operand) → AreNear xs → AreNear (map (renamed outs_ values) xs)
  cases_renamed values h [] n = tt
  cases_renamed values h (x ∷ xs) n = (renamed_near values h x n.0, cases_renamed values h xs n.1)

  pub exit_renamed : (values : List Value) → ValuesAreNear values → (e : ExitTree) → ExitIsNear e → ExitIsNear (renamed_exit outs_ values e)
  exit_renamed values h next n = tt
  exit_renamed values h (branch test) n = renamed_near values h test n
  exit_renamed values h (choose cases) n = cases_renamed values h cases n
  exit_renamed values h break_ n = tt
  exit_renamed values h continue_ n = tt
  exit_renamed values h (leave number) n = tt

  guard_near : (values : List Value) → ValuesAreNear values → (x : Option Operand) → IsNearIf x → IsNearIf (option_map (renamed outs_ values) x)
  guard_near values h None n = tt
  guard_near values h (Some x) n = renamed_near values h x n

  -- ---- operations

  module _ (shapes : Shapes) (words : List ℕ) (stores : Bool) (test : Option Operand) (test_here : IsNearIf test) (base : List OpTree) where
    pub record IsJoined (s : Joined) : Type 0 where
      pub ops : OpsAreReady shapes words stores [] s.ops
      pub values : ValuesAreNear s.values
      pub guards : BitsAreNear s.guards

    abbrev Fits : List OpTree → Joined → Type 0
    Fits = IsSound shapes.widths words outs_ test base

    guard_joined : (s : Joined) (own : Option Operand) (op : OpTree) → IsJoined s → OpIsReady shapes words stores s.ops op → IsJoined (with_guard s own op)
    guard_joined s own op h k = record { ops = ready_more shapes words stores [] s.ops op h.ops k; values = h.values; guards = bits_more s.guards (record { own = own; bit = next_result s.ops }) h.guards refl }

    taken_joined : (s : Joined) (x : Operand) → IsNear x → IsJoined s → IsJoined (with_taken x s)
    taken_joined s x n h = by (is_some (bit_for s.guards None)) where
      by : (c : Bool) → IsJoined (if c then s else with_guard s None (plain o.Not 1 (x ∷ [])))
      by true = h
      by false = guard_joined s None (plain o.Not 1 (x ∷ [])) h (record { args = (n, tt); guard = tt; few = omega arith; kind = tt })

    bit_joined : (s : Joined) (x : Operand) (own : Option Operand) → IsNear x → IsNearIf own → IsJoined s → IsJoined (with_bit x s own)
    bit_joined s x None n g h = taken_joined s x n h
    bit_joined s x (Some own) n g h = by (is_some (bit_for s.guards (Some own))) where
      t : IsJoined (with_taken x s)
      t = taken_joined s x n h

      by : (c : Bool) → IsJoined (if c then s else with_both (with_taken x s) own)
      by true = h
      by false =
          guard_joined (with_taken x s) (Some own) (plain o.And 1 (bit_in (with_taken x s) None ∷ own ∷ [])) t
          (record { args = (bit_near (with_taken x s).guards None t.guards, (g, tt)); guard = tt; few = omega arith; kind = tt })

    module _ (done : List OpTree) (op : OpTree) (k : OpIsReady shapes words stores done op) where
      op_joined : (s : Joined) (values : List Value) (g : Option Operand) → s.values ≡ values → Fits done s → IsJoined s → IsNearIf g → IsJoined (with_op s (renamed_op outs_ values op) g)
      op_joined s values g e f h n =
          let near = subst ValuesAreNear e h.values in
          let has : (x : Operand) (m : ℕ) → HasBits shapes.widths words done m x.value → HasBits shapes.widths words s.ops m (renamed outs_ values x).value =
          λ x m z. subst (λ l. HasBits shapes.widths words s.ops m (renamed outs_ l x).value) e (renamed_has shapes.widths words outs_ test base done s.ops s.values s.guards f x m z) in
          record {
            ops = ready_more shapes words stores [] s.ops (record (renamed_op outs_ values op) { guard = g }) h.ops (ready_as shapes words stores (renamed outs_ values) done s.ops (renamed_near values near) has op g k n);
            values = values_more s.values _ h.values refl;
            guards = h.guards;
          }

      staying_joined : (x : Option Operand) → x ≡ test → (s : Joined) → Fits done s → IsJoined s → OpIsTyped shapes.widths words done op → IsJoined (staying x s (renamed_op outs_ s.values op))
      staying_joined None e s f h t = op_joined s s.values (option_map (renamed outs_ s.values) op.guard) refl f h (guard_near s.values h.values op.guard k.guard)
      staying_joined (Some x) e s f h t = by (needs_guard (renamed_op outs_ s.values op)) where
        own : Option Operand
        own = option_map (renamed outs_ s.values) op.guard

        u : Joined
        u = with_bit x s (option_map (renamed outs_ s.values) op.guard)

        z : TestHas shapes.widths words s.ops (Some x)
        z = subst (TestHas shapes.widths words s.ops) (sym e) f.tests

        fits : Fits done (with_bit x s (option_map (renamed outs_ s.values) op.guard))
        fits =
            bit_sound shapes.widths words outs_ test base done s x (option_map (renamed outs_ s.values) op.guard) z (guard_renamed shapes.widths words outs_ test base done s.ops s.values s.guards f op.guard t.guard) f

        here : IsJoined (with_bit x s (option_map (renamed outs_ s.values) op.guard))
        here = bit_joined s x (option_map (renamed outs_ s.values) op.guard) (subst IsNearIf (sym e) test_here) (guard_near s.values h.values op.guard k.guard) h

        by : (c : Bool) → IsJoined (if c then guarded (with_bit x s (option_map (renamed outs_ s.values) op.guard)) (renamed_op outs_ s.values op) else with_op s (renamed_op outs_ s.values op) (option_map (renamed outs_ s.values) op.guard))
        by true = op_joined u s.values (Some (bit_in u own)) (bit_grows shapes.widths words outs_ test base done s x own) fits here (bit_near u.guards own here.guards)
        by false = op_joined s s.values own refl f h (guard_near s.values h.values op.guard k.guard)

      step_joined : (s : Joined) → Fits done s → IsJoined s → OpIsTyped shapes.widths words done op → IsJoined (joined_op shapes.widths outs_ test s op)
      step_joined s f h t = by (converted (renamed_op outs_ s.values op) (n.first_bits shapes.widths s.values op.bits op.args) (first_word (map (renamed outs_ s.values) op.args))) where
        by : (x : Option ℕ) → IsJoined (by_word test s (renamed_op outs_ s.values op) x)
        by (Some w) = record { ops = h.ops; values = values_more s.values _ h.values refl; guards = h.guards }
        by None = staying_joined test refl s f h t

    pub all_joined : (rest done : List OpTree) (s : Joined) → Fits done s → IsJoined s → OpsAreTyped shapes.widths words done rest → OpsAreReady shapes words stores done rest → IsJoined (joined_ops shapes.widths outs_ test s rest)
    all_joined [] done s f h t k = h
    all_joined (op ∷ rest) done s f h t k =
        all_joined rest (done ++ op ∷ []) (joined_op shapes.widths outs_ test s op) (joined_sound shapes.widths words outs_ test base done s op f t.0) (step_joined done op k.0 s f h t.0) t.1 k.1
