-- Blocks that are joined and merged name what is there.
use Rattle.std.specs.Prelude.{◌==◌, not, get_or, if◌then◌else◌}
use Rattle.std.specs.Option.{option_map, option_eq}
use Rattle.std.proofs.Common.{◌≡◌, ◌<◌, ◌≤◌, ℕ, Bool, true, false, refl, subst, arith, List, [], ◌∷◌, ◌++◌, map, filter, Option, Some, None, is_some}
use Rattle.hls_base.specs.declared.number.VarId.{VarId}
use Rattle.pieces.specs.Program.{ArrayTree}
use Rattle.ir_core.specs.declared.body.OpKind.TheVariants as o
use Rattle.ir_core.specs.declared.body.Operand.{Operand}
use Rattle.ir_core.specs.declared.body.Out.{Out}
use Rattle.ir_core.specs.declared.body.Source.{Source}
use Rattle.ir_core.specs.declared.body.Source.TheVariants as source
use Rattle.ir_core.specs.Bodies.{OpTree}
use Rattle.ir_core.specs.Trees.{ExitTree, next, branch, choose, break_, continue_, leave, BlockTree}
use Rattle.passes.specs.Numbering.Equal.{operand_eq}
use Rattle.passes.specs.Numbering as n
use Rattle.passes.specs.Numbering.{Value, operand_or}
use Rattle.passes.specs.Conversion.Outs.{out, entry_value, held_or, held, is_set, with_out, with_outs}
use Rattle.passes.specs.Conversion.Joining.{Guard, Joined, standing_for, renamed, renamed_op, renamed_out, renamed_exit, next_result, plain, bit_for, or_constant, bit_in, with_guard, with_taken, with_both, with_bit, needs_guard, with_op, guarded, staying, converted, first_word, by_word, joined_op, joined_ops}
use Rattle.passes.specs.Conversion.Merging.{Branches, Branched, Choice, opened, branched, is_taken, choices_for, choices, others, selected_bits, with_selection, with_selections, merged, joined}
use Rattle.compiled_plans.specs.Operations.{IsNamedAs, OutsNamed, ExitNamed, BlockNamed}
use Rattle.compiled_plans.proofs.NamedAdding.{IsNamed, IsNamedIf, OpNamed, OpsNamed, ops_more}
use Rattle.compiled_plans.proofs.NamedNumbered.{args_renamed, op_as, ValuesNamed, value_named, values_more}

module _ (count : ℕ) (arrays : List ArrayTree) where
  abbrev Named : Operand → Type 0
  Named = IsNamed count arrays

  abbrev NamedIf : Option Operand → Type 0
  NamedIf = IsNamedIf count arrays

  abbrev Outs : List Out → Type 0
  Outs = OutsNamed count arrays

  abbrev Ops : List OpTree → Type 0
  Ops = OpsNamed count arrays

  abbrev B : BlockTree → Type 0
  B = BlockNamed count arrays

  -- ---- outs

  held_named : (outs : List Out) (v : VarId) (x : Operand) → Outs outs → Named x → Named (held_or outs v x)
  held_named [] v x h n = n
  held_named (y ∷ ys) v x h n = by (v.0 == y.variable.0) (held_named ys v x h.1 n) where
    by : (c : Bool) → Named (held_or ys v x) → Named (if c then y.value else held_or ys v x)
    by true k = h.0.1
    by false k = k

  out_named : (outs : List Out) (v : VarId) (x : Operand) → Outs outs → v.0 < count → Named x → Outs (with_out outs v x)
  out_named [] v x h l n = ((l, n), tt)
  out_named (y ∷ ys) v x h l n = by (v.0 == y.variable.0) (out_named ys v x h.1 l n) where
    by : (c : Bool) → Outs (with_out ys v x) → Outs (if c then out y.variable x ∷ ys else y ∷ with_out ys v x)
    by true k = ((h.0.0, n), h.1)
    by false k = (h.0, k)

  outs_named : (outs xs : List Out) → Outs outs → Outs xs → Outs (with_outs outs xs)
  outs_named outs [] h k = h
  outs_named outs (x ∷ xs) h k = outs_named (with_out outs x.variable x.value) xs (out_named outs x.variable x.value h k.0.0 k.0.1) k.1

  -- ---- guards

  abbrev BitsNamed : List Guard → Type 0
  BitsNamed [] = Unit {0}
  BitsNamed (g ∷ gs) = Named g.bit × BitsNamed gs

  bits_more : (gs : List Guard) (g : Guard) → BitsNamed gs → Named g.bit → BitsNamed (gs ++ g ∷ [])
  bits_more [] g h n = (n, tt)
  bits_more (x ∷ gs) g h n = (h.0, bits_more gs g h.1 n)

  bit_named : (gs : List Guard) (own : Option Operand) → BitsNamed gs → Named (or_constant (bit_for gs own))
  bit_named [] own h = tt
  bit_named (g ∷ gs) own h = by (option_eq operand_eq own g.own) (bit_named gs own h.1) where
    by : (c : Bool) → Named (or_constant (bit_for gs own)) → Named (or_constant (if c then Some g.bit else bit_for gs own))
    by true k = h.0
    by false k = k

  -- ---- operands

  module _ (outs_ : List Out) (outs_here : Outs outs_) where
    renamed_named : (values : List Value) → ValuesNamed count arrays values → (x : Operand) → Named x → Named (renamed outs_ values x)
    renamed_named values h x n = by x.value refl where
      by : (s : Source) → x.value ≡ s → Named (standing_for outs_ values x s)
      by (source.Constant w) e = n
      by (source.Variable v) e = held_named outs_ v (entry_value v) outs_here (subst (IsNamedAs count arrays) e n)
      by (source.Result i) e = value_named count arrays values i.0 x h n

    outs_renamed : (values : List Value) → ValuesNamed count arrays values → (xs : List Out) → Outs xs → Outs (map (renamed_out outs_ values) xs)
    outs_renamed values h [] n = tt
    outs_renamed values h (x ∷ xs) n = ((n.0.0, renamed_named values h x.value n.0.1), outs_renamed values h xs n.1)

    exit_renamed : (values : List Value) → ValuesNamed count arrays values → (e : ExitTree) → ExitNamed count arrays e → ExitNamed count arrays (renamed_exit outs_ values e)
    exit_renamed values h next n = tt
    exit_renamed values h (branch test) n = renamed_named values h test n
    exit_renamed values h (choose cases) n = args_renamed count arrays (renamed outs_ values) (renamed_named values h) cases n
    exit_renamed values h break_ n = tt
    exit_renamed values h continue_ n = tt
    exit_renamed values h (leave number) n = tt

    guard_named : (values : List Value) → ValuesNamed count arrays values → (x : Option Operand) → NamedIf x → NamedIf (option_map (renamed outs_ values) x)
    guard_named values h None n = tt
    guard_named values h (Some x) n = renamed_named values h x n

    -- ---- operations

    record IsJoined (s : Joined) : Type 0 where
      ops : Ops s.ops
      values : ValuesNamed count arrays s.values
      guards : BitsNamed s.guards

    guard_joined : (s : Joined) (own : Option Operand) (op : OpTree) → IsJoined s → OpNamed count arrays op → IsJoined (with_guard s own op)
    guard_joined s own op h k = record { ops = ops_more count arrays s.ops op h.ops k; values = h.values; guards = bits_more s.guards (record { own = own; bit = next_result s.ops }) h.guards tt }

    taken_joined : (s : Joined) (x : Operand) → Named x → IsJoined s → IsJoined (with_taken x s)
    taken_joined s x n h = by (is_some (bit_for s.guards None)) where
      by : (c : Bool) → IsJoined (if c then s else with_guard s None (plain o.Not 1 (x ∷ [])))
      by true = h
      by false = guard_joined s None (plain o.Not 1 (x ∷ [])) h (record { args = (n, tt); guard = tt; bits = omega arith; access = tt })

    bit_joined : (s : Joined) (x : Operand) (own : Option Operand) → Named x → NamedIf own → IsJoined s → IsJoined (with_bit x s own)
    bit_joined s x None n g h = taken_joined s x n h
    bit_joined s x (Some own) n g h = by (is_some (bit_for s.guards (Some own))) where
      t : IsJoined (with_taken x s)
      t = taken_joined s x n h

      by : (c : Bool) → IsJoined (if c then s else with_both (with_taken x s) own)
      by true = h
      by false =
          guard_joined (with_taken x s) (Some own) (plain o.And 1 (bit_in (with_taken x s) None ∷ own ∷ [])) t
          (record { args = (bit_named (with_taken x s).guards None t.guards, (g, tt)); guard = tt; bits = omega arith; access = tt })

    op_joined : (s : Joined) (op : OpTree) (g : Option Operand) → IsJoined s → OpNamed count arrays op → NamedIf g → IsJoined (with_op s op g)
    op_joined s op g h k n = record {
      ops = ops_more count arrays s.ops (record op { guard = g }) h.ops (record { args = k.args; guard = n; bits = k.bits; access = k.access });
      values = values_more count arrays s.values _ h.values tt;
      guards = h.guards;
    }

    staying_joined : (test : Option Operand) → NamedIf test → (s : Joined) (op : OpTree) → IsJoined s → OpNamed count arrays op → IsJoined (staying test s op)
    staying_joined None t s op h k = op_joined s op op.guard h k k.guard
    staying_joined (Some x) t s op h k = by (needs_guard op) where
      here : IsJoined (with_bit x s op.guard)
      here = bit_joined s x op.guard t k.guard h

      by : (c : Bool) → IsJoined (if c then guarded (with_bit x s op.guard) op else with_op s op op.guard)
      by true = op_joined (with_bit x s op.guard) op (Some (bit_in (with_bit x s op.guard) op.guard)) here k (bit_named (with_bit x s op.guard).guards op.guard here.guards)
      by false = op_joined s op op.guard h k k.guard

    step_joined : (widths : List ℕ) (test : Option Operand) → NamedIf test → (s : Joined) (op : OpTree) → IsJoined s → OpNamed count arrays op → IsJoined (joined_op widths outs_ test s op)
    step_joined widths test t s op h k = by (converted (renamed_op outs_ s.values op) (n.first_bits widths s.values op.bits op.args) (first_word (map (renamed outs_ s.values) op.args))) where
      by : (x : Option ℕ) → IsJoined (by_word test s (renamed_op outs_ s.values op) x)
      by (Some w) = record { ops = h.ops; values = values_more count arrays s.values _ h.values tt; guards = h.guards }
      by None =
          staying_joined test t s (renamed_op outs_ s.values op) h
          (op_as count arrays (renamed outs_ s.values) (renamed_named s.values h.values) op (option_map (renamed outs_ s.values) op.guard) k (guard_named s.values h.values op.guard k.guard))

    all_joined : (widths : List ℕ) (test : Option Operand) → NamedIf test → (rest : List OpTree) (s : Joined) → IsJoined s → Ops rest → IsJoined (joined_ops widths outs_ test s rest)
    all_joined widths test t [] s h k = h
    all_joined widths test t (op ∷ rest) s h k = all_joined widths test t rest (joined_op widths outs_ test s op) (step_joined widths test t s op h k.0) k.1

  -- ---- blocks

  pub opened_named : (b : BlockTree) → B b → B (opened b)
  opened_named b h = record { ops = h.ops; outs = outs_named [] b.outs tt h.outs; exit = h.exit }

  module _ (widths : List ℕ) (small : (v : ℕ) → get_or widths v 64 ≤ 64) where
    pub joined_named : (b after : BlockTree) → B b → B after → B (joined widths b after)
    joined_named b after h a =
        let start : Joined = record { ops = b.ops; values = []; guards = [] } in
        let s = joined_ops widths b.outs None start after.ops in
        let j = all_joined b.outs h.outs widths None tt after.ops start (record { ops = h.ops; values = tt; guards = tt }) a.ops in
        record {
          ops = j.ops;
          outs = outs_named b.outs (map (renamed_out b.outs s.values) after.outs) h.outs (outs_renamed b.outs h.outs s.values j.values after.outs a.outs);
          exit = exit_renamed b.outs h.outs s.values j.values after.exit a.exit;
        }

    abbrev pub BranchNamed : Option BlockTree → Type 0
    BranchNamed None = Unit {0}
    BranchNamed (Some b) = B b

    record IsBranched (r : Branched) : Type 0 where
      ops : Ops r.ops
      outs : Outs r.outs

    branch_named : (outs : List Out) → Outs outs → (test : Operand) → Named test → (ops : List OpTree) (guards : List Guard) (x : Option BlockTree) → Ops ops → BitsNamed guards → BranchNamed x → IsBranched (branched widths ops outs (Some test) guards x)
    branch_named outs named test n ops guards None h g y = record { ops = h; outs = tt }
    branch_named outs named test n ops guards (Some b) h g y =
        let start : Joined = record { ops = ops; values = []; guards = guards } in
        let u = joined_ops widths outs (Some test) start b.ops in
        let j = all_joined outs named widths (Some test) n b.ops start (record { ops = h; values = tt; guards = g }) y.ops in
        record { ops = j.ops; outs = outs_named [] (map (renamed_out outs u.values) b.outs) tt (outs_renamed outs named u.values j.values b.outs y.outs) }

    -- ---- selections

    abbrev ChoicesNamed : List Choice → Type 0
    ChoicesNamed [] = Unit {0}
    ChoicesNamed (c ∷ cs) = ((c.variable.0 < count) × Named c.yes_ × Named c.no_) × ChoicesNamed cs

    both_named : (cs ds : List Choice) → ChoicesNamed cs → ChoicesNamed ds → ChoicesNamed (cs ++ ds)
    both_named [] ds h k = k
    both_named (c ∷ cs) ds h k = (h.0, both_named cs ds h.1 k)

    filtered : (test : Out → Bool) (xs : List Out) → Outs xs → Outs (filter test xs)
    filtered test [] h = tt
    filtered test (x ∷ xs) h = by (test x) (filtered test xs h.1) where
      by : (c : Bool) → Outs (filter test xs) → Outs (if c then x ∷ filter test xs else filter test xs)
      by true k = (h.0, k)
      by false k = k

    choices_named : (outs yes_ no_ : List Out) → Outs outs → Outs yes_ → Outs no_ → ChoicesNamed (choices outs yes_ no_)
    choices_named outs yes_ no_ h y z = both_named (choices_for outs yes_ no_ yes_) (choices_for outs yes_ no_ (others yes_ no_)) (for_named yes_ y) (for_named (others yes_ no_) (filtered (λ x. not (is_set yes_ x.variable)) no_ z)) where
      for_named : (xs : List Out) → Outs xs → ChoicesNamed (choices_for outs yes_ no_ xs)
      for_named [] k = tt
      for_named (x ∷ xs) k =
          let n : Named (held outs x.variable) = held_named outs x.variable (entry_value x.variable) h k.0.0 in
          ((k.0.0, held_named yes_ x.variable (held outs x.variable) y n, held_named no_ x.variable (held outs x.variable) z n), for_named xs k.1)

    selections_named : (test : Operand) → Named test → (cs : List Choice) (b : BlockTree) → ChoicesNamed cs → B b → B (with_selections widths test b cs)
    selections_named test n [] b k h = h
    selections_named test n (c ∷ cs) b k h =
        selections_named test n cs (with_selection widths test b c) k.1 (record {
          ops = ops_more count arrays b.ops (plain o.Select (selected_bits widths c.variable) (test ∷ c.yes_ ∷ c.no_ ∷ [])) h.ops (record { args = (n, (k.0.1, (k.0.2, tt))); guard = tt; bits = small c.variable.0; access = tt });
          outs = out_named b.outs c.variable (next_result b.ops) h.outs k.0.0 tt;
          exit = h.exit;
        })

    -- ---- the whole

    pub merged_named : (b : BlockTree) (f : Branches) → B b → b.exit ≡ branch f.test → BranchNamed f.yes_ → BranchNamed f.no_ → B (merged widths b f)
    merged_named b f h e y z =
        let n : Named f.test = subst (ExitNamed count arrays) e h.exit in
        let yes_ = branched widths b.ops b.outs (Some f.test) (is_taken f.test) f.yes_ in
        let ry = branch_named b.outs h.outs f.test n b.ops (is_taken f.test) f.yes_ h.ops (n, tt) y in
        let no_ = branched widths yes_.ops b.outs (Some f.test) [] f.no_ in
        let rn = branch_named b.outs h.outs f.test n yes_.ops [] f.no_ ry.ops tt z in
        selections_named f.test n (choices b.outs yes_.outs no_.outs) (record b { ops = no_.ops }) (choices_named b.outs yes_.outs no_.outs h.outs ry.outs rn.outs) (record { ops = rn.ops; outs = h.outs; exit = h.exit })
