-- Blocks with copies are valid.
use Rattle.std.specs.Prelude.{slice_get}
use Rattle.std.proofs.Common.{◌≡◌, ℕ, zero, suc, Bool, true, false, refl, sym, subst, List, [], ◌∷◌, ◌++◌, map, Some, if◌then◌else◌}
use Rattle.hls_base.specs.declared.number.VarId.{VarId}
use Rattle.c_token.specs.declared.ctype.CType.{CType}
use Rattle.c_value.specs.Values.{width}
use Rattle.ir_core.specs.declared.body.OpKind.TheVariants as o
use Rattle.ir_core.specs.declared.body.Out.{Out}
use Rattle.ir_core.specs.Bodies.{OpTree}
use Rattle.ir_core.specs.Trees.{BlockTree, BodyTree, SequenceTree, sequence, PartTrees, no_part, more_parts}
use Rattle.passes.specs.Lowering.Operations.{added, plain}
use Rattle.passes.specs.Lowering.Blocks.{Scope, type_of, variable_type}
use Rattle.passes.specs.Lowering.Copies.{Fixed, Copied, needs_copy, own_operand, with_own, copied_out, copied_outs, copied_block, copied_parts, copied, fixed_in, fixed_behind, fixed_behind_shape, parts_set}
use Rattle.pass_runs.proofs.ConvertRuns.LoweredConversions.Adding.{Grows, stays, grows_on}
use Rattle.valid_trees.specs.Bodies.{OutIsValid, BodyIsValid}
use Rattle.valid_trees.specs.Trees.{SequenceHas, PartsHave}
use Rattle.valid_trees.specs.ValidLowering.{frame_in}
use Rattle.valid_trees.proofs.ValidLowering.Widths.{width_is}
use Rattle.valid_trees.proofs.ValidLowering.Adding.{Is, Valid, is_on, Gives, added_gives, nothing_gives}
use Rattle.valid_trees.proofs.ValidLowering.Expressions.{OutsAre, outs_on}
use Rattle.valid_trees.proofs.ValidLowering.Blocks.{exit_on, append_are, IsValid}

some_number : {x y : ℕ} → Some x ≡ Some y → x ≡ y
some_number e = cc

-- the width of a variable that is there
type_width : (ks : List CType) (i n : ℕ) → slice_get (map width ks) i ≡ Some n → n ≡ width (type_of (slice_get ks i))
type_width [] i n e = absurd cc
type_width (k ∷ ks) zero n e = sym (some_number e)
type_width (k ∷ ks) (suc i) n e = type_width ks i n e

module _ (scope : Scope) where
  -- the operations behind those of the block, and the outs so far
  record CopiedIs (base : List OpTree) (s : Copied) : Type 0 where
    valid : Valid (frame_in scope) s.ops
    grows : Grows base s.ops
    outs : OutsAre (frame_in scope) s.ops s.outs

  own_gives : (fixed : Fixed) (s : Copied) (x : Out) (n : ℕ) → n ≡ width (variable_type scope x.variable) → Valid (frame_in scope) s.ops → Is (frame_in scope) s.ops n x.value → Gives (frame_in scope) s.ops n (own_operand scope fixed s x)
  own_gives fixed s x n e h g = either (needs_copy fixed s.taken x.value x.value.value) where
    either : (c : Bool) → Gives (frame_in scope) s.ops n (if c then added s.ops (plain o.Copy (width (variable_type scope x.variable)) (x.value ∷ [])) else record { ops = s.ops; operand = x.value })
    either true =
        let copy = plain o.Copy (width (variable_type scope x.variable)) (x.value ∷ []) in
        subst (λ m. Gives (frame_in scope) s.ops m (added s.ops copy)) (sym e)
        (added_gives (frame_in scope) s.ops copy h (record { width = width_is (variable_type scope x.variable); flag = refl; guard = tt; acts = (refl, (subst (λ m. Is (frame_in scope) s.ops m x.value) e g, tt)) }))
    either false = nothing_gives (frame_in scope) s.ops n x.value h g

  out_is : (later : PartTrees) (fixed : Fixed) (base : List OpTree) (s : Copied) (x : Out) → CopiedIs base s → OutIsValid (frame_in scope) [] base x → CopiedIs base (copied_out scope later fixed s x)
  out_is later fixed base s x f h = either (parts_set later x.variable) where
    here : Is (frame_in scope) s.ops h.bits x.value
    here = is_on (frame_in scope) base s.ops f.grows h.bits x.value h.value

    either : (c : Bool) → CopiedIs base (if c then record s { outs = s.outs ++ x ∷ [] } else with_own x.variable s (own_operand scope fixed s x))
    either true = record { valid = f.valid; grows = f.grows; outs = append_are (frame_in scope) s.ops s.outs (x ∷ []) f.outs (record { bits = h.bits; there = h.there; value = here }, tt) }
    either false =
        let y = own_operand scope fixed s x in
        let g = own_gives fixed s x h.bits (type_width scope.variables x.variable.0 h.bits h.there) f.valid here in
        record {
          valid = g.valid;
          grows = grows_on base s.ops y.ops f.grows g.grows;
          outs = append_are (frame_in scope) y.ops s.outs (record { variable = x.variable; value = y.operand } ∷ []) (outs_on (frame_in scope) s.ops y.ops g.grows s.outs f.outs) (record { bits = h.bits; there = h.there; value = g.is_ }, tt);
        }

  outs_are : (later : PartTrees) (fixed : Fixed) (base : List OpTree) (s : Copied) (xs : List Out) → CopiedIs base s → OutsAre (frame_in scope) base xs → CopiedIs base (copied_outs scope later fixed s xs)
  outs_are later fixed base s [] f h = f
  outs_are later fixed base s (x ∷ xs) f h = outs_are later fixed base (copied_out scope later fixed s x) xs (out_is later fixed base s x f h.0) h.1

  -- ---- blocks

  block_valid : (later : PartTrees) (variables : VarId → Bool) (b : BlockTree) → IsValid scope b → IsValid scope (copied_block scope later variables b)
  block_valid later variables b h =
      let s = copied_outs scope later (fixed_in variables b) (record { ops = b.ops; outs = []; taken = [] }) b.outs in
      let f = outs_are later (fixed_in variables b) b.ops (record { ops = b.ops; outs = []; taken = [] }) b.outs (record { valid = h.ops; grows = stays b.ops; outs = tt }) h.outs in
      record { ops = f.valid; outs = f.outs; exit = exit_on (frame_in scope) b.ops s.ops f.grows b.exit h.exit }

  abbrev O : BodyTree → Type 0
  O = BodyIsValid (frame_in scope)

  parts_valid : (variables : VarId → Bool) (ps : PartTrees) → PartsHave (IsValid scope) O ps → PartsHave (IsValid scope) O (copied_parts scope variables ps)
  parts_valid variables no_part h = tt
  parts_valid variables (more_parts shape after rest) h =
      (h.0, block_valid rest (fixed_behind_shape shape variables) after h.1, parts_valid (fixed_behind rest (fixed_behind_shape shape variables) after) rest h.2)

  pub copies_valid : (s : SequenceTree) → SequenceHas (IsValid scope) O s → SequenceHas (IsValid scope) O (copied scope s)
  copies_valid (sequence first rest) h = (block_valid rest (λ v. false) first h.0, parts_valid (fixed_behind rest (λ v. false) first) rest h.1)
