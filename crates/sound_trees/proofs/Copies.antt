-- Blocks with copies are ready.
use Rattle.std.specs.Prelude.{slice_get}
use Rattle.std.proofs.Common.{◌≡◌, ℕ, zero, suc, Bool, true, false, refl, sym, subst, arith, List, [], ◌∷◌, ◌++◌, map, Some, if◌then◌else◌}
use Rattle.hls_base.specs.declared.number.VarId.{VarId}
use Rattle.c_token.specs.declared.ctype.CType.{CType}
use Rattle.c_value.specs.Values.{width}
use Rattle.ir_core.specs.declared.body.OpKind.TheVariants as o
use Rattle.ir_core.specs.declared.body.Out.{Out}
use Rattle.ir_core.specs.Bodies.{OpTree}
use Rattle.ir_core.specs.Trees.{BlockTree, BodyTree, SequenceTree, sequence, PartTrees, no_part, more_parts}
use Rattle.passes.specs.Lowering.Operations.{added, plain}
use Rattle.passes.specs.Lowering.Blocks.{Scope, type_of, variable_type}
use Rattle.passes.specs.Lowering.Copies.{Fixed, Copied, needs_copy, own_operand, with_own, copied_out, copied_outs, copied_block, copied_parts, copied, fixed_in, fixed_behind, fixed_behind_shape, parts_set}
use Rattle.pass_runs.specs.ConvertRuns.Typed.{HasBits, OutIsTyped, OpsAreTyped, OutsAreTyped}
use Rattle.pass_runs.specs.ConvertRuns.LoweredConversions.Suiting.{widths_of, words_of}
use Rattle.pass_runs.proofs.ConvertRuns.LoweredConversions.Adding.{Grows, stays, grows_on, has_on, outs_on, Fine, added_fine, nothing_fine, one_early}
use Rattle.pass_runs.proofs.ConvertRuns.LoweredConversions.Blocks.{exit_on, append_typed}
use Rattle.sound_trees.specs.Trees.{SequenceHas, PartsHave}
use Rattle.sound_trees.specs.Ready.{IsNear, OutsAreNear}
use Rattle.sound_trees.proofs.Adding.{Ready, Gives, added_gives}
use Rattle.sound_trees.specs.Laws.{shapes_in}
use Rattle.sound_trees.proofs.Names.{SameNames, names_append, names_once}
use Rattle.sound_trees.proofs.Blocks.{near_append, IsReady}

some_number : {x y : ℕ} → Some x ≡ Some y → x ≡ y
some_number e = cc

-- the width of a variable that is there
type_width : (ks : List CType) (i n : ℕ) → slice_get (map width ks) i ≡ Some n → n ≡ width (type_of (slice_get ks i))
type_width [] i n e = absurd cc
type_width (k ∷ ks) zero n e = sym (some_number e)
type_width (k ∷ ks) (suc i) n e = type_width ks i n e

module _ (scope : Scope) (stores : Bool) where
  abbrev OutsTyped : List OpTree → List Out → Type 0
  OutsTyped = OutsAreTyped (widths_of scope) (words_of scope)

  -- the operations behind those of the block, and the outs so far
  record CopiedIsReady (base : List OpTree) (s : Copied) : Type 0 where
    typed : OpsAreTyped (widths_of scope) (words_of scope) [] s.ops
    grows : Grows base s.ops
    outs_typed : OutsTyped s.ops s.outs
    ops : Ready (shapes_in scope) (words_of scope) stores s.ops
    outs : OutsAreNear s.outs

  own_fine : (fixed : Fixed) (s : Copied) (x : Out) (n : ℕ) → n ≡ width (variable_type scope x.variable) → OpsAreTyped (widths_of scope) (words_of scope) [] s.ops → HasBits (widths_of scope) (words_of scope) s.ops n x.value.value
      → Fine (widths_of scope) (words_of scope) s.ops n (own_operand scope fixed s x)
  own_fine fixed s x n e h g = either (needs_copy fixed s.taken x.value x.value.value) where
    either : (c : Bool) → Fine (widths_of scope) (words_of scope) s.ops n (if c then added s.ops (plain o.Copy (width (variable_type scope x.variable)) (x.value ∷ [])) else record { ops = s.ops; operand = x.value })
    either true =
        let copy = plain o.Copy (width (variable_type scope x.variable)) (x.value ∷ []) in
        subst (λ m. Fine (widths_of scope) (words_of scope) s.ops m (added s.ops copy)) (sym e)
        (added_fine (widths_of scope) (words_of scope) s.ops copy h (record { args = one_early (widths_of scope) (words_of scope) s.ops n x.value g; guard = tt; access = tt }))
    either false = nothing_fine (widths_of scope) (words_of scope) s.ops n x.value h g

  own_gives : (fixed : Fixed) (s : Copied) (x : Out) → Ready (shapes_in scope) (words_of scope) stores s.ops → IsNear x.value → Gives (shapes_in scope) (words_of scope) stores (own_operand scope fixed s x)
  own_gives fixed s x h n = either (needs_copy fixed s.taken x.value x.value.value) where
    either : (c : Bool) → Gives (shapes_in scope) (words_of scope) stores (if c then added s.ops (plain o.Copy (width (variable_type scope x.variable)) (x.value ∷ [])) else record { ops = s.ops; operand = x.value })
    either true = added_gives (shapes_in scope) (words_of scope) stores s.ops (plain o.Copy (width (variable_type scope x.variable)) (x.value ∷ [])) h (record { args = (n, tt); guard = tt; few = omega arith; kind = tt })
    either false = record { ops = h; near = n }

  out_ready : (later : PartTrees) (fixed : Fixed) (base : List OpTree) (s : Copied) (x : Out) → CopiedIsReady base s → OutIsTyped (widths_of scope) (words_of scope) base x → IsNear x.value → CopiedIsReady base (copied_out scope later fixed s x)
  out_ready later fixed base s x f h n = either (parts_set later x.variable) where
    here : HasBits (widths_of scope) (words_of scope) s.ops h.0 x.value.value
    here = has_on (widths_of scope) (words_of scope) base s.ops f.grows h.0 x.value.value h.2

    either : (c : Bool) → CopiedIsReady base (if c then record s { outs = s.outs ++ x ∷ [] } else with_own x.variable s (own_operand scope fixed s x))
    either true = record {
      typed = f.typed;
      grows = f.grows;
      outs_typed = append_typed (widths_of scope) (words_of scope) s.ops s.outs (x ∷ []) f.outs_typed ((h.0, h.1, here), tt);
      ops = f.ops;
      outs = near_append s.outs (x ∷ []) f.outs (n, tt);
    }
    either false =
        let y = own_operand scope fixed s x in
        let g = own_fine fixed s x h.0 (type_width scope.variables x.variable.0 h.0 h.1) f.typed here in
        let r = own_gives fixed s x f.ops n in
        record {
          typed = g.typed;
          grows = grows_on base s.ops y.ops f.grows g.grows;
          outs_typed = append_typed (widths_of scope) (words_of scope) y.ops s.outs (record { variable = x.variable; value = y.operand } ∷ []) (outs_on (widths_of scope) (words_of scope) s.ops y.ops g.grows s.outs f.outs_typed) ((h.0, h.1, g.has), tt);
          ops = r.ops;
          outs = near_append s.outs (record { variable = x.variable; value = y.operand } ∷ []) f.outs (r.near, tt);
        }

  outs_ready : (later : PartTrees) (fixed : Fixed) (base : List OpTree) (s : Copied) (xs : List Out) → CopiedIsReady base s → OutsTyped base xs → OutsAreNear xs → CopiedIsReady base (copied_outs scope later fixed s xs)
  outs_ready later fixed base s [] f h n = f
  outs_ready later fixed base s (x ∷ xs) f h n = outs_ready later fixed base (copied_out scope later fixed s x) xs (out_ready later fixed base s x f h.0 n.0) h.1 n.1

  -- ---- the same variables are set

  out_named : (later : PartTrees) (fixed : Fixed) (s : Copied) (x : Out) (done : List Out) → SameNames s.outs done → SameNames (copied_out scope later fixed s x).outs (done ++ x ∷ [])
  out_named later fixed s x done h = either (parts_set later x.variable) where
    either : (c : Bool) → SameNames (if c then record s { outs = s.outs ++ x ∷ [] } else with_own x.variable s (own_operand scope fixed s x)).outs (done ++ x ∷ [])
    either true = names_append s.outs done (x ∷ []) (x ∷ []) h (refl, tt)
    either false = names_append s.outs done (record { variable = x.variable; value = (own_operand scope fixed s x).operand } ∷ []) (x ∷ []) h (refl, tt)

  append_one : (xs ys : List Out) (x : Out) → (xs ++ x ∷ []) ++ ys ≡ xs ++ x ∷ ys
  append_one [] ys x = refl
  append_one (z ∷ xs) ys x = λ i. z ∷ append_one xs ys x i

  append_none : (xs : List Out) → xs ++ [] ≡ xs
  append_none [] = refl
  append_none (z ∷ xs) = λ i. z ∷ append_none xs i

  outs_named : (later : PartTrees) (fixed : Fixed) (s : Copied) (xs done : List Out) → SameNames s.outs done → SameNames (copied_outs scope later fixed s xs).outs (done ++ xs)
  outs_named later fixed s [] done h = subst (SameNames s.outs) (sym (append_none done)) h
  outs_named later fixed s (x ∷ xs) done h =
      subst (SameNames (copied_outs scope later fixed (copied_out scope later fixed s x) xs).outs) (append_one done xs x)
      (outs_named later fixed (copied_out scope later fixed s x) xs (done ++ x ∷ []) (out_named later fixed s x done h))

  pub copied_names : (later : PartTrees) (variables : VarId → Bool) (b : BlockTree) → SameNames (copied_block scope later variables b).outs b.outs
  copied_names later variables b = outs_named later (fixed_in variables b) (record { ops = b.ops; outs = []; taken = [] }) b.outs [] tt

  -- ---- blocks

  pub block_ready : (later : PartTrees) (variables : VarId → Bool) (b : BlockTree) → IsReady scope stores b → IsReady scope stores (copied_block scope later variables b)
  block_ready later variables b h =
      let s = copied_outs scope later (fixed_in variables b) (record { ops = b.ops; outs = []; taken = [] }) b.outs in
      let f = outs_ready later (fixed_in variables b) b.ops (record { ops = b.ops; outs = []; taken = [] }) b.outs (record { typed = h.typed.ops; grows = stays b.ops; outs_typed = tt; ops = h.ops; outs = tt }) h.typed.outs h.outs in
      record {
        typed = record { ops = f.typed; outs = f.outs_typed; exit = exit_on (widths_of scope) (words_of scope) b.ops s.ops f.grows b.exit h.typed.exit };
        once = names_once s.outs b.outs (copied_names later variables b) h.once;
        ops = f.ops;
        outs = f.outs;
        exit = h.exit;
      }

  module _ (L : SequenceTree → SequenceTree → Type 0) (O : BodyTree → Type 0) where
    parts_ready : (variables : VarId → Bool) (ps : PartTrees) → PartsHave (IsReady scope stores) L O ps → PartsHave (IsReady scope stores) L O (copied_parts scope variables ps)
    parts_ready variables no_part h = tt
    parts_ready variables (more_parts shape after rest) h =
        (h.0, block_ready rest (fixed_behind_shape shape variables) after h.1, parts_ready (fixed_behind rest (fixed_behind_shape shape variables) after) rest h.2)

    pub copies_ready : (s : SequenceTree) → SequenceHas (IsReady scope stores) L O s → SequenceHas (IsReady scope stores) L O (copied scope s)
    copies_ready (sequence first rest) h = (block_ready rest (λ v. false) first h.0, parts_ready (fixed_behind rest (λ v. false) first) rest h.1)
