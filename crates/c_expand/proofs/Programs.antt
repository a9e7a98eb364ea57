-- The program, from the call of its top function.
use Rattle.std.proofs.Common.{◌≡◌, ℕ, ◌≤◌, List, Option, Some, sym, ap, subst, ◌∙◌, arith}
use Rattle.hls_base.specs.declared.place.Place.{Place}
use Rattle.hls_base.specs.declared.refusal.Refusal.{Refusal}
use Rattle.hls_base.specs.declared.number.VarId.{VarId}
use Rattle.hls_base.specs.declared.number.Kept.{Kept}
use Rattle.c_token.specs.declared.ctype.CType.{CType}
use Rattle.pieces.specs.Resolved.Core.{CoreFunctionTree, CoreProgramTree}
use Rattle.pieces.specs.Trees.{PieceTrees, piece_row}
use Rattle.pieces.specs.Program.{ExpandedTree, ArrayTree}
use Rattle.piece_making.specs.Making.{State, Part}
use Rattle.piece_making.specs.Stocks.{Stock, state_of, IsMade, IsTooHeavy, at_first}
use Rattle.c_expand.specs.Expansion.{Outline, IsOverweight, expansion, expanded_weight, top_of, top_run, top_made, named, with_outline, nothing}

abbrev tree_with : PieceTrees → List CType → List ArrayTree → List VarId → List Kept → Option CType → Option VarId → List ℕ → ExpandedTree
tree_with pieces variables arrays params kept ret result name = record { pieces = pieces; variables = variables; arrays = arrays; params = params; kept = kept; ret = ret; result = result; name = name }

tree_is : (e : ExpandedTree) (part : Part Outline) (ret : Option CType) (name : List ℕ)
    → e.pieces ≡ piece_row part.pieces → e.variables ≡ part.state.variables → e.arrays ≡ part.state.arrays → e.params ≡ part.value.params → e.kept ≡ part.value.kept → e.ret ≡ ret → e.result ≡ part.value.result → e.name ≡ name
    → e ≡ with_outline part ret name
tree_is e part ret name a b c d f g k l =
    let whole : tree_with e.pieces e.variables e.arrays e.params e.kept e.ret e.result e.name ≡ with_outline part ret name = cc in
    whole

module _ (p : CoreProgramTree) (fn : CoreFunctionTree) (at : Place) (old : Stock) (is : top_of p ≡ Some fn) (first : old ≡ at_first 8192 at) where
  weight_is : expanded_weight p ≡ (top_run p fn nothing).weight
  weight_is = ap (λ (top : Option CoreFunctionTree). (top_made p top).weight) is

  at_nothing : state_of old ≡ nothing
  at_nothing = ap state_of first

  from_nothing : (new : Stock) (o : Outline) → IsMade old new o (top_run p fn (state_of old)) → IsMade (at_first 8192 at) new o (top_run p fn nothing)
  from_nothing new o h = subst (λ s. IsMade s new o (top_run p fn (state_of s))) first h

  pub whole_made : (new : Stock) (o : Outline) (e : ExpandedTree) → IsMade old new o (top_run p fn (state_of old))
      → e.pieces ≡ piece_row new.out → e.variables ≡ new.variables → e.arrays ≡ new.arrays → e.params ≡ o.params → e.kept ≡ o.kept → e.ret ≡ fn.result → e.result ≡ o.result → e.name ≡ fn.name
      → e ≡ expansion p
  whole_made new o e h a b c d f g k l =
      let m = from_nothing new o h in
      let part = top_run p fn nothing in
      let pieces : e.pieces ≡ piece_row part.pieces = a ∙ ap piece_row m.out in
      let variables : e.variables ≡ part.state.variables = b ∙ ap (λ (s : State). s.variables) m.state in
      let arrays : e.arrays ≡ part.state.arrays = c ∙ ap (λ (s : State). s.arrays) m.state in
      let params : e.params ≡ part.value.params = d ∙ ap (λ (x : Outline). x.params) m.value in
      let kept : e.kept ≡ part.value.kept = f ∙ ap (λ (x : Outline). x.kept) m.value in
      let result : e.result ≡ part.value.result = k ∙ ap (λ (x : Outline). x.result) m.value in
      let whole : e ≡ with_outline part fn.result fn.name = tree_is e part fn.result fn.name pieces variables arrays params kept g result l in
      whole ∙ sym (ap (λ (top : Option CoreFunctionTree). named top (top_made p top)) is)

  pub whole_within : (new : Stock) (o : Outline) → IsMade old new o (top_run p fn (state_of old)) → expanded_weight p ≤ 8192
  whole_within new o h = let m = from_nothing new o h in omega (arith, weight_is, m.rest)

  pub whole_heavy : (r : Refusal) → at ≡ fn.at → IsTooHeavy old r (top_run p fn (state_of old)) → IsOverweight p r
  whole_heavy r e h =
      let m : IsTooHeavy (at_first 8192 at) r (top_run p fn nothing) = subst (λ s. IsTooHeavy s r (top_run p fn (state_of s))) first h in
      record { heavy = omega (arith, weight_is, m.heavy); rule = m.rule; function = fn; top = is; at = m.at ∙ e }
