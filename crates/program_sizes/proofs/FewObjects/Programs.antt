-- The objects of a function are no more than the tokens of its program.
use Rattle.std.proofs.Common.{◌≡◌, ◌≤◌, ℕ, zero, suc, ◌+◌, arith, subst, List, [], ◌∷◌, ◌++◌, length, length-append, Option, Some}
use Rattle.std.specs.Prelude.{slice_get}
use Rattle.std.proofs.lemmas.List.{length-map}
use Rattle.std.proofs.lemmas.Option.{none-some, same_Some}
use Rattle.c_token.specs.declared.punct.Punct.TheVariants as p
use Rattle.c_tree.specs.Terminals.{Terminal, terminal_of, sign, word}
use Rattle.c_tree.specs.Tree.{StmtTrees, ParamTree, FunctionTree, ItemTree}
use Rattle.c_tree.specs.Grammar as g
use Rattle.c_tree.specs.Grammar.{DerivesDefinition, DerivesItem, DerivesItems}
use Rattle.c_meaning.specs.Store.{declared_in}
use Rattle.pieces.specs.Resolved.Core.{CoreFunctionTree}
use Rattle.c_elaborate.specs.declared.blocks.Scene.{Scene}
use Rattle.c_elaborate.specs.declared.functions.Signature.{Signature}
use Rattle.c_elaborate.specs.Objects.{object_elaborated, objects_within}
use Rattle.c_elaborate.specs.Programs.{objects_of_params, function_of_item, functions_of_item, functions_elaborated}
use Rattle.program_sizes.specs.FewObjects.{FewObjects}
use Rattle.program_sizes.proofs.FewObjects.Tokens.{becomes_few}
use Rattle.program_sizes.proofs.FewObjects.Declared.{params_there, block_there}

-- each of these functions has no more objects than this
abbrev HaveObjects : ℕ → List CoreFunctionTree → Type 0
HaveObjects n [] = Unit {0}
HaveObjects n (fn ∷ fns) = (length fn.objects ≤ n) × HaveObjects n fns

have_both : (n : ℕ) (xs ys : List CoreFunctionTree) → HaveObjects n xs → HaveObjects n ys → HaveObjects n (xs ++ ys)
have_both n [] ys h g = g
have_both n (x ∷ xs) ys h g = (h.0, have_both n xs ys h.1 g)

have_at : (n : ℕ) (xs : List CoreFunctionTree) (i : ℕ) (fn : CoreFunctionTree) → HaveObjects n xs → slice_get xs i ≡ Some fn → length fn.objects ≤ n
have_at n [] i fn h e = absurd (none-some fn e)
have_at n (x ∷ xs) zero fn h e = subst (λ (f : CoreFunctionTree). length f.objects ≤ n) (same_Some x fn e) h.0
have_at n (x ∷ xs) (suc i) fn h e = have_at n xs i fn h.1 e

module _ (fs : List Signature) (file : Scene) (n : ℕ) where
  function_has : (f : FunctionTree) (ps : List Terminal) {bs : List Terminal} {body : Option StmtTrees} → length f.params ≤ length ps → DerivesDefinition bs body → length ps + length bs ≤ n → HaveObjects n (function_of_item fs file f body)
  function_has f ps params (g.declared_only ends) le = tt
  function_has f ps params (g.defined ts body b) le =
      let os = objects_of_params f.params in
      let h = block_there b in
      let a = length-map (os ++ (declared_in body ++ objects_within body)) object_elaborated in
      let c = length-append os (declared_in body ++ objects_within body) in
      let d = length-append (declared_in body) (objects_within body) in
      let e = length-map f.params (λ (q : ParamTree). q.object) in
      (omega (arith, params, le, h, a, c, d, e), tt)

  item_has : {ts : List Terminal} {item : ItemTree} → DerivesItem ts item → length ts ≤ n → HaveObjects n (functions_of_item fs file item)
  item_has (g.a_static at ts item d) le = item_has d (omega (arith, le))
  item_has (g.an_inline at ts item d) le = item_has d (omega (arith, le))
  item_has (g.some_objects ts all d) le = tt
  item_has (g.a_function result constant ks ps bs text at opens closes all body k w a d) le =
      let e = length-append ks (word text at ∷ sign p.LeftParen opens ∷ (ps ++ sign p.RightParen closes ∷ bs)) in
      let f = length-append ps (sign p.RightParen closes ∷ bs) in
      function_has (record { name = text; at = at; result = result; params = all; body = body }) ps (params_there a) d (omega (arith, le, e, f))

  items_have : {ts : List Terminal} {items : List ItemTree} → DerivesItems ts items → length ts ≤ n → HaveObjects n (functions_elaborated fs file items)
  items_have g.no_item le = tt
  items_have (g.more_items ts us item rest i r) le =
      let e = length-append ts us in
      have_both n (functions_of_item fs file item) (functions_elaborated fs file rest) (item_has i (omega (arith, le, e))) (items_have r (omega (arith, le, e)))

pub few_objects : FewObjects
few_objects tokens replaced end p top becomes derives i fn is =
    let few = becomes_few tokens replaced becomes in
    let e = length-map replaced terminal_of in
    have_at 16384 _ i fn (items_have _ _ 16384 derives.0 (omega (arith, few, e))) is
