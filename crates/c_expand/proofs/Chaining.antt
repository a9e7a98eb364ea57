-- Operators of a chain, one more at the innermost.
use Rattle.std.proofs.Common.{◌≡◌, List, [], ◌∷◌, ◌++◌, refl, sym, ap, ◌∙◌}
use Rattle.pieces.specs.Trees.{PureTree}
use Rattle.piece_making.specs.Making.{State, Part, then_}
use Rattle.piece_making.specs.Calls.{Call}
use Rattle.piece_making.specs.Stocks.{Stock, state_of, IsMade, IsTooHeavy}
use Rattle.hls_base.specs.declared.refusal.Refusal.{Refusal}
use Rattle.c_expand.specs.declared.operators.Step.{Step}
use Rattle.pieces.specs.Resolved.Core as core
use Rattle.pieces.specs.Resolved.Core.{CoreTree}
use Rattle.piece_making.proofs.Parts.{made_behind, heavy_at_once, heavy_behind}
use Rattle.piece_making.specs.Acting.{effects}
use Rattle.c_expand.specs.Expressions.{Callee, expression, comma_left}
use Rattle.c_expand.specs.Chains.{link, links}
use Rattle.c_expand.proofs.Leading.{Leads, begins, leads_as, goes_on, stops, ends, then_then, then_nothing, nothing_then, same_behind}

module _ (f : Callee) (c : Call) where
  pub links_more : (ss : List Step) (t : Step) (x : PureTree) (s : State) → links f c (ss ++ t ∷ []) x s ≡ then_ (link f c t x s) (λ y s1. links f c ss y s1)
  links_more [] t x s = nothing_then x s (λ y s1. link f c t y s1) ∙ sym (then_nothing (link f c t x s))
  links_more (s0 ∷ ss) t x s =
      ap (λ p. then_ p (λ y s1. link f c s0 y s1)) (links_more ss t x s)
      ∙ then_then (link f c t x s) (λ y s1. links f c ss y s1) (λ y s1. link f c s0 y s1)

  -- a part with the operators of a chain around it
  unfoldable pub chained : List Step → Part PureTree → Part PureTree
  chained ss p = then_ p (λ x s. links f c ss x s)

  -- no operator around a part
  pub chain_begins : (ss : List Step) (p : Part PureTree) (old : Stock) → ss ≡ [] → Leads old old (chained ss p) p
  unfolding chained
  chain_begins ss p old is =
      leads_as _ _ _ _ _ (sym (then_nothing p) ∙ ap (λ (ts : List Step). then_ p (λ x s. links f c ts x s)) (sym is)) (begins old p)

  -- an operator around a part, with the operators around it
  chain_more : (ss : List Step) (t : Step) (p : Part PureTree) → chained ss (then_ p (λ x s. link f c t x s)) ≡ chained (ss ++ t ∷ []) p
  unfolding chained
  chain_more ss t p =
      then_then p (λ x s. link f c t x s) (λ y s1. links f c ss y s1)
      ∙ same_behind p (λ x s. then_ (link f c t x s) (λ y s1. links f c ss y s1)) (λ x s. links f c (ss ++ t ∷ []) x s) (λ x s. sym (links_more ss t x s))

  pub chain_turn : (ss after : List Step) (t : Step) (p q : Part PureTree) (old mid : Stock) (whole : Part PureTree)
      → q ≡ then_ p (λ x s. link f c t x s) → after ≡ ss ++ t ∷ [] → Leads old mid (chained ss q) whole → Leads old mid (chained after p) whole
  chain_turn ss after t p q old mid whole is pushed l =
      leads_as _ _ _ _ _ (ap (λ (r : Part PureTree). chained ss r) is ∙ (chain_more ss t p ∙ ap (λ (ts : List Step). chained ts p) (sym pushed))) l

  chained_behind : {A : Type 0} (ss : List Step) (first : Part A) (next : A → State → Part PureTree) → chained ss (then_ first next) ≡ then_ first (λ x s. chained ss (next x s))
  unfolding chained
  chained_behind ss first next = then_then first next (λ y s1. links f c ss y s1)

  pub assign_turn : {A : Type 0} (ss : List Step) (first : Part A) (next : A → State → Part PureTree) (q : Part PureTree) (v : A) (old mid new : Stock) (whole : Part PureTree)
      → q ≡ then_ first next → IsMade mid new v first → Leads old mid (chained ss q) whole → Leads old new (chained ss (next v (state_of new))) whole
  assign_turn ss first next q v old mid new whole is h l =
      goes_on _ _ _ _ first (λ x s. chained ss (next x s)) _ h (leads_as _ _ _ _ _ (ap (λ (r : Part PureTree). chained ss r) is ∙ chained_behind ss first next) l)

  pub assign_heavy : {A : Type 0} (ss : List Step) (first : Part A) (next : A → State → Part PureTree) (q : Part PureTree) (old mid : Stock) (r : Refusal) (whole : Part PureTree)
      → q ≡ then_ first next → Leads old mid (chained ss q) whole → IsTooHeavy mid r first → IsTooHeavy old r whole
  assign_heavy ss first next q old mid r whole is l h =
      stops _ _ _ first (λ x s. chained ss (next x s)) _ (leads_as _ _ _ _ _ (ap (λ (z : Part PureTree). chained ss z) is ∙ chained_behind ss first next) l) h

  pub chain_made : (ss : List Step) (p : Part PureTree) (x v : PureTree) (old mid mid1 new : Stock) (whole : Part PureTree)
      → Leads old mid (chained ss p) whole → IsMade mid mid1 x p → IsMade mid1 new v (links f c ss x (state_of mid1)) → IsMade old new v whole
  unfolding chained
  chain_made ss p x v old mid mid1 new whole l h g = l.made new v (made_behind _ _ _ _ _ p (λ y s. links f c ss y s) h g)

  pub chain_heavy : (ss : List Step) (p : Part PureTree) (x : PureTree) (old mid mid1 : Stock) (r : Refusal) (whole : Part PureTree)
      → Leads old mid (chained ss p) whole → IsMade mid mid1 x p → IsTooHeavy mid1 r (links f c ss x (state_of mid1)) → IsTooHeavy old r whole
  unfolding chained
  chain_heavy ss p x old mid mid1 r whole l h g = l.heavy r (heavy_behind _ _ _ _ p (λ y s. links f c ss y s) h g)

  pub chain_heavy_first : (ss : List Step) (p : Part PureTree) (old mid : Stock) (r : Refusal) (whole : Part PureTree)
      → Leads old mid (chained ss p) whole → IsTooHeavy mid r p → IsTooHeavy old r whole
  unfolding chained
  chain_heavy_first ss p old mid r whole l h = l.heavy r (heavy_at_once _ _ p (λ y s. links f c ss y s) h)

  -- a comma, whose left operand is also held apart
  pub comma_is : (left right held : CoreTree) (s : State) → held ≡ left
      → expression f c (core.comma left right) s ≡ then_ (expression f c left s) (λ x s1. then_ (comma_left c.file_variables held x (effects right) s1) (λ u s2. expression f c right s2))
  comma_is left right held s e =
      ap (λ (z : CoreTree). then_ (expression f c left s) (λ x s1. then_ (comma_left c.file_variables z x (effects right) s1) (λ u s2. expression f c right s2))) (sym e)

  pub joined_turn : (left steps : List Step) (t : Step) (x y : PureTree) (old mid new : Stock) (whole : Part PureTree)
      → steps ≡ left ++ t ∷ [] → IsMade mid new y (link f c t x (state_of mid))
      → Leads old mid (links f c steps x (state_of mid)) whole → Leads old new (links f c left y (state_of new)) whole
  joined_turn left steps t x y old mid new whole is h l =
      goes_on _ _ _ _ _ _ _ h (leads_as _ _ _ _ _ (ap (λ (ss : List Step). links f c ss x (state_of mid)) is ∙ links_more left t x (state_of mid)) l)

  pub joined_heavy : (left steps : List Step) (t : Step) (x : PureTree) (old mid : Stock) (r : Refusal) (whole : Part PureTree)
      → steps ≡ left ++ t ∷ [] → Leads old mid (links f c steps x (state_of mid)) whole → IsTooHeavy mid r (link f c t x (state_of mid)) → IsTooHeavy old r whole
  joined_heavy left steps t x old mid r whole is l h =
      stops _ _ _ _ _ _ (leads_as _ _ _ _ _ (ap (λ (ss : List Step). links f c ss x (state_of mid)) is ∙ links_more left t x (state_of mid)) l) h

  pub joined_end : (steps : List Step) (x : PureTree) (old mid : Stock) (whole : Part PureTree)
      → steps ≡ [] → Leads old mid (links f c steps x (state_of mid)) whole → IsMade old mid x whole
  joined_end steps x old mid whole is l = ends _ _ _ _ _ refl (leads_as _ _ _ _ _ (ap (λ (ss : List Step). links f c ss x (state_of mid)) is) l)
