-- What is found of an expression by its steps: one operator more, for each kind of operator.
use Rattle.std.proofs.Common.{◌≡◌, ℕ, Bool, true, false, List, [], ◌∷◌, ◌++◌, Option, Box, Global, refl, sym, ap, ◌∙◌}
use Rattle.hls_base.specs.declared.place.Place.{Place}
use Rattle.hls_base.specs.declared.refusal.Refusal.{Refusal}
use Rattle.c_tree.specs.declared.operator.Binary.{Binary}
use Rattle.c_tree.specs.declared.expression.Expr.{Expr}
use Rattle.c_tree.specs.declared.expression.Expr.TheVariants as e
use Rattle.c_tree.specs.declared.expression.Target.{Target}
use Rattle.c_tree.specs.View.{tree_of, target_of, trees_of}
use Rattle.c_meaning.specs.Checks.Faults.{lesser, least}
use Rattle.c_meaning.specs.Checks.Names.{Declared, sense_of, count, target_faults}
use Rattle.c_meaning.specs.Checks.Conflicts.{Access, accesses, all_accesses, target_accesses, between, conflicts_among, conflicts_inside, change_of, operand_conflicts}
use Rattle.c_meaning.specs.Checks.Expressions.{expression_faults, changed_faults, operand_faults}
use Rattle.c_types.specs.declared.steps.Judged.{Judged}
use Rattle.c_types.specs.declared.steps.Changed.{Changed}
use Rattle.c_types.specs.declared.steps.Step.{Step}
use Rattle.c_types.specs.declared.steps.Step.TheVariants as s
use Rattle.c_types.specs.Chains.{Found, found, found_of, changed_fault, step, steps}
use Rattle.c_names.proofs.DeclarationsLemmas.Trees.{binary_tree, assign_tree, comma_tree}
use Rattle.c_types.proofs.ExpressionFaults.{binary_faults, assign_faults, comma_faults}
use Rattle.c_types.proofs.Operands.{target_parts, changed_parts}

pub steps_more : (ss : List Step) (s : Step) (part : Found) → steps (ss ++ s ∷ []) part ≡ steps ss (step s part)
steps_more [] s part = refl
steps_more (t ∷ ss) s part = ap (step t) (steps_more ss s part)

same-found : {f g : Option Refusal} {xs ys : List Access} → f ≡ g → xs ≡ ys → found f xs ≡ found g ys
same-found {f} {g} {xs} {ys} p q = ap (λ h. found h xs) p ∙ ap (found g) q

module _ (bodies : List (List ℕ)) (names : List Declared) where
  -- a target by what was found of it
  pub changed_by_parts : (t : Target) (at : Place) (valued : List Access) (c : Changed)
      → c.used ≡ least (target_faults (sense_of t.name names) (count (trees_of t.subscripts.items)) t.at)
      → c.conflict ≡ least (conflicts_among names [] (trees_of t.subscripts.items))
      → c.inside ≡ least (conflicts_inside c.own c.subscripts)
      → c.fault ≡ least (operand_faults bodies names [] (trees_of t.subscripts.items))
      → c.own ≡ change_of names t.name (count (trees_of t.subscripts.items)) at
      → c.subscripts ≡ all_accesses names (trees_of t.subscripts.items)
      → changed_fault c valued ≡ least (changed_faults bodies names (target_of t) at valued)
  changed_by_parts t at valued c used conflict inside fault own subscripts =
      let subs = trees_of t.subscripts.items in
      let u = least (target_faults (sense_of t.name names) (count subs) t.at) in
      let k = least (conflicts_among names [] subs) in
      let apart = ap (λ xs. least (between xs valued)) subscripts in
      let within = inside ∙ ap (λ xs. least (conflicts_inside xs c.subscripts)) own ∙ ap (λ xs. least (conflicts_inside (change_of names t.name (count subs) at) xs)) subscripts in
      let beside = ap (λ xs. least (conflicts_inside xs valued)) own in
      ap (λ x. lesser x (lesser c.conflict (lesser (least (between c.subscripts valued)) (lesser c.inside (lesser (least (conflicts_inside c.own valued)) c.fault))))) used
      ∙ ap (λ x. lesser u (lesser x (lesser (least (between c.subscripts valued)) (lesser c.inside (lesser (least (conflicts_inside c.own valued)) c.fault))))) conflict
      ∙ ap (λ x. lesser u (lesser k (lesser x (lesser c.inside (lesser (least (conflicts_inside c.own valued)) c.fault))))) apart
      ∙ ap (λ x. lesser u (lesser k (lesser (least (between (all_accesses names subs) valued)) (lesser x (lesser (least (conflicts_inside c.own valued)) c.fault))))) within
      ∙ ap (λ x. lesser u (lesser k (lesser (least (between (all_accesses names subs) valued)) (lesser (least (conflicts_inside (change_of names t.name (count subs) at) (all_accesses names subs))) (lesser x c.fault))))) beside
      ∙ ap (λ x. lesser u (lesser k (lesser (least (between (all_accesses names subs) valued)) (lesser (least (conflicts_inside (change_of names t.name (count subs) at) (all_accesses names subs))) (lesser (least (conflicts_inside (change_of names t.name (count subs) at) valued)) x))))) fault
      ∙ sym (changed_parts bodies names t at valued)

  pub accesses_by_parts : (t : Target) (at : Place) (own subscripts : List Access)
      → own ≡ change_of names t.name (count (trees_of t.subscripts.items)) at
      → subscripts ≡ all_accesses names (trees_of t.subscripts.items)
      → own ++ subscripts ≡ target_accesses names (target_of t) at
  accesses_by_parts t at own subscripts p q =
      ap (λ xs. xs ++ subscripts) p ∙ ap (λ xs. change_of names t.name (count (trees_of t.subscripts.items)) at ++ xs) q
      ∙ sym (ap (λ u. target_accesses names u at) (target_parts t))

  module _ (used : Bool) (before after : List Step) (total : Found) where
    pub binary_more : (op : Binary) (l r : Box Expr Global) (at : Place) (right : Judged)
        → right.fault ≡ least (expression_faults true bodies names (tree_of r.value)) → right.accesses ≡ accesses names (tree_of r.value)
        → after ≡ before ++ s.Binary op right ∷ []
        → steps before (found_of used bodies names (tree_of (e.Binary op l r at))) ≡ total
        → steps after (found_of true bodies names (tree_of l.value)) ≡ total
    binary_more op l r at right f a grown whole =
        let left = found_of true bodies names (tree_of l.value) in
        ap (λ ss. steps ss left) grown ∙ steps_more before (s.Binary op right) left
        ∙ ap (steps before) (same-found
        (ap (λ xs. lesser (least (operand_conflicts op left.accesses xs)) (lesser left.fault right.fault)) a
        ∙ ap (λ x. lesser (least (operand_conflicts op left.accesses (accesses names (tree_of r.value)))) (lesser left.fault x)) f
        ∙ sym (binary_faults used bodies names op l r at))
        (ap (λ xs. left.accesses ++ xs) a ∙ sym (ap (accesses names) (binary_tree op l r at))))
        ∙ whole

    pub comma_more : (l r : Box Expr Global) (at : Place) (right : Judged)
        → right.fault ≡ least (expression_faults true bodies names (tree_of r.value)) → right.accesses ≡ accesses names (tree_of r.value)
        → after ≡ before ++ s.Comma right ∷ []
        → steps before (found_of used bodies names (tree_of (e.Comma l r at))) ≡ total
        → steps after (found_of false bodies names (tree_of l.value)) ≡ total
    comma_more l r at right f a grown whole =
        let left = found_of false bodies names (tree_of l.value) in
        ap (λ ss. steps ss left) grown ∙ steps_more before (s.Comma right) left
        ∙ ap (steps before) (same-found
        (ap (lesser left.fault) f ∙ sym (comma_faults used bodies names l r at))
        (ap (λ xs. left.accesses ++ xs) a ∙ sym (ap (accesses names) (comma_tree l r at))))
        ∙ whole

    pub assign_more : (t : Target) (op : Option Binary) (v : Box Expr Global) (at : Place) (c : Changed)
        → c.used ≡ least (target_faults (sense_of t.name names) (count (trees_of t.subscripts.items)) t.at)
        → c.conflict ≡ least (conflicts_among names [] (trees_of t.subscripts.items))
        → c.inside ≡ least (conflicts_inside c.own c.subscripts)
        → c.fault ≡ least (operand_faults bodies names [] (trees_of t.subscripts.items))
        → c.own ≡ change_of names t.name (count (trees_of t.subscripts.items)) at
        → c.subscripts ≡ all_accesses names (trees_of t.subscripts.items)
        → after ≡ before ++ s.Assign c ∷ []
        → steps before (found_of used bodies names (tree_of (e.Assign t op v at))) ≡ total
        → steps after (found_of true bodies names (tree_of v.value)) ≡ total
    assign_more t op v at c u k i f o x grown whole =
        let value = found_of true bodies names (tree_of v.value) in
        ap (λ ss. steps ss value) grown ∙ steps_more before (s.Assign c) value
        ∙ ap (steps before) (same-found
        (ap (λ y. lesser y value.fault) (changed_by_parts t at value.accesses c u k i f o x) ∙ sym (assign_faults used bodies names t op v at))
        (ap (λ xs. xs ++ value.accesses) (accesses_by_parts t at c.own c.subscripts o x) ∙ sym (ap (accesses names) (assign_tree t op v at))))
        ∙ whole
