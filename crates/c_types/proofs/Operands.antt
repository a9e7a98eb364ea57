-- Targets by their parts, and the operands from an index on.
use Rattle.std.proofs.Common.{◌≡◌, ℕ, zero, suc, ◌+◌, ◌<◌, Bool, true, false, List, [], ◌∷◌, ◌++◌, Option, length, drop, get_or, refl, sym, ap, ◌∙◌, append_assoc, add-one, if◌then◌else◌}
use Rattle.std.proofs.lemmas.List.{at_drop_more}
use Rattle.hls_base.specs.declared.place.Place.{Place}
use Rattle.hls_base.specs.declared.refusal.Refusal.{Refusal}
use Rattle.c_tree.specs.declared.expression.Expr.{Expr}
use Rattle.c_tree.specs.declared.expression.Target.{Target}
use Rattle.c_tree.specs.declared.expression.Expr.TheFolds.{fold_out-Target}
use Rattle.c_tree.specs.Tree as tree
use Rattle.c_tree.specs.Tree.{Tree, TargetTree}
use Rattle.c_tree.specs.View.{tree_of, target_of, trees_of, tree_step, target_step}
use Rattle.c_meaning.specs.Checks.Faults.{lesser, least}
use Rattle.c_meaning.specs.Checks.Names.{Shape, Declared, sense_of, count, target_faults}
use Rattle.c_meaning.specs.Checks.Conflicts.{Access, accesses, all_accesses, between, conflicts_among, conflicts_inside, change_of}
use Rattle.c_meaning.specs.Checks.Expressions.{expression_faults, changed_faults, operand_faults, is_given, name_given_faults}
use Rattle.c_names.proofs.DeclarationsLemmas.Least.{least_append, least_more}

pub target_parts : (t : Target) → target_of t ≡ tree.target t.name (trees_of t.subscripts.items) t.at
target_parts t = fold_out-Target Tree TargetTree tree_step target_step t

pub changed_parts : (bodies : List (List ℕ)) (names : List Declared) (t : Target) (at : Place) (valued : List Access) → least (changed_faults bodies names (target_of t) at valued)
    ≡ lesser (least (target_faults (sense_of t.name names) (count (trees_of t.subscripts.items)) t.at))
    (lesser (least (conflicts_among names [] (trees_of t.subscripts.items)))
    (lesser (least (between (all_accesses names (trees_of t.subscripts.items)) valued))
    (lesser (least (conflicts_inside (change_of names t.name (count (trees_of t.subscripts.items)) at) (all_accesses names (trees_of t.subscripts.items))))
    (lesser (least (conflicts_inside (change_of names t.name (count (trees_of t.subscripts.items)) at) valued))
    (least (operand_faults bodies names [] (trees_of t.subscripts.items)))))))
changed_parts bodies names t at valued =
    let subscripts = trees_of t.subscripts.items in
    let own = change_of names t.name (count subscripts) at in
    let used = target_faults (sense_of t.name names) (count subscripts) t.at in
    let among = conflicts_among names [] subscripts in
    let apart = between (all_accesses names subscripts) valued in
    let inside = conflicts_inside own (all_accesses names subscripts) in
    let beside = conflicts_inside own valued in
    let inner = operand_faults bodies names [] subscripts in
    ap (λ u. least (changed_faults bodies names u at valued)) (target_parts t)
    ∙ least_append used (among ++ (apart ++ (inside ++ (beside ++ inner))))
    ∙ ap (lesser (least used)) (least_append among (apart ++ (inside ++ (beside ++ inner)))
    ∙ ap (lesser (least among)) (least_append apart (inside ++ (beside ++ inner))
    ∙ ap (lesser (least apart)) (least_append inside (beside ++ inner)
    ∙ ap (lesser (least inside)) (least_append beside inner))))

least-if : (b : Bool) (xs ys : List Refusal) (own : Option Refusal) → own ≡ least ys → (if b then least xs else own) ≡ least (if b then xs else ys)
least-if true xs ys own e = refl
least-if false xs ys own e = e

drop-one : {A : Type 0} (i : ℕ) (xs : List A) → drop 1 (drop i xs) ≡ drop (suc i) xs
drop-one zero xs = refl
drop-one (suc i) [] = refl
drop-one (suc i) (x ∷ xs) = drop-one i xs

drop-drop_1 : {A : Type 0} (i : ℕ) (xs : List A) → drop 1 (drop i xs) ≡ drop (i + 1) xs
drop-drop_1 i xs = drop-one i xs ∙ ap (λ k. drop k xs) (sym (add-one i))

module _ (bodies : List (List ℕ)) (names : List Declared) (params : List Shape) (es : List Expr) (i : ℕ) (e : Expr) (lt : i < length es) (is : e ≡ get_or es i e) where
  pub operands_more : (worst total after found own : Option Refusal) → own ≡ least (expression_faults true bodies names (tree_of e)) →
      found ≡ (if is_given (drop i params) (tree_of e) then least (name_given_faults names (tree_of e)) else own) → after ≡ lesser worst found →
      lesser worst (least (operand_faults bodies names (drop i params) (trees_of (drop i es)))) ≡ total →
      lesser after (least (operand_faults bodies names (drop (i + 1) params) (trees_of (drop (i + 1) es)))) ≡ total
  operands_more worst total after found own o f w invariant =
      let given = is_given (drop i params) (tree_of e) in
      let here = if given then name_given_faults names (tree_of e) else expression_faults true bodies names (tree_of e) in
      ap (λ ps. lesser after (least (operand_faults bodies names ps (trees_of (drop (i + 1) es))))) (sym (drop-drop_1 i params))
      ∙ least_more (λ xs. operand_faults bodies names (drop i params) (trees_of xs)) es i e here (operand_faults bodies names (drop 1 (drop i params)) (trees_of (drop (i + 1) es)))
      worst total after found lt is refl (f ∙ least-if given (name_given_faults names (tree_of e)) (expression_faults true bodies names (tree_of e)) own o) w invariant

  pub conflicts_more : (before since own : List Access) (worst total after found : Option Refusal) → own ≡ accesses names (tree_of e) → since ≡ before ++ own → found ≡ least (between before own) → after ≡ lesser worst found →
      lesser worst (least (conflicts_among names before (trees_of (drop i es)))) ≡ total →
      lesser after (least (conflicts_among names since (trees_of (drop (i + 1) es)))) ≡ total
  conflicts_more before since own worst total after found o s f w invariant =
      ap (λ zs. lesser after (least (conflicts_among names zs (trees_of (drop (i + 1) es))))) (s ∙ ap (λ zs. before ++ zs) o)
      ∙ least_more (λ xs. conflicts_among names before (trees_of xs)) es i e (between before (accesses names (tree_of e)))
      (conflicts_among names (before ++ accesses names (tree_of e)) (trees_of (drop (i + 1) es))) worst total after found lt is refl (f ∙ ap (λ zs. least (between before zs)) o) w invariant

  pub accesses_more : (before since own all : List Access) → own ≡ accesses names (tree_of e) → since ≡ before ++ own →
      before ++ all_accesses names (trees_of (drop i es)) ≡ all → since ++ all_accesses names (trees_of (drop (i + 1) es)) ≡ all
  accesses_more before since own all o s invariant =
      ap (λ zs. zs ++ all_accesses names (trees_of (drop (i + 1) es))) (s ∙ ap (λ zs. before ++ zs) o)
      ∙ append_assoc before (accesses names (tree_of e)) (all_accesses names (trees_of (drop (i + 1) es)))
      ∙ ap (λ zs. before ++ zs) (ap (λ x. accesses names (tree_of x) ++ all_accesses names (trees_of (drop (i + 1) es))) is ∙ sym (at_drop_more (λ xs. all_accesses names (trees_of xs)) es i e lt))
      ∙ invariant
