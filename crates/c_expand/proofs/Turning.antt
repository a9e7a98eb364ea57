-- Operands, arguments, statements, actions and items one by one, as all of them.
use Rattle.std.proofs.Common.{◌≡◌, ℕ, suc, ◌+◌, ◌-◌, ◌<◌, ◌≤◌, Bool, ◌&&◌, eqb, List, [], ◌∷◌, ◌++◌, length, get_or, drop, take, map, refl, sym, ap, subst, ◌∙◌, arith, length-drop, Option}
use Rattle.std.proofs.Math.Seq.{take-length}
use lib.Dec.{eqb-suc-zero, eqb-suc-suc}
use Rattle.std.specs.Option.{option_map}
use Rattle.hls_base.specs.declared.refusal.Refusal.{Refusal}
use Rattle.hls_base.specs.declared.number.ArrayId.{ArrayId}
use Rattle.pieces.specs.declared.resolved.expression.CoreExpr.{CoreExpr}
use Rattle.pieces.specs.declared.resolved.expression.Argument.{Argument}
use Rattle.pieces.specs.declared.resolved.statement.CoreStmt.{CoreStmt}
use Rattle.pieces.specs.declared.resolved.statement.CoreAction.{CoreAction}
use Rattle.pieces.specs.Resolved.Core.{row, argument_row, stmt_row}
use Rattle.pieces.specs.Resolved.CoreView.{core_of, core_argument_of, core_stmt_of, core_action_of}
use Rattle.pieces.specs.Trees as tree
use Rattle.pieces.specs.Trees.{PureTree, PureTrees}
use Rattle.piece_making.specs.declared.effects.Effects.{Effects}
use Rattle.piece_making.specs.Making.{Part, emit}
use Rattle.piece_making.specs.Calls.{Call}
use Rattle.piece_making.specs.Acting.{either, effects_of_all, effects_of_arguments}
use Rattle.piece_making.specs.Saving.{save}
use Rattle.piece_making.specs.Leaving.{is_empty}
use Rattle.piece_making.specs.Stocks.{Stock, state_of, IsMade, IsTooHeavy}
use Rattle.piece_making.proofs.EffectLaws.{first_dropped}
use Rattle.c_expand.specs.Expressions.{Callee, Given, expression, operands, argument, arguments}
use Rattle.c_expand.specs.Statements.{statement, statements, action, actions, item_value, filled, subscripts_at}
use Rattle.c_expand.proofs.Leading.{Leads, leads_as, goes_on, stops, ends, none_left}

empty_row : (ys : List CoreStmt) → is_empty (stmt_row (map core_stmt_of ys)) ≡ eqb (length ys) 0
empty_row [] = refl
empty_row (y ∷ ys) = sym (eqb-suc-zero (length ys))

same_test : (m : ℕ) → eqb m 0 ≡ eqb (suc m) 1
same_test m = sym (eqb-suc-suc m 0)

same_end : (n i : ℕ) → i < n → eqb (n - (i + 1)) 0 ≡ eqb (n - i) 1
same_end n i h = same_test (n - (i + 1)) ∙ ap (λ (z : ℕ). eqb z 1) (omega arith)

last_one : (body : List CoreStmt) (i : ℕ) → i < length body → is_empty (stmt_row (map core_stmt_of (drop (i + 1) body))) ≡ eqb (length body - i) 1
last_one body i h = empty_row (drop (i + 1) body) ∙ (ap (λ (z : ℕ). eqb z 0) (length-drop (i + 1) body) ∙ same_end (length body) i h)

-- the elements of a slice from here on
pub rest_of : {A : Type 0} (n : ℕ) (xs : List A) → take (length xs - n) (drop n xs) ≡ drop n xs
rest_of n xs = ap (λ (k : ℕ). take k (drop n xs)) (sym (length-drop n xs)) ∙ take-length (drop n xs)

module _ (f : Callee) (c : Call) where
  -- ---- operands

  operands_next : (es : List CoreExpr) (i : ℕ) (e : CoreExpr) (later : Effects) (values : List PureTree) (old mid : Stock) (whole : Part (List PureTree))
      → i < length es → e ≡ get_or es i e
      → Leads old mid (operands f c (row (map core_of (drop i es))) later values (state_of mid)) whole
      → Leads old mid (operands f c (row (map core_of (e ∷ drop (i + 1) es))) later values (state_of mid)) whole
  operands_next es i e later values old mid whole lt at l =
      leads_as _ _ _ _ _ (ap (λ (xs : List CoreExpr). operands f c (row (map core_of xs)) later values (state_of mid)) (first_dropped es i e lt at)) l

  pub operands_turn : (es : List CoreExpr) (i : ℕ) (e : CoreExpr) (later rest : Effects) (values after : List PureTree) (x y : PureTree) (old mid mid1 new : Stock) (whole : Part (List PureTree))
      → i < length es → e ≡ get_or es i e
      → IsMade mid mid1 x (expression f c (core_of e) (state_of mid)) → IsMade mid1 new y (save c.file_variables x rest (state_of mid1))
      → rest ≡ either (effects_of_all (row (map core_of (drop (i + 1) es)))) later → after ≡ values ++ y ∷ []
      → Leads old mid (operands f c (row (map core_of (drop i es))) later values (state_of mid)) whole
      → Leads old new (operands f c (row (map core_of (drop (i + 1) es))) later after (state_of new)) whole
  operands_turn es i e later rest values after x y old mid mid1 new whole lt at h k same pushed l =
      let k1 : IsMade mid1 new y (save c.file_variables x (either (effects_of_all (row (map core_of (drop (i + 1) es)))) later) (state_of mid1)) = subst (λ (r : Effects). IsMade mid1 new y (save c.file_variables x r (state_of mid1))) same k in
      leads_as _ _ _ _ _ (ap (λ (vs : List PureTree). operands f c (row (map core_of (drop (i + 1) es))) later vs (state_of new)) (sym pushed))
      (goes_on _ _ _ _ _ _ _ k1 (goes_on _ _ _ _ _ _ _ h (operands_next es i e later values old mid whole lt at l)))

  pub operands_heavy : (es : List CoreExpr) (i : ℕ) (e : CoreExpr) (later : Effects) (values : List PureTree) (old mid : Stock) (r : Refusal) (whole : Part (List PureTree))
      → i < length es → e ≡ get_or es i e → Leads old mid (operands f c (row (map core_of (drop i es))) later values (state_of mid)) whole
      → IsTooHeavy mid r (expression f c (core_of e) (state_of mid)) → IsTooHeavy old r whole
  operands_heavy es i e later values old mid r whole lt at l h = stops _ _ _ _ _ _ (operands_next es i e later values old mid whole lt at l) h

  pub operands_heavy_saved : (es : List CoreExpr) (i : ℕ) (e : CoreExpr) (later rest : Effects) (values : List PureTree) (x : PureTree) (old mid mid1 : Stock) (r : Refusal) (whole : Part (List PureTree))
      → i < length es → e ≡ get_or es i e → Leads old mid (operands f c (row (map core_of (drop i es))) later values (state_of mid)) whole
      → IsMade mid mid1 x (expression f c (core_of e) (state_of mid))
      → rest ≡ either (effects_of_all (row (map core_of (drop (i + 1) es)))) later
      → IsTooHeavy mid1 r (save c.file_variables x rest (state_of mid1)) → IsTooHeavy old r whole
  operands_heavy_saved es i e later rest values x old mid mid1 r whole lt at l h same k =
      let k1 : IsTooHeavy mid1 r (save c.file_variables x (either (effects_of_all (row (map core_of (drop (i + 1) es)))) later) (state_of mid1)) = subst (λ (q : Effects). IsTooHeavy mid1 r (save c.file_variables x q (state_of mid1))) same k in
      stops _ _ _ _ _ _ (goes_on _ _ _ _ _ _ _ h (operands_next es i e later values old mid whole lt at l)) k1

  pub operands_end : (es : List CoreExpr) (i : ℕ) (later : Effects) (values : List PureTree) (old mid : Stock) (whole : Part (List PureTree))
      → length es ≤ i → Leads old mid (operands f c (row (map core_of (drop i es))) later values (state_of mid)) whole → IsMade old mid values whole
  operands_end es i later values old mid whole le l =
      ends _ _ _ _ _ refl (leads_as _ _ _ _ _ (ap (λ (xs : List CoreExpr). operands f c (row (map core_of xs)) later values (state_of mid)) (none_left es i le)) l)

  -- ---- arguments

  arguments_next : (es : List Argument) (i : ℕ) (e : Argument) (values : List Given) (old mid : Stock) (whole : Part (List Given))
      → i < length es → e ≡ get_or es i e
      → Leads old mid (arguments f c (argument_row (map core_argument_of (drop i es))) values (state_of mid)) whole
      → Leads old mid (arguments f c (argument_row (map core_argument_of (e ∷ drop (i + 1) es))) values (state_of mid)) whole
  arguments_next es i e values old mid whole lt at l =
      leads_as _ _ _ _ _ (ap (λ (xs : List Argument). arguments f c (argument_row (map core_argument_of xs)) values (state_of mid)) (first_dropped es i e lt at)) l

  pub arguments_turn : (es : List Argument) (i : ℕ) (e : Argument) (rest : Effects) (values after : List Given) (x : Given) (old mid new : Stock) (whole : Part (List Given))
      → i < length es → e ≡ get_or es i e
      → IsMade mid new x (argument f c (core_argument_of e) rest (state_of mid))
      → rest ≡ effects_of_arguments (argument_row (map core_argument_of (drop (i + 1) es))) → after ≡ values ++ x ∷ []
      → Leads old mid (arguments f c (argument_row (map core_argument_of (drop i es))) values (state_of mid)) whole
      → Leads old new (arguments f c (argument_row (map core_argument_of (drop (i + 1) es))) after (state_of new)) whole
  arguments_turn es i e rest values after x old mid new whole lt at h same pushed l =
      let h1 : IsMade mid new x (argument f c (core_argument_of e) (effects_of_arguments (argument_row (map core_argument_of (drop (i + 1) es)))) (state_of mid)) = subst (λ (r : Effects). IsMade mid new x (argument f c (core_argument_of e) r (state_of mid))) same h in
      leads_as _ _ _ _ _ (ap (λ (vs : List Given). arguments f c (argument_row (map core_argument_of (drop (i + 1) es))) vs (state_of new)) (sym pushed))
      (goes_on _ _ _ _ _ _ _ h1 (arguments_next es i e values old mid whole lt at l))

  pub arguments_heavy : (es : List Argument) (i : ℕ) (e : Argument) (rest : Effects) (values : List Given) (old mid : Stock) (r : Refusal) (whole : Part (List Given))
      → i < length es → e ≡ get_or es i e → Leads old mid (arguments f c (argument_row (map core_argument_of (drop i es))) values (state_of mid)) whole
      → rest ≡ effects_of_arguments (argument_row (map core_argument_of (drop (i + 1) es)))
      → IsTooHeavy mid r (argument f c (core_argument_of e) rest (state_of mid)) → IsTooHeavy old r whole
  arguments_heavy es i e rest values old mid r whole lt at l same h =
      let h1 : IsTooHeavy mid r (argument f c (core_argument_of e) (effects_of_arguments (argument_row (map core_argument_of (drop (i + 1) es)))) (state_of mid)) = subst (λ (q : Effects). IsTooHeavy mid r (argument f c (core_argument_of e) q (state_of mid))) same h in
      stops _ _ _ _ _ _ (arguments_next es i e values old mid whole lt at l) h1

  pub arguments_end : (es : List Argument) (i : ℕ) (values : List Given) (old mid : Stock) (whole : Part (List Given))
      → length es ≤ i → Leads old mid (arguments f c (argument_row (map core_argument_of (drop i es))) values (state_of mid)) whole → IsMade old mid values whole
  arguments_end es i values old mid whole le l =
      ends _ _ _ _ _ refl (leads_as _ _ _ _ _ (ap (λ (xs : List Argument). arguments f c (argument_row (map core_argument_of xs)) values (state_of mid)) (none_left es i le)) l)

  -- ---- statements

  block_next : (body : List CoreStmt) (i : ℕ) (x : CoreStmt) (tail : Bool) (old mid : Stock) (whole : Part (Unit {0}))
      → i < length body → x ≡ get_or body i x
      → Leads old mid (statements f c (stmt_row (map core_stmt_of (drop i body))) tail (state_of mid)) whole
      → Leads old mid (statements f c (stmt_row (map core_stmt_of (x ∷ drop (i + 1) body))) tail (state_of mid)) whole
  block_next body i x tail old mid whole lt at l =
      leads_as _ _ _ _ _ (ap (λ (xs : List CoreStmt). statements f c (stmt_row (map core_stmt_of xs)) tail (state_of mid)) (first_dropped body i x lt at)) l

  pub block_turn : (body : List CoreStmt) (i : ℕ) (x : CoreStmt) (tail last : Bool) (u : Unit {0}) (old mid new : Stock) (whole : Part (Unit {0}))
      → i < length body → x ≡ get_or body i x → last ≡ (tail && eqb (length body - i) 1)
      → IsMade mid new u (statement f c (core_stmt_of x) last (state_of mid))
      → Leads old mid (statements f c (stmt_row (map core_stmt_of (drop i body))) tail (state_of mid)) whole
      → Leads old new (statements f c (stmt_row (map core_stmt_of (drop (i + 1) body))) tail (state_of new)) whole
  block_turn body i x tail last u old mid new whole lt at is h l =
      let same = is ∙ ap (λ (z : Bool). tail && z) (sym (last_one body i lt)) in
      let h1 : IsMade mid new u (statement f c (core_stmt_of x) (tail && is_empty (stmt_row (map core_stmt_of (drop (i + 1) body)))) (state_of mid)) = subst (λ (b : Bool). IsMade mid new u (statement f c (core_stmt_of x) b (state_of mid))) same h in
      goes_on _ _ _ _ _ _ _ h1 (block_next body i x tail old mid whole lt at l)

  pub block_heavy : (body : List CoreStmt) (i : ℕ) (x : CoreStmt) (tail last : Bool) (old mid : Stock) (r : Refusal) (whole : Part (Unit {0}))
      → i < length body → x ≡ get_or body i x → last ≡ (tail && eqb (length body - i) 1)
      → Leads old mid (statements f c (stmt_row (map core_stmt_of (drop i body))) tail (state_of mid)) whole
      → IsTooHeavy mid r (statement f c (core_stmt_of x) last (state_of mid)) → IsTooHeavy old r whole
  block_heavy body i x tail last old mid r whole lt at is l h =
      let same = is ∙ ap (λ (z : Bool). tail && z) (sym (last_one body i lt)) in
      let h1 : IsTooHeavy mid r (statement f c (core_stmt_of x) (tail && is_empty (stmt_row (map core_stmt_of (drop (i + 1) body)))) (state_of mid)) = subst (λ (b : Bool). IsTooHeavy mid r (statement f c (core_stmt_of x) b (state_of mid))) same h in
      stops _ _ _ _ _ _ (block_next body i x tail old mid whole lt at l) h1

  pub block_end : (body : List CoreStmt) (i : ℕ) (tail : Bool) (u : Unit {0}) (old mid : Stock) (whole : Part (Unit {0}))
      → length body ≤ i → Leads old mid (statements f c (stmt_row (map core_stmt_of (drop i body))) tail (state_of mid)) whole → IsMade old mid u whole
  block_end body i tail u old mid whole le l =
      ends _ _ _ _ _ refl (leads_as _ _ _ _ _ (ap (λ (xs : List CoreStmt). statements f c (stmt_row (map core_stmt_of xs)) tail (state_of mid)) (none_left body i le)) l)

  -- ---- actions

  actions_next : (list : List CoreAction) (i : ℕ) (x : CoreAction) (old mid : Stock) (whole : Part (Unit {0}))
      → i < length list → x ≡ get_or list i x
      → Leads old mid (actions f c (map core_action_of (drop i list)) (state_of mid)) whole
      → Leads old mid (actions f c (map core_action_of (x ∷ drop (i + 1) list)) (state_of mid)) whole
  actions_next list i x old mid whole lt at l =
      leads_as _ _ _ _ _ (ap (λ (xs : List CoreAction). actions f c (map core_action_of xs) (state_of mid)) (first_dropped list i x lt at)) l

  pub actions_turn : (list : List CoreAction) (i : ℕ) (x : CoreAction) (u : Unit {0}) (old mid new : Stock) (whole : Part (Unit {0}))
      → i < length list → x ≡ get_or list i x
      → IsMade mid new u (action f c (core_action_of x) (state_of mid))
      → Leads old mid (actions f c (map core_action_of (drop i list)) (state_of mid)) whole
      → Leads old new (actions f c (map core_action_of (drop (i + 1) list)) (state_of new)) whole
  unfolding actions
  actions_turn list i x u old mid new whole lt at h l = goes_on _ _ _ _ _ _ _ h (actions_next list i x old mid whole lt at l)

  pub actions_heavy : (list : List CoreAction) (i : ℕ) (x : CoreAction) (old mid : Stock) (r : Refusal) (whole : Part (Unit {0}))
      → i < length list → x ≡ get_or list i x
      → Leads old mid (actions f c (map core_action_of (drop i list)) (state_of mid)) whole
      → IsTooHeavy mid r (action f c (core_action_of x) (state_of mid)) → IsTooHeavy old r whole
  unfolding actions
  actions_heavy list i x old mid r whole lt at l h = stops _ _ _ _ _ _ (actions_next list i x old mid whole lt at l) h

  pub actions_end : (list : List CoreAction) (i : ℕ) (u : Unit {0}) (old mid : Stock) (whole : Part (Unit {0}))
      → length list ≤ i → Leads old mid (actions f c (map core_action_of (drop i list)) (state_of mid)) whole → IsMade old mid u whole
  unfolding actions
  actions_end list i u old mid whole le l =
      ends _ _ _ _ _ refl (leads_as _ _ _ _ _ (ap (λ (xs : List CoreAction). actions f c (map core_action_of xs) (state_of mid)) (none_left list i le)) l)

  -- ---- items

  fill_next : (array : ArrayId) (lengths : List ℕ) (items : List (Option CoreExpr)) (i : ℕ) (x : Option CoreExpr) (old mid : Stock) (whole : Part (Unit {0}))
      → i < length items → x ≡ get_or items i x
      → Leads old mid (filled f c array lengths i (map (option_map core_of) (drop i items)) (state_of mid)) whole
      → Leads old mid (filled f c array lengths i (map (option_map core_of) (x ∷ drop (i + 1) items)) (state_of mid)) whole
  fill_next array lengths items i x old mid whole lt at l =
      leads_as _ _ _ _ _ (ap (λ (xs : List (Option CoreExpr)). filled f c array lengths i (map (option_map core_of) xs) (state_of mid)) (first_dropped items i x lt at)) l

  pub fill_turn : (array : ArrayId) (lengths : List ℕ) (items : List (Option CoreExpr)) (i : ℕ) (x : Option CoreExpr) (value : PureTree) (subscripts : PureTrees) (u : Unit {0}) (old mid mid1 new : Stock) (whole : Part (Unit {0}))
      → i < length items → x ≡ get_or items i x
      → IsMade mid mid1 value (item_value f c (option_map core_of x) (state_of mid))
      → subscripts ≡ subscripts_at lengths i
      → IsMade mid1 new u (emit (tree.put array subscripts value c.body_at) (state_of mid1))
      → Leads old mid (filled f c array lengths i (map (option_map core_of) (drop i items)) (state_of mid)) whole
      → Leads old new (filled f c array lengths (i + 1) (map (option_map core_of) (drop (i + 1) items)) (state_of new)) whole
  fill_turn array lengths items i x value subscripts u old mid mid1 new whole lt at h same k l =
      let k1 : IsMade mid1 new u (emit (tree.put array (subscripts_at lengths i) value c.body_at) (state_of mid1)) = subst (λ (q : PureTrees). IsMade mid1 new u (emit (tree.put array q value c.body_at) (state_of mid1))) same k in
      goes_on _ _ _ _ _ _ _ k1 (goes_on _ _ _ _ _ _ _ h (fill_next array lengths items i x old mid whole lt at l))

  pub fill_heavy : (array : ArrayId) (lengths : List ℕ) (items : List (Option CoreExpr)) (i : ℕ) (x : Option CoreExpr) (old mid : Stock) (r : Refusal) (whole : Part (Unit {0}))
      → i < length items → x ≡ get_or items i x
      → Leads old mid (filled f c array lengths i (map (option_map core_of) (drop i items)) (state_of mid)) whole
      → IsTooHeavy mid r (item_value f c (option_map core_of x) (state_of mid)) → IsTooHeavy old r whole
  fill_heavy array lengths items i x old mid r whole lt at l h = stops _ _ _ _ _ _ (fill_next array lengths items i x old mid whole lt at l) h

  pub fill_heavy_put : (array : ArrayId) (lengths : List ℕ) (items : List (Option CoreExpr)) (i : ℕ) (x : Option CoreExpr) (value : PureTree) (subscripts : PureTrees) (old mid mid1 : Stock) (r : Refusal) (whole : Part (Unit {0}))
      → i < length items → x ≡ get_or items i x
      → Leads old mid (filled f c array lengths i (map (option_map core_of) (drop i items)) (state_of mid)) whole
      → IsMade mid mid1 value (item_value f c (option_map core_of x) (state_of mid))
      → subscripts ≡ subscripts_at lengths i
      → IsTooHeavy mid1 r (emit (tree.put array subscripts value c.body_at) (state_of mid1)) → IsTooHeavy old r whole
  fill_heavy_put array lengths items i x value subscripts old mid mid1 r whole lt at l h same k =
      let k1 : IsTooHeavy mid1 r (emit (tree.put array (subscripts_at lengths i) value c.body_at) (state_of mid1)) = subst (λ (q : PureTrees). IsTooHeavy mid1 r (emit (tree.put array q value c.body_at) (state_of mid1))) same k in
      stops _ _ _ _ _ _ (goes_on _ _ _ _ _ _ _ h (fill_next array lengths items i x old mid whole lt at l)) k1

  pub fill_end : (array : ArrayId) (lengths : List ℕ) (items : List (Option CoreExpr)) (i : ℕ) (u : Unit {0}) (old mid : Stock) (whole : Part (Unit {0}))
      → length items ≤ i → Leads old mid (filled f c array lengths i (map (option_map core_of) (drop i items)) (state_of mid)) whole → IsMade old mid u whole
  fill_end array lengths items i u old mid whole le l =
      ends _ _ _ _ _ refl (leads_as _ _ _ _ _ (ap (λ (xs : List (Option CoreExpr)). filled f c array lengths i (map (option_map core_of) xs) (state_of mid)) (none_left items i le)) l)
