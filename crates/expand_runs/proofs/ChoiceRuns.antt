-- A `?:` with an operand that has effects.
use Rattle.std.proofs.Common.{◌≡◌, ℕ, ◌≤◌, sym, ap, subst, ℤ, Bool, true, false, List, [], ◌∷◌, ◌++◌, length, arith, if◌then◌else◌}
use Rattle.hls_base.specs.declared.place.Place.{Place}
use Rattle.c_token.specs.declared.ctype.CType.{CType}
use Rattle.pieces.specs.Resolved.Core as core
use Rattle.pieces.specs.Resolved.Core.{CoreTree, CoreTrees}
use Rattle.pieces.specs.Trees as tree
use Rattle.pieces.specs.Trees.{PureTree, PieceTree, piece_row, row}
use Rattle.piece_making.specs.declared.frame.Home.{Home}
use Rattle.piece_making.specs.declared.effects.Effects.{Effects}
use Rattle.piece_making.specs.Acting.{acts, either, effects}
use Rattle.piece_making.specs.Making.{State, Part, gives, then_, emit, fresh}
use Rattle.piece_making.specs.Saving.{save}
use Rattle.piece_making.specs.Calls.{Call}
use Rattle.hls_base.specs.Steps as Steps
use Rattle.hls_base.specs.Steps.{Ran, goes}
use Rattle.hls_base.specs.Same.{Same}
use Rattle.c_meaning.specs.CoreRuns.Kinds.{kind_of}
use Rattle.c_meaning.specs.CoreRuns.Kinds as kinds_of
use Rattle.c_meaning.specs.CoreRuns.Cells.{Spot, Cells, Here}
use Rattle.c_meaning.specs.CoreRuns.Expressions as ce
use Rattle.c_meaning.specs.CoreRuns.Expressions.{CoreCalls}
use Rattle.c_meaning.specs.PieceRuns.Values.{Store}
use Rattle.c_meaning.specs.PieceRuns.Pieces.{Frame}
use Rattle.c_expand.specs.Expressions.{Callee, expression}
use Rattle.expand_runs.specs.Reading.{IsTyped, UnaryFits, BinaryFits}
use Rattle.expand_runs.specs.Growing.{IsWithin}
use Rattle.expand_runs.specs.Showing.{Known, IsShown}
use Rattle.expand_runs.specs.Sound.{Objects, Reads}
use Rattle.expand_runs.specs.Worlds.{IsWorld, IsOver}
use Rattle.expand_runs.proofs.Rows.{run_of}
use Rattle.expand_runs.proofs.Growing.{within_before, later_both, later_fresh}
use Rattle.expand_runs.proofs.Fine.{Sets}
use Rattle.expand_runs.proofs.FineExpressions.{CalleesKeep}
use Rattle.expand_runs.proofs.ExpressionParts.{Result}
use Rattle.std.proofs.Common.{◌||◌}
use Rattle.hls_base.specs.declared.point.PointKind.TheVariants as point
use Rattle.pieces.specs.Trees.{PieceTrees}
use Rattle.piece_making.specs.Making.{inside}
use Rattle.c_expand.specs.Expressions.{same, arm, fork_of, chosen}
use Rattle.expand_runs.proofs.Operands.{save_well}
use Rattle.expand_runs.proofs.ForkParts.{choice_forked}
use Rattle.expand_runs.proofs.PartRuns.{Does, any_later, save_later, over_later}
use Rattle.std.proofs.lemmas.List.{length-append}
use Rattle.c_value.specs.Operators.{is_true}
use Rattle.piece_making.specs.Making.{variable_number}
use Rattle.c_meaning.specs.PieceRuns.Pieces.{type_of}
use Rattle.expand_runs.proofs.Growing.{last_one}

abbrev chosen_in_branches : Call → CType → Place → Place → PureTree → Effects → (State → Part PureTree) → (State → Part PureTree) → State → Part PureTree
chosen_in_branches c k at colon test later left right s =
    then_ (save c.file_variables test later s) (λ t s1.
    then_ (fresh k s1) (λ own s2.
    then_ (arm c at left same own s2) (λ first s3.
    then_ (arm c colon right same own s3) (λ second s4. fork_of c at t first.pieces second.pieces own k s4))))

chosen_so : (c : Call) (k : CType) (at colon : Place) (test : PureTree) (later : Effects) (left right : State → Part PureTree) (s : State) → acts later ≡ true → chosen c k at colon test later left right s ≡ chosen_in_branches c k at colon test later left right s
unfolding chosen
chosen_so c k at colon test later left right s e =
    ap (λ b. if b then chosen_in_branches c k at colon test later left right s else then_ (left s) (λ x s1. then_ (right s1) (λ y s2. gives (tree.choice test x y k) s2))) e

module _ (unary_fits : UnaryFits) (binary_fits : BinaryFits) (f : Frame) (k : ℕ) (here : Here) (c : Call) (o : Objects) (Homes : Spot → Home → Type 0) (Lives : Spot → Type 0) (kinds : Known) (base : ℕ)
    (world : IsWorld f here c o Homes Lives kinds base) (cc : CoreCalls) (g : Callee) (callees : CalleesKeep f o g c) where
  abbrev Means : CoreTree → Cells → ℕ → Ran Cells ℤ
  Means e s n = ce.expression cc true e here s n

  pub choice_within : (test left right : CoreTree) (kd : CType) (at colon : Place) (st : State) → acts (either (effects left) (effects right)) ≡ true → IsWithin (expression g c (core.choice test left right kd at colon) st).state f → IsWithin (expression g c test st).state f
  unfolding then_ emit inside fresh
  choice_within test left right kd at colon st acts_ within =
      let x = expression g c test st in
      let later = either (effects left) (effects right) in
      let sv = save c.file_variables x.value later x.state in
      let s2 = (fresh kd sv.state).state in
      let sl = record s2 { made = 1 } in
      let l = expression g c left sl in
      let sr = record l.state { made = 1 } in
      let r = expression g c right sr in
      let within1 : IsWithin (chosen_in_branches c kd at colon x.value later (expression g c left) (expression g c right) x.state).state f =
      subst (λ (part : Part PureTree). IsWithin part.state f) (chosen_so c kd at colon x.value later (expression g c left) (expression g c right) x.state acts_) within in
      let within_r : IsWithin r.state f = record { variables = within1.variables; arrays = within1.arrays } in
      let within_sr : IsWithin sr f = within_before sr r.state f (any_later unary_fits binary_fits f k here c o Homes Lives kinds base world cc g callees right sr) within_r in
      let within_l : IsWithin l.state f = record { variables = within_sr.variables; arrays = within_sr.arrays } in
      let within_sl : IsWithin sl f = within_before sl l.state f (any_later unary_fits binary_fits f k here c o Homes Lives kinds base world cc g callees left sl) within_l in
      let within_fresh : IsWithin s2 f = record { variables = within_sl.variables; arrays = within_sl.arrays } in
      within_before x.state s2 f (later_both x.state sv.state s2 (save_later unary_fits binary_fits f k here c o Homes Lives kinds base world cc g callees x.value later x.state) (later_fresh kd sv.state)) within_fresh

  -- The operand that is chosen is evaluated in a branch.
  pub choice_runs : (used : Bool) (test left right : CoreTree) (kd : CType) (at colon : Place) (st : State) (s : Cells) (t : Store) (n : ℕ) → acts (either (effects left) (effects right)) ≡ true → kinds_of.acts left || kinds_of.acts right ≡ true → IsOver c base world.array_base world.seen st
      → IsWithin (expression g c (core.choice test left right kd at colon) st).state f
      → Same false k (Does unary_fits binary_fits f k here c o Homes Lives kinds base world cc g callees true test st (expression g c test st)) (Means test s n) (run_of f (expression g c test st).pieces t n)
      → ((st1 : State) → IsOver c base world.array_base world.seen st1 → IsWithin (expression g c left st1).state f → (s1 : Cells) (t1 : Store) (n1 : ℕ) → n1 ≤ k → IsShown f Homes Lives kinds s1 t1 → IsTyped f t1
      → Same false k (Does unary_fits binary_fits f k here c o Homes Lives kinds base world cc g callees true left st1 (expression g c left st1)) (Means left s1 n1) (run_of f (expression g c left st1).pieces t1 n1))
      → ((st1 : State) → IsOver c base world.array_base world.seen st1 → IsWithin (expression g c right st1).state f → (s1 : Cells) (t1 : Store) (n1 : ℕ) → n1 ≤ k → IsShown f Homes Lives kinds s1 t1 → IsTyped f t1
      → Same false k (Does unary_fits binary_fits f k here c o Homes Lives kinds base world cc g callees true right st1 (expression g c right st1)) (Means right s1 n1) (run_of f (expression g c right st1).pieces t1 n1))
      → Same false k (Does unary_fits binary_fits f k here c o Homes Lives kinds base world cc g callees used (core.choice test left right kd at colon) st (expression g c (core.choice test left right kd at colon) st)) (ce.expression cc used (core.choice test left right kd at colon) here s n)
      (run_of f (expression g c (core.choice test left right kd at colon) st).pieces t n)
  unfolding then_ emit inside fresh
  choice_runs used test left right kd at colon st s t n acts_ core_acts over within h first second =
      let low = over.low in
      let e = core.choice test left right kd at colon in
      let x = expression g c test st in
      let later = either (effects left) (effects right) in
      let sv = save c.file_variables x.value later x.state in
      let own = length sv.state.variables in
      let s2 = (fresh kd sv.state).state in
      let sl = record s2 { made = 1 } in
      let l = expression g c left sl in
      let s3 = record l.state { made = s2.made } in
      let sr = record s3 { made = 1 } in
      let r = expression g c right sr in
      let equal = chosen_so c kd at colon x.value later (expression g c left) (expression g c right) x.state acts_ in
      let within1 : IsWithin (chosen_in_branches c kd at colon x.value later (expression g c left) (expression g c right) x.state).state f = subst (λ (part : Part PureTree). IsWithin part.state f) equal within in
      let within_r : IsWithin r.state f = record { variables = within1.variables; arrays = within1.arrays } in
      let within_sr : IsWithin sr f = within_before sr r.state f (any_later unary_fits binary_fits f k here c o Homes Lives kinds base world cc g callees right sr) within_r in
      let within_l : IsWithin l.state f = record { variables = within_sr.variables; arrays = within_sr.arrays } in
      let within_sl : IsWithin sl f = within_before sl l.state f (any_later unary_fits binary_fits f k here c o Homes Lives kinds base world cc g callees left sl) within_l in
      let within_fresh : IsWithin (fresh kd sv.state).state f = record { variables = within_sl.variables; arrays = within_sl.arrays } in
      let more = (any_later unary_fits binary_fits f k here c o Homes Lives kinds base world cc g callees test st).more in
      let more1 = (save_later unary_fits binary_fits f k here c o Homes Lives kinds base world cc g callees x.value later x.state).more in
      let longer = (later_fresh kd sv.state).more in
      let last = length-append sv.state.variables (kd ∷ []) in
      let more2 = (any_later unary_fits binary_fits f k here c o Homes Lives kinds base world cc g callees left sl).more in
      let up = later_both st x.state sv.state (any_later unary_fits binary_fits f k here c o Homes Lives kinds base world cc g callees test st) (save_later unary_fits binary_fits f k here c o Homes Lives kinds base world cc g callees x.value later x.state) in
      let over2 = over_later unary_fits binary_fits f k here c o Homes Lives kinds base world cc g callees st s2 over (later_both st sv.state s2 up (later_fresh kd sv.state)) in
      let over_sl : IsOver c base world.array_base world.seen sl = record { low = over2.low; arrays = over2.arrays; noted = over2.noted } in
      let over3 = over_later unary_fits binary_fits f k here c o Homes Lives kinds base world cc g callees sl l.state over_sl (any_later unary_fits binary_fits f k here c o Homes Lives kinds base world cc g callees left sl) in
      let over_sr : IsOver c base world.array_base world.seen sr = record { low = over3.low; arrays = over3.arrays; noted = over3.noted } in
      let more3 = (any_later unary_fits binary_fits f k here c o Homes Lives kinds base world cc g callees right sr).more in
      let high = length r.state.variables in
      let own_type = ap type_of (within_fresh.variables own kd (last_one sv.state.variables kd)) in
      let meaning = λ (fork : Bool). Steps.then_ (Means test s n) (λ v s1 n1. if is_true v then ce.chosen fork at at kd here (Means left) s1 n1 else ce.chosen fork colon at kd here (Means right) s1 n1) in
      let P = λ (part : Part PureTree). Same false k (Result unary_fits binary_fits f k here c o Homes Lives kinds base world used e (length st.variables) (length part.state.variables) part.value) (meaning (kinds_of.acts left || kinds_of.acts right)) (run_of f (x.pieces ++ part.pieces) t n) in
      let branch_of = λ (path : List Place) (place : Place) (ys : List PieceTree) (y : PureTree). (tree.mark (record { path = path; at = place; kind = point.Arm }) ∷ []) ++ (ys ++ (tree.set (variable_number own) y ∷ [])) in
      let pieces_of = λ (path : List Place). x.pieces ++ (sv.pieces ++ (tree.fork sv.value (piece_row (branch_of path at l.pieces l.value)) (piece_row (branch_of path colon r.pieces r.value)) (record { path = path; at = at; kind = point.End }) ∷ [])) in
      subst P (sym equal)
      (subst (λ path. Same false k (Result unary_fits binary_fits f k here c o Homes Lives kinds base world used e (length st.variables) high (tree.variable (variable_number own) kd)) (meaning (kinds_of.acts left || kinds_of.acts right)) (run_of f (pieces_of path) t n)) (sym world.path)
      (subst (λ fork. Same false k (Result unary_fits binary_fits f k here c o Homes Lives kinds base world used e (length st.variables) high (tree.variable (variable_number own) kd)) (meaning fork) (run_of f (pieces_of here.path) t n)) (sym core_acts)
      (choice_forked unary_fits binary_fits f k here c o Homes Lives kinds base world used test left right kd at colon own (length st.variables) high (length x.state.variables) (length sl.variables) (length l.state.variables) (length sr.variables) high
      x.value sv.value l.value r.value x.pieces sv.pieces l.pieces r.pieces (Means test s n) (Means left) (Means right) t n
      (omega (arith, low, more, more1)) (omega (arith, more, more1)) (omega (arith, last, more2, more3)) own_type h
      (λ v s1 w t1 a.
      let d = save_well f here c o Homes Lives kinds base world unary_fits binary_fits (λ y. Reads y test) (length st.variables) x.value (kind_of test) v later x.state s1 t1 low more a.done.shown a.done.typed (a.value tt)
      (within_before sv.state (fresh kd sv.state).state f (later_fresh kd sv.state) within_fresh) in
      (d.after, d.goes, d.shown, d.typed, d.value.same))
      (λ s1 t1 n1 le shown typed. first sl over_sl within_l s1 t1 n1 le shown typed)
      (λ s1 t1 n1 le shown typed. second sr over_sr within_r s1 t1 n1 le shown typed))))
