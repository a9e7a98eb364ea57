-- `&&` and `||` with a second operand that has effects.
use Rattle.std.proofs.Common.{◌≡◌, ℕ, ◌≤◌, sym, ap, subst, Bool, true, false, List, [], ◌∷◌, ◌++◌, length, arith, if◌then◌else◌}
use Rattle.hls_base.specs.declared.place.Place.{Place}
use Rattle.c_token.specs.declared.ctype.CType.{CType}
use Rattle.pieces.specs.Resolved.Core as core
use Rattle.pieces.specs.Resolved.Core.{CoreTree, CoreTrees}
use Rattle.pieces.specs.Trees as tree
use Rattle.pieces.specs.Trees.{PureTree, PieceTree, piece_row, row}
use Rattle.piece_making.specs.declared.frame.Home.{Home}
use Rattle.piece_making.specs.declared.effects.Effects.{Effects}
use Rattle.piece_making.specs.Acting.{acts, effects}
use Rattle.piece_making.specs.Making.{State, Part, gives, then_, emit, fresh}
use Rattle.piece_making.specs.Saving.{save}
use Rattle.piece_making.specs.Calls.{Call}
use Rattle.hls_base.specs.Steps as Steps
use Rattle.hls_base.specs.Steps.{Ran, goes}
use Rattle.hls_base.specs.Same.{Same}
use Rattle.c_meaning.specs.CoreRuns.Kinds.{kind_of}
use Rattle.c_meaning.specs.CoreRuns.Kinds as kinds_of
use Rattle.c_meaning.specs.CoreRuns.Cells.{Spot, Cells, Here}
use Rattle.c_meaning.specs.CoreRuns.Expressions as ce
use Rattle.c_meaning.specs.CoreRuns.Expressions.{CoreCalls}
use Rattle.c_meaning.specs.PieceRuns.Values.{Store}
use Rattle.c_meaning.specs.PieceRuns.Pieces.{Frame}
use Rattle.c_expand.specs.Expressions.{Callee, expression}
use Rattle.expand_runs.specs.Reading.{IsTyped, UnaryFits, BinaryFits}
use Rattle.expand_runs.specs.Growing.{IsWithin}
use Rattle.expand_runs.specs.Showing.{Known, IsShown}
use Rattle.expand_runs.specs.Sound.{Objects, Reads}
use Rattle.expand_runs.specs.Worlds.{IsWorld, IsOver}
use Rattle.expand_runs.proofs.Rows.{run_of}
use Rattle.expand_runs.proofs.Growing.{within_before, later_both, later_fresh}
use Rattle.expand_runs.proofs.Fine.{Sets}
use Rattle.expand_runs.proofs.FineExpressions.{CalleesKeep}
use Rattle.expand_runs.proofs.ExpressionParts.{Result}
use Rattle.hls_base.specs.declared.point.PointKind.TheVariants as point
use Rattle.pieces.specs.Trees.{PieceTrees}
use Rattle.piece_making.specs.Making.{inside}
use Rattle.expand_runs.proofs.Operands.{save_well}
use Rattle.expand_runs.proofs.PartRuns.{Does, any_later, save_later, over_later}
use Rattle.std.proofs.lemmas.List.{length-append}
use Rattle.piece_making.specs.Making.{variable_number}
use Rattle.c_meaning.specs.PieceRuns.Pieces.{type_of}
use Rattle.expand_runs.proofs.Growing.{last_one}
use Rattle.c_tree.specs.declared.operator.Binary.{Binary}
use Rattle.c_tree.specs.declared.operator.Binary.TheVariants as b
use Rattle.c_token.specs.declared.ctype.CType.TheVariants as type
use Rattle.c_value.specs.Values.{int_type}
use Rattle.c_expand.specs.Expressions.{operated, forked}
use Rattle.expand_runs.proofs.LogicalParts.{and_forked, or_forked}

abbrev in_branch : Call → Binary → CType → Place → PureTree → Effects → (State → Part PureTree) → State → Part PureTree
in_branch c op k at x later right s = then_ (save c.file_variables x later s) (λ left s1. forked c op k at left right s1)

and_so : (c : Call) (k : CType) (at : Place) (x : PureTree) (later : Effects) (right : State → Part PureTree) (s : State) → acts later ≡ true → operated c b.LogAnd k at x later right s ≡ in_branch c b.LogAnd k at x later right s
and_so c k at x later right s e =
    ap (λ z. then_ (save c.file_variables x later s) (λ left s1. if z then forked c b.LogAnd k at left right s1 else then_ (right s1) (λ y s2. gives (tree.binary b.LogAnd left y k at) s2))) e

or_so : (c : Call) (k : CType) (at : Place) (x : PureTree) (later : Effects) (right : State → Part PureTree) (s : State) → acts later ≡ true → operated c b.LogOr k at x later right s ≡ in_branch c b.LogOr k at x later right s
or_so c k at x later right s e =
    ap (λ z. then_ (save c.file_variables x later s) (λ left s1. if z then forked c b.LogOr k at left right s1 else then_ (right s1) (λ y s2. gives (tree.binary b.LogOr left y k at) s2))) e

module _ (unary_fits : UnaryFits) (binary_fits : BinaryFits) (f : Frame) (k : ℕ) (here : Here) (c : Call) (o : Objects) (Homes : Spot → Home → Type 0) (Lives : Spot → Type 0) (kinds : Known) (base : ℕ)
    (world : IsWorld f here c o Homes Lives kinds base) (cc : CoreCalls) (g : Callee) (callees : CalleesKeep f o g c) where
  pub within_and : (left right : CoreTree) (at : Place) (st : State) → acts (effects right) ≡ true → IsWithin (expression g c (core.binary b.LogAnd left right int_type at) st).state f → IsWithin (expression g c left st).state f
  unfolding then_ emit inside fresh
  within_and left right at st acts_ within =
      let x = expression g c left st in
      let sv = save c.file_variables x.value (effects right) x.state in
      let s2 = (fresh int_type sv.state).state in
      let sl = record s2 { made = 1 } in
      let z = expression g c right sl in
      let within1 : IsWithin (in_branch c b.LogAnd int_type at x.value (effects right) (expression g c right) x.state).state f = subst (λ (part : Part PureTree). IsWithin part.state f) (and_so c int_type at x.value (effects right) (expression g c right) x.state acts_) within in
      let within_z : IsWithin z.state f = record { variables = within1.variables; arrays = within1.arrays } in
      let within_sl : IsWithin sl f = within_before sl z.state f (any_later unary_fits binary_fits f k here c o Homes Lives kinds base world cc g callees right sl) within_z in
      let within_fresh : IsWithin s2 f = record { variables = within_sl.variables; arrays = within_sl.arrays } in
      within_before x.state s2 f (later_both x.state sv.state s2 (save_later unary_fits binary_fits f k here c o Homes Lives kinds base world cc g callees x.value (effects right) x.state) (later_fresh int_type sv.state)) within_fresh

  -- The second operand is evaluated in a branch.
  pub and_runs : (used : Bool) (left right : CoreTree) (at : Place) (st : State) (s : Cells) (t : Store) (n : ℕ) → acts (effects right) ≡ true → kinds_of.acts right ≡ true → IsOver c base world.array_base world.seen st
      → IsWithin (expression g c (core.binary b.LogAnd left right int_type at) st).state f
      → Same false k (Does unary_fits binary_fits f k here c o Homes Lives kinds base world cc g callees true left st (expression g c left st)) (ce.expression cc true left here s n) (run_of f (expression g c left st).pieces t n)
      → ((st1 : State) → IsOver c base world.array_base world.seen st1 → IsWithin (expression g c right st1).state f → (s1 : Cells) (t1 : Store) (n1 : ℕ) → n1 ≤ k → IsShown f Homes Lives kinds s1 t1 → IsTyped f t1
      → Same false k (Does unary_fits binary_fits f k here c o Homes Lives kinds base world cc g callees true right st1 (expression g c right st1)) (ce.expression cc true right here s1 n1) (run_of f (expression g c right st1).pieces t1 n1))
      → Same false k (Does unary_fits binary_fits f k here c o Homes Lives kinds base world cc g callees used (core.binary b.LogAnd left right int_type at) st (expression g c (core.binary b.LogAnd left right int_type at) st))
      (ce.expression cc used (core.binary b.LogAnd left right int_type at) here s n) (run_of f (expression g c (core.binary b.LogAnd left right int_type at) st).pieces t n)
  unfolding then_ emit inside fresh
  and_runs used left right at st s t n acts_ core_acts over within h second =
      let low = over.low in
      let e = core.binary b.LogAnd left right int_type at in
      let x = expression g c left st in
      let later = effects right in
      let sv = save c.file_variables x.value later x.state in
      let own = length sv.state.variables in
      let s2 = (fresh int_type sv.state).state in
      let sl = record s2 { made = 1 } in
      let z = expression g c right sl in
      let equal = and_so c int_type at x.value later (expression g c right) x.state acts_ in
      let within1 : IsWithin (in_branch c b.LogAnd int_type at x.value later (expression g c right) x.state).state f = subst (λ (part : Part PureTree). IsWithin part.state f) equal within in
      let within_z : IsWithin z.state f = record { variables = within1.variables; arrays = within1.arrays } in
      let within_sl : IsWithin sl f = within_before sl z.state f (any_later unary_fits binary_fits f k here c o Homes Lives kinds base world cc g callees right sl) within_z in
      let within_fresh : IsWithin (fresh int_type sv.state).state f = record { variables = within_sl.variables; arrays = within_sl.arrays } in
      let more = (any_later unary_fits binary_fits f k here c o Homes Lives kinds base world cc g callees left st).more in
      let more1 = (save_later unary_fits binary_fits f k here c o Homes Lives kinds base world cc g callees x.value later x.state).more in
      let longer = (later_fresh int_type sv.state).more in
      let last = length-append sv.state.variables (int_type ∷ []) in
      let up = later_both st x.state sv.state (any_later unary_fits binary_fits f k here c o Homes Lives kinds base world cc g callees left st) (save_later unary_fits binary_fits f k here c o Homes Lives kinds base world cc g callees x.value later x.state) in
      let over2 = over_later unary_fits binary_fits f k here c o Homes Lives kinds base world cc g callees st s2 over (later_both st sv.state s2 up (later_fresh int_type sv.state)) in
      let over_sl : IsOver c base world.array_base world.seen sl = record { low = over2.low; arrays = over2.arrays; noted = over2.noted } in
      let more2 = (any_later unary_fits binary_fits f k here c o Homes Lives kinds base world cc g callees right sl).more in
      let high = length z.state.variables in
      let own_type = ap type_of (within_fresh.variables own int_type (last_one sv.state.variables int_type)) in
      let meaning = λ (fork : Bool). Steps.then_ (ce.expression cc true left here s n) (λ v s1 n1. ce.joined b.LogAnd (kind_of left) v (kind_of right) fork at here (ce.expression cc true right here) s1 n1) in
      let P = λ (part : Part PureTree). Same false k (Result unary_fits binary_fits f k here c o Homes Lives kinds base world used e (length st.variables) (length part.state.variables) part.value) (meaning (kinds_of.acts right)) (run_of f (x.pieces ++ part.pieces) t n) in
      let branch_of = λ (path : List Place) (ys : List PieceTree) (y : PureTree). (tree.mark (record { path = path; at = at; kind = point.Arm }) ∷ []) ++ (ys ++ (tree.set (variable_number own) (tree.cast type.Bool y) ∷ [])) in
      let pieces_of = λ (path : List Place). x.pieces ++ (sv.pieces ++ (tree.fork sv.value (piece_row (branch_of path z.pieces z.value)) (piece_row (tree.set (variable_number own) (tree.number 0 int_type) ∷ [])) (record { path = path; at = at; kind = point.End }) ∷ [])) in
      subst P (sym equal)
      (subst (λ path. Same false k (Result unary_fits binary_fits f k here c o Homes Lives kinds base world used e (length st.variables) high (tree.variable (variable_number own) int_type)) (meaning (kinds_of.acts right)) (run_of f (pieces_of path) t n)) (sym world.path)
      (subst (λ fork. Same false k (Result unary_fits binary_fits f k here c o Homes Lives kinds base world used e (length st.variables) high (tree.variable (variable_number own) int_type)) (meaning fork) (run_of f (pieces_of here.path) t n)) (sym core_acts)
      (and_forked unary_fits binary_fits f k here c o Homes Lives kinds base world used left right at own (length st.variables) high (length x.state.variables) (length sl.variables) high
      x.value sv.value z.value x.pieces sv.pieces z.pieces (ce.expression cc true left here s n) (ce.expression cc true right here) t n
      (omega (arith, low, more, more1)) (omega (arith, more, more1)) (omega (arith, last, more2)) own_type h
      (λ v s1 w t1 a.
      let d = save_well f here c o Homes Lives kinds base world unary_fits binary_fits (λ y. Reads y left) (length st.variables) x.value (kind_of left) v later x.state s1 t1 low more a.done.shown a.done.typed (a.value tt)
      (within_before sv.state (fresh int_type sv.state).state f (later_fresh int_type sv.state) within_fresh) in
      (d.after, d.goes, d.shown, d.typed, d.value.same))
      (λ s1 t1 n1 le shown typed. second sl over_sl within_z s1 t1 n1 le shown typed))))

  pub within_or : (left right : CoreTree) (at : Place) (st : State) → acts (effects right) ≡ true → IsWithin (expression g c (core.binary b.LogOr left right int_type at) st).state f → IsWithin (expression g c left st).state f
  unfolding then_ emit inside fresh
  within_or left right at st acts_ within =
      let x = expression g c left st in
      let sv = save c.file_variables x.value (effects right) x.state in
      let s2 = (fresh int_type sv.state).state in
      let sl = record s2 { made = 1 } in
      let z = expression g c right sl in
      let within1 : IsWithin (in_branch c b.LogOr int_type at x.value (effects right) (expression g c right) x.state).state f = subst (λ (part : Part PureTree). IsWithin part.state f) (or_so c int_type at x.value (effects right) (expression g c right) x.state acts_) within in
      let within_z : IsWithin z.state f = record { variables = within1.variables; arrays = within1.arrays } in
      let within_sl : IsWithin sl f = within_before sl z.state f (any_later unary_fits binary_fits f k here c o Homes Lives kinds base world cc g callees right sl) within_z in
      let within_fresh : IsWithin s2 f = record { variables = within_sl.variables; arrays = within_sl.arrays } in
      within_before x.state s2 f (later_both x.state sv.state s2 (save_later unary_fits binary_fits f k here c o Homes Lives kinds base world cc g callees x.value (effects right) x.state) (later_fresh int_type sv.state)) within_fresh

  -- The second operand is evaluated in a branch.
  pub or_runs : (used : Bool) (left right : CoreTree) (at : Place) (st : State) (s : Cells) (t : Store) (n : ℕ) → acts (effects right) ≡ true → kinds_of.acts right ≡ true → IsOver c base world.array_base world.seen st
      → IsWithin (expression g c (core.binary b.LogOr left right int_type at) st).state f
      → Same false k (Does unary_fits binary_fits f k here c o Homes Lives kinds base world cc g callees true left st (expression g c left st)) (ce.expression cc true left here s n) (run_of f (expression g c left st).pieces t n)
      → ((st1 : State) → IsOver c base world.array_base world.seen st1 → IsWithin (expression g c right st1).state f → (s1 : Cells) (t1 : Store) (n1 : ℕ) → n1 ≤ k → IsShown f Homes Lives kinds s1 t1 → IsTyped f t1
      → Same false k (Does unary_fits binary_fits f k here c o Homes Lives kinds base world cc g callees true right st1 (expression g c right st1)) (ce.expression cc true right here s1 n1) (run_of f (expression g c right st1).pieces t1 n1))
      → Same false k (Does unary_fits binary_fits f k here c o Homes Lives kinds base world cc g callees used (core.binary b.LogOr left right int_type at) st (expression g c (core.binary b.LogOr left right int_type at) st))
      (ce.expression cc used (core.binary b.LogOr left right int_type at) here s n) (run_of f (expression g c (core.binary b.LogOr left right int_type at) st).pieces t n)
  unfolding then_ emit inside fresh
  or_runs used left right at st s t n acts_ core_acts over within h second =
      let low = over.low in
      let e = core.binary b.LogOr left right int_type at in
      let x = expression g c left st in
      let later = effects right in
      let sv = save c.file_variables x.value later x.state in
      let own = length sv.state.variables in
      let s2 = (fresh int_type sv.state).state in
      let sl = record s2 { made = 1 } in
      let z = expression g c right sl in
      let equal = or_so c int_type at x.value later (expression g c right) x.state acts_ in
      let within1 : IsWithin (in_branch c b.LogOr int_type at x.value later (expression g c right) x.state).state f = subst (λ (part : Part PureTree). IsWithin part.state f) equal within in
      let within_z : IsWithin z.state f = record { variables = within1.variables; arrays = within1.arrays } in
      let within_sl : IsWithin sl f = within_before sl z.state f (any_later unary_fits binary_fits f k here c o Homes Lives kinds base world cc g callees right sl) within_z in
      let within_fresh : IsWithin (fresh int_type sv.state).state f = record { variables = within_sl.variables; arrays = within_sl.arrays } in
      let more = (any_later unary_fits binary_fits f k here c o Homes Lives kinds base world cc g callees left st).more in
      let more1 = (save_later unary_fits binary_fits f k here c o Homes Lives kinds base world cc g callees x.value later x.state).more in
      let longer = (later_fresh int_type sv.state).more in
      let last = length-append sv.state.variables (int_type ∷ []) in
      let up = later_both st x.state sv.state (any_later unary_fits binary_fits f k here c o Homes Lives kinds base world cc g callees left st) (save_later unary_fits binary_fits f k here c o Homes Lives kinds base world cc g callees x.value later x.state) in
      let over2 = over_later unary_fits binary_fits f k here c o Homes Lives kinds base world cc g callees st s2 over (later_both st sv.state s2 up (later_fresh int_type sv.state)) in
      let over_sl : IsOver c base world.array_base world.seen sl = record { low = over2.low; arrays = over2.arrays; noted = over2.noted } in
      let more2 = (any_later unary_fits binary_fits f k here c o Homes Lives kinds base world cc g callees right sl).more in
      let high = length z.state.variables in
      let own_type = ap type_of (within_fresh.variables own int_type (last_one sv.state.variables int_type)) in
      let meaning = λ (fork : Bool). Steps.then_ (ce.expression cc true left here s n) (λ v s1 n1. ce.joined b.LogOr (kind_of left) v (kind_of right) fork at here (ce.expression cc true right here) s1 n1) in
      let P = λ (part : Part PureTree). Same false k (Result unary_fits binary_fits f k here c o Homes Lives kinds base world used e (length st.variables) (length part.state.variables) part.value) (meaning (kinds_of.acts right)) (run_of f (x.pieces ++ part.pieces) t n) in
      let branch_of = λ (path : List Place) (ys : List PieceTree) (y : PureTree). (tree.mark (record { path = path; at = at; kind = point.Arm }) ∷ []) ++ (ys ++ (tree.set (variable_number own) (tree.cast type.Bool y) ∷ [])) in
      let pieces_of = λ (path : List Place). x.pieces ++ (sv.pieces ++ (tree.fork sv.value (piece_row (tree.set (variable_number own) (tree.number 1 int_type) ∷ [])) (piece_row (branch_of path z.pieces z.value)) (record { path = path; at = at; kind = point.End }) ∷ [])) in
      subst P (sym equal)
      (subst (λ path. Same false k (Result unary_fits binary_fits f k here c o Homes Lives kinds base world used e (length st.variables) high (tree.variable (variable_number own) int_type)) (meaning (kinds_of.acts right)) (run_of f (pieces_of path) t n)) (sym world.path)
      (subst (λ fork. Same false k (Result unary_fits binary_fits f k here c o Homes Lives kinds base world used e (length st.variables) high (tree.variable (variable_number own) int_type)) (meaning fork) (run_of f (pieces_of here.path) t n)) (sym core_acts)
      (or_forked unary_fits binary_fits f k here c o Homes Lives kinds base world used left right at own (length st.variables) high (length x.state.variables) (length sl.variables) high
      x.value sv.value z.value x.pieces sv.pieces z.pieces (ce.expression cc true left here s n) (ce.expression cc true right here) t n
      (omega (arith, low, more, more1)) (omega (arith, more, more1)) (omega (arith, last, more2)) own_type h
      (λ v s1 w t1 a.
      let d = save_well f here c o Homes Lives kinds base world unary_fits binary_fits (λ y. Reads y left) (length st.variables) x.value (kind_of left) v later x.state s1 t1 low more a.done.shown a.done.typed (a.value tt)
      (within_before sv.state (fresh int_type sv.state).state f (later_fresh int_type sv.state) within_fresh) in
      (d.after, d.goes, d.shown, d.typed, d.value.same))
      (λ s1 t1 n1 le shown typed. second sl over_sl within_z s1 t1 n1 le shown typed))))
