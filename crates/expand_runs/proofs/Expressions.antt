-- The pieces of an expression do what the expression does, where calls of functions do.
use Rattle.std.proofs.Common.{◌≡◌, ℕ, ◌≤◌, ◌⊎◌, inl, inr, ◌∙◌, sym, refl, ap, ap₂, subst, ℤ, Bool, true, false, true≢false, List, [], ◌∷◌, ◌++◌, length, Option, Some, None, ◌||◌}
use Rattle.hls_base.specs.declared.place.Place.{Place}
use Rattle.c_token.specs.declared.ctype.CType.{CType}
use Rattle.c_tree.specs.declared.operator.Binary.{Binary}
use Rattle.c_tree.specs.declared.operator.Binary.TheVariants as b
use Rattle.c_value.specs.Operators.{binary_kind}
use Rattle.pieces.specs.declared.resolved.expression.Cell.{Cell}
use Rattle.pieces.specs.Resolved.Core as core
use Rattle.pieces.specs.Resolved.Core.{CoreTree, CoreTrees, ArgumentTrees}
use Rattle.pieces.specs.Trees.{PureTree}
use Rattle.piece_making.specs.declared.frame.Home.{Home}
use Rattle.piece_making.specs.declared.effects.Effects.{Effects}
use Rattle.piece_making.specs.Acting.{acts, either, no_effects, effects, effects_of_all, effects_of_arguments}
use Rattle.piece_making.specs.Making.{State, Part, then_}
use Rattle.piece_making.specs.Saving.{save, is_logical}
use Rattle.piece_making.specs.Calls.{Call, array}
use Rattle.hls_base.specs.Same.{Same}
use Rattle.c_meaning.specs.CoreRuns.Cells.{Spot, Cells, Given, array_given, Here, spot_of}
use Rattle.c_meaning.specs.CoreRuns.Kinds as kinds_of
use Rattle.c_meaning.specs.CoreRuns.Kinds.{kind_of}
use Rattle.c_meaning.specs.CoreRuns.Expressions as ce
use Rattle.c_meaning.specs.CoreRuns.Expressions.{CoreCalls}
use Rattle.c_meaning.specs.PieceRuns.Values.{Store}
use Rattle.c_meaning.specs.PieceRuns.Pieces.{Frame}
use Rattle.c_expand.specs.Expressions as e
use Rattle.c_expand.specs.Expressions.{Callee, comma_left, expression, operands, arguments}
use Rattle.expand_runs.specs.Reading.{IsTyped, UnaryFits, BinaryFits}
use Rattle.expand_runs.specs.Growing.{IsWithin}
use Rattle.expand_runs.specs.Showing.{Known, IsShown}
use Rattle.expand_runs.specs.Sound.{Objects, IsSound, AreSound, ArgumentsSound}
use Rattle.expand_runs.specs.Calling.{CallsSame}
use Rattle.expand_runs.specs.Worlds.{IsWorld, IsOver}
use Rattle.expand_runs.proofs.Rows.{run_of}
use Rattle.expand_runs.proofs.Growing.{within_before, later_both}
use Rattle.expand_runs.proofs.FineExpressions.{CalleesKeep}
use Rattle.expand_runs.proofs.Quiet.{quiet_first, quiet_second}
use Rattle.expand_runs.proofs.Operands.{OperandsDone}
use Rattle.expand_runs.proofs.ExpressionParts.{number_same, scalar_same, unary_same, cast_same}
use Rattle.expand_runs.proofs.OperandParts.{none_done}
use Rattle.expand_runs.proofs.PartRuns.{operated_plain, Does, any_later, all_later, save_later, comma_left_later, over_later, binary_runs, operands_runs, element_runs, comma_runs}
use Rattle.expand_runs.proofs.LogicalRuns.{and_runs, or_runs, within_and, within_or}
use Rattle.expand_runs.proofs.ChoiceRuns.{choice_runs, choice_within}
use Rattle.expand_runs.proofs.QuietValues.{acts_agree, acts_either, operated_quiet, chosen_quiet}
use Rattle.expand_runs.proofs.QuietParts.{logical_same, choice_same}
use Rattle.expand_runs.proofs.Assignments.{scalar_assigned, element_assigned, scalar_bumped, element_bumped, assign_before, bump_before_within}
use Rattle.expand_runs.proofs.Arguments.{ArgumentsDone, args_later, call_later, no_argument_same, array_argument_same, number_argument_same, call_same}

-- which operator decides by its first operand
logical_tells : (op : Binary) → (is_logical op ≡ false) ⊎ ((op ≡ b.LogAnd) ⊎ (op ≡ b.LogOr))
logical_tells b.Mul = inl refl
logical_tells b.Div = inl refl
logical_tells b.Rem = inl refl
logical_tells b.Add = inl refl
logical_tells b.Sub = inl refl
logical_tells b.Shl = inl refl
logical_tells b.Shr = inl refl
logical_tells b.Lt = inl refl
logical_tells b.Gt = inl refl
logical_tells b.Le = inl refl
logical_tells b.Ge = inl refl
logical_tells b.Eq = inl refl
logical_tells b.Ne = inl refl
logical_tells b.And = inl refl
logical_tells b.Xor = inl refl
logical_tells b.Or = inl refl
logical_tells b.LogAnd = inr (inl refl)
logical_tells b.LogOr = inr (inr refl)

logical_so : (op op1 : Binary) → op ≡ op1 → is_logical op1 ≡ true → is_logical op ≡ true
logical_so op op1 e h = ap is_logical e ∙ h

type_so : (left right kd : CType) (op op1 : Binary) → op ≡ op1 → binary_kind op left right ≡ kd → binary_kind op1 left right ≡ kd
type_so left right kd op op1 e h = ap (λ z. binary_kind z left right) (sym e) ∙ h

bool_tells : (d : Bool) → (d ≡ true) ⊎ (d ≡ false)
bool_tells true = inl refl
bool_tells false = inr refl

either_agrees : (a b : Bool) (x y : Effects) → a ≡ acts x → b ≡ acts y → a || b ≡ acts (either x y)
either_agrees a b x y e h = ap₂ (λ p q. p || q) e h ∙ sym (acts_either x y)

module _ (unary_fits : UnaryFits) (binary_fits : BinaryFits) (f : Frame) (k : ℕ) (here : Here) (c : Call) (o : Objects) (Homes : Spot → Home → Type 0) (Lives : Spot → Type 0) (kinds : Known) (base : ℕ) (world : IsWorld f here c o Homes Lives kinds base) (cc : CoreCalls) (g : Callee) (callees : CalleesKeep f o g c) (calls : CallsSame k f here c o Homes Lives kinds base world.array_base world.seen cc g) where
  mutual
    unfolding then_

    -- The pieces of an expression go on with its value, behind which what is shown of the objects is what the expression leaves.
    pub expression_same : (used : Bool) (e : CoreTree) → IsSound o e → (st : State) → IsOver c base world.array_base world.seen st → IsWithin (expression g c e st).state f → (s : Cells) (t : Store) (n : ℕ) → n ≤ k → IsShown f Homes Lives kinds s t → IsTyped f t
        → Same false k (Does unary_fits binary_fits f k here c o Homes Lives kinds base world cc g callees used e st (expression g c e st)) (ce.expression cc used e here s n) (run_of f (expression g c e st).pieces t n)
    expression_same used (core.number word kd) sound st over within s t n le shown typed =
        number_same unary_fits binary_fits f k here c o Homes Lives kinds base world used word kd (length st.variables) (length st.variables) s t n le sound shown typed
    expression_same used (core.scalar cell kd at) sound st over within s t n le shown typed =
        scalar_same unary_fits binary_fits f k here c o Homes Lives kinds base world used cell kd at (length st.variables) (length st.variables) s t n le sound shown typed
    expression_same used (core.element cell subscripts kd at) sound st over within s t n le shown typed =
        element_runs unary_fits binary_fits f k here c o Homes Lives kinds base world cc g callees used cell subscripts kd at st s t n over sound.0 (operands_same subscripts sound.1 no_effects [] [] st over within s t n le shown typed)
    expression_same used (core.call callee args kd at) sound st over within s t n le shown typed =
        let all = arguments g c args [] st in
        let part = g callee all.value c at all.state in
        call_same unary_fits binary_fits f k here c o Homes Lives kinds base world cc g callees used callee args kd at st s t n calls sound over within
        (arguments_same args sound.1 [] [] st over (within_before all.state part.state f (call_later unary_fits binary_fits f k here c o Homes Lives kinds base world cc g callees callee args kd at st) within) s t n le shown typed)
    expression_same used (core.unary op arg kd at) sound st over within s t n le shown typed =
        let x = expression g c arg st in
        unary_same unary_fits binary_fits f k here c o Homes Lives kinds base world used op arg kd at (length st.variables) (length x.state.variables) x.value x.pieces (ce.expression cc true arg here s n) t n sound.0
        (expression_same true arg sound.1 st over within s t n le shown typed)
    expression_same used (core.binary op left right kd at) sound st over within s t n le shown typed =
        let Goal = λ (op1 : Binary) (kd1 : CType).
        Same false k (Does unary_fits binary_fits f k here c o Homes Lives kinds base world cc g callees used (core.binary op1 left right kd1 at) st (expression g c (core.binary op1 left right kd1 at) st)) (ce.expression cc used (core.binary op1 left right kd1 at) here s n)
        (run_of f (expression g c (core.binary op1 left right kd1 at) st).pieces t n) in
        let second = λ (st1 : State) (over1 : IsOver c base world.array_base world.seen st1) (within2 : IsWithin (expression g c right st1).state f) (s1 : Cells) (t1 : Store) (n1 : ℕ) (le1 : n1 ≤ k) (shown1 : IsShown f Homes Lives kinds s1 t1) (typed1 : IsTyped f t1).
        expression_same true right sound.2 st1 over1 within2 s1 t1 n1 le1 shown1 typed1 in
        let x = expression g c left st in
        elim (logical_tells op) [
          | inl plain ↦
              let within1 = subst (λ (part : Part PureTree). IsWithin part.state f) (operated_plain c op kd at x.value (effects right) (expression g c right) x.state plain) within in
              let sv = save c.file_variables x.value (effects right) x.state in
              let y = expression g c right sv.state in
              binary_runs unary_fits binary_fits f k here c o Homes Lives kinds base world cc g callees used op left right kd at st s t n plain sound over within
              (expression_same true left sound.1 st over (within_before x.state y.state f (later_both x.state sv.state y.state (save_later unary_fits binary_fits f k here c o Homes Lives kinds base world cc g callees x.value (effects right) x.state) (any_later unary_fits binary_fits f k here c o Homes Lives kinds base world cc g callees right sv.state)) within1) s t n le shown typed)
              second
          | inr logical ↦ elim (bool_tells (acts (effects right))) [
            | inr quiet_ ↦
                let is_so : is_logical op ≡ true = elim logical [ inl e ↦ logical_so op b.LogAnd e refl | inr e ↦ logical_so op b.LogOr e refl ] in
                let y = expression g c right x.state in
                let within1 : IsWithin y.state f = subst (λ (part : Part PureTree). IsWithin part.state f) (operated_quiet c op kd at x.value (effects right) (expression g c right) x.state quiet_) within in
                logical_same unary_fits binary_fits f k here c o Homes Lives kinds base world cc g callees used op left right kd at st s t n is_so quiet_ (acts_agree right ∙ quiet_) sound over within
                (expression_same true left sound.1 st over (within_before x.state y.state f (any_later unary_fits binary_fits f k here c o Homes Lives kinds base world cc g callees right x.state) within1) s t n le shown typed)
                second
            | inl acts_ ↦ elim logical [
              | inl e ↦
                  subst (λ z. Goal z kd) (sym e)
                  (subst (λ z. IsWithin (expression g c (core.binary b.LogAnd left right z at) st).state f → Goal b.LogAnd z) (type_so (kind_of left) (kind_of right) kd op b.LogAnd e sound.0)
                  (λ within_. and_runs unary_fits binary_fits f k here c o Homes Lives kinds base world cc g callees used left right at st s t n acts_ (acts_agree right ∙ acts_) over within_
                  (expression_same true left sound.1 st over (within_and unary_fits binary_fits f k here c o Homes Lives kinds base world cc g callees left right at st acts_ within_) s t n le shown typed) second)
                  (subst (λ z. IsWithin (expression g c (core.binary z left right kd at) st).state f) e within))
              | inr e ↦
                  subst (λ z. Goal z kd) (sym e)
                  (subst (λ z. IsWithin (expression g c (core.binary b.LogOr left right z at) st).state f → Goal b.LogOr z) (type_so (kind_of left) (kind_of right) kd op b.LogOr e sound.0)
                  (λ within_. or_runs unary_fits binary_fits f k here c o Homes Lives kinds base world cc g callees used left right at st s t n acts_ (acts_agree right ∙ acts_) over within_
                  (expression_same true left sound.1 st over (within_or unary_fits binary_fits f k here c o Homes Lives kinds base world cc g callees left right at st acts_ within_) s t n le shown typed) second)
                  (subst (λ z. IsWithin (expression g c (core.binary z left right kd at) st).state f) e within))
            ]
          ]
        ]
    expression_same used (core.choice test left right kd at colon) sound st over within s t n le shown typed =
        let later = either (effects left) (effects right) in
        let x = expression g c test st in
        let first = λ (st1 : State) (over1 : IsOver c base world.array_base world.seen st1) (within1 : IsWithin (expression g c left st1).state f) (s1 : Cells) (t1 : Store) (n1 : ℕ) (le1 : n1 ≤ k) (shown1 : IsShown f Homes Lives kinds s1 t1) (typed1 : IsTyped f t1).
        expression_same true left sound.1 st1 over1 within1 s1 t1 n1 le1 shown1 typed1 in
        let second = λ (st1 : State) (over1 : IsOver c base world.array_base world.seen st1) (within1 : IsWithin (expression g c right st1).state f) (s1 : Cells) (t1 : Store) (n1 : ℕ) (le1 : n1 ≤ k) (shown1 : IsShown f Homes Lives kinds s1 t1) (typed1 : IsTyped f t1).
        expression_same true right sound.2 st1 over1 within1 s1 t1 n1 le1 shown1 typed1 in
        let agree : kinds_of.acts left || kinds_of.acts right ≡ acts later = either_agrees (kinds_of.acts left) (kinds_of.acts right) (effects left) (effects right) (acts_agree left) (acts_agree right) in
        elim (bool_tells (acts later)) [
          | inl acts_ ↦
              choice_runs unary_fits binary_fits f k here c o Homes Lives kinds base world cc g callees used test left right kd at colon st s t n acts_ (agree ∙ acts_) over within
              (expression_same true test sound.0 st over (choice_within unary_fits binary_fits f k here c o Homes Lives kinds base world cc g callees test left right kd at colon st acts_ within) s t n le shown typed) first second
          | inr quiet_ ↦
              let y = expression g c left x.state in
              let z = expression g c right y.state in
              let within_z : IsWithin z.state f = subst (λ (part : Part PureTree). IsWithin part.state f) (chosen_quiet c kd at colon x.value later (expression g c left) (expression g c right) x.state quiet_) within in
              choice_same unary_fits binary_fits f k here c o Homes Lives kinds base world cc g callees used test left right kd at colon st s t n (quiet_first (effects left) (effects right) quiet_) (quiet_second (effects left) (effects right) quiet_) (agree ∙ quiet_) sound over within
              (expression_same true test sound.0 st over (within_before x.state z.state f (later_both x.state y.state z.state (any_later unary_fits binary_fits f k here c o Homes Lives kinds base world cc g callees left x.state) (any_later unary_fits binary_fits f k here c o Homes Lives kinds base world cc g callees right y.state)) within_z) s t n le shown typed) first second
        ]
    expression_same used (core.cast to arg) sound st over within s t n le shown typed =
        let x = expression g c arg st in
        cast_same unary_fits binary_fits f k here c o Homes Lives kinds base world used to arg (length st.variables) (length x.state.variables) x.value x.pieces (ce.expression cc true arg here s n) t n
        (expression_same true arg sound st over within s t n le shown typed)
    expression_same used (core.assign (core.target cell core.none kd place) op v at) sound st over within s t n le shown typed =
        scalar_assigned unary_fits binary_fits f k here c o Homes Lives kinds base world cc g callees used cell kd place op v at st s t n sound over within
        (expression_same true v sound.2 st over (assign_before unary_fits binary_fits f k here c o Homes Lives kinds base world cc g callees cell core.none kd place op v at st within) s t n le shown typed)
    expression_same used (core.assign (core.target cell (core.more first rest) kd place) op v at) sound st over within s t n le shown typed =
        let all = operands g c (core.more first rest) (effects v) [] st in
        let within1 = assign_before unary_fits binary_fits f k here c o Homes Lives kinds base world cc g callees cell (core.more first rest) kd place op v at st within in
        let by = expression g c v all.state in
        element_assigned unary_fits binary_fits f k here c o Homes Lives kinds base world cc g callees used cell first rest kd place op v at st s t n sound over within
        (operands_same (core.more first rest) sound.1 (effects v) [] [] st over (within_before all.state by.state f (any_later unary_fits binary_fits f k here c o Homes Lives kinds base world cc g callees v all.state) within1) s t n le shown typed)
        (λ s1 t1 n1 le1 shown1 typed1. expression_same true v sound.2 all.state (over_later unary_fits binary_fits f k here c o Homes Lives kinds base world cc g callees st all.state over (all_later unary_fits binary_fits f k here c o Homes Lives kinds base world cc g callees (core.more first rest) (effects v) [] st)) within1 s1 t1 n1 le1 shown1 typed1)
    expression_same used (core.bump (core.target cell core.none kd place) up post at) sound st over within s t n le shown typed =
        scalar_bumped unary_fits binary_fits f k here c o Homes Lives kinds base world cc g callees used cell kd place up post at st s t n le sound over within shown typed
    expression_same used (core.bump (core.target cell (core.more first rest) kd place) up post at) sound st over within s t n le shown typed =
        element_bumped unary_fits binary_fits f k here c o Homes Lives kinds base world cc g callees used cell first rest kd place up post at st s t n sound over within
        (operands_same (core.more first rest) sound.1 no_effects [] [] st over (bump_before_within unary_fits binary_fits f k here c o Homes Lives kinds base world cc g callees cell (core.more first rest) kd place up post at st within) s t n le shown typed)
    expression_same used (core.comma left right) sound st over within s t n le shown typed =
        let x = expression g c left st in
        let u = comma_left c.file_variables left x.value (effects right) x.state in
        let y = expression g c right u.state in
        comma_runs unary_fits binary_fits f k here c o Homes Lives kinds base world cc g callees used left right st s t n over within
        (expression_same false left sound.0 st over (within_before x.state y.state f (later_both x.state u.state y.state (comma_left_later unary_fits binary_fits f k here c o Homes Lives kinds base world cc g callees left x.value (effects right) x.state) (any_later unary_fits binary_fits f k here c o Homes Lives kinds base world cc g callees right u.state)) within) s t n le shown typed)
        (λ st1 over1 within2 s1 t1 n1 le1 shown1 typed1. expression_same true right sound.1 st1 over1 within2 s1 t1 n1 le1 shown1 typed1)

    pub operands_same : (xs : CoreTrees) → AreSound o xs → (later : Effects) (before : List PureTree) (bs : List ℤ) (st : State) → IsOver c base world.array_base world.seen st → IsWithin (operands g c xs later before st).state f
        → (s : Cells) (t : Store) (n : ℕ) → n ≤ k → IsShown f Homes Lives kinds s t → IsTyped f t
        → Same false k (OperandsDone f here c o Homes Lives kinds base world xs later (length st.variables) (length (operands g c xs later before st).state.variables) before (operands g c xs later before st).value bs) (ce.numbers cc xs bs here s n)
        (run_of f (operands g c xs later before st).pieces t n)
    operands_same core.none sound later before bs st over within s t n le shown typed =
        none_done unary_fits binary_fits f k here c o Homes Lives kinds base world later (length st.variables) (length st.variables) before bs s t n le shown typed
    operands_same (core.more first rest) sound later before bs st over within s t n le shown typed =
        let x = expression g c first st in
        let both = either (effects_of_all rest) later in
        let sv = save c.file_variables x.value both x.state in
        let part = operands g c rest later (before ++ sv.value ∷ []) sv.state in
        operands_runs unary_fits binary_fits f k here c o Homes Lives kinds base world cc g callees first rest later before bs st s t n sound over within
        (expression_same true first sound.0 st over (within_before x.state part.state f (later_both x.state sv.state part.state (save_later unary_fits binary_fits f k here c o Homes Lives kinds base world cc g callees x.value both x.state) (all_later unary_fits binary_fits f k here c o Homes Lives kinds base world cc g callees rest later (before ++ sv.value ∷ []) sv.state)) within) s t n le shown typed)
        (λ st1 before1 bs1 over1 within2 s1 t1 n1 le1 shown1 typed1. operands_same rest sound.1 later before1 bs1 st1 over1 within2 s1 t1 n1 le1 shown1 typed1)

    pub arguments_same : (args : ArgumentTrees) → ArgumentsSound o args → (before : List e.Given) (bs : List Given) (st : State) → IsOver c base world.array_base world.seen st → IsWithin (arguments g c args before st).state f
        → (s : Cells) (t : Store) (n : ℕ) → n ≤ k → IsShown f Homes Lives kinds s t → IsTyped f t
        → Same false k (ArgumentsDone unary_fits binary_fits f k here c o Homes Lives kinds base world cc g callees args (length (arguments g c args before st).state.variables) before (arguments g c args before st).value bs) (ce.arguments cc args bs here s n) (run_of f (arguments g c args before st).pieces t n)
    arguments_same core.no_argument sound before bs st over within s t n le shown typed = no_argument_same unary_fits binary_fits f k here c o Homes Lives kinds base world cc g callees before bs st s t n le shown typed
    arguments_same (core.more_arguments (core.array cell) rest) sound before bs st over within s t n le shown typed =
        array_argument_same unary_fits binary_fits f k here c o Homes Lives kinds base world cc g callees cell rest before bs st s t n over shown
        (arguments_same rest sound.1 (before ++ e.array_given (array c cell st) ∷ []) (bs ++ array_given (spot_of here cell) ∷ []) st over within s t n le shown typed)
    arguments_same (core.more_arguments (core.given first) rest) sound before bs st over within s t n le shown typed =
        let x = expression g c first st in
        let later = effects_of_arguments rest in
        let sv = save c.file_variables x.value later x.state in
        let part = arguments g c rest (before ++ e.value_given sv.value ∷ []) sv.state in
        number_argument_same unary_fits binary_fits f k here c o Homes Lives kinds base world cc g callees first rest before bs st s t n sound over within
        (expression_same true first sound.0 st over (within_before x.state part.state f (later_both x.state sv.state part.state (save_later unary_fits binary_fits f k here c o Homes Lives kinds base world cc g callees x.value later x.state) (args_later unary_fits binary_fits f k here c o Homes Lives kinds base world cc g callees rest (before ++ e.value_given sv.value ∷ []) sv.state)) within) s t n le shown typed)
        (λ st1 before1 bs1 over1 within2 s1 t1 n1 le1 shown1 typed1. arguments_same rest sound.1 before1 bs1 st1 over1 within2 s1 t1 n1 le1 shown1 typed1)
