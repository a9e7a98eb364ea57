-- Expressions become pieces that set no table.
use Rattle.std.proofs.Common.{◌≡◌, ◌∙◌, refl, sym, subst, Bool, false, List, [], ◌∷◌, ◌++◌, Option}
use Rattle.std.proofs.lemmas.List.{append-nil, append_assoc}
use Rattle.hls_base.specs.declared.place.Place.{Place}
use Rattle.c_token.specs.declared.ctype.CType.{CType}
use Rattle.c_tree.specs.declared.operator.Binary.{Binary}
use Rattle.pieces.specs.declared.resolved.expression.Cell.{Cell}
use Rattle.pieces.specs.Resolved.Core as core
use Rattle.pieces.specs.Resolved.Core.{CoreTree, CoreTargetTree, CoreTrees, ArgumentTree, ArgumentTrees, CoreFunctionTree}
use Rattle.pieces.specs.Trees.{PureTree, row}
use Rattle.piece_making.specs.declared.effects.Effects.{Effects}
use Rattle.piece_making.specs.Acting.{either, no_effects, effects, effects_of_all, effects_of_arguments}
use Rattle.piece_making.specs.Making.{State}
use Rattle.piece_making.specs.Calls.{Call}
use Rattle.piece_making.specs.Assigning.{Change, step}
use Rattle.c_expand.specs.Expressions as e
use Rattle.c_expand.specs.Expressions.{Given, Callee, expression, operands, targeted, argument, arguments}
use Rattle.expand_runs.specs.Sound.{Objects, IsSound, AreSound, ArgumentSound, ArgumentsSound, IsTarget}
use Rattle.source_validity.specs.KeptTables.Programs.{KeepsConstants, EachKeeps, ArgumentKeeps, ArgumentsKeep}
use Rattle.source_validity.specs.KeptTables.Worlds.{World, Later, Knows, Makes, Whatever}
use Rattle.source_validity.specs.KeptTables.Standing.{Names, IsGivenFor, AreGiven, CallsKeep}
use Rattle.source_validity.proofs.KeptTables.Parts.{later_both, array_later, then_makes, gives_makes, known}
use Rattle.source_validity.proofs.KeptTables.Saved.{save_makes}
use Rattle.source_validity.proofs.KeptTables.Changes.{TargetAs, IsChange, operated_makes, chosen_makes, comma_left_makes, assigned_makes, bumped_makes}

module _ (functions : List CoreFunctionTree) (constant : Cell → Bool) (o : Objects) (c : Call) (Scene : State → Type 0) (N : Names constant o c Scene) (g : Callee) (calls : CallsKeep functions constant o c Scene g) where
  abbrev Keeps : CoreTree → Type 0
  Keeps x = KeepsConstants functions constant x

  abbrev EachKept : CoreTrees → Type 0
  EachKept xs = EachKeeps functions constant xs

  array_as : (cell : Cell) (k : CType) (ys : List PureTree) → o.Array cell k → TargetAs constant o c Scene N cell (row ys) k
  array_as cell k [] t = tt
  array_as cell k (y ∷ ys) t = t

  -- a target with its subscripts
  abbrev pub Target : Knows Change
  Target s t = IsChange constant o c Scene N t

  -- what is given behind these
  abbrev pub GivenBehind : ArgumentTrees → List Given → Knows (List Given)
  GivenBehind args before s given = (new : List Given) × (given ≡ before ++ new) × AreGiven constant o s args new

  given_later : {s s1 : State} → Later s s1 → (arg : ArgumentTree) (x : Given) → IsGivenFor constant o s arg x → IsGivenFor constant o s1 arg x
  given_later l (core.given v) (e.value_given x) h = tt
  given_later l (core.array cell) (e.array_given a) h = λ k is_ free. array_later l a (h k is_ free)
  given_later l (core.given v) (e.array_given a) h = absurd h
  given_later l (core.array cell) (e.value_given x) h = absurd h

  target_from : (cell : Cell) (subscripts : CoreTrees) (k : CType) (place : Place) (later : Effects) (op : Option Binary) (at : Place) (s : State) → World s → IsTarget o cell subscripts k → constant cell ≡ false
      → Makes Whatever s (operands g c subscripts later [] s) → Makes Target s (targeted g c (core.target cell subscripts k place) later op at s)
  target_from cell core.none k place later op at s w target free h =
      then_makes {V = λ s1 (xs : List PureTree). xs ≡ []} (gives_makes w refl) (λ given s1 w1 l e. gives_makes w1 (record { target = subst (λ xs. TargetAs constant o c Scene N cell (row xs) k) (sym e) tt; free = free }))
  target_from cell (core.more first rest) k place later op at s w target free h = then_makes h (λ given s1 w1 l v. gives_makes w1 (record { target = array_as cell k given target; free = free }))

  mutual
    pub expression_makes : (x : CoreTree) (s : State) → World s → Scene s → IsSound o x → Keeps x → Makes Whatever s (expression g c x s)
    expression_makes (core.number v k) s w scene h t = gives_makes w tt
    expression_makes (core.scalar cell k at) s w scene h t = gives_makes w tt
    expression_makes (core.element name subscripts k at) s w scene h t = then_makes (operands_make subscripts no_effects [] s w scene h.1 t) (λ given s1 w1 l v. gives_makes w1 tt)
    expression_makes (core.call callee args k at) s w scene h t =
        then_makes
        (then_makes (arguments_make args [] s w scene h.1 t.1) (λ given s1 w1 l v. calls callee args k at given s1 w1 (N.stays s s1 scene l) h.0 t.0 (subst (λ x. AreGiven constant o s1 args x) (sym v.1) v.2)))
        (λ v s2 w2 l2 r. gives_makes w2 tt)
    expression_makes (core.unary op arg k at) s w scene h t = then_makes (expression_makes arg s w scene h.1 t) (λ x s1 w1 l v. gives_makes w1 tt)
    expression_makes (core.binary op left right k at) s w scene h t =
        then_makes (expression_makes left s w scene h.1 t.0)
        (λ x s1 w1 l v. operated_makes c op k at x (effects right) (expression g c right) s1 w1 (λ s2 w2 l2. expression_makes right s2 w2 (N.stays s s2 scene (later_both l l2)) h.2 t.1))
    expression_makes (core.choice test left right k at colon) s w scene h t =
        then_makes (expression_makes test s w scene h.0 t.0)
        (λ x s1 w1 l v. chosen_makes c k at colon x (either (effects left) (effects right)) (expression g c left) (expression g c right) s1 w1 (λ s2 w2 l2. expression_makes left s2 w2 (N.stays s s2 scene (later_both l l2)) h.1 t.1)
        (λ s2 w2 l2. expression_makes right s2 w2 (N.stays s s2 scene (later_both l l2)) h.2 t.2))
    expression_makes (core.cast to arg) s w scene h t = then_makes (expression_makes arg s w scene h t) (λ x s1 w1 l v. gives_makes w1 tt)
    expression_makes (core.assign (core.target cell subscripts k place) op value at) s w scene h t =
        then_makes (target_from cell subscripts k place (effects value) op at s w h.0 t.0.0 (operands_make subscripts (effects value) [] s w scene h.1 t.0.1))
        (λ t1 s1 w1 l v. then_makes (expression_makes value s1 w1 (N.stays s s1 scene l) h.2 t.1) (λ by s2 w2 l2 u. assigned_makes constant o c Scene N t1 by s2 w2 (N.stays s s2 scene (later_both l l2)) v))
    expression_makes (core.bump (core.target cell subscripts k place) up post at) s w scene h t =
        then_makes (target_from cell subscripts k place no_effects (step up) at s w h.0 t.0 (operands_make subscripts no_effects [] s w scene h.1 t.1)) (λ t1 s1 w1 l v. bumped_makes constant o c Scene N t1 post s1 w1 (N.stays s s1 scene l) v)
    expression_makes (core.comma left right) s w scene h t =
        then_makes (expression_makes left s w scene h.0 t.0)
        (λ x s1 w1 l v. then_makes (comma_left_makes c.file_variables left x (effects right) s1 w1) (λ u s2 w2 l2 a. expression_makes right s2 w2 (N.stays s s2 scene (later_both l l2)) h.1 t.1))

    pub operands_make : (xs : CoreTrees) (later : Effects) (before : List PureTree) (s : State) → World s → Scene s → AreSound o xs → EachKept xs → Makes Whatever s (operands g c xs later before s)
    operands_make core.none later before s w scene h t = gives_makes w tt
    operands_make (core.more first rest) later before s w scene h t =
        then_makes (expression_makes first s w scene h.0 t.0)
        (λ x s1 w1 l v. then_makes (save_makes c.file_variables x (either (effects_of_all rest) later) s1 w1) (λ y s2 w2 l2 u. operands_make rest later (before ++ y ∷ []) s2 w2 (N.stays s s2 scene (later_both l l2)) h.1 t.1))

    argument_makes : (a : ArgumentTree) (later : Effects) (s : State) → World s → Scene s → ArgumentSound o a → ArgumentKeeps functions constant a → Makes (λ s1 x. IsGivenFor constant o s1 a x) s (argument g c a later s)
    argument_makes (core.given x) later s w scene h t = then_makes (expression_makes x s w scene h t) (λ y s1 w1 l v. then_makes (save_makes c.file_variables y later s1 w1) (λ z s2 w2 l2 u. gives_makes w2 tt))
    argument_makes (core.array cell) later s w scene h t = gives_makes w (λ k is_ free. N.arrays s w scene cell k is_ free)

    pub arguments_make : (args : ArgumentTrees) (before : List Given) (s : State) → World s → Scene s → ArgumentsSound o args → ArgumentsKeep functions constant args → Makes (GivenBehind args before) s (arguments g c args before s)
    arguments_make core.no_argument before s w scene h t = gives_makes w ([], sym (append-nil before), tt)
    arguments_make (core.more_arguments first rest) before s w scene h t =
        then_makes (argument_makes first (effects_of_arguments rest) s w scene h.0 t.0)
        (λ a s1 w1 l v. known (arguments_make rest (before ++ a ∷ []) s1 w1 (N.stays s s1 scene l) h.1 t.1) (λ s2 l2 q. (a ∷ q.0, q.1 ∙ append_assoc before (a ∷ []) q.0, (given_later l2 first a v, q.2))))

  pub target_makes : (cell : Cell) (subscripts : CoreTrees) (k : CType) (place : Place) (later : Effects) (op : Option Binary) (at : Place) (s : State) → World s → Scene s → IsTarget o cell subscripts k → AreSound o subscripts → constant cell ≡ false → EachKept subscripts
      → Makes Target s (targeted g c (core.target cell subscripts k place) later op at s)
  target_makes cell subscripts k place later op at s w scene target h free t = target_from cell subscripts k place later op at s w target free (operands_make subscripts later [] s w scene h t)
