-- Expressions become pieces and values whose subscripts fit.
use Rattle.std.proofs.Common.{◌≡◌, ◌∙◌, ℕ, ◌+◌, sym, subst, arith, List, [], ◌∷◌, ◌++◌, length, Option}
use Rattle.std.proofs.lemmas.List.{append-nil, append_assoc}
use Rattle.hls_base.specs.declared.place.Place.{Place}
use Rattle.c_token.specs.declared.ctype.CType.{CType}
use Rattle.c_tree.specs.declared.operator.Binary.{Binary}
use Rattle.pieces.specs.declared.resolved.expression.Cell.{Cell}
use Rattle.pieces.specs.Resolved.Core as core
use Rattle.pieces.specs.Resolved.Core.{CoreTree, CoreTargetTree, CoreTrees, ArgumentTree, ArgumentTrees, CoreFunctionTree}
use Rattle.pieces.specs.Trees.{PureTree, row}
use Rattle.piece_making.specs.declared.effects.Effects.{Effects}
use Rattle.piece_making.specs.Acting.{either, no_effects, effects, effects_of_all, effects_of_arguments}
use Rattle.piece_making.specs.Making.{State}
use Rattle.piece_making.specs.Calls.{Call, array, home_of}
use Rattle.piece_making.specs.Assigning.{Change, step}
use Rattle.c_expand.specs.Expressions as e
use Rattle.c_expand.specs.Expressions.{Given, Callee, expression, operands, targeted, argument, arguments}
use Rattle.expand_runs.specs.Sound.{Objects, IsSound, AreSound, ArgumentSound, ArgumentsSound, IsTarget}
use Rattle.sound_trees.specs.Subscripts as pure
use Rattle.sound_trees.specs.Subscripts.{AllSubscriptsFit}
use Rattle.typed_pieces.specs.FittingSubscripts.Programs.{count, ElementsFit, EachFits, ArgumentFits, ArgumentsFit}
use Rattle.typed_pieces.specs.FittingSubscripts.Worlds.{World, Later, Knows, Makes, Value}
use Rattle.typed_pieces.specs.FittingSubscripts.Standing.{Names, IsGivenFor, AreGiven, CallsFit}
use Rattle.typed_pieces.proofs.FittingSubscripts.Fitting.{dimensions_same, row_more, read_fits}
use Rattle.typed_pieces.proofs.FittingSubscripts.Parts.{later_both, fits_later, each_later, array_later, then_makes, gives_makes, known}
use Rattle.typed_pieces.proofs.FittingSubscripts.Saved.{OperandsAt, longer, row_count, save_makes}
use Rattle.typed_pieces.proofs.FittingSubscripts.Changes.{TargetAs, IsChange, change_later, operated_makes, chosen_makes, comma_left_makes, assigned_makes, bumped_makes}

module _ (functions : List CoreFunctionTree) (dimensions : Cell → ℕ) (o : Objects) (c : Call) (Scene : (s : State) → World s → Type 0) (N : Names dimensions o c Scene) (g : Callee) (calls : CallsFit functions dimensions o c Scene g) where
  abbrev Fits : CoreTree → Type 0
  Fits x = ElementsFit functions dimensions x

  abbrev EachFit : CoreTrees → Type 0
  EachFit xs = EachFits functions dimensions xs

  target_as : (cell : Cell) (subscripts : CoreTrees) (k : CType) (ys : List PureTree) → IsTarget o cell subscripts k → 0 + count subscripts ≡ length ys → TargetAs dimensions o c Scene N cell (row ys) k
  target_as cell core.none k [] t e = tt
  target_as cell core.none k (y ∷ ys) t e = absurd (omega (arith, e))
  target_as cell (core.more first rest) k [] t e = absurd (omega (arith, e))
  target_as cell (core.more first rest) k (y ∷ ys) t e = t

  -- a target with its subscripts
  abbrev pub Target : Knows Change
  Target s w t = IsChange dimensions o c Scene N s t

  -- what is given behind these
  abbrev pub GivenBehind : ArgumentTrees → List Given → Knows (List Given)
  GivenBehind args before s w given = (new : List Given) × (given ≡ before ++ new) × AreGiven dimensions o s args new

  given_later : {s s1 : State} {w : World s} {w1 : World s1} → Later s w s1 w1 → (arg : ArgumentTree) (x : Given) → IsGivenFor dimensions o s arg x → IsGivenFor dimensions o s1 arg x
  given_later l (core.given v) (e.value_given x) h = fits_later l x h
  given_later l (core.array cell) (e.array_given a) h = λ k is_. array_later l a (dimensions cell) (h k is_)
  given_later l (core.given v) (e.array_given a) h = absurd h
  given_later l (core.array cell) (e.value_given x) h = absurd h

  target_from : (cell : Cell) (subscripts : CoreTrees) (k : CType) (place : Place) (later : Effects) (op : Option Binary) (at : Place) (s : State) (w : World s) → IsTarget o cell subscripts k → count subscripts ≡ dimensions cell
      → Makes (OperandsAt (0 + count subscripts)) s w (operands g c subscripts later [] s) → Makes Target s w (targeted g c (core.target cell subscripts k place) later op at s)
  target_from cell subscripts k place later op at s w target same h =
      then_makes h (λ given s1 w1 l v. gives_makes (record { subscripts = v.fit; count = row_count (count subscripts) (dimensions cell) given same v.count; target = target_as cell subscripts k given target v.count }))

  mutual
    pub expression_makes : (x : CoreTree) (s : State) (w : World s) → Scene s w → IsSound o x → Fits x → Makes Value s w (expression g c x s)
    expression_makes (core.number v k) s w scene h t = gives_makes tt
    expression_makes (core.scalar cell k at) s w scene h t = gives_makes (read_fits s.arrays (home_of c cell) k)
    expression_makes (core.element name subscripts k at) s w scene h t =
        then_makes (operands_make subscripts no_effects [] s w scene h.1 t.1 tt)
        (λ given s1 w1 l v. gives_makes (dimensions_same s1.arrays (array c name s1) (dimensions name) (pure.count (row given)) (row_count (count subscripts) (dimensions name) given t.0 v.count) (N.arrays s1 w1 (N.stays s w s1 w1 scene l) name k h.0), v.fit))
    expression_makes (core.call callee args k at) s w scene h t =
        then_makes
        (then_makes (arguments_make args [] s w scene h.1 t.1)
        (λ given s1 w1 l v. calls callee args k at given s1 w1 (N.stays s w s1 w1 scene l) h.0 t.0 (subst (λ x. AreGiven dimensions o s1 args x) (sym v.1) v.2)))
        (λ v s2 w2 l2 r. gives_makes r)
    expression_makes (core.unary op arg k at) s w scene h t = then_makes (expression_makes arg s w scene h.1 t) (λ x s1 w1 l v. gives_makes v)
    expression_makes (core.binary op left right k at) s w scene h t =
        then_makes (expression_makes left s w scene h.1 t.0)
        (λ x s1 w1 l v. operated_makes c op k at x (effects right) (expression g c right) s1 w1 v (λ s2 w2 l2. expression_makes right s2 w2 (N.stays s w s2 w2 scene (later_both l l2)) h.2 t.1))
    expression_makes (core.choice test left right k at colon) s w scene h t =
        then_makes (expression_makes test s w scene h.0 t.0)
        (λ x s1 w1 l v. chosen_makes c k at colon x (either (effects left) (effects right)) (expression g c left) (expression g c right) s1 w1 v
        (λ s2 w2 l2. expression_makes left s2 w2 (N.stays s w s2 w2 scene (later_both l l2)) h.1 t.1) (λ s2 w2 l2. expression_makes right s2 w2 (N.stays s w s2 w2 scene (later_both l l2)) h.2 t.2))
    expression_makes (core.cast to arg) s w scene h t = then_makes (expression_makes arg s w scene h t) (λ x s1 w1 l v. gives_makes v)
    expression_makes (core.assign (core.target cell subscripts k place) op value at) s w scene h t =
        then_makes (target_from cell subscripts k place (effects value) op at s w h.0 t.0.0 (operands_make subscripts (effects value) [] s w scene h.1 t.0.1 tt))
        (λ t1 s1 w1 l v. then_makes (expression_makes value s1 w1 (N.stays s w s1 w1 scene l) h.2 t.1)
        (λ by s2 w2 l2 u. assigned_makes dimensions o c Scene N t1 by s2 w2 (N.stays s w s2 w2 scene (later_both l l2)) (change_later dimensions o c Scene N l2 v) u))
    expression_makes (core.bump (core.target cell subscripts k place) up post at) s w scene h t =
        then_makes (target_from cell subscripts k place no_effects (step up) at s w h.0 t.0 (operands_make subscripts no_effects [] s w scene h.1 t.1 tt))
        (λ t1 s1 w1 l v. bumped_makes dimensions o c Scene N t1 post s1 w1 (N.stays s w s1 w1 scene l) v)
    expression_makes (core.comma left right) s w scene h t =
        then_makes (expression_makes left s w scene h.0 t.0)
        (λ x s1 w1 l v. then_makes (comma_left_makes c.file_variables left x (effects right) s1 w1 v) (λ u s2 w2 l2 a. expression_makes right s2 w2 (N.stays s w s2 w2 scene (later_both l l2)) h.1 t.1))

    pub operands_make : (xs : CoreTrees) (later : Effects) (before : List PureTree) (s : State) (w : World s) → Scene s w → AreSound o xs → EachFit xs → AllSubscriptsFit s.arrays (row before) → Makes (OperandsAt (length before + count xs)) s w (operands g c xs later before s)
    operands_make core.none later before s w scene h t b = gives_makes (record { fit = b; count = omega arith })
    operands_make (core.more first rest) later before s w scene h t b =
        then_makes (expression_makes first s w scene h.0 t.0)
        (λ x s1 w1 l v. then_makes (save_makes c.file_variables x (either (effects_of_all rest) later) s1 w1 v)
        (λ y s2 w2 l2 u.
        (let l3 = later_both l l2 in
        known (operands_make rest later (before ++ y ∷ []) s2 w2 (N.stays s w s2 w2 scene l3) h.1 t.1 (row_more s2.arrays before y (each_later l3 (row before) b) u))
        (λ s4 w4 l4 q. record { fit = q.fit; count = longer before y (count rest) _ q.count }))))

    argument_makes : (a : ArgumentTree) (later : Effects) (s : State) (w : World s) → Scene s w → ArgumentSound o a → ArgumentFits functions dimensions a → Makes (λ s1 w1 x. IsGivenFor dimensions o s1 a x) s w (argument g c a later s)
    argument_makes (core.given x) later s w scene h t = then_makes (expression_makes x s w scene h t) (λ y s1 w1 l v. then_makes (save_makes c.file_variables y later s1 w1 v) (λ z s2 w2 l2 u. gives_makes u))
    argument_makes (core.array cell) later s w scene h t = gives_makes (λ k is_. N.arrays s w scene cell k is_)

    pub arguments_make : (args : ArgumentTrees) (before : List Given) (s : State) (w : World s) → Scene s w → ArgumentsSound o args → ArgumentsFit functions dimensions args → Makes (GivenBehind args before) s w (arguments g c args before s)
    arguments_make core.no_argument before s w scene h t = gives_makes ([], sym (append-nil before), tt)
    arguments_make (core.more_arguments first rest) before s w scene h t =
        then_makes (argument_makes first (effects_of_arguments rest) s w scene h.0 t.0)
        (λ a s1 w1 l v. known (arguments_make rest (before ++ a ∷ []) s1 w1 (N.stays s w s1 w1 scene l) h.1 t.1)
        (λ s2 w2 l2 q. (a ∷ q.0, q.1 ∙ append_assoc before (a ∷ []) q.0, (given_later l2 first a v, q.2))))

  pub target_makes : (cell : Cell) (subscripts : CoreTrees) (k : CType) (place : Place) (later : Effects) (op : Option Binary) (at : Place) (s : State) (w : World s) → Scene s w → IsTarget o cell subscripts k → AreSound o subscripts → count subscripts ≡ dimensions cell → EachFit subscripts
      → Makes Target s w (targeted g c (core.target cell subscripts k place) later op at s)
  target_makes cell subscripts k place later op at s w scene target h same t = target_from cell subscripts k place later op at s w target same (operands_make subscripts later [] s w scene h t tt)
