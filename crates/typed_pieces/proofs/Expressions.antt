-- Expressions become typed pieces and values of their types.
use Rattle.std.proofs.Common.{◌≡◌, ◌∙◌, ℕ, ◌+◌, refl, ap, sym, subst, arith, List, [], ◌∷◌, ◌++◌, length, Option}
use Rattle.std.proofs.lemmas.List.{length-append, append-nil, append_assoc}
use Rattle.hls_base.specs.declared.place.Place.{Place}
use Rattle.c_token.specs.declared.ctype.CType.{CType}
use Rattle.c_tree.specs.declared.operator.Binary.{Binary}
use Rattle.c_value.specs.Operators.{unary_kind, binary_kind}
use Rattle.pieces.specs.declared.resolved.expression.Cell.{Cell}
use Rattle.pieces.specs.Resolved.Core as core
use Rattle.pieces.specs.Resolved.Core.{CoreTree, CoreTargetTree, CoreTrees, ArgumentTree, ArgumentTrees}
use Rattle.c_meaning.specs.CoreRuns.Kinds.{kind_of}
use Rattle.pieces.specs.Trees.{PureTree, row}
use Rattle.piece_making.specs.declared.effects.Effects.{Effects}
use Rattle.piece_making.specs.Acting.{either, no_effects, effects, effects_of_all, effects_of_arguments}
use Rattle.piece_making.specs.Making.{State}
use Rattle.piece_making.specs.Calls.{Call, array}
use Rattle.piece_making.specs.Assigning.{Change, step}
use Rattle.c_expand.specs.Expressions as e
use Rattle.c_expand.specs.Expressions.{Given, Callee, expression, operands, targeted, argument, arguments}
use Rattle.expand_runs.specs.Sound.{Objects, IsSound, AreSound, ArgumentSound, ArgumentsSound, IsTarget}
use Rattle.typed_pieces.specs.Typed.{AreTyped}
use Rattle.typed_pieces.specs.Types.{HasTypes, EachHasTypes, ArgumentHasTypes, ArgumentsHaveTypes}
use Rattle.typed_pieces.specs.Worlds.{World, Later, Knows, Makes, Value, frame_at}
use Rattle.typed_pieces.specs.Standing.{Names, IsGivenFor, AreGiven, CallsTyped}
use Rattle.typed_pieces.proofs.Typing.{number_typed, element_typed, unary_typed, cast_typed, word_below, row_more}
use Rattle.typed_pieces.proofs.Parts.{later_both, typed_later, each_later, array_later, then_makes, gives_makes, known}
use Rattle.typed_pieces.proofs.Saved.{save_makes}
use Rattle.typed_pieces.proofs.Changes.{TargetAs, IsChange, change_later, operated_makes, chosen_makes, comma_left_makes, assigned_makes, bumped_makes}

abbrev count_of : CoreTrees → ℕ
count_of core.none = 0
count_of (core.more first rest) = 1 + count_of rest

-- so many typed expressions
pub record Operands (n : ℕ) (s : State) (xs : List PureTree) : Type 0 where
  pub typed : AreTyped (frame_at s) (row xs)
  pub count : n ≡ length xs

abbrev OperandsAt : ℕ → Knows (List PureTree)
OperandsAt n s w xs = Operands n s xs

module _ (o : Objects) (c : Call) (Scene : (s : State) → World s → Type 0) (N : Names o c Scene) (g : Callee) (calls : CallsTyped o c Scene g) where
  target_as : (cell : Cell) (subscripts : CoreTrees) (k : CType) (ys : List PureTree) → IsTarget o cell subscripts k → 0 + count_of subscripts ≡ length ys → TargetAs o c Scene N cell (row ys) k
  target_as cell core.none k [] t e = t
  target_as cell core.none k (y ∷ ys) t e = absurd (omega (arith, e))
  target_as cell (core.more first rest) k [] t e = absurd (omega (arith, e))
  target_as cell (core.more first rest) k (y ∷ ys) t e = t

  -- a target of this type, with its subscripts
  pub record TargetAt (k : CType) (s : State) (t : Change) : Type 0 where
    pub change : IsChange o c Scene N s t
    pub type : t.kind ≡ k

  abbrev pub Target : CType → Knows Change
  Target k s w t = TargetAt k s t

  -- what is given behind these
  abbrev pub GivenBehind : ArgumentTrees → List Given → Knows (List Given)
  GivenBehind args before s w given = (new : List Given) × (given ≡ before ++ new) × AreGiven o s args new

  given_later : {s s1 : State} {w : World s} {w1 : World s1} → Later s w s1 w1 → (arg : ArgumentTree) (x : Given) → IsGivenFor o s arg x → IsGivenFor o s1 arg x
  given_later l (core.given v) (e.value_given x) h = typed_later l x h
  given_later l (core.array cell) (e.array_given a) h = λ k is_. array_later l a k (h k is_)
  given_later l (core.given v) (e.array_given a) h = absurd h
  given_later l (core.array cell) (e.value_given x) h = absurd h

  longer : (before : List PureTree) (y : PureTree) (n m : ℕ) → length (before ++ y ∷ []) + n ≡ m → length before + (1 + n) ≡ m
  longer before y n m le = let e = length-append before (y ∷ []) in omega (arith, e, le)

  target_from : (cell : Cell) (subscripts : CoreTrees) (k : CType) (place : Place) (later : Effects) (op : Option Binary) (at : Place) (s : State) (w : World s) → IsTarget o cell subscripts k → Makes (OperandsAt (0 + count_of subscripts)) s w (operands g c subscripts later [] s)
      → Makes (Target k) s w (targeted g c (core.target cell subscripts k place) later op at s)
  target_from cell subscripts k place later op at s w target h =
      then_makes h (λ given s1 w1 l v. gives_makes (record { change = record { subscripts = v.typed; target = target_as cell subscripts k given target v.count }; type = refl }))

  mutual
    pub expression_makes : (x : CoreTree) (s : State) (w : World s) → Scene s w → IsSound o x → HasTypes x → Makes (Value (kind_of x)) s w (expression g c x s)
    expression_makes (core.number v k) s w scene h t = gives_makes (record { typed = number_typed (frame_at s) k v t (word_below k v h.0 h.1); type = refl })
    expression_makes (core.scalar cell k at) s w scene h t = gives_makes (N.scalars s w scene cell k h)
    expression_makes (core.element name subscripts k at) s w scene h t =
        then_makes (operands_make subscripts no_effects [] s w scene h.1 t (tt, tt))
        (λ given s1 w1 l v.
        (let a = N.arrays s1 w1 (N.stays s w s1 w1 scene l) name k h.0 in
        gives_makes (record { typed = element_typed (frame_at s1) (array c name s1) (row given) k at a.0 a.1 v.typed; type = refl })))
    expression_makes (core.call callee args k at) s w scene h t =
        then_makes
        (then_makes (arguments_make args [] s w scene h.1 t)
        (λ given s1 w1 l v. calls callee args k at given s1 w1 (N.stays s w s1 w1 scene l) h.0 (subst (λ x. AreGiven o s1 args x) (sym v.1) v.2)))
        (λ v s2 w2 l2 r. gives_makes r)
    expression_makes (core.unary op arg k at) s w scene h t =
        then_makes (expression_makes arg s w scene h.1 t.1) (λ x s1 w1 l v. gives_makes (record { typed = unary_typed (frame_at s1) op x k at t.0 (ap (unary_kind op) v.type ∙ h.0) v.typed; type = refl }))
    expression_makes (core.binary op left right k at) s w scene h t =
        then_makes (expression_makes left s w scene h.1 t.1)
        (λ x s1 w1 l v. operated_makes c op k (kind_of right) at x (effects right) (expression g c right) s1 w1 t.0 (ap (λ j. binary_kind op j (kind_of right)) v.type ∙ h.0) v.typed
        (λ s2 w2 l2. expression_makes right s2 w2 (N.stays s w s2 w2 scene (later_both l l2)) h.2 t.2))
    expression_makes (core.choice test left right k at colon) s w scene h t =
        then_makes (expression_makes test s w scene h.0 t.1)
        (λ x s1 w1 l v. chosen_makes c k (kind_of left) (kind_of right) at colon x (either (effects left) (effects right)) (expression g c left) (expression g c right) s1 w1 t.0 v.typed
        (λ s2 w2 l2. expression_makes left s2 w2 (N.stays s w s2 w2 scene (later_both l l2)) h.1 t.2) (λ s2 w2 l2. expression_makes right s2 w2 (N.stays s w s2 w2 scene (later_both l l2)) h.2 t.3))
    expression_makes (core.cast to arg) s w scene h t = then_makes (expression_makes arg s w scene h t.1) (λ x s1 w1 l v. gives_makes (record { typed = cast_typed (frame_at s1) to x t.0 v.typed; type = refl }))
    expression_makes (core.assign (core.target cell subscripts k place) op value at) s w scene h t =
        then_makes (target_from cell subscripts k place (effects value) op at s w h.0 (operands_make subscripts (effects value) [] s w scene h.1 t.0 (tt, tt)))
        (λ t1 s1 w1 l v. then_makes (expression_makes value s1 w1 (N.stays s w s1 w1 scene l) h.2 t.1)
        (λ by s2 w2 l2 u. known (assigned_makes o c Scene N t1 by s2 w2 (N.stays s w s2 w2 scene (later_both l l2)) (change_later o c Scene N l2 v.change) u.typed) (λ s3 w3 l3 q. record { typed = q.typed; type = q.type ∙ v.type })))
    expression_makes (core.bump (core.target cell subscripts k place) up post at) s w scene h t =
        then_makes (target_from cell subscripts k place no_effects (step up) at s w h.0 (operands_make subscripts no_effects [] s w scene h.1 t (tt, tt)))
        (λ t1 s1 w1 l v. known (bumped_makes o c Scene N t1 post s1 w1 (N.stays s w s1 w1 scene l) v.change) (λ s2 w2 l2 q. record { typed = q.typed; type = q.type ∙ v.type }))
    expression_makes (core.comma left right) s w scene h t =
        then_makes (expression_makes left s w scene h.0 t.0)
        (λ x s1 w1 l v. then_makes (comma_left_makes c.file_variables left x (effects right) s1 w1 v.typed) (λ u s2 w2 l2 a. expression_makes right s2 w2 (N.stays s w s2 w2 scene (later_both l l2)) h.1 t.1))

    pub operands_make : (xs : CoreTrees) (later : Effects) (before : List PureTree) (s : State) (w : World s) → Scene s w → AreSound o xs → EachHasTypes xs → AreTyped (frame_at s) (row before) → Makes (OperandsAt (length before + count_of xs)) s w (operands g c xs later before s)
    operands_make core.none later before s w scene h t b = gives_makes (record { typed = b; count = omega arith })
    operands_make (core.more first rest) later before s w scene h t b =
        then_makes (expression_makes first s w scene h.0 t.0)
        (λ x s1 w1 l v. then_makes (save_makes c.file_variables x (either (effects_of_all rest) later) s1 w1 v.typed)
        (λ y s2 w2 l2 u.
        (let l3 = later_both l l2 in
        known (operands_make rest later (before ++ y ∷ []) s2 w2 (N.stays s w s2 w2 scene l3) h.1 t.1 (row_more (frame_at s2) before y (each_later l3 (row before) b) u.typed))
        (λ s4 w4 l4 q. record { typed = q.typed; count = longer before y (count_of rest) _ q.count }))))

    argument_makes : (a : ArgumentTree) (later : Effects) (s : State) (w : World s) → Scene s w → ArgumentSound o a → ArgumentHasTypes a → Makes (λ s1 w1 x. IsGivenFor o s1 a x) s w (argument g c a later s)
    argument_makes (core.given x) later s w scene h t =
        then_makes (expression_makes x s w scene h t) (λ y s1 w1 l v. then_makes (save_makes c.file_variables y later s1 w1 v.typed) (λ z s2 w2 l2 u. gives_makes u.typed))
    argument_makes (core.array cell) later s w scene h t = gives_makes (λ k is_. (N.arrays s w scene cell k is_).1)

    pub arguments_make : (args : ArgumentTrees) (before : List Given) (s : State) (w : World s) → Scene s w → ArgumentsSound o args → ArgumentsHaveTypes args → Makes (GivenBehind args before) s w (arguments g c args before s)
    arguments_make core.no_argument before s w scene h t = gives_makes ([], sym (append-nil before), tt)
    arguments_make (core.more_arguments first rest) before s w scene h t =
        then_makes (argument_makes first (effects_of_arguments rest) s w scene h.0 t.0)
        (λ a s1 w1 l v. known (arguments_make rest (before ++ a ∷ []) s1 w1 (N.stays s w s1 w1 scene l) h.1 t.1)
        (λ s2 w2 l2 q. (a ∷ q.0, q.1 ∙ append_assoc before (a ∷ []) q.0, (given_later l2 first a v, q.2))))

  pub target_makes : (cell : Cell) (subscripts : CoreTrees) (k : CType) (place : Place) (later : Effects) (op : Option Binary) (at : Place) (s : State) (w : World s) → Scene s w → IsTarget o cell subscripts k → AreSound o subscripts → EachHasTypes subscripts
      → Makes (Target k) s w (targeted g c (core.target cell subscripts k place) later op at s)
  target_makes cell subscripts k place later op at s w scene target h t = target_from cell subscripts k place later op at s w target (operands_make subscripts later [] s w scene h t (tt, tt))
