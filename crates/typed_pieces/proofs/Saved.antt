-- Saved values are typed.
use Rattle.std.proofs.Common.{◌∙◌, ℕ, Bool, true, false, ◌&&◌, ◌||◌, refl, ap, ap₂, List, [], ◌∷◌, ◌++◌}
use Rattle.std.specs.Prelude.{nat_lt}
use Rattle.c_value.specs.Operators.{unary_kind, binary_kind}
use Rattle.pieces.specs.Trees as tree
use Rattle.pieces.specs.Trees.{PureTree, PureTrees, row}
use Rattle.pieces.specs.Kind.{kind}
use Rattle.piece_making.specs.declared.effects.Effects.{Effects}
use Rattle.piece_making.specs.Acting.{spoils}
use Rattle.piece_making.specs.Making.{State, Part, gives, then_}
use Rattle.piece_making.specs.Saving.{has_element, is_logical, saved, all_saved, saved_if, save}
use Rattle.typed_pieces.specs.Typed.{IsTyped, AreTyped}
use Rattle.typed_pieces.specs.Worlds.{World, Knows, Makes, Value, frame_at}
use Rattle.typed_pieces.proofs.Typing.{unary_typed, binary_typed, choice_typed, cast_typed, element_typed, kind_type, row_more}
use Rattle.typed_pieces.proofs.Parts.{then_makes, gives_makes, if_makes, own_makes, typed_later, each_later, array_later}

abbrev pub Row : Knows (List PureTree)
Row s w xs = AreTyped (frame_at s) (row xs)

saved_if_makes : (whole : Bool) (x : PureTree) (parts : State → Part PureTree) (s : State) (w : World s) → IsTyped (frame_at s) x → Makes (Value (kind x)) s w (parts s) → Makes (Value (kind x)) s w (saved_if whole x parts s)
saved_if_makes true x parts s w h p = own_makes (kind x) x s w (kind_type (frame_at s) x h) h
saved_if_makes false x parts s w h p = p

mutual
  saved_makes : (n : ℕ) (calls : Bool) (x : PureTree) (s : State) (w : World s) → IsTyped (frame_at s) x → Makes (Value (kind x)) s w (saved n calls x s)
  saved_makes n calls (tree.number v k) s w h = gives_makes (record { typed = h; type = refl })
  saved_makes n calls (tree.variable name k) s w h =
      saved_if_makes (calls && nat_lt name.0 n) (tree.variable name k) (λ s1. gives (tree.variable name k) s1) s w h (gives_makes (record { typed = h; type = refl }))
  saved_makes n calls (tree.element array subscripts k at) s w h =
      let a = h.1.0 in
      then_makes (all_makes n calls subscripts [] s w (h.0.2, h.1.1) (tt, tt))
      (λ given s1 w1 l v. own_makes k (tree.element array (row given) k at) s1 w1 h.0.0 (element_typed (frame_at s1) array (row given) k at h.0.0 (array_later l array k (a.0, a.1, a.2)) v))
  saved_makes n calls (tree.unary op arg k at) s w h =
      then_makes (saved_makes n calls arg s w (h.0.2, h.1))
      (λ x s1 w1 l v. gives_makes (record { typed = unary_typed (frame_at s1) op x k at h.0.0 (ap (unary_kind op) v.type ∙ h.0.1) v.typed; type = refl }))
  saved_makes n calls (tree.binary op left right k at) s w h =
      then_makes (saved_makes n calls left s w (h.0.2, h.1.0))
      (λ x s1 w1 l v. saved_if_makes (is_logical op && has_element right) (tree.binary op x right k at) (λ s2. then_ (saved n calls right s2) (λ y s3. gives (tree.binary op x y k at) s3)) s1 w1
      (binary_typed (frame_at s1) op x right k at h.0.0 (ap (λ z. binary_kind op z (kind right)) v.type ∙ h.0.1) v.typed (typed_later l right (h.0.3, h.1.1)))
      (then_makes (saved_makes n calls right s1 w1 (typed_later l right (h.0.3, h.1.1)))
      (λ y s2 w2 l2 u. gives_makes (record { typed = binary_typed (frame_at s2) op x y k at h.0.0 (ap₂ (binary_kind op) v.type u.type ∙ h.0.1) (typed_later l2 x v.typed) u.typed; type = refl }))))
  saved_makes n calls (tree.choice test left right k) s w h =
      then_makes (saved_makes n calls test s w (h.0.1, h.1.0))
      (λ t s1 w1 l v. saved_if_makes (has_element left || has_element right) (tree.choice t left right k) (λ s2. then_ (saved n calls left s2) (λ x s3. then_ (saved n calls right s3) (λ y s4. gives (tree.choice t x y k) s4))) s1 w1
      (choice_typed (frame_at s1) t left right k h.0.0 v.typed (typed_later l left (h.0.2, h.1.1)) (typed_later l right (h.0.3, h.1.2)))
      (then_makes (saved_makes n calls left s1 w1 (typed_later l left (h.0.2, h.1.1)))
      (λ x s2 w2 l2 u. then_makes (saved_makes n calls right s2 w2 (typed_later l2 right (typed_later l right (h.0.3, h.1.2))))
      (λ y s3 w3 l3 q. gives_makes (record { typed = choice_typed (frame_at s3) t x y k h.0.0 (typed_later l3 t (typed_later l2 t v.typed)) (typed_later l3 x u.typed) q.typed; type = refl })))))
  saved_makes n calls (tree.cast to arg) s w h =
      then_makes (saved_makes n calls arg s w (h.0.1, h.1)) (λ x s1 w1 l v. gives_makes (record { typed = cast_typed (frame_at s1) to x h.0.0 v.typed; type = refl }))

  all_makes : (n : ℕ) (calls : Bool) (xs : PureTrees) (before : List PureTree) (s : State) (w : World s) → AreTyped (frame_at s) xs → AreTyped (frame_at s) (row before) → Makes Row s w (all_saved n calls xs before s)
  all_makes n calls tree.none before s w h b = gives_makes b
  all_makes n calls (tree.more first rest) before s w h b =
      then_makes (saved_makes n calls first s w (h.0.0, h.1.0))
      (λ x s1 w1 l v. all_makes n calls rest (before ++ x ∷ []) s1 w1 (each_later l rest (h.0.1, h.1.1)) (row_more (frame_at s1) before x (each_later l (row before) b) v.typed))

pub save_makes : (n : ℕ) (x : PureTree) (later : Effects) (s : State) (w : World s) → IsTyped (frame_at s) x → Makes (Value (kind x)) s w (save n x later s)
save_makes n x later s w h = if_makes (spoils later) (saved n later.calls x s) (gives x s) s w (saved_makes n later.calls x s w h) (gives_makes (record { typed = h; type = refl }))
