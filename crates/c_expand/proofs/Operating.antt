-- Operators whose operands may not be reached, step by step.
use Rattle.std.specs.Prelude.{◌&&◌}
use Rattle.std.proofs.Common.{◌≡◌, Bool, true, false, List, sym, ap, subst, ◌∙◌}
use Rattle.hls_base.specs.declared.place.Place.{Place}
use Rattle.hls_base.specs.declared.number.VarId.{VarId}
use Rattle.hls_base.specs.declared.refusal.Refusal.{Refusal}
use Rattle.c_token.specs.declared.ctype.CType.{CType}
use Rattle.c_tree.specs.declared.operator.Binary.{Binary}
use Rattle.pieces.specs.Trees.{PureTree, PieceTree}
use Rattle.piece_making.specs.declared.effects.Effects.{Effects}
use Rattle.piece_making.specs.Making.{State, Part, Inner, fresh}
use Rattle.piece_making.specs.Calls.{Call}
use Rattle.piece_making.specs.Acting.{acts, either}
use Rattle.piece_making.specs.Saving.{save, is_logical}
use Rattle.piece_making.specs.Stocks.{Stock, state_of, IsMade, IsTooHeavy}
use Rattle.piece_making.proofs.Parts.{made_behind, heavy_at_once, heavy_behind}
use Rattle.c_expand.specs.Expressions.{operated, forked, chosen, arm, decided, same, fork_of, is_or}
use Rattle.c_expand.specs.InPlace.{operated_in_place, chosen_in_place, forked_behind}
use Rattle.c_expand.proofs.Leading.{first_made, second_made, first_heavy, second_heavy}

-- ---- binary operators

module _ (c : Call) (op : Binary) (k : CType) (at : Place) (x : PureTree) (later later1 : Effects) (right : State → Part PureTree) (is : later ≡ later1) (old : Stock) where
  saved_so : (mid : Stock) (left : PureTree) → IsMade old mid left (save c.file_variables x later (state_of old)) → IsMade old mid left (save c.file_variables x later1 (state_of old))
  saved_so mid left h = subst (λ (l : Effects). IsMade old mid left (save c.file_variables x l (state_of old))) is h

  test_so : (b : Bool) → (is_logical op && acts later) ≡ b → (is_logical op && acts later1) ≡ b
  test_so b e = ap (λ (l : Effects). is_logical op && acts l) (sym is) ∙ e

  pub operated_heavy_saved : (r : Refusal) → IsTooHeavy old r (save c.file_variables x later (state_of old)) → IsTooHeavy old r (operated c op k at x later1 right (state_of old))
  operated_heavy_saved r h = heavy_at_once _ _ _ _ (subst (λ (l : Effects). IsTooHeavy old r (save c.file_variables x l (state_of old))) is h)

  pub operated_forked : (mid new : Stock) (left v : PureTree) → IsMade old mid left (save c.file_variables x later (state_of old)) → (is_logical op && acts later) ≡ true
      → IsMade mid new v (forked c op k at left right (state_of mid)) → IsMade old new v (operated c op k at x later1 right (state_of old))
  operated_forked mid new left v h e g = made_behind _ _ _ _ _ _ _ (saved_so mid left h) (first_made _ _ _ _ _ _ (test_so true e) g)

  pub operated_forked_heavy : (mid : Stock) (left : PureTree) (r : Refusal) → IsMade old mid left (save c.file_variables x later (state_of old)) → (is_logical op && acts later) ≡ true
      → IsTooHeavy mid r (forked c op k at left right (state_of mid)) → IsTooHeavy old r (operated c op k at x later1 right (state_of old))
  operated_forked_heavy mid left r h e g = heavy_behind _ _ _ _ _ _ (saved_so mid left h) (first_heavy _ _ _ _ _ (test_so true e) g)

  pub operated_plain : (mid new : Stock) (left v : PureTree) → IsMade old mid left (save c.file_variables x later (state_of old)) → (is_logical op && acts later) ≡ false
      → IsMade mid new v (operated_in_place op k at left right (state_of mid)) → IsMade old new v (operated c op k at x later1 right (state_of old))
  operated_plain mid new left v h e g = made_behind _ _ _ _ _ _ _ (saved_so mid left h) (second_made _ _ _ _ _ _ (test_so false e) g)

  pub operated_plain_heavy : (mid : Stock) (left : PureTree) (r : Refusal) → IsMade old mid left (save c.file_variables x later (state_of old)) → (is_logical op && acts later) ≡ false
      → IsTooHeavy mid r (operated_in_place op k at left right (state_of mid)) → IsTooHeavy old r (operated c op k at x later1 right (state_of old))
  operated_plain_heavy mid left r h e g = heavy_behind _ _ _ _ _ _ (saved_so mid left h) (second_heavy _ _ _ _ _ (test_so false e) g)

-- ---- `&&` and `||` as forks, behind the branch that is reached

module _ (c : Call) (op : Binary) (k : CType) (at : Place) (test : PureTree) (reached : List PieceTree) (own : VarId) (b : Bool) (is : b ≡ is_or op) (old : Stock) where
  pub forked_heavy_other : (r : Refusal) → IsTooHeavy old r (decided b own (state_of old)) → IsTooHeavy old r (forked_behind c op k at test reached own (state_of old))
  forked_heavy_other r h = heavy_at_once _ _ _ _ (subst (λ (z : Bool). IsTooHeavy old r (decided z own (state_of old))) is h)

  module _ (mid : Stock) (other : Inner (Unit {0})) (d : IsMade old mid other (decided b own (state_of old))) where
    decided_so : IsMade old mid other (decided (is_or op) own (state_of old))
    decided_so = subst (λ (z : Bool). IsMade old mid other (decided z own (state_of old))) is d

    pub forked_or : (new : Stock) (v : PureTree) → b ≡ true → IsMade mid new v (fork_of c at test other.pieces reached own k (state_of mid)) → IsMade old new v (forked_behind c op k at test reached own (state_of old))
    forked_or new v e f = made_behind _ _ _ _ _ _ _ decided_so (first_made _ _ _ _ _ _ (sym is ∙ e) f)

    pub forked_and : (new : Stock) (v : PureTree) → b ≡ false → IsMade mid new v (fork_of c at test reached other.pieces own k (state_of mid)) → IsMade old new v (forked_behind c op k at test reached own (state_of old))
    forked_and new v e f = made_behind _ _ _ _ _ _ _ decided_so (second_made _ _ _ _ _ _ (sym is ∙ e) f)

    pub forked_or_heavy : (r : Refusal) → b ≡ true → IsTooHeavy mid r (fork_of c at test other.pieces reached own k (state_of mid)) → IsTooHeavy old r (forked_behind c op k at test reached own (state_of old))
    forked_or_heavy r e f = heavy_behind _ _ _ _ _ _ decided_so (first_heavy _ _ _ _ _ (sym is ∙ e) f)

    pub forked_and_heavy : (r : Refusal) → b ≡ false → IsTooHeavy mid r (fork_of c at test reached other.pieces own k (state_of mid)) → IsTooHeavy old r (forked_behind c op k at test reached own (state_of old))
    forked_and_heavy r e f = heavy_behind _ _ _ _ _ _ decided_so (second_heavy _ _ _ _ _ (sym is ∙ e) f)

-- ---- `?:`

pub either_is : (a b both a1 b1 : Effects) → both ≡ either a b → a ≡ a1 → b ≡ b1 → both ≡ either a1 b1
either_is a b both a1 b1 e f g = e ∙ (ap (λ (x : Effects). either x b) f ∙ ap (λ (x : Effects). either a1 x) g)

module _ (c : Call) (k : CType) (at colon : Place) (test : PureTree) (later later1 : Effects) (left right : State → Part PureTree) (is : later ≡ later1) (old : Stock) where
  acts_so : (b : Bool) → acts later ≡ b → acts later1 ≡ b
  acts_so b e = ap acts (sym is) ∙ e

  pub chosen_plain : (new : Stock) (v : PureTree) → acts later ≡ false → IsMade old new v (chosen_in_place k test left right (state_of old)) → IsMade old new v (chosen c k at colon test later1 left right (state_of old))
  unfolding chosen
  chosen_plain new v e h = second_made _ _ _ _ _ _ (acts_so false e) h

  pub chosen_plain_heavy : (r : Refusal) → acts later ≡ false → IsTooHeavy old r (chosen_in_place k test left right (state_of old)) → IsTooHeavy old r (chosen c k at colon test later1 left right (state_of old))
  unfolding chosen
  chosen_plain_heavy r e h = second_heavy _ _ _ _ _ (acts_so false e) h

  pub chosen_heavy_saved : (r : Refusal) → acts later ≡ true → IsTooHeavy old r (save c.file_variables test later (state_of old)) → IsTooHeavy old r (chosen c k at colon test later1 left right (state_of old))
  unfolding chosen
  chosen_heavy_saved r e h = first_heavy _ _ _ _ _ (acts_so true e) (heavy_at_once _ _ _ _ (subst (λ (l : Effects). IsTooHeavy old r (save c.file_variables test l (state_of old))) is h))

  module _ (mid1 mid2 : Stock) (t : PureTree) (own : VarId) (e : acts later ≡ true) (h : IsMade old mid1 t (save c.file_variables test later (state_of old))) (g : IsMade mid1 mid2 own (fresh k (state_of mid1))) where
    kept_so : IsMade old mid1 t (save c.file_variables test later1 (state_of old))
    kept_so = subst (λ (l : Effects). IsMade old mid1 t (save c.file_variables test l (state_of old))) is h

    pub chosen_heavy_first : (r : Refusal) → IsTooHeavy mid2 r (arm c at left same own (state_of mid2)) → IsTooHeavy old r (chosen c k at colon test later1 left right (state_of old))
    unfolding chosen
    chosen_heavy_first r f = first_heavy _ _ _ _ _ (acts_so true e) (heavy_behind _ _ _ _ _ _ kept_so (heavy_behind _ _ _ _ _ _ g (heavy_at_once _ _ _ _ f)))

    pub chosen_heavy_second : (mid3 : Stock) (first : Inner (Unit {0})) (r : Refusal) → IsMade mid2 mid3 first (arm c at left same own (state_of mid2))
        → IsTooHeavy mid3 r (arm c colon right same own (state_of mid3)) → IsTooHeavy old r (chosen c k at colon test later1 left right (state_of old))
    unfolding chosen
    chosen_heavy_second mid3 first r f d = first_heavy _ _ _ _ _ (acts_so true e) (heavy_behind _ _ _ _ _ _ kept_so (heavy_behind _ _ _ _ _ _ g (heavy_behind _ _ _ _ _ _ f (heavy_at_once _ _ _ _ d))))

    pub chosen_forked : (mid3 mid4 new : Stock) (first second : Inner (Unit {0})) (v : PureTree) → IsMade mid2 mid3 first (arm c at left same own (state_of mid2))
        → IsMade mid3 mid4 second (arm c colon right same own (state_of mid3)) → IsMade mid4 new v (fork_of c at t first.pieces second.pieces own k (state_of mid4))
        → IsMade old new v (chosen c k at colon test later1 left right (state_of old))
    unfolding chosen
    chosen_forked mid3 mid4 new first second v f d b = first_made _ _ _ _ _ _ (acts_so true e) (made_behind _ _ _ _ _ _ _ kept_so (made_behind _ _ _ _ _ _ _ g (made_behind _ _ _ _ _ _ _ f (made_behind _ _ _ _ _ _ _ d b))))

    pub chosen_forked_heavy : (mid3 mid4 : Stock) (first second : Inner (Unit {0})) (r : Refusal) → IsMade mid2 mid3 first (arm c at left same own (state_of mid2))
        → IsMade mid3 mid4 second (arm c colon right same own (state_of mid3)) → IsTooHeavy mid4 r (fork_of c at t first.pieces second.pieces own k (state_of mid4))
        → IsTooHeavy old r (chosen c k at colon test later1 left right (state_of old))
    unfolding chosen
    chosen_forked_heavy mid3 mid4 first second r f d b = first_heavy _ _ _ _ _ (acts_so true e) (heavy_behind _ _ _ _ _ _ kept_so (heavy_behind _ _ _ _ _ _ g (heavy_behind _ _ _ _ _ _ f (heavy_behind _ _ _ _ _ _ d b))))
