-- Saved values, part by part.
use Rattle.std.proofs.Common.{◌≡◌, ℕ, Bool, true, false, ◌&&◌, ◌||◌, List, [], ◌∷◌, ◌++◌, length, map, ap, ◌∙◌, sym, subst, if◌then◌else◌}
use Rattle.std.proofs.lemmas.List.{map_push, nil_from_length}
use Rattle.std.proofs.lemmas.Bool.{false≢true}
use Rattle.hls_base.specs.declared.place.Place.{Place}
use Rattle.hls_base.specs.declared.number.ArrayId.{ArrayId}
use Rattle.hls_base.specs.declared.refusal.Refusal.{Refusal}
use Rattle.c_token.specs.declared.ctype.CType.{CType}
use Rattle.c_tree.specs.declared.operator.Unary.{Unary}
use Rattle.c_tree.specs.declared.operator.Binary.{Binary}
use Rattle.pieces.specs.Trees as tree
use Rattle.pieces.specs.Trees.{PureTree, PureTrees, row}
use Rattle.pieces.specs.Kind.{kind}
use Rattle.pieces.specs.View.{pure_of, pures_of}
use Rattle.pieces.specs.declared.pure_expr.Pure.{Pure}
use Rattle.piece_making.specs.Making.{State, Part, gives, then_, set_own}
use Rattle.piece_making.specs.Saving.{has_element, is_logical, may_skip_element, saved, all_saved, saved_if, saved_binary, saved_choice}
use Rattle.piece_making.specs.Stocks.{Stock, state_of, IsMade, IsTooHeavy}
use Rattle.piece_making.proofs.Parts.{nothing_made, made_behind, heavy_at_once, heavy_behind, made_behind_nothing, heavy_behind_nothing, nothing_heavy}

parts_made : (whole : Bool) (t : PureTree) (parts : State → Part PureTree) (s : State) (old new : Stock) (z : PureTree)
    → whole ≡ false → IsMade old new z (parts s) → IsMade old new z (saved_if whole t parts s)
parts_made false t parts s old new z e h = h
parts_made true t parts s old new z e h = absurd (false≢true (sym e))

parts_heavy : (whole : Bool) (t : PureTree) (parts : State → Part PureTree) (s : State) (old : Stock) (r : Refusal)
    → whole ≡ false → IsTooHeavy old r (parts s) → IsTooHeavy old r (saved_if whole t parts s)
parts_heavy false t parts s old r e h = h
parts_heavy true t parts s old r e h = absurd (false≢true (sym e))

whole_made : (whole : Bool) (t : PureTree) (parts : State → Part PureTree) (s : State) (old new : Stock) (z : PureTree)
    → whole ≡ true → IsMade old new z (set_own (kind t) t s) → IsMade old new z (saved_if whole t parts s)
whole_made true t parts s old new z e h = h
whole_made false t parts s old new z e h = absurd (false≢true e)

whole_heavy : (whole : Bool) (t : PureTree) (parts : State → Part PureTree) (s : State) (old : Stock) (r : Refusal)
    → whole ≡ true → IsTooHeavy old r (set_own (kind t) t s) → IsTooHeavy old r (saved_if whole t parts s)
whole_heavy true t parts s old r e h = h
whole_heavy false t parts s old r e h = absurd (false≢true e)

-- an operator of one operand
pub unary_made : (n : ℕ) (calls : Bool) (p x z : PureTree) (op : Unary) (arg : PureTree) (k : CType) (at : Place) (old new : Stock)
    → p ≡ tree.unary op arg k at → z ≡ tree.unary op x k at → IsMade old new x (saved n calls arg (state_of old)) → IsMade old new z (saved n calls p (state_of old))
unary_made n calls p x z op arg k at old new e f h =
    subst (λ (q : PureTree). IsMade old new z (saved n calls q (state_of old))) (sym e)
    (subst (λ (q : PureTree). IsMade old new q (saved n calls (tree.unary op arg k at) (state_of old))) (sym f)
    (made_behind _ _ _ _ _ _ _ h (nothing_made _ _)))

pub unary_heavy : (n : ℕ) (calls : Bool) (p : PureTree) (op : Unary) (arg : PureTree) (k : CType) (at : Place) (old : Stock) (r : Refusal)
    → p ≡ tree.unary op arg k at → IsTooHeavy old r (saved n calls arg (state_of old)) → IsTooHeavy old r (saved n calls p (state_of old))
unary_heavy n calls p op arg k at old r e h =
    subst (λ (q : PureTree). IsTooHeavy old r (saved n calls q (state_of old))) (sym e) (heavy_at_once _ _ _ _ h)

pub cast_made : (n : ℕ) (calls : Bool) (p x z : PureTree) (to : CType) (arg : PureTree) (old new : Stock)
    → p ≡ tree.cast to arg → z ≡ tree.cast to x → IsMade old new x (saved n calls arg (state_of old)) → IsMade old new z (saved n calls p (state_of old))
cast_made n calls p x z to arg old new e f h =
    subst (λ (q : PureTree). IsMade old new z (saved n calls q (state_of old))) (sym e)
    (subst (λ (q : PureTree). IsMade old new q (saved n calls (tree.cast to arg) (state_of old))) (sym f)
    (made_behind _ _ _ _ _ _ _ h (nothing_made _ _)))

pub cast_heavy : (n : ℕ) (calls : Bool) (p : PureTree) (to : CType) (arg : PureTree) (old : Stock) (r : Refusal)
    → p ≡ tree.cast to arg → IsTooHeavy old r (saved n calls arg (state_of old)) → IsTooHeavy old r (saved n calls p (state_of old))
cast_heavy n calls p to arg old r e h =
    subst (λ (q : PureTree). IsTooHeavy old r (saved n calls q (state_of old))) (sym e) (heavy_at_once _ _ _ _ h)

-- ---- operators of two operands: in one that is set as a whole the second stays as it is

module _ (n : ℕ) (calls : Bool) (op : Binary) (k : CType) (at : Place) (right : PureTree) where
  abbrev Second : Bool → Stock → Part PureTree
  Second b mid = if b then gives right (state_of mid) else saved n calls right (state_of mid)

  abbrev Last : Bool → PureTree → Stock → Part PureTree
  Last b v mid = if b then set_own k v (state_of mid) else gives v (state_of mid)

  abbrev Rest : PureTree → Stock → Part PureTree
  Rest x mid = saved_binary op k at x right (saved n calls right) (state_of mid)

  rest_made : (b : Bool) (x y v z : PureTree) (mid mid2 new : Stock) → b ≡ is_logical op && has_element right
      → IsMade mid mid2 y (Second b mid) → v ≡ tree.binary op x y k at → IsMade mid2 new z (Last b v mid2) → IsMade mid new z (Rest x mid)
  rest_made true x y v z mid mid2 new e h f g =
      whole_made (is_logical op && has_element right) (tree.binary op x right k at) (λ s1. then_ (saved n calls right s1) (λ y1 s2. gives (tree.binary op x y1 k at) s2)) (state_of mid) mid new z (sym e)
      (made_behind_nothing mid mid2 new right y z (λ y1 s1. set_own k (tree.binary op x y1 k at) s1) h (subst (λ (q : PureTree). IsMade mid2 new z (set_own k q (state_of mid2))) f g))
  rest_made false x y v z mid mid2 new e h f g =
      parts_made (is_logical op && has_element right) (tree.binary op x right k at) (λ s1. then_ (saved n calls right s1) (λ y1 s2. gives (tree.binary op x y1 k at) s2)) (state_of mid) mid new z (sym e)
      (made_behind _ _ _ _ _ _ _ h (subst (λ (q : PureTree). IsMade mid2 new z (gives q (state_of mid2))) f g))

  second_heavy : (b : Bool) (x : PureTree) (mid : Stock) (r : Refusal) → b ≡ is_logical op && has_element right → IsTooHeavy mid r (Second b mid) → IsTooHeavy mid r (Rest x mid)
  second_heavy true x mid r e h = nothing_heavy mid r right (Rest x mid) h
  second_heavy false x mid r e h =
      parts_heavy (is_logical op && has_element right) (tree.binary op x right k at) (λ s1. then_ (saved n calls right s1) (λ y1 s2. gives (tree.binary op x y1 k at) s2)) (state_of mid) mid r (sym e) (heavy_at_once _ _ _ _ h)

  last_heavy : (b : Bool) (x y v : PureTree) (mid mid2 : Stock) (r : Refusal) → b ≡ is_logical op && has_element right
      → IsMade mid mid2 y (Second b mid) → v ≡ tree.binary op x y k at → IsTooHeavy mid2 r (Last b v mid2) → IsTooHeavy mid r (Rest x mid)
  last_heavy true x y v mid mid2 r e h f g =
      whole_heavy (is_logical op && has_element right) (tree.binary op x right k at) (λ s1. then_ (saved n calls right s1) (λ y1 s2. gives (tree.binary op x y1 k at) s2)) (state_of mid) mid r (sym e)
      (heavy_behind_nothing mid mid2 r right y (λ y1 s1. set_own k (tree.binary op x y1 k at) s1) h (subst (λ (q : PureTree). IsTooHeavy mid2 r (set_own k q (state_of mid2))) f g))
  last_heavy false x y v mid mid2 r e h f g =
      parts_heavy (is_logical op && has_element right) (tree.binary op x right k at) (λ s1. then_ (saved n calls right s1) (λ y1 s2. gives (tree.binary op x y1 k at) s2)) (state_of mid) mid r (sym e)
      (heavy_behind _ _ _ _ _ _ h (subst (λ (q : PureTree). IsTooHeavy mid2 r (gives q (state_of mid2))) f g))

module _ (n : ℕ) (calls : Bool) (p left right : PureTree) (op : Binary) (k : CType) (at : Place) (b : Bool) (is : p ≡ tree.binary op left right k at) (skips : b ≡ may_skip_element p) where
  skips_so : b ≡ is_logical op && has_element right
  skips_so = skips ∙ ap may_skip_element is

  pub binary_made : (x y v z : PureTree) (old mid mid2 new : Stock) → IsMade old mid x (saved n calls left (state_of old))
      → IsMade mid mid2 y (if b then gives right (state_of mid) else saved n calls right (state_of mid)) → v ≡ tree.binary op x y k at
      → IsMade mid2 new z (if b then set_own k v (state_of mid2) else gives v (state_of mid2)) → IsMade old new z (saved n calls p (state_of old))
  binary_made x y v z old mid mid2 new h g f d =
      subst (λ (q : PureTree). IsMade old new z (saved n calls q (state_of old))) (sym is)
      (made_behind _ _ _ _ _ _ _ h (rest_made n calls op k at right b x y v z mid mid2 new skips_so g f d))

  pub binary_heavy : (old : Stock) (r : Refusal) → IsTooHeavy old r (saved n calls left (state_of old)) → IsTooHeavy old r (saved n calls p (state_of old))
  binary_heavy old r h = subst (λ (q : PureTree). IsTooHeavy old r (saved n calls q (state_of old))) (sym is) (heavy_at_once _ _ _ _ h)

  pub binary_heavy_second : (x : PureTree) (old mid : Stock) (r : Refusal) → IsMade old mid x (saved n calls left (state_of old))
      → IsTooHeavy mid r (if b then gives right (state_of mid) else saved n calls right (state_of mid)) → IsTooHeavy old r (saved n calls p (state_of old))
  binary_heavy_second x old mid r h g =
      subst (λ (q : PureTree). IsTooHeavy old r (saved n calls q (state_of old))) (sym is)
      (heavy_behind _ _ _ _ _ _ h (second_heavy n calls op k at right b x mid r skips_so g))

  pub binary_heavy_last : (x y v : PureTree) (old mid mid2 : Stock) (r : Refusal) → IsMade old mid x (saved n calls left (state_of old))
      → IsMade mid mid2 y (if b then gives right (state_of mid) else saved n calls right (state_of mid)) → v ≡ tree.binary op x y k at
      → IsTooHeavy mid2 r (if b then set_own k v (state_of mid2) else gives v (state_of mid2)) → IsTooHeavy old r (saved n calls p (state_of old))
  binary_heavy_last x y v old mid mid2 r h g f d =
      subst (λ (q : PureTree). IsTooHeavy old r (saved n calls q (state_of old))) (sym is)
      (heavy_behind _ _ _ _ _ _ h (last_heavy n calls op k at right b x y v mid mid2 r skips_so g f d))

-- ---- a `?:`

module _ (n : ℕ) (calls : Bool) (k : CType) (left right : PureTree) where
  abbrev First : Bool → Stock → Part PureTree
  First b mid = if b then gives left (state_of mid) else saved n calls left (state_of mid)

  abbrev Other : Bool → Stock → Part PureTree
  Other b mid = if b then gives right (state_of mid) else saved n calls right (state_of mid)

  abbrev Set : Bool → PureTree → Stock → Part PureTree
  Set b v mid = if b then set_own k v (state_of mid) else gives v (state_of mid)

  abbrev Chosen : PureTree → Stock → Part PureTree
  Chosen t mid = saved_choice k t left right (saved n calls left) (saved n calls right) (state_of mid)

  chosen_made : (b : Bool) (t x y v z : PureTree) (mid mid2 mid3 new : Stock) → b ≡ has_element left || has_element right
      → IsMade mid mid2 x (First b mid) → IsMade mid2 mid3 y (Other b mid2) → v ≡ tree.choice t x y k → IsMade mid3 new z (Set b v mid3) → IsMade mid new z (Chosen t mid)
  chosen_made true t x y v z mid mid2 mid3 new e h g f d =
      whole_made (has_element left || has_element right) (tree.choice t left right k) (λ s1. then_ (saved n calls left s1) (λ x1 s2. then_ (saved n calls right s2) (λ y1 s3. gives (tree.choice t x1 y1 k) s3))) (state_of mid) mid new z (sym e)
      (made_behind_nothing mid mid2 new left x z (λ x1 s1. set_own k (tree.choice t x1 right k) s1) h
      (made_behind_nothing mid2 mid3 new right y z (λ y1 s1. set_own k (tree.choice t x y1 k) s1) g (subst (λ (q : PureTree). IsMade mid3 new z (set_own k q (state_of mid3))) f d)))
  chosen_made false t x y v z mid mid2 mid3 new e h g f d =
      parts_made (has_element left || has_element right) (tree.choice t left right k) (λ s1. then_ (saved n calls left s1) (λ x1 s2. then_ (saved n calls right s2) (λ y1 s3. gives (tree.choice t x1 y1 k) s3))) (state_of mid) mid new z (sym e)
      (made_behind _ _ _ _ _ _ _ h (made_behind _ _ _ _ _ _ _ g (subst (λ (q : PureTree). IsMade mid3 new z (gives q (state_of mid3))) f d)))

  branch_heavy : (b : Bool) (t : PureTree) (mid : Stock) (r : Refusal) → b ≡ has_element left || has_element right → IsTooHeavy mid r (First b mid) → IsTooHeavy mid r (Chosen t mid)
  branch_heavy true t mid r e h = nothing_heavy mid r left (Chosen t mid) h
  branch_heavy false t mid r e h =
      parts_heavy (has_element left || has_element right) (tree.choice t left right k) (λ s1. then_ (saved n calls left s1) (λ x1 s2. then_ (saved n calls right s2) (λ y1 s3. gives (tree.choice t x1 y1 k) s3))) (state_of mid) mid r (sym e) (heavy_at_once _ _ _ _ h)

  other_heavy : (b : Bool) (t x : PureTree) (mid mid2 : Stock) (r : Refusal) → b ≡ has_element left || has_element right
      → IsMade mid mid2 x (First b mid) → IsTooHeavy mid2 r (Other b mid2) → IsTooHeavy mid r (Chosen t mid)
  other_heavy true t x mid mid2 r e h g =
      whole_heavy (has_element left || has_element right) (tree.choice t left right k) (λ s1. then_ (saved n calls left s1) (λ x1 s2. then_ (saved n calls right s2) (λ y1 s3. gives (tree.choice t x1 y1 k) s3))) (state_of mid) mid r (sym e)
      (heavy_behind_nothing mid mid2 r left x (λ x1 s1. set_own k (tree.choice t x1 right k) s1) h (nothing_heavy mid2 r right (set_own k (tree.choice t x right k) (state_of mid2)) g))
  other_heavy false t x mid mid2 r e h g =
      parts_heavy (has_element left || has_element right) (tree.choice t left right k) (λ s1. then_ (saved n calls left s1) (λ x1 s2. then_ (saved n calls right s2) (λ y1 s3. gives (tree.choice t x1 y1 k) s3))) (state_of mid) mid r (sym e) (heavy_behind _ _ _ _ _ _ h (heavy_at_once _ _ _ _ g))

  set_heavy : (b : Bool) (t x y v : PureTree) (mid mid2 mid3 : Stock) (r : Refusal) → b ≡ has_element left || has_element right
      → IsMade mid mid2 x (First b mid) → IsMade mid2 mid3 y (Other b mid2) → v ≡ tree.choice t x y k → IsTooHeavy mid3 r (Set b v mid3) → IsTooHeavy mid r (Chosen t mid)
  set_heavy true t x y v mid mid2 mid3 r e h g f d =
      whole_heavy (has_element left || has_element right) (tree.choice t left right k) (λ s1. then_ (saved n calls left s1) (λ x1 s2. then_ (saved n calls right s2) (λ y1 s3. gives (tree.choice t x1 y1 k) s3))) (state_of mid) mid r (sym e)
      (heavy_behind_nothing mid mid2 r left x (λ x1 s1. set_own k (tree.choice t x1 right k) s1) h
      (heavy_behind_nothing mid2 mid3 r right y (λ y1 s1. set_own k (tree.choice t x y1 k) s1) g (subst (λ (q : PureTree). IsTooHeavy mid3 r (set_own k q (state_of mid3))) f d)))
  set_heavy false t x y v mid mid2 mid3 r e h g f d =
      parts_heavy (has_element left || has_element right) (tree.choice t left right k) (λ s1. then_ (saved n calls left s1) (λ x1 s2. then_ (saved n calls right s2) (λ y1 s3. gives (tree.choice t x1 y1 k) s3))) (state_of mid) mid r (sym e)
      (heavy_behind _ _ _ _ _ _ h (heavy_behind _ _ _ _ _ _ g (subst (λ (q : PureTree). IsTooHeavy mid3 r (gives q (state_of mid3))) f d)))

module _ (n : ℕ) (calls : Bool) (p test left right : PureTree) (k : CType) (b : Bool) (is : p ≡ tree.choice test left right k) (skips : b ≡ may_skip_element p) where
  skips_them : b ≡ has_element left || has_element right
  skips_them = skips ∙ ap may_skip_element is

  pub choice_made : (t x y v z : PureTree) (old mid mid2 mid3 new : Stock) → IsMade old mid t (saved n calls test (state_of old))
      → IsMade mid mid2 x (if b then gives left (state_of mid) else saved n calls left (state_of mid))
      → IsMade mid2 mid3 y (if b then gives right (state_of mid2) else saved n calls right (state_of mid2)) → v ≡ tree.choice t x y k
      → IsMade mid3 new z (if b then set_own k v (state_of mid3) else gives v (state_of mid3)) → IsMade old new z (saved n calls p (state_of old))
  choice_made t x y v z old mid mid2 mid3 new h0 h g f d =
      subst (λ (q : PureTree). IsMade old new z (saved n calls q (state_of old))) (sym is)
      (made_behind _ _ _ _ _ _ _ h0 (chosen_made n calls k left right b t x y v z mid mid2 mid3 new skips_them h g f d))

  pub choice_heavy : (old : Stock) (r : Refusal) → IsTooHeavy old r (saved n calls test (state_of old)) → IsTooHeavy old r (saved n calls p (state_of old))
  choice_heavy old r h = subst (λ (q : PureTree). IsTooHeavy old r (saved n calls q (state_of old))) (sym is) (heavy_at_once _ _ _ _ h)

  pub choice_heavy_second : (t : PureTree) (old mid : Stock) (r : Refusal) → IsMade old mid t (saved n calls test (state_of old))
      → IsTooHeavy mid r (if b then gives left (state_of mid) else saved n calls left (state_of mid)) → IsTooHeavy old r (saved n calls p (state_of old))
  choice_heavy_second t old mid r h0 h =
      subst (λ (q : PureTree). IsTooHeavy old r (saved n calls q (state_of old))) (sym is)
      (heavy_behind _ _ _ _ _ _ h0 (branch_heavy n calls k left right b t mid r skips_them h))

  pub choice_heavy_third : (t x : PureTree) (old mid mid2 : Stock) (r : Refusal) → IsMade old mid t (saved n calls test (state_of old))
      → IsMade mid mid2 x (if b then gives left (state_of mid) else saved n calls left (state_of mid))
      → IsTooHeavy mid2 r (if b then gives right (state_of mid2) else saved n calls right (state_of mid2)) → IsTooHeavy old r (saved n calls p (state_of old))
  choice_heavy_third t x old mid mid2 r h0 h g =
      subst (λ (q : PureTree). IsTooHeavy old r (saved n calls q (state_of old))) (sym is)
      (heavy_behind _ _ _ _ _ _ h0 (other_heavy n calls k left right b t x mid mid2 r skips_them h g))

  pub choice_heavy_last : (t x y v : PureTree) (old mid mid2 mid3 : Stock) (r : Refusal) → IsMade old mid t (saved n calls test (state_of old))
      → IsMade mid mid2 x (if b then gives left (state_of mid) else saved n calls left (state_of mid))
      → IsMade mid2 mid3 y (if b then gives right (state_of mid2) else saved n calls right (state_of mid2)) → v ≡ tree.choice t x y k
      → IsTooHeavy mid3 r (if b then set_own k v (state_of mid3) else gives v (state_of mid3)) → IsTooHeavy old r (saved n calls p (state_of old))
  choice_heavy_last t x y v old mid mid2 mid3 r h0 h g f d =
      subst (λ (q : PureTree). IsTooHeavy old r (saved n calls q (state_of old))) (sym is)
      (heavy_behind _ _ _ _ _ _ h0 (set_heavy n calls k left right b t x y v mid mid2 mid3 r skips_them h g f d))

pub element_made : (n : ℕ) (calls : Bool) (p z : PureTree) (xs : List PureTree) (array : ArrayId) (subscripts : PureTrees) (k : CType) (at : Place) (value : PureTree) (old mid new : Stock)
    → p ≡ tree.element array subscripts k at → value ≡ tree.element array (row xs) k at
    → IsMade old mid xs (all_saved n calls subscripts [] (state_of old)) → IsMade mid new z (set_own k value (state_of mid)) → IsMade old new z (saved n calls p (state_of old))
element_made n calls p z xs array subscripts k at value old mid new e f h1 h2 =
    subst (λ (q : PureTree). IsMade old new z (saved n calls q (state_of old))) (sym e)
    (made_behind _ _ _ _ _ _ _ h1 (subst (λ (q : PureTree). IsMade mid new z (set_own k q (state_of mid))) f h2))

pub element_heavy : (n : ℕ) (calls : Bool) (p : PureTree) (array : ArrayId) (subscripts : PureTrees) (k : CType) (at : Place) (old : Stock) (r : Refusal)
    → p ≡ tree.element array subscripts k at
    → IsTooHeavy old r (all_saved n calls subscripts [] (state_of old)) → IsTooHeavy old r (saved n calls p (state_of old))
element_heavy n calls p array subscripts k at old r e h =
    subst (λ (q : PureTree). IsTooHeavy old r (saved n calls q (state_of old))) (sym e) (heavy_at_once _ _ _ _ h)

pub element_heavy_set : (n : ℕ) (calls : Bool) (p : PureTree) (xs : List PureTree) (array : ArrayId) (subscripts : PureTrees) (k : CType) (at : Place) (value : PureTree) (old mid : Stock) (r : Refusal)
    → p ≡ tree.element array subscripts k at → value ≡ tree.element array (row xs) k at
    → IsMade old mid xs (all_saved n calls subscripts [] (state_of old)) → IsTooHeavy mid r (set_own k value (state_of mid)) → IsTooHeavy old r (saved n calls p (state_of old))
element_heavy_set n calls p xs array subscripts k at value old mid r e f h1 h2 =
    subst (λ (q : PureTree). IsTooHeavy old r (saved n calls q (state_of old))) (sym e)
    (heavy_behind _ _ _ _ _ _ h1 (subst (λ (q : PureTree). IsTooHeavy mid r (set_own k q (state_of mid))) f h2))

-- ---- expressions in a row

-- the first of those that are left, and then the others
pub further_made : (n : ℕ) (calls : Bool) (x y : Pure) (left rest all more : List Pure) (old mid new : Stock) (v : List PureTree)
    → left ≡ x ∷ rest → more ≡ all ++ y ∷ []
    → IsMade old mid (pure_of y) (saved n calls (pure_of x) (state_of old)) → IsMade mid new v (all_saved n calls (pures_of rest) (map pure_of more) (state_of mid))
    → IsMade old new v (all_saved n calls (pures_of left) (map pure_of all) (state_of old))
further_made n calls x y left rest all more old mid new v e f h k =
    subst (λ (xs : List Pure). IsMade old new v (all_saved n calls (pures_of xs) (map pure_of all) (state_of old))) (sym e)
    (made_behind _ _ _ _ _ _ _ h (subst (λ (ys : List PureTree). IsMade mid new v (all_saved n calls (pures_of rest) ys (state_of mid))) (ap (map pure_of) f ∙ map_push pure_of all y) k))

pub further_heavy : (n : ℕ) (calls : Bool) (x y : Pure) (left rest all more : List Pure) (old mid : Stock) (r : Refusal)
    → left ≡ x ∷ rest → more ≡ all ++ y ∷ []
    → IsMade old mid (pure_of y) (saved n calls (pure_of x) (state_of old)) → IsTooHeavy mid r (all_saved n calls (pures_of rest) (map pure_of more) (state_of mid))
    → IsTooHeavy old r (all_saved n calls (pures_of left) (map pure_of all) (state_of old))
further_heavy n calls x y left rest all more old mid r e f h k =
    subst (λ (xs : List Pure). IsTooHeavy old r (all_saved n calls (pures_of xs) (map pure_of all) (state_of old))) (sym e)
    (heavy_behind _ _ _ _ _ _ h (subst (λ (ys : List PureTree). IsTooHeavy mid r (all_saved n calls (pures_of rest) ys (state_of mid))) (ap (map pure_of) f ∙ map_push pure_of all y) k))

-- the first of those that are left weighs too much
pub first_heavy : (n : ℕ) (calls : Bool) (x : Pure) (left rest all : List Pure) (old : Stock) (r : Refusal)
    → left ≡ x ∷ rest → IsTooHeavy old r (saved n calls (pure_of x) (state_of old)) → IsTooHeavy old r (all_saved n calls (pures_of left) (map pure_of all) (state_of old))
first_heavy n calls x left rest all old r e h =
    subst (λ (xs : List Pure). IsTooHeavy old r (all_saved n calls (pures_of xs) (map pure_of all) (state_of old))) (sym e) (heavy_at_once _ _ _ _ h)

-- none is left
pub ended : (n : ℕ) (calls : Bool) (left all : List Pure) (old : Stock)
    → length left ≡ 0 → IsMade old old (map pure_of all) (all_saved n calls (pures_of left) (map pure_of all) (state_of old))
ended n calls left all old e =
    subst (λ (xs : List Pure). IsMade old old (map pure_of all) (all_saved n calls (pures_of xs) (map pure_of all) (state_of old))) (sym (nil_from_length left e)) (nothing_made _ _)
