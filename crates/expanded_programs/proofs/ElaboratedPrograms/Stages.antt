-- Where a statement stands: what is visible there, and which objects live.
use Rattle.std.proofs.Common.{◌≡◌, ℕ, zero, suc, ◌+◌, ◌<◌, ◌≤◌, inl, inr, refl, subst, List, [], ◌∷◌, ◌++◌, length, slice_get, Some, arith}
use Rattle.c_tree.specs.Tree.{ObjectTree, ItemTree}
use Rattle.c_meaning.specs.Checks.Names.{Declared}
use Rattle.c_meaning.specs.Checks.Statements.{with_object}
use Rattle.pieces.specs.declared.resolved.expression.Scope.TheVariants as scope
use Rattle.pieces.specs.Resolved.Core.{CoreObjectTree}
use Rattle.c_elaborate.specs.declared.names.Binding.{Binding}
use Rattle.c_elaborate.specs.Names.{binding_of, cell_of}
use Rattle.c_elaborate.specs.Objects.{object_elaborated, from}
use Rattle.c_elaborate.specs.declared.blocks.Scene.{Scene}
use Rattle.c_elaborate.specs.Scenes.{declared, all_declared}
use Rattle.c_elaborate.specs.Homes.{Has}
use Rattle.c_elaborate.specs.Resolved.{HasLengths}
use Rattle.c_elaborate.proofs.ElaborateRuns.Faultless.{knows_declared}
use Rattle.expanded_programs.specs.Statements.Scopes.{Setting, Reach, Among, enter, reach, AreNew}
use Rattle.expanded_programs.proofs.ElaboratedPrograms.Naming.{AreLow, IsMore, standing_more, all_low_more, standing_new, low_new, apart_new, changeable_new, fresh_cell, stands_new}
use Rattle.expanded_programs.proofs.ElaboratedPrograms.Expressions.{Visible}

-- ---- objects of a function

pub has_front : (objects : List CoreObjectTree) (n : ℕ) (xs ys : List ObjectTree) → Has objects n (xs ++ ys) → Has objects n xs
has_front objects n [] ys h = tt
has_front objects n (x ∷ xs) ys h = (h.0, has_front objects (n + 1) xs ys h.1)

pub has_back : (objects : List CoreObjectTree) (n : ℕ) (xs ys : List ObjectTree) → Has objects n (xs ++ ys) → Has objects (n + length xs) ys
has_back objects n [] ys h = subst (λ k. Has objects k ys) (let e : n ≡ n + 0 = omega arith in e) h
has_back objects n (x ∷ xs) ys h = subst (λ k. Has objects k ys) (let e : n + 1 + length xs ≡ n + suc (length xs) = omega arith in e) (has_back objects (n + 1) xs ys h.1)

-- the objects of a block that are still to be declared, the first of which has this number
abbrev pub Pending : List CoreObjectTree → (ℕ → Type 0) → (ℕ → Type 0) → ℕ → List ObjectTree → Type 0
Pending objects Lives Own number [] = Unit {0}
Pending objects Lives Own number (o ∷ os) = (Own number × Lives number × (slice_get objects number ≡ Some (object_elaborated o))) × Pending objects Lives Own (number + 1) os

pub pending_among : (objects : List CoreObjectTree) (Lives Own : ℕ → Type 0) (os : List ObjectTree) (number : ℕ) → ((i : ℕ) → Among (from number (length os)) i → Lives i) → ((i : ℕ) → Among (from number (length os)) i → Own i) → Has objects number os
    → Pending objects Lives Own number os
pending_among objects Lives Own [] number lives own has = tt
pending_among objects Lives Own (o ∷ os) number lives own has =
    ((own number (inl refl), lives number (inl refl), has.0), pending_among objects Lives Own os (number + 1) (λ i a. lives i (inr a)) (λ i a. own i (inr a)) has.1)

pub pending_front : (objects : List CoreObjectTree) (Lives Own : ℕ → Type 0) (number : ℕ) (xs ys : List ObjectTree) → Pending objects Lives Own number (xs ++ ys) → Pending objects Lives Own number xs
pending_front objects Lives Own number [] ys h = tt
pending_front objects Lives Own number (x ∷ xs) ys h = (h.0, pending_front objects Lives Own (number + 1) xs ys h.1)

pub pending_back : (objects : List CoreObjectTree) (Lives Own : ℕ → Type 0) (number : ℕ) (xs ys : List ObjectTree) → Pending objects Lives Own number (xs ++ ys) → Pending objects Lives Own (number + length xs) ys
pending_back objects Lives Own number [] ys h = subst (λ k. Pending objects Lives Own k ys) (let e : number ≡ number + 0 = omega arith in e) h
pending_back objects Lives Own number (x ∷ xs) ys h =
    subst (λ k. Pending objects Lives Own k ys) (let e : number + 1 + length xs ≡ number + suc (length xs) = omega arith in e) (pending_back objects Lives Own (number + 1) xs ys h.1)

pub among_low : (n first i : ℕ) → Among (from first n) i → (first ≤ i) × (i < first + n)
among_low zero first i h = absurd h
among_low (suc n) first i h = elim h [ inl e ↦ (omega (arith, e), omega (arith, e)) | inr rest ↦ let r = among_low n (first + 1) i rest in (omega (arith, r.0), omega (arith, r.1)) ]

-- behind the declarations of these objects, the first of which has this number
abbrev pub reached : ℕ → List ObjectTree → Reach → Reach
reached number [] r = r
reached number (o ∷ os) r = reached (number + 1) os (reach number r)

-- the same objects live
pub reached_lives : (number : ℕ) (os : List ObjectTree) (r : Reach) → (reached number os r).Lives ≡ r.Lives
reached_lives number [] r = refl
reached_lives number (o ∷ os) r = reached_lives (number + 1) os (reach number r)

pub next_behind : (scene : Scene) (os : List ObjectTree) → (all_declared scene os).next ≡ scene.next + length os
next_behind scene [] = omega arith
next_behind scene (o ∷ os) = let e = next_behind (declared scene o) os in omega (arith, e)

-- ---- stages

module _ (S : Setting) (items : List ItemTree) (bodies : List (List ℕ)) where
  -- The next object that is declared has the number next, and objects of blocks that are not entered yet have numbers from free on.
  pub record Stage (rs : List Binding) (next free : ℕ) (r : Reach) (names : List Declared) : Type 0 where
    pub visible : Visible S items bodies r names rs
    pub low : AreLow next rs
    pub lives : (i : ℕ) → r.Lives i → i < free
    pub ready : (i : ℕ) → r.Ready i → i < next
    pub fits : next ≤ free
    pub params : S.params ≤ next

  pub stage_later : (rs : List Binding) (next free later : ℕ) (r : Reach) (names : List Declared) → free ≤ later → Stage rs next free r names → Stage rs next later r names
  stage_later rs next free later r names le s =
      record { visible = s.visible; low = s.low; lives = λ i h. let lt = s.lives i h in omega (arith, lt, le); ready = s.ready; fits = let n = s.fits in omega (arith, n, le); params = s.params }

  visible_more : (r more : Reach) (names : List Declared) (rs : List Binding) → IsMore r more → Visible S items bodies r names rs → Visible S items bodies more names rs
  visible_more r more names rs m v = record { knows = v.knows; apart = v.apart; standing = standing_more S r more m rs v.standing; changeable = v.changeable }

  -- in a block with so many objects
  pub stage_entered : (rs : List Binding) (next free n : ℕ) (r : Reach) (names : List Declared) → Stage rs next free r names → Stage rs free (free + n) (enter (from free n) r) names
  stage_entered rs next free n r names s = record {
    visible = visible_more r (enter (from free n) r) names rs (record { lives = λ i h. inr h; ready = λ i h. h }) s.visible;
    low = all_low_more next free rs s.fits s.low;
    lives = λ i h. elim h [ inl a ↦ (among_low n free i a).1 | inr old ↦ let lt = s.lives i old in omega (arith, lt) ];
    ready = λ i h. let lt = s.ready i h in let le = s.fits in omega (arith, lt, le);
    fits = omega arith;
    params = let a = s.params in let b = s.fits in omega (arith, a, b);
  }

  new_from : (r : Reach) (free : ℕ) (os : List ObjectTree) (number : ℕ) → ((i : ℕ) → r.Lives i → i < free) → ((i : ℕ) → r.Ready i → i < free) → S.params ≤ free → free ≤ number → Has S.objects number os → AreNew S r (from number (length os))
  new_from r free [] number lives ready params le has = tt
  new_from r free (o ∷ os) number lives ready params le has = (
    (omega (arith, params, le), λ h. let lt = lives number h in absurd (omega (arith, lt, le)), λ h. let lt = ready number h in absurd (omega (arith, lt, le)), (object_elaborated o, has.0)),
    new_from r free os (number + 1) lives ready params (omega (arith, le)) has.1,
  )

  -- the objects of a block that is entered
  pub are_new : (rs : List Binding) (next free : ℕ) (r : Reach) (names : List Declared) (os : List ObjectTree) → Stage rs next free r names → Has S.objects free os → AreNew S r (from free (length os))
  are_new rs next free r names os s has =
      new_from r free os free s.lives (λ i h. let lt = s.ready i h in let le = s.fits in omega (arith, lt, le)) (let a = s.params in let b = s.fits in omega (arith, a, b)) (omega arith) has

  -- behind a declaration
  pub stage_declared : (rs : List Binding) (next free : ℕ) (r : Reach) (names : List Declared) (o : ObjectTree) → Stage rs next free r names → next < free → HasLengths o → slice_get S.objects next ≡ Some (object_elaborated o) → r.Lives next
      → Stage (binding_of o (cell_of scope.Call next) ∷ rs) (next + 1) free (reach next r) (with_object o names)
  stage_declared rs next free r names o s lt has at lives =
      let cell = cell_of scope.Call next in
      let b = binding_of o cell in
      let v = s.visible in
      record {
        visible = record {
          knows = knows_declared items bodies names rs o cell v.knows;
          apart = apart_new rs b (fresh_cell next rs s.low) v.apart;
          standing = standing_new S (reach next r) rs b (stands_new S (reach next r) o next has at (λ scalar. lives) (inr (s.params, lives, inl refl)))
              (standing_more S r (reach next r) (record { lives = λ i h. h; ready = λ i h. inr h }) rs v.standing);
          changeable = changeable_new S names rs o cell (λ e. tt) v.changeable;
        };
        low = low_new (next + 1) rs b (omega arith) (all_low_more next (next + 1) rs (omega arith) s.low);
        lives = s.lives;
        ready = λ i h. elim h [ inl e ↦ omega (arith, e) | inr old ↦ let less = s.ready i old in omega (arith, less) ];
        fits = omega (arith, lt);
        params = let le = s.params in omega (arith, le);
      }
