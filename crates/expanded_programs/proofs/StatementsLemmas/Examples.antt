-- A function of which all that the law wants is known, so that its pieces do what it does.
use Rattle.std.proofs.Common.{◌≡◌, ℕ, zero, suc, ◌≤◌, ◌==◌, ◌⊎◌, inl, inr, refl, sym, ap, subst, Bool, true, false, List, [], ◌∷◌, Option, Some, None, slice_get, arith}
use Rattle.std.proofs.lemmas.Option.{same_Some, none-some}
use Rattle.std.proofs.lemmas.Bool.{false≢true}
use Rattle.hls_base.specs.declared.place.Place.{Place}
use Rattle.hls_base.specs.declared.number.VarId.{VarId}
use Rattle.hls_base.specs.declared.number.ArrayId.{ArrayId}
use Rattle.c_value.specs.Values.{int_type}
use Rattle.pieces.specs.declared.resolved.expression.Cell.{Cell}
use Rattle.pieces.specs.declared.resolved.expression.Scope.TheVariants as scope
use Rattle.pieces.specs.Resolved.Core as core
use Rattle.pieces.specs.Resolved.Core.{CoreTree, CoreStmtTree, CoreStmtTrees, stmt_row, CoreObjectTree}
use Rattle.piece_making.specs.declared.frame.Home.{Home}
use Rattle.piece_making.specs.declared.frame.Home.TheVariants as home
use Rattle.piece_making.specs.declared.work.Slot.{Slot}
use Rattle.piece_making.specs.Making.{State, then_, emit, label, declared, inside, inside_switch, add_array, note_array}
use Rattle.piece_making.specs.Objects.{array_like}
use Rattle.piece_making.specs.Calls.{Call}
use Rattle.pieces.specs.Trees.{piece_row}
use Rattle.hls_base.specs.Same.{Same}
use Rattle.c_meaning.specs.CoreRuns.Cells.{spot, Cells, Here}
use Rattle.c_meaning.specs.CoreRuns.Expressions.{CoreCalls}
use Rattle.c_meaning.specs.CoreRuns.Statements as ks
use Rattle.c_meaning.specs.PieceRuns.Values.{Store}
use Rattle.c_meaning.specs.PieceRuns.Pieces.{Frame, pieces_run}
use Rattle.piece_making.specs.Leaving.{any_leaves}
use Rattle.c_expand.specs.Statements.{statements, changed, valued, actions}
use Rattle.expand_runs.specs.Growing.{IsWithin}
use Rattle.expanded_programs.specs.Statements.Ending.{Ends}
use Rattle.expanded_programs.specs.Statements.Results.{HasResult}
use Rattle.expanded_programs.specs.Statements.Scopes.{Among, behind_all, StmtsSound}
use Rattle.expanded_programs.specs.Statements.Frames.{IsFrame, IsScene, OwnStands, seen_all}
use Rattle.expanded_programs.specs.Statements.{Tables, setting_of, known_of, reach_of, HomesOf, LivesOf, no_calls, RelatedBy, Nowhere}
use Rattle.expanded_programs.proofs.StatementsLemmas.Whole.{kept}

-- { int x = 1; int a[2] = {x}; switch (x) { case 1: a[1] = 3; default: x = 2; } }

abbrev p : ℕ → Place
p n = record { line = 1; column = n; part = 0 }

abbrev cell : ℕ → Cell
cell n = record { scope = scope.Call; number = n }

abbrev scalar_ : CoreObjectTree
scalar_ = record { name = []; kind = int_type; lengths = []; constant = false }

abbrev array_ : CoreObjectTree
array_ = record { name = []; kind = int_type; lengths = 2 ∷ []; constant = false }

abbrev objects_ : List CoreObjectTree
objects_ = scalar_ ∷ array_ ∷ []

abbrev number : ℕ → CoreTree
number n = core.number n int_type

abbrev x : CoreTree
x = core.scalar (cell 0) int_type (p 1)

abbrev body : CoreStmtTrees
body = stmt_row (core.block (0 ∷ 1 ∷ []) (stmt_row (
    core.declare 0 (core.single (number 1)) ∷
    core.declare 1 (core.elements (Some x ∷ None ∷ [])) ∷
    core.switch_ x [] (stmt_row (
    core.case_ (Some 1) (core.act (core.change (core.assign (core.target (cell 1) (core.more (number 1) core.none) int_type (p 2)) None (number 3) (p 3)) ∷ [])) (p 4) ∷
    core.case_ None (core.act (core.change (core.assign (core.target (cell 0) core.none int_type (p 5)) None (number 2) (p 6)) ∷ [])) (p 7) ∷ [])) (p 8) ∷ [])) ∷ [])

abbrev declared_at : Bool → ℕ → Option CoreObjectTree
declared_at true i = slice_get objects_ i
declared_at false i = None

abbrev m : Tables
m = record {
  file = [];
  params = 0;
  objects = objects_;
  result = None;
  homes = λ y. None;
  lives = λ y. false;
  types = λ y. int_type;
  whole = λ y. false;
  declared = λ y. declared_at (y.frame == 1) y.number;
  alive = λ i. false;
  ready = λ i. false;
}

abbrev f : Frame
f = record { variables = int_type ∷ []; arrays = array_like array_ None None false ∷ [] }

abbrev own_ : VarId
own_ = record { 0 = 0 }

abbrev slot_ : Slot
slot_ = record { 0 = 0 }

abbrev here : Here
here = record { frame = 1; spots = λ i. spot 1 i; objects = objects_; path = []; result = None }

abbrev c : Call
c = record { file = []; file_variables = 0; homes = home.Variable own_ ∷ home.Local slot_ ∷ []; objects = objects_; body_at = p 0; path = []; call = record { 0 = 0 }; result = None }

abbrev st : State
st = record { variables = int_type ∷ []; arrays = []; slots = None ∷ []; calls = 1; loops = 0; made = 0 }

abbrev nothing_seen : ℕ → Option ArrayId
nothing_seen i = None

-- ---- what stands for the objects

abbrev IsVariable : Home → Type 0
IsVariable (home.Variable own) = Unit {0}
IsVariable (home.Array a) = ⊥
IsVariable (home.Constant word) = ⊥
IsVariable (home.Local slot) = ⊥

abbrev variable_in : Home → ℕ
variable_in (home.Variable own) = own.0
variable_in (home.Array a) = 0
variable_in (home.Constant word) = 0
variable_in (home.Local slot) = 0

abbrev slot_in : Home → ℕ
slot_in (home.Variable own) = 0
slot_in (home.Array a) = 0
slot_in (home.Constant word) = 0
slot_in (home.Local slot) = slot.0

is_first : (i : ℕ) (own : VarId) → slice_get c.homes i ≡ Some (home.Variable own) → (i ≡ 0) × (own.0 ≡ 0)
is_first zero own e = (refl, sym (ap variable_in (same_Some (home.Variable own_) (home.Variable own) e)))
is_first (suc zero) own e = absurd (subst IsVariable (sym (same_Some (home.Local slot_) (home.Variable own) e)) tt)
is_first (suc (suc i)) own e = absurd (none-some (home.Variable own) e)

is_second : (i : ℕ) (slot : Slot) → slice_get c.homes i ≡ Some (home.Local slot) → (i ≡ 1) × (slot.0 ≡ 0)
is_second zero slot e = absurd (subst IsVariable (same_Some (home.Variable own_) (home.Local slot) e) tt)
is_second (suc zero) slot e = (refl, sym (ap slot_in (same_Some (home.Local slot_) (home.Local slot) e)))
is_second (suc (suc i)) slot e = absurd (none-some (home.Local slot) e)

abbrev IsEmpty : List ℕ → Type 0
IsEmpty [] = Unit {0}
IsEmpty (n ∷ ns) = ⊥

own_stands : (i : ℕ) (o : CoreObjectTree) → slice_get objects_ i ≡ Some o → OwnStands f here c (setting_of m) (HomesOf m) (LivesOf m) i o
own_stands zero o e = subst (OwnStands f here c (setting_of m) (HomesOf m) (LivesOf m) 0) (same_Some scalar_ o e) (inl (refl, own_, refl, refl, refl))
own_stands (suc zero) o e = subst (OwnStands f here c (setting_of m) (HomesOf m) (LivesOf m) 1) (same_Some array_ o e) (inr (inr ((λ z. subst IsEmpty (sym z) tt), omega arith, slot_, refl)))
own_stands (suc (suc i)) o e = absurd (none-some o e)

frame_ : IsFrame f here c (setting_of m) (HomesOf m) (LivesOf m) (known_of m) 0 1
frame_ = record {
  path = refl;
  file_low = omega arith;
  low = omega arith;
  apart = record { one = λ y h g a b. absurd (none-some h a); variables = λ y z own own' a b e. absurd (none-some _ a); arrays = λ y z a a' q b e. absurd (none-some _ q) };
  below = λ y own a. absurd (none-some _ a);
  frames = λ y h i a e. absurd (none-some h a);
  lives = λ y i a e. absurd (false≢true a);
  file = λ i o a. absurd (none-some o a);
  file_names = λ i j own own' a b e. absurd (none-some _ a);
  file_bounded = λ i own a. absurd (none-some _ a);
  file_slots = λ i slot a. absurd (none-some _ a);
  own = own_stands;
  own_names = λ i j own own' a b e. (let q = (is_first i own a).0 in let r = (is_first j own' b).0 in omega (arith, q, r));
  own_bounded = λ i own a. (let q = (is_first i own a).1 in (omega arith, omega (arith, q)));
  own_slots = λ i j slot slot' a b e. (let q = (is_second i slot a).0 in let r = (is_second j slot' b).0 in omega (arith, q, r));
  spots = λ i le. refl;
  objects = refl;
  call_objects = refl;
  result = refl;
  set = λ k a. absurd (none-some k a);
  whole = λ i le a. false≢true a;
  declared = λ i o a. a;
  declares = λ i o le a. a;
}

scene_ : IsScene f c (setting_of m) (HomesOf m) 1 (reach_of m) nothing_seen st
scene_ = record {
  low = omega arith;
  called = omega arith;
  slots = λ i slot a. (let q = (is_second i slot a).1 in omega (arith, q));
  noted = λ i slot a e z. absurd (none-some a z);
  arrays = λ y a q. absurd (none-some _ q);
  seen_low = λ i a z. absurd (none-some a z);
  seen_apart = λ y a i b q z. absurd (none-some b z);
  seen_own = λ i j a b z q e. absurd (none-some a z);
  seen_fits = λ i a o z e. absurd (none-some a z);
  ready = λ i slot a z. absurd (false≢true z);
  unready = λ i a z. absurd (none-some a z);
}

within_ : IsWithin (statements no_calls c body true st).state f
unfolding then_ emit label declared inside inside_switch add_array note_array changed valued actions
within_ = record { variables = λ i y e. e; arrays = λ i y e. e }

sound_ : StmtsSound (setting_of m) (reach_of m) (λ i. Among [] i) false false false body
sound_ = (
  (
    ((omega arith, false≢true, false≢true, (scalar_, refl)), ((omega arith, false≢true, false≢true, (array_, refl)), tt)),
    (
      (inl refl, omega arith, inl (inl refl), false≢true, (scalar_, refl, (refl, (refl, refl)))),
      (
        (inr (inl refl), omega arith, inl (inr (inl refl)), not_reached, (array_, refl, (not_empty, omega arith, (read_, (tt, tt)), omega arith))),
        (
          (
            read_,
            tt,
            (
              (refl, (((array_, refl, not_empty, refl, inr (omega arith, inr (inl (inr (inl refl))), inl refl)), ((refl, refl), tt, λ y a b. a), (refl, refl), (λ y a b. b), tt), tt)),
              ((refl, (((scalar_, refl, refl, refl, inr (inl (inl refl))), tt, (refl, refl), (λ y a b. a), tt), tt)), tt),
            ),
          ),
          tt,
        ),
      ),
    ),
  ),
  tt,
)
  where
    read_ : (o : CoreObjectTree) × (◌≡◌ {A = Option CoreObjectTree} (Some scalar_) (Some o)) × (o.lengths ≡ []) × (o.kind ≡ int_type) × (((◌≡◌ {A = ℕ} 0 0) ⊎ ((◌≡◌ {A = ℕ} 0 1) ⊎ ⊥)) ⊎ (false ≡ true))
    read_ = (scalar_, refl, refl, refl, inl (inl refl))

    not_empty : (◌≡◌ {A = List ℕ} (2 ∷ []) []) → ⊥
    not_empty z = subst IsEmpty (sym z) tt

    not_reached : (◌≡◌ {A = ℕ} 1 0) ⊎ (false ≡ true) → ⊥
    not_reached z = elim z [ inl e ↦ absurd (omega (arith, e)) | inr e ↦ false≢true e ]

-- The pieces of these statements do what the statements do.
example : (cc : CoreCalls) (s : Cells) (t : Store) (n : ℕ) → n ≤ 100 → RelatedBy m f here c (reach_of m) nothing_seen s t
    → Same false 100 (Ends (RelatedBy m f here c (behind_all body (reach_of m)) (seen_all no_calls c body true st nothing_seen)) Nowhere Nowhere (HasResult f c (HomesOf m) (LivesOf m) (known_of m)) c.call true (any_leaves body true))
    (ks.statements cc true body here s n) (pieces_run f (piece_row (statements no_calls c body true st).pieces) t n)
example cc s t n le rel = kept m f 100 here c 0 1 frame_ cc true body [] nothing_seen sound_ st scene_ within_ s t n le rel
