-- What names stand for in a call.
use Rattle.std.proofs.Common.{◌≡◌, ◌∙◌, ◌<◌, ◌≤◌, ◌⊎◌, inl, inr, ℕ, refl, ap, sym, subst, arith, length, slice_get, Some}
use Rattle.c_token.specs.declared.ctype.CType.{CType}
use Rattle.pieces.specs.declared.resolved.expression.Scope.{Scope}
use Rattle.pieces.specs.declared.resolved.expression.Scope.TheVariants as scope
use Rattle.pieces.specs.Resolved.Core.{FileObjectTree, CoreObjectTree}
use Rattle.piece_making.specs.declared.frame.Home.{Home}
use Rattle.piece_making.specs.declared.frame.Home.TheVariants as home
use Rattle.piece_making.specs.declared.work.Slot.{Slot}
use Rattle.piece_making.specs.Making.{State, noted}
use Rattle.piece_making.specs.Calls.{Call, homes_in, array_in}
use Rattle.expanded_programs.specs.Statements.Scopes.{Setting, Reach, IsArray, ArrayIn, objects_in}
use Rattle.sound_trees.specs.Subscripts.{HasDimensions}
use Rattle.typed_pieces.specs.FittingSubscripts.Programs.{file_dimensions, own_dimensions, dimensions_in}
use Rattle.typed_pieces.specs.FittingSubscripts.Worlds.{World, Later, IsNoted}
use Rattle.typed_pieces.specs.FittingSubscripts.Standing.{Names, FileFits, OwnFits, Stands, dimensions_at}
use Rattle.typed_pieces.proofs.FittingSubscripts.Parts.{array_later}

-- ---- later

pub file_later : {s s1 : State} {w : World s} {w1 : World s1} → Later s w s1 w1 → (h : Home) (o : FileObjectTree) → FileFits s h o → FileFits s1 h o
file_later l (home.Variable own) o f = f
file_later l (home.Array a) o f = array_later l a (length o.object.lengths) f
file_later l (home.Constant word) o f = f
file_later l (home.Local slot) o f = absurd f

pub own_later : {s s1 : State} {w : World s} {w1 : World s1} → Later s w s1 w1 → (params i : ℕ) (h : Home) (o : CoreObjectTree) → OwnFits params s w i h o → OwnFits params s1 w1 i h o
own_later l params i (home.Variable own) o f = f
own_later l params i (home.Array a) o f = array_later l a (length o.lengths) f
own_later l params i (home.Local slot) o f = (f.0, l.dimensions slot.0 (length o.lengths) f.1)
own_later l params i (home.Constant word) o f = absurd f

module _ (S : Setting) (c : Call) (r : Reach) where
  pub stands_later : (s : State) (w : World s) (s1 : State) (w1 : World s1) → Stands S c r s w → Later s w s1 w1 → Stands S c r s1 w1
  stands_later s w s1 w1 h l = record {
    file = λ i o e. (let f = h.file i o e in (f.0, f.1, file_later l f.0 o f.2));
    own = λ i o e. (let f = h.own i o e in (f.0, f.1, own_later l S.params i f.0 o f.2));
    ready = λ i slot e r. l.noted slot.0 (h.ready i slot e r);
    objects = h.objects;
  }

  -- ---- arrays

  noted_array : (s : State) (w : World s) (slot : Slot) (n : ℕ) → slice_get w.dimensions slot.0 ≡ Some n → IsNoted s slot.0 → HasDimensions s.arrays (noted (slice_get s.slots slot.0)) n
  noted_array s w slot n e q = subst (λ m. HasDimensions s.arrays (noted m) n) (sym q.1) (w.noted slot.0 n q.0 e q.1)

  file_found : (s : State) (h : Home) (o : FileObjectTree) → FileFits s h o → IsArray o.object → HasDimensions s.arrays (array_in (Some h) s) (length o.object.lengths)
  file_found s (home.Array a) o f e = f
  file_found s (home.Variable own) o f e = absurd (e f)
  file_found s (home.Constant word) o f e = absurd (e f)
  file_found s (home.Local slot) o f e = absurd f

  own_found : (s : State) (w : World s) (i : ℕ) (h : Home) (o : CoreObjectTree) → OwnFits S.params s w i h o → IsArray o → ((slot : Slot) → h ≡ home.Local slot → S.params ≤ i → IsNoted s slot.0) → HasDimensions s.arrays (array_in (Some h) s) (length o.lengths)
  own_found s w i (home.Array a) o f e n = f
  own_found s w i (home.Local slot) o f e n = noted_array s w slot (length o.lengths) f.1 (n slot refl f.0)
  own_found s w i (home.Variable own) o f e n = absurd (e f)
  own_found s w i (home.Constant word) o f e n = absurd f

  ready_there : (s : State) (w : World s) → Stands S c r s w → (i : ℕ) (h : Home) → slice_get c.homes i ≡ Some h → (i < S.params) ⊎ ((S.params ≤ i) × r.Lives i × r.Ready i) → (slot : Slot) → h ≡ home.Local slot → S.params ≤ i → IsNoted s slot.0
  ready_there s w stands i h at (inl lt) slot e le = absurd (omega (arith, lt, le))
  ready_there s w stands i h at (inr x) slot e le = stands.ready i slot (at ∙ ap Some e) x.2

  array_there : (s : State) (w : World s) → Stands S c r s w → (x : Scope) (i : ℕ) (k : CType) → ArrayIn S r x i k → HasDimensions s.arrays (array_in (slice_get (homes_in c x) i) s) (dimensions_in S.file S.objects x i)
  array_there s w h scope.File i k x =
      let f = h.file i x.0 x.1 in
      subst (λ m. HasDimensions s.arrays (array_in m s) (file_dimensions (slice_get S.file i))) (sym f.1) (subst (λ m. HasDimensions s.arrays (array_in (Some f.0) s) (file_dimensions m)) (sym x.1) (file_found s f.0 x.0 f.2 x.2))
  array_there s w h scope.Call i k x =
      let f = h.own i x.0 x.1 in
      subst (λ m. HasDimensions s.arrays (array_in m s) (own_dimensions (slice_get S.objects i))) (sym f.1)
      (subst (λ m. HasDimensions s.arrays (array_in (Some f.0) s) (own_dimensions m)) (sym x.1) (own_found s w i f.0 x.0 f.2 x.2 (ready_there s w h i f.0 f.1 x.4)))

  pub names : Names (dimensions_at S) (objects_in S r) c (Stands S c r)
  names = record { stays = stands_later; arrays = λ s w h x k is_. array_there s w h x.scope x.number k is_ }
