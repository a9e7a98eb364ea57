-- What names stand for in a call.
use Rattle.std.proofs.Common.{◌≡◌, ◌∙◌, ◌<◌, ◌≤◌, ◌⊎◌, inl, inr, ℕ, false, refl, ap, sym, subst, arith, slice_get, Some}
use Rattle.c_token.specs.declared.ctype.CType.{CType}
use Rattle.pieces.specs.declared.resolved.expression.Scope.{Scope}
use Rattle.pieces.specs.declared.resolved.expression.Scope.TheVariants as scope
use Rattle.pieces.specs.Resolved.Core.{FileObjectTree, CoreObjectTree}
use Rattle.piece_making.specs.declared.frame.Home.{Home}
use Rattle.piece_making.specs.declared.frame.Home.TheVariants as home
use Rattle.piece_making.specs.declared.work.Slot.{Slot}
use Rattle.piece_making.specs.Making.{State, noted}
use Rattle.piece_making.specs.Calls.{Call, homes_in, array_in}
use Rattle.expanded_programs.specs.Statements.Scopes.{Setting, Reach, IsArray, ArrayIn, objects_in}
use Rattle.source_validity.specs.KeptTables.Programs.{file_constant, own_constant, constant_in}
use Rattle.source_validity.specs.KeptTables.Worlds.{World, Later, IsStored, IsNoted}
use Rattle.source_validity.specs.KeptTables.Standing.{Names, FileKept, OwnKept, Stands, constant_at}
use Rattle.source_validity.proofs.KeptTables.Parts.{array_later}

-- ---- later

pub file_later : {s s1 : State} → Later s s1 → (h : Home) (o : FileObjectTree) → FileKept s h o → FileKept s1 h o
file_later l (home.Variable own) o f = f
file_later l (home.Array a) o f = λ free. array_later l a (f free)
file_later l (home.Constant word) o f = f
file_later l (home.Local slot) o f = absurd f

pub own_later : {s s1 : State} → Later s s1 → (params i : ℕ) (h : Home) (o : CoreObjectTree) → OwnKept params s i h o → OwnKept params s1 i h o
own_later l params i (home.Variable own) o f = f
own_later l params i (home.Array a) o f = λ free. array_later l a (f free)
own_later l params i (home.Local slot) o f = (f.0, (let lt = f.1 in let le = l.slots in omega (arith, lt, le)))
own_later l params i (home.Constant word) o f = absurd f

module _ (S : Setting) (c : Call) (r : Reach) where
  pub stands_later : (s s1 : State) → Stands S c r s → Later s s1 → Stands S c r s1
  stands_later s s1 h l = record {
    file = λ i o e. (let f = h.file i o e in (f.0, f.1, file_later l f.0 o f.2));
    own = λ i o e. (let f = h.own i o e in (f.0, f.1, own_later l S.params i f.0 o f.2));
    ready = λ i slot e r. l.noted slot.0 (h.ready i slot e r);
    objects = h.objects;
  }

  -- ---- arrays

  noted_array : (s : State) → World s → (slot : Slot) → IsNoted s slot.0 → IsStored s.arrays (noted (slice_get s.slots slot.0))
  noted_array s w slot q = subst (λ m. IsStored s.arrays (noted m)) (sym q.1) (w.noted slot.0 q.0 q.1)

  file_found : (s : State) (h : Home) (o : FileObjectTree) → FileKept s h o → IsArray o.object → o.object.constant ≡ false → IsStored s.arrays (array_in (Some h) s)
  file_found s (home.Array a) o f e free = f free
  file_found s (home.Variable own) o f e free = absurd (e f)
  file_found s (home.Constant word) o f e free = absurd (e f)
  file_found s (home.Local slot) o f e free = absurd f

  own_found : (s : State) → World s → (i : ℕ) (h : Home) (o : CoreObjectTree) → OwnKept S.params s i h o → IsArray o → ((slot : Slot) → h ≡ home.Local slot → S.params ≤ i → IsNoted s slot.0) → o.constant ≡ false → IsStored s.arrays (array_in (Some h) s)
  own_found s w i (home.Array a) o f e n free = f free
  own_found s w i (home.Local slot) o f e n free = noted_array s w slot (n slot refl f.0)
  own_found s w i (home.Variable own) o f e n free = absurd (e f)
  own_found s w i (home.Constant word) o f e n free = absurd f

  ready_there : (s : State) → Stands S c r s → (i : ℕ) (h : Home) → slice_get c.homes i ≡ Some h → (i < S.params) ⊎ ((S.params ≤ i) × r.Lives i × r.Ready i) → (slot : Slot) → h ≡ home.Local slot → S.params ≤ i → IsNoted s slot.0
  ready_there s stands i h at (inl lt) slot e le = absurd (omega (arith, lt, le))
  ready_there s stands i h at (inr x) slot e le = stands.ready i slot (at ∙ ap Some e) x.2

  array_there : (s : State) → World s → Stands S c r s → (x : Scope) (i : ℕ) (k : CType) → ArrayIn S r x i k → constant_in S.file S.objects x i ≡ false → IsStored s.arrays (array_in (slice_get (homes_in c x) i) s)
  array_there s w h scope.File i k x free =
      let f = h.file i x.0 x.1 in
      subst (λ m. IsStored s.arrays (array_in m s)) (sym f.1) (file_found s f.0 x.0 f.2 x.2 (sym (ap file_constant x.1) ∙ free))
  array_there s w h scope.Call i k x free =
      let f = h.own i x.0 x.1 in
      subst (λ m. IsStored s.arrays (array_in m s)) (sym f.1) (own_found s w i f.0 x.0 f.2 x.2 (ready_there s h i f.0 f.1 x.4) (sym (ap own_constant x.1) ∙ free))

  pub names : Names (constant_at S) (objects_in S r) c (Stands S c r)
  names = record { stays = stands_later; arrays = λ s w h x k is_ free. array_there s w h x.scope x.number k is_ free }
