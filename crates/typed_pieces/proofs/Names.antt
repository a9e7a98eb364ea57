-- What names stand for in a call.
use Rattle.std.proofs.Common.{◌≡◌, ◌∙◌, ◌<◌, ◌≤◌, ◌⊎◌, inl, inr, ℕ, false, refl, ap, sym, subst, arith, slice_get, Some}
use Rattle.std.proofs.lemmas.Bool.{false≢true}
use Rattle.c_token.specs.declared.ctype.CType.{CType}
use Rattle.pieces.specs.declared.resolved.expression.Scope.{Scope}
use Rattle.pieces.specs.declared.resolved.expression.Scope.TheVariants as scope
use Rattle.pieces.specs.Resolved.Core.{FileObjectTree, CoreObjectTree}
use Rattle.piece_making.specs.declared.frame.Home.{Home}
use Rattle.piece_making.specs.declared.frame.Home.TheVariants as home
use Rattle.piece_making.specs.declared.work.Slot.{Slot}
use Rattle.piece_making.specs.Making.{State, noted}
use Rattle.piece_making.specs.Calls.{Call, homes_in, read_of, variable_in, array_in}
use Rattle.expanded_programs.specs.Statements.Scopes.{Setting, Reach, IsScalar, IsArray, ScalarIn, VariableIn, ArrayIn, objects_in}
use Rattle.pass_runs.specs.LowerRuns.OperatorWords.Words.{IsType}
use Rattle.pass_runs.specs.LowerRuns.Holding.{IsThere}
use Rattle.typed_pieces.specs.Worlds.{World, Later, IsValue, HasArray, IsNoted, frame_at}
use Rattle.typed_pieces.specs.Standing.{Names, FileFits, OwnFits, Stands}
use Rattle.typed_pieces.proofs.Typing.{number_typed, variable_typed}
use Rattle.typed_pieces.proofs.Parts.{array_later, labelled}

-- ---- later

pub file_later : {s s1 : State} {w : World s} {w1 : World s1} → Later s w s1 w1 → (h : Home) (o : FileObjectTree) → FileFits s h o → FileFits s1 h o
file_later l (home.Variable own) o f = (f.0, l.variables own.0 o.object.kind f.1)
file_later l (home.Array a) o f = (f.0, array_later l a o.object.kind f.1)
file_later l (home.Constant word) o f = f
file_later l (home.Local slot) o f = absurd f

pub own_later : {s s1 : State} {w : World s} {w1 : World s1} → Later s w s1 w1 → (params i : ℕ) (h : Home) (o : CoreObjectTree) → OwnFits params s w i h o → OwnFits params s1 w1 i h o
own_later l params i (home.Variable own) o f = (f.0, l.variables own.0 o.kind f.1)
own_later l params i (home.Array a) o f = (f.0, array_later l a o.kind f.1)
own_later l params i (home.Local slot) o f = (f.0, f.1, l.kinds slot.0 o.kind f.2)
own_later l params i (home.Constant word) o f = absurd f

-- in a switch
own_labelled : (kind : CType) (s : State) (w : World s) (params i : ℕ) (h : Home) (o : CoreObjectTree) → OwnFits params s w i h o → OwnFits params s (labelled kind w) i h o
own_labelled kind s w params i (home.Variable own) o f = f
own_labelled kind s w params i (home.Array a) o f = f
own_labelled kind s w params i (home.Local slot) o f = f
own_labelled kind s w params i (home.Constant word) o f = absurd f

pub file_homes_later : (S : Setting) (c : Call) {s s1 : State} {w : World s} {w1 : World s1} → Later s w s1 w1
    → ((i : ℕ) (o : FileObjectTree) → slice_get S.file i ≡ Some o → IsType o.object.kind × ((h : Home) × (slice_get c.file i ≡ Some h) × FileFits s h o))
    → (i : ℕ) (o : FileObjectTree) → slice_get S.file i ≡ Some o → IsType o.object.kind × ((h : Home) × (slice_get c.file i ≡ Some h) × FileFits s1 h o)
file_homes_later S c l f i o e = (let h = f i o e in (h.0, (h.1.0, h.1.1, file_later l h.1.0 o h.1.2)))

module _ (S : Setting) (c : Call) (r : Reach) where
  pub stands_later : (s : State) (w : World s) (s1 : State) (w1 : World s1) → Stands S c r s w → Later s w s1 w1 → Stands S c r s1 w1
  stands_later s w s1 w1 h l = record {
    file = file_homes_later S c l h.file;
    own = λ i o e. (let f = h.own i o e in (f.0, (f.1.0, f.1.1, own_later l S.params i f.1.0 o f.1.2)));
    ready = λ i slot e r. l.noted slot.0 (h.ready i slot e r);
    result = λ k e. (let f = h.result k e in (f.0, f.1, l.variables f.0.0 k f.2));
    objects = h.objects;
  }

  pub stands_labelled : (kind : CType) (s : State) (w : World s) → Stands S c r s w → Stands S c r s (labelled kind w)
  stands_labelled kind s w h = record {
    file = h.file;
    own = λ i o e. (let f = h.own i o e in (f.0, (f.1.0, f.1.1, own_labelled kind s w S.params i f.1.0 o f.1.2)));
    ready = h.ready;
    result = h.result;
    objects = h.objects;
  }

  -- ---- scalars

  file_read : (s : State) (h : Home) (o : FileObjectTree) → IsType o.object.kind → FileFits s h o → IsScalar o.object → IsValue o.object.kind s (read_of (Some h) o.object.kind)
  file_read s (home.Variable own) o t f e = record { typed = variable_typed (frame_at s) own o.object.kind t f.1; type = refl }
  file_read s (home.Constant word) o t f e = record { typed = number_typed (frame_at s) o.object.kind word t f.2; type = refl }
  file_read s (home.Array a) o t f e = absurd (f.0 e)
  file_read s (home.Local slot) o t f e = absurd f

  own_read : (s : State) (w : World s) (i : ℕ) (h : Home) (o : CoreObjectTree) → IsType o.kind → OwnFits S.params s w i h o → IsScalar o → IsValue o.kind s (read_of (Some h) o.kind)
  own_read s w i (home.Variable own) o t f e = record { typed = variable_typed (frame_at s) own o.kind t f.1; type = refl }
  own_read s w i (home.Array a) o t f e = absurd (f.0 e)
  own_read s w i (home.Local slot) o t f e = absurd (f.0 e)
  own_read s w i (home.Constant word) o t f e = absurd f

  scalar_in : (s : State) (w : World s) → Stands S c r s w → (x : Scope) (i : ℕ) (k : CType) → ScalarIn S r x i k → IsValue k s (read_of (slice_get (homes_in c x) i) k)
  scalar_in s w h scope.File i k x =
      let f = h.file i x.0 x.1 in
      let v = file_read s f.1.0 x.0 f.0 f.1.2 x.2 in
      subst (λ j. IsValue j s (read_of (slice_get c.file i) j)) x.3 (subst (λ m. IsValue x.0.object.kind s (read_of m x.0.object.kind)) (sym f.1.1) v)
  scalar_in s w h scope.Call i k x =
      let f = h.own i x.0 x.1 in
      let v = own_read s w i f.1.0 x.0 f.0 f.1.2 x.2 in
      subst (λ j. IsValue j s (read_of (slice_get c.homes i) j)) x.3 (subst (λ m. IsValue x.0.kind s (read_of m x.0.kind)) (sym f.1.1) v)

  -- ---- variables

  file_variable : (s : State) (h : Home) (o : FileObjectTree) → FileFits s h o → IsScalar o.object → o.object.constant ≡ false → IsThere (frame_at s) (variable_in (Some h))
  file_variable s (home.Variable own) o f e v = (o.object.kind, f.1)
  file_variable s (home.Constant word) o f e v = absurd (false≢true (sym v ∙ f.1))
  file_variable s (home.Array a) o f e v = absurd (f.0 e)
  file_variable s (home.Local slot) o f e v = absurd f

  own_variable : (s : State) (w : World s) (i : ℕ) (h : Home) (o : CoreObjectTree) → OwnFits S.params s w i h o → IsScalar o → IsThere (frame_at s) (variable_in (Some h))
  own_variable s w i (home.Variable own) o f e = (o.kind, f.1)
  own_variable s w i (home.Array a) o f e = absurd (f.0 e)
  own_variable s w i (home.Local slot) o f e = absurd (f.0 e)
  own_variable s w i (home.Constant word) o f e = absurd f

  variable_there : (s : State) (w : World s) → Stands S c r s w → (x : Scope) (i : ℕ) (k : CType) → VariableIn S r x i k → IsThere (frame_at s) (variable_in (slice_get (homes_in c x) i))
  variable_there s w h scope.File i k x = let f = h.file i x.0 x.1 in subst (λ m. IsThere (frame_at s) (variable_in m)) (sym f.1.1) (file_variable s f.1.0 x.0 f.1.2 x.2 x.4)
  variable_there s w h scope.Call i k x = let f = h.own i x.0 x.1 in subst (λ m. IsThere (frame_at s) (variable_in m)) (sym f.1.1) (own_variable s w i f.1.0 x.0 f.1.2 x.2)

  read_too : (x : Scope) (i : ℕ) (k : CType) → VariableIn S r x i k → ScalarIn S r x i k
  read_too scope.File i k x = (x.0, x.1, x.2, x.3)
  read_too scope.Call i k x = x

  -- ---- arrays

  noted_array : (s : State) (w : World s) (slot : Slot) (k : CType) → slice_get w.kinds slot.0 ≡ Some k → IsNoted s slot.0 → HasArray (frame_at s) (noted (slice_get s.slots slot.0)) k
  noted_array s w slot k e n = subst (λ m. HasArray (frame_at s) (noted m) k) (sym n.1) (w.noted slot.0 k n.0 e n.1)

  file_found : (s : State) (h : Home) (o : FileObjectTree) → FileFits s h o → IsArray o.object → HasArray (frame_at s) (array_in (Some h) s) o.object.kind
  file_found s (home.Array a) o f e = f.1
  file_found s (home.Variable own) o f e = absurd (e f.0)
  file_found s (home.Constant word) o f e = absurd (e f.0)
  file_found s (home.Local slot) o f e = absurd f

  own_found : (s : State) (w : World s) (i : ℕ) (h : Home) (o : CoreObjectTree) → OwnFits S.params s w i h o → IsArray o → ((slot : Slot) → h ≡ home.Local slot → S.params ≤ i → IsNoted s slot.0) → HasArray (frame_at s) (array_in (Some h) s) o.kind
  own_found s w i (home.Array a) o f e n = f.1
  own_found s w i (home.Local slot) o f e n = noted_array s w slot o.kind f.2 (n slot refl f.1)
  own_found s w i (home.Variable own) o f e n = absurd (e f.0)
  own_found s w i (home.Constant word) o f e n = absurd f

  ready_there : (s : State) (w : World s) → Stands S c r s w → (i : ℕ) (h : Home) → slice_get c.homes i ≡ Some h → (i < S.params) ⊎ ((S.params ≤ i) × r.Lives i × r.Ready i) → (slot : Slot) → h ≡ home.Local slot → S.params ≤ i → IsNoted s slot.0
  ready_there s w stands i h at (inl lt) slot e le = absurd (omega (arith, lt, le))
  ready_there s w stands i h at (inr x) slot e le = stands.ready i slot (at ∙ ap Some e) x.2

  array_there : (s : State) (w : World s) → Stands S c r s w → (x : Scope) (i : ℕ) (k : CType) → ArrayIn S r x i k → IsType k × HasArray (frame_at s) (array_in (slice_get (homes_in c x) i) s) k
  array_there s w h scope.File i k x =
      let f = h.file i x.0 x.1 in (
        subst IsType x.3 f.0,
        subst (λ m. HasArray (frame_at s) (array_in m s) k) (sym f.1.1) (subst (λ j. HasArray (frame_at s) (array_in (Some f.1.0) s) j) x.3 (file_found s f.1.0 x.0 f.1.2 x.2)),
      )
  array_there s w h scope.Call i k x =
      let f = h.own i x.0 x.1 in (
        subst IsType x.3 f.0,
        subst (λ m. HasArray (frame_at s) (array_in m s) k) (sym f.1.1) (subst (λ j. HasArray (frame_at s) (array_in (Some f.1.0) s) j) x.3 (own_found s w i f.1.0 x.0 f.1.2 x.2 (ready_there s w h i f.1.0 f.1.1 x.4))),
      )

  pub names : Names (objects_in S r) c (Stands S c r)
  names = record {
    stays = stands_later;
    scalars = λ s w h x k is_. scalar_in s w h x.scope x.number k is_;
    variables = λ s w h x k is_. (variable_there s w h x.scope x.number k is_, scalar_in s w h x.scope x.number k (read_too x.scope x.number k is_));
    arrays = λ s w h x k is_. array_there s w h x.scope x.number k is_;
  }
