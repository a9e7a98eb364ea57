-- The parameters of a call: new objects, or arrays that are given.
use Rattle.std.proofs.Common.{◌≡◌, ◌≢◌, ℕ, suc, ◌+◌, ◌≤◌, ◌==◌, not, ◌∙◌, sym, refl, ap, subst, inl, inr, List, [], ◌∷◌, ◌++◌, map, take, length, Some, slice_get, append-nil, append_assoc, take_all, arith}
use Rattle.std.proofs.lemmas.List.{length-map}
use Rattle.std.proofs.lemmas.Option.{slice_get_past}
use Rattle.c_tree.specs.Tree.{ObjectTree, ParamTree}
use Rattle.c_value.specs.Values.{convert}
use Rattle.c_meaning.specs.declared.names.Binding.{Binding}
use Rattle.c_meaning.specs.declared.value.Argument.{Argument}
use Rattle.c_meaning.specs.declared.value.Argument.TheVariants as argument
use Rattle.c_meaning.specs.Store.{State, Environment, scalar}
use Rattle.c_meaning.specs.Names.{bind}
use Rattle.c_meaning.specs.Run as run
use Rattle.pieces.specs.declared.resolved.expression.Scope.TheVariants as scope
use Rattle.c_meaning.specs.CoreRuns.Cells.{Spot, spot, Cells, put, Given, number_given, array_given, Here, spot_given, spots_of}
use Rattle.c_meaning.specs.CoreRuns.Runs as core
use Rattle.c_elaborate.specs.declared.blocks.Scene.{Scene}
use Rattle.c_elaborate.specs.Objects.{object_elaborated}
use Rattle.c_elaborate.specs.Scenes as scenes
use Rattle.c_elaborate.specs.Programs.{objects_of_params}
use Rattle.c_elaborate.specs.Homes.{Each, Home, home, held, Alike, IsElsewhere, IsDistinct, IsBelow, Named, IsGiven, AreGiven}
use Rattle.c_elaborate.proofs.ElaborateRuns.Lists.{last-length, each-append, each-more, get-behind, get-before}
use Rattle.c_elaborate.proofs.ElaborateRuns.Naming.{named_more, named_one}
use Rattle.c_elaborate.proofs.ElaborateRuns.Lifetimes.{distinct-more, one_alike}

is_given_more : (homes more : List Home) (o : ObjectTree) (a : Argument) (b : Given) → IsGiven homes o a b → IsGiven (homes ++ more) o a b
is_given_more homes more o (argument.Number n) (number_given m) h = h
is_given_more homes more o (argument.Number n) (array_given x) h = h
is_given_more homes more o (argument.Array i) (number_given m) h = h
is_given_more homes more o (argument.Array i) (array_given x) h = (h.0, get-before homes more i (home x o.kind h.0) h.1, h.2, h.3)

given_more : (homes more : List Home) (ps : List ParamTree) (given : List Argument) (given' : List Given) → AreGiven homes ps given given' → AreGiven (homes ++ more) ps given given'
given_more homes more [] [] [] h = tt
given_more homes more [] [] (b ∷ bs) h = h
given_more homes more [] (a ∷ as_) [] h = h
given_more homes more [] (a ∷ as_) (b ∷ bs) h = h
given_more homes more (p ∷ ps) [] [] h = h
given_more homes more (p ∷ ps) [] (b ∷ bs) h = h
given_more homes more (p ∷ ps) (a ∷ as_) [] h = h
given_more homes more (p ∷ ps) (a ∷ as_) (b ∷ bs) h = (is_given_more homes more p.object a b h.0, given_more homes more ps as_ bs h.1)

-- The spot of a parameter to which a number is given is no object's yet.
abbrev pub AreFree : List Home → ℕ → ℕ → List Given → Type 0
AreFree homes frame i [] = Unit {0}
AreFree homes frame i (number_given v ∷ given) = Each (IsElsewhere (spot frame i)) homes × AreFree homes frame (i + 1) given
AreFree homes frame i (array_given x ∷ given) = AreFree homes frame (i + 1) given

free_more : (homes : List Home) (h : Home) (frame i : ℕ) (given : List Given) → ((j : ℕ) → i ≤ j → h.spot ≢ spot frame j) → AreFree homes frame i given → AreFree (homes ++ h ∷ []) frame i given
free_more homes h frame i [] other free = tt
free_more homes h frame i (number_given v ∷ given) other free =
    (each-append (IsElsewhere (spot frame i)) homes (h ∷ []) free.0 (other i (omega arith), tt), free_more homes h frame (i + 1) given (λ j le. other j (omega arith)) free.1)
free_more homes h frame i (array_given x ∷ given) other free = free_more homes h frame (i + 1) given (λ j le. other j (omega arith)) free

-- The spots of the objects of a call, where the arguments stand from this number on.
abbrev pub SpotsGiven : (ℕ → Spot) → ℕ → ℕ → List Given → Type 0
SpotsGiven spots frame i [] = Unit {0}
SpotsGiven spots frame i (g ∷ given) = (spots i ≡ spot_given frame i (Some g)) × SpotsGiven spots frame (i + 1) given

-- What holds behind the parameters. All homes are below the number of the first other object.
pub record Bound (homes : List Home) (here : Here) (frame count : ℕ) (file : List Binding) (env : Environment) (scene : Scene) (s : State) (t : Cells) (left : ℕ) : Type 0 where
  pub more : List Home
  pub alike : Alike (homes ++ more) s.objects t
  pub distinct : IsDistinct (homes ++ more)
  pub below : Each (IsBelow frame count) (homes ++ more)
  pub named : Named (homes ++ more) here file env.names scene.names
  pub same_left : s.left ≡ left

bound_more : (homes : List Home) (h : Home) (here : Here) (frame count : ℕ) (file : List Binding) (env : Environment) (scene : Scene) (s : State) (t : Cells) (left : ℕ)
    → Bound (homes ++ h ∷ []) here frame count file env scene s t left → Bound homes here frame count file env scene s t left
bound_more homes h here frame count file env scene s t left b = record {
  more = h ∷ b.more;
  alike = subst (λ l. Alike l s.objects t) (append_assoc homes (h ∷ []) b.more) b.alike;
  distinct = subst IsDistinct (append_assoc homes (h ∷ []) b.more) b.distinct;
  below = subst (λ l. Each (IsBelow frame count) l) (append_assoc homes (h ∷ []) b.more) b.below;
  named = subst (λ l. Named l here file env.names scene.names) (append_assoc homes (h ∷ []) b.more) b.named;
  same_left = b.same_left;
}

module _ (here : Here) (frame count : ℕ) (file : List Binding) where
  abbrev BoundBy : List ParamTree → ℕ → List Argument → List Given → Environment → Scene → List Home → State → Cells → Type 0
  BoundBy ps i given given' env scene homes s t =
      Bound homes here frame count file (run.parameters ps given env s).0 (scenes.all_declared scene (objects_of_params ps)) (run.parameters ps given env s).1
      (core.parameters frame i (map object_elaborated (objects_of_params ps)) given' t) s.left

  pub bound : (ps : List ParamTree) (i : ℕ) (given : List Argument) (given' : List Given) (env : Environment) (scene : Scene) (homes : List Home) (s : State) (t : Cells)
      → i + length ps ≡ count → scene.next ≡ i → AreGiven homes ps given given' → SpotsGiven here.spots frame i given' → AreFree homes frame i given' → IsDistinct homes → Each (IsBelow frame count) homes
      → Named homes here file env.names scene.names → Alike homes s.objects t → BoundBy ps i given given' env scene homes s t
  bound [] i [] [] env scene homes s t is at gives spots free distinct below named h = record {
    more = [];
    alike = subst (λ l. Alike l s.objects t) (sym (append-nil homes)) h;
    distinct = subst IsDistinct (sym (append-nil homes)) distinct;
    below = subst (λ l. Each (IsBelow frame count) l) (sym (append-nil homes)) below;
    named = subst (λ l. Named l here file env.names scene.names) (sym (append-nil homes)) named;
    same_left = refl;
  }
  bound [] i [] (b ∷ bs) env scene homes s t is at gives spots free distinct below named h = absurd gives
  bound [] i (a ∷ as_) [] env scene homes s t is at gives spots free distinct below named h = absurd gives
  bound [] i (a ∷ as_) (b ∷ bs) env scene homes s t is at gives spots free distinct below named h = absurd gives
  bound (p ∷ ps) i [] [] env scene homes s t is at gives spots free distinct below named h = absurd gives
  bound (p ∷ ps) i [] (b ∷ bs) env scene homes s t is at gives spots free distinct below named h = absurd gives
  bound (p ∷ ps) i (a ∷ as_) [] env scene homes s t is at gives spots free distinct below named h = absurd gives
  bound (p ∷ ps) i (argument.Number n ∷ as_) (array_given x ∷ bs) env scene homes s t is at gives spots free distinct below named h = absurd gives.0
  bound (p ∷ ps) i (argument.Array n ∷ as_) (number_given x ∷ bs) env scene homes s t is at gives spots free distinct below named h = absurd gives.0
  bound (p ∷ ps) i (argument.Array j ∷ as_) (array_given x ∷ bs) env scene homes s t is at gives spots free distinct below named h =
      let o = p.object in
      let g = gives.0 in
      let spot_here : x ≡ here.spots scene.next = sym spots.0 ∙ ap here.spots (sym at) in
      bound ps (i + 1) as_ bs (bind env o.name j) (scenes.declared scene o) homes s t (omega arith) (omega arith) gives.1 spots.1 free distinct below
      (named_one homes here file env.names scene.names o.name j (record { cell = record { scope = scope.Call; number = scene.next }; kind = o.kind; is_array = not (length o.lengths == 0) })
      (record { lengths = g.0; at = subst (λ z. slice_get homes j ≡ Some (home z o.kind g.0)) spot_here g.1; form = ap not (g.3 ∙ sym g.2) }) named) h
  bound (p ∷ ps) i (argument.Number n ∷ as_) (number_given m ∷ bs) env scene homes s t is at gives spots free distinct below named h =
      let o = p.object in
      let g = gives.0 in
      let new = home (spot frame i) o.kind [] in
      let value = scalar o.kind (convert o.kind n) in
      let s1 : State = record s { objects = s.objects ++ value ∷ [] } in
      let spot_here : spot frame i ≡ here.spots scene.next = sym spots.0 ∙ ap here.spots (sym at) in
      let count_is : length s.objects ≡ length homes + 0 = omega (arith, ap length h.0 ∙ length-map homes (held t)) in
      let place : slice_get (homes ++ new ∷ []) (length s.objects) ≡ Some new = ap (slice_get (homes ++ new ∷ [])) count_is ∙ get-behind homes (new ∷ []) 0 in
      subst (λ z. BoundBy (p ∷ ps) i (argument.Number n ∷ as_) (number_given z ∷ bs) env scene homes s t) g.0
      (bound_more homes new here frame count file (run.parameters ps as_ (bind env o.name (length s.objects)) s1).0 (scenes.all_declared (scenes.declared scene o) (objects_of_params ps)) (run.parameters ps as_ (bind env o.name (length s.objects)) s1).1
      (core.parameters frame (i + 1) (map object_elaborated (objects_of_params ps)) bs (put t (spot frame i) value)) s.left
      (bound ps (i + 1) as_ bs (bind env o.name (length s.objects)) (scenes.declared scene o) (homes ++ new ∷ []) s1 (put t (spot frame i) value) (omega arith) (omega arith)
      (given_more homes (new ∷ []) ps as_ bs gives.1) spots.1
      (free_more homes new frame (i + 1) bs (λ j le q. let e = ap (λ (z : Spot). z.number) q in omega arith) free.1)
      (distinct-more homes new distinct free.0)
      (each-append (IsBelow frame count) homes (new ∷ []) below (inr (refl, omega arith), tt))
      (named_one (homes ++ new ∷ []) here file env.names scene.names o.name (length s.objects) (record { cell = record { scope = scope.Call; number = scene.next }; kind = o.kind; is_array = not (length o.lengths == 0) })
      (record { lengths = []; at = subst (λ z. slice_get (homes ++ new ∷ []) (length s.objects) ≡ Some (home z o.kind [])) spot_here place; form = ap not g.1 })
      (named_more homes (new ∷ []) here file env.names scene.names named))
      (one_alike homes (spot frame i) value o.kind [] s.objects t free.0 refl refl h)))

-- ---- calls within others

pub free_below : (homes : List Home) (frame i : ℕ) (given : List Given) → Each (IsBelow frame 0) homes → AreFree homes frame i given
free_below homes frame i [] below = tt
free_below homes frame i (number_given v ∷ given) below = (each-more (IsBelow frame 0) (IsElsewhere (spot frame i)) homes (λ h is. outside frame i h is) below, free_below homes frame (i + 1) given below)
  where
    outside : (frame i : ℕ) (h : Home) → IsBelow frame 0 h → IsElsewhere (spot frame i) h
    outside frame i h is e =
        let f = ap (λ (z : Spot). z.frame) e in
        elim is [ inl lt ↦ omega arith | inr b ↦ omega (arith, b.1) ]
free_below homes frame i (array_given x ∷ given) below = free_below homes frame (i + 1) given below

spots_from : (frame : ℕ) (given before : List Given) → SpotsGiven (spots_of frame (before ++ given)) frame (length before) given
spots_from frame [] before = tt
spots_from frame (g ∷ given) before = (
  ap (spot_given frame (length before)) (ap (slice_get (before ++ g ∷ given)) (let e : length before ≡ length before + 0 = omega arith in e) ∙ get-behind before (g ∷ given) 0),
  subst (λ n. SpotsGiven (spots_of frame (before ++ g ∷ given)) frame n given) (last-length before g)
      (subst (λ l. SpotsGiven (spots_of frame l) frame (length (before ++ g ∷ [])) given) (append_assoc before (g ∷ []) given) (spots_from frame given (before ++ g ∷ []))),
)

take_whole : {A : Type 0} (n : ℕ) (xs : List A) → length xs ≡ n → take n xs ≡ xs
take_whole n xs e = take_all n xs (omega arith)

pub as_many : (homes : List Home) (ps : List ParamTree) (given : List Argument) (given' : List Given) → AreGiven homes ps given given' → length given' ≡ length ps
as_many homes [] [] [] h = refl
as_many homes [] [] (b ∷ bs) h = absurd h
as_many homes [] (a ∷ as_) [] h = absurd h
as_many homes [] (a ∷ as_) (b ∷ bs) h = absurd h
as_many homes (p ∷ ps) [] [] h = absurd h
as_many homes (p ∷ ps) [] (b ∷ bs) h = absurd h
as_many homes (p ∷ ps) (a ∷ as_) [] h = absurd h
as_many homes (p ∷ ps) (a ∷ as_) (b ∷ bs) h = ap suc (as_many homes ps as_ bs h.1)

pub spots_given : (frame n : ℕ) (given : List Given) → length given ≡ n → SpotsGiven (spots_of frame (take n given)) frame 0 given
spots_given frame n given e = subst (λ l. SpotsGiven (spots_of frame l) frame 0 given) (sym (take_whole n given e)) (spots_from frame given [])

pub spots_own : (frame n : ℕ) (given : List Given) → length given ≡ n → (j : ℕ) → n ≤ j → spots_of frame (take n given) j ≡ spot frame j
spots_own frame n given e j le = ap (spot_given frame j) (ap (λ l. slice_get l j) (take_whole n given e) ∙ slice_get_past given j (omega arith))
