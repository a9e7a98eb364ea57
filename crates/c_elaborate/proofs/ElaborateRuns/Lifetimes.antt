-- The beginning and the end of lifetimes.
use Rattle.std.proofs.Common.{◌≡◌, ℕ, suc, ◌+◌, ◌≤◌, ◌==◌, not, ◌∙◌, sym, refl, ap, ap₂, subst, inl, inr, List, [], ◌∷◌, ◌++◌, map, take, length, Some, slice_get, append_assoc, append-nil, arith}
use Rattle.std.proofs.lemmas.List.{map-append, length-map}
use Rattle.std.proofs.Math.Seq.{take-append_seam}
use Rattle.c_token.specs.declared.ctype.CType.{CType}
use Rattle.c_tree.specs.Tree.{ObjectTree}
use Rattle.c_meaning.specs.declared.names.Binding.{Binding}
use Rattle.c_meaning.specs.Store.{Object, Environment, unwritten, lengths_in, declared, all_declared}
use Rattle.pieces.specs.Resolved.Core.{CoreObjectTree}
use Rattle.pieces.specs.declared.resolved.expression.Scope.TheVariants as scope
use Rattle.c_meaning.specs.CoreRuns.Cells as cells
use Rattle.c_meaning.specs.CoreRuns.Cells.{Spot, spot, Cells, put, Here, entered}
use Rattle.c_elaborate.specs.declared.names.Binding.{Binding as Resolution}
use Rattle.c_elaborate.specs.declared.blocks.Scene.{Scene}
use Rattle.c_elaborate.specs.Objects.{from}
use Rattle.c_elaborate.specs.Scenes as scenes
use Rattle.c_elaborate.specs.Homes.{Each, Home, home, held, IsShaped, Alike, IsElsewhere, IsDistinct, IsBelow, placed, Named, Stands, Has, new_homes, Awaits}
use Rattle.c_elaborate.specs.Resolved.{HasLengths}
use Rattle.c_elaborate.proofs.ElaborateRuns.Lists.{last-length, each-append, each-front, each-more, get-behind}
use Rattle.c_elaborate.proofs.ElaborateRuns.Homes.{put_here, put_other, put_aside}
use Rattle.c_elaborate.proofs.ElaborateRuns.Naming.{named_more, named_one}

-- ---- spots that are free

pub apart : (frame free : ℕ) (h : Home) → IsBelow frame free h → IsElsewhere (spot frame free) h
apart frame free h is e =
    let f = ap (λ (z : Spot). z.frame) e in
    let g = ap (λ (z : Spot). z.number) e in
    elim is [ inl lt ↦ omega arith | inr b ↦ omega (arith, b.1) ]

below_more : (frame free more : ℕ) (h : Home) → free ≤ more → IsBelow frame free h → IsBelow frame more h
below_more frame free more h le is = elim is [ inl lt ↦ inl lt | inr b ↦ inr (b.0, omega (arith, b.1)) ]

below_deeper : (frame free : ℕ) (h : Home) → IsBelow frame free h → IsBelow (suc frame) 0 h
below_deeper frame free h is = elim is [ inl lt ↦ inl (omega arith) | inr b ↦ inl (omega (arith, b.0)) ]

pub distinct-more : (hs : List Home) (h : Home) → IsDistinct hs → Each (IsElsewhere h.spot) hs → IsDistinct (hs ++ h ∷ [])
distinct-more [] h d e = (tt, tt)
distinct-more (g ∷ gs) h d e = (each-append (IsElsewhere g.spot) gs (h ∷ []) d.0 ((λ q. e.0 (sym q)), tt), distinct-more gs h d.1 e.1)

shaped_aside : (homes : List Home) (t : Cells) (x : Spot) (o : Object) → Each (IsElsewhere x) homes → Each (IsShaped t) homes → Each (IsShaped (put t x o)) homes
shaped_aside [] t x o e h = tt
shaped_aside (g ∷ gs) t x o e h =
    let same = put_other t x g.spot o (λ q. e.0 (sym q)) in
    ((ap (λ (p : Object). p.kind) same ∙ h.0.0, ap (λ (p : Object). p.lengths) same ∙ h.0.1), shaped_aside gs t x o e.1 h.1)

-- an object begins at a spot that is free
pub one_alike : (homes : List Home) (x : Spot) (o : Object) (kind : CType) (lengths : List ℕ) (s : List Object) (t : Cells) → Each (IsElsewhere x) homes → o.kind ≡ kind → o.lengths ≡ lengths → Alike homes s t
    → Alike (homes ++ home x kind lengths ∷ []) (s ++ o ∷ []) (put t x o)
one_alike homes x o kind lengths s t free ek el a = (
  ap₂ ◌++◌ (a.0 ∙ sym (put_aside homes t x o free)) (ap (λ w. w ∷ []) (sym (put_here t x o))) ∙ sym (map-append (held (put t x o)) homes (home x kind lengths ∷ [])),
  each-append (IsShaped (put t x o)) homes (home x kind lengths ∷ []) (shaped_aside homes t x o free a.1)
      ((ap (λ (p : Object). p.kind) (put_here t x o) ∙ ek, ap (λ (p : Object). p.lengths) (put_here t x o) ∙ el), tt),
)

module _ (file : List Binding) (names : List Resolution) where
  pub stands_more : (homes : List Home) (frame free more : ℕ) → free ≤ more → Stands file names homes frame free → Stands file names homes frame more
  stands_more homes frame free more le h =
      record { distinct = h.distinct; below = each-more (IsBelow frame free) (IsBelow frame more) homes (λ x. below_more frame free more x le) h.below; resolved = h.resolved }

  pub stands_deeper : (homes : List Home) (frame free : ℕ) → Stands file names homes frame free → Stands file names homes (suc frame) 0
  stands_deeper homes frame free h =
      record { distinct = h.distinct; below = each-more (IsBelow frame free) (IsBelow (suc frame) 0) homes (below_deeper frame free) h.below; resolved = h.resolved }

  pub stands_one : (homes : List Home) (frame free : ℕ) (kind : CType) (lengths : List ℕ) → Stands file names homes frame free → Stands file names (homes ++ home (spot frame free) kind lengths ∷ []) frame (free + 1)
  stands_one homes frame free kind lengths h =
      let new = home (spot frame free) kind lengths in
      record {
        distinct = distinct-more homes new h.distinct (each-more (IsBelow frame free) (IsElsewhere (spot frame free)) homes (apart frame free) h.below);
        below = each-append (IsBelow frame (free + 1)) homes (new ∷ []) (each-more (IsBelow frame free) (IsBelow frame (free + 1)) homes (λ x. below_more frame free (free + 1) x (omega arith)) h.below) (inr (refl, omega arith), tt);
        resolved = λ here. named_more homes (new ∷ []) here file [] names (h.resolved here);
      }

  -- ---- the objects of a block begin

  module _ (here : Here) (params : ℕ) (own : (i : ℕ) → params ≤ i → here.spots i ≡ spot here.frame i) where
    abbrev Begun : List ObjectTree → List Home → ℕ → List Object → Cells → Type 0
    Begun os homes free s t =
        Stands file names (homes ++ new_homes here.frame free os) here.frame (free + length os) × Alike (homes ++ new_homes here.frame free os) (s ++ map unwritten os) (entered here (from free (length os)) t)

    begun_more : (o : ObjectTree) (os : List ObjectTree) (homes : List Home) (free : ℕ) (s : List Object) (t : Cells)
        → Begun os (homes ++ home (spot here.frame free) o.kind (lengths_in o) ∷ []) (free + 1) (s ++ unwritten o ∷ []) (put t (here.spots free) (cells.unwritten (slice_get here.objects free))) → Begun (o ∷ os) homes free s t
    begun_more o os homes free s t h =
        let new = home (spot here.frame free) o.kind (lengths_in o) in
        let more = new_homes here.frame (free + 1) os in
        let u = entered here (from (free + 1) (length os)) (put t (here.spots free) (cells.unwritten (slice_get here.objects free))) in
        let e : free + 1 + length os ≡ free + suc (length os) = omega arith in (
          subst (λ n. Stands file names (homes ++ new ∷ more) here.frame n) e (subst (λ l. Stands file names l here.frame (free + 1 + length os)) (append_assoc homes (new ∷ []) more) h.0),
          subst (λ l. Alike l (s ++ unwritten o ∷ map unwritten os) u) (append_assoc homes (new ∷ []) more)
              (subst (λ l. Alike ((homes ++ new ∷ []) ++ more) l u) (append_assoc s (unwritten o ∷ []) (map unwritten os)) h.1),
        )

    pub block_begun : (os : List ObjectTree) (homes : List Home) (free : ℕ) (s : List Object) (t : Cells) → params ≤ free → Has here.objects free os → Stands file names homes here.frame free → Alike homes s t → Begun os homes free s t
    block_begun [] homes free s t le has h a = (
      subst (λ l. Stands file names l here.frame (free + 0)) (sym (append-nil homes)) (stands_more homes here.frame free (free + 0) (omega arith) h),
      subst (λ l. Alike l (s ++ []) t) (sym (append-nil homes)) (subst (λ l. Alike homes l t) (sym (append-nil s)) a),
    )
    block_begun (o ∷ os) homes free s t le has h a =
        let new = home (spot here.frame free) o.kind (lengths_in o) in
        begun_more o os homes free s t
        (block_begun os (homes ++ new ∷ []) (free + 1) (s ++ unwritten o ∷ []) (put t (here.spots free) (cells.unwritten (slice_get here.objects free))) (omega arith) has.1
        (stands_one homes here.frame free o.kind (lengths_in o) h)
        (subst (λ x. Alike (homes ++ new ∷ []) (s ++ unwritten o ∷ []) (put t x (cells.unwritten (slice_get here.objects free)))) (sym (own free le))
        (subst (λ q. Alike (homes ++ new ∷ []) (s ++ unwritten o ∷ []) (put t (spot here.frame free) (cells.unwritten q))) (sym has.0)
        (one_alike homes (spot here.frame free) (unwritten o) o.kind (lengths_in o) s t (each-more (IsBelow here.frame free) (IsElsewhere (spot here.frame free)) homes (apart here.frame free) h.below) refl refl a))))

    awaits_from : (os : List ObjectTree) (before : List Home) (free : ℕ) → params ≤ free → Has here.objects free os → Awaits (before ++ new_homes here.frame free os) here (length before) free os
    awaits_from [] before free le has = tt
    awaits_from (o ∷ os) before free le has =
        let new = home (spot here.frame free) o.kind (lengths_in o) in
        let more = new_homes here.frame (free + 1) os in (
          ap (slice_get (before ++ new ∷ more)) (let e : length before ≡ length before + 0 = omega arith in e) ∙ (get-behind before (new ∷ more) 0 ∙ ap (λ x. Some (home x o.kind (lengths_in o))) (sym (own free le))),
          has.0,
          subst (λ l. Awaits l here (length before + 1) (free + 1) os) (append_assoc before (new ∷ []) more)
              (subst (λ n. Awaits ((before ++ new ∷ []) ++ more) here n (free + 1) os) (last-length before new) (awaits_from os (before ++ new ∷ []) (free + 1) (omega arith) has.1)),
        )

    pub block_awaits : (os : List ObjectTree) (homes : List Home) (free : ℕ) (s : List Object) (t : Cells) → params ≤ free → Has here.objects free os → Alike homes s t
        → Awaits (homes ++ new_homes here.frame free os) here (length s) free os
    block_awaits os homes free s t le has a =
        subst (λ n. Awaits (homes ++ new_homes here.frame free os) here n free os) (sym (ap length a.0 ∙ length-map homes (held t))) (awaits_from os homes free le has)

-- They end.
pub leave_alike : (homes more : List Home) (s0 s : List Object) (t0 t : Cells) → Alike homes s0 t0 → Alike (homes ++ more) s t → Alike homes (take (length s0) s) t
leave_alike homes more s0 s t0 t a0 a = (
  ap (λ l. take (length s0) l) (a.0 ∙ map-append (held t) homes more)
      ∙ (ap (λ n. take n (map (held t) homes ++ map (held t) more)) (ap length a0.0 ∙ (length-map homes (held t0) ∙ sym (length-map homes (held t)))) ∙ take-append_seam (map (held t) homes) (map (held t) more)),
  each-front (IsShaped t) homes more a.1,
)

-- ---- the objects of a function

pub has_front : (objects : List CoreObjectTree) (free : ℕ) (xs ys : List ObjectTree) → Has objects free (xs ++ ys) → Has objects free xs
has_front objects free [] ys h = tt
has_front objects free (x ∷ xs) ys h = (h.0, has_front objects (free + 1) xs ys h.1)

pub has_back : (objects : List CoreObjectTree) (free : ℕ) (xs ys : List ObjectTree) → Has objects free (xs ++ ys) → Has objects (free + length xs) ys
has_back objects free [] ys h = subst (λ n. Has objects n ys) (let e : free ≡ free + 0 = omega arith in e) h
has_back objects free (x ∷ xs) ys h = subst (λ n. Has objects n ys) (let e : free + 1 + length xs ≡ free + suc (length xs) = omega arith in e) (has_back objects (free + 1) xs ys h.1)

-- ---- declarations

pub placed_all : (frame : ℕ) (spots : ℕ → Spot) (objects : List CoreObjectTree) (env : Environment) (os : List ObjectTree) → placed frame spots objects (all_declared env os) ≡ placed frame spots objects env
placed_all frame spots objects env [] = refl
placed_all frame spots objects env (o ∷ os) = placed_all frame spots objects (declared env o.name) os

pub file_all : (env : Environment) (os : List ObjectTree) → (all_declared env os).file ≡ env.file
file_all env [] = refl
file_all env (o ∷ os) = file_all (declared env o.name) os

pub labels_all : (scene : Scene) (os : List ObjectTree) → (scenes.all_declared scene os).labels ≡ scene.labels
labels_all scene [] = refl
labels_all scene (o ∷ os) = labels_all (scenes.declared scene o) os

module _ (homes : List Home) (here : Here) where
  pub named_declared : (o : ObjectTree) (os : List ObjectTree) (file : List Binding) (env : Environment) (scene : Scene) → HasLengths o → Awaits homes here env.next scene.next (o ∷ os) → Named homes here file env.names scene.names
      → Named homes here file (declared env o.name).names (scenes.declared scene o).names
  named_declared o os file env scene has awaits named =
      named_one homes here file env.names scene.names o.name env.next (record { cell = record { scope = scope.Call; number = scene.next }; kind = o.kind; is_array = not (length o.lengths == 0) })
      (record { lengths = lengths_in o; at = awaits.0; form = ap not (sym has) }) named

  pub named_all : (os more : List ObjectTree) (file : List Binding) (env : Environment) (scene : Scene) → Each HasLengths os → Awaits homes here env.next scene.next (os ++ more) → Named homes here file env.names scene.names
      → Named homes here file (all_declared env os).names (scenes.all_declared scene os).names
  named_all [] more file env scene has awaits named = named
  named_all (o ∷ os) more file env scene has awaits named =
      named_all os more file (declared env o.name) (scenes.declared scene o) has.1 awaits.2 (named_declared o (os ++ more) file env scene has.0 awaits named)

  pub awaits_all : (os more : List ObjectTree) (env : Environment) (scene : Scene) → Awaits homes here env.next scene.next (os ++ more) → Awaits homes here (all_declared env os).next (scenes.all_declared scene os).next more
  awaits_all [] more env scene awaits = awaits
  awaits_all (o ∷ os) more env scene awaits = awaits_all os more (declared env o.name) (scenes.declared scene o) awaits.2
