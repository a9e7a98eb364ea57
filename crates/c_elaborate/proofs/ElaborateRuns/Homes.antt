-- Objects and their homes: reads and writes.
use Rattle.std.proofs.Common.{◌≡◌, ◌≢◌, ◌⊎◌, ◌&&◌, ◌==◌, ℕ, zero, suc, ◌∙◌, sym, refl, ap, ap₂, subst, inl, inr, Bool, true, false, if◌then◌else◌, ℤ, List, [], ◌∷◌, map, Some, option_map, slice_get, slice_set}
use Rattle.std.proofs.lemmas.Option.{same_Some, slice_get-map}
use Rattle.std.proofs.lemmas.Bool.{eq-eqb}
use Rattle.std.proofs.lemmas.Bool.Decides.{eqb_tells}
use Rattle.c_meaning.specs.Store.{Object, State, changed, with_element, write_element, forgotten, forget}
use Rattle.c_meaning.specs.CoreRuns.Cells.{Spot, spot, is_spot, Cells, put}
use Rattle.c_meaning.specs.CoreRuns.Expressions.{written}
use Rattle.c_elaborate.specs.Homes.{Each, Home, held, IsShaped, Alike, IsElsewhere, IsDistinct}
use Rattle.c_elaborate.proofs.ElaborateRuns.Lists.{each-more, each-get, map-each}

-- ---- one spot

same_spot : (x : Spot) → is_spot x x ≡ true
same_spot x = ap₂ ◌&&◌ (eq-eqb x.frame x.frame refl) (eq-eqb x.number x.number refl)

pub put_here : (t : Cells) (x : Spot) (o : Object) → put t x o x ≡ o
put_here t x o = ap (λ b. if b then o else t x) (same_spot x)

no_spot : (a b : Bool) → (a ≡ false) ⊎ (b ≡ false) → a && b ≡ false
no_spot true true h = elim h [ inl e ↦ e | inr e ↦ e ]
no_spot true false h = refl
no_spot false b h = refl

pub spot_tells : (x y : Spot) → (x ≡ y) ⊎ (x ≢ y)
spot_tells x y =
    elim (eqb_tells x.frame y.frame) [
      | inr e ↦ inr (λ p. e.1 (ap (λ (z : Spot). z.frame) p))
      | inl e ↦ elim (eqb_tells x.number y.number) [ inr f ↦ inr (λ p. f.1 (ap (λ (z : Spot). z.number) p)) | inl f ↦ inl (ap₂ spot e.1 f.1) ]
    ]

pub put_other : (t : Cells) (x y : Spot) (o : Object) → x ≢ y → put t x o y ≡ t y
put_other t x y o h =
    ap (λ b. if b then o else t y) (no_spot (x.frame == y.frame) (x.number == y.number)
    (elim (eqb_tells x.frame y.frame) [
      | inr e ↦ inl e.0
      | inl e ↦ elim (eqb_tells x.number y.number) [ inr f ↦ inr f.0 | inl f ↦ absurd (h (ap₂ spot e.1 f.1)) ]
    ]))

-- ---- reads

pub read_alike : (homes : List Home) (s : List Object) (t : Cells) (i : ℕ) (h : Home) → Alike homes s t → slice_get homes i ≡ Some h → slice_get s i ≡ Some (t h.spot)
read_alike homes s t i h a at = ap (λ l. slice_get l i) a.0 ∙ (slice_get-map (held t) homes i ∙ ap (option_map (held t)) at)

pub kind_alike : (homes : List Home) (s : List Object) (t : Cells) (i : ℕ) (h : Home) → Alike homes s t → slice_get homes i ≡ Some h → (t h.spot).kind ≡ h.kind
kind_alike homes s t i h a at = (each-get (IsShaped t) homes i h a.1 at).0

pub lengths_alike : (homes : List Home) (s : List Object) (t : Cells) (i : ℕ) (h : Home) → Alike homes s t → slice_get homes i ≡ Some h → (t h.spot).lengths ≡ h.lengths
lengths_alike homes s t i h a at = (each-get (IsShaped t) homes i h a.1 at).1

-- ---- writes

pub put_aside : (homes : List Home) (t : Cells) (x : Spot) (o : Object) → Each (IsElsewhere x) homes → map (held (put t x o)) homes ≡ map (held t) homes
put_aside homes t x o h = map-each (held (put t x o)) (held t) homes (each-more (IsElsewhere x) (λ y. held (put t x o) y ≡ held t y) homes (λ y ne. put_other t x y.spot o (λ e. ne (sym e))) h)

put_one : (homes : List Home) (t : Cells) (i : ℕ) (h : Home) (o : Object) → IsDistinct homes → slice_get homes i ≡ Some h → slice_set (map (held t) homes) i o ≡ map (held (put t h.spot o)) homes
put_one [] t i h o d at = refl
put_one (g ∷ gs) t zero h o d at =
    subst (λ (z : Home). o ∷ map (held t) gs ≡ held (put t z.spot o) g ∷ map (held (put t z.spot o)) gs) (same_Some g h at) (ap₂ ◌∷◌ (sym (put_here t g.spot o)) (sym (put_aside gs t g.spot o d.0)))
put_one (g ∷ gs) t (suc i) h o d at =
    ap₂ ◌∷◌ (sym (put_other t h.spot g.spot o (each-get (IsElsewhere g.spot) gs i h d.0 at))) (put_one gs t i h o d.1 at)

-- an object of the same shape in its place
abbrev SameShape : Object → Object → Type 0
SameShape o p = (o.kind ≡ p.kind) × (o.lengths ≡ p.lengths)

shape_kept : (t : Cells) (x : Spot) (o : Object) → SameShape o (t x) → (y : Spot) → SameShape (put t x o y) (t y)
shape_kept t x o h y = elim (spot_tells x y) [
  | inl e ↦ subst (λ z. SameShape (put t x o z) (t z)) e (ap (λ (p : Object). p.kind) (put_here t x o) ∙ h.0, ap (λ (p : Object). p.lengths) (put_here t x o) ∙ h.1)
  | inr ne ↦ (ap (λ (p : Object). p.kind) (put_other t x y o ne), ap (λ (p : Object). p.lengths) (put_other t x y o ne))
]

shaped_kept : (t : Cells) (x : Spot) (o : Object) → SameShape o (t x) → (h : Home) → IsShaped t h → IsShaped (put t x o) h
shaped_kept t x o same h is = let k = shape_kept t x o same h.spot in (k.0 ∙ is.0, k.1 ∙ is.1)

pub changed_alike : (f : Object → Object) → ((o : Object) → SameShape (f o) o) → (homes : List Home) (s : List Object) (t : Cells) (i : ℕ) (h : Home) → IsDistinct homes → slice_get homes i ≡ Some h
    → Alike homes s t → Alike homes (changed f s i (slice_get s i)) (put t h.spot (f (t h.spot)))
changed_alike f keeps homes s t i h d at a = (
  ap (changed f s i) (read_alike homes s t i h a at) ∙ (ap (λ l. slice_set l i (f (t h.spot))) a.0 ∙ put_one homes t i h (f (t h.spot)) d at),
  each-more (IsShaped t) (IsShaped (put t h.spot (f (t h.spot)))) homes (shaped_kept t h.spot (f (t h.spot)) (keeps (t h.spot))) a.1,
)

pub write_alike : (homes : List Home) (s : State) (t : Cells) (i : ℕ) (h : Home) (element : ℕ) (v : ℤ) → IsDistinct homes → slice_get homes i ≡ Some h
    → Alike homes s.objects t → Alike homes (write_element s i element v).objects (written h.spot element v t)
write_alike homes s t i h element v d at a = changed_alike (with_element element v) (λ o. (refl, refl)) homes s.objects t i h d at a

pub forget_alike : (homes : List Home) (s : State) (t : Cells) (i : ℕ) (h : Home) → IsDistinct homes → slice_get homes i ≡ Some h
    → Alike homes s.objects t → Alike homes (forget s i).objects (put t h.spot (forgotten (t h.spot)))
forget_alike homes s t i h d at a = changed_alike forgotten (λ o. (refl, refl)) homes s.objects t i h d at a
