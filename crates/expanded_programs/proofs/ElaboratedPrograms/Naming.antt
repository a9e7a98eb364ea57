-- What the names that are visible at a place stand for in the core program.
use Rattle.std.proofs.Common.{◌≡◌, ℕ, ◌<◌, ◌≤◌, ◌==◌, ◌⊎◌, inl, inr, not, ◌∙◌, sym, refl, ap, subst, Bool, true, false, true≢false, bytes_eq, List, [], ◌∷◌, length, slice_get, Option, Some, arith, if◌then◌else◌}
use Rattle.std.proofs.lemmas.Bool.{eqb-true}
use Rattle.std.proofs.lemmas.Option.{same_Some}
use Rattle.std.proofs.lemmas.Slice.Eq.{bytes_eq-Decides}
use Rattle.c_token.specs.declared.ctype.CType.{CType}
use Rattle.c_tree.specs.Tree.{ObjectTree}
use Rattle.c_meaning.specs.Checks.Names.{Shape, object, Declared, sense_of}
use Rattle.c_meaning.specs.Checks.Lengths.{shape_of}
use Rattle.c_meaning.specs.Checks.Statements.{with_object}
use Rattle.c_meaning.specs.Store.{lengths_in}
use Rattle.pieces.specs.declared.resolved.expression.Cell.{Cell}
use Rattle.pieces.specs.declared.resolved.expression.Scope.{Scope}
use Rattle.pieces.specs.declared.resolved.expression.Scope.TheVariants as scope
use Rattle.pieces.specs.Resolved.Core.{FileObjectTree}
use Rattle.c_elaborate.specs.declared.names.Known.{Known}
use Rattle.c_elaborate.specs.declared.names.Binding.{Binding}
use Rattle.c_elaborate.specs.Names.{object_found, binding_of, cell_of}
use Rattle.c_elaborate.specs.Objects.{object_elaborated}
use Rattle.c_elaborate.specs.Resolved.{HasLengths}
use Rattle.expand_runs.specs.Laws.{OneOf}
use Rattle.expanded_programs.specs.Statements.Scopes.{Setting, Reach, IsScalar, IsArray, ScalarIn, ArrayIn}

-- ---- one name

-- It stands for a scalar or an array of its type.
abbrev pub Stands : Setting → Reach → Known → Type 0
Stands S r known = OneOf known.is_array (ArrayIn S r known.cell.scope known.cell.number known.kind) (ScalarIn S r known.cell.scope known.cell.number known.kind)

-- no const object of file scope
abbrev pub MayChange : Setting → Scope → ℕ → Type 0
MayChange S scope.File i = (o : FileObjectTree) → slice_get S.file i ≡ Some o → o.object.constant ≡ false
MayChange S scope.Call i = Unit {0}

abbrev pub IsLow : ℕ → Scope → ℕ → Type 0
IsLow n scope.File i = Unit {0}
IsLow n scope.Call i = i < n

-- ---- all names

abbrev pub Standing : Setting → Reach → List Binding → Type 0
Standing S r rs = (text : List ℕ) (known : Known) → object_found text rs ≡ Some known → Stands S r known

abbrev pub Changeable : Setting → List Declared → List Binding → Type 0
Changeable S names rs = (text : List ℕ) (shape : Shape) (known : Known) → sense_of text names ≡ Some (object shape) → shape.constant ≡ false → object_found text rs ≡ Some known → MayChange S known.cell.scope known.cell.number

-- Different names stand for different objects.
abbrev pub Apart : List Binding → Type 0
Apart rs = (text other : List ℕ) (known second : Known) → object_found text rs ≡ Some known → object_found other rs ≡ Some second → known.cell ≡ second.cell → text ≡ other

-- Those of the call have numbers below this one.
abbrev pub AreLow : ℕ → List Binding → Type 0
AreLow n rs = (text : List ℕ) (known : Known) → object_found text rs ≡ Some known → IsLow n known.cell.scope known.cell.number

-- ---- more that is reached

pub record IsMore (r : Reach) (more : Reach) : Type 0 where
  pub lives : (i : ℕ) → r.Lives i → more.Lives i
  pub ready : (i : ℕ) → r.Ready i → more.Ready i

module _ (S : Setting) (r more : Reach) (m : IsMore r more) where
  scalar_more : (s : Scope) (i : ℕ) (k : CType) → ScalarIn S r s i k → ScalarIn S more s i k
  scalar_more scope.File i k h = h
  scalar_more scope.Call i k h = (h.0, h.1, h.2, h.3, m.lives i h.4)

  array_more : (s : Scope) (i : ℕ) (k : CType) → ArrayIn S r s i k → ArrayIn S more s i k
  array_more scope.File i k h = h
  array_more scope.Call i k h = (h.0, h.1, h.2, h.3, elim h.4 [ inl lt ↦ inl lt | inr q ↦ inr (q.0, m.lives i q.1, m.ready i q.2) ])

  stands_more : (known : Known) → Stands S r known → Stands S more known
  stands_more known h = by known.is_array h
    where
      by : (y : Bool) → OneOf y (ArrayIn S r known.cell.scope known.cell.number known.kind) (ScalarIn S r known.cell.scope known.cell.number known.kind)
          → OneOf y (ArrayIn S more known.cell.scope known.cell.number known.kind) (ScalarIn S more known.cell.scope known.cell.number known.kind)
      by true g = array_more known.cell.scope known.cell.number known.kind g
      by false g = scalar_more known.cell.scope known.cell.number known.kind g

  pub standing_more : (rs : List Binding) → Standing S r rs → Standing S more rs
  standing_more rs h text known e = stands_more known (h text known e)

low_more : (n m : ℕ) (s : Scope) (i : ℕ) → n ≤ m → IsLow n s i → IsLow m s i
low_more n m scope.File i le h = h
low_more n m scope.Call i le h = omega (arith, le, h)

pub all_low_more : (n m : ℕ) (rs : List Binding) → n ≤ m → AreLow n rs → AreLow m rs
all_low_more n m rs le h text known e = low_more n m known.cell.scope known.cell.number le (h text known e)

-- ---- one name more

pub no_lengths : (ls : List ℕ) → length ls == 0 ≡ true → ls ≡ []
no_lengths [] e = refl
no_lengths (l ∷ ls) e = let none : length (l ∷ ls) ≡ 0 = eqb-true (length (l ∷ ls)) 0 e in absurd (omega (arith, none))

pub some_lengths : (ls : List ℕ) → length ls == 0 ≡ false → ls ≡ [] → ⊥
some_lengths ls e is = true≢false (sym (ap (λ l. length l == 0) is) ∙ e)

either : {A : Type 0} (P : A → Type 0) (x known : A) (q : Option A) (y : Bool) → P x → (q ≡ Some known → P known) → (if y then Some x else q) ≡ Some known → P known
either P x known q true here others e = subst P (same_Some x known e) here
either P x known q false here others e = others e

pub standing_new : (S : Setting) (r : Reach) (rs : List Binding) (b : Binding) → Stands S r b.object → Standing S r rs → Standing S r (b ∷ rs)
standing_new S r rs b here h text known e = either (Stands S r) b.object known (object_found text rs) (bytes_eq text b.name) here (h text known) e

pub low_new : (n : ℕ) (rs : List Binding) (b : Binding) → IsLow n b.object.cell.scope b.object.cell.number → AreLow n rs → AreLow n (b ∷ rs)
low_new n rs b here h text known e = either (λ (k : Known). IsLow n k.cell.scope k.cell.number) b.object known (object_found text rs) (bytes_eq text b.name) here (h text known) e

pub apart_new : (rs : List Binding) (b : Binding) → ((text : List ℕ) (known : Known) → object_found text rs ≡ Some known → known.cell ≡ b.object.cell → ⊥) → Apart rs → Apart (b ∷ rs)
apart_new rs b fresh h text other known second = by (bytes_eq text b.name) (bytes_eq other b.name) refl refl
  where
    by : (y z : Bool) → bytes_eq text b.name ≡ y → bytes_eq other b.name ≡ z → (if y then Some b.object else object_found text rs) ≡ Some known → (if z then Some b.object else object_found other rs) ≡ Some second
        → known.cell ≡ second.cell → text ≡ other
    by true true p q e f c = (bytes_eq-Decides text b.name).0 p ∙ sym ((bytes_eq-Decides other b.name).0 q)
    by true false p q e f c = absurd (fresh other second f (sym c ∙ sym (ap (λ (k : Known). k.cell) (same_Some b.object known e))))
    by false true p q e f c = absurd (fresh text known e (c ∙ sym (ap (λ (k : Known). k.cell) (same_Some b.object second f))))
    by false false p q e f c = h text other known second e f c

pub object_shapes : (s t : Shape) → Some (object s) ≡ Some (object t) → s ≡ t
object_shapes s t h = let e : s ≡ t = cc in e

pub changeable_new : (S : Setting) (names : List Declared) (rs : List Binding) (o : ObjectTree) (cell : Cell) → (o.constant ≡ false → MayChange S cell.scope cell.number) → Changeable S names rs → Changeable S (with_object o names) (binding_of o cell ∷ rs)
changeable_new S names rs o cell here h text shape known = by (bytes_eq text o.name)
  where
    by : (y : Bool) → (if y then Some (object (shape_of o)) else sense_of text names) ≡ Some (object shape) → shape.constant ≡ false → (if y then Some (binding_of o cell).object else object_found text rs) ≡ Some known
        → MayChange S known.cell.scope known.cell.number
    by true e c f =
        let same : shape_of o ≡ shape = object_shapes (shape_of o) shape e in
        subst (λ (k : Known). MayChange S k.cell.scope k.cell.number) (same_Some (binding_of o cell).object known f) (here (ap (λ (s : Shape). s.constant) same ∙ c))
    by false e c f = h text shape known e c f

-- ---- objects of the call

-- An object with a number that no name has yet is another one.
pub fresh_cell : (n : ℕ) (rs : List Binding) → AreLow n rs → (text : List ℕ) (known : Known) → object_found text rs ≡ Some known → known.cell ≡ cell_of scope.Call n → ⊥
fresh_cell n rs low text known e c =
    let h : IsLow n scope.Call n = subst (λ (x : Cell). IsLow n x.scope x.number) c (low text known e) in
    absurd (omega (arith, h))

pub is_scalar : (o : ObjectTree) → HasLengths o → length o.lengths == 0 ≡ true → IsScalar (object_elaborated o)
is_scalar o has e = no_lengths (lengths_in o) (has ∙ e)

pub is_array : (o : ObjectTree) → HasLengths o → length o.lengths == 0 ≡ false → IsArray (object_elaborated o)
is_array o has e = some_lengths (lengths_in o) (has ∙ e)

pub stands_new : (S : Setting) (r : Reach) (o : ObjectTree) (i : ℕ) → HasLengths o → slice_get S.objects i ≡ Some (object_elaborated o) → (IsScalar (object_elaborated o) → r.Lives i) → ((i < S.params) ⊎ ((S.params ≤ i) × r.Lives i × r.Ready i))
    → Stands S r (binding_of o (cell_of scope.Call i)).object
stands_new S r o i has at lives ready = by (length o.lengths == 0) refl
  where
    by : (y : Bool) → length o.lengths == 0 ≡ y → OneOf (not y) (ArrayIn S r scope.Call i o.kind) (ScalarIn S r scope.Call i o.kind)
    by true e = let s = is_scalar o has e in (object_elaborated o, at, s, refl, lives s)
    by false e = (object_elaborated o, at, is_array o has e, refl, ready)
