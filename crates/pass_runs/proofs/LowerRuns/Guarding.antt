-- Guards: the bit of the innermost one tells whether control comes to what is guarded.
use Rattle.std.proofs.Common.{◌≡◌, ◌∙◌, ℕ, Bool, true, false, not, ◌&&◌, refl, ap, sym, subst, arith, List, [], ◌∷◌, Option, Some, None, if◌then◌else◌}
use Rattle.std.specs.Prelude.{bit_and}
use Rattle.std.proofs.lemmas.Nat.{and_le_l}
use Rattle.std.specs.Prelude.{◌==◌, pos}
use Rattle.ir_core.specs.declared.body.OpKind.TheVariants as o
use Rattle.ir_core.specs.declared.body.Operand.{Operand}
use Rattle.ir_core.specs.Value as op
use Rattle.ir_core.specs.Bodies.{OpTree, Shapes, Words, Ranged, operand, is_allowed}
use Rattle.passes.specs.Lowering.Operations.{Emitted, added, gives, plain}
use Rattle.passes.specs.Lowering.Guards.{Guard, Guarded, guarded, bit_of, own_bit, under}
use Rattle.pass_runs.proofs.LowerRuns.Growing.{Grows, grows_nothing, grows_on, fits_grow, word_grows}
use Rattle.pass_runs.proofs.LowerRuns.Adding.{adds, adds_nothing}
use Rattle.pass_runs.proofs.LowerRuns.Converting.{bit, Makes, makes_on}
use Rattle.pass_runs.specs.LowerRuns.Standing.{Stands, Fits}

-- all guards hold, of which these do
abbrev pub all_hold : List Bool → Bool
all_hold [] = true
all_hold (h ∷ hs) = all_hold hs && h

pub and_bit : (a h : Bool) (w : ℕ) → (a ≡ true → w ≡ bit h) → op.value o.And false 1 0 (bit a ∷ w ∷ []) ≡ bit (a && h)
and_bit false h w e = let least = and_le_l 0 w in let none : bit_and 0 w ≡ 0 = omega (arith, least) in ap (λ n. op.pattern 1 (pos n)) none
and_bit true h w e = ap (λ n. op.value o.And false 1 0 (1 ∷ n ∷ [])) (e refl) ∙ each h where
  each : (h : Bool) → op.value o.And false 1 0 (1 ∷ bit h ∷ []) ≡ bit h
  each true = refl
  each false = refl

pub not_bit : (h : Bool) (w : ℕ) → w ≡ bit (not h) → op.value o.Not false 1 0 (w ∷ []) ≡ bit h
not_bit true w e = ap (λ n. op.value o.Not false 1 0 (n ∷ [])) e
not_bit false w e = ap (λ n. op.value o.Not false 1 0 (n ∷ [])) e

module _ (shapes : Shapes) (t : Words) where
  -- the bit of a guard, where it has one, tells whether it and all outside hold
  abbrev pub MadeIs : List OpTree → Ranged → Option Operand → Bool → Type 0
  MadeIs ops r None h = Unit {0}
  MadeIs ops r (Some x) h = Fits shapes ops r x 1 × (operand r.words r.results x ≡ bit h)

  -- the test tells whether the guard holds, where all outside hold
  abbrev pub TestIs : Ranged → Guard → Bool → Bool → Type 0
  TestIs r g outside h = outside ≡ true → operand r.words r.results g.test ≡ bit (if g.holds then h else not h)

  -- these guards hold or not
  abbrev pub Under : List OpTree → Ranged → List Guard → List Bool → Type 0
  Under ops r [] [] = Unit {0}
  Under ops r (g ∷ gs) (h ∷ hs) = Under ops r gs hs × Fits shapes ops r g.test 1 × TestIs r g (all_hold hs) h × MadeIs ops r g.made (all_hold hs && h)
  Under ops r gs hs = ⊥

  module _ (ops ops' : List OpTree) (r r' : Ranged) (grows : Grows shapes ops r ops' r') where
    pub made_grows : (x : Option Operand) (h : Bool) → MadeIs ops r x h → MadeIs ops' r' x h
    made_grows None h is_ = tt
    made_grows (Some x) h is_ = (fits_grow shapes ops ops' r r' grows x 1 is_.0, word_grows shapes ops ops' r r' grows x.value is_.0.early ∙ is_.1)

    pub under_grows : (gs : List Guard) (hs : List Bool) → Under ops r gs hs → Under ops' r' gs hs
    under_grows [] [] h = tt
    under_grows (g ∷ gs) (b ∷ hs) h = (
      under_grows gs hs h.0,
      fits_grow shapes ops ops' r r' grows g.test 1 h.1,
      λ all. word_grows shapes ops ops' r r' grows g.test.value h.1.early ∙ h.2 all,
      made_grows g.made (all_hold hs && b) h.3,
    )
    under_grows [] (b ∷ hs) h = absurd h
    under_grows (g ∷ gs) [] h = absurd h

  -- the bit of all guards, if there is one
  abbrev pub BitIs : List OpTree → Ranged → Option Operand → Bool → Type 0
  BitIs ops r None h = h ≡ true
  BitIs ops r (Some x) h = Fits shapes ops r x 1 × (operand r.words r.results x ≡ bit h)

  pub record Guards (ops : List OpTree) (r : Ranged) (hs : List Bool) (x : Guarded) : Type 0 where
    pub next : Ranged
    pub stands : Stands shapes t x.ops next
    pub grows : Grows shapes ops r x.ops next
    pub under : Under x.ops next x.guards hs
    pub bit_is : BitIs x.ops next x.bit (all_hold hs)

  own_makes : (ops : List OpTree) (r : Ranged) (g : Guard) (h outside : Bool) → Stands shapes t ops r → Fits shapes ops r g.test 1 → TestIs r g outside h
      → Makes shapes t ops r (own_bit ops g) 1 (λ w. outside ≡ true → w ≡ bit h)
  own_makes ops r g h outside stands fits is_ = either g.holds (λ b. is_ b) where
    x : Operand
    x = g.test

    either : (b : Bool) → (outside ≡ true → operand r.words r.results x ≡ bit (if b then h else not h)) → Makes shapes t ops r (if b then gives ops x else added ops (plain o.Not 1 (x ∷ []))) 1 (λ w. outside ≡ true → w ≡ bit h)
    either true e = (operand r.words r.results x, adds_nothing shapes t ops r x 1 stands fits, e)
    either false e = (
      op.value o.Not false 1 0 (operand r.words r.results x ∷ []),
      adds shapes t ops r (plain o.Not 1 (x ∷ [])) (op.value o.Not false 1 0 (operand r.words r.results x ∷ [])) stands (λ later. refl),
      λ b. not_bit h (operand r.words r.results x) (e b),
    )

  under_makes : (ops : List OpTree) (r : Ranged) (bit_ : Option Operand) (own : Emitted) (h outside : Bool) → BitIs ops r bit_ outside → Makes shapes t ops r own 1 (λ w. outside ≡ true → w ≡ bit h)
      → Makes shapes t ops r (under bit_ own) 1 (λ w. w ≡ bit (outside && h))
  under_makes ops r None own h outside is_ made = (made.0, made.1, subst (λ b. made.0 ≡ bit (b && h)) (sym is_) (made.2 is_))
  under_makes ops r (Some x) own h outside is_ made =
      let a = made.1 in
      let wx = operand a.next.words a.next.results x in
      let wy = operand a.next.words a.next.results own.operand in
      let w = op.value o.And false 1 0 (wx ∷ wy ∷ []) in
      let b = adds shapes t own.ops a.next (plain o.And 1 (x ∷ own.operand ∷ [])) w a.stands (λ later. refl) in
      let outer : wx ≡ bit outside = word_grows shapes ops own.ops r a.next a.grows x.value is_.0.early ∙ is_.1 in (
        w,
        makes_on shapes t ops r own (added own.ops (plain o.And 1 (x ∷ own.operand ∷ []))) 1 1 made.0 w a b,
        ap (λ n. op.value o.And false 1 0 (n ∷ wy ∷ [])) outer ∙ and_bit outside h wy (λ e. a.holds ∙ made.2 e),
      )

  bit_makes : (ops : List OpTree) (r : Ranged) (bit_ : Option Operand) (g : Guard) (h outside : Bool) (made : Option Operand) → Stands shapes t ops r → BitIs ops r bit_ outside → Fits shapes ops r g.test 1 → TestIs r g outside h
      → MadeIs ops r made (outside && h) → Makes shapes t ops r (bit_of ops bit_ g made) 1 (λ w. w ≡ bit (outside && h))
  bit_makes ops r bit_ g h outside None stands is_ fits test made = under_makes ops r bit_ (own_bit ops g) h outside is_ (own_makes ops r g h outside stands fits test)
  bit_makes ops r bit_ g h outside (Some x) stands is_ fits test made = (operand r.words r.results x, adds_nothing shapes t ops r x 1 stands made.0, made.1)

  pub guarded_makes : (ops : List OpTree) (r : Ranged) (gs : List Guard) (hs : List Bool) → Stands shapes t ops r → Under ops r gs hs → Guards ops r hs (guarded ops gs)
  guarded_makes ops r [] [] stands h = record { next = r; stands = stands; grows = grows_nothing shapes ops r; under = tt; bit_is = refl }
  guarded_makes ops r (g ∷ gs) (b ∷ hs) stands h =
      let around = guarded ops gs in
      let outer = guarded_makes ops r gs hs stands h.0 in
      let test = fits_grow shapes ops around.ops r outer.next outer.grows g.test 1 h.1 in
      let test_is : TestIs outer.next g (all_hold hs) b = λ all. word_grows shapes ops around.ops r outer.next outer.grows g.test.value h.1.early ∙ h.2 all in
      let made = bit_makes around.ops outer.next around.bit g b (all_hold hs) g.made outer.stands outer.bit_is test test_is (made_grows ops around.ops r outer.next outer.grows g.made (all_hold hs && b) h.3) in
      let x = bit_of around.ops around.bit g g.made in
      let a = made.1 in record {
        next = a.next;
        stands = a.stands;
        grows = grows_on shapes ops around.ops x.ops r outer.next a.next outer.grows a.grows;
        under = (
          under_grows around.ops x.ops outer.next a.next a.grows around.guards hs outer.under,
          fits_grow shapes around.ops x.ops outer.next a.next a.grows g.test 1 test,
          λ all. word_grows shapes around.ops x.ops outer.next a.next a.grows g.test.value test.early ∙ test_is all,
          (a.fits, a.holds ∙ made.2),
        );
        bit_is = (a.fits, a.holds ∙ made.2);
      }
  guarded_makes ops r [] (b ∷ hs) stands h = absurd h
  guarded_makes ops r (g ∷ gs) [] stands h = absurd h

  bit_allows : (b : Bool) (w : ℕ) → w ≡ bit b → not (w == 0) ≡ b
  bit_allows true w e = ap (λ n. not (n == 0)) e
  bit_allows false w e = ap (λ n. not (n == 0)) e

  pub allows : (ops : List OpTree) (r : Ranged) (x : Option Operand) (h : Bool) → BitIs ops r x h → is_allowed r.words r.results x ≡ h
  allows ops r None h is_ = sym is_
  allows ops r (Some x) h is_ = bit_allows h (operand r.words r.results x) is_.1
