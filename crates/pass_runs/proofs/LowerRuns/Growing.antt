-- What operands hold, and how wide they are, stays as operations are added to a block.
use Rattle.std.proofs.Common.{◌≡◌, ◌∙◌, ◌<◌, ◌≤◌, ℕ, zero, suc, refl, ap, ap₂, sym, subst, arith, List, [], ◌∷◌, ◌++◌, append_assoc, map, length, length-append, Some}
use Rattle.std.specs.Prelude.{slice_get}
use Rattle.std.proofs.lemmas.List.{get_or_append_left, append-nil}
use Rattle.ir_core.specs.declared.body.Operand.{Operand}
use Rattle.ir_core.specs.declared.body.Source.{Source}
use Rattle.ir_core.specs.declared.body.Source.TheVariants as source
use Rattle.ir_core.specs.Bodies.{OpTree, Shapes, Words, Ranged, word, operand, operand_bits}
use Rattle.pass_runs.specs.LowerRuns.Early.{IsEarly, AreEarly}
use Rattle.pass_runs.specs.LowerRuns.Standing.{HasBits, Fits}

-- ---- lists

pub seam : {X : Type 0} (xs ys : List X) (y : X) → slice_get (xs ++ y ∷ ys) (length xs) ≡ Some y
seam [] ys y = refl
seam (x ∷ xs) ys y = seam xs ys y

pub get_left : {X : Type 0} (xs ys : List X) (i : ℕ) → i < length xs → slice_get (xs ++ ys) i ≡ slice_get xs i
get_left [] ys i h = absurd (omega (arith, h))
get_left (x ∷ xs) ys zero h = refl
get_left (x ∷ xs) ys (suc i) h = get_left xs ys i (omega (arith, h))

-- ---- sources

pub early_more : (m k : ℕ) → m ≤ k → (s : Source) → IsEarly m s → IsEarly k s
early_more m k le (source.Constant w) h = tt
early_more m k le (source.Variable v) h = tt
early_more m k le (source.Result op) h = omega (arith, h, le)

pub all_early_more : (m k : ℕ) → m ≤ k → (xs : List Operand) → AreEarly m xs → AreEarly k xs
all_early_more m k le [] h = tt
all_early_more m k le (x ∷ xs) h = (early_more m k le x.value h.0, all_early_more m k le xs h.1)

pub word_more : (t : Words) (results more : List ℕ) (s : Source) → IsEarly (length results) s → word t (results ++ more) s ≡ word t results s
word_more t results more (source.Constant w) h = refl
word_more t results more (source.Variable v) h = refl
word_more t results more (source.Result op) h = get_or_append_left results more 0 op.0 h

pub words_more : (t : Words) (results more : List ℕ) (xs : List Operand) → AreEarly (length results) xs → map (operand t (results ++ more)) xs ≡ map (operand t results) xs
words_more t results more [] h = refl
words_more t results more (x ∷ xs) h = ap₂ (λ w ws. w ∷ ws) (word_more t results more x.value h.0) (words_more t results more xs h.1)

module _ (shapes : Shapes) where
  pub bits_more : (ops more : List OpTree) (bits : ℕ) (s : Source) → HasBits shapes ops bits s → HasBits shapes (ops ++ more) bits s
  bits_more ops more bits (source.Constant w) h = tt
  bits_more ops more bits (source.Variable v) h = λ later d. h (more ++ later) d
  bits_more ops more bits (source.Result op) h = λ later d. ap (λ l. operand_bits shapes.widths l d (source.Result op)) (append_assoc ops more later) ∙ h (more ++ later) d

  -- Operations came behind, which left the words of memories and variables as they were.
  pub record Grows (ops : List OpTree) (r : Ranged) (ops' : List OpTree) (r' : Ranged) : Type 0 where
    pub more : List OpTree
    pub grown : ops' ≡ ops ++ more
    pub others : List ℕ
    pub same : r' ≡ record { results = r.results ++ others; words = r.words }

  pub grows_nothing : (ops : List OpTree) (r : Ranged) → Grows ops r ops r
  grows_nothing ops r = record { more = []; grown = sym (append-nil ops); others = []; same = ap (λ l. record { results = l; words = r.words }) (sym (append-nil r.results)) }

  pub grows_on : (ops ops' ops'' : List OpTree) (r r' r'' : Ranged) → Grows ops r ops' r' → Grows ops' r' ops'' r'' → Grows ops r ops'' r''
  grows_on ops ops' ops'' r r' r'' g h = record {
    more = g.more ++ h.more;
    grown = h.grown ∙ ap (λ l. l ++ h.more) g.grown ∙ append_assoc ops g.more h.more;
    others = g.others ++ h.others;
    same = h.same ∙ ap (λ (x : Ranged). record { results = x.results ++ h.others; words = x.words }) g.same ∙ ap (λ l. record { results = l; words = r.words }) (append_assoc r.results g.others h.others);
  }

  pub early_grows : (ops ops' : List OpTree) (r r' : Ranged) → Grows ops r ops' r' → (s : Source) → IsEarly (length r.results) s → IsEarly (length r'.results) s
  early_grows ops ops' r r' g s h =
      subst (λ (x : Ranged). IsEarly (length x.results) s) (sym g.same) (early_more (length r.results) (length (r.results ++ g.others)) (let e = length-append r.results g.others in omega (arith, e)) s h)

  pub word_grows : (ops ops' : List OpTree) (r r' : Ranged) → Grows ops r ops' r' → (s : Source) → IsEarly (length r.results) s → word r'.words r'.results s ≡ word r.words r.results s
  word_grows ops ops' r r' g s h = ap (λ (x : Ranged). word x.words x.results s) g.same ∙ word_more r.words r.results g.others s h

  pub bits_grow : (ops ops' : List OpTree) (r r' : Ranged) → Grows ops r ops' r' → (bits : ℕ) (s : Source) → HasBits shapes ops bits s → HasBits shapes ops' bits s
  bits_grow ops ops' r r' g bits s h = subst (λ l. HasBits shapes l bits s) (sym g.grown) (bits_more ops g.more bits s h)

  pub fits_grow : (ops ops' : List OpTree) (r r' : Ranged) → Grows ops r ops' r' → (x : Operand) (bits : ℕ) → Fits shapes ops r x bits → Fits shapes ops' r' x bits
  fits_grow ops ops' r r' g x bits h = record { early = early_grows ops ops' r r' g x.value h.early; wide = bits_grow ops ops' r r' g bits x.value h.wide }
