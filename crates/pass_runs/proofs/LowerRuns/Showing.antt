-- What the block that is open shows of a store.
use Rattle.std.proofs.Common.{◌≡◌, ◌∙◌, ℕ, zero, suc, Bool, true, false, ◌&&◌, refl, ap, ap₂, sym, subst, ℤ, pos, negsuc, List, [], ◌∷◌, map, Option, Some, None}
use Rattle.std.specs.Prelude.{slice_get, get_or, nat_lt, unsigned_abs, if◌then◌else◌}
use Rattle.c_token.specs.declared.ctype.CType.{CType}
use Rattle.c_value.specs.Values.{width}
use Rattle.c_meaning.specs.Store.{element_place, place_in_rows}
use Rattle.ir_core.specs.declared.body.Out.{Out}
use Rattle.pieces.specs.Program.{ArrayTree}
use Rattle.c_meaning.specs.PieceRuns.Values.{Store, lengths_in}
use Rattle.c_meaning.specs.PieceRuns.Pieces.{Frame}
use Rattle.ir_core.specs.Bodies.{OpTree, Ranged, is_within}
use Rattle.passes.specs.Lowering.Outs.{held}
use Rattle.pass_runs.specs.LowerRuns.OperatorWords.Words.{IsWord, NaturalsAreWords}
use Rattle.pass_runs.specs.LowerRuns.Suits.{shapes_of}
use Rattle.pass_runs.proofs.LowerRuns.Growing.{Grows, fits_grow, word_grows}
use Rattle.pass_runs.specs.LowerRuns.Showing.{ArraysShown, Shows}

module _ (f : Frame) (hidden : ℕ → Bool) where
  pub shows_grows : (outs : List Out) (ops ops' : List OpTree) (r r' : Ranged) (s : Store) → Grows (shapes_of f) ops r ops' r' → Shows f hidden outs ops r s → Shows f hidden outs ops' r' s
  shows_grows outs ops ops' r r' s g h = record {
    fits = λ i k e. fits_grow (shapes_of f) ops ops' r r' g (held outs i) (width k) (h.fits i k e);
    variables = λ i k e apart. subst (λ w. IsWord k (s.variables i.0) w) (sym (word_grows (shapes_of f) ops ops' r r' g (held outs i).value (h.fits i k e).early)) (h.variables i k e apart);
    arrays = subst (λ (x : Ranged). ArraysShown f x.words.memories s.elements) (sym g.same) h.arrays;
  }

-- ---- subscripts

pub dims_same : (arrays : List ArrayTree) (a : ℕ) → get_or (map (λ (x : ArrayTree). x.lengths) arrays) a [] ≡ lengths_in (slice_get arrays a)
dims_same [] a = refl
dims_same (x ∷ xs) zero = refl
dims_same (x ∷ xs) (suc a) = dims_same xs a

-- these are the words of numbers
abbrev pub AreWords : List ℕ → List ℤ → Type 0
AreWords [] [] = Unit {0}
AreWords (w ∷ ws) (v ∷ vs) = ((k : CType) × IsWord k v w) × AreWords ws vs
AreWords ws vs = ⊥

pub record Placed (len : ℕ) (dims : List ℕ) (v : ℤ) (vs : List ℤ) : Type 0 where
  pub here : (n : ℕ) × (v ≡ pos n) × (nat_lt n len ≡ true)
  pub rest : (i : ℕ) × (element_place dims vs ≡ Some i)

some_of : (b : Bool) (n i : ℕ) → (if b then Some n else None) ≡ Some i → b ≡ true
some_of true n i e = refl
some_of false n i e = absurd cc

pub placed : (len : ℕ) (dims : List ℕ) (v : ℤ) (vs : List ℤ) (i : ℕ) → element_place (len ∷ dims) (v ∷ vs) ≡ Some i → Placed len dims v vs
placed len dims (negsuc n) vs i e = absurd cc
placed len dims (pos n) vs i e = at (nat_lt n len) refl (element_place dims vs) refl where
  at : (b : Bool) → nat_lt n len ≡ b → (o : Option ℕ) → element_place dims vs ≡ o → Placed len dims (pos n) vs
  at false e1 o e2 = absurd (none (ap (λ b. place_in_rows (if b then Some n else None) dims (element_place dims vs)) (sym e1) ∙ e)) where
    none : None ≡ Some i → ⊥
    none h = cc
  at true e1 None e2 = absurd (none (ap₂ (λ b o. place_in_rows (if b then Some n else None) dims o) (sym e1) (sym e2) ∙ e)) where
    none : None ≡ Some i → ⊥
    none h = cc
  at true e1 (Some j) e2 = record { here = (n, refl, e1); rest = (j, e2) }

module _ (natural : NaturalsAreWords) where
  -- Subscripts that are within their dimensions are so as words.
  pub within_dims : (dims ws : List ℕ) (vs : List ℤ) (i : ℕ) → AreWords ws vs → element_place dims vs ≡ Some i → is_within dims ws ≡ true
  within_dims [] ws vs i are e = refl
  within_dims (len ∷ dims) [] [] i are e = refl
  within_dims (len ∷ dims) [] (v ∷ vs) i are e = absurd are
  within_dims (len ∷ dims) (w ∷ ws) [] i are e = absurd are
  within_dims (len ∷ dims) (w ∷ ws) (v ∷ vs) i are e =
      let p = placed len dims v vs i e in
      let same : w ≡ p.here.0 = natural are.0.0 p.here.0 w (subst (λ n. IsWord are.0.0 n w) p.here.1 are.0.1) in
      ap (λ n. nat_lt n len && is_within dims ws) same ∙ ap (λ b. b && is_within dims ws) p.here.2 ∙ within_dims dims ws vs p.rest.0 are.1 p.rest.1

  pub words_are : (dims ws : List ℕ) (vs : List ℤ) (i : ℕ) → AreWords ws vs → element_place dims vs ≡ Some i → ws ≡ map unsigned_abs vs
  words_are [] [] [] i are e = refl
  words_are [] [] (v ∷ vs) i are e = absurd are
  words_are [] (w ∷ ws) [] i are e = absurd are
  words_are [] (w ∷ ws) (v ∷ vs) i are e = absurd cc
  words_are (len ∷ dims) [] [] i are e = refl
  words_are (len ∷ dims) [] (v ∷ vs) i are e = absurd are
  words_are (len ∷ dims) (w ∷ ws) [] i are e = absurd are
  words_are (len ∷ dims) (w ∷ ws) (v ∷ vs) i are e =
      let p = placed len dims v vs i e in
      let same : w ≡ p.here.0 = natural are.0.0 p.here.0 w (subst (λ n. IsWord are.0.0 n w) p.here.1 are.0.1) in
      ap₂ (λ n ns. n ∷ ns) (same ∙ ap unsigned_abs (sym p.here.1)) (words_are dims ws vs p.rest.0 are.1 p.rest.1)
