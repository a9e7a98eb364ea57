-- Values depend on what is read alone.
use Rattle.std.proofs.Common.{◌≡◌, ℕ, ◌∙◌, refl, ap, Bool, true, false, ◌||◌, Option, Some, None, List, ◌∷◌, if◌then◌else◌}
use Rattle.hls_base.specs.declared.place.Place.{Place}
use Rattle.c_value.specs.Values.{convert}
use Rattle.c_value.specs.Operators.{is_true, unary_value}
use Rattle.pieces.specs.Trees as tree
use Rattle.pieces.specs.Trees.{PureTree, PureTrees}
use Rattle.pieces.specs.Kind.{kind}
use Rattle.pieces.specs.Program.{ArrayTree}
use Rattle.piece_making.specs.Saving.{has_element}
use Rattle.hls_base.specs.Valued.{Valued, is, faulty, and_then}
use Rattle.c_meaning.specs.PieceRuns.Values.{Store, computed, element_number, element_at, joined, value, values}
use Rattle.expand_runs.specs.Reading.{AllRead, EachReads}

pub and_then_each : {A B : Type 0} (r : Valued A) (f g : A → Valued B) → ((x : A) → f x ≡ g x) → and_then r f ≡ and_then r g
and_then_each (is x) f g h = h x
and_then_each (faulty rule at) f g h = refl

pub or_left : (a b : Bool) → a ≡ true → a || b ≡ true
or_left a b e = ap (λ z. z || b) e

pub or_right : (a b : Bool) → b ≡ true → a || b ≡ true
or_right true b e = refl
or_right false b e = e

pub element_agrees : (array : ℕ) (o : Option ℕ) (at : Place) (t t' : Store) → ((a i : ℕ) → t'.elements a i ≡ t.elements a i) → element_at array o at t' ≡ element_at array o at t
element_agrees array None at t t' h = refl
element_agrees array (Some i) at t t' h = ap is (h array i)

module _ (arrays : List ArrayTree) (P : ℕ → Type 0) (t t' : Store) (same : (i : ℕ) → P i → t'.variables i ≡ t.variables i) where
  mutual
    -- Two stores give the same value where the variables that are read hold the same, and, if elements are read, all elements do.
    pub value_agrees : (x : PureTree) → AllRead P x → (has_element x ≡ true → (a i : ℕ) → t'.elements a i ≡ t.elements a i) → value arrays x t' ≡ value arrays x t
    value_agrees (tree.number v k) p e = refl
    value_agrees (tree.variable name k) p e = ap is (same name.0 p)
    value_agrees (tree.element array subscripts k at) p e =
        and_then_each (values arrays subscripts t') (λ is_. element_at array.0 (element_number arrays array.0 is_) at t') (λ is_. element_at array.0 (element_number arrays array.0 is_) at t)
        (λ is_. element_agrees array.0 (element_number arrays array.0 is_) at t t' (e refl))
        ∙ ap (λ r. and_then r (λ is_. element_at array.0 (element_number arrays array.0 is_) at t)) (values_agree subscripts p (e refl))
    value_agrees (tree.unary op arg k at) p e = ap (λ r. and_then r (λ x. computed (unary_value op (kind arg) x) at)) (value_agrees arg p e)
    value_agrees (tree.binary op left right k at) p e =
        ap (λ r. and_then (value arrays left t') (λ x. joined op (kind left) x (kind right) at r)) (value_agrees right p.1 (λ h. e (or_right (has_element left) (has_element right) h)))
        ∙ ap (λ r. and_then r (λ x. joined op (kind left) x (kind right) at (value arrays right t))) (value_agrees left p.0 (λ h. e (or_left (has_element left) (has_element right) h)))
    value_agrees (tree.choice test left right k) p e =
        ap (λ r. and_then (value arrays test t') (λ x. and_then (if is_true x then r else value arrays right t') (λ y. is (convert k y)))) (value_agrees left p.1 (λ h. e (middle h)))
        ∙ ap (λ r. and_then (value arrays test t') (λ x. and_then (if is_true x then value arrays left t else r) (λ y. is (convert k y)))) (value_agrees right p.2 (λ h. e (last h)))
        ∙ ap (λ r. and_then r (λ x. and_then (if is_true x then value arrays left t else value arrays right t) (λ y. is (convert k y)))) (value_agrees test p.0 (λ h. e (first h)))
      where
        first : has_element test ≡ true → has_element (tree.choice test left right k) ≡ true
        first h = or_left (has_element test || has_element left) (has_element right) (or_left (has_element test) (has_element left) h)

        middle : has_element left ≡ true → has_element (tree.choice test left right k) ≡ true
        middle h = or_left (has_element test || has_element left) (has_element right) (or_right (has_element test) (has_element left) h)

        last : has_element right ≡ true → has_element (tree.choice test left right k) ≡ true
        last h = or_right (has_element test || has_element left) (has_element right) h
    value_agrees (tree.cast to arg) p e = ap (λ r. and_then r (λ x. is (convert to x))) (value_agrees arg p e)

    pub values_agree : (xs : PureTrees) → EachReads P xs → ((a i : ℕ) → t'.elements a i ≡ t.elements a i) → values arrays xs t' ≡ values arrays xs t
    values_agree tree.none p e = refl
    values_agree (tree.more first rest) p e =
        ap (λ r. and_then (value arrays first t') (λ x. and_then r (λ xs. is (x ∷ xs)))) (values_agree rest p.1 e)
        ∙ ap (λ r. and_then r (λ x. and_then (values arrays rest t) (λ xs. is (x ∷ xs)))) (value_agrees first p.0 (λ h. e))

-- properties of the variables that are read
mutual
  pub read_more : (P Q : ℕ → Type 0) → ((i : ℕ) → P i → Q i) → (x : PureTree) → AllRead P x → AllRead Q x
  read_more P Q h (tree.number v k) p = tt
  read_more P Q h (tree.variable name k) p = h name.0 p
  read_more P Q h (tree.element array subscripts k at) p = reads_more P Q h subscripts p
  read_more P Q h (tree.unary op arg k at) p = read_more P Q h arg p
  read_more P Q h (tree.binary op left right k at) p = (read_more P Q h left p.0, read_more P Q h right p.1)
  read_more P Q h (tree.choice test left right k) p = (read_more P Q h test p.0, read_more P Q h left p.1, read_more P Q h right p.2)
  read_more P Q h (tree.cast to arg) p = read_more P Q h arg p

  pub reads_more : (P Q : ℕ → Type 0) → ((i : ℕ) → P i → Q i) → (xs : PureTrees) → EachReads P xs → EachReads Q xs
  reads_more P Q h tree.none p = tt
  reads_more P Q h (tree.more first rest) p = (read_more P Q h first p.0, reads_more P Q h rest p.1)

-- a property of all variables
mutual
  pub read_any : (P : ℕ → Type 0) → ((i : ℕ) → P i) → (x : PureTree) → AllRead P x
  read_any P h (tree.number v k) = tt
  read_any P h (tree.variable name k) = h name.0
  read_any P h (tree.element array subscripts k at) = reads_any P h subscripts
  read_any P h (tree.unary op arg k at) = read_any P h arg
  read_any P h (tree.binary op left right k at) = (read_any P h left, read_any P h right)
  read_any P h (tree.choice test left right k) = (read_any P h test, read_any P h left, read_any P h right)
  read_any P h (tree.cast to arg) = read_any P h arg

  reads_any : (P : ℕ → Type 0) → ((i : ℕ) → P i) → (xs : PureTrees) → EachReads P xs
  reads_any P h tree.none = tt
  reads_any P h (tree.more first rest) = (read_any P h first, reads_any P h rest)
