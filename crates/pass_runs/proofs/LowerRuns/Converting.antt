-- Conversions, and what expressions give as values and as conditions.
use Rattle.std.proofs.Common.{◌≡◌, ◌∙◌, ℕ, zero, suc, arith, negsuc, Bool, true, false, not, refl, ap, sym, subst, ℤ, pos, List, [], ◌∷◌, ◌++◌, if◌then◌else◌}
use Rattle.std.proofs.lemmas.Bool.{eqb-true}
use Rattle.std.proofs.lemmas.Int.{ints}
use Rattle.std.specs.Prelude.{nat_lt, nat_eq}
use Rattle.c_token.specs.declared.ctype.CType.{CType}
use Rattle.c_token.specs.declared.ctype.CType.TheVariants as type
use Rattle.c_value.specs.Values.{IsOf, width, is_signed, pattern, number_of, convert, promoted, int_type}
use Rattle.c_value.specs.Operators.{truth, is_true}
use Rattle.ir_core.specs.declared.body.OpKind.TheVariants as o
use Rattle.ir_core.specs.declared.body.Operand.{Operand}
use Rattle.ir_core.specs.declared.body.Source.{Source}
use Rattle.ir_core.specs.declared.body.Source.TheVariants as source
use Rattle.ir_core.specs.Value as op
use Rattle.hls_base.specs.Valued.{is}
use Rattle.ir_core.specs.Bodies.{OpTree, Shapes, Words, Ranged, word, operand, operand_bits}
use Rattle.passes.specs.Lowering.Operations as lower
use Rattle.passes.specs.Lowering.Operations.{Emitted, Given, added, constant, plain, defined, conversion, resized, converted, converted_from, valued, tested, assigned, promoted_value, balanced, kind_of}
use Rattle.pass_runs.specs.LowerRuns.OperatorWords.Words.{IsType, IsWord, conversion_word, resized_word, ConversionsAgree}
use Rattle.pass_runs.proofs.LowerRuns.Growing.{Grows, grows_on, fits_grow, word_grows}
use Rattle.pass_runs.proofs.LowerRuns.Adding.{Adds, adds, adds_nothing}
use Rattle.pass_runs.specs.LowerRuns.Standing.{HasBits, Stands, Fits}

abbrev pub bit : Bool → ℕ
bit = op.truth

module _ (shapes : Shapes) (t : Words) where
  -- Operations are added, and the operand is so wide and has a word of which this is known.
  abbrev pub Makes : List OpTree → Ranged → Emitted → ℕ → (ℕ → Type 0) → Type 0
  Makes ops r x bits P = (w : ℕ) × Adds shapes t ops r x bits w × P w

  pub makes_on : (ops : List OpTree) (r : Ranged) (x y : Emitted) (bits bits' w w' : ℕ) (first : Adds shapes t ops r x bits w) → Adds shapes t x.ops first.next y bits' w' → Adds shapes t ops r y bits' w'
  makes_on ops r x y bits bits' w w' first second = record {
    next = second.next;
    stands = second.stands;
    grows = grows_on shapes ops x.ops y.ops r first.next second.next first.grows second.grows;
    fits = second.fits;
    holds = second.holds;
  }

  -- ---- between types

  module _ (ops : List OpTree) (r : Ranged) (stands : Stands shapes t ops r) where
    -- an operation on one operand that is always defined
    narrow_adds : (bits : ℕ) (x : Operand) → Adds shapes t ops r (added ops (plain o.Narrow bits (x ∷ []))) bits (op.value o.Narrow false bits 0 (operand r.words r.results x ∷ []))
    narrow_adds bits x = adds shapes t ops r (plain o.Narrow bits (x ∷ [])) (op.value o.Narrow false bits 0 (operand r.words r.results x ∷ [])) stands (λ later. refl)

    truth_adds : (bits : ℕ) (x : Operand) → Adds shapes t ops r (added ops (plain o.Truth bits (x ∷ []))) 1 (op.value o.Truth false bits 0 (operand r.words r.results x ∷ []))
    truth_adds bits x = adds shapes t ops r (plain o.Truth bits (x ∷ [])) (op.value o.Truth false bits 0 (operand r.words r.results x ∷ [])) stands (λ later. refl)

    -- of an operand that is no constant
    abbrev Varies : Source → Type 0
    Varies (source.Constant w) = ⊥
    Varies s = Unit {0}

    from_bits : (x : Operand) (bits d : ℕ) (s : Source) → x.value ≡ s → Varies s → Fits shapes ops r x bits → (later : List OpTree) → operand_bits shapes.widths (ops ++ later) d x.value ≡ bits
    from_bits x bits d (source.Constant w) e h fits later = absurd h
    from_bits x bits d (source.Variable v) e h fits later = let wide = subst (λ s. HasBits shapes ops bits s) e fits.wide in ap (operand_bits shapes.widths (ops ++ later) d) e ∙ wide later d
    from_bits x bits d (source.Result i) e h fits later = let wide = subst (λ s. HasBits shapes ops bits s) e fits.wide in ap (operand_bits shapes.widths (ops ++ later) d) e ∙ wide later d

    pub widen_adds : (signed : Bool) (bits from : ℕ) (x : Operand) → Varies x.value → Fits shapes ops r x from
        → Adds shapes t ops r (added ops (defined o.Widen signed bits (x ∷ []))) bits (op.value o.Widen signed bits from (operand r.words r.results x ∷ []))
    widen_adds signed bits from x varies fits =
        adds shapes t ops r (defined o.Widen signed bits (x ∷ [])) (op.value o.Widen signed bits from (operand r.words r.results x ∷ [])) stands
        (λ later. ap (λ n. is (record { result = op.value o.Widen signed bits n (operand r.words r.results x ∷ []); words = r.words })) (from_bits x from bits x.value refl varies fits later))

    abbrev the_word : Operand → ℕ
    the_word x = operand r.words r.results x

    if_made : (b : Bool) (x y : Emitted) (bits u w : ℕ) → Adds shapes t ops r x bits u → Adds shapes t ops r y bits w → Adds shapes t ops r (if b then x else y) bits (if b then u else w)
    if_made true x y bits u w h g = h
    if_made false x y bits u w h g = g

    conversion_adds : (from to : CType) (x : Operand) → Varies x.value → Fits shapes ops r x (width from) → Adds shapes t ops r (added ops (conversion from to x)) (width to) (conversion_word from to (the_word x))
    conversion_adds from type.Bool x varies fits = truth_adds (width from) x
    conversion_adds from (type.Int signed bits) x varies fits = either (nat_lt (width from) (width (type.Int signed bits))) where
      to : ℕ
      to = width (type.Int signed bits)

      either : (b : Bool) → Adds shapes t ops r (added ops (if b then defined o.Widen (is_signed from) (width (type.Int signed bits)) (x ∷ []) else plain o.Narrow (width (type.Int signed bits)) (x ∷ []))) (width (type.Int signed bits))
          (if b then op.value o.Widen (is_signed from) (width (type.Int signed bits)) (width from) (the_word x ∷ []) else op.value o.Narrow false (width (type.Int signed bits)) (width from) (the_word x ∷ []))
      either true = widen_adds (is_signed from) (width (type.Int signed bits)) (width from) x varies fits
      either false = narrow_adds (width (type.Int signed bits)) x

    same_bits : (from to : CType) (x : Operand) (b : Bool) → nat_eq (width from) (width to) ≡ b → b ≡ true → Fits shapes ops r x (width from) → Fits shapes ops r x (width to)
    same_bits from to x b e h fits = subst (λ n. Fits shapes ops r x n) (eqb-true (width from) (width to) (e ∙ h)) fits

    resized_adds : (from to : CType) (x : Operand) → Varies x.value → Fits shapes ops r x (width from) → Adds shapes t ops r (resized ops from to x) (width to) (resized_word from to (the_word x))
    resized_adds from to x varies fits = either (nat_eq (width from) (width to)) refl where
      either : (b : Bool) → nat_eq (width from) (width to) ≡ b → Adds shapes t ops r (if b then record { ops = ops; operand = x } else added ops (conversion from to x)) (width to) (if b then the_word x else conversion_word from to (the_word x))
      either true e = adds_nothing shapes t ops r x (width to) stands (same_bits from to x true e refl fits)
      either false e = conversion_adds from to x varies fits

  module _ (agree : ConversionsAgree) where
    abbrev pub Converts : CType → CType → ℕ → ℕ → Type 0
    Converts from to w w' = (v : ℤ) → IsWord from v w → IsWord to (convert to v) w'

    pub converted_makes : (ops : List OpTree) (r : Ranged) (from to : CType) (x : Operand) → Stands shapes t ops r → Fits shapes ops r x (width from)
        → Makes ops r (converted ops from to x) (width to) (Converts from to (operand r.words r.results x))
    converted_makes ops r from to x stands fits = at x.value refl where
      varying : (s : Source) → x.value ≡ s → Varies ops r stands s → Makes ops r (resized ops from to x) (width to) (Converts from to (operand r.words r.results x))
      varying s e h = (
        resized_word from to (operand r.words r.results x),
        resized_adds ops r stands from to x (subst (Varies ops r stands) (sym e) h) fits,
        λ v is_. agree.resized from to v (operand r.words r.results x) is_,
      )

      at : (s : Source) → x.value ≡ s → Makes ops r (converted_from ops from to x s) (width to) (Converts from to (operand r.words r.results x))
      at (source.Constant w) e = (
        pattern to (convert to (number_of from w)),
        adds_nothing shapes t ops r (constant (pattern to (convert to (number_of from w)))) (width to) stands (record { early = tt; wide = tt }),
        λ v is_. record {
          number = agree.number to v;
          word = ap (λ n. pattern to (convert to n)) (ap (number_of from) (ap (word r.words r.results) (sym e)) ∙ agree.back from v (operand r.words r.results x) is_);
        },
      )
      at (source.Variable n) e = varying (source.Variable n) e tt
      at (source.Result n) e = varying (source.Result n) e tt

    -- ---- what expressions give

    abbrev pub GivenFits : List OpTree → Ranged → Given → Type 0
    GivenFits ops r (lower.truth x) = Fits shapes ops r x 1
    GivenFits ops r (lower.value x k) = Fits shapes ops r x (width k)

    -- it has this number
    abbrev pub GivenHas : Ranged → Given → ℤ → Type 0
    GivenHas r (lower.truth x) v = (b : Bool) × (operand r.words r.results x ≡ bit b) × (v ≡ truth b)
    GivenHas r (lower.value x k) v = IsWord k v (operand r.words r.results x)

    pub given_fits_grow : (ops ops' : List OpTree) (r r' : Ranged) → Grows shapes ops r ops' r' → (g : Given) → GivenFits ops r g → GivenFits ops' r' g
    given_fits_grow ops ops' r r' grows (lower.truth x) h = fits_grow shapes ops ops' r r' grows x 1 h
    given_fits_grow ops ops' r r' grows (lower.value x k) h = fits_grow shapes ops ops' r r' grows x (width k) h

    pub given_has_grow : (ops ops' : List OpTree) (r r' : Ranged) → Grows shapes ops r ops' r' → (g : Given) (v : ℤ) → GivenFits ops r g → GivenHas r g v → GivenHas r' g v
    given_has_grow ops ops' r r' grows (lower.truth x) v fits h = (h.0, word_grows shapes ops ops' r r' grows x.value fits.early ∙ h.1, h.2)
    given_has_grow ops ops' r r' grows (lower.value x k) v fits h = subst (λ w. IsWord k v w) (sym (word_grows shapes ops ops' r r' grows x.value fits.early)) h

    -- the value of a truth value
    widened : (b : Bool) (v : ℤ) (w : ℕ) → w ≡ bit b → v ≡ truth b → IsWord int_type v (op.value o.Widen false 32 1 (w ∷ []))
    widened true v w e h = record { number = subst (λ n. IsOf int_type n) (sym h) (omega (arith, ints), omega (arith, ints)); word = ap (λ n. op.value o.Widen false 32 1 (n ∷ [])) e ∙ ap (pattern int_type) (sym h) }
    widened false v w e h = record { number = subst (λ n. IsOf int_type n) (sym h) (omega (arith, ints), omega (arith, ints)); word = ap (λ n. op.value o.Widen false 32 1 (n ∷ [])) e ∙ ap (pattern int_type) (sym h) }

    abbrev Valued : Ranged → Given → ℕ → Type 0
    Valued r g w = (v : ℤ) → GivenHas r g v → IsWord (kind_of g) v w

    pub valued_makes : (ops : List OpTree) (r : Ranged) (g : Given) → Stands shapes t ops r → GivenFits ops r g → Makes ops r (valued ops g) (width (kind_of g)) (Valued r g)
    valued_makes ops r (lower.truth x) stands fits = (
      op.value o.Widen false 32 1 (operand r.words r.results x ∷ []),
      adds shapes t ops r (plain o.Widen 32 (x ∷ [])) (op.value o.Widen false 32 1 (operand r.words r.results x ∷ [])) stands (λ later. refl),
      λ v h. widened h.0 v (operand r.words r.results x) h.1 h.2,
    )
    valued_makes ops r (lower.value x k) stands fits = (operand r.words r.results x, adds_nothing shapes t ops r x (width k) stands fits, λ v h. h)

    -- ---- conditions

    abbrev Tested : Ranged → Given → ℕ → Type 0
    Tested r g w = (v : ℤ) → GivenHas r g v → w ≡ bit (is_true v)

    true_truth : (b : Bool) → bit b ≡ bit (is_true (truth b))
    true_truth true = refl
    true_truth false = refl

    -- a number of type _Bool
    bool_bit : (v : ℤ) → IsOf type.Bool v → pattern type.Bool v ≡ bit (is_true v)
    bool_bit (pos zero) h = refl
    bool_bit (pos (suc zero)) h = refl
    bool_bit (pos (suc (suc n))) h = absurd (omega (arith, ints, h.1))
    bool_bit (negsuc n) h = absurd (omega (arith, ints, h.0))

    pub tested_makes : (ops : List OpTree) (r : Ranged) (g : Given) → Stands shapes t ops r → GivenFits ops r g → Makes ops r (tested ops g) 1 (Tested r g)
    tested_makes ops r (lower.truth x) stands fits = (operand r.words r.results x, adds_nothing shapes t ops r x 1 stands fits, λ v h. h.1 ∙ true_truth h.0 ∙ ap (λ n. bit (is_true n)) (sym h.2))
    tested_makes ops r (lower.value x type.Bool) stands fits = (operand r.words r.results x, adds_nothing shapes t ops r x 1 stands fits, λ v h. h.word ∙ bool_bit v h.number)
    tested_makes ops r (lower.value x (type.Int signed bits)) stands fits = (
      op.value o.Ne false (width (type.Int signed bits)) 0 (operand r.words r.results x ∷ 0 ∷ []),
      adds shapes t ops r (plain o.Ne (width (type.Int signed bits)) (x ∷ constant 0 ∷ [])) (op.value o.Ne false (width (type.Int signed bits)) 0 (operand r.words r.results x ∷ 0 ∷ [])) stands (λ later. refl),
      λ v h. ap (λ b. bit (not b)) (agree.zero (type.Int signed bits) v (operand r.words r.results x) h),
    )

    -- ---- as a value of another type

    abbrev pub Assigned : Ranged → Given → CType → ℕ → Type 0
    Assigned r g to w = (v : ℤ) → GivenHas r g v → IsWord to (convert to v) w

    pub assigned_makes : (ops : List OpTree) (r : Ranged) (g : Given) (to : CType) → Stands shapes t ops r → GivenFits ops r g → Makes ops r (assigned ops g to) (width to) (Assigned r g to)
    assigned_makes ops r g to stands fits =
        let x = valued ops g in
        let a = valued_makes ops r g stands fits in
        let c = converted_makes x.ops a.1.next (kind_of g) to x.operand a.1.stands a.1.fits in (
          c.0,
          makes_on ops r x (converted x.ops (kind_of g) to x.operand) (width (kind_of g)) (width to) a.0 c.0 a.1 c.1,
          λ v h. c.2 v (subst (λ w. IsWord (kind_of g) v w) (sym a.1.holds) (a.2 v h)),
        )

    -- a number of another type has its type's pattern
    given_number : (r : Ranged) (g : Given) (v : ℤ) → GivenHas r g v → IsOf (kind_of g) v
    given_number r (lower.truth x) v h = (widened h.0 v (operand r.words r.results x) h.1 h.2).number
    given_number r (lower.value x k) v h = h.number

    pub given_is : (r : Ranged) (g : Given) (k : CType) (v : ℤ) → kind_of g ≡ k → GivenHas r g v → IsOf k v
    given_is r g k v e h = subst (λ k. IsOf k v) e (given_number r g v h)

    pub balanced_makes : (ops : List OpTree) (r : Ranged) (g : Given) (to : CType) → IsType (kind_of g) → Stands shapes t ops r → GivenFits ops r g → Makes ops r (balanced ops g to) (width to) (Assigned r g to)
    balanced_makes ops r g to type_is stands fits =
        let k = kind_of g in
        let x = promoted_value ops g in
        let a = assigned_makes ops r g (promoted k) stands fits in
        let c = converted_makes x.ops a.1.next (promoted k) to x.operand a.1.stands a.1.fits in (
          c.0,
          makes_on ops r x (converted x.ops (promoted k) to x.operand) (width (promoted k)) (width to) a.0 c.0 a.1 c.1,
          λ v h.
              (let e = agree.promotion k type_is v (given_number r g v h) in
              subst (λ n. IsWord to (convert to n) c.0) e (c.2 (convert (promoted k) v) (subst (λ w. IsWord (promoted k) (convert (promoted k) v) w) (sym a.1.holds) (a.2 v h)))),
        )
