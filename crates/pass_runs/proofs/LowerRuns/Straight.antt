-- A variable that is set holds its value in the block that is open.
use Rattle.std.proofs.Common.{◌≡◌, ◌∙◌, ℕ, Bool, true, false, refl, ap, sym, subst, inl, inr, ℤ, List, [], ◌∷◌, ◌++◌, length, Some, if◌then◌else◌}
use Rattle.std.specs.Prelude.{slice_get, nat_lt, ◌==◌}
use Rattle.std.proofs.lemmas.Bool.{false≢true, lt-ltb}
use Rattle.std.proofs.lemmas.Bool.Decides.{eqb_tells}
use Rattle.std.proofs.lemmas.Option.{slice_get_within}
use Rattle.hls_base.specs.declared.number.VarId.{VarId}
use Rattle.c_token.specs.declared.ctype.CType.{CType}
use Rattle.c_value.specs.Values.{width, convert}
use Rattle.c_value.specs.Operators.{is_true}
use Rattle.pieces.specs.Trees.{PureTree}
use Rattle.ir_core.specs.declared.body.Operand.{Operand}
use Rattle.ir_core.specs.declared.body.Out.{Out}
use Rattle.hls_base.specs.Valued.{is}
use Rattle.c_meaning.specs.PieceRuns.Values.{Store, with_variable, value}
use Rattle.c_meaning.specs.PieceRuns.Pieces.{Frame}
use Rattle.ir_core.specs.Bodies.{Words, Ranged, operand}
use Rattle.ir_core.specs.Trees.{BlockTree}
use Rattle.passes.proofs.Equalities.{operand_same}
use Rattle.passes.specs.Lowering.Operations.{Emitted, entry_value}
use Rattle.passes.specs.Lowering.Outs.{operand_eq, held, without, own_out, with_out}
use Rattle.passes.specs.Lowering.Expressions.{emitted}
use Rattle.passes.specs.Lowering.Blocks.{type_of, value_as, set, condition}
use Rattle.pass_runs.specs.LowerRuns.OperatorWords.Words.{IsWord, ConversionsAgree, OperatorsAgree, NaturalsAreWords}
use Rattle.pass_runs.specs.LowerRuns.Suits.{Suits, shapes_of, scope_of}
use Rattle.pass_runs.proofs.LowerRuns.Growing.{Grows, grows_on}
use Rattle.pass_runs.proofs.LowerRuns.Converting.{bit, assigned_makes, tested_makes}
use Rattle.pass_runs.proofs.LowerRuns.Showing.{shows_grows}
use Rattle.pass_runs.proofs.LowerRuns.Values.{emitted_evals}
use Rattle.pass_runs.specs.LowerRuns.Standing.{Stands, Fits}
use Rattle.pass_runs.specs.LowerRuns.Showing.{Shows, without_number}

-- ---- what variables hold

same_id : (v w : VarId) → v.0 ≡ w.0 → v ≡ w
same_id v w e = λ i. record { 0 = e i }

own_same : (v : VarId) (x : Operand) → held (own_out v x) v ≡ x
own_same v x = either (operand_eq x (entry_value v)) refl where
  either : (c : Bool) → operand_eq x (entry_value v) ≡ c → held (if c then [] else record { variable = v; value = x } ∷ []) v ≡ x
  either true e = sym (operand_same x (entry_value v) e)
  either false e = elim (eqb_tells v.0 v.0) [
    | inl h ↦ ap (λ b. if b then x else entry_value v) h.0
    | inr h ↦ absurd (h.1 refl)
  ]

own_other : (v w : VarId) (x : Operand) → (v.0 == w.0) ≡ false → held (own_out v x) w ≡ entry_value w
own_other v w x ne = either (operand_eq x (entry_value v)) where
  either : (c : Bool) → held (if c then [] else record { variable = v; value = x } ∷ []) w ≡ entry_value w
  either true = refl
  either false = ap (λ b. if b then x else entry_value w) ne

pushed_same : (outs : List Out) (v : VarId) (x : Operand) → held (without outs v ++ own_out v x) v ≡ x
pushed_same [] v x = own_same v x
pushed_same (y ∷ ys) v x = either (y.variable.0 == v.0) refl (pushed_same ys v x) where
  either : (c : Bool) → (y.variable.0 == v.0) ≡ c → held (without ys v ++ own_out v x) v ≡ x → held ((if c then without ys v else y ∷ without ys v) ++ own_out v x) v ≡ x
  either true e ih = ih
  either false e ih = ap (λ b. if b then y.value else held (without ys v ++ own_out v x) v) e ∙ ih

-- of two numbers that are the same with the first, each is
one_same : (a b c : ℕ) → (a == b) ≡ true → (b == c) ≡ false → (a == c) ≡ false
one_same a b c e h = elim (eqb_tells a b) [
  | inl g ↦ subst (λ n. (n == c) ≡ false) (sym g.1) h
  | inr g ↦ absurd (false≢true (sym g.0 ∙ e))
]

pushed_other : (outs : List Out) (v w : VarId) (x : Operand) → (v.0 == w.0) ≡ false → held (without outs v ++ own_out v x) w ≡ held outs w
pushed_other [] v w x ne = own_other v w x ne
pushed_other (y ∷ ys) v w x ne = either (y.variable.0 == v.0) refl (pushed_other ys v w x ne) where
  either : (c : Bool) → (y.variable.0 == v.0) ≡ c → held (without ys v ++ own_out v x) w ≡ held ys w
      → held ((if c then without ys v else y ∷ without ys v) ++ own_out v x) w ≡ (if y.variable.0 == w.0 then y.value else held ys w)
  either true e ih = ih ∙ sym (ap (λ b. if b then y.value else held ys w) (one_same y.variable.0 v.0 w.0 e ne))
  either false e ih = ap (λ z. if y.variable.0 == w.0 then y.value else z) ih

pub held_same : (outs : List Out) (v : VarId) (x : Operand) → held (with_out outs v x) v ≡ x
held_same outs v x = either (operand_eq (held outs v) x) refl where
  either : (c : Bool) → operand_eq (held outs v) x ≡ c → held (if c then outs else without outs v ++ own_out v x) v ≡ x
  either true e = operand_same (held outs v) x e
  either false e = pushed_same outs v x

pub held_other : (outs : List Out) (v w : VarId) (x : Operand) → (v.0 == w.0) ≡ false → held (with_out outs v x) w ≡ held outs w
held_other outs v w x ne = either (operand_eq (held outs v) x) where
  either : (c : Bool) → held (if c then outs else without outs v ++ own_out v x) w ≡ held outs w
  either true = refl
  either false = pushed_other outs v w x ne

module _ (f : Frame) (hidden : ℕ → Bool) (t : Words) (agree : ConversionsAgree) (operators : OperatorsAgree) (natural : NaturalsAreWords) (b : BlockTree) (r : Ranged) (s : Store) (here : Stands (shapes_of f) t b.ops r)
    (before : Shows f hidden b.outs b.ops r s) where
  -- Operations are added, of which one has a word of which this is known.
  pub record Computed (x : Emitted) (bits : ℕ) (P : ℕ → Type 0) : Type 0 where
    pub next : Ranged
    pub stands : Stands (shapes_of f) t x.ops next
    pub grows : Grows (shapes_of f) b.ops r x.ops next
    pub fits : Fits (shapes_of f) x.ops next x.operand bits
    pub holds : P (operand next.words next.results x.operand)

  -- a value, as one of another type
  pub value_computed : (x : PureTree) (k : CType) (n : ℤ) → Suits f hidden x → value f.arrays x s ≡ is n → Computed (value_as b x k) (width k) (IsWord k (convert k n))
  value_computed x k n suits is_ =
      let e = emitted b.outs x b.ops [] in
      let h = emitted_evals f hidden t agree operators natural b.outs s x suits b.ops r [] [] here tt before (λ all. (n, is_)) in
      let a = assigned_makes (shapes_of f) t agree e.ops h.next e.given k h.stands h.fits in record {
        next = a.1.next;
        stands = a.1.stands;
        grows = grows_on (shapes_of f) b.ops e.ops (value_as b x k).ops r h.next a.1.next h.grows a.1.grows;
        fits = a.1.fits;
        holds = subst (λ w. IsWord k (convert k n) w) (sym a.1.holds) (a.2 n (h.has refl n is_));
      }

  -- a condition, as a bit
  pub condition_computed : (x : PureTree) (n : ℤ) → Suits f hidden x → value f.arrays x s ≡ is n → Computed (condition x b) 1 (λ w. w ≡ bit (is_true n))
  condition_computed x n suits is_ =
      let e = emitted b.outs x b.ops [] in
      let h = emitted_evals f hidden t agree operators natural b.outs s x suits b.ops r [] [] here tt before (λ all. (n, is_)) in
      let a = tested_makes (shapes_of f) t agree e.ops h.next e.given h.stands h.fits in record {
        next = a.1.next;
        stands = a.1.stands;
        grows = grows_on (shapes_of f) b.ops e.ops (condition x b).ops r h.next a.1.next h.grows a.1.grows;
        fits = a.1.fits;
        holds = a.1.holds ∙ a.2 n (h.has refl n is_);
      }

  -- the block behind a piece shows this store
  pub record Shown (b' : BlockTree) (hidden' : ℕ → Bool) (s' : Store) : Type 0 where
    pub next : Ranged
    pub stands : Stands (shapes_of f) t b'.ops next
    pub shows : Shows f hidden' b'.outs b'.ops next s'

  pub set_shown : (v : VarId) (x : PureTree) (k : CType) (n : ℤ) → slice_get f.variables v.0 ≡ Some k → Suits f hidden x → value f.arrays x s ≡ is n
      → Shown (set (scope_of f) v x b) (without_number hidden v.0) (with_variable v.0 (convert k n) s)
  set_shown v x k n there suits is_ =
      let y = value_as b x k in
      let c = value_computed x k n suits is_ in
      let outs' = with_out b.outs v y.operand in
      let old = shows_grows f hidden b.outs b.ops y.ops r c.next s c.grows before in
      let behind : Shown (record b { ops = y.ops; outs = outs' }) (without_number hidden v.0) (with_variable v.0 (convert k n) s) = record {
        next = c.next;
        stands = c.stands;
        shows = record {
          fits = λ i l e.
              elim (eqb_tells v.0 i.0) [
                | inl h ↦
                    let same : k ≡ l = some_same k l (sym there ∙ ap (slice_get f.variables) h.1 ∙ e) in
                    subst (λ j. Fits (shapes_of f) y.ops c.next (held outs' j) (width l)) (same_id v i h.1)
                    (subst (λ z. Fits (shapes_of f) y.ops c.next z (width l)) (sym (held_same b.outs v y.operand)) (subst (λ l. Fits (shapes_of f) y.ops c.next y.operand (width l)) same c.fits))
                | inr h ↦ subst (λ z. Fits (shapes_of f) y.ops c.next z (width l)) (sym (held_other b.outs v i y.operand h.0)) (old.fits i l e)
              ];
          variables = λ i l e apart.
              elim (eqb_tells v.0 i.0) [
                | inl h ↦
                    let same : k ≡ l = some_same k l (sym there ∙ ap (slice_get f.variables) h.1 ∙ e) in
                    subst (λ z. IsWord l z (operand c.next.words c.next.results (held outs' i))) (sym (ap (λ c1. if c1 then convert k n else s.variables i.0) h.0))
                    (subst (λ j. IsWord l (convert k n) (operand c.next.words c.next.results (held outs' j))) (same_id v i h.1)
                    (subst (λ z. IsWord l (convert k n) (operand c.next.words c.next.results z)) (sym (held_same b.outs v y.operand))
                    (subst (λ l. IsWord l (convert k n) (operand c.next.words c.next.results y.operand)) same c.holds)))
                | inr h ↦
                    subst (λ z. IsWord l z (operand c.next.words c.next.results (held outs' i))) (sym (ap (λ c1. if c1 then convert k n else s.variables i.0) h.0))
                    (subst (λ z. IsWord l (s.variables i.0) (operand c.next.words c.next.results z)) (sym (held_other b.outs v i y.operand h.0))
                    (old.variables i l e (sym (ap (λ c1. if c1 then false else hidden i.0) h.0) ∙ apart)))
              ];
          arrays = old.arrays;
        };
      } in
      let inside : nat_lt v.0 (length f.variables) ≡ true = lt-ltb v.0 (length f.variables) (slice_get_within f.variables v.0 k there) in
      let all = λ (l : CType) (c1 : Bool).
      let z = value_as b x l in
      record b { ops = z.ops; outs = if c1 then with_out b.outs v z.operand else b.outs } in
      subst (λ c1. Shown (all (type_of (slice_get f.variables v.0)) c1) (without_number hidden v.0) (with_variable v.0 (convert k n) s)) (sym inside)
      (subst (λ o. Shown (all (type_of o) true) (without_number hidden v.0) (with_variable v.0 (convert k n) s)) (sym there) behind)
    where
      some_same : (k l : CType) → Some k ≡ Some l → k ≡ l
      some_same k l e = cc
