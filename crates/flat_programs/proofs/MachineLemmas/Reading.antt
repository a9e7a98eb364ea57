-- Buffers that are filled, and variables that take values.
use Rattle.std.proofs.Common.{◌≡◌, ℕ, zero, suc, ◌+◌, ◌<◌, ◌≤◌, List, [], ◌∷◌, ◌++◌, length, get_or, set, map, take, drop, replicate, refl, sym, ap, ◌∙◌, subst, arith}
use Rattle.std.proofs.Math.ListN.{length-set}
use Rattle.std.proofs.lemmas.List.{take_more_set, map_more, take_at, drop_more, drop_all}
use Rattle.hls_base.specs.declared.number.Kept.{Kept}
use Rattle.hls_base.specs.declared.number.VarId.{VarId}
use Rattle.ir_core.specs.declared.body.Out.{Out}
use Rattle.ir_core.specs.Bodies.{Words, operand, outs, with_word}
use Rattle.ir_core.specs.FirstContents.{with_kept, with_arguments}
use Rattle.flat_programs.specs.Memory.Filling.{filled}
use Rattle.flat_programs.proofs.MemoryLemmas.Banks.{word_set, zero_words}
use Rattle.flat_programs.specs.Machine.Held.{held}
use Rattle.flat_programs.specs.Machine.Sizes.{KeptThere, ParametersThere}
use Rattle.flat_programs.specs.Machine.States.{VariablesThere}

pub read_more : {X : Type 0} (f : X → ℕ) (xs : List X) (into : List ℕ) (i w : ℕ) (d : X) → i < length xs → i < length into → w ≡ f (get_or xs i d) → take i into ≡ map f (take i xs) → take (i + 1) (set into i w) ≡ map f (take (i + 1) xs)
read_more f xs into i w d h k is so_far =
    take_more_set into i w k ∙ ap (λ l. l ++ w ∷ []) so_far ∙ ap (λ x. map f (take i xs) ++ x ∷ []) is ∙ sym (map_more f xs i d h)

-- the front of a buffer behind a slice of it that was filled
pub front_back : (n k : ℕ) (new old : List ℕ) → length new ≡ n → take k (take n (new ++ drop (length new) old)) ≡ take k new
front_back n k new old h = ap (take k) (take_at new (drop (length new) old) n h)

held_set : (vs : List ℕ) (v w : ℕ) → v < length vs → held (set vs v w) ≡ with_word (held vs) v w
held_set vs v w h = λ j. λ i. word_set vs v w i h j

pub assigned : (xs : List Out) (t : Words) (results vs : List ℕ) → VariablesThere xs (length vs)
    → held (filled (map (λ (x : Out). x.variable.0) xs) (map (λ (x : Out). operand t results x.value) xs) vs) ≡ outs xs t results (held vs)
assigned [] t results vs h = refl
assigned (x ∷ xs) t results vs h =
    let there : VariablesThere xs (length (set vs x.variable.0 (operand t results x.value))) = subst (VariablesThere xs) (sym (length-set vs x.variable.0 (operand t results x.value))) h.1 in
    assigned xs t results (set vs x.variable.0 (operand t results x.value)) there ∙ ap (outs xs t results) (held_set vs x.variable.0 (operand t results x.value) h.0)

-- ---- first contents

kept_at : (kept : List Kept) (count i : ℕ) (d : Kept) → KeptThere kept count → i < length kept → (get_or kept i d).variable.0 < count
kept_at [] count i d h k = absurd (omega arith)
kept_at (x ∷ xs) count zero d h k = h.0
kept_at (x ∷ xs) count (suc i) d h k = kept_at xs count i d h.1 (omega arith)

pub kept_more : (kept : List Kept) (i : ℕ) (d : Kept) (vs new : List ℕ) → KeptThere kept (length vs) → i < length kept → new ≡ set vs (get_or kept i d).variable.0 (get_or kept i d).value
    → with_kept (drop (i + 1) kept) (held new) ≡ with_kept (drop i kept) (held vs)
kept_more kept i d vs new there h e =
    ap (λ l. with_kept (drop (i + 1) kept) (held l)) e
    ∙ ap (with_kept (drop (i + 1) kept)) (held_set vs (get_or kept i d).variable.0 (get_or kept i d).value (kept_at kept (length vs) i d there h))
    ∙ sym (ap (λ ks. with_kept ks (held vs)) (drop_more kept i d h))

parameter_at : (params : List VarId) (count i : ℕ) (d : VarId) → ParametersThere params count → i < length params → (get_or params i d).0 < count
parameter_at [] count i d h k = absurd (omega arith)
parameter_at (x ∷ xs) count zero d h k = h.0
parameter_at (x ∷ xs) count (suc i) d h k = parameter_at xs count i d h.1 (omega arith)

arguments_none : (params : List VarId) (f : ℕ → ℕ) → with_arguments params [] f ≡ f
arguments_none [] f = refl
arguments_none (p ∷ ps) f = refl

pub arguments_more : (params : List VarId) (scalars : List ℕ) (i : ℕ) (d : VarId) (vs new : List ℕ) → ParametersThere params (length vs) → i < length params → i < length scalars → new ≡ set vs (get_or params i d).0 (get_or scalars i 0)
    → with_arguments (drop (i + 1) params) (drop (i + 1) scalars) (held new) ≡ with_arguments (drop i params) (drop i scalars) (held vs)
arguments_more params scalars i d vs new there h k e =
    ap (λ l. with_arguments (drop (i + 1) params) (drop (i + 1) scalars) (held l)) e
    ∙ ap (with_arguments (drop (i + 1) params) (drop (i + 1) scalars)) (held_set vs (get_or params i d).0 (get_or scalars i 0) (parameter_at params (length vs) i d there h))
    ∙ sym (ap (λ ps. with_arguments ps (drop i scalars) (held vs)) (drop_more params i d h) ∙ ap (λ xs. with_arguments (get_or params i d ∷ drop (i + 1) params) xs (held vs)) (drop_more scalars i 0 k))

pub arguments_past : (params : List VarId) (scalars : List ℕ) (i : ℕ) (f : ℕ → ℕ) → length scalars ≤ i → with_arguments (drop (i + 1) params) (drop (i + 1) scalars) f ≡ with_arguments (drop i params) (drop i scalars) f
arguments_past params scalars i f h =
    ap (λ xs. with_arguments (drop (i + 1) params) xs f) (drop_all (i + 1) scalars (omega arith)) ∙ arguments_none (drop (i + 1) params) f
    ∙ sym (ap (λ xs. with_arguments (drop i params) xs f) (drop_all i scalars h) ∙ arguments_none (drop i params) f)

pub held_zeros : (n : ℕ) → held (replicate {A = ℕ} n 0) ≡ (λ i. 0)
held_zeros n = λ j. λ i. zero_words n i j
