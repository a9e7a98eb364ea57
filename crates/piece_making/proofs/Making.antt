-- Single pieces, variables, arrays, calls and loops.
use Rattle.std.proofs.Common.{◌≡◌, ℕ, ◌+◌, ◌<◌, List, [], ◌∷◌, ◌++◌, length, map, refl, sym, ap, subst, ◌∙◌, arith, Option, Some, None}
use Rattle.std.specs.Prelude.{slice_set}
use Rattle.std.proofs.lemmas.Grind.{common_steps}
use Rattle.hls_base.specs.declared.number.VarId.{VarId}
use Rattle.hls_base.specs.declared.number.ArrayId.{ArrayId}
use Rattle.hls_base.specs.declared.number.LoopId.{LoopId}
use Rattle.c_token.specs.declared.ctype.CType.{CType}
use Rattle.pieces.specs.declared.piece.CallId.{CallId}
use Rattle.pieces.specs.Trees as tree
use Rattle.pieces.specs.Trees.{PureTree, PieceTree}
use Rattle.pieces.specs.Program.{ArrayTree}
use Rattle.piece_making.specs.declared.work.Slot.{Slot}
use Rattle.piece_making.specs.Making.{State, gives, emit, own_weight, label, declared, fresh, fresh_result, set_own, variable_number, array_number, add_array, new_slot, note_array, next_call, next_loop}
use Rattle.piece_making.proofs.Parts.{made_behind, nothing_made}
use Rattle.piece_making.specs.Stocks.{Stock, state_of, IsMade, IsTooHeavy}

appended_nothing : {A : Type 0} (xs : List A) → xs ≡ xs ++ []
appended_nothing xs = grind (arith, common_steps)

one_more : {A : Type 0} (ys xs : List A) (x : A) → ys ≡ xs ++ x ∷ [] → length ys ≡ length xs + 1
one_more ys xs x e = grind (arith, common_steps)

pub pushed : {A B : Type 0} (f : A → B) (xs : List A) (x : A) → map f (xs ++ x ∷ []) ≡ map f xs ++ f x ∷ []
pushed f xs x = grind (arith, common_steps)

pub as_many : {A B : Type 0} (f : A → B) (xs : List A) → length xs ≡ length (map f xs)
as_many f xs = grind (arith, common_steps)

-- all but the pieces, the labels and what is left
pub record IsAlike (old new : Stock) : Type 0 where
  pub at : new.at ≡ old.at
  pub variables : new.variables ≡ old.variables
  pub arrays : new.arrays ≡ old.arrays
  pub slots : new.slots ≡ old.slots
  pub calls : new.calls ≡ old.calls
  pub loops : new.loops ≡ old.loops

pub emitted : (old new : Stock) (piece : PieceTree) → new.out ≡ old.out ++ piece ∷ [] → new.labels ≡ old.labels → new.rest + own_weight piece ≡ old.rest → IsAlike old new
    → IsMade old new tt (emit piece (state_of old))
unfolding emit
emitted old new piece e f g same = record {
  value = refl;
  out = e;
  labels = f ∙ appended_nothing old.labels;
  rest = g;
  state = let n = one_more new.out old.out piece e in let a = same.variables in let b = same.arrays in let d = same.slots in let h = same.calls in let k = same.loops in cc;
  at = same.at;
}

pub too_heavy_piece : (old : Stock) (piece : PieceTree) → old.rest < own_weight piece → IsTooHeavy old (record { rule = 36; place = old.at }) (emit piece (state_of old))
unfolding emit
too_heavy_piece old piece e = record { heavy = e; rule = refl; at = refl }

pub labelled : (old new : Stock) (value : Option ℕ) → new.out ≡ old.out → new.labels ≡ old.labels ++ record { value = value; target = length old.out } ∷ [] → new.rest + 1 ≡ old.rest → IsAlike old new
    → IsMade old new tt (label value (state_of old))
unfolding label
labelled old new value e f g same = record {
  value = refl;
  out = e ∙ appended_nothing old.out;
  labels = f;
  rest = g;
  state = let n = ap length e in let a = same.variables in let b = same.arrays in let d = same.slots in let h = same.calls in let k = same.loops in cc;
  at = same.at;
}

pub too_heavy_label : (old : Stock) (value : Option ℕ) → old.rest < 1 → IsTooHeavy old (record { rule = 36; place = old.at }) (label value (state_of old))
unfolding label
too_heavy_label old value e = record { heavy = e; rule = refl; at = refl }

pub counted : (old new : Stock) (weight : ℕ) → new.out ≡ old.out → new.labels ≡ old.labels → new.rest + weight ≡ old.rest → IsAlike old new
    → IsMade old new tt (declared weight (state_of old))
unfolding declared
counted old new weight e f g same = record {
  value = refl;
  out = e ∙ appended_nothing old.out;
  labels = f ∙ appended_nothing old.labels;
  rest = g;
  state = let n = ap length e in let a = same.variables in let b = same.arrays in let d = same.slots in let h = same.calls in let k = same.loops in cc;
  at = same.at;
}

pub too_heavy_declaration : (old : Stock) (weight : ℕ) → old.rest < weight → IsTooHeavy old (record { rule = 36; place = old.at }) (declared weight (state_of old))
unfolding declared
too_heavy_declaration old weight e = record { heavy = e; rule = refl; at = refl }

-- only a table changes
pub tabled : {A : Type 0} (old new : Stock) (v w : A) (state : State)
    → v ≡ w → new.out ≡ old.out → new.labels ≡ old.labels → new.rest ≡ old.rest → new.at ≡ old.at → state_of new ≡ state
    → IsMade old new v (gives w state)
tabled old new v w state d e f g h k = record {
  value = d;
  out = e ∙ appended_nothing old.out;
  labels = f ∙ appended_nothing old.labels;
  rest = omega (arith, g);
  state = k;
  at = h;
}

pub freshened : (old new : Stock) (kind : CType) (v : VarId) → v ≡ variable_number (length old.variables) → new ≡ record old { variables = old.variables ++ kind ∷ [] }
    → IsMade old new v (fresh kind (state_of old))
unfolding fresh
freshened old new kind v e f = tabled old new v _ _ e (ap (λ (s : Stock). s.out) f) (ap (λ (s : Stock). s.labels) f) (ap (λ (s : Stock). s.rest) f) (ap (λ (s : Stock). s.at) f) (ap state_of f)

pub array_added : (old new : Stock) (a : ArrayTree) (v : ArrayId) → v ≡ array_number (length old.arrays) → new ≡ record old { arrays = old.arrays ++ a ∷ [] }
    → IsMade old new v (add_array a (state_of old))
unfolding add_array
array_added old new a v e f = tabled old new v _ _ e (ap (λ (s : Stock). s.out) f) (ap (λ (s : Stock). s.labels) f) (ap (λ (s : Stock). s.rest) f) (ap (λ (s : Stock). s.at) f) (ap state_of f)

pub slot_added : (old new : Stock) (v : Slot) → v ≡ record { 0 = length old.slots } → new ≡ record old { slots = old.slots ++ None ∷ [] }
    → IsMade old new v (new_slot (state_of old))
unfolding new_slot
slot_added old new v e f = tabled old new v _ _ e (ap (λ (s : Stock). s.out) f) (ap (λ (s : Stock). s.labels) f) (ap (λ (s : Stock). s.rest) f) (ap (λ (s : Stock). s.at) f) (ap state_of f)

pub slot_noted : (old new : Stock) (slot : Slot) (a : ArrayId) → new ≡ record old { slots = slice_set old.slots slot.0 (Some a) }
    → IsMade old new tt (note_array slot a (state_of old))
unfolding note_array
slot_noted old new slot a f = tabled old new tt _ _ refl (ap (λ (s : Stock). s.out) f) (ap (λ (s : Stock). s.labels) f) (ap (λ (s : Stock). s.rest) f) (ap (λ (s : Stock). s.at) f) (ap state_of f)

pub call_counted : (old new : Stock) (v : CallId) → v ≡ record { 0 = old.calls } → new ≡ record old { calls = old.calls + 1 }
    → IsMade old new v (next_call (state_of old))
unfolding next_call
call_counted old new v e f = tabled old new v _ _ e (ap (λ (s : Stock). s.out) f) (ap (λ (s : Stock). s.labels) f) (ap (λ (s : Stock). s.rest) f) (ap (λ (s : Stock). s.at) f) (ap state_of f)

pub loop_counted : (old new : Stock) (v : LoopId) → v ≡ record { 0 = old.loops } → new ≡ record old { loops = old.loops + 1 }
    → IsMade old new v (next_loop (state_of old))
unfolding next_loop
loop_counted old new v e f = tabled old new v _ _ e (ap (λ (s : Stock). s.out) f) (ap (λ (s : Stock). s.labels) f) (ap (λ (s : Stock). s.rest) f) (ap (λ (s : Stock). s.at) f) (ap state_of f)

pub result_fresh : (old new : Stock) (k : Option CType) (kind : CType) (own : VarId) → k ≡ Some kind → IsMade old new own (fresh kind (state_of old))
    → IsMade old new (Some own) (fresh_result k (state_of old))
unfolding fresh_result
result_fresh old new k kind own e h = subst (λ (x : Option CType). IsMade old new (Some own) (fresh_result x (state_of old))) (sym e) (made_behind _ _ _ _ _ _ _ h (nothing_made _ _))

pub result_none : (old : Stock) (k : Option CType) → k ≡ None → IsMade old old None (fresh_result k (state_of old))
unfolding fresh_result
result_none old k e = subst (λ (x : Option CType). IsMade old old None (fresh_result x (state_of old))) (sym e) (nothing_made _ _)

pub own_set : (old mid new : Stock) (kind : CType) (value z : PureTree) (own : VarId) (u : Unit {0}) → z ≡ tree.variable own kind
    → IsMade old mid own (fresh kind (state_of old)) → IsMade mid new u (emit (tree.set own value) (state_of mid)) → IsMade old new z (set_own kind value (state_of old))
unfolding set_own
own_set old mid new kind value z own u e h k =
    subst (λ (x : PureTree). IsMade old new x (set_own kind value (state_of old))) (sym e) (made_behind _ _ _ _ _ _ _ h (made_behind _ _ _ _ _ _ _ k (nothing_made _ _)))
