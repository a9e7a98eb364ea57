-- The table of calls as the map of its entries.
use Rattle.std.proofs.Common.{◌≡◌, ◌≢◌, ℕ, zero, suc, ◌∙◌, sym, refl, ap, subst, inl, inr, List, [], ◌∷◌, ◌++◌, length, get_or, false, Option, Some, None, arith, true≢false}
use Rattle.std.specs.Prelude.{slice_get, position, is_some}
use Rattle.std.specs.Map.{keys_of, lookup}
use Rattle.std.proofs.lemmas.Bool.{cases_Bool}
use Rattle.std.proofs.lemmas.List.Quantifiers.{position-Some}
use Rattle.indexmap.specs.IndexMap.{insert_entry}
use Rattle.hls_base.specs.declared.place.Place.{Place}
use Rattle.c_machine.specs.declared.state.meter.Call.{Call}
use Rattle.c_machine.specs.State.PassedPaths.{PathTable, path_of, IsNumber, IsPathTable, Extends}
use Rattle.c_machine.proofs.StateLemmas.SameKeys.{call_eq, call_eq-Decides}
use Rattle.c_machine.proofs.StateLemmas.PathNumbers.{Entry, back, entry_at, table-new}

keys-length : (calls : PathTable) → length (keys_of calls) ≡ length calls
keys-length [] = refl
keys-length (e ∷ calls) = omega (arith, keys-length calls)

key_at : (calls : PathTable) (i : ℕ) (d : Call) (e : Entry) → slice_get calls i ≡ Some e → get_or (keys_of calls) i d ≡ e.0
key_at [] i d e h = absurd cc
key_at (f ∷ calls) zero d e h = let same : f ≡ e = cc in ap (λ (g : Entry). g.0) same
key_at (f ∷ calls) (suc i) d e h = key_at calls i d e h

entry_parts : (e : Entry) (call : Call) (path : List Place) → e.0 ≡ call → e.1 ≡ path → e ≡ (call, path)
entry_parts e call path h g = λ j. (h j, g j)

-- the number of a call that is known
pub found_call : (calls : PathTable) (call : Call) (path : List Place) (i : ℕ) → IsPathTable calls → path ≡ path_of calls call.caller ++ call.at ∷ []
    → Some i ≡ position (call_eq call) (keys_of calls) → slice_get calls i ≡ Some (call, path)
found_call calls call path i table is found =
    let p = position-Some (call_eq call) (keys_of calls) i call (sym found) in
    let f = entry_at calls i (omega (arith, p.0, keys-length calls)) in
    let same : call ≡ f.0.0 = (call_eq-Decides call f.0.0).0 (ap (call_eq call) (sym (key_at calls i call f.0 f.1)) ∙ p.1) in
    let whole : f.0.1 ≡ path = table.chained i f.0 f.1 ∙ (ap (λ (c : Call). path_of calls c.caller ++ c.at ∷ []) (sym same) ∙ sym is) in
    f.1 ∙ ap (λ e. Some e) (entry_parts f.0 call path (sym same) whole)

absent : (calls : PathTable) (call : Call) → lookup (call_eq call) calls ≡ None → (i : ℕ) (e : Entry) → slice_get calls i ≡ Some e → e.0 ≢ call
absent [] call none i e h = absurd cc
absent (f ∷ calls) call none zero e h =
    elim (cases_Bool (call_eq call f.0)) [
      | inl t ↦ absurd (let g : Some f.1 ≡ None = rw t at none in cc)
      | inr u ↦ λ same. let is : f ≡ e = cc in true≢false (sym ((call_eq-Decides call f.0).1 (sym same ∙ ap (λ (g : Entry). g.0) (sym is))) ∙ u)
    ]
absent (f ∷ calls) call none (suc i) e h =
    elim (cases_Bool (call_eq call f.0)) [
      | inl t ↦ absurd (let g : Some f.1 ≡ None = rw t at none in cc)
      | inr u ↦ absent calls call (let g : lookup (call_eq call) calls ≡ None = rw u at none in g) i e h
    ]

last : (calls : PathTable) (call : Call) (path : List Place) → lookup (call_eq call) calls ≡ None → insert_entry call_eq calls call path ≡ calls ++ (call, path) ∷ []
last [] call path none = refl
last (f ∷ calls) call path none =
    elim (cases_Bool (call_eq call f.0)) [
      | inl t ↦ absurd (let g : Some f.1 ≡ None = rw t at none in cc)
      | inr u ↦ rw u (ap (λ es. f ∷ es) (last calls call path (let g : lookup (call_eq call) calls ≡ None = rw u at none in g)))
    ]

none_found : (o : Option (List Place)) → false ≡ is_some o → o ≡ None
none_found None h = refl
none_found (Some x) h = absurd cc

-- a call that is added
pub record Added (old new : PathTable) (n : ℕ) (call : Call) (path : List Place) : Type 0 where
  pub table : IsPathTable new
  pub kept : Extends old new
  pub number : slice_get new n ≡ Some (call, path)

pub added_call : (old new : PathTable) (n : ℕ) (call : Call) (path stored : List Place) → IsPathTable old → IsNumber old call.caller → path ≡ path_of old call.caller ++ call.at ∷ []
    → false ≡ is_some (lookup (call_eq call) old) → n ≡ length old → stored ≡ path → new ≡ insert_entry call_eq old call stored → Added old new n call path
added_call old new n call path stored table number is absent_call at same inserted =
    let none = none_found (lookup (call_eq call) old) absent_call in
    let whole : new ≡ old ++ (call, path) ∷ [] = inserted ∙ (ap (insert_entry call_eq old call) same ∙ last old call path none) in
    record {
      table = subst IsPathTable (sym whole) (table-new old call path table number is (absent old call none));
      kept = record { added = (call, path) ∷ []; is = whole };
      number = ap (λ t. slice_get t n) whole ∙ back old (call, path) n at;
    }
