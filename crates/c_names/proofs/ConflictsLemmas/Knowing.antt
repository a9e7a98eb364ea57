-- The map of names of some accesses, when one access comes in front or behind.
use Rattle.std.proofs.Common.{◌≡◌, ℕ, ◌||◌, Bool, true, false, List, [], ◌∷◌, ◌++◌, Option, Some, None, is_some, bytes_eq, true≢false, refl, sym, ap, subst, ◌∙◌, if◌then◌else◌}
use Rattle.std.specs.List.{list_any}
use Rattle.std.specs.declared.alloc.Global.{Global}
use Rattle.std.specs.declared.vec.Vec.{Vec}
use Rattle.std.proofs.lemmas.Slice.Eq.{bytes_eq-Decides}
use Rattle.std.proofs.lemmas.List.Folds.{list_any-append}
use Rattle.indexmap.specs.IndexMap.{insert_entry}
use Rattle.hls_base.specs.declared.refusal.Refusal.{Refusal}
use Rattle.c_meaning.specs.Checks.Faults.{lesser, least}
use Rattle.c_meaning.specs.Checks.Conflicts.{Access, read, change, name_of, names_it, clash, clashes}
use Rattle.c_names.specs.Conflicts.Known.{Faults, fault_entry, found, change_fault, Knows}
use Rattle.c_names.proofs.DeclarationsLemmas.Least.{lesser_assoc, least_append}
use Rattle.c_names.proofs.ConflictsLemmas.Conflicting.{lesser_turned, bytes_turned}

abbrev Key : Type 0
Key = Vec ℕ Global

abbrev pub same_key : Key → Key → Bool
same_key x y = bytes_eq x.items y.items

same : (x y : List ℕ) → bytes_eq x y ≡ true → x ≡ y
same x y h = (bytes_eq-Decides x y).0 h

apart : (q k e : List ℕ) → bytes_eq k e ≡ false → bytes_eq q e ≡ true → bytes_eq q k ≡ false
apart q k e f t = by (bytes_eq q k) refl
  where
    by : (b : Bool) → bytes_eq q k ≡ b → b ≡ false
    by false h = refl
    by true h = absurd (true≢false (sym (subst (λ z. bytes_eq z e ≡ true) (same q k h) t) ∙ f))

replaced : {V : Type 0} (b : Bool) (v x : V) (rest : Option V) → (if b then Some v else rest) ≡ (if b then Some v else (if b then Some x else rest))
replaced true v x rest = refl
replaced false v x rest = refl

kept : {V : Type 0} (qe qk : Bool) (v x : V) (new old : Option V) → (qe ≡ true → qk ≡ false) → new ≡ (if qk then Some v else old) → (if qe then Some x else new) ≡ (if qk then Some v else (if qe then Some x else old))
kept true qk v x new old other h = rw (other refl) refl
kept false qk v x new old other h = h

pub entry-insert : (es : Faults) (k : Key) (v : Option Refusal) (q : List ℕ) → fault_entry q (insert_entry same_key es k v) ≡ (if bytes_eq q k.items then Some v else fault_entry q es)
entry-insert [] k v q = refl
entry-insert (e ∷ es) k v q = by (same_key k e.0) refl (entry-insert es k v q)
  where
    by : (b : Bool) → same_key k e.0 ≡ b → fault_entry q (insert_entry same_key es k v) ≡ (if bytes_eq q k.items then Some v else fault_entry q es)
        → fault_entry q (insert_entry same_key (e ∷ es) k v) ≡ (if bytes_eq q k.items then Some v else fault_entry q (e ∷ es))
    by true h rest = rw h (rw (ap (bytes_eq q) (same k.items e.0.items h)) (replaced (bytes_eq q e.0.items) v e.1 (fault_entry q es)))
    by false h rest = rw h (kept (bytes_eq q e.0.items) (bytes_eq q k.items) v e.1 (fault_entry q (insert_entry same_key es k v)) (fault_entry q es) (apart q k.items e.0.items h) rest)

pub knows_none : Knows [] []
knows_none = record { named = λ name. refl; changed = λ name. refl }

-- a name that is not the access's own
not_own : (a : Access) (name : List ℕ) → bytes_eq name (name_of a) ≡ false → least (clash a (read name ∷ [])) ≡ None
not_own (read other) name h = refl
not_own (change other at) name h = rw (bytes_turned other name ∙ h) refl

module _ (a : Access) (accesses : List Access) (old new : Faults) (knows : Knows accesses old)
    (noted : (q : List ℕ) → fault_entry q new ≡ (if bytes_eq q (name_of a) then Some (lesser (least (clash a (read (name_of a) ∷ []))) (found (fault_entry (name_of a) old))) else fault_entry q old)) where
  named_more : (q : List ℕ) (b : Bool) → bytes_eq q (name_of a) ≡ b → is_some (fault_entry q new) ≡ (b || list_any (names_it q) accesses)
  named_more q true h = rw (noted q) (rw h refl)
  named_more q false h = rw (noted q) (rw h (knows.named q))

  changed_more : (q : List ℕ) (b : Bool) → bytes_eq q (name_of a) ≡ b → found (fault_entry q new) ≡ lesser (least (clash a (read q ∷ []))) (change_fault q accesses)
  changed_more q true h =
      let is : name_of a ≡ q = sym (same q (name_of a) h) in
      ap found (noted q ∙ ap (λ c. if c then Some (lesser (least (clash a (read (name_of a) ∷ []))) (found (fault_entry (name_of a) old))) else fault_entry q old) h)
      ∙ ap (λ n. lesser (least (clash a (read n ∷ []))) (found (fault_entry n old))) is
      ∙ ap (lesser (least (clash a (read q ∷ [])))) (knows.changed q)
  changed_more q false h =
      ap found (noted q ∙ ap (λ c. if c then Some (lesser (least (clash a (read (name_of a) ∷ []))) (found (fault_entry (name_of a) old))) else fault_entry q old) h)
      ∙ knows.changed q
      ∙ ap (λ x. lesser x (change_fault q accesses)) (sym (not_own a q h))

  pub knows_first : Knows (a ∷ accesses) new
  knows_first = record {
    named = λ q. named_more q (bytes_eq q (name_of a)) refl;
    changed = λ q. changed_more q (bytes_eq q (name_of a)) refl ∙ sym (least_append (clash a (read q ∷ [])) (clashes accesses (read q ∷ [])));
  }

  last_any : (b c : Bool) → (b || c) ≡ (c || (b || false))
  last_any true true = refl
  last_any true false = refl
  last_any false true = refl
  last_any false false = refl

  changed_last : (q : List ℕ) (xs : List Access) → change_fault q (xs ++ a ∷ []) ≡ lesser (change_fault q xs) (least (clash a (read q ∷ [])))
  changed_last q [] = least_append (clash a (read q ∷ [])) [] ∙ lesser_turned (least (clash a (read q ∷ []))) None
  changed_last q (x ∷ xs) =
      least_append (clash x (read q ∷ [])) (clashes (xs ++ a ∷ []) (read q ∷ []))
      ∙ ap (lesser (least (clash x (read q ∷ [])))) (changed_last q xs)
      ∙ sym (lesser_assoc (least (clash x (read q ∷ []))) (change_fault q xs) (least (clash a (read q ∷ []))))
      ∙ ap (λ r. lesser r (least (clash a (read q ∷ [])))) (sym (least_append (clash x (read q ∷ [])) (clashes xs (read q ∷ []))))

  pub knows_last : Knows (accesses ++ a ∷ []) new
  knows_last = record {
    named = λ q. named_more q (bytes_eq q (name_of a)) refl ∙ last_any (bytes_eq q (name_of a)) (list_any (names_it q) accesses) ∙ sym (list_any-append (names_it q) accesses (a ∷ []));
    changed = λ q. changed_more q (bytes_eq q (name_of a)) refl ∙ lesser_turned (least (clash a (read q ∷ []))) (change_fault q accesses) ∙ sym (changed_last q accesses);
  }
