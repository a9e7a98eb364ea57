-- Declarations one over the other, and the map of the latest ones.
use Rattle.std.proofs.Common.{◌≡◌, ℕ, zero, suc, ◌+◌, ◌-◌, ◌<◌, Bool, true, false, List, [], ◌∷◌, ◌++◌, length, map, reverse, take, drop, get_or, Option, Some, None, is_some, nat_le, true≢false, refl, sym, ap, subst, ◌∙◌, arith, add-one, bytes_eq, if◌then◌else◌}
use Rattle.std.proofs.Math.ListN.{get_or-append}
use Rattle.std.proofs.Math.Seq.{get_or-append_seam}
use Rattle.std.proofs.lemmas.List.{reverse-append, reverse-reverse, length-reverse, length-map}
use Rattle.std.proofs.lemmas.Slice.Eq.{bytes_eq-Decides}
use Rattle.std.specs.Map.{set_value}
use Rattle.std.specs.declared.alloc.Global.{Global}
use Rattle.std.specs.declared.vec.Vec.{Vec}
use Rattle.indexmap.specs.IndexMap.{insert_entry}
use Rattle.c_meaning.specs.Checks.Names.{Declared, sense_of, is_declared_since}
use Rattle.c_names.specs.declared.declarations.names.Layer.{Layer}
use Rattle.c_names.specs.Declarations.Entries.{Entries, entry_in, index_found, index_in}
use Rattle.c_names.specs.Declarations.Layers.{visible, latest_of, KnowHidden, IsIndexed}

-- ---- the map

abbrev Key : Type 0
Key = Vec ℕ Global

abbrev pub same_key : Key → Key → Bool
same_key x y = bytes_eq x.items y.items

same : (x y : List ℕ) → bytes_eq x y ≡ true → x ≡ y
same x y h = (bytes_eq-Decides x y).0 h

itself : (x : List ℕ) → bytes_eq x x ≡ true
itself x = (bytes_eq-Decides x x).1 refl

-- a name that is one of two different ones is not the other
apart : (q k e : List ℕ) → bytes_eq k e ≡ false → bytes_eq q e ≡ true → bytes_eq q k ≡ false
apart q k e f t = by (bytes_eq q k) refl
  where
    by : (b : Bool) → bytes_eq q k ≡ b → b ≡ false
    by false h = refl
    by true h = absurd (true≢false (sym (subst (λ z. bytes_eq z e ≡ true) (same q k h) t) ∙ f))

-- an entry in front, which the name is or is not
front : (b : Bool) (x v : Option ℕ) (rest : Option (Option ℕ)) → index_found (if b then Some x else rest) ≡ (if b then x else index_found rest)
front true x v rest = refl
front false x v rest = refl

replaced : (b : Bool) (v x : Option ℕ) (rest : Option (Option ℕ)) → index_found (if b then Some v else rest) ≡ (if b then v else index_found (if b then Some x else rest))
replaced true v x rest = refl
replaced false v x rest = refl

kept : (qe qk : Bool) (v x : Option ℕ) (new old : Option (Option ℕ)) → (qe ≡ true → qk ≡ false) → index_found new ≡ (if qk then v else index_found old)
    → index_found (if qe then Some x else new) ≡ (if qk then v else index_found (if qe then Some x else old))
kept true qk v x new old other h = rw (other refl) refl
kept false qk v x new old other h = h

pub index-insert : (es : Entries) (k : Key) (v : Option ℕ) (q : List ℕ) → index_in q (insert_entry same_key es k v) ≡ (if bytes_eq q k.items then v else index_in q es)
index-insert [] k v q = front (bytes_eq q k.items) v v None
index-insert (e ∷ es) k v q = by (same_key k e.0) refl (index-insert es k v q)
  where
    by : (b : Bool) → same_key k e.0 ≡ b → index_in q (insert_entry same_key es k v) ≡ (if bytes_eq q k.items then v else index_in q es)
        → index_in q (insert_entry same_key (e ∷ es) k v) ≡ (if bytes_eq q k.items then v else index_in q (e ∷ es))
    by true h rest = rw h (rw (ap (bytes_eq q) (same k.items e.0.items h)) (replaced (bytes_eq q e.0.items) v e.1 (entry_in q es)))
    by false h rest = rw h (kept (bytes_eq q e.0.items) (bytes_eq q k.items) v e.1 (entry_in q (insert_entry same_key es k v)) (entry_in q es) (apart q k.items e.0.items h) rest)

pub index-set_value : (es : Entries) (name : List ℕ) (w : Option ℕ) (q : List ℕ) → is_some (entry_in name es) ≡ true → index_in q (set_value (λ (key : Key). bytes_eq name key.items) es w) ≡ (if bytes_eq q name then w else index_in q es)
index-set_value [] name w q some = absurd (true≢false (sym some))
index-set_value (e ∷ es) name w q some = by (bytes_eq name e.0.items) refl (λ there. index-set_value es name w q there)
  where
    by : (b : Bool) → bytes_eq name e.0.items ≡ b
        → (is_some (entry_in name es) ≡ true → index_in q (set_value (λ (key : Key). bytes_eq name key.items) es w) ≡ (if bytes_eq q name then w else index_in q es))
        → index_in q (set_value (λ (key : Key). bytes_eq name key.items) (e ∷ es) w) ≡ (if bytes_eq q name then w else index_in q (e ∷ es))
    by true h rest = rw h (rw (ap (bytes_eq q) (same name e.0.items h)) (replaced (bytes_eq q e.0.items) w e.1 (entry_in q es)))
    by false h rest =
        let there : is_some (entry_in name es) ≡ true = rw h at some in
        rw h (kept (bytes_eq q e.0.items) (bytes_eq q name) w e.1 (entry_in q (set_value (λ (key : Key). bytes_eq name key.items) es w)) (entry_in q es) (apart q name e.0.items h) (rest there))

-- ---- the latest declaration

abbrev declared : List Layer → List Declared
declared rs = map (λ l. l.declared) rs

pub none_there : (name : List ℕ) (rs : List Layer) → latest_of name rs ≡ None → sense_of name (declared rs) ≡ None
none_there name [] e = refl
none_there name (l ∷ ls) e = by (bytes_eq name l.declared.name) refl (none_there name ls)
  where
    by : (b : Bool) → bytes_eq name l.declared.name ≡ b → (latest_of name ls ≡ None → sense_of name (declared ls) ≡ None) → sense_of name (declared (l ∷ ls)) ≡ None
    by true h rest = absurd (let f : Some (length ls) ≡ None = rw h at e in cc)
    by false h rest = rw h (rest (rw h at e))

pub index_below : (name : List ℕ) (rs : List Layer) (i : ℕ) → latest_of name rs ≡ Some i → i < length rs
index_below name [] i e = absurd cc
index_below name (l ∷ ls) i e = by (bytes_eq name l.declared.name) refl (index_below name ls i)
  where
    by : (b : Bool) → bytes_eq name l.declared.name ≡ b → (latest_of name ls ≡ Some i → i < length ls) → i < suc (length ls)
    by true h rest = let f : Some (length ls) ≡ Some i = rw h at e in let g : length ls ≡ i = cc in omega arith
    by false h rest = let lt = rest (rw h at e) in omega arith

pub sense_there : (name : List ℕ) (rs : List Layer) (i : ℕ) (d : Layer) → latest_of name rs ≡ Some i → sense_of name (declared rs) ≡ Some (get_or (reverse rs) i d).declared.sense
sense_there name [] i d e = absurd cc
sense_there name (l ∷ ls) i d e = by (bytes_eq name l.declared.name) refl (sense_there name ls i d)
  where
    turned : reverse (l ∷ ls) ≡ reverse ls ++ l ∷ []
    turned = reverse-append (l ∷ []) ls

    by : (b : Bool) → bytes_eq name l.declared.name ≡ b → (latest_of name ls ≡ Some i → sense_of name (declared ls) ≡ Some (get_or (reverse ls) i d).declared.sense)
        → sense_of name (declared (l ∷ ls)) ≡ Some (get_or (reverse (l ∷ ls)) i d).declared.sense
    by true h inner =
        let f : Some (length ls) ≡ Some i = rw h at e in
        let g : length (reverse ls) ≡ i = length-reverse ls ∙ cc in
        let found : get_or (reverse (l ∷ ls)) i d ≡ l = ap (λ xs. get_or xs i d) turned ∙ ap (λ k. get_or (reverse ls ++ l ∷ []) k d) (sym g) ∙ get_or-append_seam (reverse ls) l [] d in
        rw h (ap (λ x. Some x.declared.sense) (sym found))
    by false h inner =
        let rest : latest_of name ls ≡ Some i = rw h at e in
        let lt : i < length (reverse ls) = let below = index_below name ls i rest in let long = length-reverse ls in omega arith in
        let found : get_or (reverse (l ∷ ls)) i d ≡ get_or (reverse ls) i d = ap (λ xs. get_or xs i d) turned ∙ get_or-append (reverse ls) (l ∷ []) d i lt in
        rw h (inner rest ∙ ap (λ x. Some x.declared.sense) (sym found))

-- ---- the names since a place

below_all : (n i m : ℕ) → i < n → nat_le n (i + (n - m)) ≡ nat_le m i
below_all n i m lt = grind arith

one_deeper : (n i m : ℕ) → nat_le n (i + m) ≡ nat_le (suc n) (i + suc m)
one_deeper n i m = grind arith

none_taken : (m : ℕ) (name : List ℕ) (rs : List Layer) → latest_of name rs ≡ None → is_some (sense_of name (take m (declared rs))) ≡ false
none_taken zero name rs e = refl
none_taken (suc m) name [] e = refl
none_taken (suc m) name (l ∷ ls) e = by (bytes_eq name l.declared.name) refl (none_taken m name ls)
  where
    by : (b : Bool) → bytes_eq name l.declared.name ≡ b → (latest_of name ls ≡ None → is_some (sense_of name (take m (declared ls))) ≡ false) → is_some (sense_of name (take (suc m) (declared (l ∷ ls)))) ≡ false
    by true h rest = absurd (let f : Some (length ls) ≡ None = rw h at e in cc)
    by false h rest = rw h (rest (rw h at e))

index_taken : (m : ℕ) (name : List ℕ) (rs : List Layer) (i : ℕ) → latest_of name rs ≡ Some i → is_some (sense_of name (take m (declared rs))) ≡ nat_le (length rs) (i + m)
index_taken zero name rs i e = let lt = index_below name rs i e in grind arith
index_taken (suc m) name [] i e = absurd cc
index_taken (suc m) name (l ∷ ls) i e = by (bytes_eq name l.declared.name) refl (index_taken m name ls i)
  where
    by : (b : Bool) → bytes_eq name l.declared.name ≡ b → (latest_of name ls ≡ Some i → is_some (sense_of name (take m (declared ls))) ≡ nat_le (length ls) (i + m)) → is_some (sense_of name (take (suc m) (declared (l ∷ ls)))) ≡ nat_le (suc (length ls)) (i + suc m)
    by true h rest = let f : Some (length ls) ≡ Some i = rw h at e in let g : length ls ≡ i = cc in rw h (grind arith)
    by false h rest = rw h (rest (rw h at e) ∙ one_deeper (length ls) i m)

pub none_since : (start : ℕ) (name : List ℕ) (rs : List Layer) → latest_of name rs ≡ None → is_declared_since start name (declared rs) ≡ false
none_since start name rs e = none_taken (length (declared rs) - start) name rs e

pub index_since : (start : ℕ) (name : List ℕ) (rs : List Layer) (i : ℕ) → latest_of name rs ≡ Some i → is_declared_since start name (declared rs) ≡ nat_le start i
index_since start name rs i e =
    index_taken (length (declared rs) - start) name rs i e
    ∙ ap (λ k. nat_le (length rs) (i + (k - start))) (length-map rs (λ l. l.declared))
    ∙ below_all (length rs) i start (index_below name rs i e)

-- ---- what the map's clauses say

module _ (layers : List Layer) (es : Entries) (ok : IsIndexed layers es) (name : List ℕ) where
  in_layers : (found : Option ℕ) → found ≡ index_in name es → latest_of name (reverse layers) ≡ found
  in_layers found e = sym (ok.latest name) ∙ sym e

  pub index_within : (i : ℕ) → Some i ≡ index_in name es → i < length layers
  index_within i e = let lt = index_below name (reverse layers) i (in_layers (Some i) e) in let same = length-reverse layers in omega arith

  pub sense_at : (i : ℕ) (d : Layer) → Some i ≡ index_in name es → sense_of name (visible layers) ≡ Some (get_or layers i d).declared.sense
  sense_at i d e = sense_there name (reverse layers) i d (in_layers (Some i) e) ∙ ap (λ xs. Some (get_or xs i d).declared.sense) (reverse-reverse layers)

  pub no_sense : None ≡ index_in name es → sense_of name (visible layers) ≡ None
  no_sense e = none_there name (reverse layers) (in_layers None e)

  pub since_at : (start i : ℕ) → Some i ≡ index_in name es → is_declared_since start name (visible layers) ≡ nat_le start i
  since_at start i e = index_since start name (reverse layers) i (in_layers (Some i) e)

  pub not_since : (start : ℕ) → None ≡ index_in name es → is_declared_since start name (visible layers) ≡ false
  not_since start e = none_since start name (reverse layers) (in_layers None e)

-- a declaration more
pub pushed : (layers : List Layer) (es es' : Entries) (l : Layer) (key : Key) → IsIndexed layers es → key.items ≡ l.declared.name → l.hidden ≡ index_in l.declared.name es
    → es' ≡ insert_entry same_key es key (Some (length layers)) → IsIndexed (layers ++ l ∷ []) es'
pushed layers es es' l key ok same hides put = record { latest = latest; hidden = hidden }
  where
    turned : reverse (layers ++ l ∷ []) ≡ l ∷ reverse layers
    turned = reverse-append layers (l ∷ [])

    latest : (name : List ℕ) → index_in name es' ≡ latest_of name (reverse (layers ++ l ∷ []))
    latest name =
        ap (index_in name) put ∙ index-insert es key (Some (length layers)) name
        ∙ ap (λ k. if bytes_eq name k then Some (length layers) else index_in name es) same
        ∙ ap (λ o. if bytes_eq name l.declared.name then Some (length layers) else o) (ok.latest name)
        ∙ ap (λ n. if bytes_eq name l.declared.name then Some n else latest_of name (reverse layers)) (sym (length-reverse layers))
        ∙ ap (latest_of name) (sym turned)

    hidden : KnowHidden (reverse (layers ++ l ∷ []))
    hidden = subst KnowHidden (sym turned) (hides ∙ ok.latest l.declared.name, ok.hidden)

-- the latest declaration less
there : (name : List ℕ) (es : Entries) (i : ℕ) → index_in name es ≡ Some i → is_some (entry_in name es) ≡ true
there name es i e = by (entry_in name es) e
  where
    by : (o : Option (Option ℕ)) → index_found o ≡ Some i → is_some o ≡ true
    by None f = absurd cc
    by (Some x) f = refl

pub popped : (layers : List Layer) (es es' : Entries) (l : Layer) → IsIndexed (layers ++ l ∷ []) es
    → ((name : List ℕ) → index_in name es' ≡ (if bytes_eq name l.declared.name then l.hidden else index_in name es)) → IsIndexed layers es'
popped layers es es' l ok put = record { latest = latest; hidden = parts.1 }
  where
    turned : reverse (layers ++ l ∷ []) ≡ l ∷ reverse layers
    turned = reverse-append layers (l ∷ [])

    parts : KnowHidden (l ∷ reverse layers)
    parts = subst KnowHidden turned ok.hidden

    known : (name : List ℕ) → index_in name es ≡ latest_of name (l ∷ reverse layers)
    known name = ok.latest name ∙ ap (latest_of name) turned

    latest : (name : List ℕ) → index_in name es' ≡ latest_of name (reverse layers)
    latest name = put name ∙ by (bytes_eq name l.declared.name) refl
      where
        by : (b : Bool) → bytes_eq name l.declared.name ≡ b → (if b then l.hidden else index_in name es) ≡ latest_of name (reverse layers)
        by true h = parts.0 ∙ ap (λ n. latest_of n (reverse layers)) (sym (same name l.declared.name h))
        by false h = known name ∙ rw h refl

-- the map has the name of the latest declaration
pub has_latest : (layers : List Layer) (es : Entries) (l : Layer) → IsIndexed (layers ++ l ∷ []) es → is_some (entry_in l.declared.name es) ≡ true
has_latest layers es l ok =
    there l.declared.name es (length (reverse layers)) (ok.latest l.declared.name ∙ ap (latest_of l.declared.name) (reverse-append layers (l ∷ [])) ∙ rw (itself l.declared.name) refl)

pub drop_one : {A : Type 0} (i : ℕ) (xs : List A) → drop 1 (drop i xs) ≡ drop (i + 1) xs
drop_one zero xs = refl
drop_one (suc i) [] = ap (λ k. drop k []) (sym (add-one (suc i)))
drop_one (suc i) (x ∷ xs) = drop_one i xs ∙ ap (λ k. drop k xs) (add-one i) ∙ ap (λ k. drop k (x ∷ xs)) (sym (add-one (suc i)))

pub visible_pushed : (layers : List Layer) (l : Layer) → visible (layers ++ l ∷ []) ≡ l.declared ∷ visible layers
visible_pushed layers l = ap (map (λ x. x.declared)) (reverse-append layers (l ∷ []))

pub length_visible : (layers : List Layer) → length (visible layers) ≡ length layers
length_visible layers = length-map (reverse layers) (λ l. l.declared) ∙ length-reverse layers
