-- The table of macros as the map of its entries, and what is left of it while words are hidden.
use Rattle.std.proofs.Common.{◌≡◌, ℕ, zero, suc, ◌<◌, ◌≤◌, ◌∙◌, sym, refl, ap, subst, Bool, true, false, List, [], ◌∷◌, ◌++◌, length, get_or, Option, Some, None, arith}
use Rattle.std.specs.Prelude.{bytes_eq, option_map, is_some, slice_get, slice_set}
use Rattle.std.specs.List.{IsDistinct, AllByRecursion, position}
use Rattle.std.specs.Map.{keys_of, values_of, lookup, remove_entry}
use Rattle.std.proofs.lemmas.List.Quantifiers.{position-Some}
use Rattle.std.proofs.lemmas.Slice.Eq.{bytes_eq-Decides}
use denote.Ref.{Bor}
use Rattle.indexmap.specs.IndexMap.{insert_entry}
use Rattle.c_token.specs.declared.token.Token.{Token}
use Rattle.c_token.specs.declared.token.TokenKind.TheVariants as k
use Rattle.c_token.specs.Replacement.{Table, find_word, without}
use Rattle.c_macro.specs.Tables.{table_of}
use Rattle.c_macro.specs.Views.{visible, IsVisible}

abbrev pub Key : Type 0
Key = Bor (List ℕ)

abbrev pub Body : Type 0
Body = Bor (List Token)

abbrev pub same_key : Key → Key → Bool
same_key x y = bytes_eq x.now y.now

-- ---- the map

pub find_word-table_of : (word : List ℕ) (es : List (Key × Body)) → find_word word (table_of es) ≡ option_map (λ body. body.now) (lookup (λ key. bytes_eq word key.now) es)
find_word-table_of word [] = refl
find_word-table_of word (e ∷ es) = grind (arith, find_word-table_of word es)

pub without-table_of : (word : List ℕ) (es : List (Key × Body)) → without word (table_of es) ≡ table_of (remove_entry (λ key. bytes_eq word key.now) es)
without-table_of word [] = refl
without-table_of word (e ∷ es) = grind (arith, without-table_of word es)

pub table_of-insert : (key : Key) (body : Body) (es : List (Key × Body)) → find_word key.now (table_of es) ≡ None
    → table_of (insert_entry same_key es key body) ≡ table_of es ++ (key.now, body.now) ∷ []
table_of-insert key body [] h = refl
table_of-insert key body (e ∷ es) h = grind (arith, table_of-insert key body es)

-- ---- distinct words

abbrev pub AreDistinct : Table → Type 0
AreDistinct [] = Unit {0}
AreDistinct (row ∷ rows) = (find_word row.0 rows ≡ None) × AreDistinct rows

none_among : (key : Key) (es : List (Key × Body)) → AllByRecursion (λ other. same_key key other ≡ false) (keys_of es) → find_word key.now (table_of es) ≡ None
none_among key [] h = refl
none_among key (e ∷ es) h = let none = none_among key es h.1 in rw h.0 none

pub distinct-table_of : (es : List (Key × Body)) → IsDistinct same_key (keys_of es) → AreDistinct (table_of es)
unfolding IsDistinct
distinct-table_of [] h = tt
distinct-table_of (e ∷ es) h = (none_among e.0 es h.0, distinct-table_of es h.1)

-- ---- the number of a word

abbrev pub IsAt : List ℕ → ℕ → Table → Type 0
IsAt word i [] = ⊥
IsAt word zero (row ∷ rows) = bytes_eq word row.0 ≡ true
IsAt word (suc i) (row ∷ rows) = (bytes_eq word row.0 ≡ false) × IsAt word i rows

at_first : (word : List ℕ) (es : List (Key × Body)) (i : ℕ) (d : Key) → i < length (keys_of es) → bytes_eq word (get_or (keys_of es) i d).now ≡ true
    → ((j : ℕ) → j < i → bytes_eq word (get_or (keys_of es) j d).now ≡ false) → IsAt word i (table_of es)
at_first word [] i d l t f = absurd (omega arith)
at_first word (e ∷ es) zero d l t f = t
at_first word (e ∷ es) (suc i) d l t f = (f 0 (omega arith), at_first word es i d (omega arith) t (λ j h. f (suc j) (omega arith)))

pub at_position : (word : List ℕ) (es : List (Key × Body)) (i : ℕ) (d : Key) → position (λ key. bytes_eq word key.now) (keys_of es) ≡ Some i → IsAt word i (table_of es)
at_position word es i d e =
    let p = position-Some (λ key. bytes_eq word key.now) (keys_of es) i d e in
    at_first word es i d p.0 p.1 p.2

pub at_within : (word : List ℕ) (i : ℕ) (table : Table) → IsAt word i table → i < length table
at_within word i [] h = absurd h
at_within word zero (row ∷ rows) h = omega arith
at_within word (suc i) (row ∷ rows) h = let l = at_within word i rows h.1 in omega arith

-- ---- hidden words

pub absent_word : (word : List ℕ) (flags : List Bool) (table : Table) → find_word word table ≡ None → find_word word (visible flags table) ≡ None
absent_word word [] table h = h
absent_word word (flag ∷ flags) [] h = refl
absent_word word (true ∷ flags) (row ∷ rows) h = absent_word word flags rows (let e : find_word word rows ≡ None = grind (arith, h) in e)
absent_word word (false ∷ flags) (row ∷ rows) h =
    let rest = absent_word word flags rows (let e : find_word word rows ≡ None = grind (arith, h) in e) in grind (arith, h, rest)

pub hidden_word : (word : List ℕ) (i : ℕ) (flags : List Bool) (table : Table) → AreDistinct table → IsAt word i table → get_or flags i false ≡ true → find_word word (visible flags table) ≡ None
hidden_word word i [] table d a h = absurd cc
hidden_word word i (flag ∷ flags) [] d a h = refl
hidden_word word zero (true ∷ flags) (row ∷ rows) d a h =
    let same : word ≡ row.0 = (bytes_eq-Decides word row.0).0 a in
    absent_word word flags rows (subst (λ w. find_word w rows ≡ None) (sym same) d.0)
hidden_word word zero (false ∷ flags) (row ∷ rows) d a h = absurd cc
hidden_word word (suc i) (true ∷ flags) (row ∷ rows) d a h = hidden_word word i flags rows d.1 a.1 h
hidden_word word (suc i) (false ∷ flags) (row ∷ rows) d a h = let rest = hidden_word word i flags rows d.1 a.1 h in rw a.0 rest

pub shown_word : (word : List ℕ) (i : ℕ) (flags : List Bool) (table : Table) (body : List Token) → i < length flags → IsAt word i table → get_or flags i false ≡ false → find_word word table ≡ Some body
    → (find_word word (visible flags table) ≡ Some body) × (without word (visible flags table) ≡ visible (slice_set flags i true) table)
shown_word word i [] table body l a h e = absurd (omega arith)
shown_word word i (flag ∷ flags) [] body l a h e = absurd a
shown_word word zero (true ∷ flags) (row ∷ rows) body l a h e = absurd cc
shown_word word zero (false ∷ flags) (row ∷ rows) body l a h e = (grind (arith, a, e), rw a refl)
shown_word word (suc i) (true ∷ flags) (row ∷ rows) body l a h e =
    shown_word word i flags rows body (omega arith) a.1 h (let f : find_word word rows ≡ Some body = rw a.0 at e in f)
shown_word word (suc i) (false ∷ flags) (row ∷ rows) body l a h e =
    let rest = shown_word word i flags rows body (omega arith) a.1 h (let f : find_word word rows ≡ Some body = rw a.0 at e in f) in
    (rw a.0 rest.0, rw a.0 (ap (λ t. row ∷ t) rest.1))

pub is_visible : (word : List ℕ) (i : ℕ) (flags : List Bool) (table : Table) (body : List Token) → i < length flags → IsAt word i table → get_or flags i false ≡ false → find_word word table ≡ Some body
    → IsVisible flags table (k.Word word) i body
is_visible word i flags table body l a h e =
    let s = shown_word word i flags table body l a h e in
    record { within = l; shown = h; stands_for = s.0; hides = s.1 }

-- ---- what the map's clauses say of the table

pub found_body : (word : List ℕ) (es : List (Key × Body)) (table : Table) (found : Option Body) → table_of es ≡ table → found ≡ lookup (λ key. bytes_eq word key.now) es
    → option_map (λ body. body.now) found ≡ find_word word table
found_body word es table found v h = ap (option_map (λ body. body.now)) h ∙ (sym (find_word-table_of word es) ∙ ap (find_word word) v)

no_value : {A : Type 0} (o : Option A) → false ≡ is_some o → o ≡ None
no_value None h = refl
no_value (Some x) h = absurd cc

pub not_found : (word : List ℕ) (es : List (Key × Body)) (table : Table) → table_of es ≡ table → false ≡ is_some (lookup (λ key. bytes_eq word key.now) es) → find_word word table ≡ None
not_found word es table v h = sym (found_body word es table None v (sym (no_value (lookup (λ key. bytes_eq word key.now) es) h)))

pub inserted : (key : Key) (body : Body) (old new : List (Key × Body)) (table : Table) → table_of old ≡ table → find_word key.now table ≡ None
    → new ≡ insert_entry same_key old key body → table_of new ≡ table ++ (key.now, body.now) ∷ []
inserted key body old new table v n e =
    ap table_of e ∙ (table_of-insert key body old (ap (find_word key.now) v ∙ n) ∙ ap (λ t. t ++ (key.now, body.now) ∷ []) v)

pub taken_out : (word : List ℕ) (old new : List (Key × Body)) (table : Table) → table_of old ≡ table → new ≡ remove_entry (λ key. bytes_eq word key.now) old → table_of new ≡ without word table
taken_out word old new table v e = ap table_of e ∙ (sym (without-table_of word old) ∙ ap (without word) v)

pub hidden_at : (key : Key) (es : List (Key × Body)) (table : Table) (flags : List Bool) (i : ℕ) → table_of es ≡ table → IsDistinct same_key (keys_of es)
    → Some i ≡ position (λ other. bytes_eq key.now other.now) (keys_of es) → get_or flags i false ≡ true → find_word key.now (visible flags table) ≡ None
hidden_at key es table flags i v d p h =
    subst (λ t. find_word key.now (visible flags t) ≡ None) v (hidden_word key.now i flags (table_of es) (distinct-table_of es d) (at_position key.now es i key (sym p)) h)

pub shown_at : (key : Key) (es : List (Key × Body)) (table : Table) (flags : List Bool) (i : ℕ) (body : Body) → table_of es ≡ table → length table ≤ length flags
    → Some i ≡ position (λ other. bytes_eq key.now other.now) (keys_of es) → get_or flags i false ≡ false → Some body ≡ lookup (λ other. bytes_eq key.now other.now) es
    → IsVisible flags table (k.Word key.now) i body.now
shown_at key es table flags i body v l p h b =
    let at = at_position key.now es i key (sym p) in
    let at_table : IsAt key.now i table = subst (λ t. IsAt key.now i t) v at in
    let within = at_within key.now i table at_table in
    is_visible key.now i flags table body.now (omega arith) at_table h (sym (found_body key.now es table (Some body) v b))

pub value_at : (es : List (Key × Body)) (i : ℕ) (e : Key × Body) → Some e ≡ slice_get es i → Some e.1 ≡ slice_get (values_of es) i
value_at [] i e h = absurd cc
value_at (x ∷ xs) zero e h = let same : e ≡ x = cc in ap (λ p. Some p.1) same
value_at (x ∷ xs) (suc i) e h = value_at xs i e h

pub fewer_without : (word : List ℕ) (table : Table) → length (without word table) ≤ length table
fewer_without word [] = omega arith
fewer_without word (row ∷ rows) = go (bytes_eq word row.0) refl (fewer_without word rows)
  where
    go : (same : Bool) → bytes_eq word row.0 ≡ same → length (without word rows) ≤ length rows → length (without word (row ∷ rows)) ≤ length (row ∷ rows)
    go true h l = rw h (omega arith)
    go false h l = rw h (omega arith)
