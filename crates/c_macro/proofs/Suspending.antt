-- Replacements that are suspended for those inside them: what is still to be put out, step by step.
use Rattle.std.proofs.Common.{reverse, ◌≡◌, ℕ, zero, suc, ◌+◌, ◌-◌, ◌*◌, ◌<◌, ◌≤◌, ◌∙◌, sym, refl, ap, subst, Bool, true, false, List, [], ◌∷◌, ◌++◌, length, get_or, Some, None, Ok, inl, inr, append_assoc, append-nil, length-append, length-set, arith}
use Rattle.std.specs.Prelude.{slice_set}
use Rattle.std.proofs.lemmas.List.{reverse-append}
use Rattle.c_token.specs.declared.token.Token.{Token}
use Rattle.c_token.specs.Replacement.{Table, body_of, hide, StandsFor, nothing, stays, is_replaced, token_limit, word_limit}
use Rattle.c_token.proofs.Expansion.{stands_for_something, stands_for_once, head_stays, head_is_replaced}
use Rattle.c_macro.specs.declared.expansion.Suspended.{Suspended}
use Rattle.c_macro.specs.declared.output.Invocation.{Invocation}
use Rattle.c_macro.specs.Emitted.{Emitted}
use Rattle.c_macro.specs.Views.{Emits, IsWithin, Overflows, Expands, visible, IsVisible}
use Rattle.c_macro.specs.Suspensions.{StillStandsFor, shown_again}
use Rattle.c_macro.proofs.Expanding.{length-emitted, emits-append, emits_nothing, Passes}

-- ---- what is still to be put out

pub still_something : (macros : Table) (hidden : List Bool) (left : List Token) (suspended : List Suspended) → (row : List Token) × (words : ℕ) × StillStandsFor macros hidden left suspended row words
still_something macros hidden left [] = stands_for_something (visible hidden macros) left
still_something macros hidden left (outer ∷ more) =
    let inner = stands_for_something (visible hidden macros) left in
    let rest = still_something macros (slice_set hidden outer.index false) outer.left.now more in
    (inner.0 ++ rest.0, inner.1 + rest.1, (inner.0, rest.0, inner.1, rest.1, inner.2, rest.2, refl, refl))

still_stays : (macros : Table) (hidden : List Bool) (token : Token) (left : List Token) (suspended : List Suspended) (row : List Token) (words : ℕ) → body_of (visible hidden macros) token.kind ≡ None
    → StillStandsFor macros hidden left suspended row words → StillStandsFor macros hidden (token ∷ left) suspended (token ∷ row) words
still_stays macros hidden token left [] row words none s = stays (visible hidden macros) token left row words none s
still_stays macros hidden token left (outer ∷ more) row words none (inner, rest, m, n, s, t, e, f) =
    (token ∷ inner, rest, m, n, stays (visible hidden macros) token left inner m none s, t, ap (λ z. token ∷ z) e, f)

-- a word stands for a row, and what is behind it for another
still_replaced : (macros : Table) (hidden : List Bool) (token : Token) (body left : List Token) (suspended : List Suspended) (inner row : List Token) (m n : ℕ) → body_of (visible hidden macros) token.kind ≡ Some body
    → StandsFor (hide token.kind (visible hidden macros)) body inner m → StillStandsFor macros hidden left suspended row n → StillStandsFor macros hidden (token ∷ left) suspended (inner ++ row) (1 + m + n)
still_replaced macros hidden token body left [] inner row m n some s t = is_replaced (visible hidden macros) token body inner left row m n some s t
still_replaced macros hidden token body left (outer ∷ more) inner row m n some s (first, rest, i, j, t, u, e, f) = (
  inner ++ first,
  rest,
  1 + m + i,
  j,
  is_replaced (visible hidden macros) token body inner left first m i some s t,
  u,
  ap (λ z. inner ++ z) e ∙ sym (append_assoc inner first rest),
  omega arith,
)

set-back : (flags : List Bool) (i : ℕ) → i < length flags → get_or flags i false ≡ false → slice_set (slice_set flags i true) i false ≡ flags
set-back [] i l h = refl
set-back (flag ∷ flags) zero l h = ap (λ f. f ∷ flags) (sym h)
set-back (flag ∷ flags) (suc i) l h = ap (λ fs. flag ∷ fs) (set-back flags i (omega arith) h)

still_inside : (macros : Table) (hidden : List Bool) (token : Token) (body : List Token) (outer : Suspended) (suspended : List Suspended) (row : List Token) (words : ℕ)
    → IsVisible hidden macros token.kind outer.index body → StillStandsFor macros (slice_set hidden outer.index true) body (outer ∷ suspended) row words
    → StillStandsFor macros hidden (token ∷ outer.left.now) suspended row (1 + words)
still_inside macros hidden token body outer suspended row words v (inner, rest, m, n, s, t, e, f) =
    let shown = set-back hidden outer.index v.within v.shown in
    let count : 1 + m + n ≡ 1 + words = omega arith in
    subst (λ z. StillStandsFor macros hidden (token ∷ outer.left.now) suspended row z) count
    (subst (λ z. StillStandsFor macros hidden (token ∷ outer.left.now) suspended z (1 + m + n)) (sym e)
    (still_replaced macros hidden token body outer.left.now suspended inner rest m n v.stands_for
    (subst (λ z. StandsFor z body inner m) (sym v.hides) s)
    (subst (λ z. StillStandsFor macros z outer.left.now suspended rest n) shown t)))

still_ended : (macros : Table) (hidden : List Bool) (outer : Suspended) (suspended : List Suspended) (row : List Token) (words : ℕ)
    → StillStandsFor macros (slice_set hidden outer.index false) outer.left.now suspended row words → StillStandsFor macros hidden [] (outer ∷ suspended) row words
still_ended macros hidden outer suspended row words s = ([], row, 0, words, nothing (visible hidden macros), s, refl, omega arith)

-- the next token is put out, or counted
still_token : (macros : Table) (hidden : List Bool) (token : Token) (left : List Token) (suspended : List Suspended) (row : List Token) (words : ℕ) → body_of (visible hidden macros) token.kind ≡ None
    → StillStandsFor macros hidden (token ∷ left) suspended row words → 1 ≤ length row
still_token macros hidden token left [] row words none s = head_stays (visible hidden macros) token left row words none s
still_token macros hidden token left (outer ∷ more) row words none (inner, rest, m, n, s, t, e, f) =
    let some = head_stays (visible hidden macros) token left inner m none s in
    let long : length row ≡ length inner + length rest = ap length e ∙ length-append inner rest in omega arith

still_word : (macros : Table) (hidden : List Bool) (token : Token) (body left : List Token) (suspended : List Suspended) (row : List Token) (words : ℕ) → body_of (visible hidden macros) token.kind ≡ Some body
    → StillStandsFor macros hidden (token ∷ left) suspended row words → 1 ≤ words
still_word macros hidden token body left [] row words some s = let parts = head_is_replaced (visible hidden macros) token left row body words some s in let count = parts.6 in omega arith
still_word macros hidden token body left (outer ∷ more) row words some (inner, rest, m, n, s, t, e, f) =
    let parts = head_is_replaced (visible hidden macros) token left inner body m some s in let count = parts.6 in omega arith

-- ---- the way through the tokens

abbrev pub AreWithin : List Suspended → ℕ → Type 0
AreWithin [] n = Unit {0}
AreWithin (outer ∷ more) n = (outer.index < n) × AreWithin more n

-- What was put out, followed by what is still to be put out, is what the tokens stand for. Besides those that the flags hide, each macro that is being replaced is hidden.
pub record Underway (macros : Table) (flags : List Bool) (at : Invocation) (tokens : List Token) (old : Emitted) (hidden : List Bool) (left : List Token) (suspended : List Suspended) (new : Emitted) : Type 0 where
  pub row : List Token
  pub words : ℕ
  pub emits : Emits at row words old new
  pub within : IsWithin new
  pub shown : shown_again hidden suspended ≡ flags
  pub indices : AreWithin suspended (length flags)
  pub goes_on : (rest : List Token) (more : ℕ) → StillStandsFor macros hidden left suspended rest more → StandsFor (visible flags macros) tokens (row ++ rest) (words + more)

length-shown_again : (hidden : List Bool) (suspended : List Suspended) → length (shown_again hidden suspended) ≡ length hidden
length-shown_again hidden [] = refl
length-shown_again hidden (outer ∷ more) = length-shown_again (slice_set hidden outer.index false) more ∙ length-set hidden outer.index false

pub same_length : (hidden : List Bool) (suspended : List Suspended) (flags : List Bool) → shown_again hidden suspended ≡ flags → length hidden ≡ length flags
same_length hidden suspended flags e = sym (length-shown_again hidden suspended) ∙ ap length e

pub begins : (macros : Table) (flags : List Bool) (at : Invocation) (tokens : List Token) (old : Emitted) → IsWithin old → Underway macros flags at tokens old flags tokens [] old
begins macros flags at tokens old w = record {
  row = [];
  words = 0;
  emits = emits_nothing at old;
  within = w;
  shown = refl;
  indices = tt;
  goes_on = λ rest more s. (let count : more ≡ 0 + more = omega arith in subst (λ n. StandsFor (visible flags macros) tokens rest n) count s);
}

pub still_before : (macros : Table) (flags : List Bool) (at : Invocation) (tokens : List Token) (old : Emitted) (hidden : List Bool) (left : List Token) (suspended : List Suspended) (new : Emitted)
    → at.before ≤ length old.tokens → Underway macros flags at tokens old hidden left suspended new → at.before ≤ length new.tokens
still_before macros flags at tokens old hidden left suspended new l u = let long = length-emitted at u.row u.words old new u.emits in omega arith

pub puts_token : (macros : Table) (flags : List Bool) (at : Invocation) (tokens : List Token) (old : Emitted) (hidden : List Bool) (left : List Token) (token : Token) (rest : List Token) (suspended : List Suspended) (new next : Emitted)
    → at.before ≤ length old.tokens → Underway macros flags at tokens old hidden left suspended new → left ≡ token ∷ rest → body_of (visible hidden macros) token.kind ≡ None
    → Emits at (token ∷ []) 0 new next → length next.tokens ≤ token_limit → Underway macros flags at tokens old hidden rest suspended next
puts_token macros flags at tokens old hidden left token rest suspended new next l u split none e w =
    let count = e.words in
    let words_within = u.within.1 in
    let words_are : u.words + 0 ≡ u.words = omega arith in
    let begun = subst (λ z. Underway macros flags at tokens old hidden z suspended new) split u in
    record {
      row = u.row ++ token ∷ [];
      words = u.words;
      emits = subst (λ n. Emits at (u.row ++ token ∷ []) n old next) words_are (emits-append at u.row (token ∷ []) u.words 0 old new next l u.emits e);
      within = (w, omega arith);
      shown = u.shown;
      indices = u.indices;
      goes_on =
          λ row more s.
          subst (λ z. StandsFor (visible flags macros) tokens z (u.words + more)) (sym (append_assoc u.row (token ∷ []) row))
          (u.goes_on (token ∷ row) more (subst (λ z. StillStandsFor macros hidden z suspended (token ∷ row) more) (sym split) (still_stays macros hidden token rest suspended row more none s)));
    }

pub enters : (macros : Table) (flags : List Bool) (at : Invocation) (tokens : List Token) (old : Emitted) (hidden : List Bool) (left : List Token) (token : Token) (body : List Token) (outer : Suspended) (items pushed : List Suspended) (new next : Emitted)
    → Underway macros flags at tokens old hidden left (reverse items) new → left ≡ token ∷ outer.left.now → IsVisible hidden macros token.kind outer.index body
    → next ≡ record new { words = new.words + 1 } → next.words ≤ word_limit → pushed ≡ items ++ outer ∷ []
    → Underway macros flags at tokens old (slice_set hidden outer.index true) body (reverse pushed) next
enters macros flags at tokens old hidden left token body outer items pushed new next u split v counted w put =
    let emitted = u.emits in
    let count = emitted.words in
    let next_words : next.words ≡ new.words + 1 = ap (λ z. z.words) counted in
    let same_tokens : next.tokens ≡ new.tokens = ap (λ z. z.tokens) counted in
    let stack : outer ∷ reverse items ≡ reverse pushed = sym (ap reverse put ∙ reverse-append items (outer ∷ [])) in
    subst (λ z. Underway macros flags at tokens old (slice_set hidden outer.index true) body z next) stack
    (record {
      row = u.row;
      words = u.words + 1;
      emits = record { tokens = same_tokens ∙ emitted.tokens; words = omega arith };
      within = (subst (λ z. length z ≤ token_limit) (sym same_tokens) u.within.0, w);
      shown = ap (λ z. shown_again z (reverse items)) (set-back hidden outer.index v.within v.shown) ∙ u.shown;
      indices = (subst (λ n. outer.index < n) (same_length hidden (reverse items) flags u.shown) v.within, u.indices);
      goes_on =
          λ row more s.
          (let step : u.words + (1 + more) ≡ u.words + 1 + more = omega arith in
          subst (λ n. StandsFor (visible flags macros) tokens (u.row ++ row) n) step
          (u.goes_on row (1 + more)
          (subst (λ z. StillStandsFor macros hidden z (reverse items) row (1 + more)) (sym split) (still_inside macros hidden token body outer (reverse items) row more v s))));
    })

no_items : {X : Type 0} (xs : List X) → length xs ≡ 0 → xs ≡ []
no_items [] h = refl
no_items (x ∷ xs) h = absurd (omega arith)

popped : (items left_items : List Suspended) (outer : Suspended) → items ≡ left_items ++ outer ∷ [] → reverse items ≡ outer ∷ reverse left_items
popped items left_items outer e = ap reverse e ∙ reverse-append left_items (outer ∷ [])

-- the flag of the macro that is replaced inside the innermost suspended replacement is there
pub outer_within : (macros : Table) (flags : List Bool) (at : Invocation) (tokens : List Token) (old : Emitted) (hidden : List Bool) (left : List Token) (outer : Suspended) (items left_items : List Suspended) (new : Emitted)
    → Underway macros flags at tokens old hidden left (reverse items) new → items ≡ left_items ++ outer ∷ [] → outer.index < length hidden
outer_within macros flags at tokens old hidden left outer items left_items new u e =
    let indices = subst (λ z. AreWithin z (length flags)) (popped items left_items outer e) u.indices in
    subst (λ n. outer.index < n) (sym (same_length hidden (reverse items) flags u.shown)) indices.0

pub goes_back : (macros : Table) (flags : List Bool) (at : Invocation) (tokens : List Token) (old : Emitted) (hidden : List Bool) (left : List Token) (outer : Suspended) (items left_items : List Suspended) (new : Emitted)
    → Underway macros flags at tokens old hidden left (reverse items) new → length left ≡ 0 → items ≡ left_items ++ outer ∷ []
    → Underway macros flags at tokens old (slice_set hidden outer.index false) outer.left.now (reverse left_items) new
goes_back macros flags at tokens old hidden left outer items left_items new u none e =
    let v = subst (λ z. Underway macros flags at tokens old hidden z (reverse items) new) (no_items left none) u in
    let w = subst (λ z. Underway macros flags at tokens old hidden [] z new) (popped items left_items outer e) v in
    record {
      row = w.row;
      words = w.words;
      emits = w.emits;
      within = w.within;
      shown = w.shown;
      indices = w.indices.1;
      goes_on = λ row more s. w.goes_on row more (still_ended macros hidden outer (reverse left_items) row more s);
    }

-- ---- the ends

pub all_ended : (macros : Table) (flags : List Bool) (at : Invocation) (tokens : List Token) (old : Emitted) (hidden : List Bool) (left : List Token) (items : List Suspended) (new : Emitted)
    → Underway macros flags at tokens old hidden left (reverse items) new → length left ≡ 0 → length items ≡ 0 → Underway macros flags at tokens old hidden [] [] new
all_ended macros flags at tokens old hidden left items new u l i =
    subst (λ z. Underway macros flags at tokens old hidden [] z new) (ap reverse (no_items items i))
    (subst (λ z. Underway macros flags at tokens old hidden z (reverse items) new) (no_items left l) u)

pub expanded : (macros : Table) (flags : List Bool) (at : Invocation) (tokens : List Token) (old : Emitted) (hidden : List Bool) (new : Emitted) → Underway macros flags at tokens old hidden [] [] new
    → Expands (visible flags macros) at tokens (Ok tt) old new
expanded macros flags at tokens old hidden new u =
    let stands = u.goes_on [] 0 (nothing (visible hidden macros)) in
    let count : u.words + 0 ≡ u.words = omega arith in (
      u.row,
      u.words,
      subst (λ r. StandsFor (visible flags macros) tokens r u.words) (append-nil u.row) (subst (λ n. StandsFor (visible flags macros) tokens (u.row ++ []) n) count stands),
      u.emits,
      u.within,
    )

-- each reading of the tokens goes on behind what was put out
passes_with : (macros : Table) (flags : List Bool) (at : Invocation) (tokens : List Token) (old : Emitted) (hidden : List Bool) (left : List Token) (suspended : List Suspended) (new : Emitted)
    → Underway macros flags at tokens old hidden left suspended new
    → ((rest : List Token) (more : ℕ) → StillStandsFor macros hidden left suspended rest more → Overflows rest more new) → Passes (visible flags macros) tokens old
passes_with macros flags at tokens old hidden left suspended new u over row words stands =
    let rest = still_something macros hidden left suspended in
    let same = stands_for_once (visible flags macros) tokens row (u.row ++ rest.0) words (u.words + rest.1) stands (u.goes_on rest.0 rest.1 rest.2) in
    let row_long : length row ≡ length u.row + length rest.0 = ap length same.0 ∙ length-append u.row rest.0 in
    let new_long = length-emitted at u.row u.words old new u.emits in
    let emitted = u.emits in
    let new_words = emitted.words in
    let words_are = same.1 in
    elim (over rest.0 rest.1 rest.2) [ inl h ↦ inl (omega arith) | inr h ↦ inr (omega arith) ]

pub passes_at_token : (macros : Table) (flags : List Bool) (at : Invocation) (tokens : List Token) (old : Emitted) (hidden : List Bool) (left : List Token) (token : Token) (rest : List Token) (suspended : List Suspended) (new : Emitted)
    → Underway macros flags at tokens old hidden left suspended new → left ≡ token ∷ rest → body_of (visible hidden macros) token.kind ≡ None → token_limit ≤ length new.tokens → Passes (visible flags macros) tokens old
passes_at_token macros flags at tokens old hidden left token rest suspended new u split none l =
    passes_with macros flags at tokens old hidden left suspended new u
    (λ row more s.
    (let t = subst (λ z. StillStandsFor macros hidden z suspended row more) split s in
    let some = still_token macros hidden token rest suspended row more none t in inl (omega arith)))

pub passes_at_word : (macros : Table) (flags : List Bool) (at : Invocation) (tokens : List Token) (old : Emitted) (hidden : List Bool) (left : List Token) (token : Token) (body rest : List Token) (suspended : List Suspended) (new : Emitted)
    → Underway macros flags at tokens old hidden left suspended new → left ≡ token ∷ rest → body_of (visible hidden macros) token.kind ≡ Some body → word_limit ≤ new.words → Passes (visible flags macros) tokens old
passes_at_word macros flags at tokens old hidden left token body rest suspended new u split some l =
    passes_with macros flags at tokens old hidden left suspended new u
    (λ row more s.
    (let t = subst (λ z. StillStandsFor macros hidden z suspended row more) split s in
    let counted = still_word macros hidden token body rest suspended row more some t in inr (omega arith)))

-- ---- the work that remains

-- a word that is replaced counts for two, since its replacement has to end too
abbrev pub work_left : Emitted → List Suspended → ℕ
work_left new suspended = 2 * (word_limit - new.words) + (token_limit - length new.tokens) + length suspended

pub less_by_token : (at : Invocation) (token : Token) (old new : Emitted) (items : List Suspended) → Emits at (token ∷ []) 0 old new → length new.tokens ≤ token_limit → work_left new items < work_left old items
less_by_token at token old new items e w =
    let long = length-emitted at (token ∷ []) 0 old new e in
    let words = e.words in omega arith

pub less_by_word : (old new : Emitted) (outer : Suspended) (items pushed : List Suspended) → new ≡ record old { words = old.words + 1 } → new.words ≤ word_limit → pushed ≡ items ++ outer ∷ []
    → work_left new pushed < work_left old items
less_by_word old new outer items pushed counted w put =
    let words : new.words ≡ old.words + 1 = ap (λ z. z.words) counted in
    let tokens : length new.tokens ≡ length old.tokens = ap (λ z. length z.tokens) counted in
    let long : length pushed ≡ length items + length (outer ∷ []) = ap length put ∙ length-append items (outer ∷ []) in omega arith

pub less_by_end : (new : Emitted) (outer : Suspended) (items left_items : List Suspended) → items ≡ left_items ++ outer ∷ [] → work_left new left_items < work_left new items
less_by_end new outer items left_items e =
    let long : length items ≡ length left_items + length (outer ∷ []) = ap length e ∙ length-append left_items (outer ∷ []) in omega arith
