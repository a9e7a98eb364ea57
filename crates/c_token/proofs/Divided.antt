-- A list of tokens is one row of directives and other tokens, so that it becomes one list or has one first fault.
use Rattle.std.proofs.Common.{◌≡◌, ℕ, zero, suc, ◌≤◌, ◌∙◌, sym, refl, ap, subst, Bool, true, false, List, [], ◌∷◌, ◌++◌, length, Result, Ok, Err, arith}
use Rattle.std.specs.Prelude.{if◌then◌else◌}
use Rattle.std.proofs.lemmas.Bool.{both_ways, and_parts, not-true}
use Rattle.hls_base.specs.declared.refusal.Refusal.{Refusal}
use Rattle.c_token.specs.declared.token.Token.{Token}
use Rattle.c_token.specs.Replacement.{Part, directive, ordinary, is_directive, none_first, begins_line, Divides, Reading, obey, TokenBecomes, count, AndThen, behind, Outcome, beginning, Becomes, FirstReplacementFault, ReplacesOnce}
use Rattle.c_token.proofs.Expansion.{token_becomes_once, token_becomes_something}

heads : (a b : Token) (xs ys : List Token) → a ∷ xs ≡ b ∷ ys → (a ≡ b) × (xs ≡ ys)
heads a b xs ys e = let h : a ≡ b = cc in let t : xs ≡ ys = cc in (h, t)

-- what stands before the next token that begins a line
same_line : (xs ys us vs : List Token) → xs ++ us ≡ ys ++ vs → none_first xs ≡ true → none_first ys ≡ true → begins_line us ≡ true → begins_line vs ≡ true → (xs ≡ ys) × (us ≡ vs)
same_line [] [] us vs e a b c d = (refl, e)
same_line [] (y ∷ ys) us vs e a b c d =
    let f : y.first ≡ true = sym (ap begins_line e) ∙ c in
    absurd (both_ways y.first (not-true y.first (and_parts _ _ b).0) f)
same_line (x ∷ xs) [] us vs e a b c d =
    let f : x.first ≡ true = ap begins_line e ∙ d in
    absurd (both_ways x.first (not-true x.first (and_parts _ _ a).0) f)
same_line (x ∷ xs) (y ∷ ys) us vs e a b c d =
    let h = heads x y (xs ++ us) (ys ++ vs) e in
    let r = same_line xs ys us vs h.1 (and_parts _ _ a).1 (and_parts _ _ b).1 c d in
    let head : x ≡ y = h.0 in
    let tail : xs ≡ ys = r.0 in
    (cc, r.1)

pub divides_once : (tokens : List Token) (ps qs : List Part) → Divides tokens ps → Divides tokens qs → ps ≡ qs
divides_once tokens [] [] a b = refl
divides_once tokens [] (ordinary t ∷ qs) a (rest, e, n, d) = absurd (let x : [] ≡ t ∷ rest = sym a ∙ e in cc)
divides_once tokens [] (directive h line ∷ qs) a (rest, e, n, f, g, d) = absurd (let x : [] ≡ h ∷ (line ++ rest) = sym a ∙ e in cc)
divides_once tokens (ordinary t ∷ ps) [] (rest, e, n, d) b = absurd (let x : [] ≡ t ∷ rest = sym b ∙ e in cc)
divides_once tokens (directive h line ∷ ps) [] (rest, e, n, f, g, d) b = absurd (let x : [] ≡ h ∷ (line ++ rest) = sym b ∙ e in cc)
divides_once tokens (ordinary t ∷ ps) (ordinary u ∷ qs) (rest, e, n, d) (other, e2, n2, d2) =
    let same = heads t u rest other (sym e ∙ e2) in
    let tail : ps ≡ qs = divides_once other ps qs (subst (λ x. Divides x ps) same.1 d) d2 in
    let head : t ≡ u = same.0 in cc
divides_once tokens (ordinary t ∷ ps) (directive h line ∷ qs) (rest, e, n, d) (other, e2, n2, f, g, d2) =
    absurd (both_ways (is_directive t) n (ap is_directive (heads t h rest (line ++ other) (sym e ∙ e2)).0 ∙ n2))
divides_once tokens (directive h line ∷ ps) (ordinary u ∷ qs) (rest, e, n, f, g, d) (other, e2, n2, d2) =
    absurd (both_ways (is_directive u) n2 (ap is_directive (heads u h other (line ++ rest) (sym e2 ∙ e)).0 ∙ n))
divides_once tokens (directive h line ∷ ps) (directive i row ∷ qs) (rest, e, n, f, g, d) (other, e2, n2, f2, g2, d2) =
    let same = heads h i (line ++ rest) (row ++ other) (sym e ∙ e2) in
    let parts = same_line line row rest other same.1 f f2 g g2 in
    let tail : ps ≡ qs = divides_once other ps qs (subst (λ x. Divides x ps) parts.1 d) d2 in
    let head : h ≡ i = same.0 in
    let body : line ≡ row = parts.0 in cc

-- ---- there is one row of parts

-- the tokens up to the next one that begins a line
abbrev pub line_of : List Token → List Token
line_of [] = []
line_of (token ∷ tokens) = if token.first then [] else (token ∷ line_of tokens)

abbrev pub rest_of : List Token → List Token
rest_of [] = []
rest_of (token ∷ tokens) = if token.first then (token ∷ tokens) else rest_of tokens

line-rest : (tokens : List Token) → (tokens ≡ line_of tokens ++ rest_of tokens) × (none_first (line_of tokens) ≡ true) × (begins_line (rest_of tokens) ≡ true) × (length (rest_of tokens) ≤ length tokens)
line-rest [] = (refl, refl, refl, omega arith)
line-rest (token ∷ tokens) = go (line-rest tokens) token.first refl
  where
    go : ((tokens ≡ line_of tokens ++ rest_of tokens) × (none_first (line_of tokens) ≡ true) × (begins_line (rest_of tokens) ≡ true) × (length (rest_of tokens) ≤ length tokens))
        → (first : Bool) → token.first ≡ first
        → (token ∷ tokens ≡ line_of (token ∷ tokens) ++ rest_of (token ∷ tokens)) × (none_first (line_of (token ∷ tokens)) ≡ true) × (begins_line (rest_of (token ∷ tokens)) ≡ true) × (length (rest_of (token ∷ tokens)) ≤ length (token ∷ tokens))
    go h true e = grind (arith, h)
    go h false e = grind (arith, h)

divides_up_to : (limit : ℕ) (tokens : List Token) → length tokens ≤ limit → (parts : List Part) × Divides tokens parts
divides_up_to limit [] h = ([], refl)
divides_up_to zero (token ∷ tokens) h = absurd (omega arith)
divides_up_to (suc limit) (token ∷ tokens) h = go (is_directive token) refl (divides_up_to limit tokens (omega arith)) (λ b. divides_up_to limit (rest_of tokens) b)
  where
    go : (is : Bool) → is_directive token ≡ is → ((parts : List Part) × Divides tokens parts)
        → (length (rest_of tokens) ≤ limit → (parts : List Part) × Divides (rest_of tokens) parts) → (parts : List Part) × Divides (token ∷ tokens) parts
    go false e others after = (ordinary token ∷ others.0, (tokens, refl, e, others.1))
    go true e others after =
        (let l = line-rest tokens in let more = after (omega arith) in
        (directive token (line_of tokens) ∷ more.0, (rest_of tokens, ap (λ z. token ∷ z) l.0, e, l.1, l.2, more.1)))

pub divides_somehow : (tokens : List Token) → (parts : List Part) × Divides tokens parts
divides_somehow tokens = divides_up_to (length tokens) tokens (omega arith)

-- ---- one outcome

abbrev pub Answer : Type 0
Answer = Result (List Token) Refusal

and_then_once : (taken : Result Reading Refusal) (P Q : Reading → Type 0) (a b : Answer) → ((s : Reading) → P s → Q s → a ≡ b) → AndThen taken P a → AndThen taken Q b → a ≡ b
and_then_once (Ok s) P Q a b same x y = same s x y
and_then_once (Err r) P Q a b same x y = x ∙ sym y

pub outcome_once : (s : Reading) (parts : List Part) (a b : Answer) → Outcome s parts a → Outcome s parts b → a ≡ b
outcome_once s [] a b x y = x ∙ sym y
outcome_once s (directive hash line ∷ parts) a b x y =
    and_then_once (obey s line) (λ new. Outcome new parts a) (λ new. Outcome new parts b) a b (λ new. outcome_once new parts a b) x y
outcome_once s (ordinary token ∷ parts) a b (us, m, t, x) (vs, n, u, y) =
    let same = token_becomes_once s.included s.table token us vs m n t u in
    let After : List Token → ℕ → Type 0 =
    λ tokens words. AndThen (count s token (length tokens) words) (λ new. (rest : Answer) × Outcome new parts rest × (b ≡ behind tokens rest)) b in
    let z : After us m = subst (λ w. After us w) (sym same.1) (subst (λ w. After w n) (sym same.0) y) in
    and_then_once (count s token (length us) m) (λ new. (rest : Answer) × Outcome new parts rest × (a ≡ behind us rest)) (λ new. (rest : Answer) × Outcome new parts rest × (b ≡ behind us rest)) a b
    (λ new p q. p.2 ∙ (ap (behind us) (outcome_once new parts p.0 q.0 p.1 q.1) ∙ sym q.2)) x z

pub outcome_exists : (s : Reading) (parts : List Part) → (result : Answer) × Outcome s parts result
outcome_exists s [] = (Ok [], refl)
outcome_exists s (directive hash line ∷ parts) = go (obey s line) (λ new. outcome_exists new parts)
  where
    go : (taken : Result Reading Refusal) → ((new : Reading) → (result : Answer) × Outcome new parts result) → (result : Answer) × AndThen taken (λ new. Outcome new parts result) result
    go (Ok new) others = others new
    go (Err r) others = (Err r, refl)
outcome_exists s (ordinary token ∷ parts) = go (token_becomes_something s.included s.table token) (λ new. outcome_exists new parts)
  where
    after : (tokens : List Token) (taken : Result Reading Refusal) → ((new : Reading) → (result : Answer) × Outcome new parts result)
        → (result : Answer) × AndThen taken (λ new. (rest : Answer) × Outcome new parts rest × (result ≡ behind tokens rest)) result
    after tokens (Ok new) others = (let r = others new in (behind tokens r.0, (r.0, r.1, refl)))
    after tokens (Err r) others = (Err r, refl)

    go : ((tokens : List Token) × (words : ℕ) × TokenBecomes s.included s.table token tokens words) → ((new : Reading) → (result : Answer) × Outcome new parts result)
        → (result : Answer) × Outcome s (ordinary token ∷ parts) result
    go (tokens, words, t) others = (let r = after tokens (count s token (length tokens) words) others in (r.0, (tokens, words, t, r.1)))

same_outcome : (tokens : List Token) (a b : Answer) (ps qs : List Part) → Divides tokens ps → Outcome beginning ps a → Divides tokens qs → Outcome beginning qs b → a ≡ b
same_outcome tokens a b ps qs d x e y = outcome_once beginning qs a b (subst (λ z. Outcome beginning z a) (divides_once tokens ps qs d e) x) y

pub becomes_once : (tokens xs ys : List Token) → Becomes tokens xs → Becomes tokens ys → xs ≡ ys
becomes_once tokens xs ys (ps, d, x) (qs, e, y) = let same : ◌≡◌ {A = Answer} (Ok xs) (Ok ys) = same_outcome tokens (Ok xs) (Ok ys) ps qs d x e y in cc

pub becomes_or_refused : (tokens xs : List Token) (r : Refusal) → Becomes tokens xs → FirstReplacementFault tokens r → ⊥
becomes_or_refused tokens xs r (ps, d, x) (qs, e, y) = let same : ◌≡◌ {A = Answer} (Ok xs) (Err r) = same_outcome tokens (Ok xs) (Err r) ps qs d x e y in cc

pub replacement_refused_once : (tokens : List Token) (r t : Refusal) → FirstReplacementFault tokens r → FirstReplacementFault tokens t → r ≡ t
replacement_refused_once tokens r t (ps, d, x) (qs, e, y) = let same : ◌≡◌ {A = Answer} (Err r) (Err t) = same_outcome tokens (Err r) (Err t) ps qs d x e y in cc

pub replaces_once : (tokens : List Token) → ReplacesOnce tokens
replaces_once tokens =
    let d = divides_somehow tokens in
    let o = outcome_exists beginning d.0 in
    (o.0, (d.0, d.1, o.1), λ other r. same_outcome tokens other o.0 r.0 d.0 r.1 r.2 d.1 o.1)
