-- Looking for a form among several.
use Rattle.std.proofs.Common.{◌≡◌, ◌⊎◌, inl, inr, ℕ, suc, ◌+◌, ◌<◌, ◌≤◌, List, [], ◌∷◌, length, take, drop, get_or, refl, sym, ap, ◌∙◌, subst, arith, drop-cons}
use Rattle.std.specs.List.{All, Contains}
use Rattle.std.proofs.lemmas.List.{get_or-map, get_or_default, drop_all, take_all}
use Rattle.std.proofs.lemmas.List.Elements.{All-more}
use Rattle.rtl_core.specs.ModuleTokens as spelled
use Rattle.verilog_syntax.specs.declared.token.Token.{Token}
use Rattle.verilog_syntax.specs.declared.form.Class.{Class}
use Rattle.verilog_syntax.specs.declared.form.Form.{Form}
use Rattle.verilog_syntax.specs.declared.form.Form.TheVariants as f
use Rattle.verilog_syntax.specs.Views.{token_of}
use Rattle.verilog_syntax.proofs.Runs.{common_within, fits_whole}
use Rattle.verilog_syntax.specs.Forms.{FitsClass, FitsAll, classes_of}
use Rattle.verilog_syntax.specs.Parsing.{Common, FitsSome, tokens_in}

pub tokens_long : (tokens : List Token) → length (tokens_in tokens) ≡ length tokens
tokens_long [] = refl
tokens_long (x ∷ xs) = ap suc (tokens_long xs)

pub tokens_drop : (tokens : List Token) (n : ℕ) (d : Token) → n < length tokens → drop n (tokens_in tokens) ≡ token_of (get_or tokens n d).kind ∷ drop (suc n) (tokens_in tokens)
tokens_drop tokens n d h =
    drop-cons (tokens_in tokens) n (token_of d.kind) (omega (arith, h, tokens_long tokens))
    ∙ ap (λ x. x ∷ drop (suc n) (tokens_in tokens)) (get_or-map (λ (x : Token). token_of x.kind) tokens n d (token_of d.kind) h)

-- one more class fits
pub common_more : (cs : List Class) (tokens : List Token) (n : ℕ) (cd : Class) (td : Token) → n < length cs → n < length tokens → FitsClass (get_or cs n cd) (token_of (get_or tokens n td).kind)
    → ((m : ℕ) → Common (drop n cs) (drop n (tokens_in tokens)) m → Common cs (tokens_in tokens) (n + m))
    → (m : ℕ) → Common (drop (n + 1) cs) (drop (n + 1) (tokens_in tokens)) m → Common cs (tokens_in tokens) (n + 1 + m)
common_more cs tokens n cd td hc ht fits so_far m h =
    let x = get_or cs n cd in
    let d = get_or tokens n td in
    let one : suc n ≡ n + 1 = omega arith in
    let c : drop n cs ≡ x ∷ drop (n + 1) cs = drop-cons cs n cd hc ∙ ap (λ k. x ∷ drop k cs) one in
    let t : drop n (tokens_in tokens) ≡ token_of d.kind ∷ drop (n + 1) (tokens_in tokens) =
    tokens_drop tokens n td ht ∙ ap (λ k. token_of d.kind ∷ drop k (tokens_in tokens)) one in
    let here : Common (x ∷ drop (n + 1) cs) (token_of d.kind ∷ drop (n + 1) (tokens_in tokens)) (suc m) = inl (fits, (m, refl, h)) in
    let e : n + suc m ≡ n + 1 + m = omega arith in
    subst (Common cs (tokens_in tokens)) e (so_far (suc m) (subst (λ y. Common y (drop n (tokens_in tokens)) (suc m)) (sym c) (subst (λ y. Common (x ∷ drop (n + 1) cs) y (suc m)) (sym t) here)))

none_fits : (cs : List Class) (ts : List spelled.Token) → (length cs ≡ 0) ⊎ (length ts ≡ 0) → Common cs ts 0
none_fits [] ts h = refl
none_fits (c ∷ cs) [] h = refl
none_fits (c ∷ cs) (t ∷ ts) (inl h) = absurd (omega (arith, h))
none_fits (c ∷ cs) (t ∷ ts) (inr h) = absurd (omega (arith, h))

pub common_stops : (cs : List Class) (tokens : List Token) (n : ℕ) (cd : Class) (td : Token) → n < length cs → n < length tokens → (FitsClass (get_or cs n cd) (token_of (get_or tokens n td).kind) → ⊥)
    → ((m : ℕ) → Common (drop n cs) (drop n (tokens_in tokens)) m → Common cs (tokens_in tokens) (n + m)) → Common cs (tokens_in tokens) n
common_stops cs tokens n cd td hc ht none so_far =
    let x = get_or cs n cd in
    let d = get_or tokens n td in
    let c : drop n cs ≡ x ∷ drop (suc n) cs = drop-cons cs n cd hc in
    let t : drop n (tokens_in tokens) ≡ token_of d.kind ∷ drop (suc n) (tokens_in tokens) =
    tokens_drop tokens n td ht in
    let here : Common (x ∷ drop (suc n) cs) (token_of d.kind ∷ drop (suc n) (tokens_in tokens)) 0 = inr (none, refl) in
    let e : n + 0 ≡ n = omega arith in
    subst (Common cs (tokens_in tokens)) e (so_far 0 (subst (λ y. Common y (drop n (tokens_in tokens)) 0) (sym c) (subst (λ y. Common (x ∷ drop (suc n) cs) y 0) (sym t) here)))

pub common_ends : (cs : List Class) (tokens : List Token) (n : ℕ) → (length cs ≤ n) ⊎ (length tokens ≤ n) → ((m : ℕ) → Common (drop n cs) (drop n (tokens_in tokens)) m → Common cs (tokens_in tokens) (n + m))
    → Common cs (tokens_in tokens) n
common_ends cs tokens n h so_far =
    let e : n + 0 ≡ n = omega arith in
    let z : (length (drop n cs) ≡ 0) ⊎ (length (drop n (tokens_in tokens)) ≡ 0) =
    (elim h [ inl k ↦ inl (ap length (drop_all n cs k)) | inr k ↦ inr (ap length (drop_all n (tokens_in tokens) (omega (arith, k, tokens_long tokens)))) ]) in
    subst (Common cs (tokens_in tokens)) e (so_far 0 (none_fits (drop n cs) (drop n (tokens_in tokens)) z))

pub common_begins : (cs : List Class) (ts : List spelled.Token) (m : ℕ) → Common (drop 0 cs) (drop 0 ts) m → Common cs ts (0 + m)
common_begins cs ts m h = let e : m ≡ 0 + m = omega arith in subst (Common cs ts) e h

fits_some_up : (ts : List spelled.Token) (n k : ℕ) (form : Form) → n ≤ k → FitsSome ts n form → FitsSome ts k form
fits_some_up ts n k form h (m, common, other, le) = (m, common, other, omega (arith, h, le))

all_up : (ts : List spelled.Token) (n k : ℕ) (forms : List Form) → n ≤ k → All (FitsSome ts n) forms → All (FitsSome ts k) forms
all_up ts n k forms h all = λ i d below. fits_some_up ts n k _ h (all i d below)

pub form_more : (ts : List spelled.Token) (n m k : ℕ) (forms : List Form) (i : ℕ) → i < length forms → Common (classes_of (get_or forms i f.Start)) ts m
    → (m ≡ length (classes_of (get_or forms i f.Start)) → ⊥) → n ≤ k → m ≤ k → All (FitsSome ts n) (take i forms) → All (FitsSome ts k) (take (i + 1) forms)
form_more ts n m k forms i below common other up upm all =
    All-more (FitsSome ts k) forms i f.Start below (all_up ts n k (take i forms) up all) (m, common, other, upm)

pub form_found : (forms : List Form) (i : ℕ) → i < length forms → Contains forms (get_or forms i f.Start)
form_found forms i below = (i, below, get_or_default forms i (get_or forms i f.Start) f.Start below)

pub form_fits : (tokens : List Token) (form : Form) (m : ℕ) → Common (classes_of form) (tokens_in tokens) m → m ≡ length (classes_of form)
    → (length (classes_of form) ≤ length tokens) × FitsAll (classes_of form) (take (length (classes_of form)) (tokens_in tokens))
form_fits tokens form m common e =
    let w = common_within (classes_of form) (tokens_in tokens) m common in
    (omega (arith, w.1, e, tokens_long tokens), subst (λ k. FitsAll (classes_of form) (take k (tokens_in tokens))) e (fits_whole (classes_of form) (tokens_in tokens) m common e))

pub forms_end : (ts : List spelled.Token) (n : ℕ) (forms : List Form) (i : ℕ) → length forms ≤ i → All (FitsSome ts n) (take i forms) → All (FitsSome ts n) forms
forms_end ts n forms i h all = subst (All (FitsSome ts n)) (take_all i forms h) all
