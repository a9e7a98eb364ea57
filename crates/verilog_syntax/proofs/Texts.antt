-- From the tokens of a text and what the parser finds to what the text says, or the fault of its tokens.
use Rattle.std.proofs.Common.{◌≡◌, ◌⊎◌, inl, inr, ℕ, suc, ◌+◌, ◌<◌, ◌≤◌, cond, List, [], ◌∷◌, ◌++◌, length, take, drop, get_or, append-nil, refl, sym, ap, ◌∙◌, subst, arith, drop-cons}
use Rattle.std.proofs.lemmas.Bool.{cases_lt, lt-ltb, le-ltb}
use Rattle.std.proofs.lemmas.List.{take-append-drop, take-map, take_all, take_more, map-append}
use Rattle.std.specs.Prelude.{Err}
use Rattle.hls_base.specs.declared.refusal.Refusal.{Refusal}
use Rattle.hls_base.specs.declared.refusal.Fail.{Fail}
use Rattle.hls_base.specs.Refusals.{IfRefused}
use Rattle.verilog_syntax.specs.declared.token.Token.{Token}
use Rattle.verilog_syntax.specs.declared.parser.Stop.{Stop}
use Rattle.verilog_syntax.specs.declared.parser.Stop.TheVariants as stop
use Rattle.hls_base.specs.TextPlaces.{text_start}
use Rattle.verilog_syntax.specs.Views.{token_of, lexeme_of, lexemes_of, Lexes}
use Rattle.verilog_syntax.specs.Lexemes.{tokens_of, Reads}
use Rattle.verilog_syntax.specs.Forms.{IsModule, BeginsModule}
use Rattle.verilog_syntax.specs.PlacedSyntax.{PlacedModule}
use Rattle.verilog_syntax.specs.ModuleViews.{blank}
use Rattle.verilog_syntax.specs.Parsing.{tokens_in, FirstWrong, StopsRight, IsParsed}
use Rattle.verilog_syntax.specs.TextSyntax.{limit, Says, FrontFault, unknown, misplaced, early, refusal_behind, failure_of, IsSyntaxFault, of_tokens}
use Rattle.verilog_syntax.proofs.Forms.{tokens_long}

same_tokens : (ts : List Token) → tokens_of (lexemes_of ts) ≡ tokens_in ts
same_tokens [] = refl
same_tokens (t ∷ ts) = ap (λ x. token_of t.kind ∷ x) (same_tokens ts)

front_tokens : (n : ℕ) (ts : List Token) → tokens_of (lexemes_of (take n ts)) ≡ take n (tokens_in ts)
front_tokens n ts = same_tokens (take n ts) ∙ sym (take-map (λ (x : Token). token_of x.kind) n ts)

-- a refusal whose rule is known
ruled : (r : Refusal) (rule : ℕ) → r.rule ≡ rule → record { rule = rule; place = r.place } ≡ r
ruled r rule e = let made : ℕ → Refusal = λ n. record { rule = n; place = r.place } in ap made (sym e)

in_text : (bytes : List ℕ) (tokens : List Token) (end : Refusal) (n : ℕ) → length bytes ≤ limit → n < length tokens → Lexes bytes tokens end → FirstWrong (tokens_in tokens) n
    → IsSyntaxFault bytes (record { rule = 51; place = (get_or tokens n blank).place })
in_text bytes tokens end n small below lexed wrong =
    let x = get_or tokens n blank in
    let back : drop n tokens ≡ x ∷ drop (suc n) tokens = drop-cons tokens n blank below in
    let whole : take n tokens ++ (x ∷ drop (suc n) tokens) ≡ tokens = ap (λ y. take n tokens ++ y) (sym back) ∙ take-append-drop n tokens in
    let split : lexemes_of tokens ≡ lexemes_of (take n tokens) ++ (lexeme_of x ∷ lexemes_of (drop (suc n) tokens)) =
    ap lexemes_of (sym whole) ∙ map-append lexeme_of (take n tokens) (x ∷ drop (suc n) tokens) in
    let more : take n tokens ++ x ∷ [] ≡ take (suc n) tokens = sym (ap (λ k. take k tokens) one ∙ take_more tokens n blank below) in
    let next : tokens_of (lexemes_of (take n tokens) ++ lexeme_of x ∷ []) ≡ take (suc n) (tokens_in tokens) =
    ap tokens_of (sym (map-append lexeme_of (take n tokens) (x ∷ []))) ∙ (ap (λ y. tokens_of (lexemes_of y)) more ∙ front_tokens (suc n) tokens) in
    of_tokens _ small
    (misplaced (lexemes_of (take n tokens)) (lexeme_of x) (lexemes_of (drop (suc n) tokens)) lexed.rest end.place (subst (λ y. Reads bytes text_start y lexed.rest end.place) split lexed.reads)
    (subst BeginsModule (sym (front_tokens n tokens)) wrong.begins) (λ b. wrong.wrong (omega (arith, below, tokens_long tokens)) (subst BeginsModule next b)))
  where
    one : suc n ≡ n + 1
    one = omega arith

at_text_end : (bytes : List ℕ) (tokens : List Token) (end : Refusal) → length bytes ≤ limit → Lexes bytes tokens end → BeginsModule (tokens_in tokens) → (¬ IsModule (tokens_in tokens) ⊎ (end.rule ≡ 50)) → IsSyntaxFault bytes end
at_text_end bytes tokens end small lexed begins h =
    elim lexed.ends [
      | inr u ↦ of_tokens end small (subst (FrontFault bytes) (ruled end 50 u.1) (unknown (lexemes_of tokens) lexed.rest end.place lexed.reads u.0 (subst BeginsModule (sym (same_tokens tokens)) begins)))
      | inl e ↦
          elim h [
            | inl none ↦
                of_tokens end small
                (subst (FrontFault bytes) (ruled end 51 e.1)
                (early (lexemes_of tokens) end.place (subst (λ y. Reads bytes text_start (lexemes_of tokens) y end.place) e.0 lexed.reads) (subst BeginsModule (sym (same_tokens tokens)) begins)
                (λ m. none (subst IsModule (same_tokens tokens) m))))
            | inr rule ↦ absurd (omega (arith, rule, e.1))
          ]
    ]

pub refused_behind : (bytes : List ℕ) (tokens : List Token) (end : Refusal) (n : ℕ) → length bytes ≤ limit → Lexes bytes tokens end → FirstWrong (tokens_in tokens) n
    → IsSyntaxFault bytes (refusal_behind tokens end n)
refused_behind bytes tokens end n small lexed wrong =
    elim (cases_lt n (length tokens)) [
      | inl below ↦
          subst (IsSyntaxFault bytes) (sym (ap (λ b. cond b (record { rule = 51; place = (get_or tokens n blank).place }) end) (lt-ltb n (length tokens) below)))
          (in_text bytes tokens end n small below lexed wrong)
      | inr up ↦
          let same : n ≡ length (tokens_in tokens) = omega (arith, up, wrong.within, tokens_long tokens) in
          let all : take n (tokens_in tokens) ≡ tokens_in tokens = take_all n (tokens_in tokens) (omega (arith, same)) in
          subst (IsSyntaxFault bytes) (sym (ap (λ b. cond b (record { rule = 51; place = (get_or tokens n blank).place }) end) (le-ltb n (length tokens) up)))
          (at_text_end bytes tokens end small lexed (subst BeginsModule all wrong.begins) (inl (wrong.early same)))
    ]

-- the tokens are those of a module, and a byte is left at which none begins
pub refused_end : (bytes : List ℕ) (tokens : List Token) (end : Refusal) (m : PlacedModule) → length bytes ≤ limit → Lexes bytes tokens end → IsParsed tokens m → (end.rule ≡ 51 → ⊥) → IsSyntaxFault bytes end
refused_end bytes tokens end m small lexed parsed other =
    let rule : end.rule ≡ 50 = (elim lexed.ends [ inl e ↦ absurd (other e.1) | inr u ↦ u.1 ]) in
    at_text_end bytes tokens end small lexed ([], subst IsModule (sym (append-nil (tokens_in tokens))) parsed.grammar) (inr rule)

pub says : (bytes : List ℕ) (tokens : List Token) (end : Refusal) (m : PlacedModule) → Lexes bytes tokens end → IsParsed tokens m → end.rule ≡ 51 → Says bytes m
says bytes tokens end m lexed parsed rule =
    let none : lexed.rest ≡ [] = (elim lexed.ends [ inl e ↦ e.0 | inr u ↦ absurd (omega (arith, rule, u.1)) ]) in
    record { lexemes = lexemes_of tokens; end = end.place; reads = subst (λ y. Reads bytes text_start (lexemes_of tokens) y end.place) none lexed.reads; stand = parsed.stand; grammar = subst IsModule (sym (same_tokens tokens)) parsed.grammar; blocks = parsed.blocks; nets = parsed.nets; named = parsed.named }

pub refused_stop : (A : Type 0) (bytes : List ℕ) (tokens : List Token) (end : Refusal) (s : Stop) (e : Fail) → length bytes ≤ limit → Lexes bytes tokens end → StopsRight (tokens_in tokens) s → e ≡ failure_of tokens end s
    → IfRefused {A = A} (Err e) (λ x. IsSyntaxFault bytes x)
refused_stop A bytes tokens end (stop.Behind n) e small lexed wrong is =
    let P : Fail → Type 0 = λ f. IfRefused {A = A} (Err f) (λ x. IsSyntaxFault bytes x) in subst P (sym is) (refused_behind bytes tokens end n small lexed wrong)
refused_stop A bytes tokens end stop.Memory e small lexed wrong is = let P : Fail → Type 0 = λ f. IfRefused {A = A} (Err f) (λ x. IsSyntaxFault bytes x) in subst P (sym is) tt
