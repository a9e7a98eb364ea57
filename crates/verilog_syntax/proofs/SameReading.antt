-- Of two readings of the same bytes one goes on where the other ends.
use Rattle.std.proofs.Common.{◌≡◌, ◌⊎◌, inl, inr, ℕ, List, [], ◌∷◌, ◌++◌, append-nil, refl, sym, ap, ◌∙◌, subst}
use Rattle.std.proofs.lemmas.List.{append_cancel_right}
use Rattle.hls_base.specs.declared.place.Place.{Place}
use Rattle.rtl_core.specs.ModuleTokens.{Token, IsToken, IsLongest}
use Rattle.hls_base.specs.TextPlaces.{place_after}
use Rattle.verilog_syntax.specs.Lexemes.{Lexeme, IsGap, Reads, over, a_gap, a_token, NothingBegins}
use Rattle.verilog_syntax.proofs.TokenSizes.{token_some}
use Rattle.verilog_syntax.proofs.OneReading.{same_gap, gap_no_token, same_longest, gap_some, empty_front}

abbrev lexeme : Token → Place → Lexeme
lexeme token place = record { token = token; place = place }

-- what a reading begins with
data Started (bytes : List ℕ) (place : Place) (ls : List Lexeme) (rest : List ℕ) (end : Place) : Type 0 where
  at_end : bytes ≡ rest → place ≡ end → ls ≡ [] → Started bytes place ls rest end
  with_gap : (text behind : List ℕ) → bytes ≡ text ++ behind → IsGap text behind → Reads behind (place_after place text) ls rest end → Started bytes place ls rest end
  with_token : (text behind : List ℕ) (token : Token) (more : List Lexeme) → bytes ≡ text ++ behind → IsToken text token → IsLongest text behind → ls ≡ lexeme token place ∷ more
      → Reads behind (place_after place text) more rest end → Started bytes place ls rest end

started : (bytes : List ℕ) (place : Place) (ls : List Lexeme) (rest : List ℕ) (end : Place) → Reads bytes place ls rest end → Started bytes place ls rest end
started _ _ _ rest end (over bytes place) = at_end refl refl refl
started _ place ls rest end (a_gap text bytes place2 ls2 rest2 end2 g r) = with_gap text bytes refl g r
started _ place _ rest end (a_token text bytes place2 token ls2 rest2 end2 is longest r) = with_token text bytes token ls2 refl is longest refl r

-- the second goes on where the first ends, or the first where the second does
abbrev pub Compared : List Lexeme → List ℕ → Place → List Lexeme → List ℕ → Place → Type 0
Compared ls rest end ms rest2 end2 = ((more : List Lexeme) × (ms ≡ ls ++ more) × Reads rest end more rest2 end2) ⊎ ((more : List Lexeme) × (ls ≡ ms ++ more) × Reads rest2 end2 more rest end)

over_first : (bytes : List ℕ) (place : Place) (ls : List Lexeme) (rest : List ℕ) (end : Place) (ms : List Lexeme) (rest2 : List ℕ) (end2 : Place) → Reads bytes place ls rest end
    → bytes ≡ rest2 → place ≡ end2 → ms ≡ [] → Compared ls rest end ms rest2 end2
over_first bytes place ls rest end ms rest2 end2 r b p n =
    inr (ls, sym (ap (λ x. x ++ ls) n), subst (λ x. Reads x end2 ls rest end) b (subst (λ x. Reads bytes x ls rest end) p r))

one_more : (l : Lexeme) (ls : List Lexeme) (rest : List ℕ) (end : Place) (ms : List Lexeme) (rest2 : List ℕ) (end2 : Place) (all : List Lexeme) → all ≡ l ∷ ms → Compared ls rest end ms rest2 end2
    → Compared (l ∷ ls) rest end all rest2 end2
one_more l ls rest end ms rest2 end2 all e (inl r) = inl (r.0, e ∙ ap (λ x. l ∷ x) r.1, r.2)
one_more l ls rest end ms rest2 end2 all e (inr r) = inr (r.0, ap (λ x. l ∷ x) r.1 ∙ sym (ap (λ x. x ++ r.0) e), r.2)

-- what is behind two texts that are the same
same_text : (text bytes t b : List ℕ) → text ++ bytes ≡ t ++ b → bytes ≡ b → text ≡ t
same_text text bytes t b e same = append_cancel_right text t bytes (e ∙ ap (λ x. t ++ x) (sym same))

moved : (text bytes t b : List ℕ) (place : Place) (ls : List Lexeme) (rest : List ℕ) (end : Place) → text ≡ t → bytes ≡ b → Reads b (place_after place t) ls rest end → Reads bytes (place_after place text) ls rest end
moved text bytes t b place ls rest end same behind r = subst (λ x. Reads x (place_after place text) ls rest end) (sym behind) (subst (λ x. Reads b (place_after place x) ls rest end) (sym same) r)

pub compared : (bytes : List ℕ) (place : Place) (ls : List Lexeme) (rest : List ℕ) (end : Place) (ms : List Lexeme) (rest2 : List ℕ) (end2 : Place) → Reads bytes place ls rest end → Reads bytes place ms rest2 end2
    → Compared ls rest end ms rest2 end2
compared _ _ _ rest end ms rest2 end2 (over bytes place) s = inl (ms, refl, s)
compared _ place ls rest end ms rest2 end2 (a_gap text bytes place3 ls3 rest3 end3 g r) s = elim (started (text ++ bytes) place ms rest2 end2 s) [
  | at_end b p n ↦ over_first (text ++ bytes) place ls rest end ms rest2 end2 (a_gap text bytes place ls rest end g r) b p n
  | with_gap t b e h more ↦
      let same = same_gap text bytes t b g h e in
      compared bytes (place_after place text) ls rest end ms rest2 end2 r (moved text bytes t b place ms rest2 end2 (same_text text bytes t b e same) same more)
  | with_token t b token ts e is longest n more ↦ absurd (gap_no_token text bytes t b token g is e)
]
compared _ place _ rest end ms rest2 end2 (a_token text bytes place3 token ls3 rest3 end3 is longest r) s = elim (started (text ++ bytes) place ms rest2 end2 s) [
  | at_end b p n ↦ over_first (text ++ bytes) place (lexeme token place ∷ ls3) rest end ms rest2 end2 (a_token text bytes place token ls3 rest end is longest r) b p n
  | with_gap t b e h more ↦ absurd (gap_no_token t b text bytes token h is (sym e))
  | with_token t b other ts e is2 longest2 n more ↦
      let same = same_longest text bytes t b token other is longest is2 longest2 e in
      one_more (lexeme token place) ls3 rest end ts rest2 end2 ms (n ∙ ap (λ x. lexeme x place ∷ ts) (sym same.0))
      (compared bytes (place_after place text) ls3 rest end ts rest2 end2 r (moved text bytes t b place ts rest2 end2 (same_text text bytes t b e same.1) same.1 more))
]

-- ---- readings that end at once

abbrev Over : List ℕ → Place → List Lexeme → List ℕ → Place → Type 0
Over bytes place ls rest end = (bytes ≡ rest) × (place ≡ end) × (ls ≡ [])

pub nothing_read : (place : Place) (ls : List Lexeme) (rest : List ℕ) (end : Place) → Reads [] place ls rest end → Over [] place ls rest end
nothing_read place ls rest end r = elim (started [] place ls rest end r) [
  | at_end b p n ↦ (b, p, n)
  | with_gap t b e h more ↦ absurd (empty_front t b (sym e) (gap_some t b h))
  | with_token t b token ts e is longest n more ↦ absurd (empty_front t b (sym e) (token_some t token is))
]

pub none_read : (bytes : List ℕ) (place : Place) (ls : List Lexeme) (rest : List ℕ) (end : Place) → NothingBegins bytes → Reads bytes place ls rest end → Over bytes place ls rest end
none_read bytes place ls rest end h r = elim (started bytes place ls rest end r) [
  | at_end b p n ↦ (b, p, n)
  | with_gap t b e g more ↦ absurd (h.gap t b e g)
  | with_token t b token ts e is longest n more ↦ absurd (h.token t b token e is)
]

-- ---- a reading behind whose end nothing is read covers each other

abbrev pub IsStuck : List ℕ → Place → Type 0
IsStuck rest end = (more : List Lexeme) (rest2 : List ℕ) (end2 : Place) → Reads rest end more rest2 end2 → Over rest end more rest2 end2

pub stuck_over : (end : Place) → IsStuck [] end
stuck_over end more rest2 end2 r = nothing_read end more rest2 end2 r

pub stuck_none : (rest : List ℕ) (end : Place) → NothingBegins rest → IsStuck rest end
stuck_none rest end h more rest2 end2 r = none_read rest end more rest2 end2 h r

no_more : (ls more : List Lexeme) → more ≡ [] → ls ++ more ≡ ls
no_more ls more e = ap (λ x. ls ++ x) e ∙ append-nil ls

pub covers : (ls : List Lexeme) (rest : List ℕ) (end : Place) (ms : List Lexeme) (rest2 : List ℕ) (end2 : Place) → IsStuck rest end → Compared ls rest end ms rest2 end2 → (more : List Lexeme) × (ls ≡ ms ++ more)
covers ls rest end ms rest2 end2 stuck (inl r) = let o = stuck r.0 rest2 end2 r.2 in ([], sym (append-nil ms ∙ (r.1 ∙ no_more ls r.0 o.2)))
covers ls rest end ms rest2 end2 stuck (inr r) = (r.0, r.1)

-- two readings that are both stuck are the same
pub both_stuck : (ls : List Lexeme) (rest : List ℕ) (end : Place) (ms : List Lexeme) (rest2 : List ℕ) (end2 : Place) → IsStuck rest end → IsStuck rest2 end2 → Compared ls rest end ms rest2 end2
    → (ls ≡ ms) × (rest ≡ rest2) × (end ≡ end2)
both_stuck ls rest end ms rest2 end2 stuck stuck2 (inl r) = let o = stuck r.0 rest2 end2 r.2 in (sym (r.1 ∙ no_more ls r.0 o.2), o.0, o.1)
both_stuck ls rest end ms rest2 end2 stuck stuck2 (inr r) = let o = stuck2 r.0 rest end r.2 in (r.1 ∙ no_more ms r.0 o.2, sym o.0, sym o.1)
