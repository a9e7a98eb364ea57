-- The reserved words in their order.
use Rattle.std.proofs.Common.{◌≡◌, ◌≢◌, ◌<◌, ◌≤◌, ℕ, ◌+◌, List, [], ◌∷◌, get_or, take, sym, ◌∙◌, subst}
use Rattle.std.specs.List.{All}
use Rattle.std.proofs.lemmas.List.{take_all, get_or-map}
use Rattle.std.proofs.lemmas.List.Elements.{All-more}
use Rattle.rtl_core.specs.Valid.{reserved_words}
use Rattle.verilog_syntax.specs.declared.token.Keyword.{Keyword}
use Rattle.verilog_syntax.specs.declared.token.Keyword.TheVariants as k
use Rattle.verilog_syntax.specs.Signs.{keyword_text}

abbrev pub all_keywords : List Keyword
all_keywords =
    k.Module ∷ k.Clock ∷ k.Input ∷ k.Output ∷ k.Reg ∷ k.Wire ∷ k.Assign ∷ k.Always ∷ k.Posedge ∷ k.If ∷ k.Begin ∷ k.End ∷ k.Endmodule ∷ []

pub keyword_more : (i : ℕ) (t text : List ℕ) → i < 13 → t ≡ keyword_text (get_or all_keywords i k.Module) → (t ≡ text → ⊥)
    → All (λ word. word ≢ text) (take i reserved_words) → All (λ word. word ≢ text) (take (i + 1) reserved_words)
keyword_more i t text below is other all =
    All-more (λ word. word ≢ text) reserved_words i t below all
    (λ e. other (is ∙ (sym (get_or-map keyword_text all_keywords i k.Module t below) ∙ e)))

pub keyword_all : (i : ℕ) (text : List ℕ) → 13 ≤ i → All (λ word. word ≢ text) (take i reserved_words) → All (λ word. word ≢ text) reserved_words
keyword_all i text h all = subst (All (λ word. word ≢ text)) (take_all i reserved_words h) all
