-- The rule of a token by its sort.
use Rattle.std.proofs.Common.{◌≡◌, ℕ, Bool, true, false, List, Option, Some, None, refl, ap, sym, ◌∙◌}
use Rattle.std.specs.Prelude.{if◌then◌else◌}
use Rattle.c_token.specs.declared.punct.Punct.{Punct}
use Rattle.c_token.specs.declared.punct.Punct.TheVariants as p
use Rattle.c_token.specs.declared.token.TokenKind.{TokenKind}
use Rattle.c_token.specs.declared.token.TokenKind.TheVariants as k
use Rattle.c_token.specs.Replacement.{is_in}
use Rattle.c_tree.specs.declared.specifier.Specifier.{Specifier}
use Rattle.c_tree.specs.declared.specifier.Specifier.TheVariants as s
use Rattle.c_tree.specs.Kinds.{specifier_of}
use Rattle.c_tree.specs.Refusal.{rule_of, unsupported}
use Rattle.c_syntax.specs.declared.sorts.sort.Sort.{Sort}
use Rattle.c_syntax.specs.declared.sorts.sort.Sort.TheVariants as o
use Rattle.c_syntax.specs.Sorts.{sort_of, sort_of_sign, keyword_of, specifier_or, keyword_or, rule_of_sort}
use Rattle.c_syntax.proofs.Seen.{specifier_spelled, specifier_text, keyword_spelled, keyword_text, is_keyword_sort}

rule_of_sign : (punct : Punct) → rule_of_sort (sort_of_sign punct) ≡ rule_of (k.Punct punct)
rule_of_sign p.LeftParen = refl
rule_of_sign _ = refl

specifier_free : (w : Specifier) → is_in (specifier_text w) unsupported ≡ false
specifier_free s.Void = refl
specifier_free s.Bool = refl
specifier_free s.Char = refl
specifier_free s.Short = refl
specifier_free s.Int = refl
specifier_free s.Long = refl
specifier_free s.Signed = refl
specifier_free s.Unsigned = refl

keyword_rule : (sort : Sort) → is_keyword_sort sort ≡ true → (rule_of_sort sort ≡ 6) × (is_in (keyword_text sort) unsupported ≡ false)
keyword_rule o.Const e = (refl, refl)
keyword_rule o.Static e = (refl, refl)
keyword_rule o.Inline e = (refl, refl)
keyword_rule o.If e = (refl, refl)
keyword_rule o.Else e = (refl, refl)
keyword_rule o.Switch e = (refl, refl)
keyword_rule o.Case e = (refl, refl)
keyword_rule o.Default e = (refl, refl)
keyword_rule o.While e = (refl, refl)
keyword_rule o.Do e = (refl, refl)
keyword_rule o.For e = (refl, refl)
keyword_rule o.Break e = (refl, refl)
keyword_rule o.Continue e = (refl, refl)
keyword_rule o.Return e = (refl, refl)
keyword_rule _ e = absurd cc

free_rule : (b : Bool) → rule_of_sort (if b then o.Unsupported else o.Name) ≡ (if b then 20 else 6)
free_rule true = refl
free_rule false = refl

keyword_or_rule : (text : List ℕ) (found : Option Sort) → keyword_of text ≡ found
    → rule_of_sort (keyword_or found (if is_in text unsupported then o.Unsupported else o.Name)) ≡ (if is_in text unsupported then 20 else 6)
keyword_or_rule text None e = free_rule (is_in text unsupported)
keyword_or_rule text (Some sort) e =
    let x = keyword_spelled text sort e in let r = keyword_rule sort x.1 in
    r.0 ∙ sym (ap (λ b. if b then 20 else 6) (ap (λ y. is_in y unsupported) x.0 ∙ r.1))

specifier_or_rule : (text : List ℕ) (found : Option Specifier) → specifier_of text ≡ found
    → rule_of_sort (specifier_or found (keyword_or (keyword_of text) (if is_in text unsupported then o.Unsupported else o.Name))) ≡ (if is_in text unsupported then 20 else 6)
specifier_or_rule text None e = keyword_or_rule text (keyword_of text) refl
specifier_or_rule text (Some w) e = sym (ap (λ b. if b then 20 else 6) (ap (λ y. is_in y unsupported) (specifier_spelled text w e) ∙ specifier_free w))

pub rule_by_sort : (kind : TokenKind) → rule_of_sort (sort_of kind) ≡ rule_of kind
rule_by_sort (k.Word text) = specifier_or_rule text (specifier_of text) refl
rule_by_sort (k.Number value kind) = refl
rule_by_sort (k.Punct punct) = rule_of_sign punct
rule_by_sort (k.TypeWord kind) = refl
