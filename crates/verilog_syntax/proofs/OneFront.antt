-- What a text says, and the fault of its tokens, are one.
use Rattle.std.proofs.Common.{◌≡◌, inl, inr, ℕ, List, [], ◌∷◌, ◌++◌, length, append_assoc, append-nil, refl, sym, ap, ◌∙◌, subst, arith}
use Rattle.std.specs.Prelude.{Result, Ok, Err}
use Rattle.std.proofs.lemmas.List.{map-append}
use Rattle.hls_base.specs.declared.place.Place.{Place}
use Rattle.hls_base.specs.declared.refusal.Refusal.{Refusal}
use Rattle.hls_base.specs.declared.refusal.Fail.{Fail}
use Rattle.hls_base.specs.declared.refusal.Fail.TheVariants.{Refused, Memory}
use Rattle.hls_base.specs.Refusals.{IfRefused}
use Rattle.hls_base.specs.TextPlaces.{text_start}
use Rattle.verilog_syntax.specs.Lexemes.{Lexeme, tokens_of, Reads, NothingBegins}
use Rattle.verilog_syntax.specs.Forms.{IsModule, BeginsModule}
use Rattle.verilog_syntax.specs.PlacedSyntax.{PlacedModule}
use Rattle.verilog_syntax.specs.Marks.{Stand, module_marks}
use Rattle.verilog_syntax.specs.TextSyntax.{Says, FrontFault, unknown, misplaced, early, IsSyntaxFault, over_long, of_tokens}
use Rattle.verilog_syntax.proofs.OneReading.{prefix_cases}
use Rattle.verilog_syntax.proofs.OneSyntax.{same_syntax}
use Rattle.verilog_syntax.proofs.Unplaced.{syntax_of, stand_tokens, module_tokens}
use Rattle.verilog_syntax.proofs.SameReading.{Compared, compared, IsStuck, stuck_over, stuck_none, covers, both_stuck}
use Rattle.verilog_syntax.proofs.OnePlacing.{one_module}
use Rattle.rtl_core.specs.ModuleSyntax.{syntax_tokens}

-- the tokens of what is said
pub said_tokens : (bytes : List ℕ) (m : PlacedModule) (said : Says bytes m) → tokens_of said.lexemes ≡ syntax_tokens (syntax_of m)
said_tokens bytes m said = stand_tokens said.lexemes (module_marks m) said.stand ∙ module_tokens m said.blocks

abbrev Row : Type 0
Row = List Lexeme

-- ---- where modules begin

begins_front : (a b : Row) → BeginsModule (tokens_of (a ++ b)) → BeginsModule (tokens_of a)
begins_front a b begins =
    let parts : tokens_of (a ++ b) ++ begins.0 ≡ tokens_of a ++ (tokens_of b ++ begins.0) =
    ap (λ t. t ++ begins.0) (map-append (λ (l : Lexeme). l.token) a b) ∙ append_assoc (tokens_of a) (tokens_of b) begins.0 in
    (tokens_of b ++ begins.0, subst IsModule parts begins.1)

module_begins : (ls : Row) → IsModule (tokens_of ls) → BeginsModule (tokens_of ls)
module_begins ls m = ([], subst IsModule (sym (append-nil (tokens_of ls))) m)

-- tokens with which a module begins do not have a wrong one among them
not_covered : (ls before : Row) (wrong : Lexeme) (after more : Row) → ls ≡ (before ++ wrong ∷ after) ++ more → BeginsModule (tokens_of ls) → ¬ BeginsModule (tokens_of (before ++ wrong ∷ [])) → ⊥
not_covered ls before wrong after more e begins stops =
    let parts : ls ≡ (before ++ wrong ∷ []) ++ (after ++ more) =
    e ∙ (append_assoc before (wrong ∷ after) more ∙ sym (append_assoc before (wrong ∷ []) (after ++ more))) in
    stops (begins_front (before ++ wrong ∷ []) (after ++ more) (subst (λ x. BeginsModule (tokens_of x)) parts begins))

-- the first wrong token of a row is one
same_here : (zs b : Row) (w : Lexeme) (c d : Row) (v : Lexeme) (f : Row) → d ≡ b ++ zs → w ∷ c ≡ zs ++ (v ∷ f) → BeginsModule (tokens_of d) → ¬ BeginsModule (tokens_of (b ++ w ∷ [])) → w ≡ v
same_here [] b w c d v f e h begins stops = cc
same_here (z ∷ zs) b w c d v f e h begins stops =
    let head : z ≡ w = cc in
    let parts : d ≡ (b ++ w ∷ []) ++ zs = e ∙ (ap (λ x. b ++ (x ∷ zs)) head ∙ sym (append_assoc b (w ∷ []) zs)) in
    absurd (stops (begins_front (b ++ w ∷ []) zs (subst (λ x. BeginsModule (tokens_of x)) parts begins)))

same_wrong : (b : Row) (w : Lexeme) (c d : Row) (v : Lexeme) (f : Row) → b ++ w ∷ c ≡ d ++ v ∷ f → BeginsModule (tokens_of b) → ¬ BeginsModule (tokens_of (b ++ w ∷ [])) → BeginsModule (tokens_of d)
    → ¬ BeginsModule (tokens_of (d ++ v ∷ [])) → w ≡ v
same_wrong b w c d v f e begins stops begins2 stops2 =
    elim (prefix_cases b (w ∷ c) d (v ∷ f) e) [
      | inl r ↦ same_here r.0 b w c d v f r.1 r.2 begins2 stops
      | inr r ↦ sym (same_here r.0 d v f b w c r.1 r.2 begins stops2)
    ]

wrong_compared : (b : Row) (w : Lexeme) (c : Row) (rest : List ℕ) (end : Place) (d : Row) (v : Lexeme) (f : Row) (rest2 : List ℕ) (end2 : Place) → Compared (b ++ w ∷ c) rest end (d ++ v ∷ f) rest2 end2
    → BeginsModule (tokens_of b) → ¬ BeginsModule (tokens_of (b ++ w ∷ [])) → BeginsModule (tokens_of d) → ¬ BeginsModule (tokens_of (d ++ v ∷ [])) → w ≡ v
wrong_compared b w c rest end d v f rest2 end2 (inl r) begins stops begins2 stops2 =
    same_wrong b w (c ++ r.0) d v f (sym (r.1 ∙ append_assoc b (w ∷ c) r.0)) begins stops begins2 stops2
wrong_compared b w c rest end d v f rest2 end2 (inr r) begins stops begins2 stops2 =
    same_wrong b w c d v (f ++ r.0) (r.1 ∙ append_assoc d (v ∷ f) r.0) begins stops begins2 stops2

-- ---- two readings up to their ends

-- tokens that a module begins with, read as far as it goes, and a row with a wrong one
stuck_wrong : (bytes : List ℕ) (ls : Row) (rest : List ℕ) (end : Place) (before : Row) (wrong : Lexeme) (after : Row) (rest2 : List ℕ) (end2 : Place) → IsStuck rest end → Reads bytes text_start ls rest end
    → BeginsModule (tokens_of ls) → Reads bytes text_start (before ++ wrong ∷ after) rest2 end2 → ¬ BeginsModule (tokens_of (before ++ wrong ∷ [])) → ⊥
stuck_wrong bytes ls rest end before wrong after rest2 end2 stuck r begins s stops =
    let c = covers ls rest end (before ++ wrong ∷ after) rest2 end2 stuck (compared bytes text_start ls rest end (before ++ wrong ∷ after) rest2 end2 r s) in
    not_covered ls before wrong after c.0 c.1 begins stops

-- a byte at which nothing begins is not the end of the text
no_end_there : (bytes : List ℕ) (ls : Row) (rest : List ℕ) (end : Place) (ms : Row) (end2 : Place) → NothingBegins rest → Reads bytes text_start ls rest end → Reads bytes text_start ms [] end2 → ⊥
no_end_there bytes ls rest end ms end2 h r s =
    let c = both_stuck ls rest end ms [] end2 (stuck_none rest end h) (stuck_over end2) (compared bytes text_start ls rest end ms [] end2 r s) in
    omega (arith, h.some, ap length c.1)

same_end : (bytes : List ℕ) (ls : Row) (end : Place) (ms : Row) (end2 : Place) → Reads bytes text_start ls [] end → Reads bytes text_start ms [] end2 → (ls ≡ ms) × (end ≡ end2)
same_end bytes ls end ms end2 r s = let c = both_stuck ls [] end ms [] end2 (stuck_over end) (stuck_over end2) (compared bytes text_start ls [] end ms [] end2 r s) in (c.0, c.2)

abbrev at_place : ℕ → Place → Refusal
at_place rule place = record { rule = rule; place = place }

-- ---- faults of the front

pub front_once : (bytes : List ℕ) (p q : Refusal) → FrontFault bytes p → FrontFault bytes q → p ≡ q
front_once bytes _ _ (unknown ls rest place r h b) (unknown ms rest2 place2 s k d) =
    let c = both_stuck ls rest place ms rest2 place2 (stuck_none rest place h) (stuck_none rest2 place2 k) (compared bytes text_start ls rest place ms rest2 place2 r s) in ap (at_place 50) c.2
front_once bytes _ _ (unknown ls rest place r h b) (misplaced before wrong after rest2 end2 s d stops) =
    absurd (stuck_wrong bytes ls rest place before wrong after rest2 end2 (stuck_none rest place h) r b s stops)
front_once bytes _ _ (unknown ls rest place r h b) (early ms end2 s d n) = absurd (no_end_there bytes ls rest place ms end2 h r s)
front_once bytes _ _ (misplaced before wrong after rest end r b stops) (unknown ms rest2 place2 s k d) =
    absurd (stuck_wrong bytes ms rest2 place2 before wrong after rest end (stuck_none rest2 place2 k) s d r stops)
front_once bytes _ _ (misplaced before wrong after rest end r b stops) (misplaced before2 wrong2 after2 rest2 end2 s d stops2) =
    let same = wrong_compared before wrong after rest end before2 wrong2 after2 rest2 end2 (compared bytes text_start (before ++ wrong ∷ after) rest end (before2 ++ wrong2 ∷ after2) rest2 end2 r s) b stops d stops2 in
    ap (λ (l : Lexeme). at_place 51 l.place) same
front_once bytes _ _ (misplaced before wrong after rest end r b stops) (early ms end2 s d n) =
    absurd (stuck_wrong bytes ms [] end2 before wrong after rest end (stuck_over end2) s d r stops)
front_once bytes _ _ (early ls end r b n) (unknown ms rest2 place2 s k d) = absurd (no_end_there bytes ms rest2 place2 ls end k s r)
front_once bytes _ _ (early ls end r b n) (misplaced before wrong after rest2 end2 s d stops) =
    absurd (stuck_wrong bytes ls [] end before wrong after rest2 end2 (stuck_over end) r b s stops)
front_once bytes _ _ (early ls end r b n) (early ms end2 s d n2) = ap (at_place 51) (same_end bytes ls end ms end2 r s).1

pub front_says : (bytes : List ℕ) (p : Refusal) (m : PlacedModule) → FrontFault bytes p → Says bytes m → ⊥
front_says bytes _ m (unknown ls rest place r h b) said = no_end_there bytes ls rest place said.lexemes said.end h r said.reads
front_says bytes _ m (misplaced before wrong after rest end r b stops) said =
    stuck_wrong bytes said.lexemes [] said.end before wrong after rest end (stuck_over said.end) said.reads (module_begins said.lexemes said.grammar) r stops
front_says bytes _ m (early ls end r b n) said =
    n (subst (λ x. IsModule (tokens_of x)) (sym (same_end bytes ls end said.lexemes said.end r said.reads).0) said.grammar)

-- ---- what is said

pub says_once : (bytes : List ℕ) (m n : PlacedModule) → Says bytes m → Says bytes n → m ≡ n
says_once bytes m n said also =
    let same = (same_end bytes said.lexemes said.end also.lexemes also.end said.reads also.reads).0 in
    let syntax : syntax_of m ≡ syntax_of n =
    same_syntax (syntax_of m) (syntax_of n) (sym (said_tokens bytes m said) ∙ (ap tokens_of same ∙ said_tokens bytes n also)) in
    one_module m n said.lexemes said.stand (subst (λ x. Stand x (module_marks n)) (sym same) also.stand) said.blocks also.blocks said.nets also.nets syntax

-- ---- the answer

pub one_fault : (bytes : List ℕ) (p q : Refusal) → IsSyntaxFault bytes p → IsSyntaxFault bytes q → p ≡ q
one_fault bytes _ _ (over_long h) (over_long k) = refl
one_fault bytes _ _ (over_long h) (of_tokens q few f) = absurd (omega (arith, h, few))
one_fault bytes _ _ (of_tokens p few f) (over_long k) = absurd (omega (arith, k, few))
one_fault bytes _ _ (of_tokens p few f) (of_tokens q few2 g) = front_once bytes p q f g

pub refused_once : {A : Type 0} (bytes : List ℕ) (r : Result A Fail) → IfRefused r (λ x. IsSyntaxFault bytes x) → IfRefused r (λ x. (q : Refusal) → IsSyntaxFault bytes q → q ≡ x)
refused_once bytes (Ok d) h = tt
refused_once bytes (Err (Refused x)) h = λ q is. one_fault bytes q x is h
refused_once bytes (Err Memory) h = tt
