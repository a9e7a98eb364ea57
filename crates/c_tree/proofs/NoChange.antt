-- What is no change by its own operator: an expression that has a value, and is neither an assignment nor `++` or `--` alone.
use Rattle.std.proofs.Common.{◌≡◌, ℕ, zero, suc, ◌≤◌, ◌∙◌, sym, refl, ap, Bool, true, false, List, [], ◌∷◌, ◌++◌, Option, Some, is_some, codes, append_assoc, arith}
use Rattle.std.specs.Prelude.{◌&&◌, ◌||◌, not, if◌then◌else◌}
use Rattle.std.proofs.lemmas.Bool.{and_parts, or_left, or_right, not-true}
use Rattle.std.proofs.lemmas.List.{append-nil}
use Rattle.hls_base.specs.declared.place.Place.{Place}
use Rattle.c_token.specs.declared.ctype.CType.{CType}
use Rattle.c_token.specs.declared.punct.Punct.{Punct}
use Rattle.c_token.specs.declared.punct.Punct.TheVariants as p
use Rattle.c_token.specs.declared.token.TokenKind.{TokenKind}
use Rattle.c_token.specs.declared.token.TokenKind.TheVariants as k
use Rattle.c_tree.specs.declared.operator.Unary.{Unary}
use Rattle.c_tree.specs.declared.operator.Binary.{Binary}
use Rattle.c_tree.specs.declared.specifier.Specifier.{Specifier}
use Rattle.c_tree.specs.Tree.{Tree, TargetTree, Trees, ActionTree}
use Rattle.c_tree.specs.Terminals.{Terminal, terminal, sign, word, prefix_of, operator_of, assignment_of, bump_of}
use Rattle.c_tree.specs.Kinds as kinds
use Rattle.c_tree.specs.Kinds.{DerivesWords, DerivesKind}
use Rattle.c_tree.specs.Grammar as g
use Rattle.c_tree.specs.Grammar.{Derives, DerivesTarget, DerivesSubscripts, DerivesArguments, DerivesList, DerivesChange, binary_level}
use Rattle.c_tree.specs.StatementRows.{is_plain}
use Rattle.c_tree.proofs.Longest.{every, implied}
use Rattle.c_tree.proofs.Productions.{operator_level}

-- ---- brackets

abbrev is_left : Punct → Bool
is_left p.LeftBracket = true
is_left _ = false

abbrev is_right : Punct → Bool
is_right p.RightBracket = true
is_right _ = false

abbrev opens : TokenKind → Bool
opens (k.Punct q) = is_left q
opens _ = false

abbrev closes : TokenKind → Bool
closes (k.Punct q) = is_right q
closes _ = false

-- what stands behind the subscripts with which the tokens begin, where so many brackets are open
abbrev past : ℕ → List Terminal → List Terminal
past zero [] = []
past (suc n) [] = []
past zero (t ∷ ts) = if opens t.kind then past 1 ts else (t ∷ ts)
past (suc n) (t ∷ ts) = if opens t.kind then past (suc (suc n)) ts else (if closes t.kind then past n ts else past (suc n) ts)

-- no brackets are left open
abbrev Balanced : List Terminal → Type 0
Balanced ts = (n : ℕ) (rest : List Terminal) → past (suc n) (ts ++ rest) ≡ past (suc n) rest

-- a token that is no bracket
abbrev IsOther : Terminal → Type 0
IsOther t = (opens t.kind ≡ false) × (closes t.kind ≡ false)

other_past : (t : Terminal) (ts : List Terminal) (n : ℕ) → IsOther t → past (suc n) (t ∷ ts) ≡ past (suc n) ts
other_past t ts n o =
    ap (λ b. if b then past (suc (suc n)) ts else (if closes t.kind then past n ts else past (suc n) ts)) o.0
    ∙ ap (λ b. if b then past n ts else past (suc n) ts) o.1

nothing_balanced : Balanced []
nothing_balanced n rest = refl

other_balanced : (t : Terminal) (ts : List Terminal) → IsOther t → Balanced ts → Balanced (t ∷ ts)
other_balanced t ts o b n rest = other_past t (ts ++ rest) n o ∙ b n rest

both_balanced : (ts us : List Terminal) → Balanced ts → Balanced us → Balanced (ts ++ us)
both_balanced ts us b c n rest = ap (past (suc n)) (append_assoc ts us rest) ∙ b n (us ++ rest) ∙ c n rest

-- ---- signs

abbrev is_other_sign : Punct → Bool
is_other_sign q = not (is_left q) && not (is_right q)

sign_other : (q : Punct) (at : Place) → is_other_sign q ≡ true → IsOther (sign q at)
sign_other q at e = let parts = and_parts (not (is_left q)) (not (is_right q)) e in (not-true (is_left q) parts.0, not-true (is_right q) parts.1)

prefix_other : (q : Punct) (op : Unary) (at : Place) → prefix_of q ≡ Some op → IsOther (sign q at)
prefix_other q op at e = sign_other q at (implied (is_some (prefix_of q)) _ (every (λ q. not (is_some (prefix_of q)) || is_other_sign q) refl q) (ap is_some e))

operator_other : (q : Punct) (op : Binary) (at : Place) → operator_of q ≡ Some op → IsOther (sign q at)
operator_other q op at e = sign_other q at (implied (is_some (operator_of q)) _ (every (λ q. not (is_some (operator_of q)) || is_other_sign q) refl q) (ap is_some e))

assignment_other : (q : Punct) (op : Option Binary) (at : Place) → assignment_of q ≡ Some op → IsOther (sign q at)
assignment_other q op at e = sign_other q at (implied (is_some (assignment_of q)) _ (every (λ q. not (is_some (assignment_of q)) || is_other_sign q) refl q) (ap is_some e))

bump_other : (q : Punct) (up : Bool) (at : Place) → bump_of q ≡ Some up → IsOther (sign q at)
bump_other q up at e = sign_other q at (implied (is_some (bump_of q)) _ (every (λ q. not (is_some (bump_of q)) || is_other_sign q) refl q) (ap is_some e))

bump_no_assignment : (q : Punct) (up : Bool) → bump_of q ≡ Some up → is_some (assignment_of q) ≡ false
bump_no_assignment q up e =
    not-true _ (implied (is_some (bump_of q)) _ (every (λ q. not (is_some (bump_of q)) || not (is_some (assignment_of q))) refl q) (ap is_some e))

prefix_no_bump : (q : Punct) (op : Unary) → prefix_of q ≡ Some op → is_some (bump_of q) ≡ false
prefix_no_bump q op e =
    not-true _ (implied (is_some (prefix_of q)) _ (every (λ q. not (is_some (prefix_of q)) || not (is_some (bump_of q))) refl q) (ap is_some e))

-- a sign that stands behind no target of a change
record Stops (q : Punct) : Type 0 where
  no_left : is_left q ≡ false
  no_assignment : is_some (assignment_of q) ≡ false
  no_bump : is_some (bump_of q) ≡ false

abbrev stops : Punct → Bool
stops q = not (is_left q) && (not (is_some (assignment_of q)) && not (is_some (bump_of q)))

stops_so : (q : Punct) → stops q ≡ true → Stops q
stops_so q e =
    let first = and_parts (not (is_left q)) _ e in
    let others = and_parts (not (is_some (assignment_of q))) _ first.1 in
    record { no_left = not-true _ first.0; no_assignment = not-true _ others.0; no_bump = not-true _ others.1 }

operator_stops : (q : Punct) (op : Binary) → operator_of q ≡ Some op → Stops q
operator_stops q op e = stops_so q (implied (is_some (operator_of q)) _ (every (λ q. not (is_some (operator_of q)) || stops q) refl q) (ap is_some e))

-- ---- what is balanced

words_balanced : {ts : List Terminal} {words : List Specifier} {constant : Bool} → DerivesWords ts words constant → Balanced ts
words_balanced kinds.no_word = nothing_balanced
words_balanced (kinds.a_const at ts words constant d) = other_balanced (word (codes "const") at) ts (refl, refl) (words_balanced d)
words_balanced (kinds.a_specifier text w at ts words constant e d) = other_balanced (word text at) ts (refl, refl) (words_balanced d)

kind_balanced : {ts : List Terminal} {kind : Option CType} {constant : Bool} → DerivesKind ts kind constant → Balanced ts
kind_balanced (kinds.of_words ts words kind constant d e) = words_balanced d
kind_balanced (kinds.of_name ls rs kind at before behind d e) = both_balanced ls (terminal (k.TypeWord kind) at ∷ rs) (words_balanced d) (other_balanced (terminal (k.TypeWord kind) at) rs (refl, refl) (words_balanced e))

mutual
  tree_balanced : {n : ℕ} {ts : List Terminal} {e : Tree} → Derives n ts e → Balanced ts
  tree_balanced (g.a_number value kind at) = other_balanced (terminal (k.Number value kind) at) [] (refl, refl) nothing_balanced
  tree_balanced (g.a_name text at plain) = other_balanced (word text at) [] (refl, refl) nothing_balanced
  tree_balanced (g.an_element text at ts first rest plain d) = other_balanced (word text at) ts (refl, refl) (subscripts_balanced d)
  tree_balanced (g.a_call callee at opens closes ts args plain d) =
      other_balanced (word callee at) (sign p.LeftParen opens ∷ (ts ++ sign p.RightParen closes ∷ [])) (refl, refl)
      (other_balanced (sign p.LeftParen opens) (ts ++ sign p.RightParen closes ∷ []) (refl, refl) (both_balanced ts (sign p.RightParen closes ∷ []) (arguments_balanced d) (other_balanced (sign p.RightParen closes) [] (refl, refl) nothing_balanced)))
  tree_balanced (g.a_group opens closes ts inner d) =
      other_balanced (sign p.LeftParen opens) (ts ++ sign p.RightParen closes ∷ []) (refl, refl) (both_balanced ts (sign p.RightParen closes ∷ []) (tree_balanced d) (other_balanced (sign p.RightParen closes) [] (refl, refl) nothing_balanced))
  tree_balanced (g.a_bump_behind punct up at ts changed is d) = both_balanced ts (sign punct at ∷ []) (target_balanced d) (other_balanced (sign punct at) [] (bump_other punct up at is) nothing_balanced)
  tree_balanced (g.a_prefix punct op at ts arg is d) = other_balanced (sign punct at) ts (prefix_other punct op at is) (tree_balanced d)
  tree_balanced (g.a_bump_before punct up at ts changed is d) = other_balanced (sign punct at) ts (bump_other punct up at is) (target_balanced d)
  tree_balanced (g.a_cast at closes ks ts kind constant arg dk d) =
      other_balanced (sign p.LeftParen at) (ks ++ sign p.RightParen closes ∷ ts) (refl, refl) (both_balanced ks (sign p.RightParen closes ∷ ts) (kind_balanced dk) (other_balanced (sign p.RightParen closes) ts (refl, refl) (tree_balanced d)))
  tree_balanced (g.an_operator punct op at n ls rs left right is level d e) =
      both_balanced ls (sign punct at ∷ rs) (tree_balanced d) (other_balanced (sign punct at) rs (operator_other punct op at is) (tree_balanced e))
  tree_balanced (g.a_choice at colon ts ys ns test left right d e h) =
      both_balanced ts (sign p.Question at ∷ (ys ++ sign p.Colon colon ∷ ns)) (tree_balanced d)
      (other_balanced (sign p.Question at) (ys ++ sign p.Colon colon ∷ ns) (refl, refl) (both_balanced ys (sign p.Colon colon ∷ ns) (tree_balanced e) (other_balanced (sign p.Colon colon) ns (refl, refl) (tree_balanced h))))
  tree_balanced (g.an_assignment punct op at ts vs changed value is d e) =
      both_balanced ts (sign punct at ∷ vs) (target_balanced d) (other_balanced (sign punct at) vs (assignment_other punct op at is) (tree_balanced e))
  tree_balanced (g.a_comma at ls rs left right d e) = both_balanced ls (sign p.Comma at ∷ rs) (tree_balanced d) (other_balanced (sign p.Comma at) rs (refl, refl) (tree_balanced e))
  tree_balanced (g.a_tighter n ts inner d) = tree_balanced d

  target_balanced : {ts : List Terminal} {changed : TargetTree} → DerivesTarget ts changed → Balanced ts
  target_balanced (g.a_target text at ts subscripts plain d) = other_balanced (word text at) ts (refl, refl) (subscripts_balanced d)

  subscripts_balanced : {ts : List Terminal} {es : Trees} → DerivesSubscripts ts es → Balanced ts
  subscripts_balanced g.no_subscript = nothing_balanced
  subscripts_balanced (g.a_subscript opens closes ts us first rest d ds) = λ n xs.
      ap (past (suc (suc n))) (append_assoc ts (sign p.RightBracket closes ∷ us) xs) ∙ tree_balanced d (suc n) (sign p.RightBracket closes ∷ (us ++ xs)) ∙ subscripts_balanced ds n xs

  arguments_balanced : {ts : List Terminal} {es : Trees} → DerivesArguments ts es → Balanced ts
  arguments_balanced g.no_argument = nothing_balanced
  arguments_balanced (g.arguments ts args d) = list_balanced d

  list_balanced : {ts : List Terminal} {es : Trees} → DerivesList ts es → Balanced ts
  list_balanced (g.last ts arg d) = tree_balanced d
  list_balanced (g.and_more at ts us arg args d e) = both_balanced ts (sign p.Comma at ∷ us) (tree_balanced d) (other_balanced (sign p.Comma at) us (refl, refl) (list_balanced e))

past_subscripts : {ts : List Terminal} {es : Trees} → DerivesSubscripts ts es → (rest : List Terminal) → past zero (ts ++ rest) ≡ past zero rest
past_subscripts g.no_subscript rest = refl
past_subscripts (g.a_subscript opens closes ts us first others d ds) rest =
    ap (past (suc zero)) (append_assoc ts (sign p.RightBracket closes ∷ us) rest) ∙ tree_balanced d zero (sign p.RightBracket closes ∷ (us ++ rest)) ∙ past_subscripts ds rest

past_all : {ts : List Terminal} {es : Trees} → DerivesSubscripts ts es → past zero ts ≡ []
past_all {ts} d = ap (past zero) (sym (append-nil ts)) ∙ past_subscripts d []

past_stop : (t : Terminal) (ts : List Terminal) → opens t.kind ≡ false → past zero (t ∷ ts) ≡ t ∷ ts
past_stop t ts e = ap (λ b. if b then past (suc zero) ts else (t ∷ ts)) e

-- ---- changes

abbrev is_empty : List Terminal → Bool
is_empty [] = true
is_empty (t ∷ ts) = false

-- a target with this behind it is a change
abbrev changes : TokenKind → List Terminal → Bool
changes (k.Punct q) ts = is_some (assignment_of q) || (is_some (bump_of q) && is_empty ts)
changes _ ts = false

abbrev behind_target : List Terminal → Bool
behind_target [] = false
behind_target (t ∷ ts) = changes t.kind ts

abbrev name_alone : TokenKind → List Terminal → Bool
name_alone (k.Word text) ts = is_empty (past zero ts)
name_alone _ ts = false

abbrev only_target : List Terminal → Bool
only_target [] = false
only_target (t ∷ ts) = name_alone t.kind ts

abbrev change_from : TokenKind → List Terminal → Bool
change_from (k.Word text) ts = behind_target (past zero ts)
change_from (k.Punct q) ts = is_some (bump_of q) && only_target ts
change_from _ ts = false

-- a target with what changes it
abbrev pub is_change : List Terminal → Bool
is_change [] = false
is_change (t ∷ ts) = change_from t.kind ts

target_change : {ts : List Terminal} {changed : TargetTree} → DerivesTarget ts changed → (t : Terminal) (rest : List Terminal) → opens t.kind ≡ false
    → is_change (ts ++ t ∷ rest) ≡ behind_target (t ∷ rest)
target_change (g.a_target text at ts subscripts plain d) t rest e = ap behind_target (past_subscripts d (t ∷ rest) ∙ past_stop t rest e)

target_alone : {ts : List Terminal} {changed : TargetTree} → DerivesTarget ts changed → only_target ts ≡ true
target_alone (g.a_target text at ts subscripts plain d) = ap is_empty (past_all d)

target_not_alone : {ts : List Terminal} {changed : TargetTree} → DerivesTarget ts changed → (t : Terminal) (rest : List Terminal) → opens t.kind ≡ false → only_target (ts ++ t ∷ rest) ≡ false
target_not_alone (g.a_target text at ts subscripts plain d) t rest e = ap is_empty (past_subscripts d (t ∷ rest) ∙ past_stop t rest e)

pub change_is : {ts : List Terminal} {action : ActionTree} → DerivesChange ts action → is_change ts ≡ true
change_is (g.assigned punct op at ts vs changed value is d e) =
    let other = assignment_other punct op at is in target_change d (sign punct at) vs other.0 ∙ or_left (is_some (assignment_of punct)) _ (ap is_some is)
change_is (g.bumped_behind punct up at ts changed is d) =
    let other = bump_other punct up at is in
    target_change d (sign punct at) [] other.0 ∙ or_right (is_some (assignment_of punct)) _ (ap (λ o. is_some o && true) is)
change_is (g.bumped_before punct up at ts changed is d) = ap (λ o. is_some o && only_target ts) is ∙ target_alone d

-- ---- what has a value

stop_is_no_change : (q : Punct) (at : Place) (xs : List Terminal) → Stops q → behind_target (sign q at ∷ xs) ≡ false
stop_is_no_change q at xs s =
    ap (λ b. b || (is_some (bump_of q) && is_empty xs)) s.no_assignment ∙ ap (λ b. b && is_empty xs) s.no_bump

and_false : (b : Bool) → (b && false) ≡ false
and_false true = refl
and_false false = refl

-- an operand with an operator behind it
stopped : {n : ℕ} {ts : List Terminal} {e : Tree} → Derives n ts e → n ≤ binary_level → (q : Punct) (at : Place) (xs : List Terminal) → Stops q → is_change (ts ++ sign q at ∷ xs) ≡ false
stopped (g.a_number value kind place) le q at xs s = refl
stopped (g.a_name text place plain) le q at xs s = ap behind_target (past_stop (sign q at) xs s.no_left) ∙ stop_is_no_change q at xs s
stopped (g.an_element text place ts first rest plain d) le q at xs s =
    ap behind_target (past_subscripts d (sign q at ∷ xs) ∙ past_stop (sign q at) xs s.no_left) ∙ stop_is_no_change q at xs s
stopped (g.a_call callee place opens closes ts args plain d) le q at xs s = refl
stopped (g.a_group opens closes ts inner d) le q at xs s = refl
stopped (g.a_bump_behind punct up place ts changed is d) le q at xs s =
    let other = bump_other punct up place is in
    ap is_change (append_assoc ts (sign punct place ∷ []) (sign q at ∷ xs))
    ∙ target_change d (sign punct place) (sign q at ∷ xs) other.0
    ∙ ap (λ b. b || (is_some (bump_of punct) && false)) (bump_no_assignment punct up is)
    ∙ and_false (is_some (bump_of punct))
stopped (g.a_prefix punct op place ts arg is d) le q at xs s = ap (λ b. b && only_target (ts ++ sign q at ∷ xs)) (prefix_no_bump punct op is)
stopped (g.a_bump_before punct up place ts changed is d) le q at xs s =
    ap (λ b. is_some (bump_of punct) && b) (target_not_alone d (sign q at) xs s.no_left) ∙ and_false (is_some (bump_of punct))
stopped (g.a_cast place closes ks ts kind constant arg dk d) le q at xs s = refl
stopped (g.an_operator punct op place n ls rs left right is level d e) le q at xs s =
    ap is_change (append_assoc ls (sign punct place ∷ rs) (sign q at ∷ xs)) ∙ stopped d le punct place (rs ++ sign q at ∷ xs) (operator_stops punct op is)
stopped (g.a_choice place colon ts ys ns test left right d e h) le q at xs s = absurd (omega (arith, le))
stopped (g.an_assignment punct op place ts vs changed value is d e) le q at xs s = absurd (omega (arith, le))
stopped (g.a_comma place ls rs left right d e) le q at xs s = absurd (omega (arith, le))
stopped (g.a_tighter n ts inner d) le q at xs s = stopped d (omega (arith, le)) q at xs s

pub plain_is_no_change : {n : ℕ} {ts : List Terminal} {e : Tree} → Derives n ts e → is_plain e ≡ true → is_change ts ≡ false
plain_is_no_change (g.a_number value kind at) plain = refl
plain_is_no_change (g.a_name text at word_plain) plain = refl
plain_is_no_change (g.an_element text at ts first rest word_plain d) plain = ap behind_target (past_all d)
plain_is_no_change (g.a_call callee at opens closes ts args word_plain d) plain = refl
plain_is_no_change (g.a_group opens closes ts inner d) plain = refl
plain_is_no_change (g.a_bump_behind punct up at ts changed is d) plain = absurd cc
plain_is_no_change (g.a_prefix punct op at ts arg is d) plain = ap (λ b. b && only_target ts) (prefix_no_bump punct op is)
plain_is_no_change (g.a_bump_before punct up at ts changed is d) plain = absurd cc
plain_is_no_change (g.a_cast at closes ks ts kind constant arg dk d) plain = refl
plain_is_no_change (g.an_operator punct op at n ls rs left right is level d e) plain =
    stopped d (let r = operator_level op in omega (arith, level, r.1)) punct at rs (operator_stops punct op is)
plain_is_no_change (g.a_choice at colon ts ys ns test left right d e h) plain =
    stopped d (omega arith) p.Question at (ys ++ sign p.Colon colon ∷ ns) (record { no_left = refl; no_assignment = refl; no_bump = refl })
plain_is_no_change (g.an_assignment punct op at ts vs changed value is d e) plain = absurd cc
plain_is_no_change (g.a_comma at ls rs left right d e) plain = absurd cc
plain_is_no_change (g.a_tighter n ts inner d) plain = plain_is_no_change d plain
