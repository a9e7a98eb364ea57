-- The goals take each token of an expression, by induction on its derivation.
use Rattle.std.proofs.Common.{◌≡◌, ℕ, suc, ◌≤◌, Bool, true, false, List, [], ◌∷◌, ◌++◌, length, Option, Some, None, inl, inr, refl, ap, sym, ◌∙◌, subst, arith, append_assoc}
use Rattle.std.specs.Prelude.{if◌then◌else◌, is_some}
use Rattle.hls_base.specs.declared.place.Place.{Place}
use Rattle.c_token.specs.declared.ctype.CType.{CType}
use Rattle.c_token.specs.declared.punct.Punct.{Punct}
use Rattle.c_token.specs.declared.punct.Punct.TheVariants as p
use Rattle.c_token.specs.declared.token.TokenKind.TheVariants as k
use Rattle.c_tree.specs.declared.operator.Unary.{Unary}
use Rattle.c_tree.specs.declared.operator.Binary.{Binary}
use Rattle.c_tree.specs.Terminals.{Terminal, terminal, sign, word, is_keyword, prefix_of, operator_of, assignment_of, bump_of}
use Rattle.c_tree.specs.Tree.{Tree, TargetTree, Trees, ActionTree}
use Rattle.c_tree.specs.Tree as tree
use Rattle.c_tree.specs.Kinds.{DerivesKind}
use Rattle.c_tree.specs.Grammar as g
use Rattle.c_tree.specs.Grammar.{Derives, DerivesTarget, DerivesSubscripts, DerivesArguments, DerivesList, DerivesChange}
use Rattle.c_tree.specs.Limits.{Mark, plain, operator, closing, inside, held, pair, whole, flat, marks, target_marks, subscript_marks, argument_marks, list_marks}
use Rattle.c_syntax.specs.declared.steps.goal.Goal.{Goal}
use Rattle.c_syntax.specs.declared.steps.goal.Goal.TheVariants as G
use Rattle.c_syntax.specs.declared.steps.goal.Spot.{Spot}
use Rattle.c_syntax.specs.declared.sorts.sort.Sort.{Sort}
use Rattle.c_syntax.specs.declared.sorts.sort.Sort.TheVariants as o
use Rattle.c_syntax.specs.Sorts.{sort_of, sort_of_sign, begins_operand, begins_kind}
use Rattle.c_syntax.specs.Steps.{Step, deeper, more, fresh, step_of, taken_or, next, behind, assign, expression, kind}
use Rattle.c_syntax.proofs.Seen.{name_sort}
use Rattle.c_syntax.proofs.Attach.{lowest, highest}
use Rattle.c_syntax.proofs.Noting.{Noted, hold_behind}
use Rattle.c_syntax.proofs.Marking.{run, going, place, count_after, noted_at, place-append, count-append, place-inside, count-inside, place-whole, count-whole, count-pair, count-flat, held_behind, count-held, opened_at, SomeMarks, marks_more, from_plain, held_some}
use Rattle.c_syntax.proofs.Completing.{operator_sort, prefix_sort, bump_sort, assignment_sort, at_first, ends_operand, no_bracket, goes, goes_on, spot_at, run_as, skip, choice_goal, bumped, bumping, Mode, bare, assigning, acting, start, finish, begin, first_of, Proper, ReadsOperand, ReadsBinary, ReadsChoice, ReadsAssign, ReadsComma, Claims, Whole, whole_expression, ReadsSubscripts, no_subscripts, more_subscripts, subscript_count, target_count, named_goals, name_start, name_subscripts, name_bumped, name_reads, ReadsArguments, call_reads, number_reads, group_start, prefix_reads, by_comma, by_assign, by_choice, by_binary, by_operand, tighter, operand_bracket, weaker, run_opened, run_opened_as, run_by, note_by, place_by, place_by-first, place_by-append, place_by-pair, held_by}
use Rattle.c_syntax.proofs.CompletingTypes.{kind_run, kind_starts, anywhere}

-- ---- what an expression begins with

pub record Starts (ts : List Terminal) : Type 0 where
  pub first : Terminal
  pub rest : List Terminal
  pub shape : ts ≡ first ∷ rest
  pub begins : begins_operand (sort_of first.kind) ≡ true

pub starts_more : (ts us : List Terminal) → Starts ts → Starts (ts ++ us)
starts_more ts us s = record { first = s.first; rest = s.rest ++ us; shape = ap (λ x. x ++ us) s.shape; begins = s.begins }

prefix_begins : (punct : Punct) (op : Unary) → prefix_of punct ≡ Some op → begins_operand (sort_of_sign punct) ≡ true
prefix_begins punct op e = elim (prefix_sort punct op e) [ inl f ↦ ap begins_operand f | inr f ↦ ap begins_operand f ]

pub starts : {n : ℕ} {ts : List Terminal} {e : Tree} → Derives n ts e → Starts ts
starts (g.a_number value kind at) = record { first = terminal (k.Number value kind) at; rest = []; shape = refl; begins = refl }
starts (g.a_name text at free) = record { first = word text at; rest = []; shape = refl; begins = ap begins_operand (name_sort text free) }
starts (g.an_element text at ts _ _ free _) = record { first = word text at; rest = ts; shape = refl; begins = ap begins_operand (name_sort text free) }
starts (g.a_call text at opens closes ts _ free _) = record { first = word text at; rest = sign p.LeftParen opens ∷ (ts ++ sign p.RightParen closes ∷ []); shape = refl; begins = ap begins_operand (name_sort text free) }
starts (g.a_group opens closes ts _ _) = record { first = sign p.LeftParen opens; rest = ts ++ sign p.RightParen closes ∷ []; shape = refl; begins = refl }
starts (g.a_bump_behind punct up at _ _ e (g.a_target text to ts _ free _)) = record { first = word text to; rest = ts ++ sign punct at ∷ []; shape = refl; begins = ap begins_operand (name_sort text free) }
starts (g.a_prefix punct op at ts _ e d) = record { first = sign punct at; rest = ts; shape = refl; begins = prefix_begins punct op e }
starts (g.a_bump_before punct up at ts _ e d) = record { first = sign punct at; rest = ts; shape = refl; begins = ap begins_operand (bump_sort punct up e) }
starts (g.a_cast at closes ks ts _ _ _ _ _) = record { first = sign p.LeftParen at; rest = ks ++ sign p.RightParen closes ∷ ts; shape = refl; begins = refl }
starts (g.an_operator punct op at _ ls rs _ _ _ _ d _) = starts_more ls (sign punct at ∷ rs) (starts d)
starts (g.a_choice at colon ts ys ns _ _ _ d _ _) = starts_more ts (sign p.Question at ∷ (ys ++ sign p.Colon colon ∷ ns)) (starts d)
starts (g.an_assignment punct op at _ vs _ _ e (g.a_target text to ts _ free _) _) = record { first = word text to; rest = ts ++ sign punct at ∷ vs; shape = refl; begins = ap begins_operand (name_sort text free) }
starts (g.a_comma at ls rs _ _ d _) = starts_more ls (sign p.Comma at ∷ rs) (starts d)
starts (g.a_tighter _ _ _ d) = starts d

operand_no_kind : (sort : Sort) → begins_operand sort ≡ true → begins_kind sort ≡ false
operand_no_kind o.Name e = refl
operand_no_kind o.Number e = refl
operand_no_kind o.LeftParen e = refl
operand_no_kind o.Prefix e = refl
operand_no_kind o.Sign e = refl
operand_no_kind o.Bump e = refl
operand_no_kind _ e = absurd cc

-- ---- a goal that is another with goals behind it

pub taken_behind : (found : Option Step) (left goals : List Goal) (first second : Option Step) → taken_or (behind left found) false goals first ≡ taken_or found false (left ++ goals) second
taken_behind None left goals first second = refl
taken_behind (Some step) left goals first second = ap (λ x. Some (record step { goals = x })) (append_assoc step.goals left goals)

pub taken_optional : (found : Option Step) → is_some found ≡ true → (left goals : List Goal) (first second : Option Step) → taken_or (behind left found) true goals first ≡ taken_or found false (left ++ goals) second
taken_optional None e left goals first second = absurd cc
taken_optional (Some step) e left goals first second = ap (λ x. Some (record step { goals = x })) (append_assoc step.goals left goals)

pub assign_some : (spot : Spot) (depth : ℕ) (sort : Sort) → begins_operand sort ≡ true → is_some (assign spot depth sort) ≡ true
assign_some spot depth o.Name e = refl
assign_some spot depth o.Number e = refl
assign_some spot depth o.LeftParen e = refl
assign_some spot depth o.Prefix e = refl
assign_some spot depth o.Sign e = refl
assign_some spot depth o.Bump e = refl
assign_some spot depth _ e = absurd cc

-- an expression in parentheses
group_expression : (us : List Terminal) → Starts us → (depth : ℕ) (goals : List Goal) (count : ℕ) (noted : List Noted)
    → run us (G.Group depth ∷ goals) count noted ≡ run us (G.Expression (deeper depth) ∷ G.CloseParen depth count ∷ goals) 0 noted
group_expression us s depth goals count noted =
    let spot = spot_at noted count in let sort = sort_of s.first.kind in
    ap (λ x. run x (G.Group depth ∷ goals) count noted) s.shape
    ∙ ap (λ b. going (taken_or (if b then behind (G.CloseParen depth count ∷ G.Operand (deeper depth) ∷ []) (kind spot (deeper depth) sort)
    else behind (G.CloseParen depth count ∷ []) (expression (fresh spot) (deeper depth) sort)) false goals (next goals spot sort)) noted (run s.rest)) (operand_no_kind sort s.begins)
    ∙ ap (λ x. going x noted (run s.rest))
    (taken_behind (expression (fresh spot) (deeper depth) sort) (G.CloseParen depth count ∷ []) goals (next goals spot sort) (next (G.CloseParen depth count ∷ goals) (fresh spot) sort))
    ∙ ap (λ x. run x (G.Expression (deeper depth) ∷ G.CloseParen depth count ∷ goals) 0 noted) (sym s.shape)

-- a type in parentheses
group_kind : (t : Terminal) (us : List Terminal) → begins_kind (sort_of t.kind) ≡ true → (depth : ℕ) (goals : List Goal) (count : ℕ) (noted : List Noted)
    → run (t ∷ us) (G.Group depth ∷ goals) count noted ≡ run (t ∷ us) (G.Kind (deeper depth) ∷ G.CloseParen depth count ∷ G.Operand (deeper depth) ∷ goals) count noted
group_kind t us e depth goals count noted =
    let spot = spot_at noted count in let sort = sort_of t.kind in
    ap (λ b. going (taken_or (if b then behind (G.CloseParen depth count ∷ G.Operand (deeper depth) ∷ []) (kind spot (deeper depth) sort)
    else behind (G.CloseParen depth count ∷ []) (expression (fresh spot) (deeper depth) sort)) false goals (next goals spot sort)) noted (run us)) e
    ∙ ap (λ x. going x noted (run us))
    (taken_behind (kind spot (deeper depth) sort) (G.CloseParen depth count ∷ G.Operand (deeper depth) ∷ []) goals (next goals spot sort)
    (next (G.CloseParen depth count ∷ G.Operand (deeper depth) ∷ goals) spot sort))

-- arguments, of which there are some
arguments_goal : (us : List Terminal) → Starts us → (depth : ℕ) (goals : List Goal) (count : ℕ) (noted : List Noted)
    → run us (G.Arguments depth ∷ goals) count noted ≡ run us (G.Assign depth ∷ G.MoreArguments depth ∷ goals) count noted
arguments_goal us s depth goals count noted =
    let spot = spot_at noted count in let sort = sort_of s.first.kind in
    ap (λ x. run x (G.Arguments depth ∷ goals) count noted) s.shape
    ∙ ap (λ x. going x noted (run s.rest))
    (taken_optional (assign spot depth sort) (assign_some spot depth sort s.begins) (G.MoreArguments depth ∷ []) goals (next goals spot sort) (next (G.MoreArguments depth ∷ goals) spot sort))
    ∙ ap (λ x. run x (G.Assign depth ∷ G.MoreArguments depth ∷ goals) count noted) (sym s.shape)

-- ---- targets

abbrev pub ReadsTarget : List Terminal → List Mark → Type 0
ReadsTarget ts ms = (m : Mode) (depth count : ℕ) (goals : List Goal) (noted : List Noted) (us : List Terminal) → at_first no_bracket us ≡ true
    → run_by m (ts ++ us) (start m depth goals) count noted ≡ run us (named_goals m false depth (length noted) goals) count (place_by m depth count ms noted)

target_reads : (text : List ℕ) (at : Place) (ts : List Terminal) (ms : List Mark) → is_keyword text ≡ false → ReadsSubscripts ts ms → ReadsTarget (word text at ∷ ts) (plain ∷ ms)
target_reads text at ts ms free f m depth count goals noted us e =
    name_start m text at free depth count goals noted (ts ++ us)
    ∙ name_subscripts m ts ms f true depth count (length noted) goals (note_by m depth count plain ∷ noted) us e
    ∙ ap (λ x. run us (named_goals m false depth (length noted) goals) count x) (sym (place_by-first m depth count plain ms noted))

pub bump_no_bracket : (punct : Punct) (up : Bool) → bump_of punct ≡ Some up → no_bracket (sort_of_sign punct) ≡ true
bump_no_bracket punct up e = ap no_bracket (bump_sort punct up e)

bump_behind_reads : (punct : Punct) (up : Bool) (at : Place) (ts : List Terminal) (ms : List Mark) → bump_of punct ≡ Some up → SomeMarks ms → ReadsTarget ts ms → ((count : ℕ) → count_after count ms ≡ count)
    → ReadsOperand (ts ++ sign punct at ∷ []) (ms ++ plain ∷ [])
bump_behind_reads punct up at ts ms b s f same m depth count goals noted us e pr =
    ap (λ x. run_by m x (start m depth goals) count noted) (append_assoc ts (sign punct at ∷ []) us)
    ∙ f m depth count goals noted (sign punct at ∷ us) (bump_no_bracket punct up b)
    ∙ name_bumped m punct up at b false depth count (length noted) goals (place_by m depth count ms noted) us
    ∙ ap (λ c. run us (finish m depth (length noted) goals) count (noted_at depth c plain ∷ place_by m depth count ms noted)) (sym (same count))
    ∙ ap (λ x. run us (finish m depth (length noted) goals) count x) (sym (place_by-append m depth count ms (plain ∷ []) noted s))
    ∙ ap (λ c. run us (finish m depth (length noted) goals) c (place_by m depth count (ms ++ plain ∷ []) noted)) (sym (count-append count ms (plain ∷ []) ∙ same count))

-- ---- `++` and `--` before a target

pub bump_start : (punct : Punct) (up : Bool) (at : Place) → bump_of punct ≡ Some up → (depth count : ℕ) (goals : List Goal) (noted : List Noted) (us : List Terminal)
    → (run (sign punct at ∷ us) (G.Operand depth ∷ goals) count noted ≡ run us (G.Target (deeper depth) ∷ goals) count (noted_at depth count plain ∷ noted))
    × (run (sign punct at ∷ us) (G.Assign depth ∷ goals) count noted ≡ run us (G.Target (deeper depth) ∷ G.Operators depth (length noted) ∷ goals) count (noted_at depth count plain ∷ noted))
bump_start punct up at b depth count goals noted us = (
  run_as (sign punct at) o.Bump us (G.Operand depth ∷ goals) count noted (bump_sort punct up b),
  run_as (sign punct at) o.Bump us (G.Assign depth ∷ goals) count noted (bump_sort punct up b),
)

pub bump_action : (punct : Punct) (up : Bool) (at : Place) → bump_of punct ≡ Some up → (before depth count : ℕ) (goals : List Goal) (noted : List Noted) (us : List Terminal)
    → run_opened before (sign punct at ∷ us) (G.Action depth ∷ goals) count noted ≡ run us (G.ActionTarget depth (length noted) ∷ goals) count (opened_at before depth count plain ∷ noted)
bump_action punct up at b before depth count goals noted us = run_opened_as before (sign punct at) o.Bump us (G.Action depth ∷ goals) count noted (bump_sort punct up b)

subscripts_end : (depth : ℕ) (spot : Spot) (sort : Sort) → ends_operand sort ≡ true → step_of (G.Subscripts depth) spot sort ≡ None
subscripts_end depth spot o.LeftBracket e = absurd cc
subscripts_end depth spot _ e = refl

-- what follows shows that the action is an expression
goes_step : (depth first : ℕ) (goals : List Goal) (spot other : Spot) (sort : Sort) (noted : List Noted) (us : List Terminal) → spot.count ≡ other.count → goes sort ≡ true
    → going (next (G.ActionSubscripts depth first ∷ goals) spot sort) noted (run us) ≡ going (next (G.Operators depth first ∷ goals) other sort) (hold_behind first noted) (run us)
goes_step depth first goals spot other o.Sign noted us c e = ap (λ x. going (next (G.Operators depth first ∷ goals) (record spot { count = x }) o.Sign) (hold_behind first noted) (run us)) c
goes_step depth first goals spot other o.Operator noted us c e = ap (λ x. going (next (G.Operators depth first ∷ goals) (record spot { count = x }) o.Operator) (hold_behind first noted) (run us)) c
goes_step depth first goals spot other o.Question noted us c e = ap (λ x. going (next (G.Operators depth first ∷ goals) (record spot { count = x }) o.Question) (hold_behind first noted) (run us)) c
goes_step depth first goals spot other _ noted us c e = absurd cc

goes_run : (us : List Terminal) → goes_on us ≡ true → (depth first count : ℕ) (goals : List Goal) (noted : List Noted)
    → run us (G.ActionSubscripts depth first ∷ goals) count noted ≡ run us (G.Operators depth first ∷ goals) count (hold_behind first noted)
goes_run [] e depth first count goals noted = absurd cc
goes_run (t ∷ us) e depth first count goals noted = goes_step depth first goals (spot_at noted count) (spot_at (hold_behind first noted) count) (sort_of t.kind) noted us refl e

bump_before_reads : (punct : Punct) (up : Bool) (at : Place) (text : List ℕ) (to : Place) (ts : List Terminal) (es : Trees) → bump_of punct ≡ Some up → is_keyword text ≡ false → (d : DerivesSubscripts ts es)
    → ReadsSubscripts ts (subscript_marks d) → ReadsOperand (sign punct at ∷ word text to ∷ ts) (plain ∷ inside (plain ∷ subscript_marks d))
bump_before_reads punct up at text to ts es b free d f bare depth count goals noted us e pr =
    let ms = subscript_marks d in let front = noted_at depth count plain ∷ noted in
    (bump_start punct up at b depth count goals noted (word text to ∷ (ts ++ us))).0
    ∙ run_as (word text to) o.Name (ts ++ us) (G.Target (deeper depth) ∷ goals) count front (name_sort text free)
    ∙ f bumped true (deeper depth) count goals (noted_at (deeper depth) count plain ∷ front) us (weaker ends_operand no_bracket operand_bracket us e)
    ∙ skip ends_operand (G.Subscripts (deeper depth)) refl (subscripts_end (deeper depth)) us e goals count (place (deeper depth) count ms (noted_at (deeper depth) count plain ∷ front))
    ∙ ap (λ x. run us goals count x) (sym (place-inside depth count (plain ∷ ms) front))
    ∙ ap (λ c. run us goals c (place depth count (inside (plain ∷ ms)) front)) (sym (count-inside count (plain ∷ ms) ∙ subscript_count d count))
bump_before_reads punct up at text to ts es b free d f assigning depth count goals noted us e pr =
    let ms = subscript_marks d in let front = noted_at depth count plain ∷ noted in let left = G.Operators depth (length noted) ∷ goals in
    (bump_start punct up at b depth count goals noted (word text to ∷ (ts ++ us))).1
    ∙ run_as (word text to) o.Name (ts ++ us) (G.Target (deeper depth) ∷ left) count front (name_sort text free)
    ∙ f bumped true (deeper depth) count left (noted_at (deeper depth) count plain ∷ front) us (weaker ends_operand no_bracket operand_bracket us e)
    ∙ skip ends_operand (G.Subscripts (deeper depth)) refl (subscripts_end (deeper depth)) us e left count (place (deeper depth) count ms (noted_at (deeper depth) count plain ∷ front))
    ∙ ap (λ x. run us left count x) (sym (place-inside depth count (plain ∷ ms) front))
    ∙ ap (λ c. run us left c (place depth count (inside (plain ∷ ms)) front)) (sym (count-inside count (plain ∷ ms) ∙ subscript_count d count))
bump_before_reads punct up at text to ts es b free d f (acting before) depth count goals noted us e pr =
    let ms = subscript_marks d in let front = opened_at before depth count plain ∷ noted in let left = G.Operators depth (length noted) ∷ goals in
    bump_action punct up at b before depth count goals noted (word text to ∷ (ts ++ us))
    ∙ run_as (word text to) o.Name (ts ++ us) (G.ActionTarget depth (length noted) ∷ goals) count front (name_sort text free)
    ∙ f (bumping (length noted)) true depth count goals (noted_at depth count plain ∷ front) us (weaker ends_operand no_bracket operand_bracket us e)
    ∙ goes_run us (elim pr [ inl h ↦ h | inr none ↦ absurd (none (tree.bumping (tree.target text es to) up at) (g.bumped_before punct up at (word text to ∷ ts) (tree.target text es to) b (g.a_target text to ts es free d))) ])
    depth (length noted) count goals (place depth count (plain ∷ ms) front)
    ∙ ap (λ x. run us left count x) (held_behind depth count (plain ∷ ms) (opened_at before depth count plain) noted)
    ∙ ap (λ c. run us left c (place depth count (inside (plain ∷ ms)) front)) (sym (count-inside count (plain ∷ ms) ∙ subscript_count d count))

-- ---- parentheses and casts

group_reads : (opens closes : Place) (ts : List Terminal) (ms : List Mark) → Starts ts → Whole ts ms → ReadsOperand (sign p.LeftParen opens ∷ (ts ++ sign p.RightParen closes ∷ [])) (pair (whole ms) [])
group_reads opens closes ts ms s f m depth count goals noted us e pr =
    let front = note_by m depth count plain ∷ noted in let left = finish m depth (length noted) goals in
    group_start m opens depth count goals noted ((ts ++ sign p.RightParen closes ∷ []) ++ us)
    ∙ ap (λ x. run x (G.Group depth ∷ left) count front) (append_assoc ts (sign p.RightParen closes ∷ []) us)
    ∙ group_expression (ts ++ sign p.RightParen closes ∷ us) (starts_more ts (sign p.RightParen closes ∷ us) s) depth left count front
    ∙ f (deeper depth) 0 (G.CloseParen depth count ∷ left) front (sign p.RightParen closes ∷ us) refl
    ∙ ap (λ x. run us left count (noted_at depth count closing ∷ x)) (sym (place-whole (deeper depth) count ms front))
    ∙ ap (λ x. run us left count x) (sym (place_by-pair m depth count (whole ms) [] noted (count-whole count ms)))
    ∙ ap (λ c. run us left c (place_by m depth count (pair (whole ms) []) noted)) (sym (count-pair count (whole ms) [] (count-whole count ms)))

cast_reads : (at closes : Place) (ks ts : List Terminal) (type : CType) (constant : Bool) (ms : List Mark) → DerivesKind ks (Some type) constant → ReadsOperand ts ms
    → ReadsOperand (sign p.LeftParen at ∷ (ks ++ sign p.RightParen closes ∷ ts)) (pair (flat ks) (inside ms))
cast_reads at closes ks ts type constant ms d f m depth count goals noted us e pr =
    let front = note_by m depth count plain ∷ noted in let left = finish m depth (length noted) goals in let first = kind_starts d in
    let placed = noted_at depth count closing ∷ place (deeper depth) count (flat ks) front in
    group_start m at depth count goals noted ((ks ++ sign p.RightParen closes ∷ ts) ++ us)
    ∙ ap (λ x. run x (G.Group depth ∷ left) count front) (append_assoc ks (sign p.RightParen closes ∷ ts) us)
    ∙ ap (λ x. run (x ++ sign p.RightParen closes ∷ (ts ++ us)) (G.Group depth ∷ left) count front) first.shape
    ∙ group_kind first.first (first.rest ++ sign p.RightParen closes ∷ (ts ++ us)) first.begins depth left count front
    ∙ ap (λ x. run (x ++ sign p.RightParen closes ∷ (ts ++ us)) (G.Kind (deeper depth) ∷ G.CloseParen depth count ∷ G.Operand (deeper depth) ∷ left) count front) (sym first.shape)
    ∙ kind_run d (anywhere (deeper depth)) tt (G.CloseParen depth count ∷ G.Operand (deeper depth) ∷ left) count front (sign p.RightParen closes ∷ (ts ++ us)) refl
    ∙ f bare (deeper depth) count left placed us e tt
    ∙ ap (λ x. run us left (count_after count ms) x) (sym (place-inside depth count ms placed))
    ∙ ap (λ x. run us left (count_after count ms) x) (sym (place_by-pair m depth count (flat ks) (inside ms) noted (count-flat count ks)))
    ∙ ap (λ c. run us left c (place_by m depth count (pair (flat ks) (inside ms)) noted)) (sym (count-pair count (flat ks) (inside ms) (count-flat count ks) ∙ count-inside count ms))

-- ---- operators

proper_on : (m : Mode) (ts us : List Terminal) → goes_on us ≡ true → Proper m ts us
proper_on bare ts us e = tt
proper_on assigning ts us e = tt
proper_on (acting before) ts us e = inl e

operator_goes : (punct : Punct) (op : Binary) → operator_of punct ≡ Some op → (goes (sort_of_sign punct) ≡ true) × (ends_operand (sort_of_sign punct) ≡ true)
operator_goes punct op e = elim (operator_sort punct op e) [ inl f ↦ (ap goes f, ap ends_operand f) | inr f ↦ (ap goes f, ap ends_operand f) ]

operator_step : (punct : Punct) (op : Binary) (at : Place) → operator_of punct ≡ Some op → (us : List Terminal) (depth first count : ℕ) (goals : List Goal) (noted : List Noted)
    → run (sign punct at ∷ us) (G.Operators depth first ∷ goals) count noted ≡ run us (G.Operand depth ∷ G.Operators depth first ∷ goals) (more count) (noted_at depth count operator ∷ noted)
operator_step punct op at e us depth first count goals noted = elim (operator_sort punct op e) [
  | inl f ↦ run_as (sign punct at) o.Sign us (G.Operators depth first ∷ goals) count noted f
  | inr f ↦ run_as (sign punct at) o.Operator us (G.Operators depth first ∷ goals) count noted f
]

operator_reads : (punct : Punct) (op : Binary) (at : Place) (ls rs : List Terminal) (ml mr : List Mark) → operator_of punct ≡ Some op → SomeMarks ml → ReadsBinary ls ml → ReadsBinary rs mr
    → ReadsBinary (ls ++ sign punct at ∷ rs) (ml ++ operator ∷ mr)
operator_reads punct op at ls rs ml mr o s f h m first depth count goals noted us e pr =
    let c = count_after count ml in let front = noted_at depth c operator ∷ place_by m depth count ml noted in let at_end = first_of m first (length noted) in
    ap (λ x. run_by m x (begin m first depth goals) count noted) (append_assoc ls (sign punct at ∷ rs) us)
    ∙ f m first depth count goals noted (sign punct at ∷ (rs ++ us)) (operator_goes punct op o).1 (proper_on m ls (sign punct at ∷ (rs ++ us)) (operator_goes punct op o).0)
    ∙ operator_step punct op at o (rs ++ us) depth at_end c goals (place_by m depth count ml noted)
    ∙ h bare at_end depth (more c) goals front us e tt
    ∙ ap (λ x. run us (G.Operators depth at_end ∷ goals) (count_after (more c) mr) x) (sym (place_by-append m depth count ml (operator ∷ mr) noted s))
    ∙ ap (λ x. run us (G.Operators depth at_end ∷ goals) x (place_by m depth count (ml ++ operator ∷ mr) noted)) (sym (count-append count ml (operator ∷ mr)))

-- ---- `?:`

first_same : (m : Mode) (n : ℕ) → first_of m n n ≡ n
first_same bare n = refl
first_same assigning n = refl
first_same (acting before) n = refl

choice_place : (mode : Mode) (depth count : ℕ) (m : Mark) (ms me mf : List Mark) (noted : List Noted) → SomeMarks (held (m ∷ ms))
    → place_by mode depth count (held (m ∷ ms) ++ plain ∷ (inside me ++ plain ∷ inside mf)) noted
    ≡ place (deeper depth) (count_after (count_after count (m ∷ ms)) me) mf (noted_at depth (count_after (count_after count (m ∷ ms)) me) plain
    ∷ place (deeper depth) (count_after count (m ∷ ms)) me (noted_at depth (count_after count (m ∷ ms)) plain ∷ place_by mode depth count (held (m ∷ ms)) noted))
choice_place mode depth count m ms me mf noted s =
    let c = count_after count (m ∷ ms) in let d = count_after c me in let front = place_by mode depth count (held (m ∷ ms)) noted in
    place_by-append mode depth count (held (m ∷ ms)) (plain ∷ (inside me ++ plain ∷ inside mf)) noted s
    ∙ ap (λ x. place depth x (plain ∷ (inside me ++ plain ∷ inside mf)) front) (count-held count m ms)
    ∙ place-append depth c (inside me) (plain ∷ inside mf) (noted_at depth c plain ∷ front)
    ∙ ap (λ x. place depth x (plain ∷ inside mf) (place depth c (inside me) (noted_at depth c plain ∷ front))) (count-inside c me)
    ∙ place-inside depth d mf (noted_at depth d plain ∷ place depth c (inside me) (noted_at depth c plain ∷ front))
    ∙ ap (λ x. place (deeper depth) d mf (noted_at depth d plain ∷ x)) (place-inside depth c me (noted_at depth c plain ∷ front))

choice_count : (count : ℕ) (m : Mark) (ms me mf : List Mark)
    → count_after count (held (m ∷ ms) ++ plain ∷ (inside me ++ plain ∷ inside mf)) ≡ count_after (count_after (count_after count (m ∷ ms)) me) mf
choice_count count m ms me mf =
    let c = count_after count (m ∷ ms) in
    count-append count (held (m ∷ ms)) (plain ∷ (inside me ++ plain ∷ inside mf))
    ∙ ap (λ x. count_after x (plain ∷ (inside me ++ plain ∷ inside mf))) (count-held count m ms)
    ∙ count-append c (inside me) (plain ∷ inside mf)
    ∙ ap (λ x. count_after x (inside mf)) (count-inside c me)
    ∙ count-inside (count_after c me) mf

choice_reads : (at colon : Place) (ts ys ns : List Terminal) (m : Mark) (ms me mf : List Mark) → SomeMarks (held (m ∷ ms)) → ReadsBinary ts (m ∷ ms) → Whole ys me → ReadsChoice ns mf
    → ReadsChoice (ts ++ sign p.Question at ∷ (ys ++ sign p.Colon colon ∷ ns)) (held (m ∷ ms) ++ plain ∷ (inside me ++ plain ∷ inside mf))
choice_reads at colon ts ys ns m ms me mf s f h q mode depth count goals noted us e pr =
    let c = count_after count (m ∷ ms) in let d = count_after c me in
    let tail = ys ++ sign p.Colon colon ∷ ns in
    let front = noted_at depth c plain ∷ place_by mode depth count (held (m ∷ ms)) noted in
    let middle = noted_at depth d plain ∷ place (deeper depth) c me front in
    ap (λ x. run_by mode x (begin mode (length noted) depth goals) count noted) (append_assoc ts (sign p.Question at ∷ tail) us)
    ∙ f mode (length noted) depth count goals noted (sign p.Question at ∷ (tail ++ us)) refl (proper_on mode ts (sign p.Question at ∷ (tail ++ us)) refl)
    ∙ ap (λ x. run (sign p.Question at ∷ (tail ++ us)) (G.Operators depth x ∷ goals) c (place_by mode depth count (m ∷ ms) noted)) (first_same mode (length noted))
    ∙ ap (λ x. run (tail ++ us) (G.Expression (deeper depth) ∷ G.ChoiceColon depth ∷ goals) c (noted_at depth c plain ∷ x)) (held_by mode depth count m ms noted)
    ∙ ap (λ x. run x (G.Expression (deeper depth) ∷ G.ChoiceColon depth ∷ goals) c front) (append_assoc ys (sign p.Colon colon ∷ ns) us)
    ∙ h (deeper depth) c (G.ChoiceColon depth ∷ goals) front (sign p.Colon colon ∷ (ns ++ us)) refl
    ∙ choice_goal (ns ++ us) (deeper depth) goals d middle
    ∙ q bare (deeper depth) d goals middle us e tt
    ∙ ap (λ x. run us goals (count_after d mf) x) (sym (choice_place mode depth count m ms me mf noted s))
    ∙ ap (λ x. run us goals x (place_by mode depth count (held (m ∷ ms) ++ plain ∷ (inside me ++ plain ∷ inside mf)) noted)) (sym (choice_count count m ms me mf))

-- an expression has tokens and marks
pub target_some : {ts : List Terminal} {t : TargetTree} (d : DerivesTarget ts t) → SomeMarks (target_marks d)
target_some (g.a_target _ _ _ _ _ d) = from_plain (subscript_marks d)

pub some_marks : {n : ℕ} {ts : List Terminal} {e : Tree} (d : Derives n ts e) → SomeMarks (marks d)
some_marks (g.a_number _ _ _) = from_plain []
some_marks (g.a_name _ _ _) = from_plain []
some_marks (g.an_element _ _ _ _ _ _ d) = from_plain (subscript_marks d)
some_marks (g.a_call _ _ _ _ _ _ _ d) = from_plain (pair (argument_marks d) [])
some_marks (g.a_group _ _ _ _ d) = from_plain (inside (whole (marks d)) ++ closing ∷ [])
some_marks (g.a_bump_behind _ _ _ _ _ _ d) = marks_more (target_marks d) (plain ∷ []) (target_some d)
some_marks (g.a_prefix _ _ _ _ _ _ d) = from_plain (inside (marks d))
some_marks (g.a_bump_before _ _ _ _ _ _ d) = from_plain (inside (target_marks d))
some_marks (g.a_cast _ _ ks _ _ _ _ _ d) = from_plain (inside (flat ks) ++ closing ∷ inside (marks d))
some_marks (g.an_operator _ _ _ _ _ _ _ _ _ _ d e) = marks_more (marks d) (operator ∷ marks e) (some_marks d)
some_marks (g.a_choice _ _ _ _ _ _ _ _ d e f) = marks_more (held (marks d)) (plain ∷ (inside (marks e) ++ plain ∷ inside (marks f))) (held_some (marks d) (some_marks d))
some_marks (g.an_assignment _ _ _ _ _ _ _ _ d e) = marks_more (target_marks d) (operator ∷ marks e) (target_some d)
some_marks (g.a_comma _ _ _ _ _ d e) = marks_more (marks d) (operator ∷ marks e) (some_marks d)
some_marks (g.a_tighter _ _ _ d) = some_marks d

any_choice : (at colon : Place) (ts ys ns : List Terminal) (md me mf : List Mark) → SomeMarks md → ReadsBinary ts md → Whole ys me → ReadsChoice ns mf
    → ReadsChoice (ts ++ sign p.Question at ∷ (ys ++ sign p.Colon colon ∷ ns)) (held md ++ plain ∷ (inside me ++ plain ∷ inside mf))
any_choice at colon ts ys ns md me mf s f h q =
    subst (λ x. ReadsChoice (ts ++ sign p.Question at ∷ (ys ++ sign p.Colon colon ∷ ns)) (held x ++ plain ∷ (inside me ++ plain ∷ inside mf))) (sym s.shape)
    (choice_reads at colon ts ys ns s.first s.rest me mf (subst (λ x. SomeMarks (held x)) s.shape (held_some md s)) (subst (ReadsBinary ts) s.shape f) h q)

-- ---- assignment and comma

pub assignment_no_bracket : (punct : Punct) (op : Option Binary) → assignment_of punct ≡ Some op → no_bracket (sort_of_sign punct) ≡ true
assignment_no_bracket punct op e = elim (assignment_sort punct op e) [ inl f ↦ ap no_bracket f | inr f ↦ ap no_bracket f ]

assignment_step : (punct : Punct) (op : Option Binary) (at : Place) → assignment_of punct ≡ Some op → (us : List Terminal) (depth first count : ℕ) (goals : List Goal) (noted : List Noted)
    → run (sign punct at ∷ us) (G.AfterTarget false false depth first ∷ goals) count noted ≡ run us (G.Assign depth ∷ goals) (more count) (noted_at depth count operator ∷ noted)
assignment_step punct op at e us depth first count goals noted = elim (assignment_sort punct op e) [
  | inl f ↦ run_as (sign punct at) o.Equal us (G.AfterTarget false false depth first ∷ goals) count noted f
  | inr f ↦ run_as (sign punct at) o.Assignment us (G.AfterTarget false false depth first ∷ goals) count noted f
]

assignment_reads : (punct : Punct) (op : Option Binary) (at : Place) (ts vs : List Terminal) (ms mv : List Mark) → assignment_of punct ≡ Some op → ReadsTarget ts ms → ((count : ℕ) → count_after count ms ≡ count)
    → ReadsAssign vs mv → ReadsAssign (ts ++ sign punct at ∷ vs) (ms ++ operator ∷ mv)
assignment_reads punct op at ts vs ms mv o f same h depth count goals noted us e =
    ap (λ x. run x (G.Assign depth ∷ goals) count noted) (append_assoc ts (sign punct at ∷ vs) us)
    ∙ f assigning depth count goals noted (sign punct at ∷ (vs ++ us)) (assignment_no_bracket punct op o)
    ∙ assignment_step punct op at o (vs ++ us) depth (length noted) count goals (place depth count ms noted)
    ∙ h depth (more count) goals (noted_at depth count operator ∷ place depth count ms noted) us e
    ∙ ap (λ c. run us goals (count_after (more c) mv) (place depth (more c) mv (noted_at depth c operator ∷ place depth count ms noted))) (sym (same count))
    ∙ ap (λ x. run us goals (count_after (more (count_after count ms)) mv) x) (sym (place-append depth count ms (operator ∷ mv) noted))
    ∙ ap (λ x. run us goals x (place depth count (ms ++ operator ∷ mv) noted)) (sym (count-append count ms (operator ∷ mv)))

comma_reads : (at : Place) (ls rs : List Terminal) (ml mr : List Mark) → ReadsComma ls ml → ReadsAssign rs mr → ReadsComma (ls ++ sign p.Comma at ∷ rs) (ml ++ operator ∷ mr)
comma_reads at ls rs ml mr f h depth count goals noted us e =
    let c = count_after count ml in
    ap (λ x. run x (G.Assign depth ∷ G.Commas depth ∷ goals) count noted) (append_assoc ls (sign p.Comma at ∷ rs) us)
    ∙ f depth count goals noted (sign p.Comma at ∷ (rs ++ us)) refl
    ∙ h depth (more c) (G.Commas depth ∷ goals) (noted_at depth c operator ∷ place depth count ml noted) us e
    ∙ ap (λ x. run us (G.Commas depth ∷ goals) (count_after (more c) mr) x) (sym (place-append depth count ml (operator ∷ mr) noted))
    ∙ ap (λ x. run us (G.Commas depth ∷ goals) x (place depth count (ml ++ operator ∷ mr) noted)) (sym (count-append count ml (operator ∷ mr)))

-- ---- arguments

abbrev ReadsList : List Terminal → List Mark → Type 0
ReadsList ts ms = (depth count : ℕ) (goals : List Goal) (noted : List Noted) (at : Place) (us : List Terminal)
    → run (ts ++ sign p.RightParen at ∷ us) (G.Assign (deeper depth) ∷ G.MoreArguments (deeper depth) ∷ G.CloseParen depth count ∷ goals) 0 noted
    ≡ run us goals count (noted_at depth count closing ∷ place (deeper depth) count ms noted)

last_reads : (ts : List Terminal) (ms : List Mark) → ReadsAssign ts ms → ReadsList ts (whole ms)
last_reads ts ms f depth count goals noted at us =
    f (deeper depth) 0 (G.MoreArguments (deeper depth) ∷ G.CloseParen depth count ∷ goals) noted (sign p.RightParen at ∷ us) refl
    ∙ ap (λ x. run us goals count (noted_at depth count closing ∷ x)) (sym (place-whole (deeper depth) count ms noted))

more_reads : (comma : Place) (ts vs : List Terminal) (ms mv : List Mark) → ReadsAssign ts ms → ReadsList vs mv → ReadsList (ts ++ sign p.Comma comma ∷ vs) (whole ms ++ plain ∷ mv)
more_reads comma ts vs ms mv f h depth count goals noted at us =
    let inner = deeper depth in let left = G.MoreArguments inner ∷ G.CloseParen depth count ∷ goals in
    let front = noted_at inner 0 plain ∷ place inner 0 ms noted in
    ap (λ x. run x (G.Assign inner ∷ left) 0 noted) (append_assoc ts (sign p.Comma comma ∷ vs) (sign p.RightParen at ∷ us))
    ∙ f inner 0 left noted (sign p.Comma comma ∷ (vs ++ sign p.RightParen at ∷ us)) refl
    ∙ h depth count goals front at us
    ∙ ap (λ x. run us goals count (noted_at depth count closing ∷ place inner count mv (noted_at inner 0 plain ∷ x))) (sym (place-whole inner count ms noted))
    ∙ ap (λ c. run us goals count (noted_at depth count closing ∷ place inner c mv (noted_at inner c plain ∷ place inner count (whole ms) noted))) (sym (count-whole count ms))
    ∙ ap (λ x. run us goals count (noted_at depth count closing ∷ x)) (sym (place-append inner count (whole ms) (plain ∷ mv) noted))

some_arguments : (ts : List Terminal) (ms : List Mark) → Starts ts → ReadsList ts ms → ReadsArguments ts ms
some_arguments ts ms s f depth count goals noted at us =
    arguments_goal (ts ++ sign p.RightParen at ∷ us) (starts_more ts (sign p.RightParen at ∷ us) s) (deeper depth) (G.CloseParen depth count ∷ goals) 0 noted
    ∙ f depth count goals noted at us

list_starts : {ts : List Terminal} {es : Trees} → DerivesList ts es → Starts ts
list_starts (g.last _ _ d) = starts d
list_starts (g.and_more at ts us _ _ d _) = starts_more ts (sign p.Comma at ∷ us) (starts d)

list_count : {ts : List Terminal} {es : Trees} (d : DerivesList ts es) (count : ℕ) → count_after count (list_marks d) ≡ count
list_count (g.last _ _ d) count = count-whole count (marks d)
list_count (g.and_more _ _ _ _ _ d ds) count =
    count-append count (whole (marks d)) (plain ∷ list_marks ds) ∙ ap (λ c. count_after c (list_marks ds)) (count-whole count (marks d)) ∙ list_count ds count

argument_count : {ts : List Terminal} {es : Trees} (d : DerivesArguments ts es) (count : ℕ) → count_after count (argument_marks d) ≡ count
argument_count g.no_argument count = refl
argument_count (g.arguments _ _ ds) count = list_count ds count

-- ---- all expressions

high_operator : (op : Binary) (n : ℕ) → g.level_of op ≡ suc n → suc n ≤ 2 → ⊥
high_operator op n e le = let h = lowest op in omega (arith, h, e, le)

low_operator : (op : Binary) (n : ℕ) → g.level_of op ≡ suc n → suc n ≤ 12
low_operator op n e = let h = highest op in omega (arith, h, e)

mutual
  pub claims : {n : ℕ} {ts : List Terminal} {e : Tree} (d : Derives n ts e) → Claims n ts (marks d)
  claims (g.a_number value kind at) = by_operand 0 (terminal (k.Number value kind) at ∷ []) (plain ∷ []) (number_reads value kind at)
  claims (g.a_name text at free) = by_operand 0 (word text at ∷ []) (plain ∷ []) (name_reads text at [] [] free no_subscripts (λ c. refl))
  claims (g.an_element text at ts first rest free d) = by_operand 0 (word text at ∷ ts) (plain ∷ subscript_marks d) (name_reads text at ts (subscript_marks d) free (subscripts_read d) (subscript_count d))
  claims (g.a_call text at opens closes ts args free d) =
      by_operand 0 (word text at ∷ sign p.LeftParen opens ∷ (ts ++ sign p.RightParen closes ∷ [])) (plain ∷ pair (argument_marks d) [])
      (call_reads text at opens closes ts (argument_marks d) free (arguments_read d) (argument_count d))
  claims (g.a_group opens closes ts inner d) =
      by_operand 0 (sign p.LeftParen opens ∷ (ts ++ sign p.RightParen closes ∷ [])) (pair (whole (marks d)) []) (group_reads opens closes ts (marks d) (starts d) (whole_expression ts (marks d) (claims d).as_comma))
  claims (g.a_bump_behind punct up at ts what e d) =
      by_operand 1 (ts ++ sign punct at ∷ []) (target_marks d ++ plain ∷ []) (bump_behind_reads punct up at ts (target_marks d) e (target_some d) (target_read d) (target_count d))
  claims (g.a_prefix punct op at ts arg e d) = by_operand 2 (sign punct at ∷ ts) (plain ∷ inside (marks d)) (prefix_reads punct op at ts (marks d) e ((claims d).as_operand (omega arith)))
  claims (g.a_bump_before punct up at _ _ e (g.a_target text to ts es free d)) =
      by_operand 2 (sign punct at ∷ word text to ∷ ts) (plain ∷ inside (plain ∷ subscript_marks d)) (bump_before_reads punct up at text to ts es e free d (subscripts_read d))
  claims (g.a_cast at closes ks ts kind constant arg c d) =
      by_operand 2 (sign p.LeftParen at ∷ (ks ++ sign p.RightParen closes ∷ ts)) (pair (flat ks) (inside (marks d)))
      (cast_reads at closes ks ts kind constant (marks d) c ((claims d).as_operand (omega arith)))
  claims (g.an_operator punct op at n ls rs left right o l d e) =
      let low = low_operator op n l in
      by_binary (suc n) (ls ++ sign punct at ∷ rs) (marks d ++ operator ∷ marks e) (high_operator op n l)
      (operator_reads punct op at ls rs (marks d) (marks e) o (some_marks d) ((claims d).as_binary low) ((claims e).as_binary (omega (arith, low))))
  claims (g.a_choice at colon ts ys ns test left right d e f) =
      by_choice 13 (ts ++ sign p.Question at ∷ (ys ++ sign p.Colon colon ∷ ns)) (held (marks d) ++ plain ∷ (inside (marks e) ++ plain ∷ inside (marks f))) (λ h. omega (arith, h))
      (any_choice at colon ts ys ns (marks d) (marks e) (marks f) (some_marks d) ((claims d).as_binary (omega arith)) (whole_expression ys (marks e) (claims e).as_comma) ((claims f).as_choice (omega arith)))
  claims (g.an_assignment punct op at ts vs what value e d f) =
      by_assign 14 (ts ++ sign punct at ∷ vs) (target_marks d ++ operator ∷ marks f) (λ h. omega (arith, h))
      (assignment_reads punct op at ts vs (target_marks d) (marks f) e (target_read d) (target_count d) ((claims f).as_assign (omega arith)))
  claims (g.a_comma at ls rs left right d e) =
      by_comma 15 (ls ++ sign p.Comma at ∷ rs) (marks d ++ operator ∷ marks e) (λ h. omega (arith, h))
      (comma_reads at ls rs (marks d) (marks e) (claims d).as_comma ((claims e).as_assign (omega arith)))
  claims (g.a_tighter n ts inner d) = tighter n ts (marks d) (claims d)

  pub target_read : {ts : List Terminal} {t : TargetTree} (d : DerivesTarget ts t) → ReadsTarget ts (target_marks d)
  target_read (g.a_target text at ts es free d) = target_reads text at ts (subscript_marks d) free (subscripts_read d)

  pub subscripts_read : {ts : List Terminal} {es : Trees} (d : DerivesSubscripts ts es) → ReadsSubscripts ts (subscript_marks d)
  subscripts_read g.no_subscript = no_subscripts
  subscripts_read (g.a_subscript opens closes ts us first rest d ds) =
      more_subscripts opens closes ts us (marks d) (subscript_marks ds) (whole_expression ts (marks d) (claims d).as_comma) (subscripts_read ds)

  arguments_read : {ts : List Terminal} {es : Trees} (d : DerivesArguments ts es) → ReadsArguments ts (argument_marks d)
  arguments_read g.no_argument = λ depth count goals noted at us. refl
  arguments_read (g.arguments ts args ds) = some_arguments ts (list_marks ds) (list_starts ds) (list_read ds)

  list_read : {ts : List Terminal} {es : Trees} (d : DerivesList ts es) → ReadsList ts (list_marks d)
  list_read (g.last ts arg d) = last_reads ts (marks d) ((claims d).as_assign (omega arith))
  list_read (g.and_more at ts us arg args d ds) = more_reads at ts us (marks d) (list_marks ds) ((claims d).as_assign (omega arith)) (list_read ds)
