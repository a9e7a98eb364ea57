-- A stack of goals reads a token and what the next stack reads.
use Rattle.std.proofs.Common.{◌≡◌, ℕ, Bool, true, false, List, [], ◌∷◌, ◌++◌, codes, Option, Some, None, refl, sym, subst, arith, append-nil}
use Rattle.std.specs.Prelude.{if◌then◌else◌}
use Rattle.hls_base.specs.declared.place.Place.{Place}
use Rattle.c_token.specs.declared.punct.Punct.{Punct}
use Rattle.c_token.specs.declared.punct.Punct.TheVariants as p
use Rattle.c_tree.specs.Terminals.{Terminal, sign, word}
use Rattle.c_tree.specs.Tree as tree
use Rattle.c_tree.specs.Grammar as g
use Rattle.c_tree.specs.Grammar.{choice_level}
use Rattle.c_syntax.specs.declared.steps.goal.Goal.{Goal}
use Rattle.c_syntax.specs.declared.steps.goal.Goal.TheVariants as G
use Rattle.c_syntax.specs.declared.steps.goal.Spot.{Spot}
use Rattle.c_syntax.specs.declared.sorts.sort.Sort.{Sort}
use Rattle.c_syntax.specs.declared.sorts.sort.Sort.TheVariants as o
use Rattle.c_syntax.specs.Sorts.{sort_of}
use Rattle.c_syntax.specs.Steps.{Step, step_of, is_optional, taken_or, next, all_optional, close, same_close, only_if, deeper, take}
use Rattle.c_syntax.proofs.Seen.{Seen, seen}
use Rattle.c_syntax.proofs.Seen as seen_
use Rattle.c_syntax.proofs.Attach.{Is, is_looser, target_is, IsTarget, name_target}
use Rattle.c_syntax.proofs.Outlines.{IsAction, change_is, value_is}
use Rattle.c_syntax.proofs.Reading.{IsType, IsSign, the_sign, the_keyword, no_name, no_else, Wanted, Reads, ReadsAll, done, only, and}
use Rattle.c_syntax.proofs.Sound.{Sound, at_end, split, opened_sound, sound_operand, sound_target, sound_subscripts, sound_after_operand, sound_arguments, sound_more_arguments, sound_expression, sound_assign, sound_choice, sound_commas, sound_after_target, sound_operators, sound_choice_colon, sound_optional_choice, sound_optional_expression, sound_action, sound_actions, sound_more_actions, sound_action_target, sound_action_subscripts}
use Rattle.c_syntax.proofs.SoundTypes.{sound_kind, sound_kind_words, sound_group, sound_object, sound_more_objects, sound_lengths, sound_initialiser, sound_init, sound_more_inits, sound_optional_init, read_type}
use Rattle.c_syntax.proofs.SoundStatements.{sound_statement, sound_other_branch, sound_block, sound_body, sound_first}
use Rattle.c_syntax.proofs.SoundItems.{sound_item, sound_items, sound_function_name, sound_declarator, sound_after_declarator, sound_definition, sound_params, sound_more_params, sound_optional_name}

-- ---- single signs

sound_close : (punct : Punct) (wanted : Sort) (spot : Spot) (depth count : ℕ) (sort : Sort) (t : Terminal) → ((at : Place) → same_close wanted sort ≡ true → t ≡ sign punct t.at)
    → Sound (IsSign punct) (close spot depth count wanted sort) t
sound_close punct wanted spot depth count sort t f = closes (same_close wanted sort) (f t.at)
  where
    closes : (b : Bool) → (b ≡ true → t ≡ sign punct t.at) → Sound (IsSign punct) (only_if b (take (record spot { count = count }) depth [])) t
    closes true f = λ ts r. at_end (λ x. IsSign punct (t ∷ x)) r (subst (λ x. IsSign punct (x ∷ [])) (sym (f refl)) (the_sign t.at))
    closes false f = tt

is_right_paren : (sort : Sort) (t : Terminal) → Seen sort t → same_close o.RightParen sort ≡ true → t ≡ sign p.RightParen t.at
is_right_paren _ _ (seen_.right_paren at) e = refl
is_right_paren _ _ _ e = absurd cc

is_right_bracket : (sort : Sort) (t : Terminal) → Seen sort t → same_close o.RightBracket sort ≡ true → t ≡ sign p.RightBracket t.at
is_right_bracket _ _ (seen_.right_bracket at) e = refl
is_right_bracket _ _ _ e = absurd cc

is_right_brace : (sort : Sort) (t : Terminal) → Seen sort t → same_close o.RightBrace sort ≡ true → t ≡ sign p.RightBrace t.at
is_right_brace _ _ (seen_.right_brace at) e = refl
is_right_brace _ _ _ e = absurd cc

is_left_paren : (sort : Sort) (t : Terminal) → Seen sort t → same_close o.LeftParen sort ≡ true → t ≡ sign p.LeftParen t.at
is_left_paren _ _ (seen_.left_paren at) e = refl
is_left_paren _ _ _ e = absurd cc

is_semicolon : (sort : Sort) (t : Terminal) → Seen sort t → same_close o.Semicolon sort ≡ true → t ≡ sign p.Semicolon t.at
is_semicolon _ _ (seen_.semicolon at) e = refl
is_semicolon _ _ _ e = absurd cc

is_colon : (sort : Sort) (t : Terminal) → Seen sort t → same_close o.Colon sort ≡ true → t ≡ sign p.Colon t.at
is_colon _ _ (seen_.colon at) e = refl
is_colon _ _ _ e = absurd cc

sound_again : (spot : Spot) (depth : ℕ) (sort : Sort) (t : Terminal) → Seen sort t → Sound (Reads (G.Again depth)) (close spot depth 0 o.While sort) t
sound_again spot depth _ _ (seen_.while_ at) = λ ts r. at_end (λ x. Reads (G.Again depth) (word (codes "while") at ∷ x)) r (the_keyword at)
sound_again spot depth _ _ _ = tt

-- ---- each goal

pub sound : (goal : Goal) (spot : Spot) (sort : Sort) (t : Terminal) → Seen sort t → Sound (Reads goal) (step_of goal spot sort) t
sound (G.Operand depth) spot sort t s = sound_operand spot depth sort t s
sound (G.Target depth) spot sort t s = sound_target spot depth sort t s
sound (G.Subscripts depth) spot sort t s = sound_subscripts spot depth sort t s
sound (G.AfterOperand named depth) spot sort t s = sound_after_operand named spot depth sort t s
sound (G.Group depth) spot sort t s = sound_group spot depth sort t s
sound (G.Arguments depth) spot sort t s = sound_arguments spot depth sort t s
sound (G.MoreArguments depth) spot sort t s = sound_more_arguments spot depth sort t s
sound (G.Expression depth) spot sort t s = sound_expression spot depth sort t s
sound (G.Assign depth) spot sort t s = sound_assign spot depth sort t s
sound (G.Choice depth) spot sort t s = sound_choice spot depth sort t s
sound (G.Commas depth) spot sort t s = sound_commas spot depth sort t s
sound (G.AfterTarget named action depth first) spot sort t s = sound_after_target named action spot depth first sort t s
sound (G.Operators depth first) spot sort t s = sound_operators spot depth first sort t s
sound (G.ChoiceColon depth) spot sort t s = sound_choice_colon spot depth sort t s
sound (G.OptionalChoice depth) spot sort t s = sound_optional_choice spot depth sort t s
sound (G.OptionalExpression depth) spot sort t s = sound_optional_expression spot depth sort t s
sound (G.Action depth) spot sort t s = sound_action spot depth sort t s
sound (G.Actions depth) spot sort t s = sound_actions spot depth sort t s
sound (G.MoreActions depth) spot sort t s = sound_more_actions spot depth sort t s
sound (G.ActionTarget depth first) spot sort t s = sound_action_target spot depth first sort t s
sound (G.ActionSubscripts depth first) spot sort t s = sound_action_subscripts spot depth first sort t s
sound (G.CloseParen depth count) spot sort t s =
    opened_sound (IsSign p.RightParen) (deeper depth) (close spot depth count o.RightParen sort) t (sound_close p.RightParen o.RightParen spot depth count sort t (λ at e. is_right_paren sort t s e))
sound (G.CloseBracket depth count) spot sort t s =
    opened_sound (IsSign p.RightBracket) (deeper depth) (close spot depth count o.RightBracket sort) t (sound_close p.RightBracket o.RightBracket spot depth count sort t (λ at e. is_right_bracket sort t s e))
sound (G.CloseBrace depth) spot sort t s =
    opened_sound (IsSign p.RightBrace) (deeper depth) (close spot depth 0 o.RightBrace sort) t (sound_close p.RightBrace o.RightBrace spot depth 0 sort t (λ at e. is_right_brace sort t s e))
sound (G.OpenParen depth) spot sort t s = sound_close p.LeftParen o.LeftParen spot depth 0 sort t (λ at e. is_left_paren sort t s e)
sound (G.Semicolon depth) spot sort t s = sound_close p.Semicolon o.Semicolon spot depth 0 sort t (λ at e. is_semicolon sort t s e)
sound (G.LabelColon depth) spot sort t s = sound_close p.Colon o.Colon spot depth 0 sort t (λ at e. is_colon sort t s e)
sound (G.Kind depth) spot sort t s = sound_kind spot depth sort t s
sound (G.KindWords words depth) spot sort t s = sound_kind_words spot words depth sort t s
sound (G.Object depth) spot sort t s = sound_object spot depth sort t s
sound (G.MoreObjects depth) spot sort t s = sound_more_objects spot depth sort t s
sound (G.Lengths depth) spot sort t s = sound_lengths spot depth sort t s
sound (G.Initialiser depth) spot sort t s = sound_initialiser spot depth sort t s
sound (G.Init depth) spot sort t s = sound_init spot depth sort t s
sound (G.MoreInits depth) spot sort t s = sound_more_inits spot depth sort t s
sound (G.OptionalInit depth) spot sort t s = sound_optional_init spot depth sort t s
sound (G.Statement depth) spot sort t s = sound_statement spot depth sort t s
sound (G.Else depth) spot sort t s = sound_other_branch spot depth sort t s
sound (G.Again depth) spot sort t s = sound_again spot depth sort t s
sound (G.Block depth) spot sort t s = sound_block spot depth sort t s
sound (G.Body depth) spot sort t s = sound_body spot depth sort t s
sound (G.First depth) spot sort t s = sound_first spot depth sort t s
sound G.Params spot sort t s = sound_params spot sort t s
sound G.MoreParams spot sort t s = sound_more_params spot sort t s
sound (G.OptionalName depth) spot sort t s = sound_optional_name spot depth sort t s
sound G.Items spot sort t s = sound_items spot sort t s
sound (G.Item constant) spot sort t s = sound_item spot constant sort t s
sound G.FunctionName spot sort t s = sound_function_name spot sort t s
sound G.Declarator spot sort t s = sound_declarator spot sort t s
sound G.AfterDeclarator spot sort t s = sound_after_declarator spot sort t s
sound G.Definition spot sort t s = sound_definition spot sort t s

-- ---- goals for which nothing need be taken

wanted_target : (action : Bool) (us : List Terminal) → IsTarget us → Wanted action us
wanted_target true us u = value_is us (is_looser 13 0 us (omega arith) (target_is u.1))
wanted_target false us u = is_looser 14 0 us (omega arith) (target_is u.1)

pub reads_nothing : (goal : Goal) → is_optional goal ≡ true → Reads goal []
reads_nothing (G.Subscripts depth) e = (tree.none, g.no_subscript)
reads_nothing (G.AfterOperand true depth) e = λ text at free. is_looser 2 0 (word text at ∷ []) (omega arith) (tree.name text at, g.a_name text at free)
reads_nothing (G.AfterOperand false depth) e = λ us u. subst (Is 2) (sym (append-nil us)) (is_looser 2 0 us (omega arith) (target_is u.1))
reads_nothing (G.Arguments depth) e = (tree.none, g.no_argument)
reads_nothing (G.MoreArguments depth) e = λ us u. (tree.more u.0 tree.none, subst (λ x. g.DerivesList x (tree.more u.0 tree.none)) (sym (append-nil us)) (g.last us u.0 u.1))
reads_nothing (G.Commas depth) e = λ us u. subst (Is 15) (sym (append-nil us)) u
reads_nothing (G.AfterTarget true action depth first) e = λ text at free. wanted_target action (word text at ∷ []) (name_target text at free)
reads_nothing (G.AfterTarget false action depth first) e = λ us u. subst (Wanted action) (sym (append-nil us)) (wanted_target action us u)
reads_nothing (G.Operators depth first) e = λ us u. subst (Is 13) (sym (append-nil us)) (is_looser 13 12 us (omega arith) u)
reads_nothing (G.OptionalChoice depth) e = (None, g.absent 13)
reads_nothing (G.OptionalExpression depth) e = (None, g.absent 15)
reads_nothing (G.Actions depth) e = ([], g.no_action)
reads_nothing (G.MoreActions depth) e = λ us u. (u.0 ∷ [], subst (λ x. g.DerivesActionList x (u.0 ∷ [])) (sym (append-nil us)) (g.last_action us u.0 u.1))
reads_nothing (G.ActionSubscripts depth first) e = λ us u punct up at b.
    subst (λ x. IsAction (sign punct at ∷ x)) (sym (append-nil us)) (change_is (sign punct at ∷ us) (tree.bumping u.0 up at, g.bumped_before punct up at us u.0 b u.1))
reads_nothing (G.KindWords words depth) e = λ us u. subst (IsType words) (sym (append-nil us)) (read_type words us u)
reads_nothing (G.MoreObjects depth) e = λ type constant us u. (u.0 ∷ [], subst (λ x. g.DerivesObjects type constant x (u.0 ∷ [])) (sym (append-nil us)) (g.last_object type constant us u.0 u.1))
reads_nothing (G.Lengths depth) e = ([], g.no_length)
reads_nothing (G.Initialiser depth) e = (None, g.no_initialiser)
reads_nothing (G.MoreInits depth) e = λ us u. (tree.more_inits u.0 tree.no_init, subst (λ x. g.DerivesInits x (tree.more_inits u.0 tree.no_init)) (sym (append-nil us)) (g.last_init us u.0 u.1))
reads_nothing (G.OptionalInit depth) e = λ us at u. (tree.more_inits u.0 tree.no_init, g.last_init_comma at us u.0 u.1)
reads_nothing (G.Else depth) e = no_else
reads_nothing G.Params e = ([], g.no_param)
reads_nothing G.MoreParams e = λ us u. (u.0 ∷ [], subst (λ x. g.DerivesParamList x (u.0 ∷ [])) (sym (append-nil us)) (g.last_param us u.0 u.1))
reads_nothing (G.OptionalName depth) e = no_name
reads_nothing G.Items e = ([], g.no_item)
reads_nothing _ e = absurd cc

-- ---- stacks

pub in_front : (goal : Goal) (us : List Terminal) → Reads goal us → (goals : List Goal) (vs : List Terminal) → ReadsAll goals vs → ReadsAll (goal ∷ goals) (us ++ vs)
in_front goal us r [] vs rs = at_end (λ x. ReadsAll (goal ∷ []) (us ++ x)) rs (only goal (us ++ []) (subst (Reads goal) (sym (append-nil us)) r))
in_front goal us r (other ∷ goals) vs rs = and goal other goals us vs r rs

-- the stack reads the token with what the goals read that the step leaves
abbrev pub Continues : List Goal → Option Step → Terminal → Type 0
Continues goals None t = Unit {0}
Continues goals (Some step) t = (ts : List Terminal) → ReadsAll step.goals ts → ReadsAll goals (t ∷ ts)

taken_sound : (goal : Goal) (goals : List Goal) (step : Option Step) (other : Option Step) (optional : Bool) (t : Terminal) → Sound (Reads goal) step t → (optional ≡ true → Reads goal [])
    → Continues goals other t → Continues (goal ∷ goals) (taken_or step optional goals other) t
taken_sound goal goals (Some step) other optional t s nothing f = λ ts r.
    let x = split step.goals goals r in
    subst (λ y. ReadsAll (goal ∷ goals) (t ∷ y)) (sym x.shape) (in_front goal (t ∷ x.front) (s x.front x.first) goals x.back x.second)
taken_sound goal goals None None true t s nothing f = tt
taken_sound goal goals None (Some step) true t s nothing f = λ ts r. in_front goal [] (nothing refl) goals (t ∷ ts) (f ts r)
taken_sound goal goals None other false t s nothing f = tt

pub next_sound : (goals : List Goal) (spot : Spot) (t : Terminal) → Continues goals (next goals spot (sort_of t.kind)) t
next_sound [] spot t = tt
next_sound (goal ∷ goals) spot t =
    taken_sound goal goals (step_of goal spot (sort_of t.kind)) (next goals spot (sort_of t.kind)) (is_optional goal) t (sound goal spot (sort_of t.kind) t (seen t)) (reads_nothing goal) (next_sound goals spot t)

both_optional : (a b : Bool) → (if a then b else false) ≡ true → (a ≡ true) × (b ≡ true)
both_optional true b e = (refl, e)
both_optional false b e = absurd cc

pub all_read_nothing : (goals : List Goal) → all_optional goals ≡ true → ReadsAll goals []
all_read_nothing [] e = done
all_read_nothing (goal ∷ goals) e = let h = both_optional (is_optional goal) (all_optional goals) e in in_front goal [] (reads_nothing goal h.0) goals [] (all_read_nothing goals h.1)
