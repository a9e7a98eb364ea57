-- A goal reads a token and what the goals read that it leaves: expressions.
use Rattle.std.proofs.Common.{◌≡◌, ℕ, Bool, true, false, List, [], ◌∷◌, ◌++◌, Option, Some, None, refl, ap, sym, ◌∙◌, subst, arith, append_assoc, append-nil}
use Rattle.std.specs.Prelude.{if◌then◌else◌}
use Rattle.hls_base.specs.declared.place.Place.{Place}
use Rattle.c_token.specs.declared.punct.Punct.{Punct}
use Rattle.c_token.specs.declared.punct.Punct.TheVariants as p
use Rattle.c_token.specs.declared.token.TokenKind.TheVariants as k
use Rattle.c_tree.specs.declared.operator.Binary.{Binary}
use Rattle.c_tree.specs.Terminals.{Terminal, terminal, sign, word, is_keyword, operator_of, assignment_of, bump_of}
use Rattle.c_tree.specs.Tree as tree
use Rattle.c_tree.specs.Grammar as g
use Rattle.c_tree.specs.Grammar.{unary_level, binary_level, choice_level, assign_level, comma_level}
use Rattle.c_syntax.specs.declared.steps.goal.Goal.{Goal}
use Rattle.c_syntax.specs.declared.steps.goal.Goal.TheVariants as G
use Rattle.c_syntax.specs.declared.steps.goal.Spot.{Spot}
use Rattle.c_syntax.specs.declared.sorts.sort.Sort.{Sort}
use Rattle.c_syntax.specs.Steps.{Step, behind, opened, operand, target, subscripts, after_operand, choice, assign, arguments, more_arguments, commas, operators, choice_colon, assignment, after_target, expression, action, actions, more_actions, action_target, action_subscripts}
use Rattle.c_syntax.proofs.Seen.{Seen}
use Rattle.c_syntax.proofs.Seen as seen
use Rattle.c_syntax.proofs.Attach.{Is, IsTarget, is_looser, attach, target_with, name_target, target_is, bumped_is}
use Rattle.c_syntax.proofs.Outlines.{IsAction, change_is, value_is}
use Rattle.c_syntax.proofs.Reading.{IsSign, the_sign, IsChoiceColon, a_colon, IsOptional, IsList, AreArguments, AreSubscripts, IsActionList, AreActions, Wanted, BehindName, BehindTarget, Behind, BehindBump, Reads, ReadsAll, done, only, and}

-- ---- what a step is to show

-- the token with what the goals read that the step leaves
abbrev pub Sound : (List Terminal → Type 0) → Option Step → Terminal → Type 0
Sound P None t = Unit {0}
Sound P (Some step) t = (ts : List Terminal) → ReadsAll step.goals ts → P (t ∷ ts)

pub at_end : (P : List Terminal → Type 0) {ts : List Terminal} → ReadsAll [] ts → P [] → P ts
at_end P done h = h

pub one : {goal : Goal} {ts : List Terminal} → ReadsAll (goal ∷ []) ts → Reads goal ts
one (only goal ts r) = r

pub two : (P : List Terminal → Type 0) {goal other : Goal} {goals : List Goal} {ts : List Terminal} → ReadsAll (goal ∷ other ∷ goals) ts
    → ((us vs : List Terminal) → Reads goal us → ReadsAll (other ∷ goals) vs → P (us ++ vs)) → P ts
two P (and goal other goals us vs r rs) f = f us vs r rs

split_first : (goal : Goal) (goals : List Goal) (us : List Terminal) → Reads goal us → (vs : List Terminal) → ReadsAll goals vs → ReadsAll (goal ∷ goals) (us ++ vs)
split_first goal [] us r vs rs = at_end (λ x. ReadsAll (goal ∷ []) (us ++ x)) rs (only goal (us ++ []) (subst (Reads goal) (sym (append-nil us)) r))
split_first goal (other ∷ goals) us r vs rs = and goal other goals us vs r rs

pub record Split (gs hs : List Goal) (ts : List Terminal) : Type 0 where
  pub front : List Terminal
  pub back : List Terminal
  pub shape : ts ≡ front ++ back
  pub first : ReadsAll gs front
  pub second : ReadsAll hs back

pub join_first : (goal : Goal) (us : List Terminal) (gs hs : List Goal) (ts : List Terminal) → Reads goal us → Split gs hs ts → Split (goal ∷ gs) hs (us ++ ts)
join_first goal us gs hs ts r s = record {
  front = us ++ s.front;
  back = s.back;
  shape = ap (λ x. us ++ x) s.shape ∙ sym (append_assoc us s.front s.back);
  first = split_first goal gs us r s.front s.first;
  second = s.second;
}

pub split : (gs hs : List Goal) {ts : List Terminal} → ReadsAll (gs ++ hs) ts → Split gs hs ts
split [] hs {ts} r = record { front = []; back = ts; shape = refl; first = done; second = r }
split (goal ∷ []) [] {ts} r = record { front = ts; back = []; shape = sym (append-nil ts); first = r; second = done }
split (goal ∷ []) (other ∷ hs) {ts} r =
    two (λ x. Split (goal ∷ []) (other ∷ hs) x) r (λ us vs a b. record { front = us; back = vs; shape = refl; first = only goal us a; second = b })
split (goal ∷ other ∷ gs) hs {ts} r =
    two (λ x. Split (goal ∷ other ∷ gs) hs x) r (λ us vs a b. join_first goal us (other ∷ gs) hs vs a (split (other ∷ gs) hs b))

pub behind_sound : (P Q : List Terminal → Type 0) (goals : List Goal) (step : Option Step) (t : Terminal) → Sound P step t
    → ((us vs : List Terminal) → P (t ∷ us) → ReadsAll goals vs → Q (t ∷ (us ++ vs))) → Sound Q (behind goals step) t
behind_sound P Q goals None t s f = tt
behind_sound P Q goals (Some step) t s f = λ ts r.
    let x = split step.goals goals r in subst (λ y. Q (t ∷ y)) (sym x.shape) (f x.front x.back (s x.front x.first) x.second)

pub opened_sound : (P : List Terminal → Type 0) (before : ℕ) (step : Option Step) (t : Terminal) → Sound P step t → Sound P (opened before step) t
opened_sound P before None t s = tt
opened_sound P before (Some step) t s = s

pub other_sound : (P Q : List Terminal → Type 0) (step : Option Step) (t : Terminal) → Sound P step t → ((us : List Terminal) → P (t ∷ us) → Q (t ∷ us)) → Sound Q step t
other_sound P Q None t s f = tt
other_sound P Q (Some step) t s f = λ ts r. f ts (s ts r)

pub either_sound : (P : List Terminal → Type 0) (b : Bool) (first second : Option Step) (t : Terminal) → Sound P first t → Sound P second t → Sound P (if b then first else second) t
either_sound P true first second t s r = s
either_sound P false first second t s r = r

-- ---- operands

pub sound_operand : (spot : Spot) (depth : ℕ) (sort : Sort) (t : Terminal) → Seen sort t → Sound (Is unary_level) (operand spot depth sort) t
sound_operand spot depth _ _ (seen.number value kind at) = λ ts r. at_end (λ x. Is unary_level (terminal (k.Number value kind) at ∷ x)) r (is_looser 2 0 (terminal (k.Number value kind) at ∷ []) (omega arith) (tree.number value kind at, g.a_number value kind at))
sound_operand spot depth _ _ (seen.name text at free) = λ ts r. one r text at free
sound_operand spot depth _ _ (seen.left_paren at) = λ ts r. one r at
sound_operand spot depth _ _ (seen.prefix punct at op e) = λ ts r. let i = one r in (tree.unary op i.0 at, g.a_prefix punct op at ts i.0 e i.1)
sound_operand spot depth _ _ (seen.sign_ punct at op between e f) = λ ts r. let i = one r in (tree.unary op i.0 at, g.a_prefix punct op at ts i.0 e i.1)
sound_operand spot depth _ _ (seen.bump punct at up e) = λ ts r. let i = one r in (tree.bump i.0 up false at, g.a_bump_before punct up at ts i.0 e i.1)
sound_operand spot depth _ _ _ = tt

pub sound_target : (spot : Spot) (depth : ℕ) (sort : Sort) (t : Terminal) → Seen sort t → Sound IsTarget (target spot depth sort) t
sound_target spot depth _ _ (seen.name text at free) = λ ts r. let i = one r in (tree.target text i.0 at, g.a_target text at ts i.0 free i.1)
sound_target spot depth _ _ _ = tt

-- the goals of a subscript read it
record Subscripted (P : List Terminal → Type 0) (left : Goal) (ts : List Terminal) : Type 0 where
  inner : List Terminal
  closes : Place
  rest : List Terminal
  shape : ts ≡ inner ++ sign p.RightBracket closes ∷ rest
  is : Is comma_level inner
  reads : Reads left rest

closing_bracket : (P : List Terminal → Type 0) (left : Goal) (inner : List Terminal) → Is comma_level inner → {cs : List Terminal} → IsSign p.RightBracket cs → (rest : List Terminal) → Reads left rest
    → Subscripted P left (inner ++ (cs ++ rest))
closing_bracket P left inner i (the_sign at) rest r = record { inner = inner; closes = at; rest = rest; shape = refl; is = i; reads = r }

subscripted : (P : List Terminal → Type 0) (left : Goal) {d e count : ℕ} {ts : List Terminal} → ReadsAll (G.Expression d ∷ G.CloseBracket e count ∷ left ∷ []) ts → Subscripted P left ts
subscripted P left {d} {e} {count} r =
    two (Subscripted P left) r (λ us vs a b. two (λ x. Subscripted P left (us ++ x)) b (λ cs ws c w. closing_bracket P left us a c ws (one w)))

pub sound_subscripts : (spot : Spot) (depth : ℕ) (sort : Sort) (t : Terminal) → Seen sort t → Sound AreSubscripts (subscripts spot depth sort) t
sound_subscripts spot depth _ _ (seen.left_bracket at) = λ ts r.
    let s = subscripted AreSubscripts (G.Subscripts depth) r in
    subst (λ x. AreSubscripts (sign p.LeftBracket at ∷ x)) (sym s.shape)
    (tree.more s.is.0 s.reads.0, g.a_subscript at s.closes s.inner s.rest s.is.0 s.reads.0 s.is.1 s.reads.1)
sound_subscripts spot depth _ _ _ = tt

-- a target with one subscript more, and what goes on from it
longer_target : (P : List Terminal → Type 0) (us : List Terminal) → IsTarget us → (at closes : Place) (inner rest : List Terminal) → Is comma_level inner → BehindTarget P rest
    → P (us ++ sign p.LeftBracket at ∷ (inner ++ sign p.RightBracket closes ∷ rest))
longer_target P us t at closes inner rest i f =
    let shape : (us ++ sign p.LeftBracket at ∷ (inner ++ sign p.RightBracket closes ∷ [])) ++ rest ≡ us ++ sign p.LeftBracket at ∷ (inner ++ sign p.RightBracket closes ∷ rest) =
    append_assoc us (sign p.LeftBracket at ∷ (inner ++ sign p.RightBracket closes ∷ [])) rest
    ∙ ap (λ x. us ++ sign p.LeftBracket at ∷ x) (append_assoc inner (sign p.RightBracket closes ∷ []) rest) in
    subst P shape (f (us ++ sign p.LeftBracket at ∷ (inner ++ sign p.RightBracket closes ∷ [])) (target_with t.1 at closes inner i))

sound_after_element : (spot : Spot) (depth : ℕ) (sort : Sort) (t : Terminal) → Seen sort t → Sound (BehindTarget (Is unary_level)) (after_operand spot false depth sort) t
sound_after_element spot depth _ _ (seen.left_bracket at) = λ ts r us t.
    let s = subscripted (Is unary_level) (G.AfterOperand false depth) r in
    subst (λ x. Is unary_level (us ++ sign p.LeftBracket at ∷ x)) (sym s.shape) (longer_target (Is unary_level) us t at s.closes s.inner s.rest s.is s.reads)
sound_after_element spot depth _ _ (seen.bump punct at up e) = λ ts r us t.
    at_end (λ x. Is unary_level (us ++ sign punct at ∷ x)) r (is_looser 2 1 (us ++ sign punct at ∷ []) (omega arith) (bumped_is punct up at us e t))
sound_after_element spot depth _ _ _ = tt

-- the arguments of a call
called : (text : List ℕ) (at opens : Place) → is_keyword text ≡ false → (ts : List Terminal) → AreArguments ts → {cs : List Terminal} → IsSign p.RightParen cs
    → Is 0 (word text at ∷ sign p.LeftParen opens ∷ (ts ++ cs))
called text at opens k ts a (the_sign closes) = (tree.call text a.0 at, g.a_call text at opens closes ts a.0 k a.1)

name_behind : (P : List Terminal → Type 0) (t : Terminal) (us : List Terminal) → BehindTarget P (t ∷ us) → BehindName P (t ∷ us)
name_behind P t us f text at k = f (word text at ∷ []) (name_target text at k)

sound_after_name : (spot : Spot) (depth : ℕ) (sort : Sort) (t : Terminal) → Seen sort t → Sound (BehindName (Is unary_level)) (after_operand spot true depth sort) t
sound_after_name spot depth _ _ (seen.left_paren opens) = λ ts r text at k.
    two (λ x. Is unary_level (word text at ∷ sign p.LeftParen opens ∷ x)) r (λ us vs a b. is_looser 2 0 (word text at ∷ sign p.LeftParen opens ∷ (us ++ vs)) (omega arith) (called text at opens k us a (one b)))
sound_after_name spot depth sort t s =
    other_sound (BehindTarget (Is unary_level)) (BehindName (Is unary_level)) (after_operand spot false depth sort) t (sound_after_element spot depth sort t s) (name_behind (Is unary_level) t)

pub sound_after_operand : (named : Bool) (spot : Spot) (depth : ℕ) (sort : Sort) (t : Terminal) → Seen sort t → Sound (Reads (G.AfterOperand named depth)) (after_operand spot named depth sort) t
sound_after_operand true spot depth sort t s = sound_after_name spot depth sort t s
sound_after_operand false spot depth sort t s = sound_after_element spot depth sort t s

-- ---- operators

-- an operator with its operand, and what goes on from there
operated : (punct : Punct) (op : Binary) (at : Place) → operator_of punct ≡ Some op → (us : List Terminal) → Is binary_level us → (os rest : List Terminal) → Is unary_level os
    → Behind (Is binary_level) (Is choice_level) rest → Is choice_level (us ++ sign punct at ∷ (os ++ rest))
operated punct op at e us u os rest o f =
    subst (Is choice_level) (append_assoc us (sign punct at ∷ os) rest) (f (us ++ sign punct at ∷ os) (attach punct op at us os e u o))

chosen : (at : Place) (us : List Terminal) → Is binary_level us → (ys : List Terminal) → Is comma_level ys → {ns : List Terminal} → IsChoiceColon ns → Is choice_level (us ++ sign p.Question at ∷ (ys ++ ns))
chosen at us u ys y (a_colon colon ns n) = (tree.choice u.0 y.0 n.0 at colon, g.a_choice at colon us ys ns u.0 y.0 n.0 u.1 y.1 n.1)

operation : (punct : Punct) (op : Binary) (at : Place) → operator_of punct ≡ Some op → {d e first : ℕ} {ts : List Terminal} → ReadsAll (G.Operand d ∷ G.Operators e first ∷ []) ts
    → Behind (Is binary_level) (Is choice_level) (sign punct at ∷ ts)
operation punct op at e r us u = two (λ x. Is choice_level (us ++ sign punct at ∷ x)) r (λ os rest a b. operated punct op at e us u os rest a (one b))

question : (at : Place) {d e : ℕ} {ts : List Terminal} → ReadsAll (G.Expression d ∷ G.ChoiceColon e ∷ []) ts → Behind (Is binary_level) (Is choice_level) (sign p.Question at ∷ ts)
question at r us u = two (λ x. Is choice_level (us ++ sign p.Question at ∷ x)) r (λ ys ns a b. chosen at us u ys a (one b))

pub sound_operators : (spot : Spot) (depth first : ℕ) (sort : Sort) (t : Terminal) → Seen sort t → Sound (Behind (Is binary_level) (Is choice_level)) (operators spot depth first sort) t
sound_operators spot depth first _ _ (seen.sign_ punct at op between e f) = λ ts r. operation punct between at f r
sound_operators spot depth first _ _ (seen.operator punct at op e) = λ ts r. operation punct op at e r
sound_operators spot depth first _ _ (seen.question at) = λ ts r. question at r
sound_operators spot depth first _ _ _ = tt

pub sound_choice_colon : (spot : Spot) (depth : ℕ) (sort : Sort) (t : Terminal) → Seen sort t → Sound IsChoiceColon (choice_colon spot depth sort) t
sound_choice_colon spot depth _ _ (seen.colon at) = λ ts r. a_colon at ts (one r)
sound_choice_colon spot depth _ _ _ = tt

pub sound_choice : (spot : Spot) (depth : ℕ) (sort : Sort) (t : Terminal) → Seen sort t → Sound (Is choice_level) (choice spot depth sort) t
sound_choice spot depth sort t s =
    behind_sound (Is unary_level) (Is choice_level) (G.Operators depth spot.index ∷ []) (operand spot depth sort) t (sound_operand spot depth sort t s)
    (λ us vs i r. one r (t ∷ us) (is_looser 12 2 (t ∷ us) (omega arith) i))

-- ---- assignment and comma

to_assign : (us : List Terminal) → Is choice_level us → Is assign_level us
to_assign us i = is_looser 14 13 us (omega arith) i

to_wanted : (action : Bool) (us : List Terminal) → Is choice_level us → Wanted action us
to_wanted true us i = value_is us i
to_wanted false us i = to_assign us i

assigned : (action : Bool) (punct : Punct) (op : Option Binary) (at : Place) → assignment_of punct ≡ Some op → (us : List Terminal) → IsTarget us → (vs : List Terminal) → Is assign_level vs
    → Wanted action (us ++ sign punct at ∷ vs)
assigned true punct op at e us u vs v = change_is (us ++ sign punct at ∷ vs) (tree.assignment u.0 op v.0 at, g.assigned punct op at us vs u.0 v.0 e u.1 v.1)
assigned false punct op at e us u vs v = (tree.assign u.0 op v.0 at, g.an_assignment punct op at us vs u.0 v.0 e u.1 v.1)

assigning : (action : Bool) (spot : Spot) (depth : ℕ) (punct : Punct) (op : Option Binary) (at : Place) → assignment_of punct ≡ Some op
    → Sound (BehindTarget (Wanted action)) (assignment spot action depth) (sign punct at)
assigning true spot depth punct op at e = λ ts r us u. assigned true punct op at e us u ts (one r)
assigning false spot depth punct op at e = λ ts r us u. assigned false punct op at e us u ts (one r)

target_binary : (us : List Terminal) → IsTarget us → Is binary_level us
target_binary us u = is_looser 12 0 us (omega arith) (target_is u.1)

sound_after_element_target : (action : Bool) (spot : Spot) (depth first : ℕ) (sort : Sort) (t : Terminal) → Seen sort t
    → Sound (BehindTarget (Wanted action)) (after_target spot false action depth first sort) t
sound_after_element_target action spot depth first _ _ (seen.left_bracket at) = λ ts r us u.
    let s = subscripted (Wanted action) (G.AfterTarget false action depth first) r in
    subst (λ x. Wanted action (us ++ sign p.LeftBracket at ∷ x)) (sym s.shape) (longer_target (Wanted action) us u at s.closes s.inner s.rest s.is s.reads)
sound_after_element_target action spot depth first _ _ (seen.bump punct at up e) = λ ts r us u.
    subst (Wanted action) (append_assoc us (sign punct at ∷ []) ts)
    (to_wanted action ((us ++ sign punct at ∷ []) ++ ts)
    (one r (us ++ sign punct at ∷ []) (is_looser 12 1 (us ++ sign punct at ∷ []) (omega arith) (bumped_is punct up at us e u))))
sound_after_element_target action spot depth first _ _ (seen.equal at) = assigning action spot depth p.Equal None at refl
sound_after_element_target action spot depth first _ _ (seen.assignment punct at op e) = assigning action spot depth punct op at e
sound_after_element_target action spot depth first _ _ (seen.left_paren at) = tt
sound_after_element_target action spot depth first sort t s =
    other_sound (Behind (Is binary_level) (Is choice_level)) (BehindTarget (Wanted action)) (operators spot depth first sort) t (sound_operators spot depth first sort t s)
    (λ us f vs v. to_wanted action (vs ++ t ∷ us) (f vs (target_binary vs v)))

sound_after_name_target : (action : Bool) (spot : Spot) (depth first : ℕ) (sort : Sort) (t : Terminal) → Seen sort t
    → Sound (BehindName (Wanted action)) (after_target spot true action depth first sort) t
sound_after_name_target action spot depth first _ _ (seen.left_paren opens) = λ ts r text at free.
    two (λ x. Wanted action (word text at ∷ sign p.LeftParen opens ∷ x)) r (λ us vs a b. two (λ x. Wanted action (word text at ∷ sign p.LeftParen opens ∷ (us ++ x))) b (λ cs rest c d.
    subst (λ x. Wanted action (word text at ∷ sign p.LeftParen opens ∷ x)) (append_assoc us cs rest)
    (to_wanted action (word text at ∷ sign p.LeftParen opens ∷ ((us ++ cs) ++ rest))
    (one d (word text at ∷ sign p.LeftParen opens ∷ (us ++ cs)) (is_looser 12 0 (word text at ∷ sign p.LeftParen opens ∷ (us ++ cs)) (omega arith) (called text at opens free us a c))))))
sound_after_name_target action spot depth first sort t s =
    other_sound (BehindTarget (Wanted action)) (BehindName (Wanted action)) (after_target spot false action depth first sort) t
    (sound_after_element_target action spot depth first sort t s) (name_behind (Wanted action) t)

pub sound_after_target : (named action : Bool) (spot : Spot) (depth first : ℕ) (sort : Sort) (t : Terminal) → Seen sort t
    → Sound (Reads (G.AfterTarget named action depth first)) (after_target spot named action depth first sort) t
sound_after_target true action spot depth first sort t s = sound_after_name_target action spot depth first sort t s
sound_after_target false action spot depth first sort t s = sound_after_element_target action spot depth first sort t s

pub sound_assign : (spot : Spot) (depth : ℕ) (sort : Sort) (t : Terminal) → Seen sort t → Sound (Is assign_level) (assign spot depth sort) t
sound_assign spot depth _ _ (seen.name text at free) = λ ts r. one r text at free
sound_assign spot depth sort t s = other_sound (Is choice_level) (Is assign_level) (choice spot depth sort) t (sound_choice spot depth sort t s) (λ us i. to_assign (t ∷ us) i)

pub sound_expression : (spot : Spot) (depth : ℕ) (sort : Sort) (t : Terminal) → Seen sort t → Sound (Is comma_level) (expression spot depth sort) t
sound_expression spot depth sort t s =
    behind_sound (Is assign_level) (Is comma_level) (G.Commas depth ∷ []) (assign spot depth sort) t (sound_assign spot depth sort t s)
    (λ us vs i r. one r (t ∷ us) (is_looser 15 14 (t ∷ us) (omega arith) i))

pub sound_commas : (spot : Spot) (depth : ℕ) (sort : Sort) (t : Terminal) → Seen sort t → Sound (Behind (Is comma_level) (Is comma_level)) (commas spot depth sort) t
sound_commas spot depth _ _ (seen.comma at) = λ ts r us u.
    two (λ x. Is comma_level (us ++ sign p.Comma at ∷ x)) r (λ vs rest v f.
    subst (Is comma_level) (append_assoc us (sign p.Comma at ∷ vs) rest) (one f (us ++ sign p.Comma at ∷ vs) (tree.comma u.0 v.0 at, g.a_comma at us vs u.0 v.0 u.1 v.1)))
sound_commas spot depth _ _ _ = tt

-- ---- arguments

pub sound_arguments : (spot : Spot) (depth : ℕ) (sort : Sort) (t : Terminal) → Seen sort t → Sound AreArguments (arguments spot depth sort) t
sound_arguments spot depth sort t s =
    behind_sound (Is assign_level) AreArguments (G.MoreArguments depth ∷ []) (assign spot depth sort) t (sound_assign spot depth sort t s)
    (λ us vs i r. let l = one r (t ∷ us) i in (l.0, g.arguments (t ∷ (us ++ vs)) l.0 l.1))

pub sound_more_arguments : (spot : Spot) (depth : ℕ) (sort : Sort) (t : Terminal) → Seen sort t → Sound (Behind (Is assign_level) IsList) (more_arguments spot depth sort) t
sound_more_arguments spot depth _ _ (seen.comma at) = λ ts r us u.
    two (λ x. IsList (us ++ sign p.Comma at ∷ x)) r (λ vs rest v f. let l = one f vs v in (tree.more u.0 l.0, g.and_more at us (vs ++ rest) u.0 l.0 u.1 l.1))
sound_more_arguments spot depth _ _ _ = tt

-- ---- optional expressions

pub sound_optional_choice : (spot : Spot) (depth : ℕ) (sort : Sort) (t : Terminal) → Seen sort t → Sound (IsOptional choice_level) (choice spot depth sort) t
sound_optional_choice spot depth sort t s =
    other_sound (Is choice_level) (IsOptional choice_level) (choice spot depth sort) t (sound_choice spot depth sort t s) (λ us i. (Some i.0, g.present 13 (t ∷ us) i.0 i.1))

pub sound_optional_expression : (spot : Spot) (depth : ℕ) (sort : Sort) (t : Terminal) → Seen sort t → Sound (IsOptional comma_level) (expression spot depth sort) t
sound_optional_expression spot depth sort t s =
    other_sound (Is comma_level) (IsOptional comma_level) (expression spot depth sort) t (sound_expression spot depth sort t s) (λ us i. (Some i.0, g.present 15 (t ∷ us) i.0 i.1))

-- ---- actions

pub sound_action : (spot : Spot) (depth : ℕ) (sort : Sort) (t : Terminal) → Seen sort t → Sound IsAction (action spot depth sort) t
sound_action spot depth _ _ (seen.name text at free) = λ ts r. one r text at free
sound_action spot depth _ _ (seen.bump punct at up e) = λ ts r. one r punct up at e
sound_action spot depth sort t s = other_sound (Is choice_level) IsAction (choice spot depth sort) t (sound_choice spot depth sort t s) (λ us i. value_is (t ∷ us) i)

pub sound_action_list : (spot : Spot) (depth : ℕ) (sort : Sort) (t : Terminal) → Seen sort t → Sound IsActionList (actions spot depth sort) t
sound_action_list spot depth sort t s =
    behind_sound IsAction IsActionList (G.MoreActions depth ∷ []) (action spot depth sort) t (sound_action spot depth sort t s) (λ us vs i r. one r (t ∷ us) i)

pub sound_actions : (spot : Spot) (depth : ℕ) (sort : Sort) (t : Terminal) → Seen sort t → Sound AreActions (actions spot depth sort) t
sound_actions spot depth sort t s =
    other_sound IsActionList AreActions (actions spot depth sort) t (sound_action_list spot depth sort t s) (λ us l. (l.0, g.actions (t ∷ us) l.0 l.1))

pub sound_more_actions : (spot : Spot) (depth : ℕ) (sort : Sort) (t : Terminal) → Seen sort t → Sound (Behind IsAction IsActionList) (more_actions spot depth sort) t
sound_more_actions spot depth _ _ (seen.comma at) = λ ts r us u.
    two (λ x. IsActionList (us ++ sign p.Comma at ∷ x)) r (λ vs rest v f. let l = one f vs v in (u.0 ∷ l.0, g.more_actions at us (vs ++ rest) u.0 l.0 u.1 l.1))
sound_more_actions spot depth _ _ _ = tt

pub sound_action_target : (spot : Spot) (depth first : ℕ) (sort : Sort) (t : Terminal) → Seen sort t → Sound (BehindBump IsAction) (action_target spot depth first sort) t
sound_action_target spot depth first _ _ (seen.name text at free) = λ ts r. one r (word text at ∷ []) (name_target text at free)
sound_action_target spot depth first _ _ _ = tt

bump_binary : (punct : Punct) (up : Bool) (at : Place) (us : List Terminal) → bump_of punct ≡ Some up → IsTarget us → Is binary_level (sign punct at ∷ us)
bump_binary punct up at us e u = is_looser 12 2 (sign punct at ∷ us) (omega arith) (tree.bump u.0 up false at, g.a_bump_before punct up at us u.0 e u.1)

pub sound_action_subscripts : (spot : Spot) (depth first : ℕ) (sort : Sort) (t : Terminal) → Seen sort t
    → Sound (BehindTarget (BehindBump IsAction)) (action_subscripts spot depth first sort) t
sound_action_subscripts spot depth first _ _ (seen.left_bracket at) = λ ts r us u.
    let s = subscripted (BehindBump IsAction) (G.ActionSubscripts depth first) r in
    subst (λ x. BehindBump IsAction (us ++ sign p.LeftBracket at ∷ x)) (sym s.shape) (longer_target (BehindBump IsAction) us u at s.closes s.inner s.rest s.is s.reads)
sound_action_subscripts spot depth first _ _ (seen.sign_ punct at op between e f) = λ ts r us u front up to b.
    value_is (sign front to ∷ (us ++ sign punct at ∷ ts)) (operation punct between at f r (sign front to ∷ us) (bump_binary front up to us b u))
sound_action_subscripts spot depth first _ _ (seen.operator punct at op e) = λ ts r us u front up to b.
    value_is (sign front to ∷ (us ++ sign punct at ∷ ts)) (operation punct op at e r (sign front to ∷ us) (bump_binary front up to us b u))
sound_action_subscripts spot depth first _ _ (seen.question at) = λ ts r us u front up to b.
    value_is (sign front to ∷ (us ++ sign p.Question at ∷ ts)) (question at r (sign front to ∷ us) (bump_binary front up to us b u))
sound_action_subscripts spot depth first _ _ _ = tt
