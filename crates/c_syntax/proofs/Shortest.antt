-- Each goal reads something that raises no token before it.
use Rattle.std.proofs.Common.{◌≡◌, ℕ, Bool, true, false, List, [], ◌∷◌, ◌++◌, codes, Option, Some, None, refl, ap, sym, ◌∙◌, subst, arith, append_assoc}
use Rattle.std.specs.Prelude.{if◌then◌else◌, ◌&&◌}
use Rattle.hls_base.specs.declared.place.Place.{Place}
use Rattle.c_token.specs.declared.ctype.CType.TheVariants as t
use Rattle.c_token.specs.declared.punct.Punct.TheVariants as p
use Rattle.c_token.specs.declared.token.TokenKind.TheVariants as k
use Rattle.c_tree.specs.Terminals.{Terminal, terminal, sign, word}
use Rattle.c_tree.specs.Tree as tree
use Rattle.c_tree.specs.Tree.{ObjectTree}
use Rattle.c_tree.specs.Kinds as kinds
use Rattle.c_tree.specs.Grammar as g
use Rattle.c_syntax.specs.declared.steps.goal.Goal.{Goal}
use Rattle.c_syntax.specs.declared.steps.goal.Goal.TheVariants as G
use Rattle.c_syntax.specs.declared.steps.goal.Raise.{Raise}
use Rattle.c_syntax.specs.declared.steps.goal.Raise.TheVariants as r
use Rattle.c_syntax.specs.declared.steps.goal.Spot.{Spot}
use Rattle.c_syntax.specs.declared.sorts.sort.Sort.{Sort}
use Rattle.c_syntax.specs.declared.sorts.sort.Sort.TheVariants as o
use Rattle.c_syntax.specs.Sorts.{sort_of}
use Rattle.c_syntax.specs.Steps.{Step, step_of, is_optional, taken_or, next, all_optional}
use Rattle.c_syntax.proofs.Noting.{Noted, raised}
use Rattle.c_syntax.proofs.Attach.{Is, is_looser, name_target}
use Rattle.c_syntax.proofs.Outlines.{value_is}
use Rattle.c_syntax.proofs.Reading.{the_sign, the_keyword, a_colon, body_end, IsKind, IsItem, Reads, ReadsAll, done}
use Rattle.c_syntax.proofs.Stacks.{reads_nothing, in_front}
use Rattle.c_syntax.proofs.Marking.{note, going, run}
use Rattle.c_syntax.proofs.Completing.{spot_at}

abbrev somewhere : Place
somewhere = record { line = 1; column = 1; part = 0 }

abbrev some_name : List ℕ
some_name = codes "a"

abbrev a_word : Terminal
a_word = word some_name somewhere

abbrev a_number : Terminal
a_number = terminal (k.Number 0 t.Bool) somewhere

abbrev a_type : Terminal
a_type = terminal (k.TypeWord t.Bool) somewhere

abbrev pub example : Goal → List Terminal
example (G.Operand depth) = a_number ∷ []
example (G.Target depth) = a_word ∷ []
example (G.Group depth) = a_number ∷ sign p.RightParen somewhere ∷ []
example (G.Expression depth) = a_number ∷ []
example (G.Assign depth) = a_number ∷ []
example (G.Choice depth) = a_number ∷ []
example (G.ChoiceColon depth) = sign p.Colon somewhere ∷ a_number ∷ []
example (G.Action depth) = a_number ∷ []
example (G.ActionTarget depth first) = a_word ∷ []
example (G.CloseParen depth count) = sign p.RightParen somewhere ∷ []
example (G.CloseBracket depth count) = sign p.RightBracket somewhere ∷ []
example (G.CloseBrace depth) = sign p.RightBrace somewhere ∷ []
example (G.OpenParen depth) = sign p.LeftParen somewhere ∷ []
example (G.Semicolon depth) = sign p.Semicolon somewhere ∷ []
example (G.LabelColon depth) = sign p.Colon somewhere ∷ []
example (G.Kind depth) = a_type ∷ []
example (G.Object depth) = a_word ∷ []
example (G.Init depth) = a_number ∷ []
example (G.Statement depth) = sign p.Semicolon somewhere ∷ []
example (G.Again depth) = word (codes "while") somewhere ∷ []
example (G.Block depth) = sign p.LeftBrace somewhere ∷ sign p.RightBrace somewhere ∷ []
example (G.Body depth) = sign p.RightBrace somewhere ∷ []
example (G.First depth) = sign p.Semicolon somewhere ∷ []
example (G.Item constant) = a_type ∷ a_word ∷ sign p.Semicolon somewhere ∷ []
example G.FunctionName = a_word ∷ sign p.LeftParen somewhere ∷ sign p.RightParen somewhere ∷ sign p.Semicolon somewhere ∷ []
example G.Declarator = a_word ∷ sign p.Semicolon somewhere ∷ []
example G.AfterDeclarator = sign p.Semicolon somewhere ∷ []
example G.Definition = sign p.Semicolon somewhere ∷ []
example _ = []

number_is : (n : ℕ) → Is n (a_number ∷ [])
number_is n = is_looser n 0 (a_number ∷ []) (omega arith) (tree.number 0 t.Bool somewhere, g.a_number 0 t.Bool somewhere)

item_of : (us : List Terminal) → IsKind us → IsItem (us ++ a_word ∷ sign p.Semicolon somewhere ∷ [])
item_of us u =
    let o : ObjectTree = record { name = some_name; at = somewhere; kind = u.0; constant = u.1; lengths = []; init = None } in (
      tree.objects (o ∷ []),
      g.some_objects (us ++ a_word ∷ sign p.Semicolon somewhere ∷ []) (o ∷ [])
          (g.a_declaration u.0 u.1 us (a_word ∷ []) (o ∷ []) somewhere u.2
          (g.last_object u.0 u.1 (a_word ∷ []) o (g.an_object u.0 u.1 some_name somewhere [] [] [] None refl g.no_length g.no_initialiser))),
    )

kind_of : (us : List Terminal) → (constant : Bool) × kinds.DerivesWords us [] constant → IsKind (us ++ a_type ∷ [])
kind_of us c = (t.Bool, _, kinds.of_name us [] t.Bool somewhere c.0 false c.1 kinds.no_word)

reads_example : (goal : Goal) → Reads goal (example goal)
reads_example (G.Operand depth) = number_is 2
reads_example (G.Target depth) = name_target some_name somewhere refl
reads_example (G.Group depth) = λ at. let i = number_is 15 in is_looser 2 0 (sign p.LeftParen at ∷ a_number ∷ sign p.RightParen somewhere ∷ []) (omega arith) (i.0, g.a_group at somewhere (a_number ∷ []) i.0 i.1)
reads_example (G.Expression depth) = number_is 15
reads_example (G.Assign depth) = number_is 14
reads_example (G.Choice depth) = number_is 13
reads_example (G.ChoiceColon depth) = a_colon somewhere (a_number ∷ []) (number_is 13)
reads_example (G.Action depth) = value_is (a_number ∷ []) (number_is 13)
reads_example (G.ActionTarget depth first) = λ punct up at b.
    let u = name_target some_name somewhere refl in (tree.bumping u.0 up at, g.a_change (sign punct at ∷ a_word ∷ []) (tree.bumping u.0 up at) (g.bumped_before punct up at (a_word ∷ []) u.0 b u.1))
reads_example (G.CloseParen depth count) = the_sign somewhere
reads_example (G.CloseBracket depth count) = the_sign somewhere
reads_example (G.CloseBrace depth) = the_sign somewhere
reads_example (G.OpenParen depth) = the_sign somewhere
reads_example (G.Semicolon depth) = the_sign somewhere
reads_example (G.LabelColon depth) = the_sign somewhere
reads_example (G.Kind depth) = λ us c. kind_of us c
reads_example (G.Object depth) = λ kind constant. (
  record { name = some_name; at = somewhere; kind = kind; constant = constant; lengths = []; init = None },
  g.an_object kind constant some_name somewhere [] [] [] None refl g.no_length g.no_initialiser,
)
reads_example (G.Init depth) = let i = number_is 14 in (tree.single i.0, g.a_single (a_number ∷ []) i.0 i.1)
reads_example (G.Statement depth) = (tree.act [], g.an_act somewhere [] [] g.no_action)
reads_example (G.Again depth) = the_keyword somewhere
reads_example (G.Block depth) = (tree.no_stmt, g.braces somewhere somewhere [] tree.no_stmt g.nothing)
reads_example (G.Body depth) = body_end [] tree.no_stmt somewhere g.nothing
reads_example (G.First depth) = (tree.no_first, g.nothing_first somewhere)
reads_example (G.Item false) = item_of (a_type ∷ []) (kind_of [] (false, kinds.no_word))
reads_example (G.Item true) = λ us c. subst IsItem (append_assoc us (a_type ∷ []) (a_word ∷ sign p.Semicolon somewhere ∷ [])) (item_of (us ++ a_type ∷ []) (kind_of us c))
reads_example G.FunctionName = λ us u. (
  tree.function (record { name = some_name; at = somewhere; result = u.0; params = []; body = None }),
  g.a_function u.0 u.1 us [] (sign p.Semicolon somewhere ∷ []) some_name somewhere somewhere somewhere [] None u.2 refl g.no_param (g.declared_only somewhere),
)
reads_example G.Declarator = λ us u. item_of us u
reads_example G.AfterDeclarator = λ us u text at free.
    let o : ObjectTree = record { name = text; at = at; kind = u.0; constant = u.1; lengths = []; init = None } in (
      tree.objects (o ∷ []),
      g.some_objects (us ++ word text at ∷ sign p.Semicolon somewhere ∷ []) (o ∷ [])
          (g.a_declaration u.0 u.1 us (word text at ∷ []) (o ∷ []) somewhere u.2
          (g.last_object u.0 u.1 (word text at ∷ []) o (g.an_object u.0 u.1 text at [] [] [] None free g.no_length g.no_initialiser))),
    )
reads_example G.Definition = (None, g.declared_only somewhere)
reads_example (G.Subscripts depth) = reads_nothing (G.Subscripts depth) refl
reads_example (G.AfterOperand named depth) = reads_nothing (G.AfterOperand named depth) refl
reads_example (G.Arguments depth) = reads_nothing (G.Arguments depth) refl
reads_example (G.MoreArguments depth) = reads_nothing (G.MoreArguments depth) refl
reads_example (G.Commas depth) = reads_nothing (G.Commas depth) refl
reads_example (G.AfterTarget named action depth first) = reads_nothing (G.AfterTarget named action depth first) refl
reads_example (G.Operators depth first) = reads_nothing (G.Operators depth first) refl
reads_example (G.OptionalChoice depth) = reads_nothing (G.OptionalChoice depth) refl
reads_example (G.OptionalExpression depth) = reads_nothing (G.OptionalExpression depth) refl
reads_example (G.Actions depth) = reads_nothing (G.Actions depth) refl
reads_example (G.MoreActions depth) = reads_nothing (G.MoreActions depth) refl
reads_example (G.ActionSubscripts depth first) = reads_nothing (G.ActionSubscripts depth first) refl
reads_example (G.KindWords words depth) = reads_nothing (G.KindWords words depth) refl
reads_example (G.MoreObjects depth) = reads_nothing (G.MoreObjects depth) refl
reads_example (G.Lengths depth) = reads_nothing (G.Lengths depth) refl
reads_example (G.Initialiser depth) = reads_nothing (G.Initialiser depth) refl
reads_example (G.MoreInits depth) = reads_nothing (G.MoreInits depth) refl
reads_example (G.OptionalInit depth) = reads_nothing (G.OptionalInit depth) refl
reads_example (G.Else depth) = reads_nothing (G.Else depth) refl
reads_example G.Params = reads_nothing G.Params refl
reads_example G.MoreParams = reads_nothing G.MoreParams refl
reads_example (G.OptionalName depth) = reads_nothing (G.OptionalName depth) refl
reads_example G.Items = reads_nothing G.Items refl

pub optional_example : (goal : Goal) → is_optional goal ≡ true → example goal ≡ []
optional_example (G.Operand depth) e = absurd cc
optional_example (G.Target depth) e = absurd cc
optional_example (G.Group depth) e = absurd cc
optional_example (G.Expression depth) e = absurd cc
optional_example (G.Assign depth) e = absurd cc
optional_example (G.Choice depth) e = absurd cc
optional_example (G.ChoiceColon depth) e = absurd cc
optional_example (G.Action depth) e = absurd cc
optional_example (G.ActionTarget depth first) e = absurd cc
optional_example (G.CloseParen depth count) e = absurd cc
optional_example (G.CloseBracket depth count) e = absurd cc
optional_example (G.CloseBrace depth) e = absurd cc
optional_example (G.OpenParen depth) e = absurd cc
optional_example (G.Semicolon depth) e = absurd cc
optional_example (G.LabelColon depth) e = absurd cc
optional_example (G.Kind depth) e = absurd cc
optional_example (G.Object depth) e = absurd cc
optional_example (G.Init depth) e = absurd cc
optional_example (G.Statement depth) e = absurd cc
optional_example (G.Again depth) e = absurd cc
optional_example (G.Block depth) e = absurd cc
optional_example (G.Body depth) e = absurd cc
optional_example (G.First depth) e = absurd cc
optional_example (G.Item constant) e = absurd cc
optional_example G.FunctionName e = absurd cc
optional_example G.Declarator e = absurd cc
optional_example G.AfterDeclarator e = absurd cc
optional_example G.Definition e = absurd cc
optional_example _ e = refl

abbrev pub completion : List Goal → List Terminal
completion [] = []
completion (goal ∷ goals) = example goal ++ completion goals

pub reads_completion : (goals : List Goal) → ReadsAll goals (completion goals)
reads_completion [] = done
reads_completion (goal ∷ goals) = in_front goal (example goal) (reads_example goal) goals (completion goals) (reads_completion goals)

-- ---- no token is raised

-- sorts that raise none
abbrev tame : Sort → Bool
tame o.Number = true
tame o.Name = true
tame o.TypeName = true
tame o.While = true
tame o.LeftParen = true
tame o.RightParen = true
tame o.RightBracket = true
tame o.LeftBrace = true
tame o.RightBrace = true
tame o.Semicolon = true
tame o.Colon = true
tame _ = false

abbrev raises_none : Raise → Bool
raises_none r.Nothing = true
raises_none _ = false

abbrev quiet : Option Step → Bool
quiet None = true
quiet (Some step) = raises_none step.how.raise

quiet_step : (goal : Goal) (spot : Spot) (sort : Sort) → tame sort ≡ true → quiet (step_of goal spot sort) ≡ true
quiet_step (G.AfterOperand true depth) spot o.LeftParen e = refl
quiet_step (G.AfterOperand false depth) spot o.LeftParen e = refl
quiet_step (G.AfterTarget true action depth first) spot o.LeftParen e = refl
quiet_step (G.AfterTarget false action depth first) spot o.LeftParen e = refl
quiet_step goal spot o.Number e = refl
quiet_step goal spot o.Name e = refl
quiet_step goal spot o.TypeName e = refl
quiet_step goal spot o.While e = refl
quiet_step goal spot o.LeftParen e = refl
quiet_step goal spot o.RightParen e = refl
quiet_step goal spot o.RightBracket e = refl
quiet_step goal spot o.LeftBrace e = refl
quiet_step goal spot o.RightBrace e = refl
quiet_step goal spot o.Semicolon e = refl
quiet_step goal spot o.Colon e = refl
quiet_step goal spot _ e = absurd cc

quiet_taken : (found : Option Step) (optional : Bool) (goals : List Goal) (other : Option Step) → quiet found ≡ true → quiet other ≡ true → quiet (taken_or found optional goals other) ≡ true
quiet_taken (Some step) optional goals other e f = e
quiet_taken None true goals other e f = f
quiet_taken None false goals other e f = refl

quiet_next : (goals : List Goal) (spot : Spot) (sort : Sort) → tame sort ≡ true → quiet (next goals spot sort) ≡ true
quiet_next [] spot sort e = refl
quiet_next (goal ∷ goals) spot sort e = quiet_taken (step_of goal spot sort) (is_optional goal) goals (next goals spot sort) (quiet_step goal spot sort e) (quiet_next goals spot sort e)

abbrev pub AllTame : List Terminal → Type 0
AllTame [] = Unit {0}
AllTame (t ∷ ts) = (tame (sort_of t.kind) ≡ true) × AllTame ts

tame_append : (ts us : List Terminal) → AllTame ts → AllTame us → AllTame (ts ++ us)
tame_append [] us a b = b
tame_append (t ∷ ts) us a b = (a.0, tame_append ts us a.1 b)

abbrev all_tame : List Terminal → Bool
all_tame [] = true
all_tame (t ∷ ts) = tame (sort_of t.kind) && all_tame ts

both : (a b : Bool) → (a && b) ≡ true → (a ≡ true) × (b ≡ true)
both true true e = (refl, refl)
both true false e = absurd cc
both false b e = absurd cc

are_tame : (ts : List Terminal) → all_tame ts ≡ true → AllTame ts
are_tame [] e = tt
are_tame (t ∷ ts) e = let h = both (tame (sort_of t.kind)) (all_tame ts) e in (h.0, are_tame ts h.1)

tame_example : (goal : Goal) → all_tame (example goal) ≡ true
tame_example (G.Operand depth) = refl
tame_example _ = refl

pub tame_completion : (goals : List Goal) → AllTame (completion goals)
tame_completion [] = tt
tame_completion (goal ∷ goals) = tame_append (example goal) (completion goals) (are_tame (example goal) (tame_example goal)) (tame_completion goals)

pub tame_run : (ts : List Terminal) → AllTame ts → (goals : List Goal) (count : ℕ) (noted end : List Noted) → run ts goals count noted ≡ Some end → (front : List Noted) × (end ≡ front ++ noted)
tame_run [] a goals count noted end e = last (all_optional goals) e
  where
    last : (b : Bool) → (if b then Some noted else None) ≡ Some end → (front : List Noted) × (end ≡ front ++ noted)
    last true e = ([], let same : noted ≡ end = cc in sym same)
    last false e = absurd cc
tame_run (t ∷ ts) a goals count noted end e = step (next goals (spot_at noted count) (sort_of t.kind)) (quiet_next goals (spot_at noted count) (sort_of t.kind) a.0) (tame_run ts a.1) e
  where
    plain_raise : (raise : Raise) (m : Noted) → raises_none raise ≡ true → (gs : List Goal) (c : ℕ) → run ts gs c (m ∷ raised raise noted) ≡ Some end → run ts gs c (m ∷ noted) ≡ Some end
    plain_raise r.Nothing m q gs c e = e
    plain_raise (r.From n) m q gs c e = absurd cc
    plain_raise (r.Behind n) m q gs c e = absurd cc
    plain_raise (r.Both n) m q gs c e = absurd cc

    step : (found : Option Step) → quiet found ≡ true
        → ((goals : List Goal) (count : ℕ) (noted end : List Noted) → run ts goals count noted ≡ Some end → (front : List Noted) × (end ≡ front ++ noted)) → going found noted (run ts) ≡ Some end → (front : List Noted) × (end ≡ front ++ noted)
    step None q rest e = absurd cc
    step (Some s) q rest e =
        let x = rest s.goals s.how.count (note s ∷ noted) end (plain_raise s.how.raise (note s) q s.goals s.how.count e) in
        (x.0 ++ note s ∷ [], x.1 ∙ sym (append_assoc x.0 (note s ∷ []) noted))

quiet_raise : (raise : Raise) (m : Noted) (noted end : List Noted) (ts : List Terminal) → raises_none raise ≡ true → (gs : List Goal) (c : ℕ) → run ts gs c (m ∷ raised raise noted) ≡ Some end → run ts gs c (m ∷ noted) ≡ Some end
quiet_raise r.Nothing m noted end ts q gs c e = e
quiet_raise (r.From n) m noted end ts q gs c e = absurd cc
quiet_raise (r.Behind n) m noted end ts q gs c e = absurd cc
quiet_raise (r.Both n) m noted end ts q gs c e = absurd cc

-- what is noted of the first token stays
pub tame_first : (t : Terminal) (ts : List Terminal) → AllTame (t ∷ ts) → (goals : List Goal) (count : ℕ) (noted end : List Noted) (step : Step) → next goals (spot_at noted count) (sort_of t.kind) ≡ Some step
    → run (t ∷ ts) goals count noted ≡ Some end → (front : List Noted) × (end ≡ front ++ note step ∷ noted)
tame_first t ts a goals count noted end step e f =
    let q : raises_none step.how.raise ≡ true = sym (ap quiet e) ∙ quiet_next goals (spot_at noted count) (sort_of t.kind) a.0 in
    let h : run ts step.goals step.how.count (note step ∷ raised step.how.raise noted) ≡ Some end = sym (ap (λ x. going x noted (run ts)) e) ∙ f in
    tame_run ts a.1 step.goals step.how.count (note step ∷ noted) end (quiet_raise step.how.raise (note step) noted end ts q step.goals step.how.count h)

-- nothing is wanted where all goals need nothing
pub nothing_left : (goals : List Goal) → all_optional goals ≡ true → completion goals ≡ []
nothing_left [] e = refl
nothing_left (goal ∷ goals) e = branch (is_optional goal) refl e (nothing_left goals)
  where
    branch : (c : Bool) → is_optional goal ≡ c → (if c then all_optional goals else false) ≡ true → (all_optional goals ≡ true → completion goals ≡ []) → example goal ++ completion goals ≡ []
    branch true same e rest = ap (λ x. x ++ completion goals) (optional_example goal same) ∙ rest e
    branch false same e rest = absurd cc
