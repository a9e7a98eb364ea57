-- A switch jumps to where its meaning does, and leaves of a run what was left before.
use Rattle.std.proofs.Common.{◌≡◌, ℕ, ◌∙◌, sym, refl, ap, List, [], ◌∷◌, ◌++◌, ◌||◌, length, Option, Some, None, is_some, Bool, true, false, if◌then◌else◌}
use Rattle.hls_base.specs.declared.place.Place.{Place}
use Rattle.hls_base.specs.declared.point.PointKind.TheVariants as point
use Rattle.c_tree.specs.Tree as tree
use Rattle.c_tree.specs.Tree.{Tree, ObjectTree, StmtTree, StmtTrees}
use Rattle.c_value.specs.Values.{promoted, convert}
use Rattle.c_meaning.specs.declared.value.Value.{Value}
use Rattle.c_meaning.specs.declared.value.Completion.{Completion}
use Rattle.c_meaning.specs.declared.value.Completion.TheVariants as end
use Rattle.c_meaning.specs.Store.{State, Environment, declared, all_declared, declared_by, declared_in, entered, inside, left_block}
use Rattle.c_meaning.specs.Steps.{Ran, then_, goes, pass}
use Rattle.c_meaning.specs.Expression.{Calls}
use Rattle.c_meaning.specs.Statement.{arm, go_on, items_meaning, statement_meaning, jump_meaning, labelled_meaning, has_label, target_label}
use Rattle.c_machine.specs.Frames as f
use Rattle.c_machine.specs.Frames.{Configuration}
use Rattle.c_machine.specs.Rest.{rest_of, rest_from, setting, state_with, calls_at, with_end}
use Rattle.c_machine.specs.Moves.{here, Landing, labelled, landing, landed_here, skipping, jumped_to, jumped}
use Rattle.c_machine.proofs.ThenLaws.{then_assoc, then_same}
use Rattle.c_machine.proofs.Nesting.{inner3}

-- ---- where a switch jumps to

abbrev label_part : Calls → Option (Place × StmtTree) → Environment → State → Ran Completion
label_part c None env s = goes end.Normal s
label_part c (Some l) env s = arm l.0 (statement_meaning c false l.1) env s

label_found : (wanted : Option Tree → Bool) (stmt : StmtTree) → has_label wanted stmt ≡ is_some (labelled wanted stmt)
label_found wanted (tree.case_ v body at) =
    elim (wanted v) as (λ here. (here || has_label wanted body) ≡ is_some (if here then Some (at, body) else labelled wanted body)) [ true ↦ refl | false ↦ label_found wanted body ]
label_found wanted _ = refl

label_meaning : (c : Calls) (wanted : Option Tree → Bool) (stmt : StmtTree) (env : Environment) (s : State)
    → labelled_meaning c wanted stmt env s ≡ label_part c (labelled wanted stmt) env s
label_meaning c wanted (tree.case_ v body at) env s =
    elim (wanted v) as (λ here. (if here then arm at (statement_meaning c false body) env s else labelled_meaning c wanted body env s)
    ≡ label_part c (if here then Some (at, body) else labelled wanted body) env s) [ true ↦ refl | false ↦ label_meaning c wanted body env s ]
label_meaning c wanted _ env s = refl

abbrev jumps : Calls → Option Landing → Environment → State → Ran Completion
jumps c None env s = goes end.Normal s
jumps c (Some l) env s =
    then_ (arm l.at (statement_meaning c false l.body) (all_declared env l.skipped) s) (λ r s1. go_on r (items_meaning c false l.rest (all_declared env l.skipped)) s1)

declared-append : (env : Environment) (os others : List ObjectTree) → all_declared (all_declared env os) others ≡ all_declared env (os ++ others)
declared-append env [] others = refl
declared-append env (o ∷ os) others = declared-append (declared env o.name) os others

skipped-jumped : (c : Calls) (os : List ObjectTree) (l : Option Landing) (env : Environment) (s : State) → jumps c l (all_declared env os) s ≡ jumps c (skipping os l) env s
skipped-jumped c os None env s = refl
skipped-jumped c os (Some l) env s =
    ap (λ env1. then_ (arm l.at (statement_meaning c false l.body) env1 s) (λ r s1. go_on r (items_meaning c false l.rest env1) s1)) (declared-append env os l.skipped)

case_jumped : (c : Calls) (l : Option (Place × StmtTree)) (others : StmtTrees) (later : Option Landing) (env : Environment) (s : State)
    → (if is_some l then then_ (label_part c l env s) (λ r s1. go_on r (items_meaning c false others env) s1) else jumps c later env s)
    ≡ jumps c (landed_here l others (skipping [] later)) env s
case_jumped c None others later env s = skipped-jumped c [] later env s
case_jumped c (Some l) others later env s = refl

pub jump-landing : (c : Calls) (wanted : Option Tree → Bool) (body : StmtTrees) (env : Environment) (s : State) → jump_meaning c wanted body env s ≡ jumps c (landing wanted body) env s
jump-landing c wanted tree.no_stmt env s = refl
jump-landing c wanted (tree.more_stmts (tree.case_ v body at) others) env s =
    let first = tree.case_ v body at in
    let rest1 : Completion → State → Ran Completion = λ r s1. go_on r (items_meaning c false others env) s1 in
    ap (λ b. if b then then_ (labelled_meaning c wanted first env s) rest1 else jump_meaning c wanted others env s) (label_found wanted first)
    ∙ ap (λ (r : Ran Completion). if is_some (labelled wanted first) then then_ r rest1 else jump_meaning c wanted others env s) (label_meaning c wanted first env s)
    ∙ ap (λ (r : Ran Completion). if is_some (labelled wanted first) then then_ (label_part c (labelled wanted first) env s) rest1 else r) (jump-landing c wanted others env s)
    ∙ case_jumped c (labelled wanted first) others (landing wanted others) env s
jump-landing c wanted (tree.more_stmts first others) env s =
    jump-landing c wanted others (all_declared env (declared_by first)) s ∙ skipped-jumped c (declared_by first) (landing wanted others) env s

-- ---- the move

jumped_at : (left : ℕ) (l : Option Landing) (body : StmtTrees) (m : Configuration)
    → rest_of left (jumped_to l body m)
    ≡ then_ (then_ (jumps (calls_at (setting left m) m.stack) l (inside (state_with left m) (here m)) (entered (declared_in body) (state_with left m)))
    (λ r s1. goes r (left_block (length m.objects) s1))) (with_end (setting left m) m.stack m.held)
jumped_at left None body m = refl
jumped_at left (Some l) body m =
    let c = calls_at (setting left m) m.stack in
    let env2 = all_declared (inside (state_with left m) (here m)) l.skipped in
    let p = pass point.Arm l.at env2 (entered (declared_in body) (state_with left m)) in
    let part : Unit {0} → State → Ran Completion = λ u s1. statement_meaning c false l.body env2 s1 in
    let others : Completion → State → Ran Completion = λ r s1. go_on r (items_meaning c false l.rest env2) s1 in
    let leave : Completion → State → Ran Completion = λ r s1. goes r (left_block (length m.objects) s1) in
    let k = with_end (setting left m) m.stack m.held in
    sym (ap (λ (r : Ran Completion). then_ (then_ r leave) k) (then_assoc p part others)
    ∙ inner3 p part others leave k
    ∙ then_same p (λ u s1. then_ (part u s1) (λ r s2. then_ (then_ (others r s2) leave) k))
    (λ u s1. then_ (part u s1) (λ r s2. then_ (others r s2) (λ r1 s3. k r1 (left_block (length m.objects) s3))))
    (λ u s1. then_same (part u s1) (λ r s2. then_ (then_ (others r s2) leave) k)
    (λ r s2. then_ (others r s2) (λ r1 s3. k r1 (left_block (length m.objects) s3))) (λ r s2. then_assoc (others r s2) leave k)))

pub jumped-rest : (left : ℕ) (x : Value) (body : StmtTrees) (m : Configuration) → rest_of left (jumped x body m) ≡ rest_from left (f.jump x body) m
jumped-rest left x body m =
    let c = calls_at (setting left m) m.stack in
    let wanted = target_label (promoted x.kind) (convert (promoted x.kind) x.number) body in
    jumped_at left (landing wanted body) body m
    ∙ ap (λ (r : Ran Completion). then_ (then_ r (λ r1 s1. goes r1 (left_block (length m.objects) s1))) (with_end (setting left m) m.stack m.held))
    (sym (jump-landing c wanted body (inside (state_with left m) (here m)) (entered (declared_in body) (state_with left m))))
