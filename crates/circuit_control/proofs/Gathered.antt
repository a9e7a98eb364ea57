-- What the entries of a plan want of the controller: which nodes are entered, whether the run ends, and whether a test is known.
use Rattle.std.proofs.Common.{◌≡◌, inl, inr, ℕ, Bool, true, false, List, [], ◌∷◌, ◌++◌, map, slice_get, Option, Some, None, refl, sym, ap, ap₂, ◌∙◌}
use Rattle.std.specs.Prelude.{◌==◌, ◌&&◌, ◌||◌, not, flat_map, filter, if◌then◌else◌}
use Rattle.std.specs.List.{enumerate_from, list_any}
use Rattle.std.proofs.lemmas.Bool.{cases_eq, eq-eqb, ne_eqb}
use Rattle.std.proofs.lemmas.List.Folds.{list_any-append}
use Rattle.hls_base.specs.declared.number.NodeId.{NodeId}
use Rattle.hls_base.specs.declared.number.VarId.{VarId}
use Rattle.hls_base.specs.declared.number.Kept.{Kept}
use Rattle.ir_core.specs.declared.body.Operand.{Operand}
use Rattle.ir_core.specs.declared.body.Out.{Out}
use Rattle.ir_core.specs.declared.cfg.End.{End}
use Rattle.ir_core.specs.declared.cfg.End.TheVariants as end
use Rattle.reg_binding.specs.declared.registers.Held.{Held}
use Rattle.clock_ir.specs.ClockRuns.{TimedNode, block, overlapped, chosen_by}
use Rattle.datapath.specs.Plans.{Plan, numbered, body_of}
use Rattle.datapath.specs.Cycles.{Cycle}
use Rattle.datapath.specs.Control.{is_loop, is_tested, leaves, leaves_as, leads_as, returns_as, end_leads, holds_case, is_return, is_taken, is_entered, is_ending, is_any_tested}
use Rattle.datapath.specs.Values.{entry_of}
use Rattle.circuit_context.specs.declared.wanted.role.Role.{Role}
use Rattle.circuit_context.specs.declared.wanted.role.Target.{Target}
use Rattle.circuit_context.specs.declared.wanted.role.Target.TheVariants as t
use Rattle.circuit_context.specs.Wanted.Roles.{same_target}
use Rattle.circuit_context.specs.Wanted.Entries.{exit_entries, all_exits, parameter_entry, kept_entry, all_beginnings, held_entries, load_entries, all_places, out_entry, out_entries, way, last_operand, case_holds, no_case_holds, ordered_ways, exclusive_ways, result_entries, ways, ways_as, end_entries, all_ends, moves_of, node_of}
use Rattle.circuit_control.specs.Gathered.{asks, is_asked}

-- ---- tests of lists

pub eqb_turned : (a b : ℕ) → (a == b) ≡ (b == a)
eqb_turned a b = elim (cases_eq a b) [
  | inl same ↦ eq-eqb a b same ∙ sym (eq-eqb b a (sym same))
  | inr other ↦ ne_eqb a b other ∙ sym (ne_eqb b a (λ same. other (sym same)))
]

pub any_flat : {X A : Type 0} (g : A → Bool) (f : X → List A) (h : X → Bool) → ((x : X) → list_any g (f x) ≡ h x) → (xs : List X) → list_any g (flat_map f xs) ≡ list_any h xs
any_flat g f h e [] = refl
any_flat g f h e (x ∷ xs) = list_any-append g (f x) (flat_map f xs) ∙ ap₂ (λ a b. a || b) (e x) (any_flat g f h e xs)

none_flat : {X A : Type 0} (g : A → Bool) (f : X → List A) → ((x : X) → list_any g (f x) ≡ false) → (xs : List X) → list_any g (flat_map f xs) ≡ false
none_flat g f e [] = refl
none_flat g f e (x ∷ xs) = list_any-append g (f x) (flat_map f xs) ∙ ap₂ (λ a b. a || b) (e x) (none_flat g f e xs)

none_mapped : {X A : Type 0} (g : A → Bool) (f : X → A) → ((x : X) → g (f x) ≡ false) → (xs : List X) → list_any g (map f xs) ≡ false
none_mapped g f e [] = refl
none_mapped g f e (x ∷ xs) = ap₂ (λ a b. a || b) (e x) (none_mapped g f e xs)

both_none : {A : Type 0} (g : A → Bool) (xs ys : List A) → list_any g xs ≡ false → list_any g ys ≡ false → list_any g (xs ++ ys) ≡ false
both_none g xs ys e f = list_any-append g xs ys ∙ ap₂ (λ a b. a || b) e f

-- ---- targets that are no registers

-- the target is no register
abbrev pub IsNoRegister : Target → Type 0
IsNoRegister target = (r : Role) → same_target target (t.Register r) ≡ false

unasked : (target : Target) → IsNoRegister target → (r : Role) (wanted : Bool) → (same_target target (t.Register r) && wanted) ≡ false
unasked target h r wanted = ap (λ b. b && wanted) (h r)

alone_unasked : (target : Target) → IsNoRegister target → (r : Role) (wanted : Bool) → ((same_target target (t.Register r) && wanted) || false) ≡ false
alone_unasked target h r wanted = ap (λ b. b || false) (unasked target h r wanted)

if_none : {A : Type 0} (g : A → Bool) (b : Bool) (xs ys : List A) → list_any g xs ≡ false → list_any g ys ≡ false → list_any g (if b then xs else ys) ≡ false
if_none g true xs ys e f = e
if_none g false xs ys e f = f

load_unasked : (target : Target) → IsNoRegister target → (c : Cycle) (h : Held) (o : Option ℕ) → is_asked target (load_entries h o) c ≡ false
load_unasked target free c h None = refl
load_unasked target free c h (Some v) = if_none (asks target c) (h.place == 0) _ [] (alone_unasked target free _ _) refl

held_unasked : (p : Plan) (target : Target) → IsNoRegister target → (c : Cycle) (h : Held) → is_asked target (held_entries p h) c ≡ false
held_unasked p target free c h =
    if_none (asks target c) (is_loop (slice_get p.program.nodes h.node.0)) _ _
    (both_none (asks target c) (load_entries h (entry_of p h)) _ (load_unasked target free c h (entry_of p h)) (alone_unasked target free _ _)) (alone_unasked target free _ _)

places_unasked : (p : Plan) (target : Target) → IsNoRegister target → (c : Cycle) → is_asked target (all_places p) c ≡ false
places_unasked p target free c = none_flat (asks target c) (held_entries p) (held_unasked p target free c) p.held

outs_unasked : (p : Plan) (target : Target) → IsNoRegister target → (c : Cycle) (n : ℕ × TimedNode) → is_asked target (out_entries p n) c ≡ false
outs_unasked p target free c n = none_mapped (asks target c) (out_entry p n) (λ x. unasked target free _ _) (filter (λ (x : Out). p.savings.behind n.0 x.variable.0) (body_of n.1).outs)

first_values_unasked : (p : Plan) (target : Target) → IsNoRegister target → (c : Cycle) → is_asked target (map parameter_entry (enumerate_from 0 p.parameters) ++ map kept_entry p.kept) c ≡ false
first_values_unasked p target free c =
    both_none (asks target c) (map parameter_entry (enumerate_from 0 p.parameters)) (map kept_entry p.kept)
    (none_mapped (asks target c) parameter_entry (λ (x : ℕ × VarId). unasked target free _ _) (enumerate_from 0 p.parameters))
    (none_mapped (asks target c) kept_entry (λ (x : Kept). unasked target free _ _) p.kept)

result_unasked : (p : Plan) (target : Target) → IsNoRegister target → (c : Cycle) (n : ℕ × TimedNode) (o : Option Operand) → is_asked target (result_entries p n o) c ≡ false
result_unasked p target free c n None = refl
result_unasked p target free c n (Some x) = alone_unasked target free _ _

-- what is wanted of the target is that of the four parts
four_parts : (p : Plan) (target : Target) → IsNoRegister target → (c : Cycle) (exits begins : Bool) (at_ends : ℕ × TimedNode → Bool) → is_asked target (all_exits p) c ≡ exits
    → (same_target target (t.Entered (node_of p.program.first)) && is_taken c) ≡ begins → ((n : ℕ × TimedNode) → is_asked target (ways_as p n n.1) c ≡ at_ends n)
    → is_asked target (moves_of p) c ≡ (exits || (begins || list_any at_ends (numbered p)))
four_parts p target free c exits begins at_ends x b w =
    let g = asks target c in
    let ends : is_asked target (all_ends p) c ≡ list_any at_ends (numbered p) =
    any_flat g (end_entries p) at_ends (λ n. list_any-append g (out_entries p n) (ways_as p n n.1) ∙ ap₂ (λ l r. l || r) (outs_unasked p target free c n) (w n)) (numbered p) in
    let behind : is_asked target (all_places p ++ all_ends p) c ≡ list_any at_ends (numbered p) = list_any-append g (all_places p) (all_ends p) ∙ ap₂ (λ l r. l || r) (places_unasked p target free c) ends in
    let first : is_asked target (all_beginnings p) c ≡ begins = ap₂ (λ l r. l || r) b (first_values_unasked p target free c) ∙ or_none begins in
    list_any-append g (all_exits p) (all_beginnings p ++ (all_places p ++ all_ends p))
    ∙ ap₂ (λ l r. l || r) x (list_any-append g (all_beginnings p) (all_places p ++ all_ends p) ∙ ap₂ (λ l r. l || r) first behind)
  where
    or_none : (b : Bool) → (b || false) ≡ b
    or_none true = refl
    or_none false = refl

-- ---- which node is entered

-- no test is known where a target is none of a test
exits_unasked : (p : Plan) (target : Target) → IsNoRegister target → same_target target t.Tested ≡ false → (c : Cycle) → is_asked target (all_exits p) c ≡ false
exits_unasked p target free untested c = none_flat (asks target c) (exit_entries p) one (numbered p)
  where
    one : (n : ℕ × TimedNode) → is_asked target (exit_entries p n) c ≡ false
    one (i, block body end_) = refl
    one (i, overlapped body exit next) = ap₂ (λ l r. l || r) (ap (λ b. b && is_tested p c i) untested) (alone_unasked target free _ _)

-- the conditions of a way, in both orders
last_way : (same leaves holds_ : Bool) → ((same && (leaves && holds_)) || false) ≡ (leaves && (holds_ && same))
last_way true true true = refl
last_way true true false = refl
last_way true false h = refl
last_way false true true = refl
last_way false true false = refl
last_way false false h = refl

only_way : (same leaves : Bool) → ((same && leaves) || false) ≡ (leaves && same)
only_way true true = refl
only_way true false = refl
only_way false true = refl
only_way false false = refl

next_way : (same leaves open_ holds_ rest : Bool) → ((same && (leaves && (open_ && holds_))) || (leaves && ((open_ && not holds_) && rest))) ≡ (leaves && (open_ && (if holds_ then same else rest)))
next_way true true true true r = refl
next_way true true true false r = refl
next_way true true false h r = refl
next_way true false o h r = refl
next_way false true true true r = refl
next_way false true true false r = refl
next_way false true false h r = refl
next_way false false o h r = refl

two_ways : (same other leaves zero_ : Bool) → ((same && (leaves && not zero_)) || ((other && (leaves && zero_)) || false)) ≡ (leaves && (if not zero_ then same else other))
two_ways true true true true = refl
two_ways true true true false = refl
two_ways true true false true = refl
two_ways true true false false = refl
two_ways true false true true = refl
two_ways true false true false = refl
two_ways true false false true = refl
two_ways true false false false = refl
two_ways false true true true = refl
two_ways false true true false = refl
two_ways false true false true = refl
two_ways false true false false = refl
two_ways false false true true = refl
two_ways false false true false = refl
two_ways false false false true = refl
two_ways false false false false = refl

-- what is wanted where all cases before do not hold
abbrev leads_in_order : Plan → ℕ × TimedNode → List (Operand × NodeId) → List (Operand × NodeId) → NodeId → ℕ → Cycle → Bool
leads_in_order p n before cases other j c = leaves_as p c n.0 n.1 && (no_case_holds p n.0 before c && (chosen_by (last_operand p n.0 c) cases other == j))

-- no case holds where none before holds, and not the next one
none_more : (p : Plan) (i : ℕ) (before : List (Operand × NodeId)) (case : Operand × NodeId) (c : Cycle) → no_case_holds p i (before ++ case ∷ []) c ≡ (no_case_holds p i before c && not (case_holds p i case c))
none_more p i before case c =
    ap not (list_any-append (holds_case (last_operand p i c)) before (case ∷ [])) ∙ turned (list_any (holds_case (last_operand p i c)) before) (case_holds p i case c)
  where
    turned : (a b : Bool) → not (a || (b || false)) ≡ (not a && not b)
    turned true b = refl
    turned false true = refl
    turned false false = refl

picked_same : (b : Bool) (x y j : ℕ) → ((if b then x else y) == j) ≡ (if b then j == x else y == j)
picked_same true x y j = eqb_turned x j
picked_same false x y j = refl

ordered_lead : (p : Plan) (n : ℕ × TimedNode) (before cases : List (Operand × NodeId)) (other : NodeId) (j : ℕ) (c : Cycle)
    → is_asked (t.Entered (node_of j)) (ordered_ways p n before cases other) c ≡ leads_in_order p n before cases other j c
ordered_lead p n before [] other j c =
    last_way (j == other.0) (leaves_as p c n.0 n.1) (no_case_holds p n.0 before c)
    ∙ ap (λ b. leaves_as p c n.0 n.1 && (no_case_holds p n.0 before c && b)) (eqb_turned j other.0)
ordered_lead p n before (case ∷ cases) other j c =
    let left : Bool = leaves_as p c n.0 n.1 in
    let open_ : Bool = no_case_holds p n.0 before c in
    let here : Bool = case_holds p n.0 case c in
    let rest : Bool = chosen_by (last_operand p n.0 c) cases other == j in
    ap (λ b. (j == case.1.0 && (left && (open_ && here))) || b)
    (ordered_lead p n (before ++ case ∷ []) cases other j c ∙ ap (λ b. left && (b && rest)) (none_more p n.0 before case c))
    ∙ next_way (j == case.1.0) left open_ here rest
    ∙ ap (λ b. left && (open_ && b)) (sym (picked_same here case.1.0 (chosen_by (last_operand p n.0 c) cases other) j))

-- the cases of which no two can hold
case_way : (same leaves holds_ : Bool) → (same && (leaves && holds_)) ≡ (leaves && (holds_ && same))
case_way true true true = refl
case_way true true false = refl
case_way true false h = refl
case_way false true true = refl
case_way false true false = refl
case_way false false h = refl

one_of_ways : (leaves one rest : Bool) → ((leaves && one) || (leaves && rest)) ≡ (leaves && (one || rest))
one_of_ways true o r = refl
one_of_ways false o r = refl

no_way : (leaves : Bool) → false ≡ (leaves && false)
no_way true = refl
no_way false = refl

cases_lead : (p : Plan) (n : ℕ × TimedNode) (cases : List (Operand × NodeId)) (j : ℕ) (c : Cycle)
    → is_asked (t.Entered (node_of j)) (map (λ (case : Operand × NodeId). way p n case.1 (case_holds p n.0 case)) cases) c
    ≡ (leaves_as p c n.0 n.1 && list_any (λ (case : Operand × NodeId). holds_case (last_operand p n.0 c) case && (case.1.0 == j)) cases)
cases_lead p n [] j c = no_way (leaves_as p c n.0 n.1)
cases_lead p n (case ∷ cases) j c =
    let left : Bool = leaves_as p c n.0 n.1 in
    let here : Bool = case_holds p n.0 case c in
    let rest : Bool = list_any (λ (case : Operand × NodeId). holds_case (last_operand p n.0 c) case && (case.1.0 == j)) cases in
    ap₂ (λ a b. a || b) (case_way (j == case.1.0) left here ∙ ap (λ b. left && (here && b)) (eqb_turned j case.1.0)) (cases_lead p n cases j c)
    ∙ one_of_ways left (here && (case.1.0 == j)) rest

exclusive_lead : (p : Plan) (n : ℕ × TimedNode) (cases : List (Operand × NodeId)) (other : NodeId) (j : ℕ) (c : Cycle)
    → is_asked (t.Entered (node_of j)) (exclusive_ways p n cases other) c
    ≡ (leaves_as p c n.0 n.1 && (list_any (λ (case : Operand × NodeId). holds_case (last_operand p n.0 c) case && (case.1.0 == j)) cases || (no_case_holds p n.0 cases c && (other.0 == j))))
exclusive_lead p n cases other j c =
    let left : Bool = leaves_as p c n.0 n.1 in
    let rest : Bool = no_case_holds p n.0 cases c in
    let some : Bool = list_any (λ (case : Operand × NodeId). holds_case (last_operand p n.0 c) case && (case.1.0 == j)) cases in
    list_any-append (asks (t.Entered (node_of j)) c) (map (λ (case : Operand × NodeId). way p n case.1 (case_holds p n.0 case)) cases) (way p n other (no_case_holds p n.0 cases) ∷ [])
    ∙ ap₂ (λ a b. a || b) (cases_lead p n cases j c) (last_way (j == other.0) left rest ∙ ap (λ b. left && (rest && b)) (eqb_turned j other.0))
    ∙ one_of_ways left some (rest && (other.0 == j))

-- where the end of a block leads
ways_lead : (p : Plan) (n : ℕ × TimedNode) (e : End) (j : ℕ) (c : Cycle)
    → is_asked (t.Entered (node_of j)) (ways p n e) c ≡ (leaves_as p c n.0 n.1 && end_leads (last_operand p n.0 c) (p.savings.exclusive n.0) e j)
ways_lead p n (end.Jump next) j c =
    only_way (j == next.0) (leaves_as p c n.0 n.1) ∙ ap (λ b. leaves_as p c n.0 n.1 && b) (eqb_turned j next.0 ∙ sym (plain (p.savings.exclusive n.0)))
  where
    plain : (b : Bool) → end_leads (last_operand p n.0 c) b (end.Jump next) j ≡ (next.0 == j)
    plain true = refl
    plain false = refl
ways_lead p n (end.Branch test left right) j c =
    let zero_ : Bool = last_operand p n.0 c test == 0 in
    two_ways (j == left.0) (j == right.0) (leaves_as p c n.0 n.1) zero_ ∙ ap (λ b. leaves_as p c n.0 n.1 && b) (either (not zero_) ∙ sym (plain (p.savings.exclusive n.0)))
  where
    either : (b : Bool) → (if b then j == left.0 else j == right.0) ≡ ((if b then left.0 else right.0) == j)
    either true = eqb_turned j left.0
    either false = eqb_turned j right.0

    plain : (b : Bool) → end_leads (last_operand p n.0 c) b (end.Branch test left right) j ≡ ((if not (last_operand p n.0 c test == 0) then left.0 else right.0) == j)
    plain true = refl
    plain false = refl
ways_lead p n (end.Choose cases other) j c = by (p.savings.exclusive n.0)
  where
    by : (b : Bool) → is_asked (t.Entered (node_of j)) (if b then exclusive_ways p n cases.items other else ordered_ways p n [] cases.items other) c
        ≡ (leaves_as p c n.0 n.1 && end_leads (last_operand p n.0 c) b (end.Choose cases other) j)
    by true = exclusive_lead p n cases.items other j c
    by false = ordered_lead p n [] cases.items other j c
ways_lead p n (end.Return word) j c =
    result_unasked p (t.Entered (node_of j)) (λ r. refl) c n word ∙ (no_way (leaves_as p c n.0 n.1) ∙ ap (λ b. leaves_as p c n.0 n.1 && b) (sym (plain (p.savings.exclusive n.0))))
  where
    plain : (b : Bool) → end_leads (last_operand p n.0 c) b (end.Return word) j ≡ false
    plain true = refl
    plain false = refl

node_leads : (p : Plan) (j : ℕ) (c : Cycle) (n : ℕ × TimedNode) → is_asked (t.Entered (node_of j)) (ways_as p n n.1) c ≡ (leaves p c n && leads_as p c n.0 n.1 j)
node_leads p j c (i, block body end_) = ways_lead p (i, block body end_) end_ j c
node_leads p j c (i, overlapped body exit next) = only_way (j == next) (leaves_as p c i (overlapped body exit next)) ∙ ap (λ b. leaves_as p c i (overlapped body exit next) && b) (eqb_turned j next)

-- what enters a node is wanted where the node is entered
pub entered_asked : (p : Plan) (j : ℕ) (c : Cycle) → is_asked (t.Entered (node_of j)) (moves_of p) c ≡ is_entered p c j
entered_asked p j c =
    four_parts p (t.Entered (node_of j)) (λ r. refl) c false (is_taken c && (p.program.first == j)) (λ n. leaves p c n && leads_as p c n.0 n.1 j) (exits_unasked p (t.Entered (node_of j)) (λ r. refl) refl c)
    (turned (j == p.program.first) (is_taken c) ∙ ap (λ b. is_taken c && b) (eqb_turned j p.program.first)) (node_leads p j c)
  where
    turned : (a b : Bool) → (a && b) ≡ (b && a)
    turned true true = refl
    turned true false = refl
    turned false true = refl
    turned false false = refl

-- ---- where the run ends

ways_end : (p : Plan) (n : ℕ × TimedNode) (e : End) (c : Cycle) → is_asked t.Ended (ways p n e) c ≡ (leaves_as p c n.0 n.1 && is_return e)
ways_end p n (end.Jump next) c = no_way (leaves_as p c n.0 n.1)
ways_end p n (end.Branch test left right) c = no_way (leaves_as p c n.0 n.1)
ways_end p n (end.Choose cases other) c =
    if_none (asks t.Ended c) (p.savings.exclusive n.0) (exclusive_ways p n cases.items other) (ordered_ways p n [] cases.items other)
    (both_none (asks t.Ended c) (map (λ (case : Operand × NodeId). way p n case.1 (case_holds p n.0 case)) cases.items) (way p n other (no_case_holds p n.0 cases.items) ∷ [])
    (none_mapped (asks t.Ended c) (λ (case : Operand × NodeId). way p n case.1 (case_holds p n.0 case)) (λ case. refl) cases.items) refl) (none_ordered [] cases.items)
    ∙ no_way (leaves_as p c n.0 n.1)
  where
    none_ordered : (before cases : List (Operand × NodeId)) → is_asked t.Ended (ordered_ways p n before cases other) c ≡ false
    none_ordered before [] = refl
    none_ordered before (case ∷ cases) = none_ordered (before ++ case ∷ []) cases
ways_end p n (end.Return word) c =
    ap (λ b. leaves_as p c n.0 n.1 || b) (result_unasked p t.Ended (λ r. refl) c n word) ∙ whole (leaves_as p c n.0 n.1)
  where
    whole : (b : Bool) → (b || false) ≡ (b && true)
    whole true = refl
    whole false = refl

node_ends : (p : Plan) (c : Cycle) (n : ℕ × TimedNode) → is_asked t.Ended (ways_as p n n.1) c ≡ (leaves p c n && returns_as n.1)
node_ends p c (i, block body end_) = ways_end p (i, block body end_) end_ c
node_ends p c (i, overlapped body exit next) = no_way (leaves_as p c i (overlapped body exit next))

pub ended_asked : (p : Plan) (c : Cycle) → is_asked t.Ended (moves_of p) c ≡ is_ending p c
ended_asked p c = four_parts p t.Ended (λ r. refl) c false false (λ n. leaves p c n && returns_as n.1) (exits_unasked p t.Ended (λ r. refl) refl c) refl (node_ends p c)

-- ---- where a test is known

tests_asked : (p : Plan) (c : Cycle) (n : ℕ × TimedNode) → is_asked t.Tested (exit_entries p n) c ≡ (is_loop (Some n.1) && is_tested p c n.0)
tests_asked p c (i, block body end_) = refl
tests_asked p c (i, overlapped body exit next) = alone (is_tested p c i)
  where
    alone : (b : Bool) → (b || (false || false)) ≡ b
    alone true = refl
    alone false = refl

ways_untested : (p : Plan) (n : ℕ × TimedNode) (e : End) (c : Cycle) → is_asked t.Tested (ways p n e) c ≡ false
ways_untested p n (end.Jump next) c = refl
ways_untested p n (end.Branch test left right) c = refl
ways_untested p n (end.Choose cases other) c =
    if_none (asks t.Tested c) (p.savings.exclusive n.0) (exclusive_ways p n cases.items other) (ordered_ways p n [] cases.items other)
    (both_none (asks t.Tested c) (map (λ (case : Operand × NodeId). way p n case.1 (case_holds p n.0 case)) cases.items) (way p n other (no_case_holds p n.0 cases.items) ∷ [])
    (none_mapped (asks t.Tested c) (λ (case : Operand × NodeId). way p n case.1 (case_holds p n.0 case)) (λ case. refl) cases.items) refl) (none_ordered [] cases.items)
  where
    none_ordered : (before cases : List (Operand × NodeId)) → is_asked t.Tested (ordered_ways p n before cases other) c ≡ false
    none_ordered before [] = refl
    none_ordered before (case ∷ cases) = none_ordered (before ++ case ∷ []) cases
ways_untested p n (end.Return word) c = result_unasked p t.Tested (λ r. refl) c n word

node_untested : (p : Plan) (c : Cycle) (n : ℕ × TimedNode) → is_asked t.Tested (ways_as p n n.1) c ≡ false
node_untested p c (i, block body end_) = ways_untested p (i, block body end_) end_ c
node_untested p c (i, overlapped body exit next) = refl

pub tested_asked : (p : Plan) (c : Cycle) → is_asked t.Tested (moves_of p) c ≡ is_any_tested p c
tested_asked p c =
    four_parts p t.Tested (λ r. refl) c (is_any_tested p c) false (λ n. false) (any_flat (asks t.Tested c) (exit_entries p) (λ n. is_loop (Some n.1) && is_tested p c n.0) (tests_asked p c) (numbered p)) refl (node_untested p c)
    ∙ (ap (λ b. is_any_tested p c || b) (never (numbered p)) ∙ or_none (is_any_tested p c))
  where
    never : (xs : List (ℕ × TimedNode)) → list_any (λ (n : ℕ × TimedNode). false) xs ≡ false
    never [] = refl
    never (x ∷ xs) = never xs

    or_none : (b : Bool) → (b || false) ≡ b
    or_none true = refl
    or_none false = refl
