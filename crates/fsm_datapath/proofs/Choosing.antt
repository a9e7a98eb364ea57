-- The cases of a block's end, one after another.
use Rattle.std.proofs.Common.{◌≡◌, ◌+◌, ℕ, Bool, true, false, List, [], ◌∷◌, ◌++◌, take, slice_get, Some, refl, sym, ap, ◌∙◌, subst, append_assoc}
use Rattle.std.specs.Prelude.{not, ◌&&◌, ◌||◌, ◌==◌, if◌then◌else◌}
use Rattle.std.specs.List.{All, list_any}
use Rattle.std.proofs.lemmas.List.{append-nil}
use Rattle.std.proofs.lemmas.List.Elements.{All-nil, All-cons}
use Rattle.hls_base.specs.declared.number.NodeId.{NodeId}
use Rattle.ir_core.specs.declared.body.Operand.{Operand}
use Rattle.ir_core.specs.declared.cfg.End.{End}
use Rattle.rtl_core.specs.declared.design.Atom.{Atom}
use Rattle.rtl_core.specs.Netlist.{Netlist}
use Rattle.rtl_core.specs.ClockStep.{State, bit_of, widths, seen}
use Rattle.rtl_core.specs.Valid.{HasBits}
use Rattle.rtl_core.proofs.Stability.{Extends}
use Rattle.rtl_logic.specs.Making.{Makes}
use Rattle.rtl_logic.specs.Choosing.{is_any}
use Rattle.rtl_logic.proofs.Making.{appended}
use Rattle.clock_ir.specs.ClockRuns.{TimedNode, block}
use Rattle.clock_ir.specs.Flows.{TimedBody}
use Rattle.datapath.specs.Plans.{Plan}
use Rattle.datapath.specs.Cycles.{Register, Contents, Signal, Cycle, in_cycle, bit}
use Rattle.datapath.specs.Control.{holds_case, leaves_as}
use Rattle.datapath.specs.CircuitWires.Carrying.{IsBegun, IsMoment, Tells, MakesTelling}
use Rattle.circuit_context.specs.declared.wanted.log.Push.{Push}
use Rattle.circuit_context.specs.declared.wanted.role.Target.TheVariants as t
use Rattle.circuit_context.specs.Wanted.Logs.{Logs}
use Rattle.datapath.specs.LeftOut.{ends_exclusive, is_exclusive}
use Rattle.circuit_context.specs.declared.context.Context.{Context}
use Rattle.circuit_context.specs.Contexts.{IsContext}
use Rattle.datapath.proofs.Combining.{carries_on, made_carries, bit_same, bit_is}
use Rattle.circuit_context.specs.Wanted.Entries.{Entry, bit_entry, way, case_holds, no_case_holds, last_operand, ordered_ways, exclusive_ways}
use Rattle.fsm_datapath.proofs.Listing.{one_more, map_more, logs_more, logs_ahead}
use Rattle.fsm_datapath.specs.Steps.{ordered_cases, exclusive_cases, choice_cases, none_left, TellCases}

abbrev Case : Type 0
Case = Operand × NodeId

-- ---- bits

pub and_in_turn : (a b c : Bool) → ((a && b) && c) ≡ (a && (b && c))
and_in_turn true b c = refl
and_in_turn false b c = refl

none_with : (a b x : Bool) → ((a && not b) && not x) ≡ (a && not (b || x))
none_with true true x = refl
none_with true false x = refl
none_with false b x = refl

any_more : {X : Type 0} (f : X → Bool) (xs : List X) (x : X) → list_any f (xs ++ x ∷ []) ≡ (list_any f xs || f x)
any_more f [] x = or_none (f x) where
  or_none : (b : Bool) → (b || false) ≡ (false || b)
  or_none true = refl
  or_none false = refl
any_more f (y ∷ ys) x = ap (λ b. f y || b) (any_more f ys x) ∙ or_in_turn (f y) (list_any f ys) (f x) where
  or_in_turn : (a b c : Bool) → (a || (b || c)) ≡ ((a || b) || c)
  or_in_turn true b c = refl
  or_in_turn false b c = refl

-- ---- ordered cases

pub none_more : (p : Plan) (n : ℕ × TimedNode) (cases : List Case) (case : Case) (c : Cycle) → (none_left p n cases c && not (case_holds p n.0 case c)) ≡ none_left p n (cases ++ case ∷ []) c
none_more p n cases case c =
    let holds_ : Case → Bool = holds_case (last_operand p n.0 c) in
    none_with (leaves_as p c n.0 n.1) (list_any holds_ cases) (holds_ case) ∙ ap (λ b. leaves_as p c n.0 n.1 && not b) (sym (any_more holds_ cases case))

pub none_first : (p : Plan) (n : ℕ × TimedNode) (c : Cycle) → leaves_as p c n.0 n.1 ≡ none_left p n [] c
none_first p n c = and_true (leaves_as p c n.0 n.1) where
  and_true : (b : Bool) → b ≡ (b && true)
  and_true true = refl
  and_true false = refl

abbrev case_way : Plan → ℕ × TimedNode → List Case → Case → Entry
case_way p n before case = way p n case.1 (λ c. no_case_holds p n.0 before c && case_holds p n.0 case c)

pub ordered_more : (p : Plan) (n : ℕ × TimedNode) (before cases : List Case) (case : Case) → ordered_cases p n before (cases ++ case ∷ [])
    ≡ ordered_cases p n before cases ++ way p n case.1 (λ c. no_case_holds p n.0 (before ++ cases) c && case_holds p n.0 case c) ∷ []
ordered_more p n before [] case = ap (λ (l : List Case). case_way p n l case ∷ []) (sym (append-nil before))
ordered_more p n before (x ∷ xs) case =
    ap (λ (l : List Entry). case_way p n before x ∷ l)
    (ordered_more p n (before ++ x ∷ []) xs case ∙ ap (λ (l : List Case). ordered_cases p n (before ++ x ∷ []) xs ++ case_way p n l case ∷ []) (append_assoc before (x ∷ []) xs))

ordered_split : (p : Plan) (n : ℕ × TimedNode) (before cases : List Case) (other : NodeId) → ordered_ways p n before cases other
    ≡ ordered_cases p n before cases ++ way p n other (no_case_holds p n.0 (before ++ cases)) ∷ []
ordered_split p n before [] other = ap (λ (l : List Case). way p n other (no_case_holds p n.0 l) ∷ []) (sym (append-nil before))
ordered_split p n before (x ∷ xs) other =
    ap (λ (l : List Entry). case_way p n before x ∷ l)
    (ordered_split p n (before ++ x ∷ []) xs other ∙ ap (λ (l : List Case). ordered_cases p n (before ++ x ∷ []) xs ++ way p n other (no_case_holds p n.0 l) ∷ []) (append_assoc before (x ∷ []) xs))

choice_split : (p : Plan) (n : ℕ × TimedNode) (exclusive : Bool) (cases : List Case) (other : NodeId) → (if exclusive then exclusive_ways p n cases other else ordered_ways p n [] cases other)
    ≡ choice_cases p n exclusive cases ++ way p n other (no_case_holds p n.0 cases) ∷ []
choice_split p n true cases other = refl
choice_split p n false cases other = ordered_split p n [] cases other

-- ---- exclusive cases

pub tell_on : (p : Plan) (names : List Register) (d e : Netlist) (i : ℕ) (cases : List Case) (atoms : List Atom) → Extends d e → TellCases p names d i cases atoms → TellCases p names e i cases atoms
tell_on p names d e i [] [] longer h = tt
tell_on p names d e i (case ∷ cases) (a ∷ atoms) longer h = (carries_on p names d e 1 a (λ c. bit (case_holds p i case c)) longer h.0, tell_on p names d e i cases atoms longer h.1)
tell_on p names d e i [] (a ∷ atoms) longer h = absurd h
tell_on p names d e i (case ∷ cases) [] longer h = absurd h

pub tell_more : (p : Plan) (names : List Register) (d : Netlist) (i : ℕ) (cases : List Case) (atoms : List Atom) (case : Case) (a : Atom) → TellCases p names d i cases atoms → Tells p names d a (case_holds p i case)
    → TellCases p names d i (cases ++ case ∷ []) (atoms ++ a ∷ [])
tell_more p names d i [] [] case a h k = (k, tt)
tell_more p names d i (x ∷ cases) (b ∷ atoms) case a h k = (h.0, tell_more p names d i cases atoms case a h.1 k)
tell_more p names d i [] (b ∷ atoms) case a h k = absurd h
tell_more p names d i (x ∷ cases) [] case a h k = absurd h

pub tests_fit : (p : Plan) (names : List Register) (d : Netlist) (i : ℕ) (cases : List Case) (atoms : List Atom) → TellCases p names d i cases atoms → All (HasBits (widths d) 1) atoms
tests_fit p names d i [] [] h = All-nil (HasBits (widths d) 1)
tests_fit p names d i (case ∷ cases) (a ∷ atoms) h = All-cons (HasBits (widths d) 1) a atoms h.0.fits (tests_fit p names d i cases atoms h.1)
tests_fit p names d i [] (a ∷ atoms) h = absurd h
tests_fit p names d i (case ∷ cases) [] h = absurd h

any_is : (p : Plan) (names : List Register) (d e : Netlist) (s : State) (pins : List ℕ) (x : Contents) (signals : Signal → ℕ) (i : ℕ) (cases : List Case) (atoms : List Atom) → IsMoment p names d e s pins x
    → TellCases p names d i cases atoms → is_any (seen e s pins) atoms ≡ list_any (holds_case (last_operand p i (in_cycle x signals pins))) cases
any_is p names d e s pins x signals i [] [] m h = refl
any_is p names d e s pins x signals i (case ∷ cases) (a ∷ atoms) m h =
    let c : Cycle = in_cycle x signals pins in
    let first : (seen e s pins a == 1) ≡ case_holds p i case c = ap (λ k. k == 1) (h.0.value_ e s pins x signals m) ∙ bit_is (case_holds p i case c) in
    ap (λ b. b || is_any (seen e s pins) atoms) first ∙ ap (λ b. case_holds p i case c || b) (any_is p names d e s pins x signals i cases atoms m h.1)
any_is p names d e s pins x signals i [] (a ∷ atoms) m h = absurd h
any_is p names d e s pins x signals i (case ∷ cases) [] m h = absurd h

-- one of the cases holds
pub any_tells : (p : Plan) (names : List Register) (d e : Netlist) (i : ℕ) (cases : List Case) (atoms : List Atom) (a : Atom) → IsBegun p names d → TellCases p names d i cases atoms
    → Makes d e 1 a (λ v x. x ≡ bit_of (is_any v atoms)) → MakesTelling p names d e a (λ c. list_any (holds_case (last_operand p i c)) cases)
any_tells p names d e i cases atoms a begun h made =
    made_carries p names d e 1 a (λ v x. x ≡ bit_of (is_any v atoms)) (λ c. bit (list_any (holds_case (last_operand p i c)) cases)) begun made (λ f s pins x signals m is.
    is ∙ (ap bit_of (any_is p names d f s pins x signals i cases atoms m h) ∙ bit_same (list_any (holds_case (last_operand p i (in_cycle x signals pins))) cases)))

-- ---- one case more

-- what writing a way says
abbrev WritesWay : Plan → List Register → Netlist → Netlist → List Push → List Push → Atom → Atom → NodeId → Type 0
WritesWay p names d e a b one other next =
    (left right both : Cycle → Bool) → IsBegun p names d → Tells p names d one left → Tells p names d other right → ((c : Cycle) → (left c && right c) ≡ both c)
    → Logs p names d e a b (bit_entry (t.Entered next) both ∷ [])

abbrev MakesRest : Plan → List Register → Netlist → Netlist → Atom → Atom → Atom → Type 0
MakesRest p names d e one other a =
    (left right rest : Cycle → Bool) → IsBegun p names d → Tells p names d one left → Tells p names d other right → ((c : Cycle) → (left c && not (right c)) ≡ rest c) → MakesTelling p names d e a rest

pub ordered_step : (p : Plan) (names : List Register) (d e f g : Netlist) (a b c : List Push) (n : ℕ × TimedNode) (cases : List Case) (k : ℕ) (case : Case) (before test after : Atom)
    → slice_get cases k ≡ Some case → Logs p names d e a b (ordered_cases p n [] (take k cases)) → Tells p names e before (none_left p n (take k cases))
    → Tells p names e test (case_holds p n.0 case) → WritesWay p names e f b c before test case.1 → MakesRest p names f g before test after
    → Logs p names d g a c (ordered_cases p n [] (take (k + 1) cases)) × Tells p names g after (none_left p n (take (k + 1) cases))
ordered_step p names d e f g a b c n cases k case before test after at logs open_ tests writes makes =
    let both : Cycle → Bool = λ x. leaves_as p x n.0 n.1 && (no_case_holds p n.0 (take k cases) x && case_holds p n.0 case x) in
    let way_ = writes (none_left p n (take k cases)) (case_holds p n.0 case) both logs.begun open_ tests
    (λ x. and_in_turn (leaves_as p x n.0 n.1) (no_case_holds p n.0 (take k cases) x) (case_holds p n.0 case x)) in
    let longer = appended e f way_.appends in
    let rest = makes (none_left p n (take k cases)) (case_holds p n.0 case) (none_left p n (take (k + 1) cases)) way_.begun
    (carries_on p names e f 1 before (λ x. bit (none_left p n (take k cases) x)) longer open_) (carries_on p names e f 1 test (λ x. bit (case_holds p n.0 case x)) longer tests)
    (λ x. none_more p n (take k cases) case x ∙ ap (λ (l : List Case). none_left p n l x) (sym (one_more cases k case at))) in
    let all : ordered_cases p n [] (take (k + 1) cases) ≡ ordered_cases p n [] (take k cases) ++ case_way p n (take k cases) case ∷ [] =
    ap (ordered_cases p n []) (one_more cases k case at) ∙ ordered_more p n [] (take k cases) case in (
      logs_ahead p names d f g a c (ordered_cases p n [] (take (k + 1) cases))
          (logs_more p names d e f a b c (ordered_cases p n [] (take k cases)) (case_way p n (take k cases) case ∷ []) (ordered_cases p n [] (take (k + 1) cases)) all logs way_) rest.appends rest.begun,
      rest.carries,
    )

pub exclusive_step : (p : Plan) (names : List Register) (d e f : Netlist) (a b c : List Push) (n : ℕ × TimedNode) (cases : List Case) (k : ℕ) (case : Case) (leave test : Atom) (atoms after : List Atom)
    → slice_get cases k ≡ Some case → Logs p names d e a b (exclusive_cases p n (take k cases)) → TellCases p names e n.0 (take k cases) atoms → Tells p names e leave (λ x. leaves_as p x n.0 n.1)
    → Tells p names e test (case_holds p n.0 case) → WritesWay p names e f b c leave test case.1 → after ≡ atoms ++ test ∷ []
    → Logs p names d f a c (exclusive_cases p n (take (k + 1) cases)) × TellCases p names f n.0 (take (k + 1) cases) after
exclusive_step p names d e f a b c n cases k case leave test atoms after at logs tells leaves_ tests writes pushed =
    let both : Cycle → Bool = λ x. leaves_as p x n.0 n.1 && case_holds p n.0 case x in
    let way_ = writes (λ x. leaves_as p x n.0 n.1) (case_holds p n.0 case) both logs.begun leaves_ tests (λ x. refl) in
    let longer = appended e f way_.appends in
    let more = tell_more p names f n.0 (take k cases) atoms case test (tell_on p names e f n.0 (take k cases) atoms longer tells)
    (carries_on p names e f 1 test (λ x. bit (case_holds p n.0 case x)) longer tests) in (
      logs_more p names d e f a b c (exclusive_cases p n (take k cases)) (way p n case.1 (case_holds p n.0 case) ∷ []) (exclusive_cases p n (take (k + 1) cases))
          (map_more (λ (x : Case). way p n x.1 (case_holds p n.0 x)) cases k case at) logs way_,
      subst (λ (l : List Atom). TellCases p names f n.0 (take (k + 1) cases) l) (sym pushed)
          (subst (λ (l : List Case). TellCases p names f n.0 l (atoms ++ test ∷ [])) (sym (one_more cases k case at)) more),
    )

-- ---- ends

pub not_not : (b : Bool) → not (not b) ≡ b
not_not true = refl
not_not false = refl

-- whether the cases of a block need no order
pub exclusive_is : (p : Plan) (names : List Register) (of : Context) (i : ℕ) (body : TimedBody) (e : End) → IsContext p names of → slice_get p.program.nodes i ≡ Some (block body e)
    → p.savings.exclusive i ≡ ends_exclusive body e
exclusive_is p names of i body e h stands =
    ap (λ (q : Plan). q.savings.exclusive i) h.plan ∙ (ap (λ (q : Plan). is_exclusive (slice_get q.program.nodes i)) (sym h.plan) ∙ ap is_exclusive stands)

pub choice_ways : (p : Plan) (n : ℕ × TimedNode) (exclusive : Bool) (cases : List Case) (other : NodeId) → p.savings.exclusive n.0 ≡ exclusive
    → choice_cases p n exclusive cases ++ way p n other (no_case_holds p n.0 cases) ∷ [] ≡ (if p.savings.exclusive n.0 then exclusive_ways p n cases other else ordered_ways p n [] cases other)
choice_ways p n exclusive cases other is = sym (ap (λ b. if b then exclusive_ways p n cases other else ordered_ways p n [] cases other) is ∙ choice_split p n exclusive cases other)
