-- The fault that the goals find is the one of the definitions.
use Rattle.std.proofs.Common.{◌≡◌, ℕ, zero, suc, ◌+◌, ◌<◌, ◌≤◌, Bool, true, false, List, [], ◌∷◌, ◌++◌, length, take, drop, get_or, Option, Some, None, refl, ap, sym, ◌∙◌, subst, arith, append_assoc, append-nil, length-append, inl, inr}
use Rattle.std.specs.Prelude.{if◌then◌else◌, ◌||◌, nat_lt}
use Rattle.std.proofs.Math.Seq.{drop-cons}
use Rattle.std.proofs.lemmas.Bool.{le-ltb, ltb-true, ltb-false}
use Rattle.std.proofs.lemmas.List.{length-map, take_all, take-append-drop, drop_all, get_or-take, get_or-map, length-take-le, length-take}
use Rattle.hls_base.specs.declared.place.Place.{Place}
use Rattle.hls_base.specs.declared.refusal.Refusal.{Refusal}
use Rattle.c_token.specs.declared.token.Token.{Token}
use Rattle.c_tree.specs.Tree.{ItemTree, ProgramTree}
use Rattle.c_tree.specs.Terminals.{Terminal, terminals, terminal_of}
use Rattle.c_tree.specs.Grammar.{DerivesItems}
use Rattle.c_tree.specs.Limits.{Mark, plain, item_list_marks, mark_at, exceeds, nesting_limit}
use Rattle.c_tree.specs.Refusal.{Begins, Stops, IsBeyond, IsFull, NoneBeyond, AtStop, IsFaultOf, beyond_limit, at_stop, IsProgram, refusal, rule_of}
use Rattle.c_syntax.specs.declared.steps.goal.Goal.{Goal}
use Rattle.c_syntax.specs.declared.steps.goal.Goal.TheVariants as G
use Rattle.c_syntax.specs.declared.steps.goal.Spot.{Spot}
use Rattle.c_syntax.specs.declared.steps.goal.Take.{Take}
use Rattle.c_syntax.specs.declared.sorts.sort.Sort.{Sort}
use Rattle.c_syntax.specs.declared.steps.advance.Advance.{Advance}
use Rattle.c_syntax.specs.declared.steps.advance.Advance.TheVariants as a
use Rattle.c_syntax.specs.Steps.Advances.{Advances}
use Rattle.c_syntax.specs.Faults.{rule_at_stop}
use Rattle.c_syntax.specs.Notes.{Shows}
use Rattle.c_syntax.specs.Notes as shown
use Rattle.c_syntax.specs.Sorts.{sort_of}
use Rattle.c_syntax.specs.Steps.{Step, next, is_optional, open_before, all_optional, first_open}
use Rattle.c_syntax.proofs.Stacks.{all_read_nothing}
use Rattle.c_syntax.proofs.Ends.{Stands, stands_first, stands_next, take_more}
use Rattle.c_syntax.proofs.Noting.{Noted, noting, raised, entry, is_beyond, thins, thins_length, thins_noting, thins_entry}
use Rattle.c_syntax.proofs.Marking.{note, going, run, put}
use Rattle.c_syntax.proofs.Completing.{spot_at}
use Rattle.c_syntax.proofs.CompletingItems.{items_run}
use Rattle.c_syntax.proofs.Growing.{run_extends, entry-append, grown_beyond, grown_length, put_length, put_entry, beyond_exceeds, raised_grown, grown_open, last_entry, open_below, open_exact}
use Rattle.c_syntax.proofs.Shortest.{completion, reads_completion, AllTame, tame_completion, tame_run, tame_first, nothing_left}
use Rattle.c_syntax.proofs.Layers.{AllFit, bottom}
use Rattle.c_syntax.proofs.LayeredStacks.{step_fits, first_fits}
use Rattle.c_syntax.proofs.LayeredStacks as stacks

-- what is known where these tokens were read
pub record Known (seen : List Terminal) (goals : List Goal) (count : ℕ) (noted : List Noted) : Type 0 where
  pub stands : Stands seen goals
  pub runs : (others : List Terminal) → run (seen ++ others) (G.Items ∷ []) 0 [] ≡ run others goals count noted
  pub long : length noted ≡ length seen
  pub layered : AllFit bottom goals

pub known_first : Known [] (G.Items ∷ []) 0 []
known_first = record { stands = stands_first; runs = λ others. refl; long = refl; layered = first_fits }

raised_length : (take : Take) (before : ℕ) (noted : List Noted) → length (noting take before noted) ≡ suc (length noted)
raised_length take before noted = ap suc (sym (grown_length (raised_grown take.raise noted)))

pub known_next : (seen : List Terminal) (goals new : List Goal) (count : ℕ) (noted : List Noted) (t : Terminal) (step : Step) (how : Take) → Known seen goals count noted
    → next goals (spot_at noted count) (sort_of t.kind) ≡ Some step → how ≡ step.how → new ≡ step.goals → Known (seen ++ t ∷ []) new how.count (noting how step.open_before noted)
known_next seen goals new count noted t step how k e f h = record {
  stands = stands_next seen goals new t (spot_at noted count) step k.stands e h;
  runs = λ others.
      ap (λ x. run x (G.Items ∷ []) 0 []) (append_assoc seen (t ∷ []) others) ∙ k.runs (t ∷ others)
      ∙ ap (λ x. going x noted (run others)) e
      ∙ ap (λ x. run others step.goals x.count (record { nesting = x.nesting; surplus = x.surplus; open_before = step.open_before } ∷ raised x.raise noted)) (sym f)
      ∙ ap (λ x. run others x how.count (noting how step.open_before noted)) (sym h);
  long = raised_length how step.open_before noted ∙ (let e = k.long in let l = length-append seen (t ∷ []) in omega (arith, e, l));
  layered = subst (AllFit bottom) (sym h) (step_fits goals (spot_at noted count) (sort_of t.kind) step k.layered e).1;
}

-- ---- programs that begin with them

pub begins : (seen : List Terminal) (goals : List Goal) (count : ℕ) (noted : List Noted) → Known seen goals count noted → Begins seen
begins seen goals count noted k = let i = k.stands (completion goals) (reads_completion goals) in (completion goals, i.0, i.1)

stopped_run : (goals : List Goal) (count : ℕ) (noted : List Noted) (t : Terminal) (others : List Terminal) (end : List Noted) → next goals (spot_at noted count) (sort_of t.kind) ≡ None → run (t ∷ others) goals count noted ≡ Some end → ⊥
stopped_run goals count noted t others end e f = let h : None ≡ Some end = sym (ap (λ x. going x noted (run others)) e) ∙ f in cc

pub stops : (seen : List Terminal) (goals : List Goal) (count : ℕ) (noted : List Noted) (t : Terminal) → Known seen goals count noted → next goals (spot_at noted count) (sort_of t.kind) ≡ None
    → Begins (seen ++ t ∷ []) → ⊥
stops seen goals count noted t k e b =
    stopped_run goals count noted t b.0 (put 0 (item_list_marks b.2) []) e
    (sym (k.runs (t ∷ b.0)) ∙ ap (λ x. run x (G.Items ∷ []) 0 []) (sym (append_assoc seen (t ∷ []) b.0)) ∙ items_run b.2 0 [])

unfinished : (b : Bool) (noted end : List Noted) → b ≡ false → (if b then Some noted else None) ≡ Some end → ⊥
unfinished true noted end e f = cc
unfinished false noted end e f = cc

pub no_program : (seen : List Terminal) (goals : List Goal) (count : ℕ) (noted : List Noted) → Known seen goals count noted → all_optional goals ≡ false → (items : List ItemTree) → DerivesItems seen items → ⊥
no_program seen goals count noted k e items d =
    unfinished (all_optional goals) noted (put 0 (item_list_marks d) []) e
    (sym (k.runs []) ∙ ap (λ x. run x (G.Items ∷ []) 0 []) (append-nil seen) ∙ items_run d 0 [])

-- ---- tokens beyond the limits

-- what is noted of a token, and its mark in a program
mark_is : (seen others : List Terminal) (items : List ItemTree) (d : DerivesItems (seen ++ others) items) (i : ℕ) (front old : List Noted) → put 0 (item_list_marks d) [] ≡ front ++ old → i < length old
    → is_beyond (entry old i) ≡ exceeds (mark_at (item_list_marks d) i)
mark_is seen others items d i front old e below =
    let ms = item_list_marks d in
    let long : i < length ms = let p = put_length 0 ms [] in let q = ap length e in let r = length-append front old in omega (arith, p, q, r, below) in
    sym (ap is_beyond (entry-append front old i below)) ∙ sym (ap (λ x. is_beyond (entry x i)) e) ∙ ap is_beyond (put_entry ms i long) ∙ beyond_exceeds (mark_at ms i)

pub beyond : (seen : List Terminal) (goals : List Goal) (count : ℕ) (noted : List Noted) (i : ℕ) → Known seen goals count noted → i < length noted → is_beyond (entry noted i) ≡ true → IsBeyond seen i
beyond seen goals count noted i k below e others items d =
    let x = run_extends others goals count noted (put 0 (item_list_marks d) []) (sym (k.runs others) ∙ items_run d 0 []) in
    sym (mark_is seen others items d i x.front x.old x.shape (let l = grown_length x.grown in omega (arith, l, below))) ∙ grown_beyond x.grown i e

pub not_beyond : (seen : List Terminal) (goals : List Goal) (count : ℕ) (noted : List Noted) (i : ℕ) → Known seen goals count noted → i < length noted → is_beyond (entry noted i) ≡ false → IsBeyond seen i → ⊥
not_beyond seen goals count noted i k below e all =
    let w = completion goals in let p = k.stands w (reads_completion goals) in
    let x = tame_run w (tame_completion goals) goals count noted (put 0 (item_list_marks p.1) []) (sym (k.runs w) ∙ items_run p.1 0 []) in
    let h : true ≡ false = sym (all w p.0 p.1) ∙ sym (mark_is seen w p.0 p.1 i x.0 noted x.1 below) ∙ e in cc

pub none_beyond : (seen : List Terminal) (goals : List Goal) (count : ℕ) (noted : List Noted) (n : ℕ) → Known seen goals count noted → n ≤ length noted → ((i : ℕ) → i < n → is_beyond (entry noted i) ≡ false)
    → NoneBeyond seen n
none_beyond seen goals count noted n k le f i below = not_beyond seen goals count noted i k (omega (arith, le, below)) (f i below)

-- the same of what the code shows
pub record Shown (nestings : List ℕ) (b : Bool) (noted : List Noted) : Type 0 where
  pub within : (i : ℕ) → i < length nestings → is_beyond (entry noted i) ≡ false
  pub all : b ≡ false → length nestings ≡ length noted
  pub first : b ≡ true → is_beyond (entry noted (length nestings)) ≡ true
  pub inside : b ≡ true → length nestings < length noted

pub shown_by : (nestings : List ℕ) (b : Bool) (noted : List Noted) → Shows nestings b (thins noted) → Shown nestings b noted
shown_by nestings b noted s = record {
  within = λ i below. ap shown.is_beyond (sym (thins_entry noted i) ∙ s.here i below) ∙ ap (λ x. x || false) (le-ltb 64 (get_or nestings i 0) (s.within_limit i below));
  all = λ e. s.all e ∙ thins_length noted;
  first = λ e. sym (ap shown.is_beyond (thins_entry noted (length nestings))) ∙ s.first e;
  inside = λ e. let h = s.inside e in let l = thins_length noted in omega (arith, h, l);
}

pub shown_same : {nestings : List ℕ} {b : Bool} {ms ns : List shown.Noted} → ms ≡ ns → Shows nestings b ns → Shows nestings b ms
shown_same {nestings} {b} e s = subst (Shows nestings b) (sym e) s

-- ---- the constructs that are open where the tokens end

all_open : (goals : List Goal) → all_optional goals ≡ true → first_open goals ≡ 0
all_open [] e = refl
all_open (goal ∷ goals) e = branch (is_optional goal) e (all_open goals)
  where
    branch : (c : Bool) → (if c then all_optional goals else false) ≡ true → (all_optional goals ≡ true → first_open goals ≡ 0) → (if c then first_open goals else open_before goal) ≡ 0
    branch true e rest = rest e
    branch false e rest = absurd cc

-- what is read next has as many open before it as the first goal that must be taken, or more
open_reached : (others : List Terminal) (goals : List Goal) (count : ℕ) (noted end : List Noted) → AllFit bottom goals → 0 < first_open goals → run others goals count noted ≡ Some end
    → (length noted < length end) × (first_open goals ≤ (entry end (length noted)).open_before)
open_reached [] goals count noted end f some e = last (all_optional goals) refl e
  where
    last : (b : Bool) → all_optional goals ≡ b → (if b then Some noted else None) ≡ Some end → (length noted < length end) × (first_open goals ≤ (entry end (length noted)).open_before)
    last true all e = absurd (let h = all_open goals all in omega (arith, h, some))
    last false all e = absurd cc
open_reached (t ∷ ts) goals count noted end f some e = reached (next goals (spot_at noted count) (sort_of t.kind)) refl e
  where
    reached : (found : Option Step) → next goals (spot_at noted count) (sort_of t.kind) ≡ found → going found noted (run ts) ≡ Some end
        → (length noted < length end) × (first_open goals ≤ (entry end (length noted)).open_before)
    reached None h e = absurd cc
    reached (Some step) h e =
        let n = length noted in
        let x = run_extends ts step.goals step.how.count (note step ∷ raised step.how.raise noted) end e in
        let same : n ≡ length (raised step.how.raise noted) = grown_length (raised_grown step.how.raise noted) in
        let long = grown_length x.grown in
        let whole = ap length x.shape ∙ length-append x.front x.old in
        let below : n < length x.old = omega (arith, same, long) in
        let less = (step_fits goals (spot_at noted count) (sort_of t.kind) step f h).0 in
        let more = grown_open x.grown n in
        let here : (entry (note step ∷ raised step.how.raise noted) n).open_before ≡ step.open_before = ap (λ m. m.open_before) (last_entry (note step) (raised step.how.raise noted) n same) in
        let there : (entry end n).open_before ≡ (entry x.old n).open_before = ap (λ m. m.open_before) (ap (λ y. entry y n) x.shape ∙ entry-append x.front x.old n below) in
        (omega (arith, below, whole), omega (arith, less, more, here, there))

-- too many are open where too many are open before that goal
pub full : (seen : List Terminal) (goals : List Goal) (count : ℕ) (noted : List Noted) → Known seen goals count noted → nesting_limit < first_open goals → IsFull seen
full seen goals count noted k more others items d =
    let ms = item_list_marks d in let n = length noted in
    let x = open_reached others goals count noted (put 0 ms []) k.layered (omega (arith, more)) (sym (k.runs others) ∙ items_run d 0 []) in
    let long : n < length ms = let p = put_length 0 ms [] in let q = x.0 in omega (arith, p, q) in
    let entered : (entry (put 0 ms []) n).open_before ≡ _ = ap (λ m. m.open_before) (put_entry ms n long) in
    let below = open_below (mark_at ms n) in
    let le = x.1 in
    subst (λ i. nesting_limit < (mark_at ms i).open_before) k.long (omega (arith, more, le, entered, below))

mark_past : (ms : List Mark) (i : ℕ) → length ms ≤ i → mark_at ms i ≡ plain
mark_past [] i le = refl
mark_past (m ∷ ms) zero le = absurd (omega (arith, le))
mark_past (m ∷ ms) (suc i) le = mark_past ms i (omega (arith, le))

some_is : (noted end : List Noted) → Some noted ≡ Some end → noted ≡ end
some_is noted end e = cc

-- the shortest completion has no more open there
shortest_open : (seen : List Terminal) (goals : List Goal) (count : ℕ) (noted : List Noted) → Known seen goals count noted → first_open goals ≤ nesting_limit
    → (items : List ItemTree) (d : DerivesItems (seen ++ completion goals) items) → (mark_at (item_list_marks d) (length noted)).open_before ≤ nesting_limit
shortest_open seen goals count noted k le items d = branch (all_optional goals) refl
  where
    reads : run (completion goals) goals count noted ≡ Some (put 0 (item_list_marks d) [])
    reads = sym (k.runs (completion goals)) ∙ items_run d 0 []

    branch : (b : Bool) → all_optional goals ≡ b → (mark_at (item_list_marks d) (length noted)).open_before ≤ nesting_limit
    branch true all =
        let ms = item_list_marks d in
        let e : Some noted ≡ Some (put 0 ms []) = sym (ap (λ x. run x goals count noted) (nothing_left goals all) ∙ ap (λ b. if b then Some noted else None) all) ∙ reads in
        let same = ap length (some_is noted (put 0 ms []) e) in let long = put_length 0 ms [] in
        let none : (mark_at ms (length noted)).open_before ≡ 0 = ap (λ m. m.open_before) (mark_past ms (length noted) (omega (arith, same, long))) in
        omega (arith, none)
    branch false some =
        let ms = item_list_marks d in let n = length noted in let spot = spot_at noted count in
        let b = stacks.begins goals spot k.layered some in
        let x = tame_first b.first b.rest (subst AllTame b.shape (tame_completion goals)) goals count noted (put 0 ms []) b.step b.takes (sym (ap (λ y. run y goals count noted) b.shape) ∙ reads) in
        let whole = ap length x.1 ∙ length-append x.0 (note b.step ∷ noted) in
        let long : n < length ms = let p = put_length 0 ms [] in omega (arith, p, whole) in
        let entered : (entry (put 0 ms []) n).open_before ≡ b.step.open_before =
        ap (λ m. m.open_before) (ap (λ y. entry y n) x.1 ∙ entry-append x.0 (note b.step ∷ noted) n (omega arith) ∙ last_entry (note b.step) noted n refl) in
        let marked : (entry (put 0 ms []) n).open_before ≡ _ = ap (λ m. m.open_before) (put_entry ms n long) in
        let opens = b.opens in
        open_exact (mark_at ms n) (omega (arith, entered, marked, opens, le))

pub not_full : (seen : List Terminal) (goals : List Goal) (count : ℕ) (noted : List Noted) → Known seen goals count noted → first_open goals ≤ nesting_limit → IsFull seen → ⊥
not_full seen goals count noted k le f =
    let w = completion goals in let p = k.stands w (reads_completion goals) in
    let more : nesting_limit < (mark_at (item_list_marks p.1) (length noted)).open_before = subst (λ i. nesting_limit < (mark_at (item_list_marks p.1) i).open_before) (sym k.long) (f w p.0 p.1) in
    let less = shortest_open seen goals count noted k le p.0 p.1 in
    omega (arith, more, less)

-- the rule where no program goes on
stop_rule : (seen : List Terminal) (goals : List Goal) (count : ℕ) (noted : List Noted) (t : Terminal) (rest : List Terminal) (end : Place) (r : Refusal) → Known seen goals count noted
    → r ≡ refusal (rule_at_stop (first_open goals) t.kind) t.at → AtStop seen (t ∷ rest) end r
stop_rule seen goals count noted t rest end r k e = branch (nat_lt nesting_limit (first_open goals)) refl e
  where
    branch : (b : Bool) → nat_lt nesting_limit (first_open goals) ≡ b → r ≡ refusal (if b then 32 else rule_of t.kind) t.at → AtStop seen (t ∷ rest) end r
    branch true h e = inl (full seen goals count noted k (ltb-true nesting_limit (first_open goals) h), e)
    branch false h e = inr (not_full seen goals count noted k (ltb-false nesting_limit (first_open goals) h), e)

-- ---- the fault

-- the first token that is beyond a limit
pub beyond_fault : (tokens : List Token) (j : ℕ) (goals : List Goal) (count : ℕ) (noted : List Noted) (nestings : List ℕ) (end place : Place) → j ≤ length tokens
    → Known (take j (terminals tokens)) goals count noted → Stops (take j (terminals tokens)) (drop j (terminals tokens)) → Shown nestings true noted
    → ((d : Token) → place ≡ (get_or tokens (length nestings) d).place) → Token → IsFaultOf (terminals tokens) end (refusal 32 place)
beyond_fault tokens j goals count noted nestings end place le k stop s at d =
    let ts = terminals tokens in let seen = take j ts in let i = length nestings in
    let all = length-map tokens terminal_of in
    let seen_long : length seen ≡ j = length-take-le j ts (omega (arith, le, all)) in
    let inside : i < length noted = s.inside refl in
    let below : i < length seen = let l = k.long in omega (arith, inside, l) in
    let t = get_or seen i (terminal_of d) in
    let token = get_or tokens i d in
    let same : t ≡ terminal_of token = get_or-take j ts i (terminal_of d) (omega (arith, below, seen_long)) ∙ get_or-map terminal_of tokens i d (terminal_of d) (omega (arith, below, seen_long, le)) in
    let before_long : length (take i seen) ≡ i = length-take-le i seen (omega (arith, below)) in
    beyond_limit seen (drop j ts) (take i seen) (drop (suc i) seen) t
    (record { split = sym (take-append-drop j ts); begins = begins seen goals count noted k; stops = stop })
    (sym (take-append-drop i seen) ∙ ap (λ x. take i seen ++ x) (drop-cons seen i (terminal_of d) below))
    (subst (IsBeyond seen) (sym before_long) (beyond seen goals count noted i k inside (s.first refl)))
    (subst (NoneBeyond seen) (sym before_long) (none_beyond seen goals count noted i k (omega (arith, inside)) (λ n b. s.within n b)))
    (ap (refusal 32) (at d ∙ sym (ap (λ x. x.at) same)))

-- where no program goes on
pub stop_fault : (tokens : List Token) (j : ℕ) (token : Token) (goals : List Goal) (count : ℕ) (noted : List Noted) (nestings : List ℕ) (end : Place) (r : Refusal) → j < length tokens → token ≡ get_or tokens j token
    → Known (take j (terminals tokens)) goals count noted → next goals (spot_at noted count) (sort_of token.kind) ≡ None → Shown nestings false noted
    → r ≡ refusal (rule_at_stop (first_open goals) token.kind) token.place → IsFaultOf (terminals tokens) end r
stop_fault tokens j token goals count noted nestings end r below is k e s h =
    let ts = terminals tokens in let seen = take j ts in let all = length-map tokens terminal_of in
    let t = terminal_of token in
    let tail : drop j ts ≡ t ∷ drop (suc j) ts = drop-cons ts j t (omega (arith, below, all)) ∙ ap (λ x. x ∷ drop (suc j) ts) (get_or-map terminal_of tokens j token t below ∙ ap terminal_of (sym is)) in
    at_stop seen (t ∷ drop (suc j) ts)
    (record { split = sym (take-append-drop j ts) ∙ ap (λ x. seen ++ x) tail; begins = begins seen goals count noted k; stops = stops seen goals count noted t k e })
    (none_beyond seen goals count noted (length seen) k (let l = k.long in omega (arith, l)) (λ n b. s.within n (let l = k.long in let m = s.all refl in omega (arith, b, l, m))))
    (stop_rule seen goals count noted t (drop (suc j) ts) end r k h)

-- the same list with its end
whole : (tokens : List Token) (j : ℕ) → length tokens ≤ j → take j (terminals tokens) ≡ terminals tokens
whole tokens j le = take_all j (terminals tokens) (let h = length-map tokens terminal_of in omega (arith, le, h))

pub end_beyond : (tokens : List Token) (j : ℕ) (goals : List Goal) (count : ℕ) (noted : List Noted) (nestings : List ℕ) (end place : Place) → length tokens ≤ j
    → Known (take j (terminals tokens)) goals count noted → Shown nestings true noted
    → ((d : Token) → place ≡ (get_or tokens (length nestings) d).place) → Token → IsFaultOf (terminals tokens) end (refusal 32 place)
end_beyond tokens j goals count noted nestings end place le k s at d =
    let n = length tokens in
    beyond_fault tokens n goals count noted nestings end place (omega arith)
    (subst (λ x. Known x goals count noted) (whole tokens j le ∙ sym (whole tokens n (omega arith))) k)
    (subst (Stops (take n (terminals tokens))) (sym (drop_all n (terminals tokens) (let h = length-map tokens terminal_of in omega (arith, h)))) tt) s at d

pub end_fault : (tokens : List Token) (j : ℕ) (goals : List Goal) (count : ℕ) (noted : List Noted) (nestings : List ℕ) (end : Place) → length tokens ≤ j
    → Known (take j (terminals tokens)) goals count noted → all_optional goals ≡ false → Shown nestings false noted → IsFaultOf (terminals tokens) end (refusal 6 end)
end_fault tokens j goals count noted nestings end le k e s =
    let ts = terminals tokens in let here = subst (λ x. Known x goals count noted) (whole tokens j le) k in
    at_stop ts [] (record { split = sym (append-nil ts); begins = begins ts goals count noted here; stops = tt })
    (none_beyond ts goals count noted (length ts) here (let l = here.long in omega (arith, l)) (λ n b. s.within n (let l = here.long in let m = s.all refl in omega (arith, b, l, m))))
    (no_program ts goals count noted here e, refl)

pub end_program : (tokens : List Token) (j : ℕ) (goals : List Goal) (count : ℕ) (noted : List Noted) (nestings : List ℕ) (end : Place) → length tokens ≤ j
    → Known (take j (terminals tokens)) goals count noted → all_optional goals ≡ true → Shown nestings false noted → (program : ProgramTree) × IsProgram (terminals tokens) end program
end_program tokens j goals count noted nestings end le k e s =
    let ts = terminals tokens in let here = subst (λ x. Known x goals count noted) (whole tokens j le) k in
    let items = here.stands [] (all_read_nothing goals e) in (
      record { items = items.0; end = end },
      (
        (subst (λ x. DerivesItems x items.0) (append-nil ts) items.1, refl),
        none_beyond ts goals count noted (length ts) here (let l = here.long in omega (arith, l)) (λ n b. s.within n (let l = here.long in let m = s.all refl in omega (arith, b, l, m))),
      ),
    )

-- ---- the loop over the tokens

index_is : (tokens : List Token) (i : ℕ) (goals : List Goal) (count : ℕ) (noted : List Noted) → i < length tokens → Known (take i (terminals tokens)) goals count noted → i ≡ length noted
index_is tokens i goals count noted below k =
    let l = k.long in let all = length-map tokens terminal_of in let t = length-take-le i (terminals tokens) (omega (arith, below, all)) in omega (arith, l, t)

pub taken_on : (tokens : List Token) (i : ℕ) (token : Token) (goals new : List Goal) (count : ℕ) (noted : List Noted) (sort : Sort) (advance : Advance) (how : Take) → i < length tokens
    → token ≡ get_or tokens i token → sort ≡ sort_of token.kind → Known (take i (terminals tokens)) goals count noted → advance ≡ a.Taken how
    → Advances advance goals new (record { index = i; count = count }) sort
    → (after : List Noted) × Known (take (i + 1) (terminals tokens)) new how.count after × (thins after ≡ shown.noting how (thins noted))
taken_on tokens i token goals new count noted sort advance how below is same k e f =
    let x : Advances (a.Taken how) goals new (record { index = i; count = count }) sort = subst (λ y. Advances y goals new (record { index = i; count = count }) sort) e f in
    let at : next goals (spot_at noted count) (sort_of token.kind) ≡ Some x.0 =
    ap (λ n. next goals (record { index = n; count = count }) (sort_of token.kind)) (sym (index_is tokens i goals count noted below k)) ∙ ap (next goals (record { index = i; count = count })) (sym same) ∙ x.1 in (
      noting how x.0.open_before noted,
      subst (λ y. Known y new how.count (noting how x.0.open_before noted)) (sym (take_more tokens i token below ∙ ap (λ y. take i (terminals tokens) ++ terminal_of y ∷ []) (sym is)))
          (known_next (take i (terminals tokens)) goals new count noted (terminal_of token) x.0 how k at x.2 x.3),
      thins_noting how x.0.open_before noted,
    )

pub stopped_on : (tokens : List Token) (i : ℕ) (token : Token) (goals new : List Goal) (count : ℕ) (noted : List Noted) (sort : Sort) (advance : Advance) (open_before : ℕ) → i < length tokens
    → sort ≡ sort_of token.kind → Known (take i (terminals tokens)) goals count noted → advance ≡ a.Stopped open_before
    → Advances advance goals new (record { index = i; count = count }) sort → next goals (spot_at noted count) (sort_of token.kind) ≡ None
stopped_on tokens i token goals new count noted sort advance open_before below same k e f =
    let x : Advances (a.Stopped open_before) goals new (record { index = i; count = count }) sort = subst (λ y. Advances y goals new (record { index = i; count = count }) sort) e f in
    ap (λ n. next goals (record { index = n; count = count }) (sort_of token.kind)) (sym (index_is tokens i goals count noted below k)) ∙ ap (next goals (record { index = i; count = count })) (sym same) ∙ x.0

pub stopped_open : (goals new : List Goal) (spot : Spot) (sort : Sort) (advance : Advance) (open_before : ℕ) → advance ≡ a.Stopped open_before → Advances advance goals new spot sort → open_before ≡ first_open goals
stopped_open goals new spot sort advance open_before e f = (subst (λ y. Advances y goals new spot sort) e f).1

-- a token beyond a limit before the one with which no program goes on
pub stopped_beyond : (tokens : List Token) (j : ℕ) (token : Token) (goals : List Goal) (count : ℕ) (noted : List Noted) (nestings : List ℕ) (b : Bool) (end place : Place) → j < length tokens → token ≡ get_or tokens j token
    → Known (take j (terminals tokens)) goals count noted → next goals (spot_at noted count) (sort_of token.kind) ≡ None → Shown nestings b noted → b ≡ true
    → ((d : Token) → place ≡ (get_or tokens (length nestings) d).place) → IsFaultOf (terminals tokens) end (refusal 32 place)
stopped_beyond tokens j token goals count noted nestings b end place below is k e s bad at =
    let ts = terminals tokens in let all = length-map tokens terminal_of in let t = terminal_of token in
    let tail : drop j ts ≡ t ∷ drop (suc j) ts = drop-cons ts j t (omega (arith, below, all)) ∙ ap (λ x. x ∷ drop (suc j) ts) (get_or-map terminal_of tokens j token t below ∙ ap terminal_of (sym is)) in
    beyond_fault tokens j goals count noted nestings end place (omega (arith, below)) k
    (subst (Stops (take j ts)) (sym tail) (stops (take j ts) goals count noted t k e)) (subst (λ x. Shown nestings x noted) bad s) at token

-- where the tokens that are shown stand
pub shown_inside : (tokens : List Token) (j : ℕ) (goals : List Goal) (count : ℕ) (noted : List Noted) (nestings : List ℕ) (b : Bool) → Known (take j (terminals tokens)) goals count noted → Shown nestings b noted
    → b ≡ true → length nestings < length tokens
shown_inside tokens j goals count noted nestings b k s bad =
    let h = s.inside bad in let l = k.long in let all = length-map tokens terminal_of in let t = length-take j (terminals tokens) in omega (arith, h, l, all, t)

pub ended_beyond : (tokens : List Token) (j : ℕ) (goals : List Goal) (count : ℕ) (noted : List Noted) (nestings : List ℕ) (b : Bool) (end place : Place) → length tokens ≤ j
    → Known (take j (terminals tokens)) goals count noted → Shown nestings b noted → b ≡ true
    → ((d : Token) → place ≡ (get_or tokens (length nestings) d).place) → IsFaultOf (terminals tokens) end (refusal 32 place)
ended_beyond [] j goals count noted nestings b end place le k s bad at = absurd (let h = shown_inside [] j goals count noted nestings b k s bad in omega (arith, h))
ended_beyond (token ∷ tokens) j goals count noted nestings b end place le k s bad at =
    end_beyond (token ∷ tokens) j goals count noted nestings end place le k (subst (λ x. Shown nestings x noted) bad s) at token
