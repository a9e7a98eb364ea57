-- What is under way in a chain, in the order in which it comes out: the last queue first, then the result that the last stage holds, and so on back to the entry. A cycle moves it on and changes nothing of it.
use Rattle.std.proofs.Common.{◌≡◌, ℕ, suc, zero, ◌-◌, Bool, true, false, not, ◌&&◌, ◌||◌, cond, List, [], ◌∷◌, ◌++◌, map, length, Option, Some, None, refl, sym, ap, ◌∙◌, append_assoc}
use Rattle.std.specs.Prelude.{unwrap_or}
use Rattle.std.specs.Option.{option_and_then}
use Rattle.std.proofs.lemmas.List.{append-nil, map-append}
use Rattle.hls_base.specs.FileScope.{FileScope}
use Rattle.rtl_core.specs.Box.{Answer, Ended, Undefined, Endless, Phase, Init, Idle, Busy, Done, Forever, Broken, Box, StepIn, initial, entered, waited}
use Rattle.chain_box.specs.StageBoxes.{StageBox, answers_of, interface_of, stage_pins, is_ready, is_done, given_result, ComesTo, answer_value}
use Rattle.chain_box.specs.Chains.{Link, Chain, Pins, Outs, is_some_item, first, has_room, gives, starts, taken, popped, pushed, fresh_after, LinkStep, LinksStep, ChainStep, last, chain_outs, begun_link, begun, ChainRuns, item_if, put_in, taken_out, items_in, items_out, ComeTo, composed}

abbrev pub Results : Type 0
Results = List (ℕ → Option ℕ)

abbrev pub stages_of : List Link → List StageBox
stages_of ls = map (λ (l : Link). l.stage) ls

abbrev pub wrapped : List ℕ → List (Option ℕ)
wrapped xs = map (λ (x : ℕ). Some x) xs

-- what the stages make of a result that may not be there
abbrev pub through : Results → Option ℕ → Option ℕ
through rs o = option_and_then (composed rs) o

-- the result that a run comes to, if it has one
abbrev pub result_of : Phase → Option ℕ
result_of (Init cycles) = None
result_of Idle = None
result_of (Busy cycles result arrays file_scope) = Some (unwrap_or result 0)
result_of (Done result) = Some (unwrap_or result 0)
result_of Forever = None
result_of Broken = None

-- the result that a stage has not given yet
abbrev pub held : Bool → Phase → List (Option ℕ)
held fresh phase = cond fresh (result_of phase ∷ []) []

-- what comes out of a queue and the stages behind it
abbrev pub pending : Results → List ℕ → List Link → List (Option ℕ)
pending rs front [] = map (composed []) front
pending [] front (l ∷ ls) = []
pending (f ∷ rs) front (l ∷ ls) = pending rs l.queue ls ++ (map (through rs) (held l.fresh l.box.phase) ++ map (composed (f ∷ rs)) front)

-- ---- one stage

initial_result : (k : ℕ) → result_of (initial k) ≡ None
initial_result zero = refl
initial_result (suc k) = refl

entered_result : (b : Box) (a : Answer) → result_of (entered b a).phase ≡ answer_value a
entered_result b (Ended cycles result arrays file_scope) = refl
entered_result b Undefined = refl
entered_result b Endless = refl

waited_result : (b : Box) (k : ℕ) (r : Option ℕ) (arrays : List (List ℕ)) (file_scope : FileScope) → result_of (waited b k r arrays file_scope).phase ≡ Some (unwrap_or r 0)
waited_result b zero r arrays file_scope = refl
waited_result b (suc zero) r arrays file_scope = refl
waited_result b (suc (suc k)) r arrays file_scope = refl

abbrev gave : Phase → Bool → Bool → Bool
gave phase fresh room = is_done phase && (fresh && room)

abbrev started : Phase → Bool → Bool → List ℕ → Bool
started phase fresh room front = is_ready phase && ((not fresh || gave phase fresh room) && is_some_item front)

-- what the stage holds and the queue before it, where the box was in one phase and is in another
abbrev MovesOn : (ℕ → Option ℕ) → Phase → Phase → Bool → Bool → List ℕ → Type 0
MovesOn f old new fresh room front =
    wrapped (item_if (gave old fresh room) (given_result old))
    ++ (held (fresh_after (started old fresh room front) (gave old fresh room) fresh) new
    ++ map f (popped (started old fresh room front) front))
    ≡ held fresh old ++ map f front

abbrev in_this : Box → Phase → Box
in_this b phase = record { phase = phase; arrays = b.arrays; file_scope = b.file_scope; shown = b.shown }

-- where a result is held, it stays the same
keeps_held : (f : ℕ → Option ℕ) (fresh : Bool) (old new : Phase) (front : List ℕ) → result_of new ≡ result_of old → held fresh new ++ map f front ≡ held fresh old ++ map f front
keeps_held f true old new front e = ap (λ o. o ∷ map f front) e
keeps_held f false old new front e = refl

fresh_same : (b : Bool) → fresh_after false false b ≡ b
fresh_same true = refl
fresh_same false = refl

module _ (s : StageBox) (f : ℕ → Option ℕ) (comes : ComesTo s f) (b c : Box) where
  abbrev Steps : Phase → Bool → Bool → List ℕ → Type 0
  Steps p fresh room front = StepIn p (interface_of s) (answers_of s.answers) (in_this b p) (stage_pins (started p fresh room front) (first front)) c

  -- neither a start nor a gift
  waits : (p : Phase) (fresh : Bool) (front : List ℕ) → result_of c.phase ≡ result_of p
      → wrapped (item_if false (given_result p)) ++ (held (fresh_after false false fresh) c.phase ++ map f (popped false front)) ≡ held fresh p ++ map f front
  waits p fresh front e = ap (λ z. held z c.phase ++ map f front) (fresh_same fresh) ∙ keeps_held f fresh p c.phase front e

  -- a start with an item
  enters : (p : Phase) (x : ℕ) (xs : List ℕ) → (answer : Answer) × answers_of s.answers (in_this b p).file_scope (x ∷ []) (in_this b p).arrays answer × (c ≡ entered (in_this b p) answer)
      → result_of c.phase ≡ f x
  enters p x xs t = ap (λ (y : Box). result_of y.phase) t.2 ∙ (entered_result (in_this b p) t.0 ∙ comes (in_this b p).file_scope x (in_this b p).arrays t.0 t.1)

  moves_on : (p : Phase) (fresh room : Bool) (front : List ℕ) → Steps p fresh room front → MovesOn f p c.phase fresh room front
  moves_on (Init k) fresh room front h = waits (Init k) fresh front (ap (λ (y : Box). result_of y.phase) h ∙ initial_result (k - 1))
  moves_on Idle true room [] h = ap (λ (y : Box). result_of y.phase ∷ []) (h.kept (λ e. (cc)))
  moves_on Idle true room (x ∷ xs) h = ap (λ (y : Box). result_of y.phase ∷ map f (x ∷ xs)) (h.kept (λ e. (cc)))
  moves_on Idle false room [] h = refl
  moves_on Idle false room (x ∷ xs) h = ap (λ o. o ∷ map f xs) (enters Idle x xs (h.taken refl))
  moves_on (Busy k r arrays file_scope) fresh room front h =
      waits (Busy k r arrays file_scope) fresh front (ap (λ (y : Box). result_of y.phase) h ∙ waited_result (in_this b (Busy k r arrays file_scope)) k r arrays file_scope)
  moves_on (Done r) true true [] h = refl
  moves_on (Done r) true true (x ∷ xs) h = ap (λ o. Some (unwrap_or r 0) ∷ (o ∷ map f xs)) (enters (Done r) x xs (h.taken refl))
  moves_on (Done r) true false [] h = ap (λ (y : Box). result_of y.phase ∷ []) (h.kept (λ e. (cc)))
  moves_on (Done r) true false (x ∷ xs) h = ap (λ (y : Box). result_of y.phase ∷ map f (x ∷ xs)) (h.kept (λ e. (cc)))
  moves_on (Done r) false room [] h = refl
  moves_on (Done r) false room (x ∷ xs) h = ap (λ o. o ∷ map f xs) (enters (Done r) x xs (h.taken refl))
  moves_on Forever fresh room front h = waits Forever fresh front (ap (λ (y : Box). result_of y.phase) h)
  moves_on Broken fresh room front h = waits Broken fresh front (ap (λ (y : Box). result_of y.phase) h)

-- ---- the whole chain

map_through : (rs : Results) (f : ℕ → Option ℕ) (xs : List ℕ) → map (through rs) (map f xs) ≡ map (composed (f ∷ rs)) xs
map_through rs f [] = refl
map_through rs f (x ∷ xs) = ap (λ l. composed (f ∷ rs) x ∷ l) (map_through rs f xs)

map_wrapped : (rs : Results) (xs : List ℕ) → map (through rs) (wrapped xs) ≡ map (composed rs) xs
map_wrapped rs [] = refl
map_wrapped rs (x ∷ xs) = ap (λ l. composed rs x ∷ l) (map_wrapped rs xs)

three : (g : Option ℕ → Option ℕ) (a b c : List (Option ℕ)) → map g (a ++ (b ++ c)) ≡ map g a ++ (map g b ++ map g c)
three g a b c = map-append g a (b ++ c) ∙ ap (λ l. map g a ++ l) (map-append g b c)

-- the same, as it comes out at the end
stage_moves : (depth : ℕ) (rs : Results) (f : ℕ → Option ℕ) (front : List ℕ) (take : Bool) (l m : Link) → ComesTo l.stage f → LinkStep depth front take l m
    → map (composed rs) (item_if (gives depth l) (given_result l.box.phase)) ++ (map (through rs) (held m.fresh m.box.phase) ++ map (composed (f ∷ rs)) (popped (starts depth front l) front))
    ≡ map (through rs) (held l.fresh l.box.phase) ++ map (composed (f ∷ rs)) front
stage_moves depth rs f front take l m comes step =
    let given = item_if (gives depth l) (given_result l.box.phase) in
    let here = held m.fresh m.box.phase in
    let left = popped (starts depth front l) front in
    let moved : wrapped given ++ (here ++ map f left) ≡ held l.fresh l.box.phase ++ map f front =
    ap (λ z. wrapped given ++ (held z m.box.phase ++ map f left)) step.fresh ∙ moves_on l.stage f comes l.box m.box l.box.phase l.fresh (has_room depth l.queue) front step.box in
    ap (λ z. z ++ (map (through rs) here ++ map (composed (f ∷ rs)) left)) (sym (map_wrapped rs given))
    ∙ (ap (λ z. map (through rs) (wrapped given) ++ (map (through rs) here ++ z)) (sym (map_through rs f left))
    ∙ (sym (three (through rs) (wrapped given) here (map f left))
    ∙ (ap (map (through rs)) moved
    ∙ (map-append (through rs) (held l.fresh l.box.phase) (map f front)
    ∙ ap (λ z. map (through rs) (held l.fresh l.box.phase) ++ z) (map_through rs f front)))))

-- the stages stay the same
come_later : (depth : ℕ) (take : Bool) (front : List ℕ) (ls ms : List Link) (rs : Results) → LinksStep depth take front ls ms → ComeTo (stages_of ls) rs → ComeTo (stages_of ms) rs
come_later depth take front [] [] rs step h = h
come_later depth take front [] (m ∷ ms) rs step h = absurd step
come_later depth take front (l ∷ ls) [] rs step h = absurd step
come_later depth take front (l ∷ ls) (m ∷ ms) [] step h = absurd h
come_later depth take front (l ∷ ls) (m ∷ ms) (f ∷ rs) step h =
    (Rattle.std.proofs.Common.subst (λ (s : StageBox). ComesTo s f) (sym step.0.stage) h.0, come_later depth take l.queue ls ms rs step.1 h.1)

-- items at the end of a queue come last
pending_append : (rs : Results) (front xs : List ℕ) (ls : List Link) → ComeTo (stages_of ls) rs → pending rs (front ++ xs) ls ≡ pending rs front ls ++ map (composed rs) xs
pending_append [] front xs [] h = map-append (composed []) front xs
pending_append (f ∷ rs) front xs [] h = absurd h
pending_append [] front xs (l ∷ ls) h = absurd h
pending_append (f ∷ rs) front xs (l ∷ ls) h =
    let before = pending rs l.queue ls in
    let here = map (through rs) (held l.fresh l.box.phase) in
    let c = composed (f ∷ rs) in
    ap (λ z. before ++ (here ++ z)) (map-append c front xs)
    ∙ (ap (λ z. before ++ z) (sym (append_assoc here (map c front) (map c xs))) ∙ sym (append_assoc before (here ++ map c front) (map c xs)))

pushed_as : (b : Bool) (x : ℕ) (q : List ℕ) → pushed b x q ≡ q ++ item_if b x
pushed_as true x q = refl
pushed_as false x q = sym (append-nil q)

pending_pushed : (rs : Results) (b : Bool) (x : ℕ) (q : List ℕ) (ls : List Link) → ComeTo (stages_of ls) rs → pending rs (pushed b x q) ls ≡ pending rs q ls ++ map (composed rs) (item_if b x)
pending_pushed rs b x q ls h = ap (λ z. pending rs z ls) (pushed_as b x q) ∙ pending_append rs q (item_if b x) ls h

-- what is taken out in a cycle
abbrev removed : Bool → List ℕ → List Link → List ℕ
removed take front ls = item_if (take && is_some_item (last front ls)) (first (last front ls))

last_moves : (take : Bool) (front : List ℕ) → wrapped (item_if (take && is_some_item front) (first front)) ++ map (composed []) (popped (take && is_some_item front) front) ≡ map (composed []) front
last_moves true [] = refl
last_moves true (x ∷ xs) = refl
last_moves false front = refl

four : (a b c d e : List (Option ℕ)) → a ++ ((b ++ c) ++ (d ++ e)) ≡ (a ++ b) ++ (c ++ (d ++ e))
four a b c d e = ap (λ z. a ++ z) (append_assoc b c (d ++ e)) ∙ sym (append_assoc a b (c ++ (d ++ e)))

cycle_moves : (depth : ℕ) (take : Bool) (front : List ℕ) (ls ms : List Link) (rs : Results) → ComeTo (stages_of ls) rs → LinksStep depth take front ls ms
    → wrapped (removed take front ls) ++ pending rs (popped (taken depth take front ls) front) ms ≡ pending rs front ls
cycle_moves depth take front [] [] [] h step = last_moves take front
cycle_moves depth take front [] [] (f ∷ rs) h step = absurd h
cycle_moves depth take front [] (m ∷ ms) rs h step = absurd step
cycle_moves depth take front (l ∷ ls) [] rs h step = absurd step
cycle_moves depth take front (l ∷ ls) (m ∷ ms) [] h step = absurd h
cycle_moves depth take front (l ∷ ls) (m ∷ ms) (f ∷ rs) h step =
    let t = taken depth take l.queue ls in
    let out = wrapped (removed take front (l ∷ ls)) in
    let g = gives depth l in
    let left = map (composed (f ∷ rs)) (popped (starts depth front l) front) in
    let given = map (composed rs) (item_if g (given_result l.box.phase)) in
    let here = map (through rs) (held m.fresh m.box.phase) in
    let rest = popped t l.queue in
    let later = come_later depth take l.queue ls ms rs step.1 h.1 in
    ap (λ z. out ++ (pending rs z ms ++ (here ++ left))) step.0.queue
    ∙ (ap (λ z. out ++ (z ++ (here ++ left))) (pending_pushed rs g (given_result l.box.phase) rest ms later)
    ∙ (four out (pending rs rest ms) given here left
    ∙ (ap (λ z. z ++ (given ++ (here ++ left))) (cycle_moves depth take l.queue ls ms rs h.1 step.1)
    ∙ ap (λ z. pending rs l.queue ls ++ z) (stage_moves depth rs f front t l m h.0 step.0))))

-- a cycle with what is put in
abbrev coming : Results → Chain → List (Option ℕ)
coming rs c = pending rs c.entry c.links

chain_moves : (depth : ℕ) (p : Pins) (c d : Chain) (rs : Results) → ComeTo (stages_of c.links) rs → ChainStep depth p c d
    → wrapped (taken_out p (chain_outs depth c)) ++ coming rs d ≡ coming rs c ++ map (composed rs) (put_in p (chain_outs depth c))
chain_moves depth p c d rs h step =
    let left = popped (taken depth p.out_take c.entry c.links) c.entry in
    let out = wrapped (removed p.out_take c.entry c.links) in
    let b = p.in_valid && has_room depth c.entry in
    ap (λ z. out ++ pending rs z d.links) step.entry
    ∙ (ap (λ z. out ++ z) (pending_pushed rs b p.in_data left d.links (come_later depth p.out_take c.entry c.links d.links rs step.links h))
    ∙ (sym (append_assoc out (pending rs left d.links) (map (composed rs) (item_if b p.in_data)))
    ∙ ap (λ z. z ++ map (composed rs) (item_if b p.in_data)) (cycle_moves depth p.out_take c.entry c.links d.links rs h step.links)))

run_moves : (depth : ℕ) (c : Chain) (ps : List Pins) (os : List Outs) (rs : Results) → ComeTo (stages_of c.links) rs → ChainRuns depth c ps os
    → (later : List (Option ℕ)) × (wrapped (items_out ps os) ++ later ≡ coming rs c ++ map (composed rs) (items_in ps os))
run_moves depth c [] [] rs h run = (coming rs c, sym (append-nil (coming rs c)))
run_moves depth c [] (o ∷ os) rs h run = absurd run
run_moves depth c (p ∷ ps) [] rs h run = absurd run
run_moves depth c (p ∷ ps) (o ∷ os) rs h run =
    let d = run.1.0 in
    let step = run.1.1 in
    let on = run_moves depth d ps os rs (come_later depth p.out_take c.entry c.links d.links rs step.links h) run.1.2 in
    let t = taken_out p (chain_outs depth c) in
    let later = items_out ps os in
    let put = put_in p (chain_outs depth c) in
    let more = items_in ps os in
    let f = composed rs in (
      on.0,
      ap (λ z. wrapped (taken_out p z ++ later) ++ on.0) run.0
          ∙ (ap (λ z. z ++ on.0) (map-append (λ (x : ℕ). Some x) t later)
          ∙ (append_assoc (wrapped t) (wrapped later) on.0
          ∙ (ap (λ z. wrapped t ++ z) on.1
          ∙ (sym (append_assoc (wrapped t) (coming rs d) (map f more))
          ∙ (ap (λ z. z ++ map f more) (chain_moves depth p c d rs h step)
          ∙ (append_assoc (coming rs c) (map f put) (map f more)
          ∙ (ap (λ z. coming rs c ++ z) (sym (map-append f put more)) ∙ ap (λ z. coming rs c ++ map f (put_in p z ++ more)) (sym run.0)))))))),
    )

begun_pending : (stages : List StageBox) (rs : Results) → ComeTo stages rs → pending rs [] (map begun_link stages) ≡ []
begun_pending [] [] h = refl
begun_pending [] (f ∷ rs) h = absurd h
begun_pending (b ∷ stages) [] h = absurd h
begun_pending (b ∷ stages) (f ∷ rs) h = ap (λ z. z ++ []) (begun_pending stages rs h.1)

begun_come : (stages : List StageBox) (rs : Results) → ComeTo stages rs → ComeTo (stages_of (map begun_link stages)) rs
begun_come [] rs h = h
begun_come (b ∷ stages) [] h = absurd h
begun_come (b ∷ stages) (f ∷ rs) h = (h.0, begun_come stages rs h.1)

pub composes : (depth : ℕ) (stages : List StageBox) (rs : Results) (ps : List Pins) (os : List Outs) → ComeTo stages rs → ChainRuns depth (begun stages) ps os
    → (rest : List (Option ℕ)) × (wrapped (items_out ps os) ++ rest ≡ map (composed rs) (items_in ps os))
composes depth stages rs ps os h run =
    let moved = run_moves depth (begun stages) ps os rs (begun_come stages rs h) run in
    (moved.0, moved.1 ∙ ap (λ z. z ++ map (composed rs) (items_in ps os)) (begun_pending stages rs h))
