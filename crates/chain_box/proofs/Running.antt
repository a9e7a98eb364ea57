-- Where each start has one answer, a chain has one run, which computes.
use Rattle.std.proofs.Common.{◌≡◌, ℕ, ◌-◌, Bool, true, false, ◌&&◌, cond, List, [], ◌∷◌, Some, refl, sym, ap, ◌∙◌, subst}
use Rattle.std.specs.Prelude.{unwrap_or}
use Rattle.std.proofs.lemmas.Option.{same_Some}
use Rattle.hls_base.specs.FileScope.{FileScope}
use Rattle.rtl_core.specs.Box.{Answer, Endless, Phase, Init, Idle, Busy, Done, Forever, Broken, Box, StepIn, Waits, initial, entered, waited, in_phase}
use Rattle.chain_box.specs.StageBoxes.{StageBox, answers_of, interface_of, stage_pins, given_result}
use Rattle.chain_box.specs.Chains.{Link, Chain, Pins, Outs, first, has_room, gives, starts, taken, popped, pushed, fresh_after, LinkStep, LinksStep, ChainStep, chain_outs, ChainRuns}

-- the first answer to a start
abbrev pub sole : StageBox → FileScope → ℕ → List (List ℕ) → Answer
sole s file_scope x arrays = unwrap_or (s.answers file_scope (x ∷ []) arrays 0) Endless

-- each number gives it
abbrev pub IsSole : StageBox → Type 0
IsSole s = (file_scope : FileScope) (x : ℕ) (arrays : List (List ℕ)) (n : ℕ) → s.answers file_scope (x ∷ []) arrays n ≡ Some (sole s file_scope x arrays)

abbrev pub AreSole : List Link → Type 0
AreSole [] = Unit {0}
AreSole (l ∷ ls) = IsSole l.stage × AreSole ls

abbrev waiting_next : StageBox → Box → Bool → ℕ → Box
waiting_next s b start x = cond start (entered b (sole s b.file_scope x b.arrays)) (in_phase b b.phase)

abbrev next_in : Phase → StageBox → Box → Bool → ℕ → Box
next_in (Init cycles) s b start x = in_phase b (initial (cycles - 1))
next_in Idle s b start x = waiting_next s b start x
next_in (Busy cycles result arrays file_scope) s b start x = waited b cycles result arrays file_scope
next_in (Done result) s b start x = waiting_next s b start x
next_in Forever s b start x = in_phase b Forever
next_in Broken s b start x = in_phase b Broken

waits_as : (s : StageBox) → IsSole s → (b c : Box) (start : Bool) (x : ℕ) → Waits (interface_of s) (answers_of s.answers) b (stage_pins start x) c → c ≡ waiting_next s b start x
waits_as s one b c true x h =
    let t = h.taken refl in t.2 ∙ ap (entered b) (same_Some _ _ (sym t.1.1 ∙ one b.file_scope x b.arrays t.1.0))
waits_as s one b c false x h = h.kept (λ e. (cc))

goes_as : (s : StageBox) → IsSole s → (p : Phase) (b c : Box) (start : Bool) (x : ℕ) → StepIn p (interface_of s) (answers_of s.answers) b (stage_pins start x) c → c ≡ next_in p s b start x
goes_as s one (Init cycles) b c start x h = h
goes_as s one Idle b c start x h = waits_as s one b c start x h
goes_as s one (Busy cycles result arrays file_scope) b c start x h = h
goes_as s one (Done result) b c start x h = waits_as s one b c start x h
goes_as s one Forever b c start x h = h
goes_as s one Broken b c start x h = h

waits_so : (s : StageBox) → IsSole s → (b : Box) (start : Bool) (x : ℕ) → Waits (interface_of s) (answers_of s.answers) b (stage_pins start x) (waiting_next s b start x)
waits_so s one b true x = record { taken = λ e. (sole s b.file_scope x b.arrays, (0, one b.file_scope x b.arrays 0), refl); kept = λ e. absurd (e refl) }
waits_so s one b false x = record { taken = λ e. absurd (cc); kept = λ e. refl }

goes_so : (s : StageBox) → IsSole s → (p : Phase) (b : Box) (start : Bool) (x : ℕ) → StepIn p (interface_of s) (answers_of s.answers) b (stage_pins start x) (next_in p s b start x)
goes_so s one (Init cycles) b start x = refl
goes_so s one Idle b start x = waits_so s one b start x
goes_so s one (Busy cycles result arrays file_scope) b start x = refl
goes_so s one (Done result) b start x = waits_so s one b start x
goes_so s one Forever b start x = refl
goes_so s one Broken b start x = refl

-- ---- chains

abbrev link_next : ℕ → List ℕ → Bool → Link → Link
link_next depth front take l = record {
  stage = l.stage;
  box = next_in l.box.phase l.stage l.box (starts depth front l) (first front);
  fresh = fresh_after (starts depth front l) (gives depth l) l.fresh;
  queue = pushed (gives depth l) (given_result l.box.phase) (popped take l.queue);
}

abbrev links_next : ℕ → Bool → List ℕ → List Link → List Link
links_next depth take front [] = []
links_next depth take front (l ∷ ls) = link_next depth front (taken depth take l.queue ls) l ∷ links_next depth take l.queue ls

abbrev chain_next : ℕ → Pins → Chain → Chain
chain_next depth p c = record {
  entry = pushed (p.in_valid && has_room depth c.entry) p.in_data (popped (taken depth p.out_take c.entry c.links) c.entry);
  links = links_next depth p.out_take c.entry c.links;
}

abbrev pub chain_run : ℕ → Chain → List Pins → List Outs
chain_run depth c [] = []
chain_run depth c (p ∷ ps) = chain_outs depth c ∷ chain_run depth (chain_next depth p c) ps

abbrev made_link : StageBox → Box → Bool → List ℕ → Link
made_link stage box fresh queue = record { stage = stage; box = box; fresh = fresh; queue = queue }

link_as : (depth : ℕ) (front : List ℕ) (take : Bool) (l m : Link) → IsSole l.stage → LinkStep depth front take l m → m ≡ link_next depth front take l
link_as depth front take l m one h =
    ap (λ (s : StageBox). made_link s m.box m.fresh m.queue) h.stage
    ∙ (ap (λ (b : Box). made_link l.stage b m.fresh m.queue) (goes_as l.stage one l.box.phase l.box m.box (starts depth front l) (first front) h.box)
    ∙ (ap (λ z. made_link l.stage (link_next depth front take l).box z m.queue) h.fresh
    ∙ ap (λ z. made_link l.stage (link_next depth front take l).box (link_next depth front take l).fresh z) h.queue))

links_as : (depth : ℕ) (take : Bool) (front : List ℕ) (ls ms : List Link) → AreSole ls → LinksStep depth take front ls ms → ms ≡ links_next depth take front ls
links_as depth take front [] [] one h = refl
links_as depth take front [] (m ∷ ms) one h = absurd h
links_as depth take front (l ∷ ls) [] one h = absurd h
links_as depth take front (l ∷ ls) (m ∷ ms) one h =
    ap (λ z. z ∷ ms) (link_as depth front (taken depth take l.queue ls) l m one.0 h.0)
    ∙ ap (λ z. link_next depth front (taken depth take l.queue ls) l ∷ z) (links_as depth take l.queue ls ms one.1 h.1)

chain_as : (depth : ℕ) (p : Pins) (c d : Chain) → AreSole c.links → ChainStep depth p c d → d ≡ chain_next depth p c
chain_as depth p c d one h =
    let made : List ℕ → List Link → Chain = λ entry links. record { entry = entry; links = links } in
    ap (λ z. made z d.links) h.entry ∙ ap (λ z. made (chain_next depth p c).entry z) (links_as depth p.out_take c.entry c.links d.links one h.links)

sole_after : (depth : ℕ) (take : Bool) (front : List ℕ) (ls : List Link) → AreSole ls → AreSole (links_next depth take front ls)
sole_after depth take front [] one = tt
sole_after depth take front (l ∷ ls) one = (one.0, sole_after depth take l.queue ls one.1)

-- it is what each run shows
pub runs_as : (depth : ℕ) (ps : List Pins) (c : Chain) (os : List Outs) → AreSole c.links → ChainRuns depth c ps os → os ≡ chain_run depth c ps
runs_as depth [] c [] one run = refl
runs_as depth [] c (o ∷ os) one run = absurd run
runs_as depth (p ∷ ps) c [] one run = absurd run
runs_as depth (p ∷ ps) c (o ∷ os) one run =
    let next = chain_next depth p c in
    let on = subst (λ (d : Chain). ChainRuns depth d ps os) (chain_as depth p c run.1.0 one run.1.1) run.1.2 in
    ap (λ z. z ∷ os) run.0 ∙ ap (λ z. chain_outs depth c ∷ z) (runs_as depth ps next os (sole_after depth p.out_take c.entry c.links one) on)

links_so : (depth : ℕ) (take : Bool) (front : List ℕ) (ls : List Link) → AreSole ls → LinksStep depth take front ls (links_next depth take front ls)
links_so depth take front [] one = tt
links_so depth take front (l ∷ ls) one = (
  record { stage = refl; box = goes_so l.stage one.0 l.box.phase l.box (starts depth front l) (first front); fresh = refl; queue = refl },
  links_so depth take l.queue ls one.1,
)

-- and there is that run
pub runs_so : (depth : ℕ) (ps : List Pins) (c : Chain) → AreSole c.links → ChainRuns depth c ps (chain_run depth c ps)
runs_so depth [] c one = tt
runs_so depth (p ∷ ps) c one =
    (refl, (chain_next depth p c, record { entry = refl; links = links_so depth p.out_take c.entry c.links one }, runs_so depth ps (chain_next depth p c) (sole_after depth p.out_take c.entry c.links one)))
