-- Operations one after another, and iterations of a loop.
use Rattle.std.proofs.Common.{◌≡◌, ℕ, zero, suc, ◌+◌, ◌-◌, ◌<◌, ◌≤◌, Bool, true, false, List, [], ◌∷◌, ◌++◌, length, get_or, min, map, take, drop, Result, Ok, Err, refl, sym, ap, ◌∙◌, subst, arith}
use Rattle.std.specs.Prelude.{OnOk, if◌then◌else◌}
use Rattle.std.proofs.lemmas.List.{drop_more, drop_all, drop_min, take_min, take_all, length-drop, take-map, drop-map}
use Rattle.hls_base.specs.declared.place.Place.{Place}
use Rattle.hls_base.specs.declared.point.Point.{Point}
use Rattle.hls_base.specs.declared.refusal.UbRule.{UbRule}
use Rattle.ir_core.specs.declared.body.Body.{Body}
use Rattle.ir_core.specs.declared.body.Op.{Op}
use Rattle.ir_core.specs.declared.cfg.End.{End}
use Rattle.ir_core.specs.declared.stamp.Untimed.{Untimed}
use Rattle.ir_core.specs.declared.machine.Halt.TheVariants as halt
use Rattle.hls_base.specs.Steps.{Ran, goes, fails, reached}
use Rattle.hls_base.specs.Valued.{Valued, is, faulty, and_then, valued}
use Rattle.ir_core.specs.Bodies.{OpTree, Shapes, Words, Ranged, Performed, op_of, perform, operations, with_outs}
use Rattle.ir_core.specs.TreeRuns.{Turn, again, over, tested, goes_round, iterated, iteration}
use Rattle.ir_core.specs.FlatRuns.{body_of}
use Rattle.flat_programs.specs.Memory.Contents.{dims_in}
use Rattle.flat_programs.specs.declared.machine.effects.Broken.{Broken}
use Rattle.flat_programs.specs.declared.machine.state.Round.TheVariants as round
use Rattle.flat_programs.specs.declared.machine.state.State.{State}
use Rattle.flat_programs.specs.Machine.Held.{IsThere, found, shapes}
use Rattle.flat_programs.specs.Machine.States.{results_of, words_of, ranged_of, Keeps, Stays, ArraysThere, VariablesThere, IsThereIn, settled}
use Rattle.flat_programs.specs.Machine.Steps.{behind, left_in, HasStepped, one_less, undefined_, turn_of}

pub keeps_then : (a b c : State) → Keeps a b → Keeps b c → Keeps a c
keeps_then a b c x y = record { variables = y.variables ∙ x.variables; results = y.results ∙ x.results; args = y.args ∙ x.args; fresh = y.fresh ∙ x.fresh; dims = y.dims ∙ x.dims }

pub stays_then : (a b c : State) → Stays a b → Stays b c → Stays a c
stays_then a b c x y = record { node = y.node ∙ x.node; halt = y.halt ∙ x.halt; returned = y.returned ∙ x.returned }

pub there_at : (part : List (Op Untimed)) (dims : List (List ℕ)) (i : ℕ) (op : Op Untimed) → ArraysThere part dims → i < length part → op ≡ get_or part i op → IsThere op.array dims
there_at [] dims i op h k e = absurd (omega arith)
there_at (x ∷ xs) dims zero op h k e = subst (λ (o : Op Untimed). IsThere o.array dims) (sym e) h.0
there_at (x ∷ xs) dims (suc i) op h k e = there_at xs dims i op h.1 (omega arith) e

part_head : (sh : Shapes) (ops : List OpTree) (part : List (Op Untimed)) (i : ℕ) (op : Op Untimed) (r : List ℕ) (t : Words) → i < length part → op ≡ get_or part i op
    → operations sh ops (map op_of (drop i part)) r t ≡ and_then (perform sh ops (op_of op) r t) (λ p. operations sh ops (map op_of (drop (i + 1) part)) (r ++ p.result ∷ []) p.words)
part_head sh ops part i op r t h e =
    ap (λ os. operations sh ops (map op_of os) r t) (drop_more part i op h)
    ∙ ap (λ (o : Op Untimed). and_then (perform sh ops (op_of o) r t) (λ p. operations sh ops (map op_of (drop (i + 1) part)) (r ++ p.result ∷ []) p.words)) (sym e)

pub part_more : (sh : Shapes) (ops : List OpTree) (part : List (Op Untimed)) (i : ℕ) (op : Op Untimed) (r r1 : List ℕ) (t : Words) (p : Performed) → i < length part → op ≡ get_or part i op
    → perform sh ops (op_of op) r t ≡ is p → r1 ≡ r ++ p.result ∷ [] → operations sh ops (map op_of (drop (i + 1) part)) r1 p.words ≡ operations sh ops (map op_of (drop i part)) r t
part_more sh ops part i op r r1 t p h e does next =
    ap (λ x. operations sh ops (map op_of (drop (i + 1) part)) x p.words) next
    ∙ sym (part_head sh ops part i op r t h e ∙ ap (λ v. and_then v (λ q. operations sh ops (map op_of (drop (i + 1) part)) (r ++ q.result ∷ []) q.words)) does)

pub part_stops : (sh : Shapes) (ops : List OpTree) (part : List (Op Untimed)) (i : ℕ) (op : Op Untimed) (r : List ℕ) (t : Words) (rule : UbRule) (at : Place) → i < length part → op ≡ get_or part i op
    → perform sh ops (op_of op) r t ≡ faulty rule at → operations sh ops (map op_of (drop i part)) r t ≡ faulty rule at
part_stops sh ops part i op r t rule at h e does =
    part_head sh ops part i op r t h e ∙ ap (λ v. and_then v (λ q. operations sh ops (map op_of (drop (i + 1) part)) (r ++ q.result ∷ []) q.words)) does

-- ---- a step in a block

pub stepped : (sh : Shapes) (b : Body Untimed) (end : End) (old mid new : State) (done : Result (Unit {0}) Broken) (op : Op Untimed) (p : Performed) → old.position < length b.ops.items → op ≡ get_or b.ops.items old.position op
    → old.halt ≡ halt.Running → perform sh (map op_of b.ops.items) (op_of op) (results_of old) (words_of old) ≡ found done p → OnOk done (mid.position ≡ old.position + 1) → OnOk done (results_of mid ≡ results_of old ++ p.result ∷ []) → p.words ≡ words_of mid
    → Stays old mid → new ≡ settled done mid → HasStepped sh b end old new
stepped sh b end old mid new (Ok u) op p h e runs does next results words stays is_ =
    let part = part_more sh (map op_of b.ops.items) b.ops.items old.position op (results_of old) (results_of mid) (words_of old) p h e does results in
    let there : left_in sh b mid ≡ left_in sh b old =
    ap (λ k. operations sh (map op_of b.ops.items) (map op_of (drop k b.ops.items)) (results_of mid) (words_of mid)) next
    ∙ ap (operations sh (map op_of b.ops.items) (map op_of (drop (old.position + 1) b.ops.items)) (results_of mid)) (sym words) ∙ part in
    subst (HasStepped sh b end old) (sym is_) (one_less h (stays.halt ∙ runs) stays.node next (sym there))
stepped sh b end old mid new (Err f) op p h e runs does next results words stays is_ =
    subst (HasStepped sh b end old) (sym is_) (undefined_ f refl (part_stops sh (map op_of b.ops.items) b.ops.items old.position op (results_of old) (words_of old) f.rule f.place h e does))

pub none_left : (sh : Shapes) (b : Body Untimed) (s : State) → length b.ops.items ≤ s.position → left_in sh b s ≡ is (ranged_of s)
none_left sh b s h = ap (λ os. operations sh (map op_of b.ops.items) (map op_of os) (results_of s) (words_of s)) (drop_all s.position b.ops.items h)

-- ---- an iteration

abbrev round_end : Shapes → Point → Body Untimed → Ranged → Words → ℕ → Ran Words Turn
round_end sh point b r t n = if goes_round b.test r.words r.results then reached point (iterated sh (body_of b) r) r.words n else goes over r.words n

round_is : (sh : Shapes) (point : Point) (b : Body Untimed) (t : Words) (n : ℕ) → iteration sh point (body_of b) t n ≡ valued (operations sh (map op_of b.ops.items) (map op_of (take (tested b.test) b.ops.items)) [] t) (round_end sh point b) t n
round_is sh point b t n = ap (λ os. valued (operations sh (map op_of b.ops.items) os [] t) (round_end sh point b) t n) (take-map op_of (tested b.test) b.ops.items)

pub round_fails : (sh : Shapes) (point : Point) (b : Body Untimed) (t : Words) (n : ℕ) (rule : UbRule) (at : Place) → operations sh (map op_of b.ops.items) (map op_of (take (tested b.test) b.ops.items)) [] t ≡ faulty rule at
    → iteration sh point (body_of b) t n ≡ fails rule at
round_fails sh point b t n rule at e = round_is sh point b t n ∙ ap (λ v. valued v (round_end sh point b) t n) e

round_begun : (sh : Shapes) (point : Point) (b : Body Untimed) (t : Words) (n : ℕ) (r : Ranged) (goes_ : Bool) → operations sh (map op_of b.ops.items) (map op_of (take (tested b.test) b.ops.items)) [] t ≡ is r → goes_ ≡ goes_round b.test r.words r.results
    → iteration sh point (body_of b) t n ≡ (if goes_ then reached point (iterated sh (body_of b) r) r.words n else goes over r.words n)
round_begun sh point b t n r goes_ e g =
    round_is sh point b t n ∙ ap (λ v. valued v (round_end sh point b) t n) e ∙ ap (λ x. if x then reached point (iterated sh (body_of b) r) r.words n else goes over r.words n) (sym g)

pub round_over : (sh : Shapes) (point : Point) (b : Body Untimed) (t : Words) (n : ℕ) (r : Ranged) → operations sh (map op_of b.ops.items) (map op_of (take (tested b.test) b.ops.items)) [] t ≡ is r → false ≡ goes_round b.test r.words r.results
    → iteration sh point (body_of b) t n ≡ goes over r.words n
round_over sh point b t n r e g = round_begun sh point b t n r false e g

abbrev pub Rest : Shapes → Body Untimed → Ranged → Valued Ranged → Type 0
Rest sh b r v = operations sh (map op_of b.ops.items) (map op_of (drop (tested b.test) b.ops.items)) r.results r.words ≡ v

iterated_is : (sh : Shapes) (b : Body Untimed) (r : Ranged) (v : Valued Ranged) (t : Words) (n : ℕ) → Rest sh b r v → iterated sh (body_of b) r t n ≡ valued v (λ r1 t1 n1. goes again (with_outs b.outs.items r1) n1) t n
iterated_is sh b r v t n e =
    ap (λ os. valued (operations sh (map op_of b.ops.items) os r.results r.words) (λ r1 t1 n1. goes again (with_outs b.outs.items r1) n1) t n) (drop-map op_of (tested b.test) b.ops.items)
    ∙ ap (λ x. valued x (λ r1 t1 n1. goes again (with_outs b.outs.items r1) n1) t n) e

pub round_goes : (sh : Shapes) (point : Point) (b : Body Untimed) (t : Words) (n : ℕ) (r : Ranged) (v : Valued Ranged) → operations sh (map op_of b.ops.items) (map op_of (take (tested b.test) b.ops.items)) [] t ≡ is r → true ≡ goes_round b.test r.words r.results
    → Rest sh b r v → iteration sh point (body_of b) t (suc n) ≡ behind (point ∷ []) (valued v (λ r1 t1 n1. goes again (with_outs b.outs.items r1) n1) r.words n)
round_goes sh point b t n r v e g rest =
    round_begun sh point b t (suc n) r true e g
    ∙ ap (behind (point ∷ [])) (iterated_is sh b r v r.words n rest)

-- behind the point an iteration comes to what its other operations come to
pub round_passes : (sh : Shapes) (point : Point) (b : Body Untimed) (t : Words) (n : ℕ) (r r1 : Ranged) (done : Result (Unit {0}) Broken) (last : Words)
    → operations sh (map op_of b.ops.items) (map op_of (take (tested b.test) b.ops.items)) [] t ≡ is r → true ≡ goes_round b.test r.words r.results → Rest sh b r (found done r1) → OnOk done (last ≡ with_outs b.outs.items r1)
    → iteration sh point (body_of b) t (1 + n) ≡ behind (point ∷ []) (turn_of (round.Passed done) last n)
round_passes sh point b t n r r1 (Ok u) last e g rest same =
    ap (iteration sh point (body_of b) t) (let k : 1 + n ≡ suc n = omega arith in k) ∙ round_goes sh point b t n r (is r1) e g rest ∙ ap (λ u1. behind (point ∷ []) (goes again u1 n)) (sym same)
round_passes sh point b t n r r1 (Err broken) last e g rest same =
    ap (iteration sh point (body_of b) t) (let k : 1 + n ≡ suc n = omega arith in k) ∙ round_goes sh point b t n r (faulty broken.rule broken.place) e g rest

-- ---- the operations before the test, and those behind it

pub front_gives : (sh : Shapes) (b : Body Untimed) (m : ℕ) (seen part : List (Op Untimed)) (t : Words) (v : Valued Ranged) → seen ≡ b.ops.items → part ≡ b.ops.items → m ≡ min (tested b.test) (length b.ops.items)
    → operations sh (map op_of seen) (map op_of (take m part)) [] t ≡ v → operations sh (map op_of b.ops.items) (map op_of (take (tested b.test) b.ops.items)) [] t ≡ v
front_gives sh b m seen part t v a p e h =
    let front : take m part ≡ take (tested b.test) b.ops.items = ap (take m) p ∙ ap (λ n. take n b.ops.items) e ∙ take_min (tested b.test) b.ops.items in
    sym (ap (λ os. operations sh (map op_of os) (map op_of (take m part)) [] t) a ∙ ap (λ os. operations sh (map op_of b.ops.items) (map op_of os) [] t) front) ∙ h

pub behind_gives : (sh : Shapes) (b : Body Untimed) (at : ℕ) (seen part : List (Op Untimed)) (r : List ℕ) (t : Words) (v : Valued Ranged) → seen ≡ b.ops.items → part ≡ b.ops.items
    → operations sh (map op_of seen) (map op_of (take (length part - at) (drop at part))) r t ≡ v → operations sh (map op_of b.ops.items) (map op_of (drop at b.ops.items)) r t ≡ v
behind_gives sh b at seen part r t v a p h =
    let rest : take (length part - at) (drop at part) ≡ drop at b.ops.items = take_all (length part - at) (drop at part) (omega (arith, length-drop at part)) ∙ ap (drop at) p in
    sym (ap (λ os. operations sh (map op_of os) (map op_of (take (length part - at) (drop at part))) r t) a ∙ ap (λ os. operations sh (map op_of b.ops.items) (map op_of os) r t) rest) ∙ h

-- ---- programs whose numbers name what is there

pub there_front : (ops : List (Op Untimed)) (dims : List (List ℕ)) (n : ℕ) → ArraysThere ops dims → ArraysThere (take n ops) dims
there_front ops dims zero h = tt
there_front [] dims (suc n) h = tt
there_front (op ∷ ops) dims (suc n) h = (h.0, there_front ops dims n h.1)

pub there_behind : (ops : List (Op Untimed)) (dims : List (List ℕ)) (n : ℕ) → ArraysThere ops dims → ArraysThere (drop n ops) dims
there_behind ops dims zero h = h
there_behind [] dims (suc n) h = tt
there_behind (op ∷ ops) dims (suc n) h = there_behind ops dims n h.1

pub there_kept : (b : Body Untimed) (old new : State) → Keeps old new → IsThereIn old b → IsThereIn new b
there_kept b old new k h = (subst (VariablesThere b.outs.items) (sym k.variables) h.0, subst (ArraysThere b.ops.items) (sym k.dims) h.1)

pub rest_is : (widths : List ℕ) (b : Body Untimed) (old new : State) (v : Valued Ranged) → Keeps old new → new.position ≡ min (tested b.test) (length b.ops.items)
    → operations (shapes widths (dims_in new.memories)) (map op_of b.ops.items) (map op_of (drop new.position b.ops.items)) (results_of new) (words_of new) ≡ v → Rest (shapes widths (dims_in old.memories)) b (ranged_of new) v
rest_is widths b old new v k at e =
    ap (λ d. operations (shapes widths d) (map op_of b.ops.items) (map op_of (drop (tested b.test) b.ops.items)) (results_of new) (words_of new)) (sym k.dims)
    ∙ ap (λ os. operations (shapes widths (dims_in new.memories)) (map op_of b.ops.items) (map op_of os) (results_of new) (words_of new)) (sym (ap (λ n. drop n b.ops.items) at ∙ drop_min (tested b.test) b.ops.items)) ∙ e

pub there_seen : (part ops : List (Op Untimed)) (dims : List (List ℕ)) → part ≡ ops → ArraysThere ops dims → ArraysThere part dims
there_seen part ops dims e h = subst (λ (os : List (Op Untimed)). ArraysThere os dims) (sym e) h
