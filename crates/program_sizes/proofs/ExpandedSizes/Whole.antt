-- Whole programs: what weight pays for in them, and how small they are.
use Rattle.std.proofs.Common.{◌≡◌, ◌≤◌, ◌+◌, ℕ, true, arith, refl, ap, List, [], ◌∷◌, ◌++◌, length, length-append, Option, Some, None}
use Rattle.std.specs.Prelude.{take, drop}
use Rattle.std.proofs.lemmas.List.{take-append-drop}
use Rattle.hls_base.specs.declared.number.Kept.{Kept}
use Rattle.hls_base.specs.declared.point.PointKind.TheVariants as point
use Rattle.pieces.specs.Resolved.Core.{CoreObjectTree, FileObjectTree, CoreFunctionTree, CoreProgramTree}
use Rattle.piece_making.specs.declared.frame.Home.{Home}
use Rattle.piece_making.specs.declared.frame.Home.TheVariants as home
use Rattle.piece_making.specs.Making.{State, gives, then_, fresh}
use Rattle.piece_making.specs.Objects.{host_array, file_array, file_info, array_like, array_weight}
use Rattle.piece_making.specs.Calls.{point_in}
use Rattle.c_expand.specs.Expansion.{is_array, is_kept, kept_scalar, kept_scalars, file_home, kept_behind, file_homes, top_parameter, top_parameters, outermost, top_call, top_run, top_made, nothing, named, top_of, calls}
use Rattle.pieces.specs.Weight.{piece_weights}
use Rattle.passes.specs.Lands.{land_count}
use Rattle.passes.specs.Objects.{HasFewObjects}
use Rattle.program_sizes.specs.ExpandedSizes.{IsSmall, ExpansionsAreSmall, ExpansionsAreWeighed}
use Rattle.program_sizes.proofs.ExpandedSizes.Accounts.{Account, IsPaid, nothing_owed, owing, begun, gives_paid, then_paid, if_paid, without_owing, eased}
use Rattle.program_sizes.proofs.ExpandedSizes.Parts.{mark_paid, declared_paid, fresh_paid, result_paid, array_paid, call_paid}
use Rattle.program_sizes.proofs.ExpandedSizes.Calls.{HaveFew, locals_paid, through_paid, calls_paid}

-- ---- file scope

kept_scalar_paid : {o : Account} {s : State} (x : FileObjectTree) → IsPaid o (λ k. o) s (kept_scalar x s)
kept_scalar_paid x = without_owing 1 0 (then_paid (declared_paid 1 1 0 (omega arith) (omega arith)) (λ u s1. then_paid (fresh_paid x.object.kind) (λ own s2. gives_paid)))

kept_scalars_paid : {o : Account} {s : State} (xs : List FileObjectTree) (before : List Kept) → IsPaid o (λ ks. o) s (kept_scalars xs before s)
kept_scalars_paid [] before = gives_paid
kept_scalars_paid (x ∷ xs) before = if_paid (is_kept x) _ _ (then_paid (kept_scalar_paid x) (λ kept s1. kept_scalars_paid xs (before ++ kept ∷ []))) (kept_scalars_paid xs before)

file_array_paid : {o : Account} {s : State} (x : FileObjectTree) → IsPaid o (λ h. o) s (file_array x s)
file_array_paid x =
    without_owing 0 1 (then_paid (declared_paid (array_weight x.object.lengths) 0 1 (omega arith) (omega arith)) (λ counted s1. then_paid (array_paid (file_info x)) (λ a s2. gives_paid)))

file_home_paid : {o : Account} {s : State} (x : FileObjectTree) (kept : List Kept) → IsPaid o (λ h. o) s (file_home x kept s)
file_home_paid x kept = if_paid (is_array x.object) _ _ (file_array_paid x) (if_paid x.object.constant _ _ gives_paid gives_paid)

file_homes_paid : {o : Account} {s : State} (xs : List FileObjectTree) (kept : List Kept) (before : List Home) → IsPaid o (λ hs. o) s (file_homes xs kept before s)
file_homes_paid [] kept before = gives_paid
file_homes_paid (x ∷ xs) kept before = then_paid (file_home_paid x kept) (λ h s1. file_homes_paid xs (kept_behind x kept) (before ++ h ∷ []))

-- ---- the top function

-- a variable or an array for each parameter, which weighs nothing
top_parameter_paid : {o : Account} {s : State} (x : CoreObjectTree) → IsPaid o (λ h. owing 1 1 o) s (top_parameter x s)
top_parameter_paid {o} {s} x =
    if_paid (is_array x) (host_array x s) (then_ (fresh x.kind s) (λ own s1. gives (home.Variable own) s1))
    (eased (owing 0 1 o) (owing 1 1 o) (omega arith) (omega arith) (omega arith) (omega arith) (then_paid (array_paid (array_like x None None true)) (λ a s1. gives_paid)))
    (eased (owing 1 0 o) (owing 1 1 o) (omega arith) (omega arith) (omega arith) (omega arith) (then_paid (fresh_paid x.kind) (λ own s1. gives_paid)))

top_parameters_paid : (xs : List CoreObjectTree) (before : List Home) (o : Account) (s : State) → IsPaid o (λ hs. owing (length xs) (length xs) o) s (top_parameters xs before s)
top_parameters_paid [] before o s = eased o (owing 0 0 o) (omega arith) (omega arith) (omega arith) (omega arith) gives_paid
top_parameters_paid (x ∷ xs) before o s =
    eased (owing (length xs) (length xs) (owing 1 1 o)) (owing (length (x ∷ xs)) (length (x ∷ xs)) o) (omega arith) (omega arith) (omega arith) (omega arith)
    (then_paid (top_parameter_paid x) (λ h s1. top_parameters_paid xs (before ++ h ∷ []) (owing 1 1 o) s1))

-- the call of the top function weighs nothing: its end and its result are not paid for
top_call_paid : {o : Account} {s : State} (functions : List CoreFunctionTree) → HaveFew functions → (fn : CoreFunctionTree) (file : List Home) (file_variables : ℕ) (homes : List Home) → IsPaid (begun o) (λ own. owing 1 0 o) s (top_call functions fn file file_variables homes s)
top_call_paid {o} functions few fn file file_variables homes =
    then_paid call_paid
    (λ call s1. then_paid (result_paid fn.result)
    (λ own s2.
    (let c = outermost fn file file_variables homes call own in
    then_paid (through_paid {o = owing 1 0 o} (calls functions (length functions)) c (calls_paid functions few (length functions) c) fn (mark_paid (point_in c point.Begin fn.at))) (λ u s3. gives_paid))))

-- what is owed for the parameters and the other objects of the top function
abbrev pub top_owed : CoreFunctionTree → Account
top_owed fn = owing (length (drop fn.params fn.objects)) 0 (owing (length (take fn.params fn.objects)) (length (take fn.params fn.objects)) nothing_owed)

top_run_paid : {s : State} (p : CoreProgramTree) → HasFewObjects p → (fn : CoreFunctionTree) → IsPaid (begun nothing_owed) (λ x. owing 1 0 (top_owed fn)) s (top_run p fn s)
top_run_paid p few fn =
    then_paid (kept_scalars_paid p.file [])
    (λ kept s1. then_paid (top_parameters_paid (take fn.params fn.objects) [] (begun nothing_owed) s1)
    (λ params s2. then_paid (file_homes_paid p.file kept [])
    (λ file s3. then_paid (locals_paid (drop fn.params fn.objects) params _ s3)
    (λ homes s4. then_paid (top_call_paid {o = top_owed fn} p.functions few fn file (length s1.variables) homes)
    (λ own s5. gives_paid)))))

-- ---- how small programs are

top_owes_few : (fn : CoreFunctionTree) → length fn.objects ≤ 16384 → ((top_owed fn).variables ≤ 32768) × ((top_owed fn).arrays ≤ 16384)
top_owes_few fn few =
    let t = length-append (take fn.params fn.objects) (drop fn.params fn.objects) in
    let d = ap length (take-append-drop fn.params fn.objects) in
    (omega (arith, t, d, few), omega (arith, t, d, few))

top_small : (p : CoreProgramTree) → HasFewObjects p → (fn : CoreFunctionTree) → top_of p ≡ Some fn → (top_made p (Some fn)).weight ≤ 8192 → IsSmall (named (Some fn) (top_made p (Some fn)))
top_small p few fn is_top light =
    let h : IsPaid (begun nothing_owed) (λ x. owing 1 0 (top_owed fn)) nothing (top_run p fn nothing) = top_run_paid p few fn in
    let owes = top_owes_few fn (few p.top fn is_top) in
    let v = owes.0 in
    let a = owes.1 in
    record {
      weight = (let x = h.weight in omega (arith, x, light));
      lands = (let x = h.lands in omega (arith, x, light));
      variables = (let x = h.variables in omega (arith, x, v, light));
      arrays = (let x = h.arrays in omega (arith, x, a, light));
    }

pub expansions_small : ExpansionsAreSmall
expansions_small p few = by (top_of p) refl where
  by : (f : Option CoreFunctionTree) → top_of p ≡ f → (top_made p f).weight ≤ 8192 → IsSmall (named f (top_made p f))
  by None e light = record { weight = omega arith; lands = omega arith; variables = omega arith; arrays = omega arith }
  by (Some fn) e light = top_small p few fn e light

-- ---- what their pieces weigh

weighed_as : (p : CoreProgramTree) → HasFewObjects p → (f : Option CoreFunctionTree) → top_of p ≡ f
    → (piece_weights (named f (top_made p f)).pieces ≤ (top_made p f).weight) × (land_count (named f (top_made p f)).pieces ≤ (top_made p f).weight + 1)
weighed_as p few None e = (omega arith, omega arith)
weighed_as p few (Some fn) e =
    let h : IsPaid (begun nothing_owed) (λ x. owing 1 0 (top_owed fn)) nothing (top_run p fn nothing) = top_run_paid p few fn in
    let w = h.weight in
    let l = h.lands in
    (omega (arith, w), omega (arith, l))

pub expansions_weighed : ExpansionsAreWeighed
expansions_weighed p few = let x = weighed_as p few (top_of p) refl in record { weight = x.0; lands = x.1 }
