-- Whole programs: what weight pays for in them, and how many variables they have.
use Rattle.std.proofs.Common.{◌≡◌, ◌≤◌, ℕ, suc, ◌+◌, true, arith, refl, sym, subst, List, [], ◌∷◌, ◌++◌, length, Some, None, take, drop, slice_get}
use Rattle.std.proofs.lemmas.List.{length-take-le}
use Rattle.hls_base.specs.declared.number.Kept.{Kept}
use Rattle.pieces.specs.Resolved.Core.{CoreObjectTree, FileObjectTree, CoreFunctionTree, CoreProgramTree}
use Rattle.piece_making.specs.declared.frame.Home.{Home}
use Rattle.piece_making.specs.declared.frame.Home.TheVariants as home
use Rattle.piece_making.specs.Making.{State, gives, then_, fresh}
use Rattle.piece_making.specs.Objects.{host_array, file_array, file_info, array_like, array_weight}
use Rattle.c_expand.specs.Expansion.{is_array, is_kept, kept_scalar, kept_scalars, file_home, kept_behind, file_homes, top_parameter, top_parameters, outermost, top_call, top_run, top_made, nothing, named, calls}
use Rattle.expanded_programs.specs.Calls.Programs.{IsProgramSound}
use Rattle.program_sizes.specs.DeclaredVariables.Declarations.{EachIsDeclared}
use Rattle.program_sizes.specs.DeclaredVariables.{VariablesAreCounted}
use Rattle.program_sizes.proofs.DeclaredVariables.Paying.{IsPaid, gives_paid, then_paid, known_paid, if_paid, one_less, eased}
use Rattle.program_sizes.proofs.DeclaredVariables.Parts.{plain_paid, declared_paid, fresh_paid, result_paid, array_paid, call_paid}
use Rattle.program_sizes.proofs.DeclaredVariables.Homes.{StandFor, locals_stand, tops_stand}
use Rattle.program_sizes.proofs.DeclaredVariables.Calls.{locals_paid, through_paid, calls_paid}

-- ---- file scope

kept_scalar_paid : {o : ℕ} {s : State} (x : FileObjectTree) → IsPaid o o s (kept_scalar x s)
kept_scalar_paid {o} x = one_less (then_paid (declared_paid {n = o} 1 (omega arith)) (λ u s1. then_paid (fresh_paid x.object.kind) (λ own s2. gives_paid)))

kept_scalars_paid : {o : ℕ} {s : State} (xs : List FileObjectTree) (before : List Kept) → IsPaid o o s (kept_scalars xs before s)
kept_scalars_paid [] before = gives_paid
kept_scalars_paid (x ∷ xs) before = if_paid (is_kept x) _ _ (then_paid (kept_scalar_paid x) (λ kept s1. kept_scalars_paid xs (before ++ kept ∷ []))) (kept_scalars_paid xs before)

file_array_paid : {o : ℕ} {s : State} (x : FileObjectTree) → IsPaid o o s (file_array x s)
file_array_paid x = then_paid (declared_paid (array_weight x.object.lengths) (omega arith)) (λ counted s1. then_paid (array_paid (file_info x)) (λ a s2. gives_paid))

file_home_paid : {o : ℕ} {s : State} (x : FileObjectTree) (kept : List Kept) → IsPaid o o s (file_home x kept s)
file_home_paid x kept = if_paid (is_array x.object) _ _ (file_array_paid x) (if_paid x.object.constant _ _ gives_paid gives_paid)

file_homes_paid : {o : ℕ} {s : State} (xs : List FileObjectTree) (kept : List Kept) (before : List Home) → IsPaid o o s (file_homes xs kept before s)
file_homes_paid [] kept before = gives_paid
file_homes_paid (x ∷ xs) kept before = then_paid (file_home_paid x kept) (λ h s1. file_homes_paid xs (kept_behind x kept) (before ++ h ∷ []))

-- ---- the top function

-- at most a variable for each parameter, which weighs nothing
top_parameter_paid : (o : ℕ) {s : State} (x : CoreObjectTree) → IsPaid o (suc o) s (top_parameter x s)
top_parameter_paid o {s} x =
    if_paid (is_array x) (host_array x s) (then_ (fresh x.kind s) (λ own s1. gives (home.Variable own) s1)) (eased o o (omega arith) (omega arith) (then_paid (array_paid (array_like x None None true)) (λ a s1. gives_paid)))
    (then_paid (fresh_paid x.kind) (λ own s1. gives_paid))

top_parameters_paid : (o : ℕ) {s : State} (xs : List CoreObjectTree) (before : List Home) → IsPaid o (length xs + o) s (top_parameters xs before s)
top_parameters_paid o [] before = eased o o (omega arith) (omega arith) gives_paid
top_parameters_paid o (x ∷ xs) before = eased o (length xs + suc o) (omega arith) (omega arith) (then_paid (top_parameter_paid o x) (λ h s1. top_parameters_paid (suc o) xs (before ++ h ∷ [])))

module _ (p : CoreProgramTree) (sound : IsProgramSound p) (each : EachIsDeclared p) (fn : CoreFunctionTree) (is : slice_get p.functions p.top ≡ Some fn) where
  abbrev others : ℕ
  others = length (drop fn.params fn.objects)

  -- the call of the top function weighs nothing: its result is not paid for
  top_call_paid : (o : ℕ) {s : State} (file : List Home) (file_variables : ℕ) (homes : List Home) → StandFor fn homes → IsPaid (others + o) (suc o) s (top_call p.functions fn file file_variables homes s)
  top_call_paid o file file_variables homes stand =
      then_paid call_paid
      (λ call s1. then_paid (result_paid fn.result)
      (λ own s2.
      (let c = outermost fn file file_variables homes call own in
      let n = length p.functions in
      then_paid
      (through_paid p sound each p.top fn is (suc o) (suc (others + o)) (calls p.functions n) c (calls_paid p sound each n c) refl stand (eased (others + suc o) (others + suc o) (omega arith) (omega arith) (plain_paid _))) (λ u s3. gives_paid))))

  top_run_paid : {s : State} → IsPaid 0 (suc fn.params) s (top_run p fn s)
  top_run_paid =
      let le = (sound.functions p.top fn is).params in
      let count : length (take fn.params fn.objects) ≡ fn.params = length-take-le fn.params fn.objects le in
      then_paid (kept_scalars_paid p.file [])
      (λ kept s1. known_paid (λ params. length params ≡ fn.params) (let h = tops_stand (take fn.params fn.objects) [] s1 in omega (arith, h, count))
      (eased 0 (length (take fn.params fn.objects) + 0) (omega arith) (omega (arith, count)) (top_parameters_paid 0 (take fn.params fn.objects) []))
      (λ params s2 all. then_paid (file_homes_paid p.file kept [])
      (λ file s3. known_paid (StandFor fn) (locals_stand fn params all s3) (locals_paid fn.params (drop fn.params fn.objects) params)
      (λ homes s4 stand. then_paid (top_call_paid fn.params file (length s1.variables) homes stand) (λ own s5. gives_paid)))))

pub variables_counted : VariablesAreCounted
variables_counted p sound each fn is =
    let h : IsPaid 0 (suc fn.params) nothing (top_run p fn nothing) = top_run_paid p sound each fn is in
    subst (λ top. length (named top (top_made p top)).variables ≤ (top_made p top).weight + fn.params + 1) (sym is) (let x = h.paid in omega (arith, x))
