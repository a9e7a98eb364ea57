-- What the expansion makes for file scope and for the parameters of the top function.
use Rattle.std.proofs.Common.{◌≡◌, ℕ, ◌+◌, ◌∙◌, sym, refl, ap, subst, Bool, true, false, ◌||◌, List, [], ◌∷◌, ◌++◌, length, Option, Some, None, if◌then◌else◌}
use Rattle.std.specs.Prelude.{not, drop, take}
use Rattle.std.proofs.lemmas.List.{length-append, append_assoc, append-nil}
use Rattle.hls_base.specs.declared.number.Kept.{Kept}
use Rattle.pieces.specs.Resolved.Core.{CoreObjectTree, FileObjectTree, CoreFunctionTree, CoreProgramTree}
use Rattle.hls_base.specs.declared.number.VarId.{VarId}
use Rattle.pieces.specs.declared.piece.CallId.{CallId}
use Rattle.pieces.specs.Program.{ArrayTree, ExpandedTree}
use Rattle.piece_making.specs.Calls.{Call}
use Rattle.pieces.specs.Trees.{piece_row}
use Rattle.piece_making.specs.declared.frame.Home.{Home}
use Rattle.piece_making.specs.declared.frame.Home.TheVariants as home
use Rattle.piece_making.specs.Making.{State, Part, gives, then_, fresh, declared, add_array, next_call, fresh_result, variable_number, array_number}
use Rattle.piece_making.specs.Objects.{array_like, file_info, file_array, host_array, first_value}
use Rattle.c_expand.specs.Expansion.{calls, run_through, is_array, is_kept, kept_scalar, kept_scalars, first_kept, file_homes, top_parameters, variables_of, locals, outermost, nothing, top_made, top_of, named, expansion}
use Rattle.expanded_programs.specs.Outlines.{keeps_from, kept_kinds, homes_from, files_of, hosts_of, tops_from, scalar_kinds}
use Rattle.expanded_programs.proofs.Plain.{ArePlain, adds_both, adds_locals, adds_call, adds_fresh_result, run_adds, calls_add}

-- ---- scalars that are kept

pub record KeptMade (os : List FileObjectTree) (before : List Kept) (s : State) : Type 0 where
  pub value : (kept_scalars os before s).value ≡ before ++ keeps_from (length s.variables) os
  pub pieces : (kept_scalars os before s).pieces ≡ []
  pub variables : (kept_scalars os before s).state.variables ≡ s.variables ++ kept_kinds os
  pub arrays : (kept_scalars os before s).state.arrays ≡ s.arrays
  pub slots : (kept_scalars os before s).state.slots ≡ s.slots

-- the same, by whether the first object is kept
record KeptStep (b : Bool) (o : FileObjectTree) (os : List FileObjectTree) (before : List Kept) (s : State) : Type 0 where
  value : (if b then then_ (kept_scalar o s) (λ kept s1. kept_scalars os (before ++ kept ∷ []) s1) else kept_scalars os before s).value
      ≡ before ++ (if b then record { variable = variable_number (length s.variables); value = first_value o.first } ∷ keeps_from (length s.variables + 1) os else keeps_from (length s.variables) os)
  pieces : (if b then then_ (kept_scalar o s) (λ kept s1. kept_scalars os (before ++ kept ∷ []) s1) else kept_scalars os before s).pieces ≡ []
  variables : (if b then then_ (kept_scalar o s) (λ kept s1. kept_scalars os (before ++ kept ∷ []) s1) else kept_scalars os before s).state.variables ≡ s.variables ++ (if b then o.object.kind ∷ kept_kinds os else kept_kinds os)
  arrays : (if b then then_ (kept_scalar o s) (λ kept s1. kept_scalars os (before ++ kept ∷ []) s1) else kept_scalars os before s).state.arrays ≡ s.arrays
  slots : (if b then then_ (kept_scalar o s) (λ kept s1. kept_scalars os (before ++ kept ∷ []) s1) else kept_scalars os before s).state.slots ≡ s.slots

kept_step : (b : Bool) (o : FileObjectTree) (os : List FileObjectTree) (before : List Kept) (s : State) → ((before1 : List Kept) (s1 : State) → KeptMade os before1 s1) → KeptStep b o os before s
unfolding then_ declared fresh
kept_step false o os before s h = (let q = h before s in record { value = q.value; pieces = q.pieces; variables = q.variables; arrays = q.arrays; slots = q.slots })
kept_step true o os before s h =
    let k : Kept = record { variable = variable_number (length s.variables); value = first_value o.first } in
    let s1 = record s { variables = s.variables ++ o.object.kind ∷ [] } in
    let q = h (before ++ k ∷ []) s1 in
    record {
      value = q.value ∙ append_assoc before (k ∷ []) (keeps_from (length s1.variables) os) ∙ ap (λ n. before ++ k ∷ keeps_from n os) (length-append s.variables (o.object.kind ∷ []));
      pieces = q.pieces;
      variables = q.variables ∙ append_assoc s.variables (o.object.kind ∷ []) (kept_kinds os);
      arrays = q.arrays;
      slots = q.slots;
    }

pub kept_made : (os : List FileObjectTree) (before : List Kept) (s : State) → KeptMade os before s
kept_made [] before s = record { value = sym (append-nil before); pieces = refl; variables = sym (append-nil s.variables); arrays = refl; slots = refl }
kept_made (o ∷ os) before s =
    let q = kept_step (is_kept o) o os before s (λ before1 s1. kept_made os before1 s1) in
    record { value = q.value; pieces = q.pieces; variables = q.variables; arrays = q.arrays; slots = q.slots }

-- ---- objects of file scope

pub record FileMade (v : ℕ) (os : List FileObjectTree) (before : List Home) (s : State) : Type 0 where
  pub value : (file_homes os (keeps_from v os) before s).value ≡ before ++ homes_from v (length s.arrays) os
  pub pieces : (file_homes os (keeps_from v os) before s).pieces ≡ []
  pub variables : (file_homes os (keeps_from v os) before s).state.variables ≡ s.variables
  pub arrays : (file_homes os (keeps_from v os) before s).state.arrays ≡ s.arrays ++ files_of os
  pub slots : (file_homes os (keeps_from v os) before s).state.slots ≡ s.slots

-- the scalars that are kept from an object on, by whether it is an array and whether it is const
abbrev kept_here : Bool → Bool → ℕ → FileObjectTree → List FileObjectTree → List Kept
kept_here x y v o os = if not (x || y) then record { variable = variable_number v; value = first_value o.first } ∷ keeps_from (v + 1) os else keeps_from v os

abbrev kept_next : Bool → Bool → List Kept → List Kept
kept_next x y kept = if not (x || y) then drop 1 kept else kept

abbrev file_part : Bool → Bool → ℕ → FileObjectTree → List FileObjectTree → List Home → State → Part (List Home)
file_part x y v o os before s =
    then_ (if x then file_array o s else if y then gives (home.Constant (first_value o.first)) s else gives (home.Variable (first_kept (kept_here x y v o os))) s)
    (λ h s1. file_homes os (kept_next x y (kept_here x y v o os)) (before ++ h ∷ []) s1)

record FileStep (x y : Bool) (v : ℕ) (o : FileObjectTree) (os : List FileObjectTree) (before : List Home) (s : State) : Type 0 where
  value : (file_part x y v o os before s).value
      ≡ before ++ (if x then home.Array (array_number (length s.arrays)) ∷ homes_from v (length s.arrays + 1) os else if y then home.Constant (first_value o.first) ∷ homes_from v (length s.arrays) os else home.Variable (variable_number v) ∷ homes_from (v + 1) (length s.arrays) os)
  pieces : (file_part x y v o os before s).pieces ≡ []
  variables : (file_part x y v o os before s).state.variables ≡ s.variables
  arrays : (file_part x y v o os before s).state.arrays ≡ s.arrays ++ (if x then file_info o ∷ files_of os else files_of os)
  slots : (file_part x y v o os before s).state.slots ≡ s.slots

file_step : (x y : Bool) (v : ℕ) (o : FileObjectTree) (os : List FileObjectTree) (before : List Home) (s : State) → ((v1 : ℕ) (before1 : List Home) (s1 : State) → FileMade v1 os before1 s1) → FileStep x y v o os before s
unfolding then_ declared add_array
file_step true y v o os before s h =
    let a = home.Array (array_number (length s.arrays)) in
    let s1 = record s { arrays = s.arrays ++ file_info o ∷ [] } in
    let q = h v (before ++ a ∷ []) s1 in
    record {
      value = q.value ∙ append_assoc before (a ∷ []) (homes_from v (length s1.arrays) os) ∙ ap (λ n. before ++ a ∷ homes_from v n os) (length-append s.arrays (file_info o ∷ []));
      pieces = q.pieces;
      variables = q.variables;
      arrays = q.arrays ∙ append_assoc s.arrays (file_info o ∷ []) (files_of os);
      slots = q.slots;
    }
file_step false true v o os before s h =
    let a = home.Constant (first_value o.first) in
    let q = h v (before ++ a ∷ []) s in
    record { value = q.value ∙ append_assoc before (a ∷ []) (homes_from v (length s.arrays) os); pieces = q.pieces; variables = q.variables; arrays = q.arrays; slots = q.slots }
file_step false false v o os before s h =
    let a = home.Variable (variable_number v) in
    let q = h (v + 1) (before ++ a ∷ []) s in
    record { value = q.value ∙ append_assoc before (a ∷ []) (homes_from (v + 1) (length s.arrays) os); pieces = q.pieces; variables = q.variables; arrays = q.arrays; slots = q.slots }

pub file_made : (v : ℕ) (os : List FileObjectTree) (before : List Home) (s : State) → FileMade v os before s
file_made v [] before s = record { value = sym (append-nil before); pieces = refl; variables = refl; arrays = sym (append-nil s.arrays); slots = refl }
file_made v (o ∷ os) before s =
    let q = file_step (is_array o.object) o.object.constant v o os before s (λ v1 before1 s1. file_made v1 os before1 s1) in
    record { value = q.value; pieces = q.pieces; variables = q.variables; arrays = q.arrays; slots = q.slots }

-- ---- parameters of the top function

pub record TopMade (os : List CoreObjectTree) (before : List Home) (s : State) : Type 0 where
  pub value : (top_parameters os before s).value ≡ before ++ tops_from (length s.variables) (length s.arrays) os
  pub pieces : (top_parameters os before s).pieces ≡ []
  pub variables : (top_parameters os before s).state.variables ≡ s.variables ++ scalar_kinds os
  pub arrays : (top_parameters os before s).state.arrays ≡ s.arrays ++ hosts_of os
  pub slots : (top_parameters os before s).state.slots ≡ s.slots

abbrev top_part : Bool → CoreObjectTree → List CoreObjectTree → List Home → State → Part (List Home)
top_part b o os before s = then_ (if b then host_array o s else then_ (fresh o.kind s) (λ own s1. gives (home.Variable own) s1)) (λ h s1. top_parameters os (before ++ h ∷ []) s1)

record TopStep (b : Bool) (o : CoreObjectTree) (os : List CoreObjectTree) (before : List Home) (s : State) : Type 0 where
  value : (top_part b o os before s).value
      ≡ before ++ (if b then home.Array (array_number (length s.arrays)) ∷ tops_from (length s.variables) (length s.arrays + 1) os else home.Variable (variable_number (length s.variables)) ∷ tops_from (length s.variables + 1) (length s.arrays) os)
  pieces : (top_part b o os before s).pieces ≡ []
  variables : (top_part b o os before s).state.variables ≡ s.variables ++ (if b then scalar_kinds os else o.kind ∷ scalar_kinds os)
  arrays : (top_part b o os before s).state.arrays ≡ s.arrays ++ (if b then array_like o None None true ∷ hosts_of os else hosts_of os)
  slots : (top_part b o os before s).state.slots ≡ s.slots

top_step : (b : Bool) (o : CoreObjectTree) (os : List CoreObjectTree) (before : List Home) (s : State) → ((before1 : List Home) (s1 : State) → TopMade os before1 s1) → TopStep b o os before s
unfolding then_ fresh add_array
top_step true o os before s h =
    let a = home.Array (array_number (length s.arrays)) in
    let i = array_like o None None true in
    let s1 = record s { arrays = s.arrays ++ i ∷ [] } in
    let q = h (before ++ a ∷ []) s1 in
    record {
      value = q.value ∙ append_assoc before (a ∷ []) (tops_from (length s.variables) (length s1.arrays) os) ∙ ap (λ n. before ++ a ∷ tops_from (length s.variables) n os) (length-append s.arrays (i ∷ []));
      pieces = q.pieces;
      variables = q.variables;
      arrays = q.arrays ∙ append_assoc s.arrays (i ∷ []) (hosts_of os);
      slots = q.slots;
    }
top_step false o os before s h =
    let a = home.Variable (variable_number (length s.variables)) in
    let s1 = record s { variables = s.variables ++ o.kind ∷ [] } in
    let q = h (before ++ a ∷ []) s1 in
    record {
      value = q.value ∙ append_assoc before (a ∷ []) (tops_from (length s1.variables) (length s.arrays) os) ∙ ap (λ n. before ++ a ∷ tops_from n (length s.arrays) os) (length-append s.variables (o.kind ∷ []));
      pieces = q.pieces;
      variables = q.variables ∙ append_assoc s.variables (o.kind ∷ []) (scalar_kinds os);
      arrays = q.arrays;
      slots = q.slots;
    }

pub top_made_of : (os : List CoreObjectTree) (before : List Home) (s : State) → TopMade os before s
top_made_of [] before s = record { value = sym (append-nil before); pieces = refl; variables = sym (append-nil s.variables); arrays = sym (append-nil s.arrays); slots = refl }
top_made_of (o ∷ os) before s =
    let q = top_step (is_array o) o os before s (λ before1 s1. top_made_of os before1 s1) in
    record { value = q.value; pieces = q.pieces; variables = q.variables; arrays = q.arrays; slots = q.slots }

-- ---- the whole

-- The parts of the expansion of a program whose top function is this one, one after another.
module _ (p : CoreProgramTree) (fn : CoreFunctionTree) where
  abbrev pub top_params : List CoreObjectTree
  top_params = take fn.params fn.objects

  abbrev pub kept_part : Part (List Kept)
  kept_part = kept_scalars p.file [] nothing

  abbrev pub params_part : Part (List Home)
  params_part = top_parameters top_params [] kept_part.state

  abbrev pub file_part_of : Part (List Home)
  file_part_of = file_homes p.file kept_part.value [] params_part.state

  abbrev pub homes_part : Part (List Home)
  homes_part = locals (drop fn.params fn.objects) params_part.value file_part_of.state

  abbrev pub call_part : Part CallId
  call_part = next_call homes_part.state

  abbrev pub result_part : Part (Option VarId)
  result_part = fresh_result fn.result call_part.state

  abbrev pub top_call_of : Call
  top_call_of = outermost fn file_part_of.value (length kept_part.state.variables) homes_part.value call_part.value result_part.value

  abbrev pub run_part : Part (Unit {0})
  run_part = run_through (calls p.functions (length p.functions)) top_call_of fn result_part.state

  pub record IsOutlined : Type 0 where
    pub kept : kept_part.value ≡ keeps_from 0 p.file
    pub kept_variables : kept_part.state.variables ≡ kept_kinds p.file
    pub params : params_part.value ≡ tops_from (length (kept_kinds p.file)) 0 top_params
    pub params_variables : params_part.state.variables ≡ kept_kinds p.file ++ scalar_kinds top_params
    pub file : file_part_of.value ≡ homes_from 0 (length (hosts_of top_params)) p.file
    pub file_variables : file_part_of.state.variables ≡ params_part.state.variables
    pub file_arrays : file_part_of.state.arrays ≡ hosts_of top_params ++ files_of p.file
    pub file_slots : file_part_of.state.slots ≡ []
    pub more : List ArrayTree
    pub arrays : run_part.state.arrays ≡ (hosts_of top_params ++ files_of p.file) ++ more
    pub plain : ArePlain more
    pub kept_quiet : kept_part.pieces ≡ []
    pub params_quiet : params_part.pieces ≡ []
    pub file_quiet : file_part_of.pieces ≡ []

  pub is_outlined : IsOutlined
  is_outlined =
      let k = kept_made p.file [] nothing in
      let t = top_made_of top_params [] kept_part.state in
      let G = λ (kept : List Kept). ((file_homes p.file kept [] params_part.state).value ≡ homes_from 0 (length params_part.state.arrays) p.file)
      × ((file_homes p.file kept [] params_part.state).pieces ≡ [])
      × ((file_homes p.file kept [] params_part.state).state.variables ≡ params_part.state.variables)
      × ((file_homes p.file kept [] params_part.state).state.arrays ≡ params_part.state.arrays ++ files_of p.file)
      × ((file_homes p.file kept [] params_part.state).state.slots ≡ params_part.state.slots) in
      let m = file_made 0 p.file [] params_part.state in
      let f : G kept_part.value = subst G (sym k.value) (m.value, m.pieces, m.variables, m.arrays, m.slots) in
      let host_arrays : params_part.state.arrays ≡ hosts_of top_params = t.arrays ∙ ap (λ z. z ++ hosts_of top_params) k.arrays in
      let files : file_part_of.state.arrays ≡ hosts_of top_params ++ files_of p.file = f.3 ∙ ap (λ z. z ++ files_of p.file) host_arrays in
      let rest = adds_both file_part_of.state homes_part.state run_part.state (adds_locals (drop fn.params fn.objects) params_part.value file_part_of.state)
      (adds_both homes_part.state call_part.state run_part.state (adds_call homes_part.state) (adds_both call_part.state result_part.state run_part.state (adds_fresh_result fn.result call_part.state)
      (run_adds (calls p.functions (length p.functions)) top_call_of (λ callee given at s. calls_add p.functions (length p.functions) top_call_of callee given at s) fn result_part.state))) in
      record {
        kept = k.value;
        kept_variables = k.variables;
        params = t.value ∙ ap (λ z. tops_from z (length kept_part.state.arrays) top_params) (ap length k.variables) ∙ ap (λ z. tops_from (length (kept_kinds p.file)) z top_params) (ap length k.arrays);
        params_variables = t.variables ∙ ap (λ z. z ++ scalar_kinds top_params) k.variables;
        file = f.0 ∙ ap (λ z. homes_from 0 z p.file) (ap length host_arrays);
        file_variables = f.2;
        file_arrays = files;
        file_slots = f.4 ∙ t.slots ∙ k.slots;
        more = rest.more;
        arrays = rest.arrays ∙ ap (λ z. z ++ rest.more) files;
        plain = rest.plain;
        kept_quiet = k.pieces;
        params_quiet = t.pieces;
        file_quiet = f.1;
      }

  -- What the expansion is made of.
  pub record IsExpansion (e : ExpandedTree) : Type 0 where
    pub pieces : e.pieces ≡ piece_row (kept_part.pieces ++ (params_part.pieces ++ (file_part_of.pieces ++ (homes_part.pieces ++ ((call_part.pieces ++ (result_part.pieces ++ (run_part.pieces ++ []))) ++ [])))))
    pub variables : e.variables ≡ run_part.state.variables
    pub arrays : e.arrays ≡ run_part.state.arrays
    pub kept : e.kept ≡ kept_part.value
    pub params : e.params ≡ variables_of params_part.value
    pub ret : e.ret ≡ fn.result
    pub result : e.result ≡ result_part.value

  pub is_expansion : top_of p ≡ Some fn → IsExpansion (expansion p)
  unfolding then_
  is_expansion is_fn = subst (λ o. IsExpansion (named o (top_made p o))) (sym is_fn) here_
    where
      here_ : IsExpansion (named (Some fn) (top_made p (Some fn)))
      here_ = record { pieces = refl; variables = refl; arrays = refl; kept = refl; params = refl; ret = refl; result = refl }
