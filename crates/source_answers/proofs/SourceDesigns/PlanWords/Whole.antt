-- Contents of a plan are contents of the expanded program whose frame it has.
use Rattle.std.proofs.Common.{◌≡◌, ◌∙◌, ◌+◌, ◌<◌, ◌^◌, ℕ, refl, ap, ap₂, sym, subst, arith, List, [], length, map, take, get_or, slice_get, Option, Some, None}
use Rattle.std.specs.Prelude.{slice_index, option_map, filter, count_by, is_some}
use Rattle.std.proofs.lemmas.Option.{none-some, same_Some, slice_get-map}
use Rattle.hls_base.specs.FileScope.{FileScope}
use Rattle.hls_base.specs.ArrayAddress.{addresses, address_bits}
use Rattle.hls_base.specs.declared.number.Kept.{Kept}
use Rattle.hls_base.specs.declared.number.VarId.{VarId}
use Rattle.ir_core.proofs.Rising.{addresses-rise}
use Rattle.c_value.specs.Values.{width}
use Rattle.pieces.specs.Program.{ArrayTree, ExpandedTree}
use Rattle.c_meaning.specs.PieceRuns.Values.{lengths_in}
use Rattle.c_meaning.specs.PieceRuns.Runs.{frame_of, variables_of}
use Rattle.ir_core.specs.declared.cfg.Cfg.{Cfg}
use Rattle.ir_core.specs.Value.{count_of}
use Rattle.ir_lower.specs.Frames.{FrameView, frame_view}
use Rattle.ir_core.specs.declared.timed.Timed.{Timed}
use Rattle.reg_binding.specs.declared.registers.Registers.{Registers}
use Rattle.compile_steps.specs.Resets.{expanded_frame}
use Rattle.ir_core.specs.Bodies.{Words}
use Rattle.ir_core.specs.FirstContents.{given_at}
use Rattle.pass_runs.specs.ConvertRuns.Typed.{Fits}
use Rattle.pass_runs.specs.ConvertRuns.LoweredConversions.Suiting.{widths_of, words_of}
use Rattle.pass_runs.specs.LowerRuns.Suits.{scope_of}
use Rattle.pass_runs.specs.LowerRuns.Showing.{AreShort}
use Rattle.pass_runs.specs.LowerRuns.Holding.{ArraysAreShort}
use Rattle.pass_runs.proofs.LowerRuns.OperatorWords.Resizing.{count_is}
use Rattle.timed_pieces.specs.StartedWords.Contents as words
use Rattle.timed_pieces.specs.StartedWords.Contents.{elements_at, host_words, kept_words, words_in, file_words}
use Rattle.timed_pieces.specs.StartedWords.FirstWords.{FillsArray, FillsIfAny, FillHosts, HasFirstContents}
use Rattle.timed_pieces.proofs.StartedWords.Places.{address_count}
use Rattle.timed_pieces.proofs.StartedWords.FirstWords.{short_dims, row_held}
use Rattle.timed_pieces.proofs.StartedWords.FirstWidths.{of_some}
use Rattle.compile_steps.specs.BegunPrograms.{InputsFill}
use Rattle.datapath.specs.Plans.{Plan, Savings, Array, no_array, array_at, host_arrays, plan_of}
use Rattle.datapath.specs.Answers.{Begins, HoldsArrays}
use Rattle.source_answers.specs.SourceDesigns.PlanWords.{PlansBegin, PlansHold}
use Rattle.source_answers.proofs.SourceDesigns.PlanWords.Frames.{array_in, arrays_are, array_there, none_there, kept_there, absent_there}
use Rattle.source_answers.proofs.SourceDesigns.PlanWords.Rows.{words_are, word_is, host_count, hosts_are, host_is, kept_are, kept_is}

module _ (e : ExpandedTree) (timed : Cfg Timed) (registers : Registers) (savings : Savings) (same : frame_view timed.frame ≡ expanded_frame e) where
  abbrev p : Plan
  p = plan_of timed registers savings

  pub arrays_same : p.arrays ≡ map array_in e.arrays
  arrays_same = arrays_are e timed same

  pub params_same : p.parameters ≡ e.params
  params_same = ap (λ (v : FrameView). v.params) same

  pub kept_same : p.kept ≡ e.kept
  kept_same = ap (λ (v : FrameView). v.kept) same

  pub widths_same : p.program.shapes.widths ≡ map width e.variables
  widths_same = ap (λ (v : FrameView). v.variables) same

  array_is : (j : ℕ) (a : ArrayTree) → slice_get e.arrays j ≡ Some a → array_at p j ≡ array_in a
  array_is j a at = ap (λ xs. get_or xs j no_array) arrays_same ∙ array_there e.arrays j a at

  hosts_counted : (given : List (List ℕ)) → FillHosts e.arrays given → length (host_arrays p) ≡ length given
  hosts_counted given fill = ap (λ xs. length (filter (λ (x : Array). x.host) xs)) arrays_same ∙ host_count e.arrays given fill

  -- the scalar of this number that is kept
  kept_variable : (ks : List Kept) (k : ℕ) (s : Kept) → slice_get ks k ≡ Some s → slice_get (variables_of ks) k ≡ Some s.variable
  kept_variable ks k s at = slice_get-map (λ (x : Kept). x.variable) ks k ∙ ap (option_map (λ (x : Kept). x.variable)) at

  -- the scalar of this number, by its variable
  kept_there_at : (ks : List Kept) (k : ℕ) (v : VarId) → slice_get (variables_of ks) k ≡ Some v → (s : Kept) × (slice_get ks k ≡ Some s) × (s.variable ≡ v)
  kept_there_at ks k v at = by (slice_get ks k) refl (sym (slice_get-map (λ (x : Kept). x.variable) ks k) ∙ at) where
    by : (o : Option Kept) → slice_get ks k ≡ o → option_map (λ (x : Kept). x.variable) o ≡ Some v → (s : Kept) × (slice_get ks k ≡ Some s) × (s.variable ≡ v)
    by None is h = absurd (none-some v h)
    by (Some s) is h = (s, is, same_Some s.variable v h)

  -- ---- as a run begins

  module _ (short : ArraysAreShort (frame_of e)) (contents : HasFirstContents e) (kept : FileScope) (scalars : List ℕ) (arrays : List (List ℕ)) (t : Words) (fill : InputsFill e kept scalars arrays) (begins : Begins p kept scalars arrays t) where
    params_are : words_in e.params t.variables ≡ scalars
    params_are = words_are e e.params scalars t.variables fill.params (λ k v at. begins.arguments_ k v (ap (λ vs. slice_get vs k) params_same ∙ at))

    hosts_held : host_words e.arrays 0 t.memories ≡ arrays
    hosts_held = hosts_are e.arrays arrays 0 t.memories fill.hosts (λ j a at lt.
        ap (λ n. elements_at a.lengths (t.memories n)) (let z : 0 + j ≡ j = omega arith in z)
        ∙ ap (λ (x : Array). elements_at x.dims (t.memories j)) (sym (array_is j a at))
        ∙ begins.holds.host j (let count = hosts_counted arrays fill.hosts in omega (arith, lt, count)))

    scalars_held : words_in (variables_of e.kept) t.variables ≡ kept.scalars
    scalars_held = words_are e (variables_of e.kept) kept.scalars t.variables fill.kept_scalars (λ k v at.
        let s = kept_there_at e.kept k v at in
        ap (λ (x : VarId). t.variables x.0) (sym s.2) ∙ begins.holds.scalars k s.0 (ap (λ ks. slice_get ks k) kept_same ∙ s.1))

    rows_held : kept_words e.arrays 0 t.memories ≡ kept.arrays
    rows_held = kept_are e.arrays kept.arrays 0 t.memories fill.kept_arrays (λ j a first at own.
        ap (λ n. elements_at a.lengths (t.memories n)) (let z : 0 + j ≡ j = omega arith in z)
        ∙ ap (λ (x : Array). elements_at x.dims (t.memories j)) (sym (array_is j a at))
        ∙ begins.holds.file j first (ap (λ (x : Array). x.first) (array_is j a at) ∙ own)
        ∙ ap (λ xs. get_or kept.arrays (count_by (λ (b : Array). is_some b.first) (take j xs)) []) arrays_same)

    file_held : file_words e t ≡ kept
    file_held = ap₂ (λ (xs : List ℕ) (rows : List (List ℕ)). record { scalars = xs; arrays = rows }) scalars_held rows_held

    tables_held : (i : ℕ) (a : ArrayTree) (row : List ℕ) → slice_get e.arrays i ≡ Some a → a.table ≡ Some row → elements_at a.lengths (t.memories i) ≡ row
    tables_held i a row at own =
        let is = array_is i a at in
        let fills : FillsArray a row = subst (FillsIfAny a) own (contents.arrays i a at).table in
        row_held 0 (2 ^ address_bits a.lengths) (addresses a.lengths) row (t.memories i) (λ q. 0)
        (addresses-rise a.lengths (short_dims a.lengths (subst (λ l. AreShort l) (ap lengths_in at) (short i)))) (fills.0 ∙ sym (address_count a.lengths))
        (λ q low high. begins.tables i q row (ap (λ (x : Array). x.table) is ∙ own) (subst (λ (x : Array). q < 2 ^ address_bits x.dims) (sym is) high) ∙ ap (λ (x : Array). given_at (addresses x.dims) row q 0) is)

    words_begin : words.Begins e kept scalars arrays t
    words_begin = record {
      params = params_are;
      hosts = hosts_held;
      file = file_held;
      tables = tables_held;
      nothing = λ i none address. begins.widths.nothing i (ap (λ xs. slice_get xs i) arrays_same ∙ absent_there e.arrays i none) address;
    }

    words_fit : Fits (widths_of (scope_of (frame_of e))) (words_of (scope_of (frame_of e))) t
    words_fit = record { variables = variables; memories = memories } where
      variables : (v n : ℕ) → slice_get (map width e.variables) v ≡ Some n → t.variables v < count_of n
      variables v n at =
          let k = of_some width (slice_get e.variables v) n (sym (slice_get-map width e.variables v) ∙ at) in
          subst (λ m. t.variables v < count_of m) k.2 (subst (λ m. t.variables v < m) (sym (count_is k.0)) (subst (λ m. t.variables v < 2 ^ m) (sym k.2) (begins.widths.variables v n (ap (λ xs. slice_get xs v) widths_same ∙ at))))

      memories : (m n : ℕ) → slice_get (map (λ (a : ArrayTree). width a.kind) e.arrays) m ≡ Some n → (address : ℕ) → t.memories m address < count_of n
      memories m n at address =
          let a = of_some (λ (b : ArrayTree). width b.kind) (slice_get e.arrays m) n (sym (slice_get-map (λ (b : ArrayTree). width b.kind) e.arrays m) ∙ at) in
          let low = begins.widths.arrays m (array_in a.0) (ap (λ xs. slice_get xs m) arrays_same ∙ kept_there e.arrays m a.0 a.1) address in
          subst (λ z. t.memories m address < count_of z) a.2 (subst (λ z. t.memories m address < z) (sym (count_is a.0.kind)) low)

  -- ---- as a run ends

  module _ (given : List (List ℕ)) (fill : FillHosts e.arrays given) (t : Words) where
    words_hold : HoldsArrays p (file_words e t) (host_words e.arrays 0 t.memories) t
    words_hold = record { scalars = scalars; host = host; file = file } where
      scalars : (k : ℕ) (s : Kept) → slice_get p.kept k ≡ Some s → t.variables s.variable.0 ≡ slice_index (words_in (variables_of e.kept) t.variables) k
      scalars k s at = word_is (variables_of e.kept) t.variables k s.variable (kept_variable e.kept k s (ap (λ ks. slice_get ks k) (sym kept_same) ∙ at))

      host : (j : ℕ) → j < length (host_arrays p) → elements_at (array_at p j).dims (t.memories j) ≡ get_or (host_words e.arrays 0 t.memories) j []
      host j lt =
          let q = host_is e.arrays given 0 t.memories fill j (let count = hosts_counted given fill in omega (arith, lt, count)) in
          ap (λ (x : Array). elements_at x.dims (t.memories j)) (array_is j q.0 q.1) ∙ ap (λ n. elements_at q.0.lengths (t.memories n)) (let z : j ≡ 0 + j = omega arith in z) ∙ q.2

      file : (j : ℕ) (first : List ℕ) → (array_at p j).first ≡ Some first → elements_at (array_at p j).dims (t.memories j) ≡ get_or (kept_words e.arrays 0 t.memories) (count_by (λ (b : Array). is_some b.first) (take j p.arrays)) []
      file j first own = by (slice_get e.arrays j) refl where
        by : (o : Option ArrayTree) → slice_get e.arrays j ≡ o → elements_at (array_at p j).dims (t.memories j) ≡ get_or (kept_words e.arrays 0 t.memories) (count_by (λ (b : Array). is_some b.first) (take j p.arrays)) []
        by None none = absurd (none-some first (ap (λ (x : Array). x.first) (sym (ap (λ xs. get_or xs j no_array) arrays_same ∙ none_there e.arrays j none)) ∙ own))
        by (Some a) at =
            ap (λ (x : Array). elements_at x.dims (t.memories j)) (array_is j a at) ∙ ap (λ n. elements_at a.lengths (t.memories n)) (let z : j ≡ 0 + j = omega arith in z)
            ∙ kept_is e.arrays 0 t.memories j a first at (ap (λ (x : Array). x.first) (sym (array_is j a at)) ∙ own)
            ∙ ap (λ xs. get_or (kept_words e.arrays 0 t.memories) (count_by (λ (b : Array). is_some b.first) (take j xs)) []) (sym arrays_same)

pub plans_begin : PlansBegin
plans_begin e timed registers savings same short contents kept scalars arrays t fill begins =
    (words_begin e timed registers savings same short contents kept scalars arrays t fill begins, words_fit e timed registers savings same short contents kept scalars arrays t fill begins)

pub plans_hold : PlansHold
plans_hold e timed registers savings same given fill kept arrays t hosts file =
    subst (λ k. HoldsArrays (plan_of timed registers savings) k arrays t) file (subst (λ rows. HoldsArrays (plan_of timed registers savings) (file_words e t) rows t) hosts (words_hold e timed registers savings same given fill t))
