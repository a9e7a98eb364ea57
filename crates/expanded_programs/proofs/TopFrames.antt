-- What stands for the objects of file scope and of the top function.
use Rattle.std.proofs.Common.{◌≡◌, ℕ, ◌+◌, ◌<◌, ◌⊎◌, inl, inr, ◌∙◌, sym, refl, ap, subst, false, true≢false, List, [], ◌∷◌, length, take, drop, slice_get, Option, Some, None, le_refl, arith}
use Rattle.std.proofs.lemmas.Bool.{cases_lt}
use Rattle.std.proofs.lemmas.List.{length-append, length-take-le}
use Rattle.std.proofs.lemmas.Option.{none-some, same_Some, slice_get_within}
use Rattle.hls_base.specs.FileScope.{FileScope}
use Rattle.hls_base.specs.declared.number.VarId.{VarId}
use Rattle.hls_base.specs.declared.number.ArrayId.{ArrayId}
use Rattle.c_token.specs.declared.ctype.CType.{CType}
use Rattle.c_value.specs.Values.{int_type, number_of, convert}
use Rattle.c_meaning.specs.Store.{Object, scalar}
use Rattle.c_meaning.specs.Run.{filled}
use Rattle.pieces.specs.Resolved.Core.{CoreObjectTree, FileObjectTree, CoreFunctionTree, CoreProgramTree}
use Rattle.piece_making.specs.declared.frame.Home.{Home}
use Rattle.piece_making.specs.declared.frame.Home.TheVariants as home
use Rattle.piece_making.specs.Making.{variable_number}
use Rattle.piece_making.specs.Calls.{Call}
use Rattle.c_meaning.specs.CoreRuns.Cells.{Spot, spot, Cells, Given, Here, spot_given}
use Rattle.c_meaning.specs.CoreRuns.Runs as rs
use Rattle.c_meaning.specs.PieceRuns.Values.{Store, lengths_in}
use Rattle.c_meaning.specs.PieceRuns.Pieces.{Frame, type_of, kind_in}
use Rattle.expand_runs.specs.Growing.{IsLater}
use Rattle.expand_runs.specs.Showing.{Known, IsShown, IsApart, IsWhole, Stands}
use Rattle.expand_runs.proofs.Growing.{later_both}
use Rattle.expanded_programs.specs.Statements.Scopes.{Setting, IsScalar, IsArray}
use Rattle.expanded_programs.specs.Statements.Frames.{FileStands, OwnStands, IsFrame, IsScene, Relates}
use Rattle.expanded_programs.specs.Calls.Programs.{at_start, IsFunctionSound, IsProgramSound}
use Rattle.expanded_programs.specs.Outlines.{kept_kinds, files_of, hosts_of, scalar_kinds}
use Rattle.expanded_programs.proofs.Calls.Lists.{get_taken, taken_get, taken_past, get_behind, get_within, IsRest, rest_dropped, length_dropped}
use Rattle.expanded_programs.proofs.Calls.Owning.{AreOwn, same_variable}
use Rattle.expanded_programs.proofs.Calls.Homes.{AllStand, Made, locals_stand, locals_own, locals_later}
use Rattle.expanded_programs.proofs.Calls.Callees.{setting_at, FileFirst, ResultMade, result_made}
use Rattle.expanded_programs.proofs.Distincts.{AreDistinct, file_distinct, tops_distinct, tops_length, same_array, not_array_variable, IsArrayHome}
use Rattle.expanded_programs.proofs.Entries.{HasFrom, FileEntry, TopEntry, file_entries, top_entries, hosts_earlier}
use Rattle.expanded_programs.proofs.Filled.{filled_whole, row_stands, word_stands, info_kind, info_lengths}
use Rattle.expanded_programs.proofs.Calls.Frames.{call_calls, call_later, IsCaller}
use Rattle.expanded_programs.proofs.Calls.Giving.{parameters_stored}
use Rattle.expanded_programs.proofs.Outlines.{kept_part, params_part, file_part_of, homes_part, call_part, result_part, top_call_of}
use Rattle.expanded_programs.proofs.Calls.Starting.{nothing_seen, relates_started}
use Rattle.expanded_programs.proofs.TopStores.{e, f, kept_count, host_count, outlined, kept_types, params_types, host_arrays_, file_arrays_, later_homes, later_result, IsStarted}
use Rattle.expanded_programs.proofs.Words.{word_number}

abbrev file_kind : Option FileObjectTree → CType
file_kind None = int_type
file_kind (Some o) = o.object.kind

zero_not_one : ◌≡◌ {A = ℕ} 0 1 → ⊥
zero_not_one h = omega (arith, h)

module _ (p : CoreProgramTree) (sound : IsProgramSound p) (fn : CoreFunctionTree) (is_fn : slice_get p.functions p.top ≡ Some fn) (kept : FileScope) (scalars : List ℕ) (arrays : List (List ℕ)) (t : Store) (start : IsStarted p sound fn is_fn kept scalars arrays t) where
  abbrev F : Frame
  F = f p sound fn is_fn

  abbrev ps : List CoreObjectTree
  ps = take fn.params fn.objects

  abbrev pub top_given : List Given
  top_given = rs.top_arguments 0 (take fn.params fn.objects) scalars

  abbrev pub top_before : Cells
  top_before = rs.started p fn kept arrays

  abbrev pub top_cells : Cells
  top_cells = rs.parameters 1 0 (take fn.params fn.objects) top_given top_before

  abbrev pub top_here : Here
  top_here = rs.here_in fn top_given 1 []

  abbrev c : Call
  c = top_call_of p fn

  abbrev pub top_setting : Setting
  top_setting = setting_at p sound p.top fn

  abbrev pub top_fresh : ℕ
  top_fresh = length (kept_part p fn).state.variables

  abbrev pub top_base : ℕ
  top_base = length (result_part p fn).state.variables

  -- objects of file scope, and arrays of the host
  abbrev pub TopHomes : Spot → Home → Type 0
  TopHomes x h = ((i : ℕ) × (x ≡ spot 0 i) × (slice_get (file_part_of p fn).value i ≡ Some h)) ⊎ ((i : ℕ) × (a : ArrayId) × (x ≡ spot 1 i) × (i < fn.params) × (slice_get (homes_part p fn).value i ≡ Some (home.Array a)) × (h ≡ home.Array a))

  abbrev pub TopLives : Spot → Type 0
  TopLives x = ((i : ℕ) × (x ≡ spot 0 i) × (i < length p.file)) ⊎ ((i : ℕ) × (a : ArrayId) × (x ≡ spot 1 i) × (i < fn.params) × (slice_get (homes_part p fn).value i ≡ Some (home.Array a)))

  abbrev pub top_known : Known
  top_known = record {
    types = λ x. file_kind (slice_get p.file x.number);
    Whole = λ x. ((i : ℕ) × (o : FileObjectTree) × (x ≡ spot 0 i) × (slice_get p.file i ≡ Some o) × (o.object.constant ≡ false)) ⊎ ((i : ℕ) × (o : CoreObjectTree) × (x ≡ spot 1 i) × (slice_get (take fn.params fn.objects) i ≡ Some o) × IsArray o);
    Declared = λ x o. ((i : ℕ) × (d : FileObjectTree) × (x ≡ spot 0 i) × (slice_get p.file i ≡ Some d) × (d.object ≡ o)) ⊎ ((x.frame ≡ 1) × (slice_get fn.objects x.number ≡ Some o));
  }

  -- ---- entries

  file_at : (i : ℕ) (o : FileObjectTree) → slice_get p.file i ≡ Some o → FileEntry (e p sound fn is_fn).variables (e p sound fn is_fn).arrays t o (slice_get (file_part_of p fn).value i) (slice_get (rs.file_store p.file kept) i)
  file_at i o e1 =
      subst (λ z. FileEntry (e p sound fn is_fn).variables (e p sound fn is_fn).arrays t o (slice_get z i) (slice_get (rs.file_store p.file kept) i)) (sym (outlined p sound fn is_fn).file)
      (file_entries (e p sound fn is_fn).variables (e p sound fn is_fn).arrays t p.file sound.constants 0 (host_count p sound fn is_fn) kept (kept_types p sound fn is_fn) (file_arrays_ p sound fn is_fn) start.file_fill start.kept_hold start.files_hold i o e1)

  top_at : (i : ℕ) (o : CoreObjectTree) → slice_get ps i ≡ Some o → TopEntry (e p sound fn is_fn).variables (e p sound fn is_fn).arrays t o (slice_get (params_part p fn).value i) (slice_get top_given i) (spot 1 i) (top_before (spot 1 i))
  top_at i o e1 =
      subst (λ z. TopEntry (e p sound fn is_fn).variables (e p sound fn is_fn).arrays t o (slice_get z i) (slice_get top_given i) (spot 1 i) (top_before (spot 1 i))) (sym (outlined p sound fn is_fn).params)
      (top_entries (e p sound fn is_fn).variables (e p sound fn is_fn).arrays t ps 0 (kept_count p sound fn is_fn) 0 scalars arrays (rs.stored (rs.file_store p.file kept)) (params_types p sound fn is_fn) (host_arrays_ p sound fn is_fn) start.param_fill start.scalars_hold start.hosts_hold i i o (omega arith) e1)

  -- ---- homes

  fs : IsFunctionSound top_setting fn
  fs = sound.functions p.top fn is_fn

  count_params : length (params_part p fn).value ≡ fn.params
  count_params = ap length (outlined p sound fn is_fn).params ∙ tops_length ps (kept_count p sound fn is_fn) 0 ∙ length-take-le fn.params fn.objects fs.params

  types_before : HasFrom (file_part_of p fn).state.variables (kept_count p sound fn is_fn) (scalar_kinds ps)
  types_before j m x e1 e2 = ap (λ z. slice_get z m) ((outlined p sound fn is_fn).file_variables ∙ (outlined p sound fn is_fn).params_variables) ∙ get_behind (kept_kinds p.file) (scalar_kinds ps) j m e1 ∙ e2

  stand_before : AllStand fn.objects fn.params (file_part_of p fn).state.variables (params_part p fn).value
  stand_before i o lt e1 =
      let less : i < fn.params = (let n = count_params in omega (arith, lt, n)) in
      let q = subst (λ z. TopEntry (file_part_of p fn).state.variables (e p sound fn is_fn).arrays t o (slice_get z i) (slice_get top_given i) (spot 1 i) (top_before (spot 1 i))) (sym (outlined p sound fn is_fn).params)
      (top_entries (file_part_of p fn).state.variables (e p sound fn is_fn).arrays t ps 0 (kept_count p sound fn is_fn) 0 scalars arrays (rs.stored (rs.file_store p.file kept)) types_before (host_arrays_ p sound fn is_fn) start.param_fill start.scalars_hold start.hosts_hold i i o (omega arith) (get_taken fn.params fn.objects i less ∙ e1)) in
      elim q [
        | inl w ↦ inl (w.0, w.1, w.2, w.3)
        | inr w ↦ inr (inl (w.0, less, w.1, w.2))
      ]

  pub locals_made : Made fn.objects fn.params (drop fn.params fn.objects) (params_part p fn).value (file_part_of p fn).state
  locals_made = (let n = count_params in
      locals_stand fn.objects fn.params (drop fn.params fn.objects) (params_part p fn).value (file_part_of p fn).state (subst (λ z. IsRest fn.objects z (drop fn.params fn.objects)) (sym n) (rest_dropped fn.objects fn.params)) (omega (arith, n)) stand_before)

  abbrev file_all : AreDistinct 0 (0 + kept_count p sound fn is_fn) (host_count p sound fn is_fn) (host_count p sound fn is_fn + length (files_of p.file)) (file_part_of p fn).value
  file_all = subst (AreDistinct 0 (0 + kept_count p sound fn is_fn) (host_count p sound fn is_fn) (host_count p sound fn is_fn + length (files_of p.file))) (sym (outlined p sound fn is_fn).file) (file_distinct p.file 0 (0 + kept_count p sound fn is_fn) (host_count p sound fn is_fn) (host_count p sound fn is_fn + length (files_of p.file)) (le_refl _) (le_refl _))

  abbrev params_all : AreDistinct (kept_count p sound fn is_fn) (kept_count p sound fn is_fn + length (scalar_kinds ps)) 0 (0 + host_count p sound fn is_fn) (params_part p fn).value
  params_all = subst (AreDistinct (kept_count p sound fn is_fn) (kept_count p sound fn is_fn + length (scalar_kinds ps)) 0 (0 + host_count p sound fn is_fn)) (sym (outlined p sound fn is_fn).params) (tops_distinct ps (kept_count p sound fn is_fn) (kept_count p sound fn is_fn + length (scalar_kinds ps)) 0 (0 + host_count p sound fn is_fn) (le_refl _) (le_refl _))

  fresh_is : top_fresh ≡ kept_count p sound fn is_fn
  fresh_is = ap length (outlined p sound fn is_fn).kept_variables

  own_before : AreOwn top_fresh 0 (params_part p fn).value (file_part_of p fn).state
  own_before =
      let size : length (file_part_of p fn).state.variables ≡ kept_count p sound fn is_fn + length (scalar_kinds ps) = ap length ((outlined p sound fn is_fn).file_variables ∙ (outlined p sound fn is_fn).params_variables) ∙ length-append (kept_kinds p.file) (scalar_kinds ps) in
      let n = fresh_is in
      record {
        variables = λ i own e1. (let q = params_all.variables i own e1 in (let a = q.0 in omega (arith, a, n), let b = q.1 in omega (arith, b, size)));
        names = params_all.names;
        places = λ i slot e1. absurd (params_all.no_slots i slot e1);
        place_names = λ i j slot slot' e1 e2 q. absurd (params_all.no_slots i slot e1);
      }

  own_homes : AreOwn top_fresh 0 (homes_part p fn).value (homes_part p fn).state
  own_homes =
      let size : length (file_part_of p fn).state.variables ≡ kept_count p sound fn is_fn + length (scalar_kinds ps) = ap length ((outlined p sound fn is_fn).file_variables ∙ (outlined p sound fn is_fn).params_variables) ∙ length-append (kept_kinds p.file) (scalar_kinds ps) in
      let n = fresh_is in
      locals_own top_fresh 0 (drop fn.params fn.objects) (params_part p fn).value (file_part_of p fn).state (omega (arith, size, n)) (omega arith) own_before

  result_there : ResultMade fn.result (call_part p fn).state
  result_there = result_made fn.result (call_part p fn).state

  homes_grown : IsLater (file_part_of p fn).state (homes_part p fn).state
  homes_grown = locals_later F (drop fn.params fn.objects) (params_part p fn).value (file_part_of p fn).state

  behind_homes : IsLater (homes_part p fn).state (result_part p fn).state
  behind_homes = later_both (homes_part p fn).state (call_part p fn).state (result_part p fn).state (call_later (homes_part p fn).state) result_there.later

  -- an array among the homes of parameters
  host_home : (i : ℕ) (a : ArrayId) → i < fn.params → slice_get (homes_part p fn).value i ≡ Some (home.Array a) → (o : CoreObjectTree) × (slice_get ps i ≡ Some o) × IsArray o × (b : ArrayId) × (b ≡ a) × (slice_get (params_part p fn).value i ≡ Some (home.Array b))
  host_home i a lt e1 =
      let w = get_within fn.objects i (let le = fs.params in omega (arith, lt, le)) in
      let at_ : slice_get ps i ≡ Some w.0 = get_taken fn.params fn.objects i lt ∙ w.1 in
      elim (top_at i w.0 at_) [
        | inl q ↦ absurd (not_array_variable a q.1 (sym e1 ∙ locals_made.begins i (home.Variable q.1) q.2))
        | inr q ↦ (w.0, at_, q.0, q.1, same_array q.1 a (sym (locals_made.begins i (home.Array q.1) q.2) ∙ e1), q.2)
      ]

  -- ---- file scope

  pub record FileShown (i : ℕ) (o : FileObjectTree) : Type 0 where
    pub object : Object
    pub at_ : top_cells (spot 0 i) ≡ object
    pub kind_ : object.kind ≡ o.object.kind
    pub lengths_ : object.lengths ≡ o.object.lengths
    pub stands : (h : Home) → slice_get (file_part_of p fn).value i ≡ Some h → Stands F h object t
    pub whole : o.object.constant ≡ false → IsWhole object
    pub file : FileStands F top_known c TopHomes i o

  cells_file : (i : ℕ) (x : Object) → slice_get (rs.file_store p.file kept) i ≡ Some x → top_cells (spot 0 i) ≡ x
  cells_file i x e1 =
      (parameters_stored 1 0 ps top_given top_before).elsewhere (spot 0 i) zero_not_one
      ∙ hosts_earlier (e p sound fn is_fn).variables (e p sound fn is_fn).arrays t ps 0 arrays (rs.stored (rs.file_store p.file kept)) (spot 0 i) (λ h. absurd (zero_not_one h)) ∙ ap rs.object_or_none e1

  pub file_shown : (i : ℕ) (o : FileObjectTree) → slice_get p.file i ≡ Some o → FileShown i o
  file_shown i o e1 = elim (file_at i o e1) [
    | inl q ↦
        let type_ = ap type_of q.4 in
        record {
          object = filled o.object.kind [] (q.5 ∷ []);
          at_ = cells_file i (filled o.object.kind [] (q.5 ∷ [])) q.7;
          kind_ = refl;
          lengths_ = sym q.0;
          stands = λ h e2. subst (λ z. Stands F z (filled o.object.kind [] (q.5 ∷ [])) t) (same_Some (home.Variable q.2) h (sym q.3 ∙ e2)) (word_stands F q.2 o.object.kind q.5 t type_ q.8);
          whole = λ k. filled_whole o.object.kind [] (q.5 ∷ []) refl;
          file = inl (q.0, inl (q.2, q.3, inl (i, refl, q.3), type_));
        }
    | inr r ↦ elim r [
      | inl q ↦
          record {
            object = filled o.object.kind [] (q.2 ∷ []);
            at_ = cells_file i (filled o.object.kind [] (q.2 ∷ [])) q.5;
            kind_ = refl;
            lengths_ = sym q.0;
            stands = λ h e2. subst (λ z. Stands F z (filled o.object.kind [] (q.2 ∷ [])) t) (same_Some (home.Constant q.2) h (sym q.3 ∙ e2)) (refl, λ v e3. same_Some (number_of o.object.kind q.2) v e3);
            whole = λ k. absurd (true≢false (sym q.1 ∙ k));
            file = inl (q.0, inr (q.1, q.2, q.3, inl (i, refl, q.3), ap file_kind e1, word_number o.object.kind q.2 q.4));
          }
      | inr q ↦
          let kind_b = ap kind_in q.3 ∙ info_kind o in
          record {
            object = filled o.object.kind o.object.lengths q.4;
            at_ = cells_file i (filled o.object.kind o.object.lengths q.4) q.6;
            kind_ = refl;
            lengths_ = refl;
            stands = λ h e2. subst (λ z. Stands F z (filled o.object.kind o.object.lengths q.4) t) (same_Some (home.Array q.1) h (sym q.2 ∙ e2)) (row_stands F q.1 o.object.kind o.object.lengths q.4 t kind_b (ap lengths_in q.3 ∙ info_lengths o) q.7);
            whole = λ k. filled_whole o.object.kind o.object.lengths q.4 q.5.0;
            file = inr (q.0, q.1, q.2, inl (i, refl, q.2), kind_b);
          }
    ]
  ]

  pub top_first : FileFirst p sound (file_part_of p fn).value top_fresh
  top_first i o e1 is_scalar_ not_const = elim (file_at i o e1) [
    | inl q ↦ (q.2, q.3, (let lt = (file_all.variables i q.2 q.3).1 in let n = fresh_is in omega (arith, lt, n)))
    | inr r ↦ elim r [ inl q ↦ absurd (true≢false (sym q.1 ∙ not_const)) | inr q ↦ absurd (q.0 is_scalar_) ]
  ]

  -- ---- arrays of the host

  pub record HostShown (i : ℕ) (o : CoreObjectTree) (b : ArrayId) : Type 0 where
    pub object : Object
    pub at_ : top_cells (spot 1 i) ≡ object
    pub kind_ : object.kind ≡ o.kind
    pub lengths_ : object.lengths ≡ o.lengths
    pub stands : Stands F (home.Array b) object t
    pub whole : IsWhole object

  pub host_shown : (i : ℕ) (o : CoreObjectTree) (b : ArrayId) → slice_get ps i ≡ Some o → slice_get (params_part p fn).value i ≡ Some (home.Array b) → HostShown i o b
  host_shown i o b e1 e2 = elim (top_at i o e1) [
    | inl q ↦ absurd (not_array_variable b q.1 (sym e2 ∙ q.2))
    | inr q ↦
        let is : q.1 ≡ b = same_array q.1 b (sym q.2 ∙ e2) in
        let at_b = subst (λ z. top_cells (spot 1 z) ≡ top_before (spot 1 z)) (let z : 0 + i ≡ i = omega arith in z) ((parameters_stored 1 0 ps top_given top_before).given_arrays i (spot 1 i) q.6) in
        record {
          object = filled o.kind o.lengths q.4;
          at_ = at_b ∙ q.7;
          kind_ = refl;
          lengths_ = refl;
          stands = subst (λ z. Stands F (home.Array z) (filled o.kind o.lengths q.4) t) is (row_stands F q.1 o.kind o.lengths q.4 t (ap kind_in q.3) (ap lengths_in q.3) q.8);
          whole = filled_whole o.kind o.lengths q.4 q.5.0;
        }
  ]

  -- ---- the frame

  no_frame : (x : Spot) (i j : ℕ) → x ≡ spot 0 i → x ≡ spot 1 j → ⊥
  no_frame x i j e1 e2 = zero_not_one (ap (λ (z : Spot). z.frame) (sym e1 ∙ e2))

  same_index : (d i j : ℕ) (x : Spot) → x ≡ spot d i → x ≡ spot d j → i ≡ j
  same_index d i j x e1 e2 = ap (λ (z : Spot). z.number) (sym e1 ∙ e2)

  no_variable : (own : VarId) (a : ArrayId) → home.Variable own ≡ home.Array a → ⊥
  no_variable own a e1 = not_array_variable a own (ap Some (sym e1))

  array_same : (a b : ArrayId) → home.Array a ≡ home.Array b → a ≡ b
  array_same a b e1 = same_array a b (ap Some e1)

  -- the number of an array of the host
  host_low : (i : ℕ) (a : ArrayId) → i < fn.params → slice_get (homes_part p fn).value i ≡ Some (home.Array a) → a.0 < host_count p sound fn is_fn
  host_low i a lt e1 =
      let w = host_home i a lt e1 in
      let q = (params_all.arrays i w.3 w.5).1 in
      let s = ap (λ (z : ArrayId). z.0) w.4 in
      omega (arith, q, s)

  apart_ : IsApart TopHomes
  apart_ = record {
    one = λ x h g a b. elim a [
      | inl u ↦ elim b [
        | inl v ↦ same_Some h g (sym u.2 ∙ ap (slice_get (file_part_of p fn).value) (same_index 0 u.0 v.0 x u.1 v.1) ∙ v.2)
        | inr v ↦ absurd (no_frame x u.0 v.0 u.1 v.2)
      ]
      | inr u ↦ elim b [
        | inl v ↦ absurd (no_frame x v.0 u.0 v.1 u.2)
        | inr v ↦ u.5 ∙ same_Some (home.Array u.1) (home.Array v.1) (sym u.4 ∙ ap (slice_get (homes_part p fn).value) (same_index 1 u.0 v.0 x u.2 v.2) ∙ v.4) ∙ sym v.5
      ]
    ];
    variables = λ x y own own' a b same. elim a [
      | inl u ↦ elim b [
        | inl v ↦ u.1 ∙ ap (spot 0) (file_all.names u.0 v.0 own own' u.2 v.2 same) ∙ sym v.1
        | inr v ↦ absurd (no_variable own' v.1 v.5)
      ]
      | inr u ↦ absurd (no_variable own u.1 u.5)
    ];
    arrays = λ x y c1 c2 a b same. elim a [
      | inl u ↦ elim b [
        | inl v ↦ u.1 ∙ ap (spot 0) (file_all.array_names u.0 v.0 c1 c2 u.2 v.2 same) ∙ sym v.1
        | inr v ↦ absurd (let ge = (file_all.arrays u.0 c1 u.2).0 in let lt = host_low v.0 v.1 v.3 v.4 in let s = ap (λ (z : ArrayId). z.0) (array_same c2 v.1 v.5) in omega (arith, ge, lt, s, same))
      ]
      | inr u ↦ elim b [
        | inl v ↦ absurd (let ge = (file_all.arrays v.0 c2 v.2).0 in let lt = host_low u.0 u.1 u.3 u.4 in let s = ap (λ (z : ArrayId). z.0) (array_same c1 u.1 u.5) in omega (arith, ge, lt, s, same))
        | inr v ↦
            let wu = host_home u.0 u.1 u.3 u.4 in
            let wv = host_home v.0 v.1 v.3 v.4 in
            let su = ap (λ (z : ArrayId). z.0) (wu.4 ∙ sym (array_same c1 u.1 u.5)) in
            let sv = ap (λ (z : ArrayId). z.0) (wv.4 ∙ sym (array_same c2 v.1 v.5)) in
            u.2 ∙ ap (spot 1) (params_all.array_names u.0 v.0 wu.3 wv.3 wu.5 wv.5 (su ∙ same ∙ sym sv)) ∙ sym v.2
      ]
    ];
  }

  spot_scalar : (i : ℕ) (o : CoreObjectTree) → slice_get fn.objects i ≡ Some o → IsScalar o → top_here.spots i ≡ spot 1 i
  spot_scalar i o e1 is_scalar_ = elim (cases_lt i fn.params) [
    | inl lt ↦ elim (top_at i o (get_taken fn.params fn.objects i lt ∙ e1)) [
      | inl q ↦ ap (spot_given 1 i) (get_taken fn.params top_given i lt ∙ q.6)
      | inr q ↦ absurd (q.0 is_scalar_)
    ]
    | inr ge ↦ ap (spot_given 1 i) (taken_past fn.params top_given i ge)
  ]

  own_stands : (i : ℕ) (o : CoreObjectTree) → slice_get fn.objects i ≡ Some o → OwnStands F top_here c top_setting TopHomes TopLives i o
  own_stands i o e1 =
      let lt0 = slice_get_within fn.objects i o e1 in
      let n = locals_made.count in
      let m = count_params in
      let d = length_dropped fn.params fn.objects fs.params in
      elim (locals_made.stand i o (omega (arith, lt0, n, m, d)) e1) [
        | inl q ↦ inl (q.0, q.1, q.2, ap type_of (later_homes p sound fn is_fn q.1.0 o.kind q.3), spot_scalar i o e1 q.0)
        | inr r ↦ elim r [
          | inl q ↦ elim (top_at i o (get_taken fn.params fn.objects i q.1 ∙ e1)) [
            | inl w ↦ absurd (q.0 w.0)
            | inr w ↦
                let there : top_here.spots i ≡ spot 1 i = ap (spot_given 1 i) (get_taken fn.params top_given i q.1 ∙ w.6) in
                let home_ : slice_get (homes_part p fn).value i ≡ Some (home.Array w.1) = locals_made.begins i (home.Array w.1) w.2 in
                inr (inl (q.0, q.1, w.1, home_, inr (i, w.1, there, q.1, home_, refl), inr (i, w.1, there, q.1, home_), ap kind_in w.3))
          ]
          | inr q ↦ inr (inr q)
        ]
      ]

  pub top_frame : IsFrame F top_here c top_setting TopHomes TopLives top_known top_fresh top_base
  top_frame =
      let n = fresh_is in
      let grown = homes_grown.more in
      let behind_ = behind_homes.more in
      let size : length (file_part_of p fn).state.variables ≡ kept_count p sound fn is_fn + length (scalar_kinds ps) = ap length ((outlined p sound fn is_fn).file_variables ∙ (outlined p sound fn is_fn).params_variables) ∙ length-append (kept_kinds p.file) (scalar_kinds ps) in
      record {
        path = refl;
        file_low = le_refl top_fresh;
        low = omega (arith, n, grown, behind_, size);
        apart = apart_;
        below = λ x own a. elim a [
          | inl u ↦ (let lt = (file_all.variables u.0 own u.2).1 in omega (arith, lt, n))
          | inr u ↦ absurd (no_variable own u.1 u.5)
        ];
        frames = λ x h i a e1. elim a [
          | inl u ↦ absurd (no_frame x u.0 i u.1 e1)
          | inr u ↦ (u.1, ap (slice_get (homes_part p fn).value) (same_index 1 i u.0 x e1 u.2) ∙ u.4)
        ];
        lives = λ x i a e1. elim a [
          | inl u ↦ absurd (no_frame x u.0 i u.1 e1)
          | inr u ↦ (u.1, ap (slice_get (homes_part p fn).value) (same_index 1 i u.0 x e1 u.2) ∙ u.4)
        ];
        file = λ i o e1. ((file_shown i o e1).file, inl (i, refl, slice_get_within p.file i o e1));
        file_names = file_all.names;
        file_bounded = λ i own e1. (let lt = (file_all.variables i own e1).1 in omega (arith, lt, n));
        file_slots = file_all.no_slots;
        own = own_stands;
        own_names = own_homes.names;
        own_bounded = λ i own e1. (let q = own_homes.variables i own e1 in (q.0, let lt = q.1 in omega (arith, lt, behind_)));
        own_slots = own_homes.place_names;
        spots = λ i le. ap (spot_given 1 i) (taken_past fn.params top_given i le);
        objects = refl;
        call_objects = refl;
        result = refl;
        set = λ kd e1. (
            let q = result_there.some_ kd e1 in
            let up1 = (call_later (homes_part p fn).state).more in
            (variable_number (length (call_part p fn).state.variables), q.0, omega (arith, n, grown, size, up1), q.2, ap type_of (later_result p sound fn is_fn (length (call_part p fn).state.variables) kd q.1)));
        whole = λ i le w. elim w [
          | inl u ↦ no_frame (spot 1 i) u.0 i u.2 refl
          | inr u ↦ (let lt = (taken_get fn.params fn.objects u.0 u.1 u.3).0 in let s = same_index 1 i u.0 (spot 1 i) refl u.2 in omega (arith, lt, s, le))
        ];
        declared = λ i o d. elim d [
          | inl u ↦ absurd (no_frame (spot 1 i) u.0 i u.2 refl)
          | inr u ↦ u.1
        ];
        declares = λ i o le e1. inr (refl, e1);
      }

  pub top_caller : IsCaller p sound F (file_part_of p fn).value top_fresh top_here c top_setting TopHomes TopLives top_known
  top_caller = record {
    of_file = refl;
    of_variables = refl;
    is_file = refl;
    is_functions = refl;
    frames = λ x h a. elim a [ inl u ↦ (let q = ap (λ (z : Spot). z.frame) u.1 in omega (arith, q)) | inr u ↦ (let q = ap (λ (z : Spot). z.frame) u.2 in omega (arith, q)) ];
    lives = λ x a. elim a [ inl u ↦ (let q = ap (λ (z : Spot). z.frame) u.1 in omega (arith, q)) | inr u ↦ (let q = ap (λ (z : Spot). z.frame) u.2 in omega (arith, q)) ];
    whole = λ x a. elim a [ inl u ↦ (let q = ap (λ (z : Spot). z.frame) u.2 in omega (arith, q)) | inr u ↦ (let q = ap (λ (z : Spot). z.frame) u.2 in omega (arith, q)) ];
  }

  pub top_scene : IsScene F c top_setting TopHomes top_base (at_start top_setting) nothing_seen (result_part p fn).state
  top_scene =
      let numbers = call_calls (homes_part p fn).state in
      let result_calls = result_there.later.calls in
      let more_slots = behind_homes.more_slots in
      let grown = homes_grown.more_arrays in
      let behind_ = behind_homes.more_arrays in
      let size : length (file_part_of p fn).state.arrays ≡ host_count p sound fn is_fn + length (files_of p.file) = ap length (outlined p sound fn is_fn).file_arrays ∙ length-append (hosts_of ps) (files_of p.file) in
      record {
        low = le_refl top_base;
        called = (let a = numbers.0 in let b = numbers.1 in omega (arith, a, b, result_calls));
        slots = λ i slot e1. (let lt = (own_homes.places i slot e1).1 in omega (arith, lt, more_slots));
        noted = λ i slot a e1 z. absurd (none-some a z);
        arrays = λ x a h. elim h [
          | inl u ↦ (let lt = (file_all.arrays u.0 a u.2).1 in omega (arith, lt, size, grown, behind_))
          | inr u ↦ (let lt = host_low u.0 u.1 u.3 u.4 in let s = ap (λ (z : ArrayId). z.0) (array_same a u.1 u.5) in omega (arith, lt, s, size, grown, behind_))
        ];
        seen_low = λ i a z. absurd (none-some a z);
        seen_apart = λ x a i b h z. absurd (none-some b z);
        seen_own = λ i j a b z z' e1. absurd (none-some a z);
        seen_fits = λ i a o z e1. absurd (none-some a z);
        ready = λ i slot e1 z. absurd z;
        unready = λ i a z. absurd (none-some a z);
      }

  -- ---- stores

  file_object_at : (i j : ℕ) (x : Spot) → x ≡ spot 0 i → x ≡ spot 0 j → j < length p.file → (o : FileObjectTree) × (slice_get p.file i ≡ Some o)
  file_object_at i j x e1 e2 lt = (let w = get_within p.file j lt in (w.0, ap (slice_get p.file) (same_index 0 i j x e1 e2) ∙ w.1))

  top_shown : IsShown F TopHomes TopLives top_known top_cells t
  top_shown = record {
    objects = λ x h a l. elim a [
      | inl u ↦ elim l [
        | inl v ↦
            let w = file_object_at u.0 v.0 x u.1 v.1 v.2 in
            let q = file_shown u.0 w.0 w.1 in
            subst (λ z. Stands F h z t) (sym (ap top_cells u.1 ∙ q.at_)) (q.stands h u.2)
        | inr v ↦ absurd (no_frame x u.0 v.0 u.1 v.2)
      ]
      | inr u ↦
          let w = host_home u.0 u.1 u.3 u.4 in
          let q = host_shown u.0 w.0 w.3 w.1 w.5 in
          subst (λ z. Stands F h z t) (sym (ap top_cells u.2 ∙ q.at_)) (subst (λ z. Stands F z q.object t) (ap home.Array w.4 ∙ sym u.5) q.stands)
    ];
    kinds = λ x word a l. elim a [
      | inl u ↦ elim l [
        | inl v ↦
            let w = file_object_at u.0 v.0 x u.1 v.1 v.2 in
            let q = file_shown u.0 w.0 w.1 in
            ap (λ (z : Object). z.kind) (ap top_cells u.1 ∙ q.at_) ∙ q.kind_ ∙ sym (ap (λ (z : Spot). file_kind (slice_get p.file z.number)) u.1 ∙ ap file_kind w.1)
        | inr v ↦ absurd (no_frame x u.0 v.0 u.1 v.2)
      ]
      | inr u ↦ absurd (no_constant word u.1 u.5)
    ];
    whole = λ x w. elim w [
      | inl u ↦ (let q = file_shown u.0 u.1 u.3 in subst IsWhole (sym (ap top_cells u.2 ∙ q.at_)) (q.whole u.4))
      | inr u ↦ elim (top_at u.0 u.1 u.3) [
        | inl q ↦ absurd (u.4 q.0)
        | inr q ↦ (let h = host_shown u.0 u.1 q.1 u.3 q.2 in subst IsWhole (sym (ap top_cells u.2 ∙ h.at_)) h.whole)
      ]
    ];
    fits = λ x o d l. elim d [
      | inl u ↦
          let q = file_shown u.0 u.1 u.3 in
          (ap (λ (z : Object). z.kind) (ap top_cells u.2 ∙ q.at_) ∙ q.kind_ ∙ ap (λ (z : CoreObjectTree). z.kind) u.4, ap (λ (z : Object). z.lengths) (ap top_cells u.2 ∙ q.at_) ∙ q.lengths_ ∙ ap (λ (z : CoreObjectTree). z.lengths) u.4)
      | inr u ↦ elim l [
        | inl v ↦ absurd (zero_not_one (sym (ap (λ (z : Spot). z.frame) v.1) ∙ u.0))
        | inr v ↦
            let w = host_home v.0 v.1 v.3 v.4 in
            let q = host_shown v.0 w.0 w.3 w.1 w.5 in
            let same : w.0 ≡ o = same_Some w.0 o (sym (taken_get fn.params fn.objects v.0 w.0 w.1).1 ∙ ap (λ (z : Spot). slice_get fn.objects z.number) (sym v.2) ∙ u.1) in
            (ap (λ (z : Object). z.kind) (ap top_cells v.2 ∙ q.at_) ∙ q.kind_ ∙ ap (λ (z : CoreObjectTree). z.kind) same, ap (λ (z : Object). z.lengths) (ap top_cells v.2 ∙ q.at_) ∙ q.lengths_ ∙ ap (λ (z : CoreObjectTree). z.lengths) same)
      ]
    ];
  }
    where
      no_constant : (word : ℕ) (a : ArrayId) → home.Constant word ≡ home.Array a → ⊥
      no_constant word a e1 = subst IsArrayHome (sym e1) tt

  pub top_relates : Relates F top_here c TopHomes TopLives top_known (at_start top_setting) nothing_seen top_cells t
  top_relates =
      relates_started F top_here c top_setting TopHomes TopLives top_known top_fresh top_base top_frame top_cells t top_shown start.typed
      (λ i o e1 is_scalar_ lt. elim (top_at i o (get_taken fn.params fn.objects i lt ∙ e1)) [
        | inl q ↦ (
          number_of o.kind q.4,
          subst (λ z. top_cells (spot 1 z) ≡ scalar o.kind (convert o.kind (number_of o.kind q.4))) (let z : 0 + i ≡ i = omega arith in z) ((parameters_stored 1 0 ps top_given top_before).held i o (number_of o.kind q.4) (get_taken fn.params fn.objects i lt ∙ e1) q.6)
              ∙ ap (scalar o.kind) (word_number o.kind q.4 q.5),
          λ own e2. ap (λ (z : VarId). t.variables z.0) (same_variable own q.1 (sym e2 ∙ locals_made.begins i (home.Variable q.1) q.2)) ∙ q.7,
        )
        | inr q ↦ absurd (q.0 is_scalar_)
      ])
