-- The expansion of a program has the program's run, wherever that is defined.
use Rattle.std.proofs.Common.{◌≡◌, ℕ, suc, ◌+◌, inl, inr, ◌∙◌, sym, refl, ap, subst, ℤ, true, false, List, [], ◌∷◌, ◌++◌, length, take, map, slice_get, Option, Some, None, arith}
use Rattle.std.proofs.lemmas.List.{append-nil}
use Rattle.std.proofs.lemmas.Option.{slice_get_within}
use Rattle.hls_base.specs.FileScope.{FileScope}
use Rattle.hls_base.specs.declared.point.Point.{Point}
use Rattle.hls_base.specs.declared.number.VarId.{VarId}
use Rattle.c_token.specs.declared.ctype.CType.{CType}
use Rattle.c_value.specs.Values.{pattern}
use Rattle.c_meaning.specs.Run.{ended, result_pattern, patterns}
use Rattle.pieces.specs.Resolved.Core.{CoreFunctionTree, CoreProgramTree}
use Rattle.pieces.specs.Program.{ArrayTree, ExpandedTree}
use Rattle.piece_making.specs.Objects.{array_like, file_info}
use Rattle.hls_base.specs.declared.number.Kept.{Kept}
use Rattle.expanded_programs.specs.Outlines.{keeps_from, files_of}
use Rattle.pieces.specs.Trees.{piece_row}
use Rattle.piece_making.specs.declared.frame.Home.TheVariants as home
use Rattle.piece_making.specs.Making.{State, next_call, variable_number}
use Rattle.hls_base.specs.Steps as Steps
use Rattle.hls_base.specs.Steps.{Outcome, Ran, ran}
use Rattle.hls_base.specs.Same.{Follows, Same}
use Rattle.c_meaning.specs.CoreRuns.Cells.{spot, Cells}
use Rattle.c_meaning.specs.CoreRuns.Runs as rs
use Rattle.c_meaning.specs.CoreRuns.Runs.{core_run}
use Rattle.c_meaning.specs.PieceRuns.Values.{Store}
use Rattle.c_meaning.specs.PieceRuns.Pieces.{Frame, Way, pieces_run}
use Rattle.c_meaning.specs.PieceRuns.Runs as pr
use Rattle.c_meaning.specs.PieceRuns.Runs.{frame_of, pieces_answer, result_word}
use Rattle.c_expand.specs.Statements.{result_variable}
use Rattle.c_expand.specs.Expansion as ex
use Rattle.c_expand.specs.Expansion.{expansion, is_array}
use Rattle.expand_runs.specs.Reading.{UnaryFits, BinaryFits}
use Rattle.expand_runs.specs.Growing.{IsWithin}
use Rattle.expand_runs.specs.Laws.{IsDefined, KeepsRuns}
use Rattle.expand_runs.specs.Showing.{IsShown}
use Rattle.expand_runs.proofs.Rows.{run_of}
use Rattle.expanded_programs.specs.Calls.Programs.{IsProgramSound}
use Rattle.expanded_programs.specs.Laws.{ExpansionKeepsRuns}
use Rattle.expanded_programs.proofs.Calls.Lists.{taken_get}
use Rattle.expanded_programs.proofs.Calls.Returning.{GivesResult}
use Rattle.expanded_programs.proofs.Calls.Callees.{result_made, callees_keep}
use Rattle.expanded_programs.proofs.Calls.Bodies.{IsLeft, body_same}
use Rattle.c_meaning.proofs.Results.{unary_fits, binary_fits}
use Rattle.expand_runs.proofs.PieceCounts.Calls.{calls_counted}
use Rattle.expanded_programs.proofs.Calls.Calls.{calls_same, each_unlabelled}
use Rattle.expanded_programs.proofs.Entries.{is_array_object}
use Rattle.expanded_programs.proofs.Filled.{array_words, scalar_words, info_kind, info_lengths}
use Rattle.expanded_programs.proofs.Outlines.{kept_part, params_part, file_part_of, homes_part, call_part, result_part, run_part, top_call_of}
use Rattle.expanded_programs.proofs.Ends.{plain_kept, files_hosts, hosts_kept, hosts_left, files_left}
use Rattle.expanded_programs.proofs.TopStores.{kept_count, host_count, outlined, made, all_arrays, IsStarted, is_started}
use Rattle.expanded_programs.proofs.TopFrames.{top_cells, top_here, top_setting, top_fresh, top_base, TopHomes, TopLives, top_known, top_first, top_frame, top_caller, top_scene, top_relates, locals_made}

-- ---- answers

-- Where the first run is defined, the second has its answer.
answers_same : (p : CoreProgramTree) (fn : CoreFunctionTree) (x : ExpandedTree) (k : ℕ) (R : Option ℤ → Cells → Way → Store → Type 0) (q : Ran Cells (Option ℤ)) (r : Ran Store Way)
    → ((v : Option ℤ) (s : Cells) (w : Way) (t : Store) → R v s w t → (result_word x x.ret x.result t ≡ result_pattern fn.result v) × (pr.host_arrays x.arrays 0 t ≡ rs.arrays_from 0 (rs.params_of fn) s) × (pr.kept_of x t ≡ rs.contents_from p.file 0 s))
    → Same false k R q r → IsDefined (rs.answer p fn q) → pr.answer x r ≡ rs.answer p fn q
answers_same p fn x k R q r left same defined_ = at_ q.trace q.outcome same defined_
  where
    at_ : (trace : List Point) (o : Outcome Cells (Option ℤ)) → Follows false k R trace o r → IsDefined (rs.answer_of p fn trace o) → pr.answer x r ≡ rs.answer_of p fn trace o
    at_ trace (Steps.went v s n) h d =
        let l = left v s h.0 h.1 h.4 in
        ap (pr.answer x) h.2 ∙ ap (λ z. ended z (pr.host_arrays x.arrays 0 h.1) (pr.kept_of x h.1) trace) l.0 ∙ ap (λ z. ended (result_pattern fn.result v) z (pr.kept_of x h.1) trace) l.1 ∙ ap (λ z. ended (result_pattern fn.result v) (rs.arrays_from 0 (rs.params_of fn) s) z trace) l.2
    at_ trace (Steps.undefined rule at) h d = absurd d
    at_ trace Steps.waiting h d = ap (pr.answer x) h

result_same : (x : ExpandedTree) (result : Option CType) (own : Option VarId) (v : Option ℤ) (t : Store) → ((k : CType) → result ≡ Some k → (m : VarId) × (own ≡ Some m)) → GivesResult result v → ((y : ℤ) → v ≡ Some y → t.variables (result_variable own).0 ≡ y) → result_word x result own t ≡ result_pattern result v
result_same x None own v t some_ gives number = refl
result_same x (Some k) own v t some_ gives number =
    let m = some_ k refl in
    let y = number gives.0 gives.1 in
    ap (λ z. result_word x (Some k) z t) m.1 ∙ ap (λ z. Some (pattern k z)) (ap (λ z. t.variables (result_variable z).0) (sym m.1) ∙ y) ∙ sym (ap (result_pattern (Some k)) gives.1)

call_quiet : (s : State) → (next_call s).pieces ≡ []
unfolding next_call
call_quiet s = refl

module _ (p : CoreProgramTree) (sound : IsProgramSound p) (fn : CoreFunctionTree) (is_fn : slice_get p.functions p.top ≡ Some fn) where
  abbrev E : ExpandedTree
  E = expansion p

  abbrev F : Frame
  F = frame_of (expansion p)

  module _ (kept : FileScope) (scalars : List ℕ) (arrays : List (List ℕ)) (t : Store) (start : IsStarted p sound fn is_fn kept scalars arrays t) where
    abbrev Left : Option ℤ → Cells → Way → Store → Type 0
    Left = IsLeft F (top_call_of p fn) (top_setting p sound fn is_fn kept scalars arrays t start) (TopHomes p sound fn is_fn kept scalars arrays t start) (TopLives p sound fn is_fn kept scalars arrays t start) (top_known p sound fn is_fn kept scalars arrays t start) true

    -- ---- the run

    top_same : (n : ℕ) → Same false (suc n) Left (rs.function (rs.calls n p.functions) true fn (rs.top_arguments 0 (rs.params_of fn) scalars) 1 [] (rs.started p fn kept arrays) n) (run_of F (run_part p fn).pieces t n)
    top_same n =
        let frame_ = top_frame p sound fn is_fn kept scalars arrays t start in
        let caller_ = top_caller p sound fn is_fn kept scalars arrays t start in
        let first_ = top_first p sound fn is_fn kept scalars arrays t start in
        let within_ : IsWithin (run_part p fn).state F = record { variables = λ i x h. ap (λ z. slice_get z i) (made p sound fn is_fn).variables ∙ h; arrays = λ i x h. ap (λ z. slice_get z i) (made p sound fn is_fn).arrays ∙ h } in
        body_same unary_fits binary_fits F n (top_here p sound fn is_fn kept scalars arrays t start) (top_call_of p fn) (top_setting p sound fn is_fn kept scalars arrays t start) (TopHomes p sound fn is_fn kept scalars arrays t start) (TopLives p sound fn is_fn kept scalars arrays t start) (top_known p sound fn is_fn kept scalars arrays t start)
        (top_fresh p sound fn is_fn kept scalars arrays t start) (top_base p sound fn is_fn kept scalars arrays t start) frame_ (rs.calls n p.functions) (ex.calls p.functions (length p.functions))
        (λ r1. callees_keep p sound F (file_part_of p fn).value (top_fresh p sound fn is_fn kept scalars arrays t start) first_ (top_setting p sound fn is_fn kept scalars arrays t start) r1 (length p.functions) (top_call_of p fn) refl refl refl)
        (λ r1 seen1 st1 scene1. calls_same p sound unary_fits binary_fits F (file_part_of p fn).value (top_fresh p sound fn is_fn kept scalars arrays t start) first_ (length p.functions) n (top_here p sound fn is_fn kept scalars arrays t start) (top_call_of p fn) (top_setting p sound fn is_fn kept scalars arrays t start)
        (TopHomes p sound fn is_fn kept scalars arrays t start) (TopLives p sound fn is_fn kept scalars arrays t start) (top_known p sound fn is_fn kept scalars arrays t start) (top_fresh p sound fn is_fn kept scalars arrays t start) (top_base p sound fn is_fn kept scalars arrays t start) frame_ caller_
        (λ j lt. (let top_rank = sound.ranked p.top fn is_fn in omega (arith, lt, top_rank))) r1 seen1 st1 scene1)
        (calls_counted p.functions (each_unlabelled p sound) (length p.functions) (top_call_of p fn)) fn refl true (result_part p fn).state (sound.functions p.top fn is_fn) (top_scene p sound fn is_fn kept scalars arrays t start) within_ (top_cells p sound fn is_fn kept scalars arrays t start) t n (omega arith) (top_relates p sound fn is_fn kept scalars arrays t start)

    -- ---- what is left

    module _ (v : Option ℤ) (s : Cells) (w : Way) (t1 : Store) (h : Left v s w t1) where
      shown : IsShown F (TopHomes p sound fn is_fn kept scalars arrays t start) (TopLives p sound fn is_fn kept scalars arrays t start) (top_known p sound fn is_fn kept scalars arrays t start) s t1
      shown = h.shown

      result_left : result_word E E.ret E.result t1 ≡ result_pattern fn.result v
      result_left =
          let there = result_made fn.result (call_part p fn).state in
          ap (λ z. result_word E z E.result t1) (made p sound fn is_fn).ret ∙ ap (λ z. result_word E fn.result z t1) (made p sound fn is_fn).result
          ∙ result_same E fn.result (result_part p fn).value v t1 (λ k e1. (variable_number (length (call_part p fn).state.variables), (there.some_ k e1).0)) (h.gives refl) h.number

      abbrev rest : List ArrayTree
      rest = files_of p.file ++ (outlined p sound fn is_fn).more

      arrays_left : pr.host_arrays E.arrays 0 t1 ≡ rs.arrays_from 0 (rs.params_of fn) s
      arrays_left =
          ap (λ z. pr.host_arrays z 0 t1) (all_arrays p sound fn is_fn)
          ∙ sym (hosts_left E s t1 (take fn.params fn.objects) rest 0 (kept_count p sound fn is_fn) 0 (λ i1. files_hosts E s t1 p.file (outlined p sound fn is_fn).more i1 (outlined p sound fn is_fn).plain)
          (λ j m o em e1 ea b eb.
          let is : m ≡ j = omega (arith, em) in
          let q = taken_get fn.params fn.objects j o e1 in
          let home_ = (locals_made p sound fn is_fn kept scalars arrays t start).begins j (home.Array b) (ap (λ z. slice_get z j) (outlined p sound fn is_fn).params ∙ eb) in
          let fits = shown.fits (spot 1 j) o (inr (refl, q.1)) (inr (j, b, refl, q.0, home_)) in
          subst (λ z. patterns (s (spot 1 z)) ≡ pr.words_of (array_like o None None true) (t1.elements b.0)) (sym is)
          (array_words F b (s (spot 1 j)) (array_like o None None true) t1 (shown.objects (spot 1 j) (home.Array b) (inr (j, b, refl, q.0, home_, refl)) (inr (j, b, refl, q.0, home_))) (shown.whole (spot 1 j) (inr (j, o, refl, e1, is_array_object o ea))) fits.0 fits.1)))

      contents_left : pr.kept_of E t1 ≡ rs.contents_from p.file 0 s
      contents_left =
          let words = λ (ks : List Kept). map (λ (k : Kept). pattern (pr.type_in E k.variable) (t1.variables k.variable.0)) ks in
          ap (λ z. record { scalars = words z; arrays = pr.kept_arrays E.arrays 0 t1 }) ((made p sound fn is_fn).kept ∙ (outlined p sound fn is_fn).kept)
          ∙ ap (λ z. record { scalars = words (keeps_from 0 p.file); arrays = z }) (ap (λ z. pr.kept_arrays z 0 t1) (all_arrays p sound fn is_fn) ∙ hosts_kept E s t1 (take fn.params fn.objects) rest 0)
          ∙ ap (λ z. record { scalars = words (keeps_from 0 p.file); arrays = pr.kept_arrays rest z t1 }) (let z : 0 + host_count p sound fn is_fn ≡ host_count p sound fn is_fn = omega arith in z)
          ∙ sym (files_left E s t1 p.file (outlined p sound fn is_fn).more 0 0 (host_count p sound fn is_fn) (λ i1. plain_kept E s t1 (outlined p sound fn is_fn).more i1 (outlined p sound fn is_fn).plain)
          (λ j m o em e1 not_const.
          let is : m ≡ j = omega (arith, em) in
          let lt = slice_get_within p.file j o e1 in
          let fits = shown.fits (spot 0 j) o.object (inl (j, o, refl, e1, refl)) (inl (j, refl, lt)) in
          let whole = shown.whole (spot 0 j) (inl (j, o, refl, e1, not_const)) in (
            λ u eu.
                let stands = shown.objects (spot 0 j) (home.Variable u) (inl (j, refl, ap (λ z. slice_get z j) (outlined p sound fn is_fn).file ∙ eu)) (inl (j, refl, lt)) in
                subst (λ z. patterns (s (spot 0 z)) ≡ pattern (pr.type_in E u) (t1.variables u.0) ∷ []) (sym is) (scalar_words F u (s (spot 0 j)) (pr.type_in E u) t1 stands whole stands.0),
            λ b eb.
                let stands = shown.objects (spot 0 j) (home.Array b) (inl (j, refl, ap (λ z. slice_get z j) (outlined p sound fn is_fn).file ∙ eb)) (inl (j, refl, lt)) in
                subst (λ z. patterns (s (spot 0 z)) ≡ pr.words_of (file_info o) (t1.elements b.0)) (sym is)
                (array_words F b (s (spot 0 j)) (file_info o) t1 stands whole (fits.0 ∙ sym (info_kind o)) (fits.1 ∙ sym (info_lengths o))),
          )))

  -- ---- the whole

  pieces_are : (kept : FileScope) (scalars : List ℕ) (arrays : List (List ℕ)) (t : Store) (start : IsStarted p sound fn is_fn kept scalars arrays t) → E.pieces ≡ piece_row (run_part p fn).pieces
  pieces_are kept scalars arrays t start =
      let k = (kept_part p fn).pieces in
      let a = (params_part p fn).pieces in
      let b = (file_part_of p fn).pieces in
      let h = (homes_part p fn).pieces in
      let c = (call_part p fn).pieces in
      let r = (result_part p fn).pieces in
      let x = (run_part p fn).pieces in
      let o = outlined p sound fn is_fn in
      (made p sound fn is_fn).pieces
      ∙ ap (λ z. piece_row (z ++ (a ++ (b ++ (h ++ ((c ++ (r ++ (x ++ []))) ++ [])))))) o.kept_quiet
      ∙ ap (λ z. piece_row (z ++ (b ++ (h ++ ((c ++ (r ++ (x ++ []))) ++ []))))) o.params_quiet
      ∙ ap (λ z. piece_row (z ++ (h ++ ((c ++ (r ++ (x ++ []))) ++ [])))) o.file_quiet
      ∙ ap (λ z. piece_row (z ++ ((c ++ (r ++ (x ++ []))) ++ []))) (locals_made p sound fn is_fn kept scalars arrays t start).pieces
      ∙ ap (λ z. piece_row ((z ++ (r ++ (x ++ []))) ++ [])) (call_quiet (homes_part p fn).state)
      ∙ ap (λ z. piece_row ((z ++ (x ++ [])) ++ [])) (result_made fn.result (call_part p fn).state).pieces
      ∙ ap (λ z. piece_row z) (append-nil (x ++ []) ∙ append-nil x)

  program_kept : KeepsRuns p
  program_kept first kept scalars arrays n typed fit defined_ =
      let t = pr.started E first kept scalars arrays in
      let start = is_started p sound fn is_fn first kept scalars arrays typed fit in
      let G = λ (o : Option CoreFunctionTree). IsDefined (rs.run_of p o kept scalars arrays n) → pieces_answer E first kept scalars arrays n ≡ rs.run_of p o kept scalars arrays n in
      let whole : G (Some fn) = λ d.
      (let q = rs.function (rs.calls n p.functions) true fn (rs.top_arguments 0 (rs.params_of fn) scalars) 1 [] (rs.started p fn kept arrays) n in
      ap (λ z. pr.answer E (pieces_run F z t n)) (pieces_are kept scalars arrays t start)
      ∙ answers_same p fn E (suc n) (Left kept scalars arrays t start) q (run_of F (run_part p fn).pieces t n) (λ v s w t1 h. (result_left kept scalars arrays t start v s w t1 h, arrays_left kept scalars arrays t start v s w t1 h, contents_left kept scalars arrays t start v s w t1 h)) (top_same kept scalars arrays t start n) d) in
      subst G (sym is_fn) whole defined_

pub expansion_kept : ExpansionKeepsRuns
expansion_kept p sound = program_kept p sound sound.top.0 sound.top.1
