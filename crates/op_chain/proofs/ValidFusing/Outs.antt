-- What stands behind the operations of a valid body fits once pairs are fused: outs, the test, and the end.
use Rattle.std.proofs.Common.{◌≡◌, ◌≢◌, ◌∙◌, ◌+◌, ◌<◌, ℕ, suc, refl, sym, ap, Bool, true, false, not, List, [], ◌∷◌, length, map, take, get_or, Option, Some, None, arith}
use Rattle.std.specs.Prelude.{◌==◌, nat_lt, slice_get, option_to_list}
use Rattle.std.specs.List.{list_all}
use Rattle.std.specs.Option.{option_map}
use Rattle.std.proofs.lemmas.Bool.{or_parts, or_from, eqb-true, not-true, false≢true, eqb-false, ltb-true, ltb-false}
use Rattle.std.proofs.lemmas.Option.{slice_get_within}
use Rattle.ir_core.specs.declared.body.Operand.{Operand}
use Rattle.ir_core.specs.declared.body.Out.{Out}
use Rattle.ir_core.specs.declared.body.Source.{Source}
use Rattle.ir_core.specs.declared.body.Source.TheVariants as source
use Rattle.ir_core.specs.declared.cfg.Frame.{Frame}
use Rattle.ir_core.specs.Bodies.{OpTree}
use Rattle.ir_core.specs.Timing.{result_bits}
use Rattle.ir_core.specs.TreeRuns.{tested_by, tested}
use Rattle.ir_layout.specs.Nodes.{EndTree, jumps, branches, chooses, returns}
use Rattle.program_validity.specs.Operands.{is_exactly}
use Rattle.program_validity.specs.Bodies.{names_result, is_result, is_result_out, is_named_again, name_different}
use Rattle.op_chain.specs.declared.choices.Taking.{Taking}
use Rattle.op_chain.specs.Reads.{out_operands, end_operands}
use Rattle.op_chain.specs.Fusing.{moved_source, moved, moved_out, moved_case, moved_end, is_taken}
use Rattle.op_chain.proofs.ValidFusing.Trees as trees
use Rattle.op_chain.proofs.ValidFusing.Trees.{stores_none}
use Rattle.op_chain.proofs.ValidFusing.Bridge.{both_same}
use Rattle.op_chain.proofs.ValidFusing.Kept.{IsKept, AllKept}
use Rattle.op_chain.proofs.ValidFusing.Moved.{operand_same, operand_if_same}
use Rattle.op_chain.proofs.ValidFusing.States.{State, is_same, same_if}
use Rattle.op_chain.proofs.ValidFusing.Fused.{first_of, second_of}

-- ---- what is named is there

abbrev IsWithin : ℕ → Source → Type 0
IsWithin n (source.Result j) = j.0 < n
IsWithin n s = Unit {0}

module _ (widths : List ℕ) (carried : List Out) (ops : List OpTree) where
  bits_within : (bits : ℕ) (s : Source) → trees.bits_fit widths carried ops bits s ≡ true → IsWithin (length ops) s
  bits_within bits (source.Constant c) h = tt
  bits_within bits (source.Variable v) h = tt
  bits_within bits (source.Result j) h = by (slice_get ops j.0) refl h where
    by : (found : Option OpTree) → slice_get ops j.0 ≡ found → is_exactly bits (option_map (λ (t : OpTree). result_bits t.kind t.bits) found) ≡ true → j.0 < length ops
    by None at k = absurd (false≢true k)
    by (Some t) at k = slice_get_within ops j.0 t at

  operand_within : (bits : ℕ) (x : Operand) → trees.operand_fits widths carried ops bits x ≡ true → IsWithin (length ops) x.value
  operand_within bits x h = bits_within bits x.value (first_of (trees.bits_fit widths carried ops bits x.value) _ h)

abbrev AllWithin : ℕ → List Out → Type 0
AllWithin n [] = Unit {0}
AllWithin n (x ∷ xs) = IsWithin n x.value.value × AllWithin n xs

-- ---- behind these operations, which have become those

module _ (f : Frame) (carried : List Out) (whole : List ℕ) (all : List (Option Taking)) (before behind : List OpTree) (now : List ℕ) (state : State all before behind now) where
  abbrev widths : List ℕ
  widths = f.variables.items

  abbrev outs : List Out
  outs = map (moved_out whole) carried

  operand_moved : (bits : ℕ) (x : Operand) → IsKept all x → trees.operand_fits widths carried before bits x ≡ trees.operand_fits widths outs behind bits (moved now x)
  operand_moved bits x kept = operand_same widths carried whole before behind now bits x (is_same widths carried whole all before behind now state x kept)

  pub test_moved : (x : Option Operand) → AllKept all (option_to_list x) → trees.operand_if_fits widths carried before 1 x ≡ trees.operand_if_fits widths outs behind 1 (option_map (moved now) x)
  test_moved x kept = operand_if_same widths carried whole before behind now 1 x (same_if widths carried whole all before behind now state x kept)

  -- ---- outs

  set_moved : (x : Out) (bits : Option ℕ) → IsKept all x.value → trees.set_fits f carried before x bits ≡ trees.set_fits f outs behind (moved_out now x) bits
  set_moved x None kept = refl
  set_moved x (Some bits) kept = operand_moved bits x.value kept

  pub outs_moved : (xs : List Out) → AllKept all (out_operands xs) → list_all (trees.out_fits f carried before) xs ≡ list_all (trees.out_fits f outs behind) (map (moved_out now) xs)
  outs_moved [] kept = refl
  outs_moved (x ∷ xs) kept = both_same (set_moved x (slice_get widths x.variable.0) kept.0) (outs_moved xs kept.1)

  set_within : (x : Out) (bits : Option ℕ) → trees.set_fits f carried before x bits ≡ true → IsWithin (length before) x.value.value
  set_within x None h = absurd (false≢true h)
  set_within x (Some bits) h = operand_within widths carried before bits x.value h

  outs_within : (xs : List Out) → list_all (trees.out_fits f carried before) xs ≡ true → AllWithin (length before) xs
  outs_within [] h = tt
  outs_within (x ∷ xs) h = (let first = trees.out_fits f carried before x in (set_within x (slice_get widths x.variable.0) (first_of first _ h), outs_within xs (second_of first _ h)))

  -- ---- outs of loops

  result_moved : (s : Source) → is_result s ≡ is_result (moved_source now s)
  result_moved (source.Constant c) = refl
  result_moved (source.Variable v) = refl
  result_moved (source.Result j) = refl

  pub results_moved : (xs : List Out) → list_all is_result_out xs ≡ list_all is_result_out (map (moved_out now) xs)
  results_moved [] = refl
  results_moved (x ∷ xs) = both_same (result_moved x.value.value) (results_moved xs)

  -- different operations that are kept become different ones
  numbers_apart : (j k : ℕ) → is_taken all j ≡ false → is_taken all k ≡ false → j < length before → k < length before → (j == k) ≡ false → (get_or now j j == get_or now k k) ≡ false
  numbers_apart j k kj kk lj lk apart = by (get_or now j j == get_or now k k) refl where
    less : (a b : ℕ) → is_taken all a ≡ false → b < length before → a < b → get_or now a a ≢ get_or now b b
    less a b ka lb low same = (let h = state.ordered a b ka low lb in omega (arith, h, same))

    clash : get_or now j j ≡ get_or now k k → (c : Bool) → nat_lt j k ≡ c → ⊥
    clash same true e = less j k kj lk (ltb-true j k e) same
    clash same false e = (let above = ltb-false j k e in let other = eqb-false j k apart in less k j kk lj (omega (arith, above, other)) (sym same))

    by : (c : Bool) → (get_or now j j == get_or now k k) ≡ c → c ≡ false
    by false e = refl
    by true e = absurd (clash (eqb-true (get_or now j j) (get_or now k k) e) (nat_lt j k) refl)

  names_apart : (x y : Operand) (s t : Source) → x.value ≡ s → y.value ≡ t → IsKept all x → IsKept all y → IsWithin (length before) s → IsWithin (length before) t → names_result s t ≡ false → names_result (moved_source now s) (moved_source now t) ≡ false
  names_apart x y (source.Result j) (source.Result k) ex ey kx ky wx wy h = numbers_apart j.0 k.0 (kx j ex) (ky k ey) wx wy h
  names_apart x y (source.Result j) (source.Constant c) ex ey kx ky wx wy h = refl
  names_apart x y (source.Result j) (source.Variable v) ex ey kx ky wx wy h = refl
  names_apart x y (source.Constant c) t ex ey kx ky wx wy h = refl
  names_apart x y (source.Variable v) t ex ey kx ky wx wy h = refl

  again_apart : (x : Out) (xs : List Out) → IsKept all x.value → AllKept all (out_operands xs) → IsWithin (length before) x.value.value → AllWithin (length before) xs → is_named_again x xs ≡ false → is_named_again (moved_out now x) (map (moved_out now) xs) ≡ false
  again_apart x [] kept all_kept within all_within h = refl
  again_apart x (y ∷ ys) kept all_kept within all_within h =
      let parts = or_parts (names_result x.value.value y.value.value) (is_named_again x ys) h in
      or_from (names_result (moved_source now x.value.value) (moved_source now y.value.value)) (is_named_again (moved_out now x) (map (moved_out now) ys))
      (names_apart x.value y.value x.value.value y.value.value refl refl kept all_kept.0 within all_within.0 parts.0) (again_apart x ys kept all_kept.1 within all_within.1 parts.1)

  different_outs : (xs : List Out) → AllKept all (out_operands xs) → AllWithin (length before) xs → name_different xs ≡ true → name_different (map (moved_out now) xs) ≡ true
  different_outs [] kept within h = refl
  different_outs (x ∷ xs) kept within h =
      let again = not-true (is_named_again x xs) (first_of (not (is_named_again x xs)) _ h) in
      both_same (ap not (again_apart x xs kept.0 kept.1 within.0 within.1 again)) (different_outs xs kept.1 within.1 (second_of (not (is_named_again x xs)) _ h))

  pub outs_different : (xs : List Out) → AllKept all (out_operands xs) → list_all (trees.out_fits f carried before) xs ≡ true → name_different xs ≡ true → name_different (map (moved_out now) xs) ≡ true
  outs_different xs kept fits h = different_outs xs kept (outs_within xs fits) h

  -- ---- stores

  stores_by : (x : Operand) (s : Source) → x.value ≡ s → IsKept all x → IsWithin (length before) s → list_all stores_none (take (tested_by s) before) ≡ true → list_all stores_none (take (tested_by (moved_source now s)) behind) ≡ true
  stores_by x (source.Constant c) is kept within h = refl
  stores_by x (source.Variable v) is kept within h = refl
  stores_by x (source.Result j) is kept within h =
      let old : j.0 + 1 ≡ suc j.0 = omega arith in
      let new : get_or now j.0 j.0 + 1 ≡ suc (get_or now j.0 j.0) = omega arith in
      ap (λ n. list_all stores_none (take n behind)) new ∙ state.fronts j.0 (kept j is) within (ap (λ n. list_all stores_none (take n before)) (sym old) ∙ h)

  pub stores_moved : (x : Option Operand) → AllKept all (option_to_list x) → trees.operand_if_fits widths carried before 1 x ≡ true → list_all stores_none (take (tested x) before) ≡ true → list_all stores_none (take (tested (option_map (moved now) x)) behind) ≡ true
  stores_moved None kept fits h = refl
  stores_moved (Some x) kept fits h = stores_by x x.value refl kept.0 (operand_within widths carried before 1 x fits) h

-- ---- ends

module _ (f : Frame) (all : List (Option Taking)) (before behind : List OpTree) (now : List ℕ) (state : State all before behind now) (count : ℕ) where
  end_operand : (bits : ℕ) (x : Operand) → IsKept all x → trees.operand_fits f.variables.items [] before bits x ≡ trees.operand_fits f.variables.items [] behind bits (moved now x)
  end_operand bits x kept = operand_moved f [] [] all before behind now state bits x kept

  cases_moved : (cases : List (Operand × ℕ)) → AllKept all (map (λ (c : Operand × ℕ). c.0) cases) → list_all (trees.case_fits f before count) cases ≡ list_all (trees.case_fits f behind count) (map (moved_case now) cases)
  cases_moved [] kept = refl
  cases_moved (c ∷ cs) kept = both_same (both_same (end_operand 1 c.0 kept.0) refl) (cases_moved cs kept.1)

  pub end_moved : (e : EndTree) → AllKept all (end_operands e) → trees.end_fits f before count e ≡ trees.end_fits f behind count (moved_end now e)
  end_moved (jumps next) kept = refl
  end_moved (branches test left right) kept = both_same (end_operand 1 test kept.0) refl
  end_moved (chooses cases other) kept = both_same (cases_moved cases kept) refl
  end_moved (returns None) kept = refl
  end_moved (returns (Some x)) kept = both_same refl (end_operand f.ret x kept.0)
