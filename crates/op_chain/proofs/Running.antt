-- The fused nodes run as the nodes do, unless these are undefined.
use Rattle.std.proofs.Common.{◌≡◌, ◌∙◌, ℕ, zero, suc, ◌+◌, ◌<◌, Bool, true, false, List, [], ◌∷◌, ◌++◌, map, length, take, drop, Option, Some, None, inl, refl, sym, ap, ap₂, subst, arith, get_or, length-append}
use Rattle.std.specs.Prelude.{not, ◌==◌, slice_get, if◌then◌else◌}
use Rattle.std.specs.Option.{option_map, option_to_list}
use Rattle.std.proofs.lemmas.List.{append-nil, take-append-drop, get_or_append_left}
use Rattle.std.proofs.lemmas.Option.{slice_get-get_or}
use Rattle.hls_base.specs.declared.point.Point.{Point}
use Rattle.hls_base.specs.Steps.{Ran, goes, reached}
use Rattle.hls_base.specs.Valued.{Valued, is, faulty, and_then, valued}
use Rattle.ir_core.specs.declared.body.OpKind.TheVariants as o
use Rattle.ir_core.specs.declared.body.Operand.{Operand}
use Rattle.ir_core.specs.declared.body.Out.{Out}
use Rattle.ir_core.specs.declared.body.Source.{Source}
use Rattle.ir_core.specs.declared.body.Source.TheVariants as source
use Rattle.ir_core.specs.Bodies.{OpTree, Shapes, Words, Performed, Ranged, operand, with_word, perform, operations, outs, with_outs}
use Rattle.ir_core.specs.Trees.{BodyTree}
use Rattle.ir_core.specs.TreeRuns.{Turn, again, over, out, holds, if_again, repeat, way_behind, tested_by, tested, goes_round, iteration, overlapped_run}
use Rattle.ir_core.specs.FlatRuns.{to, ends}
use Rattle.ir_layout.specs.Nodes.{EndTree, jumps, branches, chooses, returns}
use Rattle.op_chain.specs.declared.choices.Taking.{Taking}
use Rattle.op_chain.specs.Reads.{out_operands, end_operands}
use Rattle.op_chain.specs.Fusing.{moved_source, moved, moved_out, moved_case, moved_end, is_taken, Made, in_front, made, made_by, body_with}
use Rattle.op_chain.proofs.Refining.{Refines, same, equal, then_refines, reached_refines, undefined_refines}
use Rattle.op_chain.proofs.Keeping.{Kept, AllKept, Suits, Holds, Reached, Comes, operand_moved, sim}
use Rattle.op_chain.proofs.Splitting.{made_append, now_front, now_count, stands, take_front, drop_front}
use Rattle.op_chain.proofs.Plain.{case_chosen, going_of, plain_left}

-- ---- parts of runs

if_refines : {S A : Type 0} → (b c : Bool) (r s r2 s2 : Ran S A) → c ≡ b → Refines r r2 → Refines s s2 → Refines (if b then r else s) (if c then r2 else s2)
if_refines b c r s r2 s2 e h k = subst (λ d. Refines (if b then r else s) (if d then r2 else s2)) (sym e) (by_test b) where
  by_test : (d : Bool) → Refines (if d then r else s) (if d then r2 else s2)
  by_test true = h
  by_test false = k

repeat_refines : (k : ℕ) (f g : Words → ℕ → Ran Words Turn) → ((t : Words) (n : ℕ) → Refines (f t n) (g t n)) → (t : Words) (n : ℕ) → Refines (repeat k f t n) (repeat k g t n)
repeat_refines zero f g h t n = inl refl
repeat_refines (suc k) f g h t n =
    then_refines (f t n) (g t n) (λ w t1 n1. if_again w (repeat k f) t1 n1) (λ w t1 n1. if_again w (repeat k g) t1 n1) (h t n) (by_turn (λ t1 n1. repeat_refines k f g h t1 n1)) where
      by_turn : ((t1 : Words) (n1 : ℕ) → Refines (repeat k f t1 n1) (repeat k g t1 n1)) → (w : Turn) (t1 : Words) (n1 : ℕ) → Refines (if_again w (repeat k f) t1 n1) (if_again w (repeat k g) t1 n1)
      by_turn later again t1 n1 = later t1 n1
      by_turn later over t1 n1 = inl refl
      by_turn later (out way) t1 n1 = inl refl

perform_count : (shapes : Shapes) (all ops : List OpTree) (results : List ℕ) (t : Words) (r : Ranged) → operations shapes all ops results t ≡ is r → length r.results ≡ length results + length ops
perform_count shapes all [] results t r e =
    let same_ : record { results = results; words = t } ≡ r = cc in let f = ap (λ (x : Ranged). length x.results) same_ in omega (arith, f)
perform_count shapes all (op ∷ ops) results t r e = by_value (perform shapes all op results t) (λ p g. perform_count shapes all ops (results ++ p.result ∷ []) p.words r g) e where
  by_value : (x : Valued Performed) → ((p : Performed) → operations shapes all ops (results ++ p.result ∷ []) p.words ≡ is r → length r.results ≡ length (results ++ p.result ∷ []) + length ops)
      → and_then x (λ p. operations shapes all ops (results ++ p.result ∷ []) p.words) ≡ is r → length r.results ≡ length results + length (op ∷ ops)
  by_value (faulty rule at) later g = absurd cc
  by_value (is p) later g = let a = later p g in let b = length-append results (p.result ∷ []) in omega (arith, a, b)

module _ (shapes : Shapes) (ops : List OpTree) (cs : List (Option Taking)) (suits : Suits ops cs) where
  abbrev pub new : Made
  new = made_by ops cs

  -- ---- what is read after all operations

  module _ (variables : ℕ → ℕ) (r r2 : Ranged) (n : ℕ) (now : List ℕ) (h : Reached ops cs shapes variables new.ops n now r r2) where
    operand_same : (x : Operand) → Kept ops cs n x.value → operand r2.words r2.results (moved now x) ≡ operand r.words r.results x
    operand_same x k =
        ap (λ w. operand w r2.results (moved now x)) h.words ∙ operand_moved ops cs shapes variables new.ops n now r2.results r.results r.words h.holds h.stay x k

    holds_same : (x : Operand) → Kept ops cs n x.value → holds r2.words r2.results (moved now x) ≡ holds r.words r.results x
    holds_same x k = ap (λ w. not (w == 0)) (operand_same x k)

    cases_same : (cases : List (Operand × ℕ)) (other : ℕ) → AllKept ops cs n (map (λ c. c.0) cases) → case_chosen r2.words r2.results (map (moved_case now) cases) other ≡ case_chosen r.words r.results cases other
    cases_same [] other k = refl
    cases_same (c ∷ cases) other k = ap₂ (λ b x. if b then c.1 else x) (holds_same c.0 k.0) (cases_same cases other k.1)

    going_same : (e : EndTree) → AllKept ops cs n (end_operands e) → going_of (moved_end now e) r2.words r2.results ≡ going_of e r.words r.results
    going_same (jumps node) k = refl
    going_same (branches test yes_ no_) k = ap (λ b. to (if b then yes_ else no_)) (holds_same test k.0)
    going_same (chooses cases other) k = ap to (cases_same cases other k)
    going_same (returns None) k = refl
    going_same (returns (Some x)) k = ap (λ w. ends (Some w)) (operand_same x k.0)

    outs_from : (xs : List Out) (f : ℕ → ℕ) → AllKept ops cs n (out_operands xs) → outs (map (moved_out now) xs) r2.words r2.results f ≡ outs xs r.words r.results f
    outs_from [] f k = refl
    outs_from (x ∷ xs) f k =
        ap (λ w. outs (map (moved_out now) xs) r2.words r2.results (with_word f x.variable.0 w)) (operand_same x.value k.0) ∙ outs_from xs (with_word f x.variable.0 (operand r.words r.results x.value)) k.1

    outs_same : (xs : List Out) → AllKept ops cs n (out_operands xs) → with_outs (map (moved_out now) xs) r2 ≡ with_outs xs r
    outs_same xs k =
        let set_ : Words → (ℕ → ℕ) → Words = λ w v. record w { variables = v } in
        ap₂ set_ h.words (outs_from xs r2.words.variables k ∙ ap (λ w. outs xs r.words r.results w.variables) h.words)

    round_same : (test : Option Operand) → AllKept ops cs n (option_to_list test) → goes_round (option_map (moved now) test) r2.words r2.results ≡ goes_round test r.words r.results
    round_same None k = refl
    round_same (Some x) k = holds_same x k.0

  -- ---- a value that comes

  valued_refines : {A : Type 0} → (variables : ℕ → ℕ) (n : ℕ) (now : List ℕ) (x y : Valued Ranged) (f g : Ranged → Words → ℕ → Ran Words A) (t : Words) (m : ℕ) → Comes ops cs shapes variables new.ops n now x y
      → ((r r2 : Ranged) → x ≡ is r → y ≡ is r2 → Reached ops cs shapes variables new.ops n now r r2 → Refines (f r t m) (g r2 t m)) → Refines (valued x f t m) (valued y g t m)
  valued_refines variables n now (faulty rule at) y f g t m comes h = undefined_refines rule at (valued y g t m)
  valued_refines variables n now (is r) y f g t m comes h = subst (λ z. Refines (f r t m) (valued z g t m)) (sym comes.1) (h r comes.0 refl comes.1 comes.2)

  start : (variables : ℕ → ℕ) → Holds ops cs shapes variables new.ops 0 [] [] []
  start variables = record { count = refl; old_count = refl; each = λ k lt kept. absurd (omega (arith, lt)); applied = λ u one f x y lt taken at k. absurd (omega (arith, lt)) }

  whole : (t : Words) → Comes ops cs shapes t.variables new.ops (length ops) new.now (operations shapes ops ops [] t) (operations shapes new.ops new.ops [] t)
  whole t =
      sim ops cs shapes t.variables new.ops 0 (length ops) 0 [] [] [] [] ops [] t suits (start t.variables) refl refl (omega arith) (λ k op e. ap (slice_get ops) (let f : 0 + k ≡ k = omega arith in f) ∙ e)
      (sym (append-nil new.ops)) refl

  -- ---- blocks

  pub block_refines : (p : Point) (b : BodyTree) (e : EndTree) (is_it : b.ops ≡ ops) → AllKept ops cs (length ops) (out_operands b.outs) → AllKept ops cs (length ops) (end_operands e) → (t : Words) (n : ℕ)
      → Refines (reached p (λ t1 n1. valued (operations shapes ops ops [] t1) (plain_left e b) t1 n1) t n)
      (reached p (λ t1 n1. valued (operations shapes new.ops new.ops [] t1) (plain_left (moved_end new.now e) (body_with b new)) t1 n1) t n)
  block_refines p b e is_it outs_kept end_kept t n =
      reached_refines p (λ t1 n1. valued (operations shapes ops ops [] t1) (plain_left e b) t1 n1) (λ t1 n1. valued (operations shapes new.ops new.ops [] t1) (plain_left (moved_end new.now e) (body_with b new)) t1 n1) t n (λ m.
      valued_refines t.variables (length ops) new.now (operations shapes ops ops [] t) (operations shapes new.ops new.ops [] t) (plain_left e b) (plain_left (moved_end new.now e) (body_with b new)) t m (whole t) (λ r r2 f g h.
      equal (plain_left e b r t m) (plain_left (moved_end new.now e) (body_with b new) r2 t m)
      (sym (ap₂ (λ w z. goes w z m) (going_same t.variables r r2 (length ops) new.now h e end_kept) (outs_same t.variables r r2 (length ops) new.now h b.outs outs_kept)))))

  -- ---- loops

  -- the operations before the test is known, and those after
  record Split (test : Option Operand) (first : ℕ) : Type 0 where
    pub count : tested test ≡ first
    pub new_count : tested (option_map (moved new.now) test) ≡ length (made ops cs 0 [] (take first ops)).ops
    pub test_kept : AllKept ops cs (length (take first ops)) (option_to_list test)
    pub test_same : option_map (moved new.now) test ≡ option_map (moved (made ops cs 0 [] (take first ops)).now) test

  all_split : (first : ℕ) → new ≡ in_front (made ops cs 0 [] (take first ops)).ops (made ops cs (0 + length (made ops cs 0 [] (take first ops)).ops) (made ops cs 0 [] (take first ops)).now (drop first ops))
  all_split first = ap (made ops cs 0 []) (sym (take-append-drop first ops)) ∙ made_append ops cs 0 [] (take first ops) (drop first ops)

  take_length : (n : ℕ) (xs : List OpTree) (k : ℕ) → k < length xs → n ≡ suc k → length (take n xs) ≡ suc k
  take_length n [] k h e = absurd (omega (arith, h))
  take_length zero (x ∷ xs) k h e = absurd (omega (arith, e))
  take_length (suc n) (x ∷ xs) zero h e = ap suc (ap (λ m. length (take m xs)) (let f : n ≡ 0 = omega (arith, e) in f))
  take_length (suc n) (x ∷ xs) (suc k) h e = ap suc (take_length n xs k (omega (arith, h)) (omega (arith, e)))

  nothing_ : OpTree
  nothing_ = record { kind = o.Add; signed = false; bits = 0; args = []; array = None; guard = None; flag = None }

  split_of : (test : Option Operand) → AllKept ops cs (length ops) (option_to_list test) → Split test (tested test)
  split_of None k = record { count = refl; new_count = refl; test_kept = tt; test_same = refl }
  split_of (Some x) k = by_source x.value refl k.0 where
    by_source : (s : Source) → x.value ≡ s → Kept ops cs (length ops) s → Split (Some x) (tested_by x.value)
    by_source (source.Constant w) e kept = subst (Split (Some x)) (sym (ap tested_by e)) (record {
      count = ap tested_by e;
      new_count = ap (λ s. tested_by (moved_source new.now s)) e;
      test_kept = (subst (λ s. Kept ops cs 0 s) (sym e) tt, tt);
      test_same = ap (λ s. Some (record x { value = s })) (ap (moved_source new.now) e ∙ sym (ap (moved_source []) e));
    })
    by_source (source.Variable v) e kept = subst (Split (Some x)) (sym (ap tested_by e)) (record {
      count = ap tested_by e;
      new_count = ap (λ s. tested_by (moved_source new.now s)) e;
      test_kept = (subst (λ s. Kept ops cs 0 s) (sym e) tt, tt);
      test_same = ap (λ s. Some (record x { value = s })) (ap (moved_source new.now) e ∙ sym (ap (moved_source []) e));
    })
    by_source (source.Result op) e kept =
        let j = op.0 in
        let first = j + 1 in
        let up : first ≡ suc j = omega arith in
        let front = made ops cs 0 [] (take first ops) in
        let s = stands ops cs 0 [] ops j (get_or ops j nothing_) (slice_get-get_or ops j nothing_ kept.0) (ap (is_taken cs) (let f : 0 + j ≡ j = omega arith in f) ∙ kept.1) in
        let place : get_or new.now j j ≡ 0 + length (made ops cs 0 [] (take j ops)).ops = ap (λ i. get_or new.now i j) (let f : j ≡ 0 + j = omega arith in f) ∙ s.number j in
        let more : length front.ops ≡ suc (length (made ops cs 0 [] (take j ops)).ops) = ap (λ m. length (made ops cs 0 [] (take m ops)).ops) up ∙ s.one_more in
        let counted = now_count ops cs 0 [] (take first ops) in
        let taken_length = take_length first ops j kept.0 up in
        let rest = now_front ops cs (0 + length front.ops) front.now (drop first ops) in
        let extends : new.now ≡ front.now ++ rest.0 = ap (λ (m : Made). m.now) (all_split first) ∙ rest.1 in
        let earlier : get_or new.now j j ≡ get_or front.now j j = ap (λ l. get_or l j j) extends ∙ get_or_append_left front.now rest.0 j j (omega (arith, counted, taken_length)) in
        subst (Split (Some x)) (sym (ap tested_by e)) (record {
          count = ap tested_by e;
          new_count = ap (λ s. tested_by (moved_source new.now s)) e ∙ (omega (arith, place, more));
          test_kept = (subst (λ z. Kept ops cs (length (take first ops)) z) (sym e) (omega (arith, taken_length), kept.1), tt);
          test_same = ap (λ z. Some (record x { value = z })) (ap (moved_source new.now) e ∙ (ap (λ n. source.Result (record { 0 = n })) earlier ∙ sym (ap (moved_source front.now) e)));
        })

  get_front : (n : ℕ) (xs : List OpTree) (k : ℕ) (op : OpTree) → slice_get (take n xs) k ≡ Some op → slice_get xs k ≡ Some op
  get_front zero [] k op e = absurd cc
  get_front zero (x ∷ xs) k op e = absurd cc
  get_front (suc n) [] k op e = absurd cc
  get_front (suc n) (x ∷ xs) zero op e = e
  get_front (suc n) (x ∷ xs) (suc k) op e = get_front n xs k op e

  get_back : (n : ℕ) (xs : List OpTree) (k : ℕ) (op : OpTree) → slice_get (drop n xs) k ≡ Some op → slice_get xs (length (take n xs) + k) ≡ Some op
  get_back zero [] k op e = absurd cc
  get_back zero (x ∷ xs) k op e = ap (slice_get (x ∷ xs)) (let f : 0 + k ≡ k = omega arith in f) ∙ e
  get_back (suc n) [] k op e = absurd cc
  get_back (suc n) (x ∷ xs) k op e = ap (slice_get (x ∷ xs)) (let f : suc (length (take n xs)) + k ≡ suc (length (take n xs) + k) = omega arith in f) ∙ get_back n xs k op e

  module _ (p : Point) (b : BodyTree) (is_it : b.ops ≡ ops) (outs_kept : AllKept ops cs (length ops) (out_operands b.outs)) (test_kept : AllKept ops cs (length ops) (option_to_list b.test)) where
    abbrev first : ℕ
    first = tested b.test

    abbrev front : Made
    front = made ops cs 0 [] (take first ops)

    abbrev back : Made
    back = made ops cs (0 + length front.ops) front.now (drop first ops)

    split : Split b.test first
    split = split_of b.test test_kept

    new_ops : new.ops ≡ front.ops ++ back.ops
    new_ops = ap (λ (m : Made). m.ops) (all_split first)

    new_now : new.now ≡ back.now
    new_now = ap (λ (m : Made). m.now) (all_split first)

    taken_front : take (tested (option_map (moved new.now) b.test)) new.ops ≡ front.ops
    taken_front = ap₂ take split.new_count new_ops ∙ take_front front.ops back.ops

    dropped_front : drop (tested (option_map (moved new.now) b.test)) new.ops ≡ back.ops
    dropped_front = ap₂ drop split.new_count new_ops ∙ drop_front front.ops back.ops

    before : (t : Words) → Comes ops cs shapes t.variables new.ops (length (take first ops)) front.now (operations shapes ops (take first ops) [] t) (operations shapes new.ops front.ops [] t)
    before t =
        sim ops cs shapes t.variables new.ops 0 (length (take first ops)) 0 [] [] [] [] (take first ops) back.ops t suits (start t.variables) refl refl (omega arith)
        (λ k op e. ap (slice_get ops) (let f : 0 + k ≡ k = omega arith in f) ∙ get_front first ops k op e) new_ops refl

    behind : (variables : ℕ → ℕ) (r r2 : Ranged) → length r2.results ≡ length front.ops → Reached ops cs shapes variables new.ops (length (take first ops)) front.now r r2
        → Comes ops cs shapes variables new.ops (length ops) back.now (operations shapes ops (drop first ops) r.results r.words) (operations shapes new.ops back.ops r2.results r2.words)
    behind variables r r2 place h =
        let whole_length : length (take first ops) + length (drop first ops) ≡ length ops = sym (length-append (take first ops) (drop first ops)) ∙ ap length (take-append-drop first ops) in
        subst (λ w. Comes ops cs shapes variables new.ops (length ops) back.now (operations shapes ops (drop first ops) r.results r.words) (operations shapes new.ops back.ops r2.results w)) (sym h.words)
        (sim ops cs shapes variables new.ops (length (take first ops)) (length ops) (0 + length front.ops) front.now r2.results r.results front.ops (drop first ops) [] r.words suits h.holds (omega (arith, place)) h.stay whole_length
        (λ k op e. get_back first ops k op e) (new_ops ∙ ap (λ l. front.ops ++ l) (sym (append-nil back.ops))) (omega arith))

    iterated_refines : (variables : ℕ → ℕ) (r r2 : Ranged) → length r2.results ≡ length front.ops → Reached ops cs shapes variables new.ops (length (take first ops)) front.now r r2 → (t : Words) (n : ℕ)
        → Refines (valued (operations shapes ops (drop first ops) r.results r.words) (λ r1 t1 n1. goes again (with_outs b.outs r1) n1) t n)
        (valued (operations shapes new.ops back.ops r2.results r2.words) (λ r1 t1 n1. goes again (with_outs (map (moved_out new.now) b.outs) r1) n1) t n)
    iterated_refines variables r r2 place h t n =
        valued_refines variables (length ops) back.now (operations shapes ops (drop first ops) r.results r.words) (operations shapes new.ops back.ops r2.results r2.words) (λ r1 t1 n1. goes again (with_outs b.outs r1) n1)
        (λ r1 t1 n1. goes again (with_outs (map (moved_out new.now) b.outs) r1) n1) t n (behind variables r r2 place h) (λ q q2 f g k.
        equal (goes again (with_outs b.outs q) n) (goes again (with_outs (map (moved_out new.now) b.outs) q2) n)
        (ap (λ w. goes again w n) (sym (ap (λ now. with_outs (map (moved_out now) b.outs) q2) new_now ∙ outs_same variables q q2 (length ops) back.now k b.outs outs_kept))))

    iteration_refines : (t : Words) (n : ℕ) → Refines (iteration shapes p b t n) (iteration shapes p (body_with b new) t n)
    iteration_refines t n =
        let test2 = option_map (moved new.now) b.test in
        let old_ : ℕ → ℕ → List OpTree → Ran Words Turn = λ a c os.
        valued (operations shapes os (take first os) [] t) (λ r t1 n1. if goes_round b.test r.words r.results then reached p (λ t2 n2. valued (operations shapes os (drop first os) r.results r.words) (λ r1 t3 n3. goes again (with_outs b.outs r1) n3) t2 n2) r.words n1 else goes over r.words n1) t n in
        let new_ : List OpTree → List OpTree → Ran Words Turn = λ xs ys.
        valued (operations shapes new.ops xs [] t) (λ r t1 n1. if goes_round test2 r.words r.results then reached p (λ t2 n2. valued (operations shapes new.ops ys r.results r.words) (λ r1 t3 n3. goes again (with_outs (map (moved_out new.now) b.outs) r1) n3) t2 n2) r.words n1 else goes over r.words n1) t n in
        subst (λ os. Refines (old_ 0 0 os) (iteration shapes p (body_with b new) t n)) (sym is_it)
        (subst (λ z. Refines (old_ 0 0 ops) z) (sym (ap₂ new_ taken_front dropped_front))
        (valued_refines t.variables (length (take first ops)) front.now (operations shapes ops (take first ops) [] t) (operations shapes new.ops front.ops [] t)
        (λ r t1 n1. if goes_round b.test r.words r.results then reached p (λ t2 n2. valued (operations shapes ops (drop first ops) r.results r.words) (λ r1 t3 n3. goes again (with_outs b.outs r1) n3) t2 n2) r.words n1 else goes over r.words n1)
        (λ r t1 n1. if goes_round test2 r.words r.results then reached p (λ t2 n2. valued (operations shapes new.ops back.ops r.results r.words) (λ r1 t3 n3. goes again (with_outs (map (moved_out new.now) b.outs) r1) n3) t2 n2) r.words n1 else goes over r.words n1)
        t n (before t) (λ r r2 f g h.
        let place : length r2.results ≡ length front.ops = (let c = perform_count shapes new.ops front.ops [] t r2 g in omega (arith, c)) in
        let later : Words → Words → ℕ → Ran Words Turn = λ w t2 n2. valued (operations shapes new.ops back.ops r2.results w) (λ r1 t3 n3. goes again (with_outs (map (moved_out new.now) b.outs) r1) n3) t2 n2 in
        if_refines (goes_round b.test r.words r.results) (goes_round test2 r2.words r2.results)
        (reached p (λ t2 n2. valued (operations shapes ops (drop first ops) r.results r.words) (λ r1 t3 n3. goes again (with_outs b.outs r1) n3) t2 n2) r.words n) (goes over r.words n)
        (reached p (later r2.words) r2.words n) (goes over r2.words n)
        (ap (λ x. goes_round x r2.words r2.results) split.test_same ∙ round_same t.variables r r2 (length (take first ops)) front.now h b.test split.test_kept)
        (subst (λ w. Refines (reached p (λ t2 n2. valued (operations shapes ops (drop first ops) r.results r.words) (λ r1 t3 n3. goes again (with_outs b.outs r1) n3) t2 n2) r.words n) (reached p (later r2.words) w n)) (sym h.words)
        (reached_refines p (λ t2 n2. valued (operations shapes ops (drop first ops) r.results r.words) (λ r1 t3 n3. goes again (with_outs b.outs r1) n3) t2 n2) (later r2.words) r.words n
        (λ m. iterated_refines t.variables r r2 place h r.words m)))
        (equal (goes over r.words n) (goes over r2.words n) (ap (λ w. goes over w n) (sym h.words))))))

    pub loop_refines : (t : Words) (n : ℕ) → Refines (overlapped_run shapes p b t n) (overlapped_run shapes p (body_with b new) t n)
    loop_refines t n =
        then_refines (repeat (suc n) (iteration shapes p b) t n) (repeat (suc n) (iteration shapes p (body_with b new)) t n) (λ w t1 n1. goes (way_behind w) t1 n1) (λ w t1 n1. goes (way_behind w) t1 n1)
        (repeat_refines (suc n) (iteration shapes p b) (iteration shapes p (body_with b new)) iteration_refines t n) (λ w t1 n1. same (goes (way_behind w) t1 n1))
