-- The operations of a valid body fit once pairs are fused.
use Rattle.std.proofs.Common.{◌≡◌, ◌∙◌, ◌+◌, ℕ, refl, sym, ap, subst, Bool, true, false, List, [], ◌∷◌, ◌++◌, length, map, Option, Some, None, arith, append_assoc, append-nil, length-append}
use Rattle.std.specs.Prelude.{slice_get, option_to_list, if◌then◌else◌}
use Rattle.ir_core.specs.declared.body.Operand.{Operand}
use Rattle.ir_core.specs.declared.body.Out.{Out}
use Rattle.ir_core.specs.declared.cfg.Frame.{Frame}
use Rattle.ir_core.specs.Bodies.{OpTree}
use Rattle.op_chain.specs.declared.choices.Taking.{Taking}
use Rattle.op_chain.specs.Reads.{ops_operands, reads}
use Rattle.op_chain.specs.Pairs.{Scope}
use Rattle.op_chain.specs.Fusing.{moved_op, moved_out, fused_op, new_op, emitted, Made, in_front, made, made_by, is_taken, chosen}
use Rattle.op_chain.proofs.ValidFusing.Trees as trees
use Rattle.op_chain.proofs.ValidFusing.Bridge.{both_same}
use Rattle.op_chain.proofs.ValidFusing.Choices.{chosen_many}
use Rattle.op_chain.proofs.ValidFusing.Kept.{found_at, kept_both, stays_kept}
use Rattle.op_chain.proofs.ValidFusing.Moved.{operation_same}
use Rattle.op_chain.proofs.ValidFusing.States.{State, begun, drops, goes_on, all_same, same_if}
use Rattle.op_chain.proofs.ValidFusing.Fused.{first_of, second_of, fused_fits, fused_bits}

middle_get : {A : Type 0} (xs : List A) (y : A) (ys : List A) → slice_get (xs ++ y ∷ ys) (length xs) ≡ Some y
middle_get [] y ys = refl
middle_get (x ∷ xs) y ys = middle_get xs y ys

-- operations that fit behind others that fit
joined_fit : (f : Frame) (outs : List Out) (behind xs ys : List OpTree) → trees.operations_fit f outs behind xs ≡ true → trees.operations_fit f outs (behind ++ xs) ys ≡ true → trees.operations_fit f outs behind (xs ++ ys) ≡ true
joined_fit f outs behind [] ys h k = ap (λ (b : List OpTree). trees.operations_fit f outs b ys) (sym (append-nil behind)) ∙ k
joined_fit f outs behind (x ∷ xs) ys h k =
    let first = trees.operation_fits f outs behind x in
    both_same (first_of first _ h) (joined_fit f outs (behind ++ x ∷ []) xs ys (second_of first _ h) (ap (λ (b : List OpTree). trees.operations_fit f outs b ys) (append_assoc behind (x ∷ []) xs) ∙ k))

module _ (f : Frame) (carried : List Out) (whole : List ℕ) (scope : Scope) (ops : List OpTree) (others : List Operand) (counts : (u : ℕ) → reads u scope.operands ≡ reads u (ops_operands ops) + reads u others)
    (valid : trees.operations_fit f carried [] ops ≡ true) where
  abbrev all : List (Option Taking)
  all = chosen scope ops [] ops

  abbrev outs : List Out
  outs = map (moved_out whole) carried

  -- what is made behind these operations fits, and stands to all old ones as it should
  pub record Ended (behind : List OpTree) (m : Made) : Type 0 where
    pub fits : trees.operations_fit f (map (moved_out whole) carried) behind m.ops ≡ true
    pub state : State (chosen scope ops [] ops) ops (behind ++ m.ops) m.now

  front : (behind e : List OpTree) (m : Made) → trees.operations_fit f outs behind e ≡ true → Ended (behind ++ e) m → Ended behind (in_front e m)
  front behind e m h ended = record {
    fits = joined_fit f outs behind e m.ops h ended.fits;
    state = subst (λ (b : List OpTree). State all ops b m.now) (append_assoc behind e m.ops) ended.state;
  }

  module _ (before behind rest : List OpTree) (count : ℕ) (now : List ℕ) (op : OpTree) (parts : ops ≡ before ++ op ∷ rest) (size : count ≡ length behind) (state : State all before behind now) (here : trees.operation_fits f carried before op ≡ true)
      (further : (e : List OpTree) → State all (before ++ op ∷ []) (behind ++ e) (now ++ count ∷ []) → Ended (behind ++ e) (made ops all (count + length e) (now ++ count ∷ []) rest)) where
    turned : (e : List OpTree) → emitted ops all now op ≡ e → trees.operations_fit f outs behind e ≡ true → State all (before ++ op ∷ []) (behind ++ e) (now ++ length behind ∷ []) → Ended behind (made ops all count now (op ∷ rest))
    turned e is h next =
        subst (λ (x : List OpTree). Ended behind (in_front x (made ops all (count + length x) (now ++ count ∷ []) rest))) (sym is)
        (front behind e (made ops all (count + length e) (now ++ count ∷ []) rest) h (further e (subst (λ n. State all (before ++ op ∷ []) (behind ++ e) (now ++ n ∷ [])) (sym size) next)))

    there : slice_get ops (length before) ≡ Some op
    there = ap (λ (l : List OpTree). slice_get l (length before)) parts ∙ middle_get before op rest

    emits : (c : Bool) → is_taken all (length now) ≡ c → emitted ops all now op ≡ (if c then [] else new_op ops now op (slice_get all (length now)) ∷ [])
    emits c is = ap (λ (b : Bool). if b then [] else new_op ops now op (slice_get all (length now)) ∷ []) is

    makes : (choice : Option Taking) → slice_get all (length before) ≡ Some choice → new_op ops now op (slice_get all (length now)) ∷ [] ≡ new_op ops now op (Some choice) ∷ []
    makes choice at = ap (λ (c : Option (Option Taking)). new_op ops now op c ∷ []) (ap (slice_get all) state.many ∙ at)

    kept_op : slice_get all (length before) ≡ Some None → trees.operation_fits f outs behind (moved_op now op) ≡ true
    kept_op none =
        let kept = kept_both all op.args (option_to_list op.guard) (stays_kept scope ops others counts (length before) op there none) in
        sym (operation_same f carried whole before behind now op (all_same f.variables.items carried whole all before behind now state op.args kept.0) (same_if f.variables.items carried whole all before behind now state op.guard kept.1)) ∙ here

    stays : (choice : Option Taking) → slice_get all (length before) ≡ Some choice → is_taken all (length now) ≡ false → Ended behind (made ops all count now (op ∷ rest))
    stays None at is =
        turned (moved_op now op ∷ []) (emits false is ∙ makes None at) (both_same (kept_op at) refl) (goes_on all before behind now state op (moved_op now op) refl (λ h. h))
    stays (Some t) at is =
        turned (fused_op ops now op t ∷ []) (emits false is ∙ makes (Some t) at)
        (both_same (fused_fits f carried whole scope ops others counts valid before behind rest now op t parts there at state here) refl)
        (goes_on all before behind now state op (fused_op ops now op t) (fused_bits f carried whole scope ops others counts valid before behind rest now op t parts there at state here) (λ h. refl))

    step : Ended behind (made ops all count now (op ∷ rest))
    step = by (is_taken all (length now)) refl where
      by : (c : Bool) → is_taken all (length now) ≡ c → Ended behind (made ops all count now (op ∷ rest))
      by true is =
          turned [] (emits true is) refl
          (subst (λ (b : List OpTree). State all (before ++ op ∷ []) b (now ++ length behind ∷ [])) (sym (append-nil behind)) (drops all before behind now state op (ap (is_taken all) (sym state.many) ∙ is)))
      by false is =
          let many = chosen_many scope ops [] ops in
          let total : length ops ≡ length before + length (op ∷ rest) = ap length parts ∙ length-append before (op ∷ rest) in
          let choice = found_at all (length before) (omega (arith, many, total)) in
          stays choice.0 choice.1 is

  go : (before rest behind : List OpTree) (count : ℕ) (now : List ℕ) → ops ≡ before ++ rest → count ≡ length behind → State all before behind now → trees.operations_fit f carried before rest ≡ true → Ended behind (made ops all count now rest)
  go before [] behind count now parts size state h = record {
    fits = refl;
    state = subst (λ (b : List OpTree). State all ops b now) (sym (append-nil behind)) (subst (λ (b : List OpTree). State all b behind now) (sym (parts ∙ append-nil before)) state);
  }
  go before (op ∷ rest) behind count now parts size state h =
      step before behind rest count now op parts size state (first_of (trees.operation_fits f carried before op) _ h)
      (λ e next. go (before ++ op ∷ []) rest (behind ++ e) (count + length e) (now ++ count ∷ []) (parts ∙ sym (append_assoc before (op ∷ []) rest)) (ap (λ n. n + length e) size ∙ sym (length-append behind e)) next
      (second_of (trees.operation_fits f carried before op) _ h))

  pub ended : Ended [] (made_by ops (chosen scope ops [] ops))
  ended = go [] ops [] 0 [] refl refl (begun all) valid
