-- Accesses that meet keep their order.
use Rattle.std.proofs.Common.{◌≡◌, ℕ, ◌<◌, ◌≤◌, ◌∙◌, inl, sym, refl, ap, subst, List, [], map, length, get_or, Some, arith}
use Rattle.ir_core.specs.declared.body.Body.{Body}
use Rattle.ir_core.specs.declared.body.Op.{Op}
use Rattle.ir_core.specs.declared.body.Out.{Out}
use Rattle.ir_core.specs.declared.stamp.Untimed.{Untimed}
use Rattle.dep_graph.specs.declared.access.Meeting.TheVariants as m
use Rattle.dep_graph.specs.Offsets.{nth, sums_of}
use Rattle.dep_graph.specs.Meetings.{subscript_count, subscript_of, subscripts_of, distances_between}
use Rattle.ir_core.specs.Bodies.{OpTree, Shapes, Words, dims_of, address_of, is_within}
use Rattle.clock_runs.specs.Premises.{Each, IsOperand}
use Rattle.clock_runs.proofs.Settings.{Setting, op_at, count_of}
use Rattle.clock_runs.proofs.Iterations.{map_same}
use Rattle.clock_runs.proofs.Defined.{reading_in, Defined}
use Rattle.clock_runs.proofs.Growing.{Foresees}
use Rattle.clock_runs.proofs.Sums.{IsCopy, full, settled, allowed_settled}
use Rattle.clock_runs.proofs.Elements.{Agree, subscripts_agree}
use Rattle.clock_runs.proofs.Subscripts.{AreKnown, all_known, HaveGrown, distances_foresee}
use Rattle.clock_runs.proofs.Accesses.{subscripted, Touches}
use Rattle.dep_graph.specs.declared.access.Subscript.{Subscript}
use Rattle.std.proofs.lemmas.List.{length-map}
use Rattle.clock_runs.proofs.Lists.{each_at, each_take}

-- all lengths of dimensions are short
abbrev pub AreShort : Shapes → Type 0
AreShort shapes = Each (λ (dims : List ℕ). Each (λ len. len ≤ 65536) dims) shapes.dims

module _ (s : Setting) (carried : List Out) (body : Body Untimed) (copy : IsCopy s carried body) (short : AreShort s.shapes) where
  -- what is known of the subscripts of operation k
  abbrev known_of : OpTree → List Subscript
  known_of op = map (subscript_of body (sums_of body) op.guard) (subscripted op)

  read_full : (t : Words) (k : ℕ) → k < count_of s → map (reading_in s t k) (subscripted (op_at s k).op) ≡ map (full s t) (subscripted (op_at s k).op)
  read_full t k lt =
      let op = (op_at s k).op in
      map_same (IsOperand carried k) (reading_in s t k) (full s t) (settled s carried body copy t k (omega arith)) (subscripted op) (each_take (IsOperand carried k) (subscript_count op.kind (length op.args)) op.args (copy.sound k lt).args)

  known_here : (t : Words) (k memory address : ℕ) → k < count_of s → ((j : ℕ) → j < k → Defined s t j) → Touches s t k memory address → AreKnown s body t (known_of (op_at s k).op) (map (full s t) (subscripted (op_at s k).op))
  known_here t k memory address lt defined touch =
      let op = (op_at s k).op in
      all_known s carried body copy t k (omega arith) defined op.guard (sym (allowed_settled s carried body copy t k lt) ∙ touch.allowed) (subscripted op)
      (each_take (IsOperand carried k) (subscript_count op.kind (length op.args)) op.args (copy.sound k lt).args)

  -- two accesses of one word meet at their distance
  pub meet : (t1 t2 : Words) (d k n memory address : ℕ) (u v : Op Untimed) → nth body.ops.items k ≡ Some u → nth body.ops.items n ≡ Some v → ((j : ℕ) → j < k → Defined s t1 j) → ((j : ℕ) → j < n → Defined s t2 j) → HaveGrown s body t1 t2 d
      → Touches s t1 k memory address → Touches s t2 n memory address → Foresees d (distances_between (subscripts_of body (sums_of body) u) (subscripts_of body (sums_of body) v))
  meet t1 t2 d k n memory address u v here there first second grow p q =
      let a = copy.ops k u here in
      let b = copy.ops n v there in
      let dims_k = dims_of s.shapes p.array in
      let dims : dims_of s.shapes q.array ≡ dims_k = ap (λ i. get_or s.shapes.dims i []) (q.same ∙ sym p.same) in
      let xs = map (reading_in s t1 k) (subscripted (op_at s k).op) in
      let ys = map (reading_in s t2 n) (subscripted (op_at s n).op) in
      let few : length xs ≤ length dims_k = subst (λ l. l ≤ length dims_k) (sym (length-map (subscripted (op_at s k).op) (reading_in s t1 k))) p.few in
      let agree = subscripts_agree dims_k xs ys (each_at (λ (ds : List ℕ). Each (λ len. len ≤ 65536) ds) s.shapes.dims p.array.0 [] tt short) few p.within (ap (λ ds. is_within ds ys) (sym dims) ∙ q.within) (p.at ∙ sym q.at ∙ ap (λ ds. address_of ds ys) dims) in
      let agree_full = subst (λ zs. Agree (map (full s t1) (subscripted (op_at s k).op)) zs) (read_full t2 n b.0) (subst (λ zs. Agree zs ys) (read_full t1 k a.0) agree) in
      let so = distances_foresee s body t1 t2 d grow (known_of (op_at s k).op) (known_of (op_at s n).op) (map (full s t1) (subscripted (op_at s k).op)) (map (full s t2) (subscripted (op_at s n).op)) m.Always (known_here t1 k memory address a.0 first p) (known_here t2 n memory address b.0 second q) agree_full (inl refl) in
      subst (λ z. Foresees d (distances_between (subscripts_of body (sums_of body) u) z)) (ap known_of (sym b.1)) (subst (λ z. Foresees d (distances_between z (known_of (op_at s n).op))) (ap known_of (sym a.1)) so)
