-- The blocks and loops of valid programs are sound.
use Rattle.std.proofs.Common.{◌≡◌, ◌≢◌, ◌∙◌, ℕ, zero, suc, ◌≤◌, ◌^◌, sym, refl, ap, subst, true, false, not, ◌&&◌, List, [], ◌∷◌, length, map, take, arith}
use Rattle.std.specs.Prelude.{◌==◌, nat_lt, slice_get, Option, Some, None, is_none}
use Rattle.std.specs.List.{list_all}
use Rattle.std.proofs.lemmas.Bool.{or_parts, eq-eqb, both_ways, not-true, false≢true}
use Rattle.std.proofs.lemmas.List.{length-map, length-take-le}
use Rattle.std.proofs.lemmas.Option.{slice_get_within}
use Rattle.hls_base.specs.declared.number.NodeId.{NodeId}
use Rattle.ir_core.specs.declared.body.Op.{Op}
use Rattle.ir_core.specs.declared.body.OpKind.TheVariants as o
use Rattle.ir_core.specs.declared.body.Operand.{Operand}
use Rattle.ir_core.specs.declared.body.Out.{Out}
use Rattle.ir_core.specs.declared.body.Source.{Source}
use Rattle.ir_core.specs.declared.body.Source.TheVariants as source
use Rattle.ir_core.specs.declared.cfg.Block.{Block}
use Rattle.ir_core.specs.declared.cfg.Cfg.{Cfg}
use Rattle.ir_core.specs.declared.cfg.End.{End}
use Rattle.ir_core.specs.declared.cfg.End.TheVariants as end
use Rattle.ir_core.specs.declared.cfg.Frame.{Frame}
use Rattle.ir_core.specs.declared.cfg.Loop.{Loop}
use Rattle.ir_core.specs.declared.cfg.Node.{Node}
use Rattle.ir_core.specs.declared.cfg.Node.TheVariants as node
use Rattle.ir_core.specs.declared.stamp.Untimed.{Untimed}
use Rattle.ir_core.specs.Bodies.{OpTree, op_of}
use Rattle.ir_core.specs.FlatRuns.{shapes_of}
use Rattle.ir_core.specs.TreeRuns.{tested}
use Rattle.dep_graph.specs.Meetings.{is_store}
use Rattle.passes.specs.Conversion.Outs as outs
use Rattle.pass_runs.specs.ConvertRuns.Blocks.{Once}
use Rattle.program_validity.specs.Operands.{is_operand_if}
use Rattle.program_validity.specs.Bodies.{are_operations, is_set, is_out, is_body, is_block_body, names_result, is_result, is_result_out, is_named_again, name_different, is_no_store, stores_wait, is_loop_body}
use Rattle.program_validity.specs.Programs.{body_in, carried_in, is_test, is_case, is_end, is_consistent}
use Rattle.program_validity.proofs.Parts.{first_of_both, second_of_both, node_valid}
use Rattle.program_validity.proofs.EachOperation.{operation_valid}
use Rattle.clock_runs.specs.Premises.{Each, IsOperandAs, IsOperand, IsOperandIf, IsSoundOp, AreSoundOps, IsSoundEnd, IsSoundBlock, NamesResult, AreApart, IsSoundLoop, IsSoundNode}
use Rattle.sound_trees.proofs.Sound.{mapped_at}
use Rattle.sound_trees.proofs.ValidPrograms.Operands.{operand_stands, operand_if_stands}
use Rattle.sound_trees.proofs.ValidPrograms.Operations.{operation_sound}
use Rattle.sound_trees.specs.ValidPrograms.{SetsOnce}

some_same : {A : Type 0} {x y : A} → Some x ≡ Some y → x ≡ y
some_same e = cc

-- ---- operations

pub taken : {A : Type 0} (n : ℕ) (xs : List A) (j : ℕ) (x : A) → slice_get (take n xs) j ≡ Some x → slice_get xs j ≡ Some x
taken zero xs j x e = absurd cc
taken (suc n) [] j x e = absurd cc
taken (suc n) (y ∷ xs) zero x e = e
taken (suc n) (y ∷ xs) (suc j) x e = taken n xs j x e

pub at_mapped : {A B : Type 0} (g : A → B) (xs : List A) (i : ℕ) (x : A) → slice_get xs i ≡ Some x → slice_get (map g xs) i ≡ Some (g x)
at_mapped g [] i x e = absurd cc
at_mapped g (y ∷ xs) zero x e = ap (λ z. Some (g z)) (some_same e)
at_mapped g (y ∷ xs) (suc i) x e = at_mapped g xs i x e

ops_sound : (cfg : Cfg Untimed) (i : ℕ) (n : Node Untimed) → is_consistent cfg ≡ true → slice_get cfg.nodes.items i ≡ Some n → AreSoundOps (shapes_of cfg.frame) (carried_in n) (map op_of (body_in n).ops.items)
ops_sound cfg i n h at k t there =
    let raw = (body_in n).ops.items in
    let all = map op_of raw in
    let found = mapped_at op_of raw k t there in
    let inside = slice_get_within raw k found.0 found.1 in
    let count : length (take k raw) ≡ k = length-take-le k raw (omega (arith, inside)) in
    let sound = operation_sound cfg.frame (carried_in n) (take k raw) found.0 (operation_valid cfg i k n found.0 h at found.1) all (λ j other e. at_mapped op_of raw j other (taken k raw j other e)) in
    subst (λ (x : OpTree). IsSoundOp (shapes_of cfg.frame) (carried_in n) all k x) found.2 (subst (λ m. IsSoundOp (shapes_of cfg.frame) (carried_in n) all m (op_of found.0)) count sound)

-- ---- outs

module _ (f : Frame) (carried : List Out) (ops : List (Op Untimed)) where
  set_stands : (out : Out) (bits : Option ℕ) → is_set f carried ops out bits ≡ true → IsOperand carried (length ops) out.value
  set_stands out None h = absurd (false≢true h)
  set_stands out (Some bits) h = operand_stands f.variables.items carried ops bits out.value h

  outs_stand : (outs : List Out) → list_all (is_out f carried ops) outs ≡ true → Each (λ (x : Out). IsOperand carried (length ops) x.value) outs
  outs_stand [] h = tt
  outs_stand (x ∷ xs) h = (set_stands x (slice_get f.variables.items x.variable.0) (first_of_both (is_out f carried ops x) _ h), outs_stand xs (second_of_both (is_out f carried ops x) _ h))

module _ (carried : List Out) (k : ℕ) where
  result_named : (x : Out) (s : Source) → x.value.value ≡ s → is_result s ≡ true → IsOperandAs carried k s x.value.distance → NamesResult k x
  result_named x (source.Constant c) e h stands = absurd (false≢true h)
  result_named x (source.Variable v) e h stands = absurd (false≢true h)
  result_named x (source.Result j) e h stands = (j, (e, stands.0, stands.1))

  results_named : (xs : List Out) → list_all is_result_out xs ≡ true → Each (λ (x : Out). IsOperand carried k x.value) xs → Each (NamesResult k) xs
  results_named [] h stand = tt
  results_named (x ∷ xs) h stand = (result_named x x.value.value refl (first_of_both (is_result_out x) _ h) stand.0, results_named xs (second_of_both (is_result_out x) _ h) stand.1)

-- ---- outs that are apart

names_itself : (s : Source) → is_result s ≡ true → names_result s s ≡ true
names_itself (source.Constant c) h = absurd (false≢true h)
names_itself (source.Variable v) h = absurd (false≢true h)
names_itself (source.Result j) h = eq-eqb j.0 j.0 refl

each_apart : (x : Out) (ys : List Out) → is_result x.value.value ≡ true → is_named_again x ys ≡ false → outs.is_set ys x.variable ≡ false → Each (λ (y : Out). (y.variable.0 ≢ x.variable.0) × (y.value.value ≢ x.value.value)) ys
each_apart x [] result values variables = tt
each_apart x (y ∷ ys) result values variables =
    let value = or_parts (names_result x.value.value y.value.value) _ values in
    let variable = or_parts (x.variable.0 == y.variable.0) _ variables in (
      (
        λ same. both_ways (x.variable.0 == y.variable.0) variable.0 (eq-eqb x.variable.0 y.variable.0 (sym same)),
        λ same. both_ways (names_result x.value.value y.value.value) value.0 (ap (names_result x.value.value) same ∙ names_itself x.value.value result),
      ),
      each_apart x ys result value.1 variable.1,
    )

pub outs_apart : (xs : List Out) → list_all is_result_out xs ≡ true → name_different xs ≡ true → Once xs → AreApart xs
outs_apart [] results different once = tt
outs_apart (x ∷ xs) results different once = (
  each_apart x xs (first_of_both (is_result_out x) _ results) (not-true (is_named_again x xs) (first_of_both (not (is_named_again x xs)) _ different)) once.0,
  outs_apart xs (second_of_both (is_result_out x) _ results) (second_of_both (not (is_named_again x xs)) _ different) once.1,
)

-- ---- ends

module _ (f : Frame) (ops : List (Op Untimed)) (count : ℕ) where
  cases_stand : (cases : List (Operand × NodeId)) → list_all (is_case f ops count) cases ≡ true → Each (λ (c : Operand × NodeId). IsOperand [] (length ops) c.0) cases
  cases_stand [] h = tt
  cases_stand (c ∷ cs) h =
      (operand_stands f.variables.items [] ops 1 c.0 (first_of_both (is_test f ops c.0) _ (first_of_both (is_case f ops count c) _ h)), cases_stand cs (second_of_both (is_case f ops count c) _ h))

  end_sound : (e : End) → is_end f ops count e ≡ true → IsSoundEnd (length ops) e
  end_sound (end.Jump next) h = tt
  end_sound (end.Branch test left right) h = operand_stands f.variables.items [] ops 1 test (first_of_both (is_test f ops test) _ h)
  end_sound (end.Choose cases other) h = cases_stand cases.items (first_of_both (list_all (is_case f ops count) cases.items) _ h)
  end_sound (end.Return None) h = tt
  end_sound (end.Return (Some x)) h = operand_stands f.variables.items [] ops f.ret x (second_of_both (nat_lt 0 f.ret) _ h)

-- ---- stores

-- what stores nothing at its beginning stores at no place of it
stores_behind : (n : ℕ) (ops : List (Op Untimed)) (k : ℕ) (t : OpTree) → list_all is_no_store (take n ops) ≡ true → slice_get (map op_of ops) k ≡ Some t → t.kind ≡ o.Store → n ≤ k
stores_behind n [] k t h at s = absurd cc
stores_behind zero (x ∷ ops) k t h at s = omega arith
stores_behind (suc n) (x ∷ ops) zero t h at s =
    let same : op_of x ≡ t = some_same at in
    let store : is_store x.kind ≡ true = ap (λ (y : OpTree). is_store y.kind) same ∙ ap is_store s in
    absurd (both_ways (is_store x.kind) (not-true (is_store x.kind) (first_of_both (is_no_store x) _ h)) store)
stores_behind (suc n) (x ∷ ops) (suc k) t h at s = (let more = stores_behind n ops k t (second_of_both (is_no_store x) _ h) at s in omega (arith, more))

-- ---- nodes

no_test : (test : Option Operand) → is_none test ≡ true → test ≡ None
no_test None h = refl
no_test (Some x) h = absurd (false≢true h)

-- what is said of so many operations is said of as many trees
module _ (cfg : Cfg Untimed) (h : is_consistent cfg ≡ true) (i : ℕ) where
  block_sound : (block : Block Untimed) → slice_get cfg.nodes.items i ≡ Some (node.Plain block) → IsSoundBlock (shapes_of cfg.frame) block
  block_sound block at =
      let f = cfg.frame in
      let ops = block.body.ops.items in
      let valid = node_valid cfg i (node.Plain block) h at in
      let body = first_of_both (is_block_body f block.body) _ valid in
      let does = second_of_both (nat_lt (length ops) (2 ^ 32)) _ (second_of_both (is_none block.body.test) _ body) in
      let count : length ops ≡ length (map op_of ops) = sym (length-map ops op_of) in
      record {
        ops = ops_sound cfg i (node.Plain block) h at;
        outs = subst (λ k. Each (λ (x : Out). IsOperand [] k x.value) block.body.outs.items) count (outs_stand f [] ops block.body.outs.items (second_of_both (are_operations f [] [] ops) _ does));
        ends = subst (λ k. IsSoundEnd k block.end) count (end_sound f ops (length cfg.nodes.items) block.end (second_of_both (is_block_body f block.body) _ valid));
        untested = no_test block.body.test (first_of_both (is_none block.body.test) _ body);
      }

  loop_sound : (region : Loop Untimed) → slice_get cfg.nodes.items i ≡ Some (node.Looped region) → Once region.body.outs.items → IsSoundLoop (shapes_of cfg.frame) region
  loop_sound region at once =
      let f = cfg.frame in
      let outs_ = region.body.outs.items in
      let ops = region.body.ops.items in
      let valid = node_valid cfg i (node.Looped region) h at in
      let body = first_of_both (is_loop_body f region.body) _ valid in
      let front = is_body f outs_ region.body && is_operand_if f.variables.items outs_ ops 1 region.body.test in
      let does = second_of_both (nat_lt (length ops) (2 ^ 32)) _ (first_of_both (is_body f outs_ region.body) _ (first_of_both front _ body)) in
      let named = list_all is_result_out outs_ && name_different outs_ in
      let rest : (named && stores_wait region.body) ≡ true = second_of_both front _ body in
      let results : list_all is_result_out outs_ ≡ true = first_of_both (list_all is_result_out outs_) _ (first_of_both named _ rest) in
      let count : length ops ≡ length (map op_of ops) = sym (length-map ops op_of) in
      record {
        ops = ops_sound cfg i (node.Looped region) h at;
        outs = subst (λ k. Each (NamesResult k) outs_) count (results_named outs_ (length ops) outs_ results (outs_stand f outs_ ops outs_ (second_of_both (are_operations f outs_ [] ops) _ does)));
        apart = outs_apart outs_ results (second_of_both (list_all is_result_out outs_) _ (first_of_both named _ rest)) once;
        test = subst (λ k. IsOperandIf outs_ k region.body.test) count (operand_if_stands f.variables.items outs_ ops 1 region.body.test (second_of_both (is_body f outs_ region.body) _ (first_of_both front _ body)));
        stores = λ k t there. stores_behind (tested region.body.test) ops k t (second_of_both named _ rest) there;
      }

  pub node_sound : (n : Node Untimed) → slice_get cfg.nodes.items i ≡ Some n → SetsOnce n → IsSoundNode (shapes_of cfg.frame) n
  node_sound (node.Plain block) at once = block_sound block at
  node_sound (node.Looped region) at once = loop_sound region at once
