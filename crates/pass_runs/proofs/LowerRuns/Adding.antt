-- An operation more.
use Rattle.std.proofs.Common.{◌≡◌, ◌∙◌, ℕ, ◌+◌, refl, ap, sym, arith, List, [], ◌∷◌, ◌++◌, append_assoc, length, length-append}
use Rattle.std.specs.Prelude.{slice_get, get_or}
use Rattle.std.proofs.Math.Seq.{get_or-append_seam}
use Rattle.ir_core.specs.declared.body.Operand.{Operand}
use Rattle.ir_core.specs.Timing.{result_bits}
use Rattle.hls_base.specs.Valued.{Valued, is, faulty, and_then}
use Rattle.ir_core.specs.Bodies.{OpTree, Shapes, Words, Performed, Ranged, operand, bits_in, perform, operations}
use Rattle.passes.specs.Lowering.Operations.{Emitted, added}
use Rattle.pass_runs.proofs.LowerRuns.Growing.{seam, Grows, grows_nothing}
use Rattle.pass_runs.specs.LowerRuns.Standing.{Stands, Fits}

module _ (shapes : Shapes) where
  -- operations, and then others
  pub operations_append : (ops xs ys : List OpTree) (results : List ℕ) (t : Words) → operations shapes ops (xs ++ ys) results t ≡ and_then (operations shapes ops xs results t) (λ r. operations shapes ops ys r.results r.words)
  operations_append ops [] ys results t = refl
  operations_append ops (x ∷ xs) ys results t = at (λ q. operations_append ops xs ys (results ++ q.result ∷ []) q.words) (perform shapes ops x results t) where
    at : ((q : Performed) → operations shapes ops (xs ++ ys) (results ++ q.result ∷ []) q.words ≡ and_then (operations shapes ops xs (results ++ q.result ∷ []) q.words) (λ r. operations shapes ops ys r.results r.words))
        → (p : Valued Performed) → and_then p (λ q. operations shapes ops (xs ++ ys) (results ++ q.result ∷ []) q.words) ≡ and_then (and_then p (λ q. operations shapes ops xs (results ++ q.result ∷ []) q.words)) (λ r. operations shapes ops ys r.results r.words)
    at ih (is q) = ih q
    at ih (faulty rule place) = refl

  -- It is performed so whatever comes behind it.
  pub stands_more : (t : Words) (ops : List OpTree) (r : Ranged) (op : OpTree) (p : Performed) → Stands shapes t ops r → ((later : List OpTree) → perform shapes (ops ++ later) op r.results r.words ≡ is p)
      → Stands shapes t (ops ++ op ∷ []) (record { results = r.results ++ p.result ∷ []; words = p.words })
  stands_more t ops r op p h does = record {
    run = λ later.
        (ap (λ l. operations shapes l (ops ++ op ∷ []) [] t) (append_assoc ops (op ∷ []) later)
        ∙ operations_append (ops ++ op ∷ later) ops (op ∷ []) [] t
        ∙ ap (λ (x : Valued Ranged). and_then x (λ q. operations shapes (ops ++ op ∷ later) (op ∷ []) q.results q.words)) (h.run (op ∷ later))
        ∙ ap (λ (x : Valued Performed). and_then x (λ q. operations shapes (ops ++ op ∷ later) [] (r.results ++ q.result ∷ []) q.words)) (does (op ∷ later)));
    count = length-append r.results (p.result ∷ []) ∙ ap (λ n. n + 1) h.count ∙ sym (length-append ops (op ∷ []));
  }

  -- one that leaves the words as they were
  pub record Adds (t : Words) (ops : List OpTree) (r : Ranged) (x : Emitted) (bits w : ℕ) : Type 0 where
    pub next : Ranged
    pub stands : Stands shapes t x.ops next
    pub grows : Grows shapes ops r x.ops next
    pub fits : Fits shapes x.ops next x.operand bits
    pub holds : operand next.words next.results x.operand ≡ w

  pub adds : (t : Words) (ops : List OpTree) (r : Ranged) (op : OpTree) (w : ℕ) → Stands shapes t ops r → ((later : List OpTree) → perform shapes (ops ++ later) op r.results r.words ≡ is (record { result = w; words = r.words }))
      → Adds t ops r (added ops op) (result_bits op.kind op.bits) w
  adds t ops r op w h does = record {
    next = record { results = r.results ++ w ∷ []; words = r.words };
    stands = stands_more t ops r op (record { result = w; words = r.words }) h does;
    grows = record { more = op ∷ []; grown = refl; others = w ∷ []; same = refl };
    fits = record {
      early = let e = length-append r.results (w ∷ []) in let c = h.count in omega (arith, e, c);
      wide = λ later d. (ap (λ l. bits_in (slice_get l (length ops)) d) (append_assoc ops (op ∷ []) later) ∙ ap (λ o. bits_in o d) (seam ops later op));
    };
    holds = ap (λ n. get_or (r.results ++ w ∷ []) n 0) (sym h.count) ∙ get_or-append_seam r.results w [] 0;
  }

  -- nothing is added
  pub adds_nothing : (t : Words) (ops : List OpTree) (r : Ranged) (x : Operand) (bits : ℕ) → Stands shapes t ops r → Fits shapes ops r x bits → Adds t ops r (record { ops = ops; operand = x }) bits (operand r.words r.results x)
  adds_nothing t ops r x bits h fits = record { next = r; stands = h; grows = grows_nothing shapes ops r; fits = fits; holds = refl }
