-- What is collected of operations, one after another.
use Rattle.std.proofs.Common.{◌≡◌, ◌⊎◌, inl, inr, ℕ, zero, suc, ◌+◌, List, [], ◌∷◌, ◌++◌, length, map, slice_get, Option, Some, None, refl, sym, ap, ◌∙◌, subst, arith}
use Rattle.std.specs.Prelude.{get_or, flat_map}
use Rattle.std.specs.List.{enumerate_from}
use Rattle.std.specs.Option.{option_map}
use Rattle.std.proofs.lemmas.List.{map-append, append-nil}
use Rattle.std.proofs.lemmas.Grind.{flat_map-append}
use Rattle.std.proofs.lemmas.Option.{slice_get-map, get_or_from_slice_get, none-some}
use Rattle.ir_core.specs.declared.body.Op.{Op}
use Rattle.ir_core.specs.declared.cfg.Node.{Node}
use Rattle.rtl_core.specs.declared.design.Atom.{Atom}
use Rattle.rtl_core.specs.Netlist.{Netlist}
use Rattle.rtl_core.proofs.Stability.{Extends}
use Rattle.rtl_logic.proofs.Making.{appended}
use Rattle.ir_core.specs.declared.timed.Timed.{Timed}
use Rattle.clock_ir.specs.Flows.{TimedOp, timed_op}
use Rattle.clock_ir.specs.ClockRuns.{timed_node}
use Rattle.datapath.specs.Plans.{Plan, Placed, body_of, body_if, body_at, node_units, placed_in}
use Rattle.datapath.specs.Cycles.{Register, Cycle}
use Rattle.datapath.specs.Values.{arriving, arriving_of, arriving_as}
use Rattle.datapath.proofs.Combining.{carries_on}
use Rattle.circuit_context.specs.declared.wanted.log.Push.{Push}
use Rattle.circuit_context.specs.Wanted.Entries.{demands_of, all_demands}
use Rattle.circuit_context.specs.Wanted.Logs.{Logs, CarriesSome}
use Rattle.circuit_context.proofs.WantedLemmas.Joining.{logs_then, logs_none}
use Rattle.datapath.specs.CircuitWires.Carrying.{IsBegun}
use Rattle.circuit_context.specs.declared.context.Context.{Context}
use Rattle.circuit_context.specs.Contexts.{IsContext, placed}
use Rattle.circuit_units.specs.declared.demands.started.Started.{Started}
use Rattle.circuit_units.specs.Demands.Placing.{placed_as, IsStarted}
use Rattle.circuit_units.specs.Demands.Collected.{Collects, AreOpsOf, placed_ops, AreWires, CollectsOps, AreAllWires, CollectsNodes}
use Rattle.circuit_units.proofs.DemandsLemmas.Reading.{carried_some_as, same_place, stands_timed}

-- ---- lists

numbered_end : {X : Type 0} (n m : ℕ) (xs : List X) (x : X) → m ≡ n + length xs → enumerate_from n (xs ++ x ∷ []) ≡ enumerate_from n xs ++ (m, x) ∷ []
numbered_end {X} n m [] x is = ap {B = List (ℕ × X)} (λ (k : ℕ). (k, x) ∷ []) (omega (arith, is))
numbered_end {X} n m (y ∷ ys) x is = ap {A = List (ℕ × X)} {B = List (ℕ × X)} (λ l. (n, y) ∷ l) (numbered_end (n + 1) m ys x (omega (arith, is)))

-- what is at a place of a list with one more at its end
at_end_or : {A : Type 0} (xs : List A) (x d : A) (k : ℕ) → (get_or (xs ++ x ∷ []) k d ≡ get_or xs k d) ⊎ ((k ≡ length xs) × (get_or (xs ++ x ∷ []) k d ≡ x))
at_end_or [] x d zero = inr (refl, refl)
at_end_or [] x d (suc k) = inl refl
at_end_or (y ∷ ys) x d zero = inl refl
at_end_or (y ∷ ys) x d (suc k) = later (at_end_or ys x d k) where
  later : (get_or (ys ++ x ∷ []) k d ≡ get_or ys k d) ⊎ ((k ≡ length ys) × (get_or (ys ++ x ∷ []) k d ≡ x)) → (get_or (ys ++ x ∷ []) k d ≡ get_or ys k d) ⊎ ((suc k ≡ suc (length ys)) × (get_or (ys ++ x ∷ []) k d ≡ x))
  later (inl h) = inl h
  later (inr h) = inr (ap suc h.0, h.1)

mapped_length : {A B : Type 0} (f : A → B) (xs : List A) → length (map f xs) ≡ length xs
mapped_length f [] = refl
mapped_length f (x ∷ xs) = ap suc (mapped_length f xs)

pushed_length : {A : Type 0} (xs : List A) (x : A) → length (xs ++ x ∷ []) ≡ suc (length xs)
pushed_length [] x = refl
pushed_length (y ∷ ys) x = ap suc (pushed_length ys x)

placed_end : (i : ℕ) (ops : List (Op Timed)) (op : Op Timed) → placed_ops i (map timed_op (ops ++ op ∷ [])) ≡ placed_ops i (map timed_op ops) ++ placed i (length ops) op ∷ []
placed_end i ops op =
    let at_ : ℕ × TimedOp → Placed = λ o. record { node = i; number = o.0; op = o.1 } in
    ap (λ l. map at_ (enumerate_from 0 l)) (map-append timed_op ops (op ∷ []))
    ∙ (ap (map at_) (numbered_end 0 (length ops) (map timed_op ops) (timed_op op) (omega (arith, mapped_length timed_op ops))) ∙ map-append at_ (enumerate_from 0 (map timed_op ops)) ((length ops, timed_op op) ∷ []))

-- ---- wires

carried_later : (p : Plan) (names : List Register) (d e : Netlist) (a : Atom) (value : Cycle → ℕ) → Extends d e → CarriesSome p names d a value → CarriesSome p names e a value
carried_later p names d e a value longer h = record { bits = h.bits; carries = carries_on p names d e h.bits a value longer h.carries }

-- ---- one operation more

-- the operation is one of those of its node
pub started_at : (p : Plan) (i k : ℕ) (ops : List (Op Timed)) (it : Started) → AreOpsOf p i ops → it.at.node.0 ≡ i → it.number ≡ k → it.ops.now ≡ ops → it.at.time ≡ it.op.now.stamp.start
    → slice_get ops k ≡ Some it.op.now → IsStarted p it
started_at p i k ops it h node number all time stands =
    let here : slice_get it.ops.now it.number ≡ Some it.op.now = ap (λ l. slice_get l it.number) all ∙ (ap (slice_get ops) number ∙ stands) in
    let bounds : List ℕ = map (λ (op : Op Timed). op.stamp.bound) ops in
    record {
      ops = ap (λ j. (body_at p j).ops) node ∙ (h.ops_ ∙ ap (map timed_op) (sym all));
      stands = here;
      time = time;
      unit = ap (λ j. get_or (get_or p.units j []) it.number 0) node ∙ (ap (λ l. get_or l it.number 0) h.units ∙ (ap (λ n. get_or bounds n 0) number
          ∙ get_or_from_slice_get bounds k it.op.now.stamp.bound 0 (slice_get-map (λ (op : Op Timed). op.stamp.bound) ops k ∙ ap (option_map (λ (op : Op Timed). op.stamp.bound)) stands)));
    }

pub arrives : (p : Plan) (it : Started) → IsStarted p it → (c : Cycle) → arriving_as it.op.now.kind p c (placed_as it) ≡ arriving p c it.at.node.0 it.number
arrives p it h c =
    ap (arriving_as it.op.now.kind p c) (sym (same_place p it h)) ∙ sym (ap (arriving_of p c it.at.node.0 it.number) (stands_timed p it h))

wires_end : (p : Plan) (names : List Register) (e f : Netlist) (i : ℕ) (it : Started) (wires : List (Option Atom)) (wire : Option Atom) → Extends e f → AreWires p names e i wires
    → ((a : Atom) → wire ≡ Some a → CarriesSome p names f a (λ c. arriving p c i (length wires))) → AreWires p names f i (wires ++ wire ∷ [])
wires_end p names e f i it wires wire longer before new k a is = by (at_end_or wires wire None k) where
  by : (get_or (wires ++ wire ∷ []) k None ≡ get_or wires k None) ⊎ ((k ≡ length wires) × (get_or (wires ++ wire ∷ []) k None ≡ wire)) → CarriesSome p names f a (λ c. arriving p c i k)
  by (inl same) = carried_later p names e f a (λ c. arriving p c i k) longer (before k a (sym same ∙ is))
  by (inr last) = subst (λ n. CarriesSome p names f a (λ c. arriving p c i n)) (sym last.0) (new a (sym last.1 ∙ is))

pub one_operation : (p : Plan) (names : List Register) (d e f : Netlist) (a b c : List Push) (i : ℕ) (ops more : List (Op Timed)) (it : Started) (wires next : List (Option Atom)) (wire : Option Atom)
    → CollectsOps p names d e a b i ops wires → IsStarted p it → it.at.node.0 ≡ i → it.number ≡ length ops → more ≡ ops ++ it.op.now ∷ [] → Collects p names e f b c it wire → next ≡ wires ++ wire ∷ []
    → CollectsOps p names d f a c i more next
one_operation p names d e f a b c i ops more it wires next wire h started node number grows one is =
    let longer = appended e f one.logs.appends in
    let here : placed i (length ops) it.op.now ≡ placed_as it =
    sym (ap (λ j. placed j it.number it.op.now) node ∙ ap (λ n. placed i n it.op.now) number) ∙ same_place p it started in
    let entries : flat_map (demands_of p) (placed_ops i (map timed_op more)) ≡ flat_map (demands_of p) (placed_ops i (map timed_op ops)) ++ demands_of p (placed_as it) =
    ap (λ l. flat_map (demands_of p) (placed_ops i (map timed_op l))) grows
    ∙ (ap (flat_map (demands_of p)) (placed_end i ops it.op.now) ∙ (flat_map-append (demands_of p) (placed_ops i (map timed_op ops)) (placed i (length ops) it.op.now ∷ [])
    ∙ ap (λ l. flat_map (demands_of p) (placed_ops i (map timed_op ops)) ++ l) (append-nil (demands_of p (placed i (length ops) it.op.now)) ∙ ap (demands_of p) here))) in
    let new : (x : Atom) → wire ≡ Some x → CarriesSome p names f x (λ c. arriving p c i (length wires)) = λ x w.
    carried_some_as p names f x (λ c. arriving_as it.op.now.kind p c (placed_as it)) (λ c. arriving p c i (length wires))
    (λ c. arrives p it started c ∙ (ap (λ j. arriving p c j it.number) node ∙ ap (arriving p c i) (number ∙ sym h.count))) (one.wire_ x w) in
    record {
      logs = subst (Logs p names d f a c) (sym entries) (logs_then p names d e f a b c (flat_map (demands_of p) (placed_ops i (map timed_op ops))) (demands_of p (placed_as it)) h.logs one.logs);
      wires_ = subst (AreWires p names f i) (sym is) (wires_end p names e f i it wires wire longer h.wires_ new);
      count = ap length is ∙ (pushed_length wires wire ∙ (ap suc h.count ∙ sym (ap length grows ∙ pushed_length ops it.op.now)));
    }

pub no_operations : (p : Plan) (names : List Register) (d : Netlist) (a : List Push) (i : ℕ) → IsBegun p names d → CollectsOps p names d d a a i [] []
no_operations p names d a i begun = record { logs = logs_none p names d a begun; wires_ = λ k x is. absurd (none-some x is); count = refl }

-- ---- one node more

-- the operations of a node of the program are those of the plan's node
pub node_ops : (p : Plan) (names : List Register) (of : Context) (i : ℕ) (n : Node Timed) (ops : List (Op Timed)) → IsContext p names of → slice_get of.cfg.now.nodes.items i ≡ Some n
    → map timed_op ops ≡ (body_of (timed_node n)).ops → map (λ (op : Op Timed). op.stamp.bound) ops ≡ node_units n → AreOpsOf p i ops
node_ops p names of i n ops context at_ all units =
    let nodes = of.cfg.now.nodes.items in
    subst (λ q. AreOpsOf q i ops) (sym context.plan) (record {
      ops_ = ap (λ o. (body_if o).ops) (slice_get-map timed_node nodes i ∙ ap (option_map timed_node) at_) ∙ sym all;
      units = get_or_from_slice_get (map node_units nodes) i (node_units n) [] (slice_get-map node_units nodes i ∙ ap (option_map node_units) at_) ∙ sym units;
    })

rows_end : (p : Plan) (names : List Register) (e f : Netlist) (rows : List (List (Option Atom))) (wires : List (Option Atom)) → Extends e f → AreAllWires p names e rows → AreWires p names f (length rows) wires
    → AreAllWires p names f (rows ++ wires ∷ [])
rows_end p names e f rows wires longer before new i k a is = by (at_end_or rows wires [] i) where
  by : (get_or (rows ++ wires ∷ []) i [] ≡ get_or rows i []) ⊎ ((i ≡ length rows) × (get_or (rows ++ wires ∷ []) i [] ≡ wires)) → CarriesSome p names f a (λ c. arriving p c i k)
  by (inl same) = carried_later p names e f a (λ c. arriving p c i k) longer (before i k a (sym (ap (λ l. get_or l k None) same) ∙ is))
  by (inr last) = subst (λ n. CarriesSome p names f a (λ c. arriving p c n k)) (sym last.0) (new k a (sym (ap (λ l. get_or l k None) last.1) ∙ is))

pub one_node : (p : Plan) (names : List Register) (d e f : Netlist) (a b c : List Push) (i : ℕ) (nodes more : List (Node Timed)) (n : Node Timed) (ops : List (Op Timed))
    (rows next : List (List (Option Atom))) (wires : List (Option Atom)) → CollectsNodes p names d e a b nodes rows → i ≡ length nodes → more ≡ nodes ++ n ∷ []
    → map timed_op ops ≡ (body_of (timed_node n)).ops → CollectsOps p names e f b c i ops wires → next ≡ rows ++ wires ∷ [] → CollectsNodes p names d f a c more next
one_node p names d e f a b c i nodes more n ops rows next wires h number grows all one is =
    let longer = appended e f one.logs.appends in
    let before : List Placed = flat_map placed_in (enumerate_from 0 (map timed_node nodes)) in
    let new : List Placed = placed_in (length nodes, timed_node n) in
    let same : placed_ops i (map timed_op ops) ≡ new = ap (λ l. placed_ops i l) all ∙ ap (λ j. placed_in (j, timed_node n)) number in
    let listed : flat_map placed_in (enumerate_from 0 (map timed_node more)) ≡ before ++ new =
    ap (λ l. flat_map placed_in (enumerate_from 0 (map timed_node l))) grows
    ∙ (ap (λ l. flat_map placed_in (enumerate_from 0 l)) (map-append timed_node nodes (n ∷ []))
    ∙ (ap (flat_map placed_in) (numbered_end 0 (length nodes) (map timed_node nodes) (timed_node n) (omega (arith, mapped_length timed_node nodes)))
    ∙ (flat_map-append placed_in (enumerate_from 0 (map timed_node nodes)) ((length nodes, timed_node n) ∷ []) ∙ ap (λ l. before ++ l) (append-nil new)))) in
    let entries : flat_map (demands_of p) (flat_map placed_in (enumerate_from 0 (map timed_node more))) ≡ flat_map (demands_of p) before ++ flat_map (demands_of p) (placed_ops i (map timed_op ops)) =
    ap (flat_map (demands_of p)) listed ∙ (flat_map-append (demands_of p) before new ∙ ap (λ l. flat_map (demands_of p) before ++ flat_map (demands_of p) l) (sym same)) in
    let at_ : i ≡ length rows = number ∙ sym h.count in
    record {
      logs = subst (Logs p names d f a c) (sym entries) (logs_then p names d e f a b c (flat_map (demands_of p) before) (flat_map (demands_of p) (placed_ops i (map timed_op ops))) h.logs one.logs);
      wires_ = subst (AreAllWires p names f) (sym is) (rows_end p names e f rows wires longer h.wires_ (subst (λ j. AreWires p names f j wires) at_ one.wires_));
      count = ap length is ∙ (pushed_length rows wires ∙ (ap suc h.count ∙ sym (ap length grows ∙ pushed_length nodes n)));
    }

pub no_nodes : (p : Plan) (names : List Register) (d : Netlist) (a : List Push) → IsBegun p names d → CollectsNodes p names d d a a [] []
no_nodes p names d a begun = record { logs = logs_none p names d a begun; wires_ = λ i k x is. absurd (none-some x is); count = refl }

-- all nodes are collected
pub all_logged : (p : Plan) (names : List Register) (d e : Netlist) (a b : List Push) (nodes : List (Node Timed)) (rows : List (List (Option Atom))) → p.program.nodes ≡ map timed_node nodes
    → CollectsNodes p names d e a b nodes rows → Logs p names d e a b (all_demands p)
all_logged p names d e a b nodes rows is h = subst (λ ns. Logs p names d e a b (flat_map (demands_of p) (flat_map placed_in (enumerate_from 0 ns)))) (sym is) h.logs
