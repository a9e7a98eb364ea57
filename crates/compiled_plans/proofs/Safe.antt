-- What is left out is not needed.
use Rattle.std.proofs.Common.{◌≡◌, ℕ, zero, suc, ◌<◌, true, false, ◌&&◌, sym, ap, ◌∙◌, subst, List, [], ◌∷◌, flat_map, length, Some, arith}
use Rattle.std.specs.Prelude.{◌==◌, slice_get}
use Rattle.std.specs.List.{list_any}
use Rattle.hls_base.specs.declared.number.Kept.{Kept}
use Rattle.hls_base.specs.declared.number.VarId.{VarId}
use Rattle.ir_core.specs.declared.cfg.Cfg.{Cfg}
use Rattle.ir_core.specs.declared.cfg.Node.{Node}
use Rattle.ir_core.specs.declared.cfg.Node.TheVariants as node
use Rattle.ir_core.specs.declared.timed.Timed.{Timed}
use Rattle.pass_runs.proofs.ConvertRuns.Opening.{itself_number}
use Rattle.clock_runs.proofs.Lists.{no_some}
use Rattle.reg_binding.specs.declared.live.Live.{Live}
use Rattle.reg_binding.specs.Liveness as lv
use Rattle.reg_binding.specs.Liveness.{Flow, flow_of, summary_of, is_among, out_reads, is_behind, goes_by, IsLiveness}
use Rattle.reg_binding.specs.declared.registers.Registers.{Registers}
use Rattle.clock_ir.specs.ClockRuns.{TimedNode, timed_node}
use Rattle.datapath.specs.Plans.{Plan, plan_of}
use Rattle.datapath.specs.Savings as savings
use Rattle.datapath.specs.Savings.{NodeReads, LeadsTo, Returns, Passes, StaysForNextRun, Moves, IsLive, IsLiveBehind}
use Rattle.datapath.specs.LeftOut.{behind_if, is_read_in, is_read, savings_of}
use Rattle.compiled_plans.specs.Names.{NamesVariables}
use Rattle.compiled_plans.proofs.Lists.{or_left, or_right, any_at, among_right, among_flat, among_operand, mapped, at_map}
use Rattle.compiled_plans.proofs.Reading.{reads_among, leads_at, returns_so, passes_so}

pub within : {A : Type 0} (xs : List A) (k : ℕ) (x : A) → slice_get xs k ≡ Some x → k < length xs
within [] k x e = absurd (no_some e)
within (y ∷ xs) zero x e = omega arith
within (y ∷ xs) (suc k) x e = (let h = within xs k x e in omega arith)

module _ (timed : Cfg Timed) (registers : Registers) (live : Live) (liveness : IsLiveness (flow_of timed) live) where
  abbrev p : Plan
  p = plan_of timed registers (savings_of timed live)

  abbrev flow : Flow
  flow = flow_of timed

  -- a node of the plan
  record NodeAt (i : ℕ) (n : TimedNode) : Type 0 where
    nd : Node Timed
    there : slice_get timed.nodes.items i ≡ Some nd
    is : timed_node nd ≡ n

  node_at : (i : ℕ) (n : TimedNode) → slice_get p.program.nodes i ≡ Some n → NodeAt i n
  node_at i n e = (let m = mapped timed_node timed.nodes.items i n e in record { nd = m.0; there = m.1.0; is = m.1.1 })

  module _ (small_kept : (v : ℕ) → StaysForNextRun p v → v < flow.variables) (names : NamesVariables p) where
    -- a variable that is live as a node is entered
    record LiveAt (v i : ℕ) : Type 0 where
      nd : Node Timed
      there : slice_get timed.nodes.items i ≡ Some nd
      small : v < flow.variables
      live_ : lv.IsLive flow (summary_of nd) v

    behind_next : (v i j : ℕ) (nd : Node Timed) → LeadsTo (timed_node nd) j → LiveAt v j → lv.IsLiveBehind flow (summary_of nd) v
    behind_next v i j nd leads h =
        let l = leads_at nd j leads in
        lv.leads l.place l.next (summary_of h.nd) l.stands (ap (slice_get flow.summaries) l.is ∙ at_map summary_of timed.nodes.items j h.nd h.there) h.live_

    kept_among : (v : ℕ) → StaysForNextRun p v → is_among v flow.kept ≡ true
    kept_among v s = any_at (λ (w : VarId). w.0 == v) flow.kept s.number s.kept.variable (at_map (λ (k : Kept). k.variable) timed.frame.kept.items s.number s.kept s.stands) (ap (λ n. n == v) s.variable ∙ itself_number v)

    behind_end : (v : ℕ) (nd : Node Timed) → Returns (timed_node nd) → StaysForNextRun p v → lv.IsLiveBehind flow (summary_of nd) v
    behind_end v nd returns s = lv.stays (returns_so nd returns) (kept_among v s)

    -- what goes into a variable that is live behind the node is live
    moved : (v w : ℕ) (nd : Node Timed) → Moves (timed_node nd) v w → w < flow.variables → lv.IsLiveBehind flow (summary_of nd) w → lv.IsLive flow (summary_of nd) v
    moved v w (node.Plain b) m small behind =
        lv.goes m.number m.out m.stands (ap (λ n. is_among n (out_reads m.out)) (sym m.source_.1.1) ∙ among_operand m.out.value m.source_.0 m.source_.1.0)
        (subst (λ n. n < flow.variables) (sym m.target) small) (subst (λ n. lv.IsLiveBehind flow (summary_of (node.Plain b)) n) (sym m.target) behind)
    moved v w (node.Looped r) m small behind =
        lv.reads (among_right v (lv.body_reads r.body) (flat_map out_reads r.body.outs.items)
        (among_flat v out_reads r.body.outs.items m.number m.out m.stands (ap (λ n. is_among n (out_reads m.out)) (sym m.source_.1.1) ∙ among_operand m.out.value m.source_.0 m.source_.1.0)))

    live_at : (v i : ℕ) → IsLive p v i → LiveAt v i
    live_at v i (savings.is_read w i1 n x at reads is) =
        let a = node_at i n at in record {
          nd = a.nd;
          there = a.there;
          small = names.read i n x w at reads is;
          live_ = lv.reads (reads_among w x is a.nd (subst (λ m. NodeReads m x) (sym a.is) reads));
        }
    live_at v i (savings.passes v1 i1 j n at pass leads on) =
        let a = node_at i n at in
        let r = live_at v j on in record {
          nd = a.nd;
          there = a.there;
          small = r.small;
          live_ = lv.passes (passes_so a.nd v (subst (λ m. Passes m v) (sym a.is) pass)) (behind_next v i j a.nd (subst (λ m. LeadsTo m j) (sym a.is) leads) r);
        }
    live_at v i (savings.moves v1 w i1 j n at m leads on) =
        let a = node_at i n at in
        let r = live_at w j on in record {
          nd = a.nd;
          there = a.there;
          small = names.moved i v w n at m;
          live_ = moved v w a.nd (subst (λ z. Moves z v w) (sym a.is) m) r.small (behind_next w i j a.nd (subst (λ z. LeadsTo z j) (sym a.is) leads) r);
        }
    live_at v i (savings.stays v1 i1 n at pass returns s) =
        let a = node_at i n at in record {
          nd = a.nd;
          there = a.there;
          small = small_kept v s;
          live_ = lv.passes (passes_so a.nd v (subst (λ m. Passes m v) (sym a.is) pass)) (behind_end v a.nd (subst Returns (sym a.is) returns) s);
        }
    live_at v i (savings.moves_last v1 w i1 n at m returns s) =
        let a = node_at i n at in record {
          nd = a.nd;
          there = a.there;
          small = names.moved i v w n at m;
          live_ = moved v w a.nd (subst (λ z. Moves z v w) (sym a.is) m) (small_kept w s) (behind_end w a.nd (subst Returns (sym a.is) returns) s);
        }

    -- ---- behind nodes

    pub behind_safe : (v i : ℕ) → IsLiveBehind p v i → p.savings.behind i v ≡ true
    behind_safe v i (savings.goes_on j n at leads on) =
        let a = node_at i n at in
        let r = live_at v j on in
        ap (λ o. behind_if live o v) a.there ∙ liveness.all (summary_of a.nd) v r.small (behind_next v i j a.nd (subst (λ m. LeadsTo m j) (sym a.is) leads) r)
    behind_safe v i (savings.next_run n at returns s) =
        let a = node_at i n at in
        ap (λ o. behind_if live o v) a.there ∙ liveness.all (summary_of a.nd) v (small_kept v s) (behind_end v a.nd (subst Returns (sym a.is) returns) s)

    -- ---- variables that are read

    node_reads : (v i : ℕ) (nd : Node Timed) → slice_get timed.nodes.items i ≡ Some nd → is_read_in live v nd ≡ true → is_read timed live v ≡ true
    node_reads v i nd at e = or_left (list_any (is_read_in live v) timed.nodes.items) (list_any (λ (k : Kept). k.variable.0 == v) timed.frame.kept.items) (any_at (is_read_in live v) timed.nodes.items i nd at e)

    kept_reads : (v : ℕ) → StaysForNextRun p v → is_read timed live v ≡ true
    kept_reads v s =
        or_right (list_any (is_read_in live v) timed.nodes.items) (list_any (λ (k : Kept). k.variable.0 == v) timed.frame.kept.items)
        (any_at (λ (k : Kept). k.variable.0 == v) timed.frame.kept.items s.number s.kept s.stands (ap (λ n. n == v) s.variable ∙ itself_number v))

    moved_reads : (v w : ℕ) (nd : Node Timed) → Moves (timed_node nd) v w → is_behind live (summary_of nd) w ≡ true → is_read_in live v nd ≡ true
    moved_reads v w (node.Plain b) m behind =
        or_right (is_among v (summary_of (node.Plain b)).reads) (list_any (goes_by (is_behind live (summary_of (node.Plain b))) v) b.body.outs.items)
        (any_at (goes_by (is_behind live (summary_of (node.Plain b))) v) b.body.outs.items m.number m.out m.stands
        (ap (λ c. c && is_among v (out_reads m.out)) (ap (is_behind live (summary_of (node.Plain b))) m.target ∙ behind) ∙ ap (λ n. is_among n (out_reads m.out)) (sym m.source_.1.1) ∙ among_operand m.out.value m.source_.0 m.source_.1.0))
    moved_reads v w (node.Looped r) m behind =
        or_left (is_among v (summary_of (node.Looped r)).reads) false (among_right v (lv.body_reads r.body) (flat_map out_reads r.body.outs.items)
        (among_flat v out_reads r.body.outs.items m.number m.out m.stands (ap (λ n. is_among n (out_reads m.out)) (sym m.source_.1.1) ∙ among_operand m.out.value m.source_.0 m.source_.1.0)))

    pub read_safe : (v i : ℕ) → IsLive p v i → p.savings.read v ≡ true
    read_safe v i (savings.is_read w i1 n x at reads is) =
        let a = node_at i n at in
        node_reads w.0 i a.nd a.there (or_left (is_among w.0 (summary_of a.nd).reads) (list_any (goes_by (is_behind live (summary_of a.nd)) w.0) (summary_of a.nd).outs) (reads_among w x is a.nd (subst (λ m. NodeReads m x) (sym a.is) reads)))
    read_safe v i (savings.passes v1 i1 j n at pass leads on) = read_safe v j on
    read_safe v i (savings.moves v1 w i1 j n at m leads on) =
        let a = node_at i n at in
        let r = live_at w j on in
        node_reads v i a.nd a.there (moved_reads v w a.nd (subst (λ z. Moves z v w) (sym a.is) m) (liveness.all (summary_of a.nd) w r.small (behind_next w i j a.nd (subst (λ z. LeadsTo z j) (sym a.is) leads) r)))
    read_safe v i (savings.stays v1 i1 n at pass returns s) = kept_reads v s
    read_safe v i (savings.moves_last v1 w i1 n at m returns s) =
        let a = node_at i n at in
        node_reads v i a.nd a.there (moved_reads v w a.nd (subst (λ z. Moves z v w) (sym a.is) m) (liveness.all (summary_of a.nd) w (small_kept w s) (behind_end w a.nd (subst Returns (sym a.is) returns) s)))
