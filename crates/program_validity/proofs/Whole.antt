-- What a valid program names is there.
use Rattle.std.proofs.Common.{◌≡◌, ℕ, zero, suc, ◌<◌, ◌∙◌, sym, refl, ap, subst, Bool, true, ◌&&◌, List, [], ◌∷◌, ◌++◌, map, length}
use Rattle.std.specs.Prelude.{nat_lt, slice_get, Option, Some, None, is_none}
use Rattle.std.specs.List.{list_all}
use Rattle.std.proofs.lemmas.Bool.{and_parts, ltb-true}
use Rattle.std.proofs.lemmas.List.{length-map}
use Rattle.std.proofs.lemmas.Option.{slice_get_within}
use Rattle.hls_base.specs.declared.number.ArrayId.{ArrayId}
use Rattle.hls_base.specs.declared.number.Kept.{Kept}
use Rattle.hls_base.specs.declared.number.VarId.{VarId}
use Rattle.ir_core.specs.declared.body.Body.{Body}
use Rattle.ir_core.specs.declared.body.Op.{Op}
use Rattle.ir_core.specs.declared.body.OpKind.{OpKind}
use Rattle.ir_core.specs.declared.body.OpKind.TheVariants as o
use Rattle.ir_core.specs.declared.body.Out.{Out}
use Rattle.ir_core.specs.declared.cfg.Cfg.{Cfg}
use Rattle.ir_core.specs.declared.cfg.Frame.{Frame}
use Rattle.ir_core.specs.declared.cfg.Memory.{Memory}
use Rattle.ir_core.specs.declared.cfg.Node.{Node}
use Rattle.ir_core.specs.declared.cfg.Node.TheVariants as node
use Rattle.ir_core.specs.declared.stamp.Untimed.{Untimed}
use Rattle.flat_programs.specs.Machine.Held.{IsThere}
use Rattle.flat_programs.specs.Machine.Sizes.{body_in, KeptThere, ParametersThere}
use Rattle.flat_programs.specs.Machine.States.{VariablesThere, ArraysThere}
use Rattle.flat_programs.specs.Machine.Rest.{IsWhole}
use Rattle.program_validity.specs.Widths.{is_word_of}
use Rattle.program_validity.specs.Frames.{are_variables, is_kept, is_frame}
use Rattle.program_validity.specs.Operations.{accesses_in, acts, memory_of, computes, is_operation}
use Rattle.program_validity.specs.Bodies.{are_operations, is_set, is_out, is_body}
use Rattle.program_validity.specs.Programs.{is_valid_node, is_consistent, is_valid}

-- ---- tests that hold

first_of_both : (x y : Bool) → (x && y) ≡ true → x ≡ true
first_of_both x y h = (and_parts x y h).0

second_of_both : (x y : Bool) → (x && y) ≡ true → y ≡ true
second_of_both x y h = (and_parts x y h).1

no_some : {A : Type 0} {x : A} → None ≡ Some x → ⊥
no_some e = (cc)

some_same : {A : Type 0} {x y : A} → Some x ≡ Some y → x ≡ y
some_same e = (cc)

each : {A : Type 0} (p : A → Bool) (xs : List A) (k : ℕ) (x : A) → list_all p xs ≡ true → slice_get xs k ≡ Some x → p x ≡ true
each p [] k x h e = absurd (no_some e)
each p (y ∷ ys) zero x h e = ap p (sym (some_same e)) ∙ (and_parts (p y) (list_all p ys) h).0
each p (y ∷ ys) (suc k) x h e = each p ys k x (and_parts (p y) (list_all p ys) h).1 e

-- ---- variables

params_there : (widths : List ℕ) (vs : List VarId) → are_variables widths vs ≡ true → ParametersThere vs (length widths)
params_there widths [] h = tt
params_there widths (v ∷ vs) h =
    let both = and_parts (nat_lt v.0 (length widths)) (are_variables widths vs) h in
    (ltb-true v.0 (length widths) both.0, params_there widths vs both.1)

some_width : (width : Option ℕ) (word : ℕ) → is_word_of width word ≡ true → (bits : ℕ) × (width ≡ Some bits)
some_width None word h = absurd (cc)
some_width (Some bits) word h = (bits, refl)

kept_there : (f : Frame) (ks : List Kept) → list_all (is_kept f) ks ≡ true → KeptThere ks (length f.variables.items)
kept_there f [] h = tt
kept_there f (k ∷ ks) h =
    let both = and_parts (is_kept f k) (list_all (is_kept f) ks) h in
    let there = some_width (slice_get f.variables.items k.variable.0) k.value (first_of_both _ _ both.0) in
    (slice_get_within f.variables.items k.variable.0 there.0 there.1, kept_there f ks both.1)

some_set : (f : Frame) (carried : List Out) (ops : List (Op Untimed)) (out : Out) (width : Option ℕ) → is_set f carried ops out width ≡ true → (bits : ℕ) × (width ≡ Some bits)
some_set f carried ops out None h = absurd (cc)
some_set f carried ops out (Some bits) h = (bits, refl)

outs_there : (f : Frame) (carried : List Out) (ops : List (Op Untimed)) (outs : List Out) → list_all (is_out f carried ops) outs ≡ true → VariablesThere outs (length f.variables.items)
outs_there f carried ops [] h = tt
outs_there f carried ops (out ∷ outs) h =
    let both = and_parts (is_out f carried ops out) (list_all (is_out f carried ops) outs) h in
    let there = some_set f carried ops out (slice_get f.variables.items out.variable.0) both.0 in
    (slice_get_within f.variables.items out.variable.0 there.0 there.1, outs_there f carried ops outs both.1)

-- ---- arrays

abbrev dims_in : Frame → List (List ℕ)
dims_in f = map (λ (m : Memory). m.dims.items) f.memories.items

some_memory : (widths : List ℕ) (carried : List Out) (before : List (Op Untimed)) (op : Op Untimed) (m : Option Memory) → accesses_in widths carried before op m ≡ true → (memory : Memory) × (m ≡ Some memory)
some_memory widths carried before op None h = absurd (cc)
some_memory widths carried before op (Some m) h = (m, refl)

accessed : (f : Frame) (carried : List Out) (before : List (Op Untimed)) (op : Op Untimed) (array : Option ArrayId)
    → accesses_in f.variables.items carried before op (memory_of f.memories.items array) ≡ true → IsThere array (dims_in f)
accessed f carried before op None h = tt
accessed f carried before op (Some array) h =
    let there = some_memory f.variables.items carried before op (slice_get f.memories.items array.0) h in
    let within = slice_get_within f.memories.items array.0 there.0 there.1 in
    subst (λ n. array.0 < n) (sym (length-map f.memories.items (λ (m : Memory). m.dims.items))) within

unnamed : (array : Option ArrayId) (dims : List (List ℕ)) → is_none array ≡ true → IsThere array dims
unnamed None dims h = tt
unnamed (Some array) dims h = absurd (cc)

acts_on : (f : Frame) (carried : List Out) (before : List (Op Untimed)) (op : Op Untimed) (kind : OpKind) → acts f carried before op kind ≡ true → IsThere op.array (dims_in f)
acts_on f carried before op o.Load h = accessed f carried before op op.array h
acts_on f carried before op o.Store h = accessed f carried before op op.array h
acts_on f carried before op kind h = unnamed op.array (dims_in f) (and_parts (is_none op.array) (computes f.variables.items carried before kind op.bits op.args.items) h).0

arrays_there : (f : Frame) (carried : List Out) (before ops : List (Op Untimed)) → are_operations f carried before ops ≡ true → ArraysThere ops (dims_in f)
arrays_there f carried before [] h = tt
arrays_there f carried before (op ∷ ops) h =
    let both = and_parts (is_operation f carried before op) (are_operations f carried (before ++ op ∷ []) ops) h in
    (acts_on f carried before op op.kind (second_of_both _ _ (second_of_both _ _ both.0)), arrays_there f carried (before ++ op ∷ []) ops both.1)

-- ---- nodes

abbrev IsBodyThere : Frame → Body Untimed → Type 0
IsBodyThere f b = VariablesThere b.outs.items (length f.variables.items) × ArraysThere b.ops.items (dims_in f)

body_there : (f : Frame) (carried : List Out) (b : Body Untimed) → is_body f carried b ≡ true → IsBodyThere f b
body_there f carried b h =
    let does = second_of_both _ _ h in
    (outs_there f carried b.ops.items b.outs.items (second_of_both _ _ does), arrays_there f carried [] b.ops.items (first_of_both _ _ does))

node_there : (f : Frame) (count : ℕ) (it : Node Untimed) → is_valid_node f count it ≡ true → IsBodyThere f (body_in it)
node_there f count (node.Plain block) h = body_there f [] block.body (second_of_both _ _ (first_of_both _ _ h))
node_there f count (node.Looped region) h = body_there f region.body.outs.items region.body (first_of_both _ _ (first_of_both _ _ (first_of_both _ _ h)))

pub whole : (cfg : Cfg Untimed) → is_valid cfg ≡ true → IsWhole cfg
whole cfg valid =
    let f = cfg.frame in
    let h : is_consistent cfg ≡ true = first_of_both _ _ valid in
    let frame : is_frame f ≡ true = second_of_both _ _ (first_of_both _ _ h) in
    let nodes = second_of_both _ _ (second_of_both _ _ h) in
    let named = first_of_both _ _ (second_of_both _ _ (second_of_both _ _ frame)) in
    let at = λ (i : ℕ) (it : Node Untimed) (e : slice_get cfg.nodes.items i ≡ Some it). node_there f (length cfg.nodes.items) it (each (is_valid_node f (length cfg.nodes.items)) cfg.nodes.items i it nodes e) in
    record {
      outs = λ i it e. (at i it e).0;
      arrays = λ i it e. (at i it e).1;
      kept = kept_there f f.kept.items (first_of_both _ _ (second_of_both _ _ named));
      params = params_there f.variables.items f.params.items (first_of_both _ _ (first_of_both _ _ named));
    }
