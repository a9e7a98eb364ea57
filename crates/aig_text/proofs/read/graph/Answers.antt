use Rattle.std.proofs.Common.{◌^◌}
use Rattle.aig_graph.specs.Graphs.{graph_of}
use Rattle.aig_text.specs.GraphText.{input_lines}
use Rattle.aig_text.specs.Forms as forms
use Rattle.aig_text.specs.Reading.{ReadsAs}
use Rattle.aig_text.proofs.Reading.{passed, view_found, view_stuck, first_stuck, later_stuck, later_found}
use Rattle.aig_text.proofs.Atoms.{unique_word}
use Rattle.aig_text.proofs.Graphs.{graph_view, unique_head, unique_latches, unique_outputs, has_behind, has_rows_part, has_outputs, has_gates, seen_head, seen_found, found_short}
use Rattle.aig_text.proofs.read.graph.Goals as goal

pub returns-in_err-head : goal.returns-in_err-head
returns-in_err-head c =
    passed (λ r. ReadsAs forms.graph graph_of r c.args.cursor.now c.header.new.cursor) _ c.from_residual.ensures.1 (λ y e. e) (λ y h. h) c.in_err-head.ensures
    (λ q. view_stuck graph_view (first_stuck q (λ h i. has_behind h)))

pub returns-in_err-inputs : goal.returns-in_err-inputs
returns-in_err-inputs c =
    let o = c.in_ok-head.ensures in
    let h = seen_head c.in_ok-head.head o.0 in
    let f = seen_found c.in_ok-head.head o.0 _ _ o.1 o.2 in
    passed (λ r. ReadsAs forms.graph graph_of r c.args.cursor.now c.inputs.new.cursor) _ c.from_residual-in_err-inputs.ensures.1 (λ y e. e) (λ y h. h) c.in_err-inputs.ensures
    (λ q. view_stuck graph_view (later_stuck _ unique_head f (first_stuck q (λ u i. has_rows_part h))))

pub returns-in_err-latches : goal.returns-in_err-latches
returns-in_err-latches c =
    let o = c.in_ok-head.ensures in
    let h = seen_head c.in_ok-head.head o.0 in
    let f = seen_found c.in_ok-head.head o.0 _ _ o.1 o.2 in
    passed (λ r. ReadsAs forms.graph graph_of r c.args.cursor.now c.latches.new.cursor) _ c.from_residual-in_err-latches.ensures.1 (λ y e. e) (λ y h. h) c.in_err-latches.ensures
    (λ q. view_stuck graph_view (later_stuck _ unique_head f (later_stuck _ (unique_word (input_lines 1 h.inputs)) c.in_ok-inputs.ensures (first_stuck q (λ ls i. has_outputs h)))))

pub outputs-requires : goal.outputs-requires
outputs-requires c =
    let o = c.in_ok-head.ensures in
    found_short (2 ^ 64) c.in_ok-latches.ensures (found_short (2 ^ 64) c.in_ok-inputs.ensures (found_short (2 ^ 64) o.2 c.requires))

pub returns-in_err-outputs : goal.returns-in_err-outputs
returns-in_err-outputs c =
    let o = c.in_ok-head.ensures in
    let h = seen_head c.in_ok-head.head o.0 in
    let f = seen_found c.in_ok-head.head o.0 _ _ o.1 o.2 in
    passed (λ r. ReadsAs forms.graph graph_of r c.args.cursor.now c.outputs.new.cursor) _ c.from_residual-in_err-outputs.ensures.1 (λ y e. e) (λ y h. h) (c.in_err-outputs.ensures o.0.outputs o.1.outputs)
    (λ q. view_stuck graph_view (later_stuck _ unique_head f (later_stuck _ (unique_word (input_lines 1 h.inputs)) c.in_ok-inputs.ensures (later_stuck _ (unique_latches h) c.in_ok-latches.ensures (first_stuck q (λ os i. has_gates h))))))

pub returns-in_err-ands : goal.returns-in_err-ands
returns-in_err-ands c =
    let o = c.in_ok-head.ensures in
    let h = seen_head c.in_ok-head.head o.0 in
    let f = seen_found c.in_ok-head.head o.0 _ _ o.1 o.2 in
    let os = c.in_ok-outputs.ensures o.0.outputs o.1.outputs in
    passed (λ r. ReadsAs forms.graph graph_of r c.args.cursor.now c.gates.new.cursor) _ c.from_residual-in_err-ands.ensures.1 (λ y e. e) (λ y h. h) c.in_err-ands.ensures
    (λ q. view_stuck graph_view (later_stuck _ unique_head f (later_stuck _ (unique_word (input_lines 1 h.inputs)) c.in_ok-inputs.ensures (later_stuck _ (unique_latches h) c.in_ok-latches.ensures (later_stuck _ (unique_outputs h) os q)))))

pub returns : goal.returns
returns c =
    let o = c.in_ok-head.ensures in
    let f = seen_found c.in_ok-head.head o.0 _ _ o.1 o.2 in
    let os = c.in_ok-outputs.ensures o.0.outputs o.1.outputs in
    view_found graph_view (later_found _ f (later_found _ c.in_ok-inputs.ensures (later_found _ c.in_ok-latches.ensures (later_found _ os c.in_ok-ands.ensures))))
