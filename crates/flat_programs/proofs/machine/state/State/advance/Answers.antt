use Rattle.std.proofs.Common.{◌≡◌, ◌<◌, ℕ, Bool, List, length, Some, sym, ap, ◌∙◌, subst, arith}
use Rattle.std.specs.Prelude.{slice_get}
use Rattle.std.proofs.lemmas.Option.{slice_get-get_or}
use Rattle.ir_core.specs.declared.cfg.Cfg.{Cfg}
use Rattle.ir_core.specs.declared.cfg.Node.{Node}
use Rattle.ir_core.specs.declared.cfg.Node.TheVariants as node
use Rattle.ir_core.specs.declared.stamp.Untimed.{Untimed}
use Rattle.flat_programs.specs.Memory.Contents.{dims_in}
use Rattle.flat_programs.specs.declared.machine.state.State.{State}
use Rattle.flat_programs.specs.Machine.Held.{shapes}
use Rattle.flat_programs.specs.Machine.States.{IsThereIn, VariablesThere, ArraysThere}
use Rattle.flat_programs.specs.Machine.Steps.{HasStepped, HasIterated, point_if}
use Rattle.flat_programs.specs.Machine.Sizes.{body_in}
use Rattle.hls_base.specs.declared.point.Point.{Point}
use Rattle.flat_programs.specs.Machine.Rest.{IsWhole, HasRoom, Passes, rest}
use Rattle.flat_programs.proofs.MachineLemmas.Going.{block_goes, loop_goes}
use Rattle.flat_programs.proofs.MachineLemmas.Nearing.{nearer_within, block_nears, loop_nears}
use Rattle.flat_programs.proofs.machine.state.State.advance.Goals as goal

there : (cfg : Cfg Untimed) (s : State) (it : Node Untimed) → HasRoom cfg s → slice_get cfg.nodes.items s.node.0 ≡ Some it → IsWhole cfg → IsThereIn s (body_in it)
there cfg s it room at whole =
    (subst (VariablesThere (body_in it).outs.items) (sym room.variables) (whole.outs s.node.0 it at), subst (ArraysThere (body_in it).ops.items) (sym room.dims) (whole.arrays s.node.0 it at))

pub block_step-requires-clause-fits : goal.block_step-requires-clause-fits
block_step-requires-clause-fits c =
    let nodes = c.args.cfg.now.nodes in
    let i = c.args.self.now.node.0 in
    let inside : i < length nodes.items = omega (arith, c.if-index-len.false, c.len.ensures, nodes.ok.0) in
    let at = slice_get-get_or nodes.items i c.index.result.now inside ∙ ap Some (sym c.index.ensures ∙ c.in-Plain.is) in
    c.requires.room.bodies i (node.Plain c.in-Plain.block) at

pub iterate-round-requires : goal.iterate-round-requires
iterate-round-requires c =
    let nodes = c.args.cfg.now.nodes in
    let i = c.args.self.now.node.0 in
    let inside : i < length nodes.items = omega (arith, c.if-index-len.false, c.len.ensures, nodes.ok.0) in
    let at = slice_get-get_or nodes.items i c.index.result.now inside ∙ ap Some (sym c.index.ensures ∙ c.in-Looped.is) in
    record { fits = c.requires.room.bodies i (node.Looped c.in-Looped.region) at }

pub returns-in-Plain-clause-passes : goal.returns-in-Plain-clause-passes
returns-in-Plain-clause-passes c = λ whole.
    let cfg = c.args.cfg.now in
    let s = c.args.self.now in
    let block = c.in-Plain.block in
    let new = c.block_step.new.self in
    let inside : s.node.0 < length cfg.nodes.items = omega (arith, c.if-index-len.false, c.len.ensures, cfg.nodes.ok.0) in
    let at = slice_get-get_or cfg.nodes.items s.node.0 c.index.result.now inside ∙ ap Some (sym c.index.ensures ∙ c.in-Plain.is) in
    let does = c.block_step.ensures.does (there cfg s (node.Plain block) c.requires.room at whole) in
    let by_widths : List ℕ → Type 0 = λ widths. HasStepped (shapes widths (dims_in s.memories)) block.body block.end s new in
    let by_dims : List (List ℕ) → Type 0 = λ dims. HasStepped (shapes cfg.frame.variables.items dims) block.body block.end s new in
    subst (λ (points : List Point). Passes points 1 (rest cfg s) (rest cfg new)) (sym c.point_if.ensures)
    (block_goes cfg block s new at c.requires.running (subst by_dims c.requires.room.dims (subst by_widths c.deref.ensures.value does)))

pub returns-in-Looped-clause-passes : goal.returns-in-Looped-clause-passes
returns-in-Looped-clause-passes c = λ whole.
    let cfg = c.args.cfg.now in
    let s = c.args.self.now in
    let region = c.in-Looped.region in
    let mid = c.iterate-round.new.self in
    let round = c.iterate-round.result in
    let inside : s.node.0 < length cfg.nodes.items = omega (arith, c.if-index-len.false, c.len.ensures, cfg.nodes.ok.0) in
    let at = slice_get-get_or cfg.nodes.items s.node.0 c.index.result.now inside ∙ ap Some (sym c.index.ensures ∙ c.in-Looped.is) in
    let does = c.iterate-round.ensures.does (there cfg s (node.Looped region) c.requires.room at whole) in
    let by_widths : List ℕ → Type 0 = λ widths. HasIterated (shapes widths (dims_in s.memories)) region.point region.body round s mid in
    let by_dims : List (List ℕ) → Type 0 = λ dims. HasIterated (shapes cfg.frame.variables.items dims) region.point region.body round s mid in
    subst (λ (points : List Point). Passes points 1 (rest cfg s) (rest cfg c.turn.new.self)) (sym (c.point_if-in-Looped.ensures ∙ ap (λ (b : Bool). point_if b region.point) c.is_passed.ensures))
    (loop_goes cfg region s mid c.turn.new.self round at c.requires.running (subst by_dims c.requires.room.dims (subst by_widths c.deref-in-Looped.ensures.value does)) c.iterate-round.ensures.stays c.turn.ensures)

pub returns-in-Plain-clause-nears : goal.returns-in-Plain-clause-nears
returns-in-Plain-clause-nears c = λ whole most within.
    let cfg = c.args.cfg.now in
    let s = c.args.self.now in
    let block = c.in-Plain.block in
    let new = c.block_step.new.self in
    let inside : s.node.0 < length cfg.nodes.items = omega (arith, c.if-index-len.false, c.len.ensures, cfg.nodes.ok.0) in
    let at = slice_get-get_or cfg.nodes.items s.node.0 c.index.result.now inside ∙ ap Some (sym c.index.ensures ∙ c.in-Plain.is) in
    let does = c.block_step.ensures.does (there cfg s (node.Plain block) c.requires.room at whole) in
    let by_widths : List ℕ → Type 0 = λ widths. HasStepped (shapes widths (dims_in s.memories)) block.body block.end s new in
    let by_dims : List (List ℕ) → Type 0 = λ dims. HasStepped (shapes cfg.frame.variables.items dims) block.body block.end s new in
    nearer_within most cfg s new (λ k n over. block_nears cfg block s new at c.requires.running (subst by_dims c.requires.room.dims (subst by_widths c.deref.ensures.value does)) k n over) within

pub returns-in-Looped-clause-nears : goal.returns-in-Looped-clause-nears
returns-in-Looped-clause-nears c = λ whole most within.
    let cfg = c.args.cfg.now in
    let s = c.args.self.now in
    let region = c.in-Looped.region in
    let mid = c.iterate-round.new.self in
    let round = c.iterate-round.result in
    let inside : s.node.0 < length cfg.nodes.items = omega (arith, c.if-index-len.false, c.len.ensures, cfg.nodes.ok.0) in
    let at = slice_get-get_or cfg.nodes.items s.node.0 c.index.result.now inside ∙ ap Some (sym c.index.ensures ∙ c.in-Looped.is) in
    let does = c.iterate-round.ensures.does (there cfg s (node.Looped region) c.requires.room at whole) in
    let by_widths : List ℕ → Type 0 = λ widths. HasIterated (shapes widths (dims_in s.memories)) region.point region.body round s mid in
    let by_dims : List (List ℕ) → Type 0 = λ dims. HasIterated (shapes cfg.frame.variables.items dims) region.point region.body round s mid in
    nearer_within most cfg s c.turn.new.self
    (λ k n over. loop_nears cfg region s mid c.turn.new.self round at c.requires.running (subst by_dims c.requires.room.dims (subst by_widths c.deref-in-Looped.ensures.value does)) c.iterate-round.ensures.stays c.turn.ensures k n over) within
