use Rattle.std.proofs.Common.{◌<◌, ◌||◌, ◌==◌, ◌∙◌, sym, ap, arith}
use Rattle.std.specs.List.{list_any}
use Rattle.std.proofs.lemmas.List.{length-map}
use Rattle.hls_base.specs.declared.number.Kept.{Kept}
use Rattle.hls_base.specs.declared.number.VarId.{VarId}
use Rattle.reg_binding.specs.Liveness.{summary_of}
use Rattle.reg_binding.proofs.LiveVariables.Elements.{any_map}
use Rattle.reg_binding.proofs.LiveVariables.Fixpoint.{empty_at}
use Rattle.reg_binding.proofs.live.Live.start.Goals as goal

pub returns : goal.returns
returns g c =
    let sets = c.in_ok-entered.entered.items in
    let filled = c.in_ok-entered.ensures.empty in
    let long = c.in_ok-entered.ensures.count in
    let all = c.len.ensures in
    let count = c.len-variables.ensures in
    let mapped = length-map c.args.cfg.now.nodes.items summary_of in
    record {
      count = omega arith;
      sized = (c.insert_kept.ensures.count ∙ c.in_ok-kept.ensures.count, λ i s at. (filled i s at).0);
      long = omega arith;
      kept = λ n l.
          let kept = c.args.cfg.now.frame.kept.items in
          let room = c.in_ok-kept.ensures.count in
          let small : n < c.len-variables.result = omega arith in
          let inside : n < c.in_ok-kept.kept.variables = omega arith in
          c.insert_kept.ensures.members n inside
          ∙ ap (λ b. b || list_any (λ (k : Kept). k.variable.0 == n) c.deref.result.now) (c.in_ok-kept.ensures.members n small)
          ∙ ap (list_any (λ (k : Kept). k.variable.0 == n)) c.deref.ensures.value
          ∙ sym (any_map (λ (v : VarId). v.0 == n) (λ (k : Kept). k.variable) kept);
      sound = λ i n s at e. absurd (empty_at sets c.len-variables.result filled i n e);
    }
