use Rattle.std.proofs.Common.{map}
use Rattle.c_tree.specs.View.{param_of}
use Rattle.c_names.proofs.DeclarationsLemmas.StatementTrees.{extends_params, extends_more, extends_by, may_forget, has_forgotten}
use Rattle.c_calls.proofs.called.function_calls.Goals as goal

pub forget-requires : goal.forget-requires
forget-requires c =
    may_forget _ _ _ (extends_more _ _ _ (extends_by _ _ _ c.in_ok-add_params_calls.ensures.names (extends_params (map param_of c.deref.result.now) c.args.names.now)) c.in_ok-add_body_calls.ensures.names) c.len-start.ensures

pub returns-clause-names : goal.returns-clause-names
returns-clause-names c =
    has_forgotten _ _ _ _ (extends_more _ _ _ (extends_by _ _ _ c.in_ok-add_params_calls.ensures.names (extends_params (map param_of c.deref.result.now) c.args.names.now)) c.in_ok-add_body_calls.ensures.names) c.len-start.ensures c.forget.ensures
