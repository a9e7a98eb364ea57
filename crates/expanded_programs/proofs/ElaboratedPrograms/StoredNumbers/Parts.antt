-- The parts of a run keep numbers of their types, and blocks and calls begin with them.
use Rattle.std.proofs.Common.{List, [], ◌∷◌, map, All, Some}
use Rattle.std.proofs.lemmas.List.Elements.{All-nil, All-cons, All-append}
use Rattle.c_tree.specs.Tree.{ObjectTree, ParamTree}
use Rattle.c_value.specs.Values.{convert}
use Rattle.c_meaning.specs.declared.value.Argument.{Argument}
use Rattle.c_meaning.specs.declared.value.Argument.TheVariants as argument
use Rattle.c_meaning.specs.Store.{Object, scalar, State, Environment, unwritten, lengths_in}
use Rattle.c_meaning.specs.Steps as steps
use Rattle.c_meaning.specs.Steps.{Outcome, Ran}
use Rattle.c_meaning.specs.Expression.{expression_meaning}
use Rattle.c_meaning.specs.Statement.{initialise, declare_all, statement_meaning, items_meaning, jump_meaning}
use Rattle.c_meaning.specs.Run.{parameter, parameters, function_meaning, calls}
use Rattle.c_meaning.proofs.Ranges.{converted_in}
use Rattle.expanded_programs.specs.ElaboratedPrograms.StoredNumbers.Numbers.{IsNumber, HasNumbers, HoldsNumbers, EndsWithNumbers}
use Rattle.expanded_programs.specs.ElaboratedPrograms.StoredNumbers.{CallsAndBlocksBeginWithNumbers, PartsKeepNumbers}
use Rattle.expanded_programs.proofs.ElaboratedPrograms.StoredNumbers.Keeping.{Follow, Ends, all_numbers, fresh_numbers}
use Rattle.expanded_programs.proofs.ElaboratedPrograms.StoredNumbers.Expressions.{expression_ends}
use Rattle.expanded_programs.proofs.ElaboratedPrograms.StoredNumbers.Statements.{initialise_ends, declare_all_ends, statement_ends, items_ends, jump_ends}
use Rattle.expanded_programs.proofs.ElaboratedPrograms.StoredNumbers.Calls.{function_meaning_ends, calls_steady}

-- ---- parts

numbers_at : {A : Type 0} (os : List Object) (o : Outcome A) → Follow os o → All HasNumbers os → EndsWithNumbers o
numbers_at os (steps.went v s) h all = all_numbers os s.objects h all
numbers_at os (steps.undefined rule at) h all = tt
numbers_at os steps.waiting h all = tt

pub ends_with_numbers : {A : Type 0} (s : State) (r : Ran A) → Ends s r → HoldsNumbers s → EndsWithNumbers r.outcome
ends_with_numbers s r h all = numbers_at s.objects r.outcome h.follow all

pub parts_keep_numbers : PartsKeepNumbers
parts_keep_numbers items names n s =
    let c = calls n items names in
    let steady = calls_steady n items names in
    record {
      expression = λ used t env. ends_with_numbers s (expression_meaning c used t env s) (expression_ends c steady used t env s);
      initialiser = λ object lengths init element env. ends_with_numbers s (initialise c object lengths init element env s) (initialise_ends c steady object lengths init element env s);
      declaration = λ os env. ends_with_numbers s (declare_all c os env s) (declare_all_ends c steady os env s);
      statement = λ tail t env. ends_with_numbers s (statement_meaning c tail t env s) (statement_ends c steady tail t env s);
      block_items = λ tail ts env. ends_with_numbers s (items_meaning c tail ts env s) (items_ends c steady tail ts env s);
      switch_items = λ wanted ts env. ends_with_numbers s (jump_meaning c wanted ts env s) (jump_ends c steady wanted ts env s);
      call = λ used f given path. ends_with_numbers s (function_meaning c used f given path names s) (function_meaning_ends c steady used f given path names s);
    }

-- ---- blocks and calls

unwritten_numbers : (os : List ObjectTree) → All HasNumbers (map unwritten os)
unwritten_numbers [] = All-nil HasNumbers
unwritten_numbers (o ∷ os) = All-cons HasNumbers (unwritten o) (map unwritten os) (fresh_numbers o.kind (lengths_in o)) (unwritten_numbers os)

parameter_numbers : (a : Argument) (o : ObjectTree) (env : Environment) (s : State) → HoldsNumbers s → HoldsNumbers (parameter a o env s).1
parameter_numbers (argument.Array object) o env s h = h
parameter_numbers (argument.Number n) o env s h =
    let v = convert o.kind n in
    let own : HasNumbers (scalar o.kind v) = All-cons (IsNumber o.kind) (Some v) [] (converted_in o.kind n) (All-nil (IsNumber o.kind)) in
    All-append HasNumbers s.objects (scalar o.kind v ∷ []) h (All-cons HasNumbers (scalar o.kind v) [] own (All-nil HasNumbers))

parameters_numbers : (ps : List ParamTree) (given : List Argument) (env : Environment) (s : State) → HoldsNumbers s → HoldsNumbers (parameters ps given env s).1
parameters_numbers [] given env s h = h
parameters_numbers (p ∷ ps) [] env s h = h
parameters_numbers (p ∷ ps) (a ∷ given) env s h = parameters_numbers ps given (parameter a p.object env s).0 (parameter a p.object env s).1 (parameter_numbers a p.object env s h)

pub calls_and_blocks_begin_with_numbers : CallsAndBlocksBeginWithNumbers
calls_and_blocks_begin_with_numbers s h = record {
  block = λ os. All-append HasNumbers s.objects (map unwritten os) h (unwritten_numbers os);
  call = λ ps given env. parameters_numbers ps given env s h;
}
