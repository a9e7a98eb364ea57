-- Exits whose operands stand for others fit where they did.
use Rattle.std.proofs.Common.{◌≡◌, ◌∙◌, suc, refl, ap, List, [], ◌∷◌, map, length}
use Rattle.ir_core.specs.declared.body.Operand.{Operand}
use Rattle.ir_core.specs.Trees.{ExitTree, next, branch, choose, break_, continue_, leave, PartTrees, SequenceTree, sequence}
use Rattle.passes.specs.Numbering as n
use Rattle.passes.specs.Conversion.Joining as c
use Rattle.ir_layout.specs.WellFormed.{Ahead, one_way, a_test, a_switch, Inside, ExitFits}

pub count_same : (f : Operand → Operand) (xs : List Operand) → length (map f xs) ≡ length xs
count_same f [] = refl
count_same f (x ∷ xs) = ap suc (count_same f xs)

-- by numbering
pub numbered_exit : (values : List n.Value) (inside : Inside) (ahead : Ahead) (e : ExitTree) → ExitFits inside ahead e → ExitFits inside ahead (n.renamed_exit values e)
numbered_exit values inside ahead next h = tt
numbered_exit values inside ahead break_ h = h
numbered_exit values inside ahead continue_ h = h
numbered_exit values inside ahead (leave number) h = h
numbered_exit values inside a_test (branch test) h = tt
numbered_exit values inside one_way (branch test) h = absurd h
numbered_exit values inside (a_switch k) (branch test) h = absurd h
numbered_exit values inside a_test (choose cases) h = absurd h
numbered_exit values inside one_way (choose cases) h = absurd h
numbered_exit values inside (a_switch k) (choose cases) h = count_same (n.renamed values) cases ∙ h

-- by conversion
pub joined_exit : (outs : List _) (values : List n.Value) (inside : Inside) (ahead : Ahead) (e : ExitTree) → ExitFits inside ahead e → ExitFits inside ahead (c.renamed_exit outs values e)
joined_exit outs values inside ahead next h = tt
joined_exit outs values inside ahead break_ h = h
joined_exit outs values inside ahead continue_ h = h
joined_exit outs values inside ahead (leave number) h = h
joined_exit outs values inside a_test (branch test) h = tt
joined_exit outs values inside one_way (branch test) h = absurd h
joined_exit outs values inside (a_switch k) (branch test) h = absurd h
joined_exit outs values inside a_test (choose cases) h = absurd h
joined_exit outs values inside one_way (choose cases) h = absurd h
joined_exit outs values inside (a_switch k) (choose cases) h = count_same (c.renamed outs values) cases ∙ h

abbrev pub rest_of : SequenceTree → PartTrees
rest_of (sequence first rest) = rest
