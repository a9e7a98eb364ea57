use Rattle.std.proofs.Common.{◌≡◌, ◌∙◌, refl, true, false, Option}
use Rattle.std.specs.Option.{option_map}
use Rattle.c_tree.specs.Tree.{Tree}
use Rattle.c_tree.specs.View.{tree_of}
use Rattle.c_meaning.specs.Statement.{is_default, is_label}
use Rattle.c_machine.specs.Waiting.Labels.{wanted_by}
use Rattle.c_machine.specs.declared.waiting.label.Wanted.{Wanted}
use Rattle.c_machine.proofs.waiting.label.is_wanted.Goals as goal

default_wanted : (w : Wanted) (t : Option Tree) → w.default ≡ true → is_default t ≡ wanted_by w t
default_wanted w t e = rw e refl

case_wanted : (w : Wanted) (t : Option Tree) → w.default ≡ false → is_label w.kind w.number t ≡ wanted_by w t
case_wanted w t e = rw e refl

pub returns-then-wanted : goal.returns-then-wanted
returns-then-wanted c = c.is_default.ensures ∙ default_wanted c.args.wanted (option_map tree_of c.args.value.now) c.if-wanted.true

pub returns-else-wanted : goal.returns-else-wanted
returns-else-wanted c = c.is_label.ensures ∙ case_wanted c.args.wanted (option_map tree_of c.args.value.now) c.if-wanted.false
