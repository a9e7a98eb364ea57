use Rattle.std.proofs.Common.{◌≡◌, ◌∙◌, length, map, take, sym, ap, rules}
use Rattle.std.proofs.lemmas.List.{take-map}
use Rattle.c_tree.specs.View.{item_of}
use Rattle.c_elaborate.specs.Programs.{signatures}
use Rattle.c_elaborate.proofs.Forms.{same_program}
use Rattle.c_elaborate.proofs.elaborate.elaborate.Goals as goal

pub returns : goal.returns
returns c =
    let items = c.args.checked.now.program.items.items in
    let before : c.in_ok-before.before.items ≡ signatures (map item_of (take c.args.checked.now.top items)) = search rules in
    let count : c.in_ok-top.top ≡ length c.in_ok-before.before.items = search rules in
    same_program _ _ (search rules) (search rules) (count ∙ ap length (before ∙ ap signatures (sym (take-map item_of c.args.checked.now.top items))))
