use Rattle.std.proofs.Common.{map, drop, ap, subst}
use Rattle.std.proofs.lemmas.List.{drop_all}
use Rattle.module_commands.proofs.ReadFiles.{ReadUpTo, all_read}
use Rattle.module_commands.proofs.work.read_all.Goals as goal

pub returns-clause-texts : goal.returns-clause-texts
returns-clause-texts g c =
    let names = c.args.names.now in
    let texts = map (λ t. t.items) c.loop-name.texts.items in
    all_read (g.F.Shelf.files c.args.shelf.now) (map (λ n. n.now) names) texts
    (subst (λ rest. ReadUpTo (g.F.Shelf.files c.args.shelf.now) (map (λ n. n.now) names) rest texts) (ap (map (λ n. n.now)) (drop_all c.loop-name.name-index names c.loop-name-test.false)) c.loop-name.invariant.0)
