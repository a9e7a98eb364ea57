use Rattle.std.proofs.Common.{◌≡◌, refl, rules, Some, None}
use Rattle.c_parser.specs.Cursor.Types.{type_among, names, specifiers, has_const}
use Rattle.c_parser.proofs.CursorLemmas.TypeWords.{kind_found, kind_never}
use Rattle.c_parser.proofs.cursor.types.some_kind.Goals as goal

pub returns-in-Some-clause-found : goal.returns-in-Some-clause-found
returns-in-Some-clause-found c =
    let a : type_among (names c.in_ok-words.words.items) (specifiers c.in_ok-words.words.items) ≡ Some c.in-Some.kind = search rules in
    let b : c.has_const-constant.result ≡ has_const c.in_ok-words.words.items = search rules in
    kind_found _ _ _ _ _ c.in_ok-words.ensures.found a refl b

pub returns-clause-absent : goal.returns-clause-absent
returns-clause-absent c =
    let a : type_among (names c.in_ok-words.words.items) (specifiers c.in_ok-words.words.items) ≡ None = search rules in
    kind_never _ _ _ c.in_ok-words.ensures.found a
