-- The printed tokens of each declaration of a program are this declaration.
use Rattle.std.proofs.Common.{◌≡◌, ℕ, ◌∙◌, sym, refl, ap, subst, Bool, List, [], ◌∷◌, ◌++◌, map, Option, Some, None, append_assoc}
use Rattle.std.specs.Option.{option_map}
use Rattle.std.proofs.lemmas.List.{append-nil}
use Rattle.hls_base.specs.declared.place.Place.{Place}
use Rattle.c_token.specs.declared.ctype.CType.{CType}
use Rattle.c_token.specs.declared.punct.Punct.TheVariants as p
use Rattle.c_token.specs.declared.token.TokenKind.TheVariants as k
use Rattle.c_tree.specs.declared.print.row.Written.TheVariants as w
use Rattle.c_tree.specs.Tree as tree
use Rattle.c_tree.specs.Tree.{Tree, InitTree, InitTrees, ObjectTree}
use Rattle.c_tree.specs.Terminals.{Terminal, sign, word}
use Rattle.c_tree.specs.Grammar as g
use Rattle.c_tree.specs.Grammar.{DerivesOptional, DerivesInit, DerivesInits, DerivesInitialiser, DerivesLengths, DerivesObject, DerivesObjects, DerivesDeclaration, choice_level, assign_level}
use Rattle.c_tree.specs.Places.{nowhere, unplaced, unplaced_init, unplaced_inits, unplaced_object}
use Rattle.c_tree.specs.Rows as rows
use Rattle.c_tree.specs.Rows.{Row, kind_row, comma_row, infix_row, expression_row}
use Rattle.c_tree.specs.StatementRows.{listed, init_row, inits_row, inits_behind, optional_row, length_row, lengths_row, initialiser_row, object_row, declaration_row}
use Rattle.c_tree.proofs.Matching.{Matches, Spelled}
use Rattle.c_tree.proofs.Again.{split, last_token, spelled_both, Printed, Fit, fit_parts}
use Rattle.c_tree.proofs.KindsAgain.{PrintedKind, kind_is_type, printed_kind}
use Rattle.c_tree.proofs.Productions.{At, at_tokens}
use Rattle.c_tree.proofs.Expressions.{expression_again}
use Rattle.c_tree.proofs.Lists.{ListRules, PrintedList, one_listed, more_listed}

-- ---- initialisers

abbrev pub Init : InitTree → Type 0
Init init = Printed DerivesInit unplaced_init init (init_row init)

record Inits (inits : InitTrees) : Type 0 where
  printed : Printed DerivesInits unplaced_inits inits (inits_row inits)
  behind : inits_behind inits ≡ comma_row ++ inits_row inits

printed_single : (value : Tree) → At assign_level value → Init (tree.single value)
printed_single value a = record {
  again = λ ts m. let x = a.again ts m in record { found = tree.single x.found; derived = g.a_single ts x.found x.derived; same = ap tree.single x.same };
  spelled = a.spelled;
}

printed_braced : (items : InitTrees) (at : Place) → Inits items → Init (tree.braced items at)
printed_braced items at a = record {
  again = λ ts m.
      let c = split (inits_row items) (rows.sign p.RightBrace ∷ []) m.1 m.3 in
      let x = a.printed.again c.before c.first in
      at_tokens ts (sign p.LeftBrace m.0 ∷ (c.before ++ sign p.RightBrace c.second.0 ∷ []))
      (m.2 ∙ ap (λ us. sign p.LeftBrace m.0 ∷ us) (c.is ∙ ap (λ us. c.before ++ us) (last_token (k.Punct p.RightBrace) c.behind c.second)))
      (record {
        found = tree.braced x.found m.0;
        derived = g.a_braced m.0 c.second.0 c.before x.found x.derived;
        same = ap (λ z. tree.braced z nowhere) x.same;
      });
  spelled = (refl, spelled_both (inits_row items) (rows.sign p.RightBrace ∷ []) a.printed.spelled (refl, tt));
}

one_init : (init : InitTree) → Init init → Inits (tree.more_inits init tree.no_init)
one_init init a = record {
  printed = record {
    again = λ ts m.
        let c = split (init_row init) [] ts m in
        let x = a.again c.before c.first in
        at_tokens ts c.before (c.is ∙ ap (λ us. c.before ++ us) c.second ∙ append-nil c.before)
        (record {
          found = tree.more_inits x.found tree.no_init;
          derived = g.last_init c.before x.found x.derived;
          same = ap (λ z. tree.more_inits z tree.no_init) x.same;
        });
    spelled = spelled_both (init_row init) [] a.spelled tt;
  };
  behind = refl;
}

more_inits : (init : InitTree) (inits : InitTrees) → Init init → Inits inits → Inits (tree.more_inits init inits)
more_inits init inits a b = record {
  printed = record {
    again = λ ts m.
        let c = split (init_row init) (comma_row ++ inits_row inits) ts (subst (λ others. Matches ts (init_row init ++ others)) b.behind m) in
        let x = a.again c.before c.first in
        let y = b.printed.again c.second.1 c.second.3 in
        at_tokens ts (c.before ++ sign p.Comma c.second.0 ∷ c.second.1) (c.is ∙ ap (λ us. c.before ++ us) c.second.2)
        (record {
          found = tree.more_inits x.found y.found;
          derived = g.another_init c.second.0 c.before c.second.1 x.found y.found x.derived y.derived;
          same = ap (λ z. tree.more_inits z (unplaced_inits y.found)) x.same ∙ ap (λ z. tree.more_inits (unplaced_init init) z) y.same;
        });
    spelled =
        subst (λ others. Spelled (init_row init ++ others)) (sym b.behind)
        (spelled_both (init_row init) (comma_row ++ inits_row inits) a.spelled (refl, b.printed.spelled));
  };
  behind = refl;
}

mutual
  init_again : {ts : List Terminal} {init : InitTree} → DerivesInit ts init → Fit ts → Init init
  init_again (g.a_single ts value d) f = printed_single value (expression_again assign_level d f)
  init_again (g.a_braced at closes ts items d) f = printed_braced items at (inits_again d (fit_parts ts (sign p.RightBrace closes ∷ []) f.1).0)

  inits_again : {ts : List Terminal} {inits : InitTrees} → DerivesInits ts inits → Fit ts → Inits inits
  inits_again (g.last_init ts init d) f = one_init init (init_again d f)
  inits_again (g.last_init_comma at ts init d) f = one_init init (init_again d (fit_parts ts (sign p.Comma at ∷ []) f).0)
  inits_again (g.another_init at ts us init inits d e) f =
      let parts = fit_parts ts (sign p.Comma at ∷ us) f in more_inits init inits (init_again d parts.0) (inits_again e parts.1.1)

abbrev Initialiser : Option InitTree → Type 0
Initialiser init = Printed DerivesInitialiser (option_map unplaced_init) init (initialiser_row init)

initialiser_again : {ts : List Terminal} {init : Option InitTree} → DerivesInitialiser ts init → Fit ts → Initialiser init
initialiser_again g.no_initialiser f = record {
  again = λ ts m. at_tokens ts [] m (record { found = None; derived = g.no_initialiser; same = refl });
  spelled = tt;
}
initialiser_again (g.an_initialiser at ts init d) f =
    let a = init_again d f.1 in
    record {
      again = λ us m.
          let x = a.again m.1 m.3 in
          at_tokens us (sign p.Equal m.0 ∷ m.1) m.2 (record { found = Some x.found; derived = g.an_initialiser m.0 m.1 x.found x.derived; same = ap Some x.same });
      spelled = (refl, a.spelled);
    }

-- ---- lengths

abbrev pub Optional : ℕ → Option Tree → Type 0
Optional level e = Printed (DerivesOptional level) (option_map unplaced) e (optional_row level e)

pub optional_again : (level : ℕ) {ts : List Terminal} {e : Option Tree} → DerivesOptional level ts e → Fit ts → Optional level e
optional_again level (g.absent n) f = record {
  again = λ ts m. at_tokens ts [] m (record { found = None; derived = g.absent n; same = refl });
  spelled = tt;
}
optional_again level (g.present n ts e d) f =
    let a = expression_again n d f in
    record { again = λ us m. let x = a.again us m in record { found = Some x.found; derived = g.present n us x.found x.derived; same = ap Some x.same }; spelled = a.spelled }

abbrev pub Lengths : List (Option Tree) → Type 0
Lengths lengths = Printed DerivesLengths (map (option_map unplaced)) lengths (lengths_row lengths)

no_lengths : Lengths []
no_lengths = record { again = λ ts m. at_tokens ts [] m (record { found = []; derived = g.no_length; same = refl }); spelled = tt }

one_length : (length : Option Tree) (lengths : List (Option Tree)) → Optional choice_level length → Lengths lengths → Lengths (length ∷ lengths)
one_length length lengths a b = record {
  again = λ ts m.
      let c = split (length_row length) (lengths_row lengths) ts m in
      let l = c.first in
      let e = split (optional_row choice_level length) (rows.sign p.RightBracket ∷ []) l.1 l.3 in
      let x = a.again e.before e.first in
      let y = b.again c.behind c.second in
      at_tokens ts (sign p.LeftBracket l.0 ∷ (e.before ++ sign p.RightBracket e.second.0 ∷ c.behind))
      (c.is
      ∙ ap (λ us. us ++ c.behind) (l.2 ∙ ap (λ us. sign p.LeftBracket l.0 ∷ us) (e.is ∙ ap (λ us. e.before ++ us) (last_token (k.Punct p.RightBracket) e.behind e.second)))
      ∙ ap (λ us. sign p.LeftBracket l.0 ∷ us) (append_assoc e.before (sign p.RightBracket e.second.0 ∷ []) c.behind))
      (record {
        found = x.found ∷ y.found;
        derived = g.a_length l.0 e.second.0 e.before c.behind x.found y.found x.derived y.derived;
        same = ap (λ z. z ∷ map (option_map unplaced) y.found) x.same ∙ ap (λ z. option_map unplaced length ∷ z) y.same;
      });
  spelled =
      spelled_both (length_row length) (lengths_row lengths) (refl, spelled_both (optional_row choice_level length) (rows.sign p.RightBracket ∷ []) a.spelled (refl, tt)) b.spelled;
}

pub lengths_again : {ts : List Terminal} {lengths : List (Option Tree)} → DerivesLengths ts lengths → Fit ts → Lengths lengths
lengths_again g.no_length f = no_lengths
lengths_again (g.a_length opens closes ts us length lengths d e) f =
    let parts = fit_parts ts (sign p.RightBracket closes ∷ us) f.1 in one_length length lengths (optional_again choice_level d parts.0) (lengths_again e parts.1.1)

-- ---- objects

abbrev Object : CType → Bool → ObjectTree → Type 0
Object kind constant object = Printed (DerivesObject kind constant) unplaced_object object (object_row object)

object_again : {kind : CType} {constant : Bool} {ts : List Terminal} {object : ObjectTree} → DerivesObject kind constant ts object → Fit ts → Object kind constant object
object_again (g.an_object kind constant text at ts us lengths init plain d e) f =
    let parts = fit_parts ts us f.1 in
    let a = lengths_again d parts.0 in
    let b = initialiser_again e parts.1 in
    record {
      again = λ vs m.
          let c = split (lengths_row lengths) (initialiser_row init) m.1 m.3 in
          let x = a.again c.before c.first in
          let y = b.again c.behind c.second in
          at_tokens vs (word text m.0 ∷ (c.before ++ c.behind)) (m.2 ∙ ap (λ zs. word text m.0 ∷ zs) c.is)
          (record {
            found = record { name = text; at = m.0; kind = kind; constant = constant; lengths = x.found; init = y.found };
            derived = g.an_object kind constant text m.0 c.before c.behind x.found y.found plain x.derived y.derived;
            same = ap (λ z. object_with text kind constant z (option_map unplaced_init y.found)) x.same
                ∙ ap (λ z. object_with text kind constant (map (option_map unplaced) lengths) z) y.same;
          });
      spelled = (f.0, spelled_both (lengths_row lengths) (initialiser_row init) a.spelled b.spelled);
    }
  where
    object_with : List ℕ → CType → Bool → List (Option Tree) → Option InitTree → ObjectTree
    object_with text kind constant lengths init = record { name = text; at = nowhere; kind = kind; constant = constant; lengths = lengths; init = init }

abbrev Objects : CType → Bool → List ObjectTree → Type 0
Objects kind constant all = PrintedList (DerivesObjects kind constant) unplaced_object object_row all

object_rules : (kind : CType) (constant : Bool) → ListRules (DerivesObject kind constant) (DerivesObjects kind constant)
object_rules kind constant = record { last = g.last_object kind constant; more = g.more_objects kind constant }

objects_again : {kind : CType} {constant : Bool} {ts : List Terminal} {all : List ObjectTree} → DerivesObjects kind constant ts all → Fit ts → Objects kind constant all
objects_again (g.last_object kind constant ts object d) f =
    one_listed (DerivesObject kind constant) (DerivesObjects kind constant) (object_rules kind constant) unplaced_object object_row object (object_again d f)
objects_again (g.more_objects kind constant at ts us object rest d e) f =
    let parts = fit_parts ts (sign p.Comma at ∷ us) f in
    more_listed (DerivesObject kind constant) (DerivesObjects kind constant) (object_rules kind constant) unplaced_object object_row object rest (object_again d parts.0) (objects_again e parts.1.1)

-- ---- declarations

-- the type of a declaration is that of its first object
declared_type : {kind : CType} {constant : Bool} {ts : List Terminal} {object : ObjectTree} → DerivesObject kind constant ts object → (rest : List ObjectTree)
    → declaration_row (object ∷ rest) ≡ kind_row constant kind ++ w.Space ∷ (listed object_row (object ∷ rest) ++ rows.sign p.Semicolon ∷ [])
declared_type (g.an_object kind constant text at ts us lengths init plain d e) rest = refl

declaration_is : {kind : CType} {constant : Bool} {ts : List Terminal} {all : List ObjectTree} → DerivesObjects kind constant ts all
    → declaration_row all ≡ kind_row constant kind ++ w.Space ∷ (listed object_row all ++ rows.sign p.Semicolon ∷ [])
declaration_is (g.last_object kind constant ts object d) = declared_type d []
declaration_is (g.more_objects kind constant at ts us object rest d e) = declared_type d rest

abbrev pub Declaration : List ObjectTree → Type 0
Declaration all = Printed DerivesDeclaration (map unplaced_object) all (declaration_row all)

printed_declaration : (kind : CType) (constant : Bool) (all : List ObjectTree) → PrintedKind constant (Some kind) (kind_row constant kind) → Objects kind constant all
    → Printed DerivesDeclaration (map unplaced_object) all (kind_row constant kind ++ w.Space ∷ (listed object_row all ++ rows.sign p.Semicolon ∷ []))
printed_declaration kind constant all a b =
    let behind = w.Space ∷ (listed object_row all ++ rows.sign p.Semicolon ∷ []) in
    record {
      again = λ ts m.
          let c = split (kind_row constant kind) behind ts m in
          let e = split (listed object_row all) (rows.sign p.Semicolon ∷ []) c.behind c.second in
          let x = b.printed.again e.before e.first in
          at_tokens ts (c.before ++ (e.before ++ sign p.Semicolon e.second.0 ∷ []))
          (c.is ∙ ap (λ us. c.before ++ us) (e.is ∙ ap (λ us. e.before ++ us) (last_token (k.Punct p.Semicolon) e.behind e.second)))
          (record {
            found = x.found;
            derived = g.a_declaration kind constant c.before e.before x.found e.second.0 (a.again c.before c.first) x.derived;
            same = x.same;
          });
      spelled = spelled_both (kind_row constant kind) behind a.spelled (spelled_both (listed object_row all) (rows.sign p.Semicolon ∷ []) b.printed.spelled (refl, tt));
    }

pub declaration_again : {ts : List Terminal} {all : List ObjectTree} → DerivesDeclaration ts all → Fit ts → Declaration all
declaration_again (g.a_declaration kind constant ks ts all ends dk d) f =
    let parts = fit_parts ks (ts ++ sign p.Semicolon ends ∷ []) f in
    let others = fit_parts ts (sign p.Semicolon ends ∷ []) parts.1 in
    subst (λ row. Printed DerivesDeclaration (map unplaced_object) all row) (sym (declaration_is d))
    (printed_declaration kind constant all (printed_kind constant kind (kind_is_type dk parts.0)) (objects_again d others.0))
