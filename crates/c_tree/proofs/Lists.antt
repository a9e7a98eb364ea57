-- Printed lists with commas between: actions, objects and parameters.
use Rattle.std.proofs.Common.{◌≡◌, ◌∙◌, sym, refl, ap, subst, List, [], ◌∷◌, ◌++◌, map}
use Rattle.std.proofs.lemmas.List.{append-nil}
use Rattle.hls_base.specs.declared.place.Place.{Place}
use Rattle.c_token.specs.declared.punct.Punct.TheVariants as p
use Rattle.c_tree.specs.Terminals.{Terminal, sign}
use Rattle.c_tree.specs.Rows.{Row, comma_row}
use Rattle.c_tree.specs.StatementRows.{each_behind, listed}
use Rattle.c_tree.proofs.Matching.{Matches, Spelled}
use Rattle.c_tree.proofs.Again.{split, spelled_both, Printed}
use Rattle.c_tree.proofs.Productions.{at_tokens}

-- how a grammar's lists are made of one element or more
pub record ListRules {X : Type 0} (one : List Terminal → X → Type 0) (many : List Terminal → List X → Type 0) : Type 0 where
  pub last : (ts : List Terminal) (x : X) → one ts x → many ts (x ∷ [])
  pub more : (at : Place) (ts us : List Terminal) (x : X) (xs : List X) → one ts x → many us xs → many (ts ++ sign p.Comma at ∷ us) (x ∷ xs)

pub record PrintedList {X : Type 0} (many : List Terminal → List X → Type 0) (alone : X → X) (row : X → Row) (xs : List X) : Type 0 where
  pub printed : Printed many (map alone) xs (listed row xs)
  pub behind : each_behind row xs ≡ comma_row ++ listed row xs

pub one_listed : {X : Type 0} (one : List Terminal → X → Type 0) (many : List Terminal → List X → Type 0) → ListRules one many → (alone : X → X) (row : X → Row) (x : X)
    → Printed one alone x (row x) → PrintedList many alone row (x ∷ [])
one_listed one many rules alone row x a = record {
  printed = record {
    again = λ ts m.
        let c = split (row x) [] ts m in
        let v = a.again c.before c.first in
        at_tokens ts c.before (c.is ∙ ap (λ us. c.before ++ us) c.second ∙ append-nil c.before)
        (record { found = v.found ∷ []; derived = rules.last c.before v.found v.derived; same = ap (λ z. z ∷ []) v.same });
    spelled = spelled_both (row x) [] a.spelled tt;
  };
  behind = refl;
}

pub more_listed : {X : Type 0} (one : List Terminal → X → Type 0) (many : List Terminal → List X → Type 0) → ListRules one many → (alone : X → X) (row : X → Row) (x : X) (xs : List X)
    → Printed one alone x (row x) → PrintedList many alone row xs → PrintedList many alone row (x ∷ xs)
more_listed one many rules alone row x xs a b = record {
  printed = record {
    again = λ ts m.
        let c = split (row x) (comma_row ++ listed row xs) ts (subst (λ others. Matches ts (row x ++ others)) b.behind m) in
        let v = a.again c.before c.first in
        let y = b.printed.again c.second.1 c.second.3 in
        at_tokens ts (c.before ++ sign p.Comma c.second.0 ∷ c.second.1) (c.is ∙ ap (λ us. c.before ++ us) c.second.2)
        (record {
          found = v.found ∷ y.found;
          derived = rules.more c.second.0 c.before c.second.1 v.found y.found v.derived y.derived;
          same = ap (λ z. z ∷ map alone y.found) v.same ∙ ap (λ zs. alone x ∷ zs) y.same;
        });
    spelled =
        subst (λ others. Spelled (row x ++ others)) (sym b.behind) (spelled_both (row x) (comma_row ++ listed row xs) a.spelled (refl, b.printed.spelled));
  };
  behind = refl;
}
