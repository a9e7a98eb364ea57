-- The tokens of a row, split where the row is.
use Rattle.std.proofs.Common.{◌≡◌, ◌∙◌, refl, ap, List, [], ◌∷◌, ◌++◌}
use Rattle.c_token.specs.declared.token.TokenKind.{TokenKind}
use Rattle.c_tree.specs.declared.print.row.Written.TheVariants as w
use Rattle.c_tree.specs.Terminals.{Terminal, terminal}
use Rattle.c_tree.specs.Rows.{Row}
use Rattle.c_tree.specs.ProgramText.{MayStand}
use Rattle.c_tree.proofs.Matching.{Matches, Spelled}

-- the tokens of the first row, and those of the second
pub record Split (xs ys : Row) (ts : List Terminal) : Type 0 where
  pub before : List Terminal
  pub behind : List Terminal
  pub is : ts ≡ before ++ behind
  pub first : Matches before xs
  pub second : Matches behind ys

pub split : (xs ys : Row) (ts : List Terminal) → Matches ts (xs ++ ys) → Split xs ys ts
split [] ys ts m = record { before = []; behind = ts; is = refl; first = refl; second = m }
split (w.Space ∷ xs) ys ts m = let r = split xs ys ts m in record { before = r.before; behind = r.behind; is = r.is; first = r.first; second = r.second }
split (w.Line depth ∷ xs) ys ts m = let r = split xs ys ts m in record { before = r.before; behind = r.behind; is = r.is; first = r.first; second = r.second }
split (w.Token kind ∷ xs) ys ts m =
    let r = split xs ys m.1 m.3 in
    record {
      before = terminal kind m.0 ∷ r.before;
      behind = r.behind;
      is = m.2 ∙ ap (λ us. terminal kind m.0 ∷ us) r.is;
      first = (m.0, r.before, refl, r.first);
      second = r.second;
    }

-- the only token of a row
pub last_token : (kind : TokenKind) (ts : List Terminal) (m : Matches ts (w.Token kind ∷ [])) → ts ≡ terminal kind m.0 ∷ []
last_token kind ts m = m.2 ∙ ap (λ us. terminal kind m.0 ∷ us) m.3

pub spelled_both : (xs ys : Row) → Spelled xs → Spelled ys → Spelled (xs ++ ys)
spelled_both [] ys s u = u
spelled_both (w.Space ∷ xs) ys s u = spelled_both xs ys s u
spelled_both (w.Line depth ∷ xs) ys s u = spelled_both xs ys s u
spelled_both (w.Token kind ∷ xs) ys s u = (s.0, spelled_both xs ys s.1 u)

-- ---- what the tokens are

-- the tokens are the same, wherever they stand
pub record Again {X : Type 0} (D : List Terminal → X → Type 0) (alone : X → X) (x : X) (ts : List Terminal) : Type 0 where
  pub found : X
  pub derived : D ts found
  pub same : alone found ≡ alone x

-- the row's tokens are it, and can be spelled
pub record Printed {X : Type 0} (D : List Terminal → X → Type 0) (alone : X → X) (x : X) (row : Row) : Type 0 where
  pub again : (ts : List Terminal) → Matches ts row → Again D alone x ts
  pub spelled : Spelled row

-- ---- the tokens that are given

abbrev pub Fit : List Terminal → Type 0
Fit [] = Unit {0}
Fit (t ∷ ts) = MayStand t.kind × Fit ts

pub fit_parts : (ts us : List Terminal) → Fit (ts ++ us) → Fit ts × Fit us
fit_parts [] us f = (tt, f)
fit_parts (t ∷ ts) us f = let r = fit_parts ts us f.1 in ((f.0, r.0), r.1)
