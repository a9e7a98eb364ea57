-- Operators of one level, from left to right, and assignments, from right to left.
use Rattle.std.proofs.Common.{◌≡◌, ◌≢◌, ℕ, suc, ◌-◌, ◌<◌, ◌∙◌, sym, refl, ap, subst, List, [], ◌∷◌, ◌++◌, Option, Some, None, append_assoc, arith}
use Rattle.hls_base.specs.declared.place.Place.{Place}
use Rattle.c_token.specs.declared.punct.Punct.{Punct}
use Rattle.c_token.specs.declared.punct.Punct.TheVariants as p
use Rattle.c_tree.specs.declared.operator.Binary.{Binary}
use Rattle.c_tree.specs.Tree as tree
use Rattle.c_tree.specs.Tree.{Tree}
use Rattle.c_tree.specs.Terminals.{Terminal, sign, operator_of}
use Rattle.c_tree.specs.Grammar.{level_of, Derives}
use Rattle.c_tree.specs.Grammar as g
use Rattle.c_parser.specs.Cursor.Readings.{Found, Never, Ends, joins}
use Rattle.c_parser.specs.Cursor.Tokens.{joiner_of, joiner_or, comma_joiner, joiner_level}
use Rattle.c_parser.specs.Expressions.{Expression, joined}
use Rattle.c_parser.specs.Chains.{assigned, all_assigned}
use Rattle.c_parser.specs.declared.chain.Assigned.{Assigned}
use Rattle.c_parser.specs.declared.cursor.joiner.Joiner.{Joiner}
use Rattle.c_parser.specs.declared.cursor.joiner.Joiner.TheVariants as j
use Rattle.c_parser.proofs.CursorLemmas.Readings.{signs}
use Rattle.c_parser.proofs.Levels.{joiner-level}

-- the operators of one level behind a first operand, up to the rest
pub data Chain (n : ℕ) (whole : Tree) (rest : List Terminal) : Tree → List Terminal → Type 0 where
  stop : Chain n whole rest whole rest
  grow : (punct : Punct) (q : Joiner) (at : Place) (inside behind : List Terminal) (left right : Tree) → joiner_of punct ≡ Some q → joiner_level q ≡ suc n → Expression n inside right behind
      → Chain n whole rest (joined q left right at) behind → Chain n whole rest left (sign punct at ∷ inside)

-- one operator more at the end
extend : {n : ℕ} {whole : Tree} {middle : List Terminal} {head : Tree} {tokens : List Terminal} (punct : Punct) (q : Joiner) (at : Place) (inside : List Terminal) (right : Tree) (rest : List Terminal) → joiner_of punct ≡ Some q → joiner_level q ≡ suc n
    → Expression n inside right rest → middle ≡ sign punct at ∷ inside → Chain n whole middle head tokens → Chain n (joined q whole right at) rest head tokens
extend {n} {whole} punct q at inside right rest o l r e stop = subst (λ ts. Chain n (joined q whole right at) rest whole ts) (sym e) (grow punct q at inside rest whole right o l r stop)
extend punct q at inside right rest o l r e (grow punct' q' at' inside' behind left right' o' l' r' c) = grow punct' q' at' inside' behind left right' o' l' r' (extend punct q at inside right rest o l r e c)

-- an expression is a first operand and a chain
record Starts (n : ℕ) (tokens : List Terminal) (whole : Tree) (rest : List Terminal) : Type 0 where
  head : Tree
  behind : List Terminal
  reads : Expression n tokens head behind
  chain : Chain n whole rest head behind

operator_joiner : (punct : Punct) (op : Binary) → operator_of punct ≡ Some op → joiner_of punct ≡ Some (j.Binary op)
operator_joiner punct op e = ap (λ o. joiner_or o (comma_joiner punct)) e

-- the levels at which operators group to the left
abbrev pub Groups : ℕ → Type 0
Groups n = (2 < n) × (n ≢ 13) × (n ≢ 14)

starts : {n : ℕ} {ts : List Terminal} {e : Tree} (m : ℕ) (rest : List Terminal) → n ≡ suc m → Groups n → Derives n ts e → Starts m (ts ++ rest) e rest
starts m rest e l (g.a_number value kind at) = absurd (omega (arith, l.0))
starts m rest e l (g.a_name text at kw) = absurd (omega (arith, l.0))
starts m rest e l (g.an_element text at ts first others kw d) = absurd (omega (arith, l.0))
starts m rest e l (g.a_call callee at opens closes ts args kw d) = absurd (omega (arith, l.0))
starts m rest e l (g.a_group opens closes ts inner d) = absurd (omega (arith, l.0))
starts m rest e l (g.a_bump_behind punct up at ts lvalue b d) = absurd (omega (arith, l.0))
starts m rest e l (g.a_prefix punct op at ts arg o d) = absurd (omega (arith, l.0))
starts m rest e l (g.a_bump_before punct up at ts lvalue b d) = absurd (omega (arith, l.0))
starts m rest e l (g.a_cast at closes ks ts kind constant arg kd d) = absurd (omega (arith, l.0))
starts m rest e l (g.an_operator punct op at n ls rs left right o level d f) =
    let same : n ≡ m = omega arith in
    let s = starts m (sign punct at ∷ (rs ++ rest)) e l d in
    record {
      head = s.head;
      behind = s.behind;
      reads = subst (λ ts. Expression m ts s.head s.behind) (sym (append_assoc ls (sign punct at ∷ rs) rest)) s.reads;
      chain = extend punct (j.Binary op) at (rs ++ rest) right rest (operator_joiner punct op o) (level ∙ ap suc same) (record { taken = rs; split = refl; derives = subst (λ i. Derives i rs right) same f }) refl s.chain;
    }
starts m rest e l (g.a_choice at colon ts ys ns test left right d f h) = absurd (l.1 refl)
starts m rest e l (g.an_assignment punct op at ts vs lvalue value a d f) = absurd (l.2 refl)
starts m rest e l (g.a_comma at ls rs left right d f) =
    let same : 14 ≡ m = omega arith in
    let s = starts m (sign p.Comma at ∷ (rs ++ rest)) e l d in
    record {
      head = s.head;
      behind = s.behind;
      reads = subst (λ ts. Expression m ts s.head s.behind) (sym (append_assoc ls (sign p.Comma at ∷ rs) rest)) s.reads;
      chain = extend p.Comma j.Comma at (rs ++ rest) right rest refl (ap suc same) (record { taken = rs; split = refl; derives = subst (λ i. Derives i rs right) same f }) refl s.chain;
    }
starts m rest e l (g.a_tighter n ts inner d) =
    let same : n ≡ m = omega arith in
    record { head = inner; behind = rest; reads = record { taken = ts; split = refl; derives = subst (λ i. Derives i ts inner) same d }; chain = stop }

-- what stands behind the head ends a tighter expression
chain_ends : {n : ℕ} {whole : Tree} {rest : List Terminal} {head : Tree} {tokens : List Terminal} → suc n < joins rest → Chain n whole rest head tokens → n < joins tokens
chain_ends {n} {rest = rest} e stop = omega arith
chain_ends {n} e (grow punct q at inside behind left right o l r c) = omega (arith, joiner-level punct q o)

-- what comes behind an operator of the level
record Grown (n : ℕ) (whole : Tree) (rest : List Terminal) (q : Joiner) (at : Place) (left : Tree) (inside : List Terminal) : Type 0 where
  right : Tree
  behind : List Terminal
  reads : Expression n inside right behind
  chain : Chain n whole rest (joined q left right at) behind

grown : {n : ℕ} {whole : Tree} {rest : List Terminal} {left : Tree} {tokens : List Terminal} (punct : Punct) (q : Joiner) (at : Place) (inside : List Terminal) → joiner_of punct ≡ Some q → joiner_level q ≡ suc n → tokens ≡ sign punct at ∷ inside → suc n < joins rest → Chain n whole rest left tokens → Grown n whole rest q at left inside
grown {n} {rest = rest} punct q at inside o l is e stop = absurd (omega (arith, ap joins is, joiner-level punct q o))
grown {n} {whole} {rest} {left} punct q at inside o l is e (grow punct' q' at' inside' behind _ right o' l' r c) =
    let h = signs punct' punct at' at inside' inside is in
    let same : q' ≡ q = let both : Some q' ≡ Some q = sym o' ∙ ap joiner_of h.0 ∙ o in cc in
    record {
      right = right;
      behind = behind;
      reads = subst (λ ts. Expression n ts right behind) h.2 r;
      chain = subst (λ x. Chain n whole rest (joined x left right at) behind) same (subst (λ x. Chain n whole rest (joined q' left right x) behind) h.1 c);
    }

-- no operator of the level comes
ungrown : {n : ℕ} {whole : Tree} {rest : List Terminal} {left : Tree} {tokens : List Terminal} → ((punct : Punct) (at : Place) (inside : List Terminal) (q : Joiner) → tokens ≡ sign punct at ∷ inside → joiner_of punct ≡ Some q → joiner_level q ≡ suc n → ⊥) → Chain n whole rest left tokens → (rest ≡ tokens) × (whole ≡ left)
ungrown never stop = (refl, refl)
ungrown never (grow punct q at inside behind left right o l r c) = absurd (never punct at inside q refl o l)

-- an operator between two operands
combined : (n : ℕ) (punct : Punct) (q : Joiner) (at : Place) {ls rs : List Terminal} {left right : Tree} → joiner_of punct ≡ Some q → joiner_level q ≡ suc n → Derives (suc n) ls left → Derives n rs right → Derives (suc n) (ls ++ sign punct at ∷ rs) (joined q left right at)
combined n punct q at {ls} {rs} {left} {right} o l d f = go (operator_of punct) refl o
  where
    none_comma : (other : Punct) (r : Joiner) → comma_joiner other ≡ Some r → (r ≡ j.Comma) × (other ≡ p.Comma)
    none_comma p.Comma r e = (let same : r ≡ j.Comma = cc in same, refl)
    none_comma _ r e = absurd cc

    go : (x : Option Binary) → operator_of punct ≡ x → joiner_or x (comma_joiner punct) ≡ Some q → Derives (suc n) (ls ++ sign punct at ∷ rs) (joined q left right at)
    go (Some op) h e =
        let same : j.Binary op ≡ q = cc in
        subst (λ r. Derives (suc n) (ls ++ sign punct at ∷ rs) (joined r left right at)) same (g.an_operator punct op at n ls rs left right h (ap joiner_level same ∙ l) d f)
    go None h e =
        let c = none_comma punct q e in
        let level : 15 ≡ suc n = ap joiner_level (sym c.0) ∙ l in
        let n_is : n ≡ 14 = omega arith in
        let d' = subst (λ i. Derives (suc i) ls left) n_is d in
        let f' = subst (λ i. Derives i rs right) n_is f in
        subst (λ i. Derives (suc i) (ls ++ sign punct at ∷ rs) (joined q left right at)) (sym n_is)
        (subst (λ r. Derives 15 (ls ++ sign punct at ∷ rs) (joined r left right at)) (sym c.0)
        (subst (λ x. Derives 15 (ls ++ sign x at ∷ rs) (tree.comma left right at)) (sym c.1) (g.a_comma at ls rs left right d' f')))

-- ---- the loop over the operators of a level

-- The tokens so far are the tree, and each expression that the tokens begin with goes on from it.
pub record Runs (n : ℕ) (start : List Terminal) (left : Tree) (here : List Terminal) : Type 0 where
  pub reads : Expression n start left here
  pub only : (others : List Terminal) (other : Tree) (end : List Terminal) → others ≡ start → Expression n others other end → n < joins end → Chain (n - 1) other end left here

module _ (n m : ℕ) (at_level : n ≡ suc m) (groups : Groups n) where
  one_less : n - 1 ≡ m
  one_less = omega arith

  -- any expression at the level, as an operand and a chain
  opened : (tokens : List Terminal) (e : Tree) (end : List Terminal) → Expression n tokens e end → Starts m tokens e end
  opened tokens e end r = let s = starts m end at_level groups r.derives in
      record { head = s.head; behind = s.behind; reads = subst (λ ts. Expression m ts s.head s.behind) (sym r.split) s.reads; chain = s.chain }

  looser : (tokens : List Terminal) (e : Tree) (rest : List Terminal) → Expression m tokens e rest → Expression n tokens e rest
  looser tokens e rest r = record { taken = r.taken; split = r.split; derives = subst (λ i. Derives i r.taken e) (sym at_level) (g.a_tighter m r.taken e r.derives) }

  runs_first : (start here : List Terminal) (left : Tree) → Found (Expression (n - 1)) (Ends (n - 1)) start left here → Runs n start left here
  runs_first start here left q = let q' = subst (λ i. Found (Expression i) (Ends i) start left here) one_less q in record {
    reads = looser start left here q'.reads;
    only = λ others other end same r ends.
        let s = opened others other end r in
        let o = q'.only others s.head s.behind same s.reads (chain_ends (subst (λ i. i < joins end) at_level ends) s.chain) in
        subst (λ i. Chain i other end left here) (sym one_less) (subst (λ t. Chain m other end t here) o.1 (subst (λ ts. Chain m other end s.head ts) o.0 s.chain));
  }

  first_never : (start : List Terminal) → Never (Expression (n - 1)) (Ends (n - 1)) start → Never (Expression n) (Ends n) start
  first_never start q = let q' = subst (λ i. Never (Expression i) (Ends i) start) one_less q in record {
    none = λ others other end same r ends. let s = opened others other end r in q'.none others s.head s.behind same s.reads (chain_ends (subst (λ i. i < joins end) at_level ends) s.chain);
  }

  -- what every expression at the level has behind an operator that comes
  goes_on : (start here inside : List Terminal) (left : Tree) (punct : Punct) (q : Joiner) (at : Place) → Runs n start left here → here ≡ sign punct at ∷ inside → joiner_of punct ≡ Some q → joiner_level q ≡ n
      → (others : List Terminal) (other : Tree) (end : List Terminal) → others ≡ start → Expression n others other end → n < joins end → Grown m other end q at left inside
  goes_on start here inside left punct q at r is o l others other end same reads ends =
      let c = subst (λ i. Chain i other end left here) one_less (r.only others other end same reads ends) in
      grown punct q at inside o (l ∙ at_level) is (subst (λ i. i < joins end) at_level ends) c

  runs_more : (start here inside next : List Terminal) (left right whole : Tree) (punct : Punct) (q : Joiner) (at : Place) → whole ≡ joined q left right at → Runs n start left here → here ≡ sign punct at ∷ inside → joiner_of punct ≡ Some q → joiner_level q ≡ n → Found (Expression (n - 1)) (Ends (n - 1)) inside right next → Runs n start whole next
  runs_more start here inside next left right whole punct q at whole_is r is o l found =
      let f = subst (λ i. Found (Expression i) (Ends i) inside right next) one_less found in
      let ls = r.reads.taken in
      let rs = f.reads.taken in
      let derived = combined m punct q at o (l ∙ at_level) (subst (λ i. Derives i ls left) at_level r.reads.derives) f.reads.derives in
      subst (λ t. Runs n start t next) (sym whole_is) (record {
        reads = record {
          taken = ls ++ sign punct at ∷ rs;
          split = r.reads.split ∙ ap (λ ts. ls ++ ts) (is ∙ ap (λ ts. sign punct at ∷ ts) f.reads.split) ∙ sym (append_assoc ls (sign punct at ∷ rs) next);
          derives = subst (λ i. Derives i (ls ++ sign punct at ∷ rs) (joined q left right at)) (sym at_level) derived;
        };
        only = λ others other end same reads ends.
            let s = goes_on start here inside left punct q at r is o l others other end same reads ends in
            let u = f.only inside s.right s.behind refl s.reads (chain_ends (subst (λ i. i < joins end) at_level ends) s.chain) in
            subst (λ i. Chain i other end (joined q left right at) next) (sym one_less)
            (subst (λ t. Chain m other end (joined q left t at) next) u.1 (subst (λ ts. Chain m other end (joined q left s.right at) ts) u.0 s.chain));
      })

  runs_never : (start here inside : List Terminal) (left : Tree) (punct : Punct) (q : Joiner) (at : Place) → Runs n start left here → here ≡ sign punct at ∷ inside → joiner_of punct ≡ Some q → joiner_level q ≡ n → Never (Expression (n - 1)) (Ends (n - 1)) inside → Never (Expression n) (Ends n) start
  runs_never start here inside left punct q at r is o l never =
      let f = subst (λ i. Never (Expression i) (Ends i) inside) one_less never in
      record {
        none = λ others other end same reads ends.
            let s = goes_on start here inside left punct q at r is o l others other end same reads ends in
            f.none inside s.right s.behind refl s.reads (chain_ends (subst (λ i. i < joins end) at_level ends) s.chain);
      }

  runs_last : (start here : List Terminal) (left : Tree) → Runs n start left here → ((punct : Punct) (at : Place) (rest : List Terminal) (q : Joiner) → here ≡ sign punct at ∷ rest → joiner_of punct ≡ Some q → joiner_level q ≡ n → ⊥) → Found (Expression n) (Ends n) start left here
  runs_last start here left r stops = record {
    reads = r.reads;
    only = λ others other end same reads ends.
        let c = subst (λ i. Chain i other end left here) one_less (r.only others other end same reads ends) in
        ungrown (λ punct at inside q is o l. stops punct at inside q is o (l ∙ sym at_level)) c;
  }

-- the same for a level of the code
level_is : (n : ℕ) → Groups n → n ≡ suc (n - 1)
level_is n h = omega (arith, h.0)

pub chain_first : (n : ℕ) (start here : List Terminal) (left : Tree) → Groups n → Found (Expression (n - 1)) (Ends (n - 1)) start left here → Runs n start left here
chain_first n start here left h = runs_first n (n - 1) (level_is n h) h start here left

pub chain_first_never : (n : ℕ) (start : List Terminal) → Groups n → Never (Expression (n - 1)) (Ends (n - 1)) start → Never (Expression n) (Ends n) start
chain_first_never n start h = first_never n (n - 1) (level_is n h) h start

pub chain_more : (n : ℕ) (start here inside next : List Terminal) (left right whole : Tree) (punct : Punct) (q : Joiner) (at : Place) → Groups n → whole ≡ joined q left right at → Runs n start left here → here ≡ sign punct at ∷ inside → joiner_of punct ≡ Some q → joiner_level q ≡ n → Found (Expression (n - 1)) (Ends (n - 1)) inside right next → Runs n start whole next
chain_more n start here inside next left right whole punct q at h = runs_more n (n - 1) (level_is n h) h start here inside next left right whole punct q at

pub chain_never : (n : ℕ) (start here inside : List Terminal) (left : Tree) (punct : Punct) (q : Joiner) (at : Place) → Groups n → Runs n start left here → here ≡ sign punct at ∷ inside → joiner_of punct ≡ Some q → joiner_level q ≡ n → Never (Expression (n - 1)) (Ends (n - 1)) inside → Never (Expression n) (Ends n) start
chain_never n start here inside left punct q at h = runs_never n (n - 1) (level_is n h) h start here inside left punct q at

pub chain_last : (n : ℕ) (start here new : List Terminal) (left : Tree) → Groups n → new ≡ here → Runs n start left here → ((punct : Punct) (at : Place) (rest : List Terminal) (q : Joiner) → here ≡ sign punct at ∷ rest → joiner_of punct ≡ Some q → joiner_level q ≡ n → ⊥) → Found (Expression n) (Ends n) start left new
chain_last n start here new left h is r stops = subst (λ y. Found (Expression n) (Ends n) start left y) (sym is) (runs_last n (n - 1) (level_is n h) h start here left r stops)

-- ---- a chain of assignments

pub assigned_last : (chain : List Assigned) (a : Assigned) (value : Tree) → all_assigned (chain ++ a ∷ []) value ≡ all_assigned chain (assigned a value)
assigned_last [] a value = refl
assigned_last (first ∷ chain) a value = ap (assigned first) (assigned_last chain a value)
