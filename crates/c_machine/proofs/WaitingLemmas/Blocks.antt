-- One step of a list of declarations, and of a list of statements.
use Rattle.std.proofs.Common.{◌≡◌, ◌∙◌, ℕ, zero, suc, ◌+◌, ◌<◌, ◌≤◌, sym, refl, ap, List, [], ◌∷◌, ◌++◌, length, take, drop, get_or, map, append_assoc, add-one, Option, Some, None, Bool, arith}
use Rattle.std.proofs.lemmas.List.{map-append, append-nil}
use Rattle.std.proofs.Math.Seq.{drop-cons}
use Rattle.std.proofs.Math.ListN.{drop_of_length-le}
use Rattle.hls_base.specs.declared.place.Place.{Place}
use Rattle.c_tree.specs.Tree.{Tree, ObjectTree, StmtTree}
use Rattle.c_tree.specs.declared.object.Object.{Object as Declared}
use Rattle.c_tree.specs.declared.statement.Stmt.{Stmt}
use Rattle.c_tree.specs.View.{object_of, stmt_of, stmts_of}
use Rattle.c_meaning.specs.Store.{Environment, unwritten, declared, all_declared, declared_by, declared_in}
use Rattle.c_machine.specs.Moves.{Landing, labelled, landing, skipping}

drop-one : {A : Type 0} (xs : List A) (i : ℕ) (x : A) → i < length xs → x ≡ get_or xs i x → drop i xs ≡ x ∷ drop (i + 1) xs
drop-one xs i x lt is =
    let e : suc i ≡ i + 1 = omega arith in
    drop-cons xs i x lt ∙ ap (λ y. y ∷ drop (suc i) xs) (sym is) ∙ ap (λ k. x ∷ drop k xs) e

-- ---- objects

pub objects-more : (ds : List Declared) (i : ℕ) (d : Declared) → i < length ds → d ≡ get_or ds i d
    → map unwritten (map object_of (drop i ds)) ≡ unwritten (object_of d) ∷ map unwritten (map object_of (drop (i + 1) ds))
objects-more ds i d lt is = rw (add-one, drop-cons ds i d lt, ← is) refl

pub objects-end : (ds : List Declared) (i : ℕ) → length ds ≤ i → map unwritten (map object_of (drop i ds)) ≡ []
objects-end ds i le = rw (drop_of_length-le ds le) refl

pub block-more : (ss : List Stmt) (i : ℕ) (s : Stmt) → i < length ss → s ≡ get_or ss i s
    → map unwritten (declared_in (stmts_of (drop i ss))) ≡ map unwritten (declared_by (stmt_of s)) ++ map unwritten (declared_in (stmts_of (drop (i + 1) ss)))
block-more ss i s lt is = rw (add-one, drop-cons ss i s lt, ← is) (map-append unwritten (declared_by (stmt_of s)) (declared_in (stmts_of (drop (suc i) ss))))

pub block-end : (ss : List Stmt) (i : ℕ) → length ss ≤ i → map unwritten (declared_in (stmts_of (drop i ss))) ≡ []
block-end ss i le = rw (drop_of_length-le ss le) refl

pub ruleset living = (objects-more, objects-end, block-more, block-end, append_assoc, append-nil)

-- ---- names

pub declared-more : (ds : List Declared) (i : ℕ) (d : Declared) (env : Environment) → i < length ds → d ≡ get_or ds i d
    → all_declared env (map object_of (drop i ds)) ≡ all_declared (declared env d.name) (map object_of (drop (i + 1) ds))
declared-more ds i d env lt is = ap (λ os. all_declared env (map object_of os)) (drop-one ds i d lt is)

pub declared-end : (ds : List Declared) (i : ℕ) (env : Environment) → length ds ≤ i → all_declared env (map object_of (drop i ds)) ≡ env
declared-end ds i env le = rw (drop_of_length-le ds le) refl

pub all_declared-append : (env : Environment) (os others : List ObjectTree) → all_declared env (os ++ others) ≡ all_declared (all_declared env os) others
all_declared-append env [] others = refl
all_declared-append env (o ∷ os) others = all_declared-append (declared env o.name) os others

pub skipped-more : (ss : List Stmt) (i : ℕ) (s : Stmt) (env : Environment) → i < length ss → s ≡ get_or ss i s
    → all_declared env (declared_in (stmts_of (drop i ss))) ≡ all_declared (all_declared env (declared_by (stmt_of s))) (declared_in (stmts_of (drop (i + 1) ss)))
skipped-more ss i s env lt is = rw (add-one, drop-cons ss i s lt, ← is) (all_declared-append env (declared_by (stmt_of s)) (declared_in (stmts_of (drop (suc i) ss))))

pub skipped-end : (ss : List Stmt) (i : ℕ) (env : Environment) → length ss ≤ i → all_declared env (declared_in (stmts_of (drop i ss))) ≡ env
skipped-end ss i env le = rw (drop_of_length-le ss le) refl

pub ruleset naming_declared = (declared-more, declared-end, skipped-more, skipped-end)

-- ---- labels

declared_in-take : (ss : List Stmt) (i : ℕ) (s : Stmt) → i < length ss → s ≡ get_or ss i s → declared_in (stmts_of (take (i + 1) ss)) ≡ declared_in (stmts_of (take i ss)) ++ declared_by (stmt_of s)
declared_in-take [] i s lt is = absurd (omega arith)
declared_in-take (x ∷ ss) zero s lt is = rw is (append-nil (declared_by (stmt_of x)))
declared_in-take (x ∷ ss) (suc i) s lt is =
    let e : suc i + 1 ≡ suc (i + 1) = omega arith in
    ap (λ k. declared_in (stmts_of (take k (x ∷ ss)))) e
    ∙ ap (λ ds. declared_by (stmt_of x) ++ ds) (declared_in-take ss i s (omega arith) is) ∙ sym (append_assoc (declared_by (stmt_of x)) (declared_in (stmts_of (take i ss))) (declared_by (stmt_of s)))

skipping-twice : (os others : List ObjectTree) (l : Option Landing) → skipping os (skipping others l) ≡ skipping (os ++ others) l
skipping-twice os others None = refl
skipping-twice os others (Some l) = ap (λ ds. Some (record l { skipped = ds })) (sym (append_assoc os others l.skipped))

pub landing-passed : (w : Option Tree → Bool) (ss : List Stmt) (i : ℕ) (s : Stmt) → i < length ss → s ≡ get_or ss i s → labelled w (stmt_of s) ≡ None
    → skipping (declared_in (stmts_of (take i ss))) (landing w (stmts_of (drop i ss))) ≡ skipping (declared_in (stmts_of (take (i + 1) ss))) (landing w (stmts_of (drop (i + 1) ss)))
landing-passed w ss i s lt is none =
    let more : landing w (stmts_of (drop i ss)) ≡ skipping (declared_by (stmt_of s)) (landing w (stmts_of (drop (i + 1) ss))) = rw (add-one, drop-cons ss i s lt, ← is, none) refl in
    ap (λ l. skipping (declared_in (stmts_of (take i ss))) l) more
    ∙ skipping-twice (declared_in (stmts_of (take i ss))) (declared_by (stmt_of s)) (landing w (stmts_of (drop (i + 1) ss)))
    ∙ ap (λ ds. skipping ds (landing w (stmts_of (drop (i + 1) ss)))) (sym (declared_in-take ss i s lt is))

pub landing-here : (w : Option Tree → Bool) (ss : List Stmt) (i : ℕ) (s : Stmt) (at : Place) (body : StmtTree) → i < length ss → s ≡ get_or ss i s → labelled w (stmt_of s) ≡ Some (at, body)
    → skipping (declared_in (stmts_of (take i ss))) (landing w (stmts_of (drop i ss)))
    ≡ Some (record { skipped = declared_in (stmts_of (take i ss)); at = at; body = body; rest = stmts_of (drop (i + 1) ss) })
landing-here w ss i s at body lt is found =
    let here : landing w (stmts_of (drop i ss)) ≡ Some (record { skipped = []; at = at; body = body; rest = stmts_of (drop (i + 1) ss) }) = rw (add-one, drop-cons ss i s lt, ← is, found) refl in
    ap (λ l. skipping (declared_in (stmts_of (take i ss))) l) here
    ∙ ap (λ ds. Some (record { skipped = ds; at = at; body = body; rest = stmts_of (drop (i + 1) ss) })) (append-nil (declared_in (stmts_of (take i ss))))

pub landing-none : (w : Option Tree → Bool) (ss : List Stmt) (i : ℕ) → length ss ≤ i → skipping (declared_in (stmts_of (take i ss))) (landing w (stmts_of (drop i ss))) ≡ None
landing-none w ss i le = rw (drop_of_length-le ss le) refl

pub skipping-nothing : (l : Option Landing) → skipping [] l ≡ l
skipping-nothing None = refl
skipping-nothing (Some l) = refl

pub ruleset finding = (landing-passed, landing-here, landing-none, skipping-nothing)
