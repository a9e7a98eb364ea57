-- Logs one after another.
use Rattle.std.proofs.Common.{◌≡◌, List, [], ◌∷◌, ◌++◌, sym, ap, ◌∙◌, append_assoc}
use Rattle.std.proofs.lemmas.List.{append-nil}
use Rattle.rtl_core.specs.Netlist.{Netlist}
use Rattle.rtl_core.proofs.Stability.{Extends}
use Rattle.rtl_logic.specs.Making.{Appends}
use Rattle.rtl_logic.proofs.Making.{appended, appends_none, appends_both}
use Rattle.datapath.specs.Plans.{Plan}
use Rattle.datapath.specs.Cycles.{Register}
use Rattle.datapath.specs.CircuitWires.Carrying.{IsBegun}
use Rattle.datapath.proofs.Combining.{carries_on}
use Rattle.circuit_context.specs.declared.wanted.log.Push.{Push}
use Rattle.circuit_context.specs.Wanted.Entries.{Entry}
use Rattle.circuit_context.specs.Wanted.Logs.{target_bits, IsPush, ArePushes, Logs}

-- a push stays what it is where the circuit is extended
pub push_later : (p : Plan) (names : List Register) (d e : Netlist) (push : Push) (it : Entry) → Extends d e → IsPush p names d push it → IsPush p names e push it
push_later p names d e push it longer h = record {
  target = h.target;
  there = h.there;
  when = carries_on p names d e 1 push.choice.when _ longer h.when;
  value = carries_on p names d e (target_bits p it.target) push.choice.value _ longer h.value;
}

pub pushes_later : (p : Plan) (names : List Register) (d e : Netlist) (pushes : List Push) (entries : List Entry) → Extends d e → ArePushes p names d pushes entries → ArePushes p names e pushes entries
pushes_later p names d e [] [] longer h = tt
pushes_later p names d e (push ∷ pushes) (it ∷ entries) longer h = (push_later p names d e push it longer h.0, pushes_later p names d e pushes entries longer h.1)
pushes_later p names d e [] (it ∷ entries) longer h = absurd h
pushes_later p names d e (push ∷ pushes) [] longer h = absurd h

pub pushes_append : (p : Plan) (names : List Register) (d : Netlist) (xs ys : List Push) (es fs : List Entry) → ArePushes p names d xs es → ArePushes p names d ys fs → ArePushes p names d (xs ++ ys) (es ++ fs)
pushes_append p names d [] ys [] fs h k = k
pushes_append p names d (x ∷ xs) ys (e ∷ es) fs h k = (h.0, pushes_append p names d xs ys es fs h.1 k)
pushes_append p names d [] ys (e ∷ es) fs h k = absurd h
pushes_append p names d (x ∷ xs) ys [] fs h k = absurd h

-- nothing is logged
pub logs_none : (p : Plan) (names : List Register) (d : Netlist) (log : List Push) → IsBegun p names d → Logs p names d d log log []
logs_none p names d log begun = record { more = []; is = sym (append-nil log); appends = appends_none d; begun = begun; are = tt }

-- one log after another
pub logs_then : (p : Plan) (names : List Register) (d e f : Netlist) (a b c : List Push) (es fs : List Entry) → Logs p names d e a b es → Logs p names e f b c fs → Logs p names d f a c (es ++ fs)
logs_then p names d e f a b c es fs h k = record {
  more = h.more ++ k.more;
  is = k.is ∙ (ap (λ l. l ++ k.more) h.is ∙ append_assoc a h.more k.more);
  appends = appends_both d e f h.appends k.appends;
  begun = k.begun;
  are = pushes_append p names f h.more k.more es fs (pushes_later p names e f h.more es (appended e f k.appends) h.are) k.are;
}

-- wires are made first
pub logs_behind : (p : Plan) (names : List Register) (d e f : Netlist) (a b : List Push) (es : List Entry) → Appends d e → Logs p names e f a b es → Logs p names d f a b es
logs_behind p names d e f a b es first h = record { more = h.more; is = h.is; appends = appends_both d e f first h.appends; begun = h.begun; are = h.are }

-- one push
pub logs_one : (p : Plan) (names : List Register) (d e : Netlist) (a b : List Push) (push : Push) (it : Entry) → Appends d e → IsBegun p names e → b ≡ a ++ push ∷ [] → IsPush p names e push it
    → Logs p names d e a b (it ∷ [])
logs_one p names d e a b push it first begun is h = record { more = push ∷ []; is = is; appends = first; begun = begun; are = (h, tt) }
