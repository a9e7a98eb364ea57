-- Places that are taken from those of tokens.
use Rattle.std.proofs.Common.{◌≡◌, refl, sym, ap, subst, append-nil, List, [], ◌∷◌, ◌++◌}
use Rattle.hls_base.specs.declared.place.Place.{Place}
use Rattle.c_tree.specs.Terminals.{Terminal}
use Rattle.expanded_pieces.specs.ApartPoints.Places.{places_of}
use Rattle.expanded_pieces.proofs.ApartPoints.Apart.{Taken, take_none, take_all, take_both, take_right, take_keep}

-- Each is a place of these tokens, and they differ where those of the tokens do.
pub record Drawn (ts : List Terminal) (xs : List Place) : Type 0 where
  pub taken : Taken (places_of ts) xs

pub places_joined : (ts us : List Terminal) → places_of (ts ++ us) ≡ places_of ts ++ places_of us
places_joined [] us = refl
places_joined (t ∷ ts) us = ap (λ l. t.at ∷ l) (places_joined ts us)

pub draw_none : (ts : List Terminal) → Drawn ts []
draw_none ts = record { taken = take_none (places_of ts) }

pub draw_all : (ts : List Terminal) → Drawn ts (places_of ts)
draw_all ts = record { taken = take_all (places_of ts) }

pub draw_skip : {t : Terminal} {ts : List Terminal} {xs : List Place} → Drawn ts xs → Drawn (t ∷ ts) xs
draw_skip {t} {ts} {xs} d = record { taken = take_right (t.at ∷ []) (places_of ts) xs d.taken }

pub draw_keep : {t : Terminal} {ts : List Terminal} {xs : List Place} → Drawn ts xs → Drawn (t ∷ ts) (t.at ∷ xs)
draw_keep {t} {ts} {xs} d = record { taken = take_keep t.at (places_of ts) xs d.taken }

pub draw_both : {ts us : List Terminal} {xs ys : List Place} → Drawn ts xs → Drawn us ys → Drawn (ts ++ us) (xs ++ ys)
draw_both {ts} {us} {xs} {ys} d e = record { taken = subst (λ l. Taken l (xs ++ ys)) (sym (places_joined ts us)) (take_both (places_of ts) (places_of us) xs ys d.taken e.taken) }

-- nothing is taken from the last tokens, or from the first ones
pub draw_left : {ts : List Terminal} (us : List Terminal) {xs : List Place} → Drawn ts xs → Drawn (ts ++ us) xs
draw_left {ts} us {xs} d = subst (Drawn (ts ++ us)) (append-nil xs) (draw_both d (draw_none us))

pub draw_right : (ts : List Terminal) {us : List Terminal} {xs : List Place} → Drawn us xs → Drawn (ts ++ us) xs
draw_right ts d = draw_both (draw_none ts) d

pub draw_nil : {ts : List Terminal} {xs : List Place} → Drawn ts xs → Drawn ts (xs ++ [])
draw_nil {ts} {xs} d = subst (Drawn ts) (sym (append-nil xs)) d
