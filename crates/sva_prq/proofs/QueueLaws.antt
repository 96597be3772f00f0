-- A page request queue is first in, first out, and never above its places.
use Rattle.std.proofs.Common.{[], ◌∷◌, ◌++◌, take, drop, refl, sym, ap, ◌∙◌, arith, append-nil, append_assoc, length-append, length-drop}
use Rattle.std.proofs.lemmas.List.{take-append-drop}
use Rattle.sva_prq.specs.Queue.{Arrive, Serve, Clear, queue_after, departures, IsFirstInFirstOut, NeverOverflows}

pub first_in_first_out : IsFirstInFirstOut
first_in_first_out [] = refl
first_in_first_out (Arrive request ∷ earlier) =
    ap (λ xs. xs ++ request ∷ []) (first_in_first_out earlier)
    ∙ append_assoc (departures earlier) (queue_after earlier) (request ∷ [])
    ∙ ap (λ xs. xs ++ (queue_after earlier ++ request ∷ [])) (sym (append-nil (departures earlier)))
first_in_first_out (Serve ∷ earlier) =
    first_in_first_out earlier
    ∙ ap (λ xs. departures earlier ++ xs) (sym (take-append-drop 1 (queue_after earlier)))
    ∙ sym (append_assoc (departures earlier) (take 1 (queue_after earlier)) (drop 1 (queue_after earlier)))
first_in_first_out (Clear ∷ earlier) =
    first_in_first_out earlier ∙ sym (append-nil (departures earlier ++ queue_after earlier))

pub never_overflows : NeverOverflows
never_overflows [] h = omega arith
never_overflows (Arrive request ∷ earlier) h =
    let longer = length-append (queue_after earlier) (request ∷ []) in omega (arith, h.0)
never_overflows (Serve ∷ earlier) h =
    let before = never_overflows earlier h in
    let shorter = length-drop 1 (queue_after earlier) in omega arith
never_overflows (Clear ∷ earlier) h = omega arith
