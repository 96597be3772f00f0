-- The laws of the moves, by cases on the state and the move.
use Rattle.std.proofs.Common.{◌≡◌, ◌≢◌, ℕ, Bool, true, false, ◌⊎◌, inl, inr, List, [], ◌∷◌, refl, ◌∙◌}
use Rattle.std.specs.Prelude.{All}
use Rattle.std.proofs.lemmas.List.Elements.{All-head, All-tail, All-nil, All-cons}
use Rattle.sva_pasid.specs.States.{Numbers, Stop, Wait}
use Rattle.sva_pasid.specs.Moves.{Life, Move, Kind, after_move, after_moves, numbers_of_life, kind_of, HasInOrder, is_stop, is_mark, is_drain}
use Rattle.sva_pasid.specs.Moves.{is_wait_done, is_invalidate, is_settle, TableByMoves, KeepsNumbers, QuietAfterUnbinding}
use Rattle.sva_pasid.specs.Moves.Life.{at, over}
use Rattle.sva_pasid.specs.Moves.Move.{stop, mark, drain, invalidate, settle, reset, release}
use Rattle.sva_pasid.specs.Moves.Kind.{live, stopping, draining, invalidating, quiet, lost, released}
use Rattle.sva_pasid.specs.declared.stages.Stage.TheVariants.{Live, Stopping, Draining, Invalidating, Quiet, Lost}

-- a stop and a wait by their fields, so that a flag can be split into cases
abbrev stop_with : ℕ → ℕ → Bool → Stop
stop_with b p marked = record { binding = b; pasid = p; marked = marked }

abbrev wait_with : ℕ → ℕ → ℕ → Bool → Wait
wait_with b p cookie waited = record { binding = b; pasid = p; cookie = cookie; waited = waited }

-- the numbers stay
stop_keeps : (b p : ℕ) (marked : Bool) (m : Move) → numbers_of_life (after_move (at (Stopping (stop_with b p marked))) m) ≡ record { binding = b; pasid = p }
stop_keeps b p true (drain c) = refl
stop_keeps b p false (drain c) = refl
stop_keeps b p marked _ = refl

drain_keeps : (b p k : ℕ) (waited : Bool) (m : Move) → numbers_of_life (after_move (at (Draining (wait_with b p k waited))) m)
    ≡ record { binding = b; pasid = p }
drain_keeps b p k true (invalidate c true) = refl
drain_keeps b p k true (invalidate c false) = refl
drain_keeps b p k false (invalidate c o) = refl
drain_keeps b p k waited _ = refl

invalidation_keeps : (b p k : ℕ) (waited : Bool) (m : Move) → numbers_of_life (after_move (at (Invalidating (wait_with b p k waited))) m)
    ≡ record { binding = b; pasid = p }
invalidation_keeps b p k true settle = refl
invalidation_keeps b p k false settle = refl
invalidation_keeps b p k waited _ = refl

live_keeps : (n : Numbers) (m : Move) → numbers_of_life (after_move (at (Live n)) m) ≡ n
live_keeps n stop = refl
live_keeps n _ = refl

quiet_keeps : (n : Numbers) (m : Move) → numbers_of_life (after_move (at (Quiet n)) m) ≡ n
quiet_keeps n release = refl
quiet_keeps n _ = refl

lost_keeps : (n : Numbers) (m : Move) → numbers_of_life (after_move (at (Lost n)) m) ≡ n
lost_keeps n settle = refl
lost_keeps n _ = refl

over_keeps : (n : Numbers) (m : Move) → numbers_of_life (after_move (over n) m) ≡ n
over_keeps n stop = refl
over_keeps n _ = refl

pub move_keeps : (life : Life) (m : Move) → numbers_of_life (after_move life m) ≡ numbers_of_life life
move_keeps (at (Live n)) m = live_keeps n m
move_keeps (at (Stopping s)) m = stop_keeps s.binding s.pasid s.marked m
move_keeps (at (Draining w)) m = drain_keeps w.binding w.pasid w.cookie w.waited m
move_keeps (at (Invalidating w)) m = invalidation_keeps w.binding w.pasid w.cookie w.waited m
move_keeps (at (Quiet n)) m = quiet_keeps n m
move_keeps (at (Lost n)) m = lost_keeps n m
move_keeps (over n) m = over_keeps n m

pub keeps_numbers : KeepsNumbers
keeps_numbers life [] = refl
keeps_numbers life (m ∷ ms) = keeps_numbers (after_move life m) ms ∙ move_keeps life m

-- what is left of the whole unbinding, at each stage
abbrev left_of_invalidation : Bool → List (Move → Bool)
left_of_invalidation true = is_settle ∷ []
left_of_invalidation false = is_wait_done ∷ is_settle ∷ []

abbrev left_of_drain : Bool → List (Move → Bool)
left_of_drain true = is_invalidate ∷ left_of_invalidation false
left_of_drain false = is_wait_done ∷ is_invalidate ∷ left_of_invalidation false

abbrev left_of_stop : Bool → List (Move → Bool)
left_of_stop true = is_drain ∷ left_of_drain false
left_of_stop false = is_mark ∷ is_drain ∷ left_of_drain false

abbrev left_of : Life → List (Move → Bool)
left_of (at (Live _)) = is_stop ∷ left_of_stop false
left_of (at (Stopping s)) = left_of_stop s.marked
left_of (at (Draining w)) = left_of_drain w.waited
left_of (at (Invalidating w)) = left_of_invalidation w.waited
left_of (at (Quiet _)) = []
left_of (at (Lost _)) = is_settle ∷ []
left_of (over _) = []

-- a move other than a reset takes at most the first of what is left
abbrev Advances : Life → Move → Type 0
Advances life m = (ms : List Move) → HasInOrder (left_of (after_move life m)) ms → HasInOrder (left_of life) (m ∷ ms)

live_advances : (n : Numbers) (m : Move) → m ≢ reset → Advances (at (Live n)) m
live_advances n reset q ms h = absurd (q refl)
live_advances n stop q ms h = h
live_advances n _ q ms h = h

stop_advances : (b p : ℕ) (marked : Bool) (m : Move) → m ≢ reset → Advances (at (Stopping (stop_with b p marked))) m
stop_advances b p marked reset q ms h = absurd (q refl)
stop_advances b p true (drain c) q ms h = h
stop_advances b p false (drain c) q ms h = h
stop_advances b p true mark q ms h = h
stop_advances b p false mark q ms h = h
stop_advances b p true _ q ms h = h
stop_advances b p false _ q ms h = h

drain_advances : (b p k : ℕ) (waited : Bool) (m : Move) → m ≢ reset → Advances (at (Draining (wait_with b p k waited))) m
drain_advances b p k waited reset q ms h = absurd (q refl)
drain_advances b p k true (invalidate c true) q ms h = h
drain_advances b p k true (invalidate c false) q ms h = h
drain_advances b p k false (invalidate c o) q ms h = h
drain_advances b p k true _ q ms h = h
drain_advances b p k false _ q ms h = h

invalidation_advances : (b p k : ℕ) (waited : Bool) (m : Move) → m ≢ reset → Advances (at (Invalidating (wait_with b p k waited))) m
invalidation_advances b p k waited reset q ms h = absurd (q refl)
invalidation_advances b p k true settle q ms h = tt
invalidation_advances b p k true _ q ms h = h
invalidation_advances b p k false _ q ms h = h

lost_advances : (n : Numbers) (m : Move) → Advances (at (Lost n)) m
lost_advances n settle ms h = tt
lost_advances n _ ms h = h

move_advances : (life : Life) (m : Move) → m ≢ reset → Advances life m
move_advances (at (Live n)) m q = live_advances n m q
move_advances (at (Stopping s)) m q = stop_advances s.binding s.pasid s.marked m q
move_advances (at (Draining w)) m q = drain_advances w.binding w.pasid w.cookie w.waited m q
move_advances (at (Invalidating w)) m q = invalidation_advances w.binding w.pasid w.cookie w.waited m q
move_advances (at (Quiet n)) m q = λ ms h. tt
move_advances (at (Lost n)) m q = lost_advances n m
move_advances (over n) m q = λ ms h. tt

none_left : (life : Life) → (kind_of life ≡ quiet) ⊎ (kind_of life ≡ released) → HasInOrder (left_of life) []
none_left (at (Quiet _)) k = tt
none_left (over _) k = tt
none_left _ (inl k) = absurd (cc)
none_left _ (inr k) = absurd (cc)

moves_advance : (life : Life) (ms : List Move) → All (λ m. m ≢ reset) ms → (kind_of (after_moves life ms) ≡ quiet)
    ⊎ (kind_of (after_moves life ms) ≡ released) → HasInOrder (left_of life) ms
moves_advance life [] q k = none_left life k
moves_advance life (m ∷ ms) q k =
    move_advances life m (All-head (λ (x : Move). x ≢ reset) m ms q) ms
    (moves_advance (after_move life m) ms (All-tail (λ (x : Move). x ≢ reset) m ms q) k)

pub quiet_after_unbinding : QuietAfterUnbinding
quiet_after_unbinding n ms q k = moves_advance (at (Live n)) ms q k

-- a move of each row of the stage table
abbrev IsMoved : Kind → Kind → Type 0
IsMoved before after = (life : Life) × (m : Move) × (kind_of life ≡ before) × (kind_of (after_move life m) ≡ after)

numbers : Numbers
numbers = record { binding = 0; pasid = 1 }

one_row : (before after : Kind) → IsMoved before after → All (IsMoved before) (after ∷ [])
one_row before after h = All-cons (IsMoved before) after [] h (All-nil (IsMoved before))

pub table_by_moves : TableByMoves
table_by_moves live =
    All-cons (IsMoved live) stopping (lost ∷ []) (at (Live numbers), stop, refl, refl) (one_row live lost (at (Live numbers), reset, refl, refl))
table_by_moves stopping =
    All-cons (IsMoved stopping) draining (quiet ∷ []) (at (Stopping (stop_with 0 1 true)), drain 0, refl, refl)
    (one_row stopping quiet (at (Stopping (stop_with 0 1 true)), reset, refl, refl))
table_by_moves draining =
    All-cons (IsMoved draining) invalidating (quiet ∷ []) (at (Draining (wait_with 0 1 0 true)), invalidate 0 false, refl, refl)
    (one_row draining quiet (at (Draining (wait_with 0 1 0 true)), reset, refl, refl))
table_by_moves invalidating = one_row invalidating quiet (at (Invalidating (wait_with 0 1 0 true)), settle, refl, refl)
table_by_moves quiet = one_row quiet released (at (Quiet numbers), release, refl, refl)
table_by_moves lost = one_row lost quiet (at (Lost numbers), settle, refl, refl)
table_by_moves released = All-nil (IsMoved released)
