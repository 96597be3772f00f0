-- What is in flight after an act of an endpoint: without the message that it delivers, and with those that it sends.
use Rattle.std.proofs.Common.{◌≡◌, ◌≢◌, ◌⊎◌, inl, inr, refl, ap, ap₂, sym, ◌∙◌, ℕ, ◌+◌, ◌<◌, Bool, true, arith}
use Rattle.std.specs.Prelude.{Option, Some, None, ◌&&◌, not, ◌==◌, List, ◌++◌, map, filter}
use Rattle.std.proofs.lemmas.Bool.Decides.{nat_tests}
use Rattle.sva_model.specs.Words.{put, put_range, select, tabulate, is_some}
use Rattle.sva_model.specs.Message.{Message}
use Rattle.sva_model.specs.Message.Message.{StartMessage, StopMessage, ResetMessage, InvalidateMessage, ResponseMessage, RequestMessage}
use Rattle.sva_model.specs.Message.Message.{InvalidatedMessage, PageRequestMessage, MarkerMessage, ResetDoneMessage}
use Rattle.sva_model.specs.State.{Subject, Endpoint, World}
use Rattle.sva_model.specs.StateChanges.{scope_of, extent_of, binding_of, count_field}
use Rattle.sva_model.specs.Acts.{LocalAct, act_alone, act, sends}
use Rattle.sva_model.specs.Acts.Act.{AtEndpoint}
use Rattle.sva_model.specs.Wire.{FlightWire, number, flight_wire, wire}
use Rattle.sva_labels.proofs.Words.{put-same, put-other, ℕ_cases}
use Rattle.sva_labels.proofs.Lists.{tabulate_same}
use Rattle.sva_refinement.proofs.Selected.{select_seen, select_filtered, select_more}

-- the endpoint after an act of it
abbrev pub part_after : World → (e : ℕ) → LocalAct → Endpoint
part_after w e o = act_alone (w.part e) w.messages o

-- the message that an act delivers, if it does
abbrev pub delivers : LocalAct → Option ℕ
delivers (LocalAct.Start_arrives c b) = Some c
delivers (LocalAct.Stop_arrives c b) = Some c
delivers (LocalAct.Reset_arrives c) = Some c
delivers (LocalAct.Keep c r m) = Some c
delivers (LocalAct.Forget c r) = Some c
delivers (LocalAct.Take c k) = Some c
delivers (LocalAct.Answered c g code) = Some c
delivers (LocalAct.Complete c r found answer) = Some c
delivers (LocalAct.Count c names) = Some c
delivers (LocalAct.Arrive c r) = Some c
delivers (LocalAct.Miss c r) = Some c
delivers (LocalAct.Mark c b) = Some c
delivers (LocalAct.Ignore c) = Some c
delivers (LocalAct.Reopen c) = Some c
delivers _ = None

-- what the messages carry that it sends; it matters only where it sends one
abbrev pub said : Endpoint → LocalAct → Message
said p (LocalAct.Bind b s t) = StartMessage t
said p (LocalAct.Stop b) = StopMessage (p.pasid b)
said p (LocalAct.Send k t) = InvalidateMessage t (p.pasid (binding_of (p.order k))) (scope_of (extent_of (p.order k)))
said p (LocalAct.Respond g code) = ResponseMessage (p.pasid (p.filed_under g)) (p.index g) code
said p (LocalAct.Ask b q t) = RequestMessage t (p.pasid b) q
said p (LocalAct.Group b i q r x l) = PageRequestMessage (p.pasid b) i q r x l
said p (LocalAct.Request g q r x l) = PageRequestMessage (p.pasid (p.asker g)) (p.index g) q r x l
said p (LocalAct.Finish names vector count) = InvalidatedMessage vector (count_field count)
said p (LocalAct.Quit b) = MarkerMessage (p.pasid b)
said p (LocalAct.Reset_arrives c) = ResetDoneMessage
said p (LocalAct.Complete c r found answer) = answer
said p _ = ResetMessage

-- without what is delivered
abbrev pub left_of : Option ℕ → (ℕ → Option Subject) → ℕ → Option Subject
left_of None message = message
left_of (Some d) message = put message d None

old_message : (p : Endpoint) (n : ℕ) (o : LocalAct) (c : ℕ) → c < n → (act_alone p n o).message c ≡ left_of (delivers o) p.message c
old_message p n o c l = grind (arith, nat_tests)

old_carried : (p : Endpoint) (n : ℕ) (o : LocalAct) (c : ℕ) → c < n → (act_alone p n o).carried c ≡ p.carried c
old_carried p n o c l = grind (arith, nat_tests)

new_message : (p : Endpoint) (n : ℕ) (o : LocalAct) (j : ℕ) → j < sends o → is_some ((act_alone p n o).message (n + j)) ≡ true
new_message p n o j l = grind (arith, nat_tests)

new_carried : (p : Endpoint) (n : ℕ) (o : LocalAct) (j : ℕ) → j < sends o → (act_alone p n o).carried (n + j) ≡ said p o
new_carried p n o j l = grind (arith, nat_tests)

pub old_way : (f : ℕ → ℕ) (n k e c : ℕ) → c < n → put_range f n k (λ j. e) c ≡ f c
old_way f n k e c l = grind (arith, nat_tests)

new_way : (f : ℕ → ℕ) (n k e j : ℕ) → j < k → put_range f n k (λ j. e) (n + j) ≡ e
new_way f n k e j l = grind (arith, nat_tests)

-- what one part shows and an act leaves, every part shows
pub same_view : {B : Type 0} (f : Endpoint → B) (parts : ℕ → Endpoint) (e : ℕ) (p : Endpoint) → f p ≡ f (parts e) → (x : ℕ) → f (put parts e p x) ≡ f (parts x)
same_view f parts e p h x = go (ℕ_cases x e)
  where
    go : (x ≡ e) ⊎ (x ≢ e) → f (put parts e p x) ≡ f (parts x)
    go (inl k) = ap (λ z. f (put parts e p z)) k ∙ ap f (put-same parts e p) ∙ h ∙ ap (λ z. f (parts z)) (sym k)
    go (inr ne) = ap f (put-other parts e p x ne)

abbrev flies : World → (message : ℕ) → Bool
flies w c = is_some ((w.part (w.link_of c)).message c)

-- an older message is seen as before
old_flight : (w : World) (e : ℕ) (o : LocalAct) (c : ℕ) → c < w.messages → flight_wire (act w (AtEndpoint e o)) c ≡ flight_wire w c
old_flight w e o c l =
    ap (λ x. record { number = number w.config.first c; endpoint = x; message = (put w.part e (part_after w e o) x).carried c })
    (old_way w.link_of w.messages (sends o) e c l)
    ∙ ap (λ m. record { number = number w.config.first c; endpoint = w.link_of c; message = m })
    (same_view (λ p. p.carried c) w.part e (part_after w e o) (old_carried (w.part e) w.messages o c l) (w.link_of c))

new_flight :
    (w : World) (e : ℕ) (o : LocalAct) (j : ℕ) → j < sends o
    → flight_wire (act w (AtEndpoint e o)) (w.messages + j)
    ≡ record { number = number w.config.first w.messages + j; endpoint = e; message = said (w.part e) o }
new_flight w e o j l =
    let later : w.config.first + (w.messages + j) ≡ w.config.first + w.messages + j = omega arith in
    ap (λ x. record {
      number = number w.config.first (w.messages + j);
      endpoint = x;
      message =
          (put w.part e (part_after w e o) x).carried (w.messages + j);
    }) (new_way w.link_of w.messages (sends o) e j l)
    ∙ ap (λ p. record { number = number w.config.first (w.messages + j); endpoint = e; message = p.carried (w.messages + j) })
    (put-same w.part e (part_after w e o))
    ∙ (λ i. record { number = later i; endpoint = e; message = new_carried (w.part e) w.messages o j l i })

new_flies : (w : World) (e : ℕ) (o : LocalAct) (j : ℕ) → j < sends o → flies (act w (AtEndpoint e o)) (w.messages + j) ≡ true
new_flies w e o j l =
    ap (λ x. is_some ((put w.part e (part_after w e o) x).message (w.messages + j))) (new_way w.link_of w.messages (sends o) e j l)
    ∙ ap (λ p. is_some (p.message (w.messages + j))) (put-same w.part e (part_after w e o))
    ∙ new_message (w.part e) w.messages o j l

-- is it another message than that which is delivered?
abbrev pub is_left : Option ℕ → (message : ℕ) → Bool
is_left None c = true
is_left (Some d) c = not (c == d)

-- what is delivered is on its way to the endpoint
abbrev pub ComesTo : World → (e : ℕ) → LocalAct → Type 0
ComesTo w e o = (c : ℕ) → delivers o ≡ Some c → w.link_of c ≡ e

old_flies : (w : World) (e : ℕ) (o : LocalAct) (c : ℕ) → ComesTo w e o → c < w.messages → flies (act w (AtEndpoint e o)) c
    ≡ (flies w c && is_left (delivers o) c)
old_flies w e o c to l =
    ap (λ x. is_some ((put w.part e (part_after w e o) x).message c)) (old_way w.link_of w.messages (sends o) e c l)
    ∙ go (delivers o) refl (ℕ_cases (w.link_of c) e)
  where
    all : (b : Bool) → b ≡ (b && true)
    all b = grind arith

    gone : (f : ℕ → Option Subject) (d : ℕ) → c ≡ d → is_some (put f d None c) ≡ (is_some (f c) && not (c == d))
    gone f d h = grind (arith, nat_tests)

    stays : (f : ℕ → Option Subject) (d : ℕ) → c ≢ d → is_some (put f d None c) ≡ (is_some (f c) && not (c == d))
    stays f d h = grind (arith, nat_tests)

    here : (d : Option ℕ) → delivers o ≡ d → w.link_of c ≡ e → is_some (left_of (delivers o) (w.part e).message c)
        ≡ (is_some ((w.part e).message c) && is_left d c)
    here None h k = ap (λ x. is_some (left_of x (w.part e).message c)) h ∙ all (is_some ((w.part e).message c))
    here (Some d) h k = ap (λ x. is_some (left_of x (w.part e).message c)) h ∙ at_d (ℕ_cases c d)
      where
        at_d : (c ≡ d) ⊎ (c ≢ d) → is_some (put (w.part e).message d None c) ≡ (is_some ((w.part e).message c) && not (c == d))
        at_d (inl x) = gone (w.part e).message d x
        at_d (inr x) = stays (w.part e).message d x

    there : (d : Option ℕ) → delivers o ≡ d → w.link_of c ≢ e → (b : Bool) → b ≡ (b && is_left d c)
    there None h k b = all b
    there (Some d) h k b = differ (λ x. k (ap w.link_of x ∙ to d h))
      where
        differ : c ≢ d → b ≡ (b && not (c == d))
        differ ne = grind (arith, nat_tests)

    go :
        (d : Option ℕ) → delivers o ≡ d → (w.link_of c ≡ e) ⊎ (w.link_of c ≢ e)
        → is_some ((put w.part e (part_after w e o) (w.link_of c)).message c) ≡ (is_some ((w.part (w.link_of c)).message c) && is_left d c)
    go d h (inl k) =
        ap (λ x. is_some ((put w.part e (part_after w e o) x).message c)) k
        ∙ ap (λ p. is_some (p.message c)) (put-same w.part e (part_after w e o))
        ∙ ap (λ x. is_some x) (old_message (w.part e) w.messages o c l)
        ∙ here d h k
        ∙ ap (λ x. is_some ((w.part x).message c) && is_left d c) (sym k)
    go d h (inr ne) =
        ap (λ p. is_some (p.message c)) (put-other w.part e (part_after w e o) (w.link_of c) ne) ∙ there d h ne (is_some ((w.part (w.link_of c)).message c))

-- those that are left, by their numbers
abbrev pub still_flying : (first : ℕ) → Option ℕ → List FlightWire → List FlightWire
still_flying first None fs = fs
still_flying first (Some d) fs = filter (λ f. not (f.number == number first d)) fs

abbrev pub newly_sent : (next endpoint count : ℕ) → Message → List FlightWire
newly_sent next e count m = tabulate count (λ j. record { number = next + j; endpoint = e; message = m })

left_are :
    (w : World) (d : Option ℕ)
    → map (flight_wire w) (select w.messages (λ c. flies w c && is_left d c)) ≡ still_flying w.config.first d (wire w).in_flight
left_are w None =
    select_seen w.messages (λ c. flies w c && true) (flies w) (flight_wire w) (flight_wire w) (λ c l. all (flies w c)) (λ c l t. refl)
  where
    all : (b : Bool) → (b && true) ≡ b
    all b = grind arith
left_are w (Some d) =
    select_seen w.messages (λ c. flies w c && not (c == d)) (λ c. flies w c && not (number w.config.first c == number w.config.first d))
    (flight_wire w) (flight_wire w)
    (λ c l. ap (λ t. flies w c && not t) (same_number w.config.first c d)) (λ c l t. refl)
    ∙ sym (select_filtered w.messages (flies w) (flight_wire w) (λ f. not (f.number == number w.config.first d)))
  where
    same_number : (first c d : ℕ) → (c == d) ≡ (first + c == first + d)
    same_number first c d = grind (arith, nat_tests)

pub flights_after :
    (w : World) (e : ℕ) (o : LocalAct) → ComesTo w e o
    → (wire (act w (AtEndpoint e o))).in_flight
    ≡ still_flying w.config.first (delivers o) (wire w).in_flight ++ newly_sent (wire w).next_message e (sends o) (said (w.part e) o)
flights_after w e o to =
    select_more w.messages (sends o) (flies (act w (AtEndpoint e o))) (flight_wire (act w (AtEndpoint e o))) (λ j l. new_flies w e o j l)
    ∙ ap₂ (λ xs ys. xs ++ ys)
    (select_seen w.messages (flies (act w (AtEndpoint e o))) (λ c. flies w c && is_left (delivers o) c) (flight_wire (act w (AtEndpoint e o))) (flight_wire w)
    (λ c l. old_flies w e o c to l) (λ c l t. old_flight w e o c l)
    ∙ left_are w (delivers o))
    (tabulate_same (sends o) (λ j. flight_wire (act w (AtEndpoint e o)) (w.messages + j))
    (λ j. record { number = number w.config.first w.messages + j; endpoint = e; message = said (w.part e) o }) (λ j l. new_flight w e o j l))
