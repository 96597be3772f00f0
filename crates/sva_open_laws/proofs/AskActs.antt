-- A translation request that is sent, and a use that ends, are acts of the open world.
use Rattle.std.proofs.Common.{◌≡◌, ◌≢◌, ◌⊎◌, inl, inr, refl, ap, ap₂, sym, subst, ◌∙◌, ℕ, suc, ◌+◌, ◌<◌, Bool, true, false, arith}
use Rattle.std.specs.Prelude.{◌&&◌, List, [], ◌∷◌, ◌++◌, Option, Some, None, is_none, option_map, length, position, remove, slice_get, slice_set}
use Rattle.std.proofs.lemmas.List.{append_assoc, append-nil}
use Rattle.sva_model.specs.Words.{tabulate}
use Rattle.sva_model.specs.State.{Subject, Phase, Endpoint, World}
use Rattle.sva_model.specs.State.PasidState.{On}
use Rattle.sva_model.specs.State.Phase.{Open, ResetSent, Cleared}
use Rattle.sva_model.specs.State.RequestState.{Out}
use Rattle.sva_model.specs.State.UseState.{Running, Ended}
use Rattle.sva_model.specs.State.Subject.{StartOf, StopOf, FunctionReset, CompletionOf, InvalidateOf, ResponseOf, RequestOf, InvalidatedOf}
use Rattle.sva_model.specs.State.Subject.{PageRequestOf, MarkerOf, ResetDone}
use Rattle.sva_model.specs.States.{is_running}
use Rattle.sva_model.specs.Acts.{LocalAct, act, act_alone}
use Rattle.sva_model.specs.Acts.Act.{AtEndpoint}
use Rattle.sva_model.specs.Labels
use Rattle.sva_labels.proofs.Lists.{tabulate_set}
use Rattle.sva_labels.proofs.Words.{ℕ_cases, put-same, put-other}
use Rattle.sva_laws.proofs.Invariant.{Invariant}
use Rattle.sva_open.specs.declared.acts.Act.TheVariants as doing
use Rattle.sva_open.specs.declared.acts.LocalAct.TheVariants as local
use Rattle.sva_open.specs.declared.messages.Message.TheVariants as message
use Rattle.sva_open.specs.declared.messages.Sent.{Sent as Flying}
use Rattle.sva_open.specs.declared.works.Request.{Request}
use Rattle.sva_open.specs.declared.works.Work.{Work}
use Rattle.sva_open.specs.World.{Part, if_so, is_used, place_or_end, put_at, sent}
use Rattle.sva_open.specs.Acts.{next_open}
use Rattle.sva_open.specs.Devices as device_acts
use Rattle.sva_open_laws.specs.AsActs.{place_of_use}
use Rattle.sva_open_laws.specs.AsOpen.{flying_of, gather, if_there, is_doomed, one, open_of, owner_of, part_of, request_of, time_by, time_of}
use Rattle.sva_open_laws.specs.AsOpen.{translation_of, use_of, user_by, user_of, where_so}
use Rattle.sva_open_laws.proofs.ActParts.{IsSameRequest, OfRequest, at_one_endpoint, flying_same, seen, unseen}
use Rattle.sva_open_laws.proofs.DeviceActs.{all_taken, calm, held_at, quiet, row_there, state_is, user_is, uses_at}
use Rattle.sva_open_laws.proofs.GatherLists.{Split, first_free, gather_next, gather_one_more, gather_same, get_at, length_so, remove_at, split}
use Rattle.sva_open_laws.proofs.Usable.{out_low, run_low}

-- ---- To end a use

module _ (w : World) (e u : ℕ) (i : Invariant w) (low : e < w.config.endpoints) where
  abbrev ended : Endpoint
  ended = act_alone (w.part e) w.messages (LocalAct.End u)

  others : (k : ℕ) → k ≢ u → uses_at w.mappings ended k ≡ uses_at w.mappings (w.part e) k
  others k ne = ap (λ x. where_so (is_running x) (use_of w.mappings (w.part e) k)) (put-other (w.part e).use_state u Ended k ne)

  its_gone : uses_at w.mappings ended u ≡ []
  its_gone = ap (λ x. where_so (is_running x) (use_of w.mappings (w.part e) u)) (put-same (w.part e).use_state u Ended)

  its_part : part_of (act w (AtEndpoint e (LocalAct.End u))) e ended
      ≡ record (part_of w e (w.part e)) { works = gather (w.part e).uses (uses_at w.mappings ended) ++ all_taken (w.part e) }
  its_part = quiet w e (w.part e) ended (λ k l. (i.parts e).resets.unsent k l)

  pub ends : (w.part e).use_state u ≡ Running
      → next_open (open_of w) (doing.At e (local.End (place_of_use (w.part e) u))) ≡ Some (open_of (act w (AtEndpoint e (LocalAct.End u))))
  ends runs =
      at_one_endpoint w e (LocalAct.End u) i low (calm p w.messages (LocalAct.End u) refl refl) (local.End (place_of_use p u))
      (record (part_of w e p) { works = gather p.uses (uses_at w.mappings ended) ++ all_taken p }) its_part
      (ap (λ k. device_acts.end_use (part_of w e p) k (slice_get (part_of w e p).works k))
      (sym (length_so u (λ k. is_running (p.use_state k)) (use_of w.mappings p)))
      ∙ ap (device_acts.end_use (part_of w e p) (length before)) (ap (λ z. slice_get z (length before)) whole ∙ get_at before its (s.behind ++ all_taken p))
      ∙ ap (λ z. Some (record (part_of w e p) { works = z }))
      (ap (λ z. remove z (length before)) whole ∙ remove_at before its (s.behind ++ all_taken p)
      ∙ sym (append_assoc before s.behind (all_taken p)) ∙ ap (λ z. z ++ all_taken p) (sym s.rest)))
    where
      p : Endpoint
      p = w.part e

      its : Work
      its = use_of w.mappings (w.part e) u

      before : List Work
      before = gather u (uses_at w.mappings (w.part e))

      s : Split p.uses (uses_at w.mappings p) (uses_at w.mappings ended) u its
      s =
          split p.uses (uses_at w.mappings p) (uses_at w.mappings ended) u its (run_low p u ((i.parts e).bounds.use_state u) runs)
          (ap (λ x. where_so (is_running x) (use_of w.mappings p u)) runs) its_gone others

      whole : (part_of w e p).works ≡ before ++ its ∷ (s.behind ++ all_taken p)
      whole = ap (λ z. z ++ all_taken p) s.whole ∙ append_assoc before (its ∷ s.behind) (all_taken p)

  -- one that a reset has ended is there no more
  pub ends_none : is_running ((w.part e).use_state u) ≡ false → open_of w ≡ open_of (act w (AtEndpoint e (LocalAct.End u)))
  ends_none dead =
      unseen w e (LocalAct.End u) i low (calm (w.part e) w.messages (LocalAct.End u) refl refl)
      (its_part
      ∙ ap (λ z. record (part_of w e (w.part e)) { works = z ++ all_taken (w.part e) })
      (gather_same (w.part e).uses (uses_at w.mappings ended) (uses_at w.mappings (w.part e)) (λ k l. each k (ℕ_cases k u))))
    where
      each : (k : ℕ) → (k ≡ u) ⊎ (k ≢ u) → uses_at w.mappings ended k ≡ uses_at w.mappings (w.part e) k
      each k (inl same) =
          subst (λ z. uses_at w.mappings ended z ≡ uses_at w.mappings (w.part e) z) (sym same)
          (its_gone ∙ sym (ap (λ x. where_so x (use_of w.mappings (w.part e) u)) dead))
      each k (inr ne) = others k ne

-- ---- To ask

abbrev asking : (pasid page owner : ℕ) → (doomed : Bool) → Request
asking pasid page owner doomed = record { pasid = pasid; page = page; owner = owner; is_doomed = doomed; noted = None }

abbrev flown : (tag pasid page owner number : ℕ) → List Flying
flown tag pasid page owner number = one owner number (message.Request tag pasid page)

module _ (w : World) (e t q : ℕ) (i : Invariant w) (low : e < w.config.endpoints)
    (bears : (w.part e).at_pasid t ≡ Some (Labels.bearer (w.part e) t))
    (on : (w.part e).pasid_state (Labels.bearer (w.part e) t) ≡ On)
    (free : (w.part e).at_tag (Labels.lowest_label 32 (w.part e).at_tag) ≡ None)
    (tag_low : Labels.lowest_label 32 (w.part e).at_tag < 32) where
  abbrev p : Endpoint
  p = w.part e

  abbrev b : ℕ
  b = Labels.bearer (w.part e) t

  abbrev tag : ℕ
  tag = Labels.lowest_label 32 (w.part e).at_tag

  abbrev asked : Endpoint
  asked = act_alone (w.part e) w.messages (LocalAct.Ask b q tag)

  pasid_is : (w.part e).pasid b ≡ t
  pasid_is = ((i.parts e).labels.pasid_bears t b bears).0

  time_is : time_of (w.part e) ≡ (w.part e).resets
  time_is = go (w.part e).phase refl
    where
      go : (x : Phase) → (w.part e).phase ≡ x → time_by x (w.part e).resets ≡ (w.part e).resets
      go Open h = refl
      go (ResetSent c) h = refl
      go (Cleared c) h = absurd (cc (sym on ∙ (i.parts e).resets.off c b h))

  older : (k : ℕ) → k < p.requests → k ≢ p.requests
  older k l same = absurd (omega (arith, same, l))

  new_request : request_of asked p.requests ≡ asking t q (owner_of p b) false
  new_request =
      ap (λ z. asking (p.pasid z) (asked.request_page p.requests) (owner_of p z) (is_doomed (asked.request p.requests)))
      (put-same p.request_binding p.requests b)
      ∙ ap₂ (λ y x. asking (p.pasid b) y (owner_of p b) (is_doomed x)) (put-same p.request_page p.requests q) (put-same p.request p.requests Out)
      ∙ ap (λ z. asking z q (owner_of p b) false) pasid_is

  old_request : (k : ℕ) → k < p.requests → request_of asked k ≡ request_of p k
  old_request k l =
      ap (λ z. asking (p.pasid z) (asked.request_page k) (owner_of p z) (is_doomed (asked.request k)))
      (put-other p.request_binding p.requests b k (older k l))
      ∙ ap₂ (λ y x. asking (p.pasid (p.request_binding k)) y (owner_of p (p.request_binding k)) (is_doomed x))
      (put-other p.request_page p.requests q k (older k l)) (put-other p.request p.requests Out k (older k l))

  requests : tabulate 32 (λ x. option_map (request_of asked) (asked.at_tag x))
      ≡ slice_set (part_of w e p).requests tag (Some (asking t q (owner_of p b) false))
  requests =
      tabulate_set 32 (λ x. option_map (request_of p) (p.at_tag x)) (λ x. option_map (request_of asked) (asked.at_tag x)) tag
      (Some (asking t q (owner_of p b) false))
      (ap (option_map (request_of asked)) (put-same p.at_tag tag (Some p.requests)) ∙ ap Some new_request)
      (λ k ne. ap (option_map (request_of asked)) (put-other p.at_tag tag (Some p.requests) k ne) ∙ at k (p.at_tag k) refl)
    where
      at : (k : ℕ) (o : Option ℕ) → p.at_tag k ≡ o → option_map (request_of asked) o ≡ option_map (request_of p) o
      at k None h = refl
      at k (Some r) h = ap Some (old_request r (out_low p r ((i.parts e).bounds.request r) ((i.parts e).labels.tag_bears k r h).1))

  held : gather (suc p.requests) (held_at w.mappings asked) ≡ (part_of w e p).held
  held =
      gather_next p.requests (held_at w.mappings asked)
      ∙ ap₂ (λ xs ys. xs ++ ys)
      (gather_same p.requests (held_at w.mappings asked) (held_at w.mappings p)
      (λ k l. ap₂ (λ d y. if_there (option_map (translation_of w.mappings p d y) (p.held k)))
      (put-other p.request_binding p.requests b k (older k l)) (put-other p.request_page p.requests q k (older k l))))
      (ap (λ o. if_there (option_map (translation_of w.mappings asked (asked.request_binding p.requests) (asked.request_page p.requests)) o))
      ((i.parts e).bounds.held p.requests (omega arith)))
      ∙ append-nil (gather p.requests (held_at w.mappings p))

  flight : gather (w.messages + 1) (λ c. flying_of w.mappings asked (asked.message c))
      ≡ (part_of w e p).flight ++ flown tag t q (owner_of p b) p.resets
  flight =
      gather_one_more w.messages (λ c. flying_of w.mappings asked (asked.message c))
      ∙ ap₂ (λ xs ys. xs ++ ys)
      (gather_same w.messages (λ c. flying_of w.mappings asked (asked.message c)) (λ c. flying_of w.mappings p (p.message c))
      (λ c l. ap (flying_of w.mappings asked) (put-other p.message w.messages (Some (RequestOf p.requests)) c (λ same. absurd (omega (arith, same, l))))
      ∙ flying_same w.mappings p asked (p.message c) (named c (p.message c) refl)))
      (ap (flying_of w.mappings asked) (put-same p.message w.messages (Some (RequestOf p.requests)))
      ∙ ap (λ z. flown (asked.request_tag p.requests) (p.pasid z) (asked.request_page p.requests) (owner_of p z) p.resets)
      (put-same p.request_binding p.requests b)
      ∙ ap₂ (λ x y. flown x (p.pasid b) y (owner_of p b) p.resets) (put-same p.request_tag p.requests tag) (put-same p.request_page p.requests q)
      ∙ ap (λ z. flown tag z q (owner_of p b) p.resets) pasid_is)
    where
      same_request : (k : ℕ) → k < p.requests → IsSameRequest p asked k
      same_request k l = (
        put-other p.request_binding p.requests b k (older k l),
        put-other p.request_page p.requests q k (older k l),
        put-other p.request_tag p.requests tag k (older k l),
      )

      named : (c : ℕ) (o : Option Subject) → p.message c ≡ o → OfRequest (IsSameRequest p asked) o
      named c None h = tt
      named c (Some (StartOf d)) h = tt
      named c (Some (StopOf d)) h = tt
      named c (Some FunctionReset) h = tt
      named c (Some (CompletionOf r found)) h = same_request r ((i.parts e).bounds.answered c r found h)
      named c (Some (InvalidateOf k)) h = tt
      named c (Some (ResponseOf g code)) h = tt
      named c (Some (RequestOf r)) h = same_request r ((i.parts e).bounds.asked c r h)
      named c (Some (InvalidatedOf names)) h = tt
      named c (Some (PageRequestOf r)) h = tt
      named c (Some (MarkerOf d)) h = tt
      named c (Some ResetDone) h = tt

  abbrev asked_part : Part
  asked_part =
      record (part_of w e (w.part e)) {
        requests = slice_set (part_of w e (w.part e)).requests tag (Some (asking t q (owner_of (w.part e) b) false));
        flight = (part_of w e (w.part e)).flight ++ flown tag t q (owner_of (w.part e) b) (w.part e).resets;
      }

  sees : part_of (act w (AtEndpoint e (LocalAct.Ask b q tag))) e asked ≡ asked_part
  sees =
      seen w e (w.messages + 1) p asked
      ∙ ap (λ z. record (part_of w e p) {
        requests = z;
        held = gather (suc p.requests) (held_at w.mappings asked);
        flight = gather (w.messages + 1) (λ c. flying_of w.mappings asked (asked.message c));
      }) requests
      ∙ ap₂ (λ hs fs. record (part_of w e p) {
        requests = slice_set (part_of w e p).requests tag (Some (asking t q (owner_of p b) false));
        held = hs;
        flight = fs;
      }) held flight

  -- the request of an owner, at a place, sent at a time
  abbrev sent_by : (owner : ℕ) → Option ℕ → (time : ℕ) → Part
  sent_by owner place time =
      sent (record (part_of w e (w.part e)) { requests = put_at (part_of w e (w.part e)).requests (asking t q owner false) place }) owner time
      (message.Request (place_or_end (part_of w e (w.part e)).requests place) t q)

  pub asks : next_open (open_of w) (doing.At e (local.Ask t q)) ≡ Some (open_of (act w (AtEndpoint e (LocalAct.Ask b q tag))))
  asks =
      at_one_endpoint w e (LocalAct.Ask b q tag) i low (calm p w.messages (LocalAct.Ask b q tag) refl refl) (local.Ask t q) asked_part sees
      (ap (device_acts.ask (part_of w e p) t q) (row_there w e t i bears on)
      ∙ ap (λ x. if_so (is_used x && (true && true))
      (sent_by (user_by p (user_of w.bindings p t)) (position is_none (part_of w e p).requests) (time_of p))) (state_is w e t i bears on)
      ∙ ap (λ o. Some (sent_by (user_by p o) (position is_none (part_of w e p).requests) (time_of p))) (user_is w e t i bears on)
      ∙ ap (λ o. Some (sent_by (owner_of p b) o (time_of p))) (first_free 32 p.at_tag (request_of p) tag_low free)
      ∙ ap (λ k. Some (sent_by (owner_of p b) (Some tag) k)) time_is)
