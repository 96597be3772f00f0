-- The answer to a translation request that comes to its endpoint is an act of the open world: its delivery.
use Rattle.std.proofs.Common.{◌≡◌, ◌≢◌, ◌⊎◌, inl, inr, refl, ap, ap₂, sym, ◌∙◌, ℕ, ◌+◌, ◌<◌, Bool, true, false}
use Rattle.std.specs.Prelude.{◌++◌, Option, Some, None, option_map, remove, slice_get, slice_set}
use Rattle.sva_model.specs.Words.{tabulate}
use Rattle.sva_model.specs.State.{Endpoint, Phase, World}
use Rattle.sva_model.specs.State.Phase.{Open, ResetSent, Cleared}
use Rattle.sva_model.specs.State.RequestState.{Over}
use Rattle.sva_model.specs.State.Subject.{CompletionOf}
use Rattle.sva_model.specs.States.{is_out, is_running}
use Rattle.sva_model.specs.Acts.{LocalAct, act, act_alone}
use Rattle.sva_model.specs.Acts.Act.{AtEndpoint}
use Rattle.sva_model.specs.Labels.{is_permitted}
use Rattle.sva_labels.proofs.Lists.{tabulate_set}
use Rattle.sva_labels.proofs.Words.{put-same, put-other}
use Rattle.sva_laws.proofs.Invariant.{Invariant}
use Rattle.sva_laws.proofs.Requests.{is_cleared}
use Rattle.sva_search.proofs.Once.{contains_at}
use Rattle.sva_open.specs.declared.acts.Act.TheVariants as doing
use Rattle.sva_open.specs.declared.acts.LocalAct.TheVariants as local
use Rattle.sva_open.specs.declared.frames.Target.{Target}
use Rattle.sva_open.specs.declared.messages.Message.TheVariants as message
use Rattle.sva_open.specs.declared.messages.Sent.{Sent as Flying}
use Rattle.sva_open.specs.declared.works.Request.{Request}
use Rattle.sva_open.specs.World.{Part, if_so}
use Rattle.sva_open.specs.Acts.{next_open}
use Rattle.sva_open.specs.Devices.{complete, held_after}
use Rattle.sva_open.specs.Links.{deliver, taken_in, without_sent}
use Rattle.sva_open_laws.specs.AsOpen.{flying_of, gather, is_doomed, open_of, owner_of, part_of, request_of, taken_of, target_of}
use Rattle.sva_open_laws.specs.AsOpen.{use_of, where_so}
use Rattle.sva_open_laws.specs.LinkOrders.{IsDeliveredAlike, place_of_message}
use Rattle.sva_open_laws.specs.Queues.{shown}
use Rattle.sva_open_laws.proofs.ActParts.{at_one_endpoint}
use Rattle.sva_open_laws.proofs.DeviceActs.{calm}
use Rattle.sva_open_laws.proofs.Gathered.{mapped_some, tabulate_get, tabulated}
use Rattle.sva_open_laws.proofs.GatherLists.{gather_same}
use Rattle.sva_open_laws.proofs.LinkLists.{delivered_alike}
use Rattle.sva_open_laws.proofs.PumpActs.{its_itags}
use Rattle.sva_open_laws.proofs.TakeActs.{flight_left}
use Rattle.sva_open_laws.proofs.UnitParts.{flying_same, seen, taken_same}

module _ (w : World) (e c r : ℕ) (found_there : Option ℕ) (i : Invariant w) (low : e < w.config.endpoints)
    (speaks : (w.part e).message c ≡ Some (CompletionOf r found_there))
    (permitted : is_permitted (w.part e) c (CompletionOf r found_there) ≡ true) where
  abbrev p : Endpoint
  p = w.part e

  abbrev tag : ℕ
  tag = (w.part e).request_tag r

  abbrev target : Option Target
  target = option_map (target_of w.mappings) found_there

  abbrev pub its : Flying
  its =
      record {
        message = message.Completion ((w.part e).request_tag r) ((w.part e).request_page r) target;
        owner = owner_of (w.part e) ((w.part e).request_binding r);
        number = (w.part e).resets;
      }

  abbrev place : ℕ
  place = place_of_message w.mappings (w.part e) c

  abbrev pub without_it : Part
  without_it = without_sent (shown w e) place

  alike : IsDeliveredAlike w e c (CompletionOf r found_there) its
  alike = delivered_alike w e c (CompletionOf r found_there) its i speaks (λ h. absurd (cc)) refl

  -- what it comes to in the open world
  pub comes : (o : LocalAct) (v : Part) → (act_alone p w.messages o).order_state ≡ p.order_state → (act_alone p w.messages o).resets ≡ p.resets
      → part_of (act w (AtEndpoint e o)) e (act_alone p w.messages o) ≡ v
      → complete without_it tag target (slice_get (shown w e).requests tag) ≡ v
      → next_open (open_of w) (doing.At e (local.Deliver place)) ≡ Some (open_of (act w (AtEndpoint e o)))
  comes o v states resets sees is =
      at_one_endpoint w e o i low (calm p w.messages o states resets) (local.Deliver place) v sees
      (ap (deliver (open_of w).settings (open_of w).mappings (shown w e) place) alike.stands
      ∙ ap (λ b. if_so b (taken_in (open_of w).settings (open_of w).mappings without_it its)) (alike.permitted ∙ permitted)
      ∙ ap Some is)

  -- ---- A request that is out

  module _ (out : is_out ((w.part e).request r) ≡ true) where
    abbrev forgotten : Endpoint
    forgotten = act_alone (w.part e) w.messages (LocalAct.Forget c r)

    pub there : slice_get (shown w e).requests tag ≡ Some (Some (request_of p r))
    there =
        let at = (i.parts e).labels.bears_tag r out in
        tabulate_get 32 (λ t. option_map (request_of p) (p.at_tag t)) tag ((i.parts e).labels.tag_low tag r at)
        ∙ ap (λ o. Some (option_map (request_of p) o)) at

    pub over_now : tabulate 32 (λ t. option_map (request_of forgotten) (forgotten.at_tag t)) ≡ slice_set (shown w e).requests tag None
    over_now =
        tabulate_set 32 (λ t. option_map (request_of p) (p.at_tag t)) (λ t. option_map (request_of forgotten) (forgotten.at_tag t)) tag None
        (ap (option_map (request_of forgotten)) (put-same p.at_tag tag None))
        (λ t ne. ap (option_map (request_of forgotten)) (put-other p.at_tag tag None t ne) ∙ other t ne (p.at_tag t) refl)
      where
        other : (t : ℕ) → t ≢ tag → (o : Option ℕ) → p.at_tag t ≡ o → option_map (request_of forgotten) o ≡ option_map (request_of p) o
        other t ne None h = refl
        other t ne (Some x) h =
            ap (λ s. Some (record (request_of p x) { is_doomed = is_doomed s }))
            (put-other p.request r Over x (λ same. ne (sym ((i.parts e).labels.tag_bears t x h).0 ∙ ap p.request_tag same)))

    sees : part_of (record w { messages = w.messages + 0 }) e forgotten
        ≡ record (shown w e) { requests = slice_set (shown w e).requests tag None; flight = remove (shown w e).flight place }
    sees =
        seen w e (w.messages + 0) p forgotten
        ∙ ap₂ (λ rs ts. record (shown w e) {
          requests = rs;
          works = gather p.uses (λ u. where_so (is_running (p.use_state u)) (use_of w.mappings p u)) ++ ts;
          flight = gather (w.messages + 0) (λ d. flying_of w.mappings forgotten (forgotten.message d));
        }) over_now
        (gather_same p.orders (λ k. taken_of forgotten (p.order_state k) k) (λ k. taken_of p (p.order_state k) k)
        (λ k l. taken_same p forgotten (p.order_state k) k refl))
        ∙ ap (λ fs. record (shown w e) { requests = slice_set (shown w e).requests tag None; flight = fs })
        (flight_left w e c forgotten (CompletionOf r found_there) its i speaks refl
        (λ d. flying_same w.mappings p forgotten (p.message d) (its_itags p (p.message d)))
        (λ d ne. put-other p.message c None d ne) (put-same p.message c None))

    -- with nothing found, or doomed
    pub forgets : (is_doomed ((w.part e).request r) ≡ true) ⊎ (found_there ≡ None)
        → next_open (open_of w) (doing.At e (local.Deliver place)) ≡ Some (open_of (act w (AtEndpoint e (LocalAct.Forget c r))))
    forgets why =
        comes (LocalAct.Forget c r)
        (record (shown w e) { requests = slice_set (shown w e).requests tag None; flight = remove (shown w e).flight place }) refl refl
        sees
        (ap (complete without_it tag target) there
        ∙ ap (λ hs. record without_it { requests = slice_set (shown w e).requests tag None; held = hs }) (by why))
      where
        lost : (o : Option Target) (b : Bool) → b ≡ true
            → held_after (shown w e).held (record (request_of p r) { is_doomed = b }) o ≡ (shown w e).held
        lost None b h = refl
        lost (Some x) true h = refl
        lost (Some x) false h = absurd (cc)

        by : (is_doomed (p.request r) ≡ true) ⊎ (found_there ≡ None)
            → held_after (shown w e).held (request_of p r) target ≡ (shown w e).held
        by (inl h) = lost target (is_doomed (p.request r)) h
        by (inr h) = ap (λ o. held_after (shown w e).held (request_of p r) (option_map (target_of w.mappings) o)) h

  -- ---- A request that a reset has ended

  pub ignores : (w.part e).request r ≡ Over
      → next_open (open_of w) (doing.At e (local.Deliver place)) ≡ Some (open_of (act w (AtEndpoint e (LocalAct.Ignore c))))
  ignores is =
      comes (LocalAct.Ignore c) without_it refl refl
      (seen w e (w.messages + 0) p ignored
      ∙ ap₂ (λ ts fs. record (shown w e) {
        works = gather p.uses (λ u. where_so (is_running (p.use_state u)) (use_of w.mappings p u)) ++ ts;
        flight = fs;
      })
      (gather_same p.orders (λ k. taken_of ignored (p.order_state k) k) (λ k. taken_of p (p.order_state k) k)
      (λ k l. taken_same p ignored (p.order_state k) k refl))
      (flight_left w e c ignored (CompletionOf r found_there) its i speaks refl
      (λ d. flying_same w.mappings p ignored (p.message d) (its_itags p (p.message d)))
      (λ d ne. put-other p.message c None d ne) (put-same p.message c None)))
      (none (slice_get (shown w e).requests tag) refl)
    where
      ignored : Endpoint
      ignored = act_alone (w.part e) w.messages (LocalAct.Ignore c)

      cleared_by : (x : Phase) → p.phase ≡ x → is_cleared x ≡ true → (z : ℕ) → is_out (p.request z) ≡ false
      cleared_by Open h k z = absurd (cc)
      cleared_by (ResetSent d) h k z = absurd (cc)
      cleared_by (Cleared d) h k z = (i.parts e).resets.over d z h

      cleared : (b : Bool) → is_cleared p.phase ≡ b → is_cleared p.phase ≡ true
      cleared true h = h
      cleared false h = absurd (cc (sym (ap is_out is) ∙ (i.parts e).requests.answer_out c r found_there speaks h))

      none : (o : Option (Option Request)) → slice_get (shown w e).requests tag ≡ o → complete without_it tag target o ≡ without_it
      none None h = refl
      none (Some None) h = refl
      none (Some (Some x)) h =
          let at = tabulated 32 (λ t. option_map (request_of p) (p.at_tag t)) (Some x) (contains_at (shown w e).requests tag (Some x) h) in
          let y = mapped_some (request_of p) (p.at_tag at.0) x at.2 in
          absurd (cc (sym ((i.parts e).labels.tag_bears at.0 y.0 y.1).1 ∙ cleared_by p.phase refl (cleared (is_cleared p.phase) refl) y.0))
