-- A translation that comes to its endpoint, and is held from then on, is an act of the open world: its delivery.
use Rattle.std.proofs.Common.{◌≡◌, ◌≢◌, refl, ap, ap₂, ◌∙◌, ℕ, ◌+◌, ◌<◌, Bool, true, false, arith}
use Rattle.std.specs.Prelude.{◌==◌, ◌&&◌, not, if◌then◌else◌, List, [], ◌∷◌, ◌++◌, Option, Some, None, option_map, filter, remove, slice_set}
use Rattle.std.proofs.lemmas.Bool.{and_from, eq-eqb}
use Rattle.sva_model.specs.Words.{is_some}
use Rattle.sva_model.specs.State.{Endpoint, World}
use Rattle.sva_model.specs.State.RequestState.{Out}
use Rattle.sva_model.specs.State.Subject.{CompletionOf}
use Rattle.sva_model.specs.StateChanges.{is_replaced, none_if}
use Rattle.sva_model.specs.States.{is_out, is_running, is_unreleased}
use Rattle.sva_model.specs.Acts.{LocalAct, act, act_alone}
use Rattle.sva_model.specs.Acts.Act.{AtEndpoint}
use Rattle.sva_model.specs.Labels.{is_permitted}
use Rattle.sva_labels.proofs.Words.{none_is, put-same, put-other}
use Rattle.sva_laws.proofs.Found.{found}
use Rattle.sva_laws.proofs.Invariant.{Invariant}
use Rattle.sva_open.specs.declared.acts.Act.TheVariants as doing
use Rattle.sva_open.specs.declared.acts.LocalAct.TheVariants as local
use Rattle.sva_open.specs.declared.frames.Translation.{Translation}
use Rattle.sva_open.specs.World.{is_other, with_translation}
use Rattle.sva_open.specs.Acts.{next_open}
use Rattle.sva_open.specs.Devices.{complete, held_after}
use Rattle.sva_open_laws.specs.AsOpen.{flying_of, gather, if_there, is_doomed, open_of, request_of, taken_of, target_of}
use Rattle.sva_open_laws.specs.AsOpen.{translation_of, use_of, where_so}
use Rattle.sva_open_laws.specs.LinkOrders.{place_of_message}
use Rattle.sva_open_laws.specs.Queues.{shown}
use Rattle.sva_open_laws.proofs.AnswerActs.{comes, its, over_now, there, without_it}
use Rattle.sva_open_laws.proofs.Covered.{same_owner}
use Rattle.sva_open_laws.proofs.DeviceActs.{held_at}
use Rattle.sva_open_laws.proofs.GatherLists.{gather_same}
use Rattle.sva_open_laws.proofs.PumpActs.{its_itags}
use Rattle.sva_open_laws.proofs.StrikeActs.{filter_gather}
use Rattle.sva_open_laws.proofs.TakeActs.{flight_left}
use Rattle.sva_open_laws.proofs.UnitLists.{gather_end}
use Rattle.sva_open_laws.proofs.UnitParts.{flying_same, seen, taken_same}

module _ (w : World) (e c r m : ℕ) (i : Invariant w) (low : e < w.config.endpoints)
    (speaks : (w.part e).message c ≡ Some (CompletionOf r (Some m)))
    (permitted : is_permitted (w.part e) c (CompletionOf r (Some m)) ≡ true)
    (out : (w.part e).request r ≡ Out)
    (none_newer : (j : ℕ) → r < j → j < (w.part e).requests → is_some ((w.part e).held j) ≡ false) where
  abbrev p : Endpoint
  p = w.part e

  abbrev kept : Endpoint
  kept = act_alone (w.part e) w.messages (LocalAct.Keep c r m)

  abbrev place : ℕ
  place = place_of_message w.mappings (w.part e) c

  -- what is held from then on
  abbrev it : Translation
  it = translation_of w.mappings (w.part e) ((w.part e).request_binding r) ((w.part e).request_page r) m

  is_its_out : is_out (p.request r) ≡ true
  is_its_out = ap is_out out

  unreleased : is_unreleased (p.stage (p.request_binding r)) ≡ true
  unreleased = ((found w e i).out r is_its_out).0.unreleased

  abbrev shown_as : ℕ → Option ℕ → List Translation
  shown_as x o = if_there (option_map (translation_of w.mappings (w.part e) ((w.part e).request_binding x) ((w.part e).request_page x)) o)

  -- another of its binding and page goes
  one_left : (x : ℕ) (o : Option ℕ) → p.held x ≡ o → shown_as x (none_if (is_replaced p r x) o) ≡ filter (is_other it) (shown_as x o)
  one_left x None h = by (is_replaced p r x)
    where
      by : (b : Bool) → shown_as x (none_if b None) ≡ []
      by true = refl
      by false = refl
  one_left x (Some y) h =
      by (is_replaced p r x)
      ∙ ap (λ b. if not (b && p.request_page x == p.request_page r) then t ∷ [] else [])
      (sym_of ((p.request_binding x) == (p.request_binding r)) (p.pasid (p.request_binding x) == p.pasid (p.request_binding r))
      (same_owner w e (p.request_binding r) 0 i unreleased (p.request_binding x) ((found w e i).cached x y h).unreleased))
    where
      t : Translation
      t = translation_of w.mappings p (p.request_binding x) (p.request_page x) y

      sym_of : (a b : Bool) → b ≡ a → a ≡ b
      sym_of a b h = cc

      by : (b : Bool) → shown_as x (none_if b (Some y)) ≡ (if not b then t ∷ [] else [])
      by true = refl
      by false = refl

  held_now : gather p.requests (held_at w.mappings kept) ≡ with_translation (shown w e).held it
  held_now =
      gather_end p.requests (λ x. filter (is_other it) (held_at w.mappings p x)) (held_at w.mappings kept) r it
      ((i.parts e).bounds.answered c r (Some m) speaks) (own (p.held r))
      (ap (shown_as r) (put-same (λ x. none_if (is_replaced p r x) (p.held x)) r (Some m)))
      (λ j l. other j (λ same. absurd (omega (arith, same, l))))
      (λ j l k. ap (λ o. filter (is_other it) (shown_as j o)) (none_is (p.held j) (none_newer j l k)))
      (λ j l k.
      other j (λ same. absurd (omega (arith, same, l)))
      ∙ ap (λ o. filter (is_other it) (shown_as j o)) (none_is (p.held j) (none_newer j l k)))
      ∙ ap (λ hs. hs ++ it ∷ []) (turned (filter_gather (is_other it) p.requests (held_at w.mappings p)))
    where
      turned : {xs ys : List Translation} → xs ≡ ys → ys ≡ xs
      turned h = cc

      -- what it had brought before
      own : (o : Option ℕ) → filter (is_other it) (shown_as r o) ≡ []
      own None = refl
      own (Some y) =
          ap (λ b. if not b then (translation_of w.mappings p (p.request_binding r) (p.request_page r) y) ∷ [] else [])
          (and_from (p.pasid (p.request_binding r) == p.pasid (p.request_binding r)) (p.request_page r == p.request_page r)
          (eq-eqb (p.pasid (p.request_binding r)) (p.pasid (p.request_binding r)) refl) (eq-eqb (p.request_page r) (p.request_page r) refl))

      other : (j : ℕ) → j ≢ r → held_at w.mappings kept j ≡ filter (is_other it) (held_at w.mappings p j)
      other j ne = ap (shown_as j) (put-other (λ x. none_if (is_replaced p r x) (p.held x)) r (Some m) j ne) ∙ one_left j (p.held j) refl

  pub keeps : next_open (open_of w) (doing.At e (local.Deliver (place_of_message w.mappings (w.part e) c)))
      ≡ Some (open_of (act w (AtEndpoint e (LocalAct.Keep c r m))))
  keeps =
      let tag = p.request_tag r in
      comes w e c r (Some m) i low speaks permitted (LocalAct.Keep c r m)
      (record (shown w e) {
        requests = slice_set (shown w e).requests tag None;
        held = with_translation (shown w e).held it;
        flight = remove (shown w e).flight place;
      }) refl refl
      (seen w e (w.messages + 0) p kept
      ∙ ap₂ (λ rs hs. record (shown w e) {
        requests = rs;
        held = hs;
        works = gather p.uses (λ u. where_so (is_running (p.use_state u)) (use_of w.mappings p u))
            ++ gather p.orders (λ k. taken_of kept (p.order_state k) k);
        flight = gather (w.messages + 0) (λ d. flying_of w.mappings kept (kept.message d));
      }) (over_now w e c r (Some m) i low speaks permitted is_its_out) held_now
      ∙ ap₂ (λ ts fs. record (shown w e) {
        requests = slice_set (shown w e).requests tag None;
        held = with_translation (shown w e).held it;
        works = gather p.uses (λ u. where_so (is_running (p.use_state u)) (use_of w.mappings p u)) ++ ts;
        flight = fs;
      })
      (gather_same p.orders (λ k. taken_of kept (p.order_state k) k) (λ k. taken_of p (p.order_state k) k)
      (λ k l. taken_same p kept (p.order_state k) k refl))
      (flight_left w e c kept (CompletionOf r (Some m)) (its w e c r (Some m) i low speaks permitted) i speaks refl
      (λ d. flying_same w.mappings p kept (p.message d) (its_itags p (p.message d)))
      (λ d ne. put-other p.message c None d ne) (put-same p.message c None)))
      (ap (complete (without_it w e c r (Some m) i low speaks permitted) tag (Some (target_of w.mappings m)))
      (there w e c r (Some m) i low speaks permitted is_its_out)
      ∙ ap (λ b. record (shown w e) {
        requests = slice_set (shown w e).requests tag None;
        held = held_after (shown w e).held (record (request_of p r) { is_doomed = b }) (Some (target_of w.mappings m));
        flight = remove (shown w e).flight place;
      }) (ap is_doomed out))
