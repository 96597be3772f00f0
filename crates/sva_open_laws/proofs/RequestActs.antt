-- A translation request that comes to its unit is an act of the open world: its delivery.
use Rattle.std.proofs.Common.{◌≡◌, refl, ap, ap₂, sym, ◌∙◌, ℕ, suc, ◌+◌, ◌<◌, ◌≤◌, Bool, true, false, arith}
use Rattle.std.specs.Prelude.{◌==◌, if◌then◌else◌, List, [], ◌∷◌, ◌++◌, Option, Some, None, option_map, Contains, find, remove}
use Rattle.std.proofs.lemmas.Bool.{and_from, eqb-true, eq-eqb}
use Rattle.sva_model.specs.State.{Endpoint, MappingState, Mappings, World}
use Rattle.sva_model.specs.State.MappingState.{Present, Unmade}
use Rattle.sva_model.specs.State.Stage.{Unbound}
use Rattle.sva_model.specs.State.Subject.{CompletionOf, RequestOf}
use Rattle.sva_model.specs.States.{is_live_stage, is_open, is_present, is_running}
use Rattle.sva_model.specs.Acts.{LocalAct, act, act_alone}
use Rattle.sva_model.specs.Acts.Act.{AtEndpoint}
use Rattle.sva_model.specs.Claims.{IsBearer}
use Rattle.sva_model.specs.Labels.{is_permitted}
use Rattle.sva_model.specs.Message.{Message as Sending}
use Rattle.sva_model.specs.Outcomes.{found_for}
use Rattle.sva_labels.proofs.Tests.{first_holds, second_holds}
use Rattle.sva_labels.proofs.Words.{put-same, put-other}
use Rattle.sva_laws.specs.LabelLaws.{FindsMappings}
use Rattle.sva_laws.proofs.Found.{found, labelled}
use Rattle.sva_laws.proofs.Invariant.{Invariant}
use Rattle.sva_laws.proofs.Resets.{open_is}
use Rattle.sva_open.specs.declared.acts.Act.TheVariants as doing
use Rattle.sva_open.specs.declared.acts.LocalAct.TheVariants as local
use Rattle.sva_open.specs.declared.frames.Mapping.{Mapping}
use Rattle.sva_open.specs.declared.frames.Target.{Target}
use Rattle.sva_open.specs.declared.messages.Message.TheVariants as message
use Rattle.sva_open.specs.declared.messages.Sent.{Sent as Flying}
use Rattle.sva_open.specs.World.{Part, if_so, is_page, sent}
use Rattle.sva_open.specs.Acts.{next_open}
use Rattle.sva_open.specs.Links.{deliver, taken_in, without_sent}
use Rattle.sva_open.specs.Units as unit
use Rattle.sva_open_laws.specs.AsOpen.{entered_of, entry_of, flying_of, gather, mapping_of, one, open_of, owner_of, part_of, row_at, taken_of}
use Rattle.sva_open_laws.specs.AsOpen.{target_of, use_of, where_so}
use Rattle.sva_open_laws.specs.LinkOrders.{IsDeliveredAlike, place_of_message}
use Rattle.sva_open_laws.specs.Queues.{shown}
use Rattle.sva_open_laws.proofs.ActParts.{at_one_endpoint}
use Rattle.sva_open_laws.proofs.DeviceActs.{calm, never}
use Rattle.sva_open_laws.proofs.Gathered.{first_is, first_there, gathered, so_in, tabulate_get}
use Rattle.sva_open_laws.proofs.GatherLists.{Split, find_at, gather_one_more, gather_same, split}
use Rattle.sva_open_laws.proofs.LinkLists.{delivered_alike}
use Rattle.sva_open_laws.proofs.PumpActs.{its_itags}
use Rattle.sva_open_laws.proofs.Safety.{live_is}
use Rattle.sva_open_laws.proofs.TakeActs.{flight_left}
use Rattle.sva_open_laws.proofs.UnitParts.{flying_same, seen, taken_same}

-- ---- What memory has of a page

find_nothing : {A : Type 0} (q : A → Bool) (xs : List A) → ((x : A) → Contains xs x → q x ≡ false) → find q xs ≡ None
find_nothing q [] none = refl
find_nothing q (x ∷ xs) none =
    ap (λ (b : Bool). if b then Some x else find q xs) (none x (0, omega arith, refl))
    ∙ find_nothing q xs (λ y h. none y (suc h.0, omega (arith, h.1), h.2))

abbrev pages_at : Mappings → ℕ → List Mapping
pages_at ms m = where_so (is_present (ms.state m)) (mapping_of ms m)

module _ (ms : Mappings) (fi : FindsMappings ms) (unmade : (m : ℕ) → ms.state m ≡ Present → m < ms.made) (s q : ℕ) where
  -- only the mapping that is there is of the page
  is_there : (m : ℕ) → is_present (ms.state m) ≡ true → is_page s q (mapping_of ms m) ≡ true → ms.at s q ≡ Some m
  is_there m present passes =
      (fi.at s q m).1 (
        present_is (ms.state m) present,
        eqb-true (ms.space m) s (first_holds (ms.space m == s) (ms.page m == q) passes),
        eqb-true (ms.page m) q (second_holds (ms.space m == s) (ms.page m == q) passes),
      )
    where
      present_is : (x : MappingState) → is_present x ≡ true → x ≡ Present
      present_is x h = grind arith

  others : (k : ℕ) → ((m : ℕ) → ms.at s q ≡ Some m → k ≤ m) → (y : Mapping) → Contains (gather k (pages_at ms)) y → is_page s q y ≡ false
  others k above y h =
      let x = gathered k (pages_at ms) y h in
      let z = so_in (is_present (ms.state x.0)) (mapping_of ms x.0) y x.2 in
      never (is_page s q y)
      (λ passes.
      let low = above x.0 (is_there x.0 z.0 (ap (is_page s q) z.1 ∙ passes)) in
      let lt = x.1 in
      absurd (omega (arith, low, lt)))

  pub page_found : option_map unit.target_mapped (find (is_page s q) (gather ms.made (pages_at ms))) ≡ option_map (target_of ms) (ms.at s q)
  page_found = go (ms.at s q) refl
    where
      go : (o : Option ℕ) → ms.at s q ≡ o
          → option_map unit.target_mapped (find (is_page s q) (gather ms.made (pages_at ms))) ≡ option_map (target_of ms) o
      go None h =
          ap (option_map unit.target_mapped)
          (find_nothing (is_page s q) (gather ms.made (pages_at ms)) (others ms.made (λ m is. absurd (cc (sym h ∙ is)))))
      go (Some m) h =
          let is = (fi.at s q m).0 h in
          let x = parted m is.0 in
          ap (option_map unit.target_mapped)
          (ap (find (is_page s q)) x.whole
          ∙ find_at (is_page s q) (gather m (pages_at ms)) (mapping_of ms m) x.behind
          (others m (λ d at. same_place m d (cc (sym h ∙ at))))
          (and_from (ms.space m == s) (ms.page m == q) (eq-eqb (ms.space m) s is.1) (eq-eqb (ms.page m) q is.2)))
        where
          same_place : (a b : ℕ) → Some a ≡ Some b → a ≤ b
          same_place a b eq = let it : a ≡ b = cc in omega (arith, it)

          parted : (a : ℕ) → ms.state a ≡ Present
              → Split ms.made (pages_at ms) (λ k. if k == a then [] else pages_at ms k) a (mapping_of ms a)
          parted a present =
              split ms.made (pages_at ms) (λ k. if k == a then [] else pages_at ms k) a (mapping_of ms a) (unmade a present)
              (ap (λ x. where_so (is_present x) (mapping_of ms a)) present)
              (ap (λ (b : Bool). if b then [] else pages_at ms a) (eq-eqb a a refl))
              (λ k ne. ap (λ (b : Bool). if b then [] else pages_at ms k) (never (k == a) (λ x. ne (eqb-true k a x))))

-- ---- The request

module _ (w : World) (e c r : ℕ) (i : Invariant w) (low : e < w.config.endpoints) (speaks : (w.part e).message c ≡ Some (RequestOf r))
    (permitted : is_permitted (w.part e) c (RequestOf r) ≡ true) where
  abbrev p : Endpoint
  p = w.part e

  abbrev b : ℕ
  b = (w.part e).request_binding r

  abbrev t : ℕ
  t = (w.part e).pasid ((w.part e).request_binding r)

  abbrev its : Flying
  its =
      record {
        message = message.Request ((w.part e).request_tag r) t ((w.part e).request_page r);
        owner = owner_of (w.part e) b;
        number = (w.part e).resets;
      }

  abbrev place : ℕ
  place = place_of_message w.mappings (w.part e) c

  abbrev without_it : Part
  without_it = without_sent (shown w e) place

  abbrev ignored : Endpoint
  ignored = act_alone (w.part e) w.messages (LocalAct.Ignore c)

  alike : IsDeliveredAlike w e c (RequestOf r) its
  alike = delivered_alike w e c (RequestOf r) its i speaks (λ h. absurd (cc)) refl

  flight_now : gather (w.messages + 0) (λ d. flying_of w.mappings ignored (ignored.message d)) ≡ remove (shown w e).flight place
  flight_now =
      flight_left w e c ignored (RequestOf r) its i speaks refl (λ d. flying_same w.mappings p ignored (p.message d) (its_itags p (p.message d)))
      (λ d ne. put-other p.message c None d ne) (put-same p.message c None)

  -- what it comes to in the open world
  comes : (o : LocalAct) (v : Part) → (act_alone p w.messages o).order_state ≡ p.order_state → (act_alone p w.messages o).resets ≡ p.resets
      → part_of (act w (AtEndpoint e o)) e (act_alone p w.messages o) ≡ v
      → taken_in (open_of w).settings (open_of w).mappings without_it its ≡ v
      → next_open (open_of w) (doing.At e (local.Deliver place)) ≡ Some (open_of (act w (AtEndpoint e o)))
  comes o v states resets sees is =
      at_one_endpoint w e o i low (calm p w.messages o states resets) (local.Deliver place) v sees
      (ap (deliver (open_of w).settings (open_of w).mappings (shown w e) place) alike.stands
      ∙ ap (λ x. if_so x (taken_in (open_of w).settings (open_of w).mappings without_it its)) (alike.permitted ∙ permitted)
      ∙ ap Some is)

  -- at a unit in reset it is dropped
  pub drops : is_open (w.part e).phase ≡ false
      → next_open (open_of w) (doing.At e (local.Deliver (place_of_message w.mappings (w.part e) c)))
      ≡ Some (open_of (act w (AtEndpoint e (LocalAct.Ignore c))))
  drops closed =
      comes (LocalAct.Ignore c) without_it refl refl
      (seen w e (w.messages + 0) p ignored
      ∙ ap₂ (λ ts fs. record (shown w e) {
        works = gather p.uses (λ u. where_so (is_running (p.use_state u)) (use_of w.mappings p u)) ++ ts;
        flight = fs;
      })
      (gather_same p.orders (λ k. taken_of ignored (p.order_state k) k) (λ k. taken_of p (p.order_state k) k)
      (λ k l. taken_same p ignored (p.order_state k) k refl)) flight_now)
      (ap (λ (x : Bool). if x
      then unit.answer (open_of w).settings (open_of w).mappings without_it its (p.request_tag r) t (p.request_page r)
      else without_it) closed)

  -- ---- At an open unit

  module _ (fi : FindsMappings w.mappings) (opened : is_open (w.part e).phase ≡ true) (answer : Sending) where
    abbrev completed : Endpoint
    completed = act_alone (w.part e) w.messages (LocalAct.Complete c r (found_for w (w.part e) r) answer)

    abbrev target : Option Target
    target = option_map (target_of w.mappings) (found_for w (w.part e) r)

    bearer : IsBearer p b
    bearer = ((found w e i).request c r (open_is p opened) speaks).0

    -- a live binding of the PASID is the one that asks
    alone : (d : ℕ) → is_live_stage (p.stage d) ≡ true → p.pasid d ≡ t → d ≡ b
    alone d live same = bearer.alone d (live_is (p.stage d) live) same

    entered : (live : Bool) → is_live_stage (p.stage b) ≡ live → entered_of w.bindings p t ≡ (if live then Some b else None)
    entered true live =
        let x = first_there w.bindings p t (λ d. is_live_stage (p.stage d)) b made live refl in
        x.1 ∙ ap Some (alone x.0 x.2 x.3)
      where
        made : b < w.bindings
        made = by ((i.parts e).bounds.stage b)
          where
            by : (w.bindings ≤ b → p.stage b ≡ Unbound) → b < w.bindings
            by un = grind (arith, un, live)
    entered false live = go (entered_of w.bindings p t) refl
      where
        go : (o : Option ℕ) → entered_of w.bindings p t ≡ o → o ≡ None
        go None h = refl
        go (Some d) h =
            let x = first_is w.bindings p t (λ z. is_live_stage (p.stage z)) d h in
            let same = ap (λ z. is_live_stage (p.stage z)) (alone d x.1 x.2) in
            absurd (cc (sym x.1 ∙ same ∙ live))

    entry_there : unit.entry_at without_it t ≡ option_map (entry_of p) (entered_of w.bindings p t)
    entry_there = ap unit.entry_of (tabulate_get 33 (row_at w.bindings p) t pasid_low)
      where
        pasid_low : t < 33
        pasid_low = let l = ((labelled w e i).pasid_low b bearer.unreleased).1 in omega (arith, l)

    led_to : (live : Bool) → is_live_stage (p.stage b) ≡ live
        → unit.target_at (open_of w).mappings without_it t (p.request_page r) (option_map (entry_of p) (if live then Some b else None))
        ≡ option_map (target_of w.mappings) (if live then w.mappings.at (p.space b) (p.request_page r) else None)
    led_to true live = page_found w.mappings fi low_of (p.space b) (p.request_page r)
      where
        low_of : (m : ℕ) → w.mappings.state m ≡ Present → m < w.mappings.made
        low_of m present = by (i.mapped.unmade m)
          where
            by : (w.mappings.made ≤ m → w.mappings.state m ≡ Unmade) → m < w.mappings.made
            by un = grind (arith, un, present)
    led_to false live = refl

    target_there : unit.target_at (open_of w).mappings without_it t (p.request_page r) (unit.entry_at without_it t) ≡ target
    target_there =
        ap (unit.target_at (open_of w).mappings without_it t (p.request_page r))
        (entry_there ∙ ap (option_map (entry_of p)) (entered (is_live_stage (p.stage b)) refl))
        ∙ led_to (is_live_stage (p.stage b)) refl

    abbrev part_now : Part
    part_now =
        record (shown w e) {
          flight = remove (shown w e).flight place
              ++ one (owner_of (w.part e) b) (w.part e).resets (message.Completion ((w.part e).request_tag r) ((w.part e).request_page r) target);
        }

    flight_then : gather (w.messages + 1) (λ d. flying_of w.mappings completed (completed.message d)) ≡ part_now.flight
    flight_then =
        gather_one_more w.messages (λ d. flying_of w.mappings completed (completed.message d))
        ∙ ap₂ (λ xs ys. xs ++ ys)
        (gather_same w.messages (λ d. flying_of w.mappings completed (completed.message d)) (λ d. flying_of w.mappings ignored (ignored.message d)) older
        ∙ ap (λ n. gather n (λ d. flying_of w.mappings ignored (ignored.message d))) none_more ∙ flight_now)
        (ap (flying_of w.mappings completed)
        (put-same (λ d. ignored.message d) w.messages (Some (CompletionOf r (found_for w p r)))))
      where
        none_more : w.messages ≡ w.messages + 0
        none_more = omega arith

        older : (d : ℕ) → d < w.messages → flying_of w.mappings completed (completed.message d) ≡ flying_of w.mappings ignored (ignored.message d)
        older d l =
            ap (flying_of w.mappings completed)
            (put-other ignored.message w.messages (Some (CompletionOf r (found_for w p r))) d (λ same. absurd (omega (arith, same, l))))
            ∙ flying_same w.mappings p completed (ignored.message d) (its_itags p (ignored.message d))
            ∙ sym (flying_same w.mappings p ignored (ignored.message d) (its_itags p (ignored.message d)))

    pub requests_answered : next_open (open_of w) (doing.At e (local.Deliver (place_of_message w.mappings (w.part e) c)))
        ≡ Some (open_of (act w (AtEndpoint e (LocalAct.Complete c r (found_for w (w.part e) r) answer))))
    requests_answered =
        comes (LocalAct.Complete c r (found_for w p r) answer) part_now refl refl
        (seen w e (w.messages + 1) p completed
        ∙ ap₂ (λ ts fs. record (shown w e) {
          works = gather p.uses (λ u. where_so (is_running (p.use_state u)) (use_of w.mappings p u)) ++ ts;
          flight = fs;
        })
        (gather_same p.orders (λ k. taken_of completed (p.order_state k) k) (λ k. taken_of p (p.order_state k) k)
        (λ k l. taken_same p completed (p.order_state k) k refl)) flight_then)
        (ap (λ (x : Bool). if x
        then unit.answer (open_of w).settings (open_of w).mappings without_it its (p.request_tag r) t (p.request_page r)
        else without_it) opened
        ∙ ap (λ o. sent without_it (owner_of p b) p.resets (message.Completion (p.request_tag r) (p.request_page r) o)) target_there)
