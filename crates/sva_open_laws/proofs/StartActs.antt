-- A start that comes to its endpoint is an act of the open world: its delivery.
use Rattle.std.proofs.Common.{◌≡◌, ◌≢◌, ◌⊎◌, inl, inr, refl, ap, ap₂, sym, ◌∙◌, ℕ, ◌+◌, ◌<◌, Bool, true, false, arith}
use Rattle.std.specs.Prelude.{◌==◌, ◌&&◌, not, List, Option, Some, None, remove, slice_set}
use Rattle.std.proofs.lemmas.Bool.{and_from, eqb-true, eq-eqb}
use Rattle.sva_model.specs.Words.{find, lowest}
use Rattle.sva_model.specs.State.{Endpoint, World}
use Rattle.sva_model.specs.State.PasidState.{On}
use Rattle.sva_model.specs.State.Subject.{StartOf}
use Rattle.sva_model.specs.States.{is_off}
use Rattle.sva_model.specs.Acts.{LocalAct, act, act_alone}
use Rattle.sva_model.specs.Acts.Act.{AtEndpoint}
use Rattle.sva_model.specs.Claims.{IsBearer}
use Rattle.sva_model.specs.Labels.{is_permitted}
use Rattle.sva_labels.proofs.Lists.{tabulate_set}
use Rattle.sva_labels.proofs.Tests.{first_holds, second_holds}
use Rattle.sva_labels.proofs.Words.{ℕ_cases, find_passes, find_some, put-same, put-other}
use Rattle.sva_laws.proofs.Found.{found, labelled}
use Rattle.sva_laws.proofs.Invariant.{Invariant}
use Rattle.sva_laws.proofs.Passed.{unreleased_bound}
use Rattle.sva_open.specs.declared.acts.Act.TheVariants as doing
use Rattle.sva_open.specs.declared.acts.LocalAct.TheVariants as local
use Rattle.sva_open.specs.declared.messages.Message.TheVariants as message
use Rattle.sva_open.specs.declared.messages.Sent.{Sent as Flying}
use Rattle.sva_open.specs.declared.rows.Row.{Row}
use Rattle.sva_open.specs.declared.rows.State.TheVariants as row_state
use Rattle.sva_open.specs.World.{Part, if_so}
use Rattle.sva_open.specs.Acts.{next_open}
use Rattle.sva_open.specs.Links.{deliver, taken_in, told, without_sent}
use Rattle.sva_open_laws.specs.AsOpen.{flying_of, gather, open_of, owner_by, owner_of, part_of, row_at, state_by, state_of, user_by, user_of}
use Rattle.sva_open_laws.specs.LinkOrders.{IsDeliveredAlike, place_of_message}
use Rattle.sva_open_laws.proofs.ActParts.{at_one_endpoint}
use Rattle.sva_open_laws.proofs.ArriveActs.{flying_same, light, seen}
use Rattle.sva_open_laws.proofs.BindActs.{find_same}
use Rattle.sva_open_laws.proofs.DeviceActs.{calm, never}
use Rattle.sva_open_laws.proofs.Gathered.{tabulate_get}
use Rattle.sva_open_laws.proofs.GatherLists.{Split, gather_more, remove_at, split}
use Rattle.sva_open_laws.proofs.LinkLists.{delivered_alike}
use Rattle.sva_open_laws.proofs.Safety.{started_is}
use Rattle.sva_open_laws.proofs.Usable.{bound_low, sent_low}

-- the one number that passes is found
find_one : (n : ℕ) (q : ℕ → Bool) (k : ℕ) → k < n → q k ≡ true → ((j : ℕ) → j ≢ k → q j ≡ false) → find n q ≡ Some k
find_one n q k l h none = at ∙ ap Some (is (ℕ_cases (lowest n q) k))
  where
    at : find n q ≡ Some (lowest n q)
    at = find_some n q k l h

    is : (lowest n q ≡ k) ⊎ (lowest n q ≢ k) → lowest n q ≡ k
    is (inl same) = same
    is (inr ne) = absurd (cc (sym (find_passes n q (lowest n q) at).1 ∙ none (lowest n q) ne))

abbrev used_under : Endpoint → ℕ → ℕ → Bool
used_under p t b = not (is_off (p.pasid_state b)) && (p.pasid b == t)

-- a row shows of the states of PASIDs who uses its own
row_light : (g : ℕ) (p q : Endpoint) (t : ℕ)
    → row_at g (light p q) t
    ≡ record (row_at g p t) { state = state_of (light p q) (user_of g (light p q) t); user = user_by (light p q) (user_of g (light p q) t) }
row_light g p q t =
    ap (λ n. record (row_at g p t) {
      owner = n;
      state = state_of (light p q) (user_of g (light p q) t);
      user = user_by (light p q) (user_of g (light p q) t);
    }) (owner_same (p.at_pasid t))
  where
    owner_same : (o : Option ℕ) → owner_by g (light p q) t o ≡ owner_by g p t o
    owner_same None = refl
    owner_same (Some b) = refl

module _ (w : World) (e c b : ℕ) (i : Invariant w) (low : e < w.config.endpoints) (speaks : (w.part e).message c ≡ Some (StartOf b))
    (permitted : is_permitted (w.part e) c (StartOf b) ≡ true) where
  abbrev p : Endpoint
  p = w.part e

  abbrev started : Endpoint
  started = act_alone (w.part e) w.messages (LocalAct.Start_arrives c b)

  abbrev t : ℕ
  t = (w.part e).pasid b

  abbrev its : Flying
  its = record { message = message.Start ((w.part e).pasid b); owner = owner_of (w.part e) b; number = (w.part e).resets }

  abbrev place : ℕ
  place = place_of_message w.mappings (w.part e) c

  alike : IsDeliveredAlike w e c (StartOf b) its
  alike = delivered_alike w e c (StartOf b) its i speaks (λ k. absurd (cc)) refl

  bearer : IsBearer p b
  bearer = (found w e i).start c b speaks

  pasid_low : t < 33
  pasid_low = let l = ((labelled w e i).pasid_low b bearer.unreleased).1 in omega (arith, l)

  -- ---- Messages

  sent_before : c < w.messages
  sent_before = sent_low w.messages p c (StartOf b) ((i.parts e).resets.unsent c) speaks

  flying : ℕ → List Flying
  flying d = flying_of w.mappings (w.part e) ((w.part e).message d)

  left : ℕ → List Flying
  left d = flying_of w.mappings started (started.message d)

  others : (d : ℕ) → d ≢ c → left d ≡ flying d
  unfolding left flying
  others d ne = ap (flying_of w.mappings started) (put-other p.message c None d ne) ∙ flying_same w.mappings p started (p.message d)

  parted : Split w.messages flying left c its
  unfolding left flying
  parted =
      split w.messages flying left c its sent_before (ap (flying_of w.mappings p) speaks) (ap (flying_of w.mappings started) (put-same p.message c None))
      others

  flight : gather (w.messages + 0) (λ d. flying_of w.mappings started (started.message d)) ≡ remove (part_of w e p).flight place
  unfolding left flying
  flight =
      gather_more w.messages 0 left
      (λ d l. others d (λ same. absurd (omega (arith, same, l, sent_before))) ∙ ap (flying_of w.mappings p) ((i.parts e).resets.unsent d l))
      ∙ parted.rest
      ∙ sym (ap (λ z. remove z place) parted.whole ∙ remove_at (gather c flying) its parted.behind)

  -- ---- Rows

  used_alone : (d : ℕ) → d ≢ b → used_under started t d ≡ false
  used_alone d ne =
      never (used_under started t d)
      (λ h.
      let on = first_holds (not (is_off (started.pasid_state d))) (p.pasid d == t) h in
      let same = eqb-true (p.pasid d) t (second_holds (not (is_off (started.pasid_state d))) (p.pasid d == t) h) in
      let own = (found w e i).started d (started_is (p.pasid_state d) (ap (λ x. not (is_off x)) (sym (put-other p.pasid_state b On d ne)) ∙ on)) in
      ne (bearer.alone d own.unreleased same))

  user_now : user_of w.bindings started t ≡ Some b
  user_now =
      find_one w.bindings (used_under started t) b (bound_low w e b i (unreleased_bound p b bearer.unreleased))
      (and_from (not (is_off (started.pasid_state b))) (p.pasid b == t) (ap (λ x. not (is_off x)) (put-same p.pasid_state b On)) (eq-eqb t t refl))
      used_alone

  abbrev row_now : Row
  row_now = record (row_at w.bindings (w.part e) ((w.part e).pasid b)) { state = row_state.On; user = owner_of (w.part e) b }

  its_row : row_at w.bindings started t ≡ row_now
  its_row =
      row_light w.bindings p started t
      ∙ ap (λ o. record (row_at w.bindings p t) { state = state_of started o; user = user_by started o }) user_now
      ∙ ap (λ x. record (row_at w.bindings p t) { state = state_by x; user = owner_of p b }) (put-same p.pasid_state b On)

  used_old : (x d : ℕ) → x ≢ t → used_under started x d ≡ used_under p x d
  used_old x d ne = go (ℕ_cases d b)
    where
      go : (d ≡ b) ⊎ (d ≢ b) → used_under started x d ≡ used_under p x d
      go (inl same) =
          let apart = never (p.pasid d == x) (λ h. ne (sym (eqb-true (p.pasid d) x h) ∙ ap p.pasid same)) in
          ap (λ y. not (is_off (started.pasid_state d)) && y) apart ∙ and_none (not (is_off (started.pasid_state d))) (not (is_off (p.pasid_state d)))
          ∙ sym (ap (λ y. not (is_off (p.pasid_state d)) && y) apart)
        where
          and_none : (y z : Bool) → (y && false) ≡ (z && false)
          and_none true true = refl
          and_none true false = refl
          and_none false true = refl
          and_none false false = refl
      go (inr apart) = ap (λ y. not (is_off y) && (p.pasid d == x)) (put-other p.pasid_state b On d apart)

  row_other : (x : ℕ) → x ≢ t → row_at w.bindings started x ≡ row_at w.bindings p x
  row_other x ne =
      row_light w.bindings p started x
      ∙ ap (λ o. record (row_at w.bindings p x) { state = state_of started o; user = user_by started o })
      (find_same w.bindings (used_under started x) (used_under p x) (λ d l. used_old x d ne))
      ∙ shown (user_of w.bindings p x) refl
    where
      shown : (o : Option ℕ) → user_of w.bindings p x ≡ o
          → record (row_at w.bindings p x) { state = state_of started o; user = user_by started o }
          ≡ record (row_at w.bindings p x) { state = state_of p o; user = user_by p o }
      shown None h = refl
      shown (Some d) h =
          let has = second_holds (not (is_off (p.pasid_state d))) (p.pasid d == x) (find_passes w.bindings (used_under p x) d h).1 in
          ap (λ y. record (row_at w.bindings p x) { state = state_by y; user = owner_of p d })
          (put-other p.pasid_state b On d (λ same. ne (sym (eqb-true (p.pasid d) x has) ∙ ap p.pasid same)))

  -- ---- The whole

  abbrev part_now : Part
  part_now =
      record (part_of w e (w.part e)) {
        rows = slice_set (part_of w e (w.part e)).rows ((w.part e).pasid b) row_now;
        flight = remove (part_of w e (w.part e)).flight place;
      }

  sees : part_of (act w (AtEndpoint e (LocalAct.Start_arrives c b))) e started ≡ part_now
  sees =
      seen w e (w.messages + 0) p started
      ∙ ap₂ (λ rs fs. record (part_of w e p) { rows = rs; flight = fs })
      (tabulate_set 33 (row_at w.bindings p) (row_at w.bindings started) t row_now its_row row_other) flight

  pub starts : next_open (open_of w) (doing.At e (local.Deliver (place_of_message w.mappings (w.part e) c)))
      ≡ Some (open_of (act w (AtEndpoint e (LocalAct.Start_arrives c b))))
  starts =
      at_one_endpoint w e (LocalAct.Start_arrives c b) i low (calm p w.messages (LocalAct.Start_arrives c b) refl refl) (local.Deliver place) part_now sees
      (ap (deliver (open_of w).settings (open_of w).mappings (part_of w e p) place) alike.stands
      ∙ ap (λ x. if_so x (taken_in (open_of w).settings (open_of w).mappings (without_sent (part_of w e p) place) its)) (alike.permitted ∙ permitted)
      ∙ ap (λ r. Some (told (without_sent (part_of w e p) place) t row_state.On (owner_of p b) r)) (tabulate_get 33 (row_at w.bindings p) t pasid_low))
