-- Pages taken out of a space, by numbers: the spaces, the places of frames, the units that get invalidations, and the
-- cookies.
use Rattle.std.proofs.Common.{◌≡◌, refl, ap, ap₂, sym, ◌∙◌, ℕ, ◌+◌, ◌*◌, ◌^◌, ◌<◌, ◌≤◌, Bool, true, false, arith}
use Rattle.std.specs.Prelude.{Some, None, Option, option_map, nat_lt, if◌then◌else◌, length, map, filter}
use Rattle.std.proofs.lemmas.Bool.{ltb-true}
use Rattle.sva_model.specs.Words.{count_below, select, tabulate, is_some}
use Rattle.sva_model.specs.State.{Owed, Mappings, Endpoint, World, Stage}
use Rattle.sva_model.specs.State.Stage.{Unbound, Live, Stopping, Draining, Invalidating, Quiet, Lost, Released}
use Rattle.sva_model.specs.States.{is_unreleased, is_job}
use Rattle.sva_model.specs.Unmappings.{bound, submits, submits_at, cookie_of, owed_by, submitted, submitted_if, part_after_unmap, in_range}
use Rattle.sva_model.specs.Unmappings.{without_pages}
use Rattle.sva_model.specs.Acts.{act}
use Rattle.sva_model.specs.Acts.Act.{Unmap}
use Rattle.sva_model.specs.Wire.{BindingWire, EndpointWire, StageWire, number, cookie_number, target_wire, stage_wire, binding_wire, bindings_wire}
use Rattle.sva_model.specs.Wire.{part_wire, pages_wire, places_wire, group_job, wire}
use Rattle.sva_labels.proofs.Counting.{count_same}
use Rattle.sva_laws.proofs.Bounds.{Bounds}
use Rattle.sva_laws.proofs.Labels as labels
use Rattle.sva_laws.proofs.Orders.{Orders}
use Rattle.sva_laws.proofs.Fronts.{AllFronts}
use Rattle.sva_laws.proofs.Debts.{AllDebts}
use Rattle.sva_laws.proofs.Invariant.{Invariant}
use Rattle.sva_labels.proofs.Lists.{tabulate_same, tabulate_length}
use Rattle.sva_labels.specs.Finding as finding
use Rattle.sva_labels.specs.Finding.{idle, part_of, unit_of, bound_at, submits_by, pages_in}
use Rattle.sva_labels.specs.Moves as moves
use Rattle.sva_labels.specs.Moves.{moved, placed, place_for, target_by, targets_of, cookie_at, with_descriptors, descriptors_for, pasid_or_0, part_unmapped}
use Rattle.sva_refinement.proofs.Named.{act_move}
use Rattle.sva_refinement.proofs.UnitSubmitted.{unit_submitted, device_submitted}
use Rattle.sva_refinement.proofs.DeviceMappings.{device_without}
use Rattle.sva_refinement.proofs.SpaceLists.{with_pages_is}
use Rattle.sva_refinement.proofs.PageLists.{pages_out}
use Rattle.sva_refinement.proofs.PlacesOut.{places_out}
use Rattle.sva_refinement.proofs.PlacesKept.{seen_same}
use Rattle.sva_refinement.proofs.SpaceActs.{pages_are}
use Rattle.sva_refinement.proofs.Bound.{bound_is}
use Rattle.sva_refinement.proofs.Withholding.{target_at, seen_targets, target_new, seen_still}
use Rattle.sva_laws.proofs.Books.{submitted_stage as stage_same}
use Rattle.sva_laws.proofs.Submitted.{old_order}
pub use Rattle.sva_refinement.proofs.EndpointViews.{part_seen as part_is}
use Rattle.sva_refinement.proofs.LookedUnits.{submits_seen}
use Rattle.sva_refinement.proofs.SentTo.{same_message as message_same}

-- What a submission leaves as it is.

binding_same :
    (first e : ℕ) (t : Bool) (p : Endpoint) (o : Option ℕ) (q count order cookie b : ℕ) → Orders p
    → binding_wire first e (submitted_if t p o q count order cookie) b ≡ binding_wire first e p b
binding_same first e true p (Some d) q count order cookie b or = ap (λ z. record (binding_wire first e p b) { stage = z }) (go (p.stage b) refl)
  where
    go : (s : Stage) → p.stage b ≡ s → stage_wire first (submitted p d q count order cookie) s ≡ stage_wire first p s
    go (Draining w) h = ap (λ z. StageWire.DrainingWire (cookie_number first z)) (old_order p d q count order cookie w (or.draining b w h).1)
    go (Invalidating k w) h = ap (λ z. StageWire.InvalidatingWire (cookie_number first z)) (old_order p d q count order cookie w (or.invalidating b k w h).3)
    go Unbound h = refl
    go Live h = refl
    go (Stopping marked) h = refl
    go Quiet h = refl
    go Lost h = refl
    go Released h = refl
binding_same first e true p None q count order cookie b or = refl
binding_same first e false p o q count order cookie b or = refl

job_same :
    (first e : ℕ) (t : Bool) (p : Endpoint) (o : Option ℕ) (q count order cookie g : ℕ)
    → group_job first e (submitted_if t p o q count order cookie) g ≡ group_job first e p g
job_same first e true p (Some d) q count order cookie g = refl
job_same first e true p None q count order cookie g = refl
job_same first e false p o q count order cookie g = refl

queued_same :
    (t : Bool) (p : Endpoint) (o : Option ℕ) (q count order cookie g : ℕ)
    → is_job ((submitted_if t p o q count order cookie).host_group g) ≡ is_job (p.host_group g)
queued_same true p (Some d) q count order cookie g = refl
queued_same true p None q count order cookie g = refl
queued_same false p o q count order cookie g = refl

carried_same : (t : Bool) (p : Endpoint) (o : Option ℕ) (q count order cookie c : ℕ) → (submitted_if t p o q count order cookie).carried c ≡ p.carried c
carried_same true p (Some d) q count order cookie c = refl
carried_same true p None q count order cookie c = refl
carried_same false p o q count order cookie c = refl

-- What the numbers find.

-- the units that submit
pub submits_is : (w : World) (s e : ℕ) → Invariant w → e < w.config.endpoints → finding.submits (wire w) (number w.config.first s) e ≡ submits w s e
submits_is w s e i l =
    ap₂ (λ p b. submits_by p.unit b) (part_is w e l) (bound_is w e s i)
    ∙ submits_seen w.config.first e (w.part e) (bound w e s)

pub cookie_is :
    (w : World) (s e : ℕ) → Invariant w → e ≤ w.config.endpoints
    → cookie_at (wire w) (number w.config.first s) e ≡ number w.config.first (cookie_of w s e)
cookie_is w s e i l =
    ap (λ n. w.config.first + w.cookies + n)
    (count_same e (finding.submits (wire w) (number w.config.first s)) (submits w s) (λ x m. submits_is w s x i (omega (arith, m, l))))
    ∙ omega arith

-- The units.

abbrev pub unmapped_by : Bool → EndpointWire → Option BindingWire → (page count order cookie : ℕ) → EndpointWire
unmapped_by true p b q count order cookie = record p { unit = with_descriptors p.unit (descriptors_for (pasid_or_0 b) q count order cookie) cookie }
unmapped_by false p b q count order cookie = p

part_split :
    (t : Bool) (p : EndpointWire) (b : Option BindingWire) (q count order cookie : ℕ)
    → (if t then record p { unit = with_descriptors p.unit (descriptors_for (pasid_or_0 b) q count order cookie) cookie } else p)
    ≡ unmapped_by t p b q count order cookie
part_split true p b q count order cookie = refl
part_split false p b q count order cookie = refl

part_submitted :
    (g first e : ℕ) (ms : Mappings) (s : ℕ) (pages : ℕ → Bool) (owed : ℕ → Owed) (t : Bool) (p : Endpoint) (o : Option ℕ) (q count order cookie : ℕ)
    → Bounds g p → labels.Labels p → submits_at p o ≡ t
    → part_wire first (without_pages ms s pages owed) (submitted_if t p o q count order cookie)
    ≡ unmapped_by t (part_wire first ms p) (option_map (binding_wire first e p) o) q count order (number first cookie)
part_submitted g first e ms s pages owed true p (Some b) q count order cookie bo la h =
    let device = device_without ms s pages owed (submitted p b q count order cookie) ∙ device_submitted g ms p b q count order cookie bo la in
    let unit = unit_submitted g first p b q count order cookie bo la in
    λ k. record (part_wire first ms p) { device = device k; unit = unit k }
part_submitted g first e ms s pages owed true p None q count order cookie bo la h = absurd (cc (h))
part_submitted g first e ms s pages owed false p o q count order cookie bo la h =
    let device = device_without ms s pages owed p in
    λ k. record (part_wire first ms p) { device = device k }

part_left :
    (w : World) (s q count order e : ℕ) → Invariant w → e < w.config.endpoints
    → part_wire w.config.first (act w (Unmap s q count order)).mappings (part_after_unmap w s q count order e)
    ≡ part_unmapped (wire w) (number w.config.first s) q count order e
part_left w s q count order e i l =
    part_submitted w.bindings w.config.first e w.mappings s (in_range q (count * 2 ^ order)) (λ e. owed_by (w.part e) count (bound w e s))
    (submits w s e) (w.part e) (bound w e s) q count order (cookie_of w s e)
    (i.parts e).bounds (i.parts e).labels refl
    ∙ sym (λ k. unmapped_by (submits_is w s e i l k) (part_is w e l k) (bound_is w e s i k) q count order (cookie_is w s e i (omega (arith, l)) k))
    ∙ sym (part_split (finding.submits (wire w) (number w.config.first s) e) (part_of (wire w) e)
    (bound_at (wire w) e (number w.config.first s)) q count order (cookie_at (wire w) (number w.config.first s) e))

-- The places.

targets_are :
    (w : World) (s q count order : ℕ) → Invariant w → AllFronts w
    → tabulate 8 (target_at w.config.first w.config.endpoints (part_after_unmap w s q count order) (λ e. owed_by (w.part e) count (bound w e s)))
    ≡ targets_of (wire w) (number w.config.first s)
targets_are w s q count order i fronts =
    tabulate_same 8 (target_at w.config.first w.config.endpoints (part_after_unmap w s q count order) (λ e. owed_by (w.part e) count (bound w e s)))
    (λ e. if nat_lt e w.config.endpoints then target_by (unit_of (wire w) e) (cookie_at (wire w) (number w.config.first s) e)
    (bound_at (wire w) e (number w.config.first s)) else None)
    (λ e l. at e (nat_lt e w.config.endpoints) refl)
    ∙ sym (ap
    (λ n. tabulate 8
    (λ e. if nat_lt e n then target_by (unit_of (wire w) e) (cookie_at (wire w) (number w.config.first s) e)
    (bound_at (wire w) e (number w.config.first s)) else None)) (tabulate_length w.config.endpoints (λ x. part_wire w.config.first w.mappings (w.part x))))
  where
    at :
        (e : ℕ) (b : Bool) → nat_lt e w.config.endpoints ≡ b
        → (if b then target_wire w.config.first (part_after_unmap w s q count order e) (owed_by (w.part e) count (bound w e s)) else None)
        ≡ (if b then target_by (unit_of (wire w) e) (cookie_at (wire w) (number w.config.first s) e) (bound_at (wire w) e (number w.config.first s))
        else None)
    at e false k = refl
    at e true k =
        let l = ltb-true e w.config.endpoints k in
        target_new w.cookies w.config.first e (w.part e) (bound w e s) q count order (cookie_of w s e) (i.parts e).orders (fronts e)
        ∙ sym (λ k. target_by (part_is w e l k).unit (cookie_is w s e i (omega (arith, l)) k) (bound_is w e s i k))

places_left :
    (w : World) (s q count order : ℕ) → Invariant w → AllFronts w → AllDebts w → w.config.endpoints ≤ 8
    → places_wire (act w (Unmap s q count order)) ≡ (moved (wire w) (act_move w (Unmap s q count order))).places
places_left w s q count order i fronts debts low =
    let v = act w (Unmap s q count order) in
    places_out w v s (in_range q (count * 2 ^ order)) (λ e. owed_by (w.part e) count (bound w e s))
    (place_for (targets_of (wire w) (number w.config.first s))) i.mapped refl refl
    (seen_targets v (λ e. owed_by (w.part e) count (bound w e s)) low ∙ ap place_for (targets_are w s q count order i fronts))
    (λ m old gone. seen_same w v old refl
    (λ e l. seen_still w.bindings w.config.first (submits w s e) (w.part e) (bound w e s) q count order (cookie_of w s e) (old e) (i.parts e).bounds
    (debts m e old gone)))
    ∙ ap (λ ps. placed (place_for (targets_of (wire w) (number w.config.first s))) (filter (λ entry. in_range q (count * 2 ^ order) entry.page) ps)
    (places_wire w)) (sym (pages_are w s i.mapped))

-- All of it. The premises beside the invariant are laws of each list of steps, and the config fits.

-- the part of an endpoint, as the unmapping leaves it
abbrev pub left_by : (w : World) (space page count order endpoint : ℕ) → Endpoint
left_by w s q count order e = submitted_if (submits w s e) (w.part e) (bound w e s) q count order (cookie_of w s e)

pub unmap_pages :
    (w : World) (s q count order : ℕ) → Invariant w → AllFronts w → AllDebts w → w.config.endpoints ≤ 8
    → wire (act w (Unmap s q count order)) ≡ moved (wire w) (act_move w (Unmap s q count order))
unmap_pages w s q count order i fronts debts low =
    λ k.
    record (wire w) {
      spaces = spaces k;
      places = places_left w s q count order i fronts debts low k;
      bindings = bindings k;
      parts = parts k;
      jobs = map (λ j. job_left (w.job j).endpoint (w.job j).group k) (select w.jobs (λ j. queued_left (w.job j).endpoint (w.job j).group k));
      hands = tabulate w.config.workers (λ x. option_map (λ j. job_left (w.job j).endpoint (w.job j).group k) (w.hand x));
      in_flight =
          map (λ c. record { number = number w.config.first c; endpoint = w.link_of c; message = carried_left (w.link_of c) c k })
          (select w.messages (λ c. is_some (message_left (w.link_of c) c k)));
      next_cookie = next k;
    }
  where
    job_left : (e g : ℕ) → group_job w.config.first e (left_by w s q count order e) g ≡ group_job w.config.first e (w.part e) g
    job_left e g = job_same w.config.first e (submits w s e) (w.part e) (bound w e s) q count order (cookie_of w s e) g

    queued_left : (e g : ℕ) → is_job ((left_by w s q count order e).host_group g) ≡ is_job ((w.part e).host_group g)
    queued_left e g = queued_same (submits w s e) (w.part e) (bound w e s) q count order (cookie_of w s e) g

    carried_left : (e c : ℕ) → (left_by w s q count order e).carried c ≡ (w.part e).carried c
    carried_left e c = carried_same (submits w s e) (w.part e) (bound w e s) q count order (cookie_of w s e) c

    message_left : (e c : ℕ) → (left_by w s q count order e).message c ≡ (w.part e).message c
    message_left e c = message_same (submits w s e) (w.part e) (bound w e s) q count order (cookie_of w s e) c

    binding_left : (e b : ℕ) → binding_wire w.config.first e (left_by w s q count order e) b ≡ binding_wire w.config.first e (w.part e) b
    binding_left e b = binding_same w.config.first e (submits w s e) (w.part e) (bound w e s) q count order (cookie_of w s e) b (i.parts e).orders

    stage_left : (e b : ℕ) → (left_by w s q count order e).stage b ≡ (w.part e).stage b
    stage_left e b = stage_same (submits w s e) (w.part e) (bound w e s) q count order (cookie_of w s e) b

    bindings : bindings_wire w.config.first w.bindings w.endpoint_of (left_by w s q count order) ≡ bindings_wire w.config.first w.bindings w.endpoint_of w.part
    bindings = λ k. map (λ b. binding_left (w.endpoint_of b) b k) (select w.bindings (λ b. is_unreleased (stage_left (w.endpoint_of b) b k)))

    spaces : (wire (act w (Unmap s q count order))).spaces ≡ (moved (wire w) (act_move w (Unmap s q count order))).spaces
    spaces =
        with_pages_is w.config.first s (pages_wire w.mappings) (pages_wire (act w (Unmap s q count order)).mappings)
        (moves.without_pages q (count * 2 ^ order)) (select w.spaces w.is_live)
        (pages_out w s (in_range q (count * 2 ^ order)) (λ e. owed_by (w.part e) count (bound w e s)))

    count_parts : length (wire w).parts ≡ w.config.endpoints
    count_parts = tabulate_length w.config.endpoints (λ x. part_wire w.config.first w.mappings (w.part x))

    parts : (wire (act w (Unmap s q count order))).parts ≡ (moved (wire w) (act_move w (Unmap s q count order))).parts
    parts =
        tabulate_same w.config.endpoints
        (λ e. part_wire w.config.first (act w (Unmap s q count order)).mappings (part_after_unmap w s q count order e))
        (part_unmapped (wire w) (number w.config.first s) q count order)
        (λ e l. part_left w s q count order e i l)
        ∙ sym (ap (λ n. tabulate n (part_unmapped (wire w) (number w.config.first s) q count order)) count_parts)

    next : (wire (act w (Unmap s q count order))).next_cookie ≡ (moved (wire w) (act_move w (Unmap s q count order))).next_cookie
    next =
        sym (cookie_is w s w.config.endpoints i (omega arith))
        ∙ sym (ap (λ n. w.config.first + w.cookies + count_below n (finding.submits (wire w) (number w.config.first s))) count_parts)
