-- What a unit's page invalidations and their wait leave as it was.
use Rattle.std.proofs.Common.{◌≡◌, ℕ, ◌<◌, true, arith}
use Rattle.std.proofs.lemmas.Bool.Decides.{nat_tests}
use Rattle.sva_model.specs.State.{Mappings, Endpoint}
use Rattle.sva_model.specs.State.Phase.{Open}
use Rattle.sva_model.specs.States.{is_before_invalidating}
use Rattle.sva_model.specs.Unmappings.{submitted}
use Rattle.sva_laws.proofs.Resets.{Resets}
use Rattle.sva_laws.proofs.Bounds.{Bounds}
use Rattle.sva_laws.proofs.Bindings.{Bindings}
use Rattle.sva_laws.proofs.Labels.{Labels}
use Rattle.sva_laws.proofs.Requests.{Requests}
use Rattle.sva_laws.proofs.Orders.{Orders}
use Rattle.sva_laws.proofs.Owners.{Owners}
use Rattle.sva_laws.proofs.PageRequests.{Queued, Lasts}
use Rattle.sva_laws.proofs.Groups.{Groups}

-- the orders that were there before
pub old_order : (p : Endpoint) (b q count order cookie k : ℕ) → k < p.orders → (submitted p b q count order cookie).order k ≡ p.order k
old_order p b q count order cookie k l = grind (arith, nat_tests)

pub old_state : (p : Endpoint) (b q count order cookie k : ℕ) → k < p.orders → (submitted p b q count order cookie).order_state k ≡ p.order_state k
old_state p b q count order cookie k l = grind (arith, nat_tests)

pub resets_submitted : (n b q count order cookie : ℕ) (p : Endpoint) → p.phase ≡ Open → Resets n p → Resets n (submitted p b q count order cookie)
resets_submitted n b q count order cookie p ph re =
    record {
      unsent = re.unsent;
      down = re.down;
      up = re.up;
      ordered = re.ordered;
      cleared = re.cleared;
      start_before = re.start_before;
      stop_before = re.stop_before;
      invalidate_before = re.invalidate_before;
      response_before = re.response_before;
      older = re.older;
      no_start = re.no_start;
      no_stop = re.no_stop;
      no_invalidate = re.no_invalidate;
      no_response = re.no_response;
      off = re.off;
      empty = re.empty;
      over = re.over;
      dead = re.dead;
      finished = re.finished;
      untaken = λ c k h. grind (arith, nat_tests, re.untaken c k);
      enabled = re.enabled;
      lapsed = λ k h. grind (arith, nat_tests, re.lapsed k);
      unqueued = λ k h. grind (arith, nat_tests, re.unqueued k);
      unarrived = re.unarrived;
      unfiled = re.unfiled;
    }

pub bounds_submitted : (g b q count order cookie : ℕ) (p : Endpoint) → Bounds g p → Bounds g (submitted p b q count order cookie)
bounds_submitted g b q count order cookie p bo =
    record {
      stage = bo.stage;
      request = bo.request;
      held = bo.held;
      use_state = bo.use_state;
      group = bo.group;
      host_group = bo.host_group;
      responses = bo.responses;
      page_request = bo.page_request;
      group_of = bo.group_of;
      order_state = λ k h. grind (arith, nat_tests, bo.order_state k);
      noted = λ k m h. grind (arith, nat_tests, bo.noted k m);
      asked = bo.asked;
      answered = bo.answered;
      sent = λ c k h. grind (arith, nat_tests, bo.sent c k);
      requested = bo.requested;
      responded = bo.responded;
    }

pub bindings_submitted : (b q count order cookie : ℕ) (p : Endpoint) → Bindings p → Bindings (submitted p b q count order cookie)
bindings_submitted b q count order cookie p bi =
    record {
      start_once = bi.start_once;
      start_off = bi.start_off;
      start_stage = bi.start_stage;
      on_stage = bi.on_stage;
      stop_once = bi.stop_once;
      stop_stage = bi.stop_stage;
      stop_early = bi.stop_early;
      stop_order = bi.stop_order;
      ending_stage = bi.ending_stage;
      marker_once = bi.marker_once;
      marker_stage = bi.marker_stage;
      marker_off = bi.marker_off;
      marker_start = bi.marker_start;
      marker_stop = bi.marker_stop;
    }

pub labels_submitted : (g b q count order cookie : ℕ) (p : Endpoint) → Bounds g p → Labels p → Labels (submitted p b q count order cookie)
labels_submitted g b q count order cookie p bo la =
    record {
      pasid_bears = la.pasid_bears;
      bears_pasid = la.bears_pasid;
      pasid_low = la.pasid_low;
      one_space = la.one_space;
      tag_bears = la.tag_bears;
      bears_tag = la.bears_tag;
      tag_low = la.tag_low;
      slot_bears = la.slot_bears;
      bears_slot = la.bears_slot;
      slot_low = la.slot_low;
      itag_bears = λ t k h. grind (arith, nat_tests, la.itag_bears t k, bo.order_state k);
      bears_itag = λ k h. grind (arith, nat_tests, la.bears_itag k);
      itag_low = la.itag_low;
      sent = λ c k h. grind (arith, nat_tests, la.sent c k, bo.sent c k);
      sent_once = la.sent_once;
    }

pub requests_submitted : (b q count order cookie : ℕ) (p : Endpoint) → Requests p → Requests (submitted p b q count order cookie)
requests_submitted b q count order cookie p ra =
    record {
      bound = ra.bound;
      alive = ra.alive;
      ask_once = ra.ask_once;
      answer_once = ra.answer_once;
      not_both = ra.not_both;
      ask_out =
          ra.ask_out;
      answer_out = ra.answer_out;
      one_held = ra.one_held;
    }

pub orders_submitted : (g b q count order cookie : ℕ) (p : Endpoint) → is_before_invalidating (p.stage b) ≡ true → Bounds g p → Orders p
    → Orders (submitted p b q count order cookie)
orders_submitted g b q count order cookie p st bo or =
    record {
      no_wait = λ k h. grind (arith, nat_tests, or.no_wait k);
      ahead = λ w k h i j. grind (arith, nat_tests, or.ahead w k, bo.order_state w);
      draining = λ x w h. grind (arith, nat_tests, or.draining x w);
      draining_state = λ x w h i. grind (arith, nat_tests, or.draining_state x w, or.draining x w);
      invalidating = λ x k w h. grind (arith, nat_tests, or.invalidating x k w);
      invalidating_state = λ x k w h i. grind (arith, nat_tests, or.invalidating_state x k w, or.invalidating x k w);
      invalidation_state = λ x k w h i. grind (arith, nat_tests, or.invalidation_state x k w, or.invalidating x k w);
      invalidation_done = λ x k w h i. grind (arith, nat_tests, or.invalidation_done x k w, or.invalidating x k w);
      void = λ k lt h i. grind (arith, nat_tests, or.void k);
      undone_before = λ x k w y h i j e. grind (arith, nat_tests, or.undone_before x k w y);
      undone_stage = λ k h i. grind (arith, nat_tests, or.undone_stage k);
    }

pub owners_submitted : (ms : Mappings) (g b q count order cookie : ℕ) (p : Endpoint) → Orders p → Owners ms p → Owners ms (submitted p b q count order cookie)
owners_submitted ms g b q count order cookie p or ow =
    record {
      held = ow.held;
      running = ow.running;
      held_space = ow.held_space;
      held_page = ow.held_page;
      flying_space = ow.flying_space;
      flying_page = ow.flying_page;
      running_space = ow.running_space;
      held_made = ow.held_made;
      flying_made = ow.flying_made;
      running_made = ow.running_made;
      held_open = λ r m k w h i j. grind (arith, nat_tests, ow.held_open r m k w, or.invalidating (p.request_binding r) k w);
      held_closed = λ r m k w h i j d. grind (arith, nat_tests, ow.held_closed r m k w, or.invalidating (p.request_binding r) k w);
      running_open = λ u k w h i j. grind (arith, nat_tests, ow.running_open u k w, or.invalidating (p.use_binding u) k w);
      running_closed = λ u k w h i j d. grind (arith, nat_tests, ow.running_closed u k w, or.invalidating (p.use_binding u) k w);
    }

pub queued_submitted : (b q count order cookie : ℕ) (p : Endpoint) → Queued p → Queued (submitted p b q count order cookie)
queued_submitted b q count order cookie p qu =
    record { in_flight = qu.in_flight; message = qu.message; arrived = qu.arrived; arrival = qu.arrival; landed = qu.landed; made = qu.made }

pub lasts_submitted : (b q count order cookie : ℕ) (p : Endpoint) → Lasts p → Lasts (submitted p b q count order cookie)
lasts_submitted b q count order cookie p la =
    record {
      last_group = la.last_group;
      last_once = la.last_once;
      last_flight = la.last_flight;
      last_arrived = la.last_arrived;
      last_order =
          la.last_order;
      whole_group = la.whole_group;
      whole = la.whole;
      kept = la.kept;
      out = la.out;
    }

pub groups_submitted : (b q count order cookie : ℕ) (p : Endpoint) → Orders p → Groups p → Groups (submitted p b q count order cookie)
groups_submitted b q count order cookie p or gr =
    record {
      index_bears = gr.index_bears;
      bears_index = gr.bears_index;
      index_low = gr.index_low;
      first = gr.first;
      asker_bound = gr.asker_bound;
      alive = gr.alive;
      under = gr.under;
      filed = gr.filed;
      open_group = gr.open_group;
      discarded = gr.discarded;
      discarded_over = gr.discarded_over;
      responses = gr.responses;
      response = gr.response;
      flight_stage = gr.flight_stage;
      marker_after = gr.marker_after;
      arrived_stage = gr.arrived_stage;
      arrived_wait = λ r w h i. grind (arith, nat_tests, gr.arrived_wait r w, or.draining (p.asker (p.group_of r)) w);
    }
