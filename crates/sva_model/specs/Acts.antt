-- What is done once the labels of a step are read: by names alone, and with no test round a record.
use Rattle.std.specs.Prelude.{ℕ, suc, ◌+◌, ◌*◌, ◌^◌, Bool, true, false, ◌&&◌, ◌||◌, ◌==◌, Option, Some, None}
use Rattle.sva_model.specs.Words.{put, put_range, count_below, unless}
use Rattle.sva_model.specs.Message.{Code, Message}
use Rattle.sva_model.specs.Message.Message.{StartMessage, StopMessage, ResetMessage, InvalidateMessage, ResponseMessage, RequestMessage}
use Rattle.sva_model.specs.Message.Message.{InvalidatedMessage, PageRequestMessage, MarkerMessage, ResetDoneMessage}
use Rattle.sva_model.specs.State.{Endpoint, World}
use Rattle.sva_model.specs.State.Owed.{Nothing}
use Rattle.sva_model.specs.State.MappingState.{Present}
use Rattle.sva_model.specs.State.Stage.{Live, Stopping, Draining, Invalidating, Quiet, Released}
use Rattle.sva_model.specs.State.PasidState.{Off, On, Ending}
use Rattle.sva_model.specs.State.RequestState.{Out, Over}
use Rattle.sva_model.specs.State.UseState.{Running, Ended}
use Rattle.sva_model.specs.State.PageRequestState.{InFlight, Arrived, Filed, Dropped}
use Rattle.sva_model.specs.State.GroupState.{Closed}
use Rattle.sva_model.specs.State.HostGroupState.{InHand, Replied, Discarded}
use Rattle.sva_model.specs.State.Order.{PasidOf, Wait}
use Rattle.sva_model.specs.State.OrderState.{Queued, Sent, Taken, Done}
use Rattle.sva_model.specs.State.Subject.{StartOf, StopOf, FunctionReset, CompletionOf, InvalidateOf, ResponseOf, RequestOf, InvalidatedOf}
use Rattle.sva_model.specs.State.Subject.{PageRequestOf}
use Rattle.sva_model.specs.State.Subject.{MarkerOf, ResetDone}
use Rattle.sva_model.specs.State.Phase.{Open, ResetSent, Cleared}
use Rattle.sva_model.specs.States.{covers}
use Rattle.sva_model.specs.Unmappings.{bound, submits, owed_by, part_after_unmap, in_range, without_pages}
use Rattle.sva_model.specs.StateChanges.{void_queued, void_undone, lapse, completing_if, counted_if, is_last_left, doom_if, none_if, killed}
use Rattle.sva_model.specs.StateChanges.{dropped_arrived, discarded, stale_if, filed_as, sent_as, marked, cut_off, disables, extent_of, scope_of}
use Rattle.sva_model.specs.StateChanges.{end_of, binding_of, count_field, is_replaced}

-- what one endpoint or its unit does alone
pub data LocalAct : Type 0 where
  -- the host
  Bind : (binding space pasid : ℕ) → LocalAct
  Stop : (binding : ℕ) → LocalAct
  Drain : (binding cookie : ℕ) → LocalAct
  Invalidate : (binding cookie : ℕ) → LocalAct
  Quieten : (binding : ℕ) → LocalAct
  Release : (binding : ℕ) → LocalAct
  Send : (order itag : ℕ) → LocalAct
  Pass : (wait : ℕ) → LocalAct
  File : (page_request : ℕ) → LocalAct
  Reset : LocalAct
  Hand : (group worker : ℕ) → LocalAct
  Respond : (group : ℕ) (code : Code) → LocalAct
  Discard : (group : ℕ) → LocalAct
  -- the endpoint
  Ask : (binding page tag : ℕ) → LocalAct
  Begin : (request mapping slot : ℕ) → LocalAct
  End : (used : ℕ) → LocalAct
  Evict : (request : ℕ) → LocalAct
  Group : (binding index page : ℕ) (read write last : Bool) → LocalAct
  Request : (group page : ℕ) (read write last : Bool) → LocalAct
  Finish : (names : ℕ → Bool) (vector count : ℕ) → LocalAct
  Quit : (binding : ℕ) → LocalAct
  -- deliveries, each of a message in flight
  Start_arrives : (message binding : ℕ) → LocalAct
  Stop_arrives : (message binding : ℕ) → LocalAct
  Reset_arrives : (message : ℕ) → LocalAct
  Keep : (message request mapping : ℕ) → LocalAct
  Forget : (message request : ℕ) → LocalAct
  Take : (message order : ℕ) → LocalAct
  Answered : (message group : ℕ) (code : Code) → LocalAct
  Complete : (message request : ℕ) (found : Option ℕ) (answer : Message) → LocalAct
  Count : (message : ℕ) (names : ℕ → Bool) → LocalAct
  Arrive : (message page_request : ℕ) → LocalAct
  Miss : (message page_request : ℕ) → LocalAct
  Mark : (message binding : ℕ) → LocalAct
  Ignore : (message : ℕ) → LocalAct
  Reopen : (message : ℕ) → LocalAct

-- what a step does, one after another
pub data Act : Type 0 where
  NewSpace : Act
  DropSpace : (space : ℕ) → Act
  Map : (space page frame : ℕ) (write : Bool) → Act
  -- the pages of `count` ranges of 2^order pages, one behind another, from `page` on
  Unmap : (space page count order : ℕ) → Act
  NewBinding : (endpoint : ℕ) → Act
  NewJob : (endpoint group : ℕ) → Act
  Hold : (worker job : ℕ) → Act
  LetGo : (worker : ℕ) → Act
  AtEndpoint : (endpoint : ℕ) (local_act : LocalAct) → Act

-- an endpoint with its unit after what it does alone; `next` is the name of the next message
abbrev pub act_alone : Endpoint → (next : ℕ) → LocalAct → Endpoint
act_alone part next (Bind binding space pasid) =
    record part {
      stage = put part.stage binding Live;
      space = put part.space binding space;
      pasid = put part.pasid binding pasid;
      at_pasid = put part.at_pasid pasid (Some binding);
      message = put part.message next (Some (StartOf binding));
      carried = put part.carried next (StartMessage pasid);
    }
act_alone part next (Stop binding) =
    record part {
      stage = put part.stage binding (Stopping false);
      message = put part.message next (Some (StopOf binding));
      carried = put part.carried next (StopMessage (part.pasid binding));
    }
act_alone part next (Drain binding cookie) =
    record part {
      stage = put part.stage binding (Draining part.orders);
      orders = suc part.orders;
      order = put part.order part.orders (Wait cookie true);
      order_state = put part.order_state part.orders Queued;
      waits_end = suc cookie;
    }
act_alone part next (Invalidate binding cookie) =
    record part {
      stage = put part.stage binding (Invalidating part.orders (suc part.orders));
      orders = suc (suc part.orders);
      order = put (put part.order part.orders (PasidOf binding)) (suc part.orders) (Wait cookie false);
      order_state = put (put part.order_state part.orders Queued) (suc part.orders) Queued;
      waits_end = suc cookie;
    }
act_alone part next (Quieten binding) = record part { stage = put part.stage binding Quiet }
act_alone part next (Release binding) = record part { stage = put part.stage binding Released; at_pasid = put part.at_pasid (part.pasid binding) None }
act_alone part next (Send order itag) =
    record part {
      order_state = put part.order_state order Sent;
      invalidate_message = put part.invalidate_message order next;
      itag = put part.itag order itag;
      at_itag = put part.at_itag itag (Some order);
      message = put part.message next (Some (InvalidateOf order));
      carried = put part.carried next (InvalidateMessage itag (part.pasid (binding_of (part.order order))) (scope_of (extent_of (part.order order))));
    }
act_alone part next (Pass wait) = record part { order_state = put part.order_state wait Done; front = end_of (part.order wait) }
act_alone part next (File page_request) =
    record part {
      page_request = put part.page_request page_request Filed;
      filings = suc part.filings;
      filing = put part.filing part.filings page_request;
      filed_under = put part.filed_under (part.group_of page_request) (part.asker (part.group_of page_request));
      host_group = put part.host_group (part.group_of page_request) (filed_as (part.is_last page_request));
    }
act_alone part next Reset =
    record part {
      phase = ResetSent next;
      order_state = λ k. void_queued (part.order_state k);
      page_request = λ r. dropped_arrived (part.page_request r);
      host_group = λ g. discarded (part.host_group g);
      message = put part.message next (Some FunctionReset);
      carried = put part.carried next ResetMessage;
    }
act_alone part next (Hand group worker) = record part { host_group = put part.host_group group (InHand worker) }
act_alone part next (Respond group code) =
    record part {
      host_group = put part.host_group group Replied;
      responses = put part.responses group (suc (part.responses group));
      response_message = put part.response_message group next;
      message = put part.message next (Some (ResponseOf group code));
      carried = put part.carried next (ResponseMessage (part.pasid (part.filed_under group)) (part.index group) code);
    }
act_alone part next (Discard group) = record part { host_group = put part.host_group group Discarded }
act_alone part next (Ask binding page tag) =
    record part {
      requests = suc part.requests;
      request_binding = put part.request_binding part.requests binding;
      request_page = put part.request_page part.requests page;
      request_tag = put part.request_tag part.requests tag;
      request = put part.request part.requests Out;
      request_message = put part.request_message part.requests next;
      at_tag = put part.at_tag tag (Some part.requests);
      message = put part.message next (Some (RequestOf part.requests));
      carried = put part.carried next (RequestMessage tag (part.pasid binding) page);
    }
act_alone part next (Begin request mapping slot) =
    record part {
      uses = suc part.uses;
      use_binding = put part.use_binding part.uses (part.request_binding request);
      use_mapping = put part.use_mapping part.uses mapping;
      use_slot = put part.use_slot part.uses slot;
      use_state = put part.use_state part.uses Running;
      at_slot = put part.at_slot slot (Some part.uses);
    }
act_alone part next (End used) = record part { use_state = put part.use_state used Ended; at_slot = put part.at_slot (part.use_slot used) None }
act_alone part next (Evict request) = record part { held = put part.held request None }
act_alone part next (Group binding index page read write last) =
    record part {
      groups = suc part.groups;
      asker = put part.asker part.groups binding;
      index = put part.index part.groups index;
      first_request = put part.first_request part.groups part.page_requests;
      group = put part.group part.groups (sent_as last);
      at_index = put part.at_index index (Some part.groups);
      page_requests = suc part.page_requests;
      group_of = put part.group_of part.page_requests part.groups;
      asked_page = put part.asked_page part.page_requests page;
      asks_read = put part.asks_read part.page_requests read;
      asks_write = put part.asks_write part.page_requests write;
      is_last = put part.is_last part.page_requests last;
      page_request = put part.page_request part.page_requests InFlight;
      page_request_message = put part.page_request_message part.page_requests next;
      message = put part.message next (Some (PageRequestOf part.page_requests));
      carried = put part.carried next (PageRequestMessage (part.pasid binding) index page read write last);
    }
act_alone part next (Request group page read write last) =
    record part {
      page_requests = suc part.page_requests;
      group_of = put part.group_of part.page_requests group;
      asked_page = put part.asked_page part.page_requests page;
      asks_read = put part.asks_read part.page_requests read;
      asks_write = put part.asks_write part.page_requests write;
      is_last = put part.is_last part.page_requests last;
      page_request = put part.page_request part.page_requests InFlight;
      page_request_message = put part.page_request_message part.page_requests next;
      group = put part.group group (sent_as last);
      message = put part.message next (Some (PageRequestOf part.page_requests));
      carried = put part.carried next (PageRequestMessage (part.pasid (part.asker group)) (part.index group) page read write last);
    }
act_alone part next (Finish names vector count) =
    record part {
      order_state = λ k. completing_if (names k) count (part.order_state k);
      message = put_range part.message next count (λ j. Some (InvalidatedOf names));
      carried = put_range part.carried next count (λ j. InvalidatedMessage vector (count_field count));
    }
act_alone part next (Quit binding) =
    record part {
      pasid_state = put part.pasid_state binding Off;
      group = λ g. stale_if (part.asker g == binding) (part.group g);
      message = put part.message next (Some (MarkerOf binding));
      carried = put part.carried next (MarkerMessage (part.pasid binding));
    }
act_alone part next (Start_arrives message binding) = record part { pasid_state = put part.pasid_state binding On; message = put part.message message None }
act_alone part next (Stop_arrives message binding) = record part { pasid_state = put part.pasid_state binding Ending; message = put part.message message None }
act_alone part next (Reset_arrives message) =
    record part {
      phase = Cleared next;
      pasid_state = λ b. Off;
      request = λ r. Over;
      at_tag = λ t. None;
      held = λ r. None;
      use_state = λ u. killed (part.use_state u);
      group = λ g. Closed;
      at_index = λ t. None;
      is_disabled = false;
      order_state = λ k. lapse (part.order_state k);
      message = put (put part.message message None) next (Some ResetDone);
      carried = put part.carried next ResetDoneMessage;
    }
act_alone part next (Keep message request mapping) =
    record part {
      request = put part.request request Over;
      at_tag = put part.at_tag (part.request_tag request) None;
      held = put (λ x. none_if (is_replaced part request x) (part.held x)) request (Some mapping);
      message = put part.message message None;
    }
act_alone part next (Forget message request) =
    record part { request = put part.request request Over; at_tag = put part.at_tag (part.request_tag request) None; message = put part.message message None }
act_alone part next (Take message order) =
    record part {
      order_state = put part.order_state order (Taken part.uses);
      held = λ r. none_if (covers (part.order order) (part.request_binding r) (part.request_page r)) (part.held r);
      request = λ r. doom_if (covers (part.order order) (part.request_binding r) (part.request_page r)) (part.request r);
      message = put part.message message None;
    }
act_alone part next (Answered message group code) =
    record part {
      group = put part.group group Closed;
      at_index = put part.at_index (part.index group) None;
      is_disabled = part.is_disabled || disables code;
      message = put part.message message None;
    }
act_alone part next (Complete message request found answer) =
    record part {
      request_message = put part.request_message request next;
      message = put (put part.message message None) next (Some (CompletionOf request found));
      carried = put part.carried next answer;
    }
act_alone part next (Count message names) =
    record part {
      order_state = λ k. counted_if (names k) (part.order_state k);
      at_itag = λ t. unless (λ k. names k && is_last_left (part.order_state k)) (part.at_itag t);
      message = put part.message message None;
    }
act_alone part next (Arrive message page_request) =
    record part {
      page_request = put part.page_request page_request Arrived;
      arrivals = suc part.arrivals;
      arrival = put part.arrival part.arrivals page_request;
      arrived_as = put part.arrived_as page_request part.arrivals;
      message = put part.message message None;
    }
act_alone part next (Miss message page_request) =
    record part { page_request = put part.page_request page_request Dropped; message = put part.message message None }
act_alone part next (Mark message binding) =
    record part { stage = put part.stage binding (marked (part.stage binding)); message = put part.message message None }
act_alone part next (Ignore message) = record part { message = put part.message message None }
act_alone part next (Reopen message) =
    record part {
      phase = Open;
      resets = suc part.resets;
      stage = λ b. cut_off (part.stage b);
      order_state = λ k. void_undone (part.order_state k);
      front = part.waits_end;
      at_itag = λ t. None;
      message = put part.message message None;
    }

-- how many messages it sends
abbrev pub sends : LocalAct → ℕ
sends (Bind binding space pasid) = 1
sends (Stop binding) = 1
sends (Send order itag) = 1
sends Reset = 1
sends (Respond group code) = 1
sends (Ask binding page tag) = 1
sends (Group binding index page read write last) = 1
sends (Request group page read write last) = 1
sends (Finish names vector count) = count
sends (Quit binding) = 1
sends (Reset_arrives message) = 1
sends (Complete message request found answer) = 1
sends _ = 0

-- how many cookies it gives out
abbrev pub cookies_of : LocalAct → ℕ
cookies_of (Drain binding cookie) = 1
cookies_of (Invalidate binding cookie) = 1
cookies_of _ = 0

-- the world after an act
abbrev pub act : World → Act → World
act world NewSpace = record world { spaces = suc world.spaces; is_live = put world.is_live world.spaces true }
act world (DropSpace space) =
    record world { is_live = put world.is_live space false; mappings = without_pages world.mappings space (λ q. true) (λ e. Nothing) }
act world (Map space page frame write) =
    let ms = world.mappings in
    record world {
      mappings =
          record {
            made = suc ms.made;
            space = put ms.space ms.made space;
            page = put ms.page ms.made page;
            frame = put ms.frame ms.made frame;
            write = put ms.write ms.made write;
            state = put ms.state ms.made Present;
            at = put ms.at space (put (ms.at space) page (Some ms.made));
            latest = put ms.latest frame (Some ms.made);
          };
    }
act world (Unmap space page count order) =
    record world {
      mappings = without_pages world.mappings space (in_range page (count * 2 ^ order)) (λ e. owed_by (world.part e) count (bound world e space));
      cookies = world.cookies + count_below world.config.endpoints (submits world space);
      part = part_after_unmap world space page count order;
    }
act world (NewBinding endpoint) = record world { bindings = suc world.bindings; endpoint_of = put world.endpoint_of world.bindings endpoint }
act world (NewJob endpoint group) = record world { jobs = suc world.jobs; job = put world.job world.jobs (record { endpoint = endpoint; group = group }) }
act world (Hold worker job) = record world { hand = put world.hand worker (Some job) }
act world (LetGo worker) = record world { hand = put world.hand worker None }
act world (AtEndpoint endpoint local_act) =
    record world {
      cookies = world.cookies + cookies_of local_act;
      messages = world.messages + sends local_act;
      link_of = put_range world.link_of world.messages (sends local_act) (λ j. endpoint);
      part = put world.part endpoint (act_alone (world.part endpoint) world.messages local_act);
    }
