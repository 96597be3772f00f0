-- The permitted order of a link: the three rules of this project, and where posted requests stay in order one rule more.
use Rattle.std.specs.Prelude.{ℕ, Bool, true, false, List, take, ◌&&◌, ◌||◌, not}
use Rattle.std.specs.List.{list_any}
use Rattle.sva_open.specs.declared.messages.Message.{Message}
use Rattle.sva_open.specs.declared.messages.Message.TheVariants as message
use Rattle.sva_open.specs.declared.messages.Sent.{Sent}
use Rattle.sva_open.specs.declared.settings.Link.{Link}
use Rattle.sva_open.specs.declared.settings.Link.TheVariants.{Free, Posted}

-- is it sent by the endpoint?
abbrev pub goes_up : Message → Bool
goes_up (message.Start pasid) = false
goes_up (message.Stop pasid) = false
goes_up message.Reset = false
goes_up (message.Completion tag page target) = false
goes_up (message.Invalidate itag scope) = false
goes_up (message.Response index fails filed) = false
goes_up (message.Barrier barrier) = false
goes_up _ = true

abbrev pub is_completion : Message → Bool
is_completion (message.Completion tag page target) = true
is_completion _ = false

abbrev pub is_page_request : Message → Bool
is_page_request (message.PageRequest request) = true
is_page_request _ = false

-- Is it a posted request (PCI Express Base 5.0, section 2.4.1)? A translation request is non-posted, and a translation
-- completion is a completion; all others are messages or memory writes.
abbrev pub is_posted : Message → Bool
is_posted (message.Request tag pasid page) = false
is_posted (message.Completion tag page target) = false
is_posted _ = true

-- Must a message not overtake an older one of its endpoint? A page request that is the last of its group, and a marker,
-- overtake no page request; a start, a stop, a barrier and a reset overtake no message down but a translation
-- completion; a reset-done overtakes nothing. Nothing else is ordered.
abbrev pub stays_behind : Message → Message → Bool
stays_behind (message.PageRequest request) older = request.last && is_page_request older
stays_behind (message.Marker pasid) older = is_page_request older
stays_behind (message.Start pasid) older = not (goes_up older) && not (is_completion older)
stays_behind (message.Stop pasid) older = not (goes_up older) && not (is_completion older)
stays_behind (message.Barrier barrier) older = not (goes_up older) && not (is_completion older)
stays_behind message.Reset older = not (goes_up older) && not (is_completion older)
stays_behind message.ResetDone older = true
stays_behind _ older = false

abbrev pub is_same_way : Message → Message → Bool
is_same_way one other = (goes_up one && goes_up other) || (not (goes_up one) && not (goes_up other))

-- on a link that keeps posted requests in order nothing overtakes an older posted one that goes the same way
abbrev pub must_stay : Link → Message → Message → Bool
must_stay Free one older = stays_behind one older
must_stay Posted one older = stays_behind one older || (is_same_way one older && is_posted older)

abbrev pub holds_back : Link → Message → Sent → Bool
holds_back link one older = must_stay link one older.message

-- may the message at a place be delivered, with the older ones of its endpoint before it?
abbrev pub may_deliver : Link → List Sent → (place : ℕ) → Message → Bool
may_deliver link flight place one = not (list_any (holds_back link one) (take place flight))
