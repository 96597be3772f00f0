-- The permitted order of the link (this project's own rules, in place of the ordering rules of PCI Express Base 5.0,
-- section 2.4). Messages are numbered in the order of sending, and a smaller number is older.
use Rattle.std.specs.Prelude.{Bool, true, false}

-- the kinds of message, as far as the order reads them: of a page request, whether it is the last of its group
pub data MessageKind : Type 0 where
  StartKind : MessageKind
  StopKind : MessageKind
  ResetKind : MessageKind
  CompletionKind : MessageKind
  InvalidateKind : MessageKind
  ResponseKind : MessageKind
  RequestKind : MessageKind
  InvalidatedKind : MessageKind
  PageRequestKind : (last : Bool) → MessageKind
  MarkerKind : MessageKind
  ResetDoneKind : MessageKind

-- is it a page request, last of its group or not?
abbrev pub is_page_request : MessageKind → Bool
is_page_request (PageRequestKind last) = true
is_page_request _ = false

-- sent by the host to an endpoint, and no translation completion
abbrev pub is_order_down : MessageKind → Bool
is_order_down StartKind = true
is_order_down StopKind = true
is_order_down ResetKind = true
is_order_down InvalidateKind = true
is_order_down ResponseKind = true
is_order_down CompletionKind = false
is_order_down RequestKind = false
is_order_down InvalidatedKind = false
is_order_down (PageRequestKind last) = false
is_order_down MarkerKind = false
is_order_down ResetDoneKind = false

-- must a message of the first kind not overtake an older one of the second kind of the same endpoint?
-- A page request with L, or a marker, overtakes no page request; a start, a stop and a reset overtake no message down
-- other than a translation completion; a reset-done overtakes nothing. Nothing else is ordered.
abbrev pub stays_behind : MessageKind → MessageKind → Bool
stays_behind (PageRequestKind true) older = is_page_request older
stays_behind MarkerKind older = is_page_request older
stays_behind StartKind older = is_order_down older
stays_behind StopKind older = is_order_down older
stays_behind ResetKind older = is_order_down older
stays_behind ResetDoneKind older = true
stays_behind (PageRequestKind false) older = false
stays_behind CompletionKind older = false
stays_behind InvalidateKind older = false
stays_behind ResponseKind older = false
stays_behind RequestKind older = false
stays_behind InvalidatedKind older = false
