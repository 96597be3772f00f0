-- What the kind of a message says of its way and of its place in the order of the link.
use Rattle.std.specs.Prelude.{Bool, true, false, not}
use Rattle.sva_model.specs.LinkOrder.{MessageKind, StartKind, StopKind, ResetKind, CompletionKind, InvalidateKind, ResponseKind, RequestKind, InvalidatedKind}
use Rattle.sva_model.specs.LinkOrder.{PageRequestKind, MarkerKind, ResetDoneKind}
use Rattle.sva_msg.specs.declared.messages.Kind.{Kind}
use Rattle.sva_msg.specs.declared.messages.Kind.TheVariants.{Start, Stop, Reset, Completion, Invalidate, Response, Request, Invalidated, PageRequest}
use Rattle.sva_msg.specs.declared.messages.Kind.TheVariants.{Marker, ResetDone}

-- is a message of this kind sent by the endpoint to its host?
abbrev pub is_up : Kind → Bool
is_up (Request tag pasid page) = true
is_up (Invalidated vector count) = true
is_up (PageRequest request) = true
is_up (Marker pasid) = true
is_up ResetDone = true
is_up (Start pasid) = false
is_up (Stop pasid) = false
is_up Reset = false
is_up (Completion tag frame read write) = false
is_up (Invalidate itag pasid scope) = false
is_up (Response pasid index code) = false

-- is it sent by the host to the endpoint?
abbrev pub is_down : Kind → Bool
is_down kind = not (is_up kind)

-- what the order of the link reads of a kind
abbrev pub kind_of : Kind → MessageKind
kind_of (Start pasid) = StartKind
kind_of (Stop pasid) = StopKind
kind_of Reset = ResetKind
kind_of (Completion tag frame read write) = CompletionKind
kind_of (Invalidate itag pasid scope) = InvalidateKind
kind_of (Response pasid index code) = ResponseKind
kind_of (Request tag pasid page) = RequestKind
kind_of (Invalidated vector count) = InvalidatedKind
kind_of (PageRequest request) = PageRequestKind request.last
kind_of (Marker pasid) = MarkerKind
kind_of ResetDone = ResetDoneKind

-- is there an older message that one of this sort must not overtake?
abbrev pub is_ordered : MessageKind → Bool
is_ordered (PageRequestKind last) = last
is_ordered StartKind = true
is_ordered StopKind = true
is_ordered ResetKind = true
is_ordered MarkerKind = true
is_ordered ResetDoneKind = true
is_ordered CompletionKind = false
is_ordered InvalidateKind = false
is_ordered ResponseKind = false
is_ordered RequestKind = false
is_ordered InvalidatedKind = false
