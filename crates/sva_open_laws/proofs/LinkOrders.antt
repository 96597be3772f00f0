-- The open world's order of the link is MODEL's.
use Rattle.std.proofs.Common.{◌≡◌, refl, ap, ap₂, sym, ◌∙◌, ℕ, Bool, true, false}
use Rattle.std.specs.Prelude.{◌&&◌, not, Contains}
use Rattle.sva_model.specs.LinkOrder as model
use Rattle.sva_model.specs.LinkOrder.{MessageKind}
use Rattle.sva_model.specs.LinkOrder.MessageKind.{StartKind, StopKind, ResetKind, CompletionKind, InvalidateKind, ResponseKind, RequestKind, InvalidatedKind}
use Rattle.sva_model.specs.LinkOrder.MessageKind.{PageRequestKind, MarkerKind, ResetDoneKind}
use Rattle.sva_model.specs.Labels.{kind_of}
use Rattle.sva_model.specs.State.{Endpoint, Mappings, Subject}
use Rattle.sva_model.specs.State.Subject.{StartOf, StopOf, FunctionReset, CompletionOf, InvalidateOf, ResponseOf, RequestOf, InvalidatedOf}
use Rattle.sva_model.specs.State.Subject.{PageRequestOf, MarkerOf, ResetDone}
use Rattle.sva_open.specs.Order.{goes_up, is_completion, is_page_request, stays_behind}
use Rattle.sva_open.specs.declared.messages.Message.{Message}
use Rattle.sva_open.specs.declared.messages.Message.TheVariants as message
use Rattle.sva_open.specs.declared.messages.Sent.{Sent}
use Rattle.sva_open_laws.specs.AsOpen.{ended_of, sent_of}
use Rattle.sva_open_laws.specs.LinkOrders.{OrdersAreOne}
use Rattle.sva_open_laws.proofs.Gathered.{gathered, none_in, one_in}

-- the kind of a message; a status, which no world of MODEL's has in flight, is ordered as a translation request is; and so
-- is the answer to a barrier, which itself is ordered as a stop
abbrev pub kind_by : Message → MessageKind
kind_by (message.Start pasid) = StartKind
kind_by (message.Stop pasid) = StopKind
kind_by message.Reset = ResetKind
kind_by (message.Completion tag page target) = CompletionKind
kind_by (message.Invalidate itag scope) = InvalidateKind
kind_by (message.Response index fails filed) = ResponseKind
kind_by (message.Request tag pasid page) = RequestKind
kind_by (message.Invalidated itag) = InvalidatedKind
kind_by (message.PageRequest request) = PageRequestKind request.last
kind_by (message.Marker pasid) = MarkerKind
kind_by (message.Status pasid) = RequestKind
kind_by message.ResetDone = ResetDoneKind
kind_by (message.Barrier barrier) = StopKind
kind_by (message.Passed barrier) = RequestKind

page_alike : (m : Message) → is_page_request m ≡ model.is_page_request (kind_by m)
page_alike (message.Start pasid) = refl
page_alike (message.Stop pasid) = refl
page_alike message.Reset = refl
page_alike (message.Completion tag page target) = refl
page_alike (message.Invalidate itag scope) = refl
page_alike (message.Response index fails filed) = refl
page_alike (message.Request tag pasid page) = refl
page_alike (message.Invalidated itag) = refl
page_alike (message.PageRequest request) = refl
page_alike (message.Marker pasid) = refl
page_alike (message.Status pasid) = refl
page_alike message.ResetDone = refl
page_alike (message.Barrier barrier) = refl
page_alike (message.Passed barrier) = refl

down_alike : (m : Message) → (not (goes_up m) && not (is_completion m)) ≡ model.is_order_down (kind_by m)
down_alike (message.Start pasid) = refl
down_alike (message.Stop pasid) = refl
down_alike message.Reset = refl
down_alike (message.Completion tag page target) = refl
down_alike (message.Invalidate itag scope) = refl
down_alike (message.Response index fails filed) = refl
down_alike (message.Request tag pasid page) = refl
down_alike (message.Invalidated itag) = refl
down_alike (message.PageRequest request) = refl
down_alike (message.Marker pasid) = refl
down_alike (message.Status pasid) = refl
down_alike message.ResetDone = refl
down_alike (message.Barrier barrier) = refl
down_alike (message.Passed barrier) = refl

pub alike : (m older : Message) → stays_behind m older ≡ model.stays_behind (kind_by m) (kind_by older)
alike (message.Start pasid) older = down_alike older
alike (message.Stop pasid) older = down_alike older
alike message.Reset older = down_alike older
alike (message.Completion tag page target) older = refl
alike (message.Invalidate itag scope) older = refl
alike (message.Response index fails filed) older = refl
alike (message.Request tag pasid page) older = refl
alike (message.Invalidated itag) older = refl
alike (message.PageRequest request) older = by request.last
  where
    by : (last : Bool) → (last && is_page_request older) ≡ model.stays_behind (PageRequestKind last) (kind_by older)
    by true = page_alike older
    by false = refl
alike (message.Marker pasid) older = page_alike older
alike (message.Status pasid) older = refl
alike message.ResetDone older = refl
alike (message.Barrier barrier) older = down_alike older
alike (message.Passed barrier) older = refl

-- what is read off has the kind of what it speaks of
pub read_off : (ms : Mappings) (p : Endpoint) (x : Subject) (one : Sent) → Contains (sent_of ms p x) one → kind_by one.message ≡ kind_of p x
read_off ms p (StartOf b) one h = ap (λ (z : Sent). kind_by z.message) (sym (one_in _ one h))
read_off ms p (StopOf b) one h = ap (λ (z : Sent). kind_by z.message) (sym (one_in _ one h))
read_off ms p FunctionReset one h = ap (λ (z : Sent). kind_by z.message) (sym (one_in _ one h))
read_off ms p (CompletionOf r found) one h = ap (λ (z : Sent). kind_by z.message) (sym (one_in _ one h))
read_off ms p (InvalidateOf k) one h = ap (λ (z : Sent). kind_by z.message) (sym (one_in _ one h))
read_off ms p (ResponseOf g code) one h = ap (λ (z : Sent). kind_by z.message) (sym (one_in _ one h))
read_off ms p (RequestOf r) one h = ap (λ (z : Sent). kind_by z.message) (sym (one_in _ one h))
read_off ms p (InvalidatedOf names) one h =
    let x = gathered p.orders (λ k. ended_of p (names k) k) one h in
    ended (names x.0) x.0 x.2
  where
    ended : (b : Bool) (k : ℕ) → Contains (ended_of p b k) one → kind_by one.message ≡ InvalidatedKind
    ended true k c = ap (λ (z : Sent). kind_by z.message) (sym (one_in _ one c))
    ended false k c = absurd (none_in one c)
read_off ms p (PageRequestOf r) one h = ap (λ (z : Sent). kind_by z.message) (sym (one_in _ one h))
read_off ms p (MarkerOf b) one h = ap (λ (z : Sent). kind_by z.message) (sym (one_in _ one h))
read_off ms p ResetDone one h = ap (λ (z : Sent). kind_by z.message) (sym (one_in _ one h))

pub orders_are_one : OrdersAreOne
orders_are_one ms p newer older one other its ahead =
    alike one.message other.message ∙ ap₂ model.stays_behind (read_off ms p newer one its) (read_off ms p older other ahead)
