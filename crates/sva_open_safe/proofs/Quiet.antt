-- What is wrong with nothing, thing by thing: there the test of a moment holds.
use Rattle.std.proofs.Common.{◌≡◌, ℕ, Bool, true, false, not, Option, Some, None, List, [], ◌∷◌, length, refl, ap, sym, ◌∙◌, ◌+◌}
use Rattle.std.proofs.lemmas.Iterator.Adapters.{position_from-zero}
use Rattle.std.proofs.lemmas.List.Folds.{find_at}
use Rattle.std.specs.Prelude.{◌==◌, ◌&&◌, ◌||◌, cond, find, if◌then◌else◌, is_none, is_some, nat_lt, option_and_then, option_map, position, slice_get}
use Rattle.std.specs.List.{list_all, position_from, position_or_len}
use Rattle.sva_open.specs.World.{Open, Part, group_at, is_off, or_else}
use Rattle.sva_open.specs.Host.{is_joined}
use Rattle.sva_open.specs.Checks.{is_answer_owned, is_current_at, is_entry_owned, is_its_end, is_freed, is_good, is_good_arrived}
use Rattle.sva_open.specs.Checks.{is_good_entry, is_good_kept, is_good_request, is_good_work, is_its_own, is_owned, is_present, is_right}
use Rattle.sva_open.specs.Checks.{is_good_filed, is_good_received, is_of_endpoint, is_space_there, joins_own, joins_own_group}
use Rattle.sva_open.specs.declared.descriptors.Arrived.{Arrived}
use Rattle.sva_open.specs.declared.descriptors.Filed.{Filed}
use Rattle.sva_open.specs.declared.descriptors.Received.{Received}
use Rattle.sva_open.specs.declared.descriptors.Received.TheVariants.{Request as Asked, Drain}
use Rattle.sva_open.specs.declared.frames.Target.{Target}
use Rattle.sva_open.specs.declared.frames.Tenure.{Tenure}
use Rattle.sva_open.specs.declared.frames.Translation.{Translation}
use Rattle.sva_open.specs.declared.messages.Message.{Message}
use Rattle.sva_open.specs.declared.messages.Message.TheVariants as message
use Rattle.sva_open.specs.declared.messages.Sent.{Sent}
use Rattle.sva_open.specs.declared.rows.Entry.{Entry}
use Rattle.sva_open.specs.declared.rows.KeptEntry.{KeptEntry}
use Rattle.sva_open.specs.declared.rows.Row.{Row}
use Rattle.sva_open.specs.declared.settings.Settings.{Settings}
use Rattle.sva_open.specs.declared.works.Group.{Group}
use Rattle.sva_open.specs.declared.works.Request.{Request}
use Rattle.sva_open.specs.declared.works.Work.{Work}
use Rattle.sva_open.specs.declared.works.Work.TheVariants.{Use, Taken, Draining}
use Rattle.sva_open_safe.specs.Wrongs as wrongs
use Rattle.sva_open_safe.specs.declared.wrongs.Sort.{Sort}
use Rattle.sva_open_safe.specs.declared.wrongs.Sort.TheVariants as sort
use Rattle.sva_open_safe.specs.declared.wrongs.Thing.TheVariants as thing
use Rattle.sva_open_safe.specs.declared.wrongs.Wrong.{Wrong}
use Rattle.sva_open_safe.specs.declared.wrongs.Wrong.TheVariants as wrong

-- ---- tests

pub both : (a b : Bool) → a && b ≡ true → (a ≡ true) × (b ≡ true)
both true b h = (refl, h)
both false b h = absurd (cc)

pub and : (a b : Bool) → a ≡ true → b ≡ true → a && b ≡ true
and true b h k = k
and false b h k = absurd (cc)

-- nothing is wrong
abbrev pub quiet : Option Wrong → Bool
quiet None = true
quiet (Some it) = false

pub none_of : (found : Option Wrong) → quiet found ≡ true → found ≡ None
none_of None h = refl
none_of (Some it) h = absurd (cc)

pub neither : (a b : Option Wrong) → or_else a b ≡ None → (a ≡ None) × (b ≡ None)
neither None b h = (refl, h)
neither (Some it) b h = absurd (cc)

pub none : (a b : Option Wrong) → a ≡ None → b ≡ None → or_else a b ≡ None
none None b h k = k
none (Some it) b h k = absurd (cc)

-- ---- lists

swap : (a b c d e : Bool) → e ≡ c && d → (a && b) && e ≡ (a && c) && (b && d)
swap true true c d e h = h
swap true false true d e h = refl
swap true false false d e h = refl
swap false b c d e h = refl

pub each_and : {X : Type 0} (p q : X → Bool) (xs : List X) → list_all (λ x. p x && q x) xs ≡ list_all p xs && list_all q xs
each_and p q [] = refl
each_and p q (x ∷ xs) = swap (p x) (q x) (list_all p xs) (list_all q xs) _ (each_and p q xs)

pub each_same : {X : Type 0} (p q : X → Bool) → ((x : X) → p x ≡ q x) → (xs : List X) → list_all p xs ≡ list_all q xs
each_same p q same [] = refl
each_same p q same (x ∷ xs) = ap (λ b. b && list_all p xs) (same x) ∙ ap (λ b. q x && b) (each_same p q same xs)

-- a test that is two others
pub each_of_two : {X : Type 0} (good p q : X → Bool) → ((x : X) → good x ≡ p x && q x) → (xs : List X)
    → list_all good xs ≡ list_all p xs && list_all q xs
each_of_two good p q same xs = each_same good (λ x. p x && q x) same xs ∙ each_and p q xs

abbrev pub all_quiet : {X : Type 0} → (X → Option Wrong) → List X → Bool
all_quiet of xs = list_all (λ x. quiet (of x)) xs

quiet_in : {X : Type 0} (of : X → Option Wrong) (xs : List X) → quiet (wrongs.first_in of xs) ≡ all_quiet of xs
quiet_in of [] = refl
quiet_in of (x ∷ xs) = at (of x) refl (quiet_in of xs)
  where
    at : (found : Option Wrong) → of x ≡ found → quiet (wrongs.first_in of xs) ≡ all_quiet of xs
        → quiet (option_and_then of (cond (is_some found) (Some x) (find (λ y. is_some (of y)) xs))) ≡ quiet found && all_quiet of xs
    at None is rest = rest
    at (Some it) is rest = ap quiet is

pub in_quiet : {X : Type 0} (of : X → Option Wrong) (xs : List X) → wrongs.first_in of xs ≡ None → all_quiet of xs ≡ true
in_quiet of xs h = sym (quiet_in of xs) ∙ ap quiet h

pub in_none : {X : Type 0} (of : X → Option Wrong) (xs : List X) → all_quiet of xs ≡ true → wrongs.first_in of xs ≡ None
in_none of xs h = none_of _ (quiet_in of xs ∙ h)

abbrev pub no : {X : Type 0} → (X → Bool) → List X → Bool
no p xs = list_all (λ x. not (p x)) xs

placed_from : {X : Type 0} (p : X → Bool) (told : ℕ → Wrong) (i : ℕ) (xs : List X) → quiet (option_map told (position_from p i xs)) ≡ no p xs
placed_from p told i [] = refl
placed_from p told i (x ∷ xs) = at (p x) (placed_from p told (i + 1) xs)
  where
    at : (b : Bool) → quiet (option_map told (position_from p (i + 1) xs)) ≡ no p xs
        → quiet (option_map told (cond b (Some i) (position_from p (i + 1) xs))) ≡ not b && no p xs
    at true rest = refl
    at false rest = rest

pub placed : {X : Type 0} (p : X → Bool) (told : ℕ → Wrong) (xs : List X) → quiet (option_map told (position p xs)) ≡ no p xs
placed p told xs = ap (λ o. quiet (option_map told o)) (position_from-zero p xs) ∙ placed_from p told 0 xs

-- the first that passes
abbrev Found : {X : Type 0} → (X → Bool) → List X → Type 0
Found p xs = (x : _) × (find p xs ≡ Some x) × (p x ≡ true)

pub found : {X : Type 0} (p : X → Bool) (xs : List X) → no p xs ≡ false → Found p xs
found p [] h = absurd (cc)
found p (x ∷ xs) h = at (p x) refl h (found p xs)
  where
    at : (b : Bool) → p x ≡ b → not b && no p xs ≡ false → (no p xs ≡ false → Found p xs) → Found p (x ∷ xs)
    at true is k rest = (x, ap (λ c. cond c (Some x) (find p xs)) is, is)
    at false is k rest =
        let left = rest k in (left.0, ap (λ c. cond c (Some x) (find p xs)) is ∙ left.1, left.2)

-- ---- frames

led_by : (given write frozen present : Bool) (v w u : Wrong)
    → (given && (not write || frozen)) && present
    ≡ quiet (wrongs.if_so (not given) v) && (quiet (wrongs.if_so (write && not frozen) w) && quiet (wrongs.if_so (not present) u))
led_by false write frozen present v w u = refl
led_by true false frozen true v w u = refl
led_by true false frozen false v w u = refl
led_by true true true true v w u = refl
led_by true true true false v w u = refl
led_by true true false present v w u = refl

led : (target : Target) (now : Option Tenure) (present : Bool) (v w u : Wrong)
    → is_current_at target now && present
    ≡ quiet (wrongs.if_so (wrongs.is_given_away target now) v)
    && (quiet (wrongs.if_so (wrongs.is_frozen target now) w) && quiet (wrongs.if_so (not present) u))
led target None present v w u = refl
led target (Some now) present v w u =
    led_by (target.tenure.given == now.given) target.write (target.tenure.frozen == now.frozen) present v w u

pub good_held : (now : Open) (e : ℕ) (part : Part) (x : Translation)
    → is_good now.frames part x
    ≡ quiet (wrongs.held_wrong sort.Freed now e x) && (quiet (wrongs.held_wrong sort.Frozen now e x) && quiet (wrongs.held_left part e x))
good_held now e part x =
    led x.target (slice_get now.frames x.target.frame) (is_present part x.pasid x.owner) _ _ _

pub good_work : (now : Open) (e : ℕ) (part : Part) (x : Work)
    → is_good_work now.frames part x
    ≡ quiet (wrongs.work_wrong sort.Freed now e x) && (quiet (wrongs.work_wrong sort.Frozen now e x) && quiet (wrongs.work_left part e x))
good_work now e part (Use x) = led x.target (slice_get now.frames x.target.frame) (is_present part x.pasid x.owner) _ _ _
good_work now e part (Taken itag scope) = refl
good_work now e part (Draining barrier) = refl

unless : (present : Bool) (u : Wrong) → present ≡ quiet (wrongs.if_so (not present) u)
unless true u = refl
unless false u = refl

pub good_request : (e : ℕ) (part : Part) (x : Option Request) → is_good_request part x ≡ quiet (wrongs.request_left part e x)
good_request e part None = refl
good_request e part (Some request) = at request.is_doomed (is_present part request.pasid request.owner) _
  where
    at : (doomed present : Bool) (u : Wrong) → doomed || present ≡ quiet (if doomed then None else wrongs.if_so (not present) u)
    at true present u = refl
    at false present u = unless present u

-- ---- messages

only : (present : Bool) (u : Wrong) → present ≡ quiet (wrongs.if_so (not present) u) && true
only true u = refl
only false u = refl

one_of : (present : Bool) (u : Wrong) → present ≡ (quiet (wrongs.if_so (not present) u) && true) && true
one_of true u = refl
one_of false u = refl

downward : (is_gone present : Bool) (u : Wrong)
    → is_gone || present ≡ (quiet (if is_gone then None else wrongs.if_so (not present) u) && true) && true
downward true present u = refl
downward false present u = one_of present u

upward : (is_open present : Bool) (u : Wrong)
    → not is_open || present ≡ (quiet (if is_open then wrongs.if_so (not present) u else None) && true) && true
upward true present u = one_of present u
upward false present u = refl

no_group : (allows filed : Bool) (u : Wrong) → (filed && false) || (allows && true) ≡ quiet (wrongs.if_so (not allows) u) && true
no_group true true u = refl
no_group true false u = refl
no_group false true u = refl
no_group false false u = refl

a_group : (allows filed own finished : Bool) (u v : Wrong)
    → (filed && (own && finished)) || (allows && false)
    ≡ quiet (if filed && own then wrongs.if_so (not finished) u else Some v) && true
a_group allows true true true u v = refl
a_group true true true false u v = refl
a_group false true true false u v = refl
a_group true true false finished u v = refl
a_group false true false finished u v = refl
a_group true false own finished u v = refl
a_group false false own finished u v = refl

answered : (allows : Bool) (e index : ℕ) (filed : Bool) (number : ℕ) (group : Option (Option Group))
    → (filed && is_its_end number group) || (allows && is_none (group_at group))
    ≡ quiet (wrongs.group_met allows e index filed number group) && true
answered allows e index filed number None = no_group allows filed (wrong.NoGroup e index)
answered allows e index filed number (Some None) = no_group allows filed (wrong.NoGroup e index)
answered allows e index filed number (Some (Some group)) = a_group allows filed (number == group.number) group.is_finished _ _

-- a completion that leads somewhere
completed_by : (own doomed given write frozen : Bool) (v w u : Wrong)
    → own && (doomed || (given && (not write || frozen)))
    ≡ quiet (if own && not doomed then wrongs.if_so (not given) v else None)
    && (quiet (if own && not doomed then wrongs.if_so (write && not frozen) w else None) && quiet (wrongs.if_so (not own) u))
completed_by false doomed given write frozen v w u = refl
completed_by true true given write frozen v w u = refl
completed_by true false false write frozen v w u = refl
completed_by true false true false frozen v w u = refl
completed_by true false true true true v w u = refl
completed_by true false true true false v w u = refl

completed_at : (target : Target) (now : Option Tenure) (own doomed : Bool) (v w u : Wrong)
    → own && (doomed || is_current_at target now)
    ≡ quiet (if own && not doomed then wrongs.if_so (wrongs.is_given_away target now) v else None)
    && (quiet (if own && not doomed then wrongs.if_so (wrongs.is_frozen target now) w else None) && quiet (wrongs.if_so (not own) u))
completed_at target None true true v w u = refl
completed_at target None true false v w u = refl
completed_at target None false doomed v w u = refl
completed_at target (Some now) own doomed v w u =
    completed_by own doomed (target.tenure.given == now.given) target.write (target.tenure.frozen == now.frozen) v w u

own_or_not : (own doomed : Bool) (u : Wrong) → own && (doomed || true) ≡ quiet (wrongs.if_so (not own) u)
own_or_not true true u = refl
own_or_not true false u = refl
own_or_not false doomed u = refl

abbrev arrives : Sort → Open → (e : ℕ) → Part → Sent → (page : ℕ) → Option Target → Option (Option Request) → Option Wrong
arrives of now e part one page None request = None
arrives of now e part one page (Some target) request = wrongs.arrives_wrong of now e (one.number == part.time) page target request

completed : (now : Open) (e : ℕ) (part : Part) (one : Sent) (tag page : ℕ) (target : Option Target) (request : Option (Option Request))
    → is_its_own now.frames part one page target request
    ≡ quiet (arrives sort.Freed now e part one page target request) && (quiet (arrives sort.Frozen now e part one page target request)
    && quiet (wrongs.request_met e tag (one.number == part.time) page request))
completed now e part one tag page None None = refl
completed now e part one tag page None (Some None) = refl
completed now e part one tag page None (Some (Some request)) =
    own_or_not (wrongs.answers (one.number == part.time) page request) request.is_doomed _
completed now e part one tag page (Some target) None = refl
completed now e part one tag page (Some target) (Some None) = refl
completed now e part one tag page (Some target) (Some (Some request)) =
    completed_at target (slice_get now.frames target.frame) (wrongs.answers (one.number == part.time) page request) request.is_doomed _ _ _

-- what may be wrong with a message, kind by kind
abbrev pub left_by : (e : ℕ) → Part → (owner : ℕ) → Message → Bool
left_by e part owner it =
    quiet (wrongs.message_left part e thing.Start owner it) && (quiet (wrongs.message_left part e thing.Stop owner it)
    && (quiet (wrongs.message_left part e thing.PageRequest owner it) && (quiet (wrongs.message_left part e thing.Marker owner it)
    && quiet (wrongs.message_left part e thing.Status owner it))))

abbrev pub met_by : Settings → (e : ℕ) → Part → Sent → Message → Bool
met_by settings e part one it =
    quiet (wrongs.response_met settings part e one.number it) && quiet (wrongs.completion_met part e (one.number == part.time) it)

abbrev led_to : Sort → Open → (e : ℕ) → Part → Sent → Message → Bool
led_to of now e part one it = quiet (wrongs.completion_wrong of now e part (one.number == part.time) it)

abbrev quiet_message : Open → (e : ℕ) → Part → Sent → Message → Bool
quiet_message now e part one it =
    led_to sort.Freed now e part one it && (led_to sort.Frozen now e part one it
    && (left_by e part one.owner it && met_by now.settings e part one it))

pub right : (now : Open) (e : ℕ) (part : Part) (one : Sent) (it : Message)
    → is_right now.settings now.frames part one it ≡ quiet_message now e part one it
right now e part one (message.Start pasid) = downward part.is_gone (is_present part pasid one.owner) _
right now e part one (message.Stop pasid) = downward part.is_gone (is_present part pasid one.owner) _
right now e part one message.Reset = refl
right now e part one (message.Completion tag page None) = completed now e part one tag page None (slice_get part.requests tag)
right now e part one (message.Completion tag page (Some target)) = completed now e part one tag page (Some target) (slice_get part.requests tag)
right now e part one (message.Invalidate itag scope) = refl
right now e part one (message.Response index fails filed) =
    answered (wrongs.may_find_none now.settings part) e index filed one.number (slice_get part.groups index)
right now e part one (message.Request tag pasid page) = refl
right now e part one (message.Invalidated itag) = refl
right now e part one (message.PageRequest request) = upward part.is_open (is_present part request.pasid one.owner) _
right now e part one (message.Marker pasid) = upward part.is_open (is_present part pasid one.owner) _
right now e part one (message.Status pasid) = only (is_present part pasid one.owner) _
right now e part one message.ResetDone = refl
right now e part one (message.Barrier barrier) = refl
right now e part one (message.Passed barrier) = refl

-- ---- PASIDs

owned_by : (entry freed answer goes : Bool) (u : Wrong)
    → (entry && not freed) && (answer && goes)
    ≡ not (not answer) && (not (not entry) && (not (not goes) && not (is_some (wrongs.if_so freed u))))
owned_by true true true true u = refl
owned_by true true true false u = refl
owned_by true true false goes u = refl
owned_by true false true true u = refl
owned_by true false true false u = refl
owned_by true false false goes u = refl
owned_by false freed true goes u = refl
owned_by false freed false goes u = refl

owned_at : (freed : List ℕ) (row : Row) (entry : Option Entry) (answer : Option ℕ) (goes : Bool)
    → is_entry_owned freed row entry && (is_answer_owned row answer && goes)
    ≡ not (wrongs.is_other row.owner answer) && (not (wrongs.is_other row.owner (option_map (λ (it : Entry). it.owner) entry))
    && (not (not goes) && not (is_some (wrongs.entry_walked freed 0 0 entry))))
owned_at freed row None None goes = owned_by true false true goes (wrong.Goes 0 0)
owned_at freed row None (Some own) goes = owned_by true false (own == row.owner) goes (wrong.Goes 0 0)
owned_at freed row (Some entry) None goes = owned_by (entry.owner == row.owner) (is_freed freed entry.space) true goes _
owned_at freed row (Some entry) (Some own) goes = owned_by (entry.owner == row.owner) (is_freed freed entry.space) (own == row.owner) goes _

pub owned : (freed : List ℕ) (row : Row)
    → is_owned freed row
    ≡ not (wrongs.is_answer_left row) && (not (wrongs.is_entry_left row) && (not (wrongs.is_going row) && not (wrongs.is_walked freed row)))
owned freed row = owned_at freed row row.entry row.answer (is_off row.state || (row.user == row.owner))

walked_entry : (freed : List ℕ) (e k : ℕ) (entry : Option Entry) → is_some (wrongs.entry_walked freed 0 0 entry) ≡ true
    → quiet (wrongs.entry_walked freed e k entry) ≡ false
walked_entry freed e k None h = absurd (cc)
walked_entry freed e k (Some entry) h = at (is_freed freed entry.space) _ _ h
  where
    at : (so : Bool) (u w : Wrong) → is_some (wrongs.if_so so u) ≡ true → quiet (wrongs.if_so so w) ≡ false
    at true u w k = refl
    at false u w k = absurd (cc)

position_is : {X : Type 0} (p : X → Bool) (xs : List X) (k : ℕ) → position p xs ≡ Some k → position_or_len p xs ≡ k
position_is p xs k is = at (nat_lt (position_or_len p xs) (length xs)) (position_or_len p xs) is
  where
    at : (b : Bool) (m : ℕ) → cond b (Some m) None ≡ Some k → m ≡ k
    at true m h = cc
    at false m h = absurd (cc)

pub walked : (freed : List ℕ) (e : ℕ) (part : Part)
    → quiet (wrongs.rows_walked freed e part (position (wrongs.is_walked freed) part.rows)) ≡ no (wrongs.is_walked freed) part.rows
walked freed e part = at (position (wrongs.is_walked freed) part.rows) refl
  where
    at : (o : Option ℕ) → position (wrongs.is_walked freed) part.rows ≡ o
        → quiet (wrongs.rows_walked freed e part o) ≡ no (wrongs.is_walked freed) part.rows
    at None is = sym (ap (λ o. quiet (option_map (λ k. wrong.Goes 0 k) o)) is) ∙ placed (wrongs.is_walked freed) (λ k. wrong.Goes 0 k) part.rows
    at (Some k) is =
        let some : no (wrongs.is_walked freed) part.rows ≡ false =
        sym (placed (wrongs.is_walked freed) (λ k. wrong.Goes 0 k) part.rows) ∙ ap (λ o. quiet (option_map (λ k. wrong.Goes 0 k) o)) is in
        let row = found (wrongs.is_walked freed) part.rows some in
        let there : slice_get part.rows k ≡ Some row.0 =
        sym (ap (slice_get part.rows) (position_is (wrongs.is_walked freed) part.rows k is)) ∙ sym (find_at (wrongs.is_walked freed) part.rows) ∙ row.1 in
        ap (λ o. quiet (wrongs.row_walked freed e k o)) there ∙ walked_entry freed e k row.0.entry row.2 ∙ sym some

-- ---- what the unit has

pub good_arrived : (e : ℕ) (part : Part) (one : Arrived) → is_good_arrived part one ≡ quiet (wrongs.arrived_left part e one)
good_arrived e part one = at (is_of_endpoint part.endpoint one)
  where
    at : (own : Bool) → not own || is_present part one.request.pasid one.owner
        ≡ quiet (if own then wrongs.left_of part e thing.Queued one.request.pasid one.owner else None)
    at true = unless (is_present part one.request.pasid one.owner) _
    at false = refl

pub good_received : (e : ℕ) (part : Part) (one : Received) → is_good_received part one ≡ quiet (wrongs.received_left part e one)
good_received e part (Asked one) = at (is_of_endpoint part.endpoint one)
  where
    at : (own : Bool) → not own || is_present part one.request.pasid one.owner
        ≡ quiet (if own then wrongs.left_of part e thing.Received one.request.pasid one.owner else None)
    at true = unless (is_present part one.request.pasid one.owner) _
    at false = refl
good_received e part (Drain name) = refl

pub good_filed : (settings : Settings) (domains : List ℕ) (e : ℕ) (part : Part) (one : Filed)
    → not settings.has_workers || is_good_filed domains part one
    ≡ quiet (wrongs.filed_left settings part e one) && quiet (wrongs.filed_served settings domains e one)
good_filed settings domains e part one =
    at settings.has_workers one.is_whole (is_present part one.pasid one.owner) one.space _
  where
    by_space : (space : Option ℕ) → is_space_there domains space ≡ quiet (wrongs.space_served domains e one.pasid space)
    by_space None = refl
    by_space (Some space) = gone (is_freed domains space) _
      where
        gone : (so : Bool) (u : Wrong) → not so ≡ quiet (wrongs.if_so so u)
        gone true u = refl
        gone false u = refl

    at : (works whole present : Bool) (space : Option ℕ) (u : Wrong)
        → not works || (not whole || (present && is_space_there domains space))
        ≡ quiet (if works && whole then wrongs.if_so (not present) u else None)
        && quiet (if works && whole then wrongs.space_served domains e one.pasid space else None)
    at false whole present space u = refl
    at true false present space u = refl
    at true true true space u = by_space space
    at true true false space u = refl

pub good_kept : (e : ℕ) (part : Part) (one : Translation) → is_good_kept part one ≡ quiet (wrongs.kept_left part e one)
good_kept e part one = unless (is_present part one.pasid one.owner) _

pub good_entry : (freed : List ℕ) (e : ℕ) (part : Part) (one : KeptEntry)
    → is_good_entry freed part one ≡ quiet (wrongs.kept_entry_left part e one) && quiet (wrongs.kept_walked freed e one)
good_entry freed e part one = at (is_present part one.pasid one.entry.owner) (is_freed freed one.entry.space) _ _
  where
    at : (present gone : Bool) (u w : Wrong) → present && not gone ≡ quiet (wrongs.if_so (not present) u) && quiet (wrongs.if_so gone w)
    at true true u w = refl
    at true false u w = refl
    at false gone u w = refl

pub joined : (e : ℕ) (part : Part) (first : Option Arrived) → joins_own_group part.endpoint part.filed first ≡ quiet (wrongs.joins part e first)
joined e part None = refl
joined e part (Some one) = if_own (is_of_endpoint part.endpoint one)
  where
    at : (joins own : Bool) (u : Wrong) → not joins || own ≡ quiet (wrongs.if_so (joins && not own) u)
    at true true u = refl
    at true false u = refl
    at false own u = refl

    own : (it : Filed) → joins_own one it ≡ quiet (wrongs.joined_by e one it)
    own it = at (is_joined one.request it) (it.number == one.number) _

    if_own : (b : Bool) → not b || list_all (joins_own one) part.filed ≡ quiet (if b then wrongs.first_in (wrongs.joined_by e one) part.filed else None)
    if_own true =
        each_same (joins_own one) (λ it. quiet (wrongs.joined_by e one it)) own part.filed ∙ sym (quiet_in (wrongs.joined_by e one) part.filed)
    if_own false = refl
