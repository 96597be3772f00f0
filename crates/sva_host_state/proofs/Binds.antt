-- A space is bound, by labels.
use Rattle.std.proofs.Common.{◌≡◌, refl, ap, sym, ◌∙◌, subst, ℕ, suc, ◌+◌, ◌<◌, ◌≤◌, ◌^◌, Bool, true, false, arith}
use Rattle.std.specs.Prelude.{cond, ◌==◌, not, nat_lt, is_some, is_none, is_err, IsSome, IsSomeAnd, if◌then◌else◌, Result, Ok, Err, Option, Some, None}
use Rattle.std.specs.Prelude.{option_map, option_and_then, List, [], ◌∷◌, ◌++◌, length, slice_get, slice_index_or}
use Rattle.std.proofs.lemmas.Bool.Decides.{nat_tests}
use Rattle.sva_step.specs.declared.answers.Answer.TheVariants as answer
use Rattle.sva_step.specs.declared.refusals.Refusal.{Refusal}
use Rattle.sva_step.specs.declared.refusals.Refusal.TheVariants as refusal
use Rattle.sva_step.specs.declared.steps.Step.TheVariants as step
use Rattle.sva_model.specs.Refusals.{Cause, unless_refused}
use Rattle.sva_model.specs.Wire.{Wire, BindingWire}
use Rattle.sva_labels.specs.Finding.{is_space, unit_of, bound_at, pasid_for}
use Rattle.sva_labels.specs.Causes.{causes_of, no_such_endpoint, no_such_space, resetting, numbers_spent}
use Rattle.sva_labels.specs.Host.{Decision, decide_of}
use Rattle.sva_labels.specs.Moves.{Move, all_moved}
use Rattle.sva_labels.specs.Outcomes.{label, bind_result, result_of}
use Rattle.sva_labels.specs.Sound.{IsSound}
use Rattle.sva_address_spaces.specs.Steps as memory
use Rattle.sva_msg.specs.declared.messages.Kind.{Kind}
use Rattle.sva_msg.specs.declared.messages.Kind.TheVariants.{Start}
use Rattle.sva_msg.specs.Bag.{InFlight, with_sent}
use Rattle.sva_pasid.specs.Places as places
use Rattle.sva_pasid.specs.Places.{begun}
use Rattle.sva_pasid.specs.Stages.{IsLive}
use Rattle.sva_pasid.specs.declared.places.TableEntry.{TableEntry}
use Rattle.sva_parts_by_labels.specs.Bindings.{binding_seen, bindings_seen}
use Rattle.sva_parts_by_labels.proofs.Bindings.{bindings_are_seen}
use Rattle.sva_host_state.specs.declared.host_state.HostState.TheInside.{Inside as HostState}
use Rattle.sva_host_state.specs.declared.host_state.Port.{Port}
use Rattle.sva_host_state.specs.Inner.{wire_of, IsHostState}
use Rattle.sva_host_state.specs.Steps.{Does, ByLabels, Sends, MayStep, PortFor}
use Rattle.sva_host_state.proofs.Deciding.{AreClear, all_clear, passed, refused_by}
use Rattle.sva_host_state.proofs.Ports.{port_found}
use Rattle.sva_host_state.proofs.Sent.{sent_seen, unsent_same}

-- The first causes don't hold, and the next one does; or none does.

stopped : (front rest : List Cause) (cause : Cause) → AreClear front → cause.0 ≡ true → unless_refused (front ++ cause ∷ rest) (tt {0}) ≡ Err cause.1
stopped [] rest cause clear holds = ap (λ (b : Bool). if b then Err cause.1 else unless_refused rest (tt {0})) holds
stopped (c ∷ front) rest cause clear holds =
    ap (λ (b : Bool). if b then Err c.1 else unless_refused (front ++ cause ∷ rest) (tt {0})) clear.0 ∙ stopped front rest cause clear.1 holds

free : (causes : List Cause) → AreClear causes → unless_refused causes (tt {0}) ≡ Ok tt
free [] clear = refl
free (c ∷ causes) clear = ap (λ (b : Bool). if b then Err c.1 else unless_refused causes (tt {0})) clear.0 ∙ free causes clear.1

-- Where the endpoint and the space are there, and the unit is open.

pub record CanBind (host : HostState) (e n : ℕ) : Type 0 where
  pub there : not (nat_lt e (length (wire_of host).parts)) ≡ false
  pub space : not (is_space (wire_of host) n) ≡ false
  pub is_open : not (unit_of (wire_of host) e).is_open ≡ false

pub can_bind : (host : HostState) (v : Wire) (e n at : ℕ) (port : Port) (b c : Bool) → IsHostState host → wire_of host ≡ v
    → PortFor v e (Ok at) → port ≡ slice_index_or host.ports.items at port
    → b ≡ memory.has_space host.address_spaces n → b ≡ true → c ≡ port.unit.unit.is_open → c ≡ true → CanBind host e n
can_bind host v e n at port b c h view for same has is_there tells is_open =
    let found = port_found host v e at port h view for same in
    record {
      there = ap not found.there;
      space = ap not (sym has ∙ is_there);
      is_open = ap (λ p. not p.unit.is_open) found.part ∙ ap not (sym tells ∙ is_open);
    }

pub some_mapped : {A B : Type 0} (f : A → B) (o : Option A) → is_some (option_map f o) ≡ is_some o
some_mapped f None = refl
some_mapped f (Some a) = refl

bound_seen : (host : HostState) (e n : ℕ) → is_some (bound_at (wire_of host) e n) ≡ is_some (places.place_between e n host.bindings)
bound_seen host e n = ap is_some (sym (((bindings_are_seen host.bindings).0 (wire_of host) refl).by_space e n))
    ∙ some_mapped binding_seen (places.place_between e n host.bindings)

pasid_seen : (host : HostState) (n : ℕ) → pasid_for (wire_of host) n ≡ places.lowest n host.bindings
pasid_seen host n = sym (((bindings_are_seen host.bindings).0 (wire_of host) refl).lowest n)

spent : (m n : ℕ) → m ≤ n → nat_lt m (n + 1) ≡ true
spent m n h = grind (arith, nat_tests)

left_over : (m n : ℕ) → n < m → nat_lt m (n + 1) ≡ false
left_over m n h = grind (arith, nat_tests)

abbrev bound : Wire → (e n : ℕ) → Cause
bound w e n = (is_some (bound_at w e n), refusal.AlreadyBound)

abbrev no_pasid : Wire → (n : ℕ) → Cause
no_pasid w n = (is_none (pasid_for w n), refusal.NoPasid)

pub already_bound : (host : HostState) (v : Wire) (e n : ℕ) → wire_of host ≡ v → CanBind host e n → is_some (places.place_between e n host.bindings) ≡ true
    → MayStep v (step.Bind e n) (Err refusal.AlreadyBound)
already_bound host v e n view can is =
    let w = wire_of host in
    subst (λ (u : Wire). MayStep u (step.Bind e n) (Err refusal.AlreadyBound)) view
    (sym
    (stopped (no_such_endpoint w e ∷ no_such_space w n ∷ resetting w e ∷ []) (no_pasid w n ∷ numbers_spent w.next_binding 1
    ∷ numbers_spent w.next_message 1 ∷ [])
    (bound w e n) (can.there, (can.space, (can.is_open, tt))) (bound_seen host e n ∙ is)))

pub out_of_pasids : (host : HostState) (v : Wire) (e n : ℕ) → wire_of host ≡ v → CanBind host e n → is_some (places.place_between e n host.bindings) ≡ false
    → is_none (places.lowest n host.bindings) ≡ true → MayStep v (step.Bind e n) (Err refusal.NoPasid)
out_of_pasids host v e n view can is none =
    let w = wire_of host in
    subst (λ (u : Wire). MayStep u (step.Bind e n) (Err refusal.NoPasid)) view
    (sym
    (stopped (no_such_endpoint w e ∷ no_such_space w n ∷ resetting w e ∷ bound w e n ∷ []) (numbers_spent w.next_binding 1
    ∷ numbers_spent w.next_message 1 ∷ [])
    (no_pasid w n) (can.there, (can.space, (can.is_open, (bound_seen host e n ∙ is, tt)))) (ap is_none (pasid_seen host n) ∙ none)))

pub bindings_spent : (host : HostState) (v : Wire) (e n : ℕ) → wire_of host ≡ v → CanBind host e n → is_some (places.place_between e n host.bindings) ≡ false
    → is_none (places.lowest n host.bindings) ≡ false → 2 ^ 63 ≤ host.next_binding → MayStep v (step.Bind e n) (Err refusal.NumbersSpent)
bindings_spent host v e n view can is some over =
    let w = wire_of host in
    subst (λ (u : Wire). MayStep u (step.Bind e n) (Err refusal.NumbersSpent)) view
    (sym
    (stopped (no_such_endpoint w e ∷ no_such_space w n ∷ resetting w e ∷ bound w e n ∷ no_pasid w n ∷ []) (numbers_spent w.next_message 1 ∷ [])
    (numbers_spent w.next_binding 1)
    (can.there, (can.space, (can.is_open, (bound_seen host e n ∙ is, (ap is_none (pasid_seen host n) ∙ some, tt))))) (spent (2 ^ 63) host.next_binding over)))

pub messages_spent : (host : HostState) (v : Wire) (e n : ℕ) → wire_of host ≡ v → CanBind host e n → is_some (places.place_between e n host.bindings) ≡ false
    → is_none (places.lowest n host.bindings) ≡ false → host.next_binding < 2 ^ 63 → 2 ^ 63 ≤ host.in_flight.next
    → MayStep v (step.Bind e n) (Err refusal.NumbersSpent)
messages_spent host v e n view can is some under over =
    let w = wire_of host in
    subst (λ (u : Wire). MayStep u (step.Bind e n) (Err refusal.NumbersSpent)) view
    (sym
    (stopped (no_such_endpoint w e ∷ no_such_space w n ∷ resetting w e ∷ bound w e n ∷ no_pasid w n ∷ numbers_spent w.next_binding 1 ∷ []) []
    (numbers_spent w.next_message 1) (
      can.there,
      (
        can.space,
        (can.is_open, (bound_seen host e n ∙ is, (ap is_none (pasid_seen host n) ∙ some, (left_over (2 ^ 63) host.next_binding under, tt)))),
      ),
    )
    (spent (2 ^ 63) host.in_flight.next over)))

pub binds : (host : HostState) (v : Wire) (e n : ℕ) → wire_of host ≡ v → CanBind host e n → is_some (places.place_between e n host.bindings) ≡ false
    → is_none (places.lowest n host.bindings) ≡ false → host.next_binding < 2 ^ 63 → host.in_flight.next < 2 ^ 63 → MayStep v (step.Bind e n) (Ok tt)
binds host v e n view can is some under less =
    subst (λ (u : Wire). MayStep u (step.Bind e n) (Ok tt)) view
    (sym
    (free (causes_of (wire_of host) (step.Bind e n)) (
      can.there,
      (
        can.space,
        (
          can.is_open,
          (
            bound_seen host e n
                ∙ is,
            (ap is_none (pasid_seen host n) ∙ some, (left_over (2 ^ 63) host.next_binding under, (left_over (2 ^ 63) host.in_flight.next less, tt))),
          ),
        ),
      ),
    )))

-- What follows where nothing refuses it.

pub bind_refused : (v : Wire) (e n : ℕ) (x : Refusal) → Err x ≡ unless_refused (causes_of v (step.Bind e n)) (tt {0}) → ByLabels v (step.Bind e n) (Err x) v
bind_refused v e n x refuses =
    refused_by (tt {0}) (causes_of v (step.Bind e n)) [] (result_of v (step.Bind e n)) v x (tt, (tt, (tt, (tt, (tt, (tt, (tt, tt))))))) (sym refuses)

some_there : {A : Type 0} (o : Option A) → is_none o ≡ false → IsSome o
some_there None h = absurd (cc (h))
some_there (Some a) h = refl

clear : (v : Wire) (e n : ℕ) → Ok tt ≡ unless_refused (causes_of v (step.Bind e n)) (tt {0}) → AreClear (causes_of v (step.Bind e n))
clear v e n allows = all_clear (tt {0}) (tt {0}) (causes_of v (step.Bind e n)) (sym allows)

pub has_pasid : (host : HostState) (v : Wire) (e n : ℕ) → wire_of host ≡ v → Ok tt ≡ unless_refused (causes_of v (step.Bind e n)) (tt {0})
    → IsSome (places.lowest n host.bindings)
has_pasid host v e n view allows =
    some_there (places.lowest n host.bindings)
    (ap is_none (sym (pasid_seen host n)) ∙ ap (λ (u : Wire). is_none (pasid_for u n)) view ∙ (clear v e n allows).1.1.1.1.0)

other_number : (m n : ℕ) → m < n → (m == n) ≡ false
other_number m n h = grind (arith, nat_tests)

-- no binding has the next number
pub is_fresh : (bindings : List TableEntry) (next : ℕ) → ((k : ℕ) (b : BindingWire) → slice_get (bindings_seen bindings) k ≡ Some b → b.binding < next)
    → places.place_of next bindings ≡ None
is_fresh [] next low = refl
is_fresh (p ∷ bindings) next low =
    ap (λ (b : Bool). cond b (Some p) (places.place_of next bindings)) (other_number p.binding next (low 0 (binding_seen p) refl))
    ∙ is_fresh bindings next (λ k b is. low (suc k) b is)

pub fresh_binding : (host : HostState) (v : Wire) → wire_of host ≡ v → IsSound v → places.place_of host.next_binding host.bindings ≡ None
fresh_binding host v view sound =
    is_fresh host.bindings host.next_binding
    (subst (λ (u : Wire). (k : ℕ) (b : BindingWire) → slice_get u.bindings k ≡ Some b → b.binding < u.next_binding) (sym view) sound.binding_low)

same_number : (n : ℕ) → (n == n) ≡ true
same_number n = grind (arith, nat_tests)

-- the binding that began last, found by its number
last_found : (bindings : List TableEntry) (e n b t : ℕ) → places.place_of b bindings ≡ None → places.place_of b (bindings ++ begun e n b t ∷ [])
    ≡ Some (begun e n b t)
last_found [] e n b t none = ap (λ (c : Bool). cond c (Some (begun e n b t)) None) (same_number b)
last_found (p ∷ bindings) e n b t none = go (last_found bindings e n b t) (p.binding == b) none
  where
    go : (places.place_of b bindings ≡ None → places.place_of b (bindings ++ begun e n b t ∷ []) ≡ Some (begun e n b t)) → (c : Bool)
        → cond c (Some p) (places.place_of b bindings) ≡ None → cond c (Some p) (places.place_of b (bindings ++ begun e n b t ∷ [])) ≡ Some (begun e n b t)
    go rest true is = absurd (some is)
      where
        some : ◌≡◌ {A = Option TableEntry} (Some p) None → ⊥
        some wrong = cc
    go rest false is = rest is

pub is_live : (bindings after : List TableEntry) (e n b t : ℕ) → places.place_of b bindings ≡ None → after ≡ bindings ++ begun e n b t ∷ []
    → places.IsLiveIn b after
is_live bindings after e n b t none is =
    subst (λ (ps : List TableEntry). places.IsLiveIn b ps) (sym is)
    (subst (λ (o : Option TableEntry). IsSomeAnd (option_and_then (λ (p : TableEntry). p.stage) o) IsLive) (sym (last_found bindings e n b t none)) tt)

-- and taken back
last_out : (bindings : List TableEntry) (e n b t : ℕ) → places.place_of b bindings ≡ None → places.without b (bindings ++ begun e n b t ∷ []) ≡ bindings
last_out [] e n b t none = ap (λ (c : Bool). cond (not c) (begun e n b t ∷ []) []) (same_number b)
last_out (p ∷ bindings) e n b t none = go (last_out bindings e n b t) (p.binding == b) none
  where
    go : (places.place_of b bindings ≡ None → places.without b (bindings ++ begun e n b t ∷ []) ≡ bindings) → (c : Bool)
        → cond c (Some p) (places.place_of b bindings) ≡ None
        → cond (not c) (p ∷ places.without b (bindings ++ begun e n b t ∷ [])) (places.without b (bindings ++ begun e n b t ∷ [])) ≡ p ∷ bindings
    go rest true is = absurd (some is)
      where
        some : ◌≡◌ {A = Option TableEntry} (Some p) None → ⊥
        some wrong = cc
    go rest false is = ap (λ ps. p ∷ ps) (rest is)

pub unsent_any : (bag after : InFlight) (e : ℕ) (kind : Kind) (r : Result (Unit {0}) Refusal) → Sends bag e kind 1 r after → is_err r ≡ true → after ≡ bag
unsent_any bag after e kind (Ok a) sends is = absurd (cc (is))
unsent_any bag after e kind (Err x) sends is = unsent_same bag after e kind 1 x sends

sent_any : (bag after : InFlight) (e : ℕ) (kind : Kind) (r : Result (Unit {0}) Refusal) → Sends bag e kind 1 r after → is_err r ≡ false → after
    ≡ with_sent bag (record { endpoint = e; kind = kind }) 1
sent_any bag after e kind (Ok a) sends is = sends.1
sent_any bag after e kind (Err x) sends is = absurd (cc (is))

decided : (v : Wire) (e n : ℕ) → Ok tt ≡ unless_refused (causes_of v (step.Bind e n)) (tt {0})
    → decide_of v (step.Bind e n) ≡ record { reply = Ok (result_of v (step.Bind e n)).answer; moves = (result_of v (step.Bind e n)).moves }
decided v e n allows = passed (tt {0}) (tt {0}) (causes_of v (step.Bind e n)) [] (result_of v (step.Bind e n)) (sym allows)

pub bind_unsent : (host : HostState) (v : Wire) (e n t : ℕ) (kind : Kind) (after left : List TableEntry) (bag : InFlight) (r : Result (Unit {0}) Refusal)
    → wire_of host ≡ v
    → Ok tt ≡ unless_refused (causes_of v (step.Bind e n)) (tt {0})
    → places.place_of host.next_binding host.bindings ≡ None
    → after ≡ host.bindings ++ begun e n host.next_binding t ∷ [] → left ≡ places.without host.next_binding after
    → Sends host.in_flight e kind 1 r bag → is_err r ≡ true
    → ByLabels v (step.Bind e n) (Err refusal.OutOfMemory) (wire_of (record host { bindings = left; in_flight = bag }))
bind_unsent host v e n t kind after left bag r view allows none begins back sends failed =
    subst (λ (d : Decision). Does d v (Err refusal.OutOfMemory) (wire_of (record host { bindings = left; in_flight = bag }))) (sym (decided v e n allows))
    (refl, same ∙ view)
  where
    kept : left ≡ host.bindings
    kept = back ∙ ap (places.without host.next_binding) begins ∙ last_out host.bindings e n host.next_binding t none

    same : wire_of (record host { bindings = left; in_flight = bag }) ≡ wire_of host
    same = λ i. wire_of (record host { bindings = kept i; in_flight = unsent_any host.in_flight bag e kind r sends failed i })

pub bind_done : (host : HostState) (v : Wire) (e n t : ℕ) (after : List TableEntry) (bag : InFlight) (r : Result (Unit {0}) Refusal) → wire_of host ≡ v
    → Ok tt ≡ unless_refused (causes_of v (step.Bind e n)) (tt {0})
    → places.lowest n host.bindings ≡ Some t
    → after ≡ host.bindings ++ begun e n host.next_binding t ∷ []
    → Sends host.in_flight e (Start t) 1 r bag → is_err r ≡ false
    → ByLabels v (step.Bind e n) (Ok (answer.Binding host.next_binding t)) (wire_of
    (record host { bindings = after; in_flight = bag; next_binding = host.next_binding + 1 }))
bind_done host v e n t after bag r view allows pasid begins sends worked =
    subst (λ (u : Wire). ByLabels u (step.Bind e n) (Ok (answer.Binding host.next_binding t))
    (wire_of (record host { bindings = after; in_flight = bag; next_binding = host.next_binding + 1 }))) view
    (subst (λ (d : Decision). Does d (wire_of host) (Ok (answer.Binding host.next_binding t))
    (wire_of (record host { bindings = after; in_flight = bag; next_binding = host.next_binding + 1 })))
    (sym decides) (refl, same))
  where
    decides : decide_of (wire_of host) (step.Bind e n)
        ≡ record { reply = Ok (answer.Binding host.next_binding t); moves = Move.NewBinding ∷ Move.Bind e n host.next_binding t ∷ [] }
    decides =
        decided (wire_of host) e n (subst (λ (u : Wire). Ok tt ≡ unless_refused (causes_of u (step.Bind e n)) (tt {0})) (sym view) allows)
        ∙ ap (λ (o : Option ℕ). record {
          reply = Ok (bind_result (wire_of host) e n (label o)).answer;
          moves =
              (bind_result (wire_of host) e n (label o)).moves;
        }) (pasid_seen host n ∙ pasid)

    same : wire_of (record host { bindings = after; in_flight = bag; next_binding = host.next_binding + 1 })
        ≡ all_moved (wire_of host) (Move.NewBinding ∷ Move.Bind e n host.next_binding t ∷ [])
    same =
        ap (λ (b : InFlight). wire_of (record host { bindings = after; in_flight = b; next_binding = host.next_binding + 1 }))
        (sent_any host.in_flight bag e (Start t) r sends worked)
        ∙ (λ i. record (wire_of host) {
          bindings = (ap bindings_seen begins ∙ (bindings_are_seen host.bindings).1.begun e n host.next_binding t) i;
          in_flight = sent_seen host.in_flight (record { endpoint = e; kind = Start t }) i;
          next_binding = host.next_binding + 1;
          next_message = host.in_flight.next + 1;
        })
