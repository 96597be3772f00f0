-- The open groups of the host, seen: one that takes a request, an open one of a binding, and those of a unit that is reset.
use Rattle.std.proofs.Common.{◌≡◌, refl, ap, sym, ◌∙◌, ℕ, Bool, true, false, arith}
use Rattle.std.specs.Prelude.{cond, ◌==◌, ◌&&◌, ◌||◌, not, Some, unwrap_or, List, [], ◌∷◌, ◌++◌, map, filter, find}
use Rattle.std.specs.List.{list_any}
use Rattle.std.proofs.lemmas.List.{map-append}
use Rattle.std.proofs.lemmas.Bool.{eq-eqb, eqb-true}
use Rattle.sva_labels.proofs.Tests.{first_fails, second_fails, turned}
use Rattle.sva_model.specs.Wire.{HostGroupWire}
use Rattle.sva_labels.specs.Moves as moves
use Rattle.sva_labels.specs.Outcomes.{asks_of}
use Rattle.sva_msg.specs.declared.messages.PageRequest.{PageRequest}
use Rattle.sva_prq.specs.Job.{ask_of}
use Rattle.sva_prq.specs.Groups.{OpenGroup, is_collecting, is_of_unit, is_of_other_unit, is_of_binding, new_group, with_request, filed_among, unfinished_asks}
use Rattle.sva_parts_by_labels.specs.JobTable.{group_seen, OpenIsSeen}
use Rattle.sva_prq.specs.Job.{ask_seen}
use Rattle.sva_msg.specs.Seen.{page_request_seen}

-- those of one unit
abbrev pub of_unit : ℕ → List OpenGroup → List HostGroupWire
of_unit e gs = map group_seen (filter (is_of_unit e) gs)

-- An open group of a binding.

abbrev of_binding : ℕ → HostGroupWire → Bool
of_binding n g = g.binding == n

pub open_is_seen : OpenIsSeen
open_is_seen s p unit binding h alone = go s.groups alone ∙ ap (list_any (of_binding binding)) (sym h)
  where
    rest : (g : OpenGroup) (gs : List OpenGroup) (e : ℕ) (b : Bool)
        → list_any (of_binding binding) (map group_seen (cond b (g ∷ filter (is_of_unit e) gs) (filter (is_of_unit e) gs))) ≡ false
        → list_any (of_binding binding) (of_unit e gs) ≡ false
    rest g gs e true h = second_fails (g.binding == binding) (list_any (of_binding binding) (of_unit e gs)) h
    rest g gs e false h = h

    here : (g : OpenGroup) (gs : List OpenGroup) (b : Bool) → b ≡ true
        → list_any (of_binding binding) (map group_seen (cond b (g ∷ filter (is_of_unit g.unit) gs) (filter (is_of_unit g.unit) gs))) ≡ false
        → (g.binding == binding) ≡ false
    here g gs true k h = first_fails (g.binding == binding) (list_any (of_binding binding) (of_unit g.unit gs)) h
    here g gs false k h = absurd (cc (k))

    go : (gs : List OpenGroup) → ((e : ℕ) → (e == unit) ≡ false → list_any (of_binding binding) (of_unit e gs) ≡ false)
        → list_any (is_of_binding binding) gs ≡ list_any (of_binding binding) (of_unit unit gs)
    go [] alone = refl
    go (g ∷ gs) alone = at (g.unit == unit) refl (go gs (λ e k. rest g gs e (g.unit == e) (alone e k)))
      where
        at : (b : Bool) → (g.unit == unit) ≡ b → list_any (is_of_binding binding) gs ≡ list_any (of_binding binding) (of_unit unit gs)
            → (g.binding == binding || list_any (is_of_binding binding) gs)
            ≡ list_any (of_binding binding) (map group_seen (cond b (g ∷ filter (is_of_unit unit) gs) (filter (is_of_unit unit) gs)))
        at true k later = ap (λ t. g.binding == binding || t) later
        at false k later = ap (λ t. t || list_any (is_of_binding binding) gs)
            (here g gs (g.unit == g.unit) (eq-eqb g.unit g.unit refl) (alone g.unit k)) ∙ later

-- A page request is filed.

-- a group of the unit is begun under the binding and index
pub begun_here : (unit binding index : ℕ) (g : OpenGroup) → (g.unit == unit) ≡ true
    → moves.is_begun binding index (group_seen g) ≡ is_collecting unit binding index g
begun_here unit binding index g h = sym (ap (λ t. ((t && g.binding == binding) && g.index == index) && not g.last) h)

pub not_begun : (unit binding index : ℕ) (g : OpenGroup) → (g.unit == unit) ≡ false → is_collecting unit binding index g ≡ false
not_begun unit binding index g h = ap (λ t. ((t && g.binding == binding) && g.index == index) && not g.last) h

with_seen : (g : OpenGroup) (request : PageRequest)
    → group_seen (with_request g request)
    ≡ record (group_seen g) { asks = (group_seen g).asks ++ (page_request_seen request).ask ∷ []; is_whole = request.last }
with_seen g request = λ i. record (group_seen g) { asks = map-append ask_seen g.asks (ask_of request ∷ []) i; is_whole = request.last }

module _ (next unit binding : ℕ) (request : PageRequest) where
  abbrev begun : HostGroupWire → Bool
  begun = moves.is_begun binding request.index

  abbrev unfinished : OpenGroup → Bool
  unfinished = is_collecting unit binding request.index

  abbrev by_labels : List HostGroupWire → List HostGroupWire
  by_labels = moves.filed binding (page_request_seen request)

  abbrev by_parts : List OpenGroup → List OpenGroup
  by_parts = filed_among next unit binding request

  -- the group takes it, or it isn't of the unit, or those behind it are filed in
  abbrev seen_if : Bool → OpenGroup → List OpenGroup → List HostGroupWire
  seen_if b g gs = map group_seen (cond b (g ∷ filter (is_of_unit unit) gs) (filter (is_of_unit unit) gs))

  pub filing_seen : (gs : List OpenGroup) → of_unit unit (by_parts gs) ≡ by_labels (of_unit unit gs)
  filing_seen [] = go (unit == unit) (eq-eqb unit unit refl)
    where
      go : (b : Bool) → b ≡ true → seen_if b (with_request (new_group next unit binding request.index) request) [] ≡ by_labels []
      go true k = refl
      go false k = absurd (cc (k))
  filing_seen (g ∷ gs) = go (g.unit == unit) (unfinished g) refl refl (filing_seen gs)
    where
      taken_by : (b : Bool) → b ≡ begun (group_seen g)
          → of_unit unit (by_parts gs) ≡ by_labels (of_unit unit gs)
          → cond b (group_seen (with_request g request) ∷ of_unit unit gs) (group_seen g ∷ of_unit unit (by_parts gs))
          ≡ by_labels (group_seen g ∷ of_unit unit gs)
      taken_by b k later =
          (λ i. cond b (with_seen g request i ∷ of_unit unit gs) (group_seen g ∷ later i))
          ∙ ap
          (λ t.
          cond t (record (group_seen g) { asks = (group_seen g).asks ++ (page_request_seen request).ask ∷ []; is_whole = request.last } ∷ of_unit unit gs)
          (group_seen g ∷ by_labels (of_unit unit gs))) k

      go : (u b : Bool) → (g.unit == unit) ≡ u → unfinished g ≡ b → of_unit unit (by_parts gs) ≡ by_labels (of_unit unit gs)
          → of_unit unit (cond b (with_request g request ∷ gs) (g ∷ by_parts gs)) ≡ by_labels (seen_if u g gs)
      go true true h k later = ap (λ t. seen_if t (with_request g request) gs) h ∙ taken_by true (sym (begun_here unit binding request.index g h ∙ k)) later
      go true false h k later = ap (λ t. seen_if t g (by_parts gs)) h ∙ taken_by false (sym (begun_here unit binding request.index g h ∙ k)) later
      go false true h k later = absurd (cc (sym (not_begun unit binding request.index g h) ∙ k))
      go false false h k later = ap (λ t. seen_if t g (by_parts gs)) h ∙ later

  -- at another unit nothing changes
  pub filing_apart : (e : ℕ) → (e == unit) ≡ false → (gs : List OpenGroup) → of_unit e (by_parts gs) ≡ of_unit e gs
  filing_apart e h [] = go (unit == e) (turned unit e ∙ h)
    where
      go : (b : Bool) → b ≡ false → map group_seen (cond b (with_request (new_group next unit binding request.index) request ∷ []) []) ≡ []
      go true k = absurd (cc (k))
      go false k = refl
  filing_apart e h (g ∷ gs) = go (unfinished g) refl (filing_apart e h gs)
    where
      at_unit : (a b c d : Bool) → (((a && b) && c) && not d) ≡ true → a ≡ true
      at_unit a b c d h = grind arith

      skipped : (k : OpenGroup) → unfinished g ≡ true → (t : Bool) → (g.unit == e) ≡ t
          → map group_seen (cond t (k ∷ filter (is_of_unit e) gs) (filter (is_of_unit e) gs))
          ≡ map group_seen (cond t (g ∷ filter (is_of_unit e) gs) (filter (is_of_unit e) gs))
      skipped k u true m =
          let here = at_unit (g.unit == unit) (g.binding == binding) (g.index == request.index) g.last u in
          absurd (cc (sym (eq-eqb e unit (sym (eqb-true g.unit e m) ∙ eqb-true g.unit unit here)) ∙ h))
      skipped k u false m = refl

      go : (b : Bool) → unfinished g ≡ b → of_unit e (by_parts gs) ≡ of_unit e gs
          → of_unit e (cond b (with_request g request ∷ gs) (g ∷ by_parts gs)) ≡ of_unit e (g ∷ gs)
      go true k later = skipped (with_request g request) k (g.unit == e) refl
      go false k later = one (g.unit == e)
        where
          one : (t : Bool)
              → map group_seen (cond t (g ∷ filter (is_of_unit e) (by_parts gs)) (filter (is_of_unit e) (by_parts gs)))
              ≡ map group_seen (cond t (g ∷ filter (is_of_unit e) gs) (filter (is_of_unit e) gs))
          one true = ap (λ l. group_seen g ∷ l) later
          one false = later

  -- what the requests of the group ask that are filed
  pub asks_seen : (gs : List OpenGroup) → map ask_seen (unfinished_asks unit binding request.index gs) ≡ asks_of (find begun (of_unit unit gs))
  asks_seen [] = refl
  asks_seen (g ∷ gs) = go (g.unit == unit) (unfinished g) refl refl (asks_seen gs)
    where
      found_by : (b : Bool) → b ≡ begun (group_seen g) → map ask_seen (unfinished_asks unit binding request.index gs) ≡ asks_of (find begun (of_unit unit gs))
          → map ask_seen (unwrap_or (cond b (Some g) (find unfinished gs)) (new_group 0 unit binding request.index)).asks
          ≡ asks_of (find begun (group_seen g ∷ of_unit unit gs))
      found_by true k later = ap (λ t. asks_of (cond t (Some (group_seen g)) (find begun (of_unit unit gs)))) k
      found_by false k later = later ∙ ap (λ t. asks_of (cond t (Some (group_seen g)) (find begun (of_unit unit gs)))) k

      go : (u b : Bool) → (g.unit == unit) ≡ u → unfinished g ≡ b
          → map ask_seen (unfinished_asks unit binding request.index gs) ≡ asks_of (find begun (of_unit unit gs))
          → map ask_seen (unwrap_or (cond b (Some g) (find unfinished gs)) (new_group 0 unit binding request.index)).asks
          ≡ asks_of (find begun (seen_if u g gs))
      go true b h k later = found_by b (sym k ∙ sym (begun_here unit binding request.index g h)) later
      go false true h k later = absurd (cc (sym (not_begun unit binding request.index g h) ∙ k))
      go false false h k later = later

-- A unit is reset.

pub none_of_unit : (u : ℕ) (gs : List OpenGroup) → of_unit u (filter (is_of_other_unit u) gs) ≡ []
none_of_unit u [] = refl
none_of_unit u (g ∷ gs) = go (g.unit == u) refl (none_of_unit u gs)
  where
    go : (b : Bool) → (g.unit == u) ≡ b → of_unit u (filter (is_of_other_unit u) gs) ≡ []
        → of_unit u (cond (not b) (g ∷ filter (is_of_other_unit u) gs) (filter (is_of_other_unit u) gs)) ≡ []
    go true k later = later
    go false k later =
        ap (λ t. map group_seen
        (cond t (g ∷ filter (is_of_unit u) (filter (is_of_other_unit u) gs)) (filter (is_of_unit u) (filter (is_of_other_unit u) gs)))) k
        ∙ later

pub others_of_unit : (u e : ℕ) → (e == u) ≡ false → (gs : List OpenGroup) → of_unit e (filter (is_of_other_unit u) gs) ≡ of_unit e gs
others_of_unit u e h [] = refl
others_of_unit u e h (g ∷ gs) = go (g.unit == u) (g.unit == e) refl refl (others_of_unit u e h gs)
  where
    others : List OpenGroup
    others = filter (is_of_other_unit u) gs

    go : (a b : Bool) → (g.unit == u) ≡ a → (g.unit == e) ≡ b → of_unit e others ≡ of_unit e gs
        → of_unit e (cond (not a) (g ∷ others) others) ≡ map group_seen (cond b (g ∷ filter (is_of_unit e) gs) (filter (is_of_unit e) gs))
    go true true k l later = absurd (cc (sym (eq-eqb e u (sym (eqb-true g.unit e l) ∙ eqb-true g.unit u k)) ∙ h))
    go true false k l later = later
    go false true k l later =
        ap (λ t. map group_seen (cond t (g ∷ filter (is_of_unit e) others) (filter (is_of_unit e) others))) l ∙ ap (λ l. group_seen g ∷ l) later
    go false false k l later = ap (λ t. map group_seen (cond t (g ∷ filter (is_of_unit e) others) (filter (is_of_unit e) others))) l ∙ later
