-- An act of one endpoint with its unit, as the whole host is seen, is the move that it is: where it is so for the endpoint's own
-- part and for the places of frames. The other columns are here: bindings, jobs, hands, what is in flight, and the counters.
use Rattle.std.proofs.Common.{◌≡◌, ap, sym, ◌∙◌, ℕ, suc, ◌+◌, true, arith}
use Rattle.std.specs.Prelude.{Some, slice_set}
use Rattle.sva_model.specs.Words.{is_some}
use Rattle.sva_model.specs.State.{Mappings, Endpoint, World}
use Rattle.sva_model.specs.Acts.{LocalAct, act, sends, cookies_of}
use Rattle.sva_model.specs.Acts.Act.{AtEndpoint}
use Rattle.sva_model.specs.Wire.{Wire, number, part_wire, wire}
use Rattle.sva_labels.proofs.Words.{put-same, put-other}
use Rattle.sva_laws.proofs.Legal.{LegalLocalAct}
use Rattle.sva_laws.proofs.Invariant.{Invariant}
use Rattle.sva_laws.proofs.Keeps.{Legal, SuitsWorld}
use Rattle.sva_labels.proofs.Lists.{tabulate_set}
use Rattle.sva_labels.specs.Moves.{moved}
use Rattle.sva_refinement.proofs.Named.{own_move}
use Rattle.sva_refinement.proofs.Kept.{part_moved}
use Rattle.sva_refinement.proofs.EndpointViews.{part_seen}
use Rattle.sva_refinement.proofs.SentTo.{AreSentTo}
use Rattle.sva_refinement.proofs.Flights.{part_after, delivers, flights_after}
use Rattle.sva_refinement.proofs.Columns.{bindings_same, bindings_bound, bindings_released, bindings_cut, bindings_stopped, bindings_drained}
use Rattle.sva_refinement.proofs.Columns.{bindings_invalidated, bindings_quieted, bindings_marked}
use Rattle.sva_refinement.proofs.JobActs.{FilesMade, FilesOpen, JobsPast, HandsFirst, hands_same, jobs_same, jobs_dropped, jobs_handed}
use Rattle.sva_refinement.proofs.Frame.{hands_left, spaces_left, bindings_left, jobs_left, cookies_left, messages_left, numbers_left, flights_left, parts_left}

-- What an act of an endpoint has, beside what is legal: a binding that begins is the one named last; what is filed is of a group
-- that isn't whole, nor dropped; and the job that is handed out is the first.
abbrev pub InTurn : World → (e : ℕ) → LocalAct → Type 0
InTurn w e (LocalAct.Bind b s t) = suc b ≡ w.bindings
InTurn w e (LocalAct.File r) = FilesOpen (w.part e) (LocalAct.File r)
InTurn w e (LocalAct.Hand g x) = (j : ℕ) × HandsFirst w e g j
InTurn w e _ = Unit {0}

-- What is known of messages, filings and jobs where an act is done.
pub record HasTables (w : World) : Type 0 where
  pub sent : AreSentTo w
  pub filed : (e : ℕ) → FilesMade (w.part e)
  pub past : JobsPast w

-- the move of an act
abbrev pub move_of : World → (e : ℕ) → LocalAct → Wire
move_of w e o = moved (wire w) (own_move w.config.first e w.mappings (w.part e) o)

pub files_open : (w : World) (e : ℕ) (o : LocalAct) → InTurn w e o → FilesOpen (w.part e) o
files_open w e (LocalAct.File r) t = t
files_open w e _ t = tt

bindings_moved :
    (w : World) (e : ℕ) (o : LocalAct) → Invariant w → LegalLocalAct w.mappings w.bindings (w.part e) o → SuitsWorld w e o → InTurn w e o
    → (wire (act w (AtEndpoint e o))).bindings ≡ (move_of w e o).bindings
bindings_moved w e (LocalAct.Bind b s t) i l k n = bindings_bound w e b s t i l n k.2
bindings_moved w e (LocalAct.Stop b) i l s t = bindings_stopped w e b i l
bindings_moved w e (LocalAct.Drain b cookie) i l s t =
    ap (λ c. (wire (act w (AtEndpoint e (LocalAct.Drain b c)))).bindings) s ∙ bindings_drained w e b i l
bindings_moved w e (LocalAct.Invalidate b cookie) i l s t =
    ap (λ c. (wire (act w (AtEndpoint e (LocalAct.Invalidate b c)))).bindings) s ∙ bindings_invalidated w e b i l
bindings_moved w e (LocalAct.Quieten b) i l s t = bindings_quieted w e b i l
bindings_moved w e (LocalAct.Release b) i l s t = bindings_released w e b i l
bindings_moved w e (LocalAct.Mark c b) i l s t = bindings_marked w e c b i l
bindings_moved w e (LocalAct.Reopen c) i l s t = bindings_cut w e c
bindings_moved w e o i l s t = bindings_same w e o i (grind arith) ∙ sym (bindings_left (wire w) w.config.first e w.mappings (w.part e) o (grind arith))

jobs_moved :
    (w : World) (e : ℕ) (o : LocalAct) → Invariant w → HasTables w → LegalLocalAct w.mappings w.bindings (w.part e) o → InTurn w e o
    → (wire (act w (AtEndpoint e o))).jobs ≡ (move_of w e o).jobs
jobs_moved w e LocalAct.Reset i h l t = jobs_dropped w e i (h.filed e)
jobs_moved w e (LocalAct.Hand g x) i h l t = jobs_handed w e g x t.0 i h.past (h.filed e) t.1
jobs_moved w e o i h l t =
    jobs_same w e o i l h.past (h.filed e) (files_open w e o t) (grind arith)
    ∙ sym (jobs_left (wire w) w.config.first e w.mappings (w.part e) o (grind arith))

-- what is delivered was in flight there
delivered_there : (ms : Mappings) (g : ℕ) (p : Endpoint) (o : LocalAct) (c : ℕ) → LegalLocalAct ms g p o → delivers o ≡ Some c → is_some (p.message c) ≡ true
delivered_there ms g p o c l h = grind (arith)

parts_after :
    (w : World) (e : ℕ) (o : LocalAct)
    → (wire (act w (AtEndpoint e o))).parts ≡ slice_set (wire w).parts e (part_wire w.config.first w.mappings (part_after w e o))
parts_after w e o =
    tabulate_set w.config.endpoints (λ x. part_wire w.config.first w.mappings (w.part x))
    (λ x. part_wire w.config.first w.mappings ((act w (AtEndpoint e o)).part x)) e (part_wire w.config.first w.mappings (part_after w e o))
    (ap (part_wire w.config.first w.mappings) (put-same w.part e (part_after w e o)))
    (λ x ne. ap (part_wire w.config.first w.mappings) (put-other w.part e (part_after w e o) x ne))

-- the endpoint's part by its keepers
abbrev pub PartMoves : World → (e : ℕ) → LocalAct → Type 0
PartMoves w e o =
    part_wire w.config.first w.mappings (part_after w e o)
    ≡ part_moved (number w.config.first w.cookies) (part_wire w.config.first w.mappings (w.part e)) (own_move w.config.first e w.mappings (w.part e) o)

abbrev pub PlacesMove : World → (e : ℕ) → LocalAct → Type 0
PlacesMove w e o = (wire (act w (AtEndpoint e o))).places ≡ (move_of w e o).places

pub square :
    (w : World) (e : ℕ) (o : LocalAct) → Invariant w → HasTables w → Legal w (AtEndpoint e o) → InTurn w e o → PartMoves w e o → PlacesMove w e o
    → wire (act w (AtEndpoint e o)) ≡ move_of w e o
square w e o i h l t pm places =
    λ k.
    record {
      spaces = sym (spaces_left (wire w) w.config.first e w.mappings (w.part e) o) k;
      places = places k;
      bindings = bindings_moved w e o i l.1.0 l.1.1 t k;
      parts = parts k;
      jobs = jobs_moved w e o i h l.1.0 t k;
      hands = hands k;
      in_flight = flights k;
      next_space = sym (numbers_left (wire w) w.config.first e w.mappings (w.part e) o).0 k;
      next_binding = sym (numbers_left (wire w) w.config.first e w.mappings (w.part e) o).1 k;
      next_message = messages k;
      next_cookie = cookies k;
    }
  where
    parts : (wire (act w (AtEndpoint e o))).parts ≡ (move_of w e o).parts
    parts =
        parts_after w e o
        ∙ ap (slice_set (wire w).parts e)
        (pm ∙ ap (λ p. part_moved (number w.config.first w.cookies) p (own_move w.config.first e w.mappings (w.part e) o)) (sym (part_seen w e l.0)))
        ∙ sym (parts_left (wire w) w.config.first e w.mappings (w.part e) o)

    hands : (wire (act w (AtEndpoint e o))).hands ≡ (move_of w e o).hands
    hands = hands_same w e o i (h.filed e) (files_open w e o t) ∙ sym (hands_left (wire w) w.config.first e w.mappings (w.part e) o)

    flights : (wire (act w (AtEndpoint e o))).in_flight ≡ (move_of w e o).in_flight
    flights =
        flights_after w e o (λ c d. h.sent e c (delivered_there w.mappings w.bindings (w.part e) o c l.1.0 d))
        ∙ sym (flights_left (wire w) w.config.first e w.mappings (w.part e) o)

    messages : (wire (act w (AtEndpoint e o))).next_message ≡ (move_of w e o).next_message
    messages =
        let more : w.config.first + (w.messages + sends o) ≡ w.config.first + w.messages + sends o = omega arith in
        more ∙ sym (messages_left (wire w) w.config.first e w.mappings (w.part e) o)

    cookies : (wire (act w (AtEndpoint e o))).next_cookie ≡ (move_of w e o).next_cookie
    cookies =
        let more : w.config.first + (w.cookies + cookies_of o) ≡ w.config.first + w.cookies + cookies_of o = omega arith in
        more ∙ sym (cookies_left (wire w) w.config.first e w.mappings (w.part e) o)
