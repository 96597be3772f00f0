-- The events of choices, one after another.
use Rattle.std.proofs.Common.{◌≡◌, ◌∙◌, ◌<◌, ◌≤◌, ◌+◌, ap, append-nil, append_assoc, sym, ℕ, List, [], ◌∷◌, ◌++◌}
use Rattle.std.proofs.Common.{length, get_or, drop, Bool, Some, None, true, false}
use Rattle.std.proofs.lemmas.List.{drop_all, drop_more}
use Rattle.sva_search.specs.Rules.{IsStep}
use Rattle.sva_search.proofs.Steps.{none_refused, some_taken}
use Rattle.sva_judge.specs.declared.choices.Choice.{Choice}
use Rattle.sva_judge.specs.Choices.{next_in}
use Rattle.sva_judge.specs.Spots.{Spot}
use Rattle.sva_driver_texts.specs.declared.kept.Text.{Text}
use Rattle.sva_driver_reports.specs.Witness.{EventSaid, event_of, events_from, last_spot, spot_behind, with_event}

-- the events that were said, and where all lead
pub record Moved (text : Text) (said : List EventSaid) (now : Spot) (choices : List Choice) (all : List EventSaid) (last : Spot) : Type 0 where
  pub events : said ++ events_from text now choices ≡ all
  pub spot : last_spot text now choices ≡ last

module _ (text : Text) (events : List EventSaid) (spot : Spot) (choices : List Choice) (place : ℕ) (blank : Choice) (all : List EventSaid) (last : Spot)
    (inside : place < length choices) (so_far : Moved text events spot (drop place choices) all last) where
  events_are : events_from text spot (drop place choices)
      ≡ with_event (event_of text spot (get_or choices place blank)) (next_in text.driver spot (get_or choices place blank))
      (λ next. events_from text next (drop (place + 1) choices))
  unfolding events_from
  events_are = ap (events_from text spot) (drop_more choices place blank inside)

  spots_are : last_spot text spot (drop place choices)
      ≡ spot_behind spot (event_of text spot (get_or choices place blank)) (next_in text.driver spot (get_or choices place blank))
      (λ next. last_spot text next (drop (place + 1) choices))
  unfolding last_spot
  spots_are = ap (last_spot text spot) (drop_more choices place blank inside)

  -- nothing is said of the choice
  pub unsaid : None ≡ event_of text spot (get_or choices place blank) → (events ≡ all) × (spot ≡ last)
  unsaid none = (
    sym (append-nil events)
        ∙ sym (ap (λ l. events ++ l) (events_are
        ∙ ap (λ event. with_event event (next_in text.driver spot (get_or choices place blank))
        (λ next. events_from text next (drop (place + 1) choices))) (sym none))) ∙ so_far.events,
    sym (spots_are
        ∙ ap (λ event. spot_behind spot event (next_in text.driver spot (get_or choices place blank))
        (λ next. last_spot text next (drop (place + 1) choices))) (sym none)) ∙ so_far.spot,
  )

  -- its event is said, and it leads nowhere
  pub halted : (event : EventSaid) (new : Spot) (more : List EventSaid) → Some event ≡ event_of text spot (get_or choices place blank)
      → (done : Bool) → IsStep (next_in text.driver spot (get_or choices place blank)) done spot new → done ≡ false → more ≡ events ++ event ∷ []
      → (more ≡ all) × (new ≡ last)
  halted event new more is done step stops says =
      let stop = none_refused (next_in text.driver spot (get_or choices place blank)) done spot new step stops in (
        says
            ∙ sym (ap (λ l. events ++ l) (events_are
            ∙ ap (λ it. with_event it (next_in text.driver spot (get_or choices place blank))
            (λ next. events_from text next (drop (place + 1) choices))) (sym is)
            ∙ ap (λ o. with_event (Some event) o (λ next. events_from text next (drop (place + 1) choices))) stop.0)) ∙ so_far.events,
        stop.1
            ∙ sym (spots_are
            ∙ ap (λ it. spot_behind spot it (next_in text.driver spot (get_or choices place blank))
            (λ next. last_spot text next (drop (place + 1) choices))) (sym is)
            ∙ ap (λ o. spot_behind spot (Some event) o (λ next. last_spot text next (drop (place + 1) choices))) stop.0) ∙ so_far.spot,
      )

  -- it leads on
  pub moved : (event : EventSaid) (new : Spot) (more : List EventSaid) → Some event ≡ event_of text spot (get_or choices place blank)
      → (done : Bool) → IsStep (next_in text.driver spot (get_or choices place blank)) done spot new → done ≡ true → more ≡ events ++ event ∷ []
      → Moved text more new (drop (place + 1) choices) all last
  moved event new more is done step goes says =
      let led = some_taken (next_in text.driver spot (get_or choices place blank)) done spot new step goes in record {
        events = ap (λ l. l ++ events_from text new (drop (place + 1) choices)) says
            ∙ append_assoc events (event ∷ []) (events_from text new (drop (place + 1) choices))
            ∙ sym (ap (λ l. events ++ l) (events_are
            ∙ ap (λ it. with_event it (next_in text.driver spot (get_or choices place blank))
            (λ next. events_from text next (drop (place + 1) choices))) (sym is)
            ∙ ap (λ o. with_event (Some event) o (λ next. events_from text next (drop (place + 1) choices))) led)) ∙ so_far.events;
        spot = sym (spots_are
            ∙ ap (λ it. spot_behind spot it (next_in text.driver spot (get_or choices place blank))
            (λ next. last_spot text next (drop (place + 1) choices))) (sym is)
            ∙ ap (λ o. spot_behind spot (Some event) o (λ next. last_spot text next (drop (place + 1) choices))) led) ∙ so_far.spot;
      }

pub moved_all : (text : Text) (events : List EventSaid) (spot : Spot) (choices : List Choice) (place : ℕ) (all : List EventSaid) (last : Spot)
    → length choices ≤ place → Moved text events spot (drop place choices) all last → (events ≡ all) × (spot ≡ last)
unfolding events_from last_spot
moved_all text events spot choices place all last past so_far = (
  sym (append-nil events) ∙ sym (ap (λ l. events ++ events_from text spot l) (drop_all place choices past)) ∙ so_far.events,
  sym (ap (last_spot text spot) (drop_all place choices past)) ∙ so_far.spot,
)
