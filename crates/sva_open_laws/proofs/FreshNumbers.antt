-- The number of a group that begins is above those of all that is left of older groups of its index.
use Rattle.std.proofs.Common.{◌≡◌, ◌∙◌, ◌<◌, ◌≤◌, ◌==◌, ap, arith, cond, refl, rules, subst, sym, ℕ, suc, Bool, true, false, List, length, Option, Some, None}
use Rattle.std.proofs.Math.Nat.{le-max_left, le-max_right}
use Rattle.std.proofs.lemmas.Bool.{ltb-true}
use Rattle.std.proofs.lemmas.List.Recursion.{max_bounds}
use Rattle.std.proofs.lemmas.List.Sums.{passes_at_first}
use Rattle.std.proofs.lemmas.Option.{same_Some, slice_get-get_or, slice_get_past}
use Rattle.std.specs.Prelude.{Contains, is_none, max, nat_lt, slice_get}
use Rattle.std.specs.List.{position_or_len}
use Rattle.sva_open.specs.declared.messages.Message.TheVariants as message
use Rattle.sva_open.specs.declared.messages.PageRequest.{PageRequest}
use Rattle.sva_open.specs.declared.messages.Sent.{Sent}
use Rattle.sva_open.specs.declared.descriptors.Arrived.{Arrived}
use Rattle.sva_open.specs.declared.descriptors.Filed.{Filed}
use Rattle.sva_open.specs.declared.descriptors.Received.TheVariants.{Request as Asked}
use Rattle.sva_open.specs.Devices.{above, above_arrived, above_filed, above_message, above_received, above_sent, highest, number_above}
use Rattle.sva_open_laws.specs.Fresh.{NumbersAreFresh}
use Rattle.sva_open_laws.specs.Fresh.IsLeft.{answered, arrived, asked, filed, itself, received}
use Rattle.sva_open.specs.World.{Part, lowest_free, place_or_end}

-- ---- The highest of a list

below_highest : {X : Type 0} (at : X → ℕ) (xs : List X) (x : X) → Contains xs x → at x ≤ highest at xs
below_highest at xs x among =
    let bound = max_bounds (highest at) at refl (λ y ys. refl) xs among.0 x among.1 in
    subst (λ y. at y ≤ highest at xs) among.2 bound

-- ---- What is of the index

same_index : (index : ℕ) → (index == index) ≡ true
same_index index = search rules

above_own : (own index number : ℕ) → own ≡ index → above (own == index) number ≡ suc number
above_own own index number is = ap (λ n. above (n == index) number) is ∙ ap (λ b. above b number) (same_index index)

above_asked : (index : ℕ) (one : Sent) (request : PageRequest) → one.message ≡ message.PageRequest request → request.index ≡ index
    → above_sent index one ≡ suc one.number
above_asked index one request is of_it = ap (above_message index one.number) is ∙ above_own request.index index one.number of_it

above_answered : (index : ℕ) (one : Sent) (fails : Bool) → one.message ≡ message.Response index fails true → above_sent index one ≡ suc one.number
above_answered index one fails is = ap (above_message index one.number) is ∙ above_own index index one.number refl

-- ---- Nothing stands under the lowest free label

none_free : {X : Type 0} (places : List (Option X)) (x : X) → slice_get places (lowest_free places) ≡ Some (Some x) → ⊥
none_free {X} places x = by_test (nat_lt (position_or_len is_none places) (length places)) refl
  where
    by_test : (inside : Bool) → nat_lt (position_or_len is_none places) (length places) ≡ inside
        → slice_get places (place_or_end places (cond inside (Some (position_or_len is_none places)) None)) ≡ Some (Some x) → ⊥
    by_test true inside is =
        let within : position_or_len is_none places < length places = ltb-true _ _ inside in
        let here = same_Some _ _ (sym (slice_get-get_or places (position_or_len is_none places) None within) ∙ is) in
        absurd (cc (sym (passes_at_first is_none places None within) ∙ ap is_none here))
    by_test false inside is = absurd (cc (sym (slice_get_past places (length places) (omega arith)) ∙ is))

-- ---- The law

module _ (part : Part) (index number : ℕ) where
  in_queue_or_filed : ℕ
  in_queue_or_filed = max (highest (above_arrived index) part.arrived) (highest (above_filed index) part.filed)

  at_unit : ℕ
  at_unit = max (highest (above_received index) part.received) in_queue_or_filed

  in_flight : (one : Sent) → Contains part.flight one → above_sent index one ≡ suc one.number → one.number ≡ number
      → number < number_above part index
  unfolding at_unit in_queue_or_filed
  in_flight one among above is =
      let bound = below_highest (above_sent index) part.flight one among in
      let more = le-max_left (highest (above_sent index) part.flight) at_unit in
      omega (arith, bound, more, above, is)

  in_hand : (one : Arrived) → Contains part.received (Asked one) → above_arrived index one ≡ suc one.number → one.number ≡ number
      → number < number_above part index
  unfolding at_unit in_queue_or_filed
  in_hand one among above is =
      let bound = below_highest (above_received index) part.received (Asked one) among in
      let left = le-max_left (highest (above_received index) part.received) in_queue_or_filed in
      let right = le-max_right (highest (above_sent index) part.flight) at_unit in
      omega (arith, bound, left, right, above, is)

  in_queue : (one : Arrived) → Contains part.arrived one → above_arrived index one ≡ suc one.number → one.number ≡ number
      → number < number_above part index
  unfolding at_unit in_queue_or_filed
  in_queue one among above is =
      let bound = below_highest (above_arrived index) part.arrived one among in
      let left = le-max_left (highest (above_arrived index) part.arrived) (highest (above_filed index) part.filed) in
      let middle = le-max_right (highest (above_received index) part.received) in_queue_or_filed in
      let right = le-max_right (highest (above_sent index) part.flight) at_unit in
      omega (arith, bound, left, middle, right, above, is)

  on_file : (one : Filed) → Contains part.filed one → above_filed index one ≡ suc one.number → one.number ≡ number
      → number < number_above part index
  unfolding at_unit in_queue_or_filed
  on_file one among above is =
      let bound = below_highest (above_filed index) part.filed one among in
      let left = le-max_right (highest (above_arrived index) part.arrived) (highest (above_filed index) part.filed) in
      let middle = le-max_right (highest (above_received index) part.received) in_queue_or_filed in
      let right = le-max_right (highest (above_sent index) part.flight) at_unit in
      omega (arith, bound, left, middle, right, above, is)

pub numbers_are_fresh : NumbersAreFresh
numbers_are_fresh part number (asked one request among is of_it numbered) =
    in_flight part (lowest_free part.groups) number one among (above_asked (lowest_free part.groups) one request is of_it) numbered
numbers_are_fresh part number (received one among of_it numbered) =
    in_hand part (lowest_free part.groups) number one among (above_own one.request.index (lowest_free part.groups) one.number of_it) numbered
numbers_are_fresh part number (arrived one among of_it numbered) =
    in_queue part (lowest_free part.groups) number one among (above_own one.request.index (lowest_free part.groups) one.number of_it) numbered
numbers_are_fresh part number (filed one among of_it numbered) =
    on_file part (lowest_free part.groups) number one among (above_own one.index (lowest_free part.groups) one.number of_it) numbered
numbers_are_fresh part number (answered one fails among is numbered) =
    in_flight part (lowest_free part.groups) number one among (above_answered (lowest_free part.groups) one fails is) numbered
numbers_are_fresh part number (itself group stands numbered) = absurd (none_free part.groups group stands)
