-- A group has its index and its requests until its response or a reset comes.
use Rattle.std.proofs.Common.{◌≡◌, ◌≢◌, ℕ, ◌+◌, List, length, set, Bool, true, false, cond, Option, Some, None, not, subst, refl, ap, sym, ◌∙◌, ◌&&◌, eqb}
use Rattle.std.proofs.Common.{inl, inr, arith, get_or-set_same, get_or-set_other}
use Rattle.std.specs.Prelude.{nat_lt, nat_le, ◌==◌}
use Rattle.std.specs.List.{list_any, position_or_len}
use Rattle.std.proofs.Math.ListN.{get_or-map}
use Rattle.std.proofs.lemmas.Bool.{eqb-false, eqb-true, cases_lt, ltb-false, leb-true, le-leb, and_parts, and_from}
use Rattle.std.proofs.lemmas.List.{set_past, get_or_past}
use Rattle.std.proofs.lemmas.List.Quantifiers.{position-Some}
use Rattle.sva_msg.specs.declared.messages.Kind.{Kind}
use Rattle.sva_msg.specs.declared.messages.Kind.TheVariants.{Reset, Response}
use Rattle.sva_endpoint.specs.declared.groups.GroupPlace.{GroupPlace}
use Rattle.sva_endpoint.specs.declared.groups.GroupPlace.TheVariants.{Free, Collecting, Out, Stale}
use Rattle.sva_endpoint.specs.Groups.{group_at, is_free, is_collecting, group_of, with_request, stale_of}
use Rattle.sva_endpoint.specs.declared.permitted.Fault.{Fault}
use Rattle.sva_endpoint.specs.Tables.{Tables}
use Rattle.sva_endpoint.specs.Steps.{refusals_of_fault, is_of_group, index_for, group_after}
use Rattle.sva_endpoint.specs.Deliveries.{after_receive}
use Rattle.sva_endpoint.specs.Calls.{Call, SendFault, Quit, Receive, is_permitted, after, run, ArePermitted}
use Rattle.sva_endpoint.specs.Laws.{ends_group, is_end_of_group, is_group, StaleGroupsStay, GroupsStay}
use Rattle.sva_endpoint.proofs.CallFacts.{are_clear, lasts}
use Rattle.sva_endpoint.proofs.TagLaws.{clash}

-- the lowest free index is free; where no index is, it is past the table
lowest_index : (groups : List GroupPlace) → is_free (group_at groups (position_or_len is_free groups)) ≡ true
lowest_index groups = by (nat_lt (position_or_len is_free groups) (length groups)) refl
  where
    by : (b : Bool) → nat_lt (position_or_len is_free groups) (length groups) ≡ b → is_free (group_at groups (position_or_len is_free groups)) ≡ true
    by true is = (position-Some is_free groups (position_or_len is_free groups) Free (ap (λ b. cond b (Some (position_or_len is_free groups)) None) is)).1
    by false is = ap is_free (get_or_past groups (position_or_len is_free groups) Free (ltb-false (position_or_len is_free groups) (length groups) is))

-- a fact of an index that is taken, which lasts when the group goes on and when it becomes stale, lasts until the group
-- ends
module _ (index : ℕ) (Q : GroupPlace → Type 0) (taken : (place : GroupPlace) → Q place → is_free place ≡ false)
    (goes_on : (pasid : ℕ) (last : Bool) (place : GroupPlace) → is_collecting pasid place ≡ true → Q place → Q (with_request last place))
    (stays : (pasid : ℕ) (place : GroupPlace) → Q place → Q (stale_of pasid place)) where
  received : (s : Tables) (kind : Kind) → ends_group index kind ≡ false → Q (group_at s.groups index) → Q (group_at (after_receive s kind).groups index)
  received s Reset goes q = absurd (cc)
  received s (Response pasid other code) goes q =
      let apart : index ≢ other = λ same. eqb-false other index goes (sym same) in
      subst Q (sym (get_or-set_other s.groups other index Free Free apart)) q
  received s _ goes q = q

  -- a table in which another place, or this one, was written
  written : (groups : List GroupPlace) (other : ℕ) (place : GroupPlace) → Q (group_at groups index) → (other ≡ index → Q place)
      → Q (group_at (set groups other place) index)
  written groups other place q here = by (eqb other index) refl
    where
      by : (b : Bool) → eqb other index ≡ b → Q (group_at (set groups other place) index)
      by true is = elim (cases_lt other (length groups)) [
        | inl within ↦ subst (λ k. Q (group_at (set groups other place) k)) (eqb-true other index is)
            (subst Q (sym (get_or-set_same groups other place Free within)) (here (eqb-true other index is)))
        | inr past ↦ subst (λ xs. Q (group_at xs index)) (sym (set_past groups other place past)) q
      ]
      by false is =
          let apart : index ≢ other = λ same. eqb-false other index is (sym same) in
          subst Q (sym (get_or-set_other groups other index place Free apart)) q

  requested : (s : Tables) (fault : Fault) (group : Option ℕ) → not (is_of_group s fault.pasid group) ≡ false → Q (group_at s.groups index)
      → Q (group_at (set s.groups (index_for s group) (group_after s fault group)) index)
  requested s fault None of q =
      written s.groups (index_for s None) (group_after s fault None) q
      (λ same. clash (is_free (group_at s.groups index)) (ap (λ k. is_free (group_at s.groups k)) (sym same) ∙ lowest_index s.groups)
      (taken (group_at s.groups index) q))
  requested s fault (Some other) of q =
      written s.groups other (with_request fault.last (group_at s.groups other)) q
      (λ same. goes_on fault.pasid fault.last (group_at s.groups other) (passes (is_collecting fault.pasid (group_at s.groups other)) of)
      (subst (λ k. Q (group_at s.groups k)) (sym same) q))
    where
      passes : (b : Bool) → not b ≡ false → b ≡ true
      passes true is = refl
      passes false is = absurd (cc)

  stepped : (s : Tables) (call : Call) → is_permitted s call ≡ true → is_end_of_group index call ≡ false → Q (group_at s.groups index)
      → Q (group_at (after s call).groups index)
  stepped s (SendFault fault) may goes q =
      let clear = are_clear (refusals_of_fault s fault) _ may in
      requested s fault fault.group clear.1.1.1.0 q
  stepped s (Quit pasid) may goes q = subst Q (sym (get_or-map (stale_of pasid) s.groups index Free)) (stays pasid (group_at s.groups index) q)
  stepped s (Receive kind) may goes q = received s kind goes q
  stepped s _ may goes q = q

  pub group_lasts : (s : Tables) (calls : List Call) → ArePermitted s calls → list_any (is_end_of_group index) calls ≡ false
      → Q (group_at s.groups index) → Q (group_at (run s calls).groups index)
  group_lasts = lasts (λ s. Q (group_at s.groups index)) (is_end_of_group index) stepped

pub stale_groups_stay : StaleGroupsStay
stale_groups_stay s index pasid requests calls permitted none stale =
    group_lasts index (λ place. place ≡ Stale pasid requests)
    (λ place is. ap is_free is)
    (λ sender last place unfinished is. ap (with_request last) is)
    (λ quit place is. ap (stale_of quit) is)
    s calls permitted none stale

is_group-taken : (pasid requests : ℕ) (place : GroupPlace) → is_group pasid requests place ≡ true → is_free place ≡ false
is_group-taken pasid requests Free is = absurd (cc)
is_group-taken pasid requests (Collecting sender sent) is = refl
is_group-taken pasid requests (Out sender sent) is = refl
is_group-taken pasid requests (Stale sender sent) is = refl

is_group-group_of : (pasid requests sender sent : ℕ) (last : Bool) → ((sender == pasid) && nat_le requests sent) ≡ true
    → is_group pasid requests (group_of sender (sent + 1) last) ≡ true
is_group-group_of pasid requests sender sent last is = by last
  where
    more : ((sender == pasid) && nat_le requests (sent + 1)) ≡ true
    more =
        let parts = and_parts (sender == pasid) (nat_le requests sent) is in
        let few = leb-true requests sent parts.1 in
        and_from (sender == pasid) (nat_le requests (sent + 1)) parts.0 (le-leb requests (sent + 1) (omega arith))

    by : (b : Bool) → is_group pasid requests (group_of sender (sent + 1) b) ≡ true
    by true = more
    by false = more

is_group-with_request : (pasid requests : ℕ) (last : Bool) (place : GroupPlace) → is_group pasid requests place ≡ true
    → is_group pasid requests (with_request last place) ≡ true
is_group-with_request pasid requests last Free is = is
is_group-with_request pasid requests last (Collecting sender sent) is = is_group-group_of pasid requests sender sent last is
is_group-with_request pasid requests last (Out sender sent) is = is
is_group-with_request pasid requests last (Stale sender sent) is = is

is_group-cond : (b : Bool) (pasid requests sender sent : ℕ) → is_group pasid requests (Out sender sent) ≡ true
    → is_group pasid requests (cond b (Stale sender sent) (Out sender sent)) ≡ true
is_group-cond true pasid requests sender sent is = is
is_group-cond false pasid requests sender sent is = is

is_group-stale_of : (pasid requests quit : ℕ) (place : GroupPlace) → is_group pasid requests place ≡ true
    → is_group pasid requests (stale_of quit place) ≡ true
is_group-stale_of pasid requests quit Free is = is
is_group-stale_of pasid requests quit (Collecting sender sent) is = is
is_group-stale_of pasid requests quit (Out sender sent) is = is_group-cond (sender == quit) pasid requests sender sent is
is_group-stale_of pasid requests quit (Stale sender sent) is = is

pub groups_stay : GroupsStay
groups_stay s index pasid requests calls permitted none is =
    group_lasts index (λ place. is_group pasid requests place ≡ true) (is_group-taken pasid requests)
    (λ sender last place unfinished. is_group-with_request pasid requests last place)
    (λ quit place. is_group-stale_of pasid requests quit place)
    s calls permitted none is
