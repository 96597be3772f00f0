-- The groups that the host has open, looked up in what it keeps: whether a binding has one.
use Rattle.std.proofs.Common.{◌≡◌, ap, sym, ◌∙◌, ℕ, ◌+◌, ◌<◌, ◌≤◌, true, arith}
use Rattle.std.specs.Prelude.{◌&&◌, not, ◌==◌}
use Rattle.std.proofs.lemmas.Bool.{and_from, eq-eqb, eqb-true}
use Rattle.sva_model.specs.Words.{lowest, any_below}
use Rattle.sva_model.specs.State.{HostGroupState, Mappings, Endpoint}
use Rattle.sva_model.specs.State.HostGroupState.{NotFiled}
use Rattle.sva_model.specs.States.{is_open_group}
use Rattle.sva_model.specs.Labels
use Rattle.sva_model.specs.Wire.{number, begins_open, host_group_wire, part_wire}
use Rattle.sva_labels.proofs.Words.{any_below-true, any_below-intro, lowest_below}
use Rattle.sva_laws.proofs.Bounds.{Bounds}
use Rattle.sva_laws.proofs.Groups.{open_filed}
use Rattle.sva_labels.proofs.Tests.{first_holds, second_holds}
use Rattle.sva_labels.proofs.Lists.{none_below}
use Rattle.sva_labels.specs.Finding.{has_open_group}
use Rattle.sva_refinement.proofs.HostGroupsFiled.{Filings}
use Rattle.sva_refinement.proofs.LookedBindings.{both_ways}
use Rattle.sva_refinement.proofs.Lookups.{any_seen}
use Rattle.sva_refinement.proofs.SpaceLists.{same_number}

open_made : (g n : ℕ) (h : HostGroupState) → is_open_group h ≡ true → (n ≤ g → h ≡ NotFiled) → g < n
open_made g n h e k = grind (arith)

-- the first filing of an open group
pub record Begun (p : Endpoint) (g : ℕ) : Type 0 where
  pub filing : ℕ
  pub made : filing < p.filings
  pub its : p.group_of (p.filing filing) ≡ g
  pub first : begins_open p filing ≡ true

pub begun : (p : Endpoint) (g : ℕ) → Filings p → is_open_group (p.host_group g) ≡ true → Begun p g
begun p g fi h =
    let f = fi.begun g (open_filed (p.host_group g) h) in
    let low = lowest_below p.filings (λ k. p.group_of (p.filing k) == g) f.0 f.1 (eq-eqb (p.group_of (p.filing f.0)) g f.2) in
    let its = eqb-true (p.group_of (p.filing (lowest p.filings (λ k. p.group_of (p.filing k) == g)))) g low.1 in
    record {
      filing = lowest p.filings (λ k. p.group_of (p.filing k) == g);
      made = low.0;
      its = its;
      first = and_from
          (is_open_group (p.host_group (p.group_of (p.filing (lowest p.filings (λ k. p.group_of (p.filing k) == g))))))
          (not (any_below (lowest p.filings (λ k. p.group_of (p.filing k) == g))
          (λ j. p.group_of (p.filing j) == p.group_of (p.filing (lowest p.filings (λ k. p.group_of (p.filing k) == g))))))
          (ap (λ z. is_open_group (p.host_group z)) its ∙ h)
          (ap not (none_below (lowest p.filings (λ k. p.group_of (p.filing k) == g))
          (λ j. p.group_of (p.filing j) == p.group_of (p.filing (lowest p.filings (λ k. p.group_of (p.filing k) == g))))
          (λ j l. ap (λ z. p.group_of (p.filing j) == z) its ∙ low.2 j l)));
    }

pub open_there :
    (first m b : ℕ) (ms : Mappings) (p : Endpoint) → Bounds m p → Filings p
    → has_open_group (part_wire first ms p) (number first b) ≡ Labels.has_open_group p b
open_there first m b ms p bo fi =
    any_seen p.filings (begins_open p) (λ k. host_group_wire first p (p.group_of (p.filing k))) (λ g. g.binding == first + b)
    ∙ both_ways (any_below p.filings (λ k. begins_open p k && first + p.filed_under (p.group_of (p.filing k)) == first + b))
    (Labels.has_open_group p b) forth back
  where
    forth : any_below p.filings (λ k. begins_open p k && first + p.filed_under (p.group_of (p.filing k)) == first + b) ≡ true
        → Labels.has_open_group p b ≡ true
    forth h =
        let x = any_below-true p.filings (λ k. begins_open p k && first + p.filed_under (p.group_of (p.filing k)) == first + b) h in
        let is_open =
        first_holds (is_open_group (p.host_group (p.group_of (p.filing x.0))))
        (not (any_below x.0 (λ j. p.group_of (p.filing j) == p.group_of (p.filing x.0))))
        (first_holds (begins_open p x.0) (first + p.filed_under (p.group_of (p.filing x.0)) == first + b) x.2) in
        any_below-intro p.groups (λ g. is_open_group (p.host_group g) && p.filed_under g == b) (p.group_of (p.filing x.0))
        (open_made (p.group_of (p.filing x.0)) p.groups (p.host_group (p.group_of (p.filing x.0))) is_open (bo.host_group (p.group_of (p.filing x.0))))
        (and_from (is_open_group (p.host_group (p.group_of (p.filing x.0)))) (p.filed_under (p.group_of (p.filing x.0)) == b) is_open
        (sym (same_number first (p.filed_under (p.group_of (p.filing x.0))) b)
        ∙ second_holds (begins_open p x.0) (first + p.filed_under (p.group_of (p.filing x.0)) == first + b) x.2))

    back : Labels.has_open_group p b ≡ true
        → any_below p.filings (λ k. begins_open p k && first + p.filed_under (p.group_of (p.filing k)) == first + b) ≡ true
    back h =
        let x = any_below-true p.groups (λ g. is_open_group (p.host_group g) && p.filed_under g == b) h in
        let f = begun p x.0 fi (first_holds (is_open_group (p.host_group x.0)) (p.filed_under x.0 == b) x.2) in
        any_below-intro p.filings (λ k. begins_open p k && first + p.filed_under (p.group_of (p.filing k)) == first + b) f.filing f.made
        (and_from (begins_open p f.filing) (first + p.filed_under (p.group_of (p.filing f.filing)) == first + b) f.first
        (same_number first (p.filed_under (p.group_of (p.filing f.filing))) b ∙ ap (λ z. p.filed_under z == b) f.its
        ∙ second_holds (is_open_group (p.host_group x.0)) (p.filed_under x.0 == b) x.2))
