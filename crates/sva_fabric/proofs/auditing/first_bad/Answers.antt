use Rattle.std.proofs.Common.{◌≡◌, ◌+◌, List, ℕ, length, ap, subst, inr}
use Rattle.sva_core.specs.declared.receipts.Receipt.{Receipt}
use Rattle.sva_fabric.specs.Receipts.{PortState}
use Rattle.sva_fabric.specs.Audits.{AllStand, EachStands, IsFirstBadOf}
use Rattle.sva_fabric.specs.Once.{AllRise}
use Rattle.sva_fabric.proofs.Once.{rise_both}
use Rattle.sva_fabric.proofs.Sums.{each_append, bad_before, bad_behind, none_map, some_map}
use Rattle.sva_fabric.proofs.auditing.first_bad.Goals as goal

pub returns-in-Some-first_bad_from-clause-some : goal.returns-in-Some-first_bad_from-clause-some
returns-in-Some-first_bad_from-clause-some g c =
    let e = c.args.journaled.now.entries in
    let p = c.args.ports.now in
    let bad = c.in-Some-first_bad_from.bad in
    let host : AllStand e 0 p.host.receipts = subst (λ (rs : List Receipt). AllStand e 0 rs) c.receipts.ensures.exact c.in_default.ensures.none in
    let link : AllStand e 1 p.link.receipts = subst (λ
    (rs : List Receipt). AllStand e 1 rs) c.receipts-2.ensures.exact c.in_default-first_bad_of.ensures.none in
    let service : AllStand e 2 p.service.receipts = subst (λ
    (rs : List Receipt). AllStand e 2 rs) c.receipts-3.ensures.exact c.in_default-first_bad_of-2.ensures.none in
    let there : IsFirstBadOf e 3 p.endpoints.items bad.port bad.place = subst (λ
    (ss : List PortState). IsFirstBadOf e 3 ss bad.port bad.place) c.as_slice-endpoints.ensures.value c.in-Some-first_bad_from.ensures.some in
    inr (host, inr (link, inr (service, bad_before e 3 p.endpoints.items p.workers.items bad.port bad.place there)))

pub returns-clause-none : goal.returns-clause-none
returns-clause-none g c =
    let e = c.args.journaled.now.entries in
    let p = c.args.ports.now in
    let host : AllStand e 0 p.host.receipts = subst (λ (rs : List Receipt). AllStand e 0 rs) c.receipts.ensures.exact c.in_default.ensures.none in
    let link : AllStand e 1 p.link.receipts = subst (λ
    (rs : List Receipt). AllStand e 1 rs) c.receipts-2.ensures.exact c.in_default-first_bad_of.ensures.none in
    let service : AllStand e 2 p.service.receipts = subst (λ
    (rs : List Receipt). AllStand e 2 rs) c.receipts-3.ensures.exact c.in_default-first_bad_of-2.ensures.none in
    let each : EachStands e 3 p.endpoints.items = subst (λ
    (ss : List PortState). EachStands e 3 ss) c.as_slice-endpoints.ensures.value c.in_default-first_bad_from.ensures.none in
    let many : length c.as_slice-endpoints.result.now ≡ length p.endpoints.items = ap length c.as_slice-endpoints.ensures.value in
    none_map c.first_bad_from-2.result
    (λ (rest : EachStands e (3 + length c.as_slice-endpoints.result.now) c.as_slice-workers.result.now). (
      host,
      (
        link,
        (
          service,
          each_append e 3 p.endpoints.items p.workers.items each (subst (λ (n : ℕ). EachStands e (3 + n) p.workers.items) many
              (subst (λ (ss : List PortState). EachStands e (3 + length c.as_slice-endpoints.result.now) ss) c.as_slice-workers.ensures.value rest)),
        ),
      ),
    ))
    c.first_bad_from-2.ensures.none

pub returns-clause-rise : goal.returns-clause-rise
returns-clause-rise g c =
    let p = c.args.ports.now in
    let each : AllRise p.endpoints.items = subst AllRise c.as_slice-endpoints.ensures.value c.in_default-first_bad_from.ensures.rise in
    none_map c.first_bad_from-2.result
    (λ (rest : AllRise c.as_slice-workers.result.now). (
      c.receipts.ensures.rising,
      (
        c.receipts-2.ensures.rising,
        (c.receipts-3.ensures.rising, rise_both p.endpoints.items p.workers.items each (subst AllRise c.as_slice-workers.ensures.value rest)),
      ),
    ))
    c.first_bad_from-2.ensures.rise

pub returns-clause-some : goal.returns-clause-some
returns-clause-some g c =
    let e = c.args.journaled.now.entries in
    let p = c.args.ports.now in
    let host : AllStand e 0 p.host.receipts = subst (λ (rs : List Receipt). AllStand e 0 rs) c.receipts.ensures.exact c.in_default.ensures.none in
    let link : AllStand e 1 p.link.receipts = subst (λ
    (rs : List Receipt). AllStand e 1 rs) c.receipts-2.ensures.exact c.in_default-first_bad_of.ensures.none in
    let service : AllStand e 2 p.service.receipts = subst (λ
    (rs : List Receipt). AllStand e 2 rs) c.receipts-3.ensures.exact c.in_default-first_bad_of-2.ensures.none in
    let each : EachStands e 3 p.endpoints.items = subst (λ
    (ss : List PortState). EachStands e 3 ss) c.as_slice-endpoints.ensures.value c.in_default-first_bad_from.ensures.none in
    let many : length c.as_slice-endpoints.result.now ≡ length p.endpoints.items = ap length c.as_slice-endpoints.ensures.value in
    some_map c.first_bad_from-2.result
    (λ bad (rest : IsFirstBadOf e (3 + length c.as_slice-endpoints.result.now) c.as_slice-workers.result.now bad.port bad.place).
    inr (
      host,
      inr (
        link,
        inr (
          service,
          bad_behind e 3 p.endpoints.items p.workers.items bad.port bad.place each
              (subst (λ (n : ℕ). IsFirstBadOf e (3 + n) p.workers.items bad.port bad.place) many
              (subst (λ (ss : List PortState). IsFirstBadOf e
              (3 + length c.as_slice-endpoints.result.now) ss bad.port bad.place) c.as_slice-workers.ensures.value rest)),
        ),
      ),
    ))
    c.first_bad_from-2.ensures.some
