use Rattle.std.proofs.Common.{◌++◌, ◌∙◌, ap, arith, length, sym}
use Rattle.sva_race_parts.proofs.Naming.{below_both, past_either}
use Rattle.sva_race_texts.specs.declared.terms.claims.Claim.{Claim}
use Rattle.sva_race_texts.specs.Readings.{asked_seen}
use Rattle.sva_race_reports.specs.Reports.{claim_text, with_witness}
use Rattle.sva_race_reports.proofs.Rulings.{claim_next, claims_end, few_witnesses}
use Rattle.sva_race_reports.proofs.claims.put_claims.Goals as goal

pub loop-place-preserved : goal.loop-place-preserved
loop-place-preserved c =
    let asked = c.args.asked.now in
    let claims = c.args.claims.now in
    let place = c.loop-place.place in
    let below = below_both (length asked) (length claims) place c.min-place-end.result c.min-place-end.ensures (omega (arith, c.loop-place-test.true)) in
    let counts = c.with_witness-before.ensures ∙ ap (with_witness c.loop-place.before) c.witness_of.ensures in record {
      said = claim_next c.args.found.now asked claims place c.loop-place.before c.with_witness-before.result c.index-asked-place.result
          c.index-claims-place.result c.loop-place.out.items c.put_claim.new.out.items _ below.0 below.1 (sym c.index-asked-place.is)
          (sym c.index-claims-place.is) counts c.loop-place.invariant.said
          (c.in_ok-put_claim.ensures ∙ ap (λ (claim : Claim). c.loop-place.out.items
          ++ claim_text c.args.found.now place c.loop-place.before (asked_seen c.index-asked-place.result) claim.claiming)
          (sym c.index-claims-place.is));
      few = few_witnesses c.loop-place.before c.with_witness-before.result place _ counts c.loop-place.invariant.few;
    }

pub returns : goal.returns
returns c =
    let past = past_either (length c.args.asked.now) (length c.args.claims.now) c.loop-place.place c.min-place-end.result c.min-place-end.ensures
    c.loop-place-test.false in
    claims_end c.args.found.now c.args.asked.now c.args.claims.now c.loop-place.place c.loop-place.before c.loop-place.out.items _ past
    c.loop-place.invariant.said
