use Rattle.std.proofs.Common.{◌≡◌, ℕ, ◌≤◌, length, List, refl, sym, ap, subst, ◌∙◌, arith}
use Rattle.std.specs.Prelude.{Result}
use Rattle.sva_step.specs.declared.limits.Config.{Config}
use Rattle.sva_core.specs.Journal.{History, bindings_of, uses_of}
use Rattle.sva_fabric.specs.declared.audits.Audit.{Audit}
use Rattle.sva_fabric.specs.declared.audits.FirstBadReceipt.{FirstBadReceipt}
use Rattle.sva_fabric.specs.Receipts.{PortState}
use Rattle.sva_fabric.specs.Audits.{calls_of, states_of, held_by, used_by, IsFinished}
use Rattle.sva_fabric.proofs.fabric.Fabric.finish.Goals as goal

-- what the audit found is what is told
of_result : {config : Config} {parts : ℕ} {states : List PortState} {held used : ℕ} {r q : Result Audit FirstBadReceipt}
    → IsFinished config parts states held used r → r ≡ q → IsFinished config parts states held used q
of_result {config} {parts} {states} {held} {used} h is = subst (λ r. IsFinished config parts states held used r) is h

pub returns : goal.returns
returns g c =
    let amount : c.compare.new.calls.amount ≡ calls_of (states_of c.args.ports) = c.compare.ensures.amount ∙ c.gather-calls.ensures.amount in
    let spent : c.spend.new.self ≡ c.journaled.result.now =
    c.spend.ensures.same ∙ (c.empty_shares-held.ensures.same ∙ sym c.journaled.ensures.same) in
    let same : c.compare.new.self ≡ c.journaled.result.now = c.compare.ensures.same ∙ spent in
    let held : c.gather_tokens.new.held.amount ≡ held_by c.args.tokens =
    omega (arith, c.gather_tokens.ensures.held, c.empty_shares-held.ensures.bindings) in
    let used : c.gather_tokens.new.used.amount ≡ used_by c.args.tokens =
    omega (arith, c.gather_tokens.ensures.used, c.empty_shares-held.ensures.uses) in
    let found : IsFinished g.C.Ledgers.config g.C.Ledger.parts (states_of c.args.ports) (held_by c.args.tokens) (used_by c.args.tokens)
    c.audit-result.result = record {
      journal = c.journaled.result.now;
      legal = c.audit-result.ensures.legal;
      of_config = ap (λ (h : History). h.config) c.journaled.ensures.same ∙ c.journaled.ensures.config;
      counted = subst (λ (h : History). calls_of (states_of c.args.ports) ≤ length h.entries) same
          (subst (λ (n : ℕ). n ≤ length c.compare.new.self.entries) amount c.compare.ensures.some);
      all_counted = λ many. sym amount ∙ c.compare.ensures.all (c.compare.ensures.parts ∙ c.gather-calls.ensures.parts ∙ many)
          ∙ ap (λ (h : History). length h.entries) same;
      few_held = subst (λ (h : History). held_by c.args.tokens ≤ bindings_of h) spent
          (subst (λ (n : ℕ). n ≤ bindings_of c.spend.new.self) held c.spend.ensures.held);
      few_used = subst (λ (h : History). used_by c.args.tokens ≤ uses_of h) spent
          (subst (λ (n : ℕ). n ≤ uses_of c.spend.new.self) used c.spend.ensures.used);
      is_audit = c.audit-result.ensures.audit;
      once = c.audit-result.ensures.once;
    } in
    record { audit = of_result found refl }
