use Rattle.std.proofs.Common.{◌≡◌, ◌+◌, ◌-◌, length, count_by, refl, ap, ◌∙◌, arith, rules}
use Rattle.std.proofs.lemmas.Fn.{filter_same}
use Rattle.std.proofs.lemmas.List.Filters.{length-filter_both}
use Rattle.std.proofs.lemmas.List.Sums.{length-filter}
use Rattle.sva_prq.specs.JobTable.{is_job_of_unit, is_job_of_other_unit, without_unit}
use Rattle.sva_prq.proofs.job_table.JobTable.drop_unit.Goals as goal

pub returns : goal.returns
returns c =
    let mine = is_job_of_unit c.args.unit in
    let others = is_job_of_other_unit c.args.unit in
    let jobs = c.self.inside.jobs.items in
    let left = filter_same _ others _ (λ job keep f' called. (search rules, search rules)) _ _ c.retain.ensures.filtered in
    let long = c.self.inside.jobs.ok.0 in
    let short = c.retain.new.self.ok.0 in
    let parts = length-filter_both mine others (λ _. refl) jobs in
    let gone : c.len-before.result - c.len.result ≡ count_by mine jobs =
    omega (arith, c.len-before.ensures, c.len.ensures, long, short, ap length left, parts, length-filter mine jobs) in
    (λ i. record {
      groups = c.drop_unit.ensures i;
      jobs = left i;
      room = c.self.inside.room + gone i;
      hands = c.self.inside.hands;
    })
    ∙ ap (λ s. without_unit s c.args.unit) c.self.view_is
