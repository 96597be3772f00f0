use Rattle.std.proofs.Common.{◌≡◌, ◌++◌, subst}
use Rattle.std.specs.Prelude.{OnOk}
use Rattle.sva_labels.specs.Finding.{pages_in}
use Rattle.sva_explain.specs.Frames.{pages_line}
use Rattle.sva_explain.proofs.limits.frames.put_pages_of_job.Goals as goal

pub returns : goal.returns
returns c =
    let wire = c.args.snapshot.now in
    subst
    (λ space. OnOk c.put_pages_at.result (c.put_pages_at.new.out.items ≡ c.args.out.now.items ++ pages_line wire space (pages_in wire space)))
    c.space_of_job.ensures c.put_pages_at.ensures
