use Rattle.sva_lines.proofs.Lines.{both}
use Rattle.sva_explain.proofs.limits.frames.put_full_of_job.Goals as goal

pub returns : goal.returns
returns c =
    both c.put_pages_of_job.result c.args.out.now.items c.put_to_map.new.out.items c.put_pages_of_job.new.out.items _ _ c.in_ok-put_to_map.ensures
    c.put_pages_of_job.ensures
