use Rattle.sva_lines.proofs.Lines.{both}
use Rattle.sva_explain.proofs.outstanding.credits.put_all_unfinished.Goals as goal

pub returns : goal.returns
returns c =
    let old = c.args.out.now.items in
    both c.put_reset.result old c.put_word.new.out.items c.put_reset.new.out.items _ _ c.in_ok-put_word.ensures c.put_reset.ensures
