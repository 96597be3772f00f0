use Rattle.sva_lines.proofs.Lines.{both}
use Rattle.sva_explain.proofs.Chains.{joined}
use Rattle.sva_explain.proofs.limits.hands.put_hand_line.Goals as goal

pub returns : goal.returns
returns c =
    let old = c.args.out.now.items in
    let to_1 = joined old c.put_hand_text.new.out.items c.put_word.new.out.items _ _ c.in_ok-put_hand_text.ensures c.in_ok-put_word.ensures in
    let to_2 = joined old c.put_word.new.out.items c.put_invalid.new.out.items _ _ to_1 c.in_ok-put_invalid.ensures in
    both c.end_line.result old c.put_invalid.new.out.items c.end_line.new.out.items _ _ to_2 c.end_line.ensures
