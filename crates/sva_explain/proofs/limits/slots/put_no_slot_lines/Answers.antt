use Rattle.sva_lines.proofs.Lines.{both}
use Rattle.sva_explain.proofs.limits.slots.put_no_slot_lines.Goals as goal

pub returns : goal.returns
returns c =
    both c.put_each_slot.result c.args.out.now.items c.put_slots_line.new.out.items c.put_each_slot.new.out.items _ _ c.in_ok-put_slots_line.ensures
    c.put_each_slot.ensures
