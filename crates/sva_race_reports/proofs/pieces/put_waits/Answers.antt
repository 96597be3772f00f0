use Rattle.std.proofs.Common.{◌≡◌, [], ◌++◌, codes, decimal, if◌then◌else◌, OnOk, rules, subst, sym, true}
use Rattle.sva_lines.proofs.Lines.{both}
use Rattle.sva_race_reports.proofs.Rows.{if_well, joined}
use Rattle.sva_race_reports.proofs.pieces.put_waits.Goals as goal

pub returns : goal.returns
returns c =
    let out = c.args.out.now.items in
    let thread = c.args.thread.now in
    let named = c.extend_from_slice.new.self.items in
    let said = c.extend_from_slice-2.new.self.items in
    let numbered = c.put_number.new.out.items in
    let last = c.extend_from_slice-3 in
    let waits = thread ++ codes " waits at line " in
    let is_next : c.args.is_next ≡ true = search rules in
    let until = joined out said numbered waits (decimal c.args.line)
    (joined out named said thread (codes " waits at line ") c.in_ok-extend_from_slice.ensures.items c.in_ok-extend_from_slice-2.ensures.items)
    c.in_ok-put_number.ensures in
    subst (λ b. OnOk last.result (last.new.self.items ≡ out ++ (if b then waits ++ decimal c.args.line ++ codes "; " else []))) (sym is_next)
    (both last.result out numbered last.new.self.items (waits ++ decimal c.args.line) (codes "; ") until
    (if_well last.result numbered last.new.self.items (numbered ++ codes "; ") last.ensures.items))
