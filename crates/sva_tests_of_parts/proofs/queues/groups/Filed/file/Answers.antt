use Rattle.std.proofs.Common.{◌+◌, sym, subst, arith}
use Rattle.sva_prq.specs.Groups.{CanFile, Groups, with_room}
use Rattle.sva_tests_of_parts.specs.Few.{HasFew}
use Rattle.sva_tests_of_parts.proofs.FewRequests.{can_file, filed_has_few, some_room}
use Rattle.sva_tests_of_parts.proofs.queues.groups.Filed.file.Goals as goal

pub file-requires : goal.file-requires
file-requires g c =
    let old = c.args.self.now in
    subst (λ (s : Groups). CanFile s c.args.unit c.args.binding c.args.request.index) (sym c.in_ok-reserve.ensures.ok)
    (can_file old.requests (with_room old.groups) c.args.unit c.args.binding c.args.request.index (omega arith) old.few (some_room old.groups))

pub invariant_of-self-2 : goal.invariant_of-self-2
invariant_of-self-2 g c =
    let old = c.args.self.now in
    record {
      few = subst (HasFew (old.requests + 1)) (sym c.file.ensures.groups)
          (filed_has_few old.requests c.reserve.new.self c.args.unit c.args.binding c.args.request
          (subst (HasFew old.requests) (sym c.in_ok-reserve.ensures.ok) old.few));
    }
