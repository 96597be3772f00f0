-- Each act of one endpoint leaves the groups that the host has open as the move does that it is.
use Rattle.std.proofs.Common.{◌≡◌, ◌⊎◌, inl, inr, refl, ap, ℕ, false, arith}
use Rattle.std.specs.Prelude.{List}
use Rattle.sva_model.specs.Message.{Message}
use Rattle.sva_model.specs.Message.Message.{InvalidatedMessage}
use Rattle.sva_model.specs.State.{HostGroupState, Mappings, Endpoint}
use Rattle.sva_model.specs.State.HostGroupState.{NotFiled, PartFiled}
use Rattle.sva_model.specs.Acts.{LocalAct, act_alone}
use Rattle.sva_model.specs.Wire.{host_groups_wire, HostGroupWire}
use Rattle.sva_laws.proofs.Legal.{LegalLocalAct}
use Rattle.sva_laws.proofs.Invariant.{PartInvariant}
use Rattle.sva_laws.proofs.OnTheWay.{OnTheWay}
use Rattle.sva_laws.proofs.Jobs.{is_past}
use Rattle.sva_refinement.proofs.Kept.{host_groups_moved}
use Rattle.sva_refinement.proofs.Named.{own_move, count_move}
use Rattle.sva_refinement.proofs.HostGroupsFiled.{Filings}
use Rattle.sva_refinement.proofs.HostGroupsAct.{groups_group, groups_request, groups_hand, groups_discard, groups_reset}
use Rattle.sva_refinement.proofs.HostGroupsFile.{arrived_in, groups_file, groups_respond}
use Rattle.sva_refinement.proofs.JobActs.{FilesOpen}

-- a completion of invalidations leaves them
count_same : (first e c : ℕ) (m : Message) (groups : List HostGroupWire) → groups ≡ host_groups_moved groups (count_move first e c m)
count_same first e c (InvalidatedMessage v f) groups = refl
count_same first e c _ groups = refl

begun_or_not : (s : HostGroupState) → is_past s ≡ false → (s ≡ NotFiled) ⊎ (s ≡ PartFiled)
begun_or_not s h = grind arith

-- where a request is filed in a group that isn't a job yet, and that no reset has dropped
pub host_groups_in_turn :
    (ms : Mappings) (x g n e first : ℕ) (p : Endpoint) (o : LocalAct) → LegalLocalAct ms g p o → PartInvariant ms x g n e p → FilesOpen p o → Filings p
    → host_groups_wire first (act_alone p n o) ≡ host_groups_moved (host_groups_wire first p) (own_move first e ms p o)
host_groups_in_turn ms x g n e first p (LocalAct.Bind b s t) l i turn fi = refl
host_groups_in_turn ms x g n e first p (LocalAct.Stop b) l i turn fi = refl
host_groups_in_turn ms x g n e first p (LocalAct.Drain b cookie) l i turn fi = refl
host_groups_in_turn ms x g n e first p (LocalAct.Invalidate b cookie) l i turn fi = refl
host_groups_in_turn ms x g n e first p (LocalAct.Quieten b) l i turn fi = refl
host_groups_in_turn ms x g n e first p (LocalAct.Release b) l i turn fi = refl
host_groups_in_turn ms x g n e first p (LocalAct.Send k t) l i turn fi = refl
host_groups_in_turn ms x g n e first p (LocalAct.Pass k) l i turn fi = refl
host_groups_in_turn ms x g n e first p (LocalAct.File r) l i turn fi = groups_file ms x g n e first p r l i fi (begun_or_not (p.host_group (p.group_of r)) turn)
host_groups_in_turn ms x g n e first p LocalAct.Reset l i turn fi = groups_reset first n p
host_groups_in_turn ms x g n e first p (LocalAct.Hand y w) l i turn fi = groups_hand ms g first n p y w l
host_groups_in_turn ms x g n e first p (LocalAct.Respond y code) l i turn fi = groups_respond ms x g first n e p y code l i
host_groups_in_turn ms x g n e first p (LocalAct.Discard y) l i turn fi = groups_discard ms x g first n e p y l i
host_groups_in_turn ms x g n e first p (LocalAct.Ask b q t) l i turn fi = refl
host_groups_in_turn ms x g n e first p (LocalAct.Begin r m t) l i turn fi = refl
host_groups_in_turn ms x g n e first p (LocalAct.End u) l i turn fi = refl
host_groups_in_turn ms x g n e first p (LocalAct.Evict r) l i turn fi = refl
host_groups_in_turn ms x g n e first p (LocalAct.Group b y q r w z) l i turn fi = groups_group g first n p b y q r w z i.bounds fi
host_groups_in_turn ms x g n e first p (LocalAct.Request y q r w z) l i turn fi = groups_request g first n p y q r w z i.bounds fi
host_groups_in_turn ms x g n e first p (LocalAct.Finish names vector count) l i turn fi = refl
host_groups_in_turn ms x g n e first p (LocalAct.Quit b) l i turn fi = refl
host_groups_in_turn ms x g n e first p (LocalAct.Start_arrives m b) l i turn fi = refl
host_groups_in_turn ms x g n e first p (LocalAct.Stop_arrives m b) l i turn fi = refl
host_groups_in_turn ms x g n e first p (LocalAct.Reset_arrives m) l i turn fi = refl
host_groups_in_turn ms x g n e first p (LocalAct.Keep m r y) l i turn fi = refl
host_groups_in_turn ms x g n e first p (LocalAct.Forget m r) l i turn fi = refl
host_groups_in_turn ms x g n e first p (LocalAct.Take m k) l i turn fi = refl
host_groups_in_turn ms x g n e first p (LocalAct.Answered m y code) l i turn fi = refl
host_groups_in_turn ms x g n e first p (LocalAct.Complete m r found answer) l i turn fi = refl
host_groups_in_turn ms x g n e first p (LocalAct.Count m names) l i turn fi = count_same first e m (p.carried m) (host_groups_wire first p)
host_groups_in_turn ms x g n e first p (LocalAct.Arrive m r) l i turn fi = refl
host_groups_in_turn ms x g n e first p (LocalAct.Miss m r) l i turn fi = refl
host_groups_in_turn ms x g n e first p (LocalAct.Mark m b) l i turn fi = refl
host_groups_in_turn ms x g n e first p (LocalAct.Ignore m) l i turn fi = refl
host_groups_in_turn ms x g n e first p (LocalAct.Reopen m) l i turn fi = refl

-- and that is so for each request that is filed
pub files_open : (ms : Mappings) (x g n e : ℕ) (p : Endpoint) (o : LocalAct) → LegalLocalAct ms g p o → PartInvariant ms x g n e p → OnTheWay p → FilesOpen p o
files_open ms x g n e p (LocalAct.File r) l i on = go (p.host_group (p.group_of r)) (arrived_in ms x g n e p r i on l.0 l.1)
  where
    go : (s : HostGroupState) → (s ≡ NotFiled) ⊎ (s ≡ PartFiled) → is_past s ≡ false
    go s (inl h) = ap is_past h
    go s (inr h) = ap is_past h
files_open ms x g n e p _ l i on = tt

pub host_groups_acts :
    (ms : Mappings) (x g n e first : ℕ) (p : Endpoint) (o : LocalAct) → LegalLocalAct ms g p o → PartInvariant ms x g n e p → OnTheWay p → Filings p
    → host_groups_wire first (act_alone p n o) ≡ host_groups_moved (host_groups_wire first p) (own_move first e ms p o)
host_groups_acts ms x g n e first p o l i on fi = host_groups_in_turn ms x g n e first p o l i (files_open ms x g n e p o l i on) fi
