use Rattle.sva_endpoint.proofs.SoundLaws.{always_sound}
use Rattle.sva_endpoint.proofs.TagLaws.{tags_stay_taken, doomed_never_held}
use Rattle.sva_endpoint.proofs.WaitLaws.{finish_waits}
use Rattle.sva_endpoint.proofs.NoteLaws.{notes_exactly, in_use_exactly}
use Rattle.sva_endpoint.proofs.UseLaws.{dead_uses_stay, resets_end_uses}
use Rattle.sva_endpoint.proofs.GroupLaws.{stale_groups_stay, groups_stay}
use Rattle.sva_endpoint.proofs.laws.endpoint_laws.Goals as goal

pub returns : goal.returns
returns c = record {
  sound = always_sound;
  tags = tags_stay_taken;
  doomed = doomed_never_held;
  waits = finish_waits;
  notes = notes_exactly;
  in_use =
      in_use_exactly;
  dead = dead_uses_stay;
  resets = resets_end_uses;
  stale = stale_groups_stay;
  groups = groups_stay;
}
