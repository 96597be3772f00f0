use Rattle.sva_why_laws.proofs.Withheld
use Rattle.sva_why_laws.proofs.withheld_stand.Goals as goal

pub returns : goal.returns
returns c = record {
  wait_stands = Withheld.wait_stands;
  reset_stands = Withheld.reset_stands;
  pages_alike = Withheld.pages_alike;
  frames_alike = Withheld.frames_alike;
  frames_stand = Withheld.frames_stand;
  wait_of_range_stands = Withheld.wait_of_range_stands;
  reset_of_range_stands = Withheld.reset_of_range_stands;
}
