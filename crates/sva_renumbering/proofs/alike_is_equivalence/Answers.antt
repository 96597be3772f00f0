use Rattle.sva_renumbering.proofs.Equal as equal
use Rattle.sva_renumbering.proofs.alike_is_equivalence.Goals as goal

pub returns : goal.returns
returns c =
    record {
      itself = equal.alike_itself;
      turned = equal.alike_turned;
      through = equal.alike_through;
      names_itself = equal.names_itself;
      names_turned = equal.names_turned;
      names_through = equal.names_through;
      by_endpoint = equal.alike_by_endpoint;
    }
