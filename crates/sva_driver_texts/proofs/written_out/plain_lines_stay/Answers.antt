use Rattle.sva_driver_texts.proofs.Plain.{plain_stay}
use Rattle.sva_driver_texts.proofs.written_out.plain_lines_stay.Goals as goal

pub returns : goal.returns
returns c = plain_stay
