use Rattle.sva_step.proofs.AnswerTexts as texts
use Rattle.sva_step.proofs.answers.texts_tell_apart.Goals as goal

pub returns : goal.returns
returns c = texts.texts_tell_apart
