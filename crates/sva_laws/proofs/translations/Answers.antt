use Rattle.sva_laws.proofs.Claimed.{always_agrees}
use Rattle.sva_laws.proofs.translations.Goals as goal

pub returns-clause-owned : goal.returns-clause-owned
returns-clause-owned c = λ rule config steps e b q m fits. (always_agrees rule config steps fits).owner e b q m

pub returns-clause-safe : goal.returns-clause-safe
returns-clause-safe c = λ rule config steps e b q m fits. (always_agrees rule config steps fits).usable e b q m

pub returns-clause-latest : goal.returns-clause-latest
returns-clause-latest c = λ rule config steps e b q m fits. (always_agrees rule config steps fits).latest e b q m
