use Rattle.tigercanon.proofs.Sets.{only_strict_text, strict_text}
use Rattle.tigercanon.proofs.laws.strict_sets_keep_their_texts.Goals as goal

pub returns-clause-text : goal.returns-clause-text
returns-clause-text c = λ seen parts records answer view_laws spelled h. strict_text seen view_laws parts records answer spelled h

pub returns-clause-only : goal.returns-clause-only
returns-clause-only c = λ seen parts records answer text view_laws spelled h. only_strict_text seen view_laws parts records answer spelled h text
