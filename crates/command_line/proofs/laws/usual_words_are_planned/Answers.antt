use Rattle.command_line.proofs.UsualWords.Planned.{usual_words_planned}
use Rattle.command_line.proofs.laws.usual_words_are_planned.Goals as goal

pub returns : goal.returns
returns c = usual_words_planned
