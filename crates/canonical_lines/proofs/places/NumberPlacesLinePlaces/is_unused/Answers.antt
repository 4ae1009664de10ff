use Rattle.std.proofs.Common.{sym, ◌∙◌}
use Rattle.canonical_lines.proofs.NumberTexts.{blank_unused}
use Rattle.canonical_lines.proofs.places.NumberPlacesLinePlaces.is_unused.Goals as goal

pub returns : goal.returns
returns c blank = blank_unused c.args.columns.now c.requires (sym c.is_blank.ensures ∙ blank)
