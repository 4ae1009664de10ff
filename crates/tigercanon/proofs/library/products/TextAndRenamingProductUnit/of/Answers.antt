use Rattle.tigercanon.proofs.CanonicalTexts.{carried_of_set, text_of_set}
use Rattle.tigercanon.proofs.library.products.TextAndRenamingProductUnit.of.Goals as goal

pub returns : goal.returns
returns g c = λ parts set. (
  text_of_set c.args._mask _ _ _ set c.in_ok-text.text.items c.in_ok-text.ensures,
  carried_of_set c.args._mask _ _ _ set c.args.county.now.whole.is_county c.in_ok-text.text.items c.in_ok-text.ensures
      c.in_ok-renaming.renaming c.in_ok-renaming.ensures.carries,
)
