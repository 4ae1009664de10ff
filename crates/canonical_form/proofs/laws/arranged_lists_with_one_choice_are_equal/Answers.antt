use Rattle.canonical_form.proofs.Unique.Uniqueness.{rigid_lists}
use Rattle.canonical_form.proofs.laws.arranged_lists_with_one_choice_are_equal.Goals as goal

pub returns : goal.returns
returns c = rigid_lists
