use Rattle.std.proofs.lemmas.Fn.{filter_same}
use Rattle.tl_number.proofs.Common.{rules}
use Rattle.tl_number.proofs.key_groups.keep_wanted.Goals as goal

pub returns : goal.returns
returns g c = filter_same _ _ _ (λ x b f' k. search rules) _ _ c.retain.ensures.filtered
