use Rattle.tl_county.proofs.Common.{rules, ◌∙◌}
use Rattle.tl_county.proofs.Rules.TlidsInOrder.{tables_in_order}
use Rattle.tl_county.proofs.linking.rules.check_topologies.Goals as goal

pub least_absent-requires : goal.least_absent-requires
least_absent-requires c =
    search (rules, tables_in_order, c.deref.ensures.value ∙ c.requires.chains, c.deref-2.ensures.value ∙ c.requires.topologies)

pub least_repeated-requires : goal.least_repeated-requires
least_repeated-requires c = search (rules, tables_in_order, c.deref-3.ensures.value ∙ c.requires.topologies)
