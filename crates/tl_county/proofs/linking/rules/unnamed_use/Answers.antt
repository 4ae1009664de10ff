use Rattle.tl_county.proofs.Common.{least-same, rules, sym, ◌∙◌}
use Rattle.tl_county.proofs.ByKey.MarkedNames.{none_unnamed}
use Rattle.tl_county.proofs.Rules.RuleTests.{unnamed-reordered}
use Rattle.tl_county.proofs.linking.rules.unnamed_use.Goals as goal

pub returns-then-branch : goal.returns-then-branch
returns-then-branch c = none_unnamed c.args.feats.now c.args.names.now (sym c.in_ok-all_named.ensures ∙ c.if-branch.true)

pub returns : goal.returns
returns c = search (rules, least-same, unnamed-reordered)
