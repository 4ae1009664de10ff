use Rattle.arranged_county.proofs.Common.{number_seen, number_unseen, sym}
use Rattle.arranged_county.proofs.renumbering.new_feat.Goals as goal

pub returns-in-Some : goal.returns-in-Some
returns-in-Some c = sym (number_seen c.args.feats.now c.args.feat c.in-Some.place c.in-Some.ensures.first)

pub returns-in-None : goal.returns-in-None
returns-in-None c = sym (number_unseen c.args.feats.now c.args.feat c.in-None.ensures.first)
