use Rattle.arranged_county.proofs.Common.{key_seen, key_unseen, sym}
use Rattle.arranged_county.proofs.renumbering.new_key.Goals as goal

pub returns-in-Some-clause-image : goal.returns-in-Some-clause-image
returns-in-Some-clause-image c = sym (key_seen c.args.polygons.now c.args.key c.in-Some.place c.in-Some.ensures.first)

pub returns-in-None-clause-image : goal.returns-in-None-clause-image
returns-in-None-clause-image c = sym (key_unseen c.args.polygons.now c.args.key c.in-None.ensures.first)
