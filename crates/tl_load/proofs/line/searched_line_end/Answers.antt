use Rattle.tl_load.proofs.Common.{rules}
use Rattle.tl_load.proofs.Views.{cut_at, no_feed, no_feed_below}
use Rattle.tl_load.proofs.line.searched_line_end.Goals as goal

pub returns-in-Some : goal.returns-in-Some
returns-in-Some c = search (rules, cut_at, no_feed_below)

pub returns-in-None : goal.returns-in-None
returns-in-None c = no_feed c.args.bytes.now c.in-None.ensures
