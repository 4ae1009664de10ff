use Rattle.tl_load.proofs.Common.{rules}
use Rattle.tl_load.proofs.Steps.{holds_more}
use Rattle.tl_load.proofs.Views.{opened}
use Rattle.tl_load.proofs.loader_for.LoaderFor.buffer_bytes.Goals as goal

pub returns-in-Ok-clause-takes : goal.returns-in-Ok-clause-takes
returns-in-Ok-clause-takes g c = search (rules, opened, holds_more)
