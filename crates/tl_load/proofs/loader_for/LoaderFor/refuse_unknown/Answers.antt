use Rattle.tl_load.proofs.Common.{rules}
use Rattle.tl_load.proofs.Steps.{place_not_device}
use Rattle.tl_load.proofs.loader_for.LoaderFor.refuse_unknown.Goals as goal

pub returns : goal.returns
returns g c = search (rules, place_not_device)
