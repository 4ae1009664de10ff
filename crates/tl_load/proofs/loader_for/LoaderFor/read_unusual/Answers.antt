use Rattle.tl_load.proofs.Common.{rules}
use Rattle.tl_load.proofs.LineLaws.{judged_short}
use Rattle.tl_load.proofs.Steps.{place_not_device}
use Rattle.tl_load.proofs.Views.{on_ok_by}
use Rattle.tl_load.proofs.loader_for.LoaderFor.read_unusual.Goals as goal

pub returns-in-Ok : goal.returns-in-Ok
returns-in-Ok g c = search (rules, judged_short, on_ok_by)

pub returns-in-Err : goal.returns-in-Err
returns-in-Err g c = search (rules, place_not_device)
