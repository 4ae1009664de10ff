use Rattle.tl_load.proofs.Common.{AddsRecord, Err, HoldsByType, List, Ok, OnOk, Record, Result, Tables, [], holds_with, ◌++◌, ◌∷◌}
use Rattle.tl_load.proofs.collector.TablesCollector.push_record.Goals as goal

pushed : {T E : Type 0} (r : Result T E) (before after : Tables) (records : List Record) (added : Record) → HoldsByType before records
    → OnOk r (AddsRecord before added after) → OnOk r (HoldsByType after (records ++ added ∷ []))
pushed (Ok x) before after records added held adds = holds_with before after records added held adds
pushed (Err e) before after records added held adds = tt

pub returns : goal.returns
returns g c records held = pushed c.push_into.result _ _ records (g.L.Tabled.as_record c.args.found) held c.push_into.ensures.ok
