use Rattle.tl_load.proofs.Common.{Err, List, Ok, OnOk, Record, Result, [], rules, spelling_of, text_of, ℕ, ◌++◌, ◌∷◌, ◌≡◌}
use Rattle.tl_load.proofs.TextLemmas.{text_of-snoc}
use Rattle.tl_load.proofs.collector.CanonicalTextCollector.push_record.Goals as goal

extended : {T E : Type 0} (r : Result T E) (before after line : List ℕ) (records : List Record) (added : Record) → before ≡ text_of records
    → spelling_of added ≡ line → OnOk r (after ≡ before ++ (line ++ 10 ∷ [])) → OnOk r (after ≡ text_of (records ++ added ∷ []))
extended (Ok x) before after line records added held spelled more = search (rules, text_of-snoc)
extended (Err e) before after line records added held spelled more = tt

pub returns : goal.returns
returns g c records held = search (rules, extended)
