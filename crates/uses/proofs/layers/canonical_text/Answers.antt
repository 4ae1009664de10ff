use Rattle.std.proofs.Common.{Err, List, Ok, Result, [], append-nil, subst, sym, ℕ, ◌∷◌}
use Rattle.std.specs.Prelude.{IfOk}
use Rattle.tl_load.specs.Outcome.{SpellsWithin}
use Rattle.tl_load.specs.Choice.{tiger}
use Rattle.tl_layout.specs.Limits.{most_records}
use Rattle.uses.proofs.layers.canonical_text.Goals as goal

if_ok : {T E : Type 0} {P Q : T → Type 0} (r : Result T E) → ((x : T) → P x → Q x) → IfOk r P → IfOk r Q
if_ok (Ok x) f h = f x h
if_ok (Err e) f h = tt

pub canonical_county-requires : goal.canonical_county-requires
unfolding tiger
canonical_county-requires c = c.in_ok-records.ensures.loaded.within

pub returns : goal.returns
returns c =
    let records = c.in_ok-records.records.items in
    if_ok c.text_in_memory-text.result (λ text same. record {
      records = records;
      canonical = _;
      spelled =
          subst (λ (file : List ℕ). SpellsWithin tiger most_records (file ∷ []) records) (append-nil c.args.file.now) c.in_ok-records.ensures.loaded;
      canonical_of = c.in_ok-canon.ensures;
      text_is = sym same;
    }) c.text_in_memory-text.ensures
