use Rattle.tl_load.proofs.Common.{Loaded, ap, refl, seen, sym, without_return, ◌∙◌}
use Rattle.tl_load.proofs.Steps.{ends_empty, ends_part}
use Rattle.tl_load.proofs.Views.{empty_is, opened, some_is}
use Rattle.tl_load.proofs.loader_for.LoaderFor.end_last_line.Goals as goal

pub returns-then-is_empty-clause-ends : goal.returns-then-is_empty-clause-ends
returns-then-is_empty-clause-ends g c =
    let none = empty_is c.self.inside.line.items (sym c.is_empty.ensures ∙ c.if-is_empty.true) in
    rw (← c.self.view_is) (λ records kept.
    let before = opened c.self.inside records in
    (records, kept, ends_empty before before none refl))

pub returns-clause-ends : goal.returns-clause-ends
returns-clause-ends g c =
    let line = c.without_carriage_return.ensures ∙ ap without_return (c.as_slice.ensures.value
    ∙ ap (λ v. v.items) c.take-tail.ensures.value) in
    let some = some_is c.self.inside.line.items (sym c.is_empty.ensures ∙ c.if-is_empty.false) in
    rw (← c.self.view_is) (λ records kept.
    let before = opened c.self.inside records in
    let mid : Loaded = record before { unfinished = c.take-tail.new.self.items } in
    let j = c.judge_next.ensures.judges records (record { held = kept.held; counted = kept.counted }) in (
      j.0,
      j.1,
      ends_part before mid (seen c.judge_next.new.self j.0) _ c.judge_next.result
          (record { records = refl; parts = refl; judged = refl; limit = refl }) some c.self.invariant.no_feed line j.2,
    ))
