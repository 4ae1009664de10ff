use Rattle.tl_load.proofs.Common.{IsWithoutLineFeed, Loaded, [], ap, append-nil, refl, seen, subst, sym, without_return, ◌∙◌}
use Rattle.tl_load.proofs.Steps.{ends_line}
use Rattle.tl_load.proofs.Views.{opened}
use Rattle.tl_load.proofs.loader_for.LoaderFor.end_held_line.Goals as goal

pub returns-clause-takes : goal.returns-clause-takes
returns-clause-takes g c =
    let kept_bytes = c.self.inside.line.items in
    let whole = sym (append-nil kept_bytes) in
    let line = c.without_carriage_return.ensures ∙ ap without_return (c.as_slice.ensures.value ∙ ap (λ v. v.items) c.take-line.ensures.value
    ∙ whole) in
    let no_feed = subst IsWithoutLineFeed whole c.self.invariant.no_feed in
    rw (← c.self.view_is) (λ records kept.
    let mid : Loaded = record (opened c.self.inside records) { unfinished = c.take-line.new.self.items } in
    let j = c.judge_next.ensures.judges records (record { held = kept.held; counted = kept.counted }) in (
      j.0,
      j.1,
      ends_line (opened c.self.inside records) mid (seen c.judge_next.new.self j.0) [] _ c.judge_next.result
          (record { records = refl; parts = refl; judged = refl; limit = refl }) line no_feed j.2
          c.judge_next.ensures.judged (c.judge_next.ensures.unfinished
          ∙ c.take-line.ensures.after) c.judge_next.ensures.same_part.parts c.judge_next.ensures.same_part.limit,
    ))
