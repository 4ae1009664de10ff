use Rattle.tl_load.proofs.Common.{All-append, List, Loaded, ap, append_assoc, arith, drop, false, is_line_feed, length, length-append, length-drop, length-take, longest_line, most_unfinished, refl, seen, sym, take, take-append-drop, ℕ, ◌++◌, ◌+◌, ◌-◌, ◌<◌, ◌∙◌, ◌≡◌, ◌≤◌}
use Rattle.tl_load.proofs.Steps.{refuses}
use Rattle.tl_load.proofs.Views.{on_ok_of, opened}
use Rattle.tl_load.proofs.loader_for.LoaderFor.refuse_long.Goals as goal

pub returns-clause-takes : goal.returns-clause-takes
returns-clause-takes g c =
    let n = most_unfinished - c.len-rest.result in
    let bytes = c.args.bytes.now in
    let kept_bytes : c.take-line.result.items ≡ c.self.inside.line.items = ap (λ v. v.items) c.take-line.ensures.value in
    let len : c.len-rest.result ≡ length c.take-line.result.items = c.len-rest.ensures.value in
    let same : length c.take-line.result.items ≡ length c.self.inside.line.items = ap length kept_bytes in
    let short : length c.self.inside.line.items ≤ most_unfinished = c.self.invariant.short in
    let fits : length c.take-line.result.items + length (take n bytes) ≤ most_unfinished = omega (arith, len, same, short, length-take n bytes)
    in
    let line : c.as_slice.result.now ≡ c.take-line.result.items ++ take n bytes = c.as_slice.ensures.value
    ∙ on_ok_of c.try_extend_from_slice.result (c.try_extend_from_slice.ensures.variant.1 fits) c.try_extend_from_slice.ensures.ok in
    let split : c.self.inside.line.items ++ bytes ≡ c.as_slice.result.now ++ drop n bytes =
    ap (λ (l : List ℕ). l ++ bytes) (sym kept_bytes) ∙ ap (λ (l : List ℕ). c.take-line.result.items ++ l) (sym (take-append-drop n bytes))
    ∙ sym (append_assoc c.take-line.result.items (take n bytes) (drop n bytes)) ∙ ap (λ (l : List ℕ). l ++ drop n bytes) (sym line) in
    let too_long : most_unfinished < length c.self.inside.line.items + length bytes = rw (← c.self.view_is) at c.requires.too_long in
    let some : 0 < length (drop n bytes) = omega (arith, len, same, short, too_long, length-drop n bytes) in
    let long : longest_line < length c.as_slice.result.now =
    rw line (omega (arith, len, same, short, too_long, length-take n bytes, length-append c.take-line.result.items (take n bytes))) in
    let none = All-append (λ b. is_line_feed b ≡ false) c.self.inside.line.items bytes c.self.invariant.no_feed c.requires.no_feed in
    rw (← c.self.view_is) (λ records kept.
    let before = opened c.self.inside records in
    let mid : Loaded = record before { unfinished = c.take-line.new.self.items } in
    let j = c.judge_next.ensures.judges records (record { held = kept.held; counted = kept.counted }) in (
      j.0,
      j.1,
      refuses before mid (seen c.judge_next.new.self j.0) bytes _ (drop n bytes) c.judge_next.result
          (record { records = refl; parts = refl; judged = refl; limit = refl }) split some long none c.judge_next.ensures.short j.2,
    ))
