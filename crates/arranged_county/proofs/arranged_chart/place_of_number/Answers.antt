use Rattle.arranged_county.proofs.Common.{Some, ap, arith, inl, inr, sym, ◌+◌, ◌-◌, ◌∙◌, ◌≡◌}
use Rattle.arranged_county.proofs.Views.ViewNumbers.{get_up_to, known_up_to, unknown_up_to}
use Rattle.arranged_county.proofs.arranged_chart.place_of_number.Goals as goal

pub returns-then-number-eq0-clause-known : goal.returns-then-number-eq0-clause-known
returns-then-number-eq0-clause-known c = sym (unknown_up_to c.args.count c.args.number (inl c.if-number-eq0.true))

pub returns-then-place-count-clause-found : goal.returns-then-place-count-clause-found
returns-then-place-count-clause-found c =
    get_up_to c.args.count (c.args.number - 1) c.if-place-count.true
    ∙ ap Some (let t : c.args.number - 1 + 1 ≡ c.args.number = omega arith in t)

pub returns-then-place-count-clause-known : goal.returns-then-place-count-clause-known
returns-then-place-count-clause-known c = sym (known_up_to c.args.count c.args.number (omega arith) (omega arith))

pub returns-else-place-count-clause-known : goal.returns-else-place-count-clause-known
returns-else-place-count-clause-known c = sym (unknown_up_to c.args.count c.args.number (inr (omega arith)))
