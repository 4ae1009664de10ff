use Rattle.tl_load.proofs.Common.{[], after_verdict, ap, arith, as_record, refl, sym, tiger, type_of, ◌++◌, ◌+◌, ◌∙◌, ◌∷◌, ◌≡◌}
use Rattle.tl_load.proofs.Counts.{adds_below, counted_more, loader_with, total_up}
use Rattle.tl_load.proofs.TextLemmas.{judged_full_line}
use Rattle.tl_load.proofs.loader_for.LoaderFor.push_unread.Goals as goal

pub invariant_of-self : goal.invariant_of-self
invariant_of-self g c =
    let s = c.self.inside in
    let kept = c.in-Ok-true.ensures.kept c.in-Ok-true.field-0-test in
    loader_with s.counts s.line.items s.parts s.judged s.limit (g.L.Tabled.as_record kept.found) c.RTYPE-rtype.result c.self.invariant
    (g.met.L.Tabled.type_is kept.found ∙ sym c.RTYPE-rtype.ensures) (omega arith)

pub returns-in-Ok-true-clause-kept : goal.returns-in-Ok-true-clause-kept
returns-in-Ok-true-clause-kept g c always =
    let s = c.self.inside in
    let kept = c.in-Ok-true.ensures.kept c.in-Ok-true.field-0-test in
    let full = c.if-not-is_full_line.ensures refl in
    let added = g.L.Tabled.as_record kept.found in
    let is : type_of added ≡ c.RTYPE-rtype.result = g.met.L.Tabled.type_is kept.found ∙ sym c.RTYPE-rtype.ensures in
    let verdict = ap (as_record g.L.Tabled.as_record)
    (judged_full_line g.L.Layout.RTYPE g.L.Layout.LEN g.L.Layout.reading c.args.line.now kept.found full kept.read) in
    rw (← c.self.view_is) (record {
      judges = λ records held. (
        records ++ added ∷ [],
        record {
          held = kept.held records held.held;
          counted = counted_more s.counts records added c.RTYPE-rtype.result c.self.invariant.counts_len held.counted is;
        },
        ap (after_verdict tiger s.limit records (record { part = s.parts + 1; line = s.judged + 1; bytes = c.args.line.now })) verdict
            ∙ adds_below s.counts records s.limit added c.RTYPE-rtype.result held.counted is (omega arith),
      );
      short = omega (arith, full.text.len, g.met.L.Layout.bounded.1);
      judged = refl;
      one_more = total_up s.counts added c.RTYPE-rtype.result c.self.invariant.counts_len is;
      same_part = record { parts = refl; limit = refl; fault = refl };
      unfinished = refl;
      no_device = tt;
    })
