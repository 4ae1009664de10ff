use Rattle.tl_load.proofs.Common.{Err, JudgesAs, after_verdict, ap, arith, as_record, length, longest_line, refl, rules, seen, subst, sym, tiger, ◌+◌, ◌∙◌, ◌≤◌}
use Rattle.tl_load.proofs.Steps.{place_not_device}
use Rattle.tl_load.proofs.TextLemmas.{judged_fault_line, judged_full_line}
use Rattle.tl_load.proofs.Views.{on_ok_by}
use Rattle.tl_load.proofs.loader_for.LoaderFor.read_as.Goals as goal

pub returns-in-Ok : goal.returns-in-Ok
returns-in-Ok g c =
    let full = c.if-not-is_full_line.ensures refl in
    let verdict = ap (as_record g.L.Tabled.as_record) (judged_full_line g.L.Layout.RTYPE g.L.Layout.LEN g.L.Layout.reading c.args.line.now
    c.in-Ok.found full (sym c.in-Ok.ensures.exact)) in
    let short : length c.args.line.now ≤ longest_line = omega (arith, full.text.len, g.met.L.Layout.bounded.1) in
    record {
      judges = λ records held.
          let added = c.add.ensures.adds records held in (
            added.0,
            added.1,
            subst (λ v. JudgesAs c.args.line.now v (seen c.args.self.now records) c.add.result (seen c.add.new.self added.0)) (sym verdict)
                added.2,
          );
      short = on_ok_by _ short;
      judged = c.add.ensures.judged;
      one_more = c.add.ensures.one_more;
      same_part = c.add.ensures.same_part;
      unfinished = c.add.ensures.unfinished;
      no_device = c.add.ensures.no_device;
    }

pub returns-in-Err : goal.returns-in-Err
returns-in-Err g c =
    let s = c.self.inside in
    let full = c.if-not-is_full_line.ensures refl in
    let verdict = ap (as_record g.L.Tabled.as_record) (judged_fault_line g.L.Layout.RTYPE g.L.Layout.LEN g.L.Layout.reading
    c.args.line.now c.in-Err.fault full (sym c.in-Err.ensures.exact)) in
    record {
      judges = rw (← c.self.view_is) (λ records held. (
        records,
        tt,
        λ of_lines. ap (after_verdict tiger s.limit records (record { part = s.parts + 1; line = s.judged + 1; bytes = c.args.line.now })) verdict
            ∙ ap Err (sym c.at.ensures),
      ));
      short = tt;
      judged = tt;
      one_more = tt;
      same_part = search rules;
      unfinished = search rules;
      no_device = place_not_device _ _ _ _ c.at.ensures;
    }
