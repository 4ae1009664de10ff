use Rattle.record_groups.proofs.Common.{ap, arith, sym, ◌+◌, ◌∙◌, ◌∷◌}
use Rattle.record_groups.proofs.Records.GroupRests.{rest_before, rest_goes_on, rest_none, rest_passed}
use Rattle.record_groups.proofs.cursor.next.Goals as goal

pub returns-then-cursor-records : goal.returns-then-cursor-records
returns-then-cursor-records g c =
    let groups = g.G.RecordGroups.groups c.args.groups.now in
    let at = c.loop-cursor.cursor in
    c.loop-cursor.invariant ∙ rest_before groups at.group at.place c.record-found.result c.record-found.ensures
    ∙ ap (λ rest. c.record-found.result ∷ rest) (rest_passed groups at.group (at.place + 1) c.count_in-records.result
    (sym c.count_in-records.ensures) c.pass.new.self.group c.pass.new.self.place c.pass.ensures.group c.pass.ensures.place)

pub loop-cursor-preserved : goal.loop-cursor-preserved
loop-cursor-preserved g c = c.loop-cursor.invariant
    ∙ rest_goes_on (g.G.RecordGroups.groups c.args.groups.now) c.loop-cursor.cursor.group c.loop-cursor.cursor.place
    (omega (arith, c.count_in-records.ensures, c.if-cursor-records.false))

pub returns : goal.returns
returns g c = c.loop-cursor.invariant
    ∙ rest_none (g.G.RecordGroups.groups c.args.groups.now) c.loop-cursor.cursor.group c.loop-cursor.cursor.place
    (omega (arith, c.count-count.ensures, c.loop-cursor-test.false))
