-- Each place was read as the reading of all places requires.
use Rattle.tl_layout.proofs.Common.{Err, Ok, ap, arith, false, length, length_push, places_reading, refl, suc, sym, ℕ, ◌*◌, ◌+◌, ◌-◌, ◌∙◌, ◌≡◌, ◌≤◌}
use Rattle.tl_layout.proofs.PlaceSteps.{after_none, after_some, at_end, at_fault, at_gap, at_start, column_within, next_column}
use Rattle.tl_layout.proofs.place.read_places.Goals as goal
use Rattle.tl_layout.proofs.place.read_places.Goals.{in-None, in-Some+else-unused}

pub loop-place-init : goal.loop-place-init
loop-place-init g c =
    let none : length (g.P.Places.items c.empty-items.result) ≡ 0 = ap length c.empty-items.ensures in
    record {
      held = omega arith;
      behind = omega arith;
      columns = λ n h. (let all : n ≡ c.COUNT-count.result = omega arith in rw all refl);
      left = λ n h.
          let all : n ≡ c.COUNT-count.result = omega arith in
          rw (c.empty-items.ensures, all) (at_start (places_reading
          (g.P.Places.reading c.args.line.now) c.WIDTH-width.result false c.COUNT-count.result 19));
    }

pub read-requires-clause-within : goal.read-requires-clause-within
read-requires-clause-within g c =
    let left = c.COUNT-count.result - 1 - c.loop-place._place in
    let within = column_within left c.loop-place.column c.WIDTH-width.result c.COUNT-count.result g.P.Places.WIDTH g.P.Places.COUNT
    (c.loop-place.invariant.columns (suc left) (omega arith)) c.WIDTH-width.ensures c.COUNT-count.ensures in
    let line = c.requires.within.0 in
    let longest = c.requires.within.1 in
    (omega arith, omega arith)

pub returns-in-Err : goal.returns-in-Err
returns-in-Err g c =
    let left = c.COUNT-count.result - 1 - c.loop-place._place in
    rw (← c.COUNT-count.ensures, ← c.WIDTH-width.ensures)
    (at_fault (g.P.Places.reading c.args.line.now) c.WIDTH-width.result c.loop-place.column (g.P.Places.items c.loop-place.items) _
    left c.loop-place.unused c.in-Err.fault (c.loop-place.invariant.left (suc left) (omega arith)) (sym c.in-Err.ensures))

pub gap-requires : goal.gap-requires
gap-requires g c =
    let left = c.COUNT-count.result - 1 - c.loop-place._place in
    let within = column_within left c.loop-place.column c.WIDTH-width.result c.COUNT-count.result g.P.Places.WIDTH g.P.Places.COUNT
    (c.loop-place.invariant.columns (suc left) (omega arith)) c.WIDTH-width.ensures c.COUNT-count.ensures in
    let longest = c.requires.within.1 in
    let wide = c.requires.wide in
    omega arith

pub returns-then-unused : goal.returns-then-unused
returns-then-unused g c =
    let left = c.COUNT-count.result - 1 - c.loop-place._place in
    rw (← c.COUNT-count.ensures, ← c.WIDTH-width.ensures)
    (at_gap (g.P.Places.reading c.args.line.now) c.WIDTH-width.result c.loop-place.column (g.P.Places.items c.loop-place.items) _
    left c.in-Some.item c.loop-place.unused c.if-unused.true (c.loop-place.invariant.left (suc left) (omega arith))
    (sym c.read.ensures ∙ (c.in-Ok.is ∙ ap Ok c.in-Some.is)) ∙ ap Err (sym c.gap.ensures))

pub overflow_add-column : goal.overflow_add-column
overflow_add-column g c =
    let left = c.COUNT-count.result - 1 - c.loop-place._place in
    let within = column_within left c.loop-place.column c.WIDTH-width.result c.COUNT-count.result g.P.Places.WIDTH g.P.Places.COUNT
    (c.loop-place.invariant.columns (suc left) (omega arith)) c.WIDTH-width.ensures c.COUNT-count.ensures in
    let longest = c.requires.within.1 in
    let width = c.WIDTH-width.ensures in
    omega arith

pub loop-place-preserved : goal.loop-place-preserved
loop-place-preserved g c =
    let reading = g.P.Places.reading c.args.line.now in
    let width : ℕ = c.WIDTH-width.result in
    let column : ℕ = c.loop-place.column in
    let items = g.P.Places.items c.loop-place.items in
    let behind : 19 ≤ column + width = (let h = c.loop-place.invariant.behind in omega arith) in
    let columns = λ (n : ℕ) (h : n + (c.loop-place._place + 1) ≡ c.COUNT-count.result).
    next_column n column width (19 + c.COUNT-count.result * width) (c.loop-place.invariant.columns (suc n) (omega arith)) in
    elim c.match-item.branch [
      | in-None w ↦ record {
        held = (let e = ap (λ v. length (g.P.Places.items v)) w.items-is in let h = c.loop-place.invariant.held in omega arith);
        behind = behind;
        columns = columns;
        left = λ n h.
            rw (w.items-is, w.unused-is) (after_none reading width column items _ n (column + width) c.loop-place.unused
            (c.loop-place.invariant.left (suc n) (omega arith)) (sym c.read.ensures ∙ (c.in-Ok.is ∙ ap Ok w.in-None.is)) refl);
      }
      | in-Some+else-unused w ↦ record {
        held = (let e = ap (λ v. length (g.P.Places.items v)) w.items-is in let more = ap length w.add.ensures in
            let h = c.loop-place.invariant.held in omega (arith, length_push items w.in-Some.item));
        behind = behind;
        columns = columns;
        left = λ n h.
            rw (w.items-is, w.unused-is, w.add.ensures, w.if-unused.false)
            (after_some reading width column items _ n (column + width) w.in-Some.item c.loop-place.unused w.if-unused.false
            (c.loop-place.invariant.left (suc n) (omega arith)) (sym c.read.ensures ∙ (c.in-Ok.is ∙ ap Ok w.in-Some.is)) refl);
      }
    ]

pub returns : goal.returns
returns g c =
    rw (← c.COUNT-count.ensures, ← c.WIDTH-width.ensures)
    (at_end (g.P.Places.reading c.args.line.now) c.WIDTH-width.result c.loop-place.column (g.P.Places.items c.loop-place.items) _
    c.loop-place.unused (c.loop-place.invariant.left 0 (omega arith)))
