use Rattle.arranged_county.proofs.Common.{AreApart, ArePlaced, IsKeyOrder, Some, [], ap, arith, contains, found_by_either, get_or, length, length-append, subst, sym, ◌%◌, ◌++◌, ◌+◌, ◌<◌, ◌^◌, ◌∙◌, ◌∷◌, ◌≡◌}
use Rattle.arranged_county.proofs.Numbering.PlacedKeys.{apart_more, nowhere, slot_marked, tabled_ahead, tabled_more}
use Rattle.indexmap.specs.IndexMap.{get as found_by_hash}
use Rattle.std.specs.BTreeMap.{get as found_in_order}
use Rattle.arranged_county.proofs.numbers.Interner.add.Goals as goal

pub invariant_of-self-then-is_free : goal.invariant_of-self-then-is_free
invariant_of-self-then-is_free g c =
    let o : IsKeyOrder g.K.Ord.cmp = record { total = g.met.K.Ord.total; exact = g.met.K.Key.exact } in
    let keys = c.self.inside.keys.items in
    let marks = c.self.inside.marks.items in
    let key = c.args.key in
    let n = c.slot_of-slot.result in
    let new = nowhere o keys key (ap (contains g.K.Ord.cmp key) c.self.view_is ∙ c.requires.new) in
    let more : c.push.new.self.items ≡ keys ++ key ∷ [] = c.in_ok-push.ensures.items in
    let count = length-append keys (key ∷ []) in
    let within : n < length marks = subst (λ l. n < length l) c.deref.ensures.value (c.is_free.ensures.within c.if-is_free.true) in
    let free : get_or marks n 0 ≡ 0 = subst (λ l. get_or l n 0 ≡ 0) c.deref.ensures.value (c.is_free.ensures.free c.if-is_free.true) in
    let stated : c.len-place.result + 1 ≡ length keys + 1 = omega (arith, c.len-place.ensures, c.self.inside.keys.ok.0) in
    let slots : c.len-slots.result ≡ length marks = omega (arith, c.len-slots.ensures, c.self.inside.marks.ok.0) in
    let is : g.K.NumericKey.number_of key % length marks ≡ n =
    ap (λ i. g.K.NumericKey.number_of key % i) (sym slots) ∙ ap (λ i. i % c.len-slots.result) (sym c.number-number.ensures)
    ∙ sym c.slot_of-slot.ensures in (
      subst AreApart (sym more) (apart_more keys key c.self.invariant.0 new),
      slot_marked g.K.NumericKey.number_of
          (found_by_either (found_in_order g.K.Ord.cmp c.self.inside.others.many) (found_by_hash g.K.PartialEq.eq c.self.inside.others.few))
          marks keys c.push.new.self.items key n (c.len-place.result + 1) c.self.invariant.1 is within free stated more,
      (let all = ap length more in
          omega (arith, all, count, c.if-place.true, c.len-place.ensures, c.self.inside.keys.ok.0)),
    )

pub invariant_of-self-in-Continue-branch-2 : goal.invariant_of-self-in-Continue-branch-2
invariant_of-self-in-Continue-branch-2 g c =
    let o : IsKeyOrder g.K.Ord.cmp = record { total = g.met.K.Ord.total; exact = g.met.K.Key.exact } in
    let keys = c.self.inside.keys.items in
    let marks = c.self.inside.marks.items in
    let key = c.args.key in
    let new = nowhere o keys key (ap (contains g.K.Ord.cmp key) c.self.view_is ∙ c.requires.new) in
    let more : c.push_into_table.new.keys.items ≡ keys ++ key ∷ [] = c.in_ok-push_into_table.ensures.added in
    let count = length-append keys (key ∷ []) in
    let stated : c.len-place.result ≡ length keys = omega (arith, c.len-place.ensures, c.self.inside.keys.ok.0) in (
      subst AreApart (sym more) (apart_more keys key c.self.invariant.0 new),
      subst (λ l. ArePlaced (λ j. g.K.NumericKey.number_of j % length marks) (found_by_either (found_in_order g.K.Ord.cmp c.push_into_table.new.others.many) (found_by_hash g.K.PartialEq.eq c.push_into_table.new.others.few)) marks l) (sym more)
          (tabled_more (λ j. g.K.NumericKey.number_of j % length marks) (found_by_either (found_in_order g.K.Ord.cmp c.self.inside.others.many) (found_by_hash g.K.PartialEq.eq c.self.inside.others.few))
          (found_by_either (found_in_order g.K.Ord.cmp c.push_into_table.new.others.many) (found_by_hash g.K.PartialEq.eq c.push_into_table.new.others.few)) marks keys key c.self.invariant.1
          (c.in_ok-push_into_table.ensures.placed ∙ ap Some stated) c.push_into_table.ensures.apart new),
      (let all = ap length more in
          omega (arith, all, count, c.in_ok-push_into_table.ensures.small, c.len-place.ensures, c.self.inside.keys.ok.0)),
    )

pub invariant_of-self-in_err-push_into_table : goal.invariant_of-self-in_err-push_into_table
invariant_of-self-in_err-push_into_table g c =
    let o : IsKeyOrder g.K.Ord.cmp = record { total = g.met.K.Ord.total; exact = g.met.K.Key.exact } in
    let keys = c.self.inside.keys.items in
    let marks = c.self.inside.marks.items in
    let key = c.args.key in
    let new = nowhere o keys key (ap (contains g.K.Ord.cmp key) c.self.view_is ∙ c.requires.new) in
    let kept : c.push_into_table.new.keys.items ≡ keys = c.in_err-push_into_table.ensures.kept in (
      subst AreApart (sym kept) c.self.invariant.0,
      subst (λ l. ArePlaced (λ j. g.K.NumericKey.number_of j % length marks) (found_by_either (found_in_order g.K.Ord.cmp c.push_into_table.new.others.many) (found_by_hash g.K.PartialEq.eq c.push_into_table.new.others.few)) marks l) (sym kept)
          (tabled_ahead (λ j. g.K.NumericKey.number_of j % length marks) (found_by_either (found_in_order g.K.Ord.cmp c.self.inside.others.many) (found_by_hash g.K.PartialEq.eq c.self.inside.others.few))
          (found_by_either (found_in_order g.K.Ord.cmp c.push_into_table.new.others.many) (found_by_hash g.K.PartialEq.eq c.push_into_table.new.others.few)) marks keys key c.self.invariant.1 c.push_into_table.ensures.apart new),
      subst (λ l. length l < 2 ^ 63) (sym kept) c.self.invariant.2,
    )
