use Rattle.tl_number.proofs.Common.{IsKeyOrder, [], ap, append-nil, arith, cond, cond_both, drop, drop_all, first_seen_after, newly_seen, refl, sym, ◌++◌, ◌+◌, ◌∙◌, ◌∷◌, ◌≡◌}
use Rattle.tl_number.proofs.Ties.SearchSteps.{new_more, one_dropped, seen_more}
use Rattle.tl_number.proofs.open_keys.see_keys.Goals as goal

pub loop-key-preserved : goal.loop-key-preserved
loop-key-preserved g c =
    let cmp = g.K.Ord.cmp in
    let o : IsKeyOrder cmp = record { total = g.met.K.Ord.total; exact = g.met.K.Key.exact } in
    let keys = c.args.keys.now in
    let i = c.loop-key.key-index in
    let split = one_dropped keys i c.key-item.result c.loop-key-test.true c.key-item.is in
    record {
      all = seen_more cmp (c.key-item.result ∷ []) (drop (i + 1) keys) (drop i keys) c.loop-key.all c.see_key.new.all _ split c.in_ok-see_key.ensures.all c.loop-key.invariant.all;
      opened = new_more o c.args.at_open (c.key-item.result ∷ []) (drop (i + 1) keys) (drop i keys) c.loop-key.all c.see_key.new.all c.loop-key.opened.items c.see_key.new.opened.items _
          split c.in_ok-see_key.ensures.all c.in_ok-see_key.ensures.opened c.loop-key.invariant.opened;
    }

pub returns-clause-all : goal.returns-clause-all
returns-clause-all g c =
    sym (ap (first_seen_after g.K.Ord.cmp c.loop-key.all) (drop_all c.loop-key.key-index c.args.keys.now (omega (arith, c.loop-key-test.false))))
    ∙ c.loop-key.invariant.all

pub returns-clause-opened : goal.returns-clause-opened
returns-clause-opened g c =
    let rest = drop_all c.loop-key.key-index c.args.keys.now (omega (arith, c.loop-key-test.false)) in
    sym (ap (λ keys. c.loop-key.opened.items ++ cond c.args.at_open (newly_seen g.K.Ord.cmp c.loop-key.all keys) []) rest
    ∙ ap (λ l. c.loop-key.opened.items ++ l) (cond_both c.args.at_open [] [] (λ l. l ≡ []) (λ e. refl) (λ e. refl))
    ∙ append-nil c.loop-key.opened.items) ∙ c.loop-key.invariant.opened
