-- Records in groups, compared one by one.
use Rattle.record_groups.proofs.Common.{Equal, Greater, IsTotalOrder, Less, List, Ordering, Record, ap, ap₂, group_at, grouped, groups_cmp, lists_total, map, map-append, nat_list_cmp_total, on_total, ordering_then, records_cmp, refl, rest_of, spelling_cmp, spelling_of, sym, tied_itself, ℕ, ◌++◌, ◌+◌, ◌∙◌, ◌≡◌}
use Rattle.record_groups.proofs.Records.GroupRests.{rest_of_group}
use Rattle.record_groups.proofs.Texts.RecordTexts.{cmp-append}

pub records_total : IsTotalOrder records_cmp
records_total = lists_total (on_total spelling_of nat_list_cmp_total)

-- a record compared with itself
pub same_spelling : (r s : Record) → r ≡ s → Equal ≡ spelling_cmp r s
same_spelling r s e = sym (tied_itself nat_list_cmp_total (spelling_of r)) ∙ ap (spelling_cmp r) e

-- equal groups are tied
pub same_groups : {X : Type 0} (record_of : X → Record) (groups others : List (List X)) → groups ≡ others
    → Equal ≡ groups_cmp record_of groups others
same_groups record_of groups others same = sym (tied_itself records_total (map record_of (grouped groups)))
    ∙ ap (groups_cmp record_of groups) same

-- after a group that is the same in both the next ones decide
pub after_same : {X : Type 0} (record_of : X → Record) (groups others : List (List X)) (group : ℕ) → group_at groups group ≡ group_at others group
    → records_cmp (map record_of (rest_of groups group 0)) (map record_of (rest_of others group 0))
    ≡ records_cmp (map record_of (rest_of groups (group + 1) 0)) (map record_of (rest_of others (group + 1) 0))
after_same record_of groups others group same =
    let first = group_at groups group in
    let own = rest_of groups (group + 1) 0 in
    let other = rest_of others (group + 1) 0 in
    ap₂ (λ us vs. records_cmp (map record_of us) (map record_of vs)) (rest_of_group groups group)
    (rest_of_group others group ∙ ap (λ xs. xs ++ other) (sym same))
    ∙ ap₂ records_cmp (map-append record_of first own) (map-append record_of first other)
    ∙ cmp-append spelling_cmp (map record_of first) (map record_of first) (map record_of own) (map record_of other) refl
    ∙ ap (λ o. ordering_then o (records_cmp (map record_of own) (map record_of other))) (tied_itself records_total (map record_of first))

-- the first of two comparisons decides, unless it finds both equal
pub decided : (o p : Ordering) → (o ≡ Equal → ⊥) → ordering_then o p ≡ o
decided Less p differ = refl
decided Equal p differ = absurd (differ refl)
decided Greater p differ = refl
