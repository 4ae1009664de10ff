-- A polygon has the content of its type P record.
use Rattle.std.proofs.Common.{Bool, List, Some, [], ap, arith, cond, false, filter, inl, inr, is_eq, map, refl, rules, subst, suc, sym, true, ◌∙◌, ◌∷◌, ◌≡◌, ◌≤◌, ◌⊎◌}
use Rattle.canonical_form.proofs.Common.{Among, BodyP, FieldsP, IsApart, Known, PolygonKey, among-map, among_known, apart_tail, first, key_cmp, key_keys, p_key, same-itself, same-true, same_or_not, times, times-yes}

pub first_body : (key : PolygonKey) (b : BodyP) (rs : List FieldsP)
    → first (map (λ (r : FieldsP). r.body) (filter (λ r. is_eq (key_cmp key (p_key r))) rs)) ≡ Some b
    → (r : FieldsP) × Among r rs × (key ≡ p_key r) × (r.body ≡ b)
first_body key b [] e = cc
first_body key b (r ∷ rs) e = go (is_eq (key_cmp key (p_key r))) refl e (first_body key b rs)
  where
    go : (t : Bool) → is_eq (key_cmp key (p_key r)) ≡ t
        → first (map (λ (q : FieldsP). q.body)
        (cond t (r ∷ filter (λ q. is_eq (key_cmp key (p_key q))) rs) (filter (λ q. is_eq (key_cmp key (p_key q))) rs))) ≡ Some b
        → (first (map (λ (q : FieldsP). q.body) (filter (λ q. is_eq (key_cmp key (p_key q))) rs)) ≡ Some b
        → (q : FieldsP) × Among q rs × (key ≡ p_key q) × (q.body ≡ b)) → (q : FieldsP) × Among q (r ∷ rs) × (key ≡ p_key q) × (q.body ≡ b)
    go true t e ih = (r, inl refl, same-true key_keys key (p_key r) t, (let s : r.body ≡ b = cc in s))
    go false t e ih = let q : (q : FieldsP) × Among q rs × (key ≡ p_key q) × (q.body ≡ b) = ih e in (q.0, inr q.1, q.2, q.3)

pub body_found : (r : FieldsP) (rs : List FieldsP) → IsApart key_cmp (map p_key rs) → Among r rs
    → first (map (λ (q : FieldsP). q.body) (filter (λ q. is_eq (key_cmp (p_key r) (p_key q))) rs)) ≡ Some r.body
body_found r [] a m = absurd m
body_found r (q ∷ rs) a (inl e) =
    let yes : is_eq (key_cmp (p_key r) (p_key q)) ≡ true =
    subst (λ s. is_eq (key_cmp (p_key r) (p_key s)) ≡ true) e (same-itself key_keys (p_key r)) in
    ap (λ b. first (map (λ (s : FieldsP). s.body) (cond b (q ∷ filter (λ s. is_eq (key_cmp (p_key r) (p_key s))) rs)
    (filter (λ s. is_eq (key_cmp (p_key r) (p_key s))) rs)))) yes ∙ ap (λ (s : FieldsP). Some s.body) (sym e)
body_found r (q ∷ rs) a (inr m) =
    go (same_or_not key_keys (p_key r) (p_key q)) (body_found r rs (apart_tail key_keys (p_key q) (map p_key rs) a) m)
  where
    go : (p_key r ≡ p_key q) ⊎ (is_eq (key_cmp (p_key r) (p_key q)) ≡ false)
        → first (map (λ (s : FieldsP). s.body) (filter (λ s. is_eq (key_cmp (p_key r) (p_key s))) rs)) ≡ Some r.body
        → first (map (λ (s : FieldsP). s.body) (filter (λ s. is_eq (key_cmp (p_key r) (p_key s))) (q ∷ rs))) ≡ Some r.body
    go (inl e) ih = absurd (
        let l : Known key_cmp (map p_key rs) (p_key r) = among_known key_keys (p_key r) (map p_key rs) (among-map p_key r rs m) in
        let t : times key_cmp (p_key r) (p_key q ∷ map p_key rs) ≡ suc (times key_cmp (p_key r) (map p_key rs)) =
        search (rules, times-yes, key_keys) in
        let u : times key_cmp (p_key r) (map p_key (q ∷ rs)) ≤ 1 = a (p_key r) in
        omega arith)
    go (inr ne) ih = search rules

-- the packed record of a polygon has its key
