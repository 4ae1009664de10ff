-- Three lists of records passed to a visitor one after the other.
use Rattle.record_groups.proofs.Common.{Err, List, Ok, Record, Result, ◌++◌}

-- given what it means to take records from one state to another, and two facts about it
module _ {Visitor Device Fault : Type 0} (Takes : List Record → Visitor → Device → Result (Unit {0}) Fault → Visitor → Device → Type 0)
    (goes_on : (xs ys : List Record) (a b c : Visitor) (d e f : Device) (result : Result (Unit {0}) Fault)
    → Takes xs a d (Ok tt) b e → Takes ys b e result c f → Takes (xs ++ ys) a d result c f)
    (stops : (xs ys : List Record) (a b : Visitor) (d e : Device) (fault : Fault)
    → Takes xs a d (Err fault) b e → Takes (xs ++ ys) a d (Err fault) b e) where
  -- the second list isn't taken completely
  pub second_stops : (xs ys zs : List Record) {a b c : Visitor} {d e f : Device} {fault : Fault}
      → Takes xs a d (Ok tt) b e → Takes ys b e (Err fault) c f → Takes (xs ++ (ys ++ zs)) a d (Err fault) c f
  second_stops xs ys zs {a} {b} {c} {d} {e} {f} {fault} first second =
      goes_on xs (ys ++ zs) a b c d e f (Err fault) first (stops ys zs b c e f fault second)

  -- the first two are, and the third ends in some way
  pub third_ends : (xs ys zs : List Record) {a b c x : Visitor} {d e f y : Device} {result : Result (Unit {0}) Fault}
      → Takes xs a d (Ok tt) b e → Takes ys b e (Ok tt) c f → Takes zs c f result x y → Takes (xs ++ (ys ++ zs)) a d result x y
  third_ends xs ys zs {a} {b} {c} {x} {d} {e} {f} {y} {result} first second third =
      goes_on xs (ys ++ zs) a b x d e y result first (goes_on ys zs b c x e f y result second third)
