-- Laws of readings.
use Rattle.std.proofs.Common.{◌≡◌, Option, Some, None, Result, Ok, Err, Bool, true, false, refl}
use Rattle.bmff_boxes.specs.Reading.{◌>>=◌, need, check}

-- what was read on the way to what came of it
pub record IsOkThrough {A B F : Type 0} (r : Result A F) (next : A → Result B F) (y : B) : Type 0 where
  pub value : A
  pub was : r ≡ Ok value
  pub then : next value ≡ Ok y

pub through : {A B F : Type 0} (r : Result A F) (next : A → Result B F) (y : B) → (r >>= next) ≡ Ok y → IsOkThrough r next y
through (Ok x) next y e = record { value = x; was = refl; then = e }
through (Err fault) next y e = absurd (cc)

-- what had to be there is there
pub needed : {A F : Type 0} (fault : F) (o : Option A) (x : A) → need fault o ≡ Ok x → o ≡ Some x
needed fault None x e = absurd (cc)
needed fault (Some y) x e = cc

-- a test that had to pass passed
pub checked : {F : Type 0} (fault : F) (passes x : Bool) → check fault passes ≡ Ok x → passes ≡ true
checked fault true x e = refl
checked fault false x e = absurd (cc)
