-- What a call leaves in the buffers that it was lent is a tuple with a place for each parameter: a
-- list where that is a `&mut` slice, and nothing to tell apart elsewhere. Two of them are equal
-- place by place. Assumes nothing.
use mathlib.Core.Path.{◌≡◌, refl}

pub both : {A B : Type 0} {x y : A} {u v : B} → x ≡ y → u ≡ v → ◌≡◌ {A = A × B} (x, u) (y, v)
both e f i = (e i, f i)

-- the first place is the one that was written
pub here : {A B : Type 0} {x y : A} {u : B} → x ≡ y → ◌≡◌ {A = A × B} (x, u) (y, u)
here e = both e refl

-- it stands past a parameter
pub past : {A B : Type 0} {x : A} {u v : B} → u ≡ v → ◌≡◌ {A = A × B} (x, u) (x, v)
past e = both refl e

-- past three
pub past3 : {A B C D : Type 0} {x : A} {y : B} {z : C} {u v : D} → u ≡ v → ◌≡◌ {A = A × (B × (C × D))} (x, (y, (z, u))) (x, (y, (z, v)))
past3 e = past (past (past e))
