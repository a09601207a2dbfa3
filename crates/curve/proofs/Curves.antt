-- The curve through points: it goes through each of them, it has as many coefficients as it has
-- points, and no other curve with as many does. Assumes nothing.
use mathlib.Core.Path.{◌≡◌, refl, sym, ap, ap₂, ◌∙◌}
use mathlib.Core.List.{List, [], ◌∷◌}
use Prim.Native.Nat.{ℕ, zero, suc, ◌^◌, ◌<◌, ◌≤◌}
use native.Mathlib.Nat.{not-suc-le-zero}
use native.Mathlib.Omega.{arith}
use lib.ListN.{length}
use lib.Pow.{pow_pos}
use Rattle.field.specs.Field.{plus, product, over}
use Rattle.field.proofs.Sums.{plus_assoc, plus_comm, plus_self, plus_none, none_plus, plus_twice, good_plus}
use Rattle.field.proofs.Products.{product_plus, plus_product, product_swap, product_none, none_product, good_product}
use Rattle.field.proofs.Division.{undo, redo}
use Rattle.curve.specs.Curve.{value_at, slopes, through_at}

abbrev pub Good : ℕ → Type 0
Good a = a < 2 ^ 128

abbrev pub Goods : List ℕ → Type 0
Goods [] = Unit {0}
Goods (c ∷ cs) = Good c × Goods cs

abbrev pub GoodValues : List (ℕ × ℕ) → Type 0
GoodValues [] = Unit {0}
GoodValues (p ∷ ps) = Good p.1 × GoodValues ps

-- two places that differ: what can be divided by
abbrev pub Differ : ℕ → ℕ → Type 0
Differ x u = (0 < plus x u) × (plus x u < 256)

abbrev pub Far : ℕ → List (ℕ × ℕ) → Type 0
Far u [] = Unit {0}
Far u (p ∷ ps) = Differ p.0 u × Far u ps

-- no two points at one place
abbrev pub Apart : List (ℕ × ℕ) → Type 0
Apart [] = Unit {0}
Apart (p ∷ ps) = Far p.0 ps × Apart ps

-- each point is on the curve of these coefficients
abbrev pub On : List ℕ → List (ℕ × ℕ) → Type 0
On cs [] = Unit {0}
On cs (p ∷ ps) = (p.1 ≡ value_at cs p.0) × On cs ps

-- ---- sums

pub back : (a b : ℕ) → plus a (plus a b) ≡ b
back a b = sym (plus_assoc a a b) ∙ ap (λ (x : ℕ). plus x b) (plus_self a) ∙ plus_none b

both : (c u v : ℕ) → plus (plus c u) (plus c v) ≡ plus u v
both c u v = ap (λ (x : ℕ). plus x (plus c v)) (plus_comm c u) ∙ plus_assoc u c (plus c v) ∙ ap (plus u) (back c v)

cross : (p q r : ℕ) → plus (plus p q) (plus r p) ≡ plus r q
cross p q r = ap (plus (plus p q)) (plus_comm r p) ∙ both p q r ∙ plus_comm q r

-- ---- a curve divided by the distance from a place

-- the values there of what is left when coefficients are taken away from the front
abbrev pub rests : ℕ → List ℕ → List ℕ
rests u [] = []
rests u (c ∷ cs) = value_at (c ∷ cs) u ∷ rests u cs

length_rests : (u : ℕ) (cs : List ℕ) → length (rests u cs) ≡ length cs
length_rests u [] = refl
length_rests u (c ∷ cs) = ap suc (length_rests u cs)

pub quotient : (x u c : ℕ) (cs : List ℕ)
    → plus (value_at (c ∷ cs) x) (value_at (c ∷ cs) u) ≡ product (value_at (rests u cs) x) (plus x u)
unfolding value_at
quotient x u c [] =
    both c (product 0 x) (product 0 u) ∙ ap₂ plus (product_none x) (product_none u) ∙ sym (product_none (plus x u))
quotient x u c (d ∷ ds) =
    let H = value_at (d ∷ ds) x in
    let H₀ = value_at (d ∷ ds) u in
    let E = value_at (rests u ds) x in
    both c (product H x) (product H₀ u)
    ∙ sym (product_plus H₀ (product E x) (plus x u)
    ∙ ap₂ plus (plus_product H₀ x u)
    (product_swap E x (plus x u)
    ∙ ap (λ (y : ℕ). product y x) (sym (quotient x u d ds)) ∙ product_plus H H₀ x)
    ∙ cross (product H₀ x) (product H₀ u) (product H x))

pub good_value : (cs : List ℕ) (x : ℕ) → Goods cs → Good (value_at cs x)
unfolding value_at
good_value [] x g = pow_pos 128
good_value (c ∷ cs) x g = good_plus c (product (value_at cs x) x) g.0 (good_product (value_at cs x) x (good_value cs x g.1))

good_rests : (u : ℕ) (cs : List ℕ) → Goods cs → Goods (rests u cs)
good_rests u [] g = tt
good_rests u (c ∷ cs) g = (good_value (c ∷ cs) u g, good_rests u cs g.1)

-- ---- slopes

-- they stand at the places of their points
far_slopes : (v u y : ℕ) (ps : List (ℕ × ℕ)) → Far v ps → Far v (slopes u y ps)
unfolding slopes
far_slopes v u y [] f = tt
far_slopes v u y (p ∷ ps) f = (f.0, far_slopes v u y ps f.1)

apart_slopes : (u y : ℕ) (ps : List (ℕ × ℕ)) → Apart ps → Apart (slopes u y ps)
unfolding slopes
apart_slopes u y [] a = tt
apart_slopes u y (p ∷ ps) a = (far_slopes p.0 u y ps a.0, apart_slopes u y ps a.1)

pub length_slopes : (u y : ℕ) (ps : List (ℕ × ℕ)) → length (slopes u y ps) ≡ length ps
unfolding slopes
length_slopes u y [] = refl
length_slopes u y (p ∷ ps) = ap suc (length_slopes u y ps)

good_slopes : (u y : ℕ) (ps : List (ℕ × ℕ)) → Good y → GoodValues ps → GoodValues (slopes u y ps)
unfolding slopes
good_slopes u y [] g h = tt
good_slopes u y (p ∷ ps) g h = (good_product (plus p.1 y) _ (good_plus p.1 y h.0 g), good_slopes u y ps g h.1)

-- of a curve's points they are the points of its quotient
on_slopes : (u c : ℕ) (cs : List ℕ) (ps : List (ℕ × ℕ)) → Goods (c ∷ cs) → Far u ps → On (c ∷ cs) ps
    → On (rests u cs) (slopes u (value_at (c ∷ cs) u) ps)
unfolding slopes
on_slopes u c cs [] g f o = tt
on_slopes u c cs (p ∷ ps) g f o = (
  ap (λ (y : ℕ). over (plus y (value_at (c ∷ cs) u)) (plus p.0 u)) o.0
      ∙ ap (λ (y : ℕ). over y (plus p.0 u)) (quotient p.0 u c cs)
      ∙ undo (value_at (rests u cs) p.0) (plus p.0 u) f.0.0 f.0.1 (good_value (rests u cs) p.0 (good_rests u cs g.1)),
  on_slopes u c cs ps g f.1 o.1,
)

-- ---- the coefficients of the curve through the first n points

-- d and (x + u) times the curve of gs
abbrev pub lift : ℕ → ℕ → List ℕ → List ℕ
lift u d [] = d ∷ []
lift u d (g ∷ gs) = plus d (product g u) ∷ lift u g gs

abbrev pub coefficients : ℕ → List (ℕ × ℕ) → List ℕ
coefficients zero ps = []
coefficients (suc n) [] = []
coefficients (suc n) (p ∷ ps) = lift p.0 p.1 (coefficients n (slopes p.0 p.1 ps))

value_lift : (u d x : ℕ) (gs : List ℕ) → value_at (lift u d gs) x ≡ plus d (product (value_at gs x) (plus x u))
unfolding value_at
value_lift u d x [] = ap (plus d) (product_none x ∙ sym (product_none (plus x u)))
value_lift u d x (g ∷ gs) =
    let E = value_at gs x in
    ap (plus (plus d (product g u))) (ap (λ (v : ℕ). product v x) (value_lift u g x gs) ∙ product_plus g (product E (plus x u)) x)
    ∙ plus_assoc d (product g u) (plus (product g x) (product (product E (plus x u)) x))
    ∙ ap (plus d)
    (sym (plus_assoc (product g u) (product g x) (product (product E (plus x u)) x))
    ∙ ap₂ plus (plus_comm (product g u) (product g x) ∙ sym (plus_product g x u)) (product_swap E (plus x u) x)
    ∙ sym (product_plus g (product E x) (plus x u)))

-- they are those of `through_at`
pub value_coefficients : (n : ℕ) (ps : List (ℕ × ℕ)) (x : ℕ) → value_at (coefficients n ps) x ≡ through_at n ps x
unfolding value_at through_at
value_coefficients zero ps x = refl
value_coefficients (suc n) [] x = refl
value_coefficients (suc n) (p ∷ ps) x =
    value_lift p.0 p.1 x (coefficients n (slopes p.0 p.1 ps))
    ∙ ap (λ (v : ℕ). plus p.1 (product v (plus x p.0))) (value_coefficients n (slopes p.0 p.1 ps) x)

length_lift : (u d : ℕ) (gs : List ℕ) → length (lift u d gs) ≡ suc (length gs)
length_lift u d [] = refl
length_lift u d (g ∷ gs) = ap suc (length_lift u g gs)

pub length_coefficients : (n : ℕ) (ps : List (ℕ × ℕ)) → n ≤ length ps → length (coefficients n ps) ≡ n
length_coefficients zero ps h = refl
length_coefficients (suc n) [] h = absurd (not-suc-le-zero h)
length_coefficients (suc n) (p ∷ ps) h =
    length_lift p.0 p.1 (coefficients n (slopes p.0 p.1 ps))
    ∙ ap suc (length_coefficients n (slopes p.0 p.1 ps) (omega (arith, length_slopes p.0 p.1 ps)))

good_lift : (u d : ℕ) (gs : List ℕ) → Good d → Goods gs → Goods (lift u d gs)
good_lift u d [] gd gg = (gd, tt)
good_lift u d (g ∷ gs) gd gg = (good_plus d (product g u) gd (good_product g u gg.0), good_lift u g gs gg.0 gg.1)

pub good_coefficients : (n : ℕ) (ps : List (ℕ × ℕ)) → GoodValues ps → Goods (coefficients n ps)
good_coefficients zero ps g = tt
good_coefficients (suc n) [] g = tt
good_coefficients (suc n) (p ∷ ps) g =
    good_lift p.0 p.1 (coefficients n (slopes p.0 p.1 ps)) g.0
    (good_coefficients n (slopes p.0 p.1 ps) (good_slopes p.0 p.1 ps g.0 g.1))

-- ---- a curve is the one through its own points

lift_rests : (u c : ℕ) (cs : List ℕ) → lift u (value_at (c ∷ cs) u) (rests u cs) ≡ c ∷ cs
unfolding value_at
lift_rests u c [] = ap (λ (v : ℕ). plus c v ∷ []) (product_none u) ∙ ap (λ (v : ℕ). v ∷ []) (none_plus c)
lift_rests u c (d ∷ ds) = ap₂ (λ (v : ℕ) (l : List ℕ). v ∷ l) (plus_twice c (product (value_at (d ∷ ds) u) u)) (lift_rests u d ds)

pub curve_back : (n : ℕ) (cs : List ℕ) (ps : List (ℕ × ℕ)) → length cs ≡ n → n ≤ length ps → Goods cs → Apart ps → On cs ps → coefficients n ps ≡ cs
curve_back zero [] ps e h g a o = refl
curve_back zero (c ∷ cs) ps e h g a o = absurd (omega arith)
curve_back (suc n) cs [] e h g a o = absurd (not-suc-le-zero h)
curve_back (suc n) [] (p ∷ ps) e h g a o = absurd (omega arith)
curve_back (suc n) (c ∷ cs) (p ∷ ps) e h g a o =
    ap (λ (y : ℕ). lift p.0 y (coefficients n (slopes p.0 y ps))) o.0
    ∙ ap (lift p.0 (value_at (c ∷ cs) p.0))
    (curve_back n (rests p.0 cs) (slopes p.0 (value_at (c ∷ cs) p.0) ps)
    (omega (arith, length_rests p.0 cs))
    (omega (arith, length_slopes p.0 (value_at (c ∷ cs) p.0) ps))
    (good_rests p.0 cs g.1)
    (apart_slopes p.0 (value_at (c ∷ cs) p.0) ps a.1)
    (on_slopes p.0 c cs ps g a.0 o.1))
    ∙ lift_rests p.0 c cs

-- the values of a curve at as many places as it has coefficients, in any order, give its value
-- anywhere
pub curve_recovered : (n : ℕ) (cs : List ℕ) (ps : List (ℕ × ℕ)) (x : ℕ) → length cs ≡ n → n ≤ length ps → Goods cs → Apart ps → On cs ps
    → through_at n ps x ≡ value_at cs x
curve_recovered n cs ps x e h g a o = sym (value_coefficients n ps x) ∙ ap (λ (l : List ℕ). value_at l x) (curve_back n cs ps e h g a o)

-- and two curves that agree there are one
pub one_curve : (cs ds : List ℕ) (ps : List (ℕ × ℕ)) → length cs ≡ length ps → length ds ≡ length ps → Goods cs → Goods ds → Apart ps → On cs ps → On ds ps → cs ≡ ds
one_curve cs ds ps e f g h a o q =
    sym (curve_back (length ps) cs ps e (omega arith) g a o) ∙ curve_back (length ps) ds ps f (omega arith) h a q

-- ---- it goes through its points

-- where a further point is
pub at_slope : (x u v y : ℕ) → Differ x u → Good v → Good y → plus y (product (over (plus v y) (plus x u)) (plus x u)) ≡ v
at_slope x u v y d gv gy = ap (plus y) (redo (plus v y) (plus x u) d.0 d.1 (good_plus v y gv gy) ∙ plus_comm v y) ∙ back y v

pub through_first : (n : ℕ) (p : ℕ × ℕ) (ps : List (ℕ × ℕ)) → through_at (suc n) (p ∷ ps) p.0 ≡ p.1
unfolding through_at
through_first n p ps =
    ap (λ (d : ℕ). plus p.1 (product (through_at n (slopes p.0 p.1 ps) p.0) d)) (plus_self p.0)
    ∙ ap (plus p.1) (none_product (through_at n (slopes p.0 p.1 ps) p.0))
    ∙ none_plus p.1

-- the curve of n points is on each of them
abbrev pub Through : (ℕ → ℕ) → ℕ → List (ℕ × ℕ) → Type 0
Through f zero ps = Unit {0}
Through f (suc n) [] = Unit {0}
Through f (suc n) (p ∷ ps) = (f p.0 ≡ p.1) × Through f n ps

from_slopes : (f : ℕ → ℕ) (n u y : ℕ) (ps : List (ℕ × ℕ)) → Far u ps → Good y → GoodValues ps → Through f n (slopes u y ps)
    → Through (λ x. plus y (product (f x) (plus x u))) n ps
unfolding slopes
from_slopes f zero u y ps a gy gp t = tt
from_slopes f (suc n) u y [] a gy gp t = tt
from_slopes f (suc n) u y (p ∷ ps) a gy gp t = (
  ap (λ (v : ℕ). plus y (product v (plus p.0 u))) t.0 ∙ at_slope p.0 u p.1 y a.0 gp.0 gy,
  from_slopes f n u y ps a.1 gy gp.1 t.1,
)

pub through_them : (n : ℕ) (ps : List (ℕ × ℕ)) → Apart ps → GoodValues ps → Through (through_at n ps) n ps
unfolding through_at
through_them zero ps a g = tt
through_them (suc n) [] a g = tt
through_them (suc n) (p ∷ ps) a g = (
  through_first n p ps,
  from_slopes (through_at n (slopes p.0 p.1 ps)) n p.0 p.1 ps a.0 g.0 g.1
      (through_them n (slopes p.0 p.1 ps) (apart_slopes p.0 p.1 ps a.1) (good_slopes p.0 p.1 ps g.0 g.1)),
)
