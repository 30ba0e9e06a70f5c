-- One element of a list replaced.
use Prim.Native.Nat.{ℕ, zero, suc}
use mathlib.Core.List.{List, [], ◌∷◌, map}
use mathlib.Core.Path.{◌≡◌, refl, ap}
use lib.ListN.{get_or, set}

-- an element put where it lies already
pub set_same : {A : Type 0} (l : List A) (i : ℕ) (d : A) → set l i (get_or l i d) ≡ l
set_same [] i d = refl
set_same (x ∷ l) zero d = refl
set_same (x ∷ l) (suc i) d = ap (λ (t : List _). x ∷ t) (set_same l i d)

pub map_set : {A B : Type 0} (f : A → B) (l : List A) (i : ℕ) (e : A) → map f (set l i e) ≡ set (map f l) i (f e)
map_set f [] i e = refl
map_set f (x ∷ l) zero e = refl
map_set f (x ∷ l) (suc i) e = ap (λ (t : List _). f x ∷ t) (map_set f l i e)
