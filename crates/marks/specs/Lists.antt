-- Words about lists. Assumes nothing.
use Rattle.std.specs.Prelude.{◌≡◌, Bool, cond, ◌⊎◌, List, [], ◌∷◌}
use Rattle.std.specs.Coded.{×_prop, Unit-prop}
use Rattle.std.specs.List.{AllByRecursion-prop}
-- `Each P xs`: each one has P
pub use Rattle.std.specs.List.{AllByRecursion as Each}

infix 4 ◌∈◌
-- x stands in the list
abbrev pub ◌∈◌ : {A : Type 0} → A → List A → Type 0
x ∈ [] = ⊥
x ∈ (y ∷ ys) = (x ≡ y) ⊎ (x ∈ ys)

-- each stands in R to each that comes after it
abbrev pub Rising : {A : Type 0} → (A → A → Type 0) → List A → Type 0
Rising R [] = Unit {0}
Rising R (x ∷ xs) = Each (R x) xs × Rising R xs

-- that they do is shown in one way, where each pair's part is
pub rising_once : {A : Type 0} (R : A → A → Type 0) → ((x y : A) → IsProp (R x y)) → (xs : List A) → IsProp (Rising R xs)
rising_once R one [] = Unit-prop
rising_once R one (x ∷ xs) = ×_prop (AllByRecursion-prop (R x) (one x) xs) (rising_once R one xs)

-- x takes its place in the order, unless one that is neither below nor above it stands there
abbrev pub placed : {A : Type 0} → (A → A → Bool) → A → List A → List A
placed below x [] = x ∷ []
placed below x (y ∷ ys) = cond (below x y) (x ∷ y ∷ ys) (y ∷ cond (below y x) (placed below x ys) ys)
