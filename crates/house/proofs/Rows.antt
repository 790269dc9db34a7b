-- Good fields and the first bad one, in lists that are joined and in the rows of items.
use Rattle.std.proofs.Common.{◌≡◌, ℕ, zero, suc, ◌+◌, ◌-◌, ◌<◌, List, [], ◌∷◌, ◌++◌, subst, inl, inr, suc-add, zero-add, add-one, arith}
use Rattle.house.specs.declared.bad.BadFile.{BadFile}
use Rattle.house.specs.Fields.{Field, AllGood, FirstBad, each}

module _ (d : List ℕ) where
  -- what is good in two parts is good when they are joined
  pub good_join : (a b : List Field) → AllGood d a → AllGood d b → AllGood d (a ++ b)
  good_join [] b x y = y
  good_join (f ∷ fs) b x y = (x.0, good_join fs b x.1 y)

  -- and the other way round: the first part
  pub good_front : (a b : List Field) → AllGood d (a ++ b) → AllGood d a
  good_front [] b x = tt
  good_front (f ∷ fs) b x = (x.0, good_front fs b x.1)

  -- the second part
  pub good_behind : (a b : List Field) → AllGood d (a ++ b) → AllGood d b
  good_behind [] b x = x
  good_behind (f ∷ fs) b x = good_behind fs b x.1

  -- the first bad field of the first part is that of the whole
  pub bad_front : (a b : List Field) (e : BadFile) → FirstBad d a e → FirstBad d (a ++ b) e
  bad_front [] b e x = elim x [ ]
  bad_front (f ∷ fs) b e (inl x) = inl x
  bad_front (f ∷ fs) b e (inr x) = inr (x.0, bad_front fs b e x.1)

  -- and behind a good part the first bad field of the second is
  pub bad_behind : (a b : List Field) (e : BadFile) → AllGood d a → FirstBad d b e → FirstBad d (a ++ b) e
  bad_behind [] b e x y = y
  bad_behind (f ∷ fs) b e x y = inr (x.0, bad_behind fs b e x.1 y)

module _ (d : List ℕ) (row : ℕ → List Field) where
  -- one more good row
  pub each_more : (k : ℕ) → AllGood d (each row k) → AllGood d (row k) → AllGood d (each row (k + 1))
  each_more k x y = rw (add-one k) (good_join d (each row k) (row k) x y)

  -- the first bad field stays the first as rows are added
  each_later : (k j : ℕ) (e : BadFile) → FirstBad d (each row k) e → FirstBad d (each row (j + k)) e
  each_later k zero e x = rw (zero-add k) x
  each_later k (suc j) e x = rw (suc-add j k) (bad_front d (each row (j + k)) (row (j + k)) e (each_later k j e x))

  -- the first bad field of row k, behind good rows, is that of all of them
  pub each_bad : (k n : ℕ) (e : BadFile) → k < n → AllGood d (each row k) → FirstBad d (row k) e → FirstBad d (each row n) e
  each_bad k n e h x y =
      let first : FirstBad d (each row (suc k)) e = bad_behind d (each row k) (row k) e x y in
      let same : (n - suc k) + suc k ≡ n = omega arith in
      subst (λ m. FirstBad d (each row m) e) same (each_later (suc k) (n - suc k) e first)

  each_here : (j k : ℕ) → AllGood d (each row (j + suc k)) → AllGood d (row k)
  each_here zero k x = good_behind d (each row k) (row k) (rw (zero-add (suc k)) at x)
  each_here (suc j) k x = each_here j k (good_front d (each row (j + suc k)) (row (j + suc k)) (rw (suc-add j (suc k)) at x))

  -- of good rows each is good
  pub each_at : (n k : ℕ) → AllGood d (each row n) → k < n → AllGood d (row k)
  each_at n k x h =
      let same : n ≡ (n - suc k) + suc k = omega arith in
      each_here (n - suc k) k (subst (λ m. AllGood d (each row m)) same x)
