-- What comparing numbers answers of records of them. Assumes nothing.
use Rattle.std.specs.Prelude.{◌≡◌, ◌<◌, true, refl}
use Rattle.std.specs.declared.cmp.Ordering.{Ordering}
use Rattle.std.specs.declared.cmp.Ordering.TheVariants.{Less, Equal, Greater}
use Rattle.std.proofs.Common.{ap, ◌∙◌, arith}
use Rattle.std.specs.Ordering.{MatchOrdering, nat_cmp, ordering_then}
use Rattle.std.specs.Cmp.{ranked}
use Rattle.std.proofs.lemmas.Bool.Decides.{nat_tests}
use Rattle.kinds.specs.declared.document.OpId.{OpId}
use Rattle.kinds.specs.declared.place.DetectorId.{DetectorId}
use Rattle.kinds.specs.declared.channel.Channel.{Channel}
use Rattle.kinds.specs.Operations.{op_below}
use Rattle.kinds.specs.Detector.{place_below, channel_below}

-- What comparing two numbers says of places,
places : (x y : DetectorId) (r : Ordering) → MatchOrdering r (x.number < y.number) (x.number ≡ y.number) (y.number < x.number) → MatchOrdering r (place_below x y ≡ true) (x ≡ y) (place_below y x ≡ true)
places x y Less h = grind (arith, nat_tests)
places x y Equal h = ap (λ n. record { number = n }) h
places x y Greater h = grind (arith, nat_tests)

-- of channels,
channels : (x y : Channel) (r : Ordering) → MatchOrdering r (x.number < y.number) (x.number ≡ y.number) (y.number < x.number) → MatchOrdering r (channel_below x y ≡ true) (x ≡ y) (channel_below y x ≡ true)
channels x y Less h = grind (arith, nat_tests)
channels x y Equal h = ap (λ n. record { number = n }) h
channels x y Greater h = grind (arith, nat_tests)

-- and what comparing two pairs of them says of operations.
operations : (x y : OpId) (r k : Ordering) → MatchOrdering r (x.counter < y.counter) (x.counter ≡ y.counter) (y.counter < x.counter) → MatchOrdering k (x.actor < y.actor) (x.actor ≡ y.actor) (y.actor < x.actor) → MatchOrdering (ordering_then r k) (op_below x y ≡ true) (x ≡ y) (op_below y x ≡ true)
operations x y Less k h m = grind (arith, nat_tests)
operations x y Equal Less h m = grind (arith, nat_tests)
operations x y Equal Equal h m = ap (λ c. record { counter = c; actor = x.actor }) h ∙ ap (λ a. record { counter = y.counter; actor = a }) m
operations x y Equal Greater h m = grind (arith, nat_tests)
operations x y Greater k h m = grind (arith, nat_tests)

-- The number of a place ranks it,
pub places_ranked : (x y : DetectorId) → MatchOrdering (nat_cmp x.number y.number) (place_below x y ≡ true) (x ≡ y) (place_below y x ≡ true)
places_ranked x y = places x y _ (ranked x.number y.number _ refl)

-- that of a channel ranks it,
pub channels_ranked : (x y : Channel) → MatchOrdering (nat_cmp x.number y.number) (channel_below x y ≡ true) (x ≡ y) (channel_below y x ≡ true)
channels_ranked x y = channels x y _ (ranked x.number y.number _ refl)

-- and an operation's counter ranks it, then its actor.
pub operations_ranked : (x y : OpId) → MatchOrdering (ordering_then (nat_cmp x.counter y.counter) (nat_cmp x.actor y.actor)) (op_below x y ≡ true) (x ≡ y) (op_below y x ≡ true)
operations_ranked x y =
    operations x y _ _ (ranked x.counter y.counter _ refl) (ranked x.actor y.actor _ refl)
