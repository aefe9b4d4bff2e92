-- What equal orders have.
use Rattle.std.proofs.Common.{◌≡◌, ap}
use Rattle.partition.specs.declared.order.Order.{Order}

pub states_are : {o o2 : Order} → o2 ≡ o → o2.states ≡ o.states
states_are = ap (λ o. o.states)

pub places_are : {o o2 : Order} → o2 ≡ o → o2.places ≡ o.places
places_are = ap (λ o. o.places)
