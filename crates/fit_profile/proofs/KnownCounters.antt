-- What the items of the accumulated fields count, by the table of the protocol's profile.
use Rattle.fit_profile.proofs.Common.{◌≡◌, ◌∷◌, [], refl, Some, None, accumulated_power, distance, number_in, total_cycles}
use Rattle.std.specs.Global.{Global}

-- three bytes, the lowest first
counted_distance : number_in {A = Global} distance (record { width = 1; bits = 0x64 ∷ 0x00 ∷ 0x10 ∷ [] }) ≡ Some 0x100064
counted_distance = refl

-- one below the greatest, and the greatest
last_distance : number_in {A = Global} distance (record { width = 1; bits = 0xFE ∷ 0xFF ∷ 0xFF ∷ [] }) ≡ Some 0xFFFFFE
last_distance = refl

no_distance : number_in {A = Global} distance (record { width = 1; bits = 0xFF ∷ 0xFF ∷ 0xFF ∷ [] }) ≡ None
no_distance = refl

last_cycles : number_in {A = Global} total_cycles (record { width = 1; bits = 0xFE ∷ [] }) ≡ Some 0xFE
last_cycles = refl

no_cycles : number_in {A = Global} total_cycles (record { width = 1; bits = 0xFF ∷ [] }) ≡ None
no_cycles = refl

last_power : number_in {A = Global} accumulated_power (record { width = 2; bits = 0xFFFE ∷ [] }) ≡ Some 0xFFFE
last_power = refl

no_power : number_in {A = Global} accumulated_power (record { width = 2; bits = 0xFFFF ∷ [] }) ≡ None
no_power = refl

-- two items where one is needed, and one of another width
two_cycles : number_in {A = Global} total_cycles (record { width = 1; bits = 1 ∷ 2 ∷ [] }) ≡ None
two_cycles = refl

wide_cycles : number_in {A = Global} total_cycles (record { width = 2; bits = 1 ∷ [] }) ≡ None
wide_cycles = refl
