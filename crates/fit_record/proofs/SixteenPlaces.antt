-- Records leave an environment with as many places as it had.
use Rattle.fit_record.proofs.Common.{◌≡◌, List, [], ◌∷◌, length, refl, ap, ◌∙◌, length-set, Record, Define, Data, Environment, empty_environment, learn}
use Rattle.fit_record.proofs.Common.{learn_all}
use Rattle.fit_record.specs.RoomLaws.{HaveSixteenPlaces}
use Rattle.fit_record.proofs.FilledRooms.{same_places}

as_many_after : {A : Type 0} (e : Environment A) (r : Record A) → length (learn e r).places ≡ length e.places
as_many_after e (Define d) = length-set e.places d.local _
as_many_after e (Data v) = ap length (same_places e v)

as_many : {A : Type 0} (e : Environment A) (records : List (Record A)) → length (learn_all e records).places ≡ length e.places
as_many e [] = refl
as_many e (r ∷ records) = as_many (learn e r) records ∙ as_many_after e r

pub sixteen_places : {A : Type 0} → HaveSixteenPlaces A
sixteen_places records = as_many empty_environment records
