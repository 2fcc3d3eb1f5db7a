-- A record of a ride that can't be put: only memory can be lacking.
use Rattle.fit_examples.proofs.Common.{◌≡◌, ℕ, ◌+◌, ◌*◌, ◌<◌, ◌≤◌, List, [], ◌∷◌, length, take, Option, Some, None, arith, refl, sym, ap, ◌∙◌, subst, map}
use Rattle.fit_examples.proofs.Common.{Global, length-take-le, Record, Define, Environment, empty_environment, learn, learn_all, Fits, record_bytes}
use Rattle.fit_examples.proofs.Common.{records_bytes, Encoding, IsFinishFault, IsPlaceFault, IsPutFault, closed_fault, data_so_far, learned, FitsRide}
use Rattle.fit_examples.proofs.Common.{IsRideFault, definition, ride_message, ride_records}
use Rattle.std.proofs.lemmas.List.{length-append}
use Rattle.fit_record.specs.declared.fits.ShapeFault.{ShapeFault}
use Rattle.fit_record.specs.Faults.{first_fault}
use Rattle.fit_record.proofs.NoFaultWhereFits.{faults_are_exact}
use Rattle.fit_encode.specs.declared.fault.EncodeFault.{EncodeFault}
use Rattle.fit_encode.specs.declared.fault.EncodeFault.TheVariants.{BadLocal, BadOffset, UndefinedLocal, WrongShape, DeclaredLength, NoMemory, Write}
use Rattle.fit_encode.specs.Faults.{UnlessWrite}
use Rattle.fit_examples.proofs.Holding.{Holds}

-- what the definition message makes known
abbrev ride_known : Environment Global
ride_known = learn empty_environment (Define definition)

-- a record message makes nothing else known
known_by_ride : (points : List (ℕ × ℕ)) → learn_all ride_known (map ride_message points) ≡ ride_known
known_by_ride [] = refl
known_by_ride (p ∷ points) = known_by_ride points

-- six bytes for each
length_of_ride : (points : List (ℕ × ℕ)) → length (records_bytes ride_known (map ride_message points)) ≡ 6 * length points
length_of_ride [] = refl
length_of_ride (p ∷ points) = omega (arith, length_of_ride points)

no_shape : (e : Environment Global) (r : Record Global) (f : ShapeFault) → Fits e r → first_fault e r ≡ Some f → ⊥
no_shape e r f fits is = let none : first_fault e r ≡ None = ((faults_are_exact e r).0 fits).0 in absurd cc

-- a record that fits and has room is refused only where memory is lacking
place_fault : (e : Environment Global) (count declared size points : ℕ) (r : Record Global) (fault : EncodeFault) (X Y : Type 0) → Fits e r
    → size + length (record_bytes e r) ≤ declared
    → UnlessWrite fault (IsPlaceFault e count declared size r fault × X × Y) → IsRideFault points fault
place_fault e count declared size points r (BadLocal file index) X Y fits room is = absurd (no_shape e r _ fits is.0.2)
place_fault e count declared size points r (BadOffset file index) X Y fits room is = absurd (no_shape e r _ fits is.0.2)
place_fault e count declared size points r (UndefinedLocal file index) X Y fits room is = absurd (no_shape e r _ fits is.0.2)
place_fault e count declared size points r (WrongShape file index field) X Y fits room is = absurd (no_shape e r _ fits is.0.2)
place_fault e count declared size points r DeclaredLength X Y fits room is = absurd (omega (arith, room, is.0.1))
place_fault e count declared size points r NoMemory X Y fits room is = tt
place_fault e count declared size points r (Write written) X Y fits room is = tt
place_fault e count declared size points r fault X Y fits room is = absurd is.0

-- the data so far
data_held : (points : List (ℕ × ℕ)) (head : List ℕ) (declared i : ℕ) (e : Encoding Global) (held : Option (List ℕ)) → i ≤ length points
    → Holds head declared (ride_records (take i points)) e held → length (data_so_far e) ≡ 12 + 6 * i
data_held points head declared i e held within h =
    let all : length (data_so_far e) ≡ 12 + length (records_bytes ride_known (map ride_message (take i points))) =
    ap (λ (x : Encoding Global). length (data_so_far x)) h.is
    ∙ length-append (record_bytes empty_environment (Define definition)) (records_bytes ride_known (map ride_message (take i points))) in
    omega (arith, all, length_of_ride (take i points), length-take-le i points within)

finish_fault : (e : Encoding Global) (points : ℕ) (fault : EncodeFault) (X Y : Type 0) → e.declared ≤ length (data_so_far e)
    → UnlessWrite fault (IsFinishFault e fault × X × Y) → IsRideFault points fault
finish_fault e points DeclaredLength X Y whole is = absurd (omega (arith, whole, is.0.1))
finish_fault e points NoMemory X Y whole is = tt
finish_fault e points (Write written) X Y whole is = tt
finish_fault e points fault X Y whole is = absurd cc

-- a message is refused only where memory is lacking
pub message_fault : (points : List (ℕ × ℕ)) (head : List ℕ) (declared i : ℕ) (p : ℕ × ℕ) (e : Encoding Global) (held : Option (List ℕ)) (r : Record Global)
    (fault : EncodeFault) (X Y : Type 0)
    → i < length points → declared ≡ 12 + 6 * length points → Holds head declared (ride_records (take i points)) e held → r ≡ ride_message p → FitsRide r
    → (closed_fault e ≡ None → UnlessWrite fault (IsPutFault e r fault × X × Y)) → IsRideFault (length points) fault
message_fault points head declared i p e held r fault X Y within all h is fits refused =
    let known_is : learned e ≡ ride_known = ap learned h.is ∙ known_by_ride (take i points) in
    let long : length (record_bytes (learned e) r) ≡ 6 = ap (λ k. length (record_bytes k r)) known_is ∙ ap (λ x. length (record_bytes ride_known x)) is in
    let declared_is : e.declared ≡ declared = ap (λ (x : Encoding Global). x.declared) h.is in
    let size = data_held points head declared i e held (omega (arith, within)) h in
    place_fault (learned e) (length e.records) e.declared (length (data_so_far e)) (length points) r fault X Y (subst (λ k. Fits k r) (sym known_is) fits)
    (omega (arith, long, declared_is, size, within, all)) (refused (ap closed_fault h.is))

-- the end is never refused
pub end_fault : (points : List (ℕ × ℕ)) (head : List ℕ) (declared i : ℕ) (e : Encoding Global) (held : Option (List ℕ)) (fault : EncodeFault) (X Y : Type 0)
    → i ≡ length points → declared ≡ 12 + 6 * length points → Holds head declared (ride_records (take i points)) e held
    → (closed_fault e ≡ None → UnlessWrite fault (IsFinishFault e fault × X × Y)) → IsRideFault (length points) fault
end_fault points head declared i e held fault X Y is all h refused =
    let declared_is : e.declared ≡ declared = ap (λ (x : Encoding Global). x.declared) h.is in
    let size = data_held points head declared i e held (omega (arith, is)) h in
    finish_fault e (length points) fault X Y (omega (arith, is, declared_is, size, all)) (refused (ap closed_fault h.is))
