-- Bytes that no record begins: a record's bytes less some at the end.
use Rattle.fit_step.proofs.Common.{◌≡◌, ℕ, ◌<◌, List, [], ◌∷◌, ◌++◌, length, sym, ap, ◌∙◌, arith, append_assoc, append-nil, Record, Environment, Fits}
use Rattle.fit_step.proofs.Common.{record_bytes, same_record, no_bytes, NoRecord, RecordPart, nothing, part_bytes, IsPart, HasBegun, replicate}
use Rattle.fit_step.proofs.OneByte.{cuts_go_on}

pub empty_back : (a b : List ℕ) → a ++ b ≡ [] → b ≡ []
empty_back [] b e = e
empty_back (x ∷ a) b e = absurd cc

pub no_record_before : {A : Type 0} (e : Environment A) (a b : List ℕ) → NoRecord e (a ++ b) → NoRecord e a
no_record_before e a b none r rest fits is = none r (rest ++ b) fits (ap (λ z. z ++ b) is ∙ append_assoc (record_bytes e r) rest b)

pub no_record_yet : {A : Type 0} (e : Environment A) → NoRecord e []
no_record_yet e r rest fits is = no_bytes e r rest (ap length (sym is))

-- a whole record less some bytes
pub before_record : {A : Type 0} (e : Environment A) (a b : List ℕ) (s : Record A) → Fits e s → record_bytes e s ≡ a ++ b → 0 < length b → NoRecord e a
before_record e a b s whole spelled some r rest fits is =
    let joined : record_bytes e r ++ (rest ++ b) ≡ record_bytes e s ++ [] =
    sym (append_assoc (record_bytes e r) rest b) ∙ ap (λ z. z ++ b) (sym is) ∙ sym spelled ∙ sym (append-nil (record_bytes e s)) in
    let one = same_record e r s (rest ++ b) [] fits whole joined in
    omega (arith, some, ap length (empty_back rest b one.1))

begun_part : {A : Type 0} (e : Environment A) (f : RecordPart A) → IsPart e f → HasBegun f → NoRecord e (part_bytes e f)
begun_part e f is begun =
    let (r, k, whole) = cuts_go_on e f is begun in
    before_record e (part_bytes e f) (0 ∷ replicate k 0) r whole.0 (sym whole.1) (omega arith)

-- parts of a record are none
pub part_of_record : {A : Type 0} (e : Environment A) (f : RecordPart A) → IsPart e f → NoRecord e (part_bytes e f)
part_of_record e nothing is = no_record_yet e
part_of_record e f is = begun_part e f is tt
