-- What is kept of the events that were heard: the records of the file that was begun last, and how many files have begun.
use Rattle.fit_text_report.proofs.Common.{◌≡◌, ◌∙◌, [], ◌∷◌, ◌++◌, refl, sym, ap, Record, Event, item, next_records, subst, reverse-append, reverse-reverse}
use Rattle.fit_text_report.proofs.Common.{Fits, Answer, header, known, AreHeard, hear, latest_records}
use Rattle.fit_text_report.proofs.Common.{empty_environment, learn_all, Data, Values, ◌≤◌, ◌^◌, length, arith, files_heard}
use Rattle.std.proofs.Common.{List, ℕ, reverse, ◌<◌}
use Rattle.fit_record.specs.Records.{IsRecord}
use Rattle.fit_chain.specs.Events.{known_after}
use Rattle.fit_chain.specs.declared.event.Event.TheVariants as answers
use Rattle.fit_profile.proofs.KnownFacts.{known_learned}
use Rattle.fit_report.proofs.Records.{heard_are_few, heard_records_fit, known_heard}

-- the records of the file that was begun last, after events one after another
abbrev pub records_after : {A : Type 0} → List (Record A) → List (Event A) → List (Record A)
records_after before [] = before
records_after before (x ∷ events) = records_after (next_records before x) events

-- the records after one more event
pub records-more : {A : Type 0} (before : List (Record A)) (events : List (Event A)) (x : Event A)
    → records_after before (events ++ (x ∷ [])) ≡ next_records (records_after before events) x
records-more before [] x = refl
records-more before (y ∷ events) x = records-more (next_records before y) events x

-- looking back over the latest records is learning them
latest_known : {A : Type 0} (heard : List (Event A)) → learn_all empty_environment (reverse (latest_records heard)) ≡ known (latest_records heard)
latest_known heard = sym (known_learned (reverse (latest_records heard))) ∙ ap known (reverse-reverse (latest_records heard))

-- a record that is heard fits after the latest records
pub record_fits : {A : Type 0} (heard : List (Event A)) (r : Record A) → AreHeard (item r ∷ heard) → Fits (known (latest_records heard)) r
record_fits heard r are = subst (λ e. Fits e r) (latest_known heard) (heard_records_fit heard r are)

-- the message of some bytes after what is heard is their message after its latest records
pub told_message : {A : Type 0} (heard : List (Event A)) (stream : List (Record A)) (v : Values A) (bytes same : List ℕ) → stream ≡ latest_records heard
    → same ≡ bytes → IsRecord (known_after (reverse heard)) (Data v) bytes → IsRecord (known stream) (Data v) same
told_message heard stream v bytes same has is =
    λ r. subst (λ b. IsRecord (known stream) (Data v) b) (sym is)
    (subst (λ e. IsRecord e (Data v) bytes) (known_heard heard ∙ latest_known heard ∙ ap known (sym has)) r)

-- the latest records are those after the events in their order
pub latest : {A : Type 0} (heard : List (Event A)) → records_after [] (reverse heard) ≡ latest_records heard
latest [] = refl
latest (x ∷ heard) =
    ap (records_after []) (reverse-append (x ∷ []) heard) ∙ records-more [] (reverse heard) x ∙ ap (λ before. next_records before x) (latest heard) ∙ beyond x
  where
    beyond : (x : Event _) → next_records (latest_records heard) x ≡ latest_records (x ∷ heard)
    beyond (header h n) = refl
    beyond event = refl

-- there are no more files than events
files_within : {A : Type 0} (heard : List (Event A)) → files_heard heard ≤ length heard
files_within [] = omega arith
files_within (header h n ∷ heard) = omega (arith, files_within heard)
files_within (event ∷ heard) = omega (arith, files_within heard)

longer : {A : Type 0} (answer : Answer A) (heard : List (Event A)) → length heard ≤ length (hear answer heard)
longer answers.More heard = omega arith
longer answer heard = omega arith

pub few_files : {A : Type 0} (heard : List (Event A)) (answer : Answer A) → AreHeard (hear answer heard) → files_heard heard < 2 ^ 60
few_files heard answer are = omega (arith, heard_are_few (hear answer heard) are, longer answer heard, files_within heard)
