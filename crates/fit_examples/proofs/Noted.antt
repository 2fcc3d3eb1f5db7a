-- What is noted of the events of some bytes.
use Rattle.fit_examples.proofs.Common.{◌≡◌, ◌∙◌, ℕ, List, [], ◌∷◌, ◌++◌, length, take, reverse, Some, None, refl, sym, ap, ap₂, subst, arith, append_assoc}
use Rattle.fit_examples.proofs.Common.{flat_map, map, Global, append-nil, reverse-append, reverse-reverse, FitFile, Record, IsChain, chain_limit, Fits, Seen}
use Rattle.fit_examples.proofs.Common.{event_of, fed, AreEvents, Event, file_end, file_events, header, item, Feeds, AreHeard, hear, latest_records}
use Rattle.fit_chain.specs.declared.event.Event.{Event as Answer}
use Rattle.fit_chain.specs.Pieces.{Least, Quiet}
use Rattle.fit_chain.specs.Laws.{EventsAreOne}
use Rattle.fit_chain.specs.Progress.{at_header}
use Rattle.fit_decode.proofs.FileRead.{no_file_yet}
use Rattle.fit_chain.proofs.Telling.{least_for, quiet_for}
use Rattle.fit_profile.specs.Laws.{LookingBackIsLearning}
use Rattle.fit_profile.specs.Looks.{known}
use Rattle.fit_report.specs.Laws.{HeardRecordsFit}
use Rattle.fit_report.proofs.Chains.{chain_events}
use Rattle.fit_examples.specs.declared.moments.Moment.{Moment}
use Rattle.fit_examples.specs.HeartRates.{file_moments, record_moments, records_moments}
use Rattle.fit_examples.specs.Rates.{moments_heard}
use Rattle.fit_examples.specs.inner.Noting.{event_moments, records_after_event}
use Rattle.fit_chain.specs.declared.event.Event.TheVariants as answers

-- ---- the moments of events

-- of events in their order, after these records of their file
abbrev moments_after : {A : Type 0} → List (Record A) → List (Event A) → List Moment
moments_after before [] = []
moments_after before (header h n ∷ events) = moments_after [] events
moments_after before (item r ∷ events) = record_moments before r ++ moments_after (r ∷ before) events
moments_after before (file_end ∷ events) = moments_after before events

turned : {A : Type 0} (x : A) (xs ys : List A) → reverse (x ∷ xs) ++ ys ≡ reverse xs ++ x ∷ ys
turned x xs ys = ap (λ l. l ++ ys) (reverse-append (x ∷ []) xs) ∙ append_assoc (reverse xs) (x ∷ []) ys

-- both are the same
both : {A : Type 0} (heard events : List (Event A))
    → moments_heard (reverse events ++ heard) ≡ moments_heard heard ++ moments_after (latest_records heard) events
both heard [] = sym (append-nil (moments_heard heard))
both heard (header h n ∷ events) = ap moments_heard (turned (header h n) events heard) ∙ both (header h n ∷ heard) events
both heard (item r ∷ events) =
    ap moments_heard (turned (item r) events heard) ∙ both (item r ∷ heard) events
    ∙ append_assoc (moments_heard heard) (record_moments (latest_records heard) r) (moments_after (r ∷ latest_records heard) events)
both heard (file_end ∷ events) = ap moments_heard (turned file_end events heard) ∙ both (file_end ∷ heard) events

-- those of a file come before those of what follows it
of_file : {A : Type 0} (before records : List (Record A)) (events : List (Event A)) (rest : List Moment)
    → ((others : List (Record A)) → moments_after others events ≡ rest)
    → moments_after before ((map item records ++ file_end ∷ []) ++ events) ≡ records_moments before records ++ rest
of_file before [] events rest next = next before
of_file before (r ∷ records) events rest next =
    ap (λ moments. record_moments before r ++ moments) (of_file (r ∷ before) records events rest next)
    ∙ sym (append_assoc (record_moments before r) (records_moments (r ∷ before) records) rest)

of_files : {A : Type 0} (before : List (Record A)) (fs : List (FitFile A)) → moments_after before (flat_map file_events fs) ≡ flat_map file_moments fs
of_files before [] = refl
of_files before (f ∷ fs) = of_file [] f.records (flat_map file_events fs) (flat_map file_moments fs) (λ others. of_files others fs)

-- those of a chain
pub chain_moments : {A : Type 0} (fs : List (FitFile A)) → moments_heard (reverse (flat_map file_events fs)) ≡ flat_map file_moments fs
chain_moments fs = ap moments_heard (sym (append-nil (reverse (flat_map file_events fs)))) ∙ both [] (flat_map file_events fs) ∙ of_files [] fs

-- ---- what is noted

-- The stream and the moments are those of the events of the bytes.
pub record Noted (bytes : List ℕ) (stream : List (Record Global)) (moments : List Moment) : Type 0 where
  pub heard : List (Event Global)
  pub are : AreEvents bytes (reverse heard)
  pub records : stream ≡ latest_records heard
  pub said : moments ≡ moments_heard heard

-- what the decoder says of its answer
pub record Answers (bytes piece : List ℕ) (used : ℕ) (answer : Answer Global) : Type 0 where
  pub more : event_of answer ≡ None → Quiet Global bytes piece used
  pub event : (x : Event Global) → event_of answer ≡ Some x → Least Global bytes piece used x

one_on : (bytes piece : List ℕ) (used : ℕ) (x : Event Global) (heard : List (Event Global)) → AreEvents bytes (reverse heard)
    → Least Global bytes piece used x → AreEvents (bytes ++ take used piece) (reverse (x ∷ heard))
one_on bytes piece used x heard are least =
    subst (AreEvents (bytes ++ take used piece)) (sym (reverse-append (x ∷ []) heard)) (least_for bytes piece used x least (reverse heard) are).0

events_on : (bytes piece : List ℕ) (used : ℕ) (answer : Answer Global) (heard : List (Event Global)) → Answers bytes piece used answer
    → AreEvents bytes (reverse heard) → AreEvents (bytes ++ take used piece) (reverse (hear answer heard))
events_on bytes piece used answers.More heard a are = quiet_for bytes piece used (a.more refl) (reverse heard) are used (omega arith)
events_on bytes piece used (answers.Header h n) heard a are = one_on bytes piece used (header h n) heard are (a.event (header h n) refl)
events_on bytes piece used (answers.Item r) heard a are = one_on bytes piece used (item r) heard are (a.event (item r) refl)
events_on bytes piece used answers.FileEnd heard a are = one_on bytes piece used file_end heard are (a.event file_end refl)

pub records_on : {A : Type 0} (heard : List (Event A)) (answer : Answer A)
    → records_after_event (latest_records heard) answer ≡ latest_records (hear answer heard)
records_on heard answers.More = refl
records_on heard answer = refl

pub moments_on : {A : Type 0} (heard : List (Event A)) (answer : Answer A)
    → moments_heard heard ++ event_moments (latest_records heard) answer ≡ moments_heard (hear answer heard)
moments_on heard (answers.Item r) = refl
moments_on heard answer = append-nil (moments_heard heard)

-- before the first byte
pub nothing_noted : Noted [] [] []
nothing_noted = record { heard = []; are = ([], at_header [], no_file_yet Global, refl); records = refl; said = refl }

pub heard_on : (old new : Seen) (piece : List ℕ) (used : ℕ) (answer : Answer Global) (heard : List (Event Global)) → AreEvents old.bytes (reverse heard)
    → Answers old.bytes piece used answer → new ≡ fed old piece used → AreEvents new.bytes (reverse (hear answer heard))
heard_on old new piece used answer heard are a after =
    subst (λ b. AreEvents b (reverse (hear answer heard))) (sym (ap (λ (s : Seen). s.bytes) after)) (events_on old.bytes piece used answer heard a are)

pub noted_on : (old new : Seen) (piece : List ℕ) (used : ℕ) (answer : Answer Global) (stream next : List (Record Global)) (moments longer : List Moment)
    → Noted old.bytes stream moments → Answers old.bytes piece used answer → new ≡ fed old piece used → next ≡ records_after_event stream answer
    → longer ≡ moments ++ event_moments stream answer → Noted new.bytes next longer
noted_on old new piece used answer stream next moments longer n a after records said = record {
  heard = hear answer n.heard;
  are = heard_on old new piece used answer n.heard n.are a after;
  records = records ∙ ap (λ before. records_after_event before answer) n.records ∙ records_on n.heard answer;
  said = said ∙ ap₂ (λ before ms. ms ++ event_moments before answer) n.records n.said ∙ moments_on n.heard answer;
}

-- a record that is heard fits after the latest records
pub heard_fits : HeardRecordsFit Global → LookingBackIsLearning Global → (heard : List (Event Global)) (stream : List (Record Global)) (r : Record Global)
    → stream ≡ latest_records heard → AreHeard (item r ∷ heard) → Fits (known stream) r
heard_fits fit back heard stream r is are =
    let before = latest_records heard in
    subst (λ e. Fits e r) (sym (back (reverse before)) ∙ ap known (reverse-reverse before) ∙ ap known (sym is)) (fit heard r are)

-- ---- the end

-- where all bytes were fed, the moments are those of the chain
pub noted_all : EventsAreOne Global → (ride : List ℕ) (seen : Seen) (rest : List ℕ) (stream : List (Record Global)) (moments : List Moment)
    → Feeds ride seen rest → length rest ≡ 0 → Noted seen.bytes stream moments → (fs : List (FitFile Global)) → IsChain chain_limit fs ride
    → moments ≡ flat_map file_moments fs
noted_all one ride seen (b ∷ rest) stream moments f none n fs chain = absurd (omega (arith, none))
noted_all one ride seen [] stream moments f none n fs chain =
    let all : seen.bytes ≡ ride = sym (append-nil seen.bytes) ∙ f.joined in
    let events = one ride (reverse n.heard) (flat_map file_events fs) (subst (λ b. AreEvents b (reverse n.heard)) all n.are)
    (chain_events chain_limit fs ride chain) in
    n.said ∙ ap moments_heard (sym (append-nil n.heard) ∙ ap (λ l. l ++ []) (sym (reverse-reverse n.heard))) ∙ both [] (reverse n.heard)
    ∙ ap (moments_after []) events ∙ of_files [] fs
