-- What the skipping of records makes of the fields and of the events, where bytes of a record may have come before and after.
use Rattle.fit_decode.proofs.Common.{◌≡◌, inl, inr, ◌⊎◌, ℕ, zero, suc, ◌+◌, ◌-◌, ◌<◌, ◌≤◌, ◌^◌, List, [], ◌++◌, length, take, sym, ap, ◌∙◌, subst, arith}
use Rattle.fit_decode.proofs.Common.{append_assoc, length-append, map, IsBytes, IsBytes-append, IsBytes-take, header_bytes, Record, Environment}
use Rattle.fit_decode.proofs.Common.{empty_environment, learn_all, chain_limit, IsViable, AllFit, records_bytes, all_fit-append, records_bytes-append}
use Rattle.fit_decode.proofs.Common.{learn_all-append, Position, FillFrom, IsInProgress, records_in_progress, Inside, IsSoundDecoder, fields_inside, seen_in}
use Rattle.fit_decode.proofs.Common.{InSection, at_data, HasCome, Event, item, AreEvents, Fields, InData, Holds, HoldsAt, goes_viable, more_of, items_told}
use Rattle.fit_decode.proofs.Common.{all_told}
use Rattle.std.specs.Prelude.{Option}
use Rattle.fit_chain.proofs.Whole.{partial}
use Rattle.fit_chain.specs.GoingOn.{DataGoesOn}
use Rattle.fit_chain.specs.Progress.{progress_bytes}
use Rattle.fit_step.specs.InProgress.{NoRecord}
use Rattle.fit_step.specs.Skipping.{Learns, PassesInSection}
use Rattle.fit_decode.specs.Answers.{Seen}
use Rattle.fit_decode.specs.inner.Skips.{Passed}
use Rattle.fit_decode.proofs.Feeding.{few_more, sound_after}

-- a data section that isn't over goes on where records fill it
data_goes : {A : Type 0} (e : Environment A) (room : ℕ) (sum part : List ℕ) → 0 < room → FillFrom e room part → DataGoesOn e room sum part
data_goes e zero sum part some fill = absurd (omega (arith, some))
data_goes e (suc room) sum part some fill = fill

module _ {A : Type 0} (d : Fields A) (bytes piece : List ℕ) (after : Environment A) (sum : List ℕ) (position : Position) (in_progress : Option (Record A))
    (used : ℕ) (rs : List (Record A)) (are : IsBytes bytes) (low : IsBytes piece) where
  abbrev now : Fields A
  now = record d { env = after; sum = sum; position = position; in_progress = in_progress }

  abbrev y : List ℕ
  y = take used piece

  module _ (k : InData d bytes) (in_section : d.stage.section ≡ InSection) (summed : sum ≡ d.sum ++ y) (whole part : List ℕ)
      (parts : k.part ++ y ≡ whole ++ part)
      (enough : (rs ≡ []) ⊎ (length whole + 6 ≤ k.size - length (records_bytes empty_environment k.records)))
      (learns : Learns d.env after whole rs)
      (at : IsInProgress after (k.size - length (records_bytes empty_environment k.records) - length whole) part position in_progress) where
    abbrev known : Environment A
    known = learn_all empty_environment k.records

    abbrev all : List (Record A)
    all = k.records ++ rs

    abbrev room : ℕ
    room = k.size - length (records_bytes empty_environment k.records)

    abbrev left : ℕ
    left = k.size - length (records_bytes empty_environment all)

    fits : AllFit known rs
    fits = subst (λ e. AllFit e rs) k.known learns.0.0

    spelled : whole ≡ records_bytes known rs
    spelled = learns.0.1 ∙ ap (λ e. records_bytes e rs) k.known

    some_after : length whole < room
    some_after = elim enough [
      | inl none ↦ let empty : length whole ≡ 0 = ap length (spelled ∙ ap (records_bytes known) none) in let some = k.some in omega (arith, some, empty)
      | inr large ↦ omega (arith, large)
    ]

    all_bytes : records_bytes empty_environment all ≡ records_bytes empty_environment k.records ++ whole
    all_bytes = records_bytes-append empty_environment k.records rs ∙ ap (λ b. records_bytes empty_environment k.records ++ b) (sym spelled)

    total : length (records_bytes empty_environment all) ≡ length (records_bytes empty_environment k.records) + length whole
    total = ap length all_bytes ∙ length-append (records_bytes empty_environment k.records) whole

    left_is : left ≡ room - length whole
    left_is = omega (arith, total)

    some_left : 0 < left
    some_left = omega (arith, left_is, some_after)

    learnt : after ≡ learn_all empty_environment all
    learnt = sym learns.1 ∙ ap (λ e. learn_all e rs) k.known ∙ sym (learn_all-append empty_environment k.records rs)

    none : NoRecord (learn_all empty_environment all) part
    none = subst (λ e. NoRecord e part) learnt (records_in_progress after (room - length whole) part position in_progress at).0

    fill : FillFrom (learn_all empty_environment all) left part
    fill =
        subst (λ m. FillFrom (learn_all empty_environment all) m part) (sym left_is)
        (subst (λ e. FillFrom e (room - length whole) part) learnt (records_in_progress after (room - length whole) part position in_progress at).1)

    regrouped : progress_bytes (at_data k.header k.size all part) ≡ progress_bytes (at_data k.header k.size k.records k.part) ++ y
    regrouped =
        let head : List ℕ = header_bytes k.header k.size in
        let before : List ℕ = records_bytes empty_environment k.records in
        ap (λ b. (head ++ b) ++ part) all_bytes ∙ ap (λ b. b ++ part) (sym (append_assoc head before whole)) ∙ append_assoc (head ++ before) whole part
        ∙ ap (λ b. (head ++ before) ++ b) (sym parts) ∙ sym (append_assoc (head ++ before) k.part y)

    come : HasCome k.files (at_data k.header k.size all part) (bytes ++ y)
    come =
        more_of k.files (at_data k.header k.size k.records k.part) (at_data k.header k.size all part) bytes y k.come (
          k.come.next.0,
          all_fit-append empty_environment k.records rs k.come.next.1 fits,
          omega (arith, some_left),
          partial (learn_all empty_environment all) left part some_left none,
        )
        regrouped

    all_are : IsBytes (bytes ++ y)
    all_are = IsBytes-append bytes y are (IsBytes-take used piece low)

    pub records_passed_by : Passed now bytes piece used rs
    records_passed_by = record {
      told = all_told k.files k.files (at_data k.header k.size k.records k.part) (at_data k.header k.size all part) bytes (bytes ++ y) (map item rs) k.come come
          (items_told k.files k.header k.size k.records rs k.part part);
      viable = goes_viable chain_limit k.files (at_data k.header k.size all part) (bytes ++ y) come all_are (
        let few = k.few in omega (arith, few),
        let few = k.few in
            omega (arith, few),
        data_goes (learn_all empty_environment all) left _ part some_left fill,
      );
      holds = subst (λ c. HoldsAt c now (bytes ++ y)) (sym in_section) (record {
        files = k.files;
        header = k.header;
        size = k.size;
        records = all;
        part = part;
        come = come;
        few = k.few;
        counted = k.counted;
        whole = k.whole;
        fresh = k.fresh;
        summed = summed ∙ ap (λ l. l ++ y) k.summed ∙ sym regrouped;
        known = learnt;
        some = some_left;
        in_record = subst (λ m. IsInProgress after m part position in_progress) (sym left_is) at;
      });
    }

  pub passes : d.stage.section ≡ InSection → PassesInSection d.env d.position d.in_progress after position in_progress y rs → sum ≡ d.sum ++ y
      → Holds d bytes → Passed now bytes piece used rs
  passes at pass summed holds =
      let k = subst (λ c. HoldsAt c d bytes) at holds in
      let (whole, part, parts, enough, learns, there) =
      pass (k.size - length (records_bytes empty_environment k.records)) k.part k.in_record in
      records_passed_by k at summed whole part parts enough learns there

-- ---- what a caller of a decoder sees

module _ {A : Type 0} (d : Inside A) (k : IsSoundDecoder d) (at : d.stage.section ≡ InSection) (piece : List ℕ) (after : Environment A) (sum : List ℕ)
    (position : Position) (in_progress : Option (Record A)) (used : ℕ) (records : List (Record A)) (low : IsBytes piece) (within : used ≤ length piece)
    (pass : PassesInSection d.env d.position d.in_progress after position in_progress (take used piece) records) (summed : sum ≡ d.sum ++ take used piece) where
  abbrev beyond : Fields A
  beyond = record (fields_inside d) { env = after; sum = sum; position = position; in_progress = in_progress }

  passed : Passed beyond d.history.items piece used records
  passed = passes (fields_inside d) d.history.items piece after sum position in_progress used records k.are low at pass summed k.holds

  pub few_passed : d.count + used < 2 ^ 64
  few_passed = few_more k piece used low within passed.viable

  pub passed_kept : (n : Inside A) → n.history.items ≡ d.history.items ++ take used piece → fields_inside n ≡ beyond → n.count ≡ d.count + used
      → IsSoundDecoder n
  passed_kept n took same counted = sound_after k piece used low within passed.viable n took counted
      (subst (λ f. Holds f (d.history.items ++ take used piece)) (sym same) passed.holds)

  pub records_passed : (old : Seen) → seen_in d ≡ old → (bytes : List ℕ) → bytes ≡ d.history.items ++ take used piece
      → (events : List (Event A)) → AreEvents old.bytes events → AreEvents bytes (events ++ map item records)
  records_passed old seen bytes took events are_told =
      let told = passed.told events (subst (λ b. AreEvents b events) (sym (ap (λ (o : Seen). o.bytes) seen)) are_told) in
      subst (λ b. AreEvents b (events ++ map item records)) (sym took) told
