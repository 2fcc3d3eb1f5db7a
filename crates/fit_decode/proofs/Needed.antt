-- How many bytes are to come, by the fields, are those that are missing by the bytes fed.
use Rattle.fit_decode.proofs.Common.{◌≡◌, ℕ, ◌+◌, ◌-◌, ◌<◌, ◌^◌, true, false, List, [], ◌∷◌, length, take, drop, refl, sym, ap, ◌∙◌, subst, arith, None}
use Rattle.fit_decode.proofs.Common.{if◌then◌else◌, IsBytes, number, IsBytes-take, IsBytes-drop, checksum, empty_environment, records_bytes}
use Rattle.fit_decode.proofs.Common.{records_in_progress, Inside, Section, Data, ClosingSum, at_header, at_data, Fed, half_sum, Fields, HoldsAt, Holds}
use Rattle.fit_decode.proofs.Common.{to_come, to_come_in, IsSoundDecoder, fields_inside, Latched, Stage, refusal_of, seen_in, Some, Reason}
use Rattle.std.proofs.Common.{Bool}
use Rattle.fit_base.specs.declared.number.Order.TheVariants.{Little}
use Rattle.fit_base.proofs.NumberLaws.{number-below}
use Rattle.fit_frame.specs.Beginning.{Seen}
use Rattle.fit_decode.specs.declared.section.Section.TheVariants.{Header}
use Rattle.fit_chain.specs.Needs.{missing, Needs}

-- after a refusal none are
none_to_come : (s : Section) (stage : Stage) (front : List ℕ) (room : ℕ) (reason : Reason) → refusal_of s ≡ Some reason → to_come_in s stage front room ≡ 0
none_to_come (Latched was) stage front room reason is = refl
none_to_come s stage front room reason is = absurd cc

pub none_needed : {A : Type 0} (d : Inside A) (old : Fed) → seen_in d ≡ old → (front : List ℕ) (n : ℕ) → n ≡ to_come d.stage front d.position.room
    → (reason : Reason) → old.refusal ≡ Some reason → n ≡ 0
none_needed d old seen front n is reason refused =
    is ∙ none_to_come d.stage.section d.stage front d.position.room reason (ap (λ (s : Fed). s.refusal) seen ∙ refused)

-- the number in four bytes
pub four_bytes_below : (all some bytes : List ℕ) (n : ℕ) → IsBytes all → some ≡ drop 4 all → bytes ≡ take 4 some → length bytes ≡ 4 → n ≡ number Little bytes
    → n < 4294967296
four_bytes_below all some bytes n are beyond is four same =
    let low : IsBytes bytes = subst IsBytes (sym is) (IsBytes-take 4 some (subst IsBytes (sym beyond) (IsBytes-drop 4 all are))) in
    let below : number Little bytes < 4294967296 = subst (λ k. number Little bytes < 256 ^ k) four (number-below Little bytes low) in
    omega (arith, below, same)

same_missing : (A B : Type 0) (files : ℕ) (front : List ℕ) → missing {A = A} files (at_header front) ≡ missing {A = B} files (at_header front)
same_missing A B files [] = refl
same_missing A B files (b ∷ front) = refl

sum_left : (n : ℕ) (half : Bool) → (if half then 1 else 2) + length (half_sum n half) ≡ 2
sum_left n true = refl
sum_left n false = refl

module _ {A : Type 0} (d : Fields A) (bytes : List ℕ) (are : IsBytes bytes) where
  needed_at : (s : Section) → HoldsAt s d bytes → refusal_of s ≡ None → Needs A bytes (to_come_in s d.stage d.reader.bytes d.position.room)
  needed_at (Latched reason) k fresh = absurd cc
  needed_at Header k fresh = record {
    files = k.files;
    progress = at_header d.sum;
    come = k.come;
    is = (λ i. missing {A = Unit {0}} (k.counted i) (at_header (ap (λ (r : Seen). r.bytes) k.read i))) ∙ same_missing (Unit {0}) A (length k.files) d.sum;
  }
  needed_at Data k fresh =
      let taken : ℕ = length (records_bytes empty_environment k.records) in
      let left = (records_in_progress d.env (k.size - taken) k.part d.position d.in_progress k.in_record).2 in
      record { files = k.files; progress = at_data k.header k.size k.records k.part; come = k.come; is = omega (arith, left, k.come.next.2) }
  needed_at ClosingSum k fresh = record {
    files = k.files;
    progress = at_data k.header k.size k.records (half_sum (checksum d.sum) d.stage.half);
    come = k.come;
    is = omega (arith, sum_left (checksum d.sum) d.stage.half, k.over, k.come.next.2);
  }

  needed : Holds d bytes → refusal_of d.stage.section ≡ None → Needs A bytes (to_come d.stage d.reader.bytes d.position.room)
  needed holds fresh = needed_at d.stage.section holds fresh

pub needed_seen : {A : Type 0} (d : Inside A) → IsSoundDecoder d → (old : Fed) → seen_in d ≡ old
    → (front : List ℕ) (n : ℕ) → front ≡ d.reader.bytes
    → n ≡ to_come d.stage front d.position.room → old.refusal ≡ None → Needs A old.bytes n
needed_seen {A} d k old seen front n read is fresh =
    let none : refusal_of d.stage.section ≡ None = ap (λ (s : Fed). s.refusal) seen ∙ fresh in
    let same : to_come d.stage d.reader.bytes d.position.room ≡ n =
    sym (is ∙ ap (λ l. to_come d.stage l d.position.room) read) in
    subst (Needs A old.bytes) same
    (subst (λ b. Needs A b (to_come d.stage d.reader.bytes d.position.room)) (ap (λ (s : Fed). s.bytes) seen)
    (needed (fields_inside d) d.history.items k.are k.holds none))
