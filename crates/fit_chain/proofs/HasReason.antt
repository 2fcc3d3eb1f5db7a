-- A byte that can't follow has a reason.
use Rattle.fit_chain.proofs.Common.{◌≡◌, cond, ℕ, zero, suc, ◌-◌, ◌<◌, ◌≤◌, Bool, true, false, List, [], ◌∷◌, ◌++◌, length, refl, ap, ◌∙◌, subst, arith, Some}
use Rattle.fit_chain.proofs.Common.{◌==◌, eq-eqb, ne_eqb, IsBytes, little_bytes, IsBytes-back, checksum, Header, Reason, FileSum, TooManyFiles, header_reason}
use Rattle.fit_chain.proofs.Common.{header_bytes, FitFile, Record, Environment, empty_environment, learn_all, records_bytes, chain_bytes, chain_limit, IsViable}
use Rattle.fit_chain.proofs.Common.{record_reason, GoesOn, files_begun, RefusedHaveReasons, Progress, at_header, at_data, progress_bytes, HasCome, IsRefused}
use Rattle.fit_chain.proofs.Common.{reason_at, NoRecord, FillFrom}
use Rattle.fit_record.proofs.SixteenPlaces.{sixteen_places}
use Rattle.fit_step.proofs.RecordsInProgress.{one_byte, refused_bytes_have_reasons}
use Rattle.fit_chain.proofs.Completions.{filled_viable}
use Rattle.fit_chain.proofs.DataFed.{fill_of}
use Rattle.fit_chain.proofs.ViableGoesOn.{viable_goes}
use Rattle.fit_chain.proofs.HeaderFed.{not_full}
use Rattle.fit_chain.proofs.OnePlace.{no_record}
use Rattle.fit_chain.proofs.Places.{viable_somewhere}

-- ---- all places

either_reason : (c : Bool) (x y : Reason) → (reason : Reason) × (cond c (Some x) (Some y) ≡ Some reason)
either_reason true x y = (x, refl)
either_reason false x y = (y, refl)

module _ {A : Type 0} (limit : ℕ) (files : List (FitFile A)) (bytes : List ℕ) (b : ℕ) (most : limit ≤ chain_limit) (are : IsBytes bytes) (low : b < 256)
    (viable : IsViable A limit bytes) (ends : IsViable A limit (bytes ++ b ∷ []) → ⊥) where
  because_of : (g : Progress A) → HasCome files g bytes → (reason : Reason) → reason_at limit (length files) g b ≡ Some reason
      → IsRefused A limit bytes b reason
  because_of g at reason because = record { viable = viable; refused = ends; files = files; progress = g; come = at; because = because }

  module _ (h : Header) (n : ℕ) (records : List (Record A)) (part : List ℕ) (at : HasCome files (at_data h n records part) bytes) (few : length files < limit)
    where
      abbrev e : Environment A
      e = learn_all empty_environment records

      abbrev taken : ℕ
      taken = length (records_bytes empty_environment records)

      abbrev sum : List ℕ
      sum = little_bytes 2 (checksum (header_bytes h n ++ records_bytes empty_environment records))

      part_are : IsBytes part
      part_are = IsBytes-back (header_bytes h n ++ records_bytes empty_environment records) part
          (IsBytes-back (chain_bytes files) (progress_bytes (at_data h n records part)) (subst IsBytes at.spelled are))

      in_sum : n ≡ taken → (reason : Reason) × IsRefused A limit bytes b reason
      in_sum over = (
        FileSum,
        because_of (at_data h n records part) at FileSum
            (not_full A limit (length files) (at_data h n records part) b few
            ∙ ap (λ c. cond c (Some FileSum) (record_reason e part (n - taken - length part) b)) (eq-eqb n taken over)),
      )

      in_record : 0 < n - taken → FillFrom e (n - taken) part → (reason : Reason) × IsRefused A limit bytes b reason
      in_record some fill =
          let none : NoRecord e part = λ r rest fits is. omega (arith, some, no_record e (n - taken) part rest r at.next.3 fits is) in
          let (reason, is) = refused_bytes_have_reasons e (n - taken) part b (sixteen_places records) some part_are low none fill
          (λ more. ends (filled_viable limit files h n records part bytes (b ∷ []) at (one_byte bytes b are low) (omega (arith, few)) some more)) in (
            reason,
            because_of (at_data h n records part) at reason
                (not_full A limit (length files) (at_data h n records part) b few
                ∙ ap (λ c. cond c (Some FileSum) (record_reason e part (n - taken - length part) b)) (ne_eqb n taken (λ same. omega (arith, same, some))) ∙ is),
          )

  reason_of : (g : Progress A) → HasCome files g bytes → files_begun files g ≤ limit → GoesOn g → (reason : Reason) × IsRefused A limit bytes b reason
  reason_of (at_header front) at begun goes =
      let (reason, is) = either_reason (length files == limit) TooManyFiles (header_reason (length front)) in
      (reason, because_of (at_header front) at reason is)
  reason_of (at_data h n records part) at begun goes = by_room (n - length (records_bytes empty_environment records)) refl goes
    where
      by_room : (room : ℕ) → n - length (records_bytes empty_environment records) ≡ room → GoesOn (at_data h n records part)
          → (reason : Reason) × IsRefused A limit bytes b reason
      by_room zero over goes = in_sum h n records part at (omega (arith, begun)) (let within = at.next.2 in omega (arith, over, within))
      by_room (suc room) left goes =
          let some : 0 < n - length (records_bytes empty_environment records) = omega (arith, left) in
          in_record h n records part at (omega (arith, begun)) some
          (fill_of (learn_all empty_environment records) (n - length (records_bytes empty_environment records))
          (sum h n records part at (omega (arith, begun))) part some goes)

-- a byte with which no chain begins, after bytes with which one does, has a reason
pub has_reason : {A : Type 0} → RefusedHaveReasons A
has_reason limit bytes b most are low viable ends =
    let (files, g, at) = viable_somewhere limit bytes viable in
    let goes = viable_goes limit files g bytes at viable in
    reason_of limit files bytes b most are low viable ends g at goes.1 goes.2
