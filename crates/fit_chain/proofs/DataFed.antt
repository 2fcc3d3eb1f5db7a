-- What bytes of records make of the place, of the events and of what can follow.
use Rattle.fit_chain.proofs.Common.{◌≡◌, cond, inl, inr, ℕ, zero, suc, ◌+◌, ◌-◌, ◌<◌, ◌≤◌, List, [], ◌∷◌, ◌++◌, length, take, drop, slice_index, length-drop}
use Rattle.fit_chain.proofs.Common.{refl, sym, ap, ◌∙◌, subst, arith, append_assoc, Some, ne_eqb, length-take-le, take_more, IsBytes, little_bytes}
use Rattle.fit_chain.proofs.Common.{IsBytes-append, IsBytes-take, checksum, Reason, FileSum, Header, header_bytes, FitFile, Record, Environment}
use Rattle.fit_chain.proofs.Common.{empty_environment, learn_all, IsRecord, record_bytes, records_bytes, chain_limit, IsViable, record_reason, at_data, HasCome}
use Rattle.fit_chain.proofs.Common.{DataGoesOn, IsRefused, Quiet, Least, MayTakeMemory, NoRecord, FillFrom, no_record_before, before_record}
use Rattle.fit_record.specs.Sizes.{HeadsEmptyMessage}
use Rattle.fit_chain.specs.Events.{item}
use Rattle.fit_chain.proofs.ViableGoesOn.{next_goes}
use Rattle.fit_chain.proofs.Completions.{filled_viable}
use Rattle.fit_chain.proofs.Next.{more_record, whole_record, room_after, quiet, all_told, items_told}
use Rattle.fit_chain.proofs.HeaderFed.{front_of, not_full}
use Rattle.fit_chain.proofs.Telling.{quiet_of, least_of, quiet_for}

-- where records begin, or the data section is over
pub data_starts : {A : Type 0} (e : Environment A) (room : ℕ) (sum : List ℕ) → FillFrom e room [] → DataGoesOn e room sum []
data_starts e zero sum fill = (sum, refl)
data_starts e (suc room) sum fill = fill

pub fill_of : {A : Type 0} (e : Environment A) (room : ℕ) (sum part : List ℕ) → 0 < room → DataGoesOn e room sum part → FillFrom e room part
fill_of e zero sum part some goes = absurd (omega arith)
fill_of e (suc room) sum part some goes = goes

-- Bytes that end in a data section that isn't over.
pub record InRecords (A : Type 0) (bytes : List ℕ) : Type 0 where
  pub files : List (FitFile A)
  pub header : Header
  pub size : ℕ
  pub records : List (Record A)
  pub part : List ℕ
  pub come : HasCome files (at_data header size records part) bytes
  pub few : length files < chain_limit
  pub some : 0 < size - length (records_bytes empty_environment records)

module _ {A : Type 0} (bytes piece : List ℕ) (k : InRecords A bytes) (are : IsBytes bytes) (low : IsBytes piece) where
  abbrev e : Environment A
  e = learn_all empty_environment k.records

  abbrev room : ℕ
  room = k.size - length (records_bytes empty_environment k.records)

  abbrev sum : List ℕ
  sum = little_bytes 2 (checksum (header_bytes k.header k.size ++ records_bytes empty_environment k.records))

  fed_are : (m : ℕ) → IsBytes (bytes ++ take m piece)
  fed_are m = IsBytes-append bytes (take m piece) are (IsBytes-take m piece low)

  pub data_viable : (m : ℕ) → FillFrom e room (k.part ++ take m piece) → IsViable A chain_limit (bytes ++ take m piece)
  data_viable m fill =
      filled_viable chain_limit k.files k.header k.size k.records k.part bytes (take m piece) k.come (fed_are m) (omega (arith, k.few)) k.some fill

  data_fronts : (m : ℕ) → m ≤ length piece → NoRecord e (k.part ++ take m piece) → (j : ℕ) → j ≤ m
      → HasCome k.files (at_data k.header k.size k.records (k.part ++ take j piece)) (bytes ++ take j piece)
  data_fronts m within none j less =
      let parts : k.part ++ take m piece ≡ (k.part ++ take j piece) ++ take (m - j) (drop j piece) =
      ap (λ l. k.part ++ l) (front_of piece j m less within) ∙ sym (append_assoc k.part (take j piece) (take (m - j) (drop j piece))) in
      more_record k.files k.header k.size k.records k.part bytes (take j piece) k.come k.some
      (no_record_before e (k.part ++ take j piece) (take (m - j) (drop j piece)) (subst (NoRecord e) parts none))

  -- bytes with which the record isn't whole tell nothing
  pub data_quiet : (m : ℕ) → m ≤ length piece → NoRecord e (k.part ++ take m piece) → Quiet A bytes piece m
  data_quiet m within none = quiet_of bytes piece m k.files (at_data k.header k.size k.records k.part) k.come (λ events told_ j less.
      quiet k.files (at_data k.header k.size k.records k.part) (at_data k.header k.size k.records (k.part ++ take j piece)) bytes (bytes ++ take j piece) k.come
      (data_fronts m within none j less) refl events told_)

  pub data_come : (m : ℕ) → m ≤ length piece → NoRecord e (k.part ++ take m piece)
      → HasCome k.files (at_data k.header k.size k.records (k.part ++ take m piece)) (bytes ++ take m piece)
  data_come m within none = data_fronts m within none m (omega arith)

  -- ---- a whole record

  module _ (m : ℕ) (r : Record A) (within : m ≤ length piece) (is : IsRecord e r (k.part ++ take m piece)) (fits_room : length (k.part ++ take m piece) ≤ room)
    where
      record_fits_room : length (record_bytes e r) ≤ room
      record_fits_room = omega (arith, fits_room, ap length is.1)

      -- after it the next record begins, or the data section is over
      pub left_after : room - length (k.part ++ take m piece) ≡ k.size - length (records_bytes empty_environment (k.records ++ r ∷ []))
      left_after = ap (λ l. room - length l) is.1 ∙ sym (room_after k.files k.header k.size k.records k.part bytes (take m piece) k.come r record_fits_room)

      pub item_come : HasCome k.files (at_data k.header k.size (k.records ++ r ∷ []) []) (bytes ++ take m piece)
      item_come = whole_record k.files k.header k.size k.records k.part bytes (take m piece) k.come r is.0 (sym is.1) record_fits_room

      pub item_least : Least A bytes piece m (item r)
      item_least = least_of bytes piece m k.files (at_data k.header k.size k.records k.part) k.come (item r) (λ events are_told. (
        all_told k.files k.files (at_data k.header k.size k.records k.part) (at_data k.header k.size (k.records ++ r ∷ []) []) bytes (bytes ++ take m piece)
            (item r ∷ []) k.come item_come (items_told k.files k.header k.size k.records (r ∷ []) k.part []) events are_told,
        λ j less.
            let left : length (take (m - j) (drop j piece)) ≡ m - j = length-take-le (m - j) (drop j piece) (omega (arith, length-drop j piece, within)) in
            let parts : k.part ++ take m piece ≡ (k.part ++ take j piece) ++ take (m - j) (drop j piece) =
            ap (λ l. k.part ++ l) (front_of piece j m (omega (arith, less)) within) ∙ sym (append_assoc k.part (take j piece) (take (m - j) (drop j piece))) in
            let none : NoRecord e (k.part ++ take j piece) =
            before_record e (k.part ++ take j piece) (take (m - j) (drop j piece)) r is.0 (sym is.1 ∙ parts) (omega (arith, left, less)) in
            quiet_for bytes piece j (data_quiet j (omega (arith, less, within)) none) events are_told j (omega arith),
      ))

  -- ---- a byte that isn't taken

  pub data_refuses : (m : ℕ) (reason : Reason) → m < length piece → NoRecord e (k.part ++ take m piece) → FillFrom e room (k.part ++ take m piece)
      → record_reason e (k.part ++ take m piece) (room - length (k.part ++ take m piece)) (slice_index piece m) ≡ Some reason
      → (FillFrom e room ((k.part ++ take m piece) ++ slice_index piece m ∷ []) → ⊥)
      → IsRefused A chain_limit (bytes ++ take m piece) (slice_index piece m) reason
  data_refuses m reason within none fill because ends =
      let b = slice_index piece m in
      let now = k.part ++ take m piece in
      let at = data_come m (omega (arith, within)) none in
      let other : (length (records_bytes empty_environment k.records) ≡ k.size → ⊥) = λ same. omega (arith, same, k.some) in
      record {
        viable = data_viable m fill;
        refused = λ viable. ends (fill_of e room sum (now ++ b ∷ []) k.some
            (next_goes chain_limit k.files (at_data k.header k.size k.records now) (bytes ++ take m piece) b at viable).2);
        files = k.files;
        progress = at_data k.header k.size k.records now;
        come = at;
        because = not_full A chain_limit (length k.files) (at_data k.header k.size k.records now) b k.few
            ∙ ap (λ c. cond c (Some FileSum) (record_reason e now (room - length now) b))
            (ne_eqb k.size (length (records_bytes empty_environment k.records)) (λ same. other (sym same))) ∙ because;
      }

  pub data_wants : (m : ℕ) → m < length piece → FillFrom e room ((k.part ++ take m piece) ++ slice_index piece m ∷ [])
      → IsViable A chain_limit (bytes ++ take (m + 1) piece)
  data_wants m within fill =
      let one : (k.part ++ take m piece) ++ slice_index piece m ∷ [] ≡ k.part ++ take (m + 1) piece =
      append_assoc k.part (take m piece) (slice_index piece m ∷ []) ∙ ap (λ l. k.part ++ l) (sym (take_more piece m 0 within)) in
      data_viable (m + 1) (subst (FillFrom e room) one fill)

  -- where memory was wanted, the byte isn't one that takes none
  pub data_takes : (m : ℕ) → m ≤ length piece → NoRecord e (k.part ++ take m piece)
      → (k.part ++ take m piece ≡ [] → HeadsEmptyMessage e (slice_index piece m) → ⊥)
      → MayTakeMemory A (bytes ++ take m piece) (slice_index piece m)
  data_takes m within none heads = record {
    files = k.files;
    progress = at_data k.header k.size k.records (k.part ++ take m piece);
    come = data_come m within none;
    takes = λ free. elim free [ inl over ↦ absurd (omega (arith, over, k.some)) | inr empty ↦ heads empty.0 empty.1 ];
  }
