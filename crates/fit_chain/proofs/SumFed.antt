-- What bytes of a closing checksum make of the place, of the events and of what can follow.
use Rattle.fit_chain.proofs.Common.{◌≡◌, cond, ℕ, zero, suc, ◌+◌, ◌-◌, ◌<◌, ◌≤◌, List, [], ◌∷◌, ◌++◌, length, take, slice_index, length-append, refl, ap, ◌∙◌}
use Rattle.fit_chain.proofs.Common.{Some, eq-eqb, length-take-le, IsBytes, little_bytes, length-little_bytes, IsBytes-append, IsBytes-take, checksum, Header}
use Rattle.fit_chain.proofs.Common.{FileSum, header_bytes, FitFile, Record, Environment, empty_environment, learn_all, records_bytes, chain_limit, IsViable}
use Rattle.fit_chain.proofs.Common.{arith, record_reason, at_header, at_data, HasCome, file_end, DataGoesOn, ChainGoesOn, IsRefused, Quiet, Least}
use Rattle.fit_chain.proofs.ViableGoesOn.{next_goes, begins_nothing, no_room}
use Rattle.fit_chain.proofs.Completions.{goes_viable}
use Rattle.fit_chain.proofs.Next.{more_sum, whole_file, quiet, all_told, end_told}
use Rattle.fit_chain.proofs.HeaderFed.{not_full}
use Rattle.fit_chain.proofs.Telling.{quiet_of, least_of, quiet_for}

rest_of : {A : Type 0} (e : Environment A) (room : ℕ) (sum part : List ℕ) → room ≡ 0 → DataGoesOn e room sum part → (rest : List ℕ) × (sum ≡ part ++ rest)
rest_of e zero sum part over goes = goes
rest_of e (suc room) sum part over goes = absurd (omega arith)

module _ {A : Type 0} (files : List (FitFile A)) (h : Header) (n : ℕ) (records : List (Record A)) (part bytes piece : List ℕ)
    (here : HasCome files (at_data h n records part) bytes) (few : length files < chain_limit) (over : n - length (records_bytes empty_environment records) ≡ 0)
    (are : IsBytes bytes) (low : IsBytes piece) where
  abbrev summed : List ℕ
  summed = header_bytes h n ++ records_bytes empty_environment records

  abbrev sum : List ℕ
  sum = little_bytes 2 (checksum summed)

  abbrev e : Environment A
  e = learn_all empty_environment records

  -- how much longer a longer front of the piece makes it
  grown : (j k : ℕ) → j ≤ k → k ≤ length piece → length (part ++ take k piece) ≡ length (part ++ take j piece) + (k - j)
  grown j k less within = simp (length-append, length-take-le k piece within, length-take-le j piece (omega (arith, less, within))) (omega arith)

  pub sum_fronts : (k : ℕ) → k ≤ length piece → length (part ++ take k piece) < 2 → (j : ℕ) → j ≤ k
      → HasCome files (at_data h n records (part ++ take j piece)) (bytes ++ take j piece)
  sum_fronts k within short j less =
      more_sum files h n records part bytes (take j piece) here over
      (omega (arith, short, grown j k less within))

  pub sum_quiet : (k : ℕ) → k ≤ length piece → length (part ++ take k piece) < 2 → Quiet A bytes piece k
  sum_quiet k within short = quiet_of bytes piece k files (at_data h n records part) here (λ events are_told j less.
      quiet files (at_data h n records part) (at_data h n records (part ++ take j piece)) bytes (bytes ++ take j piece) here (sum_fronts k within short j less)
      refl events are_told)

  -- a part of the sum
  pub sum_viable : (k : ℕ) (rest : List ℕ) → k ≤ length piece → length (part ++ take k piece) < 2 → sum ≡ (part ++ take k piece) ++ rest
      → IsViable A chain_limit (bytes ++ take k piece)
  sum_viable k rest within short begins =
      goes_viable chain_limit files (at_data h n records (part ++ take k piece)) (bytes ++ take k piece) (sum_fronts k within short k (omega arith))
      (IsBytes-append bytes (take k piece) are (IsBytes-take k piece low))
      (omega (arith, few), omega (arith, few), no_room e (n - length (records_bytes empty_environment records)) sum (part ++ take k piece) rest over begins)

  -- all of it
  abbrev file : FitFile A
  file = record { header = h; records = records }

  pub file_come : (k : ℕ) → part ++ take k piece ≡ sum → HasCome (files ++ file ∷ []) (at_header []) (bytes ++ take k piece)
  file_come k whole = whole_file files h n records part bytes (take k piece) here over whole

  pub file_goes : ChainGoesOn chain_limit (files ++ file ∷ []) (at_header [])
  file_goes = (omega (arith, few), omega (arith, few, length-append files (file ∷ [])), begins_nothing)

  pub file_viable : (k : ℕ) → part ++ take k piece ≡ sum → IsViable A chain_limit (bytes ++ take k piece)
  file_viable k whole = goes_viable chain_limit (files ++ file ∷ []) (at_header []) (bytes ++ take k piece) (file_come k whole)
      (IsBytes-append bytes (take k piece) are (IsBytes-take k piece low)) file_goes

  pub file_least : (k : ℕ) → k ≤ length piece → part ++ take k piece ≡ sum → Least A bytes piece k file_end
  file_least k within whole = least_of bytes piece k files (at_data h n records part) here file_end (λ events are_told. (
    all_told files (files ++ file ∷ []) (at_data h n records part) (at_header []) bytes (bytes ++ take k piece) (file_end ∷ []) here (file_come k whole)
        (end_told files h n records part (omega (arith, over, here.next.2))) events are_told,
    λ j less.
        let two : length (part ++ take k piece) ≡ 2 = ap length whole ∙ length-little_bytes 2 (checksum summed) in
        let short : length (part ++ take j piece) < 2 = omega (arith, two, less, grown j k (omega (arith, less)) within) in
        quiet_for bytes piece j (sum_quiet j (omega (arith, less, within)) short) events are_told j (omega arith),
  ))

  -- a byte that differs
  pub sum_refuses : (k : ℕ) (rest : List ℕ) → k < length piece → length (part ++ take k piece) < 2 → sum ≡ (part ++ take k piece) ++ rest
      → ((more : List ℕ) → sum ≡ ((part ++ take k piece) ++ slice_index piece k ∷ []) ++ more → ⊥)
      → IsRefused A chain_limit (bytes ++ take k piece) (slice_index piece k) FileSum
  sum_refuses k rest within short begins differs =
      let at = sum_fronts k (omega (arith, within)) short k (omega arith) in
      let whole : n ≡ length (records_bytes empty_environment records) = let less = here.next.2 in omega (arith, over, less) in
      record {
        viable = sum_viable k rest (omega (arith, within)) short begins;
        refused = λ viable.
            let goes = rest_of e (n - length (records_bytes empty_environment records)) sum ((part ++ take k piece) ++ slice_index piece k ∷ []) over
            (next_goes chain_limit files (at_data h n records (part ++ take k piece)) (bytes ++ take k piece) (slice_index piece k) at viable).2 in
            differs goes.0 goes.1;
        files = files;
        progress = at_data h n records (part ++ take k piece);
        come = at;
        because = not_full A chain_limit (length files) (at_data h n records (part ++ take k piece)) (slice_index piece k) few
            ∙ ap (λ c. cond c (Some FileSum) (record_reason e (part ++ take k piece)
            (n - length (records_bytes empty_environment records) - length (part ++ take k piece)) (slice_index piece k)))
            (eq-eqb n (length (records_bytes empty_environment records)) whole);
      }
