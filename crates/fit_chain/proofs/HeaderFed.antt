-- What bytes of a header make of the place, of the events and of what can follow.
use Rattle.fit_chain.proofs.Common.{◌≡◌, cond, ℕ, zero, suc, ◌-◌, ◌<◌, ◌≤◌, List, [], ◌∷◌, ◌++◌, length, take, drop, slice_index, length-drop, refl, sym}
use Rattle.fit_chain.proofs.Common.{ap, ◌∙◌, subst, arith, append_assoc, Some, ne_eqb, eq-eqb, length-take-le, IsBytes, Header, Reason, TooManyFiles}
use Rattle.fit_chain.proofs.Common.{BeginsHeader, IsFileHeader, IsWholeHeader, RefusesByte, FitFile, chain_limit, IsViable, Progress, at_header, at_data}
use Rattle.fit_chain.proofs.Common.{HasCome, header, IsRefused, reason_at, reason_in_file, Quiet, Least}
use Rattle.fit_chain.proofs.ViableGoesOn.{begun_of_header, next_goes}
use Rattle.fit_chain.proofs.Completions.{goes_viable}
use Rattle.fit_chain.proofs.Whole.{NoHeader, no_header_before, begun_header, before_header}
use Rattle.fit_chain.proofs.Next.{more_header, whole_header, quiet, all_told, header_told}
use Rattle.fit_chain.proofs.Telling.{quiet_of, least_of, quiet_for}

-- a limit that isn't reached gives no reason
pub not_full : (A : Type 0) (limit files : ℕ) (g : Progress A) (b : ℕ) → files < limit → reason_at limit files g b ≡ reason_in_file g b
not_full A limit files g b few = ap (λ c. cond c (Some TooManyFiles) (reason_in_file g b)) (ne_eqb files limit (omega (arith, few)))

-- a front of a front
pub front_of : (y : List ℕ) (j k : ℕ) → j ≤ k → k ≤ length y → take k y ≡ take j y ++ take (k - j) (drop j y)
front_of y zero k less within = ap (λ n. take n y) (omega arith)
front_of [] (suc j) k less within = absurd (omega arith)
front_of (x ∷ y) (suc j) zero less within = absurd (omega arith)
front_of (x ∷ y) (suc j) (suc k) less within =
    ap (λ l. x ∷ l) (front_of y j k (omega (arith, less)) (omega (arith, within)) ∙ ap (λ n. take j y ++ take n (drop j y)) (omega arith))

module _ {A : Type 0} (files : List (FitFile A)) (front bytes piece : List ℕ) (come : HasCome files (at_header front) bytes) where
  pub header_fronts : (k : ℕ) → k ≤ length piece → NoHeader (front ++ take k piece) → (j : ℕ) → j ≤ k
      → HasCome files (at_header (front ++ take j piece)) (bytes ++ take j piece)
  header_fronts k within none j less =
      let parts : front ++ take k piece ≡ (front ++ take j piece) ++ take (k - j) (drop j piece) =
      ap (λ l. front ++ l) (front_of piece j k less within) ∙ sym (append_assoc front (take j piece) (take (k - j) (drop j piece))) in
      more_header files front bytes (take j piece) come (no_header_before (front ++ take j piece) (take (k - j) (drop j piece)) (subst NoHeader parts none))

  -- bytes with which the header isn't whole tell nothing
  pub header_quiet : (k : ℕ) → k ≤ length piece → NoHeader (front ++ take k piece) → Quiet A bytes piece k
  header_quiet k within none = quiet_of bytes piece k files (at_header front) come (λ events are j less.
      quiet files (at_header front) (at_header (front ++ take j piece)) bytes (bytes ++ take j piece) come (header_fronts k within none j less) refl events are)

  -- those with which it is whole tell it, and fewer nothing
  pub header_least : (k : ℕ) (h : Header) (n : ℕ) → k ≤ length piece → IsFileHeader h n (front ++ take k piece) → Least A bytes piece k (header h n)
  header_least k h n within whole = least_of bytes piece k files (at_header front) come (header h n) (λ events are. (
    all_told files files (at_header front) (at_data h n [] []) bytes (bytes ++ take k piece) (header h n ∷ []) come
        (whole_header files front bytes (take k piece) h n come whole) (header_told files front h n) events are,
    λ j less.
        let left : length (take (k - j) (drop j piece)) ≡ k - j = length-take-le (k - j) (drop j piece) (omega (arith, length-drop j piece, within)) in
        let parts : front ++ take k piece ≡ (front ++ take j piece) ++ take (k - j) (drop j piece) =
        ap (λ l. front ++ l) (front_of piece j k (omega (arith, less)) within) ∙ sym (append_assoc front (take j piece) (take (k - j) (drop j piece))) in
        let none : NoHeader (front ++ take j piece) =
        before_header (front ++ take j piece) (take (k - j) (drop j piece)) h n (subst (IsFileHeader h n) parts whole) (omega (arith, left, less)) in
        quiet_for bytes piece j (header_quiet j (omega (arith, less, within)) none) events are j (omega arith),
  ))

  -- a refused byte
  pub header_refuses : (k : ℕ) (reason : Reason) → k < length piece → length files < chain_limit → IsBytes (bytes ++ take k piece)
      → BeginsHeader (front ++ take k piece) × (IsWholeHeader (front ++ take k piece) → ⊥)
      → RefusesByte (front ++ take k piece) (slice_index piece k) reason → IsRefused A chain_limit (bytes ++ take k piece) (slice_index piece k) reason
  header_refuses k reason within few are begun refuses =
      let now = front ++ take k piece in
      let here = header_fronts k (omega (arith, within)) (begun_header now begun.0 begun.1) k (omega arith) in
      record {
        viable = goes_viable chain_limit files (at_header now) (bytes ++ take k piece) here are
            (omega (arith, few), omega (arith, few, begun_of_header files now), begun.0);
        refused = λ more. refuses.ends (next_goes chain_limit files (at_header now) (bytes ++ take k piece) (slice_index piece k) here more).2;
        files = files;
        progress = at_header now;
        come = here;
        because = not_full A chain_limit (length files) (at_header now) (slice_index piece k) few ∙ ap Some (sym refuses.why);
      }

  -- a byte after the last file that a chain may have
  pub full_refuses : (b : ℕ) → front ≡ [] → length files ≡ chain_limit → IsViable A chain_limit bytes → IsRefused A chain_limit bytes b TooManyFiles
  full_refuses b none full viable =
      let here : HasCome files (at_header []) bytes = subst (λ l. HasCome files (at_header l) bytes) none come in
      record {
        viable = viable;
        refused = λ more. let goes = next_goes chain_limit files (at_header []) bytes b here more in omega (arith, goes.1, full);
        files = files;
        progress = at_header [];
        come = here;
        because = ap (λ c. cond c (Some TooManyFiles) (reason_in_file {A = A} (at_header []) b)) (eq-eqb (length files) chain_limit full);
      }
