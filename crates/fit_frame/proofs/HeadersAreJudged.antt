-- The bytes of a header of a file are judged well, each after those before it.
use Rattle.fit_frame.proofs.Common.{◌≡◌, ℕ, zero, suc, ◌/◌, ◌%◌, ◌^◌, ◌<◌, ◌≤◌, ◌⊎◌, inl, inr, List, [], ◌∷◌, ◌++◌, length, take, slice_index, length-append}
use Rattle.fit_frame.proofs.Common.{refl, sym, ap, ◌∙◌, subst, arith, append_assoc, length-take-le, take-append-le, get_or_append_left, checksum}
use Rattle.fit_frame.proofs.Common.{checksum-below, Header, HeaderSum, Absent, Zero, True, fixed_part, sum_part, header_bytes, SizeFits, HeaderFits, IsDataSize}
use Rattle.fit_frame.proofs.Common.{IsWholeHeader, BeginsHeader, two_bytes, four_bytes, MayFollow, AreJudged, HasItsSize}
use Rattle.std.proofs.Math.Seq.{get_or-append_seam, take-append_seam}
use Rattle.std.proofs.Math.Nat.{eq-or-lt_of_le}
use Rattle.fit_frame.proofs.OneHeader.{length-header_bytes}

-- what is said of the first byte, by the word
size_said : (w : HeaderSum) (size : ℕ) (rest : List ℕ) → SizeFits w size rest → (size ≡ 12) ⊎ (14 ≤ size)
size_said Absent size rest fits = inl fits.0
size_said Zero size rest fits = inr (omega arith)
size_said True size rest fits = inr (omega arith)

two_again : (n : ℕ) → n < 2 ^ 16 → two_bytes (n % 256) (n / 256 % 256) ≡ n
two_again n small = omega arith

four_again : (n : ℕ) → n < 2 ^ 32 → four_bytes (n % 256) (n / 256 % 256) (n / 256 / 256 % 256) (n / 256 / 256 / 256 % 256) ≡ n
four_again n small = omega arith

module _ (h : Header) (n : ℕ) where
  abbrev bytes_of : HeaderSum → List ℕ
  bytes_of w = fixed_part h n ++ sum_part w (fixed_part h n) ++ h.rest.items

  -- what is said of the two bytes after the fixed part
  low_said : (w : HeaderSum) → SizeFits w h.size h.rest.items → 12 < length (bytes_of w)
      → (slice_index (bytes_of w) 12 ≡ 0) ⊎ (slice_index (bytes_of w) 12 ≡ checksum (take 12 (bytes_of w)) % 256)
  low_said Absent fits more = absurd (omega (arith, ap length fits.1))
  low_said Zero fits more = inl refl
  low_said True fits more = inr refl

  high_said : (w : HeaderSum) → SizeFits w h.size h.rest.items → 13 < length (bytes_of w)
      → ((slice_index (take 13 (bytes_of w)) 12 ≡ 0) × (slice_index (bytes_of w) 13 ≡ 0))
      ⊎ (two_bytes (slice_index (take 13 (bytes_of w)) 12) (slice_index (bytes_of w) 13) ≡ checksum (take 12 (take 13 (bytes_of w))))
  high_said Absent fits more = absurd (omega (arith, ap length fits.1))
  high_said Zero fits more = inl (refl, refl)
  high_said True fits more = inr (two_again (checksum (fixed_part h n)) (checksum-below (fixed_part h n)))

-- seven more, by constructors
abbrev pub seven : ℕ → ℕ
seven n = suc (suc (suc (suc (suc (suc (suc n))))))

-- what is asked of a byte after seven more than n others, and after n others
abbrev pub AskedLate : ℕ → List ℕ → ℕ → Type 0
AskedLate zero bytes b = IsDataSize (four_bytes (slice_index bytes 4) (slice_index bytes 5) (slice_index bytes 6) b)
AskedLate (suc zero) bytes b = b ≡ 0x2E
AskedLate (suc (suc zero)) bytes b = b ≡ 0x46
AskedLate (suc (suc (suc zero))) bytes b = b ≡ 0x49
AskedLate (suc (suc (suc (suc zero)))) bytes b = b ≡ 0x54
AskedLate (suc (suc (suc (suc (suc zero))))) bytes b = (b ≡ 0) ⊎ (b ≡ checksum bytes % 256)
AskedLate (suc (suc (suc (suc (suc (suc zero)))))) bytes b =
    ((slice_index bytes 12 ≡ 0) × (b ≡ 0)) ⊎ (two_bytes (slice_index bytes 12) b ≡ checksum (take 12 bytes))
AskedLate n bytes b = Unit {0}

abbrev pub Asked : ℕ → List ℕ → ℕ → Type 0
Asked zero bytes b = (b ≡ 12) ⊎ (14 ≤ b)
Asked (suc zero) bytes b = b / 16 ≤ 2
Asked (suc (suc (suc (suc (suc (suc (suc n))))))) bytes b = AskedLate n bytes b
Asked n bytes b = Unit {0}

pub asked : (n : ℕ) (bytes : List ℕ) (b : ℕ) → length bytes ≡ n → Asked n bytes b → MayFollow bytes b
asked n bytes b is what = record {
  size = λ e. at 0 e;
  version = λ e. at 1 e;
  data_size = λ e. at 7 e;
  letter_8 = λ e. at 8 e;
  letter_9 = λ e. at 9 e;
  letter_10 = λ e. at 10 e;
  letter_11 = λ e. at 11 e;
  low = λ e. at 12 e;
  high = λ e. at 13 e;
}
  where
    at : (k : ℕ) → length bytes ≡ k → Asked k bytes b
    at k e = subst (λ i. Asked i bytes b) (sym is ∙ e) what

judged_header : (h : Header) (n : ℕ) → HeaderFits h n → IsDataSize n → AreJudged (header_bytes h n)
judged_header h n fits data_size k within = asked k _ _ (length-take-le k (header_bytes h n) (omega arith)) (go k within)
  where
    late : (k : ℕ) → seven k < length (header_bytes h n) → AskedLate k (take (seven k) (header_bytes h n)) (slice_index (header_bytes h n) (seven k))
    late zero within = subst IsDataSize (sym (four_again n fits.data_fits)) data_size
    late (suc zero) within = refl
    late (suc (suc zero)) within = refl
    late (suc (suc (suc zero))) within = refl
    late (suc (suc (suc (suc zero)))) within = refl
    late (suc (suc (suc (suc (suc zero))))) within = low_said h n h.sum fits.form.size within
    late (suc (suc (suc (suc (suc (suc zero)))))) within = high_said h n h.sum fits.form.size within
    late k within = tt

    go : (k : ℕ) → k < length (header_bytes h n) → Asked k (take k (header_bytes h n)) (slice_index (header_bytes h n) k)
    go zero within = size_said h.sum h.size h.rest.items fits.form.size
    go (suc zero) within = fits.form.version
    go (suc (suc (suc (suc (suc (suc (suc k))))))) within = late k within
    go k within = tt

pub judged : (bytes : List ℕ) → IsWholeHeader bytes → AreJudged bytes
judged bytes whole = subst AreJudged (sym whole.is.0.1) (judged_header whole.header whole.data_size whole.is.0.0 whole.is.1)

pub has_its_size : (bytes : List ℕ) → IsWholeHeader bytes → HasItsSize bytes
has_its_size bytes whole =
    let h = whole.header in
    let n = whole.data_size in
    let size = length-header_bytes h n whole.is.0.0.form in
    subst HasItsSize (sym whole.is.0.1) (omega arith, size)

-- a byte after which a header goes on may follow
pub may_follow : (bytes : List ℕ) (b : ℕ) → BeginsHeader (bytes ++ b ∷ []) → MayFollow bytes b
may_follow bytes b begins =
    let all : List ℕ = bytes ++ b ∷ begins.more in
    let regrouped : (bytes ++ b ∷ []) ++ begins.more ≡ all = append_assoc bytes (b ∷ []) begins.more in
    let within : length bytes < length all = omega (arith, length-append bytes (b ∷ begins.more)) in
    let at = judged all (subst IsWholeHeader regrouped begins.whole) (length bytes) within in
    subst (λ x. MayFollow x b) (take-append_seam bytes (b ∷ begins.more))
    (subst (λ x. MayFollow (take (length bytes) all) x) (get_or-append_seam bytes b begins.more 0) at)

-- bytes that are judged, and one that may follow them
pub judged_more : (bytes : List ℕ) (b : ℕ) → AreJudged bytes → MayFollow bytes b → AreJudged (bytes ++ b ∷ [])
judged_more bytes b before follows k within = let upto : k ≤ length bytes = omega (arith, length-append bytes (b ∷ [])) in
    elim (eq-or-lt_of_le upto) [
      | inl is ↦
          let front : take k (bytes ++ b ∷ []) ≡ bytes = ap (λ i. take i (bytes ++ b ∷ [])) is ∙ take-append_seam bytes (b ∷ []) in
          let last : slice_index (bytes ++ b ∷ []) k ≡ b = ap (slice_index (bytes ++ b ∷ [])) is ∙ get_or-append_seam bytes b [] 0 in
          subst (λ x. MayFollow x (slice_index (bytes ++ b ∷ []) k)) (sym front) (subst (MayFollow bytes) (sym last) follows)
      | inr less ↦
          let front : take k (bytes ++ b ∷ []) ≡ take k bytes = take-append-le k bytes (b ∷ []) (omega arith) in
          let same : slice_index (bytes ++ b ∷ []) k ≡ slice_index bytes k = get_or_append_left bytes (b ∷ []) 0 k less in
          subst (λ x. MayFollow x (slice_index (bytes ++ b ∷ []) k)) (sym front) (subst (MayFollow (take k bytes)) (sym same) (before k less))
    ]
