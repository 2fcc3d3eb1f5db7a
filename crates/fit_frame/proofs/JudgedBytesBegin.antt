-- Bytes that a reader has judged go on to a header of a file, one byte after another.
use Rattle.fit_frame.proofs.Common.{◌≡◌, ◌≢◌, ℕ, zero, suc, ◌+◌, ◌-◌, ◌/◌, ◌%◌, ◌^◌, ◌<◌, ◌≤◌, ◌⊎◌, inl, inr, List, [], ◌∷◌, ◌++◌, length, slice_index, take}
use Rattle.fit_frame.proofs.Common.{length-append, refl, sym, subst, arith, append_assoc, lit<, lit≤, get_or_append_left, append-nil, length-take-le, IsBytes}
use Rattle.fit_frame.proofs.Common.{checksum, checksum-below, IsWholeHeader, BeginsHeader, RefusesByte, header_reason, two_bytes, MayFollow, AreJudged}
use Rattle.fit_frame.proofs.Common.{HasItsSize, IsReading}
use Rattle.fit_frame.proofs.JudgedBytesAreHeaders.{is_whole}
use Rattle.fit_frame.proofs.HeadersAreJudged.{Asked, AskedLate, asked, seven, may_follow, judged_more}

-- the byte that completes a sum whose first byte is judged
closing_byte : (a sum : ℕ) → sum < 2 ^ 16 → (a ≡ 0) ⊎ (a ≡ sum % 256) → (b : ℕ) × (b < 256) × (((a ≡ 0) × (b ≡ 0)) ⊎ (two_bytes a b ≡ sum))
closing_byte a sum small (inl zero_first) = (0, lit< tt, inl (zero_first, refl))
closing_byte a sum small (inr low) = (sum / 256, omega arith, inr (omega arith))

-- there is a byte that may follow
next : (bytes : List ℕ) → AreJudged bytes → (b : ℕ) × (b < 256) × MayFollow bytes b
next bytes judged = let (b, small, what) = go (length bytes) refl in (b, small, asked (length bytes) bytes b refl what)
  where
    late : (n : ℕ) → length bytes ≡ seven n → (b : ℕ) × (b < 256) × AskedLate n bytes b
    late zero is = (1, lit< tt, inr (omega arith))
    late (suc zero) is = (0x2E, lit< tt, refl)
    late (suc (suc zero)) is = (0x46, lit< tt, refl)
    late (suc (suc (suc zero))) is = (0x49, lit< tt, refl)
    late (suc (suc (suc (suc zero)))) is = (0x54, lit< tt, refl)
    late (suc (suc (suc (suc (suc zero))))) is = (checksum bytes % 256, omega arith, inr refl)
    late (suc (suc (suc (suc (suc (suc zero)))))) is =
        let low = (judged 12 (omega arith)).low (length-take-le 12 bytes (omega arith)) in
        closing_byte (slice_index bytes 12) (checksum (take 12 bytes)) (checksum-below (take 12 bytes)) low
    late n is = (0, lit< tt, tt)

    go : (n : ℕ) → length bytes ≡ n → (b : ℕ) × (b < 256) × Asked n bytes b
    go zero is = (14, lit< tt, inr (lit≤ tt))
    go (suc zero) is = (0, lit< tt, lit≤ tt)
    go (suc (suc (suc (suc (suc (suc (suc n))))))) is = late n is
    go n is = (0, lit< tt, tt)

AreBytes-push : (bytes : List ℕ) (b : ℕ) → IsBytes bytes → b < 256 → IsBytes (bytes ++ b ∷ [])
AreBytes-push [] b are small zero = small
AreBytes-push [] b are small (suc i) = lit< tt
AreBytes-push (x ∷ bytes) b are small zero = are 0
AreBytes-push (x ∷ bytes) b are small (suc i) = AreBytes-push bytes b (λ k. are (suc k)) small i

AreBytes-cons : (b : ℕ) (bytes : List ℕ) → b < 256 → IsBytes bytes → IsBytes (b ∷ bytes)
AreBytes-cons b bytes small are zero = small
AreBytes-cons b bytes small are (suc i) = are i

no_bytes : IsBytes []
no_bytes i = lit< tt

-- a header that goes on after one byte more begins before it
begins_before : (bytes : List ℕ) (b : ℕ) → b < 256 → BeginsHeader (bytes ++ b ∷ []) → BeginsHeader bytes
begins_before bytes b small begins = record {
  more = b ∷ begins.more;
  are_bytes = AreBytes-cons b begins.more small begins.are_bytes;
  whole = subst IsWholeHeader (append_assoc bytes (b ∷ []) begins.more) begins.whole;
}

first_stays : (bytes : List ℕ) (b : ℕ) → 0 < length bytes → slice_index (bytes ++ b ∷ []) 0 ≡ slice_index bytes 0
first_stays bytes b some = get_or_append_left bytes (b ∷ []) 0 0 some

-- with that many bytes more there are as many as the first one says
completed : (missing : ℕ) (bytes : List ℕ) → AreJudged bytes → IsBytes bytes → 0 < length bytes → length bytes + missing ≡ slice_index bytes 0
    → BeginsHeader bytes
completed zero bytes judged are some size = record {
  more = [];
  are_bytes = no_bytes;
  whole = subst IsWholeHeader (sym (append-nil bytes)) (is_whole bytes judged are (some, omega arith));
}
completed (suc missing) bytes judged are some size =
    let step = next bytes judged in
    let longer = length-append bytes (step.0 ∷ []) in
    begins_before bytes step.0 step.1
    (completed missing (bytes ++ step.0 ∷ []) (judged_more bytes step.0 judged step.2) (AreBytes-push bytes step.0 are step.1) (omega (arith, longer))
    (omega (arith, longer, first_stays bytes step.0 some, size)))

no_byte_judged : AreJudged []
no_byte_judged k within = absurd (omega arith)

-- what a reader has put by begins a header
pub begins : (bytes : List ℕ) → IsReading bytes → BeginsHeader bytes
begins [] reading = begins_before [] 14 (lit< tt)
    (completed 13 (14 ∷ []) (judged_more [] 14 no_byte_judged (asked 0 [] 14 refl (inr (lit≤ tt)))) (AreBytes-push [] 14 no_bytes (lit< tt)) (lit< tt) refl)
begins (s ∷ bytes) reading =
    let within : length (s ∷ bytes) ≤ s = reading.within (omega arith) in
    completed (s - length (s ∷ bytes)) (s ∷ bytes) reading.judged reading.are_bytes (omega arith) (omega arith)

-- a reader that has put nothing by
pub no_byte : IsReading []
no_byte = record { judged = no_byte_judged; are_bytes = no_bytes; within = λ e. absurd (omega arith) }

-- and one that goes on, while the header isn't whole
one_more : (bytes : List ℕ) (b : ℕ) → IsReading bytes → (IsWholeHeader bytes → ⊥) → b < 256 → MayFollow bytes b → IsReading (bytes ++ b ∷ [])
one_more bytes b reading fresh small follows = record {
  judged = judged_more bytes b reading.judged follows;
  are_bytes = AreBytes-push bytes b reading.are_bytes small;
  within = λ some. within_more bytes b reading fresh follows;
}
  where
    within_more : (bytes : List ℕ) (b : ℕ) → IsReading bytes → (IsWholeHeader bytes → ⊥) → MayFollow bytes b
        → length (bytes ++ b ∷ []) ≤ slice_index (bytes ++ b ∷ []) 0
    within_more [] b reading fresh follows = elim (follows.size refl) [ inl e ↦ omega (arith, e) | inr e ↦ omega (arith, e) ]
    within_more (s ∷ bytes) b reading fresh follows =
        let within : length (s ∷ bytes) ≤ s = reading.within (omega arith) in
        let other : length (s ∷ bytes) ≢ s = λ e. fresh (is_whole (s ∷ bytes) reading.judged reading.are_bytes (omega arith, e)) in
        omega (arith, length-append bytes (b ∷ []), other)

-- the header is whole exactly where there are as many bytes as the first one says
pub is_done : (bytes : List ℕ) → IsReading bytes → HasItsSize bytes → IsWholeHeader bytes
is_done bytes reading size = is_whole bytes reading.judged reading.are_bytes size

-- bytes put on those of a reader, seen in other words
pub put-on : (bytes shown items : List ℕ) (b : ℕ) → IsReading bytes → (IsWholeHeader bytes → ⊥) → b < 256 → shown ≡ bytes → MayFollow shown b
    → items ≡ bytes ++ b ∷ [] → IsReading items
put-on bytes shown items b reading fresh small same follows is = rw is (one_more bytes b reading fresh small (subst (λ x. MayFollow x b) same follows))

-- there is room for one byte more
pub room : (bytes : List ℕ) → IsReading bytes → (IsWholeHeader bytes → ⊥) → length bytes < 255
room [] reading fresh = lit< tt
room (s ∷ bytes) reading fresh =
    let within : length (s ∷ bytes) ≤ s = reading.within (omega arith) in
    let other : length (s ∷ bytes) ≢ s = λ e. fresh (is_whole (s ∷ bytes) reading.judged reading.are_bytes (omega arith, e)) in
    omega (arith, reading.are_bytes 0, other)

-- a byte that may not follow is refused
pub refused : (bytes : List ℕ) (b : ℕ) → IsReading bytes → (MayFollow bytes b → ⊥) → RefusesByte bytes b (header_reason (length bytes))
refused bytes b reading fails = record { begins = begins bytes reading; ends = λ more. fails (may_follow bytes b more); why = refl }
