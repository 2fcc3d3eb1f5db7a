-- Fronts of a piece, one byte more each.
use Rattle.fit_decode.proofs.Common.{◌≡◌, ℕ, ◌+◌, ◌<◌, List, [], ◌∷◌, ◌++◌, length, take, get_or, sym, ap, ◌∙◌, subst, arith, append_assoc, Some, None, Ok}
use Rattle.fit_decode.proofs.Common.{take_more, IsFileHeader, HeaderScanned}
use Rattle.fit_frame.specs.declared.header.Header.{Header}
use Rattle.fit_frame.specs.Beginning.{Seen}

-- one byte more of the piece
pub bytes_more : (front piece : List ℕ) (i : ℕ) → i < length piece → (front ++ take i piece) ++ get_or piece i 0 ∷ [] ≡ front ++ take (i + 1) piece
bytes_more front piece i within = append_assoc front (take i piece) (get_or piece i 0 ∷ []) ∙ ap (λ b. front ++ b) (sym (take_more piece i 0 within))

-- one byte more of a header
pub scanned_more : (front piece : List ℕ) (i : ℕ) (old new : Seen) → i < length piece → old ≡ record { bytes = front ++ take i piece; refusal = None }
    → new ≡ record { bytes = old.bytes ++ get_or piece i 0 ∷ []; refusal = None } → new ≡ record { bytes = front ++ take (i + 1) piece; refusal = None }
scanned_more front piece i old new within before after =
    after ∙ ap (λ (s : Seen). record { bytes = s.bytes ++ get_or piece i 0 ∷ []; refusal = None }) before
    ∙ ap (λ b. record { bytes = b; refusal = None }) (bytes_more front piece i within)

-- the byte with which a header is whole
pub header_scanned : (front piece : List ℕ) (i : ℕ) (old new : Seen) (whole : Header × ℕ) → i < length piece
    → old ≡ record { bytes = front ++ take i piece; refusal = None } → new ≡ record { bytes = old.bytes ++ get_or piece i 0 ∷ []; refusal = None }
    → IsFileHeader whole.0 whole.1 new.bytes → HeaderScanned front piece new (i + 1) (Ok (Some whole))
header_scanned front piece i old new whole within before after is =
    let seen = scanned_more front piece i old new within before after in
    (omega arith, omega (arith, within), seen, subst (IsFileHeader whole.0 whole.1) (ap (λ (s : Seen). s.bytes) seen) is)
