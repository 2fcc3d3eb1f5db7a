-- What isn't whole: bytes that no header, and no record, begins.
use Rattle.fit_chain.proofs.Common.{◌≡◌, ℕ, zero, suc, ◌<◌, List, [], ◌∷◌, ◌++◌, length, drop, sym, ap, ◌∙◌, arith, append_assoc, append-nil, take-append-drop}
use Rattle.fit_chain.proofs.Common.{Header, HeaderFits, header_bytes, IsFileHeader, IsWholeHeader, BeginsHeader, one_header, Environment, NoRecord, empty_back}
use Rattle.fit_chain.proofs.Common.{no_record_yet, at_header, IsPartial, IsUnfinished}
use Rattle.fit_chain.proofs.OnePlace.{no_header}

pub no_end : (a b : List ℕ) (c : ℕ) → a ++ c ∷ b ≡ [] → ⊥
no_end [] b c e = cc
no_end (x ∷ a) b c e = cc

-- ---- headers

-- no header begins the bytes
abbrev pub NoHeader : List ℕ → Type 0
NoHeader bytes = (h : Header) (n : ℕ) (rest : List ℕ) → HeaderFits h n → bytes ≡ header_bytes h n ++ rest → ⊥

pub unfinished : (A : Type 0) (front : List ℕ) → NoHeader front → IsUnfinished {A = A} (at_header front)
unfinished A front none h n k (fits, is) = none h n (drop k front) fits (sym (take-append-drop k front) ∙ ap (λ b. b ++ drop k front) is)

pub no_header_in : (A : Type 0) (front : List ℕ) → IsUnfinished {A = A} (at_header front) → NoHeader front
no_header_in A front u h n rest fits is = no_header A front h n rest u fits is

pub no_header_before : (a b : List ℕ) → NoHeader (a ++ b) → NoHeader a
no_header_before a b none h n rest fits is = none h n (rest ++ b) fits (ap (λ z. z ++ b) is ∙ append_assoc (header_bytes h n) rest b)

-- what begins a header and isn't one
pub begun_header : (bytes : List ℕ) → BeginsHeader bytes → (IsWholeHeader bytes → ⊥) → NoHeader bytes
begun_header bytes begins unended h n rest fits is =
    let whole = begins.whole.is.0 in
    let joined : header_bytes h n ++ (rest ++ begins.more) ≡ header_bytes begins.whole.header begins.whole.data_size ++ [] =
    sym (append_assoc (header_bytes h n) rest begins.more) ∙ ap (λ z. z ++ begins.more) (sym is) ∙ whole.1
    ∙ sym (append-nil (header_bytes begins.whole.header begins.whole.data_size)) in
    let one = one_header h begins.whole.header n begins.whole.data_size (rest ++ begins.more) [] fits whole.0 joined in
    let none = empty_back rest begins.more one.2 in
    let same : bytes ++ begins.more ≡ bytes = ap (λ z. bytes ++ z) none ∙ append-nil bytes in
    unended (record { header = begins.whole.header; data_size = begins.whole.data_size; is = ((whole.0, sym same ∙ whole.1), begins.whole.is.1) })

-- a whole header less some bytes
pub before_header : (a b : List ℕ) (h : Header) (n : ℕ) → IsFileHeader h n (a ++ b) → 0 < length b → NoHeader a
before_header a b h n whole some k m rest fits is =
    let joined : header_bytes k m ++ (rest ++ b) ≡ header_bytes h n ++ [] =
    sym (append_assoc (header_bytes k m) rest b) ∙ ap (λ z. z ++ b) (sym is) ∙ whole.0.1 ∙ sym (append-nil (header_bytes h n)) in
    let one = one_header k h m n (rest ++ b) [] fits whole.0.0 joined in
    omega (arith, some, ap length (empty_back rest b one.2))

-- ---- records

pub partial : {A : Type 0} (e : Environment A) (room : ℕ) (part : List ℕ) → 0 < room → NoRecord e part → IsPartial e room part
partial e zero part some none = absurd (omega arith)
partial e (suc room) part some none = λ r k is. none r (drop k part) is.0 (sym (take-append-drop k part) ∙ ap (λ b. b ++ drop k part) is.1)

pub partial_nothing : {A : Type 0} (e : Environment A) (room : ℕ) → IsPartial e room []
partial_nothing e zero = omega arith
partial_nothing e (suc room) = partial e (suc room) [] (omega arith) (no_record_yet e)
