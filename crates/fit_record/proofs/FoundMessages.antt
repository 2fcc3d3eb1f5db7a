-- The data message that some bytes begin, where all of it stands there.
use Rattle.fit_record.proofs.Common.{◌≡◌, ℕ, zero, suc, ◌+◌, ◌≤◌, false, List, ◌∷◌, ◌++◌, length, take, drop, sym, ap, ◌∙◌, subst, arith, Some, Option}
use Rattle.fit_record.proofs.Common.{option_map}
use Rattle.fit_record.proofs.Common.{unwrap_or, IsSomeAnd, length-drop, length-take-le, length-append, take-append-drop, sum_by-append, Little, IsBytes}
use Rattle.fit_record.proofs.Common.{IsBytes-take}
use Rattle.fit_record.proofs.Common.{IsBytes-cons, IsBytes-tail, Defined, Data, Values, Environment, defined_at, is_definition, has_reserved_bit, local_type}
use Rattle.fit_record.proofs.Common.{time_offset, values_from, sizes, layout, dev_layout, message_size, data_header, data_bytes, DataFits, order_at, IsRecord}
use Rattle.fit_record.proofs.ReadMessages.{message_fits}
use Rattle.fit_record.proofs.RecordLengths.{length-data}
use Rattle.fit_record.proofs.OneRecord.{one_record}
use Rattle.fit_record.proofs.DataHeaders.{data_spelled, Messages, message_first}

-- after the bytes of the fields are those of the developer fields
pub left_for_dev : {A : Type 0} (p : Defined A) (bytes back : List ℕ) → length bytes ≡ message_size p → back ≡ drop (sizes (layout p)) bytes
    → length back ≡ sizes (dev_layout p)
left_for_dev p bytes back long is =
    omega (arith, ap length is ∙ length-drop (sizes (layout p)) bytes, long, sum_by-append (λ (f : ℕ × ℕ). f.1) (layout p) (dev_layout p))

-- the length that is kept is that of the definition's messages
pub same_size : {A : Type 0} (p : Defined A) (o : Option (Defined A)) (size : ℕ) → Some p ≡ o → Some size ≡ option_map message_size o → size ≡ message_size p
same_size p o size known is = let wrapped : Some size ≡ Some (message_size p) = is ∙ ap (option_map message_size) (sym known) in cc

-- the data message that a record header and the bytes after it are
abbrev pub data_read : {A : Type 0} → Defined A → ℕ → List ℕ → Values A
data_read p b body = values_from (local_type b) (time_offset b) p.definition.order p body

pub data_record : {A : Type 0} (e : Environment A) (p : Defined A) (b : ℕ) (body : List ℕ) → IsBytes (b ∷ body) → has_reserved_bit b ≡ false
    → is_definition b ≡ false → defined_at e (local_type b) ≡ Some p → length body ≡ message_size p → IsRecord e (Data (data_read p b body)) (b ∷ body)
data_record e p b body are clean kind known long =
    let v = data_read p b body in
    let header = data_spelled b (are zero) clean kind in
    let fits = message_fits v.local v.offset p.definition.order p body header.0 (IsBytes-tail b body are) long in
    let order : order_at e v.local ≡ p.definition.order = ap (λ o. unwrap_or (option_map (λ (q : Defined _). q.definition.order) o) Little) known in (
      subst (λ o. IsSomeAnd o (DataFits v)) (sym known) fits.0,
      (λ i. sym header.1 i ∷ sym fits.1 i) ∙ ap (λ o. data_header v.local v.offset ∷ data_bytes o v) (sym order),
    )

-- ---- where it is found

pub message_spelled : {A : Type 0} (e : Environment A) (p : Defined A) (b local size : ℕ) (offset : Option ℕ) (rest bytes body : List ℕ) → bytes ≡ b ∷ rest
    → IsBytes bytes → has_reserved_bit b ≡ false → is_definition b ≡ false → local ≡ local_type b → offset ≡ time_offset b → defined_at e local ≡ Some p
    → size ≡ message_size p → size ≤ length rest → body ≡ take size rest
    → IsRecord e (Data (values_from local offset p.definition.order p body)) (take (1 + length body) bytes)
message_spelled e p b local size offset rest bytes body begins are clean kind same timed known long within is =
    let all : IsBytes (b ∷ rest) = subst IsBytes begins are in
    let body_are : IsBytes body = subst IsBytes (sym is) (IsBytes-take size rest (IsBytes-tail b rest all)) in
    let wide : length body ≡ size = ap length is ∙ length-take-le size rest within in
    let next : suc (length body) ≡ 1 + length body = omega arith in
    let front : b ∷ body ≡ take (1 + length body) bytes =
    (λ i. b ∷ (is ∙ ap (λ k. take k rest) (sym wide)) i) ∙ ap (λ k. take k (b ∷ rest)) next ∙ ap (take (1 + length body)) (sym begins) in
    subst (λ l. IsRecord e (Data (values_from local offset p.definition.order p body)) l) front
    (subst (λ v. IsRecord e (Data v) (b ∷ body)) (λ i. values_from (sym same i) (sym timed i) p.definition.order p body)
    (data_record e p b body (IsBytes-cons b body (all zero) body_are) clean kind (ap (defined_at e) (sym same) ∙ known) (wide ∙ long)))

-- no other message begins the bytes
pub only_message : {A : Type 0} (e : Environment A) (w v : Values A) (n : ℕ) (bytes front rest : List ℕ) → IsRecord e (Data w) (take n bytes)
    → n ≤ length bytes → bytes ≡ front ++ rest → IsRecord e (Data v) front → (w ≡ v) × (n ≡ length front)
only_message e w v n bytes front rest spelled within at is =
    let same = one_record e (Data w) (Data v) (take n bytes) front (drop n bytes) rest spelled is (take-append-drop n bytes ∙ at) in
    let one : Data w ≡ Data v = same.0 in
    (cc one, sym (length-take-le n bytes within) ∙ ap length same.1)

-- ---- where none is found

-- what the bytes of a data message and some more say of their first byte
pub first_of : {A : Type 0} (e : Environment A) (v : Values A) (b : ℕ) (tail bytes front rest : List ℕ) → bytes ≡ b ∷ tail → bytes ≡ front ++ rest
    → IsRecord e (Data v) front → (m : Messages e b (data_bytes (order_at e v.local) v) v) × (message_size m.place ≤ length tail)
first_of e v b tail bytes front rest begins at is =
    let all : (data_header v.local v.offset ∷ data_bytes (order_at e v.local) v) ++ rest ≡ b ∷ tail = ap (λ l. l ++ rest) (sym is.1) ∙ sym at ∙ begins in
    let first : data_header v.local v.offset ≡ b = cc in
    let others : data_bytes (order_at e v.local) v ++ rest ≡ tail = cc in
    let m = message_first e v b (data_bytes (order_at e v.local) v) is.0 (λ i. first i ∷ data_bytes (order_at e v.local) v) in
    (m, omega (arith, ap length others, length-append (data_bytes (order_at e v.local) v) rest, length-data (order_at e v.local) v m.place m.fits))
