-- A header and its bytes determine each other, and no header's bytes begin those of another.
use Rattle.fit_frame.proofs.Common.{◌≡◌, ◌≤◌, ◌⊎◌, inl, inr, ℕ, ◌/◌, ◌%◌, ◌<◌, List, [], ◌∷◌, ◌++◌, length, append_assoc, refl, sym, ap, ◌∙◌, subst, arith}
use Rattle.fit_frame.proofs.Common.{append-nil, checksum, checksum-below, Header, HeaderSum, Absent, Zero, True, fixed_part, sum_part, header_bytes, SizeFits}
use Rattle.fit_frame.proofs.Common.{FormFits, HeaderFits, HeadersHaveOneSpelling, HeadersHaveTheirSize, HeadersEndOnce}
use Rattle.fit_base.proofs.Bytes.{front_back}

two_bytes : (m n : ℕ) → m < 65536 → n < 65536 → m % 256 ≡ n % 256 → m / 256 % 256 ≡ n / 256 % 256 → m ≡ n
two_bytes m n p q a b = omega arith

four_bytes : (m n : ℕ) → m < 4294967296 → n < 4294967296 → m % 256 ≡ n % 256 → m / 256 % 256 ≡ n / 256 % 256 → m / 256 / 256 % 256 ≡ n / 256 / 256 % 256
    → m / 256 / 256 / 256 % 256 ≡ n / 256 / 256 / 256 % 256 → m ≡ n
four_bytes m n p q a b c d = omega arith

one_sum : (s t : HeaderSum) (size : ℕ) (fixed u v : List ℕ) → SizeFits s size u → SizeFits t size v → ((s ≡ Zero) × (checksum fixed ≡ 0) → ⊥)
    → ((t ≡ Zero) × (checksum fixed ≡ 0) → ⊥)
    → sum_part s fixed ++ u ≡ sum_part t fixed ++ v → (s ≡ t) × (u ≡ v)
one_sum Absent Absent size fixed u v p q r w e = (refl, e)
one_sum Zero Zero size fixed u v p q r w e = (refl, cc)
one_sum Zero True size fixed u v p q r w e =
    let low : 0 ≡ checksum fixed % 256 = cc in
    let high : 0 ≡ checksum fixed / 256 % 256 = cc in
    absurd (r (refl, omega (arith, low, high, checksum-below fixed)))
one_sum True Zero size fixed u v p q r w e =
    let low : checksum fixed % 256 ≡ 0 = cc in
    let high : checksum fixed / 256 % 256 ≡ 0 = cc in
    absurd (w (refl, omega (arith, low, high, checksum-below fixed)))
one_sum True True size fixed u v p q r w e = (refl, cc)
one_sum s t size fixed u v p q r w e = absurd (omega arith)

-- the size is the number of bytes
pub length-header_bytes : (h : Header) (n : ℕ) → FormFits h → length (header_bytes h n) ≡ h.size
length-header_bytes h n p = go h.sum p.size
  where
    go : (s : HeaderSum) → SizeFits s h.size h.rest.items → length (fixed_part h n ++ sum_part s (fixed_part h n) ++ h.rest.items) ≡ h.size
    go Absent q = omega (arith, q.0, ap length q.1)
    go Zero q = omega arith
    go True q = omega arith

pub one_header : (h k : Header) (m n : ℕ) (x y : List ℕ) → HeaderFits h m → HeaderFits k n → header_bytes h m ++ x ≡ header_bytes k n ++ y
    → (h ≡ k) × (m ≡ n) × (x ≡ y)
one_header h k m n x y p q e =
    let size : h.size ≡ k.size = cc in
    let whole = front_back (header_bytes h m) (header_bytes k n) x y (length-header_bytes h m p.form ∙ size ∙ sym (length-header_bytes k n q.form)) e in
    let protocol : h.protocol ≡ k.protocol = cc in
    let profile = two_bytes h.profile k.profile p.profile_fits q.profile_fits (cc) (cc) in
    let data_size = four_bytes m n p.data_fits q.data_fits (cc) (cc) (cc) (cc) in
    let fixed : fixed_part h m ≡ fixed_part k n = cc in
    let rest : sum_part h.sum (fixed_part h m) ++ h.rest.items ≡ sum_part k.sum (fixed_part k n) ++ k.rest.items = cc in
    let sum = one_sum h.sum k.sum h.size (fixed_part h m) h.rest.items k.rest.items p.form.size
    (subst (λ s. SizeFits k.sum s k.rest.items) (sym size) q.form.size) p.sum
    (subst (λ f. (k.sum ≡ Zero) × (checksum f ≡ 0) → ⊥) (sym fixed) q.sum)
    (subst (λ f. sum_part h.sum (fixed_part h m) ++ h.rest.items ≡ sum_part k.sum f ++ k.rest.items) (sym fixed) rest) in
    (λ i. record { size = size i; protocol = protocol i; profile = profile i; sum = sum.0 i; rest = record { items = sum.1 i } }, data_size, whole.1)

pub headers_have_one_spelling : HeadersHaveOneSpelling
headers_have_one_spelling h k m n b c x y p q e =
    let whole : header_bytes h m ++ x ≡ header_bytes k n ++ y = cc (p.1, q.1) in
    let one = one_header h k m n x y p.0 q.0 whole in
    (one.0, one.1, cc (one.0, one.1, p.1, q.1), one.2)

pub headers_have_their_size : HeadersHaveTheirSize
headers_have_their_size h n b p = (ap length p.1 ∙ length-header_bytes h n p.0.form, go h.sum p.0.form.size)
  where
    go : (w : HeaderSum) → SizeFits w h.size h.rest.items → (h.size ≡ 12) ⊎ ((14 ≤ h.size) × (h.size ≤ 255))
    go Absent q = inl q.0
    go Zero q = inr (omega arith, omega (arith, p.0.size_fits))
    go True q = inr (omega arith, omega (arith, p.0.size_fits))

pub headers_end_once : HeadersEndOnce
headers_end_once h n bytes x p begins =
    let whole = begins.whole.is.0 in
    let joined : bytes ++ (x ++ begins.more) ≡ ((bytes ++ x) ++ begins.more) ++ [] =
    sym (append_assoc bytes x begins.more) ∙ sym (append-nil ((bytes ++ x) ++ begins.more)) in
    let one = headers_have_one_spelling h begins.whole.header n begins.whole.data_size bytes ((bytes ++ x) ++ begins.more) (x ++ begins.more) [] p whole joined
    in
    front_empty x begins.more one.3
  where
    front_empty : (x y : List ℕ) → x ++ y ≡ [] → x ≡ []
    front_empty [] y e = refl
    front_empty (a ∷ x) y e = cc
