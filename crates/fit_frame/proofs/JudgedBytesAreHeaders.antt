-- Bytes that a reader has judged and that have their size are a header, the one that they are read as.
use Rattle.fit_frame.proofs.Common.{◌≡◌, ◌≢◌, Bool, true, false, eqb, ℕ, ◌/◌, ◌%◌, ◌<◌, ◌≤◌, ◌⊎◌, inl, inr, List, [], ◌∷◌, ◌++◌, length, take, drop}
use Rattle.fit_frame.proofs.Common.{slice_index, length-drop, refl, sym, ap, ◌∙◌, subst, arith, IsBytes, checksum, Header, HeaderSum, Absent, Zero, True}
use Rattle.fit_frame.proofs.Common.{fixed_part, sum_part, SizeFits, IsDataSize, IsFileHeader, IsWholeHeader, two_bytes, four_bytes, AreJudged, HasItsSize}
use Rattle.fit_frame.proofs.Common.{ReadsWord, ReadsAs}
use Rattle.std.proofs.lemmas.Bool.{eqb-true, eqb-false}

-- the fixed part of the header that twelve bytes are read as
front : (h : Header) (n s v p0 p1 n0 n1 n2 n3 c0 c1 c2 c3 : ℕ) → h.size ≡ s → h.protocol ≡ v → h.profile ≡ two_bytes p0 p1 → n ≡ four_bytes n0 n1 n2 n3
    → p0 < 256 → p1 < 256 → n0 < 256 → n1 < 256 → n2 < 256 → n3 < 256 → c0 ≡ 0x2E → c1 ≡ 0x46 → c2 ≡ 0x49 → c3 ≡ 0x54
    → fixed_part h n ≡ s ∷ v ∷ p0 ∷ p1 ∷ n0 ∷ n1 ∷ n2 ∷ n3 ∷ c0 ∷ c1 ∷ c2 ∷ c3 ∷ []
front h n s v p0 p1 n0 n1 n2 n3 c0 c1 c2 c3 hs hv hp hn l0 l1 k0 k1 k2 k3 e0 e1 e2 e3 =
    let q0 : h.profile % 256 ≡ p0 = omega arith in
    let q1 : h.profile / 256 % 256 ≡ p1 = omega arith in
    let m0 : n % 256 ≡ n0 = omega arith in
    let m1 : n / 256 % 256 ≡ n1 = omega arith in
    let m2 : n / 256 / 256 % 256 ≡ n2 = omega arith in
    let m3 : n / 256 / 256 / 256 % 256 ≡ n3 = omega arith in
    cc

-- what the two bytes after the fixed part say
word : (w : HeaderSum) (fixed : List ℕ) (a b : ℕ) → a < 256 → b < 256
    → ((w ≡ True) × (two_bytes a b ≡ checksum fixed)) ⊎ ((w ≡ Zero) × (a ≡ 0) × (b ≡ 0) × (checksum fixed ≢ 0))
    → (sum_part w fixed ≡ a ∷ b ∷ []) × ((w ≡ Zero) × (checksum fixed ≡ 0) → ⊥)
word w fixed a b la lb (inl (is, e)) =
    let low : checksum fixed % 256 ≡ a = omega arith in
    let high : checksum fixed / 256 % 256 ≡ b = omega arith in
    (subst (λ v. sum_part v fixed ≡ a ∷ b ∷ []) (sym is) (cc (low, high)), λ z. cc (is, z.0))
word w fixed a b la lb (inr (is, za, zb, some)) = (subst (λ v. sum_part v fixed ≡ a ∷ b ∷ []) (sym is) (cc (za, zb)), λ z. some z.1)

-- a header has twelve bytes, or fourteen and more
sizes : (bytes : List ℕ) → AreJudged bytes → HasItsSize bytes → (length bytes ≡ 12) ⊎ (14 ≤ length bytes)
sizes bytes judged whole = elim ((judged 0 whole.0).size refl) [ inl e ↦ inl (whole.1 ∙ e) | inr e ↦ inr (omega (arith, e, whole.1)) ]

-- what the two bytes are read as, once they are judged
word_read : (w : HeaderSum) (fixed : List ℕ) (a b : ℕ) → ((a ≡ 0) × (b ≡ 0)) ⊎ (two_bytes a b ≡ checksum fixed)
    → ((w ≡ True) × (two_bytes a b ≡ checksum fixed)) ⊎ ((w ≡ Zero) × (two_bytes a b ≢ checksum fixed))
    → ((w ≡ True) × (two_bytes a b ≡ checksum fixed)) ⊎ ((w ≡ Zero) × (a ≡ 0) × (b ≡ 0) × (checksum fixed ≢ 0))
word_read w fixed a b judged (inl read) = inl read
word_read w fixed a b (inr sum) (inr read) = absurd (read.1 sum)
word_read w fixed a b (inl zeros) (inr read) = inr (read.0, zeros.0, zeros.1, λ e. read.1 (omega (arith, zeros.0, zeros.1, e)))

-- a word that is read after fourteen bytes is none of twelve
word_of : (w : HeaderSum) (bytes rest : List ℕ) → 14 ≤ length bytes → ReadsWord w bytes rest
    → (SizeFits w (length bytes) (drop 14 bytes)) × (rest ≡ drop 14 bytes)
    × (((w ≡ True) × (two_bytes (slice_index bytes 12) (slice_index bytes 13) ≡ checksum (take 12 bytes)))
    ⊎ ((w ≡ Zero) × (two_bytes (slice_index bytes 12) (slice_index bytes 13) ≢ checksum (take 12 bytes))))
word_of Absent bytes rest more read = absurd (omega (arith, read.0))
word_of Zero bytes rest more read = (omega (arith, length-drop 14 bytes), read.1, inr (refl, read.2))
word_of True bytes rest more read = (omega (arith, length-drop 14 bytes), read.1, inl (refl, read.2))

-- and one read of twelve bytes is absent
word_absent : (w : HeaderSum) (bytes rest : List ℕ) → length bytes ≡ 12 → ReadsWord w bytes rest → (w ≡ Absent) × (rest ≡ [])
word_absent Absent bytes rest few read = (refl, read.1)
word_absent Zero bytes rest few read = absurd (omega (arith, read.0))
word_absent True bytes rest few read = absurd (omega (arith, read.0))

module _ (h : Header) (n s v p0 p1 n0 n1 n2 n3 c0 c1 c2 c3 : ℕ) where
  abbrev twelve : List ℕ
  twelve = s ∷ v ∷ p0 ∷ p1 ∷ n0 ∷ n1 ∷ n2 ∷ n3 ∷ c0 ∷ c1 ∷ c2 ∷ c3 ∷ []

  -- a header with what stands after twelve bytes
  with_tail : (tail : List ℕ) → AreJudged (twelve ++ tail) → IsBytes (twelve ++ tail) → ReadsAs h n (twelve ++ tail)
      → SizeFits h.sum h.size h.rest.items → sum_part h.sum twelve ++ h.rest.items ≡ tail → ((h.sum ≡ Zero) × (checksum twelve ≡ 0) → ⊥)
      → IsFileHeader h n (twelve ++ tail)
  with_tail tail j l r size is sum =
      let fixed = front h n s v p0 p1 n0 n1 n2 n3 c0 c1 c2 c3 r.size r.protocol r.profile r.data_size (l 2) (l 3) (l 4) (l 5) (l 6) (l 7)
      ((j 8 (omega arith)).letter_8 refl) ((j 9 (omega arith)).letter_9 refl) ((j 10 (omega arith)).letter_10 refl) ((j 11 (omega arith)).letter_11 refl) in
      let data_size : IsDataSize n = subst IsDataSize (sym r.data_size) ((j 7 (omega arith)).data_size refl) in (
        (
          record {
            form = record { size = size; version = subst (λ x. x / 16 ≤ 2) (sym r.protocol) ((j 1 (omega arith)).version refl) };
            size_fits = rw r.size (l 0);
            profile_fits = rw r.profile (omega (arith, l 2, l 3));
            data_fits = rw r.data_size (omega (arith, l 4, l 5, l 6, l 7));
            sum = λ z. sum (z.0, ap checksum (sym fixed) ∙ z.1);
          },
          sym (ap (λ f. f ++ sum_part h.sum f ++ h.rest.items) fixed ∙ ap (λ t. twelve ++ t) is),
        ),
        data_size,
      )

pub whole : (h : Header) (n : ℕ) (bytes : List ℕ) → AreJudged bytes → IsBytes bytes → HasItsSize bytes → ReadsAs h n bytes → IsFileHeader h n bytes
whole h n (s ∷ v ∷ p0 ∷ p1 ∷ n0 ∷ n1 ∷ n2 ∷ n3 ∷ c0 ∷ c1 ∷ c2 ∷ c3 ∷ []) j l w r =
    let absent = word_absent h.sum _ h.rest.items refl r.word in
    with_tail h n s v p0 p1 n0 n1 n2 n3 c0 c1 c2 c3 [] j l r
    (subst (λ x. SizeFits x h.size h.rest.items) (sym absent.0) (r.size ∙ sym w.1, absent.1))
    (ap (λ x. sum_part x (s ∷ v ∷ p0 ∷ p1 ∷ n0 ∷ n1 ∷ n2 ∷ n3 ∷ c0 ∷ c1 ∷ c2 ∷ c3 ∷ []) ++ h.rest.items) absent.0 ∙ absent.1)
    (λ z. cc (z.0, absent.0))
whole h n (s ∷ v ∷ p0 ∷ p1 ∷ n0 ∷ n1 ∷ n2 ∷ n3 ∷ c0 ∷ c1 ∷ c2 ∷ c3 ∷ t ∷ u ∷ rest) j l w r =
    let read = word_of h.sum _ h.rest.items (omega arith) r.word in
    let said = word h.sum (s ∷ v ∷ p0 ∷ p1 ∷ n0 ∷ n1 ∷ n2 ∷ n3 ∷ c0 ∷ c1 ∷ c2 ∷ c3 ∷ []) t u (l 12) (l 13)
    (word_read h.sum _ t u ((j 13 (omega arith)).high refl) read.2) in
    with_tail h n s v p0 p1 n0 n1 n2 n3 c0 c1 c2 c3 (t ∷ u ∷ rest) j l r
    (subst (λ x. SizeFits h.sum h.size x) (sym read.1) (subst (λ x. SizeFits h.sum x rest) (w.1 ∙ sym r.size) read.0)) (rw (said.0, read.1) refl) said.1
whole h n bytes j l w r = absurd (elim (sizes bytes j w) [ inl e ↦ omega arith | inr e ↦ omega arith ])

-- the word that two bytes are read as
decided : (fixed : List ℕ) (a b : ℕ) (test : Bool) → eqb (two_bytes a b) (checksum fixed) ≡ test
    → (w : HeaderSum) × (((w ≡ True) × (two_bytes a b ≡ checksum fixed)) ⊎ ((w ≡ Zero) × (two_bytes a b ≢ checksum fixed)))
decided fixed a b true e = (True, inl (refl, eqb-true _ _ e))
decided fixed a b false e = (Zero, inr (refl, eqb-false _ _ e))

word_reads : (w : HeaderSum) (bytes : List ℕ) → 14 ≤ length bytes
    → (((w ≡ True) × (two_bytes (slice_index bytes 12) (slice_index bytes 13) ≡ checksum (take 12 bytes)))
    ⊎ ((w ≡ Zero) × (two_bytes (slice_index bytes 12) (slice_index bytes 13) ≢ checksum (take 12 bytes))))
    → ReadsWord w bytes (drop 14 bytes)
word_reads w bytes more (inl read) = subst (λ v. ReadsWord v bytes (drop 14 bytes)) (sym read.0) (more, refl, read.1)
word_reads w bytes more (inr read) = subst (λ v. ReadsWord v bytes (drop 14 bytes)) (sym read.0) (more, refl, read.1)

-- the word and the further bytes of a header of this size
words : (bytes : List ℕ) → (length bytes ≡ 12) ⊎ (14 ≤ length bytes) → (w : HeaderSum) × (rest : List ℕ) × ReadsWord w bytes rest
words bytes (inl few) = (Absent, [], (few, refl))
words bytes (inr more) =
    let found = decided (take 12 bytes) (slice_index bytes 12) (slice_index bytes 13)
    (eqb (two_bytes (slice_index bytes 12) (slice_index bytes 13)) (checksum (take 12 bytes))) refl in
    (found.0, drop 14 bytes, word_reads found.0 bytes more found.1)

pub is_whole : (bytes : List ℕ) → AreJudged bytes → IsBytes bytes → HasItsSize bytes → IsWholeHeader bytes
is_whole bytes judged are_bytes size =
    let found = words bytes (sizes bytes judged size) in
    let h : Header = record {
      size = slice_index bytes 0;
      protocol = slice_index bytes 1;
      profile = two_bytes (slice_index bytes 2) (slice_index bytes 3);
      sum = found.0;
      rest = record { items = found.1 };
    } in
    let n = four_bytes (slice_index bytes 4) (slice_index bytes 5) (slice_index bytes 6) (slice_index bytes 7) in
    record {
      header = h;
      data_size = n;
      is =
          whole h n bytes judged are_bytes size (record { size = refl; protocol = refl; profile = refl; data_size = refl; word = found.2 });
    }
