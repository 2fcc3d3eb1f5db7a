-- No file ends before the bytes have come that are missing.
use Rattle.fit_chain.proofs.Common.{◌≡◌, cond, inl, inr, ℕ, ◌+◌, ◌<◌, ◌≤◌, ◌^◌, nat_le, Bool, true, false, List, [], ◌∷◌, ◌++◌, length, take, drop, refl, sym}
use Rattle.fit_chain.proofs.Common.{ap, ◌∙◌, arith, length-append, leb-true, little, little_bytes, length-little_bytes, little-little_bytes, checksum, Header}
use Rattle.fit_chain.proofs.Common.{SizeFits, HeaderFits, header_bytes, length-header_bytes, FitFile, empty_environment, learn, learn_all, records_bytes, body}
use Rattle.fit_chain.proofs.Common.{summed, chain_bytes, chain_limit, IsChain, Progress, at_header, at_data, HasCome, missing, Needs, NoFileEndsBefore}
use Rattle.std.proofs.Common.{nat_lt}
use Rattle.fit_frame.specs.declared.header.HeaderSum.{HeaderSum}
use Rattle.fit_frame.specs.declared.header.HeaderSum.TheVariants.{Absent}
use Rattle.fit_chain.proofs.OnePlace.{one_place}
use Rattle.fit_chain.proofs.Following.{header_follows, data_follows, chain_follows}

-- ---- headers

least_size : (s : HeaderSum) (size : ℕ) (rest : List ℕ) → SizeFits s size rest → 12 ≤ size
least_size Absent size rest fits = omega (arith, fits.0)
least_size sum size rest fits = omega (arith, fits)

at_most_14 : (c : Bool) → cond c 14 1 ≤ 14
at_most_14 true = omega arith
at_most_14 false = omega arith

-- the data size stands in a front of eight bytes
same_size : (front more : List ℕ) → 8 ≤ length front → little (take 4 (drop 4 (front ++ more))) ≡ little (take 4 (drop 4 front))
same_size (a ∷ b ∷ c ∷ d ∷ e ∷ f ∷ g ∷ h ∷ front) more long = refl
same_size front more long = absurd (omega (arith, long))

size_told : (h : Header) (n : ℕ) (front more : List ℕ) → n < 2 ^ 32 → header_bytes h n ≡ front ++ more → 8 ≤ length front → little (take 4 (drop 4 front)) ≡ n
size_told h n front more small is long = sym (same_size front more long) ∙ sym (ap (λ l. little (take 4 (drop 4 l))) is) ∙ little-little_bytes 4 n small

-- the data size counts from eight bytes on
counted : (front : List ℕ) (n : ℕ) → (8 ≤ length front → little (take 4 (drop 4 front)) ≡ n) → (c : Bool) → (c ≡ true → 8 ≤ length front)
    → cond c (little (take 4 (drop 4 front))) 0 ≤ n
counted front n told true long = let same = told (long refl) in omega (arith, same)
counted front n told false long = omega arith

long_enough : (m : ℕ) → nat_le 8 m ≡ true → 8 ≤ m
long_enough m is = leb-true 8 m is

header_missing : (A : Type 0) (files : ℕ) (h : Header) (n : ℕ) (front more : List ℕ) → HeaderFits h n → header_bytes h n ≡ front ++ more
    → missing {A = A} files (at_header front) ≤ length more + n + 2
header_missing A files h n [] more fits is =
    omega (arith, at_most_14 (nat_lt files chain_limit), least_size h.sum h.size h.rest.items fits.form.size, length-header_bytes h n fits.form, ap length is)
header_missing A files h n (size ∷ front) more fits is =
    let same : h.size ≡ size = cc is in
    let few = counted (size ∷ front) n (size_told h n (size ∷ front) more fits.data_fits is) (nat_le 8 (length (size ∷ front)))
    (long_enough (length (size ∷ front))) in
    omega (arith, same, few, length-header_bytes h n fits.form, ap length is, length-append (size ∷ front) more)

-- ---- all of it

after_head : (x a b s c : List ℕ) → x ≡ a ++ (b ++ (s ++ c)) → length a + length b + length s ≤ length x
after_head x a b s c is = omega (arith, ap length is, length-append a (b ++ (s ++ c)), length-append b (s ++ c), length-append s c)

pub no_sooner : {A : Type 0} (limit : ℕ) (fs gs : List (FitFile A)) (g : Progress A) (bytes x : List ℕ) → HasCome fs g bytes → IsChain limit gs (bytes ++ x)
    → length fs < length gs
    → missing (length fs) g ≤ length x
no_sooner {A} limit fs gs (at_header front) bytes x come chain fewer =
    let next = chain_follows limit fs (at_header front) bytes x gs come chain in
    elim (header_follows front x next.others come.next next.each next.spelled) [
      | inl none ↦ absurd (omega (arith, fewer, ap length next.joined, length-append fs next.others, ap length none.1))
      | inr s ↦
          let sum = little_bytes 2 (checksum (summed s.file)) in
          let least = header_missing A (length fs) s.file.header (length (body s.file)) front s.more s.well.header s.header in
          omega (arith, least, after_head x s.more (body s.file) sum (chain_bytes s.after) s.beyond, length-little_bytes 2 (checksum (summed s.file)))
    ]
no_sooner {A} limit fs gs (at_data h n records part) bytes x come chain fewer =
    let next = chain_follows limit fs (at_data h n records part) bytes x gs come chain in
    let d = data_follows h n records part x next.others come.next next.each next.spelled in
    let e = learn_all empty_environment records in
    let sum = little_bytes 2 (checksum (summed d.file)) in
    elim d.goes [
      | inl s ↦ omega (
        arith,
        s.total,
        after_head x s.more (records_bytes (learn e s.whole) s.after) sum (chain_bytes d.after) s.beyond,
        length-little_bytes 2 (checksum (summed d.file)),
      )
      | inr s ↦ omega (
        arith,
        s.over,
        come.next.2,
        ap length s.comes,
        length-append part x,
        length-append sum (chain_bytes d.after),
        length-little_bytes 2 (checksum (summed d.file)),
      )
    ]

pub need_is_least : {A : Type 0} (bytes : List ℕ) (n : ℕ) → Needs A bytes n → NoFileEndsBefore A bytes n
need_is_least bytes n needs files others progress more come chain fewer =
    let place = one_place needs.files files needs.progress progress bytes needs.come come in
    let same : n ≡ missing (length files) progress = needs.is ∙ (λ i. missing (length (place.0 i)) (place.1 i)) in
    omega (arith, same, no_sooner chain_limit files others progress bytes more come chain fewer)
