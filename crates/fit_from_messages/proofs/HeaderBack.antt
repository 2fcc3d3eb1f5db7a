-- The blocks of a header and of the end of a file are read as these.
use Rattle.std.proofs.Common.{◌≡◌, ◌∙◌, ℕ, ◌+◌, ◌-◌, ◌%◌, ◌^◌, ◌<◌, ◌==◌, List, ◌++◌, Bool, true, refl, sym, ap, ap₂, arith, length}
use Rattle.std.proofs.Common.{take, replicate}
use Rattle.std.proofs.lemmas.Bool.{eq-eqb, le-leb, lt-ltb}
use Rattle.std.proofs.lemmas.List.{length-append, length-replicate, take_at}
use Rattle.std.specs.Prelude.{◌&&◌, if◌then◌else◌, nat_le, nat_lt}
use Rattle.fit_base.proofs.Bytes.{little-little_bytes}
use Rattle.fit_frame.specs.Header.{HeaderFits, SizeFits}
use Rattle.fit_frame.specs.declared.header.Header.{Header}
use Rattle.fit_frame.specs.declared.header.HeaderSum.{HeaderSum}
use Rattle.fit_frame.specs.declared.header.HeaderSum.TheVariants.{Absent, Zero, True}
use Rattle.fit_messages.specs.Blocks.{end_block, front, gap, header_block, rounded, sum_kind, whole}
unfoldable use Rattle.fit_messages.specs.Blocks.{low}
use Rattle.fit_from_messages.proofs.ReadBack.{sized_block}
use Rattle.fit_from_messages.specs.Parts.{header_in, header_stands, number_read, size_stands, sum_of_kind}
use Rattle.fit_from_messages.specs.SaysChain.{IsBlock}

sum_back : (sum : HeaderSum) → sum_of_kind (sum_kind sum) ≡ sum
sum_back Absent = refl
sum_back Zero = refl
sum_back True = refl

length-rounded : (bytes : List ℕ) → length (rounded bytes) ≡ whole (length bytes)
length-rounded bytes =
    length-append bytes (replicate (gap (length bytes)) 0) ∙ ap (λ n. length bytes + n) (length-replicate (gap (length bytes)) 0)

-- the bytes from place 14 on
rest_back : (sum : HeaderSum) (size : ℕ) (rest : List ℕ) → SizeFits sum size rest → take (size - 14) (rounded rest) ≡ rest
rest_back Absent size rest fits = ap₂ (λ n r. take (n - 14) (rounded r)) fits.0 fits.1 ∙ sym fits.1
rest_back Zero size rest fits = take_at rest (replicate (gap (length rest)) 0) (size - 14) (omega (arith, fits))
rest_back True size rest fits = take_at rest (replicate (gap (length rest)) 0) (size - 14) (omega (arith, fits))

size_passes : (sum : HeaderSum) (size long : ℕ) (rest : List ℕ) → SizeFits sum size rest → 32 + whole (length rest) ≡ long
    → (if sum_kind sum == 0 then size == 12 else nat_lt (sum_kind sum) 3 && nat_le 14 size && nat_le (18 + size) long) ≡ true
size_passes Absent size long rest fits all = eq-eqb size 12 fits.0
size_passes Zero size long rest fits all =
    ap₂ (λ a b. a && b) (le-leb 14 size (omega (arith, fits))) (le-leb (18 + size) long (omega (arith, fits, all)))
size_passes True size long rest fits all =
    ap₂ (λ a b. a && b) (le-leb 14 size (omega (arith, fits))) (le-leb (18 + size) long (omega (arith, fits, all)))

few_more : (sum : HeaderSum) (size : ℕ) (rest : List ℕ) → SizeFits sum size rest → size < 256 → length rest < 256
few_more Absent size rest fits small = omega (arith, ap length fits.1)
few_more Zero size rest fits small = omega (arith, fits, small)
few_more True size rest fits small = omega (arith, fits, small)

four : (a b c d : Bool) → a ≡ true → b ≡ true → c ≡ true → d ≡ true → (a && b && c && d) ≡ true
four a b c d p q r s = rw (p, q, r, s) refl

module _ (file place n m : ℕ) (h : Header) (fits : HeaderFits h m) where
  abbrev block : List ℕ
  block = header_block file place h n

  length-block : length block ≡ 32 + whole (length h.rest.items)
  unfolding low
  length-block = omega (arith, length-rounded h.rest.items)

  profile_back : number_read 8 24 block ≡ h.profile
  unfolding low
  profile_back = little-little_bytes 8 h.profile (let few = fits.profile_fits in omega (arith, few))

  size_stands_ : size_stands block ≡ true
  unfolding low
  size_stands_ = size_passes h.sum h.size (length block) h.rest.items fits.form.size (sym length-block)

  protocol_passes : nat_lt h.protocol 0x30 ≡ true
  protocol_passes = lt-ltb h.protocol 0x30 (let version = fits.form.version in omega (arith, version))

  -- it stands for a header
  pub header_passes : header_stands block ≡ true
  unfolding low
  header_passes =
      four (nat_le 32 (length block)) (size_stands block) (nat_lt h.protocol 0x30) (nat_lt (number_read 8 24 block) (2 ^ 16))
      (le-leb 32 (length block) (omega (arith, length-block))) size_stands_ protocol_passes
      (lt-ltb (number_read 8 24 block) (2 ^ 16) (let few = fits.profile_fits in omega (arith, few, profile_back)))

  -- and says it
  pub header_back : header_in block ≡ h
  unfolding low
  header_back = λ i. record {
    size = h.size;
    protocol = h.protocol;
    profile = profile_back i;
    sum = sum_back h.sum i;
    rest = record { items = rest_back h.sum h.size h.rest.items fits.form.size i };
  }

  pub is_header_block : length block % 8 ≡ 0 → IsBlock block
  unfolding low
  is_header_block multiple =
      sized_block (front 1 h.size h.protocol (sum_kind h.sum) file n place ++ low 8 h.profile ++ rounded h.rest.items)
      (omega (arith, length-block)) (omega (
        arith,
        length-block,
        few_more h.sum h.size h.rest.items fits.form.size fits.size_fits,
      )) multiple

pub is_end_block : (file place : ℕ) → IsBlock (end_block file place)
unfolding low
is_end_block file place = sized_block (front 4 0 0 0 file 0 place) (omega arith) (omega arith) refl
