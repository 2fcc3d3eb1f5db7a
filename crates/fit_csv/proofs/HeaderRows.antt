-- The rows in which files begin.
use Rattle.fit_csv.proofs.Common.{◌≡◌, ◌∙◌, inl, inr, ◌-◌, ◌^◌, [], ◌∷◌, length, drop, All, refl, sym, ap, subst, arith, Header, HeaderSum}
use Rattle.fit_csv.proofs.Common.{SizeFits, file_row, rest_text, row, sum_word, HasSum, IsHeaderSize, IsFileRow, Row, AsFar, bytes-shown}
use Rattle.std.proofs.Common.{ℕ, ◌<◌, List, decimal}
use Rattle.std.specs.Prelude.{codes}
use Rattle.fit_frame.specs.declared.header.HeaderSum.TheVariants.{Absent}
use Rattle.fit_cells.specs.Rows.{Cell}
use Rattle.fit_cells.specs.Steps.{read_pairs}

pub rest-shown : (bytes text : List ℕ) (count : ℕ) → rest_text bytes ≡ text → length bytes ≡ count → All (λ b. b < 2 ^ 8) bytes
    → read_pairs count (drop 2 text) ≡ bytes
unfolding read_pairs
rest-shown [] text count e long small = subst (λ n. read_pairs n (drop 2 text) ≡ []) long refl
rest-shown (b ∷ bytes) text count e long small = bytes-shown (b ∷ bytes) text count (sym e) long small

-- sizes and words of a header in its range
header-size : (s : HeaderSum) (size : ℕ) (rest : List ℕ) → SizeFits s size rest → size < 2 ^ 8 → IsHeaderSize size
header-size Absent size rest fits small = inl fits.0
header-size sum size rest fits small = inr (omega (arith, fits), small)

has-sum : (s : HeaderSum) (size : ℕ) (rest : List ℕ) → SizeFits s size rest → HasSum size s
has-sum Absent size rest fits = fits.0
has-sum sum size rest fits = omega (arith, fits)

pub rest-long : (s : HeaderSum) (size : ℕ) (rest : List ℕ) → SizeFits s size rest → length rest ≡ size - 14
rest-long Absent size rest fits = ap length fits.1 ∙ omega (arith, fits.0)
rest-long sum size rest fits = omega (arith, fits)

pub sizes-fit : (s : HeaderSum) (size : ℕ) (rest : List ℕ) → HasSum size s → length rest ≡ size - 14 → SizeFits s size rest
sizes-fit Absent size [] has long = (has, refl)
sizes-fit Absent size (b ∷ rest) has long = absurd (omega (arith, has, long))
sizes-fit sum size rest has long = omega (arith, has, long)

-- The header of a row is the closest one where each of its numbers is that of its cell, as far as that shows one.
pub header-closest : (ta tb tc td te tf : Cell) (h : Header) → ((n : ℕ) → IsHeaderSize n → decimal n ≡ ta → h.size ≡ n)
    → ((n : ℕ) → n < 48 → decimal n ≡ tb → h.protocol ≡ n)
    → ((n : ℕ) → n < 2 ^ 16 → decimal n ≡ tc → h.profile ≡ n) → ((s : HeaderSum) → HasSum h.size s → sum_word s ≡ td → h.sum ≡ s)
    → ((bytes : List ℕ) → length bytes ≡ h.size - 14 → All (λ b. b < 2 ^ 8) bytes → rest_text bytes ≡ te → h.rest.items ≡ bytes)
    → (other : Row) → IsFileRow other → AsFar other (file_row h) (row (codes "file") ta tb tc td te tf)
header-closest ta tb tc td te tf h is_a is_b is_c is_d is_e other (k, range, e) =
    subst (λ (o : Row). AsFar o (file_row h) (row (codes "file") ta tb tc td te tf)) (sym e)
    (λ ek. (
      refl,
      λ ea.
          let size : h.size ≡ k.size = is_a k.size (header-size k.sum k.size k.rest.items range.form.size range.size) ea in
          let sum : HasSum h.size k.sum = subst (λ n. HasSum n k.sum) (sym size) (has-sum k.sum k.size k.rest.items range.form.size) in
          let long : length k.rest.items ≡ h.size - 14 = rest-long k.sum k.size k.rest.items range.form.size ∙ ap (λ n. n - 14) (sym size) in (
            ap decimal size ∙ ea,
            λ eb. (
              ap decimal (is_b k.protocol (let v = range.form.version in omega (arith, v)) eb) ∙ eb,
              λ ec. (
                ap decimal (is_c k.profile range.profile ec) ∙ ec,
                λ ed. (
                  ap sum_word (is_d k.sum sum ed) ∙ ed,
                  λ ee.
                      (ap rest_text (is_e k.rest.items long range.rest ee) ∙ ee, λ ef. (ef, tt)),
                ),
              ),
            ),
          ),
    ))
