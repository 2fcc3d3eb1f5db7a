-- The closest row of each kind: each of its cells is the one there is, where that can stand.
use Rattle.fit_csv.proofs.Common.{◌≡◌, ◌∙◌, ◌^◌, [], refl, sym, ap, subst, Order, Row, optional_number, order_word, row, AsFar}
use Rattle.fit_csv.proofs.Common.{DefinitionHead, IsHeadRow, IsRowOfThree, head_row}
use Rattle.std.proofs.Common.{ℕ, ◌<◌, decimal, Option}
use Rattle.std.specs.Prelude.{codes, IfSome}
use Rattle.fit_cells.specs.Rows.{Cell}

-- the number is that of the cell, where the cell shows one below the limit
abbrev pub IsNumberIn : ℕ → Cell → ℕ → Type 0
IsNumberIn limit cell n = (m : ℕ) → m < limit → decimal m ≡ cell → n ≡ m

pub same-number : (limit m n : ℕ) (cell : Cell) → IsNumberIn limit cell n → m < limit → decimal m ≡ cell → decimal n ≡ cell
same-number limit m n cell is small e = ap decimal (is m small e) ∙ e

pub three-closest : (kind ta tb tc td te tf : Cell) (a b c : ℕ) → IsNumberIn (2 ^ 8) ta a → IsNumberIn (2 ^ 8) tb b → IsNumberIn (2 ^ 8) tc c
    → (other : Row) → IsRowOfThree kind other → AsFar other (row kind (decimal a) (decimal b) (decimal c) [] [] []) (row kind ta tb tc td te tf)
three-closest kind ta tb tc td te tf a b c is_a is_b is_c other (x, y, z, hx, hy, hz, e) =
    subst (λ (o : Row). AsFar o (row kind (decimal a) (decimal b) (decimal c) [] [] []) (row kind ta tb tc td te tf)) (sym e)
    (λ k. (
      refl,
      λ ea. (
        same-number (2 ^ 8) x a ta is_a hx ea,
        λ eb. (
          same-number (2 ^ 8) y b tb is_b hy eb,
          λ ec. (
            same-number (2 ^ 8) z c tc is_c hz ec,
            λ ed. (ed, λ ee. (ee, λ ef. (ef, tt))),
          ),
        ),
      ),
    ))

pub head-closest : (ta tb tc td te tf : Cell) (h : DefinitionHead) → IsNumberIn 16 ta h.local → IsNumberIn (2 ^ 8) tb h.reserved
    → ((order : Order) → order_word order ≡ tc → h.order ≡ order)
    → IsNumberIn (2 ^ 16) td h.global → IsNumberIn (2 ^ 8) te h.fields
    → ((count : Option ℕ) → IfSome count (λ n. n < 2 ^ 8) → optional_number count ≡ tf → h.dev ≡ count)
    → (other : Row) → IsHeadRow other → AsFar other (head_row h) (row (codes "def") ta tb tc td te tf)
head-closest ta tb tc td te tf h is_a is_b is_c is_d is_e is_f other (k, range, e) =
    subst (λ (o : Row). AsFar o (head_row h) (row (codes "def") ta tb tc td te tf)) (sym e)
    (λ ek. (
      refl,
      λ ea. (
        same-number 16 k.local h.local ta is_a range.local ea,
        λ eb. (
          same-number (2 ^ 8) k.reserved h.reserved tb is_b range.reserved eb,
          λ ec. (
            ap order_word (is_c k.order ec) ∙ ec,
            λ ed. (
              same-number (2 ^ 16) k.global h.global td is_d range.global ed,
              λ ee. (
                same-number (2 ^ 8) k.fields h.fields te is_e range.fields ee,
                λ ef. (ap optional_number (is_f k.dev range.dev ef) ∙ ef, tt),
              ),
            ),
          ),
        ),
      ),
    ))
