-- Rows of the fields of a data message.
use Rattle.fit_csv.proofs.Common.{◌≡◌, ◌∙◌, [], ◌∷◌, take, refl, sym, ap, subst, inl, arith, Global, HasShape, Items, Meaning, cell, row, IsBadCell, IsValueRow}
use Rattle.fit_csv.proofs.Common.{Row, AsFar}
use Rattle.std.proofs.Common.{ℕ, Option}
use Rattle.fit_cells.specs.Rows.{Cell}
use Rattle.fit_csv.proofs.ZeroItems.{zero-items}

-- a cell that shows no items, after the label
pub no-items : (kind label ta tb tc td te tf : Cell) (code size : ℕ) (info : Option Meaning) (unit : Cell) → label ≡ ta
    → ((items : Items Global) → HasShape code size items → cell code info items ≡ tb → ⊥)
    → IsBadCell (IsValueRow kind label code size info unit) (row kind ta tb tc td te tf) 3
no-items kind label ta tb tc td te tf code size info unit same none =
    let (zero, shape) = zero-items code size in
    record {
      after_kind = omega arith;
      bad = λ other (i, fits, e) agree.
          let three : take 3 (row kind label (cell code info i) unit [] [] []) ≡ take 3 (row kind ta tb tc td te tf) =
          ap (λ (r : Row). take 3 r) (sym e) ∙ agree in
          none i fits (cc three);
      before = (row kind label (cell code info zero) unit [] [] [], (zero, shape, refl), inl (ap (λ (c : Cell). kind ∷ c ∷ []) same));
    }

pub value-closest : (kind label ta tb tc td te tf : Cell) (code size : ℕ) (info : Option Meaning) (unit : Cell) (items : Items Global) → label ≡ ta
    → cell code info items ≡ tb
    → (other : Row) → IsValueRow kind label code size info unit other
    → AsFar other (row kind label (cell code info items) unit [] [] []) (row kind ta tb tc td te tf)
value-closest kind label ta tb tc td te tf code size info unit items same shown other (i, fits, e) =
    subst (λ (o : Row). AsFar o (row kind label (cell code info items) unit [] [] []) (row kind ta tb tc td te tf)) (sym e)
    (λ ek. (refl, λ ea. (same, λ eb. (shown, λ ec. (ec, λ ed. (ed, λ ee. (ee, λ ef. (ef, tt))))))))

-- a cell that isn't the label
pub no-label : (kind label ta tb tc td te tf : Cell) (code size : ℕ) (info : Option Meaning) (unit : Cell) → (ta ≡ label → ⊥)
    → IsBadCell (IsValueRow kind label code size info unit) (row kind ta tb tc td te tf) 2
no-label kind label ta tb tc td te tf code size info unit differs =
    let (zero, shape) = zero-items code size in
    record {
      after_kind = omega arith;
      bad = λ other (i, fits, e) agree.
          let two : take 2 (row kind label (cell code info i) unit [] [] []) ≡ take 2 (row kind ta tb tc td te tf) = ap (λ (r : Row). take 2 r) (sym e) ∙ agree
          in
          differs (cc two);
      before = (row kind label (cell code info zero) unit [] [] [], (zero, shape, refl), inl refl);
    }
