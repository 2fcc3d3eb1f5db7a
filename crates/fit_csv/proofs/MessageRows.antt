-- Rows of data messages.
use Rattle.fit_csv.proofs.Common.{◌≡◌, ◌∙◌, [], ◌∷◌, take, refl, sym, ap, subst, inl, inr, arith, IsSome, Global, decimal_injective, Record}
use Rattle.fit_csv.proofs.Common.{defined_at, DataHeaderFits, known, message_label, header_time, previous_time, end_row, optional_number, row, IsBadCell}
use Rattle.fit_csv.proofs.Common.{Misfit, instant_text, IsCellFault, IsMessageOrEnd, IsMessageRow, global_at, message_row, Row, AsFar}
use Rattle.std.proofs.Common.{ℕ, ◌<◌, List, decimal, Option}
use Rattle.std.specs.Prelude.{codes, option_map, unwrap_or}
use Rattle.fit_cells.specs.Rows.{Cell}
use Rattle.fit_csv.proofs.Closest.{of-kind}
use Rattle.fit_texts.proofs.CellFacts.{small-local}

-- the time of a header as a cell
abbrev pub time_cell : List (Record Global) → Option ℕ → Cell
time_cell before offset = unwrap_or (option_map instant_text (header_time (previous_time before) offset)) []

pub message-closest : (before : List (Record Global)) (ta tb tc td te tf : Cell) (local : ℕ) (offset : Option ℕ) → local < 16 → decimal local ≡ ta
    → ((other : Option ℕ) → DataHeaderFits local other → optional_number other ≡ tb → offset ≡ other) → (other : Row) → IsMessageRow before other
    → AsFar other (row (codes "data") (decimal local) (optional_number offset) (message_label (global_at before local)) (time_cell before offset) [] [])
    (row (codes "data") ta tb tc td te tf)
message-closest before ta tb tc td te tf local offset small shown is_b other (v, start, e) =
    subst (λ (o : Row). AsFar o (row (codes "data") (decimal local) (optional_number offset) (message_label (global_at before local)) (time_cell before offset)
    [] []) (row (codes "data") ta tb tc td te tf)) (sym e)
    (λ ek. (
      refl,
      λ ea.
          let same : v.local ≡ local = decimal_injective v.local local (let s = small-local v.local v.offset start.header in omega (arith, s))
          (omega (arith, small)) (ea ∙ sym shown) in (
            shown,
            λ eb.
                let same_offset : offset ≡ v.offset = is_b v.offset (subst (λ l. DataHeaderFits l v.offset) same start.header) eb in (
                  ap optional_number same_offset ∙ eb,
                  λ ec. (
                    ap (λ l. message_label (global_at before l)) (sym same) ∙ ec,
                    λ ed.
                        (ap (λ o. time_cell before o) same_offset ∙ ed, λ ee. (ee, λ ef. (ef, tt))),
                  ),
                ),
          ),
    ))

-- rows of data messages are none in which a file ends
pub message-or-end : (before : List (Record Global)) (row : Row) (misfit : Misfit) → take 1 row ≡ codes "data" ∷ []
    → IsCellFault (IsMessageRow before) row misfit → IsCellFault (IsMessageOrEnd before) row misfit
message-or-end before row misfit kind =
    of-kind (IsMessageRow before) (IsMessageOrEnd before) row misfit (λ other stands. inl stands) (λ other stands e. elim stands [
      | inl message ↦ message
      | inr end ↦ let words : take 1 end_row ≡ codes "data" ∷ [] = ap (λ (r : Row). take 1 r) (sym end) ∙ e ∙ kind in cc words
    ])

-- a cell that shows no local message type that is defined
pub no-message : (before : List (Record Global)) (ta tb tc td te tf : Cell) → ((n : ℕ) → n < 16 → decimal n ≡ ta → IsSome (defined_at (known before) n) → ⊥)
    → IsBadCell (IsMessageOrEnd before) (row (codes "data") ta tb tc td te tf) 2
no-message before ta tb tc td te tf none = record {
  after_kind = omega arith;
  bad = λ other stands agree. elim stands [
    | inl message ↦
        let v = message.0 in
        let two : take 2 (message_row before v) ≡ take 2 (row (codes "data") ta tb tc td te tf) = ap (λ (r : Row). take 2 r) (sym message.2) ∙ agree in
        none v.local (small-local v.local v.offset message.1.header) (cc two) message.1.defined
    | inr end ↦ let words : take 2 end_row ≡ take 2 (row (codes "data") ta tb tc td te tf) = ap (λ (r : Row). take 2 r) (sym end) ∙ agree in cc words
  ];
  before = (end_row, inr refl, inr (refl, inr (refl, refl)));
}
