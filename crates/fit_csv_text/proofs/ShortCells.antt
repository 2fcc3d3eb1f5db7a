-- Short cells in quotes that are spelled anew without them, one after another.
use Rattle.std.proofs.Common.{◌≡◌, ◌⊎◌, ℕ, ◌+◌, ◌-◌, ◌<◌, ◌≤◌, false, List, [], ◌∷◌, ◌++◌, length}
use Rattle.std.proofs.Common.{get_or, drop, take, take-append-drop, append_assoc, refl, sym, ap, ◌∙◌, subst, arith, inl, inr}
use Rattle.std.proofs.lemmas.List.{drop-drop, drop_more, get_or-take, length-drop}
use Rattle.fit_csv_text.specs.declared.loose.Spot.TheVariants.{RowStart}
use Rattle.fit_csv_text.specs.inner.Loose.{EndsCell, IsShortCell, Opens, WritesOn, is_special, spot_after, spot_from}
use Rattle.fit_csv_text.proofs.LooseTexts.{bare-goes-on, both-go-on, none-of, spot-of-last}

next-byte : (text : List ℕ) (at next b : ℕ) → at < length text → get_or text at 0 ≡ b → next ≡ at + 1 → drop at text ≡ b ∷ drop next text
next-byte text at next b within is after = drop_more text at 0 within ∙ ap (λ x. x ∷ drop (at + 1) text) is ∙ ap (λ n. b ∷ drop n text) (sym after)

pub comma-ends : (text : List ℕ) (at next : ℕ) → at < length text → get_or text at 0 ≡ 44 → next ≡ at + 1
    → EndsCell (drop at text) (drop next text) (get_or text at 0 ∷ [])
comma-ends text at next within is after = inl (next-byte text at next 44 within is after, ap (λ b. b ∷ []) is)

pub line-feed-ends : (text : List ℕ) (at next : ℕ) → at < length text → get_or text at 0 ≡ 10 → next ≡ at + 1
    → EndsCell (drop at text) (drop next text) (get_or text at 0 ∷ [])
line-feed-ends text at next within is after = inr (inl (next-byte text at next 10 within is after), ap (λ b. b ∷ []) is)

pub return-ends : (text : List ℕ) (at last next : ℕ) → last < length text → last ≡ at + 1 → get_or text at 0 ≡ 13 → get_or text last 0 ≡ 10 → next ≡ last + 1
    → EndsCell (drop at text) (drop next text) (10 ∷ [])
return-ends text at last next within second return feed after = inr (
  inr (inl (next-byte text at last 13 (omega arith) return second ∙ ap (λ (l : List ℕ). 13 ∷ l) (next-byte text last next 10 within feed after))),
  refl,
)

-- a cell whose end was seen
pub short-cell : (text : List ℕ) (shown end size n : ℕ) → 20 ≤ length text → shown ≤ 16 → 16 ≤ n → size ≤ 20 → get_or text 0 0 ≡ 34
    → ((k : ℕ) → k < shown → is_special (get_or (take n (drop 1 text)) k 0) ≡ false) → get_or text (shown + 1) 0 ≡ 34
    → EndsCell (drop (shown + 2) text) (drop size text) (end ∷ []) → IsShortCell text shown end size
short-cell text shown end size n long short enough few opens plain closes ends =
    let rest = drop 1 text in
    let left : length rest ≡ length text - 1 = length-drop 1 text in
    let first : text ≡ 34 ∷ rest = next-byte text 0 1 34 (omega arith) opens refl in
    let close : drop shown rest ≡ 34 ∷ drop (shown + 2) text =
    drop-drop shown 1 text ∙ ap (λ k. drop k text) (omega arith) ∙ next-byte text (shown + 1) (shown + 2) 34 (omega arith) closes (omega arith) in record {
      few = short;
      enough = omega arith;
      within = omega arith;
      shows = first ∙ ap (λ (l : List ℕ). 34 ∷ l) (sym (take-append-drop shown rest) ∙ ap (λ (l : List ℕ). take shown rest ++ l) close);
      plain = none-of is_special shown rest (omega (arith, left))
          (λ k low. subst (λ b. is_special b ≡ false) (get_or-take n rest k 0 (omega arith)) (plain k low));
      ends = ends;
    }

pub short-goes-on : (written text : List ℕ) (shown end size : ℕ) → IsShortCell text shown end size
    → Opens (spot_from RowStart written) (take shown (drop 1 text))
    → WritesOn text (drop size text) written (written ++ (take shown (drop 1 text) ++ (end ∷ [])))
short-goes-on written text shown end size short opens =
    let bare = take shown (drop 1 text) in
    subst (λ (t : List ℕ). WritesOn t (drop size text) written (written ++ (bare ++ (end ∷ [])))) (sym short.shows)
    (bare-goes-on written bare (drop (shown + 2) text) (drop size text) (end ∷ []) opens short.plain short.ends)

-- one more short cell after what stands on a sheet
pub more-cells : (from left next start old front bare more : List ℕ) (end : ℕ) → WritesOn from left start (old ++ front)
    → WritesOn left next (old ++ front) ((old ++ front) ++ (bare ++ (end ∷ []))) → more ≡ front ++ (bare ++ (end ∷ []))
    → (spot_after end ≡ spot_from RowStart (old ++ more)) × WritesOn from next start (old ++ more)
more-cells from left next start old front bare more end goes cell is =
    let all : (old ++ front) ++ (bare ++ (end ∷ [])) ≡ old ++ more = append_assoc old front (bare ++ (end ∷ [])) ∙ ap (λ (l : List ℕ). old ++ l) (sym is) in
    let last : (old ++ front) ++ (bare ++ (end ∷ [])) ≡ ((old ++ front) ++ bare) ++ (end ∷ []) = sym (append_assoc (old ++ front) bare (end ∷ [])) in (
      sym (ap (λ (l : List ℕ). spot_from RowStart l) (sym all ∙ last) ∙ spot-of-last RowStart ((old ++ front) ++ bare) end),
      subst (λ (l : List ℕ). WritesOn from next start l) all
          (both-go-on from left next start (old ++ front) ((old ++ front) ++ (bare ++ (end ∷ []))) goes cell),
    )

-- the byte that is written after a cell
pub end-byte : (text left : List ℕ) (end : ℕ) → EndsCell text left (end ∷ []) → (end ≡ 44) ⊎ (end ≡ 10)
end-byte text left end (inl ends) = inl (ap (λ (l : List ℕ). get_or l 0 0) ends.1)
end-byte text left end (inr ends) = inr (ap (λ (l : List ℕ). get_or l 0 0) ends.1)
